-- What the start sets ask of a term. Assumes nothing.
use Rattle.std.specs.Prelude.{Bool, cond}
use Rattle.entailment.specs.Terms.{Term, named, position}
use Rattle.closing.specs.declared.kinds.TermKind.{TermKind}
use Rattle.closing.specs.declared.kinds.TermKind.TheVariants.{Name, Position, Blank}

abbrev pub kind_by : Bool → Bool → TermKind
kind_by p n = cond p Position (cond n Name Blank)

-- a container position, else a name, else a blank
abbrev pub kind : Term → TermKind
kind t = kind_by (position t) (named t)
