-- An inner device: the kept triples and the start set, where all that is known of the terms is their kinds. No public contract
-- ends on it. Assumes nothing.
use Rattle.std.specs.Prelude.{◌≡◌, ℕ, ◌<◌, Bool, true, false, List, ◌++◌, length, map}
use Rattle.std.proofs.Common.{get_or}
use Rattle.triples.specs.declared.triple.Triple.{Triple}
use Rattle.triples.specs.Sets.{Graph}
use Rattle.entailment.specs.declared.regime.Regime.{Regime}
use Rattle.entailment.specs.declared.regime.Regime.TheVariants.{Simple, Rdf, Rdfs}
use Rattle.entailment.specs.Vocabulary.{#type, #Property, #Resource, #CMP, #domain, #range}
use Rattle.entailment.specs.Terms.{thirty}
use Rattle.entailment.specs.Rows.{triple}
use Rattle.entailment.specs.Starts.{rdf_fixed, rdfs_fixed}
use Rattle.closing.specs.declared.kinds.TermKind.{TermKind}
use Rattle.closing.specs.declared.kinds.TermKind.TheVariants.{Name, Position, Blank}
use Rattle.closing.specs.declared.starts.Which.{Which}
use Rattle.closing.specs.declared.starts.Which.TheVariants.{Names, Positions}
use Rattle.closing.specs.Kinds.{kind}
use Rattle.closing.specs.Passes.{HoldsAll, RowsClosed}

-- the kinds of a book's terms, where those of the terms after the thirty are ks
unfoldable pub all_kinds : List TermKind → List TermKind
all_kinds ks = map kind thirty ++ ks

-- whether a part of a start set speaks of terms of a kind
abbrev pub picks : Which → TermKind → Bool
picks Names Name = true
picks Names Position = true
picks Names Blank = false
picks Positions Name = false
picks Positions Position = true
picks Positions Blank = false

-- the set has each such term with one predicate and one object
abbrev pub HoldsEach : Which → ℕ → ℕ → List TermKind → Graph → Type 0
HoldsEach w p o ks f = (n : ℕ) → n < length (all_kinds ks) → picks w (get_or (all_kinds ks) n Blank) ≡ true → f (triple n p o) ≡ true

abbrev pub HoldsRdf : List TermKind → Graph → Type 0
HoldsRdf ks f = HoldsAll rdf_fixed f × HoldsEach Positions #type #Property ks f

abbrev pub HoldsRdfs : List TermKind → Graph → Type 0
HoldsRdfs ks f =
    HoldsAll rdfs_fixed f
    × HoldsEach Names #type #Resource ks f
    × HoldsEach Positions #type #CMP ks f
    × HoldsEach Positions #domain #Resource ks f
    × HoldsEach Positions #range #Resource ks f

-- the set has the start set of a regime
abbrev pub HoldsStart : Regime → List TermKind → Graph → Type 0
HoldsStart Simple ks f = Unit {0}
HoldsStart Rdf ks f = HoldsRdf ks f
HoldsStart Rdfs ks f = HoldsRdf ks f × HoldsRdfs ks f

-- and the kept triples
abbrev pub HoldsSeed : Regime → List TermKind → List Triple → Graph → Type 0
HoldsSeed r ks kept f = HoldsAll kept f × HoldsStart r ks f

-- and is closed under the regime's rows
abbrev pub HoldsClosed : Regime → List TermKind → List Triple → Graph → Type 0
HoldsClosed r ks kept f = HoldsSeed r ks kept f × RowsClosed r f
