-- Names by their spellings. Assumes nothing.
use Rattle.std.specs.Prelude.{ℕ, Bool, true, false, List, bytes_eq, Option}
use Rattle.std.specs.List.{position_from}
use Rattle.entailment.specs.Terms.{Term, iri, literal, blank}

-- the term is a name spelled so
abbrev pub is_spelled : List ℕ → Term → Bool
is_spelled bs (iri cs) = bytes_eq cs bs
is_spelled bs (literal cs) = bytes_eq cs bs
is_spelled bs blank = false

-- the number of the name that is spelled so
abbrev pub number_of : List ℕ → List Term → Option ℕ
number_of bs ts = position_from (is_spelled bs) 0 ts

abbrev pub is_iri : Term → Bool
is_iri (iri bs) = true
is_iri (literal bs) = false
is_iri blank = false

abbrev pub is_literal : Term → Bool
is_literal (iri bs) = false
is_literal (literal bs) = true
is_literal blank = false
