-- What a search for a triple finds among the records.
use Rattle.std.proofs.Common.{◌≡◌, ◌≢◌, ℕ, zero, suc, ◌<◌, ◌≤◌, false, is_some, List, [], ◌∷◌, length, take, Some, None, Option, sym, refl, ap, ◌∙◌, arith}
use Rattle.std.proofs.lemmas.List.{take_all}
use Rattle.std.specs.List.{AllWithin, HoldsAt}
use Rattle.std.specs.Option.{MatchOption}
use Rattle.triples.specs.declared.triple.Triple.{Triple}
use Rattle.triples.specs.Codes.{triple_of}
use Rattle.triples.specs.Sets.{among}
use Rattle.triples.proofs.Graphs.{adding_off}
use Rattle.list_store.specs.Records.{Finds}
use Rattle.list_store.proofs.Among.{among-at}

-- none of the first n records is the triple
among_out : (ts : List Triple) (t : Triple) (n : ℕ) → n ≤ length ts → AllWithin (λ u. u ≢ t) ts 0 n → among (take n ts) t ≡ false
among_out ts t zero l h = refl
among_out [] t (suc n) l h = absurd (omega arith)
among_out (x ∷ xs) t (suc n) l h =
    adding_off (among (take n xs)) x t (λ e. h 0 x (omega arith) (omega arith) (sym e))
    ∙ among_out xs t n (omega arith) (λ k d a b. h (suc k) d (omega arith) (omega arith))

pub finds : (ts : List Triple) (t : Triple) (r : Option ℕ) → MatchOption r (AllWithin (λ u. u ≢ t) ts 0 (length ts)) (λ i. (i < length ts) × HoldsAt (λ u. u ≡ t) ts i × AllWithin (λ u. u ≢ t) ts 0 i) → Finds ts t r
finds ts t None h = ap (λ us. among us t) (sym (take_all (length ts) ts (omega arith))) ∙ among_out ts t (length ts) (omega arith) h
finds ts t (Some i) h = (h.0, h.1, among_out ts t i (omega arith) h.2)

pub finds_some : (ts : List Triple) (t : Triple) (r : Option ℕ) → Finds ts t r → is_some r ≡ among ts t
finds_some ts t None h = sym h
finds_some ts t (Some i) h = sym (ap (among ts) (sym (h.1 (triple_of 0))) ∙ among-at ts i (triple_of 0) h.0)
