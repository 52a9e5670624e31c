-- The number of a spelling is the one place where its name stands.
use Rattle.std.proofs.Common.{◌≡◌, ℕ, zero, suc, ◌+◌, ◌<◌, List, [], ◌∷◌, refl, ap, ◌∙◌, true, false, arith, Some, None}
use Rattle.std.proofs.lemmas.Bool.{false≢true, cond-true, cond-false, false_from_ne_true}
use Rattle.std.proofs.lemmas.Slice.Eq.{bytes_eq-Decides}
use Rattle.std.specs.List.{position_from}
use Rattle.entailment.specs.Terms.{Term, iri, literal, blank}
use Rattle.names.specs.Terms.{HasSpelling, IsNumberOf, IsUnknown, HasNoNameTwice}
use Rattle.ledger.specs.Spelled.{is_spelled, number_of}

pub spelled_in : (bs : List ℕ) (t : Term) → HasSpelling bs t → is_spelled bs t ≡ true
spelled_in bs (iri cs) h = (bytes_eq-Decides cs bs).1 h
spelled_in bs (literal cs) h = (bytes_eq-Decides cs bs).1 h
spelled_in bs blank h = absurd h

pub spelled_out : (bs : List ℕ) (t : Term) → is_spelled bs t ≡ true → HasSpelling bs t
spelled_out bs (iri cs) h = (bytes_eq-Decides cs bs).0 h
spelled_out bs (literal cs) h = (bytes_eq-Decides cs bs).0 h
spelled_out bs blank h = absurd (false≢true h)

pub unspelled : (bs : List ℕ) (t : Term) → ¬ HasSpelling bs t → is_spelled bs t ≡ false
unspelled bs t h = false_from_ne_true (is_spelled bs t) (λ e. h (spelled_out bs t e))

none_from : (bs : List ℕ) (i : ℕ) (ts : List Term) → IsUnknown bs ts → position_from (is_spelled bs) i ts ≡ None
none_from bs i [] h = refl
none_from bs i (t ∷ ts) h = cond-false (is_spelled bs t) _ _ (unspelled bs t (h 0)) ∙ none_from bs (i + 1) ts (λ n. h (suc n))

pub none : (bs : List ℕ) (ts : List Term) → IsUnknown bs ts → number_of bs ts ≡ None
none bs ts h = none_from bs 0 ts h

-- the first place is found
first_from : (bs : List ℕ) (i n : ℕ) (ts : List Term) → IsNumberOf bs ts n → ((m : ℕ) → m < n → ¬ IsNumberOf bs ts m) → position_from (is_spelled bs) i ts ≡ Some (i + n)
first_from bs i n [] h none_before = absurd h
first_from bs i zero (t ∷ ts) h none_before = cond-true (is_spelled bs t) _ _ (spelled_in bs t h) ∙ ap Some (omega arith)
first_from bs i (suc n) (t ∷ ts) h none_before =
    cond-false (is_spelled bs t) _ _ (unspelled bs t (none_before 0 (omega arith)))
    ∙ first_from bs (i + 1) n ts h (λ m l. none_before (suc m) (omega (arith, l)))
    ∙ ap Some (omega arith)

pub found : (bs : List ℕ) (n : ℕ) (ts : List Term) → HasNoNameTwice ts → IsNumberOf bs ts n → number_of bs ts ≡ Some n
found bs n ts once h = first_from bs 0 n ts h (λ m l k. omega (arith, l, once bs m n k h)) ∙ ap Some (omega arith)
