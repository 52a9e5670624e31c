-- A document's label has one blank, which is new.
use Rattle.std.proofs.Common.{◌≡◌, ℕ, ◌+◌, ◌<◌, ◌≤◌, List, [], ◌∷◌, ◌++◌, length, refl, Bool, true, false, cond, arith, Some, Option}
use Rattle.std.proofs.lemmas.List.{length-append}
use Rattle.std.proofs.lemmas.Option.{none-some}
use Rattle.std.specs.Prelude.{bytes_eq}
use Rattle.std.specs.List.{AllByRecursion}
use Rattle.entailment.specs.Terms.{blank}
use Rattle.ledger.specs.Ledger.{Ledger, terms, with_term}
use Rattle.ledger.specs.Loads.{Known, Progress, find_label}
use Rattle.ledger.specs.Laws.{OneBlank, NewBlanks}
use Rattle.ledger.proofs.Extending.{Extends, longer, counted}
use Rattle.ledger.proofs.Documents.{labelled, after_lines}

either_way : (b : Bool) (x y z n : Option ℕ) → (y ≡ n → z ≡ n) → cond b x y ≡ n → cond b x z ≡ n
either_way true x y z n f h = h
either_way false x y z n f h = f h

-- a label that has a blank has the same one when more are noted
still_found : (bs : List ℕ) (n : ℕ) (ks more : List Known) → find_label bs ks ≡ Some n → find_label bs (ks ++ more) ≡ Some n
still_found bs n [] more e = absurd (none-some n e)
still_found bs n (k ∷ ks) more e = either_way (bytes_eq k.label bs) (Some k.number) (find_label bs ks) (find_label bs (ks ++ more)) (Some n) (still_found bs n ks more) e

pub one_blank : OneBlank
one_blank side room n k at bs xs s e =
    let found = after_lines (λ t. find_label bs t.labels ≡ Some k) (λ t l p g. p) (λ t cs p. still_found bs k t.labels _ p) side room n xs s e in
    rw found refl

-- every number noted is at least n, and that of a term
abbrev AreNew : ℕ → Progress → Type 0
AreNew n s = (n ≤ length (terms s.ledger)) × AllByRecursion (λ k. (n ≤ k.number) × (k.number < length (terms s.ledger))) s.labels

wider : (n m m' : ℕ) (ks : List Known) → m ≤ m' → AllByRecursion (λ k. (n ≤ k.number) × (k.number < m)) ks → AllByRecursion (λ k. (n ≤ k.number) × (k.number < m')) ks
wider n m m' [] h a = tt
wider n m m' (k ∷ ks) h (a, as') = ((a.0, omega (arith, a.1, h)), wider n m m' ks h as')

one_further : (P : Known → Type 0) (ks : List Known) (k : Known) → AllByRecursion P ks → P k → AllByRecursion P (ks ++ k ∷ [])
one_further P [] k a p = (p, tt)
one_further P (j ∷ ks) k (a, as') p = (a, one_further P ks k as' p)

more_terms : (l l' : Ledger) → Extends l l' → length (terms l) ≤ length (terms l')
more_terms l l' e = omega (arith, counted l.more, counted l'.more, longer l.more l'.more e.grows.more)

new_kept : (n : ℕ) (s : Progress) (l : Ledger) → AreNew n s → Extends s.ledger l → AreNew n (record { ledger = l; labels = s.labels })
new_kept n s l (h, a) e =
    let wide = more_terms s.ledger l e in
    (omega (arith, h, wide), wider n _ _ s.labels wide a)

new_noted : (n : ℕ) (s : Progress) (bs : List ℕ) → AreNew n s → AreNew n (labelled bs s)
new_noted n s bs (h, a) =
    let now : length (terms (with_term blank s.ledger)) ≡ length (terms s.ledger) + 1 = omega (arith, counted s.ledger.more, counted (s.ledger.more ++ blank ∷ []), length-append s.ledger.more (blank ∷ [])) in
    (omega (arith, h, now), one_further _ s.labels _ (wider n _ _ s.labels (omega (arith, now)) a) (h, omega (arith, now)))

pub new_blanks : NewBlanks
new_blanks side room n xs l =
    let start : Progress = record { ledger = l; labels = [] } in
    (after_lines (AreNew (length (terms l))) (new_kept (length (terms l))) (new_noted (length (terms l))) side room n xs start (omega arith, tt)).1
