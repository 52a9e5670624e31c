-- One answer at most: what a search finds, and what interning answers and leaves.
use Rattle.std.proofs.Common.{◌≡◌, ℕ, List, Option, Some, None, Result, Ok, Err, refl, sym, ap, ◌∙◌, subst, inl, inr, ⊎_elim}
use Rattle.std.specs.Option.{IfSome}
use Rattle.grammar.specs.Readings.{an_iri, a_literal}
use Rattle.spelling.specs.Names.{LawfulAs, Lawful}
use Rattle.entailment.specs.Terms.{Term, iri, literal, blank}
use Rattle.names.specs.declared.refusal.Refusal.{Refusal}
use Rattle.names.specs.declared.refusal.Refusal.TheVariants.{NotLawful, Terms, Bytes}
use Rattle.names.specs.Terms.{HasSpelling, IsLawful, all_terms, IsNumberOf, IsTable}
use Rattle.names.specs.Calls.{Finds, Refuses, Interns}
use Rattle.std.proofs.lemmas.List.Elements.{All-get_or}
use Rattle.names.proofs.Numbers.{IsNumberOf-within}

-- a name with a lawful spelling
spelled_lawful : (b : List ℕ) (t : Term) → HasSpelling b t → IsLawful t → Lawful b
spelled_lawful b (iri c) e h = inl (subst (LawfulAs an_iri) e h)
spelled_lawful b (literal c) e h = inr (subst (LawfulAs a_literal) e h)
spelled_lawful b blank e h = absurd e

module _ (b : List ℕ) (more : List Term) (table : IsTable more) where
  known_lawful : (n : ℕ) → IsNumberOf b (all_terms more) n → Lawful b
  known_lawful n h = spelled_lawful b _ h (All-get_or IsLawful (all_terms more) n blank (IsNumberOf-within b (all_terms more) n h) table.lawful)

  pub found_lawful : (r : Option ℕ) → Finds b more r → IfSome r (λ _. Lawful b)
  found_lawful (Some n) h = known_lawful n h
  found_lawful None h = tt

  pub found_once : (r s : Option ℕ) → Finds b more r → Finds b more s → r ≡ s
  found_once (Some m) (Some n) h k = ap Some (table.distinct b m n h k)
  found_once (Some m) None h k = absurd (k m h)
  found_once None (Some n) h k = absurd (h n k)
  found_once None None h k = refl

  refused_once : (limit : ℕ) (d e : Refusal) → Refuses b limit more d → Refuses b limit more e → d ≡ e
  refused_once limit NotLawful NotLawful h k = refl
  refused_once limit NotLawful Terms h k = absurd (h k.0)
  refused_once limit NotLawful Bytes h k = absurd (h k.0)
  refused_once limit Terms NotLawful h k = absurd (k h.0)
  refused_once limit Terms Terms h k = refl
  refused_once limit Terms Bytes h k = absurd (k.2 h.2)
  refused_once limit Bytes NotLawful h k = absurd (k h.0)
  refused_once limit Bytes Terms h k = absurd (h.2 k.2)
  refused_once limit Bytes Bytes h k = refl

  served_or_refused : (limit n : ℕ) (new : List Term) (e : Refusal) → Interns b limit more new (Ok n) → Refuses b limit more e → ⊥
  served_or_refused limit n new NotLawful h k = ⊎_elim (λ p. k p.lawful) (λ p. k p.lawful) h
  served_or_refused limit n new Terms h k = ⊎_elim (λ p. k.1 n p.found) (λ p. p.room k.2) h
  served_or_refused limit n new Bytes h k = ⊎_elim (λ p. k.1 n p.found) (λ p. p.fits k.3) h

  pub interned_once : (limit : ℕ) (r s : Result ℕ Refusal) (xs ys : List Term) → Interns b limit more xs r → Interns b limit more ys s → (r ≡ s) × (xs ≡ ys)
  interned_once limit (Ok m) (Ok n) xs ys h k =
      ⊎_elim
      (λ p. ⊎_elim (λ q. (ap Ok (table.distinct b m n p.found q.found), p.same ∙ sym q.same)) (λ q. absurd (q.unknown m p.found)) k)
      (λ p. ⊎_elim (λ q. absurd (p.unknown n q.found)) (λ q. (ap Ok (p.appends.number ∙ sym q.appends.number), p.appends.last ∙ sym q.appends.last)) k)
      h
  interned_once limit (Ok m) (Err e) xs ys h k = absurd (served_or_refused limit m xs e h k.0)
  interned_once limit (Err d) (Ok n) xs ys h k = absurd (served_or_refused limit n ys d k h.0)
  interned_once limit (Err d) (Err e) xs ys h k = (ap Err (refused_once limit d e h.0 k.0), h.1 ∙ sym k.1)
