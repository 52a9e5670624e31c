-- Spans that lie one after another: where they lie, how many bytes they take, and what they spell.
use Rattle.std.proofs.Common.{◌≡◌, ℕ, zero, suc, ◌+◌, ◌<◌, ◌≤◌, eqb, List, [], ◌∷◌, ◌++◌, length, get_or, take, drop, refl, sym, ap, ◌∙◌, arith}
use Rattle.std.proofs.lemmas.List.{take-take}
use Rattle.std.proofs.lemmas.List.Edits.{length-between}
use Rattle.std.proofs.lemmas.List.Sums.{sum_by-cons}
use Rattle.std.proofs.lemmas.Slice.{between_is}
use Rattle.std.proofs.lemmas.Bool.{cond_both}
use Rattle.entailment.specs.Terms.{iri, literal}
use Rattle.names.specs.declared.span.Span.{Span}
use Rattle.names.specs.Terms.{term_spelled, bytes_of, spelled_bytes}
use Rattle.names.specs.Spans.{spelling_in, terms_in, Lie}

Lie-forward : (a b : ℕ) (spans : List Span) → Lie a spans b → a ≤ b
Lie-forward a b [] e = omega (arith, e)
Lie-forward a b (s ∷ spans) h = omega (arith, h.1, Lie-forward s.end b spans h.2)

-- a span of the list
pub record IsInside (s : Span) (b : ℕ) : Type 0 where
  pub forward : s.start ≤ s.end
  pub within : s.end ≤ b

pub Lie-at : (a b : ℕ) (spans : List Span) → Lie a spans b → (k : ℕ) (d : Span) → k < length spans → IsInside (get_or spans k d) b
Lie-at a b [] h k d l = absurd (omega arith)
Lie-at a b (s ∷ spans) h zero d l = record { forward = omega (arith, h.0, h.1); within = Lie-forward s.end b spans h.2 }
Lie-at a b (s ∷ spans) h (suc k) d l = Lie-at s.end b spans h.2 k d (omega arith)

pub Lie-push : (a b : ℕ) (spans : List Span) (s : Span) → Lie a spans b → s.start ≡ b → b ≤ s.end → Lie a (spans ++ s ∷ []) s.end
Lie-push a b [] s e f l = (f ∙ sym e, omega (arith, e), refl)
Lie-push a b (u ∷ spans) s h f l = (h.0, h.1, Lie-push u.end b spans s h.2 f l)

-- the first spans lie up to where the next begins
pub Lie-take : (a b : ℕ) (spans : List Span) → Lie a spans b → (n : ℕ) (d : Span) → n < length spans → Lie a (take n spans) (get_or spans n d).start
Lie-take a b [] h n d l = absurd (omega arith)
Lie-take a b (s ∷ spans) h zero d l = sym h.0
Lie-take a b (s ∷ spans) h (suc n) d l = (h.0, h.1, Lie-take s.end b spans h.2 n d (omega arith))

pub bytes_of-term_spelled : (b : List ℕ) → bytes_of (term_spelled b) ≡ length b
bytes_of-term_spelled [] = refl
bytes_of-term_spelled (c ∷ b) = cond_both (eqb c 60) (iri (c ∷ b)) (literal (c ∷ b)) (λ t. bytes_of t ≡ suc (length b)) (λ _. refl) (λ _. refl)

-- the spans are as long as the spellings
pub Lie-bytes : (bytes : List ℕ) (a b : ℕ) (spans : List Span) → Lie a spans b → b ≤ length bytes → a + spelled_bytes (terms_in bytes spans) ≡ b
unfolding terms_in
Lie-bytes bytes a b [] h w = omega (arith, h)
Lie-bytes bytes a b (s ∷ spans) h w =
    let low = Lie-forward s.end b spans h.2 in
    omega (arith, h.0, h.1, Lie-bytes bytes s.end b spans h.2 w, sum_by-cons bytes_of (term_spelled (spelling_in bytes s)) (terms_in bytes spans), bytes_of-term_spelled (spelling_in bytes s), length-between bytes s.start s.end (omega arith))

spelling_in-same : (xs ys : List ℕ) (b : ℕ) (s : Span) → s.end ≤ b → take b xs ≡ take b ys → spelling_in xs s ≡ spelling_in ys s
spelling_in-same xs ys b s l e =
    between_is xs s.start s.end ∙ ap (drop s.start) (sym (take-take s.end b xs l) ∙ ap (take s.end) e ∙ take-take s.end b ys l) ∙ sym (between_is ys s.start s.end)

-- what lies before b is all that they read
pub terms_in-same : (xs ys : List ℕ) (a b : ℕ) (spans : List Span) → Lie a spans b → take b xs ≡ take b ys → terms_in xs spans ≡ terms_in ys spans
unfolding terms_in
terms_in-same xs ys a b [] h e = refl
terms_in-same xs ys a b (s ∷ spans) h e =
    rw (spelling_in-same xs ys b s (Lie-forward s.end b spans h.2) e, terms_in-same xs ys s.end b spans h.2 e)
