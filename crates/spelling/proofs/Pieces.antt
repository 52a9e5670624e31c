-- One byte of a lexical form after another. Assumes nothing.
use Rattle.std.proofs.Common.{◌≡◌, ℕ, ◌-◌, ◌≤◌, ◌<◌, List, [], ◌∷◌, ◌++◌, length, get_or, take, drop, sym, refl, ap, ◌∙◌, subst, arith}
use Rattle.std.proofs.lemmas.List.{drop_more, take_rest}
use Rattle.std.proofs.lemmas.Slice.{first_rest}
use Rattle.grammar.specs.Productions.{string_char}
use Rattle.spelling.specs.Names.{Escape}
use Rattle.spelling.specs.Writing.{Splits, as_is, as_escape}
use Rattle.spelling.proofs.Delimited.{apart, differ}
use Rattle.spelling.proofs.Meanings.{escape-same}
use Rattle.spelling.proofs.Bodies.{Body, ended, char, coded}

-- the first two bytes of a text, and what follows them as a slice pattern has it
escape_front : (t : List ℕ) → 2 ≤ length t → t ≡ get_or t 0 0 ∷ get_or t 1 0 ∷ take (length t - 2) (drop 2 t)
escape_front t h =
    drop_more t 0 0 (omega arith) ∙ ap (λ s. get_or t 0 0 ∷ s) (drop_more t 1 0 (omega arith) ∙ ap (λ s. get_or t 1 0 ∷ s) (sym (take_rest t 2)))

pub plain_first : (t : List ℕ) → 0 < length t → (get_or t 0 0 ≡ 92 → ⊥) → (get_or t 0 0 ≡ 34 → ⊥) → Splits t (get_or t 0 0) (take (length t - 1) (drop 1 t)) × ((w : List ℕ) → t ≡ 34 ∷ w → ⊥)
plain_first t h n q =
    let e = first_rest t 0 h in
    (subst (λ s. Splits s (get_or t 0 0) (take (length t - 1) (drop 1 t))) (sym e) (as_is n), λ w k. q cc)

pub escape_first : (t : List ℕ) (c : ℕ) → 2 ≤ length t → get_or t 0 0 ≡ 92 → Escape (get_or t 1 0) c → Splits t c (take (length t - 2) (drop 2 t)) × ((w : List ℕ) → t ≡ 34 ∷ w → ⊥)
escape_first t c h q x =
    let e = escape_front t h ∙ ap (λ b. b ∷ get_or t 1 0 ∷ take (length t - 2) (drop 2 t)) q in
    (subst (λ s. Splits s c (take (length t - 2) (drop 2 t))) (sym e) (as_escape x), λ w k. differ 92 34 _ _ refl (sym e ∙ k))

-- a body, a quote and r stand in w, where no byte of a lexical form begins w: the body is empty
pub body-end : (w r u v : List ℕ) → ((c : ℕ) (s : List ℕ) → Splits w c s → w ≡ 34 ∷ s) → w ≡ u ++ 34 ∷ r → Body u v → (u ≡ []) × (v ≡ [])
body-end w r u v n e ended = (refl, refl)
body-end w r u v n e (char {c} {u = u₁} h b) =
    let q = n c (u₁ ++ 34 ∷ r) (rw e (as_is (apart string_char c 92 h refl))) in
    let k : c ≡ 34 = cc in
    absurd (apart string_char c 34 h refl k)
body-end w r u v n e (coded {l} {c} {u = u₁} x b) =
    let q = n c (u₁ ++ 34 ∷ r) (rw e (as_escape x)) in
    absurd (differ 92 34 _ _ refl (sym e ∙ q))

-- after c, the first byte of the lexical form v, the body goes on with t, up to a quote and r
pub record Next (t r v : List ℕ) (c : ℕ) : Type 0 where
  pub raw : List ℕ
  pub lexical : List ℕ
  pub first : v ≡ c ∷ lexical
  pub split : t ≡ raw ++ 34 ∷ r
  pub body : Body raw lexical

pub body-step : (w r t u v : List ℕ) (c : ℕ) → ((s : List ℕ) → w ≡ 34 ∷ s → ⊥) → w ≡ u ++ 34 ∷ r → Splits w c t → Body u v → Next t r v c
body-step w r t u v c n e s ended = absurd (n r e)
body-step w r t u v c n e (as_is m) (char {c = d} {u = u₁} {v = v₁} h b) = record { raw = u₁; lexical = v₁; first = cc; split = cc; body = b }
body-step w r t u v c n e (as_is m) (coded x b) = absurd (m cc)
body-step w r t u v c n e (as_escape x) (char {c = d} h b) = absurd (apart string_char d 92 h refl cc)
body-step w r t u v c n e (as_escape {l} x) (coded {l = m} {c = d} {u = u₁} {v = v₁} y b) =
    let letter : m ≡ l = cc in
    let same = escape-same l c d x (rw letter at y) in
    record { raw = u₁; lexical = v₁; first = cc; split = cc; body = b }
