-- What stands between the quotes of a literal, piece by piece, with its lexical form. Assumes nothing.
use Rattle.std.proofs.Common.{◌≡◌, ℕ, true, List, [], ◌∷◌, ◌++◌, sym, refl, ap, ◌∙◌, subst, inl, inr, arith}
use Rattle.std.proofs.lemmas.Bool.Decides.{nat_tests}
use Rattle.grammar.specs.Regular.{inside, Expr, one, ◌or◌, Star, stop, more, Spells}
use Rattle.grammar.specs.Productions.{part, string_char, escape_letter, ECHAR, UCHAR}
use Rattle.spelling.specs.Names.{Escape, tab, backspace, newline, return, feed, quote, apostrophe, backslash, Means, none, plain, escape, escaped_byte, escaped}
use Rattle.spelling.proofs.Delimited.{first_byte, apart, differ}
use Rattle.spelling.proofs.Meanings.{escape-same, escape_in, escape_of, one-meaning}

abbrev pub string-piece : Expr
string-piece = one string_char or ECHAR or UCHAR part

pub data Body : List ℕ → List ℕ → Type 0 where
  ended : Body [] []
  char : {c : ℕ} {u v : List ℕ} → inside string_char c ≡ true → Body u v → Body (c ∷ u) (c ∷ v)
  coded : {l c : ℕ} {u v : List ℕ} → Escape l c → Body u v → Body (92 ∷ l ∷ u) (c ∷ v)

pub body_of : (u : List ℕ) → Star (Spells string-piece) u → (v : List ℕ) × Body u v
body_of u stop = ([], ended)
body_of u (more s t q (inl (c, e, h)) k) =
    let (v, b) = body_of t k in
    (c ∷ v, rw (q, e) (char h b))
body_of u (more s t q (inr (inl h)) k) =
    let (v, b) = body_of t k in
    let (r, e, (l, f, g)) = first_byte 92 (one escape_letter) s h in
    let (c, x) = escape_of l g in
    (c ∷ v, subst (λ w. Body w (c ∷ v)) (sym (q ∙ ap (λ w. w ++ t) (e ∙ ap (λ w. 92 ∷ w) f))) (coded x b))
body_of u (more s t q (inr (inr h)) k) = absurd h

pub body_pieces : (u v : List ℕ) → Body u v → Star (Spells string-piece) u
body_pieces u v ended = stop
body_pieces u v (char {c} {u = u₁} {v = v₁} h b) = more (c ∷ []) u₁ refl (inl (c, refl, h)) (body_pieces u₁ v₁ b)
body_pieces u v (coded {l} {c} {u = u₁} {v = v₁} x b) =
    more (92 ∷ l ∷ []) u₁ refl (inr (inl (92 ∷ [], l ∷ [], refl, (92, refl, refl), (l, refl, escape_in l c x)))) (body_pieces u₁ v₁ b)

pub body_means : (u v : List ℕ) → Body u v → Means u v
body_means u v ended = none
body_means u v (char {c} {u = u₁} {v = v₁} h b) = plain (apart string_char c 92 h refl) (body_means u₁ v₁ b)
body_means u v (coded {u = u₁} {v = v₁} x b) = escape x (body_means u₁ v₁ b)

-- the pieces of the grammar with a meaning
pub body-from : (u v : List ℕ) → Star (Spells string-piece) u → Means u v → Body u v
body-from u v h m = let (w, b) = body_of u h in rw (one-meaning u w v (body_means u w b) m) at b

escaped-char : (c : ℕ) → inside string_char c ≡ true → escaped_byte c ≡ c ∷ []
escaped-char c h =
    let lf = apart string_char c 10 h refl in
    let cr = apart string_char c 13 h refl in
    let quote = apart string_char c 34 h refl in
    let backslash = apart string_char c 92 h refl in
    grind (arith, nat_tests)

escaped_code : (l c : ℕ) (u v : List ℕ) → Escape l c → Body u v → Body (escaped_byte c ++ u) (c ∷ v)
escaped_code l c u v tab b = char refl b
escaped_code l c u v backspace b = char refl b
escaped_code l c u v newline b = coded newline b
escaped_code l c u v return b = coded return b
escaped_code l c u v feed b = char refl b
escaped_code l c u v quote b = coded quote b
escaped_code l c u v apostrophe b = char refl b
escaped_code l c u v backslash b = coded backslash b

-- the canonical form of a body's meaning is a body with that meaning
pub body-again : (u v : List ℕ) → Body u v → Body (escaped v) v
body-again u v ended = ended
body-again u v (char {c} {u = u₁} {v = v₁} h b) =
    rw (escaped-char c h) (char h (body-again u₁ v₁ b))
body-again u v (coded {l} {c} {u = u₁} {v = v₁} x b) = escaped_code l c (escaped v₁) v₁ x (body-again u₁ v₁ b)

-- the first quote that is no part of an escape ends a body
pub body-one : (u v r u' v' r' : List ℕ) → Body u v → Body u' v' → u ++ 34 ∷ r ≡ u' ++ 34 ∷ r' → (v ≡ v') × (r ≡ r')
body-one u v r u' v' r' ended ended e = (refl, cc)
body-one u v r u' v' r' ended (char {c} h b) e = absurd (apart string_char c 34 h refl cc)
body-one u v r u' v' r' ended (coded x b) e = absurd (differ 34 92 _ _ refl e)
body-one u v r u' v' r' (char {c} h b) ended e = absurd (apart string_char c 34 h refl cc)
body-one u v r u' v' r' (char {c} {u = u₁} {v = v₁} h b) (char {c = d} {u = u₂} {v = v₂} k b') e =
    let head : c ≡ d = cc in
    let (tail, rest) = body-one u₁ v₁ r u₂ v₂ r' b b' cc in
    (cc, rest)
body-one u v r u' v' r' (char {c} h b) (coded x b') e = absurd (apart string_char c 92 h refl cc)
body-one u v r u' v' r' (coded x b) ended e = absurd (differ 92 34 _ _ refl e)
body-one u v r u' v' r' (coded x b) (char {c} h b') e = absurd (apart string_char c 92 h refl cc)
body-one u v r u' v' r' (coded {l} {c} {u = u₁} {v = v₁} x b) (coded {l = m} {c = d} {u = u₂} {v = v₂} y b') e =
    let letter : m ≡ l = cc in
    let head = escape-same l c d x (rw letter at y) in
    let (tail, rest) = body-one u₁ v₁ r u₂ v₂ r' b b' cc in
    (cc, rest)
