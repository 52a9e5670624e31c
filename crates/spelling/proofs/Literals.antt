-- A literal as a quote, a body, a quote and what follows. Assumes nothing.
use Rattle.std.proofs.Common.{◌≡◌, ℕ, List, [], ◌∷◌, ◌++◌, sym, refl, ap, ◌∙◌, subst, inl, inr, append_assoc, append-nil}
use Rattle.grammar.specs.Regular.{one, ◌then◌, ◌or◌, many, Spells}
use Rattle.grammar.specs.Productions.{part, byte, letter, alnum, iri_char, UCHAR, IRIREF, STRING_LITERAL_QUOTE, LANGTAG, suffix}
use Rattle.grammar.specs.Readings.{a_literal}
use Rattle.spelling.specs.Names.{Means, Name, plain_name, tagged_name, typed_name, quoted, bracketed, Denotes, by_plain, by_tagged, by_typed, escaped, canonical}
use Rattle.spelling.proofs.Delimited.{first_byte, differ, same-inner, unwrap, wrap, inner}
use Rattle.spelling.proofs.Bodies.{string-piece, Body, body_pieces, body_means, body-from}

-- what follows the second quote, and the name that it makes of the lexical form v
pub data After (v : List ℕ) : List ℕ → Name → Type 0 where
  nothing : After v [] (plain_name v)
  tag : (g : List ℕ) → Spells LANGTAG (64 ∷ g) → After v (64 ∷ g) (tagged_name v g)
  datatype : (i : List ℕ) → Spells (IRIREF part) (bracketed i) → After v (94 ∷ 94 ∷ bracketed i) (typed_name v i)

pub record Literal (t : List ℕ) (n : Name) : Type 0 where
  pub raw : List ℕ
  pub lexical : List ℕ
  pub tail : List ℕ
  pub split : t ≡ 34 ∷ (raw ++ 34 ∷ tail)
  pub body : Body raw lexical
  pub after : After lexical tail n

pub quoted_then : (u r : List ℕ) → quoted u ++ r ≡ 34 ∷ (u ++ 34 ∷ r)
quoted_then u r = ap (λ l. 34 ∷ l) (append_assoc u (34 ∷ []) r)

opening : (t u v r : List ℕ) (n : Name) → t ≡ quoted u ++ r → Spells (STRING_LITERAL_QUOTE part) (quoted u) → Means u v → After v r n → Literal t n
opening t u v r n e s m a = record {
  raw = u;
  lexical = v;
  tail = r;
  split = e ∙ quoted_then u r;
  body = body-from u v (inner 34 34 string-piece u s) m;
  after = a;
}

pub opened : (t : List ℕ) (n : Name) → Denotes a_literal t n → Literal t n
opened t n (by_plain u v e s m) = opening t u v [] n (e ∙ sym (append-nil (quoted u))) s m nothing
opened t n (by_tagged u v g e s m h) = opening t u v (64 ∷ g) n e s m (tag g h)
opened t n (by_typed u v i e s m h) = opening t u v (94 ∷ 94 ∷ bracketed i) n e s m (datatype i h)

string_of : (u v : List ℕ) → Body u v → Spells (STRING_LITERAL_QUOTE part) (quoted u)
string_of u v b = wrap 34 34 string-piece u (body_pieces u v b)

closing : (t u v r : List ℕ) (n : Name) → t ≡ 34 ∷ (u ++ 34 ∷ r) → Body u v → After v r n → Denotes a_literal t n
closing t u v r n e b nothing = by_plain u v e (string_of u v b) (body_means u v b)
closing t u v r n e b (tag g h) = by_tagged u v g (e ∙ sym (quoted_then u r)) (string_of u v b) (body_means u v b) h
closing t u v r n e b (datatype i h) = by_typed u v i (e ∙ sym (quoted_then u r)) (string_of u v b) (body_means u v b) h

pub closed : (t : List ℕ) (n : Name) → Literal t n → Denotes a_literal t n
closed t n l = closing t l.raw l.lexical l.tail n l.split l.body l.after

pub after_of : (v r : List ℕ) → Spells (suffix part) r → (n : Name) × After v r n
after_of v r (inl e) = (plain_name v, rw e nothing)
after_of v r (inr (inl h)) =
    let (g, e, _) = first_byte 64 (one letter then many (one letter) then many (byte 45 then one alnum then many (one alnum))) r h in
    (tagged_name v g, subst (λ l. After v l (tagged_name v g)) (sym e) (tag g (rw e at h)))
after_of v r (inr (inr h)) =
    let (s, e, k) = first_byte 94 (byte 94 then IRIREF part) r h in
    let (w, f, x) = first_byte 94 (IRIREF part) s k in
    let (i, q, _) = unwrap 60 62 (one iri_char or UCHAR part) w x in
    let all : r ≡ 94 ∷ 94 ∷ bracketed i = e ∙ ap (λ l. 94 ∷ l) (f ∙ ap (λ l. 94 ∷ l) q) in
    (typed_name v i, subst (λ l. After v l (typed_name v i)) (sym all) (datatype i (rw q at x)))

-- what follows tells the three forms apart
pub one-after : (v r s : List ℕ) (n m : Name) → r ≡ s → After v r n → After v s m → n ≡ m
one-after v r s n m e nothing nothing = refl
one-after v r s n m e nothing (tag g h) = cc
one-after v r s n m e nothing (datatype i h) = cc
one-after v r s n m e (tag g h) nothing = cc
one-after v r s n m e (tag g h) (tag g' h') = cc
one-after v r s n m e (tag g h) (datatype i k) = absurd (differ 64 94 _ _ refl e)
one-after v r s n m e (datatype i h) nothing = cc
one-after v r s n m e (datatype i h) (tag g k) = absurd (differ 94 64 _ _ refl e)
one-after v r s n m e (datatype i h) (datatype j k) = ap (typed_name v) (same-inner 60 62 i j cc)

pub canonical_is : (v r : List ℕ) (n : Name) → After v r n → canonical n ≡ 34 ∷ (escaped v ++ 34 ∷ r)
canonical_is v r n nothing = refl
canonical_is v r n (tag g h) = quoted_then (escaped v) r
canonical_is v r n (datatype i h) = quoted_then (escaped v) r
