-- How a line can go on from a state: a string that ends it, and the letter of \u or \U after a backslash. Assumes nothing.
use Rattle.std.proofs.Common.{◌≡◌, ℕ, true, ◌⊎◌, List, [], ◌∷◌, refl, ap, inl, inr, append-nil}
use Rattle.grammar.specs.Regular.{Expr, never, Spells}
use Rattle.grammar.specs.Productions.{full, part}
use Rattle.grammar.specs.Scanner.{Next, verb, thing, dot, first, last, State, start, iri, slash, under, colon, label, before, string, escape, quoted, at, tag, hyphen, sub, caret, carets, ended, remark, uchar, dead, step, sort, plain, Slashed, in_iri, in_string}
use Rattle.grammar.proofs.Derivatives.{nullable, ders, ders_out, nullable_out}
use Rattle.grammar.proofs.Residue.{left}
use Rattle.grammar.proofs.States.{where_passed}

-- a string that ends a line from a state where the part that is read can go on
abbrev finish : State → List ℕ
finish start = []
finish (iri verb) = 62 ∷ 60 ∷ 62 ∷ 60 ∷ 62 ∷ 46 ∷ []
finish (iri thing) = 62 ∷ 60 ∷ 62 ∷ 46 ∷ []
finish (iri dot) = 62 ∷ 46 ∷ []
finish (slash n) = []
finish (under first) = 58 ∷ 97 ∷ 60 ∷ 62 ∷ 60 ∷ 62 ∷ 46 ∷ []
finish (under last) = 58 ∷ 97 ∷ 46 ∷ []
finish (colon first) = 97 ∷ 60 ∷ 62 ∷ 60 ∷ 62 ∷ 46 ∷ []
finish (colon last) = 97 ∷ 46 ∷ []
finish (label first) = 60 ∷ 62 ∷ 60 ∷ 62 ∷ 46 ∷ []
finish (label last) = 46 ∷ []
finish (before verb) = 60 ∷ 62 ∷ 60 ∷ 62 ∷ 46 ∷ []
finish (before thing) = 60 ∷ 62 ∷ 46 ∷ []
finish (before dot) = 46 ∷ []
finish string = 34 ∷ 46 ∷ []
finish escape = 116 ∷ 34 ∷ 46 ∷ []
finish quoted = 46 ∷ []
finish at = 97 ∷ 46 ∷ []
finish tag = 46 ∷ []
finish hyphen = 97 ∷ 46 ∷ []
finish sub = 46 ∷ []
finish caret = 94 ∷ 60 ∷ 62 ∷ 46 ∷ []
finish carets = 60 ∷ 62 ∷ 46 ∷ []
finish ended = []
finish remark = []
finish uchar = []
finish dead = []

computed : (u : List ℕ) (e : Expr) → nullable (ders u e) ≡ true → Spells e u
computed u e h = rw append-nil at (ders_out u [] e (nullable_out (ders u e) h))

pub plain_goes : (s : State) → plain (sort s) ≡ true → (u : List ℕ) × Spells (left part s) u
plain_goes s h =
    (finish s, computed (finish s) (left part s) (where_passed (λ s. plain (sort s)) (λ s. nullable (ders (finish s) (left part s))) refl s h))

-- after a backslash the whole grammar goes on with u and four digits, and with U and eight
abbrev four : List ℕ → List ℕ
four u = 48 ∷ 48 ∷ 48 ∷ 48 ∷ u

slash_goes : (n : Next) → Spells (left full (slash n)) (117 ∷ four (finish (iri n))) × Spells (left full (slash n)) (85 ∷ four (four (finish (iri n))))
slash_goes verb = (computed _ (left full (slash verb)) refl, computed _ (left full (slash verb)) refl)
slash_goes thing = (computed _ (left full (slash thing)) refl, computed _ (left full (slash thing)) refl)
slash_goes dot = (computed _ (left full (slash dot)) refl, computed _ (left full (slash dot)) refl)

pub letter_goes : (s : State) (bs : List ℕ) (k : ℕ) (t : State) (c : ℕ) → Slashed s bs k t → (c ≡ 117) ⊎ (c ≡ 85) → (u : List ℕ) × Spells (left full t) (c ∷ u)
letter_goes s bs k t c (in_iri n j a b x y) (inl e) = (four (finish (iri n)), rw e (slash_goes n).0)
letter_goes s bs k t c (in_iri n j a b x y) (inr e) = (four (four (finish (iri n))), rw e (slash_goes n).1)
letter_goes s bs k t c in_string (inl e) = (four (finish string), rw e (computed (117 ∷ four (finish string)) (left full escape) refl))
letter_goes s bs k t c in_string (inr e) = (four (four (finish string)), rw e (computed (85 ∷ four (four (finish string))) (left full escape) refl))

-- and the part that is read does not
pub letter-stops : (s : State) (bs : List ℕ) (k : ℕ) (t : State) (c : ℕ) → Slashed s bs k t → (c ≡ 117) ⊎ (c ≡ 85) → left part (step t c) ≡ never
letter-stops s bs k t c (in_iri n j a b x y) (inl e) = ap (λ d. left part (step (slash n) d)) e
letter-stops s bs k t c (in_iri n j a b x y) (inr e) = ap (λ d. left part (step (slash n) d)) e
letter-stops s bs k t c in_string (inl e) = ap (λ d. left part (step escape d)) e
letter-stops s bs k t c in_string (inr e) = ap (λ d. left part (step escape d)) e
