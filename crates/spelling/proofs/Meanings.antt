-- An escape letter and a raw text have one meaning each. Assumes nothing.
use Rattle.std.proofs.Common.{◌≡◌, ℕ, true, List, ◌∷◌, refl, ap}
use Rattle.grammar.specs.Regular.{inside}
use Rattle.grammar.specs.Productions.{escape_letter}
use Rattle.spelling.specs.Names.{Escape, tab, backspace, newline, return, feed, quote, apostrophe, backslash, Means, none, plain, escape}
use Rattle.spelling.proofs.Delimited.{no_more, ◌also◌, one_of}

pub escape-same : (l c d : ℕ) → Escape l c → Escape l d → c ≡ d
escape-same l c d tab tab = refl
escape-same l c d backspace backspace = refl
escape-same l c d newline newline = refl
escape-same l c d return return = refl
escape-same l c d feed feed = refl
escape-same l c d quote quote = refl
escape-same l c d apostrophe apostrophe = refl
escape-same l c d backslash backslash = refl

-- the letters of Escape are those of the grammar
pub escape_in : (l c : ℕ) → Escape l c → inside escape_letter l ≡ true
escape_in l c tab = refl
escape_in l c backspace = refl
escape_in l c newline = refl
escape_in l c return = refl
escape_in l c feed = refl
escape_in l c quote = refl
escape_in l c apostrophe = refl
escape_in l c backslash = refl

pub escape_of : (l : ℕ) → inside escape_letter l ≡ true → (c : ℕ) × Escape l c
escape_of l =
    one_of (λ k. (c : ℕ) × Escape k c) escape_letter l
    ((34, quote) also (39, apostrophe) also (92, backslash) also (8, backspace) also (12, feed) also (10, newline) also (13, return) also (9, tab) also no_more)

pub one-meaning : (u v w : List ℕ) → Means u v → Means u w → v ≡ w
one-meaning u v w none none = refl
one-meaning u v w (plain {c} {u = u₁} {v = v₁} n h) (plain {v = v₂} m k) = ap (λ l. c ∷ l) (one-meaning u₁ v₁ v₂ h k)
one-meaning u v w (plain n h) (escape e k) = absurd (n refl)
one-meaning u v w (escape e h) (plain m k) = absurd (m refl)
one-meaning u v w (escape {l} {c} {u = u₁} {v = v₁} e h) (escape {c = d} {v = v₂} f k) =
    let head = escape-same l c d e f in
    let tail = one-meaning u₁ v₁ v₂ h k in
    cc
