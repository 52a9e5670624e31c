-- Classes of bytes that are apart, and their unions. Assumes nothing.
use Rattle.std.proofs.Common.{◌≡◌, ℕ, ◌<◌, Bool, true, ◌&&◌, ◌||◌, ltb, leb, List, [], ◌∷◌, ◌++◌, refl, arith, rules}
use Rattle.std.proofs.lemmas.Bool.{or_cases, or_left, or_right}
use Rattle.std.proofs.lemmas.Bool.Decides.{nat_tests}
use Rattle.grammar.specs.Regular.{Range}
use Rattle.grammar.proofs.Spans.{First, In}

-- two classes have no byte in common
abbrev away : Range → List Range → Bool
away r [] = true
away r (s ∷ ss) = (ltb r.high s.low || ltb s.high r.low) && away r ss

abbrev pub apart : List Range → List Range → Bool
apart [] ss = true
apart (r ∷ rs) ss = away r ss && apart rs ss

away_out : (r : Range) (ss : List Range) (c : ℕ) → away r ss ≡ true → (leb r.low c && leb c r.high) ≡ true → In ss c → ⊥
away_out r [] c h k x = cc
away_out r (s ∷ ss) c h k x = grind (arith, nat_tests, away_out r ss c)

pub apart_out : (rs ss : List Range) (c : ℕ) → apart rs ss ≡ true → In rs c → In ss c → ⊥
apart_out [] ss c h x y = cc
apart_out (r ∷ rs) ss c h x y = grind (arith, nat_tests, away_out r ss c, apart_out rs ss c)

pub in_left : (rs ss : List Range) (c : ℕ) → In rs c → In (rs ++ ss) c
in_left [] ss c h = cc
in_left (r ∷ rs) ss c h = grind (arith, or_cases, or_left, or_right, in_left rs ss c)

pub in_right : (rs ss : List Range) (c : ℕ) → In ss c → In (rs ++ ss) c
in_right [] ss c h = h
in_right (r ∷ rs) ss c h = search (rules, or_right, in_right rs ss c)

pub first-left : (rs ss : List Range) (u : List ℕ) → First (In rs) u → First (In (rs ++ ss)) u
first-left rs ss [] h = tt
first-left rs ss (c ∷ u) h = in_left rs ss c h

pub first_right : (rs ss : List Range) (u : List ℕ) → First (In ss) u → First (In (rs ++ ss)) u
first_right rs ss [] h = tt
first_right rs ss (c ∷ u) h = in_right rs ss c h

-- only the empty string begins with a byte of each of two classes that are apart
pub neither : (rs ss : List Range) (u : List ℕ) → apart rs ss ≡ true → First (In rs) u → First (In ss) u → u ≡ []
neither rs ss [] h f g = refl
neither rs ss (c ∷ u) h f g = absurd (apart_out rs ss c h f g)

-- the bytes of the class are up to 127
abbrev pub low_ranges : List Range → Bool
low_ranges [] = true
low_ranges (r ∷ rs) = leb r.high 127 && low_ranges rs

pub low-inside : (rs : List Range) (c : ℕ) → low_ranges rs ≡ true → In rs c → c < 128
low-inside [] c h k = cc
low-inside (r ∷ rs) c h k = grind (arith, nat_tests, low-inside rs c)
