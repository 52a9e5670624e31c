-- Lists of different triples, and how many triples a set has.
use Rattle.std.proofs.Common.{◌≡◌, ℕ, zero, suc, ◌+◌, ◌<◌, ◌≤◌, Bool, true, false, cond, not, T, List, [], ◌∷◌, length, refl, add-le-add, le_refl, arith}
use Rattle.std.specs.List.{AllByRecursion}
use Rattle.std.specs.Bool.{passes}
use Rattle.std.proofs.ByRecursion.{All-weaker}
use Rattle.std.proofs.Math.Dec.{T_not, not_T}
use Rattle.triples.specs.declared.triple.Triple.{Triple}
use Rattle.triples.specs.Codes.{width, codes, code_of, triple_of, Inside}
use Rattle.triples.specs.Sets.{Graph, among, tally, size}
use Rattle.triples.proofs.Triples.{inside-more, code_of-triple}
use Rattle.triples.proofs.Sizes.{size-empty, size-adding}
use Rattle.entailment.specs.Closure.{InClosure, different}
use Rattle.entailment.specs.Laws.{ExceedsBySize}
use Rattle.entailment.proofs.Basics.{and_left, and_right, and_both}
use Rattle.entailment.proofs.Among.{among-all}
use Rattle.entailment.proofs.Within.{stays_within_terms}

pub passed : (b : Bool) → T b → b ≡ true
passed true h = refl
passed false h = absurd h

pub failed : (b : Bool) → (T b → ⊥) → b ≡ false
failed true h = absurd (h tt)
failed false h = refl

pub first_is_new : (t : Triple) (l : List Triple) → T (different (t ∷ l)) → T (among l t) → ⊥
first_is_new t l d = T_not (among l t) (and_left (not (among l t)) (different l) d)

pub rest_differs : (t : Triple) (l : List Triple) → T (different (t ∷ l)) → T (different l)
rest_differs t l d = and_right (not (among l t)) (different l) d

pub one_more_differs : (t : Triple) (l : List Triple) → (T (among l t) → ⊥) → T (different l) → T (different (t ∷ l))
one_more_differs t l new d = and_both (not (among l t)) (different l) (not_T (among l t) new) d

size-among : (l : List Triple) → T (different l) → AllByRecursion (Inside width) l → size (among l) ≡ length l
size-among [] d h = size-empty
size-among (t ∷ l) d h =
    let more : size (among (t ∷ l)) ≡ size (among l) + 1 = size-adding (among l) t h.0 (failed (among l t) (first_is_new t l d)) in
    let rest : size (among l) ≡ length l = size-among l (rest_differs t l d) h.1 in
    omega arith

cond-le : (b c : Bool) → (T b → T c) → cond b 1 0 ≤ cond c 1 0
cond-le true true h = omega arith
cond-le true false h = absurd (h tt)
cond-le false c h = omega arith

tally-le-tally : (f g : ℕ → Bool) → ((k : ℕ) → T (f k) → T (g k)) → (n : ℕ) → tally f n ≤ tally g n
unfolding tally
tally-le-tally f g h zero = le_refl 0
tally-le-tally f g h (suc n) = add-le-add (cond-le (f n) (g n) (h n)) (tally-le-tally f g h n)

size-le-size : (f g : Graph) → ((t : Triple) → T (f t) → T (g t)) → size f ≤ size g
unfolding size
size-le-size f g h = tally-le-tally (λ k. f (triple_of k)) (λ k. g (triple_of k)) (λ k. h (triple_of k)) codes

-- the triples of a set whose codes are below n can be listed
abbrev Below : Graph → ℕ → Triple → Type 0
Below set n t = (code_of t < n) × T (set t)

abbrev Listed : Graph → ℕ → ℕ → Type 0
Listed set n m = (l : List Triple) × T (different l) × (length l ≡ m) × AllByRecursion (Below set n) l

older : (set : Graph) (n : ℕ) (l : List Triple) → AllByRecursion (Below set n) l → AllByRecursion (Below set (suc n)) l
older set n = All-weaker (Below set n) (Below set (suc n)) (λ t h. (omega (arith, h.0), h.1))

next_is_new : (set : Graph) (n : ℕ) (l : List Triple) → AllByRecursion (Below set n) l → T (among l (triple_of n)) → ⊥
next_is_new set n l h m = let low = (among-all (Below set n) l h (triple_of n) m).0 in omega (arith, code_of-triple n)

listed : (set : Graph) (n : ℕ) → Listed set n (tally (λ k. set (triple_of k)) n)
unfolding tally
listed set zero = ([], tt, refl, tt)
listed set (suc n) = go (set (triple_of n)) (passes (set (triple_of n))) (listed set n)
  where
    go : (b : Bool) → (b ≡ true → T (set (triple_of n))) → Listed set n (tally (λ k. set (triple_of k)) n) → Listed set (suc n) (cond b 1 0 + tally (λ k. set (triple_of k)) n)
    go true here h = (
      triple_of n ∷ h.0,
      one_more_differs (triple_of n) h.0 (next_is_new set n h.0 h.3) h.1,
      omega (arith, h.2),
      ((omega (arith, code_of-triple n), here refl), older set n h.0 h.3),
    )
    go false here h = (h.0, h.1, omega (arith, h.2), older set n h.0 h.3)

pub exceeds_by_size : ExceedsBySize
unfolding size
exceeds_by_size r ts kept set n b narrow k c = (
  λ h.
      let l : List Triple = h.0 in
      let inside = All-weaker (InClosure r ts kept) (Inside width) (λ t i. inside-more (length ts) width t narrow (stays_within_terms r ts kept b k t i)) l h.3 in
      let members = All-weaker (InClosure r ts kept) (λ t. T (set t)) (λ t i. i set c.closed) l h.3 in
      omega (arith, size-among l h.1 inside, size-le-size (among l) set (among-all (λ t. T (set t)) l members), h.2),
  λ more.
      let h : Listed set codes (size set) = listed set codes in
      (h.0, h.1, omega (arith, h.2), All-weaker (Below set codes) (InClosure r ts kept) (λ t i. c.least t i.1) h.0 h.3),
)
