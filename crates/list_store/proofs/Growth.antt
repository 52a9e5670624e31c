-- The first records of a list that has no triple twice have none twice, since each record adds at most one.
use Rattle.std.proofs.Common.{◌≡◌, ℕ, zero, suc, ◌+◌, ◌-◌, ◌<◌, ◌≤◌, List, length, get_or, take, refl, ap, arith}
use Rattle.triples.specs.declared.triple.Triple.{Triple}
use Rattle.triples.specs.Sets.{size, among}
use Rattle.triples.proofs.Sizes.{size-empty, size-adding_le}
use Rattle.list_store.proofs.Among.{among-more}

module _ (ts : List Triple) (d : Triple) where
  more : (i : ℕ) → i < length ts → size (among (take (i + 1) ts)) ≤ size (among (take i ts)) + 1
  more i l = omega (arith, ap size (among-more ts i d l), size-adding_le (among (take i ts)) (get_or ts i d))

  -- the first n records and k after them
  grows : (n k m : ℕ) → n + k ≡ m → m ≤ length ts → size (among (take m ts)) ≤ size (among (take n ts)) + k
  grows n zero m e l = let same : n ≡ m = omega arith in omega (arith, ap (λ j. size (among (take j ts))) same)
  grows n (suc k) m e l =
      let last : m ≡ (n + k) + 1 = omega arith in
      omega (arith, ap (λ j. size (among (take j ts))) last, more (n + k) (omega arith), grows n k (n + k) refl (omega arith))

  pub first_counted : (m n : ℕ) → m ≤ length ts → n ≤ m → size (among (take m ts)) ≡ m → size (among (take n ts)) ≡ n
  first_counted m n room l full =
      let none : size (among (take 0 ts)) ≡ 0 = size-empty in
      omega (arith, grows 0 n n (omega arith) (omega arith), grows n (m - n) m (omega arith) room)
