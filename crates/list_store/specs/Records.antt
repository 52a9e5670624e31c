-- The records of a list store: what a search in them finds, and why they are what a store holds. Assumes nothing.
use Rattle.std.specs.Prelude.{◌≡◌, ℕ, ◌<◌, ◌≤◌, true, false, List, length, take, Some, None, Option, slice_index_or}
use Rattle.std.proofs.Common.{arith}
use Rattle.triples.specs.declared.triple.Triple.{Triple}
use Rattle.triples.specs.Codes.{width, Inside}
use Rattle.triples.specs.Sets.{Graph, among, size}
use Rattle.triples.specs.Stores.{Lawful}

-- the most records that a store keeps
abbrev pub most : ℕ
most = 65536

-- the set of the first n records
abbrev pub stored : ℕ → List Triple → Graph
stored n ts = among (take n ts)

-- what a search for the triple t finds: the index of the first record that is t
abbrev pub Finds : List Triple → Triple → Option ℕ → Type 0
Finds ts t None = among ts t ≡ false
Finds ts t (Some i) = (i < length ts) × ((d : Triple) → slice_index_or ts i d ≡ t) × (among (take i ts) t ≡ false)

-- the first n records of ts are what a store of that many holds
pub records_lawful : (n : ℕ) (ts : List Triple) → (length ts ≤ most) × (n ≤ length ts) → size (among (take n ts)) ≡ n → ((t : Triple) → among (take n ts) t ≡ true → Inside width t) → Lawful width (length ts) (among (take n ts))
records_lawful n ts room counted within = record {
  wide = omega arith;
  narrow = omega arith;
  within = within;
  few = omega arith;
}
