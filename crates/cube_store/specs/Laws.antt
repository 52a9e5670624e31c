-- What is so of every cube store. Assumes nothing.
use Rattle.std.specs.Prelude.{◌≡◌, ℕ, ◌≤◌, true, List, length, nat_lt}
use Rattle.std.proofs.Common.{arith}
use Rattle.std.proofs.lemmas.Bool.{and_parts, ltb-true}
use Rattle.triples.specs.declared.triple.Triple.{Triple}
use Rattle.triples.specs.Codes.{Inside}
use Rattle.triples.specs.Sets.{size}
use Rattle.triples.specs.Stores.{Lawful}
use Rattle.cube_store.specs.Bits.{side, in_cube, bits, room_in}

pub cube_inside : (t : Triple) → in_cube t ≡ true → Inside side t
cube_inside t i =
    let a = and_parts (nat_lt t.subject side) _ i in
    let b = and_parts (nat_lt t.predicate side) _ a.1 in
    (ltb-true _ _ a.0, ltb-true _ _ b.0, ltb-true _ _ b.1)

pub bits_inside : (ws : List ℕ) (t : Triple) → bits ws t ≡ true → Inside side t
unfolding bits
bits_inside ws t h = cube_inside t (and_parts (in_cube t) _ h).0

-- the words ws, in which n bits are set
pub cube_lawful : (ws : List ℕ) (n : ℕ) → n ≤ room_in (length ws) → size (bits ws) ≡ n → Lawful side (room_in (length ws)) (bits ws)
cube_lawful ws n room counted = record {
  wide = omega arith;
  narrow = omega arith;
  within = bits_inside ws;
  few = omega arith;
}
