-- A bit for every triple inside the side: the object's bit in the word of the subject and the predicate. Assumes nothing.
use Rattle.std.specs.Prelude.{ℕ, ◌+◌, ◌*◌, ◌/◌, ◌%◌, ◌^◌, Bool, cond, ◌&&◌, List, ◌==◌, bit_or, nat_le, nat_lt, slice_index, slice_set}
use Rattle.triples.specs.declared.triple.Triple.{Triple}
use Rattle.triples.specs.Sets.{Graph}

-- the numbers in a triple are below it
abbrev pub side : ℕ
side = 64

-- how many words have the bits of every triple
abbrev pub rows : ℕ
rows = side * side

-- the place of the word of a subject and a predicate
abbrev pub row_of : ℕ → ℕ → ℕ
row_of s p = side * s + p

-- bit o of the word w
unfoldable pub bit_at : ℕ → ℕ → Bool
bit_at w o = w / 2 ^ o % 2 == 1

-- every number of the triple is below the side
abbrev pub in_cube : Triple → Bool
in_cube t = nat_lt t.subject side && (nat_lt t.predicate side && nat_lt t.object side)

-- the triples whose bit is set
unfoldable pub bits : List ℕ → Graph
bits ws t = in_cube t && bit_at (slice_index ws (row_of t.subject t.predicate)) t.object

-- the words with the triple's bit set
abbrev pub marking : List ℕ → Triple → List ℕ
marking ws t = slice_set ws (row_of t.subject t.predicate) (bit_or (slice_index ws (row_of t.subject t.predicate)) (2 ^ t.object))

-- the capacity of a store over n words
abbrev pub room_in : ℕ → ℕ
room_in n = cond (nat_le rows n) (rows * side) 0
