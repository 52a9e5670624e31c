-- What the reader's answers stand for: the number of each fault, and each answer as a reading. Assumes nothing.
use Rattle.std.specs.Prelude.{ℕ, List, Ok, Err, Result}
use Rattle.grammar.specs.Readings.{Kind, an_iri, a_label, a_literal, Term, Reading, a_triple, a_comment, nothing, a_fault}
use Rattle.ntriples.specs.declared.fault.FaultKind.{FaultKind}
use Rattle.ntriples.specs.declared.fault.FaultKind.TheVariants.{HighByte, UnicodeEscape, Unexpected}
use Rattle.ntriples.specs.declared.fault.Fault.{Fault}
use Rattle.ntriples.specs.declared.token.Token.{Token}
use Rattle.ntriples.specs.declared.token.Token.TheVariants.{Iri, Label, Literal}
use Rattle.ntriples.specs.declared.token.Located.{Located}
use Rattle.ntriples.specs.declared.token.Line.{Line}
use Rattle.ntriples.specs.declared.token.Line.TheVariants.{Triple, Comment, Empty}

-- the refusal number of a fault
abbrev pub number : FaultKind → ℕ
number HighByte = 1
number UnicodeEscape = 2
number Unexpected = 3

-- the kind and the bytes of a token
abbrev pub kind_of : Token → Kind
kind_of (Iri b) = an_iri
kind_of (Label b) = a_label
kind_of (Literal b) = a_literal

abbrev pub bytes_of : Token → List ℕ
bytes_of (Iri b) = b.now
bytes_of (Label b) = b.now
bytes_of (Literal b) = b.now

-- the term that a token at an offset stands for
abbrev pub term_of : Token → ℕ → Term
term_of t k = record { kind = kind_of t; text = bytes_of t; offset = k }

abbrev pub located_term : Located Token → Term
located_term t = term_of t.item t.offset

abbrev pub line_reading : Line → Reading
line_reading (Triple t) = a_triple t.offset (located_term t.item.subject) (located_term t.item.predicate) (located_term t.item.object)
line_reading Comment = a_comment
line_reading Empty = nothing

-- the reading that an answer stands for
abbrev pub reading : Result Line Fault → Reading
reading (Ok l) = line_reading l
reading (Err f) = a_fault (number f.kind) f.offset
