-- What a call answers, and the ledger afterwards. Each refusal leaves the ledger, and refusals come in the order of the tests.
-- Assumes nothing.
use Rattle.std.specs.Prelude.{ℕ, ◌+◌, Bool, not, cond, ◌&&◌, List, length, slice_index_or, nat_lt, nat_le, ◌==◌, Some, None, Ok, Err, Option, Result}
use Rattle.triples.specs.declared.triple.Triple.{Triple}
use Rattle.triples.specs.declared.store.Added.{Added}
use Rattle.triples.specs.declared.store.Added.TheVariants.{New, Had}
use Rattle.triples.specs.Sets.{among}
use Rattle.entailment.specs.Terms.{Term, blank}
use Rattle.ledger.specs.declared.refusal.Refusal.{Refusal}
use Rattle.ledger.specs.declared.refusal.Refusal.TheVariants.{NoSheet, NotLawful, TermsFull, BytesFull, NoTerm, NotSayable, TriplesFull, TooMany, AlreadyOpen, StillOpen}
use Rattle.names.specs.Terms.{term_spelled, spelled_bytes, most_bytes, all_terms}
use Rattle.ledger.specs.Spelled.{number_of, is_iri, is_literal}
use Rattle.ledger.specs.Ledger.{Ledger, terms, is_open, counts, with_term, with_triple, with_mark, cut_to}

-- the most triples of a book
abbrev pub most_triples : ℕ
most_triples = 512

-- a sheet carries the number of the book that gave it
pub record Sheet : Type 0 where
  pub book : ℕ

-- an answer, and the ledger afterwards
pub record Outcome (A : Type 0) : Type 0 where
  pub answer : Result A Refusal
  pub after : Ledger

abbrev pub serves : {A : Type 0} → A → Ledger → Outcome A
serves a l = record { answer = Ok a; after = l }

abbrev pub refuses : {A : Type 0} → Refusal → Ledger → Outcome A
refuses e l = record { answer = Err e; after = l }

-- a call that shows this sheet is refused by 10
abbrev pub is_refused : ℕ → Sheet → Ledger → Bool
is_refused number s l = not (is_open l && s.book == number)

-- a call under a sheet
abbrev pub under : {A : Type 0} → ℕ → Sheet → (Ledger → Outcome A) → Ledger → Outcome A
under number s step l = cond (is_refused number s l) (refuses NoSheet l) (step l)

abbrev pub open_step : ℕ → Ledger → Outcome Sheet
open_step number l = cond (is_open l) (refuses AlreadyOpen l) (serves (record { book = number }) (with_mark (Some (counts l)) l))

abbrev pub with_room : ℕ → Ledger → Bool
with_room side l = nat_lt (length (terms l)) side

-- a new term's number is how many there were
abbrev pub add_term : Term → Ledger → Outcome ℕ
add_term t l = serves (length (terms l)) (with_term t l)

abbrev pub number_step : Option ℕ → ℕ → List ℕ → Ledger → Outcome ℕ
number_step (Some n) side bs l = serves n l
number_step None side bs l =
    cond (with_room side l)
    (cond (nat_le (spelled_bytes l.more + length bs) most_bytes) (add_term (term_spelled bs) l) (refuses BytesFull l))
    (refuses TermsFull l)

-- a lawful spelling gets its name's number
abbrev pub name_step : ℕ → List ℕ → Ledger → Outcome ℕ
name_step side bs l = number_step (number_of bs (terms l)) side bs l

-- bytes that may be a lawful spelling or not
abbrev pub bytes_step : Bool → ℕ → List ℕ → Ledger → Outcome ℕ
bytes_step lawful side bs l = cond lawful (name_step side bs l) (refuses NotLawful l)

abbrev pub blank_step : ℕ → Ledger → Outcome ℕ
blank_step side l = cond (with_room side l) (add_term blank l) (refuses TermsFull l)

-- each number has a term
abbrev pub has_terms : Triple → Ledger → Bool
has_terms t l = nat_lt t.subject (length (terms l)) && (nat_lt t.predicate (length (terms l)) && nat_lt t.object (length (terms l)))

-- the term of a number, where those after the thirty are given
abbrev pub term_in : List Term → ℕ → Term
term_in more n = slice_index_or (all_terms more) n blank

-- no literal as subject, and an IRI as predicate
abbrev pub is_sayable : Triple → Ledger → Bool
is_sayable t l = not (is_literal (term_in l.more t.subject)) && is_iri (term_in l.more t.predicate)

abbrev pub put_step : Triple → Ledger → Outcome Added
put_step t l =
    cond (among l.triples t) (serves Had l)
    (cond (nat_lt (length l.triples) most_triples) (serves New (with_triple t l)) (refuses TriplesFull l))

abbrev pub enter_step : Triple → Ledger → Outcome Added
enter_step t l =
    cond (has_terms t l)
    (cond (is_sayable t l) (put_step t l) (refuses NotSayable l))
    (refuses NoTerm l)

abbrev pub keep_step : Ledger → Outcome (Unit {0})
keep_step l = cond (nat_lt most_triples (length l.triples)) (refuses TooMany l) (serves tt (with_mark None l))

abbrev pub strike_step : Ledger → Outcome (Unit {0})
strike_step l = serves tt (cut_to l.mark l)

-- close goes on to the closure where no sheet is open, and leaves the ledger in every case
abbrev pub close_step : Ledger → Outcome (Unit {0})
close_step l = cond (is_open l) (refuses StillOpen l) (serves tt l)
