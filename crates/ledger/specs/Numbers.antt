-- The numbers of the refusals. Assumes nothing.
use Rattle.std.specs.Prelude.{ℕ}
use Rattle.names.specs.declared.refusal.Refusal.{Refusal as OfNames}
use Rattle.names.specs.declared.refusal.Refusal.TheVariants.{NotLawful as Lawless, Terms, Bytes}
use Rattle.ledger.specs.declared.refusal.Refusal.{Refusal}
use Rattle.ledger.specs.declared.refusal.Refusal.TheVariants.{NoSheet, NotLawful, TermsFull, BytesFull, LabelsFull, NoTerm, NotSayable, TriplesFull, TooMany, AlreadyOpen, StillOpen, Capacity}

abbrev pub number : Refusal → ℕ
number NoSheet = 10
number NotLawful = 11
number TermsFull = 12
number BytesFull = 13
number LabelsFull = 14
number NoTerm = 15
number NotSayable = 16
number TriplesFull = 17
number TooMany = 19
number AlreadyOpen = 20
number StillOpen = 21
number Capacity = 22

-- a refusal of the table of names, as one of the ledger
abbrev pub of_names : OfNames → Refusal
of_names Lawless = NotLawful
of_names Terms = TermsFull
of_names Bytes = BytesFull
