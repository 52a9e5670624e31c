-- The code's sheets, and the answers with them, as the ledger sees them. Assumes nothing.
use Rattle.std.specs.Prelude.{Ok, Err, Result}
use Rattle.ledger.specs.declared.refusal.Refusal.{Refusal}
use Rattle.ledger.specs.Steps.{Sheet as Shown}
use Rattle.book.specs.declared.sheet.Sheet.{Sheet}

abbrev pub shown : Sheet → Shown
shown s = record { book = s.book }

-- a sheet that open gives
abbrev pub opened : Result Sheet Refusal → Result Shown Refusal
opened (Ok s) = Ok (shown s)
opened (Err e) = Err e

-- what keep and strike answer, without the sheet that a refusal hands back
abbrev pub answered : Result (Unit {0}) (Refusal × Sheet) → Result (Unit {0}) Refusal
answered (Ok a) = Ok a
answered (Err e) = Err e.0
