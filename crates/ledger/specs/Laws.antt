-- Laws of the ledger. Assumes nothing.
use Rattle.std.specs.Prelude.{◌≡◌, ℕ, ◌<◌, ◌≤◌, Bool, true, false, List, [], length, take, Some, None}
use Rattle.std.specs.List.{AllByRecursion}
use Rattle.ledger.specs.Ledger.{Ledger, terms, cut_to}
use Rattle.ledger.specs.Loads.{Line, Progress, gives, place_step, lines_step, find_label, a_label}
use Rattle.ledger.specs.Calls.{Call, opens, names, blanks, enters, loads, keeps, strikes, closes, Answer, Reply, Gives, Run}

-- one ledger goes on from another: terms and triples are only appended
pub record Grows (l l' : Ledger) : Type 0 where
  pub more : take (length l.more) l'.more ≡ l.more
  pub triples : take (length l.triples) l'.triples ≡ l.triples

abbrev pub is_keep : Call → Bool
is_keep opens = false
is_keep (names s bs) = false
is_keep (blanks s) = false
is_keep (enters s t) = false
is_keep (loads s text room) = false
is_keep (keeps s) = true
is_keep (strikes s) = false
is_keep closes = false

abbrev pub is_strike : Call → Bool
is_strike opens = false
is_strike (names s bs) = false
is_strike (blanks s) = false
is_strike (enters s t) = false
is_strike (loads s text room) = false
is_strike (keeps s) = false
is_strike (strikes s) = true
is_strike closes = false

-- no call of the list passes the test
abbrev pub Without : (Call → Bool) → List Call → Type 0
Without f cs = AllByRecursion (λ c. f c ≡ false) cs

-- Terms and triples are only appended, but by strike.
abbrev pub OnlyAppended : Type 0
OnlyAppended =
    (side number : ℕ) (cs : List Call) (ans : List Answer) (l l' : Ledger)
    → Run side number cs ans l l' → Without is_strike cs → Grows l l'

-- Where no sheet is open, and then anything is called but keep, striking what is open then gives back what stood.
abbrev pub StrikeRestores : Type 0
StrikeRestores =
    (side number : ℕ) (cs : List Call) (ans : List Answer) (l l' : Ledger)
    → Run side number cs ans l l' → Without is_keep cs → l.mark ≡ None → cut_to l'.mark l' ≡ l

-- A label of a document has one blank: the one that it got first, whatever lines come after.
abbrev pub OneBlank : Type 0
OneBlank =
    (side room n k at : ℕ) (bs : List ℕ) (xs : List Line) (s : Progress)
    → find_label bs s.labels ≡ Some k
    → let s' = (lines_step side room n xs s).after in place_step side room (record { item = a_label bs; offset = at }) s' ≡ gives k s'

-- The labels of a document have blanks that are new: none had its number before the document. So two documents, one after the
-- other, have no blank in common.
abbrev pub NewBlanks : Type 0
NewBlanks =
    (side room n : ℕ) (xs : List Line) (l : Ledger)
    → let s' = (lines_step side room n xs (record { ledger = l; labels = [] })).after in
    AllByRecursion (λ k. (length (terms l) ≤ k.number) × (k.number < length (terms s'.ledger))) s'.labels

-- A call has one answer and one ledger afterwards; of close, one ledger.
abbrev pub OneLedger : Type 0
OneLedger =
    (side number : ℕ) (c : Call) (l : Ledger) (r r' : Reply)
    → Gives side number c l r → Gives side number c l r' → r.after ≡ r'.after
