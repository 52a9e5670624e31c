-- An inner device, for the contracts of the functions that scan a line: facts about the places of a line. Assumes nothing.
use Rattle.std.specs.Prelude.{◌≡◌, ℕ, ◌+◌, ◌<◌, ◌≤◌, Bool, List, [], ◌∷◌, length, slice_index, Result, MatchResult}
use Rattle.grammar.specs.Regular.{Range, to, Expr, Is}
use Rattle.grammar.specs.Productions.{blank}
use Rattle.grammar.specs.Readings.{Kind, an_iri, a_label, a_literal, Fits}
use Rattle.grammar.specs.Scanner.{Next, dot, Role, follows, State, iri, under, string, Sort, in_term, in_line, Stands, Stuck, Halts, Ended, piece, RunTo}
use Rattle.ntriples.specs.declared.cursor.Cursor.{Cursor}
use Rattle.ntriples.specs.declared.fault.Fault.{Fault}
use Rattle.ntriples.specs.declared.form.Found.{Found}
use Rattle.ntriples.specs.Answers.{number, bytes_of, term_of}

-- the bytes of a line: all but LF and CR
abbrev pub line_byte : List Range
line_byte = to 0 9 ∷ to 11 12 ∷ to 14 255 ∷ []

-- the byte b stands at the place
abbrev pub NextIs : Cursor → ℕ → Type 0
NextIs a b = (a.pos < length a.line.now) × (slice_index a.line.now a.pos ≡ b)

-- the expression spells the bytes from a place of a line up to a later one
abbrev pub Spans : Expr → Cursor → Cursor → Type 0
Spans e a b = (b.line ≡ a.line) × (a.pos < b.pos) × Is e (piece a.line.now a.pos b.pos)

-- an answer of which p holds, or a fault of the line bs
abbrev pub OrFault : {A : Type 0} → List ℕ → (A → Type 0) → Result A Fault → Type 0
OrFault bs p r = MatchResult r p (λ f. f.offset ≤ length bs)

-- the place up to which the expression stands, or a fault of the line
abbrev pub Finds : Expr → Cursor → Result Cursor Fault → Type 0
Finds e a r = OrFault a.line.now (λ b. Spans e a b) r

-- the term that is found past the blanks at the place, and may stand where the expression does
abbrev pub FoundPast : Expr → Cursor → Found → Type 0
FoundPast e a x =
    (x.start.line ≡ a.line) × (x.end.line ≡ a.line) × RunTo blank a.line.now a.pos x.start.pos × (x.start.pos < x.end.pos)
    × (bytes_of x.token ≡ piece a.line.now x.start.pos x.end.pos) × ((k : ℕ) → Fits e (term_of x.token k))

-- such a term, or a fault of the line
abbrev pub FindsTerm : Expr → Cursor → Result Found Fault → Type 0
FindsTerm e a r = OrFault a.line.now (λ x. FoundPast e a x) r

-- the scanner, which began the line in the state s, halts by the fault
abbrev pub HaltsBy : (Sort → Bool) → State → Cursor → Fault → Type 0
HaltsBy q s a f = Halts q s a.line.now f.offset (number f.kind)

-- the place at whose offset p holds, or a fault by which the scanner halts inside a term
abbrev pub ScansTo : State → Cursor → (ℕ → Type 0) → Result Cursor Fault → Type 0
ScansTo s a p r = MatchResult r (λ b. p b.pos) (λ f. HaltsBy in_term s a f)

-- the term after which n is to come, or a fault by which the scanner halts in the line
abbrev pub ScansTerm : State → Cursor → Next → Result Found Fault → Type 0
ScansTerm s a n r = MatchResult r (λ x. Ended s a.line.now x.end.pos n) (λ f. HaltsBy in_line s a f)

-- the scanner is in the state t past the byte at the place
abbrev pub Enters : State → Cursor → State → Type 0
Enters s a t = Stands s a.line.now (a.pos + 1) t

-- the fault of a line that cannot go on at the place, given what is known there
abbrev pub Refuses : Cursor → Type 0 → Fault → Type 0
Refuses a p f = (f.offset ≤ length a.line.now) × ((q : Sort → Bool) (s : State) → (p → Stuck q s a.line.now a.pos) → HaltsBy q s a f)

-- the first byte of a term
abbrev pub first_byte : Kind → ℕ
first_byte an_iri = 60
first_byte a_label = 95
first_byte a_literal = 34

-- past the first byte of a term of the kind, after which n is to come, the scanner is in the state t
abbrev pub Opens : Kind → Next → State → Type 0
Opens an_iri n t = t ≡ iri n
Opens a_label n t = (r : Role) × (n ≡ follows r) × (t ≡ under r)
Opens a_literal n t = (n ≡ dot) × (t ≡ string)
