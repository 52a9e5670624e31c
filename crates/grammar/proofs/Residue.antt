-- The states of Scanner are what is left of the grammar. Assumes nothing.
use Rattle.std.proofs.Common.{◌≡◌, ℕ, ◌<◌, Bool, true, false, cond, map, get_or, sym, refl, ap, ◌∙◌, arith}
use Rattle.std.specs.List.{range_with_len}
use Rattle.std.proofs.lemmas.List.FromFn.{get_or-map-range_with_len}
use Rattle.grammar.specs.Regular.{Expr, never, empty, one, ◌then◌, ◌or◌, many}
use Rattle.grammar.specs.Productions.{Extent, full, part, byte, hex, letter, alnum, label_char, iri_char, string_char, escape_letter, comment_char, UCHAR, ECHAR, IRIREF, WS, comment, object, suffix, line}
use Rattle.grammar.specs.Scanner.{Next, verb, thing, dot, first, last, follows, State, start, iri, slash, under, colon, label, before, string, escape, quoted, at, tag, hyphen, sub, caret, carets, ended, remark, uchar, dead, step, Sort, inner, between, done, slashes, escapes, letters, none, sort}
use Rattle.grammar.proofs.Derivatives.{der}

abbrev after : Extent → Next → Expr
after x verb = WS then IRIREF x then WS then object x then WS then byte 46
after x thing = WS then object x then WS then byte 46
after x dot = WS then byte 46

abbrev of_line : Expr → Expr
of_line e = (e then WS) then (empty or comment)

abbrev slashed : Expr
slashed = byte 117 then one hex then one hex then one hex then one hex
    or byte 85 then one hex then one hex then one hex then one hex then one hex then one hex then one hex then one hex

abbrev subtags : Expr
subtags = many (byte 45 then one alnum then many (one alnum))

abbrev iri_chars : Extent → Expr
iri_chars x = many (one iri_char or UCHAR x)

abbrev string_chars : Extent → Expr
string_chars x = many (one string_char or ECHAR or UCHAR x)

abbrev on_slash : Extent → Next → Expr
on_slash full n = of_line (((slashed then iri_chars full) then byte 62) then after full n)
on_slash part n = never

abbrev on_escape : Extent → Expr
on_escape full = of_line (((((one escape_letter or slashed) then string_chars full) then byte 34) then suffix full) then after full dot)
on_escape part = of_line ((((one escape_letter then string_chars part) then byte 34) then suffix part) then after part dot)

-- what is left of a line at a state
abbrev pub left : Extent → State → Expr
left x start = line x
left x (iri n) = of_line ((iri_chars x then byte 62) then after x n)
left x (slash n) = on_slash x n
left x (under n) = of_line ((byte 58 then one label_char then many (one label_char)) then after x (follows n))
left x (colon n) = of_line ((one label_char then many (one label_char)) then after x (follows n))
left x (label n) = of_line (many (one label_char) then after x (follows n))
left x (before n) = of_line (after x n)
left x string = of_line (((string_chars x then byte 34) then suffix x) then after x dot)
left x escape = on_escape x
left x quoted = of_line (suffix x then after x dot)
left x at = of_line ((one letter then many (one letter) then subtags) then after x dot)
left x tag = of_line ((many (one letter) then subtags) then after x dot)
left x hyphen = of_line (((one alnum then many (one alnum)) then subtags) then after x dot)
left x sub = of_line ((many (one alnum) then subtags) then after x dot)
left x caret = of_line ((byte 94 then IRIREF x) then after x dot)
left x carets = of_line (IRIREF x then after x dot)
left x ended = WS then (empty or comment)
left x remark = many (one comment_char)
left x uchar = never
left x dead = never

-- after the letter of \u or \U
abbrev pub lettered : Sort → Bool
lettered inner = false
lettered between = false
lettered done = false
lettered slashes = false
lettered escapes = false
lettered letters = true
lettered none = false

-- the derivative at a byte, but after the letter of \u or \U in the whole grammar
abbrev pub skipped : Extent → State → Expr → Expr
skipped part s e = e
skipped full s e = cond (lettered (sort s)) never e

abbrev Row : Extent → State → Type 0
Row x s = map (λ c. skipped x (step s c) (der c (left x s))) (range_with_len 0 128) ≡ map (λ c. left x (step s c)) (range_with_len 0 128)

-- each row is computed
row : (s : State) → Row full s × Row part s
row start = (refl, refl)
row (iri verb) = (refl, refl)
row (iri thing) = (refl, refl)
row (iri dot) = (refl, refl)
row (slash verb) = (refl, refl)
row (slash thing) = (refl, refl)
row (slash dot) = (refl, refl)
row (under first) = (refl, refl)
row (under last) = (refl, refl)
row (colon first) = (refl, refl)
row (colon last) = (refl, refl)
row (label first) = (refl, refl)
row (label last) = (refl, refl)
row (before verb) = (refl, refl)
row (before thing) = (refl, refl)
row (before dot) = (refl, refl)
row string = (refl, refl)
row escape = (refl, refl)
row quoted = (refl, refl)
row at = (refl, refl)
row tag = (refl, refl)
row hyphen = (refl, refl)
row sub = (refl, refl)
row caret = (refl, refl)
row carets = (refl, refl)
row ended = (refl, refl)
row remark = (refl, refl)
row uchar = (refl, refl)
row dead = (refl, refl)

row_of : (x : Extent) (s : State) → Row x s
row_of full s = (row s).0
row_of part s = (row s).1

pub row_at : (x : Extent) (s : State) (c : ℕ) → c < 128 → skipped x (step s c) (der c (left x s)) ≡ left x (step s c)
row_at x s c h =
    sym (get_or-map-range_with_len (λ k. skipped x (step s k) (der k (left x s))) 0 128 c c never h (omega arith))
    ∙ ap (λ l. get_or l c never) (row_of x s)
    ∙ get_or-map-range_with_len (λ k. left x (step s k)) 0 128 c c never h (omega arith)
