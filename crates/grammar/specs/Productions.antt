-- The lines of RDF 1.1 N-Triples over bytes up to 127, with labels of letters, digits and `_`.
-- The productions have the names of the W3C grammar and are put together as it does.
-- Assumes nothing.
use Rattle.std.specs.Prelude.{ℕ, List, [], ◌∷◌}
use Rattle.grammar.specs.Regular.{Range, to, Expr, never, empty, one, ◌then◌, ◌or◌, many}

-- how much of the grammar: with UCHAR, or the part that is read, without it
pub data Extent : Type 0 where
  full : Extent
  part : Extent

abbrev pub byte : ℕ → Expr
byte c = one (to c c ∷ [])

-- tab and space
abbrev pub blank : List Range
blank = to 9 9 ∷ to 32 32 ∷ []

-- [a-zA-Z]
abbrev pub letter : List Range
letter = to 65 90 ∷ to 97 122 ∷ []

-- [a-zA-Z0-9]
abbrev pub alnum : List Range
alnum = to 48 57 ∷ to 65 90 ∷ to 97 122 ∷ []

-- [0-9A-Fa-f]
abbrev pub hex : List Range
hex = to 48 57 ∷ to 65 70 ∷ to 97 102 ∷ []

-- [0-9A-Z_a-z]
abbrev pub label_char : List Range
label_char = to 48 57 ∷ to 65 90 ∷ to 95 95 ∷ to 97 122 ∷ []

-- up to 127, none of 0 to 32 and of < > " { } | ^ ` \
abbrev pub iri_char : List Range
iri_char = to 33 33 ∷ to 35 59 ∷ to 61 61 ∷ to 63 91 ∷ to 93 93 ∷ to 95 95 ∷ to 97 122 ∷ to 126 127 ∷ []

-- up to 127, none of LF, CR, " and \
abbrev pub string_char : List Range
string_char = to 0 9 ∷ to 11 12 ∷ to 14 33 ∷ to 35 91 ∷ to 93 127 ∷ []

-- one of t b n r f " ' \
abbrev pub escape_letter : List Range
escape_letter = to 34 34 ∷ to 39 39 ∷ to 92 92 ∷ to 98 98 ∷ to 102 102 ∷ to 110 110 ∷ to 114 114 ∷ to 116 116 ∷ []

-- the letters of \u and \U
abbrev pub uchar_letter : List Range
uchar_letter = to 85 85 ∷ to 117 117 ∷ []

-- up to 127, none of LF and CR
abbrev pub comment_char : List Range
comment_char = to 0 9 ∷ to 11 12 ∷ to 14 127 ∷ []

-- \u and four digits, \U and eight
abbrev pub UCHAR : Extent → Expr
UCHAR full =
    byte 92 then (byte 117 then one hex then one hex then one hex then one hex
    or byte 85 then one hex then one hex then one hex then one hex then one hex then one hex then one hex then one hex)
UCHAR part = never

abbrev pub ECHAR : Expr
ECHAR = byte 92 then one escape_letter

abbrev pub IRIREF : Extent → Expr
IRIREF x = byte 60 then many (one iri_char or UCHAR x) then byte 62

abbrev pub BLANK_NODE_LABEL : Expr
BLANK_NODE_LABEL = byte 95 then byte 58 then one label_char then many (one label_char)

abbrev pub STRING_LITERAL_QUOTE : Extent → Expr
STRING_LITERAL_QUOTE x = byte 34 then many (one string_char or ECHAR or UCHAR x) then byte 34

-- a part of a language tag after its letters
abbrev pub subtag : Expr
subtag = byte 45 then one alnum then many (one alnum)

abbrev pub LANGTAG : Expr
LANGTAG = byte 64 then one letter then many (one letter) then many subtag

-- ^^ and the datatype of a literal
abbrev pub datatype : Extent → Expr
datatype x = byte 94 then byte 94 then IRIREF x

-- what may follow the string of a literal
abbrev pub suffix : Extent → Expr
suffix x = empty or LANGTAG or datatype x

abbrev pub literal : Extent → Expr
literal x = STRING_LITERAL_QUOTE x then suffix x

-- spaces and tabs, which may stand around terms and the dot
abbrev pub WS : Expr
WS = many (one blank)

abbrev pub comment : Expr
comment = byte 35 then many (one comment_char)

abbrev pub subject : Extent → Expr
subject x = IRIREF x or BLANK_NODE_LABEL

abbrev pub predicate : Extent → Expr
predicate x = IRIREF x

abbrev pub object : Extent → Expr
object x = IRIREF x or BLANK_NODE_LABEL or literal x

abbrev pub triple : Extent → Expr
triple x = subject x then WS then predicate x then WS then object x then WS then byte 46

-- what may follow the dot of a triple, and is all of a line without one
abbrev pub rest : Expr
rest = WS then (empty or comment)

-- a line without its end, which is LF, CR or the end of the text
abbrev pub line : Extent → Expr
line x = WS then (empty or triple x then WS) then (empty or comment)
