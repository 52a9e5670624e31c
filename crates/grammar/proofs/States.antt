-- A test that passes at each state of a list of them all passes at every state. Assumes nothing.
use Rattle.std.proofs.Common.{◌≡◌, Bool, true, false, not, ◌||◌, List, [], ◌∷◌, refl, arith}
use Rattle.std.specs.List.{Contains, list_all}
use Rattle.std.proofs.lemmas.List.Elements.{All-contains}
use Rattle.std.proofs.lemmas.List.Sums.{AllPass-from_list_all}
use Rattle.grammar.specs.Scanner.{verb, thing, dot, first, last, State, start, iri, slash, under, colon, label, before, string, escape, quoted, at, tag, hyphen, sub, caret, carets, ended, remark, uchar, dead}

abbrev pub states : List State
states =
    start ∷ iri verb ∷ iri thing ∷ iri dot ∷ slash verb ∷ slash thing ∷ slash dot ∷ under first ∷ under last ∷ colon first ∷ colon last
    ∷ label first ∷ label last ∷ before verb ∷ before thing ∷ before dot ∷ string ∷ escape ∷ quoted ∷ at ∷ tag ∷ hyphen ∷ sub ∷ caret
    ∷ carets ∷ ended ∷ remark ∷ uchar ∷ dead ∷ []

listed : (s : State) → Contains states s
listed start = (0, omega arith, refl)
listed (iri verb) = (1, omega arith, refl)
listed (iri thing) = (2, omega arith, refl)
listed (iri dot) = (3, omega arith, refl)
listed (slash verb) = (4, omega arith, refl)
listed (slash thing) = (5, omega arith, refl)
listed (slash dot) = (6, omega arith, refl)
listed (under first) = (7, omega arith, refl)
listed (under last) = (8, omega arith, refl)
listed (colon first) = (9, omega arith, refl)
listed (colon last) = (10, omega arith, refl)
listed (label first) = (11, omega arith, refl)
listed (label last) = (12, omega arith, refl)
listed (before verb) = (13, omega arith, refl)
listed (before thing) = (14, omega arith, refl)
listed (before dot) = (15, omega arith, refl)
listed string = (16, omega arith, refl)
listed escape = (17, omega arith, refl)
listed quoted = (18, omega arith, refl)
listed at = (19, omega arith, refl)
listed tag = (20, omega arith, refl)
listed hyphen = (21, omega arith, refl)
listed sub = (22, omega arith, refl)
listed caret = (23, omega arith, refl)
listed carets = (24, omega arith, refl)
listed ended = (25, omega arith, refl)
listed remark = (26, omega arith, refl)
listed uchar = (27, omega arith, refl)
listed dead = (28, omega arith, refl)

pub every : (P : State → Bool) → list_all P states ≡ true → (s : State) → P s ≡ true
every P h s = All-contains (λ s. P s ≡ true) states s (AllPass-from_list_all P states h) (listed s)

-- a test that is to pass where another does
abbrev pub if : Bool → Bool → Bool
if a b = not a || b

pub if_so : (a b : Bool) → if a b ≡ true → a ≡ true → b ≡ true
if_so true b h k = h
if_so false b h k = cc

pub where_passed : (P Q : State → Bool) → list_all (λ s. if (P s) (Q s)) states ≡ true → (s : State) → P s ≡ true → Q s ≡ true
where_passed P Q h s k = if_so (P s) (Q s) (every (λ s. if (P s) (Q s)) h s) k
