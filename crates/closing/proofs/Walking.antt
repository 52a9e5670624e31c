-- A walk through a set that grows on the way: each triple that was in the set when the walk began is behind it or ahead.
use Rattle.std.proofs.Common.{◌≡◌, ℕ, ◌-◌, ◌<◌, ◌≤◌, true, Some, None, Option, ⊎_elim, arith}
use Rattle.std.proofs.lemmas.Bool.{cases_lt, both_ways}
use Rattle.triples.specs.declared.triple.Triple.{Triple}
use Rattle.triples.specs.declared.question.Pattern.{Pattern}
use Rattle.triples.specs.declared.question.Question.{Question}
use Rattle.triples.specs.Codes.{width, codes, code_of, Inside}
use Rattle.triples.specs.Sets.{Graph}
use Rattle.triples.specs.Questions.{Next, Fits}
use Rattle.triples.proofs.Triples.{code_below}
use Rattle.walks.specs.Steps.{from_start, past}
use Rattle.closing.specs.Passes.{Within}

-- the candidate, if there is one, is in the set and fits
abbrev pub Current : Graph → Pattern → Option Triple → Type 0
Current g p None = Unit {0}
Current g p (Some t) = (g t ≡ true) × Fits p t

pub next_current : (g : Graph) (q : Question) (c : Option Triple) → Next g q c → Current g q.pattern c
next_current g q None h = tt
next_current g q (Some t) h = (h.held, h.asked.1)

-- the walk has passed the triple
abbrev pub Behind : Option Triple → Triple → Type 0
Behind None u = Unit {0}
Behind (Some t) u = code_of u < code_of t

-- P holds of what is behind
abbrev pub Walked : (Triple → Type 0) → Graph → Pattern → Option Triple → Type 0
Walked P f p c = (u : Triple) → f u ≡ true → Fits p u → Behind c u → P u

-- nothing behind the candidate answers the question
unanswered : (g : Graph) (q : Question) (c : Option Triple) → Next g q c → (u : Triple) → g u ≡ true → Fits q.pattern u → Behind c u → q.lowest ≤ code_of u → ⊥
unanswered g q None h u i fit b l = both_ways (g u) (h u (l, fit)) i
unanswered g q (Some t) h u i fit b l = both_ways (g u) (h.least u (l, fit) b) i

pub walk_starts : (P : Triple → Type 0) (f : Graph) (p : Pattern) (c : Option Triple) → Next f (from_start p) c → Walked P f p c
walk_starts P f p c h u i fit b = absurd (unanswered f (from_start p) c h u i fit b (omega arith))

-- a step from t past w, where Q holds of what lies from t to w
pub walk_steps : (P Q : Triple → Type 0) (f g : Graph) (p : Pattern) (t w : Triple) (c : Option Triple)
    → Within f g → Next g (past w p) c → Walked P f p (Some t) → ((u : Triple) → P u → Q u)
    → ((u : Triple) → f u ≡ true → Fits p u → code_of t ≤ code_of u → code_of u ≤ code_of w → Q u) → Walked Q f p c
walk_steps P Q f g p t w c grow h was on here u i fit b =
    ⊎_elim
    (λ lt. on u (was u i fit lt))
    (λ ge. ⊎_elim
    (λ gt. absurd (unanswered g (past w p) c h u (grow u i) fit b (omega arith)))
    (λ le. here u i fit ge le)
    (cases_lt (code_of w) (code_of u)))
    (cases_lt (code_of u) (code_of t))

-- how many codes there are from the candidate's on
abbrev pub left : Option Triple → ℕ
left None = 0
left (Some t) = codes - code_of t

pub left_falls : (g : Graph) (p : Pattern) (t w : Triple) (c : Option Triple) → Inside width t → code_of t ≤ code_of w → Next g (past w p) c → left c < left (Some t)
left_falls g p t w None i later h = let l : code_of t < codes = code_below t i in omega arith
left_falls g p t w (Some u) i later h = let l : code_of t < codes = code_below t i in omega (arith, h.asked.0)
