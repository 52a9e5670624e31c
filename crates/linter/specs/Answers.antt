-- What the linter's answers stand for, and what a survey tells. Assumes nothing.
use Rattle.std.specs.Prelude.{◌≡◌, ℕ, List, map, length, vec_items, Ok, Err, Result}
use Rattle.ntriples.specs.declared.fault.Fault.{Fault as At}
use Rattle.ntriples.specs.Answers.{number as fault_number}
use Rattle.spelling.specs.Answers.{number as long_number}
use Rattle.linter.specs.declared.verdict.Refusal.{Refusal}
use Rattle.linter.specs.declared.verdict.Refusal.TheVariants.{Fault, TooLong}
use Rattle.linter.specs.declared.verdict.Refused.{Refused}
use Rattle.linter.specs.declared.verdict.Content.{Content}
use Rattle.linter.specs.declared.verdict.Content.TheVariants.{Triple, Comment, Empty}
use Rattle.linter.specs.declared.finding.Finding.{Finding}
use Rattle.linter.specs.declared.tally.Survey.{Survey}
use Rattle.linter.specs.Verdicts.{Verdict, is_triple, is_comment, is_empty, refused, triples, comments, empties, Found, refusals}

-- the refusal number
abbrev pub refusal_number : Refusal → ℕ
refusal_number (Fault k) = fault_number k
refusal_number (TooLong t) = long_number t

-- the verdict that an answer stands for
abbrev pub verdict : Result Content Refused → Verdict
verdict (Ok Triple) = is_triple
verdict (Ok Comment) = is_comment
verdict (Ok Empty) = is_empty
verdict (Err e) = refused (refusal_number e.refusal) e.offset

-- a line that cannot be read is refused so
abbrev pub fault_at : At → Refused
fault_at f = record { refusal = Fault f.kind; offset = f.offset }

-- a line is refused so at a term whose spelling is too long
abbrev pub too_long_at : ℕ → Refused
too_long_at k = record { refusal = TooLong (record {}); offset = k }

-- the refused line that a finding stands for
abbrev pub found : Finding → Found
found f = record { line = f.line; number = refusal_number f.refused.refusal; offset = f.refused.offset }

-- the survey tells of lines with these verdicts
pub record Tells (vs : List Verdict) (s : Survey) : Type 0 where
  pub all : s.lines ≡ length vs
  pub with_triple : s.triples ≡ triples vs
  pub with_comment : s.comments ≡ comments vs
  pub with_nothing : s.empty ≡ empties vs
  pub found_are : map found (vec_items s.findings) ≡ refusals 1 vs
