-- What one line more changes in a survey. Assumes nothing.
use Rattle.std.specs.Prelude.{◌≡◌, ℕ, ◌+◌, ◌^◌, ◌<◌, ◌≤◌, cond, List, [], ◌∷◌, ◌++◌, vec_items, Ok, Err, Result}
use Rattle.linter.specs.declared.verdict.Refused.{Refused}
use Rattle.linter.specs.declared.verdict.Content.{Content}
use Rattle.linter.specs.declared.finding.Finding.{Finding}
use Rattle.linter.specs.declared.tally.Survey.{Survey}
use Rattle.linter.specs.Answers.{verdict}
use Rattle.linter.specs.Verdicts.{is_a_triple, is_a_comment, is_nothing}

-- the survey's numbers can go up by one
pub record Room (s : Survey) : Type 0 where
  pub of_lines : s.lines + 1 < 2 ^ 64
  pub of_triples : s.triples ≤ s.lines
  pub of_comments : s.comments ≤ s.lines
  pub of_empty : s.empty ≤ s.lines

-- the findings, where line n more has this verdict
abbrev pub findings_with : List Finding → ℕ → Result Content Refused → List Finding
findings_with fs n (Ok c) = fs
findings_with fs n (Err e) = fs ++ record { line = n; refused = e } ∷ []

-- the second survey is the first and one line more, with its verdict
pub record Added (v : Result Content Refused) (s t : Survey) : Type 0 where
  pub one_line : t.lines ≡ s.lines + 1
  pub triple : t.triples ≡ s.triples + cond (is_a_triple (verdict v)) 1 0
  pub comment : t.comments ≡ s.comments + cond (is_a_comment (verdict v)) 1 0
  pub empty_line : t.empty ≡ s.empty + cond (is_nothing (verdict v)) 1 0
  pub refusal_at : vec_items t.findings ≡ findings_with (vec_items s.findings) (s.lines + 1) v
