-- One verdict more, and what a survey tells then. Assumes nothing.
use Rattle.std.proofs.Common.{◌≡◌, ℕ, ◌+◌, ◌^◌, ◌<◌, cond, List, [], ◌∷◌, ◌++◌, map, length, vec_items, Ok, Err, Result, sym, ap, ◌∙◌, append_assoc, arith}
use Rattle.std.proofs.lemmas.List.{append-nil, length_push, map_push}
use Rattle.std.proofs.lemmas.List.Sums.{sum_by_push, count_by-le-length}
use Rattle.linter.specs.declared.tally.Survey.{Survey}
use Rattle.linter.specs.declared.finding.Finding.{Finding}
use Rattle.linter.specs.declared.verdict.Refused.{Refused}
use Rattle.linter.specs.declared.verdict.Content.{Content}
use Rattle.linter.specs.declared.verdict.Content.TheVariants.{Triple, Comment, Empty}
use Rattle.linter.specs.Adding.{Room, findings_with, Added}
use Rattle.linter.specs.Answers.{verdict, found, Tells}
use Rattle.linter.specs.Verdicts.{Verdict, is_a_triple, is_a_comment, is_nothing, refusal, refusals}

refusals-more : (n : ℕ) (vs : List Verdict) (v : Verdict) → refusals n (vs ++ v ∷ []) ≡ refusals n vs ++ refusal (n + length vs) v
refusals-more n [] v = append-nil (refusal n v) ∙ ap (λ m. refusal m v) (let z : n ≡ n + 0 = omega arith in z)
refusals-more n (w ∷ vs) v =
    let z : (n + 1) + length vs ≡ n + length (w ∷ vs) = omega arith in
    ap (λ u. refusal n w ++ u) (refusals-more (n + 1) vs v ∙ ap (λ m. refusals (n + 1) vs ++ refusal m v) z) ∙ sym (append_assoc (refusal n w) (refusals (n + 1) vs) (refusal (n + length (w ∷ vs)) v))

found_with : (fs : List Finding) (n : ℕ) (v : Result Content Refused) → map found (findings_with fs n v) ≡ map found fs ++ refusal n (verdict v)
found_with fs n (Ok Triple) = sym (append-nil (map found fs))
found_with fs n (Ok Comment) = sym (append-nil (map found fs))
found_with fs n (Ok Empty) = sym (append-nil (map found fs))
found_with fs n (Err e) = map_push found fs _

module _ (vs : List Verdict) (s : Survey) (h : Tells vs s) where
  pub tells_more : (v : Result Content Refused) (t : Survey) → Added v s t → Tells (vs ++ verdict v ∷ []) t
  tells_more v t a =
      let z : s.lines + 1 ≡ 1 + length vs = omega (arith, h.all) in
      record {
        all = omega (arith, a.one_line, h.all, length_push vs (verdict v));
        with_triple = omega (arith, a.triple, h.with_triple, sum_by_push (λ x. cond (is_a_triple x) 1 0) vs (verdict v));
        with_comment = omega (arith, a.comment, h.with_comment, sum_by_push (λ x. cond (is_a_comment x) 1 0) vs (verdict v));
        with_nothing = omega (arith, a.empty_line, h.with_nothing, sum_by_push (λ x. cond (is_nothing x) 1 0) vs (verdict v));
        found_are = ap (map found) a.refusal_at ∙ found_with (vec_items s.findings) (s.lines + 1) v
            ∙ ap (λ u. u ++ refusal (s.lines + 1) (verdict v)) h.found_are ∙ ap (λ n. refusals 1 vs ++ refusal n (verdict v)) z ∙ sym (refusals-more 1 vs (verdict v));
      }

  pub tells_room : length vs + 1 < 2 ^ 64 → Room s
  tells_room few = record {
    of_lines = omega (arith, h.all);
    of_triples = omega (arith, h.all, h.with_triple, count_by-le-length is_a_triple vs);
    of_comments = omega (arith, h.all, h.with_comment, count_by-le-length is_a_comment vs);
    of_empty = omega (arith, h.all, h.with_nothing, count_by-le-length is_nothing vs);
  }
