use Rattle.std.proofs.Common.{◌≡◌, ◌+◌, ◌<◌, ℕ, false, true, get_or, ap, inl, inr, ⊎_elim, arith}
use Rattle.std.proofs.lemmas.Bool.{both_ways, cases_eq}
use Rattle.std.proofs.lemmas.Bool.Decides.{nat_tests}
use Rattle.grammar.specs.Documents.{EndsLine}
use Rattle.grammar.specs.Regular.{inside}
use Rattle.ntriples.specs.Cursors.{line_byte}
use Rattle.ntriples.proofs.Tails.{tail-run}
use Rattle.ntriples.proofs.document.line_end.Goals as goal

inside_not : (c : ℕ) → inside line_byte c ≡ true → EndsLine c → ⊥
inside_not c i (inl e) = both_ways (inside line_byte c) (ap (inside line_byte) e) i
inside_not c i (inr e) = both_ways (inside line_byte c) (ap (inside line_byte) e) i

other_in : (c : ℕ) → c < 256 → (c ≡ 10 → ⊥) → (c ≡ 13 → ⊥) → inside line_byte c ≡ true
other_in c l m n = grind (arith, nat_tests)

outside_ends : (c : ℕ) → c < 256 → inside line_byte c ≡ false → EndsLine c
outside_ends c l i =
    ⊎_elim inl (λ m. ⊎_elim inr (λ n. absurd (both_ways (inside line_byte c) i (other_in c l m n))) (cases_eq c 13)) (cases_eq c 10)

pub returns-clause-unbroken : goal.returns-clause-unbroken
returns-clause-unbroken c =
    let run = tail-run c.args.text.now c.args.from c.requires.within line_byte c.run_len.result c.run_len.ensures in
    λ k i j. inside_not _ (run.all k i j)

pub returns-clause-ended : goal.returns-clause-ended
returns-clause-ended c =
    let end = c.args.from + c.run_len.result in
    let run = tail-run c.args.text.now c.args.from c.requires.within line_byte c.run_len.result c.run_len.ensures in
    λ l. outside_ends (get_or c.args.text.now end 0) (omega (arith, c.type_inv.text end)) (run.past l)
