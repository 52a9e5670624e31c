use Rattle.std.proofs.Common.{◌≡◌, ◌+◌, ◌<◌, length, get_or, sym, refl, ◌∙◌, subst, arith}
use Rattle.std.proofs.lemmas.Result.{MatchResult-weaker}
use Rattle.grammar.specs.Regular.{one, ◌or◌, Is}
use Rattle.grammar.specs.Productions.{part, string_char, ECHAR, UCHAR, STRING_LITERAL_QUOTE}
use Rattle.grammar.specs.Scanner.{Stands, string, quoted, in_term, piece}
use Rattle.grammar.proofs.Slices.{none_yet}
use Rattle.grammar.proofs.Steps.{run-stays, loops_string, stuck_at, by_byte}
use Rattle.grammar.proofs.Moves.{no_string}
use Rattle.grammar.proofs.Builds.{build_string, more-plain, more-escape}
use Rattle.ntriples.proofs.cursor.Cursor.string.Goals as goal
use Rattle.ntriples.proofs.cursor.Cursor.string.Goals.{in_default, in_default-2}

pub loop-end-init : goal.loop-end-init
loop-end-init c =
    let bs = c.args.self.line.now in
    let a = c.args.self.pos + 1 in
    let run = rw (c.advance.ensures.same, c.advance.ensures.next) at c.past-end.ensures.run in
    record {
      same = c.past-end.ensures.same ∙ c.advance.ensures.same;
      forward = run.forward;
      past = run.past;
      chars = more-plain bs a a c.past-end.result.pos (omega arith) run (none_yet bs (one string_char or ECHAR or UCHAR part) a);
      stands = λ s h. run-stays s bs string_char string loops_string a c.past-end.result.pos run h;
    }

pub loop-end-preserved : goal.loop-end-preserved
loop-end-preserved c =
    let bs = c.args.self.line.now in
    let a = c.args.self.pos + 1 in
    let inv = c.loop-end.invariant in
    let next = c.in_ok-escape.field-0.pos in
    let end = c.past-end-in-Some-eq92.result.pos in
    let found = rw inv.same at c.in_ok-escape.ensures.found in
    let goes = rw inv.same at c.in_ok-escape.ensures.goes in
    let run = rw found.0 at c.past-end-in-Some-eq92.ensures.run in
    record {
      same = c.past-end-in-Some-eq92.ensures.same ∙ found.0;
      forward = omega (arith, inv.forward, found.1, run.forward);
      past = run.past;
      chars = more-plain bs a next end (omega (arith, inv.forward, found.1)) run (more-escape bs a c.loop-end.end.pos next inv.forward (omega (arith, found.1)) inv.chars found.2);
      stands = λ s h. run-stays s bs string_char string loops_string next end run (goes s (inv.stands s h));
    }

pub returns-clause-found : goal.returns-clause-found
returns-clause-found c =
    let bs = c.args.self.line.now in
    let pos = c.args.self.pos in
    let inv = c.loop-end.invariant in
    MatchResult-weaker c.expect.result (rw inv.same at c.expect.ensures)
    (λ e h. (
      h.0,
      omega (arith, h.1, inv.forward),
      subst (λ x. Is (STRING_LITERAL_QUOTE part) (piece bs pos x)) (sym h.1) (build_string bs pos c.requires.here.0 c.loop-end.end.pos c.requires.here.1 inv.forward inv.chars h.2.0 h.2.1),
    ))
    (λ f h. h.0)

pub returns-clause-goes : goal.returns-clause-goes
returns-clause-goes c =
    let bs = c.args.self.line.now in
    let end = c.loop-end.end.pos in
    let inv = c.loop-end.invariant in
    let plain : end < length bs → get_or bs end 0 ≡ 92 → ⊥ =
    elim c.match-peek.branch [
      | in_default w ↦ (λ l e. let here = rw inv.same at w.in_default.ensures in omega (arith, here.1))
      | in_default-2 w ↦ (λ l e. let here = rw (w.in_default.is, inv.same) at c.peek.ensures in omega (arith, here))
    ] in
    λ s h. MatchResult-weaker c.expect.result (rw inv.same at c.expect.ensures)
    (λ e k. subst (λ x. Stands s bs x quoted) (sym k.1) (by_byte s bs end 34 string quoted (inv.stands s h) k.2.0 k.2.1 refl))
    (λ f k. k.1 in_term s (λ not_so. stuck_at in_term s bs end string (inv.stands s h) refl (λ l. no_string (get_or bs end 0) (inv.past l) (not_so l) (plain l)) (λ _. refl)))
