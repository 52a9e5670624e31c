use Rattle.std.proofs.Common.{◌≡◌, ◌+◌, ◌<◌, length, get_or, sym, refl, ◌∙◌, subst, arith}
use Rattle.std.proofs.lemmas.Result.{MatchResult-weaker}
use Rattle.grammar.specs.Regular.{Is}
use Rattle.grammar.specs.Productions.{part, IRIREF, iri_char}
use Rattle.grammar.specs.Scanner.{Next, State, Stands, iri, before, in_term, piece}
use Rattle.grammar.proofs.Steps.{run-stays, loops_iri, stuck_at, by_byte}
use Rattle.grammar.proofs.Moves.{no_iri, slash_stuck}
use Rattle.grammar.proofs.Builds.{build_iri}
use Rattle.ntriples.proofs.cursor.Cursor.iri.Goals as goal
use Rattle.ntriples.proofs.cursor.Cursor.iri.Goals.{in_default-via-in-Some+in_default, in_default-via-in_default}

pub returns-in-Some-eq92-clause-goes : goal.returns-in-Some-eq92-clause-goes
returns-in-Some-eq92-clause-goes c =
    let bs = c.args.self.line.now in
    let end = c.past-end.result in
    let same = c.past-end.ensures.same ∙ c.advance.ensures.same in
    let run = rw (c.advance.ensures.same, c.advance.ensures.next) at c.past-end.ensures.run in
    let here = rw same at c.in-Some-eq92.ensures in
    let past = c.advance-in-Some-eq92.ensures in
    let halts = rw (past.same, past.next, same) at c.stuck_escape.ensures.halts in
    λ s n h. halts s (slash_stuck s bs end.pos n here.0 (omega (arith, here.1)) (run-stays s bs iri_char (iri n) (loops_iri n) (c.args.self.pos + 1) end.pos run h))

pub returns-in_default-clause-found : goal.returns-in_default-clause-found
returns-in_default-clause-found c =
    let bs = c.args.self.line.now in
    let pos = c.args.self.pos in
    let end = c.past-end.result in
    let run = rw (c.advance.ensures.same, c.advance.ensures.next) at c.past-end.ensures.run in
    MatchResult-weaker c.expect.result (rw (c.past-end.ensures.same, c.advance.ensures.same) at c.expect.ensures)
    (λ e h. (h.0, omega (arith, h.1, run.forward), subst (λ x. Is (IRIREF part) (piece bs pos x)) (sym h.1) (build_iri bs pos c.requires.here.0 end.pos c.requires.here.1 run h.2.0 h.2.1)))
    (λ f h. h.0)

pub returns-in_default-clause-goes : goal.returns-in_default-clause-goes
returns-in_default-clause-goes c =
    let bs = c.args.self.line.now in
    let end = c.past-end.result in
    let same = c.past-end.ensures.same ∙ c.advance.ensures.same in
    let run = rw (c.advance.ensures.same, c.advance.ensures.next) at c.past-end.ensures.run in
    let at : (s : State) (n : Next) → Stands s bs (c.args.self.pos + 1) (iri n) → Stands s bs end.pos (iri n) =
    λ s n h. run-stays s bs iri_char (iri n) (loops_iri n) (c.args.self.pos + 1) end.pos run h in
    let plain : end.pos < length bs → get_or bs end.pos 0 ≡ 92 → ⊥ =
    elim c.in_default.branch [
      | in_default-via-in-Some+in_default w ↦ (λ l e. let here = rw same at w.in_default.ensures in omega (arith, here.1))
      | in_default-via-in_default w ↦ (λ l e. let here = rw (w.in_default.is, same) at c.peek.ensures in omega (arith, here))
    ] in
    λ s n h. MatchResult-weaker c.expect.result (rw same at c.expect.ensures)
    (λ e k. subst (λ x. Stands s bs x (before n)) (sym k.1) (by_byte s bs end.pos 62 (iri n) (before n) (at s n h) k.2.0 k.2.1 refl))
    (λ f k. k.1 in_term s (λ not_so. stuck_at in_term s bs end.pos (iri n) (at s n h) refl (λ l. no_iri n (get_or bs end.pos 0) (run.past l) (not_so l) (plain l)) (λ _. refl)))
