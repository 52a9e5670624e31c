use Rattle.std.proofs.Common.{◌≡◌, ◌+◌, ◌<◌, length, get_or, refl, arith}
use Rattle.std.proofs.lemmas.Result.{MatchResult-weaker}
use Rattle.grammar.specs.Scanner.{dot, iri, caret, carets, in_term}
use Rattle.grammar.proofs.Steps.{stuck_at, by_byte, before-ended}
use Rattle.grammar.proofs.Moves.{no_carets}
use Rattle.grammar.proofs.Builds.{build_datatype}
use Rattle.ntriples.proofs.cursor.Cursor.datatype.Goals as goal
use Rattle.ntriples.proofs.cursor.Cursor.datatype.Goals.{in_default-via-in-Some+in_default, in_default-via-in_default}

pub returns-in-Some-eq60-clause-found : goal.returns-in-Some-eq60-clause-found
returns-in-Some-eq60-clause-found c =
    let told = rw (c.advance.ensures.same, c.advance.ensures.next) at c.in_ok-bracket.ensures in
    MatchResult-weaker c.iri.result (rw (told.0, told.1) at c.iri.ensures.found)
    (λ e h. (h.0, omega (arith, h.1), build_datatype c.args.self.line.now c.args.self.pos c.requires.here.0 e.pos c.requires.here.1 told.2.0 told.2.1 (omega (arith, h.1)) h.2))
    (λ f h. h)

pub returns-in-Some-eq60-clause-goes : goal.returns-in-Some-eq60-clause-goes
returns-in-Some-eq60-clause-goes c =
    let bs = c.args.self.line.now in
    let next = c.args.self.pos + 1 in
    let told = rw (c.advance.ensures.same, c.advance.ensures.next) at c.in_ok-bracket.ensures in
    let here = rw (told.0, told.1) at c.in-Some-eq60.ensures in
    let goes = rw (told.0, told.1) at c.iri.ensures.goes in
    λ s h. MatchResult-weaker c.iri.result
    (goes s dot (by_byte s bs (next + 1) 60 carets (iri dot) (by_byte s bs next 94 caret carets h told.2.0 told.2.1 refl) here.0 (omega (arith, here.1)) refl))
    (λ e k. before-ended s bs e.pos dot k)
    (λ f k. k)

pub returns-in_default-clause-goes : goal.returns-in_default-clause-goes
returns-in_default-clause-goes c =
    let bs = c.args.self.line.now in
    let next = c.args.self.pos + 1 in
    let told = rw (c.advance.ensures.same, c.advance.ensures.next) at c.in_ok-bracket.ensures in
    let halts = rw (told.0, told.1) at c.stuck.ensures.halts in
    let other : next + 1 < length bs → get_or bs (next + 1) 0 ≡ 60 → ⊥ =
    elim c.in_default.branch [
      | in_default-via-in-Some+in_default w ↦ (λ l e. let here = rw (told.0, told.1) at w.in_default.ensures in omega (arith, here.1))
      | in_default-via-in_default w ↦ (λ l e. let here = rw (w.in_default.is, told.0, told.1) at c.peek.ensures in omega (arith, here))
    ] in
    λ s h. halts in_term s (stuck_at in_term s bs (next + 1) carets (by_byte s bs next 94 caret carets h told.2.0 told.2.1 refl) refl (λ l. no_carets (get_or bs (next + 1) 0) (other l)) (λ _. refl))
