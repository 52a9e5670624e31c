use Rattle.std.proofs.Common.{◌≡◌, ◌+◌, true, get_or, refl, ◌∙◌, arith}
use Rattle.grammar.specs.Regular.{inside}
use Rattle.grammar.specs.Productions.{escape_letter}
use Rattle.grammar.specs.Scanner.{string, escape}
use Rattle.grammar.proofs.Steps.{by_byte}
use Rattle.grammar.proofs.Moves.{string_stuck, escape-letter}
use Rattle.grammar.proofs.Builds.{build_escape}
use Rattle.ntriples.proofs.cursor.Cursor.escape.Goals as goal
use Rattle.ntriples.proofs.cursor.Cursor.escape.Goals.{in_default-via-in-Some+else-contains, in_default-via-in_default}

pub returns-in-Some-clause-found : goal.returns-in-Some-clause-found
returns-in-Some-clause-found c =
    let letter = c.advance-letter.ensures in
    let here = rw (letter.same, letter.next) at c.in-Some.ensures in
    let i : inside escape_letter (get_or c.args.self.line.now (c.args.self.pos + 1) 0) ≡ true = cc here.1 in (
      c.advance.ensures.same ∙ letter.same,
      omega arith,
      rw (c.advance.ensures.next, letter.next) (build_escape c.args.self.line.now c.args.self.pos c.requires.here.0 c.requires.here.1 here.0 i),
    )

pub returns-in-Some-clause-goes : goal.returns-in-Some-clause-goes
returns-in-Some-clause-goes c =
    let bs = c.args.self.line.now in
    let letter = c.advance-letter.ensures in
    let here = rw (letter.same, letter.next) at c.in-Some.ensures in
    let i : inside escape_letter (get_or bs (c.args.self.pos + 1) 0) ≡ true = cc here.1 in
    λ s h. rw (c.advance.ensures.next, letter.next) (escape-letter s bs (c.args.self.pos + 1) here.0 i (by_byte s bs c.args.self.pos 92 string escape h c.requires.here.0 c.requires.here.1 refl))

pub returns-in_default-clause-goes : goal.returns-in_default-clause-goes
returns-in_default-clause-goes c =
    let bs = c.args.self.line.now in
    let letter = c.advance-letter.ensures in
    let halts = rw (letter.same, letter.next) at c.stuck_escape.ensures.halts in
    λ s h. halts s (string_stuck s bs (c.args.self.pos + 1) (by_byte s bs c.args.self.pos 92 string escape h c.requires.here.0 c.requires.here.1 refl) (λ l.
    elim c.in_default.branch [
      | in_default-via-in-Some+else-contains w ↦ (let here = rw (letter.same, letter.next) at w.in-Some.ensures in cc here.1)
      | in_default-via-in_default w ↦ absurd (let here = rw (letter.same, letter.next) at w.in_default.ensures in omega (arith, here))
    ]))
