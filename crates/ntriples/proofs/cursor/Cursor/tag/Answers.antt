use Rattle.std.proofs.Common.{◌+◌, arith}
use Rattle.grammar.specs.Productions.{subtag}
use Rattle.grammar.proofs.Slices.{none_yet}
use Rattle.grammar.proofs.Moves.{tag-run}
use Rattle.grammar.proofs.Builds.{build_tag, more-subtag}
use Rattle.ntriples.proofs.cursor.Cursor.tag.Goals as goal

pub loop-end-init : goal.loop-end-init
loop-end-init c =
    let bs = c.args.self.line.now in
    let letters = c.in_ok-end.end.pos in
    let told = rw (c.advance.ensures.same, c.advance.ensures.next) at c.in_ok-end.ensures in
    record { same = told.0; forward = omega arith; subtags = none_yet bs subtag letters; stands = λ s h. tag-run s bs (c.args.self.pos + 1) letters told.2 told.1 h }

pub loop-end-preserved : goal.loop-end-preserved
loop-end-preserved c =
    let inv = c.loop-end.invariant in
    let found = rw inv.same at c.in_ok-end-2.ensures.found in
    let goes = rw inv.same at c.in_ok-end-2.ensures.goes in
    record {
      same = found.0;
      forward = omega (arith, inv.forward, found.1);
      subtags = more-subtag c.args.self.line.now c.in_ok-end.end.pos c.loop-end.end.pos c.in_ok-end-2.end.pos inv.forward (omega (arith, found.1)) inv.subtags found.2;
      stands = λ s h. goes s (inv.stands s h);
    }

pub returns-clause-found : goal.returns-clause-found
returns-clause-found c =
    let inv = c.loop-end.invariant in
    let told = rw (c.advance.ensures.same, c.advance.ensures.next) at c.in_ok-end.ensures in (
      inv.same,
      omega (arith, told.1, inv.forward),
      build_tag c.args.self.line.now c.args.self.pos c.requires.here.0 c.in_ok-end.end.pos c.loop-end.end.pos c.requires.here.1 told.2 told.1 inv.forward inv.subtags,
    )
