-- What each turn leaves so, that what remains falls, and what the search comes to.
use Rattle.std.proofs.Common.{◌≤◌, List, length, arith, subst, sym, ap, ◌∙◌}
use Rattle.embedding.specs.declared.search.Choice.{Choice}
use Rattle.embedding.specs.Bound.{Bound, lookup}
use Rattle.embedding.proofs.Meeting.{none_some}
use Rattle.embedding.proofs.Standing.{State}
use Rattle.embedding.proofs.Seeking.{start, room_more, turn_back, turn_advance}
use Rattle.embedding.proofs.search.seek.Goals as goal

pub returns-then-not-is_hopeful : goal.returns-then-not-is_hopeful
returns-then-not-is_hopeful g c = λ e.
    c.if-not-is_hopeful.ensures e.0 (λ k w h. none_some w (sym (ap (λ (bs : Bound). lookup bs k) c.requires.none.0) ∙ h)) e.1.rows

pub loop-place-init : goal.loop-place-init
loop-place-init g c = record {
  room = c.requires.room;
  state = start _ _ c.args.goal.now c.args.bindings.now _ c.next_place-place.result c.requires.none.0 c.requires.none.1 c.if-not-is_hopeful.ensures c.next_place-place.ensures;
}

pub advance-place-requires-clause-room : goal.advance-place-requires-clause-room
advance-place-requires-clause-room g c =
    let i = c.loop-place.invariant in
    omega (arith, i.room, room_more _ _ c.args.goal.now c.loop-place.bindings _ c.loop-place.place c.in-Some.field-0 c.in-Some.is i.state c.in-Some-candidate.triple c.in-Some-candidate.is)

pub loop-place-smaller-in-Some-candidate : goal.loop-place-smaller-in-Some-candidate
loop-place-smaller-in-Some-candidate g c =
    let l = g.S.TripleStore.lawful c.args.store.now in
    (turn_advance _ _ c.args.goal.now c.loop-place.bindings _ c.loop-place.place c.in-Some.field-0 c.in-Some.is c.loop-place.invariant.state l.within l.narrow
    c.in-Some-candidate.triple c.in-Some-candidate.is c.advance-place.new.bindings _ c.advance-place.result c.advance-place.ensures.advances).1

pub loop-place-preserved-in-Some-candidate : goal.loop-place-preserved-in-Some-candidate
loop-place-preserved-in-Some-candidate g c =
    let l = g.S.TripleStore.lawful c.args.store.now in
    record {
      room = omega (arith, c.loop-place.invariant.room, c.advance-place.ensures.room);
      state = (turn_advance _ _ c.args.goal.now c.loop-place.bindings _ c.loop-place.place c.in-Some.field-0 c.in-Some.is c.loop-place.invariant.state l.within l.narrow
          c.in-Some-candidate.triple c.in-Some-candidate.is c.advance-place.new.bindings _ c.advance-place.result c.advance-place.ensures.advances).0;
    }

pub loop-place-smaller : goal.loop-place-smaller
loop-place-smaller g c =
    (turn_back _ _ c.args.goal.now c.loop-place.bindings _ c.loop-place.place c.in-Some.field-0 c.in-Some.is c.loop-place.invariant.state c.in-None.is c.in-Some-pop.choice _ c.in-Some-pop.ensures.pops
    c.take_back.new.bindings c.take_back.ensures.bindings c.take_back.result c.take_back.ensures.row c.take_back.ensures.candidate).1

pub loop-place-preserved : goal.loop-place-preserved
loop-place-preserved g c = record {
  room = subst (λ (xs : List Choice). length c.args.goal.now ≤ length xs) (sym c.in-Some-pop.ensures.slots) c.loop-place.invariant.room;
  state = (turn_back _ _ c.args.goal.now c.loop-place.bindings _ c.loop-place.place c.in-Some.field-0 c.in-Some.is c.loop-place.invariant.state c.in-None.is c.in-Some-pop.choice _ c.in-Some-pop.ensures.pops
      c.take_back.new.bindings c.take_back.ensures.bindings c.take_back.result c.take_back.ensures.row c.take_back.ensures.candidate).0;
}

pub returns : goal.returns
returns g c =
    let l = g.S.TripleStore.lawful c.args.store.now in (
      omega (arith, l.wide),
      subst (State _ _ c.args.goal.now c.loop-place.bindings _) c.in_default.is c.loop-place.invariant.state,
    )
