use Rattle.embedding.proofs.Unifying.{no_second, at_last}
use Rattle.embedding.proofs.rows.meet_all.Goals as goal

pub returns-then-not-meet-2 : goal.returns-then-not-meet-2
returns-then-not-meet-2 c =
    no_second c.args.row c.args.triple c.args.bindings.now c.meet.new.bindings c.meet-2.new.bindings c.if-not-meet.ensures c.if-not-meet-2.ensures

pub returns : goal.returns
returns c =
    at_last c.args.row c.args.triple c.args.bindings.now c.meet.new.bindings c.meet-2.new.bindings c.meet-3.new.bindings c.meet-3.result
    c.if-not-meet.ensures c.if-not-meet-2.ensures c.meet-3.ensures
