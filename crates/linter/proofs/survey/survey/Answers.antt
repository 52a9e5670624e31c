use Rattle.std.proofs.Common.{arith}
use Rattle.linter.proofs.Bytes.{lengths}
use Rattle.linter.proofs.Tallies.{tells_room}
use Rattle.linter.proofs.Walks.{passed, counted, exists, only}
use Rattle.linter.proofs.survey.survey.Goals as goal
use Rattle.linter.proofs.survey.survey.Goals.{then-not-is_half_of_pair+in_ok-add, else-not-is_half_of_pair}

pub add-requires : goal.add-requires
add-requires c =
    let w = c.loop-line.invariant in
    tells_room w.seen c.loop-line.survey w.tells (omega (arith, w.few, lengths _ _ _ _ c.in-Some.ensures.reads))

pub loop-line-preserved : goal.loop-line-preserved
loop-line-preserved c =
    let l = c.in-Some.ensures.reads in
    let before = c.loop-line.invariant in
    elim c.if-not-is_half_of_pair.branch [
      | then-not-is_half_of_pair+in_ok-add w ↦
          rw w.survey-is (counted _ _ _ _ _ _ l before w.add.new.self w.judge.result w.judge.ensures.judged w.in_ok-add.ensures w.if-not-is_half_of_pair.ensures)
      | else-not-is_half_of_pair w ↦ rw w.survey-is (passed _ _ _ _ _ _ l before w.if-not-is_half_of_pair.ensures)
    ]

pub returns : goal.returns
returns c =
    let w = c.loop-line.invariant in
    let ended = c.in_default.ensures.reads in
    record { exists = exists _ _ _ _ w ended; only = only _ _ _ _ w ended }
