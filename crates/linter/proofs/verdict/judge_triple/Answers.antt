use Rattle.std.proofs.lemmas.Result.{err_from_is_err_and}
use Rattle.linter.specs.Verdicts.{short, long_subject, long_predicate, long_object}
use Rattle.linter.proofs.verdict.judge_triple.Goals as goal

pub returns-in_err-measure : goal.returns-in_err-measure
returns-in_err-measure c =
    let p = err_from_is_err_and c.from_residual.result c.from_residual.ensures.1 in
    let told = c.in_err-measure.ensures in
    rw (p.1, p.2, told.1) (long_subject told.0)

pub returns-in_err-measure-2 : goal.returns-in_err-measure-2
returns-in_err-measure-2 c =
    let p = err_from_is_err_and c.from_residual-in_err-measure-2.result c.from_residual-in_err-measure-2.ensures.1 in
    let told = c.in_err-measure-2.ensures in
    rw (p.1, p.2, told.1) (long_predicate c.in_ok-measure.ensures told.0)

pub returns-in_err-measure-3 : goal.returns-in_err-measure-3
returns-in_err-measure-3 c =
    let p = err_from_is_err_and c.from_residual-in_err-measure-3.result c.from_residual-in_err-measure-3.ensures.1 in
    let told = c.in_err-measure-3.ensures in
    rw (p.1, p.2, told.1) (long_object c.in_ok-measure.ensures c.in_ok-measure-2.ensures told.0)

pub returns : goal.returns
returns c = short c.in_ok-measure.ensures c.in_ok-measure-2.ensures c.in_ok-measure-3.ensures
