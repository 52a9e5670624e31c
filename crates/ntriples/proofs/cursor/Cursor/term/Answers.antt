use Rattle.std.proofs.lemmas.Result.{err_from_is_err_and}
use Rattle.ntriples.proofs.cursor.Cursor.term.Goals as goal

pub returns-in_err-end-clause-goes : goal.returns-in_err-end-clause-goes
returns-in_err-end-clause-goes g c =
    let p = err_from_is_err_and c.from_residual.result c.from_residual.ensures.1 in
    rw (p.1, p.2) (λ s n t o h. c.in_err-end.ensures.goes s n t o h)

pub returns-clause-goes : goal.returns-clause-goes
returns-clause-goes g c = λ s n t o h. c.in_ok-end.ensures.goes s n t o h
