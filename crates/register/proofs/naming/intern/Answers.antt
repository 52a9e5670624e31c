use Rattle.std.proofs.Common.{sym, subst}
use Rattle.register.proofs.Interning.{Step, is_error, served, refused}
use Rattle.register.proofs.naming.intern.Goals as goal

pub returns-in_err-intern : goal.returns-in_err-intern
returns-in_err-intern c ts m =
    subst (λ r. Step ts m c.args.spelling.now c.args.side c.args.names.now c.intern.new.self r) (sym (is_error c.from_residual.result _ c.from_residual.ensures.1))
    (refused ts m c.args.spelling.now c.args.side c.args.names.now c.intern.new.self c.in_err-intern.field-0.0 c.in_err-intern.ensures.interns)

pub returns : goal.returns
returns c ts m = served ts m c.args.spelling.now c.args.side c.args.names.now c.intern.new.self c.in_ok-intern.field-0 c.lawful.ensures c.in_ok-intern.ensures.interns
