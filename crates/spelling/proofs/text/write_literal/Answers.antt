use Rattle.std.proofs.lemmas.Result.{err_from_is_err_and}
use Rattle.spelling.proofs.Turns.{first-quote, too_long, turned, all_written}
use Rattle.spelling.proofs.text.write_literal.Goals as goal

pub loop-byte-init : goal.loop-byte-init
loop-byte-init c = λ n d.
    rw (c.in_ok-copy.ensures.written, c.requires.fresh) (first-quote _ c.args.text.now _ n c.in-Some.ensures.cases.0 d)

pub returns-in_err-put : goal.returns-in_err-put
returns-in_err-put c = λ n d.
    let s = c.in-Some-next_byte.ensures in
    let e = err_from_is_err_and c.from_residual-in_err-put.result c.from_residual-in_err-put.ensures.1 in
    rw e.1 (too_long _ _ n (c.loop-byte.invariant n d) _ _ s.0 s.1 _ c.in_err-put.ensures.fits)

pub loop-byte-preserved : goal.loop-byte-preserved
loop-byte-preserved c = λ n d.
    let s = c.in-Some-next_byte.ensures in
    turned _ _ n (c.loop-byte.invariant n d) _ _ s.0 s.1 _ c.in_ok-put.ensures.written

pub returns : goal.returns
returns c = λ n d.
    all_written _ _ n (c.loop-byte.invariant n d) c.in_default-next_byte.ensures _ c.copy-2.result c.copy-2.ensures.fits c.copy-2.ensures.written
