use Rattle.std.proofs.Common.{◌≡◌, ap, ◌∙◌, arith, [], length}
use Rattle.ledger.specs.Ledger.{terms}
use Rattle.ledger.proofs.Extending.{counted}
use Rattle.book.proofs.book.Book.new.Goals as goal

pub invariant_of-result : goal.invariant_of-result
invariant_of-result g c =
    let all : length (terms c.new.result) ≡ 30 = ap (λ l. length (terms l)) c.new.ensures ∙ counted [] in
    record { fits = omega (arith, all, (g.S.TripleStore.lawful c.args.store).wide) }
