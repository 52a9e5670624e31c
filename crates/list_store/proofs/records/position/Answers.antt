-- The first record that is the same is the one that is found.
use Rattle.std.proofs.Common.{◌≡◌, ◌≢◌, rules}
use borrow.Author.Tests.{tests}
use Rattle.std.proofs.lemmas.Iterator.{YieldsList-from_slice, IsFirst-from_position}
use Rattle.list_store.specs.Records.{Finds}
use Rattle.list_store.proofs.Finding.{finds, finds_some}
use Rattle.list_store.proofs.records.position.Goals as goal

pub returns : goal.returns
returns c =
    let ts = c.args.records.now in
    let t = c.args.triple in
    let r = c.position.result in
    let first : Finds ts t r =
    finds ts t r
    (IsFirst-from_position _ _ r (λ u. u ≡ t) (λ u. u ≢ t) c.position.ensures.ran (YieldsList-from_slice ts (cc))
    (λ x q k. search (rules, tests))
    (λ x q k. search (rules, tests))) in
    record { first = first; found = finds_some ts t r first }
