-- The first records have no triple twice.
use Rattle.std.proofs.Common.{arith}
use Rattle.triples.specs.Codes.{triple_of}
use Rattle.list_store.proofs.Among.{among_first}
use Rattle.list_store.proofs.Growth.{first_counted}
use Rattle.list_store.proofs.store.ListStore.truncate.Goals as goal

pub invariant_of-self-clause-counted : goal.invariant_of-self-clause-counted
invariant_of-self-clause-counted c =
    let s = c.args.self.now in
    first_counted s.records.now (triple_of 0) s.len c.min-self.result s.room.1 (omega (arith, c.min-self.ensures)) s.counted

pub invariant_of-self-clause-within : goal.invariant_of-self-clause-within
invariant_of-self-clause-within c =
    let s = c.args.self.now in
    λ t h. s.within t (among_first s.records.now c.min-self.result s.len t (omega (arith, c.min-self.ensures)) h)
