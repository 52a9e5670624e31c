-- The empty set has no triples.
use Rattle.triples.proofs.Sizes.{size-empty}
use Rattle.list_store.proofs.store.ListStore.new.Goals as goal

pub invariant_of-result-clause-counted : goal.invariant_of-result-clause-counted
invariant_of-result-clause-counted c = size-empty
