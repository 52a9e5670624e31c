-- The trailing zeros of the shifted word lead to its first bit.
use Rattle.cube_store.proofs.WordBits.{first_found}
use Rattle.cube_store.proofs.search.first_bit.Goals as goal

pub returns : goal.returns
returns c = first_found c.args.word c.args.objects.start c.args.objects.end c.ranges.word.fits c.then_some.result c.requires c.then_some.ensures
