-- Words that are 0 hold no triple.
use Rattle.std.proofs.Common.{ap, ◌∙◌}
use Rattle.triples.specs.Sets.{size}
use Rattle.triples.proofs.Sizes.{size-empty}
use Rattle.cube_store.proofs.Marks.{bits_none}
use Rattle.cube_store.proofs.cube.Words.wipe.Goals as goal

pub returns-clause-wiped : goal.returns-clause-wiped
returns-clause-wiped c = bits_none c.wipe.new.words c.wipe.ensures

pub returns-clause-counted : goal.returns-clause-counted
returns-clause-counted c = ap size (bits_none c.wipe.new.words c.wipe.ensures) ∙ size-empty
