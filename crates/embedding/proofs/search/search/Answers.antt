-- What is written embeds.
use Rattle.embedding.proofs.Finding.{found}
use Rattle.embedding.proofs.search.search.Goals as goal

pub returns-then-seek : goal.returns-then-seek
returns-then-seek g c =
    found _ _ c.args.goal.now c.seek.new.bindings c.requires.small c.if-seek.ensures.0 c.if-seek.ensures.1 c.args.map.now c.write.new.map c.requires.map c.write.ensures
