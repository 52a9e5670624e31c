use Rattle.names.proofs.Determined.{interned_once}
use Rattle.names.proofs.table.Names.intern.Goals as goal

pub returns-clause-only : goal.returns-clause-only
returns-clause-only c r more h =
    interned_once c.args.spelling.now c.args.self.now c.lawful.ensures c.args.limit r c.find_or_add.result more c.find_or_add.new.self h c.find_or_add.ensures
