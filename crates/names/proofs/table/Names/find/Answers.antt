use Rattle.names.proofs.Determined.{found_once, found_lawful}
use Rattle.names.proofs.table.Names.find.Goals as goal

pub returns-clause-only : goal.returns-clause-only
returns-clause-only c r h = found_once c.args.spelling.now c.args.self.now c.lawful.ensures r c.position.result h c.position.ensures

pub returns-clause-lawful : goal.returns-clause-lawful
returns-clause-lawful c = found_lawful c.args.spelling.now c.args.self.now c.lawful.ensures c.position.result c.position.ensures
