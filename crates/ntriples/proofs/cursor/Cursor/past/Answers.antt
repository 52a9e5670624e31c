use Rattle.ntriples.proofs.Tails.{tail-run}
use Rattle.ntriples.proofs.cursor.Cursor.past.Goals as goal

pub returns-clause-run : goal.returns-clause-run
returns-clause-run g c = tail-run c.args.self.line.now c.args.self.pos c.args.self.within g.C.Class.ranges c.run_len.result c.run_len.ensures
