use Rattle.std.proofs.Common.{◌≡◌, ◌+◌, ◌-◌, ◌≤◌, length}
use Rattle.grammar.specs.Regular.{Spells, many}
use Rattle.grammar.specs.Productions.{subtag}
use Rattle.grammar.specs.Scanner.{State, at, Stands, Tagged, piece}
use Rattle.ntriples.proofs.cursor.Cursor.tag.Given as goal

abbrev pub invariant-loop-end : goal.invariant-loop-end
invariant-loop-end l = record {
  same : l.end.line ≡ l.self.line;
  forward : l.initial.end.pos ≤ l.end.pos;
  subtags : Spells (many subtag) (piece l.self.line.now l.initial.end.pos l.end.pos);
  stands : (s : State) → Stands s l.self.line.now (l.self.pos + 1) at → Tagged s l.self.line.now l.end.pos;
}

abbrev pub decreases-loop-end : goal.decreases-loop-end
decreases-loop-end l = length l.self.line.now - l.end.pos
