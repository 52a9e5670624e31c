use Rattle.std.proofs.Common.{◌≡◌, ◌+◌, ◌-◌, ◌<◌, ◌≤◌, false, length, get_or}
use Rattle.grammar.specs.Regular.{Spells, inside}
use Rattle.grammar.specs.Productions.{string_char}
use Rattle.grammar.specs.Scanner.{State, string, Stands, piece}
use Rattle.grammar.proofs.Builds.{units}
use Rattle.ntriples.proofs.cursor.Cursor.string.Given as goal

abbrev pub invariant-loop-end : goal.invariant-loop-end
invariant-loop-end l = record {
  same : l.end.line ≡ l.self.line;
  forward : l.self.pos + 1 ≤ l.end.pos;
  past : l.end.pos < length l.self.line.now → inside string_char (get_or l.self.line.now l.end.pos 0) ≡ false;
  chars : Spells units (piece l.self.line.now (l.self.pos + 1) l.end.pos);
  stands : (s : State) → Stands s l.self.line.now (l.self.pos + 1) string → Stands s l.self.line.now l.end.pos string;
}

abbrev pub decreases-loop-end : goal.decreases-loop-end
decreases-loop-end l = length l.self.line.now - l.end.pos
