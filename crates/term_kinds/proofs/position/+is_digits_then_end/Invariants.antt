use Rattle.std.proofs.Common.{length}
use Rattle.term_kinds.proofs.position.+is_digits_then_end.Given as goal

abbrev pub decreases-is_digits_then_end : goal.decreases-is_digits_then_end
decreases-is_digits_then_end l = length l.rest.now
