use Rattle.std.proofs.Common.{arith}
use Rattle.spelling.proofs.Pieces.{plain_first, escape_first}
use Rattle.spelling.proofs.text.next_byte.Goals as goal

pub returns-in_ok-decoded-in-92 : goal.returns-in_ok-decoded-in-92
returns-in_ok-decoded-in-92 c =
    escape_first c.args.text.now _ (omega arith) (omega arith) c.in_ok-decoded-in-92.ensures

pub returns-in-len1-up : goal.returns-in-len1-up
returns-in-len1-up c = plain_first c.args.text.now (grind arith) (λ e. grind arith) (λ e. grind arith)
