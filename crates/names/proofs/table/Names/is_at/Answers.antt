use Rattle.std.proofs.Common.{sym}
use Rattle.names.specs.Terms.{all_terms}
use Rattle.names.proofs.Numbers.{none-at}
use Rattle.names.proofs.table.Names.is_at.Goals as goal

pub returns-in-None : goal.returns-in-None
returns-in-None c =
    (λ e. cc, λ h. absurd (none-at c.args.spelling.now (all_terms c.args.self.now) c.args.number (sym c.in-None.ensures) h))
