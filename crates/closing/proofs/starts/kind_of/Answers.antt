use Rattle.std.proofs.Common.{◌-◌, ◌<◌, length, sym, ◌∙◌, arith}
use Rattle.std.proofs.lemmas.List.{get_or_default}
use Rattle.closing.proofs.KindsOfTerms.{kind_past, kind_position, kind_name}
use Rattle.closing.proofs.starts.kind_of.Goals as goal

pub returns-then-number-ge-THIRTY : goal.returns-then-number-ge-THIRTY
returns-then-number-ge-THIRTY c =
    let n = c.args.number in
    let more = c.args.more.now in
    let l : n - 30 < length more = omega arith in
    get_or_default more (n - 30) _ _ l ∙ sym (kind_past more n c.if-number-ge-THIRTY.true)

pub returns-then-number-from : goal.returns-then-number-from
returns-then-number-from c = sym (kind_position c.args.more.now c.args.number (omega arith))

pub returns-else-number-from : goal.returns-else-number-from
returns-else-number-from c = sym (kind_name c.args.more.now c.args.number (omega arith) (λ e. omega arith))
