use Rattle.std.proofs.Common.{length, sym, subst, ⊎_elim, arith}
use Rattle.std.proofs.lemmas.Bool.{cases_lt}
use Rattle.grammar.specs.Documents.{LineAt}
use Rattle.grammar.proofs.Lines.{line_by, line-last}
use Rattle.grammar.proofs.Unique.{one_line}
use Rattle.ntriples.specs.Answers.{reading}
use Rattle.ntriples.proofs.document.line_between.Goals as goal

pub returns : goal.returns
returns c =
    let text = c.args.text.now in
    let from = c.args.from in
    let end = c.args.end in
    let next = c.next_start-next.result in
    let told = c.next_start-next.ensures in
    let r = reading c.read-outcome.result in
    let here = c.requires.here in
    let reads : LineAt text from r next =
    ⊎_elim
    (λ l. subst (LineAt text from r) (sym (told.0 l)) (line_by text from end r here.0 here.1 c.requires.unbroken c.read-outcome.ensures l (c.requires.ended l)))
    (λ l. subst (LineAt text from r) (sym (told.1 l)) (line-last text from end r here.0 here.1 c.requires.unbroken c.read-outcome.ensures (omega (arith, here.2))))
    (cases_lt end (length text)) in
    record { reads = reads; only = λ o n h. one_line text from o r n next h reads }
