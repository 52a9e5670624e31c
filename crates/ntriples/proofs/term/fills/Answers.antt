use Rattle.std.proofs.Common.{rules, ◌∙◌}
use Rattle.std.proofs.lemmas.Result.{MatchResult-weaker}
use Rattle.grammar.specs.Scanner.{thing, dot, before}
use Rattle.ntriples.proofs.TermKinds.{fills-yes, fills-no, opened, opened-opens, opened-stands}
use Rattle.ntriples.proofs.term.fills.Goals as goal

pub returns-in-Some-clause-yes : goal.returns-in-Some-clause-yes
returns-in-Some-clause-yes g c =
    fills-yes g.F.Form.kind c.args.text.now c.is_ok_and.result c.end.result
    (MatchResult-weaker c.end.result (rw (c.new-start.ensures.line, c.new-start.ensures.start) at c.end.ensures.found) (λ e h. (rw h.0 at e.within, h.2)) (λ f h. tt))
    (MatchResult-weaker c.end.result c.is_ok_and.ensures (λ e h. search rules) (λ f h. h))

pub returns-in-Some-clause-no : goal.returns-in-Some-clause-no
returns-in-Some-clause-no g c =
    let k = g.F.Form.kind in
    let bs = c.args.text.now in
    let here = rw (c.new-start.ensures.line, c.new-start.ensures.start) at c.in-Some.ensures in
    let goes = rw (c.new-start.ensures.line, c.new-start.ensures.start) at c.end.ensures.goes in
    fills-no k bs c.is_ok_and.result c.end.result
    (MatchResult-weaker c.end.result (rw (c.new-start.ensures.line, c.new-start.ensures.start) at c.end.ensures.found) (λ e h. (rw h.0 at e.within, h.2)) (λ f h. tt))
    (goes (before thing) dot (opened k) (opened-opens k) (opened-stands k bs here.0 (here.1 ∙ c.if-b-first.true ∙ c.first.ensures)))
    (MatchResult-weaker c.end.result c.is_ok_and.ensures (λ e h. search rules) (λ f h. h))
