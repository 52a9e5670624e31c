-- What stands behind the front, and nothing behind another.
use Rattle.std.proofs.Common.{Some, None, sym, ap, ◌∙◌, codes}
use Rattle.std.proofs.lemmas.Bool.Decides.{Decides-eqb}
use Rattle.std.proofs.lemmas.Slice.Eq.{strip_prefix_is}
use Rattle.entailment.specs.Terms.{after, number_then_end}
use Rattle.term_kinds.proofs.Fronts.{after-front, after-other}
use Rattle.term_kinds.proofs.position.is_position.Goals as goal

pub returns-in-Some : goal.returns-in-Some
returns-in-Some c =
    let front = codes "<http://www.w3.org/1999/02/22-rdf-syntax-ns#_" in
    let e = strip_prefix_is Decides-eqb c.args.spelling.now front (Some c.in-Some.rest) c.in-Some.ensures.cases in
    c.is_number_then_end.ensures ∙ ap number_then_end (sym (ap (after front) e ∙ after-front front c.in-Some.rest.now))

pub returns-in-None : goal.returns-in-None
returns-in-None c =
    let front = codes "<http://www.w3.org/1999/02/22-rdf-syntax-ns#_" in
    let e = strip_prefix_is Decides-eqb c.args.spelling.now front None c.in-None.ensures.cases in
    ap number_then_end (sym (after-other front c.args.spelling.now e))
