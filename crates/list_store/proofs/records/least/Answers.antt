-- The items of the chain are the records that answer.
use Rattle.std.proofs.Common.{◌≡◌, filter, map, Option, option_map, ap, sym, subst, ◌∙◌, rules}
use borrow.Author.Tests.{tests}
use denote.Ref.{Bor}
use Rattle.std.proofs.lemmas.Bool.Decides.{same_from_decides}
use Rattle.triples.specs.declared.triple.Triple.{Triple}
use Rattle.triples.specs.Sets.{among}
use Rattle.triples.specs.Questions.{Next}
use Rattle.triples.proofs.Matching.{answers, answers_decides}
use Rattle.list_store.proofs.Leasts.{next_of_least, picked, map-filter}
use Rattle.list_store.proofs.records.least.Goals as goal

pub returns : goal.returns
returns c =
    let ts = c.args.records.now in
    let q = c.args.question in
    let record_of : Bor Triple → Triple = λ x. x.now in
    let m = c.min_by_key.ensures.runs in
    let f = c.filter.ensures.runs m.0 m.0.seen m.1 in
    let i = c.iter.ensures.runs f.0 f.0.seen in
    let items : map record_of m.0.items ≡ filter (answers q) ts =
    ap (map record_of) (f.2.4 (λ x. answers q x.now) (λ x r g h. (search rules, same_from_decides r (answers q x.now) (search (rules, tests)) (answers_decides q x.now)))) ∙ map-filter record_of (answers q) f.0.items ∙ ap (filter (answers q)) (i.4 (f.2.0 ∙ m.2) ∙ search rules) in
    let chosen = c.min_by_key.result in
    subst (λ (r : Option Triple). Next (among ts) q r) (sym c.copied.ensures)
    (next_of_least ts q (map record_of m.0.items) (option_map record_of chosen) items
    (picked record_of m.0 _ _ (λ a r g h. search rules) (λ x j h. search (rules, tests)) chosen m.3))
