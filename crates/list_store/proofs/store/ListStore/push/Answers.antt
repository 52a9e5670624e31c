-- The record at the end is one triple more.
use Rattle.std.proofs.Common.{◌+◌, take, sym, ap, ◌∙◌, subst, ⊎_elim, arith, length-set}
use Rattle.triples.specs.declared.triple.Triple.{Triple}
use Rattle.triples.specs.Codes.{width, Inside}
use Rattle.triples.specs.Sets.{Graph, size, among}
use Rattle.triples.proofs.Sizes.{size-adding}
use Rattle.triples.proofs.Graphs.{adding_cases}
use Rattle.list_store.proofs.Among.{among-put}
use Rattle.list_store.proofs.store.ListStore.push.Goals as goal

pub invariant_of-self : goal.invariant_of-self
invariant_of-self c =
    let s = c.args.self.now in
    let t : Triple = c.args.triple in
    let f : Graph = among (take s.len s.records.now) in
    let put = among-put s.records.now s.len t c.requires.1 in
    let inside : Inside width t = (omega arith, omega arith, omega arith) in
    record {
      room = (simp length-set (omega arith), simp length-set (omega arith));
      counted = ap size put ∙ size-adding f t inside c.requires.0 ∙ ap (λ n. n + 1) s.counted;
      within = λ u h. ⊎_elim (λ e. subst (Inside width) (sym e) inside) (s.within u) (adding_cases f t u (ap (λ (g : Graph). g u) (sym put) ∙ h));
    }

pub returns-clause-more : goal.returns-clause-more
returns-clause-more c = among-put c.args.self.now.records.now c.args.self.now.len c.args.triple c.requires.1
