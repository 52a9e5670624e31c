use Rattle.std.proofs.Common.{ℕ, get_or, refl, subst, below_more, arith}
use Rattle.std.proofs.lemmas.Bool.{both_ways}
use Rattle.std.proofs.lemmas.List.{get_or_default}
use Rattle.triples.specs.declared.triple.Triple.{Triple}
use Rattle.triples.specs.Codes.{Inside}
use Rattle.closing.proofs.Elements.{all_at, all_by_number}
use Rattle.closing.proofs.closing.are_inside.Goals as goal

pub loop-triple-preserved : goal.loop-triple-preserved
loop-triple-preserved c =
    let xs = c.args.kept.now in
    let i = c.loop-triple.triple-index in
    λ k d. below_more (λ (n : ℕ). Inside c.args.bound (get_or xs n d)) i (λ n l. c.loop-triple.invariant n d l)
    (subst (λ (t : Triple). Inside c.args.bound t) (get_or_default xs i _ d c.loop-triple-test.true) (c.is_inside.ensures.0 c.if-not-is_inside.false)) k

pub returns-then-not-is_inside : goal.returns-then-not-is_inside
returns-then-not-is_inside c = (
  λ no. cc,
  λ all. absurd (both_ways c.is_inside.result c.if-not-is_inside.true (c.is_inside.ensures.1 (all_at (Inside c.args.bound) c.args.kept.now c.loop-triple.triple-index _ c.loop-triple-test.true all))),
)

pub returns : goal.returns
returns c = (λ yes. all_by_number (Inside c.args.bound) c.args.kept.now (λ k d l. c.loop-triple.invariant k d (omega arith)), λ all. refl)
