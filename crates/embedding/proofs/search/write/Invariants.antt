-- The terms of the goal blanks before this one are written.
use Rattle.embedding.specs.Searching.{Written}
use Rattle.embedding.proofs.search.write.Given as goal

abbrev pub invariant-loop-blank : goal.invariant-loop-blank
invariant-loop-blank l = Written l.bindings l.blank l.initial.map l.map
