-- Parts of what a set is filled with, one after another.
use Rattle.std.proofs.Common.{◌≡◌, ℕ, true, List, Ok, Err, Result}
use Rattle.std.proofs.ByRecursion.{All-weaker}
use Rattle.std.specs.Result.{IsErr}
use Rattle.triples.specs.declared.triple.Triple.{Triple}
use Rattle.triples.specs.Sets.{Graph}
use Rattle.entailment.specs.declared.regime.Regime.{Regime}
use Rattle.entailment.specs.declared.regime.Regime.TheVariants.{Simple, Rdf, Rdfs}
use Rattle.entailment.specs.Vocabulary.{#type, #Property, #Resource, #CMP, #domain, #range}
use Rattle.entailment.specs.Starts.{rdf_fixed, rdfs_fixed}
use Rattle.closing.specs.declared.passes.NoRoom.{NoRoom}
use Rattle.closing.specs.declared.kinds.TermKind.{TermKind}
use Rattle.closing.specs.declared.starts.Which.{Which}
use Rattle.closing.specs.declared.starts.Which.TheVariants.{Names, Positions}
use Rattle.closing.specs.Passes.{Within, Grown, Spilt, Outcome, HoldsAll}
use Rattle.closing.specs.Seeds.{HoldsEach, HoldsRdf, HoldsRdfs, HoldsStart, HoldsSeed}
use Rattle.closing.proofs.Growing.{grown_on, spilt_on, grown_fewer, spilt_fewer, broken}

-- f grew to g, which holds what C asks for
abbrev pub Filled : (Graph → Type 0) → Graph → Graph → Type 0
Filled C f g = Grown C f g × C g

module _ {A B C : Graph → Type 0} {f g h : Graph} (one : (other : Graph) → C other → A other) (two : (other : Graph) → C other → B other) where
  -- the second part after the first
  pub filled_on : Grown A f g → Grown B g h → Grown C f h
  filled_on a b = grown_on (grown_fewer (λ other c w. one other c) a) (grown_fewer (λ other c w. two other c) b)

  -- no room in the second part
  pub spilt_after : {m : ℕ} → Grown A f g → Spilt B m g h → Spilt C m f h
  spilt_after a b = spilt_on (grown_fewer (λ other c w. one other c) a) (spilt_fewer (λ other c w. two other c) b)

-- no room in the first part
pub first_broken : (A C : Graph → Type 0) (Done : Type 0) (m : ℕ) (f g : Graph) (r : Result (Unit {0}) NoRoom) → IsErr r → ((other : Graph) → C other → A other)
    → Grown A f g × Spilt A m f g → Outcome C Done m f g r
first_broken A C Done m f g r e one h = broken C Done m f g r e (grown_fewer (λ other c w. one other c) h.0) (spilt_fewer (λ other c w. one other c) h.1)

-- the last part after the others
pub last_part : (A B C : Graph → Type 0) (m : ℕ) (f g h : Graph) → ((other : Graph) → C other → A other) → ((other : Graph) → C other → B other) → (Within g h → B h → C h)
    → Grown A f g → (r : Result (Unit {0}) NoRoom) → Outcome B (B h) m g h r → Outcome C (C h) m f h r
last_part A B C m f g h one two both a (Ok u) b = (filled_on one two a b.0, both b.0.keeps b.1)
last_part A B C m f g h one two both a (Err e) b = (filled_on one two a b.0, spilt_after one two a b.1)

-- what is there stays there
pub all_stay : (ts : List Triple) (f g : Graph) → Within f g → HoldsAll ts f → HoldsAll ts g
all_stay ts f g w = All-weaker (λ t. f t ≡ true) (λ t. g t ≡ true) w ts

pub each_stay : (w : Which) (p o : ℕ) (ks : List TermKind) (f g : Graph) → Within f g → HoldsEach w p o ks f → HoldsEach w p o ks g
each_stay w p o ks f g i h n l k = i _ (h n l k)

pub rdf_stays : (ks : List TermKind) (f g : Graph) → Within f g → HoldsRdf ks f → HoldsRdf ks g
rdf_stays ks f g w h = (all_stay rdf_fixed f g w h.0, each_stay Positions #type #Property ks f g w h.1)

rdfs_stays : (ks : List TermKind) (f g : Graph) → Within f g → HoldsRdfs ks f → HoldsRdfs ks g
rdfs_stays ks f g w h = (
  all_stay rdfs_fixed f g w h.0,
  each_stay Names #type #Resource ks f g w h.1,
  each_stay Positions #type #CMP ks f g w h.2,
  each_stay Positions #domain #Resource ks f g w h.3,
  each_stay Positions #range #Resource ks f g w h.4,
)

start_stays : (r : Regime) (ks : List TermKind) (f g : Graph) → Within f g → HoldsStart r ks f → HoldsStart r ks g
start_stays Simple ks f g w h = tt
start_stays Rdf ks f g w h = rdf_stays ks f g w h
start_stays Rdfs ks f g w h = (rdf_stays ks f g w h.0, rdfs_stays ks f g w h.1)

pub seed_stays : (r : Regime) (ks : List TermKind) (kept : List Triple) (f g : Graph) → Within f g → HoldsSeed r ks kept f → HoldsSeed r ks kept g
seed_stays r ks kept f g w h = (all_stay kept f g w h.0, start_stays r ks f g w h.1)
