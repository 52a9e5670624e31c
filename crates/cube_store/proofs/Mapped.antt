-- What find_map gives over a range: what the first number gives that gives something.
use Rattle.std.proofs.Common.{◌≡◌, ℕ, ◌+◌, ◌-◌, ◌<◌, ◌≤◌, IsTrue, Some, None, Option, subst, arith}
use Rattle.std.specs.declared.ops.Range.{Range}
use Rattle.std.specs.Fn.{Called}
use Rattle.std.specs.Option.{IfSome, IsSomeAnd, MatchOption, option_map}
use Rattle.std.specs.Iterator.Runs.{Run, CallKeepsClosure, AllItemsGive, IsFirstToGive}
use Rattle.std.proofs.iter.Yields.{nat_range_steps}
use Rattle.std.proofs.iter.runs.Sources.{range_runs}
use denote.Param.Members.{Mut}

-- r is what P says of the first number from a to below b of which it says something
abbrev pub FirstOf : {B : Type 0} → (ℕ → Option B → Type 0) → ℕ → ℕ → Option B → Type 0
FirstOf P a b None = (x : ℕ) → a ≤ x → x < b → P x None
FirstOf P a b (Some y) = (x : ℕ) × (a ≤ x) × (x < b) × P x (Some y) × ((z : ℕ) → a ≤ z → z < x → P z None)

all_at : (o : Option ℕ) (n : ℕ) (Q : ℕ → Type 0) → option_map (λ y. y) o ≡ Some n → IfSome o Q → Q n
all_at None n Q e h = absurd (cc)
all_at (Some y) n Q e h = let same : y ≡ n = cc in subst Q same h

some_at : (o : Option ℕ) (n : ℕ) (Q : ℕ → Type 0) → option_map (λ y. y) o ≡ Some n → IsSomeAnd o Q → Q n
some_at None n Q e h = absurd h
some_at (Some y) n Q e h = let same : y ≡ n = cc in subst Q same h

module _ {F B : Type 0} (p : Run nat_range_steps) (g : Mut F (ℕ × Unit {0}) (Option B)) (f : F) (keeps : CallKeepsClosure g f) (P : ℕ → Option B → Type 0) (each : (x : ℕ) (r : Option B) → Called g f (x, tt) r f → P x r) where
  first_of : (r : Option B) → MatchOption r (IsTrue p.whole × AllItemsGive p g f None) (λ y. (i : ℕ) × (i < p.len) × (p.len ≡ i + 1) × IsFirstToGive p g f (Some y) None i) → FirstOf P p.from.start p.from.end r
  first_of None h = λ x low high.
      let counts = range_runs p p.seen in
      let all : p.len ≡ p.from.end - p.from.start = counts.1 h.0 in
      let at : p.from.start + (x - p.from.start) ≡ x = omega arith in
      each x None
      (subst (λ z. Called g f (z, tt) None f) at
      (all_at (p.at (x - p.from.start)) _ (λ z. Called g f (z, tt) None f) (counts.3 (x - p.from.start) (omega arith)) (h.1 keeps (x - p.from.start))))
  first_of (Some y) h =
      let counts = range_runs p p.seen in
      let few : p.len ≤ p.from.end - p.from.start = counts.0 in
      let below : h.0 < p.len = h.1 in
      let hit = h.3 keeps in (
        p.from.start + h.0,
        omega arith,
        omega arith,
        each _ (Some y) (some_at (p.at h.0) _ (λ z. Called g f (z, tt) (Some y) f) (counts.3 h.0 h.1) hit.0),
        λ z low lt.
            let at : p.from.start + (z - p.from.start) ≡ z = omega arith in
            each z None
            (subst (λ x. Called g f (x, tt) None f) at
            (some_at (p.at (z - p.from.start)) _ (λ x. Called g f (x, tt) None f) (counts.3 (z - p.from.start) (omega arith)) (hit.1 (z - p.from.start) (omega arith)))),
      )

  pub mapped_first : (s : Range ℕ) (r : Option B) → p.from ≡ s → MatchOption r (IsTrue p.whole × AllItemsGive p g f None) (λ y. (i : ℕ) × (i < p.len) × (p.len ≡ i + 1) × IsFirstToGive p g f (Some y) None i) → FirstOf P s.start s.end r
  mapped_first s r e h = subst (λ (k : Range ℕ). FirstOf P k.start k.end r) e (first_of r h)
