-- Certificates of the examples' verdicts, the test that antt computes of them, and what it gives: the examples hold.
use Rattle.std.proofs.Common.{◌≡◌, ℕ, zero, suc, ◌<◌, Bool, true, false, ◌&&◌, T, List, [], ◌∷◌, ◌++◌, map, length, get_or, ltb, ltb→lt, MatchBool, refl, subst}
use Rattle.std.specs.List.{ContainsAt as Has, AllByRecursion, list_all}
use Rattle.std.proofs.ByRecursion.{All-weaker, All-map}
use Rattle.triples.specs.declared.triple.Triple.{Triple}
use Rattle.triples.specs.Sets.{among}
use Rattle.triples.proofs.Triples.{triple_eq}
use Rattle.entailment.specs.declared.regime.Regime.{Regime}
use Rattle.entailment.specs.declared.goal.Position.{Position}
use Rattle.entailment.specs.declared.goal.Position.TheVariants.{Name, Blank}
use Rattle.entailment.specs.declared.goal.GoalRow.{GoalRow}
use Rattle.entailment.specs.Terms.{Term, is_name, thirty}
use Rattle.entailment.specs.Rows.{Slot, the, letter, Form, form, at, reading}
use Rattle.entailment.specs.Starts.{start}
use Rattle.entailment.specs.Closure.{InClosure}
use Rattle.entailment.specs.Entailment.{stands, put, Entails, PositionNamed, RowNamed, OfTerms}
use Rattle.entailment.specs.Examples.{Example, Holds}
use Rattle.entailment.proofs.Basics.{and_left, and_right, all-by_test}
use Rattle.entailment.proofs.Names.{name-within}
use Rattle.entailment.proofs.Within.{of_terms, out as OfTerms-by_test}
use Rattle.entailment.proofs.Soundness.{embedded-entailed}
use Rattle.entailment.proofs.Canonical.{zero_named}
use Rattle.entailment.proofs.Completeness.{entailed-embedded}
use Rattle.entailment.proofs.Among.{among-all, among-has}
use Rattle.entailment.proofs.Matching.{none_known, each_way, one_way}
use Rattle.entailment.proofs.ClosedLists.{is_closed, closed_list}
use Rattle.entailment.proofs.Lines.{Line, is_derivation, derivation_lies}

-- of a yes: a derivation, and the terms of the goal's blanks; of a no: what a closed list has beside the kept triples and the
-- start set
pub data Certificate : Bool → Type 0 where
  derivation : List Line → List ℕ → Certificate true
  closed_set : List Triple → Certificate false

abbrev term_of : List ℕ → ℕ → ℕ
term_of ms k = get_or ms k 0

term_of_lt : (n : ℕ) → 0 < n → (ms : List ℕ) → T (list_all (λ m. ltb m n) ms) → (k : ℕ) → term_of ms k < n
term_of_lt n z [] h k = z
term_of_lt n z (m ∷ ms) h zero = ltb→lt m n (and_left (ltb m n) _ h)
term_of_lt n z (m ∷ ms) h (suc k) = term_of_lt n z ms (and_right (ltb m n) _ h) k

abbrev is_position_named : List Term → Position → Bool
is_position_named ts (Name n) = is_name ts n
is_position_named ts (Blank k) = true

abbrev is_row_named : List Term → GoalRow → Bool
is_row_named ts g = is_position_named ts g.subject && (is_position_named ts g.predicate && is_position_named ts g.object)

PositionNamed-by_test : (ts : List Term) (p : Position) → T (is_position_named ts p) → PositionNamed ts p
PositionNamed-by_test ts (Name n) h = h
PositionNamed-by_test ts (Blank k) h = tt

RowNamed-by_test : (ts : List Term) (g : GoalRow) → T (is_row_named ts g) → RowNamed ts g
RowNamed-by_test ts g h =
    let s = is_position_named ts g.subject in
    let p = is_position_named ts g.predicate in
    let rest = and_right s _ h in (
      PositionNamed-by_test ts g.subject (and_left s _ h),
      PositionNamed-by_test ts g.predicate (and_left p _ rest),
      PositionNamed-by_test ts g.object (and_right p _ rest),
    )

-- a goal's row as a form, whose letters are the goal's blanks
abbrev slot_of : Position → Slot
slot_of (Name n) = the n
slot_of (Blank k) = letter k

abbrev form_of : GoalRow → Form
form_of g = form (slot_of g.subject) (slot_of g.predicate) (slot_of g.object)

stands_at : (m : ℕ → ℕ) (p : Position) → stands (λ n. n) m p ≡ at m (slot_of p)
stands_at m (Name n) = refl
stands_at m (Blank k) = refl

put_reading : (m : ℕ → ℕ) (g : GoalRow) → put m g ≡ reading m (form_of g)
put_reading m g = triple_eq (put m g) (reading m (form_of g)) (stands_at m g.subject) (stands_at m g.predicate) (stands_at m g.object)

module _ (r : Regime) (more : List Term) (kept : List Triple) (goal : List GoalRow) where
  abbrev ts : List Term
  ts = thirty ++ more

  -- whether each of the goal's rows is put among the triples
  abbrev has_goal : List ℕ → List Triple → Bool
  has_goal ms all = list_all (λ g. among all (put (term_of ms) g)) goal

  -- whether a list of triples of terms is closed, and no way to match the goal's rows with its triples is left
  abbrev is_closed_without_goal : List Triple → Bool
  is_closed_without_goal l = list_all (of_terms more) l && (is_closed r l && each_way (λ e. false) l (map form_of goal) none_known)

  abbrev is_valid : {b : Bool} → Certificate b → Bool
  is_valid (derivation ls ms) = list_all (is_row_named ts) goal && (list_all (λ m. ltb m (length ts)) ms && is_derivation r ts kept (has_goal ms) [] ls)
  is_valid (closed_set added) = is_closed_without_goal (kept ++ (start r ts ++ added))

  entails : (ls : List Line) (ms : List ℕ) → T (is_valid (derivation ls ms)) → Entails r ts kept goal
  entails ls ms h =
      let named = list_all (is_row_named ts) goal in
      let below = list_all (λ m. ltb m (length ts)) ms in
      let rest = and_right named _ h in
      let d = derivation_lies r ts kept (has_goal ms) [] tt ls (and_right below _ rest) in
      embedded-entailed r more kept goal (among d.0) (all-by_test (RowNamed ts) (is_row_named ts) (RowNamed-by_test ts) goal (and_left named _ h))
      (among-all (InClosure r ts kept) d.0 d.1)
      (term_of ms, term_of_lt (length ts) (name-within ts 0 (zero_named more)) ms (and_left below _ rest), all-by_test (λ g. T (among d.0 (put (term_of ms) g))) _ (λ g k. k) goal d.2)

  entails_not : (added : List Triple) → T (is_valid (closed_set added)) → Entails r ts kept goal → ⊥
  entails_not added h y =
      let l : List Triple = kept ++ (start r ts ++ added) in
      let inside = list_all (of_terms more) l in
      let rest = and_right inside _ h in
      let e = entailed-embedded r more kept goal (among l) (closed_list r ts kept added (and_left (is_closed r l) _ rest))
      (among-all (OfTerms ts) l (all-by_test (OfTerms ts) (of_terms more) (OfTerms-by_test more) l (and_left inside _ h))) y in
      let has = All-weaker (λ g. T (among l (put e.0 g))) (λ g. Has l (reading e.0 (form_of g))) (λ g m. subst (λ t. Has l t) (put_reading e.0 g) (among-has l (put e.0 g) m)) goal e.2 in
      (one_way e.0 (λ k. false) l (map form_of goal) none_known (λ k. tt) (and_right (is_closed r l) _ rest) (All-map (λ f. Has l (reading e.0 f)) form_of goal has)).2

  verdict : {b : Bool} (c : Certificate b) → T (is_valid c) → MatchBool b (Entails r ts kept goal) (Entails r ts kept goal → ⊥)
  verdict (derivation ls ms) h = entails ls ms h
  verdict (closed_set added) h = entails_not added h

-- a certificate for each example
abbrev pub Certificates : List Example → Type 0
Certificates es = AllByRecursion (λ e. Certificate e.entailed) es

abbrev valid : (e : Example) → Certificate e.entailed → Bool
valid e c = is_valid e.regime e.more e.kept e.goal c

abbrev pub all_check : (es : List Example) → Certificates es → Bool
all_check [] cs = true
all_check (e ∷ es) cs = valid e cs.0 && all_check es cs.1

pub all_hold : (es : List Example) (cs : Certificates es) → T (all_check es cs) → AllByRecursion Holds es
all_hold [] cs h = tt
all_hold (e ∷ es) cs h = (verdict e.regime e.more e.kept e.goal cs.0 (and_left (valid e cs.0) _ h), all_hold es cs.1 (and_right (valid e cs.0) _ h))
