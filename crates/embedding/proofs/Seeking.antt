-- The turns of the search as its loop makes them: what is so afterwards, and that what remains falls.
use Rattle.std.proofs.Common.{◌≡◌, ℕ, ◌<◌, ◌≤◌, true, List, [], ◌∷◌, length, Some, None, Option, refl, sym, ap, ◌∙◌, subst, ⊎_elim, arith}
use Rattle.triples.specs.declared.triple.Triple.{Triple}
use Rattle.triples.specs.Codes.{width, Inside, code_of}
use Rattle.triples.specs.Sets.{Graph}
use Rattle.triples.specs.Questions.{Next}
use Rattle.walks.specs.Steps.{past}
use Rattle.entailment.specs.declared.goal.GoalRow.{GoalRow}
use Rattle.entailment.specs.Entailment.{put}
use Rattle.embedding.specs.declared.search.Choice.{Choice}
use Rattle.embedding.specs.declared.search.Place.{Place}
use Rattle.embedding.specs.Embeddings.{PutsRows}
use Rattle.embedding.specs.Bound.{Bound, pattern, unify, lowest, NoneBetween}
use Rattle.embedding.specs.Searching.{Agrees, row_at, Hopeful, Keeps, Places, Advances}
use Rattle.embedding.proofs.Openness.{some_open}
use Rattle.embedding.proofs.Remaining.{left_at, left_past, left_on, left_none, left_back, Later}
use Rattle.embedding.proofs.Standing.{State, Going, Ready}
use Rattle.embedding.proofs.Turns.{going, begin, arrive, kept, back, stuck, on, current_below, next_later}
use Rattle.embedding.proofs.Choosing.{choose, chosen_less, chosen_cut}

-- what is later than u is later than t before it
later_than : (t u : Triple) → code_of t ≤ code_of u → (o : Option Triple) → Later (code_of u) o → Later (code_of t) o
later_than t u le None later = tt
later_than t u le (Some v) later = omega arith

-- the search begins with nothing bound and no choice
pub start : (n : ℕ) (set : Graph) (goal : List GoalRow) (bs : Bound) (cs : List Choice) (place : Option Place) → bs ≡ [] → cs ≡ [] → Hopeful set goal bs → Places set goal bs place → State n set goal bs cs place
start n set goal bs cs place none empty hope places =
    subst (λ (ds : List Choice). State n set goal bs ds place) (sym empty)
    (arrive n set goal bs [] place
    (subst (λ (es : Bound). Ready n set goal es []) (sym none) (begin n set goal (subst (Hopeful set goal) none hope)))
    places)

module _ (n : ℕ) (set : Graph) (goal : List GoalRow) (bs : Bound) (cs : List Choice) (place : Option Place) (p : Place) (at : place ≡ Some p) (s : State n set goal bs cs place) where
  abbrev tried : Option Triple → Option Place
  tried o = Some (record { row = p.row; candidate = o })

  left_same : (o : Option Triple) → p.candidate ≡ o → left_at goal bs cs place ≡ left_at goal bs cs (tried o)
  left_same o e = ap (left_at goal bs cs) at ∙ ap (λ (q : Option Triple). left_at goal bs cs (tried q)) e

  -- there is room for a choice more
  pub room_more : (t : Triple) → p.candidate ≡ Some t → length cs < length goal
  room_more t e =
      let g = going n set goal bs cs place p (Some t) at e s in
      omega (arith, g.stands.depth, some_open bs goal p.row g.stands.within g.stands.opened)

  -- no candidate and no choice is left
  pub turn_out : p.candidate ≡ None → cs ≡ [] → (m : ℕ → ℕ) → PutsRows set goal m → ⊥
  turn_out e none =
      let g = going n set goal bs cs place p None at e s in
      stuck n set goal bs p.row (subst (λ (ds : List Choice). Going n set goal bs ds p.row None) none g)

  -- no candidate is left, and the last choice is taken back
  pub turn_back : p.candidate ≡ None → (c : Choice) (ds : List Choice) → cs ≡ c ∷ ds → (es : Bound) → es ≡ lowest c.mark bs → (q : Place) → q.row ≡ c.row → Next set (past c.triple (pattern es (row_at goal c.row))) q.candidate
      → Going n set goal es ds q.row q.candidate × (left_at goal es ds (Some q) < left_at goal bs cs place)
  turn_back e c ds more es cut q row next =
      let g = subst (λ (ks : List Choice). Going n set goal bs ks p.row None) more (going n set goal bs cs place p None at e s) in
      let to : Next set (past c.triple (pattern (lowest c.mark bs) (row_at goal c.row))) q.candidate =
      subst (λ (x : Bound). Next set (past c.triple (pattern x (row_at goal c.row))) q.candidate) cut next in
      let less = left_back goal bs c ds p.row q.candidate g.path.0 (next_later set c.triple (row_at goal c.row) (lowest c.mark bs) q.candidate to) in
      let was : left_at goal bs cs place ≡ left_at goal bs (c ∷ ds) (tried None) = left_same None e ∙ ap (λ (ks : List Choice). left_at goal bs ks (tried None)) more in (
        subst (λ (i : ℕ). Going n set goal es ds i q.candidate) (sym row) (subst (λ (x : Bound). Going n set goal x ds c.row q.candidate) (sym cut) (back n set goal bs c ds p.row q.candidate g to)),
        omega (
          arith,
          was,
          ap (λ (x : Bound). left_at goal x ds (Some (record { row = c.row; candidate = q.candidate }))) cut,
          ap (λ (i : ℕ). left_at goal es ds (Some (record { row = i; candidate = q.candidate }))) row,
          less,
        ),
      )

  module _ (lawful : (t : Triple) → set t ≡ true → Inside n t) (narrow : n ≤ width) (t : Triple) (e : p.candidate ≡ Some t) (es : Bound) where
    g : Going n set goal bs cs p.row (Some t)
    g = going n set goal bs cs place p (Some t) at e s

    -- the candidate cannot be
    pub turn_on : es ≡ bs → ((m : ℕ → ℕ) → Agrees bs m → PutsRows set goal m → put m (row_at goal p.row) ≡ t → ⊥) → (u : Triple) → code_of t ≤ code_of u → NoneBetween (row_at goal p.row) t u → (o : Option Triple)
        → Next set (past u (pattern es (row_at goal p.row))) o → Going n set goal es cs p.row o × (left_at goal es cs (tried o) < left_at goal bs cs place)
    turn_on same fails u later none o next =
        let to : Next set (past u (pattern bs (row_at goal p.row))) o =
        subst (λ (x : Bound). Next set (past u (pattern x (row_at goal p.row))) o) same next in
        let less = left_past goal bs cs p.row t (current_below n set goal lawful narrow bs cs p.row t g) o (later_than t u later o (next_later set u (row_at goal p.row) bs o to)) in (
          subst (λ (x : Bound). Going n set goal x cs p.row o) (sym same) (on n set goal lawful narrow bs cs p.row t o g fails u none to),
          omega (arith, left_same (Some t) e, ap (λ (x : Bound). left_at goal x cs (tried o)) same, less),
        )

    -- the row is made the candidate
    pub turn_in : unify (row_at goal p.row) t bs ≡ Some es → Hopeful set goal es → (j : ℕ) → j ≡ length bs → (ds : List Choice) → Keeps goal es (record { row = p.row; triple = t; mark = j }) cs ds
        → (next : Option Place) → Places set goal es next → State n set goal es ds next × (left_at goal es ds next < left_at goal bs cs place)
    turn_in u hope j is ds keeps next places =
        let c : Choice = record { row = p.row; triple = t; mark = j } in
        let low = current_below n set goal lawful narrow bs cs p.row t g in
        let fewer = chosen_less n set goal lawful narrow bs cs p.row t g es u in
        let cut = chosen_cut n set goal lawful narrow bs cs p.row t g es u j is in
        let ready = kept n set goal es c cs ds (choose n set goal lawful narrow bs cs p.row t g es u j is hope) keeps in
        let less : left_at goal es ds next < left_at goal bs cs (tried (Some t)) =
        ⊎_elim
        (λ d. subst (λ (ks : List Choice). left_at goal es ks next < left_at goal bs cs (tried (Some t))) (sym d) (left_on goal bs cs p.row t low c es next refl cut fewer))
        (λ d. subst (λ (ks : List Choice). left_at goal es ks next < left_at goal bs cs (tried (Some t))) (sym d.0) (left_none goal bs cs p.row t low es next fewer))
        keeps in
        (arrive n set goal es ds next ready places, omega (arith, left_same (Some t) e, less))

    -- either way
    pub turn_advance : (ds : List Choice) (next : Option Place) → Advances set goal p.row t bs cs es ds next → State n set goal es ds next × (left_at goal es ds next < left_at goal bs cs place)
    turn_advance ds next a =
        ⊎_elim
        (λ q.
        let to = turn_on q.bindings q.fails q.over q.later q.none q.candidate q.next in
        subst (λ (x : Option Place). State n set goal es ds x × (left_at goal es ds x < left_at goal bs cs place)) (sym q.place)
        (subst (λ (ks : List Choice). Going n set goal es ks p.row q.candidate × (left_at goal es ks (tried q.candidate) < left_at goal bs cs place)) (sym q.choices) to))
        (λ q. turn_in q.unified q.hopeful (length bs) refl ds q.kept next q.places)
        a
