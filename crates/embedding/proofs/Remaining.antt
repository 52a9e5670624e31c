-- A number that falls at every turn of the search: the codes that are still to be tried, weighted by how many rows are open.
use Rattle.std.proofs.Common.{◌≡◌, ℕ, zero, suc, ◌+◌, ◌-◌, ◌*◌, ◌<◌, ◌≤◌, List, [], ◌∷◌, Some, None, Option, ap, ◌∙◌, arith}
use Rattle.std.proofs.Math.Nat.{mul-le-mul_right}
use Rattle.triples.specs.declared.triple.Triple.{Triple}
use Rattle.triples.specs.Codes.{codes, code_of}
use Rattle.entailment.specs.declared.goal.GoalRow.{GoalRow}
use Rattle.embedding.specs.declared.search.Choice.{Choice}
use Rattle.embedding.specs.declared.search.Place.{Place}
use Rattle.embedding.specs.Bound.{Bound, lowest}
use Rattle.embedding.proofs.Openness.{open_rows}

-- more than what fewer open rows count
unfoldable pub weight : ℕ → ℕ
weight zero = 1
weight (suc e) = (codes + 2) * weight e

-- how many triples are still to be tried at a candidate, and one more
abbrev pub rank : Option Triple → ℕ
rank None = 1
rank (Some t) = codes + 1 - code_of t

unfoldable pub spent : List GoalRow → Bound → List Choice → ℕ
spent goal bs [] = 0
spent goal bs (c ∷ cs) = (codes - code_of c.triple) * weight (open_rows (lowest c.mark bs) goal) + spent goal (lowest c.mark bs) cs

unfoldable pub left_at : List GoalRow → Bound → List Choice → Option Place → ℕ
left_at goal bs cs None = 0
left_at goal bs cs (Some p) = spent goal bs cs + rank p.candidate * weight (open_rows bs goal)

-- the candidate comes after the code k
abbrev pub Later : ℕ → Option Triple → Type 0
Later k None = Unit {0}
Later k (Some t) = k < code_of t

rank_later : (t : Triple) (o : Option Triple) → code_of t < codes → Later (code_of t) o → rank o ≤ codes - code_of t
rank_later t None low later = omega arith
rank_later t (Some u) low later = omega arith

rank_le : (o : Option Triple) → rank o ≤ codes + 1
rank_le None = omega arith
rank_le (Some t) = omega arith

weight_some : (e : ℕ) → 0 < weight e
unfolding weight
weight_some zero = omega arith
weight_some (suc e) = omega (arith, weight_some e)

weight_more : (d e : ℕ) → d ≤ e → weight d ≤ weight e
unfolding weight
weight_more zero e le = omega (arith, weight_some e)
weight_more (suc d) zero le = absurd (omega arith)
weight_more (suc d) (suc e) le = omega (arith, weight_more d e (omega arith))

weight_less : (d e : ℕ) → d < e → (codes + 2) * weight d ≤ weight e
unfolding weight
weight_less d zero lt = absurd (omega arith)
weight_less d (suc e) lt = omega (arith, weight_more d e (omega arith))

module _ (goal : List GoalRow) (bs : Bound) (cs : List Choice) (i : ℕ) (t : Triple) (low : code_of t < codes) where
  abbrev here : Place
  here = record { row = i; candidate = Some t }

  -- the next candidate for the row
  pub left_past : (o : Option Triple) → Later (code_of t) o → left_at goal bs cs (Some (record { row = i; candidate = o })) < left_at goal bs cs (Some here)
  unfolding left_at
  left_past o later =
      let w : ℕ = weight (open_rows bs goal) in
      let le : rank o * w ≤ (codes - code_of t) * w = mul-le-mul_right w (rank_later t o low later) in
      let e : codes + 1 - code_of t ≡ suc (codes - code_of t) = omega arith in
      let more : (codes + 1 - code_of t) * w ≡ (codes - code_of t) * w + w = ap (λ (n : ℕ). n * w) e ∙ omega arith in
      omega (arith, le, more, weight_some (open_rows bs goal))

  one_more : (w : ℕ) → (codes + 1 - code_of t) * w ≡ (codes - code_of t) * w + w
  one_more w = let e : codes + 1 - code_of t ≡ suc (codes - code_of t) = omega arith in ap (λ (n : ℕ). n * w) e ∙ omega arith

  -- fewer open rows: whatever is tried for the next row counts less than this row
  counts_less : (ds : Bound) (o : Option Triple) → open_rows ds goal < open_rows bs goal → rank o * weight (open_rows ds goal) < weight (open_rows bs goal)
  counts_less ds o less =
      let v : ℕ = weight (open_rows ds goal) in
      let le : rank o * v ≤ (codes + 1) * v = mul-le-mul_right v (rank_le o) in
      omega (arith, le, weight_less (open_rows ds goal) (open_rows bs goal) less, weight_some (open_rows ds goal))

  -- a choice more
  pub left_on : (c : Choice) (ds : Bound) (next : Option Place) → c.triple ≡ t → lowest c.mark ds ≡ bs → open_rows ds goal < open_rows bs goal → left_at goal ds (c ∷ cs) next < left_at goal bs cs (Some here)
  unfolding left_at spent
  left_on c ds None e cut less = omega (arith, one_more (weight (open_rows bs goal)), weight_some (open_rows bs goal))
  left_on c ds (Some p) e cut less =
      let w : ℕ = weight (open_rows bs goal) in
      let was : (codes - code_of c.triple) * weight (open_rows (lowest c.mark ds) goal) + spent goal (lowest c.mark ds) cs ≡ (codes - code_of t) * w + spent goal bs cs =
      ap (λ (u : Triple). (codes - code_of u) * weight (open_rows (lowest c.mark ds) goal) + spent goal (lowest c.mark ds) cs) e
      ∙ ap (λ (es : Bound). (codes - code_of t) * weight (open_rows es goal) + spent goal es cs) cut in
      omega (arith, was, one_more w, counts_less ds p.candidate less)

  -- no choice is left
  pub left_none : (ds : Bound) (next : Option Place) → open_rows ds goal < open_rows bs goal → left_at goal ds [] next < left_at goal bs cs (Some here)
  unfolding left_at spent
  left_none ds None less = omega (arith, one_more (weight (open_rows bs goal)), weight_some (open_rows bs goal))
  left_none ds (Some p) less = omega (arith, one_more (weight (open_rows bs goal)), counts_less ds p.candidate less)

-- the last choice is taken back
pub left_back : (goal : List GoalRow) (bs : Bound) (c : Choice) (cs : List Choice) (i : ℕ) (o : Option Triple) → code_of c.triple < codes → Later (code_of c.triple) o
    → left_at goal (lowest c.mark bs) cs (Some (record { row = c.row; candidate = o })) < left_at goal bs (c ∷ cs) (Some (record { row = i; candidate = None }))
unfolding left_at spent
left_back goal bs c cs i o low later =
    let w : ℕ = weight (open_rows (lowest c.mark bs) goal) in
    let le : rank o * w ≤ (codes - code_of c.triple) * w = mul-le-mul_right w (rank_later c.triple o low later) in
    omega (arith, le, weight_some (open_rows bs goal))
