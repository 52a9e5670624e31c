-- The spans of a table: none yet, one more, and fewer.
use Rattle.std.proofs.Common.{◌≡◌, ℕ, ◌+◌, ◌-◌, ◌<◌, ◌≤◌, List, [], ◌∷◌, ◌++◌, length, get_or, take, set, map, Some, slice_get, refl, sym, ap, ◌∙◌, subst, arith, length-set}
use Rattle.std.proofs.lemmas.List.{length-map, length-take-le, take_more_set, take-take, take-map, map_push, get_or-take, get_or-map, get_or-append_right}
use Rattle.std.proofs.lemmas.Option.{slice_get-get_or}
use Rattle.entailment.specs.Terms.{Term, blank, thirty}
use Rattle.names.specs.declared.span.Span.{Span}
use Rattle.names.specs.Terms.{term_spelled, spelled_bytes, all_terms, most_terms, most_bytes, HasSpelling, IsLawful, IsUnknown, IsTable}
use Rattle.names.specs.Spans.{spelling_in, terms_in, Lie, IsPacked}
use Rattle.names.proofs.Beginning.{length-thirty, length_all_terms}
use Rattle.names.proofs.Tables.{IsTable-nil, IsTable-push, IsTable-take}
use Rattle.names.proofs.Packing.{IsInside, Lie-at, Lie-push, Lie-take, Lie-bytes, bytes_of-term_spelled, terms_in-same}

pub packed_none : (bytes : List ℕ) (spans : List Span) → length bytes ≡ 8192 → length spans ≡ 226 → IsPacked bytes 0 spans 0
unfolding terms_in
packed_none bytes spans b s = record {
  sizes = (b, s);
  within = (omega arith, omega arith);
  lie = refl;
  table = IsTable-nil;
}

terms_in-push : (bytes : List ℕ) (spans : List Span) (s : Span) → terms_in bytes (spans ++ s ∷ []) ≡ terms_in bytes spans ++ term_spelled (spelling_in bytes s) ∷ []
unfolding terms_in
terms_in-push bytes spans s = map_push (λ (x : Span). term_spelled (spelling_in bytes x)) spans s

pub terms_in-take : (bytes : List ℕ) (k n : ℕ) (spans : List Span) → k ≤ n → terms_in bytes (take k spans) ≡ take k (terms_in bytes (take n spans))
unfolding terms_in
terms_in-take bytes k n spans l =
    ap (map (λ (x : Span). term_spelled (spelling_in bytes x))) (sym (take-take k n spans l)) ∙ sym (take-map (λ (x : Span). term_spelled (spelling_in bytes x)) k (take n spans))

module _ (bytes : List ℕ) (used : ℕ) (spans : List Span) (n : ℕ) (packed : IsPacked bytes used spans n) where
  pub length-packed : length (terms_in bytes (take n spans)) ≡ n
  unfolding terms_in
  length-packed = length-map (take n spans) (λ (x : Span). term_spelled (spelling_in bytes x)) ∙ length-take-le n spans (omega (arith, packed.sizes, packed.within))

  pub length-all_packed : length (all_terms (terms_in bytes (take n spans))) ≡ 30 + n
  length-all_packed = length_all_terms (terms_in bytes (take n spans)) ∙ ap (λ m. 30 + m) length-packed

  pub bytes-packed : spelled_bytes (terms_in bytes (take n spans)) ≡ used
  bytes-packed = omega (arith, Lie-bytes bytes 0 used (take n spans) packed.lie (omega (arith, packed.sizes, packed.within)))

  -- a span of the first n lies in the bytes
  pub inside-packed : (k : ℕ) (d : Span) → k < n → IsInside (get_or spans k d) (length bytes)
  inside-packed k d l =
      let at = Lie-at 0 used (take n spans) packed.lie k d (omega (arith, length-take-le n spans (omega (arith, packed.sizes, packed.within)))) in
      let i : IsInside (get_or spans k d) used = subst (λ (s : Span). IsInside s used) (get_or-take n spans k d l) at in
      record { forward = i.forward; within = omega (arith, i.within, packed.sizes, packed.within) }

  -- and spells the term of its number
  pub spells-packed : (number : ℕ) (d : Span) → 30 ≤ number → number - 30 < n → Some (term_spelled (spelling_in bytes (get_or spans (number - 30) d))) ≡ slice_get (all_terms (terms_in bytes (take n spans))) number
  unfolding terms_in
  spells-packed number d low high =
      let f : Span → Term = λ (x : Span). term_spelled (spelling_in bytes x) in
      let ts = terms_in bytes (take n spans) in
      let e : get_or (all_terms ts) number blank ≡ f (get_or spans (number - 30) d) =
      get_or-append_right thirty ts 30 number blank length-thirty low
      ∙ get_or-map f (take n spans) (number - 30) d blank (omega (arith, length-take-le n spans (omega (arith, packed.sizes, packed.within))))
      ∙ ap f (get_or-take n spans (number - 30) d high) in
      ap Some (sym e) ∙ sym (slice_get-get_or (all_terms ts) number blank (omega (arith, length-all_packed)))

  -- cut to fewer
  module _ (k : ℕ) (d : Span) (fewer : k < n) where
    pub IsPacked-cut : IsPacked bytes (get_or spans k d).start spans k
    IsPacked-cut =
        let i = inside-packed k d fewer in
        let long = length-take-le n spans (omega (arith, packed.sizes, packed.within)) in
        let lie : Lie 0 (take k (take n spans)) (get_or (take n spans) k d).start = Lie-take 0 used (take n spans) packed.lie k d (omega (arith, long)) in
        let lie' : Lie 0 (take k spans) (get_or (take n spans) k d).start = subst (λ xs. Lie 0 xs (get_or (take n spans) k d).start) (take-take k n spans (omega arith)) lie in
        record {
          sizes = packed.sizes;
          within = (omega (arith, i.forward, i.within, packed.sizes), omega (arith, packed.within));
          lie = subst (λ (s : Span). Lie 0 (take k spans) s.start) (get_or-take n spans k d fewer) lie';
          table = subst IsTable (sym (terms_in-take bytes k n spans (omega arith))) (IsTable-take (terms_in bytes (take n spans)) packed.table k);
        }

  -- one more, whose spelling b is written behind the others
  module _ (ts : List Term) (is : terms_in bytes (take n spans) ≡ ts) (bytes' : List ℕ) (s : Span) (b : List ℕ) (few : length (all_terms ts) < most_terms) (kept : take used bytes' ≡ take used bytes) (written : spelling_in bytes' s ≡ b) where
    pub one-spans : n < length spans
    one-spans = omega (arith, packed.sizes, few, ap (λ xs. length (all_terms xs)) is, length-all_packed)

    pub terms_in-packed : terms_in bytes' (take (n + 1) (set spans n s)) ≡ ts ++ term_spelled b ∷ []
    terms_in-packed =
        ap (terms_in bytes') (take_more_set spans n s one-spans)
        ∙ terms_in-push bytes' (take n spans) s
        ∙ ap (λ xs. xs ++ term_spelled (spelling_in bytes' s) ∷ []) (terms_in-same bytes' bytes 0 used (take n spans) packed.lie kept ∙ is)
        ∙ ap (λ c. ts ++ term_spelled c ∷ []) written

    pub IsPacked-push : s.start ≡ used → s.end ≡ used + length b → length bytes' ≡ 8192 → spelled_bytes ts + length b ≤ most_bytes → IsLawful (term_spelled b) → ((c : List ℕ) → HasSpelling c (term_spelled b) → IsUnknown c (all_terms ts)) → IsPacked bytes' s.end (set spans n s) (n + 1)
    IsPacked-push starts ends long fits lawful new =
        record {
          sizes = (long, length-set spans n s ∙ packed.sizes.1);
          within = (omega (arith, fits, ends, ap spelled_bytes is, bytes-packed), omega (arith, packed.sizes, one-spans));
          lie = subst (λ xs. Lie 0 xs s.end) (sym (take_more_set spans n s one-spans)) (Lie-push 0 used (take n spans) s packed.lie starts (omega (arith, ends)));
          table = subst IsTable (sym terms_in-packed) (IsTable-push ts (subst IsTable is packed.table) (term_spelled b) few (omega (arith, fits, bytes_of-term_spelled b)) lawful new);
        }
