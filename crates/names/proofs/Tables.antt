-- A table of the thirty alone, with a term more, and cut.
use Rattle.std.proofs.Common.{◌≡◌, ℕ, ◌+◌, ◌<◌, ◌≤◌, List, [], ◌∷◌, ◌++◌, length, take, sym, ap, subst, append_assoc, append-nil, arith, length-take}
use Rattle.std.specs.List.{All}
use Rattle.std.proofs.Math.Seq.{take-append-add}
use Rattle.std.proofs.lemmas.List.{length_push}
use Rattle.std.proofs.lemmas.List.Elements.{All-push, All-take}
use Rattle.std.proofs.lemmas.List.Sums.{sum_by_push, sum_by-take-le}
use Rattle.entailment.specs.Terms.{Term, thirty}
use Rattle.names.specs.Terms.{HasSpelling, IsUnknown, IsLawful, HasNoNameTwice, bytes_of, spelled_bytes, most_bytes, most_terms, all_terms, IsTable}
use Rattle.names.proofs.Numbers.{HasNoNameTwice-push, HasNoNameTwice-take}
use Rattle.names.proofs.Beginning.{length_all_terms, thirty-lawful, thirty-once}

pub IsTable-nil : IsTable []
IsTable-nil =
    let e : all_terms [] ≡ thirty = append-nil thirty in
    record {
      few = omega (arith, length_all_terms []);
      short = omega arith;
      lawful = subst (All IsLawful) (sym e) thirty-lawful;
      distinct = subst HasNoNameTwice (sym e) thirty-once;
    }

module _ (more : List Term) (table : IsTable more) where
  pub IsTable-push : (t : Term) → length (all_terms more) < most_terms → spelled_bytes more + bytes_of t ≤ most_bytes → IsLawful t → ((b : List ℕ) → HasSpelling b t → IsUnknown b (all_terms more)) → IsTable (more ++ t ∷ [])
  IsTable-push t few fits lawful new =
      let e : all_terms more ++ t ∷ [] ≡ all_terms (more ++ t ∷ []) = append_assoc thirty more (t ∷ []) in
      record {
        few = omega (arith, ap length e, length_push (all_terms more) t);
        short = omega (arith, sum_by_push bytes_of more t);
        lawful = subst (All IsLawful) e (All-push IsLawful (all_terms more) t table.lawful lawful);
        distinct = subst HasNoNameTwice e (HasNoNameTwice-push (all_terms more) t table.distinct new);
      }

  pub IsTable-take : (k : ℕ) → IsTable (take k more)
  IsTable-take k =
      let e : take (length thirty + k) (all_terms more) ≡ all_terms (take k more) = take-append-add thirty more k in
      record {
        few = omega (arith, length_all_terms (take k more), length_all_terms more, length-take k more, table.few);
        short = omega (arith, sum_by-take-le bytes_of more k, table.short);
        lawful = subst (All IsLawful) e (All-take IsLawful (length thirty + k) (all_terms more) table.lawful);
        distinct = subst HasNoNameTwice e (HasNoNameTwice-take (length thirty + k) (all_terms more) table.distinct);
      }
