-- Rows that are gathered one after another.
use Rattle.std.proofs.Common.{◌≡◌, ℕ, ◌+◌, ◌<◌, ◌≤◌, List, [], ◌∷◌, ◌++◌, length, ap, sym, subst, ◌∙◌, arith, append-nil, inl, inr}
use Rattle.std.proofs.lemmas.Bool.{cases_lt}
use Rattle.std.specs.List.{flat_map}
use Rattle.std.specs.Prelude.{All}
use Rattle.std.proofs.lemmas.List.Concat.{flat_map-append}
use Rattle.std.proofs.lemmas.List.Elements.{All-nil, All-cons, All-append}
use Rattle.nd_base.specs.declared.attribute.FileShape.{FileShape}
use Rattle.nd_base.specs.Array.{Array}
use Rattle.cdf_write.specs.Layout.{row}
use Rattle.stack_file.specs.Gathered.{IsGiven, IsAdded, AreGathered, part}
use Rattle.stack_file.proofs.Parts.{part-none, part-more}

module _ (shape : FileShape) (arrays : List Array) where
  -- none yet
  pub gathered-none : (from : ℕ) (rows : List ℕ) → rows ≡ [] → AreGathered shape arrays from from rows
  gathered-none from rows none = record {
    given = subst (All (IsGiven shape)) (sym (part-none from arrays)) (All-nil (IsGiven shape));
    bytes = none ∙ ap (flat_map (row shape)) (sym (part-none from arrays));
  }

  -- one more
  pub gathered-more : (from k : ℕ) (old new : List ℕ) → from ≤ k → AreGathered shape arrays from k old → IsAdded shape arrays k old new
      → AreGathered shape arrays from (k + 1) new
  gathered-more from k old new h gathered added =
      let more = part-more from k arrays added.array h added.at in
      record {
        given =
            subst (All (IsGiven shape)) (sym more)
            (All-append (IsGiven shape) (part from k arrays) (added.array ∷ []) gathered.given
            (All-cons (IsGiven shape) added.array [] added.given (All-nil (IsGiven shape))));
        bytes =
            added.rows ∙ ap (λ front. front ++ row shape added.array) gathered.bytes
            ∙ ap (λ last. flat_map (row shape) (part from k arrays) ++ last) (sym (append-nil (row shape added.array)))
            ∙ sym (flat_map-append (row shape) (part from k arrays) (added.array ∷ [])) ∙ ap (flat_map (row shape)) (sym more);
      }

  -- where there are rows, there is an array
  pub gathered-some : (from k : ℕ) (rows : List ℕ) → from ≤ k → AreGathered shape arrays from k rows → 1 ≤ length rows → from < k
  gathered-some from k rows h gathered some =
      let none : from ≡ k → length rows ≡ 0 =
      λ e. ap length (gathered.bytes ∙ ap (flat_map (row shape)) (ap (λ n. part n k arrays) e ∙ part-none k arrays)) in
      elim (cases_lt from k) [
        | inl behind ↦ behind
        | inr here ↦ let zero : length rows ≡ 0 = none (omega (arith, h, here)) in absurd (omega (arith, some, zero))
      ]
