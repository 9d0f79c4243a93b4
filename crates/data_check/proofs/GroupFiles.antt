-- The groups of a file node, one after the other.
use Rattle.std.proofs.Common.{◌≡◌, ℕ, ◌+◌, ◌*◌, ◌<◌, ◌≤◌, min, List, [], ◌∷◌, length, take, drop, refl, sym, ap, subst, ◌∙◌, inl, inr, arith}
use Rattle.std.specs.Prelude.{All, Option, Some}
use Rattle.std.specs.List.{flat_map, range_with_len}
use Rattle.std.proofs.Math.Nat.{add-mul}
use Rattle.std.proofs.lemmas.Bool.{cases_lt}
use Rattle.std.proofs.lemmas.Nat.{mul-le}
use Rattle.std.proofs.lemmas.List.{drop-drop, drop_all, length-take, length-drop, take_all}
use Rattle.std.proofs.lemmas.List.Elements.{All-nil, All-cons}
use Rattle.edge_traits.specs.Files.{Files, HasFile}
use Rattle.nd_base.specs.GraphRules.{rule_at}
use Rattle.nd_base.specs.declared.attribute.FileShape.{FileShape}
use Rattle.nd_base.specs.declared.graph.FileRule.{FileRule}
use Rattle.nd_base.specs.declared.graph.Kind.TheVariants.{File}
use Rattle.nd_base.specs.declared.graph.NodeRule.{NodeRule}
use Rattle.cdf_write.specs.Layout.{layout}
use Rattle.flow_journal.specs.Unsaved.{standing_saves}
use Rattle.graph_files.specs.Groups.{group_of}
use Rattle.graph_files.specs.OutFiles.{file_shape, group_name}
use Rattle.data_check.specs.ComparedFiles.{ComparedFile, HasOther, IsSame, EndsAt, IsDifference, IsFirstOther, group_files}
use Rattle.data_check.specs.Histories.{HistoryValue, IsHistory, arrays_at, all_arrays}
use Rattle.data_check.proofs.Finds.{first-one, first-below, same-below}
use Rattle.data_check.proofs.Groups.{group-some, group-none, part-below}

-- PARTS OF POSITIONS

module _ (count i : ℕ) (ks rest : List ℕ) (mid : ℕ) (here : rest ≡ drop (i * count) ks) (cut : mid ≡ min (length rest) count) where
  -- the next group
  pub split-part : (part : List ℕ) → part ≡ take mid rest → part ≡ group_of count i ks
  split-part part is =
      elim (cases_lt count (length rest)) [
        | inl below ↦ is ∙ (ap (λ m. take m rest) (cut ∙ omega (arith, below)) ∙ ap (take count) here)
        | inr past ↦
            is ∙ (ap (λ m. take m rest) (cut ∙ (let e : min (length rest) count ≡ length rest = omega (arith, past) in e))
            ∙ (take_all (length rest) rest (omega arith) ∙ (sym (take_all count rest past) ∙ ap (take count) here)))
      ]

  -- and what is left behind it
  pub split-rest : (others : List ℕ) → others ≡ drop mid rest → others ≡ drop ((i + 1) * count) ks
  split-rest others is =
      let next : drop count rest ≡ drop ((i + 1) * count) ks =
      ap (drop count) here ∙ (drop-drop count (i * count) ks ∙ ap (λ m. drop m ks) (omega (arith, add-mul i 1 count))) in
      elim (cases_lt count (length rest)) [
        | inl below ↦ is ∙ (ap (λ m. drop m rest) (cut ∙ (let e : min (length rest) count ≡ count = omega (arith, below) in e)) ∙ next)
        | inr past ↦
            is ∙ (ap (λ m. drop m rest) (cut ∙ (let e : min (length rest) count ≡ length rest = omega (arith, past) in e))
            ∙ (drop_all (length rest) rest (omega arith) ∙ (sym (drop_all count rest past) ∙ next)))
      ]

  pub split-some : (part : List ℕ) → part ≡ take mid rest → 1 ≤ count → 1 ≤ length rest → 1 ≤ length part
  split-some part is least some = omega (arith, ap length is, length-take mid rest, cut, least, some)

  pub split-fewer : (part others : List ℕ) → part ≡ take mid rest → others ≡ drop mid rest → length part + length others ≡ length rest
  split-fewer part others is behind = omega (arith, ap length is, ap length behind, length-take mid rest, length-drop mid rest)

-- THE FILE OF ONE GROUP

module _ (h : HistoryValue) (known : IsHistory h) (v : ℕ) (n : NodeRule) (r : FileRule) (rule : rule_at h.graph.nodes v ≡ Some n) (kind : n.kind ≡ File r)
    (ks : List ℕ) (all : arrays_at h v ks ≡ all_arrays h v) (frames : All (λ k. k < length h.stack.arrays) ks) (told : Option Files) where
  abbrev files : ℕ → List ComparedFile
  files = group_files h.graph h.stack h.prefix h.past v n

  module _ (i : ℕ) (part : List ℕ) (is : part ≡ group_of r.count i ks) (some : 1 ≤ length part) (name : List ℕ) (shape : FileShape)
      (named : name ≡ group_name h.prefix n.name i) (shaped : shape ≡ file_shape h.graph h.stack v) where
    one : files i ≡ record { node = v; group = i; name = name; bytes = layout shape (arrays_at h v part) } ∷ []
    one =
        group-some h known v n r rule kind ks all frames i part is some
        ∙ (ap (λ q. record { node = v; group = i; name = q; bytes = layout (file_shape h.graph h.stack v) (arrays_at h v part) } ∷ []) (sym named)
        ∙ ap (λ (sh : FileShape). record { node = v; group = i; name = name; bytes = layout sh (arrays_at h v part) } ∷ []) (sym shaped))

    pub group-same : HasFile told name (layout shape (arrays_at h v part)) → All (IsSame told) (files i)
    group-same has =
        subst (All (IsSame told)) (sym one)
        (All-cons (IsSame told) (record { node = v; group = i; name = name; bytes = layout shape (arrays_at h v part) }) [] has (All-nil (IsSame told)))

    -- the comparison of all ends at it where those before it are as they are to be
    pub group-ends : (Ends : ComparedFile → Type 0) → Ends (record { node = v; group = i; name = name; bytes = layout shape (arrays_at h v part) })
        → ((k : ℕ) → k < i → All (IsSame told) (files k)) → EndsAt told (flat_map files (range_with_len 0 (length (standing_saves v h.past)))) Ends
    group-ends Ends ends before =
        first-below told files Ends (length (standing_saves v h.past)) i (part-below h known v n r rule kind ks all frames i part is some)
        before (subst (λ fs. EndsAt told fs Ends) (sym one)
        (first-one told Ends (record { node = v; group = i; name = name; bytes = layout shape (arrays_at h v part) }) ends))

    pub group-first : HasOther told name (layout shape (arrays_at h v part)) → ((k : ℕ) → k < i → All (IsSame told) (files k))
        → IsFirstOther told (flat_map files (range_with_len 0 (length (standing_saves v h.past)))) (record { node = v; group = i })
    group-first has before = group-ends (IsDifference told (record { node = v; group = i })) (record { other = has; node = refl; group = refl }) before

  -- all groups are as they are to be where those are that have a position
  pub groups-same : (i : ℕ) → length (drop (i * r.count) ks) ≤ 0 → ((k : ℕ) → k < i → All (IsSame told) (files k))
      → All (IsSame told) (flat_map files (range_with_len 0 (length (standing_saves v h.past))))
  groups-same i none before = same-below told files (length (standing_saves v h.past)) (λ k low. elim (cases_lt k i) [
    | inl below ↦ before k below
    | inr past ↦
        let later : i * r.count ≤ k * r.count = mul-le i r.count k r.count past (omega arith) in
        subst (All (IsSame told)) (sym (group-none h known v n r rule kind ks all frames k (omega (arith, later, none, length-drop (i * r.count) ks))))
        (All-nil (IsSame told))
  ])
