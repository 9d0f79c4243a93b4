-- What was compared of a file, and what that says of it.
use Rattle.std.proofs.Common.{◌≡◌, ℕ, ◌<◌, Bool, true, false, List, [], ◌∷◌, ◌++◌, length, map, refl, sym, ap, subst, ◌∙◌}
use Rattle.std.specs.Prelude.{All, Option, Some}
use Rattle.std.specs.List.{flat_map}
use Rattle.std.proofs.lemmas.List.Elements.{All-nil, All-cons}
use Rattle.nd_base.specs.GraphRules.{rule_at}
use Rattle.nd_base.specs.declared.attribute.FileShape.{FileShape}
use Rattle.nd_base.specs.declared.graph.Kind.{Kind}
use Rattle.nd_base.specs.declared.graph.Kind.TheVariants.{Stats}
use Rattle.nd_base.specs.declared.graph.NodeRule.{NodeRule}
use Rattle.nd_base.specs.declared.graph.StatsRule.{StatsRule}
use Rattle.edge_traits.specs.Files.{Files, HasFile}
use Rattle.cdf_write.specs.Layout.{layout}
use Rattle.cdf_write.specs.LengthLaws.{length-layout}
use Rattle.cdf_write.specs.Lengths.{length_of}
use Rattle.cdf_write.specs.Writable.{HasShape}
use Rattle.nd_stats.specs.Row.{row}
use Rattle.chain_plain.specs.OneThread.{measure_of_array}
use Rattle.flow_journal.specs.RunSetting.{work_of}
use Rattle.flow_journal.specs.Unsaved.{is_file}
use Rattle.graph_files.specs.OutFiles.{file_shape}
use Rattle.graph_files.specs.OutgoingLaws.{length-arrays_out}
use Rattle.run_laws.specs.Results.{contents}
use Rattle.flow_saver.specs.HistoryFiles.{kind_rows}
use Rattle.data_check.specs.ComparedFiles.{ComparedFile, HasOther, IsSame, EndsAt, IsDifference, IsFirstOther, file_of}
use Rattle.data_check.specs.Fronts.{FrontValue, GoesOn, IsVerdict}
use Rattle.data_check.specs.Histories.{HistoryValue, IsHistory, arrays_at, all_arrays}
use Rattle.data_check.specs.declared.difference.Difference.{Difference}
use Rattle.data_check.proofs.Finds.{first-one}
use Rattle.data_check.proofs.Fronts.{front-whole, lacks-other}
use Rattle.data_check.proofs.Groups.{all-shaped}
use Rattle.data_check.proofs.Positions.{out-emits}

-- a file of the right size that was compared to its end
pub sized-verdict : (same : Bool) (told : Option Files) (f : FrontValue) (name bytes : List ℕ) → f.name ≡ name → f.size ≡ length bytes
    → GoesOn same told f bytes → IsVerdict same told name bytes
sized-verdict true told f name bytes named size h = subst (λ n. HasFile told n bytes) named (front-whole told f bytes h (h.at ∙ sym size))
sized-verdict false told f name bytes named size h = subst (λ n. HasOther told n bytes) named (lacks-other told f.name bytes h)

-- how long the file of a group is
pub group-length : (h : HistoryValue) (v : ℕ) (shape : FileShape) (ks : List ℕ) → IsHistory h → shape ≡ file_shape h.graph h.stack v
    → All (λ k. k < length h.stack.arrays) ks → length (layout shape (arrays_at h v ks)) ≡ length_of shape (length ks)
group-length h v shape ks known is frames =
    length-layout shape (arrays_at h v ks)
    (subst (λ (sh : FileShape). All (HasShape sh) (arrays_at h v ks)) (sym is) (all-shaped h.graph h.stack v ks known.kept))
    ∙ ap (length_of shape) (length-arrays_out h.graph.nodes h.stack.arrays v ks frames)

flat-map-map : {X Y Z : Type 0} (f : Y → List Z) (g : X → Y) (xs : List X) → flat_map (λ x. f (g x)) xs ≡ flat_map f (map g xs)
flat-map-map f g [] = refl
flat-map-map f g (x ∷ xs) = ap (λ zs. f (g x) ++ zs) (flat-map-map f g xs)

-- the rows of a statistics node are those of the arrays at its positions
pub rows-are : (h : HistoryValue) (v : ℕ) (n : NodeRule) (r : StatsRule) (ks : List ℕ) → IsHistory h → rule_at h.graph.nodes v ≡ Some n → n.kind ≡ Stats r
    → arrays_at h v ks ≡ all_arrays h v
    → kind_rows h.graph h.stack h.past v n.kind ≡ Some (flat_map (λ a. row (measure_of_array r a)) (arrays_at h v ks))
rows-are h v n r ks known rule kind all =
    let out = out-emits h known v n rule (ap (λ (k : Kind). is_file (work_of k)) kind) in
    ap (λ (k : Kind). kind_rows h.graph h.stack h.past v k) kind
    ∙ ap (λ xs. Some (flat_map row (map (measure_of_array r) xs))) (sym (all ∙ ap (contents h.graph.nodes h.stack.arrays) out))
    ∙ ap Some (sym (flat-map-map row (measure_of_array r) (arrays_at h v ks)))

module _ (told : Option Files) (v : ℕ) (name bytes : List ℕ) (o : Option (List ℕ)) (is : o ≡ Some bytes) where
  -- the one file is as it is to be, or isn't
  pub one-same : HasFile told name bytes → All (IsSame told) (file_of v 0 name o)
  one-same has =
      subst (λ p. All (IsSame told) (file_of v 0 name p)) (sym is)
      (All-cons (IsSame told) (record { node = v; group = 0; name = name; bytes = bytes }) [] has (All-nil (IsSame told)))

  pub one-ends : (Ends : ComparedFile → Type 0) → Ends (record { node = v; group = 0; name = name; bytes = bytes }) → EndsAt told (file_of v 0 name o) Ends
  one-ends Ends ends =
      subst (λ p. EndsAt told (file_of v 0 name p) Ends) (sym is)
      (first-one told Ends (record { node = v; group = 0; name = name; bytes = bytes }) ends)

  pub one-other : (d : Difference) → d.node ≡ v → d.group ≡ 0 → HasOther told name bytes → IsFirstOther told (file_of v 0 name o) d
  one-other d node group has = one-ends (IsDifference told d) (record { other = has; node = node; group = group })
