-- At most one answer is right.
use Rattle.std.proofs.Common.{◌≡◌, List, [], ◌∷◌, ◌++◌, Some, refl, sym, ap, subst, ◌∙◌}
use Rattle.std.specs.Prelude.{All}
use Rattle.std.proofs.lemmas.List.Elements.{All-head, All-tail}
use Rattle.std.proofs.lemmas.Option.{same_Some}
use Rattle.edge_traits.specs.Files.{Files}
use Rattle.data_check.specs.ComparedFiles.{ComparedFile, compared_files, IsSame, IsOther, IsFirstOther}
use Rattle.data_check.specs.ComparedLaws.{NoneWhereSame, OneFirst}
use Rattle.data_check.specs.declared.difference.Difference.{Difference}

module _ (files : Files) where
  -- a file isn't both as it is to be and not so
  not-both : (f e : ComparedFile) → f ≡ e → IsSame (Some files) f → IsOther (Some files) e → ⊥
  not-both f e is same other = other.2 (same_Some other.0 e.bytes (sym other.1 ∙ subst (IsSame (Some files)) is same))

  all-behind : (before after : List ComparedFile) (f : ComparedFile) → All (IsSame (Some files)) (before ++ f ∷ after) → IsSame (Some files) f
  all-behind [] after f all = All-head (IsSame (Some files)) f after all
  all-behind (e ∷ before) after f all = all-behind before after f (All-tail (IsSame (Some files)) e (before ++ f ∷ after) all)

  pub none-first : (fs : List ComparedFile) (d : Difference) → All (IsSame (Some files)) fs → IsFirstOther (Some files) fs d → ⊥
  none-first fs d all h =
      not-both h.file h.file refl (all-behind h.before h.after h.file (subst (All (IsSame (Some files))) h.listed all)) h.ends.other

  one-file : (xs ys us ws : List ComparedFile) (f e : ComparedFile) → All (IsSame (Some files)) xs → All (IsSame (Some files)) ys → IsOther (Some files) f
      → IsOther (Some files) e → xs ++ f ∷ us ≡ ys ++ e ∷ ws → f ≡ e
  one-file [] [] us ws f e all every other another same = cc
  one-file [] (y ∷ ys) us ws f e all every other another same =
      let is : y ≡ f = cc in absurd (not-both y f is (All-head (IsSame (Some files)) y ys every) other)
  one-file (x ∷ xs) [] us ws f e all every other another same =
      let is : x ≡ e = cc in absurd (not-both x e is (All-head (IsSame (Some files)) x xs all) another)
  one-file (x ∷ xs) (y ∷ ys) us ws f e all every other another same =
      let rest : xs ++ f ∷ us ≡ ys ++ e ∷ ws = cc in
      one-file xs ys us ws f e (All-tail (IsSame (Some files)) x xs all) (All-tail (IsSame (Some files)) y ys every) other another rest

  pub one-first : (fs : List ComparedFile) (d e : Difference) → IsFirstOther (Some files) fs d → IsFirstOther (Some files) fs e → d ≡ e
  one-first fs d e h k =
      let file : h.file ≡ k.file = one-file h.before k.before h.after k.after h.file k.file h.same k.same h.ends.other k.ends.other (sym h.listed ∙ k.listed) in
      let node : d.node ≡ e.node = h.ends.node ∙ ap (λ (f : ComparedFile). f.node) file ∙ sym k.ends.node in
      let group : d.group ≡ e.group = h.ends.group ∙ ap (λ (f : ComparedFile). f.group) file ∙ sym k.ends.group in
      ap (λ n. record { node = n; group = d.group }) node ∙ ap (λ i. record { node = e.node; group = i }) group

pub none-where-same : NoneWhereSame
none-where-same files g stack prefix P d all h = none-first files (compared_files g stack prefix P) d all h

pub one-difference : OneFirst
one-difference files g stack prefix P d e h k = one-first files (compared_files g stack prefix P) d e h k
