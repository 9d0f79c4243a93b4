-- The file of a list of arrays, part by part.
use Rattle.std.proofs.Common.{◌≡◌, ℕ, ◌≤◌, List, [], ◌∷◌, ◌++◌, Option, Some, length, take, drop, refl, ap, sym, ◌∙◌, arith, append-nil}
use Rattle.std.specs.List.{flat_map}
use Rattle.std.proofs.lemmas.List.{take-append-drop, take_all}
use Rattle.nd_base.specs.declared.attribute.FileShape.{FileShape}
use Rattle.nd_base.specs.Array.{Array}
use Rattle.edge_traits.specs.Files.{Files, with_file, with_more, MayAppend}
use Rattle.edge_traits.specs.FileLaws.{with_more-with_file}
use Rattle.cdf_write.specs.Layout.{header, row, layout}
use Rattle.file_out.specs.declared.fault.SaveFault.{SaveFault}
use Rattle.file_out.specs.BegunLaws.{IsBegun-append, IsBegun-BeginStops}
use Rattle.file_out.specs.Saving.{IsBegun, Front, BeginStops}
use Rattle.file_out.specs.Streams.{begun_file}
use Rattle.file_out.specs.StreamLaws.{begun_file-rows}
use Rattle.stack_file.specs.ChangedStacks.{with_stack_file}
use Rattle.stack_file.specs.Gathered.{part}
use Rattle.stack_file.proofs.Parts.{part-join}

module _ (held : Option Files) (name : List ℕ) (shape : FileShape) where
  -- what stands where there are arrays
  pub with_stack_file-some : (arrays : List Array) → 1 ≤ length arrays → with_stack_file held name shape arrays ≡ with_file held name (layout shape arrays)
  with_stack_file-some [] h = absurd (omega (arith, h))
  with_stack_file-some (a ∷ arrays) h = refl

  -- and where there are none
  pub with_stack_file-none : (arrays : List Array) → length arrays ≡ 0 → with_stack_file held name shape arrays ≡ held
  with_stack_file-none [] h = refl
  with_stack_file-none (a ∷ arrays) h = absurd (omega (arith, h))

module _ (shape : FileShape) (arrays : List Array) where
  -- the header and the rows of the first arrays
  abbrev pub rows_to : ℕ → List ℕ
  rows_to k = begun_file shape (Some (length arrays)) (take k arrays)

  -- the next rows
  rows-part : (from to : ℕ) → from ≤ to → rows_to to ≡ rows_to from ++ flat_map (row shape) (part from to arrays)
  rows-part from to h =
      ap (begun_file shape (Some (length arrays))) (sym (part-join from to arrays h))
      ∙ begun_file-rows shape (Some (length arrays)) (take from arrays) (part from to arrays)

  -- the whole file has the rows of the first arrays, and others
  layout-rows : (k : ℕ) → layout shape arrays ≡ rows_to k ++ flat_map (row shape) (drop k arrays)
  layout-rows k =
      ap (begun_file shape (Some (length arrays))) (sym (take-append-drop k arrays))
      ∙ begun_file-rows shape (Some (length arrays)) (take k arrays) (drop k arrays)

  module _ (t : Option Files) (name : List ℕ) where
    -- a file that was not begun
    pub begin-stops : (u : Option Files) (count : ℕ) (fault : SaveFault) → length arrays ≡ count → BeginStops fault t name (header shape (Some count)) u
        → IsBegun t name (layout shape arrays) u
    begin-stops u count fault same stops =
        IsBegun-BeginStops fault t u name (header shape (Some count)) (flat_map (row shape) arrays) (layout shape arrays)
        (ap (λ n. header shape (Some n) ++ flat_map (row shape) arrays) same) stops

    -- one that was begun has no rows
    pub rows-none : (u : Option Files) (count : ℕ) → length arrays ≡ count → u ≡ with_file t name (header shape (Some count)) → u ≡ with_file t name (rows_to 0)
    rows-none u count same made =
        made ∙ ap (λ n. with_file t name (header shape (Some n))) (sym same)
        ∙ ap (with_file t name) (sym (append-nil (header shape (Some (length arrays)))))

    -- the rows so far are a front of the file
    pub rows-IsBegun : (u : Option Files) (k : ℕ) → u ≡ with_file t name (rows_to k) → IsBegun t name (layout shape arrays) u
    rows-IsBegun u k made = Front (rows_to k) (flat_map (row shape) (drop k arrays)) (layout-rows k) made

    module _ (u v : Option Files) (from to : ℕ) (rows : List ℕ) (h : from ≤ to) (is : rows ≡ flat_map (row shape) (part from to arrays))
        (made : u ≡ with_file t name (rows_to from)) where
      -- so are they with a front of the next ones
      pub rows-stop : MayAppend u name rows v → IsBegun t name (layout shape arrays) v
      rows-stop may =
          IsBegun-append t u v name (rows_to from) rows (flat_map (row shape) (drop to arrays)) (layout shape arrays)
          (layout-rows to ∙ ap (λ bytes. bytes ++ flat_map (row shape) (drop to arrays)) (rows-part from to h ∙ ap (λ bytes. rows_to from ++ bytes) (sym is)))
          made may

      -- with all of the next ones
      pub rows-next : v ≡ with_more u name rows → v ≡ with_file t name (rows_to to)
      rows-next added =
          added ∙ ap (λ w. with_more w name rows) made ∙ with_more-with_file t name (rows_to from) rows
          ∙ ap (with_file t name) (ap (λ bytes. rows_to from ++ bytes) is ∙ sym (rows-part from to h))

    -- with all rows it is whole
    pub rows-whole : (u : Option Files) (k : ℕ) → length arrays ≤ k → u ≡ with_file t name (rows_to k) → u ≡ with_file t name (layout shape arrays)
    rows-whole u k h made = made ∙ ap (λ all. with_file t name (begun_file shape (Some (length arrays)) all)) (take_all k arrays h)
