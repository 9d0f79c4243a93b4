-- The file of a group, row by row.
use Rattle.std.proofs.Common.{◌≡◌, ℕ, ◌+◌, ◌<◌, ◌≤◌, List, ◌++◌, Some, length, take, drop, get_or, ap, sym, ◌∙◌, append_assoc}
use Rattle.std.specs.List.{flat_map}
use Rattle.std.proofs.lemmas.List.{length-map, map-append, map_more, take-append-drop, take_all}
use Rattle.std.proofs.lemmas.List.Concat.{flat_map-append}
use Rattle.nd_base.specs.declared.attribute.FileShape.{FileShape}
use Rattle.cdf_write.specs.Layout.{header, row, layout}
use Rattle.file_out.specs.declared.group.Row.{Row}
use Rattle.file_out.specs.Streams.{begun_file}
use Rattle.file_out.specs.StreamLaws.{begun_file-more}
use Rattle.file_out.specs.Groups.{row_array, arrays_of}

-- the layout of a group, from its rows
pub layout-arrays_of : (shape : FileShape) (rows : List Row)
    → layout shape (arrays_of shape rows) ≡ begun_file shape (Some (length rows)) (arrays_of shape rows)
layout-arrays_of shape rows = ap (λ n. begun_file shape (Some n) (arrays_of shape rows)) (length-map rows (row_array shape))

-- all rows are the first i, and others
pub group-front : (shape : FileShape) (rows : List Row) (i : ℕ) →
    (rest : List ℕ) × (layout shape (arrays_of shape rows) ≡ begun_file shape (Some (length rows)) (arrays_of shape (take i rows)) ++ rest)
group-front shape rows i =
    let front = header shape (Some (length rows)) in
    let first = flat_map (row shape) (arrays_of shape (take i rows)) in
    let others = flat_map (row shape) (arrays_of shape (drop i rows)) in
    let parts : arrays_of shape rows ≡ arrays_of shape (take i rows) ++ arrays_of shape (drop i rows) =
    ap (arrays_of shape) (sym (take-append-drop i rows)) ∙ map-append (row_array shape) (take i rows) (drop i rows) in (
      others,
      layout-arrays_of shape rows ∙ ap (λ arrays. front ++ flat_map (row shape) arrays) parts
          ∙ ap (λ bytes. front ++ bytes) (flat_map-append (row shape) (arrays_of shape (take i rows)) (arrays_of shape (drop i rows)))
          ∙ sym (append_assoc front first others),
    )

-- one row more
pub group-more : (shape : FileShape) (rows : List Row) (i : ℕ) (r : Row) → i < length rows → r ≡ get_or rows i r →
    begun_file shape (Some (length rows)) (arrays_of shape (take (i + 1) rows)) ≡ begun_file shape (Some (length rows)) (arrays_of shape (take i rows))
    ++ row shape (row_array shape r)
group-more shape rows i r h is =
    ap (begun_file shape (Some (length rows))) (map_more (row_array shape) rows i r h)
    ∙ begun_file-more shape (Some (length rows)) (arrays_of shape (take i rows)) (row_array shape (get_or rows i r))
    ∙ ap (λ (q : Row). begun_file shape (Some (length rows)) (arrays_of shape (take i rows)) ++ row shape (row_array shape q)) (sym is)

-- all of them
pub group-whole : (shape : FileShape) (rows : List Row) (i : ℕ) → length rows ≤ i
    → begun_file shape (Some (length rows)) (arrays_of shape (take i rows)) ≡ layout shape (arrays_of shape rows)
group-whole shape rows i h = ap (λ all. begun_file shape (Some (length rows)) (arrays_of shape all)) (take_all i rows h) ∙ sym (layout-arrays_of shape rows)
