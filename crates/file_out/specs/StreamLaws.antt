-- What a stream's file holds after each call, and that its numbers fit.
use Rattle.std.specs.Prelude.{◌≡◌, ℕ, ◌+◌, ◌*◌, ◌^◌, ◌<◌, ◌≤◌, List, [], ◌∷◌, ◌++◌, length, Option, Some, None, refl}
use Rattle.std.specs.List.{flat_map}
use Rattle.std.specs.Option.{ForSome}
use Rattle.std.proofs.Common.{ap, sym, subst, ◌∙◌, append_assoc, append-nil, length-append, arith}
use Rattle.std.proofs.Math.Nat.{mul-le-mul}
use Rattle.std.proofs.lemmas.List.Concat.{flat_map-append}
use Rattle.nd_base.specs.declared.attribute.FileShape.{FileShape}
use Rattle.nd_base.specs.Array.{Array}
use Rattle.nd_base.specs.Forms.{longest_of}
use Rattle.edge_traits.specs.Files.{Files, overwritten, with_file, with_more, HasFile, HasRange, Stands}
use Rattle.edge_traits.specs.FileLaws.{HasFile-with_file, Stands-HasRange, overwritten-middle, with_patch-with_file, file_at-with_more_same}
use Rattle.edge_traits.specs.FileLaws.{file_at-with_patch_same, HasRange-with_file}
use Rattle.cdf_write.specs.Spelling.{word, element_list}
use Rattle.cdf_write.specs.Columns.{columns}
use Rattle.cdf_write.specs.Layout.{magic, record_count, dimensions, attributes, variables, header_length, header, row, layout}
use Rattle.cdf_write.specs.Lengths.{row_length, length_of}
use Rattle.cdf_write.specs.LengthLaws.{longest_of_few, header_length_is, length-header, row_length_is}
use Rattle.file_out.specs.Streams.{Stream, HasRows, begun_file, count_place, with_count}

-- no file has more rows than a word counts
pub rows_few : (shape : FileShape) (room : ℕ) → length_of shape room ≤ longest_of shape.form → room < 2 ^ 32
rows_few shape room within =
    let row : 20 ≤ row_length shape = omega (arith, row_length_is shape) in
    let all : room * 20 ≤ room * row_length shape = mul-le-mul (let same : room ≤ room = omega arith in same) row in
    omega (arith, all, within, longest_of_few shape.form)

-- a header behind its number of records
after_count : FileShape → List ℕ
after_count shape = element_list 10 (dimensions shape)
    ++ (element_list 12 (attributes shape) ++ element_list 11 (variables shape.form (header_length shape) (columns shape)))

header_parts : (shape : FileShape) (numrecs : Option ℕ) → header shape numrecs ≡ magic shape.form ++ (record_count numrecs ++ after_count shape)
unfolding header after_count
header_parts shape numrecs =
    let dims = element_list 10 (dimensions shape) in
    let attrs = element_list 12 (attributes shape) in
    let vars = element_list 11 (variables shape.form (header_length shape) (columns shape)) in
    let front = magic shape.form ++ record_count numrecs in
    append_assoc (front ++ dims) attrs vars ∙ append_assoc front dims (attrs ++ vars)
    ∙ append_assoc (magic shape.form) (record_count numrecs) (dims ++ (attrs ++ vars))

-- the number of records put into a header that left it open, whatever follows
pub overwritten-count : (shape : FileShape) (n : ℕ) (rest : List ℕ)
    → overwritten (header shape None ++ rest) count_place (word n) ≡ header shape (Some n) ++ rest
overwritten-count shape n rest =
    let parts : (numrecs : Option ℕ) → header shape numrecs ++ rest ≡ magic shape.form ++ (record_count numrecs ++ (after_count shape ++ rest)) =
    λ numrecs. ap (λ bytes. bytes ++ rest) (header_parts shape numrecs) ∙ append_assoc (magic shape.form) (record_count numrecs ++ after_count shape) rest
    ∙ ap (λ bytes. magic shape.form ++ bytes) (append_assoc (record_count numrecs) (after_count shape) rest) in
    ap (λ bytes. overwritten bytes count_place (word n)) (parts None)
    ∙ overwritten-middle (magic shape.form) (record_count None) (after_count shape ++ rest) (word n) refl ∙ sym (parts (Some n))

-- one array more
pub begun_file-more : (shape : FileShape) (numrecs : Option ℕ) (arrays : List Array) (a : Array)
    → begun_file shape numrecs (arrays ++ a ∷ []) ≡ begun_file shape numrecs arrays ++ row shape a
begun_file-more shape numrecs arrays a =
    ap (λ rows. header shape numrecs ++ rows) (flat_map-append (row shape) arrays (a ∷ [])
    ∙ ap (λ last. flat_map (row shape) arrays ++ last) (append-nil (row shape a)))
    ∙ sym (append_assoc (header shape numrecs) (flat_map (row shape) arrays) (row shape a))

-- the bytes of the number of records are there from the first call on
pub HasRange-begun_file : (t : Option Files) (name : List ℕ) (shape : FileShape) (numrecs : Option ℕ) (arrays : List Array)
    → HasRange (with_file t name (begun_file shape numrecs arrays)) name count_place 4
HasRange-begun_file t name shape numrecs arrays =
    HasRange-with_file t name (begun_file shape numrecs arrays) count_place 4
    (let both = length-append (header shape numrecs) (flat_map (row shape) arrays) in
    let front = length-header shape numrecs in
    let least = header_length_is shape in
    omega (arith, both, front, least))

-- at its end the file has the layout
pub with_count-begun_file : (t : Option Files) (name : List ℕ) (shape : FileShape) (numrecs : Option ℕ) (arrays : List Array)
    → ForSome numrecs (λ n. n ≡ length arrays) →
    with_count (with_file t name (begun_file shape numrecs arrays)) name numrecs (length arrays) ≡ with_file t name (layout shape arrays)
with_count-begun_file t name shape None arrays h =
    with_patch-with_file t name (begun_file shape None arrays) count_place (word (length arrays))
    ∙ ap (with_file t name) (overwritten-count shape (length arrays) (flat_map (row shape) arrays))
with_count-begun_file t name shape (Some n) arrays h =
    ap (λ m. with_file t name (begun_file shape (Some m) arrays)) (h n refl)

-- a row added
pub HasRows-with_more : (t : Option Files) (file : Stream) (arrays : List Array) (a : Array) → HasRows t file arrays →
    HasRows (with_more t file.name (row file.shape a)) (record file { count = file.count + 1 }) (arrays ++ a ∷ [])
HasRows-with_more None file arrays a h = record {
  all = length-append arrays (a ∷ []) ∙ ap (λ n. n + 1) h.all;
  bytes = tt;
}
HasRows-with_more (Some m) file arrays a h = record {
  all = length-append arrays (a ∷ []) ∙ ap (λ n. n + 1) h.all;
  bytes =
      file_at-with_more_same (Some m) file.name (row file.shape a) (begun_file file.shape file.numrecs arrays) h.bytes
      ∙ ap Some (sym (begun_file-more file.shape file.numrecs arrays a));
}

-- the rows of some arrays more
pub begun_file-rows : (shape : FileShape) (numrecs : Option ℕ) (arrays more : List Array)
    → begun_file shape numrecs (arrays ++ more) ≡ begun_file shape numrecs arrays ++ flat_map (row shape) more
begun_file-rows shape numrecs arrays more =
    ap (λ rows. header shape numrecs ++ rows) (flat_map-append (row shape) arrays more)
    ∙ sym (append_assoc (header shape numrecs) (flat_map (row shape) arrays) (flat_map (row shape) more))

-- and as many rows added
pub HasRows-rows : (t : Option Files) (file : Stream) (arrays more : List Array) → HasRows t file arrays →
    HasRows (with_more t file.name (flat_map (row file.shape) more)) (record file { count = file.count + length more }) (arrays ++ more)
HasRows-rows None file arrays more h = record {
  all = length-append arrays more ∙ ap (λ n. n + length more) h.all;
  bytes = tt;
}
HasRows-rows (Some m) file arrays more h = record {
  all = length-append arrays more ∙ ap (λ n. n + length more) h.all;
  bytes =
      file_at-with_more_same (Some m) file.name (flat_map (row file.shape) more) (begun_file file.shape file.numrecs arrays) h.bytes
      ∙ ap Some (sym (begun_file-rows file.shape file.numrecs arrays more));
}

-- the number of records put in, or there from the start
by_numrecs : (m : Option Files) (name : List ℕ) (shape : FileShape) (numrecs : Option ℕ) (arrays : List Array) → ForSome numrecs (λ n. n ≡ length arrays)
    → HasFile m name (begun_file shape numrecs arrays) →
    HasFile (with_count m name numrecs (length arrays)) name (layout shape arrays)
by_numrecs None name shape None arrays h stands = tt
by_numrecs None name shape (Some n) arrays h stands = tt
by_numrecs (Some m) name shape None arrays h stands =
    file_at-with_patch_same (Some m) name count_place (word (length arrays)) (begun_file shape None arrays) stands
    ∙ ap Some (overwritten-count shape (length arrays) (flat_map (row shape) arrays))
by_numrecs (Some m) name shape (Some n) arrays h stands = stands ∙ ap (λ k. Some (begun_file shape (Some k) arrays)) (h n refl)

-- a file that holds its rows has the layout at its end
pub HasFile-with_count : (t : Option Files) (file : Stream) (arrays : List Array) → ForSome file.numrecs (λ n. n ≡ file.count) → HasRows t file arrays →
    HasFile (with_count t file.name file.numrecs file.count) file.name (layout file.shape arrays)
HasFile-with_count t file arrays h rows =
    subst (λ count. ForSome file.numrecs (λ n. n ≡ count) → HasFile (with_count t file.name file.numrecs count) file.name (layout file.shape arrays)) rows.all
    (λ given. by_numrecs t file.name file.shape file.numrecs arrays given rows.bytes) h

-- a file that was begun has no rows
pub HasRows-begun : (t u : Option Files) (file : Stream) → file.count ≡ 0 → u ≡ with_file t file.name (header file.shape file.numrecs) → HasRows u file []
HasRows-begun t u file none made = record {
  all = sym none;
  bytes = subst (λ v. HasFile v file.name (begun_file file.shape file.numrecs []))
      (sym (made ∙ ap (with_file t file.name) (sym (append-nil (header file.shape file.numrecs)))))
      (HasFile-with_file t file.name (begun_file file.shape file.numrecs []));
}

-- the bytes of its number of records are there, whatever rows it has
pub HasRange-HasRows : (t : Option Files) (file : Stream) (arrays : List Array) → HasRows t file arrays → HasRange t file.name count_place 4
HasRange-HasRows None file arrays h = tt
HasRange-HasRows (Some m) file arrays h =
    let both = length-append (header file.shape file.numrecs) (flat_map (row file.shape) arrays) in
    let front = length-header file.shape file.numrecs in
    let least = header_length_is file.shape in
    (begun_file file.shape file.numrecs arrays, h.bytes, omega (arith, both, front, least))

pub Stands-HasRows : (t : Option Files) (file : Stream) (arrays : List Array) → HasRows t file arrays → Stands t file.name
Stands-HasRows t file arrays h = Stands-HasRange t file.name count_place 4 (HasRange-HasRows t file arrays h)
