-- Where the values of an array stand in a file in the layout.
use Rattle.std.specs.Prelude.{◌≡◌, ℕ, zero, suc, ◌+◌, ◌*◌, ◌<◌, List, [], ◌∷◌, ◌++◌, length, take, drop, Some, All, refl}
use Rattle.std.specs.List.{flat_map}
use Rattle.std.proofs.Common.{ap, sym, subst, ◌∙◌, append_assoc, arith, get_or}
use Rattle.std.proofs.Math.Nat.{zero-mul, suc-mul}
use Rattle.std.proofs.lemmas.List.{take_at, drop_at, drop-drop}
use Rattle.std.proofs.lemmas.List.Elements.{All-head, All-tail}
use Rattle.nd_base.specs.declared.attribute.Attr.{Attr}
use Rattle.nd_base.specs.declared.attribute.FileShape.{FileShape}
use Rattle.nd_base.specs.Array.{Array}
use Rattle.nd_base.specs.Samples.{width, bytes_of}
use Rattle.nd_base.specs.SampleLaws.{length-bytes_of}
use Rattle.nd_base.specs.Shapes.{sample_count}
use Rattle.cdf_write.specs.Spelling.{signed_word, double_word, gap, fill, padded_length, padded_values}
use Rattle.cdf_write.specs.Columns.{sample_kind}
use Rattle.cdf_write.specs.Layout.{header_length, header, attr_values, row, layout}
use Rattle.cdf_write.specs.Lengths.{row_length}
use Rattle.cdf_write.specs.LengthLaws.{length-header, length-row, padded_values_bytes}
use Rattle.cdf_write.specs.Writable.{HasShape}

-- the bytes go on with this text from the place on
abbrev pub Stands : List ℕ → ℕ → List ℕ → Type 0
Stands bytes place text = (rest : List ℕ) × (drop place bytes ≡ text ++ rest)

pub Stands-front : (bytes : List ℕ) (place : ℕ) (front back : List ℕ) → Stands bytes place (front ++ back) → Stands bytes place front
Stands-front bytes place front back h = (back ++ h.0, h.1 ∙ append_assoc front back h.0)

-- in the record that begins so many bytes after the first one
pub Stands-back : (bytes : List ℕ) (begin record_place n : ℕ) (front back : List ℕ) → length front ≡ n → Stands bytes (begin + record_place) (front ++ back)
    → Stands bytes (begin + n + record_place) back
Stands-back bytes begin record_place n front back size h =
    let place : begin + n + record_place ≡ (begin + record_place) + n = omega arith in (
      h.0,
      ap (λ p. drop p bytes) place ∙ sym (drop-drop n (begin + record_place) bytes) ∙ ap (drop n) (h.1 ∙ append_assoc front back h.0)
          ∙ drop_at front (back ++ h.0) n size,
    )

pub Stands-take : (bytes : List ℕ) (place n : ℕ) (text : List ℕ) → length text ≡ n → Stands bytes place text → take n (drop place bytes) ≡ text
Stands-take bytes place n text size h = ap (take n) h.1 ∙ take_at text h.0 n size

-- ROWS

pub rows_Stands : (shape : FileShape) (arrays : List Array) (k : ℕ) (d : Array) → All (HasShape shape) arrays → k < length arrays
    → Stands (flat_map (row shape) arrays) (k * row_length shape) (row shape (get_or arrays k d))
rows_Stands shape [] k d h within = absurd (omega arith)
rows_Stands shape (a ∷ arrays) zero d h within =
    (flat_map (row shape) arrays, ap (λ n. drop n (flat_map (row shape) (a ∷ arrays))) (zero-mul (row_length shape)))
rows_Stands shape (a ∷ arrays) (suc k) d h within =
    let size = row_length shape in
    let rest = rows_Stands shape arrays k d (All-tail (HasShape shape) a arrays h) (omega arith) in
    let here = length-row shape a (All-head (HasShape shape) a arrays h) in
    let place : suc k * size ≡ size + k * size = omega (arith, suc-mul k size) in (
      rest.0,
      ap (λ n. drop n (row shape a ++ flat_map (row shape) arrays)) place ∙ sym (drop-drop (k * size) size (row shape a ++ flat_map (row shape) arrays))
          ∙ ap (drop (k * size)) (drop_at (row shape a) (flat_map (row shape) arrays) size here) ∙ rest.1,
    )

-- record k begins so many rows after the header
pub row_Stands : (shape : FileShape) (arrays : List Array) (k : ℕ) (d : Array) → All (HasShape shape) arrays → k < length arrays →
    Stands (layout shape arrays) (header_length shape + k * row_length shape) (row shape (get_or arrays k d))
row_Stands shape arrays k d h within =
    let front = header shape (Some (length arrays)) in
    let rest = rows_Stands shape arrays k d h within in (
      rest.0,
      sym (drop-drop (k * row_length shape) (header_length shape) (layout shape arrays))
          ∙ ap (drop (k * row_length shape)) (drop_at front (flat_map (row shape) arrays) (header_length shape) (length-header shape (Some (length arrays))))
          ∙ rest.1,
    )

-- VALUES

-- the values of an array's variables in the record that begins so many bytes after the first one, each variable's from the place on
-- where those of the first record begin
pub record HasValues (shape : FileShape) (a : Array) (bytes : List ℕ) (begin record_place : ℕ) : Type 0 where
  pub id : Stands bytes (begin + record_place) (signed_word a.id)
  pub stamp : Stands bytes (begin + 4 + record_place) (double_word a.stamp)
  pub sec : Stands bytes (begin + 4 + 8 + record_place) (signed_word a.sec)
  pub nsec : Stands bytes (begin + 4 + 8 + 4 + record_place) (signed_word a.nsec)
  pub samples : Stands bytes (begin + 4 + 8 + 4 + 4 + record_place) (bytes_of a.kind a.samples)
  pub attrs : Stands bytes (begin + 4 + 8 + 4 + 4 + padded_length (sample_count shape.dims * width shape.kind) + record_place)
      (flat_map (λ t. attr_values shape.width t.value) a.attrs)

parts : (one two three four five six : List ℕ) → one ++ two ++ three ++ four ++ five ++ six ≡ one ++ (two ++ (three ++ (four ++ (five ++ six))))
parts one two three four five six = simp append_assoc refl

row_parts : (shape : FileShape) (a : Array) →
    row shape a ≡ signed_word a.id ++ (double_word a.stamp ++ (signed_word a.sec
    ++ (signed_word a.nsec ++ (padded_values (sample_kind a.kind) (bytes_of a.kind a.samples) ++ flat_map (λ t. attr_values shape.width t.value) a.attrs))))
unfolding row
row_parts shape a =
    parts (signed_word a.id) (double_word a.stamp) (signed_word a.sec) (signed_word a.nsec) (padded_values (sample_kind a.kind) (bytes_of a.kind a.samples))
    (flat_map (λ (t : Attr). attr_values shape.width t.value) a.attrs)

pub row-HasValues : (shape : FileShape) (a : Array) (bytes : List ℕ) (begin record_place : ℕ) → HasShape shape a
    → Stands bytes (begin + record_place) (row shape a) → HasValues shape a bytes begin record_place
row-HasValues shape a bytes begin record_place h stands =
    let samples = padded_values (sample_kind a.kind) (bytes_of a.kind a.samples) in
    let attrs = flat_map (λ (t : Attr). attr_values shape.width t.value) a.attrs in
    let four = signed_word a.nsec ++ (samples ++ attrs) in
    let three = signed_word a.sec ++ four in
    let two = double_word a.stamp ++ three in
    let count = length-bytes_of a.kind a.samples in
    let size : length samples ≡ padded_length (sample_count shape.dims * width shape.kind) =
    padded_values_bytes a.kind (length a.samples) (bytes_of a.kind a.samples) count
    ∙ ap padded_length (count ∙ ap (λ n. n * width a.kind) h.count ∙ ap (λ kind. sample_count shape.dims * width kind) h.kind) in
    let at_id : Stands bytes (begin + record_place) (signed_word a.id ++ two) = subst (Stands bytes (begin + record_place)) (row_parts shape a) stands in
    let at_stamp : Stands bytes (begin + 4 + record_place) two = Stands-back bytes begin record_place 4 (signed_word a.id) two refl at_id in
    let at_sec : Stands bytes (begin + 4 + 8 + record_place) three = Stands-back bytes (begin + 4) record_place 8 (double_word a.stamp) three refl at_stamp in
    let at_nsec : Stands bytes (begin + 4 + 8 + 4 + record_place) four =
    Stands-back bytes (begin + 4 + 8) record_place 4 (signed_word a.sec) four refl at_sec in
    let at_samples : Stands bytes (begin + 4 + 8 + 4 + 4 + record_place) (samples ++ attrs) =
    Stands-back bytes (begin + 4 + 8 + 4) record_place 4 (signed_word a.nsec) (samples ++ attrs) refl at_nsec in
    record {
      id = Stands-front bytes (begin + record_place) (signed_word a.id) two at_id;
      stamp = Stands-front bytes (begin + 4 + record_place) (double_word a.stamp) three at_stamp;
      sec = Stands-front bytes (begin + 4 + 8 + record_place) (signed_word a.sec) four at_sec;
      nsec = Stands-front bytes (begin + 4 + 8 + 4 + record_place) (signed_word a.nsec) (samples ++ attrs) at_nsec;
      samples =
          Stands-front bytes (begin + 4 + 8 + 4 + 4 + record_place) (bytes_of a.kind a.samples)
          (take (gap (length (bytes_of a.kind a.samples))) (fill (sample_kind a.kind)))
          (Stands-front bytes (begin + 4 + 8 + 4 + 4 + record_place) samples attrs at_samples);
      attrs = Stands-back bytes (begin + 4 + 8 + 4 + 4) record_place (padded_length (sample_count shape.dims * width shape.kind)) samples attrs size at_samples;
    }

-- the values of array k stand in record k
pub layout_values : (shape : FileShape) (arrays : List Array) (k : ℕ) (d : Array) → All (HasShape shape) arrays → k < length arrays →
    HasValues shape (get_or arrays k d) (layout shape arrays) (header_length shape) (k * row_length shape)
layout_values shape arrays k d h within =
    row-HasValues shape (get_or arrays k d) (layout shape arrays) (header_length shape) (k * row_length shape) (h k d within)
    (row_Stands shape arrays k d h within)
