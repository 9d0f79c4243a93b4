-- A file whose number of records was left open is read as a stack of the arrays whose rows it has whole.
use Rattle.std.specs.Prelude.{◌≡◌, ℕ, zero, suc, ◌+◌, ◌-◌, ◌*◌, ◌/◌, ◌<◌, ◌≤◌, min, List, [], ◌∷◌, ◌++◌, length, take, drop, fold, Some, None, Ok, codes}
use Rattle.std.specs.Prelude.{All, nat_lt, if◌then◌else◌, refl}
use Rattle.std.specs.List.{flat_map}
use Rattle.std.proofs.Common.{ap, sym, subst, ◌∙◌, append_assoc, append-nil, arith, get_or, inl, inr, length-append}
use Rattle.std.proofs.Math.Nat.{mul-le-mul_right}
use Rattle.std.proofs.lemmas.Bool.{cases_lt, lt-ltb, le-ltb}
use Rattle.std.proofs.lemmas.List.{drop_at, drop-append-le, drop-drop, length-take, take_all, take_at}
use Rattle.std.proofs.lemmas.List.Concat.{flat_map-append}
use Rattle.std.proofs.lemmas.List.Elements.{All-nil, All-cons, All-head, All-tail, All-take, All-drop}
use Rattle.std.proofs.lemmas.Nat.{div-mul-add}
use Rattle.nd_base.specs.declared.attribute.FileShape.{FileShape}
use Rattle.nd_base.specs.Array.{Array, StackValue}
use Rattle.nd_base.specs.Forms.{longest_of}
use Rattle.cdf_read.specs.declared.head.HeadVar.{HeadVar}
use Rattle.cdf_read.specs.Places.{streaming, first_record, record_vars, record_size, record_count, values_end}
use Rattle.cdf_read.specs.Grammar.{IsNumrecs, Reads}
use Rattle.cdf_read.specs.HeaderLaws.{header_of-again}
use Rattle.cdf_write.specs.Spelling.{word, padded_length}
use Rattle.cdf_write.specs.Columns.{Column, columns, scalar}
use Rattle.cdf_write.specs.Layout.{header_length, header, row}
use Rattle.cdf_write.specs.Lengths.{columns_length, row_length, length_of}
use Rattle.cdf_write.specs.LengthLaws.{row_length_is, length-header, length-row, length-layout}
use Rattle.cdf_write.specs.Writable.{IsWritable, HasShape}
use Rattle.nd_stack.specs.FieldSpelling.{word-IsWord}
use Rattle.nd_stack.specs.Groups.{HasTextNames}
use Rattle.nd_stack.specs.LayoutHeader.{column_var, column_vars, layout_dims, layout_vars, layout_header}
use Rattle.nd_stack.specs.LayoutReads.{header_spells, last_record}
use Rattle.nd_stack.specs.LayoutShape.{HasSmallDims}
use Rattle.nd_stack.specs.RoundTrip.{IsKept, read_back}
use Rattle.nd_stack.specs.RowPlaces.{Stands, HasValues, row-HasValues, rows_Stands}
use Rattle.nd_stack.specs.StackRules.{stack_of}
use Rattle.nd_stack.specs.VarLaws.{IsColumn, columns-IsColumn, column-is_record, columns-end, all_record_vars, record_size_is}

-- a header that has left the number of records open, the rows of some arrays, and what follows
abbrev pub open_file : FileShape → List Array → List ℕ → List ℕ
open_file shape arrays rest = header shape None ++ (flat_map (row shape) arrays ++ rest)

-- at most as many arrays as a stack has, of a shape of which a file with so many rows isn't too long
pub record IsOpenGroup (shape : FileShape) (room : ℕ) (arrays : List Array) : Type 0 where
  pub writable : IsWritable shape
  pub names : HasTextNames shape
  pub dims : HasSmallDims shape
  pub some : 1 ≤ room
  pub within : length_of shape room ≤ longest_of shape.form
  pub each : All (HasShape shape) arrays
  pub kept : All IsKept arrays
  pub few : length arrays ≤ 65536

-- THE NUMBER OF RECORDS

streaming-IsNumrecs : (after : List ℕ) → IsNumrecs streaming (word streaming ++ after) after
streaming-IsNumrecs after = record { word = word-IsWord streaming after (omega arith); counted = λ other. absurd (other refl) }

length-rows : (shape : FileShape) (arrays : List Array) → All (HasShape shape) arrays → length (flat_map (row shape) arrays) ≡ length arrays * row_length shape
length-rows shape arrays each =
    let whole = length-layout shape arrays each in
    let both = length-append (header shape (Some (length arrays))) (flat_map (row shape) arrays) in
    omega (arith, whole, both, length-header shape (Some (length arrays)))

length-open_file : (shape : FileShape) (arrays : List Array) (rest : List ℕ) → All (HasShape shape) arrays
    → length (open_file shape arrays rest) ≡ header_length shape + (length arrays * row_length shape + length rest)
length-open_file shape arrays rest each =
    let one = length-append (header shape None) (flat_map (row shape) arrays ++ rest) in
    let two = length-append (flat_map (row shape) arrays) rest in
    omega (arith, one, two, length-header shape None, length-rows shape arrays each)

later_begins : (start begin : ℕ) (cs : List Column) → start ≤ begin → fold (λ least (v : HeadVar). min least v.begin) start (column_vars begin cs) ≡ start
later_begins start begin [] h = refl
later_begins start begin (c ∷ cs) h =
    let least : min start begin ≡ start = omega (arith, h) in
    ap (λ n. fold (λ least (v : HeadVar). min least v.begin) n (column_vars (begin + padded_length c.size) cs)) least
    ∙ later_begins start (begin + padded_length c.size) cs (omega (arith, h))

first_begins : (total begin : ℕ) (c : Column) (cs : List Column) → begin ≤ total
    → fold (λ least (v : HeadVar). min least v.begin) total (column_vars begin (c ∷ cs)) ≡ begin
first_begins total begin c cs h =
    let least : min total begin ≡ begin = omega (arith, h) in
    ap (λ n. fold (λ least (v : HeadVar). min least v.begin) n (column_vars (begin + padded_length c.size) cs)) least
    ∙ later_begins begin (begin + padded_length c.size) cs (omega arith)

records_counted : (shape : FileShape) (n r total : ℕ) → IsWritable shape → HasTextNames shape → total ≡ header_length shape + (n * row_length shape + r)
    → r < row_length shape → n ≡ record_count total streaming (layout_dims shape) (layout_vars shape)
records_counted shape n r total writable names is less =
    let first : first_record total (record_vars (layout_dims shape) (layout_vars shape)) ≡ header_length shape =
    ap (first_record total) (all_record_vars shape (header_length shape) (columns shape) (columns-IsColumn shape writable names))
    ∙ first_begins total (header_length shape) (scalar (codes "uniqueId") 4 4) (drop 1 (columns shape)) (omega (arith, is)) in
    let rest : total - header_length shape ≡ n * row_length shape + r = omega (arith, is) in
    sym (ap (λ m. (total - m) / record_size (layout_dims shape) (layout_vars shape)) first
    ∙ ap (λ m. (total - header_length shape) / m) (record_size_is shape writable names)
    ∙ ap (λ m. m / row_length shape) rest ∙ div-mul-add n (row_length shape) r less)

no_records-end : (shape : FileShape) (begin total : ℕ) (cs : List Column) → All (IsColumn shape) cs
    → All (λ v. values_end (layout_header shape 0) v ≤ total) (column_vars begin cs)
no_records-end shape begin total [] h = All-nil (λ v. values_end (layout_header shape 0) v ≤ total)
no_records-end shape begin total (c ∷ cs) h =
    All-cons (λ v. values_end (layout_header shape 0) v ≤ total) (column_var c begin) (column_vars (begin + padded_length c.size) cs)
    (rw (column-is_record shape c begin (All-head (IsColumn shape) c cs h)) (let least : 0 ≤ total = omega arith in least))
    (no_records-end shape (begin + padded_length c.size) total cs (All-tail (IsColumn shape) c cs h))

records-end : (shape : FileShape) (n r total : ℕ) → IsWritable shape → HasTextNames shape → total ≡ header_length shape + (n * row_length shape + r)
    → All (λ v. values_end (layout_header shape n) v ≤ total) (layout_vars shape)
unfolding row_length
records-end shape zero r total writable names is = no_records-end shape (header_length shape) total (columns shape) (columns-IsColumn shape writable names)
records-end shape (suc n) r total writable names is =
    columns-end shape (suc n) (header_length shape) total (columns shape) (columns-IsColumn shape writable names)
    (omega (arith, is, last_record (suc n) (columns_length (columns shape)) (omega arith)))

-- THE FILE

open_reads : (shape : FileShape) (room : ℕ) (arrays : List Array) (rest : List ℕ) → IsOpenGroup shape room arrays → length rest < row_length shape
    → Reads (open_file shape arrays rest) (layout_header shape (length arrays))
open_reads shape room arrays rest h less =
    let n : ℕ = length arrays in
    let total = length-open_file shape arrays rest h.each in
    record {
      form = shape.form;
      numrecs = streaming;
      after = flat_map (row shape) arrays ++ rest;
      header = header_spells shape None streaming n room (flat_map (row shape) arrays ++ rest) h.writable h.names h.some h.within streaming-IsNumrecs;
      recsize = sym (record_size_is shape h.writable h.names);
      records = records_counted shape n (length rest) (length (open_file shape arrays rest)) h.writable h.names total less;
      whole = records-end shape n (length rest) (length (open_file shape arrays rest)) h.writable h.names total;
    }

open_values : (shape : FileShape) (arrays : List Array) (rest : List ℕ) (k : ℕ) (d : Array) → All (HasShape shape) arrays → k < length arrays
    → HasValues shape (get_or arrays k d) (open_file shape arrays rest) (header_length shape) (k * row_length shape)
open_values shape arrays rest k d each within =
    let size = row_length shape in
    let bytes : List ℕ = open_file shape arrays rest in
    let rows = flat_map (row shape) arrays in
    let stands = rows_Stands shape arrays k d each within in
    let inside : k * size ≤ length rows =
    omega (arith, length-rows shape arrays each, mul-le-mul_right size (let low : k ≤ length arrays = omega (arith, within) in low)) in
    let here : Stands bytes (header_length shape + k * size) (row shape (get_or arrays k d)) = (
      stands.0 ++ rest,
      sym (drop-drop (k * size) (header_length shape) bytes)
          ∙ ap (drop (k * size)) (drop_at (header shape None) (rows ++ rest) (header_length shape) (length-header shape None))
          ∙ drop-append-le (k * size) rows rest inside ∙ ap (λ b. b ++ rest) stands.1 ∙ append_assoc (row shape (get_or arrays k d)) stands.0 rest,
    ) in
    row-HasValues shape (get_or arrays k d) bytes (header_length shape) (k * size) (each k d within) here

-- with less than one row after them, the arrays are read
pub open_reads_back : (shape : FileShape) (room : ℕ) (arrays : List Array) (rest : List ℕ) → IsOpenGroup shape room arrays → length rest < row_length shape →
    (s : StackValue) × (stack_of (open_file shape arrays rest) ≡ Ok s) × (s.arrays ≡ arrays)
open_reads_back shape room arrays rest h less =
    read_back shape arrays (open_file shape arrays rest)
    (header_of-again (open_file shape arrays rest) (layout_header shape (length arrays)) (open_reads shape room arrays rest h less))
    h.writable h.names h.each h.dims h.kept h.few (λ k d within. open_values shape arrays rest k d h.each within)

-- WHAT A FAULT LEAVES

all_but_last : {A : Type 0} (P : A → Type 0) (xs : List A) (x : A) → All P (xs ++ x ∷ []) → All P xs
all_but_last P xs x all = subst (All P) (take_at xs (x ∷ []) (length xs) refl) (All-take P (length xs) (xs ++ x ∷ []) all)

last_of : {A : Type 0} (P : A → Type 0) (xs : List A) (x : A) → All P (xs ++ x ∷ []) → P x
last_of P xs x all = All-head P x [] (subst (All P) (drop_at xs (x ∷ []) (length xs) refl) (All-drop P (length xs) (xs ++ x ∷ []) all))

without_last : (shape : FileShape) (room : ℕ) (arrays : List Array) (a : Array) → IsOpenGroup shape room (arrays ++ a ∷ []) → IsOpenGroup shape room arrays
without_last shape room arrays a h = record {
  writable = h.writable;
  names = h.names;
  dims = h.dims;
  some = h.some;
  within = h.within;
  each = all_but_last (HasShape shape) arrays a h.each;
  kept = all_but_last IsKept arrays a h.kept;
  few = omega (arith, h.few, length-append arrays (a ∷ []));
}

one_more : (shape : FileShape) (arrays : List Array) (a : Array) → open_file shape arrays (row shape a) ≡ open_file shape (arrays ++ a ∷ []) []
one_more shape arrays a =
    ap (λ bytes. header shape None ++ bytes)
    (sym (append-nil (flat_map (row shape) (arrays ++ a ∷ [])) ∙ flat_map-append (row shape) arrays (a ∷ [])
    ∙ ap (λ last. flat_map (row shape) arrays ++ last) (append-nil (row shape a))))

-- a front of a row after some arrays: they are read, and the array of the row where all of it is there
abbrev pub OpenReadsBack : FileShape → List Array → Array → ℕ → Type 0
OpenReadsBack shape arrays a count =
    (s : StackValue) × (stack_of (open_file shape arrays (take count (row shape a))) ≡ Ok s)
    × (s.arrays ≡ (if nat_lt count (row_length shape) then arrays else arrays ++ a ∷ []))

pub open_front_reads_back : (shape : FileShape) (room : ℕ) (arrays : List Array) (a : Array) (count : ℕ) → IsOpenGroup shape room (arrays ++ a ∷ [])
    → OpenReadsBack shape arrays a count
open_front_reads_back shape room arrays a count h =
    elim (cases_lt count (row_length shape)) [
      | inl less ↦
          let some =
          open_reads_back shape room arrays (take count (row shape a)) (without_last shape room arrays a h)
          (omega (arith, less, length-take count (row shape a))) in
          (some.0, some.1, rw (lt-ltb count (row_length shape) less) some.2)
      | inr more ↦
          let size : length (row shape a) ≡ row_length shape = length-row shape a (last_of (HasShape shape) arrays a h.each) in
          let whole : open_file shape arrays (take count (row shape a)) ≡ open_file shape (arrays ++ a ∷ []) [] =
          ap (open_file shape arrays) (take_all count (row shape a) (omega (arith, more, size))) ∙ one_more shape arrays a in
          let all = open_reads_back shape room (arrays ++ a ∷ []) [] h (omega (arith, row_length_is shape)) in
          (all.0, ap stack_of whole ∙ all.1, rw (le-ltb count (row_length shape) more) all.2)
    ]
