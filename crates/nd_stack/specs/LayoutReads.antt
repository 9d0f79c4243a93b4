-- A file in the layout has the layout's header.
use Rattle.std.specs.Prelude.{◌≡◌, ℕ, zero, suc, ◌+◌, ◌-◌, ◌*◌, ◌≤◌, List, [], ◌∷◌, ◌++◌, length, Option, Some, Ok, ◌==◌, false, refl}
use Rattle.std.specs.List.{flat_map, sum_by}
use Rattle.std.proofs.Common.{ap, sym, ◌∙◌, append_assoc, arith}
use Rattle.std.proofs.Math.Nat.{suc-mul, mul-le-mul_left, mul-le-mul_right}
use Rattle.std.proofs.lemmas.Bool.Decides.{nat_tests}
use Rattle.std.proofs.lemmas.List.{length-map}
use Rattle.std.proofs.lemmas.List.Sums.{sum_by-cons}
use Rattle.nd_base.specs.declared.form.Form.{Form}
use Rattle.nd_base.specs.declared.form.Form.TheVariants.{Classic, Wide}
use Rattle.nd_base.specs.declared.attribute.FileShape.{FileShape}
use Rattle.nd_base.specs.Array.{Array}
use Rattle.nd_base.specs.Forms.{longest_of}
use Rattle.cdf_read.specs.declared.head.HeadDim.{HeadDim}
use Rattle.cdf_read.specs.declared.head.HeadVar.{HeadVar}
use Rattle.cdf_read.specs.Places.{record_count, streaming}
use Rattle.cdf_read.specs.Fields.{magic}
use Rattle.cdf_read.specs.Grammar.{greatest, IsNumrecs, IsHeader, Reads}
use Rattle.cdf_read.specs.HeaderReading.{header_of}
use Rattle.cdf_read.specs.HeaderLaws.{header_of-again}
use Rattle.cdf_write.specs.Spelling.{word, element_list}
use Rattle.cdf_write.specs.Columns.{columns, attr_column}
use Rattle.cdf_write.specs.Layout as written
use Rattle.cdf_write.specs.Layout.{dimensions, attributes, variables, header_length, header, row, layout}
use Rattle.cdf_write.specs.Lengths.{columns_length, row_length, length_of, attr_header_length, extra_header_length}
use Rattle.cdf_write.specs.LengthLaws.{longest_of_few, header_length_is, row_length_is, length-layout}
use Rattle.cdf_write.specs.Writable.{IsWritable}
use Rattle.nd_stack.specs.FieldSpelling.{greatest_begin, word-IsWord}
use Rattle.nd_stack.specs.LayoutHeader.{layout_dims, layout_vars, layout_header}
use Rattle.nd_stack.specs.Groups.{HasTextNames, IsGroup}
use Rattle.nd_stack.specs.DimLaws.{dims_IsList}
use Rattle.nd_stack.specs.GattLaws.{gatts_IsList}
use Rattle.nd_stack.specs.VarLaws.{columns-IsColumn, vars_IsList, record_size_is, columns-end}

-- WHAT FOLLOWS FROM THE LENGTH OF THE FILE

times-sum_by : {X : Type 0} (f : X → ℕ) (least : ℕ) (xs : List X) → ((x : X) → least ≤ f x) → length xs * least ≤ sum_by f xs
times-sum_by f least [] h = omega arith
times-sum_by f least (x ∷ xs) h =
    let total = sum_by-cons f x xs in
    let here = h x in
    let rest = times-sum_by f least xs h in
    omega (arith, total, here, rest, suc-mul (length xs) least)

longest-begin : (form : Form) → longest_of form ≤ greatest_begin form
longest-begin Classic = omega arith
longest-begin Wide = omega arith

-- one record fits, and the lists have no more elements than a count can say
record IsShort (shape : FileShape) (records : ℕ) : Type 0 where
  begins : header_length shape + row_length shape ≤ greatest_begin shape.form
  counts : records ≤ greatest
  attrs : length shape.attrs + 5 ≤ greatest
  extras : length shape.extras + 7 ≤ greatest

short : (shape : FileShape) (records : ℕ) → 1 ≤ records → length_of shape records ≤ longest_of shape.form → IsShort shape records
short shape records some within =
    let begin = longest-begin shape.form in
    let most = longest_of_few shape.form in
    let head = header_length_is shape in
    let each : 20 ≤ row_length shape = omega (arith, row_length_is shape) in
    let one : 1 * row_length shape ≤ records * row_length shape = mul-le-mul_right (row_length shape) some in
    let few : records * 20 ≤ records * row_length shape = mul-le-mul_left records each in
    let attrs = times-sum_by (attr_header_length shape.form) 24 shape.attrs (λ a. omega arith) in
    let extras = times-sum_by extra_header_length 12 shape.extras (λ e. omega arith) in
    record {
      begins = omega (arith, within, begin, one);
      counts = omega (arith, within, most, few);
      attrs = omega (arith, within, most, head, attrs);
      extras = omega (arith, within, most, head, extras);
    }

-- THE HEADER

numrecs-IsNumrecs : (n : ℕ) (after : List ℕ) → n ≤ greatest → IsNumrecs n (word n ++ after) after
numrecs-IsNumrecs n after h = record { word = word-IsWord n after (omega (arith, h)); counted = λ _. h }

length-columns : (shape : FileShape) → length (columns shape) ≡ length shape.attrs + 5
length-columns shape = omega (arith, length-map shape.attrs (attr_column shape))

parts : (one two three four five after : List ℕ) → (one ++ two ++ three ++ four ++ five) ++ after ≡ one ++ (two ++ (three ++ (four ++ (five ++ after))))
parts one two three four five after = simp append_assoc refl

same_magic : (form : Form) → written.magic form ≡ magic form
same_magic Classic = refl
same_magic Wide = refl

-- a header with a number of records, or with that left open, is spelled so, where a file of some rows isn't too long
pub header_spells : (shape : FileShape) (numrecs : Option ℕ) (number records room : ℕ) (after : List ℕ) → IsWritable shape → HasTextNames shape →
    1 ≤ room → length_of shape room ≤ longest_of shape.form → ((rest : List ℕ) → IsNumrecs number (written.record_count numrecs ++ rest) rest) →
    IsHeader shape.form number (layout_header shape records) (header shape numrecs ++ after) after
unfolding header row_length
header_spells shape numrecs number records room after writable names some within spelled =
    let small = short shape room some within in
    let at_vars : List ℕ = element_list 11 (variables shape.form (header_length shape) (columns shape)) ++ after in
    let at_gatts : List ℕ = element_list 12 (attributes shape) ++ at_vars in
    let at_dims : List ℕ = element_list 10 (dimensions shape) ++ at_gatts in
    let whole : header shape numrecs ++ after ≡ magic shape.form ++ (written.record_count numrecs ++ at_dims) =
    parts (written.magic shape.form) (written.record_count numrecs) (element_list 10 (dimensions shape)) (element_list 12 (attributes shape))
    (element_list 11 (variables shape.form (header_length shape) (columns shape))) after
    ∙ ap (λ front. front ++ (written.record_count numrecs ++ at_dims)) (same_magic shape.form) in
    record {
      at_numrecs = written.record_count numrecs ++ at_dims;
      at_dims = at_dims;
      at_gatts = at_gatts;
      at_vars = at_vars;
      magic_text = whole;
      numrecs_word = spelled at_dims;
      dims = dims_IsList shape at_gatts writable;
      gatts = gatts_IsList shape at_vars writable names.extras small.extras;
      vars = vars_IsList shape.form shape (header_length shape) (columns shape) after writable (columns-IsColumn shape writable names) small.begins
          (omega (arith, length-columns shape, small.attrs));
    }

not_streaming : (n : ℕ) → n ≤ greatest → (n == streaming) ≡ false
not_streaming n h = grind (arith, nat_tests, h)

pub last_record : (n size : ℕ) → 1 ≤ n → (n - 1) * size + size ≡ n * size
last_record zero size h = absurd (omega arith)
last_record (suc n) size h = let less : suc n - 1 ≡ n = omega arith in ap (λ m. m * size + size) less ∙ sym (suc-mul n size)

columns_fit : (shape : FileShape) (n total : ℕ) → 1 ≤ n → total ≡ length_of shape n
    → header_length shape + columns_length (columns shape) + (n - 1) * row_length shape ≤ total
unfolding row_length
columns_fit shape n total some is = omega (arith, is, last_record n (columns_length (columns shape)) some)

record_count_is : (total n : ℕ) (dims : List HeadDim) (vars : List HeadVar) → n ≤ greatest → n ≡ record_count total n dims vars
record_count_is total n dims vars h = rw (not_streaming n h) refl

-- a file in the layout spells the layout's header
pub layout_reads : (shape : FileShape) (arrays : List Array) → IsGroup shape arrays → Reads (layout shape arrays) (layout_header shape (length arrays))
layout_reads shape arrays h =
    let n : ℕ = length arrays in
    let after : List ℕ = flat_map (row shape) arrays in
    let small = short shape n h.some h.within in
    let total : length (layout shape arrays) ≡ length_of shape n = length-layout shape arrays h.each in
    record {
      form = shape.form;
      numrecs = n;
      after = after;
      header = header_spells shape (Some n) n n n after h.writable h.names h.some h.within (λ rest. numrecs-IsNumrecs n rest small.counts);
      recsize = sym (record_size_is shape h.writable h.names);
      records = record_count_is (length (layout shape arrays)) n (layout_dims shape) (layout_vars shape) small.counts;
      whole =
          columns-end shape n (header_length shape) (length (layout shape arrays)) (columns shape) (columns-IsColumn shape h.writable h.names)
          (columns_fit shape n (length (layout shape arrays)) h.some total);
    }

-- and is read so
pub layout_header_of : (shape : FileShape) (arrays : List Array) → IsGroup shape arrays
    → header_of (layout shape arrays) ≡ Ok (layout_header shape (length arrays))
layout_header_of shape arrays h = header_of-again (layout shape arrays) (layout_header shape (length arrays)) (layout_reads shape arrays h)
