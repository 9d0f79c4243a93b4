-- How the list of variables is written.
use Rattle.std.proofs.Common.{◌≡◌, ℕ, zero, suc, ◌+◌, ◌*◌, ◌≤◌, codes, List, [], ◌∷◌, ◌++◌, length, map, take, refl, ap, sym, ◌∙◌, append_assoc, arith}
use Rattle.std.proofs.lemmas.List.{length-map}
use Rattle.std.proofs.lemmas.List.Sums.{sum_by-cons}
use Rattle.std.specs.List.{concat, range_with_len}
use Rattle.nd_base.specs.declared.attribute.FileShape.{FileShape}
use Rattle.nd_base.specs.declared.form.Form.{Form}
use Rattle.nd_base.specs.Samples.{width}
use Rattle.nd_base.specs.Shapes.{sample_count}
use Rattle.cdf_write.specs.Spelling.{word, padded_length, element_list}
use Rattle.cdf_write.specs.SpellingLaws.{concat-append}
use Rattle.cdf_write.specs.Columns.{Column, columns, fixed_columns, attr_column, sample_column, sample_kind}
use Rattle.cdf_write.specs.Layout.{variable, variables}
use Rattle.cdf_write.specs.Lengths.{columns_length}

take-range_with_len : (a n m : ℕ) → n ≤ m → take n (range_with_len a m) ≡ range_with_len a n
take-range_with_len a zero m h = refl
take-range_with_len a (suc n) zero h = absurd (omega arith)
take-range_with_len a (suc n) (suc m) h = ap (λ rest. a ∷ rest) (take-range_with_len (a + 1) n m (omega arith))

-- the first of the numbers 0 to 10
pub numbers_of : (n : ℕ) → n ≤ 11 → take {A = ℕ} n (0 ∷ 1 ∷ 2 ∷ 3 ∷ 4 ∷ 5 ∷ 6 ∷ 7 ∷ 8 ∷ 9 ∷ 10 ∷ []) ≡ range_with_len 0 n
numbers_of n h = take-range_with_len 0 n 11 h

-- the variable of the samples, of parts that are equal to its own
pub sample_variable : (shape : FileShape) (dims : List ℕ) (kind size begin : ℕ) → dims ≡ range_with_len 0 (suc (length shape.dims))
    → kind ≡ sample_kind shape.kind → size ≡ sample_count shape.dims * width shape.kind
    → variable shape.form (record { name = codes "array_data"; dims = dims; kind = kind; size = size }) begin ≡ variable shape.form (sample_column shape) begin
sample_variable shape dims kind size begin dims_are kind_is size_is =
    ap (λ d. variable shape.form (record { name = codes "array_data"; dims = d; kind = kind; size = size }) begin) dims_are
    ∙ ap (λ k. variable shape.form (record { name = codes "array_data"; dims = range_with_len 0 (suc (length shape.dims)); kind = k; size = size }) begin)
    kind_is
    ∙ ap (λ n. variable shape.form
    (record { name = codes "array_data"; dims = range_with_len 0 (suc (length shape.dims)); kind = sample_kind shape.kind; size = n }) begin) size_is

pub length-variables : (form : Form) (begin : ℕ) (cs : List Column) → length (variables form begin cs) ≡ length cs
length-variables form begin [] = refl
length-variables form begin (c ∷ cs) = ap suc (length-variables form (begin + padded_length c.size) cs)

-- the first of some more variables begins where the values of those before it end
pub variables-append : (form : Form) (begin : ℕ) (cs ds : List Column)
    → variables form begin (cs ++ ds) ≡ variables form begin cs ++ variables form (begin + columns_length cs) ds
variables-append form begin [] ds = ap (λ b. variables form b ds) (omega arith)
variables-append form begin (c ∷ cs) ds =
    let total = sum_by-cons (λ (e : Column). padded_length e.size) c cs in
    let next : begin + padded_length c.size + columns_length cs ≡ begin + columns_length (c ∷ cs) = omega arith in
    ap (λ rest. variable form c begin ∷ rest) (variables-append form (begin + padded_length c.size) cs ds
    ∙ ap (λ b. variables form (begin + padded_length c.size) cs ++ variables form b ds) next)

pub variables_spelled : (shape : FileShape) (begin : ℕ) → element_list 11 (variables shape.form begin (columns shape))
    ≡ word 11 ++ word (length shape.attrs + 5) ++ concat (variables shape.form begin (fixed_columns shape))
    ++ concat (variables shape.form (begin + columns_length (fixed_columns shape)) (map (attr_column shape) shape.attrs))
variables_spelled shape begin =
    let fixed = fixed_columns shape in
    let attrs = map (attr_column shape) shape.attrs in
    let count : length (variables shape.form begin (columns shape)) ≡ length shape.attrs + 5 = (
    let all = length-variables shape.form begin (columns shape) in
    let more = length-map shape.attrs (attr_column shape) in
    omega arith) in
    let content =
    ap concat (variables-append shape.form begin fixed attrs)
    ∙ concat-append (variables shape.form begin fixed) (variables shape.form (begin + columns_length fixed) attrs) in
    ap (λ n. word 11 ++ word n ++ concat (variables shape.form begin (columns shape))) count
    ∙ ap (λ rest. word 11 ++ word (length shape.attrs + 5) ++ rest) content
    ∙ sym (append_assoc (word 11 ++ word (length shape.attrs + 5)) (concat (variables shape.form begin fixed))
    (concat (variables shape.form (begin + columns_length fixed) attrs)))
