-- The global attributes of the layout are read as they are spelled.
use Rattle.std.specs.Prelude.{◌≡◌, ℕ, ◌+◌, ◌*◌, ◌%◌, ◌/◌, ◌≤◌, ℤ, pos, List, [], ◌∷◌, ◌++◌, length, map, codes, if◌then◌else◌, All, refl}
use Rattle.std.specs.Str.{IsUtf8}
use Rattle.std.specs.List.{flat_map}
use Rattle.std.proofs.Common.{sym, subst, append_assoc, length-append, arith}
use Rattle.std.proofs.Math.Nat.{mod-eq-sub-div-mul, div-mul-le_self}
use Rattle.std.proofs.lemmas.List.{length-map}
use Rattle.std.proofs.lemmas.List.Elements.{All-head, All-tail}
use Rattle.nd_base.specs.declared.array.Dim.{Dim}
use Rattle.nd_base.specs.declared.attribute.Extra.{Extra}
use Rattle.nd_base.specs.declared.attribute.FileShape.{FileShape}
use Rattle.cdf_read.specs.declared.head.HeadAttr.{HeadAttr}
use Rattle.cdf_read.specs.Places.{value_size}
use Rattle.cdf_read.specs.Grammar.{greatest, IsAttr, IsList}
use Rattle.cdf_write.specs.Spelling.{word, signed_word, padded, name_field, attribute, int_attribute, element_list}
use Rattle.cdf_write.specs.SpellingLaws.{length-flat_map_words}
use Rattle.cdf_write.specs.Columns.{type_number}
use Rattle.cdf_write.specs.Layout.{extra_attribute, fixed_attributes, attributes}
use Rattle.cdf_write.specs.Writable.{IsExtra, IsWritable}
use Rattle.nd_stack.specs.FieldSpelling.{word-IsNumber, word-IsKind, padded-IsPadded, name_field-IsName, AreSpelled, AreSpelled-append, element_list-IsList}
use Rattle.nd_stack.specs.LayoutHeader.{int_attr, fixed_gatts, extra_attr, layout_gatts}
use Rattle.nd_stack.specs.DimLaws.{ascii-IsUtf8, few_dims}

attribute-IsAttr : (name : List ℕ) (kind count : ℕ) (values after : List ℕ) → 1 ≤ length name → length name ≤ 1024 → IsUtf8 name → 1 ≤ kind → kind ≤ 6
    → count ≤ greatest → length values ≡ count * value_size kind →
    IsAttr (record { name = name; kind = kind; count = count; values = values }) (attribute name kind count values ++ after) after
attribute-IsAttr name kind count values after least most utf8 low high few size =
    let a : HeadAttr = record { name = name; kind = kind; count = count; values = values } in
    let at_values : List ℕ = padded values ++ after in
    let whole : attribute name kind count values ++ after ≡ name_field name ++ (word kind ++ (word count ++ at_values)) = simp append_assoc refl in
    subst (λ before. IsAttr a before after) (sym whole) (record {
      at_kind = word kind ++ (word count ++ at_values);
      at_count = word count ++ at_values;
      at_values = at_values;
      name = name_field-IsName name (word kind ++ (word count ++ at_values)) least most utf8;
      kind = word-IsKind kind (word count ++ at_values) low high;
      count = word-IsNumber count at_values few;
      bytes = padded-IsPadded values after;
      size = size;
    })

int_attribute-IsAttr : (name : List ℕ) (values : List ℤ) (after : List ℕ) → 1 ≤ length name → length name ≤ 1024 → IsUtf8 name → length values ≤ greatest
    → IsAttr (int_attr name values) (int_attribute name values ++ after) after
int_attribute-IsAttr name values after least most utf8 few =
    let bytes = length-flat_map_words signed_word values (λ _. refl) in
    attribute-IsAttr name 4 (length values) (flat_map signed_word values) after least most utf8 (omega arith) (omega arith) few (omega (arith, bytes))

list_attribute-IsAttr : (name : List ℕ) (f : Dim → ℤ) (dims : List Dim) (after : List ℕ) → 1 ≤ length name → length name ≤ 1024 → IsUtf8 name → length dims ≤ 10
    → IsAttr (int_attr name (map f dims)) (int_attribute name (map f dims) ++ after) after
list_attribute-IsAttr name f dims after least most utf8 few =
    int_attribute-IsAttr name (map f dims) after least most utf8 (omega (arith, length-map dims f, few))

fixed_spelled : (shape : FileShape) → IsWritable shape → AreSpelled (λ earlier. IsAttr) [] (fixed_attributes shape) (fixed_gatts shape)
fixed_spelled shape h =
    let rank : length shape.dims ≤ 10 = few_dims shape.dims h.dimensions in (
      λ after. int_attribute-IsAttr (codes "dataType") (pos (type_number shape.kind) ∷ []) after (omega arith) (omega arith)
          (ascii-IsUtf8 (codes "dataType") refl) (omega arith),
      (
        λ after. attribute-IsAttr (codes "NDNetCDFFileVersion") 6 1 (64 ∷ 8 ∷ 0 ∷ 0 ∷ 0 ∷ 0 ∷ 0 ∷ 0 ∷ []) after (omega arith) (omega arith)
            (ascii-IsUtf8 (codes "NDNetCDFFileVersion") refl) (omega arith) (omega arith) (omega arith) refl,
        (
          λ after. int_attribute-IsAttr (codes "numArrayDims") (pos (length shape.dims) ∷ []) after (omega arith) (omega arith)
              (ascii-IsUtf8 (codes "numArrayDims") refl) (omega arith),
          (
            λ after. list_attribute-IsAttr (codes "dimSize") (λ d. pos d.size) shape.dims after (omega arith) (omega arith)
                (ascii-IsUtf8 (codes "dimSize") refl) rank,
            (
              λ after. list_attribute-IsAttr (codes "dimOffset") (λ d. d.offset) shape.dims after (omega arith) (omega arith)
                  (ascii-IsUtf8 (codes "dimOffset") refl) rank,
              (
                λ after. list_attribute-IsAttr (codes "dimBinning") (λ d. d.binning) shape.dims after (omega arith) (omega arith)
                    (ascii-IsUtf8 (codes "dimBinning") refl) rank,
                (
                  λ after. list_attribute-IsAttr (codes "dimReverse") (λ d. (if d.reverse then pos 1 else pos 0)) shape.dims after (omega arith) (omega arith)
                      (ascii-IsUtf8 (codes "dimReverse") refl) rank,
                  tt,
                ),
              ),
            ),
          ),
        ),
      ),
    )

whole_values : (n m : ℕ) → n % m ≡ 0 → n ≡ n / m * m
whole_values n m h = omega (arith, h, mod-eq-sub-div-mul n m, div-mul-le_self n m)

extra-IsAttr : (e : Extra) (after : List ℕ) → IsUtf8 e.name → IsExtra e → IsAttr (extra_attr e) (extra_attribute e ++ after) after
extra-IsAttr e after utf8 h =
    let size : length e.values ≡ length e.values / value_size e.kind * value_size e.kind =
    whole_values (length e.values) (value_size e.kind) h.whole in
    attribute-IsAttr e.name e.kind (length e.values / value_size e.kind) e.values after h.name.0 h.name.1 utf8 h.kind.0 h.kind.1 h.few size

extras_spelled : (earlier : List HeadAttr) (extras : List Extra) → All (λ e. IsUtf8 e.name) extras → All IsExtra extras
    → AreSpelled (λ earlier. IsAttr) earlier (map extra_attribute extras) (map extra_attr extras)
extras_spelled earlier [] utf8 h = tt
extras_spelled earlier (e ∷ extras) utf8 h = (
  λ after. extra-IsAttr e after (All-head (λ (x : Extra). IsUtf8 x.name) e extras utf8) (All-head IsExtra e extras h),
  extras_spelled (earlier ++ extra_attr e ∷ []) extras (All-tail (λ (x : Extra). IsUtf8 x.name) e extras utf8) (All-tail IsExtra e extras h),
)

pub gatts_IsList : (shape : FileShape) (after : List ℕ) → IsWritable shape → All (λ e. IsUtf8 e.name) shape.extras → length shape.extras + 7 ≤ greatest →
    IsList 12 (λ earlier. IsAttr) (layout_gatts shape) (element_list 12 (attributes shape) ++ after) after
gatts_IsList shape after h utf8 few =
    let Is = (λ (earlier : List HeadAttr). IsAttr) in
    let spelled : AreSpelled Is [] (attributes shape) (layout_gatts shape) =
    AreSpelled-append Is [] (fixed_attributes shape) (fixed_gatts shape) (map extra_attribute shape.extras) (map extra_attr shape.extras)
    (fixed_spelled shape h) (extras_spelled (fixed_gatts shape) shape.extras utf8 h.each_extra) in
    let both = length-append (fixed_attributes shape) (map extra_attribute shape.extras) in
    let count = length-map shape.extras extra_attribute in
    element_list-IsList 12 Is (attributes shape) (layout_gatts shape) after (omega arith) (omega arith) spelled
