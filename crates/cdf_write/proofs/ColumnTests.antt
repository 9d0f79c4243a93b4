-- Attributes against the columns of a shape, one by one.
use Rattle.std.proofs.Common.{◌≡◌, ℕ, ◌+◌, ◌<◌, List, length, map, take, get_or, ap, sym, ◌∙◌, subst, arith}
use Rattle.std.proofs.lemmas.List.{get_or-map, length-map, take_more_same}
use Rattle.std.proofs.lemmas.List.Elements.{All-get_or}
use Rattle.nd_base.specs.declared.attribute.Attr.{Attr}
use Rattle.nd_base.specs.declared.attribute.AttrColumn.{AttrColumn}
use Rattle.nd_base.specs.declared.attribute.AttrKind.{AttrKind}
use Rattle.nd_base.specs.declared.attribute.AttrValue.{AttrValue}
use Rattle.nd_base.specs.declared.attribute.FileShape.{FileShape}
use Rattle.cdf_write.specs.Writable.{kind_of, column_of, FitsIn, HasColumns}

attr : List ℕ → AttrValue → Attr
attr name value = record { name = name; value = value }

-- the attribute at an index has the name and the value that stand there
pub attr_at : (attrs : List Attr) (i : ℕ) (t : Attr) → i < length attrs → t.name ≡ get_or (map (λ a. a.name) attrs) i t.name
    → t.value ≡ get_or (map (λ a. a.value) attrs) i t.value → t ≡ get_or attrs i t
unfolding attr
attr_at attrs i t within name value =
    let u = get_or attrs i t in
    let n : t.name ≡ u.name = name ∙ get_or-map (λ (a : Attr). a.name) attrs i t t.name within in
    let v : t.value ≡ u.value = value ∙ get_or-map (λ (a : Attr). a.value) attrs i t t.value within in
    ap (λ x. attr x t.value) n ∙ ap (attr u.name) v

column : List ℕ → AttrKind → AttrColumn
column name kind = record { name = name; kind = kind }

column_same : (t : Attr) (c : AttrColumn) → t.name ≡ c.name → kind_of t.value ≡ c.kind → column_of t ≡ c
unfolding column
column_same t c name kind = ap (λ x. column x (kind_of t.value)) name ∙ ap (column c.name) kind

-- one column more is that of its attribute
pub columns_more : (attrs : List Attr) (columns : List AttrColumn) (i : ℕ) (t : Attr) (c : AttrColumn) → i < length attrs → i < length columns
    → t ≡ get_or attrs i t → c ≡ get_or columns i c → t.name ≡ c.name → kind_of t.value ≡ c.kind
    → take i (map column_of attrs) ≡ take i columns → take (i + 1) (map column_of attrs) ≡ take (i + 1) columns
columns_more attrs columns i t c within inside t_at c_at name kind before =
    let long : length (map column_of attrs) ≡ length attrs = length-map attrs column_of in
    let here : get_or (map column_of attrs) i c ≡ get_or columns i c =
    get_or-map column_of attrs i t c within ∙ ap column_of (sym t_at) ∙ column_same t c name kind ∙ c_at in
    take_more_same (map column_of attrs) columns i c (omega (arith, long)) inside before here

-- each attribute is that of its column
pub columns_at : (shape : FileShape) (attrs : List Attr) (i : ℕ) (t : Attr) (c : AttrColumn) → HasColumns shape attrs → i < length attrs
    → t ≡ get_or attrs i t → c ≡ get_or shape.attrs i c → (t.name ≡ c.name) × (kind_of t.value ≡ c.kind) × FitsIn shape.width t.value
columns_at shape attrs i t c h within t_at c_at =
    let same : column_of t ≡ c =
    ap column_of t_at ∙ sym (get_or-map column_of attrs i t c within) ∙ ap (λ columns. get_or columns i c) h.same ∙ sym c_at in (
      ap (λ (x : AttrColumn). x.name) same,
      ap (λ (x : AttrColumn). x.kind) same,
      subst (λ (x : Attr). FitsIn shape.width x.value) (sym t_at) (All-get_or (λ (x : Attr). FitsIn shape.width x.value) attrs i t within h.texts),
    )
