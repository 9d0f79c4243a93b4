-- The room of a text is the length of a dimension.
use Rattle.std.proofs.Common.{◌≡◌, ◌≤◌, ◌*◌, ℕ, zero, suc, Bool, true, false, List, [], ◌∷◌, length, drop, get_or, max, ap, sym, ◌∙◌, subst, arith}
use Rattle.std.specs.Prelude.{◌==◌, filter, fold, All, None, if◌then◌else◌}
use Rattle.std.proofs.lemmas.Bool.{eqb-true}
use Rattle.std.proofs.lemmas.List.{length-drop}
use Rattle.std.proofs.lemmas.List.Elements.{All-head, All-tail, All-map, All-filter, filter_passes}
use Rattle.cdf_read.specs.declared.head.HeadDim.{HeadDim}
use Rattle.cdf_read.specs.declared.head.HeadVar.{HeadVar}
use Rattle.cdf_read.specs.declared.head.Header.{Header}
use Rattle.cdf_read.specs.Places.{dim_length, value_size, value_count}
use Rattle.cdf_read.specs.PlaceLaws.{value_count-cons}
use Rattle.nd_stack.specs.declared.attributes.AttrVar.{AttrVar}
use Rattle.nd_stack.specs.Columns.{column_of}
use Rattle.nd_stack.specs.AttrVars.{is_attr_var, attr_misfit, attr_rank, attr_var, attr_vars}
use Rattle.nd_stack.specs.FrameShape.{text_room, width_of}
use Rattle.nd_stack.specs.Sound.{IsSoundHeader}
use Rattle.nd_stack.proofs.Others.{IsCounted, all_counted, counted_rank}

dim_length-most : (dims : List HeadDim) (n : ℕ) → All (λ d. d.length ≤ 2147483647) dims → dim_length dims n ≤ 2147483647
dim_length-most [] n all = omega arith
dim_length-most (d ∷ dims) zero all = All-head (λ d. d.length ≤ 2147483647) d dims all
dim_length-most (d ∷ dims) (suc n) all = dim_length-most dims n (All-tail (λ d. d.length ≤ 2147483647) d dims all)

one_left : (dims : List HeadDim) (numbers : List ℕ) → length numbers ≡ 1 → All (λ d. d.length ≤ 2147483647) dims → value_count dims numbers * 1 ≤ 2147483647
one_left dims [] e all = absurd (omega arith)
one_left dims (n ∷ []) e all = omega (arith, value_count-cons dims n [], dim_length-most dims n all)
one_left dims (n ∷ m ∷ numbers) e all = absurd (omega arith)

text_size : (total : ℕ) (h : Header) (frames : ℕ) (v : HeadVar) → IsSoundHeader total h → IsCounted total h frames v → is_attr_var v ≡ true → v.kind ≡ 2
    → (column_of h v).size ≤ 2147483647
text_size total h frames v sound counted is kind =
    let rank : length v.dims ≡ 2 = counted_rank total h frames v counted is ∙ ap attr_rank kind in
    let one : length (drop 1 v.dims) ≡ 1 = length-drop 1 v.dims ∙ omega (arith, rank) in
    subst (λ n. value_count h.dims (drop 1 v.dims) * value_size n ≤ 2147483647) (sym kind) (one_left h.dims (drop 1 v.dims) one sound.lengths)

fold-most : (vars : List AttrVar) (start m : ℕ) → start ≤ m → All (λ (a : AttrVar). a.column.size ≤ m) vars
    → fold (λ most (a : AttrVar). max most a.column.size) start vars ≤ m
fold-most [] start m low all = low
fold-most (a ∷ vars) start m low all =
    let here = All-head (λ (a : AttrVar). a.column.size ≤ m) a vars all in
    fold-most vars (max start a.column.size) m (omega arith) (All-tail (λ (a : AttrVar). a.column.size ≤ m) a vars all)

texts_small : (total : ℕ) (h : Header) (frames : ℕ) → IsSoundHeader total h → All (IsCounted total h frames) h.vars
    → All (λ (a : AttrVar). a.kind ≡ 2 → a.column.size ≤ 2147483647) (attr_vars h)
texts_small total h frames sound all =
    let counted = All-filter is_attr_var (IsCounted total h frames) h.vars all in
    let are = filter_passes is_attr_var h.vars in
    All-map (λ (a : AttrVar). a.kind ≡ 2 → a.column.size ≤ 2147483647) (attr_var h) (filter is_attr_var h.vars)
    (λ i d inside. text_size total h frames (get_or (filter is_attr_var h.vars) i d) sound (counted i d inside) (are i d inside))

room_most : (vars : List AttrVar) → All (λ (a : AttrVar). a.kind ≡ 2 → a.column.size ≤ 2147483647) vars → text_room vars ≤ 2147483647
room_most vars small =
    let kept = All-filter (λ (a : AttrVar). a.kind == 2) (λ (a : AttrVar). a.kind ≡ 2 → a.column.size ≤ 2147483647) vars small in
    let are = filter_passes (λ (a : AttrVar). a.kind == 2) vars in
    fold-most (filter (λ (a : AttrVar). a.kind == 2) vars) 0 2147483647 (omega arith)
    (λ i d inside. kept i d inside (eqb-true (get_or (filter (λ (a : AttrVar). a.kind == 2) vars) i d).kind 2 (are i d inside)))

width_by : (b : Bool) (n : ℕ) → n ≤ 2147483647 → (if b then 256 else n) ≤ 2147483647
width_by true n low = omega arith
width_by false n low = low

pub width_of-most : (total : ℕ) (h : Header) (frames : ℕ) → IsSoundHeader total h → attr_misfit h frames ≡ None → width_of (attr_vars h) ≤ 2147483647
width_of-most total h frames sound e =
    width_by (text_room (attr_vars h) == 0) (text_room (attr_vars h))
    (room_most (attr_vars h) (texts_small total h frames sound (all_counted total h frames sound e)))
