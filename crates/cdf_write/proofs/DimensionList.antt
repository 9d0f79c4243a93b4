-- How the list of dimensions is written.
use Rattle.std.proofs.Common.{◌≡◌, ℕ, ◌+◌, ◌<◌, List, [], ◌∷◌, ◌++◌, length, map, take, get_or, codes, refl, ap, ◌∙◌, append_assoc, append-nil}
use Rattle.std.proofs.Common.{length-append, arith}
use Rattle.std.proofs.lemmas.List.{take_more, map_push, length-map}
use Rattle.std.specs.List.{concat}
use Rattle.nd_base.specs.declared.array.Dim.{Dim}
use Rattle.nd_base.specs.declared.attribute.FileShape.{FileShape}
use Rattle.cdf_write.specs.Spelling.{word, dimension, element_list}
use Rattle.cdf_write.specs.SpellingLaws.{concat-append}
use Rattle.cdf_write.specs.Layout.{slowest_first, size_dimensions, dimensions}
use Rattle.cdf_write.specs.LengthLaws.{length-slowest_first, length-size_dimensions}

slowest_first-push : (ns : List ℕ) (n : ℕ) → slowest_first (ns ++ n ∷ []) ≡ n ∷ slowest_first ns
slowest_first-push [] n = refl
slowest_first-push (m ∷ ns) n = ap (λ rest. rest ++ m ∷ []) (slowest_first-push ns n)

-- the bytes of the dimensions of these sizes, the slowest of which is the last
abbrev pub sizes_from : ℕ → List Dim → List ℕ
sizes_from i dims = concat (size_dimensions i (slowest_first (map (λ d. d.size) dims)))

-- the slowest of the first dimensions, and the others
pub sizes_from-more : (dims : List Dim) (i m : ℕ) (d : Dim) → m < length dims
    → sizes_from i (take (m + 1) dims) ≡ dimension (codes "dim" ++ (48 + i) ∷ []) (get_or dims m d).size ++ sizes_from (i + 1) (take m dims)
sizes_from-more dims i m d h =
    let size = λ (e : Dim). e.size in
    ap (sizes_from i) (take_more dims m d h)
    ∙ ap (λ ns. concat (size_dimensions i (slowest_first ns))) (map_push size (take m dims) (get_or dims m d))
    ∙ ap (λ ns. concat (size_dimensions i ns)) (slowest_first-push (map size (take m dims)) (get_or dims m d).size)

regroup : (p a s b : List ℕ) → p ++ ((a ++ s) ++ (b ++ [])) ≡ ((p ++ a) ++ s) ++ b
regroup p a s b = simp (append_assoc, append-nil)

pub dimensions_spelled : (shape : FileShape)
    → element_list 10 (dimensions shape)
    ≡ word 10 ++ word (length shape.dims + 2) ++ dimension (codes "numArrays") 0 ++ sizes_from 0 shape.dims ++ dimension (codes "attrStringSize") shape.width
dimensions_spelled shape =
    let sizes = size_dimensions 0 (slowest_first (map (λ (d : Dim). d.size) shape.dims)) in
    let records = dimension (codes "numArrays") 0 in
    let texts = dimension (codes "attrStringSize") shape.width in
    let count : length (dimensions shape) ≡ length shape.dims + 2 = (
    let both = length-append (records ∷ sizes) (texts ∷ []) in
    let some = length-size_dimensions 0 (slowest_first (map (λ (d : Dim). d.size) shape.dims)) in
    let turned = length-slowest_first (map (λ (d : Dim). d.size) shape.dims) in
    let rank = length-map shape.dims (λ (d : Dim). d.size) in
    omega arith) in
    ap (λ n. word 10 ++ word n ++ concat (dimensions shape)) count
    ∙ ap (λ rest. word 10 ++ word (length shape.dims + 2) ++ rest) (concat-append (records ∷ sizes) (texts ∷ []))
    ∙ regroup (word 10 ++ word (length shape.dims + 2)) records (concat sizes) texts
