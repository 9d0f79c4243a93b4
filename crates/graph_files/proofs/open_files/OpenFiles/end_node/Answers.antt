use Rattle.std.proofs.Common.{◌≡◌, ℕ, ◌/◌, ◌^◌, ◌<◌, ◌≤◌, List, Some, None, set, get_or, length, sym, ap, subst, refl, ◌∙◌}
use Rattle.std.specs.Prelude.{slice_get}
use Rattle.std.proofs.lemmas.Option.{slice_get_read, same_Some}
use Rattle.nd_base.specs.Array.{Array}
use Rattle.graph_files.specs.NodeFiles.{NodeFile, AreWritten, AreEnded, EndStops, IsFilled, IsChangedAt, name_of}
use Rattle.graph_files.specs.OpenFiles.{AreApart, closed}
use Rattle.graph_files.specs.OpenFileLaws.{apart-kept}
use Rattle.graph_files.specs.EndedFiles.{AllStand, OneEndStops}
use Rattle.graph_files.proofs.Writes.{on-ok}
use Rattle.graph_files.proofs.Ends.{on-err, one-ended, one-stops, others-kept}
use Rattle.graph_files.proofs.open_files.OpenFiles.end_node.Goals as goal

pub end-requires-clause-written : goal.end-requires-clause-written
end-requires-clause-written g c =
    let x = c.index_mut.result.now in
    let xs = c.args.self.now in
    let at : slice_get xs c.args.at ≡ Some x =
    slice_get_read xs (length xs) c.args.at x refl c.requires.at
    (subst (λ (zs : List NodeFile). x ≡ get_or zs c.args.at x) c.self.view_is c.index_mut.ensures.value) in
    c.requires.written x at

pub end-requires-clause-filled : goal.end-requires-clause-filled
end-requires-clause-filled g c =
    let x = c.index_mut.result.now in
    let xs = c.args.self.now in
    let at : slice_get xs c.args.at ≡ Some x =
    slice_get_read xs (length xs) c.args.at x refl c.requires.at
    (subst (λ (zs : List NodeFile). x ≡ get_or zs c.args.at x) c.self.view_is c.index_mut.ensures.value) in
    c.requires.filled x at

pub invariant_of-self : goal.invariant_of-self
invariant_of-self g c =
    let x = c.index_mut.result.now in
    let xs = c.self.inside.nodes.items in
    let within : c.args.at < length xs = subst (λ (zs : List NodeFile). c.args.at < length zs) (sym c.self.view_is) c.requires.at in
    let at : slice_get xs c.args.at ≡ Some x = slice_get_read xs (length xs) c.args.at x refl within c.index_mut.ensures.value in
    subst (λ (y : NodeFile). AreApart (set xs c.args.at y)) (sym c.end.ensures.node) (apart-kept xs c.args.at x None at c.self.invariant)

made : (xs ys : List NodeFile) (k : ℕ) (y z x : NodeFile) → slice_get xs k ≡ Some z → slice_get xs k ≡ Some x → y ≡ closed z
    → ys ≡ set xs k y → ys ≡ set xs k (closed x)
made xs ys k y z x at is node put = put ∙ ap (set xs k) (node ∙ ap closed (same_Some z x (sym at ∙ is)))

pub returns-clause-nodes : goal.returns-clause-nodes
returns-clause-nodes g c =
    let z = c.index_mut.result.now in
    let xs = c.args.self.now in
    let at : slice_get xs c.args.at ≡ Some z =
    slice_get_read xs (length xs) c.args.at z refl c.requires.at
    (subst (λ (zs : List NodeFile). z ≡ get_or zs c.args.at z) c.self.view_is c.index_mut.ensures.value) in
    λ x is. made xs _ c.args.at c.end.new.self z x at is c.end.ensures.node (ap (λ (zs : List NodeFile). set zs c.args.at c.end.new.self) c.self.view_is)

pub returns-clause-ok : goal.returns-clause-ok
returns-clause-ok g c =
    let z = c.index_mut.result.now in
    let xs = c.args.self.now in
    let t = g.K.Shelf.held c.args.shelf.now in
    let u = g.K.Shelf.held c.end.new.shelf in
    let at : slice_get xs c.args.at ≡ Some z =
    slice_get_read xs (length xs) c.args.at z refl c.requires.at
    (subst (λ (zs : List NodeFile). z ≡ get_or zs c.args.at z) c.self.view_is c.index_mut.ensures.value) in
    on-ok c.end.result c.end.ensures.ok (λ ok before written x is here stand.
    let same : z ≡ x = same_Some z x (sym at ∙ is) in
    let ys = made xs _ c.args.at c.end.new.self z x at is c.end.ensures.node (ap (λ (zs : List NodeFile). set zs c.args.at c.end.new.self) c.self.view_is) in
    let few = stand.few c.args.at x is in
    let some : 1 ≤ x.count = subst (λ (w : NodeFile). 1 ≤ w.count) same c.end.ensures.some in
    subst (λ (zs : List NodeFile). AllStand before zs written u) (sym ys)
    (one-ended before xs written c.args.at x is (subst AreApart c.self.view_is c.self.invariant) some t u stand here
    (subst (λ (w : NodeFile). (arrays : List Array) → AreWritten w arrays t → IsChangedAt t (name_of w (length arrays / w.count)) u) same
    c.end.ensures.changed (written x.node) here)
    (subst (λ (w : NodeFile). IsFilled w.current) same (c.requires.filled z at))
    (subst (λ (w : NodeFile). w.current ≡ None → u ≡ t) same c.end.ensures.still)
    (subst (λ (w : NodeFile). (arrays : List Array) → length arrays < 2 ^ 64 → AreWritten w arrays t → AreEnded w arrays u) same ok (written x.node) few here)))

pub returns-clause-err : goal.returns-clause-err
returns-clause-err g c =
    let z = c.index_mut.result.now in
    let xs = c.args.self.now in
    let t = g.K.Shelf.held c.args.shelf.now in
    let u = g.K.Shelf.held c.end.new.shelf in
    let at : slice_get xs c.args.at ≡ Some z =
    slice_get_read xs (length xs) c.args.at z refl c.requires.at
    (subst (λ (zs : List NodeFile). z ≡ get_or zs c.args.at z) c.self.view_is c.index_mut.ensures.value) in
    on-err c.end.result c.end.ensures.err (λ err before written x is here stand.
    let same : z ≡ x = same_Some z x (sym at ∙ is) in
    let ys = made xs _ c.args.at c.end.new.self z x at is c.end.ensures.node (ap (λ (zs : List NodeFile). set zs c.args.at c.end.new.self) c.self.view_is) in
    let few = stand.few c.args.at x is in
    let some : 1 ≤ x.count = subst (λ (w : NodeFile). 1 ≤ w.count) same c.end.ensures.some in
    subst (λ (zs : List NodeFile). OneEndStops before x zs written t u) (sym ys)
    (one-stops before xs written c.args.at x is (subst AreApart c.self.view_is c.self.invariant) some t u stand here
    (subst (λ (w : NodeFile). (arrays : List Array) → AreWritten w arrays t → IsChangedAt t (name_of w (length arrays / w.count)) u) same
    c.end.ensures.changed (written x.node) here)
    (subst (λ (w : NodeFile). IsFilled w.current) same (c.requires.filled z at))
    (subst (λ (w : NodeFile). (arrays : List Array) → length arrays < 2 ^ 64 → AreWritten w arrays t → EndStops w arrays t u) same err
    (written x.node) few here)))

pub returns-clause-others : goal.returns-clause-others
returns-clause-others g c =
    let z = c.index_mut.result.now in
    let xs = c.args.self.now in
    let t = g.K.Shelf.held c.args.shelf.now in
    let u = g.K.Shelf.held c.end.new.shelf in
    let at : slice_get xs c.args.at ≡ Some z =
    slice_get_read xs (length xs) c.args.at z refl c.requires.at
    (subst (λ (zs : List NodeFile). z ≡ get_or zs c.args.at z) c.self.view_is c.index_mut.ensures.value) in
    λ before written x is here stand.
    let same : z ≡ x = same_Some z x (sym at ∙ is) in
    let some : 1 ≤ x.count = subst (λ (w : NodeFile). 1 ≤ w.count) same c.end.ensures.some in
    others-kept before xs written c.args.at x is (subst AreApart c.self.view_is c.self.invariant) some t u stand here
    (subst (λ (w : NodeFile). (arrays : List Array) → AreWritten w arrays t → IsChangedAt t (name_of w (length arrays / w.count)) u) same
    c.end.ensures.changed (written x.node) here)
