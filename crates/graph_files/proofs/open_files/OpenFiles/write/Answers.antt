use Rattle.std.proofs.Common.{◌≡◌, ◌<◌, ◌^◌, ◌++◌, ◌∷◌, [], List, Some, None, set, get_or, length, sym, ap, subst, refl, ◌∙◌, arith}
use Rattle.std.specs.Prelude.{slice_get}
use Rattle.std.proofs.lemmas.Option.{slice_get_read, same_Some}
use Rattle.std.proofs.lemmas.List.{length-append}
use Rattle.nd_base.specs.Shapes.{array_of}
use Rattle.graph_files.specs.NodeFiles.{NodeFile, IsPlaceAfter, HasNumrecs, AreWritten, IsChangedAt, WriteStops, first_count, name_of}
use Rattle.graph_files.specs.OpenFiles.{AreApart, AllWritten, AllStops, with_array}
use Rattle.graph_files.specs.OpenFileLaws.{get-set_same, apart-kept, all-more, all-stops}
use Rattle.graph_files.proofs.PutBack.{put-back, this-node, the-node}
use Rattle.graph_files.proofs.Writes.{on-ok, if-err}
use Rattle.graph_files.proofs.open_files.OpenFiles.write.Goals as goal

pub write-requires-clause-written : goal.write-requires-clause-written
write-requires-clause-written g c =
    let x = c.index_mut.result.now in
    let xs = c.args.self.now in
    let at : slice_get xs c.args.at ≡ Some x =
    slice_get_read xs (length xs) c.args.at x refl c.requires.at
    (subst (λ (zs : List NodeFile). x ≡ get_or zs c.args.at x) c.self.view_is c.index_mut.ensures.value) in
    (c.requires.ready x at).written

pub write-requires-clause-room : goal.write-requires-clause-room
write-requires-clause-room g c =
    let x = c.index_mut.result.now in
    let xs = c.args.self.now in
    let at : slice_get xs c.args.at ≡ Some x =
    slice_get_read xs (length xs) c.args.at x refl c.requires.at
    (subst (λ (zs : List NodeFile). x ≡ get_or zs c.args.at x) c.self.view_is c.index_mut.ensures.value) in
    (c.requires.ready x at).room

pub write-requires-clause-of : goal.write-requires-clause-of
write-requires-clause-of g c =
    let x = c.index_mut.result.now in
    let xs = c.args.self.now in
    let at : slice_get xs c.args.at ≡ Some x =
    slice_get_read xs (length xs) c.args.at x refl c.requires.at
    (subst (λ (zs : List NodeFile). x ≡ get_or zs c.args.at x) c.self.view_is c.index_mut.ensures.value) in
    (c.requires.ready x at).sized

pub write-requires-clause-numrecs : goal.write-requires-clause-numrecs
write-requires-clause-numrecs g c =
    let x = c.index_mut.result.now in
    let xs = c.args.self.now in
    let at : slice_get xs c.args.at ≡ Some x =
    slice_get_read xs (length xs) c.args.at x refl c.requires.at
    (subst (λ (zs : List NodeFile). x ≡ get_or zs c.args.at x) c.self.view_is c.index_mut.ensures.value) in
    (c.requires.ready x at).numrecs

pub write-requires-clause-row : goal.write-requires-clause-row
write-requires-clause-row g c =
    let x = c.index_mut.result.now in
    let xs = c.args.self.now in
    let at : slice_get xs c.args.at ≡ Some x =
    slice_get_read xs (length xs) c.args.at x refl c.requires.at
    (subst (λ (zs : List NodeFile). x ≡ get_or zs c.args.at x) c.self.view_is c.index_mut.ensures.value) in
    (c.requires.ready x at).row

pub invariant_of-self : goal.invariant_of-self
invariant_of-self g c =
    let x = c.index_mut.result.now in
    let xs = c.self.inside.nodes.items in
    let within : c.args.at < length xs = subst (λ (zs : List NodeFile). c.args.at < length zs) (sym c.self.view_is) c.requires.at in
    let at : slice_get xs c.args.at ≡ Some x = slice_get_read xs (length xs) c.args.at x refl within c.index_mut.ensures.value in
    subst (λ (y : NodeFile). AreApart (set xs c.args.at y)) (sym c.write.ensures.node) (apart-kept xs c.args.at x c.write.new.self.current at c.self.invariant)

pub returns-clause-nodes : goal.returns-clause-nodes
returns-clause-nodes g c =
    let z = c.index_mut.result.now in
    let xs = c.args.self.now in
    let at : slice_get xs c.args.at ≡ Some z =
    slice_get_read xs (length xs) c.args.at z refl c.requires.at
    (subst (λ (zs : List NodeFile). z ≡ get_or zs c.args.at z) c.self.view_is c.index_mut.ensures.value) in
    λ x is. (
      c.write.new.self.current,
      put-back xs _ c.args.at c.write.new.self z x c.write.new.self.current at is c.write.ensures.node
          (ap (λ (zs : List NodeFile). set zs c.args.at c.write.new.self) c.self.view_is),
      subst (λ (w : NodeFile). HasNumrecs (first_count w.late c.args.of) c.write.new.self.current)
          (the-node xs _ c.args.at c.write.new.self z x c.write.new.self.current at is c.write.ensures.node refl) c.write.ensures.numrecs,
    )

pub returns-clause-ok : goal.returns-clause-ok
returns-clause-ok g c =
    let z = c.index_mut.result.now in
    let xs = c.args.self.now in
    let y = c.write.new.self in
    let o = y.current in
    let t = g.K.Shelf.held c.args.shelf.now in
    let u = g.K.Shelf.held c.write.new.shelf in
    let small : c.args.group < 2 ^ 64 = omega arith in
    let at : slice_get xs c.args.at ≡ Some z =
    slice_get_read xs (length xs) c.args.at z refl c.requires.at
    (subst (λ (zs : List NodeFile). z ≡ get_or zs c.args.at z) c.self.view_is c.index_mut.ensures.value) in
    on-ok c.write.result c.write.ensures.ok (λ ok before written x is few place h.
    let same = the-node xs _ c.args.at y z x o at is c.write.ensures.node refl in
    let ys = put-back xs _ c.args.at y z x o at is c.write.ensures.node (ap (λ (zs : List NodeFile). set zs c.args.at y) c.self.view_is) in
    let a = array_of c.args.head.now x.shape.kind x.shape.dims c.args.samples.now in
    let long : length (written x.node ++ a ∷ []) < 2 ^ 64 = omega (arith, few, length-append (written x.node) (a ∷ [])) in
    let mine : AreWritten y (written x.node ++ a ∷ []) u =
    (subst (λ (w : NodeFile). IsPlaceAfter w.count (written x.node) c.args.group c.args.place → AreWritten w (written x.node) t → AreWritten y (written x.node
    ++ array_of c.args.head.now w.shape.kind w.shape.dims c.args.samples.now ∷ []) u) same (ok (written x.node))) place (h.each c.args.at x is) in
    subst (λ (zs : List NodeFile). AllWritten before zs (with_array written x.node a) u) (sym ys)
    (all-more xs c.args.at x o is (subst AreApart c.self.view_is c.self.invariant) c.args.group small before t u written h
    (subst (λ (w : NodeFile). IsChangedAt t (name_of w c.args.group) u) same c.write.ensures.changed) c.args.place place a long
    (subst (λ (w : NodeFile). AreWritten w (written x.node ++ a ∷ []) u) (this-node xs _ c.args.at y z x o at is c.write.ensures.node refl) mine)))

pub returns-clause-err : goal.returns-clause-err
returns-clause-err g c =
    let z = c.index_mut.result.now in
    let xs = c.args.self.now in
    let y = c.write.new.self in
    let o = y.current in
    let t = g.K.Shelf.held c.args.shelf.now in
    let u = g.K.Shelf.held c.write.new.shelf in
    let small : c.args.group < 2 ^ 64 = omega arith in
    let at : slice_get xs c.args.at ≡ Some z =
    slice_get_read xs (length xs) c.args.at z refl c.requires.at
    (subst (λ (zs : List NodeFile). z ≡ get_or zs c.args.at z) c.self.view_is c.index_mut.ensures.value) in
    if-err c.write.result c.write.ensures.err (λ fault stops before written x is place h.
    let same = the-node xs _ c.args.at y z x o at is c.write.ensures.node refl in
    let ys = put-back xs _ c.args.at y z x o at is c.write.ensures.node (ap (λ (zs : List NodeFile). set zs c.args.at y) c.self.view_is) in
    let a = array_of c.args.head.now x.shape.kind x.shape.dims c.args.samples.now in
    let mine : WriteStops fault x (written x.node) c.args.group (first_count x.late c.args.of) a y t u =
    (subst (λ (w : NodeFile). IsPlaceAfter w.count (written x.node) c.args.group c.args.place → AreWritten w (written x.node) t → WriteStops fault w
    (written x.node) c.args.group (first_count w.late c.args.of) (array_of c.args.head.now w.shape.kind w.shape.dims c.args.samples.now) y t u) same
    (stops (written x.node))) place (h.each c.args.at x is) in
    subst (λ (zs : List NodeFile). AllStops fault before x zs written c.args.group (first_count x.late c.args.of) a t u) (sym ys)
    (all-stops xs c.args.at x o is (subst AreApart c.self.view_is c.self.invariant) c.args.group small before t u written h
    (subst (λ (w : NodeFile). IsChangedAt t (name_of w c.args.group) u) same c.write.ensures.changed) c.args.place place a fault (first_count x.late c.args.of)
    (subst (λ (w : NodeFile). WriteStops fault x (written x.node) c.args.group (first_count x.late c.args.of) a w t u)
    (this-node xs _ c.args.at y z x o at is c.write.ensures.node refl) mine)))

pub returns-clause-ended : goal.returns-clause-ended
returns-clause-ended g c =
    let z = c.index_mut.result.now in
    let xs = c.args.self.now in
    let y = c.write.new.self in
    let at : slice_get xs c.args.at ≡ Some z =
    slice_get_read xs (length xs) c.args.at z refl c.requires.at
    (subst (λ (zs : List NodeFile). z ≡ get_or zs c.args.at z) c.self.view_is c.index_mut.ensures.value) in
    on-ok c.write.result c.write.ensures.ended (λ ended x is last w here.
    let same = the-node xs _ c.args.at y z x y.current at is c.write.ensures.node refl in
    let mine : y ≡ w =
    same_Some y w (sym
    (get-set_same c.self.inside.nodes.items c.args.at z y (subst (λ (zs : List NodeFile). slice_get zs c.args.at ≡ Some z) (sym c.self.view_is) at)) ∙ here) in
    subst (λ (v : NodeFile). v.current ≡ None) mine (ended (last ∙ ap (λ (v : NodeFile). v.count) (sym same))))
