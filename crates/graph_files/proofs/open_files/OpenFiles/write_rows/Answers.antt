use Rattle.std.proofs.Common.{◌≡◌, ◌<◌, Some, List, length, set, get_or, sym, ap, subst, refl}
use Rattle.std.specs.List.{flat_map}
use Rattle.std.specs.Prelude.{slice_get}
use Rattle.std.proofs.lemmas.Option.{slice_get_read}
use Rattle.nd_base.specs.Array.{Array}
use Rattle.cdf_write.specs.Layout.{row}
use Rattle.graph_files.specs.InTurn.{GoOrStop}
use Rattle.graph_files.specs.NodeFiles.{NodeFile}
use Rattle.graph_files.specs.OpenFiles.{AreApart}
use Rattle.graph_files.specs.OpenFileLaws.{apart-kept}
use Rattle.graph_files.proofs.PutBack.{put-back, the-node}
use Rattle.graph_files.proofs.open_files.OpenFiles.write_rows.Goals as goal

pub write_rows-requires : goal.write_rows-requires
write_rows-requires g c =
    let x = c.index_mut.result.now in
    let xs = c.args.self.now in
    c.requires.ready x
    (slice_get_read xs (length xs) c.args.at x refl c.requires.at
    (subst (λ (zs : List NodeFile). x ≡ get_or zs c.args.at x) c.self.view_is c.index_mut.ensures.value))

pub invariant_of-self : goal.invariant_of-self
invariant_of-self g c =
    let x = c.index_mut.result.now in
    let xs = c.self.inside.nodes.items in
    let within = subst (λ (zs : List NodeFile). c.args.at < length zs) (sym c.self.view_is) c.requires.at in
    let at : slice_get xs c.args.at ≡ Some x = slice_get_read xs (length xs) c.args.at x refl within c.index_mut.ensures.value in
    subst (λ (y : NodeFile). AreApart (set xs c.args.at y)) (sym c.write_rows.ensures.node)
    (apart-kept xs c.args.at x c.write_rows.new.self.current at c.self.invariant)

pub returns-clause-goes : goal.returns-clause-goes
returns-clause-goes g c =
    let z = c.index_mut.result.now in
    let xs = c.args.self.now in
    let y = c.write_rows.new.self in
    let t = g.K.Shelf.held c.args.shelf.now in
    let u = g.K.Shelf.held c.write_rows.new.shelf in
    let at : slice_get xs c.args.at ≡ Some z =
    slice_get_read xs (length xs) c.args.at z refl c.requires.at
    (subst (λ (zs : List NodeFile). z ≡ get_or zs c.args.at z) c.self.view_is c.index_mut.ensures.value) in
    λ x is. (
      y.current,
      (
        put-back xs _ c.args.at y z x y.current at is c.write_rows.ensures.node (ap (λ (zs : List NodeFile). set zs c.args.at y) c.self.view_is),
        subst (λ (w : NodeFile). (more : List Array) → length more ≡ c.args.count → c.args.rows.now ≡ flat_map (row w.shape) more
            → GoOrStop c.write_rows.result w c.args.of c.args.group c.args.place more y.current t u)
            (the-node xs _ c.args.at y z x y.current at is c.write_rows.ensures.node refl) c.write_rows.ensures.goes,
      ),
    )
