use Rattle.std.proofs.Common.{◌≡◌, ◌+◌, ◌<◌, Some, length, true, false, ap, sym, ◌∙◌, subst, arith}
use Rattle.std.specs.Prelude.{nat_lt}
use Rattle.std.specs.List.{slice_get}
use Rattle.std.proofs.lemmas.Option.{slice_get-get_or}
use Rattle.std.proofs.lemmas.Bool.Decides.{nat_tests}
use Rattle.cdf_write.specs.Writable.{IsWritable}
use Rattle.chain_plain.specs.Plans.{shape_at}
use Rattle.graph_conf.specs.Loads.{file_bytes, file_bytes_at, most_bytes, most_bytes_at}
use Rattle.graph_conf.proofs.Planned.{node_writable, bytes_at, most_at, too_long_next}
use Rattle.graph_conf.proofs.load.first_too_long.Goals as goal

pub file_bytes-bytes-requires : goal.file_bytes-bytes-requires
file_bytes-bytes-requires c =
    let made = c.made_at-made.result.now in
    subst (λ shape. IsWritable (record shape { kind = made.kind; dims = made.dims })) (sym c.shape-shape.ensures.value)
    (node_writable c.args.graph.now c.args.stack.now
    (c.loop-place.place + 1) made.kind made.dims c.requires.graph c.shape-shape.ensures.sound c.requires.shape c.made_at-made.ensures.dims)

pub returns-then-bytes-most : goal.returns-then-bytes-most
returns-then-bytes-most c =
    let g = c.args.graph.now in
    let s = c.args.stack.now in
    let k = c.loop-place.place in
    let node = c.index-nodes-place.result in
    let made = c.made_at-made.result.now in
    let within : k < length g.nodes = subst (λ ns. k < length ns) c.as_slice-nodes.ensures c.loop-place-test.true in
    let is : slice_get g.nodes k ≡ Some node =
    ap (λ ns. slice_get ns k) (sym c.as_slice-nodes.ensures) ∙ slice_get-get_or c.as_slice-nodes.result.now k node c.loop-place-test.true
    ∙ ap Some (sym c.index-nodes-place.is) in
    let bytes : c.file_bytes-bytes.result ≡ file_bytes_at g s (k + 1) =
    c.file_bytes-bytes.ensures
    ∙ ap (λ n. file_bytes n.kind (record c.shape-shape.result.now { kind = made.kind; dims = made.dims }) c.frames-frames.result) (sym c.index-nodes-place.is)
    ∙ ap (λ shape. file_bytes node.kind (record shape { kind = made.kind; dims = made.dims }) c.frames-frames.result) c.shape-shape.ensures.value
    ∙ ap (λ kind. file_bytes node.kind (record s.shape { kind = kind; dims = made.dims }) c.frames-frames.result) c.made_at-made.ensures.kind
    ∙ ap (λ dims. file_bytes node.kind (record s.shape { kind = (shape_at g.nodes s.shape (k + 1)).kind; dims = dims }) c.frames-frames.result)
    c.made_at-made.ensures.dims
    ∙ ap (file_bytes node.kind (record s.shape { kind = (shape_at g.nodes s.shape (k + 1)).kind; dims = (shape_at g.nodes s.shape (k + 1)).dims }))
    c.frames-frames.ensures
    ∙ sym (bytes_at g s k node is) in
    let most : c.from-most.result ≡ most_bytes_at g (k + 1) =
    c.from-most.ensures ∙ c.most_bytes.ensures ∙ ap (λ n. most_bytes n.kind) (sym c.index-nodes-place.is) ∙ sym (most_at g k node is) in
    let long : nat_lt c.from-most.result c.file_bytes-bytes.result ≡ true = grind (arith, nat_tests) in
    sym (too_long_next g s k (length g.nodes) c.file_bytes-bytes.result c.from-most.result true within bytes most long) ∙ c.loop-place.invariant

pub loop-place-preserved : goal.loop-place-preserved
loop-place-preserved c =
    let g = c.args.graph.now in
    let s = c.args.stack.now in
    let k = c.loop-place.place in
    let node = c.index-nodes-place.result in
    let made = c.made_at-made.result.now in
    let within : k < length g.nodes = subst (λ ns. k < length ns) c.as_slice-nodes.ensures c.loop-place-test.true in
    let is : slice_get g.nodes k ≡ Some node =
    ap (λ ns. slice_get ns k) (sym c.as_slice-nodes.ensures) ∙ slice_get-get_or c.as_slice-nodes.result.now k node c.loop-place-test.true
    ∙ ap Some (sym c.index-nodes-place.is) in
    let bytes : c.file_bytes-bytes.result ≡ file_bytes_at g s (k + 1) =
    c.file_bytes-bytes.ensures
    ∙ ap (λ n. file_bytes n.kind (record c.shape-shape.result.now { kind = made.kind; dims = made.dims }) c.frames-frames.result) (sym c.index-nodes-place.is)
    ∙ ap (λ shape. file_bytes node.kind (record shape { kind = made.kind; dims = made.dims }) c.frames-frames.result) c.shape-shape.ensures.value
    ∙ ap (λ kind. file_bytes node.kind (record s.shape { kind = kind; dims = made.dims }) c.frames-frames.result) c.made_at-made.ensures.kind
    ∙ ap (λ dims. file_bytes node.kind (record s.shape { kind = (shape_at g.nodes s.shape (k + 1)).kind; dims = dims }) c.frames-frames.result)
    c.made_at-made.ensures.dims
    ∙ ap (file_bytes node.kind (record s.shape { kind = (shape_at g.nodes s.shape (k + 1)).kind; dims = (shape_at g.nodes s.shape (k + 1)).dims }))
    c.frames-frames.ensures
    ∙ sym (bytes_at g s k node is) in
    let most : c.from-most.result ≡ most_bytes_at g (k + 1) =
    c.from-most.ensures ∙ c.most_bytes.ensures ∙ ap (λ n. most_bytes n.kind) (sym c.index-nodes-place.is) ∙ sym (most_at g k node is) in
    let short : nat_lt c.from-most.result c.file_bytes-bytes.result ≡ false = grind (arith, nat_tests) in
    sym (too_long_next g s k (length g.nodes) c.file_bytes-bytes.result c.from-most.result false within bytes most short) ∙ c.loop-place.invariant
