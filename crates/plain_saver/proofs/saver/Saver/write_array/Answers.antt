use Rattle.std.proofs.Common.{◌≡◌, ◌+◌, ◌-◌, Some, ◌≤◌, List, ℕ, length, get_or, sym, ap, subst, ◌∙◌, arith}
use Rattle.std.specs.List.{flat_map}
use Rattle.std.proofs.lemmas.Bool.{false≢true}
use Rattle.std.proofs.lemmas.List.{length-set}
use Rattle.std.proofs.lemmas.Option.{same_Some}
use Rattle.std.proofs.lemmas.Result.{err_from_is_err_and}
use Rattle.nd_base.specs.declared.attribute.FileShape.{FileShape}
use Rattle.cdf_write.specs.Layout.{row}
use Rattle.chain_plain.specs.PlainRun.{passed}
use Rattle.chain_plain.specs.PassedLaws.{passed-few}
use Rattle.graph_files.proofs.Ends.{item}
use Rattle.graph_files.specs.InTurn.{AreReady}
use Rattle.graph_files.specs.NodeFiles.{NodeFile}
use Rattle.graph_files.specs.OutFiles.{file_shape}
use Rattle.plain_saver.specs.declared.passes.Pass.{Pass}
use Rattle.plain_saver.specs.Ahead.{arrays_from}
use Rattle.plain_saver.specs.Passes.{pass_at, with_gone}
use Rattle.plain_saver.specs.Saved.{IsSaved}
use Rattle.plain_saver.proofs.TornSaved.{torn-saved}
use Rattle.plain_saver.proofs.FileNodes.{file-of}
use Rattle.plain_saver.proofs.Writing.{pass-read, counted, one-left, all-left, next-low, next-length, ready, stopped, written-then}
use Rattle.plain_saver.proofs.saver.Saver.write_array.Goals as goal

pub next_place-requires-clause-node : goal.next_place-requires-clause-node
next_place-requires-clause-node g c = λ x is.
    counted c.args.source.now.graph c.args.source.now.stack c.known.ensures.graph c.known.ensures.kept c.requires.saved.0 c.requires.saved.1.0
    c.args.self.now.passes.items c.args.self.now.files (g.K.Shelf.held c.args.shelf.now) c.requires.saved.1.1 c.args.at x is

pub overflow_sub-node : goal.overflow_sub-node
overflow_sub-node g c =
    let graph = c.args.source.now.graph in
    let s = c.args.source.now.stack in
    let ps = c.args.self.now.passes.items in
    let xs = c.args.self.now.files in
    let t = g.K.Shelf.held c.args.shelf.now in
    let i = item xs c.args.at c.requires.at in
    let x = i.0 in
    let node = c.node-node.ensures x i.1 in
    let known =
    counted graph s c.known.ensures.graph c.known.ensures.kept c.requires.saved.0 c.requires.saved.1.0 ps xs t c.requires.saved.1.1 c.args.at x i.1 in
    subst (λ n. 1 ≤ n) (sym node) known.first

pub index-requires : goal.index-requires
index-requires g c =
    let graph = c.args.source.now.graph in
    let s = c.args.source.now.stack in
    let ps = c.args.self.now.passes.items in
    let xs = c.args.self.now.files in
    let t = g.K.Shelf.held c.args.shelf.now in
    let i = item xs c.args.at c.requires.at in
    let x = i.0 in
    let node = c.node-node.ensures x i.1 in
    let known =
    counted graph s c.known.ensures.graph c.known.ensures.kept c.requires.saved.0 c.requires.saved.1.0 ps xs t c.requires.saved.1.1 c.args.at x i.1 in
    omega (arith, node, known.first, known.within)

pub overflow_sub-next : goal.overflow_sub-next
overflow_sub-next g c =
    let graph = c.args.source.now.graph in
    let s = c.args.source.now.stack in
    let ps = c.args.self.now.passes.items in
    let xs = c.args.self.now.files in
    let t = g.K.Shelf.held c.args.shelf.now in
    let i = item xs c.args.at c.requires.at in
    let x = i.0 in
    let node = c.node-node.ensures x i.1 in
    let below = one-left graph s c.known.ensures.graph c.known.ensures.kept c.requires.saved.0 c.requires.saved.1.0 ps xs t c.requires.saved.1.1
    c.args.at x i.1 c.args.index
    c.in-Some.next.group c.in-Some.next.place c.in-Some.next.of (c.in-Some.ensures.some x i.1) in
    omega (arith, below)

pub gather-requires-clause-positions : goal.gather-requires-clause-positions
gather-requires-clause-positions g c =
    let graph = c.args.source.now.graph in
    let s = c.args.source.now.stack in
    let ps = c.args.self.now.passes.items in
    let xs = c.args.self.now.files in
    let t = g.K.Shelf.held c.args.shelf.now in
    let i = item xs c.args.at c.requires.at in
    let x = i.0 in
    let node = c.node-node.ensures x i.1 in
    let known =
    counted graph s c.known.ensures.graph c.known.ensures.kept c.requires.saved.0 c.requires.saved.1.0 ps xs t c.requires.saved.1.1 c.args.at x i.1 in
    let p : c.index.result.now ≡ pass_at ps x.node =
    pass-read ps x.node c.index.result.now known.first known.within (c.index.ensures ∙ ap (λ k. get_or ps (k - 1) c.index.result.now) node) in
    let h = c.requires.saved.1.1 in
    ap (λ (q : Pass). q.positions) p ∙ h.passes.positions x.node known.first (subst (λ n. x.node ≤ n) h.passes.count known.within)
    ∙ ap (passed graph s) (sym node)

pub gather-requires-clause-shape : goal.gather-requires-clause-shape
gather-requires-clause-shape g c =
    let graph = c.args.source.now.graph in
    let s = c.args.source.now.stack in
    let ps = c.args.self.now.passes.items in
    let xs = c.args.self.now.files in
    let t = g.K.Shelf.held c.args.shelf.now in
    let i = item xs c.args.at c.requires.at in
    let x = i.0 in
    let node = c.node-node.ensures x i.1 in
    c.shape.ensures x i.1 ∙ (file-of graph s c.requires.saved.0 c.known.ensures.graph xs c.requires.saved.1.1.nodes c.args.at x i.1).shape
    ∙ ap (file_shape graph s) (sym node)

pub gather-requires-clause-some : goal.gather-requires-clause-some
gather-requires-clause-some g c =
    let graph = c.args.source.now.graph in
    let s = c.args.source.now.stack in
    let ps = c.args.self.now.passes.items in
    let xs = c.args.self.now.files in
    let t = g.K.Shelf.held c.args.shelf.now in
    let i = item xs c.args.at c.requires.at in
    let x = i.0 in
    let node = c.node-node.ensures x i.1 in
    let below = one-left graph s c.known.ensures.graph c.known.ensures.kept c.requires.saved.0 c.requires.saved.1.0 ps xs t c.requires.saved.1.1
    c.args.at x i.1 c.args.index
    c.in-Some.next.group c.in-Some.next.place c.in-Some.next.of (c.in-Some.ensures.some x i.1) in
    omega (arith, below)

pub gather-requires-clause-most : goal.gather-requires-clause-most
gather-requires-clause-most g c =
    let graph = c.args.source.now.graph in
    let s = c.args.source.now.stack in
    let ps = c.args.self.now.passes.items in
    let xs = c.args.self.now.files in
    let t = g.K.Shelf.held c.args.shelf.now in
    let i = item xs c.args.at c.requires.at in
    let x = i.0 in
    let node = c.node-node.ensures x i.1 in
    let known =
    counted graph s c.known.ensures.graph c.known.ensures.kept c.requires.saved.0 c.requires.saved.1.0 ps xs t c.requires.saved.1.1 c.args.at x i.1 in
    let p : c.index.result.now ≡ pass_at ps x.node =
    pass-read ps x.node c.index.result.now known.first known.within (c.index.ensures ∙ ap (λ k. get_or ps (k - 1) c.index.result.now) node) in
    subst (λ (q : Pass). q.gone + (c.in-Some.next.of - c.in-Some.next.place) ≤ length q.positions) (sym p)
    (all-left graph s c.known.ensures.graph c.known.ensures.kept c.requires.saved.0 c.requires.saved.1.0 ps xs t c.requires.saved.1.1 c.args.at x i.1
    c.args.index c.in-Some.next.group c.in-Some.next.place c.in-Some.next.of (c.in-Some.ensures.some x i.1))

pub returns-in_err-count-clause-err : goal.returns-in_err-count-clause-err
returns-in_err-count-clause-err g c =
    let p = err_from_is_err_and c.from_residual.result c.from_residual.ensures.1 in
    rw p.1 (λ prefix before h.
    torn-saved c.args.source.now.graph c.args.source.now.stack prefix c.known.ensures.graph c.known.ensures.kept before
    c.args.self.now.passes.items c.args.self.now.files (g.K.Shelf.held c.args.shelf.now) h)

pub write_rows-requires-clause-ready : goal.write_rows-requires-clause-ready
write_rows-requires-clause-ready g c = λ y hy.
    let graph = c.args.source.now.graph in
    let s = c.args.source.now.stack in
    let ps = c.args.self.now.passes.items in
    let xs = c.args.self.now.files in
    let t = g.K.Shelf.held c.args.shelf.now in
    let i = item xs c.args.at c.requires.at in
    let x = i.0 in
    let node = c.node-node.ensures x i.1 in
    let known =
    counted graph s c.known.ensures.graph c.known.ensures.kept c.requires.saved.0 c.requires.saved.1.0 ps xs t c.requires.saved.1.1 c.args.at x i.1 in
    let p : c.index.result.now ≡ pass_at ps x.node =
    pass-read ps x.node c.index.result.now known.first known.within (c.index.ensures ∙ ap (λ k. get_or ps (k - 1) c.index.result.now) node) in
    let n = c.in_ok-count.count in
    let next = arrays_from graph s x.node (pass_at ps x.node).gone n in
    let parts : c.as_slice.result.now ≡ flat_map (row x.shape) next =
    c.as_slice.ensures.value ∙ c.in_ok-count.ensures.rows
    ∙ ap (λ (shape : FileShape). flat_map (row shape) (arrays_from graph s c.node-node.result c.index.result.now.gone n)) (c.shape.ensures x i.1)
    ∙ ap (λ v. flat_map (row x.shape) (arrays_from graph s v c.index.result.now.gone n)) node
    ∙ ap (λ (q : Pass). flat_map (row x.shape) (arrays_from graph s x.node q.gone n)) p in
    let same : x ≡ y = same_Some x y (sym i.1 ∙ hy) in
    subst (λ (z : NodeFile). AreReady z (Some c.in-Some.next.of) c.in-Some.next.group c.in-Some.next.place c.as_slice.result.now n t) same
    (ready graph s c.known.ensures.graph c.known.ensures.kept c.requires.saved.0 c.requires.saved.1.0 ps xs t c.requires.saved.1.1 c.args.at x i.1 c.args.index
    c.in-Some.next.group c.in-Some.next.place c.in-Some.next.of (c.in-Some.ensures.some x i.1) n c.in_ok-count.ensures.some
    c.in_ok-count.ensures.most c.as_slice.result.now parts)

pub returns-in_err-write_rows-clause-count : goal.returns-in_err-write_rows-clause-count
returns-in_err-write_rows-clause-count g c =
    let i = item c.args.self.now.files c.args.at c.requires.at in
    let r = c.in_err-write_rows.ensures.goes i.0 i.1 in
    ap length r.1.0 ∙ length-set c.args.self.now.files c.args.at (record i.0 { current = r.0 })

pub returns-in_err-write_rows-clause-err : goal.returns-in_err-write_rows-clause-err
returns-in_err-write_rows-clause-err g c =
    let w = err_from_is_err_and c.from_residual-in_err-write_rows.result c.from_residual-in_err-write_rows.ensures.1 in
    let graph = c.args.source.now.graph in
    let s = c.args.source.now.stack in
    let ps = c.args.self.now.passes.items in
    let xs = c.args.self.now.files in
    let t = g.K.Shelf.held c.args.shelf.now in
    let i = item xs c.args.at c.requires.at in
    let x = i.0 in
    let node = c.node-node.ensures x i.1 in
    let known =
    counted graph s c.known.ensures.graph c.known.ensures.kept c.requires.saved.0 c.requires.saved.1.0 ps xs t c.requires.saved.1.1 c.args.at x i.1 in
    let p : c.index.result.now ≡ pass_at ps x.node =
    pass-read ps x.node c.index.result.now known.first known.within (c.index.ensures ∙ ap (λ k. get_or ps (k - 1) c.index.result.now) node) in
    let n = c.in_ok-count.count in
    let next = arrays_from graph s x.node (pass_at ps x.node).gone n in
    let parts : c.as_slice.result.now ≡ flat_map (row x.shape) next =
    c.as_slice.ensures.value ∙ c.in_ok-count.ensures.rows
    ∙ ap (λ (shape : FileShape). flat_map (row shape) (arrays_from graph s c.node-node.result c.index.result.now.gone n)) (c.shape.ensures x i.1)
    ∙ ap (λ v. flat_map (row x.shape) (arrays_from graph s v c.index.result.now.gone n)) node
    ∙ ap (λ (q : Pass). flat_map (row x.shape) (arrays_from graph s x.node q.gone n)) p in
    let r = c.in_err-write_rows.ensures.goes x i.1 in
    let many = next-length graph s c.known.ensures.graph c.known.ensures.kept c.requires.saved.0 c.requires.saved.1.0 ps xs t c.requires.saved.1.1
    c.args.at x i.1 c.args.index
    c.in-Some.next.group c.in-Some.next.place c.in-Some.next.of (c.in-Some.ensures.some x i.1) n c.in_ok-count.ensures.some
    c.in_ok-count.ensures.most in
    rw w.1 (λ prefix before h.
    stopped graph s c.known.ensures.graph c.known.ensures.kept prefix before ps xs t h c.args.at x i.1 c.args.index
    c.in-Some.next.group c.in-Some.next.place c.in-Some.next.of (c.in-Some.ensures.some x i.1) n
    c.in_ok-count.ensures.some c.in_ok-count.ensures.most c.in_err-write_rows.field-0.0 r.0 (g.K.Shelf.held c.write_rows.new.shelf) (r.1.1 next many parts))

pub count_gone-requires-clause-some : goal.count_gone-requires-clause-some
count_gone-requires-clause-some g c =
    let graph = c.args.source.now.graph in
    let s = c.args.source.now.stack in
    let ps = c.args.self.now.passes.items in
    let xs = c.args.self.now.files in
    let t = g.K.Shelf.held c.args.shelf.now in
    let i = item xs c.args.at c.requires.at in
    let x = i.0 in
    let node = c.node-node.ensures x i.1 in
    let known =
    counted graph s c.known.ensures.graph c.known.ensures.kept c.requires.saved.0 c.requires.saved.1.0 ps xs t c.requires.saved.1.1 c.args.at x i.1 in
    subst (λ n. 1 ≤ n) (sym node) known.first

pub count_gone-requires-clause-node : goal.count_gone-requires-clause-node
count_gone-requires-clause-node g c =
    let graph = c.args.source.now.graph in
    let s = c.args.source.now.stack in
    let ps = c.args.self.now.passes.items in
    let xs = c.args.self.now.files in
    let t = g.K.Shelf.held c.args.shelf.now in
    let i = item xs c.args.at c.requires.at in
    let x = i.0 in
    let node = c.node-node.ensures x i.1 in
    let known =
    counted graph s c.known.ensures.graph c.known.ensures.kept c.requires.saved.0 c.requires.saved.1.0 ps xs t c.requires.saved.1.1 c.args.at x i.1 in
    subst (λ n. n ≤ length ps) (sym node) known.within

pub count_gone-requires-clause-next : goal.count_gone-requires-clause-next
count_gone-requires-clause-next g c =
    let graph = c.args.source.now.graph in
    let s = c.args.source.now.stack in
    let ps = c.args.self.now.passes.items in
    let xs = c.args.self.now.files in
    let t = g.K.Shelf.held c.args.shelf.now in
    let i = item xs c.args.at c.requires.at in
    let x = i.0 in
    let node = c.node-node.ensures x i.1 in
    let n = c.in_ok-count.count in
    let low = next-low graph s c.known.ensures.graph c.known.ensures.kept c.requires.saved.0 c.requires.saved.1.0 ps xs t c.requires.saved.1.1
    c.args.at x i.1 c.args.index
    c.in-Some.next.group c.in-Some.next.place c.in-Some.next.of (c.in-Some.ensures.some x i.1) n c.in_ok-count.ensures.some
    c.in_ok-count.ensures.most in
    let same = ap (λ v. (pass_at ps v).gone) node in
    omega (arith, low, same, passed-few graph s x.node, c.known.ensures.kept.few)

pub returns-clause-count : goal.returns-clause-count
returns-clause-count g c =
    let i = item c.args.self.now.files c.args.at c.requires.at in
    let r = c.in_ok-write_rows.ensures.goes i.0 i.1 in
    ap length c.count_gone.ensures.files ∙ ap length r.1.0 ∙ length-set c.args.self.now.files c.args.at (record i.0 { current = r.0 })

pub returns-clause-passes : goal.returns-clause-passes
returns-clause-passes g c = λ x is.
    let ps = c.args.self.now.passes.items in
    let n = c.in_ok-count.count in
    let goes = c.in-Some.ensures.some x is in
    record {
      not = λ e. absurd (false≢true (sym e ∙ goes.next));
      next = λ e. (n, c.in_ok-count.ensures.some, c.count_gone.ensures.passes ∙ ap (λ v. with_gone ps v n) (c.node-node.ensures x is));
    }

pub returns-clause-saved : goal.returns-clause-saved
returns-clause-saved g c = λ prefix before h.
    let graph = c.args.source.now.graph in
    let s = c.args.source.now.stack in
    let ps = c.args.self.now.passes.items in
    let xs = c.args.self.now.files in
    let t = g.K.Shelf.held c.args.shelf.now in
    let i = item xs c.args.at c.requires.at in
    let x = i.0 in
    let node = c.node-node.ensures x i.1 in
    let known =
    counted graph s c.known.ensures.graph c.known.ensures.kept c.requires.saved.0 c.requires.saved.1.0 ps xs t c.requires.saved.1.1 c.args.at x i.1 in
    let p : c.index.result.now ≡ pass_at ps x.node =
    pass-read ps x.node c.index.result.now known.first known.within (c.index.ensures ∙ ap (λ k. get_or ps (k - 1) c.index.result.now) node) in
    let n = c.in_ok-count.count in
    let next = arrays_from graph s x.node (pass_at ps x.node).gone n in
    let parts : c.as_slice.result.now ≡ flat_map (row x.shape) next =
    c.as_slice.ensures.value ∙ c.in_ok-count.ensures.rows
    ∙ ap (λ (shape : FileShape). flat_map (row shape) (arrays_from graph s c.node-node.result c.index.result.now.gone n)) (c.shape.ensures x i.1)
    ∙ ap (λ v. flat_map (row x.shape) (arrays_from graph s v c.index.result.now.gone n)) node
    ∙ ap (λ (q : Pass). flat_map (row x.shape) (arrays_from graph s x.node q.gone n)) p in
    let u = g.K.Shelf.held c.write_rows.new.shelf in
    let r = c.in_ok-write_rows.ensures.goes x i.1 in
    let many = next-length graph s c.known.ensures.graph c.known.ensures.kept c.requires.saved.0 c.requires.saved.1.0 ps xs t c.requires.saved.1.1
    c.args.at x i.1 c.args.index
    c.in-Some.next.group c.in-Some.next.place c.in-Some.next.of (c.in-Some.ensures.some x i.1) n c.in_ok-count.ensures.some
    c.in_ok-count.ensures.most in
    let done =
    written-then graph s c.known.ensures.graph c.known.ensures.kept prefix before ps xs t h c.args.at x i.1 c.args.index
    c.in-Some.next.group c.in-Some.next.place c.in-Some.next.of (c.in-Some.ensures.some x i.1) n
    c.in_ok-count.ensures.some c.in_ok-count.ensures.most u r.0 (r.1.1 next many parts) in
    subst (λ (zs : List NodeFile). IsSaved graph s prefix before c.count_gone.new.self.passes.items c.count_gone.new.self.texts zs u)
    (sym c.count_gone.ensures.files)
    (subst (λ (us : List (List ℕ)). IsSaved graph s prefix before c.count_gone.new.self.passes.items us c.write_rows.new.self u)
    (sym c.count_gone.ensures.texts)
    (subst (λ (qs : List Pass). IsSaved graph s prefix before qs c.args.self.now.texts c.write_rows.new.self u)
    (sym (c.count_gone.ensures.passes ∙ ap (λ v. with_gone ps v n) node))
    (subst (λ (zs : List NodeFile). IsSaved graph s prefix before (with_gone ps x.node n) c.args.self.now.texts zs u) (sym r.1.0) done)))
