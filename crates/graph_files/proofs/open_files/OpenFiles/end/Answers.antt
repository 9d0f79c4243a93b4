use Rattle.std.proofs.Common.{◌≡◌, ◌+◌, ◌<◌, ◌≤◌, List, set, length, sym, ap, subst, refl, ◌∙◌, arith}
use Rattle.std.proofs.lemmas.Result.{err_from_is_err_and}
use Rattle.graph_files.specs.NodeFiles.{NodeFile}
use Rattle.graph_files.specs.OpenFiles.{closed}
use Rattle.graph_files.specs.EndedFiles.{AllStand, ended_to}
use Rattle.graph_files.proofs.Ends.{item, next-at, at-next, next-written, names-more, all-stand, all-ended, ended_to-more, stops-then}
use Rattle.graph_files.proofs.open_files.OpenFiles.end.Goals as goal

pub loop-at-init : goal.loop-at-init
loop-at-init g c =
    record {
      files = refl;
      stands = λ before written h. all-stand before c.args.self written (g.K.Shelf.held c.args.shelf.now) h;
      names = λ before written h k x low is. refl;
      cause = refl;
    }

pub end_node-requires-clause-written : goal.end_node-requires-clause-written
end_node-requires-clause-written g c =
    let w = c.requires.written in
    let inv = c.loop-at.invariant in
    λ x h.
    let is = next-at c.loop-at.at c.args.self c.loop-at.files x inv.files h in (
      w.1.0 x.node,
      next-written w.0 c.args.self w.1.0 c.loop-at.at x (g.K.Shelf.held c.args.shelf.now) (g.K.Shelf.held c.loop-at.shelf) is w.1.1
          (inv.stands w.0 w.1.0 w.1.1),
    )

pub end_node-requires-clause-filled : goal.end_node-requires-clause-filled
end_node-requires-clause-filled g c =
    λ x h. c.requires.filled c.loop-at.at x (next-at c.loop-at.at c.args.self c.loop-at.files x c.loop-at.invariant.files h)

pub returns-in_err-end_node-clause-err : goal.returns-in_err-end_node-clause-err
returns-in_err-end_node-clause-err g c =
    let p = err_from_is_err_and c.from_residual.result c.from_residual.ensures.1 in
    let inv = c.loop-at.invariant in
    let n = c.loop-at.at in
    let xs = c.args.self in
    let within : n < length xs = omega arith in
    let i = item xs n within in
    rw p.1 (λ before written h.
    let stand = inv.stands before written h in
    let here = next-written before xs written n i.0 (g.K.Shelf.held c.args.shelf.now) (g.K.Shelf.held c.loop-at.shelf) i.1 h stand in
    let there = at-next n xs c.loop-at.files i.0 inv.files i.1 in
    stops-then before xs c.end_node.new.self written n i.0 (g.K.Shelf.held c.args.shelf.now) (g.K.Shelf.held c.loop-at.shelf)
    (g.K.Shelf.held c.end_node.new.shelf) i.1
    (inv.names before written h n i.0 (let same : n ≤ n = omega arith in same) i.1)
    (c.end_node.ensures.nodes i.0 there ∙ ap (λ (zs : List NodeFile). set zs n (closed i.0)) inv.files)
    (c.in_err-end_node.ensures.err before written i.0 there here
    (subst (λ (zs : List NodeFile). AllStand before zs written (g.K.Shelf.held c.loop-at.shelf)) (sym inv.files) stand)))

pub loop-at-preserved : goal.loop-at-preserved
loop-at-preserved g c =
    let inv = c.loop-at.invariant in
    let n = c.loop-at.at in
    let xs = c.args.self in
    let t = g.K.Shelf.held c.loop-at.shelf in
    let u = g.K.Shelf.held c.end_node.new.shelf in
    let within : n < length xs = omega arith in
    let i = item xs n within in
    let there = at-next n xs c.loop-at.files i.0 inv.files i.1 in
    let made : c.end_node.new.self ≡ ended_to (n + 1) xs =
    ended_to-more n xs c.end_node.new.self i.0 i.1 (c.end_node.ensures.nodes i.0 there ∙ ap (λ (zs : List NodeFile). set zs n (closed i.0)) inv.files) in
    record {
      files = made;
      stands = λ before written h.
          let stand = inv.stands before written h in
          let here = next-written before xs written n i.0 (g.K.Shelf.held c.args.shelf.now) t i.1 h stand in
          subst (λ (zs : List NodeFile). AllStand before zs written u) made
          (c.in_ok-end_node.ensures.ok before written i.0 there here (subst (λ (zs : List NodeFile). AllStand before zs written t) (sym inv.files) stand));
      names = λ before written h k y after at.
          let stand = inv.stands before written h in
          let here = next-written before xs written n i.0 (g.K.Shelf.held c.args.shelf.now) t i.1 h stand in
          names-more xs c.loop-at.files n k written t u y inv.files after at
          (c.end_node.ensures.others before written i.0 there here (subst (λ (zs : List NodeFile). AllStand before zs written t) (sym inv.files) stand))
          ∙ inv.names before written h k y (omega (arith, after)) at;
      cause = c.in_ok-end_node.ensures.cause ∙ inv.cause;
    }

pub returns-clause-ok : goal.returns-clause-ok
returns-clause-ok g c =
    let inv = c.loop-at.invariant in
    λ before written h. all-ended before c.args.self written c.loop-at.at (g.K.Shelf.held c.loop-at.shelf) (omega (arith, inv)) (inv.stands before written h)
