use Rattle.std.proofs.Common.{◌≡◌, ℕ, sym, ◌∙◌, subst}
use Rattle.std.specs.Prelude.{slice_get}
use Rattle.std.specs.Option.{IfSome}
use Rattle.std.proofs.lemmas.Option.{same_Some}
use Rattle.nd_base.specs.Array.{Array, StackValue}
use Rattle.nd_base.specs.Stacks.{head_of}
use Rattle.graph_files.specs.NodeFiles.{first_count}
use Rattle.graph_files.specs.OpenFiles.{AllWritten, AllStops, with_array}
use Rattle.graph_files.proofs.Writes.{on-ok, if-err}
use Rattle.flow_saver.proofs.Rows.{piece-row}
use Rattle.flow_saver.proofs.piece.write_piece.Goals as goal

pub write-requires-clause-ready : goal.write-requires-clause-ready
write-requires-clause-ready g c =
    let stack = g.R.Run.stack in
    let heads =
    subst (λ (s : StackValue). IfSome (slice_get s.arrays c.index_of.result) (λ a. head_of a ≡ c.head-head.result.now)) c.requires.stack c.head-head.ensures in
    let at_index = subst (λ (k : ℕ). IfSome (slice_get stack.arrays k) (λ a. head_of a ≡ c.head-head.result.now)) c.index_of.ensures.index heads in
    λ x is.
    let due = c.requires.due x is in
    let row =
    piece-row g.R.Run.graph stack c.requires.graph c.requires.kept x due.shape c.args.piece.now.name due.maker c.head-head.result.now c.samples.result.now
    c.samples.ensures.content at_index in
    record { written = due.written; room = due.room; sized = due.sized; numrecs = due.numrecs; row = row.row }

pub returns-clause-ok : goal.returns-clause-ok
returns-clause-ok g c =
    let stack = g.R.Run.stack in
    let heads =
    subst (λ (s : StackValue). IfSome (slice_get s.arrays c.index_of.result) (λ a. head_of a ≡ c.head-head.result.now)) c.requires.stack c.head-head.ensures in
    let at_index = subst (λ (k : ℕ). IfSome (slice_get stack.arrays k) (λ a. head_of a ≡ c.head-head.result.now)) c.index_of.ensures.index heads in
    on-ok c.write.result c.write.ensures.ok (λ ok before written x a is has few place h.
    let due = c.requires.due x is in
    let row =
    piece-row g.R.Run.graph stack c.requires.graph c.requires.kept x due.shape c.args.piece.now.name due.maker c.head-head.result.now c.samples.result.now
    c.samples.ensures.content at_index in
    let same = row.same ∙ same_Some row.array a (sym row.holds ∙ has) in
    subst (λ (b : Array). AllWritten before c.write.new.self (with_array written x.node b) (g.K.Shelf.held c.write.new.shelf)) same
    (ok before written x is few place h))

pub returns-clause-err : goal.returns-clause-err
returns-clause-err g c =
    let stack = g.R.Run.stack in
    let heads =
    subst (λ (s : StackValue). IfSome (slice_get s.arrays c.index_of.result) (λ a. head_of a ≡ c.head-head.result.now)) c.requires.stack c.head-head.ensures in
    let at_index = subst (λ (k : ℕ). IfSome (slice_get stack.arrays k) (λ a. head_of a ≡ c.head-head.result.now)) c.index_of.ensures.index heads in
    if-err c.write.result c.write.ensures.err (λ fault stops before written x a is has place h.
    let due = c.requires.due x is in
    let row =
    piece-row g.R.Run.graph stack c.requires.graph c.requires.kept x due.shape c.args.piece.now.name due.maker c.head-head.result.now c.samples.result.now
    c.samples.ensures.content at_index in
    let same = row.same ∙ same_Some row.array a (sym row.holds ∙ has) in
    subst (λ (b : Array). AllStops fault before x c.write.new.self written c.args.group (first_count x.late c.args.of) b (g.K.Shelf.held c.args.shelf.now)
    (g.K.Shelf.held c.write.new.shelf)) same (stops before written x is place h))
