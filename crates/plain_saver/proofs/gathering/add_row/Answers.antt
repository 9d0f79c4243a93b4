use Rattle.std.proofs.Common.{◌≡◌, ◌+◌, ◌++◌, List, ℕ, Some, sym, ap, subst, ◌∙◌}
use Rattle.std.specs.Prelude.{slice_get}
use Rattle.std.proofs.lemmas.Result.{on_ok_weaker}
use Rattle.nd_base.specs.Array.{Array}
use Rattle.nd_base.specs.declared.array.Head.{Head}
use Rattle.cdf_write.specs.Layout.{row}
use Rattle.cdf_write.specs.Writable.{IsWritable}
use Rattle.graph_files.specs.NodeShapes.{file_shape-IsWritable}
use Rattle.graph_files.specs.RowLaws.{content-IsRow, content-array_of}
use Rattle.plain_saver.proofs.Ahead.{frame-within, rows-more}
use Rattle.plain_saver.proofs.Contents.{array-out}
use Rattle.plain_saver.proofs.KeptStacks.{IsKeptStack-IsStack}
use Rattle.plain_saver.proofs.gathering.add_row.Goals as goal

pub cut-requires-clause-frame : goal.cut-requires-clause-frame
cut-requires-clause-frame c =
    let i = c.args.pass.now.gone + c.args.ahead in
    frame-within c.args.source.now.graph c.args.source.now.stack c.args.node 0 i c.after-index.result
    (subst (λ ks. slice_get ks i ≡ Some c.after-index.result) c.requires.positions c.after-index.ensures)

pub samples-samples-requires-clause-frame : goal.samples-samples-requires-clause-frame
samples-samples-requires-clause-frame c =
    let i = c.args.pass.now.gone + c.args.ahead in
    frame-within c.args.source.now.graph c.args.source.now.stack c.args.node 0 i c.after-index.result
    (subst (λ ks. slice_get ks i ≡ Some c.after-index.result) c.requires.positions c.after-index.ensures)

pub head-requires : goal.head-requires
head-requires c =
    let i = c.args.pass.now.gone + c.args.ahead in
    frame-within c.args.source.now.graph c.args.source.now.stack c.args.node 0 i c.after-index.result
    (subst (λ ks. slice_get ks i ≡ Some c.after-index.result) c.requires.positions c.after-index.ensures)

pub push_row-requires-clause-writable : goal.push_row-requires-clause-writable
push_row-requires-clause-writable c =
    subst IsWritable (sym c.requires.shape)
    (file_shape-IsWritable c.args.source.now.graph c.args.source.now.stack c.args.node c.cut.ensures.known.kept.writable)

pub push_row-requires-clause-columns : goal.push_row-requires-clause-columns
push_row-requires-clause-columns c =
    let g = c.args.source.now.graph in
    let s = c.args.source.now.stack in
    let out = array-out g s (IsKeptStack-IsStack s c.cut.ensures.known.kept) c.args.node c.after-index.result c.head.result.now c.samples-samples.result.now
    c.samples-samples.ensures c.head.ensures in
    (content-IsRow g s c.args.node c.after-index.result out.array c.args.shape.now c.head.result.now c.samples-samples.result.now c.cut.ensures.known.kept
    c.requires.shape out.made (ap (λ (h : Head). h.attrs) (sym out.own)) out.samples.size).columns

pub push_row-requires-clause-samples : goal.push_row-requires-clause-samples
push_row-requires-clause-samples c =
    let g = c.args.source.now.graph in
    let s = c.args.source.now.stack in
    let out = array-out g s (IsKeptStack-IsStack s c.cut.ensures.known.kept) c.args.node c.after-index.result c.head.result.now c.samples-samples.result.now
    c.samples-samples.ensures c.head.ensures in
    (content-IsRow g s c.args.node c.after-index.result out.array c.args.shape.now c.head.result.now c.samples-samples.result.now c.cut.ensures.known.kept
    c.requires.shape out.made (ap (λ (h : Head). h.attrs) (sym out.own)) out.samples.size).samples

pub returns-clause-rows : goal.returns-clause-rows
returns-clause-rows c =
    let g = c.args.source.now.graph in
    let s = c.args.source.now.stack in
    let shape = c.args.shape.now in
    let i = c.args.pass.now.gone + c.args.ahead in
    let at = subst (λ ks. slice_get ks i ≡ Some c.after-index.result) c.requires.positions c.after-index.ensures in
    let out = array-out g s (IsKeptStack-IsStack s c.cut.ensures.known.kept) c.args.node c.after-index.result c.head.result.now c.samples-samples.result.now
    c.samples-samples.ensures c.head.ensures in
    let same =
    content-array_of g s c.args.node c.after-index.result out.array shape c.head.result.now c.samples-samples.result.now c.cut.ensures.known.kept
    c.requires.shape out.made out.own out.samples.samples in
    on_ok_weaker c.push_row.result (λ pushed. pushed
    ∙ ap (λ (a : Array). c.args.rows.now.items ++ row shape a) same
    ∙ ap (λ (old : List ℕ). old ++ row shape out.array) c.requires.rows
    ∙ sym (rows-more g s c.args.node c.args.pass.now.gone shape c.args.ahead c.after-index.result out.array at out.made)) c.push_row.ensures.bytes
