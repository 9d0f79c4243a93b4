use Rattle.std.proofs.Common.{◌≡◌, ◌≤◌, ℕ, List, ◌++◌, true, sym, ap, subst, ◌∙◌, arith}
use Rattle.std.specs.Prelude.{◌==◌, false, slice_get}
use Rattle.std.specs.Option.{option_map_or}
use Rattle.nd_base.specs.GraphRules.{IsKind}
use Rattle.chain_plain.proofs.Rules.{stands}
use Rattle.chain_plain.specs.PassedLaws.{passed-few}
use Rattle.graph_files.specs.NodeFiles.{NodeFile}
use Rattle.plain_saver.specs.declared.passes.Pass.{Pass}
use Rattle.plain_saver.specs.Passes.{pass_at, is_next}
use Rattle.plain_saver.specs.Saved.{IsSaved}
use Rattle.plain_saver.specs.Texts.{text_at, with_text}
use Rattle.plain_saver.proofs.Contents.{content-array}
use Rattle.plain_saver.proofs.RowSteps.{saved-row}
use Rattle.plain_saver.proofs.Pushed.{node-place}
use Rattle.plain_saver.proofs.Writing.{pass-read}
use Rattle.plain_saver.proofs.saver.Saver.keep_row.Goals as goal

pub row_of-requires-clause-rule : goal.row_of-requires-clause-rule
row_of-requires-clause-rule c =
    let r = c.requires.rule in
    subst IsKind r.1.1 (stands c.args.source.now.graph c.args.node r.0 c.cut.ensures.known.graph (sym r.1.0)).sound.kind

pub add-requires : goal.add-requires
add-requires c =
    let r = c.requires.rule in
    let at = node-place c.args.source.now.graph c.args.node r.0 r.1.0 in
    (at.0, subst (λ n. c.args.node ≤ n) (sym c.requires.saved.1.1.1.kept) at.1)

pub count_gone-requires-clause-node : goal.count_gone-requires-clause-node
count_gone-requires-clause-node c =
    let r = c.requires.rule in
    subst (λ n. c.args.node ≤ n) (sym c.requires.saved.1.1.1.passes.count) (node-place c.args.source.now.graph c.args.node r.0 r.1.0).1

pub count_gone-requires-clause-next : goal.count_gone-requires-clause-next
count_gone-requires-clause-next c =
    let r = c.requires.rule in
    let at = node-place c.args.source.now.graph c.args.node r.0 r.1.0 in
    let low = c.requires.saved.1.1.1.passes.gone c.args.node at.0 at.1 in
    omega (arith, low, passed-few c.args.source.now.graph c.args.source.now.stack c.args.node, c.cut.ensures.known.kept.few)

pub returns-clause-saved : goal.returns-clause-saved
returns-clause-saved c = λ prefix before held h.
    let graph = c.args.source.now.graph in
    let s = c.args.source.now.stack in
    let ps = c.args.self.now.passes.items in
    let ts = c.args.self.now.texts in
    let v = c.args.node in
    let r = c.requires.rule in
    let at = node-place graph v r.0 r.1.0 in
    let p : c.index.result.now ≡ pass_at ps v =
    pass-read ps v c.index.result.now at.0 (subst (λ n. v ≤ n) (sym h.passes.count) at.1) c.index.ensures in
    let next : is_next ps v c.args.index ≡ true =
    ap (λ (q : Pass). option_map_or (λ k. k == c.args.index) (slice_get q.positions q.gone) false) (sym p) ∙ sym c.is_next.ensures ∙ c.if-not-is_next.false in
    let a = content-array graph s v c.args.index c.samples-samples.result.now c.samples-samples.ensures in
    let done =
    saved-row graph s prefix before held ps ts c.args.self.now.files c.cut.ensures.known.graph h v r.0 c.args.rule.now r.1.0 r.1.1 c.args.index next a.0 a.1
    c.as_bytes.result.now (c.as_bytes.ensures.value ∙ c.in_ok-row.ensures) in
    let texts = c.count_gone.ensures.texts ∙ c.in_ok-add.ensures.ok in
    subst (λ (xs : List NodeFile). IsSaved graph s prefix before c.count_gone.new.self.passes.items c.count_gone.new.self.texts xs held)
    (sym c.count_gone.ensures.files)
    (subst (λ (us : List (List ℕ)). IsSaved graph s prefix before c.count_gone.new.self.passes.items us c.args.self.now.files held) (sym texts)
    (subst (λ (qs : List Pass). IsSaved graph s prefix before qs (with_text ts v (text_at ts v ++ c.as_bytes.result.now)) c.args.self.now.files held)
    (sym c.count_gone.ensures.passes) done))
