use Rattle.std.proofs.Common.{◌≡◌, ◌<◌, ◌≤◌, All, List, ℕ, length, Some, None, ap, sym, subst, ◌∙◌, arith}
use Rattle.std.proofs.lemmas.Result.{IfOk-weaker}
use Rattle.nd_base.specs.GraphRules.{rule_at}
use Rattle.chain_plain.specs.OneThread.{outputs}
use Rattle.chain_plain.proofs.Rules.{stands}
use Rattle.chain_plain.specs.PlainRun.{share_of, passed}
use Rattle.chain_plain.specs.PassedLaws.{passed-none, passed-rule, passed-frames, passed-few, share_of-all}
use Rattle.plain_saver.proofs.PassedOn.{input_within}
use Rattle.plain_saver.proofs.passing.+passed.Goals as goal

pub passed-requires : goal.passed-requires
passed-requires t c =
    let g = c.args.plan.now.graph in
    let some : Some c.in-Some.rule.now ≡ rule_at g.nodes c.args.node = c.in-Some.ensures ∙ ap (λ ns. rule_at ns c.args.node) c.as_slice-rules.ensures in
    let near = (stands g c.args.node c.in-Some.rule.now c.requires.graph some).nearer in
    (omega (arith, c.decreases, near), (c.requires.graph, input_within g c.args.node c.in-Some.rule.now c.requires.graph some))

pub returns-in_default-clause-value : goal.returns-in_default-clause-value
returns-in_default-clause-value t c =
    let g = c.args.plan.now.graph in
    let none : None ≡ rule_at g.nodes c.args.node = c.in_default.ensures ∙ ap (λ ns. rule_at ns c.args.node) c.as_slice-rules.ensures in
    IfOk-weaker c.all_frames.result _ _ (λ v is. is ∙ sym (passed-none g c.args.stack.now c.args.node none)) c.all_frames.ensures

pub returns-in_default-clause-within : goal.returns-in_default-clause-within
returns-in_default-clause-within t c =
    let g = c.args.plan.now.graph in
    let s = c.args.stack.now in
    IfOk-weaker c.all_frames.result _ _ (λ v (is : v.items ≡ passed g s c.args.node). subst (All (λ k. k < length s.arrays)) (sym is)
    (passed-frames g s c.args.node)) (returns-in_default-clause-value t c)

pub returns-in_default-clause-few : goal.returns-in_default-clause-few
returns-in_default-clause-few t c =
    let g = c.args.plan.now.graph in
    let s = c.args.stack.now in
    IfOk-weaker c.all_frames.result _ _ (λ v (is : v.items ≡ passed g s c.args.node). subst (λ (ks : List ℕ). length ks ≤ length s.arrays) (sym is)
    (passed-few g s c.args.node)) (returns-in_default-clause-value t c)

pub plain_outputs-requires-clause-accepted : goal.plain_outputs-requires-clause-accepted
plain_outputs-requires-clause-accepted t c =
    let s = c.args.stack.now in
    let own : c.deref.result.now ≡ share_of c.as_slice-rules.result.now c.in-Some.rule.now.input c.args.node c.in_ok-outgoing.outgoing.items =
    c.deref.ensures.value ∙ c.in_ok-accepted.ensures in
    subst (All (λ k. k < length s.arrays)) (sym own)
    (share_of-all (λ k. k < length s.arrays) c.as_slice-rules.result.now c.in-Some.rule.now.input c.args.node c.in_ok-outgoing.outgoing.items
    c.in_ok-outgoing.ensures.within)

pub returns-clause-value : goal.returns-clause-value
returns-clause-value t c =
    let g = c.args.plan.now.graph in
    let s = c.args.stack.now in
    let n = c.in-Some.rule.now in
    let node = c.args.node in
    let some : Some n ≡ rule_at g.nodes node = c.in-Some.ensures ∙ ap (λ ns. rule_at ns node) c.as_slice-rules.ensures in
    let accepted : c.deref.result.now ≡ share_of g.nodes n.input node (passed g s n.input) =
    c.deref.ensures.value ∙ c.in_ok-accepted.ensures ∙ ap (λ ns. share_of ns n.input node c.in_ok-outgoing.outgoing.items) c.as_slice-rules.ensures
    ∙ ap (share_of g.nodes n.input node) c.in_ok-outgoing.ensures.value in
    IfOk-weaker c.plain_outputs.result (λ v. v.items ≡ outputs g.nodes s.arrays node c.deref.result.now) (λ v. v.items ≡ passed g s node)
    (λ v is. is ∙ ap (outputs g.nodes s.arrays node) accepted ∙ sym (passed-rule g s node n c.requires.graph some)) c.plain_outputs.ensures

pub returns-clause-within : goal.returns-clause-within
returns-clause-within t c =
    let g = c.args.plan.now.graph in
    let s = c.args.stack.now in
    IfOk-weaker c.plain_outputs.result _ _
    (λ v (is : v.items ≡ passed g s c.args.node). subst (All (λ k. k < length s.arrays)) (sym is) (passed-frames g s c.args.node)) (returns-clause-value t c)

pub returns-clause-few : goal.returns-clause-few
returns-clause-few t c =
    let g = c.args.plan.now.graph in
    let s = c.args.stack.now in
    IfOk-weaker c.plain_outputs.result _ _ (λ v (is : v.items ≡ passed g s c.args.node). subst (λ (ks : List ℕ). length ks ≤ length s.arrays) (sym is)
    (passed-few g s c.args.node)) (returns-clause-value t c)
