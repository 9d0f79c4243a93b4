-- In a run the array of a job has the name of the maker of what comes to the node.
use Rattle.std.proofs.Common.{◌≡◌, ℕ, zero, suc, ◌≤◌, Bool, true, not, eqb, ltb, leb, List, [], ◌∷◌, length, sym, ap, ◌∙◌, arith, Some, inl, inr}
use Rattle.std.specs.Prelude.{find, flat_map}
use Rattle.std.proofs.lemmas.Bool.{and_parts, false≢true, eqb-true, cases_Bool, leb-true}
use Rattle.std.proofs.lemmas.List.{length-map}
use Rattle.std.proofs.lemmas.Option.{slice_get_cases}
use Rattle.nd_base.specs.Array.{StackValue}
use Rattle.nd_base.specs.declared.frame.FrameName.{FrameName}
use Rattle.nd_base.specs.declared.graph.Graph.{Graph}
use Rattle.nd_base.specs.declared.graph.NodeRule.{NodeRule}
use Rattle.nd_base.specs.GraphRules.{IsGraph, input_of, rule_at}
use Rattle.chain_plain.specs.Nodes.{maker_at}
use Rattle.chain_plain.specs.Plans.{makers_of}
use Rattle.chain_plain.proofs.Rules.{stands}
use Rattle.flow_journal.specs.declared.entry.Entry.{Entry}
use Rattle.flow_journal.specs.declared.entry.Entry.TheVariants.{Take, TakeBlock}
use Rattle.flow_journal.specs.Setting.{is_node}
use Rattle.flow_journal.specs.RunSetting.{node_of}
use Rattle.flow_journal.specs.Pasts.{Past, frame, same}
use Rattle.flow_journal.specs.Hands.{takes_up, hand, standing}
use Rattle.flow_journal.specs.QueueCounts.{gone_at}
use Rattle.flow_journal.specs.Histories.{is_legal, is_history}
use Rattle.flow_journal.proofs.Counts.{hand-standing, queued-by}
use Rattle.flow_journal.proofs.EntryCounts.{count, bit, count-cons, count-append}
use Rattle.flow_journal.proofs.Steps.{same-true}
use Rattle.board_rules.specs.InHand.{is_job_on}
use Rattle.board_rules.specs.RunMeasures.{run_setting}
use Rattle.run_laws.proofs.Makers.{wrong, accepts-named}

-- what is found counts
in-flat : (t : FrameName → Bool) (f : Entry → List FrameName) (q : Entry → Bool) (e : Entry) (xs : Past) → find q xs ≡ Some e
    → count t (f e) ≤ count t (flat_map f xs)
in-flat t f q e [] h = cc
in-flat t f q e (x ∷ xs) h =
    let both_ = count-append t (f x) (flat_map f xs) in
    elim (cases_Bool (q x)) [
      | inl here ↦
          let is : Some x ≡ Some e = rw here at h in
          let same_ : x ≡ e = cc in
          let one : count t (f x) ≡ count t (f e) = ap (λ (y : Entry). count t (f y)) same_ in
          omega (arith, both_, one)
      | inr away ↦ let rest = in-flat t f q e xs (rw away at h) in omega (arith, both_, rest)
    ]

-- a job has taken its array away
job-gone : (t : FrameName → Bool) (v : ℕ) (a : FrameName) (e : Entry) → is_job_on v a (Some e) ≡ true → count t (gone_at v e) ≡ bit (t a)
job-gone t v a (Take r w m k) h =
    let p = and_parts (eqb w v) (same a (frame m k)) h in
    rw (p.0, same-true a (frame m k) p.1) (let one = count-cons t (frame m k) [] in omega (arith, one))
job-gone t v a (TakeBlock f x r w m k b n g) h =
    let p = and_parts (eqb w v) (same a (frame m k)) h in
    rw (p.0, same-true a (frame m k) p.1) (let one = count-cons t (frame m k) [] in omega (arith, one))
job-gone t v a _ h = absurd (false≢true h)

right-name : (m : ℕ) (a : FrameName) → bit (wrong m a) ≡ 0 → a.maker ≡ m
right-name m a h =
    elim (cases_Bool (eqb a.maker m)) [
      | inl is ↦ eqb-true a.maker m is
      | inr isnt ↦ absurd (omega (arith, h, ap (λ (b : Bool). bit (not b)) isnt))
    ]

pub node-rule : (g : Graph) (stack : StackValue) (v : ℕ) → is_node (run_setting g stack) v ≡ true → (n : NodeRule) × (rule_at g.nodes v ≡ Some n)
node-rule g stack zero h = absurd (false≢true h)
node-rule g stack (suc k) h =
    let most = leb-true (suc k) (length (run_setting g stack).nodes) (and_parts (ltb 0 (suc k)) (leb (suc k) (length (run_setting g stack).nodes)) h).1 in
    let same_ = length-map g.nodes node_of in
    elim (slice_get_cases g.nodes k).1 [
      | inl is ↦ (is.0, is.2)
      | inr past_ ↦ absurd (omega (arith, most, same_, past_.0))
    ]

pub hand-named : (g : Graph) (stack : StackValue) (P : Past) (r v : ℕ) (e : Entry) (a : FrameName) → IsGraph g → is_node (run_setting g stack) v ≡ true
    → is_history (run_setting g stack) P ≡ true → hand r P ≡ Some e → is_job_on v a (Some e) ≡ true → a.maker ≡ maker_at g.nodes (input_of g.nodes v)
hand-named g stack P r v e a sound node_ h held job =
    let s = run_setting g stack in
    let n = node-rule g stack v node_ in
    let m = maker_at g.nodes n.0.input in
    let legal = (and_parts (is_legal s P) _ h).0 in
    let none = accepts-named g (makers_of g.nodes stack.shape) stack.arrays P sound h v n.0 n.1 in
    let in_all = queued-by s P v (wrong m) legal in
    let in_gone = in-flat (wrong m) (gone_at v) (takes_up r) e (standing P) (hand-standing s P r e legal held) in
    let one = job-gone (wrong m) v a e job in
    let right_ = right-name m a (omega (arith, none, in_all, in_gone, one)) in
    right_ ∙ ap (λ (w : ℕ). maker_at g.nodes w) (sym (stands g v n.0 sound (sym n.1)).input)
