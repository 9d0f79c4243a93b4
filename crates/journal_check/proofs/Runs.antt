-- A log that is checked move by move.
use Rattle.std.proofs.Common.{◌≡◌, ℕ, ◌+◌, ◌*◌, ◌-◌, ◌^◌, ◌≤◌, ◌<◌, true, false, List, [], ◌∷◌, length, take, drop, reverse}
use Rattle.std.proofs.Common.{refl, sym, ap, ◌∙◌, subst, arith, map, Ok, Err}
use Rattle.std.specs.Prelude.{fold}
use Rattle.std.proofs.lemmas.Nat.{mul-le}
use Rattle.std.proofs.lemmas.Bool.{and_parts, and_from, not_from_false}
use Rattle.std.proofs.lemmas.List.{append-nil, reverse-reverse, take-append-drop, take_rest, take_all, length-drop, length-map, length-reverse, length-take-le}
use Rattle.std.proofs.Math.Seq.{take-add}
use Rattle.flow_journal.specs.declared.entry.Entry.{Entry}
use Rattle.nd_base.specs.Array.{Array, StackValue}
use Rattle.nd_base.specs.GraphRules.{IsGraph}
use Rattle.nd_base.specs.Stacks.{IsStack}
use Rattle.nd_base.specs.declared.graph.Graph.{Graph}
use Rattle.nd_base.specs.declared.graph.NodeRule.{NodeRule}
use Rattle.flow_journal.specs.Setting.{Setting, Node}
use Rattle.flow_journal.specs.RunSetting.{node_of}
use Rattle.flow_journal.specs.LengthLaws.{threads}
use Rattle.flow_journal.proofs.Lengths.{length_laws}
use Rattle.board_rules.specs.RunMeasures.{run_setting}
use Rattle.flow_journal.specs.Pasts.{Past}
use Rattle.flow_journal.specs.Following.{owed}
use Rattle.flow_journal.specs.Finished.{is_finished}
use Rattle.flow_journal.specs.Histories.{is_legal, is_history, is_nothing}
use Rattle.flow_journal.specs.Moves.{onto}
use Rattle.flow_journal.proofs.Histories.{onto-append}
use Rattle.journal_check.specs.declared.fault.CheckFault.TheVariants as faults
use Rattle.journal_check.specs.declared.step.Step.{Step}
use Rattle.journal_check.specs.declared.step.Step.TheVariants.{Made, Bad, Ends}
use Rattle.journal_check.specs.Steps.{IsStep}
use Rattle.journal_check.specs.Verdicts.{is_whole, Checks}
use Rattle.journal_check.proofs.Moving.{onto-back}
use Rattle.journal_check.proofs.Verdicts.{bad-from, checks}

onto-nil : (es : List Entry) → onto es [] ≡ reverse es
onto-nil es = ap (λ (xs : List Entry). onto xs []) (sym (reverse-reverse es)) ∙ (onto-back (reverse es) [] ∙ append-nil (reverse es))

-- the first so many of these are a legal history, P
pub record IsAt (s : Setting) (es : List Entry) (at : ℕ) (P : Past) : Type 0 where
  pub within : at ≤ length es
  pub front : P ≡ onto (take at es) []
  pub history : is_history s P ≡ true

-- so many more
further : (s : Setting) (es : List Entry) (at n : ℕ) (P : Past) → IsAt s es at P → onto (take n (drop at es)) P ≡ reverse (take (at + n) es)
further s es at n P a =
    ap (onto (take n (drop at es))) a.front
    ∙ (sym (onto-append (take at es) (take n (drop at es)) [])
    ∙ (ap (λ (xs : List Entry). onto xs []) (sym (take-add at n es)) ∙ onto-nil (take (at + n) es)))

-- the step that the entries from a place on come to, as the call tells it
pub step-on : (s : Setting) (es : List Entry) (at : ℕ) (P Q : Past) (told x : Step) → told ≡ x → IsStep s P (take (length es - at) (drop at es)) told Q
    → IsStep s P (drop at es) x Q
step-on s es at P Q told x is step =
    subst (λ (y : Step). IsStep s P (drop at es) y Q) is (subst (λ (xs : List Entry). IsStep s P xs told Q) (take_rest es at) step)

pub goes-on : (s : Setting) (es : List Entry) (at n : ℕ) (P Q : Past) → IsAt s es at P → IsStep s P (drop at es) (Made n) Q → IsAt s es (at + n) Q
goes-on s es at n P Q a step =
    record {
      within = omega (arith, a.within, step.1, length-drop at es);
      front = step.2 ∙ (further s es at n P a ∙ sym (onto-nil (take (at + n) es)));
      history = step.3;
    }

pub bad-here : (s : Setting) (es : List Entry) (at n : ℕ) (P Q : Past) → IsAt s es at P → IsStep s P (drop at es) (Bad n) Q
    → Checks s es (Err (faults.Entry (at + n + 1)))
bad-here s es at n P Q a step =
    let one : at + n + 1 - 1 ≡ at + n = omega arith in
    let two : at + (n + 1) ≡ at + n + 1 = omega arith in
    let before : is_legal s (reverse (take (at + n) es)) ≡ true = subst (λ (R : Past). is_legal s R ≡ true) (further s es at n P a) step.1 in
    let after : is_legal s (reverse (take (at + (n + 1)) es)) ≡ false = subst (λ (R : Past). is_legal s R ≡ false) (further s es at (n + 1) P a) step.2 in
    checks s es (Err (faults.Entry (at + n + 1))) (λ e. cc)
    (bad-from s es (at + n + 1)
    (subst (λ (i : ℕ). is_legal s (reverse (take i es)) ≡ true) (sym one) before)
    (subst (λ (i : ℕ). is_legal s (reverse (take i es)) ≡ false) two after))

unfinished : (s : Setting) (es : List Entry) → is_legal s (reverse es) ≡ true → is_whole s es ≡ false → Checks s es (Err faults.Unfinished)
unfinished s es legal open_ = checks s es (Err faults.Unfinished) (λ e. cc) (and_from _ _ legal (not_from_false _ open_))

pub ends-within : (s : Setting) (es : List Entry) (at : ℕ) (P Q : Past) → IsAt s es at P → IsStep s P (drop at es) Ends Q → Checks s es (Err faults.Unfinished)
ends-within s es at P Q a step =
    let whole : onto (drop at es) P ≡ reverse es =
    ap (onto (drop at es)) a.front
    ∙ (sym (onto-append (take at es) (drop at es) []) ∙ (ap (λ (xs : List Entry). onto xs []) (take-append-drop at es) ∙ onto-nil es)) in
    let open_ : is_history s (reverse es) ≡ false = subst (λ (R : Past). is_history s R ≡ false) whole step.1 in
    unfinished s es (subst (λ (R : Past). is_legal s R ≡ true) whole step.0) (rw open_ refl)

at-end : (s : Setting) (es : List Entry) (at : ℕ) (P : Past) → IsAt s es at P → length es ≤ at → P ≡ reverse es
at-end s es at P a end = a.front ∙ (onto-nil (take at es) ∙ ap (λ (xs : List Entry). reverse xs) (take_all at es end))

pub ends-finished : (s : Setting) (es : List Entry) (at : ℕ) (P : Past) → IsAt s es at P → length es ≤ at → is_finished s P ≡ true → Checks s es (Ok tt)
ends-finished s es at P a end done =
    let is = at-end s es at P a end in
    checks s es (Ok tt) (λ e. cc)
    (and_from _ _ (subst (λ (R : Past). is_history s R ≡ true) is a.history) (subst (λ (R : Past). is_finished s R ≡ true) is done))

pub ends-unfinished : (s : Setting) (es : List Entry) (at : ℕ) (P : Past) → IsAt s es at P → length es ≤ at → is_finished s P ≡ false
    → Checks s es (Err faults.Unfinished)
ends-unfinished s es at P a end open_ =
    let is = at-end s es at P a end in
    let good : is_history s (reverse es) ≡ true = subst (λ (R : Past). is_history s R ≡ true) is a.history in
    let left : is_finished s (reverse es) ≡ false = subst (λ (R : Past). is_finished s R ≡ false) is open_ in
    unfinished s es (and_parts (is_legal s (reverse es)) (is_nothing (owed s (reverse es))) good).0 (rw (good, left) refl)

-- A LOG IS SHORT

threads-from : (k : ℕ) (ns : List NodeRule) → fold (λ a (n : Node). a + n.threads) k (map node_of ns) ≡ fold (λ a (n : NodeRule). a + n.threads) k ns
threads-from k [] = refl
threads-from k (n ∷ ns) = threads-from (k + n.threads) ns

short : (g : Graph) (stack : StackValue) (P : Past) → IsGraph g → IsStack stack → is_legal (run_setting g stack) P ≡ true → length P ≤ 10748304
short g stack P graph sound legal =
    let s = run_setting g stack in
    let frames : length s.ids ≤ 65536 = omega (arith, length-map stack.arrays (λ (a : Array). a.id), sound.few_frames) in
    let nodes : length s.nodes ≤ 32 = omega (arith, length-map g.nodes node_of, graph.few) in
    let all : threads s ≤ 64 = omega (arith, threads-from 0 g.nodes, graph.threads) in
    let few : length s.ids * length s.nodes ≤ 65536 * 32 = mul-le (length s.ids) (length s.nodes) 65536 32 frames nodes in
    omega (arith, length_laws.within_limits s P nodes all legal, few, frames)

-- the number of the first bad entry fits
pub bad-few : (g : Graph) (stack : StackValue) (es : List Entry) (at n : ℕ) (P Q : Past) → IsGraph g → IsStack stack → IsAt (run_setting g stack) es at P
    → IsStep (run_setting g stack) P (drop at es) (Bad n) Q → at + n + 1 < 2 ^ 32
bad-few g stack es at n P Q graph sound a step =
    let s = run_setting g stack in
    let front : is_legal s (reverse (take (at + n) es)) ≡ true = subst (λ (R : Past). is_legal s R ≡ true) (further s es at n P a) step.1 in
    let all : at + n ≤ length es = omega (arith, a.within, step.0, length-drop at es) in
    let many : length (reverse (take (at + n) es)) ≡ at + n = length-reverse (take (at + n) es) ∙ length-take-le (at + n) es all in
    omega (arith, short g stack (reverse (take (at + n) es)) graph sound front, many)
