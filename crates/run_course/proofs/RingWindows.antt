-- The window of a circular node, by the log.
use Rattle.std.proofs.Common.{◌≡◌, ◌≤◌, ◌∙◌, ◌-◌, ℕ, zero, suc, true, false, Bool, cond, ltb, ◌||◌, max, List, [], ◌∷◌, length, map, drop, refl, sym, ap}
use Rattle.std.proofs.Common.{subst, arith, length-drop}
use Rattle.std.specs.Prelude.{slice_index_or}
use Rattle.std.specs.List.{All}
use Rattle.std.proofs.lemmas.Bool.{false≢true}
use Rattle.std.proofs.lemmas.List.Elements.{All-head, All-tail}
use Rattle.nd_base.specs.declared.frame.FrameName.{FrameName}
use Rattle.trig_window.specs.Windows.{is_complete, kept, triggers, end_of_last}
use Rattle.trig_window.specs.Watch.{Watch}
use Rattle.trig_window.specs.Watching.{StandsAt}
use Rattle.flow_journal.specs.Setting.{Setting, Work, Makes, Passes, Watches, Saves, no_node, node, makes, is_maker, is_sorted, may_sort}
use Rattle.flow_journal.specs.Pasts.{Past}
use Rattle.flow_journal.specs.Ended.{is_settled}
use Rattle.flow_journal.specs.Puts.{puts, firings}
use Rattle.flow_journal.specs.Rings.{ring}
use Rattle.flow_journal.specs.Unsaved.{is_file}
use Rattle.flow_journal.proofs.Changes.{ring_laws}
use Rattle.run_course.specs.Courses.{Parts, log_of, IsCourse}
use Rattle.course_parts.specs.NodeStates.{IsNode, IsRing}
use Rattle.run_course.specs.Puts.{watches, is_watching}
use Rattle.course_parts.specs.RunRules.{IsWorkWithin, as_node, as_work}
use Rattle.course_parts.specs.declared.node.NodeState.{NodeState}
use Rattle.course_parts.specs.declared.rules.NodeRules.{NodeRules}
use Rattle.course_parts.specs.declared.rules.NodeWork.{NodeWork}
use Rattle.course_parts.specs.declared.rules.NodeWork.TheVariants as work
use Rattle.run_course.proofs.Coursing.{Measuring}

-- A CIRCULAR NODE
pub watch-facts : (w : Work) → is_watching w ≡ true → (makes w ≡ false) × (may_sort w ≡ false) × (is_file w ≡ false)
watch-facts Makes h = absurd (false≢true h)
watch-facts (Passes d) h = absurd (false≢true h)
watch-facts (Watches pre post preset) h = (refl, refl, refl)
watch-facts (Saves whole n) h = absurd (false≢true h)

pub watch-passes : (s : Setting) (v : ℕ) → watches s v ≡ true → is_maker s v ≡ false
watch-passes s v h = (watch-facts (node s v).work h).0

pub watch-unsorted : (s : Setting) (v : ℕ) → watches s v ≡ true → is_sorted s v ≡ false
watch-unsorted s v h = rw (watch-facts (node s v).work h).1 refl

-- with its rule
pub record WatchRule (s : Setting) (v : ℕ) : Type 0 where
  pub pre : ℕ
  pub post : ℕ
  pub preset : ℕ
  pub rule : (node s v).work ≡ Watches pre post preset

pub watch-rule : (s : Setting) (v : ℕ) → watches s v ≡ true → WatchRule s v
watch-rule s v h = by (node s v).work refl h where
  by : (w : Work) → (node s v).work ≡ w → is_watching w ≡ true → WatchRule s v
  by Makes is h = absurd (false≢true h)
  by (Passes d) is h = absurd (false≢true h)
  by (Watches pre post preset) is h = record { pre = pre; post = post; preset = preset; rule = is }
  by (Saves whole n) is h = absurd (false≢true h)

-- a ring has at most 4096 arrays
rule-within : (w : NodeWork) (pre post preset : ℕ) → IsWorkWithin w → as_work w ≡ Watches pre post preset → pre ≤ 4096
rule-within work.Makes pre post preset h is = absurd (cc)
rule-within work.Passes pre post preset h is = absurd (cc)
rule-within work.Deals pre post preset h is = absurd (cc)
rule-within (work.Watches a b c) pre post preset h is = let e : a ≡ pre = cc in subst (λ n. n ≤ 4096) e h.0
rule-within (work.Saves whole n) pre post preset h is = absurd (cc)

rules-within : (ns : List NodeRules) (i pre post preset : ℕ) → All (λ (n : NodeRules). IsWorkWithin n.work) ns
    → (slice_index_or (map as_node ns) i no_node).work ≡ Watches pre post preset → pre ≤ 4096
rules-within [] i pre post preset h is = absurd (cc)
rules-within (n ∷ ns) zero pre post preset h is = rule-within n.work pre post preset (All-head (λ (m : NodeRules). IsWorkWithin m.work) n ns h) is
rules-within (n ∷ ns) (suc i) pre post preset h is = rules-within ns i pre post preset (All-tail (λ (m : NodeRules). IsWorkWithin m.work) n ns h) is

pub few-before : (s : Setting) (k : Parts) (measure : Measuring) (v pre post preset : ℕ) → IsCourse measure s k
    → (node s v).work ≡ Watches pre post preset → pre ≤ 4096
few-before s k measure zero pre post preset i is = absurd (cc)
few-before s k measure (suc c) pre post preset i is =
    rules-within k.rules.nodes c pre post preset i.ruled.works (ap (λ ns. (slice_index_or ns c no_node).work) i.ruled.nodes ∙ is)

-- what is kept is no more than its rule says
pub kept-few : (pre post preset : ℕ) (flags : List Bool) (xs : List FrameName) → length (kept pre post preset flags xs) ≤ pre
kept-few pre post preset flags xs =
    let end : ℕ = end_of_last post (triggers post preset flags) in
    elim (ltb (length xs) end || is_complete post preset flags) as (λ b. length (cond b [] (drop (max end (length xs - pre)) xs)) ≤ pre) [
      | true ↦ omega arith
      | false ↦ omega (arith, length-drop (max end (length xs - pre)) xs)
    ]

-- the window of a node that isn't settled
pub record WindowAt (s : Setting) (v : ℕ) (P : Past) (w : Watch FrameName) : Type 0 where
  pub rule : (node s v).work ≡ Watches w.pre w.post w.preset
  pub stands : StandsAt w (firings v P) (puts v P)
  pub ring : w.ring ≡ ring s v P
  pub few : length w.ring ≤ 4096

pub window-at : (measure : Measuring) (s : Setting) (k : Parts) (v : ℕ) (n : NodeState) → IsCourse measure s k → IsNode measure s v (log_of k) n
    → watches s v ≡ true → is_settled v (log_of k) ≡ false → WindowAt s v (log_of k) n.window
window-at measure s k v n i node_is kind running =
    let P = log_of k in
    let r = watch-rule s v kind in
    let is : IsRing s v P (Watches r.pre r.post r.preset) n.window = subst (λ (w : Work). IsRing s v P w n.window) r.rule node_is.ring in
    let w = is.0 running in
    record {
      rule = w.rule;
      stands = record { after = w.after; items = sym (ring_laws.flags v P); ring = w.ring; pending = is.2 };
      ring = w.ring ∙ sym (ring_laws.kept_is s v P n.window.pre n.window.post n.window.preset w.rule running);
      few =
          omega (
            arith,
            ap length w.ring,
            kept-few n.window.pre n.window.post n.window.preset (firings v P) (puts v P),
            few-before s k measure v n.window.pre n.window.post n.window.preset i w.rule,
          );
    }
