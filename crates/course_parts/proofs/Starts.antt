-- Nodes before any entry.
use Rattle.std.proofs.Common.{◌≡◌, ◌≤◌, ◌<◌, ◌∙◌, ℕ, ◌+◌, zero, suc, true, false, Bool, cond, List, [], ◌∷◌, ◌++◌, Option, Some, length, map, get_or, refl}
use Rattle.std.proofs.Common.{sym, ap, subst, arith, length-append, ℤ, pos}
use Rattle.std.specs.Prelude.{◌-ℤ◌, slice_get, slice_index_or}
use Rattle.std.specs.VecDeque.{deque_capacity}
use Rattle.std.specs.Prelude.{vec_capacity}
use Rattle.std.proofs.Math.Nat.{zero-mod}
use Rattle.std.proofs.lemmas.List.{get_or-map}
use Rattle.std.proofs.lemmas.List.Elements.{All-nil}
use Rattle.nd_base.specs.Array.{Array, StackValue}
use Rattle.nd_base.specs.declared.frame.FrameName.{FrameName}
use Rattle.nd_base.specs.declared.graph.Graph.{Graph}
use Rattle.nd_base.specs.declared.graph.Kind.{Kind}
use Rattle.nd_base.specs.declared.graph.Kind.TheVariants.{Roi, Stats, Circular, File, Scatter}
use Rattle.nd_base.specs.declared.graph.NodeRule.{NodeRule}
use Rattle.nd_base.specs.declared.measure.Measure.{Measure}
use Rattle.chain_plain.specs.Content.{content}
use Rattle.flow_journal.specs.Setting.{Setting, Node, no_node, node, first_prev, children}
use Rattle.flow_journal.specs.RunSetting.{node_of, work_of}
use Rattle.flow_journal.specs.Unsaved.{is_file}
use Rattle.flow_journal.specs.Waiting.{Waiting}
use Rattle.board_rules.specs.RunMeasures.{run_measure, run_setting, kind_measure, rule_measure}
use Rattle.queue_sort.specs.Sorting.{SortState}
use Rattle.course_parts.specs.declared.node.Kept.{Kept}
use Rattle.course_parts.specs.declared.node.NodeState.{NodeState}
use Rattle.course_parts.specs.declared.rules.NodeRules.{NodeRules}
use Rattle.course_parts.specs.declared.rules.Rules.{Rules}
use Rattle.course_parts.specs.NodeStates.{IsNode, IsRing}
use Rattle.course_parts.specs.RunRules.{AreRules, IsNodeWithin, IsWorkWithin, as_node, as_work}
use Rattle.course_parts.specs.Starts.{Starts, may_measure}
use Rattle.course_parts.proofs.RulesOf.{push-each}

abbrev Measuring : Type 0
Measuring = ℕ → FrameName → Option Measure

-- only a node that passes each array on to all measures
kind-measures : (k : Kind) (o : Option Array) (m : Measure) → kind_measure k o ≡ Some m → may_measure (work_of k) ≡ true
kind-measures (Stats r) o m h = refl
kind-measures (Roi r) o m h = absurd (cc)
kind-measures (Circular r) o m h = absurd (cc)
kind-measures (File r) o m h = absurd (cc)
kind-measures Scatter o m h = absurd (cc)

rule-measures : (ns : List NodeRule) (i : ℕ) (o : Option Array) (m : Measure) → rule_measure (slice_get ns i) o ≡ Some m
    → may_measure (slice_index_or (map node_of ns) i no_node).work ≡ true
rule-measures [] i o m h = absurd (cc)
rule-measures (n ∷ ns) zero o m h = kind-measures n.kind o m h
rule-measures (n ∷ ns) (suc i) o m h = rule-measures ns i o m h

pub run-measures : (g : Graph) (t : StackValue) (v : ℕ) (a : FrameName) (m : Measure) → run_measure g t v a ≡ Some m
    → may_measure (node (run_setting g t) v).work ≡ true
run-measures g t zero a m h = absurd (cc)
run-measures g t (suc i) a m h = rule-measures g.nodes i (content g.nodes t.arrays a) m h

none-unsaved : (b : Bool) → ◌≡◌ {A = List FrameName} [] (cond b [] [])
none-unsaved true = refl
none-unsaved false = refl

-- a node whose parts are all empty
pub fresh-node : (measure : Measuring) (s : Setting) (v : ℕ) (r : NodeRules) (frames : ℕ) (first : ℤ) (n : NodeState) → Starts measure s v r frames first
    → n.inbox ≡ record { size = r.queue; extra = r.threads; items = [] }
    → n.list ≡ record { size = r.sort; last = first -ℤ pos 1; disordered = 0; waiting = [] }
    → IsRing s v [] (node s v).work n.window → n.unsaved.items ≡ [] → n.measures.items ≡ []
    → deque_capacity n.unsaved ≡ cond (is_file (as_work r.work)) frames 0 → vec_capacity n.measures ≡ cond (may_measure (as_work r.work)) frames 0
    → n.jobs ≡ 0 → n.settled ≡ false → n.puts ≡ 0 → n.saves ≡ 0 → n.saving ≡ false → n.turn ≡ 0 → IsNode measure s v [] n
fresh-node measure s v r frames first n i inbox list ring unsaved measures to_save to_measure jobs settled puts saves saving turn =
    record {
      inbox = inbox ∙ ap (λ (y : Node). record { size = y.queue; extra = y.threads; items = [] }) i.ruled;
      working = jobs;
      few = omega (arith, jobs);
      fits = omega (arith, jobs);
      ended = settled;
      list_size = ap (λ (l : SortState Kept). l.size) list ∙ ap (λ (y : Node). y.sort) i.ruled;
      last = λ h. ap (λ (l : SortState Kept). l.last) list ∙ i.before;
      waits = ap (λ (l : SortState Kept). l.waiting) list;
      ticks = All-nil (λ (w : Waiting). w.tick ≤ 0);
      ring = ring;
      kept = unsaved ∙ none-unsaved (is_file (node s v).work);
      results = puts;
      pieces = saves;
      saving = saving;
      next_child = λ d some. turn ∙ sym (zero-mod (length (children s v)));
      measures = measures;
      unsaved_room = λ f. omega (arith, i.as_many, to_save, ap (λ b. cond b frames 0) (ap (λ (y : Node). is_file y.work) i.ruled ∙ f));
      measures_room =
          λ a m h. omega (arith, i.as_many, to_measure, ap (λ b. cond b frames 0) (ap (λ (y : Node). may_measure y.work) i.ruled ∙ i.measured a m h));
    }

-- the first nodes of a run, so many of them
pub record NodesUpTo (measure : Measuring) (s : Setting) (k : ℕ) (ns : List NodeState) : Type 0 where
  pub all : length ns ≡ k
  pub each : (i : ℕ) (n : NodeState) → slice_get ns i ≡ Some n → IsNode measure s (suc i) [] n

pub nodes-none : (measure : Measuring) (s : Setting) (ns : List NodeState) → ns ≡ [] → NodesUpTo measure s 0 ns
nodes-none measure s [] e = record { all = refl; each = λ i n h. absurd (cc) }
nodes-none measure s (x ∷ ns) e = absurd (cc)

pub nodes-more : (measure : Measuring) (s : Setting) (k : ℕ) (ns ms : List NodeState) (n : NodeState) → NodesUpTo measure s k ns → ms ≡ ns ++ n ∷ []
    → IsNode measure s (k + 1) [] n → NodesUpTo measure s (k + 1) ms
nodes-more measure s k ns ms n old are new =
    record {
      all = ap length are ∙ length-append ns (n ∷ []) ∙ ap (λ j. j + 1) old.all;
      each =
          λ i y h. push-each (λ j x. IsNode measure s j [] x) ns n old.each (subst (λ j. IsNode measure s (j + 1) [] n) (sym old.all) new) i y
          (ap (λ xs. slice_get xs i) (sym are) ∙ h);
    }

-- a node of a run, by its rules
pub run-starts : (g : Graph) (t : StackValue) (r : Rules) (i : ℕ) (n : NodeRules) (frames : ℕ) (first : ℤ) → AreRules r (run_setting g t) → i < length r.nodes
    → n ≡ get_or r.nodes i n → frames ≡ length r.ids → first -ℤ pos 1 ≡ first_prev r.ids
    → Starts (run_measure g t) (run_setting g t) (i + 1) n frames first
run-starts g t r i n frames first are h is many before =
    record {
      ruled =
          let e : suc i ≡ i + 1 = omega arith in
          ap as_node is ∙ sym (get_or-map as_node r.nodes i n no_node h) ∙ ap (λ ns. get_or ns i no_node) are.nodes ∙ ap (node (run_setting g t)) e;
      as_many = many ∙ ap length are.ids;
      before = before ∙ ap first_prev are.ids;
      measured = run-measures g t (i + 1);
    }

-- a rule at its place is within its bounds
pub item-within : (r : Rules) (s : Setting) (i : ℕ) (n : NodeRules) (ns : List NodeRules) → AreRules r s → i < length ns → ns ≡ r.nodes → n ≡ get_or ns i n
    → IsNodeWithin (length r.nodes) n × IsWorkWithin n.work
item-within r s i n ns are h same is =
    let there : get_or r.nodes i n ≡ n = ap (λ xs. get_or xs i n) (sym same) ∙ sym is in
    let lt : i < length r.nodes = omega (arith, h, ap length same) in
    (subst (λ x. IsNodeWithin (length r.nodes) x) there (are.within i n lt), subst (λ (x : NodeRules). IsWorkWithin x.work) there (are.works i n lt))
