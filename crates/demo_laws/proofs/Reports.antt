-- What the report of a run counts that has room for all its frames.
use Rattle.std.proofs.Common.{◌≡◌, ℕ, zero, suc, ◌+◌, ◌-◌, ◌≤◌, ◌<◌, Bool, false, List, [], ◌∷◌, length, map, refl, sym, ap, ◌∙◌, arith, inl, inr}
use Rattle.std.specs.List.{count_by}
use Rattle.std.proofs.lemmas.Bool.{or_parts, true≢false}
use Rattle.std.proofs.lemmas.List.{length-map}
use Rattle.std.proofs.lemmas.List.Sums.{length-filter}
use Rattle.std.proofs.lemmas.Option.{slice_get_cases}
use Rattle.nd_base.specs.Array.{Array, StackValue}
use Rattle.nd_base.specs.declared.graph.Graph.{Graph}
use Rattle.nd_base.specs.declared.graph.NodeRule.{NodeRule}
use Rattle.nd_base.specs.declared.plan.Plan.{Plan}
use Rattle.chain_plain.specs.Plans.{plan_of, makers_of}
use Rattle.flow_journal.specs.declared.entry.Entry.{Entry}
use Rattle.flow_journal.specs.declared.entry.Entry.TheVariants.{LoadRefused, Full, PoolDrop, SortDrop}
use Rattle.flow_journal.specs.EntryTests.{is_full, is_pool_drop, is_sort_drop, is_refused_load, says_regrown}
use Rattle.flow_journal.specs.Setting.{Setting, numbers_from, node_numbers}
use Rattle.flow_journal.specs.Pasts.{Past}
use Rattle.flow_journal.specs.Breaks.{breaks}
use Rattle.flow_journal.specs.RunSetting.{node_of, setting_of}
use Rattle.flow_journal.proofs.EntryCounts.{count, bit, count-cons}
use Rattle.run_laws.specs.Drops.{drops, has_drop}
use Rattle.run_laws.specs.PlainLaws.{IsSmooth}
use Rattle.run_laws.proofs.Driver.{all-came}
use Rattle.run_report.specs.Report.{loaded, node_count, plan_setting, report}
use Rattle.run_report.specs.declared.counts.Counters.{Counters}
use Rattle.run_report.specs.declared.counts.NodeCount.{NodeCount}
use Rattle.run_report.proofs.Offers.{counts-run, counts-offers, counts-frames}
use Rattle.demo_laws.specs.AmpleLaws.{IsAmpleRun}
use Rattle.demo_laws.specs.Reports.{whole_count, whole_counters}
use Rattle.demo_laws.proofs.AmpleRuns.{all-out, all-offered, ample-smooth}
use Rattle.demo_laws.proofs.InStep.{length-below}

-- entries that drop nothing aren't counted
none-counted : (p : Entry → Bool) → ((e : Entry) → drops e ≡ false → p e ≡ false) → (P : Past) → has_drop P ≡ false → count_by p P ≡ 0
none-counted p misses P h = sym (length-filter p P) ∙ none P h
  where
    none : (P : Past) → has_drop P ≡ false → count p P ≡ 0
    none [] h = refl
    none (e ∷ P) h =
        let both = or_parts (drops e) (has_drop P) h in
        omega (arith, none P both.1, count-cons p e P, ap bit (misses e both.0))

full-drops : (v : ℕ) (e : Entry) → drops e ≡ false → is_full v e ≡ false
full-drops v (Full w m k) h = absurd (true≢false h)
full-drops v _ h = refl

pool-drops : (v : ℕ) (e : Entry) → drops e ≡ false → is_pool_drop v e ≡ false
pool-drops v (PoolDrop r w m k n z) h = absurd (true≢false h)
pool-drops v _ h = refl

sort-drops : (v : ℕ) (e : Entry) → drops e ≡ false → is_sort_drop v e ≡ false
sort-drops v (SortDrop w m k) h = absurd (true≢false h)
sort-drops v _ h = refl

refusal-drops : (e : Entry) → drops e ≡ false → is_refused_load e ≡ false
refusal-drops (LoadRefused r k n z) h = absurd (true≢false h)
refusal-drops _ h = refl

abbrev counts_of : (offered full pool sort out breaks : ℕ) → NodeCount
counts_of o f p q u b = record { offered = o; accepted = o - (f + p + q); full = f; pool = p; sort = q; out = u; breaks = b }

counts-are : (n o f p q u b : ℕ) → o ≡ n → f ≡ 0 → p ≡ 0 → q ≡ 0 → u ≡ n → b ≡ 0 → counts_of o f p q u b ≡ whole_count n
counts-are n o f p q u b eo ef ep eq eu eb =
    ap (λ (x : ℕ). counts_of x f p q u b) eo
    ∙ (ap (λ (x : ℕ). counts_of n x p q u b) ef
    ∙ (ap (λ (x : ℕ). counts_of n 0 x q u b) ep
    ∙ (ap (λ (x : ℕ). counts_of n 0 0 x u b) eq
    ∙ (ap (λ (x : ℕ). counts_of n 0 0 0 x b) eu
    ∙ (ap (λ (x : ℕ). counts_of n 0 0 0 n x) eb
    ∙ (let less : n - (0 + 0 + 0) ≡ n = omega arith in
    ap (λ (x : ℕ). record (whole_count n) { accepted = x }) less))))))

-- what is the same at each node
numbers-map : {X : Type 0} (f : ℕ → X) (x : X) (v : ℕ) (ns : List NodeRule) → ((k : ℕ) → v ≤ k → k < v + length ns → f k ≡ x)
    → map f (numbers_from v (map node_of ns)) ≡ map (λ (n : NodeRule). x) ns
numbers-map f x v [] h = refl
numbers-map f x v (n ∷ ns) h =
    ap (λ y. y ∷ map f (numbers_from (v + 1) (map node_of ns))) (h v (omega arith) (omega arith))
    ∙ ap (λ ys. x ∷ ys) (numbers-map f x (v + 1) ns (λ k low high. h k (omega (arith, low)) (omega (arith, high))))

module _ (span : ℕ) (g : Graph) (stack : StackValue) (P : Past) (is : IsAmpleRun span g (makers_of g.nodes stack.shape) stack P) where
  abbrev s : Setting
  s = setting_of g (makers_of g.nodes stack.shape) stack.arrays

  abbrev p : Plan
  p = plan_of g stack

  abbrev N : ℕ
  N = length stack.arrays

  smooth : IsSmooth g (makers_of g.nodes stack.shape) stack P
  smooth = ample-smooth span g (makers_of g.nodes stack.shape) stack P is

  as_many : length s.ids ≡ N
  as_many = length-map stack.arrays (λ (a : Array). a.id)

  none-refused : count_by is_refused_load P ≡ 0
  none-refused = none-counted is_refused_load refusal-drops P smooth.kept

  all-loaded : loaded P ≡ N
  all-loaded = omega (arith, counts-frames P, none-refused, ap length (all-came s P is.run), length-below (length s.ids), as_many)

  node-whole : (v : ℕ) → 1 ≤ v → v < 1 + length g.nodes → node_count s P v ≡ whole_count N
  node-whole zero low high = absurd (omega (arith, low))
  node-whole (suc k) low high = elim (slice_get_cases g.nodes k).1 [
    | inr b ↦ absurd (omega (arith, high, b.0))
    | inl a ↦
        let within : suc k ≤ length g.nodes = omega (arith, high) in
        counts-are N _ _ _ _ _ _
        (counts-offers P (suc k) ∙ all-offered span g (makers_of g.nodes stack.shape) stack P is (suc k) a.0 a.2)
        (none-counted (is_full (suc k)) (full-drops (suc k)) P smooth.kept)
        (none-counted (is_pool_drop (suc k)) (pool-drops (suc k)) P smooth.kept)
        (none-counted (is_sort_drop (suc k)) (sort-drops (suc k)) P smooth.kept)
        (ap length (all-out span g (makers_of g.nodes stack.shape) stack P is (suc k) within) ∙ length-below N)
        (smooth.in_step (suc k) within)
  ]

  nodes-whole : map (node_count (plan_setting p) P) (node_numbers (plan_setting p)) ≡ map (λ (n : NodeRule). whole_count N) g.nodes
  nodes-whole =
      numbers-map (node_count (plan_setting p) P) (whole_count N) 1 g.nodes
      (λ v low high. counts-run p stack.arrays P v refl ∙ node-whole v low high)

  abbrev counters_of : (frames loads refusals breaks : ℕ) → List NodeCount → Counters
  counters_of f l r b ns =
      record { frames = f; offered = l + r; loaded = l; refused = r; breaks = b; regrown = count_by says_regrown P; nodes = ns }

  pub report-whole : report p P ≡ whole_counters N (count_by says_regrown P) g
  report-whole =
      ap (λ (x : ℕ). counters_of x (loaded P) (count_by is_refused_load P) (breaks (plan_setting p) 0 P) at_nodes) as_many
      ∙ (ap (λ (x : ℕ). counters_of N x (count_by is_refused_load P) (breaks (plan_setting p) 0 P) at_nodes) all-loaded
      ∙ (ap (λ (x : ℕ). counters_of N N x (breaks (plan_setting p) 0 P) at_nodes) none-refused
      ∙ (ap (λ (x : ℕ). counters_of N N 0 x at_nodes)
      (ap (λ (c : NodeCount). c.breaks) (counts-run p stack.arrays P 0 refl) ∙ smooth.in_step 0 (omega arith))
      ∙ (ap (counters_of N N 0 0) nodes-whole
      ∙ (let all : N + 0 ≡ N = omega arith in
      ap (λ (x : ℕ). record (whole_counters N (count_by says_regrown P) g) { offered = x }) all)))))
    where
      at_nodes : List NodeCount
      at_nodes = map (node_count (plan_setting p) P) (node_numbers (plan_setting p))
