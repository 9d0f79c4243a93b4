-- The demo run is a graph that has room for all frames of its stack.
use Rattle.std.proofs.Common.{◌≡◌, ◌≢◌, ℕ, zero, suc, ◌+◌, ◌≤◌, ◌<◌, true, List, [], ◌∷◌, length, refl, sym, ap, ◌∙◌, arith, inl, inr}
use Rattle.std.proofs.Common.{pos}
use Rattle.std.specs.Prelude.{AllPairs, IsTrue}
use Rattle.std.specs.List.{count_by}
use Rattle.std.specs.Str.{bytes_eq}
use Rattle.std.proofs.lemmas.Bool.{true≢false}
use Rattle.std.proofs.lemmas.Int.{ints}
use Rattle.std.proofs.lemmas.List.{get_or-map}
use Rattle.std.proofs.lemmas.List.Elements.{All-nil, All-cons}
use Rattle.std.proofs.lemmas.List.FromFn.{length-map-range_with_len, get_or-map-range_with_len}
use Rattle.std.proofs.lemmas.List.Kept.{AllPairs-cons}
use Rattle.nd_base.specs.Array.{Array}
use Rattle.nd_base.specs.declared.array.SampleType.TheVariants.{UInt8}
use Rattle.nd_base.specs.declared.graph.NodeRule.{NodeRule}
use Rattle.nd_base.specs.declared.graph.Kind.{Kind}
use Rattle.nd_base.specs.GraphRules.{IsGraph, IsNode, IsKind, is_node_name, is_parallel, is_source, source_of}
use Rattle.nd_stack.specs.Generated.{generated_array}
use Rattle.chain_plain.specs.Plans.{makers_of}
use Rattle.flow_journal.specs.EntryTests.{says_regrown}
use Rattle.flow_journal.specs.Pasts.{Past}
use Rattle.flow_journal.specs.RunSetting.{setting_of}
use Rattle.run_laws.specs.Results.{IsFinishedRun}
use Rattle.demo_laws.specs.Ample.{keeps_all, IsAmpleNode, IsAmple, HasIdsInTurn, AreTicksWithin, id_of}
use Rattle.demo_laws.specs.AmpleLaws.{IsAmpleRun}
use Rattle.demo_laws.specs.Demo.{demo_stack, demo_span, sorting_node, demo_roi, demo_stats, demo_file, demo_graph}
use Rattle.demo_laws.specs.DemoLaws.{IsWholeDemo}
use Rattle.demo_laws.specs.Reports.{whole_counters}
use Rattle.demo_laws.proofs.AmpleRuns.{ample-smooth}
use Rattle.demo_laws.proofs.Reports.{report-whole}

-- A GRAPH

module _ (n : ℕ) (some : 1 ≤ n) (few : n ≤ 4096) where
  sorting-sound : (name : List ℕ) (kind : Kind) (input : ℕ) → IsTrue (is_node_name name) → IsKind kind → is_parallel kind ≡ true
      → IsNode (sorting_node name kind input n)
  sorting-sound name kind input named sound parallel = record {
    name = named;
    kind = sound;
    queue = (some, omega (arith, few));
    threads = (omega arith, omega arith);
    one_thread = λ alone. absurd (true≢false (sym parallel ∙ alone));
    sort = omega (arith, few);
    unsorted = λ alone. absurd (true≢false (sym parallel ∙ alone));
    sort_time = omega arith;
  }

  roi-sound : IsNode (demo_roi n)
  roi-sound =
      sorting-sound (demo_roi n).name (demo_roi n).kind 0 refl
      (record { min = omega arith; size = omega arith; bin = omega arith; reverse = omega arith; auto = omega arith; scale = (omega arith, omega arith) })
      refl

  stats-sound : IsNode (demo_stats n)
  stats-sound =
      sorting-sound (demo_stats n).name (demo_stats n).kind 1 refl
      (record {
        threshold = (omega (arith, ints), omega (arith, ints));
        border = omega arith;
        hist_size = omega arith;
        hist_lo = (omega (arith, ints), omega (arith, ints));
        hist_hi = (omega (arith, ints), omega (arith, ints));
        ordered = λ binned. absurd (binned refl);
      })
      refl

  file-sound : IsNode (demo_file n)
  file-sound = record {
    name = refl;
    kind = record { count = (some, omega (arith, few)); single = λ single. absurd (cc) };
    queue = (some, omega (arith, few));
    threads = (omega arith, omega arith);
    one_thread = λ alone. refl;
    sort = omega arith;
    unsorted = λ alone. refl;
    sort_time = omega arith;
  }

  abbrev Apart : NodeRule → NodeRule → Type 0
  Apart a b = a.name ≢ b.name

  names-apart : AllPairs Apart (demo_graph n).nodes
  names-apart =
      AllPairs-cons Apart (demo_roi n) (demo_stats n ∷ demo_file n ∷ [])
      (All-cons (Apart (demo_roi n)) (demo_stats n) (demo_file n ∷ []) (λ e. true≢false (ap (bytes_eq (demo_roi n).name) e))
      (All-cons (Apart (demo_roi n)) (demo_file n) [] (λ e. true≢false (ap (bytes_eq (demo_roi n).name) e)) (All-nil (Apart (demo_roi n)))))
      (AllPairs-cons Apart (demo_stats n) (demo_file n ∷ [])
      (All-cons (Apart (demo_stats n)) (demo_file n) [] (λ e. true≢false (ap (bytes_eq (demo_stats n).name) e)) (All-nil (Apart (demo_stats n))))
      (AllPairs-cons Apart (demo_file n) [] (All-nil (Apart (demo_file n))) (λ i j d up inside. absurd (omega (arith, inside)))))

  abbrev Fed : NodeRule → Type 0
  Fed r = IsTrue (is_source (demo_graph n).nodes r.input)

  fed-from : (v : ℕ) → v ≤ 3 → source_of (demo_graph n).nodes 3 v ≡ 0
  fed-from zero h = refl
  fed-from (suc zero) h = refl
  fed-from (suc (suc zero)) h = refl
  fed-from (suc (suc (suc zero))) h = refl
  fed-from (suc (suc (suc (suc v)))) h = absurd (omega (arith, h))

  pub demo-graph : IsGraph (demo_graph n)
  demo-graph = record {
    limit = omega arith;
    few = omega arith;
    nodes = All-cons IsNode (demo_roi n) (demo_stats n ∷ demo_file n ∷ []) roi-sound
        (All-cons IsNode (demo_stats n) (demo_file n ∷ []) stats-sound (All-cons IsNode (demo_file n) [] file-sound (All-nil IsNode)));
    names = names-apart;
    inputs = All-cons Fed (demo_roi n) (demo_stats n ∷ demo_file n ∷ []) refl
        (All-cons Fed (demo_stats n) (demo_file n ∷ []) refl (All-cons Fed (demo_file n) [] refl (All-nil Fed)));
    acyclic = fed-from;
    threads = omega arith;
  }

  -- ROOM FOR ALL FRAMES

  frames-are : length (demo_stack n).arrays ≡ n
  frames-are = length-map-range_with_len (generated_array 64 48 UInt8 1) 0 n

  abbrev Ample : NodeRule → Type 0
  Ample = IsAmpleNode (length (demo_stack n).arrays) demo_span

  sorting-ample : (name : List ℕ) (kind : Kind) (input : ℕ) → keeps_all kind ≡ true → Ample (sorting_node name kind input n)
  sorting-ample name kind input keeps = record {
    keeps = keeps;
    queue = omega (arith, frames-are);
    order = inr (record { sorted = some; places = omega (arith, frames-are); time = omega arith });
  }

  file-ample : Ample (demo_file n)
  file-ample = record { keeps = refl; queue = omega (arith, frames-are); order = inl (inl refl) }

  demo-ample : IsAmple (length (demo_stack n).arrays) demo_span (demo_graph n)
  demo-ample = record {
    unlimited = refl;
    nodes = All-cons Ample (demo_roi n) (demo_stats n ∷ demo_file n ∷ []) (sorting-ample (demo_roi n).name (demo_roi n).kind 0 refl)
        (All-cons Ample (demo_stats n) (demo_file n ∷ []) (sorting-ample (demo_stats n).name (demo_stats n).kind 1 refl) (All-cons Ample (demo_file n) [] file-ample (All-nil Ample)));
  }

  id-is : (k : ℕ) → k < n → id_of (demo_stack n).arrays k ≡ pos (k + 1)
  id-is k low =
      get_or-map (λ (a : Array). a.id) (demo_stack n).arrays k (generated_array 64 48 UInt8 1 k) (pos 0) (omega (arith, low, frames-are))
      ∙ ap (λ (a : Array). a.id)
      (get_or-map-range_with_len (generated_array 64 48 UInt8 1) 0 n k k (generated_array 64 48 UInt8 1 k) low (omega arith))

  demo-ids : HasIdsInTurn (demo_stack n).arrays
  demo-ids k low =
      let here = id-is k (omega (arith, low, frames-are)) in
      let first = id-is 0 some in
      omega (arith, ints, here, first)

  -- THE RUN

  module _ (P : Past) (run : IsFinishedRun (setting_of (demo_graph n) (makers_of (demo_graph n).nodes (demo_stack n).shape) (demo_stack n).arrays) P)
      (ticks : AreTicksWithin demo_span P) where
    is : IsAmpleRun demo_span (demo_graph n) (makers_of (demo_graph n).nodes (demo_stack n).shape) (demo_stack n) P
    is = record { sound = demo-graph; ample = demo-ample; ids = demo-ids; run = run; ticks = ticks }

    pub demo-whole : IsWholeDemo n P
    demo-whole = record {
      smooth = ample-smooth demo_span (demo_graph n) (makers_of (demo_graph n).nodes (demo_stack n).shape) (demo_stack n) P is;
      counts = report-whole demo_span (demo_graph n) (demo_stack n) P is
          ∙ ap (λ (frames : ℕ). whole_counters frames (count_by says_regrown P) (demo_graph n)) frames-are;
    }
