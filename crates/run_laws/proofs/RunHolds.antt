-- What holds of a finished run, from the laws one by one.
use Rattle.std.proofs.Common.{◌≡◌, ℕ, true, false, List, ◌∷◌, ◌++◌, sym, ap, ◌∙◌, subst, inl, inr, Some}
use Rattle.std.specs.List.{list_any}
use Rattle.std.proofs.lemmas.Bool.{and_parts}
use Rattle.std.proofs.lemmas.List.{length-map}
use Rattle.nd_base.specs.Array.{Array, StackValue}
use Rattle.nd_base.specs.declared.graph.Graph.{Graph}
use Rattle.nd_base.specs.declared.graph.NodeRule.{NodeRule}
use Rattle.nd_base.specs.declared.plan.Maker.{Maker}
use Rattle.nd_base.specs.GraphRules.{IsGraph, rule_at}
use Rattle.chain_plain.proofs.Rules.{stands}
use Rattle.flow_journal.specs.declared.entry.Entry.{Entry}
use Rattle.flow_journal.specs.Setting.{Setting, node, is_node}
use Rattle.flow_journal.specs.Turns.{deals}
use Rattle.flow_journal.specs.Pasts.{Past}
use Rattle.flow_journal.specs.Hands.{is_loaded}
use Rattle.flow_journal.specs.Accepted.{accepted, emitted}
use Rattle.flow_journal.specs.FirstEntries.{has_loaded}
use Rattle.flow_journal.specs.Histories.{is_legal}
use Rattle.flow_journal.specs.IndexLaws.{below}
use Rattle.flow_journal.specs.Offered.{offered}
use Rattle.flow_journal.specs.RunSetting.{setting_of}
use Rattle.run_laws.specs.OneThreadLaws.{KeepsOrder}
use Rattle.run_laws.specs.Results.{IsFinishedRun, put_out, AreInOrder}
use Rattle.run_laws.specs.RunHolds.{HasAfter, RunHolds}
use Rattle.run_laws.proofs.Breaks.{marked, counted}
use Rattle.run_laws.proofs.Buffers.{grants-unplaced}
use Rattle.run_laws.proofs.Causes.{full-cause, pool-cause, load-cause}
use Rattle.run_laws.proofs.Driver.{frames-are, all-came}
use Rattle.run_laws.proofs.EachOffer.{each-offer}
use Rattle.run_laws.proofs.Feeds.{finds_room}
use Rattle.run_laws.proofs.Finishes.{ended-idle}
use Rattle.run_laws.proofs.Flushes.{flush-ended}
use Rattle.run_laws.proofs.Lates.{late-waited}
use Rattle.run_laws.proofs.Loading.{driver-outs}
use Rattle.run_laws.proofs.Makers.{all-named, comes-named, out-named, in_order, in_some_order, input-is, at_node}
use Rattle.run_laws.proofs.Offers.{comes}
use Rattle.run_laws.proofs.Orders.{offers-are}
use Rattle.run_laws.proofs.PlainRuns.{is_plain}
use Rattle.run_laws.proofs.Runs.{number-is}
use Rattle.run_laws.proofs.SortDrops.{drop-forced}

-- a node with one thread and no sort list puts out its one-thread result, in order
pub keeps-order : (g : Graph) (makers : List Maker) (arrays : List Array) (P : Past) (v : ℕ) (n : NodeRule) → IsGraph g → rule_at g.nodes v ≡ Some n
    → KeepsOrder n → IsFinishedRun (setting_of g makers arrays) P
    → AreInOrder g.nodes arrays v (accepted (setting_of g makers arrays) v P) (put_out (setting_of g makers arrays) v P)
keeps-order g makers arrays P v n sound rule (inl alone) run =
    let n_sound = (stands g v n sound (sym rule)).sound in
    in_order g makers arrays P sound run.legal v n rule (n_sound.one_thread alone) (n_sound.unsorted alone) run
keeps-order g makers arrays P v n sound rule (inr plain) run = in_order g makers arrays P sound run.legal v n rule plain.0 plain.1 run

module _ (g : Graph) (makers : List Maker) (stack : StackValue) (P : Past) (sound : IsGraph g) (run : IsFinishedRun (setting_of g makers stack.arrays) P) where
  abbrev s : Setting
  s = setting_of g makers stack.arrays

  legal : is_legal s P ≡ true
  legal = (and_parts _ _ run.legal).0

  -- the log up to an entry that it has
  legal_at : (e : Entry) (before : Past) (at : HasAfter P e before) → is_legal s (at.0 ++ e ∷ before) ≡ true
  legal_at e before at = subst (λ (Q : Past). is_legal s Q ≡ true) at.1 legal

  unloaded : has_loaded P ≡ false
  unloaded = ap (list_any is_loaded) (ended-idle s P run.finished)

  input : (v : ℕ) (n : NodeRule) → rule_at g.nodes v ≡ Some n → (node s v).input ≡ n.input
  input = input-is g makers stack.arrays P sound run.legal

  number : (v : ℕ) (n : NodeRule) → rule_at g.nodes v ≡ Some n → is_node s v ≡ true
  number = number-is g makers stack.arrays

  all_offered : (v : ℕ) (n : NodeRule) → rule_at g.nodes v ≡ Some n → deals s n.input ≡ false → offered v P ≡ emitted n.input P
  all_offered v n rule whole =
      comes s P v (number v n rule) (ap (deals s) (input v n rule) ∙ whole) run.legal ∙ ap (λ (u : ℕ). emitted u P) (input v n rule)

  pub run_holds : RunHolds g stack s P
  run_holds =
      record {
        every_frame = all-came s P run ∙ ap below (length-map stack.arrays (λ (a : Array). a.id));
        loaded_or_refused = frames-are P;
        issued = driver-outs s P run.legal unloaded;
        offered_all = all_offered;
        each = λ v n rule a. each-offer s P v a;
        accepted_or_dropped = λ v n rule. offers-are s P v (at_node g makers stack.arrays P sound run.legal v n rule) legal;
        in_order = λ v n rule keeps. keeps-order g makers stack.arrays P v n sound rule keeps run;
        in_some_order = λ v n rule. in_some_order g makers stack.arrays P sound run.legal v n rule run;
        taken_names = λ v n rule. all-named _ _ (comes-named g makers stack.arrays P sound run.legal v n rule);
        out_names = λ v n rule. all-named _ _ (out-named g makers stack.arrays P sound run.legal v n rule run);
        marked = λ v m k why before at sorted. marked s at.0 before v m k why sorted (legal_at _ before at);
        counted = λ v sorted. counted s P v sorted legal;
        late = λ v m k before at. late-waited s at.0 before v m k (legal_at _ before at);
        flush = λ v m k before at. flush-ended s at.0 before v m k (legal_at _ before at);
        full_queue = λ v m k before at. full-cause s at.0 before v m k (legal_at _ before at);
        refused_pool = λ r v m k need held before at. pool-cause s at.0 before r v m k need held (legal_at _ before at);
        refused_frame = λ r k need held before at. load-cause s at.0 before r k need held (legal_at _ before at);
        full_list = λ v m k before at. drop-forced s at.0 before v m k (legal_at _ before at);
        unplaced = λ e b before at. grants-unplaced g makers stack.arrays at.0 before e b (legal_at e before at);
        room = λ wait whole v n rule child. finds_room s P v (number v n rule) wait (input v n rule ∙ child) legal whole;
        plain =
            λ whole apart kept in_step v n rule. is_plain g makers stack P sound whole apart (record { run = run; kept = kept; in_step = in_step }) v n rule;
      }
