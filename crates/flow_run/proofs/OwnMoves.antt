-- Where no role has left, the roles have done the work.
use Rattle.std.proofs.Common.{◌≡◌, ◌≢◌, ℕ, zero, suc, ◌<◌, Bool, true, false, List, [], ◌++◌, refl, sym, ap, ◌∙◌, subst, arith, Some}
use Rattle.std.specs.Prelude.{slice_get}
use Rattle.std.specs.List.{list_all, list_any}
use Rattle.nd_base.specs.Array.{StackValue}
use Rattle.nd_base.specs.GraphRules.{IsGraph}
use Rattle.nd_base.specs.declared.graph.Graph.{Graph}
use Rattle.frame_store.specs.Sealed.{Sealed}
use Rattle.flow_journal.specs.declared.entry.Entry.{Entry}
use Rattle.flow_journal.specs.Setting.{Setting, is_node, last_role}
use Rattle.flow_journal.specs.Hands.{is_free}
use Rattle.flow_journal.specs.Ended.{reclaims, was_reclaimed, closes, settles, is_settled, leaves, has_left_any}
use Rattle.flow_journal.specs.Histories.{is_history}
use Rattle.board_rules.specs.declared.answers.Left.{Left}
use Rattle.board_rules.specs.States.{BoardState, past}
use Rattle.flow_journal.specs.MoveLists.{begun_by, is_some_of}
use Rattle.board_rules.specs.Movers.{moves_by}
use Rattle.board_rules.specs.RunMeasures.{run_setting}
use Rattle.board_rules.proofs.Pasts.{past-append}
use Rattle.flow_roles.specs.Passes.{Pass, only_drain_saves}
use Rattle.flow_roles.specs.RoleMoves.{feeder_logs, worker_logs, saver_logs}
use Rattle.flow_roles.specs.TurnPasses.{BeginsWith}
use Rattle.flow_drain.specs.Drains.{IsDrained}
use Rattle.flow_drain.proofs.Rounds.{node-above}
use Rattle.flow_drain.proofs.AllEnded.{all-ended-drained}
use Rattle.flow_roles.specs.Workers.{workers}
use Rattle.flow_run.specs.Strangers.{entries_by, AreOwnMoves}
use Rattle.flow_run.specs.Ticks.{AfterMoves}
use Rattle.flow_run.specs.Joined.{IsJoined}
use Rattle.flow_roles.proofs.Workers.{worker-node}
use Rattle.flow_roles.proofs.TakenBack.{saver-none, none-such}
use Rattle.flow_run.proofs.Workers.{node-worker}
use Rattle.flow_run.proofs.Movers.{entries-are, none-before, none-append, any-later, all-append, single-moves, after-others}
use Rattle.flow_run.proofs.Joined.{role-moves, last-moves, none-back, below-last, feed-closed, worked-off}

-- the last role saved alone, one entry after the other
pub record SavesOn (s : Setting) (old new : BoardState) : Type 0 where
  pub added : BoardState
  pub whole : new ≡ added ++ old
  pub ours : list_all (λ (e : Entry). is_some_of (last_role s) (begun_by e)) (past added) ≡ true
  pub logs : list_all saver_logs (past added) ≡ true

pub saves-none : (s : Setting) (b : BoardState) → SavesOn s b b
saves-none s b = record { added = []; whole = refl; ours = refl; logs = refl }

saves-past : (s : Setting) (old new : BoardState) (h : SavesOn s old new) → past new ≡ past h.added ++ past old
saves-past s old new h = ap past h.whole ∙ past-append h.added old

-- what happened before is there later
saves-any : (q : Entry → Bool) (s : Setting) (old new : BoardState) → SavesOn s old new → list_any q (past old) ≡ true → list_any q (past new) ≡ true
saves-any q s old new h some = ap (list_any q) (saves-past s old new h) ∙ any-later q (past h.added) (past old) some

saves-none_before : (q : Entry → Bool) (s : Setting) (old new : BoardState) → SavesOn s old new → list_any q (past new) ≡ false → list_any q (past old) ≡ false
saves-none_before q s old new h none = none-before q (past h.added) (past old) (ap (list_any q) (sym (saves-past s old new h)) ∙ none)

saves-back : (s : Setting) (r : ℕ) (old new : BoardState) → SavesOn s old new → was_reclaimed r (past old) ≡ false → was_reclaimed r (past new) ≡ false
saves-back s r old new h none =
    ap (was_reclaimed r) (saves-past s old new h)
    ∙ none-append (reclaims r) (past h.added) (past old) (none-such saver_logs (reclaims r) (past h.added) (λ e k. saver-none r e k) h.logs) none

saves-other : (s : Setting) (r : ℕ) (old new : BoardState) → r ≢ last_role s → SavesOn s old new → moves_by r new ≡ moves_by r old
saves-other s r old new ne h = ap (moves_by r) h.whole ∙ (single-moves (last_role s) h.added old h.ours).1 r ne

saves-last : (s : Setting) (old new : BoardState) → SavesOn s old new → list_all saver_logs (past (moves_by (last_role s) old)) ≡ true
    → list_all saver_logs (past (moves_by (last_role s) new)) ≡ true
saves-last s old new h all =
    let is : past (moves_by (last_role s) new) ≡ past h.added ++ past (moves_by (last_role s) old) =
    ap (λ (b : BoardState). past (moves_by (last_role s) b)) h.whole
    ∙ (ap past (single-moves (last_role s) h.added old h.ours).0 ∙ past-append h.added (moves_by (last_role s) old)) in
    ap (list_all saver_logs) is ∙ all-append saver_logs (past h.added) (past (moves_by (last_role s) old)) h.logs all

module _ {O : Type 0} (g : Graph) (stack : StackValue) (sound : IsGraph g) (tick : ℕ) (joined ready done ended : BoardState) (passes : List Pass)
    (lefts : List (Left Sealed (List ℕ) O)) (saver : Pass)
    (j : IsJoined (run_setting g stack) joined passes lefts saver) (first : SavesOn (run_setting g stack) joined ready)
    (legal : is_history (run_setting g stack) (past ready) ≡ true)
    (drained : only_drain_saves (run_setting g stack) (past ready) ≡ true) (free : is_free (last_role (run_setting g stack)) (past ready) ≡ true)
    (grown : BeginsWith done ready) (still : IsDrained (run_setting g stack) (past ready) → done ≡ ready) (rest : SavesOn (run_setting g stack) done ended)
    (after : AfterMoves (run_setting g stack) tick joined ended) where
  abbrev s : Setting
  s = run_setting g stack

  none-ready : has_left_any (past ended) ≡ false → has_left_any (past ready) ≡ false
  none-ready none =
      let then_ = saves-none_before leaves s done ended rest none in
      none-before leaves (past grown.0) (past ready) (ap has_left_any (sym (ap past grown.1 ∙ past-append grown.0 ready)) ∙ then_)

  -- nothing is left for the drain
  settled-all : has_left_any (past ended) ≡ false → (v : ℕ) → is_node s v ≡ true → is_settled v (past ready) ≡ true
  settled-all none zero here = absurd (let a = (node-above s 0 here).0 in omega (arith, a))
  settled-all none (suc v) here =
      let w = node-worker g stack (suc v) sound here in
      saves-any (settles (suc v)) s joined ready first
      (worked-off s joined passes lefts saver j w.0 v w.1 (saves-none_before leaves s joined ready first (none-ready none)))

  pub drain-still : has_left_any (past ended) ≡ false → done ≡ ready
  drain-still none =
      let closed =
      saves-any closes s joined ready first (feed-closed s joined passes lefts saver j (saves-none_before leaves s joined ready first (none-ready none))) in
      still (all-ended-drained s (past ready) legal closed (settled-all none) drained free)

  whole-rest : has_left_any (past ended) ≡ false → SavesOn s ready ended
  whole-rest none = subst (λ (b : BoardState). SavesOn s b ended) (drain-still none) rest

  role-then : (k v : ℕ) → k < last_role s → has_left_any (past ended) ≡ false → entries_by k (past ended) ≡ past (moves_by k joined)
  role-then k v low none =
      let ne : k ≢ last_role s = λ is. omega (arith, low, is) in
      entries-are k ended ∙ ap past (saves-other s k ready ended ne (whole-rest none) ∙ saves-other s k joined ready ne first)

  pub own-moves : AreOwnMoves s (past ended)
  own-moves = record {
    reclaims = λ none r. saves-back s r ready ended (whole-rest none) (saves-back s r joined ready first (none-back s joined passes lefts saver j r));
    feeder =
        λ none. ap (list_all feeder_logs) (role-then 0 0 (below-last s joined passes lefts saver j 0 0 refl) none)
        ∙ role-moves s joined passes lefts saver j 0 0 refl;
    workers_are = λ none k v at. worker-then none k v at;
    last =
        λ none. ap (list_all saver_logs) (entries-are (last_role s) ended)
        ∙ saves-last s ready ended (whole-rest none) (saves-last s joined ready first (last-moves s joined passes lefts saver j));
    others = λ r high. entries-are r ended ∙ ap past (after-others s tick r joined ended high after ∙ j.others r high);
  }
    where
      worker-then : has_left_any (past ended) ≡ false → (k v : ℕ) → slice_get (workers s) k ≡ Some v
          → list_all (worker_logs v) (entries_by (suc k) (past ended)) ≡ true
      worker-then none k zero at = absurd (let a = (node-above s 0 (worker-node s k 0 at)).0 in omega (arith, a))
      worker-then none k (suc v) at =
          ap (list_all (worker_logs (suc v))) (role-then (suc k) (suc v) (below-last s joined passes lefts saver j (suc k) (suc v) at) none)
          ∙ role-moves s joined passes lefts saver j (suc k) (suc v) at
