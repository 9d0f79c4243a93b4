-- What the seats leave may be taken back.
use Rattle.std.proofs.Common.{◌≡◌, ◌≢◌, ℕ, zero, suc, ◌+◌, ◌<◌, ◌≤◌, true, false, eqb, ltb, List, [], ◌∷◌, ◌++◌, map, length, refl, sym, ap, ◌∙◌, subst}
use Rattle.std.proofs.Common.{arith, Option, Some, None, inl, inr}
use Rattle.std.specs.Prelude.{slice_get, All, is_none, is_some}
use Rattle.std.proofs.lemmas.Bool.{false≢true, cases_Bool, eqb-true, eqb-false, ltb-true, ltb-false}
use Rattle.std.proofs.lemmas.List.{length-append, length-map}
use Rattle.nd_base.specs.Array.{StackValue}
use Rattle.nd_base.specs.Parts.{Parts}
use Rattle.nd_base.specs.declared.graph.Graph.{Graph}
use Rattle.frame_store.specs.Sealed.{Sealed}
use Rattle.flow_journal.specs.declared.entry.Entry.{Entry}
use Rattle.flow_journal.specs.declared.entry.Entry.TheVariants.{Load}
use Rattle.flow_journal.specs.Setting.{Setting, last_role}
use Rattle.flow_journal.specs.Pasts.{frame}
use Rattle.flow_journal.specs.Hands.{hand, is_free}
use Rattle.flow_journal.specs.Ended.{was_reclaimed}
use Rattle.board_rules.specs.declared.answers.Left.{Left}
use Rattle.board_rules.specs.States.{BoardState, past, lent_to}
use Rattle.board_rules.specs.Movers.{moves_by}
use Rattle.board_rules.specs.InHand.{is_load_of, granted_size, IsOfHand}
use Rattle.board_rules.specs.Leaving.{MayReclaim}
use Rattle.board_rules.specs.RunMeasures.{run_setting}
use Rattle.board_rules.proofs.Moves.{moves-tell}
use Rattle.flow_roles.specs.Passes.{Pass}
use Rattle.flow_roles.specs.RoleMoves.{feeder_logs, worker_logs, saver_logs}
use Rattle.flow_roles.specs.TurnPasses.{HasMade}
use Rattle.flow_roles.specs.Feeder.{name_of, parts_of}
use Rattle.flow_roles.proofs.Reclaims.{comes-back}
use Rattle.board_cases.specs.declared.seats.LoadedFrame.{LoadedFrame}
use Rattle.board_cases.specs.declared.seats.Job.{Job}
use Rattle.board_cases.specs.declared.seats.Worker.{Worker}
use Rattle.board_cases.specs.declared.seats.Seats.{Seats}
use Rattle.board_cases.specs.Seats.{HoldsFrame, HoldsJob, AreSeated}
use Rattle.board_cases.specs.Ends.{left_of_frame, left_of_job, passes_of, lefts_of, MayDrain}
use Rattle.flow_roles.proofs.Lists.{at-front, at-end, at-map, map-at, listed, all-at, all-from}
use Rattle.board_cases.proofs.Staying.{frame-moves, job-moves, piece-moves}
use Rattle.board_cases.proofs.SaverHands.{none-free}
use Rattle.flow_roles.proofs.TakenBack.{feeder-none, worker-none, saver-none, not-back}
use Rattle.board_cases.proofs.Reclaiming.{never-back}

-- WHAT IS OF A HAND

loaded-of-hand : (lent : Option Parts) (e : Option Entry) (k : ℕ) (blank : List ℕ) → is_load_of (frame 0 k) e ≡ true → granted_size e ≡ length blank
    → IsOfHand {F = Sealed} {B = List ℕ} name_of parts_of length lent e None None (Some blank)
loaded-of-hand lent None k blank h size = absurd (false≢true h)
loaded-of-hand lent (Some (Load r j b n f g x)) k blank h size = (refl, sym size)
loaded-of-hand lent (Some _) k blank h size = absurd (false≢true h)

nothing-of-hand : (lent : Option Parts) (e : Option Entry) → e ≡ None → IsOfHand {F = Sealed} {B = List ℕ} name_of parts_of length lent e None None None
nothing-of-hand lent e is =
    subst (λ (o : Option Entry). IsOfHand {F = Sealed} {B = List ℕ} name_of parts_of length lent o None None None) (sym is) (refl, refl, refl)

frame-of-hand : (O : Type 0) (g : Graph) (stack : StackValue) (p : Pass) (o : Option LoadedFrame) → HoldsFrame g stack p o
    → IsOfHand name_of parts_of length (lent_to 0 p.made) (hand 0 (past p.made)) (left_of_frame {O = O} o).input
    (left_of_frame {O = O} o).made (left_of_frame {O = O} o).blank
frame-of-hand O g stack p None h = nothing-of-hand (lent_to 0 p.made) (hand 0 (past p.made)) h.free
frame-of-hand O g stack p (Some loaded) h = loaded-of-hand (lent_to 0 p.made) (hand 0 (past p.made)) loaded.index loaded.blank h.loaded h.granted

job-of-hand : (O : Type 0) (g : Graph) (stack : StackValue) (r v : ℕ) (p : Pass) (o : Option (Job Sealed)) → HoldsJob g stack r v p o
    → IsOfHand name_of parts_of length (lent_to r p.made) (hand r (past p.made)) (left_of_job {O = O} o).input
    (left_of_job {O = O} o).made (left_of_job {O = O} o).blank
job-of-hand O g stack r v p None h = nothing-of-hand (lent_to r p.made) (hand r (past p.made)) h.free
job-of-hand O g stack r v p (Some job) h = h.held

-- THE SEATS

module _ {P : Type 0} (ours : P → Type 0) (knows : P → Pass) (g : Graph) (stack : StackValue) (x : Seats Sealed P) (a : AreSeated ours knows g stack x) where
  abbrev s : Setting
  s = run_setting g stack

  abbrev pass_of : Worker Sealed P → P
  pass_of w = w.pass

  ours-at : (ws : List (Worker Sealed P)) → ((k : ℕ) (w : Worker Sealed P) → slice_get ws k ≡ Some w → ours w.pass) → (k : ℕ) (p : P)
      → slice_get (map pass_of ws ++ x.saver.pass ∷ []) k ≡ Some p → ours p
  ours-at [] each zero p at = let is : x.saver.pass ≡ p = cc in subst ours is a.saver.ours_
  ours-at [] each (suc k) p at = cc
  ours-at (w ∷ ws) each zero p at = let is : w.pass ≡ p = cc in subst ours is (each 0 w refl)
  ours-at (w ∷ ws) each (suc k) p at = ours-at ws (λ j v here. each (suc j) v here) k p at

  all-each : (k : ℕ) (p : P) → slice_get (passes_of x) k ≡ Some p → ours p
  all-each zero p at = let is : x.feeder.pass ≡ p = cc in subst ours is a.feeder.ours_
  all-each (suc k) p at = ours-at x.workers.items (λ j w here. (a.workers j w here).ours_) k p at

  pub all-ours : All ours (passes_of x)
  all-ours = all-from ours (passes_of x) all-each

  pub passes-many : length (passes_of x) ≡ last_role s + 1
  passes-many =
      let both = length-append (map pass_of x.workers.items) (x.saver.pass ∷ []) in
      let mapped = length-map x.workers.items pass_of in
      omega (arith, both, mapped, a.many)

  lefts-many : (O : Type 0) → length (lefts_of {O = O} x) ≡ last_role s
  lefts-many O = ap suc (length-map x.workers.items (λ (w : Worker Sealed P). left_of_job {O = O} w.job)) ∙ a.many

  module _ (b : BoardState) (made : All (λ (p : P). HasMade b (knows p)) (passes_of x)) where
    made-first : HasMade b (knows x.feeder.pass)
    made-first = all-at (λ (p : P). HasMade b (knows p)) (passes_of x) 0 x.feeder.pass made refl

    made-worker : (k : ℕ) (w : Worker Sealed P) → slice_get x.workers.items k ≡ Some w → HasMade b (knows w.pass)
    made-worker k w at =
        all-at (λ (p : P). HasMade b (knows p)) (passes_of x) (suc k) w.pass made
        (at-front (map pass_of x.workers.items) (x.saver.pass ∷ []) k w.pass (map-at pass_of x.workers.items k w at))

    made-last : HasMade b (knows x.saver.pass)
    made-last =
        all-at (λ (p : P). HasMade b (knows p)) (passes_of x) (suc (length (map pass_of x.workers.items))) x.saver.pass made
        (at-end (map pass_of x.workers.items) x.saver.pass)

    made-by : (r : ℕ) (p : P) → (knows p).role ≡ r → HasMade b (knows p) → moves_by r b ≡ (knows p).made
    made-by r p is h = subst (λ (q : ℕ). moves_by q b ≡ (knows p).made) is h.made

    first-by : moves_by 0 b ≡ (knows x.feeder.pass).made
    first-by = made-by 0 x.feeder.pass (frame-moves g stack (knows x.feeder.pass) x.feeder.frame a.feeder.holds).0 made-first

    worker-by : (k : ℕ) (w : Worker Sealed P) → slice_get x.workers.items k ≡ Some w → moves_by (suc k) b ≡ (knows w.pass).made
    worker-by k w at = made-by (suc k) w.pass (job-moves g stack (suc k) w.node (knows w.pass) w.job (a.workers k w at).holds).0 (made-worker k w at)

    last-by : moves_by (last_role s) b ≡ (knows x.saver.pass).made
    last-by = made-by (last_role s) x.saver.pass (piece-moves (last_role s) (knows x.saver.pass) x.saver.piece a.saver.holds).0 made-last

    module _ (others : (r : ℕ) → last_role s + 1 ≤ r → moves_by r b ≡ []) where
      once-worker : (k : ℕ) → suc k < last_role s → was_reclaimed (suc k) (past b) ≡ false
      once-worker k low =
          let w = listed x.workers.items k (omega (arith, low, a.many)) in
          never-back (suc k) b (knows w.0.pass).made (worker_logs w.0.node) (worker-by k w.0 w.1) (λ e h. worker-none w.0.node (suc k) e h)
          (job-moves g stack (suc k) w.0.node (knows w.0.pass) w.0.job (a.workers k w.0 w.1).holds).1

      once-above : (r : ℕ) → last_role s ≤ r → was_reclaimed r (past b) ≡ false
      once-above r high =
          elim (cases_Bool (eqb r (last_role s))) [
            | inl here ↦
                let is = eqb-true r (last_role s) here in
                never-back r b (knows x.saver.pass).made saver_logs (ap (λ (q : ℕ). moves_by q b) is ∙ last-by) (λ e h. saver-none r e h)
                (piece-moves (last_role s) (knows x.saver.pass) x.saver.piece a.saver.holds).1
            | inr away ↦
                let ne : r ≢ last_role s = eqb-false r (last_role s) away in
                not-back r b (ap (λ (c : BoardState). was_reclaimed r (past c)) (others r (omega (arith, high, ne))))
          ]

      once : (r : ℕ) → was_reclaimed r (past b) ≡ false
      once zero =
          never-back 0 b (knows x.feeder.pass).made feeder_logs first-by (λ e h. feeder-none 0 e h)
          (frame-moves g stack (knows x.feeder.pass) x.feeder.frame a.feeder.holds).1
      once (suc k) =
          elim (cases_Bool (ltb (suc k) (last_role s))) [
            | inl low ↦ once-worker k (ltb-true (suc k) (last_role s) low)
            | inr high ↦ once-above (suc k) (let h = ltb-false (suc k) (last_role s) high in omega (arith, h))
          ]

      left : (O : Type 0) (k : ℕ) (l : Left Sealed (List ℕ) O) → slice_get (lefts_of {O = O} x) k ≡ Some l → MayReclaim name_of parts_of length s b k l
      left O zero l at =
          let is : left_of_frame {O = O} x.feeder.frame ≡ l = cc in
          subst (λ (m : Left Sealed (List ℕ) O). MayReclaim name_of parts_of length s b 0 m) is
          (comes-back name_of parts_of length s 0 (knows x.feeder.pass).made (left_of_frame {O = O} x.feeder.frame)
          (frame-of-hand O g stack (knows x.feeder.pass) x.feeder.frame a.feeder.holds) b first-by)
      left O (suc k) l at =
          let w = at-map (λ (w : Worker Sealed P). left_of_job {O = O} w.job) x.workers.items k l at in
          subst (λ (m : Left Sealed (List ℕ) O). MayReclaim name_of parts_of length s b (suc k) m) w.2
          (comes-back name_of parts_of length s (suc k) (knows w.0.pass).made (left_of_job {O = O} w.0.job)
          (job-of-hand O g stack (suc k) w.0.node (knows w.0.pass) w.0.job (a.workers k w.0 w.1).holds) b (worker-by k w.0 w.1))

      free : x.saver.piece ≡ None → is_free (last_role s) (past b) ≡ true
      free none =
          let n = none-free (last_role s) (knows x.saver.pass) x.saver.piece (ap is_some none) a.saver.holds in
          ap is_none (sym (moves-tell b (last_role s)).0 ∙ (ap (λ (c : BoardState). hand (last_role s) (past c)) last-by ∙ n.free))

      pub may-drain : (O : Type 0) → x.saver.piece ≡ None → MayDrain {O = O} s b (lefts_of {O = O} x)
      may-drain O none = record { many = lefts-many O; free = free none; once = once; left = left O }

  -- the drain may begin once all passes are back
  pub drain-from : {O : Type 0} (b : BoardState) (ps : List P) (ls : List (Left Sealed (List ℕ) O)) → ps ≡ passes_of x → ls ≡ lefts_of {O = O} x
      → All (λ (p : P). HasMade b (knows p)) ps
      → ((r : ℕ) → last_role s + 1 ≤ r → moves_by r b ≡ []) → x.saver.piece ≡ None → MayDrain {O = O} s b ls
  drain-from {O} b ps ls passes lefts made others none =
      subst (λ (l : List (Left Sealed (List ℕ) O)). MayDrain {O = O} s b l) (sym lefts)
      (may-drain b (subst (λ (q : List P). All (λ (p : P). HasMade b (knows p)) q) passes made) others O none)
