-- The board once all roles have ended.
use Rattle.std.proofs.Common.{◌≡◌, ◌≢◌, ℕ, zero, suc, ◌<◌, [], ◌∷◌, Bool, true, false, eqb, ltb, List, length, refl, sym, ap, ◌∙◌, subst, arith, Some, inl, inr}
use Rattle.std.specs.Prelude.{slice_get}
use Rattle.std.specs.List.{list_all, list_any}
use Rattle.std.proofs.lemmas.Bool.{cases_Bool, eqb-true, eqb-false, eq-eqb, ltb-true, ltb-false, true≢false, false≢true}
use Rattle.std.proofs.lemmas.Option.{slice_get_within}
use Rattle.frame_store.specs.Sealed.{Sealed}
use Rattle.flow_journal.specs.declared.entry.Entry.{Entry}
use Rattle.flow_journal.specs.declared.entry.Entry.TheVariants.{Load, LoadRefused}
use Rattle.flow_journal.specs.Setting.{Setting, is_node, last_role}
use Rattle.flow_journal.specs.MoveLists.{begun_by, is_some_of}
use Rattle.flow_journal.specs.Hands.{hand}
use Rattle.flow_journal.specs.Ended.{reclaims, was_reclaimed, closes, is_closed, settles, is_settled, leaves, has_left_any}
use Rattle.board_rules.specs.declared.answers.Left.{Left}
use Rattle.board_rules.specs.States.{BoardState, past, lent_to}
use Rattle.board_rules.specs.InHand.{IsOfHand}
use Rattle.board_rules.specs.Movers.{first_some, mover, moves_by}
use Rattle.board_rules.specs.Leaving.{MayReclaim}
use Rattle.board_rules.proofs.Pasts.{past-append}
use Rattle.flow_roles.specs.Passes.{Pass}
use Rattle.flow_roles.specs.TurnPasses.{HasMade}
use Rattle.flow_roles.specs.Feeder.{name_of, parts_of}
use Rattle.flow_roles.specs.RoleMoves.{saver_logs, worker_logs}
use Rattle.flow_roles.specs.Workers.{workers, posts}
use Rattle.flow_run.specs.Seats.{post_logs}
use Rattle.flow_run.specs.Joined.{IsJoined}
use Rattle.flow_run.specs.Ticks.{loads_by}
use Rattle.flow_drain.proofs.Rounds.{node-above}
use Rattle.flow_roles.proofs.Workers.{posts-length, worker-node}
use Rattle.flow_roles.proofs.Lists.{listed}
use Rattle.flow_roles.proofs.Reclaims.{handed-at}
use Rattle.flow_roles.proofs.TakenBack.{saver-none, none-such, not-back}
use Rattle.flow_run.proofs.Ends.{feeder-closed, worker-settled, post-none}
use Rattle.flow_run.proofs.Movers.{none-before, any-later}

-- WHO LOADS

worker-unloads : (v r : ℕ) (e : Entry) → worker_logs v e ≡ true → loads_by r e ≡ false
worker-unloads v r (Load q k b n f g x) h = absurd (false≢true h)
worker-unloads v r (LoadRefused q k n z) h = absurd (false≢true h)
worker-unloads v r _ h = refl

saver-unloads : (r : ℕ) (e : Entry) → saver_logs e ≡ true → loads_by r e ≡ false
saver-unloads r (Load q k b n f g x) h = absurd (false≢true h)
saver-unloads r (LoadRefused q k n z) h = absurd (false≢true h)
saver-unloads r _ h = refl

post-unloads : (s : Setting) (v r : ℕ) → is_node s v ≡ true → (e : Entry) → post_logs v e ≡ true → loads_by r e ≡ false
post-unloads s zero r node e h = absurd (let a = (node-above s 0 node).0 in omega (arith, a))
post-unloads s (suc v) r node e h = worker-unloads (suc v) r e h

load-begins : (r : ℕ) (e : Entry) → loads_by r e ≡ true → begun_by e ≡ Some r
load-begins r (Load q k b n f g x) h = ap Some (eqb-true q r h)
load-begins r (LoadRefused q k n z) h = ap Some (eqb-true q r h)
load-begins r _ h = absurd (false≢true h)

-- a role's loads are among its moves
load-moves : (r : ℕ) (b : BoardState) → list_any (loads_by r) (past b) ≡ true → list_any (loads_by r) (past (moves_by r b)) ≡ true
load-moves r [] h = h
load-moves r (t ∷ b) h =
    elim (cases_Bool (loads_by r t.entry)) [
      | inl here ↦ rw (load-begins r t.entry here, eq-eqb r r refl, here) refl
      | inr other ↦
          let later = load-moves r b (rw other at h) in
          elim (cases_Bool (is_some_of r (first_some (begun_by t.entry) (mover b)))) [
            | inl mine ↦ rw (mine, other) later
            | inr away ↦ rw away later
          ]
    ]

not-loaded : (r : ℕ) (b : BoardState) → list_any (loads_by r) (past (moves_by r b)) ≡ false → list_any (loads_by r) (past b) ≡ false
not-loaded r b none =
    elim (cases_Bool (list_any (loads_by r) (past b))) [
      | inl some ↦ absurd (true≢false (sym (load-moves r b some) ∙ none))
      | inr no_ ↦ no_
    ]

module _ {O : Type 0} (s : Setting) (b : BoardState) (passes : List Pass) (lefts : List (Left Sealed (List ℕ) O))
    (saver : Pass) (j : IsJoined s b passes lefts saver) where
  post-of : (k : ℕ) → k < last_role s → (v : ℕ) × (slice_get (posts s) k ≡ Some v)
  post-of k low = listed (posts s) k (omega (arith, low, posts-length s))

  pass-of : (k : ℕ) → k < last_role s → (p : Pass) × (slice_get passes k ≡ Some p)
  pass-of k low = listed passes k (omega (arith, low, j.passes_many))

  left-of : (k : ℕ) → k < last_role s → (left : Left Sealed (List ℕ) O) × (slice_get lefts k ≡ Some left)
  left-of k low = listed lefts k (omega (arith, low, j.lefts_many))

  pub below-last : (k v : ℕ) → slice_get (posts s) k ≡ Some v → k < last_role s
  below-last k v at = omega (arith, posts-length s, slice_get_within (posts s) k v at)

  made-by : (k v : ℕ) (p : Pass) (left : Left Sealed (List ℕ) O) → slice_get (posts s) k ≡ Some v → slice_get passes k ≡ Some p
      → slice_get lefts k ≡ Some left → moves_by k b ≡ p.made
  made-by k v p left at is has = let h = j.each k v p left at is has in subst (λ (r : ℕ). moves_by r b ≡ p.made) h.1.1.role h.0.made

  -- the moves of a role on the board
  pub role-moves : (k v : ℕ) → slice_get (posts s) k ≡ Some v → list_all (post_logs v) (past (moves_by k b)) ≡ true
  role-moves k v at =
      let p = pass-of k (below-last k v at) in
      let l = left-of k (below-last k v at) in
      subst (λ (c : BoardState). list_all (post_logs v) (past c) ≡ true) (sym (made-by k v p.0 l.0 at p.1 l.1)) (j.each k v p.0 l.0 at p.1 l.1).1.1.moves

  pub last-by : moves_by (last_role s) b ≡ saver.made
  last-by = subst (λ (r : ℕ). moves_by r b ≡ saver.made) j.last_is j.last_made.made

  pub last-moves : list_all saver_logs (past (moves_by (last_role s) b)) ≡ true
  last-moves = subst (λ (c : BoardState). list_all saver_logs (past c) ≡ true) (sym last-by) j.last_moves

  -- no hand was taken back
  pub none-back : (r : ℕ) → was_reclaimed r (past b) ≡ false
  none-back r =
      not-back r b (elim (cases_Bool (ltb r (last_role s))) [
        | inl low ↦
            let v = post-of r (ltb-true r (last_role s) low) in
            none-such (post_logs v.0) (reclaims r) (past (moves_by r b)) (λ e h. post-none v.0 r e h) (role-moves r v.0 v.1)
        | inr high ↦ elim (cases_Bool (eqb r (last_role s))) [
          | inl here ↦
              let moves = subst (λ (q : ℕ). list_all saver_logs (past (moves_by q b)) ≡ true) (sym (eqb-true r (last_role s) here)) last-moves in
              none-such saver_logs (reclaims r) (past (moves_by r b)) (λ e h. saver-none r e h) moves
          | inr away ↦
              let ne : r ≢ last_role s = eqb-false r (last_role s) away in
              let beyond : last_role s < r = omega (arith, ltb-false r (last_role s) high, ne) in
              ap (λ (c : BoardState). was_reclaimed r (past c)) (j.others r beyond)
        ]
      ])

  -- nobody but the feeder has loaded
  pub only-fed : (r : ℕ) → r ≢ 0 → list_any (loads_by r) (past b) ≡ false
  only-fed zero ne = absurd (ne refl)
  only-fed (suc k) ne =
      not-loaded (suc k) b (elim (cases_Bool (ltb (suc k) (last_role s))) [
        | inl low ↦
            let v = post-of (suc k) (ltb-true (suc k) (last_role s) low) in
            none-such (post_logs v.0) (loads_by (suc k)) (past (moves_by (suc k) b)) (post-unloads s v.0 (suc k) (worker-node s k v.0 v.1))
            (role-moves (suc k) v.0 v.1)
        | inr high ↦ elim (cases_Bool (eqb (suc k) (last_role s))) [
          | inl here ↦
              let moves = subst (λ (q : ℕ). list_all saver_logs (past (moves_by q b)) ≡ true) (sym (eqb-true (suc k) (last_role s) here)) last-moves in
              none-such saver_logs (loads_by (suc k)) (past (moves_by (suc k) b)) (saver-unloads (suc k)) moves
          | inr away ↦
              let other : suc k ≢ last_role s = eqb-false (suc k) (last_role s) away in
              let beyond : last_role s < suc k = omega (arith, ltb-false (suc k) (last_role s) high, other) in
              ap (λ (c : BoardState). list_any (loads_by (suc k)) (past c)) (j.others (suc k) beyond)
        ]
      ])

  -- what each role left may be taken back, also at a later board on which it made no move
  pub may-back : (c : BoardState) → ((k : ℕ) → k < last_role s → moves_by k c ≡ moves_by k b)
      → (k : ℕ) (left : Left Sealed (List ℕ) O) → slice_get lefts k ≡ Some left
      → MayReclaim name_of parts_of length s c k left
  may-back c same k left at =
      let low : k < last_role s = omega (arith, j.lefts_many, slice_get_within lefts k left at) in
      let v = post-of k low in
      let p = pass-of k low in
      (j.each k v.0 p.0 left v.1 p.1 at).1.1.reclaimed c (same k low ∙ made-by k v.0 p.0 left v.1 p.1 at)

  -- and it is what was handed out for its hand there
  pub handed-back : (c : BoardState) → ((k : ℕ) → k < last_role s → moves_by k c ≡ moves_by k b)
      → (k : ℕ) (left : Left Sealed (List ℕ) O) → slice_get lefts k ≡ Some left
      → IsOfHand name_of parts_of length (lent_to k c) (hand k (past c)) left.input left.made left.blank
  handed-back c same k left at =
      let low : k < last_role s = omega (arith, j.lefts_many, slice_get_within lefts k left at) in
      let v = post-of k low in
      let p = pass-of k low in
      handed-at name_of parts_of length k p.0.made c left.input left.made left.blank (same k low ∙ made-by k v.0 p.0 left v.1 p.1 at)
      (j.each k v.0 p.0 left v.1 p.1 at).1.1.handed

  seen-none : (p : Pass) → HasMade b p → has_left_any (past b) ≡ false → has_left_any (past p.seen) ≡ false
  seen-none p h none =
      let whole = ap past h.seen.1 ∙ past-append h.seen.0 p.seen in
      none-before leaves (past h.seen.0) (past p.seen) (ap has_left_any (sym whole) ∙ none)

  seen-some : (q : Entry → Bool) (p : Pass) → HasMade b p → list_any q (past p.seen) ≡ true → list_any q (past b) ≡ true
  seen-some q p h some =
      let whole = ap past h.seen.1 ∙ past-append h.seen.0 p.seen in
      ap (list_any q) whole ∙ any-later q (past h.seen.0) (past p.seen) some

  -- without a leave the feed is closed, and each worker's node is settled
  pub feed-closed : has_left_any (past b) ≡ false → is_closed (past b) ≡ true
  feed-closed none =
      let low : 0 < last_role s = omega arith in
      let p = pass-of 0 low in
      let l = left-of 0 low in
      let h = j.each 0 0 p.0 l.0 refl p.1 l.1 in
      seen-some closes p.0 h.0 (feeder-closed p.0.said.last (past p.0.seen) h.1.0 h.1.1.last (seen-none p.0 h.0 none))

  pub worked-off : (k v : ℕ) → slice_get (workers s) k ≡ Some (suc v) → has_left_any (past b) ≡ false → is_settled (suc v) (past b) ≡ true
  worked-off k v at none =
      let low = below-last (suc k) (suc v) at in
      let p = pass-of (suc k) low in
      let l = left-of (suc k) low in
      let h = j.each (suc k) (suc v) p.0 l.0 at p.1 l.1 in
      seen-some (settles (suc v)) p.0 h.0 (worker-settled (suc v) p.0.said.last (past p.0.seen) h.1.0 h.1.1.last (seen-none p.0 h.0 none))
