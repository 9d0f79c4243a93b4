-- To end a turn keeps the rule, and what the turn tells its caller.
use Rattle.std.proofs.Common.{◌≡◌, ℕ, suc, ◌+◌, ◌%◌, ◌<◌, ◌≤◌, eqb, List, [], ◌∷◌, ◌++◌, length, get_or, set, drop, sym, refl, ap, ◌∙◌, subst, arith}
use Rattle.std.proofs.Common.{length-set, inl, eq-eqb}
use Rattle.std.proofs.Math.Seq.{drop-append_seam}
use Rattle.std.proofs.lemmas.List.{append_assoc}
use mathlib.Core.Logic.{dite}
use mathlib.Core.Option.{some}
use native.Mathlib.Decide.{dec_le}
use Rattle.std.specs.Prelude.{Option}
use Rattle.atomic_table.specs.Table.{State, Me, gives, rest, Allows}
use Rattle.atomic_table.specs.Seated.{TableId}
use Rattle.turn_lock.specs.declared.rule.View.{View}
use Rattle.turn_lock.specs.declared.rule.Moves.{Moves}
use Rattle.turn_lock.specs.declared.rule.Stage.TheVariants.{Serving}
use Rattle.turn_lock.specs.Logs.{moves_of, IsMove, IsPrefix}
use Rattle.turn_lock.specs.Views.{held, total, one_if, tickets, times, places, adds, serves}
use Rattle.turn_lock.specs.Rule.{word_range, HasTicket, InQueue, AreExact, TurnRule}
use Rattle.turn_lock.specs.Steps.{after_turn, FirstOnce, EndsWith, InTurn}
use Rattle.turn_lock.specs.Passes.{pass_facts, MayCall, PlayedBoth, Called, CalledNext, CalledBoth}
use Rattle.turn_lock.proofs.Prefixes.{prefix_same, prefix_more}
use Rattle.turn_lock.proofs.Growth.{AreOf, of_move, of_both, grown_other, exact_other, exact_adds, exact_first}
use Rattle.turn_lock.proofs.Sums.{total_at, total_two}
use Rattle.turn_lock.proofs.Roles.{times_adds, length_adds}
use Rattle.turn_lock.proofs.Queue.{past}
use Rattle.turn_lock.proofs.SetView.{set_at, changed}

set_one : {V : Type 0} (l : List V) (a : V) → length l ≡ 1 → set l 0 a ≡ a ∷ []
set_one [] a e = absurd (omega arith)
set_one (x ∷ []) a e = refl
set_one (x ∷ y ∷ ys) a e = absurd (omega arith)

adds_both : {E : Type 0} (xs ys : List E) (ms : List (Moves E)) → adds (xs ++ ys) ms ≡ adds ys (adds xs ms)
adds_both xs ys [] = refl
adds_both {E} xs ys (m ∷ ms) = ap (λ (l : List E). record { role = m.role; entries = l } ∷ ms) (sym (append_assoc m.entries xs ys))

module _ {S E : Type 0} (entries : S → List E) (begins : E → Option ℕ) (seats : ℕ) where
  abbrev M : Type 0
  M = Me S (View E)

  abbrev Rule : State S (View E) → Type 0
  Rule = TurnRule entries begins seats

  -- no role is in two places
  once : (s : State S (View E)) (r : Rule s) (q : ℕ) → total (places q) s.views ≤ 1
  once s r q = dite (dec_le seats q) (λ le. let a = r.no_place q le in omega arith) (λ more. let a = r.one_place q (omega arith) in omega arith)

  -- the seat in turn has a role m, and gives back a state whose log has grown by moves of it
  pub ends : (slots id t : ℕ) (v : View E) (x : S) (m : Moves E) (ms : List (Moves E)) (new : List E)
      → v.stage ≡ Serving t → v.made ≡ m ∷ ms → entries x ≡ v.seen ++ new → AreOf begins m.role new
      → Allows Rule slots id (v, (0, x) ∷ []) 1 (λ n. (n + 1) % word_range) (λ n m'. EndsWith entries begins v ((0, x) ∷ []) m')
  ends slots id t v x m ms new stage has_role grown move s r _ here _ =
      let d : ℕ = r.drawn in let e : ℕ = r.ended in let w : View E = after_turn entries v x in let known = r.each id v here in
      let queue : InQueue d e r.log v.seen (length v.made) (Serving t) = subst (InQueue d e r.log v.seen (length v.made)) stage known.queue in
      let turn : t ≡ e = queue.0 in let high : t < d = queue.1 in
      let log : List E = entries x in let is : log ≡ r.log ++ new = grown ∙ ap (λ l. l ++ new) queue.3 in let one_held : tickets v ≡ 1 = ap held stage in
      let added : drop (length v.seen) log ≡ new = ap (drop (length v.seen)) grown ∙ drop-append_seam v.seen new in
      let q : ℕ = m.role in let is_first : one_if (eqb q q) ≡ 1 = ap one_if (eq-eqb q q refl) in
      let here_once : times q v.made ≡ 1 + times q ms = ap (times q) has_role ∙ ap (λ (k : ℕ). k + times q ms) is_first in
      let most_once = once s r q in let at_least = total_at (places q) s.views id v here in let no_more : times q ms ≡ 0 = omega arith in
      let low : q < seats = dite (dec_le seats q) (λ le. let a = r.no_place q le in absurd (omega arith)) (λ more. omega arith) in
      let mine : AreExact begins (r.log ++ new) (adds new (m ∷ ms)) =
      exact_adds begins m ms r.log new move no_more (subst (AreExact begins r.log) has_role known.made) in
      let mine' : AreExact begins log (adds (drop (length v.seen) log) v.made) =
      subst (λ (z : List E × (List E × List (Moves E))). AreExact begins z.0 (adds z.1.0 z.1.1)) (λ i. (sym is i, (sym added i, sym has_role i))) mine in
      let some_role : 0 < length w.made = let a = length_adds (drop (length v.seen) log) v.made in let b = queue.2 in omega arith in
      let grows : (told : List E) → IsPrefix told r.log → IsPrefix told log =
      λ told p. subst (λ l. IsPrefix told l) (sym is) (prefix_more told r.log new p) in (
        w,
        gives,
        tt,
        changed entries begins seats s r id v w here (set s.words 1 ((get_or s.words 1 0 + 1) % word_range)) (set s.homes 0 (some x)) d (suc e) r.others log
            (ap (λ (l : List ℕ). set l 1 ((get_or l 1 0 + 1) % word_range)) r.words ∙ ap (λ (n : ℕ). d % word_range ∷ n ∷ r.others) (omega arith))
            (length-set s.homes 0 (some x) ∙ r.one_slot) (omega arith)
            (length_adds (drop (length v.seen) log) v.made) (λ k. times_adds k (drop (length v.seen) log) v.made)
            (λ k le. ap (moves_of begins k) is ∙ (grown_other begins q k r.log new (omega arith) move ∙ r.no_stranger k le))
            record { queue = tt; seen = prefix_same log; made = mine' }
            (λ j u other g. let k = r.each j u g in let two = total_two (places q) s.views id j v u other here g in record {
              queue = past d e r.log log u.seen (length u.made) u.stage grows k.queue
                  (λ has. other (r.distinct j id e u v g here has (subst (λ z. HasTicket z e) (sym stage) turn)));
              seen = grows u.seen k.seen;
              made = subst (λ l. AreExact begins l u.made) (sym is) (exact_other begins q r.log new u.made move (omega arith) k.made);
            })
            (λ j k u _ g has now. now) (id, w, set_at s.views id v w here, some_role, refl) (inl (x, set_one s.homes (some x) r.one_slot, refl)),
        (refl, mine', subst (λ (l : List (Moves E)). FirstOnce l) (sym has_role) no_more),
      )

  abbrev first_or : S → List (ℕ × S) → S
  first_or d [] = d
  first_or d (c ∷ cs) = c.1

  same_value : (x y : S) (cs : List (ℕ × S)) (me : M) (v : View E) → me ≡ (v, (0, x) ∷ []) → me.1 ≡ (0, y) ∷ cs → x ≡ y
  same_value x y cs me v is at = ap (λ (m : M). first_or x m.1) (sym is) ∙ ap (first_or x) at

  -- one turn: the seat had the view v, then `me` with the state y, and moves of the role made z of it
  module _ (role : ℕ) (may : List E → Type 0) (v : View E) (me : M) (y z : S) where
    abbrev Grown : Type 0
    Grown = (new : List E) × (entries z ≡ entries y ++ new) × AreOf begins role new

    pub both_grown : (first second : List E → List E → Type 0) → PlayedBoth begins role first second (entries y) (entries z) → Grown
    both_grown first second play = (
      play.0 ++ play.1,
      play.2 ∙ append_assoc (entries y) play.0 play.1,
      of_both begins role play.0 play.1 (of_move begins role play.0 play.3) (of_move begins role play.1 play.4),
    )

    ends_of : (slots id : ℕ) (ms : List (Moves E)) → v.made ≡ ms → MayCall role may ms → (turn : InTurn entries begins v me) → turn.1 ≡ y → Grown
        → Allows Rule slots id (serves turn.0 v (entries turn.1), (0, z) ∷ []) 1 (λ n. (n + 1) % word_range)
        (λ n m'. EndsWith entries begins (serves turn.0 v (entries turn.1)) ((0, z) ∷ []) m')
    ends_of slots id [] is asked turn same grown = absurd asked
    ends_of slots id (m ∷ ms) is asked turn same grown = let t : ℕ = turn.0 in let w : View E = serves t v (entries turn.1) in
        ends slots id t w z m ms grown.0 refl is (grown.1 ∙ ap (λ u. entries u ++ grown.0) (sym same))
        (subst (λ q. AreOf begins q grown.0) (sym asked.0) grown.2)

    pub turn_ends : (slots id : ℕ) → MayCall role may v.made → InTurn entries begins v me → me.1 ≡ (0, y) ∷ rest me.1 → Grown
        → Allows Rule slots id (me.0, (0, z) ∷ rest me.1) 1 (λ n. (n + 1) % word_range)
        (λ n m'. EndsWith entries begins me.0 ((0, z) ∷ rest me.1) m')
    turn_ends slots id asked turn at grown =
        let same = same_value turn.1 y (rest me.1) me (serves turn.0 v (entries turn.1)) turn.2 at in
        subst (λ (m : M). Allows Rule slots id (m.0, (0, z) ∷ rest m.1) 1 (λ n. (n + 1) % word_range)
        (λ n m'. EndsWith entries begins m.0 ((0, z) ∷ rest m.1) m'))
        (sym turn.2) (ends_of slots id v.made refl asked turn same grown)

    -- what the seat then knows: its place in the log, and all that the turn added
    pub turn_leaves : (m' : M) → InTurn entries begins v me → me.1 ≡ (0, y) ∷ rest me.1 → (grown : Grown)
        → EndsWith entries begins me.0 ((0, z) ∷ rest me.1) m'
        → (between : List E) × (entries y ≡ v.seen ++ between) × AreExact begins (entries y) v.made
        × (m'.0.seen ≡ entries z) × (m'.0.made ≡ adds grown.0 v.made) × AreExact begins m'.0.seen m'.0.made × FirstOnce v.made
    turn_leaves m' turn at grown told = let x : S = turn.1 in
        let same = same_value x y (rest me.1) me (serves turn.0 v (entries x)) turn.2 at in let new : List E = grown.0 in
        let told' : EndsWith entries begins (serves turn.0 v (entries x)) ((0, z) ∷ []) m' =
        subst (λ (m : M). EndsWith entries begins m.0 ((0, z) ∷ rest m.1) m') turn.2 told in
        let grown' : entries z ≡ entries x ++ new = grown.1 ∙ ap (λ u. entries u ++ new) (sym same) in
        let added : drop (length (entries x)) (entries z) ≡ new = ap (drop (length (entries x))) grown' ∙ drop-append_seam (entries x) new in (
          turn.3.0,
          ap entries (sym same) ∙ turn.3.1,
          subst (λ u. AreExact begins (entries u) v.made) same turn.4,
          ap (λ (m : M). m.0.seen) told'.0,
          ap (λ (m : M). m.0.made) told'.0 ∙ ap (λ l. adds l v.made) added,
          subst (λ (m : M). AreExact begins m.0.seen m.0.made) (sym told'.0) told'.1,
          told'.2,
        )

    module _ (lock : TableId) (m' : M) (turn : InTurn entries begins v me) (at : me.1 ≡ (0, y) ∷ rest me.1) where
      pub turn_tells : (answers : List E → List E → Type 0)
          → (play : (new : List E) × (entries z ≡ entries y ++ new) × IsMove begins role new × answers (entries y) new)
          → EndsWith entries begins me.0 ((0, z) ∷ rest me.1) m'
          → Called begins role answers (pass_facts lock v.seen v.made) (pass_facts lock m'.0.seen m'.0.made)
      turn_tells answers play told =
          let left = turn_leaves m' turn at (play.0, play.1, of_move begins role play.0 play.2) told in (
            left.0,
            play.0,
            left.3 ∙ (play.1 ∙ ap (λ l. l ++ play.0) left.1),
            subst (λ l. answers l play.0) left.1 play.3,
            play.2,
            left.4,
            left.5,
          )

      pub both_tell : (first second : List E → List E → Type 0) → MayCall role may v.made
          → (play : PlayedBoth begins role first second (entries y) (entries z))
          → EndsWith entries begins me.0 ((0, z) ∷ rest me.1) m'
          → CalledBoth begins role first second (pass_facts lock v.seen v.made) (pass_facts lock m'.0.seen m'.0.made)
      unfolding both_grown
      both_tell first second asked play told =
          let one : List E = play.0 in let two : List E = play.1 in
          let left = turn_leaves m' turn at (both_grown first second play) told in (
            pass_facts lock (entries y ++ one) (adds one v.made),
            refl,
            (
              left.0,
              one,
              ap (λ l. l ++ one) left.1,
              subst (λ l. first l one) left.1 play.5,
              play.3,
              refl,
              exact_first begins v.made role may (entries y) one asked (of_move begins role one play.3) left.6 left.2,
            ),
            (two, left.3 ∙ play.2, play.6, play.4, left.4 ∙ adds_both one two v.made, left.5),
          )
