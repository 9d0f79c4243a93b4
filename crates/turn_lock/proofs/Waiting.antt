-- To draw a ticket, to poll, and to step on a word of which the rule says nothing, keeps the rule.
use Rattle.std.proofs.Common.{◌≡◌, ℕ, zero, suc, ◌+◌, ◌%◌, ◌<◌, ◌≤◌, List, [], ◌∷◌, length, get_or, set, sym, refl, ap, ◌∙◌, subst, arith, length-set, inl}
use Rattle.std.proofs.Common.{inr, ⊎_elim}
use mathlib.Core.Logic.{dite}
use mathlib.Core.Option.{none}
use native.Mathlib.Decide.{ℕ_discrete}
use lib.ListN.{get_elem?}
use Rattle.std.specs.Prelude.{Option}
use Rattle.atomic_table.specs.Table.{State, Me, step, keeps, takes, Allows}
use Rattle.turn_lock.specs.declared.rule.View.{View}
use Rattle.turn_lock.specs.declared.rule.Stage.TheVariants.{Idle, Waiting}
use Rattle.turn_lock.specs.Logs.{IsPrefix}
use Rattle.turn_lock.specs.Views.{held, tickets, roles, waits, serves}
use Rattle.turn_lock.specs.Rule.{word_range, IsServing, SomeServing, SeenAll, AreExact, IsHome, TurnRule}
use Rattle.turn_lock.specs.Steps.{HasDrawn, Draws, PollsAt}
use Rattle.turn_lock.proofs.Prefixes.{prefix_same}
use Rattle.turn_lock.proofs.Sums.{total_le}
use Rattle.turn_lock.proofs.Queue.{between, later, serving_has, ticket_role}
use Rattle.turn_lock.proofs.SetView.{set_at, same_seat, serving_set, witness_set, changed, unchanged}

set_further : (i n a b : ℕ) (l : List ℕ) → 2 ≤ i → (l' : List ℕ) × (set (a ∷ b ∷ l) i n ≡ a ∷ b ∷ l')
set_further zero n a b l le = absurd (omega arith)
set_further (suc zero) n a b l le = absurd (omega arith)
set_further (suc (suc i)) n a b l le = (set l i n, refl)

module _ {S E : Type 0} (entries : S → List E) (begins : E → Option ℕ) (seats : ℕ) where
  abbrev M : Type 0
  M = Me S (View E)

  abbrev Rule : State S (View E) → Type 0
  Rule = TurnRule entries begins seats

  -- a step on a word of which the rule says nothing
  pub stays : (slots id i : ℕ) (f : ℕ → ℕ) (me : M) → 2 ≤ i → Allows Rule slots id me i f (λ n m'. m' ≡ me)
  stays slots id i f me le s r _ here _ =
      let more = set_further i (f (get_or s.words i 0)) (r.drawn % word_range) (r.ended % word_range) r.others le in (
        me.0,
        keeps,
        tt,
        unchanged entries begins seats s r id me.0 here (set s.words i (f (get_or s.words i 0))) more.0
            (ap (λ (l : List ℕ). set l i (f (get_or s.words i 0))) r.words ∙ more.1),
        refl,
      )

  pub draws : (slots id : ℕ) (me : M) → me.0.stage ≡ Idle → me.1 ≡ [] → 0 < length me.0.made
      → Allows Rule slots id me 0 (λ n. (n + 1) % word_range) (Draws (step slots 0 1 0 none) me)
  draws slots id me idle bare some_role s r _ here _ = let d : ℕ = r.drawn in let e : ℕ = r.ended in let v : View E = me.0 in let w : View E = waits d v in
      let first : get_or s.words 0 0 ≡ d % word_range = ap (λ (l : List ℕ). get_or l 0 0) r.words in
      let none_held : tickets v ≡ 0 = ap held idle in let c = r.waiting in let known = r.each id v here in (
        w,
        keeps,
        tt,
        changed entries begins seats s r id v w here (set s.words 0 ((get_or s.words 0 0 + 1) % word_range)) s.homes (suc d) e r.others r.log
            (ap (λ (l : List ℕ). set l 0 ((get_or l 0 0 + 1) % word_range)) r.words ∙ ap (λ (n : ℕ). n ∷ e % word_range ∷ r.others) (omega arith))
            r.one_slot (omega arith) refl (λ _. refl) r.no_stranger
            record { queue = (omega arith, omega arith, some_role); seen = known.seen; made = known.made }
            (λ j u _ g. let k = r.each j u g in
            record { queue = later d (suc d) e r.log u.seen (length u.made) (omega arith) u.stage k.queue; seen = k.seen; made = k.made })
            (λ j t u _ g has now. let b = (between d e t r.log u.seen (length u.made) u.stage (r.each j u g).queue has).1 in
            let same : d ≡ t = now in omega arith)
            (witness_set s.views id v w here r.log (λ x. x) (λ all. subst (SeenAll r.log v.seen) idle all) r.witness)
            (⊎_elim (λ h. inl h) (λ b. inr (serving_set s.views id v w here (λ is. absurd (subst IsServing idle is)) b)) r.home),
        (d, sym first, ap (λ cs. (w, cs)) bare),
      )

  -- at most as many turns are to come as there are roles
  few_to_come : (s : State S (View E)) (r : Rule s) → r.drawn < r.ended + 4294967296
  few_to_come s r = let a = r.waiting in let b = r.all_roles in let f = r.few_seats in
      let le = total_le tickets roles s.views (λ j v g. ticket_role r.drawn r.ended r.log v.seen (length v.made) v.stage (r.each j v g).queue) in omega arith

  pub polls : (slots id t : ℕ) (v : View E)
      → Allows Rule slots id (waits t v, []) 1 (λ n. n) (λ n m. PollsAt entries begins (waits t v) (Waiting t) n m)
  polls slots id t v0 s r _ here _ = let d : ℕ = r.drawn in let e : ℕ = r.ended in let n : ℕ = get_or s.words 1 0 in
      let second : n ≡ e % word_range = ap (λ (l : List ℕ). get_or l 1 0) r.words in let v : View E = waits t v0 in let known = r.each id v here in
      let low : e ≤ t = known.queue.0 in let high : t < d = known.queue.1 in let few = few_to_come s r in
      let same_words = ap (λ (l : List ℕ). set l 1 (get_or l 1 0)) r.words in dite (ℕ_discrete n (t % word_range))
      (λ hit. let turn : t ≡ e = omega arith in ⊎_elim
      (λ (h : IsHome entries begins r.log s.homes). let x : S = h.0 in let w : View E = serves t v (entries x) in (
        w,
        takes 0 x,
        ap (λ l. get_elem? l 0) h.1,
        changed entries begins seats s r id v w here (set s.words 1 n) (set s.homes 0 none) d e r.others r.log same_words
            (length-set s.homes 0 none ∙ r.one_slot) (omega arith) refl (λ _. refl) r.no_stranger
            record { queue = (turn, high, known.queue.2, h.2); seen = subst (λ l. IsPrefix (entries x) l) h.2 (prefix_same (entries x)); made = known.made }
            (λ j u _ g. r.each j u g) (λ j k u other g has now. other (r.distinct j id k u v g here has now))
            (id, w, set_at s.views id v w here, known.queue.2, h.2) (inr (id, w, set_at s.views id v w here, tt)),
        (
          (λ _. (t, x, refl, subst (λ l. IsPrefix v.seen l) (sym h.2) known.seen, subst (λ l. AreExact begins l v.made) (sym h.2) known.made)),
          λ miss. absurd (miss hit),
        ),
      ))
      (λ (b : SomeServing s.views). let u : View E = b.1 in
      let has = serving_has d e r.log u.seen (length u.made) u.stage b.3 (r.each b.0 u b.2).queue in let same = r.distinct b.0 id e u v b.2 here has turn in
      absurd (subst (λ (z : View E). IsServing z.stage) (same_seat s.views id v v here b.0 u same b.2) b.3)) r.home)
      (λ miss. (v, keeps, tt, unchanged entries begins seats s r id v here (set s.words 1 n) r.others same_words, ((λ hit. absurd (miss hit)), λ _. refl)))

  pub polls_drawn : (slots id n : ℕ) (v : View E) (me : M) → HasDrawn v n me
      → Allows Rule slots id me 1 (λ k. k) (λ k m. PollsAt entries begins me.0 me.0.stage k m)
  polls_drawn slots id n v me has =
      subst (λ (m : M). Allows Rule slots id m 1 (λ k. k) (λ k m'. PollsAt entries begins m.0 m.0.stage k m')) (sym has.2) (polls slots id has.0 v)
