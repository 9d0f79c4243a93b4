-- A step changes the view of one seat. What keeps the rule then.
use Rattle.std.proofs.Common.{◌≡◌, ◌≢◌, ℕ, zero, suc, ◌+◌, ◌%◌, ◌<◌, ◌≤◌, ◌⊎◌, List, [], ◌∷◌, length, set, sym, refl, ap, ◌∙◌, subst, arith, inl, inr, ⊎_elim}
use mathlib.Core.Logic.{dite}
use mathlib.Core.Option.{some, some-injective, some-ne-none}
use mathlib.Core.Option as maybe
use native.Mathlib.Decide.{ℕ_discrete}
use lib.ListN.{get_elem?}
use Rattle.std.specs.Prelude.{Option}
use Rattle.atomic_table.specs.Table.{State}
use Rattle.atomic_table.proofs.Lists.{at_set, set_else}
use Rattle.turn_lock.specs.declared.rule.View.{View}
use Rattle.turn_lock.specs.Logs.{moves_of}
use Rattle.turn_lock.specs.Views.{tickets, roles, times, places}
use Rattle.turn_lock.specs.Rule.{word_range, HasTicket, IsServing, Distinct, SomeServing, SeenAll, Witnessed, IsTrue, IsHome, TurnRule}
use Rattle.turn_lock.proofs.Sums.{total_set}

pub set_at : {V : Type 0} (l : List V) (i : ℕ) (v w : V) → get_elem? l i ≡ some v → get_elem? (set l i w) i ≡ some w
set_at [] i v w e = absurd (some-ne-none v (sym e))
set_at (x ∷ xs) zero v w e = refl
set_at (x ∷ xs) (suc i) v w e = set_at xs i v w e

module _ {E : Type 0} (l : List (View E)) (id : ℕ) (v w : View E) (here : get_elem? l id ≡ some v) where
  -- a seat with the number id is this one
  pub same_seat : (j : ℕ) (u : View E) → j ≡ id → get_elem? l j ≡ some u → u ≡ v
  same_seat j u same g = some-injective u v (sym g ∙ (ap (get_elem? l) same ∙ here))

  pub serving_set : (IsServing v.stage → IsServing w.stage) → SomeServing l → SomeServing (set l id w)
  serving_set more (j, u, g, is) = dite (ℕ_discrete j id)
      (λ same. (id, w, set_at l id v w here, more (subst (λ (z : View E). IsServing z.stage) (same_seat j u same g) is)))
      (λ other. (j, u, set_else l id j w other ∙ g, is))

  pub witness_set : (log : List E) → (0 < length v.made → 0 < length w.made) → (SeenAll log v.seen v.stage → SeenAll log w.seen w.stage)
      → Witnessed log l → Witnessed log (set l id w)
  witness_set log some_role more (j, u, g, has, all) = dite (ℕ_discrete j id)
      (λ same. let is : u ≡ v = same_seat j u same g in (
        id,
        w,
        set_at l id v w here,
        some_role (subst (λ (z : View E). 0 < length z.made) is has),
        more (subst (λ (z : View E). SeenAll log z.seen z.stage) is all),
      ))
      (λ other. (j, u, set_else l id j w other ∙ g, has, all))

module _ {E : Type 0} (l : List (View E)) (id : ℕ) (w : View E) where
  -- the new view may hold a ticket that no other seat holds
  pub distinct_set : Distinct l → ((j t : ℕ) (u : View E) → j ≢ id → get_elem? l j ≡ some u → HasTicket u.stage t → HasTicket w.stage t → ⊥)
      → Distinct (set l id w)
  distinct_set distinct fresh i j t u x gi gj a b = ⊎_elim
      (λ (p : (i ≡ id) × (w ≡ u)). ⊎_elim (λ (q : (j ≡ id) × (w ≡ x)). p.0 ∙ sym q.0)
      (λ (q : (j ≢ id) × (get_elem? l j ≡ some x)). absurd (fresh j t x q.0 q.1 b (subst (λ (z : View E). HasTicket z.stage t) (sym p.1) a)))
      (at_set l id j w x gj))
      (λ (p : (i ≢ id) × (get_elem? l i ≡ some u)). ⊎_elim
      (λ (q : (j ≡ id) × (w ≡ x)). absurd (fresh i t u p.0 p.1 a (subst (λ (z : View E). HasTicket z.stage t) (sym q.1) b)))
      (λ (q : (j ≢ id) × (get_elem? l j ≡ some x)). distinct i j t u x p.1 q.1 a b) (at_set l id j w x gj))
      (at_set l id i w u gi)

  pub each_set : (K : View E → Type 0) → K w → ((j : ℕ) (u : View E) → j ≢ id → get_elem? l j ≡ some u → K u)
      → (j : ℕ) (u : View E) → get_elem? (set l id w) j ≡ some u → K u
  each_set K mine others j u g = ⊎_elim (λ (t : (j ≡ id) × (w ≡ u)). subst K t.1 mine)
      (λ (t : (j ≢ id) × (get_elem? l j ≡ some u)). others j u t.0 t.1) (at_set l id j w u g)

module _ {S E : Type 0} (entries : S → List E) (begins : E → Option ℕ) (seats : ℕ) (s : State S (View E)) (r : TurnRule entries begins seats s)
    (id : ℕ) (v w : View E) (here : get_elem? s.views id ≡ some v) where
  -- the view v becomes w, and the seat's roles stay
  pub changed : (words : List ℕ) (homes : List (maybe.Option S)) (d e : ℕ) (others : List ℕ) (log : List E)
      → words ≡ d % word_range ∷ e % word_range ∷ others → length homes ≡ 1 → d + tickets v + r.ended ≡ e + tickets w + r.drawn
      → length w.made ≡ length v.made → ((q : ℕ) → times q w.made ≡ times q v.made)
      → ((q : ℕ) → seats ≤ q → moves_of begins q log ≡ [])
      → IsTrue begins d e log w → ((j : ℕ) (u : View E) → j ≢ id → get_elem? s.views j ≡ some u → IsTrue begins d e log u)
      → ((j t : ℕ) (u : View E) → j ≢ id → get_elem? s.views j ≡ some u → HasTicket u.stage t → HasTicket w.stage t → ⊥)
      → Witnessed log (set s.views id w) → IsHome entries begins log homes ⊎ SomeServing (set s.views id w)
      → TurnRule entries begins seats record { words = words; homes = homes; views = set s.views id w }
  changed words homes d e others log is one balance same_roles same_times no_stranger mine each fresh witness home = record {
    drawn = d;
    ended = e;
    others = others;
    log = log;
    few_seats = r.few_seats;
    words = is;
    one_slot = one;
    waiting = let a = total_set tickets s.views id v w here in let b = r.waiting in omega arith;
    all_roles = let a = total_set roles s.views id v w here in let b = r.all_roles in omega arith;
    one_place = λ q l. (let a = total_set (places q) s.views id v w here in let b = r.one_place q l in let c = same_times q in omega arith);
    no_place = λ q l. (let a = total_set (places q) s.views id v w here in let b = r.no_place q l in let c = same_times q in omega arith);
    no_stranger = no_stranger;
    each = each_set s.views id w (IsTrue begins d e log) mine each;
    distinct = distinct_set s.views id w r.distinct fresh;
    witness = witness;
    home = home;
  }

module _ {S E : Type 0} (entries : S → List E) (begins : E → Option ℕ) (seats : ℕ) (s : State S (View E)) (r : TurnRule entries begins seats s)
    (id : ℕ) (v : View E) (here : get_elem? s.views id ≡ some v) where
  -- nothing changes but words of which the rule says nothing
  pub unchanged : (words others : List ℕ) → words ≡ r.drawn % word_range ∷ r.ended % word_range ∷ others
      → TurnRule entries begins seats record { words = words; homes = s.homes; views = set s.views id v }
  unchanged words others is = changed entries begins seats s r id v v here words s.homes r.drawn r.ended others r.log is r.one_slot (omega arith)
      refl (λ _. refl) r.no_stranger (r.each id v here) (λ j u _ g. r.each j u g)
      (λ j t u other g has now. other (r.distinct j id t u v g here has now))
      (witness_set s.views id v v here r.log (λ x. x) (λ x. x) r.witness)
      (⊎_elim (λ h. inl h) (λ b. inr (serving_set s.views id v v here (λ x. x) b)) r.home)
