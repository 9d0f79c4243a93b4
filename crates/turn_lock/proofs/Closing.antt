-- A seat that has all roles closes the table.
use Rattle.std.proofs.Common.{◌≡◌, ℕ, ◌<◌, List, length, sym, ap, ◌∙◌, subst, arith, ⊎_elim}
use mathlib.Core.Logic.{dite}
use mathlib.Core.Option.{some, some-injective}
use native.Mathlib.Decide.{ℕ_discrete}
use lib.ListN.{get_elem?}
use Rattle.std.specs.Prelude.{Option}
use Rattle.atomic_table.specs.Table.{State, Final, Seen}
use Rattle.atomic_table.specs.Seated.{TableId}
use Rattle.turn_lock.specs.declared.rule.View.{View}
use Rattle.turn_lock.specs.declared.rule.Stage.TheVariants.{Idle}
use Rattle.turn_lock.specs.Logs.{moves_of}
use Rattle.turn_lock.specs.Views.{roles, times, places}
use Rattle.turn_lock.specs.Rule.{IsServing, SomeServing, SeenAll, AreExact, IsHome, TurnRule}
use Rattle.turn_lock.specs.Passes.{pass_facts, Closes}
use Rattle.turn_lock.proofs.Sums.{total_at, total_two, total_all}
use Rattle.turn_lock.proofs.Roles.{times_few}
use Rattle.turn_lock.proofs.Queue.{serving_role}
use Rattle.turn_lock.proofs.SetView.{same_seat}

module _ {S E : Type 0} (entries : S → List E) (begins : E → Option ℕ) (seats : ℕ) (id : ℕ) (v : View E) (idle : v.stage ≡ Idle)
    (all : length v.made ≡ seats) (s : State S (View E)) (r : TurnRule entries begins seats s) (here : get_elem? s.views id ≡ some v) where
  -- no other seat has a role
  alone : (j : ℕ) (u : View E) → get_elem? s.views j ≡ some u → 0 < length u.made → j ≡ id
  alone j u g some_role = dite (ℕ_discrete j id) (λ same. same)
      (λ other. let two = total_two roles s.views id j v u other here g in let parts = r.all_roles in absurd (omega arith))

  at_home : IsHome entries begins r.log s.homes
  at_home = ⊎_elim (λ h. h) (λ (b : SomeServing s.views). let j : ℕ = b.0 in let u : View E = b.1 in
      let same = alone j u b.2 (serving_role r.drawn r.ended r.log u.seen (length u.made) u.stage b.3 (r.each j u b.2).queue) in
      absurd (subst IsServing idle (subst (λ (z : View E). IsServing z.stage) (same_seat s.views id v v here j u same b.2) b.3))) r.home

  seen_all : v.seen ≡ r.log
  seen_all = let j : ℕ = r.witness.0 in let u : View E = r.witness.1 in let g = r.witness.2 in
      let is : u ≡ v = same_seat s.views id v v here j u (alone j u g r.witness.3) g in
      subst (SeenAll r.log v.seen) idle (subst (λ (z : View E). SeenAll r.log z.seen z.stage) is r.witness.4)

  each_role : (q : ℕ) → q < seats → times q v.made ≡ 1
  each_role q low = let parts = r.all_roles in let one = r.one_place q low in let few = total_at (places q) s.views id v here in
      let all_here = total_all roles (places q) (λ u. times_few q u.made) s.views id v here (omega arith) in omega arith

module _ {S E : Type 0} (entries : S → List E) (begins : E → Option ℕ) (seats : ℕ) where
  pub closes : (lock : TableId) (id : ℕ) (v : View E) (words : List ℕ) (xs : List S) (y : S) → v.stage ≡ Idle → length v.made ≡ seats
      → Final (Seen (TurnRule entries begins seats) id v) words xs → get_elem? xs 0 ≡ some y
      → Closes begins seats (pass_facts lock v.seen v.made) (entries y)
  closes lock id v words xs y idle all last there = let s : State S (View E) = last.0 in let r = last.1.0 in let here = last.1.1 in
      let h = at_home entries begins seats id v idle all s r here in
      let same : h.0 ≡ y = some-injective h.0 y (sym (last.4 0 h.0 (ap (λ l. get_elem? l 0) h.1)) ∙ there) in
      let is : entries y ≡ r.log = ap entries (sym same) ∙ h.2 in (
        is ∙ sym (seen_all entries begins seats id v idle all s r here),
        subst (λ l. AreExact begins l v.made) (sym is) (r.each id v here).made,
        each_role entries begins seats id v idle all s r here,
        λ q le. ap (moves_of begins q) is ∙ r.no_stranger q le,
      )
