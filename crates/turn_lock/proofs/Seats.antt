-- The table opens, a seat is split, two seats are joined.
use Rattle.std.proofs.Common.{◌≡◌, ◌≢◌, ℕ, zero, suc, ◌<◌, List, [], ◌∷◌, ◌++◌, length, get_or, set, sym, refl, ap, ◌∙◌, subst, arith, length-append, inl}
use Rattle.std.proofs.Common.{inr, ⊎_elim}
use mathlib.Core.Logic.{dite}
use mathlib.Core.Option.{some, none, some-injective, some-ne-none}
use native.Mathlib.Decide.{ℕ_discrete}
use lib.ListN.{get_elem?}
use Rattle.std.specs.Prelude.{Option}
use Rattle.atomic_table.specs.Table.{State, Me, step, keeps, opening, Splits, Joins, Allows}
use Rattle.atomic_table.proofs.Lists.{set_else, at_longer, at_snoc}
use Rattle.turn_lock.specs.declared.rule.View.{View}
use Rattle.turn_lock.specs.declared.rule.Stage.TheVariants.{Idle}
use Rattle.turn_lock.specs.Views.{held, tickets, roles, places, first_view, first_role, other_roles, joined, settled, spent}
use Rattle.turn_lock.specs.Rule.{HasTicket, IsServing, Distinct, SomeServing, SeenAll, Witnessed, IsTrue, TurnRule}
use Rattle.turn_lock.specs.Steps.{Settles}
use Rattle.turn_lock.proofs.Prefixes.{prefix_none, longer_is, longer_all}
use Rattle.turn_lock.proofs.Growth.{exact_append, exact_take, exact_drop}
use Rattle.turn_lock.proofs.Sums.{total_set, total_snoc, total_at}
use Rattle.turn_lock.proofs.Roles.{times_append, times_cut, length_cut, length_first, times_inside, times_outside, length_unused, exact_unused}
use Rattle.turn_lock.proofs.SetView.{set_at, same_seat, serving_set, witness_set, distinct_set, each_set, changed}

module _ {E : Type 0} where
  only : (w : View E) (j : ℕ) (v : View E) → get_elem? (w ∷ []) j ≡ some v → w ≡ v
  only w zero v g = some-injective w v g
  only w (suc j) v g = absurd (some-ne-none v (sym g))

  serving_snoc : (l : List (View E)) (w : View E) → SomeServing l → SomeServing (l ++ w ∷ [])
  serving_snoc l w (j, u, g, is) = (j, u, at_longer l (w ∷ []) j u g, is)

  witness_snoc : (log : List E) (l : List (View E)) (w : View E) → Witnessed log l → Witnessed log (l ++ w ∷ [])
  witness_snoc log l w (j, u, g, has, all) = (j, u, at_longer l (w ∷ []) j u g, has, all)

  distinct_snoc : (l : List (View E)) (w : View E) → Distinct l → w.stage ≡ Idle → Distinct (l ++ w ∷ [])
  distinct_snoc l w distinct idle i j t u x gi gj a b = ⊎_elim
      (λ p. ⊎_elim (λ q. distinct i j t u x p q a b)
      (λ (q : w ≡ x). absurd (subst (λ z. HasTicket z t) (ap (λ (z : View E). z.stage) (sym q) ∙ idle) b)) (at_snoc l w x j gj))
      (λ (p : w ≡ u). absurd (subst (λ z. HasTicket z t) (ap (λ (z : View E). z.stage) (sym p) ∙ idle) a)) (at_snoc l w u i gi)

  -- where the seat that is spent has seen all, the seat that took it in was told so
  witness_join : (log : List E) (l : List (View E)) (id other : ℕ) (v u : View E)
      → get_elem? l id ≡ some (joined v u) → other ≢ id → get_elem? l other ≡ some u → u.stage ≡ Idle
      → Witnessed log l → Witnessed log (set l other spent)
  witness_join log l id other v u here apart there idle (j, x, g, has, all) = dite (ℕ_discrete j other)
      (λ same. let is : x ≡ u = same_seat l other u u there j x same g in
      let has' : 0 < length u.made = subst (λ (z : View E). 0 < length z.made) is has in let n = length-append v.made u.made in (
        id,
        joined v u,
        set_else l other id spent (λ e. apart (sym e)) ∙ here,
        omega arith,
        inr (subst (SeenAll log u.seen) idle (subst (λ (z : View E). SeenAll log z.seen z.stage) is all)),
      ))
      (λ differs. (j, x, set_else l other j spent differs ∙ g, has, all))

module _ {S E : Type 0} (entries : S → List E) (begins : E → Option ℕ) (seats : ℕ) where
  abbrev Rule : State S (View E) → Type 0
  Rule = TurnRule entries begins seats

  pub opens : (others : List ℕ) (x : S) → 0 < seats → seats < 4294967296 → entries x ≡ [] → Rule (opening (0 ∷ 0 ∷ others) (x ∷ []) (first_view seats))
  opens others x some_seat few empty = record {
    drawn = 0;
    ended = 0;
    others = others;
    log = [];
    few_seats = few;
    words = refl;
    one_slot = refl;
    waiting = refl;
    all_roles = (let a = length_unused E 0 seats in omega arith);
    one_place = λ r l. (let a = times_inside E r 0 seats (omega arith) (omega arith) in omega arith);
    no_place = λ r l. (let a = times_outside E r 0 seats (inr (omega arith)) in omega arith);
    no_stranger = λ r l. refl;
    each = λ j v g. subst (IsTrue begins 0 0 []) (only (first_view seats) j v g)
        record { queue = tt; seen = prefix_none []; made = exact_unused begins 0 seats };
    distinct = λ i j t v w gi gj a b. absurd (subst (λ (z : View E). HasTicket z.stage t) (sym (only (first_view seats) i v gi)) a);
    witness = (0, first_view seats, refl, (let a = length_unused E 0 seats in omega arith), refl);
    home = inl (x, refl, empty);
  }

  pub splits : (id : ℕ) (v : View E) → v.stage ≡ Idle → Splits Rule id v (first_role v) (other_roles v)
  splits id v idle s r here = let d : ℕ = r.drawn in let e : ℕ = r.ended in let w : View E = first_role v in let u : View E = other_roles v in
      let vs : List (View E) = set s.views id w in let known = r.each id v here in let none_held : tickets v ≡ 0 = ap held idle in
      let K : View E → Type 0 = IsTrue begins d e r.log in
      let first : K w = record { queue = tt; seen = known.seen; made = exact_take begins r.log v.made known.made } in
      let others : K u = record { queue = tt; seen = known.seen; made = exact_drop begins r.log v.made known.made } in record {
        drawn = d;
        ended = e;
        others = r.others;
        log = r.log;
        few_seats = r.few_seats;
        words = r.words;
        one_slot = r.one_slot;
        waiting = (let a = total_set tickets s.views id v w here in let b = total_snoc tickets vs u in let c = r.waiting in omega arith);
        all_roles = (let a = total_set roles s.views id v w here in let b = total_snoc roles vs u in let c = r.all_roles in
            let cut = length_cut v.made in omega arith);
        one_place = λ q l. (let a = total_set (places q) s.views id v w here in let b = total_snoc (places q) vs u in
            let c = r.one_place q l in let cut = times_cut q v.made in omega arith);
        no_place = λ q l. (let a = total_set (places q) s.views id v w here in let b = total_snoc (places q) vs u in
            let c = r.no_place q l in let cut = times_cut q v.made in omega arith);
        no_stranger = r.no_stranger;
        each = λ j x g. ⊎_elim (λ h. each_set s.views id w K first (λ k y _ gk. r.each k y gk) j x h) (λ (h : u ≡ x). subst K h others) (at_snoc vs u x j g);
        distinct = distinct_snoc vs u (distinct_set s.views id w r.distinct (λ j t y _ _ _ now. now)) refl;
        witness = witness_snoc r.log vs u
            (witness_set s.views id v w here r.log (length_first v.made) (λ all. subst (SeenAll r.log v.seen) idle all) r.witness);
        home = ⊎_elim (λ h. inl h) (λ b. inr (serving_snoc vs u (serving_set s.views id v w here (λ is. absurd (subst IsServing idle is)) b))) r.home;
      }

  pub joins : (id : ℕ) (v : View E) (other : ℕ) (u : View E) → v.stage ≡ Idle → u.stage ≡ Idle → Joins Rule id v other u (joined v u) spent
  joins id v other u idle idle' s r here apart there = let d : ℕ = r.drawn in let e : ℕ = r.ended in let w : View E = joined v u in
      let vs : List (View E) = set s.views id w in let known = r.each id v here in
      let known' = r.each other u (sym (set_else s.views id other w apart) ∙ there) in
      let K : View E → Type 0 = IsTrue begins d e r.log in let none_held : tickets v ≡ 0 = ap held idle in let none_held' : tickets u ≡ 0 = ap held idle' in
      let both : K w = record { queue = known'.seen; seen = known.seen; made = exact_append begins r.log v.made u.made known.made known'.made } in
      let nothing : K spent = record { queue = tt; seen = prefix_none r.log; made = tt } in
      let n = length-append v.made u.made in record {
        drawn = d;
        ended = e;
        others = r.others;
        log = r.log;
        few_seats = r.few_seats;
        words = r.words;
        one_slot = r.one_slot;
        waiting = (let a = total_set tickets s.views id v w here in let b = total_set tickets vs other u spent there in let c = r.waiting in omega arith);
        all_roles = (let a = total_set roles s.views id v w here in let b = total_set roles vs other u spent there in let c = r.all_roles in omega arith);
        one_place = λ q l. (let a = total_set (places q) s.views id v w here in let b = total_set (places q) vs other u spent there in
            let c = r.one_place q l in let cut = times_append q v.made u.made in omega arith);
        no_place = λ q l. (let a = total_set (places q) s.views id v w here in let b = total_set (places q) vs other u spent there in
            let c = r.no_place q l in let cut = times_append q v.made u.made in omega arith);
        no_stranger = r.no_stranger;
        each = λ j x g. each_set vs other spent K nothing (λ j x _ g. each_set s.views id w K both (λ k y _ gk. r.each k y gk) j x g) j x g;
        distinct = distinct_set vs other spent (distinct_set s.views id w r.distinct (λ j t y _ _ _ now. now)) (λ j t y _ _ _ now. now);
        witness = witness_join r.log vs id other v u (set_at s.views id v w here) apart there idle'
            (witness_set s.views id v w here r.log (λ some_role. omega arith) (λ all. inl (subst (SeenAll r.log v.seen) idle all)) r.witness);
        home = ⊎_elim (λ h. inl h) (λ b. inr (serving_set vs other u spent there (λ is. absurd (subst IsServing idle' is))
            (serving_set s.views id v w here (λ is. absurd (subst IsServing idle is)) b))) r.home;
      }

  -- after a join, the longer prefix
  pub settles : (slots id : ℕ) (v u : View E) → Allows Rule slots id (joined v u, []) 0 (λ n. n) (Settles (step slots 0 0 0 none) (joined v u, []))
  settles slots id v0 u s r _ here _ = let v : View E = joined v0 u in let w : View E = settled u.seen v in let known = r.each id v here in
      let long = longer_is v.seen u.seen r.log known.seen known.queue in let few : seats < 4294967296 = r.few_seats in
      let some_of = total_at roles s.views id v here in let all = r.all_roles in (
        w,
        keeps,
        tt,
        changed entries begins seats s r id v w here (set s.words 0 (get_or s.words 0 0)) s.homes r.drawn r.ended r.others r.log
            (ap (λ (l : List ℕ). set l 0 (get_or l 0 0)) r.words) r.one_slot (omega arith) refl (λ _. refl) r.no_stranger
            record { queue = tt; seen = long.0; made = known.made } (λ j u _ g. r.each j u g) (λ j k u _ g has now. now)
            (witness_set s.views id v w here r.log (λ x. x) (λ whole. longer_all v.seen u.seen r.log known.seen known.queue whole) r.witness)
            (⊎_elim (λ h. inl h) (λ b. inr (serving_set s.views id v w here (λ is. is) b)) r.home),
        (refl, omega arith, long.1, long.2),
      )

  pub settles_joined : (slots id : ℕ) (v u : View E) (me : Me S (View E)) → me ≡ (joined v u, [])
      → Allows Rule slots id me 0 (λ n. n) (Settles (step slots 0 0 0 none) me)
  settles_joined slots id v u me is =
      subst (λ (m : Me S (View E)). Allows Rule slots id m 0 (λ n. n) (Settles (step slots 0 0 0 none) m)) (sym is) (settles slots id v u)
