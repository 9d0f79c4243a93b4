-- The table of legal moves, row by row, as facts.
use Rattle.std.proofs.Common.{◌≡◌, ◌≢◌, ℕ, ◌≤◌, ◌⊎◌, ◌↔◌, Bool, true, false, not, ◌&&◌, ◌||◌, eqb, ltb, leb, List, ◌∷◌, length, refl, sym, ap, ◌∙◌, subst}
use Rattle.std.proofs.Common.{Option, Some, None, inl, inr, cond}
use Rattle.std.specs.Prelude.{is_none}
use Rattle.std.specs.List.{list_any, list_all}
use Rattle.std.proofs.lemmas.Bool.{and_parts, and_from, false≢true, true≢false, eq-eqb, ne_eqb, eqb-true, cases_Bool, not-true, not_from_false, ltb-true}
use Rattle.std.proofs.lemmas.Bool.{lt-ltb, leb-true, le-leb}
use Rattle.std.proofs.lemmas.List.{nil_from_length}
use Rattle.nd_base.specs.declared.frame.FrameName.{FrameName}
use Rattle.pool_ledger.specs.Grants.{Answer, Granted, Refused, granted}
use Rattle.flow_journal.specs.declared.entry.Entry.{Entry}
use Rattle.flow_journal.specs.declared.entry.Entry.TheVariants.{Load, Tick, Emit, Accept, Full, Take, TakeBlock, SortDrop, Save, Reclaim}
use Rattle.flow_journal.specs.Setting.{Setting, node, is_node, children, last_role, is_role, is_maker}
use Rattle.flow_journal.specs.Pasts.{Past, frame, same, without}
use Rattle.flow_journal.specs.Hands.{takes_up, hands, hand, is_free, is_loaded, is_piece, jobs}
use Rattle.flow_journal.specs.Ended.{is_settled, is_closed, has_ended, has_left_any, has_left, was_reclaimed}
use Rattle.flow_journal.specs.Offered.{next_index}
use Rattle.flow_journal.specs.Queued.{queued, has_room}
use Rattle.flow_journal.specs.Unsaved.{unsaved, standing_saves, is_file, is_due, group_of}
use Rattle.flow_journal.specs.Accounts.{is_unplaced, known, held, grant}
use Rattle.flow_journal.specs.FirstEntries.{first, acts, has_loaded, may_load, is_next, may_take, both, is_granted, is_refused, regrown_fits, pool_refuses}
use Rattle.flow_journal.specs.FirstEntries.{pool_grants, is_load_of, is_result_of, is_piece_of, may_settle, may_save, may_close}
use Rattle.flow_journal.specs.RowFacts.{IsFirstOf, Acts, LoadFacts, GrantFacts, RefusalFacts, TakeFacts, HasLoaded, HasResult, HasPiece, SettleFacts}
use Rattle.flow_journal.specs.RowFacts.{PieceFacts, SaveFacts, CloseFacts, ReclaimFacts, AreZeros}
use Rattle.flow_journal.specs.RowLaws.{begins, TestLaws, RowLaws}
use Rattle.flow_journal.proofs.Steps.{same_refl, same-true, next_is}
use Rattle.flow_journal.proofs.Found.{found_up, some_hand, none_counted, none_any}

-- HANDS

pub none_is : {X : Type 0} (o : Option X) → is_none o ≡ true → o ≡ None
none_is None h = refl
none_is (Some x) h = absurd (false≢true h)

pub none-free : (r : ℕ) (P : Past) → hand r P ≡ None → is_free r P ≡ true
none-free r P h = ap is_none h

-- a hand is its role's
hand-up : (r : ℕ) (e : Entry) (P : Past) → hand r P ≡ Some e → takes_up r e ≡ true
hand-up r e P h = found_up (takes_up r) e (hands P) h

-- TESTS

pub next-first_of : (a : FrameName) (xs : List FrameName) → is_next a xs ≡ true → IsFirstOf a xs
next-first_of a xs h = (without a xs, next_is a xs h)

pub first_of-next : (a : FrameName) (xs : List FrameName) → IsFirstOf a xs → is_next a xs ≡ true
first_of-next a xs h = rw h.1 (same_refl a)

both-is : (a b : Bool) → both a b ≡ true → a ≡ b
both-is true b h = sym h
both-is false b h = sym (not-true b h)

is-both : (a b : Bool) → a ≡ b → both a b ≡ true
is-both true b h = sym h
is-both false b h = not_from_false b (sym h)

no_else : (a b : Bool) → (not a || b) ≡ true → a ≡ true → b ≡ true
no_else true b h e = h
no_else false b h e = absurd (false≢true e)

else-no : (a b : Bool) → (a ≡ true → b ≡ true) → (not a || b) ≡ true
else-no true b h = h refl
else-no false b h = refl

pub acts-facts : (s : Setting) (r : ℕ) (P : Past) → acts s r P ≡ true → Acts s r P
acts-facts s r P h =
    let p = and_parts (is_role s r && is_free r P) (eqb r (last_role s) || not (has_left_any P)) h in
    let q = and_parts (is_role s r) (is_free r P) p.0 in
    let stays : r ≢ last_role s → has_left_any P ≡ false = λ ne. not-true (has_left_any P) (rw (ne_eqb r (last_role s) ne) at p.1) in
    record { role = leb-true r (last_role s) q.0; free = none_is (hand r P) q.1; stays = stays }

pub acts-from : (s : Setting) (r : ℕ) (P : Past) → Acts s r P → acts s r P ≡ true
acts-from s r P f =
    let stays : (eqb r (last_role s) || not (has_left_any P)) ≡ true = elim (cases_Bool (eqb r (last_role s))) [
      | inl drain ↦ rw drain refl
      | inr worker ↦ rw (worker, f.stays (λ e. true≢false (sym (eq-eqb r (last_role s) e) ∙ worker))) refl
    ] in
    and_from _ _ (and_from _ _ (le-leb r (last_role s) f.role) (none-free r P f.free)) stays

pub load-facts : (s : Setting) (r k : ℕ) (P : Past) → may_load s r k P ≡ true → LoadFacts s r k P
load-facts s r k P h =
    let wait =
    and_parts (acts s r P && not (has_loaded P) && eqb k (next_index P) && ltb k (length s.ids)) (not s.wait || list_all (has_room s P) (children s 0)) h in
    let some = and_parts (acts s r P && not (has_loaded P) && eqb k (next_index P)) (ltb k (length s.ids)) wait.0 in
    let turn = and_parts (acts s r P && not (has_loaded P)) (eqb k (next_index P)) some.0 in
    let idle = and_parts (acts s r P) (not (has_loaded P)) turn.0 in
    record {
      acts = acts-facts s r P idle.0;
      unloaded = not-true _ idle.1;
      in_turn = eqb-true k (next_index P) turn.1;
      some = ltb-true k (length s.ids) some.1;
      room = no_else s.wait (list_all (has_room s P) (children s 0)) wait.1;
    }

pub load-from : (s : Setting) (r k : ℕ) (P : Past) → LoadFacts s r k P → may_load s r k P ≡ true
load-from s r k P f =
    and_from _ _ (and_from _ _ (and_from _ _ (and_from _ _ (acts-from s r P f.acts) (not_from_false _ f.unloaded)) (eq-eqb k (next_index P) f.in_turn))
    (lt-ltb k (length s.ids) f.some))
    (else-no s.wait (list_all (has_room s P) (children s 0)) f.room)

pub take-facts : (s : Setting) (r v : ℕ) (a : FrameName) (P : Past) → may_take s r v a P ≡ true → TakeFacts s r v a P
take-facts s r v a P h =
    let p = and_parts (acts s r P && not (is_settled v P) && is_next a (queued v P)) (ltb (jobs v P) (node s v).threads) h in
    let q = and_parts (acts s r P && not (is_settled v P)) (is_next a (queued v P)) p.0 in
    let o = and_parts (acts s r P) (not (is_settled v P)) q.0 in
    record { acts = acts-facts s r P o.0; unsettled = not-true _ o.1; front = next-first_of a _ q.1; room = ltb-true _ _ p.1 }

pub take-from : (s : Setting) (r v : ℕ) (a : FrameName) (P : Past) → TakeFacts s r v a P → may_take s r v a P ≡ true
take-from s r v a P f =
    and_from _ _ (and_from _ _ (and_from _ _ (acts-from s r P f.acts) (not_from_false _ f.unsettled)) (first_of-next a (queued v P) f.front))
    (lt-ltb _ _ f.room)

-- the array that is taken is at the front
pub taken_front : (s : Setting) (r v : ℕ) (a : FrameName) (P : Past) → may_take s r v a P ≡ true → queued v P ≡ a ∷ without a (queued v P)
taken_front s r v a P h = next_is a (queued v P) (first_of-next a (queued v P) (take-facts s r v a P h).front)

pub settle-facts : (s : Setting) (v : ℕ) (P : Past) → may_settle s v P ≡ true → SettleFacts s v P
settle-facts s v P h =
    let p = and_parts (is_node s v && not (is_settled v P) && has_ended (node s v).input P && eqb (length (queued v P)) 0) (eqb (jobs v P) 0) h in
    let q = and_parts (is_node s v && not (is_settled v P) && has_ended (node s v).input P) (eqb (length (queued v P)) 0) p.0 in
    let o = and_parts (is_node s v && not (is_settled v P)) (has_ended (node s v).input P) q.0 in
    let n = and_parts (is_node s v) (not (is_settled v P)) o.0 in
    let m = and_parts (ltb 0 v) (leb v (length s.nodes)) n.0 in
    record {
      above = ltb-true 0 v m.0;
      known = leb-true v (length s.nodes) m.1;
      unsettled = not-true _ n.1;
      input = o.1;
      empty = nil_from_length (queued v P) (eqb-true _ 0 q.1);
      idle = eqb-true (jobs v P) 0 p.1;
    }

pub settle-from : (s : Setting) (v : ℕ) (P : Past) → SettleFacts s v P → may_settle s v P ≡ true
settle-from s v P f =
    and_from _ _
    (and_from _ _ (and_from _ _ (and_from _ _ (and_from _ _ (lt-ltb 0 v f.above) (le-leb v (length s.nodes) f.known)) (not_from_false _ f.unsettled)) f.input)
    (rw f.empty refl)) (eq-eqb (jobs v P) 0 f.idle)

pub piece-facts : (s : Setting) (v : ℕ) (a : FrameName) (P : Past) → may_save s v a P ≡ true → PieceFacts s v a P
piece-facts s v a P h =
    let p = and_parts (is_file (node s v).work && is_next a (unsaved s v P) && is_due (node s v).work v P) (not (list_any (is_piece v) (hands P))) h in
    let q = and_parts (is_file (node s v).work && is_next a (unsaved s v P)) (is_due (node s v).work v P) p.0 in
    let o = and_parts (is_file (node s v).work) (is_next a (unsaved s v P)) q.0 in
    record { file = o.0; front = next-first_of a (unsaved s v P) o.1; due = q.1; none = not-true _ p.1 }

pub piece-from : (s : Setting) (v : ℕ) (a : FrameName) (P : Past) → PieceFacts s v a P → may_save s v a P ≡ true
piece-from s v a P f =
    and_from _ _ (and_from _ _ (and_from _ _ f.file (first_of-next a (unsaved s v P) f.front)) f.due) (not_from_false _ f.none)

pub close-facts : (s : Setting) (P : Past) → may_close s P ≡ true → CloseFacts s P
close-facts s P h =
    let p = and_parts (not (is_closed P) && eqb (next_index P) (length s.ids)) (not (has_loaded P)) h in
    let q = and_parts (not (is_closed P)) (eqb (next_index P) (length s.ids)) p.0 in
    record { open_ = not-true _ q.0; offered = eqb-true (next_index P) (length s.ids) q.1; unloaded = not-true _ p.1 }

pub close-from : (s : Setting) (P : Past) → CloseFacts s P → may_close s P ≡ true
close-from s P f =
    and_from _ _ (and_from _ _ (not_from_false _ f.open_) (eq-eqb (next_index P) (length s.ids) f.offered)) (not_from_false _ f.unloaded)

-- GRANTS

granted-facts : (b n : ℕ) (f : Bool) (g : ℕ) (o : Answer) → is_granted b n f g o ≡ true → o ≡ Granted b n f g
granted-facts b n f g Refused h = absurd (false≢true h)
granted-facts b n f g (Granted c m d e) h =
    let p = and_parts (eqb b c && eqb n m && both d f) (eqb g e) h in
    let q = and_parts (eqb b c && eqb n m) (both d f) p.0 in
    let o = and_parts (eqb b c) (eqb n m) q.0 in
    rw (eqb-true b c o.0, eqb-true n m o.1, both-is d f q.1, eqb-true g e p.1) refl

granted-from : (b n : ℕ) (f : Bool) (g : ℕ) → is_granted b n f g (Granted b n f g) ≡ true
granted-from b n f g = and_from _ _ (and_from _ _ (and_from _ _ (eq-eqb b b refl) (eq-eqb n n refl)) (is-both f f refl)) (eq-eqb g g refl)

refused-facts : (o : Answer) → is_refused o ≡ true → o ≡ Refused
refused-facts Refused h = refl
refused-facts (Granted b n f g) h = absurd (false≢true h)

pub grant-facts : (s : Setting) (m b n : ℕ) (f : Bool) (g : ℕ) (x : Bool) (P : Past) → pool_grants s m b n f g x P ≡ true → GrantFacts s m b n f g x P
grant-facts s m b n f g x P h =
    let p = and_parts (is_granted b n f g (grant s P (s.need m))) (regrown_fits s f x) h in
    let fits : x ≡ true → (s.pooled && not f) ≡ true = no_else x (s.pooled && not f) p.1 in
    record {
      answer = granted-facts b n f g (grant s P (s.need m)) p.0;
      accounted = λ e. (and_parts s.pooled (not f) (fits e)).0;
      stale = λ e. not-true f (and_parts s.pooled (not f) (fits e)).1;
    }

pub grant-from : (s : Setting) (m b n : ℕ) (f : Bool) (g : ℕ) (x : Bool) (P : Past) → GrantFacts s m b n f g x P → pool_grants s m b n f g x P ≡ true
grant-from s m b n f g x P t =
    and_from _ _ (ap (is_granted b n f g) t.answer ∙ granted-from b n f g)
    (else-no x (s.pooled && not f) (λ e. and_from _ _ (t.accounted e) (not_from_false f (t.stale e))))

-- without a pool
zeros : (s : Setting) (m : ℕ) (P : Past) → s.pooled ≡ false → grant s P (s.need m) ≡ Granted 0 0 false 0
zeros s m P off = ap (λ (c : Bool). cond c (granted s.limit (s.need m) (held s P) (is_unplaced s P) (known s P)) (Granted 0 0 false 0)) off

zeros-facts : (s : Setting) (m b n : ℕ) (f : Bool) (g : ℕ) (x : Bool) (P : Past) → s.pooled ≡ false → GrantFacts s m b n f g x P → AreZeros b n f g x
zeros-facts s m b n f g x P off t =
    let is : Granted 0 0 false 0 ≡ Granted b n f g = sym (zeros s m P off) ∙ t.answer in
    record { block = cc; size = cc; fresh = cc; given = cc; regrown = no_regrown x (λ e. true≢false (sym (t.accounted e) ∙ off)) }
  where
    no_regrown : (x : Bool) → x ≢ true → x ≡ false
    no_regrown true ne = absurd (ne refl)
    no_regrown false ne = refl

zeros-from : (s : Setting) (m b n : ℕ) (f : Bool) (g : ℕ) (x : Bool) (P : Past) → s.pooled ≡ false → AreZeros b n f g x → GrantFacts s m b n f g x P
zeros-from s m b n f g x P off z = record {
  answer = zeros s m P off ∙ rw (z.block, z.size, z.fresh, z.given) refl;
  accounted = λ e. absurd (true≢false (sym e ∙ z.regrown));
  stale = λ e. z.fresh;
}

pub refusal-facts : (s : Setting) (m n h : ℕ) (P : Past) → pool_refuses s m n h P ≡ true → RefusalFacts s m n h P
refusal-facts s m n z P h =
    let p = and_parts (is_refused (grant s P (s.need m)) && eqb n (s.need m)) (eqb z (held s P)) h in
    let q = and_parts (is_refused (grant s P (s.need m))) (eqb n (s.need m)) p.0 in
    record { answer = refused-facts (grant s P (s.need m)) q.0; need = eqb-true n (s.need m) q.1; holds = eqb-true z (held s P) p.1 }

pub refusal-from : (s : Setting) (m n h : ℕ) (P : Past) → RefusalFacts s m n h P → pool_refuses s m n h P ≡ true
refusal-from s m n z P t =
    and_from _ _ (and_from _ _ (ap is_refused t.answer) (eq-eqb n (s.need m) t.need)) (eq-eqb z (held s P) t.holds)

-- WHAT IS IN HAND

loaded_is : (k : ℕ) (o : Option Entry) → is_load_of k o ≡ true → (q b n : ℕ) × (f : Bool) × (g : ℕ) × (x : Bool) × (o ≡ Some (Load q k b n f g x))
loaded_is k None h = absurd (false≢true h)
loaded_is k (Some (Load q j b n f g x)) h = (q, b, n, f, g, x, ap (λ (i : ℕ). Some (Load q i b n f g x)) (eqb-true j k h))
loaded_is k (Some _) h = absurd (false≢true h)

loaded-facts : (r k : ℕ) (P : Past) → is_load_of k (hand r P) ≡ true → HasLoaded r k P
loaded-facts r k P h =
    let l = loaded_is k (hand r P) h in
    let own : l.0 ≡ r = eqb-true l.0 r (hand-up r (Load l.0 k l.1 l.2 l.3 l.4 l.5) P l.6) in
    (l.1, l.2, l.3, l.4, l.5, subst (λ (q : ℕ). hand r P ≡ Some (Load q k l.1 l.2 l.3 l.4 l.5)) own l.6)

loaded-from : (r k : ℕ) (P : Past) → HasLoaded r k P → is_load_of k (hand r P) ≡ true
loaded-from r k P l = ap (is_load_of k) l.5 ∙ eq-eqb k k refl

-- a job of v with the result a, whoever has it
abbrev IsResult : ℕ → FrameName → Option Entry → Type 0
IsResult v a o =
    ((q : ℕ) × (o ≡ Some (Take q v a.maker a.index)))
    ⊎ ((a.maker ≡ v) × ((q m b n : ℕ) × (f : Bool) × (g : ℕ) × (x : Bool) × (o ≡ Some (TakeBlock f x q v m a.index b n g))))

result_is : (v : ℕ) (a : FrameName) (o : Option Entry) → is_result_of v a o ≡ true → IsResult v a o
result_is v a None h = absurd (false≢true h)
result_is v a (Some (Take q w m k)) h =
    let p = and_parts (eqb w v) (same a (frame m k)) h in
    let e = same-true a (frame m k) p.1 in
    inl (q, rw (eqb-true w v p.0, e) refl)
result_is v a (Some (TakeBlock f x q w m k b n g)) h =
    let p = and_parts (eqb w v) (same a (frame v k)) h in
    let e = same-true a (frame v k) p.1 in
    inr (ap (λ (c : FrameName). c.maker) e, (q, m, b, n, f, g, x, rw (eqb-true w v p.0, e) refl))
result_is v a (Some _) h = absurd (false≢true h)

result-facts : (r v m k : ℕ) (P : Past) → is_result_of v (frame m k) (hand r P) ≡ true → HasResult r v m k P
result-facts r v m k P h =
    elim (result_is v (frame m k) (hand r P) h) [
      | inl t ↦
          let own : t.0 ≡ r = eqb-true t.0 r (hand-up r (Take t.0 v m k) P t.1) in
          inl (subst (λ (q : ℕ). hand r P ≡ Some (Take q v m k)) own t.1)
      | inr t ↦
          let j = t.1 in
          let own : j.0 ≡ r = eqb-true j.0 r (hand-up r (TakeBlock j.4 j.6 j.0 v j.1 k j.2 j.3 j.5) P j.7) in
          inr (t.0, (j.1, j.2, j.3, j.4, j.5, j.6, subst (λ (q : ℕ). hand r P ≡ Some (TakeBlock j.4 j.6 q v j.1 k j.2 j.3 j.5)) own j.7))
    ]

result-from : (r v m k : ℕ) (P : Past) → HasResult r v m k P → is_result_of v (frame m k) (hand r P) ≡ true
result-from r v m k P (inl t) = ap (is_result_of v (frame m k)) t ∙ and_from _ _ (eq-eqb v v refl) (same_refl (frame m k))
result-from r v m k P (inr t) = ap (is_result_of v (frame m k)) t.1.6 ∙ and_from _ _ (eq-eqb v v refl) (and_from _ _ (eq-eqb m v t.0) (eq-eqb k k refl))

piece_is : (v : ℕ) (a : FrameName) (o : Option Entry) → is_piece_of v a o ≡ true → (q g : ℕ) × (o ≡ Some (Save q v a.maker a.index g))
piece_is v a None h = absurd (false≢true h)
piece_is v a (Some (Save q w m k g)) h =
    let p = and_parts (eqb w v) (same a (frame m k)) h in
    let e = same-true a (frame m k) p.1 in
    (q, g, rw (eqb-true w v p.0, e) refl)
piece_is v a (Some _) h = absurd (false≢true h)

held_piece-facts : (r v m k : ℕ) (P : Past) → is_piece_of v (frame m k) (hand r P) ≡ true → HasPiece r v m k P
held_piece-facts r v m k P h =
    let t = piece_is v (frame m k) (hand r P) h in
    let own : t.0 ≡ r = eqb-true t.0 r (hand-up r (Save t.0 v m k t.1) P t.2) in
    (t.1, subst (λ (q : ℕ). hand r P ≡ Some (Save q v m k t.1)) own t.2)

held_piece-from : (r v m k : ℕ) (P : Past) → HasPiece r v m k P → is_piece_of v (frame m k) (hand r P) ≡ true
held_piece-from r v m k P t = ap (is_piece_of v (frame m k)) t.1 ∙ and_from _ _ (eq-eqb v v refl) (same_refl (frame m k))

-- THE LAWS

pub test_laws : TestLaws
test_laws = record {
  acts = λ s r P. (acts-facts s r P, acts-from s r P);
  load = λ s r k P. (load-facts s r k P, load-from s r k P);
  take = λ s r v a P. (take-facts s r v a P, take-from s r v a P);
  settle = λ s v P. (settle-facts s v P, settle-from s v P);
  save = λ s v a P. (piece-facts s v a P, piece-from s v a P);
  close = λ s P. (close-facts s P, close-from s P);
  grants = λ s m b n f g x P. (grant-facts s m b n f g x P, grant-from s m b n f g x P);
  unpooled = λ s m b n f g x P off. (zeros-facts s m b n f g x P off, zeros-from s m b n f g x P off);
  refuses = λ s m n h P. (refusal-facts s m n h P, refusal-from s m n h P);
  room = λ s P v. (ltb-true _ _, lt-ltb _ _);
  loaded = λ P. (none_counted is_loaded (hands P), none_any is_loaded (hands P));
  pieces = λ v P. (none_counted (is_piece v) (hands P), none_any (is_piece v) (hands P));
}

pub save-facts : (s : Setting) (r v m k g : ℕ) (P : Past) → first s P (Save r v m k g) ≡ true → SaveFacts s r v (frame m k) g P
save-facts s r v m k g P h =
    let p = and_parts (is_role s r && is_free r P && may_save s v (frame m k) P) (eqb g (group_of (node s v).work (length (standing_saves v P)))) h in
    let q = and_parts (is_role s r && is_free r P) (may_save s v (frame m k) P) p.0 in
    let o = and_parts (is_role s r) (is_free r P) q.0 in
    record { role = leb-true r (last_role s) o.0; free = none_is (hand r P) o.1; piece = piece-facts s v (frame m k) P q.1; group = eqb-true _ _ p.1 }

pub save-from : (s : Setting) (r v m k g : ℕ) (P : Past) → SaveFacts s r v (frame m k) g P → first s P (Save r v m k g) ≡ true
save-from s r v m k g P f =
    and_from _ _ (and_from _ _ (and_from _ _ (le-leb r (last_role s) f.role) (none-free r P f.free)) (piece-from s v (frame m k) P f.piece))
    (eq-eqb _ _ f.group)

reclaim_row : (s : Setting) (P : Past) (r : ℕ) → (first s P (Reclaim r) ≡ true) ↔ ReclaimFacts s r P
reclaim_row s P r = (
  (λ h.
      let p = and_parts (not (is_free r P) && not (eqb r (last_role s))) (not (was_reclaimed r P)) h in
      let q = and_parts (not (is_free r P)) (not (eqb r (last_role s))) p.0 in
      record {
        holds = some_hand (hand r P) (not-true _ q.0);
        worker = λ e. true≢false (sym (eq-eqb r (last_role s) e) ∙ not-true _ q.1);
        once = not-true _ p.1;
      }),
  (λ f. and_from _ _ (and_from _ _ (not_from_false _ (ap is_none f.holds.1)) (not_from_false _ (ne_eqb r (last_role s) f.worker))) (not_from_false _ f.once)),
)

taking_row : (s : Setting) (r v m k : ℕ) (P : Past) (b : Bool) (X : Type 0) → ((b ≡ true) ↔ X)
    → ((may_take s r v (frame m k) P && is_maker s v && b) ≡ true) ↔ (TakeFacts s r v (frame m k) P × (is_maker s v ≡ true) × X)
taking_row s r v m k P b X e = (
  (λ h.
      let p = and_parts (may_take s r v (frame m k) P && is_maker s v) b h in
      let q = and_parts (may_take s r v (frame m k) P) (is_maker s v) p.0 in
      (take-facts s r v (frame m k) P q.0, q.1, e.0 p.1)),
  (λ f. and_from _ _ (and_from _ _ (take-from s r v (frame m k) P f.0) f.1) (e.1 f.2)),
)

and_row : (a b : Bool) (X Y : Type 0) → ((a ≡ true) ↔ X) → ((b ≡ true) ↔ Y) → ((a && b) ≡ true) ↔ (X × Y)
and_row a b X Y e d = ((λ h. let p = and_parts a b h in (e.0 p.0, d.0 p.1)), (λ f. and_from a b (e.1 f.0) (d.1 f.1)))

not_row : (a : Bool) → (not a ≡ true) ↔ (a ≡ false)
not_row a = (not-true a, not_from_false a)

role_row : (s : Setting) (r : ℕ) → (is_role s r ≡ true) ↔ (r ≤ last_role s)
role_row s r = (leb-true r (last_role s), le-leb r (last_role s))

no_others : (s : Setting) (P : Past) (e : Entry) → begins e ≡ false → first s P e ≡ false
no_others s P (Tick t) h = refl
no_others s P (Emit v m k why) h = refl
no_others s P (Accept v m k) h = refl
no_others s P (Full v m k) h = refl
no_others s P (SortDrop v m k) h = refl
no_others s P _ h = absurd (true≢false h)

pub row_laws : RowLaws
row_laws = record {
  load = λ s P r k b n f g x. and_row _ _ _ _ (test_laws.load s r k P) (test_laws.grants s 0 b n f g x P);
  load_refused = λ s P r k n h. and_row _ _ _ _ (test_laws.load s r k P) (test_laws.refuses s 0 n h P);
  issue = λ s P r k. (loaded-facts r k P, loaded-from r k P);
  take = λ s P r v m k. and_row _ _ _ _ (test_laws.take s r v (frame m k) P) (not_row (is_maker s v));
  take_block = λ s P r v m k b n f g x. taking_row s r v m k P _ _ (test_laws.grants s v b n f g x P);
  pool_drop = λ s P r v m k n h. taking_row s r v m k P _ _ (test_laws.refuses s v n h P);
  put = λ s P r v m k f. and_row _ _ _ _ (result-facts r v m k P, result-from r v m k P) (both-is f _, is-both f _);
  settle = λ s P r v. and_row _ _ _ _ (role_row s r) (test_laws.settle s v P);
  save = λ s P r v m k g. (save-facts s r v m k g P, save-from s r v m k g P);
  saved = λ s P r v m k. (held_piece-facts r v m k P, held_piece-from r v m k P);
  close = λ s P r. and_row _ _ _ _ (role_row s r) (test_laws.close s P);
  leave = λ s P r. and_row _ _ _ _ (role_row s r) (not_row (has_left r P));
  reclaim = reclaim_row;
  no_others = no_others;
}
