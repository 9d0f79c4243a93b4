-- The laws of an account.
use Rattle.std.proofs.Common.{◌≡◌, ◌≢◌, ℕ, ◌+◌, ◌-◌, ◌≤◌, ◌<◌, Bool, true, false, ◌&&◌, eqb, ltb, List, [], ◌∷◌, ◌++◌, length, refl, sym, ap, ◌∙◌, subst}
use Rattle.std.proofs.Common.{arith, inl, inr, mul-le-mul}
use Rattle.std.specs.Prelude.{filter, reverse, take, sum_by}
use Rattle.std.specs.List.{list_all}
use Rattle.std.proofs.lemmas.Bool.{and_parts, eq-eqb, ne_eqb, eqb-false, cases_eq, cond-true}
use Rattle.std.proofs.lemmas.List.{length-map}
use Rattle.std.proofs.lemmas.List.Folds.{list_all-map}
use Rattle.std.proofs.lemmas.List.Sums.{sum_by-cons}
use Rattle.std.proofs.lemmas.List.Sorted.{sum_by-IsPermutation}
use Rattle.pool_ledger.specs.Grants.{Block, Granted, sizes, has_number, granted, free_in_order, largest_free, known_after}
use Rattle.pool_ledger.specs.GrantLaws.{SameBlocks, same_none, same_trans, filter-same, sizes-same, free_in_order-same, granted-same}
use Rattle.pool_ledger.specs.Ledger.{Ledger, block_of, blocks, numbers, is_free, largest_first, grant_for, with_refs, after}
use Rattle.pool_ledger.specs.Ledger as ledger
use Rattle.pool_ledger.specs.LedgerLaws.{blocks-with_refs, refs-with_refs_other, refs-with_refs_same, after-known}
use Rattle.flow_journal.specs.declared.entry.Entry.{Entry}
use Rattle.flow_journal.specs.declared.entry.Entry.TheVariants.{Load, TakeBlock}
use Rattle.flow_journal.specs.Setting.{Setting, is_maker}
use Rattle.flow_journal.specs.Pasts.{Past, frame}
use Rattle.flow_journal.specs.Accounts.{refs, is_unplaced, known, held, grant}
use Rattle.flow_journal.specs.AccountLaws.{times_among}
use Rattle.flow_journal.specs.LengthLaws.{threads}
use Rattle.flow_journal.specs.FirstEntries.{first, may_load, may_take, pool_grants}
use Rattle.flow_journal.specs.Histories.{is_legal}
use Rattle.flow_journal.proofs.EntryCounts.{bit, count-cons}
use Rattle.flow_journal.proofs.Grants.{free_block, all_free, all_reverse, all_take, granted-known}
use Rattle.flow_journal.proofs.Hands.{row_of}
use Rattle.flow_journal.proofs.Rows.{grant-facts}
use Rattle.flow_journal.proofs.HeldChanges.{known_laws}
use Rattle.flow_journal.proofs.AccountChanges.{count_laws}
use Rattle.flow_journal.proofs.Places.{load-unplaced, take-unplaced}
use Rattle.flow_journal.proofs.Lengths.{length_laws}
use Rattle.pool_account.specs.Account.{IsAccount, SameTimes, all_named}
use Rattle.pool_account.specs.TellLaws.{TellLaws}
use Rattle.pool_account.specs.HoldLaws.{HoldLaws}
use Rattle.pool_account.specs.EntryLaws.{GrantLaws}
use Rattle.pool_account.proofs.Carrying.{times-append, times-cons}
pub use Rattle.pool_account.proofs.Carrying.{array_laws, put_laws}
use Rattle.pool_account.proofs.Ledgers.{length-same, apart-same, known_after-same, held-is, after-holds, one-among}
use Rattle.pool_account.proofs.Bounds.{known-few, none-placed, few-times, refs-few}

-- HOLDS

-- the block has so many holds then
recounted : (s : Setting) (P : Past) (b n : ℕ) (p : Ledger) (carried others : List ℕ) → 0 < ledger.refs p b → n ≡ refs s P b + times_among b others
    → ((c : ℕ) → c ≢ b → times_among c carried ≡ times_among c others) → IsAccount s P carried p → IsAccount s P others (with_refs b n p)
recounted s P b n p carried others some own same a = record {
  limit = a.limit;
  same = subst (SameBlocks (known s P)) (sym (blocks-with_refs b n p)) a.same;
  counts = λ c. elim (cases_eq c b) [
    | inl is ↦ subst (λ k. ledger.refs (with_refs b n p) k ≡ refs s P k + times_among k others) (sym is) (refs-with_refs_same b n p some ∙ own)
    | inr ne ↦ refs-with_refs_other b n c p ne ∙ (a.counts c ∙ ap (λ k. refs s P c + k) (same c ne))
  ];
  named = a.named;
}

times-other : (c b : ℕ) (bs : List ℕ) → c ≢ b → times_among c (b ∷ bs) ≡ times_among c bs
times-other c b bs ne = omega (arith, times-cons c b bs, one-among c b, ap bit (ne_eqb b c (λ e. ne (sym e))))

times-itself : (b : ℕ) (bs : List ℕ) → times_among b (b ∷ bs) ≡ times_among b bs + 1
times-itself b bs = omega (arith, times-cons b b bs, one-among b b, ap bit (eq-eqb b b refl))

recarried : (s : Setting) (P : Past) (p : Ledger) (carried others : List ℕ) → SameTimes carried others → IsAccount s P carried p → IsAccount s P others p
recarried s P p carried others same a = record { limit = a.limit; same = a.same; counts = λ b. a.counts b ∙ ap (λ k. refs s P b + k) (same b); named = a.named }

drop : (s : Setting) (P : Past) (b : ℕ) (p : Ledger) (carried : List ℕ) → IsAccount s P (b ∷ carried) p
    → IsAccount s P carried (with_refs b (ledger.refs p b - 1) p)
drop s P b p carried a =
    let holds : ledger.refs p b ≡ refs s P b + times_among b carried + 1 = omega (arith, a.counts b, times-itself b carried) in
    recounted s P b (ledger.refs p b - 1) p (b ∷ carried) carried (omega (arith, holds)) (omega (arith, holds)) (λ c ne. times-other c b carried ne) a

to_front : (b : ℕ) (front back : List ℕ) → SameTimes (front ++ b ∷ back) (b ∷ (front ++ back))
to_front b front back c = omega (arith, times-append c front (b ∷ back), times-cons c b back, times-cons c b (front ++ back), times-append c front back)

times-sum : (b : ℕ) (bs : List ℕ) → times_among b bs ≡ sum_by (λ c. bit (eqb c b)) bs
times-sum b [] = refl
times-sum b (c ∷ bs) = omega (arith, count-cons (λ k. eqb k b) c bs, times-sum b bs, sum_by-cons (λ k. bit (eqb k b)) c bs)

pub hold_laws : HoldLaws
hold_laws = record {
  start = λ s room. record { limit = refl; same = same_none; counts = λ b. omega (arith, none-placed s b); named = refl };
  room = λ s P room p carried a. record { limit = a.limit; same = a.same; counts = a.counts; named = a.named };
  hold =
      λ s P b p carried some a. recounted s P b (ledger.refs p b + 1) p carried (b ∷ carried) some (omega (arith, a.counts b, times-itself b carried))
      (λ c ne. sym (times-other c b carried ne)) a;
  drop = drop;
  drop_inside = λ s P b p front back a. drop s P b p (front ++ back) (recarried s P p (front ++ b ∷ back) (b ∷ (front ++ back)) (to_front b front back) a);
  counted = recarried;
  permuted =
      λ s P p carried others same. recarried s P p carried others
      (λ b. times-sum b carried ∙ (sym (sum_by-IsPermutation (λ c. bit (eqb c b)) carried others same) ∙ sym (times-sum b others)));
}

-- WHAT IT TELLS

free : (s : Setting) (P : Past) (p : Ledger) → IsAccount s P [] p → is_free p ≡ is_unplaced s P
free s P p a = λ i b. eqb (holds b i) 0
  where
    holds : (b : ℕ) → ledger.refs p b ≡ refs s P b
    holds b = omega (arith, a.counts b)

held_told : (s : Setting) (P : Past) (p : Ledger) → is_legal s P ≡ true → IsAccount s P [] p → ledger.held p ≡ held s P
held_told s P p h a =
    held-is p (apart-same a.same (λ b. known_laws.numbers s b P h))
    ∙ (sym (sizes-same (filter-same (λ (b : Block). ltb 0 (ledger.refs p b.number)) a.same))
    ∙ ap (λ (counts : ℕ → ℕ). sizes (filter (λ (b : Block). ltb 0 (counts b.number)) (known s P))) (λ i b. holds b i))
  where
    holds : (b : ℕ) → ledger.refs p b ≡ refs s P b
    holds b = omega (arith, a.counts b)

granted_told : (s : Setting) (P : Past) (n : ℕ) (p : Ledger) → s.pooled ≡ true → is_legal s P ≡ true → IsAccount s P [] p → grant_for n p ≡ grant s P n
granted_told s P n p pooled h a =
    ap (λ l. granted l n (ledger.held p) (is_free p) (blocks p)) a.limit
    ∙ (ap (λ k. granted s.limit n k (is_free p) (blocks p)) (held_told s P p h a)
    ∙ (ap (λ t. granted s.limit n (held s P) t (blocks p)) (free s P p a)
    ∙ (sym (granted-same s.limit n (held s P) (is_unplaced s P) a.same)
    ∙ sym (cond-true s.pooled (granted s.limit n (held s P) (is_unplaced s P) (known s P)) (Granted 0 0 false 0) pooled))))

largest-same : (s : Setting) (P : Past) (g : ℕ) (p : Ledger) → IsAccount s P [] p → take g (largest_first p) ≡ largest_free g (is_unplaced s P) (known s P)
largest-same s P g p a =
    ap (λ t. take g (reverse (free_in_order t (blocks p)))) (free s P p a) ∙ ap (λ bs. take g (reverse bs)) (sym (free_in_order-same (is_unplaced s P) a.same))

given : (s : Setting) (P : Past) (b n g : ℕ) (p : Ledger) → IsAccount s P [] p
    → (after p (Granted b n true g)).unnamed ≡ numbers (largest_free g (is_unplaced s P) (known s P))
given s P b n g p a = ap (λ us. us ++ numbers (take g (largest_first p))) a.named ∙ ap numbers (largest-same s P g p a)

given_unplaced : (s : Setting) (P : Past) (b n : ℕ) (f : Bool) (g : ℕ) (p : Ledger) → IsAccount s P [] p
    → list_all (is_unplaced s P) (after p (Granted b n f g)).unnamed ≡ true
given_unplaced s P b n false g p a = ap (list_all (is_unplaced s P)) a.named
given_unplaced s P b n true g p a =
    let t : ℕ → Bool = is_unplaced s P in
    ap (list_all t) (given s P b n g p a)
    ∙ (list_all-map t (λ (c : Block). c.number) (largest_free g t (known s P))
    ∙ all_take (free_block t) g (reverse (free_in_order t (known s P))) (all_reverse (free_block t) (free_in_order t (known s P)) (all_free t (known s P))))

few_known : (s : Setting) (P : Past) (p : Ledger) (carried : List ℕ) → IsAccount s P carried p → length p.known ≤ length P
few_known s P p carried a = omega (arith, length-map p.known block_of, length-same a.same, known-few s P)

few_holds : (s : Setting) (P : Past) (b : ℕ) (p : Ledger) (carried : List ℕ) → is_legal s P ≡ true → IsAccount s P carried p
    → ledger.refs p b ≤ length P + length carried
few_holds s P b p carried h a = omega (arith, a.counts b, refs-few s P b h, few-times b carried)

-- the log is short
short : (s : Setting) (P : Past) → length s.ids ≤ 65536 → length s.nodes ≤ 32 → threads s ≤ 64 → is_legal s P ≡ true → length P ≤ 11000000
short s P frames nodes roles h = omega (arith, frames, length_laws.within_limits s P nodes roles h, mul-le-mul frames nodes)

pub tell_laws : TellLaws
tell_laws = record {
  grants = granted_told;
  held = held_told;
  free = λ s P b p a. ap (λ (t : ℕ → Bool). t b) (free s P p a);
  given = given;
  given_unplaced = given_unplaced;
  carried = λ s P b p carried some a. omega (arith, a.counts b, some);
  placed = λ s P b p carried some a. let ne : refs s P b ≢ 0 = eqb-false (refs s P b) 0 some in omega (arith, a.counts b, ne);
  last = λ s P b p carried one a. eq-eqb (refs s P b) 0 (omega (arith, one, a.counts b, times-itself b carried));
  last_carried = λ s P b p carried one a. omega (arith, one, a.counts b, times-itself b carried);
  not_last =
      λ s P b p carried more once a. let ne : refs s P b ≢ 0 = λ none. more (omega (arith, none, once, a.counts b, times-itself b carried)) in
      ne_eqb (refs s P b) 0 ne;
  few_known = few_known;
  few_holds = few_holds;
  known_fit = λ s P p carried frames nodes roles h a. omega (arith, few_known s P p carried a, short s P frames nodes roles h);
  holds_fit = λ s P b p carried frames nodes roles few h a. omega (arith, few_holds s P b p carried h a, few, short s P frames nodes roles h);
}

-- GRANTS

by_grant : (s : Setting) (m b n : ℕ) (f : Bool) (g : ℕ) (x : Bool) (e : Entry) (P : Past) (p : Ledger) → s.pooled ≡ true → is_legal s P ≡ true
    → pool_grants s m b n f g x P ≡ true → refs s P b ≡ 0 → known s (e ∷ P) ≡ known_after (is_unplaced s P) (Granted b n f g) (known s P)
    → ((c : ℕ) → refs s (e ∷ P) c ≡ refs s P c + times_among c (b ∷ [])) → IsAccount s P [] p → IsAccount s (e ∷ P) [] (all_named (after p (Granted b n f g)))
by_grant s m b n f g x e P p pooled legal h none knows more a = record {
  limit = limit_stays f;
  same = same_trans (known s (e ∷ P)) (known_after (is_free p) (Granted b n f g) (blocks p)) (blocks (after p (Granted b n f g)))
      (subst (λ bs. SameBlocks bs (known_after (is_free p) (Granted b n f g) (blocks p)))
      (sym (knows ∙ ap (λ t. known_after t (Granted b n f g) (known s P)) (sym (free s P p a)))) (known_after-same (is_free p) (Granted b n f g) a.same))
      (after-known p (Granted b n f g));
  counts = λ c. omega (arith, after-holds p b n f g c (omega (arith, a.counts b, none)) there, more c, a.counts c);
  named = refl;
}
  where
    limit_stays : (f : Bool) → (after p (Granted b n f g)).limit ≡ s.limit
    limit_stays false = a.limit
    limit_stays true = a.limit

    answer : grant_for (s.need m) p ≡ Granted b n f g
    answer = granted_told s P (s.need m) p pooled legal a ∙ (grant-facts s m b n f g x P h).answer

    there : has_number b (known_after (is_free p) (Granted b n f g) (blocks p)) ≡ true
    there = granted-known p.limit (s.need m) (ledger.held p) b n f g (is_free p) (blocks p) answer

pub grant_laws : GrantLaws
grant_laws = record {
  load = λ s P r k b n f g x p pooled h a.
      let row : first s P (Load r k b n f g x) ≡ true = row_of s (Load r k b n f g x) P (λ d. refl) h in
      let legal : is_legal s P ≡ true = (and_parts _ _ h).0 in
      by_grant s 0 b n f g x (Load r k b n f g x) P p pooled legal (and_parts (may_load s r k P) (pool_grants s 0 b n f g x P) row).1
      (load-unplaced s P r k b n f g x pooled legal row) refl (λ c. count_laws.load s r k b n f g x P c h) a;
  take_block = λ s P r v m k b n f g x p pooled h a.
      let row : first s P (TakeBlock f x r v m k b n g) ≡ true = row_of s (TakeBlock f x r v m k b n g) P (λ d. refl) h in
      let legal : is_legal s P ≡ true = (and_parts _ _ h).0 in
      by_grant s v b n f g x (TakeBlock f x r v m k b n g) P p pooled legal
      (and_parts (may_take s r v (frame m k) P && is_maker s v) (pool_grants s v b n f g x P) row).1
      (take-unplaced s P r v m k b n f g x pooled legal row) refl (λ c. count_laws.take_block s r v m k b n f g x P c h) a;
}
