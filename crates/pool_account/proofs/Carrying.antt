-- What is carried before and after an entry.
use Rattle.std.proofs.Common.{◌≡◌, ℕ, ◌+◌, Bool, true, false, eqb, List, [], ◌∷◌, ◌++◌, refl, sym, ap, ◌∙◌, subst, arith, Some}
use Rattle.std.specs.Prelude.{flat_map}
use Rattle.std.proofs.lemmas.Bool.{and_parts}
use Rattle.std.proofs.lemmas.List.{append-nil}
use Rattle.std.proofs.lemmas.Grind.{flat_map-append}
use Rattle.nd_base.specs.declared.frame.FrameName.{FrameName}
use Rattle.pool_ledger.specs.GrantLaws.{SameBlocks}
use Rattle.pool_ledger.specs.Ledger.{Ledger, blocks}
use Rattle.flow_journal.specs.declared.entry.Entry.{Entry}
use Rattle.flow_journal.specs.declared.entry.Entry.TheVariants.{Load, Issue, Emit, Accept, Take, TakeBlock, PoolDrop, Put, SortDrop, Settle, Saved, Reclaim}
use Rattle.flow_journal.specs.Setting.{Setting}
use Rattle.flow_journal.specs.Pasts.{Past, frame}
use Rattle.flow_journal.specs.Hands.{hand}
use Rattle.flow_journal.specs.Rings.{ring}
use Rattle.flow_journal.specs.Accounts.{block_of, blocks_in_hand, refs}
use Rattle.flow_journal.specs.AccountLaws.{times_among, times_held, kept_at, keeps_counts, grants}
use Rattle.flow_journal.specs.Histories.{is_legal}
use Rattle.flow_journal.proofs.EntryCounts.{count-append}
use Rattle.flow_journal.proofs.AccountChanges.{block_laws, count_laws}
use Rattle.flow_journal.proofs.HeldChanges.{known_laws}
use Rattle.flow_journal.proofs.Kept.{kept_laws}
use Rattle.pool_account.specs.Account.{IsAccount}
use Rattle.pool_account.specs.EntryLaws.{ArrayLaws, PutLaws}

pub times-append : (b : ℕ) (xs ys : List ℕ) → times_among b (xs ++ ys) ≡ times_among b xs + times_among b ys
times-append b xs ys = count-append (λ c. eqb c b) xs ys

pub times-cons : (b c : ℕ) (xs : List ℕ) → times_among b (c ∷ xs) ≡ times_among b (c ∷ []) + times_among b xs
times-cons b c xs = times-append b (c ∷ []) xs

-- of one array
pub held-one : (P : Past) (b : ℕ) (a : FrameName) (bs : List ℕ) → block_of P a ≡ bs → times_held P b (a ∷ []) ≡ times_among b bs
held-one P b a bs is = ap (times_among b) (append-nil (block_of P a) ∙ is)

-- an entry that grants nothing: its places and what is carried then are what they were
moved : (s : Setting) (P : Past) (e : Entry) (p : Ledger) (carried others : List ℕ) → grants e ≡ false
    → ((b : ℕ) → refs s P b + times_among b carried ≡ refs s (e ∷ P) b + times_among b others) → IsAccount s P carried p → IsAccount s (e ∷ P) others p
moved s P e p carried others none moves a = record {
  limit = a.limit;
  same = subst (λ bs. SameBlocks bs (blocks p)) (sym (known_laws.others s e P none)) a.same;
  counts = λ b. a.counts b ∙ moves b;
  named = a.named;
}

-- the array of the entry loses a place
freed : (s : Setting) (P : Past) (e : Entry) (a : FrameName) (p : Ledger) (bs carried : List ℕ) → grants e ≡ false → block_of P a ≡ bs
    → ((b : ℕ) → refs s P b ≡ refs s (e ∷ P) b + times_held P b (a ∷ [])) → IsAccount s P carried p → IsAccount s (e ∷ P) (bs ++ carried) p
freed s P e a p bs carried none is counts =
    moved s P e p carried (bs ++ carried) none (λ b. omega (arith, counts b, held-one P b a bs is, times-append b bs carried))

unmoved : (e : Entry) → keeps_counts e ≡ true → grants e ≡ false
unmoved (Load r k b n f g x) h = sym h
unmoved (TakeBlock f x r v m k b n g) h = sym h
unmoved _ h = refl

pub array_laws : ArrayLaws
array_laws = record {
  accept =
      λ s P v m k p bs carried is h. moved s P (Accept v m k) p (bs ++ carried) carried refl
      (λ b. omega (arith, count_laws.accept s v m k P b h, held-one P b (frame m k) bs is, times-append b bs carried));
  issue = λ s P r k p bs carried is h. freed s P (Issue r k) (frame 0 k) p bs carried refl is (λ b. count_laws.issue s r k P b h);
  pool_drop =
      λ s P r v m k n z p bs carried is h. freed s P (PoolDrop r v m k n z) (frame m k) p bs carried refl is (λ b. count_laws.pool_drop s r v m k n z P b h);
  saved = λ s P r v m k p bs carried is h. freed s P (Saved r v m k) (frame m k) p bs carried refl is (λ b. count_laws.saved s r v m k P b h);
  sort_drop =
      λ s P v m k p bs carried sorted is h. freed s P (SortDrop v m k) (frame m k) p bs carried refl is (λ b. count_laws.sort_drop s v m k P b sorted h);
  emit_sorted =
      λ s P v m k why p bs carried sorted is h.
      freed s P (Emit v m k why) (frame m k) p bs carried refl is (λ b. count_laws.emit_sorted s v m k why P b sorted h);
  emit_unsorted =
      λ s P v m k why p carried plain h.
      moved s P (Emit v m k why) p carried carried refl (λ b. omega (arith, count_laws.emit_unsorted s v m k why P b plain h));
  settle =
      λ s P r v p carried h. moved s P (Settle r v) p carried (flat_map (block_of P) (ring s v P) ++ carried) refl
      (λ b. omega (arith, count_laws.settle s r v P b h, times-append b (flat_map (block_of P) (ring s v P)) carried));
  reclaim_load =
      λ s P r q k c n f g x p carried held h.
      moved s P (Reclaim r) p carried (c ∷ carried) refl (λ b. omega (arith, count_laws.reclaim_load s r q k c n f g x P b h held, times-cons b c carried));
  reclaim_block =
      λ s P r q v m k c n f g x p carried held h. moved s P (Reclaim r) p carried (c ∷ carried) refl
      (λ b. omega (arith, count_laws.reclaim_block s r q v m k c n f g x P b h held, times-cons b c carried));
  reclaim_other =
      λ s P r e p carried held none h. moved s P (Reclaim r) p carried carried refl (λ b. omega (arith, count_laws.reclaim_other s r e P b h held none));
  others = λ s P e p carried none h. moved s P e p carried carried (unmoved e none) (λ b. omega (arith, count_laws.others s e P b none h));
}

-- PUTS

-- what is carried after a put, and what the node keeps then, are what was in the hand, kept and carried before
abbrev Exchanged : Setting → Past → Entry → Entry → ℕ → (carried others : List ℕ) → Type 0
Exchanged s P e d v carried others =
    (b : ℕ)
    → times_among b others + times_held P b (kept_at s (d ∷ P) v) ≡ times_among b (blocks_in_hand P e) + times_held P b (kept_at s P v) + times_among b carried

exchanged : (s : Setting) (P : Past) (r v m k : ℕ) (f : Bool) (e : Entry) (p : Ledger) (carried others : List ℕ) → hand r P ≡ Some e
    → Exchanged s P e (Put r v m k f) v carried others → is_legal s (Put r v m k f ∷ P) ≡ true → IsAccount s P carried p
    → IsAccount s (Put r v m k f ∷ P) others p
exchanged s P r v m k f e p carried others held same h =
    moved s P (Put r v m k f) p carried others refl (λ b. omega (arith, count_laws.put s r v m k f e P b h held, same b))

parted : (b : ℕ) (others after taken before carried : List ℕ) → times_among b (others ++ after) ≡ times_among b (taken ++ before ++ carried)
    → times_among b others + times_among b after ≡ times_among b taken + times_among b before + times_among b carried
parted b others after taken before carried h =
    omega (arith, h, times-append b others after, times-append b (taken ++ before) carried, times-append b taken before)

-- at a node that keeps the result besides
pub held-more : (s : Setting) (P : Past) (r v m k : ℕ) (f : Bool) (b : ℕ) → kept_at s (Put r v m k f ∷ P) v ≡ kept_at s P v ++ frame m k ∷ []
    → times_held P b (kept_at s (Put r v m k f ∷ P) v) ≡ times_held P b (kept_at s P v) + times_held P b (frame m k ∷ [])
held-more s P r v m k f b more =
    ap (times_held P b) more ∙ ap (times_among b) (flat_map-append (block_of P) (kept_at s P v) (frame m k ∷ []))
    ∙ times-append b (flat_map (block_of P) (kept_at s P v)) (flat_map (block_of P) (frame m k ∷ []))

-- where that is the array of the hand
passed_on : (s : Setting) (P : Past) (r q v m k : ℕ) (f : Bool) (p : Ledger) (carried : List ℕ) → hand r P ≡ Some (Take q v m k)
    → kept_at s (Put r v m k f ∷ P) v ≡ kept_at s P v ++ frame m k ∷ [] → is_legal s (Put r v m k f ∷ P) ≡ true → IsAccount s P carried p
    → IsAccount s (Put r v m k f ∷ P) carried p
passed_on s P r q v m k f p carried held more =
    exchanged s P r v m k f (Take q v m k) p carried carried held
    (λ b. omega (arith, held-more s P r v m k f b more, held-one P b (frame m k) (block_of P (frame m k)) refl))

-- and where it was made of it
made : (s : Setting) (P : Past) (r q v m k b n : ℕ) (f : Bool) (g : ℕ) (x fired : Bool) (p : Ledger) (bs carried : List ℕ)
    → hand r P ≡ Some (TakeBlock f x q v m k b n g) → kept_at s (Put r v v k fired ∷ P) v ≡ kept_at s P v ++ frame v k ∷ [] → block_of P (frame m k) ≡ bs
    → is_legal s (Put r v v k fired ∷ P) ≡ true → IsAccount s P carried p → IsAccount s (Put r v v k fired ∷ P) (bs ++ carried) p
made s P r q v m k b n f g x fired p bs carried held more is h =
    let own : block_of P (frame v k) ≡ b ∷ [] = block_laws.in_hand_block s r q v m k b n f g x P (and_parts _ _ h).0 held in
    exchanged s P r v v k fired (TakeBlock f x q v m k b n g) p carried (bs ++ carried) held
    (λ c. omega (
      arith,
      held-more s P r v v k fired c more,
      held-one P c (frame v k) (b ∷ []) own,
      times-cons c b (block_of P (frame m k)),
      ap (times_among c) is,
      times-append c bs carried,
    )) h

-- at a node that keeps nothing
kept-none : (s : Setting) (P : Past) (v b : ℕ) → kept_at s P v ≡ [] → times_held P b (kept_at s P v) ≡ 0
kept-none s P v b none = ap (times_held P b) none

pub put_laws : PutLaws
put_laws = record {
  put =
      λ s P r v m k f e p carried others held same. exchanged s P r v m k f e p carried others held (λ b. parted b others
      (flat_map (block_of P) (kept_at s (Put r v m k f ∷ P) v)) (blocks_in_hand P e) (flat_map (block_of P) (kept_at s P v)) carried (same b));
  plain = λ s P r v m k f e p carried held makes plain. exchanged s P r v m k f e p carried (blocks_in_hand P e ++ carried) held
      (λ b. omega (
        arith,
        kept-none s P v b (kept_laws.unsorted s v P makes plain),
        kept-none s (Put r v m k f ∷ P) v b (kept_laws.unsorted s v (Put r v m k f ∷ P) makes plain),
        times-append b (blocks_in_hand P e) carried,
      ));
  sorted = λ s P r q v m k f p carried held sorted. passed_on s P r q v m k f p carried held (kept_laws.sorted s r v m k f P sorted);
  sorted_maker =
      λ s P r q v m k b n f g x fired p bs carried held sorted.
      made s P r q v m k b n f g x fired p bs carried held (kept_laws.sorted s r v v k fired P sorted);
  file = λ s P r q v m k f p carried held file h. passed_on s P r q v m k f p carried held (kept_laws.file s r v m k f P file (and_parts _ _ h).0) h;
  watched = λ s P r v m k f pre post preset e p carried others held work same. exchanged s P r v m k f e p carried others held
      (λ b. omega (
        arith,
        parted b others (flat_map (block_of P) (ring s v (Put r v m k f ∷ P))) (blocks_in_hand P e)
            (flat_map (block_of P) (ring s v P)) carried (same b),
        ap (times_held P b) (kept_laws.watched s v pre post preset P work),
        ap (times_held P b) (kept_laws.watched s v pre post preset (Put r v m k f ∷ P) work),
      ));
}
