-- Each array at a place stands on a block, and so does each that is owed.
use Rattle.std.proofs.Common.{◌≡◌, ◌⊎◌, ◌∙◌, ℕ, true, false, Bool, ◌||◌, List, [], ◌∷◌, Some, length, refl, sym, ap, arith, inl, inr}
use Rattle.std.proofs.lemmas.Bool.{cases_Bool, true≢false, false≢true, and_parts}
use Rattle.nd_base.specs.declared.frame.FrameName.{FrameName}
use Rattle.flow_journal.specs.declared.entry.Entry.{Entry}
use Rattle.flow_journal.specs.declared.entry.Entry.TheVariants.{Load, Emit, Accept, Take, TakeBlock, SortDrop, Save, Reclaim}
use Rattle.flow_journal.specs.Setting.{Setting}
use Rattle.flow_journal.specs.Pasts.{Past, frame, same}
use Rattle.flow_journal.specs.Hands.{takes_up, hands, hand}
use Rattle.flow_journal.specs.Queued.{queued}
use Rattle.flow_journal.specs.Waiting.{waiting}
use Rattle.flow_journal.specs.Rings.{ring}
use Rattle.flow_journal.specs.Unsaved.{unsaved}
use Rattle.flow_journal.specs.Accounts.{block_of}
use Rattle.flow_journal.specs.Having.{HasBlock}
use Rattle.flow_journal.specs.Following.{owed}
use Rattle.flow_journal.specs.Histories.{is_legal}
use Rattle.flow_journal.proofs.EntryCounts.{count, bit, count-cons}
use Rattle.flow_journal.proofs.Outs.{waits}
use Rattle.flow_journal.proofs.Found.{found_up}
use Rattle.flow_journal.proofs.Travels.{Clear, clear-start, clear-more, holds, carries, bit-none}
use Rattle.flow_journal.proofs.Making.{is_frame, one_fails, reclaimed-nowhere, untaken-again}
use Rattle.flow_journal.proofs.AccountChanges.{block_laws}
use Rattle.flow_journal.proofs.Jobs.{reclaim_hand}
use Rattle.flow_journal.proofs.Steps.{same_refl}

abbrev pub is_empty : List ℕ → Bool
is_empty [] = true
is_empty (b ∷ bs) = false

-- the frame has no block
abbrev pub is_blockless : Past → FrameName → Bool
is_blockless P a = is_empty (block_of P a)

none_of_two : {X : Type 0} (t u w : X → Bool) → ((x : X) → t x ≡ false → u x ≡ false → w x ≡ false) → (xs : List X)
    → count t xs ≡ 0 → count u xs ≡ 0 → count w xs ≡ 0
none_of_two t u w both [] h k = refl
none_of_two t u w both (x ∷ xs) h k =
    let a = count-cons t x xs in
    let b = count-cons u x xs in
    let here : w x ≡ false = both x (bit-none (t x) (omega (arith, a, h))) (bit-none (u x) (omega (arith, b, k))) in
    let rest = none_of_two t u w both xs (omega (arith, a, h)) (omega (arith, b, k)) in
    omega (arith, count-cons w x xs, ap bit here, rest)

or-false : (a b : Bool) → (a || b) ≡ false → (a ≡ false) × (b ≡ false)
or-false false b h = (refl, h)
or-false true b h = absurd (true≢false h)

holds-two : (t u w : FrameName → Bool) → ((a : FrameName) → t a ≡ false → u a ≡ false → w a ≡ false) → (e : Entry) → holds t e ≡ false
    → holds u e ≡ false → holds w e ≡ false
holds-two t u w both (Load r k b n f g x) h j = both (frame 0 k) h j
holds-two t u w both (Take r v m k) h j = both (frame m k) h j
holds-two t u w both (TakeBlock f x r v m k b n g) h j =
    let p = or-false (t (frame v k)) (t (frame m k)) h in
    let q = or-false (u (frame v k)) (u (frame m k)) j in
    let first : w (frame v k) ≡ false = both (frame v k) p.0 q.0 in
    rw first (both (frame m k) p.1 q.1)
holds-two t u w both (Save r v m k g) h j = both (frame m k) h j
holds-two t u w both _ h j = refl

carries-two : (t u w : FrameName → Bool) → ((a : FrameName) → t a ≡ false → u a ≡ false → w a ≡ false) → (e : Entry) → carries t e ≡ false
    → carries u e ≡ false → carries w e ≡ false
carries-two t u w both (Emit v m k why) h j = both (frame m k) h j
carries-two t u w both (Accept v m k) h j = both (frame m k) h j
carries-two t u w both (SortDrop v m k) h j = both (frame m k) h j
carries-two t u w both _ h j = refl

clear-two : (t u w : FrameName → Bool) (s : Setting) (P : Past) → ((a : FrameName) → t a ≡ false → u a ≡ false → w a ≡ false)
    → Clear t s P → Clear u s P → Clear w s P
clear-two t u w s P both c d =
    record {
      queues = λ v. none_of_two t u w both (queued v P) (c.queues v) (d.queues v);
      lists = λ v. none_of_two (waits t) (waits u) (waits w) (λ x. both x.array) (waiting s v P) (c.lists v) (d.lists v);
      rings = λ v. none_of_two t u w both (ring s v P) (c.rings v) (d.rings v);
      files = λ v. none_of_two t u w both (unsaved s v P) (c.files v) (d.files v);
      roles = none_of_two (holds t) (holds u) (holds w) (holds-two t u w both) (hands P) c.roles d.roles;
      calls = none_of_two (carries t) (carries u) (carries w) (carries-two t u w both) (owed s P) c.calls d.calls;
    }

-- each array at a place, and each that is owed, has one
pub none_blockless : (s : Setting) (P : Past) → is_legal s P ≡ true → Clear (is_blockless P) s P
none_blockless s [] h = clear-start (is_blockless []) (is_blockless []) s
none_blockless s (Load r k b n f g x ∷ P) h =
    let legal : is_legal s P ≡ true = (and_parts _ _ h).0 in
    let e : Entry = Load r k b n f g x in
    let c = none_blockless s P legal in
    let t : FrameName → Bool = is_blockless (e ∷ P) in
    let more : (a : FrameName) → is_blockless P a ≡ false → is_blockless P a ≡ false → t a ≡ false =
    λ a some _. kept-some a (cases_Bool (same a (frame 0 k))) some in
    clear-more t s e P h (one_fails t (frame 0 k) made) (clear-two (is_blockless P) (is_blockless P) t s P more c c) where
      made : is_blockless (Load r k b n f g x ∷ P) (frame 0 k) ≡ false
      made = rw (same_refl (frame 0 k)) refl

      kept-some : (a : FrameName) → (same a (frame 0 k) ≡ true) ⊎ (same a (frame 0 k) ≡ false) → is_blockless P a ≡ false
          → is_blockless (Load r k b n f g x ∷ P) a ≡ false
      kept-some a (inl this) some = rw this refl
      kept-some a (inr other) some = ap is_empty (block_laws.load_other r k b n f g x P a other) ∙ some
none_blockless s (TakeBlock f x r v m k b n g ∷ P) h =
    let legal : is_legal s P ≡ true = (and_parts _ _ h).0 in
    let e : Entry = TakeBlock f x r v m k b n g in
    let c = none_blockless s P legal in
    let t : FrameName → Bool = is_blockless (e ∷ P) in
    let more : (a : FrameName) → is_blockless P a ≡ false → is_blockless P a ≡ false → t a ≡ false =
    λ a some _. kept-some a (cases_Bool (same a (frame v k))) some in
    clear-more t s e P h (one_fails t (frame v k) made) (clear-two (is_blockless P) (is_blockless P) t s P more c c) where
      made : is_blockless (TakeBlock f x r v m k b n g ∷ P) (frame v k) ≡ false
      made = rw (same_refl (frame v k)) refl

      kept-some : (a : FrameName) → (same a (frame v k) ≡ true) ⊎ (same a (frame v k) ≡ false) → is_blockless P a ≡ false
          → is_blockless (TakeBlock f x r v m k b n g ∷ P) a ≡ false
      kept-some a (inl this) some = rw this refl
      kept-some a (inr other) some = ap is_empty (block_laws.take_block_other r v m k b n f g x P a other) ∙ some
none_blockless s (Reclaim r ∷ P) h =
    let legal : is_legal s P ≡ true = (and_parts _ _ h).0 in
    let c = none_blockless s P legal in
    let after : Clear (is_blockless P) s (Reclaim r ∷ P) = clear-more (is_blockless P) s (Reclaim r) P h refl c in
    let held = reclaim_hand s r P h in
    by held.0 held.1 after where
      by : (d : Entry) → hand r P ≡ Some d → Clear (is_blockless P) s (Reclaim r ∷ P) → Clear (is_blockless (Reclaim r ∷ P)) s (Reclaim r ∷ P)
      by (Load q k b n f g x) held after =
          let legal : is_legal s P ≡ true = (and_parts _ _ h).0 in
          clear-two (is_blockless P) (is_frame (frame 0 k)) (is_blockless (Reclaim r ∷ P)) s (Reclaim r ∷ P) (λ a some other. ap is_empty
          (block_laws.reclaim_load s r q k b n f g x P a legal held other) ∙ some) after (reclaimed-nowhere s r q k b n f g x P h held)
      by (TakeBlock f x q v m k b n g) held after =
          let legal : is_legal s P ≡ true = (and_parts _ _ h).0 in
          clear-two (is_blockless P) (is_frame (frame v k)) (is_blockless (Reclaim r ∷ P)) s (Reclaim r ∷ P) (λ a some other. ap is_empty
          (block_laws.reclaim_block s r q v m k b n f g x P a legal held other) ∙ some) after (untaken-again s r q v m k b n f g x P h held)
      by (Reclaim q) held after = absurd (false≢true (found_up (takes_up r) (Reclaim q) (hands P) held))
      by d held after =
          let legal : is_legal s P ≡ true = (and_parts _ _ h).0 in
          clear-two (is_blockless P) (is_blockless P) (is_blockless (Reclaim r ∷ P)) s
          (Reclaim r ∷ P) (λ a some _. ap is_empty (block_laws.reclaim_other s r d P a legal held refl) ∙ some) after after
none_blockless s (e ∷ P) h = clear-more (is_blockless P) s e P h refl (none_blockless s P (and_parts _ _ h).0)

-- one block
pub one-block : (P : Past) (a : FrameName) → is_blockless P a ≡ false → HasBlock P a
one-block P a some = by (block_of P a) refl where
  by : (bs : List ℕ) → block_of P a ≡ bs → HasBlock P a
  by [] is = absurd (true≢false (sym (ap is_empty is) ∙ some))
  by (b ∷ []) is = (b, is)
  by (b ∷ c ∷ bs) is = absurd (omega (arith, block_laws.one P a, ap length is))
