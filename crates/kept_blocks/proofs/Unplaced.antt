-- A frame on a block without a place is nowhere, and what a place has is on a known block.
use Rattle.std.proofs.Common.{◌≡◌, ℕ, Bool, true, false, ◌||◌, List, [], ◌∷◌, refl, sym, ap, ◌∙◌, arith, inl, inr}
use Rattle.std.specs.Prelude.{flat_map}
use Rattle.std.specs.List.{list_any}
use Rattle.std.proofs.lemmas.Bool.{true≢false, eq-eqb, cases_Bool, or_parts, or_from}
use Rattle.nd_base.specs.declared.frame.FrameName.{FrameName}
use Rattle.flow_journal.specs.declared.entry.Entry.{Entry}
use Rattle.flow_journal.specs.declared.entry.Entry.TheVariants.{Load, Emit, Accept, Take, TakeBlock, SortDrop, Save}
use Rattle.flow_journal.specs.Setting.{Setting, node_numbers}
use Rattle.flow_journal.specs.Pasts.{Past, frame, same}
use Rattle.flow_journal.specs.Hands.{hands}
use Rattle.flow_journal.specs.Queued.{queued}
use Rattle.flow_journal.specs.Waiting.{waiting}
use Rattle.flow_journal.specs.Rings.{ring}
use Rattle.flow_journal.specs.Unsaved.{unsaved}
use Rattle.flow_journal.specs.Accounts.{block_of, blocks_in_hand, arrays_at, places, refs}
use Rattle.flow_journal.specs.Following.{owed}
use Rattle.flow_journal.specs.Histories.{is_legal}
use Rattle.flow_journal.proofs.Steps.{same-true}
use Rattle.flow_journal.proofs.EntryCounts.{count, bit, count-cons}
use Rattle.flow_journal.proofs.Offers.{is_number}
use Rattle.flow_journal.proofs.Outs.{waits}
use Rattle.flow_journal.proofs.Travels.{bit-none, holds, carries, Clear}
use Rattle.flow_journal.proofs.Making.{is_frame}
use Rattle.flow_journal.proofs.FrameBlocks.{has, any-append, any-flat, hands-blocks}
use Rattle.flow_journal.proofs.Found.{none_counted, none_any}
use Rattle.flow_journal.proofs.Places.{is_numbered, AtNode, at_none, at_some, any_at}

-- what fails the first test fails the second
fewer : {X : Type 0} (t w : X → Bool) → ((x : X) → t x ≡ false → w x ≡ false) → (xs : List X) → count t xs ≡ 0 → count w xs ≡ 0
fewer t w only [] h = refl
fewer t w only (x ∷ xs) h =
    let n = bit-none (t x) (omega (arith, count-cons t x xs, h)) in
    omega (arith, count-cons w x xs, ap bit (only x n), fewer t w only xs (omega (arith, count-cons t x xs, h)))

holds-fewer : (t w : FrameName → Bool) → ((a : FrameName) → t a ≡ false → w a ≡ false) → (e : Entry) → holds t e ≡ false → holds w e ≡ false
holds-fewer t w only (Load r k b n f g x) h = only (frame 0 k) h
holds-fewer t w only (Take r v m k) h = only (frame m k) h
holds-fewer t w only (TakeBlock f x r v m k b n g) h =
    let p = or_parts (t (frame v k)) (t (frame m k)) h in
    or_from (w (frame v k)) (w (frame m k)) (only (frame v k) p.0) (only (frame m k) p.1)
holds-fewer t w only (Save r v m k g) h = only (frame m k) h
holds-fewer t w only _ h = refl

carries-fewer : (t w : FrameName → Bool) → ((a : FrameName) → t a ≡ false → w a ≡ false) → (e : Entry) → carries t e ≡ false → carries w e ≡ false
carries-fewer t w only (Emit v m k why) h = only (frame m k) h
carries-fewer t w only (Accept v m k) h = only (frame m k) h
carries-fewer t w only (SortDrop v m k) h = only (frame m k) h
carries-fewer t w only _ h = refl

pub clear-fewer : (t w : FrameName → Bool) (s : Setting) (P : Past) → ((a : FrameName) → t a ≡ false → w a ≡ false) → Clear t s P → Clear w s P
clear-fewer t w s P only c = record {
  queues = λ v. fewer t w only (queued v P) (c.queues v);
  lists = λ v. fewer (waits t) (waits w) (λ x. only x.array) (waiting s v P) (c.lists v);
  rings = λ v. fewer t w only (ring s v P) (c.rings v);
  files = λ v. fewer t w only (unsaved s v P) (c.files v);
  roles = fewer (holds t) (holds w) (holds-fewer t w only) (hands P) c.roles;
  calls = fewer (carries t) (carries w) (carries-fewer t w only) (owed s P) c.calls;
}

-- NO PLACE

-- where no place has a block that passes, and nothing is owed, no place has an array whose block does
pub from-places : (s : Setting) (q : ℕ → Bool) (P : Past) → is_legal s P ≡ true → owed s P ≡ [] → list_any q (places s P) ≡ false → Clear (has q P) s P
from-places s q P h still none =
    let t : FrameName → Bool = has q P in
    let p =
    or_parts (list_any q (flat_map (blocks_in_hand P) (hands P))) (list_any q (flat_map (block_of P) (flat_map (arrays_at s P) (node_numbers s))))
    (sym (any-append q (flat_map (blocks_in_hand P) (hands P)) (flat_map (block_of P) (flat_map (arrays_at s P) (node_numbers s)))) ∙ none) in
    let nodes : list_any (λ v. list_any t (arrays_at s P v)) (node_numbers s) ≡ false =
    sym (any-flat t (arrays_at s P) (node_numbers s)) ∙ (sym (any-flat q (block_of P) (flat_map (arrays_at s P) (node_numbers s))) ∙ p.1) in
    let at : (v : ℕ) → AtNode t s P v = λ v. elim (cases_Bool (is_numbered s v)) [
      | inl numbered ↦ at_some t s P v (any_at (λ u. list_any t (arrays_at s P u)) v (node_numbers s) nodes numbered)
      | inr away ↦ at_none t s P v h away
    ] in
    record {
      queues = λ v. (at v).queue;
      lists = λ v. (at v).list;
      rings = λ v. (at v).kept;
      files = λ v. (at v).file;
      roles = none_counted (holds t) (hands P) (sym (hands-blocks s q P h) ∙ p.0);
      calls = ap (count (carries t)) still;
    }

-- a frame on a block without a place is nowhere
pub unplaced-clear : (s : Setting) (P : Past) (b : ℕ) (a : FrameName) → is_legal s P ≡ true → owed s P ≡ [] → refs s P b ≡ 0
    → block_of P a ≡ b ∷ [] → Clear (is_frame a) s P
unplaced-clear s P b a legal still none on =
    let q : ℕ → Bool = is_number b in
    let whole : Clear (has q P) s P = from-places s q P legal still (none_any q (places s P) none) in
    clear-fewer (has q P) (is_frame a) s P (λ x off. elim (cases_Bool (same x a)) [
      | inl is ↦
          let it : x ≡ a = same-true x a is in
          let some : has q P x ≡ true = ap (has q P) it ∙ (ap (list_any q) on ∙ ap (λ (c : Bool). c || false) (eq-eqb b b refl)) in
          absurd (true≢false (sym some ∙ off))
      | inr other ↦ other
    ]) whole
