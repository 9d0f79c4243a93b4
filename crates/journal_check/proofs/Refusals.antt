-- What stands against a call stands against its entry.
use Rattle.std.proofs.Common.{◌≡◌, ◌≢◌, ℕ, ◌<◌, ◌≤◌, Bool, true, false, not, ◌&&◌, ◌||◌, cond, length}
use Rattle.std.proofs.Common.{refl, sym, ap, ◌∙◌, subst, eqb, leb, Option, Some, None, inl, inr, arith}
use Rattle.std.specs.List.{list_all}
use Rattle.std.proofs.lemmas.Bool.{and_parts, and_from, false≢true, true≢false, eq-eqb, eqb-true, cases_Bool, leb-true, leb-false}
use Rattle.std.proofs.lemmas.Bool.{ne_eqb}
use Rattle.nd_base.specs.declared.frame.FrameName.{FrameName}
use Rattle.flow_journal.specs.declared.entry.Entry.{Entry}
use Rattle.pool_ledger.specs.Grants.{Granted}
use Rattle.flow_journal.specs.Setting.{Setting, node, is_node, children, last_role, is_role}
use Rattle.flow_journal.specs.Pasts.{Past, frame}
use Rattle.flow_journal.specs.Hands.{hand, is_free, jobs}
use Rattle.flow_journal.specs.Ended.{has_left_any, was_reclaimed}
use Rattle.flow_journal.specs.Offered.{next_index}
use Rattle.flow_journal.specs.Queued.{has_room}
use Rattle.flow_journal.specs.Accounts.{grant}
use Rattle.flow_journal.specs.FirstEntries.{may_load, may_take, is_load_of, is_piece_of, is_result_of, pool_grants}
use Rattle.flow_journal.specs.declared.entry.Entry.TheVariants.{Load, Reclaim, Save}
use Rattle.flow_journal.specs.Following.{owed}
use Rattle.flow_journal.specs.FirstEntries.{first}
use Rattle.flow_journal.specs.Histories.{is_legal, is_history, is_nothing}
use Rattle.board_rules.specs.InHand.{is_piece_on, hand_node}
use Rattle.board_rules.specs.InHand.{is_load_of as is_load_on}
use Rattle.std.specs.Option.{is_some}
use Rattle.board_rules.specs.declared.answers.NoWhy.{NoWhy}
use Rattle.board_rules.specs.declared.answers.NoWhy.TheVariants.{NoHand, Spent}
use Rattle.board_rules.specs.Leaving.{reclaim_refusal}
use Rattle.flow_journal.specs.RowFacts.{Acts, LoadFacts, TakeFacts}
use Rattle.flow_journal.proofs.Rows.{load-facts, take-facts, grant-facts, none-free}
use Rattle.flow_journal.proofs.HandRoles.{role-of-hand}
use Rattle.run_course.proofs.Finding.{threads-node}
use Rattle.board_rules.specs.declared.answers.Take.{Take as take_answer}
use Rattle.board_rules.specs.Feeding.{is_sent_away, load_refusal}
use Rattle.board_rules.specs.Working.{take_refusal}

pub false-by : (b : Bool) → (b ≡ true → ⊥) → b ≡ false
false-by true h = absurd (h refl)
false-by false h = refl

pub and_false : (b : Bool) → (b && false) ≡ false
and_false true = refl
and_false false = refl

-- a role that acts isn't sent away
pub stays : (s : Setting) (r : ℕ) (P : Past) → Acts s r P → is_sent_away s r P ≡ false
stays s r P a =
    elim (cases_Bool (eqb r (last_role s))) [
      | inl drain ↦ rw drain (and_false (has_left_any P))
      | inr other ↦ rw (a.stays (λ e. true≢false (sym (eq-eqb r (last_role s) e) ∙ other))) refl
    ]

not_less : (a b : ℕ) → b < a → leb a b ≡ false
not_less a b h = false-by (leb a b) (λ e. let l : a ≤ b = leb-true a b e in omega (arith, l, h))

waits : (wait room : Bool) → (wait ≡ true → room ≡ true) → (wait && not room) ≡ false
waits false room h = refl
waits true room h = rw (h refl) refl

pub none-against-load : {B : Type 0} (s : Setting) (r k : ℕ) (P : Past) → LoadFacts s r k P → load_refusal {B = B} s r P ≡ None
none-against-load {B} s r k P f =
    let more : leb (length s.ids) (next_index P) ≡ false = not_less (length s.ids) (next_index P) (subst (λ (i : ℕ). i < length s.ids) f.in_turn f.some) in
    rw (stays s r P f.acts, f.unloaded, none-free r P f.acts.free, more, waits s.wait (list_all (has_room s P) (children s 0)) f.room) refl

pub load_no : {B : Type 0} (s : Setting) (r k : ℕ) (P : Past) → load_refusal {B = B} s r P ≢ None → may_load s r k P ≡ false
load_no {B} s r k P h = false-by (may_load s r k P) (λ yes_. h (none-against-load {B = B} s r k P (load-facts s r k P yes_)))

pub none-against-take : {F B O : Type 0} (s : Setting) (r v : ℕ) (a : FrameName) (P : Past) → TakeFacts s r v a P
    → take_refusal {F = F} {B = B} {O = O} s r v P ≡ None
none-against-take {F} {B} {O} s r v a P f =
    rw (stays s r P f.acts, none-free r P f.acts.free, f.unsettled, f.front.1, not_less (node s v).threads (jobs v P) f.room) refl

pub take_no : {F B O : Type 0} (s : Setting) (r v : ℕ) (a : FrameName) (P : Past) → take_refusal {F = F} {B = B} {O = O} s r v P ≢ None
    → may_take s r v a P ≡ false
take_no {F} {B} {O} s r v a P h = false-by (may_take s r v a P) (λ yes_. h (none-against-take {F = F} {B = B} {O = O} s r v a P (take-facts s r v a P yes_)))

-- a stranger has nothing in hand
pub no-hand : (s : Setting) (r : ℕ) (P : Past) → is_legal s P ≡ true → is_role s r ≡ false → hand r P ≡ None
no-hand s r P h stranger = by (hand r P) refl
  where
    by : (o : Option Entry) → hand r P ≡ o → hand r P ≡ None
    by None e = e
    by (Some x) e =
        let low : r ≤ last_role s = role-of-hand s P r x h e in
        let high : last_role s < r = leb-false r (last_role s) stranger in
        absurd (omega (arith, low, high))

stranger : (s : Setting) (r : ℕ) (P : Past) → is_history s P ≡ true → is_role s r ≡ false → hand r P ≡ None
stranger s r P h no_ = no-hand s r P (and_parts (is_legal s P) (is_nothing (owed s P)) h).0 no_

pub no_load : (s : Setting) (r k : ℕ) (P : Past) → is_history s P ≡ true → is_role s r ≡ false → is_load_of k (hand r P) ≡ false
no_load s r k P h no_ = rw (stranger s r P h no_) refl

pub no_reclaim : (s : Setting) (r : ℕ) (P : Past) → is_history s P ≡ true → is_role s r ≡ false → first s P (Reclaim r) ≡ false
no_reclaim s r P h no_ = rw (stranger s r P h no_) refl

pub no_piece : (s : Setting) (r v : ℕ) (a : FrameName) (P : Past) → is_history s P ≡ true → is_role s r ≡ false → is_piece_of v a (hand r P) ≡ false
no_piece s r v a P h no_ = rw (stranger s r P h no_) refl

pub no_result : (s : Setting) (r v : ℕ) (a : FrameName) (P : Past) → is_history s P ≡ true → is_role s r ≡ false → is_result_of v a (hand r P) ≡ false
no_result s r v a P h no_ = rw (stranger s r P h no_) refl

pub other_piece : (v : ℕ) (a : FrameName) (o : Option Entry) → is_piece_on a o ≡ false → is_piece_of v a o ≡ false
other_piece v a None h = refl
other_piece v a (Some (Save r w m k g)) h = rw h (and_false (eqb w v))
other_piece v a (Some _) h = refl

pub load_stranger : (s : Setting) (r k : ℕ) (P : Past) → is_role s r ≡ false → may_load s r k P ≡ false
load_stranger s r k P no_ = rw no_ refl

pub take_stranger : (s : Setting) (r v : ℕ) (a : FrameName) (P : Past) → is_role s r ≡ false → may_take s r v a P ≡ false
take_stranger s r v a P no_ = rw no_ refl

-- WHAT A TEST SAYS OF THE CALL

pub take-node : (s : Setting) (r v : ℕ) (a : FrameName) (P : Past) → may_take s r v a P ≡ true → is_node s v ≡ true
take-node s r v a P h = threads-node s v (jobs v P) (take-facts s r v a P h).room

pub take_nowhere : (s : Setting) (r v : ℕ) (a : FrameName) (P : Past) → is_node s v ≡ false → may_take s r v a P ≡ false
take_nowhere s r v a P none = false-by (may_take s r v a P) (λ yes_. true≢false (sym (take-node s r v a P yes_) ∙ none))

pub granted-answer : (s : Setting) (m b n : ℕ) (f : Bool) (g : ℕ) (x : Bool) (P : Past) → pool_grants s m b n f g x P ≡ true
    → grant s P (s.need m) ≡ Granted b n f g
granted-answer s m b n f g x P h = (grant-facts s m b n f g x P h).answer

-- PIECES

pub other-node : (v : ℕ) (a : FrameName) (o : Option Entry) → hand_node o ≢ v → is_piece_of v a o ≡ false
other-node v a None h = refl
other-node v a (Some (Save r w m k g)) h = rw (ne_eqb w v h) refl
other-node v a (Some _) h = refl

-- REFUSALS THAT STAND

pub take_none : {F B O : Type 0} (s : Setting) (r v : ℕ) (a : FrameName) (P : Past) (o : Option (take_answer F B O))
    → o ≡ take_refusal {F = F} {B = B} {O = O} s r v P
    → is_some o ≡ true → may_take s r v a P ≡ false
take_none {F} {B} {O} s r v a P o is some = take_no {F = F} {B = B} {O = O} s r v a P (λ e. false≢true (sym (ap is_some (is ∙ e)) ∙ some))

reclaim-by : (free was last : Bool) (o : Option NoWhy) → o ≡ cond free (Some NoHand) (cond (was || last) (Some Spent) None) → is_some o ≡ true
    → (not free && not last && not was) ≡ false
reclaim-by true was last o is some = refl
reclaim-by false true last o is some = and_false (not last)
reclaim-by false false true o is some = refl
reclaim-by false false false o is some = absurd (false≢true (sym (ap is_some is) ∙ some))

pub reclaim_no : (s : Setting) (r : ℕ) (P : Past) (o : Option NoWhy) → o ≡ reclaim_refusal s r P → is_some o ≡ true → first s P (Reclaim r) ≡ false
reclaim_no s r P o is some = reclaim-by (is_free r P) (was_reclaimed r P) (eqb r (last_role s)) o is some

-- the loaded frame is another one
pub other_load : (k : ℕ) (o : Option Entry) → is_load_on (frame 0 k) o ≡ false → is_load_of k o ≡ false
other_load k None h = refl
other_load k (Some (Load r j b n f g x)) h =
    false-by (eqb j k) (λ e. true≢false (sym (and_from (eqb 0 0) (eqb k j) refl (eq-eqb k j (sym (eqb-true j k e)))) ∙ h))
other_load k (Some _) h = refl
