-- What stands in the table.
use Rattle.std.proofs.Common.{◌≡◌, ℕ, ◌+◌, ◌-◌, ◌^◌, ◌≤◌, ◌<◌, Bool, true, false, ◌||◌, List, [], ◌∷◌, length, refl, sym, ap, ◌∙◌, subst, arith, Option}
use Rattle.std.proofs.Common.{Some, None, if◌then◌else◌}
use Rattle.std.specs.List.{find}
use Rattle.std.proofs.lemmas.Bool.{false≢true}
use Rattle.std.proofs.lemmas.List.{set-set, set-get_or}
use Rattle.nd_base.specs.declared.frame.FrameName.{FrameName}
use Rattle.nd_base.specs.Parts.{Parts, MayUnite}
use Rattle.flow_journal.specs.declared.entry.Entry.{Entry}
use Rattle.flow_journal.specs.declared.entry.Entry.TheVariants.{Load, Take, TakeBlock, Save}
use Rattle.flow_journal.specs.Setting.{Setting}
use Rattle.flow_journal.specs.Pasts.{Past, frame, same}
use Rattle.flow_journal.specs.Hands.{hands, hand, takes_up}
use Rattle.flow_journal.specs.Accounts.{block_of}
use Rattle.flow_journal.proofs.EntryCounts.{bit, count-let_go}
use Rattle.flow_journal.proofs.Hands.{takes-this}
use Rattle.flow_journal.proofs.Travels.{ClearBy}
use Rattle.flow_journal.proofs.Making.{is_frame, no_frame}
use Rattle.flow_journal.proofs.Steps.{same-true}
use Rattle.board_rules.specs.declared.told.Told.{Told}
use Rattle.board_rules.specs.States.{BoardState, past, lent_to}
use Rattle.board_rules.specs.Moving.{moved_at}
use Rattle.board_rules.specs.InHand.{has_part_of, granted_block, IsOnePart, OfSome}
use Rattle.board_rules.specs.Storage.{is_among, has_part, parts_in_hand, parts_away}
use Rattle.frame_table.specs.Kept.{Kept, Empty, Frame, Storage, kept_at, with_kept, MayLend, MayGiveBack, IsPartOf, one_part, less_one, united}
use Rattle.std.proofs.lemmas.Bool.{eq-eqb}
use Rattle.board_rules.specs.LastGrants.{LastGrant}
use Rattle.kept_blocks.specs.Keeping.{HoldsBlocks, IsRunOf}
use Rattle.kept_blocks.specs.LookLaws.{IsWithinBlock, IsLendable, IsLent, IsAwaited, LookLaws}
use Rattle.kept_blocks.proofs.Granted.{Makes, making-granted, makes-block, makes-placed}
use Rattle.kept_blocks.proofs.Placing.{known-at, queued-used, unsaved-used, hand-used}
use Rattle.kept_blocks.proofs.Rest.{later}
use Rattle.kept_blocks.proofs.Shares.{few-parts}
use Rattle.kept_blocks.proofs.Holding.{IsKeptIn, Holds, holds-in, legal-of, Stands, stands, may-lend, not-untold, at-same}

-- LENDING

within-parts : (p : Option Parts) (a : FrameName) (n m : ℕ) → OfSome (λ q. (q.size ≡ n) × (q.here ≡ 2 ^ 32 - m)) p → IsWithinBlock (Frame a p)
within-parts None a n m here = tt
within-parts (Some q) a n m here = omega (arith, here.1)

pub lendable-from : {F : Type 0} (parts : F → Option Parts) (s : Setting) (B : BoardState) (t : List Kept) (a : FrameName) → IsRunOf s B → Holds parts s B t
    → Stands parts s B t a → IsLendable parts (past B) t a
lendable-from parts s B t a run h st = record {
  block = st.placed.block;
  has = st.placed.has;
  place = st.place;
  its_parts = st.frame.its_parts;
  frame = st.frame.is;
  may = may-lend parts s B st.placed.block st.placed.size a (kept_at t st.placed.block) run.few (legal-of s B run) h.lost st.frame;
  within =
      subst IsWithinBlock (sym st.frame.is)
      (within-parts st.frame.its_parts a st.placed.size (parts_in_hand (past B) st.placed.block + parts_away st.placed.block B) st.frame.here);
  tells = not-untold parts B st.placed.block st.placed.size a (kept_at t st.placed.block) st.frame;
}

pub lendable : {F : Type 0} (parts : F → Option Parts) (s : Setting) (B : BoardState) (t : List Kept) (a : FrameName) → IsRunOf s B → HoldsBlocks parts s B t
    → (ClearBy no_frame (is_frame a) s (past B) → ⊥) → IsLendable parts (past B) t a
lendable parts s B t a run hb used =
    let h = holds-in parts s B t run hb in
    lendable-from parts s B t a run h (stands parts s B t a run.pooled (legal-of s B run) h used)

-- what is lent and given back
back-kept : (k : Kept) (a : FrameName) (q : Option Parts) → MayLend k → IsWithinBlock k → IsPartOf k a q
    → MayGiveBack (less_one k) q × (united (less_one k) q ≡ k)
back-kept Empty a q may within part = absurd may
back-kept (Storage n u) a q may within part = absurd may
back-kept (Frame c None) a q may within part =
    subst (λ (o : Option Parts). MayGiveBack (Frame c None) o × (united (Frame c None) o ≡ Frame c None)) (sym part.1) (tt, refl)
back-kept (Frame c (Some p)) a q may within part =
    let less : Option Parts = Some (record p { here = p.here - 1 }) in
    let whole : (p.here - 1) + 1 ≡ p.here = omega (arith, may) in
    subst (λ (o : Option Parts). MayGiveBack (Frame c less) o × (united (Frame c less) o ≡ Frame c (Some p))) (sym part.1)
    ((refl, omega (arith, whole, within)), ap (λ (i : ℕ). Frame c (Some (record p { here = i }))) whole)

lent-and-back : (t : List Kept) (b : ℕ) (a : FrameName) (q : Option Parts) → b < length t → MayLend (kept_at t b)
    → IsWithinBlock (kept_at t b) → IsPartOf (kept_at t b) a q
    → MayGiveBack (kept_at (with_kept t b (less_one (kept_at t b))) b) q
    × (with_kept (with_kept t b (less_one (kept_at t b))) b (united (kept_at (with_kept t b (less_one (kept_at t b))) b) q) ≡ t)
lent-and-back t b a q lt may within part =
    let k = kept_at t b in
    let back = back-kept k a q may within part in
    let here : kept_at (with_kept t b (less_one k)) b ≡ less_one k = at-same t b (less_one k) lt in (
      subst (λ (x : Kept). MayGiveBack x q) (sym here) back.0,
      ap (λ (x : Kept). with_kept (with_kept t b (less_one k)) b (united x q)) here
          ∙ (ap (λ (x : Kept). with_kept (with_kept t b (less_one k)) b x) back.1
          ∙ (set-set t b (less_one k) k ∙ set-get_or t b Empty)),
    )

-- IN HANDS

unite-one : (p : Option Parts) (n m : ℕ) → OfSome (λ q. (q.size ≡ n) × (q.here ≡ 2 ^ 32 - m)) p → 1 ≤ m → m ≤ 300 → MayUnite p (one_part p)
unite-one None n m here some few = tt
unite-one (Some q) n m here some few = (refl, omega (arith, here.1, some, few))

-- the hand counts as one part
pub part-counts : (P : Past) (r b : ℕ) (a : FrameName) (o : Option Entry) → hand r P ≡ o → has_part_of a o ≡ true
    → block_of P a ≡ b ∷ [] → 1 ≤ parts_in_hand P b
part-counts P r b a None held has on = absurd (false≢true has)
part-counts P r b a (Some e) held has on =
    omega (arith, count-let_go (has_part P b) r e (hands P) held, ap bit (part-of e has))
  where
    among : (y : FrameName) → same a y ≡ true → is_among b (block_of P y) ≡ true
    among y is =
        ap (λ (x : FrameName). is_among b (block_of P x)) (sym (same-true a y is)) ∙ (ap (is_among b) on ∙ ap (λ (c : Bool). c || false) (eq-eqb b b refl))

    part-of : (e : Entry) → has_part_of a (Some e) ≡ true → has_part P b e ≡ true
    part-of (Take q v m k) has = among (frame m k) has
    part-of (TakeBlock f x q v m k c n g) has = among (frame m k) has
    part-of (Save q v m k g) has = among (frame m k) has
    part-of _ has = absurd (false≢true has)

pub part-equal : (k : Kept) (a c : FrameName) (p q : Option Parts) → k ≡ Frame c p → IsPartOf k a q → q ≡ one_part p
part-equal k a c p q is part = let here : IsPartOf (Frame c p) a q = subst (λ (x : Kept). IsPartOf x a q) is part in here.1

pub lent-of : {F : Type 0} (parts : F → Option Parts) (s : Setting) (B : BoardState) (t : List Kept) (r : ℕ) (a : FrameName) → IsRunOf s B
    → HoldsBlocks parts s B t → has_part_of a (hand r (past B)) ≡ true → IsLent r B t a
lent-of parts s B t r a run hb has =
    let h = holds-in parts s B t run hb in
    let st = stands parts s B t a run.pooled (legal-of s B run) h (hand-used s (past B) r a has) in
    let b = st.placed.block in
    let part = h.lent r b a has st.placed.has in
    let own : lent_to r B ≡ one_part st.frame.its_parts = part-equal (kept_at t b) a a st.frame.its_parts (lent_to r B) st.frame.is part in
    let m = parts_in_hand (past B) b + parts_away b B in
    let one = part-counts (past B) r b a (hand r (past B)) refl has st.placed.has in
    record {
      block = b;
      has = st.placed.has;
      place = st.place;
      part = part;
      may = subst (λ (x : Kept). MayGiveBack x (lent_to r B)) (sym st.frame.is)
          (subst (λ (o : Option Parts). MayUnite st.frame.its_parts o) (sym own)
          (unite-one st.frame.its_parts st.placed.size m st.frame.here (omega (arith, one)) (few-parts s B b run.few (legal-of s B run) h.lost)));
    }

-- what is made in a hand
pub awaited : {F : Type 0} (parts : F → Option Parts) (s : Setting) (B : BoardState) (t : List Kept) (r b n : ℕ) (a : FrameName) (e : Entry) → IsRunOf s B
    → Holds parts s B t → hand r (past B) ≡ Some e → Makes b a n e → IsAwaited b t
awaited parts s B t r b n a e run h held m =
    let P = past B in
    let legal = legal-of s B run in
    let known_ = known-at s P b a run.pooled legal (makes-block s P r b n a e legal held m) (makes-placed s P r b n a e legal held m) in
    let kept = subst (λ (g : LastGrant). IsKeptIn parts s B b g (kept_at t b)) (making-granted s P r b n a e run.pooled legal held m) (h.kept b known_) in
    record { place = h.places b known_; empty = kept.0 }

awaited-by : {F : Type 0} (parts : F → Option Parts) (s : Setting) (B : BoardState) (t : List Kept) (r b : ℕ) (o : Option Entry) → IsRunOf s B
    → Holds parts s B t → hand r (past B) ≡ o → granted_block o ≡ b ∷ [] → IsAwaited b t
awaited-by parts s B t r b None run h held is = cc
awaited-by parts s B t r b (Some (Load q k c z f g x)) run h held is =
    let one : c ≡ b = cc in
    awaited parts s B t r b z (frame 0 k) (Load q k c z f g x) run h held (one, refl, refl)
awaited-by parts s B t r b (Some (TakeBlock f x q v m k c z g)) run h held is =
    let one : c ≡ b = cc in
    awaited parts s B t r b z (frame v k) (TakeBlock f x q v m k c z g) run h held (one, refl, refl)
awaited-by parts s B t r b (Some _) run h held is = cc

one-part : (k : Kept) (a : FrameName) (q : Option Parts) → IsPartOf k a q → IsOnePart q
one-part (Frame c None) a q part = subst IsOnePart (sym part.1) tt
one-part (Frame c (Some p)) a q part = subst IsOnePart (sym part.1) refl
one-part Empty a q part = absurd part
one-part (Storage n u) a q part = absurd part

handed : (s : Setting) (B : BoardState) (tick r : ℕ) (t : Told) → takes_up r t.entry ≡ true
    → (hand r (past (moved_at s tick t B)) ≡ Some t.entry) × (lent_to r (moved_at s tick t B) ≡ t.lent)
handed s B tick r t up =
    let rest = later s tick t B in
    (ap (find (takes_up r)) rest.same_hands ∙ takes-this r t.entry (past B) up, rest.same_lent r ∙ ap (λ (c : Bool). if c then t.lent else lent_to r B) up)

pub look_laws : {F : Type 0} (parts : F → Option Parts) → LookLaws parts
look_laws parts = record {
  start = λ s. record { places = λ b h. absurd (false≢true h); kept = λ b h. absurd (false≢true h); lent = λ r b a h on. absurd (false≢true h); lost = tt; only = λ b un. refl };
  queued = λ s B t v a run h next. lendable parts s B t a run h (queued-used s (past B) v a next);
  unsaved = λ s B t v a run h next. lendable parts s B t a run h (unsaved-used s (past B) v a next);
  in_hand = λ s B t r a run h has. lent-of parts s B t r a run h has;
  in_making = λ s B t r b run h is. awaited-by parts s B t r b (hand r (past B)) run (holds-in parts s B t run h) refl is;
  one = one-part;
  handed = handed;
  lent_and_back = lent-and-back;
}
