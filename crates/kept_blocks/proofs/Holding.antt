-- What is kept of each block, while a move goes on: as `HoldsBlocks`, with nothing owed of an array that has no place.
use Rattle.std.proofs.Common.{◌≡◌, ◌≢◌, ◌⊎◌, ℕ, zero, suc, eqb, ◌+◌, ◌-◌, ◌^◌, ◌≤◌, ◌<◌, Bool, true, false, not, List, [], ◌∷◌, length, refl, sym, ap, ◌∙◌, subst, arith}
use Rattle.std.proofs.Common.{Option, Some, None, inl, inr}
use Rattle.std.specs.Prelude.{IsSome}
use Rattle.std.specs.List.{list_any}
use Rattle.std.proofs.lemmas.Bool.{true≢false, false≢true, eq-eqb, eqb-true, cases_Bool, or_cases, or_parts}
use Rattle.std.proofs.lemmas.List.{length-set, get_or-set_same, get_or-set_other}
use Rattle.nd_base.specs.declared.frame.FrameName.{FrameName}
use Rattle.nd_base.specs.Parts.{Parts, MayPart}
use Rattle.pool_ledger.specs.Grants.{has_number}
use Rattle.flow_journal.specs.declared.entry.Entry.{Entry}
use Rattle.flow_journal.specs.declared.entry.Entry.TheVariants.{Load, Take, TakeBlock, Save}
use Rattle.flow_journal.specs.Setting.{Setting}
use Rattle.flow_journal.specs.Pasts.{Past}
use Rattle.flow_journal.specs.Hands.{hands, hand}
use Rattle.flow_journal.specs.Accounts.{block_of, arrays_at, known}
use Rattle.flow_journal.specs.Following.{owed}
use Rattle.flow_journal.specs.LengthLaws.{threads}
use Rattle.flow_journal.specs.Histories.{is_legal}
use Rattle.flow_journal.specs.Pushes.{history-owes}
use Rattle.flow_journal.proofs.EntryCounts.{count}
use Rattle.flow_journal.proofs.Found.{none_counted, none_any}
use Rattle.flow_journal.proofs.Places.{arrays-count, at_some}
use Rattle.flow_journal.proofs.Travels.{ClearBy, Clear, holds, carries}
use Rattle.flow_journal.proofs.Making.{is_frame, no_frame}
use Rattle.board_rules.specs.States.{BoardState, past, lent_to}
use Rattle.board_rules.specs.InHand.{has_part_of, TellParts, OfSome}
use Rattle.board_rules.specs.Storage.{is_away, has_part, parts_in_hand, parts_away, parts_here}
use Rattle.frame_table.specs.Kept.{Kept, Empty, kept_at, with_kept, without_kept, MayLend, IsPartOf, IsUntold}
use Rattle.board_rules.specs.LastGrants.{LastGrant, Never, InMaking, Made, TakenBack, last_grant}
use Rattle.kept_blocks.specs.Keeping.{has_array, IsNowhere, IsFrameOn, IsHome, IsKeptBy, LoseFew, HoldsBlocks, IsRunOf}
use Rattle.kept_blocks.proofs.Granted.{alone-from}
use Rattle.kept_blocks.proofs.Placing.{Placed, placed}
use Rattle.kept_blocks.proofs.Rest.{Rest}
use Rattle.kept_blocks.proofs.Shares.{few-parts, same-parts, none-hold}

abbrev pub IsKeptIn : {F : Type 0} → (F → Option Parts) → Setting → BoardState → ℕ → LastGrant → Kept → Type 0
IsKeptIn parts s told block Never k = Unit {0}
IsKeptIn parts s told block (InMaking r a n) k = (k ≡ Empty) × (parts_away block told ≡ 0)
IsKeptIn parts s told block (Made a n) k = IsFrameOn parts told block a n k ⊎ ((TellParts parts → ⊥) × Clear (is_frame a) s (past told))
IsKeptIn parts s told block (TakenBack n) k = TellParts parts → IsHome told block n k

pub record Holds {F : Type 0} (parts : F → Option Parts) (s : Setting) (told : BoardState) (t : List Kept) : Type 0 where
  pub places : (b : ℕ) → has_number b (known s (past told)) ≡ true → b < length t
  pub kept : (b : ℕ) → has_number b (known s (past told)) ≡ true → IsKeptIn parts s told b (last_grant b (past told)) (kept_at t b)
  pub lent : (r b : ℕ) (a : FrameName) → has_part_of a (hand r (past told)) ≡ true → block_of (past told) a ≡ b ∷ []
      → IsPartOf (kept_at t b) a (lent_to r told)
  pub lost : LoseFew told
  pub only : (b : ℕ) → has_number b (known s (past told)) ≡ false → kept_at t b ≡ Empty

-- NOWHERE

array-held : (a : FrameName) (e : Entry) → has_array a e ≡ holds (is_frame a) e
array-held a (Load r k b n f g x) = refl
array-held a (Take r v m k) = refl
array-held a (TakeBlock f x r v m k b n g) = refl
array-held a (Save r v m k g) = refl
array-held a _ = refl

nowhere-clear : (s : Setting) (P : Past) (a : FrameName) → owed s P ≡ [] → IsNowhere s P a → Clear (is_frame a) s P
nowhere-clear s P a still n = record {
  queues = λ v. (at_some (is_frame a) s P v (n.nodes v)).queue;
  lists = λ v. (at_some (is_frame a) s P v (n.nodes v)).list;
  rings = λ v. (at_some (is_frame a) s P v (n.nodes v)).kept;
  files = λ v. (at_some (is_frame a) s P v (n.nodes v)).file;
  roles = none_counted (holds (is_frame a)) (hands P) (ap (λ (t : Entry → Bool). list_any t (hands P)) (λ i e. sym (array-held a e) i) ∙ n.roles);
  calls = ap (count (carries (is_frame a))) still;
}

clear-nowhere : (s : Setting) (P : Past) (a : FrameName) → Clear (is_frame a) s P → IsNowhere s P a
clear-nowhere s P a c = record {
  nodes = λ v. none_any (is_frame a) (arrays_at s P v) (omega (arith, arrays-count (is_frame a) s P v, c.queues v, c.lists v, c.rings v, c.files v));
  roles = ap (λ (t : Entry → Bool). list_any t (hands P)) (λ i e. array-held a e i) ∙ none_any (holds (is_frame a)) (hands P) c.roles;
}

into : {F : Type 0} (parts : F → Option Parts) (s : Setting) (B : BoardState) (b : ℕ) (g : LastGrant) (k : Kept) → owed s (past B) ≡ []
    → IsKeptBy parts s B b g k → IsKeptIn parts s B b g k
into parts s B b Never k still x = x
into parts s B b (InMaking r a n) k still x = x
into parts s B b (Made a n) k still (inl on) = inl on
into parts s B b (Made a n) k still (inr gone) = inr (gone.0, nowhere-clear s (past B) a still gone.1)
into parts s B b (TakenBack n) k still x = x

out-of : {F : Type 0} (parts : F → Option Parts) (s : Setting) (B : BoardState) (b : ℕ) (g : LastGrant) (k : Kept)
    → IsKeptIn parts s B b g k → IsKeptBy parts s B b g k
out-of parts s B b Never k x = x
out-of parts s B b (InMaking r a n) k x = x
out-of parts s B b (Made a n) k (inl on) = inl on
out-of parts s B b (Made a n) k (inr gone) = inr (gone.0, clear-nowhere s (past B) a gone.1)
out-of parts s B b (TakenBack n) k x = x

pub still-of : (s : Setting) (B : BoardState) → IsRunOf s B → owed s (past B) ≡ []
still-of s B run = let o = history-owes {s = s} {P = past B} run.history in o.rest

pub legal-of : (s : Setting) (B : BoardState) → IsRunOf s B → is_legal s (past B) ≡ true
legal-of s B run = let o = history-owes {s = s} {P = past B} run.history in o.legal

pub holds-in : {F : Type 0} (parts : F → Option Parts) (s : Setting) (B : BoardState) (t : List Kept) → IsRunOf s B
    → HoldsBlocks parts s B t → Holds parts s B t
holds-in parts s B t run h = record {
  places = h.places;
  kept = λ b is. into parts s B b (last_grant b (past B)) (kept_at t b) (still-of s B run) (h.kept b is);
  lent = h.lent;
  lost = h.lost;
  only = h.only;
}

pub holds-out : {F : Type 0} (parts : F → Option Parts) (s : Setting) (B : BoardState) (t : List Kept) → Holds parts s B t → HoldsBlocks parts s B t
holds-out parts s B t h = record {
  places = h.places;
  kept = λ b is. out-of parts s B b (last_grant b (past B)) (kept_at t b) (h.kept b is);
  lent = h.lent;
  lost = h.lost;
  only = h.only;
}

-- WHAT STAYS

pub frame-stays : {F : Type 0} (parts : F → Option Parts) (B new : BoardState) (b n : ℕ) (a : FrameName) (k : Kept) → parts_here new b ≡ parts_here B b
    → IsFrameOn parts B b a n k → IsFrameOn parts new b a n k
frame-stays parts B new b n a k here f = record {
  its_parts = f.its_parts;
  is = f.is;
  tells = f.tells;
  here = subst (λ (i : ℕ). OfSome (λ p. (p.size ≡ n) × (p.here ≡ i)) f.its_parts) (sym here) f.here;
}

-- where the log says the same of the block, the same is kept
pub keeps : {F : Type 0} (parts : F → Option Parts) (s : Setting) (B new : BoardState) (b : ℕ) (g : LastGrant) (k : Kept) → parts_here new b ≡ parts_here B b
    → is_away b new ≡ is_away b B → parts_away b new ≡ parts_away b B
    → ((a : FrameName) (n : ℕ) → g ≡ Made a n → Clear (is_frame a) s (past B) → Clear (is_frame a) s (past new))
    → IsKeptIn parts s B b g k → IsKeptIn parts s new b g k
keeps parts s B new b Never k here away gone clear x = x
keeps parts s B new b (InMaking r a n) k here away gone clear x = (x.0, gone ∙ x.1)
keeps parts s B new b (Made a n) k here away gone clear (inl on) = inl (frame-stays parts B new b n a k here on)
keeps parts s B new b (Made a n) k here away gone clear (inr none) = inr (none.0, clear a n refl none.1)
keeps parts s B new b (TakenBack n) k here away gone clear x =
    λ tell. record { sized = (x tell).sized; home = (x tell).home ∙ ap (λ (y : Bool). Some (not y)) (sym away) }

-- as many parts are in hands where the hands and their blocks are the same
pub here-same : (B new : BoardState) (b : ℕ) → hands (past new) ≡ hands (past B) → ((a : FrameName) → block_of (past new) a ≡ block_of (past B) a)
    → parts_away b new ≡ parts_away b B → parts_here new b ≡ parts_here B b
here-same B new b hands_ blocks gone =
    let in_hand : parts_in_hand (past new) b ≡ parts_in_hand (past B) b =
    ap (count (has_part (past new) b)) hands_
    ∙ same-parts (past new) (past B) (λ x. false) (λ x off. blocks x) b (hands (past B)) (none-hold (hands (past B))) in
    ap (λ (i : ℕ). 2 ^ 32 - (i + parts_away b new)) in_hand ∙ ap (λ (i : ℕ). 2 ^ 32 - (parts_in_hand (past B) b + i)) gone

hand-same : (P Q : Past) (r : ℕ) → hands Q ≡ hands P → hand r Q ≡ hand r P
hand-same P Q r is = ap (Rattle.std.specs.List.find (Rattle.flow_journal.specs.Hands.takes_up r)) is

pub rest-holds : {F : Type 0} (parts : F → Option Parts) (s : Setting) (B new : BoardState) (t : List Kept) → Rest s B new → is_legal s (past new) ≡ true
    → Holds parts s B t → Holds parts s new t
rest-holds parts s B new t rest legal h = record {
  places = λ b is. h.places b (subst (λ bs. has_number b bs ≡ true) rest.same_known is);
  kept = λ b is.
      subst (λ (g : LastGrant). IsKeptIn parts s new b g (kept_at t b)) (sym (rest.same_grants b))
      (keeps parts s B new b (last_grant b (past B)) (kept_at t b) (here-same B new b rest.same_hands rest.same_blocks (rest.same_gone b)) (rest.same_away b)
      (rest.same_gone b) (λ a n made c. rest.clear legal a c)
      (h.kept b (subst (λ bs. has_number b bs ≡ true) rest.same_known is)));
  lent = λ r b a has on.
      subst (λ (q : Option Parts). IsPartOf (kept_at t b) a q) (sym (rest.same_lent r))
      (h.lent r b a (ap (has_part_of a) (sym (hand-same (past B) (past new) r rest.same_hands)) ∙ has) (sym (rest.same_blocks a) ∙ on));
  lost = rest.few h.lost;
  only = λ b un. h.only b (subst (λ bs. has_number b bs ≡ false) rest.same_known un);
}

-- THE TABLE

pub at-same : (t : List Kept) (b : ℕ) (k : Kept) → b < length t → kept_at (with_kept t b k) b ≡ k
at-same t b k lt = get_or-set_same t b k Empty lt

pub at-other : (t : List Kept) (b c : ℕ) (k : Kept) → c ≢ b → kept_at (with_kept t b k) c ≡ kept_at t c
at-other t b c k ne = get_or-set_other t b c k Empty ne

pub same-length : (t : List Kept) (b : ℕ) (k : Kept) → length (with_kept t b k) ≡ length t
same-length t b k = length-set t b k

-- a place that is emptied is empty, and one that is empty stays so where nothing is made of nothing
pub emptied-there : (t : List Kept) (b : ℕ) → kept_at (with_kept t b Empty) b ≡ Empty
emptied-there [] b = refl
emptied-there (x ∷ t) zero = refl
emptied-there (x ∷ t) (suc b) = emptied-there t b

pub emptied-at : (t : List Kept) (b j : ℕ) → kept_at t j ≡ Empty → kept_at (with_kept t b Empty) j ≡ Empty
emptied-at [] b j e = e
emptied-at (x ∷ t) zero zero e = refl
emptied-at (x ∷ t) zero (suc j) e = e
emptied-at (x ∷ t) (suc b) zero e = e
emptied-at (x ∷ t) (suc b) (suc j) e = emptied-at t b j e

pub changed-at : (change : Kept → Kept) → change Empty ≡ Empty → (t : List Kept) (b j : ℕ) → kept_at t j ≡ Empty
    → kept_at (with_kept t b (change (kept_at t b))) j ≡ Empty
changed-at change none [] b j e = e
changed-at change none (x ∷ t) zero zero e = ap change e ∙ none
changed-at change none (x ∷ t) zero (suc j) e = e
changed-at change none (x ∷ t) (suc b) zero e = e
changed-at change none (x ∷ t) (suc b) (suc j) e = changed-at change none t b j e

-- WHERE BLOCKS ARE GIVEN UP

pub stays-empty : (gs : List ℕ) (t : List Kept) (j : ℕ) → kept_at t j ≡ Empty → kept_at (without_kept gs t) j ≡ Empty
stays-empty [] t j e = e
stays-empty (g ∷ gs) t j e = stays-empty gs (with_kept t g Empty) j (emptied-at t g j e)

pub gone-empty : (gs : List ℕ) (t : List Kept) (j : ℕ) → list_any (λ c. eqb c j) gs ≡ true → kept_at (without_kept gs t) j ≡ Empty
gone-empty [] t j h = absurd (false≢true h)
gone-empty (g ∷ gs) t j h =
    elim (or_cases (eqb g j) (list_any (λ c. eqb c j) gs) h) [
      | inl here ↦
          stays-empty gs (with_kept t g Empty) j
          (subst (λ (m : ℕ). kept_at (with_kept t g Empty) m ≡ Empty) (eqb-true g j here) (emptied-there t g))
      | inr there ↦ gone-empty gs (with_kept t g Empty) j there
    ]

off-without : (gs : List ℕ) (t : List Kept) (j : ℕ) → list_any (λ c. eqb c j) gs ≡ false → kept_at (without_kept gs t) j ≡ kept_at t j
off-without [] t j h = refl
off-without (g ∷ gs) t j h =
    let off = or_parts (eqb g j) (list_any (λ c. eqb c j) gs) h in
    off-without gs (with_kept t g Empty) j off.1 ∙ at-other t g j Empty (λ is. true≢false (sym (eq-eqb g j (sym is)) ∙ off.0))

-- another place keeps what it did
pub same-without : (gs : List ℕ) (t : List Kept) (j : ℕ) → (list_any (λ c. eqb c j) gs ≡ true → kept_at t j ≡ Empty)
    → kept_at (without_kept gs t) j ≡ kept_at t j
same-without gs t j empty =
    elim (cases_Bool (list_any (λ c. eqb c j) gs)) [ inl is ↦ gone-empty gs t j is ∙ sym (empty is) | inr other ↦ off-without gs t j other ]

pub length-without : (gs : List ℕ) (t : List Kept) → length (without_kept gs t) ≡ length t
length-without [] t = refl
length-without (g ∷ gs) t = length-without gs (with_kept t g Empty) ∙ same-length t g Empty

-- LOOKS

pub record Stands {F : Type 0} (parts : F → Option Parts) (s : Setting) (B : BoardState) (t : List Kept) (a : FrameName) : Type 0 where
  pub placed : Placed s (past B) a
  pub place : placed.block < length t
  pub frame : IsFrameOn parts B placed.block a placed.size (kept_at t placed.block)

pub made-frame : {F : Type 0} (parts : F → Option Parts) (s : Setting) (B : BoardState) (b n : ℕ) (a : FrameName) (k : Kept)
    → (ClearBy no_frame (is_frame a) s (past B) → ⊥) → IsKeptIn parts s B b (Made a n) k → IsFrameOn parts B b a n k
made-frame parts s B b n a k used (inl on) = on
made-frame parts s B b n a k used (inr gone) = absurd (used (alone-from s (past B) a gone.1))

-- an array with a place stands in the table
pub stands : {F : Type 0} (parts : F → Option Parts) (s : Setting) (B : BoardState) (t : List Kept) (a : FrameName) → s.pooled ≡ true
    → is_legal s (past B) ≡ true → Holds parts s B t → (ClearBy no_frame (is_frame a) s (past B) → ⊥) → Stands parts s B t a
stands parts s B t a pooled legal h used =
    let p = placed s (past B) a pooled legal used in
    record {
      placed = p;
      place = h.places p.block p.known_block;
      frame =
          made-frame parts s B p.block p.size a (kept_at t p.block) used
          (subst (λ (g : LastGrant). IsKeptIn parts s B p.block g (kept_at t p.block)) p.made (h.kept p.block p.known_block));
    }

lend-parts : (p : Option Parts) (n m : ℕ) → OfSome (λ q. (q.size ≡ n) × (q.here ≡ 2 ^ 32 - m)) p → m ≤ 300 → MayPart p
lend-parts None n m here few = tt
lend-parts (Some q) n m here few = omega (arith, here.1, few)

pub may-lend : {F : Type 0} (parts : F → Option Parts) (s : Setting) (B : BoardState) (b n : ℕ) (a : FrameName) (k : Kept) → threads s ≤ 64
    → is_legal s (past B) ≡ true → LoseFew B → IsFrameOn parts B b a n k → MayLend k
may-lend parts s B b n a k threads_few legal lost f =
    subst MayLend (sym f.is) (lend-parts f.its_parts n (parts_in_hand (past B) b + parts_away b B) f.here (few-parts s B b threads_few legal lost))

untold-none : (p : Option Parts) → IsSome p → Rattle.std.specs.Prelude.IsNone p → ⊥
untold-none None some none = true≢false (sym some)
untold-none (Some q) some none = true≢false none

pub not-untold : {F : Type 0} (parts : F → Option Parts) (B : BoardState) (b n : ℕ) (a : FrameName) (k : Kept)
    → IsFrameOn parts B b a n k → TellParts parts → IsUntold k → ⊥
not-untold parts B b n a k f tell none = untold-none f.its_parts (f.tells tell) (subst IsUntold f.is none)
