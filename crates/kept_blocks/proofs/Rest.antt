-- What a move's later entries leave as it is, and so does a move that touches no hand.
use Rattle.std.proofs.Common.{◌≡◌, ℕ, zero, suc, ◌+◌, true, List, [], ◌∷◌, refl, ◌∙◌, arith, inl, inr}
use Rattle.std.proofs.lemmas.Bool.{and_parts, false≢true, cases_Bool}
use Rattle.nd_base.specs.declared.frame.FrameName.{FrameName}
use Rattle.flow_journal.specs.declared.entry.Entry.{Entry}
use Rattle.flow_journal.specs.declared.entry.Entry.TheVariants.{LoadRefused, Tick, Emit, Accept, Full, PoolDrop, SortDrop, Settle, Close, Leave}
use Rattle.flow_journal.specs.Setting.{Setting}
use Rattle.flow_journal.specs.Pasts.{Past}
use Rattle.flow_journal.specs.Hands.{hands}
use Rattle.flow_journal.specs.Queued.{has_room}
use Rattle.flow_journal.specs.Accounts.{block_of, known}
use Rattle.flow_journal.specs.Following.{calls_for}
use Rattle.flow_journal.specs.Histories.{is_legal}
use Rattle.flow_journal.proofs.Travels.{Clear, clear-more}
use Rattle.flow_journal.proofs.Making.{is_frame}
use Rattle.board_rules.specs.declared.told.Told.{Told}
use Rattle.board_rules.specs.States.{BoardState, past, plain, lent_to}
use Rattle.board_rules.specs.Moving.{made_of, with_all, moved_at}
use Rattle.board_rules.specs.Storage.{is_away, parts_away}
use Rattle.board_rules.proofs.Moved.{fits, all_fit, fit-first, fit-next}
use Rattle.board_rules.specs.LastGrants.{last_grant}
use Rattle.kept_blocks.specs.Keeping.{LoseFew}
use Rattle.kept_blocks.specs.MoveLaws.{touches_no_hand}
use Rattle.kept_blocks.proofs.Granted.{legal-before}

-- the later board has the same hands, blocks and grants
pub record Rest (s : Setting) (B new : BoardState) : Type 0 where
  pub same_hands : hands (past new) ≡ hands (past B)
  pub same_blocks : (a : FrameName) → block_of (past new) a ≡ block_of (past B) a
  pub same_known : known s (past new) ≡ known s (past B)
  pub same_grants : (b : ℕ) → last_grant b (past new) ≡ last_grant b (past B)
  pub same_away : (b : ℕ) → is_away b new ≡ is_away b B
  pub same_gone : (b : ℕ) → parts_away b new ≡ parts_away b B
  pub same_lent : (r : ℕ) → lent_to r new ≡ lent_to r B
  pub few : LoseFew B → LoseFew new
  pub before : is_legal s (past new) ≡ true → is_legal s (past B) ≡ true
  pub clear : is_legal s (past new) ≡ true → (a : FrameName) → Clear (is_frame a) s (past B) → Clear (is_frame a) s (past new)

pub none-more : (n : ℕ) → 0 + n ≡ n
none-more n = omega arith

-- one entry that touches no hand
pub one-entry : (s : Setting) (e : Entry) (B : BoardState) → touches_no_hand e ≡ true → Rest s B (plain e ∷ B)
one-entry s (LoadRefused r k n z) B h = record {
  same_hands = refl;
  same_blocks = λ a. refl;
  same_known = refl;
  same_grants = λ b. refl;
  same_away = λ b. refl;
  same_gone = λ b. none-more (parts_away b B);
  same_lent = λ q. refl;
  few = λ f. (omega arith, f);
  before = λ l. legal-before s (LoadRefused r k n z) (past B) l;
  clear = λ l a c. clear-more (is_frame a) s (LoadRefused r k n z) (past B) l refl c;
}
one-entry s (Tick t) B h = record {
  same_hands = refl;
  same_blocks = λ a. refl;
  same_known = refl;
  same_grants = λ b. refl;
  same_away = λ b. refl;
  same_gone = λ b. none-more (parts_away b B);
  same_lent = λ q. refl;
  few = λ f. (omega arith, f);
  before = λ l. legal-before s (Tick t) (past B) l;
  clear = λ l a c. clear-more (is_frame a) s (Tick t) (past B) l refl c;
}
one-entry s (Emit v m k why) B h = record {
  same_hands = refl;
  same_blocks = λ a. refl;
  same_known = refl;
  same_grants = λ b. refl;
  same_away = λ b. refl;
  same_gone = λ b. none-more (parts_away b B);
  same_lent = λ q. refl;
  few = λ f. (omega arith, f);
  before = λ l. legal-before s (Emit v m k why) (past B) l;
  clear = λ l a c. clear-more (is_frame a) s (Emit v m k why) (past B) l refl c;
}
one-entry s (Accept v m k) B h = record {
  same_hands = refl;
  same_blocks = λ a. refl;
  same_known = refl;
  same_grants = λ b. refl;
  same_away = λ b. refl;
  same_gone = λ b. none-more (parts_away b B);
  same_lent = λ q. refl;
  few = λ f. (omega arith, f);
  before = λ l. legal-before s (Accept v m k) (past B) l;
  clear = λ l a c. clear-more (is_frame a) s (Accept v m k) (past B) l refl c;
}
one-entry s (Full v m k) B h = record {
  same_hands = refl;
  same_blocks = λ a. refl;
  same_known = refl;
  same_grants = λ b. refl;
  same_away = λ b. refl;
  same_gone = λ b. none-more (parts_away b B);
  same_lent = λ q. refl;
  few = λ f. (omega arith, f);
  before = λ l. legal-before s (Full v m k) (past B) l;
  clear = λ l a c. clear-more (is_frame a) s (Full v m k) (past B) l refl c;
}
one-entry s (PoolDrop r v m k n z) B h = record {
  same_hands = refl;
  same_blocks = λ a. refl;
  same_known = refl;
  same_grants = λ b. refl;
  same_away = λ b. refl;
  same_gone = λ b. none-more (parts_away b B);
  same_lent = λ q. refl;
  few = λ f. (omega arith, f);
  before = λ l. legal-before s (PoolDrop r v m k n z) (past B) l;
  clear = λ l a c. clear-more (is_frame a) s (PoolDrop r v m k n z) (past B) l refl c;
}
one-entry s (SortDrop v m k) B h = record {
  same_hands = refl;
  same_blocks = λ a. refl;
  same_known = refl;
  same_grants = λ b. refl;
  same_away = λ b. refl;
  same_gone = λ b. none-more (parts_away b B);
  same_lent = λ q. refl;
  few = λ f. (omega arith, f);
  before = λ l. legal-before s (SortDrop v m k) (past B) l;
  clear = λ l a c. clear-more (is_frame a) s (SortDrop v m k) (past B) l refl c;
}
one-entry s (Settle r v) B h = record {
  same_hands = refl;
  same_blocks = λ a. refl;
  same_known = refl;
  same_grants = λ b. refl;
  same_away = λ b. refl;
  same_gone = λ b. none-more (parts_away b B);
  same_lent = λ q. refl;
  few = λ f. (omega arith, f);
  before = λ l. legal-before s (Settle r v) (past B) l;
  clear = λ l a c. clear-more (is_frame a) s (Settle r v) (past B) l refl c;
}
one-entry s (Close r) B h = record {
  same_hands = refl;
  same_blocks = λ a. refl;
  same_known = refl;
  same_grants = λ b. refl;
  same_away = λ b. refl;
  same_gone = λ b. none-more (parts_away b B);
  same_lent = λ q. refl;
  few = λ f. (omega arith, f);
  before = λ l. legal-before s (Close r) (past B) l;
  clear = λ l a c. clear-more (is_frame a) s (Close r) (past B) l refl c;
}
one-entry s (Leave r) B h = record {
  same_hands = refl;
  same_blocks = λ a. refl;
  same_known = refl;
  same_grants = λ b. refl;
  same_away = λ b. refl;
  same_gone = λ b. none-more (parts_away b B);
  same_lent = λ q. refl;
  few = λ f. (omega arith, f);
  before = λ l. legal-before s (Leave r) (past B) l;
  clear = λ l a c. clear-more (is_frame a) s (Leave r) (past B) l refl c;
}
one-entry s _ B h = absurd (false≢true h)

no-entry : (s : Setting) (B : BoardState) → Rest s B B
no-entry s B = record {
  same_hands = refl;
  same_blocks = λ a. refl;
  same_known = refl;
  same_grants = λ b. refl;
  same_away = λ b. refl;
  same_gone = λ b. refl;
  same_lent = λ r. refl;
  few = λ f. f;
  before = λ l. l;
  clear = λ l a c. c;
}

pub and-then : (s : Setting) (B mid new : BoardState) → Rest s B mid → Rest s mid new → Rest s B new
and-then s B mid new x y = record {
  same_hands = y.same_hands ∙ x.same_hands;
  same_blocks = λ a. y.same_blocks a ∙ x.same_blocks a;
  same_known = y.same_known ∙ x.same_known;
  same_grants = λ b. y.same_grants b ∙ x.same_grants b;
  same_away = λ b. y.same_away b ∙ x.same_away b;
  same_gone = λ b. y.same_gone b ∙ x.same_gone b;
  same_lent = λ r. y.same_lent r ∙ x.same_lent r;
  few = λ f. y.few (x.few f);
  before = λ l. x.before (y.before l);
  clear = λ l a c. y.clear l a (x.clear (y.before l) a c);
}

-- what follows touches no hand
made-touches : (s : Setting) (tick n : ℕ) (P : Past) (d : Entry) → fits n d ≡ true → touches_no_hand (made_of s tick P d) ≡ true
made-touches s tick n P (Tick t) h = refl
made-touches s tick n P (Emit v m k why) h = refl
made-touches s tick n P (Accept v m k) h =
    elim (cases_Bool (has_room s P v)) [
      | inl room ↦ rw room refl
      | inr full ↦ rw full refl
    ]
made-touches s tick n P (Full v m k) h = refl
made-touches s tick n P (SortDrop v m k) h = refl
made-touches s tick n P _ h = absurd (false≢true h)

all-entries : (s : Setting) (tick n : ℕ) (ds : List Entry) (B : BoardState) → all_fit n ds ≡ true → Rest s B (with_all s tick n ds B)
all-entries s tick zero ds B h = no-entry s B
all-entries s tick (suc n) [] B h = no-entry s B
all-entries s tick (suc n) (d ∷ ds) B h =
    let p = and_parts (fits (suc n) d) (all_fit (suc n) ds) h in
    let e = made_of s tick (past B) d in
    let one : BoardState = plain e ∷ B in
    let mid : BoardState = with_all s tick n (calls_for s (past B) e) one in
    and-then s B mid (with_all s tick (suc n) ds mid)
    (and-then s B one mid (one-entry s e B (made-touches s tick (suc n) (past B) d p.0))
    (all-entries s tick n (calls_for s (past B) e) one (fit-next s tick n (past B) d p.0)))
    (all-entries s tick (suc n) ds mid p.1)

-- what comes after the entry with which a move begins
pub later : (s : Setting) (tick : ℕ) (t : Told) (B : BoardState) → Rest s (t ∷ B) (moved_at s tick t B)
later s tick t B = all-entries s tick 3 (calls_for s (past B) t.entry) (t ∷ B) (fit-first s (past B) t.entry)
