-- The drain's loads, and what they leave.
use Rattle.std.proofs.Common.{◌≡◌, ◌⊎◌, ℕ, ◌^◌, ◌≤◌, Bool, true, false, not, ◌&&◌, eqb, cond, leb, if◌then◌else◌, [], ◌∷◌, length, refl, sym, ap, ◌∙◌}
use Rattle.std.proofs.Common.{subst, arith, Option, Some, None, Ok, Err, inl, inr}
use Rattle.std.specs.Prelude.{is_none}
use Rattle.std.specs.List.{list_all, list_any}
use Rattle.std.proofs.lemmas.Bool.{cases_Bool, eq-eqb, false≢true, true≢false, and_parts, and_from, leb-true, le-leb, not-true}
use Rattle.nd_base.specs.Parts.{Parts}
use Rattle.nd_base.specs.declared.frame.FrameName.{FrameName}
use Rattle.pool_ledger.specs.Grants.{Answer, Granted}
use Rattle.pool_ledger.specs.Grants as pool
use Rattle.flow_journal.specs.declared.entry.Entry.{Entry}
use Rattle.flow_journal.specs.declared.entry.Entry.TheVariants.{Load, LoadRefused, Issue, Close}
use Rattle.flow_journal.specs.Setting.{Setting, children, last_role}
use Rattle.flow_journal.specs.Pasts.{Past, frame, same}
use Rattle.flow_journal.specs.Hands.{takes_up, let_go, hands, hand, is_free, is_loaded}
use Rattle.flow_journal.specs.Ended.{is_closed, has_left_any}
use Rattle.flow_journal.specs.Offered.{next_index}
use Rattle.flow_journal.specs.Queued.{has_room}
use Rattle.flow_journal.specs.Accounts.{grant}
use Rattle.flow_journal.specs.FirstEntries.{has_loaded}
use Rattle.flow_journal.specs.Histories.{is_legal, is_history}
use Rattle.board_rules.specs.declared.answers.Load.{Load as load_answer}
use Rattle.board_rules.specs.declared.answers.Load.TheVariants as load
use Rattle.board_rules.specs.declared.answers.NotYours.{NotYours}
use Rattle.board_rules.specs.declared.answers.Settled.{Settled}
use Rattle.board_rules.specs.declared.answers.Settled.TheVariants as settled
use Rattle.board_rules.specs.declared.told.Told.{Told}
use Rattle.board_rules.specs.States.{BoardState, past, plain}
use Rattle.board_rules.specs.Moving.{moved_at}
use Rattle.board_rules.specs.InHand.{is_load_of, granted_size, TellParts}
use Rattle.board_rules.specs.Feeding.{is_sent_away, load_refusal, LoadAnswers, LoadGives, HasRoom, MayIssue, IssueGives, CloseGives, waits_to_close}
use Rattle.board_rules.proofs.Legal.{load-by, issue-by, close-by}
use Rattle.board_rules.proofs.Storage.{isnt-away}
use Rattle.frame_store.specs.Sealed.{Sealed}
use Rattle.flow_roles.specs.Feeder.{name_of, parts_of}
use Rattle.flow_roles.proofs.Results.{issue-whole}
use Rattle.flow_roles.proofs.FeederCalls.{load-still, load-loaded}
use Rattle.flow_roles.proofs.FeederCalls as feeder
use Rattle.flow_drain.specs.Drains.{DrainMoves}
use Rattle.flow_drain.specs.DrainSteps.{IsIdle, HasFrame, IsFed, Waits}
use Rattle.flow_drain.proofs.Closed.{next-most}
use Rattle.flow_drain.proofs.Growth.{longer, squeezed, moves-on, no-move, one-of, hands-moved, hand-one, none-held, let-one}

-- the last role is never sent away
pub never-away : (s : Setting) (r : ℕ) (P : Past) → r ≡ last_role s → is_sent_away s r P ≡ false
never-away s r P is =
    elim (cases_Bool (has_left_any P)) [
      | inl left ↦ rw (left, eq-eqb r (last_role s) is) refl
      | inr nobody ↦ rw nobody refl
    ]

pub free-of : (r : ℕ) (P : Past) → hands P ≡ [] → is_free r P ≡ true
free-of r P is = ap (λ (o : Option Entry). is_none o) (none-held r P is)

unloaded : (P : Past) → hands P ≡ [] → has_loaded P ≡ false
unloaded P is = ap (λ (hs : Past). list_any is_loaded hs) is

module _ {B : Type 0} where
  -- what stands against a load of the drain
  abbrev pub fed_refusal : (ended full : Bool) → Option (load_answer B)
  fed_refusal ended full = cond ended (Some load.Ended) (cond full (Some load.NotYet) None)

  refusal-is : (s : Setting) (r : ℕ) (P : Past) → r ≡ last_role s → hands P ≡ []
      → load_refusal {B = B} s r P ≡ fed_refusal (leb (length s.ids) (next_index P)) (s.wait && not (list_all (has_room s P) (children s 0)))
  refusal-is s r P is idle = rw (never-away s r P is, unloaded P idle, free-of r P idle) refl

  -- what an answer says of it
  abbrev pub Tells : load_answer B → (ended full : Bool) → Type 0
  Tells load.Left ended full = ⊥
  Tells load.Busy ended full = ⊥
  Tells load.Ended ended full = ended ≡ true
  Tells load.NotYet ended full = (ended ≡ false) × (full ≡ true)
  Tells _ ended full = (ended ≡ false) × (full ≡ false)

module _ {F B : Type 0} (parts : F → Option Parts) (bytes_of : B → ℕ) (s : Setting) (old new : BoardState) (r tick : ℕ) where
  tells-by : (ended full : Bool) (g : Answer) (a : load_answer B)
      → LoadAnswers parts bytes_of s old r tick (fed_refusal {B = B} ended full) g a new → Tells a ended full
  tells-by true full g a c = subst (λ (x : load_answer B). Tells x true full) (sym c.0) refl
  tells-by false true g a c = subst (λ (x : load_answer B). Tells x false true) (sym c.0) (refl, refl)
  tells-by false false pool.Refused (load.Refused k z) c = (refl, refl)
  tells-by false false (Granted b n f g) (load.Loaded k blank) c = (refl, refl)
  tells-by false false (Granted b n f g) load.OutOfMemory c = (refl, refl)
  tells-by false false g _ c = absurd c

  answers-so : r ≡ last_role s → hands (past old) ≡ [] → (a : load_answer B) → LoadGives parts bytes_of s old r tick a new
      → LoadAnswers parts bytes_of s old r tick (fed_refusal {B = B} (leb (length s.ids) (next_index (past old)))
      (s.wait && not (list_all (has_room s (past old)) (children s 0)))) (grant s (past old) (s.need 0)) a new
  answers-so is idle a c =
      subst (λ (o : Option (load_answer B)). LoadAnswers parts bytes_of s old r tick o (grant s (past old) (s.need 0)) a new)
      (refusal-is {B = B} s r (past old) is idle) c

  pub tells : r ≡ last_role s → hands (past old) ≡ [] → (a : load_answer B) → LoadGives parts bytes_of s old r tick a new
      → Tells a (leb (length s.ids) (next_index (past old))) (s.wait && not (list_all (has_room s (past old)) (children s 0)))
  tells is idle a c = tells-by _ _ _ a (answers-so is idle a c)

  -- a refused frame is a move
  refused-by : (ended full : Bool) (g : Answer) (k z : ℕ) → ended ≡ false → full ≡ false
      → LoadAnswers parts bytes_of s old r tick (fed_refusal {B = B} ended full) g (load.Refused k z) new
      → new ≡ moved_at s tick (plain (LoadRefused r k (s.need 0) z)) old
  refused-by true full g k z e f c = cc
  refused-by false true g k z e f c = cc
  refused-by false false pool.Refused k z e f c = c.2
  refused-by false false (Granted b n f g) k z e ff c = absurd c

  pub refused-moves : r ≡ last_role s → hands (past old) ≡ [] → (k z : ℕ) → LoadGives parts bytes_of s old r tick (load.Refused k z) new
      → new ≡ moved_at s tick (plain (LoadRefused r k (s.need 0) z)) old
  refused-moves is idle k z c = let t = tells is idle (load.Refused k z) c in refused-by _ _ _ k z t.0 t.1 (answers-so is idle (load.Refused k z) c)

  -- the answers that change nothing
  pub load-same : (a : load_answer B) → feeder.is_still a ≡ true → LoadGives parts bytes_of s old r tick a new → new ≡ old
  load-same a still c = load-still parts bytes_of s old new r tick (load_refusal s r (past old)) (grant s (past old) (s.need 0)) a still c

  pub load-legal : s.pooled ≡ true → r ≡ last_role s → is_history s (past old) ≡ true → (a : load_answer B)
      → LoadGives parts bytes_of s old r tick a new → is_history s (past new) ≡ true
  load-legal pooled is h a c = load-by parts bytes_of s old new r tick _ _ a pooled h (omega (arith, is)) refl refl c

  pub loaded-moves : TellParts parts → r ≡ last_role s → (k : ℕ) (blank : B) → LoadGives parts bytes_of s old r tick (load.Loaded k blank) new
      → DrainMoves s tick old new
  loaded-moves tell is k blank c =
      let l = load-loaded parts bytes_of s old new r tick k blank (load_refusal s r (past old)) (grant s (past old) (s.need 0)) refl c in
      one-of s tick tick (plain (Load r k l.b l.n l.f l.g l.x)) old new (eq-eqb r (last_role s) is) (λ e. refl)
      (refl, isnt-away parts old l.b l.f l.x l.regrown tell) l.move

  pub loaded-holds : s.pooled ≡ true → r ≡ last_role s → IsIdle s old → (k : ℕ) (blank : B) → LoadGives parts bytes_of s old r tick (load.Loaded k blank) new
      → HasRoom bytes_of s r (load.Loaded k blank) new → HasFrame s k (bytes_of blank) new
  loaded-holds pooled is idle k blank c room =
      let l = load-loaded parts bytes_of s old new r tick k blank (load_refusal s r (past old)) (grant s (past old) (s.need 0)) refl c in
      let e = Load r k l.b l.n l.f l.g l.x in
      let hands_ : hands (past new) ≡ e ∷ let_go r (hands (past old)) = hands-moved s tick r (plain e) old new refl l.move in
      record {
        hand = e;
        holds = record {
          legal = load-legal pooled is idle.legal (load.Loaded k blank) c;
          only = hands_ ∙ ap (λ (hs : Past). e ∷ let_go r hs) idle.free;
          drain = eq-eqb r (last_role s) is;
        };
        loaded = and_from (eqb 0 0) (eqb k k) (eq-eqb 0 0 refl) (eq-eqb k k refl);
        granted = sym l.sized;
        there = l.there;
        room = room.0;
      }

  -- once the feed has ended there is but one answer
  ended-by : (ended full : Bool) (g : Answer) (a : load_answer B) → ended ≡ true
      → LoadAnswers parts bytes_of s old r tick (fed_refusal {B = B} ended full) g a new → a ≡ load.Ended
  ended-by true full g a e c = c.0
  ended-by false full g a e c = cc

  pub fed-ends : r ≡ last_role s → hands (past old) ≡ [] → IsFed s (past old) → (a : load_answer B)
      → LoadGives parts bytes_of s old r tick a new → a ≡ load.Ended
  fed-ends is idle fed a c =
      let most : length s.ids ≤ next_index (past old) = omega (arith, fed.offered) in
      ended-by _ _ _ a (le-leb (length s.ids) (next_index (past old)) most) (answers-so is idle a c)

-- a move leaves another board
pub other-board : (s : Setting) (at : ℕ) (t : Told) (b new old : BoardState) → b ≡ old → new ≡ moved_at s at t b → new ≡ old → ⊥
other-board s at t b new old same is back =
    let more = longer s at t b new is in
    omega (arith, more, ap (λ (x : BoardState). length (past x)) back, ap (λ (x : BoardState). length (past x)) same)

-- ISSUE

module _ (s : Setting) (old : BoardState) (r k size : ℕ) (is : r ≡ last_role s) (l : HasFrame s k size old) where
  up : takes_up r l.hand ≡ true
  up = subst (λ (i : ℕ). takes_up i l.hand ≡ true) (sym is) l.holds.drain

  pub held-frame : hand r (past old) ≡ Some l.hand
  held-frame = hand-one r l.hand (past old) l.holds.only up

  pub issue-taken : {F : Type 0} (E : Type 0) (name_of : F → FrameName) (f : F) (new : BoardState) (e : NotYours F) → name_of f ≡ frame 0 k
      → IssueGives {E = E} name_of s old r f (Err e) new → ⊥
  issue-taken E name_of f new e name c =
      false≢true (sym c.0
      ∙ (ap (λ (o : Option Entry). is_load_of (name_of f) o) held-frame ∙ (ap (λ (a : FrameName). is_load_of a (Some l.hand)) name ∙ l.loaded)))

  pub issue-idle : {F E : Type 0} (name_of : F → FrameName) (f : F) (new : BoardState) (done : E)
      → IssueGives {E = E} name_of s old r f (Ok done) new → IsIdle s new
  issue-idle {F} {E} name_of f new done c =
      record {
        legal = issue-by {E = E} name_of s old new r f (Ok done) l.holds.legal c;
        free = hands-moved s 0 r (plain (Issue r (name_of f).index)) old new refl c.1 ∙ let-one r l.hand (hands (past old)) l.holds.only up;
      }

  pub issue-moves : {F E : Type 0} (name_of : F → FrameName) (f : F) (new : BoardState) (done : E) (tick : ℕ)
      → IssueGives {E = E} name_of s old r f (Ok done) new → DrainMoves s tick old new
  issue-moves name_of f new done tick c =
      one-of s tick 0 (plain (Issue r (name_of f).index)) old new (eq-eqb r (last_role s) is) (λ e. absurd (false≢true e)) (refl, λ h. refl) c.1

-- CLOSE

closed-by : (s : Setting) (r : ℕ) (old new : BoardState) (b : Bool) → new ≡ (if b then old else moved_at s 0 (plain (Close r)) old)
    → ((b ≡ true) × (new ≡ old)) ⊎ (new ≡ moved_at s 0 (plain (Close r)) old)
closed-by s r old new true c = inl (refl, c)
closed-by s r old new false c = inr c

pub close-idle : (s : Setting) (r : ℕ) (old new : BoardState) (a : Settled) → r ≡ last_role s → IsIdle s old → CloseGives s old r a new → IsIdle s new
close-idle s r old new settled.NotYet is idle c =
    record { legal = close-by s old new r settled.NotYet idle.legal (omega (arith, is)) c; free = ap (λ (b : BoardState). hands (past b)) c.1 ∙ idle.free }
close-idle s r old new settled.Done is idle c =
    record {
      legal = close-by s old new r settled.Done idle.legal (omega (arith, is)) c;
      free = elim (closed-by s r old new (is_closed (past old)) c.1) [
        | inl same_ ↦ ap (λ (b : BoardState). hands (past b)) same_.1 ∙ idle.free
        | inr move ↦ hands-moved s 0 r (plain (Close r)) old new refl move ∙ idle.free
      ];
    }

pub close-moves : (s : Setting) (r tick : ℕ) (old new : BoardState) (a : Settled) → r ≡ last_role s → CloseGives s old r a new → DrainMoves s tick old new
close-moves s r tick old new settled.NotYet is c = no-move s tick old new c.1
close-moves s r tick old new settled.Done is c =
    elim (closed-by s r old new (is_closed (past old)) c.1) [
      | inl same_ ↦ no-move s tick old new same_.1
      | inr move ↦ one-of s tick 0 (plain (Close r)) old new (eq-eqb r (last_role s) is) (λ e. absurd (false≢true e)) (refl, λ h. refl) move
    ]

pub close-still : (s : Setting) (r : ℕ) (old new : BoardState) (a : Settled) → is_closed (past old) ≡ true → CloseGives s old r a new → new ≡ old
close-still s r old new settled.NotYet closed c = c.1
close-still s r old new settled.Done closed c = c.1 ∙ rw closed refl

-- once every frame was offered, a close that changes nothing was made before
pub close-fed : (s : Setting) (r : ℕ) (old new : BoardState) (a : Settled) → IsIdle s old → length s.ids ≤ next_index (past old)
    → CloseGives s old r a new → new ≡ old → IsFed s (past old)
close-fed s r old new settled.NotYet idle all c same_ =
    let most = next-most s (past old) (and_parts (is_legal s (past old)) _ idle.legal).0 in
    let whole : next_index (past old) ≡ length s.ids = omega (arith, most, all) in
    let none : waits_to_close s (past old) ≡ false = rw (eq-eqb (next_index (past old)) (length s.ids) whole, unloaded (past old) idle.free) refl in
    absurd (true≢false (sym c.0 ∙ none))
close-fed s r old new settled.Done idle all c same_ =
    let most = next-most s (past old) (and_parts (is_legal s (past old)) _ idle.legal).0 in
    elim (closed-by s r old new (is_closed (past old)) c.1) [
      | inl closed ↦ record { closed = closed.0; offered = omega (arith, most, all) }
      | inr move ↦ absurd (other-board s 0 (plain (Close r)) old new old refl move same_)
    ]

-- a frame on the storage that was granted may be issued
pub whole-frame : (s : Setting) (old : BoardState) (r k size : ℕ) → r ≡ last_role s → HasFrame s k size old → (f : Sealed)
    → (f.parts.size ≡ size) × (f.parts.here ≡ 2 ^ 32)
    → MayIssue name_of parts_of old r f
whole-frame s old r k size is l f parts_ = λ loaded.
    issue-whole (granted_size (hand r (past old))) size f (ap (λ (o : Option Entry). granted_size o) (held-frame s old r k size is l) ∙ l.granted) parts_

-- A ROUND OF THE FEED

pub same-idle : (s : Setting) (old new : BoardState) → new ≡ old → IsIdle s old → IsIdle s new
same-idle s old new is idle = subst (λ (b : BoardState). IsIdle s b) (sym is) idle

module _ {F B : Type 0} (parts : F → Option Parts)
    (bytes_of : B → ℕ) (s : Setting) (old mid : BoardState) (r tick : ℕ) (is : r ≡ last_role s) (idle : IsIdle s old) where
  -- a loaded frame
  pub loaded-on : TellParts parts → (k : ℕ) (blank : B) (new : BoardState) → LoadGives parts bytes_of s old r tick (load.Loaded k blank) mid
      → DrainMoves s tick mid new → DrainMoves s tick old new
  loaded-on tell k blank new c m = moves-on s tick old mid new (loaded-moves parts bytes_of s old mid r tick tell is k blank c) m

  pub loaded-other : TellParts parts → (k : ℕ) (blank : B) (new : BoardState) → LoadGives parts bytes_of s old r tick (load.Loaded k blank) mid
      → DrainMoves s tick mid new → new ≡ old → ⊥
  loaded-other tell k blank new c m same_ =
      let l = load-loaded parts bytes_of s old mid r tick k blank (load_refusal s r (past old)) (grant s (past old) (s.need 0)) refl c in
      other-board s tick (plain (Load r k l.b l.n l.f l.g l.x)) old mid old refl l.move
      (squeezed s tick old mid new (loaded-moves parts bytes_of s old mid r tick tell is k blank c) m same_)

  pub loaded-unfed : (k : ℕ) (blank : B) → LoadGives parts bytes_of s old r tick (load.Loaded k blank) mid → IsFed s (past old) → ⊥
  loaded-unfed k blank c fed =
      let a : load.Loaded k blank ≡ load.Ended = fed-ends parts bytes_of s old mid r tick is idle.free fed (load.Loaded k blank) c in absurd (cc)

  -- a frame that the pool refused
  pub refused-idle : s.pooled ≡ true → (k z : ℕ) → LoadGives parts bytes_of s old r tick (load.Refused k z) mid → IsIdle s mid
  refused-idle pooled k z c =
      record {
        legal = load-legal parts bytes_of s old mid r tick pooled is idle.legal (load.Refused k z) c;
        free =
            hands-moved s tick r (plain (LoadRefused r k (s.need 0) z)) old mid refl (refused-moves parts bytes_of s old mid r tick is idle.free k z c)
            ∙ idle.free;
      }

  pub refused-on : (k z : ℕ) → LoadGives parts bytes_of s old r tick (load.Refused k z) mid → DrainMoves s tick old mid
  refused-on k z c =
      one-of s tick tick (plain (LoadRefused r k (s.need 0) z)) old mid (eq-eqb r (last_role s) is)
      (λ e. refl) (refl, λ h. refl) (refused-moves parts bytes_of s old mid r tick is idle.free k z c)

  pub refused-other : (k z : ℕ) → LoadGives parts bytes_of s old r tick (load.Refused k z) mid → mid ≡ old → ⊥
  refused-other k z c =
      other-board s tick (plain (LoadRefused r k (s.need 0) z)) old mid old refl (refused-moves parts bytes_of s old mid r tick is idle.free k z c)

  pub refused-unfed : (k z : ℕ) → LoadGives parts bytes_of s old r tick (load.Refused k z) mid → IsFed s (past old) → ⊥
  refused-unfed k z c fed =
      let a : load.Refused k z ≡ load.Ended = fed-ends parts bytes_of s old mid r tick is idle.free fed (load.Refused k z) c in absurd (cc)

  -- a feed that waits
  pub waits-by : LoadGives parts bytes_of s old r tick load.NotYet mid → Waits s (past old)
  waits-by c =
      not-true _
      (and_parts s.wait (not (list_all (has_room s (past old)) (children s 0))) (tells parts bytes_of s old mid r tick is idle.free load.NotYet c).1).1

  -- the end of the feed
  ended-same : LoadGives parts bytes_of s old r tick load.Ended mid → mid ≡ old
  ended-same c = load-same parts bytes_of s old mid r tick load.Ended refl c

  pub ended-idle : (new : BoardState) (a : Settled) → LoadGives parts bytes_of s old r tick load.Ended mid → CloseGives s mid r a new → IsIdle s new
  ended-idle new a c d = close-idle s r mid new a is (same-idle s old mid (ended-same c) idle) d

  pub ended-on : (new : BoardState) (a : Settled) → LoadGives parts bytes_of s old r tick load.Ended mid → CloseGives s mid r a new → DrainMoves s tick old new
  ended-on new a c d = moves-on s tick old mid new (no-move s tick old mid (ended-same c)) (close-moves s r tick mid new a is d)

  pub ended-fed : (new : BoardState) (a : Settled) → LoadGives parts bytes_of s old r tick load.Ended mid
      → CloseGives s mid r a new → new ≡ old → IsFed s (past old)
  ended-fed new a c d same_ =
      let here : mid ≡ old = ended-same c in
      let all : length s.ids ≤ next_index (past old) =
      leb-true (length s.ids) (next_index (past old)) (tells parts bytes_of s old mid r tick is idle.free load.Ended c) in
      let all_mid : length s.ids ≤ next_index (past mid) = subst (λ (b : BoardState). length s.ids ≤ next_index (past b)) (sym here) all in
      subst (λ (b : BoardState). IsFed s (past b)) here (close-fed s r mid new a (same-idle s old mid here idle) all_mid d (same_ ∙ sym here))

  pub ended-still : (new : BoardState) (a : Settled) → LoadGives parts bytes_of s old r tick load.Ended mid
      → CloseGives s mid r a new → IsFed s (past old) → new ≡ old
  ended-still new a c d fed =
      let here : mid ≡ old = ended-same c in
      close-still s r mid new a (subst (λ (b : BoardState). is_closed (past b) ≡ true) (sym here) fed.closed) d ∙ here
