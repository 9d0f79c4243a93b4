-- What the feeder's calls leave of its pass.
use Rattle.std.proofs.Common.{◌≡◌, ◌⊎◌, ℕ, ◌<◌, Bool, true, false, not, ◌&&◌, ◌||◌, cond, leb, ◌++◌, length, refl, sym, ap, ◌∙◌, arith, Option, Some, None}
use Rattle.std.proofs.Common.{Ok, Err, inl, inr}
use Rattle.std.specs.List.{list_all}
use Rattle.std.proofs.lemmas.Bool.{cases_Bool, eq-eqb, false≢true, and_parts, and_from, leb-false}
use Rattle.nd_base.specs.Parts.{Parts}
use Rattle.nd_base.specs.declared.frame.FrameName.{FrameName}
use Rattle.pool_ledger.specs.Grants.{Answer, Granted}
use Rattle.pool_ledger.specs.Grants as pool
use Rattle.flow_journal.specs.declared.entry.Entry.{Entry}
use Rattle.flow_journal.specs.declared.entry.Entry.TheVariants.{Load, LoadRefused, Issue, Close}
use Rattle.flow_journal.specs.Setting.{Setting, children}
use Rattle.flow_journal.specs.Pasts.{frame}
use Rattle.flow_journal.specs.Hands.{hand, is_free}
use Rattle.flow_journal.specs.Ended.{closes, is_closed, has_left_any}
use Rattle.flow_journal.specs.Offered.{next_index}
use Rattle.flow_journal.specs.Queued.{has_room}
use Rattle.flow_journal.specs.Accounts.{grant}
use Rattle.flow_journal.specs.FirstEntries.{has_loaded}
use Rattle.flow_journal.proofs.Changes.{hand_laws}
use Rattle.board_rules.specs.declared.answers.Load.{Load as load_answer}
use Rattle.board_rules.specs.declared.answers.Load.TheVariants as load
use Rattle.board_rules.specs.declared.answers.NotYours.{NotYours}
use Rattle.board_rules.specs.declared.answers.Settled.TheVariants as settled
use Rattle.board_rules.specs.States.{BoardState, past, plain}
use Rattle.board_rules.specs.Moving.{moved_at}
use Rattle.board_rules.specs.Storage.{IsRegrown}
use Rattle.board_rules.specs.InHand.{is_load_of}
use Rattle.board_rules.specs.Feeding.{is_sent_away, load_refusal, LoadAnswers, LoadGives, HasRoom, IssueGives, CloseGives}
use Rattle.board_rules.proofs.Legal.{may_load}
use Rattle.flow_roles.specs.declared.last.Said.{Said}
use Rattle.flow_roles.specs.Lasts.{said_load, said_given, said_close}
use Rattle.flow_roles.specs.Passes.{Pass, Called}
use Rattle.flow_roles.specs.RoleMoves.{feeder_logs, HasNothing}
use Rattle.flow_roles.specs.RoleEnds.{feeder_ends}
use Rattle.flow_roles.specs.Feeder.{HasLoaded}
use Rattle.flow_roles.proofs.Calls.{here, unmoved, moved, hand-before, role-after}
use Rattle.flow_roles.proofs.RoleCalls.{feeder-quiet, kept}

-- WHAT A LOAD ANSWERS

-- an answer that changes nothing
abbrev pub is_still : {B : Type 0} → load_answer B → Bool
is_still load.Left = true
is_still load.Busy = true
is_still load.Ended = true
is_still load.NotYet = true
is_still load.OutOfMemory = true
is_still (load.Refused k h) = false
is_still (load.Loaded k blank) = false

abbrev pub no_refusal : (B : Type 0) → Option (load_answer B)
no_refusal B = None

pub load-still : {F B : Type 0} (parts : F → Option Parts)
    (bytes_of : B → ℕ) (s : Setting) (old new : BoardState) (r tick : ℕ) (o : Option (load_answer B)) (g : Answer)
    (a : load_answer B) → is_still a ≡ true → LoadAnswers parts bytes_of s old r tick o g a new → new ≡ old
load-still parts bytes_of s old new r tick (Some x) g a h c = c.1
load-still parts bytes_of s old new r tick None (Granted b n f g) load.OutOfMemory h c = c.1
load-still parts bytes_of s old new r tick None (Granted b n f g) load.Left h c = absurd c
load-still parts bytes_of s old new r tick None (Granted b n f g) load.Busy h c = absurd c
load-still parts bytes_of s old new r tick None (Granted b n f g) load.Ended h c = absurd c
load-still parts bytes_of s old new r tick None (Granted b n f g) load.NotYet h c = absurd c
load-still parts bytes_of s old new r tick None (Granted b n f g) (load.Refused k z) h c = absurd (false≢true h)
load-still parts bytes_of s old new r tick None (Granted b n f g) (load.Loaded k blank) h c = absurd (false≢true h)
load-still parts bytes_of s old new r tick None pool.Refused load.OutOfMemory h c = absurd c
load-still parts bytes_of s old new r tick None pool.Refused load.Left h c = absurd c
load-still parts bytes_of s old new r tick None pool.Refused load.Busy h c = absurd c
load-still parts bytes_of s old new r tick None pool.Refused load.Ended h c = absurd c
load-still parts bytes_of s old new r tick None pool.Refused load.NotYet h c = absurd c
load-still parts bytes_of s old new r tick None pool.Refused (load.Refused k z) h c = absurd (false≢true h)
load-still parts bytes_of s old new r tick None pool.Refused (load.Loaded k blank) h c = absurd (false≢true h)

left-by : {B : Type 0} (away busy ended full : Bool)
    → Some load.Left ≡ cond away (Some load.Left) (cond busy (Some load.Busy) (cond ended (Some load.Ended) (cond full (Some load.NotYet) (no_refusal B))))
    → away ≡ true
left-by true busy ended full h = refl
left-by false true ended full h = cc
left-by false false true full h = cc
left-by false false false true h = cc
left-by false false false false h = cc

loaded-by : {B : Type 0} (k : ℕ) (blank : B) (away busy ended full : Bool)
    → Some (load.Loaded k blank)
    ≡ cond away (Some load.Left) (cond busy (Some load.Busy) (cond ended (Some load.Ended) (cond full (Some load.NotYet) (no_refusal B)))) → ⊥
loaded-by k blank true busy ended full h = cc
loaded-by k blank false true ended full h = cc
loaded-by k blank false false true full h = cc
loaded-by k blank false false false true h = cc
loaded-by k blank false false false false h = cc

-- the answer that some role has left is so
load-left : {F B : Type 0} (parts : F → Option Parts)
    (bytes_of : B → ℕ) (s : Setting) (old new : BoardState) (r tick : ℕ) (o : Option (load_answer B)) (g : Answer)
    → load_refusal s r (past old) ≡ o → LoadAnswers parts bytes_of s old r tick o g load.Left new → has_left_any (past old) ≡ true
load-left {F} {B} parts bytes_of s old new r tick (Some x) g is c =
    let away = left-by {B = B} (is_sent_away s r (past old)) (has_loaded (past old) || not (is_free r (past old))) (leb (length s.ids) (next_index (past old)))
    (s.wait && not (list_all (has_room s (past old)) (children s 0))) (ap Some c.0 ∙ sym is) in
    (and_parts (has_left_any (past old)) _ away).0
load-left parts bytes_of s old new r tick None (Granted b n f g) is c = absurd c
load-left parts bytes_of s old new r tick None pool.Refused is c = absurd c

-- a refused frame: nothing changed, or it is a move
pub load-refused : {F B : Type 0} (parts : F → Option Parts)
    (bytes_of : B → ℕ) (s : Setting) (old new : BoardState) (r tick k z : ℕ) (o : Option (load_answer B)) (g : Answer)
    → LoadAnswers parts bytes_of s old r tick o g (load.Refused k z) new → (new ≡ old) ⊎ (new ≡ moved_at s tick (plain (LoadRefused r k (s.need 0) z)) old)
load-refused parts bytes_of s old new r tick k z (Some x) g c = inl c.1
load-refused parts bytes_of s old new r tick k z None pool.Refused c = inr c.2
load-refused parts bytes_of s old new r tick k z None (Granted b n f g) c = absurd c

-- what is known of a loaded frame
pub record Loaded {F : Type 0} (parts : F → Option Parts) (s : Setting) (old new : BoardState) (r tick k size : ℕ) : Type 0 where
  pub n : ℕ
  pub b : ℕ
  pub f : Bool
  pub g : ℕ
  pub x : Bool
  pub regrown : IsRegrown parts old b f x
  pub sized : size ≡ n
  pub there : k < length s.ids
  pub move : new ≡ moved_at s tick (plain (Load r k b n f g x)) old

pub load-loaded : {F B : Type 0} (parts : F → Option Parts)
    (bytes_of : B → ℕ) (s : Setting) (old new : BoardState) (r tick k : ℕ) (blank : B) (o : Option (load_answer B)) (g : Answer)
    → load_refusal s r (past old) ≡ o → LoadAnswers parts bytes_of s old r tick o g (load.Loaded k blank) new → Loaded parts s old new r tick k (bytes_of blank)
load-loaded {F} {B} parts bytes_of s old new r tick k blank (Some x) g is c =
    absurd (loaded-by {B = B} k blank (is_sent_away s r (past old)) (has_loaded (past old) || not (is_free r (past old)))
    (leb (length s.ids) (next_index (past old)))
    (s.wait && not (list_all (has_room s (past old)) (children s 0))) (ap Some c.0 ∙ sym is))
load-loaded {F} {B} parts bytes_of s old new r tick k blank None (Granted b n f g) is c =
    let more = leb-false (length s.ids) (next_index (past old)) (may_load {B = B} s r (past old) is).more in
    record { n = n; b = b; f = f; g = g; x = c.2.0; regrown = c.2.1; sized = c.1; there = omega (arith, more, c.0); move = c.2.2 }
load-loaded parts bytes_of s old new r tick k blank None pool.Refused is c = absurd c

-- THE FEEDER'S LOADS

module _ {F B : Type 0} (parts : F → Option Parts) (bytes_of : B → ℕ) (s : Setting) (tick : ℕ) (old new : Pass) (n : HasNothing feeder_logs 0 old) where
  pub load-goes : (a : load_answer B) → is_still a ≡ true
      → Called s (λ x y. LoadGives parts bytes_of s x 0 tick a y) (said_load a tick) old new → HasNothing feeder_logs 0 new
  load-goes a still c =
      let g = λ (x y : BoardState). LoadGives parts bytes_of s x 0 tick a y in
      let b = here s g (said_load a tick) old new 0 n.role c in
      let same = load-still parts bytes_of s b new.seen 0 tick (load_refusal s 0 (past b)) (grant s (past b) (s.need 0)) a still c.answer in
      kept feeder_logs 0 old new (role-after s g (said_load a tick) old new 0 n.role c) (unmoved s g (said_load a tick) old new 0 n.role c same) n

  pub load-left-seen : Called s (λ x y. LoadGives parts bytes_of s x 0 tick load.Left y) (said_load {B = B} load.Left tick) old new
      → feeder_ends new.said.last (past new.seen) false ≡ true
  load-left-seen c =
      let g = λ (x y : BoardState). LoadGives parts bytes_of s x 0 tick load.Left y in
      let b = here s g (said_load {B = B} load.Left tick) old new 0 n.role c in
      let same = load-still parts bytes_of s b new.seen 0 tick (load_refusal s 0 (past b)) (grant s (past b) (s.need 0)) load.Left refl c.answer in
      let left = load-left parts bytes_of s b new.seen 0 tick (load_refusal s 0 (past b)) (grant s (past b) (s.need 0)) refl c.answer in
      ap (λ (said : Said). feeder_ends said.last (past new.seen) false) c.said ∙ (ap (λ (w : BoardState). has_left_any (past w)) same ∙ left)

  pub load-refuses : (k z : ℕ) → Called s (λ x y. LoadGives parts bytes_of s x 0 tick (load.Refused k z) y) (said_load {B = B} (load.Refused k z) tick) old new
      → HasNothing feeder_logs 0 new
  load-refuses k z c =
      let answers = said_load {B = B} (load.Refused k z) tick in
      let g = λ (x y : BoardState). LoadGives parts bytes_of s x 0 tick (load.Refused k z) y in
      let b = here s g answers old new 0 n.role c in
      let role_ = role-after s g answers old new 0 n.role c in
      elim (load-refused parts bytes_of s b new.seen 0 tick k z (load_refusal s 0 (past b)) (grant s (past b) (s.need 0)) c.answer) [
        | inl same_ ↦ kept feeder_logs 0 old new role_ (unmoved s g answers old new 0 n.role c same_) n
        | inr move ↦
            let m = moved s g answers old new 0 n.role c feeder_logs tick (plain (LoadRefused 0 k (s.need 0) z)) move refl feeder-quiet refl n.moves in
            record { role = role_; moves = m.moves; free = m.hand ∙ (hand-before s g answers old new 0 n.role c ∙ n.free) }
      ]

  pub load-loads : (k : ℕ) (blank : B)
      → Called s (λ x y. LoadGives parts bytes_of s x 0 tick (load.Loaded k blank) y) (said_load (load.Loaded k blank) tick) old new
      → HasRoom bytes_of s 0 (load.Loaded k blank) new.made → HasLoaded s k (bytes_of blank) new
  load-loads k blank c room =
      let answers = said_load (load.Loaded k blank) tick in
      let g = λ (x y : BoardState). LoadGives parts bytes_of s x 0 tick (load.Loaded k blank) y in
      let b = here s g answers old new 0 n.role c in
      let l = load-loaded parts bytes_of s b new.seen 0 tick k blank (load_refusal s 0 (past b)) (grant s (past b) (s.need 0)) refl c.answer in
      let m = moved s g answers old new 0 n.role c feeder_logs tick (plain (Load 0 k l.b l.n l.f l.g l.x)) l.move refl feeder-quiet refl n.moves in
      record {
        role = role-after s g answers old new 0 n.role c;
        moves = m.moves;
        loaded = ap (λ (o : Option Entry). is_load_of (frame 0 k) o) m.hand ∙ and_from _ _ (eq-eqb 0 0 refl) (eq-eqb k k refl);
        granted = sym room.1;
        there = l.there;
        room = room.0;
      }

-- ISSUE AND CLOSE

-- the hand of a loaded frame isn't another one
pub issue-goes : {F E : Type 0} (name_of : F → FrameName) (s : Setting) (k size : ℕ) (f : F) (done : E) (old new : Pass) → HasLoaded s k size old
    → Called s (λ x y. IssueGives {E = E} name_of s x 0 f (Ok done) y) (said_given {F = F} {E = E} (Ok done)) old new → HasNothing feeder_logs 0 new
issue-goes {F} {E} name_of s k size f done old new l c =
    let g = λ (x y : BoardState). IssueGives {E = E} name_of s x 0 f (Ok done) y in
    let answers = said_given {F = F} {E = E} (Ok done) in
    let m = moved s g answers old new 0 l.role c feeder_logs 0 (plain (Issue 0 (name_of f).index)) c.answer.1 refl feeder-quiet refl l.moves in
    record {
      role = role-after s g answers old new 0 l.role c;
      moves = m.moves;
      free = m.hand ∙ hand_laws.down s 0 (Issue 0 (name_of f).index) (past (c.between ++ old.seen)) m.legal refl;
    }

pub issue-takes : {F : Type 0} (E : Type 0) (name_of : F → FrameName) (s : Setting) (k size : ℕ) (f : F) (e : NotYours F) (old new : Pass)
    → HasLoaded s k size old → name_of f ≡ frame 0 k
    → Called s (λ x y. IssueGives {E = E} name_of s x 0 f (Err e) y) (said_given {F = F} {E = E} (Err e)) old new → ⊥
issue-takes {F} E name_of s k size f e old new l name c =
    let g = λ (x y : BoardState). IssueGives {E = E} name_of s x 0 f (Err e) y in
    let same_ = hand-before s g (said_given {F = F} {E = E} (Err e)) old new 0 l.role c in
    false≢true (sym c.answer.0
    ∙ (ap (λ (o : Option Entry). is_load_of (name_of f) o) same_ ∙ (ap (λ (a : FrameName). is_load_of a (hand 0 (past old.made))) name ∙ l.loaded)))

pub close-goes : (s : Setting) (old new : Pass) → HasNothing feeder_logs 0 old
    → Called s (λ x y. CloseGives s x 0 settled.NotYet y) (said_close settled.NotYet) old new → HasNothing feeder_logs 0 new
close-goes s old new n c =
    let g = λ (x y : BoardState). CloseGives s x 0 settled.NotYet y in
    let answers = said_close settled.NotYet in
    kept feeder_logs 0 old new (role-after s g answers old new 0 n.role c) (unmoved s g answers old new 0 n.role c c.answer.1) n

pub close-ends : (s : Setting) (old new : Pass) → HasNothing feeder_logs 0 old
    → Called s (λ x y. CloseGives s x 0 settled.Done y) (said_close settled.Done) old new
    → HasNothing feeder_logs 0 new × (feeder_ends new.said.last (past new.seen) false ≡ true)
close-ends s old new n c =
    let answers = said_close settled.Done in
    let g = λ (x y : BoardState). CloseGives s x 0 settled.Done y in
    let b = here s g answers old new 0 n.role c in
    let role_ = role-after s g answers old new 0 n.role c in
    let last_ = ap (λ (said : Said). feeder_ends said.last (past new.seen) false) c.said in
    elim (cases_Bool (is_closed (past b))) [
      | inl closed ↦
          let same : new.seen ≡ b = c.answer.1 ∙ rw closed refl in (
            kept feeder_logs 0 old new role_ (unmoved s g answers old new 0 n.role c same) n,
            last_ ∙ (ap (λ (w : BoardState). is_closed (past w)) same ∙ closed),
          )
      | inr open_ ↦
          let m = moved s g answers old new 0 n.role c feeder_logs 0 (plain (Close 0)) (c.answer.1 ∙ rw open_ refl) refl feeder-quiet refl n.moves in
          (record { role = role_; moves = m.moves; free = m.hand ∙ (hand-before s g answers old new 0 n.role c ∙ n.free) }, last_ ∙ m.seen closes refl)
    ]
