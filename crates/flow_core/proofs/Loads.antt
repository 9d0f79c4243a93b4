-- What a load gives, and what it leaves.
use Rattle.std.proofs.Common.{◌≡◌, ◌≤◌, ◌∙◌, ℕ, true, Bool, List, Option, Some, None, refl, sym, ap, subst}
use Rattle.std.specs.Prelude.{IsTrue}
use Rattle.std.proofs.lemmas.Bool.{eq-eqb}
use Rattle.nd_base.specs.declared.frame.FrameName.{FrameName}
use Rattle.nd_base.specs.Parts.{Parts}
use Rattle.pool_ledger.specs.Grants.{Answer, Granted}
use Rattle.pool_ledger.specs.Grants as pool
use Rattle.flow_journal.specs.declared.entry.Entry.{Entry}
use Rattle.flow_journal.specs.declared.entry.Entry.TheVariants.{Load, LoadRefused}
use Rattle.flow_journal.specs.Setting.{Setting, last_role}
use Rattle.flow_journal.specs.Hands.{hand}
use Rattle.flow_journal.specs.Accounts.{grant, held}
use Rattle.flow_journal.specs.Offered.{next_index}
use Rattle.flow_journal.specs.Histories.{is_history}
use Rattle.pool_account.specs.Account.{given_up_for}
use Rattle.board_rules.specs.declared.answers.Load.{Load as load_answer}
use Rattle.board_rules.specs.declared.answers.Load.TheVariants as load
use Rattle.board_rules.specs.States.{BoardState, past, plain}
use Rattle.board_rules.specs.Moving.{moved_at}
use Rattle.board_rules.specs.InHand.{granted_size, TellParts}
use Rattle.board_rules.specs.Storage.{wants_storage}
use Rattle.board_rules.specs.Feeding.{load_refusal, LoadAnswers, LoadGives, HasRoom}
use Rattle.board_rules.specs.Reusing.{ReusesStorage, LoadReuses}
use Rattle.board_rules.proofs.Legal.{load-by}
use Rattle.frame_table.specs.Kept.{Kept, without_kept, with_room}
use Rattle.run_course.specs.Courses.{Coursed}
use Rattle.kept_blocks.specs.Keeping.{HoldsBlocks}
use Rattle.kept_blocks.specs.GrantLaws.{GrantLaws, IsGranted}
use Rattle.kept_blocks.specs.LookLaws.{LookLaws}
use Rattle.kept_blocks.specs.MoveLaws.{MoveLaws}
use Rattle.flow_core.specs.Boards.{IsBoard, IsRemade, IsSameStorage, with_storage}
use Rattle.flow_core.proofs.Answered.{enough}
use Rattle.flow_core.proofs.Boarding.{board-moved, legal-of}
use Rattle.flow_core.proofs.Places.{room-there}
use Rattle.flow_core.proofs.Stored.{remade-regrown, storage-reused, roomy, given-emptied}

-- where this stands against a load, and the pool answers so
pub load-gives : {F B : Type 0} (parts : F → Option Parts) (bytes_of : B → ℕ) (s : Setting) (old new : BoardState) (r tick : ℕ) (o : Option (load_answer B))
    (g : Answer) (a : load_answer B) → load_refusal {B = B} s r (past old) ≡ o → grant s (past old) (s.need 0) ≡ g
    → LoadAnswers parts bytes_of s old r tick o g a new → LoadGives parts bytes_of s old r tick a new
load-gives {F} {B} parts bytes_of s old new r tick o g a none given c =
    subst (λ (o' : Option (load_answer B)). LoadAnswers parts bytes_of s old r tick o' (grant s (past old) (s.need 0)) a new) (sym none)
    (subst (λ (g' : Answer). LoadAnswers parts bytes_of s old r tick o g' a new) (sym given) c)

-- a frame that is loaded
pub record LoadsOn {F B : Type 0} (parts : F → Option Parts) (bytes_of : B → ℕ) (s : Setting) (w : Coursed) (t : List Kept)
    (r b z : ℕ) (f : Bool) (g : ℕ) (x : Bool) (blank : B) : Type 0 where
  pub board : IsBoard parts s w t
  pub role : r ≤ last_role s
  pub allowed : load_refusal {B = B} s r (past w.told) ≡ None
  pub granted : grant s (past w.told) (s.need 0) ≡ Granted b z f g
  pub size : bytes_of blank ≡ z
  pub remade : IsRemade z b f t x

abbrev pub granting : {F B : Type 0} (parts : F → Option Parts) (bytes_of : B → ℕ) (s : Setting) (w : Coursed) (t : List Kept)
    (r b z : ℕ) (f : Bool) (g : ℕ) (x : Bool) (blank : B) → LoadsOn parts bytes_of s w t r b z f g x blank → IsGranted parts s w.told t (s.need 0) b z f g
granting parts bytes_of s w t r b z f g x blank l = record { run = l.board.run; holds = l.board.holds; granted = l.granted }

pub loaded-gives : {F B : Type 0} (parts : F → Option Parts) (bytes_of : B → ℕ) (laws : GrantLaws parts) (s : Setting) (w : Coursed) (t : List Kept)
    (r tick b z : ℕ) (f : Bool) (g : ℕ) (x : Bool) (blank : B) (k : ℕ) (new : BoardState) → LoadsOn parts bytes_of s w t r b z f g x blank
    → k ≡ next_index (past w.told) → new ≡ moved_at s tick (plain (Load r (next_index (past w.told)) b z f g x)) w.told
    → LoadGives parts bytes_of s w.told r tick (load.Loaded k blank) new
loaded-gives parts bytes_of laws s w t r tick b z f g x blank k new l turn is =
    load-gives parts bytes_of s w.told new r tick None (Granted b z f g) (load.Loaded k blank) l.allowed l.granted (
      turn,
      l.size,
      (
        x,
        remade-regrown parts laws s w.told t (s.need 0) b z f g x (granting parts bytes_of s w t r b z f g x blank l) l.remade,
        is ∙ ap (λ (i : ℕ). moved_at s tick (plain (Load r i b z f g x)) w.told) (sym turn),
      ),
    )

pub loaded-history : {F B : Type 0} (parts : F → Option Parts) (bytes_of : B → ℕ) (laws : GrantLaws parts) (s : Setting) (w : Coursed) (t : List Kept)
    (r tick b z : ℕ) (f : Bool) (g : ℕ) (x : Bool) (blank : B) → LoadsOn parts bytes_of s w t r b z f g x blank
    → is_history s (past (moved_at s tick (plain (Load r (next_index (past w.told)) b z f g x)) w.told)) ≡ true
loaded-history {F} {B} parts bytes_of laws s w t r tick b z f g x blank l =
    load-by {F = F} {B = B} parts bytes_of s w.told (moved_at s tick (plain (Load r (next_index (past w.told)) b z f g x)) w.told) r tick None (Granted b z f g)
    (load.Loaded (next_index (past w.told)) blank) l.board.run.pooled l.board.run.history l.role l.allowed l.granted
    (refl, l.size, (x, remade-regrown parts laws s w.told t (s.need 0) b z f g x (granting parts bytes_of s w t r b z f g x blank l) l.remade, refl))

pub loaded-board : {F B : Type 0} (parts : F → Option Parts) (bytes_of : B → ℕ) (laws : GrantLaws parts) (s : Setting) (w w' : Coursed) (t t' : List Kept)
    (r tick b z : ℕ) (f : Bool) (g : ℕ) (x : Bool) (blank : B) → LoadsOn parts bytes_of s w t r b z f g x blank
    → w' ≡ record w { told = moved_at s tick (plain (Load r (next_index (past w.told)) b z f g x)) w.told }
    → t' ≡ without_kept (given_up_for s (past w.told) f g) (with_storage b f t) → IsBoard parts s w' t'
loaded-board parts bytes_of laws s w w' t t' r tick b z f g x blank l is kept =
    let i = granting parts bytes_of s w t r b z f g x blank l in
    let new = moved_at s tick (plain (Load r (next_index (past w.told)) b z f g x)) w.told in
    let history = loaded-history parts bytes_of laws s w t r tick b z f g x blank l in
    board-moved parts s w w' new t t' l.board is history
    (subst (λ (u : List Kept). HoldsBlocks parts s new u) (sym (kept ∙ given-emptied parts laws s w.told t t (s.need 0) b z f g i (λ e. e)))
    (laws.load s w.told (with_room t b) tick r (next_index (past w.told)) (s.need 0) b z f g x (roomy parts laws s w.told t (s.need 0) b z f g i)
    (room-there t b (laws.next s w.told t (s.need 0) b z f g i)) (legal-of s new history)))

pub loaded-room : {F B : Type 0} (parts : F → Option Parts) (bytes_of : B → ℕ) (look : LookLaws parts) (s : Setting) (w : Coursed) (t : List Kept)
    (r tick b z : ℕ) (f : Bool) (g : ℕ) (x : Bool) (blank : B) (k : ℕ) (new : BoardState) → LoadsOn parts bytes_of s w t r b z f g x blank
    → new ≡ moved_at s tick (plain (Load r (next_index (past w.told)) b z f g x)) w.told → HasRoom bytes_of s r (load.Loaded k blank) new
loaded-room parts bytes_of look s w t r tick b z f g x blank k new l is =
    let e = plain (Load r (next_index (past w.told)) b z f g x) in
    let has = (look.handed s w.told tick r e (eq-eqb r r refl)).0 in
    let hold : hand r (past new) ≡ Some (Load r (next_index (past w.told)) b z f g x) = ap (λ (u : BoardState). hand r (past u)) is ∙ has in
    (subst (λ n. s.need 0 ≤ n) (sym l.size) (enough s (past w.told) (s.need 0) b z f g l.board.run.pooled l.granted), l.size ∙ sym (ap granted_size hold))

pub loaded-reuses : {F B : Type 0} (parts : F → Option Parts) (is_used : B → Bool) (look : LookLaws parts) (laws : GrantLaws parts)
    (s : Setting) (w : Coursed) (t : List Kept) (r tick b z : ℕ) (f : Bool) (g : ℕ) (x : Bool) (blank : B) (k : ℕ) (new : BoardState)
    → IsGranted parts s w.told t (s.need 0) b z f g → IsSameStorage b f t x (is_used blank)
    → new ≡ moved_at s tick (plain (Load r (next_index (past w.told)) b z f g x)) w.told
    → LoadReuses parts is_used w.told r (load.Loaded k blank) new
loaded-reuses parts is_used look laws s w t r tick b z f g x blank k new i same_ is =
    let e = plain (Load r (next_index (past w.told)) b z f g x) in
    let has = (look.handed s w.told tick r e (eq-eqb r r refl)).0 in
    let hold : hand r (past new) ≡ Some (Load r (next_index (past w.told)) b z f g x) = ap (λ (u : BoardState). hand r (past u)) is ∙ has in
    subst (λ (o : Option Entry). ReusesStorage parts is_used w.told o blank) (sym hold)
    (storage-reused parts is_used laws s w.told t (s.need 0) b z f g x blank i same_)

-- A FRAME THAT THE POOL REFUSES
pub refused-gives : {F B : Type 0} (parts : F → Option Parts) (bytes_of : B → ℕ) (s : Setting) (old new : BoardState) (r tick k h : ℕ)
    → load_refusal {B = B} s r (past old) ≡ None → grant s (past old) (s.need 0) ≡ pool.Refused → k ≡ next_index (past old) → h ≡ held s (past old)
    → new ≡ moved_at s tick (plain (LoadRefused r (next_index (past old)) (s.need 0) (held s (past old)))) old
    → LoadGives parts bytes_of s old r tick (load.Refused k h) new
refused-gives parts bytes_of s old new r tick k h none given turn holds is =
    load-gives parts bytes_of s old new r tick None pool.Refused (load.Refused k h) none given (
      turn,
      holds,
      is ∙ (ap (λ (i : ℕ). moved_at s tick (plain (LoadRefused r i (s.need 0) (held s (past old)))) old) (sym turn)
          ∙ ap (λ (i : ℕ). moved_at s tick (plain (LoadRefused r k (s.need 0) i)) old) (sym holds)),
    )

pub refused-board : {F B : Type 0} (O : Type 0) (name_of : F → FrameName) (parts : F → Option Parts)
    (bytes_of : B → ℕ) (moves : MoveLaws O name_of parts bytes_of) (s : Setting) (w w' : Coursed) (t : List Kept) (r tick : ℕ) → IsBoard parts s w t
    → r ≤ last_role s → load_refusal {B = B} s r (past w.told) ≡ None → grant s (past w.told) (s.need 0) ≡ pool.Refused
    → w' ≡ record w { told = moved_at s tick (plain (LoadRefused r (next_index (past w.told)) (s.need 0) (held s (past w.told)))) w.told }
    → IsBoard parts s w' t
refused-board {F} {B} O name_of parts bytes_of moves s w w' t r tick i role none given is =
    let e = LoadRefused r (next_index (past w.told)) (s.need 0) (held s (past w.told)) in
    let new = moved_at s tick (plain e) w.told in
    let history : is_history s (past new) ≡ true =
    load-by {F = F} {B = B} parts bytes_of s w.told new r tick None pool.Refused
    (load.Refused (next_index (past w.told)) (held s (past w.told))) i.run.pooled i.run.history role none given (refl, refl, refl) in
    board-moved parts s w w' new t t i is history (moves.still s w.told t tick e i.run i.holds refl (legal-of s new history))

-- NO MEMORY
pub no_memory-gives : {F B : Type 0} (parts : F → Option Parts) (bytes_of : B → ℕ) (s : Setting) (old new : BoardState) (r tick b z : ℕ) (f : Bool) (g : ℕ)
    → load_refusal {B = B} s r (past old) ≡ None → grant s (past old) (s.need 0) ≡ Granted b z f g
    → (TellParts parts → IsTrue (wants_storage old (Granted b z f g))) → new ≡ old
    → LoadGives parts bytes_of s old r tick load.OutOfMemory new
no_memory-gives parts bytes_of s old new r tick b z f g none given wants same_ =
    load-gives parts bytes_of s old new r tick None (Granted b z f g) load.OutOfMemory none given (wants, same_)
