-- What a take gives, and what it leaves.
use Rattle.std.proofs.Common.{◌≡◌, ◌≢◌, ◌≤◌, ◌<◌, ◌∙◌, ℕ, [], ◌∷◌, true, false, Bool, List, Option, Some, None, length, refl, sym, ap, subst, cond, arith}
use Rattle.std.proofs.Common.{ltb, ◌++◌, length-append, inl, inr, if◌then◌else◌}
use Rattle.std.specs.Prelude.{IsTrue}
use Rattle.std.proofs.lemmas.Bool.{eq-eqb}
use Rattle.nd_base.specs.declared.frame.FrameName.{FrameName}
use Rattle.nd_base.specs.Parts.{Parts}
use Rattle.pool_ledger.specs.Grants.{Answer, Granted}
use Rattle.pool_ledger.specs.Grants as pool
use Rattle.flow_journal.specs.declared.entry.Entry.{Entry}
use Rattle.flow_journal.specs.declared.entry.Entry.TheVariants.{Take, PoolDrop}
use Rattle.flow_journal.specs.Setting.{Setting, is_maker, last_role}
use Rattle.flow_journal.specs.Hands.{hand}
use Rattle.flow_journal.specs.Accounts.{block_of, grant, held}
use Rattle.flow_journal.specs.FirstEntries.{is_next}
use Rattle.flow_journal.specs.Finished.{none_left}
use Rattle.flow_journal.specs.Histories.{is_history}
use Rattle.flow_journal.specs.Queued.{queued}
use Rattle.pool_account.specs.Account.{given_up_for}
use Rattle.board_rules.specs.declared.answers.Take.{Take as take_answer}
use Rattle.board_rules.specs.declared.answers.Take.TheVariants as take
use Rattle.board_rules.specs.States.{BoardState, past, plain, lends, lent_to, take_block}
use Rattle.board_rules.specs.Moving.{moved}
use Rattle.board_rules.specs.InHand.{granted_size, TellParts}
use Rattle.board_rules.specs.Storage.{wants_storage, IsRegrown}
use Rattle.board_rules.specs.Working.{take_refusal, asked, TakeAnswers, TakeGives, LendsJob}
use Rattle.board_rules.specs.Reusing.{IsReused, ReusesStorage, TakeReuses}
use Rattle.board_rules.proofs.Legal.{take-by, may_take}
use Rattle.frame_table.specs.Kept.{IsRefused, IsMadeAnew, IsAway, at_home, was_used, Kept, Empty, kept_at, with_kept, with_room, IsPartOf, MayLend}
use Rattle.frame_table.specs.Kept.{MayGiveBack, less_one, united, without_kept}
use Rattle.run_course.specs.Courses.{Coursed}
use Rattle.kept_blocks.specs.Keeping.{HoldsBlocks}
use Rattle.kept_blocks.specs.GrantLaws.{GrantLaws, IsGranted}
use Rattle.kept_blocks.specs.LookLaws.{LookLaws, IsWithinBlock}
use Rattle.kept_blocks.specs.MoveLaws.{MoveLaws}
use Rattle.kept_blocks.proofs.Holding.{at-other, same-length}
use Rattle.flow_core.specs.Boards.{IsBoard, IsRemade, IsSameStorage, IsNotStored, with_storage}
use Rattle.flow_core.proofs.Answered.{enough}
use Rattle.flow_core.proofs.Boarding.{board-moved, legal-of}
use Rattle.flow_core.proofs.Places.{room-there}
use Rattle.flow_core.proofs.Stored.{roomy, given-emptied, storage-reused}
use Rattle.flow_core.proofs.Lent.{LendsAt}

-- where this stands against a take, and the pool is asked so
pub take-gives : {F B O : Type 0} (name_of : F → FrameName) (parts : F → Option Parts)
    (bytes_of : B → ℕ) (s : Setting) (old new : BoardState) (r v : ℕ) (o : Option (take_answer F B O)) (g : Option Answer) (a : take_answer F B O)
    → take_refusal {F = F} {B = B} {O = O} s r v (past old) ≡ o → asked s v (past old) ≡ g
    → TakeAnswers name_of parts bytes_of s old r v o g a new → TakeGives name_of parts bytes_of s old r v a new
take-gives {F} {B} {O} name_of parts bytes_of s old new r v o g a none given c =
    subst (λ (o' : Option (take_answer F B O)). TakeAnswers name_of parts bytes_of s old r v o' (asked s v (past old)) a new) (sym none)
    (subst (λ (g' : Option Answer). TakeAnswers name_of parts bytes_of s old r v o g' a new) (sym given) c)

pub asked-maker : (s : Setting) (v : ℕ) (b : BoardState) (g : Answer) → is_maker s v ≡ true → grant s (past b) (s.need v) ≡ g → asked s v (past b) ≡ Some g
asked-maker s v b g makes given = ap (λ (m : Bool). cond m (Some (grant s (past b) (s.need v))) None) makes ∙ ap (λ (x : Answer). Some x) given

pub asked-none : (s : Setting) (v : ℕ) (b : BoardState) → is_maker s v ≡ false → asked s v (past b) ≡ None
asked-none s v b passes = ap (λ (m : Bool). cond m (Some (grant s (past b) (s.need v))) None) passes

pub queue-some : {F B O : Type 0} (s : Setting) (r v : ℕ) (b : BoardState) → take_refusal {F = F} {B = B} {O = O} s r v (past b) ≡ None
    → none_left (queued v (past b)) ≡ false
queue-some {F} {B} {O} s r v b none = (may_take {F = F} {B = B} {O = O} s r v (past b) none).some

-- A JOB WITHOUT A BLOCK
pub record Shares {F : Type 0} (B O : Type 0) (name_of : F → FrameName) (parts : F → Option Parts) (s : Setting) (w : Coursed) (t : List Kept)
    (r v c : ℕ) (input : F) : Type 0 where
  pub board : IsBoard parts s w t
  pub role : r ≤ last_role s
  pub allowed : take_refusal {F = F} {B = B} {O = O} s r v (past w.told) ≡ None
  pub passes : is_maker s v ≡ false
  pub next : is_next (name_of input) (queued v (past w.told)) ≡ true
  pub has : block_of (past w.told) (name_of input) ≡ c ∷ []
  pub part : IsPartOf (kept_at t c) (name_of input) (parts input)

abbrev pub shared : {F : Type 0} → (F → FrameName) → (F → Option Parts) → Setting → (r v : ℕ) → F → BoardState → BoardState
shared name_of parts s r v input told = moved s (lends (Take r v (name_of input).maker (name_of input).index) (parts input)) told

pub shared-gives : {F : Type 0} (B O : Type 0) (name_of : F → FrameName) (parts : F → Option Parts) (bytes_of : B → ℕ) (look : LookLaws parts)
    (s : Setting) (w : Coursed) (t : List Kept) (r v c : ℕ) (input : F) (new : BoardState) → Shares B O name_of parts s w t r v c input
    → new ≡ shared name_of parts s r v input w.told → TakeGives {F = F} {B = B} {O = O} name_of parts bytes_of s w.told r v (take.Job v input None) new
shared-gives {F} B O name_of parts bytes_of look s w t r v c input new i is =
    take-gives {F = F} {B = B} {O = O} name_of parts bytes_of s w.told new r v None None (take.Job v input None) i.allowed (asked-none s v w.told i.passes)
    (refl, (i.next, look.one (kept_at t c) (name_of input) (parts input) i.part), is)

shared-history : {F : Type 0} (B O : Type 0) (name_of : F → FrameName) (parts : F → Option Parts) (bytes_of : B → ℕ) (look : LookLaws parts)
    (s : Setting) (w : Coursed) (t : List Kept) (r v c : ℕ) (input : F) → Shares B O name_of parts s w t r v c input
    → is_history s (past (shared name_of parts s r v input w.told)) ≡ true
shared-history {F} B O name_of parts bytes_of look s w t r v c input i =
    take-by {F = F} {B = B} {O = O} name_of parts bytes_of s w.told (shared name_of parts s r v input w.told) r v None None
    (take.Job v input None) i.board.run.pooled i.board.run.history i.role i.allowed (asked-none s v w.told i.passes)
    (refl, (i.next, look.one (kept_at t c) (name_of input) (parts input) i.part), refl)

pub shared-board : {F : Type 0} (B O : Type 0) (name_of : F → FrameName) (parts : F → Option Parts) (bytes_of : B → ℕ) (look : LookLaws parts)
    (moves : MoveLaws O name_of parts bytes_of) (s : Setting) (w w' : Coursed) (t t' : List Kept) (r v c : ℕ) (input : F)
    → Shares B O name_of parts s w t r v c input
    → w' ≡ record w { told = shared name_of parts s r v input w.told } → t' ≡ with_kept t c (less_one (kept_at t c)) → IsBoard parts s w' t'
shared-board {F} B O name_of parts bytes_of look moves s w w' t t' r v c input i is kept =
    let new = shared name_of parts s r v input w.told in
    let history = shared-history B O name_of parts bytes_of look s w t r v c input i in
    board-moved parts s w w' new t t' i.board is history
    (subst (λ (u : List Kept). HoldsBlocks parts s new u) (sym kept)
    (moves.take s w.told t r v c (name_of input) (parts input) i.board.run i.board.holds i.has i.part (legal-of s new history)))

pub shared-lends : {F : Type 0} (B O : Type 0) (name_of : F → FrameName) (parts : F → Option Parts) (bytes_of : B → ℕ) (look : LookLaws parts)
    (s : Setting) (told new : BoardState) (r v : ℕ) (input : F) → new ≡ shared name_of parts s r v input told
    → LendsJob {F = F} {B = B} {O = O} parts bytes_of s r v (take.Job v input None) new
shared-lends B O name_of parts bytes_of look s told new r v input is =
    (ap (lent_to r) is ∙ (look.handed s told 0 r (lends (Take r v (name_of input).maker (name_of input).index) (parts input)) (eq-eqb r r refl)).1, tt)

pub shared-no_memory : {F : Type 0} (B O : Type 0) (name_of : F → FrameName) (parts : F → Option Parts) (bytes_of : B → ℕ) (s : Setting) (old new : BoardState)
    (r v : ℕ) → take_refusal {F = F} {B = B} {O = O} s r v (past old) ≡ None → is_maker s v ≡ false → (TellParts parts → ⊥) → new ≡ old
    → TakeGives {F = F} {B = B} {O = O} name_of parts bytes_of s old r v take.OutOfMemory new
shared-no_memory {F} B O name_of parts bytes_of s old new r v none passes untold same_ =
    take-gives {F = F} {B = B} {O = O} name_of parts bytes_of s old new r v None None take.OutOfMemory none (asked-none s v old passes) (untold, same_)

-- A JOB WITH A BLOCK

-- the table once a part of what is kept of the block is lent
abbrev pub lent_out : List Kept → ℕ → List Kept
lent_out t c = with_kept t c (less_one (kept_at t c))

pub record Makes {F B : Type 0} (O : Type 0) (name_of : F → FrameName) (parts : F → Option Parts) (bytes_of : B → ℕ) (s : Setting) (w : Coursed) (t : List Kept)
    (r v c b z : ℕ) (f : Bool) (g : ℕ) (x : Bool) (input : F) (blank : B) : Type 0 where
  pub board : IsBoard parts s w t
  pub role : r ≤ last_role s
  pub allowed : take_refusal {F = F} {B = B} {O = O} s r v (past w.told) ≡ None
  pub makes : is_maker s v ≡ true
  pub granted : grant s (past w.told) (s.need v) ≡ Granted b z f g
  pub size : bytes_of blank ≡ z
  pub remade : IsRemade z b f (lent_out t c) x
  pub next : is_next (name_of input) (queued v (past w.told)) ≡ true
  pub lends : LendsAt parts w.told t (name_of input) c
  pub part : IsPartOf (kept_at t c) (name_of input) (parts input)

abbrev pub made : {F : Type 0} → (F → FrameName) → (F → Option Parts) → Setting → (r v b z : ℕ) → (f : Bool) → (g : ℕ)
    → (x : Bool) → F → BoardState → BoardState
made name_of parts s r v b z f g x input told = moved s (lends (take_block r v (name_of input) b z f g x) (parts input)) told

-- a grant, and the next array of a queue, of which a part is lent
pub record LendsBeside {F : Type 0} (parts : F → Option Parts) (s : Setting) (told : BoardState) (t : List Kept)
    (v need b z : ℕ) (f : Bool) (g : ℕ) (a : FrameName) (c : ℕ) : Type 0 where
  pub granted : IsGranted parts s told t need b z f g
  pub next : is_next a (queued v (past told)) ≡ true
  pub lends : LendsAt parts told t a c

pub apart-from : {F : Type 0} (parts : F → Option Parts) (laws : GrantLaws parts) (s : Setting) (told : BoardState) (t : List Kept)
    (v need b z : ℕ) (f : Bool) (g : ℕ) (a : FrameName) (c : ℕ) → LendsBeside parts s told t v need b z f g a c → c ≢ b
apart-from parts laws s told t v need b z f g a c i = laws.apart s told t need b z f g v c a i.granted i.next i.lends.has

-- the block has what it had
beside-same : {F : Type 0} (parts : F → Option Parts) (laws : GrantLaws parts) (t : List Kept) (b c : ℕ) → c < length t → c ≢ b
    → kept_at (with_room (lent_out t c) b) b ≡ kept_at (with_room t b) b
beside-same parts laws t b c lt ne =
    laws.room_keeps (lent_out t c) b b ∙ (at-other t c b (less_one (kept_at t c)) (λ is. ne (sym is)) ∙ sym (laws.room_keeps t b b))

lent-regrown : {F : Type 0} (parts : F → Option Parts) (laws : GrantLaws parts) (s : Setting) (told : BoardState) (t : List Kept) (v need b z : ℕ) (f : Bool)
    (g : ℕ) (x : Bool) (a : FrameName) (c : ℕ) → LendsBeside parts s told t v need b z f g a c → IsRemade z b f (lent_out t c) x → IsRegrown parts told b f x
lent-regrown parts laws s told t v need b z true g x a c i r = subst (λ (y : Bool). IsRegrown parts told b true y) (sym r) (laws.fresh_anew told b)
lent-regrown parts laws s told t v need b z false g x a c i r =
    laws.anew s told (with_room t b) need b z g x (roomy parts laws s told t need b z false g i.granted)
    (subst (λ (k : Kept). IsMadeAnew (at_home z k) x) (beside-same parts laws t b c i.lends.place (apart-from parts laws s told t v need b z false g a c i)) r)

lent-reused : {F B : Type 0} (parts : F → Option Parts) (is_used : B → Bool) (laws : GrantLaws parts) (s : Setting) (told : BoardState) (t : List Kept)
    (v need b z : ℕ) (f : Bool) (g : ℕ) (x : Bool) (a : FrameName) (c : ℕ) (blank : B) → LendsBeside parts s told t v need b z f g a c
    → IsSameStorage b f (lent_out t c) x (is_used blank) → IsReused parts is_used told b f x blank
lent-reused parts is_used laws s told t v need b z true g true a c blank i same_ = tt
lent-reused parts is_used laws s told t v need b z true g false a c blank i same_ = tt
lent-reused parts is_used laws s told t v need b z false g true a c blank i same_ = tt
lent-reused parts is_used laws s told t v need b z false g false a c blank i same_ =
    storage-reused parts is_used laws s told t need b z false g false blank i.granted
    (same_ ∙ ap was_used (beside-same parts laws t b c i.lends.place (apart-from parts laws s told t v need b z false g a c i)))

making : {F B : Type 0} (O : Type 0) (name_of : F → FrameName) (parts : F → Option Parts) (bytes_of : B → ℕ) (s : Setting) (w : Coursed) (t : List Kept)
    (r v c b z : ℕ) (f : Bool) (g : ℕ) (x : Bool) (input : F) (blank : B) → Makes O name_of parts bytes_of s w t r v c b z f g x input blank
    → LendsBeside parts s w.told t v (s.need v) b z f g (name_of input) c
making O name_of parts bytes_of s w t r v c b z f g x input blank i =
    record { granted = record { run = i.board.run; holds = i.board.holds; granted = i.granted }; next = i.next; lends = i.lends }

pub made-gives : {F B : Type 0} (O : Type 0) (name_of : F → FrameName) (parts : F → Option Parts) (bytes_of : B → ℕ) (look : LookLaws parts)
    (laws : GrantLaws parts) (s : Setting) (w : Coursed) (t : List Kept)
    (r v c b z : ℕ) (f : Bool) (g : ℕ) (x : Bool) (input : F) (blank : B) (new : BoardState) → Makes O name_of parts bytes_of s w t r v c b z f g x input blank
    → new ≡ made name_of parts s r v b z f g x input w.told
    → TakeGives {F = F} {B = B} {O = O} name_of parts bytes_of s w.told r v (take.Job v input (Some blank)) new
made-gives {F} {B} O name_of parts bytes_of look laws s w t r v c b z f g x input blank new i is =
    take-gives {F = F} {B = B} {O = O} name_of parts bytes_of s w.told new r v None (Some (Granted b z f g)) (take.Job v input (Some blank)) i.allowed
    (asked-maker s v w.told (Granted b z f g) i.makes i.granted) (
      refl,
      (i.next, look.one (kept_at t c) (name_of input) (parts input) i.part),
      i.size,
      (
        x,
        lent-regrown parts laws s w.told t v (s.need v) b z f g x (name_of input) c
            (making O name_of parts bytes_of s w t r v c b z f g x input blank i) i.remade,
        is,
      ),
    )

made-history : {F B : Type 0} (O : Type 0) (name_of : F → FrameName) (parts : F → Option Parts) (bytes_of : B → ℕ) (look : LookLaws parts)
    (laws : GrantLaws parts) (s : Setting) (w : Coursed) (t : List Kept) (r v c b z : ℕ) (f : Bool) (g : ℕ) (x : Bool) (input : F) (blank : B)
    → Makes O name_of parts bytes_of s w t r v c b z f g x input blank
    → is_history s (past (made name_of parts s r v b z f g x input w.told)) ≡ true
made-history {F} {B} O name_of parts bytes_of look laws s w t r v c b z f g x input blank i =
    take-by {F = F} {B = B} {O = O} name_of parts bytes_of s w.told (made name_of parts s r v b z f g x input w.told) r v None (Some (Granted b z f g))
    (take.Job v input (Some blank)) i.board.run.pooled i.board.run.history i.role i.allowed (asked-maker s v w.told (Granted b z f g) i.makes i.granted) (
      refl,
      (i.next, look.one (kept_at t c) (name_of input) (parts input) i.part),
      i.size,
      (
        x,
        lent-regrown parts laws s w.told t v (s.need v) b z f g x (name_of input) c
            (making O name_of parts bytes_of s w t r v c b z f g x input blank i) i.remade,
        refl,
      ),
    )

pub made-board : {F B : Type 0} (O : Type 0) (name_of : F → FrameName) (parts : F → Option Parts) (bytes_of : B → ℕ) (look : LookLaws parts)
    (laws : GrantLaws parts) (s : Setting) (w w' : Coursed) (t t' : List Kept) (r v c b z : ℕ) (f : Bool) (g : ℕ) (x : Bool) (input : F) (blank : B)
    → Makes O name_of parts bytes_of s w t r v c b z f g x input blank
    → w' ≡ record w { told = made name_of parts s r v b z f g x input w.told }
    → t' ≡ without_kept (given_up_for s (past w.told) f g) (with_storage b f (lent_out t c)) → IsBoard parts s w' t'
made-board {F} {B} O name_of parts bytes_of look laws s w w' t t' r v c b z f g x input blank i is kept =
    let new = made name_of parts s r v b z f g x input w.told in
    let T = with_room t b in
    let beside = making O name_of parts bytes_of s w t r v c b z f g x input blank i in
    let history = made-history O name_of parts bytes_of look laws s w t r v c b z f g x input blank i in
    let part : IsPartOf (kept_at T c) (name_of input) (parts input) =
    subst (λ (k : Kept). IsPartOf k (name_of input) (parts input)) (sym (laws.room_keeps t b c)) i.part in
    let gs = given_up_for s (past w.told) f g in
    let ne : c ≢ b = apart-from parts laws s w.told t v (s.need v) b z f g (name_of input) c beside in
    let table : t' ≡ without_kept gs (with_kept (with_kept T c (less_one (kept_at T c))) b Empty) =
    kept
    ∙ (given-emptied parts laws s w.told t (lent_out t c) (s.need v) b z f g beside.granted (λ e. at-other t c b (less_one (kept_at t c)) (λ is. ne (sym is)) ∙ e)
    ∙ ap (λ (u : List Kept). without_kept gs (with_kept u b Empty)) (laws.room_of_lent t b c i.lends.place)) in
    board-moved parts s w w' new t t' i.board is history
    (subst (λ (u : List Kept). HoldsBlocks parts s new u) (sym table)
    (laws.take_lent s w.told T r v c (s.need v) b z f g x (name_of input) (parts input) (roomy parts laws s w.told t (s.need v) b z f g beside.granted)
    (room-there t b (laws.next s w.told t (s.need v) b z f g beside.granted)) i.lends.has part (legal-of s new history)))

pub made-lends : {F B : Type 0} (O : Type 0) (name_of : F → FrameName) (parts : F → Option Parts) (bytes_of : B → ℕ) (look : LookLaws parts)
    (s : Setting) (w : Coursed) (t : List Kept) (r v c b z : ℕ) (f : Bool) (g : ℕ) (x : Bool) (input : F) (blank : B) (new : BoardState)
    → Makes O name_of parts bytes_of s w t r v c b z f g x input blank
    → new ≡ made name_of parts s r v b z f g x input w.told → LendsJob {F = F} {B = B} {O = O} parts bytes_of s r v (take.Job v input (Some blank)) new
made-lends O name_of parts bytes_of look s w t r v c b z f g x input blank new i is =
    let e = lends (take_block r v (name_of input) b z f g x) (parts input) in
    let has = look.handed s w.told 0 r e (eq-eqb r r refl) in
    let hold : hand r (past new) ≡ Some e.entry = ap (λ (u : BoardState). hand r (past u)) is ∙ has.0 in (
      ap (lent_to r) is ∙ has.1,
      (subst (λ n. s.need v ≤ n) (sym i.size) (enough s (past w.told) (s.need v) b z f g i.board.run.pooled i.granted), i.size ∙ sym (ap granted_size hold)),
    )

pub made-reuses : {F B : Type 0} (O : Type 0) (name_of : F → FrameName) (parts : F → Option Parts) (is_used : B → Bool) (look : LookLaws parts)
    (laws : GrantLaws parts) (s : Setting) (w : Coursed) (t : List Kept) (r v c b z : ℕ) (f : Bool) (g : ℕ) (x : Bool) (input : F) (blank : B)
    (new : BoardState) → LendsBeside parts s w.told t v (s.need v) b z f g (name_of input) c → IsSameStorage b f (lent_out t c) x (is_used blank)
    → new ≡ made name_of parts s r v b z f g x input w.told → TakeReuses {F = F} {B = B} {O = O} parts is_used w.told r (take.Job v input (Some blank)) new
made-reuses O name_of parts is_used look laws s w t r v c b z f g x input blank new i same_ is =
    let e = lends (take_block r v (name_of input) b z f g x) (parts input) in
    let has = look.handed s w.told 0 r e (eq-eqb r r refl) in
    let hold : hand r (past new) ≡ Some e.entry = ap (λ (u : BoardState). hand r (past u)) is ∙ has.0 in
    subst (λ (o : Option Entry). ReusesStorage parts is_used w.told o blank) (sym hold)
    (lent-reused parts is_used laws s w.told t v (s.need v) b z f g x (name_of input) c blank i same_)

pub made-no_memory : {F B : Type 0} (O : Type 0) (name_of : F → FrameName) (parts : F → Option Parts)
    (bytes_of : B → ℕ) (s : Setting) (old new : BoardState) (r v b z : ℕ) (f : Bool) (g : ℕ) → take_refusal {F = F} {B = B} {O = O} s r v (past old) ≡ None
    → is_maker s v ≡ true → grant s (past old) (s.need v) ≡ Granted b z f g → (TellParts parts → IsTrue (wants_storage old (Granted b z f g))) → new ≡ old
    → TakeGives {F = F} {B = B} {O = O} name_of parts bytes_of s old r v take.OutOfMemory new
made-no_memory {F} {B} O name_of parts bytes_of s old new r v b z f g none makes given wants same_ =
    take-gives {F = F} {B = B} {O = O} name_of parts bytes_of s old new r v None (Some (Granted b z f g)) take.OutOfMemory none
    (asked-maker s v old (Granted b z f g) makes given) (wants, same_)

-- a new block wants storage
pub fresh-wants : (told : BoardState) (b z : ℕ) (f : Bool) (g : ℕ) → f ≡ true → IsTrue (wants_storage told (Granted b z f g))
fresh-wants told b z f g fresh = subst (λ (y : Bool). IsTrue (wants_storage told (Granted b z y g))) (sym fresh) refl

-- WANT OF MEMORY ONCE THE PART IS LENT

-- the part was lent of a table that holds the blocks, in which its array is as it was
pub record BackTo {F : Type 0} (parts : F → Option Parts) (s : Setting) (told : BoardState) (t now_ : List Kept) (c : ℕ) : Type 0 where
  pub left : List Kept
  pub holds : HoldsBlocks parts s told left
  pub lent : now_ ≡ lent_out left c
  pub same_ : kept_at left c ≡ kept_at t c
  pub place : c < length left

more-places : (t : List Kept) (b c : ℕ) → c < length t → c < length (with_room t b)
more-places t b c lt =
    elim (ltb b (length t)) as (λ y. c < length (if y then t else t ++ Empty ∷ [])) [ true ↦ lt | false ↦ omega (arith, lt, length-append t (Empty ∷ [])) ]

room-back : {F : Type 0} (parts : F → Option Parts) (laws : GrantLaws parts) (s : Setting) (told : BoardState) (t now_ : List Kept) (b c : ℕ)
    → HoldsBlocks parts s told t → c < length t → b ≤ length t → now_ ≡ with_room (lent_out t c) b → BackTo parts s told t now_ c
room-back parts laws s told t now_ b c holds lt le is = record {
  left = with_room t b;
  holds = laws.room s told t b holds;
  lent = is ∙ laws.room_of_lent t b c lt;
  same_ = laws.room_keeps t b c;
  place = more-places t b c lt;
}

-- the storage was refused
pub not-stored-back : {F : Type 0} (parts : F → Option Parts) (laws : GrantLaws parts) (s : Setting) (told : BoardState) (t now_ : List Kept)
    (v need b z : ℕ) (f : Bool) (g : ℕ) (a : FrameName) (c : ℕ) → LendsBeside parts s told t v need b z f g a c
    → IsNotStored z b f (lent_out t c) now_ → BackTo parts s told t now_ c
not-stored-back parts laws s told t now_ v need b z true g a c i (inl is) =
    record { left = t; holds = i.granted.holds; lent = is; same_ = refl; place = i.lends.place }
not-stored-back parts laws s told t now_ v need b z true g a c i (inr is) =
    room-back parts laws s told t now_ b c i.granted.holds i.lends.place (laws.next s told t need b z true g i.granted) is
not-stored-back parts laws s told t now_ v need b z false g a c i (inl is) =
    record { left = t; holds = i.granted.holds; lent = is.1; same_ = refl; place = i.lends.place }
not-stored-back parts laws s told t now_ v need b z false g a c i (inr away) =
    let T = with_room t b in
    let refused = subst (λ (u : List Kept). IsRefused z b u now_) (laws.room_of_lent t b c i.lends.place) away.1 in
    let back =
    laws.refused_lent s told T now_ need b z c g (roomy parts laws s told t need b z false g i.granted)
    (apart-from parts laws s told t v need b z false g a c i) refused in
    record {
      left = back.left;
      holds = back.holds;
      lent = back.lent;
      same_ = back.same ∙ laws.room_keeps t b c;
      place = omega (arith, back.long, more-places t b c i.lends.place);
    }

-- and that it was is wanted
pub not-stored-lent-wants : {F : Type 0} (parts : F → Option Parts) (laws : GrantLaws parts) (s : Setting) (told : BoardState) (t now_ : List Kept)
    (v need b z : ℕ) (f : Bool) (g : ℕ) (a : FrameName) (c : ℕ) → LendsBeside parts s told t v need b z f g a c → IsNotStored z b f (lent_out t c) now_
    → TellParts parts → IsTrue (wants_storage told (Granted b z f g))
not-stored-lent-wants parts laws s told t now_ v need b z true g a c i r tell = refl
not-stored-lent-wants parts laws s told t now_ v need b z false g a c i (inl next) tell =
    absurd (omega (arith, laws.old s told t need b z g i.granted, next.0, same-length t c (less_one (kept_at t c))))
not-stored-lent-wants parts laws s told t now_ v need b z false g a c i (inr away) tell =
    laws.wants s told (with_room t b) need b z g (roomy parts laws s told t need b z false g i.granted) tell
    (subst (λ (k : Kept). IsAway (at_home z k)) (beside-same parts laws t b c i.lends.place (apart-from parts laws s told t v need b z false g a c i)) away.0)

-- the pool had no memory for a new block
pub fresh-back : {F : Type 0} (parts : F → Option Parts) (laws : GrantLaws parts) (s : Setting) (told : BoardState) (t now_ : List Kept)
    (v need b z : ℕ) (f : Bool) (g : ℕ) (a : FrameName) (c : ℕ) → LendsBeside parts s told t v need b z f g a c → f ≡ true
    → now_ ≡ with_storage b f (lent_out t c) → BackTo parts s told t now_ c
fresh-back parts laws s told t now_ v need b z f g a c i fresh is =
    room-back parts laws s told t now_ b c i.granted.holds i.lends.place (laws.next s told t need b z f g i.granted)
    (is ∙ ap (λ (y : Bool). with_storage b y (lent_out t c)) fresh)

-- the part may be given back, and then the table holds the blocks
pub back-again : {F : Type 0} (parts : F → Option Parts) (look : LookLaws parts) (s : Setting) (told : BoardState) (t now_ : List Kept)
    (a : FrameName) (c : ℕ) (q : Option Parts) → LendsAt parts told t a c → IsPartOf (kept_at t c) a q → BackTo parts s told t now_ c
    → (c < length now_) × MayGiveBack (kept_at now_ c) q × HoldsBlocks parts s told (with_kept now_ c (united (kept_at now_ c) q))
back-again parts look s told t now_ a c q l part back =
    let L = back.left in
    let may : MayLend (kept_at L c) = subst MayLend (sym back.same_) l.may in
    let within = subst IsWithinBlock (sym back.same_) l.within in
    let mine : IsPartOf (kept_at L c) a q = subst (λ (k : Kept). IsPartOf k a q) (sym back.same_) part in
    let again = look.lent_and_back L c a q back.place may within mine in
    subst (λ (u : List Kept). (c < length u) × MayGiveBack (kept_at u c) q × HoldsBlocks parts s told (with_kept u c (united (kept_at u c) q)))
    (sym back.lent) (
      omega (arith, back.place, same-length L c (less_one (kept_at L c))),
      again.0,
      subst (λ (u : List Kept). HoldsBlocks parts s told u) (sym again.1) back.holds,
    )

-- A DROP AT THE POOL
pub dropped-gives : {F B : Type 0} (O : Type 0) (name_of : F → FrameName) (parts : F → Option Parts)
    (bytes_of : B → ℕ) (s : Setting) (old new : BoardState) (r v k h : ℕ) (a : FrameName) → take_refusal {F = F} {B = B} {O = O} s r v (past old) ≡ None
    → is_maker s v ≡ true → grant s (past old) (s.need v) ≡ pool.Refused → h ≡ held s (past old)
    → is_next a (queued v (past old)) ≡ true → k ≡ a.index → new ≡ moved s (plain (PoolDrop r v a.maker a.index (s.need v) (held s (past old)))) old
    → TakeGives {F = F} {B = B} {O = O} name_of parts bytes_of s old r v (take.PoolDrop k h) new
dropped-gives {F} {B} O name_of parts bytes_of s old new r v k h a none makes given holds next index is =
    take-gives {F = F} {B = B} {O = O} name_of parts bytes_of s old new r v None (Some pool.Refused) (take.PoolDrop k h) none
    (asked-maker s v old pool.Refused makes given)
    (holds, (a, next, index, is ∙ ap (λ (i : ℕ). moved s (plain (PoolDrop r v a.maker a.index (s.need v) i)) old) (sym holds)))

pub dropped-board : {F B : Type 0} (O : Type 0) (name_of : F → FrameName) (parts : F → Option Parts) (bytes_of : B
    → ℕ) (moves : MoveLaws O name_of parts bytes_of) (s : Setting) (w w' : Coursed) (t : List Kept) (r v : ℕ) (a : FrameName) → IsBoard parts s w t
    → r ≤ last_role s → take_refusal {F = F} {B = B} {O = O} s r v (past w.told) ≡ None → is_maker s v ≡ true → grant s (past w.told) (s.need v) ≡ pool.Refused
    → is_next a (queued v (past w.told)) ≡ true
    → w' ≡ record w { told = moved s (plain (PoolDrop r v a.maker a.index (s.need v) (held s (past w.told)))) w.told } → IsBoard parts s w' t
dropped-board {F} {B} O name_of parts bytes_of moves s w w' t r v a i role none makes given next is =
    let e = PoolDrop r v a.maker a.index (s.need v) (held s (past w.told)) in
    let new = moved s (plain e) w.told in
    let history : is_history s (past new) ≡ true =
    take-by {F = F} {B = B} {O = O} name_of parts bytes_of s w.told new r v None (Some pool.Refused) (take.PoolDrop a.index (held s (past w.told))) i.run.pooled
    i.run.history role none (asked-maker s v w.told pool.Refused makes given) (refl, (a, next, refl, refl)) in
    board-moved parts s w w' new t t i is history (moves.still s w.told t 0 e i.run i.holds refl (legal-of s new history))
