-- What a worker's calls leave of its pass.
use Rattle.std.proofs.Common.{◌≡◌, ◌⊎◌, ℕ, ◌≤◌, Bool, true, false, not, ◌||◌, cond, leb, if◌then◌else◌, List, ◌++◌, length, refl, sym, ap, ◌∙◌, subst}
use Rattle.std.proofs.Common.{Option, Some, None, Ok, Err, inl, inr}
use Rattle.std.specs.Prelude.{is_some, is_none}
use Rattle.std.specs.Option.{option_map_or}
use Rattle.std.proofs.lemmas.Bool.{cases_Bool, eq-eqb, false≢true, true≢false, and_parts, and_from}
use Rattle.nd_base.specs.Array.{StackValue}
use Rattle.nd_base.specs.Parts.{Parts}
use Rattle.nd_base.specs.GraphRules.{IsGraph}
use Rattle.nd_base.specs.declared.frame.FrameName.{FrameName}
use Rattle.nd_base.specs.declared.graph.Graph.{Graph}
use Rattle.frame_store.specs.Sealed.{Sealed}
use Rattle.pool_ledger.specs.Grants.{Answer, Granted}
use Rattle.pool_ledger.specs.Grants as pool
use Rattle.flow_journal.specs.declared.entry.Entry.{Entry}
use Rattle.flow_journal.specs.declared.entry.Entry.TheVariants.{Load, Take, TakeBlock, PoolDrop, Put, Settle, Save}
use Rattle.flow_journal.specs.Setting.{Setting, node, is_node, is_maker}
use Rattle.flow_journal.specs.Pasts.{frame, same}
use Rattle.flow_journal.specs.Hands.{hand, is_free, jobs, takes_up}
use Rattle.flow_journal.specs.Ended.{is_settled, has_left_any}
use Rattle.flow_journal.specs.Queued.{queued}
use Rattle.flow_journal.specs.Accounts.{grant}
use Rattle.flow_journal.specs.Finished.{none_left}
use Rattle.flow_journal.proofs.Changes.{hand_laws}
use Rattle.board_rules.specs.declared.answers.Take.{Take as take_answer}
use Rattle.board_rules.specs.declared.answers.Take.TheVariants as take
use Rattle.board_rules.specs.declared.answers.Left.{Left}
use Rattle.board_rules.specs.declared.answers.Done.{Done}
use Rattle.board_rules.specs.declared.answers.NotYours.{NotYours}
use Rattle.board_rules.specs.declared.answers.Settled.{Settled}
use Rattle.board_rules.specs.declared.answers.Settled.TheVariants as settled
use Rattle.board_rules.specs.States.{BoardState, past, plain, lends, lent_to, take_block}
use Rattle.flow_journal.specs.MoveLists.{begun_by}
use Rattle.flow_journal.specs.ResultNames.{result_name}
use Rattle.board_rules.specs.Moving.{moved_at}
use Rattle.board_rules.specs.Storage.{IsRegrown}
use Rattle.board_rules.specs.InHand.{is_job_on, granted_size, IsWholeOf, OfSome, IsOfHand}
use Rattle.board_rules.specs.RunMeasures.{run_setting, run_measure}
use Rattle.board_rules.specs.Feeding.{is_sent_away}
use Rattle.board_rules.specs.Working.{take_refusal, asked, TakeAnswers, TakeGives, LendsJob, MayPut, PutGives, SettleGives}
use Rattle.flow_roles.specs.declared.last.Last.{Last}
use Rattle.flow_roles.specs.declared.last.Last.TheVariants as last
use Rattle.flow_roles.specs.declared.last.Said.{Said}
use Rattle.flow_roles.specs.Lasts.{last_take, take_had_memory, said_had, said_last, said_take, said_given, said_other}
use Rattle.flow_roles.specs.Passes.{Pass, Called}
use Rattle.flow_roles.specs.RoleMoves.{worker_logs, HasNothing}
use Rattle.flow_roles.specs.RoleEnds.{worker_ends}
use Rattle.flow_roles.specs.Feeder.{name_of, parts_of}
use Rattle.flow_roles.specs.Worker.{HasJob, IsJobDone}
use Rattle.flow_roles.proofs.Calls.{here, unmoved, moved, hand-before, hand-after, role-after}
use Rattle.flow_roles.proofs.RoleCalls.{worker-quiet, kept}
use Rattle.flow_roles.proofs.Named.{hand-named}

-- WHAT A TAKE ANSWERS

-- an answer that changes nothing
abbrev pub is_still : {F B O : Type 0} → take_answer F B O → Bool
is_still take.Left = true
is_still take.Busy = true
is_still take.Ended = true
is_still take.Idle = true
is_still take.OutOfMemory = true
is_still (take.PoolDrop k h) = false
is_still (take.Job w input blank) = false

abbrev pub no_refusal : (F B O : Type 0) → Option (take_answer F B O)
no_refusal F B O = None

pub take-still : {F B O : Type 0} (name_of : F → FrameName) (parts : F → Option Parts)
    (bytes_of : B → ℕ) (s : Setting) (old new : BoardState) (r v : ℕ) (o : Option (take_answer F B O))
    (g : Option Answer) (a : take_answer F B O) → is_still a ≡ true → TakeAnswers name_of parts bytes_of s old r v o g a new → new ≡ old
take-still name_of parts bytes_of s old new r v (Some x) g a h c = c.1
take-still name_of parts bytes_of s old new r v None (Some (Granted b n f g)) take.OutOfMemory h c = c.1
take-still name_of parts bytes_of s old new r v None None take.OutOfMemory h c = c.1
take-still name_of parts bytes_of s old new r v None (Some (Granted b n f g)) take.Left h c = absurd c
take-still name_of parts bytes_of s old new r v None (Some (Granted b n f g)) take.Busy h c = absurd c
take-still name_of parts bytes_of s old new r v None (Some (Granted b n f g)) take.Ended h c = absurd c
take-still name_of parts bytes_of s old new r v None (Some (Granted b n f g)) take.Idle h c = absurd c
take-still name_of parts bytes_of s old new r v None (Some (Granted b n f g)) (take.PoolDrop k z) h c = absurd (false≢true h)
take-still name_of parts bytes_of s old new r v None (Some (Granted b n f g)) (take.Job w input blank) h c = absurd (false≢true h)
take-still name_of parts bytes_of s old new r v None None take.Left h c = absurd c
take-still name_of parts bytes_of s old new r v None None take.Busy h c = absurd c
take-still name_of parts bytes_of s old new r v None None take.Ended h c = absurd c
take-still name_of parts bytes_of s old new r v None None take.Idle h c = absurd c
take-still name_of parts bytes_of s old new r v None None (take.PoolDrop k z) h c = absurd (false≢true h)
take-still name_of parts bytes_of s old new r v None None (take.Job w input blank) h c = absurd (false≢true h)
take-still name_of parts bytes_of s old new r v None (Some pool.Refused) take.Left h c = absurd c
take-still name_of parts bytes_of s old new r v None (Some pool.Refused) take.Busy h c = absurd c
take-still name_of parts bytes_of s old new r v None (Some pool.Refused) take.Ended h c = absurd c
take-still name_of parts bytes_of s old new r v None (Some pool.Refused) take.Idle h c = absurd c
take-still name_of parts bytes_of s old new r v None (Some pool.Refused) take.OutOfMemory h c = absurd c
take-still name_of parts bytes_of s old new r v None (Some pool.Refused) (take.PoolDrop k z) h c = absurd (false≢true h)
take-still name_of parts bytes_of s old new r v None (Some pool.Refused) (take.Job w input blank) h c = absurd (false≢true h)

-- what a refusal says, and that no other answer is one
abbrev pub Says : {F B O : Type 0} → take_answer F B O → (away busy ended idle : Bool) → Type 0
Says take.Left away busy ended idle = away ≡ true
Says take.Busy away busy ended idle = busy ≡ true
Says take.Ended away busy ended idle = ended ≡ true
Says take.Idle away busy ended idle = idle ≡ true
Says _ away busy ended idle = ⊥

some-same : {X : Type 0} {x y : X} → Some x ≡ Some y → x ≡ y
some-same h = cc

pub said-by : {F B O : Type 0} (a : take_answer F B O) (away busy ended idle : Bool)
    → cond away (Some take.Left) (cond busy (Some take.Busy) (cond ended (Some take.Ended) (cond idle (Some take.Idle) (no_refusal F B O)))) ≡ Some a
    → Says a away busy ended idle
said-by {F} {B} {O} a true busy ended idle h = subst (λ (x : take_answer F B O). Says x true busy ended idle) (some-same h) refl
said-by {F} {B} {O} a false true ended idle h = subst (λ (x : take_answer F B O). Says x false true ended idle) (some-same h) refl
said-by {F} {B} {O} a false false true idle h = subst (λ (x : take_answer F B O). Says x false false true idle) (some-same h) refl
said-by {F} {B} {O} a false false false true h = subst (λ (x : take_answer F B O). Says x false false false true) (some-same h) refl
said-by {F} {B} {O} a false false false false h = let none_ : None ≡ Some a = h in absurd (cc)

abbrev pub is_told : {F B O : Type 0} → take_answer F B O → Bool
is_told take.Left = true
is_told take.Busy = true
is_told take.Ended = true
is_told _ = false

take-told : {F B O : Type 0} (name_of : F → FrameName) (parts : F → Option Parts) (bytes_of : B → ℕ) (s : Setting) (old new : BoardState) (r v : ℕ)
    (g : Option Answer) (a : take_answer F B O) → is_told a ≡ true → TakeAnswers name_of parts bytes_of s old r v None g a new → ⊥
take-told name_of parts bytes_of s old new r v (Some (Granted b n f g)) take.Left h c = c
take-told name_of parts bytes_of s old new r v (Some (Granted b n f g)) take.Busy h c = c
take-told name_of parts bytes_of s old new r v (Some (Granted b n f g)) take.Ended h c = c
take-told name_of parts bytes_of s old new r v (Some pool.Refused) take.Left h c = c
take-told name_of parts bytes_of s old new r v (Some pool.Refused) take.Busy h c = c
take-told name_of parts bytes_of s old new r v (Some pool.Refused) take.Ended h c = c
take-told name_of parts bytes_of s old new r v None take.Left h c = c
take-told name_of parts bytes_of s old new r v None take.Busy h c = c
take-told name_of parts bytes_of s old new r v None take.Ended h c = c
take-told name_of parts bytes_of s old new r v g _ h c = false≢true h

pub take-says : {F B O : Type 0} (name_of : F → FrameName) (parts : F → Option Parts)
    (bytes_of : B → ℕ) (s : Setting) (old new : BoardState) (r v : ℕ) (o : Option (take_answer F B O))
    (g : Option Answer) (a : take_answer F B O) → is_told a ≡ true → take_refusal {F = F} {B = B} {O = O} s r v (past old) ≡ o
    → TakeAnswers name_of parts bytes_of s old r v o g a new
    → Says a (is_sent_away s r (past old)) (not (is_free r (past old))) (is_settled v (past old))
    (none_left (queued v (past old)) || leb (node s v).threads (jobs v (past old)))
take-says {F} {B} {O} name_of parts bytes_of s old new r v (Some x) g a h is c =
    said-by {F = F} {B = B} {O = O} a (is_sent_away s r (past old)) (not (is_free r (past old))) (is_settled v (past old))
    (none_left (queued v (past old)) || leb (node s v).threads (jobs v (past old)))
    (is ∙ ap Some (sym c.0))
take-says name_of parts bytes_of s old new r v None g a h is c = absurd (take-told name_of parts bytes_of s old new r v g a h c)

-- a refused array: nothing changed, or it is a move
abbrev pub Dropped : Setting → BoardState → BoardState → (r v : ℕ) → Type 0
Dropped s old new r v = (m : ℕ) × (k : ℕ) × (z : ℕ) × (new ≡ moved_at s 0 (plain (PoolDrop r v m k (s.need v) z)) old)

pub take-drop : {F B O : Type 0} (name_of : F → FrameName) (parts : F → Option Parts)
    (bytes_of : B → ℕ) (s : Setting) (old new : BoardState) (r v k z : ℕ) (o : Option (take_answer F B O))
    (g : Option Answer) → TakeAnswers name_of parts bytes_of s old r v o g (take.PoolDrop k z) new → (new ≡ old) ⊎ Dropped s old new r v
take-drop name_of parts bytes_of s old new r v k z (Some x) g c = inl c.1
take-drop name_of parts bytes_of s old new r v k z None (Some pool.Refused) c = inr (c.1.0.maker, c.1.0.index, z, c.1.3)
take-drop name_of parts bytes_of s old new r v k z None (Some (Granted b n f g)) c = absurd c
take-drop name_of parts bytes_of s old new r v k z None None c = absurd c

-- what is known of a job with a block, and of one without
pub record WithBlock {F B : Type 0} (name_of : F → FrameName) (parts : F → Option Parts)
    (bytes_of : B → ℕ) (s : Setting) (old new : BoardState) (r v : ℕ) (input : F)
    (blank : Option B) : Type 0 where
  pub b : ℕ
  pub n : ℕ
  pub f : Bool
  pub g : ℕ
  pub x : Bool
  pub regrown : IsRegrown parts old b f x
  pub given : B
  pub is : blank ≡ Some given
  pub maker : is_maker s v ≡ true
  pub sized : bytes_of given ≡ n
  pub move : new ≡ moved_at s 0 (lends (take_block r v (name_of input) b n f g x) (parts input)) old

pub record Alone {F B : Type 0} (name_of : F → FrameName) (parts : F → Option Parts) (s : Setting) (old new : BoardState) (r v : ℕ) (input : F)
    (blank : Option B) : Type 0 where
  pub is : blank ≡ None
  pub maker : is_maker s v ≡ false
  pub move : new ≡ moved_at s 0 (lends (Take r v (name_of input).maker (name_of input).index) (parts input)) old

asked-some : (maker : Bool) (x y : Answer) → (if maker then Some x else None) ≡ Some y → maker ≡ true
asked-some true x y h = refl
asked-some false x y h = cc

asked-none : (maker : Bool) (x : Answer) → (if maker then Some x else None) ≡ None → maker ≡ false
asked-none true x h = cc
asked-none false x h = refl

pub take-taken : {F B O : Type 0} (name_of : F → FrameName) (parts : F → Option Parts)
    (bytes_of : B → ℕ) (s : Setting) (old new : BoardState) (r v w : ℕ) (input : F) (blank : Option B)
    (o : Option (take_answer F B O)) (g : Option Answer) → take_refusal {F = F} {B = B} {O = O} s r v (past old) ≡ o → asked s v (past old) ≡ g
    → TakeAnswers name_of parts bytes_of s old r v o g (take.Job w input blank) new
    → WithBlock name_of parts bytes_of s old new r v input blank ⊎ Alone name_of parts s old new r v input blank
take-taken {F} {B} {O} name_of parts bytes_of s old new r v w input blank (Some x) g is given c =
    absurd (said-by {F = F} {B = B} {O = O} (take.Job w input blank) (is_sent_away s r (past old)) (not (is_free r (past old))) (is_settled v (past old))
    (none_left (queued v (past old)) || leb (node s v).threads (jobs v (past old)))
    (is ∙ ap Some (sym c.0)))
take-taken name_of parts bytes_of s old new r v w input (Some blank) None (Some (Granted b n f g)) is given c =
    inl (record {
      b = b;
      n = n;
      f = f;
      g = g;
      x = c.3.0;
      regrown = c.3.1;
      given = blank;
      is = refl;
      maker = asked-some (is_maker s v) (grant s (past old) (s.need v)) (Granted b n f g) given;
      sized = c.2;
      move = c.3.2;
    })
take-taken name_of parts bytes_of s old new r v w input None None None is given c =
    inr (record { is = refl; maker = asked-none (is_maker s v) (grant s (past old) (s.need v)) given; move = c.2 })
take-taken name_of parts bytes_of s old new r v w input None None (Some (Granted b n f g)) is given c = absurd c
take-taken name_of parts bytes_of s old new r v w input (Some blank) None None is given c = absurd c
take-taken name_of parts bytes_of s old new r v w input blank None (Some pool.Refused) is given c = absurd c

-- THE WORKER'S TAKES

module _ {F B O : Type 0} (name_of : F → FrameName) (parts : F → Option Parts)
    (bytes_of : B → ℕ) (s : Setting) (r v : ℕ) (old new : Pass) (n : HasNothing (worker_logs v) r old) where
  pub take-goes : (a : take_answer F B O) → is_still a ≡ true
      → Called s (λ x y. TakeGives {F = F} {B = B} {O = O} name_of parts bytes_of s x r v a y) (said_take {F = F} {B = B} {O = O} a) old new
      → HasNothing (worker_logs v) r new
  take-goes a still c =
      let g = λ (x y : BoardState). TakeGives {F = F} {B = B} {O = O} name_of parts bytes_of s x r v a y in
      let answers = said_take {F = F} {B = B} {O = O} a in
      let b = here s g answers old new r n.role c in
      let same_ =
      take-still {F = F} {B = B} {O = O} name_of parts bytes_of s b new.seen r v (take_refusal s r v (past b)) (asked s v (past b)) a still c.answer in
      kept (worker_logs v) r old new (role-after s g answers old new r n.role c) (unmoved s g answers old new r n.role c same_) n

  pub take-left-seen : Called s (λ x y. TakeGives {F = F} {B = B} {O = O} name_of parts bytes_of s x r v take.Left y) (said_last last.Left) old new
      → worker_ends v new.said.last (past new.seen) false ≡ true
  take-left-seen c =
      let g = λ (x y : BoardState). TakeGives {F = F} {B = B} {O = O} name_of parts bytes_of s x r v take.Left y in
      let b = here s g (said_last last.Left) old new r n.role c in
      let same_ =
      take-still {F = F} {B = B} {O = O} name_of parts bytes_of s b new.seen r v (take_refusal s r v (past b)) (asked s v (past b)) take.Left refl c.answer in
      let away =
      take-says {F = F} {B = B} {O = O} name_of parts bytes_of s b new.seen r v (take_refusal s r v (past b))
      (asked s v (past b)) take.Left refl refl c.answer in
      ap (λ (said : Said). worker_ends v said.last (past new.seen) false) c.said
      ∙ (ap (λ (w : BoardState). has_left_any (past w)) same_ ∙ (and_parts (has_left_any (past b)) _ away).0)

  pub take-ended-seen : Called s (λ x y. TakeGives {F = F} {B = B} {O = O} name_of parts bytes_of s x r v take.Ended y) (said_last last.Ended) old new
      → worker_ends v new.said.last (past new.seen) false ≡ true
  take-ended-seen c =
      let g = λ (x y : BoardState). TakeGives {F = F} {B = B} {O = O} name_of parts bytes_of s x r v take.Ended y in
      let b = here s g (said_last last.Ended) old new r n.role c in
      let same_ =
      take-still {F = F} {B = B} {O = O} name_of parts bytes_of s b new.seen r v (take_refusal s r v (past b)) (asked s v (past b)) take.Ended refl c.answer in
      let ended =
      take-says {F = F} {B = B} {O = O} name_of parts bytes_of s b new.seen r v (take_refusal s r v (past b))
      (asked s v (past b)) take.Ended refl refl c.answer in
      ap (λ (said : Said). worker_ends v said.last (past new.seen) false) c.said ∙ (ap (λ (w : BoardState). is_settled v (past w)) same_ ∙ ended)

  -- a role without a hand isn't busy
  pub take-isnt-busy : Called s (λ x y. TakeGives {F = F} {B = B} {O = O} name_of parts bytes_of s x r v take.Busy y) said_other old new → ⊥
  take-isnt-busy c =
      let g = λ (x y : BoardState). TakeGives {F = F} {B = B} {O = O} name_of parts bytes_of s x r v take.Busy y in
      let b = here s g said_other old new r n.role c in
      let busy =
      take-says {F = F} {B = B} {O = O} name_of parts bytes_of s b new.seen r v (take_refusal s r v (past b))
      (asked s v (past b)) take.Busy refl refl c.answer in
      let free : is_free r (past b) ≡ true = ap is_none (hand-before s g said_other old new r n.role c ∙ n.free) in
      false≢true (sym (ap not free) ∙ busy)

  pub take-drops : (k z : ℕ) → Called s (λ x y. TakeGives {F = F} {B = B} {O = O} name_of parts bytes_of s x r v (take.PoolDrop k z) y) said_other old new
      → HasNothing (worker_logs v) r new
  take-drops k z c =
      let g = λ (x y : BoardState). TakeGives {F = F} {B = B} {O = O} name_of parts bytes_of s x r v (take.PoolDrop k z) y in
      let b = here s g said_other old new r n.role c in
      let role_ = role-after s g said_other old new r n.role c in
      elim (take-drop {F = F} {B = B} {O = O} name_of parts bytes_of s b new.seen r v k z (take_refusal s r v (past b)) (asked s v (past b)) c.answer) [
        | inl same_ ↦ kept (worker_logs v) r old new role_ (unmoved s g said_other old new r n.role c same_) n
        | inr d ↦
            let m =
            moved s g said_other old new r n.role c (worker_logs v) 0 (plain (PoolDrop r v d.0 d.1 (s.need v) d.2)) d.3 refl
            (worker-quiet v) (eq-eqb v v refl) n.moves in
            record { role = role_; moves = m.moves; free = m.hand ∙ (hand-before s g said_other old new r n.role c ∙ n.free) }
      ]

-- it isn't NotYours
had-owned : (l : Last) (had : Bool) (said : Said) → (said_had l had said).owned ≡ said.owned
had-owned l true said = refl
had-owned l false said = refl

pub take-owned : {F B O : Type 0} (a : take_answer F B O) (said : Said) → (said_take a said).owned ≡ said.owned
take-owned a said = had-owned (last_take a) (take_had_memory a) said

-- A JOB

pub same-self : (a : FrameName) → same a (frame a.maker a.index) ≡ true
same-self a = and_from _ _ (eq-eqb a.maker a.maker refl) (eq-eqb a.index a.index refl)

pub room-of : (need : ℕ) (size : ℕ) (blank : Option (List ℕ)) → OfSome (λ (b : List ℕ). (need ≤ length b) × (length b ≡ size)) blank
    → OfSome (λ (b : List ℕ). need ≤ length b) blank
room-of need size None h = tt
room-of need size (Some b) h = h.0

module _ {O : Type 0} (g : Graph) (stack : StackValue) (r v w : ℕ) (input : Sealed) (old new : Pass) (sound : IsGraph g)
    (node_ : is_node (run_setting g stack) v ≡ true)
    (n : HasNothing (worker_logs v) r old) where
  job-from : (blank : Option (List ℕ)) (e : Entry) → takes_up r e ≡ true → is_job_on v input.name (Some e) ≡ true
      → is_some blank ≡ is_maker (run_setting g stack) v
      → ((lent : Option Parts) → parts_of input ≡ lent → IsOfHand name_of parts_of length lent (Some e) (Some input) None blank)
      → (c : Called (run_setting g stack)
      (λ x y. TakeGives {F = Sealed} {B = List ℕ} {O = O} name_of parts_of length (run_setting g stack) x r v (take.Job w input blank) y) said_other old new)
      → LendsJob {F = Sealed} {B = List ℕ} {O = O} parts_of length (run_setting g stack) r v (take.Job w input blank) new.made
      → new.seen ≡ moved_at (run_setting g stack) 0 (lends e (parts_of input)) (c.between ++ old.seen)
      → begun_by e ≡ Some r → worker_logs v e ≡ true → HasJob g stack r v input blank new
  job-from blank e up job maker held c lent_ move first log =
      let f =
      λ (x y : BoardState). TakeGives {F = Sealed} {B = List ℕ} {O = O} name_of parts_of length (run_setting g stack) x r v (take.Job w input blank) y in
      let m =
      moved (run_setting g stack) f said_other old new r n.role c (worker_logs v) 0 (lends e (parts_of input)) move first (worker-quiet v) log n.moves in
      let hand_ : hand r (past new.made) ≡ Some e = m.hand ∙ hand_laws.up r e (past (c.between ++ old.seen)) up in
      let seen_ : hand r (past new.seen) ≡ Some e = hand-after (run_setting g stack) f said_other old new r n.role c ∙ hand_ in
      record {
        role = role-after (run_setting g stack) f said_other old new r n.role c;
        moves = m.moves;
        job = ap (λ (o : Option Entry). is_job_on v input.name o) hand_ ∙ job;
        held =
            subst (λ (o : Option Entry). IsOfHand name_of parts_of length (lent_to r new.made) o (Some input) None blank) (sym hand_)
            (held (lent_to r new.made) (sym lent_.0));
        comes = hand-named g stack (past new.seen) r v e input.name sound node_ c.legal seen_ job;
        fits = record { maker = maker; room = room-of ((run_setting g stack).need v) (granted_size (hand r (past new.made))) blank lent_.1 };
      }

  with-block : (blank : Option (List ℕ))
      → (c : Called (run_setting g stack)
      (λ x y. TakeGives {F = Sealed} {B = List ℕ} {O = O} name_of parts_of length (run_setting g stack) x r v (take.Job w input blank) y) said_other old new)
      → LendsJob {F = Sealed} {B = List ℕ} {O = O} parts_of length (run_setting g stack) r v (take.Job w input blank) new.made
      → WithBlock name_of parts_of length (run_setting g stack) (c.between ++ old.seen) new.seen r v input blank → HasJob g stack r v input blank new
  with-block blank c lent_ t =
      let e = take_block r v input.name t.b t.n t.f t.g t.x in
      job-from blank e (eq-eqb r r refl) (and_from _ _ (eq-eqb v v refl) (same-self input.name)) (ap is_some t.is ∙ sym t.maker)
      (λ lent here_. subst (λ (o : Option (List ℕ)). IsOfHand name_of parts_of length lent (Some e) (Some input) None o) (sym t.is) ((refl, here_), t.sized))
      c lent_ t.move refl (eq-eqb v v refl)

  without : (blank : Option (List ℕ))
      → (c : Called (run_setting g stack)
      (λ x y. TakeGives {F = Sealed} {B = List ℕ} {O = O} name_of parts_of length (run_setting g stack) x r v (take.Job w input blank) y) said_other old new)
      → LendsJob {F = Sealed} {B = List ℕ} {O = O} parts_of length (run_setting g stack) r v (take.Job w input blank) new.made
      → Alone name_of parts_of (run_setting g stack) (c.between ++ old.seen) new.seen r v input blank → HasJob g stack r v input blank new
  without blank c lent_ t =
      let e = Take r v input.name.maker input.name.index in
      job-from blank e (eq-eqb r r refl) (and_from _ _ (eq-eqb v v refl) (same-self input.name)) (ap is_some t.is ∙ sym t.maker)
      (λ lent here_. subst (λ (o : Option (List ℕ)). IsOfHand name_of parts_of length lent (Some e) (Some input) None o) (sym t.is) ((refl, here_), refl, refl))
      c lent_ t.move refl (eq-eqb v v refl)

  pub take-works : (blank : Option (List ℕ))
      → Called (run_setting g stack)
      (λ x y. TakeGives {F = Sealed} {B = List ℕ} {O = O} name_of parts_of length (run_setting g stack) x r v (take.Job w input blank) y) said_other old new
      → LendsJob {F = Sealed} {B = List ℕ} {O = O} parts_of length (run_setting g stack) r v (take.Job w input blank) new.made
      → HasJob g stack r v input blank new
  take-works blank c lent_ =
      let b = c.between ++ old.seen in
      elim (take-taken {F = Sealed} {B = List ℕ} {O = O} name_of parts_of length (run_setting g stack) b new.seen r v w input blank
      (take_refusal (run_setting g stack) r v (past b)) (asked (run_setting g stack) v (past b)) refl refl c.answer) [
        | inl t ↦ with-block blank c lent_ t
        | inr t ↦ without blank c lent_ t
      ]

-- what stands on the storage of a job has the granted size
pub granted-by : (lent : Option Parts) (o : Option Entry) (input : Sealed) (blank : Option (List ℕ)) (made : Option Sealed)
    → IsOfHand name_of parts_of length lent o (Some input) None blank → OfSome (λ (f : Sealed). IsWholeOf (option_map_or length blank 0) (parts_of f)) made
    → OfSome (λ (f : Sealed). IsWholeOf (granted_size o) (parts_of f)) made
granted-by lent o input blank None h w = tt
granted-by lent None input blank (Some f) h w = absurd (true≢false h.0)
granted-by lent (Some (Take q u m k)) input None (Some f) h w = w
granted-by lent (Some (Take q u m k)) input (Some b) (Some f) h w = absurd (true≢false h.2)
granted-by lent (Some (TakeBlock y x q u m k b n g)) input (Some blank) (Some f) h w = (w.0, w.1 ∙ h.1)
granted-by lent (Some (TakeBlock y x q u m k b n g)) input None (Some f) h w = absurd h.1
granted-by lent (Some (Load q k b n y g x)) input blank (Some f) h w = absurd (true≢false h.0)
granted-by lent (Some (Save q u m k g)) input None (Some f) h w = w
granted-by lent (Some (Save q u m k g)) input (Some b) (Some f) h w = absurd (true≢false h.2)
granted-by lent (Some _) input blank (Some f) h w = absurd h

pub lent-by : (lent : Option Parts) (o : Option Entry) (input : Sealed) (blank : Option (List ℕ))
    → IsOfHand name_of parts_of length lent o (Some input) None blank → parts_of input ≡ lent
lent-by lent None input blank h = absurd (true≢false h.0)
lent-by lent (Some (Take q u m k)) input blank h = h.0.1
lent-by lent (Some (TakeBlock y x q u m k b n g)) input blank h = h.0.1
lent-by lent (Some (Load q k b n y g x)) input blank h = absurd (true≢false h.0)
lent-by lent (Some (Save q u m k g)) input blank h = h.0.1
lent-by lent (Some _) input blank h = absurd h

module _ (g : Graph) (stack : StackValue) (r v : ℕ) (input : Sealed) (blank : Option (List ℕ)) (old new : Pass) (job : HasJob g stack r v input blank old) where
  pub job-may-put : (done : Done Sealed) → IsJobDone g stack v input blank done
      → MayPut name_of parts_of (run_measure g stack) (run_setting g stack) old.made r done
  job-may-put done d is = (
    d.result,
    ap parts_of d.given ∙ lent-by (lent_to r old.made) (hand r (past old.made)) input blank job.held,
    granted-by (lent_to r old.made) (hand r (past old.made)) input blank done.made job.held d.whole,
  )

  pub put-goes : {E : Type 0} (done : Done Sealed) (x : E) → IsJobDone g stack v input blank done
      → Called (run_setting g stack) (λ a b. PutGives {E = E} name_of (run_setting g stack) a r done (Ok x) b) said_other old new
      → HasNothing (worker_logs v) r new
  put-goes {E} done x d c =
      let f = λ (a b : BoardState). PutGives {E = E} name_of (run_setting g stack) a r done (Ok x) b in
      let e = Put r done.node (result_name (run_setting g stack) done.node (name_of done.input)).maker (name_of done.input).index done.fired in
      let m =
      moved (run_setting g stack) f said_other old new r job.role c (worker_logs v) 0 (plain e) c.answer.1 refl (worker-quiet v)
      (eq-eqb done.node v d.node) job.moves in
      record {
        role = role-after (run_setting g stack) f said_other old new r job.role c;
        moves = m.moves;
        free = m.hand ∙ hand_laws.down (run_setting g stack) r e (past (c.between ++ old.seen)) m.legal (eq-eqb r r refl);
      }

  -- the hand of a job isn't another one
  pub put-takes : (E : Type 0) (done : Done Sealed) (e : NotYours Sealed) → IsJobDone g stack v input blank done
      → Called (run_setting g stack) (λ a b. PutGives {E = E} name_of (run_setting g stack) a r done (Err e) b)
      (said_given {F = Sealed} {E = E} (Err e)) old new → ⊥
  put-takes E done e d c =
      let f = λ (a b : BoardState). PutGives {E = E} name_of (run_setting g stack) a r done (Err e) b in
      let is : is_job_on done.node (name_of done.input) (hand r (past old.made)) ≡ true =
      ap (λ (u : ℕ). is_job_on u (name_of done.input) (hand r (past old.made))) d.node
      ∙ (ap (λ (i : Sealed). is_job_on v (name_of i) (hand r (past old.made))) d.given ∙ job.job) in
      let hand_ = hand-before (run_setting g stack) f (said_given {F = Sealed} {E = E} (Err e)) old new r job.role c in
      false≢true (sym c.answer.0 ∙ (ap (λ (o : Option Entry). is_job_on done.node (name_of done.input) o) hand_ ∙ is))

-- SETTLE

pub settle-goes : (s : Setting) (r v : ℕ) (a : Settled) (old new : Pass) → HasNothing (worker_logs v) r old
    → Called s (λ x y. SettleGives s x r v a y) said_other old new
    → HasNothing (worker_logs v) r new
settle-goes s r v settled.NotYet old new n c =
    let f = λ (x y : BoardState). SettleGives s x r v settled.NotYet y in
    kept (worker_logs v) r old new (role-after s f said_other old new r n.role c) (unmoved s f said_other old new r n.role c c.answer.1) n
settle-goes s r v settled.Done old new n c =
    let f = λ (x y : BoardState). SettleGives s x r v settled.Done y in
    let b = here s f said_other old new r n.role c in
    let role_ = role-after s f said_other old new r n.role c in
    elim (cases_Bool (is_settled v (past b))) [
      | inl done ↦ kept (worker_logs v) r old new role_ (unmoved s f said_other old new r n.role c (c.answer.1 ∙ rw done refl)) n
      | inr not_yet ↦
          let m =
          moved s f said_other old new r n.role c (worker_logs v) 0 (plain (Settle r v)) (c.answer.1 ∙ rw not_yet refl) refl
          (worker-quiet v) (eq-eqb v v refl) n.moves in
          record { role = role_; moves = m.moves; free = m.hand ∙ (hand-before s f said_other old new r n.role c ∙ n.free) }
    ]

-- WHAT A JOB LEAVES

pub job-left : {O : Type 0} (g : Graph) (stack : StackValue) (r v : ℕ) (input : Sealed) (blank : Option (List ℕ)) (p : Pass) (left : Left Sealed (List ℕ) O)
    → HasJob g stack r v input blank p → left ≡ record { input = Some input; made = None; blank = blank }
    → IsOfHand name_of parts_of length (lent_to r p.made) (hand r (past p.made)) left.input left.made left.blank
job-left {O} g stack r v input blank p left job is =
    subst (λ (l : Left Sealed (List ℕ) O). IsOfHand name_of parts_of length (lent_to r p.made) (hand r (past p.made)) l.input l.made l.blank) (sym is) job.held
