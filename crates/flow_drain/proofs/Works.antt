-- The drain's jobs, and how it settles a node.
use Rattle.std.proofs.Common.{◌≡◌, ◌⊎◌, ℕ, ◌<◌, ◌≤◌, Bool, true, false, not, ◌||◌, eqb, ltb, leb, if◌then◌else◌, List, [], ◌∷◌, length, refl, sym, ap, ◌∙◌}
use Rattle.std.proofs.Common.{subst, arith, Option, Some, None, Ok, Err, inl, inr}
use Rattle.std.specs.Prelude.{is_some, filter}
use Rattle.std.proofs.lemmas.Bool.{cases_Bool, eq-eqb, false≢true, true≢false, and_parts, and_from, leb-true}
use Rattle.nd_base.specs.Array.{StackValue}
use Rattle.nd_base.specs.Parts.{Parts}
use Rattle.nd_base.specs.GraphRules.{IsGraph}
use Rattle.nd_base.specs.declared.frame.FrameName.{FrameName}
use Rattle.nd_base.specs.declared.graph.Graph.{Graph}
use Rattle.frame_store.specs.Sealed.{Sealed}
use Rattle.chain_plain.specs.Plans.{makers_of}
use Rattle.chain_plain.proofs.Rules.{stands}
use Rattle.pool_ledger.specs.Grants.{Answer, Granted}
use Rattle.pool_ledger.specs.Grants as pool
use Rattle.flow_journal.specs.declared.entry.Entry.{Entry}
use Rattle.flow_journal.specs.declared.entry.Entry.TheVariants.{Take, PoolDrop, Put, Settle}
use Rattle.flow_journal.specs.Setting.{Setting, Node, node, is_node, is_maker, last_role}
use Rattle.flow_journal.specs.Pasts.{Past}
use Rattle.flow_journal.specs.Hands.{takes_up, let_go, hands, hand, is_free, is_job, jobs}
use Rattle.flow_journal.specs.Ended.{is_settled, has_ended}
use Rattle.flow_journal.specs.Queued.{queued}
use Rattle.flow_journal.specs.FirstEntries.{is_next}
use Rattle.flow_journal.specs.Finished.{none_left}
use Rattle.flow_journal.specs.Histories.{is_legal, is_history}
use Rattle.board_rules.specs.declared.answers.Take.{Take as take_answer}
use Rattle.board_rules.specs.declared.answers.Take.TheVariants as take
use Rattle.board_rules.specs.declared.answers.Done.{Done}
use Rattle.board_rules.specs.declared.answers.NotYours.{NotYours}
use Rattle.board_rules.specs.declared.answers.Settled.{Settled}
use Rattle.board_rules.specs.declared.answers.Settled.TheVariants as settled
use Rattle.board_rules.specs.States.{BoardState, past, plain, lends, lent_to, take_block}
use Rattle.flow_journal.specs.MoveLists.{begun_by}
use Rattle.flow_journal.specs.ResultNames.{result_name}
use Rattle.flow_journal.proofs.Found.{none_left-nil}
use Rattle.board_rules.specs.Moving.{moved_at}
use Rattle.board_rules.specs.InHand.{is_job_on, granted_size, IsWholeOf, OfSome, IsOfHand}
use Rattle.board_rules.specs.RunMeasures.{run_setting, run_measure}
use Rattle.board_rules.specs.Feeding.{is_sent_away}
use Rattle.board_rules.specs.Working.{take_refusal, asked, TakeAnswers, TakeGives, LendsJob, MayPut, PutGives, waits_to_settle, SettleGives}
use Rattle.board_rules.proofs.Storage.{isnt-away}
use Rattle.board_rules.proofs.Legal.{take-by, put-by, settle-by}
use Rattle.run_laws.proofs.Runs.{node-is}
use Rattle.flow_roles.specs.Feeder.{name_of, parts_of}
use Rattle.flow_roles.specs.Worker.{IsJobDone}
use Rattle.flow_roles.proofs.Named.{node-rule, hand-named}
use Rattle.flow_roles.proofs.WorkerCalls.{take-still, Says, said-by, take-says, take-taken, WithBlock, Alone, same-self, room-of, granted-by, lent-by}
use Rattle.flow_roles.proofs.WorkerCalls as worker
use Rattle.flow_drain.specs.Drains.{DrainMoves}
use Rattle.flow_drain.specs.DrainSteps.{IsIdle, Holds, HasWork}
use Rattle.flow_drain.proofs.Emptied.{queue-empty}
use Rattle.flow_drain.proofs.Growth.{longer, no-move, one-of, hands-moved, hand-one, let-one}
use Rattle.flow_drain.proofs.Feeds.{never-away, free-of, other-board}

-- each node has a thread, and its queue a place
pub record IsSoundNode (n : Node) : Type 0 where
  pub thread : 1 ≤ n.threads
  pub place : 1 ≤ n.queue

pub node-sound : (g : Graph) (stack : StackValue) (v : ℕ) → IsGraph g → is_node (run_setting g stack) v ≡ true → IsSoundNode (node (run_setting g stack) v)
node-sound g stack v sound here =
    let n = node-rule g stack v here in
    let r = (stands g v n.0 sound (sym n.1)).sound in
    subst (λ (x : Node). IsSoundNode x) (sym (node-is g (makers_of g.nodes stack.shape) stack.arrays v n.0 n.1))
    (record { thread = r.threads.0; place = r.queue.0 })

no-jobs : (v : ℕ) (P : Past) → hands P ≡ [] → jobs v P ≡ 0
no-jobs v P is = ap (λ (hs : Past). length (filter (is_job v) hs)) is

-- TAKE

module _ {F B : Type 0} (O : Type 0) (name_of_ : F → FrameName) (parts : F → Option Parts)
    (bytes_of : B → ℕ) (s : Setting) (old new : BoardState) (r v : ℕ) (is : r ≡ last_role s) (idle : IsIdle s old) where
  says : (a : take_answer F B O) → worker.is_told a ≡ true → TakeGives {F = F} {B = B} {O = O} name_of_ parts bytes_of s old r v a new
      → Says a (is_sent_away s r (past old)) (not (is_free r (past old))) (is_settled v (past old))
      (none_left (queued v (past old)) || leb (node s v).threads (jobs v (past old)))
  says a told c = take-says {F = F} {B = B} {O = O} name_of_ parts bytes_of s old new r v (take_refusal s r v (past old)) (asked s v (past old)) a told refl c

  pub take-same : (a : take_answer F B O) → worker.is_still a ≡ true → TakeGives {F = F} {B = B} {O = O} name_of_ parts bytes_of s old r v a new → new ≡ old
  take-same a still c =
      take-still {F = F} {B = B} {O = O} name_of_ parts bytes_of s old new r v (take_refusal s r v (past old)) (asked s v (past old)) a still c

  pub take-left : TakeGives {F = F} {B = B} {O = O} name_of_ parts bytes_of s old r v take.Left new → ⊥
  take-left c = true≢false (sym (says take.Left refl c) ∙ never-away s r (past old) is)

  pub take-busy : TakeGives {F = F} {B = B} {O = O} name_of_ parts bytes_of s old r v take.Busy new → ⊥
  take-busy c = false≢true (sym (ap not (free-of r (past old) idle.free)) ∙ says take.Busy refl c)

  pub take-ended : TakeGives {F = F} {B = B} {O = O} name_of_ parts bytes_of s old r v take.Ended new → queued v (past old) ≡ []
  take-ended c = queue-empty s (past old) v (and_parts (is_legal s (past old)) _ idle.legal).0 (says take.Ended refl c)

  pub take-legal : s.pooled ≡ true → is_node s v ≡ true → (a : take_answer F B O)
      → TakeGives {F = F} {B = B} {O = O} name_of_ parts bytes_of s old r v a new → is_history s (past new) ≡ true
  take-legal pooled here a c = take-by {F = F} {B = B} {O = O} name_of_ parts bytes_of s old new r v _ _ a pooled idle.legal (omega (arith, is)) refl refl c

  idle-by : (o : Option (take_answer F B O)) (g : Option Answer) → take_refusal {F = F} {B = B} {O = O} s r v (past old) ≡ o
      → TakeAnswers name_of_ parts bytes_of s old r v o g take.Idle new → (none_left (queued v (past old)) || leb (node s v).threads (jobs v (past old))) ≡ true
  idle-by (Some x) g told c =
      said-by {F = F} {B = B} {O = O} take.Idle (is_sent_away s r (past old)) (not (is_free r (past old))) (is_settled v (past old))
      (none_left (queued v (past old)) || leb (node s v).threads (jobs v (past old)))
      (told ∙ ap Some (sym c.0))
  idle-by None (Some (Granted b n f g)) told c = absurd c
  idle-by None (Some pool.Refused) told c = absurd c
  idle-by None None told c = absurd c

  pub take-idle : IsSoundNode (node s v) → TakeGives {F = F} {B = B} {O = O} name_of_ parts bytes_of s old r v take.Idle new → queued v (past old) ≡ []
  take-idle sound c =
      let busy : leb (node s v).threads (jobs v (past old)) ≡ false =
      elim (cases_Bool (leb (node s v).threads (jobs v (past old)))) [
        | inl many ↦ absurd (omega (arith, sound.thread, no-jobs v (past old) idle.free, leb-true (node s v).threads (jobs v (past old)) many))
        | inr few ↦ few
      ] in
      let either = idle-by (take_refusal s r v (past old)) (asked s v (past old)) refl c in
      elim (cases_Bool (none_left (queued v (past old)))) [
        | inl none ↦ none_left-nil (queued v (past old)) none
        | inr some ↦ absurd (false≢true (sym (rw (some, busy) refl) ∙ either))
      ]

  -- a dropped array is a move
  drop-by : (k z : ℕ) (o : Option (take_answer F B O)) (g : Option Answer) → take_refusal {F = F} {B = B} {O = O} s r v (past old) ≡ o
      → TakeAnswers name_of_ parts bytes_of s old r v o g (take.PoolDrop k z) new
      → (a : FrameName) × (is_next a (queued v (past old)) ≡ true) × (new ≡ moved_at s 0 (plain (PoolDrop r v a.maker a.index (s.need v) z)) old)
  drop-by k z (Some x) g told c =
      absurd (said-by {F = F} {B = B} {O = O} (take.PoolDrop k z) (is_sent_away s r (past old)) (not (is_free r (past old))) (is_settled v (past old))
      (none_left (queued v (past old)) || leb (node s v).threads (jobs v (past old)))
      (told ∙ ap Some (sym c.0)))
  drop-by k z None (Some pool.Refused) told c = (c.1.0, c.1.1, c.1.3)
  drop-by k z None (Some (Granted b n f g)) told c = absurd c
  drop-by k z None None told c = absurd c

  pub take-drops : (k z : ℕ) → TakeGives {F = F} {B = B} {O = O} name_of_ parts bytes_of s old r v (take.PoolDrop k z) new
      → (a : FrameName) × (is_next a (queued v (past old)) ≡ true) × (new ≡ moved_at s 0 (plain (PoolDrop r v a.maker a.index (s.need v) z)) old)
  take-drops k z c = drop-by k z (take_refusal s r v (past old)) (asked s v (past old)) refl c

  -- a job is on the next array of the queue
  job-by : (w : ℕ) (input : F) (blank : Option B) (o : Option (take_answer F B O)) (g : Option Answer)
      → take_refusal {F = F} {B = B} {O = O} s r v (past old) ≡ o
      → TakeAnswers name_of_ parts bytes_of s old r v o g (take.Job w input blank) new → is_next (name_of_ input) (queued v (past old)) ≡ true
  job-by w input blank (Some x) g told c =
      absurd (said-by {F = F} {B = B} {O = O} (take.Job w input blank) (is_sent_away s r (past old)) (not (is_free r (past old))) (is_settled v (past old))
      (none_left (queued v (past old)) || leb (node s v).threads (jobs v (past old)))
      (told ∙ ap Some (sym c.0)))
  job-by w input (Some blank) None (Some (Granted b n f g)) told c = c.1.0
  job-by w input None None None told c = c.1.0
  job-by w input None None (Some (Granted b n f g)) told c = absurd c
  job-by w input (Some blank) None None told c = absurd c
  job-by w input blank None (Some pool.Refused) told c = absurd c

  pub take-next : (w : ℕ) (input : F) (blank : Option B) → TakeGives {F = F} {B = B} {O = O} name_of_ parts bytes_of s old r v (take.Job w input blank) new
      → is_next (name_of_ input) (queued v (past old)) ≡ true
  take-next w input blank c = job-by w input blank (take_refusal s r v (past old)) (asked s v (past old)) refl c

  pub take-job : (w : ℕ) (input : F) (blank : Option B) → TakeGives {F = F} {B = B} {O = O} name_of_ parts bytes_of s old r v (take.Job w input blank) new
      → WithBlock name_of_ parts bytes_of s old new r v input blank ⊎ Alone name_of_ parts s old new r v input blank
  take-job w input blank c =
      take-taken {F = F} {B = B} {O = O} name_of_ parts bytes_of s old new r v w input blank (take_refusal s r v (past old)) (asked s v (past old)) refl refl c

-- nothing is next where nothing is queued
pub none-next : (a : FrameName) (xs : List FrameName) → xs ≡ [] → is_next a xs ≡ true → ⊥
none-next a xs none next = false≢true (sym (ap (λ (ys : List FrameName). is_next a ys) none) ∙ next)

-- A JOB

module _ (O : Type 0) (g : Graph) (stack : StackValue) (old mid : BoardState) (r v w : ℕ) (sound : IsGraph g) (here : is_node (run_setting g stack) v ≡ true)
    (is : r ≡ last_role (run_setting g stack)) (idle : IsIdle (run_setting g stack) old) (input : Sealed) (blank : Option (List ℕ))
    (c : TakeGives {F = Sealed} {B = List ℕ} {O = O} name_of parts_of length (run_setting g stack) old r v (take.Job w input blank) mid) where
  legal-mid : is_history (run_setting g stack) (past mid) ≡ true
  legal-mid = take-legal O name_of parts_of length (run_setting g stack) old mid r v is idle refl here (take.Job w input blank) c

  -- the job is the only hand, by the entry that made it
  job-held : (e : Entry) (lent : Option Parts) → begun_by e ≡ Some r → hands (e ∷ past old) ≡ e ∷ let_go r (hands (past old)) → takes_up r e ≡ true
      → mid ≡ moved_at (run_setting g stack) 0 (lends e lent) old → Holds (run_setting g stack) e mid
  job-held e lent first up taken move =
      record {
        legal = legal-mid;
        only = hands-moved (run_setting g stack) 0 r (lends e lent) old mid first move ∙ (up ∙ ap (λ (hs : Past). e ∷ let_go r hs) idle.free);
        drain = subst (λ (i : ℕ). takes_up i e ≡ true) is taken;
      }

  work-by : (e : Entry) → Holds (run_setting g stack) e mid → takes_up r e ≡ true → is_job_on v input.name (Some e) ≡ true
      → is_some blank ≡ is_maker (run_setting g stack) v
      → ((lent : Option Parts) → parts_of input ≡ lent → IsOfHand name_of parts_of length lent (Some e) (Some input) None blank)
      → LendsJob {F = Sealed} {B = List ℕ} {O = O} parts_of length (run_setting g stack) r v (take.Job w input blank) mid → HasWork g stack v input blank mid
  work-by e holds up job maker held lent =
      record {
        hand = e;
        holds = holds;
        job = job;
        held = subst (λ (i : ℕ). IsOfHand name_of parts_of length (lent_to i mid) (Some e) (Some input) None blank) is (held (lent_to r mid) (sym lent.0));
        comes = hand-named g stack (past mid) r v e input.name sound here legal-mid (hand-one r e (past mid) holds.only up) job;
        fits = record { maker = maker; room = room-of ((run_setting g stack).need v) (granted_size (hand r (past mid))) blank lent.1 };
      }

  pub has-work : LendsJob {F = Sealed} {B = List ℕ} {O = O} parts_of length (run_setting g stack) r v (take.Job w input blank) mid
      → HasWork g stack v input blank mid
  has-work lent =
      let up : eqb r r ≡ true = eq-eqb r r refl in
      elim (take-job O name_of parts_of length (run_setting g stack) old mid r v is idle w input blank c) [
        | inl t ↦
            let e = take_block r v input.name t.b t.n t.f t.g t.x in
            work-by e (job-held e (parts_of input) refl refl up t.move) up
            (and_from _ _ (eq-eqb v v refl) (same-self input.name)) (ap is_some t.is ∙ sym t.maker)
            (λ lent here_. subst (λ (o : Option (List ℕ)). IsOfHand name_of parts_of length lent (Some e) (Some input) None o)
            (sym t.is) ((refl, here_), t.sized)) lent
        | inr t ↦
            let e = Take r v input.name.maker input.name.index in
            work-by e (job-held e (parts_of input) refl refl up t.move) up
            (and_from _ _ (eq-eqb v v refl) (same-self input.name)) (ap is_some t.is ∙ sym t.maker)
            (λ lent here_. subst (λ (o : Option (List ℕ)). IsOfHand name_of parts_of length lent (Some e) (Some input) None o)
            (sym t.is) ((refl, here_), refl, refl)) lent
      ]

  pub job-moves : (tick : ℕ) → DrainMoves (run_setting g stack) tick old mid
  job-moves tick =
      let mine : eqb r (last_role (run_setting g stack)) ≡ true = eq-eqb r (last_role (run_setting g stack)) is in
      elim (take-job O name_of parts_of length (run_setting g stack) old mid r v is idle w input blank c) [
        | inl t ↦
            one-of (run_setting g stack) tick 0 (lends (take_block r v input.name t.b t.n t.f t.g t.x) (parts_of input)) old mid mine
            (λ e. absurd (false≢true e)) (refl, isnt-away parts_of old t.b t.f t.x t.regrown (λ f. refl)) t.move
        | inr t ↦
            one-of (run_setting g stack) tick 0 (lends (Take r v input.name.maker input.name.index) (parts_of input)) old mid mine
            (λ e. absurd (false≢true e)) (refl, λ h. refl) t.move
      ]

  pub job-longer : length (past old) < length (past mid)
  job-longer =
      elim (take-job O name_of parts_of length (run_setting g stack) old mid r v is idle w input blank c) [
        | inl t ↦ longer (run_setting g stack) 0 (lends (take_block r v input.name t.b t.n t.f t.g t.x) (parts_of input)) old mid t.move
        | inr t ↦ longer (run_setting g stack) 0 (lends (Take r v input.name.maker input.name.index) (parts_of input)) old mid t.move
      ]

-- a dropped array
module _ (O : Type 0) (g : Graph) (stack : StackValue) (old mid : BoardState) (r v k z : ℕ) (here : is_node (run_setting g stack) v ≡ true)
    (is : r ≡ last_role (run_setting g stack)) (idle : IsIdle (run_setting g stack) old)
    (c : TakeGives {F = Sealed} {B = List ℕ} {O = O} name_of parts_of length (run_setting g stack) old r v (take.PoolDrop k z) mid) where
  pub drop-idle : IsIdle (run_setting g stack) mid
  drop-idle =
      let d = take-drops O name_of parts_of length (run_setting g stack) old mid r v is idle k z c in
      record {
        legal = take-legal O name_of parts_of length (run_setting g stack) old mid r v is idle refl here (take.PoolDrop k z) c;
        free = hands-moved (run_setting g stack) 0 r (plain (PoolDrop r v d.0.maker d.0.index ((run_setting g stack).need v) z)) old mid refl d.2 ∙ idle.free;
      }

  pub drop-moves : (tick : ℕ) → DrainMoves (run_setting g stack) tick old mid
  drop-moves tick =
      let d = take-drops O name_of parts_of length (run_setting g stack) old mid r v is idle k z c in
      one-of (run_setting g stack) tick 0 (plain (PoolDrop r v d.0.maker d.0.index ((run_setting g stack).need v) z)) old mid
      (eq-eqb r (last_role (run_setting g stack)) is)
      (λ e. absurd (false≢true e)) (refl, λ h. refl) d.2

  pub drop-longer : length (past old) < length (past mid)
  drop-longer =
      let d = take-drops O name_of parts_of length (run_setting g stack) old mid r v is idle k z c in
      longer (run_setting g stack) 0 (plain (PoolDrop r v d.0.maker d.0.index ((run_setting g stack).need v) z)) old mid d.2

  pub drop-next : queued v (past old) ≡ [] → ⊥
  drop-next none = let d = take-drops O name_of parts_of length (run_setting g stack) old mid r v is idle k z c in none-next d.0 (queued v (past old)) none d.1

-- PUT

module _ (g : Graph) (stack : StackValue) (old : BoardState) (r v : ℕ) (is : r ≡ last_role (run_setting g stack)) (input : Sealed) (blank : Option (List ℕ))
    (job : HasWork g stack v input blank old) (done : Done Sealed) (d : IsJobDone g stack v input blank done) where
  job-up : takes_up r job.hand ≡ true
  job-up = subst (λ (i : ℕ). takes_up i job.hand ≡ true) (sym is) job.holds.drain

  job-hand : hand r (past old) ≡ Some job.hand
  job-hand = hand-one r job.hand (past old) job.holds.only job-up

  pub may-put : MayPut name_of parts_of (run_measure g stack) (run_setting g stack) old r done
  may-put = λ this. (
    d.result,
    ap parts_of d.given
        ∙ (lent-by (lent_to (last_role (run_setting g stack)) old) (Some job.hand) input blank job.held ∙ ap (λ (i : ℕ). lent_to i old) (sym is)),
    subst (λ (o : Option Entry). OfSome (λ (f : Sealed). IsWholeOf (granted_size o) (parts_of f)) done.made) (sym job-hand)
        (granted-by (lent_to (last_role (run_setting g stack)) old) (Some job.hand) input blank done.made job.held d.whole),
  )

  pub put-taken : (E : Type 0) (new : BoardState) (e : NotYours Sealed) → PutGives {E = E} name_of (run_setting g stack) old r done (Err e) new → ⊥
  put-taken E new e c =
      let on : is_job_on done.node (name_of done.input) (hand r (past old)) ≡ true =
      ap (λ (u : ℕ). is_job_on u (name_of done.input) (hand r (past old))) d.node
      ∙ (ap (λ (i : Sealed). is_job_on v (name_of i) (hand r (past old))) d.given ∙ (ap (λ (o : Option Entry). is_job_on v input.name o) job-hand ∙ job.job)) in
      false≢true (sym c.0 ∙ on)

  pub put-idle : {E : Type 0} (new : BoardState) (x : E)
      → PutGives {E = E} name_of (run_setting g stack) old r done (Ok x) new → IsIdle (run_setting g stack) new
  put-idle {E} new x c =
      let e = Put r done.node (result_name (run_setting g stack) done.node (name_of done.input)).maker (name_of done.input).index done.fired in
      record {
        legal = put-by {E = E} name_of (run_measure g stack) (run_setting g stack) old new r done (Ok x) job.holds.legal (λ on. d.result) c;
        free = hands-moved (run_setting g stack) 0 r (plain e) old new refl c.1 ∙ let-one r job.hand (hands (past old)) job.holds.only job-up;
      }

  pub put-moves : {E : Type 0} (new : BoardState) (x : E) (tick : ℕ) → PutGives {E = E} name_of (run_setting g stack) old r done (Ok x) new
      → DrainMoves (run_setting g stack) tick old new
  put-moves new x tick c =
      one-of (run_setting g stack) tick 0
      (plain (Put r done.node (result_name (run_setting g stack) done.node (name_of done.input)).maker (name_of done.input).index done.fired)) old new
      (eq-eqb r (last_role (run_setting g stack)) is) (λ e. absurd (false≢true e)) (refl, λ h. refl) c.1

-- SETTLE

settled-by : (s : Setting) (r v : ℕ) (old new : BoardState) (b : Bool) → new ≡ (if b then old else moved_at s 0 (plain (Settle r v)) old)
    → ((b ≡ true) × (new ≡ old)) ⊎ (new ≡ moved_at s 0 (plain (Settle r v)) old)
settled-by s r v old new true c = inl (refl, c)
settled-by s r v old new false c = inr c

pub settle-idle : (s : Setting) (r v : ℕ) (old new : BoardState) (a : Settled) → r ≡ last_role s → is_node s v ≡ true → IsIdle s old
    → SettleGives s old r v a new → IsIdle s new
settle-idle s r v old new settled.NotYet is here idle c =
    record {
      legal = settle-by s old new r v settled.NotYet idle.legal (omega (arith, is)) here c;
      free = ap (λ (b : BoardState). hands (past b)) c.1 ∙ idle.free;
    }
settle-idle s r v old new settled.Done is here idle c =
    record {
      legal = settle-by s old new r v settled.Done idle.legal (omega (arith, is)) here c;
      free = elim (settled-by s r v old new (is_settled v (past old)) c.1) [
        | inl same_ ↦ ap (λ (b : BoardState). hands (past b)) same_.1 ∙ idle.free
        | inr move ↦ hands-moved s 0 r (plain (Settle r v)) old new refl move ∙ idle.free
      ];
    }

pub settle-moves : (s : Setting) (r v tick : ℕ) (old new : BoardState) (a : Settled) → r ≡ last_role s → SettleGives s old r v a new → DrainMoves s tick old new
settle-moves s r v tick old new settled.NotYet is c = no-move s tick old new c.1
settle-moves s r v tick old new settled.Done is c =
    elim (settled-by s r v old new (is_settled v (past old)) c.1) [
      | inl same_ ↦ no-move s tick old new same_.1
      | inr move ↦ one-of s tick 0 (plain (Settle r v)) old new (eq-eqb r (last_role s) is) (λ e. absurd (false≢true e)) (refl, λ h. refl) move
    ]

pub settle-still : (s : Setting) (r v : ℕ) (old new : BoardState) (a : Settled) → is_settled v (past old) ≡ true → SettleGives s old r v a new → new ≡ old
settle-still s r v old new settled.NotYet done c = c.1
settle-still s r v old new settled.Done done c = c.1 ∙ rw done refl

-- a settle that changes nothing: the node is settled, or its input hasn't ended
pub settle-quiet : (s : Setting) (r v : ℕ) (old new : BoardState) (a : Settled) → IsIdle s old → queued v (past old) ≡ []
    → SettleGives s old r v a new → new ≡ old
    → has_ended (node s v).input (past old) ≡ true → is_settled v (past old) ≡ true
settle-quiet s r v old new settled.NotYet idle none c same_ ended =
    elim (cases_Bool (is_settled v (past old))) [
      | inl done ↦ done
      | inr open_ ↦
          let few : none_left (queued v (past old)) ≡ true = ap (λ (xs : List FrameName). none_left xs) none in
          let jobs_ : ltb 0 (jobs v (past old)) ≡ false = ap (λ (n : ℕ). ltb 0 n) (no-jobs v (past old) idle.free) in
          let never : waits_to_settle s v (past old) ≡ false = rw (open_, ended, few, jobs_) refl in
          absurd (true≢false (sym c.0 ∙ never))
    ]
settle-quiet s r v old new settled.Done idle none c same_ ended =
    elim (settled-by s r v old new (is_settled v (past old)) c.1) [
      | inl done ↦ done.0
      | inr move ↦ absurd (other-board s 0 (plain (Settle r v)) old new old refl move same_)
    ]
