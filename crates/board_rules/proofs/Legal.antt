-- By its contract each call leads from a legal history to a legal history.
use Rattle.std.proofs.Common.{◌≡◌, ◌≢◌, ◌⊎◌, ℕ, ◌<◌, ◌≤◌, Bool, true, false, not, ◌&&◌, ◌||◌, cond, [], ◌∷◌, length, refl, sym, ap, ◌∙◌, subst}
use Rattle.std.proofs.Common.{subst₂, eqb, ltb, leb, arith, Option, Some, None, Result, Ok, Err, inl, inr, if◌then◌else◌}
use Rattle.std.specs.List.{list_all, list_any}
use Rattle.std.proofs.lemmas.Bool.{and_parts, and_from, false≢true, true≢false, eqb-true, eq-eqb, cases_Bool, or_parts, not-true, not-false, not_from_false}
use Rattle.std.proofs.lemmas.Bool.{ne_eqb, leb-false, leb-true, ltb-true, ltb-false}
use Rattle.nd_base.specs.Parts.{Parts}
use Rattle.nd_base.specs.declared.frame.FrameName.{FrameName}
use Rattle.nd_base.specs.declared.measure.Measure.{Measure}
use Rattle.pool_ledger.specs.Grants.{Answer, Granted}
use Rattle.pool_ledger.specs.Grants as pool
use Rattle.flow_journal.specs.declared.entry.Entry.{Entry}
use Rattle.flow_journal.specs.declared.entry.Entry.TheVariants.{Load, LoadRefused, Issue, Take, TakeBlock, PoolDrop, Put, Settle, Save, Saved, Close, Leave}
use Rattle.flow_journal.specs.Setting.{Setting, Work, Makes, Passes, Watches, Saves, node, children, last_role, is_node, is_maker}
use Rattle.flow_journal.specs.Pasts.{Past, frame, same}
use Rattle.flow_journal.specs.Hands.{takes_up, hand, hands, is_free, jobs, is_piece}
use Rattle.flow_journal.specs.Ended.{is_closed, is_settled, has_ended, has_left_any, has_left, was_reclaimed}
use Rattle.flow_journal.specs.Offered.{next_index}
use Rattle.flow_journal.specs.Queued.{queued, has_room}
use Rattle.flow_journal.specs.Unsaved.{unsaved, is_due, is_file}
use Rattle.flow_journal.specs.Accounts.{held, grant}
use Rattle.flow_journal.specs.FirstEntries.{first, has_loaded, is_next}
use Rattle.flow_journal.specs.Finished.{none_left}
use Rattle.flow_journal.specs.Histories.{is_history, is_legal}
use Rattle.flow_journal.specs.RowFacts.{Acts, LoadFacts, TakeFacts, HasLoaded, HasJob, HasResult, SettleFacts, PieceFacts, SaveFacts, CloseFacts}
use Rattle.flow_journal.specs.RowFacts.{ReclaimFacts}
use Rattle.flow_journal.proofs.Rows.{row_laws, next-first_of, none_is}
use Rattle.flow_journal.proofs.Found.{found_up, some_hand, none_left-nil}
use Rattle.flow_journal.proofs.Steps.{same-true}
use Rattle.board_rules.specs.declared.answers.Load.{Load as load_answer}
use Rattle.board_rules.specs.declared.answers.Load.TheVariants as load
use Rattle.board_rules.specs.declared.answers.Take.{Take as take_answer}
use Rattle.board_rules.specs.declared.answers.Take.TheVariants as take
use Rattle.board_rules.specs.declared.answers.Save.{Save as save_answer}
use Rattle.board_rules.specs.declared.answers.Save.TheVariants as save
use Rattle.board_rules.specs.declared.answers.Settled.{Settled}
use Rattle.board_rules.specs.declared.answers.Settled.TheVariants as settled
use Rattle.board_rules.specs.declared.answers.Done.{Done}
use Rattle.board_rules.specs.declared.answers.Left.{Left}
use Rattle.board_rules.specs.declared.answers.NotYours.{NotYours}
use Rattle.board_rules.specs.declared.answers.NoReclaim.{NoReclaim}
use Rattle.board_rules.specs.declared.answers.NoWhy.{NoWhy}
use Rattle.board_rules.specs.declared.answers.NoWhy.TheVariants.{NoHand, Spent}
use Rattle.board_rules.specs.declared.told.Told.{Told}
use Rattle.board_rules.specs.States.{BoardState, past, plain, lends, loses, take_block}
use Rattle.board_rules.specs.Moving.{moved, moved_at}
use Rattle.board_rules.specs.InHand.{is_load_of, is_job_on, is_piece_on, hand_node}
use Rattle.flow_journal.specs.ResultNames.{result_name}
use Rattle.board_rules.specs.Storage.{lost_of}
use Rattle.board_rules.specs.Feeding.{is_sent_away, load_refusal, LoadAnswers, IssueGives, CloseGives}
use Rattle.board_rules.specs.Working.{IsResult, take_refusal, asked, TakeAnswers, PutGives, SettleGives}
use Rattle.board_rules.specs.Saving.{has_due, save_refusal, SaveAnswers, SavedGives}
use Rattle.board_rules.specs.Leaving.{LeaveGives, ReclaimGives}
use Rattle.board_rules.specs.Runs.{Frames, Call, Loads, Issues, Takes, Puts, Settles, Saves as SavesOne, Saveds, Closes, Leaves, Reclaims, Asks, Finishes}
use Rattle.board_rules.specs.Runs.{May, Gives}
use Rattle.board_rules.specs.RunLaws.{RunsAreLegal}
use Rattle.board_rules.proofs.Moved.{moved-legal}
use Rattle.board_rules.proofs.Makers.{suits, hand-suits}

abbrev no_why : Option NoWhy
no_why = None

abbrev none_of : (B : Type 0) → Option (load_answer B)
none_of B = None

and_right : (x y : Bool) → x ≡ true → (x && y) ≡ false → y ≡ false
and_right x y h e = rw h at e

-- where nothing stands against a load
pub record MayLoad (s : Setting) (r : ℕ) (P : Past) : Type 0 where
  pub stays : is_sent_away s r P ≡ false
  pub unloaded : has_loaded P ≡ false
  pub free : is_free r P ≡ true
  pub more : leb (length s.ids) (next_index P) ≡ false
  pub room : (s.wait && not (list_all (has_room s P) (children s 0))) ≡ false

may_load_by : {B : Type 0} (away busy ended full : Bool)
    → cond away (Some load.Left) (cond busy (Some load.Busy) (cond ended (Some load.Ended) (cond full (Some load.NotYet) (none_of B)))) ≡ None
    → (away ≡ false) × (busy ≡ false) × (ended ≡ false) × (full ≡ false)
may_load_by true busy ended full h = cc
may_load_by false true ended full h = cc
may_load_by false false true full h = cc
may_load_by false false false true h = cc
may_load_by false false false false h = (refl, refl, refl, refl)

pub may_load : {B : Type 0} (s : Setting) (r : ℕ) (P : Past) → load_refusal {B = B} s r P ≡ None → MayLoad s r P
may_load {B} s r P h =
    let p =
    may_load_by {B = B} (is_sent_away s r P) (has_loaded P || not (is_free r P)) (leb (length s.ids) (next_index P))
    (s.wait && not (list_all (has_room s P) (children s 0))) h in
    let q = or_parts (has_loaded P) (not (is_free r P)) p.1 in
    record { stays = p.0; unloaded = q.0; free = not-false (is_free r P) q.1; more = p.2; room = p.3 }

-- a role that isn't sent away and has no hand acts
acts-from : (s : Setting) (r : ℕ) (P : Past) → r ≤ last_role s → is_sent_away s r P ≡ false → is_free r P ≡ true → Acts s r P
acts-from s r P role stays free =
    record {
      role = role;
      free = none_is (hand r P) free;
      stays = λ ne. elim (cases_Bool (has_left_any P)) [
        | inl left ↦
            absurd (true≢false
            (sym (and_from (has_left_any P) (not (eqb r (last_role s))) left (not_from_false (eqb r (last_role s)) (ne_eqb r (last_role s) ne))) ∙ stays))
        | inr nobody ↦ nobody
      ];
    }

-- the entry that gives a role its hand names it
pub names_role : (r : ℕ) (P : Past) (e : Entry) → hand r P ≡ Some e → takes_up r e ≡ true
names_role r P e h = found_up (takes_up r) e (hands P) h

abbrev LoadIn : ℕ → FrameName → Option Entry → Type 0
LoadIn r a o = (k b n : ℕ) × (f : Bool) × (g : ℕ) × (x : Bool) × (o ≡ Some (Load r k b n f g x)) × (a ≡ frame 0 k)

pub load_in : (r : ℕ) (a : FrameName) (o : Option Entry) → ((e : Entry) → o ≡ Some e → takes_up r e ≡ true) → is_load_of a o ≡ true → LoadIn r a o
load_in r a None up h = absurd (false≢true h)
load_in r a (Some (Load q k b n f g x)) up h =
    (k, b, n, f, g, x, ap (λ (i : ℕ). Some (Load i k b n f g x)) (eqb-true q r (up (Load q k b n f g x) refl)), same-true a (frame 0 k) h)
load_in r a (Some _) up h = absurd (false≢true h)

-- where nothing stands against a take
pub record MayTake (s : Setting) (r v : ℕ) (P : Past) : Type 0 where
  pub stays : is_sent_away s r P ≡ false
  pub free : is_free r P ≡ true
  pub unsettled : is_settled v P ≡ false
  pub some : none_left (queued v P) ≡ false
  pub idle : leb (node s v).threads (jobs v P) ≡ false

abbrev none_to_take : (F B O : Type 0) → Option (take_answer F B O)
none_to_take F B O = None

may_take_by : {F B O : Type 0} (away busy ended idle : Bool)
    → cond away (Some take.Left) (cond busy (Some take.Busy) (cond ended (Some take.Ended) (cond idle (Some take.Idle) (none_to_take F B O)))) ≡ None
    → (away ≡ false) × (busy ≡ false) × (ended ≡ false) × (idle ≡ false)
may_take_by true busy ended idle h = cc
may_take_by false true ended idle h = cc
may_take_by false false true idle h = cc
may_take_by false false false true h = cc
may_take_by false false false false h = (refl, refl, refl, refl)

pub may_take : {F B O : Type 0} (s : Setting) (r v : ℕ) (P : Past) → take_refusal {F = F} {B = B} {O = O} s r v P ≡ None → MayTake s r v P
may_take {F} {B} {O} s r v P h =
    let p =
    may_take_by {F = F} {B = B} {O = O} (is_sent_away s r P) (not (is_free r P)) (is_settled v P)
    (none_left (queued v P) || leb (node s v).threads (jobs v P)) h in
    let q = or_parts (none_left (queued v P)) (leb (node s v).threads (jobs v P)) p.3 in
    record { stays = p.0; free = not-false (is_free r P) p.1; unsettled = p.2; some = q.0; idle = q.1 }

-- where nothing stands against a save
pub record MaySave (s : Setting) (r v : ℕ) (P : Past) : Type 0 where
  pub free : is_free r P ≡ true
  pub some : none_left (unsaved s v P) ≡ false
  pub due : is_due (node s v).work v P ≡ true
  pub alone : list_any (is_piece v) (hands P) ≡ false

abbrev none_to_save : (F : Type 0) → Option (save_answer F)
none_to_save F = None

may_save_by : {F : Type 0} (busy early : Bool) → cond busy (Some save.Busy) (cond early (Some save.NotYet) (none_to_save F)) ≡ None
    → (busy ≡ false) × (early ≡ false)
may_save_by true early h = cc
may_save_by false true h = cc
may_save_by false false h = (refl, refl)

pub may_save : {F : Type 0} (s : Setting) (r v : ℕ) (P : Past) → save_refusal {F = F} s r v P ≡ None → MaySave s r v P
may_save {F} s r v P h =
    let p = may_save_by {F = F} (not (is_free r P)) (not (has_due s v P) || list_any (is_piece v) (hands P)) h in
    let q = or_parts (not (has_due s v P)) (list_any (is_piece v) (hands P)) p.1 in
    let d = and_parts (not (none_left (unsaved s v P))) (is_due (node s v).work v P) (not-false (has_due s v P) q.0) in
    record { free = not-false (is_free r P) p.0; some = not-true _ d.0; due = d.1; alone = q.1 }

abbrev PieceIn : ℕ → FrameName → Option Entry → Type 0
PieceIn r a o = (g : ℕ) × (o ≡ Some (Save r (hand_node o) a.maker a.index g))

pub piece_in : (r : ℕ) (a : FrameName) (o : Option Entry) → ((e : Entry) → o ≡ Some e → takes_up r e ≡ true) → is_piece_on a o ≡ true → PieceIn r a o
piece_in r a None up h = absurd (false≢true h)
piece_in r a (Some (Save q w m k g)) up h =
    let f : ℕ → FrameName → Option Entry = λ i b. Some (Save i w b.maker b.index g) in
    (g, ap (λ (i : ℕ). f i (frame m k)) (eqb-true q r (up (Save q w m k g) refl)) ∙ ap (λ (b : FrameName). f r b) (sym (same-true a (frame m k) h)))
piece_in r a (Some _) up h = absurd (false≢true h)

some-same : {X : Type 0} {x y : X} → Some x ≡ Some y → x ≡ y
some-same h = cc

-- only a file node has anything due
due-file : (w : Work) (v : ℕ) (P : Past) → is_due w v P ≡ true → is_file w ≡ true
due-file (Saves whole_groups count) v P h = refl
due-file Makes v P h = absurd (false≢true h)
due-file (Passes d) v P h = absurd (false≢true h)
due-file (Watches pre post preset) v P h = absurd (false≢true h)

eqb-ne : (a b : ℕ) → eqb a b ≡ false → a ≢ b
eqb-ne a b h e = true≢false (sym (eq-eqb a b e) ∙ h)

may_reclaim_by : (none spent : Bool) → cond none (Some NoHand) (cond spent (Some Spent) no_why) ≡ None → (none ≡ false) × (spent ≡ false)
may_reclaim_by true spent h = cc
may_reclaim_by false true h = cc
may_reclaim_by false false h = (refl, refl)

-- WHAT A CALL LEADS TO

same-board : (s : Setting) (old new : BoardState) → new ≡ old → is_history s (past old) ≡ true → is_history s (past new) ≡ true
same-board s old new e h = subst (λ (b : BoardState). is_history s (past b) ≡ true) (sym e) h

-- a move with a legal first entry
by-move : (s : Setting) (old new : BoardState) (tick : ℕ) (t : Told) → is_history s (past old) ≡ true → first s (past old) t.entry ≡ true
    → new ≡ moved_at s tick t old → is_history s (past new) ≡ true
by-move s old new tick t h f e = subst (λ (b : BoardState). is_history s (past b) ≡ true) (sym e) (moved-legal s old tick t h f)

load-facts : {B : Type 0} (s : Setting) (r k : ℕ) (P : Past) → r ≤ last_role s → load_refusal {B = B} s r P ≡ None → k ≡ next_index P → LoadFacts s r k P
load-facts {B} s r k P role none turn =
    let m = may_load {B = B} s r P none in
    let more : next_index P < length s.ids = leb-false (length s.ids) (next_index P) m.more in
    let room : s.wait ≡ true → list_all (has_room s P) (children s 0) ≡ true =
    λ w. not-false _ (and_right s.wait (not (list_all (has_room s P) (children s 0))) w m.room) in
    record {
      acts = acts-from s r P role m.stays m.free;
      unloaded = m.unloaded;
      in_turn = turn;
      some = subst (λ (i : ℕ). i < length s.ids) (sym turn) more;
      room = room;
    }

-- a block that isn't fresh alone is regrown
stale-from : (x f : Bool) → (x && f) ≡ false → x ≡ true → f ≡ false
stale-from x f h e = and_right x f e h

pub load-by : {F B : Type 0} (parts : F → Option Parts) (bytes_of : B
    → ℕ) (s : Setting) (old new : BoardState) (r tick : ℕ) (o : Option (load_answer B)) (g : Answer) (a : load_answer B) → s.pooled ≡ true
    → is_history s (past old) ≡ true → r ≤ last_role s → load_refusal {B = B} s r (past old) ≡ o → grant s (past old) (s.need 0) ≡ g
    → LoadAnswers parts bytes_of s old r tick o g a new → is_history s (past new) ≡ true
load-by parts bytes_of s old new r tick (Some x) g a pooled h role is given c = same-board s old new c.1 h
load-by {F} {B} parts bytes_of s old new r tick None pool.Refused (load.Refused k z) pooled h role is given c =
    let facts = load-facts {B = B} s r (next_index (past old)) (past old) role is refl in
    let row =
    (row_laws.load_refused s (past old) r (next_index (past old)) (s.need 0) (held s (past old))).1
    (facts, record { answer = given; need = refl; holds = refl }) in
    by-move s old new tick (plain (LoadRefused r (next_index (past old)) (s.need 0) (held s (past old)))) h row
    (subst₂ (λ (i y : ℕ). new ≡ moved_at s tick (plain (LoadRefused r i (s.need 0) y)) old) c.0 c.1 c.2)
load-by {F} {B} parts bytes_of s old new r tick None (Granted b n f g) (load.Loaded k blank) pooled h role is given c =
    let facts = load-facts {B = B} s r (next_index (past old)) (past old) role is refl in
    let x = c.2.0 in
    let row =
    (row_laws.load s (past old) r (next_index (past old)) b n f g x).1
    (facts, record { answer = given; accounted = λ e. pooled; stale = stale-from x f c.2.1.0 }) in
    by-move s old new tick (plain (Load r (next_index (past old)) b n f g x)) h row
    (subst (λ (i : ℕ). new ≡ moved_at s tick (plain (Load r i b n f g x)) old) c.0 c.2.2)
load-by parts bytes_of s old new r tick None (Granted b n f g) load.OutOfMemory pooled h role is given c = same-board s old new c.1 h
load-by parts bytes_of s old new r tick None g _ pooled h role is given c = absurd c

pub issue-by : {F E : Type 0} (name_of : F → FrameName) (s : Setting) (old new : BoardState) (r : ℕ) (f : F) (a : Result E (NotYours F))
    → is_history s (past old) ≡ true → IssueGives name_of s old r f a new → is_history s (past new) ≡ true
issue-by name_of s old new r f (Ok done) h c =
    let l = load_in r (name_of f) (hand r (past old)) (names_role r (past old)) c.0 in
    let has : HasLoaded r l.0 (past old) = (l.1, l.2, l.3, l.4, l.5, l.6) in
    by-move s old new 0 (plain (Issue r l.0)) h ((row_laws.issue s (past old) r l.0).1 has)
    (subst (λ (b : FrameName). new ≡ moved s (plain (Issue r b.index)) old) l.7 c.1)
issue-by name_of s old new r f (Err e) h c = same-board s old new c.2 h

pub close-by : (s : Setting) (old new : BoardState) (r : ℕ) (a : Settled) → is_history s (past old) ≡ true → r ≤ last_role s → CloseGives s old r a new
    → is_history s (past new) ≡ true
close-by s old new r settled.NotYet h role c = same-board s old new c.1 h
close-by s old new r settled.Done h role c =
    let P = past old in
    elim (cases_Bool (is_closed P)) [
      | inl closed ↦ same-board s old new (c.1 ∙ rw closed refl) h
      | inr open_ ↦
          let p = or_parts (not (eqb (next_index P) (length s.ids))) (has_loaded P) c.0 in
          let facts : CloseFacts s P =
          record { open_ = open_; offered = eqb-true (next_index P) (length s.ids) (not-false (eqb (next_index P) (length s.ids)) p.0); unloaded = p.1 } in
          by-move s old new 0 (plain (Close r)) h ((row_laws.close s P r).1 (role, facts)) (c.1 ∙ rw open_ refl)
    ]

pub leave-by : (s : Setting) (old new : BoardState) (r : ℕ) → is_history s (past old) ≡ true → r ≤ last_role s → LeaveGives s old r new
    → is_history s (past new) ≡ true
leave-by s old new r h role c =
    elim (cases_Bool (has_left r (past old))) [
      | inl left ↦ same-board s old new (c ∙ rw left refl) h
      | inr stays ↦ by-move s old new 0 (plain (Leave r)) h ((row_laws.leave s (past old) r).1 (role, stays)) (c ∙ rw stays refl)
    ]

pub settle-by : (s : Setting) (old new : BoardState) (r v : ℕ) (a : Settled) → is_history s (past old) ≡ true → r ≤ last_role s → is_node s v ≡ true
    → SettleGives s old r v a new → is_history s (past new) ≡ true
settle-by s old new r v settled.NotYet h role here c = same-board s old new c.1 h
settle-by s old new r v settled.Done h role here c =
    let P = past old in
    elim (cases_Bool (is_settled v P)) [
      | inl done ↦ same-board s old new (c.1 ∙ rw done refl) h
      | inr unsettled ↦
          let p = and_parts (ltb 0 v) (leb v (length s.nodes)) here in
          let more : (not (has_ended (node s v).input P) || not (none_left (queued v P)) || ltb 0 (jobs v P)) ≡ false =
          and_right (not (is_settled v P)) _ (not_from_false (is_settled v P) unsettled) c.0 in
          let q = or_parts (not (has_ended (node s v).input P) || not (none_left (queued v P))) (ltb 0 (jobs v P)) more in
          let o = or_parts (not (has_ended (node s v).input P)) (not (none_left (queued v P))) q.0 in
          let idle : jobs v P ≤ 0 = ltb-false 0 (jobs v P) q.1 in
          let facts : SettleFacts s v P = record {
            above = ltb-true 0 v p.0;
            known = leb-true v (length s.nodes) p.1;
            unsettled = unsettled;
            input = not-false _ o.0;
            empty = none_left-nil (queued v P) (not-false _ o.1);
            idle = omega (arith, idle);
          } in
          by-move s old new 0 (plain (Settle r v)) h ((row_laws.settle s P r v).1 (role, facts)) (c.1 ∙ rw unsettled refl)
    ]

take-facts : {F B O : Type 0} (s : Setting) (r v : ℕ) (a : FrameName) (P : Past) → r ≤ last_role s → take_refusal {F = F} {B = B} {O = O} s r v P ≡ None
    → is_next a (queued v P) ≡ true → TakeFacts s r v a P
take-facts {F} {B} {O} s r v a P role none next =
    let m = may_take {F = F} {B = B} {O = O} s r v P none in
    record {
      acts = acts-from s r P role m.stays m.free;
      unsettled = m.unsettled;
      front = next-first_of a (queued v P) next;
      room = leb-false (node s v).threads (jobs v P) m.idle;
    }

-- what the pool was asked for a take
asked-by : (maker : Bool) (x : Answer) (o : Option Answer) → (if maker then Some x else None) ≡ o → ((g : Answer) → o ≡ Some g
    → (maker ≡ true) × (x ≡ g)) × (o ≡ None → maker ≡ false)
asked-by true x None h = cc
asked-by true x (Some g) h = (λ y e. (refl, some-same (h ∙ e)), λ e. cc)
asked-by false x None h = (λ y e. cc, λ e. refl)
asked-by false x (Some g) h = cc

pub take-by : {F B O : Type 0} (name_of : F → FrameName) (parts : F → Option Parts) (bytes_of : B
    → ℕ) (s : Setting) (old new : BoardState) (r v : ℕ) (o : Option (take_answer F B O)) (g : Option Answer) (a : take_answer F B O) → s.pooled ≡ true
    → is_history s (past old) ≡ true → r ≤ last_role s → take_refusal {F = F} {B = B} {O = O} s r v (past old) ≡ o → asked s v (past old) ≡ g
    → TakeAnswers name_of parts bytes_of s old r v o g a new → is_history s (past new) ≡ true
take-by name_of parts bytes_of s old new r v (Some x) g a pooled h role is given c = same-board s old new c.1 h
take-by {F} {B} {O} name_of parts bytes_of s old new r v None (Some pool.Refused) (take.PoolDrop k z) pooled h role is given c =
    let P = past old in
    let y = (asked-by (is_maker s v) (grant s P (s.need v)) (Some pool.Refused) given).0 pool.Refused refl in
    let n = c.1.0 in
    let facts = take-facts {F = F} {B = B} {O = O} s r v n P role is c.1.1 in
    by-move s old new 0 (plain (PoolDrop r v n.maker n.index (s.need v) z)) h
    ((row_laws.pool_drop s P r v n.maker n.index (s.need v) z).1 (facts, y.0, record { answer = y.1; need = refl; holds = c.0 }))
    c.1.3
take-by {F} {B} {O} name_of parts bytes_of s old new r v None (Some (Granted b n f g)) (take.Job w input (Some blank)) pooled h role is given c =
    let P = past old in
    let y = (asked-by (is_maker s v) (grant s P (s.need v)) (Some (Granted b n f g)) given).0 (Granted b n f g) refl in
    let a = name_of input in
    let facts = take-facts {F = F} {B = B} {O = O} s r v a P role is c.1.0 in
    let x = c.3.0 in
    by-move s old new 0 (lends (take_block r v a b n f g x) (parts input)) h
    ((row_laws.take_block s P r v a.maker a.index b n f g x).1 (facts, y.0, record { answer = y.1; accounted = λ e. pooled; stale = stale-from x f c.3.1.0 }))
    c.3.2
take-by name_of parts bytes_of s old new r v None (Some (Granted b n f g)) take.OutOfMemory pooled h role is given c = same-board s old new c.1 h
take-by {F} {B} {O} name_of parts bytes_of s old new r v None None (take.Job w input None) pooled h role is given c =
    let P = past old in
    let a = name_of input in
    let facts = take-facts {F = F} {B = B} {O = O} s r v a P role is c.1.0 in
    let no_maker = (asked-by (is_maker s v) (grant s P (s.need v)) None given).1 refl in
    by-move s old new 0 (lends (Take r v a.maker a.index) (parts input)) h ((row_laws.take s P r v a.maker a.index).1 (facts, no_maker)) c.2
take-by name_of parts bytes_of s old new r v None None take.OutOfMemory pooled h role is given c = same-board s old new c.1 h
take-by name_of parts bytes_of s old new r v None g _ pooled h role is given c = absurd c

pub save-by : {F : Type 0} (name_of : F → FrameName) (parts : F
    → Option Parts) (s : Setting) (old new : BoardState) (r v : ℕ) (o : Option (save_answer F)) (a : save_answer F) → is_history s (past old) ≡ true
    → r ≤ last_role s → save_refusal {F = F} s r v (past old) ≡ o → SaveAnswers name_of parts s old r v o a new → is_history s (past new) ≡ true
save-by name_of parts s old new r v (Some x) a h role is c = same-board s old new c.1 h
save-by {F} name_of parts s old new r v None (save.Piece input group place of) h role is c =
    let P = past old in
    let a = name_of input in
    let m = may_save {F = F} s r v P is in
    let piece : PieceFacts s v a P =
    record { file = due-file (node s v).work v P m.due; front = next-first_of a (unsaved s v P) c.0; due = m.due; none = m.alone } in
    let facts : SaveFacts s r v a group P = record { role = role; free = none_is (hand r P) m.free; piece = piece; group = c.2 } in
    by-move s old new 0 (lends (Save r v a.maker a.index group) (parts input)) h ((row_laws.save s P r v a.maker a.index group).1 facts) c.5
save-by name_of parts s old new r v None save.OutOfMemory h role is c = same-board s old new c.1 h
save-by name_of parts s old new r v None _ h role is c = absurd c

pub saved-by : {F E : Type 0} (name_of : F → FrameName) (s : Setting) (old new : BoardState) (r : ℕ) (f : F) (a : Result E (NotYours F))
    → is_history s (past old) ≡ true → SavedGives name_of s old r f a new → is_history s (past new) ≡ true
saved-by name_of s old new r f (Ok _) h c =
    let P = past old in
    let a = name_of f in
    by-move s old new 0 (plain (Saved r (hand_node (hand r P)) a.maker a.index)) h
    ((row_laws.saved s P r (hand_node (hand r P)) a.maker a.index).1 (piece_in r a (hand r P) (names_role r P) c.0)) c.1
saved-by name_of s old new r f (Err e) h c = same-board s old new c.2 h

pub reclaim-by : {F B O E : Type 0} (name_of : F
    → FrameName) (s : Setting) (old new : BoardState) (r : ℕ) (left : Left F B O) (a : Result E (NoReclaim F B O)) → is_history s (past old) ≡ true
    → ReclaimGives name_of s old r left a new → is_history s (past new) ≡ true
reclaim-by name_of s old new r left (Ok _) h c =
    let P = past old in
    let p = may_reclaim_by (is_free r P) (was_reclaimed r P || eqb r (last_role s)) c.0 in
    let q = or_parts (was_reclaimed r P) (eqb r (last_role s)) p.1 in
    let facts : ReclaimFacts s r P = record { holds = some_hand (hand r P) p.0; worker = eqb-ne r (last_role s) q.1; once = q.0 } in
    by-move s old new 0 (loses r (lost_of name_of P (hand r P) left)) h ((row_laws.reclaim s P r).1 facts) c.1
reclaim-by name_of s old new r left (Err e) h c = same-board s old new c.2 h

-- the hand is a job of the node on this array, by what the node makes
abbrev ResultIn : Setting → ℕ → ℕ → FrameName → Option Entry → Type 0
ResultIn s r v a o =
    ((is_maker s v ≡ false) × (o ≡ Some (Take r v a.maker a.index)))
    ⊎ ((is_maker s v ≡ true) × ((m b n : ℕ) × (f : Bool) × (g : ℕ) × (x : Bool) × (o ≡ Some (TakeBlock f x r v m a.index b n g))))

result_in : (s : Setting) (r v : ℕ) (a : FrameName) (o : Option Entry) → ((e : Entry) → o ≡ Some e → takes_up r e ≡ true) → ((e : Entry) → o ≡ Some e
    → suits s e ≡ true) → is_job_on v a o ≡ true → ResultIn s r v a o
result_in s r v a None up fit h = absurd (false≢true h)
result_in s r v a (Some (Take q w m k)) up fit h =
    let p = and_parts (eqb w v) (same a (frame m k)) h in
    let here : w ≡ v = eqb-true w v p.0 in
    let f : ℕ → ℕ → FrameName → Option Entry = λ i j b. Some (Take i j b.maker b.index) in
    inl (
      subst (λ (j : ℕ). is_maker s j ≡ false) here (not-true (is_maker s w) (fit (Take q w m k) refl)),
      ap (λ (i : ℕ). f i w (frame m k)) (eqb-true q r (up (Take q w m k) refl))
          ∙ (ap (λ (j : ℕ). f r j (frame m k)) here ∙ ap (λ (b : FrameName). f r v b) (sym (same-true a (frame m k) p.1))),
    )
result_in s r v a (Some (TakeBlock f x q w m k b n g)) up fit h =
    let p = and_parts (eqb w v) (same a (frame m k)) h in
    let here : w ≡ v = eqb-true w v p.0 in
    let index : k ≡ a.index = ap (λ (c : FrameName). c.index) (sym (same-true a (frame m k) p.1)) in
    let t : ℕ → ℕ → ℕ → Option Entry = λ i j l. Some (TakeBlock f x i j m l b n g) in
    inr (
      subst (λ (j : ℕ). is_maker s j ≡ true) here (fit (TakeBlock f x q w m k b n g) refl),
      (
        m,
        b,
        n,
        f,
        g,
        x,
        ap (λ (i : ℕ). t i w k) (eqb-true q r (up (TakeBlock f x q w m k b n g) refl)) ∙ (ap (λ (j : ℕ). t r j k) here ∙ ap (λ (l : ℕ). t r v l) index),
      ),
    )
result_in s r v a (Some _) up fit h = absurd (false≢true h)

has-result : (s : Setting) (r v : ℕ) (a : FrameName) (P : Past) → ResultIn s r v a (hand r P) → HasResult r v (result_name s v a).maker a.index P
has-result s r v a P (inl p) =
    let e : (result_name s v a).maker ≡ a.maker = rw p.0 refl in
    inl (subst (λ (m : ℕ). HasJob r v m a.index P) (sym e) p.1)
has-result s r v a P (inr p) =
    let e : (result_name s v a).maker ≡ v = rw p.0 refl in
    inr (e, p.1)

pub put-by : {F E : Type 0} (name_of : F → FrameName) (measure_at : ℕ → FrameName
    → Option Measure) (s : Setting) (old new : BoardState) (r : ℕ) (done : Done F) (a : Result E (NotYours F)) → is_history s (past old) ≡ true
    → (is_job_on done.node (name_of done.input) (hand r (past old)) ≡ true → IsResult name_of measure_at s done) → PutGives name_of s old r done a new
    → is_history s (past new) ≡ true
put-by name_of measure_at s old new r done (Ok _) h right c =
    let P = past old in
    let v = done.node in
    let a = name_of done.input in
    let i = result_in s r v a (hand r P) (names_role r P) (λ e is. hand-suits s P r e (and_parts (is_legal s P) _ h).0 is) c.0 in
    by-move s old new 0 (plain (Put r v (result_name s v a).maker a.index done.fired)) h
    ((row_laws.put s P r v (result_name s v a).maker a.index done.fired).1 (has-result s r v a P i, (right c.0).fired))
    c.1
put-by name_of measure_at s old new r done (Err e) h right c = same-board s old new c.2 h

-- EVERY LIST OF CALLS

gives-legal : {F B O : Type 0} (fs : Frames F B) (s : Setting) (old new : BoardState) (call : Call F B O) → s.pooled ≡ true
    → is_history s (past old) ≡ true → May fs s old call → Gives fs s old call new → is_history s (past new) ≡ true
gives-legal fs s old new (Loads r tick answer) pooled h may c = load-by fs.parts fs.bytes_of s old new r tick _ _ answer pooled h may refl refl c
gives-legal fs s old new (Issues r frame_ answer) pooled h may c = issue-by fs.name_of s old new r frame_ answer h c
gives-legal {F} {B} {O} fs s old new (Takes r v answer) pooled h may c =
    take-by {F = F} {B = B} {O = O} fs.name_of fs.parts fs.bytes_of s old new r v _ _ answer pooled h may.0 refl refl c
gives-legal fs s old new (Puts r done answer) pooled h may c = put-by fs.name_of fs.measure_at s old new r done answer h (λ here. (may.2 here).0) c
gives-legal fs s old new (Settles r v answer) pooled h may c = settle-by s old new r v answer h may.0 may.1 c
gives-legal fs s old new (SavesOne r v answer) pooled h may c = save-by fs.name_of fs.parts s old new r v _ answer h may.0 refl c
gives-legal fs s old new (Saveds r frame_ answer) pooled h may c = saved-by fs.name_of s old new r frame_ answer h c
gives-legal fs s old new (Closes r answer) pooled h may c = close-by s old new r answer h may c
gives-legal fs s old new (Leaves r) pooled h may c = leave-by s old new r h may c
gives-legal fs s old new (Reclaims r left answer) pooled h may c = reclaim-by fs.name_of s old new r left answer h c
gives-legal fs s old new (Asks answer) pooled h may c = same-board s old new c.1 h
gives-legal fs s old new (Finishes answer) pooled h may c = same-board s old new c.1 h

pub runs-legal : {F B O : Type 0} → RunsAreLegal F B O
runs-legal fs s old new [] pooled h c = same-board s old new c h
runs-legal fs s old new (call ∷ calls) pooled h c = runs-legal fs s c.1.0 new calls pooled (gives-legal fs s old c.1.0 call pooled h c.0 c.1.1) c.1.2
