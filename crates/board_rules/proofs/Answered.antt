-- At every board each call has an answer.
use Rattle.std.proofs.Common.{◌≡◌, ℕ, Bool, true, false, not, ◌&&◌, List, [], ◌∷◌, length, refl, sym, subst, Option, Some, None, Ok, Err, Result, inl, inr}
use Rattle.std.proofs.Common.{if◌then◌else◌}
use Rattle.std.proofs.lemmas.Bool.{true≢false, cases_Bool}
use Rattle.nd_base.specs.Parts.{Parts}
use Rattle.nd_base.specs.declared.frame.FrameName.{FrameName}
use Rattle.pool_ledger.specs.Grants.{Answer, Granted}
use Rattle.pool_ledger.specs.Grants as pool
use Rattle.flow_journal.specs.declared.entry.Entry.TheVariants.{Load, LoadRefused, Issue, Take, PoolDrop, Put, Settle, Save, Saved, Close, Leave}
use Rattle.flow_journal.specs.Setting.{Setting, node}
use Rattle.flow_journal.specs.Hands.{hand}
use Rattle.flow_journal.specs.Ended.{is_closed, is_settled, has_left}
use Rattle.flow_journal.specs.Offered.{next_index}
use Rattle.flow_journal.specs.Queued.{queued}
use Rattle.flow_journal.specs.Puts.{puts}
use Rattle.flow_journal.specs.Unsaved.{unsaved, standing_saves, group_of}
use Rattle.flow_journal.specs.Accounts.{held, grant}
use Rattle.flow_journal.specs.FirstEntries.{is_next}
use Rattle.flow_journal.specs.Finished.{none_left, is_finished}
use Rattle.board_rules.specs.declared.answers.Load.{Load as load_answer}
use Rattle.board_rules.specs.declared.answers.Load.TheVariants as load
use Rattle.board_rules.specs.declared.answers.Take.{Take as take_answer}
use Rattle.board_rules.specs.declared.answers.Take.TheVariants as take
use Rattle.board_rules.specs.declared.answers.Save.{Save as save_answer}
use Rattle.board_rules.specs.declared.answers.Save.TheVariants as save
use Rattle.board_rules.specs.declared.answers.Settled.{Settled}
use Rattle.board_rules.specs.declared.answers.Settled.TheVariants as settled
use Rattle.board_rules.specs.declared.answers.Done.{Done}
use Rattle.board_rules.specs.declared.answers.Left.{Left}
use Rattle.board_rules.specs.declared.answers.NotYours.{NotYours}
use Rattle.board_rules.specs.declared.answers.NoReclaim.{NoReclaim}
use Rattle.board_rules.specs.declared.answers.NoWhy.{NoWhy}
use Rattle.board_rules.specs.States.{BoardState, past, plain, lends, loses, take_block}
use Rattle.board_rules.specs.Moving.{moved, moved_at}
use Rattle.board_rules.specs.InHand.{at, hand_name, hand_node, is_load_of, is_job_on, is_piece_on, IsOnePart, just}
use Rattle.flow_journal.specs.ResultNames.{result_name}
use Rattle.board_rules.specs.Storage.{is_away, lost_of}
use Rattle.board_rules.specs.Feeding.{load_refusal, LoadAnswers, IssueGives, waits_to_close, CloseGives}
use Rattle.board_rules.specs.Working.{take_refusal, asked, TakeAnswers, PutGives, waits_to_settle, SettleGives}
use Rattle.board_rules.specs.Saving.{save_refusal, place_of, group_size, SaveAnswers, SavedGives}
use Rattle.board_rules.specs.Leaving.{reclaim_refusal, ReclaimGives}
use Rattle.flow_journal.specs.Notes.{progress_of}
use Rattle.flow_journal.proofs.Steps.{same_refl}
use Rattle.board_rules.specs.AnswerLaws.{AnswersExist}
use Rattle.board_rules.proofs.Legal.{may_take, may_save}

-- the first of these
first-there : (xs : List FrameName) → none_left xs ≡ false → (a : FrameName) × (is_next a xs ≡ true)
first-there [] h = absurd (true≢false h)
first-there (x ∷ xs) h = (x, same_refl x)

never-both : (f a : Bool) → ((not f && a) && f) ≡ false
never-both true a = refl
never-both false true = refl
never-both false false = refl

Blanks : {B : Type 0} → (B → ℕ) → Type 0
Blanks {B} bytes_of = (n : ℕ) → (b : B) × (bytes_of b ≡ n)

OneParts : {F : Type 0} → (F → FrameName) → (F → Option Parts) → Type 0
OneParts {F} name_of parts = (a : FrameName) → (f : F) × (name_of f ≡ a) × IsOnePart (parts f)

load-has : {F B : Type 0} (parts : F → Option Parts) (bytes_of : B → ℕ) (s : Setting) (old : BoardState) (r tick : ℕ) → Blanks bytes_of
    → (o : Option (load_answer B)) (g : Answer) → (a : load_answer B) × (new : BoardState) × LoadAnswers parts bytes_of s old r tick o g a new
unfolding Blanks
load-has parts bytes_of s old r tick blanks (Some x) g = (x, old, (refl, refl))
load-has parts bytes_of s old r tick blanks None pool.Refused =
    let k = next_index (past old) in
    let h = held s (past old) in
    (load.Refused k h, moved_at s tick (plain (LoadRefused r k (s.need 0) h)) old, (refl, refl, refl))
load-has parts bytes_of s old r tick blanks None (Granted b n f g) =
    let k = next_index (past old) in
    let x = not f && is_away b old in
    let blank = blanks n in
    (load.Loaded k blank.0, moved_at s tick (plain (Load r k b n f g x)) old, (refl, blank.1, (x, (never-both f (is_away b old), λ told. refl), refl)))

take-has : {F B O : Type 0} (name_of : F → FrameName) (parts : F → Option Parts) (bytes_of : B → ℕ) (s : Setting) (old : BoardState) (r v : ℕ)
    → OneParts name_of parts → Blanks bytes_of → (o : Option (take_answer F B O)) (g : Option Answer) → (o ≡ None
    → (a : FrameName) × (is_next a (queued v (past old)) ≡ true))
    → (a : take_answer F B O) × (new : BoardState) × TakeAnswers name_of parts bytes_of s old r v o g a new
unfolding Blanks OneParts
take-has name_of parts bytes_of s old r v part blanks (Some x) g next = (x, old, (refl, refl))
take-has name_of parts bytes_of s old r v part blanks None (Some pool.Refused) next =
    let n = next refl in
    let h = held s (past old) in
    (take.PoolDrop n.0.index h, moved s (plain (PoolDrop r v n.0.maker n.0.index (s.need v) h)) old, (refl, (n.0, n.1, refl, refl)))
take-has name_of parts bytes_of s old r v part blanks None (Some (Granted b n f g)) next =
    let a = next refl in
    let i = part a.0 in
    let blank = blanks n in
    let x = not f && is_away b old in
    let is : is_next (name_of i.0) (queued v (past old)) ≡ true = subst (λ (y : FrameName). is_next y (queued v (past old)) ≡ true) (sym i.1) a.1 in (
      take.Job v i.0 (Some blank.0),
      moved s (lends (take_block r v (name_of i.0) b n f g x) (parts i.0)) old,
      (refl, (is, i.2), blank.1, (x, (never-both f (is_away b old), λ told. refl), refl)),
    )
take-has name_of parts bytes_of s old r v part blanks None None next =
    let a = next refl in
    let i = part a.0 in
    let is : is_next (name_of i.0) (queued v (past old)) ≡ true = subst (λ (y : FrameName). is_next y (queued v (past old)) ≡ true) (sym i.1) a.1 in
    (take.Job v i.0 None, moved s (lends (Take r v (name_of i.0).maker (name_of i.0).index) (parts i.0)) old, (refl, (is, i.2), refl))

save-has : {F : Type 0} (name_of : F → FrameName) (parts : F → Option Parts) (s : Setting) (old : BoardState) (r v : ℕ) → OneParts name_of parts
    → (o : Option (save_answer F)) → (o ≡ None → (a : FrameName) × (is_next a (unsaved s v (past old)) ≡ true))
    → (a : save_answer F) × (new : BoardState) × SaveAnswers name_of parts s old r v o a new
unfolding OneParts
save-has name_of parts s old r v part (Some x) next = (x, old, (refl, refl))
save-has name_of parts s old r v part None next =
    let a = next refl in
    let i = part a.0 in
    let w = (node s v).work in
    let n = length (standing_saves v (past old)) in
    let is : is_next (name_of i.0) (unsaved s v (past old)) ≡ true = subst (λ (y : FrameName). is_next y (unsaved s v (past old)) ≡ true) (sym i.1) a.1 in (
      save.Piece i.0 (group_of w n) (place_of w n) (group_size w n (is_settled v (past old)) (length (puts v (past old)))),
      moved s (lends (Save r v (name_of i.0).maker (name_of i.0).index (group_of w n)) (parts i.0)) old,
      (is, i.2, refl, refl, refl, refl),
    )

issue-has : {F : Type 0} (name_of : F → FrameName) (s : Setting) (old : BoardState) (r : ℕ) (f : F)
    → (a : Result (Unit {0}) (NotYours F)) × (new : BoardState) × IssueGives name_of s old r f a new
issue-has name_of s old r f =
    elim (cases_Bool (is_load_of (name_of f) (hand r (past old)))) [
      | inl yes_ ↦ (Ok tt, moved s (plain (Issue r (name_of f).index)) old, (yes_, refl))
      | inr no_ ↦ (Err (record { kept = hand_name (hand r (past old)); given = at 0 (name_of f); back = just 0 f }), old, (no_, refl, refl))
    ]

put-has : {F : Type 0} (name_of : F → FrameName) (s : Setting) (old : BoardState) (r : ℕ) (done : Done F)
    → (a : Result (Unit {0}) (NotYours F)) × (new : BoardState) × PutGives name_of s old r done a new
put-has name_of s old r done =
    elim (cases_Bool (is_job_on done.node (name_of done.input) (hand r (past old)))) [
      | inl yes_ ↦ (
        Ok tt,
        moved s (plain (Put r done.node (result_name s done.node (name_of done.input)).maker (name_of done.input).index done.fired)) old,
        (yes_, refl),
      )
      | inr no_ ↦ (Err (record { kept = hand_name (hand r (past old)); given = at done.node (name_of done.input); back = done }), old, (no_, refl, refl))
    ]

saved-has : {F : Type 0} (name_of : F → FrameName) (s : Setting) (old : BoardState) (r : ℕ) (f : F)
    → (a : Result (Unit {0}) (NotYours F)) × (new : BoardState) × SavedGives name_of s old r f a new
saved-has name_of s old r f =
    let v = hand_node (hand r (past old)) in
    elim (cases_Bool (is_piece_on (name_of f) (hand r (past old)))) [
      | inl yes_ ↦ (Ok tt, moved s (plain (Saved r v (name_of f).maker (name_of f).index)) old, (yes_, refl))
      | inr no_ ↦ (Err (record { kept = hand_name (hand r (past old)); given = at v (name_of f); back = just v f }), old, (no_, refl, refl))
    ]

settle-has : (s : Setting) (old : BoardState) (r v : ℕ) → (a : Settled) × (new : BoardState) × SettleGives s old r v a new
settle-has s old r v =
    elim (cases_Bool (waits_to_settle s v (past old))) [
      | inl yes_ ↦ (settled.NotYet, old, (yes_, refl))
      | inr no_ ↦ (settled.Done, if is_settled v (past old) then old else moved s (plain (Settle r v)) old, (no_, refl))
    ]

close-has : (s : Setting) (old : BoardState) (r : ℕ) → (a : Settled) × (new : BoardState) × CloseGives s old r a new
close-has s old r =
    elim (cases_Bool (waits_to_close s (past old))) [
      | inl yes_ ↦ (settled.NotYet, old, (yes_, refl))
      | inr no_ ↦ (settled.Done, if is_closed (past old) then old else moved s (plain (Close r)) old, (no_, refl))
    ]

reclaim-has : {F B O : Type 0} (name_of : F → FrameName) (s : Setting) (old : BoardState) (r : ℕ) (left : Left F B O) (o : Option NoWhy)
    → reclaim_refusal s r (past old) ≡ o → (a : Result (Unit {0}) (NoReclaim F B O)) × (new : BoardState) × ReclaimGives name_of s old r left a new
reclaim-has name_of s old r left None h = (Ok tt, moved s (loses r (lost_of name_of (past old) (hand r (past old)) left)) old, (h, refl))
reclaim-has name_of s old r left (Some w) h = (Err (record { why = w; back = left }), old, (h, refl, refl))

pub answers-exist : {F B O : Type 0} → AnswersExist F B O
unfolding Blanks OneParts
answers-exist {F} {B} {O} fs s old supply =
    record {
      load = λ r tick. load-has fs.parts fs.bytes_of s old r tick supply.blank (load_refusal s r (past old)) (grant s (past old) (s.need 0));
      issue = λ r f. issue-has fs.name_of s old r f;
      take =
          λ r v. take-has {F = F} {B = B} {O = O} fs.name_of fs.parts fs.bytes_of s old r v supply.part supply.blank (take_refusal s r v (past old))
          (asked s v (past old)) (λ e. first-there (queued v (past old)) (may_take {F = F} {B = B} {O = O} s r v (past old) e).some);
      put = λ r done. put-has fs.name_of s old r done;
      settle = λ r v. settle-has s old r v;
      save =
          λ r v. save-has fs.name_of fs.parts s old r v supply.part (save_refusal s r v (past old))
          (λ e. first-there (unsaved s v (past old)) (may_save {F = F} s r v (past old) e).some);
      saved = λ r f. saved-has fs.name_of s old r f;
      close = λ r. close-has s old r;
      leave = λ r. (tt, if has_left r (past old) then old else moved s (plain (Leave r)) old, refl);
      reclaim = λ r left. reclaim-has fs.name_of s old r left (reclaim_refusal s r (past old)) refl;
      progress = (progress_of s (past old), old, (refl, refl));
      finished = (is_finished s (past old), old, (refl, refl));
    }
