-- What comes back of a hand, and the pieces that go out.
use Rattle.std.proofs.Common.{◌≡◌, ◌≤◌, ◌∙◌, ℕ, [], ◌∷◌, true, false, Bool, not, List, Option, Some, None, Ok, length, refl, sym, ap, subst, eqb}
use Rattle.std.proofs.lemmas.Bool.{and_parts, eq-eqb, eqb-true, false≢true, true≢false}
use Rattle.nd_base.specs.declared.frame.FrameName.{FrameName}
use Rattle.nd_base.specs.declared.measure.Measure.{Measure}
use Rattle.nd_base.specs.Parts.{Parts}
use Rattle.flow_journal.specs.declared.entry.Entry.{Entry}
use Rattle.flow_journal.specs.declared.entry.Entry.TheVariants.{Load, Take, TakeBlock, Save, Issue, Saved}
use Rattle.flow_journal.specs.Setting.{Setting, node, is_maker, last_role}
use Rattle.flow_journal.specs.Pasts.{Past, frame, same}
use Rattle.flow_journal.specs.Hands.{hand}
use Rattle.flow_journal.specs.Ended.{is_settled}
use Rattle.flow_journal.specs.Puts.{puts}
use Rattle.flow_journal.specs.Unsaved.{unsaved, standing_saves, group_of}
use Rattle.flow_journal.specs.Accounts.{block_of}
use Rattle.flow_journal.specs.FirstEntries.{is_next}
use Rattle.flow_journal.specs.FirstEntries as first_entries
use Rattle.flow_journal.specs.Finished.{none_left}
use Rattle.flow_journal.specs.Histories.{is_history, is_legal}
use Rattle.flow_journal.proofs.Steps.{same-true}
use Rattle.board_rules.specs.declared.answers.Save.{Save as save_answer}
use Rattle.board_rules.specs.declared.answers.Save.TheVariants as save
use Rattle.board_rules.specs.declared.answers.Done.{Done}
use Rattle.board_rules.specs.States.{BoardState, past, plain, lends, lent_to}
use Rattle.board_rules.specs.Moving.{moved}
use Rattle.board_rules.specs.InHand.{is_load_of, is_job_on, is_piece_on, has_part_of, has_grant, hand_node, granted_block, granted_size}
use Rattle.flow_journal.specs.ResultNames.{result_name}
use Rattle.board_rules.specs.InHand.{IsMadeAs, IsWholeOf}
use Rattle.board_rules.specs.Feeding.{IssueGives}
use Rattle.board_rules.specs.Working.{IsResult}
use Rattle.board_rules.specs.Saving.{save_refusal, place_of, group_size, SaveAnswers, SaveGives, LendsPiece}
use Rattle.board_rules.proofs.Legal.{issue-by, put-by, save-by, saved-by, may_save}
use Rattle.board_rules.proofs.Makers.{suits, hand-suits}
use Rattle.frame_table.specs.Kept.{Kept, Frame, kept_at, with_kept, IsPartOf, less_one, united}
use Rattle.run_course.specs.Courses.{Coursed}
use Rattle.run_course.specs.Puts.{put_of, fires_for}
use Rattle.kept_blocks.specs.Keeping.{HoldsBlocks}
use Rattle.kept_blocks.specs.LookLaws.{LookLaws}
use Rattle.kept_blocks.specs.MoveLaws.{MoveLaws}
use Rattle.flow_core.specs.Boards.{IsBoard}
use Rattle.flow_core.proofs.Boarding.{board-moved, legal-of}

-- HANDS
pub load-index : (a : FrameName) (o : Option Entry) → is_load_of a o ≡ true → first_entries.is_load_of a.index o ≡ true
load-index a None h = absurd (false≢true h)
load-index a (Some (Load r k b n f g x)) h = eq-eqb k a.index (ap (λ (c : FrameName). c.index) (sym (same-true a (frame 0 k) h)))
load-index a (Some _) h = absurd (false≢true h)

pub load-granted : (a : FrameName) (o : Option Entry) → is_load_of a o ≡ true → has_grant o ≡ true
load-granted a None h = absurd (false≢true h)
load-granted a (Some (Load r k b n f g x)) h = refl
load-granted a (Some _) h = absurd (false≢true h)

pub piece-shares : (a : FrameName) (o : Option Entry) → is_piece_on a o ≡ true → has_part_of a o ≡ true
piece-shares a None h = absurd (false≢true h)
piece-shares a (Some (Save r w m k g)) h = h
piece-shares a (Some _) h = absurd (false≢true h)

pub job-shares : (v : ℕ) (a : FrameName) (o : Option Entry) → is_job_on v a o ≡ true → has_part_of a o ≡ true
job-shares v a None h = absurd (false≢true h)
job-shares v a (Some (Take r w m k)) h = (and_parts (eqb w v) (same a (frame m k)) h).1
job-shares v a (Some (TakeBlock f x r w m k b n g)) h = (and_parts (eqb w v) (same a (frame m k)) h).1
job-shares v a (Some _) h = absurd (false≢true h)

not-suits : (s : Setting) (v w : ℕ) → eqb w v ≡ true → not (is_maker s w) ≡ true → is_maker s v ≡ true → ⊥
not-suits s v w same_ not_ makes =
    let here : is_maker s w ≡ true = subst (λ (u : ℕ). is_maker s u ≡ true) (sym (eqb-true w v same_)) makes in
    let off : not (is_maker s w) ≡ false = rw here refl in
    true≢false (sym not_ ∙ off)

job-granted_by : (s : Setting) (v : ℕ) (a : FrameName) (o : Option Entry) → ((e : Entry) → o ≡ Some e → suits s e ≡ true) → is_maker s v ≡ true
    → is_job_on v a o ≡ true → has_grant o ≡ true
job-granted_by s v a None fit makes h = absurd (false≢true h)
job-granted_by s v a (Some (Take r w m k)) fit makes h = absurd (not-suits s v w (and_parts (eqb w v) (same a (frame m k)) h).0 (fit (Take r w m k) refl) makes)
job-granted_by s v a (Some (TakeBlock f x r w m k b n g)) fit makes h = refl
job-granted_by s v a (Some _) fit makes h = absurd (false≢true h)

-- a job at a maker has a block
pub job-granted : (s : Setting) (P : Past) (r v : ℕ) (a : FrameName) → is_legal s P ≡ true → is_maker s v ≡ true
    → is_job_on v a (hand r P) ≡ true → has_grant (hand r P) ≡ true
job-granted s P r v a legal makes h = job-granted_by s v a (hand r P) (λ e is. hand-suits s P r e legal is) makes h

pub made-maker : {F : Type 0} (name_of : F → FrameName) (b : Bool) (a : FrameName) (f : F) → IsMadeAs name_of b a (Some f) → b ≡ true
made-maker name_of true a f h = refl
made-maker name_of false a f h = absurd h

-- ISSUE
pub issued-gives : {F E : Type 0} (name_of : F → FrameName) (s : Setting) (old new : BoardState) (r : ℕ) (f : F) (e : E)
    → is_load_of (name_of f) (hand r (past old)) ≡ true → new ≡ moved s (plain (Issue r (name_of f).index)) old
    → IssueGives {F = F} {E = E} name_of s old r f (Ok e) new
issued-gives name_of s old new r f e loaded is = (loaded, is)

abbrev pub issued_after : Setting → Coursed → ℕ → FrameName → Coursed
issued_after s w r a = record w { told = moved s (plain (Issue r a.index)) w.told }

pub issued-board : {F B O : Type 0} (name_of : F → FrameName) (parts : F → Option Parts) (bytes_of : B → ℕ) (moves : MoveLaws O name_of parts bytes_of)
    (s : Setting) (w w' : Coursed) (t t' : List Kept) (r b : ℕ) (f : F) → IsBoard parts s w t → is_load_of (name_of f) (hand r (past w.told)) ≡ true
    → granted_block (hand r (past w.told)) ≡ b ∷ []
    → IsWholeOf (granted_size (hand r (past w.told))) (parts f) → w' ≡ record w { told = moved s (plain (Issue r (name_of f).index)) w.told }
    → t' ≡ with_kept t b (Frame (name_of f) (parts f)) → IsBoard parts s w' t'
issued-board {F} name_of parts bytes_of moves s w w' t t' r b f i loaded grant whole is kept =
    let new = moved s (plain (Issue r (name_of f).index)) w.told in
    let history : is_history s (past new) ≡ true = issue-by {F = F} {E = Unit {0}} name_of s w.told new r f (Ok tt) i.run.history (loaded, refl) in
    board-moved parts s w w' new t t' i is history
    (subst (λ (u : List Kept). HoldsBlocks parts s new u) (sym kept) (moves.issue s w.told t r b f i.run i.holds loaded grant whole (legal-of s new history)))

-- PUT
pub record Brings {F : Type 0} (name_of : F → FrameName) (parts : F → Option Parts) (measure : ℕ → FrameName → Option Measure)
    (s : Setting) (w : Coursed) (t : List Kept) (r v : ℕ) (input : F) (made : Option F) (measured : Option Measure) (fired : Bool) : Type 0 where
  pub board : IsBoard parts s w t
  pub job : is_job_on v (name_of input) (hand r (past w.told)) ≡ true
  pub kind : IsMadeAs name_of (is_maker s v) (result_name s v (name_of input)) made
  pub own_measure : measured ≡ measure v (name_of input)
  pub own_fired : fired ≡ fires_for s v (name_of input)
  pub own : parts input ≡ lent_to r w.told

abbrev pub put_after : {F : Type 0} → (F → FrameName) → Setting → (r v : ℕ) → F → Bool → BoardState → BoardState
put_after name_of s r v input fired told = moved s (plain (put_of s r v (name_of input) fired)) told

put-history : {F : Type 0} (name_of : F → FrameName) (parts : F → Option Parts) (measure : ℕ → FrameName → Option Measure)
    (s : Setting) (w : Coursed) (t : List Kept) (r v : ℕ) (input : F) (made : Option F) (measured : Option Measure) (fired : Bool)
    → Brings name_of parts measure s w t r v input made measured fired
    → is_history s (past (put_after name_of s r v input fired w.told)) ≡ true
put-history {F} name_of parts measure s w t r v input made measured fired i =
    let done : Done F = record { node = v; input = input; made = made; measured = measured; fired = fired } in
    let right : IsResult name_of measure s done = record { made = i.kind; measured = i.own_measure; fired = i.own_fired } in
    put-by {F = F} {E = Unit {0}} name_of measure s w.told (put_after name_of s r v input fired w.told) r done
    (Ok tt) i.board.run.history (λ h. right) (i.job, refl)

pub put-board : {F B O : Type 0} (name_of : F → FrameName) (parts : F → Option Parts) (bytes_of : B → ℕ) (measure : ℕ → FrameName → Option Measure)
    (moves : MoveLaws O name_of parts bytes_of) (s : Setting) (w w' : Coursed) (t t' : List Kept) (r v c : ℕ) (input : F) (measured : Option Measure)
    (fired : Bool) → Brings name_of parts measure s w t r v input None measured fired → block_of (past w.told) (name_of input) ≡ c ∷ []
    → w' ≡ record w { told = put_after name_of s r v input fired w.told } → t' ≡ with_kept t c (united (kept_at t c) (parts input)) → IsBoard parts s w' t'
put-board name_of parts bytes_of measure moves s w w' t t' r v c input measured fired i has is kept =
    let new = put_after name_of s r v input fired w.told in
    let history = put-history name_of parts measure s w t r v input None measured fired i in
    board-moved parts s w w' new t t' i.board is history
    (subst (λ (u : List Kept). HoldsBlocks parts s new u) (sym kept)
    (moves.put s w.told t r v (result_name s v (name_of input)).maker c input fired i.board.run i.board.holds i.job has i.own i.kind (legal-of s new history)))

pub put_made-board : {F B O : Type 0} (name_of : F → FrameName) (parts : F → Option Parts) (bytes_of : B → ℕ) (measure : ℕ → FrameName → Option Measure)
    (moves : MoveLaws O name_of parts bytes_of) (s : Setting) (w w' : Coursed) (t t' : List Kept) (r v b c : ℕ) (input made : F) (measured : Option Measure)
    (fired : Bool) → Brings name_of parts measure s w t r v input (Some made) measured fired
    → block_of (past w.told) (name_of input) ≡ c ∷ [] → granted_block (hand r (past w.told)) ≡ b ∷ []
    → IsWholeOf (granted_size (hand r (past w.told))) (parts made)
    → w' ≡ record w { told = put_after name_of s r v input fired w.told }
    → t' ≡ with_kept (with_kept t c (united (kept_at t c) (parts input))) b (Frame (name_of made) (parts made)) → IsBoard parts s w' t'
put_made-board name_of parts bytes_of measure moves s w w' t t' r v b c input made measured fired i has grant whole is kept =
    let new = put_after name_of s r v input fired w.told in
    let history = put-history name_of parts measure s w t r v input (Some made) measured fired i in
    board-moved parts s w w' new t t' i.board is history
    (subst (λ (u : List Kept). HoldsBlocks parts s new u) (sym kept)
    (moves.put_made s w.told t r v
    (result_name s v (name_of input)).maker b c input made fired i.board.run i.board.holds i.job has i.own grant i.kind whole (legal-of s new history)))

-- SAVE
pub save-gives : {F : Type 0} (name_of : F → FrameName) (parts : F → Option Parts) (s : Setting) (old new : BoardState) (r v : ℕ) (o : Option (save_answer F))
    (a : save_answer F) → save_refusal {F = F} s r v (past old) ≡ o → SaveAnswers name_of parts s old r v o a new → SaveGives name_of parts s old r v a new
save-gives {F} name_of parts s old new r v o a none c = subst (λ (o' : Option (save_answer F)). SaveAnswers name_of parts s old r v o' a new) (sym none) c

pub unsaved-some : {F : Type 0} (s : Setting) (r v : ℕ) (b : BoardState) → save_refusal {F = F} s r v (past b) ≡ None → none_left (unsaved s v (past b)) ≡ false
unsaved-some {F} s r v b none = (may_save {F = F} s r v (past b) none).some

pub record SavesPiece {F : Type 0} (name_of : F → FrameName) (parts : F → Option Parts) (s : Setting) (w : Coursed) (t : List Kept)
    (r v c : ℕ) (input : F) (group place : ℕ) (of : Option ℕ) : Type 0 where
  pub board : IsBoard parts s w t
  pub role : r ≤ last_role s
  pub allowed : save_refusal {F = F} s r v (past w.told) ≡ None
  pub next : is_next (name_of input) (unsaved s v (past w.told)) ≡ true
  pub has : block_of (past w.told) (name_of input) ≡ c ∷ []
  pub part : IsPartOf (kept_at t c) (name_of input) (parts input)
  pub grouped : group ≡ group_of (node s v).work (length (standing_saves v (past w.told)))
  pub placed : place ≡ place_of (node s v).work (length (standing_saves v (past w.told)))
  pub sized : of ≡ group_size (node s v).work (length (standing_saves v (past w.told))) (is_settled v (past w.told)) (length (puts v (past w.told)))

abbrev pub save_after : {F : Type 0} → (F → FrameName) → (F → Option Parts) → Setting → (r v : ℕ) → F → ℕ → BoardState → BoardState
save_after name_of parts s r v input group told = moved s (lends (Save r v (name_of input).maker (name_of input).index group) (parts input)) told

pub piece-gives : {F : Type 0} (name_of : F → FrameName) (parts : F → Option Parts) (look : LookLaws parts) (s : Setting) (w : Coursed) (t : List Kept)
    (r v c : ℕ) (input : F) (group place : ℕ) (of : Option ℕ) (new : BoardState) → SavesPiece name_of parts s w t r v c input group place of
    → new ≡ save_after name_of parts s r v input group w.told
    → SaveGives name_of parts s w.told r v (save.Piece input group place of) new
piece-gives name_of parts look s w t r v c input group place of new i is =
    save-gives name_of parts s w.told new r v None (save.Piece input group place of) i.allowed
    (i.next, look.one (kept_at t c) (name_of input) (parts input) i.part, i.grouped, i.placed, i.sized, is)

pub piece-board : {F B O : Type 0} (name_of : F → FrameName) (parts : F → Option Parts) (bytes_of : B → ℕ) (look : LookLaws parts)
    (moves : MoveLaws O name_of parts bytes_of) (s : Setting) (w w' : Coursed) (t t' : List Kept) (r v c : ℕ) (input : F) (group place : ℕ) (of : Option ℕ)
    → SavesPiece name_of parts s w t r v c input group place of
    → w' ≡ record w { told = save_after name_of parts s r v input group w.told } → t' ≡ with_kept t c (less_one (kept_at t c)) → IsBoard parts s w' t'
piece-board {F} name_of parts bytes_of look moves s w w' t t' r v c input group place of i is kept =
    let new = save_after name_of parts s r v input group w.told in
    let history : is_history s (past new) ≡ true =
    save-by {F = F} name_of parts s w.told new r v None (save.Piece input group place of) i.board.run.history i.role i.allowed
    (i.next, look.one (kept_at t c) (name_of input) (parts input) i.part, i.grouped, i.placed, i.sized, refl) in
    board-moved parts s w w' new t t' i.board is history
    (subst (λ (u : List Kept). HoldsBlocks parts s new u) (sym kept)
    (moves.save s w.told t r v group c (name_of input) (parts input) i.board.run i.board.holds i.has i.part (legal-of s new history)))

pub piece-lends : {F : Type 0} (name_of : F → FrameName) (parts : F → Option Parts) (look : LookLaws parts)
    (s : Setting) (told new : BoardState) (r v : ℕ) (input : F) (group place : ℕ) (of : Option ℕ) → new ≡ save_after name_of parts s r v input group told
    → LendsPiece parts r (save.Piece input group place of) new
piece-lends name_of parts look s told new r v input group place of is =
    ap (lent_to r) is ∙ (look.handed s told 0 r (lends (Save r v (name_of input).maker (name_of input).index group) (parts input)) (eq-eqb r r refl)).1

-- SAVED
pub saved-board : {F B O : Type 0} (name_of : F → FrameName) (parts : F → Option Parts) (bytes_of : B → ℕ) (moves : MoveLaws O name_of parts bytes_of)
    (s : Setting) (w w' : Coursed) (t t' : List Kept) (r c : ℕ) (f : F) → IsBoard parts s w t → is_piece_on (name_of f) (hand r (past w.told)) ≡ true
    → block_of (past w.told) (name_of f) ≡ c ∷ [] → parts f ≡ lent_to r w.told
    → w' ≡ record w { told = moved s (plain (Saved r (hand_node (hand r (past w.told))) (name_of f).maker (name_of f).index)) w.told }
    → t' ≡ with_kept t c (united (kept_at t c) (parts f)) → IsBoard parts s w' t'
saved-board {F} name_of parts bytes_of moves s w w' t t' r c f i piece has own is kept =
    let new = moved s (plain (Saved r (hand_node (hand r (past w.told))) (name_of f).maker (name_of f).index)) w.told in
    let history : is_history s (past new) ≡ true = saved-by {F = F} {E = Unit {0}} name_of s w.told new r f (Ok tt) i.run.history (piece, refl) in
    board-moved parts s w w' new t t' i is history
    (subst (λ (u : List Kept). HoldsBlocks parts s new u) (sym kept)
    (moves.saved s w.told t r (hand_node (hand r (past w.told))) c f i.run i.holds piece has own (legal-of s new history)))
