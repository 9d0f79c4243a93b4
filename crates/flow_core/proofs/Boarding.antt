-- A board after a move.
use Rattle.std.proofs.Common.{◌≡◌, ◌≤◌, ℕ, true, false, Bool, List, Option, cond, refl, ap, sym, subst}
use Rattle.nd_base.specs.declared.frame.FrameName.{FrameName}
use Rattle.flow_journal.specs.declared.entry.Entry.{Entry}
use Rattle.flow_journal.specs.declared.entry.Entry.TheVariants.{Close, Leave, Settle}
use Rattle.flow_journal.specs.Ended.{is_closed, is_settled, has_left}
use Rattle.board_rules.specs.declared.answers.Settled.TheVariants as settled
use Rattle.board_rules.specs.Moving.{moved}
use Rattle.board_rules.specs.Feeding.{waits_to_close}
use Rattle.board_rules.specs.Working.{waits_to_settle}
use Rattle.board_rules.proofs.Legal.{close-by, leave-by, settle-by}
use Rattle.kept_blocks.specs.MoveLaws.{MoveLaws, touches_no_hand}
use Rattle.std.proofs.lemmas.Bool.{and_parts}
use Rattle.nd_base.specs.Parts.{Parts}
use Rattle.flow_journal.specs.Setting.{Setting, is_node, last_role}
use Rattle.flow_journal.specs.Histories.{is_history, is_legal}
use Rattle.board_rules.specs.States.{BoardState, past, plain}
use Rattle.frame_table.specs.Kept.{Kept}
use Rattle.run_course.specs.Courses.{Coursed}
use Rattle.kept_blocks.specs.Keeping.{HoldsBlocks}
use Rattle.flow_core.specs.Boards.{IsBoard}

pub legal-of : (s : Setting) (b : BoardState) → is_history s (past b) ≡ true → is_legal s (past b) ≡ true
legal-of s b h = (and_parts (is_legal s (past b)) _ h).0

-- the log grew, and the table holds what it says now
pub board-moved : {F : Type 0} (parts : F → Option Parts) (s : Setting) (w w' : Coursed) (new : BoardState) (t t' : List Kept) → IsBoard parts s w t
    → w' ≡ record w { told = new } → is_history s (past new) ≡ true → HoldsBlocks parts s new t' → IsBoard parts s w' t'
board-moved parts s w w' new t t' i is legal holds =
    subst (λ (x : Coursed). IsBoard parts s x t') (sym is)
    (record { still = i.still; run = record { pooled = i.run.pooled; few = i.run.few; history = legal }; holds = holds })

-- the log is as before
pub board-same : {F : Type 0} (parts : F → Option Parts) (s : Setting) (w w' : Coursed) (t t' : List Kept) → IsBoard parts s w t → w' ≡ w
    → HoldsBlocks parts s w.told t' → IsBoard parts s w' t'
board-same parts s w w' t t' i is holds =
    subst (λ (x : Coursed). IsBoard parts s x t') (sym is) (record { still = i.still; run = i.run; holds = holds })

-- a move that touches no hand
pub board-still : {F B : Type 0} (O : Type 0) (name_of : F → FrameName) (parts : F → Option Parts) (bytes_of : B
    → ℕ) (moves : MoveLaws O name_of parts bytes_of) (s : Setting) (w w' : Coursed) (t : List Kept) (e : Entry) → IsBoard parts s w t → touches_no_hand e ≡ true
    → is_history s (past (moved s (plain e) w.told)) ≡ true → w' ≡ record w { told = moved s (plain e) w.told } → IsBoard parts s w' t
board-still O name_of parts bytes_of moves s w w' t e i none legal is =
    board-moved parts s w w' (moved s (plain e) w.told) t t i is legal
    (moves.still s w.told t 0 e i.run i.holds none (legal-of s (moved s (plain e) w.told) legal))

pub leaves-board : {F B : Type 0} (O : Type 0) (name_of : F → FrameName) (parts : F → Option Parts)
    (bytes_of : B → ℕ) (moves : MoveLaws O name_of parts bytes_of) (s : Setting) (w w' : Coursed) (t : List Kept) (r : ℕ) → IsBoard parts s w t
    → r ≤ last_role s → has_left r (past w.told) ≡ false
    → w' ≡ record w { told = moved s (plain (Leave r)) w.told } → IsBoard parts s w' t
leaves-board O name_of parts bytes_of moves s w w' t r i role stays is =
    let legal =
    leave-by s w.told (moved s (plain (Leave r)) w.told) r i.run.history role
    (sym (ap (λ (b : Bool). cond b w.told (moved s (plain (Leave r)) w.told)) stays)) in
    board-still O name_of parts bytes_of moves s w w' t (Leave r) i refl legal is

pub closes-board : {F B : Type 0} (O : Type 0) (name_of : F → FrameName) (parts : F → Option Parts)
    (bytes_of : B → ℕ) (moves : MoveLaws O name_of parts bytes_of) (s : Setting) (w w' : Coursed) (t : List Kept) (r : ℕ) → IsBoard parts s w t
    → r ≤ last_role s → waits_to_close s (past w.told) ≡ false → is_closed (past w.told) ≡ false
    → w' ≡ record w { told = moved s (plain (Close r)) w.told } → IsBoard parts s w' t
closes-board O name_of parts bytes_of moves s w w' t r i role ready open_ is =
    let legal =
    close-by s w.told (moved s (plain (Close r)) w.told) r settled.Done i.run.history role
    (ready, sym (ap (λ (b : Bool). cond b w.told (moved s (plain (Close r)) w.told)) open_)) in
    board-still O name_of parts bytes_of moves s w w' t (Close r) i refl legal is

pub settles-board : {F B : Type 0} (O : Type 0) (name_of : F → FrameName) (parts : F → Option Parts)
    (bytes_of : B → ℕ) (moves : MoveLaws O name_of parts bytes_of) (s : Setting) (w w' : Coursed) (t : List Kept) (r v : ℕ) → IsBoard parts s w t
    → r ≤ last_role s → is_node s v ≡ true → waits_to_settle s v (past w.told) ≡ false → is_settled v (past w.told) ≡ false
    → w' ≡ record w { told = moved s (plain (Settle r v)) w.told } → IsBoard parts s w' t
settles-board O name_of parts bytes_of moves s w w' t r v i role here ready open_ is =
    let legal =
    settle-by s w.told (moved s (plain (Settle r v)) w.told) r v settled.Done i.run.history role here
    (ready, sym (ap (λ (b : Bool). cond b w.told (moved s (plain (Settle r v)) w.told)) open_)) in
    board-still O name_of parts bytes_of moves s w w' t (Settle r v) i refl legal is
