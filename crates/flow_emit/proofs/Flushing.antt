-- A flush of a sort list, one after the other, when its node is settled.
use Rattle.std.proofs.Common.{◌≡◌, ◌≤◌, ℕ, true, false, Bool, List, [], ◌∷◌, map, refl, ap, ltb, ◌&&◌, ◌⊎◌, inl, inr}
use Rattle.std.specs.List.{list_all}
use Rattle.std.proofs.lemmas.Bool.{false≢true}
use Rattle.flow_journal.specs.declared.entry.Entry.TheVariants.{Settle}
use Rattle.flow_journal.specs.declared.entry.Why.TheVariants.{Flush}
use Rattle.flow_journal.specs.Setting.{Setting, Work, Makes, Passes, Watches, Saves, node, is_node, is_sorted, last_role, may_sort}
use Rattle.flow_journal.specs.Ended.{is_settled}
use Rattle.flow_journal.specs.Waiting.{Waiting, waiting, least_first}
use Rattle.flow_journal.specs.Following.{emit}
use Rattle.flow_journal.specs.Histories.{is_legal, is_history}
use Rattle.flow_journal.proofs.Changes.{put_laws}
use Rattle.board_rules.specs.declared.answers.Settled.TheVariants as settled
use Rattle.board_rules.specs.States.{BoardState, past, plain}
use Rattle.board_rules.specs.Moving.{moved, with_all}
use Rattle.board_rules.specs.Working.{waits_to_settle}
use Rattle.board_rules.proofs.Legal.{settle-by}
use Rattle.run_course.specs.Puts.{is_watching, watches}
use Rattle.run_course.specs.Leaving.{flush}
use Rattle.run_course.proofs.Begins.{begun}
use Rattle.flow_emit.proofs.Depth.{is_out, outs-flat}
use Rattle.course_parts.specs.declared.rules.NodeWork.{NodeWork}
use Rattle.course_parts.specs.declared.rules.NodeWork.TheVariants as work
use Rattle.course_parts.specs.RunRules.{as_work}

-- THE MOVE
all-out : (v : ℕ) (ws : List Waiting) → list_all is_out (map (λ (w : Waiting). emit v Flush w.array) ws) ≡ true
all-out v [] = refl
all-out v (w ∷ ws) = all-out v ws

pub moved-flush : (s : Setting) (r v : ℕ) (b : BoardState)
    → moved s (plain (Settle r v)) b ≡ with_all s 0 2 (flush s v (Settle r v ∷ past b)) (plain (Settle r v) ∷ b)
moved-flush s r v b = outs-flat s 0 1 (flush s v (past b)) (plain (Settle r v) ∷ b) (all-out v (least_first s (waiting s v (past b))))

-- nothing waits at a node without a sort list
pub moved-none : (s : Setting) (r v : ℕ) (b : BoardState) → is_sorted s v ≡ false → moved s (plain (Settle r v)) b ≡ plain (Settle r v) ∷ b
moved-none s r v b unsorted =
    ap (λ (ws : List Waiting). with_all s 0 3 (map (λ (w : Waiting). emit v Flush w.array) (least_first s ws)) (plain (Settle r v) ∷ b))
    (put_laws.unsorted s v (past b) unsorted)

-- a circular node has no sort list
no-list : (w : Work) (b : Bool) → is_watching w ≡ true → (may_sort w && b) ≡ false
no-list Makes b h = absurd (false≢true h)
no-list (Passes d) b h = absurd (false≢true h)
no-list (Watches pre post preset) b h = refl
no-list (Saves whole n) b h = absurd (false≢true h)

pub circular-unsorted : (s : Setting) (v : ℕ) → watches s v ≡ true → is_sorted s v ≡ false
circular-unsorted s v h = no-list (node s v).work (ltb 0 (node s v).sort) h

-- the whole move is legal
pub settle-legal : (s : Setting) (b : BoardState) (r v : ℕ) → is_history s (past b) ≡ true → r ≤ last_role s → is_node s v ≡ true
    → waits_to_settle s v (past b) ≡ false → is_settled v (past b) ≡ false
    → is_history s (past (moved s (plain (Settle r v)) b)) ≡ true
settle-legal s b r v h role here ready unsettled = settle-by s b (moved s (plain (Settle r v)) b) r v settled.Done h role here (ready, rw unsettled refl)

-- and so is its first entry
pub may-settle : (s : Setting) (b : BoardState) (r v : ℕ) → is_history s (past b) ≡ true → r ≤ last_role s → is_node s v ≡ true
    → waits_to_settle s v (past b) ≡ false → is_settled v (past b) ≡ false
    → is_legal s (Settle r v ∷ past b) ≡ true
may-settle s b r v h role here ready unsettled = begun s b 0 (plain (Settle r v)) (settle-legal s b r v h role here ready unsettled)

-- what a node does, as code reads it
pub not-watching : (w : NodeWork) → (w ≡ work.Makes) ⊎ ((w ≡ work.Passes) ⊎ ((w ≡ work.Deals) ⊎ ((whole : Bool) × (count : ℕ) × (w ≡ work.Saves whole count))))
    → is_watching (as_work w) ≡ false
not-watching w h = elim h [
  | inl makes ↦ ap (λ x. is_watching (as_work x)) makes
  | inr more ↦ elim more [
    | inl passes ↦ ap (λ x. is_watching (as_work x)) passes
    | inr rest ↦ elim rest [ inl deals ↦ ap (λ x. is_watching (as_work x)) deals | inr saves ↦ ap (λ x. is_watching (as_work x)) saves.2 ]
  ]
]
