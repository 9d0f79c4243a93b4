-- Offers leave what is to go out of a sort list as it is.
use Rattle.std.proofs.Common.{◌≡◌, ◌∙◌, ℕ, true, false, Bool, List, [], ◌∷◌, map, refl, ap}
use Rattle.std.proofs.Common.{if◌then◌else◌}
use Rattle.nd_base.specs.declared.frame.FrameName.{FrameName}
use Rattle.flow_journal.specs.declared.entry.Entry.TheVariants.{Accept, Full}
use Rattle.flow_journal.specs.Setting.{Setting}
use Rattle.flow_journal.specs.Queued.{has_room}
use Rattle.flow_journal.specs.Waiting.{Waiting, waiting, least_first}
use Rattle.flow_journal.specs.Following.{emit, look, offer}
use Rattle.flow_journal.specs.Histories.{wanted}
use Rattle.board_rules.specs.States.{BoardState, past, plain}
use Rattle.board_rules.specs.Moving.{with_all}
use Rattle.flow_emit.proofs.Depth.{offers-first}
use Rattle.std.proofs.Common.{◌≡◌, ◌∙◌, ℕ, true, false, Bool, List, [], ◌∷◌, map, refl, ap}
use Rattle.flow_journal.specs.declared.entry.Why.TheVariants.{Flush}
use Rattle.flow_journal.specs.Setting.{Setting}
use Rattle.flow_journal.specs.Following.{emit, offer}
use Rattle.board_rules.specs.Moving.{with_all}
use Rattle.run_course.specs.Leaving.{flush}

-- offers leave a look and what waits as they are
pub look-offers : (s : Setting) (v : ℕ) (a : FrameName) (cs : List ℕ) (b : BoardState)
    → look s v (past (with_all s 0 1 (map (offer a) cs) b)) ≡ look s v (past b)
look-offers s v a [] b = refl
look-offers s v a (c ∷ cs) b =
    ap (λ (d : BoardState). look s v (past d)) (offers-first s a c cs b)
    ∙ (look-offers s v a cs (plain (wanted s (past b) (offer a c)) ∷ b) ∙ split (has_room s (past b) c)) where
      split : (r : Bool) → look s v ((if r then Accept c a.maker a.index else Full c a.maker a.index) ∷ past b) ≡ look s v (past b)
      split true = refl
      split false = refl

pub waits-offers : (s : Setting) (v : ℕ) (a : FrameName) (cs : List ℕ) (b : BoardState)
    → waiting s v (past (with_all s 0 1 (map (offer a) cs) b)) ≡ waiting s v (past b)
waits-offers s v a [] b = refl
waits-offers s v a (c ∷ cs) b =
    ap (λ (d : BoardState). waiting s v (past d)) (offers-first s a c cs b)
    ∙ (waits-offers s v a cs (plain (wanted s (past b) (offer a c)) ∷ b) ∙ split (has_room s (past b) c)) where
      split : (r : Bool) → waiting s v ((if r then Accept c a.maker a.index else Full c a.maker a.index) ∷ past b) ≡ waiting s v (past b)
      split true = refl
      split false = refl

-- offers leave a flush as it is
pub flush-offers : (s : Setting) (v : ℕ) (a : FrameName) (cs : List ℕ) (b : BoardState)
    → flush s v (past (with_all s 0 1 (map (offer a) cs) b)) ≡ flush s v (past b)
flush-offers s v a cs b = ap (λ (ws : List Waiting). map (λ (w : Waiting). emit v Flush w.array) (least_first s ws)) (waits-offers s v a cs b)
