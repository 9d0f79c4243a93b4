-- No role at a seat takes back a hand.
use Rattle.std.proofs.Common.{◌≡◌, ℕ, Bool, true, false, ap, ◌∙◌}
use Rattle.std.specs.List.{list_all}
use Rattle.flow_journal.specs.declared.entry.Entry.{Entry}
use Rattle.flow_journal.specs.Ended.{reclaims, was_reclaimed}
use Rattle.board_rules.specs.States.{BoardState, past}
use Rattle.board_rules.specs.Movers.{moves_by}
use Rattle.flow_roles.proofs.TakenBack.{none-such, not-back}

pub never-back : (r : ℕ) (b made : BoardState) (logs : Entry → Bool) → moves_by r b ≡ made
    → ((e : Entry) → logs e ≡ true → reclaims r e ≡ false) → list_all logs (past made) ≡ true
    → was_reclaimed r (past b) ≡ false
never-back r b made logs is none moves =
    not-back r b (ap (λ (c : BoardState). was_reclaimed r (past c)) is ∙ none-such logs (reclaims r) (past made) none moves)
