use Rattle.board_cases.proofs.Staying.{piece-still}
use Rattle.board_cases.proofs.saving.progress.Goals as goal

pub returns : goal.returns
returns g c =
    let call = c.progress-answer.ensures.called in
    record { ours_ = c.progress-answer.ensures.ours; holds = piece-still _ _ _ _ _ _ _ call call.answer.1 c.requires.saving.holds }
