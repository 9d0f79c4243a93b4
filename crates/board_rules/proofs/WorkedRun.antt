-- The calls of the run of one frame have their conditions and answers.
use Rattle.std.proofs.Common.{◌≤◌, false, [], refl, arith}
use Rattle.flow_journal.specs.WorkedSaves.{one_file}
use Rattle.board_rules.specs.Worked.{loaded, fed, taken, closed}
use Rattle.board_rules.specs.WorkedRun.{put_down, settled_down, handed_out, saved_up, OneIsSaved}

feeder : 0 ≤ 2
feeder = omega arith

worker : 1 ≤ 2
worker = omega arith

pub one-is-saved : OneIsSaved
one-is-saved = (
  feeder,
  (
    loaded one_file 0 [],
    (refl, refl, (false, (refl, λ told. refl), refl)),
    (
      (feeder, λ here. (refl, refl)),
      (
        fed one_file 0 [],
        (refl, refl),
        (
          (worker, refl),
          (
            taken one_file 1 0 (fed one_file 0 []),
            (refl, (refl, refl), refl),
            (
              (worker, refl, λ here. (record { made = tt; measured = refl; fired = refl }, refl, tt)),
              (
                put_down,
                (refl, refl),
                (
                  feeder,
                  (
                    closed one_file put_down,
                    (refl, refl),
                    (
                      (worker, refl),
                      (
                        settled_down,
                        (refl, refl),
                        (
                          (worker, refl),
                          (
                            handed_out,
                            (refl, refl, refl, refl, refl, refl),
                            (
                              (worker, λ here. refl),
                              (
                                saved_up,
                                (refl, refl),
                                (tt, (saved_up, (refl, refl), refl)),
                              ),
                            ),
                          ),
                        ),
                      ),
                    ),
                  ),
                ),
              ),
            ),
          ),
        ),
      ),
    ),
  ),
)
