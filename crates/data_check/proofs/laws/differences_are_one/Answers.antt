use Rattle.data_check.proofs.Alike.{none-where-same, one-difference}
use Rattle.data_check.proofs.laws.differences_are_one.Goals as goal

pub returns : goal.returns
returns c = record { none = none-where-same; one = one-difference }
