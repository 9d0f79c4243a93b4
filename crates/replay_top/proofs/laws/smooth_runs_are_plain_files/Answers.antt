use Rattle.std.proofs.Common.{◌≡◌, ℕ, Some}
use Rattle.nd_base.specs.declared.graph.NodeRule.{NodeRule}
use Rattle.nd_base.specs.GraphRules.{rule_at}
use Rattle.chain_plain.specs.Plans.{makers_of}
use Rattle.board_rules.specs.RunMeasures.{run_setting}
use Rattle.run_laws.specs.PlainLaws.{ArePlain}
use Rattle.run_laws.specs.Results.{put_out}
use Rattle.replay_top.proofs.SmoothFiles.{smooth-to, smooth-from}
use Rattle.replay_top.proofs.laws.smooth_runs_are_plain_files.Goals as goal

pub returns : goal.returns
returns c g stack prefix P name bytes sound dealer ids smooth =
    let plain : (v : ℕ) (n : NodeRule) → rule_at g.nodes v ≡ Some n → ArePlain g stack v (put_out (run_setting g stack) v P) =
    λ v n at. c.smooth_runs_are_plain.ensures g (makers_of g.nodes stack.shape) stack P v n sound at dealer ids smooth in (
      smooth-to g stack prefix P sound plain name bytes,
      smooth-from g stack prefix P sound plain name bytes,
    )
