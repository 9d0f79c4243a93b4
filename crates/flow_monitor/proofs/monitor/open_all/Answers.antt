use Rattle.std.proofs.Common.{◌≡◌, rules, arith}
use Rattle.std.proofs.lemmas.Grind.{common_steps}
use Rattle.std.proofs.lemmas.List.Elements.{All-push}
use Rattle.flow_monitor.specs.Registers.{name_of}
use Rattle.flow_monitor.specs.Monitors.{peek_state}
use Rattle.flow_monitor.proofs.monitor.open_all.Goals as goal

pub loop-writer-preserved : goal.loop-writer-preserved
loop-writer-preserved c =
    let same = peek_state (name_of c.args.latest.now.seen.book) c.args.latest.now.seen.log in
    record {
      shown = search rules;
      idle = search rules;
      knows = search rules;
      few = grind (arith, common_steps);
      room = grind (arith, common_steps);
      peeks = rw c.push_reserved.ensures.items (All-push (λ p. p ≡ same) _ _ c.loop-writer.invariant.peeks c.new.ensures);
    }
