use Rattle.std.proofs.Common.{rules, arith}
use Rattle.std.proofs.lemmas.Grind.{common_steps}
use Rattle.flow_watch.proofs.ReadFronts.{read_more}
use Rattle.flow_watch.proofs.reading.read_beside.Goals as goal

pub loop-reads-preserved : goal.loop-reads-preserved
loop-reads-preserved g c = record {
  monitor = search rules;
  reads =
      rw (c.push_reserved.ensures.items, c.read.ensures.last)
      (read_more c.args.peek.now.seen c.loop-reads.reads.items c.loop-reads.peek.seen c.read.new.self.seen c.loop-reads.invariant.reads c.read.ensures.later);
  few = grind (arith, common_steps);
  room = grind (arith, common_steps);
}
