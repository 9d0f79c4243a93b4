use Rattle.std.proofs.Common.{◌∙◌, sym}
use Rattle.graph_conf.proofs.node.node_of.Goals as goal

pub returns-clause-sound : goal.returns-clause-sound
returns-clause-sound c =
    let parallel = c.in_ok-kind-2.ensures.parallel in
    record {
      name = c.in_ok-name.ensures.sound;
      kind = c.in_ok-kind-2.ensures.sound;
      queue = (c.in_ok-queue.ensures.within.0, c.in_ok-queue.ensures.within.1);
      threads = c.in_ok-threads.ensures.bound;
      one_thread = λ no. c.in_ok-threads.ensures.one (sym parallel ∙ no);
      sort = c.in_ok-sort.ensures.bound;
      unsorted = λ no. c.in_ok-sort.ensures.none (sym parallel ∙ no);
      sort_time = c.in_ok-sort_time.ensures.bound;
    }
