-- What a course keeps, as its fields give it.
use Rattle.std.specs.VecDeque.{deque_capacity}
use Rattle.run_course.specs.declared.course.Course.TheInside.{Inside}
use Rattle.run_course.specs.Courses.{Parts}

abbrev pub parts : {F B O : Type 0} → Inside F B O → Parts
parts a =
    record {
      log = a.log;
      rules = a.rules;
      nodes = a.nodes.items;
      roles = a.roles.items;
      pool = a.pool;
      blocks = a.blocks.items;
      facts = a.facts;
      transit = a.transit.items;
      room = deque_capacity a.transit;
    }
