use Rattle.std.proofs.Common.{◌≡◌, ◌∙◌, length, vec_len, arith, sym, subst, rules}
use Rattle.board_rules.specs.RunMeasures.{run_setting}
use Rattle.flow_roles.specs.Feeder.{name_of, parts_of}
use Rattle.flow_roles.proofs.TurnJoins.{nothing-left}
use Rattle.flow_drain.proofs.TakingBack.{HasLeft, few-roles, left-first, left-low, left-may, left-on, left-all, left-board, left-idle}
use Rattle.flow_drain.proofs.draining.take_back_all.Goals as goal

pub loop-left-init : goal.loop-left-init
loop-left-init g c =
    let many : length c.args.ends.items ≡ vec_len c.args.ends = search rules in
    subst (λ rest. HasLeft name_of parts_of length (run_setting g.R.Run.graph g.R.Run.stack) c.args.ends.items rest 0 (g.B.BoardCalls.shown c.args.board.now)
    (g.B.BoardCalls.shown c.args.board.now)) (sym c.into_iter-left-iterator.ensures.into_iter_gives.0)
    (left-first name_of parts_of length (run_setting g.R.Run.graph g.R.Run.stack) c.args.ends.items (g.B.BoardCalls.shown c.args.board.now)
    (many ∙ c.requires.roles) c.requires.legal c.requires.once c.requires.left)

pub reclaim-requires-clause-role : goal.reclaim-requires-clause-role
reclaim-requires-clause-role g c =
    let low =
    left-low name_of parts_of length (run_setting g.R.Run.graph g.R.Run.stack) c.args.ends.items
    (g.B.BoardCalls.shown c.args.board.now) c.loop-left.left-iterator.rest.items c.next.new.self.rest.items c.loop-left.role
    (g.B.BoardCalls.shown c.loop-left.board) c.in-Some.left c.loop-left.invariant c.in-Some.ensures.steps.0 in
    omega (arith, low)

pub reclaim-requires-clause-brings : goal.reclaim-requires-clause-brings
reclaim-requires-clause-brings g c =
    left-may name_of parts_of length (run_setting g.R.Run.graph g.R.Run.stack) c.args.ends.items
    (g.B.BoardCalls.shown c.args.board.now) c.loop-left.left-iterator.rest.items c.next.new.self.rest.items c.loop-left.role
    (g.B.BoardCalls.shown c.loop-left.board) c.in-Some.left c.loop-left.invariant c.in-Some.ensures.steps.0 c.requires.once

pub overflow_add-role : goal.overflow_add-role
overflow_add-role g c =
    let low =
    left-low name_of parts_of length (run_setting g.R.Run.graph g.R.Run.stack) c.args.ends.items
    (g.B.BoardCalls.shown c.args.board.now) c.loop-left.left-iterator.rest.items c.next.new.self.rest.items c.loop-left.role
    (g.B.BoardCalls.shown c.loop-left.board) c.in-Some.left c.loop-left.invariant c.in-Some.ensures.steps.0 in
    let few = few-roles g.R.Run.graph g.R.Run.stack c.requires.graph in
    omega (arith, low, few)

pub loop-left-preserved : goal.loop-left-preserved
loop-left-preserved g c =
    left-on name_of parts_of length (run_setting g.R.Run.graph g.R.Run.stack) c.args.ends.items (g.B.BoardCalls.shown c.args.board.now)
    c.loop-left.left-iterator.rest.items c.next.new.self.rest.items c.loop-left.role (g.B.BoardCalls.shown c.loop-left.board) c.in-Some.left
    c.loop-left.invariant c.in-Some.ensures.steps.0 (g.B.BoardCalls.shown c.reclaim.new.self) c.reclaim.result c.reclaim.ensures.gives

pub returns-clause-role : goal.returns-clause-role
returns-clause-role g c =
    let few : length c.loop-left.left-iterator.rest.items ≡ 0 = search rules in
    left-all name_of parts_of length (run_setting g.R.Run.graph g.R.Run.stack) c.args.ends.items
    (g.B.BoardCalls.shown c.args.board.now) c.loop-left.left-iterator.rest.items c.loop-left.role (g.B.BoardCalls.shown c.loop-left.board) c.loop-left.invariant
    (nothing-left c.loop-left.left-iterator.rest.items few)

pub returns-clause-board : goal.returns-clause-board
returns-clause-board g c =
    let few : length c.loop-left.left-iterator.rest.items ≡ 0 = search rules in
    left-board name_of parts_of length (run_setting g.R.Run.graph g.R.Run.stack) c.args.ends.items
    (g.B.BoardCalls.shown c.args.board.now) c.loop-left.left-iterator.rest.items c.loop-left.role (g.B.BoardCalls.shown c.loop-left.board) c.loop-left.invariant
    (nothing-left c.loop-left.left-iterator.rest.items few)

pub returns-clause-idle : goal.returns-clause-idle
returns-clause-idle g c =
    let few : length c.loop-left.left-iterator.rest.items ≡ 0 = search rules in
    left-idle name_of parts_of length (run_setting g.R.Run.graph g.R.Run.stack) c.args.ends.items
    (g.B.BoardCalls.shown c.args.board.now) c.loop-left.left-iterator.rest.items c.loop-left.role (g.B.BoardCalls.shown c.loop-left.board) c.loop-left.invariant
    (nothing-left c.loop-left.left-iterator.rest.items few) c.requires.free
