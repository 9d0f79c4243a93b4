use Rattle.std.proofs.Common.{get_or}
use Rattle.flow_roles.proofs.TurnJoins.{has-made, all-seen, no-others}
use Rattle.flow_roles.proofs.turn_desk.take_back.Goals as goal

pub returns-clause-moves : goal.returns-clause-moves
returns-clause-moves g c = λ k d low.
    has-made (get_or c.args.passes.items k d).inner c.join_all-keep.result (get_or c.args.passes.items k d).said
    (g.B.BoardCalls.shown c.in-Ok.played.board) (c.requires.ours k d low).1
    (c.join_all-keep.ensures.each k d low) c.in-Ok.ensures.state.0 c.in-Ok.ensures.state.1

pub returns-clause-seen : goal.returns-clause-seen
returns-clause-seen g c =
    let a = c.join_all-keep.ensures.seen in
    (a.0, a.1, a.2, a.3, all-seen a.1.inner c.join_all-keep.result (g.B.BoardCalls.shown c.in-Ok.played.board) a.4 c.in-Ok.ensures.state.0)

pub returns-clause-others : goal.returns-clause-others
returns-clause-others g c = λ r high. no-others r (g.B.BoardCalls.shown c.in-Ok.played.board) (c.in-Ok.ensures.state.3 r high)
