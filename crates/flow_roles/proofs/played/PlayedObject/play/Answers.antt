use Rattle.std.proofs.Common.{refl}
use Rattle.board_rules.specs.RunMeasures.{run_setting, run_measure}
use Rattle.flow_roles.specs.Operations.{frames_of}
use Rattle.flow_roles.proofs.Additions.{may_play, legal_after, drained_after, storage_after, played}
use Rattle.flow_roles.proofs.played.PlayedObject.play.Goals as goal

pub play-requires : goal.play-requires
play-requires g c =
    let fs = frames_of g.F.Named.name_of g.F.Held.parts g.F.Held.bytes_of (run_measure g.F.Of.Run.graph g.F.Of.Run.stack) in
    may_play fs (run_setting g.F.Of.Run.graph g.F.Of.Run.stack) (g.B.BoardCalls.shown c.args.self.now.board) c.args.op c.requires

pub invariant_of-self : goal.invariant_of-self
invariant_of-self g c =
    let fs = frames_of g.F.Named.name_of g.F.Held.parts g.F.Held.bytes_of (run_measure g.F.Of.Run.graph g.F.Of.Run.stack) in
    let s = run_setting g.F.Of.Run.graph g.F.Of.Run.stack in
    let b = g.B.BoardCalls.shown c.args.self.now.board in
    let new = g.B.BoardCalls.shown c.play.new.board in
    let self = c.args.self.now in
    record {
      legal = legal_after fs s b new c.args.op c.play.result refl self.legal self.drained c.requires c.play.ensures.replies;
      drained = drained_after fs s b new c.args.op c.play.result refl self.legal self.drained c.requires c.play.ensures.replies;
      storage = storage_after fs s b new c.args.op c.play.result refl self.legal self.drained c.requires c.play.ensures.replies self.storage;
    }

pub returns : goal.returns
returns g c =
    let fs = frames_of g.F.Named.name_of g.F.Held.parts g.F.Held.bytes_of (run_measure g.F.Of.Run.graph g.F.Of.Run.stack) in
    let self = c.args.self.now in
    played fs (run_setting g.F.Of.Run.graph g.F.Of.Run.stack) (g.B.BoardCalls.shown self.board)
    (g.B.BoardCalls.shown c.play.new.board) c.args.op c.play.result refl self.legal self.drained c.requires c.play.ensures.replies c.play.ensures.lends
