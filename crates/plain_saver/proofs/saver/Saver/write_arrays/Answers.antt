use Rattle.std.proofs.Common.{◌<◌, length, refl, sym, ◌∙◌, arith}
use Rattle.std.proofs.lemmas.Result.{err_from_is_err_and}
use Rattle.graph_files.proofs.Ends.{item}
use Rattle.plain_saver.proofs.Turns.{arrays-begin, arrays-end, arrays-next}
use Rattle.plain_saver.proofs.saver.Saver.write_arrays.Goals as goal

pub loop-at-init : goal.loop-at-init
loop-at-init g c =
    record {
      rooms = c.requires.rooms;
      count = refl;
      turns = arrays-begin c.args.source.now.graph c.args.self.now.passes.items c.args.self.now.files c.args.index c.requires.left;
      some = c.requires.saved;
      saved = λ prefix before h. h;
      none = refl;
    }

pub returns-in_err-write_array-clause-err : goal.returns-in_err-write_array-clause-err
returns-in_err-write_array-clause-err g c =
    let p = err_from_is_err_and c.from_residual.result c.from_residual.ensures.1 in
    rw p.1 (λ prefix before h. c.in_err-write_array.ensures.err prefix before (c.loop-at.invariant.saved prefix before h))

pub loop-at-preserved : goal.loop-at-preserved
loop-at-preserved g c =
    let graph = c.args.source.now.graph in
    let s = c.args.source.now.stack in
    let inv = c.loop-at.invariant in
    let within : c.loop-at.at < length c.loop-at.self.files = omega (arith, inv.count) in
    let i = item c.loop-at.self.files c.loop-at.at within in
    let h = inv.some.1.1 in
    let next = c.in_ok-write_array.ensures.saved inv.some.0 inv.some.1.0 h in
    record {
      rooms = c.in_ok-write_array.ensures.rooms;
      count = c.in_ok-write_array.ensures.count ∙ inv.count;
      turns =
          arrays-next graph s inv.some.0 inv.some.1.0 (g.K.Shelf.held c.loop-at.shelf) c.loop-at.self.passes.items c.loop-at.self.files c.known.ensures.graph h
          c.args.index c.write_array.new.self.passes.items c.write_array.new.self.files c.loop-at.at i.0 i.1 (c.in_ok-write_array.ensures.passes i.0 i.1)
          (next.nodes ∙ sym h.nodes) inv.turns;
      some = (inv.some.0, (inv.some.1.0, next));
      saved = λ prefix before old. c.in_ok-write_array.ensures.saved prefix before (inv.saved prefix before old);
      none = c.in_ok-write_array.ensures.cause ∙ inv.none;
    }

pub returns-clause-left : goal.returns-clause-left
returns-clause-left g c =
    arrays-end c.args.source.now.graph c.loop-at.self.passes.items c.loop-at.self.files c.loop-at.at c.args.index (omega (arith, c.loop-at.invariant.count))
    c.loop-at.invariant.turns
