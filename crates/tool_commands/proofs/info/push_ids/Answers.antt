use Rattle.std.proofs.Common.{rules, ◌<◌, length, arith, w32, FitsSigned}
use Rattle.std.proofs.lemmas.Int.{to_z-of_z}
use Rattle.tool_commands.proofs.Ids.{ids_line-heads}
use Rattle.tool_commands.proofs.info.push_ids.Goals as goal

pub returns : goal.returns
returns c =
    let arrays = c.args.stack.now.arrays in
    let some : 0 < length arrays = omega (arith, c.if-frames-eq0.false, c.frames-frames.ensures) in
    let first = c.head.result.now in
    let last = c.head-2.result.now in
    let first_fits : FitsSigned w32 first.id = search rules in
    let last_fits : FitsSigned w32 last.id = search rules in
    let written = simp (to_z-of_z w32 first.id first_fits, to_z-of_z w32 last.id last_fits) at c.writeln.ensures.bytes in
    rw (ids_line-heads arrays c.frames-frames.result first last some c.frames-frames.ensures c.head.ensures c.head-2.ensures) written
