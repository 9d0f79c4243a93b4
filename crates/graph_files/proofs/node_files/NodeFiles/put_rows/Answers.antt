use Rattle.std.proofs.Common.{◌≡◌, ◌+◌, false, inr, sym, subst, arith, rules}
use Rattle.std.specs.Prelude.{nat_lt, Bool}
use Rattle.std.proofs.lemmas.Bool.{ltb-false}
use Rattle.file_out.specs.StreamLaws.{HasRange-HasRows}
use Rattle.graph_files.specs.InTurn.{RowsGo}
use Rattle.graph_files.proofs.Torn.{changed-count}
use Rattle.graph_files.proofs.node_files.NodeFiles.put_rows.Goals as goal

pub end-requires-clause-stands : goal.end-requires-clause-stands
end-requires-clause-stands g c =
    let s = c.requires.stands in
    let r = c.requires.rows in
    HasRange-HasRows _ c.add_rows.new.self _ (c.in_ok-add_rows.ensures.rows s.0 r.0 r.1 r.2 s.1)

pub returns-in-Ok-clause-ok : goal.returns-in-Ok-clause-ok
returns-in-Ok-clause-ok g c =
    let held = g.K.Shelf.held in
    let f = c.args.file in
    let file : c.add_rows.new.self ≡ record f { count = f.count + c.args.count } = c.in_ok-add_rows.ensures.counted in
    let more : nat_lt (c.args.place + c.args.count) c.args.self.now.count ≡ false = search rules in
    subst (λ (b : Bool). RowsGo b f c.args.count c.args.rows.now c.args.self.now.current (held c.args.shelf.now) (held c.end.new.shelf)) (sym more) (
      c.requires.none,
      (
        held c.add_rows.new.shelf,
        c.in_ok-add_rows.ensures.ok,
        changed-count _ _ f.name f.numrecs (f.count + c.args.count) (rw file at c.in-Ok.ensures.ok),
        (rw file at c.in-Ok.ensures.layout),
      ),
    )

pub returns-in-Err-clause-err : goal.returns-in-Err-clause-err
returns-in-Err-clause-err g c =
    let f = c.args.file in
    let file : c.add_rows.new.self ≡ record f { count = f.count + c.args.count } = c.in_ok-add_rows.ensures.counted in
    let last : nat_lt (c.args.place + c.args.count) c.args.self.now.count ≡ false = search rules in
    inr (
      g.K.Shelf.held c.add_rows.new.shelf,
      c.in_ok-add_rows.ensures.ok,
      omega (arith, ltb-false (c.args.place + c.args.count) c.args.self.now.count last, c.requires.room.1),
      (rw file at c.in-Err.ensures.err),
    )
