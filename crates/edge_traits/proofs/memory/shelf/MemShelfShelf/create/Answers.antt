use Rattle.std.proofs.Common.{rules, ◌≡◌, [], is_ok, if◌then◌else◌}
use Rattle.edge_traits.specs.Memory.{with_bytes}
use Rattle.edge_traits.proofs.Shelves.{create_ok}
use Rattle.edge_traits.proofs.memory.shelf.MemShelfShelf.create.Goals as goal

pub returns-clause-ok : goal.returns-clause-ok
returns-clause-ok c =
    let old = c.args.self.now.store in
    let new = c.if-is_listed.self-inside.arena in
    let stored : new ≡ (if is_ok c.count.result then with_bytes old c.args.name.now [] else old) = search rules in
    create_ok old new c.args.name.now c.count.result stored
