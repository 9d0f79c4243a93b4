use Rattle.std.proofs.Common.{rules, ◌≡◌, ◌++◌, is_ok, Some, if◌then◌else◌, sym, subst}
use Rattle.edge_traits.specs.Files.{Stands}
use Rattle.edge_traits.specs.Memory.{MemStore, files_of, bytes_of, with_bytes}
use Rattle.edge_traits.proofs.Shelves.{append_ok, append_err, IsSome-stands}
use Rattle.edge_traits.proofs.memory.shelf.MemShelfShelf.append.Goals as goal

pub append-done-requires : goal.append-done-requires
append-done-requires c = IsSome-stands _ _ (subst (λ (s : MemStore). Stands (Some (files_of s.store.files)) c.args.name.now) (sym c.self.view_is) c.requires)

pub returns-clause-ok : goal.returns-clause-ok
returns-clause-ok c =
    let old = c.args.self.now.store in
    let new = c.if-is_listed.self-inside.arena in
    let stored : new ≡ (if is_ok c.count.result then with_bytes old c.args.name.now (bytes_of old c.args.name.now ++ c.args.bytes.now) else old) =
    search rules in
    append_ok old new c.args.name.now c.args.bytes.now c.count.result stored

pub returns-clause-err : goal.returns-clause-err
returns-clause-err c =
    let old = c.args.self.now.store in
    let new = c.if-is_listed.self-inside.arena in
    let stored : new ≡ (if is_ok c.count.result then with_bytes old c.args.name.now (bytes_of old c.args.name.now ++ c.args.bytes.now) else old) =
    search rules in
    append_err old new c.args.name.now c.args.bytes.now c.count.result c.requires stored
