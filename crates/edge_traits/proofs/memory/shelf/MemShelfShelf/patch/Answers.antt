use Rattle.std.proofs.Common.{rules, ◌≡◌, length, is_ok, Some, if◌then◌else◌, sym, subst}
use Rattle.edge_traits.specs.Files.{overwritten, HasRange}
use Rattle.edge_traits.specs.Memory.{MemStore, files_of, bytes_of, with_bytes}
use Rattle.edge_traits.proofs.Shelves.{patch_ok, patch_err, IsSome-range, range_inside}
use Rattle.edge_traits.proofs.memory.shelf.MemShelfShelf.patch.Goals as goal

pub patch-requires-clause-held : goal.patch-requires-clause-held
patch-requires-clause-held c =
    IsSome-range _ _ _ _ (subst (λ (s : MemStore). HasRange (Some (files_of s.store.files)) c.args.name.now c.args.off (length c.args.bytes.now))
    (sym c.self.view_is) c.requires)

pub patch-requires-clause-inside : goal.patch-requires-clause-inside
patch-requires-clause-inside c =
    range_inside c.self.inside.arena c.args.name.now c.args.off (length c.args.bytes.now)
    (subst (λ (s : MemStore). HasRange (Some (files_of s.store.files)) c.args.name.now c.args.off (length c.args.bytes.now)) (sym c.self.view_is) c.requires)

pub returns-clause-ok : goal.returns-clause-ok
returns-clause-ok c =
    let old = c.args.self.now.store in
    let new = c.if-is_listed.self-inside.arena in
    let stored : new ≡ (if is_ok c.count.result then with_bytes old c.args.name.now
    (overwritten (bytes_of old c.args.name.now) c.args.off c.args.bytes.now) else old) = search rules in
    patch_ok old new c.args.name.now c.args.bytes.now c.args.off c.count.result stored

pub returns-clause-err : goal.returns-clause-err
returns-clause-err c =
    let old = c.args.self.now.store in
    let new = c.if-is_listed.self-inside.arena in
    let stored : new ≡ (if is_ok c.count.result then with_bytes old c.args.name.now
    (overwritten (bytes_of old c.args.name.now) c.args.off c.args.bytes.now) else old) = search rules in
    patch_err old new c.args.name.now c.args.bytes.now c.args.off c.count.result c.requires stored
