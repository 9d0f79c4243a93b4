use Rattle.std.proofs.Common.{◌≤◌, List, [], length, refl, sym, ap, ◌∙◌, arith}
use Rattle.edge_traits.specs.Arena.{total_size}
use Rattle.edge_traits.specs.Memory.{NamedFile, Store, find_file, with_bytes}
use Rattle.edge_traits.proofs.Arenas.{find_file-place, takes_name-known, parts-cut, IsReserved-cut}
use Rattle.edge_traits.proofs.memory.arena.Arena.create.Goals as goal

pub invariant_of-self : goal.invariant_of-self
invariant_of-self c =
    let place = c.in-Some.place in
    let inside = c.self.inside in
    let found = rw (c.deref.ensures.value, c.deref-2.ensures.value, c.as_bytes.ensures.value) at c.in-Some.ensures.found in
    IsReserved-cut inside.extents.items inside.storage.items c.cut.new.storage.items c.args.name.now place.extent record {
      name = place.extent.name;
      bytes = 0;
    } place.index place.start _ _ _ _ _ refl refl c.cut.ensures.items c.self.invariant found c.cut.ensures.capacity

pub returns-in-Some-clause-fits : goal.returns-in-Some-clause-fits
returns-in-Some-clause-fits c =
    let place = c.in-Some.place in
    let inside = c.self.inside in
    let found = rw (c.deref.ensures.value, c.deref-2.ensures.value, c.as_bytes.ensures.value) at c.in-Some.ensures.found in
    sym (takes_name-known c.args.self.now c.args.name.now _
    (sym (ap (λ (v : Store). find_file v.files c.args.name.now) c.self.view_is)
    ∙ find_file-place inside.extents.items inside.storage.items c.args.name.now place.extent place.index place.start found))

pub returns-in-Some-clause-ok : goal.returns-in-Some-clause-ok
returns-in-Some-clause-ok c =
    let place = c.in-Some.place in
    let inside = c.self.inside in
    let found = rw (c.deref.ensures.value, c.deref-2.ensures.value, c.as_bytes.ensures.value) at c.in-Some.ensures.found in
    let filled : total_size inside.extents.items ≤ length inside.storage.items = omega (arith, c.self.invariant.filled) in
    let files = parts-cut inside.extents.items inside.storage.items c.cut.new.storage.items c.args.name.now place.extent record {
      name = place.extent.name;
      bytes = 0;
    } place.index place.start refl refl c.cut.ensures.items filled found in
    ap (λ (fs : List NamedFile). let t : Store = record { files = fs; room = inside.room; names = inside.names } in t) files
    ∙ ap (λ (v : Store). with_bytes v c.args.name.now []) c.self.view_is
