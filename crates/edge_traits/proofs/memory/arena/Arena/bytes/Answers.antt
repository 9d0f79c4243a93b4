use Rattle.std.proofs.Common.{◌≡◌, ℕ, ◌+◌, ◌-◌, take, drop, Some, sym, ap, ◌∙◌, arith}
use Rattle.edge_traits.specs.Memory.{Store, find_file}
use Rattle.edge_traits.proofs.Arenas.{find_file-place}
use Rattle.edge_traits.proofs.memory.arena.Arena.bytes.Goals as goal

pub returns : goal.returns
returns c =
    let place = c.in_ok-place.place in
    let inside = c.self.inside in
    let found = rw (c.deref.ensures.value, c.deref-2.ensures.value, c.as_bytes.ensures.value) at c.in_ok-place.ensures.found in
    let start : ℕ = place.start + place.extent.name in
    let count : start + place.extent.bytes - start ≡ place.extent.bytes = omega arith in
    ap (λ t. Some (take (start + place.extent.bytes - start) (drop start t))) c.deref-3.ensures.value
    ∙ ap (λ k. Some (take k (drop start inside.storage.items))) count
    ∙ sym (find_file-place inside.extents.items inside.storage.items c.args.name.now place.extent place.index place.start found)
    ∙ ap (λ (v : Store). find_file v.files c.args.name.now) c.self.view_is
