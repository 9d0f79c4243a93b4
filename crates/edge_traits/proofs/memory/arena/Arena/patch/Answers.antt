use Rattle.std.proofs.Common.{◌≡◌, ℕ, ◌+◌, ◌≤◌, List, [], length, Option, sym, ap, ◌∙◌, arith, unwrap_or}
use Rattle.edge_traits.specs.Files.{overwritten}
use Rattle.edge_traits.specs.Arena.{parts, total_size}
use Rattle.edge_traits.specs.Memory.{NamedFile, Store, set_file, bytes_of, with_bytes}
use Rattle.edge_traits.specs.FileLaws.{length-overwritten}
use Rattle.edge_traits.proofs.Arenas.{content, find_file-place, place_ends, parts-patch, patch_inside, IsReserved-same}
use Rattle.edge_traits.proofs.memory.arena.Arena.patch.Goals as goal

pub overflow_add-start-2 : goal.overflow_add-start-2
overflow_add-start-2 c =
    let place = c.in-Some.place in
    let inside = c.self.inside in
    let es = inside.extents.items in
    let a = inside.storage.items in
    let n = c.args.name.now in
    let found = rw (c.deref.ensures.value, c.deref-2.ensures.value, c.as_bytes.ensures.value) at c.in-Some.ensures.found in
    let filled : total_size es ≤ length a = omega (arith, c.self.invariant.filled) in
    let had = find_file-place es a n place.extent place.index place.start found in
    let part : bytes_of c.args.self.now n ≡ content a place.extent place.start =
    ap (λ (v : Store). bytes_of v n) (sym c.self.view_is) ∙ ap (λ (o : Option (List ℕ)). unwrap_or o []) had in
    let inside_part : c.args.off + length c.args.bytes.now ≤ place.extent.bytes =
    patch_inside es a n place.extent place.index place.start _ filled found (ap length part) c.requires.inside in
    let ends = place_ends es a n place.extent place.index place.start found in
    search (arith, c.in-Some.ensures.ends, c.deref-2.type_inv.0, c.deref-2.ensures.len)

pub write_over-requires : goal.write_over-requires
write_over-requires c =
    let place = c.in-Some.place in
    let inside = c.self.inside in
    let es = inside.extents.items in
    let a = inside.storage.items in
    let n = c.args.name.now in
    let found = rw (c.deref.ensures.value, c.deref-2.ensures.value, c.as_bytes.ensures.value) at c.in-Some.ensures.found in
    let filled : total_size es ≤ length a = omega (arith, c.self.invariant.filled) in
    let had = find_file-place es a n place.extent place.index place.start found in
    let part : bytes_of c.args.self.now n ≡ content a place.extent place.start =
    ap (λ (v : Store). bytes_of v n) (sym c.self.view_is) ∙ ap (λ (o : Option (List ℕ)). unwrap_or o []) had in
    let inside_part : c.args.off + length c.args.bytes.now ≤ place.extent.bytes =
    patch_inside es a n place.extent place.index place.start _ filled found (ap length part) c.requires.inside in
    omega (arith, c.in-Some.ensures.ends, c.deref-2.ensures.len)

pub invariant_of-self : goal.invariant_of-self
invariant_of-self c =
    let place = c.in-Some.place in
    let inside = c.self.inside in
    let es = inside.extents.items in
    let a = inside.storage.items in
    let n = c.args.name.now in
    let found = rw (c.deref.ensures.value, c.deref-2.ensures.value, c.as_bytes.ensures.value) at c.in-Some.ensures.found in
    let filled : total_size es ≤ length a = omega (arith, c.self.invariant.filled) in
    let had = find_file-place es a n place.extent place.index place.start found in
    let part : bytes_of c.args.self.now n ≡ content a place.extent place.start =
    ap (λ (v : Store). bytes_of v n) (sym c.self.view_is) ∙ ap (λ (o : Option (List ℕ)). unwrap_or o []) had in
    let inside_part : c.args.off + length c.args.bytes.now ≤ place.extent.bytes =
    patch_inside es a n place.extent place.index place.start _ filled found (ap length part) c.requires.inside in
    let len : length c.write_over.new.storage.items ≡ length a = ap length c.write_over.ensures.items
    ∙ length-overwritten a (place.start + place.extent.name + c.args.off) c.args.bytes.now
    (omega (arith, place_ends es a n place.extent place.index place.start found)) in
    IsReserved-same es a c.write_over.new.storage.items _ _ _ _ _ len c.self.invariant c.write_over.ensures.capacity

pub returns : goal.returns
returns c =
    let place = c.in-Some.place in
    let inside = c.self.inside in
    let es = inside.extents.items in
    let a = inside.storage.items in
    let n = c.args.name.now in
    let found = rw (c.deref.ensures.value, c.deref-2.ensures.value, c.as_bytes.ensures.value) at c.in-Some.ensures.found in
    let filled : total_size es ≤ length a = omega (arith, c.self.invariant.filled) in
    let had = find_file-place es a n place.extent place.index place.start found in
    let part : bytes_of c.args.self.now n ≡ content a place.extent place.start =
    ap (λ (v : Store). bytes_of v n) (sym c.self.view_is) ∙ ap (λ (o : Option (List ℕ)). unwrap_or o []) had in
    let inside_part : c.args.off + length c.args.bytes.now ≤ place.extent.bytes =
    patch_inside es a n place.extent place.index place.start _ filled found (ap length part) c.requires.inside in
    let files = ap (parts es) c.write_over.ensures.items
    ∙ parts-patch es a n place.extent place.index place.start c.args.off c.args.bytes.now inside_part filled found in
    ap (λ (fs : List NamedFile). let t : Store = record { files = fs; room = inside.room; names = inside.names } in t)
    (files ∙ ap (λ (o : Option (List ℕ)). set_file (parts es a) n (overwritten (unwrap_or o []) c.args.off c.args.bytes.now)) (sym had))
    ∙ ap (λ (v : Store). with_bytes v n (overwritten (bytes_of v n) c.args.off c.args.bytes.now)) c.self.view_is
