use Rattle.std.proofs.Common.{◌≡◌, ℕ, ◌+◌, ◌≤◌, nat_le, List, [], ◌++◌, length, Option, refl, sym, ap, ◌∙◌, arith, unwrap_or}
use Rattle.edge_traits.specs.Arena.{parts, total_size}
use Rattle.edge_traits.specs.Memory.{NamedFile, Store, set_file, bytes_of, with_bytes, takes_bytes}
use Rattle.edge_traits.proofs.Arenas.{find_file-place, parts-put_in, IsReserved-put_in, bytes_used-parts, bytes_taken, bytes_refused}
use Rattle.edge_traits.proofs.memory.arena.Arena.append.Goals as goal

pub returns-then-bytes-self-clause-fits : goal.returns-then-bytes-self-clause-fits
returns-then-bytes-self-clause-fits c =
    let inside = c.self.inside in
    let es = inside.extents.items in
    let a = inside.storage.items in
    let kept = c.self.invariant in
    let used : c.len.result ≡ length a = c.len.ensures ∙ inside.storage.ok.0 in
    sym (ap (λ (v : Store). takes_bytes v (length c.args.bytes.now)) (sym c.self.view_is)
    ∙ ap (λ k. nat_le (k + length c.args.bytes.now) inside.room) (bytes_used-parts es a kept.filled)
    ∙ bytes_refused (length a) (length c.args.bytes.now) inside.room kept.room_kept (omega (arith, used)))

pub invariant_of-self : goal.invariant_of-self
invariant_of-self c =
    let place = c.in-Some.place in
    let inside = c.self.inside in
    let a = inside.storage.items in
    let bytes = c.args.bytes.now in
    let found = rw (c.deref.ensures.value, c.deref-2.ensures.value, c.as_bytes.ensures.value) at c.in-Some.ensures.found in
    let used : c.len.result ≡ length a = c.len.ensures ∙ inside.storage.ok.0 in
    let fits : length a + length bytes ≤ inside.room = omega (arith, used, c.self.invariant.room_kept) in
    IsReserved-put_in inside.extents.items a c.put_in.new.storage.items c.args.name.now place.extent record {
      name = place.extent.name;
      bytes = place.extent.bytes + length bytes;
    } place.index place.start _ _ _ _ _ bytes refl refl c.put_in.ensures.items fits c.self.invariant found c.put_in.ensures.capacity

pub returns-clause-fits : goal.returns-clause-fits
returns-clause-fits c =
    let inside = c.self.inside in
    let es = inside.extents.items in
    let a = inside.storage.items in
    let kept = c.self.invariant in
    let used : c.len.result ≡ length a = c.len.ensures ∙ inside.storage.ok.0 in
    sym (ap (λ (v : Store). takes_bytes v (length c.args.bytes.now)) (sym c.self.view_is)
    ∙ ap (λ k. nat_le (k + length c.args.bytes.now) inside.room) (bytes_used-parts es a kept.filled)
    ∙ bytes_taken (length a) (length c.args.bytes.now) inside.room kept.room_kept (omega (arith, used)))

pub returns-clause-ok : goal.returns-clause-ok
returns-clause-ok c =
    let place = c.in-Some.place in
    let inside = c.self.inside in
    let es = inside.extents.items in
    let a = inside.storage.items in
    let n = c.args.name.now in
    let bytes = c.args.bytes.now in
    let found = rw (c.deref.ensures.value, c.deref-2.ensures.value, c.as_bytes.ensures.value) at c.in-Some.ensures.found in
    let filled : total_size es ≤ length a = omega (arith, c.self.invariant.filled) in
    let files = parts-put_in es a c.put_in.new.storage.items n place.extent record {
      name = place.extent.name;
      bytes = place.extent.bytes + length bytes;
    } place.index place.start bytes refl refl c.put_in.ensures.items filled found in
    let had = find_file-place es a n place.extent place.index place.start found in
    ap (λ (fs : List NamedFile). let t : Store = record { files = fs; room = inside.room; names = inside.names } in t)
    (files ∙ ap (λ (o : Option (List ℕ)). set_file (parts es a) n (unwrap_or o [] ++ bytes)) (sym had))
    ∙ ap (λ (v : Store). with_bytes v n (bytes_of v n ++ bytes)) c.self.view_is
