use Rattle.std.proofs.Common.{◌≡◌, ◌-◌, ◌<◌, ◌≤◌, ◌⊎◌, List, [], ◌∷◌, ◌++◌, length, None, refl, sym, ap, ◌∙◌, inl, inr, arith}
use Rattle.edge_traits.specs.declared.memory.arena.Extent.{Extent}
use Rattle.edge_traits.specs.Arena.{parts}
use Rattle.edge_traits.specs.Memory.{NamedFile, Store, find_file, set_file, with_bytes, takes_name}
use Rattle.edge_traits.proofs.Arenas.{takes_name-new, name_refused, name_taken, parts-push, set_file-new}
use Rattle.edge_traits.proofs.memory.arena.Arena.add_name.Goals as goal
use Rattle.edge_traits.proofs.memory.arena.Arena.add_name.Goals.{then-name-room-via-then-name-room, then-name-room-via-else-name-room+then-len-self}

pub returns-then-name-room-clause-fits : goal.returns-then-name-room-clause-fits
returns-then-name-room-clause-fits c =
    let inside = c.self.inside in
    let es = inside.extents.items in
    let a = inside.storage.items in
    let n = c.args.name.now in
    let kept = c.self.invariant in
    let new : find_file (parts es a) n ≡ None = ap (λ (v : Store). find_file v.files n) c.self.view_is ∙ c.requires in
    let used : c.len.result ≡ length a = c.len.ensures ∙ inside.storage.ok.0 in
    let beyond : (inside.room - length a < length n) ⊎ (inside.names ≤ length es) =
    elim c.then-name-room.branch [
      | then-name-room-via-then-name-room w ↦ inl (omega (arith, used))
      | then-name-room-via-else-name-room+then-len-self w ↦ inr (omega (arith, w.len-else-name-room.ensures, inside.extents.ok.0))
    ] in
    sym (ap (λ (v : Store). takes_name v n) (sym c.self.view_is) ∙ takes_name-new es a n inside.room inside.names kept.filled new
    ∙ name_refused (length a) (length n) inside.room (length es) inside.names kept.room_kept beyond)

pub returns-clause-fits : goal.returns-clause-fits
returns-clause-fits c =
    let inside = c.self.inside in
    let es = inside.extents.items in
    let a = inside.storage.items in
    let n = c.args.name.now in
    let kept = c.self.invariant in
    let new : find_file (parts es a) n ≡ None = ap (λ (v : Store). find_file v.files n) c.self.view_is ∙ c.requires in
    let used : c.len.result ≡ length a = c.len.ensures ∙ inside.storage.ok.0 in
    let held : c.len-else-name-room.result ≡ length es = c.len-else-name-room.ensures ∙ inside.extents.ok.0 in
    let left : length n ≤ inside.room - length a = omega (arith, used) in
    let few : length es < inside.names = omega (arith, held) in
    sym (ap (λ (v : Store). takes_name v n) (sym c.self.view_is) ∙ takes_name-new es a n inside.room inside.names kept.filled new
    ∙ name_taken (length a) (length n) inside.room (length es) inside.names kept.room_kept left few)

pub returns-clause-ok : goal.returns-clause-ok
returns-clause-ok c =
    let inside = c.self.inside in
    let es = inside.extents.items in
    let a = inside.storage.items in
    let n = c.args.name.now in
    let x : Extent = record { name = length n; bytes = 0 } in
    let new : find_file (parts es a) n ≡ None = ap (λ (v : Store). find_file v.files n) c.self.view_is ∙ c.requires in
    let storage = c.add_bytes.ensures.items ∙ ap (λ t. a ++ t) c.as_bytes.ensures.value in
    let files : parts c.push_reserved.new.self.items c.add_bytes.new.storage.items ≡ set_file (parts es a) n [] =
    ap (λ (xs : List Extent). parts xs c.add_bytes.new.storage.items) c.push_reserved.ensures.items ∙ ap (parts (es ++ x ∷ [])) storage
    ∙ parts-push es a n x refl refl c.self.invariant.filled ∙ sym (set_file-new (parts es a) n [] new) in
    ap (λ (fs : List NamedFile). let t : Store = record { files = fs; room = inside.room; names = inside.names } in t) files
    ∙ ap (λ (v : Store). with_bytes v n []) c.self.view_is
