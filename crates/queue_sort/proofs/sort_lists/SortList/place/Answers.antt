-- The insert is at the place of the id.
use Rattle.std.proofs.Common.{◌≡◌, sym, ap, FitsSigned, w64, rules}
use Rattle.std.proofs.lemmas.Int.{to_z-of_z}
use Rattle.queue_sort.specs.Sorting.{id_of, placed}
use Rattle.queue_sort.proofs.ById.{AreById-placed}
use Rattle.queue_sort.proofs.Order.{inserted}
use Rattle.queue_sort.proofs.sort_lists.SortList.place.Goals as goal

pub invariant_of-self : goal.invariant_of-self
invariant_of-self g c =
    let fits : FitsSigned w64 c.args.one.id = search rules in
    let items : c.insert.new.self.items ≡ placed c.args.one c.self.inside.waiting.items =
    inserted _ c.args.self.now _ _ _ (sym (ap (λ s. s.waiting) c.self.view_is)) (rw to_z-of_z at c.place_of-place.ensures) c.in-Ok.ensures.items in
    (record { by_id = rw items (AreById-placed id_of _ _ c.self.invariant.0.by_id); within = search rules }, search rules)

pub returns-clause-after : goal.returns-clause-after
returns-clause-after g c =
    let fits : FitsSigned w64 c.args.one.id = search rules in
    let items : c.insert.new.self.items ≡ placed c.args.one c.self.inside.waiting.items =
    inserted _ c.args.self.now _ _ _ (sym (ap (λ s. s.waiting) c.self.view_is)) (rw to_z-of_z at c.place_of-place.ensures) c.in-Ok.ensures.items in
    rw (items, ← c.self.view_is)

pub returns-clause-in_order : goal.returns-clause-in_order
returns-clause-in_order g c = (invariant_of-self g c).0
