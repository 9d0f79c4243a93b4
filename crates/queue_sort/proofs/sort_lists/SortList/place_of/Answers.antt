-- A binary search among what waits finds the place.
use Rattle.std.proofs.Common.{◌≤◌, length, int_le, rules}
use Rattle.std.proofs.lemmas.List.Sorted.{IsPartitionPoint-from_clause}
use Rattle.queue_sort.proofs.Order.{IsPartitionedBy-id, IsPlaceOf-from_point}
use Rattle.queue_sort.proofs.sort_lists.SortList.place_of.Goals as goal

pub returns : goal.returns
returns g c =
    let found = c.partition_point.ensures in
    let point = IsPartitionPoint-from_clause (λ v. int_le v.id c.args.id) c.self.inside.waiting.items _ found.partitioned
    (IsPartitionedBy-id c.args.id _ c.self.invariant.0.by_id) (λ a r f called. search rules) in
    let within : c.partition_point.result ≤ length c.self.inside.waiting.items = search rules in
    rw (← c.self.view_is) (IsPlaceOf-from_point c.args.id _ _ within point)
