-- What waits at a node is what a sort list holds.
use Rattle.std.proofs.Common.{◌∷◌, map, refl, sym, ap, ◌∙◌}
use Rattle.queue_sort.specs.Sorting as sorting
use Rattle.queue_sort.proofs.ById.{map-placed}
use Rattle.flow_journal.specs.Waiting.{id_of, least_first}
use Rattle.flow_journal.specs.SortListLaws.{as_listed, SortListLaws}
use Rattle.flow_journal.proofs.Leasts.{least_laws}

pub sort_list_laws : SortListLaws
sort_list_laws = record {
  comes = λ s ws w. ap (map (as_listed s)) (least_laws.comes s ws w) ∙ map-placed (as_listed s) (id_of s) sorting.id_of (λ v. refl) w (least_first s ws);
  goes = λ s ws w rest is. ap (map (as_listed s)) is ∙ ap (λ xs. as_listed s w ∷ map (as_listed s) xs) (sym (least_laws.left s ws w rest is));
  late = λ s w now sort_time. refl;
}
