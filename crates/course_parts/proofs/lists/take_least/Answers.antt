use Rattle.std.proofs.Common.{◌≡◌, ◌∷◌, ◌∙◌, List, [], Some, refl, sym, ap, option_map}
use Rattle.std.specs.Prelude.{slice_get}
use Rattle.queue_sort.specs.declared.sort_lists.Waiting.{Waiting}
use Rattle.course_parts.specs.declared.node.Kept.{Kept}
use Rattle.course_parts.proofs.lists.take_least.Goals as goal

least-of : (ws : List (Waiting Kept)) (k : Kept) → option_map (λ (w : Waiting Kept). w.item) (slice_get ws 0) ≡ Some k
    → (w : Waiting Kept) × (rest : List (Waiting Kept)) × (ws ≡ w ∷ rest) × (w.item ≡ k)
least-of [] k h = absurd (cc)
least-of (w ∷ ws) k h = (w, ws, refl, cc)

pub keep_measure-requires : goal.keep_measure-requires
keep_measure-requires c =
    let f = least-of c.args.node.now.list.waiting c.in_ok-name.field-0 (sym c.flush_next.ensures.answer ∙ c.in_ok-name.was) in
    λ m is. c.requires f.0 f.1 m f.2 (ap (λ (k : Kept). k.measured) f.3 ∙ is)
