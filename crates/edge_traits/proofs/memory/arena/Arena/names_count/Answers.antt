use Rattle.std.proofs.Common.{length, sym, ap, ◌∙◌, arith}
use Rattle.edge_traits.specs.Memory.{Store}
use Rattle.edge_traits.proofs.Arenas.{length-parts}
use Rattle.edge_traits.proofs.memory.arena.Arena.names_count.Goals as goal

pub overflow_cast-result : goal.overflow_cast-result
overflow_cast-result c = let len = c.self.inside.extents.ok.0 in let kept = c.self.invariant.names_kept in let fit = c.self.invariant.names_fit in
    search (arith, c.len.ensures)

pub returns : goal.returns
returns c =
    c.len.ensures ∙ c.self.inside.extents.ok.0 ∙ sym (length-parts c.self.inside.extents.items c.self.inside.storage.items)
    ∙ ap (λ (v : Store). length v.files) c.self.view_is
