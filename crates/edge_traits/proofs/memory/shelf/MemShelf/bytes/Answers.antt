use Rattle.std.proofs.Common.{sym, ap, ◌∙◌}
use Rattle.edge_traits.specs.Memory.{MemStore, find_file}
use Rattle.edge_traits.specs.MemoryLaws.{get-files_of}
use Rattle.edge_traits.proofs.memory.shelf.MemShelf.bytes.Goals as goal

pub returns-clause-held : goal.returns-clause-held
returns-clause-held c =
    c.bytes.ensures ∙ ap (λ (s : MemStore). find_file s.store.files c.args.name.now) c.self.view_is
    ∙ sym (get-files_of c.args.self.now.store.files c.args.name.now)
