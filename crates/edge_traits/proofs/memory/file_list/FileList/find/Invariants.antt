use Rattle.std.proofs.Common.{◌≡◌, map, drop, string_bytes}
use Rattle.edge_traits.specs.Memory.{find_file}
use Rattle.edge_traits.proofs.memory.file_list.FileList.find.Given as goal

abbrev pub invariant-loop-held : goal.invariant-loop-held
invariant-loop-held l = find_file l.self l.name ≡ find_file (map (λ f. (string_bytes f.0, f.1.items)) (drop l.held-index l.held-items)) l.name
