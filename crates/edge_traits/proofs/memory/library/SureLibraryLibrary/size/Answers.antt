use Rattle.std.proofs.Common.{rules, ◌≡◌, length, Some, ap, ◌∙◌}
use Rattle.edge_traits.specs.Memory.{find_file}
use Rattle.edge_traits.specs.MemoryLaws.{get-files_of}
use Rattle.edge_traits.proofs.Libraries.{only_file}
use Rattle.edge_traits.proofs.memory.library.SureLibraryLibrary.size.Goals as goal

pub returns-in-Some-clause-known : goal.returns-in-Some-clause-known
returns-in-Some-clause-known c =
    let fs = c.args.self.now.files in
    let there : find_file fs c.args.name.now ≡ Some c.in-Some.file.now = search rules in
    (c.in-Some.file.now, get-files_of fs c.args.name.now ∙ there)

pub returns-in-Some-clause-size : goal.returns-in-Some-clause-size
returns-in-Some-clause-size c =
    let fs = c.args.self.now.files in
    let there : find_file fs c.args.name.now ≡ Some c.in-Some.file.now = search rules in
    λ file told. ap length (only_file fs c.args.name.now c.in-Some.file.now file there told)
