use Rattle.std.proofs.Common.{rules, ◌≡◌, length, take, drop, Some, ap, ◌∙◌, arith}
use Rattle.edge_traits.specs.Memory.{find_file}
use Rattle.edge_traits.specs.MemoryLaws.{get-files_of}
use Rattle.edge_traits.proofs.Libraries.{only_file}
use Rattle.edge_traits.proofs.memory.library.SureLibraryLibrary.read_at.Goals as goal

pub returns-in-Some-clause-known : goal.returns-in-Some-clause-known
returns-in-Some-clause-known c =
    let fs = c.args.self.now.files in
    let there : find_file fs c.args.name.now ≡ Some c.in-Some.file.now = search rules in
    (c.in-Some.file.now, get-files_of fs c.args.name.now ∙ there)

pub returns-in-Some-clause-bytes : goal.returns-in-Some-clause-bytes
returns-in-Some-clause-bytes c =
    let fs = c.args.self.now.files in
    let there : find_file fs c.args.name.now ≡ Some c.in-Some.file.now = search rules in
    λ file told. c.read_part.ensures.front
    ∙ ap (λ t. take c.read_part.result (drop c.args.off t)) (only_file fs c.args.name.now c.in-Some.file.now file there told)

pub returns-in-Some-clause-end : goal.returns-in-Some-clause-end
returns-in-Some-clause-end c =
    let fs = c.args.self.now.files in
    let there : find_file fs c.args.name.now ≡ Some c.in-Some.file.now = search rules in
    λ file told none some.
    (let len : length c.in-Some.file.now ≡ length file = ap length (only_file fs c.args.name.now c.in-Some.file.now file there told) in
    omega (arith, c.read_part.ensures.count, c.read_part.auto.buf))
