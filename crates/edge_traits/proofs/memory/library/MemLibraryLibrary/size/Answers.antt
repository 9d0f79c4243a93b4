use Rattle.std.proofs.Common.{rules, ◌≡◌, ℕ, ◌&&◌, List, length, not, is_ok, is_some, IfOk, Some}
use Rattle.edge_traits.specs.Memory.{find_file, is_listed}
use Rattle.edge_traits.proofs.Libraries.{Stands-found, told_as_found}
use Rattle.edge_traits.proofs.memory.library.MemLibraryLibrary.size.Goals as goal

pub returns-clause-known : goal.returns-clause-known
returns-clause-known c =
    let fs = c.args.self.now.files in
    let exact : is_ok c.count.result ≡ (not (is_listed c.args.self.now.calls) && is_some (find_file fs c.args.name.now)) = search rules in
    Stands-found fs c.args.name.now c.count.result (not (is_listed c.args.self.now.calls)) exact

pub returns-clause-size : goal.returns-clause-size
returns-clause-size c =
    let fs = c.args.self.now.files in
    let found : IfOk c.count.result (λ k. (file : List ℕ) → find_file fs c.args.name.now ≡ Some file → k ≡ length file) = search rules in
    told_as_found fs c.args.name.now c.count.result (λ k file. k ≡ length file) found
