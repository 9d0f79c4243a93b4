use Rattle.std.proofs.Common.{rules, ◌≡◌, ℕ, ◌<◌, ◌≤◌, ◌&&◌, List, length, take, drop, not, is_ok, is_some, IfOk, Some}
use Rattle.edge_traits.specs.Memory.{find_file, is_listed}
use Rattle.edge_traits.proofs.Libraries.{Stands-found, told_as_found}
use Rattle.edge_traits.proofs.memory.library.MemLibraryLibrary.read_at.Goals as goal

pub returns-clause-known : goal.returns-clause-known
returns-clause-known c =
    let fs = c.args.self.now.files in
    let exact : is_ok c.count.result ≡ (not (is_listed c.args.self.now.calls) && is_some (find_file fs c.args.name.now)) = search rules in
    Stands-found fs c.args.name.now c.count.result (not (is_listed c.args.self.now.calls)) exact

pub returns-clause-bytes : goal.returns-clause-bytes
returns-clause-bytes c =
    let fs = c.args.self.now.files in
    let found : IfOk c.count.result (λ k. (file : List ℕ) → find_file fs c.args.name.now ≡ Some file
    → take k c.match-found.buf ≡ take k (drop c.args.off file)) = search rules in
    told_as_found fs c.args.name.now c.count.result (λ k file. take k c.match-found.buf ≡ take k (drop c.args.off file)) found

pub returns-clause-end : goal.returns-clause-end
returns-clause-end c =
    let fs = c.args.self.now.files in
    let found : IfOk c.count.result (λ k. (file : List ℕ) → find_file fs c.args.name.now ≡ Some file → k ≡ 0 → 0 < length c.match-found.buf
    → length file ≤ c.args.off) = search rules in
    told_as_found fs c.args.name.now c.count.result (λ k file. k ≡ 0 → 0 < length c.match-found.buf → length file ≤ c.args.off) found
