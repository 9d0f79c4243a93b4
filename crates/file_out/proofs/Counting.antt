-- The number of records, put into a header that left it open.
use Rattle.std.proofs.Common.{◌≡◌, ℕ, List, Option, Some, None, refl}
use Rattle.edge_traits.specs.Files.{Files, HasRange, Stands}
use Rattle.edge_traits.specs.FileLaws.{Stands-with_patch, Stands-HasRange}
use Rattle.cdf_write.specs.Spelling.{word}
use Rattle.file_out.specs.Streams.{count_place, with_count, MayCount}

pub Stands-with_count : (t : Option Files) (name : List ℕ) (numrecs : Option ℕ) (count : ℕ) → HasRange t name count_place 4
    → Stands (with_count t name numrecs count) name
Stands-with_count t name None count h = Stands-with_patch t name count_place (word count)
Stands-with_count t name (Some n) count h = Stands-HasRange t name count_place 4 h

-- where the whole number was put in
pub MayCount-whole : (t u : Option Files) (name : List ℕ) (numrecs : Option ℕ) (count : ℕ) → u ≡ with_count t name numrecs count
    → MayCount t name numrecs count u
MayCount-whole t u name None count e = (word count, refl, e)
MayCount-whole t u name (Some n) count e = e
