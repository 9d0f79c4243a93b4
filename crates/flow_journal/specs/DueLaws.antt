-- LAWS of the next piece of a file node: which array it is, in which group and at which place, and when it is due.
use Rattle.std.specs.Prelude.{◌≡◌, ℕ, ◌+◌, ◌*◌, ◌/◌, ◌%◌, ◌<◌, ◌⊎◌, ◌↔◌, Bool, true, false, List, length, take, drop, slice_get, Some}
use Rattle.nd_base.specs.declared.frame.FrameName.{FrameName}
use Rattle.flow_journal.specs.declared.entry.Entry.TheVariants.{Save}
use Rattle.flow_journal.specs.Setting.{Setting, Saves, node}
use Rattle.flow_journal.specs.Pasts.{Past}
use Rattle.flow_journal.specs.Ended.{is_settled}
use Rattle.flow_journal.specs.Puts.{puts}
use Rattle.flow_journal.specs.Unsaved.{standing_saves, unsaved, is_file, is_due}
use Rattle.flow_journal.specs.FirstEntries.{first}
use Rattle.flow_journal.specs.Histories.{is_legal}
use Rattle.flow_journal.specs.RowFacts.{IsFirstOf}

-- the number of standing saves of a node
abbrev pub saved_count : ℕ → Past → ℕ
saved_count v P = length (standing_saves v P)

-- the arrays of group g of these, where a group takes so many
abbrev pub group_at : (count g : ℕ) → List FrameName → List FrameName
group_at count g xs = take count (drop (g * count) xs)

-- where the next piece stands: at this place of the group of this number
pub record IsPlacedPiece (count g place : ℕ) (a : FrameName) (xs : List FrameName) : Type 0 where
  pub within : place < count
  pub is : slice_get (group_at count g xs) place ≡ Some a

-- The groups are the puts of the node, cut after each count of them, and the next piece is the first put that isn't saved.
pub record DueLaws : Type 0 where
  -- of the puts of a file node, in their order, the first so many are saved, and the others are unsaved
  pub saved : (s : Setting) (v : ℕ) (P : Past) → is_legal s P ≡ true → is_file (node s v).work ≡ true → standing_saves v P ≡ take (saved_count v P) (puts v P)
  pub rest : (s : Setting) (v : ℕ) (P : Past) → is_legal s P ≡ true → is_file (node s v).work ≡ true → unsaved s v P ≡ drop (saved_count v P) (puts v P)
  pub counts : (s : Setting) (v : ℕ) (P : Past) → is_legal s P ≡ true → is_file (node s v).work ≡ true
      → length (puts v P) ≡ saved_count v P + length (unsaved s v P)
  -- so the next piece is the put of that number
  pub next : (s : Setting) (v : ℕ) (a : FrameName) (P : Past) → is_legal s P ≡ true → is_file (node s v).work ≡ true
      → IsFirstOf a (unsaved s v P) ↔ (slice_get (puts v P) (saved_count v P) ≡ Some a)
  -- its group is the number of saves divided by count, and its place there is the remainder
  pub placed : (s : Setting) (v : ℕ) (whole : Bool) (count : ℕ) (a : FrameName) (P : Past) → (node s v).work ≡ Saves whole count → 0 < count
      → is_legal s P ≡ true → IsFirstOf a (unsaved s v P) → IsPlacedPiece count (saved_count v P / count) (saved_count v P % count) a (puts v P)
  -- it is due at once, or with whole groups where its group has count arrays or the node has ended
  pub due : (s : Setting) (v : ℕ) (whole : Bool) (count : ℕ) (P : Past) → (node s v).work ≡ Saves whole count
      → (is_due (node s v).work v P ≡ true) ↔
      ((whole ≡ false) ⊎ (is_settled v P ≡ true) ⊎ (length (group_at count (saved_count v P / count) (puts v P)) ≡ count))
  -- and a save names this group
  pub group : (s : Setting) (r v m k g : ℕ) (whole : Bool) (count : ℕ) (P : Past) → (node s v).work ≡ Saves whole count
      → first s P (Save r v m k g) ≡ true → g ≡ saved_count v P / count
