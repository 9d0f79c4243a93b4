-- LAWS of what goes out of a node, of each kind.
use Rattle.std.specs.Prelude.{◌≡◌, ◌≢◌, ℕ, ◌+◌, ◌≤◌, true, false, List, [], ◌∷◌, ◌++◌, map}
use Rattle.nd_base.specs.declared.frame.FrameName.{FrameName}
use Rattle.trig_window.specs.Windows.{passed_items}
use Rattle.flow_journal.specs.declared.entry.Entry.TheVariants.{Issue, SortDrop}
use Rattle.flow_journal.specs.Setting.{Setting, Watches, node, may_sort, is_sorted}
use Rattle.flow_journal.specs.Pasts.{Past, frame, comes_at}
use Rattle.flow_journal.specs.Puts.{puts, firings}
use Rattle.flow_journal.specs.QueueCounts.{times}
use Rattle.flow_journal.specs.Waiting.{Waiting, waiting}
use Rattle.flow_journal.specs.Unsaved.{is_file}
use Rattle.flow_journal.specs.Accepted.{emitted}
use Rattle.flow_journal.specs.Histories.{is_legal, is_history}

-- the results that found the sort list of the node full, in order
abbrev pub sort_dropped : ℕ → Past → List FrameName
sort_dropped v [] = []
sort_dropped v (SortDrop w m k ∷ P) = comes_at v w (frame m k) (sort_dropped v P)
sort_dropped v (e ∷ P) = sort_dropped v P

-- the frames that were issued, in order
abbrev pub issued : Past → List FrameName
issued [] = []
issued (Issue r k ∷ P) = issued P ++ frame 0 k ∷ []
issued (e ∷ P) = issued P

pub record OutputLaws : Type 0 where
  -- a circular node emits the arrays of its puts that have a position in a window, in order
  pub circular : (s : Setting) (v pre post preset : ℕ) (P : Past) → (node s v).work ≡ Watches pre post preset → 1 ≤ post → is_history s P ≡ true
      → emitted v P ≡ passed_items pre post preset (firings v P) (puts v P)
  -- a region, statistics or scatter node without a sort list emits what is put there, in order
  pub unsorted : (s : Setting) (v : ℕ) (P : Past) → v ≢ 0 → may_sort (node s v).work ≡ true → is_sorted s v ≡ false
      → is_history s P ≡ true → emitted v P ≡ puts v P
  -- with a sort list each array that was put there went out, was dropped or waits
  pub sorted : (s : Setting) (v : ℕ) (a : FrameName) (P : Past) → v ≢ 0 → is_sorted s v ≡ true → is_legal s P ≡ true
      → times a (puts v P) ≡ times a (emitted v P) + times a (sort_dropped v P) + times a (map (λ (w : Waiting). w.array) (waiting s v P))
  -- a file node emits nothing
  pub file : (s : Setting) (v : ℕ) (P : Past) → is_file (node s v).work ≡ true → is_legal s P ≡ true → emitted v P ≡ []
  -- and the driver emits what is issued, in order
  pub driver : (s : Setting) (P : Past) → is_history s P ≡ true → emitted 0 P ≡ issued P
