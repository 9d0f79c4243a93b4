-- LAWS of a put at a circular node: what its ring is afterwards, and that a `Window` of trig_window which is pushed at each put has this ring.
use Rattle.std.specs.Prelude.{◌≡◌, ℕ, ◌-◌, Bool, true, false, List, [], ◌∷◌, ◌++◌, length, drop, map, if◌then◌else◌}
use Rattle.nd_base.specs.declared.frame.FrameName.{FrameName}
use Rattle.trig_window.specs.Windows.{is_trigger, is_passed, is_complete, kept}
use Rattle.trig_window.specs.Watch.{Watch, new_watch}
use Rattle.trig_window.specs.Watching.{IsAfter, Pushes, SameRule}
use Rattle.trig_window.specs.declared.window.Passed.{Passed}
use Rattle.flow_journal.specs.declared.entry.Entry.TheVariants.{Put}
use Rattle.flow_journal.specs.declared.entry.Why.TheVariants.{Ring, Now}
use Rattle.flow_journal.specs.Setting.{Setting, Watches, node}
use Rattle.flow_journal.specs.Pasts.{Past, frame}
use Rattle.flow_journal.specs.Ended.{is_settled}
use Rattle.flow_journal.specs.Puts.{puts, firings}
use Rattle.flow_journal.specs.Rings.{ring}
use Rattle.flow_journal.specs.FirstEntries.{first}
use Rattle.flow_journal.specs.Following.{emit, calls_for}
use Rattle.flow_journal.specs.Histories.{is_legal}

-- the last n of these
abbrev pub last_of : {X : Type 0} → ℕ → List X → List X
last_of n xs = drop (length xs - n) xs

-- r puts (m, k) at the circular node v, which has this rule
pub record IsWatchedPut (s : Setting) (r v m k : ℕ) (f : Bool) (pre post preset : ℕ) (P : Past) : Type 0 where
  pub rule : (node s v).work ≡ Watches pre post preset
  pub legal : is_legal s P ≡ true
  pub row : first s P (Put r v m k f) ≡ true

-- Nothing is in the ring after a put in a window, or once all counted triggers have come. Else the array joins the ring, of which the last
-- `pre` stay.
pub record RingPushLaws : Type 0 where
  pub passed : (s : Setting) (r v m k : ℕ) (f : Bool) (pre post preset : ℕ) (P : Past) → IsWatchedPut s r v m k f pre post preset P
      → is_passed pre post preset (firings v P ++ f ∷ []) (length (firings v P)) ≡ true → ring s v (Put r v m k f ∷ P) ≡ []
  pub complete : (s : Setting) (r v m k : ℕ) (f : Bool) (pre post preset : ℕ) (P : Past) → IsWatchedPut s r v m k f pre post preset P
      → is_complete post preset (firings v P ++ f ∷ []) ≡ true → ring s v (Put r v m k f ∷ P) ≡ []
  pub joins : (s : Setting) (r v m k : ℕ) (f : Bool) (pre post preset : ℕ) (P : Past) → IsWatchedPut s r v m k f pre post preset P
      → is_trigger post preset (firings v P ++ f ∷ []) (length (firings v P)) ≡ false
      → is_passed pre post preset (firings v P ++ f ∷ []) (length (firings v P)) ≡ false → is_complete post preset (firings v P) ≡ false
      → ring s v (Put r v m k f ∷ P) ≡ last_of pre (ring s v P ++ frame m k ∷ [])

-- a window over items, each of which stands for an array, has seen what the node put
pub record IsWindowOf {X : Type 0} (name : X → FrameName) (s : Setting) (v : ℕ) (P : Past) (w : Watch X) (xs : List X) : Type 0 where
  pub rule : (node s v).work ≡ Watches w.pre w.post w.preset
  pub names : map name xs ≡ puts v P
  pub after : IsAfter w (firings v P)
  pub ring : w.ring ≡ kept w.pre w.post w.preset (firings v P) xs

-- one more put, which is pushed into the window
pub record IsPushed {X : Type 0} (name : X → FrameName) (s : Setting) (r v m k : ℕ) (f : Bool) (P : Past) (x : X) (old new : Watch X)
    (result : Passed X) : Type 0 where
  pub names : name x ≡ frame m k
  pub same : SameRule old new
  pub pushes : Pushes (firings v P) f x old new result

pub record RingWindowLaws (X : Type 0) : Type 0 where
  -- before any entry, a new window
  pub start : (name : X → FrameName) (s : Setting) (v pre post preset : ℕ) → (node s v).work ≡ Watches pre post preset
      → IsAfter (new_watch {X = X} pre post preset) [] → IsWindowOf name s v [] (new_watch pre post preset) []
  -- it has the node's ring
  pub has_ring : (name : X → FrameName) (s : Setting) (v : ℕ) (P : Past) (w : Watch X) (xs : List X) → IsWindowOf name s v P w xs
      → is_settled v P ≡ false → map name w.ring ≡ ring s v P
  -- and so after each put
  pub push : (name : X → FrameName) (s : Setting) (r v m k : ℕ) (f : Bool) (P : Past) (x : X) (xs : List X) (old new : Watch X) (result : Passed X)
      → IsWindowOf name s v P old xs → IsPushed name s r v m k f P x old new result → IsWindowOf name s v (Put r v m k f ∷ P) new (xs ++ x ∷ [])
  -- what must follow the put is an emission of each array that is pending then, and of the array itself where a window has it
  pub calls : (name : X → FrameName) (s : Setting) (r v m k : ℕ) (f : Bool) (P : Past) (x : X) (xs : List X) (old new : Watch X) (result : Passed X)
      → is_legal s P ≡ true → first s P (Put r v m k f) ≡ true → IsWindowOf name s v P old xs → IsPushed name s r v m k f P x old new result
      → calls_for s P (Put r v m k f) ≡ map (emit v Ring) (map name new.pending)
      ++ (if is_passed old.pre old.post old.preset (firings v P ++ f ∷ []) (length (firings v P)) then emit v Now (frame m k) ∷ [] else [])
