-- The fields of a `Window`, and what contracts see of them.
use Rattle.std.specs.Prelude.{◌≡◌, ℕ, ◌<◌, ◌≤◌, length, take, drop}
use Rattle.circular_buffer.specs.Buffer.{Buffer}
use Rattle.trig_window.specs.Watch.{Watch}

-- The first `pending` of the stored items are to go out, and the others are kept.
abbrev pub watch_of : {X : Type 0} → (pre post preset left wanted pending : ℕ) → Buffer X → Watch X
watch_of pre post preset left wanted pending stored =
    record { pre = pre; post = post; preset = preset; left = left; wanted = wanted; ring = drop pending stored.items; pending = take pending stored.items }

-- the storage is made for `pre` items, and none is kept inside a window or after the last one
pub record IsWatch {X : Type 0} (pre post preset left wanted pending : ℕ) (stored : Buffer X) : Type 0 where
  pub positive : 1 ≤ post
  pub counted : wanted ≤ preset
  pub room : stored.capacity ≡ pre
  pub few : length stored.items ≤ pre
  pub within : pending ≤ length stored.items
  pub inside : 0 < left → length stored.items ≤ pending
  pub complete : 0 < preset → wanted ≡ 0 → length stored.items ≤ pending
