-- A `Window` as contracts see it.
use Rattle.std.specs.Prelude.{ℕ, List, []}

pub record Watch (X : Type 0) : Type 0 where
  -- the rule
  pub pre : ℕ
  pub post : ℕ
  pub preset : ℕ
  -- how many positions of the last window are still to come
  pub left : ℕ
  -- how many triggers are still to count, where a preset says how many
  pub wanted : ℕ
  -- what is kept for a window to come
  pub ring : List X
  -- what is to go out before the item that was passed on last
  pub pending : List X

-- before any push
abbrev pub new_watch : {X : Type 0} → (pre post preset : ℕ) → Watch X
new_watch pre post preset = record { pre = pre; post = post; preset = preset; left = 0; wanted = preset; ring = []; pending = [] }
