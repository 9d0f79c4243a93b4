-- An inbox, and what its calls make of it.
use Rattle.std.specs.Prelude.{ℕ, Bool, nat_le, List, [], ◌∷◌, ◌++◌, length, drop}

-- how many it takes, how many more there is room for, and what is in it, the front first
pub record InboxState (T : Type 0) : Type 0 where
  pub size : ℕ
  pub extra : ℕ
  pub items : List T

-- it holds its size or more
abbrev pub is_full : {T : Type 0} → InboxState T → Bool
is_full b = nat_le b.size (length b.items)

-- with one more behind all
abbrev pub with_last : {T : Type 0} → InboxState T → T → InboxState T
with_last b item = record b { items = b.items ++ item ∷ [] }

-- with one more before all
abbrev pub with_front : {T : Type 0} → InboxState T → T → InboxState T
with_front b item = record b { items = item ∷ b.items }

-- without the front, if there is one
abbrev pub without_front : {T : Type 0} → InboxState T → InboxState T
without_front b = record b { items = drop 1 b.items }
