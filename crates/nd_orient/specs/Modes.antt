-- The arithmetic of modes: mode r + 4 * q turns by r quarters, and mirrors then where q is 1.
use Rattle.std.specs.Prelude.{ℕ, ◌+◌, ◌-◌, ◌*◌, ◌/◌, ◌%◌, nat_lt, if◌then◌else◌}

-- the mode that does what the first and then the second do: after a mirror, quarters turn the other way
abbrev pub composed : (first second : ℕ) → ℕ
composed first second =
    (if nat_lt first 4 then first % 4 + second % 4 else first % 4 + (4 - second % 4)) % 4 + 4 * ((first / 4 + second / 4) % 2)

-- the mode that takes a mode back: fewer than 4 are turned back, and the others are their own inverse
abbrev pub inverse_of : ℕ → ℕ
inverse_of mode = if nat_lt mode 4 then (4 - mode) % 4 else mode
