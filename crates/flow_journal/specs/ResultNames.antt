-- Under which name a node's result of an array goes on.
use Rattle.std.specs.Prelude.{ℕ, if◌then◌else◌}
use Rattle.nd_base.specs.declared.frame.FrameName.{FrameName}
use Rattle.flow_journal.specs.Setting.{Setting, is_maker}
use Rattle.flow_journal.specs.Pasts.{frame}

-- at a maker the maker's own with the same index, and else that of the array
abbrev pub result_name : Setting → ℕ → FrameName → FrameName
result_name s v a = if is_maker s v then frame v a.index else a
