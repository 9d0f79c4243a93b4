-- The forms of a netCDF classic file.
use Rattle.std.specs.Prelude.{ℕ}
use Rattle.nd_base.specs.declared.form.Form.{Form}
use Rattle.nd_base.specs.declared.form.Form.TheVariants.{Classic, Wide}

-- the length of the longest file that is written: 2 GiB less one byte, and 8 GiB
abbrev pub longest_of : Form → ℕ
longest_of Classic = 2147483647
longest_of Wide = 8589934592
