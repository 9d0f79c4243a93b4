-- What every stack that was read keeps to: it can be written, and its file is read back as the same arrays.
use Rattle.std.specs.Prelude.{◌≤◌, length, All}
use Rattle.nd_base.specs.Array.{StackValue}
use Rattle.nd_base.specs.Forms.{longest_of}
use Rattle.cdf_write.specs.Lengths.{length_of}
use Rattle.cdf_write.specs.Writable.{IsWritable, HasShape}
use Rattle.nd_stack.specs.Groups.{HasTextNames}
use Rattle.nd_stack.specs.LayoutShape.{HasSmallDims}
use Rattle.nd_stack.specs.RoundTrip.{IsKept, ReadsBack, layout_reads_back}

-- a shape that can be written, and at most as many arrays of it as a stack has, each of which a file gives back
pub record IsKeptStack (s : StackValue) : Type 0 where
  pub writable : IsWritable s.shape
  pub names : HasTextNames s.shape
  pub dims : HasSmallDims s.shape
  pub each : All (HasShape s.shape) s.arrays
  pub kept : All IsKept s.arrays
  pub few : length s.arrays ≤ 65536

-- the file of its arrays is read back, where there is one and the file isn't too long
pub IsKeptStack-ReadsBack : (s : StackValue) → IsKeptStack s → 1 ≤ length s.arrays → length_of s.shape (length s.arrays) ≤ longest_of s.shape.form →
    ReadsBack s.shape s.arrays
IsKeptStack-ReadsBack s h some within =
    layout_reads_back s.shape s.arrays (record {
      group = record { writable = h.writable; names = h.names; some = some; each = h.each; within = within };
      dims = h.dims;
      each = h.kept;
      few = h.few;
    })
