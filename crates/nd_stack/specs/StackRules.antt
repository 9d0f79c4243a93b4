-- The stack of a file, or the first refusal.
use Rattle.std.specs.Prelude.{ℕ, ◌+◌, ◌&&◌, nat_le, pos, List, length, map, Option, Some, None, Result, Ok, Err, ok_or, codes}
use Rattle.std.specs.List.{range_with_len}
use Rattle.nd_base.specs.declared.array.Head.{Head}
use Rattle.nd_base.specs.declared.array.SampleType.{SampleType}
use Rattle.nd_base.specs.Array.{StackValue}
use Rattle.nd_base.specs.Shapes.{most_samples}
use Rattle.nd_base.specs.Stacks.{stack_at}
use Rattle.cdf_read.specs.declared.head.HeadVar.{HeadVar}
use Rattle.cdf_read.specs.declared.head.Header.{Header}
use Rattle.cdf_read.specs.HeaderReading.{header_of}
use Rattle.nd_stack.specs.declared.attributes.AttrVar.{AttrVar}
use Rattle.nd_stack.specs.declared.heads.Times.{Times}
use Rattle.nd_stack.specs.declared.fault.StackFault.{StackFault}
use Rattle.nd_stack.specs.declared.fault.StackFault.TheVariants.{NoArrayData, Rank, TooManyFrames, TooManySamples, FrameCount, AttrShape}
use Rattle.nd_stack.specs.Answers.{◌>>=◌, need, or_cdf}
use Rattle.nd_stack.specs.Columns.{variable_of, frame_count, frame_values, column_of}
use Rattle.nd_stack.specs.SampleTypes.{sample_type}
use Rattle.nd_stack.specs.FrameVars.{frame_misfit, times_of, int_for, bits_for}
use Rattle.nd_stack.specs.AttrVars.{attr_misfit, attr_vars, attrs_for}
use Rattle.nd_stack.specs.FrameShape.{shape_of}

-- nothing where there is no such variable, and else the refusal of its number
abbrev pub no_misfit : Option ℕ → (ℕ → StackFault) → Result (Unit {0}) StackFault
no_misfit None fault = Ok tt
no_misfit (Some var) fault = Err (fault var)

-- the frames and their sample type, where the header is a stack's
unfoldable pub frames_of : Header → Result (HeadVar × SampleType) StackFault
frames_of h = do
  v ← ok_or (variable_of h (codes "array_data")) NoArrayData
  kind ← sample_type h v.kind
  rank ← need (nat_le 2 (length v.dims) && nat_le (length v.dims) 11) (Rank (length v.dims))
  frames ← need (nat_le (frame_count h v) 65536) (TooManyFrames (frame_count h v))
  samples ← need (nat_le (frame_values h v) most_samples) (TooManySamples (frame_values h v))
  times ← no_misfit (frame_misfit h (frame_count h v)) FrameCount
  attrs ← no_misfit (attr_misfit h (frame_count h v)) AttrShape
  Ok (v, kind)

-- frame k beside its samples; without ids the frames count from 1
abbrev pub head_for : List ℕ → Times → List AttrVar → ℕ → Head
head_for bytes times attrs k = record {
  id = int_for bytes times.id k (pos (k + 1));
  stamp = bits_for bytes times.stamp k;
  sec = int_for bytes times.sec k (pos 0);
  nsec = int_for bytes times.nsec k (pos 0);
  attrs = attrs_for bytes attrs k;
}

abbrev pub heads_of : List ℕ → Header → ℕ → List Head
heads_of bytes h frames = map (head_for bytes (times_of h) (attr_vars h)) (range_with_len 0 frames)

-- the stack of a header's frames
abbrev pub stack_with : List ℕ → Header → HeadVar → SampleType → StackValue
stack_with bytes h v kind =
    stack_at (shape_of h v kind) (heads_of bytes h (frame_count h v)) bytes (column_of h v).first (column_of h v).step

-- the stack of a file's bytes
unfoldable pub stack_of : List ℕ → Result StackValue StackFault
stack_of bytes = do
  h ← or_cdf (header_of bytes)
  found ← frames_of h
  Ok (stack_with bytes h found.0 found.1)
