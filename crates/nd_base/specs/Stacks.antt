-- Stacks: frames of one shape over the bytes of a file.
use Rattle.std.specs.Prelude.{◌≡◌, ℕ, ◌+◌, ◌*◌, ◌<◌, ◌≤◌, List, [], ◌∷◌, length, take, drop, All, IsTrue}
use Rattle.nd_base.specs.declared.array.Head.{Head}
use Rattle.nd_base.specs.declared.attribute.FileShape.{FileShape}
use Rattle.nd_base.specs.Array.{Array, StackValue}
use Rattle.nd_base.specs.Samples.{width}
use Rattle.nd_base.specs.Shapes.{has_dimensions, sample_count, most_samples, array_of}

-- the bytes of one frame
abbrev pub frame_size : FileShape → ℕ
frame_size shape = sample_count shape.dims * width shape.kind

-- an array for each head: the samples of the first one begin at this place, and those of each further one a step later
abbrev pub arrays_at : FileShape → List ℕ → ℕ → ℕ → List Head → List Array
arrays_at shape bytes place step [] = []
arrays_at shape bytes place step (head ∷ heads) =
    array_of head shape.kind shape.dims (take (frame_size shape) (drop place bytes)) ∷ arrays_at shape bytes (place + step) step heads

-- the stack of these heads over a file's bytes, where the samples of frame k begin at `first + k * step`
abbrev pub stack_at : FileShape → List Head → List ℕ → ℕ → ℕ → StackValue
stack_at shape heads bytes first step = record { shape = shape; arrays = arrays_at shape bytes first step heads }

-- the dimensions are those of an array, the frames are few, and each lies within the bytes
pub record FitsFile (shape : FileShape) (heads : List Head) (bytes : List ℕ) (first step : ℕ) : Type 0 where
  pub dimensions : IsTrue (has_dimensions shape.dims)
  pub few_samples : sample_count shape.dims ≤ most_samples
  pub few_frames : length heads ≤ 65536
  pub inside : (k : ℕ) → k < length heads → first + k * step + frame_size shape ≤ length bytes

-- a frame has the stack's sample type and dimensions, and the samples of these
pub record HasShape (shape : FileShape) (a : Array) : Type 0 where
  pub kind : a.kind ≡ shape.kind
  pub dims : a.dims ≡ shape.dims
  pub count : length a.samples ≡ sample_count shape.dims

-- the dimensions are those of an array, the frames are few, and each has them
pub record IsStack (s : StackValue) : Type 0 where
  pub dimensions : IsTrue (has_dimensions s.shape.dims)
  pub few_samples : sample_count s.shape.dims ≤ most_samples
  pub few_frames : length s.arrays ≤ 65536
  pub frames : All (HasShape s.shape) s.arrays

-- what an array has beside its samples
abbrev pub head_of : Array → Head
head_of a = record { id = a.id; stamp = a.stamp; sec = a.sec; nsec = a.nsec; attrs = a.attrs }
