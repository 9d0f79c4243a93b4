-- Generated stacks, worked out: from 1 the numbers are 1103527590, 377401575, 662824084, 1147902781 and so on.
use Rattle.std.specs.Prelude.{◌≡◌, pos, negsuc, [], ◌∷◌, map, Some, None, codes, refl}
use Rattle.nd_base.specs.declared.array.SampleType.TheVariants.{Int8, UInt8, Int16}
use Rattle.nd_base.specs.declared.attribute.AttrValue.TheVariants.{Whole}
use Rattle.nd_base.specs.Array.{Array}
use Rattle.nd_stack.specs.declared.generated.GenFault.TheVariants.{GenRange, GenBytes}
use Rattle.nd_stack.specs.Generated.{frame_samples, whole_dim, generated, gen_fault}

one_frame : generated 1 2 2 UInt8 1 ≡ record {
  id = pos 1;
  stamp = 0;
  sec = pos 0;
  nsec = pos 0;
  kind = UInt8;
  dims = whole_dim 2 ∷ whole_dim 2 ∷ [];
  samples = pos 198 ∷ pos 126 ∷ pos 129 ∷ pos 107 ∷ [];
  attrs = (record { name = codes "Frame"; value = Whole (pos 0) }) ∷ [];
} ∷ []
one_frame = refl

-- a frame goes on where the one before it ended
two_frames : map (λ (a : Array). a.samples) (generated 2 2 1 UInt8 1) ≡ (pos 198 ∷ pos 126 ∷ []) ∷ (pos 129 ∷ pos 107 ∷ []) ∷ []
two_frames = refl

with_a_sign : frame_samples Int8 1 4 0 ≡ negsuc 57 ∷ pos 126 ∷ negsuc 126 ∷ pos 107 ∷ []
with_a_sign = refl

two_bytes : frame_samples Int16 1 2 1 ≡ pos 10113 ∷ pos 17515 ∷ []
two_bytes = refl

too_wide : gen_fault 1 8193 1 UInt8 ≡ Some GenRange
too_wide = refl

too_wide_of_many : gen_fault 65536 8193 8193 UInt8 ≡ Some GenRange
too_wide_of_many = refl

too_many_bytes : gen_fault 65536 128 128 UInt8 ≡ Some (GenBytes 1073741824)
too_many_bytes = refl

the_most_bytes : gen_fault 65536 128 64 UInt8 ≡ None
the_most_bytes = refl
