-- A shape for small files: frames of two by two bytes without attributes.
use Rattle.std.specs.Prelude.{◌≡◌, ℕ, ◌*◌, ◌≤◌, pos, false, List, [], ◌∷◌, length, map, refl}
use Rattle.std.proofs.Common.{ap, arith}
use Rattle.std.proofs.lemmas.List.Elements.{All-nil}
use Rattle.nd_base.specs.declared.form.Form.TheVariants.{Classic}
use Rattle.nd_base.specs.declared.array.Dim.{Dim}
use Rattle.nd_base.specs.declared.array.Head.{Head}
use Rattle.nd_base.specs.declared.array.SampleType.TheVariants.{UInt8}
use Rattle.nd_base.specs.declared.attribute.FileShape.{FileShape}
use Rattle.nd_base.specs.Forms.{longest_of}
use Rattle.cdf_write.specs.Lengths.{row_length, length_of}
use Rattle.cdf_write.specs.LengthLaws.{header_length_is, row_length_is}
use Rattle.cdf_write.specs.Writable.{IsWritable, column_of}
use Rattle.file_out.specs.Streams.{IsRow}

abbrev pub plain_dim : Dim
plain_dim = record { size = 2; offset = pos 0; binning = pos 1; reverse = false }

abbrev pub two_by_two : FileShape
two_by_two = record { form = Classic; kind = UInt8; dims = plain_dim ∷ plain_dim ∷ []; attrs = []; width = 256; extras = [] }

pub two_by_two-IsWritable : IsWritable two_by_two
two_by_two-IsWritable = record {
  dimensions = refl;
  samples = omega arith;
  width = (omega arith, omega arith);
  attrs = omega arith;
  names = All-nil _;
  extras = omega arith;
  each_extra = All-nil _;
}

pub two_by_two-IsRow : (head : Head) (bytes : List ℕ) → head.attrs ≡ [] → length bytes ≡ 4 → IsRow two_by_two head bytes
two_by_two-IsRow head bytes none four = record {
  columns = record { same = ap (map column_of) none; texts = rw none (All-nil _) };
  samples = four;
}

pub two_by_two-within : (n : ℕ) → n ≤ 5 → length_of two_by_two n ≤ longest_of two_by_two.form
two_by_two-within n few =
    let front = header_length_is two_by_two in
    let row : row_length two_by_two ≡ 24 = row_length_is two_by_two in
    let rows : n * row_length two_by_two ≡ n * 24 = ap (λ m. n * m) row in
    omega (arith, front, rows, few)
