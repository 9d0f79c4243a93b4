-- A run of one frame, whose samples are given bytes.
use Rattle.std.specs.Prelude.{◌≡◌, ℕ, pos, false, List, [], ◌∷◌, length, refl}
use Rattle.std.proofs.Common.{arith}
use Rattle.nd_base.specs.Array.{Array, StackValue}
use Rattle.nd_base.specs.Samples.{samples_of}
use Rattle.nd_base.specs.SampleLaws.{length-samples_of}
use Rattle.nd_base.specs.declared.array.SampleType.TheVariants.{UInt8}
use Rattle.nd_base.specs.declared.form.Form.TheVariants.{Classic}
use Rattle.nd_base.specs.declared.frame.FrameName.{FrameName}
use Rattle.nd_base.specs.declared.graph.Graph.{Graph}
use Rattle.chain_plain.specs.Content.{IsContent}

-- unsigned bytes in one row
abbrev pub row_of : List ℕ → Array
row_of bytes = record {
  id = pos 1;
  stamp = 0;
  sec = pos 0;
  nsec = pos 0;
  kind = UInt8;
  dims = record { size = length bytes; offset = pos 0; binning = pos 1; reverse = false } ∷ [];
  samples = samples_of UInt8 bytes;
  attrs = [];
}

abbrev pub one_row : List ℕ → StackValue
one_row bytes = record {
  shape = record { form = Classic; kind = UInt8; dims = (row_of bytes).dims; attrs = []; width = 0; extras = [] };
  arrays = row_of bytes ∷ [];
}

abbrev pub no_nodes : Graph
no_nodes = record { wait = false; limit = 0; nodes = [] }

abbrev pub first_name : FrameName
first_name = record { maker = 0; index = 0 }

-- the bytes are the content of the first frame
pub row_content : (bytes : List ℕ) → IsContent no_nodes (one_row bytes) first_name bytes
row_content bytes =
    let count : length (samples_of UInt8 bytes) ≡ length bytes = length-samples_of UInt8 (length bytes) bytes (omega arith) in
    record { size = omega arith; samples = refl }
