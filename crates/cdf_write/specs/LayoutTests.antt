-- Worked files of 564 and 584 bytes: one UInt8 frame of 2 by 2 with samples 1 2 3 4, id 1 and no times, in each form.
use Rattle.std.specs.Prelude.{◌≡◌, ℕ, pos, false, List, [], ◌∷◌, ◌++◌, length, refl, codes}
use Rattle.nd_base.specs.declared.form.Form.TheVariants.{Classic, Wide}
use Rattle.nd_base.specs.declared.array.Dim.{Dim}
use Rattle.nd_base.specs.declared.array.SampleType.TheVariants.{UInt8}
use Rattle.nd_base.specs.declared.attribute.FileShape.{FileShape}
use Rattle.nd_base.specs.Array.{Array}
use Rattle.cdf_write.specs.Layout.{layout, header, header_length, row}

plain_dim : Dim
plain_dim = record { size = 2; offset = pos 0; binning = pos 1; reverse = false }

small_shape : FileShape
unfolding plain_dim
small_shape = record { form = Classic; kind = UInt8; dims = plain_dim ∷ plain_dim ∷ []; attrs = []; width = 256; extras = [] }

wide_shape : FileShape
unfolding small_shape
wide_shape = record small_shape { form = Wide }

small_frame : Array
unfolding plain_dim
small_frame = record {
  id = pos 1;
  stamp = 0;
  sec = pos 0;
  nsec = pos 0;
  kind = UInt8;
  dims = plain_dim ∷ plain_dim ∷ [];
  samples = pos 1 ∷ pos 2 ∷ pos 3 ∷ pos 4 ∷ [];
  attrs = [];
}

-- numrecs, four dimensions, seven attributes, and the tag and count of the variables
lists : List ℕ
lists =
    (0 ∷ 0 ∷ 0 ∷ 1 ∷ []) ++
    (0 ∷ 0 ∷ 0 ∷ 10 ∷ 0 ∷ 0 ∷ 0 ∷ 4 ∷ []) ++
    (0 ∷ 0 ∷ 0 ∷ 9 ∷ []) ++ codes "numArrays" ++ (0 ∷ 0 ∷ 0 ∷ 0 ∷ 0 ∷ 0 ∷ 0 ∷ []) ++
    (0 ∷ 0 ∷ 0 ∷ 4 ∷ []) ++ codes "dim0" ++ (0 ∷ 0 ∷ 0 ∷ 2 ∷ []) ++
    (0 ∷ 0 ∷ 0 ∷ 4 ∷ []) ++ codes "dim1" ++ (0 ∷ 0 ∷ 0 ∷ 2 ∷ []) ++
    (0 ∷ 0 ∷ 0 ∷ 14 ∷ []) ++ codes "attrStringSize" ++ (0 ∷ 0 ∷ 0 ∷ 0 ∷ 1 ∷ 0 ∷ []) ++
    (0 ∷ 0 ∷ 0 ∷ 12 ∷ 0 ∷ 0 ∷ 0 ∷ 7 ∷ []) ++
    (0 ∷ 0 ∷ 0 ∷ 8 ∷ []) ++ codes "dataType" ++ (0 ∷ 0 ∷ 0 ∷ 4 ∷ 0 ∷ 0 ∷ 0 ∷ 1 ∷ 0 ∷ 0 ∷ 0 ∷ 1 ∷ []) ++
    (0 ∷ 0 ∷ 0 ∷ 19 ∷ []) ++ codes "NDNetCDFFileVersion" ++ (0 ∷ 0 ∷ 0 ∷ 0 ∷ 6 ∷ 0 ∷ 0 ∷ 0 ∷ 1 ∷ 64 ∷ 8 ∷ 0 ∷ 0 ∷ 0 ∷ 0 ∷ 0 ∷ 0 ∷ []) ++
    (0 ∷ 0 ∷ 0 ∷ 12 ∷ []) ++ codes "numArrayDims" ++ (0 ∷ 0 ∷ 0 ∷ 4 ∷ 0 ∷ 0 ∷ 0 ∷ 1 ∷ 0 ∷ 0 ∷ 0 ∷ 2 ∷ []) ++
    (0 ∷ 0 ∷ 0 ∷ 7 ∷ []) ++ codes "dimSize" ++ (0 ∷ 0 ∷ 0 ∷ 0 ∷ 4 ∷ 0 ∷ 0 ∷ 0 ∷ 2 ∷ 0 ∷ 0 ∷ 0 ∷ 2 ∷ 0 ∷ 0 ∷ 0 ∷ 2 ∷ []) ++
    (0 ∷ 0 ∷ 0 ∷ 9 ∷ []) ++ codes "dimOffset" ++ (0 ∷ 0 ∷ 0 ∷ 0 ∷ 0 ∷ 0 ∷ 4 ∷ 0 ∷ 0 ∷ 0 ∷ 2 ∷ 0 ∷ 0 ∷ 0 ∷ 0 ∷ 0 ∷ 0 ∷ 0 ∷ 0 ∷ []) ++
    (0 ∷ 0 ∷ 0 ∷ 10 ∷ []) ++ codes "dimBinning" ++ (0 ∷ 0 ∷ 0 ∷ 0 ∷ 0 ∷ 4 ∷ 0 ∷ 0 ∷ 0 ∷ 2 ∷ 0 ∷ 0 ∷ 0 ∷ 1 ∷ 0 ∷ 0 ∷ 0 ∷ 1 ∷ []) ++
    (0 ∷ 0 ∷ 0 ∷ 10 ∷ []) ++ codes "dimReverse" ++ (0 ∷ 0 ∷ 0 ∷ 0 ∷ 0 ∷ 4 ∷ 0 ∷ 0 ∷ 0 ∷ 2 ∷ 0 ∷ 0 ∷ 0 ∷ 0 ∷ 0 ∷ 0 ∷ 0 ∷ 0 ∷ []) ++
    (0 ∷ 0 ∷ 0 ∷ 11 ∷ 0 ∷ 0 ∷ 0 ∷ 5 ∷ [])

-- the variables, each up to its begin
unique_id : List ℕ
unique_id =
    (0 ∷ 0 ∷ 0 ∷ 8 ∷ []) ++ codes "uniqueId" ++ (0 ∷ 0 ∷ 0 ∷ 1 ∷ 0 ∷ 0 ∷ 0 ∷ 0 ∷ 0 ∷ 0 ∷ 0 ∷ 0 ∷ 0 ∷ 0 ∷ 0 ∷ 0 ∷ 0 ∷ 0 ∷ 0 ∷ 4 ∷ 0 ∷ 0 ∷ 0 ∷ 4 ∷ [])

time_stamp : List ℕ
time_stamp =
    (0 ∷ 0 ∷ 0 ∷ 9 ∷ []) ++ codes "timeStamp"
    ++ (0 ∷ 0 ∷ 0 ∷ 0 ∷ 0 ∷ 0 ∷ 1 ∷ 0 ∷ 0 ∷ 0 ∷ 0 ∷ 0 ∷ 0 ∷ 0 ∷ 0 ∷ 0 ∷ 0 ∷ 0 ∷ 0 ∷ 0 ∷ 0 ∷ 0 ∷ 6 ∷ 0 ∷ 0 ∷ 0 ∷ 8 ∷ [])

seconds : List ℕ
seconds =
    (0 ∷ 0 ∷ 0 ∷ 10 ∷ []) ++ codes "epicsTSSec" ++ (0 ∷ 0 ∷ 0 ∷ 0 ∷ 0 ∷ 1 ∷ 0 ∷ 0 ∷ 0 ∷ 0 ∷ 0 ∷ 0 ∷ 0 ∷ 0 ∷ 0 ∷ 0 ∷ 0 ∷ 0 ∷ 0 ∷ 0 ∷ 0 ∷ 4 ∷ 0 ∷ 0 ∷ 0 ∷ 4 ∷ [])

nanoseconds : List ℕ
nanoseconds =
    (0 ∷ 0 ∷ 0 ∷ 11 ∷ []) ++ codes "epicsTSNsec" ++ (0 ∷ 0 ∷ 0 ∷ 0 ∷ 1 ∷ 0 ∷ 0 ∷ 0 ∷ 0 ∷ 0 ∷ 0 ∷ 0 ∷ 0 ∷ 0 ∷ 0 ∷ 0 ∷ 0 ∷ 0 ∷ 0 ∷ 0 ∷ 4 ∷ 0 ∷ 0 ∷ 0 ∷ 4 ∷ [])

array_data : List ℕ
array_data =
    (0 ∷ 0 ∷ 0 ∷ 10 ∷ []) ++ codes "array_data"
    ++ (0 ∷ 0 ∷ 0 ∷ 0 ∷ 0 ∷ 3 ∷ 0 ∷ 0 ∷ 0 ∷ 0 ∷ 0 ∷ 0 ∷ 0 ∷ 1 ∷ 0 ∷ 0 ∷ 0 ∷ 2 ∷ 0 ∷ 0 ∷ 0 ∷ 0 ∷ 0 ∷ 0 ∷ 0 ∷ 0 ∷ 0 ∷ 0 ∷ 0 ∷ 1 ∷ 0 ∷ 0 ∷ 0 ∷ 4 ∷ [])

values : List ℕ
values = (0 ∷ 0 ∷ 0 ∷ 1 ∷ 0 ∷ 0 ∷ 0 ∷ 0 ∷ 0 ∷ 0 ∷ 0 ∷ 0 ∷ 0 ∷ 0 ∷ 0 ∷ 0 ∷ 0 ∷ 0 ∷ 0 ∷ 0 ∷ 1 ∷ 2 ∷ 3 ∷ 4 ∷ [])

small_file : List ℕ
unfolding lists unique_id time_stamp seconds nanoseconds array_data values
small_file =
    (67 ∷ 68 ∷ 70 ∷ 1 ∷ []) ++ lists ++
    unique_id ++ (0 ∷ 0 ∷ 2 ∷ 28 ∷ []) ++
    time_stamp ++ (0 ∷ 0 ∷ 2 ∷ 32 ∷ []) ++
    seconds ++ (0 ∷ 0 ∷ 2 ∷ 40 ∷ []) ++
    nanoseconds ++ (0 ∷ 0 ∷ 2 ∷ 44 ∷ []) ++
    array_data ++ (0 ∷ 0 ∷ 2 ∷ 48 ∷ []) ++
    values

-- the same with places of eight bytes
wide_file : List ℕ
unfolding lists unique_id time_stamp seconds nanoseconds array_data values
wide_file =
    (67 ∷ 68 ∷ 70 ∷ 2 ∷ []) ++ lists ++
    unique_id ++ (0 ∷ 0 ∷ 0 ∷ 0 ∷ 0 ∷ 0 ∷ 2 ∷ 48 ∷ []) ++
    time_stamp ++ (0 ∷ 0 ∷ 0 ∷ 0 ∷ 0 ∷ 0 ∷ 2 ∷ 52 ∷ []) ++
    seconds ++ (0 ∷ 0 ∷ 0 ∷ 0 ∷ 0 ∷ 0 ∷ 2 ∷ 60 ∷ []) ++
    nanoseconds ++ (0 ∷ 0 ∷ 0 ∷ 0 ∷ 0 ∷ 0 ∷ 2 ∷ 64 ∷ []) ++
    array_data ++ (0 ∷ 0 ∷ 0 ∷ 0 ∷ 0 ∷ 0 ∷ 2 ∷ 68 ∷ []) ++
    values

small_layout : layout small_shape (small_frame ∷ []) ≡ small_file
unfolding small_file small_shape small_frame plain_dim lists unique_id time_stamp seconds nanoseconds array_data values header header_length row
small_layout = refl

wide_layout : layout wide_shape (small_frame ∷ []) ≡ wide_file
unfolding wide_shape wide_file small_shape small_frame plain_dim lists unique_id time_stamp seconds nanoseconds array_data values header header_length row
wide_layout = refl

small_header : header_length small_shape ≡ 540
unfolding small_shape plain_dim header_length
small_header = refl

wide_header : header_length wide_shape ≡ 560
unfolding wide_shape small_shape plain_dim header_length
wide_header = refl

wide_bytes : length wide_file ≡ 584
unfolding wide_file lists unique_id time_stamp seconds nanoseconds array_data values
wide_bytes = refl
