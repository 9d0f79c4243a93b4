-- A frame's values are at most those of the variable.
use Rattle.std.proofs.Common.{◌≤◌, ℕ, List, [], ◌∷◌, drop, max, arith}
use Rattle.std.proofs.Math.Nat.{mul-le-mul_right, mul-le-mul_left}
use Rattle.cdf_read.specs.declared.head.HeadDim.{HeadDim}
use Rattle.cdf_read.specs.declared.head.HeadVar.{HeadVar}
use Rattle.cdf_read.specs.declared.head.Header.{Header}
use Rattle.cdf_read.specs.Places.{dim_length, value_size, value_count, var_size}
use Rattle.cdf_read.specs.PlaceLaws.{value_count-cons}
use Rattle.nd_stack.specs.Columns.{values_size}

-- so do those that fewer dimensions span
fewer : (dims : List HeadDim) (numbers : List ℕ) → value_count dims (drop 1 numbers) ≤ value_count dims numbers
fewer dims [] = omega arith
fewer dims (number ∷ numbers) =
    let some : 1 ≤ max (dim_length dims number) 1 = omega arith in
    omega (arith, value_count-cons dims number numbers, mul-le-mul_right (value_count dims numbers) some)

pub values_size-most : (h : Header) (v : HeadVar) → values_size h v ≤ var_size h.dims v
values_size-most h v = mul-le-mul_right (value_size v.kind) (fewer h.dims v.dims)

-- a value has at least a byte
pub value_size-positive : (kind : ℕ) → 1 ≤ value_size kind
value_size-positive kind = grind arith

pub count-most : (h : Header) (v : HeadVar) → value_count h.dims (drop 1 v.dims) ≤ var_size h.dims v
count-most h v =
    let whole = values_size-most h v in
    let part = mul-le-mul_left (value_count h.dims (drop 1 v.dims)) (value_size-positive v.kind) in
    omega (arith, whole, part)
