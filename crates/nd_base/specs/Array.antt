-- Arrays and stacks as all contracts see them.
use Rattle.std.specs.Prelude.{ℕ, ℤ, List}
use Rattle.nd_base.specs.declared.array.Dim.{Dim}
use Rattle.nd_base.specs.declared.array.SampleType.{SampleType}
use Rattle.nd_base.specs.declared.attribute.Attr.{Attr}
use Rattle.nd_base.specs.declared.attribute.FileShape.{FileShape}

-- an array: its samples are whole numbers, with dimension 0 the fastest
pub record Array : Type 0 where
  pub id : ℤ
  pub stamp : ℕ
  pub sec : ℤ
  pub nsec : ℤ
  pub kind : SampleType
  pub dims : List Dim
  pub samples : List ℤ
  pub attrs : List Attr

-- a stack: what its frames share, and the frames
pub record StackValue : Type 0 where
  pub shape : FileShape
  pub arrays : List Array
