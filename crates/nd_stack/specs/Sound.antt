-- What the header of a file says of its variables: their sizes, and that their values lie within the file.
use Rattle.std.specs.Prelude.{◌≡◌, ◌≢◌, ℕ, ◌+◌, ◌*◌, ◌<◌, ◌≤◌, length, drop, All, IfSome}
use Rattle.cdf_read.specs.declared.head.HeadVar.{HeadVar}
use Rattle.cdf_read.specs.declared.head.Header.{Header}
use Rattle.cdf_read.specs.Places.{dim_length, value_size, var_size, values_end}
use Rattle.nd_stack.specs.declared.column.Column.{Column}
use Rattle.nd_stack.specs.declared.attributes.AttrVar.{AttrVar}
use Rattle.nd_stack.specs.declared.heads.Times.{Times}

-- a variable of a header that was read from a file of so many bytes
pub record IsSoundVar (total : ℕ) (h : Header) (v : HeadVar) : Type 0 where
  pub rank : length v.dims ≤ 2147483647
  pub small : var_size h.dims v ≤ 4294967296
  pub fixed : All (λ n. 0 < dim_length h.dims n) (drop 1 v.dims)
  pub end : values_end h v ≤ total
  pub least : 1 ≤ v.kind
  pub most : v.kind ≤ 6

pub record IsSoundHeader (total : ℕ) (h : Header) : Type 0 where
  pub few : length h.vars ≤ 2147483647
  pub vars : All (IsSoundVar total h) h.vars
  pub lengths : All (λ d. d.length ≤ 2147483647) h.dims

-- the bytes for a frame are so many, and lie within a file of so many bytes
abbrev pub HasCell : (total size k : ℕ) → Column → Type 0
HasCell total size k c = (c.first + k * c.step + c.size ≤ total) × (c.size ≡ size)

-- the four per-frame variables, where they are there, have a value for frame k
pub record HasTimes (total k : ℕ) (times : Times) : Type 0 where
  pub id : IfSome times.id (HasCell total 4 k)
  pub stamp : IfSome times.stamp (HasCell total 8 k)
  pub sec : IfSome times.sec (HasCell total 4 k)
  pub nsec : IfSome times.nsec (HasCell total 4 k)

-- an attribute variable has a value for frame k
pub record HasAttr (total k : ℕ) (a : AttrVar) : Type 0 where
  pub within : a.column.first + k * a.column.step + a.column.size ≤ total
  pub size : a.kind ≢ 2 → a.column.size ≡ value_size a.kind
  pub least : 1 ≤ a.kind
  pub most : a.kind ≤ 6
