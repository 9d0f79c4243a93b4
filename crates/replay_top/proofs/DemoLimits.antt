-- The demo run passes no limit.
use Rattle.std.proofs.Common.{◌≡◌, ℕ, ◌*◌, ◌≤◌, Bool, false, ltb, cond, [], ◌∷◌, length, ap, arith, inl, inr, pos}
use Rattle.std.specs.Prelude.{Option, None, Some, min}
use Rattle.std.proofs.lemmas.Bool.{ltb-true, cases_Bool}
use Rattle.std.proofs.Math.Nat.{min-le_left}
use Rattle.std.proofs.lemmas.List.FromFn.{length-map-range_with_len}
use Rattle.nd_base.specs.declared.array.SampleType.TheVariants.{UInt8, UInt16}
use Rattle.nd_base.specs.declared.attribute.FileShape.{FileShape}
use Rattle.nd_base.specs.declared.form.Form.TheVariants.{Classic}
use Rattle.cdf_write.specs.LengthLaws.{header_length_is, row_length_is}
use Rattle.cdf_write.specs.Layout.{header_length}
use Rattle.cdf_write.specs.Lengths.{row_length, length_of}
use Rattle.nd_stack.specs.Generated.{generated_array, generated_shape}
use Rattle.graph_conf.specs.Loads.{arrivals, kept, first_too_long, limit_fault}
use Rattle.graph_conf.specs.declared.load.LimitFault.{LimitFault}
use Rattle.graph_conf.specs.declared.load.LimitFault.TheVariants.{FileTooLarge}
use Rattle.demo_laws.specs.Demo.{demo_graph, demo_stack}

-- what the file node's arrays share
abbrev region_shape : FileShape
region_shape = record (generated_shape 64 48 UInt8) {
  form = Classic;
  kind = UInt16;
  dims = record { size = 32; offset = pos 0; binning = pos 2; reverse = false }
      ∷ record { size = 24; offset = pos 0; binning = pos 2; reverse = false } ∷ [];
}

header-is : header_length region_shape ≡ 584
header-is = header_length_is region_shape

row-is : row_length region_shape ≡ 1560
row-is = row_length_is region_shape

not-below : (a b : ℕ) → b ≤ a → ltb a b ≡ false
not-below a b h = elim (cases_Bool (ltb a b)) [ inl less ↦ absurd (omega (arith, h, ltb-true a b less)) | inr more ↦ more ]

module _ (n : ℕ) (few : n ≤ 4096) where
  frames-are : length (demo_stack n).arrays ≡ n
  frames-are = length-map-range_with_len (generated_array 64 48 UInt8 1) 0 n

  few-arrivals : ltb 1048576 (arrivals (demo_graph n) (demo_stack n)) ≡ false
  few-arrivals = not-below 1048576 (arrivals (demo_graph n) (demo_stack n)) (omega (arith, frames-are, few))

  none-kept : ltb 67108864 (kept (demo_graph n) (demo_stack n)) ≡ false
  none-kept = not-below 67108864 (kept (demo_graph n) (demo_stack n)) (omega arith)

  short-file : length_of region_shape (min n (length (demo_stack n).arrays)) ≤ 2147483647
  short-file =
      let k : ℕ = min n (length (demo_stack n).arrays) in
      omega (arith, header-is, ap (λ (r : ℕ). k * r) row-is, min-le_left n (length (demo_stack n).arrays), few)

  none-long : first_too_long (demo_graph n) (demo_stack n) 1 3 ≡ None
  none-long =
      let bytes : ℕ = length_of region_shape (min n (length (demo_stack n).arrays)) in
      ap (λ (b : Bool). cond {A = Option LimitFault} b (Some (FileTooLarge 3 bytes)) None) (not-below 2147483647 bytes short-file)

  pub demo-within : limit_fault (demo_graph n) (demo_stack n) ≡ None
  demo-within = rw (few-arrivals, none-kept) none-long
