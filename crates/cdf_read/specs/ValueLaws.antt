-- Each value of a file stands within it.
use Rattle.std.specs.Prelude.{◌≡◌, ℕ, zero, suc, ◌+◌, ◌-◌, ◌*◌, ◌<◌, ◌≤◌, ◌^◌, List, length, slice_get, Some, Bool, true, false, ◌==◌, ◌&&◌, if◌then◌else◌}
use Rattle.std.specs.Prelude.{refl}
use Rattle.std.proofs.Common.{ap, sym, subst, ◌∙◌, arith, get_or}
use Rattle.std.proofs.Math.Nat.{mul-le-mul_right, suc-mul}
use Rattle.std.proofs.lemmas.Bool.Decides.{nat_tests}
use Rattle.std.proofs.lemmas.Option.{get_or_from_slice_get, slice_get_within}
use Rattle.cdf_read.specs.declared.head.HeadVar.{HeadVar}
use Rattle.cdf_read.specs.declared.head.Header.{Header}
use Rattle.cdf_read.specs.Grammar.{Reads, IsOfFile}
use Rattle.cdf_read.specs.Places.{value_size, value_count, is_record_var, place_of_value, values_end, HasValue}

ends_before : (b : Bool) (begin records recsize r i count size : ℕ) → (b ≡ true → r < records) → i < count
    → begin + (if b then r * recsize else 0) + i * size
    + size ≤ (if b && (records == 0) then 0 else begin + (if b then (records - 1) * recsize else 0) + count * size)
ends_before false begin records recsize r i count size within here =
    omega (arith, suc-mul i size, mul-le-mul_right size here)
ends_before true begin zero recsize r i count size within here = let low : r < 0 = within refl in absurd (omega arith)
ends_before true begin (suc records) recsize r i count size within here =
    let last : suc records - 1 ≡ records = omega arith in
    let some : (suc records == 0) ≡ false = grind (arith, nat_tests) in
    let less : r < suc records = within refl in
    let low : r ≤ records = omega arith in
    let values = mul-le-mul_right size here in
    let before = mul-le-mul_right recsize low in
    rw (last, some) (omega (arith, suc-mul i size, values, before))

-- a value ends within the file
pub value_within : (bytes : List ℕ) (h : Header) (var r i : ℕ) (value : HasValue h var r i) → Reads bytes h
    → place_of_value h value.variable r i + value_size value.variable.kind ≤ length bytes
value_within bytes h var r i value reads =
    let v = value.variable in
    let at : get_or h.vars var v ≡ v = get_or_from_slice_get h.vars var v v value.found in
    let end : values_end h (get_or h.vars var v) ≤ length bytes = reads.whole var v (slice_get_within h.vars var v value.found) in
    let last : values_end h v ≤ length bytes = subst (λ w. values_end h w ≤ length bytes) at end in
    let before = ends_before (is_record_var h.dims v) v.begin h.records h.recsize r i (value_count h.dims v.dims)
    (value_size v.kind) value.in_records value.in_record in
    omega (arith, last, before)

-- the same of a value that is found by its variable's place in the list, in a file of fewer than 2 ^ 64 bytes
pub record IsStandingValue (h : Header) (v : HeadVar) (var r i : ℕ) : Type 0 where
  pub found : slice_get h.vars var ≡ Some v
  pub value : i * value_size v.kind < 2 ^ 64
  pub in_record : is_record_var h.dims v ≡ true → v.begin + r * h.recsize + i * value_size v.kind < 2 ^ 64
  pub alone : is_record_var h.dims v ≡ false → v.begin + i * value_size v.kind < 2 ^ 64

below : (b : Bool) (begin records value : ℕ) → begin + (if b then records else 0) + value < 2 ^ 64
    → (b ≡ true → begin + records + value < 2 ^ 64) × (b ≡ false → begin + value < 2 ^ 64)
below true begin records value h = (λ e. h, λ e. absurd (cc))
below false begin records value h = (λ e. absurd (cc), λ e. omega arith)

pub value_stands : (h : Header) (v : HeadVar) (var r i : ℕ) → IsOfFile h → HasValue h var r i → v ≡ get_or h.vars var v → IsStandingValue h v var r i
value_stands h v var r i file value at =
    let same : value.variable ≡ v = sym (get_or_from_slice_get h.vars var value.variable v value.found) ∙ sym at in
    let within = value_within file.bytes h var r i value file.reads in
    let place : place_of_value h v r i < 2 ^ 64 = subst (λ w. place_of_value h w r i < 2 ^ 64) same (omega (arith, within, file.size)) in
    let parts = below (is_record_var h.dims v) v.begin (r * h.recsize) (i * value_size v.kind) place in
    record { found = value.found ∙ ap Some same; value = omega arith; in_record = parts.0; alone = parts.1 }

pub place_in_record : (h : Header) (v : HeadVar) (r i : ℕ) → is_record_var h.dims v ≡ true
    → place_of_value h v r i ≡ v.begin + r * h.recsize + i * value_size v.kind
place_in_record h v r i e = ap (λ b. v.begin + (if b then r * h.recsize else 0) + i * value_size v.kind) e

pub place_alone : (h : Header) (v : HeadVar) (r i : ℕ) → is_record_var h.dims v ≡ false → place_of_value h v r i ≡ v.begin + i * value_size v.kind
place_alone h v r i e = ap (λ b. v.begin + (if b then r * h.recsize else 0) + i * value_size v.kind) e ∙ omega arith

-- the place of the variable that stands there
pub place_found : (h : Header) (v : HeadVar) (var r i place : ℕ) → slice_get h.vars var ≡ Some v → place_of_value h v r i ≡ place → (w : HeadVar)
    → slice_get h.vars var ≡ Some w → place ≡ place_of_value h w r i
place_found h v var r i place here is w found =
    let same : v ≡ w = cc in
    sym is ∙ ap (λ u. place_of_value h u r i) same
