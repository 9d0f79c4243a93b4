-- What it says that an array isn't refused, and numbers of samples.
use Rattle.std.specs.Prelude.{◌≡◌, ℕ, zero, suc, ◌*◌, ◌==◌, ◌&&◌, ◌<◌, ◌≤◌, nat_lt, nat_le, not, Bool, true, false, List, [], ◌∷◌, length, take, None, Some}
use Rattle.std.specs.Prelude.{IsTrue, if◌then◌else◌, refl}
use Rattle.std.specs.List.{list_all}
use Rattle.std.proofs.Common.{arith, ap, sym, ◌∙◌, get_or}
use Rattle.std.proofs.Math.Nat.{mul_assoc, mul-le-mul_left, one-le-mul}
use Rattle.std.proofs.lemmas.Bool.{and_parts, ltb-true, ltb-false, eqb-true}
use Rattle.nd_base.specs.declared.array.Dim.{Dim}
use Rattle.nd_base.specs.declared.array.SampleType.{SampleType}
use Rattle.nd_base.specs.declared.array.ShapeFault.TheVariants.{BadShape, TooManySamples}
use Rattle.nd_base.specs.Samples.{width}
use Rattle.nd_base.specs.Shapes.{shape_fault, has_dimensions, sample_count, most_samples}

-- the dimensions are those of an array, and the bytes are its samples
pub record IsSound (kind : SampleType) (dims : List Dim) (bytes : ℕ) : Type 0 where
  pub dimensions : has_dimensions dims ≡ true
  pub few : sample_count dims ≤ most_samples
  pub count : bytes ≡ sample_count dims * width kind

sound_by : (shaped many whole : Bool) → (if shaped then (if many then Some TooManySamples else (if whole then None else Some BadShape)) else Some BadShape)
    ≡ None → (shaped ≡ true) × (many ≡ false) × (whole ≡ true)
sound_by true false true h = (refl, refl, refl)
sound_by true false false h = absurd (cc)
sound_by true true whole h = absurd (cc)
sound_by false many whole h = absurd (cc)

pub shape_fault-none : (kind : SampleType) (dims : List Dim) (bytes : ℕ) → shape_fault kind dims bytes ≡ None → IsSound kind dims bytes
shape_fault-none kind dims bytes h =
    let parts = sound_by (has_dimensions dims) (nat_lt most_samples (sample_count dims)) (bytes == sample_count dims * width kind) h in
    record {
      dimensions = parts.0;
      few = ltb-false most_samples (sample_count dims) parts.1;
      count = eqb-true bytes (sample_count dims * width kind) parts.2;
    }

-- one dimension more
pub sample_count-take : (dims : List Dim) (i : ℕ) (d : Dim) → i < length dims
    → sample_count (take (suc i) dims) ≡ sample_count (take i dims) * (get_or dims i d).size
sample_count-take [] i d h = absurd (omega arith)
sample_count-take (x ∷ dims) zero d h = grind arith
sample_count-take (x ∷ dims) (suc i) d h =
    ap (λ n. x.size * n) (sample_count-take dims i d (omega arith)) ∙ sym (mul_assoc x.size (sample_count (take i dims)) (get_or dims i d).size)

-- dimensions that aren't empty have a sample
pub sample_count-positive : (dims : List Dim) → list_all (λ d. nat_lt 0 d.size) dims ≡ true → 1 ≤ sample_count dims
sample_count-positive [] h = omega arith
sample_count-positive (x ∷ dims) h =
    let parts = and_parts (nat_lt 0 x.size) (list_all (λ d. nat_lt 0 d.size) dims) h in
    one-le-mul (ltb-true 0 x.size parts.0) (sample_count-positive dims parts.1)

-- the first of them have no more samples than all
pub sample_count-front : (dims : List Dim) (i : ℕ) → list_all (λ d. nat_lt 0 d.size) dims ≡ true → sample_count (take i dims) ≤ sample_count dims
sample_count-front dims zero h = sample_count-positive dims h
sample_count-front [] (suc i) h = omega arith
sample_count-front (x ∷ dims) (suc i) h =
    let parts = and_parts (nat_lt 0 x.size) (list_all (λ d. nat_lt 0 d.size) dims) h in
    mul-le-mul_left x.size (sample_count-front dims i parts.1)

pub has_dimensions-none_empty : (dims : List Dim) → IsTrue (has_dimensions dims) → list_all (λ d. nat_lt 0 d.size) dims ≡ true
has_dimensions-none_empty dims h = (and_parts (not (length dims == 0) && nat_le (length dims) 10) (list_all (λ d. nat_lt 0 d.size) dims) h).1
