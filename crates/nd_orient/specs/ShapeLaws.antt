-- An oriented array has the dimensions of an array, and as many samples.
use Rattle.std.specs.Prelude.{◌≡◌, ◌==◌, ◌&&◌, ℕ, nat_lt, nat_le, not, Bool, true, false, List, [], ◌∷◌, length, refl}
use Rattle.std.specs.List.{list_all}
use Rattle.std.proofs.Common.{ap, ◌∙◌, arith}
use Rattle.nd_base.specs.declared.array.Dim.{Dim}
use Rattle.nd_base.specs.Shapes.{sample_count, has_dimensions}
use Rattle.nd_orient.specs.declared.turn.Turn.{Turn}
use Rattle.nd_orient.specs.Orientation.{turn_of, turned_dims, oriented_dims}

abbrev turn : Bool → Bool → Bool → Turn
turn s a b = record { swaps = s; x_down = a; y_down = b }

length_by : (s a b : Bool) (dims : List Dim) → length (turned_dims (turn s a b) dims) ≡ length dims
length_by s a b [] = refl
length_by s a b (d ∷ []) = refl
length_by true a b (d ∷ e ∷ dims) = refl
length_by false a b (d ∷ e ∷ dims) = refl

count_by : (s a b : Bool) (dims : List Dim) → sample_count (turned_dims (turn s a b) dims) ≡ sample_count dims
count_by s a b [] = refl
count_by s a b (d ∷ []) = refl
count_by true a b (d ∷ e ∷ dims) = omega arith
count_by false a b (d ∷ e ∷ dims) = refl

swapped : (a b c : Bool) → (a && (b && c)) ≡ (b && (a && c))
swapped true true c = refl
swapped true false c = refl
swapped false true c = refl
swapped false false c = refl

none_empty_by : (s a b : Bool) (dims : List Dim) → list_all (λ d. nat_lt 0 d.size) (turned_dims (turn s a b) dims) ≡ list_all (λ d. nat_lt 0 d.size) dims
none_empty_by s a b [] = refl
none_empty_by s a b (d ∷ []) = refl
none_empty_by true a b (d ∷ e ∷ dims) = swapped (nat_lt 0 e.size) (nat_lt 0 d.size) (list_all (λ d. nat_lt 0 d.size) dims)
none_empty_by false a b (d ∷ e ∷ dims) = refl

-- there are as many dimensions
pub length-oriented_dims : (mode : ℕ) (dims : List Dim) → length (oriented_dims mode dims) ≡ length dims
length-oriented_dims mode dims = let t = turn_of mode in length_by t.swaps t.x_down t.y_down dims

-- as many samples
pub oriented_dims-count : (mode : ℕ) (dims : List Dim) → sample_count (oriented_dims mode dims) ≡ sample_count dims
oriented_dims-count mode dims = let t = turn_of mode in count_by t.swaps t.x_down t.y_down dims

-- and none of the dimensions is empty
pub oriented_dims-has_dimensions : (mode : ℕ) (dims : List Dim) → has_dimensions (oriented_dims mode dims) ≡ has_dimensions dims
oriented_dims-has_dimensions mode dims =
    let t = turn_of mode in
    ap (λ n. not (n == 0) && nat_le n 10 && list_all (λ (d : Dim). nat_lt 0 d.size) (oriented_dims mode dims)) (length-oriented_dims mode dims)
    ∙ ap (λ b. not (length dims == 0) && nat_le (length dims) 10 && b) (none_empty_by t.swaps t.x_down t.y_down dims)
