-- A header that was read is sound, and the bytes for each frame of a variable lie within the file.
use Rattle.std.specs.Prelude.{◌≡◌, ℕ, zero, suc, ◌+◌, ◌-◌, ◌*◌, ◌<◌, ◌≤◌, max, Bool, true, false, ◌==◌, ◌&&◌, List, [], ◌∷◌, ◌++◌, length, drop, All}
use Rattle.std.specs.Prelude.{if◌then◌else◌, refl}
use Rattle.std.proofs.Common.{ap, sym, subst, ◌∙◌, arith}
use Rattle.std.proofs.Math.Nat.{mul-le-mul_right, one-mul, mul_assoc, suc-mul}
use Rattle.std.proofs.lemmas.Bool.{eqb-true}
use Rattle.std.proofs.lemmas.Bool.Decides.{nat_tests}
use Rattle.std.proofs.lemmas.List.Elements.{All-nil, All-cons}
use Rattle.nd_base.specs.declared.form.Form.{Form}
use Rattle.cdf_read.specs.declared.head.HeadDim.{HeadDim}
use Rattle.cdf_read.specs.declared.head.HeadVar.{HeadVar}
use Rattle.cdf_read.specs.declared.head.Header.{Header}
use Rattle.cdf_read.specs.Grammar.{AreMany, IsDim, IsDimNumber, IsVar, Reads}
use Rattle.cdf_read.specs.Places.{dim_length, value_size, value_count, size_of, var_size, values_end}
use Rattle.cdf_read.specs.PlaceLaws.{value_count-cons}
use Rattle.nd_stack.specs.Columns.{frame_count, column_of, LiesWithin}
use Rattle.nd_stack.specs.Sound.{IsSoundHeader}

-- what each element says holds of all
pub AreMany-All : {A : Type 0} (Is : List A → A → List ℕ → List ℕ → Type 0) (P : A → Type 0)
    → ((earlier : List A) (x : A) (before after : List ℕ) → Is earlier x before after → P x) →
    (earlier xs : List A) (before after : List ℕ) → AreMany Is earlier xs before after → All P xs
AreMany-All Is P each earlier [] before after h = All-nil P
AreMany-All Is P each earlier (x ∷ xs) before after h =
    All-cons P x xs (each earlier x before h.0 h.1) (AreMany-All Is P each (earlier ++ x ∷ []) xs h.0 after h.2)

no_more : (earlier : List ℕ) (x : ℕ) → earlier ++ x ∷ [] ≡ [] → ⊥
no_more [] x e = absurd (cc)
no_more (y ∷ earlier) x e = absurd (cc)

some_length : (n : ℕ) → (n ≡ 0 → ⊥) → 0 < n
some_length zero h = absurd (h refl)
some_length (suc n) h = omega arith

-- the dimensions after others aren't the record dimension
later_fixed : (dims : List HeadDim) (earlier : List ℕ) (y : ℕ) (numbers before after : List ℕ)
    → AreMany (IsDimNumber dims) (earlier ++ y ∷ []) numbers before after → All (λ n. 0 < dim_length dims n) numbers
later_fixed dims earlier y [] before after h = All-nil (λ n. 0 < dim_length dims n)
later_fixed dims earlier y (x ∷ numbers) before after h =
    All-cons (λ n. 0 < dim_length dims n) x numbers
    (some_length (dim_length dims x) (λ e. no_more earlier y (h.1.record_first e)))
    (later_fixed dims (earlier ++ y ∷ []) x numbers h.0 after h.2)

others_fixed : (dims : List HeadDim) (numbers before after : List ℕ) → AreMany (IsDimNumber dims) [] numbers before after
    → All (λ n. 0 < dim_length dims n) (drop 1 numbers)
others_fixed dims [] before after h = All-nil (λ n. 0 < dim_length dims n)
others_fixed dims (x ∷ numbers) before after h = later_fixed dims [] x numbers h.0 after h.2

record IsSpelled (dims : List HeadDim) (v : HeadVar) : Type 0 where
  pub rank : length v.dims ≤ 2147483647
  pub small : var_size dims v ≤ 4294967296
  pub fixed : All (λ n. 0 < dim_length dims n) (drop 1 v.dims)
  pub least : 1 ≤ v.kind
  pub most : v.kind ≤ 6

spelled : (form : Form) (dims : List HeadDim) (v : HeadVar) (before after : List ℕ) → IsVar form dims v before after → IsSpelled dims v
spelled form dims v before after is = record {
  rank = is.rank.positive;
  small = is.within;
  fixed = others_fixed dims v.dims is.at_dims is.at_attrs is.numbers;
  least = is.kind.least;
  most = is.kind.most;
}

-- a header that was read is sound
pub Reads-IsSoundHeader : (bytes : List ℕ) (h : Header) → Reads bytes h → IsSoundHeader (length bytes) h
Reads-IsSoundHeader bytes h reads =
    let vars =
    AreMany-All (λ (earlier : List HeadVar). IsVar reads.form h.dims) (IsSpelled h.dims) (λ earlier v before after. spelled reads.form h.dims v before after) []
    h.vars reads.header.vars.0 reads.after reads.header.vars.2 in
    record {
      few = reads.header.vars.1.number.positive;
      vars = λ i d within. record {
        rank = (vars i d within).rank;
        small = (vars i d within).small;
        fixed = (vars i d within).fixed;
        end = reads.whole i d within;
        least = (vars i d within).least;
        most = (vars i d within).most;
      };
      lengths =
          AreMany-All IsDim (λ d. d.length ≤ 2147483647) (λ earlier d before after is. is.size.positive) [] h.dims reads.header.dims.0
          reads.header.at_gatts reads.header.dims.2;
    }

-- the bytes of a variable are those for its frames, or for one record
var_size-record : (dims : List HeadDim) (number : ℕ) (numbers : List ℕ) (kind : ℕ) → dim_length dims number ≡ 0
    → size_of dims (number ∷ numbers) kind ≡ value_count dims numbers * value_size kind
var_size-record dims number numbers kind e =
    let one : max (dim_length dims number) 1 ≡ 1 = omega (arith, e) in
    ap (λ n. n * value_size kind) (value_count-cons dims number numbers ∙ ap (λ m. m * value_count dims numbers) one ∙ one-mul (value_count dims numbers))

var_size-fixed : (dims : List HeadDim) (number : ℕ) (numbers : List ℕ) (kind : ℕ) → 0 < dim_length dims number
    → size_of dims (number ∷ numbers) kind ≡ dim_length dims number * (value_count dims numbers * value_size kind)
var_size-fixed dims number numbers kind some =
    let same : max (dim_length dims number) 1 ≡ dim_length dims number = omega arith in
    ap (λ n. n * value_size kind) (value_count-cons dims number numbers ∙ ap (λ m. m * value_count dims numbers) same)
    ∙ mul_assoc (dim_length dims number) (value_count dims numbers) (value_size kind)

in_records : (begin records recsize size total k : ℕ) → k < records → (if records == 0 then 0 else begin + (records - 1) * recsize + size) ≤ total
    → begin + k * recsize + size ≤ total
in_records begin zero recsize size total k within end = absurd (omega arith)
in_records begin (suc records) recsize size total k within end =
    let some : (suc records == 0) ≡ false = grind (arith, nat_tests) in
    let all : begin + (suc records - 1) * recsize + size ≤ total =
    subst (λ b. (if b then 0 else begin + (suc records - 1) * recsize + size) ≤ total) some end in
    let less : suc records - 1 ≡ records = omega arith in
    let same : (suc records - 1) * recsize ≡ records * recsize = ap (λ n. n * recsize) less in
    let low : k ≤ records = omega arith in
    omega (arith, all, same, mul-le-mul_right recsize low)

one_by_one : (begin count size total k : ℕ) → k < count → begin + 0 + count * size ≤ total → begin + k * size + size ≤ total
one_by_one begin count size total k within end = omega (arith, suc-mul k size, mul-le-mul_right size within)

lies : (b : Bool) (h : Header) (begin number : ℕ) (numbers : List ℕ) (kind total k : ℕ) → (dim_length h.dims number == 0) ≡ b
    → k < (if b then h.records else dim_length h.dims number) →
    (if b && (h.records == 0) then 0 else begin + (if b then (h.records - 1) * h.recsize else 0) + size_of h.dims (number ∷ numbers) kind) ≤ total →
    begin + k * (if b then h.recsize else value_count h.dims numbers * value_size kind) + value_count h.dims numbers * value_size kind ≤ total
lies true h begin number numbers kind total k is within end =
    let none : dim_length h.dims number ≡ 0 = eqb-true (dim_length h.dims number) 0 is in
    in_records begin h.records h.recsize (value_count h.dims numbers * value_size kind) total k within
    (subst (λ n. (if h.records == 0 then 0 else begin + (h.records - 1) * h.recsize + n) ≤ total) (var_size-record h.dims number numbers kind none) end)
lies false h begin number numbers kind total k is within end =
    let some : 0 < dim_length h.dims number = omega arith in
    one_by_one begin (dim_length h.dims number) (value_count h.dims numbers * value_size kind) total k within
    (subst (λ n. begin + 0 + n ≤ total) (var_size-fixed h.dims number numbers kind some) end)

-- by the variable's dimensions
lies_by : (h : Header) (v : HeadVar) (total : ℕ) (numbers : List ℕ) → (record v { dims = numbers }) ≡ v → values_end h v ≤ total
    → LiesWithin total (frame_count h v) (column_of h v)
lies_by h v total [] is end k within = let none : k < 0 = subst (λ (w : HeadVar). k < frame_count h w) (sym is) within in absurd (omega arith)
lies_by h v total (number ∷ numbers) is end k within =
    subst (λ (w : HeadVar). (column_of h w).first + k * (column_of h w).step + (column_of h w).size ≤ total) is
    (lies (dim_length h.dims number == 0) h v.begin number numbers v.kind total k refl
    (subst (λ (w : HeadVar). k < frame_count h w) (sym is) within)
    (subst (λ (w : HeadVar). values_end h w ≤ total) (sym is) end))

-- the bytes for each frame of a variable lie within the file
pub column_of-LiesWithin : (h : Header) (v : HeadVar) (total : ℕ) → values_end h v ≤ total → LiesWithin total (frame_count h v) (column_of h v)
column_of-LiesWithin h v total end = lies_by h v total v.dims refl end
