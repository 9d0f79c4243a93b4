-- The numbers of samples over the threshold, with those of later samples.
use Rattle.std.proofs.Common.{◌≡◌, ℕ, ◌+◌, ◌*◌, ◌/◌, ◌≤◌, List, ◌++◌, ap, sym, ◌∙◌, arith, ℤ, pos, ◌+ℤ◌, ◌*ℤ◌}
use Rattle.std.specs.Prelude.{unsigned_abs}
use Rattle.std.proofs.Math.Nat.{mul-le-mul, mul-div_cancel}
use Rattle.std.proofs.lemmas.Int.{unsigned_abs-mul}
use Rattle.nd_base.specs.declared.array.SampleType.{SampleType}
use Rattle.nd_base.specs.Samples.{width}
use Rattle.nd_base.specs.SampleLaws.{width-positive}
use Rattle.nd_stats.specs.declared.over.Over.{Over}
use Rattle.nd_stats.specs.Samples.{Sample, placed}
use Rattle.nd_stats.specs.Measured.{count_where, value_where}
use Rattle.nd_stats.specs.Over.{IsOver, reaches, weighted}
use Rattle.nd_stats.proofs.Sums.{abs-add, count-append, sum_where-append}
use Rattle.nd_stats.proofs.Alongs.{count_moved, value_moved, weighted_moved}

pub over_join : (t : ℤ) (xs : List Sample) (k at : ℕ) (vs : List ℤ) (a b c : Over) → k ≡ at → IsOver t xs a → IsOver t (placed 0 vs) b
    → c.count ≡ a.count + b.count → c.sum ≡ a.sum +ℤ b.sum → c.weighted ≡ a.weighted +ℤ (b.weighted +ℤ (pos k *ℤ b.sum)) → IsOver t (xs ++ placed at vs) c
over_join t xs k at vs a b c here one two e f g =
    let p = reaches t in
    let back : k + 0 ≡ at = omega (arith, here) in
    record {
      count = e ∙ ap (λ n. n + b.count) one.count ∙ ap (λ n. count_where p xs + n) (two.count ∙ count_moved t 0 at vs) ∙ sym (count-append p xs (placed at vs));
      sum = f ∙ ap (λ z. z +ℤ b.sum) one.sum ∙ ap (λ z. value_where p xs +ℤ z) (two.sum ∙ value_moved t 0 at vs)
          ∙ sym (sum_where-append p (λ s. s.value) xs (placed at vs));
      weighted = g ∙ ap (λ z. z +ℤ (b.weighted +ℤ (pos k *ℤ b.sum))) one.weighted
          ∙ ap (λ z. weighted t xs +ℤ (z +ℤ (pos k *ℤ b.sum))) two.weighted ∙ ap (λ z. weighted t xs +ℤ (weighted t (placed 0 vs) +ℤ (pos k *ℤ z))) two.sum
          ∙ ap (λ z. weighted t xs +ℤ z) (sym (weighted_moved t k 0 vs) ∙ ap (λ n. weighted t (placed n vs)) back)
          ∙ sym (sum_where-append p (λ s. pos s.place *ℤ s.value) xs (placed at vs));
    }

-- how many samples a part has
pub part_count : (kind : SampleType) (m n : ℕ) → n ≡ m * width kind → n / width kind ≡ m
part_count kind m n e = ap (λ k. k / width kind) e ∙ mul-div_cancel m (width-positive kind)

pub sums_most : (a b c : ℤ) (k m : ℕ) → c ≡ a +ℤ b → unsigned_abs a ≤ k * 4294967296 → unsigned_abs b ≤ m * 4294967296 → unsigned_abs c ≤ (k + m) * 4294967296
sums_most a b c k m e h l = let s = abs-add a b in rw e (omega (arith, s))

pub weighted_most : (a b d c : ℤ) (k m : ℕ) → c ≡ a +ℤ (b +ℤ (pos k *ℤ d)) → k ≤ 8192 → unsigned_abs a ≤ k * 70368744177664
    → unsigned_abs b ≤ m * 8796093022208 → unsigned_abs d ≤ m * 4294967296 → unsigned_abs c ≤ (k + m) * 70368744177664
weighted_most a b d c k m e few h l n =
    let s = abs-add a (b +ℤ (pos k *ℤ d)) in
    let t = abs-add b (pos k *ℤ d) in
    let p = unsigned_abs-mul (pos k) d in
    let q : k * unsigned_abs d ≤ 8192 * (m * 4294967296) = mul-le-mul few n in
    rw e (omega (arith, s, t, p, q))

-- the same of two parts of one block
pub joined_most : (a b d c : ℤ) (k n m : ℕ) → c ≡ a +ℤ (b +ℤ (pos k *ℤ d)) → k ≤ 1024 → unsigned_abs a ≤ n * 549755813888
    → unsigned_abs b ≤ m * 549755813888 → unsigned_abs d ≤ m * 4294967296 → unsigned_abs c ≤ (n + m) * 8796093022208
joined_most a b d c k n m e few h l s =
    let x = abs-add a (b +ℤ (pos k *ℤ d)) in
    let y = abs-add b (pos k *ℤ d) in
    let p = unsigned_abs-mul (pos k) d in
    let q : k * unsigned_abs d ≤ 1024 * (m * 4294967296) = mul-le-mul few s in
    rw e (omega (arith, x, y, p, q))
