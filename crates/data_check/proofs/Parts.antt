-- Parts of a file, one after the other.
use Rattle.std.proofs.Common.{◌≡◌, ◌≢◌, ℕ, ◌+◌, ◌-◌, ◌<◌, ◌≤◌, Bool, true, false, not, List, ◌++◌, length, take, drop, refl, sym, ap, ◌∙◌, arith}
use Rattle.std.specs.Bool.{Decides}
use Rattle.std.specs.Str.{bytes_eq}
use Rattle.std.proofs.lemmas.Slice.Eq.{bytes_eq-Decides}
use Rattle.std.proofs.Math.Seq.{take-add}
use Rattle.std.proofs.lemmas.List.{length-take, length-drop, drop-drop, drop-take, take-take, take_all, take-append-le}
use Rattle.data_check.specs.Fronts.{HasPart}

-- bytes that stand there, and then some more
pub part-more : (file bytes : List ℕ) (off done n : ℕ) → take done (drop off file) ≡ take done bytes
    → take n (drop (off + done) file) ≡ take n (drop done bytes)
    → take (done + n) (drop off file) ≡ take (done + n) bytes
part-more file bytes off done n front next =
    take-add done n (drop off file)
    ∙ (ap (λ xs. xs ++ take n (drop done (drop off file))) front ∙ ap (λ xs. take done bytes ++ take n xs) (drop-drop done off file)
    ∙ ap (λ xs. take done bytes ++ xs) next) ∙ sym (take-add done n bytes)

-- what stands there stands there piece by piece
pub part-piece : (file bytes : List ℕ) (off done n : ℕ) → done + n ≤ length bytes → HasPart file off bytes
    → take n (drop (off + done) file) ≡ take n (drop done bytes)
part-piece file bytes off done n within has =
    let rest : ℕ = length bytes - done in
    let whole : done + rest ≡ length bytes = omega arith in
    let part : take rest (drop done (drop off file)) ≡ drop done bytes =
    sym (drop-take done rest (drop off file)) ∙ ap (λ k. drop done (take k (drop off file))) whole ∙ ap (drop done) has in
    ap (take n) (sym (drop-drop done off file)) ∙ sym (take-take n rest (drop done (drop off file)) (omega (arith, within, whole))) ∙ ap (take n) part

-- and the file doesn't end before
pub part-within : (file bytes : List ℕ) (off done : ℕ) → done < length bytes → HasPart file off bytes → off + done < length file
part-within file bytes off done some has =
    let long : length (take (length bytes) (drop off file)) ≡ length bytes = ap length has in
    omega (arith, long, length-take (length bytes) (drop off file), length-drop off file)

pub part-whole : (file bytes : List ℕ) (off done : ℕ) → length bytes ≤ done → done ≤ length bytes → take done (drop off file) ≡ take done bytes
    → HasPart file off bytes
part-whole file bytes off done low high same =
    let e : length bytes ≡ done = omega (arith, low, high) in
    ap (λ k. take k (drop off file)) e ∙ same ∙ take_all done bytes low

-- the front of a buffer that was read
pub read-front : (piece buf rest : List ℕ) (n : ℕ) → piece ≡ buf ++ rest → n ≤ length buf → take n piece ≡ take n buf
read-front piece buf rest n made within = ap (take n) made ∙ take-append-le n buf rest within

-- what a test of two pieces that failed or passed says
alike : (b : Bool) (P : Type 0) → Decides b P → false ≡ not b → P
alike true P d e = d.0 refl
alike false P d e = absurd (cc)

unlike : (b : Bool) (P : Type 0) → Decides b P → true ≡ not b → P → ⊥
unlike true P d e p = cc
unlike false P d e p = let no : false ≡ true = d.1 p in cc

pub pieces-alike : (xs ys : List ℕ) (k n : ℕ) → k ≡ n → false ≡ not (bytes_eq xs (take k ys)) → xs ≡ take n ys
pieces-alike xs ys k n same e = alike (bytes_eq xs (take k ys)) (xs ≡ take k ys) (bytes_eq-Decides xs (take k ys)) e ∙ ap (λ m. take m ys) same

pub pieces-unlike : (xs ys : List ℕ) (k n : ℕ) → k ≡ n → true ≡ not (bytes_eq xs (take k ys)) → xs ≢ take n ys
pieces-unlike xs ys k n same e is =
    unlike (bytes_eq xs (take k ys)) (xs ≡ take k ys) (bytes_eq-Decides xs (take k ys)) e (is ∙ ap (λ m. take m ys) (sym same))
