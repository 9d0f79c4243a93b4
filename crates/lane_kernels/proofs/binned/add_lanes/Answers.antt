use Rattle.std.proofs.Common.{◌≡◌, ℕ, ◌<◌, List, length, get_or, take, drop, map, pos, ℤ, ◌+ℤ◌, FitsSigned, to_z, of_z, arith, ap, ◌∙◌}
use Rattle.std.specs.Int.{w64, int_wrap}
use Rattle.std.specs.Simd.Lanes.{zip2, put_chunk}
use Rattle.std.proofs.Math.ListN.{get_or-map}
use Rattle.std.proofs.lemmas.Int.{wrapping_add_is}
use Rattle.std.proofs.lemmas.Simd.{put_chunk_whole, length-put_chunk, length-zip2, get_or-zip2}
use Rattle.std.proofs.lemmas.List.{take_all, length-map}
use Rattle.std.proofs.lemmas.List.FromFn.{get_or-map-range_with_len}
use Rattle.lane_kernels.proofs.BytePairs.{pair, pair_run, pair-fits}
use Rattle.lane_kernels.proofs.binned.add_lanes.Goals as goal

-- a sum with what is added to it
added : (f : ℕ → ℕ → ℕ) → ((a b : ℤ) → FitsSigned w64 a → FitsSigned w64 b → to_z w64 (f (of_z w64 a) (of_z w64 b)) ≡ int_wrap w64 (a +ℤ b)) →
    (sums more : List ℤ) (k : ℕ) → length sums ≡ 8 → length more ≡ 8 → k < 8 → FitsSigned w64 (get_or sums k (pos 0)) → FitsSigned w64 (get_or more k (pos 0)) →
    get_or (put_chunk 0 sums (map (to_z w64) (zip2 f (map (of_z w64) (take 8 sums)) (map (of_z w64) more)))) k (pos 0)
    ≡ int_wrap w64 (get_or sums k (pos 0) +ℤ get_or more k (pos 0))
added f sum sums more k eight too h fit fit2 =
    let all = take_all 8 sums (omega arith) in
    let xs = map (of_z w64) sums in
    let ys = map (of_z w64) more in
    let long = length-map sums (of_z w64) in
    let long2 = length-map more (of_z w64) in
    let zipped = length-zip2 f xs ys (omega arith) in
    let size = length-map (zip2 f xs ys) (to_z w64) in
    ap (λ l. get_or (put_chunk 0 sums (map (to_z w64) (zip2 f (map (of_z w64) l) ys))) k (pos 0)) all
    ∙ ap (λ l. get_or l k (pos 0)) (put_chunk_whole sums (map (to_z w64) (zip2 f xs ys)) (omega arith))
    ∙ get_or-map (to_z w64) (zip2 f xs ys) k 0
    ∙ ap (to_z w64) (get_or-zip2 f xs ys k 0 0 0 (omega arith) (omega arith))
    ∙ ap (λ x. to_z w64 (f x (get_or ys k 0))) (get_or-map (of_z w64) sums k (pos 0))
    ∙ ap (λ y. to_z w64 (f (of_z w64 (get_or sums k (pos 0))) y)) (get_or-map (of_z w64) more k (pos 0))
    ∙ sum (get_or sums k (pos 0)) (get_or more k (pos 0)) fit fit2

as_many : {X : Type 0} (xs ys : List X) (k : ℕ) → k < length (put_chunk 0 xs ys) → k < length xs
as_many xs ys k h = let same = length-put_chunk 0 xs ys in omega (arith, same, h)

pub returns : goal.returns
returns c = λ k h.
    let sums = c.args.sums.now in
    let input = c.args.input.now in
    let more = c.pair_sums-more.result in
    let bytes = take 16 (drop c.args.place input) in
    let within = as_many sums _ k h in
    let below : k < 8 = omega (arith, within, c.requires.lanes) in
    let lane : get_or more k (pos 0) ≡ pos (pair bytes k) =
    ap (λ l. get_or l k (pos 0)) c.pair_sums-more.ensures ∙ get_or-map-range_with_len (λ k. pos (pair bytes k)) 0 8 k k (pos 0) below (omega arith) in
    let eight : length more ≡ 8 = ap length c.pair_sums-more.ensures in
    added _ (λ a b f g. wrapping_add_is w64 a b f g) sums more k c.requires.lanes eight below (c.requires.fit k within)
    (rw lane (pair-fits input c.args.place k c.type_inv.input below))
    ∙ ap (λ z. int_wrap w64 (get_or sums k (pos 0) +ℤ z)) (lane ∙ pair_run input c.args.place k c.requires.room below)
