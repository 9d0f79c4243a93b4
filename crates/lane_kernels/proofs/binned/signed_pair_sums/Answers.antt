use Rattle.std.proofs.Common.{◌≡◌, ℕ, ◌+◌, ◌*◌, ◌<◌, ◌∷◌, [], get_or, take, drop, of_z, pos, w32, ap, refl, ◌∙◌, arith}
use Rattle.std.specs.Int.{from_be_bytes}
use Rattle.std.proofs.lemmas.Int.{of_z-to_z}
use Rattle.std.proofs.lemmas.List.{drop-drop}
use Rattle.std.proofs.lemmas.List.Elements.{All-take}
use Rattle.nd_base.specs.declared.array.SampleType.TheVariants.{Int16, Int32}
use Rattle.nd_base.specs.Samples.{number, numbers}
use Rattle.nd_base.specs.SampleLaws.{below_32}
use Rattle.lane_kernels.specs.Plain.{run}
use Rattle.lane_kernels.proofs.Rows.{bytes_behind}
use Rattle.lane_kernels.proofs.Slices.{get_or-numbers}
use Rattle.lane_kernels.proofs.Twos.{signed_halves, signed_two_of_word}
use Rattle.lane_kernels.proofs.binned.signed_pair_sums.Goals as goal

pub returns : goal.returns
returns c =
    let line = c.args.line.now in
    let place = c.args.place in
    let fit = c.type_inv.line in
    let words = drop (place * 2) line in
    let at : (k : ℕ) → k < 4 → signed_halves (of_z w32 (get_or (numbers Int32 4 words) k (pos 0))) ≡ run Int16 line 2 (place + k * 2) = λ k h.
    let p = place + k * 2 in
    let rest = drop (p * 2) line in
    let word = from_be_bytes w32 (take 4 rest) in
    let here : drop (k * 4) words ≡ rest = drop-drop (k * 4) (place * 2) line ∙ ap (λ n. drop n line) (omega arith) in
    let below = below_32 (take 4 rest) (All-take (λ b. b < 256) 4 rest (bytes_behind (p * 2) line fit)) in
    ap (λ z. signed_halves (of_z w32 z)) (get_or-numbers Int32 4 k words h)
    ∙ ap (λ l. signed_halves (of_z w32 (number Int32 (take 4 l)))) here
    ∙ ap signed_halves (of_z-to_z w32 word below)
    ∙ signed_two_of_word line p fit word refl (omega (arith, h, c.requires)) in
    let p0 = at 0 (omega arith) in
    let p1 = at 1 (omega arith) in
    let p2 = at 2 (omega arith) in
    let p3 = at 3 (omega arith) in
    rw c.signed_words_at-row.ensures (λ i. p0 i ∷ p1 i ∷ p2 i ∷ p3 i ∷ [])
