use Rattle.std.proofs.Common.{rules, ◌≡◌, ◌≢◌, ◌*◌, ◌^◌, ◌<◌, take, drop, ◌+ℤ◌, FitsSigned, to_z, of_z, ap, sym, ◌∙◌, subst, arith, below_more}
use Rattle.std.specs.Int.{w64}
use Rattle.std.specs.Int.RustNames.{unsigned_abs}
use Rattle.std.proofs.lemmas.Int.{to_z-of_z}
use Rattle.nd_base.specs.Samples.{width, number, sample_bytes}
use Rattle.nd_base.specs.SampleLaws.{IsSample, width-positive}
use Rattle.nd_orient.specs.Correction.{nearest, nearest_sample, scaled, corrected_sample}
use Rattle.nd_orient.specs.CorrectionLaws.{corrected_sample-IsSample, nearest_sample-near}
use Rattle.nd_orient.specs.Walk.{stored}
use Rattle.nd_orient.proofs.correction.correct_each.Goals as goal
use Rattle.nd_orient.proofs.correction.correct_each.Goals.{After-corrected-number}

pub nonzero_div-k-end : goal.nonzero_div-k-end
nonzero_div-k-end c = rw c.width-width.ensures (width-positive c.args.input.now.kind)

pub corrected-number-requires-clause-low : goal.corrected-number-requires-clause-low
corrected-number-requires-clause-low c =
    subst (λ z. unsigned_abs z < 2 ^ 33) (sym c.requires.low) (nearest_sample-near c.args.input.now.kind c.args.scale.rule.low)

pub corrected-number-requires-clause-high : goal.corrected-number-requires-clause-high
corrected-number-requires-clause-high c =
    subst (λ z. unsigned_abs z < 2 ^ 33) (sym c.requires.high) (nearest_sample-near c.args.input.now.kind c.args.scale.rule.high)

-- the number that is written
value : (c : After-corrected-number) → c.corrected-number.result ≡ corrected_sample c.args.scale.rule c.args.input.now.kind
    (stored c.args.input.now.kind c.args.input.now.bytes.now c.loop-k.k) (stored c.args.dark.now.kind c.args.dark.now.bytes.now c.loop-k.k)
value c =
    let scale = c.args.scale in
    let rule = scale.rule in
    let kind = c.args.input.now.kind in
    let input = c.args.input.now.bytes.now in
    let dark_kind = c.args.dark.now.kind in
    let dark = c.args.dark.now.bytes.now in
    let k = c.loop-k.k in
    let sample_fits : FitsSigned w64 c.number_at-sample.result = search rules in
    let dark_fits : FitsSigned w64 c.number_at-dark_sample.result = search rules in
    let sample = to_z-of_z w64 c.number_at-sample.result sample_fits ∙ c.number_at-sample.ensures.value
    ∙ ap (λ w. number kind (take (width kind) (drop (k * w) input))) c.width-width.ensures in
    let dark_sample = to_z-of_z w64 c.number_at-dark_sample.result dark_fits ∙ c.number_at-dark_sample.ensures.value
    ∙ ap (λ w. number dark_kind (take (width dark_kind) (drop (k * w) dark))) c.width-dark_width.ensures in
    c.corrected-number.ensures
    ∙ ap (λ v. nearest scale.low scale.high (scaled rule v (to_z w64 (of_z w64 c.number_at-dark_sample.result)) +ℤ rule.offset)) sample
    ∙ ap (λ d. nearest scale.low scale.high (scaled rule (stored kind input k) d +ℤ rule.offset)) dark_sample
    ∙ ap (λ low. nearest low scale.high (scaled rule (stored kind input k) (stored dark_kind dark k) +ℤ rule.offset)) c.requires.low
    ∙ ap (λ high. nearest (nearest_sample kind rule.low) high (scaled rule (stored kind input k) (stored dark_kind dark k) +ℤ rule.offset)) c.requires.high

written : (c : After-corrected-number) → to_z w64 (of_z w64 c.corrected-number.result) ≡ corrected_sample c.args.scale.rule c.args.input.now.kind
    (stored c.args.input.now.kind c.args.input.now.bytes.now c.loop-k.k) (stored c.args.dark.now.kind c.args.dark.now.bytes.now c.loop-k.k)
written c = let fits : FitsSigned w64 c.corrected-number.result = search rules in to_z-of_z w64 c.corrected-number.result fits ∙ value c

pub write_number-requires-clause-sample : goal.write_number-requires-clause-sample
write_number-requires-clause-sample c =
    let kind = c.args.input.now.kind in
    subst (IsSample kind) (sym (written ((goal.at.write_number-requires-clause-sample c).After-corrected-number)))
    (corrected_sample-IsSample c.args.scale.rule kind (stored kind c.args.input.now.bytes.now c.loop-k.k)
    (stored c.args.dark.now.kind c.args.dark.now.bytes.now c.loop-k.k) c.requires.rule)

pub loop-k-preserved : goal.loop-k-preserved
loop-k-preserved c =
    below_more _ _
    (λ k h. let other : k ≢ c.loop-k.k = omega arith in c.write_number.ensures.others k other ∙ c.loop-k.invariant k h)
    (c.write_number.ensures.here ∙ ap (sample_bytes c.args.input.now.kind) (written ((goal.at.loop-k-preserved c).After-corrected-number)))
