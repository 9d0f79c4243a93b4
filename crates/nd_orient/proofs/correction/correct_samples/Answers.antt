use Rattle.std.proofs.Common.{rules, ◌≡◌, ℕ, ◌/◌, ◌<◌, length, subst, arith}
use Rattle.nd_base.specs.declared.array.SampleType.{SampleType}
use Rattle.nd_base.specs.Samples.{width, sample_bytes}
use Rattle.nd_orient.specs.declared.rule.CorrectRule.{CorrectRule}
use Rattle.nd_orient.specs.Correction.{corrected_sample}
use Rattle.nd_orient.specs.Walk.{cell, stored}
use Rattle.nd_orient.proofs.Corrected.{corrected_all}
use Rattle.nd_orient.proofs.correction.correct_samples.Goals as goal

pub returns-then-eq : goal.returns-then-eq
returns-then-eq c =
    let kind = c.args.input.now.kind in
    let bytes = c.args.input.now.bytes.now in
    let dark = c.args.dark.now.bytes.now in
    let out = c.correct_alike.new.out in
    let same : kind ≡ c.args.dark.now.kind = search rules in
    let long : length out ≡ length bytes = omega (arith, c.requires.output) in
    corrected_all c.args.rule.now kind c.args.dark.now.kind bytes dark out c.requires.rule long c.requires.dark
    (subst (λ (dark_kind : SampleType). (k : ℕ) → k < length bytes / width kind
    → cell (width kind) out k ≡ sample_bytes kind (corrected_sample c.args.rule.now kind (stored kind bytes k) (stored dark_kind dark k))) same
    (subst (λ (rule : CorrectRule). (k : ℕ) → k < length bytes / width kind
    → cell (width kind) out k ≡ sample_bytes kind (corrected_sample rule kind (stored kind bytes k) (stored kind dark k))) c.scale_for-scale.ensures.rule
    c.correct_alike.ensures))

pub returns-else-eq : goal.returns-else-eq
returns-else-eq c =
    let kind = c.args.input.now.kind in
    let bytes = c.args.input.now.bytes.now in
    let dark = c.args.dark.now.bytes.now in
    let dark_kind = c.args.dark.now.kind in
    let out = c.correct_each.new.out in
    let long : length out ≡ length bytes = omega (arith, c.requires.output) in
    corrected_all c.args.rule.now kind dark_kind bytes dark out c.requires.rule long c.requires.dark
    (subst (λ (rule : CorrectRule). (k : ℕ) → k < length bytes / width kind
    → cell (width kind) out k ≡ sample_bytes kind (corrected_sample rule kind (stored kind bytes k) (stored dark_kind dark k))) c.scale_for-scale.ensures.rule
    c.correct_each.ensures)
