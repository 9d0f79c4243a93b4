use Rattle.std.proofs.Common.{rules, FitsSigned, w64, ◌≡◌, ◌≤◌, ◌*◌, ◌+◌, ◌-◌, ◌/◌, length, drop, arith, ap, sym, subst, ◌∙◌}
use Rattle.std.specs.Prelude.{unsigned_abs}
use Rattle.std.proofs.lemmas.Int.{to_z-of_z}
use Rattle.std.proofs.Math.Nat.{zero-mul}
use Rattle.nd_base.specs.Samples.{width, numbers}
use Rattle.nd_stats.specs.Samples.{placed}
use Rattle.nd_stats.specs.Over.{IsOver}
use Rattle.nd_stats.proofs.Parts.{parts-more}
use Rattle.nd_stats.proofs.Joinings.{over_join, part_count, joined_most}
use Rattle.nd_stats.proofs.over.unsigned_over.Goals as goal

pub returns-clause-over : goal.returns-clause-over
returns-clause-over c =
    let kind = c.args.kind in
    let bytes = c.args.block.now in
    let t = c.args.threshold in
    let ft : FitsSigned w64 t = search rules in
    let count = ap (λ w. length bytes / w) c.width.ensures in
    let n = length bytes / c.width.result in
    let done = n / 8 * 8 in
    let m = n - done in
    let first = subst (λ us. IsOver t (placed 0 us) c.rows_over-over.result)
    (c.part.ensures.values ∙ ap (λ k. numbers kind done (drop k bytes)) (zero-mul (width kind))) (simp to_z-of_z at c.rows_over-over.ensures.over) in
    let second = subst (λ us. IsOver t (placed 0 us) c.narrow_over-rest.result) c.part-2.ensures.values (simp to_z-of_z at c.narrow_over-rest.ensures.over) in
    let all : done + m ≡ length bytes / width kind = omega (arith, count) in
    subst (λ k. IsOver t (placed 0 (numbers kind k bytes)) c.join.new.self) all
    (subst (λ xs. IsOver t xs c.join.new.self) (sym (parts-more kind 0 done m bytes))
    (over_join t (placed 0 (numbers kind done bytes)) done (0 + done) (numbers kind m (drop (done * width kind) bytes)) c.rows_over-over.result
    c.narrow_over-rest.result c.join.new.self (omega arith) first second c.join.ensures.count c.join.ensures.sum c.join.ensures.weighted))

pub returns-clause-weighted : goal.returns-clause-weighted
returns-clause-weighted c =
    let kind = c.args.kind in
    let bytes = c.args.block.now in
    let count = ap (λ w. length bytes / w) c.width.ensures in
    let n = length bytes / c.width.result in
    let done = n / 8 * 8 in
    let m = n - done in
    let a = c.rows_over-over.result in
    let b = c.narrow_over-rest.result in
    let one : length c.part.result.now / width kind ≡ done = part_count kind done (length c.part.result.now) c.part.ensures.len in
    let two : length c.part-2.result.now / width kind ≡ m = part_count kind m (length c.part-2.result.now) c.part-2.ensures.len in
    let h = subst (λ k. unsigned_abs a.weighted ≤ k * 549755813888) one c.rows_over-over.ensures.weighted in
    let l = subst (λ k. unsigned_abs b.weighted ≤ k * 549755813888) two c.narrow_over-rest.ensures.weighted in
    let s = subst (λ k. unsigned_abs b.sum ≤ k * 4294967296) two c.narrow_over-rest.ensures.sum in
    let all : done + m ≡ length bytes / width kind = omega (arith, count) in
    subst (λ k. unsigned_abs c.join.new.self.weighted ≤ k * 8796093022208) all
    (joined_most a.weighted b.weighted b.sum c.join.new.self.weighted done done m c.join.ensures.weighted (omega (arith, count, c.requires.few)) h l s)
