use Rattle.std.proofs.Common.{rules, ◌≡◌, ◌/◌, ℕ, [], length, refl, ap, sym, ◌∙◌, w64, FitsSigned}
use Rattle.std.proofs.lemmas.Int.{to_z-of_z}
use Rattle.nd_base.specs.Samples.{width, numbers}
use Rattle.nd_base.specs.Places.{size_in}
use Rattle.nd_stats.specs.Samples.{placed}
use Rattle.nd_stats.specs.Measured.{value_where, has_index}
use Rattle.nd_stats.proofs.Rooms.{profile_on, profile_off}
use Rattle.nd_stats.proofs.Tables.{length-table, slice_whole}
use Rattle.nd_stats.proofs.Totals.{whole_sums}
use Rattle.nd_stats.proofs.measures.tally_lines.Goals as goal

pub returns-then-rule : goal.returns-then-rule
returns-then-rule c =
    let rule = c.args.rule.now in
    let dims = c.args.dims.now in
    let kind = c.args.kind in
    let bytes = c.args.samples.now in
    let n : ℕ = length bytes / width kind in
    let xs = placed c.args.from (numbers kind n bytes) in
    let ft : FitsSigned w64 c.basics_of-total.result.total = search rules in
    let fe : FitsSigned w64 c.basics_of-total.result.edge.sum = search rules in
    let count : length bytes / c.width.result ≡ n = ap (λ w. length bytes / w) c.width.ensures in
    let long = λ (d : ℕ). length-table (λ k. value_where (has_index dims d k) xs) 0 (size_in dims d) in
    let blank = λ (d : ℕ). length-table (λ k. value_where (has_index dims d k) []) 0 (size_in dims d) in
    record {
      extremes = c.basics_of-total.ensures.extremes;
      sums = whole_sums rule dims kind c.args.from n bytes c.basics_of-total.result.edge _ c.basics_of-total.ensures.edge count
          (to_z-of_z w64 c.basics_of-total.result.total ft
          ∙ c.basics_of-total.ensures.total) c.basics_of-total.ensures.squares (to_z-of_z w64 c.basics_of-total.result.edge.sum fe) refl;
      moments = c.basics_of-total.ensures.moments;
      histogram = c.histogram_of.ensures;
      x = slice_whole c.args.blank.x.items c.add_profiles.new.columns _ (sym c.args.blank.x.ok.0) (ap length c.add_profiles.ensures.columns ∙ long 0
          ∙ sym (ap length (c.requires.blank.x ∙ profile_on rule dims 0 [] c.if-rule.true) ∙ blank 0)) ∙ c.add_profiles.ensures.columns
          ∙ sym (profile_on rule dims 0 xs c.if-rule.true);
      y = slice_whole c.args.blank.y.items c.add_profiles.new.rows _ (sym c.args.blank.y.ok.0) (ap length c.add_profiles.ensures.rows ∙ long 1
          ∙ sym (ap length (c.requires.blank.y ∙ profile_on rule dims 1 [] c.if-rule.true) ∙ blank 1)) ∙ c.add_profiles.ensures.rows
          ∙ sym (profile_on rule dims 1 xs c.if-rule.true);
    }

pub returns-else-rule : goal.returns-else-rule
returns-else-rule c =
    let rule = c.args.rule.now in
    let dims = c.args.dims.now in
    let kind = c.args.kind in
    let bytes = c.args.samples.now in
    let n : ℕ = length bytes / width kind in
    let xs = placed c.args.from (numbers kind n bytes) in
    let ft : FitsSigned w64 c.basics_of-total.result.total = search rules in
    let fe : FitsSigned w64 c.basics_of-total.result.edge.sum = search rules in
    let count : length bytes / c.width.result ≡ n = ap (λ w. length bytes / w) c.width.ensures in
    record {
      extremes = c.basics_of-total.ensures.extremes;
      sums = whole_sums rule dims kind c.args.from n bytes c.basics_of-total.result.edge _ c.basics_of-total.ensures.edge count
          (to_z-of_z w64 c.basics_of-total.result.total ft
          ∙ c.basics_of-total.ensures.total) c.basics_of-total.ensures.squares (to_z-of_z w64 c.basics_of-total.result.edge.sum fe) refl;
      moments = c.basics_of-total.ensures.moments;
      histogram = c.histogram_of.ensures;
      x = c.requires.blank.x ∙ profile_off rule dims 0 [] c.if-rule.false ∙ sym (profile_off rule dims 0 xs c.if-rule.false);
      y = c.requires.blank.y ∙ profile_off rule dims 1 [] c.if-rule.false ∙ sym (profile_off rule dims 1 xs c.if-rule.false);
    }
