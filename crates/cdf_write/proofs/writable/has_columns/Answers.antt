use Rattle.std.proofs.Common.{◌≡◌, ◌+◌, ◌<◌, length, map, get_or, ap, ◌∙◌, subst, arith, below_more}
use Rattle.std.proofs.lemmas.List.{length-map, get_or_default}
use Rattle.nd_base.specs.declared.attribute.Attr.{Attr}
use Rattle.cdf_write.specs.Writable.{FitsIn}
use Rattle.cdf_write.proofs.ColumnTests.{attr_at, columns_more, columns_at}
use Rattle.cdf_write.proofs.writable.has_columns.Goals as goal
use Rattle.cdf_write.proofs.writable.has_columns.Goals.{After-is_in_column}

-- the attribute that is looked at
abbrev here : After-is_in_column → Attr
here c = record { name = c.index-names-i.result; value = c.index-values-i.result }

within : (c : After-is_in_column) → c.loop-i.i < length c.args.attrs.now
within c =
    let long = ap length c.names-names.ensures ∙ length-map c.args.attrs.now (λ (a : Attr). a.name) in
    omega (arith, long, c.if-columns-names.false, c.loop-i-test.true)

here_at : (c : After-is_in_column) → here c ≡ get_or c.args.attrs.now c.loop-i.i (here c)
here_at c =
    attr_at c.args.attrs.now c.loop-i.i (here c) (within c) (rw (← c.names-names.ensures) c.index-names-i.is) (rw (← c.values-values.ensures) c.index-values-i.is)

column_at : (c : After-is_in_column) → c.index-columns-i.result ≡ get_or c.args.shape.now.attrs c.loop-i.i c.index-columns-i.result
column_at c = rw (← c.as_slice-columns.ensures) c.index-columns-i.is

pub returns-then-not-is_in_column : goal.returns-then-not-is_in_column
returns-then-not-is_in_column c =
    let a = (goal.at.returns-then-not-is_in_column c).After-is_in_column in (
      λ h. absurd (cc),
      λ h. let all = c.is_in_column.ensures.1
          (columns_at c.args.shape.now c.args.attrs.now c.loop-i.i (here a) c.index-columns-i.result h (within a) (here_at a) (column_at a)) in cc,
    )

pub loop-i-preserved : goal.loop-i-preserved
loop-i-preserved c =
    let a = (goal.at.loop-i-preserved c).After-is_in_column in
    let shape = c.args.shape.now in
    let attrs = c.args.attrs.now in
    let i = c.loop-i.i in
    let all = c.is_in_column.ensures.0 c.if-not-is_in_column.false in
    let inside : i < length shape.attrs = rw (← c.as_slice-columns.ensures) c.loop-i-test.true in
    record {
      same = columns_more attrs shape.attrs i (here a) c.index-columns-i.result (within a) inside (here_at a) (column_at a) all.0 all.1 c.loop-i.invariant.same;
      texts = λ k d. below_more (λ m. FitsIn shape.width (get_or attrs m d).value) i (λ m h. c.loop-i.invariant.texts m d h)
          (subst (λ (x : Attr). FitsIn shape.width x.value) (here_at a ∙ get_or_default attrs i (here a) d (within a)) all.2) k;
    }
