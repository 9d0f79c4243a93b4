use Rattle.std.proofs.Common.{◌≡◌, ◌<◌, ◌≤◌, true, false, nat_lt, length, get_or, ap, sym, ◌∙◌, arith, Some}
use Rattle.std.proofs.lemmas.Bool.{lt-ltb, le-ltb}
use Rattle.cdf_read.specs.declared.head.HeadVar.{HeadVar}
use Rattle.cdf_read.specs.Places.{values_end}
use Rattle.cdf_read.specs.PlaceLaws.{position-first, position-none, fails_more}
use Rattle.cdf_read.proofs.place.short_var.Goals as goal

pub returns-then-values_end-total : goal.returns-then-values_end-total
returns-then-values_end-total c =
    let vars = c.args.header.now.vars in
    let ends = λ (v : HeadVar). nat_lt c.args.total (values_end c.args.header.now v) in
    let i = c.loop-var.var-index in
    let var = c.var-item.result in
    let here : var ≡ get_or vars i var = rw (← c.as_slice-var-items.ensures) c.var-item.is in
    let within : i < length vars = rw (← c.as_slice-var-items.ensures) c.loop-var-test.true in
    let late : ends var ≡ true = lt-ltb _ _ (omega (arith, c.values_end.ensures, c.if-values_end-total.true)) in
    ap Some c.loop-var.invariant.place ∙ sym (position-first ends vars i var within here late (λ k h. c.loop-var.invariant.earlier k var h))

pub loop-var-preserved : goal.loop-var-preserved
loop-var-preserved c =
    let vars = c.args.header.now.vars in
    let ends = λ (v : HeadVar). nat_lt c.args.total (values_end c.args.header.now v) in
    let i = c.loop-var.var-index in
    let var = c.var-item.result in
    let here : var ≡ get_or vars i var = rw (← c.as_slice-var-items.ensures) c.var-item.is in
    let within : i < length vars = rw (← c.as_slice-var-items.ensures) c.loop-var-test.true in
    let inside : ends var ≡ false = le-ltb _ _ (omega (arith, c.values_end.ensures, c.if-values_end-total.false)) in
    record {
      place = omega arith;
      earlier = fails_more ends vars i var within here inside c.loop-var.invariant.earlier;
    }

pub returns : goal.returns
returns c =
    let vars = c.args.header.now.vars in
    let ends = λ (v : HeadVar). nat_lt c.args.total (values_end c.args.header.now v) in
    let i = c.loop-var.var-index in
    let done : length vars ≤ i = rw (← c.as_slice-var-items.ensures) c.loop-var-test.false in
    sym (position-none ends vars (λ k d h. c.loop-var.invariant.earlier k d (omega arith)))
