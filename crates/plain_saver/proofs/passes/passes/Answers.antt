use Rattle.std.proofs.Common.{◌≡◌, inl, inr, ◌+◌, List, length, refl, ap, ◌∙◌, arith}
use Rattle.std.proofs.lemmas.Bool.{cases_lt}
use Rattle.std.proofs.lemmas.List.{length-append}
use Rattle.chain_plain.specs.PlainRun.{passed}
use Rattle.plain_saver.specs.declared.passes.Pass.{Pass}
use Rattle.plain_saver.specs.Passes.{pass_at}
use Rattle.plain_saver.proofs.Pushed.{pass_at-none, pass_at-push, pass_at-last, none-more}
use Rattle.plain_saver.proofs.passes.passes.Goals as goal

pub loop-place-init : goal.loop-place-init
loop-place-init c =
    record {
      count = ap length c.new-passes.ensures.items;
      positions = λ v some few. absurd (omega (arith, some, few));
      none = λ v. ap (λ ps. (pass_at ps v).gone) c.new-passes.ensures.items ∙ ap (λ (p : Pass). p.gone) (pass_at-none v);
    }

pub loop-place-preserved : goal.loop-place-preserved
loop-place-preserved c =
    let g = c.args.source.now.graph in
    let s = c.args.source.now.stack in
    let ps = c.loop-place.passes.items in
    let p : Pass = record { positions = c.new.result; gone = 0 } in
    let count = c.loop-place.invariant.count in
    let all = c.in_ok-push.ensures.items in
    record {
      count = ap length all ∙ length-append ps _ ∙ ap (λ n. n + 1) count;
      positions = λ v some few. elim (cases_lt v (length ps + 1)) [
        | inl low ↦
            ap (λ (qs : List Pass). (pass_at qs v).positions) all ∙ ap (λ (q : Pass). q.positions) (pass_at-push ps p v (omega (arith, low)))
            ∙ c.loop-place.invariant.positions v some (omega (arith, low, count))
        | inr high ↦
            let last : v ≡ length ps + 1 = omega (arith, high, few, count) in
            ap (λ (qs : List Pass). (pass_at qs v).positions) all ∙ ap (λ (q : Pass). q.positions) (pass_at-last ps p v last)
            ∙ (c.new.ensures ∙ c.in_ok-positions.ensures) ∙ ap (passed g s) (omega (arith, last, count))
      ];
      none = λ v. ap (λ (qs : List Pass). (pass_at qs v).gone) all ∙ none-more ps p refl c.loop-place.invariant.none v;
    }

pub returns-clause-positions : goal.returns-clause-positions
returns-clause-positions c =
    let inv = c.loop-place.invariant in
    let all : c.loop-place.place ≡ length c.args.source.now.graph.nodes = omega (arith, ap length c.rules-place-end.ensures.value) in
    record {
      count = inv.count ∙ all;
      positions = λ v some few. inv.positions v some (omega (arith, few, all));
      gone = λ v some few. let n = inv.none v in omega (arith, n);
    }

pub returns-clause-none : goal.returns-clause-none
returns-clause-none c = c.loop-place.invariant.none
