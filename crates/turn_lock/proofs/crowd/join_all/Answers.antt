use Rattle.std.proofs.Common.{rules, ◌≡◌, ◌+◌, ◌++◌, ◌∙◌, ap, sym, subst, arith, length, length-append, vec_len}
use Rattle.std.specs.Prelude.{IfOk, IfSome, Some, Ok}
use Rattle.std.proofs.lemmas.List.Elements.{All-pop}
use Rattle.turn_lock.specs.Counting.{IsCountDone, EachCounted}
use Rattle.turn_lock.proofs.Counts.{each_append}
use Rattle.turn_lock.proofs.crowd.join_all.Goals as goal

pub loop-end-init : goal.loop-end-init
loop-end-init c = let id = c.args.lock.now.id in
    let both = All-pop (λ r. IfOk r (λ p. IsCountDone id c.args.times p)) c.args.ends.items c.pop.new.self.items c.pop.result (search rules) c.requires.done in
    let done : IsCountDone id c.args.times c.in_ok-keep.keep =
    subst (λ r. IfSome r (λ e. IfOk e (λ p. IsCountDone id c.args.times p))) {y = Some (Ok c.in_ok-keep.keep)} (search rules) both.1 in
    let less : vec_len c.args.ends ≡ vec_len c.pop.new.self + 1 = search rules in let one = done.1 in
    (done.0, omega (arith, less, one), done.2, both.0)

pub loop-end-preserved : goal.loop-end-preserved
loop-end-preserved c = let id = c.args.lock.now.id in let inv = c.loop-end.invariant in
    let both = All-pop (λ r. IfOk r (λ p. IsCountDone id c.args.times p)) c.loop-end.ends.items c.pop-in-loop-end.new.self.items c.pop-in-loop-end.result
    (search rules) inv.3 in
    let done : IsCountDone id c.args.times c.in_ok-end.field-0 =
    subst (λ r. IfSome r (λ e. IfOk e (λ p. IsCountDone id c.args.times p))) {y = Some (Ok c.in_ok-end.field-0)} (search rules) both.1 in
    let made : c.join.new.keep.made ≡ c.loop-end.keep.made ++ c.in_ok-end.field-0.made = ap (λ p. p.made) c.join.ensures.pass in
    let less : vec_len c.loop-end.ends ≡ vec_len c.pop-in-loop-end.new.self + 1 = search rules in let one = done.1 in
    let sum = ap length made ∙ length-append c.loop-end.keep.made c.in_ok-end.field-0.made in (
      ap (λ p. p.lock) c.join.ensures.pass ∙ inv.0,
      omega (arith, less, one, sum, inv.1),
      subst (EachCounted c.args.times) (sym made) (each_append c.args.times c.loop-end.keep.made c.in_ok-end.field-0.made inv.2 done.2),
      both.0,
    )
