use Rattle.std.proofs.Common.{rules, arith, ◌≡◌, ◌+◌, ◌∷◌, [], ◌∙◌, ap, subst, sym, List}
use Rattle.std.specs.Prelude.{vec_len, All}
use Rattle.std.proofs.lemmas.List.Elements.{All-push}
use Rattle.turn_lock.specs.declared.crowd.Job.{Job}
use Rattle.turn_lock.specs.Views.{no_moves}
use Rattle.turn_lock.specs.Counting.{IsReady}
use Rattle.turn_lock.proofs.Counts.{popped}
use Rattle.turn_lock.proofs.crowd.jobs.Goals as goal

pub loop-pass-preserved : goal.loop-pass-preserved
loop-pass-preserved c = let inv = c.loop-pass.invariant in let less : vec_len c.loop-pass.passes ≡ vec_len c.pop.new.self + 1 = search rules in
    let is = popped c.args.lock.now.id c.loop-pass.passes.items c.pop.new.self.items c.in-Some.pass (vec_len c.loop-pass.passes)
    (vec_len c.pop.new.self) (search rules) inv.0 less in
    let role : vec_len c.pop.new.self ≡ c.len-role.result = search rules in (
      is.0,
      omega (arith, less, inv.1),
      subst (λ (l : List Job). All (λ j. IsReady c.args.lock.now.id j) l) (sym c.push_reserved.ensures.items)
          (All-push (λ j. IsReady c.args.lock.now.id j) c.loop-pass.jobs.items _ inv.2
          (ap (λ p. p.lock) is.1, ap (λ p. p.made) is.1 ∙ ap (λ k. no_moves k ∷ []) role)),
      search rules,
      search rules,
    )
