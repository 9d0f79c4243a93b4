use Rattle.std.proofs.Common.{◌≡◌, ◌%◌, ◌∷◌, [], ◌++◌, ℕ, Bool, true, false, get_or, ap, sym, ◌∙◌}
use Rattle.std.specs.Prelude.{◌==◌}
use Rattle.std.proofs.lemmas.Bool.{eq-eqb, ne_eqb}
use Rattle.plain_saver.proofs.Dealt.{at_positions-yes, at_positions-no}
use Rattle.plain_saver.proofs.passing.dealt.Goals as goal
use Rattle.plain_saver.proofs.passing.dealt.Goals.{then-turn-children+in_ok-push, else-turn-children}

pub loop-turn-preserved : goal.loop-turn-preserved
loop-turn-preserved c =
    let test : ℕ → Bool = λ j. j % c.args.children == c.args.place in
    let ks = c.args.positions.now in
    let turn = c.loop-turn.turn in
    elim c.if-turn-children.branch [
      | then-turn-children+in_ok-push w ↦
          let here : test turn ≡ true = eq-eqb (turn % c.args.children) c.args.place w.if-turn-children.true in
          let longer : c.if-turn-children.own.items ≡ c.loop-turn.own.items ++ get_or ks turn 0 ∷ [] =
          ap (λ v. v.items) w.own-is ∙ w.in_ok-push.ensures.items in
          longer ∙ ap (λ own. own ++ get_or ks turn 0 ∷ []) c.loop-turn.invariant ∙ sym (at_positions-yes test ks turn 0 c.loop-turn-test.true here)
      | else-turn-children w ↦
          let away : test turn ≡ false = ne_eqb (turn % c.args.children) c.args.place w.if-turn-children.false in
          ap (λ v. v.items) w.own-is ∙ c.loop-turn.invariant ∙ sym (at_positions-no test ks turn 0 c.loop-turn-test.true away)
    ]
