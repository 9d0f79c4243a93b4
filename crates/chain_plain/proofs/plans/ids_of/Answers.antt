use Rattle.std.proofs.Common.{rules, ◌≡◌, ◌∷◌, [], ◌++◌, ap, ◌∙◌, arith, add-one, w32, FitsSigned}
use Rattle.std.proofs.lemmas.Int.{to_z-of_z}
use Rattle.chain_plain.proofs.Makers.{ids_more}
use Rattle.chain_plain.proofs.plans.ids_of.Goals as goal

pub loop-k-preserved : goal.loop-k-preserved
loop-k-preserved c =
    let h = c.head.result.now in
    let within = c.loop-k-test.true in
    let fits : FitsSigned w32 h.id = search rules in
    let stored : c.push.new.self.items ≡ c.loop-k.ids.items ++ h.id ∷ [] =
    c.in_ok-push.ensures.items ∙ ap (λ x. c.loop-k.ids.items ++ x ∷ []) (to_z-of_z w32 h.id fits) in
    rw add-one (stored ∙ ap (λ ids. ids ++ h.id ∷ []) c.loop-k.invariant
    ∙ ids_more c.args.stack.now.arrays c.loop-k.k h (omega (arith, within, c.frames-k-end.ensures)) c.head.ensures)
