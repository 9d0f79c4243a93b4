use Rattle.std.proofs.Common.{◌++◌, sym, subst, refl}
use Rattle.data_check.specs.Fronts.{FrontValue, HasFront, LacksFront}
use Rattle.data_check.proofs.Fronts.{front-more, front-other, front-short}
use Rattle.data_check.proofs.front.Front.goes_on.Goals as goal
use Rattle.data_check.proofs.front.Front.goes_on.Goals.{then-count-self-via-then-count-self, then-count-self-via-else-count-self+in_ok-has_part+then-not-branch}

pub returns-then-count-self-clause-goes : goal.returns-then-count-self-clause-goes
returns-then-count-self-clause-goes g c = λ front h.
    let told = g.L.Library.holds c.args.library.now in
    let bytes = c.args.bytes.now in
    let f : FrontValue = record { name = c.self.inside.name.now; size = c.self.inside.size; at = c.self.inside.at } in
    let fields : HasFront told f front = subst (λ (w : FrontValue). HasFront told w front) (sym c.self.view_is) h in
    elim c.then-count-self.branch [
      | then-count-self-via-then-count-self w ↦
          subst (λ (w : FrontValue). LacksFront told w.name (front ++ bytes)) c.self.view_is (front-short told f front bytes fields w.if-count-self.true)
      | then-count-self-via-else-count-self+in_ok-has_part+then-not-branch w ↦
          subst (λ (w : FrontValue). LacksFront told w.name (front ++ bytes)) c.self.view_is (front-other told f front bytes fields (λ file is has.
          let yes = (w.in_ok-has_part.ensures.same file is).1 has in let no = w.if-not-branch.true in cc))
    ]

pub returns-clause-goes : goal.returns-clause-goes
returns-clause-goes g c = λ front h.
    let told = g.L.Library.holds c.args.library.now in
    let f : FrontValue = record { name = c.self.inside.name.now; size = c.self.inside.size; at = c.self.inside.at } in
    let fields : HasFront told f front = subst (λ (w : FrontValue). HasFront told w front) (sym c.self.view_is) h in
    front-more told f front c.args.bytes.now fields _ refl (λ file is. (c.in_ok-has_part.ensures.same file is).0 c.if-not-branch.false)
