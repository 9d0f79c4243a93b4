use Rattle.std.proofs.Common.{List, refl, ap, ◌∙◌}
use Rattle.std.specs.List.{refill}
use Rattle.nd_base.specs.Lending.{with_elements}
use Rattle.nd_base.proofs.seq.Seq.as_mut_slice.Goals as goal

pub returns : goal.returns
returns g c =
    let v = c.self.inside.items in (
      (refl, λ (w : List g.row.T.Denot). ap (λ n. refill n v.items w) v.ok.0 ∙ ap (λ old. with_elements old w) c.self.view_is),
      record { writes_back = tt; value = c.as_mut_slice.ensures.value ∙ c.self.view_is },
    )
