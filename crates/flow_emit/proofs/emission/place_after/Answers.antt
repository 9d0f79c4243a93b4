use Rattle.std.proofs.Common.{◌∙◌, ◌%◌, ◌+◌, ◌==◌, ℕ, ap, length, Option}
use Rattle.std.specs.Option.{unwrap_or}
use Rattle.flow_emit.proofs.InTurn.{place-found}
use Rattle.flow_emit.proofs.emission.place_after.Goals as goal

pub returns : goal.returns
returns c =
    let found =
    c.unwrap_or-place.ensures
    ∙ (ap (λ (o : Option ℕ). unwrap_or o (length c.args.children.now)) c.place_of.ensures ∙ place-found (λ b. b == c.args.child) c.args.children.now) in
    ap (λ (n : ℕ). (n + 1) % length c.args.children.now) found
