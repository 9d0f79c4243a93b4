-- Two calls with replies that are known.
use Rattle.std.proofs.Common.{◌≡◌, subst₂}
use Rattle.flow_journal.specs.Setting.{Setting}
use Rattle.board_rules.specs.Runs.{Frames}
use Rattle.flow_roles.specs.declared.operation.DeskOp.{DeskOp}
use Rattle.flow_roles.specs.declared.operation.DeskReply.{DeskReply}
use Rattle.flow_roles.specs.Operations.{tick_of, Replies, said_reply}
use Rattle.flow_roles.specs.Passes.{Pass, CalledBoth}

pub both-replied : {F B O : Type 0} (fs : Frames F B) (s : Setting) (o p : DeskOp F) (a b x y : DeskReply F B O) (old new : Pass) → a ≡ x → b ≡ y
    → CalledBoth s (λ was is. Replies fs s was o a is) (λ was is. Replies fs s was p b is) (said_reply (tick_of o) a) (said_reply (tick_of p) b) old new
    → CalledBoth s (λ was is. Replies fs s was o x is) (λ was is. Replies fs s was p y is) (said_reply (tick_of o) x) (said_reply (tick_of p) y) old new
both-replied {F} {B} {O} fs s o p a b x y old new first second c =
    subst₂ (λ (u v : DeskReply F B O). CalledBoth s (λ was is. Replies fs s was o u is) (λ was is. Replies fs s was p v is)
    (said_reply (tick_of o) u) (said_reply (tick_of p) v) old new) first second c
