use Rattle.std.proofs.Common.{◌≡◌, ◌++◌, sym, ap, ◌∙◌, subst}
use Rattle.turn_lock.specs.Logs.{moves_of}
use Rattle.turn_lock.proofs.Growth.{of_move, grown_own}
use Rattle.turn_lock.proofs.lock.play_both.Goals as goal

pub play-two-requires : goal.play-two-requires
play-two-requires g c =
    let begins = g.S.Object.begins in
    let old = g.S.Object.entries c.args.state.now in
    let new = g.S.Object.entries c.play-one.new.self in
    let r = g.S.Object.role c.args.first in
    let p = c.play-one.ensures in
    let is : moves_of begins (g.S.Object.role c.args.second) new ≡ moves_of begins r old ++ p.0 =
    ap (λ q. moves_of begins q new) c.requires.role ∙ (ap (moves_of begins r) p.1 ∙ grown_own begins r old p.0 (of_move begins r p.0 p.2)) in
    subst (λ mine. g.S.Object.may mine c.args.second) (sym is) (c.requires.second old p.0 c.play-one.result p.3)
