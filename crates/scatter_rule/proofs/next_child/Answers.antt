use Rattle.std.proofs.Common.{◌≡◌, ℕ, Bool, find, ap, sym, ◌∙◌, ◌-◌, length, arith}
use Rattle.std.specs.List.{range_with_len}
use Rattle.scatter_rule.specs.Rounds.{has_room, choice}
use Rattle.scatter_rule.proofs.Places.{find-either, find-second}
use Rattle.scatter_rule.proofs.next_child.Goals as goal

from_0 : (p : ℕ → Bool) (n : ℕ) → find p (range_with_len 0 n) ≡ find p (range_with_len 0 (n - 0))
from_0 p n = let e : n ≡ n - 0 = omega arith in ap (λ (m : ℕ). find p (range_with_len 0 m)) e

pub returns-in-Some : goal.returns-in-Some
returns-in-Some c =
    let p : ℕ → Bool = has_room c.args.queued.now c.args.sizes.now in
    sym (ap choice (find-either p (range_with_len c.args.turn (length c.args.queued.now - c.args.turn)) (range_with_len 0 c.args.turn) c.in-Some.place
    (sym c.in-Some.ensures)))

pub returns-in-Some-first_with_room : goal.returns-in-Some-first_with_room
returns-in-Some-first_with_room c =
    let p : ℕ → Bool = has_room c.args.queued.now c.args.sizes.now in
    sym (ap choice (find-second p (range_with_len c.args.turn (length c.args.queued.now - c.args.turn)) (range_with_len 0 c.args.turn)
    (sym c.in_default.ensures) ∙ (from_0 p c.args.turn ∙ sym c.in-Some-first_with_room.ensures)))

pub returns-in-None : goal.returns-in-None
returns-in-None c =
    let p : ℕ → Bool = has_room c.args.queued.now c.args.sizes.now in
    sym (ap choice (find-second p (range_with_len c.args.turn (length c.args.queued.now - c.args.turn)) (range_with_len 0 c.args.turn)
    (sym c.in_default.ensures) ∙ (from_0 p c.args.turn ∙ sym c.in-None.ensures)))
