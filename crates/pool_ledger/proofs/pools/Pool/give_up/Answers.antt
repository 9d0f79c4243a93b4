use Rattle.std.proofs.Common.{◌≡◌, ◌∙◌, ap, take, arith}
use Rattle.pool_ledger.specs.Ledger.{largest_first, without_blocks}
use Rattle.pool_ledger.proofs.Giving.{given_up_none, given_up_more, given_up_left}
use Rattle.pool_ledger.proofs.pools.Pool.give_up.Goals as goal

pub loop-init : goal.loop-init
loop-init c = given_up_none c.args.self.now

pub give_largest-requires : goal.give_largest-requires
give_largest-requires c = given_up_left c.args.self.now c.loop.self c.loop.counter c.args.count c.loop.invariant c.loop-test.true c.requires

pub loop-preserved : goal.loop-preserved
loop-preserved c =
    given_up_more c.args.self.now c.loop.self c.give_largest.new.self c.loop.counter c.loop.invariant c.give_largest.ensures.given
    c.give_largest.ensures.rest c.give_largest.ensures.room

pub returns : goal.returns
returns c =
    let all : c.loop.counter ≡ c.args.count = omega (arith, c.loop.auto.counter-end, c.loop-test.false) in
    record {
      given = c.loop.invariant.so_far ∙ ap (λ i. without_blocks (take i (largest_first c.args.self.now)) c.args.self.now) all;
      room = c.loop.invariant.room;
    }
