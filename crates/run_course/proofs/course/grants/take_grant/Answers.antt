use Rattle.std.proofs.Common.{◌≡◌, ◌∙◌, sym, ap, subst, true, length, arith, List, ℕ}
use Rattle.std.proofs.lemmas.Bool.{true≢false}
use Rattle.pool_ledger.specs.Grants.{Granted}
use Rattle.pool_ledger.specs.Ledger.{Ledger, after, grant_for, needs_room}
use Rattle.pool_account.specs.Account.{all_named}
use Rattle.frame_table.specs.Kept.{without_kept}
use Rattle.run_course.proofs.Granting.{after-room, after-unnamed}
use Rattle.run_course.proofs.course.grants.take_grant.Goals as goal
use Rattle.run_course.proofs.course.grants.take_grant.Goals.{then-grant+in_ok-make_room, else-grant}

pub ask-requires-clause-room : goal.ask-requires-clause-room
ask-requires-clause-room g c = λ needs.
    let old : Ledger = c.args.pool.now in
    let mid : Ledger = c.if-grant.pool in
    let same : mid ≡ record old { room = mid.room } = elim c.if-grant.branch [
      | then-grant+in_ok-make_room w ↦ w.pool-is ∙ (w.make_room.ensures.rest ∙ ap (λ (p : Ledger). record old { room = p.room }) (sym w.pool-is))
      | else-grant w ↦ w.pool-is ∙ ap (λ (p : Ledger). record old { room = p.room }) (sym w.pool-is)
    ] in
    let granted : grant_for c.args.need mid ≡ Granted c.args.grant.block c.args.grant.size c.args.grant.fresh c.args.grant.given_up =
    ap (grant_for c.args.need) same ∙ c.requires.granted in
    let fresh : c.args.grant.fresh ≡ true = sym (ap needs_room granted) ∙ needs in
    elim c.if-grant.branch [
      | then-grant+in_ok-make_room w ↦
          omega (arith, w.in_ok-make_room.ensures.made, ap (λ (p : Ledger). length p.known) w.pool-is, ap (λ (p : Ledger). p.room) w.pool-is)
      | else-grant w ↦ absurd (true≢false (sym fresh ∙ w.if-grant.false))
    ]

pub returns-clause-taken : goal.returns-clause-taken
returns-clause-taken g c =
    let old : Ledger = c.args.pool.now in
    let mid : Ledger = c.if-grant.pool in
    let a = Granted c.args.grant.block c.args.grant.size c.args.grant.fresh c.args.grant.given_up in
    let same : mid ≡ record old { room = mid.room } = elim c.if-grant.branch [
      | then-grant+in_ok-make_room w ↦ w.pool-is ∙ (w.make_room.ensures.rest ∙ ap (λ (p : Ledger). record old { room = p.room }) (sym w.pool-is))
      | else-grant w ↦ w.pool-is ∙ ap (λ (p : Ledger). record old { room = p.room }) (sym w.pool-is)
    ] in
    let granted : grant_for c.args.need mid ≡ a = ap (grant_for c.args.need) same ∙ c.requires.granted in
    let asked : c.ask.new.self ≡ after (record old { room = mid.room }) a =
    c.ask.ensures.after ∙ (ap (after mid) granted ∙ ap (λ (p : Ledger). after p a) same) in
    let named : c.forget_given.new.pool ≡ all_named (after (record old { room = mid.room }) a) = c.forget_given.ensures.pool ∙ ap all_named asked in
    subst (λ (y : Ledger). y ≡ record (all_named (after old a)) { room = y.room }) (sym named)
    (after-room old mid.room c.args.grant.block c.args.grant.size c.args.grant.fresh c.args.grant.given_up)

pub returns-clause-given : goal.returns-clause-given
returns-clause-given g c =
    let old : Ledger = c.args.pool.now in
    let mid : Ledger = c.if-grant.pool in
    let a = Granted c.args.grant.block c.args.grant.size c.args.grant.fresh c.args.grant.given_up in
    let same : mid ≡ record old { room = mid.room } = elim c.if-grant.branch [
      | then-grant+in_ok-make_room w ↦ w.pool-is ∙ (w.make_room.ensures.rest ∙ ap (λ (p : Ledger). record old { room = p.room }) (sym w.pool-is))
      | else-grant w ↦ w.pool-is ∙ ap (λ (p : Ledger). record old { room = p.room }) (sym w.pool-is)
    ] in
    let granted : grant_for c.args.need mid ≡ a = ap (grant_for c.args.need) same ∙ c.requires.granted in
    let asked : c.ask.new.self ≡ after (record old { room = mid.room }) a =
    c.ask.ensures.after ∙ (ap (after mid) granted ∙ ap (λ (p : Ledger). after p a) same) in
    c.forget_given.ensures.table
    ∙ ap (λ (p : Ledger). without_kept p.unnamed c.args.table.now) asked
    ∙ ap (λ (bs : List ℕ). without_kept bs c.args.table.now)
    (after-unnamed old mid.room c.args.grant.block c.args.grant.size c.args.grant.fresh c.args.grant.given_up)
