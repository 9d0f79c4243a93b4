use Rattle.std.proofs.Common.{◌≡◌, length, vec_len, drop, ap, sym, ◌∙◌, arith, slice_get}
use Rattle.std.proofs.lemmas.List.{take_at}
use Rattle.flow_run.proofs.threads.run_roles.Goals as goal

pub returns-clause-back : goal.returns-clause-back
returns-clause-back g c k v x is at =
    let seats = c.work_all.new.seats in
    let many : length seats ≡ vec_len c.args.workers.now = omega (arith, c.work_all.ensures.seats, c.as_mut_slice.ensures.len) in
    c.work_all.ensures.back k v x is
    (ap (λ xs. slice_get xs k) (sym (take_at seats (drop (length seats) c.args.workers.now.items) (vec_len c.args.workers.now) many)) ∙ at)
