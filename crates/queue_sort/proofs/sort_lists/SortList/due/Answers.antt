-- What was read in front is what goes out, if it does.
use Rattle.std.proofs.Common.{◌≡◌, ◌-◌, ◌<◌, ◌∙◌, sym, false, FitsSigned, w64, rules, slice_get, Some, length}
use Rattle.std.proofs.lemmas.Int.{to_z-of_z}
use Rattle.queue_sort.specs.Sorting.{keeps_step}
use Rattle.queue_sort.proofs.Looks.{front_is, none_due, some_due}
use Rattle.queue_sort.proofs.sort_lists.SortList.due.Goals as goal
use Rattle.queue_sort.proofs.sort_lists.SortList.due.Goals.{else-late-via-then-late+else-now-least, else-late-via-else-late}

pub returns-then-now-least-clause-answer : goal.returns-then-now-least-clause-answer
returns-then-now-least-clause-answer g c =
    let fits : FitsSigned w64 c.in_ok-least.least.now.id = search rules in
    let some : 0 < length c.self.inside.waiting.items = search rules in
    let first : slice_get c.args.self.now.waiting 0 ≡ Some c.in_ok-least.least.now = rw (← c.self.view_is) (front_is _ _ some c.in_ok-least.ensures.lookup) in
    none_due _ _ _ _ _ first (sym (rw to_z-of_z at c.keeps_step-late.ensures) ∙ c.if-late.true) c.if-now-least.true

pub returns-clause-answer : goal.returns-clause-answer
returns-clause-answer g c =
    let fits : FitsSigned w64 c.in_ok-least.least.now.id = search rules in
    let fits_too : FitsSigned w64 c.in_ok-due.due.id = search rules in
    let some : 0 < length c.self.inside.waiting.items = search rules in
    let first : slice_get c.args.self.now.waiting 0 ≡ Some c.in_ok-least.least.now = rw (← c.self.view_is) (front_is _ _ some c.in_ok-least.ensures.lookup) in
    let taken : slice_get c.args.self.now.waiting 0 ≡ Some c.in_ok-due.due = sym c.in_ok-due.ensures.least in
    let same : c.in_ok-least.least.now ≡ c.in_ok-due.due = cc in
    let step : c.keeps_step-late.result ≡ keeps_step c.args.self.now.last c.in_ok-due.due.id = rw (← same) (rw to_z-of_z at c.keeps_step-late.ensures) in
    let long : c.keeps_step-late.result ≡ false → c.args.sort_time < c.args.now - c.in_ok-due.due.tick = λ no. elim c.else-late.branch [
      | else-late-via-then-late+else-now-least w ↦ rw (← same) w.if-now-least.false
      | else-late-via-else-late w ↦ cc
    ] in
    rw to_z-of_z (some_due _ _ _ _ c.in_ok-due.due _ taken step long)
