use Rattle.std.proofs.Common.{◌≢◌, ◌<◌, true, false, refl, sym, ◌∙◌, arith}
use Rattle.trig_window.proofs.Stored.{at_window, unchanged, as_fired, stored-inside, stored-complete, stored-fired, stored-kept, stored-let_go, stored-kept_for}
use Rattle.trig_window.proofs.window.Window.push.Goals as goal
use Rattle.trig_window.proofs.window.Window.push.Goals.{else-self-gt0-2-via-then-self-gt0-2+else-self-eq0, else-self-gt0-2-via-else-self-gt0-2, in-None}
use Rattle.trig_window.proofs.window.Window.push.Goals.{in-Some, in-Some-2}

pub returns-then-self-gt0-clause-push : goal.returns-then-self-gt0-clause-push
returns-then-self-gt0-clause-push g c =
    let i = c.self.inside in
    λ flags. at_window _ _ flags c.args.fired c.args.item _ _ c.self.view_is c.requires
    (λ after none. stored-inside i.pre i.post i.preset i.left i.wanted i.pending i.stored c.self.invariant flags c.args.item after
    none c.args.fired c.if-self-gt0.true)

pub returns-then-self-eq0-clause-push : goal.returns-then-self-eq0-clause-push
returns-then-self-eq0-clause-push g c =
    let i = c.self.inside in
    λ flags. unchanged _ _ flags c.args.fired c.args.item _ c.self.view_is c.requires
    (λ after none. stored-complete i.pre i.post i.preset i.left i.wanted i.pending i.stored c.self.invariant flags c.args.item after none c.args.fired
    (omega arith) c.if-self-gt0-2.true c.if-self-eq0.true)

pub returns-then-fired-clause-push : goal.returns-then-fired-clause-push
returns-then-fired-clause-push g c =
    let i = c.self.inside in
    let some : 0 < i.preset → i.wanted ≢ 0 =
    elim c.else-self-gt0-2.branch [
      | else-self-gt0-2-via-then-self-gt0-2+else-self-eq0 w ↦ λ above. w.if-self-eq0.false
      | else-self-gt0-2-via-else-self-gt0-2 w ↦ λ above e. omega (arith, w.if-self-gt0-2.false)
    ] in
    λ flags. at_window _ _ flags c.args.fired c.args.item _ _ c.self.view_is c.requires
    (λ after none. as_fired flags c.args.fired true c.args.item _ _ _ _ c.if-fired.true refl
    (stored-fired i.pre i.post i.preset i.left i.wanted i.pending i.stored c.self.invariant flags c.args.item after none
    (omega arith) some c.saturating_sub-self-inside.result c.len.result c.saturating_sub-self-inside.ensures c.len.ensures.len))

pub returns-clause-push : goal.returns-clause-push
returns-clause-push g c =
    let i = c.self.inside in
    let some : 0 < i.preset → i.wanted ≢ 0 =
    elim c.else-self-gt0-2.branch [
      | else-self-gt0-2-via-then-self-gt0-2+else-self-eq0 w ↦ λ above. w.if-self-eq0.false
      | else-self-gt0-2-via-else-self-gt0-2 w ↦ λ above e. omega (arith, w.if-self-gt0-2.false)
    ] in
    λ flags. at_window _ _ flags c.args.fired c.args.item _ _ c.self.view_is c.requires
    (λ after none.
    elim c.match-push_back.branch [
      | in-None w ↦ as_fired flags c.args.fired false c.args.item _ _ _ _ c.if-fired.false w.result-is
          (stored-kept i.pre i.post i.preset i.left i.wanted i.pending i.stored c.self.invariant flags c.args.item after none
          (omega arith) some c.push_back.new.self c.push_back.ensures.items (sym w.in-None.is ∙ c.push_back.ensures.value))
      | in-Some w ↦ as_fired flags c.args.fired false c.args.item _ _ _ _ c.if-fired.false w.result-is
          (stored-let_go i.pre i.post i.preset i.left i.wanted i.pending i.stored c.self.invariant flags c.args.item after none
          (omega arith) some c.push_back.new.self c.push_back.ensures.items _ w.if-self-eq0-2.true (sym w.in-Some.is ∙ c.push_back.ensures.value))
      | in-Some-2 w ↦ as_fired flags c.args.fired false c.args.item _ _ _ _ c.if-fired.false w.result-is
          (stored-kept_for i.pre i.post i.preset i.left i.wanted i.pending i.stored c.self.invariant flags c.args.item after none
          (omega arith) some c.push_back.new.self c.push_back.ensures.items _ w.if-self-eq0-2.false (sym w.in-Some.is ∙ c.push_back.ensures.value))
    ])
