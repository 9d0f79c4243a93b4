use Rattle.std.proofs.Common.{◌≡◌, ℕ, ◌<◌, ◌++◌, ltb, filter, reverse, length, sym, ap, subst, ◌∙◌, Vec, Global}
use Rattle.std.specs.Prelude.{All}
use Rattle.std.specs.List.{filter_map}
use Rattle.std.proofs.lemmas.List.{append-nil, take_all}
use Rattle.data_check.specs.Histories.{HistoryValue, IsHistory, position_in}
use Rattle.data_check.proofs.Positions.{told-more, one-within, one-past, one-none, arrays-left, all-within}
use Rattle.data_check.proofs.history.History.positions.Goals as goal
use Rattle.data_check.proofs.history.History.positions.Goals.{then-index-frames+in_ok-push, else-index-frames}

pub loop-entry-preserved-in_default : goal.loop-entry-preserved-in_default
loop-entry-preserved-in_default c =
    let ps = c.loop-entry.positions.items in
    let o = c.position_in.result in
    told-more c.saves-saves.result c.args.node c.frames-frames.result c.entries-entry-items.result.now c.loop-entry.entry-index _ ps ps o
    c.loop-entry-test.true c.loop-entry.invariant c.position_in.ensures
    (sym (append-nil ps) ∙ ap (λ ks. ps ++ ks) (one-none c.saves-saves.result c.args.node c.frames-frames.result o c.in_default.is))

pub loop-entry-preserved : goal.loop-entry-preserved
loop-entry-preserved c =
    let saves = c.saves-saves.result in
    let v = c.args.node in
    let frames = c.frames-frames.result in
    let ps = c.loop-entry.positions.items in
    let o = c.position_in.result in
    let k = c.in-Some.index in
    told-more saves v frames c.entries-entry-items.result.now c.loop-entry.entry-index _ ps c.if-index-frames.positions.items o c.loop-entry-test.true
    c.loop-entry.invariant c.position_in.ensures
    (elim c.if-index-frames.branch [
      | then-index-frames+in_ok-push w ↦
          ap (λ (p : Vec ℕ Global). p.items) w.positions-is
          ∙ (w.in_ok-push.ensures.items ∙ ap (λ ks. ps ++ ks) (one-within saves v frames o k c.in-Some.is w.if-index-frames.true))
      | else-index-frames w ↦
          ap (λ (p : Vec ℕ Global). p.items) w.positions-is
          ∙ (sym (append-nil ps) ∙ ap (λ ks. ps ++ ks) (one-past saves v frames o k c.in-Some.is w.if-index-frames.false))
    ])

pub returns-clause-arrays : goal.returns-clause-arrays
returns-clause-arrays c =
    let h = c.args.self.now in
    let known : IsHistory h = subst IsHistory c.self.view_is c.self.invariant.1 in
    let es = c.entries-entry-items.result.now in
    let saves = c.saves-saves.result in
    let v = c.args.node in
    let entries : es ≡ reverse h.past = c.entries-entry-items.ensures ∙ ap (λ (w : HistoryValue). reverse w.past) c.self.view_is in
    let frames : c.frames-frames.result ≡ length h.stack.arrays = c.frames-frames.ensures ∙ ap (λ (w : HistoryValue). length w.stack.arrays) c.self.view_is in
    arrays-left h known c.args.node c.args.rule.now c.requires c.loop-entry.positions.items
    (c.loop-entry.invariant ∙ (ap (λ ws. filter (λ k. ltb k c.frames-frames.result) (filter_map (position_in saves v) ws))
    (take_all c.loop-entry.entry-index es c.loop-entry-test.false ∙ entries)
    ∙ (ap (λ n. filter (λ k. ltb k n) (filter_map (position_in saves v) (reverse h.past))) frames
    ∙ ap (λ b. filter (λ k. ltb k (length h.stack.arrays)) (filter_map (position_in b v) (reverse h.past))) c.saves-saves.ensures)))

pub returns-clause-frames : goal.returns-clause-frames
returns-clause-frames c =
    let frames : c.frames-frames.result ≡ length c.args.self.now.stack.arrays =
    c.frames-frames.ensures ∙ ap (λ (w : HistoryValue). length w.stack.arrays) c.self.view_is in
    subst (λ n. All (λ k. k < n) c.loop-entry.positions.items) frames
    (subst (All (λ k. k < c.frames-frames.result)) (sym c.loop-entry.invariant) (all-within c.frames-frames.result _))
