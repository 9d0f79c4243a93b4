use Rattle.std.proofs.Common.{◌≡◌, ℕ, ◌<◌, ◌≤◌, Bool, true, false, eqb, List, length, sym, ap, subst, ◌∙◌, inl, inr, arith}
use Rattle.std.specs.Prelude.{All, Option}
use Rattle.std.proofs.lemmas.Bool.{cases_lt, eqb-true, eqb-false}
use Rattle.std.proofs.lemmas.Result.{err_from_is_err_and}
use Rattle.nd_base.specs.Forms.{longest_of}
use Rattle.nd_base.specs.declared.attribute.FileShape.{FileShape}
use Rattle.edge_traits.specs.Files.{Files}
use Rattle.cdf_write.specs.Layout.{layout}
use Rattle.cdf_write.specs.Lengths.{length_of}
use Rattle.graph_files.specs.OutFiles.{group_name}
use Rattle.data_check.specs.ComparedFiles.{group_files, HasFailed, IsSame}
use Rattle.data_check.specs.declared.difference.Difference.{Difference}
use Rattle.data_check.specs.Fronts.{IsVerdict}
use Rattle.data_check.specs.Histories.{arrays_at}
use Rattle.data_check.proofs.GroupFiles.{split-part, split-rest, split-some, split-fewer, group-same, group-ends, group-first, groups-same}
use Rattle.data_check.proofs.Groups.{sound, positions-few, part-few, part-fits, part-frames}
use Rattle.data_check.proofs.Unread.{none-then, failed-then, fault-then}
use Rattle.data_check.proofs.files.first_group.Goals as goal

not-empty : (xs : List ℕ) (b : Bool) → b ≡ eqb (length xs) 0 → b ≡ false → 1 ≤ length xs
not-empty xs b tells full = let some = eqb-false (length xs) 0 (sym tells ∙ full) in omega (arith, some)

pub is_group-requires-clause-some : goal.is_group-requires-clause-some
is_group-requires-clause-some g c =
    let h = c.args.history.now in
    let v = c.args.node in
    let n = c.args.rule.now in
    let r = c.args.file.now in
    let ks = c.as_slice-rest.result.now in
    let known = c.in_ok-shape.ensures.known in
    let all = ap (arrays_at h v) c.as_slice-rest.ensures.value ∙ c.in_ok-positions.ensures.arrays in
    let frames = subst (All (λ k. k < length h.stack.arrays)) (sym c.as_slice-rest.ensures.value) c.in_ok-positions.ensures.frames in
    let i = c.loop-rest.group in
    let rest = c.loop-rest.rest.now in
    let part = c.split_at.result.0.now in
    let is = split-part r.count i ks rest c.min.result c.loop-rest.invariant.rest c.min.ensures part c.split_at.ensures.front in
    let some = split-some r.count i ks rest c.min.result c.loop-rest.invariant.rest c.min.ensures part c.split_at.ensures.front
    (sound h known v n r c.requires.rule c.requires.kind ks all frames).count.0 (not-empty rest c.is_empty.result c.is_empty.ensures c.loop-rest-test.true) in
    some

pub is_group-requires-clause-few : goal.is_group-requires-clause-few
is_group-requires-clause-few g c =
    let h = c.args.history.now in
    let v = c.args.node in
    let n = c.args.rule.now in
    let r = c.args.file.now in
    let ks = c.as_slice-rest.result.now in
    let known = c.in_ok-shape.ensures.known in
    let all = ap (arrays_at h v) c.as_slice-rest.ensures.value ∙ c.in_ok-positions.ensures.arrays in
    let frames = subst (All (λ k. k < length h.stack.arrays)) (sym c.as_slice-rest.ensures.value) c.in_ok-positions.ensures.frames in
    let i = c.loop-rest.group in
    let rest = c.loop-rest.rest.now in
    let part = c.split_at.result.0.now in
    let is = split-part r.count i ks rest c.min.result c.loop-rest.invariant.rest c.min.ensures part c.split_at.ensures.front in
    let some = split-some r.count i ks rest c.min.result c.loop-rest.invariant.rest c.min.ensures part c.split_at.ensures.front
    (sound h known v n r c.requires.rule c.requires.kind ks all frames).count.0 (not-empty rest c.is_empty.result c.is_empty.ensures c.loop-rest-test.true) in
    part-few h known v n r c.requires.rule c.requires.kind ks all frames i part is some

pub is_group-requires-clause-frames : goal.is_group-requires-clause-frames
is_group-requires-clause-frames g c =
    let h = c.args.history.now in
    let v = c.args.node in
    let n = c.args.rule.now in
    let r = c.args.file.now in
    let ks = c.as_slice-rest.result.now in
    let known = c.in_ok-shape.ensures.known in
    let all = ap (arrays_at h v) c.as_slice-rest.ensures.value ∙ c.in_ok-positions.ensures.arrays in
    let frames = subst (All (λ k. k < length h.stack.arrays)) (sym c.as_slice-rest.ensures.value) c.in_ok-positions.ensures.frames in
    let i = c.loop-rest.group in
    let rest = c.loop-rest.rest.now in
    let part = c.split_at.result.0.now in
    let is = split-part r.count i ks rest c.min.result c.loop-rest.invariant.rest c.min.ensures part c.split_at.ensures.front in
    let some = split-some r.count i ks rest c.min.result c.loop-rest.invariant.rest c.min.ensures part c.split_at.ensures.front
    (sound h known v n r c.requires.rule c.requires.kind ks all frames).count.0 (not-empty rest c.is_empty.result c.is_empty.ensures c.loop-rest-test.true) in
    part-frames h known v n r c.requires.rule c.requires.kind ks all frames i part is some

pub is_group-requires-clause-fits : goal.is_group-requires-clause-fits
is_group-requires-clause-fits g c =
    let h = c.args.history.now in
    let v = c.args.node in
    let n = c.args.rule.now in
    let r = c.args.file.now in
    let ks = c.as_slice-rest.result.now in
    let known = c.in_ok-shape.ensures.known in
    let all = ap (arrays_at h v) c.as_slice-rest.ensures.value ∙ c.in_ok-positions.ensures.arrays in
    let frames = subst (All (λ k. k < length h.stack.arrays)) (sym c.as_slice-rest.ensures.value) c.in_ok-positions.ensures.frames in
    let i = c.loop-rest.group in
    let rest = c.loop-rest.rest.now in
    let part = c.split_at.result.0.now in
    let is = split-part r.count i ks rest c.min.result c.loop-rest.invariant.rest c.min.ensures part c.split_at.ensures.front in
    let some = split-some r.count i ks rest c.min.result c.loop-rest.invariant.rest c.min.ensures part c.split_at.ensures.front
    (sound h known v n r c.requires.rule c.requires.kind ks all frames).count.0 (not-empty rest c.is_empty.result c.is_empty.ensures c.loop-rest-test.true) in
    subst (λ (sh : FileShape). length_of sh (length part) ≤ longest_of sh.form) (sym c.in_ok-shape.ensures.value)
    (part-fits h known v n r c.requires.rule c.requires.kind ks all frames i part is some)

pub returns-then-not-branch-clause-found : goal.returns-then-not-branch-clause-found
returns-then-not-branch-clause-found g c =
    let h = c.args.history.now in
    let v = c.args.node in
    let n = c.args.rule.now in
    let r = c.args.file.now in
    let ks = c.as_slice-rest.result.now in
    let known = c.in_ok-shape.ensures.known in
    let all = ap (arrays_at h v) c.as_slice-rest.ensures.value ∙ c.in_ok-positions.ensures.arrays in
    let frames = subst (All (λ k. k < length h.stack.arrays)) (sym c.as_slice-rest.ensures.value) c.in_ok-positions.ensures.frames in
    let i = c.loop-rest.group in
    let rest = c.loop-rest.rest.now in
    let part = c.split_at.result.0.now in
    let is = split-part r.count i ks rest c.min.result c.loop-rest.invariant.rest c.min.ensures part c.split_at.ensures.front in
    let some = split-some r.count i ks rest c.min.result c.loop-rest.invariant.rest c.min.ensures part c.split_at.ensures.front
    (sound h known v n r c.requires.rule c.requires.kind ks all frames).count.0 (not-empty rest c.is_empty.result c.is_empty.ensures c.loop-rest-test.true) in
    let name : c.as_str.result.now ≡ group_name h.prefix n.name i =
    c.as_str.ensures.value ∙ (c.in_ok-name.ensures ∙ (ap (λ p. group_name p c.text.result.now i) c.prefix.ensures.value
    ∙ ap (λ q. group_name h.prefix q i) c.text.ensures)) in
    let held : Option Files = g.L.Library.holds c.args.library.now in
    let bytes = layout c.in_ok-shape.shape (arrays_at h v part) in
    let other = subst (λ (told : Option Files). IsVerdict false told c.as_str.result.now bytes) c.loop-rest.invariant.same
    (subst (λ (b : Bool). IsVerdict b (g.L.Library.holds c.loop-rest.library) c.as_str.result.now bytes) c.if-not-branch.true
    c.in_ok-is_group.ensures.verdict) in
    group-first h known v n r c.requires.rule c.requires.kind ks all frames held i part is some c.as_str.result.now c.in_ok-shape.shape name
    c.in_ok-shape.ensures.value other c.loop-rest.invariant.all

pub returns-in_err-is_group-clause-unread : goal.returns-in_err-is_group-clause-unread
returns-in_err-is_group-clause-unread g c =
    let h = c.args.history.now in
    let v = c.args.node in
    let n = c.args.rule.now in
    let r = c.args.file.now in
    let ks = c.as_slice-rest.result.now in
    let known = c.in_ok-shape.ensures.known in
    let all = ap (arrays_at h v) c.as_slice-rest.ensures.value ∙ c.in_ok-positions.ensures.arrays in
    let frames = subst (All (λ k. k < length h.stack.arrays)) (sym c.as_slice-rest.ensures.value) c.in_ok-positions.ensures.frames in
    let i = c.loop-rest.group in
    let rest = c.loop-rest.rest.now in
    let part = c.split_at.result.0.now in
    let is = split-part r.count i ks rest c.min.result c.loop-rest.invariant.rest c.min.ensures part c.split_at.ensures.front in
    let some = split-some r.count i ks rest c.min.result c.loop-rest.invariant.rest c.min.ensures part c.split_at.ensures.front
    (sound h known v n r c.requires.rule c.requires.kind ks all frames).count.0 (not-empty rest c.is_empty.result c.is_empty.ensures c.loop-rest-test.true) in
    let name : c.as_str.result.now ≡ group_name h.prefix n.name i =
    c.as_str.ensures.value ∙ (c.in_ok-name.ensures ∙ (ap (λ p. group_name p c.text.result.now i) c.prefix.ensures.value
    ∙ ap (λ q. group_name h.prefix q i) c.text.ensures)) in
    let held : Option Files = g.L.Library.holds c.args.library.now in
    let before = g.L.Library.faults_at c.args.library.now in
    let middle = g.L.Library.faults_at c.loop-rest.library in
    let now = g.L.Library.faults_at c.is_group.new.library in
    let none = c.loop-rest.invariant.at in
    let p = err_from_is_err_and c.from_residual-in_err-is_group.result c.from_residual-in_err-is_group.ensures.1 in
    rw (p.1, p.2) (fault-then before middle now none Bool (Option Difference) (HasFailed middle now c.as_str.result.now) _ _
    (λ failed. group-ends h known v n r c.requires.rule c.requires.kind ks all frames held i part is some c.as_str.result.now c.in_ok-shape.shape name
    c.in_ok-shape.ensures.value (λ f. HasFailed before now f.name) (failed-then before middle now none c.as_str.result.now failed) c.loop-rest.invariant.all)
    c.in_err-is_group.ensures.unread)

pub overflow_add-group : goal.overflow_add-group
overflow_add-group g c =
    let h = c.args.history.now in
    let v = c.args.node in
    let n = c.args.rule.now in
    let r = c.args.file.now in
    let ks = c.as_slice-rest.result.now in
    let known = c.in_ok-shape.ensures.known in
    let all = ap (arrays_at h v) c.as_slice-rest.ensures.value ∙ c.in_ok-positions.ensures.arrays in
    let frames = subst (All (λ k. k < length h.stack.arrays)) (sym c.as_slice-rest.ensures.value) c.in_ok-positions.ensures.frames in
    let i = c.loop-rest.group in
    let rest = c.loop-rest.rest.now in
    let part = c.split_at.result.0.now in
    let few = positions-few h known v n r c.requires.rule c.requires.kind ks all frames in
    let kept = known.kept.few in
    let low = c.loop-rest.invariant.few in
    let some = not-empty c.loop-rest.rest.now c.is_empty.result c.is_empty.ensures c.loop-rest-test.true in
    omega (arith, few, kept, low, some)

pub loop-rest-smaller : goal.loop-rest-smaller
loop-rest-smaller g c =
    let h = c.args.history.now in
    let v = c.args.node in
    let n = c.args.rule.now in
    let r = c.args.file.now in
    let ks = c.as_slice-rest.result.now in
    let known = c.in_ok-shape.ensures.known in
    let all = ap (arrays_at h v) c.as_slice-rest.ensures.value ∙ c.in_ok-positions.ensures.arrays in
    let frames = subst (All (λ k. k < length h.stack.arrays)) (sym c.as_slice-rest.ensures.value) c.in_ok-positions.ensures.frames in
    let i = c.loop-rest.group in
    let rest = c.loop-rest.rest.now in
    let part = c.split_at.result.0.now in
    let is = split-part r.count i ks rest c.min.result c.loop-rest.invariant.rest c.min.ensures part c.split_at.ensures.front in
    let some = split-some r.count i ks rest c.min.result c.loop-rest.invariant.rest c.min.ensures part c.split_at.ensures.front
    (sound h known v n r c.requires.rule c.requires.kind ks all frames).count.0 (not-empty rest c.is_empty.result c.is_empty.ensures c.loop-rest-test.true) in
    let fewer = split-fewer r.count i ks rest c.min.result c.loop-rest.invariant.rest c.min.ensures part c.split_at.result.1.now c.split_at.ensures.front
    c.split_at.ensures.back in
    omega (arith, fewer, some)

pub loop-rest-preserved : goal.loop-rest-preserved
loop-rest-preserved g c =
    let h = c.args.history.now in
    let v = c.args.node in
    let n = c.args.rule.now in
    let r = c.args.file.now in
    let ks = c.as_slice-rest.result.now in
    let known = c.in_ok-shape.ensures.known in
    let all = ap (arrays_at h v) c.as_slice-rest.ensures.value ∙ c.in_ok-positions.ensures.arrays in
    let frames = subst (All (λ k. k < length h.stack.arrays)) (sym c.as_slice-rest.ensures.value) c.in_ok-positions.ensures.frames in
    let i = c.loop-rest.group in
    let rest = c.loop-rest.rest.now in
    let part = c.split_at.result.0.now in
    let is = split-part r.count i ks rest c.min.result c.loop-rest.invariant.rest c.min.ensures part c.split_at.ensures.front in
    let some = split-some r.count i ks rest c.min.result c.loop-rest.invariant.rest c.min.ensures part c.split_at.ensures.front
    (sound h known v n r c.requires.rule c.requires.kind ks all frames).count.0 (not-empty rest c.is_empty.result c.is_empty.ensures c.loop-rest-test.true) in
    let name : c.as_str.result.now ≡ group_name h.prefix n.name i =
    c.as_str.ensures.value ∙ (c.in_ok-name.ensures ∙ (ap (λ p. group_name p c.text.result.now i) c.prefix.ensures.value
    ∙ ap (λ q. group_name h.prefix q i) c.text.ensures)) in
    let held : Option Files = g.L.Library.holds c.args.library.now in
    let bytes = layout c.in_ok-shape.shape (arrays_at h v part) in
    let fewer = split-fewer r.count i ks rest c.min.result c.loop-rest.invariant.rest c.min.ensures part c.split_at.result.1.now c.split_at.ensures.front
    c.split_at.ensures.back in
    let same = subst (λ (told : Option Files). IsVerdict true told c.as_str.result.now bytes) c.loop-rest.invariant.same
    (subst (λ (b : Bool). IsVerdict b (g.L.Library.holds c.loop-rest.library) c.as_str.result.now bytes) c.if-not-branch.false
    c.in_ok-is_group.ensures.verdict) in
    let this = group-same h known v n r c.requires.rule c.requires.kind ks all frames held i part is some c.as_str.result.now c.in_ok-shape.shape name
    c.in_ok-shape.ensures.value same in
    record {
      same = c.in_ok-is_group.ensures.files ∙ c.loop-rest.invariant.same;
      none = c.in_ok-is_group.ensures.cause ∙ c.loop-rest.invariant.none;
      at = none-then (g.L.Library.faults_at c.args.library.now) (g.L.Library.faults_at c.loop-rest.library) (g.L.Library.faults_at c.is_group.new.library)
          c.loop-rest.invariant.at c.in_ok-is_group.ensures.unread;
      rest = split-rest r.count i ks rest c.min.result c.loop-rest.invariant.rest c.min.ensures c.split_at.result.1.now c.split_at.ensures.back;
      few = omega (arith, fewer, some, c.loop-rest.invariant.few);
      all = λ k low. elim (cases_lt k i) [
        | inl below ↦ c.loop-rest.invariant.all k below
        | inr past ↦
            let here : i ≡ k = omega (arith, low, past) in
            subst (λ m. All (IsSame held) (group_files h.graph h.stack h.prefix h.past v n m)) here this
      ];
    }

pub returns-clause-found : goal.returns-clause-found
returns-clause-found g c =
    let h = c.args.history.now in
    let v = c.args.node in
    let n = c.args.rule.now in
    let r = c.args.file.now in
    let ks = c.as_slice-rest.result.now in
    let known = c.in_ok-shape.ensures.known in
    let all = ap (arrays_at h v) c.as_slice-rest.ensures.value ∙ c.in_ok-positions.ensures.arrays in
    let frames = subst (All (λ k. k < length h.stack.arrays)) (sym c.as_slice-rest.ensures.value) c.in_ok-positions.ensures.frames in
    let empty : length c.loop-rest.rest.now ≡ 0 = eqb-true (length c.loop-rest.rest.now) 0 (sym c.is_empty.ensures ∙ c.loop-rest-test.false) in
    groups-same h known v n r c.requires.rule c.requires.kind ks all frames (g.L.Library.holds c.args.library.now) c.loop-rest.group
    (omega (arith, empty, ap length c.loop-rest.invariant.rest)) c.loop-rest.invariant.all
