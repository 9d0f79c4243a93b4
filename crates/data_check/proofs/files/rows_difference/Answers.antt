use Rattle.std.proofs.Common.{◌≡◌, ℕ, Bool, List, [], sym, ap, subst, ◌∙◌, refl, inl}
use Rattle.std.proofs.lemmas.Result.{err_from_is_err_and}
use Rattle.std.specs.Prelude.{Option}
use Rattle.std.specs.List.{flat_map}
use Rattle.edge_traits.specs.Files.{Files, HasFile}
use Rattle.nd_stats.specs.Row.{row}
use Rattle.chain_plain.specs.OneThread.{measure_of_array}
use Rattle.graph_files.specs.OutFiles.{stats_name}
use Rattle.flow_saver.specs.HistoryFiles.{kind_rows}
use Rattle.data_check.specs.ComparedFiles.{HasFailed, HasOther}
use Rattle.data_check.specs.declared.difference.Difference.{Difference}
use Rattle.data_check.specs.Fronts.{HasFront, GoesOn}
use Rattle.data_check.specs.Histories.{arrays_at}
use Rattle.data_check.proofs.Fronts.{front-whole, front-longer, lacks-other}
use Rattle.data_check.proofs.Unread.{failed-then, fault-then}
use Rattle.data_check.proofs.Verdicts.{rows-are, one-same, one-ends, one-other}
use Rattle.data_check.proofs.files.rows_difference.Goals as goal
use Rattle.data_check.proofs.files.rows_difference.Goals.{else-same-via-then-same+else-is_at_end, else-same-via-else-same}

pub returns-then-is_at_end-clause-found : goal.returns-then-is_at_end-clause-found
returns-then-is_at_end-clause-found g c =
    let held : Option Files = g.L.Library.holds c.args.library.now in
    let h = c.args.history.now in
    let v = c.args.node in
    let n = c.args.rule.now in
    let ks = c.deref.result.now in
    let front = c.go_on.new.front in
    let bytes : List ℕ = flat_map (λ a. row (measure_of_array c.args.stats.now a)) (arrays_at h v ks) in
    let name = stats_name h.prefix n.name in
    let first : HasFront (g.L.Library.holds c.of.new.library) c.in_ok-front.front [] =
    subst (λ (told : Option Files). HasFront told c.in_ok-front.front []) (sym c.in_ok-front.ensures.files) c.in_ok-front.ensures.front in
    let on : HasFront (g.L.Library.holds c.of.new.library) front bytes =
    subst (λ (b : Bool). GoesOn b (g.L.Library.holds c.of.new.library) front bytes) c.if-same.true (c.in_ok-same.ensures.goes [] first) in
    let here : HasFront held front bytes = subst (λ (told : Option Files). HasFront told front bytes) c.in_ok-front.ensures.files on in
    let named : front.name ≡ name =
    c.in_ok-same.ensures.name ∙ (c.in_ok-front.ensures.name ∙ (c.as_str.ensures.value ∙ (c.in_ok-name.ensures
    ∙ (ap (λ p. stats_name p c.text.result.now) c.prefix.ensures.value ∙ ap (stats_name h.prefix) c.text.ensures)))) in
    let has : HasFile held name bytes =
    subst (λ w. HasFile held w bytes) named (front-whole held front bytes here (c.is_at_end.ensures.0 c.if-is_at_end.true)) in
    let rows = rows-are h v n c.args.stats.now ks c.prefix.ensures.known c.requires.rule c.requires.kind
    (ap (arrays_at h v) c.deref.ensures.value ∙ c.in_ok-positions.ensures.arrays) in
    one-same held v name bytes (kind_rows h.graph h.stack h.past v n.kind) rows has

pub returns-clause-found : goal.returns-clause-found
returns-clause-found g c =
    let held : Option Files = g.L.Library.holds c.args.library.now in
    let h = c.args.history.now in
    let v = c.args.node in
    let n = c.args.rule.now in
    let ks = c.deref.result.now in
    let front = c.go_on.new.front in
    let bytes : List ℕ = flat_map (λ a. row (measure_of_array c.args.stats.now a)) (arrays_at h v ks) in
    let name = stats_name h.prefix n.name in
    let first : HasFront (g.L.Library.holds c.of.new.library) c.in_ok-front.front [] =
    subst (λ (told : Option Files). HasFront told c.in_ok-front.front []) (sym c.in_ok-front.ensures.files) c.in_ok-front.ensures.front in
    let goes : GoesOn c.in_ok-same.same held front bytes =
    subst (λ (told : Option Files). GoesOn c.in_ok-same.same told front bytes) c.in_ok-front.ensures.files (c.in_ok-same.ensures.goes [] first) in
    let named : front.name ≡ name =
    c.in_ok-same.ensures.name ∙ (c.in_ok-front.ensures.name ∙ (c.as_str.ensures.value ∙ (c.in_ok-name.ensures
    ∙ (ap (λ p. stats_name p c.text.result.now) c.prefix.ensures.value ∙ ap (stats_name h.prefix) c.text.ensures)))) in
    let other : HasOther held front.name bytes = elim c.else-same.branch [
      | else-same-via-then-same+else-is_at_end w ↦
          front-longer held front bytes (subst (λ (b : Bool). GoesOn b held front bytes) w.if-same.true goes)
          (λ end. let yes = w.is_at_end.ensures.1 end in let no = w.if-is_at_end.false in cc)
      | else-same-via-else-same w ↦ lacks-other held front.name bytes (subst (λ (b : Bool). GoesOn b held front bytes) w.if-same.false goes)
    ] in
    let rows = rows-are h v n c.args.stats.now ks c.prefix.ensures.known c.requires.rule c.requires.kind
    (ap (arrays_at h v) c.deref.ensures.value ∙ c.in_ok-positions.ensures.arrays) in
    one-other held v name bytes (kind_rows h.graph h.stack h.past v n.kind) rows (record { node = v; group = 0 }) refl refl
    (subst (λ w. HasOther held w bytes) named other)

pub returns-in_err-front-clause-unread : goal.returns-in_err-front-clause-unread
returns-in_err-front-clause-unread g c =
    let held : Option Files = g.L.Library.holds c.args.library.now in
    let h = c.args.history.now in
    let v = c.args.node in
    let n = c.args.rule.now in
    let ks = c.in_ok-positions.positions.items in
    let bytes : List ℕ = flat_map (λ a. row (measure_of_array c.args.stats.now a)) (arrays_at h v ks) in
    let name = stats_name h.prefix n.name in
    let named : c.as_str.result.now ≡ name =
    c.as_str.ensures.value ∙ (c.in_ok-name.ensures
    ∙ (ap (λ p. stats_name p c.text.result.now) c.prefix.ensures.value ∙ ap (stats_name h.prefix) c.text.ensures)) in
    let before = g.L.Library.faults_at c.args.library.now in
    let rows = rows-are h v n c.args.stats.now ks c.prefix.ensures.known c.requires.rule c.requires.kind c.in_ok-positions.ensures.arrays in
    let now = g.L.Library.faults_at c.of.new.library in
    let p = err_from_is_err_and c.from_residual-in_err-front.result c.from_residual-in_err-front.ensures.1 in
    rw (p.1, p.2) (one-ends held v name bytes (kind_rows h.graph h.stack h.past v n.kind) rows (λ f. HasFailed before now f.name)
    (subst (HasFailed before now) named (inl c.in_err-front.ensures.at.1)))

pub returns-in_err-same-clause-unread : goal.returns-in_err-same-clause-unread
returns-in_err-same-clause-unread g c =
    let held : Option Files = g.L.Library.holds c.args.library.now in
    let h = c.args.history.now in
    let v = c.args.node in
    let n = c.args.rule.now in
    let ks = c.deref.result.now in
    let bytes : List ℕ = flat_map (λ a. row (measure_of_array c.args.stats.now a)) (arrays_at h v ks) in
    let name = stats_name h.prefix n.name in
    let named : c.as_str.result.now ≡ name =
    c.as_str.ensures.value ∙ (c.in_ok-name.ensures
    ∙ (ap (λ p. stats_name p c.text.result.now) c.prefix.ensures.value ∙ ap (stats_name h.prefix) c.text.ensures)) in
    let before = g.L.Library.faults_at c.args.library.now in
    let rows = rows-are h v n c.args.stats.now ks c.prefix.ensures.known c.requires.rule c.requires.kind
    (ap (arrays_at h v) c.deref.ensures.value ∙ c.in_ok-positions.ensures.arrays) in
    let middle = g.L.Library.faults_at c.of.new.library in
    let now = g.L.Library.faults_at c.go_on.new.library in
    let none = c.in_ok-front.ensures.at in
    let front = c.in_ok-front.front.name in
    let p = err_from_is_err_and c.from_residual-in_err-same.result c.from_residual-in_err-same.ensures.1 in
    rw (p.1, p.2) (fault-then before middle now none Bool (Option Difference) (HasFailed middle now front) _ _
    (λ failed. one-ends held v name bytes (kind_rows h.graph h.stack h.past v n.kind) rows (λ f. HasFailed before now f.name)
    (subst (HasFailed before now) (c.in_ok-front.ensures.name ∙ named) (failed-then before middle now none front failed)))
    c.in_err-same.ensures.unread)
