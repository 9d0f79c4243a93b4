use Rattle.std.proofs.Common.{◌∙◌, Option, refl, subst}
use Rattle.std.proofs.lemmas.Result.{err_from_is_err_and}
use Rattle.tool_commands.specs.Works.{Source}
use Rattle.board_rules.specs.RunMeasures.{run_setting}
use Rattle.data_check.proofs.Unread.{none-then}
use Rattle.data_check.specs.ComparedFiles.{IsFound, compared_files}
use Rattle.data_check.specs.declared.difference.Difference.{Difference}
use Rattle.check_command.specs.CheckWords.{check_told}
use Rattle.check_command.proofs.Exact.{whole_finished}
use Rattle.check_command.proofs.Stops.{text_ends, refused_ends, refused_cause, print_ends}
use Rattle.check_command.proofs.Unread.{sources_unread, log_unread, verdict_unread, files_unread, print_unread}
use Rattle.check_command.proofs.top.check.Goals as goal

pub returns-in_err-log-clause-ends : goal.returns-in_err-log-clause-ends
returns-in_err-log-clause-ends g c =
    let p = err_from_is_err_and c.from_residual-in_err-log.result c.from_residual-in_err-log.ensures.1 in
    let source : Source = record { graph = c.in_ok-plan.plan.graph; stack = c.in_ok-plan.stack } in
    rw (p.1, p.2) (text_ends _ (check_told c.args.words) _ source c.in_ok-plan.ensures.read _ _ _ (rw c.in_ok-plan.ensures.files at c.in_err-log.ensures.err))

pub returns-in_err-check_log-clause-ends : goal.returns-in_err-check_log-clause-ends
returns-in_err-check_log-clause-ends g c =
    let p = err_from_is_err_and c.from_residual-in_err-check_log.result c.from_residual-in_err-check_log.ensures.1 in
    let source : Source = record { graph = c.in_ok-plan.plan.graph; stack = c.in_ok-plan.stack } in
    rw (p.1, p.2) (refused_ends _ (check_told c.args.words) _ source c.in_ok-log.log.past c.in_ok-plan.ensures.read
    (rw c.in_ok-plan.ensures.files at c.in_ok-log.ensures.read) _ c.in_err-check_log.ensures)

pub returns-in_err-check_log-clause-cause : goal.returns-in_err-check_log-clause-cause
returns-in_err-check_log-clause-cause g c =
    let p = err_from_is_err_and c.from_residual-in_err-check_log.result c.from_residual-in_err-check_log.ensures.1 in
    rw (p.1, p.2) (refused_cause (g.L.Library.holds c.args.library.now) (check_told c.args.words) (g.T.Sink.written c.args.out.now) _ _ _ _
    (c.in_ok-log.ensures.stays ∙ c.in_ok-plan.ensures.stays))

pub first_difference-requires-clause-run : goal.first_difference-requires-clause-run
first_difference-requires-clause-run g c =
    whole_finished (run_setting c.in_ok-plan.plan.graph c.in_ok-plan.stack) c.in_ok-log.log.past ((c.in_ok-check_log.ensures (λ e. absurd (cc))).whole.0 refl)

pub returns-in-Some-clause-ends : goal.returns-in-Some-clause-ends
returns-in-Some-clause-ends g c =
    let source : Source = record { graph = c.in_ok-plan.plan.graph; stack = c.in_ok-plan.stack } in
    let P = c.in_ok-log.log.past in
    let told = g.L.Library.holds c.args.library.now in
    let found = (rw (c.in_ok-log.ensures.files, c.in_ok-plan.ensures.files) at c.in_ok-difference.ensures.found) in
    let first =
    subst (λ (d : Option Difference). IsFound told (compared_files source.graph source.stack c.args.words.prefix.now P) d) c.in-Some.is found in
    let run = whole_finished (run_setting source.graph source.stack) P ((c.in_ok-check_log.ensures (λ e. absurd (cc))).whole.0 refl) in (
      (source, c.in_ok-plan.ensures.read, (P, (rw c.in_ok-plan.ensures.files at c.in_ok-log.ensures.read), record { run = run; first = first })),
      refl,
    )

pub returns-in_err-print-in-None-clause-ends : goal.returns-in_err-print-in-None-clause-ends
returns-in_err-print-in-None-clause-ends g c =
    let p = err_from_is_err_and c.from_residual-in_err-print-in-None.result c.from_residual-in_err-print-in-None.ensures.1 in
    let source : Source = record { graph = c.in_ok-plan.plan.graph; stack = c.in_ok-plan.stack } in
    let P = c.in_ok-log.log.past in
    let told = g.L.Library.holds c.args.library.now in
    let found = (rw (c.in_ok-log.ensures.files, c.in_ok-plan.ensures.files) at c.in_ok-difference.ensures.found) in
    let same =
    subst (λ (d : Option Difference). IsFound told (compared_files source.graph source.stack c.args.words.prefix.now P) d) c.in-None.is found in
    let run = whole_finished (run_setting source.graph source.stack) P ((c.in_ok-check_log.ensures (λ e. absurd (cc))).whole.0 refl) in
    rw (p.1, p.2) (print_ends _ (check_told c.args.words) _
    (source, c.in_ok-plan.ensures.read, (P, (rw c.in_ok-plan.ensures.files at c.in_ok-log.ensures.read), record { run = run; files = same }))
    _ _ _ _ c.in_err-print-in-None.ensures.err)

pub returns-clause-ends : goal.returns-clause-ends
returns-clause-ends g c =
    let source : Source = record { graph = c.in_ok-plan.plan.graph; stack = c.in_ok-plan.stack } in
    let P = c.in_ok-log.log.past in
    let told = g.L.Library.holds c.args.library.now in
    let found = (rw (c.in_ok-log.ensures.files, c.in_ok-plan.ensures.files) at c.in_ok-difference.ensures.found) in
    let same =
    subst (λ (d : Option Difference). IsFound told (compared_files source.graph source.stack c.args.words.prefix.now P) d) c.in-None.is found in
    let run = whole_finished (run_setting source.graph source.stack) P ((c.in_ok-check_log.ensures (λ e. absurd (cc))).whole.0 refl) in (
      (source, c.in_ok-plan.ensures.read, (P, (rw c.in_ok-plan.ensures.files at c.in_ok-log.ensures.read), record { run = run; files = same })),
      c.in_ok-print-in-None.ensures.ok,
    )

-- WHERE THE LIBRARY FAILED

pub returns-in_err-plan-clause-unread : goal.returns-in_err-plan-clause-unread
returns-in_err-plan-clause-unread g c =
    let p = err_from_is_err_and c.from_residual.result c.from_residual.ensures.1 in
    rw (p.1, p.2) (sources_unread (g.L.Library.holds c.args.library.now) (g.L.Library.faults_at c.args.library.now)
    (g.L.Library.faults_at c.load_sources.new.library) (check_told c.args.words) _ c.in_err-plan.ensures.unread)

pub returns-in_err-log-clause-unread : goal.returns-in_err-log-clause-unread
returns-in_err-log-clause-unread g c =
    let p = err_from_is_err_and c.from_residual-in_err-log.result c.from_residual-in_err-log.ensures.1 in
    let source : Source = record { graph = c.in_ok-plan.plan.graph; stack = c.in_ok-plan.stack } in
    rw (p.1, p.2) (log_unread (g.L.Library.holds c.args.library.now) (g.L.Library.faults_at c.args.library.now)
    (g.L.Library.faults_at c.load_log.new.library) (check_told c.args.words) source c.in_ok-plan.ensures.read
    (g.L.Library.faults_at c.load_sources.new.library) c.in_ok-plan.ensures.none_failed _
    (rw c.in_ok-plan.ensures.files at c.in_err-log.ensures.unread))

pub returns-in_err-check_log-clause-unread : goal.returns-in_err-check_log-clause-unread
returns-in_err-check_log-clause-unread g c =
    let p = err_from_is_err_and c.from_residual-in_err-check_log.result c.from_residual-in_err-check_log.ensures.1 in
    rw (p.1, p.2) (verdict_unread _ _)

pub returns-in_err-difference-clause-unread : goal.returns-in_err-difference-clause-unread
returns-in_err-difference-clause-unread g c =
    let p = err_from_is_err_and c.from_residual-in_err-difference.result c.from_residual-in_err-difference.ensures.1 in
    let source : Source = record { graph = c.in_ok-plan.plan.graph; stack = c.in_ok-plan.stack } in
    let P = c.in_ok-log.log.past in
    let run = whole_finished (run_setting source.graph source.stack) P ((c.in_ok-check_log.ensures (λ e. absurd (cc))).whole.0 refl) in
    let told = g.L.Library.holds c.args.library.now in
    let before = g.L.Library.faults_at c.args.library.now in
    let middle = g.L.Library.faults_at c.load_log.new.library in
    let now = g.L.Library.faults_at c.first_difference.new.library in
    let none = none-then before (g.L.Library.faults_at c.load_sources.new.library) middle c.in_ok-plan.ensures.none_failed c.in_ok-log.ensures.none_failed in
    rw (p.1, p.2) (files_unread told before now (check_told c.args.words) source c.in_ok-plan.ensures.read middle none P
    (rw c.in_ok-plan.ensures.files at c.in_ok-log.ensures.read) run (Option Difference) _
    (rw (c.in_ok-log.ensures.files, c.in_ok-plan.ensures.files) at c.in_err-difference.ensures.unread))

pub returns-in_err-print-in-None-clause-unread : goal.returns-in_err-print-in-None-clause-unread
returns-in_err-print-in-None-clause-unread g c =
    let p = err_from_is_err_and c.from_residual-in_err-print-in-None.result c.from_residual-in_err-print-in-None.ensures.1 in
    rw (p.1, p.2) (print_unread _ _ _ _ _ _ c.in_err-print-in-None.ensures.err)
