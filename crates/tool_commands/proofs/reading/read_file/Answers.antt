use Rattle.std.proofs.Common.{◌∙◌, ◌≤◌, inl, arith}
use Rattle.std.proofs.lemmas.Result.{err_from_is_err_and}
use Rattle.edge_traits.specs.Files.{IsTold}
use Rattle.edge_traits.specs.FileLaws.{HasFile-IsTold}
use Rattle.tool_commands.proofs.Files.{whole_read, sized, stopped}
use Rattle.tool_commands.proofs.Unread.{unread-bytes, failed-to}
use Rattle.tool_commands.proofs.reading.read_file.Goals as goal

pub returns-then-size-limit-clause-refused : goal.returns-then-size-limit-clause-refused
returns-then-size-limit-clause-refused g c = (
  c.if-size-limit.true,
  sized (g.L.Library.holds c.args.library.now) c.args.name.now c.in_ok-size.size c.in_ok-size.ensures.known c.in_ok-size.ensures.size,
  c.in_ok-size.ensures.cause,
)

pub returns-in_err-read_pieces-clause-files : goal.returns-in_err-read_pieces-clause-files
returns-in_err-read_pieces-clause-files g c = c.in_err-read_pieces.ensures.files ∙ c.in_ok-size.ensures.files

pub returns-clause-bytes : goal.returns-clause-bytes
returns-clause-bytes g c =
    let holds = g.L.Library.holds c.args.library.now in
    let name = c.args.name.now in
    let read = c.in_ok-read_pieces.ensures in
    HasFile-IsTold holds name c.read_pieces.new.bytes.items c.in_ok-size.ensures.known (λ file told.
    let told_then : IsTold (g.L.Library.holds c.size.new.self) name file = rw c.in_ok-size.ensures.files told in
    whole_read c.read_pieces.new.bytes.items file c.in_ok-size.size read.within (c.in_ok-size.ensures.size file told)
    (read.bytes file told_then) (read.end file told_then))

pub returns-clause-same : goal.returns-clause-same
returns-clause-same g c = c.in_ok-read_pieces.ensures.same ∙ c.in_ok-size.ensures.cause

pub returns-clause-files : goal.returns-clause-files
returns-clause-files g c = c.in_ok-read_pieces.ensures.files ∙ c.in_ok-size.ensures.files

pub returns-in_err-read_pieces-clause-refused : goal.returns-in_err-read_pieces-clause-refused
returns-in_err-read_pieces-clause-refused g c =
    let p = err_from_is_err_and c.from_residual-in_err-read_pieces.result c.from_residual-in_err-read_pieces.ensures.1 in
    let holds = g.L.Library.holds c.args.library.now in
    let cause = c.in_ok-size.ensures.cause in
    rw (p.1, p.2) (stopped c.in_err-read_pieces.field-0.0 holds c.args.name.now c.args.limit _ _ _ cause c.in_err-read_pieces.ensures.stops)

pub returns-in_err-size-clause-failed : goal.returns-in_err-size-clause-failed
returns-in_err-size-clause-failed g c =
    let p = err_from_is_err_and c.from_residual.result c.from_residual.ensures.1 in
    rw (p.1, p.2) (inl c.in_err-size.ensures.at.1)

pub returns-in_err-read_pieces-clause-failed : goal.returns-in_err-read_pieces-clause-failed
returns-in_err-read_pieces-clause-failed g c =
    let p = err_from_is_err_and c.from_residual-in_err-read_pieces.result c.from_residual-in_err-read_pieces.ensures.1 in
    let size = c.in_ok-size.ensures in
    let within : c.in_ok-size.size ≤ c.args.limit = omega (arith, c.if-size-limit.false) in
    rw (p.1, p.2) (failed-to _ _ (unread-bytes (g.L.Library.holds c.args.library.now) c.args.limit c.in_ok-size.size
    (g.L.Library.faults_at c.args.library.now) (g.L.Library.faults_at c.size.new.self) (g.L.Library.faults_at c.read_pieces.new.library)
    c.args.name.now size.at size.size within) c.in_err-read_pieces.field-0.0 c.in_err-read_pieces.ensures.failed)

pub returns-clause-none_failed : goal.returns-clause-none_failed
returns-clause-none_failed g c = λ call name. c.in_ok-read_pieces.ensures.none_failed call name ∙ c.in_ok-size.ensures.at call name
