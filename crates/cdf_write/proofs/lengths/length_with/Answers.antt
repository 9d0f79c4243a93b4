use Rattle.std.proofs.Common.{◌≤◌, ◌+◌, ◌*◌, ◌^◌, ap, sym, ◌∙◌, arith}
use Rattle.std.proofs.lemmas.Nat.{mul-le}
use Rattle.cdf_write.specs.Layout.{header_length}
use Rattle.cdf_write.specs.LengthLaws.{header_length_is, row_length_is}
use Rattle.cdf_write.proofs.lengths.length_with.Goals as goal

pub overflow_add-result : goal.overflow_add-result
overflow_add-result c =
    let all : c.from.result * c.from-row.result ≤ 2 ^ 64 * (2 ^ 63 + 2 ^ 62 + 2 ^ 30) =
    mul-le c.from.result c.from-row.result
    (2 ^ 64) (2 ^ 63 + 2 ^ 62 + 2 ^ 30) (omega (arith, c.from.ensures)) (omega (arith, c.from-row.ensures, c.row_size.ensures.small)) in
    omega (arith, all, c.header_size.ensures.small)

pub returns : goal.returns
returns c =
    let shape = record c.args.shape.now { form = c.args.form; dims = c.args.dims.now } in
    let other = record c.args.shape.now { form = c.args.form; kind = c.args.kind; dims = c.args.dims.now } in
    let row_shape = record c.args.shape.now { kind = c.args.kind; dims = c.args.dims.now } in
    let head = c.header_size.ensures.value ∙ header_length_is shape ∙ sym (header_length_is other) in
    let row = c.from-row.ensures ∙ c.row_size.ensures.value ∙ row_length_is row_shape ∙ sym (row_length_is other) in
    ap (λ n. n + c.from.result * c.from-row.result) head
    ∙ ap (λ n. header_length other + n * c.from-row.result) c.from.ensures
    ∙ ap (λ n. header_length other + c.args.count * n) row
