use Rattle.std.proofs.Common.{◌≡◌, ◌/◌, length, ap, sym, ◌∙◌, rules, FitsSigned, w32}
use Rattle.std.specs.Prelude.{slice_index_or}
use Rattle.std.proofs.lemmas.Int.{to_z-of_z}
use Rattle.nd_stack.specs.SampleTypes.{int_bytes, ints}
use Rattle.nd_stack.proofs.Ints.{other_count, same_count}
use Rattle.nd_stack.proofs.integers.dim_value.Goals as goal

pub returns-then-bytes-count : goal.returns-then-bytes-count
returns-then-bytes-count c =
    let bytes = int_bytes c.args.header.now c.args.name.now in
    let differs : length bytes / 4 ≡ c.args.count → ⊥ = λ e. c.if-bytes-count.true (ap (λ b. length b / 4) c.int_bytes-bytes.ensures ∙ e) in
    let fits : FitsSigned w32 c.args.other = search rules in
    to_z-of_z w32 c.args.other fits
    ∙ sym (other_count bytes c.args.count (slice_index_or (ints c.args.header.now c.args.name.now) c.args.i c.args.other) c.args.other differs)

pub returns : goal.returns
returns c =
    let bytes = int_bytes c.args.header.now c.args.name.now in
    let fits : FitsSigned w32 c.int_at.result = search rules in
    let same : length bytes / 4 ≡ c.args.count = ap (λ b. length b / 4) (sym c.int_bytes-bytes.ensures) ∙ c.if-bytes-count.false in
    to_z-of_z w32 c.int_at.result fits
    ∙ sym (same_count bytes c.args.count c.args.i c.int_at.result c.args.other same (rw (← c.int_bytes-bytes.ensures) c.int_at.ensures))
