use Rattle.std.proofs.Common.{◌≡◌, ◌*◌, ℕ, map, ap, sym, ◌∙◌}
use Rattle.std.specs.Prelude.{None}
use Rattle.std.specs.List.{range_with_len}
use Rattle.nd_base.specs.Samples.{bytes_of}
use Rattle.nd_stack.specs.Generated.{number_after, sample_for, gen_fault}
use Rattle.nd_stack.specs.GeneratedLaws.{no_fault-IsAllowed, generated-IsKeptStack}
use Rattle.nd_stack.proofs.GeneratedFrames.{generated-FitsFile, made-stack}
use Rattle.nd_stack.proofs.generated.gen_stack.Goals as goal

pub new-requires : goal.new-requires
new-requires c =
    let none : gen_fault c.args.n c.args.w c.args.h c.args.kind ≡ None = sym c.in_default.ensures in
    rw (c.in_ok-shape.ensures, c.new-heads.ensures ∙ c.in_ok-heads.ensures, c.new-bytes.ensures ∙ c.in_ok-bytes.ensures)
    (rw (c.next_number.ensures, c.width.ensures)
    (generated-FitsFile c.args.n c.args.w c.args.h c.args.kind c.args.start (no_fault-IsAllowed c.args.n c.args.w c.args.h c.args.kind none)))

pub returns-clause-value : goal.returns-clause-value
returns-clause-value c =
    let count : ℕ = c.args.n * (c.args.w * c.args.h) in
    c.new.ensures
    ∙ made-stack c.args.n c.args.w c.args.h c.args.kind c.args.start _ _ _ _ c.in_ok-shape.ensures (c.new-heads.ensures ∙ c.in_ok-heads.ensures)
    (c.new-bytes.ensures ∙ c.in_ok-bytes.ensures
    ∙ ap (λ x. bytes_of c.args.kind (map (λ j. sample_for c.args.kind (number_after x j)) (range_with_len 0 count))) c.next_number.ensures)
    (ap (λ m. c.args.w * c.args.h * m) c.width.ensures)

pub returns-clause-kept : goal.returns-clause-kept
returns-clause-kept c =
    let none : gen_fault c.args.n c.args.w c.args.h c.args.kind ≡ None = sym c.in_default.ensures in
    rw (returns-clause-value c) (generated-IsKeptStack c.args.n c.args.w c.args.h c.args.kind c.args.start none)
