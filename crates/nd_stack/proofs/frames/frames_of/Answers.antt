use Rattle.std.proofs.Common.{◌≡◌, ◌≤◌, length, Some, ap, sym, ◌∙◌, arith}
use Rattle.std.specs.Prelude.{codes, option_copied}
use Rattle.std.specs.Str.{bytes_eq}
use Rattle.cdf_read.specs.declared.head.HeadVar.{HeadVar}
use Rattle.cdf_read.specs.Places.{var_size}
use Rattle.nd_stack.specs.Columns.{variable_of}
use Rattle.nd_stack.proofs.Numbers.{All-find, frame_misfit-below}
use Rattle.nd_stack.proofs.frames.frames_of.Goals as goal

pub overflow_cast-result : goal.overflow_cast-result
overflow_cast-result c =
    let h = c.args.header.now in
    let found : variable_of h (codes "array_data") ≡ Some c.in_ok-var.var.now = sym c.variable_of.ensures ∙ ap option_copied c.in_ok-var.ensures.ok_part in
    let rank =
    All-find (λ (v : HeadVar). length v.dims ≤ 2147483647) (λ (v : HeadVar). bytes_eq v.name (codes "array_data")) h.vars
    c.in_ok-var.var.now c.requires.ranks found in
    omega (arith, rank, ap length c.as_slice-rank.ensures)

pub frame_values-samples-requires : goal.frame_values-samples-requires
frame_values-samples-requires c =
    let h = c.args.header.now in
    let found : variable_of h (codes "array_data") ≡ Some c.in_ok-var.var.now = sym c.variable_of.ensures ∙ ap option_copied c.in_ok-var.ensures.ok_part in
    All-find (λ v. var_size h.dims v ≤ 4294967296) (λ (v : HeadVar). bytes_eq v.name (codes "array_data")) h.vars c.in_ok-var.var.now c.requires.small found

pub overflow_cast-result-in-Some : goal.overflow_cast-result-in-Some
overflow_cast-result-in-Some c =
    let h = c.args.header.now in
    let below = frame_misfit-below h c.frame_count-frames.result c.in-Some.var (sym c.in-Some.ensures) in
    omega (arith, below, c.requires.few)
