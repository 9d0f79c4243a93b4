use Rattle.std.proofs.Common.{◌≡◌, ◌≤◌, Some, ap, sym, ◌∙◌}
use Rattle.std.specs.Prelude.{option_copied}
use Rattle.std.specs.Str.{bytes_eq}
use Rattle.cdf_read.specs.declared.head.HeadVar.{HeadVar}
use Rattle.cdf_read.specs.Places.{var_size}
use Rattle.nd_stack.specs.Columns.{variable_of}
use Rattle.nd_stack.proofs.Numbers.{All-find}
use Rattle.nd_stack.proofs.heads.column_named.Goals as goal

pub column_of-requires : goal.column_of-requires
column_of-requires c =
    let h = c.args.header.now in
    let found : variable_of h c.args.name.now ≡ Some c.in_ok-var.var.now = sym c.variable_of.ensures ∙ ap option_copied c.in_ok-var.was in
    All-find (λ v. var_size h.dims v ≤ 4294967296) (λ (v : HeadVar). bytes_eq v.name c.args.name.now) h.vars c.in_ok-var.var.now c.requires found
