-- The numbers in names of files, as they are formatted.
use Rattle.std.proofs.Common.{◌≡◌, ℕ, ◌-◌, ◌^◌, [], ◌++◌, false, length, ap, ◌∙◌, arith, append-nil}
use Rattle.std.specs.Prelude.{replicate}
use Rattle.std.specs.Fmt.{decimal, format_spec, padded_integral, char_count}
use Rattle.graph_files.specs.OutFiles.{group_number}

-- at least three digits
pub group_number-padded : (g : ℕ) → padded_integral (format_spec 32 0 4 3 (2 ^ 64 - 1)) false [] (decimal g) ≡ group_number g
unfolding padded_integral char_count
group_number-padded g =
    let zeros : 3 - length (decimal g) - 0 - 0 ≡ 3 - length (decimal g) = omega arith in
    ap (λ digits. replicate (3 - length (decimal g) - 0 - 0) 48 ++ digits) (append-nil (decimal g))
    ∙ ap (λ n. replicate n 48 ++ decimal g) zeros
