-- What stands under a name while its file is written.
use Rattle.std.proofs.Common.{◌≡◌, ℕ, List, [], ◌++◌, Option, refl, ap, sym, ◌∙◌, take, drop, inl, inr, append_assoc}
use Rattle.std.proofs.lemmas.List.{append-nil, take-append-drop}
use Rattle.edge_traits.specs.Files.{Files, with_file, with_more, MayCreate, MayAppend}
use Rattle.edge_traits.specs.FileLaws.{with_more-with_file}
use Rattle.file_out.specs.declared.fault.SaveFault.{SaveFault}
use Rattle.file_out.specs.declared.fault.SaveFault.TheVariants.{Failed, OutOfMemory}
use Rattle.file_out.specs.Saving.{IsBegun, Untouched, Front, BeginStops, AddStops}

-- a create that failed
pub IsBegun-create : (t u : Option Files) (name final : List ℕ) → MayCreate t name u → IsBegun t name final u
IsBegun-create t u name final (inl same) = Untouched same
IsBegun-create t u name final (inr made) = Front [] final refl made

-- a piece that was added in part, after others
pub IsBegun-append : (t u v : Option Files) (name done piece rest final : List ℕ) → final ≡ (done ++ piece) ++ rest → u ≡ with_file t name done
    → MayAppend u name piece v → IsBegun t name final v
IsBegun-append t u v name done piece rest final whole made (count, is) =
    Front (done ++ take count piece) (drop count piece ++ rest)
    (whole ∙ ap (λ p. (done ++ p) ++ rest) (sym (take-append-drop count piece))
    ∙ ap (λ p. p ++ rest) (sym (append_assoc done (take count piece) (drop count piece)))
    ∙ append_assoc (done ++ take count piece) (drop count piece) rest)
    (is ∙ ap (λ w. with_more w name (take count piece)) made ∙ with_more-with_file t name done (take count piece))

-- the whole of a file
pub IsBegun-whole : (t u : Option Files) (name final : List ℕ) → u ≡ with_file t name final → IsBegun t name final u
IsBegun-whole t u name final made = Front final [] (sym (append-nil final)) made

-- a file whose header wasn't written
pub IsBegun-BeginStops : (fault : SaveFault) (t u : Option Files) (name header rest final : List ℕ) → final ≡ header ++ rest
    → BeginStops fault t name header u → IsBegun t name final u
IsBegun-BeginStops OutOfMemory t u name header rest final whole same = Untouched same
IsBegun-BeginStops Failed t u name header rest final whole (Untouched same) = Untouched same
IsBegun-BeginStops Failed t u name header rest final whole (Front front others is made) =
    Front front (others ++ rest) (whole ∙ ap (λ bytes. bytes ++ rest) is ∙ append_assoc front others rest) made

-- a row that wasn't added, after others
pub IsBegun-AddStops : (fault : SaveFault) (t u v : Option Files) (name done piece rest final : List ℕ) → final ≡ (done ++ piece) ++ rest
    → u ≡ with_file t name done → AddStops fault u name piece v → IsBegun t name final v
IsBegun-AddStops OutOfMemory t u v name done piece rest final whole made same = Front done (piece ++ rest) (whole ∙ append_assoc done piece rest) (same ∙ made)
IsBegun-AddStops Failed t u v name done piece rest final whole made may = IsBegun-append t u v name done piece rest final whole made may
