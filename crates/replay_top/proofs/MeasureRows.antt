-- The rows of measures, one after the other, and the files that are written node by node.
use Rattle.std.proofs.Common.{◌≡◌, inl, ℕ, Bool, true, ◌+◌, ◌<◌, ◌≤◌, List, [], ◌∷◌, ◌++◌, Option, length, take, drop, get_or, refl, ap, sym, subst, ◌∙◌}
use Rattle.std.proofs.Common.{arith, append_assoc}
use Rattle.std.specs.List.{flat_map}
use Rattle.std.proofs.Math.Seq.{take-add}
use Rattle.std.proofs.lemmas.List.{append-nil, length-take-le, take-append-drop, take_all, take_more}
use Rattle.std.proofs.lemmas.List.Concat.{flat_map-append}
use Rattle.nd_base.specs.declared.graph.NodeRule.{NodeRule}
use Rattle.nd_base.specs.declared.measure.Measure.{Measure}
use Rattle.edge_traits.specs.Files.{Files, with_file, with_more, MayAppend}
use Rattle.edge_traits.specs.FileLaws.{with_more-with_file}
use Rattle.nd_stats.specs.Row.{row}
use Rattle.file_out.specs.Saving.{IsBegun, Front}
use Rattle.file_out.specs.BegunLaws.{IsBegun-append}
use Rattle.flow_journal.specs.Pasts.{Past}
use Rattle.graph_files.specs.BegunFiles.{AreBegun, Unended}
use Rattle.graph_files.specs.BegunLaws.{with_files-append, AreBegun-first, AreBegun-later}
use Rattle.graph_files.specs.OutFiles.{OutFile, with_files}
use Rattle.replay_top.specs.LogFiles.{log_name, log_text, log_files}
use Rattle.replay_top.specs.MeasuredFiles.{measured_rows, measured_files}

-- ROWS

module _ (ms : List Measure) (i : ℕ) where
  -- the rows of the first i measures, and those of the others
  rows-split : flat_map row ms ≡ flat_map row (take i ms) ++ flat_map row (drop i ms)
  rows-split = ap (flat_map row) (sym (take-append-drop i ms)) ∙ flat_map-append row (take i ms) (drop i ms)

  -- one measure more
  pub rows-more : (d : Measure) → i < length ms → flat_map row (take (i + 1) ms) ≡ flat_map row (take i ms) ++ row (get_or ms i d)
  rows-more d within =
      ap (flat_map row) (take_more ms i d within) ∙ flat_map-append row (take i ms) (get_or ms i d ∷ [])
      ∙ ap (λ b. flat_map row (take i ms) ++ b) (append-nil (row (get_or ms i d)))

  -- all of them
  pub rows-whole : length ms ≤ i → flat_map row (take i ms) ≡ flat_map row ms
  rows-whole h = ap (flat_map row) (take_all i ms h)

  module _ (held u : Option Files) (name : List ℕ) (made : u ≡ with_file held name (flat_map row (take i ms))) where
    -- the file of the first measures is a front of the file
    pub rows-begun : IsBegun held name (flat_map row ms) u
    rows-begun = Front (flat_map row (take i ms)) (flat_map row (drop i ms)) rows-split made

    module _ (n : ℕ) (text : List ℕ) (is : text ≡ flat_map row (take n (drop i ms))) where
      -- the rows of n measures more
      rows-next : flat_map row (take (i + n) ms) ≡ flat_map row (take i ms) ++ text
      rows-next =
          ap (flat_map row) (take-add i n ms) ∙ flat_map-append row (take i ms) (take n (drop i ms)) ∙ ap (λ b. flat_map row (take i ms) ++ b) (sym is)

      -- also with a part of them
      pub rows-part : (now : Option Files) → MayAppend u name text now → IsBegun held name (flat_map row ms) now
      rows-part now may =
          let rest = flat_map row (drop (i + n) ms) in
          let all : flat_map row ms ≡ flat_map row (take (i + n) ms) ++ rest =
          ap (flat_map row) (sym (take-append-drop (i + n) ms)) ∙ flat_map-append row (take (i + n) ms) (drop (i + n) ms) in
          IsBegun-append held u now name (flat_map row (take i ms)) text rest (flat_map row ms) (all ∙ ap (λ b. b ++ rest) rows-next) made may

      -- with all of them
      pub rows-added : (now : Option Files) → now ≡ with_more u name text → now ≡ with_file held name (flat_map row (take (i + n) ms))
      rows-added now added =
          added ∙ ap (λ w. with_more w name text) made ∙ with_more-with_file held name (flat_map row (take i ms)) text
          ∙ ap (with_file held name) (sym rows-next)

-- NODES

module _ (prefix : List ℕ) where
  -- the files of some nodes, and of others after them
  files-append : (ns os : List NodeRule) (ms ks : List (List Measure)) → length ns ≡ length ms
      → measured_files prefix (ns ++ os) (ms ++ ks) ≡ measured_files prefix ns ms ++ measured_files prefix os ks
  files-append [] os [] ks same = refl
  files-append [] os (m ∷ ms) ks same = absurd (omega (arith, same))
  files-append (n ∷ ns) os [] ks same = absurd (omega (arith, same))
  files-append (n ∷ ns) os (m ∷ ms) ks same =
      ap (λ fs. measured_rows prefix n m ++ fs) (files-append ns os ms ks (omega (arith, same)))
      ∙ sym (append_assoc (measured_rows prefix n m) (measured_files prefix ns ms) (measured_files prefix os ks))

  module _ (ns : List NodeRule) (ms : List (List Measure)) (same : length ns ≡ length ms)
      (p : ℕ) (n : NodeRule) (m : List Measure) (within : p < length ns) where
    abbrev first : List OutFile
    first = measured_files prefix (take p ns) (take p ms)

    takes-even : (q : ℕ) → q ≤ length ns → length (take q ns) ≡ length (take q ms)
    takes-even q h = length-take-le q ns h ∙ sym (length-take-le q ms (omega (arith, h, same)))

    -- one node more
    files-more : (d : List Measure) → n ≡ get_or ns p n → m ≡ get_or ms p d
        → measured_files prefix (take (p + 1) ns) (take (p + 1) ms) ≡ first ++ measured_rows prefix n m
    files-more d at_n at_m =
        ap (λ os. measured_files prefix os (take (p + 1) ms)) (take_more ns p n within ∙ ap (λ o. take p ns ++ o ∷ []) (sym at_n))
        ∙ ap (λ ks. measured_files prefix (take p ns ++ n ∷ []) ks) (take_more ms p d (omega (arith, within, same)) ∙ ap (λ k. take p ms ++ k ∷ []) (sym at_m))
        ∙ files-append (take p ns) (n ∷ []) (take p ms) (m ∷ []) (takes-even p (omega (arith, within)))
        ∙ ap (λ fs. first ++ fs) (append-nil (measured_rows prefix n m))

    -- and the others
    files-split : (d : List Measure) → n ≡ get_or ns p n → m ≡ get_or ms p d
        → measured_files prefix ns ms ≡ (first ++ measured_rows prefix n m) ++ measured_files prefix (drop (p + 1) ns) (drop (p + 1) ms)
    files-split d at_n at_m =
        ap (λ os. measured_files prefix os ms) (sym (take-append-drop (p + 1) ns))
        ∙ ap (λ ks. measured_files prefix (take (p + 1) ns ++ drop (p + 1) ns) ks) (sym (take-append-drop (p + 1) ms))
        ∙ files-append (take (p + 1) ns) (drop (p + 1) ns) (take (p + 1) ms) (drop (p + 1) ms) (takes-even (p + 1) (omega (arith, within)))
        ∙ ap (λ fs. fs ++ measured_files prefix (drop (p + 1) ns) (drop (p + 1) ms)) (files-more d at_n at_m)

    module _ (held u now : Option Files) (made : u ≡ with_files held first) (d : List Measure) (at_n : n ≡ get_or ns p n) (at_m : m ≡ get_or ms p d) where
      -- the files of one node more
      pub next-rows : now ≡ with_files u (measured_rows prefix n m) → now ≡ with_files held (measured_files prefix (take (p + 1) ns) (take (p + 1) ms))
      next-rows added =
          added ∙ ap (λ w. with_files w (measured_rows prefix n m)) made ∙ sym (with_files-append held first (measured_rows prefix n m))
          ∙ ap (with_files held) (sym (files-more d at_n at_m))

      -- or not all of them
      pub next-rows_begun : AreBegun u (measured_rows prefix n m) now → AreBegun held (measured_files prefix ns ms) now
      next-rows_begun begun =
          let one : AreBegun held (first ++ measured_rows prefix n m) now =
          AreBegun-later held now first (measured_rows prefix n m) (subst (λ (w : Option Files). AreBegun w (measured_rows prefix n m) now) made begun) in
          subst (λ (fs : List OutFile). AreBegun held fs now) (sym (files-split d at_n at_m))
          (AreBegun-first held now (first ++ measured_rows prefix n m) (measured_files prefix (drop (p + 1) ns) (drop (p + 1) ms)) one)

  -- all of them
  pub files-whole : (ns : List NodeRule) (ms : List (List Measure)) (p : ℕ) → length ns ≡ length ms → length ns ≤ p
      → measured_files prefix (take p ns) (take p ms) ≡ measured_files prefix ns ms
  files-whole ns ms p same h =
      ap (λ os. measured_files prefix os (take p ms)) (take_all p ns h) ∙ ap (measured_files prefix ns) (take_all p ms (omega (arith, h, same)))

-- THE LOG'S TEXT, AFTER THESE FILES

module _ (held mid now : Option Files) (xs : List OutFile) (logs : Bool) (prefix : List ℕ)
    (P : Past) (some : logs ≡ true) (made : mid ≡ with_files held xs) where
  pub with-log : now ≡ with_file mid (log_name prefix) (log_text P) → now ≡ with_files held (xs ++ log_files logs prefix P)
  with-log is =
      is ∙ ap (λ w. with_file w (log_name prefix) (log_text P)) made ∙ sym (with_files-append held xs (log_files true prefix P))
      ∙ ap (λ b. with_files held (xs ++ log_files b prefix P)) (sym some)

  pub log-begun : IsBegun mid (log_name prefix) (log_text P) now → AreBegun held (xs ++ log_files logs prefix P) now
  log-begun begun =
      subst (λ b. AreBegun held (xs ++ log_files b prefix P) now) (sym some)
      (AreBegun-later held now xs (log_files true prefix P)
      (subst (λ (w : Option Files). AreBegun w (log_files true prefix P) now) made (inl (Unended begun))))
