-- The files of rows, written one after the other.
use Rattle.std.proofs.Common.{◌≡◌, ◌≢◌, ℕ, zero, suc, ◌+◌, ◌<◌, List, [], ◌∷◌, get_or, refl, sym, ap, subst, ◌∙◌, arith, Option, Some, None}
use Rattle.std.specs.Prelude.{slice_get, AllPairs, is_some}
use Rattle.std.proofs.lemmas.Option.{get_or_from_slice_get, slice_get_within, same_Some}
use Rattle.nd_base.specs.Array.{StackValue}
use Rattle.nd_base.specs.GraphRules.{IsGraph, rule_at}
use Rattle.nd_base.specs.declared.graph.Graph.{Graph}
use Rattle.nd_base.specs.declared.graph.NodeRule.{NodeRule}
use Rattle.edge_traits.specs.Files.{Files, HasFile, file_at, with_file}
use Rattle.edge_traits.specs.FileLaws.{file_at-with_file, file_at-with_file_same}
use Rattle.flow_journal.specs.Pasts.{Past}
use Rattle.graph_files.specs.BegunLaws.{with_files-append}
use Rattle.graph_files.specs.NameLaws.{stats-differ, stats_names-differ}
use Rattle.graph_files.specs.NodeFiles.{Wrote}
use Rattle.graph_files.specs.NodeFileLaws.{changed-HasBytes, with_file-told}
use Rattle.graph_files.specs.OutFiles.{OutFile, group_name, stats_name, with_files}
use Rattle.flow_saver.specs.HistoryFiles.{kind_rows, IsFileOf, Group, Rows, HoldsGroupsOf, HoldsFilesOf, RowsComplete, rows_file, rows_from, rows_files}

rules-apart : (ns : List NodeRule) → AllPairs (λ (m n : NodeRule). m.name ≢ n.name) ns → (j k : ℕ) (m n : NodeRule) → slice_get ns j ≡ Some m
    → slice_get ns k ≡ Some n → j < k → m.name ≢ n.name
rules-apart ns pairs j k m n hm hn below =
    let is_m = get_or_from_slice_get ns j m m hm in
    let is_n = get_or_from_slice_get ns k n m hn in
    subst (λ (r : NodeRule). m.name ≢ r.name) is_n
    (subst (λ (q : NodeRule). q.name ≢ (get_or ns k m).name) is_m (pairs j k m below (slice_get_within ns k n hn)))

with_files-told : (held : Option Files) (fs : List OutFile) → is_some (with_files held fs) ≡ is_some held
with_files-told held [] = refl
with_files-told held (f ∷ fs) = with_files-told (with_file held f.name f.bytes) fs ∙ with_file-told held f.name f.bytes

module _ (g : Graph) (stack : StackValue) (prefix : List ℕ) (P : Past) where
  -- the name is that of no rows of these nodes
  abbrev IsNoRows : (u : ℕ) → List NodeRule → List ℕ → Type 0
  IsNoRows u ns q =
      (j : ℕ) (n : NodeRule) (bytes : List ℕ) → slice_get ns j ≡ Some n → kind_rows g stack P (u + j) n.kind ≡ Some bytes → q ≢ stats_name prefix n.name

  abbrev step : Option Files → (u : ℕ) → NodeRule → Option Files
  step held u n = with_files held (rows_file prefix n.name (kind_rows g stack P u n.kind))

  first-no : (u : ℕ) (n : NodeRule) (ns : List NodeRule) (q bytes : List ℕ) → IsNoRows u (n ∷ ns) q
      → kind_rows g stack P u n.kind ≡ Some bytes → q ≢ stats_name prefix n.name
  first-no u n ns q bytes away is = away 0 n bytes refl (ap (λ (w : ℕ). kind_rows g stack P w n.kind) (let e : u + 0 ≡ u = omega arith in e) ∙ is)

  later-no : (u : ℕ) (n : NodeRule) (ns : List NodeRule) (q : List ℕ) → IsNoRows u (n ∷ ns) q → IsNoRows (u + 1) ns q
  later-no u n ns q away j m bytes at is =
      away (suc j) m bytes at (ap (λ (w : ℕ). kind_rows g stack P w m.kind) (let e : u + suc j ≡ u + 1 + j = omega arith in e) ∙ is)

  one-other : (held : Option Files) (name q : List ℕ) (o : Option (List ℕ)) → ((bytes : List ℕ) → o ≡ Some bytes → q ≢ stats_name prefix name)
      → file_at (with_files held (rows_file prefix name o)) q ≡ file_at held q
  one-other held name q None away = refl
  one-other held name q (Some bytes) away = file_at-with_file held (stats_name prefix name) bytes q (away bytes refl)

  one-kept : (held : Option Files) (name q b : List ℕ) (o : Option (List ℕ)) → ((bytes : List ℕ) → o ≡ Some bytes → q ≢ stats_name prefix name)
      → HasFile held q b → HasFile (with_files held (rows_file prefix name o)) q b
  one-kept held name q b None away has = has
  one-kept held name q b (Some bytes) away has =
      changed-HasBytes held (with_file held (stats_name prefix name) bytes) (stats_name prefix name) q (Some b) (Wrote bytes refl) (away bytes refl) has

  -- every other name is as it was
  pub rows-others : (u : ℕ) (ns : List NodeRule) (held : Option Files) (q : List ℕ) → IsNoRows u ns q
      → file_at (with_files held (rows_from g stack prefix P u ns)) q ≡ file_at held q
  rows-others u [] held q away = refl
  rows-others u (n ∷ ns) held q away =
      ap (λ (w : Option Files). file_at w q)
      (with_files-append held (rows_file prefix n.name (kind_rows g stack P u n.kind)) (rows_from g stack prefix P (u + 1) ns))
      ∙ rows-others (u + 1) ns (step held u n) q (later-no u n ns q away)
      ∙ one-other held n.name q (kind_rows g stack P u n.kind) (λ bytes is. first-no u n ns q bytes away is)

  pub rows-kept : (u : ℕ) (ns : List NodeRule) (held : Option Files) (q b : List ℕ) → IsNoRows u ns q → HasFile held q b
      → HasFile (with_files held (rows_from g stack prefix P u ns)) q b
  rows-kept u [] held q b away has = has
  rows-kept u (n ∷ ns) held q b away has =
      subst (λ (w : Option Files). HasFile w q b)
      (sym (with_files-append held (rows_file prefix n.name (kind_rows g stack P u n.kind)) (rows_from g stack prefix P (u + 1) ns)))
      (rows-kept (u + 1) ns (step held u n) q b (later-no u n ns q away)
      (one-kept held n.name q b (kind_rows g stack P u n.kind) (λ bytes is. first-no u n ns q bytes away is) has))

  has-it : (held : Option Files) (name bytes : List ℕ) → HasFile (with_file held name bytes) name bytes
  has-it None name bytes = tt
  has-it (Some m) name bytes = file_at-with_file_same m name bytes

  one-has : (held : Option Files) (name bytes : List ℕ) (o : Option (List ℕ)) → o ≡ Some bytes
      → HasFile (with_files held (rows_file prefix name o)) (stats_name prefix name) bytes
  one-has held name bytes None is = let none_ : None ≡ Some bytes = is in absurd (cc)
  one-has held name bytes (Some b) is =
      subst (λ (w : List ℕ). HasFile (with_file held (stats_name prefix name) b) (stats_name prefix name) w) (same_Some b bytes is)
      (has-it held (stats_name prefix name) b)

  abbrev Apart : List NodeRule → Type 0
  Apart ns = (j k : ℕ) (m n : NodeRule) → slice_get ns j ≡ Some m → slice_get ns k ≡ Some n → j < k → m.name ≢ n.name

  -- each file of rows stands
  pub rows-has : (u : ℕ) (ns : List NodeRule) → Apart ns → (held : Option Files) (j : ℕ) (n : NodeRule) (bytes : List ℕ) → slice_get ns j ≡ Some n
      → kind_rows g stack P (u + j) n.kind ≡ Some bytes
      → HasFile (with_files held (rows_from g stack prefix P u ns)) (stats_name prefix n.name) bytes
  rows-has u [] apart held j n bytes at is = let none_ : None ≡ Some n = at in absurd (cc)
  rows-has u (m ∷ ns) apart held zero n bytes at is =
      let same : m ≡ n = same_Some m n at in
      let here : kind_rows g stack P u m.kind ≡ Some bytes =
      ap (λ (q : NodeRule). kind_rows g stack P u q.kind) same ∙ ap (λ (w : ℕ). kind_rows g stack P w n.kind) (let e : u ≡ u + 0 = omega arith in e) ∙ is in
      subst (λ (w : Option Files). HasFile w (stats_name prefix n.name) bytes)
      (sym (with_files-append held (rows_file prefix m.name (kind_rows g stack P u m.kind)) (rows_from g stack prefix P (u + 1) ns)))
      (rows-kept (u + 1) ns (step held u m) (stats_name prefix n.name) bytes
      (λ k r b at_k is_k e. apart 0 (suc k) m r refl at_k (omega arith) (ap (λ (q : NodeRule). q.name) same ∙ stats_names-differ prefix n.name r.name e))
      (subst (λ (q : NodeRule). HasFile (step held u m) (stats_name prefix q.name) bytes) same (one-has held m.name bytes (kind_rows g stack P u m.kind) here)))
  rows-has u (m ∷ ns) apart held (suc j) n bytes at is =
      subst (λ (w : Option Files). HasFile w (stats_name prefix n.name) bytes)
      (sym (with_files-append held (rows_file prefix m.name (kind_rows g stack P u m.kind)) (rows_from g stack prefix P (u + 1) ns)))
      (rows-has (u + 1) ns (λ a b q r at_a at_b below. apart (suc a) (suc b) q r at_a at_b (omega (arith, below))) (step held u m) j n bytes at
      (ap (λ (w : ℕ). kind_rows g stack P w n.kind) (let e : u + 1 + j ≡ u + suc j = omega arith in e) ∙ is))

  node-no : (q : List ℕ)
      → ((v : ℕ) (n : NodeRule) (bytes : List ℕ) → rule_at g.nodes v ≡ Some n → kind_rows g stack P v n.kind ≡ Some bytes → q ≢ stats_name prefix n.name)
      → IsNoRows 1 g.nodes q
  node-no q away j n bytes at is = away (suc j) n bytes at (ap (λ (w : ℕ). kind_rows g stack P w n.kind) (let e : suc j ≡ 1 + j = omega arith in e) ∙ is)

  module _ (before held : Option Files) (sound : IsGraph g) (h : HoldsGroupsOf g stack prefix P before held) where
    abbrev now : Option Files
    now = with_files held (rows_files g stack prefix P)

    rows-at : (v : ℕ) (n : NodeRule) (bytes : List ℕ) → rule_at g.nodes v ≡ Some n → kind_rows g stack P v n.kind ≡ Some bytes
        → HasFile now (stats_name prefix n.name) bytes
    rows-at zero n bytes rule is = let none_ : None ≡ Some n = rule in absurd (cc)
    rows-at (suc j) n bytes rule is =
        rows-has 1 g.nodes (λ a b m r at_a at_b below. rules-apart g.nodes sound.names a b m r at_a at_b below) held j n bytes rule
        (ap (λ (w : ℕ). kind_rows g stack P w n.kind) (let e : 1 + j ≡ suc j = omega arith in e) ∙ is)

    each-by : (name bytes : List ℕ) → IsFileOf g stack prefix P name bytes → HasFile now name bytes
    each-by _ _ (Group v i n bytes rule is) =
        rows-kept 1 g.nodes held (group_name prefix n.name i) bytes (λ j m b at_j is_j. stats-differ prefix n.name m.name i) (h.each v i n bytes rule is)
    each-by _ _ (Rows v n bytes rule is) = rows-at v n bytes rule is

    pub complete : HoldsFilesOf g stack prefix P before now
    complete = record {
      told = with_files-told held (rows_files g stack prefix P) ∙ h.told;
      each = each-by;
      others = λ q away.
          rows-others 1 g.nodes held q (node-no q (λ v n bytes rule is. away (stats_name prefix n.name) bytes (Rows v n bytes rule is)))
          ∙ h.others q (λ v i n bytes rule is. away (group_name prefix n.name i) bytes (Group v i n bytes rule is));
    }

pub rows_complete : RowsComplete
rows_complete g stack prefix P before held sound h = complete g stack prefix P before held sound h
