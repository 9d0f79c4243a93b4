-- What is left of a plain run's files where a write failed.
use Rattle.std.proofs.Common.{◌≡◌, ◌≢◌, inl, inr, ℕ, ◌/◌, ◌%◌, ◌^◌, ◌<◌, ◌≤◌, true, false, List, [], ◌++◌, length, take, drop, refl, sym, ap, subst}
use Rattle.std.proofs.Common.{◌∙◌, arith, Option, Some, None}
use Rattle.std.specs.Prelude.{slice_get, IsSome, is_some}
use Rattle.std.proofs.Common.{take-append-drop}
use Rattle.std.proofs.lemmas.Bool.{false≢true}
use Rattle.std.proofs.lemmas.List.{append_assoc}
use Rattle.std.proofs.lemmas.Option.{same_Some}
use Rattle.nd_base.specs.Array.{Array, StackValue}
use Rattle.nd_base.specs.GraphRules.{IsGraph, rule_at}
use Rattle.nd_base.specs.declared.graph.Graph.{Graph}
use Rattle.nd_base.specs.declared.graph.Kind.TheVariants.{Stats}
use Rattle.nd_base.specs.declared.graph.NodeRule.{NodeRule}
use Rattle.nd_base.specs.declared.graph.StatsRule.{StatsRule}
use Rattle.edge_traits.specs.Files.{Files, MayAppend, file_at, with_more}
use Rattle.edge_traits.specs.FileLaws.{file_at-MayAppend, file_at-with_more_same}
use Rattle.cdf_write.specs.Layout.{layout}
use Rattle.nd_stack.specs.KeptStacks.{IsKeptStack}
use Rattle.file_out.specs.Streams.{Stream}
use Rattle.graph_files.specs.Groups.{group_of, HasBytes}
use Rattle.graph_files.specs.GroupLaws.{length-group}
use Rattle.graph_files.specs.Interrupted as interrupted
use Rattle.graph_files.specs.Interrupted.{IsStanding, IsBegunAs, AreInterrupted}
use Rattle.graph_files.specs.NameLaws.{stats_names-differ}
use Rattle.graph_files.specs.NodeFiles.{NodeFile, group_file, name_of}
use Rattle.graph_files.specs.NodeFileLaws.{cases_eq}
use Rattle.graph_files.specs.OpenFiles.{AllWritten}
use Rattle.graph_files.specs.OutFiles.{OutFile, plain_files, stats_name}
use Rattle.graph_files.proofs.BegunBytes.{GroupHas, Nothing, Whole, Opened, group-has}
use Rattle.graph_files.proofs.Writes.{next-place}
use Rattle.plain_saver.specs.BegunRows.{AreRowsTouched}
use Rattle.plain_saver.specs.Passes.{pass_at}
use Rattle.plain_saver.specs.Texts.{text_at}
use Rattle.plain_saver.specs.Saved.{IsSaved, IsNoRows, written, rows_of}
use Rattle.plain_saver.specs.declared.passes.Pass.{Pass}
use Rattle.graph_files.proofs.Torn.{told-file}
use Rattle.plain_saver.proofs.FileNodes.{FileOf, file-of, group-apart_stats, group-no_rows, none-elsewhere, one-node}
use Rattle.plain_saver.proofs.Fronts.{split, length-written, written-few, group-low, group-longer, standing-has}
use Rattle.plain_saver.proofs.StatsRows.{rows_of-append}
use Rattle.graph_files.proofs.PlainNames.{all-in, in-all, all_out, rows_file, Rows, plain-in}
use Rattle.plain_saver.proofs.Standing.{begun-of, standing-by, standing-then, StandsIn, stands-in, IsFilledGroup, group_record, IsNoName}
use Rattle.plain_saver.proofs.Standing.{interrupted-by}

-- where nothing was touched
pub interrupted-none : (before now : Option Files) (files : List OutFile) → now ≡ before → AreInterrupted before files now
interrupted-none before now files same = record {
  told = ap (λ (o : Option Files). is_some o) same;
  torn = [];
  each = all-in (λ f. f.name ≢ [] → IsStanding f.late f.bytes (file_at before f.name) (file_at now f.name)) files
      (λ f is ne. interrupted.Kept (ap (λ (o : Option Files). file_at o f.name) same));
  one = all-in (λ f. IsBegunAs f.late f.bytes (file_at before f.name) (file_at now f.name)) files
      (λ f is. interrupted.AsBefore (ap (λ (o : Option Files). file_at o f.name) same));
  others = λ q away. ap (λ (o : Option Files). file_at o q) same;
}

-- before any array went out
pub interrupted-begin : (g : Graph) (s : StackValue) (prefix : List ℕ) (before t : Option Files) → IsGraph g → AreRowsTouched g prefix before t
    → AreInterrupted before (plain_files g s prefix) t
interrupted-begin g s prefix before t sound h =
    let standing : (f : OutFile) → IsStanding f.late f.bytes (file_at before f.name) (file_at t f.name) =
    λ f. elim (h.each f.name) [ inl same ↦ interrupted.Kept same | inr none ↦ interrupted.Front [] _ refl none ] in
    record {
      told = h.told;
      torn = [];
      each = all-in (λ f. f.name ≢ [] → IsStanding f.late f.bytes (file_at before f.name) (file_at t f.name)) (plain_files g s prefix) (λ f is ne. standing f);
      one = all-in (λ f. IsBegunAs f.late f.bytes (file_at before f.name) (file_at t f.name)) (plain_files g s prefix)
          (λ f is. begun-of f.late f.bytes (file_at before f.name) (file_at t f.name) (standing f));
      others = λ q away. h.others q (λ v n r rule kind.
          in-all (λ f. q ≢ f.name) (plain_files g s prefix) away (rows_file g s prefix v n r)
          (plain-in g s prefix sound (rows_file g s prefix v n r) (Rows v n r rule kind refl)));
    }

-- two shelves with one file
pub same-file : (now t : Option Files) (q : List ℕ) (o : Option (List ℕ)) → is_some now ≡ true → is_some t ≡ true → HasBytes now q o → HasBytes t q o
    → (o ≡ None → file_at now q ≡ file_at t q) → file_at now q ≡ file_at t q
same-file now t q None told told_t has was none = none refl
same-file now t q (Some bytes) told told_t has was none = told-file now q bytes told has ∙ sym (told-file t q bytes told_t was)

-- a shelf tells its files as before, after more was added
told-more : (t : Option Files) (name bytes : List ℕ) → is_some (with_more t name bytes) ≡ is_some t
told-more None name bytes = refl
told-more (Some m) name bytes = refl

-- one kind has one rule
stats-same : (q r : StatsRule) → Stats q ≡ Stats r → q ≡ r
stats-same q r e = cc

module _ (g : Graph) (s : StackValue) (prefix : List ℕ) (sound : IsGraph g) (kept : IsKeptStack s) (before : Option Files) (ps : List Pass)
    (xs : List NodeFile) (t : Option Files) {ts : List (List ℕ)} (h : IsSaved g s prefix before ps ts xs t) where
  abbrev W : ℕ → List Array
  W v = written g s ps v

  abbrev gone : ℕ → ℕ
  gone v = (pass_at ps v).gone

  -- which node the files are of
  file : (k : ℕ) (x : NodeFile) → slice_get xs k ≡ Some x → FileOf g s prefix x
  file k x at = file-of g s prefix sound xs h.nodes k x at

  -- as many arrays are written as have gone
  long-written : (x : NodeFile) (f : FileOf g s prefix x) → length (W x.node) ≡ gone x.node
  long-written x f = length-written g s prefix kept ps h.passes x.node f.rule f.at

  -- they are few
  few : (x : NodeFile) → length (W x.node) < 2 ^ 64
  few x = written-few g s prefix kept ps h.passes x.node

  -- so a group that has an array has a small number
  low : (x : NodeFile) (i : ℕ) → FileOf g s prefix x → IsFilledGroup g s x i → i < 2 ^ 64
  low x i f filled = group-low g s prefix kept ps h.passes x.count i x.node f.some filled

  -- these arrays were written at each file node
  pub saved-written : AllWritten t xs W t
  saved-written = record { told = refl; each = λ k x at. (h.groups k x at).written; few = λ k x at. few x; others = λ q away. refl }

  -- AS IT IS

  -- a group's name that has nothing is as before
  pub saved-fresh : (k i : ℕ) (x : NodeFile) → slice_get xs k ≡ Some x → IsFilledGroup g s x i → group_file x (W x.node) i ≡ None
      → file_at t (name_of x i) ≡ file_at before (name_of x i)
  saved-fresh k i x at filled none =
      h.others (name_of x i) (none-elsewhere g s prefix sound xs h.nodes W (λ j y is. few y) k x at i (low x i (file k x at) filled) none)
      (group-no_rows g s prefix sound xs h.nodes k x at i)

  -- a group whose file is open has an array
  pub open-row : (k i : ℕ) (x : NodeFile) (at : slice_get xs k ≡ Some x) (o : Stream) → x.current ≡ Some o → i ≡ length (W x.node) / x.count
      → 1 ≤ length (group_of x.count i (W x.node))
  open-row k i x at o is here =
      let f = file k x at in
      let place = next-place x.count (W x.node) f.some in
      let long = length-group x.count (W x.node) (length (W x.node) / x.count) (length (W x.node) % x.count) place in
      let rows = ap (λ (n : ℕ). n % x.count) (long-written x f) in
      let row : 1 ≤ gone x.node % x.count = elim (cases_eq (gone x.node % x.count) 0) [
        | inl none ↦ let clash : Some o ≡ None = sym is ∙ (h.groups k x at).between none in absurd (cc)
        | inr some ↦ omega (arith, some)
      ] in
      subst (λ (w : ℕ). 1 ≤ length (group_of x.count w (W x.node))) (sym here) (omega (arith, long, rows, row))

  -- each group's name has a front of its file, or all of it
  pub saved-group : (k i : ℕ) (x : NodeFile) → slice_get xs k ≡ Some x → IsFilledGroup g s x i
      → IsStanding x.late (layout x.shape (group_of x.count i (all_out g s x.node))) (file_at before (name_of x i)) (file_at t (name_of x i))
  saved-group k i x at filled =
      let f = file k x at in
      let group = h.groups k x at in
      standing-by x.late (layout x.shape (group_of x.count i (all_out g s x.node))) (name_of x i) before t h.told (λ told.
      standing-has g s prefix kept ps h.passes x f i (file_at before (name_of x i)) t told (group.written.each i) group.numrecs
      (λ none. interrupted.Kept (saved-fresh k i x at filled none))
      (group-has x (W x.node) f.some group.written.begun i))

  -- a name that stands is one of a group that has an array in the end
  pub saved-long : (k i : ℕ) (x : NodeFile) → slice_get xs k ≡ Some x → IsSome (group_file x (W x.node) i) → IsFilledGroup g s x i
  saved-long k i x at named = long-by (group-has x (W x.node) f.some (h.groups k x at).written.begun i)
    where
      -- which node the files are of
      f : FileOf g s prefix x
      f = file k x at

      -- by what the name has
      long-by : GroupHas x (W x.node) i → IsFilledGroup g s x i
      long-by (Nothing is) = absurd (false≢true (sym (ap (λ (o : Option (List ℕ)). is_some o) is) ∙ named))
      long-by (Whole full is) = group-longer g s prefix kept ps h.passes x.count i x.node (omega (arith, full, f.some))
      long-by (Opened o open_ here is) = group-longer g s prefix kept ps h.passes x.count i x.node (open-row k i x at o open_ here)

  -- the rows of the arrays that have gone are a front of all rows
  pub saved-row : (v : ℕ) (n : NodeRule) (r : StatsRule) → rule_at g.nodes v ≡ Some n → n.kind ≡ Stats r
      → IsStanding false (rows_of r (all_out g s v)) (file_at before (stats_name prefix n.name)) (file_at t (stats_name prefix n.name))
  saved-row v n r rule kind =
      let p = split g s prefix kept ps h.passes v in
      let has = h.rows v n r rule kind in
      let rest = rows_of r p.0 in
      standing-by false (rows_of r (all_out g s v)) (stats_name prefix n.name) before t h.told (λ told.
      interrupted.Front has.0 (text_at ts v ++ rest)
      (ap (rows_of r) p.1 ∙ rows_of-append r (W v) p.0 ∙ ap (λ (b : List ℕ). b ++ rest) has.1 ∙ append_assoc has.0 (text_at ts v) rest)
      (told-file t (stats_name prefix n.name) has.0 told has.2))

  -- every other name is as before
  pub saved-away : (q : List ℕ) → IsNoName g s xs q → IsNoRows g prefix q → file_at t q ≡ file_at before q
  saved-away q away rows = h.others q (λ k x i at named. away k i x at (saved-long k i x at named)) rows

  -- where the writing stops between two steps
  pub interrupted-saved : AreInterrupted before (plain_files g s prefix) t
  interrupted-saved =
      interrupted-by g s prefix sound xs h.nodes before t h.told []
      (λ k i x at filled. stands-in [] before t (group_record g s x i) (saved-group k i x at filled))
      (λ v n r rule kind. stands-in [] before t (rows_file g s prefix v n r) (saved-row v n r rule kind)) saved-away

  -- ROWS THAT WEREN'T ADDED

  module _ (v : ℕ) (n : NodeRule) (r : StatsRule) (rule : rule_at g.nodes v ≡ Some n) (kind : n.kind ≡ Stats r) (now : Option Files)
      (may : MayAppend t (stats_name prefix n.name) (text_at ts v) now) where
    abbrev name : List ℕ
    name = stats_name prefix n.name

    -- no other name changes
    off-name : (q : List ℕ) → q ≢ name → file_at now q ≡ file_at t q
    off-name q ne = file_at-MayAppend t now name (text_at ts v) q may ne

    -- the shelf tells its files as before
    more-told : is_some now ≡ is_some before
    more-told = ap (λ (o : Option Files). is_some o) may.1 ∙ told-more t name (take may.0 (text_at ts v)) ∙ h.told

    -- with a front of the rows that are kept back
    row-here : IsStanding false (rows_of r (all_out g s v)) (file_at before name) (file_at now name)
    row-here =
        let p = split g s prefix kept ps h.passes v in
        let has = h.rows v n r rule kind in
        let added = take may.0 (text_at ts v) in
        let left = drop may.0 (text_at ts v) in
        let rest = rows_of r p.0 in
        let whole : rows_of r (all_out g s v) ≡ (has.0 ++ added) ++ (left ++ rest) =
        ap (rows_of r) p.1 ∙ rows_of-append r (W v) p.0
        ∙ ap (λ (b : List ℕ). b ++ rest) (has.1 ∙ ap (λ (b : List ℕ). has.0 ++ b) (sym (take-append-drop may.0 (text_at ts v)))
        ∙ sym (append_assoc has.0 added left))
        ∙ append_assoc (has.0 ++ added) left rest in
        standing-by false (rows_of r (all_out g s v)) name before now more-told (λ told.
        let told_t : is_some t ≡ true = h.told ∙ sym more-told ∙ told in
        interrupted.Front (has.0 ++ added) (left ++ rest) whole
        (ap (λ (o : Option Files). file_at o name) may.1 ∙ file_at-with_more_same t name added has.0 (told-file t name has.0 told_t has.2)))

    -- and every other statistics node has what it had
    each-row : (w : ℕ) (m : NodeRule) (q : StatsRule) → rule_at g.nodes w ≡ Some m → m.kind ≡ Stats q → StandsIn [] before now (rows_file g s prefix w m q)
    each-row w m q rule_w kind_w =
        elim (cases_eq w v) [
          | inl e ↦
              let same : m ≡ n = same_Some m n (sym rule_w ∙ ap (rule_at g.nodes) e ∙ rule) in
              let rules : q ≡ r = stats-same q r (sym kind_w ∙ ap (λ (z : NodeRule). z.kind) same ∙ kind) in
              let this : rows_file g s prefix w m q ≡ rows_file g s prefix v n r =
              ap (λ (u : ℕ). rows_file g s prefix u m q) e ∙ ap (λ (z : NodeRule). rows_file g s prefix v z q) same ∙ ap (rows_file g s prefix v n) rules in
              subst (StandsIn [] before now) (sym this) (stands-in [] before now (rows_file g s prefix v n r) row-here)
          | inr ne ↦
              let other : stats_name prefix m.name ≢ name = λ e. ne (one-node g sound w v m n rule_w rule (stats_names-differ prefix m.name n.name e)) in
              stands-in [] before now (rows_file g s prefix w m q)
              (standing-then false (rows_of q (all_out g s w)) (file_at before (stats_name prefix m.name)) (file_at t (stats_name prefix m.name))
              (file_at now (stats_name prefix m.name)) (off-name (stats_name prefix m.name) other) (saved-row w m q rule_w kind_w))
        ]

    -- the rows that are kept back at a statistics node, of which a front may have been added
    pub interrupted-row : AreInterrupted before (plain_files g s prefix) now
    interrupted-row =
        interrupted-by g s prefix sound xs h.nodes before now more-told []
        (λ j i x at filled. stands-in [] before now (group_record g s x i)
        (standing-then x.late (layout x.shape (group_of x.count i (all_out g s x.node))) (file_at before (name_of x i)) (file_at t (name_of x i))
        (file_at now (name_of x i)) (off-name (name_of x i) (group-apart_stats g s prefix sound xs h.nodes j x at i n.name)) (saved-group j i x at filled)))
        each-row
        (λ q away rows. off-name q (rows v n r rule kind) ∙ saved-away q away rows)
