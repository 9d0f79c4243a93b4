-- What is left of a plain run's groups where it stopped between two steps, or on the file of a statistics node.
use Rattle.std.proofs.Common.{◌≡◌, ◌≢◌, ◌⊎◌, ℕ, ◌*◌, ◌/◌, false, List, [], length, drop, refl, sym, ap, subst}
use Rattle.std.proofs.Common.{◌∙◌, arith, Option, Some, None}
use Rattle.std.specs.Prelude.{slice_get, is_some}
use Rattle.std.proofs.Common.{length-take, length-drop}
use Rattle.std.proofs.lemmas.Bool.{false≢true}
use Rattle.nd_base.specs.Array.{Array, StackValue}
use Rattle.nd_base.specs.GraphRules.{IsGraph, IsKind, IsFile, rule_at}
use Rattle.nd_base.specs.declared.graph.Graph.{Graph}
use Rattle.nd_base.specs.declared.graph.Kind.TheVariants.{Stats}
use Rattle.nd_base.specs.declared.graph.NodeRule.{NodeRule}
use Rattle.nd_base.specs.declared.graph.StatsRule.{StatsRule}
use Rattle.edge_traits.specs.Files.{Files, MayAppend, file_at}
use Rattle.edge_traits.specs.FileLaws.{file_at-MayAppend}
use Rattle.nd_stack.specs.KeptStacks.{IsKeptStack}
use Rattle.chain_plain.specs.PlainRun.{passed}
use Rattle.chain_plain.proofs.Rules.{stands}
use Rattle.graph_files.specs.Groups.{group_of, HasBytes}
use Rattle.graph_files.specs.Interrupted.{IsCountOf}
use Rattle.graph_files.specs.NameLaws.{stats-differ}
use Rattle.graph_files.specs.NodeFiles.{NodeFile, first_count, group_file, name_of}
use Rattle.graph_files.specs.OutFiles.{group_name, plain_files, stats_name}
use Rattle.graph_files.specs.TornGroups.{IsTornAt, AreTornGroups}
use Rattle.graph_files.proofs.BegunBytes.{GroupHas, group-has}
use Rattle.graph_files.proofs.PlainNames.{all_out}
use Rattle.graph_files.proofs.TornGroups.{names-but, torn-groups}
use Rattle.plain_saver.specs.BegunRows.{AreRowsTouched}
use Rattle.plain_saver.specs.Passes.{pass_at}
use Rattle.plain_saver.specs.Texts.{text_at}
use Rattle.plain_saver.specs.Saved.{IsSaved, written, group_size}
use Rattle.plain_saver.specs.TornRuns.{IsTornRun}
use Rattle.plain_saver.specs.declared.passes.Pass.{Pass}
use Rattle.plain_saver.proofs.FileNodes.{FileOf, file-of, files-of-rule, group-apart_stats}
use Rattle.plain_saver.proofs.Fronts.{split, group-sized, count-of, has-numrecs}
use Rattle.plain_saver.proofs.Interrupted.{interrupted-begin, interrupted-none, interrupted-saved, interrupted-row, open-row, saved-fresh}
use Rattle.plain_saver.proofs.Standing.{IsFilledGroup}

-- a shelf that has under a name what another has
has-same : (t now : Option Files) (name : List ℕ) (o : Option (List ℕ)) → is_some now ≡ is_some t → file_at now name ≡ file_at t name
    → HasBytes t name o → HasBytes now name o
has-same t now name None told same has = tt
has-same None None name (Some bytes) told same has = tt
has-same None (Some m) name (Some bytes) told same has = absurd (false≢true (sym told))
has-same (Some w) None name (Some bytes) told same has = tt
has-same (Some w) (Some m) name (Some bytes) told same has = same ∙ has

-- BEFORE ANY ARRAY WENT OUT

-- no group has an array yet
none-yet : (count i : ℕ) → length (group_of {X = Array} count i []) ≡ 0
none-yet count i = omega (arith, length-take {A = Array} count (drop (i * count) []), length-drop {A = Array} (i * count) [])

groups-none : (g : Graph) (s : StackValue) (prefix : List ℕ) (before now : Option Files) → IsGraph g
    → ((i : ℕ) (n : NodeRule) → file_at now (group_name prefix n.name i) ≡ file_at before (group_name prefix n.name i))
    → AreTornGroups g s prefix (λ v. all_out g s v) (λ v. []) before now
groups-none g s prefix before now sound same = record {
  first = λ v. (all_out g s v, refl);
  node = 0;
  group = 0;
  coming = [];
  place = λ n r rule kind. let none_ : None ≡ Some n = rule in absurd (cc);
  torn = λ n r rule kind. let none_ : None ≡ Some n = rule in absurd (cc);
  ending = false;
  none = λ clash. absurd (false≢true clash);
  all = λ clash. absurd (false≢true clash);
  untouched = λ v i n r rule kind off some none_. same i n;
  whole = λ v i n r rule kind off full.
      let file : IsFile r = subst IsKind kind (stands g v n sound (sym rule)).sound.kind in
      absurd (omega (arith, full, none-yet r.count i, file.count.0));
  ended = λ clash. absurd (false≢true clash);
  begun = λ v i n r rule kind off behind some short. absurd (omega (arith, some, none-yet r.count i));
}

-- nothing was touched
pub torn-none : (g : Graph) (s : StackValue) (prefix : List ℕ) (before now : Option Files) → IsGraph g → now ≡ before → IsTornRun g s prefix before now
torn-none g s prefix before now sound same = record {
  files = interrupted-none before now (plain_files g s prefix) same;
  groups = ((λ v. []), groups-none g s prefix before now sound (λ i n. ap (λ (o : Option Files). file_at o (group_name prefix n.name i)) same));
}

-- or only the files of statistics nodes
pub torn-begin : (g : Graph) (s : StackValue) (prefix : List ℕ) (before t : Option Files) → IsGraph g → AreRowsTouched g prefix before t
    → IsTornRun g s prefix before t
torn-begin g s prefix before t sound h = record {
  files = interrupted-begin g s prefix before t sound h;
  groups = (
    (λ v. []),
    groups-none g s prefix before t sound (λ i n. h.others (group_name prefix n.name i) (λ v m r rule kind. stats-differ prefix n.name m.name i)),
  );
}

module _ (g : Graph) (s : StackValue) (prefix : List ℕ) (sound : IsGraph g) (kept : IsKeptStack s) (before : Option Files) (ps : List Pass)
    (xs : List NodeFile) (t : Option Files) {ts : List (List ℕ)} (h : IsSaved g s prefix before ps ts xs t) where
  abbrev W : ℕ → List Array
  W v = written g s ps v

  -- which node the files are of
  file : (k : ℕ) (x : NodeFile) → slice_get xs k ≡ Some x → FileOf g s prefix x
  file k x at = file-of g s prefix sound xs h.nodes k x at

  -- what a group has by what was written
  pub group-holds : (j : ℕ) (x : NodeFile) (at : slice_get xs j ≡ Some x) (i : ℕ) → GroupHas x (W x.node) i
  group-holds j x at i = group-has x (W x.node) (file j x at).some (h.groups j x at).written.begun i

  -- the number of records in the header of an open file
  pub count-here : (j : ℕ) (x : NodeFile) (at : slice_get xs j ≡ Some x) (i : ℕ) (numrecs : Option ℕ) → i ≡ length (W x.node) / x.count
      → numrecs ≡ first_count x.late (Some (group_size x.count (length (passed g s x.node)) (pass_at ps x.node).gone))
      → IsCountOf x.late (length (group_of x.count i (all_out g s x.node))) numrecs
  count-here j x at i numrecs here first =
      let f = file j x at in
      subst (λ (n : ℕ). IsCountOf x.late n numrecs) (sym (group-sized g s prefix kept ps h.passes x.count i x.node f.rule f.at here))
      (count-of x.late _ numrecs first)

  -- THE NAMES, WHERE EACH BUT ONE HAS WHAT WAS WRITTEN

  module _ (now : Option Files) (node group : ℕ) (coming : List Array)
      (has : (j i : ℕ) (x : NodeFile) → slice_get xs j ≡ Some x → (x.node ≢ node) ⊎ (i ≢ group)
      → HasBytes now (name_of x i) (group_file x (W x.node) i))
      (still : (j i : ℕ) (x : NodeFile) → slice_get xs j ≡ Some x → (x.node ≢ node) ⊎ (i ≢ group) → IsFilledGroup g s x i
      → group_file x (W x.node) i ≡ None → file_at now (name_of x i) ≡ file_at before (name_of x i))
      (place : (j : ℕ) (x : NodeFile) → slice_get xs j ≡ Some x → x.node ≡ node → group ≡ length (W x.node) / x.count)
      (torn : (j : ℕ) (x : NodeFile) → slice_get xs j ≡ Some x → x.node ≡ node
      → IsTornAt x.late x.shape (group_of x.count group (all_out g s x.node)) (group_of x.count group (W x.node)) coming before now (name_of x group)) where
    pub groups-have : AreTornGroups g s prefix (λ v. all_out g s v) W before now
    groups-have =
        torn-groups g s prefix xs (files-of-rule g s prefix sound xs h.nodes) (λ v. all_out g s v) W before now node group coming false
        (names-but xs (λ v. all_out g s v) W before now node group coming (λ j i x at off. group-holds j x at i) has still (λ j x at. (file j x at).some)
        (λ j i x o at off open_ here. open-row g s prefix sound kept before ps xs t h j i x at o open_ here)
        (λ j i x o at off open_ here. count-here j x at i o.numrecs here (has-numrecs _ x.current o (h.groups j x at).numrecs open_))
        (λ v. split g s prefix kept ps h.passes v) place torn)

  -- where no name of a group was touched
  module _ (now : Option Files) (told : is_some now ≡ is_some t)
      (same : (j i : ℕ) (x : NodeFile) → slice_get xs j ≡ Some x → file_at now (name_of x i) ≡ file_at t (name_of x i)) where
    groups-still : AreTornGroups g s prefix (λ v. all_out g s v) W before now
    groups-still =
        groups-have now 0 0 [] (λ j i x at off. has-same t now (name_of x i) (group_file x (W x.node) i) told (same j i x at) ((h.groups j x at).written.each i))
        (λ j i x at off filled none. same j i x at ∙ saved-fresh g s prefix sound kept before ps xs t h j i x at filled none)
        (λ j x at zero_. absurd (omega (arith, (file j x at).first, zero_)))
        (λ j x at zero_. absurd (omega (arith, (file j x at).first, zero_)))

  -- where the writing stops between two steps
  pub torn-saved : IsTornRun g s prefix before t
  torn-saved = record { files = interrupted-saved g s prefix sound kept before ps xs t h; groups = (W, groups-still t refl (λ j i x at. refl)) }

  -- the rows that are kept back at a statistics node, of which a front may have been added
  pub torn-row : (v : ℕ) (n : NodeRule) (r : StatsRule) → rule_at g.nodes v ≡ Some n → n.kind ≡ Stats r → (now : Option Files)
      → MayAppend t (stats_name prefix n.name) (text_at ts v) now → IsTornRun g s prefix before now
  torn-row v n r rule kind now may =
      let whole = interrupted-row g s prefix sound kept before ps xs t h v n r rule kind now may in
      record {
        files = whole;
        groups = (
          W,
          groups-still now (whole.told ∙ sym h.told) (λ j i x at.
              file_at-MayAppend t now (stats_name prefix n.name) (text_at ts v) (name_of x i) may (group-apart_stats g s prefix sound xs h.nodes j x at i n.name)),
        );
      }
