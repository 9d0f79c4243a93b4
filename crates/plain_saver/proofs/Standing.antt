-- What stands under the names of a plain run's files, and what is left of the run by that.
use Rattle.std.proofs.Common.{◌≡◌, ◌≢◌, ℕ, ◌≤◌, Bool, true, List, length, map, refl, sym, ap, subst, ◌∙◌, Option, Some, None}
use Rattle.std.specs.Prelude.{slice_get, is_some}
use Rattle.std.proofs.lemmas.Bool.{false≢true}
use Rattle.std.proofs.lemmas.Option.{same_Some}
use Rattle.nd_base.specs.Array.{Array, StackValue}
use Rattle.nd_base.specs.GraphRules.{IsGraph, rule_at}
use Rattle.nd_base.specs.declared.attribute.FileShape.{FileShape}
use Rattle.nd_base.specs.declared.graph.FileRule.{FileRule}
use Rattle.nd_base.specs.declared.graph.Graph.{Graph}
use Rattle.nd_base.specs.declared.graph.Kind.TheVariants.{Stats, File}
use Rattle.nd_base.specs.declared.graph.NodeRule.{NodeRule}
use Rattle.nd_base.specs.declared.graph.StatsRule.{StatsRule}
use Rattle.edge_traits.specs.Files.{Files, HasFile, file_at, Stands}
use Rattle.cdf_write.specs.Layout.{layout}
use Rattle.graph_files.specs.Groups.{group_of}
use Rattle.graph_files.specs.Interrupted.{IsBegunAs, AsBefore, Unended, Ended, IsStanding, Kept, Front, Whole, AreInterrupted}
use Rattle.graph_files.specs.NodeFiles.{NodeFile, name_of}
use Rattle.graph_files.specs.OpenFiles.{closed, file_nodes}
use Rattle.graph_files.specs.OutFiles.{OutFile, file_shape, group_name, is_stream, plain_files}
use Rattle.plain_saver.specs.Saved.{IsNoRows}
use Rattle.plain_saver.proofs.FileNodes.{FileOf, file-of, file-same, node-files}
use Rattle.graph_files.proofs.PlainNames.{IsIn, all-in, in-all, all_out, group_out, rows_file, IsPlainFile, Group, Rows, plain-in, plain-out}

-- ONE NAME

-- a name that has a file stands
pub HasFile-Stands : (t : Option Files) (name bytes : List ℕ) → HasFile t name bytes → Stands t name
HasFile-Stands None name bytes has = tt
HasFile-Stands (Some files) name bytes has = (bytes, has)

-- a file that stands was begun
pub begun-of : (late : Bool) (final : List ℕ) (before now : Option (List ℕ)) → IsStanding late final before now → IsBegunAs late final before now
begun-of late final before now (Kept same) = AsBefore same
begun-of late final before now (Front front rest is made) = Unended front rest is made
begun-of late final before now (Whole made) = Ended made

-- where the shelf tells nothing, no name has anything
pub standing-by : (late : Bool) (final name : List ℕ) (before now : Option Files) → is_some now ≡ is_some before
    → (is_some now ≡ true → IsStanding late final (file_at before name) (file_at now name)) → IsStanding late final (file_at before name) (file_at now name)
standing-by late final name before (Some m) told h = h refl
standing-by late final name None None told h = Kept refl
standing-by late final name (Some m) None told h = absurd (false≢true told)

-- what stood before a write under another name
pub standing-then : (late : Bool) (final : List ℕ) (before was now : Option (List ℕ)) → now ≡ was → IsStanding late final before was
    → IsStanding late final before now
standing-then late final before was now same h = subst (IsStanding late final before) (sym same) h

-- each name but the torn one has what stands, and that one was begun
abbrev pub StandsIn : (torn : List ℕ) → (before now : Option Files) → OutFile → Type 0
StandsIn torn before now f =
    (f.name ≢ torn → IsStanding f.late f.bytes (file_at before f.name) (file_at now f.name))
    × IsBegunAs f.late f.bytes (file_at before f.name) (file_at now f.name)

-- a name that has what stands
pub stands-in : (torn : List ℕ) (before now : Option Files) (f : OutFile) → IsStanding f.late f.bytes (file_at before f.name) (file_at now f.name)
    → StandsIn torn before now f
stands-in torn before now f h = ((λ apart. h), begun-of f.late f.bytes (file_at before f.name) (file_at now f.name) h)

-- THE FILES OF THE NODES

-- the file of a group of these arrays
abbrev pub piece : (i : ℕ) → List Array → (name : List ℕ) → FileShape → (count : ℕ) → (late : Bool) → OutFile
piece i xs name shape count late = record { name = name; bytes = layout shape (group_of count i xs); late = late }

-- the same group has the same file
same_piece : (i : ℕ) (xs : List Array) (name q : List ℕ) (shape sh : FileShape) (count c : ℕ) (late l : Bool) → name ≡ q → shape ≡ sh → count ≡ c → late ≡ l
    → piece i xs name shape count late ≡ piece i xs q sh c l
same_piece i xs name q shape sh count c late l names shapes counts lates =
    ap (λ (w : List ℕ). piece i xs w shape count late) names ∙ ap (λ (w : FileShape). piece i xs q w count late) shapes
    ∙ ap (λ (w : ℕ). piece i xs q sh w late) counts ∙ ap (piece i xs q sh c) lates

-- the group has an array in the end
abbrev pub IsFilledGroup : Graph → StackValue → NodeFile → ℕ → Type 0
IsFilledGroup g s x i = 1 ≤ length (group_of x.count i (all_out g s x.node))

-- its file
abbrev pub group_record : Graph → StackValue → NodeFile → ℕ → OutFile
group_record g s x i = piece i (all_out g s x.node) (name_of x i) x.shape x.count x.late

-- the name is that of no group
abbrev pub IsNoName : Graph → StackValue → List NodeFile → List ℕ → Type 0
IsNoName g s xs q = (k i : ℕ) (x : NodeFile) → slice_get xs k ≡ Some x → IsFilledGroup g s x i → q ≢ name_of x i

module _ (g : Graph) (s : StackValue) (prefix : List ℕ) (sound : IsGraph g) (xs : List NodeFile) (nodes : map closed xs ≡ file_nodes g s prefix) where
  -- the file by the rule of the node is that by its files
  record-is : (x : NodeFile) (i : ℕ) (f : FileOf g s prefix x) → group_out g s prefix x.node i f.rule f.file ≡ group_record g s x i
  record-is x i f =
      same_piece i (all_out g s x.node) (group_name prefix f.rule.name i) (name_of x i) (file_shape g s x.node) x.shape f.file.count x.count
      (is_stream f.file.mode) x.late (sym (f.named i)) (sym f.shape) (sym f.count) (sym f.late)

  -- the plain run has the file of each group that has an array
  pub group-listed : (k i : ℕ) (x : NodeFile) → slice_get xs k ≡ Some x → IsFilledGroup g s x i → IsIn (plain_files g s prefix) (group_record g s x i)
  group-listed k i x at filled =
      let f = file-of g s prefix sound xs nodes k x at in
      plain-in g s prefix sound (group_record g s x i) (Group x.node i f.rule f.file f.at f.kind
      (subst (λ (c : ℕ). 1 ≤ length (group_of c i (all_out g s x.node))) f.count filled) (record-is x i f))

  -- and that of each statistics node
  pub rows-listed : (v : ℕ) (n : NodeRule) (r : StatsRule) → rule_at g.nodes v ≡ Some n → n.kind ≡ Stats r
      → IsIn (plain_files g s prefix) (rows_file g s prefix v n r)
  rows-listed v n r at kind = plain-in g s prefix sound (rows_file g s prefix v n r) (Rows v n r at kind refl)

  -- what holds of the file of each group and of each statistics node holds of each file
  module _ (P : OutFile → Type 0) (groups : (k i : ℕ) (x : NodeFile) → slice_get xs k ≡ Some x → IsFilledGroup g s x i → P (group_record g s x i))
      (rows : (v : ℕ) (n : NodeRule) (r : StatsRule) → rule_at g.nodes v ≡ Some n → n.kind ≡ Stats r → P (rows_file g s prefix v n r)) where
    -- a file by the rule of its node
    of-group : (v i : ℕ) (n : NodeRule) (r : FileRule) → rule_at g.nodes v ≡ Some n → n.kind ≡ File r → 1 ≤ length (group_of r.count i (all_out g s v))
        → P (group_out g s prefix v i n r)
    of-group v i n r rule kind filled =
        let at = node-files g s prefix sound xs nodes v n r rule kind in
        let x = at.files in
        let f = file-of g s prefix sound xs nodes at.at x at.listed in
        let same : f.rule ≡ n = same_Some f.rule n (sym f.at ∙ ap (rule_at g.nodes) at.node ∙ rule) in
        let file_ : f.file ≡ r = file-same f.file r (sym f.kind ∙ ap (λ (m : NodeRule). m.kind) same ∙ kind) in
        let here : group_record g s x i ≡ group_out g s prefix v i n r =
        sym (record-is x i f) ∙ ap (λ (w : ℕ). group_out g s prefix w i f.rule f.file) at.node ∙ ap (λ (m : NodeRule). group_out g s prefix v i m f.file) same
        ∙ ap (group_out g s prefix v i n) file_ in
        let count : r.count ≡ x.count = sym (f.count ∙ ap (λ (q : FileRule). q.count) file_) in
        let filled_ : IsFilledGroup g s x i =
        subst (λ (c : ℕ). 1 ≤ length (group_of c i (all_out g s x.node))) count
        (subst (λ (w : ℕ). 1 ≤ length (group_of r.count i (all_out g s w))) (sym at.node) filled) in
        subst P here (groups at.at i x at.listed filled_)

    -- a file by its description
    of-file : (f : OutFile) → IsPlainFile g s prefix f → P f
    of-file f (Group v i n r rule kind filled is) = subst P is (of-group v i n r rule kind filled)
    of-file f (Rows v n r rule kind is) = subst P is (rows v n r rule kind)

    -- and so each file of the run
    pub each-file : (f : OutFile) → IsIn (plain_files g s prefix) f → P f
    each-file f is = of-file f (plain-out g s prefix sound f is)

  -- a name that is none of the files' is that of no group and of no statistics node
  pub no-name : (q : List ℕ) → ((f : OutFile) → IsIn (plain_files g s prefix) f → q ≢ f.name) → IsNoName g s xs q
  no-name q away k i x at filled = away (group_record g s x i) (group-listed k i x at filled)

  -- and of no statistics node
  pub no-rows : (q : List ℕ) → ((f : OutFile) → IsIn (plain_files g s prefix) f → q ≢ f.name) → IsNoRows g prefix q
  no-rows q away v n r rule kind = away (rows_file g s prefix v n r) (rows-listed v n r rule kind)

  -- what is left where files were written together, by the names of the groups and of the statistics nodes
  pub interrupted-by : (before now : Option Files) → is_some now ≡ is_some before → (torn : List ℕ)
      → ((k i : ℕ) (x : NodeFile) → slice_get xs k ≡ Some x → IsFilledGroup g s x i → StandsIn torn before now (group_record g s x i))
      → ((v : ℕ) (n : NodeRule) (r : StatsRule) → rule_at g.nodes v ≡ Some n → n.kind ≡ Stats r → StandsIn torn before now (rows_file g s prefix v n r))
      → ((q : List ℕ) → IsNoName g s xs q → IsNoRows g prefix q → file_at now q ≡ file_at before q)
      → AreInterrupted before (plain_files g s prefix) now
  interrupted-by before now told torn groups rows others =
      let stands = each-file (StandsIn torn before now) groups rows in
      record {
        told = told;
        torn = torn;
        each = all-in (λ f. f.name ≢ torn → IsStanding f.late f.bytes (file_at before f.name) (file_at now f.name)) (plain_files g s prefix)
            (λ f is. (stands f is).0);
        one = all-in (λ f. IsBegunAs f.late f.bytes (file_at before f.name) (file_at now f.name)) (plain_files g s prefix) (λ f is. (stands f is).1);
        others = λ q away.
            let apart = in-all (λ f. q ≢ f.name) (plain_files g s prefix) away in
            others q (no-name q apart) (no-rows q apart);
      }
