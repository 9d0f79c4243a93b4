-- What stands before a frame is written.
use Rattle.std.proofs.Common.{◌≡◌, ◌⊎◌, inl, inr, ℕ, zero, suc, ◌+◌, ◌*◌, ◌%◌, ◌<◌, ◌≤◌, List, [], ◌∷◌, ◌++◌, Option, None, Some, length, map, take, drop}
use Rattle.std.proofs.Common.{refl, sym, ap, subst, ◌∙◌, arith}
use Rattle.std.specs.Prelude.{All, is_some, slice_get}
use Rattle.std.proofs.lemmas.Bool.{cases_lt}
use Rattle.std.proofs.lemmas.Nat.{mod-mul-add}
use Rattle.std.proofs.lemmas.Option.{same_Some, slice_get_within}
use Rattle.nd_base.specs.Array.{Array, StackValue}
use Rattle.nd_base.specs.GraphRules.{rule_at}
use Rattle.nd_base.specs.declared.graph.Graph.{Graph}
use Rattle.nd_base.specs.declared.graph.Kind.{Kind}
use Rattle.nd_base.specs.declared.graph.Kind.TheVariants.{Roi, Stats, Circular, File, Scatter}
use Rattle.nd_base.specs.declared.graph.NodeRule.{NodeRule}
use Rattle.nd_base.specs.declared.graph.StatsRule.{StatsRule}
use Rattle.edge_traits.specs.Files.{Files, HasFile, MayCreate, file_at, with_file}
use Rattle.edge_traits.specs.FileLaws.{file_at-with_file, get-insert_cases}
use Rattle.chain_plain.specs.OneThread.{arrays_out}
use Rattle.chain_plain.specs.PlainRun.{passed}
use Rattle.graph_files.specs.Groups.{group_of, whole_file, file_of, HasBytes}
use Rattle.graph_files.specs.NodeFiles.{NodeFile, node_file, name_of, group_file, first_count, AreWritten, HasNumrecs, IsOpenAfter}
use Rattle.graph_files.specs.NodeFileLaws.{none-open}
use Rattle.graph_files.specs.OpenFiles.{closed, file_nodes, kind_node, nodes_from}
use Rattle.graph_files.specs.OpenFileLaws.{IsOfNode, of_node}
use Rattle.graph_files.specs.OutFiles.{stats_name}
use Rattle.plain_saver.specs.declared.passes.Pass.{Pass}
use Rattle.plain_saver.specs.Passes.{pass_at, ArePasses}
use Rattle.plain_saver.proofs.Kept.{text_at-none}
use Rattle.plain_saver.specs.Saved.{written, rows_of, group_size, IsGrouped, IsSaved}
use Rattle.plain_saver.specs.BegunRows.{IsKindBegun, IsRowsFileBegun, MayBeginRowsFile, AreBegunTo, AreRowsBegun, AreRowsTouched}

-- ROWS' FILES, ONE AFTER THE OTHER

pub rows-none : (g : Graph) (prefix : List ℕ) (t : Option Files) → AreBegunTo g prefix t t 0
rows-none g prefix t = record {
  told = refl;
  each = λ v n r low rule kind. absurd (no-driver v low rule);
  others = λ q none. refl;
}
  where
    no-driver : (v : ℕ) {n : NodeRule} → v ≤ 0 → rule_at g.nodes v ≡ Some n → ⊥
    no-driver zero low is = cc
    no-driver (suc v) low is = absurd (omega (arith, low))

stays : (t u : Option Files) (q bytes : List ℕ) → u ≡ t → HasFile t q bytes → HasFile u q bytes
stays t u q bytes same has = subst (λ (w : Option Files). HasFile w q bytes) (sym same) has

-- a name that was made has no bytes, and another that had none still has none
creates-on : (t : Option Files) (name q : List ℕ) → (q ≡ name) ⊎ HasFile t q [] → HasFile (with_file t name []) q []
creates-on None name q h = tt
creates-on (Some m) name q h =
    elim (get-insert_cases m name [] q) [
      | inl here ↦ here.1
      | inr off ↦ elim h [ inl same ↦ absurd (off.0 same) | inr has ↦ off.1 ∙ has ]
    ]

with_file-told : (t : Option Files) (name : List ℕ) → is_some (with_file t name []) ≡ is_some t
with_file-told None name = refl
with_file-told (Some m) name = refl

module _ (g : Graph) (prefix : List ℕ) (before t : Option Files) where
  -- nothing was done at the next node, which has no such file
  skips : (u : Option Files) (j : ℕ) (n : NodeRule) → slice_get g.nodes j ≡ Some n → ((r : StatsRule) → n.kind ≡ Stats r → ⊥) → u ≡ t
      → AreBegunTo g prefix before t j → AreBegunTo g prefix before u (j + 1)
  skips u j n at other same h = record {
    told = ap (λ (w : Option Files). is_some w) same ∙ h.told;
    each = λ v m r low rule kind. stays t u (stats_name prefix m.name) [] same (elim (cases_lt j v) [
      | inl above ↦ absurd (last v m r low above rule kind)
      | inr below ↦ h.each v m r (omega (arith, below)) rule kind
    ]);
    others = λ q none. ap (λ w. file_at w q) same ∙ h.others q none;
  }
    where
      last : (v : ℕ) (m : NodeRule) (r : StatsRule) → v ≤ j + 1 → j < v → rule_at g.nodes v ≡ Some m → m.kind ≡ Stats r → ⊥
      last zero m r low above rule kind = absurd (omega (arith, above))
      last (suc i) m r low above rule kind =
          let same_ : i ≡ j = omega (arith, low, above) in
          let both : Some m ≡ Some n = sym rule ∙ ap (slice_get g.nodes) same_ ∙ at in
          other r (ap (λ (z : NodeRule). z.kind) (sym (same_Some m n both)) ∙ kind)

  begins : (u : Option Files) (j : ℕ) (n : NodeRule) (s : StatsRule) → slice_get g.nodes j ≡ Some n → n.kind ≡ Stats s
      → u ≡ with_file t (stats_name prefix n.name) [] → AreBegunTo g prefix before t j → AreBegunTo g prefix before u (j + 1)
  begins u j n s at is made h = record {
    told = ap (λ (w : Option Files). is_some w) made ∙ with_file-told t (stats_name prefix n.name) ∙ h.told;
    each = λ v m r low rule kind. subst (λ (w : Option Files). HasFile w (stats_name prefix m.name) []) (sym made)
        (creates-on t (stats_name prefix n.name) (stats_name prefix m.name) (one v m r low rule kind));
    others = λ q none.
        ap (λ w. file_at w q) made ∙ file_at-with_file t (stats_name prefix n.name) [] q (none (suc j) n s at is) ∙ h.others q none;
  }
    where
      one : (v : ℕ) (m : NodeRule) (r : StatsRule) → v ≤ j + 1 → rule_at g.nodes v ≡ Some m → m.kind ≡ Stats r
          → (stats_name prefix m.name ≡ stats_name prefix n.name) ⊎ HasFile t (stats_name prefix m.name) []
      one zero m r low rule kind = inr (h.each zero m r (omega arith) rule kind)
      one (suc i) m r low rule kind = elim (cases_lt i j) [
        | inl below ↦ inr (h.each (suc i) m r (omega (arith, below)) rule kind)
        | inr above ↦
            let same : i ≡ j = omega (arith, above, low) in
            let both : Some m ≡ Some n = sym rule ∙ ap (slice_get g.nodes) same ∙ at in
            inl (ap (λ (z : NodeRule). stats_name prefix z.name) (same_Some m n both))
      ]

  by_kind : (u : Option Files) (j : ℕ) (n : NodeRule) (kind : Kind) → slice_get g.nodes j ≡ Some n → n.kind ≡ kind → IsKindBegun prefix n.name kind t u
      → AreBegunTo g prefix before t j → AreBegunTo g prefix before u (j + 1)
  by_kind u j n (Stats r) at is made h = begins u j n r at is made h
  by_kind u j n (Roi r) at is made h = skips u j n at (λ q e. (let f : Roi r ≡ Stats q = sym is ∙ e in cc)) made h
  by_kind u j n (Circular r) at is made h = skips u j n at (λ q e. (let f : Circular r ≡ Stats q = sym is ∙ e in cc)) made h
  by_kind u j n (File r) at is made h = skips u j n at (λ q e. (let f : File r ≡ Stats q = sym is ∙ e in cc)) made h
  by_kind u j n Scatter at is made h = skips u j n at (λ q e. (let f : Scatter ≡ Stats q = sym is ∙ e in cc)) made h

  -- the next node's file was begun, if it has one
  pub begun-more : (u : Option Files) (j : ℕ) (n : NodeRule) → slice_get g.nodes j ≡ Some n → IsRowsFileBegun prefix n t u
      → AreBegunTo g prefix before t j → AreBegunTo g prefix before u (j + 1)
  begun-more u j n at made h = by_kind u j n n.kind at refl made h

-- WHATEVER WAS BEGUN

pub touched-none : (g : Graph) (prefix : List ℕ) (t : Option Files) → AreRowsTouched g prefix t t
touched-none g prefix t = record { told = refl; each = λ q. inl refl; others = λ q none. refl }

made-or-not : (before t : Option Files) (name q : List ℕ) → is_some t ≡ is_some before → (file_at t q ≡ file_at before q) ⊎ (file_at t q ≡ Some [])
    → (file_at (with_file t name []) q ≡ file_at before q) ⊎ (file_at (with_file t name []) q ≡ Some [])
made-or-not before None name q told was = was
made-or-not before (Some m) name q told was =
    elim (get-insert_cases m name [] q) [
      | inl here ↦ inr here.1
      | inr off ↦ elim was [ inl same ↦ inl (off.1 ∙ same) | inr none ↦ inr (off.1 ∙ none) ]
    ]

module _ (g : Graph) (prefix : List ℕ) (before t : Option Files) (h : AreRowsTouched g prefix before t) where
  touched-same : (u : Option Files) → u ≡ t → AreRowsTouched g prefix before u
  touched-same u same = subst (AreRowsTouched g prefix before) (sym same) h

  touched-file : (u : Option Files) (j : ℕ) (n : NodeRule) (r : StatsRule) → slice_get g.nodes j ≡ Some n → n.kind ≡ Stats r
      → u ≡ with_file t (stats_name prefix n.name) [] → AreRowsTouched g prefix before u
  touched-file u j n r at is made = subst (AreRowsTouched g prefix before) (sym made) (record {
    told = with_file-told t (stats_name prefix n.name) ∙ h.told;
    each = λ q. made-or-not before t (stats_name prefix n.name) q h.told (h.each q);
    others = λ q none. file_at-with_file t (stats_name prefix n.name) [] q (none (suc j) n r at is) ∙ h.others q none;
  })

  touched-kind : (u : Option Files) (j : ℕ) (n : NodeRule) (kind : Kind) → slice_get g.nodes j ≡ Some n → n.kind ≡ kind → IsKindBegun prefix n.name kind t u
      → AreRowsTouched g prefix before u
  touched-kind u j n (Stats r) at is made = touched-file u j n r at is made
  touched-kind u j n (Roi r) at is made = touched-same u made
  touched-kind u j n (Circular r) at is made = touched-same u made
  touched-kind u j n (File r) at is made = touched-same u made
  touched-kind u j n Scatter at is made = touched-same u made

  -- the next node's file may have been begun
  pub touched-more : (u : Option Files) (j : ℕ) (n : NodeRule) → slice_get g.nodes j ≡ Some n → MayBeginRowsFile prefix n t u → AreRowsTouched g prefix before u
  touched-more u j n at (inl same) = touched-same u same
  touched-more u j n at (inr made) = touched-kind u j n n.kind at refl made

-- what a create that failed may leave
pub may-create : (prefix : List ℕ) (n : NodeRule) (r : StatsRule) (t u : Option Files) → n.kind ≡ Stats r → MayCreate t (stats_name prefix n.name) u
    → MayBeginRowsFile prefix n t u
may-create prefix n r t u is (inl same) = inl same
may-create prefix n r t u is (inr made) = inr (subst (λ (k : Kind). IsKindBegun prefix n.name k t u) (sym is) made)

-- NO ARRAY HAS GONE OUT

module _ (g : Graph) (s : StackValue) (prefix : List ℕ) (before t : Option Files) (ps : List Pass) (passes : ArePasses g s ps)
    (none : (v : ℕ) → (pass_at ps v).gone ≡ 0) (ts : List (List ℕ)) (size : length ts ≡ length g.nodes) (empty : All (λ text. text ≡ []) ts)
    (begun : AreRowsBegun g prefix before t) where
  written-none : (v : ℕ) → written g s ps v ≡ []
  written-none v = ap (λ (n : ℕ). arrays_out g.nodes s.arrays v (take n (passed g s v))) (none v)

  none_taken : {X : Type 0} (n : ℕ) → take {A = X} n [] ≡ []
  none_taken zero = refl
  none_taken (suc n) = refl

  none_dropped : {X : Type 0} (n : ℕ) → drop {A = X} n [] ≡ []
  none_dropped zero = refl
  none_dropped (suc n) = refl

  no-group : (x : NodeFile) (i : ℕ) → x.current ≡ None → group_file x [] i ≡ None
  no-group x i closed_ =
      ap (λ o. file_of o x.shape (group_of x.count i [])) (none-open x 0 i closed_)
      ∙ ap (whole_file x.shape) (ap (take x.count) (none_dropped {X = Array} (i * x.count)) ∙ none_taken {X = Array} x.count)

  none-left : (n : ℕ) → 0 % n ≡ 0
  none-left zero = refl
  none-left (suc n) = let e : 0 ≡ 0 * suc n + 0 = omega arith in ap (λ k. k % suc n) e ∙ mod-mul-add 0 (suc n) 0 (omega arith)

  grouped-none : (k : ℕ) (x : NodeFile) → slice_get (file_nodes g s prefix) k ≡ Some x → IsGrouped g s ps x t
  grouped-none k x is =
      let f : IsOfNode g s prefix 1 g.nodes x = of_node g s prefix 1 g.nodes k x is in
      let closed_ : x.current ≡ None = ap (λ (y : NodeFile). y.current) f.whole in
      record {
        written = subst (λ (xs : List Array). AreWritten x xs t) (sym (written-none x.node)) (record {
          begun = subst (λ o. IsOpenAfter x 0 o) (sym closed_) (none-left x.count);
          each = λ i. subst (HasBytes t (name_of x i)) (sym (no-group x i closed_)) tt;
        });
        numrecs =
            subst (HasNumrecs (first_count x.late (Some (group_size x.count (length (passed g s x.node)) (pass_at ps x.node).gone)))) (sym closed_) tt;
        between = λ zero_. closed_;
      }

  closed-kind : (v : ℕ) (n : NodeRule) (rest : List NodeFile) → map closed rest ≡ rest → (kind : Kind)
      → map closed (kind_node g s prefix v n.name kind ++ rest) ≡ kind_node g s prefix v n.name kind ++ rest
  closed-kind v n rest same (File r) = ap (λ zs. node_file g s prefix v r n.name ∷ zs) same
  closed-kind v n rest same (Roi r) = same
  closed-kind v n rest same (Stats r) = same
  closed-kind v n rest same (Circular r) = same
  closed-kind v n rest same Scatter = same

  closed-all : (v : ℕ) (ns : List NodeRule) → map closed (nodes_from g s prefix v ns) ≡ nodes_from g s prefix v ns
  closed-all v [] = refl
  closed-all v (n ∷ ns) = closed-kind v n (nodes_from g s prefix (v + 1) ns) (closed-all (v + 1) ns) n.kind

  place-of : (v : ℕ) (n : NodeRule) → rule_at g.nodes v ≡ Some n → v ≤ length g.nodes
  place-of zero n is = omega arith
  place-of (suc k) n is = let inside = slice_get_within g.nodes k n is in omega (arith, inside)

  -- the files of a run of which nothing was written
  pub saved-none : IsSaved g s prefix before ps ts (file_nodes g s prefix) t
  saved-none = record {
    told = begun.told;
    passes = passes;
    kept = size;
    nodes = closed-all 1 g.nodes;
    groups = grouped-none;
    rows = λ v n r rule kind. ([], ap (rows_of r) (written-none v) ∙ sym (text_at-none ts empty v), begun.each v n r (place-of v n rule) rule kind);
    others = λ q away off. begun.others q off;
  }
