-- How far the nodes have come within a frame.
use Rattle.std.proofs.Common.{◌≡◌, ◌≢◌, inl, inr, ℕ, zero, suc, ◌+◌, ◌-◌, ◌<◌, ◌≤◌, Bool, true, false, List, Option, None, Some, length, map, drop, refl, sym}
use Rattle.std.proofs.Common.{ap, subst, ◌∙◌, arith, if◌then◌else◌}
use Rattle.std.specs.Prelude.{All, slice_get}
use Rattle.std.specs.Option.{option_map}
use Rattle.std.proofs.lemmas.Bool.{cases_lt}
use Rattle.std.proofs.lemmas.List.{drop-drop}
use Rattle.std.proofs.lemmas.List.Elements.{All-drop}
use Rattle.std.proofs.lemmas.Option.{same_Some, slice_get-map, slice_get_within}
use Rattle.nd_base.specs.Array.{StackValue}
use Rattle.nd_base.specs.GraphRules.{IsGraph, rule_at}
use Rattle.nd_base.specs.declared.graph.Graph.{Graph}
use Rattle.nd_base.specs.declared.graph.Kind.{Kind}
use Rattle.nd_base.specs.declared.graph.Kind.TheVariants.{Roi, Stats, Circular, File, Scatter}
use Rattle.nd_base.specs.declared.graph.NodeRule.{NodeRule}
use Rattle.nd_base.specs.declared.graph.StatsRule.{StatsRule}
use Rattle.edge_traits.specs.Files.{Files}
use Rattle.chain_plain.specs.PassedLaws.{AreRising, passed-rising}
use Rattle.graph_files.specs.NodeFiles.{NodeFile}
use Rattle.graph_files.specs.NodeFileLaws.{cases_eq}
use Rattle.graph_files.specs.OpenFiles.{closed}
use Rattle.plain_saver.specs.declared.passes.Pass.{Pass}
use Rattle.plain_saver.specs.Passes.{pass_at, ArePasses, AreFrom, with_one_gone, is_next, IsAsked, stepped, stepped_kind, stepped_rows}
use Rattle.plain_saver.specs.Saved.{IsSaved, AreLeftFrom}
use Rattle.plain_saver.proofs.Going.{left-next, left-skip}
use Rattle.plain_saver.proofs.Gone.{pass_at-other, pass_at-others, pass_at-gone, pass_at-same, next-is, next-not}
use Rattle.plain_saver.proofs.FileNodes.{FileOf, apart, file-of}

module _ (g : Graph) (s : StackValue) (ps : List Pass) (v : ℕ) (some : 1 ≤ v) (within : v ≤ length g.nodes) (passes : ArePasses g s ps) (k : ℕ) where
  rising : AreRising (pass_at ps v).positions
  rising = subst AreRising (sym (passes.positions v some within)) (passed-rising g s v)

  from-by : (b : Bool) → is_next ps v k ≡ b → AreFrom ps v k → AreFrom (if b then with_one_gone ps v else ps) v (k + 1)
  from-by true next from =
      subst (λ (p : Pass). All (λ i. k + 1 ≤ i) (drop p.gone p.positions))
      (sym (pass_at-same ps v some (subst (λ n. v ≤ n) (sym passes.count) within)))
      (subst (λ n. All (λ i. k + 1 ≤ i) (drop n (pass_at ps v).positions)) (let e : suc (pass_at ps v).gone ≡ (pass_at ps v).gone + 1 = omega arith in e)
      (left-next (pass_at ps v).positions (pass_at ps v).gone k rising (next-is (slice_get (pass_at ps v).positions (pass_at ps v).gone) k next)))
  from-by false next from =
      left-skip (pass_at ps v).positions (pass_at ps v).gone k rising from (next-not (slice_get (pass_at ps v).positions (pass_at ps v).gone) k next)

  -- a node that was asked has only later positions left
  pub from-stepped : AreFrom ps v k → AreFrom (stepped ps v k) v (k + 1)
  from-stepped from = from-by (is_next ps v k) refl from

  other-by : (b : Bool) (w j : ℕ) → w ≢ v → AreFrom ps w j → AreFrom (if b then with_one_gone ps v else ps) w j
  other-by true w j ne from = subst (λ (p : Pass). All (λ i. j ≤ i) (drop p.gone p.positions)) (sym (pass_at-other ps v w some ne)) from
  other-by false w j ne from = from

  -- and the others have what they had
  pub from-other : (w j : ℕ) → w ≢ v → AreFrom ps w j → AreFrom (stepped ps v k) w j
  from-other w j ne from = other-by (is_next ps v k) w j ne from

  asked-by : (qs : List Pass) → IsAsked ps v k qs → (b : Bool) → is_next ps v k ≡ b → AreFrom ps v k → AreFrom qs v (k + 1)
  asked-by qs asked true next from =
      let r = asked.next next in
      let p = pass_at ps v in
      let rest = left-next p.positions p.gone k rising (next-is (slice_get p.positions p.gone) k next) in
      let same : suc p.gone + (r.0 - 1) ≡ p.gone + r.0 = omega (arith, r.1) in
      subst (λ (ps_ : List Pass). AreFrom ps_ v (k + 1)) (sym r.2)
      (subst (λ (q : Pass). All (λ i. k + 1 ≤ i) (drop q.gone q.positions))
      (sym (pass_at-gone ps v r.0 some (subst (λ n. v ≤ n) (sym passes.count) within)))
      (subst (λ (ks : List ℕ). All (λ i. k + 1 ≤ i) ks) (drop-drop (r.0 - 1) (suc p.gone) p.positions ∙ ap (λ n. drop n p.positions) same)
      (All-drop (λ (i : ℕ). k + 1 ≤ i) (r.0 - 1) (drop (suc p.gone) p.positions) rest)))
  asked-by qs asked false next from = subst (λ (ps_ : List Pass). AreFrom ps_ v (k + 1)) (sym (asked.not next)) (from-by false next from)

  -- the same where several go at once
  pub from-asked : (qs : List Pass) → IsAsked ps v k qs → AreFrom ps v k → AreFrom qs v (k + 1)
  from-asked qs asked from = asked-by qs asked (is_next ps v k) refl from

  others-by : (qs : List Pass) → IsAsked ps v k qs → (b : Bool) → is_next ps v k ≡ b → (w j : ℕ) → w ≢ v → AreFrom ps w j → AreFrom qs w j
  others-by qs asked true next w j ne from =
      let r = asked.next next in
      subst (λ (ps_ : List Pass). AreFrom ps_ w j) (sym r.2)
      (subst (λ (p : Pass). All (λ i. j ≤ i) (drop p.gone p.positions)) (sym (pass_at-others ps v r.0 w some ne)) from)
  others-by qs asked false next w j ne from = subst (λ (ps_ : List Pass). AreFrom ps_ w j) (sym (asked.not next)) from

  pub from-others : (qs : List Pass) → IsAsked ps v k qs → (w j : ℕ) → w ≢ v → AreFrom ps w j → AreFrom qs w j
  from-others qs asked w j ne from = others-by qs asked (is_next ps v k) refl w j ne from

  -- nothing goes where this isn't the next position
  pub stepped-not : is_next ps v k ≡ false → stepped ps v k ≡ ps
  stepped-not not = ap (λ b. if b then with_one_gone ps v else ps) not

  pub stepped-next : is_next ps v k ≡ true → stepped ps v k ≡ with_one_gone ps v
  stepped-next is = ap (λ b. if b then with_one_gone ps v else ps) is

-- a statistics node is no file node
pub apart-kinds : (g : Graph) (s : StackValue) (prefix : List ℕ) (x : NodeFile) (v : ℕ) (n : NodeRule) (r : StatsRule) → FileOf g s prefix x
    → rule_at g.nodes v ≡ Some n → n.kind ≡ Stats r → v ≢ x.node
apart-kinds g s prefix x v n r f rule kind e =
    let both : Some n ≡ Some f.rule = sym rule ∙ ap (rule_at g.nodes) e ∙ f.at in
    let kinds : Stats r ≡ File f.file = sym kind ∙ ap (λ (m : NodeRule). m.kind) (same_Some n f.rule both) ∙ f.kind in
    absurd (cc)

-- the same file node, whatever is open
record Was (xs : List NodeFile) (j : ℕ) (y : NodeFile) : Type 0 where
  old : NodeFile
  is : slice_get xs j ≡ Some old
  node : y.node ≡ old.node

was : (xs ys : List NodeFile) → map closed ys ≡ map closed xs → (j : ℕ) (y : NodeFile) → slice_get ys j ≡ Some y → Was xs j y
was xs ys same j y h = found (slice_get xs j) refl
  where
    there : option_map closed (slice_get xs j) ≡ Some (closed y)
    there =
        sym (slice_get-map closed xs j) ∙ ap (λ (zs : List NodeFile). slice_get zs j) (sym same) ∙ slice_get-map closed ys j ∙ ap (option_map closed) h

    found : (o : Option NodeFile) → slice_get xs j ≡ o → Was xs j y
    found None is = absurd (let e : None ≡ Some (closed y) = sym (ap (option_map closed) is) ∙ there in cc)
    found (Some x) is =
        let e : closed x ≡ closed y = same_Some (closed x) (closed y) (sym (ap (option_map closed) is) ∙ there) in
        record { old = x; is = is; node = ap (λ (z : NodeFile). z.node) (sym e) }

-- within a frame: the first file nodes were asked for it, and the others and the statistics nodes weren't
pub record ArrayTurns (g : Graph) (ps : List Pass) (xs : List NodeFile) (at k : ℕ) : Type 0 where
  pub done : (j : ℕ) (x : NodeFile) → j < at → slice_get xs j ≡ Some x → AreFrom ps x.node (k + 1)
  pub left : (j : ℕ) (x : NodeFile) → at ≤ j → slice_get xs j ≡ Some x → AreFrom ps x.node k
  pub rows : (v : ℕ) (n : NodeRule) (r : StatsRule) → rule_at g.nodes v ≡ Some n → n.kind ≡ Stats r → AreFrom ps v k

pub arrays-begin : (g : Graph) (ps : List Pass) (xs : List NodeFile) (k : ℕ) → AreLeftFrom g ps xs k k → ArrayTurns g ps xs 0 k
arrays-begin g ps xs k h = record { done = λ j x low. absurd (omega (arith, low)); left = λ j x low is. h.groups j x is; rows = h.rows }

pub arrays-end : (g : Graph) (ps : List Pass) (xs : List NodeFile) (at k : ℕ) → length xs ≤ at → ArrayTurns g ps xs at k → AreLeftFrom g ps xs (k + 1) k
arrays-end g ps xs at k all h = record {
  groups = λ j x is. h.done j x (let inside = slice_get_within xs j x is in omega (arith, inside, all)) is;
  rows = h.rows;
}

module _ (g : Graph) (s : StackValue) (prefix : List ℕ) (before t : Option Files) (ps : List Pass) (xs : List NodeFile) (sound : IsGraph g)
    {ts : List (List ℕ)} (saved : IsSaved g s prefix before ps ts xs t) (k : ℕ) where
  -- one file node more was asked
  pub arrays-next : (qs : List Pass) (ys : List NodeFile) (at : ℕ) (x : NodeFile) → slice_get xs at ≡ Some x → IsAsked ps x.node k qs
      → map closed ys ≡ map closed xs → ArrayTurns g ps xs at k
      → ArrayTurns g qs ys (at + 1) k
  arrays-next qs ys at x is asked same h = record {
    done = λ j y low hy.
        let w = was xs ys same j y hy in
        subst (λ (i : ℕ). AreFrom qs i (k + 1)) (sym w.node) (elim (cases_lt j at) [
          | inl below ↦
              from-others g s ps x.node f.first f.within saved.passes k qs asked w.old.node (k + 1)
              (apart g s prefix sound xs saved.nodes j at w.old x w.is is (λ e. absurd (omega (arith, below, e)))).0 (h.done j w.old below w.is)
          | inr above ↦
              let here : j ≡ at = omega (arith, above, low) in
              let one : w.old ≡ x = same_Some w.old x (sym w.is ∙ ap (slice_get xs) here ∙ is) in
              subst (λ (z : NodeFile). AreFrom qs z.node (k + 1)) (sym one)
              (from-asked g s ps x.node f.first f.within saved.passes k qs asked (h.left at x (omega arith) is))
        ]);
    left = λ j y high hy.
        let w = was xs ys same j y hy in
        subst (λ (i : ℕ). AreFrom qs i k) (sym w.node)
        (from-others g s ps x.node f.first f.within saved.passes k qs asked w.old.node k
        (apart g s prefix sound xs saved.nodes j at w.old x w.is is (λ e. absurd (omega (arith, high, e)))).0
        (h.left j w.old (omega (arith, high)) w.is));
    rows = λ v n r rule kind.
        from-others g s ps x.node f.first f.within saved.passes k qs asked v k (apart-kinds g s prefix x v n r f rule kind) (h.rows v n r rule kind);
  }
    where
      f : FileOf g s prefix x
      f = file-of g s prefix sound xs saved.nodes at x is

-- within a frame, once the file nodes were asked: so were the first statistics nodes, and the others weren't
pub record RowTurns (g : Graph) (ps : List Pass) (xs : List NodeFile) (at k : ℕ) : Type 0 where
  pub groups : (j : ℕ) (x : NodeFile) → slice_get xs j ≡ Some x → AreFrom ps x.node (k + 1)
  pub done : (v : ℕ) (n : NodeRule) (r : StatsRule) → v ≤ at → rule_at g.nodes v ≡ Some n → n.kind ≡ Stats r → AreFrom ps v (k + 1)
  pub left : (v : ℕ) (n : NodeRule) (r : StatsRule) → at < v → rule_at g.nodes v ≡ Some n → n.kind ≡ Stats r → AreFrom ps v k

no-driver : (g : Graph) (v : ℕ) (n : NodeRule) → v ≤ 0 → rule_at g.nodes v ≡ Some n → ⊥
no-driver g zero n low is = cc
no-driver g (suc v) n low is = absurd (omega (arith, low))

pub rows-begin : (g : Graph) (ps : List Pass) (xs : List NodeFile) (k : ℕ) → AreLeftFrom g ps xs (k + 1) k → RowTurns g ps xs 0 k
rows-begin g ps xs k h = record {
  groups = h.groups;
  done = λ v n r low rule. absurd (no-driver g v n low rule);
  left = λ v n r high rule kind. h.rows v n r rule kind;
}

node-within : (g : Graph) (v : ℕ) (n : NodeRule) → rule_at g.nodes v ≡ Some n → v ≤ length g.nodes
node-within g zero n is = omega arith
node-within g (suc k) n is = let inside = slice_get_within g.nodes k n is in omega (arith, inside)

pub rows-end : (g : Graph) (ps : List Pass) (xs : List NodeFile) (at k : ℕ) → length g.nodes ≤ at → RowTurns g ps xs at k
    → AreLeftFrom g ps xs (k + 1) (k + 1)
rows-end g ps xs at k all h = record {
  groups = h.groups;
  rows = λ v n r rule kind. h.done v n r (let inside = node-within g v n rule in omega (arith, inside, all)) rule kind;
}

module _ (g : Graph) (s : StackValue) (prefix : List ℕ) (before t : Option Files) (ps : List Pass) (xs : List NodeFile) (sound : IsGraph g)
    {ts : List (List ℕ)} (saved : IsSaved g s prefix before ps ts xs t) (k at : ℕ) (n : NodeRule) (is : slice_get g.nodes at ≡ Some n)
    (h : RowTurns g ps xs at k) where
  node-inside : at + 1 ≤ length g.nodes
  node-inside = let low = slice_get_within g.nodes at n is in omega (arith, low)

  rule-here : rule_at g.nodes (at + 1) ≡ Some n
  rule-here = ap (rule_at g.nodes) (let e : at + 1 ≡ suc at = omega arith in e) ∙ is

  -- a statistics node was asked
  row-asked : (r : StatsRule) → n.kind ≡ Stats r → RowTurns g (stepped ps (at + 1) k) xs (at + 1) k
  row-asked r kind = record {
    groups = λ j x hx.
        let f = file-of g s prefix sound xs saved.nodes j x hx in
        from-other g s ps (at + 1) (omega arith) node-inside saved.passes k x.node (k + 1)
        (λ e. apart-kinds g s prefix x (at + 1) n r f rule-here kind (sym e)) (h.groups j x hx);
    done = λ v m q low rule kind_. elim (cases_eq v (at + 1)) [
      | inl here ↦
          subst (λ (i : ℕ). AreFrom (stepped ps (at + 1) k) i (k + 1)) (sym here)
          (from-stepped g s ps (at + 1) (omega arith) node-inside saved.passes k (h.left (at + 1) n r (omega arith) rule-here kind))
      | inr ne ↦
          from-other g s ps (at + 1) (omega arith) node-inside saved.passes k v (k + 1) ne (h.done v m q (omega (arith, low, ne)) rule kind_)
    ];
    left = λ v m q high rule kind_.
        from-other g s ps (at + 1) (omega arith) node-inside saved.passes k v k (λ e. absurd (omega (arith, high, e)))
        (h.left v m q (omega (arith, high)) rule kind_);
  }

  -- any other node has no rows
  row-skipped : ((r : StatsRule) → n.kind ≡ Stats r → ⊥) → RowTurns g ps xs (at + 1) k
  row-skipped other = record {
    groups = h.groups;
    done = λ v m q low rule kind_. elim (cases_eq v (at + 1)) [
      | inl here ↦
          let both : Some m ≡ Some n = sym rule ∙ ap (rule_at g.nodes) here ∙ rule-here in
          absurd (other q (ap (λ (z : NodeRule). z.kind) (sym (same_Some m n both)) ∙ kind_))
      | inr ne ↦ h.done v m q (omega (arith, low, ne)) rule kind_
    ];
    left = λ v m q high rule kind_. h.left v m q (omega (arith, high)) rule kind_;
  }

  row-by : (kind : Kind) → n.kind ≡ kind → RowTurns g (stepped_kind kind ps (at + 1) k) xs (at + 1) k
  row-by (Stats r) same = row-asked r same
  row-by (Roi r) same = row-skipped (λ q e. (let f : Roi r ≡ Stats q = sym same ∙ e in cc))
  row-by (Circular r) same = row-skipped (λ q e. (let f : Circular r ≡ Stats q = sym same ∙ e in cc))
  row-by (File r) same = row-skipped (λ q e. (let f : File r ≡ Stats q = sym same ∙ e in cc))
  row-by Scatter same = row-skipped (λ q e. (let f : Scatter ≡ Stats q = sym same ∙ e in cc))

  -- one node more was asked
  pub rows-next : RowTurns g (stepped_rows n ps (at + 1) k) xs (at + 1) k
  rows-next = row-by n.kind refl
