-- What one array more at a file node does to what stands.
use Rattle.std.proofs.Common.{◌≡◌, ◌≢◌, ◌⊎◌, inl, inr, ℕ, ◌+◌, ◌-◌, ◌*◌, ◌/◌, ◌%◌, ◌^◌, ◌<◌, ◌≤◌, true, List, [], ◌∷◌, ◌++◌, Option, None, Some, length}
use Rattle.std.proofs.Common.{map, set, refl, sym, ap, subst, ◌∙◌, arith, if◌then◌else◌}
use Rattle.std.specs.Prelude.{min, is_some, slice_get}
use Rattle.std.proofs.Math.Nat.{add-mul, div-le_self, mod-lt}
use Rattle.std.proofs.lemmas.Bool.{false≢true, cases_lt, eq-eqb, ne_eqb}
use Rattle.std.proofs.lemmas.Nat.{div-add-mod', div-mul-add, mod-mul-add}
use Rattle.std.proofs.lemmas.List.{length-append}
use Rattle.std.proofs.lemmas.Option.{same_Some}
use Rattle.nd_base.specs.Array.{Array, StackValue}
use Rattle.nd_base.specs.GraphRules.{IsGraph, rule_at}
use Rattle.nd_base.specs.declared.graph.Graph.{Graph}
use Rattle.nd_base.specs.declared.graph.Kind.TheVariants.{Stats, File}
use Rattle.nd_base.specs.declared.graph.NodeRule.{NodeRule}
use Rattle.nd_base.specs.declared.graph.StatsRule.{StatsRule}
use Rattle.edge_traits.specs.Files.{Files, HasFile, file_at}
use Rattle.file_out.specs.Streams.{Stream}
use Rattle.chain_plain.specs.Content.{content}
use Rattle.chain_plain.specs.ContentLaws.{frame}
use Rattle.chain_plain.specs.PlainRun.{passed}
use Rattle.chain_plain.specs.PassedLaws.{passed-few}
use Rattle.graph_files.specs.NodeFiles.{NodeFile, first_count, Same, IsPlaceAfter, AreWritten, HasNumrecs}
use Rattle.graph_files.specs.NodeFileLaws.{cases_eq}
use Rattle.graph_files.specs.OpenFiles.{closed, file_nodes, IsElsewhere, AllWritten, with_array}
use Rattle.graph_files.specs.OpenFileLaws.{get-set_same, get-set_other, elsewhere-more}
use Rattle.graph_files.specs.OutFiles.{stats_name}
use Rattle.plain_saver.specs.declared.passes.Pass.{Pass}
use Rattle.plain_saver.specs.Passes.{pass_at, with_one_gone, is_next}
use Rattle.plain_saver.specs.Texts.{HasFront, text_at}
use Rattle.plain_saver.specs.Saved.{written, rows_of, group_size, IsGrouped, IsSaved}
use Rattle.plain_saver.proofs.FileNodes.{FileOf, apart, closed-set, file-of, group-apart_stats}
use Rattle.plain_saver.proofs.Gone.{pass_at-other, pass_at-same, gone-below, passes-more, written-more, written-other, length-gone}

HasFile-same : (t u : Option Files) (q bytes : List ℕ) → file_at u q ≡ file_at t q → is_some u ≡ is_some t → HasFile t q bytes → HasFile u q bytes
HasFile-same None None q bytes same told has = tt
HasFile-same None (Some m) q bytes same told has = absurd (false≢true (sym told))
HasFile-same (Some m) None q bytes same told has = tt
HasFile-same (Some m) (Some n) q bytes same told has = same ∙ has

-- the next one is in the same group or begins another
pub group-goes : (count gone : ℕ) → 1 ≤ count
    → ((gone % count + 1 ≡ count) × ((gone + 1) % count ≡ 0))
    ⊎ ((gone % count + 1 < count) × ((gone + 1) / count ≡ gone / count) × ((gone + 1) % count ≡ gone % count + 1))
group-goes count gone some =
    let split = div-add-mod' gone count in
    let low = mod-lt gone some in
    elim (cases_lt (gone % count + 1) count) [
      | inl more ↦
          let e : gone + 1 ≡ gone / count * count + (gone % count + 1) = omega (arith, split) in
          inr (
            more,
            ap (λ n. n / count) e ∙ div-mul-add (gone / count) count (gone % count + 1) more,
            ap (λ n. n % count) e
                ∙ mod-mul-add (gone / count) count (gone % count + 1) more,
          )
      | inr last ↦
          let full : gone % count + 1 ≡ count = omega (arith, last, low) in
          let next : (gone / count + 1) * count ≡ gone / count * count + 1 * count = add-mul (gone / count) 1 count in
          let e : gone + 1 ≡ (gone / count + 1) * count + 0 = omega (arith, split, full, next) in
          inl (full, ap (λ n. n % count) e ∙ mod-mul-add (gone / count + 1) count 0 (omega (arith, some)))
    ]

module _ (g : Graph) (s : StackValue) (prefix : List ℕ) (before t u : Option Files) (ps : List Pass) (xs ys : List NodeFile) (sound : IsGraph g)
    (few : length s.arrays ≤ 65536) {ts : List (List ℕ)} (saved : IsSaved g s prefix before ps ts xs t) (at : ℕ) (x : NodeFile)
    (is : slice_get xs at ≡ Some x) (k : ℕ)
    (next : is_next ps x.node k ≡ true) (a : Array) (made : content g.nodes s.arrays (frame x.node k) ≡ Some a) where
  abbrev node : FileOf g s prefix x
  node = file-of g s prefix sound xs saved.nodes at x is

  abbrev gone : ℕ
  gone = (pass_at ps x.node).gone

  abbrev size : ℕ
  size = group_size x.count (length (passed g s x.node)) gone

  abbrev now : List Pass
  now = with_one_gone ps x.node

  -- what stands is all that was written
  pub all-written : AllWritten t xs (written g s ps) t
  all-written = record {
    told = refl;
    each = λ j y h. (saved.groups j y h).written;
    few = λ j y h.
        let f = file-of g s prefix sound xs saved.nodes j y h in
        let n = length-gone g s ps y.node f.first f.within saved.passes in
        let p = saved.passes.gone y.node f.first f.within in
        omega (arith, n, p, passed-few g s y.node, few);
    others = λ q away. refl;
  }

  length-now : length (written g s ps x.node) ≡ gone
  length-now = length-gone g s ps x.node node.first node.within saved.passes

  count-some : 1 ≤ x.count
  count-some = node.some

  pub place : IsPlaceAfter x.count (written g s ps x.node) (gone / x.count) (gone % x.count)
  place = record { within = mod-lt gone count-some; all = length-now ∙ sym (div-add-mod' gone x.count) }

  with-is : with_array (written g s ps) x.node a ≡ written g s now
  with-is = λ i v. same v i
    where
      same : (v : ℕ) → with_array (written g s ps) x.node a v ≡ written g s now v
      same v = elim (cases_eq v x.node) [
        | inl here ↦
            ap (λ b. if b then written g s ps v ++ a ∷ [] else written g s ps v) (eq-eqb v x.node here)
            ∙ ap (λ w. written g s ps w ++ a ∷ []) here
            ∙ sym (ap (written g s now) here ∙ written-more g s ps x.node node.first node.within saved.passes k next a made)
        | inr ne ↦
            ap (λ b. if b then written g s ps v ++ a ∷ [] else written g s ps v) (ne_eqb v x.node ne)
            ∙ sym (written-other g s ps x.node node.first node.within saved.passes v ne)
      ]

  module _ (o : Option Stream) (made_ys : ys ≡ set xs at (record x { current = o })) (numrecs : HasNumrecs (first_count x.late (Some size)) o)
      (all : AllWritten t ys (with_array (written g s ps) x.node a) u) (ended : gone % x.count + 1 ≡ x.count → o ≡ None) where
    there : slice_get ys at ≡ Some (record x { current = o })
    there = ap (λ (zs : List NodeFile). slice_get zs at) made_ys ∙ get-set_same xs at x (record x { current = o }) is

    elsewhere-at : (j : ℕ) → j ≢ at → slice_get ys j ≡ slice_get xs j
    elsewhere-at j ne = ap (λ (zs : List NodeFile). slice_get zs j) made_ys ∙ get-set_other xs at j (record x { current = o }) ne

    here-now : (pass_at now x.node).gone ≡ gone + 1
    here-now = ap (λ (p : Pass). p.gone) (pass_at-same ps x.node node.first (subst (λ n. x.node ≤ n) (sym saved.passes.count) node.within))

    numrecs-now : HasNumrecs (first_count x.late (Some (group_size x.count (length (passed g s x.node)) (pass_at now x.node).gone))) o
    numrecs-now =
        elim (group-goes x.count gone count-some) [
          | inl last ↦ subst (HasNumrecs (first_count x.late (Some (group_size x.count (length (passed g s x.node)) (pass_at now x.node).gone))))
              (sym (ended last.0)) tt
          | inr more ↦
              let same : size ≡ group_size x.count (length (passed g s x.node)) (pass_at now x.node).gone =
              ap (λ i. min x.count (length (passed g s x.node) - i * x.count)) (sym (ap (λ n. n / x.count) here-now ∙ more.1)) in
              subst (λ n. HasNumrecs (first_count x.late (Some n)) o) same numrecs
        ]

    between-now : (pass_at now x.node).gone % x.count ≡ 0 → o ≡ None
    between-now zero_ =
        elim (group-goes x.count gone count-some) [
          | inl last ↦ ended last.0
          | inr more ↦
              let e : gone % x.count + 1 ≡ 0 = sym more.2 ∙ ap (λ n. n % x.count) (sym here-now) ∙ zero_ in
              absurd (omega (arith, e))
        ]

    written-now : (y : NodeFile) (j : ℕ) → slice_get ys j ≡ Some y → AreWritten y (written g s now y.node) u
    written-now y j h = subst (λ (w : ℕ → List Array). AreWritten y (w y.node) u) with-is (all.each j y h)

    grouped : (j : ℕ) (y : NodeFile) → slice_get ys j ≡ Some y → IsGrouped g s now y u
    grouped j y h =
        elim (cases_eq j at) [
          | inl here ↦
              let same : record x { current = o } ≡ y = same_Some (record x { current = o }) y (sym there ∙ ap (slice_get ys) (sym here) ∙ h) in
              subst (λ (z : NodeFile). IsGrouped g s now z u) same (record {
                written = subst (λ (z : NodeFile). AreWritten z (written g s now z.node) u) (sym same) (written-now y j h);
                numrecs = numrecs-now;
                between = between-now;
              })
          | inr ne ↦
              let was : slice_get xs j ≡ Some y = sym (elsewhere-at j ne) ∙ h in
              let apart : y.node ≢ x.node = (apart g s prefix sound xs saved.nodes j at y x was is ne).0 in
              let still : pass_at now y.node ≡ pass_at ps y.node = pass_at-other ps x.node y.node node.first apart in
              let old = saved.groups j y was in
              record {
                written = written-now y j h;
                numrecs =
                    subst (λ (p : Pass). HasNumrecs (first_count y.late (Some (group_size y.count (length (passed g s y.node)) p.gone))) y.current)
                    (sym still) old.numrecs;
                between = subst (λ (p : Pass). p.gone % y.count ≡ 0 → y.current ≡ None) (sym still) old.between;
              }
        ]

    nodes-now : map closed ys ≡ file_nodes g s prefix
    nodes-now = ap (map closed) made_ys ∙ closed-set xs at x (record x { current = o }) is refl ∙ saved.nodes

    -- a statistics file is no group's, and so has what it had
    rows-still : (name : List ℕ) → file_at u (stats_name prefix name) ≡ file_at t (stats_name prefix name)
    rows-still name = all.others (stats_name prefix name) (λ j y i h named. λ e. group-apart_stats g s prefix sound ys nodes-now j y h i name (sym e))

    rows-now : (v : ℕ) (n : NodeRule) (r : StatsRule) → rule_at g.nodes v ≡ Some n → n.kind ≡ Stats r
        → HasFront u (stats_name prefix n.name) (text_at ts v) (rows_of r (written g s now v))
    rows-now v n r rule kind =
        let apart : v ≢ x.node = λ e. (let both : Some n ≡ Some node.rule = sym rule ∙ ap (rule_at g.nodes) e ∙ node.at in
        let kinds : Stats r ≡ File node.file = sym kind ∙ ap (λ (m : NodeRule). m.kind) (same_Some n node.rule both) ∙ node.kind in absurd (cc)) in
        let has = saved.rows v n r rule kind in (
          has.0,
          ap (rows_of r) (written-other g s ps x.node node.first node.within saved.passes v apart) ∙ has.1,
          HasFile-same t u (stats_name prefix n.name) has.0 (rows-still n.name) all.told has.2,
        )

    long : length (written g s ps x.node ++ a ∷ []) < 2 ^ 64
    long =
        let n = length-append (written g s ps x.node) (a ∷ []) in
        let p = gone-below g s ps x.node node.first node.within saved.passes k next in
        omega (arith, n, length-now, p, passed-few g s x.node, few)

    away-before : (q : List ℕ) → IsElsewhere ys (written g s now) q → IsElsewhere xs (written g s ps) q
    away-before q away =
        elsewhere-more xs at x o is (apart g s prefix sound xs saved.nodes) (gone / x.count)
        (omega (arith, div-le_self gone x.count, gone-below g s ps x.node node.first node.within saved.passes k next, passed-few g s x.node, few))
        t t t (written g s ps) all-written (Same refl) (gone % x.count) place a long q
        (subst (λ (zs : List NodeFile). IsElsewhere zs (with_array (written g s ps) x.node a) q) made_ys
        (subst (λ (w : ℕ → List Array). IsElsewhere ys w q) (sym with-is) away))

    -- the array is written
    pub saved-write : IsSaved g s prefix before now ts ys u
    saved-write = record {
      told = all.told ∙ saved.told;
      passes = passes-more g s ps x.node node.first node.within saved.passes k next;
      kept = saved.kept;
      nodes = nodes-now;
      groups = grouped;
      rows = rows-now;
      others = λ q away none. all.others q (subst (λ (w : ℕ → List Array). IsElsewhere ys w q) (sym with-is) away) ∙ saved.others q (away-before q away) none;
    }
