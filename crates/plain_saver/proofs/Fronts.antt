-- The arrays that have gone out of a node are a front of all that go out of it.
use Rattle.std.proofs.Common.{◌≡◌, ℕ, ◌+◌, ◌-◌, ◌*◌, ◌/◌, ◌^◌, ◌<◌, ◌≤◌, Bool, true, false, min, List, [], ◌∷◌, ◌++◌, length, take, drop, sym, ap, subst}
use Rattle.std.proofs.Common.{◌∙◌, arith, Option, Some, None}
use Rattle.std.specs.Prelude.{slice_get, is_some}
use Rattle.std.proofs.Common.{length-drop, length-take, length-append, take-append-drop}
use Rattle.std.proofs.Math.Nat.{mul-le-mul}
use Rattle.std.proofs.lemmas.List.{append-nil, take_more}
use Rattle.std.proofs.lemmas.Option.{get_or_from_slice_get, slice_get_within}
use Rattle.nd_base.specs.Array.{Array, StackValue}
use Rattle.nd_base.specs.GraphRules.{rule_at}
use Rattle.nd_base.specs.declared.graph.Graph.{Graph}
use Rattle.nd_base.specs.declared.graph.NodeRule.{NodeRule}
use Rattle.edge_traits.specs.Files.{Files, file_at}
use Rattle.cdf_write.specs.Layout.{layout}
use Rattle.nd_stack.specs.KeptStacks.{IsKeptStack}
use Rattle.file_out.specs.Streams.{Stream, begun_file}
use Rattle.chain_plain.specs.OneThread.{arrays_out}
use Rattle.chain_plain.specs.PassedLaws.{passed-frames, passed-few}
use Rattle.chain_plain.specs.PlainRun.{passed}
use Rattle.graph_files.specs.Groups.{group_of, HasBytes}
use Rattle.graph_files.specs.Interrupted as interrupted
use Rattle.graph_files.specs.Interrupted.{IsCountOf, IsStanding}
use Rattle.graph_files.specs.NodeFiles.{NodeFile, HasNumrecs, first_count, group_file, name_of}
use Rattle.graph_files.specs.OutgoingLaws.{arrays_out-append, length-arrays_out}
use Rattle.graph_files.proofs.BegunBytes.{unended-front, group-front, group-full, GroupHas, Nothing, Whole, Opened}
use Rattle.plain_saver.specs.Passes.{ArePasses, pass_at, is_next}
use Rattle.plain_saver.specs.Saved.{written, group_size}
use Rattle.plain_saver.specs.declared.passes.Pass.{Pass}
use Rattle.plain_saver.proofs.Gone.{next-is, length-gone}
use Rattle.plain_saver.proofs.FileNodes.{FileOf}
use Rattle.graph_files.proofs.PlainNames.{all_out, rule-place}
use Rattle.graph_files.proofs.Torn.{told-file}

-- the number of records that an open file was begun with
pub has-numrecs : (numrecs : Option ℕ) (o : Option Stream) (f : Stream) → HasNumrecs numrecs o → o ≡ Some f → f.numrecs ≡ numrecs
has-numrecs numrecs o f has is = subst (HasNumrecs numrecs) is has

-- is that of its group
pub count-of : (late : Bool) (n : ℕ) (numrecs : Option ℕ) → numrecs ≡ first_count late (Some n) → IsCountOf late n numrecs
count-of true n numrecs is = is
count-of false n numrecs is = is

module _ (g : Graph) (s : StackValue) (prefix : List ℕ) (kept : IsKeptStack s) (ps : List Pass) (passes : ArePasses g s ps) where
  abbrev gone : ℕ → ℕ
  gone v = (pass_at ps v).gone

  abbrev W : ℕ → List Array
  W v = written g s ps v

  -- all arrays are those that have gone and the others
  pub split : (v : ℕ) → (rest : List Array) × (all_out g s v ≡ W v ++ rest)
  split v = (
    arrays_out g.nodes s.arrays v (drop (gone v) (passed g s v)),
    ap (arrays_out g.nodes s.arrays v) (sym (take-append-drop (gone v) (passed g s v)))
        ∙ arrays_out-append g.nodes s.arrays v (take (gone v) (passed g s v)) (drop (gone v) (passed g s v)),
  )

  -- an array goes out at each position
  pub length-all : (v : ℕ) → length (all_out g s v) ≡ length (passed g s v)
  length-all v = length-arrays_out g.nodes s.arrays v (passed g s v) (passed-frames g s v)

  -- as many are written as have gone
  pub length-written : (v : ℕ) (n : NodeRule) → rule_at g.nodes v ≡ Some n → length (W v) ≡ gone v
  length-written v n at = let p = rule-place g v n at in length-gone g s ps v p.0 p.1 passes

  -- they are few
  pub all-few : (v : ℕ) → length (all_out g s v) < 2 ^ 64
  all-few v = omega (arith, length-all v, passed-few g s v, kept.few)

  -- and those that have gone are fewer
  pub written-few : (v : ℕ) → length (W v) < 2 ^ 64
  written-few v = let r = split v in omega (arith, all-few v, ap length r.1, length-append (W v) r.0)

  -- the position that goes out next
  pub next-out : (v k : ℕ) (n : NodeRule) → rule_at g.nodes v ≡ Some n → is_next ps v k ≡ true
      → (rest : List Array) × (all_out g s v ≡ (W v ++ arrays_out g.nodes s.arrays v (k ∷ [])) ++ rest)
  next-out v k n at next =
      let p = rule-place g v n at in
      let ks = passed g s v in
      let here : slice_get ks (gone v) ≡ Some k =
      ap (λ (xs : List ℕ). slice_get xs (gone v)) (sym (passes.positions v p.0 p.1)) ∙ next-is (slice_get (pass_at ps v).positions (gone v)) k next in
      let within = slice_get_within ks (gone v) k here in
      let more : take (gone v + 1) ks ≡ take (gone v) ks ++ k ∷ [] =
      take_more ks (gone v) k within ∙ ap (λ (m : ℕ). take (gone v) ks ++ m ∷ []) (get_or_from_slice_get ks (gone v) k k here) in (
        arrays_out g.nodes s.arrays v (drop (gone v + 1) ks),
        ap (arrays_out g.nodes s.arrays v) (sym (take-append-drop (gone v + 1) ks))
            ∙ arrays_out-append g.nodes s.arrays v (take (gone v + 1) ks) (drop (gone v + 1) ks)
            ∙ ap (λ (xs : List Array). xs ++ arrays_out g.nodes s.arrays v (drop (gone v + 1) ks))
            (ap (arrays_out g.nodes s.arrays v) more ∙ arrays_out-append g.nodes s.arrays v (take (gone v) ks) (k ∷ [])),
      )

  -- GROUPS

  -- the number of a group that has an array is small
  pub group-low : (count i v : ℕ) → 1 ≤ count → 1 ≤ length (group_of count i (all_out g s v)) → i < 2 ^ 64
  group-low count i v some filled =
      let taken = length-take count (drop (i * count) (all_out g s v)) in
      let dropped = length-drop (i * count) (all_out g s v) in
      let least : i * 1 ≤ i * count = mul-le-mul (let same : i ≤ i = omega arith in same) some in
      omega (arith, filled, taken, dropped, all-few v, least)

  -- a group of what has gone is a front of the group in the end
  pub group-split : (count i v : ℕ) → (more : List Array) × (group_of count i (all_out g s v) ≡ group_of count i (W v) ++ more)
  group-split count i v =
      let r = split v in
      let front = group-front count i (W v) r.0 in
      (front.0, ap (group_of count i) r.1 ∙ front.1)

  -- a full group stays as it is
  pub group-whole : (count i v : ℕ) → 1 ≤ count → length (group_of count i (W v)) ≡ count → group_of count i (all_out g s v) ≡ group_of count i (W v)
  group-whole count i v some full = let r = split v in ap (group_of count i) r.1 ∙ group-full count i (W v) r.0 some full

  -- and one that has an array keeps it
  pub group-longer : (count i v : ℕ) → 1 ≤ length (group_of count i (W v)) → 1 ≤ length (group_of count i (all_out g s v))
  group-longer count i v some =
      let r = group-split count i v in omega (arith, ap length r.1, length-append (group_of count i (W v)) r.0, some)

  -- how many arrays the group that the next array goes to has in the end
  pub group-sized : (count i v : ℕ) (n : NodeRule) → rule_at g.nodes v ≡ Some n → i ≡ length (W v) / count
      → length (group_of count i (all_out g s v)) ≡ group_size count (length (passed g s v)) (gone v)
  group-sized count i v n at here =
      length-take count (drop (i * count) (all_out g s v))
      ∙ ap (min count) (length-drop (i * count) (all_out g s v) ∙ ap (λ (m : ℕ). m - i * count) (length-all v)
      ∙ ap (λ (j : ℕ). length (passed g s v) - j * count) (here ∙ ap (λ (m : ℕ). m / count) (length-written v n at)))

  -- an open file is a front
  pub standing-open : (x : NodeFile) (f : FileOf g s prefix x) (i : ℕ) (numrecs : Option ℕ) (before now : Option (List ℕ)) → i ≡ length (W x.node) / x.count
      → numrecs ≡ first_count x.late (Some (group_size x.count (length (passed g s x.node)) (gone x.node)))
      → now ≡ Some (begun_file x.shape numrecs (group_of x.count i (W x.node)))
      → IsStanding x.late (layout x.shape (group_of x.count i (all_out g s x.node))) before now
  standing-open x f i numrecs before now here first made =
      let r = group-split x.count i x.node in
      let zs = group_of x.count i (W x.node) in
      let full = group_of x.count i (all_out g s x.node) in
      let count : IsCountOf x.late (length full) numrecs =
      subst (λ (n : ℕ). IsCountOf x.late n numrecs) (sym (group-sized x.count i x.node f.rule f.at here)) (count-of x.late _ numrecs first) in
      interrupted.Front (begun_file x.shape numrecs zs) _
      (unended-front x.shape zs r.0 full r.1 x.late numrecs (begun_file x.shape numrecs zs) [] count (sym (append-nil (begun_file x.shape numrecs zs)))) made

  -- what a name has stands
  pub standing-has : (x : NodeFile) (f : FileOf g s prefix x) (i : ℕ) (before : Option (List ℕ)) (now : Option Files) → is_some now ≡ true
      → HasBytes now (name_of x i) (group_file x (W x.node) i)
      → HasNumrecs (first_count x.late (Some (group_size x.count (length (passed g s x.node)) (gone x.node)))) x.current
      → (group_file x (W x.node) i ≡ None → IsStanding x.late (layout x.shape (group_of x.count i (all_out g s x.node))) before (file_at now (name_of x i)))
      → GroupHas x (W x.node) i → IsStanding x.late (layout x.shape (group_of x.count i (all_out g s x.node))) before (file_at now (name_of x i))
  standing-has x f i before now told has numrecs none (Nothing is) = none is
  standing-has x f i before now told has numrecs none (Whole full is) =
      interrupted.Whole (told-file now (name_of x i) (layout x.shape (group_of x.count i (W x.node))) told (subst (HasBytes now (name_of x i)) is has)
      ∙ ap (λ (zs : List Array). Some (layout x.shape zs)) (sym (group-whole x.count i x.node f.some full)))
  standing-has x f i before now told has numrecs none (Opened o open_ here is) =
      standing-open x f i o.numrecs before (file_at now (name_of x i)) here (has-numrecs _ x.current o numrecs open_)
      (told-file now (name_of x i) (begun_file x.shape o.numrecs (group_of x.count i (W x.node))) told (subst (HasBytes now (name_of x i)) is has))
