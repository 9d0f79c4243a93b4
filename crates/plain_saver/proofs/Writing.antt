-- How the next array of a file node is written.
use Rattle.std.proofs.Common.{◌≡◌, ℕ, zero, suc, ◌+◌, ◌-◌, ◌*◌, ◌/◌, ◌%◌, ◌<◌, ◌≤◌, Bool, true, false, List, Option, Some, length, get_or, refl}
use Rattle.std.proofs.Common.{◌++◌, set, take, drop, sym, ap, subst, ◌∙◌, arith, append_assoc, take-append-drop, length-append, length-drop}
use Rattle.std.specs.List.{flat_map}
use Rattle.std.proofs.lemmas.List.{drop-append-le, take_all}
use Rattle.std.specs.Prelude.{min, slice_get}
use Rattle.std.proofs.Math.Nat.{mod-lt}
use Rattle.std.proofs.lemmas.Nat.{div-add-mod'}
use Rattle.std.proofs.lemmas.Option.{slice_get_read, get_or_from_slice_get}
use Rattle.nd_base.specs.Array.{Array, StackValue}
use Rattle.nd_base.specs.GraphRules.{IsGraph}
use Rattle.nd_base.specs.declared.graph.Graph.{Graph}
use Rattle.edge_traits.specs.Files.{Files}
use Rattle.nd_stack.specs.KeptStacks.{IsKeptStack}
use Rattle.chain_plain.specs.PlainRun.{passed}
use Rattle.chain_plain.specs.PassedLaws.{passed-few}
use Rattle.file_out.specs.declared.fault.SaveFault.{SaveFault}
use Rattle.graph_files.specs.NodeFiles.{NodeFile, IsPlaceAfter, IsSized, HasNumrecs, first_count}
use Rattle.plain_saver.specs.declared.passes.Pass.{Pass}
use Rattle.plain_saver.specs.Saved.{written, group_size, IsSaved, IsCounted, IsNextPlace}
use Rattle.plain_saver.specs.TornRuns.{IsTornRun}
use Rattle.cdf_write.specs.Layout.{row}
use Rattle.chain_plain.specs.Content.{content}
use Rattle.chain_plain.specs.ContentLaws.{frame}
use Rattle.chain_plain.specs.OneThread.{arrays_out}
use Rattle.file_out.specs.Streams.{Stream}
use Rattle.graph_files.proofs.BegunBytes.{group-front}
use Rattle.graph_files.proofs.PlainNames.{all_out}
use Rattle.graph_files.specs.Groups.{group_of}
use Rattle.graph_files.specs.InTurn.{AreReady, GoInTurn, TurnStops}
use Rattle.graph_files.specs.OutgoingLaws.{arrays_out-append}
use Rattle.plain_saver.specs.Ahead.{arrays_from}
use Rattle.plain_saver.specs.Passes.{no_pass, pass_at, with_gone}
use Rattle.plain_saver.proofs.Ahead.{content-of, length-from}
use Rattle.plain_saver.proofs.ArraySteps.{place}
use Rattle.plain_saver.proofs.FileNodes.{FileOf, file-of}
use Rattle.plain_saver.proofs.Gone.{at-next, gone-below}
use Rattle.plain_saver.proofs.InterruptedWrite.{torn-turns}
use Rattle.plain_saver.proofs.TurnSteps.{IsPlaced, saved-turns}

-- what is read of the list at a node is what is known of the node
pub pass-read : (ps : List Pass) (n : ℕ) (p : Pass) → 1 ≤ n → n ≤ length ps → p ≡ get_or ps (n - 1) p → p ≡ pass_at ps n
pass-read ps zero p some within is = absurd (omega (arith, some))
pass-read ps (suc k) p some within is =
    let e : suc k - 1 ≡ k = omega arith in
    sym (get_or_from_slice_get ps k p no_pass
    (slice_get_read ps (length ps) k p refl (omega (arith, within)) (is ∙ ap (λ i. get_or ps i p) e)))

below-min : (a b c : ℕ) → a < b → a < c → a < min b c
below-min a b c hb hc = omega (arith, hb, hc)

-- arrays more in a group that has room for them
group-append : (count : ℕ) (xs zs : List Array) (g p : ℕ) → IsPlaceAfter count xs g p → p + length zs ≤ count
    → group_of count g (xs ++ zs) ≡ group_of count g xs ++ zs
group-append count xs zs g p h fits =
    let ys = drop (g * count) xs in
    let rest : length ys ≡ p = length-drop (g * count) xs ∙ omega (arith, h.all) in
    let more : length (ys ++ zs) ≡ p + length zs = length-append ys zs ∙ ap (λ n. n + length zs) rest in
    ap (take count) (drop-append-le (g * count) xs zs (omega (arith, h.all))) ∙ take_all count (ys ++ zs) (omega (arith, more, fits))
    ∙ ap (λ (ws : List Array). ws ++ zs) (sym (take_all count ys (omega (arith, rest, h.within))))

module _ (g : Graph) (s : StackValue) (sound : IsGraph g) (kept : IsKeptStack s) (prefix : List ℕ) (before : Option Files) (ps : List Pass) (xs : List NodeFile)
    (t : Option Files) {ts : List (List ℕ)} (saved : IsSaved g s prefix before ps ts xs t) (at : ℕ) (x : NodeFile) (is : slice_get xs at ≡ Some x) where
  abbrev rules : FileOf g s prefix x
  rules = file-of g s prefix sound xs saved.nodes at x is

  abbrev gone : ℕ
  gone = (pass_at ps x.node).gone

  abbrev all : ℕ
  all = length (passed g s x.node)

  same-all : length (pass_at ps x.node).positions ≡ all
  same-all = ap length (saved.passes.positions x.node rules.first rules.within)

  -- what is known of a file node
  pub counted : IsCounted ps x
  counted = record {
    first = rules.first;
    within = subst (λ n. x.node ≤ n) (sym saved.passes.count) rules.within;
    some = rules.some;
    few = omega (arith, same-all, passed-few g s x.node, kept.few);
  }

  pub gone-few : gone ≤ 65536
  gone-few = let low = saved.passes.gone x.node rules.first rules.within in omega (arith, low, passed-few g s x.node, kept.few)

  module _ (k group at_group of : ℕ) (goes : IsNextPlace ps x k group at_group of) where
    abbrev size : ℕ
    size = group_size x.count all gone

    size-is : of ≡ size
    size-is = goes.of_is ∙ ap (λ n. group_size x.count n gone) same-all

    low : gone < all
    low = gone-below g s ps x.node rules.first rules.within saved.passes k goes.next

    size-room : size ≤ x.room
    size-room = subst (λ n. size ≤ n) (sym rules.room) (let f = passed-few g s x.node in omega (arith, f))

    -- where it goes
    pub placed : IsPlaced g s ps x of group at_group
    placed = (goes.group_is, goes.place_is, size-is)

    -- there is room for it in its group
    pub one-left : at_group < of
    one-left =
        let within = mod-lt gone rules.some in
        let split = div-add-mod' gone x.count in
        omega (arith, goes.place_is, size-is, below-min (gone % x.count) x.count (all - gone / x.count * x.count) within (omega (arith, split, low)))

    -- and as many arrays go out as its group takes
    pub all-left : gone + (of - at_group) ≤ length (pass_at ps x.node).positions
    all-left =
        let split = div-add-mod' gone x.count in
        omega (arith, same-all, split, low, goes.place_is, size-is)

    array : (a : Array) × (content g.nodes s.arrays (frame x.node k) ≡ Some a)
    array = content-of g s x.node gone gone k (at-next g s ps x.node rules.first rules.within saved.passes k goes.next)

    place-so : IsPlaceAfter x.count (written g s ps x.node) group at_group
    place-so =
        subst (λ n. IsPlaceAfter x.count (written g s ps x.node) n at_group) (sym goes.group_is)
        (subst (λ n. IsPlaceAfter x.count (written g s ps x.node) (gone / x.count) n) (sym goes.place_is)
        (place g s prefix before t t ps xs xs sound kept.few saved at x is k goes.next array.0 array.1))

    module _ (n : ℕ) (some : 1 ≤ n) (within : n ≤ of - at_group) where
      abbrev next : List Array
      next = arrays_from g s x.node gone n

      pub next-low : gone + n ≤ all
      next-low = omega (arith, all-left, same-all, within)

      pub next-length : length next ≡ n
      next-length = length-from g s x.node gone n next-low

      next-sized : (late : Bool) → IsSized late (at_group + n - 1) x.room (Some of)
      next-sized true = tt
      next-sized false = (omega (arith, some, within, one-left), subst (λ m. m ≤ x.room) (sym size-is) size-room)

      next-fits : at_group + n ≤ x.count
      next-fits = omega (arith, within, one-left, size-is)

      -- the rows of the next arrays can be written
      pub ready : (bytes : List ℕ) → bytes ≡ flat_map (row x.shape) next → AreReady x (Some of) group at_group bytes n t
      ready bytes parts = record {
        written = (written g s ps x.node, place-so, (saved.groups at x is).written);
        some = some;
        room = omega (arith, within, one-left, size-is, size-room);
        sized = next-sized x.late;
        numrecs = subst (λ m. HasNumrecs (first_count x.late (Some m)) x.current) (sym size-is) (saved.groups at x is).numrecs;
        rows = (next, next-length, parts);
      }

      -- the group in the end begins with what was written and these
      next-front : (rest : List Array)
          × (group_of x.count (gone / x.count) (all_out g s x.node) ≡ (group_of x.count (gone / x.count) (written g s ps x.node) ++ next) ++ rest)
      next-front =
          let nodes = g.nodes in
          let G = gone / x.count in
          let W = written g s ps x.node in
          let ks = passed g s x.node in
          let behind = drop n (drop gone ks) in
          let rest = arrays_out nodes s.arrays x.node behind in
          let out = arrays_out nodes s.arrays x.node in
          let parts : all_out g s x.node ≡ (W ++ next) ++ rest =
          ap out (sym (take-append-drop gone ks)) ∙ arrays_out-append nodes s.arrays x.node (take gone ks) (drop gone ks)
          ∙ ap (λ (zs : List Array). W ++ zs) (ap out (sym (take-append-drop n (drop gone ks)))
          ∙ arrays_out-append nodes s.arrays x.node (take n (drop gone ks)) behind)
          ∙ sym (append_assoc W next rest) in
          let front = group-front x.count G (W ++ next) rest in
          let fits : gone % x.count + length next ≤ x.count = omega (arith, next-length, next-fits, goes.place_is) in
          let here = place g s prefix before t t ps xs xs sound kept.few saved at x is k goes.next array.0 array.1 in (
            front.0,
            ap (group_of x.count G) parts ∙ front.1
                ∙ ap (λ (zs : List Array). zs ++ front.0) (group-append x.count W next G (gone % x.count) here fits),
          )

      -- and then they are
      pub written-then : (u : Option Files) (o : Option Stream) → GoInTurn x (Some of) group at_group next o t u
          → IsSaved g s prefix before (with_gone ps x.node n) ts (set xs at (record x { current = o })) u
      written-then u o turns =
          saved-turns g s prefix before sound kept.few at of n ps xs t u saved x is group at_group o next-low (λ more. placed) next-fits turns

      -- a write that stopped
      pub stopped : (fault : SaveFault) (o : Option Stream) (now : Option Files) → TurnStops fault x (Some of) group at_group next o t now
          → IsTornRun g s prefix before now
      stopped fault o now stops =
          torn-turns g s prefix sound kept before ps xs t saved at k x is goes.next array.0 array.1 fault next next-front.0 next-front.1 o now
          (subst (λ m. TurnStops fault x (Some m) (gone / x.count) (gone % x.count) next o t now) size-is
          (subst (λ m. TurnStops fault x (Some of) (gone / x.count) m next o t now) goes.place_is
          (subst (λ m. TurnStops fault x (Some of) m at_group next o t now) goes.group_is stops)))
