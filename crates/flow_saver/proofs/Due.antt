-- A piece that was handed out is the next array of its node's files.
use Rattle.std.proofs.Common.{◌≡◌, ◌⊎◌, ℕ, suc, ◌+◌, ◌-◌, ◌*◌, ◌/◌, ◌%◌, ◌<◌, ◌≤◌, min, Bool, true, false, not, ◌||◌, leb, List, length, map, refl, sym, ap}
use Rattle.std.proofs.Common.{subst, ◌∙◌, arith, inl, inr, Option, Some, None}
use Rattle.std.specs.Prelude.{slice_get, if◌then◌else◌}
use Rattle.std.specs.Option.{option_map}
use Rattle.std.proofs.Math.Nat.{mod-lt, add-mul}
use Rattle.std.proofs.lemmas.Nat.{div-add-mod'}
use Rattle.std.proofs.lemmas.Bool.{and_parts, leb-true, leb-false, le-leb, false≢true}
use Rattle.std.proofs.lemmas.Option.{slice_get-map, slice_get_within, get_or_from_slice_get}
use Rattle.std.proofs.lemmas.List.{length-map}
use Rattle.nd_base.specs.Array.{Array, StackValue}
use Rattle.nd_base.specs.GraphRules.{IsGraph, IsKind, IsFile, makes_arrays, rule_at}
use Rattle.nd_base.specs.declared.frame.FrameName.{FrameName}
use Rattle.nd_base.specs.declared.graph.FileRule.{FileRule}
use Rattle.nd_base.specs.declared.graph.Graph.{Graph}
use Rattle.nd_base.specs.declared.graph.Kind.TheVariants.{File}
use Rattle.nd_base.specs.declared.graph.Mode.{Mode}
use Rattle.nd_base.specs.declared.graph.Mode.TheVariants.{Single, Capture, Stream}
use Rattle.nd_base.specs.declared.graph.NodeRule.{NodeRule}
use Rattle.chain_plain.specs.Nodes.{maker_at}
use Rattle.chain_plain.specs.Plans.{makers_of}
use Rattle.chain_plain.proofs.Found.{maker_of_other}
use Rattle.chain_plain.proofs.Rules.{stands}
use Rattle.flow_journal.specs.Setting.{Work, Saves, node, is_node, makes}
use Rattle.flow_journal.specs.RunSetting.{is_capture}
use Rattle.flow_journal.specs.Pasts.{Past}
use Rattle.flow_journal.specs.Ended.{is_settled}
use Rattle.flow_journal.specs.Puts.{puts}
use Rattle.flow_journal.specs.Unsaved.{unsaved, standing_saves, is_file, is_due, group_of}
use Rattle.flow_journal.specs.FirstEntries.{is_next}
use Rattle.flow_journal.specs.Histories.{is_legal, is_history}
use Rattle.flow_journal.specs.Pasts.{without}
use Rattle.flow_journal.proofs.Dues.{due_laws}
use Rattle.flow_journal.proofs.Steps.{next_is}
use Rattle.run_laws.proofs.Runs.{known}
use Rattle.board_rules.specs.RunMeasures.{run_setting}
use Rattle.board_rules.specs.Saving.{place_of, group_size, size_of_group, is_whole_group}
use Rattle.graph_files.specs.NodeFiles.{NodeFile, IsSized, first_count}
use Rattle.graph_files.specs.OpenFiles.{closed, file_nodes}
use Rattle.graph_files.specs.OpenFileLaws.{of_node}
use Rattle.graph_files.specs.OutFiles.{file_shape, is_stream}
use Rattle.flow_saver.specs.Saver.{IsGroupSize, IsFirstCount}
use Rattle.flow_saver.proofs.Puts.{puts-few, puts-named}
use Rattle.flow_saver.proofs.Sizes.{size-one}

-- WHICH NODE

pub record OfFile (g : Graph) (stack : StackValue) (x : NodeFile) : Type 0 where
  pub rule : NodeRule
  pub file : FileRule
  pub at : rule_at g.nodes x.node ≡ Some rule
  pub kind : rule.kind ≡ File file
  pub sound : IsFile file
  pub count : x.count ≡ file.count
  pub late : x.late ≡ is_stream file.mode
  pub room : x.room ≡ min file.count (length stack.arrays)
  pub shape : x.shape ≡ file_shape g stack x.node
  pub work : (node (run_setting g stack) x.node).work ≡ Saves (is_capture file.mode) file.count
  pub number : is_node (run_setting g stack) x.node ≡ true

pub of_file : (g : Graph) (stack : StackValue) (prefix : List ℕ) (xs : List NodeFile) (k : ℕ) (x : NodeFile) → IsGraph g
    → map closed xs ≡ file_nodes g stack prefix → slice_get xs k ≡ Some x → OfFile g stack x
of_file g stack prefix xs k x sound nodes at =
    let there : slice_get (file_nodes g stack prefix) k ≡ Some (closed x) =
    ap (λ (ys : List NodeFile). slice_get ys k) (sym nodes) ∙ slice_get-map closed xs k ∙ ap (option_map closed) at in
    let o = of_node g stack prefix 1 g.nodes k (closed x) there in
    let place : x.node ≡ suc o.place = o.node ∙ omega arith in
    let rule : rule_at g.nodes x.node ≡ Some o.rule = ap (rule_at g.nodes) place ∙ o.at in
    let kind = subst IsKind o.kind (stands g x.node o.rule sound (sym rule)).sound.kind in
    let node_ : 1 + o.place ≡ x.node = sym o.node in
    let work_ = known g (makers_of g.nodes stack.shape) stack.arrays x.node o.rule (File o.file) rule o.kind in
    record {
      rule = o.rule;
      file = o.file;
      at = rule;
      kind = o.kind;
      sound = kind;
      count = ap (λ (y : NodeFile). y.count) o.whole;
      late = ap (λ (y : NodeFile). y.late) o.whole;
      room = ap (λ (y : NodeFile). y.room) o.whole;
      shape = ap (λ (y : NodeFile). y.shape) o.whole ∙ ap (file_shape g stack) node_;
      work = work_.work;
      number = work_.number;
    }

-- WHICH ARRAY

-- the next piece of a node, after n others
pub record IsNext (g : Graph) (stack : StackValue) (x : NodeFile) (P : Past) (n : ℕ) (name : FrameName) (group place : ℕ) (of : Option ℕ) : Type 0 where
  pub below : n < length (puts x.node P)
  pub few : length (puts x.node P) ≤ length stack.arrays
  pub group_is : group ≡ n / x.count
  pub place_is : place ≡ n % x.count
  pub named : name.maker ≡ maker_at g.nodes x.node
  pub sized : x.late ≡ false → (size : ℕ) × (of ≡ Some size) × IsGroupSize P x.node x.count group size

not-stream : (m : Mode) → is_stream m ≡ false → (m ≡ Single) ⊎ (m ≡ Capture)
not-stream Single h = inl refl
not-stream Capture h = inr refl
not-stream Stream h = absurd (false≢true (sym h))

settled-due : (settled ready : Bool) → (not true || settled || ready) ≡ true → ready ≡ false → settled ≡ true
settled-due true ready h no_ = refl
settled-due false ready h no_ = absurd (false≢true (sym no_ ∙ h))

module _ (P : Past) (v count n : ℕ) (some : 1 ≤ count) (below : n < length (puts v P)) where
  whole-size : is_whole_group count n (length (puts v P)) ≡ true → IsGroupSize P v count (n / count) count
  whole-size whole =
      inl (let rows = leb-true ((n / count + 1) * count) (length (puts v P)) whole in let next = add-mul (n / count) 1 count in omega (arith, rows, next), refl)

  short-size : is_whole_group count n (length (puts v P)) ≡ false → is_settled v P ≡ true
      → IsGroupSize P v count (n / count) (length (puts v P) - n / count * count)
  short-size short settled =
      let rows = leb-false ((n / count + 1) * count) (length (puts v P)) short in
      let next = add-mul (n / count) 1 count in
      let front : n / count * count ≤ n = omega (arith, div-add-mod' n count) in
      inr (settled, omega (arith, rows, next), omega (arith, front, below))

  size-by : (whole settled : Bool) → is_whole_group count n (length (puts v P)) ≡ whole → is_settled v P ≡ settled → (whole ≡ false → settled ≡ true)
      → (size : ℕ) × ((if whole then Some count else if settled then Some (length (puts v P) - n / count * count) else None) ≡ Some size)
      × IsGroupSize P v count (n / count) size
  size-by true settled w t known_ = (count, refl, whole-size w)
  size-by false true w t known_ = (length (puts v P) - n / count * count, refl, short-size w t)
  size-by false false w t known_ = absurd (false≢true (known_ refl))

one-whole : (n put : ℕ) → n < put → leb ((n / 1 + 1) * 1) put ≡ true
one-whole n put below =
    le-leb ((n / 1 + 1) * 1) put (let d = div-add-mod' n 1 in let m = mod-lt n (let one : 0 < 1 = omega arith in one) in omega (arith, below, d, m))

pub next-piece : (g : Graph) (stack : StackValue) (x : NodeFile) (f : OfFile g stack x) (P : Past) (n : ℕ) (name : FrameName) (group place : ℕ) (of : Option ℕ)
    → IsGraph g
    → is_history (run_setting g stack) P ≡ true → n ≡ length (standing_saves x.node P) → is_due (node (run_setting g stack) x.node).work x.node P ≡ true
    → is_next name (unsaved (run_setting g stack) x.node P) ≡ true
    → group ≡ group_of (node (run_setting g stack) x.node).work n → place ≡ place_of (node (run_setting g stack) x.node).work n
    → of ≡ group_size (node (run_setting g stack) x.node).work n (is_settled x.node P) (length (puts x.node P)) → IsNext g stack x P n name group place of
next-piece g stack x f P n name group place of sound h saved due next group_is place_is of_is =
    let s = run_setting g stack in
    let v = x.node in
    let count = f.file.count in
    let legal = (and_parts (is_legal s P) _ h).0 in
    let file : is_file (node s v).work ≡ true = ap is_file f.work in
    let at = (due_laws.next s v name P legal file).0 (without name (unsaved s v P), next_is name (unsaved s v P) next) in
    let place_at : slice_get (puts v P) n ≡ Some name = ap (slice_get (puts v P)) saved ∙ at in
    let below : n < length (puts v P) = slice_get_within (puts v P) n name place_at in
    let maker = puts-named g (makers_of g.nodes stack.shape) stack.arrays P v f.rule sound f.at (ap makes f.work) h n name below in
    let own : name.maker ≡ maker_at g.nodes f.rule.input =
    subst (λ (a : FrameName). a.maker ≡ maker_at g.nodes f.rule.input) (get_or_from_slice_get (puts v P) n name name place_at) maker in
    let some : 1 ≤ count = f.sound.count.0 in
    let group_ : group ≡ n / count = group_is ∙ ap (λ (w : Work). group_of w n) f.work in
    let of_ : of ≡ size_of_group count n (is_settled v P) (length (puts v P)) =
    of_is ∙ ap (λ (w : Work). group_size w n (is_settled v P) (length (puts v P))) f.work in
    let due_ : is_due (Saves (is_capture f.file.mode) count) v P ≡ true = ap (λ (w : Work). is_due w v P) (sym f.work) ∙ due in
    record {
      below = below;
      few = omega (arith, puts-few s P v legal, length-map stack.arrays (λ (a : Array). a.id));
      group_is = group_ ∙ ap (λ (c : ℕ). n / c) (sym f.count);
      place_is = place_is ∙ ap (λ (w : Work). place_of w n) f.work ∙ ap (λ (c : ℕ). n % c) (sym f.count);
      named = own ∙ sym (maker_of_other g v f.rule sound (sym f.at) (ap makes_arrays f.kind));
      sized = λ early.
          let known_ : is_whole_group count n (length (puts v P)) ≡ false → is_settled v P ≡ true =
          λ short. elim (not-stream f.file.mode (sym f.late ∙ early)) [
            | inl single ↦
                let one : count ≡ 1 = f.sound.single single in
                absurd (false≢true (sym short ∙ ap (λ (c : ℕ). is_whole_group c n (length (puts v P))) one ∙ one-whole n (length (puts v P)) below))
            | inr capture ↦
                let whole_due : (not true || is_settled v P || leb ((length (standing_saves v P) / count + 1) * count) (length (puts v P))) ≡ true =
                ap (λ (m : Mode). is_due (Saves (is_capture m) count) v P) (sym capture) ∙ due_ in
                settled-due (is_settled v P) (leb ((length (standing_saves v P) / count + 1) * count) (length (puts v P))) whole_due
                (ap (λ (k : ℕ). leb ((k / count + 1) * count) (length (puts v P))) (sym saved) ∙ short)
          ] in
          let z = size-by P v count n some below (is_whole_group count n (length (puts v P))) (is_settled v P) refl refl known_ in
          (z.0, of_ ∙ z.1, subst (λ (c : ℕ). IsGroupSize P v c group z.0) (sym f.count) (subst (λ (i : ℕ). IsGroupSize P v count i z.0) (sym group_) z.2));
    }

-- WHAT THE FILES ASK FOR

-- its place is within the room
pub next-room : (g : Graph) (stack : StackValue) (x : NodeFile) (f : OfFile g stack x) (P : Past) (n : ℕ) (name : FrameName) (group place : ℕ) (of : Option ℕ)
    → IsNext g stack x P n name group place of → place < x.room
next-room g stack x f P n name group place of h =
    let some : 0 < x.count = omega (arith, f.count, f.sound.count.0) in
    let low = mod-lt n some in
    let all = div-add-mod' n x.count in
    omega (arith, h.below, h.few, h.place_is, low, all, f.room, f.count)

sized-by : (late : Bool) (P : Past) (v count group place room n : ℕ) (of : Option ℕ) (F : ℕ) → n < length (puts v P) → length (puts v P) ≤ F
    → n ≡ group * count + place → place < count → room ≡ min count F
    → (late ≡ false → (size : ℕ) × (of ≡ Some size) × IsGroupSize P v count group size) → IsSized late place room of
sized-by true P v count group place room n of F below few all within is h = tt
sized-by false P v count group place room n of F below few all within is h =
    let z = h refl in
    subst (IsSized false place room) (sym z.1) (elim z.2 [
      | inl whole ↦ (omega (arith, whole.1, within), omega (arith, whole.0, whole.1, few, is))
      | inr short ↦ (omega (arith, short.2, below, all), omega (arith, short.1, short.2, few, is))
    ])

pub next-sized : (g : Graph) (stack : StackValue) (x : NodeFile) (f : OfFile g stack x) (P : Past) (n : ℕ) (name : FrameName) (group place : ℕ) (of : Option ℕ)
    → IsNext g stack x P n name group place of → IsSized x.late place x.room of
next-sized g stack x f P n name group place of h =
    let some : 0 < x.count = omega (arith, f.count, f.sound.count.0) in
    let all : n ≡ group * x.count + place =
    sym (div-add-mod' n x.count) ∙ ap (λ i. i * x.count + n % x.count) (sym h.group_is) ∙ ap (λ k. group * x.count + k) (sym h.place_is) in
    let within : place < x.count = omega (arith, mod-lt n some, h.place_is) in
    let room : x.room ≡ min x.count (length stack.arrays) = f.room ∙ ap (λ c. min c (length stack.arrays)) (sym f.count) in
    sized-by x.late P x.node x.count group place x.room n of (length stack.arrays) h.below h.few all within room h.sized

numrecs-by : (late : Bool) (P : Past) (v count group : ℕ) (of numrecs : Option ℕ)
    → (late ≡ false → (size : ℕ) × (of ≡ Some size) × IsGroupSize P v count group size) → IsFirstCount P v count group late numrecs
    → numrecs ≡ first_count late of
numrecs-by true P v count group of numrecs h first = first
numrecs-by false P v count group of numrecs h first =
    let z = h refl in
    first.1 ∙ ap Some (size-one P v count group first.0 z.0 first.2 z.2) ∙ sym z.1

-- and the open file was begun with its number of records
pub next-numrecs : (g : Graph) (stack : StackValue) (x : NodeFile) (P : Past) (n : ℕ) (name : FrameName) (group place : ℕ) (of numrecs : Option ℕ)
    → IsNext g stack x P n name group place of
    → IsFirstCount P x.node x.count group x.late numrecs → numrecs ≡ first_count x.late of
next-numrecs g stack x P n name group place of numrecs h first = numrecs-by x.late P x.node x.count group of numrecs h.sized first

first-by : (late : Bool) (P : Past) (v count group : ℕ) (of : Option ℕ) → (late ≡ false → (size : ℕ) × (of ≡ Some size) × IsGroupSize P v count group size)
    → IsFirstCount P v count group late (first_count late of)
first-by true P v count group of h = refl
first-by false P v count group of h = h refl

pub next-first : (g : Graph) (stack : StackValue) (x : NodeFile) (P : Past) (n : ℕ) (name : FrameName) (group place : ℕ) (of : Option ℕ)
    → IsNext g stack x P n name group place of
    → IsFirstCount P x.node x.count group x.late (first_count x.late of)
next-first g stack x P n name group place of h = first-by x.late P x.node x.count group of h.sized
