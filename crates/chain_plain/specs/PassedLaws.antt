-- Laws of the positions that go out of nodes.
use Rattle.std.specs.Prelude.{◌≡◌, ◌≢◌, ℕ, zero, suc, ◌+◌, ◌-◌, ◌%◌, ◌==◌, ◌<◌, ◌≤◌, Bool, true, false, List, [], ◌∷◌, ◌++◌, length, map, take, All, Option, Some, None}
use Rattle.std.specs.Prelude.{if◌then◌else◌, refl}
use Rattle.std.specs.List.{range_with_len}
use Rattle.std.proofs.Common.{ap, sym, ◌∙◌, arith, length-append}
use Rattle.std.proofs.lemmas.List.Elements.{All-nil, All-cons, All-head, All-tail, All-append, All-from_get_or}
use Rattle.std.proofs.lemmas.List.FromFn.{length-range_with_len, get_or-range_with_len}
use Rattle.nd_base.specs.Array.{Array, StackValue}
use Rattle.nd_base.specs.declared.graph.Graph.{Graph}
use Rattle.nd_base.specs.declared.graph.Kind.{Kind}
use Rattle.nd_base.specs.declared.graph.Kind.TheVariants.{Roi, Stats, Circular, File, Scatter}
use Rattle.nd_base.specs.declared.graph.NodeRule.{NodeRule}
use Rattle.nd_base.specs.GraphRules.{IsGraph, input_of, rule_at}
use Rattle.trig_window.specs.Windows.{at_positions, is_passed}
use Rattle.chain_plain.specs.OneThread.{fires_at, kind_outputs, rule_outputs, outputs}
use Rattle.chain_plain.specs.PassingLaws.{rule_within, input_none, input_some, walked-more, walked-none}
use Rattle.chain_plain.specs.PlainRun.{fed_by, kind_share, rule_share, share_of, share, passed_within, passed, passed_to}

-- WHAT A NODE GETS OF WHAT GOES OUT OF ITS INPUT

-- no number that has no rule is fed by a scatter node
share-none : (nodes : List NodeRule) (v : ℕ) (ks : List ℕ) → None ≡ rule_at nodes v → share nodes v ks ≡ ks
share-none nodes v ks none = ap (λ u. share_of nodes u v ks) (input_none nodes v none)

kind_share-whole : (kind : Kind) (place count : ℕ) (ks : List ℕ) → kind ≢ Scatter → kind_share kind place count ks ≡ ks
kind_share-whole Scatter place count ks other = absurd (other refl)
kind_share-whole (Roi r) place count ks other = refl
kind_share-whole (Stats r) place count ks other = refl
kind_share-whole (Circular r) place count ks other = refl
kind_share-whole (File r) place count ks other = refl

rule_share-whole : (rule : Option NodeRule) (place count : ℕ) (ks : List ℕ) → ((n : NodeRule) → rule ≡ Some n → n.kind ≢ Scatter)
    → rule_share rule place count ks ≡ ks
rule_share-whole None place count ks other = refl
rule_share-whole (Some n) place count ks other = kind_share-whole n.kind place count ks (other n refl)

-- a node that is no scatter node passes all on to each child
pub share_of-whole : (nodes : List NodeRule) (u v : ℕ) (ks : List ℕ) → ((n : NodeRule) → rule_at nodes u ≡ Some n → n.kind ≢ Scatter)
    → share_of nodes u v ks ≡ ks
share_of-whole nodes u v ks other = rule_share-whole (rule_at nodes u) (fed_by (take (v - 1) nodes) u) (fed_by nodes u) ks other

-- A NODE ACTS ON WHAT ITS INPUT PASSES ON TO IT

-- what goes out of a node is what it makes of what its input passes on to it
pub passed-step : (g : Graph) (s : StackValue) (v : ℕ) → IsGraph g → v ≤ length g.nodes
    → passed g s v ≡ outputs g.nodes s.arrays v (passed_to g s v)
passed-step g s v sound within =
    sym (walked-more (λ w ks. outputs g.nodes s.arrays w (share g.nodes w ks)) g.nodes (λ ks. refl) (length g.nodes) v (range_with_len 0 (length s.arrays))
    (sound.acyclic v within))

-- all frames go out of the driver, which has no rule
pub passed-none : (g : Graph) (s : StackValue) (v : ℕ) → None ≡ rule_at g.nodes v → passed g s v ≡ range_with_len 0 (length s.arrays)
passed-none g s v none =
    walked-none (λ w ks. outputs g.nodes s.arrays w (share g.nodes w ks)) g.nodes (λ ks. refl) (length g.nodes) v (range_with_len 0 (length s.arrays)) none
    (λ ks. ap (λ o. rule_outputs o s.arrays (share g.nodes v ks)) (sym none) ∙ share-none g.nodes v ks none)

-- what a node with a rule gets
pub passed_to-rule : (g : Graph) (s : StackValue) (v : ℕ) (n : NodeRule) → Some n ≡ rule_at g.nodes v
    → passed_to g s v ≡ share_of g.nodes n.input v (passed g s n.input)
passed_to-rule g s v n is = ap (λ u. share_of g.nodes u v (passed g s u)) (input_some g.nodes v n is)

-- and what its rule makes of that goes out of it
pub passed-rule : (g : Graph) (s : StackValue) (v : ℕ) (n : NodeRule) → IsGraph g → Some n ≡ rule_at g.nodes v
    → passed g s v ≡ outputs g.nodes s.arrays v (share_of g.nodes n.input v (passed g s n.input))
passed-rule g s v n sound is =
    passed-step g s v sound (rule_within g.nodes v n is) ∙ ap (outputs g.nodes s.arrays v) (passed_to-rule g s v n is)

-- NO NODE PASSES ON A POSITION THAT IT DID NOT ACCEPT

one-all : (P : ℕ → Type 0) (b : Bool) (k : ℕ) → P k → All P (if b then k ∷ [] else [])
one-all P true k h = All-cons P k [] h (All-nil P)
one-all P false k h = All-nil P

at_positions-all : (P : ℕ → Type 0) (test : ℕ → Bool) (at : ℕ) (ks : List ℕ) → All P ks → All P (at_positions test at ks)
at_positions-all P test at [] all = All-nil P
at_positions-all P test at (k ∷ ks) all =
    All-append P (if test at then k ∷ [] else []) (at_positions test (at + 1) ks) (one-all P (test at) k (All-head P k ks all))
    (at_positions-all P test (at + 1) ks (All-tail P k ks all))

kind_outputs-all : (P : ℕ → Type 0) (kind : Kind) (arrays : List Array) (ks : List ℕ) → All P ks → All P (kind_outputs kind arrays ks)
kind_outputs-all P (Circular r) arrays ks all = at_positions-all P (is_passed r.pre r.post r.preset (map (fires_at r arrays) ks)) 0 ks all
kind_outputs-all P (Roi r) arrays ks all = all
kind_outputs-all P (Stats r) arrays ks all = all
kind_outputs-all P (File r) arrays ks all = all
kind_outputs-all P Scatter arrays ks all = all

rule_outputs-all : (P : ℕ → Type 0) (rule : Option NodeRule) (arrays : List Array) (ks : List ℕ) → All P ks → All P (rule_outputs rule arrays ks)
rule_outputs-all P None arrays ks all = all
rule_outputs-all P (Some n) arrays ks all = kind_outputs-all P n.kind arrays ks all

kind_share-all : (P : ℕ → Type 0) (kind : Kind) (place count : ℕ) (ks : List ℕ) → All P ks → All P (kind_share kind place count ks)
kind_share-all P Scatter place count ks all = at_positions-all P (λ j. j % count == place) 0 ks all
kind_share-all P (Roi r) place count ks all = all
kind_share-all P (Stats r) place count ks all = all
kind_share-all P (Circular r) place count ks all = all
kind_share-all P (File r) place count ks all = all

rule_share-all : (P : ℕ → Type 0) (rule : Option NodeRule) (place count : ℕ) (ks : List ℕ) → All P ks → All P (rule_share rule place count ks)
rule_share-all P None place count ks all = all
rule_share-all P (Some n) place count ks all = kind_share-all P n.kind place count ks all

-- nor is it given one that did not go out of its input
pub share_of-all : (P : ℕ → Type 0) (nodes : List NodeRule) (u v : ℕ) (ks : List ℕ) → All P ks → All P (share_of nodes u v ks)
share_of-all P nodes u v ks all = rule_share-all P (rule_at nodes u) (fed_by (take (v - 1) nodes) u) (fed_by nodes u) ks all

passed_within-frames : (nodes : List NodeRule) (arrays : List Array) (steps v : ℕ) → All (λ k. k < length arrays) (passed_within nodes arrays steps v)
passed_within-frames nodes arrays zero v =
    All-from_get_or (λ k. k < length arrays) (range_with_len 0 (length arrays)) 0
    (λ i within.
    let inside : i < length arrays = omega (arith, length-range_with_len 0 (length arrays), within) in
    omega (arith, get_or-range_with_len 0 (length arrays) i 0 inside, inside))
passed_within-frames nodes arrays (suc steps) v =
    let before : List ℕ = passed_within nodes arrays steps (input_of nodes v) in
    rule_outputs-all (λ k. k < length arrays) (rule_at nodes v) arrays (share nodes v before)
    (share_of-all (λ k. k < length arrays) nodes (input_of nodes v) v before (passed_within-frames nodes arrays steps (input_of nodes v)))

-- what goes out of a node are frames of the stack
pub passed-frames : (g : Graph) (s : StackValue) (v : ℕ) → All (λ k. k < length s.arrays) (passed g s v)
passed-frames g s v = passed_within-frames g.nodes s.arrays (length g.nodes) v

-- and so is what its input passes on to it
pub passed_to-frames : (g : Graph) (s : StackValue) (v : ℕ) → All (λ k. k < length s.arrays) (passed_to g s v)
passed_to-frames g s v =
    share_of-all (λ k. k < length s.arrays) g.nodes (input_of g.nodes v) v (passed g s (input_of g.nodes v)) (passed-frames g s (input_of g.nodes v))

-- AND NO MORE OF THEM

one-few : (b : Bool) (k : ℕ) → length (if b then k ∷ [] else []) ≤ 1
one-few true k = omega arith
one-few false k = omega arith

at_positions-few : (test : ℕ → Bool) (at : ℕ) (ks : List ℕ) → length (at_positions test at ks) ≤ length ks
at_positions-few test at [] = omega arith
at_positions-few test at (k ∷ ks) =
    omega (arith, length-append (if test at then k ∷ [] else []) (at_positions test (at + 1) ks), one-few (test at) k, at_positions-few test (at + 1) ks)

kind_outputs-few : (kind : Kind) (arrays : List Array) (ks : List ℕ) → length (kind_outputs kind arrays ks) ≤ length ks
kind_outputs-few (Circular r) arrays ks = at_positions-few (is_passed r.pre r.post r.preset (map (fires_at r arrays) ks)) 0 ks
kind_outputs-few (Roi r) arrays ks = omega arith
kind_outputs-few (Stats r) arrays ks = omega arith
kind_outputs-few (File r) arrays ks = omega arith
kind_outputs-few Scatter arrays ks = omega arith

rule_outputs-few : (rule : Option NodeRule) (arrays : List Array) (ks : List ℕ) → length (rule_outputs rule arrays ks) ≤ length ks
rule_outputs-few None arrays ks = omega arith
rule_outputs-few (Some n) arrays ks = kind_outputs-few n.kind arrays ks

kind_share-few : (kind : Kind) (place count : ℕ) (ks : List ℕ) → length (kind_share kind place count ks) ≤ length ks
kind_share-few Scatter place count ks = at_positions-few (λ j. j % count == place) 0 ks
kind_share-few (Roi r) place count ks = omega arith
kind_share-few (Stats r) place count ks = omega arith
kind_share-few (Circular r) place count ks = omega arith
kind_share-few (File r) place count ks = omega arith

rule_share-few : (rule : Option NodeRule) (place count : ℕ) (ks : List ℕ) → length (rule_share rule place count ks) ≤ length ks
rule_share-few None place count ks = omega arith
rule_share-few (Some n) place count ks = kind_share-few n.kind place count ks

share-few : (nodes : List NodeRule) (v : ℕ) (ks : List ℕ) → length (share nodes v ks) ≤ length ks
share-few nodes v ks =
    rule_share-few (rule_at nodes (input_of nodes v)) (fed_by (take (v - 1) nodes) (input_of nodes v)) (fed_by nodes (input_of nodes v)) ks

passed_within-few : (nodes : List NodeRule) (arrays : List Array) (steps v : ℕ) → length (passed_within nodes arrays steps v) ≤ length arrays
passed_within-few nodes arrays zero v = omega (arith, length-range_with_len 0 (length arrays))
passed_within-few nodes arrays (suc steps) v =
    let before : List ℕ = passed_within nodes arrays steps (input_of nodes v) in
    omega (
      arith,
      rule_outputs-few (rule_at nodes v) arrays (share nodes v before),
      share-few nodes v before,
      passed_within-few nodes arrays steps (input_of nodes v),
    )

-- what goes out of a node are at most as many as the stack has
pub passed-few : (g : Graph) (s : StackValue) (v : ℕ) → length (passed g s v) ≤ length s.arrays
passed-few g s v = passed_within-few g.nodes s.arrays (length g.nodes) v

-- IN THE ORDER OF THE STACK

-- each is above all before it
abbrev pub AreRising : List ℕ → Type 0
AreRising [] = Unit {0}
AreRising (k ∷ ks) = All (λ p. k < p) ks × AreRising ks

one-rising : (b : Bool) (k : ℕ) (ks : List ℕ) → All (λ p. k < p) ks → AreRising ks → AreRising ((if b then k ∷ [] else []) ++ ks)
one-rising true k ks above h = (above, h)
one-rising false k ks above h = h

at_positions-rising : (test : ℕ → Bool) (at : ℕ) (ks : List ℕ) → AreRising ks → AreRising (at_positions test at ks)
at_positions-rising test at [] h = tt
at_positions-rising test at (k ∷ ks) h =
    one-rising (test at) k (at_positions test (at + 1) ks) (at_positions-all (λ p. k < p) test (at + 1) ks h.0) (at_positions-rising test (at + 1) ks h.1)

kind_outputs-rising : (kind : Kind) (arrays : List Array) (ks : List ℕ) → AreRising ks → AreRising (kind_outputs kind arrays ks)
kind_outputs-rising (Circular r) arrays ks h = at_positions-rising (is_passed r.pre r.post r.preset (map (fires_at r arrays) ks)) 0 ks h
kind_outputs-rising (Roi r) arrays ks h = h
kind_outputs-rising (Stats r) arrays ks h = h
kind_outputs-rising (File r) arrays ks h = h
kind_outputs-rising Scatter arrays ks h = h

rule_outputs-rising : (rule : Option NodeRule) (arrays : List Array) (ks : List ℕ) → AreRising ks → AreRising (rule_outputs rule arrays ks)
rule_outputs-rising None arrays ks h = h
rule_outputs-rising (Some n) arrays ks h = kind_outputs-rising n.kind arrays ks h

kind_share-rising : (kind : Kind) (place count : ℕ) (ks : List ℕ) → AreRising ks → AreRising (kind_share kind place count ks)
kind_share-rising Scatter place count ks h = at_positions-rising (λ j. j % count == place) 0 ks h
kind_share-rising (Roi r) place count ks h = h
kind_share-rising (Stats r) place count ks h = h
kind_share-rising (Circular r) place count ks h = h
kind_share-rising (File r) place count ks h = h

rule_share-rising : (rule : Option NodeRule) (place count : ℕ) (ks : List ℕ) → AreRising ks → AreRising (rule_share rule place count ks)
rule_share-rising None place count ks h = h
rule_share-rising (Some n) place count ks h = kind_share-rising n.kind place count ks h

share-rising : (nodes : List NodeRule) (v : ℕ) (ks : List ℕ) → AreRising ks → AreRising (share nodes v ks)
share-rising nodes v ks h =
    rule_share-rising (rule_at nodes (input_of nodes v)) (fed_by (take (v - 1) nodes) (input_of nodes v)) (fed_by nodes (input_of nodes v)) ks h

range-rising : (a n : ℕ) → AreRising (range_with_len a n)
range-rising a zero = tt
range-rising a (suc n) = (
  All-from_get_or (λ p. a < p) (range_with_len (a + 1) n) 0 (λ i within.
      let inside : i < n = omega (arith, length-range_with_len (a + 1) n, within) in
      omega (arith, get_or-range_with_len (a + 1) n i 0 inside)),
  range-rising (a + 1) n,
)

passed_within-rising : (nodes : List NodeRule) (arrays : List Array) (steps v : ℕ) → AreRising (passed_within nodes arrays steps v)
passed_within-rising nodes arrays zero v = range-rising 0 (length arrays)
passed_within-rising nodes arrays (suc steps) v =
    let before : List ℕ = passed_within nodes arrays steps (input_of nodes v) in
    rule_outputs-rising (rule_at nodes v) arrays (share nodes v before) (share-rising nodes v before (passed_within-rising nodes arrays steps (input_of nodes v)))

-- what goes out of a node goes in the order of the stack
pub passed-rising : (g : Graph) (s : StackValue) (v : ℕ) → AreRising (passed g s v)
passed-rising g s v = passed_within-rising g.nodes s.arrays (length g.nodes) v
