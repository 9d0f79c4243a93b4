-- What is left at the end, as code reads it of nodes and roles.
use Rattle.std.proofs.Common.{◌≡◌, ◌≤◌, ◌<◌, ◌∙◌, ℕ, ◌+◌, ◌^◌, zero, suc, true, false, Bool, ◌&&◌, List, [], ◌∷◌, ◌++◌, Option, Some, None, length, map}
use Rattle.std.proofs.Common.{refl, sym, ap, subst, arith, inl, inr, ◌⊎◌, eqb}
use Rattle.std.proofs.Math.Nat.{mul-le-mul}
use Rattle.std.specs.Prelude.{slice_get, is_none}
use Rattle.std.specs.List.{list_all}
use Rattle.std.proofs.lemmas.Bool.{and_parts, and_from, true≢false, cases_Bool, ne_eqb}
use Rattle.std.proofs.lemmas.Option.{slice_get-get_or}
use Rattle.std.proofs.lemmas.List.{append-nil, length-map}
use Rattle.queue_sort.specs.Inboxes.{InboxState}
use Rattle.nd_base.specs.declared.frame.FrameName.{FrameName}
use Rattle.nd_base.specs.declared.measure.Measure.{Measure}
use Rattle.flow_journal.specs.declared.entry.Entry.{Entry}
use Rattle.flow_journal.specs.Setting.{Setting, Node, last_role, node_numbers, numbers_from}
use Rattle.flow_journal.specs.Pasts.{Past}
use Rattle.flow_journal.specs.Hands.{hand, hands, is_free}
use Rattle.flow_journal.specs.Ended.{is_settled}
use Rattle.flow_journal.specs.Queued.{queued}
use Rattle.flow_journal.specs.Rings.{ring}
use Rattle.flow_journal.specs.Unsaved.{unsaved}
use Rattle.flow_journal.specs.Finished.{none_left, is_done}
use Rattle.flow_journal.specs.Histories.{is_legal, is_history}
use Rattle.board_rules.specs.Ends.{measured, measured_at}
use Rattle.flow_journal.specs.declared.progress.Progress.{Progress}
use Rattle.flow_journal.proofs.Lengths.{length_laws}
use Rattle.course_parts.specs.declared.facts.Facts.{Facts}
use Rattle.course_parts.specs.declared.rules.Rules.{Rules}
use Rattle.course_parts.specs.RunRules.{AreRules, as_node}
use Rattle.course_parts.specs.declared.node.NodeState.{NodeState}
use Rattle.course_parts.specs.declared.hand.RoleState.{RoleState}
use Rattle.course_parts.specs.Endings.{is_over, has_free_hand}
use Rattle.course_parts.specs.NodeStates.{AreNodes, IsNode}
use Rattle.course_parts.specs.RoleStates.{AreRoles, role_of}
use Rattle.flow_journal.proofs.Flushed.{list-empty}
use Rattle.flow_journal.proofs.HandRoles.{role-of-hand, no-hands}
use Rattle.run_course.proofs.HandWords.{free-is}

-- LISTS
every-passes : {X : Type 0} (p : X → Bool) (xs : List X) (i : ℕ) (x : X) → list_all p xs ≡ true → slice_get xs i ≡ Some x → p x ≡ true
every-passes p [] i x h at = cc
every-passes p (y ∷ ys) zero x h at = let same : y ≡ x = cc in subst (λ z. p z ≡ true) same (and_parts (p y) (list_all p ys) h).0
every-passes p (y ∷ ys) (suc i) x h at = every-passes p ys i x (and_parts (p y) (list_all p ys) h).1 at

all-pass : {X : Type 0} (p : X → Bool) (xs : List X) → ((i : ℕ) (x : X) → slice_get xs i ≡ Some x → p x ≡ true) → list_all p xs ≡ true
all-pass p [] each = refl
all-pass p (x ∷ xs) each = and_from (p x) (list_all p xs) (each 0 x refl) (all-pass p xs (λ i y at. each (suc i) y at))

-- a test of each item, and of its number
lists-agree : {X : Type 0} (p : X → Bool) (q : ℕ → Bool) (xs : List X) (ns : List Node) (v : ℕ) → length xs ≡ length ns
    → ((i : ℕ) (x : X) → slice_get xs i ≡ Some x → p x ≡ q (v + i)) → list_all p xs ≡ list_all q (numbers_from v ns)
lists-agree p q [] [] v h each = refl
lists-agree p q [] (n ∷ ns) v h each = absurd (omega (arith, h))
lists-agree p q (x ∷ xs) [] v h each = absurd (omega (arith, h))
lists-agree p q (x ∷ xs) (n ∷ ns) v h each =
    let first : v + 0 ≡ v = omega arith in
    let here : p x ≡ q v = each 0 x refl ∙ ap q first in
    let step : (i : ℕ) → v + suc i ≡ (v + 1) + i = λ i. omega arith in
    let rest : list_all p xs ≡ list_all q (numbers_from (v + 1) ns) =
    lists-agree p q xs ns (v + 1) (omega (arith, h)) (λ i y at. each (suc i) y at ∙ ap q (step i)) in
    ap (λ (b : Bool). b && list_all p xs) here ∙ ap (λ (b : Bool). q v && b) rest

maps-agree : {X Y : Type 0} (f : X → Y) (g : ℕ → Y) (xs : List X) (ns : List Node) (v : ℕ) → length xs ≡ length ns
    → ((i : ℕ) (x : X) → slice_get xs i ≡ Some x → f x ≡ g (v + i)) → map f xs ≡ map g (numbers_from v ns)
maps-agree f g [] [] v h each = refl
maps-agree f g [] (n ∷ ns) v h each = absurd (omega (arith, h))
maps-agree f g (x ∷ xs) [] v h each = absurd (omega (arith, h))
maps-agree {X} {Y} f g (x ∷ xs) (n ∷ ns) v h each =
    let first : v + 0 ≡ v = omega arith in
    let here : f x ≡ g v = each 0 x refl ∙ ap g first in
    let step : (i : ℕ) → v + suc i ≡ (v + 1) + i = λ i. omega arith in
    let rest : map f xs ≡ map g (numbers_from (v + 1) ns) = maps-agree f g xs ns (v + 1) (omega (arith, h)) (λ i y at. each (suc i) y at ∙ ap g (step i)) in
    ap (λ (y : Y). y ∷ map f xs) here ∙ ap (λ (ys : List Y). g v ∷ ys) rest

-- HANDS
none-is : {X : Type 0} (o : Option X) → is_none o ≡ true → o ≡ None
none-is None h = refl
none-is (Some x) h = absurd (true≢false (sym h))

hand-none : (s : Setting) (P : Past) (rs : List RoleState) → AreRoles s P rs → is_legal s P ≡ true
    → list_all has_free_hand rs ≡ true → (r : ℕ) → hand r P ≡ None
hand-none s P rs are legal all r = by (hand r P) refl where
  by : (o : Option Entry) → hand r P ≡ o → hand r P ≡ None
  by None is = is
  by (Some e) is =
      let low : r ≤ last_role s = role-of-hand s P r e legal is in
      let x = role_of P r in
      let at : slice_get rs r ≡ Some (role_of P r) =
      let read = slice_get-get_or rs r x (omega (arith, are.all, low)) in
      read ∙ ap (λ (y : RoleState). Some y) (are.each r _ read) in
      none-is (hand r P) (sym (free-is r P) ∙ every-passes has_free_hand rs r x all at)

-- no role has anything in hand
pub hands-free : (s : Setting) (P : Past) (rs : List RoleState) → AreRoles s P rs → is_legal s P ≡ true → list_all has_free_hand rs ≡ none_left (hands P)
hands-free s P rs are legal = elim (cases_Bool (list_all has_free_hand rs)) [
  | inl all ↦ all ∙ sym (ap (λ (H : Past). none_left H) (no-hands s P legal (hand-none s P rs are legal all)))
  | inr some ↦ some ∙ sym (by (hands P) refl some)
] where
  by : (H : Past) → hands P ≡ H → list_all has_free_hand rs ≡ false → none_left (hands P) ≡ false
  by [] none some =
      let free : (i : ℕ) (x : RoleState) → slice_get rs i ≡ Some x → has_free_hand x ≡ true =
      λ i x at. ap has_free_hand (are.each i x at) ∙ (free-is i P ∙ gone i none) in
      absurd (true≢false (sym (all-pass has_free_hand rs free) ∙ some)) where
        gone : (i : ℕ) → hands P ≡ [] → is_free i P ≡ true
        gone i none = rw none refl
  by (e ∷ H) is some = ap (λ (K : Past). none_left K) is

-- NODES
empty-is : {X : Type 0} (xs : List X) → eqb (length xs) 0 ≡ none_left xs
empty-is [] = refl
empty-is (x ∷ xs) = ne_eqb (length (x ∷ xs)) 0 (λ e. absurd (omega (arith, e)))

left-more : {X : Type 0} (xs ys : List X) → none_left (xs ++ ys) ≡ (none_left xs && none_left ys)
left-more [] ys = refl
left-more (x ∷ xs) ys = refl

left-three : {X : Type 0} (xs ys : List X) → none_left (((xs ++ []) ++ []) ++ ys) ≡ (none_left xs && none_left ys)
left-three xs ys = rw (append-nil xs, append-nil xs) (left-more xs ys)

over-is : (measure : ℕ → FrameName → Option Measure) (s : Setting) (P : Past) (v : ℕ) (n : NodeState) → is_history s P ≡ true
    → IsNode measure s v P n → is_over n ≡ is_done s P v
over-is measure s P v n h i =
    let queue : eqb (length n.inbox.items) 0 ≡ none_left (queued v P) = empty-is n.inbox.items ∙ ap (λ (b : InboxState FrameName). none_left b.items) i.inbox in
    let file : eqb (length n.unsaved.items) 0 ≡ none_left (unsaved s v P) = empty-is n.unsaved.items ∙ ap (λ (xs : List FrameName). none_left xs) i.kept in
    ap (λ (b : Bool). b && eqb (length n.inbox.items) 0 && eqb (length n.unsaved.items) 0) i.ended
    ∙ (ap (λ (b : Bool). is_settled v P && b && eqb (length n.unsaved.items) 0) queue
    ∙ (ap (λ (b : Bool). is_settled v P && none_left (queued v P) && b) file ∙ by (cases_Bool (is_settled v P)))) where
      by : (is_settled v P ≡ true) ⊎ (is_settled v P ≡ false) → (is_settled v P && none_left (queued v P) && none_left (unsaved s v P)) ≡ is_done s P v
      by (inl done) =
          let no_ring : ring s v P ≡ [] = rw done refl in
          rw (list-empty s P v h done, no_ring, done) (sym (left-three (queued v P) (unsaved s v P)))
      by (inr not_) = rw not_ refl

pub nodes-over : (measure : ℕ → FrameName → Option Measure) (s : Setting) (P : Past) (ns : List NodeState) → is_history s P ≡ true → AreNodes measure s P ns
    → list_all is_over ns ≡ list_all (is_done s P) (node_numbers s)
nodes-over measure s P ns h are =
    let step : (i : ℕ) → suc i ≡ 1 + i = λ i. omega arith in
    lists-agree is_over (is_done s P) ns s.nodes 1 are.all (λ i n at. over-is measure s P (suc i) n h (are.each i n at) ∙ ap (is_done s P) (step i))

pub nodes-measured : (measure : ℕ → FrameName → Option Measure) (s : Setting) (P : Past) (ns : List NodeState) → AreNodes measure s P ns
    → map (λ (n : NodeState). n.measures.items) ns ≡ measured measure s P
nodes-measured measure s P ns are =
    let step : (i : ℕ) → suc i ≡ 1 + i = λ i. omega arith in
    maps-agree (λ (n : NodeState). n.measures.items) (measured_at measure P) ns s.nodes 1 are.all
    (λ i n at. (are.each i n at).measures ∙ ap (measured_at measure P) (step i))

-- PROGRESS
abbrev pub progress_with : ℕ → Facts → Bool → Progress
progress_with n f b = record { entries = n; offered = f.came; dropped = f.dropped; saved = f.saved; left = f.left; done = b }

-- no log is too long
pub log-fits : (s : Setting) (ru : Rules) (P : Past) → AreRules ru s → is_legal s P ≡ true → length P < 2 ^ 32
log-fits s ru P are legal =
    let frames : length s.ids ≤ 65536 = omega (arith, are.few_frames, ap length are.ids) in
    let nodes : length s.nodes ≤ 32 = omega (arith, are.few_nodes, ap length are.nodes, length-map ru.nodes as_node) in
    omega (arith, length_laws.within_limits s P nodes are.few_threads legal, mul-le-mul frames nodes)
