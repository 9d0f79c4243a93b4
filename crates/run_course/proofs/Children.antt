-- The children of a node.
use Rattle.std.proofs.Common.{◌≡◌, ◌≤◌, ◌<◌, ℕ, zero, suc, ◌+◌, ◌==◌, true, List, [], ◌∷◌, length, refl, sym, subst}
use Rattle.std.proofs.Common.{arith, get_or}
use Rattle.std.specs.List.{All}
use Rattle.std.proofs.lemmas.Bool.{and_from, lt-ltb, le-leb}
use Rattle.std.proofs.lemmas.List.Filters.{length-filter_both}
use Rattle.std.specs.Prelude.{not}
use Rattle.std.proofs.lemmas.List.Elements.{All-cons, All-nil, All-head, All-tail, All-filter}
use Rattle.flow_journal.specs.Setting.{Setting, Node, node, is_node, node_numbers, numbers_from, children}
use Rattle.flow_journal.proofs.Lengths.{numbers-length}

-- NUMBERS
numbers-within : (s : Setting) (v : ℕ) (ns : List Node) → 0 < v → v + length ns ≤ length s.nodes + 1 → All (λ u. is_node s u ≡ true) (numbers_from v ns)
numbers-within s v [] some fit = All-nil (λ u. is_node s u ≡ true)
numbers-within s v (n ∷ ns) some fit =
    All-cons (λ u. is_node s u ≡ true) v (numbers_from (v + 1) ns)
    (and_from _ _ (lt-ltb 0 v some) (le-leb v (length s.nodes) (omega (arith, fit)))) (numbers-within s (v + 1) ns (omega arith) (omega (arith, fit)))

pub children-nodes : (s : Setting) (v : ℕ) → All (λ u. is_node s u ≡ true) (children s v)
children-nodes s v = All-filter (λ c. (node s c).input == v) (λ u. is_node s u ≡ true) (node_numbers s) (numbers-within s 1 s.nodes (omega arith) (omega arith))

read-all : {X : Type 0} (Q : X → Type 0) (xs : List X) (i : ℕ) (d : X) → All Q xs → i < length xs → Q (get_or xs i d)
read-all Q [] i d all lt = absurd (omega (arith, lt))
read-all Q (x ∷ xs) zero d all lt = All-head Q x xs all
read-all Q (x ∷ xs) (suc i) d all lt = read-all Q xs i d (All-tail Q x xs all) (omega (arith, lt))

-- a child that was read is a node
pub child-node : (s : Setting) (v i d : ℕ) (cs : List ℕ) → cs ≡ children s v → i < length cs → is_node s (get_or cs i d) ≡ true
child-node s v i d cs is lt = read-all (λ u. is_node s u ≡ true) cs i d (subst (All (λ u. is_node s u ≡ true)) (sym is) (children-nodes s v)) lt

-- no more children than nodes
pub few-children : (s : Setting) (v : ℕ) → length (children s v) ≤ length s.nodes
few-children s v =
    omega (arith, length-filter_both (λ c. (node s c).input == v) (λ c. not ((node s c).input == v)) (λ c. refl) (node_numbers s), numbers-length 1 s.nodes)
