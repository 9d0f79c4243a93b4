-- LAWS: no two files of a graph have one name.
use Rattle.std.proofs.Common.{◌≡◌, ◌≢◌, ℕ, zero, suc, ◌+◌, ◌-◌, ◌*◌, ◌%◌, ◌^◌, ◌<◌, Bool, true, false, not, ◌&&◌, eqb, List, [], ◌∷◌, ◌++◌, length, refl}
use Rattle.std.proofs.Common.{sym, ap, ◌∙◌, arith, append_assoc}
use Rattle.std.specs.Prelude.{replicate, codes}
use Rattle.std.specs.Fmt.{decimal}
use Rattle.std.proofs.lemmas.Bool.{and_parts, and_from, ne_eqb, eq-eqb, false≢true}
use Rattle.std.proofs.lemmas.Fmt.{decimal_by_steps}
use Rattle.std.proofs.lemmas.List.{append_cancel_left, append_cancel_right}
use Rattle.std.proofs.Math.Bool.{and-false}
use Rattle.graph_files.specs.OutFiles.{group_number, group_name, stats_name}

-- DIGITS

-- the number that digits stand for, after those that stand for n
read_on : ℕ → List ℕ → ℕ
read_on n [] = n
read_on n (d ∷ ds) = read_on (n * 10 + (d - 48)) ds

read_on-last : (n : ℕ) (ds : List ℕ) (d : ℕ) → read_on n (ds ++ d ∷ []) ≡ read_on n ds * 10 + (d - 48)
unfolding read_on
read_on-last n [] d = refl
read_on-last n (c ∷ ds) d = read_on-last (n * 10 + (c - 48)) ds d

read_on-decimal : (n : ℕ) → n < 2 ^ 64 → read_on 0 (decimal n) ≡ n
unfolding read_on
read_on-decimal =
    decimal_by_steps (λ n ds. read_on 0 ds ≡ n) (λ n _. omega arith)
    (λ n ds more h. read_on-last 0 ds (48 + n % 10) ∙ ap (λ m. m * 10 + (48 + n % 10 - 48)) h ∙ omega arith)

read_on-zeros : (k : ℕ) (ds : List ℕ) → read_on 0 (replicate k 48 ++ ds) ≡ read_on 0 ds
unfolding read_on
read_on-zeros zero ds = refl
read_on-zeros (suc k) ds = read_on-zeros k ds

read_on-number : (i : ℕ) → i < 2 ^ 64 → read_on 0 (group_number i) ≡ i
read_on-number i h = read_on-zeros (3 - length (decimal i)) (decimal i) ∙ read_on-decimal i h

pub numbers-differ : (i j : ℕ) → i < 2 ^ 64 → j < 2 ^ 64 → group_number i ≡ group_number j → i ≡ j
numbers-differ i j hi hj same = sym (read_on-number i hi) ∙ ap (read_on 0) same ∙ read_on-number j hj

-- UNDERSCORES

lacks : ℕ → List ℕ → Bool
lacks b [] = true
lacks b (c ∷ cs) = not (eqb c b) && lacks b cs

lacks-append : (b : ℕ) (xs ys : List ℕ) → lacks b xs ≡ true → lacks b ys ≡ true → lacks b (xs ++ ys) ≡ true
unfolding lacks
lacks-append b [] ys h g = g
lacks-append b (c ∷ xs) ys h g = let p = and_parts (not (eqb c b)) (lacks b xs) h in and_from _ _ p.0 (lacks-append b xs ys p.1 g)

lacks-not : (b : ℕ) (xs ys : List ℕ) → lacks b (xs ++ b ∷ ys) ≡ false
unfolding lacks
lacks-not b [] ys = ap (λ t. not t && lacks b ys) (eq-eqb b b refl)
lacks-not b (c ∷ xs) ys = ap (λ t. not (eqb c b) && t) (lacks-not b xs ys) ∙ and-false (not (eqb c b))

lacks-digit : (d : ℕ) → d < 10 → lacks 95 ((48 + d) ∷ []) ≡ true
unfolding lacks
lacks-digit d h = let ne : 48 + d ≢ 95 = omega arith in rw (ne_eqb (48 + d) 95 ne) refl

lacks-decimal : (n : ℕ) → n < 2 ^ 64 → lacks 95 (decimal n) ≡ true
lacks-decimal =
    decimal_by_steps (λ n ds. lacks 95 ds ≡ true) (λ n h. lacks-digit n h)
    (λ n ds _ h. lacks-append 95 ds ((48 + n % 10) ∷ []) h (lacks-digit (n % 10) (omega arith)))

lacks-zeros : (k : ℕ) (ds : List ℕ) → lacks 95 ds ≡ true → lacks 95 (replicate k 48 ++ ds) ≡ true
unfolding lacks
lacks-zeros zero ds h = h
lacks-zeros (suc k) ds h = lacks-zeros k ds h

lacks-end : (i : ℕ) → i < 2 ^ 64 → lacks 95 (group_number i ++ codes ".nc") ≡ true
unfolding lacks
lacks-end i h = lacks-append 95 (group_number i) (codes ".nc") (lacks-zeros (3 - length (decimal i)) (decimal i) (lacks-decimal i h)) refl

-- what stands before and behind the last b of a list is told by the list
parted : (b : ℕ) (xs ys vs ws : List ℕ) → lacks b ys ≡ true → lacks b ws ≡ true → xs ++ b ∷ ys ≡ vs ++ b ∷ ws → (xs ≡ vs) × (ys ≡ ws)
parted b [] ys [] ws hy hw same = (refl, (let e : b ∷ ys ≡ b ∷ ws = same in cc))
parted b [] ys (v ∷ vs) ws hy hw same =
    let e : b ∷ ys ≡ v ∷ (vs ++ b ∷ ws) = same in
    let rest : ys ≡ vs ++ b ∷ ws = cc in
    absurd (false≢true (sym (lacks-not b vs ws) ∙ ap (lacks b) (sym rest) ∙ hy))
parted b (x ∷ xs) ys [] ws hy hw same =
    let e : x ∷ (xs ++ b ∷ ys) ≡ b ∷ ws = same in
    let rest : xs ++ b ∷ ys ≡ ws = cc in
    absurd (false≢true (sym (lacks-not b xs ys) ∙ ap (lacks b) rest ∙ hw))
parted b (x ∷ xs) ys (v ∷ vs) ws hy hw same =
    let e : x ∷ (xs ++ b ∷ ys) ≡ v ∷ (vs ++ b ∷ ws) = same in
    let first : x ≡ v = cc in
    let rest : xs ++ b ∷ ys ≡ vs ++ b ∷ ws = cc in
    let p = parted b xs ys vs ws hy hw rest in
    ((let q : xs ≡ vs = p.0 in cc), p.1)

-- FILES OF GROUPS

regroup : (prefix node : List ℕ) (i : ℕ) → group_name prefix node i ≡ (prefix ++ node) ++ 95 ∷ (group_number i ++ codes ".nc")
regroup prefix node i =
    append_assoc (prefix ++ node ++ codes "_") (group_number i) (codes ".nc") ∙ append_assoc (prefix ++ node) (codes "_") (group_number i ++ codes ".nc")

-- two names of files are those of one node and one group
pub names-differ : (prefix m n : List ℕ) (i j : ℕ) → i < 2 ^ 64 → j < 2 ^ 64 → group_name prefix m i ≡ group_name prefix n j → (m ≡ n) × (i ≡ j)
names-differ prefix m n i j hi hj same =
    let p = parted 95 (prefix ++ m) (group_number i ++ codes ".nc") (prefix ++ n) (group_number j ++ codes ".nc") (lacks-end i hi) (lacks-end j hj)
    (sym (regroup prefix m i) ∙ same ∙ regroup prefix n j) in
    (append_cancel_left prefix m n p.0, numbers-differ i j hi hj (append_cancel_right (group_number i) (group_number j) (codes ".nc") p.1))

-- and no file of a group is one of statistics
last_of : List ℕ → ℕ
last_of [] = 0
last_of (c ∷ []) = c
last_of (c ∷ d ∷ cs) = last_of (d ∷ cs)

last_of-append : (xs : List ℕ) (c : ℕ) (cs : List ℕ) → last_of (xs ++ c ∷ cs) ≡ last_of (c ∷ cs)
unfolding last_of
last_of-append [] c cs = refl
last_of-append (x ∷ []) c cs = refl
last_of-append (x ∷ y ∷ xs) c cs = last_of-append (y ∷ xs) c cs

pub stats-differ : (prefix m n : List ℕ) (i : ℕ) → group_name prefix m i ≢ stats_name prefix n
unfolding last_of
stats-differ prefix m n i same =
    let left : last_of (group_name prefix m i) ≡ 99 = last_of-append (prefix ++ m ++ codes "_" ++ group_number i) 46 (110 ∷ 99 ∷ []) in
    let right : last_of (stats_name prefix n) ≡ 116 = last_of-append (prefix ++ n) 46 (116 ∷ 120 ∷ 116 ∷ []) in
    let e : 99 ≡ 116 = sym left ∙ ap last_of same ∙ right in
    absurd (omega (arith, e))

pub stats_names-differ : (prefix m n : List ℕ) → stats_name prefix m ≡ stats_name prefix n → m ≡ n
stats_names-differ prefix m n same = append_cancel_left prefix m n (append_cancel_right (prefix ++ m) (prefix ++ n) (codes ".txt") same)
