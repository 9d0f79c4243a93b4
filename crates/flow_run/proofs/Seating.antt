-- The seats of the feeder and the workers: before they begin, and once they are back.
use Rattle.std.proofs.Common.{◌≡◌, ℕ, zero, suc, ◌+◌, ◌<◌, ◌≤◌, true, List, [], ◌∷◌, ◌++◌, length, take, drop, refl, sym, ap, ◌∙◌, subst, arith, Some}
use Rattle.std.specs.Prelude.{slice_get, slice_index_or}
use Rattle.std.specs.List.{list_all}
use Rattle.std.proofs.lemmas.Option.{get_or_from_slice_get, slice_get-get_or, slice_get_within}
use Rattle.frame_store.specs.Sealed.{Sealed}
use Rattle.nd_base.specs.Array.{StackValue}
use Rattle.nd_base.specs.declared.graph.Graph.{Graph}
use Rattle.flow_journal.specs.Setting.{Setting, is_node, last_role}
use Rattle.flow_journal.specs.Hands.{hand}
use Rattle.board_rules.specs.States.{past, lent_to}
use Rattle.board_rules.specs.InHand.{IsOfHand}
use Rattle.board_rules.specs.RunMeasures.{run_setting}
use Rattle.flow_roles.specs.declared.role_end.RoleEnd.{RoleEnd}
use Rattle.flow_roles.specs.Passes.{Pass}
use Rattle.flow_roles.specs.RoleMoves.{worker_logs, IsFresh}
use Rattle.flow_roles.specs.RoleEnds.{worker_ends, MayComeBack}
use Rattle.flow_roles.specs.Feeder.{name_of, parts_of}
use Rattle.flow_drain.proofs.Rounds.{node-above}
use Rattle.flow_roles.specs.Workers.{workers, posts}
use Rattle.flow_run.specs.declared.seats.Seat.{Seat}
use Rattle.flow_run.specs.declared.seats.Seat.TheVariants.{Ready, Away, Back}
use Rattle.flow_run.specs.Seats.{IsRoleEnd, seats_from, is_back, ends_of, IsReady, IsBack, AreReady, AreBack, IsWorker, SomeWorker, HasWorked}
use Rattle.flow_roles.proofs.Workers.{worker-node, workers-many}
use Rattle.flow_roles.proofs.Lists.{at-front, at-end}

-- BEFORE

module _ {O P : Type 0} (ours : P → Type 0) (knows : P → Pass) where
  pub ready-from : (r : ℕ) (posts : List ℕ) (ps : List P) → ((k : ℕ) (p : P) → slice_get ps k ≡ Some p → ours p × IsFresh (r + k) (knows p))
      → AreReady {O = O} ours knows r posts (seats_from r posts ps)
  ready-from r [] ps fresh k v x at is = cc
  ready-from r (w ∷ posts) [] fresh k v x at is = cc
  ready-from r (w ∷ posts) (p ∷ ps) fresh zero v x at is =
      let node : w ≡ v = cc in
      let seat : Ready r w p ≡ x = cc in
      let f = fresh 0 p refl in
      let role : r ≡ r + 0 = omega arith in
      subst (λ (y : Seat Sealed P (List ℕ) O). IsReady ours knows (r + 0) v y) seat (role, node, f.0, f.1)
  ready-from r (w ∷ posts) (p ∷ ps) fresh (suc k) v x at is =
      let step : (j : ℕ) → r + suc j ≡ (r + 1) + j = λ j. omega arith in
      subst (λ (q : ℕ). IsReady ours knows q v x) (sym (step k))
      (ready-from (r + 1) posts ps (λ j q here. let f = fresh (suc j) q here in (f.0, subst (λ (i : ℕ). IsFresh i (knows q)) (step j) f.1)) k v x at is)

  -- AFTERWARDS

  -- the ends of roles that are back, one each
  pub record AreEnds (s : Setting) (r : ℕ) (posts : List ℕ) (xs : List (Seat Sealed P (List ℕ) O)) : Type 0 where
    pub all : list_all is_back xs ≡ true
    pub many : length (ends_of xs) ≡ length xs
    pub each : (k v : ℕ) (e : RoleEnd Sealed P (List ℕ) O) → slice_get posts k ≡ Some v → slice_get (ends_of xs) k ≡ Some e
        → ours e.pass × IsRoleEnd s (r + k) v (knows e.pass) e.left e.want
    pub seats : (k : ℕ) (e : RoleEnd Sealed P (List ℕ) O) → slice_get (ends_of xs) k ≡ Some e → slice_get xs k ≡ Some (Back e)

  pub ends-from : (s : Setting) (r : ℕ) (posts : List ℕ) (xs : List (Seat Sealed P (List ℕ) O)) → length xs ≡ length posts
      → AreBack ours knows s r posts xs → AreEnds s r posts xs
  ends-from s r posts [] many back = record { all = refl; many = refl; each = λ k v e at is. cc; seats = λ k e is. cc }
  ends-from s r [] (x ∷ xs) many back = absurd (omega (arith, many))
  ends-from s r (w ∷ posts) (Ready role node pass ∷ xs) many back = absurd (back 0 w (Ready role node pass) refl refl)
  ends-from s r (w ∷ posts) (Away ∷ xs) many back = absurd (back 0 w Away refl refl)
  ends-from s r (w ∷ posts) (Back end ∷ xs) many back =
      let step : (j : ℕ) → r + suc j ≡ (r + 1) + j = λ j. omega arith in
      let rest =
      ends-from s (r + 1) posts xs (omega (arith, many)) (λ k v x at is. subst (λ (q : ℕ). IsBack ours knows s q v x) (step k) (back (suc k) v x at is)) in
      record {
        all = rest.all;
        many = ap suc rest.many;
        each = one step rest;
        seats = seat rest;
      }
    where
      one : ((j : ℕ) → r + suc j ≡ (r + 1) + j) → AreEnds s (r + 1) posts xs → (k v : ℕ) (e : RoleEnd Sealed P (List ℕ) O) → slice_get (w ∷ posts) k ≡ Some v
          → slice_get (end ∷ ends_of xs) k ≡ Some e
          → ours e.pass × IsRoleEnd s (r + k) v (knows e.pass) e.left e.want
      one step rest zero v e at is =
          let node : w ≡ v = cc in
          let same : end ≡ e = cc in
          subst (λ (d : RoleEnd Sealed P (List ℕ) O). ours d.pass × IsRoleEnd s (r + 0) v (knows d.pass) d.left d.want) same (back 0 v (Back end) at refl)
      one step rest (suc k) v e at is =
          subst (λ (q : ℕ). ours e.pass × IsRoleEnd s q v (knows e.pass) e.left e.want) (sym (step k)) (rest.each k v e at is)

      seat : AreEnds s (r + 1) posts xs → (k : ℕ) (e : RoleEnd Sealed P (List ℕ) O) → slice_get (end ∷ ends_of xs) k ≡ Some e
          → slice_get (Back end ∷ xs) k ≡ Some (Back e)
      seat rest zero e is = let same : end ≡ e = cc in ap (λ (d : RoleEnd Sealed P (List ℕ) O). Some (Back d)) same
      seat rest (suc k) e is = rest.seats k e is

-- AT WORK

-- what a worker's seat has once it has worked
pub worked : {O P : Type 0} (ours : P → Type 0) (knows : P → Pass) (s : Setting) (role node : ℕ) (begins : P) (end : RoleEnd Sealed P (List ℕ) O)
    → ours end.pass → (knows end.pass).role ≡ role
    → list_all (worker_logs node) (past (knows end.pass).made) ≡ true → worker_ends node (knows end.pass).said.last (past (knows end.pass).seen) end.want ≡ true
    → IsOfHand name_of parts_of length (lent_to role (knows end.pass).made) (hand role (past (knows end.pass).made))
    end.left.input end.left.made end.left.blank
    → MayComeBack name_of parts_of length s role (knows end.pass).made end.left → (r v : ℕ) → IsWorker {O = O} ours knows s r v (Ready role node begins)
    → IsBack ours knows s r v (Back end)
worked ours knows s role zero begins end own is moves ends handed back r v w =
    absurd (let a = node-above s 0 (subst (λ (u : ℕ). is_node s u ≡ true) (sym w.3.1) w.2) in let b = a.0 in omega (arith, b))
worked {O} {P} ours knows s role (suc node) begins end own is moves ends handed back r v w =
    let here : IsBack {O = O} ours knows s role (suc node) (Back end) = (own, record { role = is; moves = moves; last = ends; handed = handed; reclaimed = back }) in
    subst (λ (u : ℕ). IsBack {O = O} ours knows s r u (Back end)) w.3.1 (subst (λ (q : ℕ). IsBack {O = O} ours knows s q (suc node) (Back end)) w.3.0 here)

module _ {O P : Type 0} (ours : P → Type 0) (knows : P → Pass) (g : Graph) (stack : StackValue) (xs : List (Seat Sealed P (List ℕ) O))
    (many : length xs ≡ length (workers (run_setting g stack)))
    (ready : AreReady {O = O} ours knows 1 (workers (run_setting g stack)) xs) where
  abbrev s : Setting
  s = run_setting g stack

  listed-at : (k : ℕ) (ys : List ℕ) → k < length ys → (v : ℕ) × (slice_get ys k ≡ Some v)
  listed-at k [] h = absurd (omega (arith, h))
  listed-at zero (y ∷ ys) h = (y, refl)
  listed-at (suc k) (y ∷ ys) h = listed-at k ys (omega (arith, h))

  pub worker-at : (k : ℕ) (x : Seat Sealed P (List ℕ) O) → slice_get xs k ≡ Some x → (v : ℕ) → slice_get (workers s) k ≡ Some v
      → IsWorker {O = O} ours knows s (1 + k) v x
  worker-at k x at v is =
      let low = slice_get_within (workers s) k v is in
      let below_ : 1 + k < last_role s = omega (arith, low, workers-many s) in
      let one : 1 ≤ 1 + k = omega arith in
      (one, below_, worker-node s k v is, ready k v x is at)

  -- each seat is that of a worker
  pub some-worker : (k : ℕ) (x : Seat Sealed P (List ℕ) O) → k < length xs → x ≡ slice_index_or xs k x → SomeWorker {O = O} ours knows s x
  some-worker k x low is =
      let v = listed-at k (workers s) (omega (arith, low, many)) in
      let at : slice_get xs k ≡ Some x = slice_get-get_or xs k x low ∙ ap (λ (y : Seat Sealed P (List ℕ) O). Some y) (sym is) in
      (1 + k, (v.0, worker-at k x at v.0 v.1))

  -- and what all have done
  pub all-worked : (ys : List (Seat Sealed P (List ℕ) O)) → length ys ≡ length xs
      → ((k : ℕ) (d : Seat Sealed P (List ℕ) O) → k < length xs → HasWorked {O = O} ours knows s (slice_index_or xs k d) (slice_index_or ys k d))
      → AreBack {O = O} ours knows s 1 (workers s) ys
  all-worked ys same each k v y is at =
      let low : k < length xs = omega (arith, slice_get_within ys k y at, same) in
      let x = slice_index_or xs k y in
      let here : slice_get xs k ≡ Some x = slice_get-get_or xs k y low in
      let done = each k y low (1 + k) v (worker-at k x here v is) in
      subst (λ (z : Seat Sealed P (List ℕ) O). IsBack {O = O} ours knows s (1 + k) v z) (get_or_from_slice_get ys k y y at) done

pub worked-from : {O P : Type 0} (ours : P → Type 0) (knows : P → Pass) (s : Setting) (x : Seat Sealed P (List ℕ) O)
    (role node : ℕ) (begins : P) (end : RoleEnd Sealed P (List ℕ) O) → x ≡ Ready role node begins
    → ours end.pass → (knows end.pass).role ≡ role
    → list_all (worker_logs node) (past (knows end.pass).made) ≡ true → worker_ends node (knows end.pass).said.last (past (knows end.pass).seen) end.want ≡ true
    → IsOfHand name_of parts_of length (lent_to role (knows end.pass).made) (hand role (past (knows end.pass).made))
    end.left.input end.left.made end.left.blank
    → MayComeBack name_of parts_of length s role (knows end.pass).made end.left → (r v : ℕ) → IsWorker {O = O} ours knows s r v x
    → IsBack ours knows s r v (Back end)
worked-from {O} {P} ours knows s x role node begins end same own is moves ends handed back r v w =
    worked ours knows s role node begins end own is moves ends handed back r v (subst (λ (y : Seat Sealed P (List ℕ) O). IsWorker {O = O} ours knows s r v y) same w)

-- THE FEEDER'S SEAT BEFORE THOSE OF THE WORKERS

pub all-back : {O P : Type 0} (ours : P → Type 0) (knows : P → Pass) (s : Setting) (x : Seat Sealed P (List ℕ) O) (xs : List (Seat Sealed P (List ℕ) O))
    → IsBack {O = O} ours knows s 0 0 x
    → AreBack {O = O} ours knows s 1 (workers s) xs → AreBack {O = O} ours knows s 0 (posts s) (x ∷ xs)
all-back {O} {P} ours knows s x xs feeder rest zero v y is at =
    let same : x ≡ y = cc in
    let node : 0 ≡ v = cc in
    let role : 0 ≡ 0 + 0 = omega arith in
    subst (λ (z : Seat Sealed P (List ℕ) O). IsBack {O = O} ours knows s (0 + 0) v z) same
    (subst (λ (u : ℕ). IsBack {O = O} ours knows s (0 + 0) u x) node (subst (λ (q : ℕ). IsBack {O = O} ours knows s q 0 x) role feeder))
all-back {O} {P} ours knows s x xs feeder rest (suc k) v y is at =
    let role : 1 + k ≡ 0 + suc k = omega arith in
    subst (λ (q : ℕ). IsBack {O = O} ours knows s q v y) role (rest k v y is at)

-- what a call with a worker's seat left, said of the list
pub worked-here : {O P : Type 0} (ours : P → Type 0) (knows : P → Pass) (s : Setting) (x then_x y then_y : Seat Sealed P (List ℕ) O) → then_x ≡ x → then_y ≡ y
    → HasWorked {O = O} ours knows s then_x then_y
    → HasWorked {O = O} ours knows s x y
worked-here {O} {P} ours knows s x then_x y then_y is became h r v w =
    subst (λ (z : Seat Sealed P (List ℕ) O). IsBack {O = O} ours knows s r v z) became
    (h r v (subst (λ (z : Seat Sealed P (List ℕ) O). IsWorker {O = O} ours knows s r v z) (sym is) w))

-- DEALT OUT

module _ {P : Type 0} (all front rest : List P) (first last : P) (whole : all ≡ front ++ last ∷ []) (begins : front ≡ first ∷ rest) where
  pub first-dealt : slice_get all 0 ≡ Some first
  first-dealt = ap (λ (ps : List P). slice_get ps 0) (whole ∙ ap (λ (ps : List P). ps ++ last ∷ []) begins)

  pub rest-dealt : (k : ℕ) (p : P) → slice_get rest k ≡ Some p → slice_get all (suc k) ≡ Some p
  rest-dealt k p at = ap (λ (ps : List P). slice_get ps (suc k)) (whole ∙ ap (λ (ps : List P). ps ++ last ∷ []) begins) ∙ at-front rest (last ∷ []) k p at

  pub last-dealt : (n : ℕ) → length rest ≡ n → slice_get all (n + 1) ≡ Some last
  last-dealt n many =
      let role : n + 1 ≡ length front = omega (arith, many, ap (λ (ps : List P). length ps) begins) in
      ap (λ (ps : List P). slice_get ps (n + 1)) whole ∙ (ap (λ (k : ℕ). slice_get (front ++ last ∷ []) k) role ∙ at-end front last)

-- the workers' seats of passes that were dealt out
pub ready-dealt : {O P : Type 0} (ours : P → Type 0) (knows : P → Pass) (nodes : List ℕ) (ps : List P)
    → ((k : ℕ) (p : P) → slice_get ps k ≡ Some p → ours p × IsFresh (suc k) (knows p))
    → AreReady {O = O} ours knows 1 nodes (seats_from 1 nodes ps)
ready-dealt {O} {P} ours knows nodes ps fresh =
    ready-from ours knows 1 nodes ps (λ k p at. let f = fresh k p at in let same_ : suc k ≡ 1 + k = omega arith in
    (f.0, subst (λ (r : ℕ). IsFresh r (knows p)) same_ f.1))

-- WHAT WAS WRITTEN THROUGH A SLICE OF A LIST, ALL OF IT

take-front : {X : Type 0} (xs ys : List X) → take (length xs) (xs ++ ys) ≡ xs
take-front [] ys = refl
take-front (x ∷ xs) ys = ap (λ (zs : List _). x ∷ zs) (take-front xs ys)

pub in-slice : {X : Type 0} (xs given : List X) (n k : ℕ) (x : X) → n ≡ length xs → length given ≡ length xs
    → slice_get (take n (given ++ drop (length given) xs)) k ≡ Some x → slice_get given k ≡ Some x
in-slice {X} xs given n k x many same at =
    let whole : take n (given ++ drop (length given) xs) ≡ given =
    ap (λ (m : ℕ). take m (given ++ drop (length given) xs)) (many ∙ sym same) ∙ take-front given (drop (length given) xs) in
    sym (ap (λ (ys : List X). slice_get ys k) whole) ∙ at
