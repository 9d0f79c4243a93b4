-- The seats of passes that were dealt out, and what is gathered of seats.
use Rattle.std.proofs.Common.{◌≡◌, ℕ, zero, suc, ◌+◌, ◌<◌, List, [], ◌∷◌, ◌++◌, drop, get_or, map, length, refl, sym, ap, ◌∙◌, subst, arith, Option, Some, None}
use Rattle.std.specs.Prelude.{slice_get}
use Rattle.std.proofs.lemmas.List.{append_assoc, append-nil}
use Rattle.std.proofs.Math.Seq.{drop-cons}
use Rattle.nd_base.specs.Array.{StackValue}
use Rattle.nd_base.specs.declared.graph.Graph.{Graph}
use Rattle.frame_store.specs.Sealed.{Sealed}
use Rattle.flow_journal.specs.Setting.{Setting, last_role}
use Rattle.board_rules.specs.RunMeasures.{run_setting}
use Rattle.flow_roles.specs.Passes.{Pass}
use Rattle.flow_roles.specs.RoleMoves.{feeder_logs, worker_logs, saver_logs, IsFresh}
use Rattle.flow_roles.proofs.RoleCalls.{fresh-nothing}
use Rattle.board_cases.specs.declared.seats.Feeder.{Feeder}
use Rattle.board_cases.specs.declared.seats.Job.{Job}
use Rattle.board_cases.specs.declared.seats.Worker.{Worker}
use Rattle.board_cases.specs.declared.seats.Saver.{Saver}
use Rattle.board_cases.specs.declared.seats.Seats.{Seats}
use Rattle.flow_roles.specs.Workers.{workers}
use Rattle.board_cases.specs.Seats.{HoldsJob, IsFeeding, IsWorking, IsSaving, AreSeated, workers_of}
use Rattle.flow_roles.proofs.Lists.{at-front, at-end}
use Rattle.flow_roles.proofs.Workers.{worker-node, workers-many}

-- THE LOOP

-- the workers that have a seat, and those that are to come
abbrev pub Seating : {F P : Type 0} → (nodes : List ℕ) → (all rest : List P) → (made : ℕ) → List (Worker F P) → Type 0
Seating nodes all rest made ws = ws ++ workers_of (drop made nodes) rest ≡ workers_of nodes all

pub seating-next : {F P : Type 0} (nodes : List ℕ) (all rest more : List P) (made : ℕ) (ws : List (Worker F P)) (p : P) (v : ℕ) → rest ≡ p ∷ more
    → made < length nodes → v ≡ get_or nodes made v
    → Seating nodes all rest made ws → Seating nodes all more (made + 1) (ws ++ record { node = v; pass = p; job = None } ∷ [])
seating-next {F} {P} nodes all rest more made ws p v is low node h =
    let one : suc made ≡ made + 1 = omega arith in
    let w : Worker F P = record { node = v; pass = p; job = None } in
    let split : drop made nodes ≡ v ∷ drop (made + 1) nodes =
    drop-cons nodes made v low ∙ (ap (λ (u : ℕ). u ∷ drop (suc made) nodes) (sym node) ∙ ap (λ (k : ℕ). v ∷ drop k nodes) one) in
    let next : workers_of {F = F} {P = P} (drop made nodes) rest ≡ w ∷ workers_of (drop (made + 1) nodes) more =
    ap (λ (ps : List P). workers_of {F = F} {P = P} (drop made nodes) ps) is ∙ ap (λ (vs : List ℕ). workers_of {F = F} {P = P} vs (p ∷ more)) split in
    append_assoc ws (w ∷ []) (workers_of (drop (made + 1) nodes) more) ∙ (sym (ap (λ (xs : List (Worker F P)). ws ++ xs) next) ∙ h)

none-from : {F P : Type 0} (nodes : List ℕ) → workers_of {F = F} {P = P} nodes [] ≡ []
none-from [] = refl
none-from (v ∷ vs) = refl

pub seating-all : {F P : Type 0} (nodes : List ℕ) (all rest : List P) (made : ℕ) (ws : List (Worker F P)) → rest ≡ []
    → Seating nodes all rest made ws → ws ≡ workers_of nodes all
seating-all {F} {P} nodes all rest made ws none h =
    sym (append-nil ws)
    ∙ (sym
    (ap (λ (xs : List (Worker F P)). ws ++ xs) (ap (λ (ps : List P). workers_of {F = F} {P = P} (drop made nodes) ps) none ∙ none-from (drop made nodes))) ∙ h)

-- THE SEATS

-- the node and the pass of each worker
workers-at : {F P : Type 0} (nodes : List ℕ) (ps : List P) (k : ℕ) (w : Worker F P) → slice_get (workers_of nodes ps) k ≡ Some w
    → (slice_get nodes k ≡ Some w.node) × (slice_get ps k ≡ Some w.pass) × (w.job ≡ None)
workers-at [] ps k w h = cc
workers-at (v ∷ vs) [] k w h = cc
workers-at {F} {P} (v ∷ vs) (p ∷ ps) zero w h =
    let is : record { node = v; pass = p; job = None } ≡ w = cc in
    (ap (λ (x : Worker F P). Some x.node) is, ap (λ (x : Worker F P). Some x.pass) is, sym (ap (λ (x : Worker F P). x.job) is))
workers-at (v ∷ vs) (p ∷ ps) (suc k) w h = workers-at vs ps k w h

workers-length : (F P : Type 0) (nodes : List ℕ) (ps : List P) → length ps ≡ length nodes → length (workers_of {F = F} {P = P} nodes ps) ≡ length nodes
workers-length F P [] ps many = refl
workers-length F P (v ∷ nodes) [] many = absurd (omega (arith, many))
workers-length F P (v ∷ nodes) (p ∷ ps) many = ap suc (workers-length F P nodes ps (omega (arith, many)))

module _ {P : Type 0} (ours : P → Type 0) (knows : P → Pass) (g : Graph) (stack : StackValue) (all front rest : List P)
    (first last : P) (whole : all ≡ front ++ last ∷ []) (begins : front ≡ first ∷ rest)
    (many : length rest ≡ length (workers (run_setting g stack))) (fresh : (k : ℕ) (p : P) → slice_get all k ≡ Some p → ours p × IsFresh k (knows p)) where
  abbrev s : Setting
  s = run_setting g stack

  all-is : all ≡ first ∷ (rest ++ last ∷ [])
  all-is = whole ∙ ap (λ (ps : List P). ps ++ last ∷ []) begins

  first-fresh : ours first × IsFresh 0 (knows first)
  first-fresh = fresh 0 first (ap (λ (ps : List P). slice_get ps 0) all-is)

  rest-fresh : (k : ℕ) (p : P) → slice_get rest k ≡ Some p → ours p × IsFresh (suc k) (knows p)
  rest-fresh k p at = fresh (suc k) p (ap (λ (ps : List P). slice_get ps (suc k)) all-is ∙ at-front rest (last ∷ []) k p at)

  last-fresh : ours last × IsFresh (last_role s) (knows last)
  last-fresh =
      let role : suc (length rest) ≡ last_role s = omega (arith, many, workers-many s) in
      let f = fresh (suc (length rest)) last (ap (λ (ps : List P). slice_get ps (suc (length rest))) all-is ∙ at-end rest last) in
      (f.0, subst (λ (r : ℕ). IsFresh r (knows last)) role f.1)

  worker-seated : (k : ℕ) (w : Worker Sealed P) → slice_get (workers_of (workers s) rest) k ≡ Some w → IsWorking ours knows g stack (suc k) w
  worker-seated k w at =
      let i = workers-at (workers s) rest k w at in
      let f = rest-fresh k w.pass i.1 in
      record {
        ours_ = f.0;
        node = worker-node s k w.node i.0;
        holds =
            subst (λ (o : Option (Job Sealed)). HoldsJob g stack (suc k) w.node (knows w.pass) o) (sym i.2)
            (fresh-nothing (worker_logs w.node) (suc k) (knows w.pass) f.1);
      }

  pub seated : (x : Seats Sealed P) → x.feeder ≡ record { pass = first; frame = None } → x.workers.items ≡ workers_of (workers s) rest
      → x.saver ≡ record { pass = last; piece = None }
      → AreSeated ours knows g stack x
  seated x feeder ws saver =
      let n : length x.workers.items ≡ length (workers s) = ap length ws ∙ workers-length Sealed P (workers s) rest many in
      record {
        feeder =
            subst (λ (y : Feeder P). IsFeeding ours knows g stack y) (sym feeder)
            (record { ours_ = first-fresh.0; holds = fresh-nothing feeder_logs 0 (knows first) first-fresh.1 });
        many = omega (arith, n, workers-many s);
        workers = λ k w at. worker-seated k w (sym (ap (λ (vs : List (Worker Sealed P)). slice_get vs k) ws) ∙ at);
        saver =
            subst (λ (y : Saver Sealed P). IsSaving ours knows g stack y) (sym saver)
            (record { ours_ = last-fresh.0; holds = fresh-nothing saver_logs (last_role s) (knows last) last-fresh.1 });
      }

-- GATHERING

-- what was gathered of some, and is to be gathered of the others
abbrev pub Gathering : {X Y : Type 0} → (f : X → Y) → (all rest : List X) → (first : Y) → List Y → Type 0
Gathering f all rest first ys = ys ++ map f rest ≡ first ∷ map f all

pub gathering-next : {X Y : Type 0} (f : X → Y) (all rest more : List X) (first : Y) (ys : List Y) (x : X) (y : Y) → rest ≡ x ∷ more → y ≡ f x
    → Gathering f all rest first ys → Gathering f all more first (ys ++ y ∷ [])
gathering-next {X} {Y} f all rest more first ys x y is made h =
    append_assoc ys (y ∷ []) (map f more)
    ∙ (ap (λ (z : Y). ys ++ z ∷ map f more) made ∙ (sym (ap (λ (xs : List X). ys ++ map f xs) is) ∙ h))

pub gathering-all : {X Y : Type 0} (f : X → Y) (all rest : List X) (first : Y) (ys : List Y) → rest ≡ []
    → Gathering f all rest first ys → ys ≡ first ∷ map f all
gathering-all {X} {Y} f all rest first ys none h = sym (append-nil ys) ∙ (sym (ap (λ (xs : List X). ys ++ map f xs) none) ∙ h)
