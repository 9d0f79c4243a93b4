-- That the walk of as many steps as there are nodes finds the nodes that never reach the driver.
use Rattle.std.proofs.Common.{◌≡◌, ◌≢◌, ◌+◌, ◌<◌, ◌≤◌, ◌&&◌, ◌||◌, ◌==◌, not, ℕ, zero, suc, List, [], ◌∷◌, Bool, true, false, Option, Some, None, Result, Ok, Err}
use Rattle.std.proofs.Common.{codes, length, cond, inl, inr, refl, ap, sym, ◌∙◌, subst, arith, eqb, nat_lt}
use Rattle.std.specs.Prelude.{unwrap_or}
use Rattle.std.specs.List.{AllByRecursion, list_any, position_from, slice_get, IsDistinct}
use Rattle.std.specs.Str.{bytes_eq}
use Rattle.std.proofs.lemmas.Bool.{cases_Bool, eqb-true, eqb-false, eq-eqb, ne_eqb, ltb-true, ltb-false, not-true, not-false}
use Rattle.std.proofs.lemmas.Map.Keys.{IsDistinct-cons}
use Rattle.std.proofs.lemmas.Map.Steps.{length-le_from_distinct_below}
use Rattle.graph_conf.specs.Named.{Named}
use Rattle.nd_base.specs.GraphRules.{may_feed}
use Rattle.graph_conf.specs.Graphs.{first_place, has_name, input_numbers, input_number, input_of, source_of, is_circular}
use Rattle.graph_conf.specs.Cycles.{Reaches, from_driver, from_node, IsCutOff}
use Rattle.graph_conf.proofs.Sound.{driver_stays, Fed, all_fed, known, listed}

-- WALKS

stays : (inputs : List ℕ) (steps n v : ℕ) → steps ≤ n → source_of inputs steps v ≡ 0 → source_of inputs n v ≡ 0
stays inputs zero n v within h = ap (source_of inputs n) h ∙ driver_stays inputs n
stays inputs (suc steps) zero v within h = absurd (omega (arith, within))
stays inputs (suc steps) (suc n) v within h = stays inputs steps n (input_of inputs v) (omega (arith, within)) h

-- just so many steps lead to the driver
abbrev Leads : List ℕ → (steps v : ℕ) → Type 0
Leads inputs steps v = (source_of inputs steps v ≡ 0) × ((j : ℕ) → j < steps → source_of inputs j v ≢ 0)

record Nearer (inputs : List ℕ) (steps k : ℕ) : Type 0 where
  within : k < length inputs
  count : ℕ
  less : count ≤ steps
  leads : Leads inputs count (suc k)

-- the nodes on the way, no two the same
record Way (inputs : List ℕ) (v : ℕ) : Type 0 where
  steps : ℕ
  leads : Leads inputs steps v
  places : List ℕ
  many : length places ≡ steps
  distinct : IsDistinct eqb places
  nearer : AllByRecursion (Nearer inputs steps) places

no_way : (inputs : List ℕ) → Way inputs 0
unfolding IsDistinct
no_way inputs = record { steps = 0; leads = (refl, λ j below. absurd (omega (arith, below))); places = []; many = refl; distinct = tt; nearer = tt }

farther : (inputs : List ℕ) (steps : ℕ) (ks : List ℕ) → AllByRecursion (Nearer inputs steps) ks → AllByRecursion (Nearer inputs (suc steps)) ks
farther inputs steps [] h = tt
farther inputs steps (k ∷ ks) h =
    (record { within = h.0.within; count = h.0.count; less = omega (arith, h.0.less); leads = h.0.leads }, farther inputs steps ks h.1)

apart : (inputs : List ℕ) (steps k : ℕ) (ks : List ℕ) → Leads inputs (suc steps) (suc k) → AllByRecursion (Nearer inputs steps) ks
    → AllByRecursion (λ j. eqb k j ≡ false) ks
apart inputs steps k [] leads h = tt
apart inputs steps k (j ∷ ks) leads h =
    let near = h.0 in (
      ne_eqb k j (λ same. leads.1 near.count (omega (arith, near.less)) (ap (λ i. source_of inputs near.count (suc i)) same ∙ near.leads.0)),
      apart inputs steps k ks leads h.1,
    )

got_within : (xs : List ℕ) (k v : ℕ) → slice_get xs k ≡ Some v → k < length xs
got_within [] k v is = absurd (cc)
got_within (x ∷ xs) zero v is = omega arith
got_within (x ∷ xs) (suc k) v is = omega (arith, got_within xs k v is)

one_more : (inputs : List ℕ) (k v : ℕ) → slice_get inputs k ≡ Some v → Way inputs v → Way inputs (suc k)
one_more inputs k v is way =
    let input : input_of inputs (suc k) ≡ v = ap (λ o. unwrap_or o 0) is in
    let not_yet : (j : ℕ) → j < suc way.steps → source_of inputs j (suc k) ≢ 0 = later k v input way.steps way.leads.1 in
    let leads : Leads inputs (suc way.steps) (suc k) = (ap (source_of inputs way.steps) input ∙ way.leads.0, not_yet) in
    record {
      steps = suc way.steps;
      leads = leads;
      places = k ∷ way.places;
      many = ap suc way.many;
      distinct = IsDistinct-cons eqb k way.places (apart inputs way.steps k way.places leads way.nearer) way.distinct;
      nearer = (
        record { within = got_within inputs k v is; count = suc way.steps; less = omega arith; leads = leads },
        farther inputs way.steps way.places way.nearer,
      );
    }
  where
    later : (k v : ℕ) → input_of inputs (suc k) ≡ v → (steps : ℕ) → ((j : ℕ) → j < steps → source_of inputs j v ≢ 0)
        → (j : ℕ) → j < suc steps → source_of inputs j (suc k) ≢ 0
    later k v input steps h zero below = λ e. absurd (omega (arith, e))
    later k v input steps h (suc j) below = λ e. h j (omega (arith, below)) (sym (ap (source_of inputs j) input) ∙ e)

way_of : (inputs : List ℕ) {v : ℕ} → Reaches inputs v → Way inputs v
way_of inputs (from_driver k is) = one_more inputs k 0 is (no_way inputs)
way_of inputs (from_node k v is reaches) = one_more inputs k v is (way_of inputs reaches)

has_near : (inputs : List ℕ) (steps q : ℕ) (ks : List ℕ) → AllByRecursion (Nearer inputs steps) ks → list_any (eqb q) ks ≡ true → q < length inputs
has_near inputs steps q [] h has = absurd (cc)
has_near inputs steps q (k ∷ ks) h has =
    elim (cases_Bool (eqb q k)) [
      | inl same ↦ subst (λ i. i < length inputs) (sym (eqb-true q k same)) h.0.within
      | inr other ↦ has_near inputs steps q ks h.1 (sym (ap (λ b. b || list_any (eqb q) ks) other) ∙ has)
    ]

-- A node that reaches the driver does so within as many steps as there are nodes.
pub walked : (inputs : List ℕ) (v : ℕ) → Reaches inputs v → source_of inputs (length inputs) v ≡ 0
walked inputs v reaches =
    let way = way_of inputs reaches in
    let few : length way.places ≤ length inputs =
    length-le_from_distinct_below way.places (length inputs) way.distinct (λ q. has_near inputs way.steps q way.places way.nearer) in
    stays inputs way.steps (length inputs) v (omega (arith, few, way.many)) way.leads.0

-- each input is the driver's or a node's
abbrev pub AreWithin : List ℕ → Type 0
AreWithin inputs = (k v : ℕ) → slice_get inputs k ≡ Some v → v ≤ length inputs

has_input : (xs : List ℕ) (k : ℕ) → k < length xs → slice_get xs k ≡ Some (unwrap_or (slice_get xs k) 0)
has_input [] k within = absurd (omega (arith, within))
has_input (x ∷ xs) zero within = refl
has_input (x ∷ xs) (suc k) within = has_input xs k (omega (arith, within))

onwards : (inputs : List ℕ) → AreWithin inputs → (steps k : ℕ)
    → ((j : ℕ) → j < length inputs → source_of inputs steps (suc j) ≡ 0 → Reaches inputs (suc j))
    → (v : ℕ) → slice_get inputs k ≡ Some v → source_of inputs steps v ≡ 0 → Reaches inputs (suc k)
onwards inputs inside steps k next zero is more = from_driver k is
onwards inputs inside steps k next (suc j) is more = from_node k (suc j) is (next j (omega (arith, inside k (suc j) is)) more)

pub reached : (inputs : List ℕ) → AreWithin inputs → (steps k : ℕ) → k < length inputs → source_of inputs steps (suc k) ≡ 0 → Reaches inputs (suc k)
reached inputs inside zero k within h = let never : suc k ≡ 0 = h in absurd (omega (arith, never))
reached inputs inside (suc steps) k within h =
    onwards inputs inside steps k (reached inputs inside steps) (input_of inputs (suc k)) (has_input inputs k within) h

-- THE FIRST PLACE

above : (k i : ℕ) → k ≤ i → k ≢ i → k + 1 ≤ i
above k i least apart =
    elim (cases_Bool (nat_lt k i)) [
      | inl less ↦ omega (arith, ltb-true k i less)
      | inr over ↦ let same : k ≡ i = omega (arith, least, ltb-false k i over) in absurd (apart same)
    ]

before : (test : ℕ → Bool) (k j : ℕ) → test k ≡ false → ((i : ℕ) → k + 1 ≤ i → i < j → test i ≡ false) → (i : ℕ) → k ≤ i → i < j → test i ≡ false
before test k j fails earlier i least under =
    elim (cases_Bool (eqb k i)) [
      | inl same ↦ ap test (sym (eqb-true k i same)) ∙ fails
      | inr other ↦ earlier i (above k i least (eqb-false k i other)) under
    ]

pub place_found : (test : ℕ → Bool) (k n j : ℕ) → first_place test k n ≡ Some j →
    (k ≤ j) × (j < k + n) × (test j ≡ true) × ((i : ℕ) → k ≤ i → i < j → test i ≡ false)
place_found test k zero j h = absurd (cc)
place_found test k (suc n) j h =
    elim (cases_Bool (test k)) [
      | inl holds ↦
          let e : Some k ≡ Some j = sym (ap (λ b. cond b (Some k) (first_place test (k + 1) n)) holds) ∙ h in
          let same : k ≡ j = cc in
          (omega (arith, same), omega (arith, same), ap test (sym same) ∙ holds, λ i least under. absurd (omega (arith, same, least, under)))
      | inr fails ↦
          let e : first_place test (k + 1) n ≡ Some j = sym (ap (λ b. cond b (Some k) (first_place test (k + 1) n)) fails) ∙ h in
          let (least, most, holds, earlier) = place_found test (k + 1) n j e in
          (omega (arith, least), omega (arith, most), holds, before test k j fails earlier)
    ]

place_first : (test : ℕ → Bool) (k n j : ℕ) → k ≤ j → j < k + n → test j ≡ true → ((i : ℕ) → k ≤ i → i < j → test i ≡ false) → first_place test k n ≡ Some j
place_first test k zero j from below holds earlier = absurd (omega (arith, from, below))
place_first test k (suc n) j from below holds earlier =
    elim (cases_Bool (eqb k j)) [
      | inl same ↦
          let at : k ≡ j = eqb-true k j same in
          ap (λ b. cond b (Some k) (first_place test (k + 1) n)) (ap test at ∙ holds) ∙ ap Some at
      | inr other ↦
          let past : k < j = omega (arith, above k j from (eqb-false k j other)) in
          ap (λ b. cond b (Some k) (first_place test (k + 1) n)) (earlier k (omega arith) past)
          ∙ place_first test (k + 1) n j (omega (arith, past)) (omega (arith, below)) holds (λ i least under. earlier i (omega (arith, least)) under)
    ]

-- CUT OFF

on_circle : (inputs : List ℕ) (k : ℕ) → is_circular inputs k ≡ true → ¬ Reaches inputs (suc k)
on_circle inputs k circular reaches =
    let next : k + 1 ≡ suc k = omega arith in
    let apart : (source_of inputs (length inputs) (k + 1) == 0) ≡ false = not-true _ circular in
    let same : (source_of inputs (length inputs) (k + 1) == 0) ≡ true =
    eq-eqb _ 0 (ap (source_of inputs (length inputs)) next ∙ walked inputs (suc k) reaches) in
    absurd (cc)

off_circle : (inputs : List ℕ) (k : ℕ) → AreWithin inputs → k < length inputs → is_circular inputs k ≡ false → Reaches inputs (suc k)
off_circle inputs k inside within straight =
    let next : k + 1 ≡ suc k = omega arith in
    let same : (source_of inputs (length inputs) (k + 1) == 0) ≡ true = not-false _ straight in
    reached inputs inside (length inputs) k within (ap (source_of inputs (length inputs)) (sym next) ∙ eqb-true _ 0 same)

from_places : (inputs : List ℕ) (node : ℕ) → ((i : ℕ) → suc i < node → Reaches inputs (suc i)) → (v : ℕ) → 1 ≤ v → v < node → Reaches inputs v
from_places inputs node reach zero least below = absurd (omega (arith, least))
from_places inputs node reach (suc i) least below = reach i below

pub cut_found : (inputs : List ℕ) (k : ℕ) → AreWithin inputs → first_place (is_circular inputs) 0 (length inputs) ≡ Some k → IsCutOff inputs (k + 1)
cut_found inputs k inside h =
    let (from, below, holds, earlier) = place_found (is_circular inputs) 0 (length inputs) k h in
    let next : k + 1 ≡ suc k = omega arith in
    record {
      least = omega arith;
      most = omega (arith, below);
      never = subst (λ v. ¬ Reaches inputs v) (sym next) (on_circle inputs k holds);
      earlier = from_places inputs (k + 1) (λ i under. off_circle inputs i inside (omega (arith, below, under)) (earlier i (omega arith) (omega (arith, under))));
    }

pub cut_first : (inputs : List ℕ) (node : ℕ) → AreWithin inputs → IsCutOff inputs node
    → (k : ℕ) × (node ≡ k + 1) × (first_place (is_circular inputs) 0 (length inputs) ≡ Some k)
cut_first inputs zero inside cut = absurd (omega (arith, cut.least))
cut_first inputs (suc k) inside cut = (
  k,
  omega arith,
  place_first (is_circular inputs) 0 (length inputs) k (omega arith) (omega (arith, cut.most)) circular
      (λ i from below. straight i (cut.earlier (suc i) (omega arith) (omega (arith, below)))),
)
  where
    circular : is_circular inputs k ≡ true
    circular =
        elim (cases_Bool (is_circular inputs k)) [
          | inl holds ↦ holds
          | inr fails ↦ absurd (cut.never (off_circle inputs k inside (omega (arith, cut.most)) fails))
        ]

    straight : (i : ℕ) → Reaches inputs (suc i) → is_circular inputs i ≡ false
    straight i reaches =
        elim (cases_Bool (is_circular inputs i)) [
          | inl holds ↦ absurd (on_circle inputs i holds reaches)
          | inr fails ↦ fails
        ]

-- INPUTS THAT WERE READ

same_count : (all : List Named) (v : ℕ) (ns : List Named) (ks : List ℕ) → input_numbers all v ns ≡ Ok ks → length ks ≡ length ns
same_count all v [] ks h = let e : [] ≡ ks = cc in ap length (sym e)
same_count all v (n ∷ ns) ks h =
    let (k, is, rest) = known v (input_number all n.input) _ ks h in
    let (more, read, e) = listed (input_numbers all (v + 1) ns) k ks rest in
    ap length e ∙ ap suc (same_count all (v + 1) ns more read)

position_within : {X : Type 0} (test : X → Bool) (i k : ℕ) (xs : List X) → position_from test i xs ≡ Some k → k < i + length xs
position_within test i k [] h = absurd (cc)
position_within test i k (x ∷ xs) h =
    elim (cases_Bool (test x)) [
      | inl holds ↦
          let e : Some i ≡ Some k = sym (ap (λ b. cond b (Some i) (position_from test (i + 1) xs)) holds) ∙ h in
          let same : i ≡ k = cc in
          omega (arith, same)
      | inr fails ↦
          let e : position_from test (i + 1) xs ≡ Some k = sym (ap (λ b. cond b (Some i) (position_from test (i + 1) xs)) fails) ∙ h in
          omega (arith, position_within test (i + 1) k xs e)
    ]

fed_within : (all : List Named) (k : ℕ) → Fed all k → k ≤ length all
fed_within all k fed =
    let found = position_from (λ n. has_name fed.0 n && may_feed n.rule.kind) 1 all in
    elim (cases_Bool (bytes_eq fed.0 (codes "driver"))) [
      | inl driver ↦
          let e : Some 0 ≡ Some k = sym (ap (λ b. cond b (Some 0) found) driver) ∙ fed.1 in
          let at : 0 ≡ k = cc in
          omega (arith, at)
      | inr node ↦
          let e : found ≡ Some k = sym (ap (λ b. cond b (Some 0) found) node) ∙ fed.1 in
          omega (arith, position_within (λ n. has_name fed.0 n && may_feed n.rule.kind) 1 k all e)
    ]

at_each : (P : ℕ → Type 0) (xs : List ℕ) (k v : ℕ) → AllByRecursion P xs → slice_get xs k ≡ Some v → P v
at_each P [] k v h is = absurd (cc)
at_each P (x ∷ xs) zero v h is = let same : x ≡ v = cc in subst P same h.0
at_each P (x ∷ xs) (suc k) v h is = at_each P xs k v h.1 is

pub read_within : (ns : List Named) (ks : List ℕ) → input_numbers ns 1 ns ≡ Ok ks → AreWithin ks
read_within ns ks read k v is =
    omega (arith, fed_within ns v (at_each (Fed ns) ks k v (all_fed ns 1 ns ks read) is), same_count ns 1 ns ks read)
