-- A log that is read from its end: what the tallies come to stays the same.
use Rattle.std.proofs.Common.{◌≡◌, ℕ, ◌+◌, ◌<◌, ◌≤◌, ◌^◌, suc, zero, arith, Bool, true, false, cond, ◌&&◌, not, eqb, List, [], ◌∷◌, refl, sym, ap, ◌∙◌}
use Rattle.std.proofs.Common.{subst, length, map, get_or, add-zero, zero-add, length-append}
use Rattle.std.specs.Prelude.{flat_map, slice_index_or}
use Rattle.std.specs.List.{All, count_by}
use Rattle.std.proofs.lemmas.List.{ext_get_or, get_or-map, length-map}
use Rattle.std.proofs.lemmas.List.Elements.{All-from_get_or}
use Rattle.std.proofs.lemmas.List.Sums.{count_by-le-length}
use Rattle.nd_base.specs.declared.graph.NodeRule.{NodeRule}
use Rattle.nd_base.specs.declared.plan.Plan.{Plan}
use Rattle.flow_journal.specs.declared.entry.Entry.{Entry}
use Rattle.flow_journal.specs.declared.entry.Entry.TheVariants.{Load, LoadRefused, Emit, TakeBlock, Save, Reclaim}
use Rattle.flow_journal.specs.Setting.{Setting, Node, no_node, node, node_numbers, numbers_from, id_at, first_prev}
use Rattle.queue_sort.specs.Sorting.{keeps_step}
use Rattle.flow_journal.specs.RunSetting.{node_of, work_of}
use Rattle.flow_journal.specs.Pasts.{Past}
use Rattle.flow_journal.specs.Hands.{takes_up, let_go, is_free, is_loaded, standing}
use Rattle.flow_journal.specs.Breaks.{out_at, outs, prev_of, breaks_of}
use Rattle.flow_journal.specs.Unsaved.{is_file}
use Rattle.run_report.specs.declared.counting.Tally.{Tally}
use Rattle.run_report.specs.declared.feed.FeedTally.{FeedTally}
use Rattle.run_report.specs.declared.tally.NodeTally.{NodeTally}
use Rattle.run_report.specs.Backwards.{has_role, is_taken_back, before, rest}
use Rattle.run_report.specs.Report.{loaded, is_offer, node_count, plan_setting}
use Rattle.flow_journal.specs.EntryTests.{is_full, is_pool_drop, is_sort_drop, is_refused_load, says_regrown}
use Rattle.flow_journal.proofs.Lengths.{numbers-length}
use Rattle.run_report.specs.Tallies.{HasRoomForCounts, HasRoomForLoads, IsOneMore, fresh, fresh_nodes, finished, more_loads, one_if, at, stands_before}
use Rattle.run_report.specs.Tallied.{IsTallied}
use Rattle.run_report.proofs.Standing.{rest-same, rest-standing}
use Rattle.run_report.proofs.Leads.{Leads, leads-more, leads-end, count-one, count-yes, count-no}

-- what was tallied, and what is left of the log, comes to the report
pub record Reads (p : Plan) (past P : Past) (t : Tally) : Type 0 where
  pub loads : t.feed.loaded + count_by is_loaded (rest (has_role t.reclaims) P) ≡ loaded past
  pub refusals : t.feed.refused + count_by is_refused_load P ≡ count_by is_refused_load past
  pub grants : t.feed.regrown + count_by says_regrown P ≡ count_by says_regrown past
  pub as_many : length t.nodes.items ≡ length p.graph.nodes + 1
  pub nodes : (v : ℕ) → v < length t.nodes.items
      → Leads (plan_setting p) v (node_count (plan_setting p) past v) (at t.nodes.items v) (rest (has_role t.reclaims) P) P

cond-not : {X : Type 0} (b : Bool) (x y : X) → cond b x y ≡ cond (not b) y x
cond-not true x y = refl
cond-not false x y = refl

moved : (a b c o : ℕ) → a + (b + c) ≡ o → (a + b) + c ≡ o
moved a b c o h = omega arith

count-kept : (p : Entry → Bool) (b : Bool) (e : Entry) (S : Past) → p e ≡ false → count_by p (cond b (e ∷ S) S) ≡ count_by p S
count-kept p true e S none = count-no p e S none
count-kept p false e S none = refl

more-loaded : (b : Bool) (e : Entry) (t : FeedTally) (S : Past) (o : ℕ) → t.loaded + count_by is_loaded (cond b (e ∷ S) S) ≡ o
    → (more_loads b e t).loaded + count_by is_loaded S ≡ o
more-loaded true (Load r k c n f g x) t S o h =
    moved t.loaded 1 (count_by is_loaded S) o (ap (λ (i : ℕ). t.loaded + i) (sym (count-yes is_loaded (Load r k c n f g x) S refl)) ∙ h)
more-loaded false (Load r k c n f g x) t S o h = ap (λ (i : ℕ). i + count_by is_loaded S) (add-zero t.loaded) ∙ h
more-loaded b e t S o h = ap (λ (i : ℕ). t.loaded + i) (sym (count-kept is_loaded b e S refl)) ∙ h

more-refused : (b : Bool) (e : Entry) (t : FeedTally) (P : Past) (o : ℕ) → t.refused + count_by is_refused_load (e ∷ P) ≡ o
    → (more_loads b e t).refused + count_by is_refused_load P ≡ o
more-refused b (LoadRefused r k n d) t P o h =
    moved t.refused 1 (count_by is_refused_load P) o (ap (λ (i : ℕ). t.refused + i) (sym (count-yes is_refused_load (LoadRefused r k n d) P refl)) ∙ h)
more-refused b e t P o h = ap (λ (i : ℕ). t.refused + i) (sym (count-no is_refused_load e P refl)) ∙ h

more-regrown : (b : Bool) (e : Entry) (t : FeedTally) (P : Past) (o : ℕ) → t.regrown + count_by says_regrown (e ∷ P) ≡ o
    → (more_loads b e t).regrown + count_by says_regrown P ≡ o
more-regrown b (Load r k c n f g x) t P o h =
    moved t.regrown (one_if x) (count_by says_regrown P) o (ap (λ (i : ℕ). t.regrown + i) (sym (count-one says_regrown (Load r k c n f g x) P)) ∙ h)
more-regrown b (TakeBlock f x r v m k c n g) t P o h =
    moved t.regrown (one_if x) (count_by says_regrown P) o (ap (λ (i : ℕ). t.regrown + i) (sym (count-one says_regrown (TakeBlock f x r v m k c n g) P)) ∙ h)
more-regrown b e t P o h = ap (λ (i : ℕ). t.regrown + i) (sym (count-no says_regrown e P refl)) ∙ h

-- what is left before an entry is read
turned : (p : Plan) (P : Past) (e : Entry) (old new : Tally) → IsOneMore p.ids e old new
    → rest (has_role old.reclaims) (e ∷ P) ≡ cond (stands_before old e) (e ∷ rest (has_role new.reclaims) P) (rest (has_role new.reclaims) P)
turned p P e old new m =
    let X = rest (before e (has_role old.reclaims)) P in
    let same : X ≡ rest (has_role new.reclaims) P = sym (rest-same P (has_role new.reclaims) (before e (has_role old.reclaims)) m.roles) in
    cond-not (is_taken_back (has_role old.reclaims) e) X (e ∷ X)
    ∙ ap (λ (Y : Past). cond (stands_before old e) (e ∷ Y) Y) same

pub reads-more : (p : Plan) (past P : Past) (e : Entry) (old new : Tally) → Reads p past (e ∷ P) old → IsOneMore p.ids e old new → Reads p past P new
reads-more p past P e old new r m =
    let s = plan_setting p in
    let X = rest (has_role new.reclaims) P in
    let b = stands_before old e in
    let turn : rest (has_role old.reclaims) (e ∷ P) ≡ cond b (e ∷ X) X = turned p P e old new m in
    record {
      loads =
          ap (λ (f : FeedTally). f.loaded + count_by is_loaded X) m.feed
          ∙ more-loaded b e old.feed X (loaded past) (ap (λ (S : Past). old.feed.loaded + count_by is_loaded S) (sym turn) ∙ r.loads);
      refusals = ap (λ (f : FeedTally). f.refused + count_by is_refused_load P) m.feed ∙ more-refused b e old.feed P (count_by is_refused_load past) r.refusals;
      grants = ap (λ (f : FeedTally). f.regrown + count_by says_regrown P) m.feed ∙ more-regrown b e old.feed P (count_by says_regrown past) r.grants;
      as_many = m.as_many ∙ r.as_many;
      nodes =
          λ (v : ℕ) (within : v < length new.nodes.items).
          let there : v < length old.nodes.items = subst (λ (i : ℕ). v < i) m.as_many within in
          let l = subst (λ (S : Past). Leads s v (node_count s past v) (at old.nodes.items v) S (e ∷ P)) turn (r.nodes v there) in
          subst (λ (t : NodeTally). Leads s v (node_count s past v) t X P) (sym (m.nodes v there))
          (leads-more s v (node_count s past v) (at old.nodes.items v) (has_role old.reclaims) e X P l);
    }

-- before any entry is read
fresh-at : (ns : List NodeRule) (k : ℕ)
    → slice_index_or (map (λ (n : NodeRule). fresh (is_file (work_of n.kind))) ns) k (fresh false)
    ≡ fresh (is_file (slice_index_or (map node_of ns) k no_node).work)
fresh-at [] k = refl
fresh-at (n ∷ ns) zero = refl
fresh-at (n ∷ ns) (suc k) = fresh-at ns k

fresh-node : (p : Plan) (v : ℕ) → at (fresh_nodes p.graph.nodes) v ≡ fresh (is_file (node (plan_setting p) v).work)
fresh-node p zero = refl
fresh-node p (suc k) = fresh-at p.graph.nodes k

leads-fresh : (s : Setting) (v : ℕ) (past : Past) → Leads s v (node_count s past v) (fresh (is_file (node s v).work)) (standing past) past
leads-fresh s v past =
    record {
      offered = zero-add (count_by (is_offer v) past);
      full = zero-add (count_by (is_full v) past);
      pool = zero-add (count_by (is_pool_drop v) past);
      sort = zero-add (count_by (is_sort_drop v) past);
      out = zero-add (length (outs s v past));
      breaks = zero-add (breaks_of s (outs s v past) + 0) ∙ add-zero (breaks_of s (outs s v past));
    }

pub reads-fresh : (p : Plan) (past : Past) (t : Tally) → ((q : ℕ) → has_role t.reclaims q ≡ false) → t.feed ≡ record { loaded = 0; refused = 0; regrown = 0 }
    → t.nodes.items ≡ fresh_nodes p.graph.nodes → Reads p past past t
reads-fresh p past t none feed nodes =
    let s = plan_setting p in
    let stands : standing past ≡ rest (has_role t.reclaims) past = sym (rest-standing past (has_role t.reclaims) none) in
    record {
      loads = ap (λ (f : FeedTally). f.loaded + count_by is_loaded (rest (has_role t.reclaims) past)) feed ∙ zero-add _ ∙ ap (count_by is_loaded) (sym stands);
      refusals = ap (λ (f : FeedTally). f.refused + count_by is_refused_load past) feed ∙ zero-add _;
      grants = ap (λ (f : FeedTally). f.regrown + count_by says_regrown past) feed ∙ zero-add _;
      as_many = ap length nodes ∙ ap (λ (i : ℕ). suc i) (length-map p.graph.nodes (λ (n : NodeRule). fresh (is_file (work_of n.kind)))) ∙ omega arith;
      nodes =
          λ (v : ℕ) (_ : v < length t.nodes.items).
          let is : fresh (is_file (node s v).work) ≡ at t.nodes.items v = sym (ap (λ (ts : List NodeTally). at ts v) nodes ∙ fresh-node p v) in
          subst (λ (S : Past). Leads s v (node_count s past v) (at t.nodes.items v) S past) stands
          (subst (λ (i : NodeTally). Leads s v (node_count s past v) i (standing past) past) is (leads-fresh s v past));
    }

numbers-at : (v i : ℕ) (ns : List Node) → i < length ns → get_or (numbers_from v ns) i 0 ≡ v + i
numbers-at v i [] h = absurd (omega arith)
numbers-at v zero (n ∷ ns) h = sym (add-zero v)
numbers-at v (suc i) (n ∷ ns) h = let there = numbers-at (v + 1) i ns (omega arith) in omega (arith, there)

number-at : (i : ℕ) (ns : List Node) → i < suc (length ns) → get_or (0 ∷ numbers_from 1 ns) i 0 ≡ i
number-at zero ns h = refl
number-at (suc i) ns h = let there = numbers-at 1 i ns (omega arith) in omega (arith, there)

-- the entries that go out are at most all
let_go-le : (r : ℕ) (X : Past) → length (let_go r X) ≤ length X
let_go-le r [] = omega arith
let_go-le r (e ∷ X) =
    elim (takes_up r e) as (λ b. length (cond b X (e ∷ let_go r X)) ≤ length (e ∷ X)) [
      | true ↦ omega arith
      | false ↦ let less = let_go-le r X in omega (arith, less)
    ]

standing-le : (P : Past) → length (standing P) ≤ length P
standing-le [] = omega arith
standing-le (Reclaim r ∷ P) =
    let less = standing-le P in
    elim (is_free r P) as (λ b. length (Reclaim r ∷ cond b (standing P) (let_go r (standing P))) ≤ length (Reclaim r ∷ P)) [
      | true ↦ omega (arith, less)
      | false ↦ let fewer = let_go-le r (standing P) in omega (arith, less, fewer)
    ]
standing-le (e ∷ P) = let less = standing-le P in omega (arith, less)

one-le : (saves : Bool) (v : ℕ) (e : Entry) → length (out_at saves v e) ≤ 1
one-le saves v (Emit w m k why) = elim (not saves && eqb w v) as (λ b. length (cond b (k ∷ []) []) ≤ 1) [ true ↦ omega arith | false ↦ omega arith ]
one-le saves v (Save r w m k g) = elim (saves && eqb w v) as (λ b. length (cond b (k ∷ []) []) ≤ 1) [ true ↦ omega arith | false ↦ omega arith ]
one-le saves v _ = omega arith

out-le : (saves : Bool) (v : ℕ) (X : Past) → length (flat_map (out_at saves v) X) ≤ length X
out-le saves v [] = omega arith
out-le saves v (e ∷ X) =
    let one = one-le saves v e in
    let less = out-le saves v X in
    let both = length-append (out_at saves v e) (flat_map (out_at saves v) X) in
    omega (arith, one, less, both)

breaks-le : (s : Setting) (ks : List ℕ) → breaks_of s ks ≤ length ks
breaks-le s [] = omega arith
breaks-le s (k ∷ ks) =
    let less = breaks-le s ks in
    elim (keeps_step (prev_of s ks) (id_at s k)) as (λ b. breaks_of s ks + cond b 0 1 ≤ length (k ∷ ks)) [
      | true ↦ omega (arith, less)
      | false ↦ omega (arith, less)
    ]

node-room : (s : Setting) (v : ℕ) (past P S : Past) (t : NodeTally) → length past < 2 ^ 60 → Leads s v (node_count s past v) t S P → HasRoomForCounts t
node-room s v past P S t few l =
    let o = count_by-le-length (is_offer v) past in
    let f = count_by-le-length (is_full v) past in
    let p = count_by-le-length (is_pool_drop v) past in
    let q = count_by-le-length (is_sort_drop v) past in
    let x = out-le (is_file (node s v).work) v (standing past) in
    let y = standing-le past in
    let z = breaks-le s (outs s v past) in
    record {
      offered = omega (arith, l.offered, o, few);
      full = omega (arith, l.full, f, few);
      pool = omega (arith, l.pool, p, few);
      sort = omega (arith, l.sort, q, few);
      out = omega (arith, l.out, x, y, few);
      breaks = omega (arith, l.breaks, x, y, z, few);
    }

pub reads-room : (p : Plan) (past P : Past) (t : Tally) → length past < 2 ^ 60 → Reads p past P t → All HasRoomForCounts t.nodes.items
reads-room p past P t few r =
    All-from_get_or HasRoomForCounts t.nodes.items (fresh false)
    (λ (v : ℕ) (within : v < length t.nodes.items).
    node-room (plan_setting p) v past P (rest (has_role t.reclaims) P) (at t.nodes.items v) few (r.nodes v within))

pub reads-room_for_loads : (p : Plan) (past P : Past) (t : Tally) → length past < 2 ^ 60 → Reads p past P t → HasRoomForLoads t.feed
reads-room_for_loads p past P t few r =
    let o = count_by-le-length is_loaded (standing past) in
    let y = standing-le past in
    let f = count_by-le-length is_refused_load past in
    let g = count_by-le-length says_regrown past in
    record {
      loaded = omega (arith, r.loads, o, y, few);
      refused = omega (arith, r.refusals, f, few);
      regrown = omega (arith, r.grants, g, few);
    }

-- when nothing is left
pub reads-end : (p : Plan) (past : Past) (t : Tally) → length past < 2 ^ 60 → Reads p past [] t → IsTallied p past t
reads-end p past t few r =
    let s = plan_setting p in
    let many : length (0 ∷ node_numbers s) ≡ length t.nodes.items =
    ap (λ (i : ℕ). suc i) (numbers-length 1 s.nodes ∙ length-map p.graph.nodes node_of) ∙ omega (arith, r.as_many) in
    record {
      loaded = sym (add-zero t.feed.loaded) ∙ r.loads;
      refused = sym (add-zero t.feed.refused) ∙ r.refusals;
      regrown = sym (add-zero t.feed.regrown) ∙ r.grants;
      nodes =
          ext_get_or (node_count s past 0) (map (finished (first_prev p.ids)) t.nodes.items) (map (node_count s past) (0 ∷ node_numbers s))
          (length-map t.nodes.items (finished (first_prev p.ids)) ∙ sym many ∙ sym (length-map (0 ∷ node_numbers s) (node_count s past)))
          (λ (i : ℕ) (within : i < length (map (finished (first_prev p.ids)) t.nodes.items)).
          let there : i < length t.nodes.items = subst (λ (n : ℕ). i < n) (length-map t.nodes.items (finished (first_prev p.ids))) within in
          let here : i < length (0 ∷ node_numbers s) = subst (λ (n : ℕ). i < n) (sym many) there in
          let low : i < suc (length s.nodes) = subst (λ (n : ℕ). i < suc n) (numbers-length 1 s.nodes) here in
          get_or-map (finished (first_prev p.ids)) t.nodes.items i (fresh false) (node_count s past 0) there
          ∙ leads-end s i past (at t.nodes.items i) (r.nodes i there)
          ∙ ap (node_count s past) (sym (number-at i s.nodes low))
          ∙ sym (get_or-map (node_count s past) (0 ∷ node_numbers s) i 0 (node_count s past 0) here));
      loads = reads-room_for_loads p past [] t few r;
      room = reads-room p past [] t few r;
    }
