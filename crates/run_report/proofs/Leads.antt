-- What the tally of a node comes to in the end stays the same as one entry more is read.
use Rattle.std.proofs.Common.{◌≡◌, ℕ, ◌+◌, arith, Bool, true, false, cond, ◌&&◌, not, List, [], ◌∷◌, ◌++◌, refl, sym, ap, ◌∙◌, subst, length, Option, inl}
use Rattle.std.proofs.Common.{inr, ℤ, zero-add}
use Rattle.std.specs.Prelude.{flat_map}
use Rattle.std.specs.List.{count_by}
use Rattle.std.proofs.lemmas.List.Sums.{sum_by-cons}
use Rattle.std.proofs.Math.Bool.{and-false, and-true}
use Rattle.std.proofs.lemmas.Bool.{cases_Bool, false≢true}
use Rattle.flow_journal.specs.declared.entry.Entry.{Entry}
use Rattle.flow_journal.specs.declared.entry.Entry.TheVariants.{Emit, Accept, Full, PoolDrop, SortDrop, Save}
use Rattle.flow_journal.specs.Setting.{Setting, id_at, first_prev}
use Rattle.flow_journal.specs.Pasts.{Past}
use Rattle.flow_journal.specs.Breaks.{out_at, prev_of, breaks_of}
use Rattle.run_report.specs.declared.counts.NodeCount.{NodeCount}
use Rattle.run_report.specs.declared.tally.NodeTally.{NodeTally}
use Rattle.run_report.specs.Backwards.{Roles, is_taken_back}
use Rattle.run_report.specs.Report.{is_offer, node_count}
use Rattle.flow_journal.specs.EntryTests.{is_full, is_pool_drop, is_sort_drop}
use Rattle.run_report.specs.Tallies.{break_after, with_out, more, finished, node_at, is_node_at}

pub count-one : (p : Entry → Bool) (e : Entry) (P : Past) → count_by p (e ∷ P) ≡ cond (p e) 1 0 + count_by p P
count-one p e P = sum_by-cons (λ (x : Entry). cond (p x) 1 0) e P

pub count-yes : (p : Entry → Bool) (e : Entry) (P : Past) → p e ≡ true → count_by p (e ∷ P) ≡ 1 + count_by p P
count-yes p e P h = count-one p e P ∙ ap (λ (b : Bool). cond b 1 0 + count_by p P) h

pub count-no : (p : Entry → Bool) (e : Entry) (P : Past) → p e ≡ false → count_by p (e ∷ P) ≡ count_by p P
count-no p e P h = count-one p e P ∙ ap (λ (b : Bool). cond b 1 0 + count_by p P) h ∙ zero-add (count_by p P)

-- the breaks among what is still to go out, and the one after it
abbrev pub breaks_left : Setting → Option ℤ → List ℕ → ℕ
breaks_left s next ks = breaks_of s ks + break_after next (prev_of s ks)

-- with what is left of the log, of which S stands, the tally of the node v comes to these counts
pub record Leads (s : Setting) (v : ℕ) (n : NodeCount) (t : NodeTally) (S P : Past) : Type 0 where
  pub offered : t.offered + count_by (is_offer v) P ≡ n.offered
  pub full : t.full + count_by (is_full v) P ≡ n.full
  pub pool : t.pool + count_by (is_pool_drop v) P ≡ n.pool
  pub sort : t.sort + count_by (is_sort_drop v) P ≡ n.sort
  pub out : t.out + length (flat_map (out_at t.saves v) S) ≡ n.out
  pub breaks : t.breaks + breaks_left s t.next (flat_map (out_at t.saves v) S) ≡ n.breaks

-- an entry that lets nothing out leaves what is still to go out, whether it stands or not
still-same : (f : Entry → List ℕ) (b : Bool) (e : Entry) (S : Past) → f e ≡ [] → flat_map f (cond b (e ∷ S) S) ≡ flat_map f S
still-same f true e S none = ap (λ (ys : List ℕ). ys ++ flat_map f S) none
still-same f false e S none = refl

out-same : (s : Setting) (v : ℕ) (t : NodeTally) (b : Bool) (e : Entry) (S : Past) (o : ℕ)
    → flat_map (out_at t.saves v) (cond b (e ∷ S) S) ≡ flat_map (out_at t.saves v) S → t.out + length (flat_map (out_at t.saves v) (cond b (e ∷ S) S)) ≡ o
    → t.out + length (flat_map (out_at t.saves v) S) ≡ o
out-same s v t b e S o same h = ap (λ (ks : List ℕ). t.out + length ks) (sym same) ∙ h

breaks-same : (s : Setting) (v : ℕ) (t : NodeTally) (b : Bool) (e : Entry) (S : Past) (o : ℕ)
    → flat_map (out_at t.saves v) (cond b (e ∷ S) S) ≡ flat_map (out_at t.saves v) S
    → t.breaks + breaks_left s t.next (flat_map (out_at t.saves v) (cond b (e ∷ S) S)) ≡ o → t.breaks + breaks_left s t.next (flat_map (out_at t.saves v) S) ≡ o
breaks-same s v t b e S o same h = ap (λ (ks : List ℕ). t.breaks + breaks_left s t.next ks) (sym same) ∙ h

-- the entry is no offer and no drop at the node
record IsNoCount (v : ℕ) (e : Entry) : Type 0 where
  offer : is_offer v e ≡ false
  full : is_full v e ≡ false
  pool : is_pool_drop v e ≡ false
  sort : is_sort_drop v e ≡ false

-- it leaves the tally, where it lets nothing out
leads-none : (s : Setting) (v : ℕ) (n : NodeCount) (t : NodeTally) (b : Bool) (e : Entry) (S P : Past) → IsNoCount v e
    → flat_map (out_at t.saves v) (cond b (e ∷ S) S) ≡ flat_map (out_at t.saves v) S → Leads s v n t (cond b (e ∷ S) S) (e ∷ P) → Leads s v n t S P
leads-none s v n t b e S P others same l =
    record {
      offered = let c = count-no (is_offer v) e P others.offer in ap (λ (i : ℕ). t.offered + i) (sym c) ∙ l.offered;
      full = let c = count-no (is_full v) e P others.full in ap (λ (i : ℕ). t.full + i) (sym c) ∙ l.full;
      pool = let c = count-no (is_pool_drop v) e P others.pool in ap (λ (i : ℕ). t.pool + i) (sym c) ∙ l.pool;
      sort = let c = count-no (is_sort_drop v) e P others.sort in ap (λ (i : ℕ). t.sort + i) (sym c) ∙ l.sort;
      out = out-same s v t b e S n.out same l.out;
      breaks = breaks-same s v t b e S n.breaks same l.breaks;
    }

moved : (a c o : ℕ) → a + (1 + c) ≡ o → (a + 1) + c ≡ o
moved a c o h = omega arith

-- one that lets its array out adds it
leads-out : (s : Setting) (v : ℕ) (n : NodeCount) (t : NodeTally) (k : ℕ) (e : Entry) (S P : Past) → IsNoCount v e → out_at t.saves v e ≡ k ∷ []
    → Leads s v n t (e ∷ S) (e ∷ P) → Leads s v n (with_out (id_at s k) t) S P
leads-out s v n t k e S P others lets l =
    let ks = flat_map (out_at t.saves v) S in
    let o : t.out + length (k ∷ ks) ≡ n.out = ap (λ (ys : List ℕ). t.out + length (ys ++ ks)) (sym lets) ∙ l.out in
    let d : t.breaks + breaks_left s t.next (k ∷ ks) ≡ n.breaks = ap (λ (ys : List ℕ). t.breaks + breaks_left s t.next (ys ++ ks)) (sym lets) ∙ l.breaks in
    record {
      offered = let c = count-no (is_offer v) e P others.offer in ap (λ (i : ℕ). t.offered + i) (sym c) ∙ l.offered;
      full = let c = count-no (is_full v) e P others.full in ap (λ (i : ℕ). t.full + i) (sym c) ∙ l.full;
      pool = let c = count-no (is_pool_drop v) e P others.pool in ap (λ (i : ℕ). t.pool + i) (sym c) ∙ l.pool;
      sort = let c = count-no (is_sort_drop v) e P others.sort in ap (λ (i : ℕ). t.sort + i) (sym c) ∙ l.sort;
      out = omega (arith, o);
      breaks = omega (arith, d);
    }

-- an entry at another node is none of this one
away-offer : (v : ℕ) (e : Entry) → is_node_at v (node_at e) ≡ false → is_offer v e ≡ false
away-offer v (Accept w m k) h = h
away-offer v (Full w m k) h = h
away-offer v _ h = refl

away-full : (v : ℕ) (e : Entry) → is_node_at v (node_at e) ≡ false → is_full v e ≡ false
away-full v (Full w m k) h = h
away-full v _ h = refl

away-pool : (v : ℕ) (e : Entry) → is_node_at v (node_at e) ≡ false → is_pool_drop v e ≡ false
away-pool v (PoolDrop r w m k n g) h = h
away-pool v _ h = refl

away-sort : (v : ℕ) (e : Entry) → is_node_at v (node_at e) ≡ false → is_sort_drop v e ≡ false
away-sort v (SortDrop w m k) h = h
away-sort v _ h = refl

away-out : (saves : Bool) (v : ℕ) (e : Entry) → is_node_at v (node_at e) ≡ false → out_at saves v e ≡ []
away-out saves v (Emit w m k why) h = ap (λ (b : Bool). cond b (k ∷ []) []) (ap (λ (b : Bool). not saves && b) h ∙ and-false (not saves))
away-out saves v (Save r w m k g) h = ap (λ (b : Bool). cond b (k ∷ []) []) (ap (λ (b : Bool). saves && b) h ∙ and-false saves)
away-out saves v _ h = refl

leads-away : (s : Setting) (v : ℕ) (n : NodeCount) (t : NodeTally) (b : Bool) (e : Entry) (S P : Past) → is_node_at v (node_at e) ≡ false
    → Leads s v n t (cond b (e ∷ S) S) (e ∷ P) → Leads s v n t S P
leads-away s v n t b e S P h l =
    leads-none s v n t b e S P (record { offer = away-offer v e h; full = away-full v e h; pool = away-pool v e h; sort = away-sort v e h })
    (still-same (out_at t.saves v) b e S (away-out t.saves v e h)) l

-- an emission or a save: where it goes out
leads-emit : (s : Setting) (v : ℕ) (n : NodeCount) (t : NodeTally) (e : Entry) (k : ℕ) (S P : Past) → IsNoCount v e
    → out_at t.saves v e ≡ cond (not t.saves) (k ∷ []) [] → Leads s v n t (e ∷ S) (e ∷ P) → Leads s v n (cond (not t.saves) (with_out (id_at s k) t) t) S P
leads-emit s v n t e k S P others lets l =
    elim (cases_Bool (not t.saves)) [
      | inl goes ↦
          subst (λ (b : Bool). Leads s v n (cond b (with_out (id_at s k) t) t) S P) (sym goes)
          (leads-out s v n t k e S P others (lets ∙ ap (λ (b : Bool). cond b (k ∷ []) []) goes) l)
      | inr stays ↦
          subst (λ (b : Bool). Leads s v n (cond b (with_out (id_at s k) t) t) S P) (sym stays)
          (leads-none s v n t true e S P others (still-same (out_at t.saves v) true e S (lets ∙ ap (λ (b : Bool). cond b (k ∷ []) []) stays)) l)
    ]

leads-save : (s : Setting) (v : ℕ) (n : NodeCount) (t : NodeTally) (b : Bool) (e : Entry) (k : ℕ) (S P : Past) → IsNoCount v e
    → out_at t.saves v e ≡ cond t.saves (k ∷ []) [] → Leads s v n t (cond b (e ∷ S) S) (e ∷ P)
    → Leads s v n (cond (t.saves && b) (with_out (id_at s k) t) t) S P
leads-save s v n t b e k S P others lets l =
    elim (cases_Bool t.saves) [
      | inl saves ↦
          subst (λ (i : Bool). Leads s v n (cond (i && b) (with_out (id_at s k) t) t) S P) (sym saves)
          (elim b as (λ i. Leads s v n t (cond i (e ∷ S) S) (e ∷ P) → Leads s v n (cond i (with_out (id_at s k) t) t) S P) [
            | true ↦ leads-out s v n t k e S P others (lets ∙ ap (λ (i : Bool). cond i (k ∷ []) []) saves)
            | false ↦ leads-none s v n t false e S P others refl
          ] l)
      | inr none ↦
          subst (λ (i : Bool). Leads s v n (cond (i && b) (with_out (id_at s k) t) t) S P) (sym none)
          (leads-none s v n t b e S P others (still-same (out_at t.saves v) b e S (lets ∙ ap (λ (i : Bool). cond i (k ∷ []) []) none)) l)
    ]

-- an entry at the node
leads-here : (s : Setting) (v : ℕ) (n : NodeCount) (t : NodeTally) (T : Roles) (e : Entry) (S P : Past) → is_node_at v (node_at e) ≡ true
    → Leads s v n t (cond (not (is_taken_back T e)) (e ∷ S) S) (e ∷ P) → Leads s v n (more s.ids (not (is_taken_back T e)) e t) S P
leads-here s v n t T (Accept w m k) S P h l =
    let e = Accept w m k in
    record {
      offered = let c = count-yes (is_offer v) e P h in moved t.offered (count_by (is_offer v) P) n.offered (ap (λ (i : ℕ). t.offered + i) (sym c) ∙ l.offered);
      full = let c = count-no (is_full v) e P refl in ap (λ (i : ℕ). t.full + i) (sym c) ∙ l.full;
      pool = let c = count-no (is_pool_drop v) e P refl in ap (λ (i : ℕ). t.pool + i) (sym c) ∙ l.pool;
      sort = let c = count-no (is_sort_drop v) e P refl in ap (λ (i : ℕ). t.sort + i) (sym c) ∙ l.sort;
      out = l.out;
      breaks = l.breaks;
    }
leads-here s v n t T (Full w m k) S P h l =
    let e = Full w m k in
    record {
      offered = let c = count-yes (is_offer v) e P h in moved t.offered (count_by (is_offer v) P) n.offered (ap (λ (i : ℕ). t.offered + i) (sym c) ∙ l.offered);
      full = let c = count-yes (is_full v) e P h in moved t.full (count_by (is_full v) P) n.full (ap (λ (i : ℕ). t.full + i) (sym c) ∙ l.full);
      pool = let c = count-no (is_pool_drop v) e P refl in ap (λ (i : ℕ). t.pool + i) (sym c) ∙ l.pool;
      sort = let c = count-no (is_sort_drop v) e P refl in ap (λ (i : ℕ). t.sort + i) (sym c) ∙ l.sort;
      out = l.out;
      breaks = l.breaks;
    }
leads-here s v n t T (PoolDrop r w m k d g) S P h l =
    let e = PoolDrop r w m k d g in
    record {
      offered = let c = count-no (is_offer v) e P refl in ap (λ (i : ℕ). t.offered + i) (sym c) ∙ l.offered;
      full = let c = count-no (is_full v) e P refl in ap (λ (i : ℕ). t.full + i) (sym c) ∙ l.full;
      pool = let c = count-yes (is_pool_drop v) e P h in moved t.pool (count_by (is_pool_drop v) P) n.pool (ap (λ (i : ℕ). t.pool + i) (sym c) ∙ l.pool);
      sort = let c = count-no (is_sort_drop v) e P refl in ap (λ (i : ℕ). t.sort + i) (sym c) ∙ l.sort;
      out = l.out;
      breaks = l.breaks;
    }
leads-here s v n t T (SortDrop w m k) S P h l =
    let e = SortDrop w m k in
    record {
      offered = let c = count-no (is_offer v) e P refl in ap (λ (i : ℕ). t.offered + i) (sym c) ∙ l.offered;
      full = let c = count-no (is_full v) e P refl in ap (λ (i : ℕ). t.full + i) (sym c) ∙ l.full;
      pool = let c = count-no (is_pool_drop v) e P refl in ap (λ (i : ℕ). t.pool + i) (sym c) ∙ l.pool;
      sort = let c = count-yes (is_sort_drop v) e P h in moved t.sort (count_by (is_sort_drop v) P) n.sort (ap (λ (i : ℕ). t.sort + i) (sym c) ∙ l.sort);
      out = l.out;
      breaks = l.breaks;
    }
leads-here s v n t T (Emit w m k why) S P h l =
    let here : out_at t.saves v (Emit w m k why) ≡ cond (not t.saves) (k ∷ []) [] =
    ap (λ (b : Bool). cond (not t.saves && b) (k ∷ []) []) h ∙ ap (λ (b : Bool). cond b (k ∷ []) []) (and-true (not t.saves)) in
    leads-emit s v n t (Emit w m k why) k S P (record { offer = refl; full = refl; pool = refl; sort = refl }) here l
leads-here s v n t T (Save r w m k g) S P h l =
    let here : out_at t.saves v (Save r w m k g) ≡ cond t.saves (k ∷ []) [] =
    ap (λ (b : Bool). cond (t.saves && b) (k ∷ []) []) h ∙ ap (λ (b : Bool). cond b (k ∷ []) []) (and-true t.saves) in
    leads-save s v n t (not (T r)) (Save r w m k g) k S P (record { offer = refl; full = refl; pool = refl; sort = refl }) here l
leads-here s v n t T _ S P h l = absurd (false≢true h)

pub leads-more : (s : Setting) (v : ℕ) (n : NodeCount) (t : NodeTally) (T : Roles) (e : Entry) (S P : Past)
    → Leads s v n t (cond (not (is_taken_back T e)) (e ∷ S) S) (e ∷ P)
    → Leads s v n (cond (is_node_at v (node_at e)) (more s.ids (not (is_taken_back T e)) e t) t) S P
leads-more s v n t T e S P l =
    elim (cases_Bool (is_node_at v (node_at e))) [
      | inl here ↦ subst (λ (b : Bool). Leads s v n (cond b (more s.ids (not (is_taken_back T e)) e t) t) S P) (sym here) (leads-here s v n t T e S P here l)
      | inr away ↦
          subst (λ (b : Bool). Leads s v n (cond b (more s.ids (not (is_taken_back T e)) e t) t) S P) (sym away)
          (leads-away s v n t (not (is_taken_back T e)) e S P away l)
    ]

-- when nothing is left, the tally has the counts
pub leads-end : (s : Setting) (v : ℕ) (past : Past) (t : NodeTally) → Leads s v (node_count s past v) t [] []
    → finished (first_prev s.ids) t ≡ node_count s past v
leads-end s v past t l =
    let o : t.offered ≡ (node_count s past v).offered = omega (arith, l.offered) in
    let f : t.full ≡ (node_count s past v).full = omega (arith, l.full) in
    let p : t.pool ≡ (node_count s past v).pool = omega (arith, l.pool) in
    let q : t.sort ≡ (node_count s past v).sort = omega (arith, l.sort) in
    let u : t.out ≡ (node_count s past v).out = omega (arith, l.out) in
    let b : t.breaks + break_after t.next (first_prev s.ids) ≡ (node_count s past v).breaks = omega (arith, l.breaks) in
    rw (o, f, p, q, u, b) refl
