-- How many long lines the text of a legal log can have: one for each frame and one for each arrival, and one more for each hand that was taken back.
use Rattle.std.proofs.Common.{◌≡◌, ◌≢◌, ℕ, suc, ◌+◌, ◌*◌, ◌≤◌, ◌<◌, Bool, true, false, ◌&&◌, cond, eqb, ltb, List, [], ◌∷◌, length, refl}
use Rattle.std.proofs.Common.{sym, ap, subst, arith, inl, inr}
use Rattle.std.proofs.lemmas.Bool.{ne_eqb, eqb-true, eqb-false, ltb-false, lt-ltb, cases_Bool}
use Rattle.std.proofs.Math.Nat.{mul_comm, suc-mul}
use Rattle.flow_journal.specs.declared.entry.Entry.{Entry}
use Rattle.flow_journal.specs.declared.entry.Entry.TheVariants.{Load, Take, TakeBlock, PoolDrop}
use Rattle.flow_journal.specs.Setting.{Setting, last_role}
use Rattle.flow_journal.specs.Pasts.{Past}
use Rattle.flow_journal.specs.Hands.{standing}
use Rattle.flow_journal.specs.Histories.{is_legal}
use Rattle.flow_journal.specs.LengthLaws.{arrivals}
use Rattle.flow_journal.proofs.EntryCounts.{count, bit, count-cons, arrives-le, leaves_at, loads_at}
use Rattle.flow_journal.proofs.Offers.{none_at, none_at_driver}
use Rattle.flow_journal.proofs.Issues.{leaves-accepted}
use Rattle.flow_journal.proofs.Once.{load-few, arrives-few}
use Rattle.flow_journal.proofs.Buckets.{sum_same, few_in_buckets}
use Rattle.flow_journal.proofs.Lengths.{not_numbered, stand-most, reclaims-few}
use Rattle.log_lengths.proofs.LineLengths.{is_long}

-- the node of an entry of an array; a load is the driver's
abbrev node_of : Entry → ℕ
node_of (TakeBlock f x r v m k b n g) = v
node_of (PoolDrop r v m k n h) = v
node_of _ = 0

abbrev index_of : Entry → ℕ
index_of (Load r k b n f g x) = k
index_of (TakeBlock f x r v m k b n g) = k
index_of (PoolDrop r v m k n h) = k
index_of _ = 0

abbrev long_at : ℕ → Entry → Bool
long_at v e = is_long e && eqb (node_of e) v

abbrev long_of : ℕ → ℕ → Entry → Bool
long_of v k e = long_at v e && eqb (index_of e) k

-- at a node such an entry takes an array out of the queue
long-leaves : (v k : ℕ) (es : List Entry) → v ≢ 0 → count (long_of v k) es ≤ count (leaves_at v k) es
long-leaves v k [] nz = omega arith
long-leaves v k (Load r j b n f g x ∷ es) nz =
    let away : eqb 0 v ≡ false = ne_eqb 0 v (λ e. nz (sym e)) in
    omega (arith, long-leaves v k es nz, count-cons (long_of v k) (Load r j b n f g x) es, ap (λ c. bit (c && eqb j k)) away)
long-leaves v k (Take r w m j ∷ es) nz = omega (arith, long-leaves v k es nz, count-cons (leaves_at v k) (Take r w m j) es)
long-leaves v k (TakeBlock f x r w m j b n g ∷ es) nz =
    omega (
      arith,
      long-leaves v k es nz,
      count-cons (long_of v k) (TakeBlock f x r w m j b n g) es,
      count-cons (leaves_at v k) (TakeBlock f x r w m j b n g) es,
    )
long-leaves v k (PoolDrop r w m j n h ∷ es) nz =
    omega (arith, long-leaves v k es nz, count-cons (long_of v k) (PoolDrop r w m j n h) es, count-cons (leaves_at v k) (PoolDrop r w m j n h) es)
long-leaves v k (_ ∷ es) nz = long-leaves v k es nz

-- and at the driver it is a load
long-loads : (k : ℕ) (es : List Entry) → count (long_of 0 k) es ≤ count (loads_at k) es + count (leaves_at 0 k) es
long-loads k [] = omega arith
long-loads k (Load r j b n f g x ∷ es) =
    omega (arith, long-loads k es, count-cons (long_of 0 k) (Load r j b n f g x) es, count-cons (loads_at k) (Load r j b n f g x) es)
long-loads k (Take r w m j ∷ es) = omega (arith, long-loads k es, count-cons (leaves_at 0 k) (Take r w m j) es)
long-loads k (TakeBlock f x r w m j b n g ∷ es) =
    omega (
      arith,
      long-loads k es,
      count-cons (long_of 0 k) (TakeBlock f x r w m j b n g) es,
      count-cons (leaves_at 0 k) (TakeBlock f x r w m j b n g) es,
    )
long-loads k (PoolDrop r w m j n h ∷ es) =
    omega (arith, long-loads k es, count-cons (long_of 0 k) (PoolDrop r w m j n h) es, count-cons (leaves_at 0 k) (PoolDrop r w m j n h) es)
long-loads k (_ ∷ es) = long-loads k es

module _ (s : Setting) (P : Past) (legal : is_legal s P ≡ true) where
  -- the driver and the nodes have one of each frame
  abbrev share : ℕ → ℕ
  share v = cond (ltb v (suc (length s.nodes))) 1 0

  long-once : (v k : ℕ) → count (long_of v k) (standing P) ≤ cond (ltb k (length s.ids)) (share v) 0
  long-once v k =
      elim (cases_Bool (eqb v 0)) [
        | inl driver ↦ at_driver (eqb-true v 0 driver)
        | inr at_node ↦
            let few = long-leaves v k (standing P) (eqb-false v 0 at_node) in
            elim (cases_Bool (ltb v (suc (length s.nodes)))) [
              | inl known ↦
                  omega (
                    arith,
                    few,
                    leaves-accepted s P v k legal,
                    arrives-le v k P,
                    arrives-few s P v k legal,
                    one (ltb k (length s.ids)) (share v) (ap (λ (b : Bool). cond {A = ℕ} b 1 0) known),
                  )
              | inr beyond ↦
                  let high : length s.nodes < v = omega (arith, ltb-false v (suc (length s.nodes)) beyond) in
                  omega (arith, few, leaves-accepted s P v k legal, none_at s P v k (not_numbered s v high) legal)
            ]
      ]
    where
      one : (b : Bool) (n : ℕ) → n ≡ 1 → cond b n 0 ≡ bit b
      one true n is = is
      one false n is = refl

      at_driver : v ≡ 0 → count (long_of v k) (standing P) ≤ cond (ltb k (length s.ids)) (share v) 0
      at_driver is =
          subst (λ (u : ℕ). count (long_of u k) (standing P) ≤ cond (ltb k (length s.ids)) (share u) 0) (sym is)
          (omega (
            arith,
            long-loads k (standing P),
            load-few s P k legal,
            leaves-accepted s P 0 k legal,
            none_at_driver s P k legal,
            one (ltb k (length s.ids)) (share 0) (ap (λ (b : Bool). cond {A = ℕ} b 1 0) (lt-ltb 0 (suc (length s.nodes)) (omega arith))),
          ))

  long-node : (v : ℕ) → count (long_at v) (standing P) ≤ cond (ltb v (suc (length s.nodes))) (length s.ids) 0
  long-node v =
      omega (
        arith,
        few_in_buckets (long_at v) index_of (long_of v) (λ e k. refl) (length s.ids) (λ k. share v) (standing P) (long-once v),
        sum_same (share v) (length s.ids),
        times (ltb v (suc (length s.nodes))) (length s.ids),
      )
    where
      times : (b : Bool) (n : ℕ) → n * cond b 1 0 ≡ cond b n 0
      times true n = omega arith
      times false n = omega arith

  pub long-few : count is_long P ≤ arrivals s + length s.ids + last_role s
  long-few =
      omega (
        arith,
        stand-most s P is_long legal,
        reclaims-few s P legal,
        few_in_buckets is_long node_of long_at (λ e v. refl) (suc (length s.nodes)) (λ v. length s.ids) (standing P) long-node,
        sum_same (length s.ids) (suc (length s.nodes)),
        suc-mul (length s.nodes) (length s.ids),
        mul_comm (length s.nodes) (length s.ids),
      )
