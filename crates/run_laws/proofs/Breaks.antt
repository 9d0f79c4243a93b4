-- So the breaks of a sorted node are those of its emissions that are marked late or flush.
use Rattle.std.proofs.Common.{◌≡◌, ◌≢◌, ℕ, ◌+◌, Bool, true, false, not, ◌&&◌, cond, eqb, List, [], ◌∷◌, ◌++◌, refl, sym, ap, ◌∙◌, subst, arith, inl, inr}
use Rattle.std.proofs.Common.{◌⊎◌, Some}
use Rattle.std.proofs.lemmas.Bool.{and_parts, false≢true, true≢false, eq-eqb, eqb-true, eqb-false, cases_Bool}
use Rattle.flow_journal.proofs.Looks.{sorted_no_file}
use Rattle.flow_journal.specs.declared.entry.Entry.{Entry}
use Rattle.flow_journal.specs.declared.entry.Entry.TheVariants.{Emit, Save, Reclaim}
use Rattle.flow_journal.specs.declared.entry.Why.{Why}
use Rattle.flow_journal.specs.declared.entry.Why.TheVariants.{Late, Flush}
use Rattle.flow_journal.specs.Unsaved.{is_file}
use Rattle.flow_journal.specs.Hands.{hand}
use Rattle.flow_journal.proofs.Histories.{legal-front}
use Rattle.flow_journal.proofs.Rows.{row_laws}
use Rattle.flow_journal.proofs.Hands.{row_of}
use Rattle.flow_journal.proofs.Jobs.{reclaim_hand}
use Rattle.flow_journal.proofs.Pieces.{piece-file}
use Rattle.run_laws.specs.OrderLaws.{may_break, marked_breaks}
use Rattle.flow_journal.specs.Setting.{Setting, Work, Makes, Passes, Watches, Saves, node, may_sort, id_at, is_sorted}
use Rattle.flow_journal.specs.Pasts.{Past}
use Rattle.queue_sort.specs.Sorting.{keeps_step}
use Rattle.flow_journal.specs.Breaks.{prev, breaks}
use Rattle.flow_journal.specs.Histories.{is_legal}
use Rattle.flow_journal.proofs.Changes.{break_laws}
use Rattle.flow_journal.proofs.EntryCounts.{owed-answered}
use Rattle.run_laws.proofs.Steps.{fits, chain, fits-same, emit-answers, steps}

pub sorted-node : (s : Setting) (v : ℕ) → is_sorted s v ≡ true → v ≢ 0
sorted-node s v sorted e = false≢true (sym (ap (is_sorted s) e) ∙ sorted)

-- so each emission of a sorted node keeps step or is marked late or flush
pub emission-fits : (s : Setting) (P : Past) (v m k : ℕ) (why : Why) → is_sorted s v ≡ true → is_legal s (Emit v m k why ∷ P) ≡ true
    → fits why (keeps_step (prev s v P) (id_at s k)) ≡ true
emission-fits s P v m k why sorted h =
    let a = owed-answered s (Emit v m k why) P refl h in
    let x = emit-answers s P v m k why a.head a.answer in
    let c : chain s v (prev s v P) (Emit v m k x.0 ∷ a.rest) ≡ true =
    subst (λ (ds : List Entry). chain s v (prev s v P) ds ≡ true) (a.is ∙ ap (λ (d : Entry). d ∷ a.rest) x.1)
    (steps s P v (sorted-node s v sorted) sorted (and_parts _ _ h).0) in
    let both : (fits x.0 (keeps_step (prev s v P) (id_at s k)) && chain s v (id_at s k) a.rest) ≡ true = rw (eq-eqb v v refl) at c in
    fits-same x.0 why (keeps_step (prev s v P) (id_at s k)) x.2
    (and_parts (fits x.0 (keeps_step (prev s v P) (id_at s k))) (chain s v (id_at s k) a.rest) both).0

pub marked : (s : Setting) (newer P : Past) (v m k : ℕ) (why : Why) → is_sorted s v ≡ true → is_legal s (newer ++ Emit v m k why ∷ P) ≡ true
    → keeps_step (prev s v P) (id_at s k) ≡ false → (why ≡ Late) ⊎ (why ≡ Flush)
marked s newer P v m k why sorted h out =
    by why (subst (λ (b : Bool). fits why b ≡ true) out (emission-fits s P v m k why sorted (legal-front s newer (Emit v m k why ∷ P) h)))
  where
    by : (why : Why) → fits why false ≡ true → (why ≡ Late) ⊎ (why ≡ Flush)
    by Late f = inl refl
    by Flush f = inr refl
    by _ f = absurd (false≢true f)

file_unsorted : (w : Work) → is_file w ≡ true → may_sort w ≡ false
file_unsorted Makes h = absurd (false≢true h)
file_unsorted (Passes d) h = absurd (false≢true h)
file_unsorted (Watches pre post preset) h = refl
file_unsorted (Saves whole n) h = refl

-- so each break is that of such an emission
pub counted : (s : Setting) (P : Past) (v : ℕ) → is_sorted s v ≡ true → is_legal s P ≡ true → breaks s v P ≡ marked_breaks s v P
counted s [] v sorted h = refl
counted s (Emit w m k why ∷ P) v sorted h =
    let before = counted s P v sorted (and_parts _ _ h).0 in
    let steps : Bool = keeps_step (prev s v P) (id_at s k) in
    elim (cases_Bool (eqb w v)) [
      | inr away ↦
          omega (
            arith,
            before,
            break_laws.emit_elsewhere s v w m k why P (eqb-false w v away),
            ap (λ (b : Bool). let n : ℕ = cond (b && not steps) 1 0 in n) (elsewhere why away),
          )
      | inl here ↦
          let is : w ≡ v = eqb-true w v here in
          let now_breaks : breaks s v (Emit w m k why ∷ P) ≡ breaks s v P + cond steps 0 1 =
          subst (λ (u : ℕ). breaks s v (Emit u m k why ∷ P) ≡ breaks s v P + cond steps 0 1) (sym is)
          (break_laws.emit s v m k why P (sorted_no_file s v sorted)) in
          let fit : fits why steps ≡ true = emission-fits s P v m k why sorted (subst (λ (u : ℕ). is_legal s (Emit u m k why ∷ P) ≡ true) is h) in
          omega (arith, before, now_breaks, same why steps fit here)
    ]
  where
    elsewhere : (why : Why) → eqb w v ≡ false → may_break v (Emit w m k why) ≡ false
    elsewhere Late away = away
    elsewhere Flush away = away
    elsewhere _ away = refl

    same : (why : Why) (b : Bool) → fits why b ≡ true → eqb w v ≡ true → ◌≡◌ {A = ℕ} (cond b 0 1) (cond (may_break v (Emit w m k why) && not b) 1 0)
    same why true f here = elim (may_break v (Emit w m k why)) as (λ (b : Bool). ◌≡◌ {A = ℕ} 0 (cond (b && false) 1 0)) [ true ↦ refl | false ↦ refl ]
    same Late false f here = rw here refl
    same Flush false f here = rw here refl
    same _ false f here = absurd (false≢true f)
counted s (Save r w m k g ∷ P) v sorted h =
    let before = counted s P v sorted (and_parts _ _ h).0 in
    elim (cases_Bool (eqb w v)) [
      | inr away ↦ omega (arith, before, break_laws.save_elsewhere s r v w m k g P (eqb-false w v away))
      | inl here ↦
          let file = ((row_laws.save s P r w m k g).0 (row_of s (Save r w m k g) P (λ d. refl) h)).piece.file in
          let off : may_sort (node s v).work ≡ false =
          subst (λ (u : ℕ). may_sort (node s u).work ≡ false) (eqb-true w v here) (file_unsorted (node s w).work file) in
          absurd (true≢false (sym (and_parts _ _ sorted).0 ∙ off))
    ]
counted s (Reclaim r ∷ P) v sorted h =
    let legal : is_legal s P ≡ true = (and_parts _ _ h).0 in
    let e = reclaim_hand s r P h in
    by e.0 e.1 (counted s P v sorted legal) legal
  where
    never : (w : ℕ) → w ≡ v → is_file (node s w).work ≡ true → breaks s v (Reclaim r ∷ P) ≡ marked_breaks s v P
    never w is file =
        absurd (true≢false (sym (and_parts _ _ sorted).0 ∙ subst (λ (u : ℕ). may_sort (node s u).work ≡ false) is (file_unsorted (node s w).work file)))

    by : (e : Entry) → hand r P ≡ Some e → breaks s v P ≡ marked_breaks s v P → is_legal s P ≡ true → breaks s v (Reclaim r ∷ P) ≡ marked_breaks s v P
    by (Save q w m k g) held before legal =
        elim (cases_Bool (eqb w v)) [
          | inl here ↦ never w (eqb-true w v here) (piece-file s r q w m k g P legal held)
          | inr away ↦ omega (arith, before, break_laws.reclaim_other s r v (Save q w m k g) P legal held away)
        ]
    by e held before legal = omega (arith, before, break_laws.reclaim_other s r v e P legal held refl)
counted s (_ ∷ P) v sorted h = counted s P v sorted (and_parts _ _ h).0
