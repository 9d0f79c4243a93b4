-- A settled node has no job in a hand, and so nothing is put there.
use Rattle.std.proofs.Common.{◌≡◌, ℕ, Bool, true, false, eqb, [], ◌∷◌, refl, sym, ap, ◌∙◌, subst, arith, Option, Some, None, inl, inr}
use Rattle.std.proofs.lemmas.Bool.{and_parts, false≢true, true≢false, eqb-true, cases_Bool}
use Rattle.nd_base.specs.declared.frame.FrameName.{FrameName}
use Rattle.flow_journal.specs.declared.entry.Entry.{Entry}
use Rattle.flow_journal.specs.declared.entry.Entry.TheVariants.{Issue, Take, TakeBlock, Put, Settle, Saved, Reclaim, Load, Save}
use Rattle.flow_journal.specs.Setting.{Setting, node, is_role}
use Rattle.flow_journal.specs.Pasts.{Past, frame, same}
use Rattle.flow_journal.specs.Hands.{hands, hand, is_job, jobs, let_go}
use Rattle.flow_journal.specs.Ended.{is_settled}
use Rattle.flow_journal.specs.FirstEntries.{first, may_take, may_settle, is_result_of, fires_at, both}
use Rattle.flow_journal.specs.Histories.{is_legal}
use Rattle.flow_journal.proofs.Hands.{row_of}
use Rattle.flow_journal.proofs.EntryCounts.{bit, count-cons, count-let_go, count-let_go-le}
use Rattle.flow_journal.proofs.Travels.{may-Take, may-TakeBlock}
use Rattle.flow_journal.proofs.Rows.{take-facts, settle-facts}

-- what a Settle's row says of jobs
settles-idle : (s : Setting) (r v : ℕ) (P : Past) → is_legal s (Settle r v ∷ P) ≡ true → jobs v P ≡ 0
settles-idle s r v P h =
    (settle-facts s v P (and_parts (is_role s r) (may_settle s v P) (row_of s (Settle r v) P (λ d. refl) h)).1).idle

-- a take isn't at a settled node
taken-elsewhere : (s : Setting) (r v w : ℕ) (a : FrameName) (P : Past) → may_take s r w a P ≡ true → is_settled v P ≡ true → eqb w v ≡ false
taken-elsewhere s r v w a P may settled =
    elim (cases_Bool (eqb w v)) [
      | inl here ↦ absurd (true≢false (sym settled ∙ (ap (λ (u : ℕ). is_settled u P) (sym (eqb-true w v here)) ∙ (take-facts s r w a P may).unsettled)))
      | inr away ↦ away
    ]

pub settled-idle : (s : Setting) (P : Past) (v : ℕ) → is_legal s P ≡ true → is_settled v P ≡ true → jobs v P ≡ 0
settled-idle s [] v h settled = absurd (false≢true settled)
settled-idle s (Settle r w ∷ P) v h settled =
    elim (cases_Bool (eqb w v)) [
      | inl here ↦ subst (λ (u : ℕ). jobs u P ≡ 0) (eqb-true w v here) (settles-idle s r w P h)
      | inr away ↦ settled-idle s P v (and_parts _ _ h).0 (rw away at settled)
    ]
settled-idle s (Take r w m k ∷ P) v h settled =
    omega (
      arith,
      settled-idle s P v (and_parts _ _ h).0 settled,
      count-cons (is_job v) (Take r w m k) (let_go r (hands P)),
      count-let_go-le (is_job v) r (hands P),
      ap bit (taken-elsewhere s r v w (frame m k) P (may-Take s r w m k P h) settled),
    )
settled-idle s (TakeBlock f x r w m k b n g ∷ P) v h settled =
    omega (
      arith,
      settled-idle s P v (and_parts _ _ h).0 settled,
      count-cons (is_job v) (TakeBlock f x r w m k b n g) (let_go r (hands P)),
      count-let_go-le (is_job v) r (hands P),
      ap bit (taken-elsewhere s r v w (frame m k) P (may-TakeBlock s r w m k b n f g x P h) settled),
    )
settled-idle s (Issue r k ∷ P) v h settled = omega (arith, settled-idle s P v (and_parts _ _ h).0 settled, count-let_go-le (is_job v) r (hands P))
settled-idle s (Put r w m k f ∷ P) v h settled = omega (arith, settled-idle s P v (and_parts _ _ h).0 settled, count-let_go-le (is_job v) r (hands P))
settled-idle s (Saved r w m k ∷ P) v h settled = omega (arith, settled-idle s P v (and_parts _ _ h).0 settled, count-let_go-le (is_job v) r (hands P))
settled-idle s (Reclaim r ∷ P) v h settled = omega (arith, settled-idle s P v (and_parts _ _ h).0 settled, count-let_go-le (is_job v) r (hands P))
settled-idle s (Load r k b n f g x ∷ P) v h settled = omega (arith, settled-idle s P v (and_parts _ _ h).0 settled, count-let_go-le (is_job v) r (hands P))
settled-idle s (Save r w m k g ∷ P) v h settled = omega (arith, settled-idle s P v (and_parts _ _ h).0 settled, count-let_go-le (is_job v) r (hands P))
settled-idle s (_ ∷ P) v h settled = settled-idle s P v (and_parts _ _ h).0 settled

result-job : (v : ℕ) (a : FrameName) (o : Option Entry) → is_result_of v a o ≡ true → (e : Entry) × (o ≡ Some e) × (is_job v e ≡ true)
result-job v a None h = absurd (false≢true h)
result-job v a (Some (Take r w m k)) h = (Take r w m k, refl, (and_parts (eqb w v) (same a (frame m k)) h).0)
result-job v a (Some (TakeBlock f x r w m k b n g)) h = (TakeBlock f x r w m k b n g, refl, (and_parts (eqb w v) (same a (frame v k)) h).0)
result-job v a (Some _) h = absurd (false≢true h)

-- where a result is put, the node isn't settled
pub put-unsettled : (s : Setting) (r v m k : ℕ) (f : Bool) (P : Past) → is_legal s P ≡ true → first s P (Put r v m k f) ≡ true → is_settled v P ≡ false
put-unsettled s r v m k f P h row =
    let job = result-job v (frame m k) (hand r P) (and_parts (is_result_of v (frame m k) (hand r P)) (both f (fires_at s v k (node s v).work)) row).0 in
    elim (cases_Bool (is_settled v P)) [
      | inl settled ↦ absurd (omega (arith, settled-idle s P v h settled, count-let_go (is_job v) r job.0 (hands P) job.1, ap bit job.2))
      | inr running ↦ running
    ]
