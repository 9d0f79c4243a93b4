-- The arrays of the jobs in hand, and what a hand takes of a maker and of another node.
use Rattle.std.proofs.Common.{◌≡◌, ℕ, ◌≤◌, Bool, true, false, not, cond, List, [], ◌∷◌, ◌++◌, refl, sym, ap, ◌∙◌, arith, inl, inr, Some}
use Rattle.std.specs.Prelude.{flat_map}
use Rattle.std.specs.List.{list_all, find}
use Rattle.std.proofs.lemmas.Bool.{and_parts, and_from, cases_Bool}
use Rattle.std.proofs.lemmas.List.{append-nil}
use Rattle.nd_base.specs.declared.frame.FrameName.{FrameName}
use Rattle.flow_journal.specs.declared.entry.Entry.{Entry}
use Rattle.flow_journal.specs.declared.entry.Entry.TheVariants.{Issue, Take, TakeBlock, Put, Saved, Reclaim, Load, Save}
use Rattle.flow_journal.specs.Setting.{Setting, is_maker}
use Rattle.flow_journal.specs.Pasts.{Past}
use Rattle.flow_journal.specs.Hands.{takes_up, let_go, hands, is_job, job_array}
use Rattle.flow_journal.specs.Histories.{is_legal}
use Rattle.flow_journal.proofs.Rows.{row_laws}
use Rattle.flow_journal.proofs.Hands.{row_of}
use Rattle.flow_journal.proofs.EntryCounts.{count, bit, count-cons, count-let_go}
use Rattle.flow_journal.proofs.Changes.{no_job}

-- the arrays of the jobs of the node that are in these hands
abbrev pub jobs_at : ℕ → List Entry → List FrameName
jobs_at v hs = flat_map (λ e. job_array v (Some e)) hs

pub no_jobs : (v : ℕ) (hs : List Entry) → count (is_job v) hs ≡ 0 → jobs_at v hs ≡ []
no_jobs v [] h = refl
no_jobs v (e ∷ hs) h =
    elim (cases_Bool (is_job v e)) [
      | inl job ↦ absurd (omega (arith, count-cons (is_job v) e hs, ap bit job, h))
      | inr other ↦ ap (λ (xs : List FrameName). xs ++ jobs_at v hs) (no_job v e other) ∙ no_jobs v hs (omega (arith, count-cons (is_job v) e hs, h))
    ]

-- a hand that is no job goes
pub other_goes : (v r : ℕ) (e : Entry) (hs : List Entry) → find (takes_up r) hs ≡ Some e → is_job v e ≡ false → jobs_at v (let_go r hs) ≡ jobs_at v hs
other_goes v r e [] h other = cc
other_goes v r e (x ∷ hs) h other =
    elim (cases_Bool (takes_up r x)) [
      | inl here ↦
          let found : Some x ≡ Some e = rw here at h in
          let is : x ≡ e = cc in
          let none : job_array v (Some x) ≡ [] = ap (λ (d : Entry). job_array v (Some d)) is ∙ no_job v e other in
          rw here (sym (ap (λ (xs : List FrameName). xs ++ jobs_at v hs) none))
      | inr away ↦ rw away (ap (λ (xs : List FrameName). job_array v (Some x) ++ xs) (other_goes v r e hs (rw away at h) other))
    ]

-- the one job goes
pub one_goes : (v r : ℕ) (e : Entry) (hs : List Entry) → find (takes_up r) hs ≡ Some e → is_job v e ≡ true → count (is_job v) hs ≤ 1
    → (jobs_at v hs ≡ job_array v (Some e)) × (jobs_at v (let_go r hs) ≡ [])
one_goes v r e hs h job few = (whole hs h few, no_jobs v (let_go r hs) (omega (arith, few, count-let_go (is_job v) r e hs h, ap bit job)))
  where
    whole : (hs : List Entry) → find (takes_up r) hs ≡ Some e → count (is_job v) hs ≤ 1 → jobs_at v hs ≡ job_array v (Some e)
    whole [] h few = cc
    whole (x ∷ hs) h few =
        elim (cases_Bool (takes_up r x)) [
          | inl here ↦
              let found : Some x ≡ Some e = rw here at h in
              let is : x ≡ e = cc in
              let job_x : is_job v x ≡ true = ap (is_job v) is ∙ job in
              let rest : jobs_at v hs ≡ [] = no_jobs v hs (omega (arith, few, count-cons (is_job v) x hs, ap bit job_x)) in
              ap (λ (xs : List FrameName). job_array v (Some x) ++ xs) rest ∙ (append-nil (job_array v (Some x)) ∙ ap (λ (d : Entry). job_array v (Some d)) is)
          | inr away ↦
              let found : find (takes_up r) hs ≡ Some e = rw away at h in
              let one = count-let_go (is_job v) r e hs found in
              elim (cases_Bool (is_job v x)) [
                | inl two ↦ absurd (omega (arith, few, count-cons (is_job v) x hs, ap bit two, one, ap bit job))
                | inr other ↦
                    ap (λ (xs : List FrameName). xs ++ jobs_at v hs) (no_job v x other) ∙ whole hs found (omega (arith, few, count-cons (is_job v) x hs))
              ]
        ]

-- jobs without a block are those of nodes that make nothing
abbrev pub fits : Setting → Entry → Bool
fits s (Take r w m k) = not (is_maker s w)
fits s (TakeBlock f x r w m k b n g) = is_maker s w
fits s _ = true

fits-less : (s : Setting) (r : ℕ) (hs : List Entry) → list_all (fits s) hs ≡ true → list_all (fits s) (let_go r hs) ≡ true
fits-less s r [] h = refl
fits-less s r (e ∷ hs) h =
    let p = and_parts (fits s e) (list_all (fits s) hs) h in
    elim (takes_up r e) as (λ b. list_all (fits s) (cond b hs (e ∷ let_go r hs)) ≡ true) [
      | true ↦ p.1
      | false ↦ and_from _ _ p.0 (fits-less s r hs p.1)
    ]

pub hands-fit : (s : Setting) (P : Past) → is_legal s P ≡ true → list_all (fits s) (hands P) ≡ true
hands-fit s [] h = refl
hands-fit s (Take r w m k ∷ P) h =
    let row = (row_laws.take s P r w m k).0 (row_of s (Take r w m k) P (λ d. refl) h) in
    and_from _ _ (ap not row.1) (fits-less s r (hands P) (hands-fit s P (and_parts _ _ h).0))
hands-fit s (TakeBlock f x r w m k b n g ∷ P) h =
    let row = (row_laws.take_block s P r w m k b n f g x).0 (row_of s (TakeBlock f x r w m k b n g) P (λ d. refl) h) in
    and_from _ _ row.1 (fits-less s r (hands P) (hands-fit s P (and_parts _ _ h).0))
hands-fit s (Issue r k ∷ P) h = fits-less s r (hands P) (hands-fit s P (and_parts _ _ h).0)
hands-fit s (Put r w m k f ∷ P) h = fits-less s r (hands P) (hands-fit s P (and_parts _ _ h).0)
hands-fit s (Saved r w m k ∷ P) h = fits-less s r (hands P) (hands-fit s P (and_parts _ _ h).0)
hands-fit s (Reclaim r ∷ P) h = fits-less s r (hands P) (hands-fit s P (and_parts _ _ h).0)
hands-fit s (Load r k b n f g x ∷ P) h = fits-less s r (hands P) (hands-fit s P (and_parts _ _ h).0)
hands-fit s (Save r w m k g ∷ P) h = fits-less s r (hands P) (hands-fit s P (and_parts _ _ h).0)
hands-fit s (_ ∷ P) h = hands-fit s P (and_parts _ _ h).0

pub found-fits : (s : Setting) (r : ℕ) (e : Entry) (hs : List Entry) → list_all (fits s) hs ≡ true → find (takes_up r) hs ≡ Some e → fits s e ≡ true
found-fits s r e [] all h = cc
found-fits s r e (x ∷ hs) all h =
    let p = and_parts (fits s x) (list_all (fits s) hs) all in
    elim (cases_Bool (takes_up r x)) [
      | inl here ↦ let found : Some x ≡ Some e = rw here at h in let is : x ≡ e = cc in sym (ap (fits s) is) ∙ p.0
      | inr away ↦ found-fits s r e hs p.1 (rw away at h)
    ]
