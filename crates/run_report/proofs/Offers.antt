-- What a report counts is what runs and histories speak of.
use Rattle.std.proofs.Common.{◌≡◌, ℕ, ◌+◌, arith, Bool, true, false, cond, List, [], ◌∷◌, ◌++◌, refl, sym, ap, ◌∙◌, eqb, inl, inr, pos, length, zero-add}
use Rattle.std.specs.Prelude.{flat_map, slice_index_or}
use Rattle.std.specs.List.{count_by}
use Rattle.std.proofs.lemmas.Bool.{cases_Bool, false≢true}
use Rattle.std.proofs.lemmas.List.{length_push}
use Rattle.nd_base.specs.declared.frame.FrameName.{FrameName}
use Rattle.queue_sort.specs.Sorting.{keeps_step}
use Rattle.flow_journal.specs.declared.entry.Entry.{Entry}
use Rattle.flow_journal.specs.declared.entry.Entry.TheVariants.{Load, LoadRefused, Accept, Full, Reclaim}
use Rattle.flow_journal.specs.Setting.{Setting, id_at, first_prev}
use Rattle.flow_journal.specs.RunSetting.{setting_of}
use Rattle.flow_journal.specs.Pasts.{Past, frame, comes_at}
use Rattle.flow_journal.specs.Hands.{takes_up, let_go, is_free, is_loaded, standing}
use Rattle.flow_journal.specs.Offered.{loads, offered}
use Rattle.flow_journal.specs.Breaks.{outs, breaks_of}
use Rattle.run_report.specs.Laws.{CountsAreOfRuns, OffersAreCounted, FramesAreCounted}
use Rattle.run_report.specs.Report.{is_offer, node_count, plan_setting}
use Rattle.flow_journal.specs.EntryTests.{is_refused_load}
use Rattle.run_report.proofs.Leads.{count-one, count-yes, count-no}

-- breaks go by the ids alone
breaks-same : (s u : Setting) (ks : List ℕ) → s.ids ≡ u.ids → breaks_of s ks ≡ breaks_of u ks
breaks-same s u [] same = refl
breaks-same s u (k ∷ []) same = ap (λ ids. 0 + cond (keeps_step (first_prev ids) (slice_index_or ids k (pos 0))) 0 1) same
breaks-same s u (k ∷ j ∷ ks) same =
    ap (λ n. n + cond (keeps_step (id_at s j) (id_at s k)) 0 1) (breaks-same s u (j ∷ ks) same)
    ∙ ap (λ ids. breaks_of u (j ∷ ks) + cond (keeps_step (slice_index_or ids j (pos 0)) (slice_index_or ids k (pos 0))) 0 1) same

pub counts-run : CountsAreOfRuns
counts-run p arrays P v same =
    ap (λ (n : ℕ). record (node_count (plan_setting p) P v) { breaks = n })
    (breaks-same (plan_setting p) (setting_of p.graph p.makers arrays) (outs (plan_setting p) v P) same)

-- one more array
more-offered : (P : Past) (v w : ℕ) (a : FrameName) → count_by (is_offer v) P ≡ length (offered v P)
    → cond (eqb w v) 1 0 + count_by (is_offer v) P ≡ length (comes_at v w a (offered v P))
more-offered P v w a h =
    elim (eqb w v) as (λ b. cond b 1 0 + count_by (is_offer v) P ≡ length (cond b (offered v P ++ a ∷ []) (offered v P))) [
      | true ↦ let one = length_push (offered v P) a in omega (arith, one, h)
      | false ↦ zero-add (count_by (is_offer v) P) ∙ h
    ]

pub counts-offers : OffersAreCounted
counts-offers [] v = refl
counts-offers (Accept w m k ∷ P) v = count-one (is_offer v) (Accept w m k) P ∙ more-offered P v w (frame m k) (counts-offers P v)
counts-offers (Full w m k ∷ P) v = count-one (is_offer v) (Full w m k) P ∙ more-offered P v w (frame m k) (counts-offers P v)
counts-offers (e ∷ P) v = count-no (is_offer v) e P refl ∙ counts-offers P v

-- no refusal is taken back
no_refusal : (r : ℕ) (e : Entry) → takes_up r e ≡ true → is_refused_load e ≡ false
no_refusal r (LoadRefused q k n h) up = absurd (false≢true up)
no_refusal r _ up = refl

kept : (r : ℕ) (X : Past) → count_by is_refused_load (let_go r X) ≡ count_by is_refused_load X
kept r [] = refl
kept r (e ∷ X) =
    elim (cases_Bool (takes_up r e)) [
      | inl up ↦
          ap (λ (b : Bool). count_by is_refused_load (cond b X (e ∷ let_go r X))) up
          ∙ sym (count-no is_refused_load e X (no_refusal r e up))
      | inr other ↦
          ap (λ (b : Bool). count_by is_refused_load (cond b X (e ∷ let_go r X))) other
          ∙ count-one is_refused_load e (let_go r X)
          ∙ ap (λ (n : ℕ). cond (is_refused_load e) 1 0 + n) (kept r X)
          ∙ sym (count-one is_refused_load e X)
    ]

stands-refused : (P : Past) → count_by is_refused_load (standing P) ≡ count_by is_refused_load P
stands-refused [] = refl
stands-refused (Reclaim r ∷ P) =
    count-no is_refused_load (Reclaim r) (cond (is_free r P) (standing P) (let_go r (standing P))) refl
    ∙ elim (is_free r P) as (λ b. count_by is_refused_load (cond b (standing P) (let_go r (standing P))) ≡ count_by is_refused_load P) [
      | true ↦ stands-refused P
      | false ↦ kept r (standing P) ∙ stands-refused P
    ]
    ∙ sym (count-no is_refused_load (Reclaim r) P refl)
stands-refused (e ∷ P) =
    count-one is_refused_load e (standing P) ∙ ap (λ (n : ℕ). cond (is_refused_load e) 1 0 + n) (stands-refused P) ∙ sym (count-one is_refused_load e P)

-- the loads and the refusals among some entries
both : (X : Past) → count_by is_loaded X + count_by is_refused_load X ≡ length (flat_map loads X)
both [] = refl
both (Load r k b n f g x ∷ X) =
    let l = count-yes is_loaded (Load r k b n f g x) X refl in
    let o = count-no is_refused_load (Load r k b n f g x) X refl in
    let h = both X in
    omega (arith, l, o, h)
both (LoadRefused r k n d ∷ X) =
    let l = count-no is_loaded (LoadRefused r k n d) X refl in
    let o = count-yes is_refused_load (LoadRefused r k n d) X refl in
    let h = both X in
    omega (arith, l, o, h)
both (e ∷ X) =
    ap (λ (n : ℕ). n + count_by is_refused_load (e ∷ X)) (count-no is_loaded e X refl)
    ∙ ap (λ (n : ℕ). count_by is_loaded X + n) (count-no is_refused_load e X refl)
    ∙ both X

pub counts-frames : FramesAreCounted
counts-frames P = ap (λ (n : ℕ). count_by is_loaded (standing P) + n) (sym (stands-refused P)) ∙ both (standing P)
