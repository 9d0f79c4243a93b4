-- The frames that came to the driver.
use Rattle.std.proofs.Common.{◌≡◌, ℕ, ◌+◌, true, false, ◌&&◌, eqb, List, [], ◌∷◌, length, refl, ap, ◌∙◌, arith, inl, inr, cond}
use Rattle.std.specs.Prelude.{flat_map}
use Rattle.std.specs.List.{list_all}
use Rattle.std.proofs.lemmas.Bool.{and_parts, false≢true, eqb-true, cases_Bool}
use Rattle.flow_journal.specs.declared.entry.Entry.{Entry}
use Rattle.flow_journal.specs.declared.entry.Entry.TheVariants.{Load, LoadRefused, Reclaim}
use Rattle.flow_journal.specs.Setting.{Setting, node_numbers}
use Rattle.flow_journal.specs.Pasts.{Past}
use Rattle.flow_journal.specs.Hands.{takes_up, let_go, hands, standing, is_free}
use Rattle.flow_journal.specs.Ended.{is_closed}
use Rattle.flow_journal.specs.Offered.{loads, offered_frames, next_index}
use Rattle.flow_journal.specs.IndexLaws.{below}
use Rattle.flow_journal.specs.Finished.{none_left, is_done}
use Rattle.flow_journal.proofs.EntryCounts.{count, bit, count-cons}
use Rattle.flow_journal.proofs.Indices.{index_laws}
use Rattle.run_laws.specs.Drops.{load_index, loaded_frames}
use Rattle.flow_journal.specs.EntryTests.{is_refused_load}
use Rattle.run_laws.specs.Results.{IsFinishedRun}

hand_no_refusal : (r : ℕ) (e : Entry) → takes_up r e ≡ true → is_refused_load e ≡ false
hand_no_refusal r (LoadRefused q k n z) h = absurd (false≢true h)
hand_no_refusal r _ h = refl

refusals-let_go : (r : ℕ) (es : List Entry) → count is_refused_load (let_go r es) ≡ count is_refused_load es
refusals-let_go r [] = refl
refusals-let_go r (e ∷ es) =
    elim (cases_Bool (takes_up r e)) [
      | inl here ↦ rw here (omega (arith, count-cons is_refused_load e es, ap bit (hand_no_refusal r e here)))
      | inr away ↦ rw away (omega (arith, refusals-let_go r es, count-cons is_refused_load e (let_go r es), count-cons is_refused_load e es))
    ]

-- no refusal is taken back
pub refusals-stand : (P : Past) → count is_refused_load (standing P) ≡ count is_refused_load P
refusals-stand [] = refl
refusals-stand (LoadRefused r k n z ∷ P) = omega (arith, refusals-stand P)
refusals-stand (Reclaim r ∷ P) =
    elim (is_free r P) as (λ b. count is_refused_load (Reclaim r ∷ cond b (standing P) (let_go r (standing P))) ≡ count is_refused_load P) [
      | true ↦ refusals-stand P
      | false ↦ omega (arith, refusals-let_go r (standing P), refusals-stand P)
    ]
refusals-stand (_ ∷ P) = refusals-stand P

frames-split : (P : Past) → length (flat_map loads P) ≡ length (flat_map load_index P) + count is_refused_load P
frames-split [] = refl
frames-split (Load r k b n f g x ∷ P) = omega (arith, frames-split P)
frames-split (LoadRefused r k n z ∷ P) = omega (arith, frames-split P)
frames-split (_ ∷ P) = frames-split P

-- each was loaded for good or refused
pub frames-are : (P : Past) → length (offered_frames P) ≡ length (loaded_frames P) + count is_refused_load P
frames-are P = omega (arith, frames-split (standing P), refusals-stand P)

-- and in a finished run all came
pub all-came : (s : Setting) (P : Past) → IsFinishedRun s P → offered_frames P ≡ below (length s.ids)
all-came s P run =
    let a = and_parts (is_closed P && eqb (next_index P) (length s.ids) && none_left (hands P)) (list_all (is_done s P) (node_numbers s)) run.finished in
    let b = and_parts (is_closed P && eqb (next_index P) (length s.ids)) (none_left (hands P)) a.0 in
    let c = and_parts (is_closed P) (eqb (next_index P) (length s.ids)) b.0 in
    index_laws.offered s P (and_parts _ _ run.legal).0 ∙ ap below (eqb-true (next_index P) (length s.ids) c.1)
