-- A put.
use Rattle.std.proofs.Common.{◌≡◌, ℕ, Bool, true, false, eqb, List, [], ◌∷◌, refl, sym, ap, ◌∙◌, subst, arith, Option, Some, None, if◌then◌else◌}
use Rattle.std.proofs.lemmas.Bool.{and_parts, false≢true, true≢false, eqb-true}
use Rattle.nd_base.specs.declared.frame.FrameName.{FrameName}
use Rattle.nd_base.specs.Parts.{Parts}
use Rattle.flow_journal.specs.declared.entry.Entry.{Entry}
use Rattle.flow_journal.specs.declared.entry.Entry.TheVariants.{Take, TakeBlock, Put}
use Rattle.flow_journal.specs.Setting.{Setting, is_maker}
use Rattle.flow_journal.specs.Pasts.{Past, frame, same}
use Rattle.flow_journal.specs.Hands.{hands, hand, let_go}
use Rattle.flow_journal.specs.Accounts.{block_of}
use Rattle.flow_journal.specs.Histories.{is_legal}
use Rattle.flow_journal.proofs.Steps.{same-true}
use Rattle.flow_journal.proofs.Travels.{clear-more}
use Rattle.flow_journal.proofs.Making.{is_frame, no_frame}
use Rattle.board_rules.specs.States.{BoardState, past, plain, lent_to}
use Rattle.board_rules.specs.Moving.{moved}
use Rattle.board_rules.specs.InHand.{is_job_on, granted_block, granted_size, IsWholeOf, IsMadeAs}
use Rattle.flow_journal.specs.ResultNames.{result_name}
use Rattle.board_rules.specs.Storage.{is_among}
use Rattle.board_rules.proofs.Makers.{hand-suits}
use Rattle.frame_table.specs.Kept.{Kept, Frame, kept_at, with_kept, united}
use Rattle.board_rules.specs.LastGrants.{LastGrant, InMaking, last_grant}
use Rattle.kept_blocks.specs.Keeping.{HoldsBlocks, IsRunOf}
use Rattle.kept_blocks.proofs.Granted.{making-granted}
use Rattle.kept_blocks.proofs.Rest.{later}
use Rattle.kept_blocks.proofs.Shares.{none-hold}
use Rattle.kept_blocks.proofs.Holding.{IsKeptIn, holds-in, holds-out, legal-of, rest-holds}
use Rattle.kept_blocks.proofs.Ending.{EndsHand}
use Rattle.kept_blocks.proofs.Returns.{ends-holds, done-other, made-kept}
use Rattle.kept_blocks.proofs.Backs.{HasArray, returned, with-part, with-grant}

put-ends : (s : Setting) (P : Past) (r v m k : ℕ) (fired : Bool) (d : Entry) → is_legal s P ≡ true → is_legal s (Put r v m k fired ∷ P) ≡ true
    → hand r P ≡ Some d → EndsHand s P no_frame r d (Put r v m k fired)
put-ends s P r v m k fired d before legal held = record {
  legal = legal;
  held = held;
  fewer = refl;
  unheld = none-hold (let_go r (hands P));
  others = λ x off. refl;
  same_known = refl;
  none = λ i. refl;
  ups = λ q. refl;
  downs = λ q. refl;
  same_grant = λ i no_. done-other s P r i d before held no_;
  clear = λ x gone. clear-more (is_frame x) s (Put r v m k fired) P legal refl gone;
}

maker-none : {F : Type 0} (name_of : F → FrameName) (b : Bool) (a : FrameName) → IsMadeAs name_of b a None → b ≡ false
maker-none name_of true a h = absurd h
maker-none name_of false a h = refl

module _ {F : Type 0} (name_of : F → FrameName) (parts : F → Option Parts) (s : Setting) (B : BoardState) (t : List Kept) (r v m c : ℕ) (f : F) (fired : Bool)
    (run : IsRunOf s B) (hb : HoldsBlocks parts s B t) (on : block_of (past B) (name_of f) ≡ c ∷ []) (own : parts f ≡ lent_to r B)
    (legal : is_legal s (past (moved s (plain (Put r v m (name_of f).index fired)) B)) ≡ true) where
  abbrev a : FrameName
  a = name_of f

  abbrev e : Entry
  e = Put r v m (name_of f).index fired

  first_legal : is_legal s (Put r v m (name_of f).index fired ∷ past B) ≡ true
  first_legal = let rest = later s 0 (plain (Put r v m (name_of f).index fired)) B in rest.before legal

  put-by : (o : Option Entry) → hand r (past B) ≡ o → is_job_on v (name_of f) o ≡ true → is_maker s v ≡ false
      → HoldsBlocks parts s (moved s (plain (Put r v m (name_of f).index fired)) B) (with_kept t c (united (kept_at t c) (parts f)))
  put-by None held job plain_ = absurd (false≢true job)
  put-by (Some (Take q w i k)) held job plain_ =
      let P = past B in
      let p = and_parts (eqb w v) (same (name_of f) (frame i k)) job in
      let it : name_of f ≡ frame i k = same-true (name_of f) (frame i k) p.1 in
      let d = Take q w i k in
      let rest = later s 0 (plain e) B in
      let h = holds-in parts s B t run hb in
      let l = put-ends s P r v m (name_of f).index fired d (legal-of s B run) first_legal held in
      let has : HasArray B r c (name_of f) d = record { has = p.1; counts = λ b. ap (λ (y : FrameName). is_among b (block_of P y)) (sym it); on = on } in
      let new = with_kept t c (united (kept_at t c) (parts f)) in
      holds-out parts s (moved s (plain e) B) new
      (rest-holds parts s (plain e ∷ B) (moved s (plain e) B) new rest legal
      (ends-holds parts s B t new no_frame r d e [] run h l
      (with-part parts s B t new d e [] (returned parts s B t no_frame r c (name_of f) (parts f) d e [] run h l has own refl) refl
      (λ b none. refl) (omega arith))))
  put-by (Some (TakeBlock g x q w i k b n z)) held job plain_ =
      let p = and_parts (eqb w v) (same (name_of f) (frame i k)) job in
      let suits_ : is_maker s w ≡ true = hand-suits s (past B) r (TakeBlock g x q w i k b n z) (legal-of s B run) held in
      absurd (true≢false (sym (subst (λ (j : ℕ). is_maker s j ≡ true) (eqb-true w v p.0) suits_) ∙ plain_))
  put-by (Some _) held job plain_ = absurd (false≢true job)

  pub put-plain : is_job_on v (name_of f) (hand r (past B)) ≡ true → IsMadeAs name_of (is_maker s v) (result_name s v (name_of f)) None
      → HoldsBlocks parts s (moved s (plain (Put r v m (name_of f).index fired)) B) (with_kept t c (united (kept_at t c) (parts f)))
  put-plain job made = put-by (hand r (past B)) refl job (maker-none name_of (is_maker s v) (result_name s v (name_of f)) made)

  made-by : (b : ℕ) (made : F) (o : Option Entry) → hand r (past B) ≡ o → is_job_on v (name_of f) o ≡ true → granted_block o ≡ b ∷ []
      → IsMadeAs name_of (is_maker s v) (result_name s v (name_of f)) (Some made)
      → IsWholeOf (granted_size o) (parts made)
      → HoldsBlocks parts s (moved s (plain (Put r v m (name_of f).index fired)) B)
      (with_kept (with_kept t c (united (kept_at t c) (parts f))) b (Frame (name_of made) (parts made)))
  made-by b made None held job grant kind whole = absurd (false≢true job)
  made-by b made (Some (Take q w i k)) held job grant kind whole = cc
  made-by b made (Some (TakeBlock g x q w i k j n z)) held job grant kind whole =
      let P = past B in
      let p = and_parts (eqb w v) (same (name_of f) (frame i k)) job in
      let it : name_of f ≡ frame i k = same-true (name_of f) (frame i k) p.1 in
      let at : w ≡ v = eqb-true w v p.0 in
      let d = TakeBlock g x q w i k j n z in
      let before = legal-of s B run in
      let suits_ : is_maker s v ≡ true = subst (λ (y : ℕ). is_maker s y ≡ true) at (hand-suits s P r d before held) in
      let named : name_of made ≡ frame v (name_of f).index =
      subst (λ (y : Bool). IsMadeAs name_of y (if y then frame v (name_of f).index else name_of f) (Some made)) suits_ kind in
      let made_name : frame w k ≡ name_of made = ap (λ (y : ℕ). frame y k) at ∙ (ap (λ (y : FrameName). frame v y.index) (sym it) ∙ sym named) in
      let one : j ≡ b = cc in
      let making : last_grant b P ≡ InMaking r (name_of made) n = making-granted s P r b n (name_of made) d run.pooled before held (one, made_name, refl) in
      let rest = later s 0 (plain e) B in
      let h = holds-in parts s B t run hb in
      let l = put-ends s P r v m (name_of f).index fired d before first_legal held in
      let has : HasArray B r c (name_of f) d = record { has = p.1; counts = λ y. ap (λ (u : FrameName). is_among y (block_of P u)) (sym it); on = on } in
      let mid = with_kept t c (united (kept_at t c) (parts f)) in
      let k_ = Frame (name_of made) (parts made) in
      let new = with_kept mid b k_ in
      holds-out parts s (moved s (plain e) B) new
      (rest-holds parts s (plain e ∷ B) (moved s (plain e) B) new rest legal
      (ends-holds parts s B t new no_frame r d e [] run h l
      (with-grant parts s B t mid d e [] b k_ h (returned parts s B t no_frame r c (name_of f) (parts f) d e [] run h l has own refl) grant
      (λ known_b.
      let was : IsKeptIn parts s B b (InMaking r (name_of made) n) (kept_at t b) =
      subst (λ (y : LastGrant). IsKeptIn parts s B b y (kept_at t b)) making (h.kept b known_b) in
      made-kept parts s B no_frame r b n (name_of made) made d e k_ run l making refl was.1 whole refl)
      (λ y no_ none. refl) (omega arith))))
  made-by b made (Some _) held job grant kind whole = absurd (false≢true job)

  pub put-made : (b : ℕ) (made : F) → is_job_on v (name_of f) (hand r (past B)) ≡ true → granted_block (hand r (past B)) ≡ b ∷ []
      → IsMadeAs name_of (is_maker s v) (result_name s v (name_of f)) (Some made)
      → IsWholeOf (granted_size (hand r (past B))) (parts made)
      → HoldsBlocks parts s (moved s (plain (Put r v m (name_of f).index fired)) B)
      (with_kept (with_kept t c (united (kept_at t c) (parts f))) b (Frame (name_of made) (parts made)))
  put-made b made job grant kind whole = made-by b made (hand r (past B)) refl job grant kind whole
