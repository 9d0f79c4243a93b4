-- A part of an array is lent.
use Rattle.std.proofs.Common.{◌≡◌, ◌≢◌, ℕ, ◌+◌, ◌-◌, ◌^◌, ◌≤◌, ◌<◌, Bool, true, false, ◌||◌, eqb, List, [], ◌∷◌, length, refl, sym, ap, ◌∙◌, subst, arith}
use Rattle.std.proofs.Common.{Option, Some, None, inl, inr, if◌then◌else◌}
use Rattle.std.specs.Prelude.{IsSome}
use Rattle.std.proofs.lemmas.Bool.{true≢false, eq-eqb, ne_eqb, cases_Bool, cases_eq}
use Rattle.nd_base.specs.declared.frame.FrameName.{FrameName}
use Rattle.nd_base.specs.Parts.{Parts}
use Rattle.pool_ledger.specs.Grants.{has_number}
use Rattle.flow_journal.specs.declared.entry.Entry.{Entry}
use Rattle.flow_journal.specs.declared.entry.Entry.TheVariants.{Take, Save}
use Rattle.flow_journal.specs.Setting.{Setting}
use Rattle.flow_journal.specs.Pasts.{Past, frame, same}
use Rattle.flow_journal.specs.Hands.{hands, hand, takes_up}
use Rattle.flow_journal.specs.Queued.{queued}
use Rattle.flow_journal.specs.Unsaved.{unsaved}
use Rattle.flow_journal.specs.Accounts.{block_of, known}
use Rattle.flow_journal.specs.EntryLaws.{lets_go}
use Rattle.flow_journal.specs.Histories.{is_legal}
use Rattle.flow_journal.proofs.EntryCounts.{count, bit, count-cons}
use Rattle.flow_journal.proofs.Steps.{same-true}
use Rattle.flow_journal.proofs.Rows.{row_laws, take-facts, first_of-next}
use Rattle.flow_journal.proofs.Hands.{row_of, takes-this, hands-more}
use Rattle.flow_journal.proofs.Changes.{hand_laws}
use Rattle.flow_journal.proofs.Travels.{ClearBy, Clear, clear-more, holds, may-Take}
use Rattle.flow_journal.proofs.Making.{is_frame, no_frame}
use Rattle.board_rules.specs.States.{BoardState, past, lends, lent_to}
use Rattle.board_rules.specs.InHand.{has_part_of, OfSome}
use Rattle.board_rules.specs.Storage.{is_among, grants, is_away, has_part, parts_in_hand, parts_away, parts_here}
use Rattle.board_rules.specs.Moving.{moved}
use Rattle.frame_table.specs.Kept.{Kept, Empty, Frame, Storage, kept_at, with_kept, IsPartOf, one_less, less_one}
use Rattle.board_rules.specs.LastGrants.{LastGrant, last_grant}
use Rattle.kept_blocks.specs.Keeping.{HoldsBlocks, IsRunOf, IsFrameOn}
use Rattle.kept_blocks.proofs.Placing.{placed-on, queued-used, unsaved-used}
use Rattle.kept_blocks.proofs.Rest.{later, none-more}
use Rattle.kept_blocks.proofs.Shares.{few-parts, same-parts, none-hold}
use Rattle.kept_blocks.proofs.Holding.{changed-at, IsKeptIn, Holds, holds-in, holds-out, legal-of, keeps, rest-holds, at-same, at-other, same-length, made-frame}

-- ONE PART LESS

pub less-part : (k : Kept) (a : FrameName) (q : Option Parts) → IsPartOf k a q → IsPartOf (less_one k) a q
less-part (Frame c None) a q part = part
less-part (Frame c (Some p)) a q part = part
less-part Empty a q part = part
less-part (Storage n u) a q part = part

less-tells : (p : Option Parts) → IsSome p → IsSome (one_less p)
less-tells None some = absurd (true≢false (sym some))
less-tells (Some p) some = refl

less-here : (p : Option Parts) (n m : ℕ) → m ≤ 300 → OfSome (λ q. (q.size ≡ n) × (q.here ≡ 2 ^ 32 - m)) p
    → OfSome (λ q. (q.size ≡ n) × (q.here ≡ 2 ^ 32 - (1 + m))) (one_less p)
less-here None n m few here = tt
less-here (Some p) n m few here = (here.0, omega (arith, here.1, few))

-- the frame once one part is lent, where one more is in hands
pub less-frame : {F : Type 0} (parts : F → Option Parts) (B new : BoardState) (b n : ℕ) (a : FrameName) (k : Kept)
    → parts_in_hand (past B) b + parts_away b B ≤ 300
    → parts_in_hand (past new) b ≡ 1 + parts_in_hand (past B) b → parts_away b new ≡ parts_away b B → IsFrameOn parts B b a n k
    → IsFrameOn parts new b a n (less_one k)
less-frame parts B new b n a k few more gone f =
    let m = parts_in_hand (past B) b + parts_away b B in
    let sum : 1 + m ≡ parts_in_hand (past new) b + parts_away b new = omega (arith, more, gone) in
    record {
      its_parts = one_less f.its_parts;
      is = ap less_one f.is;
      tells = λ tell. less-tells f.its_parts (f.tells tell);
      here = subst (λ (i : ℕ). OfSome (λ p. (p.size ≡ n) × (p.here ≡ 2 ^ 32 - i)) (one_less f.its_parts)) sum (less-here f.its_parts n m few f.here);
    }

-- IN HANDS

-- the entry gives a hand with a part of this array, and changes the block of none but what it makes, which no hand has
pub record LendsOf (s : Setting) (P : Past) (w : FrameName → Bool) (r : ℕ) (a : FrameName) (e : Entry) : Type 0 where
  pub legal : is_legal s (e ∷ P) ≡ true
  pub up : takes_up r e ≡ true
  pub mine : (x : FrameName) → has_part_of x (Some e) ≡ true → x ≡ a
  pub part : (b : ℕ) → has_part (e ∷ P) b e ≡ is_among b (block_of (e ∷ P) a)
  pub keeps_hands : (q : ℕ) → lets_go q e ≡ false
  pub unheld : count (holds w) (hands P) ≡ 0
  pub others : (x : FrameName) → w x ≡ false → block_of (e ∷ P) x ≡ block_of P x
  pub own : w a ≡ false

pub among-one : (b c : ℕ) → is_among b (c ∷ []) ≡ eqb c b
among-one b c = or-none (eqb c b)
  where
    or-none : (x : Bool) → (x || false) ≡ x
    or-none true = refl
    or-none false = refl

pub lent-shares : (s : Setting) (P : Past) (w : FrameName → Bool) (r c : ℕ) (a : FrameName) (e : Entry) → LendsOf s P w r a e → block_of P a ≡ c ∷ [] → (b : ℕ)
    → parts_in_hand (e ∷ P) b ≡ bit (eqb c b) + parts_in_hand P b
lent-shares s P w r c a e l on b =
    let Q = e ∷ P in
    let whole : parts_in_hand Q b ≡ count (has_part Q b) (e ∷ hands P) = ap (count (has_part Q b)) (hands-more s r e P l.up l.legal) in
    let own : has_part Q b e ≡ eqb c b = l.part b ∙ (ap (is_among b) (l.others a l.own ∙ on) ∙ among-one b c) in
    omega (arith, whole, count-cons (has_part Q b) e (hands P), ap bit own, same-parts Q P w l.others b (hands P) l.unheld)

-- what roles were lent is one part of what is kept then
pub lent-lent : {F : Type 0} (parts : F → Option Parts) (s : Setting) (B : BoardState) (t new : List Kept)
    (w : FrameName → Bool) (r c : ℕ) (a : FrameName) (q : Option Parts) (e : Entry)
    → LendsOf s (past B) w r a e → ((p : ℕ) (x : FrameName) → has_part_of x (hand p (past B)) ≡ true → w x ≡ false)
    → block_of (past B) a ≡ c ∷ [] → IsPartOf (kept_at t c) a q
    → kept_at new c ≡ less_one (kept_at t c)
    → ((p b : ℕ) (x : FrameName) → has_part_of x (hand p (past B)) ≡ true → block_of (past B) x ≡ b ∷ [] → b ≢ c → kept_at new b ≡ kept_at t b)
    → Holds parts s B t → (p b : ℕ) (x : FrameName) → has_part_of x (hand p (e ∷ past B)) ≡ true → block_of (e ∷ past B) x ≡ b ∷ []
    → IsPartOf (kept_at new b) x (lent_to p (lends e q ∷ B))
lent-lent parts s B t new w r c a q e l apart on part less other h p b x has at =
    let P = past B in
    elim (cases_Bool (takes_up p e)) [
      | inl up ↦
          let mine : x ≡ a = l.mine x (ap (has_part_of x) (sym (takes-this p e P up)) ∙ has) in
          let blocks : b ∷ [] ≡ c ∷ [] = sym at ∙ (ap (block_of (e ∷ P)) mine ∙ (l.others a l.own ∙ on)) in
          let here : b ≡ c = cc in
          let lent : lent_to p (lends e q ∷ B) ≡ q = ap (λ (y : Bool). if y then q else lent_to p B) up in
          let kept : IsPartOf (kept_at new c) a q = subst (λ (k : Kept). IsPartOf k a q) (sym less) (less-part (kept_at t c) a q part) in
          subst (λ (i : ℕ). IsPartOf (kept_at new i) x (lent_to p (lends e q ∷ B))) (sym here)
          (subst (λ (y : FrameName). IsPartOf (kept_at new c) y (lent_to p (lends e q ∷ B))) (sym mine)
          (subst (λ (o : Option Parts). IsPartOf (kept_at new c) a o) (sym lent) kept))
      | inr not_up ↦
          let had : has_part_of x (hand p P) ≡ true = ap (has_part_of x) (sym (hand_laws.others p e P not_up (l.keeps_hands p))) ∙ has in
          let was : block_of P x ≡ b ∷ [] = sym (l.others x (apart p x had)) ∙ at in
          let lent : lent_to p (lends e q ∷ B) ≡ lent_to p B = ap (λ (y : Bool). if y then q else lent_to p B) not_up in
          let before : IsPartOf (kept_at t b) x (lent_to p B) = h.lent p b x had was in
          subst (λ (o : Option Parts). IsPartOf (kept_at new b) x o) (sym lent)
          (elim (cases_eq b c) [
            | inl here ↦
                let less_b : kept_at new b ≡ less_one (kept_at t b) = subst (λ (i : ℕ). kept_at new i ≡ less_one (kept_at t i)) (sym here) less in
                subst (λ (k : Kept). IsPartOf k x (lent_to p B)) (sym less_b) (less-part (kept_at t b) x (lent_to p B) before)
            | inr ne ↦ subst (λ (k : Kept). IsPartOf k x (lent_to p B)) (sym (other p b x had was ne)) before
          ])
    ]

-- A TAKE AND A SAVE

-- the entry changes no grant
pub record GrantsNone (s : Setting) (P : Past) (e : Entry) : Type 0 where
  pub same_known : known s (e ∷ P) ≡ known s P
  pub same_grants : (b : ℕ) → last_grant b (e ∷ P) ≡ last_grant b P
  pub none : (b : ℕ) → grants b e ≡ false
  pub clear : (a : FrameName) → Clear (is_frame a) s P → Clear (is_frame a) s (e ∷ P)

-- nothing is told to be lost
pub gone-same : (b : ℕ) (e : Entry) (q : Option Parts) (B : BoardState) → grants b e ≡ false → parts_away b (lends e q ∷ B) ≡ parts_away b B
gone-same b e q B none = ap (λ (y : Bool). if y then 0 else 0 + parts_away b B) none ∙ none-more (parts_away b B)

pub away-same : (b : ℕ) (e : Entry) (q : Option Parts) (B : BoardState) → grants b e ≡ false → is_away b (lends e q ∷ B) ≡ is_away b B
away-same b e q B none = ap (λ (y : Bool). if y then false else is_away b B) none

pub lends-holds : {F : Type 0} (parts : F → Option Parts) (s : Setting) (B : BoardState) (t : List Kept) (r c : ℕ) (a : FrameName) (q : Option Parts)
    (e : Entry) → IsRunOf s B → Holds parts s B t
    → LendsOf s (past B) no_frame r a e → GrantsNone s (past B) e → (ClearBy no_frame (is_frame a) s (past B) → ⊥)
    → block_of (past B) a ≡ c ∷ [] → IsPartOf (kept_at t c) a q
    → Holds parts s (lends e q ∷ B) (with_kept t c (less_one (kept_at t c)))
lends-holds parts s B t r c a q e run h l g used on part =
    let P = past B in
    let new = with_kept t c (less_one (kept_at t c)) in
    let legal = legal-of s B run in
    let p = placed-on s P c a run.pooled legal on used in
    let place : c < length t = h.places c p.0 in
    let less : kept_at new c ≡ less_one (kept_at t c) = at-same t c (less_one (kept_at t c)) place in
    let known_before : (b : ℕ) → has_number b (known s (e ∷ P)) ≡ true → has_number b (known s P) ≡ true =
    λ b is. subst (λ bs. has_number b bs ≡ true) g.same_known is in
    record {
      places = λ b is. subst (λ (n : ℕ). b < n) (sym (same-length t c (less_one (kept_at t c)))) (h.places b (known_before b is));
      kept = λ b is. subst (λ (x : LastGrant). IsKeptIn parts s (lends e q ∷ B) b x (kept_at new b)) (sym (g.same_grants b)) (elim (cases_eq b c) [
        | inl here ↦
            let frame_before : IsFrameOn parts B c a p.1.0 (kept_at t c) =
            made-frame parts s B c p.1.0 a (kept_at t c) used (subst (λ (x : LastGrant). IsKeptIn parts s B c x (kept_at t c)) p.1.1 (h.kept c p.0)) in
            let more : parts_in_hand (e ∷ P) c ≡ 1 + parts_in_hand P c =
            lent-shares s P no_frame r c a e l on c ∙ ap (λ (y : Bool). bit y + parts_in_hand P c) (eq-eqb c c refl) in
            let now_ : IsFrameOn parts (lends e q ∷ B) c a p.1.0 (kept_at new c) =
            subst (λ (k : Kept). IsFrameOn parts (lends e q ∷ B) c a p.1.0 k) (sym less) (less-frame parts B (lends e q ∷ B) c p.1.0 a (kept_at t c)
            (few-parts s B c run.few legal h.lost) more (gone-same c e q B (g.none c)) frame_before) in
            let at_c : IsKeptIn parts s (lends e q ∷ B) c (last_grant c P) (kept_at new c) =
            subst (λ (x : LastGrant). IsKeptIn parts s (lends e q ∷ B) c x (kept_at new c)) (sym p.1.1) (inl now_) in
            subst (λ (i : ℕ). IsKeptIn parts s (lends e q ∷ B) i (last_grant i P) (kept_at new i)) (sym here) at_c
        | inr ne ↦
            let as_many : parts_in_hand (e ∷ P) b ≡ parts_in_hand P b =
            lent-shares s P no_frame r c a e l on b
            ∙ (ap (λ (y : Bool). bit y + parts_in_hand P b) (ne_eqb c b (λ i. ne (sym i))) ∙ none-more (parts_in_hand P b)) in
            let same_here : parts_here (lends e q ∷ B) b ≡ parts_here B b =
            ap (λ (i : ℕ). 2 ^ 32 - (i + parts_away b (lends e q ∷ B))) as_many
            ∙ ap (λ (i : ℕ). 2 ^ 32 - (parts_in_hand P b + i)) (gone-same b e q B (g.none b)) in
            subst (λ (k : Kept). IsKeptIn parts s (lends e q ∷ B) b (last_grant b P) k) (sym (at-other t c b (less_one (kept_at t c)) ne))
            (keeps parts s B (lends e q ∷ B) b (last_grant b P) (kept_at t b) same_here (away-same b e q B (g.none b)) (gone-same b e q B (g.none b))
            (λ x n made gone. g.clear x gone) (h.kept b (known_before b is)))
      ]);
      lent = lent-lent parts s B t new no_frame r c a q e l (λ p_ x had. refl) on part less (λ p_ b x had was ne. at-other t c b (less_one (kept_at t c)) ne) h;
      lost = (omega arith, h.lost);
      only = λ b un. changed-at less_one refl t c b (h.only b (subst (λ bs. has_number b bs ≡ false) g.same_known un));
    }

same-frame : (m k : ℕ) (x : FrameName) → same x (frame m k) ≡ true → x ≡ frame m k
same-frame m k x h = same-true x (frame m k) h

take-lends : (s : Setting) (P : Past) (r v m k : ℕ) → is_legal s (Take r v m k ∷ P) ≡ true → LendsOf s P no_frame r (frame m k) (Take r v m k)
take-lends s P r v m k legal = record {
  legal = legal;
  up = eq-eqb r r refl;
  mine = λ x h. same-frame m k x h;
  part = λ b. refl;
  keeps_hands = λ q. refl;
  unheld = none-hold (hands P);
  others = λ x off. refl;
  own = refl;
}

save-lends : (s : Setting) (P : Past) (r v m k g : ℕ) → is_legal s (Save r v m k g ∷ P) ≡ true → LendsOf s P no_frame r (frame m k) (Save r v m k g)
save-lends s P r v m k g legal = record {
  legal = legal;
  up = eq-eqb r r refl;
  mine = λ x h. same-frame m k x h;
  part = λ b. refl;
  keeps_hands = λ q. refl;
  unheld = none-hold (hands P);
  others = λ x off. refl;
  own = refl;
}

pub take-law : {F : Type 0} (parts : F → Option Parts) (s : Setting) (B : BoardState) (t : List Kept) (r v c : ℕ) (a : FrameName) (q : Option Parts)
    → IsRunOf s B → HoldsBlocks parts s B t
    → block_of (past B) a ≡ c ∷ [] → IsPartOf (kept_at t c) a q → is_legal s (past (moved s (lends (Take r v a.maker a.index) q) B)) ≡ true
    → HoldsBlocks parts s (moved s (lends (Take r v a.maker a.index) q) B) (with_kept t c (less_one (kept_at t c)))
take-law parts s B t r v c a q run hb on part legal =
    let P = past B in
    let e = Take r v a.maker a.index in
    let new = with_kept t c (less_one (kept_at t c)) in
    let rest = later s 0 (lends e q) B in
    let first_legal : is_legal s (e ∷ P) ≡ true = rest.before legal in
    let facts = take-facts s r v a P (may-Take s r v a.maker a.index P first_legal) in
    let g : GrantsNone s P e =
    record { same_known = refl; same_grants = λ b. refl; none = λ b. refl; clear = λ x gone. clear-more (is_frame x) s e P first_legal refl gone } in
    holds-out parts s (moved s (lends e q) B) new
    (rest-holds parts s (lends e q ∷ B) (moved s (lends e q) B) new rest legal
    (lends-holds parts s B t r c a q e run (holds-in parts s B t run hb) (take-lends s P r v a.maker a.index first_legal) g
    (queued-used s P v a (first_of-next a (queued v P) facts.front)) on part))

pub save-law : {F : Type 0} (parts : F → Option Parts) (s : Setting) (B : BoardState) (t : List Kept) (r v i c : ℕ) (a : FrameName) (q : Option Parts)
    → IsRunOf s B → HoldsBlocks parts s B t
    → block_of (past B) a ≡ c ∷ [] → IsPartOf (kept_at t c) a q → is_legal s (past (moved s (lends (Save r v a.maker a.index i) q) B)) ≡ true
    → HoldsBlocks parts s (moved s (lends (Save r v a.maker a.index i) q) B) (with_kept t c (less_one (kept_at t c)))
save-law parts s B t r v i c a q run hb on part legal =
    let P = past B in
    let e = Save r v a.maker a.index i in
    let new = with_kept t c (less_one (kept_at t c)) in
    let rest = later s 0 (lends e q) B in
    let first_legal : is_legal s (e ∷ P) ≡ true = rest.before legal in
    let facts = (row_laws.save s P r v a.maker a.index i).0 (row_of s e P (λ d. refl) first_legal) in
    let g : GrantsNone s P e =
    record { same_known = refl; same_grants = λ b. refl; none = λ b. refl; clear = λ x gone. clear-more (is_frame x) s e P first_legal refl gone } in
    holds-out parts s (moved s (lends e q) B) new
    (rest-holds parts s (lends e q ∷ B) (moved s (lends e q) B) new rest legal
    (lends-holds parts s B t r c a q e run (holds-in parts s B t run hb) (save-lends s P r v a.maker a.index i first_legal) g
    (unsaved-used s P v a (first_of-next a (unsaved s v P) facts.piece.front)) on part))
