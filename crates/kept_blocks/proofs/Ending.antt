-- A hand ends: what it had of its array comes back or stays away, and what was made on its block is kept or taken back.
use Rattle.std.proofs.Common.{◌≡◌, ℕ, ◌+◌, ◌-◌, ◌^◌, ◌≤◌, Bool, true, false, ◌||◌, eqb, List, [], ◌∷◌, length, refl, sym, ap, ◌∙◌, subst, arith, Option}
use Rattle.std.proofs.Common.{Some, None, inl, inr, if◌then◌else◌}
use Rattle.std.specs.Prelude.{IsSome}
use Rattle.std.proofs.lemmas.Bool.{false≢true, true≢false, eqb-true, cases_Bool, or_parts}
use Rattle.nd_base.specs.declared.frame.FrameName.{FrameName}
use Rattle.nd_base.specs.Parts.{Parts}
use Rattle.pool_ledger.specs.Grants.{has_number}
use Rattle.flow_journal.specs.declared.entry.Entry.{Entry}
use Rattle.flow_journal.specs.declared.entry.Entry.TheVariants.{Load, Take, TakeBlock, Save}
use Rattle.flow_journal.specs.Setting.{Setting}
use Rattle.flow_journal.specs.Pasts.{Past, frame}
use Rattle.flow_journal.specs.Hands.{hands, hand, takes_up, let_go}
use Rattle.flow_journal.specs.Accounts.{block_of, known}
use Rattle.flow_journal.specs.EntryLaws.{lets_go}
use Rattle.flow_journal.specs.Histories.{is_legal}
use Rattle.flow_journal.proofs.EntryCounts.{count, bit, count-cons, count-let_go}
use Rattle.flow_journal.proofs.Steps.{same-true, same_refl}
use Rattle.flow_journal.proofs.Changes.{hand_laws}
use Rattle.flow_journal.proofs.Found.{none_counted}
use Rattle.flow_journal.proofs.AccountChanges.{block_laws}
use Rattle.flow_journal.proofs.Travels.{ClearBy, Clear, holds, holds_by, bit-none, hand-clear}
use Rattle.flow_journal.proofs.Making.{is_frame, no_frame}
use Rattle.board_rules.specs.declared.told.Told.{Told}
use Rattle.board_rules.specs.States.{BoardState, past, lent_to}
use Rattle.board_rules.specs.InHand.{has_part_of, granted_block, OfSome}
use Rattle.board_rules.specs.Storage.{is_among, grants, is_away, has_part, parts_in_hand, parts_away, parts_here}
use Rattle.frame_table.specs.Kept.{Kept, Empty, Frame, Storage, kept_at, IsPartOf, one_part, together, united}
use Rattle.board_rules.specs.LastGrants.{LastGrant, InMaking, Made, last_grant}
use Rattle.kept_blocks.specs.Keeping.{IsRunOf, IsFrameOn, LoseFew}
use Rattle.kept_blocks.proofs.Granted.{Makes, making-granted, makes-block, makes-placed, alone-making, alone-from}
use Rattle.kept_blocks.proofs.Tied.{is_array_of, tied}
use Rattle.kept_blocks.proofs.Placing.{known-at, placed-on, hand-used}
use Rattle.kept_blocks.proofs.Rest.{none-more}
use Rattle.kept_blocks.proofs.Shares.{few-parts, same-parts}
use Rattle.kept_blocks.proofs.Holding.{IsKeptIn, Holds, legal-of, keeps, frame-stays}
use Rattle.kept_blocks.proofs.Lending.{among-one}
use Rattle.kept_blocks.proofs.Looks.{part-equal}

some-same : {X : Type 0} {x y : X} → Some x ≡ Some y → x ≡ y
some-same h = cc

-- NO PART

one-of : (b : ℕ) (bs : List ℕ) → length bs ≤ 1 → is_among b bs ≡ true → bs ≡ b ∷ []
one-of b [] few h = absurd (false≢true h)
one-of b (c ∷ []) few h = ap (λ (i : ℕ). i ∷ []) (eqb-true c b (sym (among-one b c) ∙ h))
one-of b (c ∷ d ∷ bs) few h = absurd (omega (arith, few))

-- where arrays on the block are in no hand that has a part, no hand has one of the block
none-of : (P : Past) (b : ℕ) (hs : List Entry)
    → ((x : FrameName) → block_of P x ≡ b ∷ [] → count (holds_by no_frame (is_frame x)) hs ≡ 0) → count (has_part P b) hs ≡ 0
none-of P b [] none = refl
none-of P b (e ∷ hs) none =
    let rest = none-of P b hs (λ x on. omega (arith, none x on, count-cons (holds_by no_frame (is_frame x)) e hs)) in
    omega (
      arith,
      rest,
      count-cons (has_part P b) e hs,
      ap bit (off e (λ x on. bit-none (holds_by no_frame (is_frame x) e) (omega (arith, none x on, count-cons (holds_by no_frame (is_frame x)) e hs)))),
    )
  where
    apart : (x : FrameName) → (block_of P x ≡ b ∷ [] → is_frame x x ≡ false) → is_among b (block_of P x) ≡ false
    apart x no_ =
        elim (cases_Bool (is_among b (block_of P x))) [
          | inl is ↦ absurd (true≢false (sym (same_refl x) ∙ no_ (one-of b (block_of P x) (block_laws.one P x) is)))
          | inr other ↦ other
        ]

    off : (e : Entry) → ((x : FrameName) → block_of P x ≡ b ∷ [] → holds_by no_frame (is_frame x) e ≡ false) → has_part P b e ≡ false
    off (Take r v m k) no_ = apart (frame m k) (no_ (frame m k))
    off (TakeBlock f x r v m k c n g) no_ = apart (frame m k) (no_ (frame m k))
    off (Save r v m k g) no_ = apart (frame m k) (no_ (frame m k))
    off _ no_ = refl

pub no-parts : (s : Setting) (P : Past) (b : ℕ) → ((x : FrameName) → block_of P x ≡ b ∷ [] → ClearBy no_frame (is_frame x) s P) → parts_in_hand P b ≡ 0
no-parts s P b clear = none-of P b (hands P) (λ x on. (clear x on).roles)

-- of a block with which an array is made no hand has a part
pub no-parts-making : (s : Setting) (P : Past) (r b n : ℕ) (a : FrameName) → s.pooled ≡ true → is_legal s P ≡ true
    → last_grant b P ≡ InMaking r a n → parts_in_hand P b ≡ 0
no-parts-making s P r b n a pooled legal making =
    no-parts s P b (λ x on. elim (tied s P b x pooled legal on) [
      | inl mine ↦
          let it : a ≡ x = same-true a x (sym (ap (is_array_of x) making) ∙ mine) in
          subst (λ (y : FrameName). ClearBy no_frame (is_frame y) s P) it (alone-making s P r b n a pooled legal making)
      | inr gone ↦ alone-from s P x gone
    ])

-- THE END OF A HAND

-- the entry ends the hand d of the role, and changes the block of none but what was made, which no other hand has
pub record EndsHand (s : Setting) (P : Past) (w : FrameName → Bool) (r : ℕ) (d e : Entry) : Type 0 where
  pub legal : is_legal s (e ∷ P) ≡ true
  pub held : hand r P ≡ Some d
  pub fewer : hands (e ∷ P) ≡ let_go r (hands P)
  pub unheld : count (holds w) (let_go r (hands P)) ≡ 0
  pub others : (x : FrameName) → w x ≡ false → block_of (e ∷ P) x ≡ block_of P x
  pub same_known : known s (e ∷ P) ≡ known s P
  pub none : (b : ℕ) → grants b e ≡ false
  pub ups : (q : ℕ) → takes_up q e ≡ false
  pub downs : (q : ℕ) → lets_go q e ≡ eqb r q
  pub same_grant : (b : ℕ) → is_among b (granted_block (Some d)) ≡ false → last_grant b (e ∷ P) ≡ last_grant b P
  pub clear : (a : FrameName) → Clear (is_frame a) s P → Clear (is_frame a) s (e ∷ P)

-- the entry, with what was lost beside it
abbrev pub ends : Entry → List ℕ → Told
ends e L = record { entry = e; lent = None; lost = L }

pub fewer-parts : (s : Setting) (P : Past) (w : FrameName → Bool) (r : ℕ) (d e : Entry) → EndsHand s P w r d e → (b : ℕ)
    → parts_in_hand P b ≡ bit (has_part P b d) + parts_in_hand (e ∷ P) b
fewer-parts s P w r d e l b =
    let Q = e ∷ P in
    let after : parts_in_hand Q b ≡ count (has_part Q b) (let_go r (hands P)) = ap (count (has_part Q b)) l.fewer in
    omega (arith, count-let_go (has_part P b) r d (hands P) l.held, after, same-parts Q P w l.others b (let_go r (hands P)) l.unheld)

pub gone-then : (b : ℕ) (e : Entry) (L : List ℕ) (B : BoardState) → grants b e ≡ false → parts_away b (ends e L ∷ B) ≡ count (λ c. eqb c b) L + parts_away b B
gone-then b e L B none = ap (λ (y : Bool). if y then 0 else count (λ c. eqb c b) L + parts_away b B) none

pub away-then : (b : ℕ) (e : Entry) (L : List ℕ) (B : BoardState) → grants b e ≡ false → is_away b (ends e L ∷ B) ≡ (is_among b L || is_away b B)
away-then b e L B none = ap (λ (y : Bool). if y then false else (is_among b L || is_away b B)) none

-- a block of which the hand had nothing
pub other-block : {F : Type 0} (parts : F → Option Parts) (s : Setting) (B : BoardState) (w : FrameName → Bool) (r b : ℕ) (d e : Entry) (L : List ℕ) (k : Kept)
    → EndsHand s (past B) w r d e
    → has_part (past B) b d ≡ false → is_among b (granted_block (Some d)) ≡ false → is_among b L ≡ false → IsKeptIn parts s B b (last_grant b (past B)) k
    → IsKeptIn parts s (ends e L ∷ B) b (last_grant b (e ∷ past B)) k
other-block parts s B w r b d e L k l no_part no_grant unlost x =
    let P = past B in
    let new = ends e L ∷ B in
    let none_lost : count (λ c. eqb c b) L ≡ 0 = none_counted (λ c. eqb c b) L unlost in
    let as_gone : parts_away b new ≡ parts_away b B =
    gone-then b e L B (l.none b) ∙ (ap (λ (i : ℕ). i + parts_away b B) none_lost ∙ none-more (parts_away b B)) in
    let as_away : is_away b new ≡ is_away b B = away-then b e L B (l.none b) ∙ ap (λ (y : Bool). y || is_away b B) unlost in
    let as_many : parts_in_hand (e ∷ P) b ≡ parts_in_hand P b = omega (arith, fewer-parts s P w r d e l b, ap bit no_part) in
    let as_here : parts_here new b ≡ parts_here B b =
    ap (λ (i : ℕ). 2 ^ 32 - (i + parts_away b new)) as_many ∙ ap (λ (i : ℕ). 2 ^ 32 - (parts_in_hand P b + i)) as_gone in
    subst (λ (g : LastGrant). IsKeptIn parts s new b g k) (sym (l.same_grant b no_grant))
    (keeps parts s B new b (last_grant b P) k as_here as_away as_gone (λ a n made gone. l.clear a gone) x)

-- THE ARRAY OF THE HAND

pub united-part : (k : Kept) (x y : FrameName) (q p : Option Parts) → IsPartOf k x q → IsPartOf k y p → IsPartOf (united k p) x q
united-part (Frame c None) x y q p part other = subst (λ (o : Option Parts). IsPartOf (Frame c (together None o)) x q) (sym other.1) part
united-part (Frame c (Some z)) x y q p part other = subst (λ (o : Option Parts). IsPartOf (Frame c (together (Some z) o)) x q) (sym other.1) part
united-part Empty x y q p part other = part
united-part (Storage n u) x y q p part other = part

more-tells : (p : Option Parts) → IsSome p → IsSome (together p (one_part p))
more-tells None some = absurd (true≢false (sym some))
more-tells (Some p) some = refl

more-here : (p : Option Parts) (n m : ℕ) → 1 ≤ m → m ≤ 300 → OfSome (λ q. (q.size ≡ n) × (q.here ≡ 2 ^ 32 - m)) p
    → OfSome (λ q. (q.size ≡ n) × (q.here ≡ 2 ^ 32 - (m - 1))) (together p (one_part p))
more-here None n m some few here = tt
more-here (Some p) n m some few here = (here.0, omega (arith, here.1, few, some))

-- the frame once a part came back
more-frame : {F : Type 0} (parts : F → Option Parts) (B new : BoardState) (b n : ℕ) (a : FrameName) (q : Option Parts) (k : Kept)
    → parts_in_hand (past B) b + parts_away b B ≤ 300
    → parts_in_hand (past B) b ≡ 1 + parts_in_hand (past new) b → parts_away b new ≡ parts_away b B → IsPartOf k a q → IsFrameOn parts B b a n k
    → IsFrameOn parts new b a n (united k q)
more-frame parts B new b n a q k few less gone part f =
    let p = f.its_parts in
    let m = parts_in_hand (past B) b + parts_away b B in
    let sum : m - 1 ≡ parts_in_hand (past new) b + parts_away b new = omega (arith, less, gone) in
    let own : q ≡ one_part p = part-equal k a a p q f.is part in
    record {
      its_parts = together p (one_part p);
      is = ap (λ (x : Kept). united x q) f.is ∙ ap (λ (o : Option Parts). Frame a (together p o)) own;
      tells = λ tell. more-tells p (f.tells tell);
      here =
          subst (λ (i : ℕ). OfSome (λ z. (z.size ≡ n) × (z.here ≡ 2 ^ 32 - i)) (together p (one_part p))) sum
          (more-here p n m (omega (arith, less)) few f.here);
    }

-- what is granted with a hand is in the making
pub granted-making : (s : Setting) (P : Past) (r b : ℕ) (d : Entry) → s.pooled ≡ true → is_legal s P ≡ true → hand r P ≡ Some d
    → is_among b (granted_block (Some d)) ≡ true → (a : FrameName) × (n : ℕ) × (last_grant b P ≡ InMaking r a n) × Makes b a n d
granted-making s P r b (Load q k c z f g x) pooled legal held is =
    let one : c ≡ b = eqb-true c b (sym (among-one b c) ∙ is) in
    (frame 0 k, z, making-granted s P r b z (frame 0 k) (Load q k c z f g x) pooled legal held (one, refl, refl), (one, refl, refl))
granted-making s P r b (TakeBlock f x q v m k c z g) pooled legal held is =
    let one : c ≡ b = eqb-true c b (sym (among-one b c) ∙ is) in
    (frame v k, z, making-granted s P r b z (frame v k) (TakeBlock f x q v m k c z g) pooled legal held (one, refl, refl), (one, refl, refl))
granted-making s P r b _ pooled legal held is = absurd (false≢true is)

-- so its block is known, and that of a part in the hand
pub granted-known : (s : Setting) (P : Past) (r b : ℕ) (d : Entry) → s.pooled ≡ true → is_legal s P ≡ true → hand r P ≡ Some d
    → is_among b (granted_block (Some d)) ≡ true → has_number b (known s P) ≡ true
granted-known s P r b d pooled legal held is =
    let m = granted-making s P r b d pooled legal held is in
    known-at s P b m.0 pooled legal (makes-block s P r b m.1 m.0 d legal held m.3) (makes-placed s P r b m.1 m.0 d legal held m.3)

pub part-known : (s : Setting) (P : Past) (r b : ℕ) (d : Entry) → s.pooled ≡ true → is_legal s P ≡ true → hand r P ≡ Some d
    → has_part P b d ≡ true → has_number b (known s P) ≡ true
part-known s P r b d pooled legal held is = by d held is
  where
    there : (x : FrameName) → has_part_of x (hand r P) ≡ true → is_among b (block_of P x) ≡ true → has_number b (known s P) ≡ true
    there x has among = (placed-on s P b x pooled legal (one-of b (block_of P x) (block_laws.one P x) among) (hand-used s P r x has)).0

    by : (d : Entry) → hand r P ≡ Some d → has_part P b d ≡ true → has_number b (known s P) ≡ true
    by (Take q v m k) held is = there (frame m k) (ap (has_part_of (frame m k)) held ∙ same_refl (frame m k)) is
    by (TakeBlock f x q v m k c n g) held is = there (frame m k) (ap (has_part_of (frame m k)) held ∙ same_refl (frame m k)) is
    by (Save q v m k g) held is = there (frame m k) (ap (has_part_of (frame m k)) held ∙ same_refl (frame m k)) is
    by _ held is = absurd (false≢true is)

-- the array of the hand isn't on the block that was granted with it
pub part-apart : (s : Setting) (P : Past) (r c n : ℕ) (a : FrameName) (d : Entry) → s.pooled ≡ true → is_legal s P ≡ true → hand r P ≡ Some d
    → last_grant c P ≡ Made a n → is_among c (granted_block (Some d)) ≡ false
part-apart s P r c n a d pooled legal held made =
    elim (cases_Bool (is_among c (granted_block (Some d)))) [
      | inl is ↦
          let m = granted-making s P r c d pooled legal held is in
          let never : InMaking r m.0 m.1 ≡ Made a n = sym m.2 ∙ made in
          cc
      | inr other ↦ other
    ]

-- the array of the hand, whose part came back
pub given-back : {F : Type 0} (parts : F → Option Parts) (s : Setting) (B : BoardState) (w : FrameName → Bool) (r c n : ℕ) (a : FrameName) (q : Option Parts)
    (d e : Entry) (L : List ℕ) (k : Kept) → IsRunOf s B → LoseFew B → EndsHand s (past B) w r d e
    → has_part (past B) c d ≡ true → is_among c L ≡ false → last_grant c (past B) ≡ Made a n → IsFrameOn parts B c a n k → IsPartOf k a q
    → IsKeptIn parts s (ends e L ∷ B) c (last_grant c (e ∷ past B)) (united k q)
given-back parts s B w r c n a q d e L k run lost l has unlost made f part =
    let P = past B in
    let new = ends e L ∷ B in
    let legal = legal-of s B run in
    let none_lost : count (λ i. eqb i c) L ≡ 0 = none_counted (λ i. eqb i c) L unlost in
    let as_gone : parts_away c new ≡ parts_away c B =
    gone-then c e L B (l.none c) ∙ (ap (λ (i : ℕ). i + parts_away c B) none_lost ∙ none-more (parts_away c B)) in
    let less : parts_in_hand P c ≡ 1 + parts_in_hand (e ∷ P) c = fewer-parts s P w r d e l c ∙ ap (λ (y : Bool). bit y + parts_in_hand (e ∷ P) c) has in
    subst (λ (g : LastGrant). IsKeptIn parts s new c g (united k q)) (sym (l.same_grant c (part-apart s P r c n a d run.pooled legal l.held made) ∙ made))
    (inl (more-frame parts B new c n a q k (few-parts s B c run.few legal lost) less as_gone part f))

-- and whose part stayed away
pub stayed-away : {F : Type 0} (parts : F → Option Parts) (s : Setting) (B : BoardState) (w : FrameName
    → Bool) (r c n : ℕ) (a : FrameName) (d e : Entry) (L : List ℕ) (k : Kept) → IsRunOf s B → EndsHand s (past B) w r d e
    → has_part (past B) c d ≡ true → count (λ i. eqb i c) L ≡ 1 → last_grant c (past B) ≡ Made a n → IsFrameOn parts B c a n k
    → IsKeptIn parts s (ends e L ∷ B) c (last_grant c (e ∷ past B)) k
stayed-away parts s B w r c n a d e L k run l has one_lost made f =
    let P = past B in
    let new = ends e L ∷ B in
    let legal = legal-of s B run in
    let more_gone : parts_away c new ≡ 1 + parts_away c B = gone-then c e L B (l.none c) ∙ ap (λ (i : ℕ). i + parts_away c B) one_lost in
    let less : parts_in_hand P c ≡ 1 + parts_in_hand (e ∷ P) c = fewer-parts s P w r d e l c ∙ ap (λ (y : Bool). bit y + parts_in_hand (e ∷ P) c) has in
    let sum : parts_in_hand (e ∷ P) c + parts_away c new ≡ parts_in_hand P c + parts_away c B = omega (arith, more_gone, less) in
    subst (λ (g : LastGrant). IsKeptIn parts s new c g k) (sym (l.same_grant c (part-apart s P r c n a d run.pooled legal l.held made) ∙ made))
    (inl (frame-stays parts B new c n a k (ap (λ (i : ℕ). 2 ^ 32 - i) sum) f))

-- WHAT ROLES WERE LENT

pub part-off : (w : FrameName → Bool) (x : FrameName) (e : Entry) → has_part_of x (Some e) ≡ true → holds w e ≡ false → w x ≡ false
part-off w x (Take r v m k) has off = ap w (same-true x (frame m k) has) ∙ off
part-off w x (TakeBlock f y r v m k b n g) has off = ap w (same-true x (frame m k) has) ∙ (or_parts (w (frame v k)) (w (frame m k)) off).1
part-off w x (Save r v m k g) has off = ap w (same-true x (frame m k) has) ∙ off
part-off w x _ has off = absurd (false≢true has)

pub lent-then : {F : Type 0} (parts : F → Option Parts) (s : Setting) (B : BoardState) (t new : List Kept)
    (w : FrameName → Bool) (r : ℕ) (d e : Entry) (L : List ℕ) → IsRunOf s B → EndsHand s (past B) w r d e
    → ((b : ℕ) (x : FrameName) (q : Option Parts) → is_among b (granted_block (Some d)) ≡ false → IsPartOf (kept_at t b) x q → IsPartOf (kept_at new b) x q)
    → Holds parts s B t → (p b : ℕ) (x : FrameName) → has_part_of x (hand p (e ∷ past B)) ≡ true → block_of (e ∷ past B) x ≡ b ∷ []
    → IsPartOf (kept_at new b) x (lent_to p (ends e L ∷ B))
lent-then parts s B t new w r d e L run l tables h p b x has on = by (hand p (e ∷ past B)) refl has
  where
    by : (o : Option Entry) → hand p (e ∷ past B) ≡ o → has_part_of x o ≡ true → IsPartOf (kept_at new b) x (lent_to p (ends e L ∷ B))
    by None held has = absurd (false≢true has)
    by (Some i) held has =
        let P = past B in
        let legal = legal-of s B run in
        let none : count (holds w) (hands (e ∷ P)) ≡ 0 = ap (count (holds w)) l.fewer ∙ l.unheld in
        let off : w x ≡ false = part-off w x i has (hand-clear (holds w) p i (e ∷ P) held none) in
        let other : lets_go p e ≡ false = elim (cases_Bool (lets_go p e)) [
          | inl down ↦ let never : None ≡ Some i = sym (hand_laws.down s p e P l.legal down) ∙ held in cc
          | inr up ↦ up
        ] in
        let held_before : hand p P ≡ Some i = sym (hand_laws.others p e P (l.ups p) other) ∙ held in
        let had : has_part_of x (hand p P) ≡ true = ap (has_part_of x) held_before ∙ has in
        let was : block_of P x ≡ b ∷ [] = sym (l.others x off) ∙ on in
        let made = placed-on s P b x run.pooled legal was (hand-used s P p x had) in
        let lent : lent_to p (ends e L ∷ B) ≡ lent_to p B = ap (λ (y : Bool). if y then None else lent_to p B) (l.ups p) in
        subst (λ (o : Option Parts). IsPartOf (kept_at new b) x o) (sym lent)
        (tables b x (lent_to p B) (part-apart s P r b made.1.0 x d run.pooled legal l.held made.1.1) (h.lent p b x had was))
