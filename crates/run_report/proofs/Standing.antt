-- What a log that is read from its end has left is what stands.
use Rattle.std.proofs.Common.{◌≡◌, ℕ, Bool, true, false, cond, ◌||◌, ◌&&◌, not, List, [], ◌∷◌, refl, sym, ap, ◌∙◌, eqb, Some, inl, inr}
use Rattle.std.specs.Prelude.{is_none}
use Rattle.std.specs.List.{find}
use Rattle.std.proofs.Math.Bool.{and-false, and-true}
use Rattle.std.proofs.lemmas.Bool.{eq-eqb, eqb-true, eqb-false, cases_Bool}
use Rattle.flow_journal.specs.declared.entry.Entry.{Entry}
use Rattle.flow_journal.specs.declared.entry.Entry.TheVariants.{Load, Issue, Take, TakeBlock, Put, Save, Saved, Reclaim}
use Rattle.flow_journal.specs.Pasts.{Past}
use Rattle.flow_journal.specs.Hands.{takes_up, let_go, hands, is_free, standing}
use Rattle.flow_journal.proofs.Hands.{find-let_go, find-none, free-let_go, hands-Apart}
use Rattle.run_report.specs.Backwards.{Roles, and_role, but_role, before, is_taken_back, rest}

abbrev Same : Roles → Roles → Type 0
Same T U = (q : ℕ) → T q ≡ U q

-- the same roles give the same
before-same : (e : Entry) (T U : Roles) → Same T U → Same (before e T) (before e U)
before-same (Load r k b n f g x) T U h q = ap (λ (i : Bool). not (eqb r q) && i) (h q)
before-same (Take r v m k) T U h q = ap (λ (i : Bool). not (eqb r q) && i) (h q)
before-same (TakeBlock f x r v m k b n g) T U h q = ap (λ (i : Bool). not (eqb r q) && i) (h q)
before-same (Save r v m k g) T U h q = ap (λ (i : Bool). not (eqb r q) && i) (h q)
before-same (Issue r k) T U h q = ap (λ (i : Bool). not (eqb r q) && i) (h q)
before-same (Put r v m k f) T U h q = ap (λ (i : Bool). not (eqb r q) && i) (h q)
before-same (Saved r v m k) T U h q = ap (λ (i : Bool). not (eqb r q) && i) (h q)
before-same (Reclaim r) T U h q = ap (λ (i : Bool). eqb r q || i) (h q)
before-same _ T U h q = h q

taken-same : (e : Entry) (T U : Roles) → Same T U → is_taken_back T e ≡ is_taken_back U e
taken-same (Load r k b n f g x) T U h = h r
taken-same (Take r v m k) T U h = h r
taken-same (TakeBlock f x r v m k b n g) T U h = h r
taken-same (Save r v m k g) T U h = h r
taken-same _ T U h = refl

-- an entry that may be left out
abbrev pub left_out : Bool → Entry → Past → Past
left_out b e X = cond b X (e ∷ X)

pub rest-same : (P : Past) (T U : Roles) → ((q : ℕ) → T q ≡ U q) → rest T P ≡ rest U P
rest-same [] T U h = refl
rest-same (e ∷ P) T U h =
    ap (left_out (is_taken_back T e) e) (rest-same P (before e T) (before e U) (before-same e T U h))
    ∙ ap (λ (b : Bool). left_out b e (rest (before e U) P)) (taken-same e T U h)

-- who of these has a hand to let go in what is older than this
abbrev but_taker : Entry → Roles → Roles
but_taker (Load r k b n f g x) T = but_role r T
but_taker (Take r v m k) T = but_role r T
but_taker (TakeBlock f x r v m k b n g) T = but_role r T
but_taker (Save r v m k g) T = but_role r T
but_taker _ T = T

-- these without the newest entry that gives a hand to each of the roles
abbrev let_go_all : Roles → Past → Past
let_go_all T [] = []
let_go_all T (e ∷ X) = cond (is_taken_back T e) (let_go_all (but_taker e T) X) (e ∷ let_go_all (but_taker e T) X)

but_taker-same : (e : Entry) (T U : Roles) → Same T U → Same (but_taker e T) (but_taker e U)
but_taker-same (Load r k b n f g x) T U h q = ap (λ (i : Bool). not (eqb r q) && i) (h q)
but_taker-same (Take r v m k) T U h q = ap (λ (i : Bool). not (eqb r q) && i) (h q)
but_taker-same (TakeBlock f x r v m k b n g) T U h q = ap (λ (i : Bool). not (eqb r q) && i) (h q)
but_taker-same (Save r v m k g) T U h q = ap (λ (i : Bool). not (eqb r q) && i) (h q)
but_taker-same _ T U h q = h q

all-same : (X : Past) (T U : Roles) → Same T U → let_go_all T X ≡ let_go_all U X
all-same [] T U h = refl
all-same (e ∷ X) T U h =
    ap (left_out (is_taken_back T e) e) (all-same X (but_taker e T) (but_taker e U) (but_taker-same e T U h))
    ∙ ap (λ (b : Bool). left_out b e (let_go_all (but_taker e U) X)) (taken-same e T U h)

-- nobody lets nothing go
abbrev nobody : Roles
nobody q = false

but_nobody : (e : Entry) → Same (but_taker e nobody) nobody
but_nobody (Load r k b n f g x) q = and-false (not (eqb r q))
but_nobody (Take r v m k) q = and-false (not (eqb r q))
but_nobody (TakeBlock f x r v m k b n g) q = and-false (not (eqb r q))
but_nobody (Save r v m k g) q = and-false (not (eqb r q))
but_nobody _ q = refl

kept-nobody : (e : Entry) → is_taken_back nobody e ≡ false
kept-nobody (Load r k b n f g x) = refl
kept-nobody (Take r v m k) = refl
kept-nobody (TakeBlock f x r v m k b n g) = refl
kept-nobody (Save r v m k g) = refl
kept-nobody _ = refl

all-nobody : (X : Past) → let_go_all nobody X ≡ X
all-nobody [] = refl
all-nobody (e ∷ X) =
    ap (λ (b : Bool). left_out b e (let_go_all (but_taker e nobody) X)) (kept-nobody e)
    ∙ ap (λ (Y : Past). e ∷ Y) (all-same X (but_taker e nobody) nobody (but_nobody e) ∙ all-nobody X)

-- the entry gives a hand to this role
record IsTaker (r : ℕ) (e : Entry) : Type 0 where
  up : (q : ℕ) → takes_up q e ≡ eqb r q
  back : (T : Roles) → is_taken_back T e ≡ T r
  less : (T : Roles) → Same (but_taker e T) (but_role r T)
  from : (T : Roles) → Same (before e T) (but_role r T)
  stands : (P : Past) → standing (e ∷ P) ≡ e ∷ standing P
  holds : (P : Past) → hands (e ∷ P) ≡ e ∷ let_go r (hands P)

-- without the one that is let go, or with it among those that are
same_role : (r p : ℕ) (T : Roles) → T r ≡ false → eqb p r ≡ true → Same (but_role p (and_role r T)) T
same_role r p T none same q =
    let is : p ≡ r = eqb-true p r same in
    elim (cases_Bool (eqb r q)) [
      | inl here ↦
          let that : T q ≡ false = ap T (sym (eqb-true r q here)) ∙ none in
          let first : eqb p q ≡ true = ap (λ (i : ℕ). eqb i q) is ∙ here in
          rw (first, that) refl
      | inr away ↦
          let first : eqb p q ≡ false = ap (λ (i : ℕ). eqb i q) is ∙ away in
          rw (first, away) refl
    ]

other_role : (r p : ℕ) (T : Roles) → eqb p r ≡ false → Same (but_role p (and_role r T)) (and_role r (but_role p T))
other_role r p T other q =
    elim (cases_Bool (eqb r q)) [
      | inl here ↦
          let first : eqb p q ≡ false = ap (eqb p) (sym (eqb-true r q here)) ∙ other in
          rw (first, here) refl
      | inr away ↦ rw away refl
    ]

flip : (a b : ℕ) → eqb a b ≡ false → eqb b a ≡ false
flip a b h =
    elim (cases_Bool (eqb b a)) [
      | inl same ↦ absurd (eqb-false a b h (sym (eqb-true b a same)))
      | inr other ↦ other
    ]

-- the newest of the role is let go first, or among all
abbrev OneAmongAll : ℕ → Past → Type 0
OneAmongAll r X = (T : Roles) → T r ≡ false → let_go_all (and_role r T) X ≡ let_go_all T (let_go r X)

this_taker : (r p : ℕ) (e : Entry) (X : Past) → IsTaker p e → eqb p r ≡ true → OneAmongAll r (e ∷ X)
this_taker r p e X t same T none =
    let here : is_taken_back (and_role r T) e ≡ true =
    t.back (and_role r T) ∙ ap (λ (i : ℕ). eqb r i || T i) (eqb-true p r same) ∙ ap (λ (b : Bool). b || T r) (eq-eqb r r refl) in
    let gone : takes_up r e ≡ true = t.up r ∙ same in
    let older : let_go_all (but_taker e (and_role r T)) X ≡ let_go_all T X =
    all-same X (but_taker e (and_role r T)) T (λ (q : ℕ). t.less (and_role r T) q ∙ same_role r p T none same q) in
    ap (λ (b : Bool). left_out b e (let_go_all (but_taker e (and_role r T)) X)) here
    ∙ older
    ∙ sym (ap (λ (b : Bool). let_go_all T (cond b X (e ∷ let_go r X))) gone)

other_taker : (r p : ℕ) (e : Entry) (X : Past) → IsTaker p e → eqb p r ≡ false → OneAmongAll r X → OneAmongAll r (e ∷ X)
other_taker r p e X t other more T none =
    let here : is_taken_back (and_role r T) e ≡ is_taken_back T e = t.back (and_role r T) ∙ ap (λ (b : Bool). b || T p) (flip p r other) ∙ sym (t.back T) in
    let gone : takes_up r e ≡ false = t.up r ∙ other in
    let less : but_taker e T r ≡ false = t.less T r ∙ ap (λ (b : Bool). not (eqb p r) && b) none ∙ and-false (not (eqb p r)) in
    let apart : Same (but_taker e (and_role r T)) (and_role r (but_taker e T)) =
    λ (q : ℕ). t.less (and_role r T) q ∙ other_role r p T other q ∙ sym (ap (λ (b : Bool). eqb r q || b) (t.less T q)) in
    let older : let_go_all (but_taker e (and_role r T)) X ≡ let_go_all (but_taker e T) (let_go r X) =
    all-same X (but_taker e (and_role r T)) (and_role r (but_taker e T)) apart ∙ more (but_taker e T) less in
    ap (left_out (is_taken_back (and_role r T) e) e) older
    ∙ ap (λ (b : Bool). left_out b e (let_go_all (but_taker e T) (let_go r X))) here
    ∙ sym (ap (λ (b : Bool). let_go_all T (cond b X (e ∷ let_go r X))) gone)

one_taker : (r p : ℕ) (e : Entry) (X : Past) → IsTaker p e → OneAmongAll r X → OneAmongAll r (e ∷ X)
one_taker r p e X t more =
    elim (cases_Bool (eqb p r)) [ inl same ↦ this_taker r p e X t same | inr other ↦ other_taker r p e X t other more ]

takes : (r k b n : ℕ) (f : Bool) (g : ℕ) (x : Bool) → IsTaker r (Load r k b n f g x)
takes r k b n f g x = record { up = λ q. refl; back = λ T. refl; less = λ T q. refl; from = λ T q. refl; stands = λ P. refl; holds = λ P. refl }

takes_job : (r v m k : ℕ) → IsTaker r (Take r v m k)
takes_job r v m k = record { up = λ q. refl; back = λ T. refl; less = λ T q. refl; from = λ T q. refl; stands = λ P. refl; holds = λ P. refl }

takes_block : (f x : Bool) (r v m k b n g : ℕ) → IsTaker r (TakeBlock f x r v m k b n g)
takes_block f x r v m k b n g = record { up = λ q. refl; back = λ T. refl; less = λ T q. refl; from = λ T q. refl; stands = λ P. refl; holds = λ P. refl }

takes_piece : (r v m k g : ℕ) → IsTaker r (Save r v m k g)
takes_piece r v m k g = record { up = λ q. refl; back = λ T. refl; less = λ T q. refl; from = λ T q. refl; stands = λ P. refl; holds = λ P. refl }

one_among_all : (r : ℕ) (X : Past) → OneAmongAll r X
one_among_all r [] T none = refl
one_among_all r (Load p k b n f g x ∷ X) T none = one_taker r p (Load p k b n f g x) X (takes p k b n f g x) (one_among_all r X) T none
one_among_all r (Take p v m k ∷ X) T none = one_taker r p (Take p v m k) X (takes_job p v m k) (one_among_all r X) T none
one_among_all r (TakeBlock f x p v m k b n g ∷ X) T none =
    one_taker r p (TakeBlock f x p v m k b n g) X (takes_block f x p v m k b n g) (one_among_all r X) T none
one_among_all r (Save p v m k g ∷ X) T none = one_taker r p (Save p v m k g) X (takes_piece p v m k g) (one_among_all r X) T none
one_among_all r (e ∷ X) T none = ap (λ (Y : Past). e ∷ Y) (one_among_all r X T none)

-- of these roles, those that have a hand
abbrev owing : Roles → Past → Roles
owing T P q = T q && not (is_free q P)

-- whose hand another entry ends has the same as before
free-other : (r q : ℕ) (P : Past) → eqb r q ≡ false → is_none (find (takes_up q) (let_go r (hands P))) ≡ is_free q P
free-other r q P other = ap is_none (find-let_go r q (hands P) (eqb-false r q other))

free-gone : (r q : ℕ) (P : Past) → eqb r q ≡ true → is_none (find (takes_up q) (let_go r (hands P))) ≡ true
free-gone r q P same =
    let gone = find-none (takes_up r) (let_go r (hands P)) (free-let_go r (hands P) (hands-Apart P)) in
    ap (λ (i : ℕ). is_none (find (takes_up i) (let_go r (hands P)))) (sym (eqb-true r q same)) ∙ ap is_none gone

abbrev Rests : Past → Type 0
Rests P = (T : Roles) → rest T P ≡ let_go_all (owing T P) (standing P)

-- a role that takes something up
rests_taker : (r : ℕ) (e : Entry) (P : Past) → IsTaker r e → Rests P → Rests (e ∷ P)
rests_taker r e P t older T =
    let free : (q : ℕ) → is_free q (e ∷ P) ≡ is_none (cond (eqb r q) (Some e) (find (takes_up q) (let_go r (hands P)))) =
    λ (q : ℕ). ap (λ (hs : List Entry). is_none (find (takes_up q) hs)) (t.holds P)
    ∙ ap (λ (b : Bool). is_none (cond b (Some e) (find (takes_up q) (let_go r (hands P))))) (t.up q) in
    let own : is_free r (e ∷ P) ≡ false = free r ∙ ap (λ (b : Bool). is_none (cond b (Some e) (find (takes_up r) (let_go r (hands P))))) (eq-eqb r r refl) in
    let here : is_taken_back T e ≡ is_taken_back (owing T (e ∷ P)) e =
    t.back T ∙ sym (and-true (T r)) ∙ sym (ap (λ (b : Bool). T r && not b) own) ∙ sym (t.back (owing T (e ∷ P))) in
    let apart : Same (owing (before e T) P) (but_taker e (owing T (e ∷ P))) =
    λ (q : ℕ).
    ap (λ (b : Bool). b && not (is_free q P)) (t.from T q)
    ∙ elim (cases_Bool (eqb r q)) as (λ _. ((not (eqb r q) && T q) && not (is_free q P)) ≡ (not (eqb r q) && owing T (e ∷ P) q)) [
      | inl same ↦ rw same refl
      | inr other ↦
          let as_before : is_free q (e ∷ P) ≡ is_free q P =
          free q ∙ ap (λ (b : Bool). is_none (cond b (Some e) (find (takes_up q) (let_go r (hands P))))) other ∙ free-other r q P other in
          rw other (ap (λ (b : Bool). T q && not b) (sym as_before))
    ]
    ∙ sym (t.less (owing T (e ∷ P)) q) in
    let later : rest (before e T) P ≡ let_go_all (but_taker e (owing T (e ∷ P))) (standing P) =
    older (before e T) ∙ all-same (standing P) (owing (before e T) P) (but_taker e (owing T (e ∷ P))) apart in
    ap (left_out (is_taken_back T e) e) later
    ∙ ap (λ (b : Bool). left_out b e (let_go_all (but_taker e (owing T (e ∷ P))) (standing P))) here
    ∙ sym (ap (let_go_all (owing T (e ∷ P))) (t.stands P))

-- the entry ends the hand of this role
record IsEnder (r : ℕ) (e : Entry) : Type 0 where
  back : (T : Roles) → is_taken_back T e ≡ false
  less : (T : Roles) → Same (but_taker e T) T
  from : (T : Roles) → Same (before e T) (but_role r T)
  stands : (P : Past) → standing (e ∷ P) ≡ e ∷ standing P
  leaves : (P : Past) → hands (e ∷ P) ≡ let_go r (hands P)

rests_ender : (r : ℕ) (e : Entry) (P : Past) → IsEnder r e → Rests P → Rests (e ∷ P)
rests_ender r e P t older T =
    let free : (q : ℕ) → is_free q (e ∷ P) ≡ is_none (find (takes_up q) (let_go r (hands P))) =
    λ (q : ℕ). ap (λ (hs : List Entry). is_none (find (takes_up q) hs)) (t.leaves P) in
    let apart : Same (owing (before e T) P) (but_taker e (owing T (e ∷ P))) =
    λ (q : ℕ).
    ap (λ (b : Bool). b && not (is_free q P)) (t.from T q)
    ∙ elim (cases_Bool (eqb r q)) as (λ _. ((not (eqb r q) && T q) && not (is_free q P)) ≡ owing T (e ∷ P) q) [
      | inl same ↦
          let gone : is_free q (e ∷ P) ≡ true = free q ∙ free-gone r q P same in
          rw (same, gone) (sym (and-false (T q)))
      | inr other ↦
          let as_before : is_free q (e ∷ P) ≡ is_free q P = free q ∙ free-other r q P other in
          rw other (ap (λ (b : Bool). T q && not b) (sym as_before))
    ]
    ∙ sym (t.less (owing T (e ∷ P)) q) in
    let later : rest (before e T) P ≡ let_go_all (but_taker e (owing T (e ∷ P))) (standing P) =
    older (before e T) ∙ all-same (standing P) (owing (before e T) P) (but_taker e (owing T (e ∷ P))) apart in
    ap (left_out (is_taken_back T e) e) later
    ∙ ap (λ (b : Bool). left_out b e (let_go_all (but_taker e (owing T (e ∷ P))) (standing P))) (t.back T ∙ sym (t.back (owing T (e ∷ P))))
    ∙ sym (ap (let_go_all (owing T (e ∷ P))) (t.stands P))

ends_issue : (r k : ℕ) → IsEnder r (Issue r k)
ends_issue r k = record { back = λ T. refl; less = λ T q. refl; from = λ T q. refl; stands = λ P. refl; leaves = λ P. refl }

ends_put : (r v m k : ℕ) (f : Bool) → IsEnder r (Put r v m k f)
ends_put r v m k f = record { back = λ T. refl; less = λ T q. refl; from = λ T q. refl; stands = λ P. refl; leaves = λ P. refl }

ends_saved : (r v m k : ℕ) → IsEnder r (Saved r v m k)
ends_saved r v m k = record { back = λ T. refl; less = λ T q. refl; from = λ T q. refl; stands = λ P. refl; leaves = λ P. refl }

-- a reclaim without a hand
rests_free : (r : ℕ) (P : Past) (T : Roles) → is_free r P ≡ true → Rests P
    → rest T (Reclaim r ∷ P) ≡ Reclaim r ∷ let_go_all (owing T (Reclaim r ∷ P)) (standing P)
rests_free r P T none older =
    let apart : Same (owing (and_role r T) P) (owing T (Reclaim r ∷ P)) =
    λ (q : ℕ).
    elim (cases_Bool (eqb r q)) [
      | inl same ↦
          let gone : is_free q P ≡ true = ap (λ (i : ℕ). is_free i P) (sym (eqb-true r q same)) ∙ none in
          let too : is_free q (Reclaim r ∷ P) ≡ true = free-gone r q P same in
          rw (same, gone, too) (sym (and-false (T q)))
      | inr other ↦
          let as_before : is_free q (Reclaim r ∷ P) ≡ is_free q P = free-other r q P other in
          rw other (ap (λ (b : Bool). T q && not b) (sym as_before))
    ] in
    ap (λ (X : Past). Reclaim r ∷ X) (older (and_role r T) ∙ all-same (standing P) (owing (and_role r T) P) (owing T (Reclaim r ∷ P)) apart)

-- and one with a hand
rests_held : (r : ℕ) (P : Past) (T : Roles) → is_free r P ≡ false → Rests P
    → rest T (Reclaim r ∷ P) ≡ Reclaim r ∷ let_go_all (owing T (Reclaim r ∷ P)) (let_go r (standing P))
rests_held r P T held older =
    let own : owing T (Reclaim r ∷ P) r ≡ false = ap (λ (b : Bool). T r && not b) (free-gone r r P (eq-eqb r r refl)) ∙ and-false (T r) in
    let apart : Same (owing (and_role r T) P) (and_role r (owing T (Reclaim r ∷ P))) =
    λ (q : ℕ).
    elim (cases_Bool (eqb r q)) [
      | inl same ↦
          let has : is_free q P ≡ false = ap (λ (i : ℕ). is_free i P) (sym (eqb-true r q same)) ∙ held in
          rw (same, has) refl
      | inr other ↦
          let as_before : is_free q (Reclaim r ∷ P) ≡ is_free q P = free-other r q P other in
          rw other (ap (λ (b : Bool). T q && not b) (sym as_before))
    ] in
    ap (λ (X : Past). Reclaim r ∷ X)
    (older (and_role r T)
    ∙ all-same (standing P) (owing (and_role r T) P) (and_role r (owing T (Reclaim r ∷ P))) apart
    ∙ one_among_all r (standing P) (owing T (Reclaim r ∷ P)) own)

rests_reclaim : (r : ℕ) (P : Past) → Rests P → Rests (Reclaim r ∷ P)
rests_reclaim r P older T =
    elim (cases_Bool (is_free r P)) [
      | inl free ↦
          rests_free r P T free older
          ∙ sym (ap (λ (b : Bool). Reclaim r ∷ let_go_all (owing T (Reclaim r ∷ P)) (cond b (standing P) (let_go r (standing P)))) free)
      | inr held ↦
          rests_held r P T held older
          ∙ sym (ap (λ (b : Bool). Reclaim r ∷ let_go_all (owing T (Reclaim r ∷ P)) (cond b (standing P) (let_go r (standing P)))) held)
    ]

rests : (P : Past) → Rests P
rests [] T = refl
rests (Load r k b n f g x ∷ P) T = rests_taker r (Load r k b n f g x) P (takes r k b n f g x) (rests P) T
rests (Take r v m k ∷ P) T = rests_taker r (Take r v m k) P (takes_job r v m k) (rests P) T
rests (TakeBlock f x r v m k b n g ∷ P) T = rests_taker r (TakeBlock f x r v m k b n g) P (takes_block f x r v m k b n g) (rests P) T
rests (Save r v m k g ∷ P) T = rests_taker r (Save r v m k g) P (takes_piece r v m k g) (rests P) T
rests (Issue r k ∷ P) T = rests_ender r (Issue r k) P (ends_issue r k) (rests P) T
rests (Put r v m k f ∷ P) T = rests_ender r (Put r v m k f) P (ends_put r v m k f) (rests P) T
rests (Saved r v m k ∷ P) T = rests_ender r (Saved r v m k) P (ends_saved r v m k) (rests P) T
rests (Reclaim r ∷ P) T = rests_reclaim r P (rests P) T
rests (e ∷ P) T = ap (λ (X : Past). e ∷ X) (rests P T)

-- at the end of the log nobody has a hand taken back, and what is left is what stands
pub rest-standing : (P : Past) (T : Roles) → ((q : ℕ) → T q ≡ false) → rest T P ≡ standing P
rest-standing P T none =
    rests P T
    ∙ all-same (standing P) (owing T P) nobody (λ (q : ℕ). ap (λ (b : Bool). b && not (is_free q P)) (none q))
    ∙ all-nobody (standing P)
