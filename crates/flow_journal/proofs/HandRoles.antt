-- Who has a hand is a role of the run, and each job is one of a node.
use Rattle.std.proofs.Common.{◌≡◌, ℕ, zero, suc, ◌<◌, ◌≤◌, Bool, true, false, ◌&&◌, ltb, leb, [], ◌∷◌, length, refl, ap, subst, arith, Some, None, inl, inr}
use Rattle.std.specs.Prelude.{find}
use Rattle.std.specs.List.{list_all}
use Rattle.std.proofs.Math.ListN.{get_or-eq_default}
use Rattle.std.proofs.lemmas.Bool.{and_parts, and_from, false≢true, eqb-true, eq-eqb, leb-true, le-leb, lt-ltb, ltb-true, ltb-false, cases_Bool}
use Rattle.flow_journal.specs.declared.entry.Entry.{Entry}
use Rattle.flow_journal.specs.declared.entry.Entry.TheVariants.{Load, Issue, Take, TakeBlock, Put, Save, Saved, Reclaim}
use Rattle.flow_journal.specs.Setting.{Setting, Node, no_node, node, is_node, last_role}
use Rattle.flow_journal.specs.Pasts.{Past}
use Rattle.flow_journal.specs.Hands.{takes_up, let_go, hands, hand}
use Rattle.flow_journal.specs.Histories.{is_legal}
use Rattle.flow_journal.proofs.Hands.{row_of}
use Rattle.flow_journal.proofs.Rows.{row_laws}

-- a hand, of a role of the run; a job is one of a node
abbrev pub of_run : Setting → Entry → Bool
of_run s (Load r k b n f g x) = leb r (last_role s)
of_run s (Take r v m k) = leb r (last_role s) && is_node s v
of_run s (TakeBlock f x r v m k b n g) = leb r (last_role s) && is_node s v
of_run s (Save r v m k g) = leb r (last_role s)
of_run s _ = false

-- what has threads is a node
threaded : (s : Setting) (v jobs : ℕ) → jobs < (node s v).threads → is_node s v ≡ true
threaded s zero jobs h = absurd (omega (arith, h))
threaded s (suc k) jobs h =
    elim (cases_Bool (ltb k (length s.nodes))) [
      | inl there ↦ and_from _ _ (lt-ltb 0 (suc k) (omega arith)) (le-leb (suc k) (length s.nodes) (omega (arith, ltb-true k (length s.nodes) there)))
      | inr past ↦
          let none = ap (λ (n : Node). n.threads) (get_or-eq_default s.nodes no_node (ltb-false k (length s.nodes) past)) in
          absurd (omega (arith, h, none))
    ]

kept : (s : Setting) (r : ℕ) (H : Past) → list_all (of_run s) H ≡ true → list_all (of_run s) (let_go r H) ≡ true
kept s r [] h = refl
kept s r (e ∷ H) h =
    let p = and_parts (of_run s e) (list_all (of_run s) H) h in
    elim (cases_Bool (takes_up r e)) [
      | inl up ↦ rw up p.1
      | inr other ↦ rw other (and_from _ _ p.0 (kept s r H p.1))
    ]

pub hands-of-run : (s : Setting) (P : Past) → is_legal s P ≡ true → list_all (of_run s) (hands P) ≡ true
hands-of-run s [] h = refl
hands-of-run s (Load r k b n f g x ∷ P) h =
    let f = ((row_laws.load s P r k b n f g x).0 (row_of s (Load r k b n f g x) P (λ d. refl) h)).0 in
    and_from _ _ (le-leb r (last_role s) f.acts.role) (kept s r (hands P) (hands-of-run s P (and_parts (is_legal s P) _ h).0))
hands-of-run s (Take r v m k ∷ P) h =
    let f = ((row_laws.take s P r v m k).0 (row_of s (Take r v m k) P (λ d. refl) h)).0 in
    and_from _ _ (and_from _ _ (le-leb r (last_role s) f.acts.role) (threaded s v _ f.room))
    (kept s r (hands P) (hands-of-run s P (and_parts (is_legal s P) _ h).0))
hands-of-run s (TakeBlock f x r v m k b n g ∷ P) h =
    let f = ((row_laws.take_block s P r v m k b n f g x).0 (row_of s (TakeBlock f x r v m k b n g) P (λ d. refl) h)).0 in
    and_from _ _ (and_from _ _ (le-leb r (last_role s) f.acts.role) (threaded s v _ f.room))
    (kept s r (hands P) (hands-of-run s P (and_parts (is_legal s P) _ h).0))
hands-of-run s (Save r v m k g ∷ P) h =
    let f = (row_laws.save s P r v m k g).0 (row_of s (Save r v m k g) P (λ d. refl) h) in
    and_from _ _ (le-leb r (last_role s) f.role) (kept s r (hands P) (hands-of-run s P (and_parts (is_legal s P) _ h).0))
hands-of-run s (Issue r k ∷ P) h = kept s r (hands P) (hands-of-run s P (and_parts (is_legal s P) _ h).0)
hands-of-run s (Put r v m k f ∷ P) h = kept s r (hands P) (hands-of-run s P (and_parts (is_legal s P) _ h).0)
hands-of-run s (Saved r v m k ∷ P) h = kept s r (hands P) (hands-of-run s P (and_parts (is_legal s P) _ h).0)
hands-of-run s (Reclaim r ∷ P) h = kept s r (hands P) (hands-of-run s P (and_parts (is_legal s P) _ h).0)
hands-of-run s (e ∷ P) h = hands-of-run s P (and_parts (is_legal s P) _ h).0

role-of-run : (s : Setting) (r : ℕ) (e : Entry) → takes_up r e ≡ true → of_run s e ≡ true → r ≤ last_role s
role-of-run s r (Load q k b n f g x) up h = subst (λ (i : ℕ). i ≤ last_role s) (eqb-true q r up) (leb-true q (last_role s) h)
role-of-run s r (Take q v m k) up h =
    subst (λ (i : ℕ). i ≤ last_role s) (eqb-true q r up) (leb-true q (last_role s) (and_parts (leb q (last_role s)) (is_node s v) h).0)
role-of-run s r (TakeBlock f x q v m k b n g) up h =
    subst (λ (i : ℕ). i ≤ last_role s) (eqb-true q r up) (leb-true q (last_role s) (and_parts (leb q (last_role s)) (is_node s v) h).0)
role-of-run s r (Save q v m k g) up h = subst (λ (i : ℕ). i ≤ last_role s) (eqb-true q r up) (leb-true q (last_role s) h)
role-of-run s r _ up h = absurd (false≢true up)

found-of-run : (s : Setting) (r : ℕ) (xs : Past) (e : Entry) → list_all (of_run s) xs ≡ true → find (takes_up r) xs ≡ Some e → r ≤ last_role s
found-of-run s r [] e h f = cc
found-of-run s r (x ∷ xs) e h f =
    let a = and_parts (of_run s x) (list_all (of_run s) xs) h in
    elim (cases_Bool (takes_up r x)) [
      | inl up ↦ role-of-run s r x up a.0
      | inr other ↦ found-of-run s r xs e a.1 (rw other at f)
    ]

pub role-of-hand : (s : Setting) (P : Past) (r : ℕ) (e : Entry) → is_legal s P ≡ true → hand r P ≡ Some e → r ≤ last_role s
role-of-hand s P r e h is = found-of-run s r (hands P) e (hands-of-run s P h) is

found-here : (r : ℕ) (e : Entry) (H : Past) → takes_up r e ≡ true → find (takes_up r) (e ∷ H) ≡ None → ⊥
found-here r e H up none = let some : Some e ≡ None = rw up at none in absurd (cc)

all-free : (s : Setting) (H : Past) → list_all (of_run s) H ≡ true → ((r : ℕ) → find (takes_up r) H ≡ None) → H ≡ []
all-free s [] h none = refl
all-free s (Load r k b n f g x ∷ H) h none = absurd (found-here r (Load r k b n f g x) H (eq-eqb r r refl) (none r))
all-free s (Take r v m k ∷ H) h none = absurd (found-here r (Take r v m k) H (eq-eqb r r refl) (none r))
all-free s (TakeBlock f x r v m k b n g ∷ H) h none = absurd (found-here r (TakeBlock f x r v m k b n g) H (eq-eqb r r refl) (none r))
all-free s (Save r v m k g ∷ H) h none = absurd (found-here r (Save r v m k g) H (eq-eqb r r refl) (none r))
all-free s (e ∷ H) h none = absurd (false≢true h)

-- where no role has a hand there is none
pub no-hands : (s : Setting) (P : Past) → is_legal s P ≡ true → ((r : ℕ) → hand r P ≡ None) → hands P ≡ []
no-hands s P h none = all-free s (hands P) (hands-of-run s P h) none
