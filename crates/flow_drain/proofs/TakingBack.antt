-- What roles left is taken back, one after the other.
use Rattle.std.proofs.Common.{◌≡◌, ◌≢◌, ℕ, suc, ◌+◌, ◌<◌, ◌≤◌, Bool, true, false, ◌||◌, eqb, ltb, cond, List, [], ◌∷◌, map, length, refl, sym, ap, ◌∙◌}
use Rattle.std.proofs.Common.{subst, arith, Option, Some, None, Result, Ok, Err, inl, inr}
use Rattle.std.specs.Prelude.{fold, slice_get, is_none, IsTrue}
use Rattle.std.proofs.lemmas.Bool.{and_parts, cases_Bool, eq-eqb, ne_eqb, eqb-true, ltb-true, ltb-false, true≢false, false≢true}
use Rattle.nd_base.specs.Array.{StackValue}
use Rattle.nd_base.specs.Parts.{Parts}
use Rattle.nd_base.specs.GraphRules.{IsGraph}
use Rattle.nd_base.specs.declared.frame.FrameName.{FrameName}
use Rattle.nd_base.specs.declared.graph.Graph.{Graph}
use Rattle.nd_base.specs.declared.graph.NodeRule.{NodeRule}
use Rattle.flow_journal.specs.declared.entry.Entry.{Entry}
use Rattle.flow_journal.specs.declared.entry.Entry.TheVariants.{Reclaim}
use Rattle.flow_journal.specs.Setting.{Setting, Node, last_role}
use Rattle.flow_journal.specs.RunSetting.{node_of}
use Rattle.flow_journal.specs.Pasts.{Past}
use Rattle.flow_journal.specs.Hands.{hands, hand, is_free}
use Rattle.flow_journal.specs.Ended.{was_reclaimed}
use Rattle.flow_journal.specs.Histories.{is_legal, is_history}
use Rattle.flow_journal.proofs.Changes.{hand_laws, role_laws}
use Rattle.board_rules.specs.declared.answers.Left.{Left}
use Rattle.board_rules.specs.declared.answers.NoWhy.{NoWhy}
use Rattle.board_rules.specs.declared.answers.NoWhy.TheVariants.{NoHand, Spent}
use Rattle.board_rules.specs.declared.answers.NoReclaim.{NoReclaim}
use Rattle.board_rules.specs.States.{BoardState, past, loses, lent_to}
use Rattle.board_rules.specs.InHand.{has_part_of, has_grant, granted_size, IsWholeOf, OfSome, TellParts}
use Rattle.board_rules.specs.Storage.{lost_of}
use Rattle.board_rules.specs.Leaving.{MayReclaim, ReclaimGives}
use Rattle.board_rules.specs.RunMeasures.{run_setting}
use Rattle.board_rules.proofs.Legal.{reclaim-by}
use Rattle.flow_drain.specs.Drains.{taken, taken_back}
use Rattle.flow_drain.specs.DrainSteps.{IsIdle}
use Rattle.flow_roles.specs.TurnPasses.{BeginsWith}
use Rattle.flow_drain.proofs.Growth.{begins-on}
use Rattle.flow_drain.proofs.Feeds.{free-of}
use Rattle.flow_journal.proofs.HandRoles.{role-of-hand, no-hands}

-- THE ROLES ARE FEW

sum-nodes : (a : ℕ) (ns : List NodeRule) → fold (λ (m : ℕ) (n : Node). m + n.threads) a (map node_of ns) ≡ fold (λ (m : ℕ) (n : NodeRule). m + n.threads) a ns
sum-nodes a [] = refl
sum-nodes a (n ∷ ns) = sum-nodes (a + n.threads) ns

pub few-roles : (g : Graph) (stack : StackValue) → IsGraph g → last_role (run_setting g stack) ≤ 65
few-roles g stack sound = omega (arith, sound.threads, sum-nodes 0 g.nodes)

-- ONE ROLE

-- the hands of these roles were taken back, and those from this one on stand
pub record HasTaken (s : Setting) (role : ℕ) (start now : BoardState) : Type 0 where
  pub legal : is_history s (past now) ≡ true
  pub keeps : (r : ℕ) → role ≤ r → hand r (past now) ≡ hand r (past start)
  pub lent : (r : ℕ) → role ≤ r → lent_to r now ≡ lent_to r start
  pub once : (r : ℕ) → role ≤ r → was_reclaimed r (past now) ≡ false
  pub gone : (r : ℕ) → r < role → hand r (past now) ≡ None

-- what stands against a reclaim, by the hand and by whether there was one before
abbrev refused-by : Setting → ℕ → Option Entry → (before : Bool) → Option NoWhy
refused-by s r o before = cond (is_none o) (Some NoHand) (cond (before || eqb r (last_role s)) (Some Spent) None)

module _ {F B O : Type 0} (name_of : F → FrameName) (parts : F → Option Parts) (bytes_of : B → ℕ) (s : Setting) (start now : BoardState) (role : ℕ) where
  -- what may be taken back at the start may be taken back now
  pub may-take-back : (left : Left F B O) → HasTaken s role start now → was_reclaimed role (past start) ≡ false
      → MayReclaim name_of parts bytes_of s start role left
      → MayReclaim name_of parts bytes_of s now role left
  may-take-back left t once may =
      let same_hand = t.keeps role (omega arith) in
      let same_lent = t.lent role (omega arith) in
      let same_once : was_reclaimed role (past now) ≡ was_reclaimed role (past start) = t.once role (omega arith) ∙ sym once in
      let at : Option Entry → Bool → Option Parts → Type 0 = λ o b lent. refused-by s role o b ≡ None
      → OfSome (λ f. IsTrue (has_part_of (name_of f) o) → parts f ≡ lent) left.input
      × OfSome (λ f. IsTrue (has_grant o) → IsWholeOf (granted_size o) (parts f)) left.made
      × OfSome (λ k. TellParts parts → IsTrue (has_grant o) → bytes_of k ≡ granted_size o) left.blank in
      let given : at (hand role (past start)) (was_reclaimed role (past start)) (lent_to role start) = may in
      let one : at (hand role (past now)) (was_reclaimed role (past start)) (lent_to role start) =
      subst (λ (o : Option Entry). at o (was_reclaimed role (past start)) (lent_to role start)) (sym same_hand) given in
      let two : at (hand role (past now)) (was_reclaimed role (past now)) (lent_to role start) =
      subst (λ (b : Bool). at (hand role (past now)) b (lent_to role start)) (sym same_once) one in
      let three : at (hand role (past now)) (was_reclaimed role (past now)) (lent_to role now) =
      subst (λ (l : Option Parts). at (hand role (past now)) (was_reclaimed role (past now)) l) (sym same_lent) two in
      three

none-by : (o : Option Entry) → is_none o ≡ true → o ≡ None
none-by None h = refl
none-by (Some e) h = absurd (false≢true h)

-- this role has no hand, and those below it have none
gone-by : (s : Setting) (role r : ℕ) (start now : BoardState) → r < role + 1 → hand role (past now) ≡ None
    → HasTaken s role start now → hand r (past now) ≡ None
gone-by s role r start now below none t =
    elim (cases_Bool (eqb r role)) [
      | inl here ↦ subst (λ (q : ℕ). hand q (past now) ≡ None) (sym (eqb-true r role here)) none
      | inr away ↦
          let ne : r ≢ role = λ is. true≢false (sym (eq-eqb r role is) ∙ away) in
          t.gone r (omega (arith, below, ne))
    ]

module _ {F B O E : Type 0} (name_of : F → FrameName) (s : Setting) (now next : BoardState) (role : ℕ) (left : Left F B O) where
  -- a reclaim takes back the hand, where there is one
  pub reclaim-takes : (a : Result E (NoReclaim F B O)) → role < last_role s → was_reclaimed role (past now) ≡ false
      → ReclaimGives {E = E} name_of s now role left a next
      → next ≡ taken name_of s role left now
  reclaim-takes (Ok x) low once c =
      elim (cases_Bool (is_free role (past now))) [
        | inl free ↦ let none : Some NoHand ≡ None = rw free at c.0 in absurd (cc)
        | inr held ↦ rw held c.1
      ]
  reclaim-takes (Err e) low once c =
      elim (cases_Bool (is_free role (past now))) [
        | inl free ↦ rw free c.2
        | inr held ↦
            let other : eqb role (last_role s) ≡ false = ne_eqb role (last_role s) (λ is. omega (arith, low, is)) in
            let none : None ≡ Some e.why = rw (held, once, other) at c.0 in
            absurd (cc)
      ]

  pub takes-on : (start : BoardState) (a : Result E (NoReclaim F B O)) → role < last_role s → HasTaken s role start now
      → ReclaimGives {E = E} name_of s now role left a next
      → HasTaken s (role + 1) start next
  takes-on start a low t c =
      let legal_ : is_history s (past next) ≡ true = reclaim-by {E = E} name_of s now next role left a t.legal c in
      let takes = reclaim-takes a low (t.once role (omega arith)) c in
      elim (cases_Bool (is_free role (past now))) [
        | inl free ↦
            let same_ : next ≡ now = takes ∙ rw free refl in
            record {
              legal = legal_;
              keeps = λ r high. ap (λ (b : BoardState). hand r (past b)) same_ ∙ t.keeps r (omega (arith, high));
              lent = λ r high. ap (λ (b : BoardState). lent_to r b) same_ ∙ t.lent r (omega (arith, high));
              once = λ r high. ap (λ (b : BoardState). was_reclaimed r (past b)) same_ ∙ t.once r (omega (arith, high));
              gone = λ r below. ap (λ (b : BoardState). hand r (past b)) same_ ∙ gone-by s role r start now below (none-by (hand role (past now)) free) t;
            }
        | inr held ↦
            let move : next ≡ loses role (lost_of name_of (past now) (hand role (past now)) left) ∷ now = takes ∙ rw held refl in
            let legal_now : is_legal s (Reclaim role ∷ past now) ≡ true =
            (and_parts (is_legal s (Reclaim role ∷ past now)) _ (subst (λ (b : BoardState). is_history s (past b) ≡ true) move legal_)).0 in
            let other : (r : ℕ) → r ≢ role → hand r (past next) ≡ hand r (past now) =
            λ r ne. ap (λ (b : BoardState). hand r (past b)) move ∙ hand_laws.others r (Reclaim role) (past now) refl (ne_eqb role r (λ is. ne (sym is))) in
            record {
              legal = legal_;
              keeps = λ r high. other r (λ is. omega (arith, high, is)) ∙ t.keeps r (omega (arith, high));
              lent = λ r high. ap (λ (b : BoardState). lent_to r b) move ∙ t.lent r (omega (arith, high));
              once = λ r high.
                  ap (λ (b : BoardState). was_reclaimed r (past b)) move
                  ∙ (role_laws.reclaimed_others r (Reclaim role) (past now) (ne_eqb role r (λ is. omega (arith, high, is))) ∙ t.once r (omega (arith, high)));
              gone = λ r below. elim (cases_Bool (eqb r role)) [
                | inl here ↦ subst (λ (q : ℕ). hand q (past next) ≡ None) (sym (eqb-true r role here))
                    (ap (λ (b : BoardState). hand role (past b)) move ∙ hand_laws.down s role (Reclaim role) (past now) legal_now (eq-eqb role role refl))
                | inr away ↦
                    let ne : r ≢ role = λ is. true≢false (sym (eq-eqb r role is) ∙ away) in
                    other r ne ∙ t.gone r (omega (arith, below, ne))
              ];
            }
      ]

-- ALL ROLES

pub taken-first : (s : Setting) (start : BoardState) → is_history s (past start) ≡ true
    → ((r : ℕ) → was_reclaimed r (past start) ≡ false) → HasTaken s 0 start start
taken-first s start legal once =
    record { legal = legal; keeps = λ r high. refl; lent = λ r high. refl; once = λ r high. once r; gone = λ r below. absurd (omega (arith, below)) }

none-above : (s : Setting) (P : Past) (r : ℕ) (o : Option Entry) → hand r P ≡ o → is_legal s P ≡ true → last_role s < r → o ≡ None
none-above s P r None is h high = refl
none-above s P r (Some e) is h high = absurd (omega (arith, role-of-hand s P r e h is, high))

nobody : (s : Setting) (start now : BoardState) → HasTaken s (last_role s) start now → is_free (last_role s) (past start) ≡ true
    → (r : ℕ) → hand r (past now) ≡ None
nobody s start now t free r =
    elim (cases_Bool (ltb r (last_role s))) [
      | inl below ↦ t.gone r (ltb-true r (last_role s) below)
      | inr above ↦ elim (cases_Bool (eqb r (last_role s))) [
        | inl drain ↦
            subst (λ (q : ℕ). hand q (past now) ≡ None) (sym (eqb-true r (last_role s) drain))
            (t.keeps (last_role s) (omega arith) ∙ none-by (hand (last_role s) (past start)) free)
        | inr other ↦
            let ne : r ≢ last_role s = λ is. true≢false (sym (eq-eqb r (last_role s) is) ∙ other) in
            none-above s (past now) r (hand r (past now)) refl (and_parts (is_legal s (past now)) _ t.legal).0
            (omega (arith, ltb-false r (last_role s) above, ne))
      ]
    ]

-- once all were taken back nobody has anything in hand
pub taken-idle : (s : Setting) (start now : BoardState) → HasTaken s (last_role s) start now → is_free (last_role s) (past start) ≡ true → IsIdle s now
taken-idle s start now t free =
    let legal_ = (and_parts (is_legal s (past now)) _ t.legal).0 in
    record { legal = t.legal; free = no-hands s (past now) legal_ (λ r. nobody s start now t free r) }

-- the roles that are left, with what they left
pub record HasLeft {F B O : Type 0} (name_of : F → FrameName) (parts : F → Option Parts)
    (bytes_of : B → ℕ) (s : Setting) (ends rest : List (Left F B O)) (role : ℕ)
    (start now : BoardState) : Type 0 where
  pub taken : HasTaken s role start now
  pub many : role + length rest ≡ last_role s
  pub board : taken_back name_of s role rest now ≡ taken_back name_of s 0 ends start
  pub may : (k : ℕ) (left : Left F B O) → slice_get rest k ≡ Some left → MayReclaim name_of parts bytes_of s start (role + k) left

module _ {F B O : Type 0} (name_of : F → FrameName) (parts : F → Option Parts)
    (bytes_of : B → ℕ) (s : Setting) (ends : List (Left F B O)) (start : BoardState) where
  pub left-first : length ends ≡ last_role s → is_history s (past start) ≡ true → ((r : ℕ) → was_reclaimed r (past start) ≡ false)
      → ((k : ℕ) (left : Left F B O) → slice_get ends k ≡ Some left → MayReclaim name_of parts bytes_of s start k left)
      → HasLeft name_of parts bytes_of s ends ends 0 start start
  left-first many legal once may =
      record {
        taken = taken-first s start legal once;
        many = omega (arith, many);
        board = refl;
        may = λ k left at. subst (λ (r : ℕ). MayReclaim name_of parts bytes_of s start r left) (let e : k ≡ 0 + k = omega arith in e) (may k left at);
      }

  module _ (rest more : List (Left F B O)) (role : ℕ) (now : BoardState) (left : Left F B O)
      (h : HasLeft name_of parts bytes_of s ends rest role start now) (is : rest ≡ left ∷ more) where
    pub left-low : role < last_role s
    left-low = omega (arith, h.many, ap (λ (xs : List (Left F B O)). length xs) is)

    pub left-may : ((r : ℕ) → was_reclaimed r (past start) ≡ false) → MayReclaim name_of parts bytes_of s now role left
    left-may once =
        let first_ : slice_get rest 0 ≡ Some left = ap (λ (xs : List (Left F B O)). slice_get xs 0) is in
        let may_ : MayReclaim name_of parts bytes_of s start role left =
        subst (λ (r : ℕ). MayReclaim name_of parts bytes_of s start r left) (let e : role + 0 ≡ role = omega arith in e) (h.may 0 left first_) in
        may-take-back name_of parts bytes_of s start now role left h.taken (once role) may_

    pub left-on : {E : Type 0} (next : BoardState) (a : Result E (NoReclaim F B O)) → ReclaimGives {E = E} name_of s now role left a next
        → HasLeft name_of parts bytes_of s ends more (role + 1) start next
    left-on {E} next a c =
        let one : suc role ≡ role + 1 = omega arith in
        let takes = reclaim-takes {E = E} name_of s now next role left a left-low (h.taken.once role (omega arith)) c in
        record {
          taken = takes-on {E = E} name_of s now next role left start a left-low h.taken c;
          many = omega (arith, h.many, ap (λ (xs : List (Left F B O)). length xs) is);
          board =
              ap (λ (r : ℕ). taken_back name_of s r more next) (sym one)
              ∙ (ap (λ (b : BoardState). taken_back name_of s (suc role) more b) takes
              ∙ (sym (ap (λ (xs : List (Left F B O)). taken_back name_of s role xs now) is) ∙ h.board));
          may = λ k l at.
              subst (λ (r : ℕ). MayReclaim name_of parts bytes_of s start r l) (let e : role + suc k ≡ (role + 1) + k = omega arith in e)
              (h.may (suc k) l (ap (λ (xs : List (Left F B O)). slice_get xs (suc k)) is ∙ at));
        }

  pub left-all : (rest : List (Left F B O)) (role : ℕ) (now : BoardState)
      → HasLeft name_of parts bytes_of s ends rest role start now → rest ≡ [] → role ≡ last_role s
  left-all rest role now h none = omega (arith, h.many, ap (λ (xs : List (Left F B O)). length xs) none)

  pub left-board : (rest : List (Left F B O)) (role : ℕ) (now : BoardState) → HasLeft name_of parts bytes_of s ends rest role start now → rest ≡ []
      → now ≡ taken_back name_of s 0 ends start
  left-board rest role now h none = sym (ap (λ (xs : List (Left F B O)). taken_back name_of s role xs now) none) ∙ h.board

  pub left-idle : (rest : List (Left F B O)) (role : ℕ) (now : BoardState) → HasLeft name_of parts bytes_of s ends rest role start now → rest ≡ []
      → is_free (last_role s) (past start) ≡ true → IsIdle s now
  left-idle rest role now h none free =
      taken-idle s start now (subst (λ (r : ℕ). HasTaken s r start now) (left-all rest role now h none) h.taken) free

-- where nobody has a hand, nothing is taken back
pub taken-none : {F B O : Type 0} (name_of : F → FrameName) (s : Setting) (r : ℕ) (ends : List (Left F B O)) (b : BoardState) → hands (past b) ≡ []
    → taken_back name_of s r ends b ≡ b
taken-none name_of s r [] b none = refl
taken-none {F} {B} {O} name_of s r (left ∷ ends) b none =
    let same_ : taken name_of s r left b ≡ b = rw (free-of r (past b) none) refl in
    ap (λ (x : BoardState). taken_back {F = F} {B = B} {O = O} name_of s (suc r) ends x) same_ ∙ taken-none name_of s (suc r) ends b none

taken-begins : {F B O : Type 0} (name_of : F → FrameName) (s : Setting) (r : ℕ) (left : Left F B O) (b : BoardState) → BeginsWith (taken name_of s r left b) b
taken-begins name_of s r left b =
    elim (cases_Bool (is_free r (past b))) [
      | inl free ↦ ([], rw free refl)
      | inr held ↦ (loses r (lost_of name_of (past b) (hand r (past b)) left) ∷ [], rw held refl)
    ]

pub back-begins : {F B O : Type 0} (name_of : F → FrameName) (s : Setting) (r : ℕ) (ends : List (Left F B O)) (b : BoardState)
    → BeginsWith (taken_back name_of s r ends b) b
back-begins name_of s r [] b = ([], refl)
back-begins {F} {B} {O} name_of s r (left ∷ ends) b =
    begins-on b (taken name_of s r left b)
    (taken_back {F = F} {B = B} {O = O} name_of s (suc r) ends (taken name_of s r left b)) (taken-begins name_of s r left b)
    (back-begins name_of s (suc r) ends (taken name_of s r left b))
