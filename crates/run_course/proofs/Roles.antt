-- What is kept of the roles, after one more entry.
use Rattle.std.proofs.Common.{◌≡◌, ◌≢◌, ◌∙◌, ℕ, true, false, List, ◌∷◌, Some, set, refl, sym}
use Rattle.std.specs.Prelude.{slice_get}
use Rattle.std.proofs.lemmas.List.{length-set}
use Rattle.flow_journal.specs.declared.entry.Entry.{Entry}
use Rattle.flow_journal.specs.declared.entry.Entry.TheVariants as entry
use Rattle.flow_journal.specs.Setting.{Setting}
use Rattle.flow_journal.specs.Pasts.{Past}
use Rattle.flow_journal.specs.Histories.{is_legal}
use Rattle.flow_journal.specs.Hands.{takes_up}
use Rattle.flow_journal.specs.Ended.{leaves_as, reclaims}
use Rattle.flow_journal.specs.EntryLaws.{lets_go}
use Rattle.flow_journal.proofs.Changes.{hand_laws, role_laws}
use Rattle.std.proofs.lemmas.Bool.{ne_eqb}
use Rattle.course_parts.specs.declared.hand.Hand.TheVariants.{Free}
use Rattle.course_parts.specs.declared.hand.RoleState.{RoleState}
use Rattle.course_parts.specs.RoleStates.{role_of, hand_of, AreRoles}
use Rattle.run_course.proofs.Each.{set_each}

-- one role changes
pub role-changed : (s : Setting) (P Q : Past) (rs : List RoleState) (r : ℕ) (x : RoleState) → AreRoles s P rs → x ≡ role_of Q r
    → ((q : ℕ) → q ≢ r → role_of Q q ≡ role_of P q) → AreRoles s Q (set rs r x)
role-changed s P Q rs r x are is others =
    record {
      all = length-set rs r x ∙ are.all;
      each = set_each (λ q y. y ≡ role_of P q) (λ q y. y ≡ role_of Q q) rs r x are.each (λ q y ne e. e ∙ sym (others q ne)) is;
    }

-- the entry is of this role alone
abbrev pub IsOf : ℕ → Entry → Type 0
IsOf r e = (q : ℕ) → q ≢ r → (takes_up q e ≡ false) × (lets_go q e ≡ false) × (leaves_as q e ≡ false) × (reclaims q e ≡ false)

other-role : (r : ℕ) (e : Entry) (P : Past) → IsOf r e → (q : ℕ) → q ≢ r → role_of (e ∷ P) q ≡ role_of P q
other-role r e P of q ne =
    let o = of q ne in
    rw (hand_laws.others q e P o.0 o.1, role_laws.left_others q e P o.2, role_laws.reclaimed_others q e P o.3) refl

-- it takes something up
pub role-up : (s : Setting) (r : ℕ) (e : Entry) (P : Past) (rs : List RoleState) (x : RoleState) → AreRoles s P rs → slice_get rs r ≡ Some x → IsOf r e
    → takes_up r e ≡ true → leaves_as r e ≡ false → reclaims r e ≡ false
    → AreRoles s (e ∷ P) (set rs r (record x { hand = hand_of (Some e) }))
role-up s r e P rs x are at of up left back =
    let was = are.each r x at in
    role-changed s P (e ∷ P) rs r _ are
    (rw (was, hand_laws.up r e P up, role_laws.left_others r e P left, role_laws.reclaimed_others r e P back) refl) (other-role r e P of)

-- it lets its hand go
pub role-down : (s : Setting) (r : ℕ) (e : Entry) (P : Past) (rs : List RoleState) (x : RoleState) → AreRoles s P rs → slice_get rs r ≡ Some x → IsOf r e
    → is_legal s (e ∷ P) ≡ true → lets_go r e ≡ true → leaves_as r e ≡ false → reclaims r e ≡ false
    → AreRoles s (e ∷ P) (set rs r (record x { hand = Free }))
role-down s r e P rs x are at of legal down left back =
    let was = are.each r x at in
    role-changed s P (e ∷ P) rs r _ are
    (rw (was, hand_laws.down s r e P legal down, role_laws.left_others r e P left, role_laws.reclaimed_others r e P back) refl) (other-role r e P of)

-- no role changes
pub roles-kept : (s : Setting) (P Q : Past) (rs : List RoleState) → AreRoles s P rs → ((r : ℕ) → role_of Q r ≡ role_of P r) → AreRoles s Q rs
roles-kept s P Q rs are same = record { all = are.all; each = λ r x at. are.each r x at ∙ sym (same r) }

-- it leaves
pub role-leaves : (s : Setting) (r : ℕ) (P : Past) (rs : List RoleState) (x : RoleState) → AreRoles s P rs → slice_get rs r ≡ Some x
    → AreRoles s (entry.Leave r ∷ P) (set rs r (record x { has_left = true }))
role-leaves s r P rs x are at =
    let was = are.each r x at in
    let e = entry.Leave r in
    let of : IsOf r e = λ q ne. (refl, refl, ne_eqb r q (λ d. ne (sym d)), refl) in
    role-changed s P (e ∷ P) rs r _ are (rw (was, role_laws.leave r P, role_laws.reclaimed_others r e P refl) refl) (other-role r e P of)
