-- The array of a hand, at the block that the course tells of it.
use Rattle.std.proofs.Common.{◌≡◌, ◌<◌, ℕ, [], ◌∷◌, true, List, Option, length, sym, subst}
use Rattle.nd_base.specs.declared.frame.FrameName.{FrameName}
use Rattle.nd_base.specs.Parts.{Parts}
use Rattle.flow_journal.specs.Setting.{Setting}
use Rattle.flow_journal.specs.Hands.{hand}
use Rattle.flow_journal.specs.Accounts.{block_of}
use Rattle.board_rules.specs.States.{BoardState, past, lent_to}
use Rattle.board_rules.specs.InHand.{has_part_of}
use Rattle.frame_table.specs.Kept.{Kept, Frame, kept_at, IsPartOf, MayGiveBack, MayLend, IsUntold}
use Rattle.run_course.specs.Courses.{Coursed}
use Rattle.board_rules.specs.InHand.{TellParts}
use Rattle.kept_blocks.specs.LookLaws.{LookLaws, IsLendable, IsWithinBlock}
use Rattle.flow_core.specs.Boards.{IsBoard}

-- the course tells this of the array's block
abbrev pub Tells : BoardState → FrameName → ℕ → Type 0
Tells told a c = (b : ℕ) → block_of (past told) a ≡ b ∷ [] → c ≡ b

pub record LentAt (r : ℕ) (told : BoardState) (t : List Kept) (a : FrameName) (c : ℕ) : Type 0 where
  pub has : block_of (past told) a ≡ c ∷ []
  pub place : c < length t
  pub part : IsPartOf (kept_at t c) a (lent_to r told)
  pub may : MayGiveBack (kept_at t c) (lent_to r told)

pub lent-at : {F : Type 0} (parts : F → Option Parts) (look : LookLaws parts) (s : Setting) (w : Coursed) (t : List Kept) (r : ℕ) (a : FrameName) (c : ℕ)
    → IsBoard parts s w t → Tells w.told a c → has_part_of a (hand r (past w.told)) ≡ true → LentAt r w.told t a c
lent-at parts look s w t r a c i tells has =
    let l = look.in_hand s w.told t r a i.run i.holds has in
    subst (λ (b : ℕ). LentAt r w.told t a b) (sym (tells l.block l.has)) (record { has = l.has; place = l.place; part = l.part; may = l.may })

-- an array of which a part may be lent, there
pub record LendsAt {F : Type 0} (parts : F → Option Parts) (told : BoardState) (t : List Kept) (a : FrameName) (c : ℕ) : Type 0 where
  pub has : block_of (past told) a ≡ c ∷ []
  pub place : c < length t
  pub its_parts : Option Parts
  pub frame : kept_at t c ≡ Frame a its_parts
  pub may : MayLend (kept_at t c)
  pub within : IsWithinBlock (kept_at t c)
  pub tells : TellParts parts → IsUntold (kept_at t c) → ⊥

pub lends-at : {F : Type 0} (parts : F → Option Parts) (told : BoardState) (t : List Kept) (a : FrameName) (c : ℕ) → IsLendable parts (past told) t a
    → Tells told a c → LendsAt parts told t a c
lends-at parts told t a c l tells =
    subst (λ (b : ℕ). LendsAt parts told t a b) (sym (tells l.block l.has))
    (record { has = l.has; place = l.place; its_parts = l.its_parts; frame = l.frame; may = l.may; within = l.within; tells = l.tells })

part-of-frame : (k : Kept) (a n : FrameName) (p q : Option Parts) → k ≡ Frame a p → IsPartOf k n q → n ≡ a
part-of-frame k a n p q is part = let here : IsPartOf (Frame a p) n q = subst (λ (x : Kept). IsPartOf x n q) is part in here.0

-- its part has its name
pub lent-name : {F : Type 0} (parts : F → Option Parts) (told : BoardState) (t : List Kept) (a : FrameName) (c : ℕ) (n : FrameName) (q : Option Parts)
    → LendsAt parts told t a c → IsPartOf (kept_at t c) n q → n ≡ a
lent-name parts told t a c n q l part = part-of-frame (kept_at t c) a n l.its_parts q l.frame part

-- the course was asked by the same name
pub lent-named : {F : Type 0} (parts : F → Option Parts) (look : LookLaws parts) (s : Setting) (w : Coursed) (t : List Kept) (r : ℕ) (a n : FrameName) (c : ℕ)
    → IsBoard parts s w t → n ≡ a → Tells w.told n c → has_part_of a (hand r (past w.told)) ≡ true → LentAt r w.told t a c
lent-named parts look s w t r a n c i named tells has =
    lent-at parts look s w t r a c i (subst (λ (x : FrameName). Tells w.told x c) named tells) has

-- a part that is what the role was lent may be given back
pub may-back : {F : Type 0} (parts : F → Option Parts) (r : ℕ) (told : BoardState) (t : List Kept) (a : FrameName) (c : ℕ) (f : F) → LentAt r told t a c
    → parts f ≡ lent_to r told → MayGiveBack (kept_at t c) (parts f)
may-back parts r told t a c f l own = subst (λ (q : Option Parts). MayGiveBack (kept_at t c) q) (sym own) l.may
