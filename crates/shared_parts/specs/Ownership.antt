-- What a part of a block owns, and what a `&` to it shows.
--
-- The value is lent for a lifetime of its own, and k parts are k in 2 ^ 32 of that lifetime's token. Beside its share of the
-- token each part has the same share of the block's ghost name, which says the lifetime. What gives the value and the right to
-- free its block back lies in an invariant that every part knows. Whoever has all parts ends the lifetime, and puts the whole
-- name in the place of what was there.
use Rattle.std.specs.Prelude.{ℕ, ◌<◌, ◌≤◌, ◌^◌, [], ◌∷◌}
use mir.Syntax.{Ty}
use mir.Raw.{raw}
use base.Algebra.{Algebra}
use base.Algebras.{both, shares, agreed}
use base.Fml.{Lft, GName, Share, Fml, fsep, fex, flft, flent, finv, fown}
use base.Fraction.{full_share}
use base.FractionLaws.{Counts}
use base.SetCodes.{coded}
use base.Stored.{coded_ℕ}
use denote.Memory.{lone}
use denote.RattleType.{RattleType}
use denote.RawPtr.{Ptr, lies_at}
use denote.Sharing.{beside, one, held}
use denote.Struct.Lending.{lent_at}

-- shares of a name whose holders agree on a lifetime
abbrev pub named : Algebra
named = both shares (agreed (coded coded_ℕ))

-- a share of the block's name, which says that its lifetime is a
abbrev pub name_share : GName → ℕ → Share → Fml
name_share γ a e = fown named γ (e, a)

-- a share of the lifetime's token, and of the name
abbrev pub block_share : GName → ℕ → Share → Fml
block_share γ a e = fsep (flft (a ∷ []) e) (name_share γ a e)

-- the share is k parts
abbrev pub IsParts : ℕ → Share → Type 0
IsParts k e = (0 < k) × (k ≤ 2 ^ 32) × Counts 32 e k

abbrev pub parts : GName → ℕ → ℕ → Fml
parts γ a k = fex Share (λ e. fex (IsParts k e) (λ _. block_share γ a e))

-- whether the block was given back
pub data State : Type 0 where
  lent given_back : State

module _ (P frees : Fml) (γ : GName) (a : ℕ) where
  abbrev pub home : State → Fml
  home lent = fsep (flent (a ∷ []) P) frees
  home given_back = name_share γ a full_share

  abbrev pub kept : Fml
  kept = fex State home

module _ (R : RattleType) (p : Ptr) (x : R.Denot) where
  -- what the block is to the one who has it whole
  abbrev pub block : (Ty → Ptr → Fml) → GName → ℕ → Fml
  block frees γ a = kept (lies_at R full_share p x) (frees (raw (lone R.mir)) p) γ a

  abbrev pub part_shares : ℕ → Lft → Fml
  part_shares a = beside (one (λ e. flft (a ∷ []) e)) (held (a ∷ []) (lent_at R p x))

abbrev pub part_owns : (Ty → Ptr → Fml) → (R : RattleType) → Ptr → R.Denot → GName → ℕ → ℕ → Fml
part_owns frees R p x γ a k = fsep (parts γ a k) (fsep (lent_at R p x (a ∷ [])) (finv (block R p x frees γ a)))
