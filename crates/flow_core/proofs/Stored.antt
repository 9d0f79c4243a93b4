-- The storage of a block that is granted, taken or not.
use Rattle.std.proofs.Common.{◌≡◌, ◌∙◌, ℕ, true, false, Bool, ◌&&◌, List, [], ◌∷◌, refl, sym, ap, subst, arith, Option, Some, not, inl, inr}
use Rattle.std.specs.Prelude.{IsTrue}
use Rattle.std.proofs.lemmas.Bool.{true≢false, cases_Bool}
use Rattle.std.proofs.lemmas.List.{set-get_or}
use Rattle.nd_base.specs.Parts.{Parts}
use Rattle.pool_ledger.specs.Grants.{Granted, has_number}
use Rattle.flow_journal.specs.Setting.{Setting}
use Rattle.flow_journal.specs.Accounts.{known}
use Rattle.pool_account.specs.Account.{given_up_for}
use Rattle.board_rules.specs.States.{BoardState, past}
use Rattle.board_rules.specs.InHand.{TellParts}
use Rattle.board_rules.specs.Storage.{wants_storage, IsRegrown, is_away}
use Rattle.board_rules.specs.Reusing.{IsReused}
use Rattle.board_rules.specs.LastGrants.{LastGrant, Never, InMaking, Made, TakenBack}
use Rattle.frame_table.specs.Kept.{Frame, Storage, at_home, Kept, Empty, kept_at, is_kept, with_kept, without_kept, with_room}
use Rattle.kept_blocks.specs.Keeping.{HoldsBlocks, IsKeptBy}
use Rattle.kept_blocks.specs.GrantLaws.{GrantLaws, IsGranted}
use Rattle.flow_core.specs.Boards.{IsRemade, IsSameStorage, IsNotStored, with_storage, TellsKept}
use Rattle.flow_core.proofs.Places.{both-emptied}

-- the same grant, with a place more
pub roomy : {F : Type 0} (parts : F → Option Parts) (laws : GrantLaws parts) (s : Setting) (told : BoardState) (t : List Kept) (need b z : ℕ) (f : Bool) (g : ℕ)
    → IsGranted parts s told t need b z f g → IsGranted parts s told (with_room t b) need b z f g
roomy parts laws s told t need b z f g i = record { run = i.run; holds = laws.room s told t b i.holds; granted = i.granted }

-- nothing that is new was made anew
pub remade-stale : (z b : ℕ) (f x : Bool) (t : List Kept) → IsRemade z b f t x → (x && f) ≡ false
remade-stale z b true x t r = ap (λ y. y && true) r
remade-stale z b false true t r = refl
remade-stale z b false false t r = refl

pub remade-regrown : {F : Type 0} (parts : F → Option Parts) (laws : GrantLaws parts) (s : Setting) (told : BoardState) (t : List Kept)
    (need b z : ℕ) (f : Bool) (g : ℕ) (x : Bool)
    → IsGranted parts s told t need b z f g → IsRemade z b f t x → IsRegrown parts told b f x
remade-regrown parts laws s told t need b z true g x i r = subst (λ (y : Bool). IsRegrown parts told b true y) (sym r) (laws.fresh_anew told b)
remade-regrown parts laws s told t need b z false g x i r = laws.anew s told (with_room t b) need b z g x (roomy parts laws s told t need b z false g i) r

-- what wasn't made anew of a block that isn't new was used, unless its last hand was taken back
pub storage-reused : {F B : Type 0} (parts : F → Option Parts) (is_used : B → Bool) (laws : GrantLaws parts) (s : Setting) (told : BoardState) (t : List Kept)
    (need b z : ℕ) (f : Bool) (g : ℕ) (x : Bool) (blank : B)
    → IsGranted parts s told t need b z f g → IsSameStorage b f t x (is_used blank) → IsReused parts is_used told b f x blank
storage-reused parts is_used laws s told t need b z true g true blank i same_ = tt
storage-reused parts is_used laws s told t need b z true g false blank i same_ = tt
storage-reused parts is_used laws s told t need b z false g true blank i same_ = tt
storage-reused parts is_used laws s told t need b z false g false blank i same_ =
    λ tell out. same_ ∙ laws.used s told (with_room t b) need b z g (roomy parts laws s told t need b z false g i) tell out

-- no memory for it: then it is wanted, and the table holds the blocks as before
pub not-stored-wants : {F : Type 0} (parts : F → Option Parts) (laws : GrantLaws parts)
    (s : Setting) (told : BoardState) (t new : List Kept) (need b z : ℕ) (f : Bool) (g : ℕ)
    → IsGranted parts s told t need b z f g → IsNotStored z b f t new → TellParts parts → IsTrue (wants_storage told (Granted b z f g))
not-stored-wants parts laws s told t new need b z true g i r tell = refl
not-stored-wants parts laws s told t new need b z false g i (inl next) tell = absurd (omega (arith, laws.old s told t need b z g i, next.0))
not-stored-wants parts laws s told t new need b z false g i (inr away) tell =
    laws.wants s told (with_room t b) need b z g (roomy parts laws s told t need b z false g i) tell away.0

pub not-stored-holds : {F : Type 0} (parts : F → Option Parts) (laws : GrantLaws parts)
    (s : Setting) (told : BoardState) (t new : List Kept) (need b z : ℕ) (f : Bool) (g : ℕ)
    → IsGranted parts s told t need b z f g → IsNotStored z b f t new → HoldsBlocks parts s told new
not-stored-holds parts laws s told t new need b z true g i (inl same_) = subst (λ u. HoldsBlocks parts s told u) (sym same_) i.holds
not-stored-holds parts laws s told t new need b z true g i (inr room) = subst (λ u. HoldsBlocks parts s told u) (sym room) (laws.room s told t b i.holds)
not-stored-holds parts laws s told t new need b z false g i (inl next) = subst (λ u. HoldsBlocks parts s told u) (sym next.1) i.holds
not-stored-holds parts laws s told t new need b z false g i (inr away) =
    laws.refused s told (with_room t b) new need b z g (roomy parts laws s told t need b z false g i) away.1

-- The blocks that are given up may be let go before or after.
given-swap : (gs : List ℕ) (t : List Kept) (b : ℕ) → with_kept (without_kept gs t) b Empty ≡ without_kept gs (with_kept t b Empty)
given-swap [] t b = refl
given-swap (g ∷ gs) t b = given-swap gs (with_kept t g Empty) b ∙ ap (without_kept gs) (both-emptied t g b)

-- Then the place of the block is empty. That of one that isn't new is so once its storage is taken.
pub given-emptied : {F : Type 0} (parts : F → Option Parts) (laws : GrantLaws parts) (s : Setting) (told : BoardState) (t u : List Kept)
    (need b z : ℕ) (f : Bool) (g : ℕ) → IsGranted parts s told t need b z f g → (kept_at t b ≡ Empty → kept_at u b ≡ Empty)
    → without_kept (given_up_for s (past told) f g) (with_storage b f u) ≡ without_kept (given_up_for s (past told) f g) (with_kept (with_room u b) b Empty)
given-emptied parts laws s told t u need b z false g i same_ = refl
given-emptied parts laws s told t u need b z true g i same_ =
    let gs = given_up_for s (past told) true g in
    let left = without_kept gs (with_room u b) in
    sym (set-get_or left b Empty)
    ∙ ap (λ (k : Kept). with_kept left b k) (laws.emptied s told t (with_room u b) need b z g i (λ e. laws.room_keeps u b b ∙ same_ e))
    ∙ given-swap gs (with_room u b) b

-- what is kept is of a known block
pub kept-known : {F : Type 0} (parts : F → Option Parts) (s : Setting) (told : BoardState) (t : List Kept) (b : ℕ) → HoldsBlocks parts s told t
    → is_kept (kept_at t b) ≡ true → has_number b (known s (past told)) ≡ true
kept-known parts s told t b holds kept =
    elim (cases_Bool (has_number b (known s (past told)))) [
      | inl is ↦ is
      | inr unknown ↦ absurd (true≢false (sym kept ∙ ap is_kept (holds.only b unknown)))
    ]

home-kept : (n : ℕ) (k : Kept) → at_home n k ≡ Some true → is_kept k ≡ true
home-kept n Empty home = let never : false ≡ true = cc in absurd (true≢false (sym never))
home-kept n (Frame a p) home = refl
home-kept n (Storage m u) home = refl

-- and of a known one what the log tells
pub kept-told : {F : Type 0} (parts : F → Option Parts) (s : Setting) (told : BoardState) (b : ℕ) (l : LastGrant) (k : Kept) → IsKeptBy parts s told b l k
    → TellParts parts → TellsKept (is_away b told) l (is_kept k)
kept-told parts s told b Never k x tell = tt
kept-told parts s told b (InMaking r a n) k x tell = ap is_kept x.0
kept-told parts s told b (Made a n) k (inl on) tell = ap is_kept on.is
kept-told parts s told b (Made a n) k (inr gone) tell = absurd (gone.0 tell)
kept-told parts s told b (TakenBack n) k x tell = λ here. home-kept n k ((x tell).home ∙ ap (λ (y : Bool). Some (not y)) here)

-- the pool had no memory for a new block
pub fresh-holds : {F : Type 0} (parts : F → Option Parts) (laws : GrantLaws parts) (s : Setting) (told : BoardState) (t new : List Kept) (b : ℕ) (f : Bool)
    → HoldsBlocks parts s told t → f ≡ true → new ≡ with_storage b f t → HoldsBlocks parts s told new
fresh-holds parts laws s told t new b f holds fresh is =
    subst (λ u. HoldsBlocks parts s told u) (sym (is ∙ ap (λ (y : Bool). with_storage b y t) fresh)) (laws.room s told t b holds)
