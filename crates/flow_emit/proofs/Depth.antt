-- What is made of emissions and of offers depends neither on a tick nor on how deep calls may go.
use Rattle.std.proofs.Common.{◌≡◌, ◌∙◌, ℕ, zero, suc, true, false, Bool, List, [], ◌∷◌, ◌++◌, map, refl, sym, ap, if◌then◌else◌}
use Rattle.std.specs.List.{list_all}
use Rattle.std.proofs.lemmas.Bool.{true≢false}
use Rattle.nd_base.specs.declared.frame.FrameName.{FrameName}
use Rattle.flow_journal.specs.declared.entry.Entry.{Entry}
use Rattle.flow_journal.specs.declared.entry.Entry.TheVariants.{Load, LoadRefused, Tick, Issue, Emit, Accept, Full, Take, TakeBlock, PoolDrop, Put}
use Rattle.flow_journal.specs.declared.entry.Entry.TheVariants.{SortDrop, Settle, Save, Saved, Close, Leave, Reclaim}
use Rattle.flow_journal.specs.Setting.{Setting}
use Rattle.flow_journal.specs.Pasts.{frame}
use Rattle.flow_journal.specs.Queued.{has_room}
use Rattle.flow_journal.specs.Following.{offer, calls_for}
use Rattle.flow_journal.specs.Histories.{wanted}
use Rattle.flow_journal.specs.Turns.{offered_to}
use Rattle.board_rules.specs.States.{BoardState, past, plain}
use Rattle.board_rules.specs.Moving.{with_all}

-- the entry lets an array out of a node, or drops a result
abbrev pub is_out : Entry → Bool
is_out (Emit v m k why) = true
is_out (SortDrop v m k) = true
is_out _ = false

nothing_more : (s : Setting) (t n : ℕ) (b : BoardState) → with_all s t n [] b ≡ b
nothing_more s t zero b = refl
nothing_more s t (suc n) b = refl

-- an offer calls for nothing
one-offer : (s : Setting) (t n : ℕ) (a : FrameName) (c : ℕ) (b : BoardState) (ds : List Entry)
    → with_all s t (suc n) (offer a c ∷ ds) b ≡ with_all s t (suc n) ds (plain (wanted s (past b) (offer a c)) ∷ b)
one-offer s t n a c b ds = split (has_room s (past b) c) where
  split : (r : Bool)
      → with_all s t (suc n) ds (with_all s t n (calls_for s (past b) (if r then Accept c a.maker a.index else Full c a.maker a.index))
      (plain (if r then Accept c a.maker a.index else Full c a.maker a.index) ∷ b))
      ≡ with_all s t (suc n) ds (plain (if r then Accept c a.maker a.index else Full c a.maker a.index) ∷ b)
  split true = ap (with_all s t (suc n) ds) (nothing_more s t n (plain (Accept c a.maker a.index) ∷ b))
  split false = ap (with_all s t (suc n) ds) (nothing_more s t n (plain (Full c a.maker a.index) ∷ b))

pub offers-flat : (s : Setting) (t n : ℕ) (a : FrameName) (cs : List ℕ) (b : BoardState)
    → with_all s t (suc n) (map (offer a) cs) b ≡ with_all s 0 1 (map (offer a) cs) b
offers-flat s t n a [] b = refl
offers-flat s t n a (c ∷ cs) b =
    one-offer s t n a c b (map (offer a) cs)
    ∙ (offers-flat s t n a cs (plain (wanted s (past b) (offer a c)) ∷ b)
    ∙ sym (one-offer s 0 0 a c b (map (offer a) cs)))

-- one more offer
pub offers-first : (s : Setting) (a : FrameName) (c : ℕ) (cs : List ℕ) (b : BoardState)
    → with_all s 0 1 (map (offer a) (c ∷ cs)) b ≡ with_all s 0 1 (map (offer a) cs) (plain (wanted s (past b) (offer a c)) ∷ b)
offers-first s a c cs b = one-offer s 0 0 a c b (map (offer a) cs)

pub outs-flat : (s : Setting) (t n : ℕ) (ds : List Entry) (b : BoardState) → list_all is_out ds ≡ true → with_all s t (suc (suc n)) ds b ≡ with_all s 0 2 ds b
outs-flat s t n [] b h = refl
outs-flat s t n (Emit v m k why ∷ ds) b h =
    ap (with_all s t (suc (suc n)) ds) (offers-flat s t n (frame m k) (offered_to s (past b) v) (plain (Emit v m k why) ∷ b))
    ∙ outs-flat s t n ds _ h
outs-flat s t n (SortDrop v m k ∷ ds) b h = outs-flat s t n ds (plain (SortDrop v m k) ∷ b) h
outs-flat s t n (Load r k c z f g x ∷ ds) b h = absurd (true≢false (sym h))
outs-flat s t n (LoadRefused r k z u ∷ ds) b h = absurd (true≢false (sym h))
outs-flat s t n (Tick u ∷ ds) b h = absurd (true≢false (sym h))
outs-flat s t n (Issue r k ∷ ds) b h = absurd (true≢false (sym h))
outs-flat s t n (Accept v m k ∷ ds) b h = absurd (true≢false (sym h))
outs-flat s t n (Full v m k ∷ ds) b h = absurd (true≢false (sym h))
outs-flat s t n (Take r v m k ∷ ds) b h = absurd (true≢false (sym h))
outs-flat s t n (TakeBlock f x r v m k c z g ∷ ds) b h = absurd (true≢false (sym h))
outs-flat s t n (PoolDrop r v m k z u ∷ ds) b h = absurd (true≢false (sym h))
outs-flat s t n (Put r v m k f ∷ ds) b h = absurd (true≢false (sym h))
outs-flat s t n (Settle r v ∷ ds) b h = absurd (true≢false (sym h))
outs-flat s t n (Save r v m k g ∷ ds) b h = absurd (true≢false (sym h))
outs-flat s t n (Saved r v m k ∷ ds) b h = absurd (true≢false (sym h))
outs-flat s t n (Close r ∷ ds) b h = absurd (true≢false (sym h))
outs-flat s t n (Leave r ∷ ds) b h = absurd (true≢false (sym h))
outs-flat s t n (Reclaim r ∷ ds) b h = absurd (true≢false (sym h))

-- these one after the other
pub outs-append : (s : Setting) (xs ys : List Entry) (b : BoardState) → with_all s 0 2 (xs ++ ys) b ≡ with_all s 0 2 ys (with_all s 0 2 xs b)
outs-append s [] ys b = refl
outs-append s (x ∷ xs) ys b = outs-append s xs ys _
