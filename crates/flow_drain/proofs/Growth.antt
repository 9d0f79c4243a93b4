-- A board only grows, and what moves leave of the hands.
use Rattle.std.proofs.Common.{◌≡◌, ℕ, ◌<◌, ◌≤◌, true, false, [], ◌∷◌, ◌++◌, length, refl, sym, ap, ◌∙◌, subst, arith, Option, Some, None}
use Rattle.std.specs.Prelude.{find}
use Rattle.std.proofs.lemmas.List.{append_assoc, length-append}
use Rattle.nd_base.specs.Parts.{Parts}
use Rattle.flow_journal.specs.declared.entry.Entry.{Entry}
use Rattle.flow_journal.specs.declared.entry.Entry.TheVariants.{Load, LoadRefused, Issue, Take, TakeBlock, PoolDrop, Put, Settle, Save, Saved, Close, Leave}
use Rattle.flow_journal.specs.declared.entry.Entry.TheVariants.{Reclaim}
use Rattle.flow_journal.specs.Setting.{Setting}
use Rattle.flow_journal.specs.Pasts.{Past}
use Rattle.flow_journal.specs.Hands.{takes_up, let_go, hands, hand}
use Rattle.flow_journal.specs.EntryLaws.{moves_hands}
use Rattle.flow_journal.proofs.Changes.{job_laws}
use Rattle.board_rules.specs.declared.told.Told.{Told}
use Rattle.board_rules.specs.States.{BoardState, past}
use Rattle.flow_journal.specs.MoveLists.{begun_by}
use Rattle.board_rules.specs.Moving.{moved_at}
use Rattle.board_rules.specs.Storage.{HasAllStorage, KeepsStorage}
use Rattle.board_rules.proofs.Moves.{followers, one-move, GoOn}
use Rattle.board_rules.proofs.Pasts.{past-append}
use Rattle.board_rules.proofs.Storage.{move-keeps}
use Rattle.flow_roles.specs.TurnPasses.{BeginsWith}
use Rattle.flow_roles.proofs.Calls.{from-move}
use Rattle.flow_drain.specs.Drains.{is_drains, is_load, DrainMoves}

-- LENGTHS

pub longer : (s : Setting) (at : ℕ) (t : Told) (b new : BoardState) → new ≡ moved_at s at t b → length (past b) < length (past new)
longer s at t b new is =
    let f = followers s at t b in
    let whole : past new ≡ past f.more ++ past (t ∷ b) = ap past (is ∙ f.whole) ∙ past-append f.more (t ∷ b) in
    let both = length-append (past f.more) (past (t ∷ b)) in
    let all : length (past new) ≡ length (past f.more ++ past (t ∷ b)) = ap (λ (P : Past). length P) whole in
    omega (arith, all, both)

pub moves-longer : (s : Setting) (tick : ℕ) (old new : BoardState) → DrainMoves s tick old new → length (past old) ≤ length (past new)
moves-longer s tick old _ (DrainMoves.none new is) = omega (arith, ap (λ (b : BoardState). length (past b)) is)
moves-longer s tick old _ (DrainMoves.more b new t at m d l k is) = omega (arith, moves-longer s tick old b m, longer s at t b new is)

pub moves-same : (s : Setting) (tick : ℕ) (old new : BoardState) → DrainMoves s tick old new → length (past new) ≤ length (past old) → new ≡ old
moves-same s tick old _ (DrainMoves.none new is) h = is
moves-same s tick old _ (DrainMoves.more b new t at m d l k is) h = absurd (omega (arith, moves-longer s tick old b m, longer s at t b new is, h))

-- a board between two that are one is the same
pub squeezed : (s : Setting) (tick : ℕ) (a b c : BoardState) → DrainMoves s tick a b → DrainMoves s tick b c → c ≡ a → b ≡ a
squeezed s tick a b c m n is = moves-same s tick a b m (omega (arith, moves-longer s tick b c n, ap (λ (x : BoardState). length (past x)) is))

pub moves-on : (s : Setting) (tick : ℕ) (a b c : BoardState) → DrainMoves s tick a b → DrainMoves s tick b c → DrainMoves s tick a c
moves-on s tick a b _ m (DrainMoves.none c is) = subst (λ (x : BoardState). DrainMoves s tick a x) (sym is) m
moves-on s tick a b _ m (DrainMoves.more d c t at n e l k is) = DrainMoves.more d c t at (moves-on s tick a b d m n) e l k is

-- the old board stands at the beginning of the new one
pub grown : (s : Setting) (tick : ℕ) (old new : BoardState) → DrainMoves s tick old new → BeginsWith new old
grown s tick old _ (DrainMoves.none new is) = ([], is)
grown s tick old _ (DrainMoves.more b new t at m d l k is) =
    let g = grown s tick old b m in
    let f = followers s at t b in
    (f.more ++ t ∷ g.0, is ∙ (f.whole ∙ (ap (λ (x : BoardState). f.more ++ t ∷ x) g.1 ∙ sym (append_assoc f.more (t ∷ g.0) old))))

pub begins-on : (a b c : BoardState) → BeginsWith b a → BeginsWith c b → BeginsWith c a
begins-on a b c p q = (q.0 ++ p.0, q.1 ∙ (ap (λ (x : BoardState). q.0 ++ x) p.1 ∙ sym (append_assoc q.0 p.0 a)))

pub no-move : (s : Setting) (tick : ℕ) (old new : BoardState) → new ≡ old → DrainMoves s tick old new
no-move s tick old new is = DrainMoves.none new is

pub one-of : (s : Setting) (tick at : ℕ) (t : Told) (old new : BoardState) → is_drains s t.entry ≡ true
    → (is_load t.entry ≡ true → at ≡ tick) → KeepsStorage old t → new ≡ moved_at s at t old
    → DrainMoves s tick old new
one-of s tick at t old new d l k is = DrainMoves.more old new t at (DrainMoves.none old refl) d l k is

-- they leave all storage
pub drain-keeps : {F : Type 0} (parts : F → Option Parts) (s : Setting) (tick : ℕ) (old new : BoardState) → DrainMoves s tick old new
    → HasAllStorage parts old → HasAllStorage parts new
drain-keeps parts s tick old _ (DrainMoves.none new is) h = subst (λ (b : BoardState). HasAllStorage parts b) (sym is) h
drain-keeps parts s tick old _ (DrainMoves.more b new t at m d l k is) h =
    move-keeps parts s at t b new k is (drain-keeps parts s tick old b m h)

-- HANDS

-- what begins no move changes no hand
still-hands : (e : Entry) → begun_by e ≡ None → moves_hands e ≡ false
still-hands (Load q k b n f g x) h = cc
still-hands (LoadRefused q k n z) h = cc
still-hands (Issue q k) h = cc
still-hands (Take q v m k) h = cc
still-hands (TakeBlock f x q v m k b n g) h = cc
still-hands (PoolDrop q v m k n z) h = cc
still-hands (Put q v m k f) h = cc
still-hands (Settle q v) h = cc
still-hands (Save q v m k g) h = cc
still-hands (Saved q v m k) h = cc
still-hands (Close q) h = cc
still-hands (Leave q) h = cc
still-hands (Reclaim q) h = cc
still-hands _ h = refl

hands-after : (more b : BoardState) → GoOn more → hands (past (more ++ b)) ≡ hands (past b)
hands-after [] b g = refl
hands-after (u ∷ more) b g = job_laws.others u.entry (past (more ++ b)) (still-hands u.entry g.0) ∙ hands-after more b g.1

-- the hands after a move are those after its first entry
pub hands-moved : (s : Setting) (at r : ℕ) (t : Told) (b new : BoardState) → begun_by t.entry ≡ Some r → new ≡ moved_at s at t b
    → hands (past new) ≡ hands (t.entry ∷ past b)
hands-moved s at r t b new first is =
    let f = followers s at t b in
    ap (λ (x : BoardState). hands (past x)) (is ∙ f.whole) ∙ hands-after f.more (t ∷ b) (from-move r f.more t (one-move r f.more t f.go first))

pub hand-one : (r : ℕ) (e : Entry) (P : Past) → hands P ≡ e ∷ [] → takes_up r e ≡ true → hand r P ≡ Some e
hand-one r e P is up = ap (λ (hs : Past). find (takes_up r) hs) is ∙ rw up refl

pub none-held : (r : ℕ) (P : Past) → hands P ≡ [] → hand r P ≡ None
none-held r P is = ap (λ (hs : Past). find (takes_up r) hs) is

pub let-one : (r : ℕ) (e : Entry) (hs : Past) → hs ≡ e ∷ [] → takes_up r e ≡ true → let_go r hs ≡ []
let-one r e hs is up = ap (λ (xs : Past). let_go r xs) is ∙ rw up refl
