-- Where nothing stays away, no storage is made anew.
use Rattle.std.proofs.Common.{◌≡◌, ℕ, zero, suc, Bool, true, false, not, ◌&&◌, ◌||◌, List, [], ◌∷◌, refl, sym, ap, ◌∙◌, subst, Option, Some, None, Ok, Err}
use Rattle.std.proofs.Common.{inl, inr, if◌then◌else◌}
use Rattle.std.specs.Prelude.{is_some}
use Rattle.std.specs.List.{list_any}
use Rattle.std.proofs.lemmas.Bool.{and_parts, false≢true, true≢false, cases_Bool, or_parts, not_from_false, not-true}
use Rattle.nd_base.specs.Parts.{Parts}
use Rattle.nd_base.specs.declared.frame.FrameName.{FrameName}
use Rattle.pool_ledger.specs.Grants.{Answer, Granted}
use Rattle.pool_ledger.specs.Grants as pool
use Rattle.flow_journal.specs.declared.entry.Entry.{Entry}
use Rattle.flow_journal.specs.declared.entry.Entry.TheVariants.{Load, LoadRefused, Tick, Issue, Emit, Accept, Full, Take, TakeBlock, PoolDrop, Put, SortDrop}
use Rattle.flow_journal.specs.declared.entry.Entry.TheVariants.{Settle, Save, Saved, Close, Leave}
use Rattle.flow_journal.specs.Setting.{Setting}
use Rattle.flow_journal.specs.Pasts.{Past, frame, same}
use Rattle.flow_journal.specs.Following.{calls_for}
use Rattle.flow_journal.specs.Queued.{has_room}
use Rattle.flow_journal.specs.Hands.{hand}
use Rattle.flow_journal.specs.Ended.{is_closed, is_settled, has_left}
use Rattle.flow_journal.proofs.Steps.{same_refl}
use Rattle.board_rules.specs.declared.answers.Left.{Left}
use Rattle.board_rules.specs.declared.answers.Load.{Load as load_answer}
use Rattle.board_rules.specs.declared.answers.Load.TheVariants as load
use Rattle.board_rules.specs.declared.answers.Take.{Take as take_answer}
use Rattle.board_rules.specs.declared.answers.Take.TheVariants as take
use Rattle.board_rules.specs.declared.answers.Save.{Save as save_answer}
use Rattle.board_rules.specs.declared.answers.Save.TheVariants as save
use Rattle.board_rules.specs.declared.answers.Settled.TheVariants as settled
use Rattle.board_rules.specs.InHand.{TellParts, hand_node, IsStorage, IsLent, IsOfHand}
use Rattle.flow_journal.specs.ResultNames.{result_name}
use Rattle.flow_journal.specs.EntryTests.{says_regrown}
use Rattle.board_rules.specs.Feeding.{LoadAnswers}
use Rattle.board_rules.specs.Working.{TakeAnswers}
use Rattle.board_rules.specs.Saving.{SaveAnswers}
use Rattle.board_rules.specs.Runs.{Frames, Call, Loads, Issues, Takes, Puts, Settles, Saves as SavesOne, Saveds, Closes, Leaves, Reclaims, Asks, Finishes}
use Rattle.board_rules.specs.Runs.{Gives, Runs}
use Rattle.board_rules.specs.RunLaws.{BringsAll, AllBring, CallsKeepStorage, RunsKeepStorage, LosslessRunsKeepStorage}
use Rattle.board_rules.specs.declared.told.Told.{Told}
use Rattle.board_rules.specs.States.{BoardState, past, plain, lends, loses, lent_to, take_block}
use Rattle.board_rules.specs.Moving.{made_of, with_all, moved_at}
use Rattle.board_rules.specs.Storage.{is_away, is_among, grants, IsRegrown, brings, lost_of, is_never_regrown, is_some_lost, has_lost, HasAllStorage}
use Rattle.board_rules.specs.Storage.{KeepsStorage}
use Rattle.board_rules.proofs.Moved.{fits, all_fit, fit-first, fit-next}

-- FOLLOWERS ADD NOTHING

made-plain : (s : Setting) (tick n : ℕ) (P : Past) (d : Entry) → fits n d ≡ true → says_regrown (made_of s tick P d) ≡ false
made-plain s tick n P (Tick t) h = refl
made-plain s tick n P (Emit v m k why) h = refl
made-plain s tick n P (Accept v m k) h =
    elim (cases_Bool (has_room s P v)) [
      | inl room ↦ rw room refl
      | inr full ↦ rw full refl
    ]
made-plain s tick n P (Full v m k) h = refl
made-plain s tick n P (SortDrop v m k) h = refl
made-plain s tick n P _ h = absurd (false≢true h)

-- what is told by these stays as it is
pub lost-stays : (s : Setting) (tick n : ℕ) (ds : List Entry) (b : BoardState) → has_lost (with_all s tick n ds b) ≡ has_lost b
lost-stays s tick zero ds b = refl
lost-stays s tick (suc n) [] b = refl
lost-stays s tick (suc n) (d ∷ ds) b =
    let e = made_of s tick (past b) d in
    lost-stays s tick (suc n) ds (with_all s tick n (calls_for s (past b) e) (plain e ∷ b)) ∙ lost-stays s tick n (calls_for s (past b) e) (plain e ∷ b)

pub regrown-stays : (s : Setting) (tick n : ℕ) (ds : List Entry) (b : BoardState) → all_fit n ds ≡ true
    → list_any says_regrown (past (with_all s tick n ds b)) ≡ list_any says_regrown (past b)
regrown-stays s tick zero ds b h = refl
regrown-stays s tick (suc n) [] b h = refl
regrown-stays s tick (suc n) (d ∷ ds) b h =
    let p = and_parts (fits (suc n) d) (all_fit (suc n) ds) h in
    let e = made_of s tick (past b) d in
    regrown-stays s tick (suc n) ds (with_all s tick n (calls_for s (past b) e) (plain e ∷ b)) p.1
    ∙ (regrown-stays s tick n (calls_for s (past b) e) (plain e ∷ b) (fit-next s tick n (past b) d p.0)
    ∙ ap (λ (x : Bool). x || list_any says_regrown (past b)) (made-plain s tick (suc n) (past b) d p.0))

-- A MOVE

pub moved-lost : (s : Setting) (tick : ℕ) (t : Told) (b : BoardState) → has_lost (moved_at s tick t b) ≡ (is_some_lost t.lost || has_lost b)
moved-lost s tick t b = lost-stays s tick 3 (calls_for s (past b) t.entry) (t ∷ b)

pub moved-regrown : (s : Setting) (tick : ℕ) (t : Told) (b : BoardState)
    → list_any says_regrown (past (moved_at s tick t b)) ≡ (says_regrown t.entry || list_any says_regrown (past b))
moved-regrown s tick t b = regrown-stays s tick 3 (calls_for s (past b) t.entry) (t ∷ b) (fit-first s (past b) t.entry)

-- where nothing is lost, nothing is away
among-none : (b : ℕ) (bs : List ℕ) → is_some_lost bs ≡ false → is_among b bs ≡ false
among-none b [] h = refl
among-none b (c ∷ cs) h = absurd (true≢false h)

pub nothing-away : (k : ℕ) (b : BoardState) → has_lost b ≡ false → is_away k b ≡ false
nothing-away k [] h = refl
nothing-away k (t ∷ b) h =
    let p = or_parts (is_some_lost t.lost) (has_lost b) h in
    elim (cases_Bool (grants k t.entry)) [
      | inl yes_ ↦ rw yes_ refl
      | inr no_ ↦ rw (no_, among-none k t.lost p.0) (nothing-away k b p.1)
    ]

-- WHAT A CALL ADDS

-- Nothing, or a move. No grant there says regrown where frames tell their parts and nothing had stayed away; and where all comes back,
-- nothing stays away with it.
data Adds (s : Setting) (old new : BoardState) (tell back : Type 0) : Type 0 where
  nothing : new ≡ old → Adds s old new tell back
  move : (tick : ℕ) (t : Told) → new ≡ moved_at s tick t old → (tell → has_lost old ≡ false → says_regrown t.entry ≡ false)
      → (back → is_some_lost t.lost ≡ false) → Adds s old new tell back

and-false : (a b : Bool) → b ≡ false → (a && b) ≡ false
and-false true b h = h
and-false false b h = refl

pub isnt-away : {F : Type 0} (parts : F → Option Parts) (old : BoardState) (b : ℕ) (f x : Bool) → IsRegrown parts old b f x → TellParts parts
    → has_lost old ≡ false → x ≡ false
isnt-away parts old b f x is tell h = is.1 tell ∙ and-false (not f) (is_away b old) (nothing-away b old h)

adds-if : (tell back : Type 0) (s : Setting) (old new : BoardState) (b : Bool) (t : Told) → says_regrown t.entry ≡ false → is_some_lost t.lost ≡ false
    → new ≡ (if b then old else moved_at s 0 t old) → Adds s old new tell back
adds-if tell back s old new true t says lost e = Adds.nothing e
adds-if tell back s old new false t says lost e = Adds.move 0 t e (λ x h. says) (λ x. lost)

adds-plain : (tell back : Type 0) (s : Setting) (old new : BoardState) (tick : ℕ) (t : Told) → says_regrown t.entry ≡ false → is_some_lost t.lost ≡ false
    → new ≡ moved_at s tick t old → Adds s old new tell back
adds-plain tell back s old new tick t says lost e = Adds.move tick t e (λ x h. says) (λ x. lost)

adds-load : {F B : Type 0} (back : Type 0) (parts : F → Option Parts) (bytes_of : B
    → ℕ) (s : Setting) (old new : BoardState) (r tick : ℕ) (o : Option (load_answer B)) (g : Answer) (a : load_answer B)
    → LoadAnswers parts bytes_of s old r tick o g a new → Adds s old new (TellParts parts) back
adds-load back parts bytes_of s old new r tick (Some x) g a c = Adds.nothing c.1
adds-load back parts bytes_of s old new r tick None pool.Refused (load.Refused k z) c =
    adds-plain (TellParts parts) back s old new tick (plain (LoadRefused r k (s.need 0) z)) refl refl c.2
adds-load back parts bytes_of s old new r tick None (Granted b n f g) (load.Loaded k blank) c =
    Adds.move tick (plain (Load r k b n f g c.2.0)) c.2.2 (isnt-away parts old b f c.2.0 c.2.1) (λ x. refl)
adds-load back parts bytes_of s old new r tick None (Granted b n f g) load.OutOfMemory c = Adds.nothing c.1
adds-load back parts bytes_of s old new r tick None g _ c = absurd c

adds-take : {F B O : Type 0} (back : Type 0) (name_of : F → FrameName) (parts : F → Option Parts) (bytes_of : B
    → ℕ) (s : Setting) (old new : BoardState) (r v : ℕ) (o : Option (take_answer F B O)) (g : Option Answer) (a : take_answer F B O)
    → TakeAnswers name_of parts bytes_of s old r v o g a new → Adds s old new (TellParts parts) back
adds-take back name_of parts bytes_of s old new r v (Some x) g a c = Adds.nothing c.1
adds-take back name_of parts bytes_of s old new r v None (Some pool.Refused) (take.PoolDrop k z) c =
    adds-plain (TellParts parts) back s old new 0 (plain (PoolDrop r v c.1.0.maker c.1.0.index (s.need v) z)) refl refl c.1.3
adds-take back name_of parts bytes_of s old new r v None (Some (Granted b n f g)) (take.Job w input (Some blank)) c =
    Adds.move 0 (lends (take_block r v (name_of input) b n f g c.3.0) (parts input)) c.3.2 (isnt-away parts old b f c.3.0 c.3.1) (λ x. refl)
adds-take back name_of parts bytes_of s old new r v None (Some (Granted b n f g)) take.OutOfMemory c = Adds.nothing c.1
adds-take back name_of parts bytes_of s old new r v None None (take.Job w input None) c =
    adds-plain (TellParts parts) back s old new 0 (lends (Take r v (name_of input).maker (name_of input).index) (parts input)) refl refl c.2
adds-take back name_of parts bytes_of s old new r v None None take.OutOfMemory c = Adds.nothing c.1
adds-take back name_of parts bytes_of s old new r v None g _ c = absurd c

adds-save : {F : Type 0} (back : Type 0) (name_of : F → FrameName) (parts : F
    → Option Parts) (s : Setting) (old new : BoardState) (r v : ℕ) (o : Option (save_answer F)) (a : save_answer F)
    → SaveAnswers name_of parts s old r v o a new → Adds s old new (TellParts parts) back
adds-save back name_of parts s old new r v (Some x) a c = Adds.nothing c.1
adds-save back name_of parts s old new r v None (save.Piece input group place of) c =
    adds-plain (TellParts parts) back s old new 0 (lends (Save r v (name_of input).maker (name_of input).index group) (parts input)) refl refl c.5
adds-save back name_of parts s old new r v None save.OutOfMemory c = Adds.nothing c.1
adds-save back name_of parts s old new r v None _ c = absurd c

-- WHAT COMES BACK

lent-back : {F : Type 0} (name_of : F → FrameName) (parts : F → Option Parts) (a : FrameName) (lent : Option Parts) (input : Option F)
    → IsLent name_of parts a lent input → brings name_of a input ≡ true
lent-back name_of parts a lent None h = absurd h
lent-back name_of parts a lent (Some f) h = ap (λ (b : FrameName). same b a) h.0 ∙ same_refl a

storage-back : {F B : Type 0} (name_of : F → FrameName) (parts : F → Option Parts) (bytes_of : B → ℕ) (a : FrameName) (n : ℕ) (made : Option F)
    (blank : Option B)
    → IsStorage name_of parts bytes_of a n made blank → (is_some made || is_some blank) ≡ true
storage-back name_of parts bytes_of a n None (Some blank) h = refl
storage-back name_of parts bytes_of a n (Some f) None h = refl
storage-back name_of parts bytes_of a n None None h = absurd h
storage-back name_of parts bytes_of a n (Some f) (Some blank) h = absurd h

-- where all that was handed out for a hand comes back, nothing stays away
pub none-lost : {F B O : Type 0} (name_of : F → FrameName) (parts : F → Option Parts) (bytes_of : B → ℕ) (P : Past) (lent : Option Parts)
    (o : Option Entry) (left : Left F B O)
    → IsOfHand name_of parts bytes_of lent o left.input left.made left.blank → lost_of name_of P o left ≡ []
none-lost name_of parts bytes_of P lent None left h = rw (h.1, h.2) refl
none-lost name_of parts bytes_of P lent (Some (Load r k b n f g x)) left h =
    rw (storage-back name_of parts bytes_of (frame 0 k) n left.made left.blank h.1) refl
none-lost name_of parts bytes_of P lent (Some (Take r v m k)) left h = rw (lent-back name_of parts (frame m k) lent left.input h.0) refl
none-lost name_of parts bytes_of P lent (Some (TakeBlock f x r v m k b n g)) left h =
    rw (storage-back name_of parts bytes_of (frame v k) n left.made left.blank h.1, lent-back name_of parts (frame m k) lent left.input h.0) refl
none-lost name_of parts bytes_of P lent (Some (Save r v m k g)) left h = rw (lent-back name_of parts (frame m k) lent left.input h.0) refl
none-lost name_of parts bytes_of P lent (Some _) left h = absurd h

-- EACH CALL

adds-call : {F B O : Type 0} (fs : Frames F B) (s : Setting) (old new : BoardState) (call : Call F B O) → Gives fs s old call new
    → Adds s old new (TellParts fs.parts) (BringsAll fs old call)
adds-call fs s old new (Loads r tick answer) c = adds-load (Unit {0}) fs.parts fs.bytes_of s old new r tick _ _ answer c
adds-call fs s old new (Issues r f (Ok _)) c = adds-plain _ _ s old new 0 (plain (Issue r (fs.name_of f).index)) refl refl c.1
adds-call fs s old new (Issues r f (Err e)) c = Adds.nothing c.2
adds-call {F} {B} {O} fs s old new (Takes r v answer) c =
    adds-take {F = F} {B = B} {O = O} (Unit {0}) fs.name_of fs.parts fs.bytes_of s old new r v _ _ answer c
adds-call fs s old new (Puts r done (Ok _)) c =
    adds-plain _ _ s old new 0
    (plain (Put r done.node (result_name s done.node (fs.name_of done.input)).maker (fs.name_of done.input).index done.fired)) refl refl c.1
adds-call fs s old new (Puts r done (Err e)) c = Adds.nothing c.2
adds-call fs s old new (Settles r v settled.NotYet) c = Adds.nothing c.1
adds-call fs s old new (Settles r v settled.Done) c = adds-if _ _ s old new (is_settled v (past old)) (plain (Settle r v)) refl refl c.1
adds-call fs s old new (SavesOne r v answer) c = adds-save (Unit {0}) fs.name_of fs.parts s old new r v _ answer c
adds-call fs s old new (Saveds r f (Ok _)) c =
    adds-plain _ _ s old new 0 (plain (Saved r (hand_node (hand r (past old))) (fs.name_of f).maker (fs.name_of f).index)) refl refl c.1
adds-call fs s old new (Saveds r f (Err e)) c = Adds.nothing c.2
adds-call fs s old new (Closes r settled.NotYet) c = Adds.nothing c.1
adds-call fs s old new (Closes r settled.Done) c = adds-if _ _ s old new (is_closed (past old)) (plain (Close r)) refl refl c.1
adds-call fs s old new (Leaves r) c = adds-if _ _ s old new (has_left r (past old)) (plain (Leave r)) refl refl c
adds-call fs s old new (Reclaims r left (Ok _)) c =
    Adds.move 0 (loses r (lost_of fs.name_of (past old) (hand r (past old)) left)) c.1 (λ tell h. refl)
    (λ all. ap is_some_lost (none-lost fs.name_of fs.parts fs.bytes_of (past old) (lent_to r old) (hand r (past old)) left all))
adds-call fs s old new (Reclaims r left (Err e)) c = Adds.nothing c.2
adds-call fs s old new (Asks answer) c = Adds.nothing c.1
adds-call fs s old new (Finishes answer) c = Adds.nothing c.1

-- WHERE ALL COMES BACK

or-both : (a b : Bool) → a ≡ false → b ≡ false → (a || b) ≡ false
or-both a b h i = rw (h, i) refl

-- nothing stays away at a move with which nothing does, and no grant says regrown where that of the move doesn't
lost-later : (s : Setting) (old new : BoardState) (tick : ℕ) (t : Told) → new ≡ moved_at s tick t old → is_some_lost t.lost ≡ false
    → has_lost old ≡ false → has_lost new ≡ false
lost-later s old new tick t e lost h = ap has_lost e ∙ (moved-lost s tick t old ∙ or-both (is_some_lost t.lost) (has_lost old) lost h)

regrown-later : (s : Setting) (old new : BoardState) (tick : ℕ) (t : Told) → new ≡ moved_at s tick t old → says_regrown t.entry ≡ false
    → is_never_regrown (past old) ≡ true → is_never_regrown (past new) ≡ true
regrown-later s old new tick t e says h =
    not_from_false (list_any says_regrown (past new))
    (ap (λ (b : BoardState). list_any says_regrown (past b)) e
    ∙ (moved-regrown s tick t old ∙ or-both (says_regrown t.entry) (list_any says_regrown (past old)) says (not-true (list_any says_regrown (past old)) h)))

all-after : {F : Type 0} (parts : F → Option Parts) (back : Type 0) (s : Setting) (old new : BoardState) → Adds s old new (TellParts parts) back
    → back → HasAllStorage parts old → HasAllStorage parts new
all-after parts back s old new (Adds.nothing e) all h = subst (λ (b : BoardState). HasAllStorage parts b) (sym e) h
all-after parts back s old new (Adds.move tick t e says lost) all h =
    (lost-later s old new tick t e (lost all) h.0, λ tell. regrown-later s old new tick t e (says tell h.0) (h.1 tell))

pub calls-keep : {F B O : Type 0} → CallsKeepStorage F B O
calls-keep fs s old new call c all h = all-after fs.parts (BringsAll fs old call) s old new (adds-call fs s old new call c) all h

keep-on : {F B O : Type 0} (fs : Frames F B) (s : Setting) (old new : BoardState) (calls : List (Call F B O)) (runs : Runs fs s old calls new)
    → AllBring fs s old calls new runs → HasAllStorage fs.parts old → HasAllStorage fs.parts new
keep-on fs s old new [] runs all h = subst (λ (b : BoardState). HasAllStorage fs.parts b) (sym runs) h
keep-on fs s old new (call ∷ calls) runs all h =
    keep-on fs s runs.1.0 new calls runs.1.2 all.1 (calls-keep fs s old runs.1.0 call runs.1.1 all.0 h)

pub runs-keep : {F B O : Type 0} → RunsKeepStorage F B O
runs-keep fs s new calls runs all = keep-on fs s [] new calls runs all (refl, λ tell. refl)

-- the same of a move whose entry keeps storage
pub move-keeps : {F : Type 0} (parts : F → Option Parts) (s : Setting) (tick : ℕ) (t : Told) (old new : BoardState) → KeepsStorage old t
    → new ≡ moved_at s tick t old → HasAllStorage parts old → HasAllStorage parts new
move-keeps parts s tick t old new keeps e h =
    (lost-later s old new tick t e (ap is_some_lost keeps.0) h.0, λ tell. regrown-later s old new tick t e (keeps.1 h.0) (h.1 tell))

-- WHERE NOTHING STAYED AWAY IN THE END

-- then nothing had before
lost-before : (s : Setting) (old new : BoardState) (tell back : Type 0) → Adds s old new tell back → has_lost new ≡ false → has_lost old ≡ false
lost-before s old new tell back (Adds.nothing e) h = ap has_lost (sym e) ∙ h
lost-before s old new tell back (Adds.move tick t e says lost) h =
    (or_parts (is_some_lost t.lost) (has_lost old) (sym (moved-lost s tick t old) ∙ (ap has_lost (sym e) ∙ h))).1

regrown-after : (s : Setting) (old new : BoardState) (tell back : Type 0) → Adds s old new tell back → tell → has_lost old ≡ false
    → is_never_regrown (past old) ≡ true → is_never_regrown (past new) ≡ true
regrown-after s old new tell back (Adds.nothing e) tells h never = subst (λ (b : BoardState). is_never_regrown (past b) ≡ true) (sym e) never
regrown-after s old new tell back (Adds.move tick t e says lost) tells h never = regrown-later s old new tick t e (says tells h) never

lossless : {F B O : Type 0} (fs : Frames F B) (s : Setting) (old new : BoardState) (calls : List (Call F B O)) → TellParts fs.parts
    → Runs fs s old calls new → has_lost new ≡ false
    → (has_lost old ≡ false) × (is_never_regrown (past old) ≡ true → is_never_regrown (past new) ≡ true)
lossless fs s old new [] tell c h =
    (ap has_lost (sym c) ∙ h, λ never. subst (λ (b : BoardState). is_never_regrown (past b) ≡ true) (sym c) never)
lossless fs s old new (call ∷ calls) tell c h =
    let later = lossless fs s c.1.0 new calls tell c.1.2 h in
    let adds = adds-call fs s old c.1.0 call c.1.1 in
    let before = lost-before s old c.1.0 _ _ adds later.0 in
    (before, λ never. later.1 (regrown-after s old c.1.0 _ _ adds tell before never))

pub lossless-keep : {F B O : Type 0} → LosslessRunsKeepStorage F B O
lossless-keep fs s new calls tell c h = (lossless fs s [] new calls tell c h).1 refl
