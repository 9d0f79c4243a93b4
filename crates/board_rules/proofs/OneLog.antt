-- All answers but want of memory leave the same log.
use Rattle.std.proofs.Common.{◌≡◌, ℕ, zero, suc, Bool, true, false, List, [], ◌∷◌, sym, ap, ◌∙◌, Option, Some, None, Ok, Err, Result}
use Rattle.std.proofs.lemmas.Bool.{true≢false}
use Rattle.nd_base.specs.Parts.{Parts}
use Rattle.nd_base.specs.declared.frame.FrameName.{FrameName}
use Rattle.pool_ledger.specs.Grants.{Answer, Granted}
use Rattle.pool_ledger.specs.Grants as pool
use Rattle.flow_journal.specs.declared.entry.Entry.{Entry}
use Rattle.flow_journal.specs.declared.entry.Entry.TheVariants.{Load, LoadRefused, Take, PoolDrop, Save}
use Rattle.flow_journal.specs.Setting.{Setting}
use Rattle.flow_journal.specs.Pasts.{Past, without}
use Rattle.flow_journal.specs.Following.{calls_for}
use Rattle.flow_journal.specs.FirstEntries.{is_next}
use Rattle.flow_journal.proofs.Steps.{next_is}
use Rattle.board_rules.specs.declared.answers.Load.{Load as load_answer}
use Rattle.board_rules.specs.declared.answers.Load.TheVariants as load
use Rattle.board_rules.specs.declared.answers.Take.{Take as take_answer}
use Rattle.board_rules.specs.declared.answers.Take.TheVariants as take
use Rattle.board_rules.specs.declared.answers.Save.{Save as save_answer}
use Rattle.board_rules.specs.declared.answers.Save.TheVariants as save
use Rattle.board_rules.specs.declared.answers.Settled.{Settled}
use Rattle.board_rules.specs.declared.answers.Settled.TheVariants as settled
use Rattle.board_rules.specs.declared.answers.Done.{Done}
use Rattle.board_rules.specs.declared.answers.Left.{Left}
use Rattle.board_rules.specs.declared.answers.NotYours.{NotYours}
use Rattle.board_rules.specs.declared.answers.NoReclaim.{NoReclaim}
use Rattle.board_rules.specs.declared.told.Told.{Told}
use Rattle.board_rules.specs.States.{BoardState, past, plain, lends, take_block}
use Rattle.board_rules.specs.Moving.{made_of, with_all, moved_at}
use Rattle.board_rules.specs.InHand.{TellParts}
use Rattle.board_rules.specs.Storage.{IsRegrown}
use Rattle.board_rules.specs.Feeding.{LoadAnswers, IssueGives, CloseGives}
use Rattle.board_rules.specs.Working.{TakeAnswers, PutGives, SettleGives}
use Rattle.board_rules.specs.Saving.{SaveAnswers, SavedGives}
use Rattle.board_rules.specs.Leaving.{ReclaimGives}
use Rattle.board_rules.specs.Runs.{load_wants, take_wants, save_wants}
use Rattle.board_rules.specs.AnswerLaws.{LogsAreTold}

-- THE LOG OF A MOVE GOES BY THE LOG

same-past : (s : Setting) (tick n : ℕ) (ds : List Entry) (b c : BoardState) → past b ≡ past c → past (with_all s tick n ds b) ≡ past (with_all s tick n ds c)
same-past s tick zero ds b c h = h
same-past s tick (suc n) [] b c h = h
same-past s tick (suc n) (d ∷ ds) b c h =
    let e : Past → Entry = λ P. made_of s tick P d in
    let calls : Past → List Entry = λ P. calls_for s P (e P) in
    let here : e (past b) ∷ past b ≡ e (past c) ∷ past c = ap (λ (P : Past). e P ∷ P) h in
    let inner : past (with_all s tick n (calls (past b)) (plain (e (past b)) ∷ b)) ≡ past (with_all s tick n (calls (past c)) (plain (e (past c)) ∷ c)) =
    same-past s tick n (calls (past b)) (plain (e (past b)) ∷ b) (plain (e (past c)) ∷ c) here
    ∙ ap (λ (P : Past). past (with_all s tick n (calls P) (plain (e (past c)) ∷ c))) h in
    same-past s tick (suc n) ds
    (with_all s tick n (calls (past b)) (plain (e (past b)) ∷ b)) (with_all s tick n (calls (past c)) (plain (e (past c)) ∷ c)) inner

same-moved : (s : Setting) (tick : ℕ) (t u : Told) (b : BoardState) → t.entry ≡ u.entry → past (moved_at s tick t b) ≡ past (moved_at s tick u b)
same-moved s tick t u b h =
    same-past s tick 3 (calls_for s (past b) t.entry) (t ∷ b) (u ∷ b) (ap (λ (e : Entry). e ∷ past b) h)
    ∙ ap (λ (e : Entry). past (with_all s tick 3 (calls_for s (past b) e) (u ∷ b))) h

-- both boards are as before
stays : (old new other : BoardState) → new ≡ old → other ≡ old → past new ≡ past other
stays old new other e f = ap past (e ∙ sym f)

moves : (s : Setting) (tick : ℕ) (old new other : BoardState) (t u : Told) → new ≡ moved_at s tick t old → other ≡ moved_at s tick u old
    → t.entry ≡ u.entry → past new ≡ past other
moves s tick old new other t u e f h = ap past e ∙ (same-moved s tick t u old h ∙ sym (ap past f))

not-both : {A : Type 0} (b : Bool) → b ≡ true → b ≡ false → A
not-both b h i = absurd (true≢false (sym h ∙ i))

-- both are the first of these
same-next : (a b : FrameName) (xs : List FrameName) → is_next a xs ≡ true → is_next b xs ≡ true → a ≡ b
same-next a b xs h i =
    let both : a ∷ without a xs ≡ b ∷ without b xs = sym (next_is a xs h) ∙ next_is b xs i in
    cc

same-regrown : {F : Type 0} (parts : F → Option Parts) (old : BoardState) (b : ℕ) (f x y : Bool) → TellParts parts → IsRegrown parts old b f x
    → IsRegrown parts old b f y → x ≡ y
same-regrown parts old b f x y tell h i = h.1 tell ∙ sym (i.1 tell)

-- EACH CALL

one-load : {F B : Type 0} (parts : F → Option Parts) (bytes_of : B
    → ℕ) (s : Setting) (old new other : BoardState) (r tick : ℕ) (o : Option (load_answer B)) (g : Answer) (a b : load_answer B) → TellParts parts
    → load_wants a ≡ false → load_wants b ≡ false → LoadAnswers parts bytes_of s old r tick o g a new → LoadAnswers parts bytes_of s old r tick o g b other
    → past new ≡ past other
one-load parts bytes_of s old new other r tick (Some x) g a b tell v w c d = stays old new other c.1 d.1
one-load parts bytes_of s old new other r tick None pool.Refused (load.Refused k h) (load.Refused j i) tell v w c d =
    let p : k ≡ j = c.0 ∙ sym d.0 in
    let q : h ≡ i = c.1 ∙ sym d.1 in
    moves s tick old new other (plain (LoadRefused r k (s.need 0) h)) (plain (LoadRefused r j (s.need 0) i)) c.2 d.2 cc
one-load parts bytes_of s old new other r tick None (Granted n m f g) (load.Loaded k blank) (load.Loaded j storage) tell v w c d =
    let p : k ≡ j = c.0 ∙ sym d.0 in
    let q : c.2.0 ≡ d.2.0 = same-regrown parts old n f c.2.0 d.2.0 tell c.2.1 d.2.1 in
    moves s tick old new other (plain (Load r k n m f g c.2.0)) (plain (Load r j n m f g d.2.0)) c.2.2 d.2.2
    (ap (λ (i : ℕ). Load r i n m f g c.2.0) p ∙ ap (λ (x : Bool). Load r j n m f g x) q)
one-load parts bytes_of s old new other r tick None (Granted n m f g) load.OutOfMemory b tell v w c d = absurd (true≢false v)
one-load parts bytes_of s old new other r tick None (Granted n m f g) (load.Loaded k blank) load.OutOfMemory tell v w c d = absurd (true≢false w)
one-load parts bytes_of s old new other r tick None (Granted n m f g) (load.Loaded k blank) _ tell v w c d = absurd d
one-load parts bytes_of s old new other r tick None pool.Refused (load.Refused k h) _ tell v w c d = absurd d
one-load parts bytes_of s old new other r tick None g _ b tell v w c d = absurd c

one-take : {F B O : Type 0} (name_of : F → FrameName) (parts : F → Option Parts) (bytes_of : B
    → ℕ) (s : Setting) (old new other : BoardState) (r v : ℕ) (o : Option (take_answer F B O)) (g : Option Answer) (a b : take_answer F B O)
    → TellParts parts → take_wants a ≡ false → take_wants b ≡ false → TakeAnswers name_of parts bytes_of s old r v o g a new
    → TakeAnswers name_of parts bytes_of s old r v o g b other → past new ≡ past other
one-take name_of parts bytes_of s old new other r v (Some x) g a b tell z w c d = stays old new other c.1 d.1
one-take name_of parts bytes_of s old new other r v None (Some pool.Refused) (take.PoolDrop k h) (take.PoolDrop j i) tell z w c d =
    let p : c.1.0 ≡ d.1.0 = same-next c.1.0 d.1.0 _ c.1.1 d.1.1 in
    let q : h ≡ i = c.0 ∙ sym d.0 in
    moves s 0 old new other (plain (PoolDrop r v c.1.0.maker c.1.0.index (s.need v) h)) (plain (PoolDrop r v d.1.0.maker d.1.0.index (s.need v) i)) c.1.3 d.1.3
    (ap (λ (n : FrameName). PoolDrop r v n.maker n.index (s.need v) h) p ∙ ap (λ (y : ℕ). PoolDrop r v d.1.0.maker d.1.0.index (s.need v) y) q)
one-take name_of parts bytes_of s old new other r v None (Some (Granted n m f g)) (take.Job x input (Some blank))
    (take.Job y part (Some storage)) tell z w c d =
    let p : name_of input ≡ name_of part = same-next (name_of input) (name_of part) _ c.1.0 d.1.0 in
    let q : c.3.0 ≡ d.3.0 = same-regrown parts old n f c.3.0 d.3.0 tell c.3.1 d.3.1 in
    moves s 0 old new other (lends (take_block r v (name_of input) n m f g c.3.0) (parts input))
    (lends (take_block r v (name_of part) n m f g d.3.0) (parts part)) c.3.2 d.3.2
    (ap (λ (i : FrameName). take_block r v i n m f g c.3.0) p ∙ ap (λ (x : Bool). take_block r v (name_of part) n m f g x) q)
one-take name_of parts bytes_of s old new other r v None None (take.Job x input None) (take.Job y part None) tell z w c d =
    let p : name_of input ≡ name_of part = same-next (name_of input) (name_of part) _ c.1.0 d.1.0 in
    moves s 0 old new other (lends (Take r v (name_of input).maker (name_of input).index) (parts input))
    (lends (Take r v (name_of part).maker (name_of part).index) (parts part)) c.2 d.2
    (ap (λ (i : FrameName). Take r v i.maker i.index) p)
one-take name_of parts bytes_of s old new other r v None g take.OutOfMemory b tell z w c d = absurd (true≢false z)
one-take name_of parts bytes_of s old new other r v None g (take.Job x input (Some blank)) take.OutOfMemory tell z w c d = absurd (true≢false w)
one-take name_of parts bytes_of s old new other r v None g (take.Job x input None) take.OutOfMemory tell z w c d = absurd (true≢false w)
one-take name_of parts bytes_of s old new other r v None (Some pool.Refused) (take.PoolDrop k h) _ tell z w c d = absurd d
one-take name_of parts bytes_of s old new other r v None (Some (Granted n m f g)) (take.Job x input (Some blank)) _ tell z w c d = absurd d
one-take name_of parts bytes_of s old new other r v None None (take.Job x input None) _ tell z w c d = absurd d
one-take name_of parts bytes_of s old new other r v None g _ b tell z w c d = absurd c

one-save : {F : Type 0} (name_of : F → FrameName) (parts : F
    → Option Parts) (s : Setting) (old new other : BoardState) (r v : ℕ) (o : Option (save_answer F)) (a b : save_answer F) → save_wants a ≡ false
    → save_wants b ≡ false → SaveAnswers name_of parts s old r v o a new → SaveAnswers name_of parts s old r v o b other → past new ≡ past other
one-save name_of parts s old new other r v (Some x) a b z w c d = stays old new other c.1 d.1
one-save name_of parts s old new other r v None (save.Piece input g k of) (save.Piece part h l count) z w c d =
    let p : name_of input ≡ name_of part = same-next (name_of input) (name_of part) _ c.0 d.0 in
    let q : g ≡ h = c.2 ∙ sym d.2 in
    moves s 0 old new other (lends (Save r v (name_of input).maker (name_of input).index g) (parts input))
    (lends (Save r v (name_of part).maker (name_of part).index h) (parts part)) c.5 d.5
    (ap (λ (i : FrameName). Save r v i.maker i.index g) p ∙ ap (λ (j : ℕ). Save r v (name_of part).maker (name_of part).index j) q)
one-save name_of parts s old new other r v None save.OutOfMemory b z w c d = absurd (true≢false z)
one-save name_of parts s old new other r v None (save.Piece input g k of) save.OutOfMemory z w c d = absurd (true≢false w)
one-save name_of parts s old new other r v None (save.Piece input g k of) _ z w c d = absurd d
one-save name_of parts s old new other r v None _ b z w c d = absurd c

one-issue : {F E : Type 0} (name_of : F → FrameName) (s : Setting) (old new other : BoardState) (r : ℕ) (f : F) (a b : Result E (NotYours F))
    → IssueGives name_of s old r f a new → IssueGives name_of s old r f b other → past new ≡ past other
one-issue name_of s old new other r f (Ok x) (Ok y) c d = ap past (c.1 ∙ sym d.1)
one-issue name_of s old new other r f (Ok x) (Err e) c d = not-both _ c.0 d.0
one-issue name_of s old new other r f (Err e) (Ok x) c d = not-both _ d.0 c.0
one-issue name_of s old new other r f (Err e) (Err i) c d = stays old new other c.2 d.2

one-put : {F E : Type 0} (name_of : F → FrameName) (s : Setting) (old new other : BoardState) (r : ℕ) (done : Done F) (a b : Result E (NotYours F))
    → PutGives name_of s old r done a new → PutGives name_of s old r done b other → past new ≡ past other
one-put name_of s old new other r done (Ok x) (Ok y) c d = ap past (c.1 ∙ sym d.1)
one-put name_of s old new other r done (Ok x) (Err e) c d = not-both _ c.0 d.0
one-put name_of s old new other r done (Err e) (Ok x) c d = not-both _ d.0 c.0
one-put name_of s old new other r done (Err e) (Err i) c d = stays old new other c.2 d.2

one-saved : {F E : Type 0} (name_of : F → FrameName) (s : Setting) (old new other : BoardState) (r : ℕ) (f : F) (a b : Result E (NotYours F))
    → SavedGives name_of s old r f a new → SavedGives name_of s old r f b other → past new ≡ past other
one-saved name_of s old new other r f (Ok x) (Ok y) c d = ap past (c.1 ∙ sym d.1)
one-saved name_of s old new other r f (Ok x) (Err e) c d = not-both _ c.0 d.0
one-saved name_of s old new other r f (Err e) (Ok x) c d = not-both _ d.0 c.0
one-saved name_of s old new other r f (Err e) (Err i) c d = stays old new other c.2 d.2

one-settle : (s : Setting) (old new other : BoardState) (r v : ℕ) (a b : Settled) → SettleGives s old r v a new → SettleGives s old r v b other
    → past new ≡ past other
one-settle s old new other r v settled.NotYet settled.NotYet c d = stays old new other c.1 d.1
one-settle s old new other r v settled.NotYet settled.Done c d = not-both _ c.0 d.0
one-settle s old new other r v settled.Done settled.NotYet c d = not-both _ d.0 c.0
one-settle s old new other r v settled.Done settled.Done c d = ap past (c.1 ∙ sym d.1)

one-close : (s : Setting) (old new other : BoardState) (r : ℕ) (a b : Settled) → CloseGives s old r a new → CloseGives s old r b other → past new ≡ past other
one-close s old new other r settled.NotYet settled.NotYet c d = stays old new other c.1 d.1
one-close s old new other r settled.NotYet settled.Done c d = not-both _ c.0 d.0
one-close s old new other r settled.Done settled.NotYet c d = not-both _ d.0 c.0
one-close s old new other r settled.Done settled.Done c d = ap past (c.1 ∙ sym d.1)

one-reclaim : {F B O E : Type 0} (name_of : F
    → FrameName) (s : Setting) (old new other : BoardState) (r : ℕ) (left : Left F B O) (a b : Result E (NoReclaim F B O))
    → ReclaimGives name_of s old r left a new → ReclaimGives name_of s old r left b other → past new ≡ past other
one-reclaim name_of s old new other r left (Ok x) (Ok y) c d = ap past (c.1 ∙ sym d.1)
one-reclaim name_of s old new other r left (Ok x) (Err e) c d = let h = sym c.0 ∙ d.0 in cc
one-reclaim name_of s old new other r left (Err e) (Ok x) c d = let h = sym c.0 ∙ d.0 in cc
one-reclaim name_of s old new other r left (Err e) (Err i) c d = stays old new other c.2 d.2

pub logs-are-told : {F B O : Type 0} → LogsAreTold F B O
logs-are-told {F} {B} {O} fs s old tell =
    record {
      load = λ r tick a b new other v w c d. one-load fs.parts fs.bytes_of s old new other r tick _ _ a b tell v w c d;
      issue = λ r f a b new other v w c d. one-issue fs.name_of s old new other r f a b c d;
      take = λ r v a b new other z w c d. one-take {F = F} {B = B} {O = O} fs.name_of fs.parts fs.bytes_of s old new other r v _ _ a b tell z w c d;
      put = λ r done a b new other v w c d. one-put fs.name_of s old new other r done a b c d;
      settle = λ r v a b new other z w c d. one-settle s old new other r v a b c d;
      save = λ r v a b new other z w c d. one-save fs.name_of fs.parts s old new other r v _ a b z w c d;
      saved = λ r f a b new other v w c d. one-saved fs.name_of s old new other r f a b c d;
      close = λ r a b new other v w c d. one-close s old new other r a b c d;
      leave = λ r a b new other v w c d. ap past (c ∙ sym d);
      reclaim = λ r left a b new other v w c d. one-reclaim fs.name_of s old new other r left a b c d;
      progress = λ a b new other v w c d. stays old new other c.1 d.1;
      finished = λ a b new other v w c d. stays old new other c.1 d.1;
    }
