-- What a call adds is nothing, or one move of its caller.
use Rattle.std.proofs.Common.{◌≡◌, ℕ, Bool, true, false, [], ◌∷◌, ◌++◌, refl, sym, ◌∙◌, Option, Some, None, Ok, Err, if◌then◌else◌}
use Rattle.nd_base.specs.Parts.{Parts}
use Rattle.nd_base.specs.declared.frame.FrameName.{FrameName}
use Rattle.pool_ledger.specs.Grants.{Answer, Granted}
use Rattle.pool_ledger.specs.Grants as pool
use Rattle.flow_journal.specs.declared.entry.Entry.TheVariants.{Load, LoadRefused, Issue, Take, PoolDrop, Put, Settle, Save, Saved, Close, Leave}
use Rattle.flow_journal.specs.Setting.{Setting}
use Rattle.flow_journal.specs.Hands.{hand}
use Rattle.flow_journal.specs.Ended.{is_closed, is_settled, has_left}
use Rattle.board_rules.specs.declared.answers.Load.{Load as load_answer}
use Rattle.board_rules.specs.declared.answers.Load.TheVariants as load
use Rattle.board_rules.specs.declared.answers.Take.{Take as take_answer}
use Rattle.board_rules.specs.declared.answers.Take.TheVariants as take
use Rattle.board_rules.specs.declared.answers.Save.{Save as save_answer}
use Rattle.board_rules.specs.declared.answers.Save.TheVariants as save
use Rattle.board_rules.specs.declared.answers.Settled.TheVariants as settled
use Rattle.board_rules.specs.declared.told.Told.{Told}
use Rattle.board_rules.specs.States.{BoardState, past, plain, lends, loses, take_block}
use Rattle.flow_journal.specs.MoveLists.{begun_by}
use Rattle.flow_journal.specs.ResultNames.{result_name}
use Rattle.board_rules.specs.Moving.{moved_at}
use Rattle.board_rules.specs.InHand.{hand_node}
use Rattle.board_rules.specs.Storage.{lost_of}
use Rattle.board_rules.specs.Feeding.{LoadAnswers}
use Rattle.board_rules.specs.Working.{TakeAnswers}
use Rattle.board_rules.specs.Saving.{SaveAnswers}
use Rattle.std.specs.List.{list_all}
use Rattle.board_rules.specs.Runs.{Frames, Call, Loads, Issues, Takes, Puts, Settles, Saves as SavesOne, Saveds, Closes, Leaves, Reclaims, Asks, Finishes}
use Rattle.board_rules.specs.Runs.{Gives, caller, saver}
use Rattle.board_rules.specs.RunLaws.{IsAddedBy, saves_as, CallsAddMoves}
use Rattle.std.proofs.lemmas.Bool.{eq-eqb}
use Rattle.std.proofs.lemmas.List.{append_assoc}
use Rattle.board_rules.proofs.Moves.{followers, one-move, saves-one}

-- nothing, or one move of the role, was added
Adds : Option ℕ → Option ℕ → BoardState → BoardState → Type 0
Adds o q old new = (added : BoardState) × (new ≡ added ++ old) × IsAddedBy o added × (list_all (saves_as q) (past added) ≡ true)

adds-none : (old new : BoardState) → new ≡ old → Adds None None old new
unfolding Adds
adds-none old new e = ([], e, refl, refl)

adds-nothing : (r : ℕ) (q : Option ℕ) (old new : BoardState) → new ≡ old → Adds (Some r) q old new
unfolding Adds
adds-nothing r q old new e = ([], e, tt, refl)

adds-move : (s : Setting) (r : ℕ) (q : Option ℕ) (old new : BoardState) (tick : ℕ) (t : Told) → begun_by t.entry ≡ Some r → saves_as q t.entry ≡ true
    → new ≡ moved_at s tick t old → Adds (Some r) q old new
unfolding Adds
adds-move s r q old new tick t h i e =
    let f = followers s tick t old in
    (f.more ++ t ∷ [], e ∙ (f.whole ∙ sym (append_assoc f.more (t ∷ []) old)), one-move r f.more t f.go h, saves-one q f.more t f.go i)

adds-if : (s : Setting) (r : ℕ) (old new : BoardState) (b : Bool) (t : Told) → begun_by t.entry ≡ Some r → saves_as None t.entry ≡ true
    → new ≡ (if b then old else moved_at s 0 t old) → Adds (Some r) None old new
adds-if s r old new true t h i e = adds-nothing r None old new e
adds-if s r old new false t h i e = adds-move s r None old new 0 t h i e

adds-load : {F B : Type 0} (parts : F → Option Parts) (bytes_of : B
    → ℕ) (s : Setting) (old new : BoardState) (r tick : ℕ) (o : Option (load_answer B)) (g : Answer) (a : load_answer B)
    → LoadAnswers parts bytes_of s old r tick o g a new → Adds (Some r) None old new
adds-load parts bytes_of s old new r tick (Some x) g a c = adds-nothing r None old new c.1
adds-load parts bytes_of s old new r tick None pool.Refused (load.Refused k z) c =
    adds-move s r None old new tick (plain (LoadRefused r k (s.need 0) z)) refl refl c.2
adds-load parts bytes_of s old new r tick None (Granted b n f g) (load.Loaded k blank) c =
    adds-move s r None old new tick (plain (Load r k b n f g c.2.0)) refl refl c.2.2
adds-load parts bytes_of s old new r tick None (Granted b n f g) load.OutOfMemory c = adds-nothing r None old new c.1
adds-load parts bytes_of s old new r tick None g _ c = absurd c

adds-take : {F B O : Type 0} (name_of : F → FrameName) (parts : F → Option Parts) (bytes_of : B
    → ℕ) (s : Setting) (old new : BoardState) (r v : ℕ) (o : Option (take_answer F B O)) (g : Option Answer) (a : take_answer F B O)
    → TakeAnswers name_of parts bytes_of s old r v o g a new → Adds (Some r) None old new
adds-take name_of parts bytes_of s old new r v (Some x) g a c = adds-nothing r None old new c.1
adds-take name_of parts bytes_of s old new r v None (Some pool.Refused) (take.PoolDrop k z) c =
    adds-move s r None old new 0 (plain (PoolDrop r v c.1.0.maker c.1.0.index (s.need v) z)) refl refl c.1.3
adds-take name_of parts bytes_of s old new r v None (Some (Granted b n f g)) (take.Job w input (Some blank)) c =
    adds-move s r None old new 0 (lends (take_block r v (name_of input) b n f g c.3.0) (parts input)) refl refl c.3.2
adds-take name_of parts bytes_of s old new r v None (Some (Granted b n f g)) take.OutOfMemory c = adds-nothing r None old new c.1
adds-take name_of parts bytes_of s old new r v None None (take.Job w input None) c =
    adds-move s r None old new 0 (lends (Take r v (name_of input).maker (name_of input).index) (parts input)) refl refl c.2
adds-take name_of parts bytes_of s old new r v None None take.OutOfMemory c = adds-nothing r None old new c.1
adds-take name_of parts bytes_of s old new r v None g _ c = absurd c

adds-save : {F : Type 0} (name_of : F → FrameName) (parts : F
    → Option Parts) (s : Setting) (old new : BoardState) (r v : ℕ) (o : Option (save_answer F)) (a : save_answer F)
    → SaveAnswers name_of parts s old r v o a new → Adds (Some r) (Some r) old new
adds-save name_of parts s old new r v (Some x) a c = adds-nothing r (Some r) old new c.1
adds-save name_of parts s old new r v None (save.Piece input group place of) c =
    adds-move s r (Some r) old new 0 (lends (Save r v (name_of input).maker (name_of input).index group) (parts input)) refl (eq-eqb r r refl) c.5
adds-save name_of parts s old new r v None save.OutOfMemory c = adds-nothing r (Some r) old new c.1
adds-save name_of parts s old new r v None _ c = absurd c

adds-call : {F B O : Type 0} (fs : Frames F B) (s : Setting) (old new : BoardState) (call : Call F B O) → Gives fs s old call new
    → Adds (caller call) (saver call) old new
adds-call fs s old new (Loads r tick answer) c = adds-load fs.parts fs.bytes_of s old new r tick _ _ answer c
adds-call fs s old new (Issues r frame_ (Ok _)) c = adds-move s r None old new 0 (plain (Issue r (fs.name_of frame_).index)) refl refl c.1
adds-call fs s old new (Issues r frame_ (Err e)) c = adds-nothing r None old new c.2
adds-call {F} {B} {O} fs s old new (Takes r v answer) c = adds-take {F = F} {B = B} {O = O} fs.name_of fs.parts fs.bytes_of s old new r v _ _ answer c
adds-call fs s old new (Puts r done (Ok _)) c =
    adds-move s r None old new 0
    (plain (Put r done.node (result_name s done.node (fs.name_of done.input)).maker (fs.name_of done.input).index done.fired)) refl refl c.1
adds-call fs s old new (Puts r done (Err e)) c = adds-nothing r None old new c.2
adds-call fs s old new (Settles r v settled.NotYet) c = adds-nothing r None old new c.1
adds-call fs s old new (Settles r v settled.Done) c = adds-if s r old new (is_settled v (past old)) (plain (Settle r v)) refl refl c.1
adds-call fs s old new (SavesOne r v answer) c = adds-save fs.name_of fs.parts s old new r v _ answer c
adds-call fs s old new (Saveds r frame_ (Ok _)) c =
    adds-move s r None old new 0 (plain (Saved r (hand_node (hand r (past old))) (fs.name_of frame_).maker (fs.name_of frame_).index)) refl refl c.1
adds-call fs s old new (Saveds r frame_ (Err e)) c = adds-nothing r None old new c.2
adds-call fs s old new (Closes r settled.NotYet) c = adds-nothing r None old new c.1
adds-call fs s old new (Closes r settled.Done) c = adds-if s r old new (is_closed (past old)) (plain (Close r)) refl refl c.1
adds-call fs s old new (Leaves r) c = adds-if s r old new (has_left r (past old)) (plain (Leave r)) refl refl c
adds-call fs s old new (Reclaims r left (Ok _)) c =
    adds-move s r None old new 0 (loses r (lost_of fs.name_of (past old) (hand r (past old)) left)) refl refl c.1
adds-call fs s old new (Reclaims r left (Err e)) c = adds-nothing r None old new c.2
adds-call fs s old new (Asks answer) c = adds-none old new c.1
adds-call fs s old new (Finishes answer) c = adds-none old new c.1

pub calls-add : {F B O : Type 0} → CallsAddMoves F B O
unfolding Adds
calls-add fs s old new call c = adds-call fs s old new call c
