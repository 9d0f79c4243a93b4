-- What a save and what follows it leave of a drained log.
use Rattle.std.proofs.Common.{◌≡◌, ◌≢◌, ℕ, ◌+◌, ◌*◌, ◌/◌, ◌<◌, ◌≤◌, Bool, true, false, not, ◌&&◌, ◌||◌, leb, List, [], ◌∷◌, ◌++◌, length, map, refl, sym}
use Rattle.std.proofs.Common.{ap, ◌∙◌, subst, arith, inl, inr, Option, Some, None}
use Rattle.std.specs.Prelude.{find, is_none, if◌then◌else◌}
use Rattle.std.specs.List.{list_all, list_any}
use Rattle.std.proofs.lemmas.Bool.{and_parts, and_from, or_parts, cases_Bool, false≢true, true≢false, eq-eqb, ne_eqb, lt-ltb, le-leb}
use Rattle.std.proofs.lemmas.List.{append_assoc}
use Rattle.nd_base.specs.Parts.{Parts}
use Rattle.nd_base.specs.declared.frame.FrameName.{FrameName}
use Rattle.frame_store.specs.Sealed.{Sealed}
use Rattle.flow_journal.specs.declared.entry.Entry.{Entry}
use Rattle.flow_journal.specs.declared.entry.Entry.TheVariants as entry
use Rattle.flow_journal.specs.Setting.{Setting, Work, Makes, Passes, Watches, Saves, node, is_node, last_role}
use Rattle.flow_journal.specs.Pasts.{Past, frame, minus}
use Rattle.flow_journal.specs.Hands.{hands, let_go, is_free, is_piece, standing, takes_up}
use Rattle.flow_journal.specs.Ended.{is_settled}
use Rattle.flow_journal.specs.Offered.{next_index}
use Rattle.flow_journal.specs.Queued.{queued}
use Rattle.flow_journal.specs.Waiting.{Waiting, waiting}
use Rattle.flow_journal.specs.Rings.{ring}
use Rattle.flow_journal.specs.Puts.{puts}
use Rattle.flow_journal.specs.Accounts.{arrays_at}
use Rattle.flow_journal.specs.EntryTests.{says_regrown}
use Rattle.flow_journal.specs.Finished.{none_left, is_done, is_finished}
use Rattle.flow_journal.specs.Histories.{is_history}
use Rattle.flow_journal.specs.Unsaved.{unsaved, saves, standing_saves, is_file, is_due}
use Rattle.flow_journal.proofs.Found.{none_left-nil}
use Rattle.board_rules.specs.declared.answers.Save.TheVariants.{Busy, NotYet}
use Rattle.board_rules.specs.declared.told.Told.{Told}
use Rattle.board_rules.specs.States.{BoardState, past}
use Rattle.board_rules.specs.Storage.{is_never_regrown, is_some_lost, has_lost, HasAllStorage}
use Rattle.board_rules.specs.Saving.{has_due, SaveAnswers, SaveGives}
use Rattle.flow_roles.specs.Feeder.{name_of, parts_of}
use Rattle.flow_drain.specs.Drains.{IsDrained}
use Rattle.flow_drain.proofs.Quiet.{drained-by, numbers-all}
use Rattle.flow_saver.specs.Remaining.{RestMoves, is_rest}
use Rattle.flow_saver.proofs.Handing.{all-append}

-- THE TWO ENTRIES

abbrev pub taken_and_back : (r v m k g : ℕ) → Past → Past
taken_and_back r v m k g P = entry.Saved r v m k ∷ entry.Save r v m k g ∷ P

hands-after : (r v m k g : ℕ) (P : Past) → hands P ≡ [] → hands (taken_and_back r v m k g P) ≡ []
hands-after r v m k g P none_ =
    ap (λ (hs : Past). let_go r (entry.Save r v m k g ∷ let_go r hs)) none_ ∙ ap (λ (b : Bool). if b then [] else entry.Save r v m k g ∷ []) (eq-eqb r r refl)

-- the log is drained still
pub drained-after : (s : Setting) (r v m k g : ℕ) (P : Past) → is_history s (taken_and_back r v m k g P) ≡ true → IsDrained s P
    → IsDrained s (taken_and_back r v m k g P)
drained-after s r v m k g P legal d =
    drained-by s (taken_and_back r v m k g P) legal (hands-after r v m k g P d.free) d.closed d.offered (λ w here. d.settled w here)

-- and nothing changed at other nodes
pub others-after : (s : Setting) (r v m k g w : ℕ) (P : Past) → w ≢ v → unsaved s w (taken_and_back r v m k g P) ≡ unsaved s w P
others-after s r v m k g w P apart =
    ap (λ (b : Bool). if is_file (node s w).work then minus (puts w P) (if b then saves w (standing P) ++ frame m k ∷ [] else saves w (standing P))
    else []) (ne_eqb v w (λ e. apart (sym e)))

-- NOTHING IS DUE

settled-due : (a b c : Bool) → b ≡ true → (not a || b || c) ≡ true
settled-due true true c h = refl
settled-due false true c h = refl
settled-due a false c h = absurd (false≢true h)

due-when : (w : Work) (v : ℕ) (P : Past) → is_file w ≡ true → is_settled v P ≡ true → is_due w v P ≡ true
due-when (Saves whole count) v P file settled =
    settled-due whole (is_settled v P) (leb ((length (standing_saves v P) / count + 1) * count) (length (puts v P))) settled
due-when Makes v P file settled = absurd (false≢true file)
due-when (Passes deals) v P file settled = absurd (false≢true file)
due-when (Watches pre post preset) v P file settled = absurd (false≢true file)

early-none : (none due piece : Bool) → due ≡ true → piece ≡ false → (not (not none && due) || piece) ≡ true → none ≡ true
early-none true due piece is off h = refl
early-none false true false is off h = absurd (false≢true h)
early-none false false piece is off h = absurd (false≢true is)
early-none false true true is off h = absurd (true≢false off)

module _ (s : Setting) (b new : BoardState) (v : ℕ) (drained : IsDrained s (past b)) (number : is_node s v ≡ true) where
  empty-by : (busy early : Bool) → busy ≡ false → (early ≡ true → unsaved s v (past b) ≡ [])
      → SaveAnswers {F = Sealed} name_of parts_of s b (last_role s) v (if busy then Some Busy else if early then Some NotYet else None) NotYet new
      → unsaved s v (past b) ≡ []
  empty-by true early free then_ c = absurd (true≢false free)
  empty-by false true free then_ c = then_ refl
  empty-by false false free then_ c = absurd c

  no-pieces : list_any (is_piece v) (hands (past b)) ≡ false
  no-pieces = ap (λ (hs : Past). list_any (is_piece v) hs) drained.free

  free-now : not (is_free (last_role s) (past b)) ≡ false
  free-now = ap (λ (hs : Past). not (is_none (find (takes_up (last_role s)) hs))) drained.free

  none-unsaved : is_file (node s v).work ≡ false → unsaved s v (past b) ≡ []
  none-unsaved h = ap (λ (f : Bool). if f then minus (puts v (past b)) (standing_saves v (past b)) else []) h

  -- where a drained log has nothing due at a node, nothing is left there
  pub nothing-left : SaveGives {F = Sealed} name_of parts_of s b (last_role s) v NotYet new → unsaved s v (past b) ≡ []
  nothing-left c =
      elim (cases_Bool (is_file (node s v).work)) [
        | inr other ↦ none-unsaved other
        | inl file ↦
            empty-by (not (is_free (last_role s) (past b))) (not (has_due s v (past b)) || list_any (is_piece v) (hands (past b))) free-now
            (λ early. none_left-nil (unsaved s v (past b))
            (early-none (none_left (unsaved s v (past b))) (is_due (node s v).work v (past b)) (list_any (is_piece v) (hands (past b)))
            (due-when (node s v).work v (past b) file (drained.settled v number)) no-pieces early)) c
      ]

-- MOVES

lost-both : (more b : BoardState) → has_lost more ≡ false → has_lost b ≡ false → has_lost (more ++ b) ≡ false
lost-both [] b h i = i
lost-both (t ∷ more) b h i =
    let two = or_parts (is_some_lost t.lost) (has_lost more) h in
    ap (λ (x : Bool). x || has_lost (more ++ b)) two.0 ∙ lost-both more b two.1 i

pub rest-none : (s : Setting) (old new : BoardState) → new ≡ old → RestMoves s old new
rest-none s old new is = ([], is, refl, refl)

pub rest-on : (s : Setting) (a b c : BoardState) → RestMoves s a b → RestMoves s b c → RestMoves s a c
rest-on s a b c m n = (
  n.0 ++ m.0,
  n.1 ∙ ap (λ (x : BoardState). n.0 ++ x) m.1 ∙ sym (append_assoc n.0 m.0 a),
  all-append (is_rest s) n.0 m.0 n.2 m.2,
  lost-both n.0 m.0 n.3 m.3,
)

pub rest-one : (s : Setting) (t : Told) (old new : BoardState) → is_rest s t.entry ≡ true → t.lost ≡ [] → new ≡ t ∷ old → RestMoves s old new
rest-one s t old new is none_ made = (t ∷ [], made, and_from _ _ is refl, ap (λ (bs : List ℕ). is_some_lost bs || false) none_)

rest-says : (s : Setting) (e : Entry) → is_rest s e ≡ true → says_regrown e ≡ false
rest-says s (entry.Save r v m k g) h = refl
rest-says s (entry.Saved r v m k) h = refl
rest-says s _ h = absurd (false≢true h)

rest-never : (s : Setting) (added old : BoardState) → list_all (is_rest s) (past added) ≡ true → is_never_regrown (past old) ≡ true
    → is_never_regrown (past (added ++ old)) ≡ true
rest-never s [] old h never = never
rest-never s (t ∷ added) old h never =
    let two = and_parts (is_rest s t.entry) (list_all (is_rest s) (past added)) h in
    ap (λ (x : Bool). not (x || list_any says_regrown (past (added ++ old)))) (rest-says s t.entry two.0) ∙ rest-never s added old two.1 never

-- they leave all storage
pub rest-keeps : {F : Type 0} (parts : F → Option Parts) (s : Setting) (old new : BoardState) → RestMoves s old new → HasAllStorage parts old
    → HasAllStorage parts new
rest-keeps parts s old new m h = (
  ap has_lost m.1 ∙ lost-both m.0 old m.3 h.0,
  λ tell. subst (λ (b : BoardState). is_never_regrown (past b) ≡ true) (sym m.1) (rest-never s m.0 old m.2 (h.1 tell)),
)

-- FINISHED

none-both : {X : Type 0} (xs ys : List X) → xs ≡ [] → ys ≡ [] → xs ++ ys ≡ []
none-both xs ys hx hy = ap (λ zs. zs ++ ys) hx ∙ hy

pub finished-by : (s : Setting) (P : Past) → IsDrained s P → ((v : ℕ) → is_node s v ≡ true → unsaved s v P ≡ []) → is_finished s P ≡ true
finished-by s P d none_ =
    let done : (v : ℕ) → 1 ≤ v → v < 1 + length s.nodes → is_done s P v ≡ true = λ v low high.
    let here : is_node s v ≡ true = and_from _ _ (lt-ltb 0 v (omega (arith, low))) (le-leb v (length s.nodes) (omega (arith, high))) in
    let empty : arrays_at s P v ≡ [] =
    none-both (queued v P ++ map (λ (w : Waiting). w.array) (waiting s v P) ++ ring s v P) (unsaved s v P)
    (none-both (queued v P ++ map (λ (w : Waiting). w.array) (waiting s v P)) (ring s v P)
    (none-both (queued v P) (map (λ (w : Waiting). w.array) (waiting s v P)) (d.queues v here)
    (ap (λ (ws : List Waiting). map (λ (w : Waiting). w.array) ws) (d.lists v here))) (d.rings v here)) (none_ v here) in
    and_from _ _ (d.settled v here) (ap (λ (xs : List FrameName). none_left xs) empty) in
    and_from _ _ (and_from _ _ (and_from _ _ d.closed (eq-eqb (next_index P) (length s.ids) d.offered)) (ap (λ (hs : Past). none_left hs) d.free))
    (numbers-all (is_done s P) 1 s.nodes done)
