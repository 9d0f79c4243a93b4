-- What is taken back of a hand.
use Rattle.std.proofs.Common.{◌≡◌, ◌∙◌, ℕ, [], ◌∷◌, ◌++◌, true, false, Bool, ◌||◌, List, Option, Some, None, Ok, length, refl, sym, ap, subst, cond, inl}
use Rattle.std.proofs.Common.{inr, ◌⊎◌}
use Rattle.std.specs.Option.{option_to_list}
use Rattle.std.specs.Prelude.{IsTrue, is_some}
use Rattle.std.proofs.lemmas.Bool.{true≢false, false≢true}
use Rattle.std.proofs.lemmas.List.{append-nil}
use Rattle.nd_base.specs.declared.frame.FrameName.{FrameName}
use Rattle.nd_base.specs.Parts.{Parts}
use Rattle.flow_journal.specs.declared.entry.Entry.{Entry}
use Rattle.flow_journal.specs.declared.entry.Entry.TheVariants.{Load, Take, TakeBlock, Save}
use Rattle.flow_journal.specs.Setting.{Setting}
use Rattle.flow_journal.specs.Pasts.{Past, frame, same}
use Rattle.flow_journal.specs.Hands.{hand, is_free}
use Rattle.board_rules.specs.declared.answers.NoWhy.{NoWhy}
use Rattle.board_rules.specs.declared.answers.NoWhy.TheVariants.{NoHand}
use Rattle.flow_journal.specs.Accounts.{block_of}
use Rattle.flow_journal.specs.Histories.{is_history}
use Rattle.flow_journal.proofs.Steps.{same-true, same_refl}
use Rattle.board_rules.specs.declared.answers.Left.{Left}
use Rattle.board_rules.specs.States.{BoardState, past, loses, lent_to}
use Rattle.board_rules.specs.Moving.{moved}
use Rattle.board_rules.specs.InHand.{has_part_of, has_grant, granted_block, OfSome}
use Rattle.board_rules.specs.Storage.{lost_of, brings, part_lost}
use Rattle.board_rules.specs.Leaving.{reclaim_refusal, MayReclaim}
use Rattle.board_rules.proofs.Legal.{reclaim-by}
use Rattle.frame_table.specs.Kept.{Kept, kept_at, with_kept, united, MayGiveBack}
use Rattle.run_course.specs.Courses.{Coursed}
use Rattle.kept_blocks.specs.Keeping.{HoldsBlocks}
use Rattle.kept_blocks.specs.MoveLaws.{MoveLaws, MayTakeBack, taken_back, with_grant, with_input}
use Rattle.kept_blocks.proofs.Holding.{same-length}
use Rattle.flow_core.specs.Boards.{IsBoard, lost_block}
use Rattle.flow_core.proofs.Boarding.{board-moved, legal-of}

-- HANDS
abbrev pub IsLoad : ℕ → Option Entry → Type 0
IsLoad b o = (q k n : ℕ) × (f : Bool) × (g : ℕ) × (x : Bool) × (o ≡ Some (Load q k b n f g x))

none-here : (a : FrameName) → same a a ≡ false → ⊥
none-here a h = true≢false (sym (same_refl a) ∙ h)

pub hand-load : (b : ℕ) (o : Option Entry) → granted_block o ≡ b ∷ [] → ((a : FrameName) → has_part_of a o ≡ false) → IsLoad b o
hand-load b None h alone = absurd (cc)
hand-load b (Some (Load q k c n f g x)) h alone = let e : c ≡ b = cc in (q, k, n, f, g, x, ap (λ (i : ℕ). Some (Load q k i n f g x)) e)
hand-load b (Some (Take q v m k)) h alone = absurd (cc)
hand-load b (Some (TakeBlock f x q v m k c n g)) h alone = absurd (none-here (frame m k) (alone (frame m k)))
hand-load b (Some (Save q v m k g)) h alone = absurd (cc)
hand-load b (Some _) h alone = absurd (cc)

abbrev pub IsMaking : ℕ → FrameName → Option Entry → Type 0
IsMaking b a o = (q v n : ℕ) × (f : Bool) × (g : ℕ) × (x : Bool) × (o ≡ Some (TakeBlock f x q v a.maker a.index b n g))

pub hand-making : (b : ℕ) (a : FrameName) (o : Option Entry) → granted_block o ≡ b ∷ [] → has_part_of a o ≡ true → IsMaking b a o
hand-making b a None h part = absurd (cc)
hand-making b a (Some (Load q k c n f g x)) h part = absurd (false≢true part)
hand-making b a (Some (Take q v m k)) h part = absurd (cc)
hand-making b a (Some (TakeBlock f x q v m k c n g)) h part =
    let e : c ≡ b = cc in
    let t : ℕ → FrameName → Option Entry = λ i d. Some (TakeBlock f x q v d.maker d.index i n g) in
    (q, v, n, f, g, x, ap (λ (i : ℕ). t i (frame m k)) e ∙ ap (λ (d : FrameName). t b d) (sym (same-true a (frame m k) part)))
hand-making b a (Some (Save q v m k g)) h part = absurd (cc)
hand-making b a (Some _) h part = absurd (false≢true part)

abbrev pub IsSharing : FrameName → Option Entry → Type 0
IsSharing a o = ((q v : ℕ) × (o ≡ Some (Take q v a.maker a.index))) ⊎ ((q v g : ℕ) × (o ≡ Some (Save q v a.maker a.index g)))

pub hand-sharing : (a : FrameName) (o : Option Entry) → has_grant o ≡ false → has_part_of a o ≡ true → IsSharing a o
hand-sharing a None h part = absurd (false≢true part)
hand-sharing a (Some (Load q k c n f g x)) h part = absurd (false≢true part)
hand-sharing a (Some (Take q v m k)) h part = inl (q, v, ap (λ (d : FrameName). Some (Take q v d.maker d.index)) (sym (same-true a (frame m k) part)))
hand-sharing a (Some (TakeBlock f x q v m k c n g)) h part = absurd (true≢false h)
hand-sharing a (Some (Save q v m k g)) h part = inr (q, v, g, ap (λ (d : FrameName). Some (Save q v d.maker d.index g)) (sym (same-true a (frame m k) part)))
hand-sharing a (Some _) h part = absurd (false≢true part)

-- WHAT STAYED AWAY
grant-listed : (c : Bool) (b : ℕ) → option_to_list (lost_block c b) ≡ cond c [] (b ∷ [])
grant-listed true b = refl
grant-listed false b = refl

-- PLACES
pub input-length : {F : Type 0} (name_of : F → FrameName) (parts : F → Option Parts) (a : FrameName) (c : ℕ) (o : Option F) (t : List Kept)
    → length (with_input name_of parts a c o t) ≡ length t
input-length name_of parts a c None t = refl
input-length name_of parts a c (Some f) t = by (same (name_of f) a) where
  by : (b : Bool) → length (cond b (with_kept t c (united (kept_at t c) (parts f))) t) ≡ length t
  by true = same-length t c (united (kept_at t c) (parts f))
  by false = refl

-- what comes back of the hand's array may be given back
pub may-input : {F B O : Type 0} (name_of : F → FrameName) (parts : F → Option Parts) (bytes_of : B → ℕ) (s : Setting) (told : BoardState) (t : List Kept)
    (r c : ℕ) (a : FrameName) (left : Left F B O) → has_part_of a (hand r (past told)) ≡ true → reclaim_refusal s r (past told) ≡ None
    → MayReclaim name_of parts bytes_of s told r left → MayGiveBack (kept_at t c) (lent_to r told)
    → OfSome (λ (f : F). same (name_of f) a ≡ true → MayGiveBack (kept_at t c) (parts f)) left.input
may-input {F} name_of parts bytes_of s told t r c a left part allowed brings_ may = by left.input (brings_ allowed).0 where
  by : (o : Option F) → OfSome (λ (f : F). IsTrue (has_part_of (name_of f) (hand r (past told))) → parts f ≡ lent_to r told) o
      → OfSome (λ (f : F). same (name_of f) a ≡ true → MayGiveBack (kept_at t c) (parts f)) o
  by None own = tt
  by (Some f) own = λ same_.
      let is : name_of f ≡ a = same-true (name_of f) a same_ in
      let mine : parts f ≡ lent_to r told = own (subst (λ (x : FrameName). has_part_of x (hand r (past told)) ≡ true) (sym is) part) in
      subst (λ (q : Option Parts). MayGiveBack (kept_at t c) q) (sym mine) may

-- BOARDS
pub record TakesBack {F B O : Type 0} (name_of : F → FrameName) (parts : F → Option Parts) (bytes_of : B → ℕ) (s : Setting) (w : Coursed) (t : List Kept)
    (r : ℕ) (left : Left F B O) : Type 0 where
  pub board : IsBoard parts s w t
  pub allowed : reclaim_refusal s r (past w.told) ≡ None
  pub brings : MayReclaim name_of parts bytes_of s w.told r left

back-history : {F B O : Type 0} (name_of : F → FrameName) (parts : F → Option Parts) (bytes_of : B → ℕ) (s : Setting) (w : Coursed) (t : List Kept)
    (r : ℕ) (left : Left F B O) → TakesBack {F = F} {B = B} {O = O} name_of parts bytes_of s w t r left
    → is_history s (past (taken_back name_of s r left w.told)) ≡ true
back-history {F} {B} {O} name_of parts bytes_of s w t r left i =
    reclaim-by {F = F} {B = B} {O = O} {E = Unit {0}} name_of s w.told (taken_back name_of s r left w.told) r left (Ok tt) i.board.run.history (i.allowed, refl)

may-back : {F B O : Type 0} (name_of : F → FrameName) (parts : F → Option Parts) (bytes_of : B → ℕ) (s : Setting) (w : Coursed) (t : List Kept)
    (r : ℕ) (left : Left F B O) → TakesBack {F = F} {B = B} {O = O} name_of parts bytes_of s w t r left
    → MayTakeBack {F = F} {B = B} {O = O} name_of parts bytes_of s w.told t r left
may-back {F} {B} {O} name_of parts bytes_of s w t r left i =
    record {
      run = i.board.run;
      holds = i.board.holds;
      allowed = i.allowed;
      brings = i.brings;
      legal = legal-of s (taken_back name_of s r left w.told) (back-history {F = F} {B = B} {O = O} name_of parts bytes_of s w t r left i);
    }

back-board : {F B O : Type 0} (name_of : F → FrameName) (parts : F → Option Parts) (bytes_of : B → ℕ) (s : Setting) (w w' : Coursed) (t t' : List Kept)
    (r : ℕ) (left : Left F B O) (lost : List ℕ) → TakesBack {F = F} {B = B} {O = O} name_of parts bytes_of s w t r left
    → w' ≡ record w { told = moved s (loses r lost) w.told }
    → lost ≡ lost_of name_of (past w.told) (hand r (past w.told)) left → HoldsBlocks parts s (taken_back name_of s r left w.told) t' → IsBoard parts s w' t'
back-board {F} {B} {O} name_of parts bytes_of s w w' t t' r left lost i is gone holds =
    board-moved parts s w w' (taken_back name_of s r left w.told) t t' i.board (is ∙ ap (λ (xs : List ℕ). record w { told = moved s (loses r xs) w.told }) gone)
    (back-history {F = F} {B = B} {O = O} name_of parts bytes_of s w t r left i) holds

-- A LOADED FRAME
pub load-lost : {F B O : Type 0} (name_of : F → FrameName) (told : BoardState) (r b : ℕ) (left : Left F B O) → granted_block (hand r (past told)) ≡ b ∷ []
    → ((a : FrameName) → has_part_of a (hand r (past told)) ≡ false)
    → option_to_list (lost_block (is_some left.made || is_some left.blank) b) ++ [] ≡ lost_of name_of (past told) (hand r (past told)) left
load-lost name_of told r b left grant alone =
    let l = hand-load b (hand r (past told)) grant alone in
    append-nil (option_to_list (lost_block (is_some left.made || is_some left.blank) b))
    ∙ (grant-listed (is_some left.made || is_some left.blank) b ∙ sym (ap (λ (o : Option Entry). lost_of name_of (past told) o left) l.6))

pub load-back : {F B O : Type 0} (name_of : F → FrameName) (parts : F → Option Parts) (bytes_of : B → ℕ) (is_used : B → Bool)
    (moves : MoveLaws O name_of parts bytes_of)
    (s : Setting) (w w' : Coursed) (t t' : List Kept) (r b : ℕ) (left : Left F B O) (lost : List ℕ)
    → TakesBack {F = F} {B = B} {O = O} name_of parts bytes_of s w t r left
    → granted_block (hand r (past w.told)) ≡ b ∷ [] → ((a : FrameName) → has_part_of a (hand r (past w.told)) ≡ false)
    → w' ≡ record w { told = moved s (loses r lost) w.told } → lost ≡ option_to_list (lost_block (is_some left.made || is_some left.blank) b) ++ []
    → t' ≡ with_grant name_of parts bytes_of is_used b left.made left.blank t → IsBoard parts s w' t'
load-back {F} {B} {O} name_of parts bytes_of is_used moves s w w' t t' r b left lost i grant alone is gone kept =
    let l = hand-load b (hand r (past w.told)) grant alone in
    back-board {F = F} {B = B} {O = O} name_of parts bytes_of s w w' t t' r left lost i is (gone ∙ load-lost name_of w.told r b left grant alone)
    (subst (λ (u : List Kept). HoldsBlocks parts s (taken_back name_of s r left w.told) u) (sym kept)
    (moves.reclaim_load is_used s w.told t r left l.0 l.1 b l.2 l.3 l.4 l.5 (may-back {F = F} {B = B} {O = O} name_of parts bytes_of s w t r left i) l.6))

-- A PART
pub part-lost : {F B O : Type 0} (name_of : F → FrameName) (told : BoardState) (r c : ℕ) (a : FrameName) (left : Left F B O)
    → has_grant (hand r (past told)) ≡ false → has_part_of a (hand r (past told)) ≡ true → block_of (past told) a ≡ c ∷ []
    → option_to_list (lost_block (brings name_of a left.input) c) ≡ lost_of name_of (past told) (hand r (past told)) left
part-lost name_of told r c a left ungranted part has =
    let here : option_to_list (lost_block (brings name_of a left.input) c) ≡ part_lost name_of (past told) a left.input =
    grant-listed (brings name_of a left.input) c ∙ ap (λ (xs : List ℕ). cond (brings name_of a left.input) [] xs) (sym has) in
    elim (hand-sharing a (hand r (past told)) ungranted part) [
      | inl l ↦ here ∙ sym (ap (λ (o : Option Entry). lost_of name_of (past told) o left) l.2)
      | inr l ↦ here ∙ sym (ap (λ (o : Option Entry). lost_of name_of (past told) o left) l.3)
    ]

pub part-back : {F B O : Type 0} (name_of : F → FrameName) (parts : F → Option Parts) (bytes_of : B → ℕ) (moves : MoveLaws O name_of parts bytes_of)
    (s : Setting) (w w' : Coursed) (t t' : List Kept) (r c : ℕ) (a : FrameName) (left : Left F B O) (lost : List ℕ)
    → TakesBack {F = F} {B = B} {O = O} name_of parts bytes_of s w t r left
    → has_grant (hand r (past w.told)) ≡ false → has_part_of a (hand r (past w.told)) ≡ true → block_of (past w.told) a ≡ c ∷ []
    → w' ≡ record w { told = moved s (loses r lost) w.told } → lost ≡ option_to_list (lost_block (brings name_of a left.input) c)
    → t' ≡ with_input name_of parts a c left.input t → IsBoard parts s w' t'
part-back {F} {B} {O} name_of parts bytes_of moves s w w' t t' r c a left lost i ungranted part has is gone kept =
    let may = may-back {F = F} {B = B} {O = O} name_of parts bytes_of s w t r left i in
    let holds : HoldsBlocks parts s (taken_back name_of s r left w.told) (with_input name_of parts a c left.input t) =
    elim (hand-sharing a (hand r (past w.told)) ungranted part) [
      | inl l ↦ moves.reclaim_take s w.told t r left l.0 l.1 a.maker a.index c may l.2 has
      | inr l ↦ moves.reclaim_piece s w.told t r left l.0 l.1 a.maker a.index l.2 c may l.3 has
    ] in
    back-board {F = F} {B = B} {O = O} name_of parts bytes_of s w w' t t' r left lost i is (gone ∙ part-lost name_of w.told r c a left ungranted part has)
    (subst (λ (u : List Kept). HoldsBlocks parts s (taken_back name_of s r left w.told) u) (sym kept) holds)

-- A JOB WITH A BLOCK
pub making-lost : {F B O : Type 0} (name_of : F → FrameName) (told : BoardState) (r b c : ℕ) (a : FrameName) (left : Left F B O)
    → granted_block (hand r (past told)) ≡ b ∷ [] → has_part_of a (hand r (past told)) ≡ true → block_of (past told) a ≡ c ∷ []
    → option_to_list (lost_block (is_some left.made || is_some left.blank) b) ++ option_to_list (lost_block (brings name_of a left.input) c)
    ≡ lost_of name_of (past told) (hand r (past told)) left
making-lost name_of told r b c a left grant part has =
    let l = hand-making b a (hand r (past told)) grant part in
    ap (λ (xs : List ℕ). xs ++ option_to_list (lost_block (brings name_of a left.input) c)) (grant-listed (is_some left.made || is_some left.blank) b)
    ∙ (ap (λ (xs : List ℕ). cond (is_some left.made || is_some left.blank) [] (b ∷ []) ++ xs) (grant-listed (brings name_of a left.input) c
    ∙ ap (λ (xs : List ℕ). cond (brings name_of a left.input) [] xs) (sym has))
    ∙ sym (ap (λ (o : Option Entry). lost_of name_of (past told) o left) l.6))

pub making-back : {F B O : Type 0} (name_of : F → FrameName) (parts : F → Option Parts) (bytes_of : B → ℕ) (is_used : B → Bool)
    (moves : MoveLaws O name_of parts bytes_of)
    (s : Setting) (w w' : Coursed) (t t' : List Kept) (r b c : ℕ) (a : FrameName) (left : Left F B O) (lost : List ℕ)
    → TakesBack {F = F} {B = B} {O = O} name_of parts bytes_of s w t r left
    → granted_block (hand r (past w.told)) ≡ b ∷ [] → has_part_of a (hand r (past w.told)) ≡ true → block_of (past w.told) a ≡ c ∷ []
    → w' ≡ record w { told = moved s (loses r lost) w.told }
    → lost ≡ option_to_list (lost_block (is_some left.made || is_some left.blank) b) ++ option_to_list (lost_block (brings name_of a left.input) c)
    → t' ≡ with_grant name_of parts bytes_of is_used b left.made left.blank (with_input name_of parts a c left.input t) → IsBoard parts s w' t'
making-back {F} {B} {O} name_of parts bytes_of is_used moves s w w' t t' r b c a left lost i grant part has is gone kept =
    let l = hand-making b a (hand r (past w.told)) grant part in
    back-board {F = F} {B = B} {O = O} name_of parts bytes_of s w w' t t' r left lost i is (gone ∙ making-lost name_of w.told r b c a left grant part has)
    (subst (λ (u : List Kept). HoldsBlocks parts s (taken_back name_of s r left w.told) u) (sym kept)
    (moves.reclaim_block is_used s w.told t r left l.0 l.1 a.maker a.index b l.2 c l.3 l.4 l.5
    (may-back {F = F} {B = B} {O = O} name_of parts bytes_of s w t r left i) l.6 has))

-- where nothing stands against it there is a hand
pub not-free : (s : Setting) (r : ℕ) (P : Past) → is_free r P ≡ true → ((x : NoWhy) → reclaim_refusal s r P ≡ Some x → ⊥) → ⊥
not-free s r P free none = none NoHand (rw free refl)
