-- The text of a log: a line for each entry, with one space between words, decimal numbers without leading zeros, flags 0 or 1, and a
-- newline after each line.
use Rattle.std.specs.Prelude.{ℕ, Bool, true, false, List, [], ◌∷◌, ◌++◌, flat_map, codes, if◌then◌else◌}
use Rattle.std.specs.List.{join_with_byte}
use Rattle.std.specs.Fmt.{decimal}
use Rattle.flow_journal.specs.declared.entry.Entry.{Entry}
use Rattle.flow_journal.specs.declared.entry.Entry.TheVariants.{Load, LoadRefused, Tick, Issue, Emit, Accept, Full, Take, TakeBlock, PoolDrop, Put}
use Rattle.flow_journal.specs.declared.entry.Entry.TheVariants.{SortDrop, Settle, Save, Saved, Close, Leave, Reclaim}
use Rattle.flow_journal.specs.declared.entry.Why.{Why}
use Rattle.flow_journal.specs.declared.entry.Why.TheVariants.{Plain, Step, Late, Flush, Ring, Now}

abbrev pub flag : Bool → List ℕ
flag b = if b then codes "1" else codes "0"

abbrev pub why_word : Why → List ℕ
why_word Plain = codes "plain"
why_word Step = codes "step"
why_word Late = codes "late"
why_word Flush = codes "flush"
why_word Ring = codes "ring"
why_word Now = codes "now"

-- the words of a grant
abbrev pub grant_words : (block size : ℕ) → (fresh : Bool) → (given : ℕ) → (regrown : Bool) → List (List ℕ)
grant_words b n f g x =
    codes "block" ∷ decimal b ∷ codes "size" ∷ decimal n ∷ codes "fresh" ∷ flag f ∷ codes "given" ∷ decimal g ∷ codes "regrown" ∷ flag x ∷ []

-- the words of a refusal
abbrev pub refusal_words : (need held : ℕ) → List (List ℕ)
refusal_words n h = codes "need" ∷ decimal n ∷ codes "held" ∷ decimal h ∷ []

abbrev pub group_words : ℕ → List (List ℕ)
group_words g = codes "group" ∷ decimal g ∷ []

-- the words of an entry's line
abbrev pub words : Entry → List (List ℕ)
words (Load r k b n f g x) = codes "load" ∷ decimal r ∷ decimal k ∷ grant_words b n f g x
words (LoadRefused r k n h) = codes "loadrefused" ∷ decimal r ∷ decimal k ∷ refusal_words n h
words (Tick t) = codes "tick" ∷ decimal t ∷ []
words (Issue r k) = codes "issue" ∷ decimal r ∷ decimal k ∷ []
words (Emit v m k why) = codes "emit" ∷ decimal v ∷ decimal m ∷ decimal k ∷ why_word why ∷ []
words (Accept v m k) = codes "accept" ∷ decimal v ∷ decimal m ∷ decimal k ∷ []
words (Full v m k) = codes "full" ∷ decimal v ∷ decimal m ∷ decimal k ∷ []
words (Take r v m k) = codes "take" ∷ decimal r ∷ decimal v ∷ decimal m ∷ decimal k ∷ []
words (TakeBlock f x r v m k b n g) = codes "takeblock" ∷ decimal r ∷ decimal v ∷ decimal m ∷ decimal k ∷ grant_words b n f g x
words (PoolDrop r v m k n h) = codes "pooldrop" ∷ decimal r ∷ decimal v ∷ decimal m ∷ decimal k ∷ refusal_words n h
words (Put r v m k f) = codes "put" ∷ decimal r ∷ decimal v ∷ decimal m ∷ decimal k ∷ codes "fired" ∷ flag f ∷ []
words (SortDrop v m k) = codes "sortdrop" ∷ decimal v ∷ decimal m ∷ decimal k ∷ []
words (Settle r v) = codes "settle" ∷ decimal r ∷ decimal v ∷ []
words (Save r v m k g) = codes "save" ∷ decimal r ∷ decimal v ∷ decimal m ∷ decimal k ∷ group_words g
words (Saved r v m k) = codes "saved" ∷ decimal r ∷ decimal v ∷ decimal m ∷ decimal k ∷ []
words (Close r) = codes "close" ∷ decimal r ∷ []
words (Leave r) = codes "leave" ∷ decimal r ∷ []
words (Reclaim r) = codes "reclaim" ∷ decimal r ∷ []

-- with one space between each two
abbrev pub spaced : List (List ℕ) → List ℕ
spaced ws = join_with_byte 32 ws

-- the entry's line without its newline
abbrev pub spelling : Entry → List ℕ
spelling e = spaced (words e)

abbrev pub line : Entry → List ℕ
line e = spelling e ++ 10 ∷ []

-- the text of these entries, the oldest first
abbrev pub text_of : List Entry → List ℕ
text_of es = flat_map line es

-- the entry tells of a frame, up to its issue
abbrev pub tells_of_frame : Entry → Bool
tells_of_frame (Load r k b n f g x) = true
tells_of_frame (LoadRefused r k n h) = true
tells_of_frame (Tick t) = true
tells_of_frame (Issue r k) = true
tells_of_frame _ = false

-- the entry tells where an array came, or that it was dropped
abbrev pub tells_of_array : Entry → Bool
tells_of_array (Emit v m k why) = true
tells_of_array (Accept v m k) = true
tells_of_array (Full v m k) = true
tells_of_array (PoolDrop r v m k n h) = true
tells_of_array (SortDrop v m k) = true
tells_of_array _ = false

-- the entry tells of a job that was taken
abbrev pub tells_of_take : Entry → Bool
tells_of_take (Take r v m k) = true
tells_of_take (TakeBlock f x r v m k b n g) = true
tells_of_take _ = false

-- the entry tells of a result, or of a piece to save
abbrev pub tells_of_work : Entry → Bool
tells_of_work (Put r v m k f) = true
tells_of_work (Save r v m k g) = true
tells_of_work (Saved r v m k) = true
tells_of_work _ = false
