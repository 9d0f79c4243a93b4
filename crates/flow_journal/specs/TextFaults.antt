-- What is an entry that a log can have, and where a text is none of a log.
use Rattle.std.specs.Prelude.{◌≡◌, ◌≢◌, ℕ, ◌+◌, ◌^◌, ◌<◌, List, [], ◌++◌, length, All, Option, Some, None}
use Rattle.flow_journal.specs.declared.entry.Entry.{Entry}
use Rattle.flow_journal.specs.declared.entry.Entry.TheVariants.{Load, LoadRefused, Tick, Issue, Emit, Accept, Full, Take, TakeBlock, PoolDrop, Put}
use Rattle.flow_journal.specs.declared.entry.Entry.TheVariants.{SortDrop, Settle, Save, Saved, Close, Leave, Reclaim}
use Rattle.flow_journal.specs.Spelling.{spelling, line, text_of}

-- a number of 32 bits
abbrev pub IsSmall : ℕ → Type 0
IsSmall n = n < 2 ^ 32

-- a number of 64 bits
abbrev pub IsWide : ℕ → Type 0
IsWide n = n < 2 ^ 64

-- each number of the entry is one that its field can have
abbrev pub Fits : Entry → Type 0
Fits (Load r k b n f g x) = IsSmall r × IsSmall k × IsSmall b × IsSmall n × IsSmall g
Fits (LoadRefused r k n h) = IsSmall r × IsSmall k × IsSmall n × IsWide h
Fits (Tick t) = IsWide t
Fits (Issue r k) = IsSmall r × IsSmall k
Fits (Emit v m k why) = IsSmall v × IsSmall m × IsSmall k
Fits (Accept v m k) = IsSmall v × IsSmall m × IsSmall k
Fits (Full v m k) = IsSmall v × IsSmall m × IsSmall k
Fits (Take r v m k) = IsSmall r × IsSmall v × IsSmall m × IsSmall k
Fits (TakeBlock f x r v m k b n g) = IsSmall r × IsSmall v × IsSmall m × IsSmall k × IsSmall b × IsSmall n × IsSmall g
Fits (PoolDrop r v m k n h) = IsSmall r × IsSmall v × IsSmall m × IsSmall k × IsSmall n × IsWide h
Fits (Put r v m k f) = IsSmall r × IsSmall v × IsSmall m × IsSmall k
Fits (SortDrop v m k) = IsSmall v × IsSmall m × IsSmall k
Fits (Settle r v) = IsSmall r × IsSmall v
Fits (Save r v m k g) = IsSmall r × IsSmall v × IsSmall m × IsSmall k × IsSmall g
Fits (Saved r v m k) = IsSmall r × IsSmall v × IsSmall m × IsSmall k
Fits (Close r) = IsSmall r
Fits (Leave r) = IsSmall r
Fits (Reclaim r) = IsSmall r

-- the text doesn't begin with a line of an entry
abbrev pub BeginsWithNoLine : List ℕ → Type 0
BeginsWithNoLine text = (e : Entry) (back : List ℕ) → Fits e → text ≢ line e ++ back

-- line n of the text, from 1, is the first that is no entry's line with its newline
pub record IsFirstBadLine (text : List ℕ) (n : ℕ) : Type 0 where
  -- the entries of the lines before it
  pub before : List Entry
  pub rest : List ℕ
  pub fit : All Fits before
  pub number : length before + 1 ≡ n
  pub whole : text ≡ text_of before ++ rest
  pub more : rest ≢ []
  pub bad : BeginsWithNoLine rest

-- what a line without its newline is read as: the entry that is spelled so, or none
abbrev pub IsReading : List ℕ → Option Entry → Type 0
IsReading text None = (e : Entry) → Fits e → text ≢ spelling e
IsReading text (Some e) = Fits e × (text ≡ spelling e)

-- an entry, and the text behind its line
pub record FirstLine : Type 0 where
  pub entry : Entry
  pub rest : List ℕ

-- what a text is read as: it begins with the line of an entry, or with none
abbrev pub IsLineRead : List ℕ → Option FirstLine → Type 0
IsLineRead text None = BeginsWithNoLine text
IsLineRead text (Some f) = Fits f.entry × (text ≡ line f.entry ++ f.rest)
