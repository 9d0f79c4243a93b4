-- How a line is read: loosely at first, by the word at its front, its numbers and its last letter. It counts only where the entry that
-- these make is spelled as the line is.
use Rattle.std.specs.Prelude.{ℕ, ◌+◌, ◌-◌, ◌*◌, ◌==◌, ◌^◌, min, Bool, nat_eq, List, [], ◌∷◌, ◌++◌, length, find, Option, Some, None, codes, slice_get}
use Rattle.std.specs.Prelude.{slice_index, unwrap_or, if◌then◌else◌}
use Rattle.std.specs.List.{starts_with}
use Rattle.std.specs.Option.{option_to_list}
use Rattle.std.specs.Char.{is_ascii_digit}
use Rattle.flow_journal.specs.declared.entry.Entry.{Entry}
use Rattle.flow_journal.specs.declared.entry.Entry.TheVariants as E
use Rattle.flow_journal.specs.declared.entry.Why.{Why}
use Rattle.flow_journal.specs.declared.entry.Why.TheVariants.{Plain, Step, Late, Flush, Ring, Now}
use Rattle.flow_journal.specs.declared.kind.Kind.{Kind}
use Rattle.flow_journal.specs.declared.kind.Kind.TheVariants as K

-- the word at the front of a line, with the space behind it
abbrev pub kind_word : Kind → List ℕ
kind_word K.Load = codes "load "
kind_word K.LoadRefused = codes "loadrefused "
kind_word K.Tick = codes "tick "
kind_word K.Issue = codes "issue "
kind_word K.Emit = codes "emit "
kind_word K.Accept = codes "accept "
kind_word K.Full = codes "full "
kind_word K.Take = codes "take "
kind_word K.TakeBlock = codes "takeblock "
kind_word K.PoolDrop = codes "pooldrop "
kind_word K.Put = codes "put "
kind_word K.SortDrop = codes "sortdrop "
kind_word K.Settle = codes "settle "
kind_word K.Save = codes "save "
kind_word K.Saved = codes "saved "
kind_word K.Close = codes "close "
kind_word K.Leave = codes "leave "
kind_word K.Reclaim = codes "reclaim "

abbrev pub kinds : List Kind
kinds =
    K.Load ∷ K.LoadRefused ∷ K.Tick ∷ K.Issue ∷ K.Emit ∷ K.Accept ∷ K.Full ∷ K.Take ∷ K.TakeBlock ∷ K.PoolDrop ∷ K.Put ∷ K.SortDrop
    ∷ K.Settle ∷ K.Save ∷ K.Saved ∷ K.Close ∷ K.Leave ∷ K.Reclaim ∷ []

-- the kind whose word stands at the front of the line
abbrev pub kind_in : List ℕ → Option Kind
kind_in line = find (λ k. starts_with nat_eq line (kind_word k)) kinds

-- the number so far with one more digit, up to the greatest number of 64 bits
abbrev pub with_digit : Option ℕ → ℕ → ℕ
with_digit so_far c = min (unwrap_or so_far 0 * 10 + (c - 48)) (2 ^ 64 - 1)

-- the numbers in these bytes, where so_far is the one that the bytes before them end with
abbrev pub numbers_after : (so_far : Option ℕ) → List ℕ → List ℕ
numbers_after so_far [] = option_to_list so_far
numbers_after so_far (c ∷ cs) =
    (if is_ascii_digit c then [] else option_to_list so_far) ++ numbers_after (if is_ascii_digit c then Some (with_digit so_far c) else None) cs

-- the decimal numbers in a line
abbrev pub numbers_in : List ℕ → List ℕ
numbers_in line = numbers_after None line

-- the reason whose word ends with this letter: each of them has its own
abbrev pub why_by : ℕ → Why
why_by c =
    if c == 112 then Step else if c == 101 then Late else if c == 104 then Flush else if c == 103 then Ring else if c == 119 then Now else Plain

abbrev pub why_at_end : Option ℕ → Why
why_at_end None = Plain
why_at_end (Some c) = why_by c

-- the reason that a line ends with
abbrev pub why_in : List ℕ → Why
why_in line = why_at_end (slice_get line (length line - 1))

abbrev pub number_at : List ℕ → ℕ → ℕ
number_at ns i = slice_index ns i

abbrev pub small_at : List ℕ → ℕ → ℕ
small_at ns i = min (slice_index ns i) (2 ^ 32 - 1)

abbrev pub flag_at : List ℕ → ℕ → Bool
flag_at ns i = slice_index ns i == 1

-- the entry of a kind with these numbers, in the order of its line
abbrev pub entry_of : Kind → List ℕ → Why → Entry
entry_of K.Load ns why = E.Load (small_at ns 0) (small_at ns 1) (small_at ns 2) (small_at ns 3) (flag_at ns 4) (small_at ns 5) (flag_at ns 6)
entry_of K.LoadRefused ns why = E.LoadRefused (small_at ns 0) (small_at ns 1) (small_at ns 2) (number_at ns 3)
entry_of K.Tick ns why = E.Tick (number_at ns 0)
entry_of K.Issue ns why = E.Issue (small_at ns 0) (small_at ns 1)
entry_of K.Emit ns why = E.Emit (small_at ns 0) (small_at ns 1) (small_at ns 2) why
entry_of K.Accept ns why = E.Accept (small_at ns 0) (small_at ns 1) (small_at ns 2)
entry_of K.Full ns why = E.Full (small_at ns 0) (small_at ns 1) (small_at ns 2)
entry_of K.Take ns why = E.Take (small_at ns 0) (small_at ns 1) (small_at ns 2) (small_at ns 3)
entry_of K.TakeBlock ns why =
    E.TakeBlock (flag_at ns 6) (flag_at ns 8) (small_at ns 0) (small_at ns 1) (small_at ns 2) (small_at ns 3) (small_at ns 4) (small_at ns 5) (small_at ns 7)
entry_of K.PoolDrop ns why = E.PoolDrop (small_at ns 0) (small_at ns 1) (small_at ns 2) (small_at ns 3) (small_at ns 4) (number_at ns 5)
entry_of K.Put ns why = E.Put (small_at ns 0) (small_at ns 1) (small_at ns 2) (small_at ns 3) (flag_at ns 4)
entry_of K.SortDrop ns why = E.SortDrop (small_at ns 0) (small_at ns 1) (small_at ns 2)
entry_of K.Settle ns why = E.Settle (small_at ns 0) (small_at ns 1)
entry_of K.Save ns why = E.Save (small_at ns 0) (small_at ns 1) (small_at ns 2) (small_at ns 3) (small_at ns 4)
entry_of K.Saved ns why = E.Saved (small_at ns 0) (small_at ns 1) (small_at ns 2) (small_at ns 3)
entry_of K.Close ns why = E.Close (small_at ns 0)
entry_of K.Leave ns why = E.Leave (small_at ns 0)
entry_of K.Reclaim ns why = E.Reclaim (small_at ns 0)
