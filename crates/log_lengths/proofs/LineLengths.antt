-- How long the line of an entry can be.
use Rattle.std.proofs.Common.{◌≡◌, ℕ, ◌+◌, ◌*◌, ◌≤◌, ◌<◌, Bool, true, false, List, [], ◌∷◌, length, refl, arith, length-append}
use Rattle.std.specs.Fmt.{decimal}
use Rattle.std.proofs.lemmas.Fmt.{length-decimal-le}
use Rattle.flow_journal.specs.declared.entry.Entry.{Entry}
use Rattle.flow_journal.specs.declared.entry.Entry.TheVariants.{Load, LoadRefused, Tick, Issue, Emit, Accept, Full, Take, TakeBlock, PoolDrop, Put}
use Rattle.flow_journal.specs.declared.entry.Entry.TheVariants.{SortDrop, Settle, Save, Saved, Close, Leave, Reclaim}
use Rattle.flow_journal.specs.declared.entry.Why.{Why}
use Rattle.flow_journal.specs.declared.entry.Why.TheVariants.{Plain, Step, Late, Flush, Ring, Now}
use Rattle.flow_journal.specs.Spelling.{flag, why_word, words, spaced, spelling, line}
use Rattle.flow_journal.specs.TextFaults.{Fits, IsSmall, IsWide}
use Rattle.flow_journal.proofs.EntryCounts.{bit}

-- the entry's line can have more than 76 bytes
abbrev pub is_long : Entry → Bool
is_long (Load r k b n f g x) = true
is_long (TakeBlock f x r v m k b n g) = true
is_long (PoolDrop r v m k n h) = true
is_long _ = false

-- the bytes of these words, with one behind each
abbrev words_length : List (List ℕ) → ℕ
words_length [] = 0
words_length (w ∷ ws) = length w + 1 + words_length ws

spaced-length : (ws : List (List ℕ)) → 0 < length ws → length (spaced ws) + 1 ≡ words_length ws
spaced-length [] h = absurd (omega (arith, h))
spaced-length (w ∷ []) h = omega arith
spaced-length (w ∷ v ∷ ws) h = omega (arith, spaced-length (v ∷ ws) (omega arith), length-append w (32 ∷ spaced (v ∷ ws)))

some_words : (e : Entry) → 0 < length (words e)
some_words (Close r) = omega arith
some_words _ = omega arith

line-length : (e : Entry) → length (line e) ≡ words_length (words e)
line-length e = omega (arith, length-append (spelling e) (10 ∷ []), spaced-length (words e) (some_words e))

small-length : (n : ℕ) → IsSmall n → length (decimal n) ≤ 10
small-length n h = length-decimal-le 10 n (omega arith) (omega (arith, h)) (omega (arith, h))

wide-length : (n : ℕ) → IsWide n → length (decimal n) ≤ 20
wide-length n h = length-decimal-le 20 n (omega arith) (omega (arith, h)) h

flag-length : (b : Bool) → length (flag b) ≡ 1
flag-length true = refl
flag-length false = refl

why_word-length : (why : Why) → length (why_word why) ≤ 5
why_word-length Plain = omega arith
why_word-length Step = omega arith
why_word-length Late = omega arith
why_word-length Flush = omega arith
why_word-length Ring = omega arith
why_word-length Now = omega arith

-- 122 bytes at most, and 76 where it isn't long
pub line-short : (e : Entry) → Fits e → length (line e) ≤ 76 + 46 * bit (is_long e)
line-short (Load r k b n f g x) p =
    omega (
      arith,
      line-length (Load r k b n f g x),
      small-length r p.0,
      small-length k p.1,
      small-length b p.2,
      small-length n p.3,
      flag-length f,
      small-length g p.4,
      flag-length x,
    )
line-short (LoadRefused r k n h) p =
    omega (arith, line-length (LoadRefused r k n h), small-length r p.0, small-length k p.1, small-length n p.2, wide-length h p.3)
line-short (Tick t) p = omega (arith, line-length (Tick t), wide-length t p)
line-short (Issue r k) p = omega (arith, line-length (Issue r k), small-length r p.0, small-length k p.1)
line-short (Emit v m k why) p =
    omega (arith, line-length (Emit v m k why), small-length v p.0, small-length m p.1, small-length k p.2, why_word-length why)
line-short (Accept v m k) p = omega (arith, line-length (Accept v m k), small-length v p.0, small-length m p.1, small-length k p.2)
line-short (Full v m k) p = omega (arith, line-length (Full v m k), small-length v p.0, small-length m p.1, small-length k p.2)
line-short (Take r v m k) p =
    omega (arith, line-length (Take r v m k), small-length r p.0, small-length v p.1, small-length m p.2, small-length k p.3)
line-short (TakeBlock f x r v m k b n g) p =
    omega (
      arith,
      line-length (TakeBlock f x r v m k b n g),
      small-length r p.0,
      small-length v p.1,
      small-length m p.2,
      small-length k p.3,
      small-length b p.4,
      small-length n p.5,
      flag-length f,
      small-length g p.6,
      flag-length x,
    )
line-short (PoolDrop r v m k n h) p =
    omega (
      arith,
      line-length (PoolDrop r v m k n h),
      small-length r p.0,
      small-length v p.1,
      small-length m p.2,
      small-length k p.3,
      small-length n p.4,
      wide-length h p.5,
    )
line-short (Put r v m k f) p =
    omega (arith, line-length (Put r v m k f), small-length r p.0, small-length v p.1, small-length m p.2, small-length k p.3, flag-length f)
line-short (SortDrop v m k) p = omega (arith, line-length (SortDrop v m k), small-length v p.0, small-length m p.1, small-length k p.2)
line-short (Settle r v) p = omega (arith, line-length (Settle r v), small-length r p.0, small-length v p.1)
line-short (Save r v m k g) p =
    omega (
      arith,
      line-length (Save r v m k g),
      small-length r p.0,
      small-length v p.1,
      small-length m p.2,
      small-length k p.3,
      small-length g p.4,
    )
line-short (Saved r v m k) p =
    omega (arith, line-length (Saved r v m k), small-length r p.0, small-length v p.1, small-length m p.2, small-length k p.3)
line-short (Close r) p = omega (arith, line-length (Close r), small-length r p)
line-short (Leave r) p = omega (arith, line-length (Leave r), small-length r p)
line-short (Reclaim r) p = omega (arith, line-length (Reclaim r), small-length r p)
