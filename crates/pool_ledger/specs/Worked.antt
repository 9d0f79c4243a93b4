-- A pool with a limit of 10 bytes, call by call.
use Rattle.std.specs.Prelude.{◌≡◌, true, false, [], ◌∷◌, refl}
use Rattle.pool_ledger.specs.Grants.{Refused, Granted}
use Rattle.pool_ledger.specs.Ledger.{Ledger, empty_ledger, grant_for, after, held, with_refs}

abbrev pub start : Ledger
start = empty_ledger 10 8

four_gets_block_0 : grant_for 4 start ≡ Granted 0 4 true 0
four_gets_block_0 = refl

abbrev pub with_four : Ledger
with_four = after start (grant_for 4 start)

six_gets_block_1 : grant_for 6 with_four ≡ Granted 1 6 true 0
six_gets_block_1 = refl

abbrev pub with_ten : Ledger
with_ten = after with_four (grant_for 6 with_four)

one_more_is_refused : grant_for 1 with_ten ≡ Refused
one_more_is_refused = refl

ten_are_held : held with_ten ≡ 10
ten_are_held = refl

-- Block 1 was dropped.
abbrev pub six_free : Ledger
six_free = with_refs 1 0 with_ten

five_gets_the_free_block : grant_for 5 six_free ≡ Granted 1 6 false 0
five_gets_the_free_block = refl

-- Both blocks were dropped.
abbrev pub all_free : Ledger
all_free = with_refs 0 0 (with_refs 1 0 (after six_free (grant_for 5 six_free)))

seven_gives_both_up : grant_for 7 all_free ≡ Granted 0 7 true 2
seven_gives_both_up = refl

abbrev pub with_seven : Ledger
with_seven = after all_free (grant_for 7 all_free)

the_larger_is_named_first : with_seven ≡ record { limit = 10; room = 8; known = record { number = 0; size = 7; count = 1 } ∷ []; unnamed = 1 ∷ 0 ∷ [] }
the_larger_is_named_first = refl

four_is_refused : grant_for 4 with_seven ≡ Refused
four_is_refused = refl

seven_are_held : held with_seven ≡ 7
seven_are_held = refl
