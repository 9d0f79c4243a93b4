-- What the keys of a table hold, and their faults: `Missing` where a key that has to be given isn't, `KeyType` where its
-- value isn't of the key's form, and `Range` with the number that is out of range.
use Rattle.std.specs.Prelude.{ℕ, ℤ, pos, negsuc, int_le, Bool, not, ◌&&◌, nat_lt, List, [], ◌∷◌, length, Option, Some, None, Result, Ok, Err, if◌then◌else◌}
use Rattle.std.specs.Prelude.{find}
use Rattle.std.specs.List.{list_any}
use Rattle.std.specs.Option.{option_map, option_map_or, option_and_then}
use Rattle.std.specs.Ordering.{nat_cmp, is_lt}
use Rattle.std.specs.Cmp.Lexicographic.{slice_cmp}
use Rattle.std.specs.Str.{bytes_eq}
use Rattle.toml.specs.Data.{Data, Items, no_items, item, Members, no_members, member, as_integer, as_bool, as_str, as_array, get_member}
use Rattle.graph_conf.specs.declared.fault.GraphFault.{GraphFault}
use Rattle.graph_conf.specs.declared.fault.GraphFault.TheVariants.{KeyType, Range, Missing, UnknownKey}
use Rattle.graph_conf.specs.Answers.{◌>>=◌}

-- what is read of a value, where there is one
abbrev pub given_or : {A : Type 0} → Result A GraphFault → (Data → Result A GraphFault) → Option Data → Result A GraphFault
given_or absent read None = absent
given_or absent read (Some d) = read d

-- what the key holds, or the default where it isn't given
abbrev pub optional : {A : Type 0} → List ℕ → (Data → Result A GraphFault) → A → Members → Result A GraphFault
optional key read default table = given_or (Ok default) read (get_member key table)

-- the value at a key that has to be given
abbrev pub present : List ℕ → Members → Result Data GraphFault
present key table = given_or (Err (Missing key)) Ok (get_member key table)

-- what such a key holds
abbrev pub required : {A : Type 0} → List ℕ → (Data → Result A GraphFault) → Members → Result A GraphFault
required key read table = do
  d ← present key table
  read d

-- the value, where it is of the key's form
abbrev pub formed : {A : Type 0} → List ℕ → Option A → Result A GraphFault
formed key (Some x) = Ok x
formed key None = Err (KeyType key)

-- NUMBERS AND TRUTH VALUES

abbrev pub is_within : (low high : ℤ) → ℤ → Bool
is_within low high v = int_le low v && int_le v high

abbrev pub whole : List ℕ → (low high : ℤ) → Data → Result ℤ GraphFault
whole key low high d = do
  v ← formed key (as_integer d)
  if is_within low high v then Ok v else Err (Range key v)

-- a whole number from low to high
abbrev pub number : List ℕ → (low high default : ℤ) → Members → Result ℤ GraphFault
number key low high default table = optional key (whole key low high) default table

abbrev pub counted : ℤ → ℕ
counted (pos n) = n
counted (negsuc n) = 0

-- the same, where none of them is below 0
abbrev pub count : List ℕ → (low high default : ℕ) → Members → Result ℕ GraphFault
count key low high default table = do
  v ← number key (pos low) (pos high) (pos default) table
  Ok (counted v)

abbrev pub truth : List ℕ → Bool → Members → Result Bool GraphFault
truth key default table = optional key (λ d. formed key (as_bool d)) default table

-- TEXTS AND WORDS

abbrev pub text_in : List ℕ → Data → Result (List ℕ) GraphFault
text_in key d = formed key (as_str d)

-- what a word means, by the first line of a table that has it
abbrev pub meaning_in : {A : Type 0} → List (List ℕ × A) → List ℕ → Option A
meaning_in [] word = None
meaning_in (line ∷ lines) word = if bytes_eq line.0 word then Some line.1 else meaning_in lines word

abbrev pub word_in : {A : Type 0} → List ℕ → List (List ℕ × A) → Data → Result A GraphFault
word_in key lines d = do
  word ← text_in key d
  formed key (meaning_in lines word)

-- LISTS

-- the values of the items, where each is of the form
abbrev pub all_of : {A : Type 0} → (Data → Option A) → Items → Option (List A)
all_of form no_items = Some []
all_of form (item d ds) = option_and_then (λ x. option_map (λ xs. x ∷ xs) (all_of form ds)) (form d)

abbrev pub list_in : {A : Type 0} → List ℕ → (Data → Option A) → Data → Result (List A) GraphFault
list_in key form d = formed key (option_and_then (all_of form) (as_array d))

-- at most so many items
abbrev pub at_most : {A : Type 0} → List ℕ → ℕ → List A → Result (List A) GraphFault
at_most key most xs = if nat_lt most (length xs) then Err (Range key (pos (length xs))) else Ok xs

-- each number from low to high; else the first that isn't
abbrev pub each_within : List ℕ → (low high : ℤ) → List ℤ → Result (List ℤ) GraphFault
each_within key low high vs = option_map_or (λ v. Err (Range key v)) (find (λ v. not (is_within low high v)) vs) (Ok vs)

abbrev pub dimension_numbers : List ℕ → Data → Result (List ℤ) GraphFault
dimension_numbers key d = do
  vs ← list_in key as_integer d
  few ← at_most key 10 vs
  each_within key (negsuc 2147483647) (pos 2147483647) few

-- a list of at most 10 whole numbers of 32 bits
abbrev pub numbers : List ℕ → Members → Result (List ℤ) GraphFault
numbers key table = optional key (dimension_numbers key) [] table

abbrev pub dimension_truths : List ℕ → Data → Result (List Bool) GraphFault
dimension_truths key d = do
  vs ← list_in key as_bool d
  at_most key 10 vs

-- a list of at most 10 truth values
abbrev pub truths : List ℕ → Members → Result (List Bool) GraphFault
truths key table = optional key (dimension_truths key) [] table

-- KEYS THAT A TABLE DOESN'T HAVE

-- the one that comes first in byte order
abbrev pub lesser : List ℕ → Option (List ℕ) → List ℕ
lesser key None = key
lesser key (Some other) = if is_lt (slice_cmp nat_cmp other key) then other else key

-- of the table's keys that aren't among these, the first in byte order
abbrev pub first_unknown : List (List ℕ) → Members → Option (List ℕ)
first_unknown known no_members = None
first_unknown known (member key d table) =
    if list_any (bytes_eq key) known then first_unknown known table else Some (lesser key (first_unknown known table))

abbrev pub refused_key : Option (List ℕ) → Result (Unit {0}) GraphFault
refused_key None = Ok tt
refused_key (Some key) = Err (UnknownKey key)

abbrev pub only_keys : List (List ℕ) → Members → Result (Unit {0}) GraphFault
only_keys known table = refused_key (first_unknown known table)
