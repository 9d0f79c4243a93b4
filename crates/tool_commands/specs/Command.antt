-- The commands of the top call, by the words of the command line.
use Rattle.std.specs.Prelude.{ℕ, ℤ, pos, int_lt, not, ◌&&◌, List, [], ◌∷◌, Option, None, Some, codes, if◌then◌else◌}
use Rattle.std.specs.Option.{option_map}
use Rattle.std.specs.Str.{bytes_eq}
use Rattle.nd_base.specs.declared.array.SampleType.{SampleType}
use Rattle.decimal_words.specs.Numbers.{number_of, integer_of}
use Rattle.nd_stack.specs.declared.generated.GenFault.{GenFault}
use Rattle.nd_stack.specs.declared.generated.GenFault.TheVariants.{GenRange}
use Rattle.nd_stack.specs.Generated.{gen_fault}
use Rattle.graph_conf.specs.Keys.{meaning_in}
use Rattle.graph_conf.specs.Nodes.{sample_types}
use Rattle.nd_orient.specs.declared.rule.CorrectRule.{CorrectRule}
use Rattle.nd_series.specs.declared.region.Box4.{Box4}
use Rattle.nd_series.specs.Words.{length_in, regions_in}
use Rattle.tool_commands.specs.declared.words.GenRule.{GenRule}

pub data Command : Type 0 where
  Copy : (stack prefix : List ℕ) → Command
  Plain : (graph stack prefix : List ℕ) → Command
  Info : (stack : List ℕ) → Command
  Gen : (rule : GenRule) → (name : List ℕ) → Command
  Orient : (mode : ℕ) → (stack name : List ℕ) → Command
  Correct : (rule : CorrectRule) → (dark stack name : List ℕ) → Command
  Series : (most : ℕ) → (regions : List Box4) → (stack name : List ℕ) → Command

-- a number of 32 bits in words of digits
abbrev pub word_number : List ℕ → Option ℕ
word_number word = number_of 10 0 4294967295 word

-- a stack is made by these numbers, unless they are out of their ranges
abbrev pub unless_out_of_range : Option GenFault → GenRule → Option GenRule
unless_out_of_range (Some GenRange) rule = None
unless_out_of_range _ rule = Some rule

abbrev pub gen_rule : (frames width height : Option ℕ) → (kind : Option SampleType) → (start : Option ℕ) → Option GenRule
gen_rule (Some n) (Some w) (Some h) (Some kind) (Some start) =
    unless_out_of_range (gen_fault n w h kind) (record { frames = n; width = w; height = h; kind = kind; start = start })
gen_rule _ _ _ _ _ = None

-- the divisor is at least 1, and the least value at most the greatest
abbrev pub checked_rule : CorrectRule → Option CorrectRule
checked_rule rule = if int_lt (pos 0) rule.den && not (int_lt rule.high rule.low) then Some rule else None

abbrev pub correct_rule : (offset num den low high : Option ℤ) → Option CorrectRule
correct_rule (Some offset) (Some num) (Some den) (Some low) (Some high) =
    checked_rule (record { offset = offset; num = num; den = den; low = low; high = high })
correct_rule _ _ _ _ _ = None

abbrev pub series_command : (most : Option ℕ) → (regions : Option (List Box4)) → (stack name : List ℕ) → Option Command
series_command (Some most) (Some regions) stack name = Some (Series most regions stack name)
series_command _ _ stack name = None

-- the command that the words are; None where they are none, or not as many words as it has, or a number or type isn't spelled as it wants
abbrev pub command_of : List (List ℕ) → Option Command
command_of (word ∷ stack ∷ []) = if bytes_eq word (codes "info") then Some (Info stack) else None
command_of (word ∷ stack ∷ prefix ∷ []) = if bytes_eq word (codes "copy") then Some (Copy stack prefix) else None
command_of (word ∷ first ∷ stack ∷ name ∷ []) =
    if bytes_eq word (codes "plain") then Some (Plain first stack name)
    else if bytes_eq word (codes "orient") then option_map (λ mode. Orient mode stack name) (number_of 1 0 7 first)
    else None
command_of (word ∷ most ∷ regions ∷ stack ∷ name ∷ []) =
    if bytes_eq word (codes "series") then series_command (length_in most) (regions_in regions) stack name else None
command_of (word ∷ n ∷ w ∷ h ∷ kind ∷ start ∷ name ∷ []) =
    if bytes_eq word (codes "gen")
    then option_map (λ rule. Gen rule name)
    (gen_rule (word_number n) (word_number w) (word_number h) (meaning_in sample_types kind) (number_of 10 0 2147483647 start))
    else None
command_of (word ∷ dark ∷ stack ∷ name ∷ offset ∷ num ∷ den ∷ low ∷ high ∷ []) =
    if bytes_eq word (codes "correct")
    then option_map (λ rule. Correct rule dark stack name)
    (correct_rule (integer_of offset) (integer_of num) (integer_of den) (integer_of low) (integer_of high))
    else None
command_of _ = None
