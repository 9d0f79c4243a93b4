-- Fields of a file, one after another. Each relation is between the bytes from a field on and those after it.
use Rattle.std.specs.Prelude.{◌≡◌, ℕ, ◌+◌, ◌-◌, ◌*◌, ◌/◌, List, [], ◌∷◌, ◌++◌, length, codes}
use Rattle.std.specs.Int.{w32, w64, from_be_bytes, to_be_bytes}
use Rattle.nd_base.specs.declared.form.Form.{Form}
use Rattle.nd_base.specs.declared.form.Form.TheVariants.{Classic, Wide}

-- what a netCDF classic file of this form begins with
abbrev pub magic : Form → List ℕ
magic Classic = codes "CDF" ++ 1 ∷ []
magic Wide = codes "CDF" ++ 2 ∷ []

-- the place of what is left of a file of so many bytes
abbrev pub place : (total : ℕ) → (rest : List ℕ) → ℕ
place total rest = total - length rest

-- these bytes
abbrev pub IsFixed : (text before after : List ℕ) → Type 0
IsFixed text before after = before ≡ text ++ after

-- so many bytes, whatever they are
pub record IsFree (count : ℕ) (before after : List ℕ) : Type 0 where
  pub text : List ℕ
  pub whole : before ≡ text ++ after
  pub size : length text ≡ count

-- four bytes that spell the number, the most significant first
pub record IsWord (number : ℕ) (before after : List ℕ) : Type 0 where
  pub text : List ℕ
  pub whole : before ≡ text ++ after
  pub size : length text ≡ 4
  pub spells : number ≡ from_be_bytes w32 text

-- eight bytes that spell the number, the most significant first
pub record IsDoubleWord (number : ℕ) (before after : List ℕ) : Type 0 where
  pub text : List ℕ
  pub whole : before ≡ text ++ after
  pub size : length text ≡ 8
  pub spells : number ≡ from_be_bytes w64 text

-- so many bytes raised to a multiple of 4
abbrev pub padded : ℕ → ℕ
padded count = (count + 3) / 4 * 4

-- the bytes of padding after so many bytes
abbrev pub padding : ℕ → ℕ
padding count = padded count - count

-- the bytes of a word
abbrev pub word : ℕ → List ℕ
word number = to_be_bytes w32 number

-- the bytes of a double word
abbrev pub double_word : ℕ → List ℕ
double_word number = to_be_bytes w64 number
