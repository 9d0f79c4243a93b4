-- Fields that the layout spells are fields as they are read.
use Rattle.std.specs.Prelude.{◌≡◌, ℕ, ◌^◌, ◌<◌, ◌≤◌, List, [], ◌∷◌, ◌++◌, length, replicate, refl}
use Rattle.std.specs.Str.{IsUtf8}
use Rattle.std.specs.List.{concat}
use Rattle.std.proofs.Common.{sym, subst, ◌∙◌, append_assoc, append-nil, arith}
use Rattle.std.proofs.lemmas.List.{length-replicate}
use Rattle.std.proofs.lemmas.Nat.{from_be_bytes-to_be_bytes_4, from_be_bytes-to_be_bytes_8}
use Rattle.nd_base.specs.declared.form.Form.{Form}
use Rattle.nd_base.specs.declared.form.Form.TheVariants.{Classic, Wide}
use Rattle.cdf_read.specs.Fields.{IsWord, padding}
use Rattle.cdf_read.specs.Grammar.{greatest, greatest_wide, IsNumber, IsBegin, IsKind, IsPadded, IsName, AreMany, IsListHead, IsList}
use Rattle.cdf_write.specs.Spelling.{word, double_word, gap, padded, name_field, element_list}
use Rattle.cdf_write.specs.Layout.{offset}

pub word-IsWord : (n : ℕ) (after : List ℕ) → n < 2 ^ 32 → IsWord n (word n ++ after) after
word-IsWord n after h = record { text = word n; whole = refl; size = refl; spells = sym (from_be_bytes-to_be_bytes_4 n h) }

pub word-IsNumber : (n : ℕ) (after : List ℕ) → n ≤ greatest → IsNumber n (word n ++ after) after
word-IsNumber n after h = record { word = word-IsWord n after (omega (arith, h)); positive = h }

-- the greatest begin in a file of this form
abbrev pub greatest_begin : Form → ℕ
greatest_begin Classic = greatest
greatest_begin Wide = greatest_wide

pub offset-IsBegin : (form : Form) (n : ℕ) (after : List ℕ) → n ≤ greatest_begin form → IsBegin form n (offset form n ++ after) after
offset-IsBegin Classic n after h = word-IsNumber n after h
offset-IsBegin Wide n after h = record {
  word = record { text = double_word n; whole = refl; size = refl; spells = sym (from_be_bytes-to_be_bytes_8 n (omega (arith, h))) };
  positive = h;
}

pub word-IsKind : (kind : ℕ) (after : List ℕ) → 1 ≤ kind → kind ≤ 6 → IsKind kind (word kind ++ after) after
word-IsKind kind after least most = record { word = word-IsWord kind after (omega (arith, most)); least = least; most = most }

gap-padding : (n : ℕ) → gap n ≡ padding n
gap-padding n = omega arith

pub padded-IsPadded : (text after : List ℕ) → IsPadded text (padded text ++ after) after
padded-IsPadded text after =
    let zeros : List ℕ = replicate (gap (length text)) 0 in
    record {
      at_padding = zeros ++ after;
      bytes = append_assoc text zeros after;
      pad = record { text = zeros; whole = refl; size = length-replicate (gap (length text)) 0 ∙ gap-padding (length text) };
    }

pub name_field-IsName : (name after : List ℕ) → 1 ≤ length name → length name ≤ 1024 → IsUtf8 name → IsName name (name_field name ++ after) after
name_field-IsName name after least most utf8 = record {
  at_text = padded name ++ after;
  count = word-IsNumber (length name) (padded name ++ after) (omega (arith, most));
  text = padded-IsPadded name after;
  least = least;
  most = most;
  utf8 = utf8;
}

-- elements one after another, each with its bytes: whatever follows, these bytes spell it
abbrev pub AreSpelled : {A : Type 0} → (List A → A → List ℕ → List ℕ → Type 0) → List A → List (List ℕ) → List A → Type 0
AreSpelled Is earlier [] [] = Unit {0}
AreSpelled Is earlier [] (x ∷ xs) = ⊥
AreSpelled Is earlier (bytes ∷ others) [] = ⊥
AreSpelled Is earlier (bytes ∷ others) (x ∷ xs) = ((after : List ℕ) → Is earlier x (bytes ++ after) after) × AreSpelled Is (earlier ++ x ∷ []) others xs

pub AreSpelled-many : {A : Type 0} (Is : List A → A → List ℕ → List ℕ → Type 0) (earlier : List A) (spellings : List (List ℕ)) (xs : List A) (after : List ℕ) →
    AreSpelled Is earlier spellings xs → AreMany Is earlier xs (concat spellings ++ after) after
AreSpelled-many Is earlier [] [] after h = refl
AreSpelled-many Is earlier [] (x ∷ xs) after h = absurd h
AreSpelled-many Is earlier (bytes ∷ others) [] after h = absurd h
AreSpelled-many Is earlier (bytes ∷ others) (x ∷ xs) after h =
    subst (λ before. AreMany Is earlier (x ∷ xs) before after) (sym (append_assoc bytes (concat others) after))
    (concat others ++ after, h.0 (concat others ++ after), AreSpelled-many Is (earlier ++ x ∷ []) others xs after h.1)

pub AreSpelled-count : {A : Type 0} (Is : List A → A → List ℕ → List ℕ → Type 0) (earlier : List A) (spellings : List (List ℕ)) (xs : List A)
    → AreSpelled Is earlier spellings xs → length spellings ≡ length xs
AreSpelled-count Is earlier [] [] h = refl
AreSpelled-count Is earlier [] (x ∷ xs) h = absurd h
AreSpelled-count Is earlier (bytes ∷ others) [] h = absurd h
AreSpelled-count Is earlier (bytes ∷ others) (x ∷ xs) h = let rest = AreSpelled-count Is (earlier ++ x ∷ []) others xs h.1 in omega arith

-- some elements, and then others
pub AreSpelled-append : {A : Type 0} (Is : List A → A → List ℕ → List ℕ → Type 0) (earlier : List A) (front : List (List ℕ)) (xs : List A)
    (back : List (List ℕ)) (ys : List A) →
    AreSpelled Is earlier front xs → AreSpelled Is (earlier ++ xs) back ys → AreSpelled Is earlier (front ++ back) (xs ++ ys)
AreSpelled-append {A} Is earlier [] [] back ys h k = subst (λ (before : List A). AreSpelled Is before back ys) (append-nil earlier) k
AreSpelled-append Is earlier [] (x ∷ xs) back ys h k = absurd h
AreSpelled-append Is earlier (bytes ∷ others) [] back ys h k = absurd h
AreSpelled-append {A} Is earlier (bytes ∷ others) (x ∷ xs) back ys h k = (
  h.0,
  AreSpelled-append Is (earlier ++ x ∷ []) others xs back ys h.1
      (subst (λ (before : List A). AreSpelled Is before back ys) (sym (append_assoc earlier (x ∷ []) xs)) k),
)

-- a list with its tag and count
pub element_list-IsList : {A : Type 0} (tag : ℕ) (Is : List A → A → List ℕ → List ℕ → Type 0) (spellings : List (List ℕ)) (xs : List A) (after : List ℕ)
    → tag < 2 ^ 32 → length spellings ≤ greatest →
    AreSpelled Is [] spellings xs → IsList tag Is xs (element_list tag spellings ++ after) after
element_list-IsList {A} tag Is spellings xs after small few h =
    let count = AreSpelled-count Is [] spellings xs h in
    let rest : List ℕ = concat spellings ++ after in
    let head : IsListHead tag (length spellings) (word tag ++ (word (length spellings) ++ rest)) rest = record {
      first = tag;
      at_count = word (length spellings) ++ rest;
      tag_word = word-IsWord tag (word (length spellings) ++ rest) small;
      number = word-IsNumber (length spellings) rest few;
      own = λ other. absurd (other refl);
    } in
    (rest, subst (λ n. IsListHead tag n (word tag ++ (word (length spellings) ++ rest)) rest) count head, AreSpelled-many Is [] spellings xs after h)
