-- Laws of spelling: lengths, and where no padding is needed.
use Rattle.std.specs.Prelude.{◌≡◌, ℕ, zero, suc, ◌+◌, ◌*◌, ◌-◌, ◌<◌, ◌≤◌, ℤ, List, [], ◌∷◌, ◌++◌, length, map, take, replicate, refl}
use Rattle.std.specs.List.{concat, flat_map, sum_by}
use Rattle.std.proofs.Common.{ap, sym, ◌∙◌, append_assoc, append-nil, length-append, arith}
use Rattle.std.proofs.lemmas.List.{length-map, length-replicate}
use Rattle.std.proofs.lemmas.List.Sums.{sum_by-cons}
use Rattle.cdf_write.specs.Spelling.{word, signed_word, gap, padded_length, padded, name_field, element_list, attribute, int_attribute, padded_values}

-- WORDS

pub length-flat_map : {X : Type 0} → (f : X → List ℕ) (g : X → ℕ) (xs : List X) → ((x : X) → length (f x) ≡ g x) → length (flat_map f xs) ≡ sum_by g xs
length-flat_map f g [] h = refl
length-flat_map f g (x ∷ xs) h =
    let front = length-append (f x) (flat_map f xs) in
    let here = h x in
    let rest = length-flat_map f g xs h in
    let total = sum_by-cons g x xs in
    omega arith

pub length-flat_map_words : {X : Type 0} → (f : X → List ℕ) (xs : List X) → ((x : X) → length (f x) ≡ 4) → length (flat_map f xs) ≡ 4 * length xs
length-flat_map_words f [] h = refl
length-flat_map_words f (x ∷ xs) h =
    let front = length-append (f x) (flat_map f xs) in
    let here = h x in
    let rest = length-flat_map_words f xs h in
    omega arith

pub gap_few : (n : ℕ) → gap n < 4
gap_few n = omega arith

pub gap_none : (n m : ℕ) → n ≡ 4 * m → gap n ≡ 0
gap_none n m h = omega arith

-- whole words need no padding
pub padded_whole : (bytes : List ℕ) (m : ℕ) → length bytes ≡ 4 * m → padded bytes ≡ bytes
padded_whole bytes m h = ap (λ n. bytes ++ replicate n 0) (gap_none (length bytes) m h) ∙ append-nil bytes

pub length-padded : (bytes : List ℕ) → length (padded bytes) ≡ padded_length (length bytes)
length-padded bytes =
    length-append bytes (replicate (gap (length bytes)) 0) ∙ ap (λ n. length bytes + n) (length-replicate (gap (length bytes)) 0)

pub length-name_field : (name : List ℕ) → length (name_field name) ≡ 4 + padded_length (length name)
length-name_field name = length-append (word (length name)) (padded name) ∙ ap (λ n. 4 + n) (length-padded name)

-- ATTRIBUTES

pub length-attribute : (name : List ℕ) (kind count : ℕ) (values : List ℕ)
    → length (attribute name kind count values) ≡ 12 + padded_length (length name) + padded_length (length values)
length-attribute name kind count values =
    let field = length-name_field name in
    let one = length-append (name_field name) (word kind) in
    let two = length-append (name_field name ++ word kind) (word count) in
    let three = length-append (name_field name ++ word kind ++ word count) (padded values) in
    let last = length-padded values in
    omega arith

pub int_attribute_is : (name : List ℕ) (values : List ℤ)
    → int_attribute name values ≡ name_field name ++ word 4 ++ word (length values) ++ flat_map signed_word values
int_attribute_is name values =
    ap (λ bytes. name_field name ++ word 4 ++ word (length values) ++ bytes)
    (padded_whole (flat_map signed_word values) (length values) (length-flat_map_words signed_word values (λ _. refl)))

pub int_attribute-map : {X : Type 0} → (name : List ℕ) (f : X → ℤ) (xs : List X)
    → int_attribute name (map f xs) ≡ name_field name ++ word 4 ++ word (length xs) ++ flat_map signed_word (map f xs)
int_attribute-map name f xs =
    int_attribute_is name (map f xs) ∙ ap (λ n. name_field name ++ word 4 ++ word n ++ flat_map signed_word (map f xs)) (length-map xs f)

pub length-int_attribute : {X : Type 0} → (name : List ℕ) (f : X → ℤ) (xs : List X)
    → length (int_attribute name (map f xs)) ≡ 12 + padded_length (length name) + 4 * length xs
length-int_attribute name f xs =
    let spelled = ap length (int_attribute-map name f xs) in
    let field = length-name_field name in
    let one = length-append (name_field name) (word 4) in
    let two = length-append (name_field name ++ word 4) (word (length xs)) in
    let three = length-append (name_field name ++ word 4 ++ word (length xs)) (flat_map signed_word (map f xs)) in
    let numbers = length-flat_map_words signed_word (map f xs) (λ _. refl) in
    let count = length-map xs f in
    omega arith

-- LISTS OF ELEMENTS

pub concat-append : (xss yss : List (List ℕ)) → concat (xss ++ yss) ≡ concat xss ++ concat yss
concat-append [] yss = refl
concat-append (xs ∷ xss) yss = ap (λ rest. xs ++ rest) (concat-append xss yss) ∙ sym (append_assoc xs (concat xss) (concat yss))

pub concat-map : {X : Type 0} → (f : X → List ℕ) (xs : List X) → concat (map f xs) ≡ flat_map f xs
concat-map f [] = refl
concat-map f (x ∷ xs) = ap (λ rest. f x ++ rest) (concat-map f xs)

pub length-concat : (xss : List (List ℕ)) → length (concat xss) ≡ sum_by length xss
length-concat [] = refl
length-concat (xs ∷ xss) =
    let front = length-append xs (concat xss) in
    let rest = length-concat xss in
    let total = sum_by-cons (λ (ys : List ℕ). length ys) xs xss in
    omega arith

pub length-concat-append : (xss yss : List (List ℕ)) → length (concat (xss ++ yss)) ≡ length (concat xss) + length (concat yss)
length-concat-append xss yss = ap length (concat-append xss yss) ∙ length-append (concat xss) (concat yss)

pub length-element_list : (tag : ℕ) (elements : List (List ℕ)) → length (element_list tag elements) ≡ 8 + length (concat elements)
length-element_list tag elements = length-append (word tag ++ word (length elements)) (concat elements)

-- a list of fixed elements and further ones
pub element_list-append : {X : Type 0} → (tag n : ℕ) (front : List (List ℕ)) (f : X → List ℕ) (xs : List X) → length front ≡ n
    → element_list tag (front ++ map f xs) ≡ word tag ++ word (length xs + n) ++ concat front ++ flat_map f xs
element_list-append tag n front f xs h =
    let count : length (front ++ map f xs) ≡ length xs + n = (let both = length-append front (map f xs) in let more = length-map xs f in omega arith) in
    let content : concat (front ++ map f xs) ≡ concat front ++ flat_map f xs =
    concat-append front (map f xs) ∙ ap (λ rest. concat front ++ rest) (concat-map f xs) in
    ap (λ m. word tag ++ word m ++ concat (front ++ map f xs)) count
    ∙ ap (λ rest. word tag ++ word (length xs + n) ++ rest) content
    ∙ sym (append_assoc (word tag ++ word (length xs + n)) (concat front) (flat_map f xs))

-- TEXTS

-- the fill of a text is zeros
pub take_zeros : (n : ℕ) → n < 4 → take {A = ℕ} n (0 ∷ 0 ∷ 0 ∷ []) ≡ replicate n 0
take_zeros zero h = refl
take_zeros (suc zero) h = refl
take_zeros (suc (suc zero)) h = refl
take_zeros (suc (suc (suc zero))) h = refl
take_zeros (suc (suc (suc (suc n)))) h = absurd (omega arith)

-- a text with zeros has the length of its room
pub length_in_room : (text : List ℕ) (room : ℕ) → length text ≤ room → length (text ++ replicate (room - length text) 0) ≡ room
length_in_room text room h =
    let both = length-append text (replicate (room - length text) 0) in
    let zeros : length (replicate {A = ℕ} (room - length text) 0) ≡ room - length text = length-replicate (room - length text) 0 in
    omega arith

pub padded_text : (text : List ℕ) (room : ℕ) → length text ≤ room
    → padded_values 2 (text ++ replicate (room - length text) 0) ≡ text ++ replicate (room - length text) 0 ++ replicate (gap room) 0
padded_text text room h =
    let whole = text ++ replicate (room - length text) 0 in
    ap (λ n. whole ++ take (gap n) (0 ∷ 0 ∷ 0 ∷ [])) (length_in_room text room h) ∙ ap (λ rest. whole ++ rest) (take_zeros (gap room) (gap_few room))
