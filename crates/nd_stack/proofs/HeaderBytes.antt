-- The values of a header's attributes are bytes of the file.
use Rattle.std.proofs.Common.{◌≡◌, ◌<◌, ℕ, List, [], ◌∷◌, ◌++◌, length, take, drop, ap, ◌∙◌, subst, refl}
use Rattle.std.specs.Prelude.{All}
use Rattle.std.proofs.lemmas.List.{take_at, drop_at}
use Rattle.std.proofs.lemmas.List.Elements.{All-nil, All-cons, All-take, All-drop}
use Rattle.nd_base.specs.SampleLaws.{AreBytes}
use Rattle.cdf_read.specs.declared.head.HeadAttr.{HeadAttr}
use Rattle.cdf_read.specs.declared.head.HeadDim.{HeadDim}
use Rattle.cdf_read.specs.declared.head.Header.{Header}
use Rattle.cdf_read.specs.Fields.{IsWord, magic}
use Rattle.cdf_read.specs.Grammar.{AreMany, IsAttr, IsDim, IsList, IsName, IsPadded, Reads}

front : (text after before : List ℕ) → before ≡ text ++ after → AreBytes before → AreBytes text
front text after before is bytes =
    subst AreBytes (ap (take (length text)) is ∙ take_at text after (length text) refl) (All-take (λ b. b < 256) (length text) before bytes)

back : (text after before : List ℕ) → before ≡ text ++ after → AreBytes before → AreBytes after
back text after before is bytes =
    subst AreBytes (ap (drop (length text)) is ∙ drop_at text after (length text) refl) (All-drop (λ b. b < 256) (length text) before bytes)

-- the bytes after each field
word : (number : ℕ) (before after : List ℕ) → IsWord number before after → AreBytes before → AreBytes after
word number before after h bytes = back h.text after before h.whole bytes

padded : (text before after : List ℕ) → IsPadded text before after → AreBytes before → AreBytes text × AreBytes after
padded text before after h bytes =
    (front text h.at_padding before h.bytes bytes, back h.pad.text after h.at_padding h.pad.whole (back text h.at_padding before h.bytes bytes))

name : (text before after : List ℕ) → IsName text before after → AreBytes before → AreBytes after
name text before after h bytes = (padded text h.at_text after h.text (word (length text) before h.at_text h.count.word bytes)).1

dim : (earlier : List HeadDim) (d : HeadDim) (before after : List ℕ) → IsDim earlier d before after → AreBytes before → Unit {0} × AreBytes after
dim earlier d before after h bytes = (tt, word d.length h.at_length after h.size.word (name d.name before h.at_length h.name bytes))

attr : (earlier : List HeadAttr) (a : HeadAttr) (before after : List ℕ) → IsAttr a before after → AreBytes before → AreBytes a.values × AreBytes after
attr earlier a before after h bytes =
    padded a.values h.at_values after h.bytes
    (word a.count h.at_count h.at_values h.count.word (word a.kind h.at_kind h.at_count h.kind.word (name a.name before h.at_kind h.name bytes)))

-- what each element gives and passes on, all of them do
each_passes : {A : Type 0} (Is : List A → A → List ℕ → List ℕ → Type 0) (P : A → Type 0)
    → ((earlier : List A) (x : A) (before after : List ℕ) → Is earlier x before after → AreBytes before → P x × AreBytes after) →
    (earlier xs : List A) (before after : List ℕ) → AreMany Is earlier xs before after → AreBytes before → All P xs × AreBytes after
each_passes Is P each earlier [] before after h bytes = (All-nil P, subst AreBytes h bytes)
each_passes Is P each earlier (x ∷ xs) before after h bytes =
    let one = each earlier x before h.0 h.1 bytes in
    let others = each_passes Is P each (earlier ++ x ∷ []) xs h.0 after h.2 one.1 in
    (All-cons P x xs one.0 others.0, others.1)

list_passes : {A : Type 0} (tag : ℕ) (Is : List A → A → List ℕ → List ℕ → Type 0) (P : A → Type 0)
    → ((earlier : List A) (x : A) (before after : List ℕ) → Is earlier x before after → AreBytes before → P x × AreBytes after) →
    (xs : List A) (before after : List ℕ) → IsList tag Is xs before after → AreBytes before → All P xs × AreBytes after
list_passes tag Is P each xs before after h bytes =
    let at_count = word h.1.first before h.1.at_count h.1.tag_word bytes in
    each_passes Is P each [] xs h.0 after h.2 (word (length xs) h.1.at_count h.0 h.1.number.word at_count)

pub Reads-values : (bytes : List ℕ) (h : Header) → Reads bytes h → AreBytes bytes → All (λ a. AreBytes a.values) h.gatts
Reads-values bytes h reads are =
    let head = reads.header in
    let at_numrecs = back (magic reads.form) head.at_numrecs bytes head.magic_text are in
    let at_dims = word reads.numrecs head.at_numrecs head.at_dims head.numrecs_word.word at_numrecs in
    let at_gatts = (list_passes 10 IsDim (λ d. Unit {0}) dim h.dims head.at_dims head.at_gatts head.dims at_dims).1 in
    (list_passes 12 (λ earlier. IsAttr) (λ (a : HeadAttr). AreBytes a.values) attr h.gatts head.at_gatts head.at_vars head.gatts at_gatts).0
