-- What is read is spelled so, and what is spelled so is read: reading and the grammar are one.
use Rattle.std.specs.Prelude.{◌≡◌, ◌≢◌, ℕ, zero, suc, ◌*◌, ◌≤◌, List, [], ◌∷◌, ◌++◌, length, take, drop, Option, Some, None, Result, Ok, Err, ok_or, Bool}
use Rattle.std.specs.Prelude.{true, false, ◌==◌, ◌||◌, ◌&&◌, nat_lt, nat_le, if◌then◌else◌, All, ◌⊎◌, refl}
use Rattle.std.specs.Bool.{Decides}
use Rattle.std.specs.Int.{w32, from_be_bytes}
use Rattle.std.specs.List.{list_all}
use Rattle.std.specs.Str.{bytes_eq, is_utf8}
use Rattle.std.proofs.Common.{get_or, ap, sym, subst, ◌∙◌, arith, inl, inr, append_assoc, length-append}
use Rattle.std.proofs.lemmas.Bool.{ltb-true, ltb-false, lt-ltb, le-ltb, leb-true, le-leb}
use Rattle.std.proofs.lemmas.Bool.Decides.{nat_tests, Decides-by_and}
use Rattle.std.proofs.lemmas.Slice.Eq.{bytes_eq-Decides}
use Rattle.std.proofs.lemmas.Str.{IsUtf8-from_is_utf8, is_utf8-from_IsUtf8}
use Rattle.std.proofs.lemmas.List.{take_at, take-append-drop, length-take-le, length-drop, append-nil}
use Rattle.nd_base.specs.declared.form.Form.{Form}
use Rattle.nd_base.specs.declared.form.Form.TheVariants.{Classic, Wide}
use Rattle.cdf_read.specs.declared.fault.CdfFault.{CdfFault}
use Rattle.cdf_read.specs.declared.fault.CdfFault.TheVariants.{Magic, Short, Tag, Negative, NameText, NameLength, DimNumber, TwoRecordDims, ValueType}
use Rattle.cdf_read.specs.declared.fault.CdfFault.TheVariants.{RecordDimNotFirst, Overflow}
use Rattle.cdf_read.specs.declared.head.HeadDim.{HeadDim}
use Rattle.cdf_read.specs.declared.head.HeadAttr.{HeadAttr}
use Rattle.cdf_read.specs.declared.head.HeadVar.{HeadVar}
use Rattle.cdf_read.specs.declared.head.Header.{Header}
use Rattle.cdf_read.specs.Fields.{magic, place, IsFixed, IsFree, IsWord, padded, padding}
use Rattle.cdf_read.specs.FieldReading.{free_in, word_in, double_word_in}
use Rattle.cdf_read.specs.FieldLaws.{free-found, free-again, word-found, word-again, double_word-found, double_word-again}
use Rattle.cdf_read.specs.Places.{dim_length, value_size, size_of, values_end, streaming, header_with}
use Rattle.cdf_read.specs.PlaceLaws.{position-none, position-None}
use Rattle.cdf_read.specs.Grammar.{IsNumber, IsWideBegin, IsBegin, IsKind, IsPadded, IsName, AreMany, IsListHead, IsList, IsDim, IsAttr, IsDimNumber, IsVar}
use Rattle.cdf_read.specs.Grammar.{IsNumrecs, Reads}
use Rattle.cdf_read.specs.HeaderReading.{◌>>=◌, need, word_at, number_at, wide_begin_at, begin_at, kind_at, padded_at, name_at, list_head_at, many_at, dim_at}
use Rattle.cdf_read.specs.HeaderReading.{dims_at, attr_at, attrs_at, dim_number_at, dim_numbers_at, var_at, vars_at, numrecs_at, form_of, magic_at, short_var}
use Rattle.cdf_read.specs.HeaderReading.{data_fault, header_of, Faults}

pub bind_ok : {A B : Type 0} (read : Result A CdfFault) (next : A → Result B CdfFault) (y : B) → (read >>= next) ≡ Ok y
    → (x : A) × (read ≡ Ok x) × (next x ≡ Ok y)
bind_ok (Ok x) next y e = (x, refl, e)
bind_ok (Err fault) next y e = absurd (cc)

ok_same : {A : Type 0} (x y : A) → ◌≡◌ {A = Result A CdfFault} (Ok x) (Ok y) → x ≡ y
ok_same x y e = cc

pub bind_to : {A B : Type 0} (read : Result A CdfFault) (next : A → Result B CdfFault) (x : A) (y : Result B CdfFault) → read ≡ Ok x → next x ≡ y
    → (read >>= next) ≡ y
bind_to read next x y e h = ap (λ m. m >>= next) e ∙ h

pub need_ok : (b : Bool) (fault : CdfFault) (u : Unit {0}) → need b fault ≡ Ok u → b ≡ true
need_ok true fault u e = refl
need_ok false fault u e = absurd (cc)

pub need_to : (b : Bool) (fault : CdfFault) → b ≡ true → need b fault ≡ Ok tt
need_to b fault e = rw e refl

pub present : {A : Type 0} (o : Option A) (fault : CdfFault) (x : A) → ok_or o fault ≡ Ok x → o ≡ Some x
present (Some y) fault x e = let same : y ≡ x = cc in ap Some same
present None fault x e = absurd (cc)

pub present_to : {A : Type 0} (o : Option A) (fault : CdfFault) (x : A) → o ≡ Some x → ◌≡◌ {A = Result A CdfFault} (ok_or o fault) (Ok x)
present_to o fault x e = ap (λ m. ok_or m fault) e

pub word_at-found : (total : ℕ) (before : List ℕ) (r : ℕ × List ℕ) → word_at total before ≡ Ok r → IsWord r.0 before r.1
word_at-found total before r e = word-found before r (present (word_in before) _ r e)

pub word_at-again : (total number : ℕ) (before after : List ℕ) → IsWord number before after → word_at total before ≡ Ok (number, after)
word_at-again total number before after h = present_to (word_in before) _ (number, after) (word-again number before after h)

pub number_at-found : (total : ℕ) (before : List ℕ) (r : ℕ × List ℕ) → number_at total before ≡ Ok r → IsNumber r.0 before r.1
unfolding number_at
number_at-found total before r e =
    let a = bind_ok (word_at total before) _ r e in
    let b = bind_ok (need (nat_le a.0.0 2147483647) (Negative (place total before))) _ r a.2 in
    let test = need_ok (nat_le a.0.0 2147483647) _ b.0 b.1 in
    let same : a.0 ≡ r = cc in
    subst (λ (q : ℕ × List ℕ). IsNumber q.0 before q.1) same (record { word = word_at-found total before a.0 a.1; positive = grind (arith, nat_tests, test) })

pub number_at-again : (total number : ℕ) (before after : List ℕ) → IsNumber number before after → number_at total before ≡ Ok (number, after)
unfolding number_at
number_at-again total number before after h =
    let test : nat_le number 2147483647 ≡ true = grind (arith, nat_tests, h.positive) in
    bind_to (word_at total before) _ (number, after) _ (word_at-again total number before after h.word)
    (bind_to (need (nat_le number 2147483647) (Negative (place total before))) _ tt _ (need_to _ _ test) refl)

pub wide_begin_at-found : (total : ℕ) (before : List ℕ) (r : ℕ × List ℕ) → wide_begin_at total before ≡ Ok r → IsWideBegin r.0 before r.1
unfolding wide_begin_at
wide_begin_at-found total before r e =
    let a = bind_ok (ok_or (double_word_in before) (Short (place total before))) _ r e in
    let b = bind_ok (need (nat_le a.0.0 9223372036854775807) (Negative (place total before))) _ r a.2 in
    let test = need_ok (nat_le a.0.0 9223372036854775807) _ b.0 b.1 in
    let same : a.0 ≡ r = cc in
    subst (λ (q : ℕ × List ℕ). IsWideBegin q.0 before q.1) same
    (record { word = double_word-found before a.0 (present (double_word_in before) _ a.0 a.1); positive = leb-true a.0.0 9223372036854775807 test })

pub wide_begin_at-again : (total begin : ℕ) (before after : List ℕ) → IsWideBegin begin before after → wide_begin_at total before ≡ Ok (begin, after)
unfolding wide_begin_at
wide_begin_at-again total begin before after h =
    bind_to (ok_or (double_word_in before) (Short (place total before))) _ (begin, after) _
    (present_to (double_word_in before) _ (begin, after) (double_word-again begin before after h.word))
    (bind_to (need (nat_le begin 9223372036854775807) (Negative (place total before))) _ tt _ (need_to _ _ (le-leb begin 9223372036854775807 h.positive)) refl)

pub begin_at-found : (form : Form) (total : ℕ) (before : List ℕ) (r : ℕ × List ℕ) → begin_at form total before ≡ Ok r → IsBegin form r.0 before r.1
begin_at-found Classic total before r e = number_at-found total before r e
begin_at-found Wide total before r e = wide_begin_at-found total before r e

pub begin_at-again : (form : Form) (total begin : ℕ) (before after : List ℕ) → IsBegin form begin before after → begin_at form total before ≡ Ok (begin, after)
begin_at-again Classic total begin before after h = number_at-again total begin before after h
begin_at-again Wide total begin before after h = wide_begin_at-again total begin before after h

pub kind_at-found : (total : ℕ) (before : List ℕ) (r : ℕ × List ℕ) → kind_at total before ≡ Ok r → IsKind r.0 before r.1
unfolding kind_at
kind_at-found total before r e =
    let a = bind_ok (word_at total before) _ r e in
    let b = bind_ok (need (nat_le 1 a.0.0 && nat_le a.0.0 6) (ValueType (place total before))) _ r a.2 in
    let test = need_ok (nat_le 1 a.0.0 && nat_le a.0.0 6) _ b.0 b.1 in
    let same : a.0 ≡ r = cc in
    subst (λ (q : ℕ × List ℕ). IsKind q.0 before q.1) same
    (record { word = word_at-found total before a.0 a.1; least = grind (arith, nat_tests, test); most = grind (arith, nat_tests, test) })

pub kind_at-again : (total kind : ℕ) (before after : List ℕ) → IsKind kind before after → kind_at total before ≡ Ok (kind, after)
unfolding kind_at
kind_at-again total kind before after h =
    let test : (nat_le 1 kind && nat_le kind 6) ≡ true = grind (arith, nat_tests, h.least, h.most) in
    bind_to (word_at total before) _ (kind, after) _ (word_at-again total kind before after h.word)
    (bind_to (need (nat_le 1 kind && nat_le kind 6) (ValueType (place total before))) _ tt _ (need_to _ _ test) refl)

padded-le : (count : ℕ) → count ≤ padded count
padded-le count = omega arith

pub padded_at-found : (total count : ℕ) (before : List ℕ) (r : List ℕ × List ℕ) → padded_at total count before ≡ Ok r
    → IsPadded r.0 before r.1 × (length r.0 ≡ count)
unfolding padded_at
padded_at-found total count before r e =
    let a = bind_ok (ok_or (free_in (padded count) before) (Short (place total before))) _ r e in
    let field = a.0.0 in
    let f = free-found (padded count) before a.0 (present (free_in (padded count) before) _ a.0 a.1) in
    let size : length (take count field) ≡ count = length-take-le count field (omega (arith, f.1, padded-le count)) in
    let rest : length (drop count field) ≡ padding (length (take count field)) = rw size (omega (arith, length-drop count field, f.1, padded-le count)) in
    let same : (take count field, a.0.1) ≡ r = cc in
    subst (λ (q : List ℕ × List ℕ). IsPadded q.0 before q.1 × (length q.0 ≡ count)) same (
      record {
        at_padding = drop count field ++ a.0.1;
        bytes = f.0 ∙ ap (λ t. t ++ a.0.1) (sym (take-append-drop count field)) ∙ append_assoc (take count field) (drop count field) a.0.1;
        pad = record { text = drop count field; whole = refl; size = rest };
      },
      size,
    )

pub padded_at-again : (total : ℕ) (text before after : List ℕ) → IsPadded text before after → padded_at total (length text) before ≡ Ok (text, after)
unfolding padded_at
padded_at-again total text before after h =
    let count : ℕ = length text in
    let pad : List ℕ = h.pad.text in
    let whole : before ≡ (text ++ pad) ++ after = h.bytes ∙ ap (λ t. text ++ t) h.pad.whole ∙ sym (append_assoc text pad after) in
    let size : length (text ++ pad) ≡ padded count = omega (arith, length-append text pad, h.pad.size, padded-le count) in
    let field : free_in (padded count) before ≡ Some (text ++ pad, after) = ap (free_in (padded count)) whole
    ∙ free-again (padded count) (text ++ pad) after size in
    bind_to (ok_or (free_in (padded count) before) (Short (place total before))) _ (text ++ pad, after) _
    (present_to (free_in (padded count) before) _ (text ++ pad, after) field)
    (ap (λ t. Ok (t, after)) (take_at text pad count refl))

pub name_at-found : (total : ℕ) (before : List ℕ) (r : List ℕ × List ℕ) → name_at total before ≡ Ok r → IsName r.0 before r.1
unfolding name_at
name_at-found total before r e =
    let a = bind_ok (number_at total before) _ r e in
    let b = bind_ok (need (nat_le 1 a.0.0 && nat_le a.0.0 1024) (NameLength (place total before))) _ r a.2 in
    let c = bind_ok (padded_at total a.0.0 a.0.1) _ r b.2 in
    let d = bind_ok (need (is_utf8 c.0.0) (NameText (place total a.0.1))) _ r c.2 in
    let test = need_ok (nat_le 1 a.0.0 && nat_le a.0.0 1024) _ b.0 b.1 in
    let text = padded_at-found total a.0.0 a.0.1 c.0 c.1 in
    let same : c.0 ≡ r = cc in
    subst (λ (q : List ℕ × List ℕ). IsName q.0 before q.1) {x = c.0} same (record {
      at_text = a.0.1;
      count = subst (λ (n : ℕ). IsNumber n before a.0.1) (sym text.1) (number_at-found total before a.0 a.1);
      text = text.0;
      least = subst (λ (n : ℕ). 1 ≤ n) (sym text.1) (grind (arith, nat_tests, test));
      most = subst (λ (n : ℕ). n ≤ 1024) (sym text.1) (grind (arith, nat_tests, test));
      utf8 = IsUtf8-from_is_utf8 c.0.0 (need_ok (is_utf8 c.0.0) _ d.0 d.1);
    })

pub name_at-again : (total : ℕ) (name before after : List ℕ) → IsName name before after → name_at total before ≡ Ok (name, after)
unfolding name_at
name_at-again total name before after h =
    let test : (nat_le 1 (length name) && nat_le (length name) 1024) ≡ true = grind (arith, nat_tests, h.least, h.most) in
    bind_to (number_at total before) _ (length name, h.at_text) _ (number_at-again total (length name) before h.at_text h.count)
    (bind_to (need (nat_le 1 (length name) && nat_le (length name) 1024) (NameLength (place total before))) _ tt _ (need_to _ _ test)
    (bind_to (padded_at total (length name) h.at_text) _ (name, after) _ (padded_at-again total name h.at_text after h.text)
    (bind_to (need (is_utf8 name) (NameText (place total h.at_text))) _ tt _ (need_to _ _ (is_utf8-from_IsUtf8 name h.utf8)) refl)))

pub own-true : (first tag count : ℕ) → ((first == tag) || ((first == 0) && (count == 0))) ≡ true → first ≢ tag → (first ≡ 0) × (count ≡ 0)
own-true first tag count e other = (grind (arith, nat_tests, e, other), grind (arith, nat_tests, e, other))

pub own-from : (first tag count : ℕ) → (first ≢ tag → (first ≡ 0) × (count ≡ 0)) → ((first == tag) || ((first == 0) && (count == 0))) ≡ true
own-from first tag count h = grind (arith, nat_tests, h)

pub list_head_at-found : (total tag : ℕ) (before : List ℕ) (r : ℕ × List ℕ) → list_head_at total tag before ≡ Ok r → IsListHead tag r.0 before r.1
unfolding list_head_at
list_head_at-found total tag before r e =
    let a = bind_ok (word_at total before) _ r e in
    let b = bind_ok (word_at total a.0.1) _ r a.2 in
    let c = bind_ok (need ((a.0.0 == tag) || ((a.0.0 == 0) && (b.0.0 == 0))) (Tag (place total before))) _ r b.2 in
    let d = bind_ok (need (nat_le b.0.0 2147483647) (Negative (place total a.0.1))) _ r c.2 in
    let own = need_ok ((a.0.0 == tag) || ((a.0.0 == 0) && (b.0.0 == 0))) _ c.0 c.1 in
    let test = need_ok (nat_le b.0.0 2147483647) _ d.0 d.1 in
    let same : b.0 ≡ r = cc in
    subst (λ (q : ℕ × List ℕ). IsListHead tag q.0 before q.1) {x = b.0} same (record {
      first = a.0.0;
      at_count = a.0.1;
      tag_word = word_at-found total before a.0 a.1;
      number = record { word = word_at-found total a.0.1 b.0 b.1; positive = grind (arith, nat_tests, test) };
      own = own-true a.0.0 tag b.0.0 own;
    })

pub list_head_at-again : (total tag count : ℕ) (before after : List ℕ) → IsListHead tag count before after → list_head_at total tag before ≡ Ok (count, after)
unfolding list_head_at
list_head_at-again total tag count before after h =
    let test : nat_le count 2147483647 ≡ true = grind (arith, nat_tests, h.number.positive) in
    bind_to (word_at total before) _ (h.first, h.at_count) _ (word_at-again total h.first before h.at_count h.tag_word)
    (bind_to (word_at total h.at_count) _ (count, after) _ (word_at-again total count h.at_count after h.number.word)
    (bind_to (need ((h.first == tag) || ((h.first == 0) && (count == 0))) (Tag (place total before))) _ tt _ (need_to _ _ (own-from h.first tag count h.own))
    (bind_to (need (nat_le count 2147483647) (Negative (place total h.at_count))) _ tt _ (need_to _ _ test) refl)))

pub many_at-found : {A : Type 0} (read : List A → List ℕ → Result (A × List ℕ) CdfFault) (Is : List A → A → List ℕ → List ℕ
    → Type 0) (each : (earlier : List A) (before : List ℕ) (r : A × List ℕ) → read earlier before ≡ Ok r → Is earlier r.0 before r.1)
    (n : ℕ) (earlier : List A) (before : List ℕ) (r : List A × List ℕ) → many_at read n earlier before ≡ Ok r
    → (xs : List A) × (r.0 ≡ earlier ++ xs) × (length xs ≡ n) × AreMany Is earlier xs before r.1
many_at-found read Is each zero earlier before r e =
    let same : (earlier, before) ≡ r = cc in
    ([], sym (ap (λ q. q.0) same) ∙ sym (append-nil earlier), refl, ap (λ q. q.1) same)
many_at-found {A} read Is each (suc n) earlier before r e =
    let a = bind_ok (read earlier before) _ r e in
    let more = many_at-found read Is each n (earlier ++ a.0.0 ∷ []) a.0.1 r a.2 in
    (a.0.0 ∷ more.0, more.1 ∙ append_assoc earlier (a.0.0 ∷ []) more.0, ap suc more.2, (a.0.1, each earlier before a.0 a.1, more.3))

pub many_at-again : {A : Type 0} (read : List A → List ℕ → Result (A × List ℕ) CdfFault) (Is : List A → A → List ℕ → List ℕ
    → Type 0) (each : (earlier : List A) (x : A) (before after : List ℕ) → Is earlier x before after → read earlier before ≡ Ok (x, after))
    (earlier xs : List A) (before after : List ℕ) → AreMany Is earlier xs before after → many_at read (length xs) earlier before ≡ Ok (earlier ++ xs, after)
many_at-again read Is each earlier [] before after h = ap (λ q. Ok (earlier, q)) h ∙ ap (λ xs. Ok (xs, after)) (sym (append-nil earlier))
many_at-again read Is each earlier (x ∷ xs) before after h =
    bind_to (read earlier before) _ (x, h.0) _ (each earlier x before h.0 h.1)
    (many_at-again read Is each (earlier ++ x ∷ []) xs h.0 after h.2 ∙ ap (λ ys. Ok (ys, after)) (append_assoc earlier (x ∷ []) xs))

-- a whole list, its head and its elements
pub list_at-found : {A : Type 0} (total tag : ℕ) (read : List A → List ℕ → Result (A × List ℕ) CdfFault) (Is : List A → A → List ℕ → List ℕ
    → Type 0) (each : (earlier : List A) (before : List ℕ) (r : A × List ℕ) → read earlier before ≡ Ok r → Is earlier r.0 before r.1)
    (before : List ℕ) (r : List A × List ℕ) → (list_head_at total tag before >>= (λ head. many_at read head.0 [] head.1)) ≡ Ok r → IsList tag Is r.0 before r.1
list_at-found {A} total tag read Is each before r e =
    let a = bind_ok (list_head_at total tag before) _ r e in
    let more = many_at-found read Is each a.0.0 [] a.0.1 r a.2 in
    subst (λ (xs : List A). IsList tag Is xs before r.1) (sym more.1)
    (a.0.1, subst (λ (n : ℕ). IsListHead tag n before a.0.1) (sym more.2) (list_head_at-found total tag before a.0 a.1), more.3)

pub list_at-again : {A : Type 0} (total tag : ℕ) (read : List A → List ℕ → Result (A × List ℕ) CdfFault) (Is : List A → A → List ℕ → List ℕ
    → Type 0) (each : (earlier : List A) (x : A) (before after : List ℕ) → Is earlier x before after → read earlier before ≡ Ok (x, after))
    (xs : List A) (before after : List ℕ) → IsList tag Is xs before after
    → (list_head_at total tag before >>= (λ head. many_at read head.0 [] head.1)) ≡ Ok (xs, after)
list_at-again total tag read Is each xs before after h =
    bind_to (list_head_at total tag before) _ (length xs, h.0) _ (list_head_at-again total tag (length xs) before h.0 h.1)
    (many_at-again read Is each [] xs h.0 after h.2)

pub fixed-Decides : (dims : List HeadDim) → Decides (list_all (λ d. nat_lt 0 d.length) dims) (All (λ d. d.length ≢ 0) dims)
fixed-Decides dims =
    Decides-by_and (λ (d : HeadDim). nat_lt 0 d.length) (λ d. d.length ≢ 0) (list_all (λ (d : HeadDim). nat_lt 0 d.length))
    (λ d. (λ e. λ z. grind (arith, nat_tests, e, z), λ h. grind (arith, nat_tests, h))) refl (λ _ _. refl) dims

pub one_record-true : (size : ℕ) (earlier : List HeadDim) → (nat_lt 0 size || list_all (λ d. nat_lt 0 d.length) earlier) ≡ true → size ≡ 0 →
    All (λ d. d.length ≢ 0) earlier
one_record-true zero earlier e z = (fixed-Decides earlier).0 e
one_record-true (suc size) earlier e z = absurd (cc)

pub one_record-from : (size : ℕ) (earlier : List HeadDim) → (size ≡ 0 → All (λ d. d.length ≢ 0) earlier) →
    (nat_lt 0 size || list_all (λ d. nat_lt 0 d.length) earlier) ≡ true
one_record-from zero earlier h = (fixed-Decides earlier).1 (h refl)
one_record-from (suc size) earlier h = grind (arith, nat_tests)

pub dim_at-found : (total : ℕ) (earlier : List HeadDim) (before : List ℕ) (r : HeadDim × List ℕ) → dim_at total earlier before ≡ Ok r
    → IsDim earlier r.0 before r.1
unfolding dim_at
dim_at-found total earlier before r e =
    let a = bind_ok (name_at total before) _ r e in
    let b = bind_ok (number_at total a.0.1) _ r a.2 in
    let c = bind_ok (need (nat_lt 0 b.0.0 || list_all (λ d. nat_lt 0 d.length) earlier) TwoRecordDims) _ r b.2 in
    let one = need_ok (nat_lt 0 b.0.0 || list_all (λ d. nat_lt 0 d.length) earlier) _ c.0 c.1 in
    let found : HeadDim = record { name = a.0.0; length = b.0.0 } in
    let same : (found, b.0.1) ≡ r = cc in
    subst (λ (q : HeadDim × List ℕ). IsDim earlier q.0 before q.1) {x = (found, b.0.1)} same (record {
      at_length = a.0.1;
      name = name_at-found total before a.0 a.1;
      size = number_at-found total a.0.1 b.0 b.1;
      one_record = one_record-true b.0.0 earlier one;
    })

pub dim_at-again : (total : ℕ) (earlier : List HeadDim) (d : HeadDim) (before after : List ℕ) → IsDim earlier d before after
    → dim_at total earlier before ≡ Ok (d, after)
unfolding dim_at
dim_at-again total earlier d before after h =
    bind_to (name_at total before) _ (d.name, h.at_length) _ (name_at-again total d.name before h.at_length h.name)
    (bind_to (number_at total h.at_length) _ (d.length, after) _ (number_at-again total d.length h.at_length after h.size)
    (bind_to (need (nat_lt 0 d.length || list_all (λ e. nat_lt 0 e.length) earlier) TwoRecordDims) _ tt _
    (need_to _ _ (one_record-from d.length earlier h.one_record)) refl))

pub dims_at-found : (total : ℕ) (before : List ℕ) (r : List HeadDim × List ℕ) → dims_at total before ≡ Ok r → IsList 10 IsDim r.0 before r.1
unfolding dims_at
dims_at-found total before r e = list_at-found total 10 (dim_at total) IsDim (dim_at-found total) before r e

pub dims_at-again : (total : ℕ) (dims : List HeadDim) (before after : List ℕ) → IsList 10 IsDim dims before after → dims_at total before ≡ Ok (dims, after)
unfolding dims_at
dims_at-again total dims before after h = list_at-again total 10 (dim_at total) IsDim (dim_at-again total) dims before after h

pub attr_at-found : (total : ℕ) (before : List ℕ) (r : HeadAttr × List ℕ) → attr_at total before ≡ Ok r → IsAttr r.0 before r.1
unfolding attr_at
attr_at-found total before r e =
    let a = bind_ok (name_at total before) _ r e in
    let b = bind_ok (kind_at total a.0.1) _ r a.2 in
    let c = bind_ok (number_at total b.0.1) _ r b.2 in
    let d = bind_ok (padded_at total (c.0.0 * value_size b.0.0) c.0.1) _ r c.2 in
    let values = padded_at-found total (c.0.0 * value_size b.0.0) c.0.1 d.0 d.1 in
    let found : HeadAttr = record { name = a.0.0; kind = b.0.0; count = c.0.0; values = d.0.0 } in
    let same : (found, d.0.1) ≡ r = cc in
    subst (λ (q : HeadAttr × List ℕ). IsAttr q.0 before q.1) {x = (found, d.0.1)} same (record {
      at_kind = a.0.1;
      at_count = b.0.1;
      at_values = c.0.1;
      name = name_at-found total before a.0 a.1;
      kind = kind_at-found total a.0.1 b.0 b.1;
      count = number_at-found total b.0.1 c.0 c.1;
      bytes = values.0;
      size = values.1;
    })

pub attr_at-again : (total : ℕ) (x : HeadAttr) (before after : List ℕ) → IsAttr x before after → attr_at total before ≡ Ok (x, after)
unfolding attr_at
attr_at-again total x before after h =
    bind_to (name_at total before) _ (x.name, h.at_kind) _ (name_at-again total x.name before h.at_kind h.name)
    (bind_to (kind_at total h.at_kind) _ (x.kind, h.at_count) _ (kind_at-again total x.kind h.at_kind h.at_count h.kind)
    (bind_to (number_at total h.at_count) _ (x.count, h.at_values) _ (number_at-again total x.count h.at_count h.at_values h.count)
    (bind_to (padded_at total (x.count * value_size x.kind) h.at_values) _ (x.values, after) _ (ap (λ n. padded_at total n h.at_values) (sym h.size)
    ∙ padded_at-again total x.values h.at_values after h.bytes) refl)))

pub attrs_at-found : (total : ℕ) (before : List ℕ) (r : List HeadAttr × List ℕ) → attrs_at total before ≡ Ok r → IsList 12 (λ earlier. IsAttr) r.0 before r.1
unfolding attrs_at
attrs_at-found total before r e =
    list_at-found total 12 (λ (earlier : List HeadAttr). attr_at total) (λ (earlier : List HeadAttr). IsAttr) (λ earlier. attr_at-found total) before r e

pub attrs_at-again : (total : ℕ) (attrs : List HeadAttr) (before after : List ℕ) → IsList 12 (λ earlier. IsAttr) attrs before after
    → attrs_at total before ≡ Ok (attrs, after)
unfolding attrs_at
attrs_at-again total attrs before after h =
    list_at-again total 12 (λ (earlier : List HeadAttr). attr_at total) (λ (earlier : List HeadAttr). IsAttr)
    (λ earlier. attr_at-again total) attrs before after h

pub first-true : (size : ℕ) (earlier : List ℕ) → (nat_lt 0 size || (length earlier == 0)) ≡ true → size ≡ 0 → earlier ≡ []
first-true zero [] e z = refl
first-true zero (x ∷ earlier) e z = absurd (grind (arith, nat_tests, e))
first-true (suc size) earlier e z = absurd (cc)

pub first-from : (size : ℕ) (earlier : List ℕ) → (size ≡ 0 → earlier ≡ []) → (nat_lt 0 size || (length earlier == 0)) ≡ true
first-from zero earlier h = rw (h refl) refl
first-from (suc size) earlier h = grind (arith, nat_tests)

pub dim_number_at-found : (total : ℕ) (dims : List HeadDim) (var : ℕ) (earlier before : List ℕ) (r : ℕ × List ℕ)
    → dim_number_at total dims var earlier before ≡ Ok r → IsDimNumber dims earlier r.0 before r.1
unfolding dim_number_at
dim_number_at-found total dims var earlier before r e =
    let a = bind_ok (word_at total before) _ r e in
    let b = bind_ok (need (nat_lt a.0.0 (length dims)) (DimNumber (place total before))) _ r a.2 in
    let c = bind_ok (need (nat_lt 0 (dim_length dims a.0.0) || (length earlier == 0)) (RecordDimNotFirst var)) _ r b.2 in
    let known = need_ok (nat_lt a.0.0 (length dims)) _ b.0 b.1 in
    let first = need_ok (nat_lt 0 (dim_length dims a.0.0) || (length earlier == 0)) _ c.0 c.1 in
    let same : a.0 ≡ r = cc in
    subst (λ (q : ℕ × List ℕ). IsDimNumber dims earlier q.0 before q.1) {x = a.0} same (record {
      word = word_at-found total before a.0 a.1;
      known = ltb-true a.0.0 (length dims) known;
      record_first = first-true (dim_length dims a.0.0) earlier first;
    })

pub dim_number_at-again : (total : ℕ) (dims : List HeadDim) (var : ℕ) (earlier : List ℕ) (number : ℕ) (before after : List ℕ)
    → IsDimNumber dims earlier number before after → dim_number_at total dims var earlier before ≡ Ok (number, after)
unfolding dim_number_at
dim_number_at-again total dims var earlier number before after h =
    bind_to (word_at total before) _ (number, after) _ (word_at-again total number before after h.word)
    (bind_to (need (nat_lt number (length dims)) (DimNumber (place total before))) _ tt _ (need_to _ _ (lt-ltb number (length dims) h.known))
    (bind_to (need (nat_lt 0 (dim_length dims number) || (length earlier == 0)) (RecordDimNotFirst var)) _ tt _
    (need_to _ _ (first-from (dim_length dims number) earlier h.record_first)) refl))

pub dim_numbers_at-found : (total : ℕ) (dims : List HeadDim) (var : ℕ) (before : List ℕ) (r : List ℕ × List ℕ)
    → dim_numbers_at total dims var before ≡ Ok r → (next : List ℕ) × IsNumber (length r.0) before next × AreMany (IsDimNumber dims) [] r.0 next r.1
unfolding dim_numbers_at
dim_numbers_at-found total dims var before r e =
    let a = bind_ok (number_at total before) _ r e in
    let more = many_at-found (dim_number_at total dims var) (IsDimNumber dims) (dim_number_at-found total dims var) a.0.0 [] a.0.1 r a.2 in
    subst (λ (xs : List ℕ). (next : List ℕ) × IsNumber (length xs) before next × AreMany (IsDimNumber dims) [] xs next r.1) (sym more.1)
    (a.0.1, subst (λ (n : ℕ). IsNumber n before a.0.1) (sym more.2) (number_at-found total before a.0 a.1), more.3)

pub dim_numbers_at-again : (total : ℕ) (dims : List HeadDim) (var : ℕ) (numbers before next after : List ℕ) → IsNumber (length numbers) before next
    → AreMany (IsDimNumber dims) [] numbers next after → dim_numbers_at total dims var before ≡ Ok (numbers, after)
unfolding dim_numbers_at
dim_numbers_at-again total dims var numbers before next after rank many =
    bind_to (number_at total before) _ (length numbers, next) _ (number_at-again total (length numbers) before next rank)
    (many_at-again (dim_number_at total dims var) (IsDimNumber dims) (dim_number_at-again total dims var) [] numbers next after many)

pub var_at-found : (form : Form) (total : ℕ) (dims : List HeadDim) (var : ℕ) (before : List ℕ) (r : HeadVar × List ℕ) →
    var_at form total dims var before ≡ Ok r → IsVar form dims r.0 before r.1
unfolding var_at
var_at-found form total dims var before r e =
    let a = bind_ok (name_at total before) _ r e in
    let b = bind_ok (dim_numbers_at total dims var a.0.1) _ r a.2 in
    let c = bind_ok (attrs_at total b.0.1) _ r b.2 in
    let d = bind_ok (kind_at total c.0.1) _ r c.2 in
    let f = bind_ok (need (nat_le (size_of dims b.0.0 d.0.0) 4294967296) (Overflow var)) _ r d.2 in
    let g = bind_ok (word_at total d.0.1) _ r f.2 in
    let i = bind_ok (begin_at form total g.0.1) _ r g.2 in
    let numbers = dim_numbers_at-found total dims var a.0.1 b.0 b.1 in
    let vsize = word_at-found total d.0.1 g.0 g.1 in
    let found : HeadVar = record { name = a.0.0; dims = b.0.0; attrs = c.0.0; kind = d.0.0; begin = i.0.0 } in
    let same : (found, i.0.1) ≡ r = ok_same (found, i.0.1) r i.2 in
    subst (λ (q : HeadVar × List ℕ). IsVar form dims q.0 before q.1) {x = (found, i.0.1)} same (record {
      at_rank = a.0.1;
      at_dims = numbers.0;
      at_attrs = b.0.1;
      at_kind = c.0.1;
      at_vsize = d.0.1;
      at_begin = g.0.1;
      name = name_at-found total before a.0 a.1;
      rank = numbers.1;
      numbers = numbers.2;
      attrs = attrs_at-found total b.0.1 c.0 c.1;
      kind = kind_at-found total c.0.1 d.0 d.1;
      within = leb-true (size_of dims b.0.0 d.0.0) 4294967296 (need_ok (nat_le (size_of dims b.0.0 d.0.0) 4294967296) _ f.0 f.1);
      vsize = record { text = vsize.text; whole = vsize.whole; size = vsize.size };
      begin_number = begin_at-found form total g.0.1 i.0 i.1;
    })

free_word-again : (total : ℕ) (before after : List ℕ) (h : IsFree 4 before after) → word_at total before ≡ Ok (from_be_bytes w32 h.text, after)
free_word-again total before after h =
    word_at-again total (from_be_bytes w32 h.text) before after (record { text = h.text; whole = h.whole; size = h.size; spells = refl })

pub var_at-again : (form : Form) (total : ℕ) (dims : List HeadDim) (var : ℕ) (v : HeadVar) (before after : List ℕ) → IsVar form dims v before after →
    var_at form total dims var before ≡ Ok (v, after)
unfolding var_at
var_at-again form total dims var v before after h =
    bind_to (name_at total before) _ (v.name, h.at_rank) _ (name_at-again total v.name before h.at_rank h.name)
    (bind_to (dim_numbers_at total dims var h.at_rank) _ (v.dims, h.at_attrs) _
    (dim_numbers_at-again total dims var v.dims h.at_rank h.at_dims h.at_attrs h.rank h.numbers)
    (bind_to (attrs_at total h.at_attrs) _ (v.attrs, h.at_kind) _ (attrs_at-again total v.attrs h.at_attrs h.at_kind h.attrs)
    (bind_to (kind_at total h.at_kind) _ (v.kind, h.at_vsize) _ (kind_at-again total v.kind h.at_kind h.at_vsize h.kind)
    (bind_to (need (nat_le (size_of dims v.dims v.kind) 4294967296) (Overflow var)) _ tt _
    (need_to _ _ (le-leb (size_of dims v.dims v.kind) 4294967296 h.within))
    (bind_to (word_at total h.at_vsize) _ (from_be_bytes w32 h.vsize.text, h.at_begin) _ (free_word-again total h.at_vsize h.at_begin h.vsize)
    (bind_to (begin_at form total h.at_begin) _ (v.begin, after) _ (begin_at-again form total v.begin h.at_begin after h.begin_number) refl))))))

pub vars_at-found : (form : Form) (total : ℕ) (dims : List HeadDim) (before : List ℕ) (r : List HeadVar × List ℕ) → vars_at form total dims before ≡ Ok r →
    IsList 11 (λ earlier. IsVar form dims) r.0 before r.1
unfolding vars_at
vars_at-found form total dims before r e = list_at-found total 11 (λ (earlier : List HeadVar). var_at form total dims (length earlier))
    (λ (earlier : List HeadVar). IsVar form dims) (λ earlier. var_at-found form total dims (length earlier)) before r e

pub vars_at-again : (form : Form) (total : ℕ) (dims : List HeadDim) (vars : List HeadVar) (before after : List ℕ) →
    IsList 11 (λ earlier. IsVar form dims) vars before after → vars_at form total dims before ≡ Ok (vars, after)
unfolding vars_at
vars_at-again form total dims vars before after h = list_at-again total 11 (λ (earlier : List HeadVar). var_at form total dims (length earlier))
    (λ (earlier : List HeadVar). IsVar form dims) (λ earlier. var_at-again form total dims (length earlier)) vars before after h

pub counted-true : (numrecs : ℕ) → ((numrecs == streaming) || nat_le numrecs 2147483647) ≡ true → numrecs ≢ streaming → numrecs ≤ 2147483647
counted-true numrecs e other = grind (arith, nat_tests, e, other)

pub counted-from : (numrecs : ℕ) → (numrecs ≢ streaming → numrecs ≤ 2147483647) → ((numrecs == streaming) || nat_le numrecs 2147483647) ≡ true
counted-from numrecs h = grind (arith, nat_tests, h)

pub numrecs_at-found : (total : ℕ) (before : List ℕ) (r : ℕ × List ℕ) → numrecs_at total before ≡ Ok r → IsNumrecs r.0 before r.1
unfolding numrecs_at
numrecs_at-found total before r e =
    let a = bind_ok (word_at total before) _ r e in
    let b = bind_ok (need ((a.0.0 == streaming) || nat_le a.0.0 2147483647) (Negative (place total before))) _ r a.2 in
    let test = need_ok ((a.0.0 == streaming) || nat_le a.0.0 2147483647) _ b.0 b.1 in
    let same : a.0 ≡ r = cc in
    subst (λ (q : ℕ × List ℕ). IsNumrecs q.0 before q.1) {x = a.0} same
    (record { word = word_at-found total before a.0 a.1; counted = counted-true a.0.0 test })

pub numrecs_at-again : (total numrecs : ℕ) (before after : List ℕ) → IsNumrecs numrecs before after → numrecs_at total before ≡ Ok (numrecs, after)
unfolding numrecs_at
numrecs_at-again total numrecs before after h =
    bind_to (word_at total before) _ (numrecs, after) _ (word_at-again total numrecs before after h.word)
    (bind_to (need ((numrecs == streaming) || nat_le numrecs 2147483647) (Negative (place total before))) _ tt _
    (need_to _ _ (counted-from numrecs h.counted)) refl)

pub form_of-found : (text : List ℕ) (form : Form) → form_of text ≡ Some form → text ≡ magic form
form_of-found text form e = found (bytes_eq text (magic Classic)) (bytes_eq text (magic Wide)) refl refl e
  where
    found : (classic wide : Bool) → bytes_eq text (magic Classic) ≡ classic → bytes_eq text (magic Wide) ≡ wide →
        (if classic then Some Classic else (if wide then Some Wide else None)) ≡ Some form → text ≡ magic form
    found true wide c w is = let same : Classic ≡ form = cc in (bytes_eq-Decides text (magic Classic)).0 c ∙ ap magic same
    found false true c w is = let same : Wide ≡ form = cc in (bytes_eq-Decides text (magic Wide)).0 w ∙ ap magic same
    found false false c w is = absurd (cc)

pub form_of-magic : (form : Form) → form_of (magic form) ≡ Some form
form_of-magic Classic = refl
form_of-magic Wide = refl

four_bytes : (form : Form) → length (magic form) ≡ 4
four_bytes Classic = refl
four_bytes Wide = refl

pub magic_at-found : (before : List ℕ) (r : Form × List ℕ) → magic_at before ≡ Ok r → IsFixed (magic r.0) before r.1
unfolding magic_at
magic_at-found before r e =
    let a = bind_ok (ok_or (free_in 4 before) (Short 0)) _ r e in
    let b = bind_ok (ok_or (form_of a.0.0) Magic) _ r a.2 in
    let f = free-found 4 before a.0 (present (free_in 4 before) _ a.0 a.1) in
    let own : a.0.0 ≡ magic b.0 = form_of-found a.0.0 b.0 (present (form_of a.0.0) _ b.0 b.1) in
    let same : (b.0, a.0.1) ≡ r = ok_same (b.0, a.0.1) r b.2 in
    subst (λ (q : Form × List ℕ). IsFixed (magic q.0) before q.1) {x = (b.0, a.0.1)} same (f.0 ∙ ap (λ (t : List ℕ). t ++ a.0.1) own)

pub magic_at-again : (form : Form) (before after : List ℕ) → IsFixed (magic form) before after → magic_at before ≡ Ok (form, after)
unfolding magic_at
magic_at-again form before after h =
    let field : free_in 4 before ≡ Some (magic form, after) = ap (free_in 4) h ∙ free-again 4 (magic form) after (four_bytes form) in
    bind_to (ok_or (free_in 4 before) (Short 0)) _ (magic form, after) _ (present_to (free_in 4 before) _ (magic form, after) field)
    (bind_to (ok_or (form_of (magic form)) Magic) _ form _ (present_to (form_of (magic form)) _ form (form_of-magic form)) refl)

data-ok : (o : Option ℕ) (u : Unit {0}) → data_fault o ≡ Ok u → o ≡ None
data-ok None u e = refl
data-ok (Some var) u e = absurd (cc)

whole-true : (total : ℕ) (h : Header) → short_var total h ≡ None → All (λ v. values_end h v ≤ total) h.vars
whole-true total h e = λ k d within. ltb-false total (values_end h (get_or h.vars k d)) (position-None (λ v. nat_lt total (values_end h v)) h.vars e k d within)

whole-from : (total : ℕ) (h : Header) → All (λ v. values_end h v ≤ total) h.vars → short_var total h ≡ None
whole-from total h all =
    position-none (λ v. nat_lt total (values_end h v)) h.vars (λ k d within. le-ltb total (values_end h (get_or h.vars k d)) (all k d within))

-- what is read is a header of the file
pub header_of-found : (bytes : List ℕ) (h : Header) → header_of bytes ≡ Ok h → Reads bytes h
unfolding header_of
header_of-found bytes h e =
    let total : ℕ = length bytes in
    let a = bind_ok (magic_at bytes) _ h e in
    let b = bind_ok (numrecs_at total a.0.1) _ h a.2 in
    let c = bind_ok (dims_at total b.0.1) _ h b.2 in
    let d = bind_ok (attrs_at total c.0.1) _ h c.2 in
    let f = bind_ok (vars_at a.0.0 total c.0.0 d.0.1) _ h d.2 in
    let found : Header = header_with total b.0.0 c.0.0 d.0.0 f.0.0 in
    let g = bind_ok (data_fault (short_var total found)) _ h f.2 in
    let same : found ≡ h = ok_same found h g.2 in
    subst (Reads bytes) same (record {
      form = a.0.0;
      numrecs = b.0.0;
      after = f.0.1;
      header = record {
        at_numrecs = a.0.1;
        at_dims = b.0.1;
        at_gatts = c.0.1;
        at_vars = d.0.1;
        magic_text = magic_at-found bytes a.0 a.1;
        numrecs_word = numrecs_at-found total a.0.1 b.0 b.1;
        dims = dims_at-found total b.0.1 c.0 c.1;
        gatts = attrs_at-found total c.0.1 d.0 d.1;
        vars = vars_at-found a.0.0 total c.0.0 d.0.1 f.0 f.1;
      };
      recsize = refl;
      records = refl;
      whole = whole-true total found (data-ok (short_var total found) g.0 g.1);
    })

-- a header of the file is read
pub header_of-again : (bytes : List ℕ) (h : Header) → Reads bytes h → header_of bytes ≡ Ok h
unfolding header_of
header_of-again bytes h reads =
    let total : ℕ = length bytes in
    let f = reads.header in
    let built : header_with total reads.numrecs h.dims h.gatts h.vars ≡ h = rw (← reads.records, ← reads.recsize) refl in
    let whole : short_var total (header_with total reads.numrecs h.dims h.gatts h.vars) ≡ None = ap (short_var total) built ∙ whole-from total h reads.whole in
    bind_to (magic_at bytes) _ (reads.form, f.at_numrecs) _ (magic_at-again reads.form bytes f.at_numrecs f.magic_text)
    (bind_to (numrecs_at total f.at_numrecs) _ (reads.numrecs, f.at_dims) _ (numrecs_at-again total reads.numrecs f.at_numrecs f.at_dims f.numrecs_word)
    (bind_to (dims_at total f.at_dims) _ (h.dims, f.at_gatts) _ (dims_at-again total h.dims f.at_dims f.at_gatts f.dims)
    (bind_to (attrs_at total f.at_gatts) _ (h.gatts, f.at_vars) _ (attrs_at-again total h.gatts f.at_gatts f.at_vars f.gatts)
    (bind_to (vars_at reads.form total h.dims f.at_vars) _ (h.vars, reads.after) _ (vars_at-again reads.form total h.dims h.vars f.at_vars reads.after f.vars)
    (bind_to (data_fault (short_var total (header_with total reads.numrecs h.dims h.gatts h.vars))) _ tt _ (ap data_fault whole) (ap Ok built))))))

-- each list of bytes has a header or a fault
pub answer : (bytes : List ℕ) → ((h : Header) × Reads bytes h) ⊎ ((fault : CdfFault) × Faults bytes fault)
answer bytes = answered bytes (header_of bytes) refl
  where
    answered : (bytes : List ℕ) (read : Result Header CdfFault) → header_of bytes ≡ read
        → ((h : Header) × Reads bytes h) ⊎ ((fault : CdfFault) × Faults bytes fault)
    answered bytes (Ok h) e = inl (h, header_of-found bytes h e)
    answered bytes (Err fault) e = inr (fault, e)

-- and no other
pub Reads-unique : (bytes : List ℕ) (one other : Header) → Reads bytes one → Reads bytes other → one ≡ other
Reads-unique bytes one other h k =
    let e = header_of-again bytes one h in
    let f = header_of-again bytes other k in
    cc

pub Faults-unique : (bytes : List ℕ) (one other : CdfFault) → Faults bytes one → Faults bytes other → one ≡ other
Faults-unique bytes one other h k = cc

pub Reads-no_fault : (bytes : List ℕ) (h : Header) (fault : CdfFault) → Reads bytes h → ¬ Faults bytes fault
Reads-no_fault bytes h fault reads faults = let e = header_of-again bytes h reads in cc
