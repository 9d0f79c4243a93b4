-- The fault that is read is the first fault.
use Rattle.std.specs.Prelude.{◌≡◌, ◌≢◌, ℕ, zero, suc, ◌-◌, ◌*◌, ◌≤◌, ◌<◌, List, [], ◌∷◌, ◌++◌, length, take, slice_get, Option, Some, None, Result}
use Rattle.std.specs.Prelude.{Ok, Err, ok_or, Bool, true, false, nat_lt, nat_le, ◌==◌, ◌||◌, ◌&&◌, if◌then◌else◌, All, refl}
use Rattle.std.specs.Bool.{Decides}
use Rattle.std.specs.List.{list_all, position_or_len}
use Rattle.std.specs.Str.{IsUtf8, is_utf8}
use Rattle.std.proofs.Common.{get_or, ap, sym, subst, ◌∙◌, arith, inl, inr, append-nil, append_assoc}
use Rattle.std.proofs.lemmas.Bool.{ltb-true, ltb-false, lt-ltb, le-ltb, leb-true, le-leb}
use Rattle.std.proofs.lemmas.Bool.Decides.{nat_tests}
use Rattle.std.proofs.lemmas.List.Sums.{fails_before_first, passes_at_first}
use Rattle.std.proofs.lemmas.Option.{slice_get_cases, slice_get_within, slice_get-get_or, get_or_from_slice_get}
use Rattle.std.proofs.lemmas.Str.{IsUtf8-from_is_utf8, is_utf8-from_IsUtf8}
use Rattle.nd_base.specs.declared.form.Form.{Form}
use Rattle.nd_base.specs.declared.form.Form.TheVariants.{Classic, Wide}
use Rattle.cdf_read.specs.declared.fault.CdfFault.{CdfFault}
use Rattle.cdf_read.specs.declared.fault.CdfFault.TheVariants.{Magic, Short, Tag, Negative, NameText, NameLength, DimNumber, TwoRecordDims, ValueType}
use Rattle.cdf_read.specs.declared.fault.CdfFault.TheVariants.{RecordDimNotFirst, Overflow, DataShort}
use Rattle.cdf_read.specs.declared.head.HeadDim.{HeadDim}
use Rattle.cdf_read.specs.declared.head.HeadAttr.{HeadAttr}
use Rattle.cdf_read.specs.declared.head.HeadVar.{HeadVar}
use Rattle.cdf_read.specs.declared.head.Header.{Header}
use Rattle.cdf_read.specs.Fields.{magic, place, IsFixed, IsWord, IsDoubleWord, padded}
use Rattle.cdf_read.specs.FieldReading.{free_in, word_in, double_word_in}
use Rattle.cdf_read.specs.FieldLaws.{free-found, free-again, free-none, free-cut, word-none, word-cut, double_word-found, double_word-again, double_word-none}
use Rattle.cdf_read.specs.FieldLaws.{double_word-cut}
use Rattle.cdf_read.specs.Places.{dim_length, value_size, size_of, values_end, streaming, header_with}
use Rattle.cdf_read.specs.PlaceLaws.{position-first}
use Rattle.cdf_read.specs.Grammar.{greatest, greatest_wide, IsNumber, IsKind, IsName, AreMany, IsListHead, IsList, IsDim, IsAttr, IsDimNumber, IsVar}
use Rattle.cdf_read.specs.Grammar.{IsNumrecs}
use Rattle.cdf_read.specs.HeaderReading.{◌>>=◌, need, word_at, number_at, wide_begin_at, begin_at, kind_at, padded_at, name_at, list_head_at, many_at, dim_at}
use Rattle.cdf_read.specs.HeaderReading.{dims_at, attr_at, attrs_at, dim_number_at, dim_numbers_at, var_at, vars_at, numrecs_at, form_of, magic_at, short_var}
use Rattle.cdf_read.specs.HeaderReading.{data_fault, header_of}
use Rattle.cdf_read.specs.HeaderLaws.{bind_to, present, present_to, word_at-found, word_at-again, number_at-found, number_at-again}
use Rattle.cdf_read.specs.HeaderLaws.{kind_at-found, kind_at-again, padded_at-found, padded_at-again, name_at-found, name_at-again, own-true}
use Rattle.cdf_read.specs.HeaderLaws.{own-from, list_head_at-found, list_head_at-again, one_record-true, one_record-from}
use Rattle.cdf_read.specs.HeaderLaws.{dim_at-found, dim_at-again, dims_at-found, dims_at-again, attr_at-found, attr_at-again, attrs_at-found, attrs_at-again}
use Rattle.cdf_read.specs.HeaderLaws.{first-true, first-from, dim_number_at-found, dim_number_at-again, dim_numbers_at-found, dim_numbers_at-again}
use Rattle.cdf_read.specs.HeaderLaws.{var_at-found, var_at-again, vars_at-found, vars_at-again, counted-true, counted-from, numrecs_at-found}
use Rattle.cdf_read.specs.HeaderLaws.{numrecs_at-again, form_of-found, form_of-magic, magic_at-found, magic_at-again}
use Rattle.cdf_read.specs.FirstFault.{NoFault, InOrder, Demand, IsCut, IsAmong, NumberFault, WideBeginFault, BeginFault, KindFault, HasText, NameFault}
use Rattle.cdf_read.specs.FirstFault.{ListHeadFault, ListFault, DimFault, AttrFault, AttrsFault, DimNumberFault, AreDimNumbers, DimNumbersFault, VarFault}
use Rattle.cdf_read.specs.FirstFault.{VarsFault, MagicFault, NumrecsFault, DataFault, FirstFault}

-- reading meets a fault exactly where the relation has it
pub record Agrees {B : Type 0} (read : Result B CdfFault) (Fault : CdfFault → Type 0) : Type 0 where
  pub to : (fault : CdfFault) → read ≡ Err fault → Fault fault
  pub from : (fault : CdfFault) → Fault fault → read ≡ Err fault

-- what is read is what is spelled
record Spells {A : Type 0} (read : Result (A × List ℕ) CdfFault) (Is : A → List ℕ → List ℕ → Type 0) (before : List ℕ) : Type 0 where
  found : (r : A × List ℕ) → read ≡ Ok r → Is r.0 before r.1
  again : (x : A) (after : List ℕ) → Is x before after → read ≡ Ok (x, after)

-- PARTS IN ORDER

same_fault : {A : Type 0} (one other : CdfFault) → ◌≡◌ {A = Result A CdfFault} (Err one) (Err other) → one ≡ other
same_fault one other e = cc

done : {A : Type 0} (x : A) → Agrees (Ok x) NoFault
done x = record { to = λ fault e. absurd (cc); from = λ fault h. absurd h }

order_to : {A B : Type 0} (read : Result (A × List ℕ) CdfFault) (next : A × List ℕ → Result B CdfFault) (Is : A → List ℕ → List ℕ → Type 0) (One : List ℕ →
    CdfFault → Type 0)
    (Rest : A → List ℕ → CdfFault → Type 0) (before : List ℕ) → Spells read Is before → Agrees read (One before) →
    ((x : A) (after : List ℕ) → Agrees (next (x, after)) (Rest x after)) →
    (fault : CdfFault) → (read >>= next) ≡ Err fault → InOrder Is One Rest before fault
order_to (Ok r) next Is One Rest before spells one rest fault e = InOrder.later r.0 r.1 (spells.found r refl) ((rest r.0 r.1).to fault e)
order_to (Err other) next Is One Rest before spells one rest fault e = InOrder.here (one.to fault (ap Err (same_fault other fault e)))

order_from : {A B : Type 0} (read : Result (A × List ℕ) CdfFault) (next : A × List ℕ → Result B CdfFault) (Is : A → List ℕ → List ℕ → Type 0) (One : List ℕ →
    CdfFault → Type 0)
    (Rest : A → List ℕ → CdfFault → Type 0) (before : List ℕ) → Spells read Is before → Agrees read (One before) →
    ((x : A) (after : List ℕ) → Agrees (next (x, after)) (Rest x after)) →
    (fault : CdfFault) → InOrder Is One Rest before fault → (read >>= next) ≡ Err fault
order_from read next Is One Rest before spells one rest fault (InOrder.here h) = ap (λ m. m >>= next) (one.from fault h)
order_from read next Is One Rest before spells one rest fault (InOrder.later x after is h) = bind_to read next (x, after) _ (spells.again x after is)
    ((rest x after).from fault h)

in_order : {A B : Type 0} (read : Result (A × List ℕ) CdfFault) (next : A × List ℕ → Result B CdfFault) (Is : A → List ℕ → List ℕ → Type 0) (One : List ℕ →
    CdfFault → Type 0)
    (Rest : A → List ℕ → CdfFault → Type 0) (before : List ℕ) → Spells read Is before → Agrees read (One before) →
    ((x : A) (after : List ℕ) → Agrees (next (x, after)) (Rest x after)) →
    Agrees (read >>= next) (InOrder Is One Rest before)
in_order read next Is One Rest before spells one rest =
    record { to = order_to read next Is One Rest before spells one rest; from = order_from read next Is One Rest before spells one rest }

-- a last part, of which a value is made
last_to : {A B : Type 0} (read : Result A CdfFault) (f : A → B) (Fault : CdfFault → Type 0) → Agrees read Fault → (fault : CdfFault) →
    (read >>= (λ x. Ok (f x))) ≡ Err fault → Fault fault
last_to (Ok x) f Fault h fault e = absurd (cc)
last_to (Err other) f Fault h fault e = h.to fault (ap Err (same_fault other fault e))

last : {A B : Type 0} (read : Result A CdfFault) (f : A → B) (Fault : CdfFault → Type 0) → Agrees read Fault → Agrees (read >>= (λ x. Ok (f x))) Fault
last read f Fault h = record { to = last_to read f Fault h; from = λ fault is. ap (λ m. m >>= (λ x. Ok (f x))) (h.from fault is) }

demand_to : {B : Type 0} (b : Bool) (named : CdfFault) (next : Unit {0} → Result B CdfFault) (P : Type 0) (Rest : CdfFault → Type 0) → Decides b P →
    Agrees (next tt) Rest →
    (fault : CdfFault) → (need b named >>= next) ≡ Err fault → Demand P named Rest fault
demand_to true named next P Rest decides rest fault e = Demand.kept (decides.0 refl) (rest.to fault e)
demand_to false named next P Rest decides rest fault e = Demand.broken (λ p. let wrong = decides.1 p in cc) (sym (same_fault named fault e))

demand_from : {B : Type 0} (b : Bool) (named : CdfFault) (next : Unit {0} → Result B CdfFault) (P : Type 0) (Rest : CdfFault → Type 0) → Decides b P →
    Agrees (next tt) Rest →
    (fault : CdfFault) → Demand P named Rest fault → (need b named >>= next) ≡ Err fault
demand_from true named next P Rest decides rest fault h = elim h [
  | Demand.broken fails is ↦ absurd (fails (decides.0 refl))
  | Demand.kept p more ↦ rest.from fault more
]
demand_from false named next P Rest decides rest fault h = elim h [
  | Demand.broken fails is ↦ ap Err (sym is)
  | Demand.kept p more ↦ let wrong = decides.1 p in absurd (cc)
]

demand : {B : Type 0} (b : Bool) (named : CdfFault) (next : Unit {0} → Result B CdfFault) (P : Type 0) (Rest : CdfFault → Type 0) → Decides b P →
    Agrees (next tt) Rest →
    Agrees (need b named >>= next) (Demand P named Rest)
demand b named next P Rest decides rest = record { to = demand_to b named next P Rest decides rest; from = demand_from b named next P Rest decides rest }

at_most : (n m : ℕ) → Decides (nat_le n m) (n ≤ m)
at_most n m = (leb-true n m, le-leb n m)

below : (n m : ℕ) → Decides (nat_lt n m) (n < m)
below n m = (ltb-true n m, lt-ltb n m)

between : (least n most : ℕ) → Decides (nat_le least n && nat_le n most) ((least ≤ n) × (n ≤ most))
between least n most = (λ e. (grind (arith, nat_tests, e), grind (arith, nat_tests, e)), λ h. grind (arith, nat_tests, h.0, h.1))

cut : {A : Type 0} (total count : ℕ) (before : List ℕ) (o : Option A) → (o ≡ None → length before < count) → (length before < count → o ≡ None) →
    Agrees (ok_or o (Short (place total before))) (IsCut total count before)
cut total count before None short back = record {
  to = λ fault e. record { less = short refl; named = sym (same_fault (Short (place total before)) fault e) };
  from = λ fault h. ap Err (sym h.named);
}
cut total count before (Some x) short back = record {
  to = λ fault e. absurd (cc);
  from = λ fault h. let none = back h.less in absurd (cc);
}

-- FIELDS

word-Spells : (total : ℕ) (before : List ℕ) → Spells (word_at total before) IsWord before
word-Spells total before = record { found = word_at-found total before; again = λ n after h. word_at-again total n before after h }

word : (total : ℕ) (before : List ℕ) → Agrees (word_at total before) (IsCut total 4 before)
word total before = cut total 4 before (word_in before) (word-none before) (word-cut before)

number-Spells : (total : ℕ) (before : List ℕ) → Spells (number_at total before) IsNumber before
number-Spells total before = record { found = number_at-found total before; again = λ n after h. number_at-again total n before after h }

number : (total : ℕ) (before : List ℕ) → Agrees (number_at total before) (NumberFault total before)
unfolding number_at
number total before =
    in_order (word_at total before) _ IsWord (IsCut total 4) _ before (word-Spells total before) (word total before)
    (λ n after. demand (nat_le n 2147483647) (Negative (place total before)) _ (n ≤ greatest) NoFault (at_most n 2147483647) (done (n, after)))

double_word-Spells : (total : ℕ) (before : List ℕ) → Spells (ok_or (double_word_in before) (Short (place total before))) IsDoubleWord before
double_word-Spells total before = record {
  found = λ r e. double_word-found before r (present (double_word_in before) _ r e);
  again = λ n after h. present_to (double_word_in before) _ (n, after) (double_word-again n before after h);
}

wide_begin : (total : ℕ) (before : List ℕ) → Agrees (wide_begin_at total before) (WideBeginFault total before)
unfolding wide_begin_at
wide_begin total before =
    in_order (ok_or (double_word_in before) (Short (place total before))) _ IsDoubleWord (IsCut total 8) _ before (double_word-Spells total before)
    (cut total 8 before (double_word_in before) (double_word-none before) (double_word-cut before))
    (λ n after. demand (nat_le n 9223372036854775807) (Negative (place total before)) _ (n ≤ greatest_wide) NoFault (at_most n 9223372036854775807)
    (done (n, after)))

begin : (form : Form) (total : ℕ) (before : List ℕ) → Agrees (begin_at form total before) (BeginFault form total before)
begin Classic total before = number total before
begin Wide total before = wide_begin total before

kind-Spells : (total : ℕ) (before : List ℕ) → Spells (kind_at total before) IsKind before
kind-Spells total before = record { found = kind_at-found total before; again = λ n after h. kind_at-again total n before after h }

kind : (total : ℕ) (before : List ℕ) → Agrees (kind_at total before) (KindFault total before)
unfolding kind_at
kind total before =
    in_order (word_at total before) _ IsWord (IsCut total 4) _ before (word-Spells total before) (word total before)
    (λ n after. demand (nat_le 1 n && nat_le n 6) (ValueType (place total before)) _ ((1 ≤ n) × (n ≤ 6)) NoFault (between 1 n 6) (done (n, after)))

text-Spells : (total count : ℕ) (before : List ℕ) → Spells (padded_at total count before) (HasText count) before
text-Spells total count before = record {
  found = padded_at-found total count before;
  again = λ text after h. ap (λ n. padded_at total n before) (sym h.1) ∙ padded_at-again total text before after h.0;
}

text : (total count : ℕ) (before : List ℕ) → Agrees (padded_at total count before) (IsCut total (padded count) before)
unfolding padded_at
text total count before =
    last (ok_or (free_in (padded count) before) (Short (place total before))) (λ field. (take count field.0, field.1)) (IsCut total (padded count) before)
    (cut total (padded count) before (free_in (padded count) before) (free-none (padded count) before) (free-cut (padded count) before))

name-Spells : (total : ℕ) (before : List ℕ) → Spells (name_at total before) IsName before
name-Spells total before = record { found = name_at-found total before; again = λ n after h. name_at-again total n before after h }

name : (total : ℕ) (before : List ℕ) → Agrees (name_at total before) (NameFault total before)
unfolding name_at
name total before =
    in_order (number_at total before) _ IsNumber (NumberFault total) _ before (number-Spells total before) (number total before)
    (λ n at_text. demand (nat_le 1 n && nat_le n 1024) (NameLength (place total before)) _ ((1 ≤ n) × (n ≤ 1024)) _ (between 1 n 1024)
    (in_order (padded_at total n at_text) _ (HasText n) (IsCut total (padded n)) _ at_text (text-Spells total n at_text) (text total n at_text)
    (λ t after. demand (is_utf8 t) (NameText (place total at_text)) _ (IsUtf8 t) NoFault (IsUtf8-from_is_utf8 t, is_utf8-from_IsUtf8 t) (done (t, after)))))

-- LISTS

head-Spells : (total tag : ℕ) (before : List ℕ) → Spells (list_head_at total tag before) (IsListHead tag) before
head-Spells total tag before = record { found = list_head_at-found total tag before; again = λ n after h. list_head_at-again total tag n before after h }

head : (total tag : ℕ) (before : List ℕ) → Agrees (list_head_at total tag before) (ListHeadFault total tag before)
unfolding list_head_at
head total tag before =
    in_order (word_at total before) _ IsWord (IsCut total 4) _ before (word-Spells total before) (word total before)
    (λ first at_count. in_order (word_at total at_count) _ IsWord (IsCut total 4) _ at_count (word-Spells total at_count) (word total at_count)
    (λ n after. demand ((first == tag) || ((first == 0) && (n == 0))) (Tag (place total before)) _ (first ≢ tag → (first ≡ 0) × (n ≡ 0)) _
    (own-true first tag n, own-from first tag n)
    (demand (nat_le n 2147483647) (Negative (place total at_count)) _ (n ≤ greatest) NoFault (at_most n 2147483647) (done (n, after)))))

-- how one element is read, and its fault
record ReadsOne {A : Type 0} (read : List A → List ℕ → Result (A × List ℕ) CdfFault) (Is : List A → A → List ℕ → List ℕ → Type 0)
    (Fault : List A → List ℕ → CdfFault → Type 0) : Type 0 where
  spells : (earlier : List A) (before : List ℕ) → Spells (read earlier before) (Is earlier) before
  agrees : (earlier : List A) (before : List ℕ) → Agrees (read earlier before) (Fault earlier before)

one_to : {A : Type 0} (read : List A → List ℕ → Result (A × List ℕ) CdfFault) (Is : List A → A → List ℕ → List ℕ → Type 0) (Fault : List A → List ℕ →
    CdfFault → Type 0) → ReadsOne read Is Fault →
    (n : ℕ) (earlier : List A) (before : List ℕ) (fault : CdfFault) → ((x : A) (after : List ℕ) → many_at read n (earlier ++ x ∷ []) after ≡ Err fault →
    IsAmong Is Fault (earlier ++ x ∷ []) n after fault) →
    (r : Result (A × List ℕ) CdfFault) → read earlier before ≡ r → (r >>= (λ x. many_at read n (earlier ++ x.0 ∷ []) x.1)) ≡ Err fault →
    IsAmong Is Fault earlier (suc n) before fault
one_to {A} read Is Fault one n earlier before fault others (Ok x) is e =
    let more = others x.0 x.1 e in
    record {
      elements = x.0 ∷ more.elements;
      next = more.next;
      spelled = (x.1, (one.spells earlier before).found x is, more.spelled);
      fewer = omega (arith, more.fewer);
      at_fault = subst (λ (es : List A). Fault es more.next fault) (append_assoc earlier (x.0 ∷ []) more.elements) more.at_fault;
    }
one_to {A} read Is Fault one n earlier before fault others (Err other) is e = record {
  elements = [];
  next = before;
  spelled = refl;
  fewer = omega arith;
  at_fault = subst (λ (es : List A). Fault es before fault) (sym (append-nil earlier))
      ((one.agrees earlier before).to fault (is ∙ ap Err (same_fault other fault e)));
}

many_to : {A : Type 0} (read : List A → List ℕ → Result (A × List ℕ) CdfFault) (Is : List A → A → List ℕ → List ℕ → Type 0) (Fault : List A → List ℕ →
    CdfFault → Type 0) → ReadsOne read Is Fault →
    (n : ℕ) (earlier : List A) (before : List ℕ) (fault : CdfFault) → many_at read n earlier before ≡ Err fault → IsAmong Is Fault earlier n before fault
many_to read Is Fault one zero earlier before fault e = absurd (cc)
many_to read Is Fault one (suc n) earlier before fault e =
    one_to read Is Fault one n earlier before fault (λ x after more. many_to read Is Fault one n (earlier ++ x ∷ []) after fault more)
    (read earlier before) refl e

many_from : {A : Type 0} (read : List A → List ℕ → Result (A × List ℕ) CdfFault) (Is : List A → A → List ℕ → List ℕ → Type 0) (Fault : List A → List ℕ →
    CdfFault → Type 0) → ReadsOne read Is Fault →
    (n : ℕ) (earlier xs : List A) (before next : List ℕ) (fault : CdfFault) → AreMany Is earlier xs before next → length xs < n → Fault
    (earlier ++ xs) next fault → many_at read n earlier before ≡ Err fault
many_from read Is Fault one zero earlier xs before next fault spelled fewer h = absurd (omega (arith, fewer))
many_from {A} read Is Fault one (suc n) earlier [] before next fault spelled fewer h =
    let here : Fault earlier next fault = subst (λ (es : List A). Fault es next fault) (append-nil earlier) h in
    let this : Fault earlier before fault = subst (λ (bytes : List ℕ). Fault earlier bytes fault) (sym spelled) here in
    ap (λ m. m >>= (λ x. many_at read n (earlier ++ x.0 ∷ []) x.1)) ((one.agrees earlier before).from fault this)
many_from {A} read Is Fault one (suc n) earlier (x ∷ xs) before next fault spelled fewer h =
    bind_to (read earlier before) _ (x, spelled.0) _ ((one.spells earlier before).again x spelled.0 spelled.1)
    (many_from read Is Fault one n (earlier ++ x ∷ []) xs spelled.0 next fault spelled.2 (omega (arith, fewer))
    (subst (λ (es : List A). Fault es next fault) (sym (append_assoc earlier (x ∷ []) xs)) h))

many : {A : Type 0} (read : List A → List ℕ → Result (A × List ℕ) CdfFault) (Is : List A → A → List ℕ → List ℕ → Type 0) (Fault : List A → List ℕ → CdfFault →
    Type 0) → ReadsOne read Is Fault →
    (n : ℕ) (before : List ℕ) → Agrees (many_at read n [] before) (IsAmong Is Fault [] n before)
many read Is Fault one n before = record {
  to = many_to read Is Fault one n [] before;
  from = λ fault h. many_from read Is Fault one n [] h.elements before h.next fault h.spelled h.fewer h.at_fault;
}

list : {A : Type 0} (total tag : ℕ) (read : List A → List ℕ → Result (A × List ℕ) CdfFault) (Is : List A → A → List ℕ → List ℕ → Type 0) (Fault : List A →
    List ℕ → CdfFault → Type 0) → ReadsOne read Is Fault →
    (before : List ℕ) → Agrees (list_head_at total tag before >>= (λ h. many_at read h.0 [] h.1)) (ListFault total tag Is Fault before)
list total tag read Is Fault one before =
    in_order (list_head_at total tag before) _ (IsListHead tag) (ListHeadFault total tag) _ before (head-Spells total tag before) (head total tag before)
    (λ n after. many read Is Fault one n after)

dim : (total : ℕ) (earlier : List HeadDim) (before : List ℕ) → Agrees (dim_at total earlier before) (DimFault total earlier before)
unfolding dim_at
dim total earlier before =
    in_order (name_at total before) _ IsName (NameFault total) _ before (name-Spells total before) (name total before)
    (λ n at_length. in_order (number_at total at_length) _ IsNumber (NumberFault total) _ at_length (number-Spells total at_length) (number total at_length)
    (λ size after. demand (nat_lt 0 size || list_all (λ e. nat_lt 0 e.length) earlier) TwoRecordDims _ (size ≡ 0 → All (λ e. e.length ≢ 0) earlier) NoFault
    (one_record-true size earlier, one_record-from size earlier) (done _)))

dim-ReadsOne : (total : ℕ) → ReadsOne (dim_at total) IsDim (DimFault total)
dim-ReadsOne total = record {
  spells = λ earlier before. record { found = dim_at-found total earlier before; again = λ d after h. dim_at-again total earlier d before after h };
  agrees = dim total;
}

dims-Spells : (total : ℕ) (before : List ℕ) → Spells (dims_at total before) (IsList 10 IsDim) before
dims-Spells total before = record { found = dims_at-found total before; again = λ ds after h. dims_at-again total ds before after h }

dims : (total : ℕ) (before : List ℕ) → Agrees (dims_at total before) (ListFault total 10 IsDim (DimFault total) before)
unfolding dims_at
dims total before = list total 10 (dim_at total) IsDim (DimFault total) (dim-ReadsOne total) before

attr : (total : ℕ) (before : List ℕ) → Agrees (attr_at total before) (AttrFault total before)
unfolding attr_at
attr total before =
    in_order (name_at total before) _ IsName (NameFault total) _ before (name-Spells total before) (name total before)
    (λ n at_kind. in_order (kind_at total at_kind) _ IsKind (KindFault total) _ at_kind (kind-Spells total at_kind) (kind total at_kind)
    (λ k at_count. in_order (number_at total at_count) _ IsNumber (NumberFault total) _ at_count (number-Spells total at_count) (number total at_count)
    (λ count at_values. last (padded_at total (count * value_size k) at_values) _ (IsCut total (padded (count * value_size k)) at_values)
    (text total (count * value_size k) at_values))))

attrs-Spells : (total : ℕ) (before : List ℕ) → Spells (attrs_at total before) (IsList 12 (λ (earlier : List HeadAttr). IsAttr)) before
attrs-Spells total before = record { found = attrs_at-found total before; again = λ xs after h. attrs_at-again total xs before after h }

attrs : (total : ℕ) (before : List ℕ) → Agrees (attrs_at total before) (AttrsFault total before)
unfolding attrs_at
attrs total before =
    list total 12 (λ (earlier : List HeadAttr). attr_at total) (λ (earlier : List HeadAttr). IsAttr) (λ (earlier : List HeadAttr). AttrFault total) (record {
      spells = λ earlier bytes. record { found = attr_at-found total bytes; again = λ x after h. attr_at-again total x bytes after h };
      agrees = λ earlier. attr total;
    }) before

-- VARIABLES

dim_number : (total : ℕ) (ds : List HeadDim) (v : ℕ) (earlier before : List ℕ) →
    Agrees (dim_number_at total ds v earlier before) (DimNumberFault total ds v earlier before)
unfolding dim_number_at
dim_number total ds v earlier before =
    in_order (word_at total before) _ IsWord (IsCut total 4) _ before (word-Spells total before) (word total before)
    (λ n after. demand (nat_lt n (length ds)) (DimNumber (place total before)) _ (n < length ds) _ (below n (length ds))
    (demand (nat_lt 0 (dim_length ds n) || (length earlier == 0)) (RecordDimNotFirst v) _ (dim_length ds n ≡ 0 → earlier ≡ []) NoFault
    (first-true (dim_length ds n) earlier, first-from (dim_length ds n) earlier) (done (n, after))))

dim_numbers-Spells : (total : ℕ) (ds : List HeadDim) (v : ℕ) (before : List ℕ) → Spells (dim_numbers_at total ds v before) (AreDimNumbers ds) before
dim_numbers-Spells total ds v before = record {
  found = dim_numbers_at-found total ds v before;
  again = λ ns after h. dim_numbers_at-again total ds v ns before h.0 after h.1 h.2;
}

dim_numbers : (total : ℕ) (ds : List HeadDim) (v : ℕ) (before : List ℕ) → Agrees (dim_numbers_at total ds v before) (DimNumbersFault total ds v before)
unfolding dim_numbers_at
dim_numbers total ds v before =
    in_order (number_at total before) _ IsNumber (NumberFault total) _ before (number-Spells total before) (number total before)
    (λ rank after. many (dim_number_at total ds v) (IsDimNumber ds) (DimNumberFault total ds v) (record {
      spells = λ earlier bytes. record
          { found = dim_number_at-found total ds v earlier bytes; again = λ n rest h. dim_number_at-again total ds v earlier n bytes rest h };
      agrees = dim_number total ds v;
    }) rank after)

var : (form : Form) (total : ℕ) (ds : List HeadDim) (v : ℕ) (before : List ℕ) → Agrees (var_at form total ds v before) (VarFault form total ds v before)
unfolding var_at
var form total ds v before =
    in_order (name_at total before) _ IsName (NameFault total) _ before (name-Spells total before) (name total before)
    (λ n at_rank. in_order (dim_numbers_at total ds v at_rank) _ (AreDimNumbers ds) (DimNumbersFault total ds v) _ at_rank
    (dim_numbers-Spells total ds v at_rank) (dim_numbers total ds v at_rank)
    (λ ns at_attrs. in_order (attrs_at total at_attrs) _ (IsList 12 (λ (earlier : List HeadAttr). IsAttr)) (AttrsFault total) _ at_attrs
    (attrs-Spells total at_attrs) (attrs total at_attrs)
    (λ xs at_kind. in_order (kind_at total at_kind) _ IsKind (KindFault total) _ at_kind (kind-Spells total at_kind) (kind total at_kind)
    (λ k at_vsize. demand (nat_le (size_of ds ns k) 4294967296) (Overflow v) _ (size_of ds ns k ≤ 4294967296) _ (at_most (size_of ds ns k) 4294967296)
    (in_order (word_at total at_vsize) _ IsWord (IsCut total 4) _ at_vsize (word-Spells total at_vsize) (word total at_vsize)
    (λ size at_begin. last (begin_at form total at_begin) _ (BeginFault form total at_begin) (begin form total at_begin)))))))

vars-Spells : (form : Form) (total : ℕ) (ds : List HeadDim) (before : List ℕ) →
    Spells (vars_at form total ds before) (IsList 11 (λ (earlier : List HeadVar). IsVar form ds)) before
vars-Spells form total ds before = record { found = vars_at-found form total ds before; again = λ vs after h. vars_at-again form total ds vs before after h }

vars : (form : Form) (total : ℕ) (ds : List HeadDim) (before : List ℕ) → Agrees (vars_at form total ds before) (VarsFault form total ds before)
unfolding vars_at
vars form total ds before =
    list total 11 (λ (earlier : List HeadVar). var_at form total ds (length earlier)) (λ (earlier : List HeadVar). IsVar form ds)
    (λ (earlier : List HeadVar). VarFault form total ds (length earlier)) (record {
      spells = λ earlier bytes. record {
        found = var_at-found form total ds (length earlier) bytes;
        again = λ v after h. var_at-again form total ds
            (length earlier) v bytes after h;
      };
      agrees = λ earlier. var form total ds (length earlier);
    }) before

-- FILES

numrecs-Spells : (total : ℕ) (before : List ℕ) → Spells (numrecs_at total before) IsNumrecs before
numrecs-Spells total before = record { found = numrecs_at-found total before; again = λ n after h. numrecs_at-again total n before after h }

numrecs : (total : ℕ) (before : List ℕ) → Agrees (numrecs_at total before) (NumrecsFault total before)
unfolding numrecs_at
numrecs total before =
    in_order (word_at total before) _ IsWord (IsCut total 4) _ before (word-Spells total before) (word total before)
    (λ n after. demand ((n == streaming) || nat_le n 2147483647) (Negative (place total before)) _ (n ≢ streaming → n ≤ greatest) NoFault
    (counted-true n, counted-from n) (done (n, after)))

first-Spells : (before : List ℕ) → Spells (ok_or (free_in 4 before) (Short 0)) (λ first before after. IsFixed first before after × (length first ≡ 4)) before
first-Spells before = record {
  found = λ r e. free-found 4 before r (present (free_in 4 before) _ r e);
  again = λ first after h. present_to (free_in 4 before) _ (first, after) (ap (free_in 4) h.0 ∙ free-again 4 first after h.1);
}

first : (bytes : List ℕ) → Agrees (ok_or (free_in 4 bytes) (Short 0)) (IsCut (length bytes) 4 bytes)
first bytes =
    let none : length bytes - length bytes ≡ 0 = omega arith in
    subst (λ at. Agrees (ok_or (free_in 4 bytes) (Short at)) (IsCut (length bytes) 4 bytes)) none
    (cut (length bytes) 4 bytes (free_in 4 bytes) (free-none 4 bytes) (free-cut 4 bytes))

form_by : (front after : List ℕ) (o : Option Form) → form_of front ≡ o →
    Agrees {B = Form × List ℕ} (ok_or o Magic >>= (λ form. Ok (form, after))) (Demand ((form : Form) × (front ≡ magic form)) Magic NoFault)
form_by front after (Some form) is = record {
  to = λ fault e. absurd (cc);
  from = λ fault h. elim h [
    | Demand.broken fails named ↦ absurd (fails (form, form_of-found front form is))
    | Demand.kept p none ↦ absurd none
  ];
}
form_by front after None is = record {
  to = λ fault e. Demand.broken (λ p. let own = ap form_of p.1 ∙ form_of-magic p.0 in cc) (sym (same_fault Magic fault e));
  from = λ fault h. elim h [
    | Demand.broken fails named ↦ ap Err (sym named)
    | Demand.kept p none ↦ absurd none
  ];
}

magic-Spells : (before : List ℕ) → Spells (magic_at before) (λ form. IsFixed (magic form)) before
magic-Spells before = record { found = magic_at-found before; again = λ form after h. magic_at-again form before after h }

magic_text : (bytes : List ℕ) → Agrees (magic_at bytes) (MagicFault (length bytes) bytes)
unfolding magic_at
magic_text bytes =
    in_order (ok_or (free_in 4 bytes) (Short 0)) _ (λ first before after. IsFixed first before after × (length first ≡ 4)) (IsCut (length bytes) 4) _ bytes
    (first-Spells bytes) (first bytes)
    (λ front after. form_by front after (form_of front) refl)

position_by : (n length var : ℕ) (b : Bool) → nat_lt n length ≡ b → ◌≡◌ {A = Option ℕ} (if b then Some n else None) (Some var) → (n ≡ var) × (n < length)
position_by n length var true within e = (cc, ltb-true n length within)
position_by n length var false within e = absurd (cc)

late_at : (total : ℕ) (h : Header) (n var : ℕ) → position_or_len (λ v. nat_lt total (values_end h v)) h.vars ≡ n → n ≡ var → n < length h.vars →
    DataFault total h (DataShort var)
late_at total h n var place same within =
    let late = λ (v : HeadVar). nat_lt total (values_end h v) in
    let inside : position_or_len late h.vars < length h.vars = omega (arith, place, within) in
    let before : (k : ℕ) (v : HeadVar) → k < var → slice_get h.vars k ≡ Some v → values_end h v ≤ total =
    λ k v less found. ltb-false total (values_end h v)
    (ap late (sym (get_or_from_slice_get h.vars k v v found)) ∙ fails_before_first late h.vars k v (omega (arith, place, same, less))) in
    elim (slice_get_cases h.vars n).1 [
      | inl some ↦ record {
        var = var;
        variable = some.0;
        found = ap (slice_get h.vars) (sym same) ∙ some.2;
        late = ltb-true total (values_end h some.0) (ap late (sym some.3 ∙ ap (λ i. get_or h.vars i some.0)
            (sym place)) ∙ passes_at_first late h.vars some.0 inside);
        earlier = before;
        named = refl;
      }
      | inr past ↦ absurd (omega (arith, past.0, within))
    ]

data_to : (total : ℕ) (h : Header) (o : Option ℕ) (fault : CdfFault) → short_var total h ≡ o → data_fault o ≡ Err fault → DataFault total h fault
data_to total h None fault is e = absurd (cc)
data_to total h (Some var) fault is e =
    let late = λ (v : HeadVar). nat_lt total (values_end h v) in
    let n = position_or_len late h.vars in
    let at = position_by n (length h.vars) var (nat_lt n (length h.vars)) refl is in
    subst (DataFault total h) (same_fault (DataShort var) fault e) (late_at total h n var refl at.0 at.1)

data_from : (total : ℕ) (h : Header) (fault : CdfFault) → DataFault total h fault → data_fault (short_var total h) ≡ Err fault
data_from total h fault f =
    let late = λ (v : HeadVar). nat_lt total (values_end h v) in
    let within = slice_get_within h.vars f.var f.variable f.found in
    let here : f.variable ≡ get_or h.vars f.var f.variable = sym (get_or_from_slice_get h.vars f.var f.variable f.variable f.found) in
    let before : (k : ℕ) → k < f.var → late (get_or h.vars k f.variable) ≡ false =
    λ k less. le-ltb total (values_end h (get_or h.vars k f.variable)) (f.earlier k (get_or h.vars k f.variable) less
    (slice_get-get_or h.vars k f.variable (omega (arith, within, less)))) in
    let found : short_var total h ≡ Some f.var = position-first late h.vars f.var f.variable within here
    (lt-ltb total (values_end h f.variable) f.late) before in
    ap data_fault found ∙ ap Err (sym f.named)

pub file : (bytes : List ℕ) → Agrees (header_of bytes) (FirstFault bytes)
unfolding header_of
file bytes =
    let total : ℕ = length bytes in
    in_order (magic_at bytes) _ (λ form. IsFixed (magic form)) (MagicFault total) _ bytes (magic-Spells bytes) (magic_text bytes)
    (λ form at_numrecs. in_order (numrecs_at total at_numrecs) _ IsNumrecs (NumrecsFault total) _ at_numrecs (numrecs-Spells total at_numrecs)
    (numrecs total at_numrecs)
    (λ n at_dims. in_order (dims_at total at_dims) _ (IsList 10 IsDim) (ListFault total 10 IsDim (DimFault total)) _ at_dims (dims-Spells total at_dims)
    (dims total at_dims)
    (λ ds at_gatts. in_order (attrs_at total at_gatts) _ (IsList 12 (λ (earlier : List HeadAttr). IsAttr)) (AttrsFault total) _ at_gatts
    (attrs-Spells total at_gatts) (attrs total at_gatts)
    (λ xs at_vars. in_order (vars_at form total ds at_vars) _ (IsList 11 (λ (earlier : List HeadVar). IsVar form ds)) (VarsFault form total ds) _ at_vars
    (vars-Spells form total ds at_vars) (vars form total ds at_vars)
    (λ vs after. last (data_fault (short_var total (header_with total n ds xs vs))) _ (DataFault total (header_with total n ds xs vs)) (record {
      to = λ fault e. data_to total (header_with total n ds xs vs) (short_var total (header_with total n ds xs vs)) fault refl e;
      from = data_from total (header_with total n ds xs vs);
    }))))))
