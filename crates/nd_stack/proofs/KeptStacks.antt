-- A stack that was read can be written, and its file is read back.
use Rattle.std.proofs.Common.{◌≡◌, ◌≤◌, ◌<◌, ◌+◌, ◌*◌, ◌^◌, ◌==◌, ℕ, Bool, true, false, List, [], ◌∷◌, length, map, take, drop, get_or, max, Option, Some}
use Rattle.std.proofs.Common.{None, Result, Ok, Err, refl, ap, sym, ◌∙◌, subst, arith}
use Rattle.std.specs.Prelude.{ℤ, pos, All, FitsSigned, filter, fold, not, if◌then◌else◌}
use Rattle.std.specs.Int.{w32, w64, from_be_bytes}
use Rattle.std.specs.List.{range_with_len, prefix_len, take_while}
use Rattle.std.proofs.lemmas.Bool.{eqb-true}
use Rattle.std.proofs.lemmas.Int.{ints}
use Rattle.std.proofs.lemmas.List.{length-take}
use Rattle.std.proofs.lemmas.List.Elements.{All-nil, All-cons, All-head, All-tail, All-map, All-take, All-drop}
use Rattle.std.proofs.lemmas.List.FromFn.{length-range_with_len, length-map-range_with_len, get_or-range_with_len}
use Rattle.nd_base.specs.declared.array.Head.{Head}
use Rattle.nd_base.specs.declared.array.SampleType.{SampleType}
use Rattle.nd_base.specs.declared.array.SampleType.TheVariants.{Int8, Int16, Int32}
use Rattle.nd_base.specs.declared.attribute.Attr.{Attr}
use Rattle.nd_base.specs.declared.attribute.AttrKind.TheVariants.{WholeKind, TextKind, Bits64Kind, Bits32Kind}
use Rattle.nd_base.specs.declared.attribute.AttrValue.TheVariants.{Whole, Text, Bits64, Bits32}
use Rattle.nd_base.specs.declared.attribute.FileShape.{FileShape}
use Rattle.nd_base.specs.Array.{Array, StackValue}
use Rattle.nd_base.specs.Samples.{number}
use Rattle.nd_base.specs.SampleLaws.{AreBytes, number-IsSample, samples_of-IsSample, below_64}
use Rattle.nd_base.specs.Shapes.{array_of}
use Rattle.nd_base.specs.Stacks.{frame_size, arrays_at, IsStack}
use Rattle.nd_base.specs.StackLaws.{stack_at-IsStack}
use Rattle.cdf_read.specs.declared.head.HeadVar.{HeadVar}
use Rattle.cdf_read.specs.declared.head.Header.{Header}
use Rattle.cdf_read.specs.Grammar.{Reads}
use Rattle.cdf_read.specs.HeaderReading.{header_of}
use Rattle.cdf_read.specs.HeaderLaws.{header_of-found}
use Rattle.cdf_write.specs.Writable.{kind_of, column_of, FitsIn, HasColumns}
use Rattle.nd_stack.specs.declared.attributes.AttrVar.{AttrVar}
use Rattle.nd_stack.specs.declared.column.Column.{Column}
use Rattle.nd_stack.specs.declared.fault.StackFault.{StackFault}
use Rattle.nd_stack.specs.Answers.{or_cdf}
use Rattle.nd_stack.specs.Columns as read
use Rattle.nd_stack.specs.Columns.{cell, frame_count}
use Rattle.nd_stack.specs.FrameVars.{times_of, int_for, bits_for}
use Rattle.nd_stack.specs.AttrVars.{attr_kind, attr_value, attr_vars, attrs_for}
use Rattle.nd_stack.specs.FrameShape.{attr_columns, text_room, width_of, shape_of}
use Rattle.nd_stack.specs.KeptStacks.{IsKeptStack}
use Rattle.nd_stack.specs.LayoutHeads.{IsKeptValue}
use Rattle.nd_stack.specs.RoundTrip.{IsKept}
use Rattle.nd_stack.specs.SoundLaws.{Reads-IsSoundHeader}
use Rattle.nd_stack.specs.StackRules.{frames_of, head_for, heads_of, stack_with, stack_of}
use Rattle.nd_stack.proofs.Accepted.{bind-Ok, IsAccepted, frames_of-IsAccepted}
use Rattle.nd_stack.proofs.Fits.{accepted-FitsFile}
use Rattle.nd_stack.proofs.HeaderBytes.{Reads-values}
use Rattle.nd_stack.proofs.KeptShape.{shape_of-HasTextNames, shape_of-HasSmallDims}
use Rattle.nd_stack.proofs.KeptValues.{attr_value-IsKeptValue}
use Rattle.nd_stack.proofs.Writable.{header_read, stack_of-IsWritable}

-- ATTRIBUTES

-- a value has the kind of its value type
kind_of-attr_value : (kind : ℕ) (bytes : List ℕ) → kind_of (attr_value kind bytes) ≡ attr_kind kind
kind_of-attr_value kind bytes = by (kind == 1) (kind == 2) (kind == 3) (kind == 5) (kind == 6) refl refl refl refl refl
  where
    two_kinds : (m n : ℕ) → (kind == m) ≡ true → (kind == n) ≡ true → m ≡ n
    two_kinds m n d e = sym (eqb-true kind m d) ∙ eqb-true kind n e

    by : (one two three five six : Bool) → (kind == 1) ≡ one → (kind == 2) ≡ two → (kind == 3) ≡ three → (kind == 5) ≡ five → (kind == 6) ≡ six →
        kind_of (if one then Whole (number Int8 bytes) else (if two then Text (take_while (λ b. not (b == 0)) bytes)
        else (if three then Whole (number Int16 bytes) else (if five then Bits32 (from_be_bytes w32 bytes)
        else (if six then Bits64 (from_be_bytes w64 bytes) else Whole (number Int32 bytes))))))
        ≡ (if two then TextKind else (if five then Bits32Kind else (if six then Bits64Kind else WholeKind)))
    by true true three five six a b c d e = let no : ◌≡◌ {A = ℕ} 1 2 = two_kinds 1 2 a b in absurd (omega (arith, no))
    by true false three true six a b c d e = let no : ◌≡◌ {A = ℕ} 1 5 = two_kinds 1 5 a d in absurd (omega (arith, no))
    by true false three false true a b c d e = let no : ◌≡◌ {A = ℕ} 1 6 = two_kinds 1 6 a e in absurd (omega (arith, no))
    by true false three false false a b c d e = refl
    by false true three five six a b c d e = refl
    by false false true true six a b c d e = let no : ◌≡◌ {A = ℕ} 3 5 = two_kinds 3 5 c d in absurd (omega (arith, no))
    by false false true false true a b c d e = let no : ◌≡◌ {A = ℕ} 3 6 = two_kinds 3 6 c e in absurd (omega (arith, no))
    by false false true false false a b c d e = refl
    by false false false true six a b c d e = refl
    by false false false false true a b c d e = refl
    by false false false false false a b c d e = refl

-- a text is no longer than its bytes
value-FitsIn : (width kind : ℕ) (bytes : List ℕ) → (kind ≡ 2 → length bytes ≤ width) → FitsIn width (attr_value kind bytes)
value-FitsIn width kind bytes room = by (kind == 1) (kind == 2) (kind == 3) (kind == 5) (kind == 6) refl
  where
    text : List ℕ
    text = take_while (λ b. not (b == 0)) bytes

    by : (one two three five six : Bool) → (kind == 2) ≡ two →
        FitsIn width (if one then Whole (number Int8 bytes) else (if two then Text (take_while (λ b. not (b == 0)) bytes)
        else (if three then Whole (number Int16 bytes) else (if five then Bits32 (from_be_bytes w32 bytes)
        else (if six then Bits64 (from_be_bytes w64 bytes) else Whole (number Int32 bytes))))))
    by true two three five six e = tt
    by false true three five six e = omega (arith, length-take (prefix_len (λ b. not (b == 0)) bytes) bytes, room (eqb-true kind 2 e))
    by false false true five six e = tt
    by false false false true six e = tt
    by false false false false true e = tt
    by false false false false false e = tt

-- the greatest room is at least that of each
rooms : (vars : List AttrVar) (start : ℕ)
    → (start ≤ fold (λ most (a : AttrVar). max most a.column.size) start vars)
    × All (λ (a : AttrVar). a.column.size ≤ fold (λ most (b : AttrVar). max most b.column.size) start vars) vars
rooms [] start = (omega arith, All-nil (λ (a : AttrVar). a.column.size ≤ start))
rooms (a ∷ vars) start =
    let others = rooms vars (max start a.column.size) in (
      omega (arith, others.0),
      All-cons (λ (b : AttrVar). b.column.size ≤ fold (λ most (c : AttrVar). max most c.column.size) (max start a.column.size) vars) a vars
          (omega (arith, others.0)) others.1,
    )

-- what holds of those that pass a test
All-unfiltered : {A : Type 0} (p : A → Bool) (P : A → Type 0) (xs : List A) → All P (filter p xs) → All (λ x. p x ≡ true → P x) xs
All-unfiltered p P [] all = All-nil (λ x. p x ≡ true → P x)
All-unfiltered p P (x ∷ xs) all = by (p x) refl (All-unfiltered p P xs)
  where
    by : (b : Bool) → p x ≡ b → (All P (filter p xs) → All (λ y. p y ≡ true → P y) xs) → All (λ y. p y ≡ true → P y) (x ∷ xs)
    by true e others =
        let kept : All P (x ∷ filter p xs) = (rw e at all) in
        All-cons (λ y. p y ≡ true → P y) x xs (λ _. All-head P x (filter p xs) kept) (others (All-tail P x (filter p xs) kept))
    by false e others =
        let kept : All P (filter p xs) = (rw e at all) in
        All-cons (λ y. p y ≡ true → P y) x xs (λ is. let no : true ≡ false = sym is ∙ e in absurd (cc)) (others kept)

width_by : (b : Bool) (n : ℕ) → (n == 0) ≡ b → n ≤ (if b then 256 else n)
width_by true n e = omega (arith, eqb-true n 0 e)
width_by false n e = omega arith

text_fits : (vars : List AttrVar) → All (λ (a : AttrVar). a.kind ≡ 2 → a.column.size ≤ width_of vars) vars
text_fits vars i d inside is =
    let room =
    All-unfiltered (λ (a : AttrVar). a.kind == 2) (λ (a : AttrVar). a.column.size ≤ text_room vars) vars
    (rooms (filter (λ (a : AttrVar). a.kind == 2) vars) 0).1 in
    let text : ((get_or vars i d).kind == 2) ≡ true = rw is refl in
    omega (arith, room i d inside text, width_by (text_room vars == 0) (text_room vars) refl)

same_columns : (bytes : List ℕ) (vars : List AttrVar) (k : ℕ) → map column_of (attrs_for bytes vars k) ≡ attr_columns vars
same_columns bytes [] k = refl
same_columns bytes (a ∷ vars) k =
    ap (λ kind. (record { name = a.name; kind = kind }) ∷ map column_of (attrs_for bytes vars k)) (kind_of-attr_value a.kind (cell bytes a.column k))
    ∙ ap (λ others. (record { name = a.name; kind = attr_kind a.kind }) ∷ others) (same_columns bytes vars k)

cell_length : (bytes : List ℕ) (c : Column) (k : ℕ) → length (cell bytes c k) ≤ c.size
cell_length bytes c k = omega (arith, length-take c.size (drop (c.first + k * c.step) bytes))

cell-AreBytes : (bytes : List ℕ) (c : Column) (k : ℕ) → AreBytes bytes → AreBytes (cell bytes c k)
cell-AreBytes bytes c k small = All-take (λ b. b < 256) c.size (drop (c.first + k * c.step) bytes) (All-drop (λ b. b < 256) (c.first + k * c.step) bytes small)

-- HEADS

record IsKeptHead (shape : FileShape) (head : Head) : Type 0 where
  id : FitsSigned w32 head.id
  stamp : head.stamp < 2 ^ 64
  sec : FitsSigned w32 head.sec
  nsec : FitsSigned w32 head.nsec
  columns : HasColumns shape head.attrs
  attrs : All (λ t. IsKeptValue t.value) head.attrs

int_for-fits : (bytes : List ℕ) (column : Option Column) (k : ℕ) (missing : ℤ) → AreBytes bytes → FitsSigned w32 missing
    → FitsSigned w32 (int_for bytes column k missing)
int_for-fits bytes None k missing small fits = fits
int_for-fits bytes (Some c) k missing small fits = number-IsSample Int32 (cell bytes c k) (cell-AreBytes bytes c k small)

bits_for-fits : (bytes : List ℕ) (column : Option Column) (k : ℕ) → AreBytes bytes → bits_for bytes column k < 2 ^ 64
bits_for-fits bytes None k small = omega arith
bits_for-fits bytes (Some c) k small = below_64 (cell bytes c k) (cell-AreBytes bytes c k small)

head_for-IsKeptHead : (bytes : List ℕ) (h : Header) (v : HeadVar) (kind : SampleType) (k : ℕ) → AreBytes bytes → k < 65536
    → IsKeptHead (shape_of h v kind) (head_for bytes (times_of h) (attr_vars h) k)
head_for-IsKeptHead bytes h v kind k small few =
    let vars = attr_vars h in
    record {
      id = int_for-fits bytes (times_of h).id k (pos (k + 1)) small (omega (arith, ints, few));
      stamp = bits_for-fits bytes (times_of h).stamp k small;
      sec = int_for-fits bytes (times_of h).sec k (pos 0) small (omega (arith, ints));
      nsec = int_for-fits bytes (times_of h).nsec k (pos 0) small (omega (arith, ints));
      columns = record {
        same = same_columns bytes vars k;
        texts =
            All-map (λ (t : Attr). FitsIn (width_of vars) t.value)
            (λ (a : AttrVar). record { name = a.name; value = attr_value a.kind (cell bytes a.column k) }) vars
            (λ i d inside. value-FitsIn (width_of vars) (get_or vars i d).kind (cell bytes (get_or vars i d).column k)
            (λ is. omega (arith, text_fits vars i d inside is, cell_length bytes (get_or vars i d).column k)));
      };
      attrs = All-map (λ (t : Attr). IsKeptValue t.value) (λ (a : AttrVar). record { name = a.name; value = attr_value a.kind (cell bytes a.column k) }) vars
          (λ i d inside. attr_value-IsKeptValue (get_or vars i d).kind (cell bytes (get_or vars i d).column k)
          (cell-AreBytes bytes (get_or vars i d).column k small));
    }

heads_of-IsKeptHead : (bytes : List ℕ) (h : Header) (v : HeadVar) (kind : SampleType) (frames : ℕ) → AreBytes bytes → frames ≤ 65536
    → All (IsKeptHead (shape_of h v kind)) (heads_of bytes h frames)
heads_of-IsKeptHead bytes h v kind frames small few =
    All-map (IsKeptHead (shape_of h v kind)) (head_for bytes (times_of h) (attr_vars h)) (range_with_len 0 frames)
    (λ i d inside.
    let within : i < frames = omega (arith, inside, length-range_with_len 0 frames) in
    let number = get_or-range_with_len 0 frames i d within in
    head_for-IsKeptHead bytes h v kind (get_or (range_with_len 0 frames) i d) small (omega (arith, within, few, number)))

-- ARRAYS

-- what each head gives its array
each_array : (P : Array → Type 0) (Q : Head → Type 0) (shape : FileShape) (bytes : List ℕ) (place step : ℕ) (heads : List Head) →
    ((head : Head) (at : ℕ) → Q head → P (array_of head shape.kind shape.dims (take (frame_size shape) (drop at bytes)))) → All Q heads
    → All P (arrays_at shape bytes place step heads)
each_array P Q shape bytes place step [] each all = All-nil P
each_array P Q shape bytes place step (head ∷ heads) each all =
    All-cons P (array_of head shape.kind shape.dims (take (frame_size shape) (drop place bytes))) (arrays_at shape bytes (place + step) step heads)
    (each head place (All-head Q head heads all)) (each_array P Q shape bytes (place + step) step heads each (All-tail Q head heads all))

array-IsKept : (shape : FileShape) (bytes : List ℕ) (head : Head) (at : ℕ) → AreBytes bytes → IsKeptHead shape head
    → IsKept (array_of head shape.kind shape.dims (take (frame_size shape) (drop at bytes)))
array-IsKept shape bytes head at small kept = record {
  id = kept.id;
  stamp = kept.stamp;
  sec = kept.sec;
  nsec = kept.nsec;
  samples =
      samples_of-IsSample shape.kind
      (take (frame_size shape) (drop at bytes)) (All-take (λ b. b < 256) (frame_size shape) (drop at bytes) (All-drop (λ b. b < 256) at bytes small));
  attrs = kept.attrs;
}

-- THE STACK

stack_with-IsKeptStack : (bytes : List ℕ) (h : Header) (v : HeadVar) (kind : SampleType) → AreBytes bytes → stack_of bytes ≡ Ok (stack_with bytes h v kind)
    → Reads bytes h → IsAccepted h v kind → IsKeptStack (stack_with bytes h v kind)
stack_with-IsKeptStack bytes h v kind small is reads accepted =
    let shape = shape_of h v kind in
    let heads = heads_of bytes h (frame_count h v) in
    let column = read.column_of h v in
    let fits = accepted-FitsFile bytes h v kind (Reads-IsSoundHeader bytes h reads) accepted in
    let sound : IsStack (stack_with bytes h v kind) = stack_at-IsStack shape heads bytes column.first column.step fits in
    let count : frame_count h v ≡ length heads = sym (length-map-range_with_len (head_for bytes (times_of h) (attr_vars h)) 0 (frame_count h v)) in
    let kept = heads_of-IsKeptHead bytes h v kind (frame_count h v) small (omega (arith, count, fits.few_frames)) in
    let columns = each_array (λ a. HasColumns shape a.attrs) (IsKeptHead shape) shape bytes column.first column.step heads (λ head at one. one.columns) kept in
    record {
      writable = stack_of-IsWritable bytes (stack_with bytes h v kind) is;
      names = shape_of-HasTextNames bytes h v kind reads;
      dims = shape_of-HasSmallDims h v kind (Reads-values bytes h reads small);
      each = λ i d inside. record {
        kind = (sound.frames i d inside).kind;
        dims = (sound.frames i d inside).dims;
        count = (sound.frames i d inside).count;
        attrs = columns i d inside;
      };
      kept = each_array IsKept (IsKeptHead shape) shape bytes column.first column.step heads (λ head at one. array-IsKept shape bytes head at small one) kept;
      few = sound.few_frames;
    }

ok_or : StackValue → Result StackValue StackFault → StackValue
ok_or other (Ok s) = s
ok_or other (Err fault) = other

-- a stack that was read is one whose file is read back
pub stack_of-IsKeptStack : (bytes : List ℕ) (s : StackValue) → AreBytes bytes → stack_of bytes ≡ Ok s → IsKeptStack s
unfolding stack_of ok_or
stack_of-IsKeptStack bytes s small is =
    let a = bind-Ok (or_cdf (header_of bytes)) _ s is in
    let b = bind-Ok (frames_of a.0) _ s a.2 in
    let reads = header_of-found bytes a.0 (header_read (header_of bytes) a.0 a.1) in
    let same : stack_with bytes a.0 b.0.0 b.0.1 ≡ s = ap (ok_or s) b.2 in
    subst IsKeptStack same (stack_with-IsKeptStack bytes a.0 b.0.0 b.0.1 small (is ∙ ap Ok (sym same)) reads (frames_of-IsAccepted a.0 b.0.0 b.0.1 b.1))
