-- What comes of the arrays of a stack.
use Rattle.std.proofs.Common.{◌≡◌, ℕ, ◌*◌, ◌<◌, ◌≤◌, List, ◌++◌, Some, length, get_or, refl, ap, sym, subst, ◌∙◌, arith}
use Rattle.std.specs.Prelude.{slice_get, map, All, IfSome}
use Rattle.std.specs.Option.{option_map}
use Rattle.std.proofs.lemmas.List.{length-map}
use Rattle.std.proofs.lemmas.Option.{slice_get-map, get_or_from_slice_get}
use Rattle.nd_base.specs.declared.array.Dim.{Dim}
use Rattle.nd_base.specs.declared.array.Head.{Head}
use Rattle.nd_base.specs.declared.attribute.FileShape.{FileShape}
use Rattle.nd_base.specs.Array.{Array, StackValue}
use Rattle.nd_base.specs.Forms.{longest_of}
use Rattle.nd_base.specs.Rebuilt.{frame-rebuilt}
use Rattle.nd_base.specs.Samples.{width, samples_of}
use Rattle.nd_base.specs.SampleLaws.{AreBytes, length-samples_of, samples_of-IsSample}
use Rattle.nd_base.specs.Shapes.{array_of, sample_count}
use Rattle.nd_base.specs.Stacks.{head_of}
use Rattle.cdf_write.specs.Layout.{row}
use Rattle.cdf_write.specs.Lengths.{length_of}
use Rattle.cdf_write.specs.Writable.{IsWritable, HasShape}
use Rattle.nd_stack.specs.KeptStacks.{IsKeptStack, IsKeptStack-ReadsBack}
use Rattle.nd_stack.specs.LayoutShape.{HasSmallDims}
use Rattle.nd_stack.specs.RoundTrip.{IsKept, ReadsBack}
use Rattle.stack_file.specs.ChangedStacks.{changed_shape, changed_stack}
use Rattle.stack_file.specs.Gathered.{IsSource, IsGiven, IsAdded}

-- ONE ARRAY

module _ (dims : List Dim → List Dim) (change : Array → Array) (s : StackValue) (shape : FileShape) (source : IsSource dims s shape)
    (k : ℕ) (head : Head) (samples out : List ℕ) (within : k < length s.arrays)
    (own : IfSome (slice_get s.arrays k) (λ a. head_of a ≡ head)) (held : IfSome (slice_get s.arrays k) (λ a. samples_of s.shape.kind samples ≡ a.samples)) where
  was : Array
  was = array_of head s.shape.kind s.shape.dims samples

  found : slice_get s.arrays k ≡ Some was
  unfolding was
  found =
      frame-rebuilt s.arrays s.shape k head samples within
      (λ i d h. record { kind = (source.kept.each i d h).kind; dims = (source.kept.each i d h).dims; count = (source.kept.each i d h).count }) own held

  -- what comes of it has the samples that it was filled with
  changed-at : ((h : Head) → change (array_of h s.shape.kind s.shape.dims samples) ≡ array_of h s.shape.kind (dims s.shape.dims) out)
      → slice_get (map change s.arrays) k ≡ Some (array_of head shape.kind shape.dims out)
  unfolding was
  changed-at changed =
      slice_get-map change s.arrays k ∙ ap (option_map change) found ∙ ap Some (changed head)
      ∙ ap (λ (sh : FileShape). Some (array_of head sh.kind sh.dims out)) (sym source.same)

  -- its shape is that of the changed arrays, and its file gives it back
  changed-IsGiven : length out ≡ sample_count (dims s.shape.dims) * width s.shape.kind → AreBytes out
      → IsGiven (changed_shape dims s.shape) (array_of head s.shape.kind (dims s.shape.dims) out)
  unfolding was
  changed-IsGiven size bytes =
      let item : get_or s.arrays k was ≡ was = get_or_from_slice_get s.arrays k was was found in
      let has : HasShape s.shape was = subst (HasShape s.shape) item (source.kept.each k was within) in
      let kept : IsKept was = subst IsKept item (source.kept.kept k was within) in
      record {
        has = record {
          kind = refl;
          dims = refl;
          count = length-samples_of s.shape.kind (sample_count (dims s.shape.dims)) out size;
          attrs = record { same = has.attrs.same; texts = has.attrs.texts };
        };
        kept = record {
          id = kept.id;
          stamp = kept.stamp;
          sec = kept.sec;
          nsec = kept.nsec;
          samples = samples_of-IsSample s.shape.kind out bytes;
          attrs = kept.attrs;
        };
      }

  -- so its row was added
  pub changed-IsAdded : (old : FileShape) (bytes before now : List ℕ) → old ≡ s.shape → bytes ≡ out → AreBytes bytes
      → length out ≡ sample_count (dims old.dims) * width old.kind
      → ((h : Head) → change (array_of h old.kind old.dims samples) ≡ array_of h old.kind (dims old.dims) out)
      → now ≡ before ++ row shape (array_of head shape.kind shape.dims bytes) →
      IsAdded shape (map change s.arrays) k before now
  changed-IsAdded old bytes before now same filled small size changed added = record {
    array = array_of head shape.kind shape.dims out;
    at = changed-at (subst (λ (sh : FileShape). (h : Head) → change (array_of h sh.kind sh.dims samples) ≡ array_of h sh.kind (dims sh.dims) out) same changed);
    given =
        subst (λ (sh : FileShape). IsGiven sh (array_of head sh.kind sh.dims out)) (sym source.same)
        (changed-IsGiven (subst (λ (sh : FileShape). length out ≡ sample_count (dims sh.dims) * width sh.kind) same size) (subst AreBytes filled small));
    rows = added ∙ ap (λ bs. before ++ row shape (array_of head shape.kind shape.dims bs)) filled;
  }

-- THE STACK

module _ (dims : List Dim → List Dim) (change : Array → Array) (s : StackValue) (shape : FileShape) (source : IsSource dims s shape)
    (small : HasSmallDims shape) (given : All (IsGiven shape) (map change s.arrays)) where
  -- the changed stack can be written, and its file gives it back
  pub changed-IsKeptStack : IsKeptStack (changed_stack change dims s)
  changed-IsKeptStack =
      let all : All (IsGiven (changed_shape dims s.shape)) (map change s.arrays) =
      subst (λ (sh : FileShape). All (IsGiven sh) (map change s.arrays)) source.same given in
      record {
        writable = subst IsWritable source.same source.writable;
        names = record { attrs = source.kept.names.attrs; extras = source.kept.names.extras };
        dims = subst HasSmallDims source.same small;
        each = λ i d h. (all i d h).has;
        kept = λ i d h. (all i d h).kept;
        few = omega (arith, length-map s.arrays change, source.kept.few);
      }

  pub changed-ReadsBack : length_of shape (length s.arrays) ≤ longest_of shape.form → 1 ≤ length s.arrays → ReadsBack shape (map change s.arrays)
  changed-ReadsBack within some =
      let count : length s.arrays ≡ length (map change s.arrays) = sym (length-map s.arrays change) in
      subst (λ (sh : FileShape). ReadsBack sh (map change s.arrays)) (sym source.same)
      (IsKeptStack-ReadsBack (changed_stack change dims s) changed-IsKeptStack (omega (arith, count, some))
      (subst (λ (sh : FileShape). length_of sh (length (map change s.arrays)) ≤ longest_of sh.form) source.same
      (subst (λ n. length_of shape n ≤ longest_of shape.form) count within)))
