-- What it says that a header's frames are accepted.
use Rattle.std.proofs.Common.{◌≡◌, ℕ, Bool, true, false, List, length, Option, Some, None, Result, Ok, Err, refl, ap, sym, ◌∙◌, subst, ℤ, [], ◌∷◌, negsuc}
use Rattle.std.specs.Prelude.{nat_le, ◌&&◌, ok_or, codes, if◌then◌else◌, ◌==◌}
use Rattle.std.proofs.lemmas.Bool.{and_parts, eqb-true}
use Rattle.nd_base.specs.declared.array.SampleType.{SampleType}
use Rattle.nd_base.specs.declared.array.SampleType.TheVariants.{Int8, UInt8, Int16, UInt16, Int32, UInt32}
use Rattle.nd_base.specs.Samples.{width}
use Rattle.nd_base.specs.Shapes.{most_samples}
use Rattle.cdf_read.specs.Places.{value_size}
use Rattle.cdf_read.specs.declared.head.HeadVar.{HeadVar}
use Rattle.cdf_read.specs.declared.head.Header.{Header}
use Rattle.nd_stack.specs.declared.fault.StackFault.{StackFault}
use Rattle.nd_stack.specs.declared.fault.StackFault.TheVariants.{NoArrayData, Rank, TooManyFrames, TooManySamples, FrameCount, AttrShape}
use Rattle.nd_stack.specs.declared.fault.StackFault.TheVariants as refusal
use Rattle.nd_stack.specs.Answers.{◌>>=◌, need}
use Rattle.nd_stack.specs.Columns.{variable_of, frame_count, frame_values}
use Rattle.nd_stack.specs.SampleTypes.{sample_type, type_by, type_numbered, numbered, stored_as, ints}
use Rattle.nd_stack.specs.FrameVars.{frame_misfit}
use Rattle.nd_stack.specs.AttrVars.{attr_misfit}
use Rattle.nd_stack.specs.StackRules.{frames_of, no_misfit}

pub bind-Ok : {A B : Type 0} (first : Result A StackFault) (next : A → Result B StackFault) (y : B) → (first >>= next) ≡ Ok y
    → (x : A) × (first ≡ Ok x) × (next x ≡ Ok y)
bind-Ok (Ok x) next y e = (x, refl, e)
bind-Ok (Err fault) next y e = absurd (cc)

need-Ok : (b : Bool) (fault : StackFault) (u : Unit {0}) → need b fault ≡ Ok u → b ≡ true
need-Ok true fault u e = refl
need-Ok false fault u e = absurd (cc)

found-Ok : {A : Type 0} (o : Option A) (fault : StackFault) (x : A) → ok_or o fault ≡ Ok x → o ≡ Some x
found-Ok None fault x e = absurd (cc)
found-Ok (Some y) fault x e = cc

fits-Ok : (o : Option ℕ) (fault : ℕ → StackFault) (u : Unit {0}) → no_misfit o fault ≡ Ok u → o ≡ None
fits-Ok None fault u e = refl
fits-Ok (Some n) fault u e = absurd (cc)

-- a header whose frames are accepted: the variable, its rank, its sizes, and that the others fit it
pub record IsAccepted (h : Header) (v : HeadVar) (kind : SampleType) : Type 0 where
  pub found : variable_of h (codes "array_data") ≡ Some v
  pub typed : sample_type h v.kind ≡ Ok kind
  pub least : nat_le 2 (length v.dims) ≡ true
  pub most : nat_le (length v.dims) 11 ≡ true
  pub frames : nat_le (frame_count h v) 65536 ≡ true
  pub samples : nat_le (frame_values h v) most_samples ≡ true
  pub times : frame_misfit h (frame_count h v) ≡ None
  pub attrs : attr_misfit h (frame_count h v) ≡ None

abbrev checks : Header → HeadVar → SampleType → Result (HeadVar × SampleType) StackFault
checks h v kind = do
  rank ← need (nat_le 2 (length v.dims) && nat_le (length v.dims) 11) (Rank (length v.dims))
  frames ← need (nat_le (frame_count h v) 65536) (TooManyFrames (frame_count h v))
  samples ← need (nat_le (frame_values h v) most_samples) (TooManySamples (frame_values h v))
  times ← no_misfit (frame_misfit h (frame_count h v)) FrameCount
  attrs ← no_misfit (attr_misfit h (frame_count h v)) AttrShape
  Ok (v, kind)

abbrev first_or : HeadVar → Result (HeadVar × SampleType) StackFault → HeadVar
first_or other (Ok found) = found.0
first_or other (Err fault) = other

abbrev second_or : SampleType → Result (HeadVar × SampleType) StackFault → SampleType
second_or other (Ok found) = found.1
second_or other (Err fault) = other

pair-first : (a b : HeadVar) (s t : SampleType) → ◌≡◌ {A = Result (HeadVar × SampleType) StackFault} (Ok (a, s)) (Ok (b, t)) → (a ≡ b) × (s ≡ t)
pair-first a b s t e = (ap (first_or a) e, ap (second_or s) e)

accepted_by : (h : Header) (w v : HeadVar) (t kind : SampleType) → variable_of h (codes "array_data") ≡ Some w → sample_type h w.kind ≡ Ok t
    → checks h w t ≡ Ok (v, kind) → IsAccepted h v kind
accepted_by h w v t kind found typed e =
    let c = bind-Ok (need (nat_le 2 (length w.dims) && nat_le (length w.dims) 11) (Rank (length w.dims))) _ (v, kind) e in
    let d = bind-Ok (need (nat_le (frame_count h w) 65536) (TooManyFrames (frame_count h w))) _ (v, kind) c.2 in
    let f = bind-Ok (need (nat_le (frame_values h w) most_samples) (TooManySamples (frame_values h w))) _ (v, kind) d.2 in
    let g = bind-Ok (no_misfit (frame_misfit h (frame_count h w)) FrameCount) _ (v, kind) f.2 in
    let i = bind-Ok (no_misfit (attr_misfit h (frame_count h w)) AttrShape) _ (v, kind) g.2 in
    let ranks = and_parts (nat_le 2 (length w.dims)) (nat_le (length w.dims) 11) (need-Ok _ _ c.0 c.1) in
    let same = pair-first w v t kind i.2 in
    let all : IsAccepted h w t = record {
      found = found;
      typed = typed;
      least = ranks.0;
      most = ranks.1;
      frames = need-Ok _ _ d.0 d.1;
      samples = need-Ok _ _ f.0 f.1;
      times = fits-Ok _ _ g.0 g.1;
      attrs = fits-Ok _ _ i.0 i.1;
    } in
    subst (λ x. IsAccepted h x kind) same.0 (subst (IsAccepted h w) same.1 all)

pub frames_of-IsAccepted : (h : Header) (v : HeadVar) (kind : SampleType) → frames_of h ≡ Ok (v, kind) → IsAccepted h v kind
unfolding frames_of
frames_of-IsAccepted h v kind e =
    let a = bind-Ok (ok_or (variable_of h (codes "array_data")) NoArrayData) _ (v, kind) e in
    let b = bind-Ok (sample_type h a.0.kind) (checks h a.0) (v, kind) a.2 in
    accepted_by h a.0 v b.0 kind (found-Ok (variable_of h (codes "array_data")) NoArrayData a.0 a.1) b.1 b.2

as_tested : (b : Bool) (s : SampleType) (d : ℤ) (kind : ℕ) (t : SampleType) → (stored_as s == kind) ≡ b
    → (if b then Ok s else Err (refusal.SampleType d)) ≡ Ok t → stored_as t ≡ kind
as_tested true s d kind t is e = let same : s ≡ t = cc in ap stored_as (sym same) ∙ eqb-true (stored_as s) kind is
as_tested false s d kind t is e = absurd (cc)

numbered_as : (o : Option SampleType) (d : ℤ) (kind : ℕ) (t : SampleType) → type_numbered o d kind ≡ Ok t → stored_as t ≡ kind
numbered_as None d kind t e = absurd (cc)
numbered_as (Some s) d kind t e = as_tested (stored_as s == kind) s d kind t refl e

stored_by : (one three four two five : Bool) (kind : ℕ) (t : SampleType) → (kind == 1) ≡ one → (kind == 3) ≡ three → (kind == 4) ≡ four →
    (if one then Ok Int8 else (if three then Ok Int16 else (if four then Ok Int32
    else (if two then Err (refusal.SampleType (negsuc 1)) else (if five then Err (refusal.SampleType (negsuc 4)) else Err (refusal.SampleType (negsuc 5)))))))
    ≡ Ok t → stored_as t ≡ kind
stored_by true three four two five kind t a b c e = let same : Int8 ≡ t = cc in ap stored_as (sym same) ∙ sym (eqb-true kind 1 a)
stored_by false true four two five kind t a b c e = let same : Int16 ≡ t = cc in ap stored_as (sym same) ∙ sym (eqb-true kind 3 b)
stored_by false false true two five kind t a b c e = let same : Int32 ≡ t = cc in ap stored_as (sym same) ∙ sym (eqb-true kind 4 c)
stored_by false false false true five kind t a b c e = absurd (cc)
stored_by false false false false true kind t a b c e = absurd (cc)
stored_by false false false false false kind t a b c e = absurd (cc)

typed_by : (values : List ℤ) (kind : ℕ) (t : SampleType) → type_by values kind ≡ Ok t → stored_as t ≡ kind
typed_by [] kind t e = stored_by (kind == 1) (kind == 3) (kind == 4) (kind == 2) (kind == 5) kind t refl refl refl e
typed_by (d ∷ others) kind t e = numbered_as (numbered d) d kind t e

-- samples are stored as values of the variable's type
pub sample_type-stored : (h : Header) (kind : ℕ) (t : SampleType) → sample_type h kind ≡ Ok t → stored_as t ≡ kind
sample_type-stored h kind t e = typed_by (ints h (codes "dataType")) kind t e

-- and have their size
pub stored_as-size : (t : SampleType) → value_size (stored_as t) ≡ width t
stored_as-size Int8 = refl
stored_as-size UInt8 = refl
stored_as-size Int16 = refl
stored_as-size UInt16 = refl
stored_as-size Int32 = refl
stored_as-size UInt32 = refl
