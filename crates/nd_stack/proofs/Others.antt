-- The per-frame variables and the attribute variables of an accepted header have a value for each frame.
use Rattle.std.proofs.Common.{◌≡◌, ◌≢◌, ◌≤◌, ◌<◌, ◌+◌, ◌*◌, ℕ, suc, Bool, true, false, List, [], ◌∷◌, length, drop, get_or, Option, Some, None, refl, ap}
use Rattle.std.proofs.Common.{sym, ◌∙◌, arith}
use Rattle.std.specs.Prelude.{not, ◌&&◌, ◌==◌, filter, All, IfSome, codes, if◌then◌else◌}
use Rattle.std.specs.List.{find}
use Rattle.std.specs.Option.{option_map, option_map_or}
use Rattle.std.specs.Str.{bytes_eq}
use Rattle.std.proofs.Math.Nat.{one-mul}
use Rattle.std.proofs.lemmas.Bool.{and_parts, eqb-true}
use Rattle.std.proofs.lemmas.List.{nil_from_length, length-drop}
use Rattle.std.proofs.lemmas.List.Elements.{All-map, All-filter, filter_passes}
use Rattle.cdf_read.specs.declared.head.HeadVar.{HeadVar}
use Rattle.cdf_read.specs.declared.head.Header.{Header}
use Rattle.cdf_read.specs.Places.{value_size, value_count}
use Rattle.cdf_read.specs.PlaceLaws.{position-None}
use Rattle.nd_stack.specs.Columns.{variable_of, number_of, frame_count, values_size, column_of}
use Rattle.nd_stack.specs.FrameVars.{counts_frames, is_frame_var, misfit, earlier, frame_misfit, times_of}
use Rattle.nd_stack.specs.AttrVars.{is_attr_var, attr_rank, attr_misfit, attr_var, attr_vars}
use Rattle.nd_stack.specs.Sound.{IsSoundHeader, IsSoundVar, HasCell, HasTimes, HasAttr}
use Rattle.nd_stack.specs.SoundLaws.{column_of-LiesWithin}
use Rattle.nd_stack.proofs.Numbers.{All-find}

-- where no element passes, none is found
find-none : {A : Type 0} (p : A → Bool) (xs : List A) → ((k : ℕ) (d : A) → k < length xs → p (get_or xs k d) ≡ false) → find p xs ≡ None
find-none p [] fails = refl
find-none p (x ∷ xs) fails =
    let here : p x ≡ false = fails 0 x (omega arith) in
    rw here (find-none p xs (λ k d within. fails (suc k) d (omega arith)))

passes_or : (b : Bool) (found : Option HeadVar) (number : Option ℕ) (p : HeadVar → Bool) (w : HeadVar) → option_map_or p found true ≡ b
    → (if b then None else number) ≡ None → found ≡ Some w → (number ≡ None → found ≡ None) → p w ≡ true
passes_or true found number p w is e some none = ap (λ o. option_map_or p o true) (sym some) ∙ is
passes_or false found number p w is e some none = let no : found ≡ None = none e in absurd (cc)

-- the variable of a name that has no misfit has its form
named_fits : (h : Header) (frames : ℕ) (name : List ℕ) (kind : ℕ) (w : HeadVar) → misfit h frames name kind ≡ None → variable_of h name ≡ Some w
    → is_frame_var h frames kind w ≡ true
named_fits h frames name kind w e found =
    passes_or (option_map_or (is_frame_var h frames kind) (variable_of h name) true) (variable_of h name) (number_of h name)
    (is_frame_var h frames kind) w refl e found
    (λ none. find-none (λ v. bytes_eq v.name name) h.vars (position-None (λ v. bytes_eq v.name name) h.vars none))

-- one value a frame
one_value : (h : Header) (v : HeadVar) → length v.dims ≡ 1 → values_size h v ≡ value_size v.kind
one_value h v rank =
    let none : drop 1 v.dims ≡ [] = nil_from_length (drop 1 v.dims) (length-drop 1 v.dims ∙ omega (arith, rank)) in
    ap (λ numbers. value_count h.dims numbers * value_size v.kind) none ∙ one-mul (value_size v.kind)

-- a variable that counts the frames has bytes for each
counted_within : (total : ℕ) (h : Header) (v : HeadVar) (frames rank k : ℕ) → IsSoundVar total h v → counts_frames h frames rank v ≡ true → k < frames
    → (length v.dims ≡ rank) × ((column_of h v).first + k * (column_of h v).step + (column_of h v).size ≤ total)
counted_within total h v frames rank k sound counts within =
    let parts = and_parts (length v.dims == rank) (frame_count h v == frames) counts in
    let all : frame_count h v ≡ frames = eqb-true (frame_count h v) frames parts.1 in
    (eqb-true (length v.dims) rank parts.0, column_of-LiesWithin h v total sound.end k (rw all within))

fits_cell : (total : ℕ) (h : Header) (v : HeadVar) (frames kind k : ℕ) → IsSoundVar total h v → is_frame_var h frames kind v ≡ true → k < frames
    → HasCell total (value_size kind) k (column_of h v)
fits_cell total h v frames kind k sound fits within =
    let parts = and_parts (counts_frames h frames 1 v) (v.kind == kind) fits in
    let cell = counted_within total h v frames 1 k sound parts.0 within in
    (cell.1, one_value h v cell.0 ∙ ap value_size (eqb-true v.kind kind parts.1))

named_cell : (total : ℕ) (h : Header) (frames : ℕ) (name : List ℕ) (kind k : ℕ) (found : Option HeadVar) → IsSoundHeader total h
    → misfit h frames name kind ≡ None
    → variable_of h name ≡ found → k < frames → IfSome (option_map (column_of h) found) (HasCell total (value_size kind) k)
named_cell total h frames name kind k None sound e is within = tt
named_cell total h frames name kind k (Some w) sound e is within =
    fits_cell total h w frames kind k (All-find (IsSoundVar total h) (λ v. bytes_eq v.name name) h.vars w sound.vars is)
    (named_fits h frames name kind w e is) within

none_earlier : (m n : Option ℕ) → earlier m n ≡ None → (m ≡ None) × (n ≡ None)
none_earlier None n e = (refl, e)
none_earlier (Some m) None e = absurd (cc)
none_earlier (Some m) (Some n) e = absurd (cc)

-- the per-frame variables have a value for each frame
pub times-HasTimes : (total : ℕ) (h : Header) (frames k : ℕ) → IsSoundHeader total h → frame_misfit h frames ≡ None → k < frames → HasTimes total k (times_of h)
times-HasTimes total h frames k sound e within =
    let both =
    none_earlier (earlier (misfit h frames (codes "uniqueId") 4) (misfit h frames (codes "timeStamp") 6))
    (earlier (misfit h frames (codes "epicsTSSec") 4) (misfit h frames (codes "epicsTSNsec") 4)) e in
    let times = none_earlier (misfit h frames (codes "uniqueId") 4) (misfit h frames (codes "timeStamp") 6) both.0 in
    let seconds = none_earlier (misfit h frames (codes "epicsTSSec") 4) (misfit h frames (codes "epicsTSNsec") 4) both.1 in
    record {
      id = named_cell total h frames (codes "uniqueId") 4 k (variable_of h (codes "uniqueId")) sound times.0 refl within;
      stamp = named_cell total h frames (codes "timeStamp") 6 k (variable_of h (codes "timeStamp")) sound times.1 refl within;
      sec = named_cell total h frames (codes "epicsTSSec") 4 k (variable_of h (codes "epicsTSSec")) sound seconds.0 refl within;
      nsec = named_cell total h frames (codes "epicsTSNsec") 4 k (variable_of h (codes "epicsTSNsec")) sound seconds.1 refl within;
    }

counts_where : (a c : Bool) → (a && not c) ≡ false → a ≡ true → c ≡ true
counts_where true true e is = refl
counts_where true false e is = absurd (cc)
counts_where false c e is = absurd (cc)

-- what the header says of an attribute variable
pub record IsCounted (total : ℕ) (h : Header) (frames : ℕ) (v : HeadVar) : Type 0 where
  pub sound : IsSoundVar total h v
  pub counts : is_attr_var v ≡ true → counts_frames h frames (attr_rank v.kind) v ≡ true

pub all_counted : (total : ℕ) (h : Header) (frames : ℕ) → IsSoundHeader total h → attr_misfit h frames ≡ None → All (IsCounted total h frames) h.vars
all_counted total h frames sound e i d within = record {
  sound = sound.vars i d within;
  counts = counts_where (is_attr_var (get_or h.vars i d)) (counts_frames h frames (attr_rank (get_or h.vars i d).kind) (get_or h.vars i d))
      (position-None (λ v. is_attr_var v && not (counts_frames h frames (attr_rank v.kind) v)) h.vars e i d within);
}

pub counted_rank : (total : ℕ) (h : Header) (frames : ℕ) (v : HeadVar) → IsCounted total h frames v → is_attr_var v ≡ true → length v.dims ≡ attr_rank v.kind
counted_rank total h frames v counted is =
    let parts = and_parts (length v.dims == attr_rank v.kind) (frame_count h v == frames) (counted.counts is) in
    eqb-true (length v.dims) (attr_rank v.kind) parts.0

rank_of_number : (b : Bool) (kind : ℕ) → (kind == 2) ≡ b → kind ≢ 2 → ◌≡◌ {A = ℕ} (if b then 2 else 1) 1
rank_of_number true kind is other = absurd (other (eqb-true kind 2 is))
rank_of_number false kind is other = refl

has_attr : (total : ℕ) (h : Header) (frames k : ℕ) (v : HeadVar) → IsCounted total h frames v → is_attr_var v ≡ true
    → k < frames → HasAttr total k (attr_var h v)
has_attr total h frames k v counted is within =
    let cell = counted_within total h v frames (attr_rank v.kind) k counted.sound (counted.counts is) within in
    record {
      within = cell.1;
      size = λ other. one_value h v (cell.0 ∙ rank_of_number (v.kind == 2) v.kind refl other);
      least = counted.sound.least;
      most = counted.sound.most;
    }

-- the attribute variables have a value for each frame
pub attrs-HasAttr : (total : ℕ) (h : Header) (frames k : ℕ) → IsSoundHeader total h → attr_misfit h frames ≡ None → k < frames
    → All (HasAttr total k) (attr_vars h)
attrs-HasAttr total h frames k sound e within =
    let counted = All-filter is_attr_var (IsCounted total h frames) h.vars (all_counted total h frames sound e) in
    let are = filter_passes is_attr_var h.vars in
    All-map (HasAttr total k) (attr_var h) (filter is_attr_var h.vars)
    (λ i d inside. has_attr total h frames k (get_or (filter is_attr_var h.vars) i d) (counted i d inside) (are i d inside) within)
