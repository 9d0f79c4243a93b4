-- What a write and an end make of the files of a node.
use Rattle.std.proofs.Common.{◌≡◌, ℕ, ◌+◌, ◌/◌, ◌%◌, ◌^◌, ◌<◌, ◌≤◌, Bool, true, false, ltb, List, [], ◌∷◌, ◌++◌, length, Option, None, Some, Result, Ok}
use Rattle.std.proofs.Common.{Err, inl, inr, OnOk, IfErr, refl, sym, ap, subst, ◌∙◌, arith}
use Rattle.std.specs.Prelude.{is_some}
use Rattle.std.proofs.lemmas.Bool.{ltb-true, ltb-false}
use Rattle.std.proofs.Math.Nat.{mod-lt, div-le_self}
use Rattle.std.proofs.lemmas.Nat.{div-add-mod'}
use Rattle.nd_base.specs.Array.{Array}
use Rattle.nd_base.specs.declared.attribute.FileShape.{FileShape}
use Rattle.edge_traits.specs.Files.{Files, file_at, with_file, HasFile}
use Rattle.cdf_write.specs.Layout.{header, layout}
use Rattle.file_out.specs.declared.fault.SaveFault.{SaveFault}
use Rattle.file_out.specs.declared.fault.SaveFault.TheVariants.{Failed, OutOfMemory}
use Rattle.file_out.specs.Saving.{BeginStops}
use Rattle.file_out.specs.Streams.{Stream, HasRows, MayCount, begun_file}
use Rattle.graph_files.specs.Groups.{group_of, whole_file, HasBytes, file_of}
use Rattle.graph_files.specs.GroupLaws.{length-group}
use Rattle.graph_files.specs.NodeFiles.{NodeFile, IsChangedAt, Wrote, IsTorn, IsPlaceAfter, AreWritten, AreWrittenBut}
use Rattle.graph_files.specs.NodeFiles.{AreEnded, HasNumrecs, IsHeldBack, WriteStops, EndStops, EndTorn, RowGoes, RowStops, name_of, stream_of}
use Rattle.graph_files.specs.NodeFileLaws.{open-is, open-has, none-is, empty, written-begun, written-more, written-whole, written-but, open-but, none-open}
use Rattle.graph_files.specs.NodeFileLaws.{cases_eq, changed-then}
use Rattle.graph_files.proofs.Torn.{torn-begin, torn-count, torn-then, changed-begin}

pub either : {T : Type 0} {P C : Type 0} {Q : SaveFault → Type 0} (r : Result T SaveFault) → OnOk r P → IfErr r Q → (P → C)
    → ((fault : SaveFault) → Q fault → C) → C
either (Ok x) ok err f h = f ok
either (Err e) ok err f h = h e err

-- the number of records of what is open
numrecs-goes : (b : Bool) (f : Stream) (rows : List Array) (o : Option Stream) (u : Option Files) (numrecs : Option ℕ) → f.numrecs ≡ numrecs
    → RowGoes b f rows o u → HasNumrecs numrecs o
numrecs-goes true f rows o u numrecs is goes = subst (HasNumrecs numrecs) (sym goes.0) is
numrecs-goes false f rows o u numrecs is goes = subst (HasNumrecs numrecs) (sym goes.0) tt

numrecs-stops : (fault : SaveFault) (size : ℕ) (f : Stream) (a : Array) (o : Option Stream) (t u : Option Files) (numrecs : Option ℕ) → f.numrecs ≡ numrecs
    → RowStops fault size f a o t u → HasNumrecs numrecs o
numrecs-stops OutOfMemory size f a o t u numrecs is stops = subst (HasNumrecs numrecs) (sym stops.0) is
numrecs-stops Failed size f a o t u numrecs is stops = subst (HasNumrecs numrecs) (sym stops.0) tt

pub numrecs-after : {T : Type 0} (r : Result T SaveFault) (b : Bool) (size : ℕ) (f : Stream) (rows : List Array) (a : Array) (o : Option Stream)
    (t u : Option Files) (numrecs : Option ℕ) → f.numrecs ≡ numrecs
    → HasRows t f rows → OnOk r ((arrays : List Array) → HasRows t f arrays → RowGoes b f (arrays ++ a ∷ []) o u)
    → IfErr r (λ fault. RowStops fault size f a o t u) → HasNumrecs numrecs o
numrecs-after r b size f rows a o t u numrecs is has ok err =
    either r ok err (λ goes. numrecs-goes b f (rows ++ a ∷ []) o u numrecs is (goes rows has))
    (λ fault stops. numrecs-stops fault size f a o t u numrecs is stops)

pub ended-by : (b : Bool) (f : Stream) (rows : List Array) (o : Option Stream) (u : Option Files) (n count : ℕ) → ltb n count ≡ b
    → n ≡ count → RowGoes b f rows o u → o ≡ None
ended-by true f rows o u n count is last goes = absurd (omega (arith, ltb-true n count is, last))
ended-by false f rows o u n count is last goes = goes.0

pub on-ok : {T E : Type 0} {P Q : Type 0} (r : Result T E) → OnOk r P → (P → Q) → OnOk r Q
on-ok (Ok x) h f = f h
on-ok (Err e) h f = tt

pub if-err : {T E : Type 0} {P Q : E → Type 0} (r : Result T E) → IfErr r P → ((e : E) → P e → Q e) → IfErr r Q
if-err (Ok x) h f = tt
if-err (Err e) h f = f e h

module _ (x y : NodeFile) (g p : ℕ) (small : g < 2 ^ 64) (make : FileShape → Array) (t u : Option Files) (node : y ≡ record x { current = y.current })
    (arrays : List Array) (place : IsPlaceAfter x.count arrays g p) (h : AreWritten x arrays t) where
  -- ONE ROW MORE

  goes-by : (b : Bool) → ltb (p + 1) x.count ≡ b → (numrecs : Option ℕ) → IsChangedAt t (name_of x g) u
      → RowGoes b (stream_of x g p numrecs) (group_of x.count g arrays ++ make x.shape ∷ []) y.current u → AreWritten y (arrays ++ make x.shape ∷ []) u
  goes-by true is numrecs changed goes =
      subst (λ (z : NodeFile). AreWritten z (arrays ++ make x.shape ∷ []) u) (sym (node ∙ ap (λ o. record x { current = o }) goes.0))
      (written-more x arrays g p t u place small h changed (make x.shape) numrecs (ltb-true (p + 1) x.count is) goes.1.bytes)
  goes-by false is numrecs changed goes =
      let last : p + 1 ≡ x.count = let within = place.within in let above = ltb-false (p + 1) x.count is in omega arith in
      subst (λ (z : NodeFile). AreWritten z (arrays ++ make x.shape ∷ []) u) (sym (node ∙ ap (λ o. record x { current = o }) goes.0))
      (written-whole x arrays g p t u place small h changed (make x.shape) last goes.1)

  but : y.current ≡ None → IsChangedAt t (name_of x g) u → AreWrittenBut y arrays g u
  but none_ changed =
      subst (λ (z : NodeFile). AreWrittenBut z arrays g u) (sym (node ∙ ap (λ o. record x { current = o }) none_))
      (written-but x arrays g p t u place small h changed)

  -- with a file that is open
  module _ (f : Stream) (is : x.current ≡ Some f) (changed : IsChangedAt t f.name u) where
    this : f ≡ stream_of x g p f.numrecs
    this = open-is x arrays g p t place h f is

    rows : HasRows t f (group_of x.count g arrays)
    rows = subst (λ (k : Stream). HasRows t k (group_of x.count g arrays)) (sym this) (open-has x arrays g p t place h f is)

    changed-here : IsChangedAt t (name_of x g) u
    changed-here = subst (λ (k : Stream). IsChangedAt t k.name u) this changed

    pub some-goes : (n : ℕ) → n ≡ x.count → ((rows : List Array) → HasRows t f rows → RowGoes (ltb (p + 1) n) f (rows ++ make f.shape ∷ []) y.current u)
        → AreWritten y (arrays ++ make x.shape ∷ []) u
    some-goes n many given =
        let ok = subst (λ (k : ℕ). (rows : List Array) → HasRows t f rows → RowGoes (ltb (p + 1) k) f (rows ++ make f.shape ∷ []) y.current u) many given in
        goes-by (ltb (p + 1) x.count) refl f.numrecs changed-here
        (subst (λ (k : Stream). RowGoes (ltb (p + 1) x.count) k (group_of x.count g arrays ++ make k.shape ∷ []) y.current u) this
        (ok (group_of x.count g arrays) rows))

    pub some-stops : (fault : SaveFault) (n : ℕ) → n ≡ x.count → (numrecs : Option ℕ) → f.numrecs ≡ numrecs
        → RowStops fault n f (make f.shape) y.current t u → WriteStops fault x arrays g numrecs (make x.shape) y t u
    some-stops OutOfMemory n many numrecs given stops =
        let same : y ≡ x = node ∙ ap (λ o. record x { current = o }) (stops.0 ∙ sym is) in (
          subst (λ (z : NodeFile). AreWritten z arrays u) (sym same) (subst (λ (w : Option Files). AreWritten x arrays w) (sym stops.1) h),
          subst (λ (o : Option Stream). IsHeldBack o y.current t u) (sym is) (stops.0, stops.1),
        )
    some-stops Failed n many numrecs given stops =
        let zs : List Array = group_of x.count g arrays in (
          stops.0,
          but stops.0 changed-here,
          subst (λ (o : Option Stream). IsTorn (is_some o) x.count (file_at t (name_of x g)) x.shape numrecs zs (make x.shape ∷ []) (file_at u (name_of x g)))
              (sym is)
              (subst (λ (m : Option ℕ). IsTorn true x.count (file_at t (name_of x g)) x.shape m zs (make x.shape ∷ []) (file_at u (name_of x g))) given
              (subst (λ (k : Stream). IsTorn true x.count (file_at t k.name) k.shape k.numrecs zs (make k.shape ∷ []) (file_at u k.name)) this
              (subst (λ (c : ℕ). IsTorn true c (file_at t f.name) f.shape f.numrecs zs (make f.shape ∷ []) (file_at u f.name)) many
              (stops.1 zs rows)))),
        )

  -- with a file that has to be begun
  module _ (none_ : x.current ≡ None) (numrecs : Option ℕ) where
    first : p ≡ 0
    first = none-is x arrays g p t place h none_

    no_rows : group_of x.count g arrays ≡ []
    no_rows = empty (group_of x.count g arrays) (length-group x.count arrays g p place ∙ first)

    pub begin-stops : (fault : SaveFault) → y.current ≡ None → BeginStops fault t (name_of x g) (header x.shape numrecs) u
        → WriteStops fault x arrays g numrecs (make x.shape) y t u
    begin-stops OutOfMemory still stops =
        let same : y ≡ x = node ∙ ap (λ o. record x { current = o }) (still ∙ sym none_) in (
          subst (λ (z : NodeFile). AreWritten z arrays u) (sym same) (subst (λ (w : Option Files). AreWritten x arrays w) (sym stops) h),
          subst (λ (o : Option Stream). IsHeldBack o y.current t u) (sym none_) (subst (λ (o : Option Stream). IsHeldBack None o t u) (sym still) stops),
        )
    begin-stops Failed still stops = (
      still,
      but still (changed-begin Failed t u (name_of x g) (header x.shape numrecs) stops),
      subst (λ (o : Option Stream). IsTorn (is_some o) x.count (file_at t (name_of x g)) x.shape numrecs (group_of x.count g arrays) (make x.shape ∷ [])
          (file_at u (name_of x g))) (sym none_)
          (torn-begin x.count t u (name_of x g) x.shape numrecs (group_of x.count g arrays) (make x.shape ∷ []) stops),
    )

    module _ (f : Stream) (is : f ≡ stream_of x g 0 numrecs) (v : Option Files)
        (made : v ≡ with_file t (name_of x g) (header x.shape numrecs)) (has : HasRows v f [])
        (changed : IsChangedAt v f.name u) where
      all-changed : IsChangedAt t (name_of x g) u
      all-changed = changed-then t v u (name_of x g) (Wrote (header x.shape numrecs) made) (subst (λ (k : Stream). IsChangedAt v k.name u) is changed)

      pub none-goes : (n : ℕ) → n ≡ x.count → ((rows : List Array) → HasRows v f rows → RowGoes (ltb (p + 1) n) f (rows ++ make f.shape ∷ []) y.current u)
          → AreWritten y (arrays ++ make x.shape ∷ []) u
      none-goes n many given =
          let ok = subst (λ (k : ℕ). (rows : List Array) → HasRows v f rows → RowGoes (ltb (p + 1) k) f (rows ++ make f.shape ∷ []) y.current u) many given in
          let at : f ≡ stream_of x g p numrecs = is ∙ ap (λ k. stream_of x g k numrecs) (sym first) in
          goes-by (ltb (p + 1) x.count) refl numrecs all-changed
          (subst (λ (k : Stream). RowGoes (ltb (p + 1) x.count) k (group_of x.count g arrays ++ make k.shape ∷ []) y.current u) at
          (subst (λ (zs : List Array). RowGoes (ltb (p + 1) x.count) f (zs ++ make f.shape ∷ []) y.current u) (sym no_rows) (ok [] has)))

      pub none-stops : (fault : SaveFault) (n : ℕ) → n ≡ x.count → RowStops fault n f (make f.shape) y.current v u
          → WriteStops fault x arrays g numrecs (make x.shape) y t u
      none-stops OutOfMemory n many stops =
          let f_ = stream_of x g 0 numrecs in
          let same : y ≡ record x { current = Some f_ } = node ∙ ap (λ o. record x { current = o }) (stops.0 ∙ ap Some is) in (
            subst (λ (z : NodeFile). AreWritten z arrays u) (sym same)
                (written-begun x arrays g p t u place small h all-changed numrecs first
                (subst (λ (w : Option Files). HasFile w (name_of x g) (begun_file x.shape numrecs [])) (sym stops.1)
                (subst (λ (k : Stream). HasRows v k []) is has).bytes)),
            subst (λ (o : Option Stream). IsHeldBack o y.current t u) (sym none_) (subst (λ (o : Option Stream). IsHeldBack None o t u) (sym stops.0) tt),
          )
      none-stops Failed n many stops =
          let torn =
          subst (λ (k : Stream). IsTorn true x.count (file_at v k.name) k.shape k.numrecs [] (make k.shape ∷ []) (file_at u k.name)) is
          (subst (λ (c : ℕ). IsTorn true c (file_at v f.name) f.shape f.numrecs [] (make f.shape ∷ []) (file_at u f.name)) many (stops.1 [] has)) in (
            stops.0,
            but stops.0 all-changed,
            subst (λ (o : Option Stream). IsTorn (is_some o) x.count (file_at t (name_of x g)) x.shape numrecs (group_of x.count g arrays)
                (make x.shape ∷ []) (file_at u (name_of x g))) (sym none_)
                (subst (λ (zs : List Array). IsTorn false x.count (file_at t (name_of x g)) x.shape numrecs zs (make x.shape ∷ []) (file_at u (name_of x g)))
                (sym no_rows) (torn-then x.count t v u (name_of x g) x.shape numrecs (make x.shape ∷ []) made torn)),
          )

-- THE END

whole : (shape : FileShape) (zs : List Array) → 1 ≤ length zs → whole_file shape zs ≡ Some (layout shape zs)
whole shape [] some = absurd (omega arith)
whole shape (a ∷ zs) some = refl

-- where the next array would go
pub next-place : (count : ℕ) (arrays : List Array) → 1 ≤ count → IsPlaceAfter count arrays (length arrays / count) (length arrays % count)
next-place count arrays some = record { within = mod-lt (length arrays) some; all = sym (div-add-mod' (length arrays) count) }

pub small-group : (count : ℕ) (arrays : List Array) → length arrays < 2 ^ 64 → length arrays / count < 2 ^ 64
small-group count arrays few = omega (arith, div-le_self (length arrays) count, few)

module _ (x : NodeFile) (t u : Option Files) (some : 1 ≤ x.count) (arrays : List Array) (h : AreWritten x arrays t) where
  abbrev g : ℕ
  g = length arrays / x.count

  abbrev p : ℕ
  p = length arrays % x.count

  place : IsPlaceAfter x.count arrays g p
  place = next-place x.count arrays some

  pub end-none : x.current ≡ None → u ≡ t → AreEnded x arrays u
  end-none none_ same i =
      subst (λ (w : Option Files). HasBytes w (name_of x i) (whole_file x.shape (group_of x.count i arrays))) (sym same)
      (subst (λ (o : Option Stream). HasBytes t (name_of x i) (file_of o x.shape (group_of x.count i arrays))) (none-open x (length arrays) i none_) (h.each i))

  module _ (f : Stream) (is : x.current ≡ Some f) (changed : IsChangedAt t f.name u) where
    end-this : f ≡ stream_of x g p f.numrecs
    end-this = open-is x arrays g p t place h f is

    pub end-rows : HasRows t f (group_of x.count g arrays)
    end-rows = subst (λ (k : Stream). HasRows t k (group_of x.count g arrays)) (sym end-this) (open-has x arrays g p t place h f is)

    pub end-changed : IsChangedAt t (name_of x g) u
    end-changed = subst (λ (k : Stream). IsChangedAt t k.name u) end-this changed

    pub end-some : length arrays < 2 ^ 64 → 1 ≤ f.count
        → ((rows : List Array) → HasRows t f rows → HasFile u f.name (layout f.shape rows)) → AreEnded x arrays u
    end-some few filled layout_ i =
        elim (cases_eq i g) [
          | inl here ↦
              let many : length (group_of x.count g arrays) ≡ f.count = end-rows.all in
              let file =
              subst (λ (k : Stream). HasFile u k.name (layout k.shape (group_of x.count g arrays))) end-this (layout_ (group_of x.count g arrays) end-rows) in
              subst (λ (j : ℕ). HasBytes u (name_of x j) (whole_file x.shape (group_of x.count j arrays))) (sym here)
              (subst (HasBytes u (name_of x g)) (sym (whole x.shape (group_of x.count g arrays) (omega (arith, many, filled)))) file)
          | inr apart ↦
              subst (λ (o : Option Stream). HasBytes u (name_of x i) (file_of o x.shape (group_of x.count i arrays)))
              (none-open (record x { current = None }) (length arrays) i refl)
              (written-but x arrays g p t u place (small-group x.count arrays few) h end-changed i apart)
        ]

    pub end-stops : length arrays < 2 ^ 64 → MayCount t f.name f.numrecs f.count u → EndStops x arrays t u
    end-stops few may =
        let torn =
        subst (λ (k : Stream). IsTorn true (length (group_of x.count g arrays)) (file_at t k.name) k.shape k.numrecs (group_of x.count g arrays) []
        (file_at u k.name)) end-this
        (torn-count t u f (group_of x.count g arrays) f.count end-rows may) in (
          open-but x arrays g p t u place (small-group x.count arrays few) h end-changed,
          subst (λ (o : Option Stream). EndTorn o x g (group_of x.count g arrays) t u) (sym is) torn,
        )
