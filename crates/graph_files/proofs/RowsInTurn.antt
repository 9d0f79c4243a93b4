-- What a write of several rows in one piece makes of the files of a node: what one write for each of them would.
use Rattle.std.proofs.Common.{◌≡◌, ℕ, suc, ◌+◌, ◌^◌, ◌<◌, ◌≤◌, Bool, true, false, ltb, List, [], ◌∷◌, ◌++◌, length}
use Rattle.std.proofs.Common.{Option, None, Some, Ok, Err, Result, inl, inr}
use Rattle.std.proofs.Common.{OnOk, OnErr, IfErr, refl, sym, ap, subst, ◌∙◌, arith, append-nil, take}
use Rattle.std.specs.List.{flat_map}
use Rattle.std.specs.Option.{ForSome}
use Rattle.std.specs.Prelude.{is_some}
use Rattle.std.proofs.lemmas.Bool.{lt-ltb}
use Rattle.nd_base.specs.Array.{Array}
use Rattle.nd_base.specs.declared.attribute.FileShape.{FileShape}
use Rattle.edge_traits.specs.Files.{Files, file_at, with_file, with_more, HasFile}
use Rattle.edge_traits.specs.FileLaws.{with_more-with_more}
use Rattle.cdf_write.specs.Layout.{header, layout, row}
use Rattle.file_out.specs.declared.fault.SaveFault.{SaveFault}
use Rattle.file_out.specs.declared.fault.SaveFault.TheVariants.{Failed, OutOfMemory}
use Rattle.file_out.specs.Saving.{BeginStops}
use Rattle.file_out.specs.Streams.{Stream, HasRows}
use Rattle.file_out.specs.StreamLaws.{HasRows-with_more, HasRows-rows}
use Rattle.graph_files.specs.Groups.{group_of}
use Rattle.graph_files.specs.GroupLaws.{length-group}
use Rattle.graph_files.specs.InTurn.{Goes, GoInTurn, TurnStops, GoOrStop, RowsGo, RowsStop}
use Rattle.graph_files.specs.NodeFiles.{NodeFile, IsChangedAt, Wrote, IsTorn, IsPlaceAfter, AreWritten, RowGoes}
use Rattle.graph_files.specs.NodeFiles.{first_count, name_of, stream_of, IsSized}
use Rattle.graph_files.specs.NodeFileLaws.{changed-then, changed-more, open-is, open-has, none-is, empty}
use Rattle.graph_files.proofs.Torn.{rows-torn, torn-begin, torn-ended, torn-then, changed-begin, changed-may}
use Rattle.graph_files.proofs.Writes.{numrecs-after, ended-by, some-goes, none-goes}

-- ONE ROW OF SEVERAL

module _ (f : Stream) (a : Array) (t : Option Files) where
  abbrev one : Option Files
  one = with_more t f.name (row f.shape a)

  abbrev next : Stream
  next = record f { count = f.count + 1 }

  -- the rows behind the first one
  rows-behind : (b : Bool) (n : ℕ) (rows : List ℕ) (o : Option Stream) (u : Option Files) → RowsGo b f (suc n) (row f.shape a ++ rows) o t u
      → RowsGo b next n rows o one u
  rows-behind true n rows o u h =
      let count : f.count + suc n ≡ f.count + 1 + n = omega arith in (
        h.0 ∙ ap (λ k. Some (record f { count = k })) count,
        h.1 ∙ sym (with_more-with_more t f.name (row f.shape a) rows),
      )
  rows-behind false n rows o u h =
      let count : f.count + suc n ≡ f.count + 1 + n = omega arith in (
        h.0,
        (
          h.1.0,
          h.1.1 ∙ sym (with_more-with_more t f.name (row f.shape a) rows),
          h.1.2,
          subst (λ k. (arrays : List Array) → HasRows h.1.0 (record f { count = k }) arrays → HasFile u f.name (layout f.shape arrays)) count h.1.3,
        ),
      )

  -- the only one
  only-row : (u : Option Files) → u ≡ with_more t f.name (row f.shape a ++ []) → u ≡ one
  only-row u made = made ∙ ap (with_more t f.name) (append-nil (row f.shape a))

  row-goes : (b : Bool) (o : Option Stream) (u : Option Files) → RowsGo b f 1 (row f.shape a ++ []) o t u → (rows : List Array) → HasRows t f rows
      → RowGoes b f (rows ++ a ∷ []) o u
  row-goes true o u h rows has = (
    h.0,
    subst (λ (w : Option Files). HasRows w next (rows ++ a ∷ [])) (sym (only-row u h.1)) (HasRows-with_more t f rows a has),
  )
  row-goes false o u h rows has = (
    h.0,
    h.1.3 (rows ++ a ∷ []) (subst (λ (w : Option Files). HasRows w next (rows ++ a ∷ [])) (sym (only-row h.1.0 h.1.1)) (HasRows-with_more t f rows a has)),
  )

  row-changed : (b : Bool) (o : Option Stream) (u : Option Files) → RowsGo b f 1 (row f.shape a ++ []) o t u → IsChangedAt t f.name u
  row-changed true o u h = changed-more t u f.name (row f.shape a ++ []) h.1
  row-changed false o u h = changed-then t h.1.0 u f.name (changed-more t h.1.0 f.name (row f.shape a ++ []) h.1.1) h.1.2

-- as one write of an array
module _ (x : NodeFile) (of : Option ℕ) (g p : ℕ) (small : g < 2 ^ 64) (a : Array) (o : Option Stream) (f : Stream) where
  goes-some : (t u : Option Files) → x.current ≡ Some f → f ≡ stream_of x g p f.numrecs → f.numrecs ≡ first_count x.late of → (rows : List Array)
      → HasRows t f rows
      → IsChangedAt t f.name u → ((rows : List Array) → HasRows t f rows → RowGoes (ltb (p + 1) x.count) f (rows ++ a ∷ []) o u) → Goes x of g p a o t u
  goes-some t u is this numrecs rows has changed given = record {
    numrecs = numrecs-after {T = Bool} (Ok true) (ltb (p + 1) x.count) 0 f rows a o t u (first_count x.late of) numrecs has given tt;
    changed = subst (λ (k : Stream). IsChangedAt t k.name u) this changed;
    written = λ arrays place h. some-goes x (record x { current = o }) g p small (λ shape. a) t u refl arrays place h f is changed x.count refl given;
    ended = λ last. ended-by (ltb (p + 1) x.count) f (rows ++ a ∷ []) o u (p + 1) x.count refl last (given rows has);
  }

  goes-none : (t v u : Option Files) → x.current ≡ None → f ≡ stream_of x g 0 (first_count x.late of)
      → v ≡ with_file t (name_of x g) (header x.shape (first_count x.late of)) → HasRows v f []
      → IsChangedAt v f.name u → ((rows : List Array) → HasRows v f rows → RowGoes (ltb (p + 1) x.count) f (rows ++ a ∷ []) o u) → Goes x of g p a o t u
  goes-none t v u none_ this made has changed given = record {
    numrecs = numrecs-after {T = Bool} (Ok true) (ltb (p + 1) x.count) 0 f [] a o v u (first_count x.late of) (ap (λ (k : Stream). k.numrecs) this) has given tt;
    changed =
        changed-then t v u (name_of x g) (Wrote (header x.shape (first_count x.late of)) made) (subst (λ (k : Stream). IsChangedAt v k.name u) this changed);
    written = λ arrays place h.
        none-goes x (record x { current = o }) g p small (λ shape. a) t u refl arrays place h none_ (first_count x.late of) f this v made
        has changed x.count refl given;
    ended = λ last. ended-by (ltb (p + 1) x.count) f ([] ++ a ∷ []) o u (p + 1) x.count refl last (given [] has);
  }

-- SEVERAL ROWS

-- a row that isn't the last one leaves the file open
inner-row : (f : Stream) (a : Array) (t : Option Files) (b : Bool) → b ≡ true → (rows : List Array) → HasRows t f rows
    → RowGoes b f (rows ++ a ∷ []) (Some (record f { count = f.count + 1 })) (with_more t f.name (row f.shape a))
inner-row f a t true is rows has = (refl, HasRows-with_more t f rows a has)
inner-row f a t false is rows has = absurd (cc)

module _ (of : Option ℕ) (g : ℕ) (small : g < 2 ^ 64) where
  -- to a file that is open
  pub rows-some : (a : Array) (more : List Array) (x : NodeFile) (p : ℕ) (o : Option Stream) (f : Stream) (t u : Option Files) → x.current ≡ Some f
      → f ≡ stream_of x g p f.numrecs → f.numrecs ≡ first_count x.late of → (rows : List Array) → HasRows t f rows
      → p + length (a ∷ more) ≤ x.count
      → RowsGo (ltb (p + length (a ∷ more)) x.count) f (length (a ∷ more)) (flat_map (row f.shape) (a ∷ more)) o t u → GoInTurn x of g p (a ∷ more) o t u
  rows-some a [] x p o f t u is this numrecs rows has low h = (
    o,
    (
      u,
      goes-some x of g p small a o f t u is this numrecs rows has (row-changed f a t (ltb (p + 1) x.count) o u h)
          (row-goes f a t (ltb (p + 1) x.count) o u h),
      (refl, refl),
    ),
  )
  rows-some a (b ∷ more) x p o f t u is this numrecs rows has low h =
      let f_ = record f { count = f.count + 1 } in
      let v = with_more t f.name (row f.shape a) in
      let y : NodeFile = record x { current = Some f_ } in
      let e : p + suc (length (b ∷ more)) ≡ p + 1 + length (b ∷ more) = omega arith in
      let inner : ltb (p + 1) x.count ≡ true = lt-ltb (p + 1) x.count (omega (arith, low)) in
      let count : f.count ≡ p = ap (λ (k : Stream). k.count) this in
      let this_ : f_ ≡ stream_of y g (p + 1) f_.numrecs =
      ap (λ (k : Stream). record k { count = k.count + 1 }) this in
      let rest = subst (λ n. RowsGo (ltb n x.count) f_ (length (b ∷ more)) (flat_map (row f.shape) (b ∷ more)) o v u) e
      (rows-behind f a t (ltb (p + suc (length (b ∷ more))) x.count) (length (b ∷ more)) (flat_map (row f.shape) (b ∷ more)) o u h) in (
        Some f_,
        (
          v,
          goes-some x of g p small a (Some f_) f t v is this numrecs rows has (changed-more t v f.name (row f.shape a) refl)
              (inner-row f a t (ltb (p + 1) x.count) inner),
          rows-some b more y (p + 1) o f_ v u refl this_ numrecs (rows ++ a ∷ []) (HasRows-with_more t f rows a has) (omega (arith, low)) rest,
        ),
      )

  -- to a file that was begun with them
  pub rows-none : (a : Array) (more : List Array) (x : NodeFile) (p : ℕ) (o : Option Stream) (f : Stream) (t v u : Option Files) → x.current ≡ None → p ≡ 0
      → f ≡ stream_of x g 0 (first_count x.late of) → v ≡ with_file t (name_of x g) (header x.shape (first_count x.late of)) → HasRows v f []
      → p + length (a ∷ more) ≤ x.count
      → RowsGo (ltb (p + length (a ∷ more)) x.count) f (length (a ∷ more)) (flat_map (row f.shape) (a ∷ more)) o v u → GoInTurn x of g p (a ∷ more) o t u
  rows-none a [] x p o f t v u none_ first this made has low h = (
    o,
    (
      u,
      goes-none x of g p small a o f t v u none_ this made has (row-changed f a v (ltb (p + 1) x.count) o u h)
          (row-goes f a v (ltb (p + 1) x.count) o u h),
      (refl, refl),
    ),
  )
  rows-none a (b ∷ more) x p o f t v u none_ first this made has low h =
      let f_ = record f { count = f.count + 1 } in
      let w = with_more v f.name (row f.shape a) in
      let y : NodeFile = record x { current = Some f_ } in
      let e : p + suc (length (b ∷ more)) ≡ p + 1 + length (b ∷ more) = omega arith in
      let inner : ltb (p + 1) x.count ≡ true = lt-ltb (p + 1) x.count (omega (arith, low)) in
      let this_ : f_ ≡ stream_of y g (p + 1) f_.numrecs =
      ap (λ (k : Stream). record k { count = k.count + 1 }) (this ∙ ap (λ n. stream_of x g n (first_count x.late of)) (sym first))
      ∙ ap (λ n. stream_of y g (p + 1) n) (sym (ap (λ (k : Stream). k.numrecs) this)) in
      let rest = subst (λ n. RowsGo (ltb n x.count) f_ (length (b ∷ more)) (flat_map (row f.shape) (b ∷ more)) o w u) e
      (rows-behind f a v (ltb (p + suc (length (b ∷ more))) x.count) (length (b ∷ more)) (flat_map (row f.shape) (b ∷ more)) o u h) in (
        Some f_,
        (
          w,
          goes-none x of g p small a (Some f_) f t v w none_ this made has (changed-more v w f.name (row f.shape a) refl)
              (inner-row f a v (ltb (p + 1) x.count) inner),
          rows-some b more y (p + 1) o f_ w u refl this_ (ap (λ (k : Stream). k.numrecs) this) ([] ++ a ∷ []) (HasRows-with_more v f [] a has)
              (omega (arith, low)) rest,
        ),
      )

-- A WRITE THAT STOPPED

torn-rows : (size : ℕ) (t u : Option Files) (f : Stream) (arrays more : List Array) → HasRows t f arrays
    → RowsStop size f (length more) (flat_map (row f.shape) more) t u
    → IsTorn true size (file_at t f.name) f.shape f.numrecs arrays more (file_at u f.name)
torn-rows size t u f arrays more has (inl may) = rows-torn size t u f arrays more has may
torn-rows size t u f arrays more has (inr ended) =
    torn-ended size t ended.0 u f (f.count + length more) (flat_map (row f.shape) more) arrays more ended.2 ended.1
    (subst (λ (w : Option Files). HasRows w (record f { count = f.count + length more }) (arrays ++ more)) (sym ended.1) (HasRows-rows t f arrays more has))
    ended.3

changed-rows : (size : ℕ) (t u : Option Files) (f : Stream) (n : ℕ) (rows : List ℕ) → RowsStop size f n rows t u → IsChangedAt t f.name u
changed-rows size t u f n rows (inl may) = changed-more t u f.name (take may.0 rows) may.1
changed-rows size t u f n rows (inr ended) =
    changed-then t ended.0 u f.name (changed-more t ended.0 f.name rows ended.1) (changed-may ended.0 u f.name f.numrecs (f.count + n) ended.3)

module _ (x : NodeFile) (of : Option ℕ) (g p : ℕ) (more : List Array) where
  pub stops-some : (o : Option Stream) (f : Stream) (t u : Option Files) → x.current ≡ Some f → f ≡ stream_of x g p f.numrecs
      → f.numrecs ≡ first_count x.late of → o ≡ None → RowsStop x.count f (length more) (flat_map (row f.shape) more) t u
      → TurnStops Failed x of g p more o t u
  stops-some o f t u is this numrecs ended stops = (
    ended,
    subst (λ (k : Stream). IsChangedAt t k.name u) this (changed-rows x.count t u f (length more) (flat_map (row f.shape) more) stops),
    λ arrays place h.
        let zs = group_of x.count g arrays in
        let here : f ≡ stream_of x g p f.numrecs = open-is x arrays g p t place h f is in
        let rows = subst (λ (k : Stream). HasRows t k zs) (sym here) (open-has x arrays g p t place h f is) in
        subst (λ (d : Option Stream). IsTorn (is_some d) x.count (file_at t (name_of x g)) x.shape (first_count x.late of) zs more (file_at u (name_of x g)))
        (sym is)
        (subst (λ (n : Option ℕ). IsTorn true x.count (file_at t (name_of x g)) x.shape n zs more (file_at u (name_of x g))) numrecs
        (subst (λ (k : Stream). IsTorn true x.count (file_at t k.name) k.shape k.numrecs zs more (file_at u k.name)) here
        (torn-rows x.count t u f zs more rows stops))),
  )

  no-rows : (t : Option Files) (arrays : List Array) → x.current ≡ None → IsPlaceAfter x.count arrays g p → AreWritten x arrays t
      → group_of x.count g arrays ≡ []
  no-rows t arrays none_ place h = empty (group_of x.count g arrays) (length-group x.count arrays g p place ∙ none-is x arrays g p t place h none_)

  pub stops-none : (o : Option Stream) (f : Stream) (t v u : Option Files) → x.current ≡ None → f ≡ stream_of x g 0 (first_count x.late of)
      → v ≡ with_file t (name_of x g) (header x.shape (first_count x.late of)) → HasRows v f [] → o ≡ None
      → RowsStop x.count f (length more) (flat_map (row f.shape) more) v u → TurnStops Failed x of g p more o t u
  stops-none o f t v u none_ this made has ended stops = (
    ended,
    changed-then t v u (name_of x g) (Wrote (header x.shape (first_count x.late of)) made)
        (subst (λ (k : Stream). IsChangedAt v k.name u) this (changed-rows x.count v u f (length more) (flat_map (row f.shape) more) stops)),
    λ arrays place h.
        subst (λ (d : Option Stream). IsTorn (is_some d) x.count (file_at t (name_of x g)) x.shape (first_count x.late of) (group_of x.count g arrays) more
        (file_at u (name_of x g))) (sym none_)
        (subst (λ (zs : List Array). IsTorn false x.count (file_at t (name_of x g)) x.shape (first_count x.late of) zs more (file_at u (name_of x g)))
        (sym (no-rows t arrays none_ place h))
        (torn-then x.count t v u (name_of x g) x.shape (first_count x.late of) more made
        (subst (λ (k : Stream). IsTorn true x.count (file_at v k.name) k.shape k.numrecs [] more (file_at u k.name)) this
        (torn-rows x.count v u f [] more has stops)))),
  )

  pub stops-begin : (fault : SaveFault) (o : Option Stream) (t u : Option Files) → x.current ≡ None → o ≡ None
      → BeginStops fault t (name_of x g) (header x.shape (first_count x.late of)) u → TurnStops fault x of g p more o t u
  stops-begin OutOfMemory o t u none_ ended stops = (ended ∙ sym none_, stops)
  stops-begin Failed o t u none_ ended stops = (
    ended,
    changed-begin Failed t u (name_of x g) (header x.shape (first_count x.late of)) stops,
    λ arrays place h.
        subst (λ (d : Option Stream). IsTorn (is_some d) x.count (file_at t (name_of x g)) x.shape (first_count x.late of) (group_of x.count g arrays) more
        (file_at u (name_of x g))) (sym none_)
        (torn-begin x.count t u (name_of x g) x.shape (first_count x.late of) (group_of x.count g arrays) more stops),
  )

-- BY THE ANSWER

-- the number of records, where it is known how many arrays the group has
pub sized-numrecs : (late : Bool) (of o : Option ℕ) (last room : ℕ) → o ≡ first_count late of → IsSized late last room of
    → ForSome o (λ n. (last < n) × (n ≤ room))
sized-numrecs true of o last room is sized n some_ = absurd (let none_ : None ≡ Some n = sym is ∙ some_ in cc)
sized-numrecs false None o last room is sized n some_ = absurd sized
sized-numrecs false (Some k) o last room is sized n some_ =
    let same : k ≡ n = (let both : Some k ≡ Some n = sym is ∙ some_ in cc) in
    subst (λ w. (last < w) × (w ≤ room)) same sized

by-answer : {T A B C : Type 0} (r : Result T SaveFault) (x : NodeFile) (of : Option ℕ) (g p : ℕ) (more : List Array) (o : Option Stream) (t u : Option Files)
    → OnOk r A → OnErr r B → OnErr r C → IfErr r (λ fault. fault ≡ Failed) → (A → GoInTurn x of g p more o t u) → (B → C → TurnStops Failed x of g p more o t u)
    → GoOrStop r x of g p more o t u
by-answer (Ok d) x of g p more o t u ok ended err failed go stop = go ok
by-answer (Err e) x of g p more o t u ok ended err failed go stop =
    subst (λ (fault : SaveFault). TurnStops fault x of g p more o t u) (sym failed) (stop ended err)

module _ {T : Type 0} (r : Result T SaveFault) (x : NodeFile) (of : Option ℕ) (g p : ℕ) (small : g < 2 ^ 64) (n m : ℕ) (counted : m ≡ x.count) (some : 1 ≤ n)
    (low : p + n ≤ x.count) (bytes : List ℕ) (o : Option Stream) (f : Stream) where
  -- the rows of these arrays
  these : (v u : Option Files) (more : List Array) → length more ≡ n → bytes ≡ flat_map (row x.shape) more → f.shape ≡ x.shape
      → RowsGo (ltb (p + n) m) f n bytes o v u → RowsGo (ltb (p + length more) x.count) f (length more) (flat_map (row f.shape) more) o v u
  these v u more many is shape go =
      subst (λ (k : ℕ). RowsGo (ltb (p + k) x.count) f k (flat_map (row f.shape) more) o v u) (sym many)
      (subst (λ (k : ℕ). RowsGo (ltb (p + n) k) f n (flat_map (row f.shape) more) o v u) counted
      (subst (λ (w : List ℕ). RowsGo (ltb (p + n) m) f n w o v u) (is ∙ ap (λ (s : FileShape). flat_map (row s) more) (sym shape)) go))

  these-stop : (v u : Option Files) (more : List Array) → length more ≡ n → bytes ≡ flat_map (row x.shape) more → f.shape ≡ x.shape
      → RowsStop m f n bytes v u → RowsStop x.count f (length more) (flat_map (row f.shape) more) v u
  these-stop v u more many is shape stop =
      subst (λ (k : ℕ). RowsStop x.count f k (flat_map (row f.shape) more) v u) (sym many)
      (subst (λ (k : ℕ). RowsStop k f n (flat_map (row f.shape) more) v u) counted
      (subst (λ (w : List ℕ). RowsStop m f n w v u) (is ∙ ap (λ (s : FileShape). flat_map (row s) more) (sym shape)) stop))

  -- to a file that is open
  pub go-some : (t u : Option Files) → x.current ≡ Some f → f ≡ stream_of x g p f.numrecs → f.numrecs ≡ first_count x.late of → (rows : List Array)
      → HasRows t f rows → OnOk r (RowsGo (ltb (p + n) m) f n bytes o t u) → OnErr r (o ≡ None) → OnErr r (RowsStop m f n bytes t u)
      → IfErr r (λ fault. fault ≡ Failed) → (more : List Array) → length more ≡ n → bytes ≡ flat_map (row x.shape) more → GoOrStop r x of g p more o t u
  go-some t u is this numrecs rows has ok ended err failed [] many parts = absurd (omega (arith, many, some))
  go-some t u is this numrecs rows has ok ended err failed (a ∷ more) many parts =
      let shape : f.shape ≡ x.shape = ap (λ (k : Stream). k.shape) this in
      by-answer r x of g p (a ∷ more) o t u ok ended err failed
      (λ go. rows-some of g small a more x p o f t u is this numrecs rows has (omega (arith, many, low)) (these t u (a ∷ more) many parts shape go))
      (λ none_ stop. stops-some x of g p (a ∷ more) o f t u is this numrecs none_ (these-stop t u (a ∷ more) many parts shape stop))

  -- to a file that was begun with them
  pub go-none : (t v u : Option Files) → x.current ≡ None → p ≡ 0 → f ≡ stream_of x g 0 (first_count x.late of)
      → v ≡ with_file t (name_of x g) (header x.shape (first_count x.late of)) → HasRows v f []
      → OnOk r (RowsGo (ltb (p + n) m) f n bytes o v u) → OnErr r (o ≡ None) → OnErr r (RowsStop m f n bytes v u)
      → IfErr r (λ fault. fault ≡ Failed) → (more : List Array) → length more ≡ n → bytes ≡ flat_map (row x.shape) more → GoOrStop r x of g p more o t u
  go-none t v u none_ first this made has ok ended err failed [] many parts = absurd (omega (arith, many, some))
  go-none t v u none_ first this made has ok ended err failed (a ∷ more) many parts =
      let shape : f.shape ≡ x.shape = ap (λ (k : Stream). k.shape) this in
      by-answer r x of g p (a ∷ more) o t u ok ended err failed
      (λ go. rows-none of g small a more x p o f t v u none_ first this made has (omega (arith, many, low)) (these v u (a ∷ more) many parts shape go))
      (λ ends stop. stops-none x of g p (a ∷ more) o f t v u none_ this made has ends (these-stop v u (a ∷ more) many parts shape stop))
