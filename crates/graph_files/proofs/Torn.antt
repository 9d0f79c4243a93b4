-- What a name has once a call on its file has failed.
use Rattle.std.proofs.Common.{◌≡◌, ◌≢◌, ℕ, ◌≤◌, Bool, true, false, List, [], ◌∷◌, ◌++◌, length, take, drop, Option, None, Some, refl, sym, ap, subst, ◌∙◌, arith}
use Rattle.std.specs.List.{flat_map}
use Rattle.std.specs.Prelude.{is_some}
use Rattle.std.proofs.lemmas.Bool.{false≢true}
use Rattle.std.proofs.lemmas.List.{append-nil, take-append-drop}
use Rattle.nd_base.specs.Array.{Array}
use Rattle.nd_base.specs.declared.attribute.FileShape.{FileShape}
use Rattle.edge_traits.specs.Files.{Files, file_at, with_file, with_more, HasFile, MayAppend}
use Rattle.edge_traits.specs.FileLaws.{file_at-with_file_same, file_at-with_more_same, file_at-with_patch_same}
use Rattle.cdf_write.specs.Layout.{header, row}
use Rattle.file_out.specs.declared.fault.SaveFault.{SaveFault}
use Rattle.file_out.specs.declared.fault.SaveFault.TheVariants.{Failed, OutOfMemory}
use Rattle.file_out.specs.Saving.{IsBegun, BeginStops, AddStops}
use Rattle.file_out.specs.Saving as saving
use Rattle.file_out.specs.Streams.{Stream, HasRows, MayCount, begun_file, with_count}
use Rattle.file_out.specs.StreamLaws.{begun_file-rows}
use Rattle.graph_files.specs.NodeFiles.{IsChangedAt, Same, Wrote, IsTorn, Untouched, Header, Rows, Miscounted}
use Rattle.graph_files.specs.NodeFileLaws.{changed-more, changed-patch}
use Rattle.graph_files.specs.TornGroups.{IsTornName, IsTornAt}

-- rows of which a front was added
pub rows-torn : (size : ℕ) (t u : Option Files) (f : Stream) (arrays more : List Array) → HasRows t f arrays → MayAppend t f.name (flat_map (row f.shape) more) u
    → IsTorn true size (file_at t f.name) f.shape f.numrecs arrays more (file_at u f.name)
rows-torn size None u f arrays more has may = Untouched (ap (λ w. file_at w f.name) may.1)
rows-torn size (Some m) u f arrays more has may =
    let piece = flat_map (row f.shape) more in
    Rows (take may.0 piece) (drop may.0 piece) (sym (take-append-drop may.0 piece))
    (ap (λ w. file_at w f.name) may.1
    ∙ file_at-with_more_same (Some m) f.name (take may.0 piece) (begun_file f.shape f.numrecs arrays) has.bytes)

pub torn-add : (size : ℕ) (t u : Option Files) (f : Stream) (arrays : List Array) (a : Array) (fault : SaveFault) → fault ≡ Failed → HasRows t f arrays
    → AddStops fault t f.name (row f.shape a) u
    → IsTorn true size (file_at t f.name) f.shape f.numrecs arrays (a ∷ []) (file_at u f.name)
torn-add size t u f arrays a Failed is has stops =
    rows-torn size t u f arrays (a ∷ []) has (subst (λ (bytes : List ℕ). MayAppend t f.name bytes u) (sym (append-nil (row f.shape a))) stops)
torn-add size t u f arrays a OutOfMemory is has stops = absurd (cc)

-- a file that has all its rows, and wasn't ended
module _ (size : ℕ) (shape : FileShape) (had more : List Array) (full : size ≤ length (had ++ more)) where
  miscounted : (t u : Option Files) (before : Option (List ℕ)) (name : List ℕ) (numrecs : Option ℕ) (n : ℕ)
      → file_at t name ≡ Some (begun_file shape numrecs (had ++ more)) → MayCount t name numrecs n u
      → IsTorn true size before shape numrecs had more (file_at u name)
  miscounted t u before name None n has may =
      Miscounted refl full may.0 may.1
      (ap (λ w. file_at w name) may.2 ∙ file_at-with_patch_same t name 4 may.0 (begun_file shape None (had ++ more)) has)
  miscounted t u before name (Some k) n has may =
      let rows = flat_map (row shape) more in
      Rows rows [] (sym (append-nil rows)) (ap (λ w. file_at w name) may ∙ has ∙ ap Some (begun_file-rows shape (Some k) had more))

same-untold : (u : Option Files) (name : List ℕ) (numrecs : Option ℕ) (n : ℕ) → MayCount None name numrecs n u → u ≡ None
same-untold u name None n may = may.2
same-untold u name (Some k) n may = may

told-rows : (t : Option Files) (name bytes file : List ℕ) → HasFile (with_more t name bytes) name file → t ≢ None
    → file_at (with_more t name bytes) name ≡ Some file
told-rows None name bytes file has told = absurd (told refl)
told-rows (Some m) name bytes file has told = has

pub torn-ended : (size : ℕ) (t u w : Option Files) (f : Stream) (n : ℕ) (bytes : List ℕ) (had more : List Array) → size ≤ n
    → u ≡ with_more t f.name bytes → HasRows u (record f { count = n }) (had ++ more)
    → MayCount u f.name f.numrecs n w → IsTorn true size (file_at t f.name) f.shape f.numrecs had more (file_at w f.name)
torn-ended size None u w f n bytes had more full made has may =
    Untouched (ap (λ (x : Option Files). file_at x f.name)
    (same-untold w f.name f.numrecs n (subst (λ (x : Option Files). MayCount x f.name f.numrecs n w) made may)))
torn-ended size (Some m) u w f n bytes had more full made has may =
    let file = begun_file f.shape f.numrecs (had ++ more) in
    let stands = subst (λ (x : Option Files). HasFile x f.name file) made has.bytes in
    let told : Some m ≢ None = λ e. absurd (cc) in
    miscounted size f.shape had more (omega (arith, full, has.all)) u w (file_at (Some m) f.name) f.name f.numrecs n
    (ap (λ x. file_at x f.name) made ∙ told-rows (Some m) f.name bytes file stands told) may

-- with no row more
pub torn-count : (t u : Option Files) (f : Stream) (arrays : List Array) (n : ℕ) → HasRows t f arrays → MayCount t f.name f.numrecs n u
    → IsTorn true (length arrays) (file_at t f.name) f.shape f.numrecs arrays [] (file_at u f.name)
torn-count None u f arrays n has may = Untouched (ap (λ x. file_at x f.name) (same-untold u f.name f.numrecs n may))
torn-count (Some m) u f arrays n has may =
    let same : arrays ≡ arrays ++ [] = sym (append-nil arrays) in
    miscounted (length arrays) f.shape arrays [] (let e = ap (λ (zs : List Array). length zs) same in omega (arith, e))
    (Some m) u (file_at (Some m) f.name) f.name f.numrecs n
    (subst (λ (zs : List Array). HasFile (Some m) f.name (begun_file f.shape f.numrecs zs)) same has.bytes) may

-- a file that wasn't begun
begun-torn : (size : ℕ) (t u : Option Files) (name : List ℕ) (shape : FileShape) (numrecs : Option ℕ) (had more : List Array)
    → IsBegun t name (header shape numrecs) u → IsTorn false size (file_at t name) shape numrecs had more (file_at u name)
begun-torn size t u name shape numrecs had more (saving.Untouched same) = Untouched (ap (λ w. file_at w name) same)
begun-torn size None u name shape numrecs had more (saving.Front front rest is made) = Untouched (ap (λ w. file_at w name) made)
begun-torn size (Some m) u name shape numrecs had more (saving.Front front rest is made) =
    Header refl front rest is (ap (λ w. file_at w name) made ∙ file_at-with_file_same m name front)

pub torn-begin : (size : ℕ) (t u : Option Files) (name : List ℕ) (shape : FileShape) (numrecs : Option ℕ) (had more : List Array)
    → BeginStops Failed t name (header shape numrecs) u → IsTorn false size (file_at t name) shape numrecs had more (file_at u name)
torn-begin size t u name shape numrecs had more stops = begun-torn size t u name shape numrecs had more stops

-- by how many arrays the group has in the end
pub torn-sized : (begun : Bool) (size n : ℕ) (before now : Option (List ℕ)) (shape : FileShape) (numrecs : Option ℕ) (had more : List Array) → n ≤ size
    → IsTorn begun size before shape numrecs had more now → IsTorn begun n before shape numrecs had more now
torn-sized begun size n before now shape numrecs had more few (Untouched same) = Untouched same
torn-sized begun size n before now shape numrecs had more few (Header fresh front rest is made) = Header fresh front rest is made
torn-sized begun size n before now shape numrecs had more few (Rows front rest is made) = Rows front rest is made
torn-sized begun size n before now shape numrecs had more few (Miscounted late full any four made) =
    Miscounted late (omega (arith, few, full)) any four made

-- by what the shelf tells
pub told-file : (o : Option Files) (name bytes : List ℕ) → is_some o ≡ true → HasFile o name bytes → file_at o name ≡ Some bytes
told-file None name bytes told has = absurd (false≢true told)
told-file (Some m) name bytes told has = has

pub torn-at : (late : Bool) (shape : FileShape) (final written more : List Array) (before now : Option Files) (name : List ℕ)
    → (is_some now ≡ true → IsTornName late shape final written more (file_at before name) (file_at now name))
    → IsTornAt late shape final written more before now name
torn-at late shape final written more before None name named = tt
torn-at late shape final written more before (Some files) name named = named refl

-- a file that was begun, and torn in the same call
pub torn-then : (size : ℕ) (t v w : Option Files) (name : List ℕ) (shape : FileShape) (numrecs : Option ℕ) (more : List Array)
    → v ≡ with_file t name (header shape numrecs) → IsTorn true size (file_at v name) shape numrecs [] more (file_at w name)
    → IsTorn false size (file_at t name) shape numrecs [] more (file_at w name)
torn-then size None v w name shape numrecs more made (Untouched same) = Untouched (same ∙ ap (λ (k : Option Files). file_at k name) made)
torn-then size (Some m) v w name shape numrecs more made (Untouched same) =
    Header refl (header shape numrecs) [] (sym (append-nil (header shape numrecs)))
    (same ∙ ap (λ (k : Option Files). file_at k name) made ∙ file_at-with_file_same m name (header shape numrecs))
torn-then size t v w name shape numrecs more made (Header open_ front rest is now) = absurd (cc)
torn-then size t v w name shape numrecs more made (Rows front rest is now) = Rows front rest is now
torn-then size t v w name shape numrecs more made (Miscounted late full any four now) = Miscounted late full any four now

-- and what else changed: nothing
changed-begun : (t u : Option Files) (name final : List ℕ) → IsBegun t name final u → IsChangedAt t name u
changed-begun t u name final (saving.Untouched same) = Same same
changed-begun t u name final (saving.Front front rest is made) = Wrote front made

pub changed-begin : (fault : SaveFault) (t u : Option Files) (name bytes : List ℕ) → BeginStops fault t name bytes u → IsChangedAt t name u
changed-begin Failed t u name bytes stops = changed-begun t u name bytes stops
changed-begin OutOfMemory t u name bytes stops = Same stops

pub changed-add : (fault : SaveFault) (t u : Option Files) (name bytes : List ℕ) → AddStops fault t name bytes u → IsChangedAt t name u
changed-add Failed t u name bytes may = changed-more t u name (take may.0 bytes) may.1
changed-add OutOfMemory t u name bytes same = Same same

pub changed-count : (t u : Option Files) (name : List ℕ) (numrecs : Option ℕ) (n : ℕ) → u ≡ with_count t name numrecs n → IsChangedAt t name u
changed-count t u name None n e = changed-patch t u name 4 _ e
changed-count t u name (Some k) n e = Same e

pub changed-may : (t u : Option Files) (name : List ℕ) (numrecs : Option ℕ) (n : ℕ) → MayCount t name numrecs n u → IsChangedAt t name u
changed-may t u name None n may = changed-patch t u name 4 may.0 may.2
changed-may t u name (Some k) n may = Same may
