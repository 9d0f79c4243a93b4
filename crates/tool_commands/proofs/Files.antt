-- What was read of a file, and what was written of a text.
use Rattle.std.proofs.Common.{◌≡◌, ℕ, ◌+◌, ◌<◌, ◌≤◌, List, ◌++◌, length, ap, sym, subst, ◌∙◌, take, drop, ◌-◌, min, arith, inl, inr}
use Rattle.std.proofs.lemmas.List.{length-take, length-drop, take-append-drop, length-take-le, take-append-le, take_all, length-append, length-replicate}
use Rattle.std.proofs.lemmas.Bool.{cases_lt}
use Rattle.std.specs.Prelude.{Option, None, Some, replicate}
use Rattle.edge_traits.specs.Faults.{Rose}
use Rattle.edge_traits.specs.Files.{Files, IsTold, Stands}
use Rattle.tool_commands.specs.Reads.{IsSized, IsReadStop, ReadFaultCause}
use Rattle.tool_commands.specs.declared.reading.ReadRefusal.{ReadRefusal}
use Rattle.tool_commands.specs.declared.reading.ReadRefusal.TheVariants.{TooLong, Failed, OutOfMemory}
use Rattle.std.proofs.Math.Seq.{take-add}

-- the front of a file, and a piece more of it
pub piece_added : (done buf post file : List ℕ) (at n : ℕ) → at ≡ length done → n ≤ length buf → done ≡ take (length done) file
    → take n buf ≡ take n (drop at file) → done ++ take n (buf ++ post) ≡ take (length (done ++ take n (buf ++ post))) file
piece_added done buf post file at n here within front piece =
    let new = take n (buf ++ post) in
    let is : new ≡ take n buf = take-append-le n buf post within in
    let len : length (done ++ new) ≡ length done + n = length-append done new ∙ ap (λ k. length done + k) (ap length is ∙ length-take-le n buf within) in
    ap (λ t. done ++ t) (is ∙ piece ∙ ap (λ k. take n (drop k file)) here) ∙ ap (λ t. t ++ take n (drop (length done) file)) front
    ∙ sym (take-add (length done) n file) ∙ ap (λ k. take k file) (sym len)

-- no piece ends behind the size
pub added_within : (done buf post : List ℕ) (at n size : ℕ) → at ≡ length done → n ≤ length buf → at + length buf ≤ size
    → length (done ++ take n (buf ++ post)) ≤ size
added_within done buf post at n size here within room =
    omega (arith, length-append done (take n (buf ++ post)), ap length (take-append-le n buf post within), length-take-le n buf within)

-- a buffer whose front was read anew is as long as it was
pub length-read : (buf piece : List ℕ) (asked : ℕ) → length buf ≡ length (take asked piece) → length (buf ++ drop asked piece) ≡ length piece
length-read buf piece asked made =
    length-append buf (drop asked piece) ∙ ap (λ k. k + length (drop asked piece)) made ∙ sym (length-append (take asked piece) (drop asked piece))
    ∙ ap length (take-append-drop asked piece)

-- no more is asked for than is left of the size
pub asked_within : (buf piece : List ℕ) (asked at size : ℕ) → at ≤ size → asked ≡ min (length piece) (size - at)
    → length buf ≡ length (take asked piece) → at + length buf ≤ size
asked_within buf piece asked at size here least made = omega (arith, length-take asked piece)

-- all of a file was read where as many bytes as it has came, or fewer and none was left
pub whole_read : (bytes file : List ℕ) (size : ℕ) → length bytes ≤ size → size ≡ length file → bytes ≡ take (length bytes) file
    → (length bytes < size → length file ≤ length bytes) → bytes ≡ file
whole_read bytes file size within len front end =
    let all : length file ≤ length bytes = elim (cases_lt (length bytes) size) [ inl lt ↦ end lt | inr ge ↦ omega (arith, ge, len) ] in
    front ∙ take_all (length bytes) file all

-- what a slice from a place on holds
pub rest_of : (at : ℕ) (text : List ℕ) → take (length text - at) (drop at text) ≡ drop at text
rest_of at text = take_all (length text - at) (drop at text) (omega (arith, length-drop at text))

-- so many bytes are a file's where its size says so
pub sized : (told : Option Files) (name : List ℕ) (n : ℕ) → Stands told name → ((file : List ℕ) → IsTold told name file → n ≡ length file) → IsSized told name n
sized None name n stands size = record { bytes = replicate n 0; file = tt; size = sym (length-replicate n 0) }
sized (Some files) name n stands size = record { bytes = stands.0; file = stands.1; size = size stands.0 stands.1 }

-- a reading that stopped, of a file whose size was asked for before
pub stopped : (e : ReadRefusal) (told : Option Files) (name : List ℕ) (limit start before now : ℕ) → before ≡ start → IsReadStop e before now
    → ReadFaultCause e told name limit start now
stopped (TooLong n) told name limit start before now same never = elim never [ ]
stopped Failed told name limit start before now same rose = subst (λ k. Rose k now) same rose
stopped OutOfMemory told name limit start before now same none = none ∙ same
