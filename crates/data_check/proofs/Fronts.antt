-- Fronts of a file, and what they say of the whole file.
use Rattle.std.proofs.Common.{◌≡◌, ◌≢◌, ℕ, ◌+◌, ◌-◌, ◌<◌, List, ◌++◌, length, take, drop, sym, ap, subst, ◌∙◌, arith, length-append}
use Rattle.std.specs.Prelude.{Option, Some, None}
use Rattle.std.proofs.Math.Seq.{take-add, drop-append_seam, take-append_seam}
use Rattle.std.proofs.lemmas.List.{length-take, length-drop, take_all}
use Rattle.edge_traits.specs.Files.{Files, HasFile, IsTold, Stands}
use Rattle.data_check.specs.ComparedFiles.{HasOther}
use Rattle.data_check.specs.Fronts.{FrontValue, HasPart, HasFront, LacksFront}
use Rattle.data_check.proofs.Parts.{part-piece}

-- ONE FILE

-- two parts, one after the other
both-parts : (file front bytes : List ℕ) → HasPart file 0 front → HasPart file (length front) bytes → HasPart file 0 (front ++ bytes)
both-parts file front bytes first next =
    ap (λ k. take k file) (length-append front bytes) ∙ take-add (length front) (length bytes) file
    ∙ ap (λ xs. xs ++ take (length bytes) (drop (length front) file)) first
    ∙ ap (λ xs. front ++ xs) next

first-part : (file front bytes : List ℕ) → HasPart file 0 (front ++ bytes) → HasPart file 0 front
first-part file front bytes has =
    part-piece file (front ++ bytes) 0 0 (length front) (omega (arith, length-append front bytes)) has ∙ take-append_seam front bytes

next-part : (file front bytes : List ℕ) → HasPart file 0 (front ++ bytes) → HasPart file (length front) bytes
next-part file front bytes has =
    let here : 0 + length front ≡ length front = omega arith in
    ap (λ k. take (length bytes) (drop k file)) (sym here)
    ∙ part-piece file (front ++ bytes) 0 (length front) (length bytes) (omega (arith, length-append front bytes)) has
    ∙ ap (take (length bytes)) (drop-append_seam front bytes) ∙ take_all (length bytes) bytes (omega arith)

-- no part is longer than what is left of the file
pub part-fits : (file bytes : List ℕ) (off : ℕ) → length file - off < length bytes → HasPart file off bytes → ⊥
part-fits file bytes off long has =
    let e : length (take (length bytes) (drop off file)) ≡ length bytes = ap length has in
    absurd (omega (arith, long, e, length-take (length bytes) (drop off file), length-drop off file))

-- A FILE THAT IS TOLD

module _ (told : Option Files) (f : FrontValue) (front bytes : List ℕ) (h : HasFront told f front) where
  -- it goes on with these bytes
  pub front-more : (n : ℕ) → n ≡ f.at + length bytes → ((file : List ℕ) → IsTold told f.name file → HasPart file f.at bytes)
      → HasFront told (record { name = f.name; size = f.size; at = n }) (front ++ bytes)
  front-more n count next =
      record {
        stands = h.stands;
        size = h.size;
        at = count ∙ omega (arith, h.at, length-append front bytes);
        same = λ file is. both-parts file front bytes (h.same file is) (subst (λ k. HasPart file k bytes) h.at (next file is));
      }

  -- it doesn't
  pub front-other : ((file : List ℕ) → IsTold told f.name file → HasPart file f.at bytes → ⊥) → LacksFront told f.name (front ++ bytes)
  front-other off =
      record {
        stands = h.stands;
        other = λ file is has. off file is (subst (λ k. HasPart file k bytes) (sym h.at) (next-part file front bytes has));
      }

  -- it has fewer
  pub front-short : f.size - f.at < length bytes → LacksFront told f.name (front ++ bytes)
  front-short long = front-other (λ file is has. part-fits file bytes f.at (subst (λ k. k - f.at < length bytes) (h.size file is) long) has)

-- what lacks a front lacks a longer one
pub lacks-more : (told : Option Files) (name front more : List ℕ) → LacksFront told name front → LacksFront told name (front ++ more)
lacks-more told name front more h =
    record { stands = h.stands; other = λ file is has. h.other file is (first-part file front more has) }

-- THE WHOLE FILE

pub other-from : (told : Option Files) (name bytes : List ℕ) → Stands told name → ((file : List ℕ) → IsTold told name file → file ≢ bytes)
    → HasOther told name bytes
other-from None name bytes stands differs = tt
other-from (Some files) name bytes stands differs = (stands.0, stands.1, differs stands.0 stands.1)

pub file-from : (told : Option Files) (name bytes : List ℕ) → Stands told name → ((file : List ℕ) → IsTold told name file → file ≡ bytes)
    → HasFile told name bytes
file-from None name bytes stands is = tt
file-from (Some files) name bytes stands is = subst (λ (b : List ℕ). HasFile (Some files) name b) (is stands.0 stands.1) stands.1

pub lacks-other : (told : Option Files) (name bytes : List ℕ) → LacksFront told name bytes → HasOther told name bytes
lacks-other told name bytes h =
    other-from told name bytes h.stands (λ file is same. h.other file is (ap (take (length bytes)) same ∙ take_all (length bytes) bytes (omega arith)))

module _ (told : Option Files) (f : FrontValue) (bytes : List ℕ) (h : HasFront told f bytes) where
  -- all of the file was compared
  pub front-whole : f.at ≡ f.size → HasFile told f.name bytes
  front-whole all =
      file-from told f.name bytes h.stands (λ file is.
      sym (take_all (length bytes) file (omega (arith, all, h.at, h.size file is))) ∙ h.same file is)

  -- it has another size
  pub front-longer : f.at ≢ f.size → HasOther told f.name bytes
  front-longer apart =
      other-from told f.name bytes h.stands (λ file is same. apart (h.at ∙ sym (h.size file is ∙ ap length same)))

-- a file of another size than these bytes
pub size-other : (told : Option Files) (f : FrontValue) (front bytes : List ℕ) → HasFront told f front → f.size ≢ length bytes → HasOther told f.name bytes
size-other told f front bytes h apart = other-from told f.name bytes h.stands (λ file is same. apart (h.size file is ∙ ap length same))
