-- Where the files of an outcome lead, and what they ask for.
use Rattle.std.proofs.Common.{◌≡◌, ℕ, List, Option, None, Some, Ok, Err, refl, ap, sym, subst, ◌∙◌, inl, inr}
use Rattle.std.specs.Prelude.{Result}
use Rattle.edge_traits.specs.Files.{Files, IsTold, HasFile}
use Rattle.graph_conf.specs.declared.load.LimitFault.{LimitFault}
use Rattle.tool_commands.specs.declared.status.Status.{Status}
use Rattle.tool_commands.specs.declared.status.Status.TheVariants.{Limit}
use Rattle.tool_commands.specs.Answers.{status_of}
use Rattle.tool_commands.specs.Inputs.{Input, Meaning, meaning_of}
use Rattle.tool_commands.specs.Outcomes.{Outcome, Reads, Refused, Works, outcome_map, StopsAt, Leads, IsAskedBy, Asks}
use Rattle.tool_commands.specs.Works.{unless_passed}

-- the bytes that were read are those of the file, where it is told
told_bytes : (told : Option Files) (name bytes file : List ℕ) → HasFile told name bytes → IsTold told name file → bytes ≡ file
told_bytes None name bytes file has is = absurd is
told_bytes (Some files) name bytes file has is = let same : Some bytes ≡ Some file = sym has ∙ is in cc

-- THE END

module _ {A : Type 0} (told : Option Files) where
  asked-stops : (input : Input) (name : List ℕ) (Next : Meaning input → Status → Type 0) (end : Result A Status) → StopsAt told input name end
      → (file : List ℕ) → IsTold told name file → IsAskedBy (λ x. Next x (status_of end)) (meaning_of input file) (status_of end)
  asked-stops input name Next (Ok work) stops file is = absurd stops
  asked-stops input name Next (Err status) stops file is =
      let means : meaning_of input file ≡ Err status = ap (meaning_of input) (sym (told_bytes told name stops.bytes file stops.file is)) ∙ stops.means in
      subst (λ (r : Result (Meaning input) Status). IsAskedBy (λ x. Next x status) r status) (sym means) refl

  -- the files ask for the end to which they lead
  pub Leads-Asks : (outcome : Outcome A) (end : Result A Status) → Leads told outcome end → Asks told outcome (status_of end)
  Leads-Asks (Reads input name next) end (inl stops) = asked-stops input name (λ x status. Asks told (next x) status) end stops
  Leads-Asks (Reads input name next) end (inr p) =
      λ file is.
      let means : meaning_of input file ≡ Ok p.0 = ap (meaning_of input) (sym (told_bytes told name p.1.bytes file p.1.file is)) ∙ p.1.means in
      subst (λ (r : Result (Meaning input) Status). IsAskedBy (λ x. Asks told (next x) (status_of end)) r (status_of end)) (sym means)
      (Leads-Asks (next p.0) end p.2)
  Leads-Asks (Refused status) end is = ap status_of is
  Leads-Asks (Works work) end is = ap status_of is

-- LIMITS

module _ {A : Type 0} (told : Option Files) (work : A) where
  pub passed : (o : Option LimitFault) (fault : LimitFault) → o ≡ Some fault → Leads told (unless_passed o work) (Err (Limit fault))
  passed o fault is = subst (λ (p : Option LimitFault). Leads told (unless_passed p work) (Err (Limit fault))) (sym is) refl

  pub unpassed : (o : Option LimitFault) → o ≡ None → Leads told (unless_passed o work) (Ok work)
  unpassed o is = subst (λ (p : Option LimitFault). Leads told (unless_passed p work) (Ok work)) (sym is) refl

  -- a work is done only where no limit is passed
  pub within-unpassed : (o : Option LimitFault) (done : A) → Leads told (unless_passed o work) (Ok done) → (o ≡ None) × (done ≡ work)
  within-unpassed None done is = (refl, cc)
  within-unpassed (Some fault) done is = absurd (cc)

-- ANOTHER WORK

asked-by : {X : Type 0} (P Q : X → Type 0) → ((x : X) → P x → Q x) → (r : Result X Status) (status : Status) → IsAskedBy P r status → IsAskedBy Q r status
asked-by P Q to (Ok x) status asked = to x asked
asked-by P Q to (Err refusal) status asked = asked

module _ {A B : Type 0} (f : A → B) (told : Option Files) where
  pub map-work : (outcome : Outcome A) (x : A) → Leads told outcome (Ok x) → Leads told (outcome_map f outcome) (Ok (f x))
  map-work (Reads input name next) x (inl stops) = absurd stops
  map-work (Reads input name next) x (inr p) = inr (p.0, p.1, map-work (next p.0) x p.2)
  map-work (Refused status) x is = absurd (cc)
  map-work (Works y) x is = let same : x ≡ y = cc in ap (λ z. Ok (f z)) same

  pub map-refused : (outcome : Outcome A) (status : Status) → Leads told outcome (Err status) → Leads told (outcome_map f outcome) (Err status)
  map-refused (Reads input name next) status (inl stops) = inl stops
  map-refused (Reads input name next) status (inr p) = inr (p.0, p.1, map-refused (next p.0) status p.2)
  map-refused (Refused refusal) status is = let same : status ≡ refusal = cc in ap Err same
  map-refused (Works y) status is = absurd (cc)

  pub of-work : (outcome : Outcome A) (work : B) → Leads told (outcome_map f outcome) (Ok work) → (x : A) × Leads told outcome (Ok x) × (work ≡ f x)
  of-work (Reads input name next) work (inl stops) = absurd stops
  of-work (Reads input name next) work (inr p) = let q = of-work (next p.0) work p.2 in (q.0, inr (p.0, p.1, q.1), q.2)
  of-work (Refused status) work is = absurd (cc)
  of-work (Works y) work is = (y, refl, cc)

  pub of-refused : (outcome : Outcome A) (status : Status) → Leads told (outcome_map f outcome) (Err status) → Leads told outcome (Err status)
  of-refused (Reads input name next) status (inl stops) = inl stops
  of-refused (Reads input name next) status (inr p) = inr (p.0, p.1, of-refused (next p.0) status p.2)
  of-refused (Refused refusal) status is = let same : status ≡ refusal = cc in ap Err same
  of-refused (Works y) status is = absurd (cc)

  pub map-asked : (outcome : Outcome A) (status : Status) → Asks told outcome status → Asks told (outcome_map f outcome) status
  map-asked (Reads input name next) status asked =
      λ file is. asked-by (λ x. Asks told (next x) status) (λ x. Asks told (outcome_map f (next x)) status) (λ x. map-asked (next x) status)
      (meaning_of input file) status (asked file is)
  map-asked (Refused refusal) status asked = asked
  map-asked (Works y) status asked = asked

  pub of-asked : (outcome : Outcome A) (status : Status) → Asks told (outcome_map f outcome) status → Asks told outcome status
  of-asked (Reads input name next) status asked =
      λ file is. asked-by (λ x. Asks told (outcome_map f (next x)) status) (λ x. Asks told (next x) status) (λ x. of-asked (next x) status)
      (meaning_of input file) status (asked file is)
  of-asked (Refused refusal) status asked = asked
  of-asked (Works y) status asked = asked
