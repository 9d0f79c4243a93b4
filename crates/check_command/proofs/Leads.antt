-- The files of a library lead to one end.
use Rattle.std.proofs.Common.{◌≡◌, ℕ, List, Some, Ok, Err, ap, sym, subst, ◌∙◌, inl, inr}
use Rattle.std.specs.Prelude.{Result}
use Rattle.edge_traits.specs.Files.{Files, HasFile}
use Rattle.tool_commands.specs.declared.status.Status.{Status}
use Rattle.tool_commands.specs.Inputs.{Input, Meaning, meaning_of, IsReadAs, IsRefusedAs}
use Rattle.tool_commands.specs.Outcomes.{Outcome, Reads, Refused, Works, StopsAt, Leads}

-- a name has one file
pub one_file : (files : Files) (name bytes others : List ℕ) → HasFile (Some files) name bytes → HasFile (Some files) name others → bytes ≡ others
one_file files name bytes others has had = let same : Some bytes ≡ Some others = sym has ∙ had in cc

module _ (files : Files) (input : Input) (name : List ℕ) where
  one_meaning : (bytes others : List ℕ) (x y : Result (Meaning input) Status) → HasFile (Some files) name bytes → HasFile (Some files) name others
      → meaning_of input bytes ≡ x → meaning_of input others ≡ y → x ≡ y
  one_meaning bytes others x y has had is was = sym is ∙ (ap (meaning_of input) (one_file files name bytes others has had) ∙ was)

  read_once : (x y : Meaning input) → IsReadAs (Some files) input name x → IsReadAs (Some files) input name y → x ≡ y
  read_once x y a b = let same : Ok x ≡ Ok y = one_meaning a.bytes b.bytes (Ok x) (Ok y) a.file b.file a.means b.means in cc

  read_or_refused : (x : Meaning input) (status : Status) → IsReadAs (Some files) input name x → IsRefusedAs (Some files) input name status → ⊥
  read_or_refused x status a b = let same : Ok x ≡ Err status = one_meaning a.bytes b.bytes (Ok x) (Err status) a.file b.file a.means b.means in absurd (cc)

  refused_once : (s t : Status) → IsRefusedAs (Some files) input name s → IsRefusedAs (Some files) input name t → s ≡ t
  refused_once s t a b =
      let same : Err s ≡ Err t = one_meaning a.bytes b.bytes (Err s) (Err t) a.file b.file a.means b.means in cc

module _ {A : Type 0} (files : Files) where
  stops_once : (input : Input) (name : List ℕ) (e d : Result A Status) → StopsAt (Some files) input name e → StopsAt (Some files) input name d → e ≡ d
  stops_once input name (Err s) (Err t) a b = ap Err (refused_once files input name s t a b)
  stops_once input name (Ok x) d a b = absurd a
  stops_once input name e (Ok y) a b = absurd b

  stops_or_goes : (input : Input) (name : List ℕ) (e : Result A Status) (x : Meaning input) → StopsAt (Some files) input name e
      → IsReadAs (Some files) input name x → ⊥
  stops_or_goes input name (Err s) x a read = read_or_refused files input name x s read a
  stops_or_goes input name (Ok y) x a read = a

  pub leads_once : (outcome : Outcome A) (e d : Result A Status) → Leads (Some files) outcome e → Leads (Some files) outcome d → e ≡ d
  leads_once (Reads input name next) e d (inl a) (inl b) = stops_once input name e d a b
  leads_once (Reads input name next) e d (inl a) (inr q) = absurd (stops_or_goes input name e q.0 a q.1)
  leads_once (Reads input name next) e d (inr p) (inl b) = absurd (stops_or_goes input name d p.0 b p.1)
  leads_once (Reads input name next) e d (inr p) (inr q) =
      let same : q.0 ≡ p.0 = read_once files input name q.0 p.0 q.1 p.1 in
      leads_once (next p.0) e d p.2 (subst (λ (z : Meaning input). Leads (Some files) (next z) d) same q.2)
  leads_once (Refused status) e d a b = a ∙ sym b
  leads_once (Works work) e d a b = a ∙ sym b
