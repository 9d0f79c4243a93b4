-- What a node keeps of the arrays that are put there.
use Rattle.std.proofs.Common.{◌≡◌, ℕ, ◌&&◌, Bool, true, false, cond, ltb, List, [], ◌∷◌, ◌++◌, map, refl, sym, ap, ◌∙◌}
use Rattle.std.proofs.lemmas.Bool.{and_parts, false≢true}
use Rattle.std.proofs.lemmas.List.{append-nil, map-append}
use Rattle.nd_base.specs.declared.frame.FrameName.{FrameName}
use Rattle.flow_journal.specs.declared.entry.Entry.TheVariants.{Put}
use Rattle.flow_journal.specs.Setting.{Setting, Work, Makes, Passes, Watches, Saves, node, may_sort}
use Rattle.flow_journal.specs.Pasts.{Past, frame, minus}
use Rattle.flow_journal.specs.Ended.{now, is_settled}
use Rattle.flow_journal.specs.Puts.{puts, firings}
use Rattle.flow_journal.specs.Waiting.{Waiting, waiting}
use Rattle.flow_journal.specs.Rings.{ring_of, ring}
use Rattle.flow_journal.specs.Unsaved.{standing_saves, unsaved, is_file}
use Rattle.flow_journal.specs.AccountLaws.{kept_at, KeptLaws}
use Rattle.flow_journal.proofs.Emissions.{waiting-put, waiting-unsorted}
use Rattle.flow_journal.proofs.Changes.{save_laws}

sorts_no_file : (w : Work) → may_sort w ≡ true → is_file w ≡ false
sorts_no_file Makes h = refl
sorts_no_file (Passes d) h = refl
sorts_no_file (Watches pre post preset) h = absurd (false≢true h)
sorts_no_file (Saves whole n) h = absurd (false≢true h)

file_no_sort : (w : Work) → is_file w ≡ true → may_sort w ≡ false
file_no_sort (Saves whole n) h = refl
file_no_sort Makes h = absurd (false≢true h)
file_no_sort (Passes d) h = absurd (false≢true h)
file_no_sort (Watches pre post preset) h = absurd (false≢true h)

sorts_no_ring : (w : Work) (flags : List Bool) (xs : List FrameName) → may_sort w ≡ true → ring_of w flags xs ≡ []
sorts_no_ring Makes flags xs h = refl
sorts_no_ring (Passes d) flags xs h = refl
sorts_no_ring (Watches pre post preset) flags xs h = absurd (false≢true h)
sorts_no_ring (Saves whole n) flags xs h = absurd (false≢true h)

file_no_ring : (w : Work) (flags : List Bool) (xs : List FrameName) → is_file w ≡ true → ring_of w flags xs ≡ []
file_no_ring (Saves whole n) flags xs h = refl
file_no_ring Makes flags xs h = absurd (false≢true h)
file_no_ring (Passes d) flags xs h = absurd (false≢true h)
file_no_ring (Watches pre post preset) flags xs h = absurd (false≢true h)

empty_ring : (s : Setting) (v : ℕ) (P : Past) → ring_of (node s v).work (firings v P) (puts v P) ≡ [] → ring s v P ≡ []
empty_ring s v P h = either (is_settled v P)
  where
    either : (b : Bool) → cond b [] (ring_of (node s v).work (firings v P) (puts v P)) ≡ []
    either true = refl
    either false = h

no_unsaved : (s : Setting) (v : ℕ) (P : Past) → is_file (node s v).work ≡ false → unsaved s v P ≡ []
no_unsaved s v P h = ap (λ (b : Bool). cond b (minus (puts v P) (standing_saves v P)) []) h

-- what is kept, by its three parts
three : (s : Setting) (v : ℕ) (P : Past) (ws : List Waiting) (r f : List FrameName) → waiting s v P ≡ ws → ring s v P ≡ r → unsaved s v P ≡ f
    → kept_at s P v ≡ map (λ w. w.array) ws ++ r ++ f
three s v P ws r f w_is r_is f_is =
    ap (λ (us : List Waiting). map (λ w. w.array) us ++ ring s v P ++ unsaved s v P) w_is
    ∙ (ap (λ (us : List FrameName). map (λ w. w.array) ws ++ us ++ unsaved s v P) r_is ∙ ap (λ (us : List FrameName). map (λ w. w.array) ws ++ r ++ us) f_is)

list_only : (s : Setting) (v : ℕ) (P : Past) → may_sort (node s v).work ≡ true → kept_at s P v ≡ map (λ w. w.array) (waiting s v P)
list_only s v P sorts =
    three s v P (waiting s v P) [] [] refl (empty_ring s v P (sorts_no_ring (node s v).work (firings v P) (puts v P) sorts))
    (no_unsaved s v P (sorts_no_file (node s v).work sorts))
    ∙ (append-nil (map (λ w. w.array) (waiting s v P) ++ []) ∙ append-nil (map (λ w. w.array) (waiting s v P)))

unsorted_list : (s : Setting) (v : ℕ) (P : Past) → may_sort (node s v).work ≡ false → waiting s v P ≡ []
unsorted_list s v P h = waiting-unsorted s v P (ap (λ (b : Bool). b && ltb 0 (node s v).sort) h)

file_only : (s : Setting) (v : ℕ) (P : Past) → is_file (node s v).work ≡ true → kept_at s P v ≡ unsaved s v P
file_only s v P file =
    three s v P [] [] (unsaved s v P) (unsorted_list s v P (file_no_sort (node s v).work file))
    (empty_ring s v P (file_no_ring (node s v).work (firings v P) (puts v P) file)) refl

ring_only : (s : Setting) (v pre post preset : ℕ) (P : Past) → (node s v).work ≡ Watches pre post preset → kept_at s P v ≡ ring s v P
ring_only s v pre post preset P work =
    three s v P [] (ring s v P) [] (unsorted_list s v P (ap may_sort work)) refl (no_unsaved s v P (ap is_file work)) ∙ append-nil (ring s v P)

pub kept_laws : KeptLaws
kept_laws = record {
  sorted = λ s r v m k f P h.
      let sorts : may_sort (node s v).work ≡ true = (and_parts _ _ h).0 in
      list_only s v (Put r v m k f ∷ P) sorts
      ∙ (ap (map (λ (w : Waiting). w.array)) (waiting-put s v r m k f P h)
      ∙ (map-append (λ (w : Waiting). w.array) (waiting s v P) (record { array = frame m k; tick = now P } ∷ [])
      ∙ ap (λ (xs : List FrameName). xs ++ frame m k ∷ []) (sym (list_only s v P sorts))));
  file = λ s r v m k f P file legal.
      file_only s v (Put r v m k f ∷ P) file
      ∙ (save_laws.put s r v m k f P legal file ∙ ap (λ (xs : List FrameName). xs ++ frame m k ∷ []) (sym (file_only s v P file)));
  unsorted = λ s v P sorts plain. list_only s v P sorts ∙ ap (map (λ (w : Waiting). w.array)) (waiting-unsorted s v P plain);
  watched = ring_only;
}
