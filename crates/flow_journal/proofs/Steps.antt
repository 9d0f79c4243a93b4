-- What one more entry changes.
use Rattle.std.proofs.Common.{◌≡◌, ◌≢◌, ℕ, Some, true, eqb, List, [], ◌∷◌, ◌++◌, refl, ap, ◌∙◌}
use Rattle.std.proofs.lemmas.Bool.{eq-eqb, ne_eqb, and_parts, and_from, eqb-true, false≢true}
use Rattle.nd_base.specs.declared.frame.FrameName.{FrameName}
use Rattle.flow_journal.specs.declared.entry.Entry.TheVariants.{Accept, Full, Take, Reclaim}
use Rattle.flow_journal.specs.FirstEntries.{is_next}
use Rattle.flow_journal.specs.Hands.{hand}
use Rattle.flow_journal.specs.Pasts.{Past, frame, same, without, comes_at}
use Rattle.flow_journal.specs.Queued.{queued}

pub comes_here : {X : Type 0} (v : ℕ) (x : X) (xs : List X) → comes_at v v x xs ≡ xs ++ x ∷ []
comes_here v x xs = rw (eq-eqb v v refl) refl

pub comes_elsewhere : {X : Type 0} (v w : ℕ) (x : X) (xs : List X) → w ≢ v → comes_at v w x xs ≡ xs
comes_elsewhere v w x xs h = rw (ne_eqb w v h) refl

-- an Accept makes the queue one longer, at its end
pub queued-Accept : (v m k : ℕ) (P : Past) → queued v (Accept v m k ∷ P) ≡ queued v P ++ frame m k ∷ []
queued-Accept v m k P = comes_here v (frame m k) (queued v P)

pub same_refl : (a : FrameName) → same a a ≡ true
same_refl a = and_from _ _ (eq-eqb a.maker a.maker refl) (eq-eqb a.index a.index refl)

pub same-true : (a b : FrameName) → same a b ≡ true → a ≡ b
same-true a b h =
    let p = and_parts (eqb a.maker b.maker) (eqb a.index b.index) h in
    let f : ℕ → FrameName = λ n. record { maker = n; index = a.index } in
    let g : ℕ → FrameName = λ n. record { maker = b.maker; index = n } in
    ap f (eqb-true a.maker b.maker p.0) ∙ ap g (eqb-true a.index b.index p.1)

pub without-head : (a : FrameName) (xs : List FrameName) → without a (a ∷ xs) ≡ xs
without-head a xs = rw (same_refl a) refl

pub next_is : (a : FrameName) (xs : List FrameName) → is_next a xs ≡ true → xs ≡ a ∷ without a xs
next_is a [] h = absurd (false≢true h)
next_is a (x ∷ xs) h = rw (same-true x a h, without-head a xs) refl

-- a job that is reclaimed makes its array the next one
pub queued-Reclaim : (v r q m k : ℕ) (P : Past) → hand r P ≡ Some (Take q v m k) → queued v (Reclaim r ∷ P) ≡ frame m k ∷ queued v P
queued-Reclaim v r q m k P h = rw h (rw (comes_here v (frame m k) []) refl)

-- a Full leaves the queue
pub queued-Full : (v w m k : ℕ) (P : Past) → queued v (Full w m k ∷ P) ≡ queued v P
queued-Full v w m k P = refl
