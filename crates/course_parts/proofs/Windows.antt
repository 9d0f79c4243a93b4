-- What comes out of a window at a push.
use Rattle.std.proofs.Common.{◌≡◌, ◌⊎◌, ◌<◌, ◌∙◌, ◌-◌, ℕ, Bool, true, false, cond, ltb, ◌||◌, List, [], ◌∷◌, ◌++◌, length, drop, max}
use Rattle.std.proofs.Common.{refl, sym, ap, subst, inl, inr, arith}
use Rattle.std.proofs.lemmas.Bool.{cases_Bool, cases_lt, ltb-true}
use Rattle.std.proofs.lemmas.List.{append-nil, drop_all, length_push}
use Rattle.nd_base.specs.declared.frame.FrameName.{FrameName}
use Rattle.trig_window.specs.Windows.{triggers, is_trigger, end_of_last, is_passed, is_complete, kept}
use Rattle.trig_window.specs.WindowLaws.{triggers-inside, triggers-complete, triggers-fired, triggers-quiet, grown-is_trigger, same-is_trigger}
use Rattle.trig_window.specs.WindowLaws.{same-is_passed, same-is_complete, kept-inside, kept-complete}
use Rattle.trig_window.specs.Watch.{Watch}
use Rattle.trig_window.specs.Watching.{Pushes, SameRule, StandsAt}
use Rattle.trig_window.specs.declared.window.Passed.{Passed}
use Rattle.trig_window.specs.declared.window.Passed.TheVariants as passed
use Rattle.board_rules.specs.States.{past}
use Rattle.course_parts.specs.Windows.{IsWatched}
use Rattle.course_parts.specs.declared.moving.Watched.TheVariants.{LetGo, Out}

-- one more firing adds a trigger at the newest position, or none
triggers-next : (post preset : ℕ) (flags : List Bool) (f : Bool)
    → (triggers post preset (flags ++ f ∷ []) ≡ triggers post preset flags)
    ⊎ (triggers post preset (flags ++ f ∷ []) ≡ triggers post preset flags ++ length flags ∷ [])
triggers-next post preset flags false = inl (triggers-quiet post preset flags)
triggers-next post preset flags true =
    elim (cases_Bool (is_complete post preset flags)) [
      | inl whole ↦ inl (triggers-complete post preset flags true whole)
      | inr open_still ↦ elim (cases_lt (length flags) (end_of_last post (triggers post preset flags))) [
        | inl inside ↦ inl (triggers-inside post preset flags true inside)
        | inr past ↦ inr (triggers-fired post preset flags past open_still)
      ]
    ]

-- why nothing may be kept beside the newest array
abbrev pub KeepsNone : (pre post preset : ℕ) → List Bool → Bool → Type 0
KeepsNone pre post preset flags f =
    (is_passed pre post preset (flags ++ f ∷ []) (length flags) ≡ true) ⊎ ((is_complete post preset (flags ++ f ∷ []) ≡ true) ⊎ (pre ≡ 0))

kept-none : (pre post preset : ℕ) (flags : List Bool) (f : Bool) (xs : List FrameName) → length xs ≡ length flags
    → triggers post preset (flags ++ f ∷ []) ≡ triggers post preset flags → KeepsNone pre post preset flags f → kept pre post preset flags xs ≡ []
kept-none pre post preset flags f xs long same (inl passes) =
    let inside : length flags < end_of_last post (triggers post preset flags) = ltb-true _ _ (sym (same-is_passed pre post preset flags f same) ∙ passes) in
    kept-inside pre post preset flags xs (omega (arith, inside, long))
kept-none pre post preset flags f xs long same (inr (inl whole)) =
    kept-complete pre post preset flags xs (sym (same-is_complete pre post preset flags f same) ∙ whole)
kept-none pre post preset flags f xs long same (inr (inr none)) =
    elim (ltb (length xs) (end_of_last post (triggers post preset flags))
    || is_complete post preset flags) as (λ b. cond b [] (drop (max (end_of_last post (triggers post preset flags)) (length xs - pre)) xs) ≡ []) [
      | true ↦ refl
      | false ↦ drop_all (max (end_of_last post (triggers post preset flags)) (length xs - pre)) xs (omega (arith, none))
    ]

-- then the ring goes out as a whole
ring-whole : (flags : List Bool) (names : List FrameName) (f : Bool) (old : Watch FrameName) → StandsAt old flags names
    → KeepsNone old.pre old.post old.preset flags f → cond (is_trigger old.post old.preset (flags ++ f ∷ []) (length flags)) old.ring [] ≡ old.ring
ring-whole flags names f old s none = elim (triggers-next old.post old.preset flags f) [
  | inl same ↦
      ap (λ b. cond b old.ring []) (same-is_trigger old.pre old.post old.preset flags f same)
      ∙ sym (s.ring ∙ kept-none old.pre old.post old.preset flags f names s.items same none)
  | inr grown ↦ ap (λ b. cond b old.ring []) (grown-is_trigger old.pre old.post old.preset flags f grown)
]

-- A PUSH
watch-stands : (flags : List Bool) (names : List FrameName) (f : Bool) (a : FrameName) (old mid : Watch FrameName) (p : Passed FrameName)
    → StandsAt old flags names → SameRule old mid → Pushes flags f a old mid p → StandsAt (record mid { pending = [] }) (flags ++ f ∷ []) (names ++ a ∷ [])
watch-stands flags names f a old mid p s r push =
    record {
      after = record { left = push.after.left; wanted = push.after.wanted };
      items = omega (arith, length_push names a, length_push flags f, s.items);
      ring = rw (r.0, r.1, r.2) (push.ring names s.items s.ring);
      pending = refl;
    }

no-pending : (mid : Watch FrameName) → mid.pending ≡ [] → (let w : Watch FrameName = record mid { pending = [] } in w) ≡ mid
no-pending mid h = ap (λ (xs : List FrameName). (let w : Watch FrameName = record mid { pending = xs } in w)) (sym h)

pub watched-let_go : (flags : List Bool) (names : List FrameName) (f : Bool) (a x : FrameName) (old mid : Watch FrameName) (out : List FrameName)
    → StandsAt old flags names → SameRule old mid → Pushes flags f a old mid (passed.LetGo x) → out ≡ x ∷ [] → IsWatched flags names f a old mid out LetGo
watched-let_go flags names f a x old mid out s r push is =
    let answer = push.answer in
    let none : old.ring ≡ [] = sym (ring-whole flags names f old s (inr answer.1)) ∙ (sym push.pending ∙ answer.4) in
    record {
      rule = r;
      stands =
          subst (λ (w : Watch FrameName). StandsAt w (flags ++ f ∷ []) (names ++ a ∷ [])) (no-pending mid answer.4)
          (watch-stands flags names f a old mid (passed.LetGo x) s r push);
      whole = rw (is, answer.3, none, answer.2) refl;
      comes = (answer.0, sym push.pending ∙ answer.4, ap length is);
    }

pub watched-now : (flags : List Bool) (names : List FrameName) (f : Bool) (a x : FrameName) (old mid new : Watch FrameName) (out : List FrameName)
    → StandsAt old flags names → SameRule old mid → Pushes flags f a old mid (passed.Now x) → new ≡ record mid { pending = [] } → out ≡ mid.pending ++ x ∷ []
    → IsWatched flags names f a old new out Out
watched-now flags names f a x old mid new out s r push after is =
    let answer = push.answer in
    let called : out ≡ cond (is_trigger old.post old.preset (flags ++ f ∷ []) (length flags)) old.ring [] ++ a ∷ [] =
    is
    ∙ (ap (λ xs. xs ++ x ∷ []) push.pending
    ∙ ap (λ y. cond (is_trigger old.post old.preset (flags ++ f ∷ []) (length flags)) old.ring [] ++ y ∷ []) answer.1) in
    subst (λ (w : Watch FrameName). IsWatched flags names f a old w out Out) (sym after)
    (record {
      rule = r;
      stands = watch-stands flags names f a old mid (passed.Now x) s r push;
      whole = ap (λ xs. out ++ xs) answer.2 ∙ (append-nil out ∙ (called ∙ ap (λ xs. xs ++ a ∷ []) (ring-whole flags names f old s (inl answer.0))));
      comes = (answer.0, called);
    })
