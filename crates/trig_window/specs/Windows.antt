-- The windows of a circular node, as arithmetic on positions. The positions 0, 1, .. are those of the arrays that
-- the node put, and each has a flag that says whether it fires.
use Rattle.std.specs.Prelude.{◌≡◌, ℕ, ◌+◌, ◌-◌, ◌==◌, Bool, true, false, ◌&&◌, ◌||◌, nat_lt, nat_le, List, [], ◌∷◌, ◌++◌, length, take, drop, max}
use Rattle.std.specs.Prelude.{if◌then◌else◌, refl}
use Rattle.std.specs.List.{list_any}

-- the positions that fire, of flags whose first has position k
abbrev pub firing_from : ℕ → List Bool → List ℕ
firing_from k [] = []
firing_from k (fired ∷ flags) = (if fired then k ∷ [] else []) ++ firing_from (k + 1) flags

-- Of positions in rising order each that isn't before `from`, where after one that is taken the next may be
-- taken from `post` positions later on.
abbrev pub spaced : (post from : ℕ) → List ℕ → List ℕ
spaced post from [] = []
spaced post from (k ∷ ks) =
    let taken = nat_le from k in
    (if taken then k ∷ [] else []) ++ spaced post (if taken then k + post else from) ks

-- The counted triggers: the first position that fires, after each trigger the first that fires from `post`
-- positions later on, and with a preset above 0 so many at most.
abbrev pub triggers : (post preset : ℕ) → List Bool → List ℕ
triggers post preset flags =
    let all = spaced post 0 (firing_from 0 flags) in
    if preset == 0 then all else take preset all

abbrev pub is_trigger : (post preset : ℕ) → List Bool → ℕ → Bool
is_trigger post preset flags k = list_any (λ t. t == k) (triggers post preset flags)

-- the position after the window of the last of these triggers, or `before` where there is none
abbrev pub end_from : (post before : ℕ) → List ℕ → ℕ
end_from post before [] = before
end_from post before (t ∷ ts) = end_from post (t + post) ts

-- the position after the last window, 0 before the first trigger
abbrev pub end_of_last : (post : ℕ) → List ℕ → ℕ
end_of_last post ts = end_from post 0 ts

-- The windows: from `pre` positions before the trigger, but not before the end of the window before, up to `post`
-- positions from the trigger on. A window is its first position and the first one after it.
abbrev pub windows_from : (pre post before : ℕ) → List ℕ → List (ℕ × ℕ)
windows_from pre post before [] = []
windows_from pre post before (t ∷ ts) = (max before (t - pre), t + post) ∷ windows_from pre post (t + post) ts

-- a window has the position
abbrev pub is_passed : (pre post preset : ℕ) → List Bool → ℕ → Bool
is_passed pre post preset flags k =
    list_any (λ w. nat_le w.0 k && nat_lt k w.1) (windows_from pre post 0 (triggers post preset flags))

-- the items whose position passes the test, where the first has position k
abbrev pub at_positions : {X : Type 0} → (ℕ → Bool) → ℕ → List X → List X
at_positions test k [] = []
at_positions test k (x ∷ xs) = (if test k then x ∷ [] else []) ++ at_positions test (k + 1) xs

-- the items that a node with these windows passes on, in order
abbrev pub passed_items : {X : Type 0} → (pre post preset : ℕ) → List Bool → List X → List X
passed_items pre post preset flags xs = at_positions (is_passed pre post preset flags) 0 xs

abbrev pub positions_from : ℕ → List Bool → List ℕ
positions_from k [] = []
positions_from k (fired ∷ flags) = k ∷ positions_from (k + 1) flags

-- the positions that the node passes on, in order
abbrev pub passed : (pre post preset : ℕ) → List Bool → List ℕ
passed pre post preset flags = passed_items pre post preset flags (positions_from 0 flags)

-- all counted triggers have come
abbrev pub is_complete : (post preset : ℕ) → List Bool → Bool
is_complete post preset flags = nat_lt 0 preset && (length (triggers post preset flags) == preset)

-- What of the items so far the node still keeps for a window to come: the last `pre` of those after the last
-- window, and none inside a window or once all counted triggers have come.
abbrev pub kept : {X : Type 0} → (pre post preset : ℕ) → List Bool → List X → List X
kept pre post preset flags xs =
    let end = end_of_last post (triggers post preset flags) in
    if nat_lt (length xs) end || is_complete post preset flags then [] else drop (max end (length xs - pre)) xs

-- what goes out when the newest item is put, given the firings and items before it: at a counted trigger what was
-- kept, and then the item where a window of the firings so far has its position
abbrev pub goes_out : {X : Type 0} → (pre post preset : ℕ) → List Bool → List X → Bool → X → List X
goes_out pre post preset flags xs fired x =
    (if is_trigger post preset (flags ++ fired ∷ []) (length flags) then kept pre post preset flags xs else [])
    ++ (if is_passed pre post preset (flags ++ fired ∷ []) (length flags) then x ∷ [] else [])

-- ten arrays of which 0, 4 and 5 fire
abbrev ten : List Bool
ten = true ∷ false ∷ false ∷ false ∷ true ∷ true ∷ false ∷ false ∷ false ∷ false ∷ []

two_windows_pass : passed 2 3 0 ten ≡ 0 ∷ 1 ∷ 2 ∷ 3 ∷ 4 ∷ 5 ∷ 6 ∷ []
two_windows_pass = refl

one_counted_window_passes : passed 2 3 1 ten ≡ 0 ∷ 1 ∷ 2 ∷ []
one_counted_window_passes = refl

-- the position that fires inside a window is no trigger
inside_is_no_trigger : triggers 3 0 ten ≡ 0 ∷ 4 ∷ []
inside_is_no_trigger = refl

last_two_are_kept : kept 2 3 0 ten (positions_from 0 ten) ≡ 8 ∷ 9 ∷ []
last_two_are_kept = refl

none_is_kept_once_complete : kept 2 3 1 ten (positions_from 0 ten) ≡ []
none_is_kept_once_complete = refl

-- a window begins where the one before it ends, although fewer than `pre` are between
short_lead : passed 5 2 0 (false ∷ true ∷ false ∷ false ∷ true ∷ []) ≡ 0 ∷ 1 ∷ 2 ∷ 3 ∷ 4 ∷ []
short_lead = refl
