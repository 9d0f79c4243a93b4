-- The rooms of nodes, and what stays where those of one node are others.
use Rattle.std.specs.Prelude.{◌≡◌, ◌≢◌, ℕ, zero, suc, ◌-◌, ◌%◌, ◌<◌, ◌≤◌, List, [], ◌∷◌, length, All, Option, Some, None, IsSomeAnd, slice_get, refl}
use Rattle.std.proofs.Common.{◌⊎◌, inl, inr, ap, sym, subst, arith, ◌∙◌, get_or, set, length-set}
use Rattle.std.proofs.Math.Nat.{mod-lt}
use Rattle.std.proofs.lemmas.Bool.{cases_lt, cases_eq}
use Rattle.std.proofs.lemmas.List.{get_or_past}
use Rattle.std.proofs.lemmas.Option.{same_Some, slice_get-get_or}
use Rattle.nd_base.specs.Array.{StackValue}
use Rattle.nd_base.specs.declared.graph.Graph.{Graph}
use Rattle.chain_plain.specs.Content.{IsContent}
use Rattle.chain_plain.specs.ContentLaws.{frame}
use Rattle.chain_plain.specs.Nodes.{maker_at}
use Rattle.graph_files.specs.OpenFileLaws.{get-set_same}
use Rattle.plain_saver.specs.declared.node_rooms.Room.{Room}
use Rattle.plain_saver.specs.Rooms.{own_room, with_own, HasOwn, rooms_of, with_rooms, with_room, HasRegion, HasOnly, AreCut, HasFrame, KeepsFrames}
use Rattle.plain_saver.proofs.AtNodes.{node-same, node-other}

-- THE ROOMS OF ONE NODE

-- each element is the one that was written, or was there
set-cases : {X : Type 0} (xs : List X) (k j : ℕ) (x y : X) → slice_get (set xs k x) j ≡ Some y → (x ≡ y) ⊎ (slice_get xs j ≡ Some y)
set-cases [] k j x y at = inr at
set-cases (z ∷ xs) zero zero x y at = inl (same_Some x y at)
set-cases (z ∷ xs) zero (suc j) x y at = inr at
set-cases (z ∷ xs) (suc k) zero x y at = inr at
set-cases (z ∷ xs) (suc k) (suc j) x y at = set-cases xs k j x y at

-- a frame that was written into its room has it
own-written : (own : List Room) (k : ℕ) (room : Room) → 1 ≤ length own → room.index ≡ Some k → HasOwn (with_own own k room) k
own-written own k room some is =
    let p = k % length own in
    let there : slice_get (with_own own k room) p ≡ Some room = get-set_same own p (get_or own p room) room (slice_get-get_or own p room (mod-lt k some)) in
    subst (λ n. IsSomeAnd (slice_get (with_own own k room) (k % n)) (λ (r : Room). r.index ≡ Some k)) (sym (length-set own p room))
    (subst (λ (o : Option Room). IsSomeAnd o (λ (r : Room). r.index ≡ Some k)) (sym there) is)

own-some : (o : Option Room) (k : ℕ) → IsSomeAnd o (λ (r : Room). r.index ≡ Some k) → (r : Room) × (o ≡ Some r) × (r.index ≡ Some k)
own-some None k h = absurd h
own-some (Some r) k h = (r, refl, h)

own-none : (k : ℕ) → HasOwn [] k → ⊥
own-none k h = h

module _ (g : Graph) (s : StackValue) (v : ℕ) where
  -- rooms that have nothing but frames of a node stay so where one of them is written with such a frame
  only-with : (own : List Room) (p : ℕ) (room : Room) → ((k : ℕ) → room.index ≡ Some k → IsContent g s (frame v k) room.bytes) → HasOnly g s v own
      → HasOnly g s v (set own p room)
  only-with own p room mine only j k r at is =
      elim (set-cases own p j room r at) [
        | inl same ↦ subst (λ (q : Room). IsContent g s (frame v k) q.bytes) same (mine k (ap (λ (q : Room). q.index) same ∙ is))
        | inr there ↦ only j k r there is
      ]

-- a room with one frame
pub own-frame : (g : Graph) (s : StackValue) (v k : ℕ) (bytes : List ℕ) → IsContent g s (frame v k) bytes → (j : ℕ) → Some k ≡ Some j
    → IsContent g s (frame v j) bytes
own-frame g s v k bytes held j is = subst (λ i. IsContent g s (frame v i) bytes) (same_Some k j is) held

-- THE ROOMS OF ALL NODES

-- where no node has a room, all are cut, whatever the stack
pub empty-cut : (g : Graph) (s : StackValue) (rooms : List (List Room)) → All (λ own. own ≡ []) rooms → AreCut g s rooms
empty-cut g s rooms empty v first =
    let none : rooms_of rooms v ≡ [] = elim (cases_lt (v - 1) (length rooms)) [
      | inl within ↦ empty (v - 1) [] within
      | inr past ↦ get_or_past rooms (v - 1) [] past
    ] in
    subst (HasOnly g s v) (sym none) (λ j k room at is. (let clash : None ≡ Some room = at in absurd (cc)))

module _ (g : Graph) (rooms : List (List Room)) (v : ℕ) (first : 1 ≤ v) where
  module _ (s : StackValue) (within : v ≤ length rooms) (cut : AreCut g s rooms) where
    -- rooms that are cut stay so where those of a node have nothing but frames of it
    cut-with : (own : List Room) → HasOnly g s v own → AreCut g s (with_rooms rooms v own)
    cut-with own only w some =
        elim (cases_eq w v) [
          | inl here ↦
              subst (λ u. HasOnly g s u (rooms_of (with_rooms rooms v own) u)) (sym here)
              (subst (HasOnly g s v) (sym (node-same rooms v own [] first within)) only)
          | inr apart ↦ subst (HasOnly g s w) (sym (node-other rooms v own [] first w some apart)) (cut w some)
        ]

    -- as where one of them is written with a frame of the node
    pub cut-room : (k : ℕ) (room : Room) → ((j : ℕ) → room.index ≡ Some j → IsContent g s (frame v j) room.bytes) → AreCut g s (with_room rooms v k room)
    cut-room k room mine =
        let own = rooms_of rooms v in
        cut-with (with_own own k room) (only-with g s v own (k % length own) room mine (cut v first))

    -- and where one of them is emptied
    pub cut-without : (k : ℕ) → AreCut g s (with_room rooms v k (record { index = None; bytes = [] }))
    cut-without k = cut-room k (record { index = None; bytes = [] }) (λ j h. (let clash : None ≡ Some j = h in absurd (cc)))

  -- a frame that is at hand stays so where another node's rooms are others
  pub frame-stays : (w k : ℕ) (own : List Room) → maker_at g.nodes w ≢ v → HasFrame g rooms w k → HasFrame g (with_rooms rooms v own) w k
  frame-stays w k own apart (inl driver) = inl driver
  frame-stays w k own apart (inr here) =
      elim (cases_eq (maker_at g.nodes w) 0) [
        | inl driver ↦ inl driver
        | inr some ↦
            let one : 1 ≤ maker_at g.nodes w = omega (arith, some) in
            inr (subst (λ own_. HasOwn own_ k) (sym (node-other rooms v own [] first (maker_at g.nodes w) one apart)) here)
      ]

  module _ (within : v ≤ length rooms) (k : ℕ) (some : 1 ≤ length (rooms_of rooms v)) where
    region-written : (room : Room) → room.index ≡ Some k → HasRegion (with_room rooms v k room) v k
    region-written room is =
        subst (λ own. HasOwn own k) (sym (node-same rooms v (with_own (rooms_of rooms v) k room) [] first within))
        (own-written (rooms_of rooms v) k room some is)

    -- a frame that was written is at hand
    pub frame-written : (room : Room) → maker_at g.nodes v ≡ v → room.index ≡ Some k → HasFrame g (with_room rooms v k room) v k
    frame-written room own is = inr (subst (λ m. HasRegion (with_room rooms v k room) m k) (sym own) (region-written room is))

    -- the node has as many rooms where one of them is written
    pub rooms-still : (room : Room) → length (rooms_of (with_room rooms v k room) v) ≡ length (rooms_of rooms v)
    rooms-still room =
        ap length (node-same rooms v (with_own (rooms_of rooms v) k room) [] first within) ∙ length-set (rooms_of rooms v) (k % length (rooms_of rooms v)) room

-- what is at hand of a frame stays so where its room is emptied and then written with it
pub frames-kept : (g : Graph) (rooms : List (List Room)) (v k : ℕ) (none room : Room) → 1 ≤ v → v ≤ length rooms → 1 ≤ length (rooms_of rooms v)
    → room.index ≡ Some k → KeepsFrames g k rooms (with_room (with_room rooms v k none) v k room)
frames-kept g rooms v k none room first within some is w here =
    elim (cases_eq (maker_at g.nodes w) v) [
      | inl same ↦
          let mid = with_room rooms v k none in
          let there : v ≤ length mid = (let long = length-set rooms (v - 1) (with_own (rooms_of rooms v) k none) in omega (arith, long, within)) in
          let more : 1 ≤ length (rooms_of mid v) = (let still = rooms-still g rooms v first within k some none in omega (arith, still, some)) in
          inr (subst (λ m. HasRegion (with_room mid v k room) m k) (sym same) (region-written g mid v first there k more room is))
      | inr apart ↦
          frame-stays g (with_room rooms v k none) v first w k (with_own (rooms_of (with_room rooms v k none) v) k room) apart
          (frame-stays g rooms v first w k (with_own (rooms_of rooms v) k none) apart here)
    ]

-- A FRAME IN ITS ROOM

-- a node of which a frame is at hand is one of those that have rooms
pub region-within : (rooms : List (List Room)) (v k : ℕ) → HasRegion rooms v k → v - 1 < length rooms
region-within rooms v k has =
    elim (cases_lt (v - 1) (length rooms)) [
      | inl within ↦ within
      | inr past ↦ absurd (own-none k (subst (λ own. HasOwn own k) (get_or_past rooms (v - 1) [] past) has))
    ]

-- what the frame's room has is its content
pub room-content : (g : Graph) (s : StackValue) (rooms : List (List Room)) (v k : ℕ) (bytes : List ℕ) → 1 ≤ v → AreCut g s rooms → HasRegion rooms v k
    → ((room : Room) → own_room (rooms_of rooms v) k ≡ Some room → bytes ≡ room.bytes) → IsContent g s (frame v k) bytes
room-content g s rooms v k bytes first cut has read =
    let r = own-some (own_room (rooms_of rooms v) k) k has in
    subst (IsContent g s (frame v k)) (sym (read r.0 r.1)) (cut v first (k % length (rooms_of rooms v)) k r.0 r.1 r.2)

-- a frame that isn't the stack's own has a room
pub frame-region : (g : Graph) (rooms : List (List Room)) (v m k : ℕ) → m ≡ maker_at g.nodes v → m ≢ 0 → HasFrame g rooms v k → HasRegion rooms m k
frame-region g rooms v m k is apart (inl driver) = absurd (apart (is ∙ driver))
frame-region g rooms v m k is apart (inr here) = subst (λ w. HasRegion rooms w k) (sym is) here
