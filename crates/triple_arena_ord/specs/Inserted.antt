-- What an insertion does.
use Rattle.std.specs.Prelude.{◌≡◌, ◌≢◌, ℕ, ◌+◌, ◌<◌, ◌≤◌, max, Bool, IsTrue, List, [], ◌∷◌, ◌++◌}
use Rattle.std.specs.List.{AllByRecursion}
use Rattle.std.specs.Prelude.{length, drop, Option, Some, None, Result, Ok, Err}
use Rattle.std.specs.Option.{option_map}
use Rattle.std.specs.declared.cmp.Ordering.{Ordering}
use Rattle.std.specs.declared.cmp.Ordering.TheVariants.{Less, Equal, Greater}
use Rattle.triple_arena_stack.specs.Room.{Room, capacity, room_after}
use Rattle.triple_arena.specs.Content.{Content, next_index}
use Rattle.triple_arena.specs.Entries.{with_entry}
use Rattle.triple_arena_ptr.specs.declared.errors.OrdInsertionError.{OrdInsertionError}
use Rattle.triple_arena_ptr.specs.declared.errors.OrdInsertionError.TheVariants.{FailedOrdRequirement}
use Rattle.triple_arena_ptr.specs.declared.errors.OrdInsertionError.TheVariants.{NotWithinCapacity}
use Rattle.triple_arena_ptr.specs.declared.errors.OrdInsertionError.TheVariants.{BeyondMaxCapacity}
use Rattle.triple_arena_ptr.specs.declared.errors.OrdInsertionError.TheVariants.{AllocError}
use Rattle.triple_arena_chain.specs.Links.{IsKept, ends_in}
use Rattle.triple_arena_chain.specs.LinkShape.{IndexLink}
use Rattle.rank_tree.specs.declared.side.Side.TheVariants.{Left, Right}
use Rattle.triple_arena_ord.specs.NodeShape.{IndexNode}
use Rattle.triple_arena_ord.specs.Node.{nodes_in, items_in}
use Rattle.triple_arena_ord.specs.Ordered.{Ordered, IsOrdered, IsAscending, StandsBeside}
use Rattle.triple_arena_ord.specs.Ordered.{StaysAscending, NoneGreater, NoneLess, order_in}
use Rattle.triple_arena_ord.specs.Ordered.{entry_in, size_in, asked_at}
use Rattle.triple_arena_ord.specs.Found.{Answers}

-- one more index stands where a search ended: before or after the index that was asked last, or
-- alone
abbrev pub StandsAt : Option (ℕ × Ordering) → List ℕ → List ℕ → ℕ → Type 0
StandsAt None old new n = (old ≡ []) × (new ≡ n ∷ [])
StandsAt (Some place) old new n = by place.1
  where
    by : Ordering → Type 0
    by Less = StandsBeside Left old new place.0 n
    by Equal = ⊥
    by Greater = StandsBeside Right old new place.0 n

-- at this place an item is replaced
abbrev pub Replaces : Option (ℕ × Ordering) → Type 0
Replaces None = ⊥
Replaces (Some place) = place.1 ≡ Equal

-- what stands at the one place stands at the other, and an item is replaced at both or at none
pub record IsSamePlace (w : List ℕ) (one other : Option (ℕ × Ordering)) : Type 0 where
  pub stands : (new : List ℕ) (n : ℕ) → StandsAt one w new n → StandsAt other w new n
  pub replaced : (i : ℕ) → one ≡ Some (i, Equal) → other ≡ Some (i, Equal)
  pub replaces : Replaces other → Replaces one
  pub none : one ≡ None → other ≡ None

-- a result with the pointer to the entry
abbrev pub under : {P T : Type 0} → P → Result (Option T) OrdInsertionError
    → Result (P × Option T) OrdInsertionError
under p (Ok replaced) = Ok (p, replaced)
under p (Err error) = Err error

-- what a room says of a new entry where it does not grow: there is a place for it, or there is none
abbrev pub within_room : ℕ → Room → Option OrdInsertionError → Type 0
within_room len room None = len < capacity room
within_room len room (Some error) = (error ≡ NotWithinCapacity) × (capacity room ≤ len)

-- the same where it grows: only a full room is refused, for its limit, or else for memory
abbrev pub growing_room : Bool → ℕ → Room → Option OrdInsertionError → Type 0
growing_room takes_memory len room None = room.limit ≢ Some len
growing_room takes_memory len room (Some error) = (capacity room ≤ len) × by error
  where
    by : OrdInsertionError → Type 0
    by FailedOrdRequirement = ⊥
    by NotWithinCapacity = ⊥
    by BeyondMaxCapacity = room.limit ≡ Some len
    by AllocError = IsTrue takes_memory × (room.limit ≢ Some len)

-- the same of a call that does not grow, or of one that does, over a stack that may take memory
abbrev pub either_room : Option Bool → ℕ → Room → Option OrdInsertionError → Type 0
either_room None = within_room
either_room (Some takes_memory) = growing_room takes_memory

-- the room after an insertion: a new entry, which replaces no item, makes it grow where it is full
abbrev pub room_made : {T : Type 0} → Option T → ℕ → Room → Room
room_made None len room = room_after len room
room_made (Some _) len room = room

-- the room that an insertion leaves, which does not grow, or which does
abbrev pub room_left : {P T : Type 0} → Option Bool → Result (P × Option T) OrdInsertionError → ℕ
    → Room → Room
room_left None result len room = room
room_left (Some _) (Ok made) len room = room_made made.1 len room
room_left (Some _) (Err _) len room = room

-- the room with a place for an item: an item in place of another wants none
abbrev pub room_for : Option (ℕ × Ordering) → ℕ → Room → Room
room_for None len room = room_after len room
room_for (Some place) len room = by place.1
  where
    by : Ordering → Room
    by Less = room_after len room
    by Equal = room
    by Greater = room_after len room

module _ {T : Type 0} where
  -- the node at an index has another item, and all else is as it was
  pub record IsRenewed (i g : ℕ) (t u : T) (old new : Content (IndexLink (IndexNode T)))
      : Type 0 where
    pub was : items_in old i ≡ Some (g, u)
    pub items : (k : ℕ) → items_in new k ≡ with_entry (items_in old) i (g, t) k
    pub nodes : (k : ℕ) → nodes_in new k ≡ nodes_in old k
    pub ends : (k : ℕ) → ends_in new k ≡ ends_in old k
    pub kept : IsKept old new

  -- the item at an index is replaced, and all else is as it was
  pub record IsReplaced (i g : ℕ) (t u : T) (old new : Ordered T) : Type 0 where
    pub was : entry_in old i ≡ Some (g, u)
    pub order : order_in new ≡ order_in old
    pub entries : (k : ℕ) → entry_in new k ≡ with_entry (entry_in old) i (g, t) k
    pub root : new.root ≡ old.root
    pub nodes : (k : ℕ) → nodes_in new.chains k ≡ nodes_in old.chains k
    pub kept : IsKept old.chains new.chains

  -- one more entry, under the next index, which is no longer free, and the counter; all others stay
  pub record IsAdded (i g : ℕ) (t : T) (old new : Ordered T) : Type 0 where
    pub index : i ≡ next_index old.chains
    pub generation : g ≡ old.chains.counter
    pub vacant : entry_in old i ≡ None
    pub entries : (k : ℕ) → entry_in new k ≡ with_entry (entry_in old) i (g, t) k
    pub size : size_in new ≡ size_in old + 1
    pub free : new.chains.free ≡ drop 1 old.chains.free
    pub slots : length new.chains.slots ≡ max (length old.chains.slots) (next_index old.chains)

  -- a new entry where a search ended. The counter and the room stay
  pub record AddsAt (place : Option (ℕ × Ordering)) (i g : ℕ) (t : T) (old new : Ordered T)
      : Type 0 where
    pub stands : StandsAt place (order_in old) (order_in new) i
    pub added : IsAdded i g t old new
    pub counter : new.chains.counter ≡ old.chains.counter
    pub room : new.chains.room ≡ old.chains.room
    pub ordered : IsOrdered new

  -- `allows` is what the room says: None lets a new entry in, an error does not
  module _ {P : Type 0} (index generation : P → ℕ) (allows : Option OrdInsertionError
      → Type 0) where
    -- an insertion where a search ended, whose last answer tells whether an item is replaced
    pub record IsInsertedAt (place : Option (ℕ × Ordering)) (t : T)
        (result : Result (P × Option T) OrdInsertionError) (old new : Ordered T) : Type 0 where
      pub replaced : (p : P) (u : T) → result ≡ Ok (p, Some u) → (place ≡ Some (index p, Equal))
          × IsReplaced (index p) (generation p) t u old new
      pub added : (p : P) → result ≡ Ok (p, None)
          → StandsAt place (order_in old) (order_in new) (index p)
          × IsAdded (index p) (generation p) t old new
      pub fits : (p : P) → result ≡ Ok (p, None) → allows None
      pub refused : (error : OrdInsertionError) → result ≡ Err error → (Replaces place → ⊥)
          × allows (Some error)
      pub same : (error : OrdInsertionError) → result ≡ Err error → new ≡ old

  module _ {P : Type 0} (index generation : P → ℕ) where
    -- an insertion where a search ended, by a call that does not grow, or by one that does, over a
    -- stack that may take memory. The counter stays
    pub record InsertsAt (growth : Option Bool) (place : Option (ℕ × Ordering)) (t : T)
        (result : Result (P × Option T) OrdInsertionError) (old new : Ordered T) : Type 0 where
      pub inserted : IsInsertedAt index generation (either_room growth (size_in old)
          old.chains.room) place t result old new
      pub counter : new.chains.counter ≡ old.chains.counter
      pub room : new.chains.room ≡ room_left growth result (size_in old) old.chains.room
      pub ordered : IsOrdered new

  module _ {K : Type 0} (cmp : K → K → Ordering) (key : T → K) where
    -- one more index in the list: where the keys ascend, all before it have lesser keys and all
    -- after it greater ones
    pub record IsPlacedByKey (k : K) (i : ℕ) (old new : Ordered T) : Type 0 where
      pub before : List ℕ
      pub after : List ℕ
      pub was : order_in old ≡ before ++ after
      pub is : order_in new ≡ before ++ i ∷ after
      pub greater : IsAscending cmp key old
          → AllByRecursion (λ j. asked_at cmp key k old j ≡ Greater) before
      pub less : IsAscending cmp key old
          → AllByRecursion (λ j. asked_at cmp key k old j ≡ Less) after

    -- one more index in the list, between entries whose keys are not greater and entries whose keys
    -- are not less
    pub record IsPlacedBetween (k : K) (i : ℕ) (old new : Ordered T) : Type 0 where
      pub before : List ℕ
      pub after : List ℕ
      pub was : order_in old ≡ before ++ after
      pub is : order_in new ≡ before ++ i ∷ after
      pub none_greater : NoneGreater cmp key k old before
      pub none_less : NoneLess cmp key k old after

    module _ {P : Type 0} (index generation : P → ℕ) (allows : Option OrdInsertionError
        → Type 0) where
      -- an insertion by key: an item that is replaced has an equal key, and takes no room; else
      -- there is one more entry, where the room allows it. If keys ascend and one is equal, its
      -- item is replaced
      pub record IsKeyInserted (t : T) (result : Result (P × Option T) OrdInsertionError)
          (old new : Ordered T) : Type 0 where
        pub replaced : (p : P) (u : T) → result ≡ Ok (p, Some u) → (cmp (key t) (key u) ≡ Equal)
            × IsReplaced (index p) (generation p) t u old new
        pub added : (p : P) → result ≡ Ok (p, None) → IsPlacedByKey (key t) (index p) old new
            × IsAdded (index p) (generation p) t old new
        pub fits : (p : P) → result ≡ Ok (p, None) → allows None
        pub refused : (error : OrdInsertionError) → result ≡ Err error → allows (Some error)
        pub same : (error : OrdInsertionError) → result ≡ Err error → new ≡ old
        pub absent : (error : OrdInsertionError) → result ≡ Err error
            → IsAscending cmp key old
            → (i : ℕ) → option_map (λ e. cmp (key t) (key e.1)) (entry_in old i) ≢ Some Equal

    module _ {P : Type 0} (index generation : P → ℕ) where
      -- the same of a call that does not grow, or of one that does, over a stack that may take
      -- memory. A list whose keys ascend still does, and the counter stays
      pub record InsertsByKey (growth : Option Bool) (t : T)
          (result : Result (P × Option T) OrdInsertionError) (old new : Ordered T) : Type 0 where
        pub inserted : IsKeyInserted index generation (either_room growth (size_in old)
            old.chains.room) t result old new
        pub ascending : StaysAscending cmp key old new
        pub counter : new.chains.counter ≡ old.chains.counter
        pub room : new.chains.room ≡ room_left growth result (size_in old) old.chains.room
        pub ordered : IsOrdered new

      -- the same, but an entry with an equal key stays: then nothing changes, and `t` comes back
      pub record GetsOrInserts (growth : Option Bool) (t : T)
          (result : Result (P × Option T) OrdInsertionError) (old new : Ordered T) : Type 0 where
        pub found : (p : P) (u : T) → result ≡ Ok (p, Some u) → (u ≡ t) × (new ≡ old)
            × Answers index generation (asked_at cmp key (key t) old) old p Equal
        pub inserted : ((p : P) (u : T) → result ≢ Ok (p, Some u))
            → InsertsByKey growth t result old new
        pub ordered : IsOrdered new
