-- What the calls that append an item, or make room for one, answer and leave, in any stack:
-- `items_of` and `room_of` are its items and its room, and `takes_memory` says whether it takes
-- memory.
use Rattle.std.specs.Prelude.{◌≡◌, ℕ, ◌+◌, ◌<◌, ◌↔◌, Bool, IsTrue, List, [], ◌∷◌, ◌++◌, length}
use Rattle.std.specs.Prelude.{Some, Result, IsOk, IfOk, OnErr, IsErrOf}
use Rattle.std.specs.Int.NonZero.{non_zero_usize_get}
use Rattle.std.specs.declared.num.NonZeroUsize.{NonZeroUsize}
use Rattle.triple_arena_ptr.specs.declared.errors.ReallocationError.{ReallocationError}
use Rattle.triple_arena_ptr.specs.declared.errors.ReallocationError.TheVariants.{BeyondMaxCapacity}
use Rattle.triple_arena_ptr.specs.declared.errors.ReallocationError.TheVariants.{AllocError}
use Rattle.triple_arena_stack.specs.Room.{Room, capacity, room_after}

-- which error comes where a slot is asked for, with so many items in this room, and when none does
pub record IsRefusal {A : Type 0} (takes_memory : Bool) (len : ℕ) (room : Room)
    (result : Result A ReallocationError) : Type 0 where
  pub succeeds : len < capacity room → IsOk result
  pub beyond : IsErrOf result BeyondMaxCapacity ↔ (room.limit ≡ Some len)
  pub memory : IsErrOf result AllocError → IsTrue takes_memory

module _ {S T : Type 0} (items_of : S → List T) (room_of : S → Room) where
  -- the value at the end, at this index, in this room
  pub record IsPushed (i : ℕ) (value : T) (after : Room) (old new : S) : Type 0 where
    pub index : i ≡ length (items_of old) + 1
    pub items : items_of new ≡ items_of old ++ value ∷ []
    pub room : room_of new ≡ after

  -- the same items with a free slot, in the same room or, where that was full, in a greater one
  pub record HasFreeSlot (old new : S) : Type 0 where
    pub items : items_of new ≡ items_of old
    pub room : room_of new ≡ room_after (length (items_of old)) (room_of old)
    pub free : length (items_of new) < capacity (room_of new)

  -- a push that grows the stack where all slots are taken. Where it is refused the stack is as it
  -- was
  pub record IsGrowingPush (takes_memory : Bool) (value : T) (old : S)
      (result : Result NonZeroUsize ReallocationError) (new : S) : Type 0 where
    pub pushed : IfOk result
        (λ i. IsPushed (non_zero_usize_get i) value
        (room_after (length (items_of old)) (room_of old)) old new)
    pub refusal : IsRefusal takes_memory (length (items_of old)) (room_of old) result
    pub err : OnErr result (new ≡ old)
