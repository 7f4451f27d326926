-- What an insertion answers and leaves.
use Rattle.std.specs.Prelude.{◌≡◌, ◌≢◌, ◌⊎◌, ℕ, ◌≤◌, Option, Some, None, Result, Ok, Err, IfOk}
use Rattle.std.specs.Prelude.{OnErr}
use Rattle.std.specs.Prelude.{IsErrOf, IsSome}
use Rattle.std.specs.Int.NonZero.{non_zero_u32_get}
use Rattle.std.specs.Option.{option_map}
use Rattle.triple_arena.specs.Content.{arena_capacity}
use Rattle.triple_arena.specs.Entries.{with_entry}
use Rattle.triple_arena_ord.specs.Inserted.{IsAdded, IsReplaced, room_made}
use Rattle.triple_arena_ord.specs.Ordered.{entry_in, size_in}
use Rattle.triple_arena_ptr.specs.declared.errors.OrdInsertionError.{OrdInsertionError}
use Rattle.triple_arena_ptr.specs.declared.errors.OrdInsertionError.TheVariants.{BeyondMaxCapacity}
use Rattle.triple_arena_ptr.specs.declared.errors.OrdInsertionError.TheVariants.{FailedOrdRequirement}
use Rattle.triple_arena_ptr.specs.declared.errors.OrdInsertionError.TheVariants.{NotWithinCapacity}
use Rattle.triple_arena_ptr.specs.declared.errors.OrdInsertionError.TheVariants.{AllocError}
use Rattle.ord_map_c.specs.Entries.{Pair, entry, pair, pointer_of, put_in}
use Rattle.ord_map_c.specs.Entries.{value_of, with_key}
use Rattle.ord_map_c.specs.State.{Arena, IsMap, listed, pair_in, pair_of}
use Rattle.ord_map_c.specs.declared.handle.Handle.{Handle}
use Rattle.ord_map_c.specs.declared.refusal.Refusal.{Refusal}
use Rattle.ord_map_c.specs.declared.refusal.Refusal.TheVariants.{NoMemory, Full}

-- the refusal that an error of the arena becomes
abbrev pub refusal_of : OrdInsertionError → Refusal
refusal_of FailedOrdRequirement = NoMemory
refusal_of NotWithinCapacity = NoMemory
refusal_of BeyondMaxCapacity = Full
refusal_of AllocError = NoMemory

-- what an insertion into the arena is told as, with the value that it replaces alone
abbrev pub as_put : {P : Type 0} → Result (P × Option Pair) OrdInsertionError → (P → ℕ) → (P → ℕ)
    → Result (Handle × Option ℕ) Refusal
as_put (Ok r) index generation = Ok (
  record { index = index r.0; generation = generation r.0 },
  option_map (λ (t : Pair). t.v) r.1,
)
as_put (Err e) index generation = Err (refusal_of e)

-- a value at a key: the value that stood there gives way, under the handle that it has, and else
-- there is one entry more, at the next index and with the counter as its generation; only a full
-- map refuses one
pub record IsPut (key value : ℕ) (result : Result (Handle × Option ℕ) Refusal) (old new : Arena)
    : Type 0 where
  pub entries : IfOk result
      (λ r. listed new ≡ put_in (listed old) (entry r.0.index r.0.generation key value))
  pub was : IfOk result (λ r. r.1 ≡ option_map value_of (with_key (listed old) key))
  pub pairs : IfOk result (λ r. (i : ℕ) → entry_in new i
      ≡ with_entry (entry_in old) r.0.index (r.0.generation, pair key value) i)
  pub added : IfOk result (λ r. r.1 ≡ None
      → IsAdded r.0.index r.0.generation (pair key value) old new)
  pub replaced : IfOk result (λ r. (was : ℕ) → r.1 ≡ Some was
      → IsReplaced r.0.index r.0.generation (pair key value) (pair key was) old
      new)
  pub same : IfOk result (λ r. IsSome r.1
      → option_map pointer_of (with_key (listed old) key) ≡ Some (pair_of r.0))
  pub found : IfOk result
      (λ r. pair_in new r.0.index r.0.generation ≡ Some (pair key value))
  pub others : IfOk result (λ r. (j h : ℕ) → (j ≢ r.0.index) ⊎ (h ≢ r.0.generation)
      → pair_in new j h ≡ pair_in old j h)
  pub counter : new.chains.counter ≡ old.chains.counter
  pub room : IfOk result (λ r. new.chains.room ≡ room_made r.1 (size_in old) old.chains.room)
  pub limited : IfOk result (λ r. r.1 ≡ None → old.chains.room.limit ≢ Some (size_in old))
  pub absent : OnErr result (with_key (listed old) key ≡ None)
  pub full : OnErr result (arena_capacity old.chains ≤ size_in old)
  pub limit : IsErrOf result Full → old.chains.room.limit ≡ Some (size_in old)
  pub memory : IsErrOf result NoMemory → old.chains.room.limit ≢ Some (size_in old)
  pub refusals : OnErr result (IsErrOf result NoMemory ⊎ IsErrOf result Full)
  pub refused : OnErr result (new ≡ old)
  pub map : IsMap new

-- the value that stands at a key once it was got, or put in: that which stood there, or else this
abbrev pub standing : ℕ → Result (Handle × Option ℕ) Refusal → ℕ
standing value (Ok r) = by r.1
  where
    by : Option ℕ → ℕ
    by None = value
    by (Some own) = own
standing value (Err refusal) = value
