-- What a drain leaves of an arena: no entry. A removal does not change it. And how many removals
-- are to come.
use Rattle.std.proofs.Common.{◌≡◌, ℕ, zero, suc, ◌+◌, ◌-◌, ◌<◌, List, [], ◌∷◌, length, Option, refl}
use Rattle.std.proofs.Common.{arith}
use Rattle.std.specs.Fn.{iterate}
use Rattle.std.specs.Option.{option_map}
use Rattle.triple_arena_ptr.specs.Generation.{next_generation}
use Rattle.triple_arena_stack.specs.Room.{Room}
use Rattle.triple_arena.specs.Changes.{IsRemoved}
use Rattle.triple_arena.specs.Content.{Content, entry_at, live_count, some_counter}
use Rattle.triple_arena.specs.ContentLaws.{entry-no_slots}
use Rattle.triple_arena.specs.DirectContent.{DirectContent, as_content, entry_at as direct_entry_at}
use Rattle.triple_arena.specs.DirectContent.{live_count as direct_live_count, no_counter, cleared}
use Rattle.triple_arena.specs.Drains.{drained, removals, LeavesGivenUp}
use Rattle.triple_arena.specs.Transfer.{IsGivenUp}

-- a step of a repetition, taken first
pub iterate_first : {A : Type 0} (h : A → A) (n : ℕ) (x : A) → 0 < n
    → iterate h (n - 1) (h x) ≡ iterate h n x
iterate_first h zero x some = absurd (omega arith)
iterate_first h (suc n) x some = let less : suc n - 1 ≡ n = omega arith in rw less refl

module _ {S T : Type 0} {entry_of : S → ℕ → Option (ℕ × T)} {live_of : S → ℕ}
    {counter_of : S → Option ℕ} {room_of : S → Room} {last : Option ℕ} (left : S → S) where
  -- what is left is given up
  pub left-is_given_up : LeavesGivenUp entry_of live_of counter_of room_of last left → (s : S)
      → IsGivenUp entry_of live_of counter_of room_of last s (left s)
  unfolding LeavesGivenUp
  left-is_given_up leaves = leaves.0

  -- a removal changes nothing of what is left
  pub left-removed : LeavesGivenUp entry_of live_of counter_of room_of last left
      → (old new : S) (i : ℕ)
      → IsRemoved entry_of live_of counter_of room_of last i old new → left new ≡ left old
  unfolding LeavesGivenUp
  left-removed leaves = leaves.1

module _ {T : Type 0} where
  -- there is a removal for each entry
  pub removals-length : (last counter : Option ℕ) (entries : List (ℕ × (ℕ × T)))
      → length (removals last counter entries) ≡ length entries
  removals-length last counter [] = refl
  removals-length last counter (e ∷ entries) = let rest =
      removals-length last (option_map (next_generation last) counter) entries in omega
      (arith, rest)

module _ {T : Type 0} (last : Option ℕ) where
  drained-gives_up : (c : Content T)
      → IsGivenUp entry_at live_count some_counter (λ c. c.room) last c (drained last c)
  drained-gives_up c = record {
    entries = λ j. entry-no_slots (drained last c) refl j;
    live = refl;
    counter = refl;
    room = refl;
  }

  counter_is : (old new : Content T)
      → some_counter new ≡ option_map (next_generation last) (some_counter old)
      → new.counter ≡ next_generation last old.counter
  counter_is old new stepped = cc

  -- what has one entry less, and the counter stepped, is left the same in the end
  pub drained-same : (old new : Content T) → live_count new + 1 ≡ live_count old
      → some_counter new ≡ option_map (next_generation last) (some_counter old)
      → new.room ≡ old.room → drained last new ≡ drained last old
  drained-same old new fewer stepped room =
      let is = counter_is old new stepped in
      let one_less : live_count new ≡ live_count old - 1 = omega (arith, fewer) in
      rw (
        room,
        is,
        one_less,
        iterate_first (next_generation last) (live_count old) old.counter (omega (arith, fewer)),
      ) refl

  directly_drained-gives_up : (d : DirectContent T)
      → IsGivenUp direct_entry_at direct_live_count no_counter (λ d. d.room) last d (cleared d)
  directly_drained-gives_up d
      = record {
        entries = λ j. entry-no_slots (as_content (cleared d)) refl j;
        live = refl;
        counter = refl;
        room = refl;
      }

module _ (T : Type 0) (last : Option ℕ) where
  pub drained-leaves : LeavesGivenUp {T = T} entry_at live_count some_counter (λ c. c.room) last
      (drained last)
  unfolding LeavesGivenUp
  drained-leaves = (
    drained-gives_up last,
    λ old new i removed. drained-same last old new removed.live removed.counter removed.room,
  )

  pub directly_drained-leaves : LeavesGivenUp {T = T} direct_entry_at direct_live_count no_counter
      (λ d. d.room) last cleared
  unfolding LeavesGivenUp
  directly_drained-leaves
      = (directly_drained-gives_up last, λ old new i removed. rw removed.room refl)
