-- What each exact state of a `DirectArena` holds: the entry at each index, how many are live, how
-- far the slots reach, the room, and that the slots are within it.
use Rattle.std.proofs.Common.{◌≡◌, ◌==◌, if◌then◌else◌, ℕ, zero, suc, ◌+◌, ◌-◌, ◌<◌, ◌≤◌, List, []}
use Rattle.std.proofs.Common.{◌∷◌, ◌++◌, length, replicate, min, max, get_or, cond, Option, Some}
use Rattle.std.proofs.Common.{None, IsSome, is_some, count_by, refl, sym, ap, ◌∙◌, arith}
use Rattle.std.proofs.Common.{length-append, length-set}
use Rattle.std.proofs.lemmas.List.{length-replicate}
use Rattle.std.proofs.lemmas.List.Sums.{sum_by-set, sum_by-cons}
use Rattle.triple_arena_ptr.specs.Generation.{next_generation}
use Rattle.std.specs.Prelude.{nat_lt}
use Rattle.triple_arena_ptr.specs.Index.{max_index_of}
use Rattle.triple_arena_stack.specs.Room.{Room, capacity, limited}
use Rattle.triple_arena.specs.Entries.{with_entry, without, with_value_at, with_generation_at}
use Rattle.triple_arena.specs.Content.{with_value as with_value_of}
use Rattle.triple_arena.specs.ContentLaws.{entry_at_slot, live_entry, entry-set}
use Rattle.triple_arena.specs.ContentLaws.{entry-with_value as entry-with_value_of}
use Rattle.triple_arena.specs.ContentLaws.{live-with_value as live-with_value_of}
use Rattle.triple_arena.specs.ContentLaws.{slots-with_value as slots-with_value_of}
use Rattle.triple_arena.specs.ContentLaws.{room-with_value as room-with_value_of}
use Rattle.triple_arena.specs.GenerationLaws.{entry-with_generation as entry-with_generation_of}
use Rattle.triple_arena.specs.GenerationLaws.{live-with_generation as live-with_generation_of}
use Rattle.triple_arena.specs.GenerationLaws.{slots-with_generation as slots-with_generation_of}
use Rattle.triple_arena.specs.GenerationLaws.{room-with_generation as room-with_generation_of}
use Rattle.triple_arena.specs.FreeListLaws.{last_index-is}
use Rattle.triple_arena.specs.FreeListLaws.{entry-without_free_end as entry-without_free_end_of}
use Rattle.triple_arena.specs.FreeListLaws.{live-without_free_end as live-without_free_end_of}
use Rattle.triple_arena.specs.FreeListLaws.{slots-without_free_end as slots-without_free_end_of}
use Rattle.triple_arena.specs.LimitLaws.{capacity-reserved, fitted-within, fitted-less}
use Rattle.triple_arena.specs.LimitLaws.{entry-with_limit as entry-with_limit_of}
use Rattle.triple_arena.specs.LimitLaws.{live-with_limit as live-with_limit_of}
use Rattle.triple_arena.specs.LimitLaws.{slots-with_limit as slots-with_limit_of}
use Rattle.triple_arena.specs.LimitLaws.{room-with_limit as room-with_limit_of}
use Rattle.triple_arena.specs.DirectContent.{DirectContent, as_content, entry_at, live_count}
use Rattle.triple_arena.specs.DirectContent.{arena_capacity, reaching, IsPlace, inserted, removed}
use Rattle.triple_arena.specs.DirectContent.{with_value, with_generation, with_next_generation}
use Rattle.triple_arena.specs.DirectContent.{invalidated, cleared, in_room, last_index}
use Rattle.triple_arena.specs.DirectContent.{without_free_end, with_limit, IsWellFormed}

free_counts : (X : Type 0) (m : ℕ) → count_by {X = Option X} is_some (replicate m None) ≡ 0
free_counts X zero = refl
free_counts X (suc m) = free_counts X m

module _ {X : Type 0} where
  free_reads : (m k : ℕ) → get_or {A = Option X} (replicate m None) k None ≡ None
  free_reads zero k = refl
  free_reads (suc m) zero = refl
  free_reads (suc m) (suc k) = free_reads m k

  -- free slots at the end read as no slots
  pub padded_reads : (xs : List (Option X)) (m k : ℕ)
      → get_or (xs ++ replicate m None) k None ≡ get_or xs k None
  padded_reads [] m k = free_reads m k
  padded_reads (x ∷ xs) m zero = refl
  padded_reads (x ∷ xs) m (suc k) = padded_reads xs m k

  -- and count for nothing
  pub padded_counts : (xs : List (Option X)) (m : ℕ)
      → count_by is_some (xs ++ replicate m None) ≡ count_by is_some xs
  padded_counts [] m = free_counts X m
  padded_counts (x ∷ xs) m =
      let rest = padded_counts xs m in
      let more = sum_by-cons (λ o. cond (is_some o) 1 0) x (xs ++ replicate m None) in
      let one = sum_by-cons (λ o. cond (is_some o) 1 0) x xs in
      omega (arith, rest, more, one)

module _ {T : Type 0} where
  pub length-reaching : (n : ℕ) (xs : List (Option (ℕ × T)))
      → length (reaching n xs) ≡ max (length xs) n
  length-reaching n xs =
      let both = length-append xs (replicate (n - length xs) None) in
      let free : Option (ℕ × T) = None in
      let more = length-replicate (n - length xs) free in
      omega (arith, both, more)

  -- the entry at each index, where the slots were filled up with free ones
  entry-reaching : (d : DirectContent T) (n j : ℕ)
      → entry_at (record d { slots = reaching n d.slots }) j ≡ entry_at d j
  entry-reaching d n zero = refl
  entry-reaching d n (suc k) = padded_reads d.slots (n - length d.slots) k

  -- an insertion puts the entry at its index
  pub entry-inserted : (d : DirectContent T) (i g : ℕ) (t : T) → IsPlace d i → (j : ℕ)
      → entry_at (inserted d i g t) j ≡ with_entry (entry_at d) i (g, t) j
  entry-inserted d i g t place j =
      let wide = record d { slots = reaching i d.slots } in
      let positive = place.positive in
      let within : i - 1 < length (reaching i d.slots) =
      omega (arith, length-reaching i d.slots, positive) in
      let put = entry-set (as_content wide) (as_content (inserted d i g t)) i j
      (Some (g, t)) positive within refl in
      put ∙ ap (λ o. if j == i then Some (g, t) else o) (entry-reaching d i j)

  -- and adds one to what is live
  pub live-inserted : (d : DirectContent T) (i g : ℕ) (t : T) → IsPlace d i
      → live_count (inserted d i g t) ≡ live_count d + 1
  live-inserted d i g t place =
      let positive = place.positive in
      let within : i - 1 < length (reaching i d.slots) =
      omega (arith, length-reaching i d.slots, positive) in
      let empty : get_or (reaching i d.slots) (i - 1) None ≡ None =
      padded_reads d.slots (i - length d.slots) (i - 1) ∙ sym
      (entry_at_slot (as_content d) i positive) ∙ place.vacant in
      let counted = rw empty at
      (sum_by-set (λ o. cond (is_some o) 1 0) (reaching i d.slots) (i - 1)
      (Some (g, t)) None within) in
      let same = padded_counts d.slots (i - length d.slots) in
      omega (arith, counted, same)

  -- the slots reach to the index of the entry then
  pub slots-inserted : (d : DirectContent T) (i g : ℕ) (t : T)
      → length (inserted d i g t).slots ≡ max (length d.slots) i
  slots-inserted d i g t = length-set (reaching i d.slots) (i - 1)
      (Some (g, t)) ∙ length-reaching i d.slots

  pub room-inserted : (d : DirectContent T) (i g : ℕ) (t : T) → (inserted d i g t).room ≡ d.room
  room-inserted d i g t = refl

  pub formed-inserted : (d : DirectContent T) (i g : ℕ) (t : T) → IsPlace d i → IsWellFormed d
      → IsWellFormed (inserted d i g t)
  formed-inserted d i g t place formed = let reach =
      slots-inserted d i g t in omega (arith, reach, formed, place.fits)

  -- a removal leaves no entry at its index
  pub entry-removed : (d : DirectContent T) (i : ℕ) → IsSome (entry_at d i) → (j : ℕ)
      → entry_at (removed d i) j ≡ without (entry_at d) i j
  entry-removed d i some j =
      let l = live_entry (as_content d) i some in
      entry-set (as_content d) (as_content (removed d i)) i j None l.positive l.within refl

  -- and takes one from what is live
  pub live-removed : (d : DirectContent T) (i : ℕ) → IsSome (entry_at d i)
      → live_count (removed d i) + 1 ≡ live_count d
  live-removed d i some =
      let l = live_entry (as_content d) i some in
      let counted = rw l.read at
      (sum_by-set (λ o. cond (is_some o) 1 0) d.slots (i - 1) None None l.within) in
      omega (arith, counted)

  -- the slots stay as many
  pub slots-removed : (d : DirectContent T) (i : ℕ) → length (removed d i).slots ≡ length d.slots
  slots-removed d i = length-set d.slots (i - 1) None

  pub room-removed : (d : DirectContent T) (i : ℕ) → (removed d i).room ≡ d.room
  room-removed d i = refl

  pub formed-removed : (d : DirectContent T) (i : ℕ) → IsWellFormed d → IsWellFormed (removed d i)
  formed-removed d i formed = let same = slots-removed d i in omega (arith, same, formed)

  -- a write of a value changes the entry at its index alone
  pub entry-with_value : (d : DirectContent T) (i : ℕ) (t : T) (j : ℕ)
      → entry_at (with_value d i t) j ≡ with_value_at (entry_at d) i t j
  entry-with_value d i t zero = entry-with_value_of (as_content d) i t zero
  entry-with_value d i t (suc k) = entry-with_value_of (as_content d) i t (suc k)

  -- and is the write of a content
  pub content-with_value : (d : DirectContent T) (i : ℕ) (t : T)
      → as_content (with_value d i t) ≡ with_value_of (as_content d) i t
  content-with_value d i t = by_entry (entry_at d i) refl
    where
      by_entry : (o : Option (ℕ × T)) → entry_at d i ≡ o
          → as_content (with_value d i t) ≡ with_value_of (as_content d) i t
      by_entry None e = rw e refl
      by_entry (Some x) e = rw e refl

  pub live-with_value : (d : DirectContent T) (i : ℕ) (t : T)
      → live_count (with_value d i t) ≡ live_count d
  live-with_value d i t = live-with_value_of (as_content d) i t

  pub slots-with_value : (d : DirectContent T) (i : ℕ) (t : T)
      → length (with_value d i t).slots ≡ length d.slots
  slots-with_value d i t = slots-with_value_of (as_content d) i t

  pub room-with_value : (d : DirectContent T) (i : ℕ) (t : T) → (with_value d i t).room ≡ d.room
  room-with_value d i t = room-with_value_of (as_content d) i t

  pub formed-with_value : (d : DirectContent T) (i : ℕ) (t : T) → IsWellFormed d
      → IsWellFormed (with_value d i t)
  formed-with_value d i t formed =
      let same = slots-with_value d i t in
      let room = ap capacity (room-with_value d i t) in
      omega (arith, same, room, formed)

  -- another generation changes the entry at its index alone
  pub entry-with_generation : (d : DirectContent T) (i g j : ℕ)
      → entry_at (with_generation d i g) j ≡ with_generation_at (entry_at d) i g j
  entry-with_generation d i g zero = entry-with_generation_of (as_content d) i g zero
  entry-with_generation d i g (suc k) = entry-with_generation_of (as_content d) i g (suc k)

  pub live-with_generation : (d : DirectContent T) (i g : ℕ)
      → live_count (with_generation d i g) ≡ live_count d
  live-with_generation d i g = live-with_generation_of (as_content d) i g

  pub slots-with_generation : (d : DirectContent T) (i g : ℕ)
      → length (with_generation d i g).slots ≡ length d.slots
  slots-with_generation d i g = slots-with_generation_of (as_content d) i g

  pub room-with_generation : (d : DirectContent T) (i g : ℕ) → (with_generation d i g).room ≡ d.room
  room-with_generation d i g = room-with_generation_of (as_content d) i g

  pub formed-with_generation : (d : DirectContent T) (i g : ℕ) → IsWellFormed d
      → IsWellFormed (with_generation d i g)
  formed-with_generation d i g formed =
      let same = slots-with_generation d i g in
      let room = ap capacity (room-with_generation d i g) in
      omega (arith, same, room, formed)

  -- where a pointer ends, its entry gets the generation after its own
  pub invalidated-is : (last : Option ℕ) (d : DirectContent T) (i : ℕ) (e : ℕ × T)
      → entry_at d i ≡ Some e
      → invalidated last d i ≡ with_generation d i (next_generation last e.0)
  invalidated-is last d i e is = ap (with_next_generation last d i) is

  pub entry-invalidated : (last : Option ℕ) (d : DirectContent T) (i : ℕ) (e : ℕ × T)
      → entry_at d i ≡ Some e → (j : ℕ)
      → entry_at (invalidated last d i) j
      ≡ with_generation_at (entry_at d) i (next_generation last e.0) j
  entry-invalidated last d i e is j =
      ap (λ x. entry_at x j) (invalidated-is last d i e is) ∙ entry-with_generation d i
      (next_generation last e.0) j

  pub live-invalidated : (last : Option ℕ) (d : DirectContent T) (i : ℕ) (e : ℕ × T)
      → entry_at d i ≡ Some e
      → live_count (invalidated last d i) ≡ live_count d
  live-invalidated last d i e is =
      ap live_count (invalidated-is last d i e is) ∙ live-with_generation d i
      (next_generation last e.0)

  pub slots-invalidated : (last : Option ℕ) (d : DirectContent T) (i : ℕ) (e : ℕ × T)
      → entry_at d i ≡ Some e
      → length (invalidated last d i).slots ≡ length d.slots
  slots-invalidated last d i e is =
      ap (λ x. length x.slots) (invalidated-is last d i e is) ∙ slots-with_generation d i
      (next_generation last e.0)

  pub room-invalidated : (last : Option ℕ) (d : DirectContent T) (i : ℕ) (e : ℕ × T)
      → entry_at d i ≡ Some e
      → (invalidated last d i).room ≡ d.room
  room-invalidated last d i e is =
      ap (λ x. x.room) (invalidated-is last d i e is) ∙ room-with_generation d i
      (next_generation last e.0)

  pub formed-invalidated : (last : Option ℕ) (d : DirectContent T) (i : ℕ) (e : ℕ × T)
      → entry_at d i ≡ Some e
      → IsWellFormed d → IsWellFormed (invalidated last d i)
  formed-invalidated last d i e is formed =
      rw (invalidated-is last d i e is)
      (formed-with_generation d i (next_generation last e.0) formed)

  -- what is left where all entries went
  pub entry-cleared : (d : DirectContent T) (j : ℕ) → entry_at (cleared d) j ≡ None
  entry-cleared d zero = refl
  entry-cleared d (suc k) = refl

  pub live-cleared : (d : DirectContent T) → live_count (cleared d) ≡ 0
  live-cleared d = refl

  pub slots-cleared : (d : DirectContent T) → length (cleared d).slots ≡ 0
  slots-cleared d = refl

  pub room-cleared : (d : DirectContent T) → (cleared d).room ≡ d.room
  room-cleared d = refl

  pub formed-cleared : (d : DirectContent T) → IsWellFormed (cleared d)
  formed-cleared d = omega arith

  -- another room changes nothing else
  pub entry-in_room : (d : DirectContent T) (r : Room) (j : ℕ)
      → entry_at (in_room d r) j ≡ entry_at d j
  entry-in_room d r zero = refl
  entry-in_room d r (suc k) = refl

  pub live-in_room : (d : DirectContent T) (r : Room) → live_count (in_room d r) ≡ live_count d
  live-in_room d r = refl

  pub slots-in_room : (d : DirectContent T) (r : Room) → length (in_room d r).slots ≡ length d.slots
  slots-in_room d r = refl

  pub room-in_room : (d : DirectContent T) (r : Room) → (in_room d r).room ≡ r
  room-in_room d r = refl

  pub formed-in_room : (d : DirectContent T) (r : Room) → arena_capacity d ≤ capacity r
      → IsWellFormed d → IsWellFormed (in_room d r)
  formed-in_room d r more formed = omega (arith, formed, more)

  -- the entries stay where the free slots at the end go
  pub entry-without_free_end : (d : DirectContent T) (j : ℕ)
      → entry_at (without_free_end d) j ≡ entry_at d j
  entry-without_free_end d zero = refl
  entry-without_free_end d (suc k) = entry-without_free_end_of (as_content d) (suc k)

  pub live-without_free_end : (d : DirectContent T) → live_count (without_free_end d) ≡ live_count d
  live-without_free_end d = live-without_free_end_of (as_content d)

  pub slots-without_free_end : (d : DirectContent T)
      → length (without_free_end d).slots ≡ last_index d
  slots-without_free_end d = slots-without_free_end_of (as_content d)

  pub room-without_free_end : (d : DirectContent T) → (without_free_end d).room ≡ d.room
  room-without_free_end d = refl

  pub formed-without_free_end : (d : DirectContent T) → IsWellFormed d
      → IsWellFormed (without_free_end d)
  formed-without_free_end d formed =
      let sizes = slots-without_free_end d in
      let within = (last_index-is (as_content d)).within in
      omega (arith, sizes, within, formed)

  -- a limit that is set leaves the entries
  pub entry-with_limit : (greatest : ℕ) (d : DirectContent T) (max : ℕ) (j : ℕ)
      → entry_at (with_limit greatest d max) j ≡ entry_at d j
  entry-with_limit greatest d max zero = refl
  entry-with_limit greatest d max (suc k) = entry-with_limit_of greatest (as_content d) max (suc k)

  pub live-with_limit : (greatest : ℕ) (d : DirectContent T) (max : ℕ)
      → live_count (with_limit greatest d max) ≡ live_count d
  live-with_limit greatest d max = live-with_limit_of greatest (as_content d) max

  -- the same of what is known to be such a content, as a search finds it
  pub entry-limited : (greatest : ℕ) (d limited : DirectContent T) (max : ℕ)
      → limited ≡ with_limit greatest d max → (j : ℕ)
      → entry_at limited j ≡ entry_at d j
  entry-limited greatest d limited max is j
      = ap (λ e. entry_at e j) is ∙ entry-with_limit greatest d max j

  pub live-limited : (greatest : ℕ) (d limited : DirectContent T) (max : ℕ)
      → limited ≡ with_limit greatest d max → live_count limited ≡ live_count d
  live-limited greatest d limited max is = ap live_count is ∙ live-with_limit greatest d max

  pub slots-with_limit : (greatest : ℕ) (d : DirectContent T) (max : ℕ)
      → length (with_limit greatest d max).slots
      ≡ (if nat_lt max (length d.slots) then last_index d else length d.slots)
  slots-with_limit greatest d max = slots-with_limit_of greatest (as_content d) max

  pub room-with_limit : (greatest : ℕ) (d : DirectContent T) (max : ℕ)
      → (with_limit greatest d max).room ≡ limited d.room (min max (max_index_of greatest))
  room-with_limit greatest d max = room-with_limit_of greatest (as_content d) max

  -- the slots are within a limit that is accepted, where each has an index
  pub formed-with_limit : (greatest : ℕ) (d : DirectContent T) (max : ℕ) → IsWellFormed d
      → last_index d ≤ max → length d.slots ≤ max_index_of greatest
      → IsWellFormed (with_limit greatest d max)
  formed-with_limit greatest d max formed above indexed =
      let within = fitted-within (as_content d) max above in
      let less = fitted-less (as_content d) max in
      let reserved = capacity-reserved d.room in
      omega (arith, within, less, reserved, formed, indexed)

-- what a direct insertion changes and keeps
pub ruleset direct_insertions
    = (formed-inserted, entry-inserted, live-inserted, slots-inserted, room-inserted)

-- what a growth of a direct arena changes and keeps
pub ruleset direct_growths
    = (formed-in_room, entry-in_room, live-in_room, slots-in_room, room-in_room)

-- what a removal from a direct arena changes and keeps
pub ruleset direct_removals
    = (formed-removed, entry-removed, live-removed, slots-removed, room-removed)

-- what the end of a pointer changes and keeps
pub ruleset direct_invalidations
    = (formed-invalidated, entry-invalidated, live-invalidated, slots-invalidated, room-invalidated)

-- what a write of a value changes and keeps
pub ruleset direct_writes
    = (formed-with_value, entry-with_value, live-with_value, slots-with_value, room-with_value)

-- what the free slots at the end change and keep where they go
pub ruleset direct_free_end_removals = (
  formed-without_free_end,
  entry-without_free_end,
  live-without_free_end,
  slots-without_free_end,
  room-without_free_end,
)

-- what a limit that is set changes and keeps
pub ruleset direct_limits = (
  formed-with_limit,
  entry-with_limit,
  live-with_limit,
  entry-limited,
  live-limited,
  slots-with_limit,
  room-with_limit,
)

-- what is left where all entries went
pub ruleset direct_clearings
    = (formed-cleared, entry-cleared, live-cleared, slots-cleared, room-cleared)
