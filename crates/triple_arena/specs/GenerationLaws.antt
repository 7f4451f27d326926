-- What another generation at an index changes and keeps, and with it the step of the counter.
use Rattle.std.proofs.Common.{◌≡◌, ℕ, ◌-◌, length, set, cond, Option, Some, None, IsSome, is_some}
use Rattle.std.proofs.Common.{inl, inr, refl, ap, subst, ◌∙◌, arith}
use Rattle.std.proofs.lemmas.Bool.Decides.{eqb_tells}
use Rattle.std.proofs.lemmas.List.{length-set}
use Rattle.std.proofs.lemmas.List.Sums.{sum_by-set}
use Rattle.triple_arena_ptr.specs.Generation.{next_generation}
use Rattle.triple_arena_stack.specs.Room.{capacity}
use Rattle.triple_arena.specs.Entries.{with_generation_at}
use Rattle.triple_arena.specs.Content.{Content, entry_at, live_count, with_generation, invalidated}
use Rattle.triple_arena.specs.Content.{stepped, IsWellFormed}
use Rattle.triple_arena.specs.ContentLaws.{live_entry, entry-set, entry-same_slots, vacant-kept}
use Rattle.triple_arena.specs.RemovalLaws.{formed-stepped}

module _ {T : Type 0} where
  -- another generation changes the entry at its index alone
  pub entry-with_generation : (c : Content T) (i g : ℕ) (j : ℕ)
      → entry_at (with_generation c i g) j ≡ with_generation_at (entry_at c) i g j
  entry-with_generation c i g j = by_entry (entry_at c i) refl
    where
      by_entry : (o : Option (ℕ × T)) → entry_at c i ≡ o
          → entry_at (with_generation c i g) j ≡ with_generation_at (entry_at c) i g j
      by_entry None e =
          elim (eqb_tells j i) [
            | inl same ↦ rw (same.0, e) (ap (entry_at c) same.1 ∙ e)
            | inr other ↦ rw (other.0, e) refl
          ]
      by_entry (Some x) e =
          let some : IsSome (entry_at c i) = rw e refl in
          let l = live_entry c i some in
          rw e (entry-set c (record c { slots = set c.slots (i - 1) (Some (g, x.1)) }) i j
          (Some (g, x.1)) l.positive l.within refl)

  -- and the number of live entries, the counter and the room stay
  pub live-with_generation : (c : Content T) (i g : ℕ)
      → live_count (with_generation c i g) ≡ live_count c
  live-with_generation c i g = by_entry (entry_at c i) refl
    where
      by_entry : (o : Option (ℕ × T)) → entry_at c i ≡ o
          → live_count (with_generation c i g) ≡ live_count c
      by_entry None e = rw e refl
      by_entry (Some x) e =
          let some : IsSome (entry_at c i) = rw e refl in
          let l = live_entry c i some in
          let counted = rw l.read at
          (sum_by-set (λ o. cond (is_some o) 1 0) c.slots (i - 1)
          (Some (g, x.1)) None l.within) in
          rw e (omega (arith, counted))

  -- it changes the slots alone
  generation-in_slots : (c : Content T) (i g : ℕ)
      → with_generation c i g ≡ record c { slots = (with_generation c i g).slots }
  generation-in_slots c i g = by_entry (entry_at c i) refl
    where
      by_entry : (o : Option (ℕ × T)) → entry_at c i ≡ o
          → with_generation c i g ≡ record c { slots = (with_generation c i g).slots }
      by_entry None e = rw e refl
      by_entry (Some x) e = rw e refl

  pub counter-with_generation : (c : Content T) (i g : ℕ)
      → (with_generation c i g).counter ≡ c.counter
  counter-with_generation c i g = ap (λ d. d.counter) (generation-in_slots c i g)

  pub room-with_generation : (c : Content T) (i g : ℕ) → (with_generation c i g).room ≡ c.room
  room-with_generation c i g = ap (λ d. d.room) (generation-in_slots c i g)

  pub free-with_generation : (c : Content T) (i g : ℕ) → (with_generation c i g).free ≡ c.free
  free-with_generation c i g = ap (λ d. d.free) (generation-in_slots c i g)

  pub slots-with_generation : (c : Content T) (i g : ℕ)
      → length (with_generation c i g).slots ≡ length c.slots
  slots-with_generation c i g = by_entry (entry_at c i) refl
    where
      by_entry : (o : Option (ℕ × T)) → entry_at c i ≡ o
          → length (with_generation c i g).slots ≡ length c.slots
      by_entry None e = rw e refl
      by_entry (Some x) e = rw e (length-set c.slots (i - 1) (Some (g, x.1)))

  none-with_generation : (c : Content T) (i g : ℕ) (j : ℕ) → entry_at c j ≡ None
      → entry_at (with_generation c i g) j ≡ None
  none-with_generation c i g j none =
      entry-with_generation c i g j
      ∙ elim (eqb_tells j i) [
        | inl same ↦ let at : entry_at c i ≡ None =
            subst (λ n. entry_at c n ≡ None) same.1 none in rw (same.0, at) refl
        | inr other ↦ rw other.0 none
      ]

  pub formed-with_generation : (c : Content T) (i g : ℕ) → IsWellFormed c
      → IsWellFormed (with_generation c i g)
  formed-with_generation c i g formed =
      let slots = slots-with_generation c i g in
      let live = live-with_generation c i g in
      let free = free-with_generation c i g in
      let lists = ap length free in
      let room = ap capacity (room-with_generation c i g) in
      let counted = formed.counted in
      let fits = formed.fits in
      record {
        free = rw free (vacant-kept c (with_generation c i g) (omega (arith, slots))
            (none-with_generation c i g) c.free formed.free);
        counted = omega (arith, slots, live, lists, counted);
        fits = omega (arith, slots, room, fits);
      }

  -- a step of the counter before a new generation, or after it
  pub invalidated-is : (last : Option ℕ) (c : Content T) (i : ℕ)
      → with_generation (stepped last c) i (stepped last c).counter ≡ invalidated last c i
  invalidated-is last c i = by_entry (entry_at c i) refl
    where
      same : entry_at (stepped last c) i ≡ entry_at c i
      same = entry-same_slots (stepped last c) c refl i

      by_entry : (o : Option (ℕ × T)) → entry_at c i ≡ o
          → with_generation (stepped last c) i (stepped last c).counter ≡ invalidated last c i
      by_entry None e = rw (same, e) refl
      by_entry (Some x) e = rw (same, e) refl

  -- the generation of the entry after its pointer ended is the stepped counter
  pub entry-invalidated : (last : Option ℕ) (c : Content T) (i j : ℕ)
      → entry_at (invalidated last c i) j
      ≡ with_generation_at (entry_at c) i (next_generation last c.counter) j
  entry-invalidated last c i j =
      entry-same_slots (invalidated last c i)
      (with_generation c i (next_generation last c.counter)) refl j
      ∙ entry-with_generation c i (next_generation last c.counter) j

  pub live-invalidated : (last : Option ℕ) (c : Content T) (i : ℕ)
      → live_count (invalidated last c i) ≡ live_count c
  live-invalidated last c i = live-with_generation c i (next_generation last c.counter)

  pub counter-invalidated : (last : Option ℕ) (c : Content T) (i : ℕ)
      → (invalidated last c i).counter ≡ next_generation last c.counter
  counter-invalidated last c i
      = ap (next_generation last) (counter-with_generation c i (next_generation last c.counter))

  pub free-invalidated : (last : Option ℕ) (c : Content T) (i : ℕ)
      → (invalidated last c i).free ≡ c.free
  free-invalidated last c i = free-with_generation c i (next_generation last c.counter)

  pub slots-invalidated : (last : Option ℕ) (c : Content T) (i : ℕ)
      → length (invalidated last c i).slots ≡ length c.slots
  slots-invalidated last c i = slots-with_generation c i (next_generation last c.counter)

  pub room-invalidated : (last : Option ℕ) (c : Content T) (i : ℕ)
      → (invalidated last c i).room ≡ c.room
  room-invalidated last c i = room-with_generation c i (next_generation last c.counter)

  pub formed-invalidated : (last : Option ℕ) (c : Content T) (i : ℕ) → IsWellFormed c
      → IsWellFormed (invalidated last c i)
  formed-invalidated last c i formed =
      formed-stepped last (with_generation c i (next_generation last c.counter))
      (formed-with_generation c i (next_generation last c.counter) formed)

-- what the end of a pointer changes and keeps
pub ruleset invalidations = (
  formed-invalidated,
  entry-invalidated,
  live-invalidated,
  slots-invalidated,
  counter-invalidated,
  free-invalidated,
  room-invalidated,
)
