-- What a removal leaves, and a removal of all entries.
use Rattle.std.proofs.Common.{◌≡◌, ◌≢◌, ◌==◌, if◌then◌else◌, ℕ, zero, suc, ◌+◌, ◌-◌, ◌≤◌, List, []}
use Rattle.std.proofs.Common.{◌∷◌, length, take, get_or, set, cond, Option, None, IsSome, is_some}
use Rattle.std.proofs.Common.{count_by, true, inl, inr, refl, sym, ap, subst, ◌∙◌, arith}
use Rattle.std.proofs.lemmas.Bool.{eq-eqb, ne_eqb}
use Rattle.std.proofs.lemmas.Bool.Decides.{eqb_tells}
use Rattle.std.proofs.lemmas.List.{length-set, length-take-le}
use Rattle.std.proofs.lemmas.List.Sums.{sum_by-set, count_by_more_yes}
use Rattle.std.proofs.Math.Seq.{take-length}
use Rattle.triple_arena_ptr.specs.Generation.{next_generation}
use Rattle.triple_arena.specs.Entries.{without}
use Rattle.triple_arena_stack.specs.Room.{capacity}
use Rattle.triple_arena.specs.Content.{Content, entry_at, live_count, next_index, vacated, removed}
use Rattle.triple_arena.specs.Content.{stepped, cleared, AllVacant, IsWellFormed}
use Rattle.triple_arena.specs.ContentLaws.{live_entry, entry-set, entry-same_slots, entry-no_slots}
use Rattle.triple_arena.specs.ContentLaws.{live-off, vacant-kept, vacant-others}

module _ {T : Type 0} where
  take_here : (xs : List (Option (ℕ × T))) (n : ℕ) → n + 1 ≡ length xs
      → get_or (take n xs) n None ≡ None
  take_here [] n e = absurd (omega arith)
  take_here (x ∷ xs) zero e = refl
  take_here (x ∷ xs) (suc n) e = take_here xs n (omega arith)

  take_other : (xs : List (Option (ℕ × T))) (n k : ℕ) → n + 1 ≡ length xs → k ≢ n
      → get_or (take n xs) k None ≡ get_or xs k None
  take_other [] n k e differs = absurd (omega arith)
  take_other (x ∷ []) zero zero e differs = absurd (differs refl)
  take_other (x ∷ []) zero (suc k) e differs = refl
  take_other (x ∷ y ∷ xs) zero k e differs = absurd (omega arith)
  take_other (x ∷ xs) (suc n) zero e differs = refl
  take_other (x ∷ xs) (suc n) (suc k) e differs
      = take_other xs n k (omega arith) (λ same. differs (omega (arith, same)))

  -- a removal leaves no entry at the index, and the others
  pub entry-vacated : (c : Content T) (i : ℕ) → IsSome (entry_at c i) → (j : ℕ)
      → entry_at (vacated c i) j ≡ without (entry_at c) i j
  entry-vacated c i some j =
      let l = live_entry c i some in
      let positive = l.positive in
      let within = l.within in
      elim (eqb_tells i (length c.slots)) [
        | inl last ↦ rw last.0 (front j (omega (arith, last.1)))
        | inr inner ↦ rw inner.0
            (entry-set c (record c { slots = set c.slots (i - 1) None; free = i ∷ c.free }) i j None
            positive within refl)
      ]
    where
      front : (j : ℕ) → (i - 1) + 1 ≡ length c.slots
          → entry_at (record c { slots = take (i - 1) c.slots }) j ≡ without (entry_at c) i j
      front zero e = elim (eqb_tells 0 i) [
        | inl same ↦ rw same.0 refl
        | inr other ↦ rw other.0 refl
      ]
      front (suc k) e =
          let l = live_entry c i some in
          let positive = l.positive in
          elim (eqb_tells k (i - 1)) [
            | inl same ↦ rw (eq-eqb (suc k) i (omega (arith, same.1)))
                (ap (λ n. get_or (take (i - 1) c.slots) n None) same.1
                ∙ take_here c.slots (i - 1) e)
            | inr other ↦ rw (ne_eqb (suc k) i (λ at. other.1 (omega (arith, at))))
                (take_other c.slots (i - 1) k e other.1)
          ]

  -- a removal takes one from what is live
  pub live-vacated : (c : Content T) (i : ℕ) → IsSome (entry_at c i)
      → live_count (vacated c i) + 1 ≡ live_count c
  live-vacated c i some =
      let l = live_entry c i some in
      let positive = l.positive in
      let within = l.within in
      elim (eqb_tells i (length c.slots)) [
        | inl last ↦
            let read : is_some (get_or c.slots (i - 1) None) ≡ true = rw l.read refl in
            let more = count_by_more_yes is_some c.slots (i - 1) None within read in
            let whole : take (i - 1 + 1) c.slots ≡ c.slots =
            ap (λ n. take n c.slots) (omega (arith, last.1)) ∙ take-length c.slots in
            rw last.0 (sym more ∙ ap (count_by is_some) whole)
        | inr inner ↦
            let counted = rw l.read at
            (sum_by-set (λ o. cond (is_some o) 1 0) c.slots (i - 1) None None l.within) in
            rw inner.0 (omega (arith, counted))
      ]

  -- what a removal leaves, pointwise
  pub entry-removed : (last : Option ℕ) (c : Content T) (i : ℕ) → IsSome (entry_at c i) → (j : ℕ)
      → entry_at (removed last c i) j ≡ without (entry_at c) i j
  entry-removed last c i some j
      = entry-same_slots (removed last c i) (vacated c i) refl j ∙ entry-vacated c i some j

  pub room-vacated : (c : Content T) (i : ℕ) → (vacated c i).room ≡ c.room
  room-vacated c i =
      elim (eqb_tells i (length c.slots)) [
        | inl last ↦ rw last.0 refl
        | inr inner ↦ rw inner.0 refl
      ]

  pub counter-vacated : (c : Content T) (i : ℕ) → (vacated c i).counter ≡ c.counter
  counter-vacated c i =
      elim (eqb_tells i (length c.slots)) [
        | inl last ↦ rw last.0 refl
        | inr inner ↦ rw inner.0 refl
      ]

  -- the last slot goes, and another becomes the first of the free indexes
  pub free-vacated : (c : Content T) (i : ℕ)
      → (vacated c i).free ≡ (if i == length c.slots then c.free else (i ∷ c.free))
  free-vacated c i = elim (eqb_tells i (length c.slots)) [
    | inl last ↦ rw last.0 refl
    | inr inner ↦ rw inner.0 refl
  ]

  pub slots-vacated : (c : Content T) (i : ℕ)
      → length (vacated c i).slots ≡ (if i == length c.slots then (i - 1) else length c.slots)
  slots-vacated c i =
      elim (eqb_tells i (length c.slots)) [
        | inl last ↦ rw last.0 (length-take-le (i - 1) c.slots (omega (arith, last.1)))
        | inr inner ↦ rw inner.0 (length-set c.slots (i - 1) None)
      ]

  none-vacated : (c : Content T) (i : ℕ) → IsSome (entry_at c i) → (j : ℕ) → j ≢ i
      → entry_at c j ≡ None → entry_at (vacated c i) j ≡ None
  none-vacated c i some j differs none = entry-vacated c i some j ∙ rw (ne_eqb j i differs) none

  -- the slot of a removed entry is free
  vacant-vacated : (c : Content T) (i : ℕ) → IsSome (entry_at c i) → AllVacant c c.free
      → AllVacant (vacated c i) (vacated c i).free
  vacant-vacated c i some all =
      let l = live_entry c i some in
      let positive = l.positive in
      let below = l.within in
      let off = live-off c i some c.free all in
      elim (eqb_tells i (length c.slots)) [
        | inl last ↦
            let shorter : length (vacated c i).slots ≡ i - 1 = slots-vacated c i ∙ rw last.0 refl in
            let free : (vacated c i).free ≡ c.free = free-vacated c i ∙ rw last.0 refl in
            let within : (j : ℕ) → j ≢ i → j ≤ length c.slots → j ≤ length (vacated c i).slots =
            λ j differs h. omega (arith, shorter, last.1, differs, h, positive) in
            subst (AllVacant (vacated c i)) (sym free)
            (vacant-others c (vacated c i) i within (none-vacated c i some) c.free off all)
        | inr inner ↦
            let same : length (vacated c i).slots ≡ length c.slots =
            slots-vacated c i ∙ rw inner.0 refl in
            let free : (vacated c i).free ≡ i ∷ c.free = free-vacated c i ∙ rw inner.0 refl in
            let here : entry_at (vacated c i) i ≡ None =
            entry-vacated c i some i ∙ rw (eq-eqb i i refl) refl in
            subst (AllVacant (vacated c i)) (sym free) (
              record { positive = positive; within = omega (arith, same, below); vacant = here },
              (
                off,
                vacant-others c (vacated c i) i (λ j differs h. omega (arith, same, h))
                    (none-vacated c i some) c.free off all,
              ),
            )
      ]

  pub formed-vacated : (c : Content T) (i : ℕ) → IsSome (entry_at c i) → IsWellFormed c
      → IsWellFormed (vacated c i)
  formed-vacated c i some formed =
      let l = live_entry c i some in
      let positive = l.positive in
      let below = l.within in
      let live = live-vacated c i some in
      let counted = formed.counted in
      let fits = formed.fits in
      let room = ap capacity (room-vacated c i) in
      elim (eqb_tells i (length c.slots)) [
        | inl last ↦
            let free : (vacated c i).free ≡ c.free = free-vacated c i ∙ rw last.0 refl in
            let lists = ap length free in
            let shorter : length (vacated c i).slots ≡ i - 1 = slots-vacated c i ∙ rw last.0 refl in
            record {
              free = vacant-vacated c i some formed.free;
              counted = omega (arith, live, counted, lists, shorter, last.1, positive);
              fits = omega (arith, shorter, fits, room);
            }
        | inr inner ↦
            let free : (vacated c i).free ≡ i ∷ c.free = free-vacated c i ∙ rw inner.0 refl in
            let lists = ap length free in
            let same : length (vacated c i).slots ≡ length c.slots =
            slots-vacated c i ∙ rw inner.0 refl in
            record {
              free = vacant-vacated c i some formed.free;
              counted = omega (arith, live, counted, lists, same);
              fits = omega (arith, same, fits, room);
            }
      ]

  -- and after the step of the counter
  pub live-removed : (last : Option ℕ) (c : Content T) (i : ℕ) → IsSome (entry_at c i)
      → live_count (removed last c i) + 1 ≡ live_count c
  live-removed last c i some = live-vacated c i some

  pub counter-removed : (last : Option ℕ) (c : Content T) (i : ℕ)
      → (removed last c i).counter ≡ next_generation last c.counter
  counter-removed last c i = ap (next_generation last) (counter-vacated c i)

  pub free-removed : (last : Option ℕ) (c : Content T) (i : ℕ)
      → (removed last c i).free ≡ (if i == length c.slots then c.free else (i ∷ c.free))
  free-removed last c i = free-vacated c i

  pub slots-removed : (last : Option ℕ) (c : Content T) (i : ℕ)
      → length (removed last c i).slots ≡ (if i == length c.slots then (i - 1) else length c.slots)
  slots-removed last c i = slots-vacated c i

  pub room-removed : (last : Option ℕ) (c : Content T) (i : ℕ) → (removed last c i).room ≡ c.room
  room-removed last c i = room-vacated c i

  -- a step of the counter keeps a content well-formed
  pub formed-stepped : (last : Option ℕ) (c : Content T) → IsWellFormed c
      → IsWellFormed (stepped last c)
  formed-stepped last c formed =
      record {
        free = vacant-kept c (stepped last c) (omega arith)
            (λ j none. entry-same_slots (stepped last c) c refl j ∙ none) c.free formed.free;
        counted = formed.counted;
        fits = formed.fits;
      }

  pub formed-removed : (last : Option ℕ) (c : Content T) (i : ℕ) → IsSome (entry_at c i)
      → IsWellFormed c → IsWellFormed (removed last c i)
  formed-removed last c i some formed
      = formed-stepped last (vacated c i) (formed-vacated c i some formed)

  -- what is left where all entries went
  pub entry-cleared : (last : Option ℕ) (c : Content T) (j : ℕ) → entry_at (cleared last c) j ≡ None
  entry-cleared last c j = entry-no_slots (cleared last c) refl j

  pub live-cleared : (last : Option ℕ) (c : Content T) → live_count (cleared last c) ≡ 0
  live-cleared last c = refl

  pub counter-cleared : (last : Option ℕ) (c : Content T)
      → (cleared last c).counter ≡ next_generation last c.counter
  counter-cleared last c = refl

  pub free-cleared : (last : Option ℕ) (c : Content T) → (cleared last c).free ≡ []
  free-cleared last c = refl

  pub slots-cleared : (last : Option ℕ) (c : Content T) → length (cleared last c).slots ≡ 0
  slots-cleared last c = refl

  pub room-cleared : (last : Option ℕ) (c : Content T) → (cleared last c).room ≡ c.room
  room-cleared last c = refl

  pub next-cleared : (last : Option ℕ) (c : Content T) → next_index (cleared last c) ≡ 1
  next-cleared last c = refl

  pub formed-cleared : (last : Option ℕ) (c : Content T) → IsWellFormed (cleared last c)
  formed-cleared last c = record { free = tt; counted = refl; fits = omega arith }

-- what a removal changes and keeps
pub ruleset removals = (
  formed-removed,
  entry-removed,
  live-removed,
  slots-removed,
  counter-removed,
  free-removed,
  room-removed,
)

-- what is left where all entries went
pub ruleset clearings
    = (
      formed-cleared,
      entry-cleared,
      live-cleared,
      slots-cleared,
      counter-cleared,
      free-cleared,
      room-cleared,
      next-cleared,
    )
