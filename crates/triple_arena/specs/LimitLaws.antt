-- What a limit that is set changes and keeps.
use Rattle.std.specs.Prelude.{nat_lt}
use Rattle.std.proofs.Common.{◌≡◌, if◌then◌else◌, ℕ, Bool, true, false, ◌<◌, ◌≤◌, length, min}
use Rattle.std.proofs.Common.{Option, Some, None, refl, ap, ◌∙◌, arith}
use Rattle.std.proofs.lemmas.Bool.{ltb-true, ltb-false}
use Rattle.triple_arena_ptr.specs.Index.{max_index_of}
use Rattle.triple_arena_stack.specs.Room.{Room, within, capacity, limited}
use Rattle.triple_arena.specs.Content.{Content, entry_at, live_count, last_index, without_free_end}
use Rattle.triple_arena.specs.Content.{fitted, with_limit, IsWellFormed}
use Rattle.triple_arena.specs.ContentLaws.{entry-same_slots, vacant-kept}
use Rattle.triple_arena.specs.FreeListLaws.{entry-without_free_end, live-without_free_end}
use Rattle.triple_arena.specs.FreeListLaws.{slots-without_free_end, formed-without_free_end}
use Rattle.triple_arena.specs.FreeListLaws.{last_index-is}

-- what holds whether or not a number is less than another
by_less : (P : Bool → Type 0) (a b : ℕ) → (a < b → P true) → (b ≤ a → P false) → P (nat_lt a b)
by_less P a b less not_less = by_test (nat_lt a b) refl
  where
    by_test : (t : Bool) → nat_lt a b ≡ t → P t
    by_test true e = less (ltb-true a b e)
    by_test false e = not_less (ltb-false a b e)

-- no more fits than is reserved
pub capacity-reserved : (r : Room) → capacity r ≤ r.reserved
capacity-reserved r = by_limit r.limit
  where
    by_limit : (limit : Option ℕ) → within limit r.reserved ≤ r.reserved
    by_limit None = omega arith
    by_limit (Some limit) = omega arith

module _ {T : Type 0} where
  -- what the free slots at the end do not matter to is as it was
  fitted_same : {X : Type 0} (of : Content T → X)
      → ((c : Content T) → of (without_free_end c) ≡ of c) → (c : Content T) (max : ℕ)
      → of (fitted c max) ≡ of c
  fitted_same of same c max = by_test (nat_lt max (length c.slots))
    where
      by_test : (b : Bool) → of (if b then without_free_end c else c) ≡ of c
      by_test true = same c
      by_test false = refl

  pub entry-with_limit : (greatest : ℕ) (c : Content T) (max : ℕ) (j : ℕ)
      → entry_at (with_limit greatest c max) j ≡ entry_at c j
  entry-with_limit greatest c max j =
      entry-same_slots (with_limit greatest c max) (fitted c max) refl j
      ∙ fitted_same (λ d. entry_at d j) (λ d. entry-without_free_end d j) c max

  pub live-with_limit : (greatest : ℕ) (c : Content T) (max : ℕ)
      → live_count (with_limit greatest c max) ≡ live_count c
  live-with_limit greatest c max = fitted_same live_count live-without_free_end c max

  -- the same of what is known to be such a content, as a search finds it
  pub entry-limited : (greatest : ℕ) (c limited : Content T) (max : ℕ)
      → limited ≡ with_limit greatest c max → (j : ℕ) → entry_at limited j ≡ entry_at c j
  entry-limited greatest c limited max is j
      = ap (λ d. entry_at d j) is ∙ entry-with_limit greatest c max j

  pub live-limited : (greatest : ℕ) (c limited : Content T) (max : ℕ)
      → limited ≡ with_limit greatest c max → live_count limited ≡ live_count c
  live-limited greatest c limited max is = ap live_count is ∙ live-with_limit greatest c max

  pub counter-with_limit : (greatest : ℕ) (c : Content T) (max : ℕ)
      → (with_limit greatest c max).counter ≡ c.counter
  counter-with_limit greatest c max = fitted_same (λ d. d.counter) (λ d. refl) c max

  -- the slots end at the last live one where they were past the limit
  pub slots-with_limit : (greatest : ℕ) (c : Content T) (max : ℕ)
      → length (with_limit greatest c max).slots
      ≡ (if nat_lt max (length c.slots) then last_index c else length c.slots)
  slots-with_limit greatest c max = by_test (nat_lt max (length c.slots))
    where
      by_test : (b : Bool) → length (if b then without_free_end c else c).slots
          ≡ (if b then last_index c else length c.slots)
      by_test true = slots-without_free_end c
      by_test false = refl

  -- and the free indexes past it go with them
  pub free-with_limit : (greatest : ℕ) (c : Content T) (max : ℕ)
      → (with_limit greatest c max).free
      ≡ (if nat_lt max (length c.slots) then (without_free_end c).free else c.free)
  free-with_limit greatest c max = by_test (nat_lt max (length c.slots))
    where
      by_test : (b : Bool) → (if b then without_free_end c else c).free
          ≡ (if b then (without_free_end c).free else c.free)
      by_test true = refl
      by_test false = refl

  pub room-with_limit : (greatest : ℕ) (c : Content T) (max : ℕ)
      → (with_limit greatest c max).room ≡ limited c.room (min max (max_index_of greatest))
  room-with_limit greatest c max = refl

  -- the slots are within a limit that is not below the last live index
  pub fitted-within : (c : Content T) (max : ℕ) → last_index c ≤ max
      → length (fitted c max).slots ≤ max
  fitted-within c max above =
      let sizes = slots-without_free_end c in
      by_less (λ b. length (if b then without_free_end c else c).slots ≤ max) max (length c.slots)
      (λ past. omega (arith, sizes, above)) (λ inner. inner)

  formed-fitted : (c : Content T) (max : ℕ) → IsWellFormed c → IsWellFormed (fitted c max)
  formed-fitted c max formed =
      by_less (λ b. IsWellFormed (if b then without_free_end c else c)) max (length c.slots)
      (λ past. formed-without_free_end c formed) (λ inner. formed)

  pub fitted-less : (c : Content T) (max : ℕ) → length (fitted c max).slots ≤ length c.slots
  fitted-less c max =
      let sizes = slots-without_free_end c in
      let within = (last_index-is c).within in
      by_less (λ b. length (if b then without_free_end c else c).slots ≤ length c.slots) max
      (length c.slots)
      (λ past. omega (arith, sizes, within)) (λ inner. omega arith)

  -- the content stays well-formed under a limit that is accepted, where each slot has an index
  pub formed-with_limit : (greatest : ℕ) (c : Content T) (max : ℕ) → IsWellFormed c
      → last_index c ≤ max → length c.slots ≤ max_index_of greatest
      → IsWellFormed (with_limit greatest c max)
  formed-with_limit greatest c max formed above indexed =
      let well = formed-fitted c max formed in
      let less = fitted-less c max in
      let within = fitted-within c max above in
      let reserved = capacity-reserved c.room in
      let fits = formed.fits in
      record {
        free = vacant-kept (fitted c max) (with_limit greatest c max) (omega arith)
            (λ j none. entry-same_slots (with_limit greatest c max) (fitted c max) refl j
            ∙ none) (fitted c max).free well.free;
        counted = well.counted;
        fits = omega (arith, less, within, reserved, fits, indexed);
      }

-- what a limit that is set changes and keeps
pub ruleset limits = (
  formed-with_limit,
  entry-with_limit,
  live-with_limit,
  entry-limited,
  live-limited,
  slots-with_limit,
  counter-with_limit,
  free-with_limit,
  room-with_limit,
)
