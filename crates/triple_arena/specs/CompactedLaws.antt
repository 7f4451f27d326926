-- What each exact state after a compression holds, of an `Arena` and of a `DirectArena`: the entry
-- at each index, how many are live, how far the slots reach, the counter, the free indexes, the
-- room, and that the slots are within it.
use Rattle.std.proofs.Common.{◌≡◌, Bool, ℕ, zero, suc, ◌+◌, ◌-◌, List, [], ◌∷◌, length, map, get_or}
use Rattle.std.proofs.Common.{slice_get, count_by, cond, Option, Some, None, is_some, refl, ap, ◌∙◌}
use Rattle.std.proofs.Common.{arith}
use Rattle.std.specs.List.{zip}
use Rattle.std.specs.Option.{option_map}
use Rattle.std.proofs.lemmas.List.{length-map}
use Rattle.std.proofs.lemmas.List.Sums.{sum_by-cons, count_by-le-length}
use Rattle.triple_arena.specs.Content.{Content, entry_at, live_count, IsWellFormed}
use Rattle.triple_arena.specs.ContentLaws.{entry_at_slot}
use Rattle.triple_arena.specs.LiveEntries.{live_entries, live_entries-length}
use Rattle.triple_arena.specs.Compression.{renewed, generation_of, value_of, compacted}
use Rattle.triple_arena.specs.DirectContent.{DirectContent, as_content, entry_at as direct_entry_at}
use Rattle.triple_arena.specs.DirectContent.{live_count as direct_live_count}
use Rattle.triple_arena.specs.DirectContent.{live_entries as direct_live_entries, compressed}
use Rattle.triple_arena.specs.DirectContent.{IsWellFormed as IsDirectlyWellFormed}

module _ {X : Type 0} where
  -- slots that are all live read as what they hold
  full_reads : (xs : List X) (k : ℕ) → get_or (map Some xs) k None ≡ slice_get xs k
  full_reads [] k = refl
  full_reads (x ∷ xs) zero = refl
  full_reads (x ∷ xs) (suc k) = full_reads xs k

  -- and are all counted
  full_counts : (xs : List X) → count_by is_some (map Some xs) ≡ length xs
  full_counts [] = refl
  full_counts (x ∷ xs) =
      let rest = full_counts xs in
      let more = sum_by-cons (λ o. cond (is_some o) 1 0) (Some x) (map Some xs) in
      omega (arith, rest, more)

-- a list beside one that is as long is as long
length-zip : {X Y : Type 0} (xs : List X) (ys : List Y) → length xs ≡ length ys
    → length (zip xs ys) ≡ length ys
length-zip [] [] same = refl
length-zip [] (y ∷ ys) same = absurd (omega (arith, same))
length-zip (x ∷ xs) [] same = refl
length-zip (x ∷ xs) (y ∷ ys) same = ap suc (length-zip xs ys (omega (arith, same)))

module _ {T : Type 0} where
  -- a value with a generation
  abbrev entry : ℕ → T → ℕ × T
  entry g t = (g, t)

  held : (g : ℕ) (values : List T)
      → map (λ t. Some (entry g t)) values ≡ map Some (map (entry g) values)
  held g [] = refl
  held g (t ∷ values) = ap (λ l. Some (entry g t) ∷ l) (held g values)

  read : (g : ℕ) (values : List T) (k : ℕ)
      → slice_get (map (entry g) values) k ≡ option_map (entry g) (slice_get values k)
  read g [] k = refl
  read g (t ∷ values) zero = refl
  read g (t ∷ values) (suc k) = read g values k

  -- there are as many values as live indexes
  pub length-values : (c : Content T) → length (map value_of (live_entries c)) ≡ live_count c
  length-values c = length-map (live_entries c) value_of ∙ live_entries-length c

  pub length-direct_values : (d : DirectContent T)
      → length (map value_of (direct_live_entries d)) ≡ direct_live_count d
  length-direct_values d = length-values (as_content d)

  -- the values stand at the indexes from 1 on, with this generation
  pub entry-compacted : (g : ℕ) (values : List T) (c : Content T) (k : ℕ)
      → entry_at (compacted g values c) (k + 1) ≡ option_map (entry g) (slice_get values k)
  entry-compacted g values c k =
      let back : k + 1 - 1 ≡ k = omega arith in
      entry_at_slot (compacted g values c) (k + 1) (omega arith)
      ∙ ap (λ n. get_or (map (λ t. Some (entry g t)) values) n None) back
      ∙ ap (λ l. get_or l k None) (held g values)
      ∙ full_reads (map (entry g) values) k
      ∙ read g values k

  pub live-compacted : (g : ℕ) (values : List T) (c : Content T)
      → live_count (compacted g values c) ≡ length values
  live-compacted g values c =
      ap (count_by is_some) (held g values) ∙ full_counts
      (map (entry g) values) ∙ length-map values (entry g)

  pub slots-compacted : (g : ℕ) (values : List T) (c : Content T)
      → length (compacted g values c).slots ≡ length values
  slots-compacted g values c = length-map values (λ t. Some (entry g t))

  pub counter-compacted : (g : ℕ) (values : List T) (c : Content T)
      → (compacted g values c).counter ≡ g
  counter-compacted g values c = refl

  pub free-compacted : (g : ℕ) (values : List T) (c : Content T) → (compacted g values c).free ≡ []
  free-compacted g values c = refl

  pub room-compacted : (g : ℕ) (values : List T) (c : Content T)
      → (compacted g values c).room ≡ c.room
  room-compacted g values c = refl

  pub formed-compacted : (g : ℕ) (values : List T) (c : Content T) → length values ≡ live_count c
      → IsWellFormed c
      → IsWellFormed (compacted g values c)
  formed-compacted g values c same formed =
      let live = live-compacted g values c in
      let slots = slots-compacted g values c in
      let counted = formed.counted in
      let fits = formed.fits in
      record {
        free = tt;
        counted = omega (arith, live, slots);
        fits = omega (arith, slots, same, counted, fits);
      }

  abbrev renewals : Option ℕ → DirectContent T → Bool → List ℕ
  renewals last d reset = map (renewed last reset) (map generation_of (direct_live_entries d))

  renewals-length : (last : Option ℕ) (d : DirectContent T) (reset : Bool)
      → length (renewals last d reset) ≡ direct_live_count d
  renewals-length last d reset =
      length-map (map generation_of (direct_live_entries d)) (renewed last reset)
      ∙ length-map (direct_live_entries d) generation_of
      ∙ live_entries-length (as_content d)

  -- the values stand at the indexes from 1 on, each beside its own generation renewed
  pub entry-compressed : (last : Option ℕ) (d : DirectContent T) (reset : Bool)
      (values : List T) (k : ℕ)
      → direct_entry_at (compressed last d reset values) (k + 1)
      ≡ slice_get (zip (map (renewed last reset)
      (map generation_of (direct_live_entries d))) values) k
  entry-compressed last d reset values k =
      let back : k + 1 - 1 ≡ k = omega arith in
      let slots = (compressed last d reset values).slots in
      entry_at_slot (as_content (compressed last d reset values)) (k + 1) (omega arith)
      ∙ ap (λ n. get_or slots n None) back
      ∙ full_reads (zip (renewals last d reset) values) k

  pub live-compressed : (last : Option ℕ) (d : DirectContent T) (reset : Bool) (values : List T)
      → length values ≡ direct_live_count d
      → direct_live_count (compressed last d reset values) ≡ direct_live_count d
  live-compressed last d reset values same =
      let old = renewals-length last d reset in
      let all = full_counts (zip (renewals last d reset) values) in
      let zipped = length-zip (renewals last d reset) values (omega (arith, old, same)) in
      omega (arith, all, zipped, same)

  pub slots-compressed : (last : Option ℕ) (d : DirectContent T) (reset : Bool) (values : List T)
      → length values ≡ direct_live_count d
      → length (compressed last d reset values).slots ≡ direct_live_count d
  slots-compressed last d reset values same =
      let old = renewals-length last d reset in
      let all = length-map (zip (renewals last d reset) values) Some in
      let zipped = length-zip (renewals last d reset) values (omega (arith, old, same)) in
      omega (arith, all, zipped, same)

  pub room-compressed : (last : Option ℕ) (d : DirectContent T) (reset : Bool) (values : List T)
      → (compressed last d reset values).room ≡ d.room
  room-compressed last d reset values = refl

  pub formed-compressed : (last : Option ℕ) (d : DirectContent T) (reset : Bool) (values : List T)
      → length values ≡ direct_live_count d
      → IsDirectlyWellFormed d → IsDirectlyWellFormed (compressed last d reset values)
  formed-compressed last d reset values same formed =
      let slots = slots-compressed last d reset values same in
      let within = count_by-le-length is_some d.slots in
      omega (arith, slots, within, formed)

-- what a compression of an `Arena` changes and keeps
pub ruleset compressions = (
  length-values,
  formed-compacted,
  entry-compacted,
  live-compacted,
  slots-compacted,
  counter-compacted,
  free-compacted,
  room-compacted,
)

-- what a compression of a `DirectArena` changes and keeps
pub ruleset direct_compressions = (
  length-direct_values,
  formed-compressed,
  entry-compressed,
  live-compressed,
  slots-compressed,
  room-compressed,
)
