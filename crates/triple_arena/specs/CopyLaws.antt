-- What a copy holds, of an `Arena` and of a `DirectArena`: the entry at each index, how many are
-- live, how far the slots reach, the counter, the free indexes, the room, and well-formedness. And
-- what the calls of its map leave, by what one call does.
use Rattle.std.proofs.Common.{◌≡◌, ℕ, zero, suc, ◌+◌, ◌-◌, ◌<◌, ◌≤◌, List, [], ◌∷◌, ◌++◌, map}
use Rattle.std.proofs.Common.{length, get_or, replicate, Option, Some, None, IsSome, refl, sym, ap}
use Rattle.std.proofs.Common.{◌∙◌, arith, true≢false}
use Rattle.std.specs.Prelude.{Result, Ok, unwrap_or}
use Rattle.std.specs.Borrow.{Bor}
use Rattle.std.proofs.lemmas.List.{length-append, length-replicate}
use Rattle.triple_arena.specs.ArenaRoom.{room_with}
use Rattle.triple_arena.specs.Entries.{look_up}
use Rattle.triple_arena.specs.Compression.{listed_under}
use Rattle.triple_arena.specs.Content.{Content, entry_at, live_count, arena_capacity, last_index}
use Rattle.triple_arena.specs.Content.{vacant_from, IsWellFormed}
use Rattle.triple_arena.specs.DirectContent.{DirectContent, as_content, entry_at as direct_entry_at}
use Rattle.triple_arena.specs.DirectContent.{live_count as direct_live_count}
use Rattle.triple_arena.specs.DirectContent.{live_entries as direct_live_entries}
use Rattle.triple_arena.specs.DirectContent.{arena_capacity as direct_capacity}
use Rattle.triple_arena.specs.DirectContent.{IsWellFormed as IsDirectlyWellFormed}
use Rattle.triple_arena.specs.FreeListLaws.{IsLastIndex, last_index-is, vacant-counted}
use Rattle.triple_arena.specs.FreeListLaws.{all_vacant_from}
use Rattle.triple_arena.specs.LiveEntries.{listed_from, live_entries, entry-listed}
use Rattle.triple_arena.specs.LiveEntries.{live_entries-length}
use Rattle.triple_arena.specs.Copy.{last_listed, spread, copied, directly_copied, Call, Calls}
use Rattle.triple_arena.specs.Copy.{IsMappedCopy}

module _ {T : Type 0} where
  -- the indexes rise from this one on
  abbrev pub Rises : ℕ → List (ℕ × (ℕ × T)) → Type 0
  Rises n [] = Unit {0}
  Rises n (entry ∷ entries) = (n ≤ entry.0) × Rises (entry.0 + 1) entries

  pub listed-rises : (n m : ℕ) (xs : List (Option (ℕ × T))) → n ≤ m → Rises n (listed_from m xs)
  listed-rises n m [] below = tt
  listed-rises n m (None ∷ xs) below = listed-rises n (m + 1) xs (omega (arith, below))
  listed-rises n m (Some e ∷ xs) below = (below, listed-rises (m + 1) (m + 1) xs (omega arith))

  -- those of an arena do
  pub live_entries-rise : (c : Content T) → Rises 1 (live_entries c)
  live_entries-rise c = listed-rises 1 1 c.slots (omega arith)

  listed_behind : (n k : ℕ) (xs : List (Option (ℕ × T)))
      → listed_from n (replicate k None ++ xs) ≡ listed_from (n + k) xs
  listed_behind n zero xs = let same : n ≡ n + 0 = omega arith in ap (λ m. listed_from m xs) same
  listed_behind n (suc k) xs = let same : (n + 1) + k ≡ n + suc k =
      omega arith in listed_behind (n + 1) k xs ∙ ap (λ m. listed_from m xs) same

  -- the slots that hold these entries list them
  pub listed-spread : (n : ℕ) (entries : List (ℕ × (ℕ × T))) → Rises n entries
      → listed_from n (spread n entries) ≡ entries
  listed-spread n [] rise = refl
  listed-spread n (e ∷ entries) rise =
      let here : n + (e.0 - n) ≡ e.0 = omega (arith, rise.0) in
      listed_behind n (e.0 - n) (Some e.1 ∷ spread (e.0 + 1) entries)
      ∙ ap (λ m. listed_from m (Some e.1 ∷ spread (e.0 + 1) entries)) here
      ∙ ap (λ l. e ∷ l) (listed-spread (e.0 + 1) entries rise.1)

  spread_long : (n : ℕ) (e : ℕ × (ℕ × T)) (entries : List (ℕ × (ℕ × T))) → Rises n (e ∷ entries)
      → n + length (spread n (e ∷ entries)) ≡ last_listed (e ∷ entries) + 1
  spread_long n e [] rise =
      let free : Option (ℕ × T) = None in
      let whole = length-append (replicate (e.0 - n) free) (Some e.1 ∷ []) in
      let gap = length-replicate (e.0 - n) free in
      omega (arith, whole, gap, rise.0)
  spread_long n e (x ∷ entries) rise =
      let free : Option (ℕ × T) = None in
      let whole = length-append (replicate (e.0 - n) free)
      (Some e.1 ∷ spread (e.0 + 1) (x ∷ entries)) in
      let gap = length-replicate (e.0 - n) free in
      let rest = spread_long (e.0 + 1) x entries rise.1 in
      omega (arith, whole, gap, rise.0, rest)

  -- and reach as far as the last of them
  pub length-spread : (entries : List (ℕ × (ℕ × T))) → Rises 1 entries
      → length (spread 1 entries) ≡ last_listed entries
  length-spread [] rise = refl
  length-spread (e ∷ entries) rise = let long = spread_long 1 e entries rise in omega (arith, long)

  -- no live slot is listed as nothing
  pub listed-none : (n : ℕ) (xs : List (Option (ℕ × T))) → ((k : ℕ) → get_or xs k None ≡ None)
      → listed_from n xs ≡ []
  listed-none n [] none = refl
  listed-none n (None ∷ xs) none = listed-none (n + 1) xs (λ k. none (suc k))
  listed-none n (Some e ∷ xs) none = absurd (let first = none 0 in cc)

  last_behind : (e : ℕ × (ℕ × T)) (entries : List (ℕ × (ℕ × T))) → 0 < last_listed entries
      → last_listed (e ∷ entries) ≡ last_listed entries
  last_behind e [] some = absurd (omega (arith, some))
  last_behind e (x ∷ entries) some = refl

  -- the last live slot is the last that is listed
  last_listed_at : (n k : ℕ) (xs : List (Option (ℕ × T))) → IsSome (get_or xs k None)
      → ((j : ℕ) → k < j → get_or xs j None ≡ None)
      → last_listed (listed_from n xs) ≡ n + k
  last_listed_at n k [] some past = absurd (true≢false (sym some))
  last_listed_at n zero (None ∷ xs) some past = absurd (true≢false (sym some))
  last_listed_at n zero (Some e ∷ xs) some past =
      let none = listed-none (n + 1) xs (λ j. past (suc j) (omega arith)) in
      let here : n ≡ n + 0 = omega arith in
      ap (λ l. last_listed ((n, e) ∷ l)) none ∙ here
  last_listed_at n (suc k) (None ∷ xs) some past =
      let rest = last_listed_at (n + 1) k xs some
      (λ j above. past (suc j) (omega (arith, above))) in
      omega (arith, rest)
  last_listed_at n (suc k) (Some e ∷ xs) some past =
      let rest = last_listed_at (n + 1) k xs some
      (λ j above. past (suc j) (omega (arith, above))) in
      let more = last_behind (n, e) (listed_from (n + 1) xs) (omega (arith, rest)) in
      omega (arith, rest, more)

  -- the last of the live entries stands at the last live index
  pub last_listed-is : (c : Content T) → last_listed (live_entries c) ≡ last_index c
  last_listed-is c = by_last (last_index c) (last_index-is c)
    where
      by_last : (n : ℕ) → IsLastIndex c n → last_listed (live_entries c) ≡ n
      by_last zero last = ap last_listed
          (listed-none 1 c.slots (λ k. last.past (suc k) (omega arith)))
      by_last (suc k) last =
          let at = last_listed_at 1 k c.slots (last.live (omega arith))
          (λ j above. last.past (suc j) (omega (arith, above))) in
          omega (arith, at)

  -- which is one of the slots
  pub last_listed-within : (c : Content T) → last_listed (live_entries c) ≤ length c.slots
  last_listed-within c =
      let is = last_listed-is c in
      let within = (last_index-is c).within in
      omega (arith, is, within)

module _ {T : Type 0} (c : Content T) (counter : Option ℕ) (entries : List (ℕ × (ℕ × T))) where
  -- a copy has these entries and no other
  pub listed-copied : Rises 1 entries → live_entries (copied c counter entries) ≡ entries
  listed-copied rise = listed-spread 1 entries rise

  pub entry-copied : Rises 1 entries → (j : ℕ)
      → entry_at (copied c counter entries) j ≡ look_up entries j
  entry-copied rise j = entry-listed (copied c counter entries) j ∙ ap (λ l. look_up l j)
      (listed-copied rise)

  pub live-copied : Rises 1 entries → live_count (copied c counter entries) ≡ length entries
  live-copied rise = sym (live_entries-length (copied c counter entries)) ∙ ap length
      (listed-copied rise)

  pub slots-copied : Rises 1 entries → length (copied c counter entries).slots ≡ last_listed entries
  slots-copied rise = length-spread entries rise

  pub counter-copied : (copied c counter entries).counter ≡ unwrap_or counter c.counter
  counter-copied = refl

  pub free-copied : (copied c counter entries).free ≡ vacant_from 1 (spread 1 entries)
  free-copied = refl

  pub room-copied : (copied c counter entries).room ≡ room_with (last_listed entries) c.room
  room-copied = refl

  pub formed-copied : Rises 1 entries
      → last_listed entries ≤ arena_capacity (copied c counter entries)
      → IsWellFormed (copied c counter entries)
  formed-copied rise fits =
      let slots = slots-copied rise in
      record {
        free = all_vacant_from (copied c counter entries) 1 (spread 1 entries) (omega arith) refl
            (λ k. let first : 1 + k ≡ suc k =
            omega arith in ap (entry_at (copied c counter entries)) (sym first));
        counted = vacant-counted 1 (spread 1 entries);
        fits = omega (arith, slots, fits);
      }

module _ {T : Type 0} (d : DirectContent T) (entries : List (ℕ × (ℕ × T))) where
  pub listed-directly_copied : Rises 1 entries
      → direct_live_entries (directly_copied d entries) ≡ entries
  listed-directly_copied rise = listed-spread 1 entries rise

  pub entry-directly_copied : Rises 1 entries → (j : ℕ)
      → direct_entry_at (directly_copied d entries) j ≡ look_up entries j
  entry-directly_copied rise j =
      entry-listed (as_content (directly_copied d entries)) j ∙ ap (λ l. look_up l j)
      (listed-directly_copied rise)

  pub live-directly_copied : Rises 1 entries
      → direct_live_count (directly_copied d entries) ≡ length entries
  live-directly_copied rise
      = sym (live_entries-length (as_content (directly_copied d entries))) ∙ ap length
      (listed-directly_copied rise)

  pub slots-directly_copied : Rises 1 entries
      → length (directly_copied d entries).slots ≡ last_listed entries
  slots-directly_copied rise = length-spread entries rise

  pub room-directly_copied : (directly_copied d entries).room
      ≡ room_with (last_listed entries) d.room
  room-directly_copied = refl

  pub formed-directly_copied : Rises 1 entries
      → last_listed entries ≤ direct_capacity (directly_copied d entries)
      → IsDirectlyWellFormed (directly_copied d entries)
  formed-directly_copied rise fits = let slots =
      slots-directly_copied rise in omega (arith, slots, fits)

-- what a copy holds
pub ruleset copies = (
  formed-copied,
  listed-copied,
  entry-copied,
  live-copied,
  slots-copied,
  counter-copied,
  free-copied,
  room-copied,
  live_entries-rise,
)

-- and that of a direct arena
pub ruleset direct_copies = (
  formed-directly_copied,
  listed-directly_copied,
  entry-directly_copied,
  live-directly_copied,
  slots-directly_copied,
  room-directly_copied,
  live_entries-rise,
)

module _ {P U T E F : Type 0} (index generation : P → ℕ) (step : F → P → Bor U → Result T E → F
    → Type 0) where
  -- the values are those that a function gives of the pointers and the values
  pub copied_by : {f : F} {old : List (ℕ × (ℕ × U))} {new : List (ℕ × (ℕ × T))}
      (given : ℕ → ℕ → U → T)
      → ((g : F) (p : P) (u : Bor U) (t : T) (h : F) → step g p u (Ok t) h
      → t ≡ given (index p) (generation p) u.now)
      → IsMappedCopy index generation step f old new
      → new ≡ map (λ e. (e.0, (e.1.0, given e.0 e.1.0 e.1.1))) old
  copied_by {f} given one m =
      sym m.after ∙ by_calls m.calls f m.made ∙ ap
      (map (λ (e : ℕ × (ℕ × U)). (e.0, (e.1.0, given e.0 e.1.0 e.1.1)))) m.before
    where
      by_calls : (calls : List (Call P U T)) (g : F) → Calls step g calls m.last
          → map (λ (call : Call P U T). listed_under index generation call.pointer call.given) calls
          ≡ map (λ (e : ℕ × (ℕ × U)). (e.0, (e.1.0, given e.0 e.1.0 e.1.1)))
          (map (λ (call : Call P U T). listed_under index generation call.pointer
          call.lent.now) calls)
      by_calls [] g made = refl
      by_calls (x ∷ calls) g made =
          let same = one g x.pointer x.lent x.given made.0 made.1 in
          let rest = by_calls calls made.0 made.2 in
          ap (λ t. (index x.pointer, (generation x.pointer, t))
          ∷ map (λ (call : Call P U T). listed_under index generation call.pointer
          call.given) calls) same
          ∙ ap (λ l. (
            index x.pointer,
            (generation x.pointer, given (index x.pointer) (generation x.pointer) x.lent.now),
          )
          ∷ l) rest

module _ {P T E F : Type 0} (index generation : P → ℕ) (step : F → P → Bor T → Result T E → F
    → Type 0) where
  -- a map that gives what it is lent makes the same entries
  pub copied_same : {f : F} {old new : List (ℕ × (ℕ × T))}
      → ((g : F) (p : P) (u : Bor T) (t : T) (h : F) → step g p u (Ok t) h → t ≡ u.now)
      → IsMappedCopy index generation step f old new → new ≡ old
  copied_same {f} one m = sym m.after ∙ by_calls m.calls f m.made ∙ m.before
    where
      by_calls : (calls : List (Call P T T)) (g : F) → Calls step g calls m.last
          → map (λ (call : Call P T T). listed_under index generation call.pointer call.given) calls
          ≡ map (λ (call : Call P T T). listed_under index generation call.pointer
          call.lent.now) calls
      by_calls [] g made = refl
      by_calls (x ∷ calls) g made =
          let same = one g x.pointer x.lent x.given made.0 made.1 in
          let rest = by_calls calls made.0 made.2 in
          ap (λ t. (index x.pointer, (generation x.pointer, t))
          ∷ map (λ (call : Call P T T). listed_under index generation call.pointer
          call.given) calls) same
          ∙ ap (λ l. (index x.pointer, (generation x.pointer, x.lent.now)) ∷ l) rest
