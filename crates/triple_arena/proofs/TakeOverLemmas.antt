-- What an arena is after it took over the entries of another, and after it gave its own away.
use Rattle.std.proofs.Common.{◌≡◌, ℕ, ◌+◌, ◌-◌, ◌≤◌, List, [], map, get_or, Option, Some, None}
use Rattle.std.proofs.Common.{is_some, count_by, refl, ap, ◌∙◌, arith}
use Rattle.std.proofs.lemmas.List.{length-map, map-id}
use Rattle.std.specs.Fn.{iterate}
use Rattle.std.specs.Option.{option_map}
use Rattle.triple_arena_ptr.specs.Generation.{next_generation}
use Rattle.triple_arena_stack.specs.Room.{Room, capacity}
use Rattle.triple_arena.specs.Slot.{Slot, entry_of}
use Rattle.triple_arena.specs.Content.{Content, entry_at, live_count, some_counter}
use Rattle.triple_arena.specs.ContentLaws.{entry_at_slot}
use Rattle.triple_arena.specs.Layout.{content_of, IsSound}
use Rattle.triple_arena.specs.Drains.{drained}
use Rattle.triple_arena.specs.LiveEntries.{live_entries}
use Rattle.triple_arena.specs.Compression.{value_of, compacted}
use Rattle.triple_arena.specs.Transfer.{IsFilled}
use Rattle.triple_arena.specs.DirectContent.{DirectContent, as_content, of_content}
use Rattle.triple_arena.specs.DirectContent.{entry_at as entry_of_direct}
use Rattle.triple_arena.specs.DirectContent.{live_count as live_of_direct}
use Rattle.triple_arena.specs.DirectContent.{live_entries as entries_of_direct, no_counter}
use Rattle.triple_arena.specs.DirectLayout.{direct_of, IsSound as IsSoundDirect}
use Rattle.triple_arena.proofs.FreeListLemmas.{none_free, sound_of}
use Rattle.triple_arena.proofs.TransferLemmas.{Rowed}

module _ {T : Type 0} where
  -- what an arena is after it took over the entries of another
  pub record TakesOver (n g : ℕ) (c : Content T) (es : List (Slot T)) (len : ℕ) (room : Room)
      (new : Content T) : Type 0 where
    pub sound : IsSound es len None room
    pub filled : IsFilled entry_at live_count some_counter (λ d. d.room) live_entries n g c.room c
        new
    pub exact : new ≡ compacted g (map value_of (live_entries new)) c

  pub takes_over : {n g len : ℕ} {es : List (Slot T)} {room : Room} (c : Content T)
      → Rowed n g (map entry_of es) → room ≡ c.room → len ≡ n
      → len ≤ capacity c.room → TakesOver n g c es len room (content_of es room g None)
  takes_over {n} {g} {len} {es} {room} c r kept many fits =
      let own = length-map es entry_of in
      let all = r.all in
      let live = r.live in
      let wide = ap capacity kept in
      let left = sound_of es len None [] room (omega arith) (omega arith) (none_free es)
      (omega arith) in
      let new = content_of es room g None in
      let shape : List (Option (ℕ × T)) → List ℕ → Room
      → Content T = λ s l x. record { slots = s; counter = g; free = l; room = x } in
      record {
        sound = left.sound;
        filled = record {
          compact = r.compact;
          entries = λ k.
              let back : k + 1 - 1 ≡ k = omega arith in
              entry_at_slot new (k + 1) (omega arith) ∙ ap (λ i. get_or new.slots i None) back
              ∙ r.entries k;
          generations = r.generations;
          live = r.live;
          counter = refl;
          room = kept;
        };
        exact =
            ap (λ l. shape (map entry_of es) l room) left.free_is
            ∙ ap (λ x. shape (map entry_of es) [] x) kept
            ∙ ap (λ s. shape s [] c.room) r.values;
      }

  -- and a direct arena
  pub record TakesOverDirect (n g : ℕ) (d : DirectContent T) (xs : List (Option (ℕ × T))) (len : ℕ)
      (room : Room) (new : DirectContent T) : Type 0 where
    pub sound : IsSoundDirect xs len room
    pub filled : IsFilled entry_of_direct live_of_direct no_counter (λ x. x.room) entries_of_direct
        n g d.room d new
    pub exact : new ≡ of_content (compacted g (map value_of (entries_of_direct new)) (as_content d))

  pub takes_over_direct : {n g len : ℕ} {xs : List (Option (ℕ × T))} {room : Room}
      (d : DirectContent T) → Rowed n g (map (λ slot. slot) xs)
      → room ≡ d.room → len ≡ n → len ≤ capacity d.room
      → TakesOverDirect n g d xs len room (direct_of xs room)
  takes_over_direct {n} {g} {len} {xs} {room} d moved kept many fits =
      let r = rw (map-id xs) at moved in
      let all = r.all in
      let live = r.live in
      let wide = ap capacity kept in
      let new = direct_of xs room in
      record {
        sound = record { counted = omega arith; fits = omega arith };
        filled = record {
          compact = r.compact;
          entries = λ k.
              let back : k + 1 - 1 ≡ k = omega arith in
              entry_at_slot (as_content new) (k + 1) (omega arith) ∙ ap (λ i. get_or xs i None) back
              ∙ r.entries k;
          generations = r.generations;
          live = r.live;
          counter = refl;
          room = kept;
        };
        exact = ap (λ x. direct_of xs x) kept ∙ ap (λ l. direct_of l d.room) r.values;
      }

-- what a transfer leaves of an arena
pub given_up : {T : Type 0} (last head : Option ℕ) (es : List (Slot T)) {es' : List (Slot T)}
    {room room' : Room} {g g' : ℕ} {c : Content T} → content_of es room g head ≡ c
    → es' ≡ [] → room' ≡ room
    → Some g' ≡ option_map (iterate (next_generation last) (count_by is_some (map entry_of es)))
    (Some g)
    → content_of es' room' g' None ≡ drained last c
given_up last head es {g} {g'} seen none kept stepped =
    let same : g' ≡ iterate (next_generation last) (count_by is_some (map entry_of es)) g = cc in
    rw (none, kept, same, ← seen) refl
