-- What a direct arena is that became a copy.
use Rattle.std.proofs.Common.{◌≡◌, ℕ, zero, suc, ◌≤◌, List, map, length, Option, None, refl, sym}
use Rattle.std.proofs.Common.{ap, subst, ◌∙◌, arith}
use Rattle.std.proofs.lemmas.List.{map-id}
use Rattle.std.specs.Prelude.{Result}
use Rattle.std.specs.Borrow.{Bor}
use Rattle.std.specs.Option.{option_map}
use Rattle.triple_arena_ptr.specs.Generation.{next_generation}
use Rattle.triple_arena_stack.specs.Room.{Room, capacity}
use Rattle.triple_arena.specs.ArenaRoom.{room_with}
use Rattle.triple_arena.specs.Entries.{look_up}
use Rattle.triple_arena.specs.Changes.{IsNew}
use Rattle.triple_arena.specs.DirectContent.{DirectContent, as_content, entry_at, live_count}
use Rattle.triple_arena.specs.DirectContent.{live_entries, no_counter, reallocated, cleared}
use Rattle.triple_arena.specs.DirectLayout.{direct_of}
use Rattle.triple_arena.specs.LiveEntries.{listed_from, entry-listed, live_entries-length}
use Rattle.triple_arena.specs.Copy.{last_listed, spread, directly_copied, IsMappedCopy, IsCopy}
use Rattle.triple_arena.proofs.CopyLemmas.{spread_listed, room_enough, last_copied, mirrors}

module _ {P U T A F : Type 0} (index generation : P → ℕ)
    (step : F → P → Bor U → Result T A → F → Type 0) where
  -- a slot is what it holds
  pub mapped_direct : {f : F} {old : List (ℕ × (ℕ × U))} (slots : List (Option (ℕ × T)))
      → IsMappedCopy index generation step f old (listed_from 1 (map (λ s. s) slots))
      → IsMappedCopy index generation step f old (listed_from 1 slots)
  mapped_direct slots moved = rw (map-id slots) at moved

  -- its slots are copies
  pub copied_direct : {E : Type 0} (shown : E → Option (ℕ × U)) (source : List E) {f : F}
      (d : DirectContent T) (slots : List (Option (ℕ × T)))
      {room : Room}
      → IsMappedCopy index generation step f (listed_from 1 (map shown source))
      (listed_from 1 (map (λ s. s) slots))
      → length slots ≡ length source
      → length source ≡ last_listed (listed_from 1 (map shown source))
      → length source ≤ capacity d.room → room ≡ d.room
      → direct_of slots room ≡ directly_copied d (live_entries (direct_of slots room))
  copied_direct shown source {f} d slots {room} moved whole last fits room_is =
      let m = mapped_direct slots moved in
      let ends : length slots ≡ last_listed (listed_from 1 slots) =
      omega (arith, whole, last, last_copied index generation step m) in
      let spreads = spread_listed slots ends in
      let enough : last_listed (listed_from 1 slots) ≤ capacity d.room =
      omega (arith, ends, whole, fits) in
      let stays = room_enough (last_listed (listed_from 1 slots)) d.room enough in
      rw (spreads, room_is, stays) refl

  -- it was grown to the last index before
  pub record GrownDirect (source : ℕ → Option (ℕ × U)) (source_live last : ℕ) (counter : Option ℕ)
      (d new : DirectContent T) : Type 0 where
    pub exact : new ≡ directly_copied d (live_entries new)
    pub copy : IsCopy entry_at live_count no_counter (λ x. x.room) source source_live last counter d
        new

  pub grown_direct : {f : F} {old : List (ℕ × (ℕ × U))} {source : ℕ → Option (ℕ × U)}
      {source_live n : ℕ} {entries : List (ℕ × (ℕ × U))}
      (counter : Option ℕ) (d : DirectContent T) {grown new : DirectContent T}
      → IsMappedCopy index generation step f old (live_entries new) → old ≡ entries
      → ((j : ℕ) → source j ≡ look_up entries j) → length entries ≡ source_live
      → new ≡ directly_copied grown (live_entries new) → grown ≡ reallocated d n
      → n ≡ last_listed entries → n ≤ capacity grown.room
      → GrownDirect source source_live (last_listed entries) counter d new
  grown_direct {f} {old} {source} {source_live} {n} {entries} counter d {grown} {new} m same listed
      counted is grew at fits =
      let q = mirrors index generation step m same listed counted in
      let live = live_entries-length (as_content new) in
      let l = q.live in
      let enough : n ≤ capacity (room_with n d.room) = subst (λ x. n ≤ capacity x.room) grew fits in
      let in_this : Room → DirectContent T =
      λ r. record { slots = spread 1 (live_entries new); room = r } in
      let stays : room_with (last_listed (live_entries new)) (room_with n d.room)
      ≡ room_with (last_listed (live_entries new)) d.room =
      rw (q.last ∙ sym at) (room_enough n (room_with n d.room) enough) in
      let exact : new ≡ directly_copied d (live_entries new) = is
      ∙ ap (λ x. directly_copied x (live_entries new)) grew ∙ ap in_this stays in
      record {
        exact = exact;
        copy = record {
          pointers = λ j. ap (option_map (λ (e : ℕ × T). e.0)) (entry-listed (as_content new) j)
              ∙ q.pointers j;
          live = omega arith;
          counter = refl;
          room = ap (λ x. x.room) exact ∙ ap (λ k. room_with k d.room) q.last;
        };
      }

module _ {T : Type 0} where
  -- a direct arena that was grown and then cleared
  pub emptied_direct : (g : Option ℕ) {n last : ℕ} (d : DirectContent T)
      {grown new : DirectContent T} → new ≡ cleared grown
      → grown ≡ reallocated d n → n ≡ last
      → IsNew entry_at live_count no_counter (λ x. x.room)
      (option_map (next_generation g) (no_counter d)) (room_with last d.room) new
      × (new ≡ cleared (reallocated d last))
  emptied_direct g {n} {last} d {grown} {new} is grew at =
      let whole : new ≡ cleared (reallocated d last) = is
      ∙ ap cleared (grew ∙ ap (reallocated d) at) in (
        record {
          entries = λ j. ap (λ x. entry_at x j) whole ∙ no_entry (reallocated d last) j;
          live = ap live_count whole;
          counter = refl;
          room = ap (λ x. x.room) whole;
        },
        whole,
      )
    where
      no_entry : (d : DirectContent T) (j : ℕ) → entry_at (cleared d) j ≡ None
      no_entry d zero = refl
      no_entry d (suc j) = refl
