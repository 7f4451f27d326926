-- What a direct arena is after a compression.
use Rattle.std.proofs.Common.{◌≡◌, ℕ, Bool, ◌+◌, ◌-◌, List, [], ◌∷◌, map, get_or, Option, Some}
use Rattle.std.proofs.Common.{None, is_some, refl, ap, ◌∙◌, arith}
use Rattle.std.specs.List.{list_any, zip}
use Rattle.std.proofs.lemmas.List.{map-id}
use Rattle.std.proofs.lemmas.List.Sums.{count_by-le-length}
use Rattle.triple_arena_stack.specs.Room.{Room}
use Rattle.triple_arena.specs.Changes.{IsCompressed}
use Rattle.triple_arena.specs.ContentLaws.{entry_at_slot}
use Rattle.triple_arena.specs.LiveEntries.{listed_from}
use Rattle.triple_arena.specs.Compression.{renewed, Move, generation_of, value_of, entry_before}
use Rattle.triple_arena.specs.Compression.{entry_after, IsMapped}
use Rattle.triple_arena.specs.SlotCompression.{Compacts}
use Rattle.triple_arena.specs.DirectContent.{DirectContent, as_content, entry_at, live_count}
use Rattle.triple_arena.specs.DirectContent.{live_entries, no_counter, compressed as compressed_of}
use Rattle.triple_arena.specs.DirectLayout.{direct_of, IsSound}
use Rattle.triple_arena.proofs.CompressionLemmas.{stored, lined}

module _ {P T F : Type 0} (index generation : P → ℕ) (step : F → P → T → P → T → F → Type 0) where
  -- the slots hold the old generations, renewed, beside the values that were given
  zipped : (renew : ℕ → ℕ) (moves : List (Move P T))
      → map (stored index generation step renew) moves
      ≡ map Some (zip (map renew (map generation_of (map (entry_before index generation) moves)))
      (map value_of (map (entry_after index generation) moves)))
  zipped renew [] = refl
  zipped renew (m ∷ moves) =
      ap (λ l. Some (renew (generation m.from), m.given) ∷ l) (zipped renew moves)

  pub record Compressed (f : F) (last : Option ℕ) (reset : Bool) (d : DirectContent T)
      (slots : List (Option (ℕ × T))) (len : ℕ) (room : Room)
      (new : DirectContent T) : Type 0 where
    pub sound : IsSound slots len room
    pub mapped : IsMapped index generation step f (live_entries d) (live_entries new)
    pub compressed : IsCompressed entry_at live_count no_counter (λ x. x.room) last live_entries
        reset d new
    pub exact : new ≡ compressed_of last d reset (map value_of (live_entries new))

  pub compressed_arena : {f : F} {last : Option ℕ} {reset : Bool} {xs xs' : List (Option (ℕ × T))}
      {len : ℕ} {room room' : Room} {d : DirectContent T}
      → Compacts index generation step f (renewed last reset) (map (λ slot. slot) xs)
      (map (λ slot. slot) xs') → IsSound xs len room
      → direct_of xs room ≡ d → room' ≡ room
      → Compressed f last reset d xs' len room' (direct_of xs' room')
  compressed_arena {last} {reset} {xs} {xs'} {room} {room'} moved sound seen kept =
      let k = rw (map-id xs, map-id xs') at moved in
      let l = lined index generation step k in
      let live = l.live in
      let all = l.all in
      let counted = sound.counted in
      let fits = sound.fits in
      let few = count_by-le-length is_some xs in
      let new = direct_of xs' room' in
      let row = λ (olds : List (ℕ × (ℕ × T))) (news : List (ℕ × (ℕ × T))).
      map Some (zip (map (renewed last reset) (map generation_of olds)) (map value_of news)) in
      rw (← seen)
      record {
        sound = rw kept (record { counted = omega arith; fits = omega arith });
        mapped = l.mapped;
        compressed = record {
          compact = l.compact;
          entries = λ i.
              let back : i + 1 - 1 ≡ i = omega arith in
              entry_at_slot (as_content new) (i + 1) (omega arith)
              ∙ ap (λ n. get_or xs' n None) back ∙ l.entries i;
          generations = l.generations;
          live = live;
          counter = refl;
          room = kept;
        };
        exact =
            ap (λ r. direct_of xs' r) kept
            ∙ ap (λ s. direct_of s room)
            (k.slots ∙ zipped (renewed last reset) k.moves
            ∙ ap (λ e. row e (map (entry_after index generation) k.moves)) k.before
            ∙ ap (λ e. row (listed_from 1 xs) e) k.after);
      }

-- whether the step of some entry's generation starts the generations again
pub wraps_told : {T : Type 0} (wraps : ℕ → Bool) {wrapped : Bool} {xs : List (Option (ℕ × T))}
    {room : Room} {d : DirectContent T}
    → wrapped ≡ list_any wraps (map generation_of (listed_from 1 (map (λ slot. slot) xs)))
    → direct_of xs room ≡ d
    → wrapped ≡ list_any wraps (map generation_of (live_entries d))
wraps_told wraps {xs} told seen =
    told ∙ ap (λ l. list_any wraps (map generation_of (listed_from 1 l))) (map-id xs)
    ∙ ap (λ x. list_any wraps (map generation_of (live_entries x))) seen
