-- The slots of a direct arena, and how each change of them keeps it sound.
use Rattle.std.proofs.Common.{◌≡◌, ℕ, zero, suc, ◌+◌, ◌-◌, ◌<◌, ◌≤◌, List, [], ◌∷◌, ◌++◌, length}
use Rattle.std.proofs.Common.{get_or, set, take, replicate, append_assoc, cond, Option, Some, None}
use Rattle.std.proofs.Common.{IsSome, is_some, slice_get, refl, sym, ap, ◌∙◌, arith, length-set}
use Rattle.std.specs.Option.{option_map}
use Rattle.std.proofs.lemmas.List.{length_push, set-get_or, replicate_more}
use Rattle.std.proofs.lemmas.Option.{get_or_from_slice_get}
use Rattle.std.proofs.lemmas.List.Sums.{sum_by-set, count_by-le-length}
use Rattle.triple_arena_stack.specs.Room.{Room, capacity}
use Rattle.triple_arena.specs.Changes.{IsInvalidated, IsRemoved}
use Rattle.triple_arena.specs.ContentLaws.{entry_at_slot, live_entry}
use Rattle.triple_arena.specs.DirectContent.{DirectContent, as_content, entry_at, arena_capacity}
use Rattle.triple_arena.specs.DirectContent.{live_count, no_counter, reaching, with_value}
use Rattle.triple_arena.specs.DirectContent.{with_generation, inserted, removed, last_index}
use Rattle.triple_arena.specs.DirectContent.{IsPlace}
use Rattle.triple_arena.specs.DirectLaws.{live-inserted, formed-inserted, entry-removed}
use Rattle.triple_arena.specs.DirectLaws.{live-removed, formed-removed, live-without_free_end}
use Rattle.triple_arena.specs.DirectLaws.{formed-without_free_end, entry-with_generation}
use Rattle.triple_arena.specs.DirectLaws.{live-with_generation, room-with_generation}
use Rattle.triple_arena.specs.DirectSlot.{with_slot_value, with_slot_generation}
use Rattle.triple_arena.specs.DirectLayout.{direct_of, IsSound}

module _ {T : Type 0} where
  absent : (xs : List (Option (ℕ × T))) (k : ℕ) → slice_get xs k ≡ None → get_or xs k None ≡ None
  absent [] k none = refl
  absent (x ∷ xs) zero none = absurd (cc)
  absent (x ∷ xs) (suc k) none = absent xs k none

  -- one more free slot at the end
  pub reaching_more : {xs ys : List (Option (ℕ × T))} (old : List (Option (ℕ × T)))
      {new : Option (ℕ × T)} → xs ≡ reaching (length xs) old
      → length old ≤ length xs → ys ≡ xs ++ new ∷ [] → new ≡ None → ys ≡ reaching (length ys) old
  reaching_more {xs} {ys} old {new} reached less more free =
      let longer = ap length more ∙ length_push xs new in
      let next : length ys - length old ≡ (length xs - length old) + 1 =
      omega (arith, less, longer) in
      more ∙ ap (λ x. xs ++ x ∷ []) free ∙ ap (λ l. l ++ None ∷ []) reached
      ∙ append_assoc old (replicate (length xs - length old) None) (None ∷ [])
      ∙ ap (λ l. old ++ l) (replicate_more (length xs - length old) None
      ∙ ap (λ n. replicate n None) (sym next))

  -- where there is no slot there is no entry
  pub nothing_at : {xs : List (Option (ℕ × T))} {room : Room} {d : DirectContent T}
      {o : Option (Option (ℕ × T))} {i : ℕ} (j : ℕ)
      → direct_of xs room ≡ d → o ≡ None → o ≡ slice_get xs (i - 1) → i ≡ j → entry_at d j ≡ None
  nothing_at zero seen none read same = refl
  nothing_at {xs} {i} (suc k) seen none read same =
      let back : i - 1 ≡ k = omega (arith, same) in
      ap (λ x. get_or x.slots k None) (sym seen)
      ∙ absent xs k (ap (slice_get xs) (sym back) ∙ sym read ∙ none)

  -- and else the entry is what the slot holds
  pub held_at : {xs : List (Option (ℕ × T))} {room : Room} {d : DirectContent T}
      {slot : Option (ℕ × T)} (i : ℕ)
      → direct_of xs room ≡ d → 0 < i → Some slot ≡ slice_get xs (i - 1) → entry_at d i ≡ slot
  held_at {xs} {d} {slot} i seen positive read =
      entry_at_slot (as_content d) i positive
      ∙ ap (λ x. get_or x.slots (i - 1) None) (sym seen)
      ∙ get_or_from_slice_get xs (i - 1) slot None (sym read)

  -- the slots are sound, and this is what they are seen as
  pub record Becomes (xs : List (Option (ℕ × T))) (len : ℕ) (room : Room)
      (d : DirectContent T) : Type 0 where
    pub sound : IsSound xs len room
    pub content : direct_of xs room ≡ d

  -- a live index is within the slots
  pub live_within : {xs : List (Option (ℕ × T))} {room : Room} {d : DirectContent T} (i : ℕ)
      → direct_of xs room ≡ d → IsSome (entry_at d i) → i ≤ length xs
  live_within {xs} {room} i seen some =
      let there = rw (← seen) at some in
      let live = live_entry (as_content (direct_of xs room)) i there in
      omega (arith, live.positive, live.within)

  -- a live slot becomes free
  pub freed : {xs xs' : List (Option (ℕ × T))} {len : ℕ} (i : ℕ) {room room' : Room}
      {d : DirectContent T} {new : Option (ℕ × T)}
      → IsSound xs len room → direct_of xs room ≡ d → IsSome (entry_at d i) → new ≡ None
      → xs' ≡ set xs (i - 1) new → room' ≡ room
      → Becomes xs' (len - 1) room' (removed d i)
  freed {xs} i {room} sound seen some none change kept =
      let there = rw (← seen) at some in
      let live = live-removed (direct_of xs room) i there in
      let counted = sound.counted in
      rw (change, none, kept)
      record {
        sound = record {
          counted = omega (arith, live, counted);
          fits = formed-removed (direct_of xs room) i sound.fits;
        };
        content = rw (← seen) refl;
      }

  -- an entry more at a place for it
  pub put : {xs xs' xs'' : List (Option (ℕ × T))} {len i g : ℕ} {t : T} {room room' : Room}
      {d : DirectContent T} {new : Option (ℕ × T)}
      → IsSound xs len room → direct_of xs room ≡ d → IsPlace d i → xs' ≡ reaching i xs
      → new ≡ Some (g, t) → xs'' ≡ set xs' (i - 1) new → room' ≡ room
      → Becomes xs'' (len + 1) room' (inserted d i g t)
  put {xs} {i} {g} {t} {room} sound seen place reached is change kept =
      let there = rw (← seen) at place in
      let live = live-inserted (direct_of xs room) i g t there in
      let counted = sound.counted in
      rw (change, is, reached, kept)
      record {
        sound = record {
          counted = omega (arith, live, counted);
          fits = formed-inserted (direct_of xs room) i g t there sound.fits;
        };
        content = rw (← seen) refl;
      }

  -- what is live and one more fit in the capacity
  pub one_more : {xs : List (Option (ℕ × T))} (len : ℕ) {n : ℕ} {room room' : Room}
      (d : DirectContent T) {e : DirectContent T}
      → Becomes xs (len + 1) room' e → room' ≡ room → n ≡ arena_capacity d → d.room ≡ room
      → len + 1 ≤ n
  one_more {xs} len d left kept is same =
      let counted = left.sound.counted in
      let few = count_by-le-length is_some xs in
      let fits = left.sound.fits in
      let all = ap capacity (kept ∙ sym same) in
      omega arith

  -- a live slot stays live
  replaced : {xs : List (Option (ℕ × T))} {len : ℕ} (i : ℕ) {room : Room} {d : DirectContent T}
      (e : ℕ × T) {old : ℕ × T} → IsSound xs len room
      → direct_of xs room ≡ d → entry_at d i ≡ Some old → IsSound (set xs (i - 1) (Some e)) len room
  replaced {xs} i {room} e {old} sound seen is =
      let there : entry_at (direct_of xs room) i ≡ Some old = ap (λ x. entry_at x i) seen ∙ is in
      let l = live_entry (as_content (direct_of xs room)) i (ap is_some there) in
      let more = rw l.read at
      (sum_by-set (λ o. cond (is_some o) 1 0) xs (i - 1) (Some e) None l.within) in
      let counted = sound.counted in
      let sizes = length-set xs (i - 1) (Some e) in
      record { counted = omega (arith, more, counted); fits = omega (arith, sizes, sound.fits) }

  -- a slot is written as it was
  pub unchanged : {xs xs' : List (Option (ℕ × T))} {len : ℕ} (i : ℕ) {room room' : Room}
      {d : DirectContent T} {old : Option (ℕ × T)}
      → IsSound xs len room → direct_of xs room ≡ d → Some old ≡ slice_get xs (i - 1)
      → xs' ≡ set xs (i - 1) old → room' ≡ room
      → Becomes xs' len room' d
  unchanged {xs} i {old} sound seen was change kept =
      let same : set xs (i - 1) old ≡ xs =
      ap (set xs (i - 1)) (sym (get_or_from_slice_get xs (i - 1) _ old (sym was)))
      ∙ set-get_or xs (i - 1) old in
      rw (change, same, kept) (record { sound = sound; content = seen })

  -- a slot has another value, if it is live
  pub written : {xs xs' : List (Option (ℕ × T))} {len : ℕ} (i : ℕ) {room room' : Room} (w : T)
      {d : DirectContent T} {old : Option (ℕ × T)}
      → IsSound xs len room → direct_of xs room ≡ d → 0 < i → Some old ≡ slice_get xs (i - 1)
      → xs' ≡ set xs (i - 1) (with_slot_value old w)
      → room' ≡ room → Becomes xs' len room' (with_value d i w)
  written i w {old = None} sound seen positive was change kept =
      rw (held_at i seen positive was) (unchanged i sound seen was change kept)
  written i w {old = Some e} sound seen positive was change kept =
      let is = held_at i seen positive was in
      rw (change, kept) (record
      { sound = replaced i (e.0, w) sound seen is; content = rw (is, ← seen) refl })

  -- a slot has another generation, if it is live
  pub renewed : {xs xs' : List (Option (ℕ × T))} {len : ℕ} (i g : ℕ) {room room' : Room}
      {d : DirectContent T} {old new : Option (ℕ × T)}
      → IsSound xs len room → direct_of xs room ≡ d → 0 < i → Some old ≡ slice_get xs (i - 1)
      → new ≡ with_slot_generation old g
      → xs' ≡ set xs (i - 1) new → room' ≡ room → Becomes xs' len room' (with_generation d i g)
  renewed {xs} i g {old = None} sound seen positive was changed change kept =
      rw (held_at i seen positive was)
      (unchanged i sound seen was (change ∙ ap (set xs (i - 1)) changed) kept)
  renewed i g {old = Some e} sound seen positive was changed change kept =
      let is = held_at i seen positive was in
      rw (change, changed, kept)
      (record { sound = replaced i (g, e.1) sound seen is; content = rw (is, ← seen) refl })

  -- an allocated slot has a value
  pub value_some : (slot : Option (ℕ × T)) → IsSome slot
      → IsSome (option_map (λ (e : ℕ × T). e.1) slot)
  value_some None some = some
  value_some (Some e) some = refl

  -- the free slots at the end go
  pub cut : {xs xs' : List (Option (ℕ × T))} {len n : ℕ} {room room' : Room} {d : DirectContent T}
      → IsSound xs len room → direct_of xs room ≡ d
      → n ≡ last_index d → xs' ≡ take n xs → room' ≡ room → IsSound xs' len room'
  cut {xs} {room} sound seen last kept same =
      let old = direct_of xs room in
      rw (kept, last ∙ ap last_index (sym seen), same)
      (record {
        counted = sound.counted ∙ sym (live-without_free_end old);
        fits = formed-without_free_end old sound.fits;
      })

  -- what a removal leaves
  pub is_removed : {last : Option ℕ} {d d' : DirectContent T} {i : ℕ} → d' ≡ removed d i
      → IsSome (entry_at d i)
      → IsRemoved entry_at live_count no_counter (λ x. x.room) last i d d'
  is_removed {d} {i} is some =
      rw is record {
        entries = entry-removed d i some;
        live = live-removed d i some;
        counter = refl;
        room = refl;
      }

  -- what the end of a pointer leaves
  pub is_invalidated : {last : Option ℕ} {d d' : DirectContent T} {i j g h : ℕ}
      → d' ≡ with_generation d i g → i ≡ j → h ≡ g
      → IsInvalidated entry_at live_count no_counter (λ x. x.room) last j h d d'
  is_invalidated {d} {i} {g} is same own =
      rw (← same, own)
      record {
        entries = λ k. ap (λ x. entry_at x k) is ∙ entry-with_generation d i g k;
        live = ap live_count is ∙ live-with_generation d i g;
        counter = refl;
        room = ap (λ x. x.room) is ∙ room-with_generation d i g;
      }
