-- An arena's slots whose values are written are as they were, but for the values.
use Rattle.std.proofs.Common.{◌≡◌, ◌≤◌, refl, sym, ap, subst, ◌∙◌, ℕ, zero, suc, ◌+◌, ◌-◌, List, []}
use Rattle.std.proofs.Common.{◌∷◌, length, map}
use Rattle.std.specs.Prelude.{Option, Some, None, is_some, count_by, slice_index_or}
use Rattle.std.specs.Option.{option_map}
use Rattle.triple_arena_stack.specs.Room.{Room, capacity}
use Rattle.linked_lists.specs.ChainLaws.{segment-where}
use Rattle.triple_arena.specs.Slot.{
  Slot,
  free,
  used,
  entry_of,
  links_of,
  next_of,
  value_of,
  with_slot_value,
}
use Rattle.triple_arena.specs.Content.{Content}
use Rattle.triple_arena.specs.DirectContent
use Rattle.triple_arena.specs.Layout.{content_of, IsSound, links, links_at}
use Rattle.triple_arena.specs.LentSlots.{filled, refilled}
use Rattle.triple_arena.specs.IterMutLaws.{count-refilled}
use Rattle.triple_arena.proofs.LentSlotsLemmas.{length-refilled}
use Rattle.triple_arena.specs.IterMut.{keyed, entries_of, direct_values_at, direct_holding}
use Rattle.triple_arena.specs.Entries.{value_in}
use Rattle.triple_arena.specs.IterMut.{with_entry_value, values_at, with_values}
use Rattle.triple_arena.specs.IterMut.{entry_for, holding}

module _ {T : Type 0} where
  abbrev W : List (Slot T) → List (Option T) → List (Slot T)
  W = refilled with_slot_value

  links-filled : (e : Slot T) (w : Option T) → links_of (filled with_slot_value e w) ≡ links_of e
  links-filled e None = refl
  links-filled (free p n) (Some w) = refl
  links-filled (used g t) (Some w) = refl

  entry-filled : (e : Slot T) (w : Option T) → entry_of (filled with_slot_value e w) ≡ filled
      with_entry_value (entry_of e) w
  entry-filled e None = refl
  entry-filled (free p n) (Some w) = refl
  entry-filled (used g t) (Some w) = refl

  map-links : (es : List (Slot T)) (ws : List (Option T)) → map links_of (W es ws) ≡ map links_of es
  map-links [] ws = refl
  map-links (e ∷ es) [] = ap (λ l. links_of e ∷ l) (map-links es [])
  map-links (e ∷ es) (w ∷ ws) = λ i. links-filled e w i ∷ map-links es ws i

  pub map-entries : (es : List (Slot T)) (ws : List (Option T)) → map entry_of (W es ws) ≡ refilled
      with_entry_value (map entry_of es) ws
  map-entries [] ws = refl
  map-entries (e ∷ es) [] = ap (λ l. entry_of e ∷ l) (map-entries es [])
  map-entries (e ∷ es) (w ∷ ws) = λ i. entry-filled e w i ∷ map-entries es ws i

  next-filled : (e : Slot T) (w : Option T) → next_of (filled with_slot_value e w) ≡ next_of e
  next-filled e None = refl
  next-filled (free p n) (Some w) = refl
  next-filled (used g t) (Some w) = refl

  next-refilled : (es : List (Slot T)) (ws : List (Option T)) (k : ℕ) →
      next_of (slice_index_or (W es ws) k (free None None)) ≡ next_of
      (slice_index_or es k (free None None))
  next-refilled [] ws k = refl
  next-refilled (e ∷ es) [] zero = refl
  next-refilled (e ∷ es) [] (suc k) = next-refilled es [] k
  next-refilled (e ∷ es) (w ∷ ws) zero = next-filled e w
  next-refilled (e ∷ es) (w ∷ ws) (suc k) = next-refilled es ws k

  links-refilled : (es : List (Slot T)) (ws : List (Option T)) (n : ℕ) (head : Option ℕ) →
      links (W es ws) n head ≡ links es n head
  links-refilled es ws zero head = refl
  links-refilled es ws (suc n) None = refl
  links-refilled es ws (suc n) (Some i) =
      ap (λ l. i ∷ l) (ap (λ h. links (W es ws) n h) (next-refilled es ws (i - 1)) ∙
      links-refilled es ws n (next_of (slice_index_or es (i - 1) (free None None))))

  at-refilled : (es : List (Slot T)) (ws : List (Option T)) (i : ℕ) →
      links_at (W es ws) i ≡ links_at es i
  at-refilled es ws zero = refl
  at-refilled es ws (suc k) = ap (λ l. slice_index_or l k None) (map-links es ws)

  pub record Refilled (es' : List (Slot T)) (len : ℕ) (head : Option ℕ) (room' : Room) (g : ℕ)
      (c : Content T) (ws : List (Option T)) : Type 0 where
    pub sound : IsSound es' len head room'
    pub content : content_of es' room' g head ≡ with_values c ws

  pub refills : {es es' : List (Slot T)} {len : ℕ} {head : Option ℕ} {room room' : Room} {g : ℕ}
      {c : Content T} (ws : List (Option T))
      → IsSound es len head room → content_of es room g head ≡ c → es' ≡ W es ws → room' ≡ room
      → Refilled es' len head room' g c ws
  refills {es} {es'} {len} {head} {room} {room'} {g} {c} ws sound seen written kept =
      let size = length-refilled with_slot_value es ws in
      let free_is : links (W es ws) (length (W es ws)) head ≡ links es (length es) head =
      ap (λ n. links (W es ws) n head) size ∙ links-refilled es ws (length es) head in
      let counted = ap (λ l. count_by is_some l) (map-entries es ws) ∙
      count-refilled (map entry_of es) ws in
      let longs = ap length free_is in
      rw (written, kept, ← seen)
      record {
        sound = record {
          counted = sound.counted ∙ sym counted;
          total = ap (λ n. len + n) longs ∙ sound.total ∙ sym size;
          listed = rw free_is record {
            first = sound.listed.first;
            stands = segment-where (links_at es) (links_at (W es ws)) None None
                (links es (length es) head) (λ k on. at-refilled es ws k) sound.listed.stands;
          };
          fits = subst (λ n. n ≤ capacity room) (sym size) sound.fits;
        };
        content = λ i. record {
          slots = map-entries es ws i;
          counter = g;
          free = free_is i;
          room =
              room;
        };
      }

  -- a content with these values has them
  pub values-holding : (c : Content T) (ws : List (Option T)) → values_at (holding c ws) ≡ ws
  values-holding c ws = each ws
    where
      one : (w : Option T) → value_in (entry_for w) ≡ w
      one None = refl
      one (Some w) = refl

      each : (vs : List (Option T)) → map value_in (map entry_for vs) ≡ vs
      each [] = refl
      each (v ∷ vs) = λ i. one v i ∷ each vs i

  -- a direct arena's content with these values has them
  pub direct_values-holding : (d : Rattle.triple_arena.specs.DirectContent.DirectContent T)
      (ws : List (Option T)) → direct_values_at (direct_holding d ws) ≡ ws
  direct_values-holding d ws = values-holding (Rattle.triple_arena.specs.DirectContent.as_content d)
      ws

  -- the first slot's entry comes first
  pub first_entry : {E : Type 0} (key : E → Option ℕ) (held : E → Option T) (n : ℕ) (run : List E)
      (x : E) (rest : List E) (k : ℕ) (t : T)
      → run ≡ x ∷ rest → Some k ≡ key x → Some t ≡ held x
      → entries_of key held n run ≡ (n, (k, t)) ∷ entries_of key held (n + 1) rest
  first_entry key held n run x rest k t cut has_key has_value =
      rw (cut, ← has_key, ← has_value) refl

  keyed-entry : (s : Slot T) → keyed (option_map (λ (e : ℕ × T). e.0) (entry_of s)) (value_of s) ≡
      entry_of s
  keyed-entry (free p n) = refl
  keyed-entry (used g t) = refl

  -- the entries of slots, by their keys and their values
  pub keyed-entries : (es : List (Slot T)) →
      map (λ s. keyed (option_map (λ (e : ℕ × T). e.0) (entry_of s)) (value_of s)) es ≡ map entry_of
      es
  keyed-entries [] = refl
  keyed-entries (e ∷ es) = λ i. keyed-entry e i ∷ keyed-entries es i

  direct_keyed-entry : (s : Option (ℕ × T)) → keyed (option_map (λ (e : ℕ × T). e.0) s)
      (option_map (λ (e : ℕ × T). e.1) s) ≡ s
  direct_keyed-entry None = refl
  direct_keyed-entry (Some e) = refl

  -- the same of a direct arena's
  pub direct_keyed-entries : (es : List (Option (ℕ × T))) →
      map (λ s. keyed (option_map (λ (e : ℕ × T). e.0) s) (option_map (λ (e : ℕ × T). e.1) s)) es ≡
      map (λ s. s) es
  direct_keyed-entries [] = refl
  direct_keyed-entries (e ∷ es) = λ i. direct_keyed-entry e i ∷ direct_keyed-entries es i
