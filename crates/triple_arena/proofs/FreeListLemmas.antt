-- The list of free slots, and how each change of the slots keeps it.
use Rattle.std.proofs.Common.{◌≡◌, ◌≢◌, ◌==◌, if◌then◌else◌, inl, inr, ℕ, zero, suc, ◌+◌, ◌-◌, ◌<◌}
use Rattle.std.proofs.Common.{◌≤◌, List, [], ◌∷◌, ◌++◌, map, length, get_or, set, take, Option}
use Rattle.std.proofs.Common.{Some, None, is_some, count_by, cond, slice_get, refl, sym, ap, subst}
use Rattle.std.proofs.Common.{◌∙◌, arith, length-set}
use Rattle.std.proofs.lemmas.List.{map-set, map_push, length-map, length_push, get_or-map}
use Rattle.std.proofs.lemmas.List.{get_or-set_same, get_or-set_other, set-set, set-get_or, set_at}
use Rattle.std.proofs.lemmas.List.Sums.{sum_by-set, sum_by_push}
use Rattle.std.proofs.lemmas.Option.{slice_get_within, get_or_from_slice_get}
use Rattle.linked_lists.specs.LinkedLists.{Ends, first_or, IsSegment, Off, with_prev_if}
use Rattle.linked_lists.specs.LinkedListLaws.{not_first}
use Rattle.linked_lists.specs.UniquenessLaws.{linear_apart}
use Rattle.linked_lists.specs.ChainLaws.{first_on, live_on, none_off, segment-where}
use Rattle.linked_lists.specs.SegmentLaws.{prev_same, put_first, taken}
use Rattle.triple_arena.specs.Slot.{Slot, free, used, entry_of, links_of, value_of, with_slot_value}
use Rattle.triple_arena.specs.Slot.{with_slot_generation}
use Rattle.std.proofs.Common.{IsSome, IfSome, Bor, option_copied, option_to_list, true, false}
use Rattle.std.proofs.Common.{true≢false, eqb}
use Rattle.std.specs.Option.{option_map}
use Rattle.std.proofs.lemmas.Bool.{eq-eqb, ne_eqb}
use Rattle.std.proofs.lemmas.Bool.Decides.{eqb_tells}
use Rattle.std.proofs.Math.Seq.{take-append_seam}
use Rattle.triple_arena_stack.specs.Room.{Room, capacity}
use Rattle.triple_arena.specs.Content.{Content, entry_at, get, live_count, arena_capacity, inserted}
use Rattle.triple_arena.specs.Content.{vacated, with_value, with_generation, AllVacant}
use Rattle.triple_arena.specs.Content.{IsWellFormed}
use Rattle.triple_arena.specs.Entries.{value_if}
use Rattle.triple_arena.specs.ContentLaws.{entry_at_slot}
use Rattle.triple_arena.specs.Layout.{links, content_of, links_at, IsFreeList, IsSound}

-- an option that is there
pub the_some : {X : Type 0} (o : Option X) → IsSome o → (x : X) × (o ≡ Some x)
the_some None some = absurd (true≢false (sym some))
the_some (Some x) some = (x, refl)

-- a reference is there where its value is
pub copied_some : {X : Type 0} (o : Option (Bor X)) → is_some o ≡ true → IsSome (option_copied o)
copied_some None some = absurd (true≢false (sym some))
copied_some (Some x) some = refl

pub copied_none : {X : Type 0} (o : Option (Bor X)) → is_some o ≡ false → IsSome (option_copied o)
    → ⊥
copied_none None none some = true≢false (sym some)
copied_none (Some x) none some = true≢false none

module _ {T : Type 0} where
  pub slot_absent : (es : List (Slot T)) (k : ℕ) → slice_get es k ≡ None
      → get_or (map entry_of es) k None ≡ None
  slot_absent [] k e = refl
  slot_absent (x ∷ es) zero e = absurd (cc)
  slot_absent (x ∷ es) (suc k) e = slot_absent es k e

  -- a free slot at an index, with these links
  pub record FreeAt (es : List (Slot T)) (i : ℕ) (v : Ends) : Type 0 where
    pub positive : 0 < i
    pub found : slice_get es (i - 1) ≡ Some (free v.0 v.1)
    pub within : i ≤ length es

  free_slot : (es : List (Slot T)) (k : ℕ) (v : Ends) → get_or (map links_of es) k None ≡ Some v
      → slice_get es k ≡ Some (free v.0 v.1)
  free_slot [] k v found = absurd (cc)
  free_slot (free p n ∷ es) zero v found =
      let pair : (p, n) ≡ v = cc in
      ap (λ (w : Ends). Some (free w.0 w.1)) pair
  free_slot (used g t ∷ es) zero v found = absurd (cc)
  free_slot (x ∷ es) (suc k) v found = free_slot es k v found

  pub free_at : (es : List (Slot T)) (i : ℕ) (v : Ends) → links_at es i ≡ Some v → FreeAt es i v
  free_at es zero v found = absurd (cc)
  free_at es (suc k) v found =
      let back : suc k - 1 ≡ k = omega arith in
      let there = ap (slice_get es) back ∙ free_slot es k v found in
      record {
        positive = omega arith;
        found = there;
        within = omega (arith, slice_get_within es (suc k - 1) _ there);
      }

  -- the links at an index are those of its slot
  pub links_of_slot : (es : List (Slot T)) (i : ℕ) (x : Slot T) → 0 < i
      → slice_get es (i - 1) ≡ Some x → links_at es i ≡ links_of x
  links_of_slot es zero x positive found = absurd (omega arith)
  links_of_slot es (suc k) x positive found =
      let back : k ≡ suc k - 1 = omega arith in
      let there : slice_get es k ≡ Some x = ap (slice_get es) back ∙ found in
      get_or-map links_of es k x None (slice_get_within es k x there)
      ∙ ap links_of (get_or_from_slice_get es k x x there)

  -- the links after a write of a slot
  pub links-set : (es : List (Slot T)) (i : ℕ) (x : Slot T) → 0 < i → i - 1 < length es → (j : ℕ)
      → links_at (set es (i - 1) x) j ≡ (if j == i then links_of x else links_at es j)
  links-set es i x positive within zero = rw (ne_eqb 0 i (λ e. omega (arith, positive, e))) refl
  links-set es i x positive within (suc k) =
      let sizes = length-map es links_of in
      rw (map-set links_of es (i - 1) x) (elim (eqb_tells (suc k) i) [
        | inl same ↦
            let at : k ≡ i - 1 = omega (arith, same.1) in
            rw (same.0, at) (get_or-set_same (map links_of es) (i - 1) (links_of x) None
            (omega (arith, within, sizes)))
        | inr other ↦
            let differs : k ≢ i - 1 = λ e. other.1 (omega (arith, e, positive)) in
            rw other.0 (get_or-set_other (map links_of es) (i - 1) k (links_of x) None differs)
      ])

  -- a slot behind the slots adds its own links
  links_front : (es : List (Slot T)) (x : Slot T) (k : ℕ) → k < length es
      → get_or (map links_of (es ++ x ∷ [])) k None ≡ get_or (map links_of es) k None
  links_front [] x k below = absurd (omega (arith, below))
  links_front (e ∷ es) x zero below = refl
  links_front (e ∷ es) x (suc k) below = links_front es x k (omega (arith, below))

  pub links-push : (es : List (Slot T)) (x : Slot T) (j : ℕ) → j ≤ length es
      → links_at (es ++ x ∷ []) j ≡ links_at es j
  links-push es x zero below = refl
  links-push es x (suc k) below = links_front es x k (omega (arith, below))

  links_used : (es : List (Slot T)) (g : ℕ) (t : T) (k : ℕ)
      → get_or (map links_of (es ++ used g t ∷ [])) k None ≡ get_or (map links_of es) k None
  links_used [] g t zero = refl
  links_used [] g t (suc k) = refl
  links_used (e ∷ es) g t zero = refl
  links_used (e ∷ es) g t (suc k) = links_used es g t k

  -- and none if it is live
  pub links-push_used : (es : List (Slot T)) (g : ℕ) (t : T) (j : ℕ)
      → links_at (es ++ used g t ∷ []) j ≡ links_at es j
  links-push_used es g t zero = refl
  links-push_used es g t (suc k) = links_used es g t k

  -- no slot is free
  pub none_free : (es : List (Slot T)) → IsFreeList es None []
  none_free es = record { first = refl; stands = tt }

  chain_links : (es : List (Slot T)) (n : ℕ) (b : Option ℕ) (l : List ℕ) → length l ≤ n
      → IsSegment (links_at es) b l None
      → links es n (first_or l None) ≡ l
  chain_links es zero b [] h s = refl
  chain_links es zero b (i ∷ l) h s = absurd (omega (arith, h))
  chain_links es (suc n) b [] h s = refl
  chain_links es (suc n) b (i ∷ l) h s =
      let f = free_at es i (b, first_or l None) s.0 in
      let read : get_or es (i - 1) (free None None) ≡ free b (first_or l None) =
      get_or_from_slice_get es (i - 1) _ (free None None) f.found in
      rw read (ap (λ xs. i ∷ xs) (chain_links es n (Some i) l (omega (arith, h)) s.1))

  -- the links from a head are the list of free slots
  pub list_links : (es : List (Slot T)) (n : ℕ) (head : Option ℕ) (l : List ℕ) → length l ≤ n
      → IsFreeList es head l → links es n head ≡ l
  list_links es n head l fits f = ap (links es n) f.first ∙ chain_links es n None l fits f.stands

  -- a free slot is one of the slots
  pub free_within : (es : List (Slot T)) (i : ℕ) → IsSome (links_at es i) → i ≤ length es
  free_within es i some = let o = the_some (links_at es i) some in (free_at es i o.0 o.1).within

  pub slot_free : (es : List (Slot T)) (i : ℕ) (x : Slot T) → 0 < i → Some x ≡ slice_get es (i - 1)
      → IsSome (links_at es i) → IsSome (links_of x)
  slot_free es i x positive found some =
      subst IsSome (links_of_slot es i x positive (sym found)) some

  -- the first of a list is free after a write elsewhere
  pub first_free : (es : List (Slot T)) (i : ℕ) (new : Slot T) (b : Option ℕ) (l : List ℕ) → 0 < i
      → i - 1 < length es → IsSegment (links_at es) b l None
      → Off l i → (j : ℕ) → first_or l None ≡ Some j → IsSome (links_at (set es (i - 1) new) j)
  first_free es i new b l positive within s off j is =
      let some = live_on (links_at es) b None l j s (first_on l j is) in
      let differs : j ≢ i = λ same. not_first i l (is ∙ ap Some same) off in
      let stays : links_at (set es (i - 1) new) j ≡ links_at es j =
      links-set es i new positive within j ∙ rw (ne_eqb j i differs) refl in
      subst IsSome (sym stays) some

  -- the slots are sound, and the free indexes are these
  pub record Fits (es : List (Slot T)) (len : ℕ) (head : Option ℕ) (l : List ℕ) (room : Room) : Type
      0 where
    pub sound : IsSound es len head room
    pub free_is : links es (length es) head ≡ l

  pub sound_of : (es : List (Slot T)) (len : ℕ) (head : Option ℕ) (l : List ℕ) (room : Room)
      → len ≡ count_by is_some (map entry_of es)
      → len + length l ≡ length es → IsFreeList es head l → length es ≤ capacity room
      → Fits es len head l room
  sound_of es len head l room counted total listed fits =
      let e = list_links es (length es) head l (omega arith) listed in
      record {
        sound = record { counted = counted; total = rw e total; listed = rw e listed; fits = fits };
        free_is = e;
      }

  -- the count of live slots after a write
  pub count-set : (es : List (Slot T)) (key : ℕ) (old new : Slot T) → slice_get es key ≡ Some old
      → count_by is_some (map entry_of (set es key new)) + cond (is_some (entry_of old)) 1 0
      ≡ count_by is_some (map entry_of es) + cond (is_some
      (entry_of new)) 1 0
  count-set es key old new found =
      let within = slice_get_within es key old found in
      let read : get_or (map entry_of es) key None ≡ entry_of old =
      get_or-map entry_of es key old None within
      ∙ ap entry_of (get_or_from_slice_get es key old old found) in
      let counted = sum_by-set (λ o. cond (is_some o) 1 0) (map entry_of es) key (entry_of new) None
      (omega (arith, length-map es entry_of)) in
      rw (map-set entry_of es key new, ← read) counted

  count_push : (es : List (Slot T)) (g : ℕ) (t : T)
      → count_by is_some (map entry_of (es ++ used g t ∷ []))
      ≡ count_by is_some (map entry_of es) + 1
  count_push es g t = rw (map_push entry_of es (used g t))
      (sum_by_push (λ o. cond (is_some o) 1 0) (map entry_of es) (Some (g, t)))

  -- the same slots in another room
  pub resized : {es es' : List (Slot T)} {len : ℕ} {head : Option ℕ} {room room' : Room}
      → IsSound es len head room → es' ≡ es → length es ≤ capacity room'
      → IsSound es' len head room'
  resized s same fits =
      rw same record { counted = s.counted; total = s.total; listed = s.listed; fits = fits }

  -- with no head every slot is live
  pub full_at_none : (es : List (Slot T)) (len : ℕ) (room : Room) → IsSound es len None room
      → len ≡ length es
  full_at_none es len room s = by_list (links es (length es) None) s.total s.listed.first
    where
      by_list : (l : List ℕ) → len + length l ≡ length es → None ≡ first_or l None → len ≡ length es
      by_list [] total none = omega arith
      by_list (i ∷ l) total none = absurd (cc)

  pub push_fits : (es : List (Slot T)) (len g : ℕ) (t : T) (room : Room) → length es < capacity room
      → IsSound es len None room
      → Fits (es ++ used g t ∷ []) (len + 1) None [] room
  push_fits es len g t room below s =
      let full = full_at_none es len room s in
      let longer = length_push es (used g t) in
      sound_of (es ++ used g t ∷ []) (len + 1) None [] room
      (omega (arith, count_push es g t, s.counted)) (omega (arith, longer)) (none_free _) (omega
      (arith, longer, below))

  -- with no head there is room behind the slots, where there is room at all
  pub room_behind : {es : List (Slot T)} {len : ℕ} {head : Option ℕ} {room : Room} {g : ℕ}
      {c : Content T} → head ≡ None → IsSound es len head room
      → content_of es room g head ≡ c → live_count c < arena_capacity c → length es < capacity room
  room_behind {es} {len} {room} is sound seen below =
      let s = rw is at sound in
      let full = full_at_none es len room s in
      let counted = s.counted in
      let live : count_by is_some (map entry_of es) < capacity room = rw (← seen) at below in
      omega arith

  -- a head is the first of the free indexes, and its slot is free
  pub record Heads (es : List (Slot T)) (len i : ℕ) : Type 0 where
    pub rest : List ℕ
    pub slot : FreeAt es i (None, first_or rest None)
    pub free_is : links es (length es) (Some i) ≡ i ∷ rest
    pub total : len + (length rest + 1) ≡ length es
    pub stands : IsSegment (links_at es) None (i ∷ rest) None

  pub head_of : (es : List (Slot T)) (len i : ℕ) (room : Room) → IsSound es len (Some i) room
      → Heads es len i
  head_of es len i room s = by_list (links es (length es) (Some i)) refl s.total s.listed
    where
      by_list : (l : List ℕ) → links es (length es) (Some i) ≡ l → len + length l ≡ length es
          → IsFreeList es (Some i) l → Heads es len i
      by_list [] e total f = absurd (let none = f.first in cc)
      by_list (j ∷ l) e total f =
          let first = f.first in
          let same : j ≡ i = cc in
          let stands = subst (λ k. IsSegment (links_at es) None (k ∷ l) None) same f.stands in
          record {
            rest = l;
            slot = free_at es i (None, first_or l None) stands.0;
            free_is = e ∙ ap (λ x. x ∷ l) same;
            total = omega arith;
            stands = stands;
          }

  -- the head is one of the slots
  pub head_within : {es : List (Slot T)} {len i : ℕ} {head : Option ℕ} {room : Room} → head ≡ Some i
      → IsSound es len head room → i ≤ length es
  head_within {es} {len} {i} {room} is s = (head_of es len i room (rw is at s)).slot.within

  -- an index of a free slot is within what the number of slots is within
  pub place_fits : (o : Option ℕ) (es : List (Slot T)) {n m : ℕ} → n ≡ length es → n < m
      → ((i : ℕ) → o ≡ Some i → IsSome (links_at es i)) → IfSome o (λ i. i < m)
  place_fits None es count small vacant = tt
  place_fits (Some i) es count small vacant =
      omega (arith, free_within es i (vacant i refl), count, small)

  pub head_fits : (o : Option ℕ) {es : List (Slot T)} {len n m : ℕ} {room : Room}
      → n ≡ length es → n < m → IsSound es len o room → IfSome o (λ i. i < m)
  head_fits None count small sound = tt
  head_fits (Some i) count small sound =
      omega (arith, head_within refl sound, count, small)

  -- its slot is free, and what follows it is one of the slots
  pub head_links : {es : List (Slot T)} {len i : ℕ} {head : Option ℕ} {room : Room} {old : Slot T}
      → head ≡ Some i → IsSound es len head room
      → slice_get es (i - 1) ≡ Some old → IsSome (links_of old)
  head_links {es} {len} {i} {room} {old} is s found =
      let h = (head_of es len i room (rw is at s)).slot.found in
      let rest = (head_of es len i room (rw is at s)).rest in
      let same : old ≡ free None (first_or rest None) = cc in
      rw same refl

  -- what follows it is free after a write of the first free slot
  pub next_free : {es es' : List (Slot T)} {len i : ℕ} {head next : Option ℕ} {room : Room}
      {old : Slot T} (new : Slot T) → head ≡ Some i → IsSound es len head room
      → slice_get es (i - 1) ≡ Some old → option_map (λ (l : Ends). l.1) (links_of old) ≡ Some next
      → es' ≡ set es (i - 1) new → (j : ℕ)
      → next ≡ Some j → IsSome (links_at es' j)
  next_free {es} {es'} {len} {i} {next} {room} {old} new is s found given written j at =
      let h = head_of es len i room (rw is at s) in
      let there = h.slot.found in
      let same : old ≡ free None (first_or h.rest None) = cc in
      let both : Some (first_or h.rest None) ≡ Some next = rw same at given in
      let next_is : next ≡ first_or h.rest None = cc in
      let positive = h.slot.positive in
      let within = h.slot.within in
      let off = (linear_apart (links_at es) None (i ∷ h.rest) h.stands).0 in
      subst (λ xs. IsSome (links_at xs j)) (sym written)
      (first_free es i new (Some i) h.rest positive (omega (arith, positive, within)) h.stands.1 off
      j (sym next_is ∙ at))

  -- where a slot is free there is room
  pub free_is_room : {es : List (Slot T)} {len i : ℕ} {head : Option ℕ} {room : Room} {g : ℕ}
      {c : Content T} → head ≡ Some i → IsSound es len head room
      → content_of es room g head ≡ c → live_count c < arena_capacity c
  free_is_room {es} {len} {i} {room = room} is s seen =
      let h = head_of es len i room (rw is at s) in
      let total = h.total in
      let fits = s.fits in
      let counted = s.counted in
      let below : count_by is_some (map entry_of es) < capacity room =
      omega (arith, total, fits, counted) in
      rw (← seen) below

  -- the slots are sound, and this is what they are seen as
  pub record Becomes (es : List (Slot T)) (len : ℕ) (head : Option ℕ) (room : Room) (g : ℕ)
      (c : Content T) : Type 0 where
    pub sound : IsSound es len head room
    pub content : content_of es room g head ≡ c

  -- a live slot in the place of the first free one, and the next free one is the first
  pub filled : {es es1 es' : List (Slot T)} {len i : ℕ} {head next head' : Option ℕ}
      {room room' : Room} {g : ℕ} {t : T} {old new : Slot T} {c : Content T}
      → head ≡ Some i → IsSound es len head room → slice_get es (i - 1) ≡ Some old
      → option_map (λ (l : Ends). l.1) (links_of old) ≡ Some next
      → es1 ≡ set es (i - 1) new → new ≡ used g t
      → ((j : ℕ) → links_at es' j ≡ with_prev_if (links_at es1) next None j)
      → map entry_of es' ≡ map entry_of es1 → head' ≡ next → room' ≡ room
      → content_of es room g head ≡ c → Becomes es' (len + 1) head' room' g (inserted c t)
  filled {es} {es1} {es'} {len} {i} {next = next} {room = room} {g = g} {t = t} {old = old} is sound
      found given written filling linked entries first kept seen =
      let s = rw is at sound in
      let h = head_of es len i room s in
      let there = h.slot.found in
      let positive = h.slot.positive in
      let same : old ≡ free None (first_or h.rest None) = cc in
      let both : Some (first_or h.rest None) ≡ Some next = rw same at given in
      let next_is : next ≡ first_or h.rest None = cc in
      let put : es1 ≡ set es (i - 1) (used g t) = written ∙ ap (set es (i - 1)) filling in
      let within = h.slot.within in
      let others : (k : ℕ) → k ≢ i
      → links_at es' k ≡ with_prev_if (links_at es) (first_or h.rest None) None k =
      λ k other. linked k ∙ ap (λ o. with_prev_if (links_at es1) o None k) next_is
      ∙ prev_same (links_at es1) (links_at es) (first_or h.rest None) None k
      (ap (λ xs. links_at xs k) put
      ∙ links-set es i (used g t) positive (omega (arith, positive, within)) k
      ∙ rw (ne_eqb k i other) refl) in
      let stands = taken (links_at es) (links_at es') [] h.rest i None (first_or h.rest None)
      h.stands h.stands.0 others in
      let sizes = length-set es (i - 1) (used g t) in
      let there1 = length-map es1 entry_of in
      let there2 = length-map es' entry_of in
      let long = ap length entries in
      let size1 = ap length put in
      let counted = count-set es (i - 1) (free None (first_or h.rest None)) (used g t) there in
      let live : count_by is_some (map entry_of es')
      ≡ count_by is_some (map entry_of (set es (i - 1) (used g t))) =
      ap (count_by is_some) entries ∙ ap (λ xs. count_by is_some (map entry_of xs)) put in
      let left = sound_of es' (len + 1) next h.rest room (omega (arith, counted, live, s.counted))
      (omega
      (arith, sizes, there1, there2, long, size1, h.total))
      (record { first = next_is; stands = stands }) (omega
      (arith, sizes, there1, there2, long, size1, s.fits)) in
      let slots : map entry_of es' ≡ set (map entry_of es) (i - 1) (Some (g, t)) = entries
      ∙ ap (map entry_of) put ∙ map-set entry_of es (i - 1) (used g t) in
      rw (first, kept, ← seen, is)
      record { sound = left.sound; content = rw (h.free_is, left.free_is, slots) refl }

  -- a live slot behind full slots
  pub pushed : {es es' : List (Slot T)} {len : ℕ} {head : Option ℕ} {room room' : Room} {g : ℕ}
      {t : T} {new : Slot T} {c : Content T} → head ≡ None
      → IsSound es len head room → live_count c < arena_capacity c → es' ≡ es ++ new ∷ []
      → new ≡ used g t → room' ≡ room → content_of es room g head ≡ c
      → Becomes es' (len + 1) head room' g (inserted c t)
  pushed {es} {len} {room} {g} {t} is sound below written filling kept seen =
      let s = rw is at sound in
      let full = full_at_none es len room s in
      let counted = s.counted in
      let live : count_by is_some (map entry_of es) < capacity room = rw (← seen) at below in
      let fits = push_fits es len g t room (omega arith) s in
      rw (written, filling, kept, ← seen, is)
      record {
        sound = fits.sound;
        content = rw (
          list_links es (length es) None [] (omega arith) (none_free es),
          fits.free_is,
          map_push entry_of es (used g t),
        );
      }

  -- a live index has a live slot
  pub live_slot : (es : List (Slot T)) (k g : ℕ) (t : T)
      → get_or (map entry_of es) k None ≡ Some (g, t) → slice_get es k ≡ Some (used g t)
  live_slot [] k g t found = absurd (cc)
  live_slot (free prev next ∷ es) zero g t found = absurd (cc)
  live_slot (used h u ∷ es) zero g t found =
      let pair : (h, u) ≡ (g, t) = cc in
      ap (λ (x : ℕ × T). Some (used x.0 x.1)) pair
  live_slot (x ∷ es) (suc k) g t found = live_slot es k g t found

  -- the entry at an index is that of its slot
  pub entry_of_slot : (es : List (Slot T)) {room : Room} {g : ℕ} (head : Option ℕ) {c : Content T}
      {i : ℕ} {slot : Slot T}
      → content_of es room g head ≡ c → 0 < i → slice_get es (i - 1) ≡ Some slot
      → entry_at c i ≡ entry_of slot
  entry_of_slot es head {c} {i} {slot} seen positive found =
      let within = slice_get_within es (i - 1) slot found in
      entry_at_slot c i positive
      ∙ rw (← seen) (get_or-map entry_of es (i - 1) slot None within
      ∙ ap entry_of (get_or_from_slice_get es (i - 1) slot slot found))

  -- an index past the slots has no entry
  pub no_entry : (es : List (Slot T)) {room : Room} {g : ℕ} (head : Option ℕ) {c : Content T}
      (i : ℕ) → content_of es room g head ≡ c
      → slice_get es (i - 1) ≡ None → entry_at c i ≡ None
  no_entry es head zero seen found = refl
  no_entry es head (suc k) seen found =
      let back : suc k - 1 ≡ k = omega arith in
      rw (← seen) (slot_absent es k (ap (slice_get es) (sym back) ∙ found))

  -- a live index is within the slots, and has a live slot
  pub record Finds (es : List (Slot T)) (i : ℕ) (e : ℕ × T) : Type 0 where
    pub positive : 0 < i
    pub found : slice_get es (i - 1) ≡ Some (used e.0 e.1)
    pub within : i ≤ length es

  pub finds : {es : List (Slot T)} {room : Room} {g : ℕ} (head : Option ℕ) {c : Content T} {i : ℕ}
      {e : ℕ × T} → content_of es room g head ≡ c
      → entry_at c i ≡ Some e → Finds es i e
  finds head {i = zero} seen is = absurd (cc)
  finds {es} head {i = suc k} {e} seen is =
      let back : suc k - 1 ≡ k = omega arith in
      let found = ap (slice_get es) back ∙ live_slot es k e.0 e.1 (rw (← seen) at is) in
      record {
        positive = omega arith;
        found = found;
        within = omega (arith, slice_get_within es (suc k - 1) _ found);
      }

  pub live_within : (es : List (Slot T)) {room : Room} {g : ℕ} (head : Option ℕ) {c : Content T}
      {i : ℕ} → content_of es room g head ≡ c → IsSome (entry_at c i) → i ≤ length es
  live_within es head seen some = (finds head seen (the_some _ some).1).within

  -- the slot at the end before a write there
  end_before : (es es1 es' : List (Slot T)) (k : ℕ) (new end x : Slot T) → es1 ≡ set es k new
      → es1 ≡ es' ++ end ∷ [] → k ≡ length es' → slice_get es k ≡ Some x → es ≡ es' ++ x ∷ []
  end_before es es1 es' k new end x put split at found =
      sym (set-get_or es k x) ∙ ap (set es k) (get_or_from_slice_get es k x x found)
      ∙ sym (set-set es k new x) ∙ ap (λ xs. set xs k x) (sym put ∙ split)
      ∙ set_at es' end [] x k (sym at)

  -- the slots are sound, and this is what they are seen as
  pub record Leaves (es : List (Slot T)) (len : ℕ) (head : Option ℕ) (room : Room) (g : ℕ)
      (c : Content T) : Type 0 where
    pub sound : IsSound es len head room
    pub content : content_of es room g head ≡ c

  -- the last slot goes, after a write
  pub popped : {es es1 es' : List (Slot T)} {len i : ℕ} {head : Option ℕ} {room room' : Room}
      {g : ℕ} {e : ℕ × T} {c : Content T} (new : Slot T) (end : Option (Slot T))
      → IsSound es len head room → i ≡ length es → content_of es room g head ≡ c
      → entry_at c i ≡ Some e → es1 ≡ set es (i - 1) new → es1 ≡ es' ++ option_to_list end
      → (0 < length es1 → IsSome end) → room' ≡ room
      → Leaves es' (len - 1) head room' g (vacated c i)
  popped {es} {es1} {es'} {len} {i} {head} {room} {e = e} new end sound last seen is written split
      some kept =
      let f = finds head seen is in
      let positive = f.positive in
      let total = sound.total in
      let same_size = ap length written ∙ length-set es (i - 1) new in
      let there = the_some end (some (omega arith)) in
      let whole1 : es1 ≡ es' ++ there.0 ∷ [] =
      split ∙ ap (λ o. es' ++ option_to_list o) there.1 in
      let longer = length_push es' there.0 in
      let sizes = ap length whole1 in
      let fits = sound.fits in
      let at : i - 1 ≡ length es' = omega arith in
      let whole = end_before es es1 es' (i - 1) new there.0 (used e.0 e.1) written whole1 at f.found
      in
      let counted = sound.counted ∙ ap (λ xs. count_by is_some (map entry_of xs)) whole
      ∙ count_push es' e.0 e.1 in
      let l = links es (length es) head in
      let linked : (k : ℕ) → links_at es' k ≡ links_at es k =
      λ k. sym (ap (λ xs. links_at xs k) whole ∙ links-push_used es' e.0 e.1 k) in
      let listed : IsFreeList es' head l =
      record {
        first = sound.listed.first;
        stands = segment-where (links_at es) (links_at es') None None l (λ k on. linked k)
            sound.listed.stands;
      } in
      let left = sound_of es' (len - 1) head l room (omega arith) (omega arith) listed (omega arith)
      in
      let test : eqb i (length (map entry_of es)) ≡ true =
      eq-eqb _ _ (omega (arith, length-map es entry_of)) in
      let front : take (i - 1) (map entry_of es) ≡ map entry_of es' =
      rw (whole, at, map_push entry_of es' (used e.0 e.1), ← length-map es' entry_of)
      (take-append_seam (map entry_of es') (Some (e.0, e.1) ∷ [])) in
      rw kept
      record {
        sound = left.sound;
        content = rw (← seen, test, front, left.free_is);
      }

  -- the head is free after a write of a live slot
  pub head_free : {es es' : List (Slot T)} {len : ℕ} (i : ℕ) {head : Option ℕ} {room : Room} {g : ℕ}
      {e : ℕ × T} {c : Content T} (new : Slot T) → IsSound es len head room
      → content_of es room g head ≡ c → entry_at c i ≡ Some e → es' ≡ set es (i - 1) new → (j : ℕ)
      → head ≡ Some j → IsSome (links_at es' j)
  head_free {es} {es'} i {head = head} {e = e} new sound seen is written j at =
      let f = finds head seen is in
      let l = links es (length es) head in
      let within = slice_get_within es (i - 1) _ f.found in
      let off = none_off (links_at es) None None l i sound.listed.stands
      (links_of_slot es i (used e.0 e.1) f.positive f.found) in
      subst (λ xs. IsSome (links_at xs j)) (sym written)
      (first_free es i new None l f.positive within sound.listed.stands off j
      (sym sound.listed.first ∙ at))

  -- a slot becomes the next one to be taken, and the first free one stands behind it
  pub freed : {es es1 es' : List (Slot T)} {len i : ℕ} {head head' : Option ℕ} {room room' : Room}
      {g : ℕ} {new : Slot T} {e : ℕ × T} {c : Content T}
      → IsSound es len head room → (i ≡ length es → ⊥) → content_of es room g head ≡ c
      → entry_at c i ≡ Some e → es1 ≡ set es (i - 1) new → new ≡ free None head → head' ≡ Some i
      → ((j : ℕ) → links_at es' j ≡ with_prev_if (links_at es1) head head' j)
      → map entry_of es' ≡ map entry_of es1 → room' ≡ room
      → Leaves es' (len - 1) head' room' g (vacated c i)
  freed {es} {es1} {es'} {len} {i} {head} {head'} {room} {e = e} sound inner seen is written emptied
      first linked entries kept =
      let f = finds head seen is in
      let found = f.found in
      let positive = f.positive in
      let l = links es (length es) head in
      let total = sound.total in
      let fits = sound.fits in
      let within = slice_get_within es (i - 1) _ found in
      let put : es1 ≡ set es (i - 1) (free None head) = written ∙ ap (set es (i - 1)) emptied in
      let counted = count-set es (i - 1) (used e.0 e.1) (free None head) found in
      let before = sound.counted in
      let sizes = length-set es (i - 1) (free None head) in
      let there1 = length-map es1 entry_of in
      let there2 = length-map es' entry_of in
      let long = ap length entries in
      let size1 = ap length put in
      let live : count_by is_some (map entry_of es')
      ≡ count_by is_some (map entry_of (set es (i - 1) (free None head))) =
      ap (count_by is_some) entries ∙ ap (λ xs. count_by is_some (map entry_of xs)) put in
      let at : (k : ℕ) → links_at es1 k ≡ (if k == i then Some (None, head) else links_at es k) =
      λ k. ap (λ xs. links_at xs k) put ∙ links-set es i (free None head) positive within k in
      let off = none_off (links_at es) None None l i sound.listed.stands
      (links_of_slot es i (used e.0 e.1) positive found) in
      let stands = put_first (links_at es) (links_at es') (links_at es1) head i l
      sound.listed.stands sound.listed.first off
      (at i ∙ rw (eq-eqb i i refl) refl) (λ k other. at k ∙ rw (ne_eqb k i other) refl)
      (λ k. linked k ∙ ap (λ o. with_prev_if (links_at es1) head o k) first) in
      let left = sound_of es' (len - 1) (Some i) (i ∷ l) room (omega arith) (omega arith)
      (record { first = refl; stands = stands }) (omega arith) in
      let test : eqb i (length (map entry_of es)) ≡ false =
      ne_eqb _ _ (λ last. inner (last ∙ length-map es entry_of)) in
      let slots : map entry_of es' ≡ set (map entry_of es) (i - 1) None = entries
      ∙ ap (map entry_of) put ∙ map-set entry_of es (i - 1) (free None head) in
      rw (first, kept)
      record {
        sound = left.sound;
        content = rw (← seen, test, left.free_is, slots) refl;
      }

  -- a live slot that stays live keeps the list
  pub list_set : (es : List (Slot T)) (i g h : ℕ) (t w : T) (head : Option ℕ) (l : List ℕ) → 0 < i
      → slice_get es (i - 1) ≡ Some (used g t)
      → IsFreeList es head l → IsFreeList (set es (i - 1) (used h w)) head l
  list_set es i g h t w head l positive found f =
      record {
        first = f.first;
        stands = segment-where (links_at es) _ None None l
            (λ k on. links-set es i (used h w) positive (slice_get_within es (i - 1) _ found) k
            ∙ elim (eqb_tells k i) [
              | inl same ↦ rw same.0
                  (sym (ap (links_at es) same.1 ∙ links_of_slot es i (used g t) positive found))
              | inr other ↦ rw other.0 refl
            ]) f.stands;
      }

  -- a live slot has another value
  pub rewritten : {es es' : List (Slot T)} {len : ℕ} (i : ℕ) {head : Option ℕ} {room room' : Room}
      {g : ℕ} (w : T) {old : Slot T} {e : ℕ × T} {c : Content T}
      → IsSound es len head room → content_of es room g head ≡ c → entry_at c i ≡ Some e
      → slice_get es (i - 1) ≡ Some old
      → es' ≡ set es (i - 1) (with_slot_value old w) → room' ≡ room
      → Leaves es' len head room' g (with_value c i w)
  rewritten {es} {len} i {head} {room} w {old} {e} sound seen is was written kept =
      let f = finds head seen is in
      let found = f.found in
      let positive = f.positive in
      let same : old ≡ used e.0 e.1 = cc in
      let l = links es (length es) head in
      let total = sound.total in
      let fits = sound.fits in
      let counted = count-set es (i - 1) (used e.0 e.1) (used e.0 w) found in
      let before = sound.counted in
      let sizes = length-set es (i - 1) (used e.0 w) in
      let left = sound_of (set es (i - 1) (used e.0 w)) len head l room (omega arith) (omega arith)
      (list_set es i e.0 e.0 e.1 w head l positive found sound.listed) (omega arith) in
      rw (written, kept, same)
      record {
        sound = left.sound;
        content = rw (is, ← seen, left.free_is, map-set entry_of es (i - 1) (used e.0 w));
      }

  -- a live slot has another generation
  pub renewed : {es es' : List (Slot T)} {len : ℕ} (i : ℕ) {head : Option ℕ} {room room' : Room}
      {g : ℕ} (h : ℕ) {old new : Slot T} {e : ℕ × T} {c : Content T}
      → IsSound es len head room → content_of es room g head ≡ c → entry_at c i ≡ Some e
      → Some old ≡ slice_get es (i - 1)
      → new ≡ with_slot_generation old h → es' ≡ set es (i - 1) new → room' ≡ room
      → Leaves es' len head room' g (with_generation c i h)
  renewed {es} {len} i {head} {room} h {old} {e} sound seen is was changed written kept =
      let f = finds head seen is in
      let found = f.found in
      let positive = f.positive in
      let same : old ≡ used e.0 e.1 = cc in
      let l = links es (length es) head in
      let total = sound.total in
      let fits = sound.fits in
      let counted = count-set es (i - 1) (used e.0 e.1) (used h e.1) found in
      let before = sound.counted in
      let sizes = length-set es (i - 1) (used h e.1) in
      let left = sound_of (set es (i - 1) (used h e.1)) len head l room (omega arith) (omega arith)
      (list_set es i e.0 h e.1 e.1 head l positive found sound.listed) (omega arith) in
      rw (written, changed, kept, same)
      record {
        sound = left.sound;
        content = rw (is, ← seen, left.free_is, map-set entry_of es (i - 1) (used h e.1));
      }

  all_vacant : (es : List (Slot T)) (c : Content T) (b : Option ℕ) (l : List ℕ)
      → c.slots ≡ map entry_of es → IsSegment (links_at es) b l None → AllVacant c l
  all_vacant es c b [] same s = tt
  all_vacant es c b (i ∷ l) same s =
      let f = free_at es i _ s.0 in
      let positive = f.positive in
      let within = f.within in
      let sizes = ap length same ∙ length-map es entry_of in
      let read = get_or-map entry_of es (i - 1) (free None None) None
      (omega (arith, positive, within))
      ∙ ap entry_of (get_or_from_slice_get es (i - 1) _ (free None None) f.found) in (
        record {
          positive = positive;
          within = omega arith;
          vacant = entry_at_slot c i positive ∙ rw same read;
        },
        (
          (linear_apart (links_at es) b (i ∷ l) s).0,
          all_vacant es c (Some i) l same s.1,
        ),
      )

  -- sound slots are seen as a content that is well formed
  pub formed : {es : List (Slot T)} {len : ℕ} {head : Option ℕ} {room : Room} {g : ℕ}
      {c : Content T} → IsSound es len head room
      → content_of es room g head ≡ c → IsWellFormed c
  formed {es} {head} {room} {g} sound seen =
      rw (← seen)
      record {
        free = all_vacant es (content_of es room g head) None (links es (length es) head) refl
            sound.listed.stands;
        counted = omega (arith, sound.counted, sound.total, length-map es entry_of);
        fits = omega (arith, sound.fits, length-map es entry_of);
      }

  -- what a pointer finds by the slot at its index
  pub get_of_none : (es : List (Slot T)) {room : Room} {g : ℕ} (head : Option ℕ) {c : Content T}
      {o : Option (Slot T)} {i j : ℕ} (gen : ℕ)
      → content_of es room g head ≡ c → o ≡ None → o ≡ slice_get es (i - 1) → i ≡ j
      → get c j gen ≡ None
  get_of_none es head {j} gen seen none read same =
      ap (value_if gen) (no_entry es head j seen
      (subst (λ x. slice_get es (x - 1) ≡ None) same (sym read ∙ none)))

  pub get_of_slot : (es : List (Slot T)) {room : Room} {g : ℕ} (head : Option ℕ) {c : Content T}
      {o : Option (Slot T)} {slot : Slot T} {i j : ℕ} (gen : ℕ)
      → content_of es room g head ≡ c → o ≡ Some slot → o ≡ slice_get es (i - 1) → 0 < i → i ≡ j
      → get c j gen ≡ value_if gen (entry_of slot)
  get_of_slot es head {c} gen seen some read positive same =
      ap (λ x. get c x gen) (sym same)
      ∙ ap (value_if gen) (entry_of_slot es head seen positive (sym read ∙ some))

  slice_get_past : (es : List (Slot T)) (k : ℕ) → length es ≤ k → slice_get es k ≡ None
  slice_get_past [] k past = refl
  slice_get_past (x ∷ es) zero past = absurd (omega arith)
  slice_get_past (x ∷ es) (suc k) past = slice_get_past es k (omega arith)

  -- an allocated slot has the value of its entry
  pub value_some : (s : Slot T) → IsSome (entry_of s) → IsSome (value_of s)
  value_some (free prev next) some = some
  value_some (used g t) some = refl

  pub value_of_entry : (s : Slot T) → option_map (λ (e : ℕ × T). e.1) (entry_of s) ≡ value_of s
  value_of_entry (free prev next) = refl
  value_of_entry (used g t) = refl

  -- what stands at an index by its slot
  pub entry_of_none : (es : List (Slot T)) {room : Room} {g : ℕ} (head : Option ℕ) {c : Content T}
      {o : Option (Slot T)} {i j : ℕ}
      → content_of es room g head ≡ c → o ≡ None → o ≡ slice_get es (i - 1) → i ≡ j
      → entry_at c j ≡ None
  entry_of_none es head {j} seen none read same =
      no_entry es head j seen (subst (λ x. slice_get es (x - 1) ≡ None) same (sym read ∙ none))

  pub entry_of_some : (es : List (Slot T)) {room : Room} {g : ℕ} (head : Option ℕ) {c : Content T}
      {o : Option (Slot T)} {slot : Slot T} {i j : ℕ}
      → content_of es room g head ≡ c → o ≡ Some slot → o ≡ slice_get es (i - 1) → 0 < i → i ≡ j
      → entry_at c j ≡ entry_of slot
  entry_of_some es head {c} seen some read positive same =
      ap (entry_at c) (sym same) ∙ entry_of_slot es head seen positive (sym read ∙ some)

  pub entry_some : (s : Slot T) → IsSome (value_of s) → IsSome (entry_of s)
  entry_some (free prev next) some = some
  entry_some (used g t) some = refl
