-- What an insertion leaves, and a growth before it.
use Rattle.std.specs.Prelude.{nat_lt}
use Rattle.std.proofs.Common.{Bool, true, false, if◌then◌else◌, ◌≡◌, ◌≢◌, ℕ, zero, suc, ◌+◌, ◌-◌}
use Rattle.std.proofs.Common.{◌*◌, ◌<◌, ◌≤◌, List, [], ◌∷◌, ◌++◌, length, drop, max, get_or, set}
use Rattle.std.proofs.Common.{cond, Option, Some, None, is_some, inl, inr, refl, sym, ap, ◌∙◌}
use Rattle.std.proofs.Common.{arith}
use Rattle.std.proofs.lemmas.Bool.{eq-eqb, ne_eqb}
use Rattle.std.proofs.lemmas.Bool.Decides.{eqb_tells}
use Rattle.std.proofs.lemmas.List.{length-set, length_push}
use Rattle.std.proofs.lemmas.List.Sums.{sum_by-set, sum_by_push}
use Rattle.std.proofs.Math.Seq.{get_or-append_seam}
use Rattle.triple_arena_stack.specs.Room.{Room, within, capacity, grown, room_after}
use Rattle.triple_arena.specs.Entries.{with_entry}
use Rattle.triple_arena.specs.Content.{Content, entry_at, live_count, arena_capacity, next_index}
use Rattle.triple_arena.specs.Content.{inserted, in_room, grown_if_full, AllVacant, IsWellFormed}
use Rattle.triple_arena.specs.ContentLaws.{entry_at_slot, entry-set, entry-same_slots, vacant-kept}
use Rattle.triple_arena.specs.ContentLaws.{vacant-others}

-- the room that a growth leaves is no smaller
capacity-grown : (limit : Option ℕ) (n : ℕ)
    → within limit n ≤ within limit (within limit (max 4 (2 * n)))
capacity-grown None n = omega arith
capacity-grown (Some limit) n = omega arith

pub capacity-room_after : (live : ℕ) (r : Room) → capacity r ≤ capacity (room_after live r)
capacity-room_after live r = by_test (nat_lt live (capacity r))
  where
    by_test : (fits : Bool) → capacity r ≤ capacity (if fits then r else grown r)
    by_test true = omega arith
    by_test false = capacity-grown r.limit r.reserved

module _ {T : Type 0} where
  -- the first of the free indexes is vacant, and the index past the slots too
  pub next-vacant : (c : Content T) → IsWellFormed c → entry_at c (next_index c) ≡ None
  next-vacant c formed = by_list c.free refl formed.free
    where
      past : (xs : List (Option (ℕ × T))) → get_or xs (length xs) None ≡ None
      past [] = refl
      past (x ∷ xs) = past xs

      by_list : (l : List ℕ) → c.free ≡ l → AllVacant c l → entry_at c (next_index c) ≡ None
      by_list [] e all =
          let positive : 0 < length c.slots + 1 = omega arith in
          let back : length c.slots + 1 - 1 ≡ length c.slots = omega arith in
          rw e (entry_at_slot c (length c.slots + 1) positive ∙ ap
          (λ n. get_or c.slots n None) back ∙ past c.slots)
      by_list (i ∷ rest) e all = rw e all.0.vacant

  push_other : (xs : List (Option (ℕ × T))) (o : Option (ℕ × T)) (k : ℕ) → k ≢ length xs
      → get_or (xs ++ o ∷ []) k None ≡ get_or xs k None
  push_other [] o zero differs = absurd (differs refl)
  push_other [] o (suc k) differs = refl
  push_other (x ∷ xs) o zero differs = refl
  push_other (x ∷ xs) o (suc k) differs = push_other xs o k (λ e. differs (omega (arith, e)))

  -- an insertion puts the entry at the next index
  pub entry-inserted : (c : Content T) (t : T) → IsWellFormed c → (j : ℕ)
      → entry_at (inserted c t) j ≡ with_entry (entry_at c) (next_index c) (c.counter, t) j
  entry-inserted c t formed j = by_list c.free refl formed.free
    where
      behind : (j : ℕ) (d : Content T) → d.slots ≡ c.slots ++ Some (c.counter, t) ∷ []
          → entry_at d j ≡ with_entry (entry_at c) (length c.slots + 1) (c.counter, t) j
      behind zero d grown = rw (ne_eqb 0 (length c.slots + 1) (λ e. omega arith)) refl
      behind (suc k) d grown =
          elim (eqb_tells k (length c.slots)) [
            | inl same ↦ rw (grown, eq-eqb (suc k) (length c.slots + 1) (omega (arith, same.1))) (ap
                (λ n. get_or (c.slots ++ Some (c.counter, t) ∷ []) n None) same.1 ∙
                get_or-append_seam c.slots (Some (c.counter, t)) [] None)
            | inr other ↦ rw (
              grown,
              ne_eqb (suc k) (length c.slots + 1) (λ e. other.1 (omega (arith, e))),
            ) (push_other c.slots (Some (c.counter, t)) k other.1)
          ]

      by_list : (l : List ℕ) → c.free ≡ l → AllVacant c l
          → entry_at (inserted c t) j ≡ with_entry (entry_at c) (next_index c) (c.counter, t) j
      by_list [] e all = rw e
          (behind j (record c { slots = c.slots ++ Some (c.counter, t) ∷ [] }) refl)
      by_list (i ∷ rest) e all =
          let first = all.0 in
          rw e (entry-set c (record c {
            slots = set c.slots (i - 1) (Some (c.counter, t));
            free = rest;
          }) i j (Some (c.counter, t)) first.positive
          (omega (arith, first.positive, first.within)) refl)

  -- an insertion adds one to what is live
  pub live-inserted : (c : Content T) (t : T) → IsWellFormed c
      → live_count (inserted c t) ≡ live_count c + 1
  live-inserted c t formed = by_list c.free refl formed.free
    where
      by_list : (l : List ℕ) → c.free ≡ l → AllVacant c l
          → live_count (inserted c t) ≡ live_count c + 1
      by_list [] e all = rw e
          (sum_by_push (λ o. cond (is_some o) 1 0) c.slots (Some (c.counter, t)))
      by_list (i ∷ rest) e all =
          let first = all.0 in
          let within : i - 1 < length c.slots = omega (arith, first.positive, first.within) in
          let empty : get_or c.slots (i - 1) None ≡ None =
          sym (entry_at_slot c i first.positive) ∙ first.vacant in
          let counted = rw empty at
          (sum_by-set (λ o. cond (is_some o) 1 0) c.slots (i - 1)
          (Some (c.counter, t)) None within) in
          rw e (omega (arith, counted))

  -- an insertion keeps the room
  pub room-inserted : (c : Content T) (t : T) → (inserted c t).room ≡ c.room
  room-inserted c t = by_list c.free refl
    where
      by_list : (l : List ℕ) → c.free ≡ l → (inserted c t).room ≡ c.room
      by_list [] e = rw e refl
      by_list (i ∷ rest) e = rw e refl

  -- an insertion keeps the counter
  pub counter-inserted : (c : Content T) (t : T) → (inserted c t).counter ≡ c.counter
  counter-inserted c t = by_list c.free refl
    where
      by_list : (l : List ℕ) → c.free ≡ l → (inserted c t).counter ≡ c.counter
      by_list [] e = rw e refl
      by_list (i ∷ rest) e = rw e refl

  -- an insertion takes the first of the free indexes
  pub free-inserted : (c : Content T) (t : T) → (inserted c t).free ≡ drop 1 c.free
  free-inserted c t = by_list c.free refl
    where
      by_list : (l : List ℕ) → c.free ≡ l → (inserted c t).free ≡ drop 1 c.free
      by_list [] e = rw e refl
      by_list (i ∷ rest) e = rw e refl

  -- the slots reach to the index of the entry then
  pub slots-inserted : (c : Content T) (t : T) → IsWellFormed c
      → length (inserted c t).slots ≡ max (length c.slots) (next_index c)
  slots-inserted c t formed = by_list c.free refl formed.free
    where
      by_list : (l : List ℕ) → c.free ≡ l → AllVacant c l
          → length (inserted c t).slots ≡ max (length c.slots) (next_index c)
      by_list [] e all = let longer =
          length_push c.slots (Some (c.counter, t)) in rw e (omega (arith, longer))
      by_list (i ∷ rest) e all =
          let same = length-set c.slots (i - 1) (Some (c.counter, t)) in
          rw e (omega (arith, same, all.0.within))

  -- an insertion with room keeps a content well-formed
  pub formed-inserted : (c : Content T) (t : T) → IsWellFormed c → live_count c < arena_capacity c
      → IsWellFormed (inserted c t)
  formed-inserted c t formed room = by_list c.free refl formed.free
    where
      by_list : (l : List ℕ) → c.free ≡ l → AllVacant c l → IsWellFormed (inserted c t)
      by_list [] e all =
          let counted = formed.counted in
          let none = ap length e in
          let more = sum_by_push (λ o. cond (is_some o) 1 0) c.slots (Some (c.counter, t)) in
          let longer = length_push c.slots (Some (c.counter, t)) in
          rw e (record {
            free = tt;
            counted = omega (arith, counted, none, more, longer);
            fits = omega (arith, counted, none, longer, room);
          })
      by_list (i ∷ rest) e all =
          let new : Content T =
          record c { slots = set c.slots (i - 1) (Some (c.counter, t)); free = rest } in
          let first = all.0 in
          let within : i - 1 < length c.slots = omega (arith, first.positive, first.within) in
          let same = length-set c.slots (i - 1) (Some (c.counter, t)) in
          let empty : get_or c.slots (i - 1) None ≡ None =
          sym (entry_at_slot c i first.positive) ∙ first.vacant in
          let more = rw empty at
          (sum_by-set (λ o. cond (is_some o) 1 0) c.slots (i - 1)
          (Some (c.counter, t)) None within) in
          let listed = ap length e in
          let counted = formed.counted in
          let fits = formed.fits in
          let others : (j : ℕ) → j ≢ i → entry_at c j ≡ None → entry_at new j ≡ None =
          λ j differs none. entry-set c new i j (Some (c.counter, t)) first.positive within refl ∙
          rw (ne_eqb j i differs) none in
          rw e (record {
            free = vacant-others c new i (λ j differs h. omega (arith, same, h)) others rest
                all.1.0 all.1.1;
            counted = omega (arith, counted, listed, more, same);
            fits = omega (arith, fits, same);
          })

  -- greater room keeps a content well formed
  pub formed-in_room : (c : Content T) (r : Room) → arena_capacity c ≤ capacity r → IsWellFormed c
      → IsWellFormed (in_room c r)
  formed-in_room c r more formed =
      record {
        free = vacant-kept c (in_room c r) (omega arith) (λ j none. none) c.free formed.free;
        counted = formed.counted;
        fits = omega (arith, formed.fits, more);
      }

  pub formed-grown : (c : Content T) → IsWellFormed c → IsWellFormed (grown_if_full c)
  formed-grown c formed = formed-in_room c (room_after (live_count c) c.room)
      (capacity-room_after (live_count c) c.room) formed

  -- and it changes nothing else
  pub entry-in_room : (c : Content T) (r : Room) (j : ℕ) → entry_at (in_room c r) j ≡ entry_at c j
  entry-in_room c r j = entry-same_slots (in_room c r) c refl j

-- what a growth changes and keeps: the rest is kept by computation
pub ruleset growths = (formed-grown, formed-in_room, entry-in_room, capacity-room_after)

-- what an insertion changes and keeps
pub ruleset insertions
    = (
      formed-inserted,
      entry-inserted,
      live-inserted,
      slots-inserted,
      counter-inserted,
      free-inserted,
      room-inserted,
    )
