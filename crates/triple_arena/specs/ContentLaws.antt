-- The entries of a content by their slots, what carries the free indexes over from one content to
-- another, and what a write of a value changes and keeps.
use Rattle.std.proofs.Common.{◌≡◌, ◌≢◌, ◌==◌, if◌then◌else◌, ℕ, zero, suc, ◌+◌, ◌-◌, ◌<◌, ◌≤◌, List}
use Rattle.std.proofs.Common.{[], ◌∷◌, length, get_or, set, cond, Option, Some, None, IsSome}
use Rattle.std.proofs.Common.{is_some, true≢false, inl, inr, refl, sym, ap, subst, ◌∙◌, arith}
use Rattle.std.proofs.lemmas.Bool.{eq-eqb, ne_eqb}
use Rattle.std.proofs.lemmas.Bool.Decides.{eqb_tells}
use Rattle.std.proofs.lemmas.List.{get_or-set_same, get_or-set_other, length-set}
use Rattle.std.proofs.lemmas.List.Sums.{sum_by-set}
use Rattle.std.specs.Option.{option_map}
use Rattle.triple_arena.specs.Entries.{generation_at, value_if, with_value_at}
use Rattle.triple_arena_stack.specs.Room.{capacity}
use Rattle.linked_lists.specs.LinkedLists.{Off}
use Rattle.triple_arena.specs.Content.{Content, entry_at, live_count, arena_capacity, next_index}
use Rattle.triple_arena.specs.Content.{with_value, AllVacant, IsWellFormed}

module _ {T : Type 0} where
  -- the entry at an index from 1 on
  pub entry_at_slot : (c : Content T) (i : ℕ) → 0 < i → entry_at c i ≡ get_or c.slots (i - 1) None
  entry_at_slot c zero positive = absurd (omega arith)
  entry_at_slot c (suc k) positive =
      let back : k ≡ suc k - 1 = omega arith in
      ap (λ n. get_or c.slots n None) back

  pub within_slots : (xs : List (Option (ℕ × T))) (k : ℕ) (e : ℕ × T) → get_or xs k None ≡ Some e
      → k < length xs
  within_slots [] k e found = absurd (cc)
  within_slots (x ∷ xs) zero e found = omega arith
  within_slots (x ∷ xs) (suc k) e found = let h = within_slots xs k e found in omega arith

  -- what is live has a value under its generation
  pub live_value : (entries : ℕ → Option (ℕ × T)) (i g : ℕ) → generation_at entries i ≡ Some g
      → None ≡ value_if g (entries i) → ⊥
  live_value entries i g live none = by_entry (entries i) live none
    where
      by_entry : (o : Option (ℕ × T)) → option_map (λ (e : ℕ × T). e.0) o ≡ Some g
          → None ≡ value_if g o → ⊥
      by_entry None live none = absurd (cc)
      by_entry (Some e) live none =
          let same : e.0 ≡ g = cc in
          let found : value_if g (Some e) ≡ Some e.1 = rw (eq-eqb e.0 g same) refl in
          true≢false (ap is_some (sym (none ∙ found)))

  -- the entry that a pointer finds
  pub entry_seen : (g : ℕ) (o : Option (ℕ × T)) (t : T) → value_if g o ≡ Some t → o ≡ Some (g, t)
  entry_seen g None t found = absurd (cc)
  entry_seen g (Some e) t found =
      elim (eqb_tells e.0 g) [
        | inl same ↦
            let is : Some e.1 ≡ Some t = rw same.0 at found in
            let value : e.1 ≡ t = cc in
            ap (λ x. Some (x, e.1)) same.1 ∙ ap (λ x. Some (g, x)) value
        | inr other ↦ absurd (let none : None ≡ Some t = rw other.0 at found in cc)
      ]

  -- a live index is one of the slots
  pub record Live (c : Content T) (i : ℕ) : Type 0 where
    pub entry : ℕ × T
    pub is : entry_at c i ≡ Some entry
    pub positive : 0 < i
    pub within : i - 1 < length c.slots
    pub read : get_or c.slots (i - 1) None ≡ Some entry

  pub live_entry : (c : Content T) (i : ℕ) → IsSome (entry_at c i) → Live c i
  live_entry c i some = by_entry (entry_at c i) refl some
    where
      by_entry : (o : Option (ℕ × T)) → entry_at c i ≡ o → IsSome o → Live c i
      by_entry None e some = absurd (true≢false (sym some))
      by_entry (Some x) e some =
          elim (eqb_tells i 0) [
            | inl none ↦ absurd (let read : entry_at c 0 ≡ Some x =
                subst (λ n. entry_at c n ≡ Some x) none.1 e in cc)
            | inr other ↦
                let positive : 0 < i = omega (arith, other.1) in
                let read = sym (entry_at_slot c i positive) ∙ e in
                record {
                  entry = x;
                  is = e;
                  positive = positive;
                  within = within_slots c.slots (i - 1) x read;
                  read = read;
                }
          ]

  -- a write of the slot at an index from 1 on
  pub entry-set : (c c' : Content T) (i j : ℕ) (o : Option (ℕ × T)) → 0 < i → i - 1 < length c.slots
      → c'.slots ≡ set c.slots (i - 1) o
      → entry_at c' j ≡ (if j == i then o else entry_at c j)
  entry-set c c' i zero o positive within written = rw (ne_eqb 0 i (λ e. omega arith)) refl
  entry-set c c' i (suc k) o positive within written =
      elim (eqb_tells (suc k) i) [
        | inl same ↦
            let at : k ≡ i - 1 = omega (arith, same.1) in
            rw (same.0, written, at) (get_or-set_same c.slots (i - 1) o None within)
        | inr other ↦
            let differs : k ≢ i - 1 = λ e. other.1 (omega (arith, e)) in
            rw (other.0, written) (get_or-set_other c.slots (i - 1) k o None differs)
      ]

  -- the entries are those of the slots
  pub entry-same_slots : (c d : Content T) → c.slots ≡ d.slots → (j : ℕ)
      → entry_at c j ≡ entry_at d j
  entry-same_slots c d same zero = refl
  entry-same_slots c d same (suc k) = ap (λ xs. get_or xs k None) same

  -- contents without slots have no entries
  pub entry-no_slots : (c : Content T) → c.slots ≡ [] → (j : ℕ) → entry_at c j ≡ None
  entry-no_slots c none zero = refl
  entry-no_slots c none (suc k) = rw none refl

  -- each live index is within the capacity
  pub live-within : (c : Content T) → IsWellFormed c → (j : ℕ) → IsSome (entry_at c j)
      → j ≤ arena_capacity c
  live-within c formed j some =
      let l = live_entry c j some in
      omega (arith, l.positive, l.within, formed.fits)

  -- a live index is not a free one
  pub live-off : (c : Content T) (i : ℕ) → IsSome (entry_at c i) → (l : List ℕ)
      → AllVacant c l → Off l i
  live-off c i some [] all = tt
  live-off c i some (j ∷ l) all =
      let differs : j ≢ i =
      λ same. let none : entry_at c i ≡ None = subst (λ n. entry_at c n ≡ None) same all.0.vacant in
      absurd (true≢false (sym (subst IsSome none some))) in
      (differs, live-off c i some l all.1.1)

  -- free indexes stay free where the slots are no fewer and no entry comes
  pub vacant-kept : (c d : Content T) → length c.slots ≤ length d.slots
      → ((j : ℕ) → entry_at c j ≡ None → entry_at d j ≡ None) → (l : List ℕ)
      → AllVacant c l → AllVacant d l
  vacant-kept c d more none [] all = tt
  vacant-kept c d more none (j ∷ l) all =
      let first = all.0 in (
        record {
          positive = first.positive;
          within = omega (arith, more, first.within);
          vacant = none j first.vacant;
        },
        (all.1.0, vacant-kept c d more none l all.1.1),
      )

  -- the same of all indexes but one, which is none of them
  pub vacant-others : (c d : Content T) (i : ℕ)
      → ((j : ℕ) → j ≢ i → j ≤ length c.slots → j ≤ length d.slots)
      → ((j : ℕ) → j ≢ i → entry_at c j ≡ None → entry_at d j ≡ None)
      → (l : List ℕ) → Off l i → AllVacant c l → AllVacant d l
  vacant-others c d i within none [] off all = tt
  vacant-others c d i within none (j ∷ l) off all =
      let first = all.0 in (
        record {
          positive = first.positive;
          within = within j off.0 first.within;
          vacant = none j off.0 first.vacant;
        },
        (all.1.0, vacant-others c d i within none l off.1 all.1.1),
      )

  -- a write of a value changes the entry at its index alone
  pub entry-with_value : (c : Content T) (i : ℕ) (t : T) (j : ℕ)
      → entry_at (with_value c i t) j ≡ with_value_at (entry_at c) i t j
  entry-with_value c i t j = by_entry (entry_at c i) refl
    where
      by_entry : (o : Option (ℕ × T)) → entry_at c i ≡ o
          → entry_at (with_value c i t) j ≡ with_value_at (entry_at c) i t j
      by_entry None e =
          elim (eqb_tells j i) [
            | inl same ↦ rw (same.0, e) (ap (entry_at c) same.1 ∙ e)
            | inr other ↦ rw (other.0, e) refl
          ]
      by_entry (Some x) e =
          let some : IsSome (entry_at c i) = rw e refl in
          let l = live_entry c i some in
          rw e (entry-set c (record c { slots = set c.slots (i - 1) (Some (x.0, t)) }) i j
          (Some (x.0, t)) l.positive l.within refl)

  -- a write of a value changes the slots alone, and keeps their number and how many are live
  slots-changed : (c : Content T) (i : ℕ) (t : T)
      → with_value c i t ≡ record c { slots = (with_value c i t).slots }
  slots-changed c i t = by_entry (entry_at c i) refl
    where
      by_entry : (o : Option (ℕ × T)) → entry_at c i ≡ o
          → with_value c i t ≡ record c { slots = (with_value c i t).slots }
      by_entry None e = rw e refl
      by_entry (Some x) e = rw e refl

  pub counter-with_value : (c : Content T) (i : ℕ) (t : T) → (with_value c i t).counter ≡ c.counter
  counter-with_value c i t = ap (λ d. d.counter) (slots-changed c i t)

  pub some_counter-with_value : (c : Content T) (i : ℕ) (t : T)
      → Some (with_value c i t).counter ≡ Some c.counter
  some_counter-with_value c i t = ap Some (counter-with_value c i t)

  pub room-with_value : (c : Content T) (i : ℕ) (t : T) → (with_value c i t).room ≡ c.room
  room-with_value c i t = ap (λ d. d.room) (slots-changed c i t)

  pub free-with_value : (c : Content T) (i : ℕ) (t : T) → (with_value c i t).free ≡ c.free
  free-with_value c i t = ap (λ d. d.free) (slots-changed c i t)

  pub slots-with_value : (c : Content T) (i : ℕ) (t : T)
      → length (with_value c i t).slots ≡ length c.slots
  slots-with_value c i t = by_entry (entry_at c i) refl
    where
      by_entry : (o : Option (ℕ × T)) → entry_at c i ≡ o
          → length (with_value c i t).slots ≡ length c.slots
      by_entry None e = rw e refl
      by_entry (Some x) e = rw e (length-set c.slots (i - 1) (Some (x.0, t)))

  -- the next index is still free
  pub next-with_value : (c : Content T) (i : ℕ) (t : T)
      → next_index (with_value c i t) ≡ next_index c
  next-with_value c i t = by_entry (entry_at c i) refl
    where
      by_entry : (o : Option (ℕ × T)) → entry_at c i ≡ o
          → next_index (with_value c i t) ≡ next_index c
      by_entry None e = rw e refl
      by_entry (Some x) e = rw e (first_free c.free)
        where
          first_free : (l : List ℕ)
              → next_index (record c { slots = set c.slots (i - 1) (Some (x.0, t)); free = l })
              ≡ next_index (record c { free = l })
          first_free [] = ap (λ n. n + 1) (length-set c.slots (i - 1) (Some (x.0, t)))
          first_free (j ∷ l) = refl

  pub live-with_value : (c : Content T) (i : ℕ) (t : T)
      → live_count (with_value c i t) ≡ live_count c
  live-with_value c i t = by_entry (entry_at c i) refl
    where
      by_entry : (o : Option (ℕ × T)) → entry_at c i ≡ o
          → live_count (with_value c i t) ≡ live_count c
      by_entry None e = rw e refl
      by_entry (Some x) e =
          let some : IsSome (entry_at c i) = rw e refl in
          let l = live_entry c i some in
          let counted = rw l.read at
          (sum_by-set (λ o. cond (is_some o) 1 0) c.slots (i - 1)
          (Some (x.0, t)) None l.within) in
          rw e (omega (arith, counted))

  none-with_value : (c : Content T) (i : ℕ) (t : T) (j : ℕ) → entry_at c j ≡ None
      → entry_at (with_value c i t) j ≡ None
  none-with_value c i t j none =
      entry-with_value c i t j
      ∙ elim (eqb_tells j i) [
        | inl same ↦ let at : entry_at c i ≡ None =
            subst (λ n. entry_at c n ≡ None) same.1 none in rw (same.0, at) refl
        | inr other ↦ rw other.0 none
      ]

  -- a write of a value keeps a content well-formed
  pub formed-with_value : (c : Content T) (i : ℕ) (t : T) → IsWellFormed c
      → IsWellFormed (with_value c i t)
  formed-with_value c i t formed =
      let slots = slots-with_value c i t in
      let live = live-with_value c i t in
      let free = free-with_value c i t in
      let lists = ap length free in
      let room = ap capacity (room-with_value c i t) in
      let counted = formed.counted in
      let fits = formed.fits in
      record {
        free = rw free (vacant-kept c (with_value c i t) (omega (arith, slots))
            (none-with_value c i t) c.free formed.free);
        counted = omega (arith, slots, live, lists, counted);
        fits = omega (arith, slots, room, fits);
      }

-- what a write of a value changes and what it keeps
pub ruleset writes = (
  formed-with_value,
  entry-with_value,
  next-with_value,
  live-with_value,
  slots-with_value,
  counter-with_value,
  free-with_value,
  room-with_value,
)
