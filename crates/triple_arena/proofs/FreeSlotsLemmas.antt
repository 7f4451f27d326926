-- The list of free slots put in order, shown, and without the slots at the end.
use Rattle.std.proofs.Common.{◌≡◌, ◌≢◌, ◌==◌, if◌then◌else◌, ℕ, zero, suc, ◌+◌, ◌-◌, ◌<◌, ◌≤◌, List}
use Rattle.std.proofs.Common.{[], ◌∷◌, ◌++◌, map, length, get_or, set, take, drop, filter, cond}
use Rattle.std.proofs.Common.{Bool, true, false, true≢false, leb, ltb, IsSome, Option, Some, None}
use Rattle.std.proofs.Common.{slice_get, is_some, count_by, inl, inr, refl, sym, ap, subst, ◌∙◌}
use Rattle.std.proofs.Common.{arith, length-set, length-append, drop-cons}
use Rattle.std.proofs.Common.{get_or-take, length-take-le}
use Rattle.std.proofs.Math.Seq.{take-append_seam}
use Rattle.std.specs.Option.{option_map, option_to_list}
use Rattle.std.proofs.lemmas.Bool.{eq-eqb, ne_eqb, lt-ltb}
use Rattle.std.proofs.lemmas.Bool.Decides.{leb_tells, eqb_tells}
use Rattle.std.proofs.lemmas.List.{get_or-map, length-map, length_push, map_push}
use Rattle.std.proofs.lemmas.List.Sums.{sum_by_push}
use Rattle.std.proofs.lemmas.Option.{slice_get_within, get_or_from_slice_get}
use Rattle.triple_arena_stack.specs.Room.{Room, capacity}
use Rattle.linked_lists.specs.LinkedLists.{Ends, next_in, prev_in, first_or, IsSegment}
use Rattle.linked_lists.specs.LinkedLists.{IsLinear, Off, renext, reprev, with_next_if}
use Rattle.linked_lists.specs.LinkedLists.{with_prev_if}
use Rattle.linked_lists.specs.LinkedListLaws.{Below, off_or_on}
use Rattle.linked_lists.specs.UniquenessLaws.{linear_apart}
use Rattle.linked_lists.specs.Chains.{Linear}
use Rattle.linked_lists.specs.ChainLaws.{Apart-split, live_in, holds_next, holds_prev}
use Rattle.linked_lists.specs.JoinLaws.{alive-with_next_if}
use Rattle.linked_lists.specs.SegmentLaws.{prev_same, put_first, taken}
use Rattle.triple_arena.specs.FreeLinks.{neighbors}
use Rattle.triple_arena.specs.Slot.{Slot, free, used, entry_of, links_of, free_links, index_up_to}
use Rattle.triple_arena.specs.Slot.{value_of, with_links, with_prev, with_next}
use Rattle.triple_arena.specs.Layout.{links, content_of, links_at, head_after, without_last}
use Rattle.triple_arena.specs.Layout.{IsFreeList, IsSound}
use Rattle.triple_arena.specs.Content.{Content, entry_at, arena_capacity, last_index}
use Rattle.triple_arena.specs.Content.{without_free_end, vacant_from, canonicalized}
use Rattle.triple_arena.specs.Content.{IsVacant, AllVacant}
use Rattle.triple_arena.specs.ContentLaws.{entry_at_slot}
use Rattle.triple_arena.specs.Walk.{FindsAhead}
use Rattle.triple_arena.specs.FreeListLaws.{last_index-is, last_index-unique, vacant-counted}
use Rattle.triple_arena.specs.FreeListLaws.{vacant-off, vacant-fit}
use Rattle.triple_arena.proofs.FreeLinkLemmas.{below_greatest, neighbors_shown, listed_neighbors}
use Rattle.triple_arena.proofs.FreeLinkLemmas.{head_taken}
use Rattle.triple_arena.proofs.FreeListLemmas.{first_free, Becomes, free_at, links_of_slot}
use Rattle.triple_arena.proofs.FreeListLemmas.{links-set, links-push, list_set}
use Rattle.triple_arena.proofs.FreeListLemmas.{entry_of_slot, sound_of, formed}
use Rattle.triple_arena.proofs.WalkLemmas.{none_past}

-- what passes one test passes another
filter_inside : (p q : ℕ → Bool) → ((j : ℕ) → p j ≡ true → q j ≡ true) → (l : List ℕ)
    → filter p (filter q l) ≡ filter p l
filter_inside p q each [] = refl
filter_inside p q each (i ∷ l) = by_test (p i) refl (q i) refl (filter_inside p q each l)
  where
    by_test : (b : Bool) → p i ≡ b → (b' : Bool) → q i ≡ b' → filter p (filter q l) ≡ filter p l
        → filter p (filter q (i ∷ l)) ≡ filter p (i ∷ l)
    by_test true passes true also rest = rw (also, passes) (ap (λ m. i ∷ m) rest)
    by_test true passes false fails rest = absurd (true≢false (sym (each i passes) ∙ fails))
    by_test false fails true also rest = rw (also, fails) rest
    by_test false fails false also rest = rw (also, fails) rest

-- where there is no index nothing is written
pub no_prev : (e : ℕ → Option Ends) (at prev : Option ℕ) → at ≡ None → (j : ℕ)
    → e j ≡ with_prev_if e at prev j
no_prev e at prev none j = rw none refl

pub no_next : (e : ℕ → Option Ends) (at next : Option ℕ) → at ≡ None → (j : ℕ)
    → e j ≡ with_next_if e at next j
no_next e at next none j = rw none refl

module _ {T : Type 0} where
  -- other links leave the entry as it is
  entry-with_prev : (x : Slot T) (prev : Option ℕ) → entry_of (with_prev x prev) ≡ entry_of x
  entry-with_prev (free p n) prev = refl
  entry-with_prev (used g t) prev = refl

  entry-with_next : (x : Slot T) (next : Option ℕ) → entry_of (with_next x next) ≡ entry_of x
  entry-with_next (free p n) next = refl
  entry-with_next (used g t) next = refl

  links-with_prev : (x : Slot T) (prev : Option ℕ)
      → links_of (with_prev x prev) ≡ reprev prev (links_of x)
  links-with_prev (free p n) prev = refl
  links-with_prev (used g t) prev = refl

  links-with_next : (x : Slot T) (next : Option ℕ)
      → links_of (with_next x next) ≡ renext next (links_of x)
  links-with_next (free p n) next = refl
  links-with_next (used g t) next = refl

  entries_kept : (es : List (Slot T)) (k : ℕ) (x y : Slot T) → slice_get es k ≡ Some x
      → entry_of y ≡ entry_of x → map entry_of (set es k y) ≡ map entry_of es
  entries_kept [] k x y found same = absurd (cc)
  entries_kept (z ∷ es) zero x y found same =
      let is : z ≡ x = cc in
      ap (λ e. e ∷ map entry_of es) (same ∙ ap entry_of (sym is))
  entries_kept (z ∷ es) (suc k) x y found same =
      ap (λ l. entry_of z ∷ l) (entries_kept es k x y found same)

  -- what a write of one link of a slot changes and keeps
  pub prev_written : (es : List (Slot T)) {es' : List (Slot T)} {i : ℕ} {at : Option ℕ}
      (prev : Option ℕ) {x y : Slot T} → at ≡ Some i → 0 < i → Some x ≡ slice_get es (i - 1)
      → y ≡ with_prev x prev → es' ≡ set es (i - 1) y → (j : ℕ)
      → links_at es' j ≡ with_prev_if (links_at es) at prev j
  prev_written es {es'} {i} {at} prev {x} {y} is positive found changed written j =
      let within = slice_get_within es (i - 1) x (sym found) in
      ap (λ xs. links_at xs j) written
      ∙ links-set es i y positive within j
      ∙ rw is (elim (eqb_tells j i) [
        | inl same ↦
            rw same.0 (ap links_of changed ∙ links-with_prev x prev
            ∙ ap (reprev prev) (sym
            (ap (links_at es) same.1 ∙ links_of_slot es i x positive (sym found))))
        | inr other ↦ rw other.0 refl
      ])

  pub next_written : (es : List (Slot T)) {es' : List (Slot T)} {i : ℕ} {at : Option ℕ}
      (next : Option ℕ) {x y : Slot T} → at ≡ Some i → 0 < i → Some x ≡ slice_get es (i - 1)
      → y ≡ with_next x next → es' ≡ set es (i - 1) y → (j : ℕ)
      → links_at es' j ≡ with_next_if (links_at es) at next j
  next_written es {es'} {i} {at} next {x} {y} is positive found changed written j =
      let within = slice_get_within es (i - 1) x (sym found) in
      ap (λ xs. links_at xs j) written
      ∙ links-set es i y positive within j
      ∙ rw is (elim (eqb_tells j i) [
        | inl same ↦
            rw same.0 (ap links_of changed ∙ links-with_next x next
            ∙ ap (renext next) (sym
            (ap (links_at es) same.1 ∙ links_of_slot es i x positive (sym found))))
        | inr other ↦ rw other.0 refl
      ])

  pub entries-prev : (es : List (Slot T)) {es' : List (Slot T)} (i : ℕ) {x y : Slot T}
      (prev : Option ℕ) → Some x ≡ slice_get es (i - 1) → y ≡ with_prev x prev
      → es' ≡ set es (i - 1) y → map entry_of es' ≡ map entry_of es
  entries-prev es i {x} {y} prev found changed written =
      ap (map entry_of) written
      ∙ entries_kept es (i - 1) x y (sym found) (ap entry_of changed ∙ entry-with_prev x prev)

  pub entries-next : (es : List (Slot T)) {es' : List (Slot T)} (i : ℕ) {x y : Slot T}
      (next : Option ℕ) → Some x ≡ slice_get es (i - 1) → y ≡ with_next x next
      → es' ≡ set es (i - 1) y → map entry_of es' ≡ map entry_of es
  entries-next es i {x} {y} next found changed written =
      ap (map entry_of) written
      ∙ entries_kept es (i - 1) x y (sym found) (ap entry_of changed ∙ entry-with_next x next)

  entry_there : (old es : List (Slot T)) (k : ℕ) (x : Slot T) → map entry_of es ≡ map entry_of old
      → slice_get es k ≡ Some x
      → get_or (map entry_of old) k None ≡ entry_of x
  entry_there old es k x same found =
      ap (λ l. get_or l k None) (sym same)
      ∙ get_or-map entry_of es k x None (slice_get_within es k x found)
      ∙ ap entry_of (get_or_from_slice_get es k x x found)

  -- the free slots past the first `left` slots are linked by rising index
  pub record Risen (old es : List (Slot T)) (head : Option ℕ) (left : ℕ) : Type 0 where
    pub entries : map entry_of es ≡ map entry_of old
    pub within : left ≤ length es
    pub listed : IsFreeList es head (vacant_from (left + 1) (drop left (map entry_of old)))

  -- what is left is within what the slots are within
  pub risen_within : {old es : List (Slot T)} {head : Option ℕ} {left n : ℕ}
      → Risen old es head left → length old ≤ n → left ≤ n
  risen_within {old} {es} r fits =
      omega (
        arith,
        r.within,
        ap length r.entries,
        length-map es entry_of,
        length-map old entry_of,
        fits,
      )

  vacant_free : (xs : List (Option (ℕ × T))) (n left : ℕ) → left ≡ n + 1 → n < length xs
      → get_or xs n None ≡ None
      → vacant_from (n + 1) (drop n xs) ≡ left ∷ vacant_from (left + 1) (drop left xs)
  vacant_free xs n left at below none =
      let next : suc n ≡ left = omega (arith, at) in
      ap (vacant_from (n + 1)) (drop-cons xs n None below ∙ ap (λ o. o ∷ drop (suc n) xs) none)
      ∙ ap (λ k. (n + 1) ∷ vacant_from (n + 1 + 1) (drop k xs)) next
      ∙ ap (λ k. k ∷ vacant_from (k + 1) (drop left xs)) (sym at)

  vacant_used : (xs : List (Option (ℕ × T))) (n left : ℕ) (e : ℕ × T) → left ≡ n + 1 → n < length xs
      → get_or xs n None ≡ Some e
      → vacant_from (n + 1) (drop n xs) ≡ vacant_from (left + 1) (drop left xs)
  vacant_used xs n left e at below some =
      let next : suc n ≡ left = omega (arith, at) in
      ap (vacant_from (n + 1)) (drop-cons xs n None below ∙ ap (λ o. o ∷ drop (suc n) xs) some)
      ∙ ap (λ k. vacant_from (n + 1 + 1) (drop k xs)) next
      ∙ ap (λ k. vacant_from (k + 1) (drop left xs)) (sym at)

  -- the head is free, also after a write of the slot before them
  pub risen_first : {old es es1 : List (Slot T)} {head : Option ℕ} {left i : ℕ} {x : Slot T}
      (y : Slot T) → Risen old es head left → i ≡ left → 0 < i
      → Some x ≡ slice_get es (i - 1) → es1 ≡ set es (i - 1) y → (j : ℕ) → head ≡ Some j
      → IsSome (links_at es1 j)
  risen_first {old} {es} {head = head} {left} {i} {x} y r at positive found written j is =
      let off = vacant-off (left + 1) i (drop left (map entry_of old)) (omega (arith, at)) in
      subst (λ xs. IsSome (links_at xs j)) (sym written)
      (first_free es i y None _ positive (slice_get_within es (i - 1) x (sym found)) r.listed.stands
      off j (sym r.listed.first ∙ is))

  -- the slot before them is linked to them where it is free
  pub risen_free : {old es es1 es' : List (Slot T)} {head first head' : Option ℕ} {left i n : ℕ}
      {x : Slot T} → Risen old es head left → i ≡ left → 0 < i
      → Some x ≡ slice_get es (i - 1) → value_of x ≡ None
      → es1 ≡ set es (i - 1) (with_links x None head) → first ≡ Some i
      → ((j : ℕ) → links_at es' j ≡ with_prev_if (links_at es1) head first j)
      → map entry_of es' ≡ map entry_of es1 → head' ≡ first → n ≡ left - 1
      → Risen old es' head' n
  risen_free {x = used g t} r at positive found none written first linked entries next less =
      absurd (cc)
  risen_free {old} {es} {es1} {es'} {head} {first} {head'} {left} {i} {n} {x = free prev own} r at
      positive found none written is linked entries next less =
      let back : i - 1 ≡ n = omega (arith, at, less) in
      let one : left ≡ n + 1 = omega (arith, at, less, positive) in
      let there : slice_get es n ≡ Some (free prev own) = ap (slice_get es) (sym back)
      ∙ sym found in
      let below = slice_get_within es n (free prev own) there in
      let below_i : i - 1 < length es = omega (arith, below, back) in
      let counted = length-map es entry_of in
      let whole = ap length r.entries in
      let rest = vacant_from (left + 1) (drop left (map entry_of old)) in
      let off : Off rest i =
      vacant-off (left + 1) i (drop left (map entry_of old)) (omega (arith, at)) in
      let put : (k : ℕ) → links_at es1 k ≡ (if k == i then Some (None, head) else links_at es k) =
      λ k. ap (λ xs. links_at xs k) written ∙ links-set es i (free None head) positive below_i k in
      let stands = put_first (links_at es) (links_at es') (links_at es1) head i rest r.listed.stands
      r.listed.first off
      (put i ∙ rw (eq-eqb i i refl) refl) (λ k other. put k ∙ rw (ne_eqb k i other) refl)
      (λ k. linked k ∙ ap (λ o. with_prev_if (links_at es1) head o k) is) in
      let listed : vacant_from (n + 1) (drop n (map entry_of old)) ≡ i ∷ rest =
      vacant_free (map entry_of old) n left one (omega (arith, below, counted, whole))
      (entry_there old es n (free prev own) r.entries there)
      ∙ ap (λ k. k ∷ rest) (sym at) in
      let kept = entries ∙ ap (map entry_of) written
      ∙ entries_kept es (i - 1) (free prev own) (free None head) (sym found) refl ∙ r.entries in
      let sizes = ap length kept ∙ sym whole in
      let long = length-map es' entry_of in
      record {
        entries = kept;
        within = omega (arith, sizes, long, counted, below);
        listed = rw listed (record { first = next ∙ is; stands = stands });
      }

  -- and is passed where it is not
  pub risen_used : {old es es' : List (Slot T)} {head head' : Option ℕ} {left i n : ℕ} {x : Slot T}
      → Risen old es head left → i ≡ left → 0 < i
      → Some x ≡ slice_get es (i - 1) → (value_of x ≡ None → ⊥)
      → es' ≡ set es (i - 1) (with_links x None head) → head' ≡ head → n ≡ left - 1
      → Risen old es' head' n
  risen_used {x = free prev own} r at positive found some written kept less = absurd (some refl)
  risen_used {old} {es} {es'} {head} {head'} {left} {i} {n} {x = used g t} r at positive found some
      written kept less =
      let back : i - 1 ≡ n = omega (arith, at, less) in
      let one : left ≡ n + 1 = omega (arith, at, less, positive) in
      let there : slice_get es n ≡ Some (used g t) = ap (slice_get es) (sym back) ∙ sym found in
      let below = slice_get_within es n (used g t) there in
      let sizes = length-set es (i - 1) (used g t) in
      let counted = length-map es entry_of in
      let whole = ap length r.entries in
      let list : IsFreeList (set es (i - 1) (used g t)) head
      (vacant_from (left + 1) (drop left (map entry_of old))) =
      list_set es i g g t t head _ positive (sym found) r.listed in
      let listed = vacant_used (map entry_of old) n left (g, t) one
      (omega (arith, below, counted, whole))
      (entry_there old es n (used g t) r.entries there) in
      rw (written, kept)
      record {
        entries = entries_kept es (i - 1) (used g t) (used g t) (sym found) refl ∙ r.entries;
        within = omega (arith, sizes, below);
        listed = rw listed list;
      }

  -- the slots with this list are seen as the content whose free indexes rise
  pub ordered : {es es' : List (Slot T)} {len : ℕ} {head head' : Option ℕ} {room room' : Room}
      {g : ℕ} {c : Content T} → IsSound es len head room
      → content_of es room g head ≡ c → map entry_of es' ≡ map entry_of es
      → IsFreeList es' head' (vacant_from 1 (map entry_of es)) → room' ≡ room
      → Becomes es' len head' room' g (canonicalized c)
  ordered {es} {es'} {len} {head'} {room} sound seen same listed kept =
      let counted = sound.counted in
      let vacant = vacant-counted 1 (map entry_of es) in
      let sizes = length-map es entry_of in
      let sizes' = length-map es' entry_of in
      let whole = ap length same in
      let live = ap (count_by is_some) same in
      let fits = sound.fits in
      let s = sound_of es' len head' (vacant_from 1 (map entry_of es)) room (counted ∙ sym live)
      (omega (arith, counted, vacant, sizes, sizes', whole)) listed
      (omega (arith, fits, sizes, sizes', whole)) in
      rw kept
      record { sound = s.sound; content = rw (← seen, s.free_is, same) refl }

  -- the last live one of all slots is the last live index
  pub last_found : (c : Content T) {n i g : ℕ} → n ≡ length c.slots
      → FindsAhead (entry_at c) (record { low = 1; high = n; falls = true }) (Some (i, g))
      → last_index c ≡ i
  last_found c {n} {i} {g} all finds =
      last_index-unique c i (record {
        within = omega (arith, finds.ahead.1, all);
        past = λ j above. elim (leb_tells j n) [
          | inl inner ↦ finds.first j (omega (arith, above), inner.1) above
          | inr past ↦ none_past c j (omega (arith, all, past.1))
        ];
        live = λ positive. is_live (entry_at c i) finds.live;
      })
    where
      is_live : (o : Option (ℕ × T)) → option_map (λ (e : ℕ × T). e.0) o ≡ Some g → IsSome o
      is_live None live = absurd (cc)
      is_live (Some e) live = refl

  -- where none is found, there is none
  pub none_found : (c : Content T) {n : ℕ} → n ≡ length c.slots
      → FindsAhead (entry_at c) (record { low = 1; high = n; falls = true }) None → last_index c ≡ 0
  none_found c {n} all finds =
      last_index-unique c 0 (record {
        within = omega arith;
        past = λ j above. elim (leb_tells j n) [
          | inl inner ↦ finds j (omega (arith, above), inner.1)
          | inr past ↦ none_past c j (omega (arith, all, past.1))
        ];
        live = λ positive. absurd (omega (arith, positive));
      })

  -- a slot past all has no links
  links_past : (es : List (Slot T)) (k : ℕ) → length es ≤ k → get_or (map links_of es) k None ≡ None
  links_past [] k past = refl
  links_past (x ∷ es) zero past = absurd (omega (arith, past))
  links_past (x ∷ es) (suc k) past = links_past es k (omega (arith, past))

  links_at_past : (es : List (Slot T)) (j : ℕ) → length es < j → links_at es j ≡ None
  links_at_past es zero past = absurd (omega (arith, past))
  links_at_past es (suc k) past = links_past es k (omega (arith, past))

  pub links_of_none : (es : List (Slot T)) (i : ℕ) → slice_get es (i - 1) ≡ None
      → links_at es i ≡ None
  links_of_none es zero found = refl
  links_of_none es (suc k) found =
      let back : k ≡ suc k - 1 = omega arith in
      absent es k (ap (slice_get es) back ∙ found)
    where
      absent : (xs : List (Slot T)) (m : ℕ) → slice_get xs m ≡ None
          → get_or (map links_of xs) m None ≡ None
      absent [] m none = refl
      absent (x ∷ xs) zero none = absurd (cc)
      absent (x ∷ xs) (suc m) none = absent xs m none

  -- a free slot is a free index
  vacant_at : (es : List (Slot T)) {room : Room} {g : ℕ} (head : Option ℕ) {c : Content T} (i : ℕ)
      (v : Ends) → content_of es room g head ≡ c
      → links_at es i ≡ Some v → IsVacant c i
  vacant_at es {room} {g} head {c} i v seen at =
      let f = free_at es i v at in
      let sizes = ap (λ d. length d.slots) seen in
      let long = length-map es entry_of in
      record {
        positive = f.positive;
        within = omega (arith, f.within, sizes, long);
        vacant = entry_of_slot es head seen f.positive f.found;
      }

  -- each free slot is on the list
  pub each_listed : (es : List (Slot T)) (len : ℕ) (head : Option ℕ) (room : Room) (i : ℕ)
      (v : Ends) → IsSound es len head room → links_at es i ≡ Some v
      → Off (links es (length es) head) i → ⊥
  each_listed es len head room i v sound at off =
      let c = content_of es room 0 head in
      let f = formed sound refl in
      let vacant : IsVacant c i = vacant_at es head i v refl at in
      let all : AllVacant c (i ∷ c.free) = (vacant, (off, f.free)) in
      let fit = vacant-fit c (i ∷ c.free) 1 c.slots all (λ j w listed. (
        omega (arith, w.positive),
        (omega (arith, w.within), sym (entry_at_slot c j w.positive) ∙ w.vacant),
      )) in
      let counted = vacant-counted 1 c.slots in
      let sum = f.counted in
      omega (arith, fit, counted, sum)

  -- what a slot names as its neighbors are those of its index on the list of the free indexes
  pub shown_links : {es : List (Slot T)} {len : ℕ} {head : Option ℕ} {room : Room} {g : ℕ}
      {c : Content T} (greatest i : ℕ) (slot : Slot T)
      → IsSound es len head room → content_of es room g head ≡ c → arena_capacity c ≤ greatest
      → 0 < i → slice_get es (i - 1) ≡ Some slot
      → free_links greatest slot ≡ neighbors c.free i
  shown_links {es} {len} {head} {room} {c = c} greatest i slot sound seen fits positive found =
      let l = links es (length es) head in
      let free : c.free ≡ l = ap (λ d. d.free) (sym seen) in
      let f = formed sound seen in
      let room_is = ap (λ d. capacity d.room) seen in
      let up_to : (m : List ℕ) → AllVacant c m → Below (greatest + 1) m = all_up_to in
      let is : links_of slot ≡ neighbors l i =
      sym (links_of_slot es i slot positive found)
      ∙ listed_neighbors (links_at es) None l i sound.listed.stands
      (λ off. by_links (links_at es i) refl off) in
      ap (option_map (λ (v : Ends). (index_up_to greatest v.0, index_up_to greatest v.1))) is
      ∙ neighbors_shown greatest None l i (λ x none. absurd (cc))
      (subst (Below (greatest + 1)) free (up_to c.free f.free))
      ∙ ap (λ m. neighbors m i) (sym free)
    where
      all_up_to : (m : List ℕ) → AllVacant c m → Below (greatest + 1) m
      all_up_to [] all = tt
      all_up_to (x ∷ m) all =
          let fit = (formed sound seen).fits in
          (omega (arith, all.0.within, fit, fits), all_up_to m all.1.1)

      by_links : (o : Option Ends) → links_at es i ≡ o → Off (links es (length es) head) i
          → links_at es i ≡ None
      by_links None e off = e
      by_links (Some v) e off = absurd (each_listed es len head room i v sound e off)

  -- where the last slot is live, or there is none, the last index is live
  pub last_live : (es : List (Slot T)) {room : Room} {g : ℕ} (head : Option ℕ) {c : Content T}
      → content_of es room g head ≡ c
      → links_at es (length es) ≡ None → last_index c ≡ length c.slots
  last_live es {room} {g} head {c} seen none =
      let long = length-map es entry_of in
      let sizes = ap (λ d. length d.slots) seen in
      last_index-unique c (length c.slots) (record {
        within = omega arith;
        past = λ j above. none_past c j above;
        live = λ positive.
            let inner : length es - 1 < length es = omega (arith, positive, long, sizes) in
            let all : length c.slots ≡ length es = omega (arith, long, sizes) in
            let slot = there es (length es - 1) inner in
            let used = links_of_slot es (length es) slot.0 (omega (arith, inner)) slot.1 in
            subst (λ n. IsSome (entry_at c n)) (sym all)
            (rw (entry_of_slot es head seen (omega (arith, inner)) slot.1)
            (is_used slot.0 (sym used ∙ none)));
      })
    where
      there : (xs : List (Slot T)) (k : ℕ) → k < length xs
          → (x : Slot T) × (slice_get xs k ≡ Some x)
      there [] k below = absurd (omega (arith, below))
      there (x ∷ xs) zero below = (x, refl)
      there (x ∷ xs) (suc k) below = there xs k (omega (arith, below))

      is_used : (x : Slot T) → links_of x ≡ None → IsSome (entry_of x)
      is_used (free p n) none = absurd (cc)
      is_used (used g t) none = refl

  pub last_vacant : (es : List (Slot T)) {room : Room} {g : ℕ} (head : Option ℕ) {c : Content T}
      {n : ℕ} {v : Ends} → content_of es room g head ≡ c
      → n ≡ length es → Some v ≡ links_at es n → IsVacant c (length c.slots)
  last_vacant es head {c = c} {n} {v} seen all at =
      let long = length-map es entry_of in
      let sizes = ap (λ d. length d.slots) seen in
      let same : n ≡ length c.slots = omega (arith, all, long, sizes) in
      subst (IsVacant c) same (vacant_at es head n v seen (sym at))

  -- the neighbors of a free slot are free
  pub prev_free : {es : List (Slot T)} {len : ℕ} (n : ℕ) {head : Option ℕ} {room : Room} {v : Ends}
      → IsSound es len head room → Some v ≡ links_at es n
      → (j : ℕ) → v.0 ≡ Some j → IsSome (links_at es j)
  prev_free {es} {len} n {head} {room} {v} sound at j is =
      elim (off_or_on (links es (length es) head) n) [
        | inl off ↦ absurd (each_listed es len head room n v sound (sym at) off)
        | inr on ↦
            let l = links es (length es) head in
            let into = ap prev_in (sym at) ∙ is in
            live_in (links_at es) (Linear l) j sound.listed.stands
            (holds_prev (links_at es) (Linear l) n j sound.listed.stands on into)
      ]

  pub next_free : {es : List (Slot T)} (es1 : List (Slot T)) {len : ℕ} (n : ℕ) {head : Option ℕ}
      {room : Room} {v : Ends} → IsSound es len head room
      → Some v ≡ links_at es n → ((j : ℕ) → links_at es1 j ≡ with_next_if (links_at es) v.0 v.1 j)
      → (j : ℕ) → v.1 ≡ Some j → IsSome (links_at es1 j)
  next_free {es} es1 {len} n {head} {room} {v} sound at linked j is =
      elim (off_or_on (links es (length es) head) n) [
        | inl off ↦ absurd (each_listed es len head room n v sound (sym at) off)
        | inr on ↦
            let l = links es (length es) head in
            let out = ap next_in (sym at) ∙ is in
            let some = live_in (links_at es) (Linear l) j sound.listed.stands
            (holds_next (links_at es) (Linear l) n j sound.listed.stands on out) in
            subst IsSome (sym (linked j)) (alive-with_next_if (links_at es) v.0 v.1 j some)
      ]

  none_counts : (o : Option (ℕ × T)) → o ≡ None → cond (is_some o) 1 0 ≡ zero
  none_counts None none = refl
  none_counts (Some e) none = absurd (cc)

  -- there is a last slot, also after writes
  pub has_last : (es es1 es2 : List (Slot T)) {n : ℕ} → n ≡ length es → 0 < n
      → map entry_of es1 ≡ map entry_of es → map entry_of es2 ≡ map entry_of es1
      → 0 < length es2
  has_last es es1 es2 all positive one two =
      let longs = ap length (two ∙ one) in
      let here = length-map es entry_of in
      let there = length-map es2 entry_of in
      omega (arith, all, positive, longs, here, there)

  count_none : (xs : List (Option (ℕ × T))) (o : Option (ℕ × T)) → o ≡ None
      → count_by is_some (xs ++ o ∷ []) ≡ count_by is_some xs
  count_none xs o none =
      let sum = sum_by_push (λ x. cond (is_some x) 1 0) xs o in
      let zero_is = none_counts o none in
      omega (arith, sum, zero_is)

  end_of : (xs : List (Option (ℕ × T))) (o : Option (ℕ × T))
      → get_or (xs ++ o ∷ []) (length xs) None ≡ o
  end_of [] o = refl
  end_of (x ∷ xs) o = end_of xs o

  -- the last slot goes, which is free, and its neighbors are joined
  pub last_popped : {es : List (Slot T)} (es1 : List (Slot T)) {es2 es3 : List (Slot T)} {len n : ℕ}
      {head head' : Option ℕ} {room room' : Room} {g : ℕ} {c : Content T} {v : Ends}
      (x : Option (Slot T))
      → IsSound es len head room → content_of es room g head ≡ c → n ≡ length es
      → Some v ≡ links_at es n
      → ((j : ℕ) → links_at es1 j ≡ with_next_if (links_at es) v.0 v.1 j)
      → map entry_of es1 ≡ map entry_of es
      → ((j : ℕ) → links_at es2 j ≡ with_prev_if (links_at es1) v.1 v.0 j)
      → map entry_of es2 ≡ map entry_of es1
      → head' ≡ head_after head v.0 v.1 → IsSome x → es2 ≡ es3 ++ option_to_list x → room' ≡ room
      → Becomes es3 len head' room' g (without_last c)
  last_popped es1 None sound seen all at linked1 entries1 linked2 entries2 first some split kept =
      absurd (true≢false (sym some))
  last_popped {es} es1 {es2} {es3} {len} {n} {head} {head'} {room} {g = g} {c = c} {v = v} (Some y)
      sound seen all at linked1 entries1 linked2 entries2 first some split kept =
      let l = links es (length es) head in
      let same = entries2 ∙ entries1 in
      let long = length-map es entry_of in
      let long2 = length-map es2 entry_of in
      let longs = ap length same in
      let pushed = length_push es3 y in
      let sizes : length es2 ≡ length es3 + 1 = ap length split ∙ pushed in
      let short : length es3 + 1 ≡ length es = omega (arith, long, long2, longs, sizes) in
      let f = free_at es n v (sym at) in
      let whole : map entry_of es ≡ map entry_of es3 ++ entry_of y ∷ [] = sym same
      ∙ ap (map entry_of) split ∙ map_push entry_of es3 y in
      let last : length es3 ≡ n - 1 = omega (arith, short, all) in
      let inner : n - 1 < length es = omega (arith, all, f.positive) in
      let read : get_or (map entry_of es) (n - 1) None ≡ None =
      get_or-map entry_of es (n - 1) (free None None) None inner
      ∙ ap entry_of (get_or_from_slice_get es (n - 1) _ (free None None) f.found) in
      let none : entry_of y ≡ None =
      sym (end_of (map entry_of es3) (entry_of y))
      ∙ ap (λ k. get_or (map entry_of es3 ++ entry_of y ∷ []) k None)
      (length-map es3 entry_of ∙ last)
      ∙ ap (λ xs. get_or xs (n - 1) None) (sym whole) ∙ read in
      elim (off_or_on l n) [
        | inl off ↦ absurd (each_listed es len head room n v sound (sym at) off)
        | inr on ↦
            let stands = subst (IsLinear (links_at es)) on.is sound.listed.stands in
            let apart = Apart-split on.front on.back n
            (linear_apart (links_at es) None (on.front ++ n ∷ on.back) stands) in
            let rest = on.front ++ on.back in
            let written : (k : ℕ) → k ≢ n
            → links_at es3 k ≡ with_prev_if (with_next_if (links_at es) v.0 v.1) v.1 v.0 k =
            λ k other.
            (elim (leb_tells k (length es3)) [
              | inl below ↦ sym (ap (λ xs. links_at xs k) split ∙ links-push es3 y k below.1)
              | inr above ↦ links_at_past es3 k above.1
                  ∙ sym (links_at_past es2 k (omega (arith, above.1, other, sizes, short, all)))
            ])
            ∙ linked2 k ∙ prev_same (links_at es1) (with_next_if (links_at es) v.0 v.1) v.1 v.0 k
            (linked1 k) in
            let left_stands = taken (links_at es) (links_at es3) on.front on.back n v.0 v.1 stands
            (sym at) written in
            let left_first = first
            ∙ head_taken (links_at es) on.front on.back n head v.0 v.1 stands (sym at)
            (sound.listed.first ∙ ap (λ m. first_or m None) on.is) in
            let up_to : Below (n + 1) l = listed_up_to es n None l all sound.listed.stands in
            let below : filter (λ j. ltb j n) l ≡ rest =
            ap (filter (λ j. ltb j n)) on.is
            ∙ below_greatest n on.front on.back (subst (Below (n + 1)) on.is up_to)
            apart.0 apart.1 in
            let counts : length l ≡ length rest + 1 =
            ap length on.is ∙ omega
            (arith, length-append on.front (n ∷ on.back), length-append on.front on.back) in
            let live : count_by is_some (map entry_of es3) ≡ count_by is_some (map entry_of es) =
            sym (ap (count_by is_some) whole ∙ count_none (map entry_of es3) (entry_of y) none) in
            let counted = sound.counted in
            let total = sound.total in
            let fits = sound.fits in
            let s = sound_of es3 len head' rest room (counted ∙ sym live)
            (omega (arith, total, counts, short))
            (record { first = left_first; stands = left_stands }) (omega (arith, fits, short)) in
            let front : map entry_of es3 ≡ take (length (map entry_of es) - 1) (map entry_of es) =
            let size : length (map entry_of es) - 1 ≡ length (map entry_of es3) =
            omega (arith, long, short, length-map es3 entry_of) in
            sym (ap (λ k. take k (map entry_of es)) size
            ∙ ap (take (length (map entry_of es3))) whole
            ∙ take-append_seam (map entry_of es3) (entry_of y ∷ [])) in
            let to_n : n ≡ length (map entry_of es) = omega (arith, all, long) in
            let free : rest ≡ filter (λ j. ltb j (length (map entry_of es))) l = sym below
            ∙ ap (λ k. filter (λ j. ltb j k) l) to_n in
            rw kept
            record {
              sound = s.sound;
              content = rw (← seen, s.free_is)
                  (ap (λ xs. record { slots = xs; counter = g; free = rest; room = room }) front
                  ∙ ap (λ m. record {
                    slots = take (length (map entry_of es) - 1) (map entry_of es);
                    counter = g;
                    free = m;
                    room = room;
                  }) free);
            }
      ]
    where
      listed_up_to : (xs : List (Slot T)) (m : ℕ) (b : Option ℕ) (k : List ℕ) → m ≡ length xs
          → IsSegment (links_at xs) b k None → Below (m + 1) k
      listed_up_to xs m b [] all s = tt
      listed_up_to xs m b (i ∷ k) all s =
          (omega (arith, (free_at xs i _ s.0).within, all), listed_up_to xs m (Some i) k all s.1)

  -- the free slots at the end go one after another
  take_past : (xs : List (Option (ℕ × T))) (n k : ℕ) → n ≤ k → get_or (take n xs) k None ≡ None
  take_past xs zero k above = refl
  take_past [] (suc n) k above = refl
  take_past (x ∷ xs) (suc n) zero above = absurd (omega (arith, above))
  take_past (x ∷ xs) (suc n) (suc k) above = take_past xs n k (omega (arith, above))

  take_less : (n m : ℕ) (xs : List (Option (ℕ × T))) → n ≤ m → take n (take m xs) ≡ take n xs
  take_less zero m xs less = refl
  take_less (suc n) zero xs less = absurd (omega (arith, less))
  take_less (suc n) (suc m) [] less = refl
  take_less (suc n) (suc m) (x ∷ xs) less =
      ap (λ ys. x ∷ ys) (take_less n m xs (omega (arith, less)))

  entry-without_last : (c : Content T) → IsVacant c (length c.slots) → (j : ℕ)
      → entry_at (without_last c) j ≡ entry_at c j
  entry-without_last c vacant zero = refl
  entry-without_last c vacant (suc k) =
      elim (leb_tells (length c.slots - 1) k) [
        | inl past ↦
            take_past c.slots (length c.slots - 1) k past.1
            ∙ sym (elim (leb_tells (length c.slots) k) [
              | inl beyond ↦ none_past c (suc k) (omega (arith, beyond.1))
              | inr inner ↦
                  let at : suc k ≡ length c.slots = omega (arith, past.1, inner.1) in
                  ap (entry_at c) at ∙ vacant.vacant
            ])
        | inr inner ↦ get_or-take (length c.slots - 1) c.slots k None (omega (arith, inner.1))
      ]

  pub without_last-end : (c : Content T) → IsVacant c (length c.slots)
      → without_free_end (without_last c) ≡ without_free_end c
  without_last-end c vacant =
      let n = length c.slots in
      let d = without_last c in
      let here = last_index-is c in
      let sizes : length d.slots ≡ n - 1 = length-take-le (n - 1) c.slots (omega arith) in
      let positive = vacant.positive in
      let within : last_index c ≤ n - 1 =
      elim (eqb_tells (last_index c) n) [
        | inl same ↦
            let some = here.live (omega (arith, same.1, positive)) in
            let none : entry_at c (last_index c) ≡ None = ap (entry_at c) same.1 ∙ vacant.vacant in
            absurd (true≢false (sym (rw none at some)))
        | inr other ↦ omega (arith, here.within, other.1)
      ] in
      let last : last_index d ≡ last_index c =
      last_index-unique d (last_index c) (record {
        within = omega (arith, within, sizes);
        past = λ j above. entry-without_last c vacant j ∙ here.past j above;
        live = λ some. rw (entry-without_last c vacant (last_index c)) (here.live some);
      }) in
      let slots : take (last_index d) d.slots ≡ take (last_index c) c.slots =
      ap (λ k. take k d.slots) last ∙ take_less (last_index c) (n - 1) c.slots within in
      let free : filter (λ i. leb i (last_index d)) d.free
      ≡ filter (λ i. leb i (last_index c)) c.free =
      ap (λ k. filter (λ i. leb i k) d.free) last
      ∙ filter_inside (λ i. leb i (last_index c)) (λ i. ltb i n)
      (λ j passes. lt-ltb j n (omega (arith, below_of j passes, within, positive))) c.free in
      ap (λ xs. record c { slots = xs; free = filter (λ i. leb i (last_index d)) d.free }) slots
      ∙ ap (λ m. record c { slots = take (last_index c) c.slots; free = m }) free
    where
      below_of : (j : ℕ) → leb j (last_index c) ≡ true → j ≤ last_index c
      below_of j test = elim (leb_tells j (last_index c))
          [ inl below ↦ below.1 | inr above ↦ absurd (true≢false (sym test ∙ above.0)) ]

  -- and there are fewer of them
  pub without_last-fewer : (c : Content T) → IsVacant c (length c.slots)
      → length (without_last c).slots < length c.slots
  without_last-fewer c vacant =
      let sizes = length-take-le (length c.slots - 1) c.slots (omega arith) in
      omega (arith, sizes, vacant.positive)
