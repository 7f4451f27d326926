-- What is the last live index, and what the calls on the free slots leave.
use Rattle.std.proofs.Common.{◌≡◌, ℕ, zero, suc, ◌+◌, ◌-◌, ◌<◌, ◌≤◌, List, [], ◌∷◌, length, take}
use Rattle.std.proofs.Common.{drop, get_or, Option, Some, None, IsSome, Bool, is_some, is_none}
use Rattle.std.proofs.Common.{count_by, filter, cond, eqb, leb, not, true, false, true≢false, inl}
use Rattle.std.proofs.Common.{inr, refl, sym, ap, subst, ◌∙◌, arith, get_or-take, get_or-drop}
use Rattle.std.proofs.Common.{take_all, le-leb, length-take-le, length-drop}
use Rattle.std.specs.List.{suffix_len, AllByRecursion, IsDistinct, list_any}
use Rattle.std.proofs.lemmas.Bool.{eq-eqb, ne_eqb}
use Rattle.std.proofs.lemmas.Bool.Decides.{eqb_tells, leb_tells}
use Rattle.std.proofs.lemmas.List.Sums.{sum_by-cons, suffix_len_is}
use Rattle.std.proofs.lemmas.List.Filters.{length-filter_both}
use Rattle.std.proofs.lemmas.Map.Made.{length-le_from_is_member}
use Rattle.std.specs.Cmp.{nat_eq_equiv}
use Rattle.linked_lists.specs.LinkedLists.{Off}
use Rattle.triple_arena.specs.Content.{Content, entry_at, live_count, last_index, without_free_end}
use Rattle.triple_arena.specs.Content.{vacant_from, canonicalized, IsVacant, AllVacant}
use Rattle.triple_arena.specs.Content.{IsWellFormed}
use Rattle.triple_arena.specs.ContentLaws.{entry_at_slot, entry-same_slots}

-- an index that is off a list is none of its items
apart_of : (i : ℕ) (l : List ℕ) → Off l i → AllByRecursion (λ j. eqb i j ≡ false) l
apart_of i [] off = tt
apart_of i (j ∷ l) off = (ne_eqb i j (λ same. off.0 (sym same)), apart_of i l off.1)

Off-filter : (p : ℕ → Bool) (l : List ℕ) (i : ℕ) → Off l i → Off (filter p l) i
Off-filter p [] i off = tt
Off-filter p (j ∷ l) i off = by_test (p j) refl (Off-filter p l i off.1)
  where
    by_test : (b : Bool) → p j ≡ b → Off (filter p l) i → Off (filter p (j ∷ l)) i
    by_test true e rest = rw e (off.0, rest)
    by_test false e rest = rw e rest

filter_passed : (p : ℕ → Bool) (l : List ℕ) (i : ℕ) → list_any (eqb i) (filter p l) ≡ true
    → p i ≡ true
filter_passed p [] i listed = absurd (true≢false (sym listed))
filter_passed p (j ∷ l) i listed = by_test (p j) refl listed (filter_passed p l i)
  where
    by_test : (b : Bool) → p j ≡ b → list_any (eqb i) (filter p (j ∷ l)) ≡ true
        → (list_any (eqb i) (filter p l) ≡ true → p i ≡ true) → p i ≡ true
    by_test false e found rest = rest (rw e at found)
    by_test true e found rest =
        elim (eqb_tells i j) [
          | inl same ↦ ap p same.1 ∙ e
          | inr other ↦ rest (rw (e, other.0) at found)
        ]

up_to_of : (i n : ℕ) → leb i n ≡ true → i ≤ n
up_to_of i n test =
    elim (leb_tells i n) [
      | inl below ↦ below.1
      | inr above ↦ absurd (true≢false (sym test ∙ above.0))
    ]

past_of : (i n : ℕ) → not (leb i n) ≡ true → n < i
past_of i n test =
    elim (leb_tells i n) [
      | inl below ↦ absurd (true≢false (sym (rw below.0 at test)))
      | inr above ↦ omega (arith, above.1)
    ]

module _ {T : Type 0} where
  -- no slot from this place on is live, and the one before it is
  record Ends (xs : List (Option (ℕ × T))) (n : ℕ) : Type 0 where
    pub within : n ≤ length xs
    pub past : (k : ℕ) → n ≤ k → get_or xs k None ≡ None
    pub live : 0 < n → IsSome (get_or xs (n - 1) None)

  ends : (xs : List (Option (ℕ × T))) → (n : ℕ) × Ends xs n
  ends [] = (
    0,
    record {
      within = omega arith;
      past = λ k above. refl;
      live = λ positive. absurd (omega arith);
    },
  )
  ends (x ∷ xs) = more x (ends xs).0 (ends xs).1
    where
      more : (x : Option (ℕ × T)) (n : ℕ) → Ends xs n → (m : ℕ) × Ends (x ∷ xs) m
      more None zero e = (
        0,
        record {
          within = omega arith;
          past = past;
          live = λ positive. absurd (omega arith);
        },
      )
        where
          past : (k : ℕ) → 0 ≤ k → get_or (None ∷ xs) k None ≡ None
          past zero above = refl
          past (suc k) above = e.past k (omega arith)
      more (Some y) zero e = (
        1,
        record {
          within = omega arith;
          past = past;
          live = λ positive. refl;
        },
      )
        where
          past : (k : ℕ) → 1 ≤ k → get_or (Some y ∷ xs) k None ≡ None
          past zero above = absurd (omega arith)
          past (suc k) above = e.past k (omega arith)
      more x (suc n) e = (
        suc (suc n),
        record {
          within = omega (arith, e.within);
          past = past;
          live = live;
        },
      )
        where
          past : (k : ℕ) → suc (suc n) ≤ k → get_or (x ∷ xs) k None ≡ None
          past zero above = absurd (omega arith)
          past (suc k) above = e.past k (omega (arith, above))

          live : 0 < suc (suc n) → IsSome (get_or (x ∷ xs) (suc (suc n) - 1) None)
          live positive =
              let back : suc (suc n) - 1 ≡ suc n = omega arith in
              let inner : suc n - 1 ≡ n = omega arith in
              rw back (subst (λ k. IsSome (get_or xs k None)) inner (e.live (omega arith)))

  ends_at : (xs : List (Option (ℕ × T))) (n : ℕ) → Ends xs n → length xs - suffix_len is_none xs ≡ n
  ends_at xs n e =
      let counted =
      suffix_len_is is_none xs n None e.within (λ k above below. ap is_none (e.past k above))
      (λ positive. ap not (e.live positive)) in
      omega (arith, counted, e.within)

  -- no index after this one is live, and this one is, unless none is
  pub record IsLastIndex (c : Content T) (n : ℕ) : Type 0 where
    pub within : n ≤ length c.slots
    pub past : (j : ℕ) → n < j → entry_at c j ≡ None
    pub live : 0 < n → IsSome (entry_at c n)

  -- the last live index is that
  pub last_index-is : (c : Content T) → IsLastIndex c (last_index c)
  last_index-is c = subst (IsLastIndex c) (sym (ends_at c.slots (ends c.slots).0 (ends c.slots).1))
      (by_ends (ends c.slots).0 (ends c.slots).1)
    where
      by_ends : (n : ℕ) → Ends c.slots n → IsLastIndex c n
      by_ends n e =
          record {
            within = e.within;
            past = λ j above. entry_at_slot c j (omega (arith, above)) ∙ e.past (j - 1)
                (omega (arith, above));
            live = λ positive. rw (entry_at_slot c n positive) (e.live positive);
          }

  -- and no other index
  pub last_index-unique : (c : Content T) (n : ℕ) → IsLastIndex c n → last_index c ≡ n
  last_index-unique c n last =
      let here = last_index-is c in
      elim (leb_tells n (last_index c)) [
        | inl below ↦
            elim (eqb_tells n (last_index c)) [
              | inl same ↦ sym same.1
              | inr other ↦
                  let some = here.live (omega (arith, below.1, other.1)) in
                  let none = last.past (last_index c) (omega (arith, below.1, other.1)) in
                  absurd (true≢false (sym (rw none at some)))
            ]
        | inr above ↦
            let some = last.live (omega (arith, above.1)) in
            let none = here.past n (omega (arith, above.1)) in
            absurd (true≢false (sym (rw none at some)))
      ]

  take_past : (xs : List (Option (ℕ × T))) (n k : ℕ) → n ≤ k → get_or (take n xs) k None ≡ None
  take_past xs zero k above = refl
  take_past [] (suc n) k above = refl
  take_past (x ∷ xs) (suc n) zero above = absurd (omega arith)
  take_past (x ∷ xs) (suc n) (suc k) above = take_past xs n k (omega (arith, above))

  -- the entries stay where the free slots at the end go
  pub entry-without_free_end : (c : Content T) (j : ℕ)
      → entry_at (without_free_end c) j ≡ entry_at c j
  entry-without_free_end c zero = refl
  entry-without_free_end c (suc k) =
      elim (leb_tells (last_index c) k) [
        | inl past ↦
            take_past c.slots (last_index c) k past.1
            ∙ sym ((last_index-is c).past (suc k) (omega (arith, past.1)))
        | inr inner ↦ get_or-take (last_index c) c.slots k None (omega (arith, inner.1))
      ]

  none_live : (xs : List (Option (ℕ × T))) → ((k : ℕ) → get_or xs k None ≡ None)
      → count_by is_some xs ≡ 0
  none_live [] none = refl
  none_live (None ∷ xs) none =
      let rest = none_live xs (λ k. none (suc k)) in
      let more : count_by is_some (None ∷ xs) ≡ 0 + count_by is_some xs =
      sum_by-cons (λ o. cond (is_some o) 1 0) None xs in
      omega (arith, rest, more)
  none_live (Some y ∷ xs) none = absurd (let first = none 0 in cc)

  take_live : (xs : List (Option (ℕ × T))) (n : ℕ) → ((k : ℕ) → n ≤ k → get_or xs k None ≡ None)
      → count_by is_some (take n xs) ≡ count_by is_some xs
  take_live xs zero none = sym (none_live xs (λ k. none k (omega arith)))
  take_live [] (suc n) none = refl
  take_live (x ∷ xs) (suc n) none =
      let rest = take_live xs n (λ k above. none (suc k) (omega (arith, above))) in
      sum_by-cons (λ o. cond (is_some o) 1 0) x (take n xs)
      ∙ ap (λ m. cond (is_some x) 1 0 + m) rest
      ∙ sym (sum_by-cons (λ o. cond (is_some o) 1 0) x xs)

  pub live-without_free_end : (c : Content T) → live_count (without_free_end c) ≡ live_count c
  live-without_free_end c = take_live c.slots (last_index c) none
    where
      none : (k : ℕ) → last_index c ≤ k → get_or c.slots k None ≡ None
      none k above = (last_index-is c).past (suc k) (omega (arith, above))

  pub slots-without_free_end : (c : Content T) → length (without_free_end c).slots ≡ last_index c
  slots-without_free_end c = length-take-le (last_index c) c.slots (last_index-is c).within

  pub counter-without_free_end : (c : Content T) → (without_free_end c).counter ≡ c.counter
  counter-without_free_end c = refl

  pub room-without_free_end : (c : Content T) → (without_free_end c).room ≡ c.room
  room-without_free_end c = refl

  pub free-without_free_end : (c : Content T)
      → (without_free_end c).free ≡ filter (λ i. leb i (last_index c)) c.free
  free-without_free_end c = refl

  -- the vacant ones among slots are as many as are not live
  pub vacant-counted : (n : ℕ) (xs : List (Option (ℕ × T)))
      → count_by is_some xs + length (vacant_from n xs) ≡ length xs
  vacant-counted n [] = refl
  vacant-counted n (None ∷ xs) =
      let rest = vacant-counted (n + 1) xs in
      let more : count_by is_some (None ∷ xs) ≡ 0 + count_by is_some xs =
      sum_by-cons (λ o. cond (is_some o) 1 0) None xs in
      omega (arith, rest, more)
  vacant-counted n (Some e ∷ xs) =
      let rest = vacant-counted (n + 1) xs in
      let more : count_by is_some (Some e ∷ xs) ≡ 1 + count_by is_some xs =
      sum_by-cons (λ o. cond (is_some o) 1 0) (Some e) xs in
      omega (arith, rest, more)

  -- each of them is listed
  vacant_listed : (n k i : ℕ) (xs : List (Option (ℕ × T))) → i ≡ n + k → k < length xs
      → get_or xs k None ≡ None
      → list_any (eqb i) (vacant_from n xs) ≡ true
  vacant_listed n k i [] at below none = absurd (omega arith)
  vacant_listed n zero i (None ∷ xs) at below none = rw (eq-eqb i n (omega (arith, at))) refl
  vacant_listed n (suc k) i (None ∷ xs) at below none =
      rw (ne_eqb i n (λ same. omega (arith, at, same)))
      (vacant_listed (n + 1) k i xs (omega (arith, at)) (omega (arith, below)) none)
  vacant_listed n zero i (Some e ∷ xs) at below none = absurd (cc)
  vacant_listed n (suc k) i (Some e ∷ xs) at below none
      = vacant_listed (n + 1) k i xs (omega (arith, at)) (omega (arith, below)) none

  -- free indexes are distinct, and each is vacant
  distinct_of : (c : Content T) (l : List ℕ) → AllVacant c l → IsDistinct eqb l
  unfolding IsDistinct
  distinct_of c [] all = tt
  distinct_of c (i ∷ l) all = (apart_of i l all.1.0, distinct_of c l all.1.1)

  listed_vacant : (c : Content T) (l : List ℕ) (i : ℕ) → AllVacant c l → list_any (eqb i) l ≡ true
      → IsVacant c i
  listed_vacant c [] i all listed = absurd (true≢false (sym listed))
  listed_vacant c (j ∷ l) i all listed =
      elim (eqb_tells i j) [
        | inl same ↦ subst (IsVacant c) (sym same.1) all.0
        | inr other ↦ listed_vacant c l i all.1.1 (rw other.0 at listed)
      ]

  -- so there are no more of them than of the vacant ones among slots that have all of them
  pub vacant-fit : (c : Content T) (l : List ℕ) (n : ℕ) (xs : List (Option (ℕ × T))) → AllVacant c l
      → ((i : ℕ) → IsVacant c i → list_any (eqb i) l ≡ true → (n ≤ i)
      × ((i < n + length xs) × (get_or xs (i - n) None ≡ None)))
      → length l ≤ length (vacant_from n xs)
  vacant-fit c l n xs all each =
      length-le_from_is_member nat_eq_equiv l (vacant_from n xs) (distinct_of c l all) (λ i listed.
      let e = each i (listed_vacant c l i all listed) listed in
      vacant_listed n (i - n) i xs (omega (arith, e.0)) (omega (arith, e.0, e.1.0)) e.1.1)

  -- some of the free indexes, all of which are vacant in another content
  filter_vacant : (c d : Content T) (p : ℕ → Bool)
      → ((i : ℕ) → p i ≡ true → IsVacant c i → IsVacant d i) → (l : List ℕ) → AllVacant c l
      → AllVacant d (filter p l)
  filter_vacant c d p each [] all = tt
  filter_vacant c d p each (j ∷ l) all = by_test (p j) refl (Off-filter p l j all.1.0)
      (filter_vacant c d p each l all.1.1)
    where
      by_test : (b : Bool) → p j ≡ b → Off (filter p l) j → AllVacant d (filter p l)
          → AllVacant d (filter p (j ∷ l))
      by_test true e off rest = rw e (each j e all.0, (off, rest))
      by_test false e off rest = rw e rest

  -- the free indexes up to the last live one are as many as the slots up to there that are not live
  end_counted : (c : Content T) → IsWellFormed c
      → live_count c + length (filter (λ i. leb i (last_index c)) c.free) ≡ last_index c
  end_counted c formed =
      let n = last_index c in
      let last = last_index-is c in
      let p : ℕ → Bool = λ i. leb i n in
      let kept = vacant-fit c (filter p c.free) 1 (take n c.slots)
      (filter_vacant c c p (λ i passes v. v) c.free formed.free) (λ i v listed.
      let below = up_to_of i n (filter_passed p c.free i listed) in
      let positive = v.positive in
      let sizes = slots-without_free_end c in
      let inner : i - 1 < n = omega (arith, below, positive) in (
        positive,
        (
          omega (arith, below, sizes),
          get_or-take n c.slots (i - 1) None inner ∙ sym (entry_at_slot c i positive) ∙ v.vacant,
        ),
      )) in
      let gone = vacant-fit c (filter (λ i. not (p i)) c.free) (n + 1) (drop n c.slots)
      (filter_vacant c c (λ i. not (p i)) (λ i passes v. v) c.free formed.free) (λ i v listed.
      let positive = v.positive in
      let within = v.within in
      let past = filter_passed (λ i. not (p i)) c.free i listed in
      let above : n < i = past_of i n past in
      let sizes = length-drop n c.slots in
      let at : n + (i - (n + 1)) ≡ i - 1 = omega (arith, above) in (
        omega (arith, above),
        (
          omega (arith, above, within, sizes, last.within),
          get_or-drop n c.slots (i - (n + 1)) None ∙ ap (λ k. get_or c.slots k None) at
              ∙ sym (entry_at_slot c i positive) ∙ v.vacant,
        ),
      )) in
      let all = length-filter_both p (λ i. not (p i)) (λ i. refl) c.free in
      let front = vacant-counted 1 (take n c.slots) in
      let live = live-without_free_end c in
      let sizes = slots-without_free_end c in
      let behind = vacant-counted (n + 1) (drop n c.slots) in
      let rest = length-drop n c.slots in
      let counted = formed.counted in
      let within = last.within in
      omega (arith, kept, gone, all, front, live, sizes, behind, rest, counted, within)

  -- and the content stays well-formed
  pub formed-without_free_end : (c : Content T) → IsWellFormed c → IsWellFormed (without_free_end c)
  formed-without_free_end c formed =
      let sizes = slots-without_free_end c in
      let live = live-without_free_end c in
      let counted = end_counted c formed in
      let within = (last_index-is c).within in
      let fits = formed.fits in
      record {
        free = filter_vacant c (without_free_end c) (λ i. leb i (last_index c))
            (λ i passes v. record {
              positive = v.positive;
              within = omega (arith, sizes, up_to_of i (last_index c) passes);
              vacant = entry-without_free_end c i ∙ v.vacant;
            }) c.free formed.free;
        counted = omega (arith, sizes, live, counted);
        fits = omega (arith, sizes, within, fits);
      }

  within_all : (c : Content T) (l : List ℕ) → AllVacant c l
      → filter (λ i. leb i (length c.slots)) l ≡ l
  within_all c [] all = refl
  within_all c (i ∷ l) all = rw (le-leb i (length c.slots) all.0.within)
      (ap (λ m. i ∷ m) (within_all c l all.1.1))

  -- where the last slot is live there is none to go
  pub no_free_end : (c : Content T) → IsWellFormed c → last_index c ≡ length c.slots
      → without_free_end c ≡ c
  no_free_end c formed last =
      let slots : take (last_index c) c.slots ≡ c.slots =
      take_all (last_index c) c.slots (omega (arith, last)) in
      let free : filter (λ i. leb i (last_index c)) c.free ≡ c.free =
      ap (λ n. filter (λ i. leb i n) c.free) last ∙ within_all c c.free formed.free in
      ap (λ xs. record c { slots = xs; free = filter (λ i. leb i (last_index c)) c.free }) slots
      ∙ ap (λ l. record c { free = l }) free

  -- the free indexes in another order
  pub entry-canonicalized : (c : Content T) (j : ℕ) → entry_at (canonicalized c) j ≡ entry_at c j
  entry-canonicalized c j = entry-same_slots (canonicalized c) c refl j

  pub live-canonicalized : (c : Content T) → live_count (canonicalized c) ≡ live_count c
  live-canonicalized c = refl

  pub slots-canonicalized : (c : Content T) → length (canonicalized c).slots ≡ length c.slots
  slots-canonicalized c = refl

  pub counter-canonicalized : (c : Content T) → (canonicalized c).counter ≡ c.counter
  counter-canonicalized c = refl

  pub room-canonicalized : (c : Content T) → (canonicalized c).room ≡ c.room
  room-canonicalized c = refl

  pub free-canonicalized : (c : Content T) → (canonicalized c).free ≡ vacant_from 1 c.slots
  free-canonicalized c = refl

  pub vacant-off : (n i : ℕ) (xs : List (Option (ℕ × T))) → i < n → Off (vacant_from n xs) i
  vacant-off n i [] below = tt
  vacant-off n i (None ∷ xs) below
      = (λ same. omega (arith, below, same), vacant-off (n + 1) i xs (omega (arith, below)))
  vacant-off n i (Some e ∷ xs) below = vacant-off (n + 1) i xs (omega (arith, below))

  pub all_vacant_from : (c : Content T) (n : ℕ) (xs : List (Option (ℕ × T))) → 0 < n
      → n + length xs ≡ 1 + length c.slots
      → ((k : ℕ) → get_or xs k None ≡ entry_at c (n + k)) → AllVacant c (vacant_from n xs)
  all_vacant_from c n [] positive sizes same = tt
  all_vacant_from c n (None ∷ xs) positive sizes same =
      let here : n + 0 ≡ n = omega arith in (
        record {
          positive = positive;
          within = omega (arith, sizes);
          vacant = ap (entry_at c) (sym here) ∙ sym (same 0);
        },
        (
          vacant-off (n + 1) n xs (omega arith),
          all_vacant_from c (n + 1) xs (omega arith) (omega (arith, sizes)) (λ k.
              let next : n + suc k ≡ (n + 1) + k =
              omega arith in same (suc k) ∙ ap (entry_at c) next),
        ),
      )
  all_vacant_from c n (Some e ∷ xs) positive sizes same =
      all_vacant_from c (n + 1) xs (omega arith) (omega (arith, sizes)) (λ k.
      let next : n + suc k ≡ (n + 1) + k = omega arith in same (suc k) ∙ ap (entry_at c) next)

  -- and the content stays well-formed
  pub formed-canonicalized : (c : Content T) → IsWellFormed c → IsWellFormed (canonicalized c)
  formed-canonicalized c formed =
      record {
        free = all_vacant_from (canonicalized c) 1 c.slots (omega arith) refl
            (λ k. let first : 1 + k ≡ suc k =
            omega arith in ap (entry_at (canonicalized c)) (sym first));
        counted = vacant-counted 1 c.slots;
        fits = formed.fits;
      }

-- what is changed and kept where the free slots at the end go
pub ruleset free_end_removals = (
  formed-without_free_end,
  entry-without_free_end,
  live-without_free_end,
  slots-without_free_end,
  counter-without_free_end,
  free-without_free_end,
  room-without_free_end,
)

-- what is changed and kept where the free indexes are put in order
pub ruleset canonical_orders = (
  formed-canonicalized,
  entry-canonicalized,
  live-canonicalized,
  slots-canonicalized,
  counter-canonicalized,
  free-canonicalized,
  room-canonicalized,
)
