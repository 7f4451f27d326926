-- What an advancer gives over an arena that stays as it is.
use Rattle.std.proofs.Common.{◌≡◌, ◌⊎◌, ◌↔◌, if◌then◌else◌, inl, inr, ℕ, suc, ◌+◌, ◌-◌, ◌<◌, ◌≤◌}
use Rattle.std.proofs.Common.{Bool, true, false, List, [], ◌∷◌, ◌++◌, map, length, slice_index}
use Rattle.std.proofs.Common.{Option, Some, None, IsSome, is_some, refl, sym, ap, subst, ◌∙◌, arith}
use Rattle.std.specs.Prelude.{reverse}
use Rattle.std.specs.List.{FoldsTo}
use Rattle.std.specs.List.Sorted.{IsStrictlyIncreasing}
use Rattle.std.specs.Option.{option_map}
use Rattle.std.proofs.lemmas.Bool.{true≢false, eq-eqb, ne_eqb, le-leb, lt-leb}
use Rattle.std.proofs.lemmas.Bool.Decides.{eqb_tells, leb_tells}
use Rattle.std.proofs.lemmas.List.{reverse-append, length-map}
use Rattle.triple_arena.proofs.EntriesLemmas.{either_of, turned, in_turned, turned_in}
use Rattle.triple_arena.specs.Compression.{index_of, pointer_of}
use Rattle.triple_arena.specs.Entries.{look_up, generation_at, IsOneOf}
use Rattle.triple_arena.specs.RiseLaws.{RiseFrom, rise_from, first_stands}
use Rattle.triple_arena.specs.Walk.{Walk, IsAhead, IsFirstLive, Steps, past, given_by}
use Rattle.triple_arena.specs.Walk.{pointers_within, pointers_ahead, GoInOrder, GoesOverAll}

-- one pointer more behind those that fall to it
one_lower : (l : List (ℕ × ℕ)) (p : ℕ × ℕ) → GoInOrder true l
    → ((q : ℕ × ℕ) → IsOneOf l q → p.0 < q.0) → GoInOrder true (l ++ p ∷ [])
one_lower [] p order above = (λ q none. absurd none, tt)
one_lower (q ∷ l) p order above = (
  λ r one. behind r (either_of l (p ∷ []) r one),
  one_lower l p order.1 (λ r one. above r (inr one)),
)
  where
    behind : (r : ℕ × ℕ) → IsOneOf l r ⊎ IsOneOf (p ∷ []) r → r.0 < q.0
    behind r (inl one) = order.0 r one
    behind r (inr (inl here)) = subst (λ (x : ℕ × ℕ). x.0 < q.0) here (above q (inl refl))
    behind r (inr (inr none)) = absurd none

-- what rises falls the other way round
falls_back : (l : List (ℕ × ℕ)) → GoInOrder false l → GoInOrder true (reverse l)
falls_back [] order = tt
falls_back (p ∷ l) order =
    subst (GoInOrder true) (sym (turned p l))
    (one_lower (reverse l) p (falls_back l order.1) (λ q one. order.0 q (in_turned l q one)))

module _ {T : Type 0} where
  -- what stands behind the first entry
  absent_later : (e : ℕ × (ℕ × T)) (l : List (ℕ × (ℕ × T))) (j : ℕ) → look_up (e ∷ l) j ≡ None
      → look_up l j ≡ None
  absent_later e l j none =
      elim (eqb_tells e.0 j) [
        | inl same ↦ absurd (true≢false (ap is_some (rw same.0 at none)))
        | inr other ↦ rw other.0 at none
      ]

  found_above : (n : ℕ) (l : List (ℕ × (ℕ × T))) (i g : ℕ) → RiseFrom n l
      → generation_at (look_up l) i ≡ Some g → n ≤ i
  unfolding RiseFrom
  found_above n [] i g rise live = absurd (cc)
  found_above n (e ∷ l) i g rise live =
      elim (eqb_tells e.0 i) [
        | inl same ↦ omega (arith, rise.0, same.1)
        | inr other ↦ let above = found_above (e.0 + 1) l i g rise.1 (rw other.0 at live) in
            omega (arith, rise.0, above)
      ]

  first_positive : (l : List (ℕ × (ℕ × T))) → look_up l 0 ≡ None → 0 < length l
      → 1 ≤ slice_index (map index_of l) 0
  first_positive [] none some = absurd (omega (arith, some))
  first_positive (e ∷ l) none some =
      elim (eqb_tells e.0 0) [
        | inl same ↦ absurd (true≢false (ap is_some (rw same.0 at none)))
        | inr other ↦ omega (arith, other.1)
      ]

  -- an entry within the walk's indexes, below them and above them
  taken : (w : Walk) (e : ℕ × (ℕ × T)) (l : List (ℕ × (ℕ × T))) → w.low ≤ e.0 → e.0 ≤ w.high
      → pointers_within w (e ∷ l) ≡ pointer_of e ∷ pointers_within w l
  taken w e l low high = rw (le-leb w.low e.0 low, le-leb e.0 w.high high) refl

  left_below : (w : Walk) (e : ℕ × (ℕ × T)) (l : List (ℕ × (ℕ × T))) → e.0 < w.low
      → pointers_within w (e ∷ l) ≡ pointers_within w l
  left_below w e l below = rw (lt-leb w.low e.0 below) refl

  left_above : (w : Walk) (e : ℕ × (ℕ × T)) (l : List (ℕ × (ℕ × T))) → w.high < e.0
      → pointers_within w (e ∷ l) ≡ pointers_within w l
  left_above w e l above =
      elim (leb_tells w.low e.0) [
        | inl low ↦ rw (low.0, lt-leb e.0 w.high above) refl
        | inr low ↦ left_below w e l low.1
      ]

  -- where none of the listed is ahead there is no pointer
  none_within : (w : Walk) (n : ℕ) (l : List (ℕ × (ℕ × T))) → RiseFrom n l
      → ((j : ℕ) → n ≤ j → IsAhead w j → look_up l j ≡ None) → pointers_within w l ≡ []
  unfolding RiseFrom
  none_within w n [] rise none = refl
  none_within w n (e ∷ l) rise none =
      let rest = none_within w (e.0 + 1) l rise.1
      (λ j from ahead. absent_later e l j (none j (omega (arith, from, rise.0)) ahead)) in
      elim (leb_tells w.low e.0) [
        | inl low ↦
            elim (leb_tells e.0 w.high) [
              | inl high ↦ absurd (first_stands e l (none e.0 rise.0 (low.1, high.1)))
              | inr above ↦ left_above w e l above.1 ∙ rest
            ]
        | inr below ↦ left_below w e l below.1 ∙ rest
      ]

  -- only the end matters to entries that are past both beginnings
  same_end : (w v : Walk) (n : ℕ) (l : List (ℕ × (ℕ × T))) → RiseFrom n l → w.high ≡ v.high
      → w.low ≤ n → v.low ≤ n → pointers_within w l ≡ pointers_within v l
  unfolding RiseFrom
  same_end w v n [] rise same first second = refl
  same_end w v n (e ∷ l) rise same first second =
      let from = rise.0 in
      let rest = same_end w v (e.0 + 1) l rise.1 same (omega (arith, from, first))
      (omega (arith, from, second)) in
      elim (leb_tells e.0 w.high) [
        | inl high ↦
            taken w e l (omega (arith, from, first)) high.1
            ∙ ap (λ m. pointer_of e ∷ m) rest
            ∙ sym (taken v e l (omega (arith, from, second)) (omega (arith, high.1, same)))
        | inr above ↦ left_above w e l above.1 ∙ rest
            ∙ sym (left_above v e l (omega (arith, above.1, same)))
      ]

  -- the first live index that a rising walk has ahead
  rising : (w : Walk) (n : ℕ) (l : List (ℕ × (ℕ × T))) (i g : ℕ) → RiseFrom n l → w.low ≤ i
      → i ≤ w.high → generation_at (look_up l) i ≡ Some g
      → ((j : ℕ) → w.low ≤ j → j < i → look_up l j ≡ None)
      → pointers_within w l ≡ (i, g) ∷ pointers_within (record w { low = i + 1 }) l
  unfolding RiseFrom
  rising w n [] i g rise low high live first = absurd (cc)
  rising w n (e ∷ l) i g rise low high live first =
      elim (eqb_tells e.0 i) [
        | inl same ↦
            let stands : Some e.1.0 ≡ Some g = rw same.0 at live in
            let at : e.1.0 ≡ g = cc in
            let here : e.0 ≡ i = same.1 in
            let is : pointer_of e ≡ (i, g) = cc in
            taken w e l (omega (arith, here, low)) (omega (arith, here, high))
            ∙ ap (λ p. p ∷ pointers_within w l) is
            ∙ ap (λ m. (i, g) ∷ m)
            (same_end w (record w { low = i + 1 }) (e.0 + 1) l rise.1 refl
            (omega (arith, here, low)) (omega (arith, here))
            ∙ sym (left_below (record w { low = i + 1 }) e l (omega (arith, here))))
        | inr other ↦
            let later = found_above (e.0 + 1) l i g rise.1 (rw other.0 at live) in
            elim (leb_tells w.low e.0) [
              | inl from ↦ absurd (first_stands e l (first e.0 from.1 (omega (arith, later))))
              | inr below ↦
                  left_below w e l below.1
                  ∙ rising w (e.0 + 1) l i g rise.1 low high (rw other.0 at live)
                  (λ j from less. absent_later e l j (first j from less))
                  ∙ ap (λ m. (i, g) ∷ m)
                  (sym (left_below (record w { low = i + 1 }) e l (omega (arith, later))))
            ]
      ]

  -- the last live index, which a falling walk has ahead first
  falling : (w : Walk) (n : ℕ) (l : List (ℕ × (ℕ × T))) (i g : ℕ) → RiseFrom n l → 0 < i → w.low ≤ i
      → i ≤ w.high → generation_at (look_up l) i ≡ Some g
      → ((j : ℕ) → i < j → j ≤ w.high → look_up l j ≡ None)
      → pointers_within w l ≡ pointers_within (record w { high = i - 1 }) l ++ (i, g) ∷ []
  unfolding RiseFrom
  falling w n [] i g rise positive low high live last = absurd (cc)
  falling w n (e ∷ l) i g rise positive low high live last =
      elim (eqb_tells e.0 i) [
        | inl same ↦
            let stands : Some e.1.0 ≡ Some g = rw same.0 at live in
            let at : e.1.0 ≡ g = cc in
            let here : e.0 ≡ i = same.1 in
            let is : pointer_of e ≡ (i, g) = cc in
            let behind = none_within w (e.0 + 1) l rise.1
            (λ j from ahead. absent_later e l j (last j (omega (arith, from, here)) ahead.1)) in
            let shorter =
            none_within (record w { high = i - 1 }) (e.0 + 1) l rise.1
            (λ j from ahead. absurd (omega (arith, from, here, ahead.1))) in
            taken w e l (omega (arith, here, low)) (omega (arith, here, high))
            ∙ ap (λ p. p ∷ pointers_within w l) is
            ∙ ap (λ m. (i, g) ∷ m) behind
            ∙ ap (λ m. m ++ (i, g) ∷ [])
            (sym (left_above (record w { high = i - 1 }) e l (omega (arith, here, positive))
            ∙ shorter))
        | inr other ↦
            let later = found_above (e.0 + 1) l i g rise.1 (rw other.0 at live) in
            let rest =
            falling w (e.0 + 1) l i g rise.1 positive low high (rw other.0 at live)
            (λ j past within. absent_later e l j (last j past within)) in
            elim (leb_tells w.low e.0) [
              | inl from ↦
                  taken w e l from.1 (omega (arith, later, high))
                  ∙ ap (λ m. pointer_of e ∷ m) rest
                  ∙ ap (λ m. m ++ (i, g) ∷ [])
                  (sym (taken (record w { high = i - 1 }) e l from.1 (omega (arith, later))))
              | inr below ↦
                  left_below w e l below.1
                  ∙ rest
                  ∙ ap (λ m. m ++ (i, g) ∷ [])
                  (sym (left_below (record w { high = i - 1 }) e l below.1))
            ]
      ]

  -- the pointers of the entries within the walk's indexes
  one_within : (w : Walk) (n : ℕ) (l : List (ℕ × (ℕ × T))) (p : ℕ × ℕ) → RiseFrom n l
      → IsOneOf (pointers_within w l) p
      → (n ≤ p.0) × (IsAhead w p.0 × (generation_at (look_up l) p.0 ≡ Some p.1))
  unfolding RiseFrom
  one_within w n [] p rise one = absurd one
  one_within w n (e ∷ l) p rise one =
      let later = one_within w (e.0 + 1) l p rise.1 in
      elim (leb_tells w.low e.0) [
        | inl low ↦
            elim (leb_tells e.0 w.high) [
              | inl high ↦ here later low.1 high.1
                  (subst (λ m. IsOneOf m p) (taken w e l low.1 high.1) one)
              | inr above ↦ behind (later (subst (λ m. IsOneOf m p) (left_above w e l above.1) one))
            ]
        | inr below ↦ behind (later (subst (λ m. IsOneOf m p) (left_below w e l below.1) one))
      ]
    where
      behind : (e.0 + 1 ≤ p.0) × (IsAhead w p.0 × (generation_at (look_up l) p.0 ≡ Some p.1))
          → (n ≤ p.0) × (IsAhead w p.0 × (generation_at (look_up (e ∷ l)) p.0 ≡ Some p.1))
      behind known =
          let past = known.0 in
          let from = rise.0 in (
            omega (arith, past, from),
            (known.1.0, rw (ne_eqb e.0 p.0 (λ same. omega (arith, same, past))) known.1.1),
          )

      here : (IsOneOf (pointers_within w l) p
          → (e.0 + 1 ≤ p.0) × (IsAhead w p.0 × (generation_at (look_up l) p.0 ≡ Some p.1)))
          → w.low ≤ e.0
          → e.0 ≤ w.high → IsOneOf (pointer_of e ∷ pointers_within w l) p
          → (n ≤ p.0) × (IsAhead w p.0 × (generation_at (look_up (e ∷ l)) p.0 ≡ Some p.1))
      here later low high (inl at) =
          subst (λ (q : ℕ × ℕ). (n ≤ q.0)
          × (IsAhead w q.0 × (generation_at (look_up (e ∷ l)) q.0 ≡ Some q.1))) at
          (rise.0, ((low, high), rw (eq-eqb e.0 e.0 refl) refl))
      here later low high (inr one) = behind (later one)

  is_within : (w : Walk) (l : List (ℕ × (ℕ × T))) (i g : ℕ) → IsAhead w i
      → generation_at (look_up l) i ≡ Some g → IsOneOf (pointers_within w l) (i, g)
  is_within w [] i g ahead live = absurd (cc)
  is_within w (e ∷ l) i g ahead live =
      elim (eqb_tells e.0 i) [
        | inl same ↦
            let stands : Some e.1.0 ≡ Some g = rw same.0 at live in
            let at : e.1.0 ≡ g = cc in
            let here : e.0 ≡ i = same.1 in
            let is : pointer_of e ≡ (i, g) = cc in
            subst (λ m. IsOneOf m (i, g))
            (sym (taken w e l (omega (arith, here, ahead.0)) (omega (arith, here, ahead.1))))
            (inl is)
        | inr other ↦ skipped (is_within w l i g ahead (rw other.0 at live))
      ]
    where
      skipped : IsOneOf (pointers_within w l) (i, g) → IsOneOf (pointers_within w (e ∷ l)) (i, g)
      skipped one =
          elim (leb_tells w.low e.0) [
            | inl low ↦
                elim (leb_tells e.0 w.high) [
                  | inl high ↦ subst (λ m. IsOneOf m (i, g)) (sym (taken w e l low.1 high.1))
                      (inr one)
                  | inr above ↦ subst (λ m. IsOneOf m (i, g)) (sym (left_above w e l above.1)) one
                ]
            | inr below ↦ subst (λ m. IsOneOf m (i, g)) (sym (left_below w e l below.1)) one
          ]

  rises : (w : Walk) (n : ℕ) (l : List (ℕ × (ℕ × T))) → RiseFrom n l
      → GoInOrder false (pointers_within w l)
  unfolding RiseFrom
  rises w n [] rise = tt
  rises w n (e ∷ l) rise =
      let rest = rises w (e.0 + 1) l rise.1 in
      elim (leb_tells w.low e.0) [
        | inl low ↦
            elim (leb_tells e.0 w.high) [
              | inl high ↦
                  subst (GoInOrder false) (sym (taken w e l low.1 high.1)) (
                    (λ q one. let past = (one_within w (e.0 + 1) l q rise.1 one).0 in
                        omega (arith, past)),
                    rest,
                  )
              | inr above ↦ subst (GoInOrder false) (sym (left_above w e l above.1)) rest
            ]
        | inr below ↦ subst (GoInOrder false) (sym (left_below w e l below.1)) rest
      ]

  -- a walk over all live indexes has all listed entries ahead
  all_within : (w : Walk) (n : ℕ) (l : List (ℕ × (ℕ × T))) → RiseFrom n l → w.low ≤ n
      → ((j : ℕ) → IsSome (look_up l j) → j ≤ w.high)
      → pointers_within w l ≡ map pointer_of l
  unfolding RiseFrom
  all_within w n [] rise low high = refl
  all_within w n (e ∷ l) rise low high =
      let from = rise.0 in
      taken w e l (omega (arith, from, low)) (high e.0 (rw (eq-eqb e.0 e.0 refl) refl))
      ∙ ap (λ m. pointer_of e ∷ m)
      (all_within w (e.0 + 1) l rise.1 (omega (arith, from, low))
      (λ j some. high j (later j some)))
    where
      later : (j : ℕ) → IsSome (look_up l j) → IsSome (look_up (e ∷ l) j)
      later j some = elim (eqb_tells e.0 j) [
        | inl same ↦ rw same.0 refl
        | inr other ↦ rw other.0 some
      ]

-- over entries that are listed, each under its own index
module _ {T : Type 0} (entries : ℕ → Option (ℕ × T)) (listed : List (ℕ × (ℕ × T)))
    (zero_is_free : entries 0 ≡ None)
    (entry_listed : (j : ℕ) → entries j ≡ look_up listed j)
    (increase : IsStrictlyIncreasing (map index_of listed)) where
  rise : RiseFrom 1 listed
  rise = rise_from 1 listed increase (first_positive listed (sym (entry_listed 0) ∙ zero_is_free))

  generation_listed : (j : ℕ) → generation_at (look_up listed) j ≡ generation_at entries j
  generation_listed j = ap (option_map (λ entry. entry.0)) (sym (entry_listed j))

  -- a step gives the first pointer ahead, and leaves the others
  ahead_next : (w : Walk) (i g : ℕ) → IsFirstLive entries w i g
      → pointers_ahead w listed ≡ (i, g) ∷ pointers_ahead (past w i) listed
  ahead_next w i g step = by_direction w.falls refl
    where
      live : generation_at (look_up listed) i ≡ Some g
      live = generation_listed i ∙ step.live

      by_direction : (falls : Bool) → w.falls ≡ falls
          → pointers_ahead w listed ≡ (i, g) ∷ pointers_ahead (past w i) listed
      by_direction false is =
          rw is (rising w 1 listed i g rise step.ahead.0 step.ahead.1 live
          (λ j from less. sym (entry_listed j)
          ∙ step.first j (from, omega (arith, less, step.ahead.1)) (rw is less)))
      by_direction true is =
          rw is (ap reverse (falling w 1 listed i g rise (found_above 1 listed i g rise live)
          step.ahead.0 step.ahead.1 live
          (λ j less within. sym (entry_listed j)
          ∙ step.first j (omega (arith, less, step.ahead.0), within) (rw is less)))
          ∙ reverse-append (pointers_within (record w { high = i - 1 }) listed) ((i, g) ∷ []))

  ahead_none : (w : Walk) → ((j : ℕ) → IsAhead w j → entries j ≡ None)
      → pointers_ahead w listed ≡ []
  ahead_none w none = by_direction w.falls
    where
      within : pointers_within w listed ≡ []
      within = none_within w 1 listed rise (λ j from ahead. sym (entry_listed j) ∙ none j ahead)

      by_direction : (falls : Bool)
          → (if falls then reverse (pointers_within w listed) else pointers_within w listed) ≡ []
      by_direction false = within
      by_direction true = ap reverse within

  -- so the steps give what is ahead
  pub steps_give : (given : List (Option (ℕ × ℕ))) (w left : Walk)
      → FoldsTo (Steps entries) w given left
      → given ≡ given_by (length given) (pointers_ahead w listed)
  steps_give [] w left run = refl
  steps_give (None ∷ given) w left run =
      let over = ahead_none run.0 (λ j ahead. absurd (omega (arith, ahead.0, ahead.1, run.1.1))) in
      let later : given ≡ given_by (length given) [] = steps_give given run.0 left run.2
      ∙ ap (given_by (length given)) over in
      ap (λ l. None ∷ l) later ∙ ap (given_by (suc (length given))) (sym (ahead_none w run.1.0))
  steps_give (Some p ∷ given) w left run =
      let later : given ≡ given_by (length given) (pointers_ahead (past w p.0) listed) =
      steps_give given run.0 left run.2
      ∙ ap (λ v. given_by (length given) (pointers_ahead v listed)) run.1.1 in
      ap (λ l. Some p ∷ l) later
      ∙ ap (given_by (suc (length given))) (sym (ahead_next w p.0 p.1 run.1.0))

  -- in the order of the walk
  pub ahead_in_order : (w : Walk) → GoInOrder w.falls (pointers_ahead w listed)
  ahead_in_order w = by_direction w.falls
    where
      by_direction : (falls : Bool)
          → GoInOrder falls (if falls then reverse (pointers_within w listed) else pointers_within w
          listed)
      by_direction false = rises w 1 listed rise
      by_direction true = falls_back (pointers_within w listed) (rises w 1 listed rise)

  -- which are those of the live entries ahead
  pub ahead_is_live : (w : Walk) (p : ℕ × ℕ)
      → IsOneOf (pointers_ahead w listed) p
      ↔ (IsAhead w p.0 × (generation_at entries p.0 ≡ Some p.1))
  ahead_is_live w p = by_direction w.falls
    where
      there : IsOneOf (pointers_within w listed) p
          → IsAhead w p.0 × (generation_at entries p.0 ≡ Some p.1)
      there one = let known = (one_within w 1 listed p rise one).1 in
          (known.0, sym (generation_listed p.0) ∙ known.1)

      back : IsAhead w p.0 × (generation_at entries p.0 ≡ Some p.1)
          → IsOneOf (pointers_within w listed) p
      back known = is_within w listed p.0 p.1 known.0 (generation_listed p.0 ∙ known.1)

      by_direction : (falls : Bool)
          → IsOneOf (if falls then reverse (pointers_within w listed) else pointers_within w listed)
          p
          ↔ (IsAhead w p.0 × (generation_at entries p.0 ≡ Some p.1))
      by_direction false = (there, back)
      by_direction true = (
        λ one. there (in_turned (pointers_within w listed) p one),
        λ known. turned_in (pointers_within w listed) p (back known),
      )

  -- from below the first to the last live index those are all
  pub all_ahead : (w : Walk) → GoesOverAll w entries
      → pointers_ahead w listed ≡ map pointer_of listed
  all_ahead w whole =
      let low = whole.1 in
      rw whole.0 (all_within w 1 listed rise (omega (arith, low))
      (λ j some. whole.2 j (rw (entry_listed j) some)))

  module _ {X A : Type 0} (advances : A → X → A → Type 0) (walk : A → Walk)
      (pointer : X → Option (ℕ × ℕ))
      (steps : (before : A) (given : X) (after : A) → advances before given after
      → Steps entries (walk before) (pointer given) (walk after)) where
    -- an advancer's steps are steps of its walk
    walked : (given : List X) (a left : A) → FoldsTo advances a given left
        → FoldsTo (Steps entries) (walk a) (map pointer given) (walk left)
    walked [] a left run = ap walk run
    walked (x ∷ given) a left run =
        (walk run.0, steps a x run.0 run.1, walked given run.0 left run.2)

    pub advances_give : (given : List X) (a left : A) → FoldsTo advances a given left
        → map pointer given ≡ given_by (length given) (pointers_ahead (walk a) listed)
    advances_give given a left run =
        steps_give (map pointer given) (walk a) (walk left) (walked given a left run)
        ∙ ap (λ n. given_by n (pointers_ahead (walk a) listed)) (length-map given pointer)
