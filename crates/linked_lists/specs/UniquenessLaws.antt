-- A live index stands in one chain alone, and there once.
use Rattle.std.proofs.Common.{◌≡◌, ℕ, zero, suc, ◌<◌, List, [], ◌∷◌, ◌++◌, length, Option, Some}
use Rattle.std.proofs.Common.{None, refl, sym, ap, subst, ◌∙◌, arith, inl, inr, append_assoc}
use Rattle.std.proofs.Common.{length-append}
use Rattle.linked_lists.specs.LinkedLists.{Ends, next_in, prev_in, next_at, prev_at, last_or}
use Rattle.linked_lists.specs.LinkedLists.{IsSegment, Off, Apart, On, Standing, linear, ring}
use Rattle.linked_lists.specs.LinkedListLaws.{last_or-append, segment-back, segment-front}
use Rattle.linked_lists.specs.LinkedListLaws.{off_or_on}

-- a list is empty, or another one and its last index
pub data Ended (xs : List ℕ) : Type 0 where
  none : xs ≡ [] → Ended xs
  some_last : (ys : List ℕ) (y : ℕ) → xs ≡ ys ++ y ∷ [] → Ended xs

pub ended : (xs : List ℕ) → Ended xs
ended [] = none refl
ended (x ∷ xs) = by (ended xs)
  where
    by : Ended xs → Ended (x ∷ xs)
    by (none is) = some_last [] x (ap (λ l. x ∷ l) is)
    by (some_last ys y is) = some_last (x ∷ ys) y (ap (λ l. x ∷ l) is)

module _ (e : ℕ → Option Ends) where
  -- from an index on there is one list to an end
  pub same_to_end : (b b' : Option ℕ) (i : ℕ) (xs ys : List ℕ) → IsSegment e b (i ∷ xs) None
      → IsSegment e b' (i ∷ ys) None → xs ≡ ys
  same_to_end b b' i [] [] s t = refl
  same_to_end b b' i [] (y ∷ ys) s t
      = absurd (let no : None ≡ Some y = sym (ap next_in s.0) ∙ ap next_in t.0 in cc)
  same_to_end b b' i (x ∷ xs) [] s t
      = absurd (let no : Some x ≡ None = sym (ap next_in s.0) ∙ ap next_in t.0 in cc)
  same_to_end b b' i (x ∷ xs) (y ∷ ys) s t =
      let both : Some x ≡ Some y = sym (ap next_in s.0) ∙ ap next_in t.0 in
      let same : y ≡ x = cc in
      let t' : IsSegment e (Some i) (x ∷ ys) None =
      subst (λ z. IsSegment e (Some i) (z ∷ ys) None) same t.1 in
      let rest = same_to_end (Some i) (Some i) x xs ys s.1 t' in
      ap (λ l. x ∷ l) rest ∙ ap (λ z. z ∷ ys) (sym same)

  -- and one list back to it
  pub same_around : (i : ℕ) (b b' : Option ℕ) (x : ℕ) (xs ys : List ℕ) → Off xs i → Off ys i
      → IsSegment e b (x ∷ xs) (Some i)
      → IsSegment e b' (x ∷ ys) (Some i) → xs ≡ ys
  same_around i b b' x [] [] off off' s t = refl
  same_around i b b' x [] (y ∷ ys) off off' s t
      = absurd (let both : Some i ≡ Some y = sym (ap next_in s.0) ∙ ap next_in t.0 in let same : y
      ≡ i = cc in off'.0 same)
  same_around i b b' x (z ∷ zs) [] off off' s t
      = absurd (let both : Some z ≡ Some i = sym (ap next_in s.0) ∙ ap next_in t.0 in let same : z
      ≡ i = cc in off.0 same)
  same_around i b b' x (z ∷ zs) (y ∷ ys) off off' s t =
      let both : Some z ≡ Some y = sym (ap next_in s.0) ∙ ap next_in t.0 in
      let same : y ≡ z = cc in
      let t' : IsSegment e (Some x) (z ∷ ys) (Some i) =
      subst (λ w. IsSegment e (Some x) (w ∷ ys) (Some i)) same t.1 in
      let rest = same_around i (Some x) (Some x) z zs ys off.1 off'.1 s.1 t' in
      ap (λ l. z ∷ l) rest ∙ ap (λ w. w ∷ ys) (sym same)

  last_of : (zs : List ℕ) (z : ℕ) → last_or None (zs ++ z ∷ []) ≡ Some z
  last_of zs z = last_or-append None zs (z ∷ [])

  -- the lists before the last ones of two, where these are the same
  before_last : (xs ys zs ws : List ℕ) (z w : ℕ) (a a' : Option ℕ) → xs ≡ zs ++ z ∷ []
      → ys ≡ ws ++ w ∷ [] → IsSegment e None xs a → IsSegment e None ys a'
      → last_or None xs ≡ last_or None ys
      → (w ≡ z) × IsSegment e None zs (Some z) × IsSegment e None ws (Some w)
      × (last_or None zs ≡ last_or None ws)
  before_last xs ys zs ws z w a a' is is' s t lasts =
      let both : Some z ≡ Some w = sym (last_of zs z) ∙ sym (ap (last_or None) is) ∙ lasts ∙ ap
      (last_or None) is' ∙ last_of ws w in
      let same : w ≡ z = cc in
      let s' : IsSegment e None (zs ++ z ∷ []) a = subst (λ l. IsSegment e None l a) is s in
      let t' : IsSegment e None (ws ++ w ∷ []) a' = subst (λ l. IsSegment e None l a') is' t in
      let at_z = (segment-back e None a zs (z ∷ []) s').0 in
      let at_w = (segment-back e None a' ws (w ∷ []) t').0 in
      let before : last_or None zs ≡ last_or None ws =
      sym (ap prev_in at_z) ∙ ap (prev_at e) (sym same) ∙ ap prev_in at_w in
      (same, segment-front e None a zs (z ∷ []) s', segment-front e None a' ws (w ∷ []) t', before)

  -- before an index there is one list from a start
  pub same_from_start : (n : ℕ) (xs ys : List ℕ) (a a' : Option ℕ) → length xs < n
      → IsSegment e None xs a → IsSegment e None ys a'
      → last_or None xs ≡ last_or None ys → xs ≡ ys
  same_from_start zero xs ys a a' fits s t lasts = absurd (omega (arith, fits))
  same_from_start (suc n) xs ys a a' fits s t lasts = by (same_from_start n) (ended xs) (ended ys)
    where
      by : ((us vs : List ℕ) (b b' : Option ℕ) → length us < n → IsSegment e None us b
          → IsSegment e None vs b' → last_or None us ≡ last_or None vs → us ≡ vs)
          → Ended xs → Ended ys → xs ≡ ys
      by shorter (none is) (none is') = is ∙ sym is'
      by shorter (none is) (some_last zs z is') =
          absurd (let no : None ≡ Some z =
          sym (ap (last_or None) is) ∙ lasts ∙ ap (last_or None) is' ∙ last_of zs z in cc)
      by shorter (some_last zs z is) (none is') =
          absurd (let no : Some z ≡ None =
          sym (last_of zs z) ∙ sym (ap (last_or None) is) ∙ lasts ∙ ap (last_or None) is' in cc)
      by shorter (some_last zs z is) (some_last ws w is') =
          let b = before_last xs ys zs ws z w a a' is is' s t lasts in
          let long = ap length is in
          let sizes = length-append zs (z ∷ []) in
          let rest = shorter zs ws (Some z) (Some w)
          (omega (arith, long, sizes, fits)) b.1 b.2 b.3 in
          is ∙ ap (λ l. l ++ z ∷ []) rest ∙ ap (λ u. ws ++ u ∷ []) (sym b.0) ∙ sym is'

  -- a linear chain has each index once
  pub linear_apart : (b : Option ℕ) (xs : List ℕ) → IsSegment e b xs None → Apart xs
  linear_apart b [] s = tt
  linear_apart b (x ∷ xs) s =
      elim (off_or_on xs x) [
        | inl off ↦ (off, linear_apart (Some x) xs s.1)
        | inr on ↦
            let t : IsSegment e (Some x) (on.front ++ x ∷ on.back) None =
            subst (λ l. IsSegment e (Some x) l None) on.is s.1 in
            let again = segment-back e (Some x) None on.front (x ∷ on.back) t in
            let same = same_to_end b (last_or (Some x) on.front) x xs on.back s again in
            let whole = ap length on.is in
            let short = ap length same in
            let sizes = length-append on.front (x ∷ on.back) in
            absurd (omega (arith, whole, short, sizes))
      ]

  -- what follows an index of a ring is on it
  ring_goes_on : (b : Option ℕ) (i x : ℕ) (xs : List ℕ) → IsSegment e b (i ∷ xs) (Some i)
      → On (i ∷ xs) x → (z : ℕ) × (next_at e x ≡ Some z) × On (i ∷ xs) z
  ring_goes_on b i x xs s on = by on.back on.is
    where
      by : (back : List ℕ) → i ∷ xs ≡ on.front ++ x ∷ back → (z : ℕ) × (next_at e x ≡ Some z)
          × On (i ∷ xs) z
      by [] is =
          let t = subst (λ l. IsSegment e b l (Some i)) is s in (
            i,
            ap next_in (segment-back e b (Some i) on.front (x ∷ []) t).0,
            record {
              front = [];
              back = xs;
              is = refl;
            },
          )
      by (y ∷ ys) is =
          let t = subst (λ l. IsSegment e b l (Some i)) is s in (
            y,
            ap next_in (segment-back e b (Some i) on.front (x ∷ y ∷ ys) t).0,
            record {
              front = on.front ++ x ∷ [];
              back = ys;
              is = is ∙ sym (append_assoc on.front (x ∷ []) (y ∷ ys));
            },
          )

  -- no linear chain has an index of a ring
  pub ring_not_linear : (b c : Option ℕ) (i x : ℕ) (xs ys : List ℕ)
      → IsSegment e b (i ∷ xs) (Some i)
      → On (i ∷ xs) x → IsSegment e c (x ∷ ys) None → ⊥
  ring_not_linear b c i x xs [] s on t =
      let next = ring_goes_on b i x xs s on in
      let no : Some next.0 ≡ None = sym next.1 ∙ ap next_in t.0 in
      absurd (cc)
  ring_not_linear b c i x xs (y ∷ ys) s on t =
      let next = ring_goes_on b i x xs s on in
      let both : Some next.0 ≡ Some y = sym next.1 ∙ ap next_in t.0 in
      let same : next.0 ≡ y = cc in
      ring_not_linear b (Some x) i y xs ys s (subst (On (i ∷ xs)) same next.2) t.1

  -- two readings of the chain that an index stands in are one, and have each index once
  abbrev pub IsSameChain : (i : ℕ) → Standing e i → Standing e i → Type 0
  IsSameChain i (linear before after s) (linear before' after' s') = (before ≡ before')
      × (after ≡ after') × Apart (before ++ i ∷ after)
  IsSameChain i (linear before after s) (ring after' r) = ⊥
  IsSameChain i (ring after r) (linear before' after' s') = ⊥
  IsSameChain i (ring after r) (ring after' r') = (after ≡ after') × Apart (i ∷ after)

  pub stands_once : (i : ℕ) (a b : Standing e i) → IsSameChain i a b
  stands_once i (linear before after s) (linear before' after' s') =
      let at_i = segment-back e None None before (i ∷ after) s in
      let at_i' = segment-back e None None before' (i ∷ after') s' in (
        same_from_start (suc (length before)) before before' (Some i) (Some i) (omega arith)
            (segment-front e None None before (i ∷ after) s)
            (segment-front e None None before' (i ∷ after') s')
            (sym (ap prev_in at_i.0) ∙ ap prev_in at_i'.0),
        same_to_end (last_or None before) (last_or None before') i after after' at_i at_i',
        linear_apart None (before ++ i ∷ after) s,
      )
  stands_once i (linear before after s) (ring after' r) =
      ring_not_linear (last_or None (i ∷ after')) (last_or None before) i i after' after r.stands
      (record { front = []; back = after'; is = refl })
      (segment-back e None None before (i ∷ after) s)
  stands_once i (ring after r) (linear before' after' s') =
      ring_not_linear (last_or None (i ∷ after)) (last_or None before') i i after after' r.stands
      (record { front = []; back = after; is = refl })
      (segment-back e None None before' (i ∷ after') s')
  stands_once i (ring after r) (ring after' r') = (
    same_around i (last_or None (i ∷ after)) (last_or None (i ∷ after')) i after after' r.apart.0
        r'.apart.0 r.stands r'.stands,
    r.apart,
  )

  -- an index stands in a chain, in that alone, and there once
  pub record IsInOneChain (i : ℕ) : Type 0 where
    pub stands : Standing e i
    pub once : (other : Standing e i) → IsSameChain i stands other
