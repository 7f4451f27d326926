-- Indexes that are renamed: the rank of an index among the live ones, and what interlinks that
-- follow a renaming are.
use Rattle.std.proofs.Common.{◌≡◌, ℕ, zero, suc, ◌+◌, ◌<◌, ◌≤◌, Bool, true, false, if◌then◌else◌}
use Rattle.std.proofs.Common.{List, [], ◌∷◌, map, get_or, Option, Some, None, is_some, IsSome}
use Rattle.std.proofs.Common.{option_map, inl, inr, refl, sym, ap, subst, ◌∙◌, arith}
use Rattle.std.specs.Prelude.{slice_get}
use Rattle.std.proofs.lemmas.Bool.Decides.{leb_tells}
use Rattle.triple_arena.specs.Content.{Content, entry_at}
use Rattle.triple_arena.specs.LiveEntries.{listed_from}
use Rattle.linked_lists.specs.LinkedLists.{Ends, next_at, prev_at, IsAgreed, first_or, last_or}
use Rattle.linked_lists.specs.LinkedLists.{IsSegment, Off, On, Apart}
use Rattle.linked_lists.specs.LinkedListLaws.{On-cons}
use Rattle.linked_lists.specs.ChainLaws.{of_live, live_next_in, live_prev_in, live_on}
use Rattle.linked_lists.specs.ChainLaws.{On-first}
use Rattle.linked_lists.specs.Chains.{Chain, Linear, Cyclic, IsChainOf}
use Rattle.triple_arena_chain.specs.Renaming.{live_below, renamed, ends_renamed, FollowsRenaming}
use Rattle.triple_arena_chain.specs.RenamingLaws.{live_below-same}

one_or_none : (b : Bool) → (if b then 1 else 0) ≤ 1
one_or_none true = omega arith
one_or_none false = omega arith

module _ {A : Type 0} (at : ℕ → Option A) where
  pub live_below-live : (i : ℕ) → IsSome (at i) → live_below at (suc i) ≡ live_below at i + 1
  live_below-live i live = rw live refl

  pub live_below-none : (i : ℕ) → at i ≡ None → live_below at (suc i) ≡ live_below at i
  live_below-none i none = rw none (omega arith)

  -- where none is live between two indexes their ranks are the same
  pub live_below-flat : (low i : ℕ) → low ≤ i → ((j : ℕ) → low ≤ j → j < i → at j ≡ None)
      → live_below at i ≡ live_below at low
  live_below-flat low zero within none = let is : low ≡ 0 = omega (arith, within) in rw is refl
  live_below-flat low (suc i) within none =
      elim (leb_tells low i) [
        | inl below ↦
            live_below-none i (none i below.1 (omega arith))
            ∙ live_below-flat low i below.1
            (λ j above under. none j above (omega (arith, under)))
        | inr above ↦ let is : suc i ≡ low = omega (arith, within, above.1) in ap (live_below at) is
      ]

  -- where all before an index are live it has its own number
  pub live_below_full : (i : ℕ) → at 0 ≡ None → ((j : ℕ) → 1 ≤ j → j < i → IsSome (at j)) → 1 ≤ i
      → live_below at i + 1 ≡ i
  live_below_full zero none live one = absurd (omega (arith, one))
  live_below_full (suc zero) none live one = let first = live_below-none 0 none in
      omega (arith, first)
  live_below_full (suc (suc n)) none live one =
      let rest = live_below_full (suc n) none (λ j low high. live j low (omega (arith, high)))
      (omega arith) in
      let here = live_below-live (suc n) (live (suc n) (omega arith) (omega arith)) in
      omega (arith, rest, here)

  -- where index 0 is not live, a live index has fewer live ones below it than its number
  pub live_below-below : at 0 ≡ None → (i : ℕ) → live_below at (suc i) ≤ i
  live_below-below none zero = rw none (omega arith)
  live_below-below none (suc i) =
      let rest = live_below-below none i in
      let one = one_or_none (is_some (at (suc i))) in
      omega (arith, rest, one)

  live_below-up : (i j : ℕ) → i ≤ j → live_below at i ≤ live_below at j
  live_below-up i zero within = let is : i ≡ 0 = omega (arith, within) in rw is (omega arith)
  live_below-up i (suc j) within =
      elim (leb_tells i j) [
        | inl below ↦ let rest = live_below-up i j below.1 in omega (arith, rest)
        | inr above ↦ let is : i ≡ suc j = omega (arith, within, above.1) in rw is (omega arith)
      ]

  -- the ranks of the live indexes rise
  pub live_below-rises : (i j : ℕ) → IsSome (at i) → i < j → live_below at i < live_below at j
  live_below-rises i j live below =
      let up = live_below-up (suc i) j (omega (arith, below)) in
      let one = live_below-live i live in
      omega (arith, up, one)

  -- and each has one of its own
  pub live_below-apart : (i j : ℕ) → IsSome (at i) → IsSome (at j)
      → live_below at i ≡ live_below at j → i ≡ j
  live_below-apart i j live live' same =
      elim (leb_tells i j) [
        | inl within ↦
            elim (leb_tells j i) [
              | inl back ↦ omega (arith, within.1, back.1)
              | inr below ↦ absurd (let rises = live_below-rises i j live below.1 in
                  omega (arith, rises, same))
            ]
        | inr above ↦ absurd (let rises = live_below-rises j i live' above.1 in
            omega (arith, rises, same))
      ]

-- the first index counted first
pub live_below-first : {A : Type 0} (at : ℕ → Option A) (k : ℕ)
    → live_below at (suc k) ≡ (if is_some (at 0) then 1 else 0) + live_below (λ j. at (suc j)) k
live_below-first at zero = omega arith
live_below-first at (suc k) = let rest = live_below-first at k in omega (arith, rest)

module _ {T : Type 0} where
  abbrev pub slot_at : List (Option (ℕ × T)) → ℕ → Option (ℕ × T)
  slot_at xs j = get_or xs j None

  -- the rank of a slot is that of its index
  pub slots_ranked : {A : Type 0} (at : ℕ → Option A) (c : Content T)
      → ((j : ℕ) → is_some (entry_at c j) ≡ is_some (at j)) → (k : ℕ)
      → live_below at (suc k) ≡ live_below (slot_at c.slots) k
  slots_ranked at c same k =
      let all = live_below-same at (entry_at c) same (suc k) in
      let first = live_below-first (entry_at c) k in
      omega (arith, all, first)

  -- a live slot is listed at its rank
  pub listed-ranked : (n k : ℕ) (xs : List (Option (ℕ × T))) (e : ℕ × T) → slot_at xs k ≡ Some e
      → slice_get (listed_from n xs) (live_below (slot_at xs) k) ≡ Some (n + k, e)
  listed-ranked n k [] e at = absurd (cc)
  listed-ranked n zero (None ∷ xs) e at = absurd (cc)
  listed-ranked n zero (Some x ∷ xs) e at =
      let same : x ≡ e = cc in
      let here : n ≡ n + 0 = omega arith in
      ap (λ m. Some (m, x)) here ∙ ap (λ y. Some (n + 0, y)) same
  listed-ranked n (suc k) (None ∷ xs) e at =
      let first = live_below-first (slot_at (None ∷ xs)) k in
      let rest : live_below (slot_at (None ∷ xs)) (suc k) ≡ live_below (slot_at xs) k =
      omega (arith, first) in
      let next : (n + 1) + k ≡ n + suc k = omega arith in
      ap (slice_get (listed_from (n + 1) xs)) rest ∙ listed-ranked (n + 1) k xs e at
      ∙ ap (λ m. Some (m, e)) next
  listed-ranked n (suc k) (Some x ∷ xs) e at =
      let first = live_below-first (slot_at (Some x ∷ xs)) k in
      let rest : live_below (slot_at (Some x ∷ xs)) (suc k) ≡ suc (live_below (slot_at xs) k) =
      omega (arith, first) in
      let next : (n + 1) + k ≡ n + suc k = omega arith in
      ap (slice_get (listed_from n (Some x ∷ xs))) rest ∙ listed-ranked (n + 1) k xs e at
      ∙ ap (λ m. Some (m, e)) next

  -- what is listed at a place stands at the slot of that rank
  pub listed-onto : (n m : ℕ) (xs : List (Option (ℕ × T))) (x : ℕ × (ℕ × T))
      → slice_get (listed_from n xs) m ≡ Some x
      → (k : ℕ) × (slot_at xs k ≡ Some x.1) × (live_below (slot_at xs) k ≡ m)
  listed-onto n m [] x at = absurd (cc)
  listed-onto n m (None ∷ xs) x at =
      let rest = listed-onto (n + 1) m xs x at in
      let first = live_below-first (slot_at (None ∷ xs)) rest.0 in
      (suc rest.0, rest.1, omega (arith, first, rest.2))
  listed-onto n zero (Some e ∷ xs) x at =
      (0, ap (λ o. option_map (λ (y : ℕ × (ℕ × T)). y.1) o) at, refl)
  listed-onto n (suc m) (Some e ∷ xs) x at =
      let rest = listed-onto (n + 1) m xs x at in
      let first = live_below-first (slot_at (Some e ∷ xs)) rest.0 in
      (suc rest.0, rest.1, omega (arith, first, rest.2))

module _ (to : ℕ → ℕ) (old new : ℕ → Option Ends) where
  -- each live index has another name, and the nexts follow
  pub record AreNextsRenamed : Type 0 where
    pub live : (i : ℕ) → IsSome (old i) → IsSome (new (to i))
    pub nexts : (i : ℕ) → IsSome (old i) → next_at new (to i) ≡ option_map to (next_at old i)
    pub onto : (k : ℕ) → IsSome (new k) → (i : ℕ) × IsSome (old i) × (to i ≡ k)

  abbrev pub IsApart : Type 0
  IsApart = (i j : ℕ) → IsSome (old i) → IsSome (old j) → to i ≡ to j → i ≡ j

  -- a next that is there, under the old indexes
  record NextOf (k m : ℕ) : Type 0 where
    from : ℕ
    into : ℕ
    live : IsSome (old from)
    goes : next_at old from ≡ Some into
    is_from : to from ≡ k
    is_into : to into ≡ m

  module _ (agreed : IsAgreed old) (r : AreNextsRenamed) where
    live_into : (i j : ℕ) → next_at old i ≡ Some j → IsSome (old j)
    live_into i j goes = live_prev_in (old j) i (agreed.forward i j goes)

    next_of : (k m : ℕ) → next_at new k ≡ Some m → NextOf k m
    next_of k m goes =
        let name = r.onto k (live_next_in (new k) m goes) in
        by_next name.0 name.1 name.2 (next_at old name.0) refl
      where
        by_next : (i : ℕ) → IsSome (old i) → to i ≡ k → (o : Option ℕ) → next_at old i ≡ o
            → NextOf k m
        by_next i live is None at =
            absurd (let no : Some m ≡ None = sym goes ∙ ap (next_at new) (sym is) ∙ r.nexts i live
            ∙ ap (option_map to) at in cc)
        by_next i live is (Some j) at =
            let there : Some m ≡ Some (to j) = sym goes ∙ ap (next_at new) (sym is) ∙ r.nexts i live
            ∙ ap (option_map to) at in
            record {
              from = i;
              into = j;
              live = live;
              goes = at;
              is_from = is;
              is_into = let same : to j ≡ m = cc in same;
            }

    -- what is named as a next is live
    pub nexts_live : (k m : ℕ) → next_at new k ≡ Some m → IsSome (new m)
    nexts_live k m goes =
        let n = next_of k m goes in
        subst (λ i. IsSome (new i)) n.is_into (r.live n.into (live_into n.from n.into n.goes))

    -- and by one alone
    pub nexts_apart : IsApart → (k l m : ℕ) → next_at new k ≡ Some m → next_at new l ≡ Some m
        → k ≡ l
    nexts_apart apart k l m goes goes' =
        let n = next_of k m goes in
        let n' = next_of l m goes' in
        let same : n.into ≡ n'.into =
        apart n.into n'.into (live_into n.from n.into n.goes) (live_into n'.from n'.into n'.goes)
        (n.is_into ∙ sym n'.is_into) in
        let one = agreed.forward n.from n.into n.goes in
        let other = agreed.forward n'.from n'.into n'.goes in
        let back : Some n.from ≡ Some n'.from = sym one ∙ ap (prev_at old) same ∙ other in
        let is : n.from ≡ n'.from = cc in
        sym n.is_from ∙ ap to is ∙ n'.is_from

    -- where the interlinks agree, the previous indexes follow too, and the chains
    pub renamed_by : IsApart → IsAgreed new → FollowsRenaming to old new
    renamed_by apart agreed' = record { ends = ends; apart = apart; onto = r.onto; lists = lists }
      where
        prevs : (i : ℕ) → IsSome (old i) → prev_at new (to i) ≡ option_map to (prev_at old i)
        prevs i live = by_prev (prev_at old i) refl
          where
            none_new : (o : Option ℕ) → prev_at new (to i) ≡ o → prev_at old i ≡ None → o ≡ None
            none_new None at none = refl
            none_new (Some m) at none =
                let n = next_of m (to i) (agreed'.backward m (to i) at) in
                let same : n.into ≡ i =
                apart n.into i (live_into n.from n.into n.goes) live n.is_into in
                absurd (let no : None ≡ Some n.from = sym none ∙ ap (prev_at old) (sym same)
                ∙ agreed.forward n.from n.into n.goes in cc)

            by_prev : (o : Option ℕ) → prev_at old i ≡ o → prev_at new (to i) ≡ option_map to o
            by_prev None at = none_new (prev_at new (to i)) refl at
            by_prev (Some h) at =
                let goes = agreed.backward h i at in
                let from = live_next_in (old h) i goes in
                agreed'.forward (to h) (to i) (r.nexts h from ∙ ap (option_map to) goes)

        ends : (i : ℕ) → IsSome (old i) → new (to i) ≡ option_map (ends_renamed to) (old i)
        ends i live =
            of_live (new (to i)) (r.live i live)
            ∙ ap (λ o. Some (o, next_at new (to i))) (prevs i live)
            ∙ ap (λ o. Some (option_map to (prev_at old i), o)) (r.nexts i live)
            ∙ ap (option_map (ends_renamed to)) (sym (of_live (old i) live))

        firsts : (xs : List ℕ) (a : Option ℕ)
            → option_map to (first_or xs a) ≡ first_or (map to xs) (option_map to a)
        firsts [] a = refl
        firsts (x ∷ xs) a = refl

        lasts : (b : Option ℕ) (xs : List ℕ)
            → option_map to (last_or b xs) ≡ last_or (option_map to b) (map to xs)
        lasts b [] = refl
        lasts b (x ∷ xs) = lasts (Some x) xs

        stands : (b a : Option ℕ) (xs : List ℕ) → IsSegment old b xs a
            → IsSegment new (option_map to b) (map to xs) (option_map to a)
        stands b a [] s = tt
        stands b a (x ∷ xs) s = (
          ends x (ap is_some s.0) ∙ ap (option_map (ends_renamed to)) s.0
              ∙ ap (λ o. Some (option_map to b, o)) (firsts xs a),
          stands (Some x) a xs s.1,
        )

        off : (x : ℕ) (xs : List ℕ) → IsSome (old x) → ((k : ℕ) → On xs k → IsSome (old k))
            → Off xs x → Off (map to xs) (to x)
        off x [] live on o = tt
        off x (y ∷ ys) live on o = (
          λ same. o.0 (apart y x (on y (On-first y ys)) live same),
          off x ys live (λ k there. on k (On-cons y k ys there)) o.1,
        )

        aparts : (xs : List ℕ) → ((k : ℕ) → On xs k → IsSome (old k)) → Apart xs → Apart (map to xs)
        aparts [] on each = tt
        aparts (x ∷ xs) on each = (
          off x xs (on x (On-first x xs)) (λ k there. on k (On-cons x k xs there)) each.0,
          aparts xs (λ k there. on k (On-cons x k xs there)) each.1,
        )

        lists : (c : Chain) → IsChainOf old c → IsChainOf new (renamed to c)
        lists (Linear xs) s = stands None None xs s
        lists (Cyclic xs) ring =
            record {
              stands = subst (λ o. IsSegment new o (map to xs) (first_or (map to xs) None))
                  (lasts None xs)
                  (subst (IsSegment new (option_map to (last_or None xs)) (map to xs))
                  (firsts xs None)
                  (stands (last_or None xs) (first_or xs None) xs ring.stands));
              apart = aparts xs (λ k there. live_on old (last_or None xs) (first_or xs None) xs k
                  ring.stands there) ring.apart;
            }
