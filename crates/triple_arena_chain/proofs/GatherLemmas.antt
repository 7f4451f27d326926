-- A chain that is brought to successive indexes, one link after another.
use Rattle.std.proofs.Common.{◌≡◌, ◌≢◌, ℕ, zero, suc, ◌+◌, ◌-◌, ◌<◌, ◌≤◌, List, [], ◌∷◌, ◌++◌, map}
use Rattle.std.proofs.Common.{Option, Some, None, IsSome, is_some, option_map, true≢false, refl}
use Rattle.std.proofs.Common.{sym, ap, subst, ◌∙◌, arith, inl, inr}
use Rattle.std.specs.List.{range_with_len}
use Rattle.std.proofs.lemmas.Bool.Decides.{eqb_tells, leb_tells}
use Rattle.linked_lists.specs.LinkedLists.{Ends, next_in, prev_in, next_at, prev_at, IsAgreed}
use Rattle.linked_lists.specs.LinkedLists.{first_or, On, IsRing}
use Rattle.linked_lists.specs.ChainLaws.{On-first, On-back, Follows, Follows-append}
use Rattle.linked_lists.specs.ChainLaws.{Follows-live, live_next_in, live_prev_in, linear_by}
use Rattle.linked_lists.specs.ChainLaws.{ring_by, holds_next, holds_prev, turned}
use Rattle.linked_lists.specs.Chains.{Chain, Linear, Cyclic, members, IsChainOf}
use Rattle.triple_arena_chain.specs.Renaming.{ends_renamed, FollowsRenaming}
use Rattle.triple_arena_chain.specs.CanonicalLayout.{IsHead, IsClosed}
use Rattle.triple_arena_chain.proofs.RunLemmas.{run-append, run-on, run-off, run-within}

module _ (to : ℕ → ℕ) (e e' : ℕ → Option Ends) (r : FollowsRenaming to e e') where
  next_some : (o : Option Ends)
      → next_in (option_map (ends_renamed to) o) ≡ option_map to (next_in o)
  next_some None = refl
  next_some (Some v) = refl

  prev_some : (o : Option Ends)
      → prev_in (option_map (ends_renamed to) o) ≡ option_map to (prev_in o)
  prev_some None = refl
  prev_some (Some v) = refl

  some_some : (o : Option Ends) → IsSome o → IsSome (option_map (ends_renamed to) o)
  some_some None some = absurd (true≢false (sym some))
  some_some (Some v) some = refl

  pub next_moved : (i : ℕ) → IsSome (e i) → next_at e' (to i) ≡ option_map to (next_at e i)
  next_moved i some = ap next_in (r.ends i some) ∙ next_some (e i)

  pub prev_moved : (i : ℕ) → IsSome (e i) → prev_at e' (to i) ≡ option_map to (prev_at e i)
  prev_moved i some = ap prev_in (r.ends i some) ∙ prev_some (e i)

  pub some_moved : (i : ℕ) → IsSome (e i) → IsSome (e' (to i))
  some_moved i some = ap is_some (r.ends i some) ∙ some_some (e i) some

  -- a list whose indexes keep their names
  pub follows_moved : (xs : List ℕ) (a : Option ℕ) → ((k : ℕ) → On xs k → to k ≡ k) → Follows e xs a
      → Follows e' xs (option_map to a)
  follows_moved [] a fixed f = tt
  follows_moved (x ∷ xs) a fixed f =
      let here : to x ≡ x = fixed x (On-first x xs) in (
        (
          subst (λ k. IsSome (e' k)) here (some_moved x f.0.0),
          ap (next_at e') (sym here) ∙ next_moved x f.0.0 ∙ ap (option_map to) f.0.1
              ∙ firsts xs (λ k on. fixed k (On-back (x ∷ []) xs k on)),
        ),
        follows_moved xs a (λ k on. fixed k (On-back (x ∷ []) xs k on)) f.1,
      )
    where
      firsts : (ys : List ℕ) → ((k : ℕ) → On ys k → to k ≡ k)
          → option_map to (first_or ys a) ≡ first_or ys (option_map to a)
      firsts [] keeps = refl
      firsts (y ∷ ys) keeps = ap Some (keeps y (On-first y ys))

  pub head_moved : (i j : ℕ) → to i ≡ j → IsSome (e i) → IsHead e i → IsHead e' j
  head_moved i j is some (inl none) =
      inl (ap (prev_at e') (sym is) ∙ prev_moved i some ∙ ap (option_map to) none)
  head_moved i j is some (inr ring) =
      inr (
        map to ring.0,
        subst (λ k. IsRing e' (k ∷ map to ring.0)) is (r.lists (Cyclic (i ∷ ring.0)) ring.1),
      )

  module _ (live : (k : ℕ) → IsSome (e' k) → IsSome (e k)) (low : ℕ)
      (fixed : (i : ℕ) → i ≤ low → to i ≡ i) where
    -- what comes up to a bound was there before
    kept_low : (i : ℕ) → IsSome (e i) → to i ≤ low → i ≤ low
    kept_low i some at =
        let stays : to (to i) ≡ to i = fixed (to i) at in
        let same : to i ≡ i = r.apart (to i) i (live (to i) (some_moved i some)) some stays in
        subst (λ k. k ≤ low) same at

    moved_low : (i : ℕ) → i ≤ low → to i ≤ low
    moved_low i at = subst (λ k. k ≤ low) (sym (fixed i at)) at

    -- a next in the new interlinks, under the old names
    record Was (p q : ℕ) : Type 0 where
      from : ℕ
      into : ℕ
      some : IsSome (e from)
      goes : next_at e from ≡ Some into
      is_from : to from ≡ p
      is_into : to into ≡ q

    was : (p q : ℕ) → next_at e' p ≡ Some q → Was p q
    was p q goes = let name = r.onto p (live_next_in (e' p) q goes) in
        by name.0 name.1 name.2 (next_at e name.0) refl
      where
        by : (i : ℕ) → IsSome (e i) → to i ≡ p → (o : Option ℕ) → next_at e i ≡ o → Was p q
        by i some is None at =
            absurd (let no : Some q ≡ None = sym goes ∙ ap (next_at e') (sym is) ∙ next_moved i some
            ∙ ap (option_map to) at in cc)
        by i some is (Some j) at =
            let both : Some q ≡ Some (to j) = sym goes ∙ ap (next_at e') (sym is)
            ∙ next_moved i some ∙ ap (option_map to) at in
            record { from = i; into = j; some = some; goes = at; is_from = is; is_into = cc }

    pub closed_moved : IsAgreed e → IsClosed e low → IsClosed e' low
    closed_moved agreed closed =
        record {
          on = λ p q goes within.
              let w = was p q goes in
              let from : w.from ≤ low =
              kept_low w.from w.some (subst (λ k. k ≤ low) (sym w.is_from) within) in
              subst (λ k. k ≤ low) w.is_into
              (moved_low w.into (closed.on w.from w.into w.goes from));
          back = λ p q goes within.
              let w = was p q goes in
              let there : IsSome (e w.into) =
              live_prev_in (e w.into) w.from (agreed.forward w.from w.into w.goes) in
              let into : w.into ≤ low =
              kept_low w.into there (subst (λ k. k ≤ low) (sym w.is_into) within) in
              subst (λ k. k ≤ low) w.is_from
              (moved_low w.from (closed.back w.from w.into w.goes into));
        }

-- the links from the one behind `first` to the last placed one follow one another, and begin where
-- their chain does
pub record IsOpen (e : ℕ → Option Ends) (first placed : ℕ) : Type 0 where
  pub count : ℕ
  pub placed_is : placed ≡ first + 1 + count
  pub follows : Follows e (range_with_len (first + 1) (count + 1)) (next_at e placed)
  pub head : IsHead e (first + 1)
  pub closed : IsClosed e first

module _ (e : ℕ → Option Ends) (agreed : IsAgreed e) where
  pub open_first : (first : ℕ) → IsSome (e (first + 1)) → IsHead e (first + 1) → IsClosed e first
      → IsOpen e first (first + 1)
  open_first first some head closed =
      record {
        count = 0;
        placed_is = omega arith;
        follows = ((some, refl), tt);
        head = head;
        closed = closed;
      }

  -- an index of the run that is not its last has the next one
  follows_next : (u m p : ℕ) (a : Option ℕ) → Follows e (range_with_len u m) a → u ≤ p
      → p + 1 < u + m → next_at e p ≡ Some (p + 1)
  follows_next u zero p a f low high = absurd (omega (arith, low, high))
  follows_next u (suc zero) p a f low high = absurd (omega (arith, low, high))
  follows_next u (suc (suc m)) p a f low high =
      elim (eqb_tells u p) [
        | inl same ↦ ap (next_at e) (sym same.1) ∙ f.0.1 ∙ ap (λ v. Some (v + 1)) same.1
        | inr other ↦ let differs : u ≢ p = other.1 in
            follows_next (u + 1) (suc m) p a f.1 (omega (arith, differs, low)) (omega (arith, high))
      ]

  module _ (first placed : ℕ) (o : IsOpen e first placed) where
    pub in_run : (p : ℕ) → first < p → p < placed → next_at e p ≡ Some (p + 1)
    in_run p low high =
        let is = o.placed_is in
        follows_next (first + 1) (o.count + 1) p (next_at e placed) o.follows (omega (arith, low))
        (omega (arith, high, is))

    pub placed_live : IsSome (e placed)
    placed_live =
        let is = o.placed_is in
        Follows-live e (next_at e placed) (range_with_len (first + 1) (o.count + 1)) placed
        o.follows
        (run-on (first + 1) (o.count + 1) placed (omega (arith, is)) (omega (arith, is)))

    -- the next of the last placed one is past it, unless it is the first
    pub next_past : (j : ℕ) → next_at e placed ≡ Some j → j ≢ first + 1 → placed < j
    next_past j goes other =
        let is = o.placed_is in
        elim (leb_tells j placed) [
          | inr past ↦ past.1
          | inl within ↦
              elim (leb_tells j first) [
                | inl low ↦ absurd (let back = o.closed.back placed j goes low.1 in
                    omega (arith, back, is))
                | inr high ↦
                    absurd (
                    let before : next_at e (j - 1) ≡ Some j =
                    in_run (j - 1) (omega (arith, high.1, other)) (omega (arith, within.1, high.1))
                    ∙ ap Some (omega (arith, high.1)) in
                    let one = agreed.forward placed j goes in
                    let two = agreed.forward (j - 1) j before in
                    let both : Some placed ≡ Some (j - 1) = sym one ∙ two in
                    let same : placed ≡ j - 1 = cc in
                    omega (arith, same, within.1, high.1)
                    )
              ]
        ]

    -- a ring has all that is placed
    on_ring : (xs : List ℕ) → IsRing e ((first + 1) ∷ xs) → (n : ℕ) → first + 1 + n ≤ placed
        → On ((first + 1) ∷ xs) (first + 1 + n)
    on_ring xs ring zero within =
        subst (On ((first + 1) ∷ xs)) (omega arith) (On-first (first + 1) xs)
    on_ring xs ring (suc n) within =
        let goes : next_at e (first + 1 + n) ≡ Some (first + 1 + suc n) =
        in_run (first + 1 + n) (omega arith) (omega (arith, within)) ∙ ap Some (omega arith) in
        holds_next e (Cyclic ((first + 1) ∷ xs)) (first + 1 + n) (first + 1 + suc n) ring
        (on_ring xs ring n (omega (arith, within))) goes

    ring_goes_on : (xs : List ℕ) → IsRing e xs → On xs placed → next_at e placed ≢ None
    ring_goes_on xs ring on none =
        let t = turned e on.front placed on.back (subst (IsRing e) on.is ring) in
        by (on.back ++ on.front) (ap next_in t.stands.0)
      where
        by : (ys : List ℕ) → next_at e placed ≡ first_or ys (Some placed) → ⊥
        by [] is = let no : None ≡ Some placed = sym none ∙ is in cc
        by (y ∷ ys) is = let no : None ≡ Some y = sym none ∙ is in cc

    starts : next_at e placed ≡ None → prev_at e (first + 1) ≡ None
    starts none = by o.head
      where
        by : IsHead e (first + 1) → prev_at e (first + 1) ≡ None
        by (inl is) = is
        by (inr ring) =
            let is = o.placed_is in
            let on : On ((first + 1) ∷ ring.0) placed =
            subst (On ((first + 1) ∷ ring.0)) (sym is)
            (on_ring ring.0 ring.1 o.count (omega (arith, is))) in
            absurd (ring_goes_on ((first + 1) ∷ ring.0) ring.1 on none)

    pub done_linear : next_at e placed ≡ None
        → IsChainOf e (Linear (range_with_len (first + 1) (o.count + 1)))
    done_linear none =
        linear_by e agreed (range_with_len (first + 1) (o.count + 1))
        (subst (Follows e (range_with_len (first + 1) (o.count + 1))) none o.follows)
        (begins o.count)
      where
        begins : (m : ℕ) (f : ℕ) → first_or (range_with_len (first + 1) (m + 1)) None ≡ Some f
            → prev_at e f ≡ None
        begins m f is =
            let count : m + 1 ≡ suc m = omega arith in
            let both : Some (first + 1) ≡ Some f =
            sym (ap (λ n. first_or (range_with_len (first + 1) n) None) count) ∙ is in
            let same : first + 1 ≡ f = cc in
            ap (prev_at e) (sym same) ∙ starts none

    pub done_ring : next_at e placed ≡ Some (first + 1)
        → IsChainOf e (Cyclic (range_with_len (first + 1) (o.count + 1)))
    done_ring round =
        let count : suc o.count ≡ o.count + 1 = omega arith in
        subst (λ n. IsRing e (range_with_len (first + 1) n)) count
        (ring_by e agreed (first + 1) (range_with_len (first + 1 + 1) o.count)
        (subst (λ n. Follows e (range_with_len (first + 1) n) (Some (first + 1))) (sym count)
        (subst (Follows e (range_with_len (first + 1) (o.count + 1))) round o.follows))
        (run-off (first + 1 + 1) o.count (first + 1) (inl (omega arith))))

    -- the chains up to the last placed index are whole, once the last chain is
    pub closed_done : (c : Chain) → IsChainOf e c
        → members c ≡ range_with_len (first + 1) (o.count + 1) → IsClosed e placed
    closed_done c chain is =
        let at = o.placed_is in
        record {
          on = λ p q goes within.
              elim (leb_tells p first) [
                | inl low ↦ let more = o.closed.on p q goes low.1 in omega (arith, more, at)
                | inr high ↦
                    let on : On (members c) q =
                    holds_next e c p q chain
                    (subst (λ l. On l p) (sym is)
                    (run-on (first + 1) (o.count + 1) p (omega (arith, high.1))
                    (omega (arith, within, at)))) goes in
                    let inside = run-within (first + 1) (o.count + 1) q (subst (λ l. On l q) is on)
                    in
                    omega (arith, inside.1, at)
              ];
          back = λ p q goes within.
              elim (leb_tells q first) [
                | inl low ↦ let more = o.closed.back p q goes low.1 in omega (arith, more, at)
                | inr high ↦
                    let on : On (members c) p =
                    holds_prev e c q p chain (subst (λ l. On l q) (sym is)
                    (run-on (first + 1) (o.count + 1) q (omega (arith, high.1))
                    (omega (arith, within, at)))) (agreed.forward p q goes) in
                    let inside = run-within (first + 1) (o.count + 1) p (subst (λ l. On l p) is on)
                    in
                    omega (arith, inside.1, at)
              ];
        }

-- one link more is placed
pub open_more : (to : ℕ → ℕ) (e e' : ℕ → Option Ends) → FollowsRenaming to e e'
    → ((k : ℕ) → IsSome (e' k) → IsSome (e k)) → IsAgreed e → (first placed j : ℕ)
    → IsOpen e first placed → ((i : ℕ) → i ≤ placed → to i ≡ i) → next_at e placed ≡ Some j
    → to j ≡ placed + 1 → IsAgreed e' → IsOpen e' first (placed + 1)
open_more to e e' r live agreed first placed j o fixed goes is agreed' =
    let at = o.placed_is in
    let some = placed_live e agreed first placed o in
    let next : next_at e' placed ≡ Some (placed + 1) =
    ap (next_at e') (sym (fixed placed (omega arith))) ∙ next_moved to e e' r placed some
    ∙ ap (option_map to) goes ∙ ap Some is in
    let there : IsSome (e' (placed + 1)) =
    live_prev_in (e' (placed + 1)) placed (agreed'.forward placed (placed + 1) next) in
    let behind : first + 1 + (o.count + 1) ≡ placed + 1 = omega (arith, at) in
    let front : Follows e' (range_with_len (first + 1) (o.count + 1)) (Some (placed + 1)) =
    subst (Follows e' (range_with_len (first + 1) (o.count + 1)))
    (ap (option_map to) goes ∙ ap Some is)
    (follows_moved to e e' r (range_with_len (first + 1) (o.count + 1)) (next_at e placed)
    (λ k on. let inside = run-within (first + 1) (o.count + 1) k on in
    fixed k (omega (arith, inside.1, at))) o.follows) in
    let whole : Follows e' (range_with_len (first + 1) (o.count + 1) ++ (placed + 1) ∷ [])
    (next_at e' (placed + 1)) =
    Follows-append e' (next_at e' (placed + 1)) (range_with_len (first + 1) (o.count + 1))
    ((placed + 1) ∷ []) front ((there, refl), tt) in
    let run : range_with_len (first + 1) (o.count + 1) ++ (placed + 1) ∷ []
    ≡ range_with_len (first + 1) (o.count + 1 + 1) =
    ap (λ v. range_with_len (first + 1) (o.count + 1) ++ v ∷ []) (sym behind)
    ∙ sym (run-append (first + 1) (o.count + 1) 1) in
    record {
      count = o.count + 1;
      placed_is = omega (arith, at);
      follows = subst (λ l. Follows e' l (next_at e' (placed + 1))) run whole;
      head =
          head_moved to e e' r (first + 1) (first + 1) (fixed (first + 1) (omega (arith, at)))
          (Follows-live e (next_at e placed) (range_with_len (first + 1) (o.count + 1)) (first + 1)
          o.follows
          (run-on (first + 1) (o.count + 1) (first + 1) (omega arith) (omega arith)))
          o.head;
      closed = closed_moved to e e' r live first (λ i low. fixed i (omega (arith, low, at))) agreed
          o.closed;
    }
