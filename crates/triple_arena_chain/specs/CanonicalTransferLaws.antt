-- The order of the chains in a canonical transfer is one alone, and a linear chain of all links is
-- moved as it is.
use Rattle.std.proofs.Common.{◌≡◌, ℕ, List, [], ◌∷◌, ◌++◌, map, Option, Some, None, IsSome, refl}
use Rattle.std.proofs.Common.{sym, ap, subst, ◌∙◌, arith, inl, inr, append-nil}
use Rattle.std.specs.List.{range_with_len}
use Rattle.triple_arena.specs.Content.{Content, live_count}
use Rattle.triple_arena_chain.specs.LinkShape.{IndexLink}
use Rattle.linked_lists.specs.LinkedLists.{Ends, last_or, On, Apart, IsLinear, IsRing}
use Rattle.linked_lists.specs.LinkedListLaws.{Apart-both}
use Rattle.linked_lists.specs.AllChainsLaws.{all_live}
use Rattle.linked_lists.specs.UniquenessLaws.{same_around}
use Rattle.linked_lists.specs.ChainLaws.{On-first, On-front, On-back, On-either, Apart-back}
use Rattle.linked_lists.specs.ChainLaws.{on_differs, linear_same, ring_or_linear, ring_same}
use Rattle.linked_lists.specs.ChainLaws.{live_in}
use Rattle.linked_lists.specs.Chains.{Chain, Linear, Cyclic, members, all_members, IsChainOf}
use Rattle.linked_lists.specs.Chains.{IsWritten, AreAllChainsOf, AreChains}
use Rattle.triple_arena_chain.specs.Links.{ends_in}
use Rattle.triple_arena_chain.specs.CanonicalTransfer.{AreRising, AreInOrder, IsMovedAlong}

-- a chain as it is written has an index
member_of : (c : Chain) → IsWritten c → (k : ℕ) × On (members c) k
member_of (Linear []) filled = absurd (filled refl)
member_of (Linear (x ∷ xs)) filled = (x, On-first x xs)
member_of (Cyclic []) least = absurd (let no : None ≡ Some least.0 = least.1 in cc)
member_of (Cyclic (x ∷ xs)) least = (x, On-first x xs)

module _ (e : ℕ → Option Ends) where
  -- a ring is one list from its least index on
  ring_once : (xs ys : List ℕ) (k : ℕ) → IsRing e xs → IsWritten (Cyclic xs) → IsRing e ys
      → IsWritten (Cyclic ys) → On xs k → On ys k → xs ≡ ys
  ring_once [] ys k r w s v on on' = absurd (on_differs [] k k on tt refl)
  ring_once (x ∷ xs) [] k r w s v on on' = absurd (on_differs [] k k on' tt refl)
  ring_once (x ∷ xs) (y ∷ ys) k r w s v on on' =
      let first : Some x ≡ Some w.0 = w.1 in
      let other : Some y ≡ Some v.0 = v.1 in
      let x_is : x ≡ w.0 = cc in
      let y_is : y ≡ v.0 = cc in
      let low = w.2 y (ring_same e (x ∷ xs) (y ∷ ys) k y r s on on' (On-first y ys)) in
      let high = v.2 x (ring_same e (y ∷ ys) (x ∷ xs) k x s r on' on (On-first x xs)) in
      let same : x ≡ y = omega (arith, low, high, x_is, y_is) in
      let turned = subst (λ z. IsRing e (z ∷ xs)) same r in
      ap (λ z. z ∷ xs) same
      ∙ ap (λ l. y ∷ l) (same_around e y (last_or None (y ∷ xs))
      (last_or None (y ∷ ys)) y xs ys turned.apart.0 s.apart.0 turned.stands s.stands)

  -- two chains as they are written that share an index are one
  pub written_once : (c d : Chain) (k : ℕ) → IsChainOf e c → IsWritten c → IsChainOf e d
      → IsWritten d → On (members c) k → On (members d) k → c ≡ d
  written_once (Linear xs) (Linear ys) k s w t v on on'
      = ap Linear (linear_same e xs ys k s t on on')
  written_once (Linear xs) (Cyclic ys) k s w r v on on'
      = absurd (ring_or_linear e ys xs k r s on' on)
  written_once (Cyclic xs) (Linear ys) k r w s v on on'
      = absurd (ring_or_linear e xs ys k r s on on')
  written_once (Cyclic xs) (Cyclic ys) k r w s v on on'
      = ap Cyclic (ring_once xs ys k r w s v on on')

  -- an index that is behind the first of these chains
  behind : (c : Chain) (cs ds : List Chain) → Apart (members c ++ all_members cs)
      → ((i : ℕ) → On (members c ++ all_members cs) i → On (members c ++ all_members ds) i)
      → (i : ℕ) → On (all_members cs) i → On (all_members ds) i
  behind c cs ds apart within i on =
      elim (On-either (members c) (all_members ds) i
      (within i (On-back (members c) (all_members cs) i on))) [
        | inl here ↦ absurd (Apart-both (members c) (all_members cs) i apart here on)
        | inr there ↦ there
      ]

  order_once : (cs ds : List Chain) → AreAllChainsOf e cs → AreAllChainsOf e ds
      → Apart (all_members cs) → Apart (all_members ds) → AreRising cs → AreRising ds
      → ((i : ℕ) → On (all_members cs) i → On (all_members ds) i)
      → ((i : ℕ) → On (all_members ds) i → On (all_members cs) i) → cs ≡ ds
  order_once [] [] are are' once once' rising rising' within within' = refl
  order_once [] (d ∷ ds) are are' once once' rising rising' within within' =
      let m = member_of d are'.0.1 in absurd
      (on_differs [] m.0 m.0
      (within' m.0 (On-front (members d) (all_members ds) m.0 m.1)) tt refl)
  order_once (c ∷ cs) [] are are' once once' rising rising' within within' =
      let m = member_of c are.0.1 in absurd
      (on_differs [] m.0 m.0
      (within m.0 (On-front (members c) (all_members cs) m.0 m.1)) tt refl)
  order_once (c ∷ cs) (d ∷ ds) are are' once once' rising rising' within within' =
      let same : c ≡ d =
      elim (On-either (members d) (all_members ds) rising.0.0
      (within rising.0.0 (On-front (members c) (all_members cs) rising.0.0 rising.0.1))) [
        | inl both ↦ written_once c d rising.0.0 are.0.0 are.0.1 are'.0.0 are'.0.1 rising.0.1 both
        | inr later ↦
            elim (On-either (members c) (all_members cs) rising'.0.0
            (within' rising'.0.0 (On-front (members d)
            (all_members ds) rising'.0.0 rising'.0.1))) [
              | inl both ↦ written_once c d rising'.0.0 are.0.0 are.0.1 are'.0.0 are'.0.1
                  both rising'.0.1
              | inr later' ↦ absurd
                  (let less = rising'.0.2 rising.0.0 later in let more =
                  rising.0.2 rising'.0.0 later' in omega (arith, less, more))
            ]
      ] in
      ap (λ x. x ∷ cs) same
      ∙ ap (λ l. d ∷ l)
      (order_once cs ds are.1 are'.1 (Apart-back (members c) (all_members cs) once)
      (Apart-back (members d) (all_members ds) once') rising.1 rising'.1
      (behind c cs ds once (λ i on. subst (λ x. On (members x ++ all_members ds) i) (sym same)
      (within i on)))
      (behind d ds cs once'
      (λ i on. subst (λ x. On (members x ++ all_members cs) i) same (within' i on))))

  -- the chains have one order
  pub in_order_once : (cs ds : List Chain) → AreInOrder e cs → AreInOrder e ds → cs ≡ ds
  in_order_once cs ds c d =
      order_once cs ds c.are.chains d.are.chains c.are.once d.are.once c.rising d.rising
      (λ i on. d.are.whole i (all_live e cs i c.are.chains on))
      (λ i on. c.are.whole i (all_live e ds i d.are.chains on))

  -- where one linear chain has all live indexes, it is the order
  pub linear_in_order : (w : List ℕ) (cs : List Chain) → AreChains e cs → IsLinear e w
      → ((i : ℕ) → IsSome (e i) → On w i) → all_members cs ≡ w
  linear_in_order w cs are linear whole = by cs are.chains are.once are.whole
    where
      empty : (v : List ℕ) → IsLinear e v → ((i : ℕ) → IsSome (e i) → On [] i) → [] ≡ v
      empty [] s none = refl
      empty (x ∷ v) s none = absurd
          (on_differs [] x x (none x (live_in e (Linear (x ∷ v)) x s (On-first x v))) tt refl)

      shared : (c : Chain) → IsChainOf e c → (k : ℕ) → On (members c) k → On w k
      shared c is k on = whole k (live_in e c k is on)

      by_chain : (c : Chain) → IsChainOf e c → IsWritten c → members c ≡ w
      by_chain c is written = ap members (one_of c is (member_of c written))
        where
          one_of : (c : Chain) → IsChainOf e c → (k : ℕ) × On (members c) k → c ≡ Linear w
          one_of (Linear xs) s m
              = ap Linear (linear_same e xs w m.0 s linear m.1
              (whole m.0 (live_in e (Linear xs) m.0 s m.1)))
          one_of (Cyclic xs) r m
              = absurd (ring_or_linear e xs w m.0 r linear m.1
              (whole m.0 (live_in e (Cyclic xs) m.0 r m.1)))

      by : (ds : List Chain) → AreAllChainsOf e ds → Apart (all_members ds)
          → ((i : ℕ) → IsSome (e i) → On (all_members ds) i) → all_members ds ≡ w
      by [] chains once all = empty w linear all
      by (c ∷ []) chains once all = append-nil (members c) ∙ by_chain c chains.0.0 chains.0.1
      by (c ∷ d ∷ ds) chains once all =
          let m = member_of d chains.1.0.1 in
          let first = by_chain c chains.0.0 chains.0.1 in
          let here = subst (λ l. On l m.0) (sym first) (shared d chains.1.0.0 m.0 m.1) in
          absurd (Apart-both (members c) (members d ++ all_members ds) m.0 once here
          (On-front (members d) (all_members ds) m.0 m.1))

module _ {U T : Type 0} (order : List (ℕ × (ℕ × U)))
    (old : Content (IndexLink U)) (new : Content (IndexLink T))
    (w : List ℕ) (linear : IsLinear (ends_in old) w)
    (whole : (i : ℕ) → IsSome (ends_in old i) → On w i)
    (m : IsMovedAlong order old new) where
  -- where all links stand in one linear chain, they are moved in its order
  pub linear_order : all_members m.chains ≡ w
  linear_order = linear_in_order (ends_in old) w m.chains m.in_order.are linear whole

  -- each goes to the next index, from 1 on
  pub linear_run : map m.to w ≡ range_with_len 1 (live_count old)
  linear_run = sym (ap (map m.to) linear_order) ∙ m.runs

  -- and the new chain is those indexes
  pub linear_moved : IsLinear (ends_in new) (range_with_len 1 (live_count old))
  linear_moved = subst (IsLinear (ends_in new)) linear_run
      (m.renamed.lists (Linear w) linear)
