-- What the transfers of packed arenas went along, and where the links of the stops lead then.
use Rattle.std.proofs.Common.{◌≡◌, ◌≢◌, ◌↔◌, ◌∙◌, sym, ap, subst, refl, ℕ, zero, suc, ◌+◌, ◌-◌, ◌<◌}
use Rattle.std.proofs.Common.{◌≤◌, inl, inr, List, [], ◌∷◌, ◌++◌, length, map, slice_get}
use Rattle.std.proofs.Common.{slice_index, Option, Some, None, IsSome, is_some, true, false, arith}
use Rattle.std.specs.List.{range_with_len}
use Rattle.std.specs.Option.{option_map}
use Rattle.std.proofs.lemmas.Bool.Decides.{eqb_tells}
use Rattle.triple_arena.specs.Compression.{index_of}
use Rattle.triple_arena.specs.Content.{Content, entry_at, live_count}
use Rattle.triple_arena.specs.Entries.{look_up}
use Rattle.triple_arena.specs.LiveEntries.{live_entries, entry-listed, live_entries-increase}
use Rattle.triple_arena.specs.LiveEntries.{live_entries-length}
use Rattle.triple_arena_chain.specs.LinkShape.{IndexLink}
use Rattle.linked_lists.specs.AllChainsLaws.{all_live}
use Rattle.triple_arena_chain.specs.CanonicalLayout.{IsLaidOut}
use Rattle.triple_arena_chain.specs.CanonicalLayoutLaws.{laid_same}
use Rattle.triple_arena_chain.specs.CanonicalTransfer.{AreRising, IsMovedAlong}
use Rattle.triple_arena_chain.specs.CanonicalTransferLaws.{in_order_once}
use Rattle.linked_lists.specs.LinkedLists.{Ends, On, IsAgreed, first_or, next_at, next_in}
use Rattle.linked_lists.specs.LinkedLists.{prev_at, prev_in}
use Rattle.triple_arena_chain.specs.Links.{ends_in, values_in, entry_ends}
use Rattle.linked_lists.specs.Chains.{Chain, Linear, Cyclic, members, all_members, IsWritten}
use Rattle.linked_lists.specs.Chains.{AreAllChainsOf}
use Rattle.linked_lists.specs.ChainLaws.{On-first, live_next_in, live_on, live_prev_in}
use Rattle.triple_arena_chain.specs.Renaming.{ends_renamed}
use Rattle.triple_arena_ord.specs.Ascending.{entries_along}
use Rattle.triple_arena_ord.specs.Node.{itemed}
use Rattle.triple_arena_ord.specs.NodeShape.{IndexNode}
use Rattle.triple_arena_ord.specs.Ordered.{Ordered, IsOrdered, entry_in, order_in, ordered_entries}
use Rattle.triple_arena_ord.specs.Ordered.{size_in}
use Rattle.route_book.proofs.LinkLemmas.{live_ends, live_values}
use Rattle.route_book.proofs.TransferLemmas.{along_index, beside, fixed_run, links_same}
use Rattle.route_book.proofs.TransferLemmas.{listed_index, on_run, run_on, split_run}
use Rattle.triple_arena.specs.RiseLaws.{rise_from}

-- ---- an ordered arena whose list is the indexes from 1 on

module _ {T : Type 0} (o : Ordered T) (ordered : IsOrdered o)
    (stand : (i : ℕ) → IsSome (entry_in o i) → On (order_in o) i)
    (run : order_in o ≡ range_with_len 1 (size_in o)) where
  item_live : (i : ℕ) → IsSome (ends_in o.chains i) → IsSome (entry_in o i)
  item_live i = by (entry_at o.chains i)
    where
      by : (e : Option (ℕ × IndexLink (IndexNode T)))
          → IsSome (option_map entry_ends e)
          → IsSome (option_map itemed (option_map
          (λ (l : ℕ × IndexLink (IndexNode T)). (let v : ℕ × IndexNode T = (l.0, l.1.t) in
          v)) e))
      by None some = some
      by (Some e) some = refl

  pub place_bound : (i : ℕ) → IsSome (entry_in o i) → i ≤ size_in o
  place_bound i some = let b = (on_run 1 (size_in o) i
      (subst (λ w. On w i) run (stand i some))).1 in omega (arith, b)

  pub places_along : (k : ℕ) → slice_get (ordered_entries o) k
      ≡ option_map (beside (k + 1)) (entry_in o (k + 1))
  places_along k =
      ap (λ w. slice_get (entries_along (entry_in o) w) k) run
      ∙ along_index (entry_in o) (size_in o)
      (λ i up high. item_live i (live_on (ends_in o.chains) None None
      (order_in o) i ordered.linear
      (subst (λ w. On w i) (sym run) (run_on 1 (size_in o) i up (omega (arith, high))))))
      place_bound k

-- ---- chains that are runs

first_of : (xs ys : List ℕ) (low n : ℕ) → xs ≢ [] → xs ++ ys ≡ range_with_len low n
    → On xs low × (0 < length xs)
first_of [] ys low n filled is = absurd (filled refl)
first_of (x ∷ xs) ys low zero filled is = absurd (let k = ap length is in omega (arith, k))
first_of (x ∷ xs) ys low (suc n) filled is = let same : x ≡ low = cc in
    (subst (On (x ∷ xs)) same (On-first x xs), omega arith)

filled_of : (c : Chain) → IsWritten c → members c ≢ []
filled_of (Linear xs) written = written
filled_of (Cyclic xs) written = λ none. (let no : ◌≡◌ {A = Option ℕ} None (Some written.0) =
    sym (ap (λ l. first_or l None) none) ∙ written.1 in absurd (cc))

module _ (e : ℕ → Option Ends) where
  rising_run : (cs : List Chain) (low n : ℕ) → AreAllChainsOf e cs
      → all_members cs ≡ range_with_len low n → AreRising cs
  rising_run [] low n are is = tt
  rising_run (c ∷ cs) low n are is =
      let split = split_run (members c) (all_members cs) low n is in
      let first = first_of (members c) (all_members cs) low n (filled_of c are.0.1) is in
      let some = first.1 in (
        (
          low,
          first.0,
          λ k on. (let b = (on_run (low + length (members c))
              (n - length (members c)) k (subst (λ l. On l k) split.1 on)).0 in
              omega (arith, b, some)),
        ),
        rising_run cs (low + length (members c)) (n - length (members c)) are.1 split.1,
      )

module _ {U T : Type 0} (order : List (ℕ × (ℕ × U)))
    (old : Content (IndexLink U)) (new : Content (IndexLink T))
    (m : IsMovedAlong order old new)
    (laid : IsLaidOut (ends_in old) (live_count old)) where
  -- the chains are in the order that they had
  run : all_members m.chains ≡ range_with_len 1 (live_count old)
  run =
      ap all_members (in_order_once (ends_in old) m.chains laid.chains m.in_order
      (record {
        are = laid.are;
        rising = rising_run (ends_in old) laid.chains 1
            (live_count old) laid.are.chains laid.runs;
      }))
      ∙ laid.runs

  bounds : (i : ℕ) → IsSome (ends_in old i) → (1 ≤ i) × (i < 1 + live_count old)
  bounds i some = on_run 1 (live_count old) i
      (subst (λ w. On w i) run (m.in_order.are.whole i some))

  live : (i : ℕ) → 1 ≤ i → i ≤ live_count old → IsSome (values_in old i)
  live i up high =
      live_values old i (all_live (ends_in old) m.chains i
      m.in_order.are.chains
      (subst (λ w. On w i) (sym run) (run_on 1 (live_count old) i up (omega (arith, high)))))

  pub stop_bound : (i : ℕ) → IsSome (values_in old i) → i ≤ live_count old
  stop_bound i some = let b = (bounds i (live_ends old i some)).1 in omega (arith, b)

  pub stops_along : (k : ℕ) → slice_get order k
      ≡ option_map (beside (k + 1)) (values_in old (k + 1))
  stops_along k =
      ap (λ l. slice_get l k) (m.along ∙ links_same (values_in old) (all_members m.chains)
      ∙ ap (entries_along (values_in old)) run)
      ∙ along_index (values_in old) (live_count old) live stop_bound k

  fixed : (i : ℕ) → IsSome (ends_in old i) → m.to i ≡ i
  fixed i some =
      let b = bounds i some in
      fixed_run m.to 1 (live_count old) (ap (map m.to) (sym run) ∙ m.runs) i b.0 b.1

  -- a link leads to what it led to
  pub next_same : IsAgreed (ends_in old) → (i : ℕ) → IsSome (values_in old i)
      → next_at (ends_in new) i ≡ next_at (ends_in old) i
  next_same agreed i some =
      let here = live_ends old i some in
      ap (next_at (ends_in new)) (sym (fixed i here)) ∙ ap next_in (m.renamed.ends i here)
      ∙ by (ends_in old i) refl
    where
      by : (o : Option Ends) → ends_in old i ≡ o
          → next_in (option_map (ends_renamed m.to) o) ≡ next_in o
      by None is = refl
      by (Some v) is = by_next v.1 (ap next_in is)
        where
          by_next : (o : Option ℕ) → next_at (ends_in old) i ≡ o → option_map m.to o ≡ o
          by_next None is = refl
          by_next (Some k) is = ap Some (fixed k
              (live_prev_in (ends_in old k) i (agreed.forward i k is)))

  -- all links lead where they led, so the chains are the same runs
  module _ (agreed : IsAgreed (ends_in old)) where
    kept : (i : ℕ) → IsSome (ends_in old i)
        → ends_in new i ≡ ends_in old i
    kept i here =
        ap (ends_in new) (sym (fixed i here)) ∙ m.renamed.ends i here
        ∙ by (ends_in old i) refl
      where
        back : (o : Option ℕ) → prev_at (ends_in old) i ≡ o → option_map m.to o ≡ o
        back None is = refl
        back (Some k) is = ap Some (fixed k
            (live_next_in (ends_in old k) i (agreed.backward k i is)))

        on : (o : Option ℕ) → next_at (ends_in old) i ≡ o → option_map m.to o ≡ o
        on None is = refl
        on (Some k) is = ap Some (fixed k
            (live_prev_in (ends_in old k) i (agreed.forward i k is)))

        by : (o : Option Ends) → ends_in old i ≡ o
            → option_map (ends_renamed m.to) o ≡ o
        by None is = refl
        by (Some v) is = rw (back v.0 (ap prev_in is), on v.1 (ap next_in is)) refl

    live_before : (i : ℕ) → IsSome (ends_in new i) → IsSome (ends_in old i)
    live_before i some =
        let was = m.renamed.onto i some in
        subst (λ k. IsSome (ends_in old k)) (sym (fixed was.0 was.1) ∙ was.2) was.1

    same : (i : ℕ) → ends_in new i ≡ ends_in old i
    same i = by (ends_in old i) refl (ends_in new i) refl
      where
        by : (o : Option Ends) → ends_in old i ≡ o → (n : Option Ends)
            → ends_in new i ≡ n → ends_in new i ≡ ends_in old i
        by (Some v) is n there = kept i (rw is refl)
        by None is None there = there ∙ sym is
        by None is (Some w) there = absurd (let no : false ≡ true =
            sym (ap is_some is) ∙ live_before i (rw there refl) in cc)

    pub runs_stay : IsLaidOut (ends_in new) (live_count old)
    runs_stay = laid_same (ends_in old) (ends_in new) (live_count old) same laid

-- ---- entries at the indexes from 1 on

module _ {T : Type 0} (c : Content T) (run : (i : ℕ)
    → IsSome (entry_at c i) ↔ ((1 ≤ i) × (i ≤ live_count c))) where
  from_one : (l : List (ℕ × (ℕ × T))) → look_up l 0 ≡ None → 0 < length l
      → 1 ≤ slice_index (map index_of l) 0
  from_one [] none some = absurd (omega (arith, some))
  from_one (e ∷ l) none some = elim (eqb_tells e.0 0) [
    | inl same ↦ let found : look_up (e ∷ l) 0 ≡ Some e.1 = rw same.0 refl in
        absurd (let no : ◌≡◌ {A = Option (ℕ × T)} None (Some e.1) = sym none ∙ found in cc)
    | inr other ↦ let no = other.1 in omega (arith, no)
  ]

  pub marks_along : (k : ℕ) → slice_get (live_entries c) k
      ≡ option_map (beside (k + 1)) (entry_at c (k + 1))
  marks_along =
      listed_index (entry_at c) (live_entries c) (live_count c) (entry-listed c)
      (rise_from 1 (live_entries c) (live_entries-increase c)
      (from_one (live_entries c) (sym (entry-listed c 0)))) (live_entries-length c)
      (λ i up high. (run i).1 (up, high))
