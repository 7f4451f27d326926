-- The canonical layout of an ordered arena.
use Rattle.std.proofs.Common.{◌≡◌, ◌≢◌, ℕ, zero, suc, ◌+◌, ◌<◌, ◌≤◌, Bool, List, [], ◌∷◌, ◌++◌}
use Rattle.std.proofs.Common.{length, map, Option, Some, None, IsSome, refl, sym, ap, subst, ◌∙◌}
use Rattle.std.proofs.Common.{arith}
use Rattle.std.specs.Option.{option_map}
use Rattle.std.specs.List.{range_with_len}
use Rattle.std.proofs.lemmas.List.FromFn.{length-range_with_len}
use Rattle.triple_arena.specs.Compression.{renewed}
use Rattle.triple_arena.specs.Content.{Content, live_count}
use Rattle.triple_arena_chain.specs.LinkShape.{IndexLink}
use Rattle.linked_lists.specs.LinkedLists.{Ends, first_or, last_or, On, IsLinear, IsRing}
use Rattle.linked_lists.specs.ChainLaws.{On-first, linear_same, ring_or_linear, live_on}
use Rattle.linked_lists.specs.Chains.{Chain, Linear, Cyclic, all_members, AreAllChainsOf}
use Rattle.triple_arena_chain.specs.Links.{ends_in, values_in}
use Rattle.triple_arena_chain.specs.CanonicalLayout.{IsLaidOut, IsCanonical}
use Rattle.rank_tree.specs.Halving.{IsHalvingOf}
use Rattle.triple_arena_ord.specs.NodeShape.{IndexNode}
use Rattle.triple_arena_ord.specs.Node.{nodes_in, itemed, rest}
use Rattle.triple_arena_ord.specs.Ordered.{Ordered, IsOrdered, size_in, tree_in, order_in}
use Rattle.triple_arena_ord.specs.Rebuilt.{IsRebuilt}
use Rattle.triple_arena_ord.specs.CanonicalLayout.{IsLaidInOrder}
use Rattle.triple_arena_ord.proofs.RenamedListLemmas.{list_linear, list_long, on_list, rewritten}

-- the beginning of a run is a run
run-front : (xs ys : List ℕ) (u n : ℕ) → xs ++ ys ≡ range_with_len u n
    → xs ≡ range_with_len u (length xs)
run-front [] ys u n is = refl
run-front (x ∷ xs) ys u zero is = absurd (cc)
run-front (x ∷ xs) ys u (suc n) is =
    let first : x ≡ u = cc in
    let others : xs ++ ys ≡ range_with_len (u + 1) n = cc in
    ap (λ y. y ∷ xs) first ∙ ap (λ l. u ∷ l) (run-front xs ys (u + 1) n others)

pub run_last : (b : Option ℕ) (u m : ℕ) → last_or b (range_with_len u (suc m)) ≡ Some (u + m)
run_last b u zero = ap Some (omega arith)
run_last b u (suc m) = run_last (Some u) (u + 1) m ∙ ap Some (omega arith)

-- where all live indexes are in one linear chain, and the layout is canonical, that chain is the
-- run
one_run : (e : ℕ → Option Ends) (n : ℕ) (ys : List ℕ) → IsLaidOut e n → IsLinear e ys
    → ((i : ℕ) → IsSome (e i) → On ys i) → length ys ≡ n → ys ≡ range_with_len 1 n
one_run e n ys laid linear all long = by laid.chains laid.are.chains laid.runs
  where
    by_list : (xs zs : List ℕ) → IsLinear e xs → xs ≢ [] → xs ++ zs ≡ range_with_len 1 n
        → ys ≡ range_with_len 1 n
    by_list [] zs s filled runs = absurd (filled refl)
    by_list (x ∷ xs) zs s filled runs =
        let on = all x (live_on e None None (x ∷ xs) x s (On-first x xs)) in
        let same = linear_same e (x ∷ xs) ys x s linear (On-first x xs) on in
        let front = run-front (x ∷ xs) zs 1 n runs in
        sym same ∙ front ∙ ap (range_with_len 1) (ap length same ∙ long)

    by_ring : (xs : List ℕ) → IsRing e xs → (first : ℕ) → first_or xs None ≡ Some first → ⊥
    by_ring [] r first is = let no : None ≡ Some first = is in cc
    by_ring (x ∷ xs) r first is =
        let on = all x (live_on e (last_or None (x ∷ xs)) (Some x) (x ∷ xs) x r.stands
        (On-first x xs)) in
        ring_or_linear e (x ∷ xs) ys x r linear (On-first x xs) on

    empty : (xs : List ℕ) → length xs ≡ 0 → xs ≡ []
    empty [] none = refl
    empty (x ∷ xs) none = absurd (omega (arith, none))

    by : (cs : List Chain) → AreAllChainsOf e cs → all_members cs ≡ range_with_len 1 n
        → ys ≡ range_with_len 1 n
    by [] are runs =
        let none : 0 ≡ n = ap length runs ∙ length-range_with_len 1 n in
        empty ys (long ∙ sym none) ∙ runs
    by (Linear xs ∷ cs) are runs = by_list xs (all_members cs) are.0.0 are.0.1 runs
    by (Cyclic xs ∷ cs) are runs = absurd (by_ring xs are.0.0 are.0.1.0 are.0.1.1)

module _ {T : Type 0} (last : Option ℕ) (reset : Bool) (o : Ordered T)
    (mid : Content (IndexLink (IndexNode T))) (is : IsOrdered o)
    (c : IsCanonical last reset o.chains mid) where
  -- the list is the run of all indexes
  list_run : map c.to (order_in o) ≡ range_with_len 1 (size_in o)
  list_run =
      one_run (ends_in mid) (size_in o) (map c.to (order_in o)) c.laid_out
      (list_linear o mid c.to is c.renamed c.live)
      (on_list o mid c.to is c.renamed c.live)
      (list_long o mid c.to is c.renamed c.live ∙ c.live)

  -- so it is the run of the live indexes
  pub run_linear : IsLinear (ends_in mid) (range_with_len 1 (live_count mid))
  run_linear = subst (IsLinear (ends_in mid)) (list_run ∙ ap (range_with_len 1) (sym c.live))
      (list_linear o mid c.to is c.renamed c.live)

  pub record Laid (new : Ordered T) : Type 0 where
    pub ordered : IsOrdered new
    pub laid : IsLaidInOrder last reset o new

  renewed_item : (g : ℕ) (x : Option (ℕ × IndexNode T))
      → option_map itemed (option_map
      (λ (e : ℕ × IndexNode T). (let y : ℕ × IndexNode T = (g, e.1) in y)) x)
      ≡ option_map (λ (e : ℕ × T). (let y : ℕ × T = (g, e.1) in y)) (option_map itemed x)
  renewed_item g None = refl
  renewed_item g (Some e) = refl

  -- what the rebuild leaves
  pub laid_by : (new : Ordered T) → rest new.chains ≡ rest mid
      → IsRebuilt (range_with_len 1 (live_count mid)) new.root (nodes_in new.chains)
      → Laid new
  laid_by new keeps b =
      let named = subst (λ l. IsRebuilt l new.root (nodes_in new.chains))
      (ap (range_with_len 1) c.live ∙ sym list_run) b in
      let w = rewritten o mid c.to is c.renamed c.live new keeps named in
      let r = w.stays in
      record {
        ordered = w.ordered;
        laid = record {
          to = c.to;
          order = w.order;
          runs = w.order ∙ list_run;
          entries = λ i on.
              r.items (c.to i)
              ∙ ap (option_map itemed)
              (c.values i (live_on (ends_in o.chains) None None (order_in o) i
              is.linear on))
              ∙ renewed_item (renewed last reset o.chains.counter) (values_in o.chains i);
          tree = subst (λ l. IsHalvingOf l (tree_in new)) (w.order ∙ list_run) w.tree;
          size = r.kept.live ∙ c.live;
          slots = r.kept.slots ∙ c.slots;
          free = r.kept.free ∙ c.free;
          counter = r.kept.counter ∙ c.counter;
          room = r.kept.room ∙ c.room;
        };
      }

pub last_of_run : (n : ℕ) → 0 < n → last_or None (range_with_len 1 n) ≡ Some n
last_of_run zero some = absurd (omega (arith, some))
last_of_run (suc m) some = run_last None 1 m ∙ ap Some (omega arith)

-- an index that is made, within what is possible
pub made : {I : Type 0} (number : I → ℕ) (o : Option I) (m n : ℕ) → ((o ≡ None) → m < n)
    → ((x : I) → o ≡ Some x → number x ≡ n) → n ≤ m → option_map number o ≡ Some n
made number None m n none same within = absurd (let past = none refl in omega (arith, past, within))
made number (Some x) m n none same within = ap Some (same x refl)

-- what leaves a list leaves each index of it
left_alone : (to : ℕ → ℕ) (front back : List ℕ) (i : ℕ)
    → map to (front ++ i ∷ back) ≡ front ++ i ∷ back → to i ≡ i
left_alone to [] back i same = let here : to i ≡ i = cc in here
left_alone to (x ∷ front) back i same =
    let behind : map to (front ++ i ∷ back) ≡ front ++ i ∷ back = cc in
    left_alone to front back i behind

-- a second layout leaves each index
pub laid_twice : {T : Type 0} (last : Option ℕ) (reset again : Bool)
    (before between after : Ordered T) → IsLaidInOrder last reset before between
    → (second : IsLaidInOrder last again between after) → (i : ℕ)
    → On (order_in between) i → second.to i ≡ i
laid_twice last reset again before between after first second i on =
    let same : map second.to (order_in between) ≡ order_in between =
    sym second.order ∙ second.runs ∙ ap (range_with_len 1) first.size ∙ sym first.runs in
    left_alone second.to on.front on.back i (subst (λ l. map second.to l ≡ l) on.is same)
