-- Chains that are brought to successive indexes, one after another.
use mathlib.Core.List.{map-map}
use Rattle.std.proofs.Common.{◌≡◌, ◌≢◌, ℕ, zero, suc, ◌+◌, ◌-◌, ◌<◌, ◌≤◌, List, [], ◌∷◌, ◌++◌}
use Rattle.std.proofs.Common.{length, map, Option, Some, None, IsSome, is_some, option_map}
use Rattle.std.proofs.Common.{true≢false, refl, sym, ap, subst, ◌∙◌, arith, inl, inr, ◌⊎◌}
use Rattle.std.proofs.Common.{append_assoc}
use Rattle.std.specs.Prelude.{count_by, cond, slice_index_or}
use Rattle.std.specs.List.{range_with_len}
use Rattle.std.proofs.lemmas.List.Sums.{sum_by-cons}
use Rattle.std.proofs.lemmas.Bool.Decides.{eqb_tells}
use Rattle.std.proofs.lemmas.List.FromFn.{length-range_with_len}
use Rattle.triple_arena.specs.Content.{Content, IsWellFormed}
use Rattle.triple_arena_chain.specs.LinkShape.{IndexLink}
use Rattle.linked_lists.specs.LinkedLists.{Ends, next_in, next_at, IsAgreed, first_or, On, Apart}
use Rattle.linked_lists.specs.ChainLaws.{On-first, On-front, On-back, live_next_in}
use Rattle.linked_lists.specs.ChainLaws.{live_prev_in}
use Rattle.linked_lists.specs.Chains.{Chain, Linear, Cyclic, members, all_members, IsChainOf}
use Rattle.linked_lists.specs.Chains.{IsWritten, AreAllChainsOf}
use Rattle.triple_arena_chain.specs.Links.{ends_in}
use Rattle.triple_arena_chain.specs.Renaming.{renamed, ends_renamed, FollowsRenaming}
use Rattle.triple_arena_chain.specs.CanonicalLayoutLaws.{laid_same}
use Rattle.triple_arena_chain.specs.CanonicalLayout.{IsLaidOut, IsHead, IsClosed, IsRearranged}
use Rattle.triple_arena_chain.specs.CanonicalLayout.{AreGathered, swapped_index}
use Rattle.triple_arena_chain.proofs.PassLemmas.{live_ends}
use Rattle.triple_arena_chain.proofs.WalkLemmas.{bounded}
use Rattle.triple_arena_chain.proofs.SwapLemmas.{swap_i, swap_other}
use Rattle.triple_arena_chain.proofs.RunLemmas.{run-append, run-on, run-within, run-apart, Leads}
use Rattle.triple_arena_chain.proofs.RunLemmas.{further, around, laid_next, laid_head}
use Rattle.triple_arena_chain.proofs.GatherLemmas.{some_moved, head_moved, closed_moved, IsOpen}
use Rattle.triple_arena_chain.proofs.GatherLemmas.{open_first, open_more, placed_live, next_past}
use Rattle.triple_arena_chain.proofs.GatherLemmas.{done_linear, done_ring, closed_done}

-- an exchange with itself
pub swapped_self : (i k : ℕ) → swapped_index i i k ≡ k
swapped_self i k =
    elim (eqb_tells k i) [
      | inl same ↦ rw same.0 (sym same.1)
      | inr other ↦ rw other.0 refl
    ]

map_fixed : (f : ℕ → ℕ) (xs : List ℕ) → ((k : ℕ) → On xs k → f k ≡ k) → map f xs ≡ xs
map_fixed f [] fixed = refl
map_fixed f (x ∷ xs) fixed =
    ap (λ y. y ∷ map f xs) (fixed x (On-first x xs))
    ∙ ap (λ l. x ∷ l) (map_fixed f xs (λ k on. fixed k (On-back (x ∷ []) xs k on)))

renamed_twice : (f g : ℕ → ℕ) (c : Chain) → renamed f (renamed g c) ≡ renamed (λ x. f (g x)) c
renamed_twice f g (Linear xs) = ap Linear (map-map f g xs)
renamed_twice f g (Cyclic xs) = ap Cyclic (map-map f g xs)

renamed_fixed : (f : ℕ → ℕ) (c : Chain) → ((k : ℕ) → On (members c) k → f k ≡ k) → renamed f c ≡ c
renamed_fixed f (Linear xs) fixed = ap Linear (map_fixed f xs fixed)
renamed_fixed f (Cyclic xs) fixed = ap Cyclic (map_fixed f xs fixed)

option_twice : (f g : ℕ → ℕ) (o : Option ℕ)
    → option_map f (option_map g o) ≡ option_map (λ x. f (g x)) o
option_twice f g None = refl
option_twice f g (Some x) = refl

option_fixed : (f : ℕ → ℕ) (o : Option ℕ) → ((k : ℕ) → f k ≡ k) → option_map f o ≡ o
option_fixed f None fixed = refl
option_fixed f (Some x) fixed = ap Some (fixed x)

ends_twice : (f g : ℕ → ℕ) (o : Option Ends)
    → option_map (ends_renamed f) (option_map (ends_renamed g) o)
    ≡ option_map (ends_renamed (λ x. f (g x))) o
ends_twice f g None = refl
ends_twice f g (Some v) = ap (λ a. Some (a, option_map f (option_map g v.1))) (option_twice f g v.0)
    ∙ ap (λ b. Some (option_map (λ x. f (g x)) v.0, b)) (option_twice f g v.1)

ends_fixed : (f : ℕ → ℕ) (o : Option Ends) → ((k : ℕ) → f k ≡ k) → option_map (ends_renamed f) o ≡ o
ends_fixed f None fixed = refl
ends_fixed f (Some v) fixed = ap (λ a. Some (a, option_map f v.1)) (option_fixed f v.0 fixed)
    ∙ ap (λ b. Some (v.0, b)) (option_fixed f v.1 fixed)

some_renamed : (f : ℕ → ℕ) (o : Option Ends) → IsSome o → IsSome (option_map (ends_renamed f) o)
some_renamed f None some = absurd (true≢false (sym some))
some_renamed f (Some v) some = refl

none_or_some : {A : Type 0} (o : Option A) → (o ≡ None) ⊎ IsSome o
none_or_some None = inl refl
none_or_some (Some v) = inr refl

-- one renaming after another
pub renamed_after : (f g : ℕ → ℕ) (a b c : ℕ → Option Ends) → FollowsRenaming g a b
    → FollowsRenaming f b c → FollowsRenaming (λ i. f (g i)) a c
renamed_after f g a b c r s =
    record {
      ends = λ i some. s.ends (g i) (some_moved g a b r i some)
          ∙ ap (option_map (ends_renamed f)) (r.ends i some) ∙ ends_twice f g (a i);
      apart = λ i j some some' same. r.apart i j some some'
          (s.apart (g i) (g j) (some_moved g a b r i some) (some_moved g a b r j some') same);
      onto = λ k some.
          let n = s.onto k some in
          let m = r.onto n.0 n.1 in
          (m.0, m.1, ap f m.2 ∙ n.2);
      lists = λ d chain. subst (IsChainOf c) (renamed_twice f g d)
          (s.lists (renamed g d) (r.lists d chain));
    }

swap_fixes : (i j low k : ℕ) → low < i → low < j → k ≤ low → swapped_index i j k ≡ k
swap_fixes i j low k above_i above_j within =
    swap_other i j k (λ same. omega (arith, same, within, above_i))
    (λ same. omega (arith, same, within, above_j))

pub all_append : (cs : List Chain) (c : Chain)
    → all_members (cs ++ c ∷ []) ≡ all_members cs ++ members c
all_append [] c = nothing_more (members c)
  where
    nothing_more : (xs : List ℕ) → xs ++ [] ≡ xs
    nothing_more [] = refl
    nothing_more (x ∷ xs) = ap (λ l. x ∷ l) (nothing_more xs)
all_append (d ∷ cs) c = ap (λ l. members d ++ l) (all_append cs c)
    ∙ sym (append_assoc (members d) (all_members cs) (members c))

pub are_append : (e : ℕ → Option Ends) (cs : List Chain) (c : Chain) → AreAllChainsOf e cs
    → IsChainOf e c → IsWritten c → AreAllChainsOf e (cs ++ c ∷ [])
are_append e [] c are chain written = ((chain, written), tt)
are_append e (d ∷ cs) c are chain written = (are.0, are_append e cs c are.1 chain written)

-- where no index changes
moved_nowhere : (f : ℕ → ℕ) (e : ℕ → Option Ends) → ((k : ℕ) → f k ≡ k) → IsAgreed e
    → IsRearranged f e e
moved_nowhere f e fixed agreed =
    record {
      renamed = record {
        ends = λ i some. ap e (fixed i) ∙ sym (ends_fixed f (e i) fixed);
        apart = λ i j some some' same. sym (fixed i) ∙ same ∙ fixed j;
        onto = λ k some. (k, some, fixed k);
        lists = λ d chain. subst (IsChainOf e) (sym (renamed_fixed f d (λ k on. fixed k))) chain;
      };
      live = λ i some. some;
      agreed = agreed;
    }

moved_after : (f g : ℕ → ℕ) (a b c : ℕ → Option Ends) → IsRearranged g a b → IsRearranged f b c
    → IsRearranged (λ i. f (g i)) a c
moved_after f g a b c m n =
    record {
      renamed = renamed_after f g a b c m.renamed n.renamed;
      live = λ i some. m.live i (n.live i some);
      agreed = n.agreed;
    }

-- where no index changes the interlinks stay
moved_same : (f : ℕ → ℕ) (a b : ℕ → Option Ends) → IsRearranged f a b → ((i : ℕ) → f i ≡ i)
    → (i : ℕ) → b i ≡ a i
moved_same f a b m fixed i = by (none_or_some (a i))
  where
    by : (a i ≡ None) ⊎ IsSome (a i) → b i ≡ a i
    by (inr some) = ap b (sym (fixed i)) ∙ m.renamed.ends i some ∙ ends_fixed f (a i) fixed
    by (inl gone) = none_of (b i) (λ some. true≢false (sym (m.live i some) ∙ ap is_some gone))
        ∙ sym gone
      where
        none_of : (o : Option Ends) → (IsSome o → ⊥) → o ≡ None
        none_of None never = refl
        none_of (Some v) never = absurd (never refl)

-- one chain more is a run, behind the indexes up to `first`, whose links stay
pub record IsGathered (first placed : ℕ) (to : ℕ → ℕ) (old new : ℕ → Option Ends) : Type 0 where
  pub moved : IsRearranged to old new
  pub fixed : (i : ℕ) → i ≤ first → to i ≡ i
  pub chain : Chain
  pub is_chain : IsChainOf new chain
  pub written : IsWritten chain
  pub is_run : members chain ≡ range_with_len (first + 1) (placed - first)
  pub more : first < placed
  pub live : IsSome (new placed)
  pub closed : IsClosed new placed
  pub stays : (n : ℕ) → IsLaidOut old n → (i : ℕ) → to i ≡ i

-- links up to `placed` are placed
pub record IsPlacing (first placed : ℕ) (to : ℕ → ℕ) (old now : ℕ → Option Ends) : Type 0 where
  pub moved : IsRearranged to old now
  pub fixed : (i : ℕ) → i ≤ first → to i ≡ i
  pub opened : IsOpen now first placed
  pub stays : (n : ℕ) → IsLaidOut old n → (i : ℕ) → to i ≡ i

pub placing_first : (first h : ℕ) (old now : ℕ → Option Ends) → IsAgreed old → IsClosed old first
    → IsSome (old h) → IsHead old h → first < h → (IsHead old (first + 1) → h ≡ first + 1)
    → IsRearranged (swapped_index h (first + 1)) old now
    → IsPlacing first (first + 1) (swapped_index h (first + 1)) old now
placing_first first h old now agreed closed some head past own m =
    record {
      moved = m;
      fixed = λ i low. swap_fixes h (first + 1) first i past (omega arith) low;
      opened =
          open_first now m.agreed first
          (subst (λ k. IsSome (now k)) (swap_i h (first + 1))
          (some_moved (swapped_index h (first + 1)) old now m.renamed h some))
          (head_moved (swapped_index h (first + 1)) old now m.renamed h (first + 1)
          (swap_i h (first + 1)) some head)
          (closed_moved (swapped_index h (first + 1)) old now m.renamed m.live first
          (λ i low. swap_fixes h (first + 1) first i past (omega arith) low) agreed closed);
      stays = λ n laid i.
          let is = own (laid_head old n first agreed laid closed) in
          ap (λ k. swapped_index k (first + 1) i) is ∙ swapped_self (first + 1) i;
    }

pub placing_more : (first placed j : ℕ) (to : ℕ → ℕ) (old c new : ℕ → Option Ends)
    → IsPlacing first placed to old c → next_at c placed ≡ Some j
    → j ≢ first + 1 → IsRearranged (swapped_index j (placed + 1)) c new
    → IsPlacing first (placed + 1) (λ i. swapped_index j (placed + 1) (to i)) old new
placing_more first placed j to old c new p goes other m =
    let e = c in
    let past : placed < j = next_past c p.moved.agreed first placed p.opened j goes other in
    let at = p.opened.placed_is in
    record {
      moved = moved_after (swapped_index j (placed + 1)) to old c new p.moved m;
      fixed = λ i low. ap (swapped_index j (placed + 1)) (p.fixed i low)
          ∙ swap_fixes j (placed + 1) first i (omega (arith, past, at)) (omega (arith, at)) low;
      opened =
          open_more (swapped_index j (placed + 1)) c new m.renamed m.live p.moved.agreed first
          placed j p.opened
          (λ i low. swap_fixes j (placed + 1) placed i past (omega arith) low) goes
          (swap_i j (placed + 1)) m.agreed;
      stays = λ n laid i.
          let fixed = p.stays n laid in
          let same = moved_same to old c p.moved fixed placed in
          let before : next_at old placed ≡ Some j = sym (ap next_in same) ∙ goes in
          let is : j ≡ placed + 1 = by_leads j past (laid_next old n placed j laid before) in
          ap (swapped_index j (placed + 1)) (fixed i) ∙ ap (λ k. swapped_index k (placed + 1) i) is
          ∙ swapped_self (placed + 1) i;
    }
  where
    by_leads : (q : ℕ) → placed < q → Leads old placed q → q ≡ placed + 1
    by_leads q past (further is) = is
    by_leads q past (around n ring is) = absurd (omega (arith, past, is))

pub placing_done : (first placed : ℕ) (to : ℕ → ℕ) (old new : ℕ → Option Ends)
    → IsPlacing first placed to old new
    → ((next_at new placed ≡ None) ⊎ (next_at new placed ≡ Some (first + 1)))
    → IsGathered first placed to old new
placing_done first placed to old new p over = by over
  where
    e : ℕ → Option Ends
    e = new

    agreed : IsAgreed new
    agreed = p.moved.agreed

    count : p.opened.count + 1 ≡ placed - first
    count = let at = p.opened.placed_is in omega (arith, at)

    gathered : (c : Chain) → IsChainOf new c → IsWritten c
        → members c ≡ range_with_len (first + 1) (p.opened.count + 1)
        → IsGathered first placed to old new
    gathered c chain written is =
        let at = p.opened.placed_is in
        record {
          moved = p.moved;
          fixed = p.fixed;
          chain = c;
          is_chain = chain;
          written = written;
          is_run = is ∙ ap (range_with_len (first + 1)) count;
          more = omega (arith, at);
          live = placed_live new agreed first placed p.opened;
          closed = closed_done new agreed first placed p.opened c chain is;
          stays = p.stays;
        }

    not_empty : (m : ℕ) → range_with_len (first + 1) (m + 1) ≢ []
    not_empty m is = let long = sym (length-range_with_len (first + 1) (m + 1))
        ∙ ap length is in omega (arith, long)

    first_is : (m : ℕ) → first_or (range_with_len (first + 1) (m + 1)) None ≡ Some (first + 1)
    first_is m = let one : m + 1 ≡ suc m = omega arith in
        ap (λ n. first_or (range_with_len (first + 1) n) None) one

    by : (next_at new placed ≡ None) ⊎ (next_at new placed ≡ Some (first + 1))
        → IsGathered first placed to old new
    by (inl none) =
        gathered (Linear (range_with_len (first + 1) (p.opened.count + 1)))
        (done_linear new agreed first placed p.opened none)
        (not_empty p.opened.count) refl
    by (inr round) =
        gathered (Cyclic (range_with_len (first + 1) (p.opened.count + 1)))
        (done_ring new agreed first placed p.opened round) (
          first + 1,
          first_is p.opened.count,
          λ k on. (run-within (first + 1) (p.opened.count + 1) k on).0,
        ) refl

pub gathered_none : (e : ℕ → Option Ends) → e 0 ≡ None → IsAgreed e → AreGathered 0 (λ i. i) e e
gathered_none e zeroth agreed =
    record {
      moved = moved_nowhere (λ i. i) e (λ k. refl) agreed;
      chains = [];
      are = tt;
      runs = refl;
      closed = record {
        on = λ p q goes low. absurd (none_there p low (live_next_in (e p) q goes));
        back = λ p q goes low. absurd
            (none_there q low (live_prev_in (e q) p (agreed.forward p q goes)));
      };
      stays = λ n laid i. refl;
    }
  where
    none_there : (p : ℕ) → p ≤ 0 → IsSome (e p) → ⊥
    none_there p low some =
        let is : p ≡ 0 = omega (arith, low) in
        true≢false (sym (subst (λ k. IsSome (e k)) is some) ∙ ap is_some zeroth)

pub gathered_more : (placed more : ℕ) (f to : ℕ → ℕ) (old c new : ℕ → Option Ends)
    → AreGathered placed to old c → IsGathered placed more f c new
    → AreGathered more (λ i. f (to i)) old new
gathered_more placed more f to old c new a g =
    record {
      moved = moved_after f to old c new a.moved g.moved;
      chains = a.chains ++ g.chain ∷ [];
      are = are_append new a.chains g.chain
          (keep a.chains a.are (λ k on. (run-within 1 placed k (subst (λ l. On l k) a.runs on)).1))
          g.is_chain g.written;
      runs =
          let up = g.more in
          let sum : placed + (more - placed) ≡ more = omega (arith, up) in
          let one : placed + 1 ≡ 1 + placed = omega arith in
          all_append a.chains g.chain ∙ ap (λ l. l ++ members g.chain) a.runs
          ∙ ap (λ l. range_with_len 1 placed ++ l)
          (g.is_run ∙ ap (λ u. range_with_len u (more - placed)) one)
          ∙ sym (run-append 1 placed (more - placed)) ∙ ap (range_with_len 1) sum;
      closed = g.closed;
      stays = λ n laid i.
          let fixed = a.stays n laid in
          let there = laid_same old c n (moved_same to old c a.moved fixed) laid in
          ap f (fixed i) ∙ g.stays n there i;
    }
  where
    keep : (cs : List Chain) → AreAllChainsOf c cs
        → ((k : ℕ) → On (all_members cs) k → k < 1 + placed) → AreAllChainsOf new cs
    keep [] are low = tt
    keep (d ∷ cs) are low = (
      (
        subst (IsChainOf new)
            (renamed_fixed f d (λ k on. g.fixed k
            (let within = low k (On-front (members d) (all_members cs) k on) in
            omega (arith, within))))
            (g.moved.renamed.lists d are.0.0),
        are.0.1,
      ),
      keep cs are.1 (λ k on. low k (On-back (members d) (all_members cs) k on)),
    )

-- and all chains are
pub gathered_all : (placed n : ℕ) (to : ℕ → ℕ) (old new : ℕ → Option Ends)
    → AreGathered placed to old new → placed ≡ n → ((i : ℕ) → IsSome (new i) → (1 ≤ i) × (i ≤ n))
    → IsLaidOut new n
gathered_all placed n to old new a is within =
    record {
      chains = a.chains;
      are = record {
        chains = a.are;
        once = subst Apart (sym a.runs) (run-apart 1 placed);
        whole = λ i some. let in_it = within i some in
            subst (λ l. On l i) (sym a.runs)
            (run-on 1 placed i in_it.0 (omega (arith, in_it.1, is)));
      };
      runs = a.runs ∙ ap (range_with_len 1) is;
    }

module _ {A : Type 0} where
  count_more : (x : Option A) (xs : List (Option A))
      → count_by is_some (x ∷ xs) ≡ cond (is_some x) 1 0 + count_by is_some xs
  count_more x xs = sum_by-cons (λ o. cond (is_some o) 1 0) x xs

  count_few : (xs : List (Option A)) → count_by is_some xs ≤ length xs
  count_few [] = omega arith
  count_few (None ∷ xs) = let more = count_more None xs in let few = count_few xs in
      omega (arith, more, few)
  count_few (Some x ∷ xs) = let more = count_more (Some x) xs in let few = count_few xs in
      omega (arith, more, few)

  -- where as many are there as there are places, one is at each
  all_there : (xs : List (Option A)) (k : ℕ) → count_by is_some xs ≡ length xs → k < length xs
      → IsSome (slice_index_or xs k None)
  all_there [] k all below = absurd (omega (arith, below))
  all_there (None ∷ xs) k all below =
      absurd (let more = count_more None xs in let few = count_few xs in
      omega (arith, more, few, all))
  all_there (Some x ∷ xs) zero all below = refl
  all_there (Some x ∷ xs) (suc k) all below =
      let more = count_more (Some x) xs in
      all_there xs k (omega (arith, more, all)) (omega (arith, below))

module _ {T : Type 0} where
  -- what is live is among the slots
  pub within_slots : (c : Content (IndexLink T)) (i : ℕ) → IsSome (ends_in c i)
      → i ≤ length c.slots
  within_slots c i some = let less = bounded c i some in omega (arith, less)

  -- where no index is free each one up to the last is live
  pub full_live : (c : Content (IndexLink T)) (i : ℕ) → IsWellFormed c → c.free ≡ [] → 1 ≤ i
      → i ≤ length c.slots → IsSome (ends_in c i)
  full_live c zero formed full low high = absurd (omega (arith, low))
  full_live c (suc k) formed full low high =
      let counted = formed.counted in
      let none = ap length full in
      live_ends c (suc k)
      ∙ all_there c.slots k (omega (arith, counted, none)) (omega (arith, high))
