-- A tree that is written anew where the list is the indexes from 1 on: the parts of the indexes,
-- and the tree of the whole.
use Rattle.std.proofs.Common.{◌≡◌, ℕ, zero, suc, ◌+◌, ◌-◌, ◌/◌, ◌<◌, ◌≤◌, ◌∷◌, ◌++◌, length, Option}
use Rattle.std.proofs.Common.{Some, None, IsSome, refl, sym, ap, subst, ◌∙◌, arith, inl, inr}
use Rattle.std.specs.List.{range_with_len}
use Rattle.std.proofs.lemmas.Bool.Decides.{eqb_tells}
use Rattle.std.proofs.lemmas.List.FromFn.{length-range_with_len}
use Rattle.triple_arena.specs.Content.{Content}
use Rattle.linked_lists.specs.LinkedLists.{On, IsLinear}
use Rattle.linked_lists.specs.LinkedListLaws.{On-cons}
use Rattle.linked_lists.specs.ChainLaws.{On-first, live_on}
use Rattle.triple_arena_chain.specs.LinkShape.{IndexLink}
use Rattle.triple_arena_chain.specs.Links.{ends_in}
use Rattle.rank_tree.specs.Store.{Store, Written}
use Rattle.rank_tree.specs.Tree.{Tree, leaf, node, walk, size}
use Rattle.rank_tree.specs.Shape.{root_of, Represents, one, count, count_in}
use Rattle.rank_tree.specs.Halving.{part_rank, IsTopRank}
use Rattle.rank_tree.specs.FrameLaws.{Represents-keep, one-other, count-walk}
use Rattle.rank_tree.specs.ClimbLaws.{size-walk}
use Rattle.triple_arena_ord.specs.NodeShape.{IndexNode}
use Rattle.triple_arena_ord.specs.Node.{nodes_in}
use Rattle.triple_arena_ord.specs.Rebuilt.{IsRebuilt}
use Rattle.triple_arena_ord.specs.RebuiltRun.{IsRunBuilt, middle}
use Rattle.triple_arena_ord.proofs.RebuildLemmas.{live_node}

-- a run is its beginning, the next index, and the others
run_join : (u p q : ℕ)
    → range_with_len u p ++ (u + p) ∷ range_with_len (u + p + 1) q ≡ range_with_len u (p + suc q)
run_join u zero q =
    let at : u + 0 ≡ u = omega arith in
    let all : suc q ≡ 0 + suc q = omega arith in
    ap (λ x. x ∷ range_with_len (x + 1) q) at ∙ ap (range_with_len u) all
run_join u (suc p) q =
    let at : u + suc p ≡ u + 1 + p = omega arith in
    let all : suc (p + suc q) ≡ suc p + suc q = omega arith in
    ap (λ x. range_with_len u (suc p) ++ x ∷ range_with_len (x + 1) q) at
    ∙ ap (λ l. u ∷ l) (run_join (u + 1) p q) ∙ ap (range_with_len u) all

-- what stands in a run is within it
counted_within : (j u n : ℕ) → 0 < count_in j (range_with_len u n) → (u ≤ j) × (j < u + n)
counted_within j u zero some = absurd (omega (arith, some))
counted_within j u (suc n) some =
    elim (eqb_tells j u) [
      | inl same ↦ let is = same.1 in (omega (arith, is), omega (arith, is))
      | inr other ↦
          let here = one-other j u other.1 in
          let within = counted_within j (u + 1) n (omega (arith, here, some)) in
          let low = within.0 in
          let high = within.1 in
          (omega (arith, low), omega (arith, high))
    ]

-- so is what stands in a tree whose walk is a run
tree_within : (t : Tree) (u n : ℕ) → walk t ≡ range_with_len u n → (j : ℕ) → 0 < count j t
    → (u ≤ j) × (j < u + n)
tree_within t u n is j some =
    counted_within j u n (subst (λ c. 0 < c) (count-walk j t ∙ ap (count_in j) is) some)

size_run : (t : Tree) (u n : ℕ) → walk t ≡ range_with_len u n → size t ≡ n
size_run t u n is = size-walk t ∙ ap length is ∙ length-range_with_len u n

-- of no index nothing is written
pub run_built_none : (k : ℕ) (parent : Option ℕ) (before m : ℕ) (n : Store) → m ≡ 0
    → IsRunBuilt k parent before m n n
run_built_none k parent before m n none =
    subst (λ c. IsRunBuilt k parent before c n n) (sym none) (record {
      tree = leaf;
      is_walk = refl;
      halves = tt;
      root_is = refl;
      represents = tt;
      under = λ j within. refl;
      over = λ j past. refl;
    })

module _ (k : ℕ) (parent : Option ℕ) (before m i rank : ℕ) (left right : Option ℕ)
    (n0 n1 n2 n3 : Store)
    (some : 1 ≤ m) (root_is : i ≡ before + m / 2 + 1) (rank_is : rank ≡ part_rank k m)
    (left_is : left ≡ middle before (m / 2))
    (right_is : right ≡ middle (before + m / 2 + 1) (m - m / 2 - 1))
    (top : Written n0 n1 i (record { parent = parent; left = left; right = right; rank = rank }))
    (a : IsRunBuilt (k - 1) (Some i) before (m / 2) n1 n2)
    (b : IsRunBuilt (k - 1) (Some i) (before + m / 2 + 1) (m - m / 2 - 1) n2 n3) where
  abbrev half : ℕ
  half = m / 2

  abbrev more : ℕ
  more = m - m / 2 - 1

  whole : half + suc more ≡ m
  whole = omega (arith, some)

  abbrev tree : Tree
  tree = node a.tree i (part_rank k m) b.tree

  walks : walk tree ≡ range_with_len (before + 1) m
  walks =
      let at : i ≡ before + 1 + half = omega (arith, root_is) in
      let next : before + half + 1 + 1 ≡ before + 1 + half + 1 = omega arith in
      ap (λ l. l ++ i ∷ walk b.tree) a.is_walk
      ∙ ap (λ l. range_with_len (before + 1) half ++ i ∷ l)
      (b.is_walk ∙ ap (λ u. range_with_len u more) next)
      ∙ ap (λ x. range_with_len (before + 1) half ++ x ∷ range_with_len (before + 1 + half + 1)
      more) at
      ∙ run_join (before + 1) half more ∙ ap (range_with_len (before + 1)) whole

  left_size : size a.tree ≡ half
  left_size = size_run a.tree (before + 1) half a.is_walk

  sizes : size a.tree + size b.tree + 1 ≡ m
  sizes =
      let p = left_size in
      let q = size_run b.tree (before + half + 1 + 1) more b.is_walk in
      omega (arith, p, q, whole)

  middle_is : Some i ≡ middle before m
  middle_is = by m some root_is
    where
      by : (c : ℕ) → 1 ≤ c → i ≡ before + c / 2 + 1 → Some i ≡ middle before c
      by zero none is = absurd (omega (arith, none))
      by (suc c) one is = ap Some is

  root_last : n3 i ≡ Some
      (record {
        parent = parent;
        left = root_of a.tree;
        right = root_of b.tree;
        rank = part_rank k m;
      })
  root_last =
      b.under i (omega (arith, root_is)) ∙ a.over i (omega (arith, root_is)) ∙ top.here
      ∙ ap (λ o. Some (record { parent = parent; left = o; right = right; rank = rank }))
      (left_is ∙ sym a.root_is)
      ∙ ap (λ o. Some (record { parent = parent; left = root_of a.tree; right = o; rank = rank }))
      (right_is ∙ sym b.root_is)
      ∙ ap (λ r. Some (record
      { parent = parent; left = root_of a.tree; right = root_of b.tree; rank = r })) rank_is

  left_last : Represents n3 (Some i) a.tree
  left_last =
      Represents-keep n2 n3 (Some i) a.tree
      (λ j on. let within = tree_within a.tree (before + 1) half a.is_walk j on in let high =
      within.1 in b.under j (omega (arith, high))) a.represents

  -- the part is written
  pub run_built_over : IsRunBuilt k parent before m n0 n3
  run_built_over =
      record {
        tree = tree;
        is_walk = walks;
        halves = (
          left_size ∙ ap (λ c. c / 2) (sym sizes),
          ap (part_rank k) (sym sizes),
          a.halves,
          b.halves,
        );
        root_is = middle_is;
        represents = (root_last, left_last, b.represents);
        under = λ j within.
            b.under j (omega (arith, within)) ∙ a.under j within
            ∙ top.elsewhere j (λ is. absurd (omega (arith, is, root_is, within)));
        over = λ j past.
            b.over j (omega (arith, whole, past)) ∙ a.over j (omega (arith, whole, past))
            ∙ top.elsewhere j (λ is. absurd (omega (arith, is, root_is, whole, past)));
      }

-- the tree of the whole list
pub run_rebuilt : (n k : ℕ) (root : Option ℕ) (n0 n1 : Store) → IsTopRank n k → root ≡ middle 0 n
    → IsRunBuilt k None 0 n n0 n1
    → IsRebuilt (range_with_len 1 n) root n1
run_rebuilt n k root n0 n1 top root_is b =
    record {
      tree = b.tree;
      hangs = (root_is ∙ sym b.root_is, b.represents);
      halving = record {
        is_walk = b.is_walk;
        top = k;
        top_rank = subst (λ s. IsTopRank s k) (sym (size_run b.tree 1 n b.is_walk)) top;
        halves = b.halves;
      };
    }

-- the list of no entry has no tree
pub none_rebuilt : (n : ℕ) (root : Option ℕ) (n0 : Store) → n ≡ 0 → root ≡ middle 0 n
    → IsRebuilt (range_with_len 1 n) root n0
none_rebuilt n root n0 none root_is =
    run_rebuilt n 1 root n0 n0
    (record {
      exponent = 0;
      is = refl;
      reaches = omega (arith, none);
      least = λ s within. omega arith;
    }) root_is
    (run_built_none 1 None 0 n n0 none)

run_on : (low n i : ℕ) → low ≤ i → i < low + n → On (range_with_len low n) i
run_on low zero i up short = absurd (omega (arith, up, short))
run_on low (suc n) i up short =
    elim (eqb_tells i low) [
      | inl same ↦ subst (On (low ∷ range_with_len (low + 1) n)) (sym same.1)
          (On-first low (range_with_len (low + 1) n))
      | inr other ↦ let no = other.1 in
          On-cons low i (range_with_len (low + 1) n)
          (run_on (low + 1) n i (omega (arith, up, no)) (omega (arith, short)))
    ]

-- where the list is a run, each of its indexes has a node
pub run_lives : {T : Type 0} (c : Content (IndexLink (IndexNode T))) (n : ℕ)
    → IsLinear (ends_in c) (range_with_len 1 n)
    → (k : ℕ) → 0 < k → k ≤ 0 + n → IsSome (nodes_in c k)
run_lives c n linear k some within =
    live_node c k (live_on (ends_in c) None None (range_with_len 1 n) k linear
    (run_on 1 n k some (omega (arith, within))))
