-- The first entry of an ordered arena.
use Rattle.std.proofs.Common.{◌≡◌, ◌==◌, ℕ, ◌<◌, ◌≤◌, [], ◌∷◌, length, Some, None}
use Rattle.std.proofs.Common.{IsSome, if◌then◌else◌, refl, sym, ap, ◌∙◌, subst, arith, inl, inr}
use Rattle.std.specs.Option.{option_map}
use Rattle.std.proofs.lemmas.Bool.{cases_eq, eq-eqb, ne_eqb}
use Rattle.triple_arena.specs.Content.{Content}
use Rattle.triple_arena_chain.specs.LinkShape.{IndexLink}
use Rattle.triple_arena_chain.specs.declared.gap.Gap.TheVariants.{Between}
use Rattle.linked_lists.specs.LinkedLists.{IsLinear}
use Rattle.triple_arena_chain.specs.Links.{ends_in, values_in, valued, IsLinkInserted}
use Rattle.rank_tree.specs.declared.side.Side.TheVariants.{Left}
use Rattle.rank_tree.specs.Tree.{Tree, leaf, node, walk, IsRanked}
use Rattle.rank_tree.specs.Shape.{node_view, RepresentsTree, one, count}
use Rattle.rank_tree.specs.Whole.{tree_of}
use Rattle.rank_tree.specs.FrameLaws.{one-same, one-other, IsDistinct-walk}
use Rattle.rank_tree.specs.UniqueLaws.{tree_is}
use Rattle.triple_arena_ord.specs.NodeShape.{IndexNode}
use Rattle.triple_arena_ord.specs.Node.{nodes_in, view_of, itemed}
use Rattle.triple_arena_ord.specs.Ordered.{Ordered, IsOrdered, tree_in, order_in}
use Rattle.triple_arena_ord.specs.Inserted.{AddsAt}
use Rattle.triple_arena_ord.proofs.LeafLemmas.{item-if}

-- the links of an arena without an entry have one node, of index `n`; its pointer's index is `i`
module _ {T : Type 0} (o : Ordered T)
    (c1 : Content (IndexLink (IndexNode T))) (n i g : ℕ) (t : T) (is : IsOrdered o)
    (bare : o.root ≡ None)
    (put : IsLinkInserted (Between None None) i g
    (record { p_tree0 = None; p_tree1 = None; t = t; p_back = None; rank = 1 }) o.chains c1)
    (same : n ≡ i) where
  abbrev made : Ordered T
  made = record { chains = c1; root = Some n }

  abbrev grown : Tree
  grown = node leaf i 1 leaf

  abbrev lone : IndexNode T
  lone = record { p_tree0 = None; p_tree1 = None; t = t; p_back = None; rank = 1 }

  here : nodes_in c1 i ≡ Some (node_view Left None None 1 None)
  here = ap (option_map (λ e. view_of e.1)) (put.values i ∙ at)
    where
      at : (if i == i then Some (g, lone) else values_in o.chains i) ≡ Some (g, lone)
      at = rw (eq-eqb i i refl) refl

  other : (j : ℕ) → (j ≡ i → ⊥) → nodes_in c1 j ≡ nodes_in o.chains j
  other j differs = ap (option_map (λ e. view_of e.1)) (put.values j ∙ at)
    where
      at : (if j == i then Some (g, lone) else values_in o.chains j) ≡ values_in o.chains j
      at = rw (ne_eqb j i differs) refl

  gone : tree_in o ≡ leaf
  gone = ap (tree_of (nodes_in o.chains)) bare

  stands : RepresentsTree (nodes_in c1) (Some n) grown
  stands = (ap Some same, (here, tt, tt))

  ranked : IsRanked grown
  ranked = (
    omega arith,
    tt,
    tt,
  )

  tree : tree_in made ≡ grown
  tree = tree_is (nodes_in c1) (Some n) grown stands ranked

  pub first_order : order_in made ≡ i ∷ []
  first_order = ap walk tree

  once : (j : ℕ) → count j grown ≤ 1
  once j =
      elim (cases_eq j i) [
        | inl at ↦ let e = subst (λ k. one k i ≡ 1) (sym at) (one-same i) in omega (arith, e)
        | inr differs ↦ let e = one-other j i differs in omega (arith, e)
      ]

  all : (j : ℕ) → IsSome (nodes_in c1 j) → 0 < count j grown
  all j lives =
      elim (cases_eq j i) [
        | inl at ↦ let e = subst (λ k. one k i ≡ 1) (sym at) (one-same i) in omega (arith, e)
        | inr differs ↦ let z : 0 < 0 = subst (λ t. 0 < count j t) gone
            (is.all j (subst IsSome (other j differs) lives)) in absurd (omega (arith, z))
      ]

  pub first_ordered : IsOrdered made
  first_ordered =
      let linear : IsLinear (ends_in c1) (i ∷ []) =
      put.lists.inside [] [] refl refl
      (subst (IsLinear (ends_in o.chains)) (ap walk gone) is.linear) in
      let counted = is.counted in
      let none : length (order_in o) ≡ 0 = ap (λ t. length (walk t)) gone in
      let single : length (order_in made) ≡ 1 = ap length first_order in
      let live = put.live in
      record {
        whole = record {
          stands = subst (RepresentsTree (nodes_in c1) (Some n)) (sym tree) stands;
          distinct = IsDistinct-walk grown (tree_in made) (sym (ap walk tree))
              (record { once = once });
          ranked = subst IsRanked (sym tree) ranked;
        };
        linear = subst (IsLinear (ends_in c1)) (sym first_order) linear;
        all = λ j lives. subst (λ t. 0 < count j t) (sym tree) (all j lives);
        counted = omega (arith, counted, none, single, live);
      }

  pub first_added : c1.room ≡ o.chains.room → AddsAt None i g t o made
  first_added room =
      record {
        stands = (ap walk gone, first_order);
        added = record {
          index = put.index;
          generation = put.generation;
          vacant = ap (λ e. option_map itemed (option_map valued e)) put.vacant;
          entries = λ k. ap (option_map itemed) (put.values k)
              ∙ item-if (k == i) g lone (values_in o.chains k);
          size = put.live;
          free = put.free;
          slots = put.slots;
        };
        counter = put.counter;
        room = room;
        ordered = first_ordered;
      }
