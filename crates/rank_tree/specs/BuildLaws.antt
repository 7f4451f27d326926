-- A halving tree is written: its left part, its right part, and then the root over them.
use Rattle.std.proofs.Common.{◌≡◌, ℕ, ◌+◌, ◌-◌, ◌/◌, ◌<◌, ◌≤◌, List, [], ◌∷◌, ◌++◌, length, Option}
use Rattle.std.proofs.Common.{Some, None, arith, refl, sym, ap, subst, ◌∙◌}
use Rattle.rank_tree.specs.declared.side.Side.TheVariants.{Left}
use Rattle.rank_tree.specs.Store.{Store, Written, Reparented}
use Rattle.rank_tree.specs.Tree.{Tree, leaf, node, walk, size}
use Rattle.rank_tree.specs.Shape.{node_view, root_of, Represents, one, count, IsDistinct}
use Rattle.rank_tree.specs.Halving.{part_rank, IsBuilt}
use Rattle.rank_tree.specs.ClimbLaws.{size-walk}
use Rattle.rank_tree.specs.FrameLaws.{Represents-keep, Represents-reparent, reparent-elsewhere}
use Rattle.rank_tree.specs.FrameLaws.{write-elsewhere}

pub built_none : (k : ℕ) (n : Store) → IsBuilt k [] None n n
built_none k n = record {
  tree = leaf;
  is_walk = refl;
  halves = tt;
  root_is = refl;
  represents = tt;
  elsewhere = λ j none. refl;
}

-- no index of the left part is in the right one, and the root is in neither
left_apart : (l r : Tree) (i k : ℕ) → IsDistinct (node l i k r) → IsDistinct l
left_apart l r i k d = record { once = λ j. let h = d.once j in omega (arith, h) }

right_apart : (l r : Tree) (i k : ℕ) → IsDistinct (node l i k r) → IsDistinct r
right_apart l r i k d = record { once = λ j. let h = d.once j in omega (arith, h) }

module _ (k m i : ℕ) (v w : List ℕ) (left right : Option ℕ) (n0 n1 n2 n3 n4 n5 : Store)
    (a : IsBuilt (k - 1) v left n0 n1) (b : IsBuilt (k - 1) w right n1 n2)
    (up_left : Reparented n2 n3 left (Some i)) (up_right : Reparented n3 n4 right (Some i))
    (top : Written n4 n5 i
    (record { parent = None; left = left; right = right; rank = part_rank k m }))
    (half : length v ≡ m / 2) (whole : length v + length w + 1 ≡ m)
    (distinct : IsDistinct (node a.tree i (part_rank k m) b.tree)) where
  once : (j : ℕ) → count j a.tree + one j i + count j b.tree ≤ 1
  once = distinct.once

  left_link : Reparented n2 n3 (root_of a.tree) (Some i)
  left_link = subst (λ o. Reparented n2 n3 o (Some i)) a.root_is up_left

  right_link : Reparented n3 n4 (root_of b.tree) (Some i)
  right_link = subst (λ o. Reparented n3 n4 o (Some i)) b.root_is up_right

  top_else : (j : ℕ) → one j i ≡ 0 → n5 j ≡ n4 j
  top_else = write-elsewhere n4 n5 i _ top

  left_else : (j : ℕ) → count j a.tree ≡ 0 → n3 j ≡ n2 j
  left_else = reparent-elsewhere n2 n3 (Some i) a.tree left_link

  right_else : (j : ℕ) → count j b.tree ≡ 0 → n4 j ≡ n3 j
  right_else = reparent-elsewhere n3 n4 (Some i) b.tree right_link

  left_stays : (j : ℕ) → 0 < count j a.tree → n2 j ≡ n1 j
  left_stays j on = let h = once j in b.elsewhere j (omega (arith, h, on))

  left_there : Represents n3 (Some i) a.tree
  left_there =
      Represents-reparent n2 n3 None (Some i) a.tree
      (left_apart a.tree b.tree i (part_rank k m) distinct) left_link
      (Represents-keep n1 n2 None a.tree left_stays a.represents)

  left_last : Represents n5 (Some i) a.tree
  left_last =
      Represents-keep n3 n5 (Some i) a.tree
      (λ j on. let h = once j in top_else j (omega (arith, h, on)) ∙ right_else j
      (omega (arith, h, on))) left_there

  right_there : Represents n4 (Some i) b.tree
  right_there =
      Represents-reparent n3 n4 None (Some i) b.tree
      (right_apart a.tree b.tree i (part_rank k m) distinct) right_link
      (Represents-keep n2 n3 None b.tree
      (λ j on. let h = once j in left_else j (omega (arith, h, on))) b.represents)

  right_last : Represents n5 (Some i) b.tree
  right_last = Represents-keep n4 n5 (Some i) b.tree
      (λ j on. let h = once j in top_else j (omega (arith, h, on))) right_there

  root_last : n5 i ≡ Some (node_view Left None (root_of a.tree) (part_rank k m) (root_of b.tree))
  root_last =
      top.here ∙ ap (λ o. Some (node_view Left None o (part_rank k m) right)) a.root_is ∙ ap
      (λ o. Some (node_view Left None (root_of a.tree) (part_rank k m) o)) b.root_is

  sizes : size a.tree + size b.tree + 1 ≡ m
  sizes =
      let p = size-walk a.tree ∙ ap length a.is_walk in
      let q = size-walk b.tree ∙ ap length b.is_walk in
      omega (arith, p, q, whole)

  left_half : size a.tree ≡ (size a.tree + size b.tree + 1) / 2
  left_half = size-walk a.tree ∙ ap length a.is_walk ∙ half ∙ ap (λ c. c / 2) (sym sizes)

  -- the part is written
  pub built_over : IsBuilt k (v ++ i ∷ w) (Some i) n0 n5
  built_over =
      record {
        tree = node a.tree i (part_rank k m) b.tree;
        is_walk = ap (λ l. l ++ i ∷ walk b.tree) a.is_walk ∙ ap (λ l. v ++ i ∷ l) b.is_walk;
        halves = (left_half, ap (part_rank k) (sym sizes), a.halves, b.halves);
        root_is = refl;
        represents = (root_last, left_last, right_last);
        elsewhere = λ j none.
            top_else j (omega (arith, none)) ∙ right_else j (omega (arith, none)) ∙ left_else j
            (omega (arith, none))
            ∙ b.elsewhere j (omega (arith, none)) ∙ a.elsewhere j (omega (arith, none));
      }
