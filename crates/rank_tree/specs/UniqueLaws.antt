-- The nodes determine the tree.
use Rattle.std.proofs.Common.{◌≡◌, ℕ, zero, suc, ◌≤◌, Option, Some, None, refl, sym, ap, ◌∙◌, arith}
use Rattle.std.proofs.Common.{◌∷◌, ◌++◌}
use Rattle.rank_tree.specs.declared.side.Side.TheVariants.{Left}
use Rattle.rank_tree.specs.Store.{Store, rank_or_link}
use Rattle.rank_tree.specs.Whole.{read_tree, tree_of}
use Rattle.rank_tree.specs.BoundLaws.{height-le-rank}
use Rattle.rank_tree.specs.SpotLaws.{rank_link}
use Rattle.rank_tree.specs.Tree.{Tree, leaf, node, walk, height, IsRanked}
use Rattle.rank_tree.specs.Shape.{node_view, make, root_of, Represents, RepresentsTree, Context}
use Rattle.rank_tree.specs.Shape.{top, under}
use Rattle.rank_tree.specs.Shape.{plug}

pub unique : (n : Store) (p q : Option ℕ) (t u : Tree) → Represents n p t → Represents n q u
    → root_of t ≡ root_of u → t ≡ u
unique n p q leaf leaf h g e = refl
unique n p q leaf (node l i k r) h g e = absurd (cc)
unique n p q (node l i k r) leaf h g e = absurd (cc)
unique n p q (node l i k r) (node l' i' k' r') h g e =
    let ei : i ≡ i' = cc in
    let same : node_view Left p (root_of l) k (root_of r)
    ≡ node_view Left q (root_of l') k' (root_of r') =
    cc (h.0, g.0, ap n ei) in
    let el = unique n (Some i) (Some i') l l' h.1 g.1 (ap (λ v. v.left) same) in
    let er = unique n (Some i) (Some i') r r' h.2 g.2 (ap (λ v. v.right) same) in
    let ek = ap (λ v. v.rank) same in
    cc

pub whole_unique : (n : Store) (root : Option ℕ) (t u : Tree) → RepresentsTree n root t
    → RepresentsTree n root u → t ≡ u
whole_unique n root t u h g = unique n None None t u h.1 g.1 (sym h.0 ∙ g.0)

pub read_back : (fuel : ℕ) (n : Store) (p : Option ℕ) (t : Tree) → Represents n p t
    → height t ≤ fuel → read_tree fuel n (root_of t) ≡ t
read_back zero n p leaf h e = refl
read_back zero n p (node l i k r) h e = absurd (omega arith)
read_back (suc fuel) n p leaf h e = refl
read_back (suc fuel) n p (node l i k r) h e =
    rw (
      h.0,
      read_back fuel n (Some i) l h.1 (omega arith),
      read_back fuel n (Some i) r h.2 (omega arith),
    ) refl

-- the tree that is read from the links is the one that stands there
pub tree_is : (n : Store) (root : Option ℕ) (t : Tree) → RepresentsTree n root t → IsRanked t
    → tree_of n root ≡ t
tree_is n root t h r = rw h.0
    (read_back (rank_or_link n (root_of t)) n None t h.1
    (let e = rank_link n None t h.1 in let g = height-le-rank t r in omega arith))

-- one context inside another
abbrev pub plug_in : Context → Context → Context
plug_in c top = c
plug_in c (under d s i k far) = under (plug_in c d) s i k far

pub plug_in-plug : (c d : Context) (t : Tree) → plug (plug_in c d) t ≡ plug c (plug d t)
plug_in-plug c top t = refl
plug_in-plug c (under d s i k far) t = plug_in-plug c d (make s t i k far)

-- the least index of a tree: the first of its walk has no left child
pub record First (t : Tree) : Type 0 where
  pub context : Context
  pub index : ℕ
  pub rank : ℕ
  pub right : Tree
  pub is : t ≡ plug context (node leaf index rank right)
  pub at_start : walk t ≡ index ∷ walk (plug context right)

pub first_at : (t : Tree) (i : ℕ) → root_of t ≡ Some i → First t
first_at leaf i e = absurd (cc)
first_at (node leaf x k r) i e = record {
  context = top;
  index = x;
  rank = k;
  right = r;
  is = refl;
  at_start = refl;
}
first_at (node (node a y j b) x k r) i e = go (first_at (node a y j b) y refl)
  where
    go : First (node a y j b) → First (node (node a y j b) x k r)
    go h = record {
      context = plug_in (under top Left x k r) h.context;
      index = h.index;
      rank = h.rank;
      right = h.right;
      is = ap (λ t. node t x k r) h.is ∙ sym
          (plug_in-plug (under top Left x k r) h.context (node leaf h.index h.rank h.right));
      at_start = ap (λ w. w ++ x ∷ walk r) h.at_start ∙ ap (λ t. h.index ∷ walk t)
          (sym (plug_in-plug (under top Left x k r) h.context h.right));
    }
