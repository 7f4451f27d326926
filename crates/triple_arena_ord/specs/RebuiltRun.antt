-- A tree that is written anew where the list is the indexes from 1 on.
use Rattle.std.specs.Prelude.{◌≡◌, ℕ, zero, suc, ◌+◌, ◌/◌, ◌<◌, ◌≤◌, Option, Some, None}
use Rattle.std.specs.List.{range_with_len}
use Rattle.rank_tree.specs.Store.{Store}
use Rattle.rank_tree.specs.Tree.{Tree, walk}
use Rattle.rank_tree.specs.Shape.{root_of, Represents}
use Rattle.rank_tree.specs.Halving.{IsHalving}

-- the root of a part of so many indexes behind others
abbrev pub middle : ℕ → ℕ → Option ℕ
middle before zero = None
middle before (suc n) = Some (before + suc n / 2 + 1)

-- the nodes at so many indexes behind others were written as a halving tree under a parent, and no
-- other node
pub record IsRunBuilt (k : ℕ) (parent : Option ℕ) (before count : ℕ) (n m : Store) : Type 0 where
  pub tree : Tree
  pub is_walk : walk tree ≡ range_with_len (before + 1) count
  pub halves : IsHalving k tree
  pub root_is : root_of tree ≡ middle before count
  pub represents : Represents m parent tree
  pub under : (j : ℕ) → j ≤ before → m j ≡ n j
  pub over : (j : ℕ) → before + count < j → m j ≡ n j
