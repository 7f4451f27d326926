-- The canonical transfer of an ordered arena: the entries at the indexes from 1 on, in the order of
-- the list, and the tree written anew.
use Rattle.std.specs.Prelude.{◌≡◌, ℕ, [], Option, length}
use Rattle.std.specs.List.{range_with_len}
use Rattle.triple_arena_ptr.specs.declared.invalidation.InvalidationOption.{InvalidationOption}
use Rattle.triple_arena.specs.Transfer.{IsTransferred}
use Rattle.rank_tree.specs.Halving.{IsHalvingOf}
use Rattle.triple_arena_ord.specs.Indexed.{indexed}
use Rattle.triple_arena_ord.specs.Ordered.{Ordered, size_in, counter_in, tree_in, order_in}
use Rattle.triple_arena_ord.specs.Ordered.{ordered_entries}

module _ {Q U P T F : Type 0} (old_index old_generation : Q → ℕ) (index generation : P → ℕ)
    (step : F → Q → InvalidationOption U → P → T → F → Type 0) where
  -- a map was called once at each entry, along the list, and what it gave stands at the indexes
  -- from 1 on, which are the new list; the tree is the halving tree of it, and no index is free
  pub record IsTransferredInOrder (f : F) (last : Option ℕ) (old : Ordered U) (new : Ordered T)
      : Type 0 where
    pub moved : IsTransferred old_index old_generation index generation step f last (counter_in old)
        (ordered_entries old) (indexed new)
    pub order : order_in new ≡ range_with_len 1 (size_in old)
    pub tree : IsHalvingOf (range_with_len 1 (size_in old)) (tree_in new)
    pub slots : length new.chains.slots ≡ size_in old
    pub free : new.chains.free ≡ []
