-- Compression: the entries at the first indexes, in the order of the indexes that they had, the
-- list renamed with them, and the tree written anew.
use Rattle.std.specs.Prelude.{◌≡◌, ℕ, ◌+◌, Bool, [], List, Option, Some, None, length, map}
use Rattle.std.specs.Prelude.{slice_get}
use Rattle.std.specs.Option.{option_map}
use Rattle.triple_arena.specs.Compression.{renewed}
use Rattle.triple_arena_chain.specs.Renaming.{new_index}
use Rattle.rank_tree.specs.Halving.{IsHalvingOf}
use Rattle.triple_arena_ord.specs.Ordered.{Ordered, entry_in, size_in, tree_in, order_in}

-- an end of a list so far: a later index is it where it has no neighbor on that side
abbrev pub end_noted : Option ℕ → Option ℕ → ℕ → Option ℕ
end_noted end None i = Some i
end_noted end (Some _) i = end

module _ {T : Type 0} where
  -- the items stand at the indexes from 1 on, in the order of the indexes that they had, with the
  -- generation renewed; the list is the one that was under the new indexes, the tree is the halving
  -- tree of it, and no index is free
  pub record IsCompressedInOrder (last : Option ℕ) (reset : Bool) (given : List T)
      (old new : Ordered T) : Type 0 where
    pub order : order_in new ≡ map (new_index (entry_in old)) (order_in old)
    pub entries : (k : ℕ)
        → entry_in new (k + 1) ≡ option_map (λ t. (renewed last reset old.chains.counter, t))
        (slice_get given k)
    pub tree : IsHalvingOf (order_in new) (tree_in new)
    pub size : size_in new ≡ size_in old
    pub slots : length new.chains.slots ≡ size_in old
    pub free : new.chains.free ≡ []
    pub counter : new.chains.counter ≡ renewed last reset old.chains.counter
    pub room : new.chains.room ≡ old.chains.room
