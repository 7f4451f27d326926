-- What holds of each ordered arena that a call leaves.
use Rattle.triple_arena_chain.specs.Links.{IsChained}
use Rattle.triple_arena_ord.specs.Ordered.{Ordered, IsOrdered}

-- the tree keeps the rank rules and its walk is the list, which has as many indexes as are live;
-- there are no more slots than the room has, each index that is not live is free once, and the
-- interlinks agree
pub record IsFormed {T : Type 0} (o : Ordered T) : Type 0 where
  pub ordered : IsOrdered o
  pub chained : IsChained o.chains
