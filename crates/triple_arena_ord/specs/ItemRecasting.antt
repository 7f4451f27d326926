-- An ordered arena under a renaming of what its items hold.
use Rattle.std.specs.Prelude.{◌≡◌, List, Option}
use Rattle.triple_arena_ptr.specs.Recast.{renamed}
use Rattle.triple_arena.specs.Recasting.{content_items, content_recasted}
use Rattle.triple_arena.specs.RecastingLaws.{items-recasted}
use Rattle.triple_arena_chain.specs.LinkRecasting.{link_items, link_recasted}
use Rattle.triple_arena_ord.specs.NodeShape.{IndexNode}
use Rattle.triple_arena_ord.specs.Ordered.{Ordered}

module _ {N T : Type 0} (items : T → List N) where
  -- what the item of a node holds
  abbrev pub node_items : IndexNode T → List N
  node_items node = items node.t

  -- what the items hold, in the order of the indexes
  abbrev pub items_of : Ordered T → List N
  items_of o = content_items (link_items node_items) o.chains

-- the node with its item recast
abbrev pub node_recasted : {T : Type 0} → (T → T) → IndexNode T → IndexNode T
node_recasted recasted node = record node { t = recasted node.t }

module _ {N T : Type 0} (items : T → List N) (f : N → Option N) (recasted : T → T) where
  -- the items recast, up to the first that holds what has no image
  abbrev pub recasted_in : Ordered T → Ordered T
  recasted_in o = record o {
    chains = content_recasted (link_items (node_items items)) f
        (link_recasted (node_recasted recasted)) o.chains;
  }

  pub items-recasted_in : ((t : T) → items (recasted t) ≡ renamed f (items t)) → (o : Ordered T)
      → items_of items (recasted_in o) ≡ renamed f (items_of items o)
  items-recasted_in each o = items-recasted (link_items (node_items items)) f
      (link_recasted (node_recasted recasted)) (λ link. each link.t.t) o.chains
