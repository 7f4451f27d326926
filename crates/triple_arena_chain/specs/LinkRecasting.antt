-- The value of a link under a renaming of the items that it holds.
use Rattle.std.specs.Prelude.{List}
use Rattle.triple_arena_chain.specs.LinkShape.{IndexLink}

module _ {N T : Type 0} where
  -- the items of its value
  abbrev pub link_items : (T → List N) → IndexLink T → List N
  link_items items link = items link.t

module _ {T : Type 0} where
  -- the link with its value recast
  abbrev pub link_recasted : (T → T) → IndexLink T → IndexLink T
  link_recasted recasted link = record link { t = recasted link.t }
