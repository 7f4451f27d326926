-- The entries in the order of the indexes as one list.
use Rattle.std.proofs.Common.{◌≡◌, ℕ, List, [], ◌∷◌, map, refl, sym, ap, ◌∙◌}
use Rattle.triple_arena.specs.RiseLaws.{same_listed}
use Rattle.triple_arena.specs.Iterators.{pointer_of}
use Rattle.triple_arena_chain.specs.Listed.{listed_value}
use Rattle.triple_arena_chain.specs.LinkShape.{IndexLink}
use Rattle.triple_arena_ord.specs.Indexed.{listed_item, indexed}
use Rattle.triple_arena_ord.specs.IndexedLaws.{entry-indexed, indexed-increase}
use Rattle.triple_arena_ord.specs.Ordered.{Ordered, entry_in}
use Rattle.triple_arena_ord.specs.NodeShape.{IndexNode}

module _ {T : Type 0} where
  -- the same items at the same indexes
  pub same_items : (o p : Ordered T) → ((i : ℕ) → entry_in p i ≡ entry_in o i)
      → indexed p ≡ indexed o
  same_items o p same =
      same_listed (indexed p) (indexed o) (indexed-increase p) (indexed-increase o)
      (λ i. sym (entry-indexed p i) ∙ same i ∙ entry-indexed o i)

  -- the pointers are those of the links
  pub pointers_same : (links : List (ℕ × (ℕ × IndexLink (IndexNode T))))
      → map pointer_of (map listed_item (map listed_value links)) ≡ map pointer_of links
  pointers_same [] = refl
  pointers_same (e ∷ links) = ap (λ l. (e.0, e.1.0) ∷ l) (pointers_same links)
