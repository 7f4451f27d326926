-- The entries in the order of the indexes as one list, and what stands at each index.
use Rattle.std.proofs.Common.{◌≡◌, ℕ, List, [], ◌∷◌, length, map, option_map, refl, sym, ap, subst}
use Rattle.std.proofs.Common.{◌∙◌, inl, inr}
use Rattle.std.proofs.lemmas.Bool.Decides.{eqb_tells}
use Rattle.std.proofs.lemmas.List.{length-map}
use Rattle.std.specs.List.Sorted.{IsStrictlyIncreasing}
use Rattle.triple_arena.specs.Compression.{index_of}
use Rattle.triple_arena.specs.Entries.{look_up}
use Rattle.triple_arena_chain.specs.Listed.{listed_values}
use Rattle.triple_arena_chain.specs.ListedLaws.{value-listed, listed_values-increase}
use Rattle.triple_arena_chain.specs.ListedLaws.{listed_values-length}
use Rattle.triple_arena_ord.specs.NodeShape.{IndexNode}
use Rattle.triple_arena_ord.specs.Indexed.{listed_item, indexed}
use Rattle.triple_arena_ord.specs.Node.{itemed}
use Rattle.triple_arena_ord.specs.Ordered.{Ordered, entry_in, size_in}

module _ {T : Type 0} where
  look_up-items : (nodes : List (ℕ × (ℕ × IndexNode T))) (i : ℕ)
      → look_up (map listed_item nodes) i ≡ option_map itemed (look_up nodes i)
  look_up-items [] i = refl
  look_up-items (e ∷ nodes) i =
      elim (eqb_tells e.0 i) [
        | inl same ↦ rw same.0 refl
        | inr other ↦ rw other.0 (look_up-items nodes i)
      ]

  indexes_same : (nodes : List (ℕ × (ℕ × IndexNode T)))
      → map index_of (map listed_item nodes) ≡ map index_of nodes
  indexes_same [] = refl
  indexes_same (e ∷ nodes) = ap (λ l. e.0 ∷ l) (indexes_same nodes)

  -- the entry at each index is the one that is listed under it
  pub entry-indexed : (o : Ordered T) (i : ℕ) → entry_in o i ≡ look_up (indexed o) i
  entry-indexed o i = ap (option_map itemed) (value-listed o.chains i) ∙ sym
      (look_up-items (listed_values o.chains) i)

  pub indexed-increase : (o : Ordered T) → IsStrictlyIncreasing (map index_of (indexed o))
  indexed-increase o = subst IsStrictlyIncreasing (sym (indexes_same (listed_values o.chains)))
      (listed_values-increase o.chains)

  -- so many entries are listed as are live
  pub indexed-length : (o : Ordered T) → length (indexed o) ≡ size_in o
  indexed-length o = length-map (listed_values o.chains) listed_item ∙ listed_values-length o.chains
