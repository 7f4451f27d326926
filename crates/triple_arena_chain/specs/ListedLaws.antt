-- The values of the links as one list, and what stands at each index.
use Rattle.std.proofs.Common.{◌≡◌, ℕ, List, [], ◌∷◌, length, map, option_map, refl, sym, ap, subst}
use Rattle.std.proofs.Common.{◌∙◌, inl, inr}
use Rattle.std.proofs.lemmas.Bool.Decides.{eqb_tells}
use Rattle.std.proofs.lemmas.List.{length-map}
use Rattle.std.specs.List.Sorted.{IsStrictlyIncreasing}
use Rattle.triple_arena.specs.Compression.{index_of}
use Rattle.triple_arena.specs.Content.{Content, live_count}
use Rattle.triple_arena.specs.Entries.{look_up}
use Rattle.triple_arena.specs.LiveEntries.{live_entries, entry-listed, live_entries-length}
use Rattle.triple_arena.specs.LiveEntries.{live_entries-increase}
use Rattle.triple_arena_chain.specs.LinkShape.{IndexLink}
use Rattle.triple_arena_chain.specs.Links.{valued, values_in}
use Rattle.triple_arena_chain.specs.Listed.{listed_value, listed_values}

module _ {T : Type 0} where
  look_up-valued : (links : List (ℕ × (ℕ × IndexLink T))) (i : ℕ)
      → look_up (map listed_value links) i ≡ option_map valued (look_up links i)
  look_up-valued [] i = refl
  look_up-valued (e ∷ links) i =
      elim (eqb_tells e.0 i) [
        | inl same ↦ rw same.0 refl
        | inr other ↦ rw other.0 (look_up-valued links i)
      ]

  indexes_same : (links : List (ℕ × (ℕ × IndexLink T)))
      → map index_of (map listed_value links) ≡ map index_of links
  indexes_same [] = refl
  indexes_same (e ∷ links) = ap (λ l. e.0 ∷ l) (indexes_same links)

  -- the value at each index is the one that is listed under it
  pub value-listed : (c : Content (IndexLink T)) (i : ℕ)
      → values_in c i ≡ look_up (listed_values c) i
  value-listed c i = ap (option_map valued) (entry-listed c i) ∙ sym
      (look_up-valued (live_entries c) i)

  pub listed_values-increase : (c : Content (IndexLink T))
      → IsStrictlyIncreasing (map index_of (listed_values c))
  listed_values-increase c = subst IsStrictlyIncreasing (sym (indexes_same (live_entries c)))
      (live_entries-increase c)

  -- so many values are listed as links are live
  pub listed_values-length : (c : Content (IndexLink T)) → length (listed_values c) ≡ live_count c
  listed_values-length c = length-map (live_entries c) listed_value ∙ live_entries-length c
