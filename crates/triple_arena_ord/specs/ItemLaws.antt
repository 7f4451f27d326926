-- What a write of an item changes and keeps.
use Rattle.std.proofs.Common.{◌≡◌, ℕ, Option, Some, None, refl, ap, ◌∙◌, inl, inr}
use Rattle.std.specs.Option.{option_map}
use Rattle.std.proofs.lemmas.Bool.Decides.{eqb_tells}
use Rattle.triple_arena.specs.Content.{entry_at}
use Rattle.triple_arena.specs.Entries.{with_value_at}
use Rattle.triple_arena_chain.specs.LinkLaws.{entry-with_link, kept-with_link}
use Rattle.triple_arena_chain.specs.Links.{valued, IsKept}
use Rattle.triple_arena_chain.specs.LinkShape.{IndexLink}
use Rattle.triple_arena_ord.specs.NodeShape.{IndexNode}
use Rattle.triple_arena_ord.specs.Node.{itemed}
use Rattle.triple_arena_ord.specs.Ordered.{Ordered, entry_in, size_in, counter_in, room_in}
use Rattle.triple_arena_ord.specs.States.{with_item}

module _ {T : Type 0} where
  -- a link whose node has another item
  abbrev with_node_item : T → IndexLink (IndexNode T) → IndexLink (IndexNode T)
  with_node_item t link = record link { t = record link.t { t = t } }

  -- the item is what it was written
  pub entry-with_item : (o : Ordered T) (i : ℕ) (t : T) (k : ℕ)
      → entry_in (with_item o i t) k ≡ with_value_at (entry_in o) i t k
  entry-with_item o i t k =
      ap (λ e. option_map itemed (option_map valued e))
      (entry-with_link o.chains i (with_node_item t) k)
      ∙ elim (eqb_tells k i) [
        | inl at ↦ rw at.0 (by_entry (entry_at o.chains i))
        | inr other ↦ rw other.0 refl
      ]
    where
      by_entry : (e : Option (ℕ × IndexLink (IndexNode T)))
          → option_map itemed (option_map valued
          (option_map (λ (l : ℕ × IndexLink (IndexNode T)).
          (let v : ℕ × IndexLink (IndexNode T) = (l.0, with_node_item t l.1) in v)) e))
          ≡ option_map (λ (l : ℕ × T). (let v : ℕ × T = (l.0, t) in v))
          (option_map itemed (option_map valued e))
      by_entry None = refl
      by_entry (Some e) = refl

  kept-with_item : (o : Ordered T) (i : ℕ) (t : T) → IsKept o.chains (with_item o i t).chains
  kept-with_item o i t = kept-with_link o.chains i (with_node_item t)

  pub size-with_item : (o : Ordered T) (i : ℕ) (t : T) → size_in (with_item o i t) ≡ size_in o
  size-with_item o i t = (kept-with_item o i t).live

  pub counter-with_item : (o : Ordered T) (i : ℕ) (t : T)
      → counter_in (with_item o i t) ≡ counter_in o
  counter-with_item o i t = ap Some (kept-with_item o i t).counter

  pub room-with_item : (o : Ordered T) (i : ℕ) (t : T) → room_in (with_item o i t) ≡ room_in o
  room-with_item o i t = (kept-with_item o i t).room
