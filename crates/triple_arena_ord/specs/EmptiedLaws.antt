-- What is left of an ordered arena whose entries were all taken out: none. A removal does not
-- change it.
use Rattle.std.proofs.Common.{◌≡◌, ℕ, None, Option, option_map, refl, ap}
use Rattle.triple_arena.specs.Changes.{IsRemoved}
use Rattle.triple_arena.specs.Content.{Content}
use Rattle.triple_arena.specs.DrainLaws.{drained-same}
use Rattle.triple_arena.specs.Drains.{LeavesGivenUp}
use Rattle.triple_arena.specs.Transfer.{IsGivenUp}
use Rattle.triple_arena_chain.specs.EmptiedLaws.{drained-gives_up as chains-given_up}
use Rattle.triple_arena_chain.specs.LinkShape.{IndexLink}
use Rattle.triple_arena_ord.specs.NodeShape.{IndexNode}
use Rattle.triple_arena_ord.specs.Node.{itemed}
use Rattle.triple_arena_ord.specs.Ordered.{Ordered, entry_in, size_in, counter_in, room_in}
use Rattle.triple_arena_ord.specs.States.{drained_in}

module _ {T : Type 0} (last : Option ℕ) where
  drained-gives_up : (o : Ordered T)
      → IsGivenUp entry_in size_in counter_in room_in last o (drained_in last o)
  drained-gives_up o =
      let left = chains-given_up last o.chains in
      record {
        entries = λ j. ap (option_map itemed) (left.entries j);
        live = refl;
        counter = refl;
        room = refl;
      }

  drained-removed : (old new : Ordered T) (i : ℕ)
      → IsRemoved entry_in size_in counter_in room_in last i old new
      → drained_in last new ≡ drained_in last old
  drained-removed old new i removed =
      ap (λ (c : Content (IndexLink (IndexNode T))).
      (let o : Ordered T = record { chains = c; root = None } in o))
      (drained-same last old.chains new.chains removed.live removed.counter removed.room)

module _ (T : Type 0) (last : Option ℕ) where
  pub drained-leaves : LeavesGivenUp {S = Ordered T} {T = T} entry_in size_in counter_in room_in
      last (drained_in last)
  unfolding LeavesGivenUp
  drained-leaves = (drained-gives_up last, drained-removed last)
