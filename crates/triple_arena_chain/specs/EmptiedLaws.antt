-- What is left of an arena whose links were all taken out: no value. A removal does not change it.
use Rattle.std.proofs.Common.{ℕ, Option, option_map, refl, ap}
use Rattle.triple_arena.specs.Content.{Content, live_count, some_counter}
use Rattle.triple_arena.specs.DrainLaws.{drained-same}
use Rattle.triple_arena.specs.Drains.{drained, LeavesGivenUp}
use Rattle.triple_arena.specs.Transfer.{IsGivenUp}
use Rattle.triple_arena.specs.TransferLaws.{entry-drained}
use Rattle.triple_arena_chain.specs.LinkShape.{IndexLink}
use Rattle.triple_arena_chain.specs.Links.{valued, values_in}
use Rattle.triple_arena_chain.specs.Values.{room_in}

module _ {T : Type 0} (last : Option ℕ) where
  pub drained-gives_up : (c : Content (IndexLink T))
      → IsGivenUp values_in live_count some_counter room_in last c (drained last c)
  drained-gives_up c = record {
    entries = λ j. ap (option_map valued) (entry-drained last c j);
    live = refl;
    counter = refl;
    room = refl;
  }

module _ (T : Type 0) (last : Option ℕ) where
  pub drained-leaves : LeavesGivenUp {S = Content (IndexLink T)}
      {T = T} values_in live_count some_counter room_in last (drained last)
  unfolding LeavesGivenUp
  drained-leaves = (
    drained-gives_up last,
    λ old new i removed. drained-same last old new removed.live removed.counter removed.room,
  )
