-- A greater room leaves the links.
use Rattle.std.proofs.Common.{◌≡◌, ℕ, option_map, sym, ap, subst}
use Rattle.triple_arena_stack.specs.Room.{room_after}
use Rattle.triple_arena.specs.Content.{Content, live_count, grown_if_full}
use Rattle.triple_arena.specs.InsertionLaws.{formed-grown, entry-in_room}
use Rattle.triple_arena_chain.specs.LinkShape.{IndexLink}
use Rattle.triple_arena_chain.specs.declared.gap.Gap.{Gap}
use Rattle.triple_arena_chain.specs.Links.{entry_ends, ends_in, IsChained, IsLinkInserted}
use Rattle.linked_lists.specs.LinkedListLaws.{IsAgreed-same}

module _ {T : Type 0} where
  pub chained-grown : (c d : Content (IndexLink T)) → IsChained c → d ≡ grown_if_full c
      → IsChained d
  chained-grown c d chained is =
      subst IsChained (sym is)
      (record {
        formed = formed-grown c chained.formed;
        agreed = IsAgreed-same (ends_in c) (ends_in (grown_if_full c))
            (λ k. ap (option_map entry_ends)
            (entry-in_room c (room_after (live_count c) c.room) k)) chained.agreed;
      })

  -- an insertion after a growth is one into the arena before it
  pub inserted-grown : (c d new : Content (IndexLink T)) (gap : Gap ℕ) (i g : ℕ) (t : T)
      → d ≡ grown_if_full c → IsLinkInserted gap i g t d new
      → IsLinkInserted gap i g t c new
  inserted-grown c d new gap i g t is inserted =
      let p : IsLinkInserted gap i g t (grown_if_full c) new =
      subst (λ x. IsLinkInserted gap i g t x new) is inserted in
      record {
        index = p.index;
        generation = p.generation;
        vacant = p.vacant;
        ends = p.ends;
        lists = p.lists;
        values = p.values;
        live = p.live;
        counter = p.counter;
        free = p.free;
        slots = p.slots;
      }
