-- A search by key along the links of an arena.
use Rattle.std.proofs.Common.{◌≡◌, ℕ, ◌+◌, ◌<◌, List, length, Option, Some, None, sym, ap, ◌∙◌}
use Rattle.std.proofs.Common.{subst, inl, inr}
use Rattle.std.specs.Option.{option_map}
use Rattle.std.specs.declared.cmp.Ordering.{Ordering}
use Rattle.triple_arena.specs.Content.{Content, entry_at}
use Rattle.triple_arena_chain.specs.LinkShape.{IndexLink}
use Rattle.linked_lists.specs.LinkedLists.{IsLinear, On, last_or}
use Rattle.triple_arena_chain.specs.Links.{ends_in, link_ends, entry_ends, valued}
use Rattle.triple_arena_ord.specs.NodeShape.{IndexNode}
use Rattle.triple_arena_ord.specs.Node.{itemed}
use Rattle.rank_tree.specs.Search.{IsParted}
use Rattle.triple_arena_ord.specs.Ordered.{asked_of}
use Rattle.triple_arena_ord.specs.Near.{IsStop, IsAtHand, asked_in, onward}
use Rattle.triple_arena_ord.proofs.GapLemmas.{linear_ends}
use Rattle.triple_arena_ord.proofs.NearLemmas.{Walking, walking_step, walking_stops, walking_ended}
use Rattle.triple_arena_ord.proofs.NearLemmas.{walking_on, end_not_near, gap_not_near}

module _ {T : Type 0} where
  -- the link that a look-up found
  pub link_seen : {G B : Type 0} (stamp : G → ℕ) (now : B → IndexLink (IndexNode T))
      (c : Content (IndexLink (IndexNode T))) (i : ℕ) (r : Option (G × B)) (s : G) (b : B)
      → r ≡ Some (s, b) → option_map (λ e. (stamp e.0, now e.1)) r ≡ entry_at c i
      → entry_at c i ≡ Some (stamp s, now b)
  link_seen stamp now c i r s b r_is at = sym at ∙ ap (option_map (λ e. (stamp e.0, now e.1))) r_is

  pub none_seen : {G B : Type 0} (stamp : G → ℕ) (now : B → IndexLink (IndexNode T))
      (c : Content (IndexLink (IndexNode T))) (i : ℕ) (r : Option (G × B))
      → r ≡ None → option_map (λ e. (stamp e.0, now e.1)) r ≡ entry_at c i → entry_at c i ≡ None
  none_seen stamp now c i r r_is at = sym at ∙ ap (option_map (λ e. (stamp e.0, now e.1))) r_is

module _ {K T : Type 0} (cmp : K → K → Ordering) (key : T → K) (k : K)
    (c : Content (IndexLink (IndexNode T))) where
  abbrev ask : ℕ → Ordering
  ask = asked_in cmp key k c

  ends_seen : (i s : ℕ) (link : IndexLink (IndexNode T)) → entry_at c i ≡ Some (s, link)
      → ends_in c i ≡ Some (link_ends link)
  ends_seen i s link at = ap (option_map entry_ends) at

  asked_seen : (i s : ℕ) (link : IndexLink (IndexNode T)) → entry_at c i ≡ Some (s, link)
      → ask i ≡ cmp k (key link.t.t)
  asked_seen i s link at = ap (λ e. asked_of cmp key k (option_map itemed (option_map valued e))) at

  module _ (w : List ℕ) (start : ℕ) (path : List ℕ) (linear : IsLinear (ends_in c) w)
      (way : Ordering) (cur steps : ℕ) (so_far : Walking ask w start path way cur steps) where
    -- where the search is there is a link
    pub walk_lives : entry_at c cur ≡ None → ⊥
    walk_lives none =
        let at = linear_ends (ends_in c) so_far.before cur so_far.after
        (subst (IsLinear (ends_in c)) so_far.is linear) in
        let gone : ends_in c cur ≡ None = ap (option_map entry_ends) none in
        absurd (cc)

    module _ (s : ℕ) (link : IndexLink (IndexNode T)) (at : entry_at c cur ≡ Some (s, link))
        (d : Ordering) (answered : d ≡ cmp k (key link.t.t)) where
      pub walk_step : (next : ℕ) → onward way d (link_ends link) ≡ Some next
          → Walking ask w start path d next (steps + 1)
      walk_step next on =
          walking_step (ends_in c) ask w start path linear way d cur steps next
          (link_ends link) so_far (asked_seen cur s link at ∙ sym answered)
          (ends_seen cur s link at) on

      pub walk_stops : onward way d (link_ends link) ≡ None → IsStop ask w cur d
      walk_stops off = record {
        on = record { front = so_far.before; back = so_far.after; is = so_far.is };
        way = asked_seen cur s link at ∙ sym answered;
        places = walking_stops (ends_in c) ask w start path linear way d cur steps
            (link_ends link) so_far (ends_seen cur s link at) off;
      }

      pub walk_ended : onward way d (link_ends link) ≡ None
          → (last_or None path ≡ Some cur) × (length path ≡ steps + 1)
      walk_ended off =
          walking_ended (ends_in c) ask w start path linear way d cur steps
          (link_ends link) so_far (asked_seen cur s link at ∙ sym answered)
          (ends_seen cur s link at) off

    -- there is more of the path
    pub walk_on : steps < length path
    walk_on = walking_on (ends_in c) ask w start path linear way cur steps so_far

  -- where the comparisons are made, nothing that ends the search is near
  pub walk_passes : (w : List ℕ) (start : ℕ) (path : List ℕ) → IsLinear (ends_in c) w
      → On w start → (way : Ordering) (cur steps num : ℕ) → steps ≡ num
      → Walking ask w start path way cur steps
      → IsParted ask w → IsAtHand num ask w start → ⊥
  walk_passes w start path linear on way cur steps num all so_far parted hand =
      let k = subst (Walking ask w start path way cur) all so_far in
      elim hand [
        | inl end ↦ end_not_near (ends_in c) ask w start path linear way cur num k parted end
        | inr gap ↦ gap_not_near (ends_in c) ask w start path linear way cur num on k parted
            gap
      ]
