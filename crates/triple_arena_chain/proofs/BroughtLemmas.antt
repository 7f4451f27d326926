-- A link that is brought to its place, as it is written.
use Rattle.std.proofs.Common.{◌≡◌, ℕ, Option, Some, IsSome, is_some, option_map, sym, ap, subst}
use Rattle.std.proofs.Common.{◌∙◌}
use Rattle.triple_arena.specs.Entries.{with_values_exchanged}
use Rattle.triple_arena.specs.Content.{Content, entry_at, with_exchange, IsWellFormed}
use Rattle.triple_arena.specs.ExchangeLaws.{formed-with_exchange}
use Rattle.triple_arena_chain.specs.LinkShape.{IndexLink}
use Rattle.linked_lists.specs.LinkedLists.{with_next_if}
use Rattle.triple_arena_chain.specs.Links.{valued, values_in, entry_ends, ends_in, with_next_of}
use Rattle.triple_arena_chain.specs.Links.{with_prev_of, IsKept}
use Rattle.triple_arena_chain.specs.LinkLaws.{kept_on, ends-with_next_of, ends-with_prev_of}
use Rattle.triple_arena_chain.specs.LinkLaws.{values-with_prev_of, kept-with_next_of}
use Rattle.triple_arena_chain.specs.LinkLaws.{kept-with_prev_of, formed-with_next_of}
use Rattle.triple_arena_chain.specs.LinkLaws.{formed-with_prev_of}
use Rattle.triple_arena_chain.specs.CanonicalLayout.{swapped_index, IsAlike}
use Rattle.triple_arena_chain.specs.Notes.{IsBrought}
use Rattle.triple_arena_chain.proofs.InsertionLemmas.{with_prev_if-same}
use Rattle.triple_arena_chain.proofs.PassLemmas.{some_valued, live_as, next_unchanged}
use Rattle.triple_arena_chain.proofs.SwapLemmas.{swap_j}
use Rattle.triple_arena_chain.proofs.SwappedLinkLemmas.{ends-swapped, values-swapped, kept-swapped}

module _ {T : Type 0} where
  -- what is live stays so
  pub next_keeps : (c c1 : Content (IndexLink T)) (last next : Option ℕ) (i : ℕ)
      → c1 ≡ with_next_of c last next → IsSome (entry_at c i)
      → IsSome (entry_at c1 i)
  next_keeps c c1 last next i made live = live_as c c1 (next_unchanged c c1 last next made) i
      ∙ live

  module _ (c c1 c2 c3 : Content (IndexLink T)) (last : Option ℕ) (at place : ℕ)
      (formed : IsWellFormed c) (alike : IsAlike c)
      (live_at : IsSome (entry_at c at)) (live_place : IsSome (entry_at c place))
      (made : c1 ≡ with_next_of c last (Some place))
      (swapped : (k : ℕ) → entry_at c2 k
      ≡ with_values_exchanged (entry_at c1) at place k)
      (exact : c2 ≡ with_exchange c1 at place) where
    kept1 : IsKept c c1
    kept1 = subst (IsKept c) (sym made) (kept-with_next_of c last (Some place))

    values1 : (k : ℕ) → values_in c1 k ≡ values_in c k
    values1 = next_unchanged c c1 last (Some place) made

    alike1 : IsAlike c1
    alike1 k e is = alike k e (sym (values1 k) ∙ is) ∙ sym kept1.counter

    live1_at : IsSome (entry_at c1 at)
    live1_at = live_as c c1 values1 at ∙ live_at

    live1_place : IsSome (entry_at c1 place)
    live1_place = live_as c c1 values1 place ∙ live_place

    ends1 : (k : ℕ) → ends_in c1 k
        ≡ with_next_if (ends_in c) last (Some place) k
    ends1 k = ap (λ d. ends_in d k) made ∙ ends-with_next_of c last (Some place) k

    ends2 : (k : ℕ) → ends_in c2 k
        ≡ with_next_if (ends_in c) last (Some place)
        (swapped_index at place k)
    ends2 k =
        ap (option_map entry_ends) (swapped k)
        ∙ ends-swapped c1 at place live1_at live1_place k
        ∙ ends1 (swapped_index at place k)

    values2 : (k : ℕ) → values_in c2 k ≡ values_in c (swapped_index at place k)
    values2 k =
        ap (option_map valued) (swapped k)
        ∙ values-swapped c1 at place live1_at live1_place alike1 k
        ∙ values1 (swapped_index at place k)

    formed2 : IsWellFormed c2
    formed2 =
        subst IsWellFormed (sym exact)
        (formed-with_exchange c1 at place
        (subst IsWellFormed (sym made) (formed-with_next_of c last (Some place) formed)))

    -- the place is live after the exchange
    pub place_stays : IsSome (entry_at c2 place)
    place_stays =
        sym (some_valued (entry_at c2 place))
        ∙ ap is_some (values2 place ∙ ap (values_in c) (swap_j at place))
        ∙ some_valued (entry_at c at) ∙ live_at

    pub brought : c3 ≡ with_prev_of c2 (Some place) (Some at)
        → IsBrought last at place c c3
    brought noted =
        record {
          ends = λ k.
              ap (λ d. ends_in d k) noted
              ∙ ends-with_prev_of c2 (Some place) (Some at) k
              ∙ with_prev_if-same
              (λ i. with_next_if (ends_in c) last (Some place)
              (swapped_index at place i))
              (ends_in c2) (Some place) (Some at) ends2 k;
          values = λ k. ap (λ d. values_in d k) noted
              ∙ values-with_prev_of c2 (Some place) (Some at) k ∙ values2 k;
          kept =
              kept_on c c1 c3 kept1
              (kept_on c1 c2 c3 (kept-swapped c1 c2 at place exact)
              (subst (IsKept c2) (sym noted) (kept-with_prev_of c2 (Some place) (Some at))));
          formed = subst IsWellFormed (sym noted)
              (formed-with_prev_of c2 (Some place) (Some at) formed2);
        }
