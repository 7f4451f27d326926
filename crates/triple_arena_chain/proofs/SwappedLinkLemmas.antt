-- Two links that change places, and a link that is read.
use Rattle.std.proofs.Common.{◌≡◌, ℕ, Option, Some, None, IsSome, true≢false, option_map, refl, sym}
use Rattle.std.proofs.Common.{ap, subst, ◌∙◌, inl, inr}
use Rattle.std.proofs.lemmas.Bool.Decides.{eqb_tells}
use Rattle.triple_arena.specs.Entries.{with_values_exchanged, revalued}
use Rattle.triple_arena.specs.Content.{Content, entry_at, with_exchange}
use Rattle.triple_arena.specs.ExchangeLaws.{live-with_exchange, slots-with_exchange}
use Rattle.triple_arena.specs.ExchangeLaws.{counter-with_exchange, free-with_exchange}
use Rattle.triple_arena.specs.ExchangeLaws.{room-with_exchange}
use Rattle.triple_arena_chain.specs.LinkShape.{IndexLink}
use Rattle.linked_lists.specs.LinkedLists.{next_at, prev_at, next_in, prev_in}
use Rattle.triple_arena_chain.specs.Links.{valued, values_in, IsKept, link_ends, entry_ends}
use Rattle.triple_arena_chain.specs.Links.{ends_in}
use Rattle.triple_arena_chain.specs.CanonicalLayout.{swapped_index, IsAlike}

module _ {T : Type 0} where
  revalued-ends : (o o' : Option (ℕ × IndexLink T)) → IsSome o
      → option_map entry_ends (revalued o o') ≡ option_map entry_ends o'
  revalued-ends None o' some = absurd (true≢false (sym some))
  revalued-ends (Some x) None some = refl
  revalued-ends (Some x) (Some y) some = refl

  revalued-value : (o o' : Option (ℕ × IndexLink T)) → IsSome o
      → ((x y : ℕ × IndexLink T) → o ≡ Some x → o' ≡ Some y → x.0 ≡ y.0)
      → option_map valued (revalued o o') ≡ option_map valued o'
  revalued-value None o' some same = absurd (true≢false (sym some))
  revalued-value (Some x) None some same = refl
  revalued-value (Some x) (Some y) some same = ap (λ g. Some (g, y.1.t)) (same x y refl refl)

  module _ (c : Content (IndexLink T)) (i j : ℕ) (live_i : IsSome (entry_at c i))
      (live_j : IsSome (entry_at c j)) where
    pub ends-swapped : (k : ℕ)
        → option_map entry_ends (with_values_exchanged (entry_at c) i j k)
        ≡ ends_in c (swapped_index i j k)
    ends-swapped k =
        elim (eqb_tells k i) [
          | inl same ↦ rw same.0 (revalued-ends (entry_at c i) (entry_at c j) live_i)
          | inr not_i ↦
              elim (eqb_tells k j) [
                | inl same ↦ rw (not_i.0, same.0)
                    (revalued-ends (entry_at c j) (entry_at c i) live_j)
                | inr not_j ↦ rw (not_i.0, not_j.0) refl
              ]
        ]

    module _ (alike : IsAlike c) where
      generation_is : (k : ℕ) (x : ℕ × IndexLink T) → entry_at c k ≡ Some x → x.0 ≡ c.counter
      generation_is k x at = alike k (x.0, x.1.t) (ap (option_map valued) at)

      pub values-swapped : (k : ℕ)
          → option_map valued (with_values_exchanged (entry_at c) i j k)
          ≡ values_in c (swapped_index i j k)
      values-swapped k =
          elim (eqb_tells k i) [
            | inl same ↦ rw same.0
                (revalued-value (entry_at c i) (entry_at c j) live_i
                (λ x y at at'. generation_is i x at ∙ sym (generation_is j y at')))
            | inr not_i ↦
                elim (eqb_tells k j) [
                  | inl same ↦ rw (not_i.0, same.0)
                      (revalued-value (entry_at c j) (entry_at c i) live_j
                      (λ x y at at'. generation_is j x at ∙ sym (generation_is i y at')))
                  | inr not_j ↦ rw (not_i.0, not_j.0) refl
                ]
          ]

  pub kept-swapped : (c new : Content (IndexLink T)) (i j : ℕ) → new ≡ with_exchange c i j
      → IsKept c new
  kept-swapped c new i j made =
      subst (IsKept c) (sym made)
      (record {
        live = live-with_exchange c i j;
        slots = slots-with_exchange c i j;
        free = free-with_exchange c i j;
        counter = counter-with_exchange c i j;
        room = room-with_exchange c i j;
      })

  -- the interlinks of a link that was read
  pub found_ends : (c : Content (IndexLink T)) (i : ℕ) (l : IndexLink T)
      → option_map (λ (e : ℕ × IndexLink T). e.1) (entry_at c i) ≡ Some l
      → ends_in c i ≡ Some (link_ends l)
  found_ends c i l is = by (entry_at c i) is
    where
      by : (o : Option (ℕ × IndexLink T)) → option_map (λ (e : ℕ × IndexLink T). e.1) o ≡ Some l
          → option_map entry_ends o ≡ Some (link_ends l)
      by None h = absurd (cc)
      by (Some x) h = let it : x.1 ≡ l = cc in
          ap (λ (m : IndexLink T). Some (link_ends m)) it

  pub prev_found : (c : Content (IndexLink T)) (i : ℕ) (l : IndexLink T)
      → option_map (λ (e : ℕ × IndexLink T). e.1) (entry_at c i) ≡ Some l
      → prev_at (ends_in c) i ≡ l.prev
  prev_found c i l is = ap prev_in (found_ends c i l is)

  pub next_found : (c : Content (IndexLink T)) (i : ℕ) (l : IndexLink T)
      → option_map (λ (e : ℕ × IndexLink T). e.1) (entry_at c i) ≡ Some l
      → next_at (ends_in c) i ≡ l.next
  next_found c i l is = ap next_in (found_ends c i l is)
