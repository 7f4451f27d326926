-- A chain whose links are brought to successive places, one after another.
use Rattle.std.proofs.Common.{◌≡◌, ◌≢◌, ℕ, ◌+◌, ◌<◌, ◌≤◌, [], length, Option, Some, None, IsSome}
use Rattle.std.proofs.Common.{is_some, option_map, refl, sym, ap, subst, ◌∙◌, arith, inl, inr, ◌⊎◌}
use Rattle.std.proofs.lemmas.Bool.Decides.{eqb_tells, leb_tells}
use Rattle.triple_arena.specs.Content.{Content, entry_at, IsWellFormed}
use Rattle.triple_arena_chain.specs.LinkShape.{IndexLink}
use Rattle.linked_lists.specs.LinkedLists.{Ends, next_at, prev_at, with_next, IsAgreed}
use Rattle.linked_lists.specs.ChainLaws.{live_prev_in}
use Rattle.triple_arena_chain.specs.Links.{values_in, ends_in, with_next_of, IsKept}
use Rattle.triple_arena_chain.specs.LinkLaws.{ends-with_next_of, kept-with_next_of}
use Rattle.triple_arena_chain.specs.LinkLaws.{formed-with_next_of}
use Rattle.triple_arena_chain.proofs.PassLemmas.{live_ends, next_unchanged}
use Rattle.triple_arena_chain.specs.CanonicalLayout.{swapped_index, under, IsAlike, IsRearranged}
use Rattle.triple_arena_chain.specs.Notes.{IsLed, IsBrought, AreNoted, AreLaid, HavePlaces, IsStart}
use Rattle.triple_arena_chain.specs.Notes.{IsGathering, StartsAt, GathersUpTo}
use Rattle.triple_arena_chain.proofs.GatherLemmas.{some_moved, next_moved, prev_moved, next_past}
use Rattle.triple_arena_chain.proofs.GatherLemmas.{placed_live, in_run}
use Rattle.triple_arena_chain.proofs.GatheredLemmas.{IsPlacing, placing_first, placing_more}
use Rattle.triple_arena_chain.proofs.GatheredLemmas.{placing_done, gathered_more, full_live}
use Rattle.triple_arena_chain.proofs.GatheredLemmas.{within_slots}
use Rattle.triple_arena_chain.proofs.HeadLemmas.{laid_zero}
use Rattle.triple_arena_chain.proofs.NoteLemmas.{none_at_zero, noted_more, noted_over, noted_closed}
use Rattle.triple_arena_chain.proofs.RenamingLemmas.{renamed_by}
use Rattle.triple_arena_chain.proofs.SwapLemmas.{some_under, swap_i, swap_other, swap_twice}
use Rattle.triple_arena_chain.proofs.SwapLemmas.{next-renamed, IsAgreed-renamed}

-- two live indexes change places
module _ (e : ℕ → Option Ends) (agreed : IsAgreed e) (i j : ℕ) (live_i : IsSome (e i))
    (live_j : IsSome (e j)) where
  abbrev name : ℕ → ℕ
  name = swapped_index i j

  live_at : (k : ℕ) → is_some (under (swapped_index i j) e k) ≡ is_some (e (swapped_index i j k))
  live_at k = some_under (swapped_index i j) (e (swapped_index i j k))

  live_back : (k : ℕ) → IsSome (e (swapped_index i j k)) → IsSome (e k)
  live_back k some =
      elim (eqb_tells k i) [
        | inl same ↦ subst (λ n. IsSome (e n)) (sym same.1) live_i
        | inr not_i ↦
            elim (eqb_tells k j) [
              | inl same ↦ subst (λ n. IsSome (e n)) (sym same.1) live_j
              | inr not_j ↦ subst (λ n. IsSome (e n)) (swap_other i j k not_i.1 not_j.1) some
            ]
      ]

  pub rearranged_swap : IsRearranged (swapped_index i j) e (under (swapped_index i j) e)
  rearranged_swap =
      let agreed' = IsAgreed-renamed (swapped_index i j) (swap_twice i j) e agreed in
      record {
        renamed =
            renamed_by (swapped_index i j) e (under (swapped_index i j) e) agreed
            (record {
              live = λ k some. live_at (name k) ∙ ap (λ n. is_some (e n)) (swap_twice i j k) ∙ some;
              nexts = λ k some.
                  next-renamed (swapped_index i j) (swap_twice i j) e (name k)
                  ∙ ap (λ n. option_map (swapped_index i j) (next_at e n)) (swap_twice i j k);
              onto = λ k some. (name k, sym (live_at k) ∙ some, swap_twice i j k);
            })
            (λ k l some some' same. sym (swap_twice i j k) ∙ ap name same ∙ swap_twice i j l)
            agreed';
        live = λ k some. live_back k (sym (live_at k) ∙ some);
        agreed = agreed';
      }

module _ {T : Type 0} where
  alike_brought : (before : Option ℕ) (a p : ℕ) (c c' : Content (IndexLink T))
      → IsBrought before a p c c' → IsAlike c → IsAlike c'
  alike_brought before a p c c' b alike k e is =
      alike (swapped_index a p k) e (sym (b.values k) ∙ is) ∙ sym b.kept.counter

  -- the links of the chain up to the last one are placed
  pub record IsGoing (first placed : ℕ) (round : Option ℕ) (to : ℕ → ℕ)
      (old : Content (IndexLink T)) (before : ℕ → Option Ends)
      (now : Content (IndexLink T)) : Type 0 where
    pub turn : ℕ → ℕ
    pub laid : ℕ → Option Ends
    pub placing : IsPlacing first placed turn before laid
    pub noted : AreNoted placed placed (λ i. turn (to i)) old laid now
    pub alike : IsAlike now
    pub line : round ≡ None → prev_at laid (first + 1) ≡ None
    pub ring : (x : ℕ) → round ≡ Some x → IsSome (ends_in old x) × (turn (to x) ≡ first + 1)

  module _ (first : ℕ) (old : Content (IndexLink T)) (before : ℕ → Option Ends)
      (c : Content (IndexLink T)) (a : AreLaid first old before c) where
    pub place_live : (k : ℕ) → 1 ≤ k → k ≤ length old.slots → IsSome (ends_in c k)
    place_live k low high =
        let slots = a.noted.kept.slots in
        full_live c k a.noted.formed (a.noted.kept.free ∙ a.full) low
        (omega (arith, high, slots))

    pub going_first : (h : ℕ) (round : Option ℕ) (c' : Content (IndexLink T))
        → IsStart first h round a.to old before
        → first < length old.slots → IsBrought None h (first + 1) c c'
        → IsGoing first (first + 1) round a.to old before c'
    going_first h round c' s more b =
        let place : IsSome (before (first + 1)) = sym (a.noted.live (first + 1))
        ∙ place_live (first + 1) (omega arith) (omega (arith, more)) in
        let m = rearranged_swap before a.gathered.moved.agreed h (first + 1) s.live place in
        let to_first : swapped_index h (first + 1) h ≡ first + 1 = swap_i h (first + 1) in
        record {
          turn = swapped_index h (first + 1);
          laid = under (swapped_index h (first + 1)) before;
          placing =
              placing_first first h before (under (swapped_index h (first + 1)) before)
              a.gathered.moved.agreed a.gathered.closed s.live s.head s.past s.own m;
          noted =
              noted_more first 0 None a.to h old c c' before a.noted (inr (refl, refl))
              (omega arith) s.past b
              (a.noted.live h ∙ s.live) (laid_zero first old before c a)
              (λ k q goes within other. a.gathered.closed.on k q goes within)
              (λ no. absurd (let gone : None ≡ Some 0 = no in cc));
          alike = alike_brought None h (first + 1) c c' b a.alike;
          line = λ none.
              ap (prev_at (under (swapped_index h (first + 1)) before)) (sym to_first)
              ∙ prev_moved (swapped_index h (first + 1)) before
              (under (swapped_index h (first + 1)) before) m.renamed h s.live
              ∙ ap (option_map (swapped_index h (first + 1))) (s.line none);
          ring = λ x is.
              let r = s.ring x is in
              (r.1.0, ap (swapped_index h (first + 1)) (r.1.1 ∙ sym r.0) ∙ to_first);
        }

  module _ (first placed : ℕ) (round : Option ℕ) (to : ℕ → ℕ) (old : Content (IndexLink T))
      (before : ℕ → Option Ends) (c : Content (IndexLink T))
      (m : IsRearranged to (ends_in old) before) (agreed : IsAgreed (ends_in old))
      (full : old.free ≡ [])
      (g : IsGoing first placed round to old before c) where
    abbrev all : ℕ → ℕ
    all i = g.turn (to i)

    rename : (x : ℕ) → IsSome (ends_in old x) → IsSome (g.laid (all x))
    rename x some = some_moved g.turn before g.laid g.placing.moved.renamed (to x)
        (some_moved to (ends_in old) before m.renamed x some)

    -- the old name of what stands at a live index
    record Named (k : ℕ) : Type 0 where
      name : ℕ
      live : IsSome (ends_in old name)
      is : all name ≡ k

    named : (k : ℕ) → IsSome (g.laid k) → Named k
    named k some =
        let mid = g.placing.moved.renamed.onto k some in
        let low = m.renamed.onto mid.0 mid.1 in
        record { name = low.0; live = low.1; is = ap g.turn low.2 ∙ mid.2 }

    last_live : IsSome (g.laid placed)
    last_live = placed_live g.laid g.placing.moved.agreed first placed g.placing.opened

    going_zero : g.laid 0 ≡ None
    going_zero = none_at_zero g.laid c g.noted.live

    next_all : (x : ℕ) → IsSome (ends_in old x)
        → next_at g.laid (all x)
        ≡ option_map g.turn (option_map to (next_at (ends_in old) x))
    next_all x some =
        next_moved g.turn before g.laid g.placing.moved.renamed (to x)
        (some_moved to (ends_in old) before m.renamed x some)
        ∙ ap (option_map g.turn) (next_moved to (ends_in old) before m.renamed x some)

    -- the next of the last one, under the names that links have now
    next_last : (o : Option ℕ) → next_at (ends_in c) placed ≡ o
        → next_at g.laid placed ≡ option_map g.turn (option_map to o)
    next_last o is =
        let w = named placed last_live in
        let own : next_at (ends_in old) w.name ≡ o = sym (g.noted.raw w.name w.live w.is)
        ∙ is in
        ap (next_at g.laid) (sym w.is) ∙ next_all w.name w.live
        ∙ ap (λ p. option_map g.turn (option_map to p)) own

    pub record Step (name : ℕ) : Type 0 where
      pub goes : next_at g.laid placed ≡ Some (g.turn (to name))
      pub named : IsSome (ends_in old name)
      pub past : placed < g.turn (to name)
      pub within : g.turn (to name) ≤ length old.slots
      pub live : IsSome (ends_in c (g.turn (to name)))
      pub place : IsSome (ends_in c (placed + 1))
      pub last : IsSome (ends_in c placed)
      pub led : IsLed (ends_in c) placed name (g.turn (to name))

    name_live : (name : ℕ) → next_at (ends_in c) placed ≡ Some name
        → IsSome (ends_in old name)
    name_live name is =
        let w = named placed last_live in
        let own : next_at (ends_in old) w.name ≡ Some name =
        sym (g.noted.raw w.name w.live w.is) ∙ is in
        live_prev_in (ends_in old name) w.name (agreed.forward w.name name own)

    -- only a ring leads back to its first link
    other : (name : ℕ) → next_at (ends_in c) placed ≡ Some name → round ≢ Some name
        → g.turn (to name) ≢ first + 1
    other name is away same = by round refl
      where
        by : (o : Option ℕ) → round ≡ o → ⊥
        by None none =
            let goes : next_at g.laid placed ≡ Some (first + 1) = next_last (Some name) is
            ∙ ap Some same in
            let no : None ≡ Some placed = sym (g.line none)
            ∙ g.placing.moved.agreed.forward placed (first + 1) goes in
            cc
        by (Some x) some =
            let r = g.ring x some in
            let live = name_live name is in
            let one : to x ≡ to name =
            g.placing.moved.renamed.apart (to x) (to name)
            (some_moved to (ends_in old) before m.renamed x r.0)
            (some_moved to (ends_in old) before m.renamed name live) (r.1 ∙ sym same) in
            away (some ∙ ap Some (m.renamed.apart x name r.0 live one))

    pub going_step : (name : ℕ) → next_at (ends_in c) placed ≡ Some name → round ≢ Some name
        → Step name
    going_step name is away =
        let goes = next_last (Some name) is in
        let past = next_past g.laid g.placing.moved.agreed first placed g.placing.opened
        (g.turn (to name)) goes (other name is away) in
        let named_live = name_live name is in
        let live : IsSome (ends_in c (g.turn (to name))) = g.noted.live (g.turn (to name))
        ∙ rename name named_live in
        let within = within_slots c (g.turn (to name)) live in
        let slots = g.noted.kept.slots in
        record {
          goes = goes;
          named = named_live;
          past = past;
          within = omega (arith, within, slots);
          live = live;
          place = full_live c (placed + 1) g.noted.formed (g.noted.kept.free ∙ full)
              (omega arith) (omega (arith, past, within));
          last = g.noted.live placed ∙ last_live;
          led = g.noted.led name named_live past;
        }

    pub going_more : (name : ℕ) (c' : Content (IndexLink T))
        (is : next_at (ends_in c) placed ≡ Some name) (away : round ≢ Some name)
        → IsBrought (Some placed) (g.turn (to name)) (placed + 1) c c'
        → IsGoing first (placed + 1) round to old before c'
    going_more name c' is away b =
        let s = going_step name is away in
        let rearranged =
        rearranged_swap g.laid g.placing.moved.agreed (g.turn (to name)) (placed + 1)
        (sym (g.noted.live (g.turn (to name))) ∙ s.live)
        (sym (g.noted.live (placed + 1)) ∙ s.place) in
        let at = g.placing.opened.placed_is in
        let keeps_first : swapped_index (g.turn (to name)) (placed + 1) (first + 1) ≡ first + 1 =
        swap_other (g.turn (to name)) (placed + 1) (first + 1)
        (λ same. let past = s.past in omega (arith, same, past, at))
        (λ same. omega (arith, same, at)) in
        record {
          turn = λ i. swapped_index (g.turn (to name)) (placed + 1) (g.turn i);
          laid = under (swapped_index (g.turn (to name)) (placed + 1)) g.laid;
          placing =
              placing_more first placed (g.turn (to name)) g.turn before g.laid
              (under (swapped_index (g.turn (to name)) (placed + 1)) g.laid) g.placing
              s.goes (other name is away) rearranged;
          noted =
              noted_more placed placed (Some placed) (λ i. g.turn (to i)) (g.turn (to name))
              old c c' g.laid g.noted (inl refl)
              (omega arith) s.past b s.live going_zero
              (λ k q goes within differs. inner k q goes within differs)
              (λ same. s.goes);
          alike = alike_brought (Some placed) (g.turn (to name)) (placed + 1) c c' b g.alike;
          line = λ none.
              ap (prev_at (under (swapped_index (g.turn (to name)) (placed + 1)) g.laid))
              (sym keeps_first)
              ∙ prev_moved (swapped_index (g.turn (to name)) (placed + 1)) g.laid
              (under (swapped_index (g.turn (to name)) (placed + 1)) g.laid)
              rearranged.renamed (first + 1) first_live
              ∙ ap (option_map (swapped_index (g.turn (to name)) (placed + 1))) (g.line none);
          ring = λ x some.
              let r = g.ring x some in
              (r.0, ap (swapped_index (g.turn (to name)) (placed + 1)) r.1 ∙ keeps_first);
        }
      where
        first_live : IsSome (g.laid (first + 1))
        first_live =
            let at = g.placing.opened.placed_is in
            sym (g.noted.live (first + 1))
            ∙ full_live c (first + 1) g.noted.formed (g.noted.kept.free ∙ full) (omega arith)
            (let within = within_slots c placed (g.noted.live placed ∙ last_live) in
            omega (arith, within, at))

        -- the next of a placed link that is not the last one is placed
        inner : (k q : ℕ) → next_at g.laid k ≡ Some q → k ≤ placed → k ≢ placed → q ≤ placed
        inner k q goes within differs =
            elim (leb_tells k first) [
              | inl low ↦ let at = g.placing.opened.placed_is in let up =
                  g.placing.opened.closed.on k q goes low.1 in omega (arith, up, at)
              | inr high ↦
                  let next = in_run g.laid g.placing.moved.agreed first placed g.placing.opened k
                  high.1 (omega (arith, within, differs)) in
                  let both : Some q ≡ Some (k + 1) = sym goes ∙ next in
                  let same : q ≡ k + 1 = cc in
                  omega (arith, same, within, differs)
            ]

  -- the chain is whole once the last link has its next index
  module _ (first placed : ℕ) (round : Option ℕ) (old : Content (IndexLink T))
      (before : ℕ → Option Ends) (start c : Content (IndexLink T))
      (a : AreLaid first old before start) (g : IsGoing first placed round a.to old before c)
    where
      whole : (c' : Content (IndexLink T))
          → ((next_at g.laid placed ≡ None) ⊎ (next_at g.laid placed ≡ Some (first + 1)))
          → AreNoted placed 0 (λ i. g.turn (a.to i)) old g.laid c' → IsAlike c'
          → HavePlaces placed old c'
      whole c' over noted alike =
          record {
            laid = g.laid;
            are = record {
              chained = a.chained;
              full = a.full;
              alike = alike;
              to = λ i. g.turn (a.to i);
              gathered =
                  gathered_more first placed g.turn a.to (ends_in old) before g.laid
                  a.gathered
                  (placing_done first placed g.turn before g.laid g.placing over);
              noted = noted;
            };
          }

      pub going_over : next_at (ends_in c) placed ≡ None → HavePlaces placed old c
      going_over is =
          let none = next_last first placed round a.to old before c a.gathered.moved
          a.chained.agreed
          a.full g None is in
          whole c (inl none)
          (noted_over placed placed (λ i. g.turn (a.to i)) old c g.laid g.noted
          (going_zero first placed round a.to old before c a.gathered.moved a.chained.agreed a.full
          g)
          (rename first placed round a.to old before c a.gathered.moved a.chained.agreed a.full g)
          (is ∙ sym none))
          g.alike

      pub going_round : (name : ℕ) (c' : Content (IndexLink T))
          → next_at (ends_in c) placed ≡ Some name → round ≡ Some name
          → ((k : ℕ) → ends_in c' k
          ≡ with_next (ends_in c) placed (Some (first + 1)) k)
          → ((k : ℕ) → values_in c' k ≡ values_in c k)
          → IsKept c c' → IsWellFormed c' → HavePlaces placed old c'
      going_round name c' is same ends values kept formed =
          let r = g.ring name same in
          let comes = next_last first placed round a.to old before c a.gathered.moved
          a.chained.agreed
          a.full g (Some name) is ∙ ap Some r.1 in
          let last = last_live first placed round a.to old before c a.gathered.moved
          a.chained.agreed
          a.full g in
          whole c' (inr comes)
          (noted_closed placed placed (λ i. g.turn (a.to i)) old c g.laid g.noted
          (going_zero first placed round a.to old before c a.gathered.moved a.chained.agreed a.full
          g)
          (rename first placed round a.to old before c a.gathered.moved a.chained.agreed a.full g)
          (Some (first + 1)) c' (sym comes) (omega arith)
          (g.noted.live placed ∙ last) ends values kept formed)
          (λ k e at. g.alike k e (sym (values k) ∙ at) ∙ sym kept.counter)

module _ {T : Type 0} where
  -- the links of the chain up to the last one are placed, whatever the links were
  abbrev pub IsOnWay : ℕ → ℕ → Option ℕ → Content (IndexLink T) → Content (IndexLink T) → Type 0
  IsOnWay first placed round start now =
      (old : Content (IndexLink T)) (before : ℕ → Option Ends)
      (a : AreLaid first old before start)
      → IsGoing first placed round a.to old before now

  module _ (first placed : ℕ) (round : Option ℕ) (start c : Content (IndexLink T))
      (has : IsGathering first start)
      (w : IsOnWay first placed round start c) where
    going : IsGoing first placed round has.have.are.to has.old has.have.laid c
    going = w has.old has.have.laid has.have.are

    slots_start : length start.slots ≡ length has.old.slots
    slots_start = has.have.are.noted.kept.slots

    pub way_last : IsSome (entry_at c placed)
    way_last =
        sym (live_ends c placed) ∙ going.noted.live placed
        ∙ last_live first placed round has.have.are.to has.old has.have.laid c
        has.have.are.gathered.moved has.have.are.chained.agreed has.have.are.full going

    pub way_formed : IsWellFormed c
    way_formed = going.noted.formed

    pub way_alike : IsAlike c
    way_alike = going.alike

    pub way_within : placed ≤ length start.slots
    way_within =
        let within = within_slots c placed (live_ends c placed ∙ way_last) in
        let kept = going.noted.kept.slots in
        let slots = slots_start in
        omega (arith, within, kept, slots)

    -- what is done next asks for
    pub record Next (name : ℕ) : Type 0 where
      pub at : ℕ
      pub led : IsLed (ends_in c) placed name at
      pub live : IsSome (entry_at c at)
      pub place : IsSome (entry_at c (placed + 1))
      pub more : placed < length start.slots

    pub way_next : (name : ℕ) → next_at (ends_in c) placed ≡ Some name → round ≢ Some name
        → Next name
    way_next name is away =
        let s = going_step first placed round has.have.are.to has.old has.have.laid c
        has.have.are.gathered.moved has.have.are.chained.agreed
        has.have.are.full going name is away in
        let slots = slots_start in
        record {
          at = going.turn (has.have.are.to name);
          led = s.led;
          live = sym (live_ends c (going.turn (has.have.are.to name))) ∙ s.live;
          place = sym (live_ends c (placed + 1)) ∙ s.place;
          more = let within = s.within in let past = s.past in omega (arith, within, past, slots);
        }

  module _ (first : ℕ) (start : Content (IndexLink T)) (has : IsGathering first start)
      (more : first < length start.slots) where
    pub place_first : IsSome (ends_in start (first + 1))
    place_first =
        let slots = has.have.are.noted.kept.slots in
        place_live first has.old has.have.laid start has.have.are (first + 1) (omega arith)
        (omega (arith, more, slots))

    pub start_live : (h : ℕ) (round : Option ℕ) → StartsAt first h round start
        → IsSome (entry_at start h)
    start_live h round s =
        sym (live_ends start h) ∙ has.have.are.noted.live h
        ∙ (s has.old has.have.laid has.have.are).live

    pub way_first : (h : ℕ) (round : Option ℕ) (c' : Content (IndexLink T))
        → StartsAt first h round start
        → IsBrought None h (first + 1) start c' → IsOnWay first (first + 1) round start c'
    way_first h round c' s b old before a =
        let slots = a.noted.kept.slots in
        going_first first old before start a h round c' (s old before a)
        (omega (arith, more, slots)) b

  pub way_more : (first placed at : ℕ) (round : Option ℕ) (start c c' : Content (IndexLink T))
      → IsOnWay first placed round start c → (name : ℕ)
      → next_at (ends_in c) placed ≡ Some name → round ≢ Some name
      → ((k : ℕ) → IsLed (ends_in c) placed name k → at ≡ k)
      → IsBrought (Some placed) at (placed + 1) c c'
      → IsOnWay first (placed + 1) round start c'
  way_more first placed at round start c c' w name is away led b old before a =
      let g = w old before a in
      let s = going_step first placed round a.to old before c a.gathered.moved
      a.chained.agreed a.full g name is away in
      going_more first placed round a.to old before c a.gathered.moved a.chained.agreed
      a.full g name c' is away
      (subst (λ k. IsBrought (Some placed) k (placed + 1) c c')
      (led (g.turn (a.to name)) s.led) b)

  pub way_over : (first placed : ℕ) (round : Option ℕ) (start c : Content (IndexLink T))
      → IsOnWay first placed round start c
      → next_at (ends_in c) placed ≡ None → GathersUpTo first placed start c
  way_over first placed round start c w none old h =
      going_over first placed round old h.laid start c h.are (w old h.laid h.are) none

  pub way_round : (first placed name : ℕ) (round : Option ℕ) (start c c' : Content (IndexLink T))
      (last to : ℕ) → IsOnWay first placed round start c
      → next_at (ends_in c) placed ≡ Some name → round ≡ Some name → last ≡ placed
      → to ≡ first + 1
      → c' ≡ with_next_of c (Some last) (Some to) → GathersUpTo first placed start c'
  way_round first placed name round start c c' last to w is same at first_is made old h =
      let g = w old h.laid h.are in
      going_round first placed round old h.laid start c h.are g name c' is same
      (λ k.
      ap (λ d. ends_in d k) made ∙ ends-with_next_of c (Some last) (Some to) k
      ∙ ap (λ n. with_next (ends_in c) n (Some to) k) at
      ∙ ap (λ n. with_next (ends_in c) placed (Some n) k) first_is)
      (next_unchanged c c' (Some last) (Some to) made)
      (subst (IsKept c) (sym made) (kept-with_next_of c (Some last) (Some to)))
      (subst IsWellFormed (sym made)
      (formed-with_next_of c (Some last) (Some to) g.noted.formed))
