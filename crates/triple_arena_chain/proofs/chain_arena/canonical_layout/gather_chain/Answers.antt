use Rattle.std.proofs.Common.{true≢false, rules, ◌≡◌, ◌≢◌, ◌^◌, ◌<◌, IsSome, Some, None, length}
use Rattle.std.proofs.Common.{option_map, sym, ap, subst, ◌∙◌, arith}
use Rattle.triple_arena.specs.Content.{entry_at}
use Rattle.linked_lists.specs.LinkedLists.{next_at}
use Rattle.triple_arena_chain.specs.Links.{ends_in}
use Rattle.triple_arena_chain.specs.Notes.{IsBrought}
use Rattle.triple_arena_chain.proofs.GoingLemmas.{place_first, start_live, way_first, way_last}
use Rattle.triple_arena_chain.proofs.GoingLemmas.{way_formed, way_alike, way_within, way_next}
use Rattle.triple_arena_chain.proofs.GoingLemmas.{way_more, way_over, way_round, Next}
use Rattle.triple_arena_chain.proofs.PassLemmas.{live_ends}
use Rattle.triple_arena_chain.proofs.chain_arena.canonical_layout.gather_chain.Goals.{Else-is_same}
use Rattle.triple_arena_chain.proofs.chain_arena.canonical_layout.gather_chain.Goals as goal

-- the last link placed has a next one, which does not close a ring
goes_on : (g : _) (c : Else-is_same g)
    → (next_at (ends_in c.link.arena) c.link.placed
    ≡ Some (g.P.Inx.PtrInxCore.number c.in-Some.next))
    × (option_map g.P.Inx.PtrInxCore.number c.unplaced_start.result.1
    ≢ Some (g.P.Inx.PtrInxCore.number c.in-Some.next))
goes_on g c =
    let number = g.P.Inx.PtrInxCore.number in
    let away : option_map number c.unplaced_start.result.1 ≢ Some (number c.in-Some.next) =
    λ same. true≢false (sym (c.is_same.ensures.1 same) ∙ c.if-is_same.false) in (
      ap (next_at (ends_in c.link.arena)) (sym c.link.invariant.last)
          ∙ sym c.read_next.ensures ∙ ap (option_map number) c.in-Some.is,
      away,
    )

-- where it is, and that there is an index for it
next_on : (g : _) (c : Else-is_same g)
    → Next c.args.first c.link.placed
    (option_map g.P.Inx.PtrInxCore.number c.unplaced_start.result.1) c.args.arena.now c.link.arena
    c.requires.gathering c.link.invariant.way (g.P.Inx.PtrInxCore.number c.in-Some.next)
next_on g c =
    let on = goes_on g c in
    way_next c.args.first c.link.placed _ c.args.arena.now c.link.arena
    c.requires.gathering c.link.invariant.way (g.P.Inx.PtrInxCore.number c.in-Some.next) on.0 on.1

pub unplaced_start-requires-clause-live : goal.unplaced_start-requires-clause-live
unplaced_start-requires-clause-live g c =
    subst (λ k. IsSome (ends_in c.args.arena.now k))
    (sym c.behind-start.ensures)
    (place_first c.args.first c.args.arena.now c.requires.gathering
    c.requires.more)

pub bring-requires-clause-formed : goal.bring-requires-clause-formed
bring-requires-clause-formed g c = c.requires.gathering.have.are.noted.formed

pub bring-requires-clause-alike : goal.bring-requires-clause-alike
bring-requires-clause-alike g c = c.requires.gathering.have.are.alike

pub bring-requires-clause-at_is_live : goal.bring-requires-clause-at_is_live
bring-requires-clause-at_is_live g c =
    start_live c.args.first c.args.arena.now c.requires.gathering
    c.requires.more _ _ c.unplaced_start.ensures

pub bring-requires-clause-place_is_live : goal.bring-requires-clause-place_is_live
bring-requires-clause-place_is_live g c =
    let number = g.P.Inx.PtrInxCore.number in
    sym (live_ends c.args.arena.now (number c.behind-start.result))
    ∙ subst (λ k. IsSome (ends_in c.args.arena.now k)) (sym c.behind-start.ensures)
    (place_first c.args.first c.args.arena.now c.requires.gathering c.requires.more)

pub link-init : goal.link-init
link-init g c =
    let number = g.P.Inx.PtrInxCore.number in
    record {
      way =
          way_first c.args.first c.args.arena.now c.requires.gathering c.requires.more _ _
          c.bring.new.arena c.unplaced_start.ensures
          (subst (λ k. IsBrought None (number c.unplaced_start.result.0) k c.args.arena.now
          c.bring.new.arena) c.behind-start.ensures c.bring.ensures);
      last = c.behind-start.ensures;
      more = omega arith;
    }

pub read_next-requires-clause-live : goal.read_next-requires-clause-live
read_next-requires-clause-live g c =
    let number = g.P.Inx.PtrInxCore.number in
    subst (λ k. IsSome (entry_at c.link.arena k)) (sym c.link.invariant.last)
    (way_last c.args.first c.link.placed _ c.args.arena.now c.link.arena c.requires.gathering
    c.link.invariant.way)

pub returns-then-is_same-clause-gathered : goal.returns-then-is_same-clause-gathered
returns-then-is_same-clause-gathered g c =
    let number = g.P.Inx.PtrInxCore.number in
    let goes : next_at (ends_in c.link.arena) c.link.placed ≡ Some (number c.in-Some.next) =
    ap (next_at (ends_in c.link.arena)) (sym c.link.invariant.last)
    ∙ sym c.read_next.ensures ∙ ap (option_map number) c.in-Some.is in
    way_round c.args.first c.link.placed (number c.in-Some.next) _ c.args.arena.now
    c.link.arena c.set_next.new.arena (g.P.Inx.PtrInxCore.number c.link.last)
    (g.P.Inx.PtrInxCore.number c.behind-start.result)
    c.link.invariant.way goes (c.is_same.ensures.0 c.if-is_same.true) c.link.invariant.last
    c.behind-start.ensures c.set_next.ensures

pub returns-then-is_same-clause-within : goal.returns-then-is_same-clause-within
returns-then-is_same-clause-within g c =
    way_within c.args.first c.link.placed _ c.args.arena.now c.link.arena
    c.requires.gathering c.link.invariant.way

pub returns-in-None-clause-gathered : goal.returns-in-None-clause-gathered
returns-in-None-clause-gathered g c =
    let number = g.P.Inx.PtrInxCore.number in
    let gone : next_at (ends_in c.link.arena) c.link.placed ≡ None =
    ap (next_at (ends_in c.link.arena)) (sym c.link.invariant.last)
    ∙ sym c.read_next.ensures ∙ ap (option_map number) c.in-None.is in
    way_over c.args.first c.link.placed _ c.args.arena.now c.link.arena c.link.invariant.way
    gone

pub returns-in-None-clause-within : goal.returns-in-None-clause-within
returns-in-None-clause-within g c =
    way_within c.args.first c.link.placed _ c.args.arena.now c.link.arena
    c.requires.gathering c.link.invariant.way

pub led_to-at-requires-clause-led : goal.led_to-at-requires-clause-led
led_to-at-requires-clause-led g c =
    let n = next_on g (goal.at.led_to-at-requires-clause-led g c).Else-is_same in
    (n.at, n.led)

pub behind-place-requires-clause-fits : goal.behind-place-requires-clause-fits
behind-place-requires-clause-fits g c =
    let n = next_on g (goal.at.behind-place-requires-clause-fits g c).Else-is_same in
    let holds = c.capacity.ensures.holds_all in
    let bounded = c.capacity.ensures.bounded in
    let counted = c.requires.gathering.have.are.noted.formed.counted in
    let none = ap (λ l. length l)
    (c.requires.gathering.have.are.noted.kept.free ∙ c.requires.gathering.have.are.full) in
    omega (arith, n.more, holds, bounded, counted, none)

pub bring-requires-in-Some-clause-formed : goal.bring-requires-in-Some-clause-formed
bring-requires-in-Some-clause-formed g c =
    way_formed c.args.first c.link.placed _ c.args.arena.now c.link.arena
    c.requires.gathering c.link.invariant.way

pub bring-requires-in-Some-clause-alike : goal.bring-requires-in-Some-clause-alike
bring-requires-in-Some-clause-alike g c =
    way_alike c.args.first c.link.placed _ c.args.arena.now c.link.arena
    c.requires.gathering c.link.invariant.way

pub bring-requires-in-Some-clause-last_is_live : goal.bring-requires-in-Some-clause-last_is_live
bring-requires-in-Some-clause-last_is_live g c =
    let number = g.P.Inx.PtrInxCore.number in
    subst (λ k. IsSome (entry_at c.link.arena k)) (sym c.link.invariant.last)
    (way_last c.args.first c.link.placed _ c.args.arena.now c.link.arena c.requires.gathering
    c.link.invariant.way)

pub bring-requires-in-Some-clause-at_is_live : goal.bring-requires-in-Some-clause-at_is_live
bring-requires-in-Some-clause-at_is_live g c =
    let n = next_on g (goal.at.bring-requires-in-Some-clause-at_is_live g c).Else-is_same in
    subst (λ k. IsSome (entry_at c.link.arena k)) (sym (c.led_to-at.ensures n.at n.led)) n.live

pub bring-requires-in-Some-clause-place_is_live : goal.bring-requires-in-Some-clause-place_is_live
bring-requires-in-Some-clause-place_is_live g c =
    let n = next_on g (goal.at.bring-requires-in-Some-clause-place_is_live g c).Else-is_same in
    subst (λ k. IsSome (entry_at c.link.arena k)) (sym c.behind-place.ensures) n.place

pub overflow_add-placed-in-Some : goal.overflow_add-placed-in-Some
overflow_add-placed-in-Some g c =
    let n = next_on g (goal.at.overflow_add-placed-in-Some g c).Else-is_same in
    let holds = c.capacity.ensures.holds_all in
    let bounded = c.capacity.ensures.bounded in
    let counted = c.requires.gathering.have.are.noted.formed.counted in
    let none = ap (λ l. length l)
    (c.requires.gathering.have.are.noted.kept.free ∙ c.requires.gathering.have.are.full) in
    let fits : length c.args.arena.now.slots < 2 ^ 64 =
    omega (arith, holds, bounded, counted, none) in
    search (rules, n.more, fits)

pub link-smaller : goal.link-smaller
link-smaller g c =
    let n = next_on g (goal.at.link-smaller g c).Else-is_same in
    let more = n.more in
    omega (arith, more)

pub link-preserved : goal.link-preserved
link-preserved g c =
    let number = g.P.Inx.PtrInxCore.number in
    let on = goes_on g (goal.at.link-preserved g c).Else-is_same in
    let more = c.link.invariant.more in
    record {
      way =
          way_more c.args.first c.link.placed (number c.led_to-at.result) _ c.args.arena.now
          c.link.arena c.bring-in-Some.new.arena c.link.invariant.way
          (number c.in-Some.next) on.0 on.1 c.led_to-at.ensures
          (subst (λ k. IsBrought (Some c.link.placed) (number c.led_to-at.result) k
          c.link.arena c.bring-in-Some.new.arena) c.behind-place.ensures
          (subst (λ k. IsBrought (Some k) (number c.led_to-at.result)
          (number c.behind-place.result) c.link.arena c.bring-in-Some.new.arena)
          c.link.invariant.last c.bring-in-Some.ensures));
      last = c.behind-place.ensures;
      more = omega (arith, more);
    }
