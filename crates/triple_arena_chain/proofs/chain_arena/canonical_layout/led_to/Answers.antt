use Rattle.std.proofs.Common.{true≢false, ◌≡◌, Some, None, option_map, sym, ap, ◌∙◌, arith}
use Rattle.linked_lists.specs.LinkedLists.{prev_at}
use Rattle.triple_arena_chain.specs.Links.{ends_in}
use Rattle.triple_arena_chain.proofs.NoteLemmas.{led_by, led_end, led_live, led_some, not_within}
use Rattle.triple_arena_chain.proofs.chain_arena.canonical_layout.led_to.Goals as goal

pub note-init : goal.note-init
note-init g c = record { on = c.requires.led; same = λ k l. l }

pub read_prev-requires-clause-live : goal.read_prev-requires-clause-live
read_prev-requires-clause-live g c =
    led_live c.args.arena.now c.args.placed _ _ c.note.invariant.on.1
    (c.is_within.ensures.0 c.note-test.true)

pub unreached-unreachable-requires : goal.unreached-unreachable-requires
unreached-unreachable-requires g c =
    let number = g.P.Inx.PtrInxCore.number in
    let gone : prev_at (ends_in c.args.arena.now) (number c.note.at) ≡ None =
    sym c.read_prev.ensures ∙ ap (option_map number) c.in-None.is in
    led_some (ends_in c.args.arena.now) c.args.placed _ _ c.note.invariant.on.1
    (c.is_within.ensures.0 c.note-test.true) gone

pub note-smaller : goal.note-smaller
note-smaller g c =
    let number = g.P.Inx.PtrInxCore.number in
    let within = c.is_within.ensures.0 c.note-test.true in
    let comes : prev_at (ends_in c.args.arena.now) (number c.note.at)
    ≡ Some (number c.in-Some.to) =
    sym c.read_prev.ensures ∙ ap (option_map number) c.in-Some.is in
    let further = (led_by (ends_in c.args.arena.now) c.args.placed _ _ _
    c.note.invariant.on.1 within comes).0 in
    omega (arith, within, further)

pub note-preserved : goal.note-preserved
note-preserved g c =
    let number = g.P.Inx.PtrInxCore.number in
    let within = c.is_within.ensures.0 c.note-test.true in
    let comes : prev_at (ends_in c.args.arena.now) (number c.note.at)
    ≡ Some (number c.in-Some.to) =
    sym c.read_prev.ensures ∙ ap (option_map number) c.in-Some.is in
    record {
      on = (
        c.note.invariant.on.0,
        (led_by (ends_in c.args.arena.now) c.args.placed _ _ _ c.note.invariant.on.1 within
            comes).1,
      );
      same = λ k l. (led_by (ends_in c.args.arena.now) c.args.placed _ _ k
          (c.note.invariant.same k l) within comes).1;
    }

pub returns : goal.returns
returns g c =
    λ k l.
    led_end (ends_in c.args.arena.now) c.args.placed _ k
    (c.note.invariant.same k l)
    (not_within _ _ (λ low. true≢false (sym (c.is_within.ensures.1 low) ∙ c.note-test.false)))
