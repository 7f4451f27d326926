use Rattle.std.proofs.Common.{◌≡◌, if◌then◌else◌, option_map, refl, ap, sym, ◌∙◌}
use Rattle.triple_arena_ord.proofs.OrderedWalkLemmas.{given, ends, chosen}
use Rattle.triple_arena_ord.proofs.ord_arena.walk.OrderedPtrAdvancer.step.Goals as goal

pub returns-in-Some-clause-steps : goal.returns-in-Some-clause-steps
returns-in-Some-clause-steps g c =
    let number = g.P.Inx.PtrInxCore.number in
    let link = c.in-Some.entry.1.now in
    let before = c.args.self.now in
    let back = ap (λ w. w.back) (sym c.self.view_is) in
    let own = c.prev_next.ensures in
    let goes : option_map number c.toward-self-inside.result
    ≡ (if c.self.inside.back then link.prev else link.next) =
    c.toward-self-inside.ensures ∙ ap (λ e. if c.self.inside.back then e.0 else e.1) own in
    given c.args.arena.now c.get_inx_node.ensures.ordered before _
    (g.P.PtrCore.index c._from_raw.result) (g.P.PtrCore.generation c._from_raw.result)
    (number c.in_ok-i.i) (g.P.Gen.PtrGenCore.number c.in-Some.entry.0, link)
    c._from_raw.ensures.has_index c._from_raw.ensures.has_generation
    (ap (λ w. w.at) (sym c.self.view_is) ∙ ap (option_map number) c.in_ok-i.was)
    (sym c.in-Some.ensures.node)
    (chosen before.back c.self.inside.back (option_map number c.toward-self-inside.result)
    link.prev link.next back goes) (sym back)

pub returns-in-None-clause-steps : goal.returns-in-None-clause-steps
returns-in-None-clause-steps g c =
    let number = g.P.Inx.PtrInxCore.number in
    ends c.args.arena.now c.get_inx_node.ensures.ordered c.args.self.now _
    (number c.in_ok-i.i)
    (ap (λ w. w.at) (sym c.self.view_is) ∙ ap (option_map number) c.in_ok-i.was)
    (sym c.in-None.ensures.node) refl (ap (λ w. w.back) c.self.view_is)
