use Rattle.triple_arena.specs.DirectContent.{entry_at}
use Rattle.ticket_book.specs.Mirrors.{numbers}
use Rattle.route_book.proofs.NoteLemmas.{mirrored_all, mirrored_gap}
use Rattle.triple_arena.specs.WalkLaws.{step_is, end_all}
use Rattle.route_book.proofs.mirrors.mirror_by_tickets.Goals as goal

pub note-requires-clause-mirrored : goal.note-requires-clause-mirrored
note-requires-clause-mirrored g c =
    let st = step_is (g.A.ArenaTrait.entry_at c.args.arena.now) (g.A.ArenaTrait.walk c.loop-p.walk)
    (g.A.ArenaTrait.walk c.advance.new.self) c.loop-p.invariant.rises _ _
    (g.met.A.ArenaTrait.advances _ _ _ _ c.in-Some.ensures.given) in
    mirrored_gap g.T.Ticketed.ticket_of c.args.book.now.entries
    (g.A.ArenaTrait.entry_at c.args.arena.now) (g.A.ArenaTrait.walk c.loop-p.walk).low
    (g.P.PtrCore.index c.in-Some.p)
    (numbers g.P.PtrCore.index g.P.PtrCore.generation (entry_at c.loop-p.mirror)) st.up st.between
    c.loop-p.invariant.mirrored

pub returns-clause-mirrored : goal.returns-clause-mirrored
returns-clause-mirrored g c =
    λ low all.
    mirrored_all g.T.Ticketed.ticket_of c.args.book.now.entries
    (g.A.ArenaTrait.entry_at c.args.arena.now) (g.A.ArenaTrait.walk c.loop-p.walk).low low
    (numbers g.P.PtrCore.index g.P.PtrCore.generation (entry_at c.loop-p.mirror))
    (end_all (g.A.ArenaTrait.entry_at c.args.arena.now) (g.A.ArenaTrait.walk c.loop-p.walk)
    (g.A.ArenaTrait.walk c.advance.new.self) c.loop-p.invariant.rises
    c.loop-p.invariant.reaches (g.met.A.ArenaTrait.advances _ _ _ _ c.in_default.ensures.given)) all
    c.loop-p.invariant.mirrored
