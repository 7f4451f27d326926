use Rattle.std.proofs.Common.{rules, ◌≡◌}
use Rattle.triple_arena.specs.Content.{next_index, inserted}
use Rattle.triple_arena_chain.specs.Kinds.{gap_by}
use Rattle.triple_arena_chain.specs.Links.{link_for, joined_to, IsChained}
use Rattle.triple_arena_chain.proofs.InsertionLemmas.{inserted_in, Inserted}
use Rattle.triple_arena_chain.proofs.chain_arena.ChainArena.put.Given.{Over}
use Rattle.triple_arena_chain.proofs.chain_arena.ChainArena.put.Goals as goal

linked : (g : Over) (c : goal.After-join g)
    → Inserted c.args.self.now c.join.new.arena (gap_by g.P.Inx.PtrInxCore.number c.args.gap)
    (g.P.Inx.PtrInxCore.number c.inx-i.result) c.args.self.now.counter c.args.t
linked g c =
    let number = g.P.Inx.PtrInxCore.number in
    let old = c.args.self.now in
    let chained : IsChained old = search rules in
    let index : number c.inx-i.result ≡ next_index old = search rules in
    let is : c.join.new.arena
    ≡ joined_to (inserted old (link_for (gap_by number c.args.gap)
    (g.P.Inx.PtrInxCore.number c.inx-i.result) c.args.t))
    (gap_by number c.args.gap) (g.P.Inx.PtrInxCore.number c.inx-i.result) =
    search rules in
    inserted_in old c.join.new.arena (gap_by number c.args.gap)
    (g.P.Inx.PtrInxCore.number c.inx-i.result) c.args.t chained
    c.requires.room c.requires.gap index is

pub invariant_of-self : goal.invariant_of-self
invariant_of-self g c = (linked g c).chained

pub returns-clause-inserted : goal.returns-clause-inserted
returns-clause-inserted g c = let p = linked g c in search rules

pub returns-clause-formed : goal.returns-clause-formed
returns-clause-formed g c = (linked g c).chained
