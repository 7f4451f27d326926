use Rattle.std.proofs.Common.{◌≡◌, Ok, Err, sym, subst, ◌∙◌}
use Rattle.triple_arena.specs.RecasterLaws.{recaster-is_renaming}
use Rattle.triple_arena.specs.Content.{IsWellFormed}
use Rattle.triple_arena.specs.RecastingLaws.{formed-recasted}
use Rattle.example_chain.proofs.DocumentLemmas.{all_named, is_renamed}
use Rattle.example_chain.proofs.document.tidy.Goals as goal

pub unreachable-requires : goal.unreachable-requires
unreachable-requires g c =
    let e = c.in_ok-map.ensures in
    let r = recaster-is_renaming c.args.nodes.now c.compress_recaster.new.arena c.in_ok-map.map
    e.recaster e.values e.compressed.compact in
    let ok = all_named g.P.PtrCore.index g.P.PtrCore.generation g.T.Recast.items r e.values
    c.requires in
    let both : Err c.in-Err.field-0 ≡ Ok tt = c.in-Err.ensures.answer ∙ ok in
    cc

pub returns-clause-renamed : goal.returns-clause-renamed
returns-clause-renamed g c =
    let e = c.in_ok-map.ensures in
    let r = recaster-is_renaming c.args.nodes.now c.compress_recaster.new.arena c.in_ok-map.map
    e.recaster e.values e.compressed.compact in (
      _,
      is_renamed g.P.PtrCore.index g.P.PtrCore.generation g.T.Recast.items _ (g.T.Recast.recasted _)
          r e.exact e.values c.requires
          (g.met.T.Recast.items_recasted _) c.recast.ensures.value,
    )

pub returns-clause-formed : goal.returns-clause-formed
returns-clause-formed g c =
    let formed = formed-recasted g.T.Recast.items _ (g.T.Recast.recasted _)
    c.compress_recaster.new.arena c.in_ok-map.ensures.arena_formed in
    subst IsWellFormed (sym c.recast.ensures.value) formed
