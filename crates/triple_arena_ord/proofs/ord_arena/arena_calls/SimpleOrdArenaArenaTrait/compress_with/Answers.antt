use Rattle.std.proofs.Common.{map, None, sym, ap, subst, ◌∙◌}
use Rattle.triple_arena.specs.Changes.{IsCompressed}
use Rattle.triple_arena.specs.Compression.{value_of}
use Rattle.linked_lists.specs.LinkedLists.{first_or, last_or}
use Rattle.triple_arena_ord.specs.Compressed.{IsCompressedInOrder}
use Rattle.triple_arena_ord.specs.Indexed.{indexed}
use Rattle.triple_arena_ord.specs.Ordered.{Ordered, entry_in, size_in, counter_in, room_in}
use Rattle.triple_arena_ord.specs.Ordered.{ordered_by}
use Rattle.triple_arena_ord.proofs.CompressedLemmas.{Compressed, compressed_by, mapped_by, moved}
use Rattle.triple_arena_ord.proofs.CompressedLemmas.{moved_linear, moved_long, moved_all}
use Rattle.triple_arena_ord.proofs.ord_arena.arena_calls.SimpleOrdArenaArenaTrait.compress_with.Goals as goal

pub rebuild-self-inside-requires : goal.rebuild-self-inside-requires
rebuild-self-inside-requires g c =
    let number = g.P.Inx.PtrInxCore.number in
    let last = g.P.Gen.PtrGenCore.last in
    let o : Ordered g.row.T.Denot =
    ordered_by number c.self.inside.chains c.self.inside.root in
    let mid = c.compact_nodes-answer.new.arena in
    let made = c.compact_nodes-answer.ensures in
    let w = moved last c.args.reset o mid c.self.invariant.0 made.compressed made.exact in
    let linear = moved_linear last c.args.reset o mid c.self.invariant.0 made.compressed
    made.exact in (
      w,
      (
        linear,
        moved_long last c.args.reset o mid c.self.invariant.0 made.compressed made.exact,
        c.ends_of_list-ends.ensures.first w linear
            (moved_all last c.args.reset o mid c.self.invariant.0 made.compressed made.exact),
      ),
    )

done : (g : _) (c : goal.After-len g)
    → Compressed g.P.Gen.PtrGenCore.last c.args.reset
    (ordered_by g.P.Inx.PtrInxCore.number c.self.inside.chains c.self.inside.root)
    c.compact_nodes-answer.new.arena
    c.self.invariant.0
    c.compact_nodes-answer.ensures.compressed c.compact_nodes-answer.ensures.exact
    (ordered_by g.P.Inx.PtrInxCore.number c.rebuild-self-inside.new.chains
    c.rebuild-self-inside.result)
done g c =
    let made = c.compact_nodes-answer.ensures in
    let linear = moved_linear _ _ _ _ c.self.invariant.0 made.compressed made.exact in
    compressed_by _ _ _ _ c.self.invariant.0 made.compressed made.exact _
    c.rebuild-self-inside.ensures.keeps
    (c.rebuild-self-inside.ensures.rebuilt _ (
      linear,
      moved_long _ _ _ _ c.self.invariant.0 made.compressed made.exact,
      c.ends_of_list-ends.ensures.first _ linear
          (moved_all _ _ _ _ c.self.invariant.0 made.compressed made.exact),
    ))

pub invariant_of-self : goal.invariant_of-self
invariant_of-self g c =
    let made = c.compact_nodes-answer.ensures in
    let linear = moved_linear _ _ _ _ c.self.invariant.0 made.compressed made.exact in
    let all = moved_all _ _ _ _ c.self.invariant.0 made.compressed made.exact in
    let d = done g c in (
      d.ordered,
      c.ends_of_list-ends.ensures.first _ linear all ∙ ap (λ l. first_or l None) (sym d.order),
      c.ends_of_list-ends.ensures.last _ linear all ∙ ap (last_or None) (sym d.order),
    )

pub returns-clause-mapped : goal.returns-clause-mapped
returns-clause-mapped g c =
    mapped_by (ap indexed c.self.view_is) (done g c).listed c.compact_nodes-answer.ensures.mapped

pub returns-clause-compressed : goal.returns-clause-compressed
returns-clause-compressed g c =
    let p : Ordered g.row.T.Denot =
    ordered_by g.P.Inx.PtrInxCore.number c.rebuild-self-inside.new.chains
    c.rebuild-self-inside.result in
    subst (λ z. IsCompressed entry_in size_in counter_in room_in g.P.Gen.PtrGenCore.last indexed
    c.args.reset z p) c.self.view_is (done g c).compressed

pub returns-clause-exact : goal.returns-clause-exact
returns-clause-exact g c =
    let number = g.P.Inx.PtrInxCore.number in
    let p : Ordered g.row.T.Denot =
    ordered_by number c.rebuild-self-inside.new.chains c.rebuild-self-inside.result in
    subst (λ z. IsCompressedInOrder g.P.Gen.PtrGenCore.last c.args.reset
    (map value_of (indexed p)) z p) c.self.view_is (done g c).exact

pub returns-clause-formed : goal.returns-clause-formed
returns-clause-formed g c =
    record {
      ordered = (done g c).ordered;
      chained = c.len.ensures.formed;
    }
