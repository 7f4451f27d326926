use Rattle.std.proofs.Common.{ap, ◌∙◌}
use Rattle.std.specs.Option.{option_map}
use Rattle.triple_arena_ptr.specs.Generation.{next_generation, next_wraps}
use Rattle.triple_arena_ord.specs.Ordered.{Ordered, ordered_by}
use Rattle.triple_arena_ord.proofs.RestLemmas.{rested}
use Rattle.triple_arena_ord.proofs.UprootingLemmas.{item_taken, still, taken}
use Rattle.triple_arena_ord.proofs.uprooting.take_entry.Goals as goal

pub take_inx_link_unwrap-generation-requires : goal.take_inx_link_unwrap-generation-requires
take_inx_link_unwrap-generation-requires g c =
    let number = g.P.Inx.PtrInxCore.number in
    let o : Ordered g.row.T.Denot =
    ordered_by number c.args.chains.now c.args.root.now in
    still o c.uproot.new.chains (number c.args.gone) c.uproot.ensures.keeps c.requires.lives

pub returns : goal.returns
returns g c =
    let number = g.P.Inx.PtrInxCore.number in
    let o : Ordered g.row.T.Denot =
    ordered_by number c.args.chains.now c.args.root.now in
    let h = number c.args.gone in
    let c1 = c.uproot.new.chains in
    let c2 = c.take_inx_link_unwrap-generation.new.self in
    let last = g.P.Gen.PtrGenCore.last in
    let kept = c.uproot.ensures.keeps in
    let out_of = c.take_inx_link_unwrap-generation.result in
    let same = (rested c.args.chains.now c1 kept).kept in
    let out = c.take_inx_link_unwrap-generation.ensures.taken in
    let done = taken o c.requires.ordered h last c1 c2 (option_map number c.uproot.new.root)
    c.uproot.ensures.uprooted kept out in
    record {
      ordered = done.ordered;
      order = done.order;
      entries = done.entries;
      value = item_taken (g.P.Gen.PtrGenCore.number out_of.0.0, out_of.0.1) o c1 h kept
          c.take_inx_link_unwrap-generation.ensures.value;
      overflow = c.take_inx_link_unwrap-generation.ensures.overflow
          ∙ ap (next_wraps last) same.counter;
      free = done.free;
      slots = done.slots;
      counter = out.counter ∙ ap (next_generation last) same.counter;
      room = out.room ∙ same.room;
    }
