use Rattle.std.proofs.Common.{rules, refl, ◌<◌, ◌^◌, Some, None, ◌∙◌, subst, arith}
use Rattle.std.specs.Option.{option_map}
use Rattle.triple_arena_chain.specs.declared.gap.Gap.TheVariants.{Between}
use Rattle.triple_arena_chain.specs.Links.{IsLinkInserted}
use Rattle.triple_arena_ord.proofs.RestLemmas.{rested}
use Rattle.triple_arena_ord.proofs.LeafLemmas.{Cut, Linked, Leaf, cut_found}
use Rattle.triple_arena_ord.proofs.LeafLemmas.{leaf_slot, leaf_gap, leaf_works}
use Rattle.triple_arena_ord.proofs.leaf.insert_leaf.Goals.{After-gap_beside-prev, After-inx}
use Rattle.triple_arena_ord.proofs.leaf.insert_leaf.Goals.{After-bring_in}
use Rattle.triple_arena_ord.proofs.leaf.insert_leaf.Goals as goal
use Rattle.triple_arena_ord.specs.Ordered.{ordered_by}

-- the list is cut beside the holder
cut : (g : _) (c : After-gap_beside-prev g)
    → Cut
    (ordered_by g.P.Inx.PtrInxCore.number c.args.chains.now c.args.root.now)
    (g.P.Inx.PtrInxCore.number c.args.holder) c.args.side
    (option_map g.P.Inx.PtrInxCore.number c.gap_beside-prev.result.0)
    (option_map g.P.Inx.PtrInxCore.number c.gap_beside-prev.result.1)
cut g c =
    cut_found _ c.requires.ordered _ _ _ _ c.requires.lives
    c.requires.free
    c.gap_beside-prev.ensures.prev c.gap_beside-prev.ensures.next

-- the chain has one more link there
linked : (g : _) (c : After-inx g)
    → Linked
    (ordered_by g.P.Inx.PtrInxCore.number c.args.chains.now c.args.root.now)
    c.insert_in_gap_unwrap-p.new.self (g.P.Inx.PtrInxCore.number c.args.holder)
    (g.P.Inx.PtrInxCore.number c.inx.result)
    (g.P.PtrCore.index c.insert_in_gap_unwrap-p.result)
    (g.P.PtrCore.generation c.insert_in_gap_unwrap-p.result) c.args.side
    (record {
      t = c.args.t;
      p_back = Some (g.P.Inx.PtrInxCore.number c.args.holder);
      p_tree0 = None;
      p_tree1 = None;
      rank = 1;
    })
linked g c =
    let bound : c.capacity.result < 2 ^ 64 = search rules in
    let capacity_is = c.capacity.ensures.value in
    let room = c.requires.room in
    record {
      is = c.requires.ordered;
      prev = option_map g.P.Inx.PtrInxCore.number c.gap_beside-prev.result.0;
      next = option_map g.P.Inx.PtrInxCore.number c.gap_beside-prev.result.1;
      cut = cut g (goal.at.After-inx g c).After-gap_beside-prev;
      placed = subst (λ n. IsLinkInserted
          (Between (option_map g.P.Inx.PtrInxCore.number c.gap_beside-prev.result.0)
          (option_map g.P.Inx.PtrInxCore.number c.gap_beside-prev.result.1))
          (g.P.PtrCore.index c.insert_in_gap_unwrap-p.result)
          (g.P.PtrCore.generation c.insert_in_gap_unwrap-p.result) n
          c.args.chains.now c.insert_in_gap_unwrap-p.new.self) c.under-node.ensures
          c.insert_in_gap_unwrap-p.ensures.inserted;
      index_is = c.inx.ensures;
      small = omega arith;
    }

-- and the tree one more leaf
leaf : (g : _) (c : After-bring_in g)
    → Leaf (linked g (goal.at.After-bring_in g c).After-inx)
    c.bring_in.new.nodes
    (option_map g.P.Inx.PtrInxCore.number c.bring_in.new.root)
leaf g c =
    let link = linked g (goal.at.After-bring_in g c).After-inx in
    leaf_works link _ _
    (c.bring_in.ensures.does (leaf_gap link)).0 c.bring_in.ensures.keeps

pub bring_in-requires-clause-free : goal.bring_in-requires-clause-free
bring_in-requires-clause-free g c =
    leaf_gap
    (linked g (goal.at.bring_in-requires-clause-free g c).After-inx)

pub bring_in-requires-clause-slot : goal.bring_in-requires-clause-slot
bring_in-requires-clause-slot g c =
    leaf_slot
    (linked g (goal.at.bring_in-requires-clause-slot g c).After-inx) refl

pub returns-clause-ordered : goal.returns-clause-ordered
returns-clause-ordered g c = (leaf g (goal.at.returns-clause-ordered g c).After-bring_in).ordered

pub returns-clause-order : goal.returns-clause-order
returns-clause-order g c = (leaf g (goal.at.returns-clause-order g c).After-bring_in).order

pub returns-clause-added : goal.returns-clause-added
returns-clause-added g c = (leaf g (goal.at.returns-clause-added g c).After-bring_in).added

pub returns-clause-counter : goal.returns-clause-counter
returns-clause-counter g c =
    (rested c.insert_in_gap_unwrap-p.new.self c.bring_in.new.nodes
    c.bring_in.ensures.keeps).kept.counter
    ∙ c.insert_in_gap_unwrap-p.ensures.inserted.counter

pub returns-clause-room : goal.returns-clause-room
returns-clause-room g c =
    (rested c.insert_in_gap_unwrap-p.new.self c.bring_in.new.nodes
    c.bring_in.ensures.keeps).kept.room
    ∙ c.insert_in_gap_unwrap-p.ensures.room
