use Rattle.std.proofs.Common.{◌≡◌, ℕ, ◌<◌, ◌^◌, Option, Some, rules, refl, ap, sym, subst, arith}
use Rattle.std.specs.Option.{option_map}
use Rattle.rank_tree.specs.NodeView.{NodeView}
use Rattle.rank_tree.specs.Repair.{Loose, Restored, KeptOff, walk_without}
use Rattle.triple_arena_ord.specs.Node.{nodes_in}
use Rattle.triple_arena_ord.specs.Ordered.{Ordered, ordered_by}
use Rattle.triple_arena_ord.proofs.MovedUpLemmas.{Way, way_up, way_loose}
use Rattle.triple_arena_ord.proofs.UprootingLemmas.{uprooted}
use Rattle.triple_arena_ord.proofs.SuccessorLemmas.{Over, over_lives, replaced, replacement_place}
use Rattle.triple_arena_ord.proofs.uprooting.uproot.Goals.{After-unwrap_or-out, After-bring_out}
use Rattle.triple_arena_ord.proofs.uprooting.uproot.Goals as goal

small : (count live : ℕ) → count ≡ live → count < 2 ^ 64 → live < 2 ^ 64
small count live e h = omega arith

-- the arena as it was
abbrev old : (g : _) (c : After-unwrap_or-out g) → Ordered g.row.T.Denot
old g c = ordered_by g.P.Inx.PtrInxCore.number c.args.chains.now c.args.root.now

-- which index leaves the tree
way : (g : _) (c : After-unwrap_or-out g)
    → Way (old g c) (g.P.Inx.PtrInxCore.number c.args.gone)
    (g.P.Inx.PtrInxCore.number c.unwrap_or-out.result)
    (option_map g.P.Inx.PtrInxCore.number c.moved_up-moved.result)
way g c =
    let number = g.P.Inx.PtrInxCore.number in
    subst (λ i. Way (old g c) (number c.args.gone) (number i)
    (option_map number c.moved_up-moved.result)) (sym c.unwrap_or-out.ensures)
    (way_up number (old g c) c.requires.ordered c.args.gone
    (small _ _ c.len.ensures.value (search rules)) c.requires.lives _ c.read-links.ensures
    c.read-links.result.right c.moved_up-moved.result c.args.next refl
    c.moved_up-moved.ensures.none c.moved_up-moved.ensures.some c.requires.next)

-- what leaving leaves, by an index that is the same
does_at : (n m : ℕ → Option NodeView) (r s : Option ℕ) (i j : ℕ) → i ≡ j
    → ((loose : Loose n r i) → Restored m s (walk_without loose) × KeptOff (walk_without loose) n m)
    → (loose : Loose n r j) → Restored m s (walk_without loose)
does_at n m r s i j same does =
    subst (λ k. (loose : Loose n r k) → Restored m s (walk_without loose)) same
    (λ loose. (does loose).0)

-- the next one, out of the tree
over : (g : _) (c : After-bring_out g) (n : ℕ)
    → option_map g.P.Inx.PtrInxCore.number c.moved_up-moved.result ≡ Some n
    → (h : Over (old g (goal.at.After-bring_out g c).After-unwrap_or-out)
    (g.P.Inx.PtrInxCore.number c.args.gone) n)
    × Restored (nodes_in c.bring_out.new.nodes)
    (option_map g.P.Inx.PtrInxCore.number c.bring_out.new.root)
    (walk_without h.loose)
over g c n is =
    let number = g.P.Inx.PtrInxCore.number in
    let at = (goal.at.After-bring_out g c).After-unwrap_or-out in
    let it = subst (Way (old g at) (number c.args.gone)
    (number c.unwrap_or-out.result)) is (way g at) in
    (it.1, does_at _ _ _ _ _ _ it.0 c.bring_out.ensures.does it.1.loose)

pub bring_out-requires-clause-loose : goal.bring_out-requires-clause-loose
bring_out-requires-clause-loose g c =
    let number = g.P.Inx.PtrInxCore.number in
    let at = (goal.at.bring_out-requires-clause-loose g c).After-unwrap_or-out in
    way_loose (old g at) (number c.args.gone) (number c.unwrap_or-out.result)
    (option_map number c.moved_up-moved.result) (way g at)

pub replace-requires : goal.replace-requires
replace-requires g c =
    let number = g.P.Inx.PtrInxCore.number in
    let at = goal.at.replace-requires g c in
    let o = old g at.After-unwrap_or-out in
    let found = over g at.After-bring_out _ (ap (option_map number) c.in-Some.is) in
    record {
      place = replacement_place o c.requires.ordered _ _ c.requires.lives found.0
          c.bring_out.new.nodes (option_map number c.bring_out.new.root) found.1;
      slot = over_lives o _ _ c.bring_out.new.nodes found.0 c.bring_out.ensures.keeps;
    }

pub returns-in-None-clause-uprooted : goal.returns-in-None-clause-uprooted
returns-in-None-clause-uprooted g c =
    let number = g.P.Inx.PtrInxCore.number in
    let at = (goal.at.returns-in-None-clause-uprooted g c).After-unwrap_or-out in
    let it = subst (Way (old g at) (number c.args.gone)
    (number c.unwrap_or-out.result)) (ap (option_map number) c.in-None.is) (way g at) in
    uprooted (old g at) (ordered_by number c.bring_out.new.nodes c.bring_out.new.root)
    (number c.args.gone) it.1
    (does_at _ _ _ _ _ _ it.0 c.bring_out.ensures.does it.1.loose)

pub returns-in-Some-clause-uprooted : goal.returns-in-Some-clause-uprooted
returns-in-Some-clause-uprooted g c =
    let number = g.P.Inx.PtrInxCore.number in
    let at = goal.at.returns-in-Some-clause-uprooted g c in
    let o = old g at.After-unwrap_or-out in
    let found = over g at.After-bring_out _ (ap (option_map number) c.in-Some.is) in
    let root1 = option_map number c.bring_out.new.root in
    replaced o c.requires.ordered _ _ c.requires.lives found.0 c.bring_out.new.nodes root1
    found.1 c.replace.new.nodes (option_map number c.replace.new.root)
    (c.replace.ensures.does
    (replacement_place o c.requires.ordered _ _ c.requires.lives found.0
    c.bring_out.new.nodes root1 found.1)).0
