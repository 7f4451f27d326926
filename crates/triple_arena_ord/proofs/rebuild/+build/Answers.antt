use Rattle.std.proofs.Common.{◌≡◌, ℕ, ◌-◌, ◌/◌, ◌≤◌, List, Some, None, IsSome, sym, ap, subst, ◌∙◌}
use Rattle.std.proofs.Common.{arith}
use Rattle.std.specs.Option.{option_map}
use Rattle.triple_arena_chain.specs.Links.{ends_in}
use Rattle.triple_arena_ord.specs.Node.{nodes_in}
use Rattle.triple_arena_ord.specs.Rebuilt.{IsAhead}
use Rattle.rank_tree.specs.Halving.{IsBuilt}
use Rattle.rank_tree.specs.BuildLaws.{built_none}
use Rattle.triple_arena_ord.proofs.RebuildLemmas.{Parts, parts, empty_ahead, right_ahead}
use Rattle.triple_arena_ord.proofs.RebuildLemmas.{stays_there}
use Rattle.triple_arena_ord.proofs.RebuildLemmas.{lives_if, root_lives, live_node, part_built}
use Rattle.triple_arena_ord.proofs.rebuild.+build.Goals.{After-next_of}
use Rattle.triple_arena_ord.proofs.rebuild.+build.Goals as goal

module _ (g : _) (t : _) (c : After-next_of g t) (w : List ℕ)
    (a : IsAhead (ends_in c.args.chains.now)
    (option_map g.P.Inx.PtrInxCore.number c.args.cursor.now) c.args.count w) where
  -- the parts of the list
  both : Parts (ends_in c.args.chains.now)
      (option_map g.P.Inx.PtrInxCore.number c.args.cursor.now) c.args.count w a.after
  both =
      parts (ends_in c.args.chains.now) (option_map g.P.Inx.PtrInxCore.number c.args.cursor.now)
      c.args.count w a (omega arith)

  -- between which the root stands
  root_is : g.P.Inx.PtrInxCore.number c.in-Some.root ≡ both.i
  root_is =
      let number = g.P.Inx.PtrInxCore.number in
      let came : Some (number c.in-Some.root) ≡ Some both.i =
      sym (ap (option_map number) c.in-Some.is)
      ∙ c.build-left.ensures.goes_on both.v both.left ∙ both.left_after in
      cc came

  -- the right one is ahead once the left one is built
  right : (b : IsAhead (ends_in c.build-left.new.chains)
      (option_map g.P.Inx.PtrInxCore.number c.next_of.result)
      (c.args.count - c.args.count / 2 - 1) both.u)
      × (b.after ≡ a.after)
  right =
      let number = g.P.Inx.PtrInxCore.number in
      right_ahead c.args.chains.now c.build-left.new.chains
      (option_map number c.args.cursor.now) (option_map number c.next_of.result) c.args.count
      (number c.in-Some.root) w a.after c.build-left.ensures.keeps both root_is c.next_of.ensures

pub returns-then-count-eq0-clause-built : goal.returns-then-count-eq0-clause-built
returns-then-count-eq0-clause-built g t c = λ w a.
    let number = g.P.Inx.PtrInxCore.number in
    let none : c.args.count ≡ 0 = omega arith in
    let empty = empty_ahead _ _ w
    (subst (λ n. IsAhead (ends_in c.args.chains.now)
    (option_map number c.args.cursor.now) n w) none a) in
    subst (λ l. IsBuilt c.args.top l None (nodes_in c.args.chains.now)
    (nodes_in c.args.chains.now)) (sym empty.0) (built_none c.args.top _)

pub build-left-requires : goal.build-left-requires
build-left-requires g t c κs within =
    let number = g.P.Inx.PtrInxCore.number in
    let some : 1 ≤ c.args.count = omega arith in
    let p = parts (ends_in c.args.chains.now) (option_map number c.args.cursor.now)
    c.args.count c.requires.0 c.requires.1 some in (
      omega arith,
      (
        within.0,
        (
          within.1.0,
          (
            within.1.1.0,
            (
              within.1.1.1.0,
              (
                within.1.1.1.1.0,
                (within.1.1.1.1.1.0, (within.1.1.1.1.1.1, (p.v, p.left))),
              ),
            ),
          ),
        ),
      ),
    )

pub unreached-unreachable-requires : goal.unreached-unreachable-requires
unreached-unreachable-requires g t c =
    let number = g.P.Inx.PtrInxCore.number in
    let some : 1 ≤ c.args.count = omega arith in
    let p = parts (ends_in c.args.chains.now) (option_map number c.args.cursor.now)
    c.args.count c.requires.0 c.requires.1 some in
    let came = c.build-left.ensures.goes_on p.v p.left ∙ p.left_after in
    let gone : None ≡ Some p.i = sym (ap (option_map number) c.in_default.is) ∙ came in
    cc gone

pub build-right-requires : goal.build-right-requires
build-right-requires g t c κs within =
    let at = (goal.at.build-right-requires g t c).After-next_of in (
      omega arith,
      (
        within.0,
        (
          within.1.0,
          (
            within.1.1.0,
            (
              within.1.1.1.0,
              (
                within.1.1.1.1.0,
                (
                  within.1.1.1.1.1.0,
                  (
                    within.1.1.1.1.1.1,
                    (
                      (both g t at c.requires.0 c.requires.1).u,
                      (right g t at c.requires.0 c.requires.1).0,
                    ),
                  ),
                ),
              ),
            ),
          ),
        ),
      ),
    )

pub reparent-requires-clause-live : goal.reparent-requires-clause-live
reparent-requires-clause-live g t c =
    let p = both g t (goal.at.reparent-requires-clause-live g t c).After-next_of c.requires.0
    c.requires.1 in
    lives_if g.P.Inx.PtrInxCore.number c.build-left.result (nodes_in c.build-right.new.chains)
    (λ i root. stays_there c.build-left.new.chains c.build-right.new.chains i
    c.build-right.ensures.keeps
    (root_lives _ _ _ _ _ (c.build-left.ensures.built p.v p.left) i root))

pub reparent-requires-2-clause-live : goal.reparent-requires-2-clause-live
reparent-requires-2-clause-live g t c =
    let at = (goal.at.reparent-requires-2-clause-live g t c).After-next_of in
    lives_if g.P.Inx.PtrInxCore.number c.build-right.result (nodes_in c.reparent.new.nodes)
    (λ i root. stays_there c.build-right.new.chains c.reparent.new.nodes i
    c.reparent.ensures.keeps
    (root_lives _ _ _ _ _ (c.build-right.ensures.built (both g t at c.requires.0 c.requires.1).u
    (right g t at c.requires.0 c.requires.1).0) i root))

pub write-requires-clause-live : goal.write-requires-clause-live
write-requires-clause-live g t c =
    let number = g.P.Inx.PtrInxCore.number in
    let at = (goal.at.write-requires-clause-live g t c).After-next_of in
    stays_there c.args.chains.now c.reparent-2.new.nodes (number c.in-Some.root)
    (c.reparent-2.ensures.keeps ∙ c.reparent.ensures.keeps ∙ c.build-right.ensures.keeps
    ∙ c.build-left.ensures.keeps)
    (live_node c.args.chains.now (number c.in-Some.root)
    (subst (λ k. IsSome (ends_in c.args.chains.now k))
    (sym (root_is g t at c.requires.0 c.requires.1))
    (both g t at c.requires.0 c.requires.1).live))

pub returns-clause-built : goal.returns-clause-built
returns-clause-built g t c = λ w a.
    let number = g.P.Inx.PtrInxCore.number in
    let at = (goal.at.returns-clause-built g t c).After-next_of in
    let p = both g t at w a in
    let under : c.saturating_sub-below.result ≡ c.args.top - 1 = c.saturating_sub-below.ensures in
    part_built (ends_in c.args.chains.now) (option_map number c.args.cursor.now) c.args.count
    c.args.top c.rank_of_part-rank.result
    (number c.in-Some.root) w a.after _ _ _ _ _ _ _ _ p (root_is g t at w a)
    (subst (λ k. IsBuilt k p.v (option_map number c.build-left.result)
    (nodes_in c.args.chains.now) (nodes_in c.build-left.new.chains)) under
    (c.build-left.ensures.built p.v p.left))
    (subst (λ k. IsBuilt k p.u (option_map number c.build-right.result)
    (nodes_in c.build-left.new.chains) (nodes_in c.build-right.new.chains)) under
    (c.build-right.ensures.built p.u (right g t at w a).0))
    c.reparent.ensures.does c.reparent-2.ensures.does c.rank_of_part-rank.ensures
    c.write.ensures.written

pub returns-clause-goes_on : goal.returns-clause-goes_on
returns-clause-goes_on g t c = λ w a.
    let at = (goal.at.returns-clause-goes_on g t c).After-next_of in
    let r = right g t at w a in
    c.build-right.ensures.goes_on (both g t at w a).u r.0 ∙ r.1
