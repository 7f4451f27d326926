use Rattle.std.proofs.Common.{ℕ, ◌<◌, ◌∙◌, List, Option, ap, subst}
use Rattle.std.specs.Option.{option_map}
use Rattle.rank_tree.proofs.NameLemmas.{if_numbered}
use Rattle.rank_tree.specs.Store.{rank_in}
use Rattle.rank_tree.specs.Repair.{Pending}
use Rattle.rank_tree.specs.FrameLaws.{both_kept}
use Rattle.rank_tree.specs.MendLaws.{mend_falls, broken_small}
use Rattle.rank_tree.proofs.removal_repair.repair_removed.Goals as goal

pub climb-smaller : goal.climb-smaller
climb-smaller g c =
    let number = g.P.Inx.PtrInxCore.number in
    let old = g.K.NodeStore.nodes c.climb.nodes in
    let new = g.K.NodeStore.nodes c.mend-at.new.nodes in
    let at_is = ap (option_map number) c.in-Some.is in
    let rises = if_numbered number (λ i. rank_in old (number c.in-Some.high) < rank_in new i)
    c.mend-at.result c.mend-at.ensures.rises in
    let broken = subst (λ l. Pending old (option_map number c.climb.root) l
    (option_map number c.climb.near) c.requires.pending.0)
    at_is
    (c.climb.invariant.0 c.requires.pending.0 c.requires.pending.1) in
    mend_falls old new _ _ (option_map number c.mend-at.result) at_is rises
    (broken_small _ (option_map number c.climb.root) _ _ _ broken)

pub climb-preserved : goal.climb-preserved
climb-preserved g c =
    let number = g.P.Inx.PtrInxCore.number in
    let now : List ℕ → Option ℕ
    → Type 0 = λ w l. Pending (g.K.NodeStore.nodes c.climb.nodes) (option_map number c.climb.root) l
    (option_map number c.climb.near) w in
    let at_is = ap (option_map number) c.in-Some.is in (
      λ w pending. c.mend-at.ensures.pending w
          (subst (now w) at_is (c.climb.invariant.0 w pending)),
      c.mend-at.ensures.keeps ∙ c.climb.invariant.1,
      λ w pending. both_kept w _ _ _ (c.climb.invariant.2 w pending)
          (c.mend-at.ensures.elsewhere w (subst (now w) at_is (c.climb.invariant.0 w pending))),
    )
