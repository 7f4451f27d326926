use Rattle.std.proofs.Common.{refl, sym, ap, ◌∙◌, arith}
use Rattle.std.specs.Option.{option_map}
use Rattle.triple_arena_ord.proofs.AlongLemmas.{seen, checking_begins, first_lives, next_lives}
use Rattle.triple_arena_ord.proofs.AlongLemmas.{checking_step, checking_fails, checking_ends}
use Rattle.triple_arena_ord.proofs.AlongLemmas.{checking_done}
use Rattle.triple_arena_ord.proofs.ascends.ascends.Goals as goal

pub link_at-link-requires-clause-live : goal.link_at-link-requires-clause-live
link_at-link-requires-clause-live g c =
    first_lives g.T.Key.Ord.cmp g.T.SimpleOrdItem.key_of
    g.met.T.Key.Ord.total (g.A.Links.links c.args.arena.now) c.requires.0
    (g.P.Inx.PtrInxCore.number c.args.first) c.requires.1 c.requires.2

pub along-init : goal.along-init
along-init g c = λ w linear at most.
    let number = g.P.Inx.PtrInxCore.number in
    let links = g.A.Links.links c.args.arena.now in
    checking_begins g.T.Key.Ord.cmp g.T.SimpleOrdItem.key_of g.met.T.Key.Ord.total links w
    (number c.args.first) c.link_at-link.result.now at
    (seen g.T.Key.Ord.cmp g.T.SimpleOrdItem.key_of g.met.T.Key.Ord.total links
    (number c.args.first) c.link_at-link.result.now c.link_at-link.ensures)

pub returns-in_default : goal.returns-in_default
returns-in_default g c = λ w linear at most. (
  λ _. checking_ends g.T.Key.Ord.cmp g.T.SimpleOrdItem.key_of
      g.met.T.Key.Ord.total (g.A.Links.links c.args.arena.now) w c.along.link.now c.along._done
      (c.along.invariant w linear at most) linear
      (sym c.next.ensures ∙ ap (option_map g.P.Inx.PtrInxCore.number) c.in_default.is),
  λ _. refl,
)

pub link_at-next-requires-clause-live : goal.link_at-next-requires-clause-live
link_at-next-requires-clause-live g c =
    next_lives g.T.Key.Ord.cmp g.T.SimpleOrdItem.key_of
    g.met.T.Key.Ord.total (g.A.Links.links c.args.arena.now) c.requires.0 c.along.link.now
    c.along._done
    (c.along.invariant c.requires.0 c.requires.1 c.requires.2 c.requires.3) c.requires.1
    (g.P.Inx.PtrInxCore.number c.in-Some.i)
    (sym c.next.ensures ∙ ap (option_map g.P.Inx.PtrInxCore.number) c.in-Some.is)

pub returns-in-Greater : goal.returns-in-Greater
returns-in-Greater g c = λ w linear at most.
    let number = g.P.Inx.PtrInxCore.number in
    let cmp = g.T.Key.Ord.cmp in
    let key = g.T.SimpleOrdItem.key_of in
    let links = g.A.Links.links c.args.arena.now in
    let on = sym c.next.ensures ∙ ap (option_map number) c.in-Some.is in
    let s = seen cmp key g.met.T.Key.Ord.total links (number c.in-Some.i)
    c.link_at-next.result.now c.link_at-next.ensures in
    let answer = ap (λ x. cmp x (key c.link_at-next.result.now.t.t)) (sym c.key.ensures)
    ∙ ap (cmp c.key.result.now) (sym c.key-in-along.ensures) ∙ sym c.cmp.ensures in (
      λ t. absurd (cc),
      λ a. absurd (checking_fails cmp key g.met.T.Key.Ord.total links w c.along.link.now
          c.along._done (c.along.invariant w linear at most) linear
          (number c.in-Some.i) c.link_at-next.result.now on s (answer ∙ c.in-Greater.is) a),
    )

pub along-preserved : goal.along-preserved
along-preserved g c = λ w linear at most.
    let number = g.P.Inx.PtrInxCore.number in
    let cmp = g.T.Key.Ord.cmp in
    let key = g.T.SimpleOrdItem.key_of in
    let links = g.A.Links.links c.args.arena.now in
    let on = sym c.next.ensures ∙ ap (option_map number) c.in-Some.is in
    let s = seen cmp key g.met.T.Key.Ord.total links (number c.in-Some.i)
    c.link_at-next.result.now c.link_at-next.ensures in
    let answer = ap (λ x. cmp x (key c.link_at-next.result.now.t.t)) (sym c.key.ensures)
    ∙ ap (cmp c.key.result.now) (sym c.key-in-along.ensures) ∙ sym c.cmp.ensures in
    checking_step cmp key g.met.T.Key.Ord.total links w c.along.link.now c.along._done
    (c.along.invariant w linear at most) linear (number c.in-Some.i) c.link_at-next.result.now
    on s
    (λ u. c.in_default-cmp.not-Greater (sym answer ∙ u))

pub returns : goal.returns
returns g c = λ w linear at most. (
  λ _. checking_done g.T.Key.Ord.cmp g.T.SimpleOrdItem.key_of
      g.met.T.Key.Ord.total (g.A.Links.links c.args.arena.now) w c.along.link.now c.along._done
      (c.along.invariant w linear at most) linear c.args.most most (omega arith),
  λ _. refl,
)
