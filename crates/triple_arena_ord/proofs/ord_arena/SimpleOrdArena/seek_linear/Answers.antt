use Rattle.std.proofs.Common.{◌≡◌, ℕ, Option, Some, None, IsSome, false, not, sym, ap, ◌∙◌}
use Rattle.std.specs.declared.cmp.Ordering.{Ordering}
use Rattle.triple_arena_ord.specs.Ordered.{Ordered, entry_in, ordered_by}
use Rattle.triple_arena_ord.specs.Found.{place_by}
use Rattle.triple_arena_ord.proofs.LinearLemmas.{looked_up, on_chain, not_free, linear_answer}
use Rattle.triple_arena_ord.proofs.LinearLemmas.{linear_near, linear_ends, not_listed}
use Rattle.triple_arena_ord.proofs.LinearLemmas.{linear_place_ended}
use Rattle.triple_arena_ord.proofs.LinearLemmas.{linear_place_passed}
use Rattle.triple_arena_ord.proofs.ord_arena.SimpleOrdArena.seek_linear.Given.{Over}
use Rattle.triple_arena_ord.proofs.ord_arena.SimpleOrdArena.seek_linear.Goals.{After-is_none}
use Rattle.triple_arena_ord.proofs.ord_arena.SimpleOrdArena.seek_linear.Goals as goal

module _ (g : Over) (c : After-is_none g) where
  abbrev inside : Ordered g.row.T.Denot
  inside = ordered_by g.P.Inx.PtrInxCore.number c.self.inside.chains c.self.inside.root

  -- the walk begins at an entry
  lives : c.is_none.result ≡ false
      → IsSome (entry_in inside (g.P.Inx.PtrInxCore.number c.args.p_init))
  lives there =
      looked_up g.P.Gen.PtrGenCore.number (λ b. b.now) inside
      (g.P.Inx.PtrInxCore.number c.args.p_init) c.get_inx.result c.get_inx.ensures
      (c.is_none.ensures ∙ ap not there)

  not_gone : c.is_none.result ≡ false
      → entry_in c.args.self.now (g.P.Inx.PtrInxCore.number c.args.p_init) ≡ None → ⊥
  not_gone there = not_free c.args.self.now inside c.self.view_is _ (lives there)

pub walk_from-requires-clause-place : goal.walk_from-requires-clause-place
walk_from-requires-clause-place g c =
    let at = (goal.at.walk_from-requires-clause-place g c).After-is_none in
    on_chain (inside g at) c.self.invariant.0 _ (lives g at c.if-is_none.false)

pub returns-in-Some-clause-answer : goal.returns-in-Some-clause-answer
returns-in-Some-clause-answer g c =
    let number = g.P.Inx.PtrInxCore.number in
    let at = (goal.at.returns-in-Some-clause-answer g c).After-is_none in
    linear_answer number g.T.Key.Ord.cmp g.T.SimpleOrdItem.key_of c.args.k.now c.args.self.now _
    c.self.view_is c.self.invariant.0 _ (lives g at c.if-is_none.false) c.walk_from.result
    c.walk_from.ensures.stops (number c.in-Some.place.0) c.in-Some.place.1
    (ap (place_by number) c.in-Some.is)

pub returns-in-None-clause-near : goal.returns-in-None-clause-near
returns-in-None-clause-near g c = λ there near.
    let number = g.P.Inx.PtrInxCore.number in
    let at = (goal.at.returns-in-None-clause-near g c).After-is_none in
    absurd (linear_near number g.T.Key.Ord.cmp g.T.SimpleOrdItem.key_of c.args.k.now c.args.self.now
    _ c.self.view_is c.self.invariant.0 _ (lives g at c.if-is_none.false) c.walk_from.result
    c.args.num c.walk_from.ensures.near c.in-None.is near.0 near.1)

pub returns-in-Some-clause-gone : goal.returns-in-Some-clause-gone
returns-in-Some-clause-gone g c = λ none.
    absurd (not_gone g (goal.at.returns-in-Some-clause-gone g c).After-is_none
    c.if-is_none.false none)

pub returns-in-None-clause-gone : goal.returns-in-None-clause-gone
returns-in-None-clause-gone g c = λ none.
    absurd (not_gone g (goal.at.returns-in-None-clause-gone g c).After-is_none
    c.if-is_none.false none)

pub returns-in-Some-clause-counted : goal.returns-in-Some-clause-counted
returns-in-Some-clause-counted g c = λ there on.
    let number = g.P.Inx.PtrInxCore.number in
    let at = (goal.at.returns-in-Some-clause-counted g c).After-is_none in
    linear_place_ended number g.T.Key.Ord.cmp g.T.SimpleOrdItem.key_of c.args.k.now c.args.self.now
    _ c.self.view_is c.self.invariant.0 _ (lives g at c.if-is_none.false) c.walk_from.result
    c.args.num _ _ _ c.walk_from.ensures.walked c.in-Some.place c.in-Some.is on

pub returns-in-None-clause-counted : goal.returns-in-None-clause-counted
returns-in-None-clause-counted g c = λ there on.
    let number = g.P.Inx.PtrInxCore.number in
    let at = (goal.at.returns-in-None-clause-counted g c).After-is_none in
    linear_place_passed number g.T.Key.Ord.cmp g.T.SimpleOrdItem.key_of c.args.k.now c.args.self.now
    _ c.self.view_is c.self.invariant.0 _ (lives g at c.if-is_none.false) c.walk_from.result
    c.args.num _ _ _ _ c.walk_from.ensures.walked c.in-None.is c.seek-in-None.ensures.ticks on

pub returns-then-is_none-clause-ends : goal.returns-then-is_none-clause-ends
returns-then-is_none-clause-ends g c = λ i d ends.
    let number = g.P.Inx.PtrInxCore.number in
    let at = (goal.at.returns-then-is_none-clause-ends g c).After-is_none in
    absurd (not_listed g.P.Gen.PtrGenCore.number (λ b. b.now) c.args.self.now (inside g at)
    c.self.view_is c.seek.ensures.ordered (number c.args.p_init) c.get_inx.result c.get_inx.ensures
    (c.is_none.ensures ∙ ap not c.if-is_none.true) ends.on)

pub returns-in-Some-clause-ends : goal.returns-in-Some-clause-ends
returns-in-Some-clause-ends g c = λ i d ends.
    let number = g.P.Inx.PtrInxCore.number in
    let at = (goal.at.returns-in-Some-clause-ends g c).After-is_none in
    let ended = linear_ends number g.T.Key.Ord.cmp g.T.SimpleOrdItem.key_of c.args.k.now
    c.args.self.now _ c.self.view_is c.self.invariant.0 _ (lives g at c.if-is_none.false)
    c.walk_from.result c.args.num _ _ c.walk_from.ensures.stops c.walk_from.ensures.walked i d ends
    in
    sym (ap (place_by number) c.in-Some.is) ∙ ended

pub returns-in-None-clause-ends : goal.returns-in-None-clause-ends
returns-in-None-clause-ends g c = λ i d ends.
    let number = g.P.Inx.PtrInxCore.number in
    let at = (goal.at.returns-in-None-clause-ends g c).After-is_none in
    let ended = linear_ends number g.T.Key.Ord.cmp g.T.SimpleOrdItem.key_of c.args.k.now
    c.args.self.now _ c.self.view_is c.self.invariant.0 _ (lives g at c.if-is_none.false)
    c.walk_from.result c.args.num _ _ c.walk_from.ensures.stops c.walk_from.ensures.walked i d ends
    in
    let never : ◌≡◌ {A = Option (ℕ × Ordering)} None (Some (i, d)) =
    sym (ap (place_by number) c.in-None.is) ∙ ended in
    absurd (cc)
