use Rattle.std.proofs.Common.{◌≡◌, ℕ, Some, None, IfSome, IsSome, ap, sym, subst, ◌∙◌, option_map}
use Rattle.triple_arena.specs.Entries.{generation_at, value_if}
use Rattle.std.specs.declared.cmp.Ordering.{Ordering}
use Rattle.std.specs.declared.cmp.Ordering.TheVariants.{Equal}
use Rattle.triple_arena_ord.specs.Near.{IsEndNear, EndsWithin}
use Rattle.triple_arena_ord.specs.Ordered.{Ordered, IsOrdered, IsAscending, order_in, entry_in}
use Rattle.triple_arena_ord.specs.Ordered.{asked_at, ordered_by}
use Rattle.triple_arena_ord.specs.Found.{place_by}
use Rattle.triple_arena_ord.proofs.SeekLemmas.{parts_at}
use Rattle.triple_arena_ord.proofs.FoundLemmas.{found_from}
use Rattle.triple_arena_ord.proofs.LinearLemmas.{pointed_lives, not_missed, on_chain, stops_live}
use Rattle.triple_arena_ord.proofs.LinearLemmas.{linear_answer, linear_missed, linear_key_ended}
use Rattle.triple_arena_ord.proofs.LinearLemmas.{linear_key_passed, linear_ends}
use Rattle.triple_arena_ord.proofs.ord_arena.SimpleOrdArena.find_key_linear_counted.Given.{Over}
use Rattle.triple_arena_ord.proofs.ord_arena.SimpleOrdArena.find_key_linear_counted.Goals.{After-inx}
use Rattle.triple_arena_ord.proofs.ord_arena.SimpleOrdArena.find_key_linear_counted.Goals.{After-found_at}
use Rattle.triple_arena_ord.proofs.ord_arena.SimpleOrdArena.find_key_linear_counted.Goals as goal

module _ (g : Over) (c : After-inx g) where
  abbrev inside : Ordered g.row.T.Denot
  inside = ordered_by g.P.Inx.PtrInxCore.number c.self.inside.chains c.self.inside.root

  -- the walk begins at an entry
  lives : IsSome (entry_in inside (g.P.Inx.PtrInxCore.number c.inx.result))
  lives =
      pointed_lives inside (g.P.PtrCore.generation c.args.p_init)
      (g.P.PtrCore.index c.args.p_init)
      (g.P.Inx.PtrInxCore.number c.inx.result)
      (c.contains.ensures.value.0 (let no = c.if-not-contains.false in cc)) c.inx.ensures

  not_gone : value_if (g.P.PtrCore.generation c.args.p_init)
      (entry_in c.args.self.now (g.P.PtrCore.index c.args.p_init)) ≡ None → ⊥
  not_gone =
      not_missed c.args.self.now inside c.self.view_is
      (g.P.PtrCore.generation c.args.p_init) (g.P.PtrCore.index c.args.p_init)
      (c.contains.ensures.value.0 (let no = c.if-not-contains.false in cc))

  ordered : IsOrdered c.args.self.now
  ordered = subst IsOrdered c.self.view_is c.self.invariant.0

pub walk_from-place-requires-clause-place : goal.walk_from-place-requires-clause-place
walk_from-place-requires-clause-place g c =
    let start = (goal.at.walk_from-place-requires-clause-place g c).After-inx in
    on_chain (inside g start) c.self.invariant.0 _ (lives g start)

pub found_at-requires-clause-live : goal.found_at-requires-clause-live
found_at-requires-clause-live g c =
    stops_live g.P.Inx.PtrInxCore.number g.T.Key.Ord.cmp g.T.SimpleOrdItem.key_of c.args.k.now
    c.args.self.now _ c.self.view_is
    c.self.invariant.0 _ (lives g (goal.at.found_at-requires-clause-live g c).After-inx)
    c.walk_from-place.result c.walk_from-place.ensures.stops

pub returns-in-Some-clause-found : goal.returns-in-Some-clause-found
returns-in-Some-clause-found g c =
    let number = g.P.Inx.PtrInxCore.number in
    let cmp = g.T.Key.Ord.cmp in
    let key = g.T.SimpleOrdItem.key_of in
    let k = c.args.k.now in
    let o = c.args.self.now in
    let start = (goal.at.returns-in-Some-clause-found g c).After-inx in
    let is = ordered g start in
    let answer = linear_answer number cmp key k o _ c.self.view_is c.self.invariant.0 _
    (lives g start) c.walk_from-place.result
    c.walk_from-place.ensures.stops (g.P.PtrCore.index c.in-Some.p) Equal
    (c.found_at.ensures.some c.in-Some.p c.in-Some.is) in
    found_from g.P.PtrCore.index g.P.PtrCore.generation (asked_at cmp key k o)
    (IsAscending cmp key o) o is
    (parts_at cmp key k g.met.T.Key.Ord.total o is) _ answer (Some c.in-Some.p)
    (λ p e. let z : c.in-Some.p ≡ p = cc in ap (λ q. Some (g.P.PtrCore.index q, Equal)) z)
    (λ e. absurd (cc))
    (subst (λ r. IfSome r
    (λ p. generation_at (entry_in o) (g.P.PtrCore.index p) ≡ Some (g.P.PtrCore.generation p)))
    c.in-Some.is
    (subst (λ z. IfSome c.found_at.result
    (λ p. generation_at (entry_in z) (g.P.PtrCore.index p) ≡ Some (g.P.PtrCore.generation p)))
    c.self.view_is
    c.found_at.ensures.live))

pub returns-in-None-clause-near : goal.returns-in-None-clause-near
returns-in-None-clause-near g c = λ ascending there near.
    let number = g.P.Inx.PtrInxCore.number in
    let cmp = g.T.Key.Ord.cmp in
    let key = g.T.SimpleOrdItem.key_of in
    let k = c.args.k.now in
    let o = c.args.self.now in
    let start = (goal.at.returns-in-None-clause-near g c).After-inx in
    absurd (linear_missed number cmp key k o _ c.self.view_is c.self.invariant.0 _ (lives g start)
    c.walk_from-place.result
    c.args.num c.walk_from-place.ensures.stops c.walk_from-place.ensures.near
    (c.found_at.ensures.none c.in-None.is)
    (parts_at cmp key k g.met.T.Key.Ord.total o (ordered g start) ascending)
    (subst (IsEndNear c.args.num (asked_at cmp key k o) (order_in o)) (sym c.inx.ensures)
    near))

pub returns-in-Some-clause-gone : goal.returns-in-Some-clause-gone
returns-in-Some-clause-gone g c =
    λ none. absurd (not_gone g (goal.at.returns-in-Some-clause-gone g c).After-inx none)

pub returns-in-None-clause-gone : goal.returns-in-None-clause-gone
returns-in-None-clause-gone g c =
    λ none. absurd (not_gone g (goal.at.returns-in-None-clause-gone g c).After-inx none)

pub returns-in-Some-clause-counted : goal.returns-in-Some-clause-counted
returns-in-Some-clause-counted g c = λ there on.
    let number = g.P.Inx.PtrInxCore.number in
    let start = (goal.at.returns-in-Some-clause-counted g c).After-inx in
    linear_key_ended number g.T.Key.Ord.cmp g.T.SimpleOrdItem.key_of c.args.k.now c.args.self.now _
    c.self.view_is c.self.invariant.0 _ (lives g start) c.walk_from-place.result
    c.args.num _ _ _ c.walk_from-place.ensures.stops c.walk_from-place.ensures.walked
    (g.P.PtrCore.index c.in-Some.p) (c.found_at.ensures.some c.in-Some.p c.in-Some.is)
    (g.P.PtrCore.index c.args.p_init) c.inx.ensures on

pub returns-in-None-clause-counted : goal.returns-in-None-clause-counted
returns-in-None-clause-counted g c = λ there on.
    let number = g.P.Inx.PtrInxCore.number in
    let start = (goal.at.returns-in-None-clause-counted g c).After-inx in
    linear_key_passed number g.T.Key.Ord.cmp g.T.SimpleOrdItem.key_of c.args.k.now c.args.self.now _
    c.self.view_is c.self.invariant.0 _ (lives g start) c.walk_from-place.result
    c.args.num _ _ _ _ c.walk_from-place.ensures.stops c.walk_from-place.ensures.walked
    (c.found_at.ensures.none c.in-None.is) c.find_key_counted-in-None.ensures.ticks
    (g.P.PtrCore.index c.args.p_init) c.inx.ensures on

-- where the way ends within the number that was given, the walk ended
ended : (g : _) (c : After-found_at g) (i : ℕ)
    → EndsWithin c.args.num
    (asked_at g.T.Key.Ord.cmp g.T.SimpleOrdItem.key_of c.args.k.now c.args.self.now)
    (order_in c.args.self.now) (g.P.PtrCore.index c.args.p_init) i Equal
    → place_by g.P.Inx.PtrInxCore.number c.walk_from-place.result ≡ Some (i, Equal)
ended g c i ends =
    let cmp = g.T.Key.Ord.cmp in
    let key = g.T.SimpleOrdItem.key_of in
    let k = c.args.k.now in
    let o = c.args.self.now in
    linear_ends g.P.Inx.PtrInxCore.number cmp key k o _ c.self.view_is c.self.invariant.0 _
    (lives g (goal.at.After-found_at g c).After-inx) c.walk_from-place.result c.args.num _ _
    c.walk_from-place.ensures.stops c.walk_from-place.ensures.walked i Equal
    (subst (λ s. EndsWithin c.args.num (asked_at cmp key k o) (order_in o) s i Equal)
    (sym c.inx.ensures) ends)

pub returns-in-Some-clause-ends : goal.returns-in-Some-clause-ends
returns-in-Some-clause-ends g c = λ there i ends.
    let at = (goal.at.returns-in-Some-clause-ends g c).After-found_at in
    ap (option_map {U = ℕ} (λ (p : ℕ × Ordering). p.0))
    (sym (c.found_at.ensures.some c.in-Some.p c.in-Some.is) ∙ ended g at i ends)

pub returns-in-None-clause-ends : goal.returns-in-None-clause-ends
returns-in-None-clause-ends g c = λ there i ends.
    let at = (goal.at.returns-in-None-clause-ends g c).After-found_at in
    absurd (c.found_at.ensures.none c.in-None.is i (ended g at i ends))
