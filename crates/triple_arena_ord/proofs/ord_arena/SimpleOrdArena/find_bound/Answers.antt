use Rattle.std.proofs.Common.{◌≡◌, ◌∙◌, ℕ, IsSome, Option, Some, refl, ap, subst}
use Rattle.std.specs.declared.cmp.Ordering.{Ordering}
use Rattle.std.specs.declared.cmp.Ordering.TheVariants.{Less, Equal, Greater}
use Rattle.rank_tree.specs.Search.{IsAnswer}
use Rattle.triple_arena_ord.specs.Bounds.{compares_past}
use Rattle.triple_arena_ord.specs.Ordered.{asked_at, entry_in, tree_in}
use Rattle.triple_arena_ord.specs.Found.{place_by}
use Rattle.triple_arena_ord.proofs.BoundLemmas.{bound_behind, bound_here, bound_never, bound_none}
use Rattle.triple_arena_ord.proofs.LiveLemmas.{counted_entry}
use Rattle.triple_arena_ord.proofs.SeekLemmas.{few}
use Rattle.triple_arena_ord.proofs.ord_arena.SimpleOrdArena.find_bound.Goals.{In-Some}
use Rattle.triple_arena_ord.proofs.ord_arena.SimpleOrdArena.find_bound.Goals as goal

-- where the search ended an entry stands
lives : (g : _) (c : In-Some g)
    → IsSome (entry_in c.args.self.now (g.P.Inx.PtrInxCore.number c.in-Some.last.0))
lives g c =
    let number = g.P.Inx.PtrInxCore.number in
    counted_entry c.args.self.now c.seek_past.ensures.ordered (number c.in-Some.last.0)
    (c.seek_past.ensures.answer.lives (number c.in-Some.last.0) c.in-Some.last.1
    (ap (place_by number) c.in-Some.is))

-- and the last answer was this
ended : (g : _) (c : In-Some g) (d : Ordering) → c.in-Some.last.1 ≡ d
    → IsAnswer (asked_at (compares_past c.args.past g.T.Key.Ord.cmp) g.T.SimpleOrdItem.key_of
    c.args.k.now c.args.self.now) (tree_in c.args.self.now)
    (let o : Option (ℕ × Ordering) = Some (g.P.Inx.PtrInxCore.number c.in-Some.last.0, d) in o)
ended g c d same =
    let number = g.P.Inx.PtrInxCore.number in
    subst (IsAnswer (asked_at (compares_past c.args.past g.T.Key.Ord.cmp)
    g.T.SimpleOrdItem.key_of c.args.k.now c.args.self.now) (tree_in c.args.self.now))
    (ap (place_by number) c.in-Some.is
    ∙ ap (λ e. (let o : Option (ℕ × Ordering) = Some (number c.in-Some.last.0, e) in o)) same)
    c.seek_past.ensures.answer

pub ptr_behind-requires : goal.ptr_behind-requires
ptr_behind-requires g c = lives g (goal.at.ptr_behind-requires g c).In-Some

pub ptr_to-requires : goal.ptr_to-requires
ptr_to-requires g c =
    record { live = lives g (goal.at.ptr_to-requires g c).In-Some; no_more = tt }

pub returns-in-Greater-clause-bound : goal.returns-in-Greater-clause-bound
returns-in-Greater-clause-bound g c = λ ascending.
    let number = g.P.Inx.PtrInxCore.number in
    let at = (goal.at.returns-in-Greater-clause-bound g c).In-Some in
    bound_behind g.T.Key.Ord.cmp g.T.SimpleOrdItem.key_of c.args.k.now c.args.past
    c.args.self.now c.seek_past.ensures.ordered g.P.PtrCore.index g.P.PtrCore.generation
    g.met.T.Key.Ord.total ascending (number c.in-Some.last.0) (ended g at Greater c.in-Greater.is)
    c.ptr_behind.result c.ptr_behind.ensures.at c.ptr_behind.ensures.live

pub returns-in-Greater-clause-few : goal.returns-in-Greater-clause-few
returns-in-Greater-clause-few g c =
    few c.args.self.now _ _ c.seek_past.ensures.ordered
    c.seek_past.ensures.bound

pub returns-in_default : goal.returns-in_default
returns-in_default g c =
    let number = g.P.Inx.PtrInxCore.number in
    let at = (goal.at.returns-in_default g c).In-Some in
    record {
      bound = λ ascending.
          by (λ e. bound_here g.T.Key.Ord.cmp g.T.SimpleOrdItem.key_of c.args.k.now
          c.args.past c.args.self.now c.seek_past.ensures.ordered g.P.PtrCore.index
          g.P.PtrCore.generation g.met.T.Key.Ord.total ascending (number c.in-Some.last.0)
          (ended g at Less e) c.ptr_to.result c.ptr_to.ensures.index c.ptr_to.ensures.live)
          (λ e. bound_never g.T.Key.Ord.cmp g.T.SimpleOrdItem.key_of c.args.k.now
          c.args.past c.args.self.now c.seek_past.ensures.ordered g.P.PtrCore.index
          g.P.PtrCore.generation (number c.in-Some.last.0) (lives g at) (ended g at Equal e))
          c.in_default.not-Greater c.in-Some.last.1 refl;
      live = c.ptr_to.ensures.live;
      ticks = c.seek_past.ensures.ticks;
      few = few c.args.self.now _ _ c.seek_past.ensures.ordered c.seek_past.ensures.bound;
    }
  where
    by : {X : Type 0} {a : Ordering} → (a ≡ Less → X) → (a ≡ Equal → ⊥) → (a ≡ Greater → ⊥)
        → (d : Ordering) → a ≡ d → X
    by less equal greater Less e = less e
    by less equal greater Equal e = absurd (equal e)
    by less equal greater Greater e = absurd (greater e)

pub returns-in-None-clause-bound : goal.returns-in-None-clause-bound
returns-in-None-clause-bound g c = λ ascending.
    let number = g.P.Inx.PtrInxCore.number in
    bound_none g.T.Key.Ord.cmp g.T.SimpleOrdItem.key_of c.args.k.now c.args.past
    c.args.self.now c.seek_past.ensures.ordered g.P.PtrCore.index g.P.PtrCore.generation
    (subst (IsAnswer (asked_at (compares_past c.args.past g.T.Key.Ord.cmp)
    g.T.SimpleOrdItem.key_of c.args.k.now c.args.self.now) (tree_in c.args.self.now))
    (ap (place_by number) c.in-None.is)
    c.seek_past.ensures.answer)
