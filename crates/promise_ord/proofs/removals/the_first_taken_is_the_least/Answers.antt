use Rattle.std.proofs.Common.{◌≡◌, ◌≢◌, ℕ, suc, List, ◌∷◌, get_or, All, ap, subst}
use Rattle.std.proofs.Common.{arith, true}
use Rattle.std.specs.Cmp.{IsTotalOrder}
use Rattle.std.specs.List.Sorted.{IsSorted}
use Rattle.std.specs.Ordering.{is_lt}
use Rattle.std.specs.declared.cmp.Ordering.{Ordering}
use Rattle.std.specs.declared.cmp.Ordering.TheVariants.{Less}
use Rattle.std.proofs.lemmas.List.MinMax.{ranks_by}
use Rattle.std.proofs.lemmas.List.Sorted.{sorted_far}
use Rattle.triple_arena_ord.specs.Ordered.{ordered_entries}
use Rattle.promise_ord.proofs.removals.the_first_taken_is_the_least.Goals as goal

-- no key behind the first is less than it
none_less : {K X : Type 0} (R : K → K → Ordering) → IsTotalOrder R → (key : X → K) (x : X)
    (xs : List X) → IsSorted (λ a b. R (key a) (key b)) (x ∷ xs)
    → All (λ e. R (key e) (key x) ≢ Less) xs
none_less {K} {X} R total key x xs sorted = λ k d below is.
    let far = sorted_far (λ a b. is_lt (R (key a) (key b))) (ranks_by total key) (x ∷ xs) sorted 0
    (suc k) d (omega arith) (omega arith) in
    let here : is_lt (R (key (get_or xs k d)) (key x)) ≡ true = ap is_lt is in absurd (cc)

pub returns : goal.returns
returns g c = λ old new item takes ascending.
    let key = g.T.SimpleOrdItem.key_of in
    let cmp = g.T.Key.Ord.cmp in
    none_less cmp g.met.T.Key.Ord.total (λ (e : ℕ × (ℕ × g.row.T.Denot)). key e.1.1) _
    (ordered_entries new)
    (subst (IsSorted (λ (x y : ℕ × (ℕ × g.row.T.Denot)). cmp (key x.1.1) (key y.1.1))) takes.first
    ascending)
