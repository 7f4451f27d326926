-- A link begins one walk, and the walks of a ring are rotations of one another.
use Rattle.std.proofs.Common.{◌≡◌, ℕ, List, [], ◌∷◌, ◌++◌, reverse, Option, Some, refl, sym, ap}
use Rattle.std.proofs.Common.{◌∙◌}
use Rattle.linked_lists.specs.LinkedLists.{Ends, IsRing, Standing, linear, ring}
use Rattle.linked_lists.specs.LinkedListLaws.{Apart-last, segment-append, last_or-append}
use Rattle.linked_lists.specs.UniquenessLaws.{stands_once}
use Rattle.triple_arena_chain.specs.Walks.{IsWalkFrom, along, around}

-- an index that stands in a chain begins a walk
pub walk_of : (e : ℕ → Option Ends) (i : ℕ) → Standing e i → (walk : List ℕ) × IsWalkFrom e i walk
walk_of e i (linear before after s) = (i ∷ (after ++ reverse before), along before after s refl)
walk_of e i (ring after r) = (i ∷ after, around after r refl)

-- two walks from one index are one
pub one_walk : (e : ℕ → Option Ends) (i : ℕ) (xs ys : List ℕ) → IsWalkFrom e i xs
    → IsWalkFrom e i ys → xs ≡ ys
one_walk e i xs ys (along before after s is) (along before' after' s' is') =
    let same = stands_once e i (linear before after s) (linear before' after' s') in
    is ∙ ap (λ l. i ∷ (l ++ reverse before)) same.1 ∙ ap
    (λ l. i ∷ (after' ++ reverse l)) same.0 ∙ sym is'
one_walk e i xs ys (along before after s is) (around after' r' is')
    = absurd (stands_once e i (linear before after s) (ring after' r'))
one_walk e i xs ys (around after r is) (along before' after' s' is')
    = absurd (stands_once e i (ring after r) (linear before' after' s'))
one_walk e i xs ys (around after r is) (around after' r' is') =
    let same = stands_once e i (ring after r) (ring after' r') in
    is ∙ ap (λ l. i ∷ l) same.0 ∙ sym is'

-- a ring from the next of its first on
pub rotated : (e : ℕ → Option Ends) (p n : ℕ) (rest : List ℕ) → IsRing e (p ∷ n ∷ rest)
    → IsRing e (n ∷ rest ++ p ∷ [])
rotated e p n rest r =
    record {
      stands = rw (last_or-append (Some n) rest (p ∷ []))
          (segment-append e (Some p) (Some n) (n ∷ rest) (p ∷ []) r.stands.1 (r.stands.0, tt));
      apart = Apart-last (n ∷ rest) p r.apart.1 r.apart.0;
    }
