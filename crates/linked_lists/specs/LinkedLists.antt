-- Doubly linked lists and rings, over interlinks: a plain function from an index to its two
-- neighbors, which has a value where the index is live.
use Rattle.std.specs.Prelude.{◌≡◌, ◌≢◌, ℕ, ◌==◌, List, [], ◌∷◌, ◌++◌, Option, Some, None}
use Rattle.std.specs.Prelude.{if◌then◌else◌, IsSome, ◌⊎◌}

-- the previous and the next index
abbrev pub Ends : Type 0
Ends = Option ℕ × Option ℕ

abbrev pub next_in : Option Ends → Option ℕ
next_in None = None
next_in (Some e) = e.1

abbrev pub prev_in : Option Ends → Option ℕ
prev_in None = None
prev_in (Some e) = e.0

-- the next of an index, where it has one
abbrev pub next_at : (ℕ → Option Ends) → ℕ → Option ℕ
next_at ends i = next_in (ends i)

-- the previous one of an index, where it has one
abbrev pub prev_at : (ℕ → Option Ends) → ℕ → Option ℕ
prev_at ends i = prev_in (ends i)

-- the next of `p` is `q` exactly if the previous one of `q` is `p`
pub record IsAgreed (ends : ℕ → Option Ends) : Type 0 where
  pub forward : (p q : ℕ) → next_at ends p ≡ Some q → prev_at ends q ≡ Some p
  pub backward : (p q : ℕ) → prev_at ends q ≡ Some p → next_at ends p ≡ Some q

-- the first of a list, or what follows the list
abbrev pub first_or : List ℕ → Option ℕ → Option ℕ
first_or [] after = after
first_or (x ∷ xs) after = Some x

-- the last of a list, or what is before the list
abbrev pub last_or : Option ℕ → List ℕ → Option ℕ
last_or before [] = before
last_or before (x ∷ xs) = last_or (Some x) xs

-- these indexes stand one after another, the first behind `before` and the last in front of `after`
abbrev pub IsSegment : (ℕ → Option Ends) → Option ℕ → List ℕ → Option ℕ → Type 0
IsSegment ends before [] after = Unit {0}
IsSegment ends before (x ∷ xs) after = (ends x ≡ Some (before, first_or xs after))
    × IsSegment ends (Some x) xs after

-- an index is not on a list
abbrev pub Off : List ℕ → ℕ → Type 0
Off [] i = Unit {0}
Off (x ∷ xs) i = (x ≢ i) × Off xs i

-- an index is on a list, between two parts of it
pub record On (xs : List ℕ) (i : ℕ) : Type 0 where
  pub front : List ℕ
  pub back : List ℕ
  pub is : xs ≡ front ++ i ∷ back

-- each index of a list stands there once
abbrev pub Apart : List ℕ → Type 0
Apart [] = Unit {0}
Apart (x ∷ xs) = Off xs x × Apart xs

-- a linear chain
abbrev pub IsLinear : (ℕ → Option Ends) → List ℕ → Type 0
IsLinear ends xs = IsSegment ends None xs None

-- a ring, from one of its indexes on
pub record IsRing (ends : ℕ → Option Ends) (xs : List ℕ) : Type 0 where
  pub stands : IsSegment ends (last_or None xs) xs (first_or xs None)
  pub apart : Apart xs

-- the chain that an index stands in: a linear one, or a ring that is read from it on
pub data Standing (ends : ℕ → Option Ends) (i : ℕ) : Type 0 where
  linear : (before after : List ℕ) → IsLinear ends (before ++ i ∷ after) → Standing ends i
  ring : (after : List ℕ) → IsRing ends (i ∷ after) → Standing ends i

-- two neighbors, if they are there, with another next
abbrev pub renext : Option ℕ → Option Ends → Option Ends
renext next None = None
renext next (Some e) = Some (e.0, next)

-- and with another previous one
abbrev pub reprev : Option ℕ → Option Ends → Option Ends
reprev prev None = None
reprev prev (Some e) = Some (prev, e.1)

-- the interlinks with another next of an index
abbrev pub with_next : (ℕ → Option Ends) → ℕ → Option ℕ → ℕ → Option Ends
with_next ends i next j = if j == i then renext next (ends j) else ends j

-- the interlinks with another previous one of an index
abbrev pub with_prev : (ℕ → Option Ends) → ℕ → Option ℕ → ℕ → Option Ends
with_prev ends i prev j = if j == i then reprev prev (ends j) else ends j

-- `q` is the next of `p`
abbrev pub linked : (ℕ → Option Ends) → ℕ → ℕ → ℕ → Option Ends
linked ends p q = with_prev (with_next ends p (Some q)) q (Some p)

-- `q` is no longer the next of `p`
abbrev pub unlinked : (ℕ → Option Ends) → ℕ → ℕ → ℕ → Option Ends
unlinked ends p q = with_prev (with_next ends p None) q None

-- the interlinks with another next of this index, if it is one
abbrev pub with_next_if : (ℕ → Option Ends) → Option ℕ → Option ℕ → ℕ → Option Ends
with_next_if ends None next = ends
with_next_if ends (Some i) next = with_next ends i next

-- the interlinks with another previous one of this index, if it is one
abbrev pub with_prev_if : (ℕ → Option Ends) → Option ℕ → Option ℕ → ℕ → Option Ends
with_prev_if ends None prev = ends
with_prev_if ends (Some i) prev = with_prev ends i prev

-- the interlinks without an index
abbrev pub dropped : (ℕ → Option Ends) → ℕ → ℕ → Option Ends
dropped ends p i = if i == p then None else ends i

-- the interlinks with two neighbors joined over what is between them
abbrev pub bridged : (ℕ → Option Ends) → Option ℕ → Option ℕ → ℕ → Option Ends
bridged ends before after = with_prev_if (with_next_if ends before after) after before

-- the interlinks with those of one more index
abbrev pub added : (ℕ → Option Ends) → ℕ → Ends → ℕ → Option Ends
added ends n v i = if i == n then Some v else ends i

-- `p` and `q` have exchanged their nexts `s` and `t`
abbrev pub exchanged : (ℕ → Option Ends) → ℕ → ℕ → ℕ → ℕ → ℕ → Option Ends
exchanged ends p q s t
    = with_prev (with_prev (with_next (with_next ends p (Some t)) q (Some s)) t (Some p)) s (Some q)

-- where one more index may stand: behind the first of these, if any, and before the second, if any.
-- They are valid, and neither has another neighbor on that side
pub record IsBetween (ends : ℕ → Option Ends) (gap : Ends) : Type 0 where
  pub before : (p : ℕ) → gap.0 ≡ Some p → IsSome (ends p)
      × ((next_at ends p ≡ None) ⊎ (next_at ends p ≡ gap.1))
  pub after : (q : ℕ) → gap.1 ≡ Some q → IsSome (ends q)
      × ((prev_at ends q ≡ None) ⊎ (prev_at ends q ≡ gap.0))

-- the interlinks with one more index in a gap
abbrev pub put_between : (ℕ → Option Ends) → ℕ → Ends → ℕ → Option Ends
put_between ends n gap =
    with_prev_if (with_next_if (added ends n gap) gap.0 (Some n)) gap.1 (Some n)

-- the interlinks where this index, which has these neighbors, was taken out from between them
abbrev pub taken_from : (ℕ → Option Ends) → ℕ → Option Ends → ℕ → Option Ends
taken_from ends p None = ends
taken_from ends p (Some own) = dropped (bridged ends own.0 own.1) p

-- the interlinks where an index was taken out from between its neighbors
abbrev pub taken_out : (ℕ → Option Ends) → ℕ → ℕ → Option Ends
taken_out ends p = taken_from ends p (ends p)
