-- What a search along the list comes to.
use Rattle.std.specs.Prelude.{◌≡◌, ℕ, ◌+◌, ◌<◌, ◌≤◌, List, [], ◌∷◌, ◌++◌, length, reverse, take}
use Rattle.std.specs.List.{AllByRecursion}
use Rattle.std.specs.Prelude.{◌⊎◌, slice_get, Option, Some, None}
use Rattle.std.specs.declared.cmp.Ordering.{Ordering}
use Rattle.std.specs.declared.cmp.Ordering.TheVariants.{Less, Equal, Greater}
use Rattle.linked_lists.specs.LinkedLists.{Ends, On, first_or, last_or}
use Rattle.rank_tree.specs.Search.{IsParted, EndsAt}
use Rattle.triple_arena.specs.Content.{Content}
use Rattle.triple_arena_chain.specs.LinkShape.{IndexLink}
use Rattle.triple_arena_ord.specs.NodeShape.{IndexNode}
use Rattle.triple_arena_ord.specs.Node.{items_in}
use Rattle.triple_arena_ord.specs.Ordered.{Ordered, order_in, asked_of, asked_at, comparisons}

-- how a key compares with that of the node at an index
abbrev pub asked_in : {K T : Type 0} → (K → K → Ordering) → (T → K) → K
    → Content (IndexLink (IndexNode T)) → ℕ → Ordering
asked_in cmp key k c i = asked_of cmp key k (items_in c i)

-- two indexes stand in the list less than so many places apart
pub record IsNear (num : ℕ) (w : List ℕ) (i j : ℕ) : Type 0 where
  pub from : ℕ
  pub to : ℕ
  pub starts : slice_get w from ≡ Some i
  pub ends : slice_get w to ≡ Some j
  pub ahead : to < from + num
  pub behind : from < to + num

-- an index that ends the search is near
pub record IsEndNear (num : ℕ) (f : ℕ → Ordering) (w : List ℕ) (i : ℕ) : Type 0 where
  pub at : ℕ
  pub equal : f at ≡ Equal
  pub near : IsNear num w i at

-- each neighbor that the gap has is near
pub record IsGapNear (num : ℕ) (f : ℕ → Ordering) (w : List ℕ) (i : ℕ) : Type 0 where
  pub low : List ℕ
  pub high : List ℕ
  pub is : w ≡ low ++ high
  pub greater : AllByRecursion (λ j. f j ≡ Greater) low
  pub less : AllByRecursion (λ j. f j ≡ Less) high
  pub last : (j : ℕ) → last_or None low ≡ Some j → IsNear num w i j
  pub first : (j : ℕ) → first_or high None ≡ Some j → IsNear num w i j

-- one of both
abbrev pub IsAtHand : ℕ → (ℕ → Ordering) → List ℕ → ℕ → Type 0
IsAtHand num f w i = IsEndNear num f w i ⊎ IsGapNear num f w i

-- the same, in a list that is parted
abbrev pub IsPartedAtHand : ℕ → (ℕ → Ordering) → List ℕ → ℕ → Type 0
IsPartedAtHand num f w i = IsParted f w × IsAtHand num f w i

-- an index of the list and the way there; in a list that is parted it ends the search, or is a
-- neighbor of the gap
pub record IsStop (f : ℕ → Ordering) (w : List ℕ) (i : ℕ) (d : Ordering) : Type 0 where
  pub on : On w i
  pub way : f i ≡ d
  pub places : IsParted f w → EndsAt f w i d

-- where a walk goes from an index with this answer, after it went this way, if at all. It goes on
-- in one direction, up to the gap, an end of the list, or an index that ends the search
abbrev pub onward : Ordering → Ordering → Ends → Option ℕ
onward Less Less ends = ends.0
onward Less Equal ends = None
onward Less Greater ends = None
onward Equal Less ends = ends.0
onward Equal Equal ends = None
onward Equal Greater ends = ends.1
onward Greater Less ends = None
onward Greater Equal ends = None
onward Greater Greater ends = ends.1

-- a list, if both are the same way and it leads on
abbrev pub if_onward : Ordering → Ordering → List ℕ → List ℕ
if_onward Less Less is = is
if_onward Greater Greater is = is
if_onward way answer is = []

-- the first indexes of a list, up to one that answers otherwise, which is the last of them
abbrev pub up_to : (ℕ → Ordering) → Ordering → List ℕ → List ℕ
up_to f way [] = []
up_to f way (i ∷ is) = i ∷ if_onward way (f i) (up_to f way is)

-- the indexes that stand on that side of one, the nearest first
abbrev pub beyond : Ordering → (front back : List ℕ) → List ℕ
beyond Less front back = reverse front
beyond Equal front back = []
beyond Greater front back = back

-- the indexes that a walk comes to from one in a list, itself the first: on the side to which that
-- answers, up to one that answers otherwise or to an end of the list
abbrev pub path_from : (ℕ → Ordering) → {w : List ℕ} {i : ℕ} → On w i → List ℕ
path_from f {w} {i} on = up_to f (f i) (i ∷ beyond (f i) on.front on.back)

-- the way along a list from an index ends within so many comparisons, at an index with this answer
pub record EndsWithin (num : ℕ) (f : ℕ → Ordering) (w : List ℕ) (start at : ℕ) (d : Ordering)
    : Type 0 where
  pub on : On w start
  pub within : length (path_from f on) ≤ num
  pub last : last_or None (path_from f on) ≡ Some at
  pub answer : f at ≡ d

-- a walk along these indexes compares once at each, at most `num` times. It ends at the last, or
-- nowhere where there are more
abbrev pub IsWalked : (num : ℕ) → (path : List ℕ) → Option ℕ → (old new : ℕ) → Type 0
IsWalked num path None old new = (num < length path) × (new ≡ old + num)
IsWalked num path (Some i) old new = (last_or None path ≡ Some i) × (length path ≤ num)
    × (new ≡ old + length path)

-- how often a search compares that walks along these indexes first: once at each, or where there
-- are more `num` times and as often as from the root
pub record IsPlaceCounted (num down : ℕ) (path : List ℕ) (old new : ℕ) : Type 0 where
  pub ended : length path ≤ num → new ≡ old + length path
  pub passed : num < length path → new ≡ old + (num + down)

-- one of these indexes ends the search
pub record HasEnd (f : ℕ → Ordering) (is : List ℕ) : Type 0 where
  pub at : ℕ
  pub on : On is at
  pub equal : f at ≡ Equal

-- how often a search compares that looks along these indexes for an equal key first: once at each,
-- at most `num` times, and as often as from the root where none of them has one
pub record IsKeyCounted (num down : ℕ) (f : ℕ → Ordering) (path : List ℕ) (old new : ℕ)
    : Type 0 where
  pub ended : HasEnd f (take num path) → new ≡ old + length (take num path)
  pub passed : (HasEnd f (take num path) → ⊥) → new ≡ old + (length (take num path) + down)

module _ {K T : Type 0} (cmp : K → K → Ordering) (key : T → K) where
  -- an entry with an equal key is near
  abbrev pub IsKeyNear : (start num : ℕ) (k : K) → Ordered T → Type 0
  IsKeyNear start num k o = IsEndNear num (asked_at cmp key k o) (order_in o) start

  -- an entry with an equal key is near, or each entry beside the place of the key
  abbrev pub IsPlaceNear : (start num : ℕ) (k : K) → Ordered T → Type 0
  IsPlaceNear start num k o = IsAtHand num (asked_at cmp key k o) (order_in o) start

  -- where the way along the list from an index ends within so many comparisons
  abbrev pub IsEndOfWay : (start num : ℕ) (k : K) → Ordered T → ℕ × Ordering → Type 0
  IsEndOfWay start num k o place
      = EndsWithin num (asked_at cmp key k o) (order_in o) start place.0 place.1

  -- how often a search for the place of a key compares that goes along the list first
  abbrev pub IsPlaceSearchCounted : (num : ℕ) (k : K) (o : Ordered T) {start : ℕ}
      → On (order_in o) start → (old new : ℕ) → Type 0
  IsPlaceSearchCounted num k o on old new
      = IsPlaceCounted num (comparisons cmp key k o) (path_from (asked_at cmp key k o) on) old new

  -- how often a search for an equal key compares that goes along the list first
  abbrev pub IsKeySearchCounted : (num : ℕ) (k : K) (o : Ordered T) {start : ℕ}
      → On (order_in o) start → (old new : ℕ) → Type 0
  IsKeySearchCounted num k o on old new = IsKeyCounted num (comparisons cmp key k o)
      (asked_at cmp key k o) (path_from (asked_at cmp key k o) on) old new
