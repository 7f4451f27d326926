-- Where a kind of insertion puts its item: alone (None), directly before (Less) or after (Greater)
-- an index, or in its entry (Equal).
use Rattle.std.specs.Prelude.{◌≡◌, ◌↔◌, ℕ, Option, Some, None, IsSome}
use Rattle.std.specs.Borrow.{Bor}
use Rattle.std.specs.declared.cmp.Ordering.{Ordering}
use Rattle.std.specs.declared.cmp.Ordering.TheVariants.{Less, Equal, Greater}
use Rattle.triple_arena_ord.specs.declared.kind.InsertKind.{InsertKind}
use Rattle.triple_arena_ord.specs.declared.kind.InsertKind.TheVariants.{Empty, Normal}
use Rattle.triple_arena_ord.specs.declared.kind.InsertKind.TheVariants.{Nonhereditary, Linear}
use Rattle.triple_arena_ord.specs.declared.kind.InsertKind.TheVariants.{NonhereditaryLinear, Manual}
use Rattle.rank_tree.specs.Search.{EndsAt}
use Rattle.triple_arena_ord.specs.Near.{IsEndOfWay}
use Rattle.triple_arena_ord.specs.Ordered.{Ordered, IsAscending, order_in, entry_in, size_in}
use Rattle.triple_arena_ord.specs.Ordered.{asked_at}

-- directly before an entry in place of in it
abbrev pub before_equal : Option (ℕ × Ordering) → Option (ℕ × Ordering)
before_equal None = None
before_equal (Some place) = Some (place.0, by place.1)
  where
    by : Ordering → Ordering
    by Less = Less
    by Equal = Less
    by Greater = Greater

module _ {I T : Type 0} (number : I → ℕ) where
  -- the entries are as a kind requires
  abbrev pub Meets : {K : Type 0} → InsertKind I K → Ordered T → Type 0
  Meets Empty o = size_in o ≡ 0
  Meets (Normal k) o = Unit {0}
  Meets (Nonhereditary k) o = Unit {0}
  Meets (Linear i n k) o = Unit {0}
  Meets (NonhereditaryLinear i n k) o = Unit {0}
  Meets (Manual i direction) o = IsSome (entry_in o (number i))

module _ {T : Type 0} where
  module _ {K : Type 0} (cmp : K → K → Ordering) (key : T → K) where
    -- the entry with an equal key, or a place beside one; where the keys ascend, that after all
    -- lesser keys and before all greater ones
    pub record IsPlaceByKey (k : K) (o : Ordered T) (place : Option (ℕ × Ordering)) : Type 0 where
      pub none : (place ≡ None) ↔ (size_in o ≡ 0)
      pub live : (i : ℕ) (d : Ordering) → place ≡ Some (i, d) → IsSome (entry_in o i)
      pub way : (i : ℕ) (d : Ordering) → place ≡ Some (i, d) → asked_at cmp key k o i ≡ d
      pub places : IsAscending cmp key o → (i : ℕ) (d : Ordering) → place ≡ Some (i, d)
          → EndsAt (asked_at cmp key k o) (order_in o) i d

    -- the same, but directly before an entry with an equal key
    pub record IsPlaceBeforeEqual (k : K) (o : Ordered T) (place : Option (ℕ × Ordering))
        : Type 0 where
      pub found : Option (ℕ × Ordering)
      pub by_key : IsPlaceByKey k o found
      pub is : place ≡ before_equal found

module _ {I T : Type 0} (number : I → ℕ) where
  module _ {K : Type 0} (cmp : K → K → Ordering) (key : T → K) where
    -- the place that a kind asks for: one with a way along the list, where that ends, if it does
    abbrev pub IsPlaceFor : InsertKind I (Bor K) → Ordered T → Option (ℕ × Ordering) → Type 0
    IsPlaceFor Empty o place = place ≡ None
    IsPlaceFor (Normal k) o place = IsPlaceByKey cmp key k.now o place
    IsPlaceFor (Nonhereditary k) o place = IsPlaceBeforeEqual cmp key k.now o place
    IsPlaceFor (Linear i n k) o place = IsPlaceByKey cmp key k.now o place
        × ((end : ℕ × Ordering) → IsEndOfWay cmp key (number i) n k.now o end → place ≡ Some end)
    IsPlaceFor (NonhereditaryLinear i n k) o place = IsPlaceBeforeEqual cmp key k.now o place
        × ((end : ℕ × Ordering) → IsEndOfWay cmp key (number i) n k.now o end
        → place ≡ before_equal (Some end))
    IsPlaceFor (Manual i direction) o place = place ≡ Some (number i, direction)
