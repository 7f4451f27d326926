-- Order books: the orders of one side of a market by price, and those of one price by arrival.
use Rattle.std.specs.Prelude.{◌≡◌, ℕ, ◌<◌, ◌≤◌, List, [], ◌∷◌, ◌++◌}
use Rattle.std.specs.List.{AllByRecursion}
use Rattle.std.specs.Prelude.{Option, Some}
use Rattle.std.specs.Option.{option_map}
use Rattle.std.specs.Ordering.{nat_cmp}
use Rattle.triple_arena_ord.specs.declared.pair.OrdPair.{OrdPair}
use Rattle.triple_arena_ord.specs.Ordered.{Ordered, IsAscending, order_in, entry_in}

-- the price and the order of an entry
abbrev pub listed_order : {V : Type 0} → ℕ × (ℕ × OrdPair ℕ V) → ℕ × V
listed_order listed = (listed.1.1.k, listed.1.1.v)

module _ {V : Type 0} where
  -- the generation, and the price with the order, at each index
  abbrev pub orders_in : Ordered (OrdPair ℕ V) → ℕ → Option (ℕ × (ℕ × V))
  orders_in o i = option_map (λ e. (let order : ℕ × (ℕ × V) = (e.0, (e.1.k, e.1.v)) in order))
      (entry_in o i)

  -- the price at an index
  abbrev pub price_in : Ordered (OrdPair ℕ V) → ℕ → Option ℕ
  price_in o i = option_map (λ e. e.1.k) (entry_in o i)

  -- the price at each of these indexes
  abbrev pub AllPrices : (ℕ → Type 0) → Ordered (OrdPair ℕ V) → List ℕ → Type 0
  AllPrices Q o = AllByRecursion (λ j. (price : ℕ) → price_in o j ≡ Some price → Q price)

  -- an order comes into the list behind all whose price is not greater, and before the others
  pub record IsBehind (o : Ordered (OrdPair ℕ V)) (price i : ℕ) (old new : List ℕ)
      : Type 0 where
    pub before : List ℕ
    pub after : List ℕ
    pub was : old ≡ before ++ after
    pub is : new ≡ before ++ i ∷ after
    pub not_greater : AllPrices (λ other. other ≤ price) o before
    pub greater : AllPrices (λ other. price < other) o after

  -- the prices ascend along the list
  abbrev pub IsBook : Ordered (OrdPair ℕ V) → Type 0
  IsBook o = IsAscending nat_cmp (λ pair. pair.k) o

  -- no order has a lesser price, and of those with this price none came before it
  pub record IsBestAsk (o : Ordered (OrdPair ℕ V)) (i : ℕ) : Type 0 where
    pub own : ℕ
    pub later : List ℕ
    pub is : order_in o ≡ i ∷ later
    pub price : price_in o i ≡ Some own
    pub least : AllPrices (λ other. own ≤ other) o later

  -- no order has a greater price, and of those with this price none came before it
  pub record IsBestBid (o : Ordered (OrdPair ℕ V)) (i : ℕ) : Type 0 where
    pub own : ℕ
    pub lesser : List ℕ
    pub later : List ℕ
    pub is : order_in o ≡ lesser ++ i ∷ later
    pub price : price_in o i ≡ Some own
    pub less : AllPrices (λ other. other < own) o lesser
    pub same : AllPrices (λ other. other ≡ own) o later

  -- the one stands directly behind the other
  pub record IsNext (o : Ordered (OrdPair ℕ V)) (i j : ℕ) : Type 0 where
    pub before : List ℕ
    pub after : List ℕ
    pub is : order_in o ≡ before ++ i ∷ j ∷ after

  -- it stands behind all others
  pub record IsLast (o : Ordered (OrdPair ℕ V)) (i : ℕ) : Type 0 where
    pub before : List ℕ
    pub is : order_in o ≡ before ++ i ∷ []
