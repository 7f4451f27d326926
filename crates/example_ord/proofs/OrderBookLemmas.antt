-- What insertions and removals make of an order book, and which orders stand at its ends.
use Rattle.std.proofs.Common.{◌≡◌, ◌≢◌, ℕ, ◌≤◌, ◌<◌, List, [], ◌∷◌, ◌++◌, Option, Some, None}
use Rattle.std.proofs.Common.{option_map, refl, sym, ap, subst, ◌∙◌, IsSome}
use Rattle.std.proofs.Common.{OnSome, IfSome, IfNone, arith}
use Rattle.std.specs.Cmp.{ranked}
use Rattle.std.specs.List.{AllByRecursion, cons_option}
use Rattle.std.specs.Ordering.{nat_cmp}
use Rattle.std.specs.declared.cmp.Ordering.{Ordering}
use Rattle.std.specs.declared.cmp.Ordering.TheVariants.{Less, Equal, Greater}
use Rattle.triple_arena.specs.Content.{entry_at}
use Rattle.linked_lists.specs.LinkedLists.{IsSegment, Off, Apart, first_or, last_or}
use Rattle.linked_lists.specs.LinkedListLaws.{Off-not_on}
use Rattle.triple_arena_chain.specs.Links.{ends_in, entry_ends, valued}
use Rattle.triple_arena_chain.specs.LinkShape.{IndexLink}
use Rattle.linked_lists.specs.UniquenessLaws.{linear_apart}
use Rattle.triple_arena_ord.specs.declared.pair.OrdPair.{OrdPair}
use Rattle.triple_arena_ord.specs.Bounds.{IsBound, first_entry}
use Rattle.triple_arena_ord.specs.Inserted.{StandsAt}
use Rattle.triple_arena_ord.specs.Node.{itemed}
use Rattle.triple_arena_ord.specs.NodeShape.{IndexNode}
use Rattle.triple_arena_ord.specs.Ordered.{Ordered, IsOrdered, order_in, entry_in, entries_at}
use Rattle.triple_arena_ord.specs.Ordered.{NoneGreater, NoneLess, asked_of, asked_at}
use Rattle.triple_arena_ord.specs.OrderedWalks.{OrderedWalk, OrderedSteps, left_over}
use Rattle.example_ord.specs.OrderBooks.{price_in, AllPrices, IsBehind, IsBestAsk}
use Rattle.example_ord.specs.OrderBooks.{IsBestBid, IsNext, IsLast}

-- what holds of each of a list holds of one that is on it
at_of : (Q : ℕ → Type 0) (front : List ℕ) (i : ℕ) (back : List ℕ)
    → AllByRecursion Q (front ++ i ∷ back)
    → Q i
at_of Q [] i back all = all.0
at_of Q (x ∷ xs) i back all = at_of Q xs i back all.1

weaker : (Q R : ℕ → Type 0) → ((i : ℕ) → Q i → R i) → (xs : List ℕ) → AllByRecursion Q xs
    → AllByRecursion R xs
weaker Q R so [] all = tt
weaker Q R so (x ∷ xs) all = (so x all.0, weaker Q R so xs all.1)

some_is : {B : Type 0} (a b : B) → Some a ≡ Some b → a ≡ b
some_is a b is = cc

joined : (Q : ℕ → Type 0) (xs ys : List ℕ) → AllByRecursion Q xs → AllByRecursion Q ys
    → AllByRecursion Q (xs ++ ys)
joined Q [] ys first second = second
joined Q (x ∷ xs) ys first second = (first.0, joined Q xs ys first.1 second)

later : (Q : ℕ → Type 0) (xs ys : List ℕ) → AllByRecursion Q (xs ++ ys) → AllByRecursion Q ys
later Q [] ys all = all
later Q (x ∷ xs) ys all = later Q xs ys all.1

both_in : (Q R S : ℕ → Type 0) → ((i : ℕ) → Q i → R i → S i) → (xs : List ℕ) → AllByRecursion Q xs
    → AllByRecursion R xs → AllByRecursion S xs
both_in Q R S so [] first second = tt
both_in Q R S so (x ∷ xs) first second =
    (so x first.0 second.0, both_in Q R S so xs first.1 second.1)

regroup : (front : List ℕ) (i j : ℕ) → front ++ i ∷ j ∷ [] ≡ (front ++ i ∷ []) ++ j ∷ []
regroup [] i j = refl
regroup (x ∷ front) i j = ap (λ l. x ∷ l) (regroup front i j)

no_first : (w : List ℕ) → first_or w None ≡ None → w ≡ []
no_first [] is = refl
no_first (x ∷ xs) is = absurd (cc)

none_left : (xs ys : List ℕ) → xs ++ ys ≡ [] → (xs ≡ []) × (ys ≡ [])
none_left [] ys is = (refl, is)
none_left (x ∷ xs) ys is = absurd (cc)

append_none : (xs : List ℕ) → xs ++ [] ≡ xs
append_none [] = refl
append_none (x ∷ xs) = ap (λ l. x ∷ l) (append_none xs)

-- an index stands at one place of a list that has each once
parts_once : (xs : List ℕ) (h : ℕ) (ys us vs : List ℕ) → Apart (xs ++ h ∷ ys)
    → xs ++ h ∷ ys ≡ us ++ h ∷ vs → (xs ≡ us) × (ys ≡ vs)
parts_once [] h ys [] vs apart e = let z : ys ≡ vs = cc in (refl, z)
parts_once [] h ys (u ∷ us) vs apart e =
    let tail : ys ≡ us ++ h ∷ vs = cc in
    absurd (Off-not_on us vs h (subst (λ z. Off z h) tail apart.0))
parts_once (x ∷ xs) h ys [] vs apart e =
    let head : x ≡ h = cc in
    absurd (Off-not_on xs ys h (subst (λ z. Off (xs ++ h ∷ ys) z) head apart.0))
parts_once (x ∷ xs) h ys (u ∷ us) vs apart e =
    let head : x ≡ u = cc in
    let tail : xs ++ h ∷ ys ≡ us ++ h ∷ vs = cc in
    let rest = parts_once xs h ys us vs apart.1 tail in
    (ap (λ z. z ∷ xs) head ∙ ap (λ z. u ∷ z) rest.0, rest.1)

starts : (w : List ℕ) (i : ℕ) → first_or w None ≡ Some i → (back : List ℕ) × (w ≡ i ∷ back)
starts [] i is = absurd (cc)
starts (x ∷ xs) i is = (xs, ap (λ y. y ∷ xs) (some_is x i is))

ends : (w : List ℕ) (i : ℕ) → last_or None w ≡ Some i → (front : List ℕ) × (w ≡ front ++ i ∷ [])
ends [] i is = absurd (cc)
ends (x ∷ []) i is = ([], ap (λ y. y ∷ []) (some_is x i is))
ends (x ∷ y ∷ xs) i is = let rest = ends (y ∷ xs) i is in
    (x ∷ rest.0, ap (λ l. x ∷ l) rest.1)

tail_is : (x y : ℕ) (xs ys : List ℕ) → x ∷ xs ≡ y ∷ ys → xs ≡ ys
tail_is x y xs ys is = cc

not_greater : (x y : ℕ) → nat_cmp x y ≢ Greater → x ≤ y
not_greater x y never = by (nat_cmp x y) refl
  where
    by : (d : Ordering) → d ≡ nat_cmp x y → x ≤ y
    by Less is = omega (arith, ranked x y Less is)
    by Equal is = omega (arith, ranked x y Equal is)
    by Greater is = absurd (never (sym is))

not_less : (x y : ℕ) → nat_cmp x y ≢ Less → y ≤ x
not_less x y never = by (nat_cmp x y) refl
  where
    by : (d : Ordering) → d ≡ nat_cmp x y → y ≤ x
    by Less is = absurd (never (sym is))
    by Equal is = omega (arith, ranked x y Equal is)
    by Greater is = omega (arith, ranked x y Greater is)

-- where a bound parts the entries, it parts the list of their indexes
module _ {T P : Type 0} (index generation : P → ℕ) (B : T → Type 0)
    (o : Ordered T) where
  abbrev listed : List ℕ → List (ℕ × (ℕ × T))
  listed w = entries_at o w

  abbrev Known : ℕ × (ℕ × T) → Type 0
  Known e = entry_in o e.0 ≡ Some e.1

  abbrev Lives : List ℕ → Type 0
  Lives = AllByRecursion (λ j. IsSome (entry_in o j))

  pub record IsParted (r : Option P) : Type 0 where
    pub low : List ℕ
    pub high : List ℕ
    pub is : order_in o ≡ low ++ high
    pub below : AllByRecursion (λ j. (e : ℕ × T) → entry_in o j ≡ Some e → B e.1) low
    pub above : AllByRecursion (λ j. (e : ℕ × T) → entry_in o j ≡ Some e → B e.1 → ⊥) high
    pub first : first_or high None ≡ option_map index r

  -- the indexes of the list are those of its entries
  record Split (w : List ℕ) (es fs : List (ℕ × (ℕ × T))) : Type 0 where
    front : List ℕ
    back : List ℕ
    is : w ≡ front ++ back
    front_is : listed front ≡ es
    back_is : listed back ≡ fs

  split : (w : List ℕ) → Lives w → (es fs : List (ℕ × (ℕ × T))) → listed w ≡ es ++ fs
      → Split w es fs
  split w lives [] fs e = record { front = []; back = w; is = refl; front_is = refl; back_is = e }
  split [] lives (x ∷ es) fs e = absurd (cc)
  split (i ∷ w) lives (x ∷ es) fs e =
      by (λ rest. split w lives.1 es fs rest) (entry_in o i) refl lives.0
    where
      by : (listed w ≡ es ++ fs → Split w es fs) → (a : Option (ℕ × T)) → entry_in o i ≡ a
          → IsSome a → Split (i ∷ w) (x ∷ es) fs
      by next None at some = absurd (cc)
      by next (Some a) at some =
          let opened : listed (i ∷ w) ≡ (i, a) ∷ listed w =
          ap (λ (z : Option (ℕ × T)). cons_option (option_map (λ e. (i, e)) z) (listed w)) at in
          let both : (i, a) ∷ listed w ≡ x ∷ (es ++ fs) = sym opened ∙ e in
          let head : (i, a) ≡ x = cc both in
          let rest : listed w ≡ es ++ fs = cc both in
          let s = next rest in
          record {
            front = i ∷ s.front;
            back = s.back;
            is = ap (λ l. i ∷ l) s.is;
            front_is = (let here : listed (i ∷ s.front) ≡ (i, a) ∷ listed s.front =
                ap (λ (z : Option (ℕ × T)). cons_option (option_map (λ e. (i, e)) z)
                (listed s.front)) at in
                here ∙ ap (λ l. (i, a) ∷ l) s.front_is ∙ ap (λ y. y ∷ es) head);
            back_is = s.back_is;
          }

  -- what holds of the entries holds at the indexes
  at_indexes : (Q : T → Type 0) (w : List ℕ)
      → AllByRecursion (λ (e : ℕ × (ℕ × T)). Q e.1.1) (listed w)
      → AllByRecursion (λ j. (e : ℕ × T) → entry_in o j ≡ Some e → Q e.1) w
  at_indexes Q [] all = tt
  at_indexes Q (i ∷ w) all = by (λ left. at_indexes Q w left) (entry_in o i) refl
    where
      by : (AllByRecursion (λ (e : ℕ × (ℕ × T)). Q e.1.1) (listed w)
          → AllByRecursion (λ j. (e : ℕ × T) → entry_in o j ≡ Some e → Q e.1) w)
          → (a : Option (ℕ × T)) → entry_in o i ≡ a
          → AllByRecursion (λ j. (e : ℕ × T) → entry_in o j ≡ Some e → Q e.1) (i ∷ w)
      by next None at = (
        λ e is. absurd (let never : None ≡ Some e = sym at ∙ is in cc),
        next (subst (AllByRecursion (λ (e : ℕ × (ℕ × T)). Q e.1.1))
            (let none : listed (i ∷ w) ≡ listed w = rw at refl in none) all),
      )
      by next (Some a) at =
          let both : AllByRecursion (λ (e : ℕ × (ℕ × T)). Q e.1.1) ((i, a) ∷ listed w) =
          subst (AllByRecursion (λ (e : ℕ × (ℕ × T)). Q e.1.1))
          (let some : listed (i ∷ w) ≡ (i, a) ∷ listed w = rw at refl in some) all in (
            λ e is. subst (λ (z : ℕ × T). Q z.1) (some_is a e (sym at ∙ is)) both.0,
            next both.1,
          )

  first_index : (w : List ℕ) → Lives w → first_or w None
      ≡ option_map (λ (e : ℕ × ℕ). e.0) (first_entry (listed w))
  first_index [] lives = refl
  first_index (i ∷ w) lives = by (entry_in o i) refl lives.0
    where
      by : (a : Option (ℕ × T)) → entry_in o i ≡ a → IsSome a
          → Some i ≡ option_map (λ (e : ℕ × ℕ). e.0) (first_entry (listed (i ∷ w)))
      by None at some = absurd (cc)
      by (Some a) at some = rw at refl

  pub parted : (r : Option P) → Lives (order_in o) → IsBound index generation B r o
      → IsParted r
  parted r lives bound =
      let s = split (order_in o) lives bound.low bound.high bound.is in
      record {
        low = s.front;
        high = s.back;
        is = s.is;
        below = at_indexes B s.front
            (subst (AllByRecursion (λ (e : ℕ × (ℕ × T)). B e.1.1)) (sym s.front_is)
            bound.all_before);
        above = at_indexes (λ t. B t → ⊥) s.back
            (subst (AllByRecursion (λ (e : ℕ × (ℕ × T)). B e.1.1 → ⊥)) (sym s.back_is)
            bound.none_before);
        first = first_index s.back
            (later (λ j. IsSome (entry_in o j)) s.front s.back (subst Lives s.is lives))
            ∙ ap (λ l. option_map (λ (e : ℕ × ℕ). e.0) (first_entry l)) s.back_is
            ∙ ap (option_map (λ (e : ℕ × ℕ). e.0)) (sym bound.first)
            ∙ indexes r;
      }
    where
      indexes : (q : Option P) → option_map (λ (e : ℕ × ℕ). e.0)
          (option_map {U = ℕ × ℕ} (λ p. (index p, generation p)) q) ≡ option_map index q
      indexes None = refl
      indexes (Some p) = refl

-- each index of the list is live
module _ {T : Type 0} (o : Ordered T) where
  lives_in : (b : Option ℕ) (w : List ℕ) → IsSegment (ends_in o.chains) b w None
      → AllByRecursion (λ j. IsSome (entry_in o j)) w
  lives_in b [] s = tt
  lives_in b (i ∷ w) s = (by (entry_at o.chains i) s.0, lives_in (Some i) w s.1)
    where
      by : (e : Option (ℕ × IndexLink (IndexNode T)))
          → option_map entry_ends e ≡ Some (b, first_or w None)
          → IsSome (option_map itemed (option_map valued e))
      by None is = absurd (cc)
      by (Some e) is = refl

  pub all_live : IsOrdered o → AllByRecursion (λ j. IsSome (entry_in o j)) (order_in o)
  all_live is = lives_in None (order_in o) is.linear

  pub once : IsOrdered o → Apart (order_in o)
  once is = linear_apart (ends_in o.chains) None (order_in o) is.linear

module _ {V : Type 0} where
  -- the key of a pair
  abbrev pub price_of : OrdPair ℕ V → ℕ
  price_of pair = pair.k

module _ {V : Type 0} where
  price_there : (o : Ordered (OrdPair ℕ V)) (price i : ℕ) → price_in o i ≡ Some price
      → IsSome (entry_in o i)
  price_there o price i = by (entry_in o i)
    where
      by : (e : Option (ℕ × OrdPair ℕ V))
          → option_map (λ (e : ℕ × OrdPair ℕ V). e.1.k) e ≡ Some price → IsSome e
      by None is = absurd (cc)
      by (Some e) is = refl

  -- the price of an entry
  price_is : (o : Ordered (OrdPair ℕ V)) (j price : ℕ) → price_in o j ≡ Some price
      → (e : ℕ × OrdPair ℕ V) × (entry_in o j ≡ Some e) × (e.1.k ≡ price)
  price_is o j price is = by (entry_in o j) refl
    where
      by : (a : Option (ℕ × OrdPair ℕ V)) → entry_in o j ≡ a
          → (e : ℕ × OrdPair ℕ V) × (entry_in o j ≡ Some e) × (e.1.k ≡ price)
      by None at = absurd
          (let never : None ≡ Some price = sym (ap (option_map (λ (e : ℕ × OrdPair ℕ V). e.1.k)) at)
          ∙ is in cc)
      by (Some e) at = (
        e,
        at,
        some_is e.1.k price (sym (ap (option_map (λ (e : ℕ × OrdPair ℕ V). e.1.k)) at) ∙ is),
      )

  -- what is said of entries, said of prices
  prices_in : (Q : OrdPair ℕ V → Type 0) (R : ℕ → Type 0) → ((t : OrdPair ℕ V) → Q t → R t.k)
      → (o : Ordered (OrdPair ℕ V)) (w : List ℕ)
      → AllByRecursion (λ j. (e : ℕ × OrdPair ℕ V) → entry_in o j ≡ Some e → Q e.1) w
      → AllPrices R o w
  prices_in Q R so o = weaker (λ j. (e : ℕ × OrdPair ℕ V) → entry_in o j ≡ Some e → Q e.1)
      (λ j. (price : ℕ) → price_in o j ≡ Some price → R price)
      (λ j all price is. let e = price_is o j price is in
      subst R e.2 (so e.0.1 (all e.0 e.1)))

  -- what was asked of each, said of prices
  asked_prices : (d : Ordering) (own : ℕ) (R : ℕ → Type 0)
      → ((other : ℕ) → nat_cmp own other ≢ d → R other)
      → (o : Ordered (OrdPair ℕ V)) (w : List ℕ)
      → AllByRecursion (λ j. asked_at nat_cmp price_of own o j ≢ d) w → AllPrices R o w
  asked_prices d own R so o = weaker (λ j. asked_at nat_cmp price_of own o j ≢ d)
      (λ j. (price : ℕ) → price_in o j ≡ Some price → R price)
      (λ j never price is. let e = price_is o j price is in
      subst R e.2 (so e.0.1.k (subst (λ z. asked_of nat_cmp price_of own z ≢ d) e.1 never)))

  -- and the other way round
  prices_asked : (d : Ordering) (own : ℕ) (R : ℕ → Type 0)
      → (d ≢ Equal) → ((other : ℕ) → R other → nat_cmp own other ≢ d)
      → (o : Ordered (OrdPair ℕ V)) (w : List ℕ) → AllPrices R o w
      → AllByRecursion (λ j. asked_at nat_cmp price_of own o j ≢ d) w
  prices_asked d own R turns so o = weaker (λ j. (price : ℕ) → price_in o j ≡ Some price → R price)
      (λ j. asked_at nat_cmp price_of own o j ≢ d)
      (λ j all. by (entry_in o j) all)
    where
      by : (a : Option (ℕ × OrdPair ℕ V))
          → ((price : ℕ) → option_map (λ (e : ℕ × OrdPair ℕ V). e.1.k) a ≡ Some price → R price)
          → asked_of nat_cmp price_of own a ≢ d
      by None all = λ same. turns (sym same)
      by (Some e) all = so e.1.k (all e.1.k refl)

  live_entry : (o : Ordered (OrdPair ℕ V)) (i : ℕ) → IsSome (entry_in o i)
      → (e : ℕ × OrdPair ℕ V) × (entry_in o i ≡ Some e)
  live_entry o i = by (entry_in o i) refl
    where
      by : (a : Option (ℕ × OrdPair ℕ V)) → entry_in o i ≡ a → IsSome a
          → (e : ℕ × OrdPair ℕ V) × (entry_in o i ≡ Some e)
      by None at some = absurd (cc)
      by (Some e) at some = (e, at)

-- what the order compares
above : (x y : ℕ) → ((nat_cmp x y ≢ Less) → ⊥) → x < y
above x y never = by (nat_cmp x y) refl
  where
    by : (d : Ordering) → nat_cmp x y ≡ d → x < y
    by Less is = ranked x y Less (sym is)
    by Equal is = absurd (never (λ e. let z : Less ≡ Equal = sym e ∙ is in cc))
    by Greater is = absurd (never (λ e. let z : Less ≡ Greater = sym e ∙ is in cc))

module _ {V P : Type 0} (index generation : P → ℕ)
    (o : Ordered (OrdPair ℕ V)) where
  module _ (price : ℕ) where
    abbrev NotAbove : OrdPair ℕ V → Type 0
    NotAbove t = nat_cmp price t.k ≢ Less

    behind : (r : Option P) (p : IsParted index generation NotAbove o r) (w : List ℕ) (i : ℕ)
        → w ≡ p.low ++ i ∷ p.high → IsBehind o price i (order_in o) w
    behind r p w i is = record {
      before = p.low;
      after = p.high;
      was = p.is;
      is = is;
      not_greater = prices_in NotAbove (λ other. other ≤ price)
          (λ t never. not_less price t.k never) o p.low p.below;
      greater = prices_in (λ t. NotAbove t → ⊥) (λ other. price < other)
          (λ t never. above price t.k never) o p.high p.above;
    }

    at_bound : IsOrdered o → (r : Option P) → IsBound index generation NotAbove r o
        → IsParted index generation NotAbove o r
    at_bound ordered r bound =
        parted index generation NotAbove o r (all_live o ordered) bound

    -- directly before the first with a greater price
    pub behind_next : IsOrdered o → (r : Option P)
        → IsBound index generation NotAbove r o → (next : P) → r ≡ Some next
        → (h : ℕ) → h ≡ index next → (w : List ℕ) (i : ℕ)
        → StandsAt (Some (h, Less)) (order_in o) w i
        → IsBehind o price i (order_in o) w
    behind_next ordered r bound next is h at w i s =
        let p = at_bound ordered r bound in
        let high = starts p.high (index next) (p.first ∙ ap (option_map index) is) in
        let here : order_in o ≡ p.low ++ h ∷ high.0 =
        p.is ∙ ap (λ l. p.low ++ l) high.1 ∙ ap (λ z. p.low ++ z ∷ high.0) (sym at) in
        let parts = parts_once s.before h s.after p.low high.0
        (subst Apart s.was (once o ordered)) (sym s.was ∙ here) in
        behind r p w i
        (s.is ∙ ap (λ l. l ++ i ∷ h ∷ s.after) parts.0 ∙ ap (λ l. p.low ++ i ∷ h ∷ l) parts.1
        ∙ ap (λ z. p.low ++ i ∷ z ∷ high.0) at ∙ ap (λ l. p.low ++ i ∷ l) (sym high.1))

    -- behind the last, where none has a greater price
    pub behind_last : IsOrdered o → (r : Option P)
        → IsBound index generation NotAbove r o → r ≡ None
        → (h : ℕ) → last_or None (order_in o) ≡ Some h → (w : List ℕ) (i : ℕ)
        → StandsAt (Some (h, Greater)) (order_in o) w i
        → IsBehind o price i (order_in o) w
    behind_last ordered r bound is h at w i s =
        let p = at_bound ordered r bound in
        let none = no_first p.high (p.first ∙ ap (option_map index) is) in
        let e = ends (order_in o) h at in
        let parts = parts_once s.before h s.after e.0 []
        (subst Apart s.was (once o ordered)) (sym s.was ∙ e.1) in
        let whole : s.before ++ h ∷ [] ≡ order_in o =
        ap (λ l. s.before ++ h ∷ l) (sym parts.1) ∙ sym s.was in
        let low : order_in o ≡ p.low =
        p.is ∙ ap (λ l. p.low ++ l) none ∙ append_none p.low in
        behind r p w i
        (s.is ∙ ap (λ l. s.before ++ h ∷ i ∷ l) parts.1 ∙ regroup s.before h i
        ∙ ap (λ l. l ++ i ∷ []) (whole ∙ low) ∙ ap (λ l. p.low ++ i ∷ l) (sym none))

    -- alone
    pub behind_none : IsOrdered o → (r : Option P)
        → IsBound index generation NotAbove r o
        → (w : List ℕ) (i : ℕ) → StandsAt None (order_in o) w i
        → IsBehind o price i (order_in o) w
    behind_none ordered r bound w i s =
        let p = at_bound ordered r bound in
        let none = none_left p.low p.high (sym p.is ∙ s.0) in
        behind r p w i
        (s.1 ∙ ap (λ l. l ++ i ∷ []) (sym none.0) ∙ ap (λ l. p.low ++ i ∷ l) (sym none.1))

    -- what that says of the keys
    pub not_less_before : (w : List ℕ) → AllPrices (λ other. other ≤ price) o w
        → NoneGreater nat_cmp price_of price o w
    not_less_before = prices_asked Less price (λ other. other ≤ price) (λ same. cc)
        (λ other most same. let less : price < other = ranked price other Less (sym same) in
        omega (arith, most, less)) o

    pub not_greater_behind : (w : List ℕ) → AllPrices (λ other. price < other) o w
        → NoneLess nat_cmp price_of price o w
    not_greater_behind = prices_asked Greater price (λ other. price < other) (λ same. cc)
        (λ other least same. let less : other < price = ranked price other Greater (sym same) in
        omega (arith, least, less)) o

  -- the first of the list
  pub best_ask_of : IsOrdered o → (r : Option P)
      → option_map index r ≡ first_or (order_in o) None
      → ((back : List ℕ) (i : ℕ) (entry : ℕ × OrdPair ℕ V) → order_in o ≡ i ∷ back
      → entry_in o i ≡ Some entry
      → NoneLess nat_cmp price_of entry.1.k o back)
      → IfSome r (λ p. IsBestAsk o (index p))
  best_ask_of ordered None at after = tt
  best_ask_of ordered (Some p) at after =
      let first = starts (order_in o) (index p) (sym at) in
      let e = live_entry o (index p)
      (subst (AllByRecursion (λ j. IsSome (entry_in o j))) first.1 (all_live o ordered)).0 in
      record {
        own = e.0.1.k;
        later = first.0;
        is = first.1;
        price = ap (option_map (λ (e : ℕ × OrdPair ℕ V). e.1.k)) e.1;
        least = asked_prices Greater e.0.1.k (λ other. e.0.1.k ≤ other)
            (λ other never. not_greater e.0.1.k other never) o first.0
            (after first.0 (index p) e.0 first.1 e.1);
      }

  -- the first of those with the price of the last
  pub record BestBid (r : Option P) : Type 0 where
    pub pointer : P
    pub is : r ≡ Some pointer
    pub best : IsBestBid o (index pointer)

  pub bid_if : (r : Option P) → BestBid r → IfSome r (λ p. IsBestBid o (index p))
  bid_if None bid = absurd (let z = bid.is in cc)
  bid_if (Some p) bid =
      subst (λ q. IsBestBid o (index q)) (some_is bid.pointer p (sym bid.is)) bid.best

  pub bid_unless : (r : Option P) → BestBid r → (Q : Type 0) → IfNone r Q
  bid_unless None bid Q = absurd (let z = bid.is in cc)
  bid_unless (Some p) bid Q = tt

  module _ (ordered : IsOrdered o) (last own : ℕ)
      (at : last_or None (order_in o) ≡ Some last) (price : price_in o last ≡ Some own)
      (before : (front back : List ℕ) (i : ℕ) (entry : ℕ × OrdPair ℕ V)
      → order_in o ≡ front ++ i ∷ back → entry_in o i ≡ Some entry
      → NoneGreater nat_cmp price_of entry.1.k o front) where
    abbrev Lower : OrdPair ℕ V → Type 0
    Lower t = nat_cmp own t.k ≡ Greater

    most : AllPrices (λ other. other ≤ own) o (order_in o)
    most =
        let e = ends (order_in o) last at in
        let entry = price_is o last own price in
        let front = asked_prices Less entry.0.1.k (λ other. other ≤ own)
        (λ other never. subst (λ z. other ≤ z) entry.2 (not_less entry.0.1.k other never)) o e.0
        (before e.0 [] last entry.0 e.1 entry.1) in
        subst (AllPrices (λ other. other ≤ own) o) (sym e.1)
        (joined (λ j. (other : ℕ) → price_in o j ≡ Some other → other ≤ own) e.0 (last ∷ []) front
        ((λ other there. omega (arith, some_is own other (sym price ∙ there))), tt))

    pub best_bid_of : (r : Option P) → IsBound index generation Lower r o → BestBid r
    best_bid_of r bound = by r p.high refl p.first
      where
        p : IsParted index generation Lower o r
        p = parted index generation Lower o r (all_live o ordered) bound

        less : AllPrices (λ other. other < own) o p.low
        less = prices_in Lower (λ other. other < own) (λ t is. ranked own t.k Greater (sym is)) o
            p.low p.below

        same : AllPrices (λ other. other ≡ own) o p.high
        same = both_in (λ j. (other : ℕ) → price_in o j ≡ Some other → own ≤ other)
            (λ j. (other : ℕ) → price_in o j ≡ Some other → other ≤ own)
            (λ j. (other : ℕ) → price_in o j ≡ Some other → other ≡ own)
            (λ j low high other there. omega (arith, low other there, high other there)) p.high
            (prices_in (λ t. Lower t → ⊥) (λ other. own ≤ other)
            (λ t never. not_greater own t.k never) o p.high p.above)
            (later (λ j. (other : ℕ) → price_in o j ≡ Some other → other ≤ own) p.low p.high
            (subst (AllPrices (λ other. other ≤ own) o) p.is most))

        lives : AllByRecursion (λ j. IsSome (entry_in o j)) p.high
        lives = later (λ j. IsSome (entry_in o j)) p.low p.high
            (subst (AllByRecursion (λ j. IsSome (entry_in o j))) p.is (all_live o ordered))

        by : (q : Option P) (w : List ℕ) → p.high ≡ w → first_or p.high None ≡ option_map index q
            → BestBid q
        by q [] none first =
            let low : order_in o ≡ p.low =
            p.is ∙ ap (λ l. p.low ++ l) none ∙ append_none p.low in
            let e = ends (order_in o) last at in
            let here =
            at_of (λ j. (other : ℕ) → price_in o j ≡ Some other → other < own) e.0 last []
            (subst (AllPrices (λ other. other < own) o) (sym low ∙ e.1) less) own price in
            absurd (omega (arith, here))
        by None (h ∷ w) some first =
            absurd (let never : Some h ≡ None = sym (ap (λ l. first_or l None) some) ∙ first in cc)
        by (Some q) (h ∷ w) some first =
            let at : h ≡ index q =
            some_is h (index q) (sym (ap (λ l. first_or l None) some) ∙ first) in
            let split : p.high ≡ index q ∷ w = some ∙ ap (λ z. z ∷ w) at in
            let all = subst (AllPrices (λ other. other ≡ own) o) split same in
            let e = live_entry o (index q)
            (subst (AllByRecursion (λ j. IsSome (entry_in o j))) split lives).0 in
            let price : price_in o (index q) ≡ Some e.0.1.k =
            ap (option_map (λ (e : ℕ × OrdPair ℕ V). e.1.k)) e.1 in
            record {
              pointer = q;
              is = refl;
              best = record {
                own = own;
                lesser = p.low;
                later = w;
                is = p.is ∙ ap (λ l. p.low ++ l) split;
                price = price ∙ ap Some (all.0 e.0.1.k price);
                less = less;
                same = all.1;
              };
            }

  -- what a step leaves of a walk
  pub stepped : (before after : OrderedWalk) (given : Option P) (i : ℕ) (rest : List ℕ)
      → OrderedSteps o before (option_map (λ p. (index p, generation p)) given) after
      → left_over o before ≡ i ∷ rest → left_over o after ≡ rest
  stepped before after None i rest over is =
      absurd (let none : i ∷ rest ≡ [] = sym is ∙ over.left in cc)
  stepped before after (Some p) i rest given is =
      sym (tail_is i (index p) rest (left_over o after) (sym is ∙ given.left))

  -- what the step after that of an order gives
  pub next_given : (Valid : Type 0) → (front back : List ℕ) (i : ℕ)
      → order_in o ≡ front ++ i ∷ back
      → (before after : OrderedWalk) (given : Option P)
      → OrderedSteps o before (option_map (λ p. (index p, generation p)) given) after
      → left_over o before ≡ back
      → IfSome given (λ q. IsNext o i (index q)) × IfNone given (Valid → IsLast o i)
  next_given Valid front back i is before after None over left = (
    tt,
    λ valid. record {
      before = front;
      is = is ∙ ap (λ l. front ++ i ∷ l) (sym left ∙ over.left);
    },
  )
  next_given Valid front back i is before after (Some q) given left = (
    record {
      before = front;
      after = left_over o after;
      is = is ∙ ap (λ l. front ++ i ∷ l) (sym left ∙ given.left);
    },
    tt,
  )

-- what holds where there is an answer
pub where_some : {A B Q : Type 0} (f : A → B) (o : Option A) (b : B) → option_map f o ≡ Some b
    → OnSome o Q → Q
where_some f None b is holds = absurd (cc)
where_some f (Some a) b is holds = holds
