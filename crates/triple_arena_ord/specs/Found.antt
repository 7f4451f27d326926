-- What the searches answer, by pointers. `f` is the way that a search takes at each index.
use Rattle.std.specs.Prelude.{◌≡◌, ◌≢◌, ◌↔◌, ℕ, Option, Some, None, IsSome, IfSome}
use Rattle.std.specs.Borrow.{Bor}
use Rattle.std.specs.Option.{option_map}
use Rattle.std.specs.declared.cmp.Ordering.{Ordering}
use Rattle.std.specs.declared.cmp.Ordering.TheVariants.{Equal}
use Rattle.triple_arena.specs.Entries.{value_if}
use Rattle.triple_arena.specs.Steps.{Finds}
use Rattle.rank_tree.specs.Search.{EndsAt, IsParted}
use Rattle.triple_arena_ord.specs.Asked.{AnswersBy, answer_at}
use Rattle.triple_arena_ord.specs.Ordered.{Ordered, IsAscending, order_in, entry_in, size_in}
use Rattle.triple_arena_ord.specs.Ordered.{asked_at}

-- where a search ended with its last answer, by the numbers of indexes or of pointers
abbrev pub place_by : {I : Type 0} → (I → ℕ) → Option (I × Ordering) → Option (ℕ × Ordering)
place_by number place = option_map (λ a. (number a.0, a.1)) place

-- if there is a place, an entry lives there
abbrev pub IsLivePlace : {I T : Type 0} → (I → ℕ) → Ordered T → Option (I × Ordering) → Type 0
IsLivePlace number o place = IfSome place (λ a. IsSome (entry_in o (number a.0)))

module _ {T P : Type 0} (index generation : P → ℕ) where
  -- the item of the entry that a pointer finds
  abbrev pub item_found : Ordered T → P → Option T
  item_found o p = value_if (generation p) (entry_in o (index p))

  -- `p` points to an entry, and this is the way there
  pub record Answers (f : ℕ → Ordering) (o : Ordered T) (p : P) (d : Ordering) : Type 0 where
    pub live : Finds entry_in o (index p, generation p)
    pub way : f (index p) ≡ d

  -- an entry that ends the search; in a list that is parted, exactly where there is one
  pub record IsFound (f : ℕ → Ordering) (parted : Type 0) (result : Option P) (o : Ordered T)
      : Type 0 where
    pub some : (p : P) → result ≡ Some p → Answers f o p Equal
    pub none : parted → result ≡ None → (i : ℕ) → IsSome (entry_in o i) → f i ≢ Equal

  -- an entry and the way there, exactly where there are entries; in a list that is parted, one that
  -- ends the search, or a neighbor of the gap
  pub record IsSimilar (f : ℕ → Ordering) (parted : Type 0)
      (result : Option (P × Ordering)) (o : Ordered T) : Type 0 where
    pub none : (result ≡ None) ↔ (size_in o ≡ 0)
    pub some : (p : P) (d : Ordering) → result ≡ Some (p, d) → Answers f o p d
    pub places : parted → (p : P) (d : Ordering) → result ≡ Some (p, d)
        → EndsAt f (order_in o) (index p) d

  module _ {K : Type 0} (cmp : K → K → Ordering) (key : T → K) where
    -- an entry with an equal key; where the keys ascend, exactly where there is one
    abbrev pub IsFoundByKey : K → Option P → Ordered T → Type 0
    IsFoundByKey k result o = IsFound (asked_at cmp key k o) (IsAscending cmp key o) result o

    -- an entry and how the key compares there; where the keys ascend, one with an equal key, or one
    -- beside which the key belongs
    abbrev pub IsSimilarByKey : K → Option (P × Ordering) → Ordered T → Type 0
    IsSimilarByKey k result o = IsSimilar (asked_at cmp key k o) (IsAscending cmp key o) result o

  module _ {F : Type 0} (step : F → P → Bor T → Ordering → F → Type 0) where
    -- an entry at which a closure ends the search, if its answers depend on pointer and item alone;
    -- where they part the list, exactly where there is one
    abbrev pub IsFoundByAnswers : F → Option P → Ordered T → Type 0
    IsFoundByAnswers f result o = (side : ℕ → ℕ × T → Ordering)
        → AnswersBy index generation step f side
        → IsFound (answer_at side o) (IsParted (answer_at side o) (order_in o)) result o

    -- an entry and the answer there, in the same way; where the answers part the list, one that
    -- ends the search, or a neighbor of the gap
    abbrev pub IsSimilarByAnswers : F → Option (P × Ordering) → Ordered T → Type 0
    IsSimilarByAnswers f result o = (side : ℕ → ℕ × T → Ordering)
        → AnswersBy index generation step f side
        → IsSimilar (answer_at side o) (IsParted (answer_at side o) (order_in o)) result o
