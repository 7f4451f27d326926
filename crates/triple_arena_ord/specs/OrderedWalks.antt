-- The ends of the list, and walks along it.
use Rattle.std.specs.Prelude.{◌≡◌, ◌↔◌, ◌==◌, if◌then◌else◌, ℕ, Bool, List, [], ◌∷◌, ◌++◌, reverse}
use Rattle.std.specs.Prelude.{Option, Some, None, IfSome}
use Rattle.std.specs.Borrow.{Bor}
use Rattle.std.specs.Option.{option_map}
use Rattle.triple_arena.specs.Entries.{generation_at}
use Rattle.triple_arena.specs.Steps.{Finds}
use Rattle.linked_lists.specs.LinkedLists.{first_or}
use Rattle.triple_arena_chain.specs.LinkShape.{IndexLink}
use Rattle.triple_arena_ord.specs.Ordered.{Ordered, order_in, entry_in, entries_at, size_in}

-- the index that a walk gives next, if there is one, and whether it goes backward
pub record OrderedWalk : Type 0 where
  pub at : Option ℕ
  pub back : Bool

-- the walk that begins at an index
abbrev pub walk_at : ℕ → Bool → OrderedWalk
walk_at i back = record { at = Some i; back = back }

-- a list from an index on, if it stands there
abbrev pub from_index : List ℕ → ℕ → List ℕ
from_index [] i = []
from_index (x ∷ xs) i = if x == i then x ∷ xs else from_index xs i

abbrev pub from_where : List ℕ → Option ℕ → List ℕ
from_where w None = []
from_where w (Some i) = from_index w i

-- a list as a walk goes along it
abbrev pub along : Bool → List ℕ → List ℕ
along back w = if back then reverse w else w

-- an index of a list, before those that follow it, or with `back` before those that precede it
pub record IsFrom (w : List ℕ) (i : ℕ) (back : Bool) (left : List ℕ) : Type 0 where
  pub before : List ℕ
  pub after : List ℕ
  pub is : w ≡ before ++ i ∷ after
  pub left_is : left ≡ i ∷ (if back then reverse before else after)

module _ {T : Type 0} where
  -- a link with the value that it lends
  abbrev pub read_link : IndexLink (Bor T) → IndexLink T
  read_link link = record { prev = link.prev; next = link.next; t = link.t.now }

  module _ {P : Type 0} (index generation : P → ℕ) where
    -- the pointer to the entry at an end of the list, exactly where there is an entry
    pub record IsEnd (end : Option ℕ) (result : Option P) (o : Ordered T) : Type 0 where
      pub at : option_map index result ≡ end
      pub live : IfSome result (λ p. Finds entry_in o (index p, generation p))
      pub none : (result ≡ None) ↔ (size_in o ≡ 0)

  -- the indexes that are left to a walk over an arena that stays: a loop over them is measured by
  -- their number
  abbrev pub left_over : Ordered T → OrderedWalk → List ℕ
  left_over o w = from_where (along w.back (order_in o)) w.at

  -- the entries that are left to it
  abbrev pub entries_left : Ordered T → OrderedWalk → List (ℕ × (ℕ × T))
  entries_left o w = entries_at o (left_over o w)

  -- a step gives the entry where the walk is, and notes the index that comes next
  pub record IsGiven (i g : ℕ) (o : Ordered T) (before after : OrderedWalk) : Type 0 where
    pub at : before.at ≡ Some i
    pub live : generation_at (entry_in o) i ≡ Some g
    pub left : left_over o before ≡ i ∷ left_over o after
    pub next : after.at ≡ first_or (left_over o after) None
    pub same : after.back ≡ before.back

  -- a step where no entry lives ends the walk
  pub record IsOver (o : Ordered T) (before after : OrderedWalk) : Type 0 where
    pub vacant : IfSome before.at (λ i. entry_in o i ≡ None)
    pub left : left_over o before ≡ []
    pub ended : after.at ≡ None
    pub same : after.back ≡ before.back

  abbrev pub OrderedSteps : Ordered T → OrderedWalk → Option (ℕ × ℕ) → OrderedWalk → Type 0
  OrderedSteps o before None after = IsOver o before after
  OrderedSteps o before (Some p) after = IsGiven p.0 p.1 o before after
