-- Going over the indexes of an arena.
use Rattle.std.specs.Prelude.{◌≡◌, ℕ, zero, suc, ◌+◌, ◌-◌, ◌<◌, ◌≤◌, ◌&&◌, List, [], ◌∷◌, map}
use Rattle.std.specs.Prelude.{filter, reverse, Bool, true, false, Option, Some, None, IsSome}
use Rattle.std.specs.Prelude.{if◌then◌else◌, nat_le}
use Rattle.triple_arena.specs.Compression.{pointer_of}
use Rattle.triple_arena.specs.Entries.{generation_at, IsOneOf}

-- the indexes that are left to look at, from the lowest to the highest: from the lowest on, rising,
-- or from the highest on, falling
pub record Walk : Type 0 where
  pub low : ℕ
  pub high : ℕ
  pub falls : Bool

-- the walk over the indexes from one past the first of these up to the second
abbrev pub walk_over : ℕ → ℕ → Bool → Walk
walk_over start end falls = record { low = start + 1; high = end; falls = falls }

-- an index is left to look at
abbrev pub IsAhead : Walk → ℕ → Type 0
IsAhead w j = (w.low ≤ j) × (j ≤ w.high)

-- a walk goes over all of these entries, rising
abbrev pub GoesOverAll : {T : Type 0} → Walk → (ℕ → Option (ℕ × T)) → Type 0
GoesOverAll w entries
    = (w.falls ≡ false) × (w.low ≡ 1) × ((j : ℕ) → IsSome (entries j) → j ≤ w.high)

-- no index is left
abbrev pub IsOver : Walk → Type 0
IsOver w = w.high < w.low

-- what is known of the items to come: there are none once the walk is over
abbrev pub to_come : {X : Type 0} → Walk → Option (List X)
to_come w = if nat_le w.low w.high then None else Some []

-- an index comes before another, falling or rising
abbrev pub ComesBefore : Bool → ℕ → ℕ → Type 0
ComesBefore true j i = i < j
ComesBefore false j i = j < i

-- the walk that has passed an index
abbrev pub past : Walk → ℕ → Walk
past w i = by_direction w.falls
  where
    by_direction : Bool → Walk
    by_direction true = record w { high = i - 1 }
    by_direction false = record w { low = i + 1 }

module _ {T : Type 0} where
  -- the first live index of those ahead, with this generation
  pub record IsFirstLive (entries : ℕ → Option (ℕ × T)) (w : Walk) (i g : ℕ) : Type 0 where
    pub ahead : IsAhead w i
    pub live : generation_at entries i ≡ Some g
    pub first : (j : ℕ) → IsAhead w j → ComesBefore w.falls j i → entries j ≡ None

  -- the first live index of those ahead and its generation, or nothing where none of them is live
  abbrev pub FindsAhead : (ℕ → Option (ℕ × T)) → Walk → Option (ℕ × ℕ) → Type 0
  FindsAhead entries w None = (j : ℕ) → IsAhead w j → entries j ≡ None
  FindsAhead entries w (Some p) = IsFirstLive entries w p.0 p.1

  -- a step over these entries gives the first live index ahead and passes it, or gives nothing and
  -- ends the walk
  abbrev pub Steps : (ℕ → Option (ℕ × T)) → Walk → Option (ℕ × ℕ) → Walk → Type 0
  Steps entries before None after = FindsAhead entries before None × IsOver after
  Steps entries before (Some p) after = IsFirstLive entries before p.0 p.1
      × (after ≡ past before p.0)

-- what so many steps give of the items to come: one each, and then nothing
abbrev pub given_by : {X : Type 0} → ℕ → List X → List (Option X)
given_by zero items = []
given_by (suc n) [] = None ∷ given_by n []
given_by (suc n) (x ∷ items) = Some x ∷ given_by n items

-- of these pointers, each comes before all those behind it, falling or rising
abbrev pub GoInOrder : Bool → List (ℕ × ℕ) → Type 0
GoInOrder falls [] = Unit {0}
GoInOrder falls (p ∷ later) = ((q : ℕ × ℕ) → IsOneOf later q → ComesBefore falls p.0 q.0)
    × GoInOrder falls later

module _ {T : Type 0} where
  -- the pointers of the listed entries at the indexes that are left to look at, rising
  abbrev pub pointers_within : Walk → List (ℕ × (ℕ × T)) → List (ℕ × ℕ)
  pointers_within w listed
      = map pointer_of (filter (λ entry. nat_le w.low entry.0 && nat_le entry.0 w.high) listed)

  -- the same in the order in which the walk goes
  abbrev pub pointers_ahead : Walk → List (ℕ × (ℕ × T)) → List (ℕ × ℕ)
  pointers_ahead w listed
      = if w.falls then reverse (pointers_within w listed) else pointers_within w listed
