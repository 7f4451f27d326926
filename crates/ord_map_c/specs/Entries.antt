-- The entries of an ordered map, as a list in the order of their keys.
use Rattle.std.specs.Prelude.{ℕ, ◌<◌, ◌==◌, List, [], ◌∷◌, Option, Some, None, if◌then◌else◌}
use Rattle.std.specs.Prelude.{filter, find, not, nat_lt, nat_le}
use Rattle.std.specs.List.{AllByRecursion}
use Rattle.triple_arena_ord.specs.declared.pair.OrdPair.{OrdPair}

-- a key and a value
abbrev pub Pair : Type 0
Pair = OrdPair ℕ ℕ

-- an index, a generation, and the key with the value that stands there
abbrev pub Entry : Type 0
Entry = ℕ × (ℕ × Pair)

abbrev pub pair : ℕ → ℕ → Pair
pair key value = record { k = key; v = value }

abbrev pub entry : ℕ → ℕ → ℕ → ℕ → Entry
entry index generation key value = (index, (generation, pair key value))

-- the handle of an entry
abbrev pub pointer_of : Entry → ℕ × ℕ
pointer_of e = (e.0, e.1.0)

abbrev pub key_of : Entry → ℕ
key_of e = e.1.1.k

abbrev pub value_of : Entry → ℕ
value_of e = e.1.1.v

-- each key is below those behind it
abbrev pub KeysRise : List Entry → Type 0
KeysRise [] = Unit {0}
KeysRise (e ∷ l) = AllByRecursion (λ (f : Entry). key_of e < key_of f) l × KeysRise l

-- the entry with this key
abbrev pub with_key : List Entry → ℕ → Option Entry
with_key l key = find (λ (e : Entry). key_of e == key) l

-- the entries whose keys are not below this one, those whose keys are above it, and those whose
-- keys are below it
abbrev pub from_key : List Entry → ℕ → List Entry
from_key l key = filter (λ (e : Entry). nat_le key (key_of e)) l

abbrev pub past_key : List Entry → ℕ → List Entry
past_key l key = filter (λ (e : Entry). nat_lt key (key_of e)) l

abbrev pub below_key : List Entry → ℕ → List Entry
below_key l key = filter (λ (e : Entry). nat_lt (key_of e) key) l

-- the first and the last of these entries
abbrev pub first_of : List Entry → Option Entry
first_of [] = None
first_of (e ∷ l) = Some e

abbrev pub last_of : List Entry → Option Entry
last_of [] = None
last_of (e ∷ l) = behind e l
  where
    behind : Entry → List Entry → Option Entry
    behind e [] = Some e
    behind e (f ∷ l) = behind f l

-- the entries with this one, at the place of its key, or instead of the one with its key
abbrev pub put_in : List Entry → Entry → List Entry
put_in [] e = e ∷ []
put_in (x ∷ l) e =
    if nat_lt (key_of e) (key_of x) then e ∷ x ∷ l
    else if key_of e == key_of x then e ∷ l
    else x ∷ put_in l e

-- the entries but the one with this key
abbrev pub without_key : List Entry → ℕ → List Entry
without_key l key = filter (λ (e : Entry). not (key_of e == key)) l

-- the handle of the first of these entries, or zeros if there is none
abbrev pub place_of : List Entry → ℕ × ℕ
place_of [] = (0, 0)
place_of (e ∷ l) = pointer_of e
