-- What an iterator that lends values for writing has left, and what is left of the arena.
use Rattle.std.specs.Prelude.{ℕ, List, map, Option, Some, None}
use Rattle.std.specs.Option.{option_map}
use base.Fml.{Fml, GName}
use denote.Follow.{follows}
use denote.RattleType.{RattleType}
use Rattle.triple_arena.specs.LentSlots.{refilled}
use Rattle.triple_arena.specs.Content.{Content}
use Rattle.triple_arena.specs.DirectContent.{DirectContent}
use Rattle.triple_arena.specs.Entries.{value_in}
use Rattle.triple_arena.specs.LiveEntries.{listed_from}

module _ {T : Type 0} where
  -- the entry, if it is one, with another value
  abbrev pub with_entry_value : Option (ℕ × T) → T → Option (ℕ × T)
  with_entry_value entry t = option_map (λ (e : ℕ × T). (e.0, t)) entry

  -- the value at each index, from index 1 on, or nothing where it is free
  abbrev pub values_at : Content T → List (Option T)
  values_at c = map value_in c.slots

  -- the content with the values that were written, where one was and the index is live
  abbrev pub with_values : Content T → List (Option T) → Content T
  with_values c ws = record c { slots = refilled with_entry_value c.slots ws }

  -- the content with the values of another one, where both have one
  abbrev pub with_values_of : Content T → Content T → Content T
  with_values_of c other = with_values c (values_at other)

  -- an entry for each value
  abbrev pub entry_for : Option T → Option (ℕ × T)
  entry_for = option_map (λ (t : T). (0, t))

  -- a content with these values
  abbrev pub holding : Content T → List (Option T) → Content T
  holding c ws = record c { slots = map entry_for ws }

  -- the value at each index of a direct arena, from index 1 on, or nothing where it is free
  abbrev pub direct_values_at : DirectContent T → List (Option T)
  direct_values_at d = map value_in d.slots

  -- a direct arena's content with the values that were written, where one was
  abbrev pub with_direct_values : DirectContent T → List (Option T) → DirectContent T
  with_direct_values d ws = record d { slots = refilled with_entry_value d.slots ws }

  -- a direct arena's content with the values of another one, where both have one
  abbrev pub with_direct_values_of : DirectContent T → DirectContent T → DirectContent T
  with_direct_values_of d other = with_direct_values d (direct_values_at other)

  -- a direct arena's content with these values
  abbrev pub direct_holding : DirectContent T → List (Option T) → DirectContent T
  direct_holding d ws = record d { slots = map entry_for ws }

-- what is lent under a name ends as the lender with the values that are written through it
abbrev pub follows_values : (R : RattleType) → GName → GName → (R.Denot → R.Denot) → Fml
follows_values R lender lent with = follows R R lender lent with

-- the items that an iterator has left, and the name of their loan
module _ {X : Type 0} where
  abbrev pub rest : List X × GName → List X
  rest s = s.0

  abbrev pub name : List X × GName → GName
  name s = s.1

module _ {T : Type 0} where
  -- a key and a value, if both are there
  abbrev pub keyed : Option ℕ → Option T → Option (ℕ × T)
  keyed None v = None
  keyed (Some k) None = None
  keyed (Some k) (Some t) = Some (k, t)

  -- what slots from this index on hold, by their keys and their values
  abbrev pub entries_of : {E : Type 0} → (E → Option ℕ) → (E → Option T) → ℕ → List E
      → List (ℕ × (ℕ × T))
  entries_of key held n es = listed_from n (map (λ e. keyed (key e) (held e)) es)
