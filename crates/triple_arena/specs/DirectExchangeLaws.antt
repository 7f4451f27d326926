-- What an exchange of two values of a direct arena changes and keeps.
use Rattle.std.proofs.Common.{◌≡◌, ◌≢◌, ℕ, zero, suc, ◌-◌, length, get_or, set, Some, None, IsSome}
use Rattle.std.proofs.Common.{is_some, ap, sym, ◌∙◌, arith}
use Rattle.std.proofs.lemmas.List.{set-get_or}
use Rattle.triple_arena_stack.specs.Room.{capacity}
use Rattle.triple_arena.specs.Entries.{with_values_exchanged}
use Rattle.triple_arena.specs.Content.{with_value as with_value_of}
use Rattle.triple_arena.specs.ContentLaws.{live_entry}
use Rattle.triple_arena.specs.ExchangeLaws.{exchange-is as exchange-is_of}
use Rattle.triple_arena.specs.ExchangeLaws.{entry-with_exchange as entry-with_exchange_of}
use Rattle.triple_arena.specs.ExchangeLaws.{live-with_exchange as live-with_exchange_of}
use Rattle.triple_arena.specs.ExchangeLaws.{slots-with_exchange as slots-with_exchange_of}
use Rattle.triple_arena.specs.ExchangeLaws.{room-with_exchange as room-with_exchange_of}
use Rattle.triple_arena.specs.DirectContent.{DirectContent, as_content, of_content, entry_at}
use Rattle.triple_arena.specs.DirectContent.{live_count, with_value, with_exchange, IsWellFormed}
use Rattle.triple_arena.specs.DirectLaws.{content-with_value}

module _ {T : Type 0} where
  -- an exchange is a write at each index
  pub exchange-is : (d : DirectContent T) (i j : ℕ) (x y : ℕ × T) → entry_at d i ≡ Some x
      → entry_at d j ≡ Some y
      → with_exchange d i j ≡ with_value (with_value d i y.1) j x.1
  exchange-is d i j x y at_i at_j =
      ap of_content (exchange-is_of (as_content d) i j x y at_i at_j)
      ∙ ap (λ c. of_content (with_value_of c j x.1)) (sym (content-with_value d i y.1))

  -- the value at an index, written there, changes nothing
  value-rewritten : (d : DirectContent T) (i : ℕ) (x : ℕ × T) → entry_at d i ≡ Some x
      → with_value d i x.1 ≡ d
  value-rewritten d i x at_i =
      let l = live_entry (as_content d) i (ap is_some at_i) in
      let read : get_or d.slots (i - 1) None ≡ Some x = l.read ∙ sym l.is ∙ at_i in
      let same : set d.slots (i - 1) (Some x) ≡ d.slots =
      ap (set d.slots (i - 1)) (sym read) ∙ set-get_or d.slots (i - 1) None in
      rw at_i (ap (λ s. record d { slots = s }) same)

  -- nor does the exchange of a value with itself
  pub one_exchanged : (d : DirectContent T) (i j : ℕ) → i ≡ j → IsSome (entry_at d i)
      → d ≡ with_exchange d i j
  one_exchanged d i j same some =
      let l = live_entry (as_content d) i some in
      let x = l.entry in
      let whole : with_exchange d i i ≡ d = exchange-is d i i x x l.is l.is
      ∙ ap (λ e. with_value e i x.1) (value-rewritten d i x l.is)
      ∙ value-rewritten d i x l.is in
      rw (← same) (sym whole)

  -- the values at two indexes change places
  pub entry-with_exchange : (d : DirectContent T) (i j : ℕ) → IsSome (entry_at d i)
      → IsSome (entry_at d j) → i ≢ j → (k : ℕ)
      → entry_at (with_exchange d i j) k ≡ with_values_exchanged (entry_at d) i j k
  entry-with_exchange d i j first second two zero
      = entry-with_exchange_of (as_content d) i j first second two zero
  entry-with_exchange d i j first second two (suc k)
      = entry-with_exchange_of (as_content d) i j first second two (suc k)

  pub live-with_exchange : (d : DirectContent T) (i j : ℕ)
      → live_count (with_exchange d i j) ≡ live_count d
  live-with_exchange d i j = live-with_exchange_of (as_content d) i j

  pub slots-with_exchange : (d : DirectContent T) (i j : ℕ)
      → length (with_exchange d i j).slots ≡ length d.slots
  slots-with_exchange d i j = slots-with_exchange_of (as_content d) i j

  pub room-with_exchange : (d : DirectContent T) (i j : ℕ) → (with_exchange d i j).room ≡ d.room
  room-with_exchange d i j = room-with_exchange_of (as_content d) i j

  pub formed-with_exchange : (d : DirectContent T) (i j : ℕ) → IsWellFormed d
      → IsWellFormed (with_exchange d i j)
  formed-with_exchange d i j formed =
      let same = slots-with_exchange d i j in
      let room = ap capacity (room-with_exchange d i j) in
      omega (arith, same, room, formed)

-- what an exchange changes and keeps
pub ruleset direct_exchanges
    = (
      formed-with_exchange,
      entry-with_exchange,
      live-with_exchange,
      slots-with_exchange,
      room-with_exchange,
    )
