-- How many comparisons a search makes, and how many of them and of looks a command may take.
use Rattle.std.specs.Prelude.{◌≡◌, ℕ, suc, ◌+◌, ◌-◌, ◌*◌, ◌≤◌, ◌==◌, ◌&&◌, ◌||◌}
use Rattle.std.specs.Prelude.{Bool, List, [], ◌∷◌, Option, Some, None, Result, Ok, Err}
use Rattle.std.specs.Prelude.{if◌then◌else◌, length, nat_lt}
use Rattle.rank_tree.specs.Comparisons.{most_comparisons}
use Rattle.route_lines.specs.Calls.{place_holder, placed, placed_near, stop_holder}
use Rattle.route_lines.specs.State.{State, Place as Spot, stop_list}
use Rattle.route_lines.specs.declared.command.Command.{Command}
use Rattle.route_lines.specs.declared.command.Command.TheVariants.{Place, Word, Show, Find}
use Rattle.route_lines.specs.declared.command.Command.TheVariants.{Floor, After, Before, Remove}
use Rattle.route_lines.specs.declared.command.Command.TheVariants.{Start, Extend, Join, Cut, Swap}
use Rattle.route_lines.specs.declared.command.Command.TheVariants.{Walk, Mark, Pack}
use Rattle.route_lines.specs.declared.counts.Counts.{Counts}
use Rattle.route_lines.specs.declared.refusal.Refusal.{Refusal}

-- how many entries a search by key, and one by ticket, goes over
abbrev pub place_count : State → ℕ
place_count s = length s.places

abbrev pub living_count : State → ℕ
living_count s = length s.places + length (stop_list s.routes) + length s.marks

-- the greatest number of comparisons of a search by ticket: none if the ticket was never given
abbrev pub most_for : State → ℕ → ℕ
most_for s ticket =
    if (ticket == 0) || nat_lt s.last ticket then 0 else most_comparisons (living_count s)

-- the same behind a test: none if that refuses
abbrev pub most_behind : {X : Type 0} → Result X Refusal → ℕ → ℕ
most_behind (Ok x) most = most
most_behind (Err refusal) most = 0

-- how many places stand before the first one of a kind
abbrev pub places_before : (Spot → Bool) → List Spot → ℕ
places_before is [] = 0
places_before is (p ∷ places) = if is p then 0 else suc (places_before is places)

-- two positions in the list are less than 7 steps apart
abbrev pub is_near : ℕ → ℕ → Bool
is_near i j = nat_lt i (j + 7) && nat_lt j (i + 7)

-- near a position are the last place whose key is not above this one and the first whose key is,
-- each if there is one: those on both sides of the gap where a new place with the key stands
abbrev pub is_at_hand : ℕ → List Spot → ℕ → Bool
is_at_hand key places i =
    let up_to = places_before (λ p. nat_lt key p.key) places in
    ((up_to == 0) || is_near i (up_to - 1)) && ((up_to == length places) || is_near i up_to)

-- the greatest number of comparisons with keys of a search that begins at the place with a ticket
abbrev pub most_from : List Spot → ℕ → ℕ → ℕ
most_from places key near =
    if is_at_hand key places (places_before (λ p. p.ticket == near) places) then 7
    else most_comparisons (length places) + 7

-- the same of a hint: none if the new place is refused, and so if no living place has the ticket
abbrev pub most_near : State → ℕ → ℕ → ℕ
most_near s key near = most_behind (placed_near s near) (most_from s.places key near)

-- from the old counts on at most so many comparisons with keys, with first and with second tickets
pub record ComparesWithin (old new : Counts) (keys firsts seconds : ℕ) : Type 0 where
  pub key_rises : old.key ≤ new.key
  pub first_rises : old.first ≤ new.first
  pub second_rises : old.second ≤ new.second
  pub key : new.key ≤ old.key + keys
  pub first : new.first ≤ old.first + firsts
  pub second : new.second ≤ old.second + seconds

-- the same of a call that makes no look
pub record CountsWithin (old new : Counts) (keys firsts seconds : ℕ) : Type 0 where
  pub key_rises : old.key ≤ new.key
  pub first_rises : old.first ≤ new.first
  pub second_rises : old.second ≤ new.second
  pub key : new.key ≤ old.key + keys
  pub first : new.first ≤ old.first + firsts
  pub second : new.second ≤ old.second + seconds
  pub looks : new.looks ≡ old.looks

-- the greatest number of comparisons with keys that a command may take: what names no key makes
-- none
abbrev pub most_keys : State → Option Command → ℕ
most_keys s (Some (Place key word None)) =
    most_behind (placed s) (most_comparisons (place_count s))
most_keys s (Some (Place key word (Some near))) = most_near s key near
most_keys s (Some (Find key)) = most_comparisons (place_count s)
most_keys s (Some (Floor key)) = most_comparisons (place_count s)
most_keys s command = 0

-- with first tickets
abbrev pub most_firsts : State → Option Command → ℕ
most_firsts s (Some (Place key word (Some near))) = most_for s near
most_firsts s (Some (Word ticket word)) = most_for s ticket
most_firsts s (Some (Show ticket)) = most_for s ticket
most_firsts s (Some (After ticket)) = most_for s ticket
most_firsts s (Some (Before ticket)) = most_for s ticket
most_firsts s (Some (Remove ticket)) = most_for s ticket
most_firsts s (Some (Start place)) = most_for s place
most_firsts s (Some (Extend stop place)) = most_for s stop
most_firsts s (Some (Join stop next)) = most_for s stop
most_firsts s (Some (Cut stop)) = most_for s stop
most_firsts s (Some (Swap stop other)) = most_for s stop
most_firsts s (Some (Walk stop)) = most_for s stop
most_firsts s (Some (Mark place stop)) = most_for s place
most_firsts s command = 0

-- and with second tickets, which are searched for if the first is not refused
abbrev pub most_seconds : State → Option Command → ℕ
most_seconds s (Some (Extend stop place)) = most_behind (stop_holder s stop) (most_for s place)
most_seconds s (Some (Join stop next)) = most_behind (stop_holder s stop) (most_for s next)
most_seconds s (Some (Swap stop other)) = most_behind (stop_holder s stop) (most_for s other)
most_seconds s (Some (Mark place stop)) = most_behind (place_holder s place) (most_for s stop)
most_seconds s command = 0

-- from the old counts on at most what this command may take in this state
abbrev pub CountsFor : State → Option Command → Counts → Counts → Type 0
CountsFor s command old new =
    ComparesWithin old new (most_keys s command) (most_firsts s command) (most_seconds s command)

-- a sweep looks at each stored reference once: a stop has one, a mark two
abbrev pub references_in : State → ℕ
references_in s = length (stop_list s.routes) + 2 * length s.marks

-- the greatest number of looks that a command may take: only a pack looks at references, and a
-- removal, which may have to pack first
abbrev pub most_looks : State → Option Command → ℕ
most_looks s (Some (Remove ticket)) = references_in s
most_looks s (Some Pack) = references_in s
most_looks s command = 0

-- looks are at least the old ones, and at most so many more
pub record LooksWithin (old new looks : ℕ) : Type 0 where
  pub rise : old ≤ new
  pub few : new ≤ old + looks
