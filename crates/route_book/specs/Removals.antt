-- What removals, packs and lines leave of the items that live on, and how many references they
-- look at.
use Rattle.std.specs.Prelude.{◌≡◌, ◌≢◌, ◌↔◌, ℕ, ◌+◌, ◌≤◌, ⊤, Bool, true, false, []}
use Rattle.std.specs.Prelude.{Option, None, Some, IsSome, Result, Ok, Err, IfErr, length}
use Rattle.std.specs.List.{range_with_len}
use Rattle.triple_arena_ptr.specs.Generation.{next_generation, next_wraps, second_generation}
use Rattle.triple_arena.specs.Content.{Content, entry_at, live_count, removed}
use Rattle.triple_arena_chain.specs.CanonicalLayout.{IsLaidOut}
use Rattle.triple_arena_chain.specs.Links.{ends_in, values_in}
use Rattle.triple_arena_ord.specs.Ordered.{entry_in, order_in}
use Rattle.ticket_book.specs.declared.entry.Kind.{Kind}
use Rattle.ticket_book.specs.declared.entry.Kind.TheVariants.{Place as OfPlace, Stop as OfStop}
use Rattle.ticket_book.specs.declared.entry.Kind.TheVariants.{Mark as OfMark}
use Rattle.ticket_book.specs.Tickets.{Entry}
use Rattle.route_lines.specs.Searches.{references_in}
use Rattle.route_lines.specs.State.{State, Place, Item, place, stop, mark, holder}
use Rattle.route_lines.specs.Calls.{placed, placed_near, worded, started, extended, joined}
use Rattle.route_lines.specs.Calls.{parted, swapped, marked, after_removed}
use Rattle.route_lines.specs.declared.command.Command.{Command}
use Rattle.route_lines.specs.declared.command.Command.TheVariants.{Place as PlaceLine, Word, Start}
use Rattle.route_lines.specs.declared.command.Command.TheVariants.{Extend, Join, Cut, Swap, Mark}
use Rattle.route_lines.specs.declared.command.Command.TheVariants.{Remove, Pack}
use Rattle.route_lines.specs.declared.refusal.Refusal.{Refusal}
use Rattle.route_book.specs.Book.{Book, KeepsItems, KeepsRooms}
use Rattle.route_book.specs.Holds.{IsLive}
use Rattle.route_book.specs.Item.{StopView, MarkView}

-- the items but that of a ticket keep their pointers, and all that they hold
abbrev pub OthersStay : {T : Type 0} → (T → ℕ) → ℕ → (ℕ → Option (ℕ × T))
    → (ℕ → Option (ℕ × T)) → Type 0
OthersStay {T} ticket t old new = (i g : ℕ) (x : T) → old i ≡ Some (g, x) → ticket x ≢ t
    → new i ≡ Some (g, x)

-- each item has this generation
abbrev pub HaveGeneration : {T : Type 0} → ℕ → (ℕ → Option (ℕ × T)) → Type 0
HaveGeneration {T} n at = (i g : ℕ) (x : T) → at i ≡ Some (g, x) → g ≡ n

-- items stand at the indexes from 1 to this number, and at no other
abbrev pub AreFirst : {T : Type 0} → (ℕ → Option T) → ℕ → Type 0
AreFirst at n = (i : ℕ) → IsSome (at i) ↔ ((1 ≤ i) × (i ≤ n))

-- the free indexes and the slots are those that one removal leaves
abbrev pub LosesSlot : {T : Type 0} → Option ℕ → Content T → Content T → Type 0
LosesSlot last old new =
    (i : ℕ) × ((new.free ≡ (removed last old i).free)
    × (length new.slots ≡ length (removed last old i).slots))

-- the kind of an item
abbrev pub kind_of : Item → Kind
kind_of (place p) = OfPlace
kind_of (stop v) = OfStop
kind_of (mark m) = OfMark

-- a place has ended: its arena's counter is one up, the free indexes and the slots are as one
-- removal leaves them, and stops and marks are as they were, with their references
pub record IsPlaceEnded (last : Option ℕ) (t : ℕ) (old new : Book) : Type 0 where
  pub counter : new.places.chains.counter ≡ old.places.chains.counter + 1
  pub slot : LosesSlot last old.places.chains new.places.chains
  pub room : new.places.chains.room ≡ old.places.chains.room
  pub others : OthersStay (λ (p : Place). p.ticket) t (entry_in old.places) (entry_in new.places)
  pub stops : new.stops ≡ old.stops
  pub marks : new.marks ≡ old.marks

-- the same of a stop
pub record IsStopEnded (last : Option ℕ) (t : ℕ) (old new : Book) : Type 0 where
  pub counter : new.stops.counter ≡ old.stops.counter + 1
  pub slot : LosesSlot last old.stops new.stops
  pub room : new.stops.room ≡ old.stops.room
  pub others : OthersStay (λ (v : StopView). v.ticket) t (values_in old.stops)
      (values_in new.stops)
  pub places : new.places ≡ old.places
  pub marks : new.marks ≡ old.marks

-- the same of a mark. No reference is to a mark, so its arena's counter steps even if that starts
-- it again; its arena is exactly what one removal leaves
pub record IsMarkEnded (last : Option ℕ) (t : ℕ) (old new : Book) : Type 0 where
  pub counter : new.marks.counter ≡ next_generation last old.marks.counter
  pub exact : (i : ℕ) × (new.marks ≡ removed last old.marks i)
  pub room : new.marks.room ≡ old.marks.room
  pub others : OthersStay (λ (v : MarkView). v.ticket) t (entry_at old.marks) (entry_at new.marks)
  pub places : new.places ≡ old.places
  pub stops : new.stops ≡ old.stops

-- what became of an item of a kind whose removal does not start a counter again
abbrev pub IsEnded : Option ℕ → Kind → ℕ → Book → Book → Type 0
IsEnded last OfPlace t old new = IsPlaceEnded last t old new
IsEnded last OfStop t old new = IsStopEnded last t old new
IsEnded last OfMark t old new = IsMarkEnded last t old new

-- whether the removal of an item of a kind would start its arena's counter again, which
-- references may be to
abbrev pub removal_wraps : Option ℕ → Book → Kind → Bool
removal_wraps last b OfPlace = next_wraps last b.places.chains.counter
removal_wraps last b OfStop = next_wraps last b.stops.counter
removal_wraps last b OfMark = false

-- a pack: each reference was looked at once and none is dead. All counters have started again, at
-- the generation that all items have. All items stand at the indexes from 1 on: places in the
-- order of their keys, the stops of each route one after another, and no index is free. The
-- rooms stay
pub record IsPacked (last : Option ℕ) (before after : ℕ) (old new : Book)
    : Type 0 where
  pub looks : after ≡ before + references_in old.state
  pub place_counter : new.places.chains.counter ≡ second_generation last
  pub stop_counter : new.stops.counter ≡ second_generation last
  pub mark_counter : new.marks.counter ≡ second_generation last
  pub place_generations : HaveGeneration (second_generation last) (entry_in new.places)
  pub stop_generations : HaveGeneration (second_generation last) (values_in new.stops)
  pub mark_generations : HaveGeneration (second_generation last) (entry_at new.marks)
  pub rooms : KeepsRooms old new
  pub order : order_in new.places ≡ range_with_len 1 (length new.state.places)
  pub stop_runs : IsLaidOut (ends_in new.stops) (live_count new.stops)
  pub mark_run : AreFirst (entry_at new.marks) (live_count new.marks)
  pub place_free : new.places.chains.free ≡ []
  pub stop_free : new.stops.free ≡ []
  pub mark_free : new.marks.free ≡ []
  pub stops : (i g : ℕ) (v : StopView) → values_in new.stops i ≡ Some (g, v)
      → IsLive (entry_in new.places) v.place
  pub marks : (i g : ℕ) (m : MarkView) → entry_at new.marks i ≡ Some (g, m)
      → IsLive (entry_in new.places) m.place × IsLive (values_in new.stops) m.stop

-- an item of a kind has ended: with no look, or after a pack if its counter would have started
-- again
abbrev pub IsRemoved : Option ℕ → Kind → ℕ → ℕ → ℕ → Book → Book → Type 0
IsRemoved last kind t before after old new = by (removal_wraps last old kind)
  where
    by : Bool → Type 0
    by false = (after ≡ before) × IsEnded last kind t old new
    by true =
        (packed : Book) × ((packed.state ≡ old.state)
        × (IsPacked last before after old packed × IsEnded last kind t packed new))

-- what a removal makes of a store, by what has the ticket: a refused one changes nothing and
-- looks at nothing
abbrev pub Removes : Option ℕ → ℕ → ℕ → ℕ → Book → Book
    → Result Item Refusal → Type 0
Removes last t before after old new (Ok item)
    = IsRemoved last (kind_of item) t before after old new
Removes last t before after old new (Err refusal) = (new ≡ old) × (after ≡ before)

-- before a removal: a pack if it is needed, and else nothing
abbrev pub IsReady : Option ℕ → Bool → ℕ → ℕ → Book → Book → Type 0
IsReady last false before after old new = (new ≡ old) × (after ≡ before)
IsReady last true before after old new = IsPacked last before after old new

-- the item of this kind that has a ticket ends
abbrev pub Ends : Option ℕ → Kind → ℕ → Book → Book → Type 0
Ends last kind t old new =
    (item : Item) × ((holder old.state t ≡ Ok item) × ((kind_of item ≡ kind)
    × (IsEnded last kind t old new × (new.state ≡ after_removed old.state t))))

-- the item of this entry ends, if there is an entry
abbrev pub EndsUnder : Option ℕ → Option Entry → Book → Book → Type 0
EndsUnder last at old new = (e : Entry) → at ≡ Some e → Ends last e.kind e.ticket old new

-- a line that asks, spells no command or is refused leaves the store as it was. `Removes` says so
-- of a removal that is refused
abbrev pub Stays : State → Option Command → Book → Book → Type 0
Stays s (Some (PlaceLine key word None)) old new = IfErr (placed s) (λ _. new ≡ old)
Stays s (Some (PlaceLine key word (Some near))) old new =
    IfErr (placed_near s near) (λ _. new ≡ old)
Stays s (Some (Word t word)) old new = IfErr (worded s t) (λ _. new ≡ old)
Stays s (Some (Start p)) old new = IfErr (started s p) (λ _. new ≡ old)
Stays s (Some (Extend t p)) old new = IfErr (extended s t p) (λ _. new ≡ old)
Stays s (Some (Join t u)) old new = IfErr (joined s t u) (λ _. new ≡ old)
Stays s (Some (Cut t)) old new = IfErr (parted s t) (λ _. new ≡ old)
Stays s (Some (Swap t u)) old new = IfErr (swapped s t u) (λ _. new ≡ old)
Stays s (Some (Mark p t)) old new = IfErr (marked s p t) (λ _. new ≡ old)
Stays s (Some (Remove t)) old new = ⊤
Stays s (Some Pack) old new = ⊤
Stays s command old new = new ≡ old

-- the arenas that a line leaves as they were, whether it is refused or not: a place and its word
-- change no stop and no mark, a route no place and no mark, a mark no place and no stop
abbrev pub Spares : Option Command → Book → Book → Type 0
Spares (Some (PlaceLine key word near)) old new =
    (new.stops ≡ old.stops) × (new.marks ≡ old.marks)
Spares (Some (Word t word)) old new = (new.stops ≡ old.stops) × (new.marks ≡ old.marks)
Spares (Some (Start p)) old new = (new.places ≡ old.places) × (new.marks ≡ old.marks)
Spares (Some (Extend t p)) old new = (new.places ≡ old.places) × (new.marks ≡ old.marks)
Spares (Some (Join t u)) old new = (new.places ≡ old.places) × (new.marks ≡ old.marks)
Spares (Some (Cut t)) old new = (new.places ≡ old.places) × (new.marks ≡ old.marks)
Spares (Some (Swap t u)) old new = (new.places ≡ old.places) × (new.marks ≡ old.marks)
Spares (Some (Mark p t)) old new = (new.places ≡ old.places) × (new.stops ≡ old.stops)
Spares command old new = ⊤

-- what a line does to items, counters and looks, by its command
abbrev pub Steps : Option ℕ → Option Command → ℕ → ℕ → Book → Book → Type 0
Steps last (Some (Remove t)) before after old new
    = Removes last t before after old new (holder old.state t)
Steps last (Some Pack) before after old new = IsPacked last before after old new
Steps last command before after old new = KeepsItems old new × (after ≡ before)
