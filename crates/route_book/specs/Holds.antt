-- How the arenas and the ticket book stand for a state. What pointers find are plain functions
-- here: no arena, slot or tree.
use Rattle.std.specs.Prelude.{◌≡◌, ◌⊎◌, ℕ, ◌<◌, ◌≤◌, List, [], ◌∷◌, Option, Some, None, Ok, IsSome}
use Rattle.std.specs.Prelude.{IfSome}
use Rattle.std.specs.Option.{option_map}
use Rattle.triple_arena.specs.Entries.{value_if}
use Rattle.linked_lists.specs.LinkedLists.{Ends}
use Rattle.ticket_book.specs.declared.entry.Kind.{Kind}
use Rattle.ticket_book.specs.declared.entry.Kind.TheVariants.{Place as OfPlace, Stop as OfStop}
use Rattle.ticket_book.specs.declared.entry.Kind.TheVariants.{Mark as OfMark}
use Rattle.ticket_book.specs.Tickets.{Entry, lookup}
use Rattle.route_lines.specs.Routes.{next_stop}
use Rattle.route_lines.specs.State.{State, Place, Stop, Mark, Item, place, stop, mark, holder}
use Rattle.route_lines.specs.State.{place_of, stop_of, mark_of}
use Rattle.route_book.specs.Follows.{LeadAs}
use Rattle.route_book.specs.Item.{StopView, MarkView}

-- ---- what pointers find

-- the generation and the item at each index of the three arenas, and the generations of the next
-- place and of the next stop
pub record Found : Type 0 where
  pub places : ℕ → Option (ℕ × Place)
  pub stops : ℕ → Option (ℕ × StopView)
  pub marks : ℕ → Option (ℕ × MarkView)
  pub place_counter : ℕ
  pub stop_counter : ℕ

-- what a reference finds
abbrev pub found_by : {T : Type 0} → (ℕ → Option (ℕ × T)) → Option (ℕ × ℕ) → Option T
found_by at None = None
found_by at (Some p) = value_if p.1 (at p.0)

-- a stop and a mark as the state has them: a reference is the ticket of the item that it finds
abbrev pub state_stop : Found → StopView → Stop
state_stop f v = record {
  ticket = v.ticket;
  place = option_map (λ (p : Place). p.ticket) (found_by f.places v.place);
}

abbrev pub state_mark : Found → MarkView → Mark
state_mark f v =
    record {
      ticket = v.ticket;
      place = option_map (λ (p : Place). p.ticket) (found_by f.places v.place);
      stop = option_map (λ (t : StopView). t.ticket) (found_by f.stops v.stop);
    }

-- what a pointer to an item of a kind finds, as the state has it
abbrev pub place_under : Found → Kind → ℕ → ℕ → Option Place
place_under f OfPlace i g = value_if g (f.places i)
place_under f OfStop i g = None
place_under f OfMark i g = None

abbrev pub stop_under : Found → Kind → ℕ → ℕ → Option Stop
stop_under f OfPlace i g = None
stop_under f OfStop i g = option_map (state_stop f) (value_if g (f.stops i))
stop_under f OfMark i g = None

abbrev pub mark_under : Found → Kind → ℕ → ℕ → Option Mark
mark_under f OfPlace i g = None
mark_under f OfStop i g = None
mark_under f OfMark i g = option_map (state_mark f) (value_if g (f.marks i))

abbrev pub item_under : Found → Kind → ℕ → ℕ → Option Item
item_under f OfPlace i g = option_map place (value_if g (f.places i))
item_under f OfStop i g = option_map (λ v. stop (state_stop f v)) (value_if g (f.stops i))
item_under f OfMark i g = option_map (λ v. mark (state_mark f v)) (value_if g (f.marks i))

-- the living item that has a ticket, and a pointer of a kind to it
pub record IsItem (s : State) (f : Found) (ticket : ℕ) (kind : Kind) (i g : ℕ) : Type 0 where
  pub item : Item
  pub living : holder s ticket ≡ Ok item
  pub under : item_under f kind i g ≡ Some item

-- the same of an entry of the book, if there is one
abbrev pub place_at : Found → Option Entry → Option Place
place_at f None = None
place_at f (Some e) = place_under f e.kind e.index e.generation

abbrev pub stop_at : Found → Option Entry → Option Stop
stop_at f None = None
stop_at f (Some e) = stop_under f e.kind e.index e.generation

abbrev pub mark_at : Found → Option Entry → Option Mark
mark_at f None = None
mark_at f (Some e) = mark_under f e.kind e.index e.generation

-- the pointer of an entry finds an item
abbrev pub HasItem : Found → Kind → ℕ → ℕ → Type 0
HasItem f OfPlace i g = IsSome (value_if g (f.places i))
HasItem f OfStop i g = IsSome (value_if g (f.stops i))
HasItem f OfMark i g = IsSome (value_if g (f.marks i))

abbrev pub entry : ℕ → Kind → ℕ → ℕ → Entry
entry t kind i g = record { ticket = t; kind = kind; index = i; generation = g }

-- ---- what holds

-- tickets above one another, the first above a bound, the last at most another
abbrev pub Rise : ℕ → List Entry → ℕ → Type 0
Rise low [] last = low ≤ last
Rise low (e ∷ book) last = (low < e.ticket) × Rise e.ticket book last

-- a reference is none, or it finds an item
abbrev pub IsLive : {T : Type 0} → (ℕ → Option (ℕ × T)) → Option (ℕ × ℕ) → Type 0
IsLive at r = IfSome r (λ p. IsSome (value_if p.1 (at p.0)))

-- a reference is none, or it finds an item, or its generation is past: no entry gets it before the
-- counter wraps
abbrev pub IsSettled : {T : Type 0} → (ℕ → Option (ℕ × T)) → ℕ → Option (ℕ × ℕ) → Type 0
IsSettled at counter r = IfSome r (λ p. IsSome (value_if p.1 (at p.0)) ⊎ (p.1 < counter))

-- no entry has a generation above the counter
abbrev pub AreUpTo : {T : Type 0} → (ℕ → Option (ℕ × T)) → ℕ → Type 0
AreUpTo {T} at counter = (i g : ℕ) (t : T) → at i ≡ Some (g, t) → g ≤ counter

-- the state is what the arenas and the book hold: `order` the places along their list, `ends` the
-- interlinks of the stops
pub record IsHeld (s : State) (f : Found) (order : List Place) (ends : ℕ → Option Ends)
    (book : List Entry) : Type 0 where
  pub rise : Rise 0 book s.last
  -- each ticket of the book finds its item
  pub filled : (t : ℕ) (e : Entry) → lookup book t ≡ Some e → HasItem f e.kind e.index e.generation
  -- each item is in the book under its ticket
  pub places_in : (i g : ℕ) (p : Place) → f.places i ≡ Some (g, p)
      → lookup book p.ticket ≡ Some (entry p.ticket OfPlace i g)
  pub stops_in : (i g : ℕ) (v : StopView) → f.stops i ≡ Some (g, v)
      → lookup book v.ticket ≡ Some (entry v.ticket OfStop i g)
  pub marks_in : (i g : ℕ) (v : MarkView) → f.marks i ≡ Some (g, v)
      → lookup book v.ticket ≡ Some (entry v.ticket OfMark i g)
  -- each reference finds an item, or none for ever
  pub stop_place : (i g : ℕ) (v : StopView) → f.stops i ≡ Some (g, v)
      → IsSettled f.places f.place_counter v.place
  pub mark_place : (i g : ℕ) (v : MarkView) → f.marks i ≡ Some (g, v)
      → IsSettled f.places f.place_counter v.place
  pub mark_stop : (i g : ℕ) (v : MarkView) → f.marks i ≡ Some (g, v)
      → IsSettled f.stops f.stop_counter v.stop
  pub places_up_to : AreUpTo f.places f.place_counter
  pub stops_up_to : AreUpTo f.stops f.stop_counter
  -- the state has the items under the same tickets
  pub places : (t : ℕ) → place_of s.places t ≡ place_at f (lookup book t)
  pub stops : (t : ℕ) → stop_of s.routes t ≡ stop_at f (lookup book t)
  pub marks : (t : ℕ) → mark_of s.marks t ≡ mark_at f (lookup book t)
  -- the places in the same order
  pub in_order : s.places ≡ order
  -- and each stop leads to the one at the next of its index
  pub routes : LeadAs (λ (v : StopView). v.ticket) f.stops ends (next_stop s.routes)
