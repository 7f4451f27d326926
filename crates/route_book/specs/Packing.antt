-- What a pack makes of stored references, and how a mirror is filled by tickets.
use Rattle.std.specs.Prelude.{◌≡◌, ℕ, ◌<◌, ◌≤◌, List, Option, Some, IsSome}
use Rattle.ticket_book.specs.Mirrors.{Mirror, numbers}
use Rattle.ticket_book.specs.Tickets.{Entry, lookup}
use Rattle.route_book.specs.Holds.{found_by}
use Rattle.route_book.specs.Item.{StopView, MarkView}

-- a stop and a mark with their references recast: one that the mirror has not is gone
abbrev pub recast_stop : Mirror → StopView → StopView
recast_stop m v = record v { place = found_by m v.place }

abbrev pub recast_mark : Mirror → Mirror → MarkView → MarkView
recast_mark m n v = record v { place = found_by m v.place; stop = found_by n v.stop }

-- the same by mirrors whose pointers have these indexes and generations
abbrev pub recast_stop_by : {P : Type 0} → (P → ℕ) → (P → ℕ) → (ℕ → Option (ℕ × P))
    → StopView → StopView
recast_stop_by index generation places = recast_stop (numbers index generation places)

abbrev pub recast_mark_by : {P : Type 0} → (P → ℕ) → (P → ℕ) → (ℕ → Option (ℕ × P))
    → (ℕ → Option (ℕ × P)) → MarkView → MarkView
recast_mark_by index generation places stops =
    recast_mark (numbers index generation places) (numbers index generation stops)

-- each entry of the ticket book stands where it stood, with its ticket and its kind
abbrev pub StandAs : (ℕ → Option Entry) → (ℕ → Option Entry) → Type 0
StandAs old new = (i : ℕ) (e : Entry) → old i ≡ Some e
    → (f : Entry) × ((new i ≡ Some f) × ((f.ticket ≡ e.ticket) × (f.kind ≡ e.kind)))

module _ {T : Type 0} where
  -- each item stands at another index, all under one generation
  pub record AreMoved (to : ℕ → ℕ) (g : ℕ) (old new : ℕ → Option (ℕ × T)) : Type 0 where
    pub into : (i h : ℕ) (t : T) → old i ≡ Some (h, t) → new (to i) ≡ Some (g, t)
    pub onto : (k h : ℕ) (t : T) → new k ≡ Some (h, t) → (i : ℕ)
        × ((n : ℕ) × ((old i ≡ Some (n, t)) × ((to i ≡ k) × (h ≡ g))))

  -- a mirror leads from each old pointer to the new one, and from no other
  pub record IsMirror (to : ℕ → ℕ) (g : ℕ) (old : ℕ → Option (ℕ × T)) (m : Mirror) : Type 0 where
    pub into : (i h : ℕ) (t : T) → old i ≡ Some (h, t) → m i ≡ Some (h, (to i, g))
    pub only : (i h : ℕ) (q : ℕ × ℕ) → m i ≡ Some (h, q) → (t : T) × (old i ≡ Some (h, t))

module _ {T : Type 0} (ticket : T → ℕ) where
  -- an item at an index below a bound, and the entry of its ticket in the book
  pub record IsNoted (book : List Entry) (at : ℕ → Option (ℕ × T)) (low i h : ℕ) (q : ℕ × ℕ)
      : Type 0 where
    pub below : q.0 < low
    pub item : T
    pub stands : at q.0 ≡ Some (q.1, item)
    pub entry : Entry
    pub known : lookup book (ticket item) ≡ Some entry
    pub index : entry.index ≡ i
    pub generation : entry.generation ≡ h

  -- under the pointer that the book has for an item's ticket stands the pointer that the item has
  -- now, for the items at the indexes below a bound, and nothing else
  pub record IsMirrored (book : List Entry) (at : ℕ → Option (ℕ × T)) (low : ℕ) (m : Mirror)
      : Type 0 where
    pub filled : (j h : ℕ) (t : T) (e : Entry) → j < low → at j ≡ Some (h, t)
        → lookup book (ticket t) ≡ Some e → m e.index ≡ Some (e.generation, (j, h))
    pub only : (i h : ℕ) (q : ℕ × ℕ) → m i ≡ Some (h, q) → IsNoted book at low i h q

  -- the same for all items: each bound that is above their indexes will do
  abbrev pub AreMirrored : List Entry → (ℕ → Option (ℕ × T)) → Mirror → Type 0
  AreMirrored book at m = (low : ℕ) → ((k : ℕ) → IsSome (at k) → k < low)
      → IsMirrored book at low m

  -- each item's ticket is in the book, under a pointer that a mirror has room for, and each under
  -- an index of its own
  pub record IsBooked (book : List Entry) (at : ℕ → Option (ℕ × T)) (room : ℕ) : Type 0 where
    pub known : (j h : ℕ) (t : T) → at j ≡ Some (h, t) → (e : Entry)
        × ((lookup book (ticket t) ≡ Some e) × ((0 < e.index) × (e.index ≤ room)))
    pub apart : (j k h n : ℕ) (t u : T) (d e : Entry) → at j ≡ Some (h, t) → at k ≡ Some (n, u)
        → lookup book (ticket t) ≡ Some d → lookup book (ticket u) ≡ Some e
        → d.index ≡ e.index → j ≡ k
