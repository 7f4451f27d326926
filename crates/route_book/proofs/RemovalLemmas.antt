-- What a removal is told by the book, by its arena and by the model, and what it tells.
use Rattle.std.proofs.Common.{◌≡◌, ◌≢◌, ◌∙◌, sym, ap, subst, refl, Bool, true, false, ◌==◌, ◌||◌}
use Rattle.std.proofs.Common.{nat_lt, if◌then◌else◌, ℕ, ◌<◌, ◌≤◌, List, Option, Some, None, OnSome}
use Rattle.std.proofs.Common.{inl, inr, arith, Result, Ok, Err}
use Rattle.std.specs.Option.{ok_or, option_map, option_or}
use Rattle.std.proofs.lemmas.Bool.Decides.{eqb_tells}
use Rattle.triple_arena_ptr.specs.Generation.{next_wraps, second_generation}
use Rattle.triple_arena.specs.Changes.{IsRemoved as IsGoneFrom}
use Rattle.triple_arena.specs.Content.{Content, entry_at, get, live_count, some_counter}
use Rattle.triple_arena.specs.Content.{removed as removed_of}
use Rattle.triple_arena.specs.Entries.{value_if}
use Rattle.triple_arena_chain.specs.LinkShape.{IndexLink}
use Rattle.triple_arena_chain.specs.Links.{values_in, valued, IsChained, IsTakenOut}
use Rattle.triple_arena_ord.specs.Ordered.{Ordered, IsOrdered, entry_in}
use Rattle.triple_arena_ord.specs.Removal.{IsEntryRemoved}
use Rattle.ticket_book.specs.declared.entry.Kind.{Kind}
use Rattle.ticket_book.specs.declared.entry.Kind.TheVariants.{Place as OfPlace, Stop as OfStop}
use Rattle.ticket_book.specs.declared.entry.Kind.TheVariants.{Mark as OfMark}
use Rattle.ticket_book.specs.Tickets.{Entry, lookup, without_ticket}
use Rattle.route_lines.specs.Calls.{after_removed, without_mark, without_place, without_stop}
use Rattle.route_lines.specs.Sound.{IsSound}
use Rattle.route_lines.specs.State.{State, Rooms, Place, Stop, Mark, Item, place, stop, mark}
use Rattle.route_lines.specs.State.{holder, living, place_of, stop_of, mark_of, stop_list}
use Rattle.route_lines.specs.declared.refusal.Refusal.{Refusal}
use Rattle.route_lines.specs.declared.refusal.Refusal.TheVariants.{Unknown, Gone}
use Rattle.route_book.specs.Book.{Book, as_book, found_in, IsBook, KeepsRooms}
use Rattle.route_book.specs.Holds.{Found, item_under, state_mark, state_stop}
use Rattle.route_book.specs.Item.{StopView, MarkView}
use Rattle.route_book.specs.Removals.{Ends, EndsUnder, OthersStay, removal_wraps}
use Rattle.route_book.specs.Rooms.{counts_short}
use Rattle.route_book.proofs.EndMarkLemmas.{IsMarkGone, mark_leaves, marks_stay}
use Rattle.route_book.proofs.EndPlaceLemmas.{IsPlaceGone, place_leaves, place_steps, places_stay}
use Rattle.route_book.proofs.EndStopLemmas.{IsStopGone, stop_leaves, stop_steps, stops_stay}
use Rattle.route_book.proofs.HoldLemmas.{holder_found, lookup_given}
use Rattle.route_book.proofs.OptionLemmas.{found_has, mapped_some, some_same}
use Rattle.route_book.proofs.OrderLemmas.{counts_on}

-- the item that a ticket has, has it
module _ (s : State) (t : ℕ) where
  living_in : (item : Item) → holder s t ≡ Ok item → living s t ≡ Some item
  living_in item is = by ((t == 0) || nat_lt s.last t) (living s t) is
    where
      by : (unknown : Bool) (o : Option Item)
          → (if unknown then Err Unknown else ok_or o Gone) ≡ Ok item → o ≡ Some item
      by true o is = absurd
          (let no : ◌≡◌ {A = Result Item Refusal} (Err Unknown) (Ok item) = is in cc)
      by false None is = absurd
          (let no : ◌≡◌ {A = Result Item Refusal} (Err Gone) (Ok item) = is in cc)
      by false (Some x) is =
          ap Some (let same : ◌≡◌ {A = Result Item Refusal} (Ok x) (Ok item) = is in ok_same same)
        where
          ok_same : {X Y : Type 0} {x y : X} → ◌≡◌ {A = Result X Y} (Ok x) (Ok y) → x ≡ y
          ok_same e = cc

  place_ticket : (p : Place) → holder s t ≡ Ok (place p) → p.ticket ≡ t
  place_ticket p is = by (place_of s.places t) refl (stop_of s.routes t) (mark_of s.marks t)
      (living_in (place p) is)
    where
      by : (o : Option Place) → place_of s.places t ≡ o → (m : Option Stop) (n : Option Mark)
          → option_or (option_map place o) (option_or (option_map stop m) (option_map mark n))
          ≡ Some (place p)
          → p.ticket ≡ t
      by (Some q) there m n has =
          found_has (λ (x : Place). x.ticket) t s.places p
          (there ∙ ap Some (let same : ◌≡◌ {A = Option Item} (Some (place q)) (Some (place p)) =
          has in cc))
      by None there None None has =
          absurd (let no : ◌≡◌ {A = Option Item} None (Some (place p)) = has in cc)
      by None there None (Some n) has =
          absurd (let no : ◌≡◌ {A = Option Item} (Some (mark n)) (Some (place p)) = has in cc)
      by None there (Some m) n has =
          absurd (let no : ◌≡◌ {A = Option Item} (Some (stop m)) (Some (place p)) = has in cc)

  stop_ticket : (u : Stop) → holder s t ≡ Ok (stop u) → u.ticket ≡ t
  stop_ticket u is = by (place_of s.places t) (stop_of s.routes t) refl (mark_of s.marks t)
      (living_in (stop u) is)
    where
      by : (o : Option Place) (m : Option Stop) → stop_of s.routes t ≡ m → (n : Option Mark)
          → option_or (option_map place o) (option_or (option_map stop m) (option_map mark n))
          ≡ Some (stop u)
          → u.ticket ≡ t
      by (Some q) m there n has =
          absurd (let no : ◌≡◌ {A = Option Item} (Some (place q)) (Some (stop u)) = has in cc)
      by None (Some m) there n has =
          found_has (λ (x : Stop). x.ticket) t (stop_list s.routes) u
          (there ∙ ap Some (let same : ◌≡◌ {A = Option Item} (Some (stop m)) (Some (stop u)) =
          has in cc))
      by None None there None has =
          absurd (let no : ◌≡◌ {A = Option Item} None (Some (stop u)) = has in cc)
      by None None there (Some n) has =
          absurd (let no : ◌≡◌ {A = Option Item} (Some (mark n)) (Some (stop u)) = has in cc)

  mark_ticket : (m : Mark) → holder s t ≡ Ok (mark m) → m.ticket ≡ t
  mark_ticket m is = by (place_of s.places t) (stop_of s.routes t) (mark_of s.marks t) refl
      (living_in (mark m) is)
    where
      by : (o : Option Place) (u : Option Stop) (n : Option Mark) → mark_of s.marks t ≡ n
          → option_or (option_map place o) (option_or (option_map stop u) (option_map mark n))
          ≡ Some (mark m)
          → m.ticket ≡ t
      by (Some q) u n there has =
          absurd (let no : ◌≡◌ {A = Option Item} (Some (place q)) (Some (mark m)) = has in cc)
      by None (Some u) n there has =
          absurd (let no : ◌≡◌ {A = Option Item} (Some (stop u)) (Some (mark m)) = has in cc)
      by None None None there has =
          absurd (let no : ◌≡◌ {A = Option Item} None (Some (mark m)) = has in cc)
      by None None (Some n) there has =
          found_has (λ (x : Mark). x.ticket) t s.marks m
          (there ∙ ap Some (let same : ◌≡◌ {A = Option Item} (Some (mark n)) (Some (mark m)) =
          has in cc))

-- what a removal tells that finds an item
told : {A X : Type 0} (value : A → X) (answer : Option A) (x : X) (Q : Type 0)
    → option_map value answer ≡ Some x → OnSome answer Q → Q
told value None x Q none h = absurd (let no : ◌≡◌ {A = Option _} None (Some x) = none in cc)
told value (Some a) x Q some h = h

-- the counter of the arena of an entry does not wrap
calm_of : (last : Option ℕ) (b : Book) (at : Option Entry) (e : Entry)
    → at ≡ Some e
    → (x : Entry) × (at ≡ Some x) × (removal_wraps last b x.kind ≡ false)
    → (kind : Kind) → e.kind ≡ kind → removal_wraps last b kind ≡ false
calm_of last b at e is all kind same =
    subst (λ k. removal_wraps last b k ≡ false)
    (ap (λ (y : Entry). y.kind) (some_same (sym all.1 ∙ is)) ∙ same) all.2

-- what ends is said of an entry that has another name
ends_of : (last : Option ℕ) (at : Option Entry) (e : Entry) → at ≡ Some e
    → (old new : Book) (kind : Kind)
    → e.kind ≡ kind → Ends last kind e.ticket old new → EndsUnder last at old new
ends_of last at e is old new kind same h x other =
    subst (λ (y : Entry). Ends last y.kind y.ticket old new) (some_same (sym is ∙ other))
    (subst (λ k. Ends last k e.ticket old new) (sym same) h)

-- the link under a pointer that finds a value
link_under : {T : Type 0} (c : Content (IndexLink T)) (i g : ℕ) (v : T)
    → value_if g (values_in c i) ≡ Some v → (link : IndexLink T) × (get c i g ≡ Some link)
link_under {T} c i g v found = by (entry_at c i) refl found
  where
    by : (o : Option (ℕ × IndexLink T)) → entry_at c i ≡ o
        → value_if g (option_map valued o) ≡ Some v
        → (link : IndexLink T) × (get c i g ≡ Some link)
    by None is none = absurd (let no : ◌≡◌ {A = Option T} None (Some v) = none in cc)
    by (Some x) is some = elim (eqb_tells x.0 g) [
      | inl own ↦ (x.1, ap (value_if g) is ∙ rw own.0 refl)
      | inr other ↦ absurd (let no : ◌≡◌ {A = Option T} None (Some v) =
          sym (let e : value_if g (option_map valued (Some x)) ≡ None = rw other.0 refl in e)
          ∙ some in cc)
    ]

-- an item has ended, between these two books: what ties the store's parts does so still
pub record IsOut (own : Rooms) (last : ℕ) (final : Option ℕ) (at : Option Entry)
    (old new : Book) (entries : List Entry) : Type 0 where
  pub book : IsBook own last new.state new.places new.stops new.marks entries
  pub sound : IsSound new.state
  pub ends : EndsUnder final at old new
  pub rooms : KeepsRooms old new

-- the entry that is taken, the item under it, and the state that is left
pub record Begun (rooms : Rooms) (last : ℕ) (s s' : State) (places : Ordered Place)
    (stops : Content (IndexLink StopView)) (marks : Content MarkView) (book book' : List Entry)
    (e : Entry) (i g : ℕ) (final : Option ℕ) (at : Option Entry) : Type 0 where
  pub tied : IsBook rooms last s places stops marks book
  pub found : lookup book e.ticket ≡ Some e
  pub index : i ≡ e.index
  pub generation : g ≡ e.generation
  pub counts : counts_short final ≡ false
  pub stood : at ≡ Some e
  pub calm : (x : Entry) × (at ≡ Some x)
      × (removal_wraps final (as_book s places stops marks) x.kind ≡ false)
  pub left : s' ≡ after_removed s e.ticket
  pub sound : IsSound (after_removed s e.ticket)
  pub out : book' ≡ without_ticket e.ticket book

module _ (rooms : Rooms) (last : ℕ) (s s' : State)
    (places : Ordered Place)
    (stops : Content (IndexLink StopView)) (marks : Content MarkView) (book book' : List Entry)
    (e : Entry) (i g : ℕ) (final : Option ℕ) (at : Option Entry)
    (h : Begun rooms last s s' places stops marks book book' e i g final at) where
  abbrev old : Book
  old = as_book s places stops marks

  abbrev last_is : (top : ℕ) × ((final ≡ Some top)
      × (next_wraps final (second_generation final) ≡ false))
  last_is = counts_on final h.counts

  calm : (kind : Kind) → e.kind ≡ kind → removal_wraps final old kind ≡ false
  calm = calm_of final old at e h.stood h.calm

  abbrev f : Found
  f = found_in places stops marks

  abbrev t : ℕ
  t = e.ticket

  given : (0 < t) × (t ≤ s.last)
  given = let there = lookup_given book 0 s.last t e h.tied.held.rise h.found in (there.1, there.2)

  positive : t ≢ 0
  positive same = let above = given.0 in omega (arith, above, same)

  under : (kind : Kind) → e.kind ≡ kind
      → (item : Item) × ((holder s t ≡ Ok item) × (item_under f kind i g ≡ Some item))
  under kind is =
      let there = holder_found s f _ _ book h.tied.held t positive given.1 e h.found in (
        there.0,
        (
          there.1.0,
          ap (λ q. item_under f q i g) (sym is)
              ∙ ap (λ n. item_under f e.kind n g) h.index
              ∙ ap (item_under f e.kind e.index) h.generation
              ∙ there.1.1,
        ),
      )

  -- ---- a place

  module _ (kind : e.kind ≡ OfPlace) (A : Type 0) (value : A → Place) (answer : Option A)
      (gives : option_map value answer ≡ value_if g (entry_in places i))
      (ordered : IsOrdered places) (places' : Ordered Place)
      (removes : OnSome answer (IsEntryRemoved final i places places'))
      (laws : (p : Place) → holder s t ≡ Ok (place p) → IsPlaceGone s (after_removed s t) t) where
    found_place : (p : Place)
        × ((value_if g (entry_in places i) ≡ Some p) × (holder s t ≡ Ok (place p)))
    found_place =
        let u = under OfPlace kind in
        let m = mapped_some place (value_if g (entry_in places i)) u.0 u.1.1 in
        (m.0, (m.1.0, u.1.0 ∙ ap Ok (sym m.1.1)))

    abbrev p : Place
    p = found_place.0

    ticket : p.ticket ≡ t
    ticket = place_ticket s t p found_place.1.1

    removed : IsEntryRemoved final i places places'
    removed = told value answer p _ (gives ∙ found_place.1.0) removes

    pub place_out : IsOut rooms last final at old (as_book s' places' stops marks) book'
    place_out = rw (h.left, h.out) (record {
      book = subst (λ u. IsPlaceGone s (after_removed s t) u
          → IsBook rooms last (after_removed s t) places' stops marks (without_ticket u book))
          ticket
          (λ gone. place_leaves rooms last s places places' stops marks book h.tied i g p
          found_place.1.0 ordered final last_is.0 last_is.1.0 (calm OfPlace kind) removed
          (after_removed s t) gone h.sound) (laws p found_place.1.1);
      sound = h.sound;
      ends = ends_of final at e h.stood _ _ OfPlace kind (
        place p,
        (
          found_place.1.1,
          (
            refl,
            (
              record {
                room = removed.room;
                counter = place_steps rooms last s places places' stops marks book h.tied i g p
                    found_place.1.0 ordered final last_is.0 last_is.1.0 (calm OfPlace kind) removed;
                slot = (i, (removed.free, removed.slots));
                others = subst (λ u. OthersStay (λ (q : Place). q.ticket) u (entry_in places)
                    (entry_in places')) ticket
                    (places_stay rooms last s places places' stops marks book h.tied i g p
                    found_place.1.0 ordered final last_is.0 last_is.1.0 (calm OfPlace kind)
                    removed);
                stops = refl;
                marks = refl;
              },
              refl,
            ),
          ),
        ),
      );
      rooms = record { places = removed.room; stops = refl; marks = refl };
    })

  -- ---- a stop

  module _ (kind : e.kind ≡ OfStop) (A : Type 0) (value : A → IndexLink StopView)
      (answer : Option A) (gives : option_map value answer ≡ get stops i g)
      (chained : IsChained stops) (stops' : Content (IndexLink StopView))
      (takes : OnSome answer (IsTakenOut final i stops stops'))
      (laws : (u : Stop) → holder s t ≡ Ok (stop u) → IsStopGone s (after_removed s t) t) where
    found_stop : (v : StopView)
        × ((value_if g (values_in stops i) ≡ Some v) × (holder s t ≡ Ok (stop (state_stop f v))))
    found_stop =
        let u = under OfStop kind in
        let m = mapped_some (λ v. stop (state_stop f v)) (value_if g (values_in stops i)) u.0 u.1.1
        in
        (m.0, (m.1.0, u.1.0 ∙ ap Ok (sym m.1.1)))

    abbrev v : StopView
    v = found_stop.0

    stop_named : v.ticket ≡ t
    stop_named = stop_ticket s t (state_stop f v) found_stop.1.1

    taken : IsTakenOut final i stops stops'
    taken =
        let there = link_under stops i g v found_stop.1.0 in
        told value answer there.0 _ (gives ∙ there.1) takes

    pub stop_out : IsOut rooms last final at old (as_book s' places stops' marks) book'
    stop_out = rw (h.left, h.out) (record {
      book = subst (λ u. IsStopGone s (after_removed s t) u
          → IsBook rooms last (after_removed s t) places stops' marks (without_ticket u book))
          stop_named
          (λ gone. stop_leaves rooms last s places stops stops' marks book h.tied i g v
          found_stop.1.0 chained final last_is.0 last_is.1.0 (calm OfStop kind) taken
          (after_removed s t) gone h.sound) (laws _ found_stop.1.1);
      sound = h.sound;
      ends = ends_of final at e h.stood _ _ OfStop kind (
        stop (state_stop f v),
        (
          found_stop.1.1,
          (
            refl,
            (
              record {
                room = taken.room;
                counter = stop_steps rooms last s places stops stops' marks book h.tied i g v
                    found_stop.1.0 chained final last_is.0 last_is.1.0 (calm OfStop kind) taken;
                slot = (i, (taken.free, taken.slots));
                others = subst (λ u. OthersStay (λ (w : StopView). w.ticket) u (values_in stops)
                    (values_in stops')) stop_named
                    (stops_stay rooms last s places stops stops' marks book h.tied i g v
                    found_stop.1.0 chained final last_is.0 last_is.1.0 (calm OfStop kind) taken);
                places = refl;
                marks = refl;
              },
              refl,
            ),
          ),
        ),
      );
      rooms = record { places = refl; stops = taken.room; marks = refl };
    })

  -- ---- a mark

  module _ (kind : e.kind ≡ OfMark) (A : Type 0) (value : A → MarkView) (answer : Option A)
      (gives : option_map value answer ≡ value_if g (entry_at marks i))
      (marks' : Content MarkView)
      (removes : OnSome answer (IsGoneFrom entry_at live_count some_counter
      (λ (c : Content MarkView). c.room) final i marks marks'))
      (is_exact : OnSome answer (marks' ≡ removed_of final marks i))
      (laws : (m : Mark) → holder s t ≡ Ok (mark m) → IsMarkGone s (after_removed s t) t) where
    found_mark : (v : MarkView)
        × ((value_if g (entry_at marks i) ≡ Some v) × (holder s t ≡ Ok (mark (state_mark f v))))
    found_mark =
        let u = under OfMark kind in
        let m = mapped_some (λ v. mark (state_mark f v)) (value_if g (entry_at marks i)) u.0 u.1.1
        in
        (m.0, (m.1.0, u.1.0 ∙ ap Ok (sym m.1.1)))

    abbrev w : MarkView
    w = found_mark.0

    mark_named : w.ticket ≡ t
    mark_named = mark_ticket s t (state_mark f w) found_mark.1.1

    gone : IsGoneFrom entry_at live_count some_counter (λ (c : Content MarkView). c.room) final i
        marks marks'
    gone = told value answer w _ (gives ∙ found_mark.1.0) removes

    pub mark_out : IsOut rooms last final at old (as_book s' places stops marks') book'
    mark_out = rw (h.left, h.out) (record {
      book = subst (λ u. IsMarkGone s (after_removed s t) u
          → IsBook rooms last (after_removed s t) places stops marks' (without_ticket u book))
          mark_named
          (λ law. mark_leaves rooms last s places stops marks marks' book h.tied i g w
          found_mark.1.0 final gone (after_removed s t) law h.sound) (laws _ found_mark.1.1);
      sound = h.sound;
      ends = ends_of final at e h.stood _ _ OfMark kind (
        mark (state_mark f w),
        (
          found_mark.1.1,
          (
            refl,
            (
              record {
                counter = some_same gone.counter;
                exact = (i, told value answer w _ (gives ∙ found_mark.1.0) is_exact);
                room = gone.room;
                others = subst (λ u. OthersStay (λ (x : MarkView). x.ticket) u (entry_at marks)
                    (entry_at marks')) mark_named
                    (marks_stay rooms last s places stops marks marks' book h.tied i g w
                    found_mark.1.0 final gone);
                places = refl;
                stops = refl;
              },
              refl,
            ),
          ),
        ),
      );
      rooms = record { places = refl; stops = refl; marks = gone.room };
    })

-- the model's words for what is left, by the kind of what had the ticket
pub place_is : (s : State) (t : ℕ) (p : Place) → holder s t ≡ Ok (place p)
    → after_removed s t ≡ without_place s t
place_is s t p is = rw is refl

pub stop_is : (s : State) (t : ℕ) (u : Stop) → holder s t ≡ Ok (stop u)
    → after_removed s t ≡ without_stop s t
stop_is s t u is = rw is refl

pub mark_is : (s : State) (t : ℕ) (m : Mark) → holder s t ≡ Ok (mark m)
    → after_removed s t ≡ without_mark s t
mark_is s t m is = rw is refl
