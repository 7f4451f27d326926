-- Another word for a place, and what it makes of what is held.
use Rattle.std.proofs.Common.{◌≡◌, ◌≢◌, ◌∙◌, sym, ap, subst, refl, Bool, true, false, ◌==◌}
use Rattle.std.proofs.Common.{if◌then◌else◌, ℕ, suc, ◌<◌, ◌⊎◌, inl, inr, List, [], ◌∷◌, length}
use Rattle.std.proofs.Common.{Option, Some, None, IsSome}
use Rattle.std.specs.Option.{option_map}
use Rattle.std.proofs.lemmas.Bool.{ne_eqb, eq-eqb}
use Rattle.std.proofs.lemmas.Bool.Decides.{eqb_tells}
use Rattle.triple_arena.specs.Entries.{value_if, with_entry}
use Rattle.linked_lists.specs.LinkedLists.{Ends}
use Rattle.ticket_book.specs.declared.entry.Kind.{Kind}
use Rattle.ticket_book.specs.declared.entry.Kind.TheVariants.{Place as OfPlace, Stop as OfStop}
use Rattle.ticket_book.specs.declared.entry.Kind.TheVariants.{Mark as OfMark}
use Rattle.ticket_book.specs.Tickets.{Entry, lookup}
use Rattle.ticket_book.specs.AlongLaws.{along}
use Rattle.route_lines.specs.Calls.{reworded}
use Rattle.route_lines.specs.State.{State, Place, place_of}
use Rattle.route_book.specs.Item.{StopView, MarkView}
use Rattle.route_book.specs.Holds.{Found, found_by, state_stop, state_mark, place_under, stop_under}
use Rattle.route_book.specs.Holds.{mark_under, place_at, stop_at, mark_at, HasItem, entry}
use Rattle.route_book.specs.Holds.{IsSettled, IsHeld}
use Rattle.route_book.proofs.HoldLemmas.{booked_once}
use Rattle.route_book.proofs.OptionLemmas.{some_same}

-- a place with this word, where it has this ticket
abbrev pub reword : ℕ → List ℕ → Place → Place
reword ticket word p = if p.ticket == ticket then record p { word = word } else p

abbrev pub reword_entry : ℕ → List ℕ → ℕ × Place → ℕ × Place
reword_entry ticket word e = (e.0, reword ticket word e.1)

module _ (own : ℕ) (word : List ℕ) where
  ticket_kept : (p : Place) → (reword own word p).ticket ≡ p.ticket
  ticket_kept p = by (p.ticket == own)
    where
      by : (b : Bool) → (if b then record p { word = word } else p).ticket ≡ p.ticket
      by true = refl
      by false = refl

  -- ---- lists

  pub length-reworded : (ps : List Place) → length (reworded own word ps) ≡ length ps
  length-reworded [] = refl
  length-reworded (p ∷ ps) = ap suc (length-reworded ps)

  find_reworded : (t : ℕ) (ps : List Place)
      → place_of (reworded own word ps) t ≡ option_map (reword own word) (place_of ps t)
  find_reworded t [] = refl
  find_reworded t (p ∷ ps) =
      ap (λ n. if n == t then Some (reword own word p) else place_of (reworded own word ps) t)
      (ticket_kept p) ∙ by (p.ticket == t) (find_reworded t ps)
    where
      by : (b : Bool) → place_of (reworded own word ps) t
          ≡ option_map (reword own word) (place_of ps t)
          → (if b then Some (reword own word p) else place_of (reworded own word ps) t)
          ≡ option_map (reword own word) (if b then Some p else place_of ps t)
      by true rest = refl
      by false rest = rest

  pub along_reworded : (at at' : ℕ → Option (ℕ × Place))
      → ((k : ℕ) → at' k ≡ option_map (reword_entry own word) (at k)) → (w : List ℕ)
      → along at' w ≡ reworded own word (along at w)
  along_reworded at at' entries [] = refl
  along_reworded at at' entries (i ∷ w) = by (at i) refl (along_reworded at at' entries w)
    where
      by : (o : Option (ℕ × Place)) → at i ≡ o → along at' w ≡ reworded own word (along at w)
          → along at' (i ∷ w) ≡ reworded own word (along at (i ∷ w))
      by None is rest = let new = entries i
          ∙ ap (option_map (reword_entry own word)) is in rw (new, is) rest
      by (Some e) is rest = let new = entries i
          ∙ ap (option_map (reword_entry own word)) is in
          rw (new, is) (ap (λ l. reword own word e.1 ∷ l) rest)

-- the place at an index has another word
module _ (s : State) (f : Found) (order order' : List Place) (ends : ℕ → Option Ends)
    (book : List Entry) (h : IsHeld s f order ends book)
    (p : Place) (i g : ℕ) (word : List ℕ) (at : ℕ → Option (ℕ × Place))
    (stood : f.places i ≡ Some (g, p))
    (entries : (k : ℕ) → at k ≡ with_entry f.places i (g, record p { word = word }) k) where
  -- one place has the ticket
  alone : (j n : ℕ) (q : Place) → f.places j ≡ Some (n, q) → q.ticket ≡ p.ticket → j ≡ i
  alone j n q is = booked_once (λ (x : Place). x.ticket) OfPlace f.places book h.places_in j i n g q
      p is stood

  -- each entry is as it was, but for the word under the ticket
  pub as_reworded : (k : ℕ) → at k ≡ option_map (reword_entry p.ticket word) (f.places k)
  as_reworded k = elim (eqb_tells k i) [
    | inl same ↦
        let here : at k ≡ Some (g, record p { word = word }) = entries k ∙ rw same.0 refl in
        let was : f.places k ≡ Some (g, p) = ap f.places same.1 ∙ stood in
        here ∙ rw was (rw (eq-eqb p.ticket p.ticket refl) refl)
    | inr other ↦ entries k ∙ rw other.0 (by (f.places k) refl other.1)
  ]
    where
      by : (o : Option (ℕ × Place)) → f.places k ≡ o → k ≢ i
          → o ≡ option_map (reword_entry p.ticket word) o
      by None is apart = refl
      by (Some e) is apart =
          rw (ne_eqb e.1.ticket p.ticket (λ same. apart (alone k e.0 e.1 is same))) refl

  abbrev pub now : Found
  now = record f { places = at }

  value_at : (h' j : ℕ)
      → value_if h' (at j) ≡ option_map (reword p.ticket word) (value_if h' (f.places j))
  value_at h' j = ap (value_if h') (as_reworded j) ∙ by (f.places j)
    where
      by : (o : Option (ℕ × Place))
          → value_if h' (option_map (reword_entry p.ticket word) o)
          ≡ option_map (reword p.ticket word) (value_if h' o)
      by None = refl
      by (Some e) = test (e.0 == h')
        where
          test : (b : Bool) → (if b then Some (reword p.ticket word e.1) else None)
              ≡ option_map (reword p.ticket word) (if b then Some e.1 else None)
          test true = refl
          test false = refl

  live_at : (h' j : ℕ) → IsSome (value_if h' (f.places j)) → IsSome (value_if h' (at j))
  live_at h' j live = subst IsSome (sym (value_at h' j)) (by (value_if h' (f.places j)) live)
    where
      by : (o : Option Place) → IsSome o → IsSome (option_map (reword p.ticket word) o)
      by None is = is
      by (Some q) is = refl

  settled : (r : Option (ℕ × ℕ)) → IsSettled f.places f.place_counter r
      → IsSettled at f.place_counter r
  settled None is = is
  settled (Some q) is = by is
    where
      by : IsSome (value_if q.1 (f.places q.0)) ⊎ (q.1 < f.place_counter)
          → IsSome (value_if q.1 (at q.0)) ⊎ (q.1 < f.place_counter)
      by (inl live) = inl (live_at q.1 q.0 live)
      by (inr past) = inr past

  -- a reference names the same ticket
  named_by : (r : Option (ℕ × ℕ))
      → option_map (λ (q : Place). q.ticket) (found_by at r)
      ≡ option_map (λ (q : Place). q.ticket) (found_by f.places r)
  named_by None = refl
  named_by (Some q) = ap (option_map (λ (x : Place). x.ticket)) (value_at q.1 q.0)
      ∙ by (value_if q.1 (f.places q.0))
    where
      by : (o : Option Place)
          → option_map (λ (x : Place). x.ticket) (option_map (reword p.ticket word) o)
          ≡ option_map (λ (x : Place). x.ticket) o
      by None = refl
      by (Some x) = ap Some (ticket_kept p.ticket word x)

  stop_same : (v : StopView) → state_stop now v ≡ state_stop f v
  stop_same v = ap (λ r. record { ticket = v.ticket; place = r }) (named_by v.place)

  mark_same : (v : MarkView) → state_mark now v ≡ state_mark f v
  mark_same v = ap (λ r. record {
    ticket = v.ticket;
    place = r;
    stop = option_map (λ (t : StopView). t.ticket) (found_by f.stops v.stop);
  }) (named_by v.place)

  map_stops : (o : Option StopView) → option_map (state_stop now) o ≡ option_map (state_stop f) o
  map_stops None = refl
  map_stops (Some v) = ap Some (stop_same v)

  map_marks : (o : Option MarkView) → option_map (state_mark now) o ≡ option_map (state_mark f) o
  map_marks None = refl
  map_marks (Some v) = ap Some (mark_same v)

  filled_at : (k : Kind) (j n : ℕ) → HasItem f k j n → HasItem now k j n
  filled_at OfPlace j n filled = live_at n j filled
  filled_at OfStop j n filled = filled
  filled_at OfMark j n filled = filled

  place_now : (o : Option Entry) → place_at now o ≡ option_map (reword p.ticket word) (place_at f o)
  place_now None = refl
  place_now (Some e) = by e.kind
    where
      by : (k : Kind) → place_under now k e.index e.generation
          ≡ option_map (reword p.ticket word) (place_under f k e.index e.generation)
      by OfPlace = value_at e.generation e.index
      by OfStop = refl
      by OfMark = refl

  stop_now : (o : Option Entry) → stop_at now o ≡ stop_at f o
  stop_now None = refl
  stop_now (Some e) = by e.kind
    where
      by : (k : Kind) → stop_under now k e.index e.generation ≡ stop_under f k e.index e.generation
      by OfPlace = refl
      by OfStop = map_stops (value_if e.generation (f.stops e.index))
      by OfMark = refl

  mark_now : (o : Option Entry) → mark_at now o ≡ mark_at f o
  mark_now None = refl
  mark_now (Some e) = by e.kind
    where
      by : (k : Kind) → mark_under now k e.index e.generation ≡ mark_under f k e.index e.generation
      by OfPlace = refl
      by OfStop = refl
      by OfMark = map_marks (value_if e.generation (f.marks e.index))

  -- the entry that an entry was
  was_at : (j n : ℕ) (q : Place) → at j ≡ Some (n, q)
      → (o : Place) × ((f.places j ≡ Some (n, o)) × (q.ticket ≡ o.ticket))
  was_at j n q is = by (f.places j) refl
    where
      by : (o : Option (ℕ × Place)) → f.places j ≡ o
          → (x : Place) × ((f.places j ≡ Some (n, x)) × (q.ticket ≡ x.ticket))
      by None was = absurd (let no : ◌≡◌ {A = Option (ℕ × Place)} None (Some (n, q)) =
          sym (as_reworded j ∙ ap (option_map (reword_entry p.ticket word)) was) ∙ is in cc)
      by (Some e) was =
          let both : (e.0, reword p.ticket word e.1) ≡ (n, q) =
          some_same (sym (as_reworded j ∙ ap (option_map (reword_entry p.ticket word)) was)
          ∙ is) in
          let number : e.0 ≡ n = ap (λ (x : ℕ × Place). x.0) both in
          let item : reword p.ticket word e.1 ≡ q = ap (λ (x : ℕ × Place). x.1) both in (
            e.1,
            (
              was ∙ ap (λ m. Some (m, e.1)) number,
              ap (λ (x : Place). x.ticket) (sym item) ∙ ticket_kept p.ticket word e.1,
            ),
          )

  pub place_reworded : order' ≡ reworded p.ticket word order
      → IsHeld (record s { places = reworded p.ticket word s.places }) now order' ends book
  place_reworded order_is = record {
    rise = h.rise;
    filled = λ t e is. filled_at e.kind e.index e.generation (h.filled t e is);
    places_in = λ j n q is. let was = was_at j n q is in
        subst (λ t. lookup book t ≡ Some (entry t OfPlace j n)) (sym was.1.1)
        (h.places_in j n was.0 was.1.0);
    stops_in = h.stops_in;
    marks_in = h.marks_in;
    stop_place = λ j n v is. settled v.place (h.stop_place j n v is);
    mark_place = λ j n v is. settled v.place (h.mark_place j n v is);
    mark_stop = h.mark_stop;
    places_up_to = λ j n q is. let was = was_at j n q is in h.places_up_to j n was.0 was.1.0;
    stops_up_to = h.stops_up_to;
    places = λ t. find_reworded p.ticket word t s.places
        ∙ ap (option_map (reword p.ticket word)) (h.places t) ∙ sym (place_now (lookup book t));
    stops = λ t. h.stops t ∙ sym (stop_now (lookup book t));
    marks = λ t. h.marks t ∙ sym (mark_now (lookup book t));
    in_order = ap (reworded p.ticket word) h.in_order ∙ sym order_is;
    routes = h.routes;
  }
