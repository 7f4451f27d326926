-- What a pack makes of what is held: the state stays.
use Rattle.std.proofs.Common.{◌≡◌, ◌∙◌, sym, ap, subst, refl, Bool, true, false, ◌==◌}
use Rattle.std.proofs.Common.{if◌then◌else◌, ℕ, List, [], ◌∷◌, map, Option, Some, None, IsSome}
use Rattle.std.proofs.Common.{is_some, true≢false, arith}
use Rattle.std.specs.Option.{option_map}
use Rattle.std.proofs.lemmas.Bool.{eq-eqb}
use Rattle.triple_arena.specs.Entries.{value_if}
use Rattle.linked_lists.specs.LinkedLists.{Ends, next_at}
use Rattle.route_lines.specs.State.{Place, State}
use Rattle.ticket_book.specs.declared.entry.Kind.{Kind}
use Rattle.ticket_book.specs.declared.entry.Kind.TheVariants.{Place as OfPlace, Stop as OfStop}
use Rattle.ticket_book.specs.declared.entry.Kind.TheVariants.{Mark as OfMark}
use Rattle.route_book.specs.Item.{StopView, MarkView}
use Rattle.ticket_book.specs.Tickets.{Entry, lookup}
use Rattle.route_book.specs.Holds.{Found, found_by, state_stop, state_mark, place_under, stop_under}
use Rattle.route_book.specs.Holds.{mark_under, place_at, stop_at, mark_at, HasItem, entry, Rise}
use Rattle.route_book.specs.Holds.{IsLive, IsHeld}
use Rattle.route_lines.specs.Routes.{next_stop}
use Rattle.route_book.specs.Follows.{ticket_at, LeadAs}
use Rattle.route_book.specs.Packing.{AreMoved, IsMirror, recast_stop, recast_mark}
use Rattle.ticket_book.specs.Mirrors.{Mirror, renewed_pointer, renewed_under, renewed_entry}
use Rattle.route_book.proofs.MirrorLemmas.{found_recast, live_recast, renewed_live}
use Rattle.route_book.proofs.SettledLemmas.{live_settled}
use Rattle.route_book.proofs.OptionLemmas.{mapped_some, stands_under}

-- the book with other pointers has the same tickets
module _ (m n o : Mirror) where
  pub lookup_renewed : (book : List Entry) (t : ℕ)
      → lookup (map (renewed_entry m n o) book) t ≡ option_map (renewed_entry m n o) (lookup book t)
  lookup_renewed [] t = refl
  lookup_renewed (e ∷ book) t = by (lookup_renewed book t) (e.ticket == t)
    where
      by : lookup (map (renewed_entry m n o) book) t
          ≡ option_map (renewed_entry m n o) (lookup book t) → (b : Bool)
          → (if b then Some (renewed_entry m n o e) else lookup (map (renewed_entry m n o) book) t)
          ≡ option_map (renewed_entry m n o) (if b then Some e else lookup book t)
      by rest true = refl
      by rest false = rest

  pub rise_renewed : (book : List Entry) (low last : ℕ) → Rise low book last
      → Rise low (map (renewed_entry m n o) book) last
  rise_renewed [] low last rise = rise
  rise_renewed (e ∷ book) low last rise = (rise.0, rise_renewed book e.ticket last rise.1)

-- no stored reference is dead
pub record AreLive (at_p : ℕ → Option (ℕ × Place)) (at_s : ℕ → Option (ℕ × StopView))
    (at_m : ℕ → Option (ℕ × MarkView)) : Type 0 where
  pub stops : (k g : ℕ) (v : StopView) → at_s k ≡ Some (g, v) → IsLive at_p v.place
  pub marks : (k g : ℕ) (v : MarkView) → at_m k ≡ Some (g, v)
      → IsLive at_p v.place × IsLive at_s v.stop

module _ (s : State) (f : Found) (order : List Place) (ends ends' : ℕ → Option Ends)
    (book : List Entry) (h : IsHeld s f order ends book)
    (to_p to_s to_m : ℕ → ℕ) (gp gs gm : ℕ) (at_p : ℕ → Option (ℕ × Place))
    (at_s : ℕ → Option (ℕ × StopView)) (at_m : ℕ → Option (ℕ × MarkView))
    (m n o : Mirror)
    (places : AreMoved to_p gp f.places at_p) (stops : AreMoved to_s gs f.stops at_s)
    (marks : AreMoved to_m gm f.marks at_m)
    (mirror_p : IsMirror to_p gp f.places m) (mirror_s : IsMirror to_s gs f.stops n)
    (mirror_m : IsMirror to_m gm f.marks o)
    (new_s : ℕ → Option (ℕ × StopView)) (new_m : ℕ → Option (ℕ × MarkView))
    (recast_s : (k : ℕ) → new_s k ≡ option_map (λ e. (e.0, recast_stop m e.1)) (at_s k))
    (recast_m : (k : ℕ) → new_m k ≡ option_map (λ e. (e.0, recast_mark m n e.1)) (at_m k)) where
  abbrev now : Found
  now = record
      { places = at_p; stops = new_s; marks = new_m; place_counter = gp; stop_counter = gs }

  abbrev τ : StopView → ℕ
  τ v = v.ticket

  abbrev renew : Entry → Entry
  renew = renewed_entry m n o

  abbrev stop_cast : ℕ × StopView → ℕ × StopView
  stop_cast e = (e.0, recast_stop m e.1)

  abbrev mark_cast : ℕ × MarkView → ℕ × MarkView
  mark_cast e = (e.0, recast_mark m n e.1)

  -- what references find
  stop_names : (r : Option (ℕ × ℕ))
      → option_map (λ (v : StopView). v.ticket) (found_by new_s r)
      ≡ option_map (λ (v : StopView). v.ticket) (found_by at_s r)
  stop_names None = refl
  stop_names (Some q) =
      ap (λ x. option_map (λ (v : StopView). v.ticket) (value_if q.1 x)) (recast_s q.0)
      ∙ by (at_s q.0)
    where
      by : (x : Option (ℕ × StopView))
          → option_map (λ (v : StopView). v.ticket) (value_if q.1 (option_map stop_cast x))
          ≡ option_map (λ (v : StopView). v.ticket) (value_if q.1 x)
      by None = refl
      by (Some x) = at_test (x.0 == q.1)
        where
          at_test : (b : Bool) → option_map (λ (v : StopView). v.ticket)
              (if b then Some (recast_stop m x.1) else None)
              ≡ option_map (λ (v : StopView). v.ticket) (if b then Some x.1 else None)
          at_test true = refl
          at_test false = refl

  stop_same : (v : StopView) → state_stop now (recast_stop m v) ≡ state_stop f v
  stop_same v =
      ap (λ r. record { ticket = v.ticket; place = option_map (λ (p : Place). p.ticket) r })
      (found_recast to_p gp f.places at_p m places mirror_p v.place)

  mark_same : (v : MarkView) → state_mark now (recast_mark m n v) ≡ state_mark f v
  mark_same v =
      ap (λ r. record {
        ticket = v.ticket;
        place = option_map (λ (p : Place). p.ticket) r;
        stop = option_map (λ (t : StopView). t.ticket) (found_by new_s (found_by n v.stop));
      })
      (found_recast to_p gp f.places at_p m places mirror_p v.place)
      ∙ ap (λ r. record {
        ticket = v.ticket;
        place = option_map (λ (p : Place). p.ticket) (found_by f.places v.place);
        stop = r;
      })
      (stop_names (found_by n v.stop)
      ∙ ap (option_map (λ (t : StopView). t.ticket))
      (found_recast to_s gs f.stops at_s n stops mirror_s v.stop))

  -- an item under its new pointer
  record Kept (k : Kind) (i g : ℕ) : Type 0 where
    place : place_under now k (renewed_under m n o k i g).0 (renewed_under m n o k i g).1
        ≡ place_under f k i g
    stop : stop_under now k (renewed_under m n o k i g).0 (renewed_under m n o k i g).1
        ≡ stop_under f k i g
    mark : mark_under now k (renewed_under m n o k i g).0 (renewed_under m n o k i g).1
        ≡ mark_under f k i g
    filled : HasItem now k (renewed_under m n o k i g).0 (renewed_under m n o k i g).1

  at_own : {T : Type 0} (at : ℕ → Option (ℕ × T)) (j g : ℕ) (t : T) → at j ≡ Some (g, t)
      → value_if g (at j) ≡ Some t
  at_own at j g t is = ap (value_if g) is ∙ rw (eq-eqb g g refl) refl

  kept : (k : Kind) (i g : ℕ) → HasItem f k i g → Kept k i g
  kept OfPlace i g filled =
      let st = stands_under f.places i g filled in
      let name = renewed_live to_p gp f.places at_p m places mirror_p i g st.0 st.1.0 in
      let is = at_own at_p (to_p i) gp st.0 (places.into i g st.0 st.1.1) in
      let found : value_if (renewed_pointer m i g).1 (at_p (renewed_pointer m i g).0) ≡ Some st.0 =
      ap (λ (q : ℕ × ℕ). value_if q.1 (at_p q.0)) name ∙ is in
      record { place = found ∙ sym st.1.0; stop = refl; mark = refl; filled = ap is_some found }
  kept OfStop i g filled =
      let st = stands_under f.stops i g filled in
      let name = renewed_live to_s gs f.stops at_s n stops mirror_s i g st.0 st.1.0 in
      let there : new_s (to_s i) ≡ Some (gs, recast_stop m st.0) = recast_s (to_s i)
      ∙ ap (option_map stop_cast) (stops.into i g st.0 st.1.1) in
      let is = at_own new_s (to_s i) gs (recast_stop m st.0) there in
      let found : value_if (renewed_pointer n i g).1 (new_s (renewed_pointer n i g).0)
      ≡ Some (recast_stop m st.0) = ap (λ (q : ℕ × ℕ). value_if q.1 (new_s q.0)) name ∙ is in
      record {
        place = refl;
        stop = ap (option_map (state_stop now)) found
            ∙ ap Some (stop_same st.0)
            ∙ sym (ap (option_map (state_stop f)) st.1.0);
        mark = refl;
        filled = ap is_some found;
      }
  kept OfMark i g filled =
      let st = stands_under f.marks i g filled in
      let name = renewed_live to_m gm f.marks at_m o marks mirror_m i g st.0 st.1.0 in
      let there : new_m (to_m i) ≡ Some (gm, recast_mark m n st.0) = recast_m (to_m i)
      ∙ ap (option_map mark_cast) (marks.into i g st.0 st.1.1) in
      let is = at_own new_m (to_m i) gm (recast_mark m n st.0) there in
      let found : value_if (renewed_pointer o i g).1 (new_m (renewed_pointer o i g).0)
      ≡ Some (recast_mark m n st.0) = ap (λ (q : ℕ × ℕ). value_if q.1 (new_m q.0)) name ∙ is in
      record {
        place = refl;
        stop = refl;
        mark = ap (option_map (state_mark now)) found
            ∙ ap Some (mark_same st.0)
            ∙ sym (ap (option_map (state_mark f)) st.1.0);
        filled = ap is_some found;
      }

  record AtKept (e : Option Entry) : Type 0 where
    place : place_at now (option_map renew e) ≡ place_at f e
    stop : stop_at now (option_map renew e) ≡ stop_at f e
    mark : mark_at now (option_map renew e) ≡ mark_at f e

  at_kept : (t : ℕ) (e : Option Entry) → lookup book t ≡ e → AtKept e
  at_kept t None is = record { place = refl; stop = refl; mark = refl }
  at_kept t (Some e) is = let k = kept e.kind e.index e.generation (h.filled t e is) in
      record { place = k.place; stop = k.stop; mark = k.mark }

  -- the entry of an item
  renamed_entry : (t : ℕ) (k : Kind) (i g : ℕ) (q : ℕ × ℕ) → lookup book t ≡ Some (entry t k i g)
      → renewed_under m n o k i g ≡ q
      → lookup (map renew book) t ≡ Some (entry t k q.0 q.1)
  renamed_entry t k i g q is name = lookup_renewed m n o book t ∙ ap (option_map renew) is
      ∙ ap (λ (z : ℕ × ℕ). Some (entry t k z.0 z.1)) name

  -- which stop leads to which
  module _ (next : (i : ℕ) → IsSome (f.stops i)
      → next_at ends' (to_s i) ≡ option_map to_s (next_at ends i))
      (live : (i k : ℕ) → IsSome (f.stops i) → next_at ends i ≡ Some k → IsSome (f.stops k))
    where
      -- a stop that moved has its ticket
      ticket_moved : (k : ℕ) → IsSome (f.stops k)
          → ticket_at τ new_s (Some (to_s k)) ≡ ticket_at τ f.stops (Some k)
      ticket_moved k some = by (f.stops k) refl some
        where
          by : (o : Option (ℕ × StopView)) → f.stops k ≡ o → IsSome o
              → ticket_at τ new_s (Some (to_s k)) ≡ ticket_at τ f.stops (Some k)
          by None is some = absurd (true≢false (sym some))
          by (Some e) is some =
              ap (option_map (λ (x : ℕ × StopView). x.1.ticket))
              (recast_s (to_s k) ∙ ap (option_map stop_cast) (stops.into k e.0 e.1 is))
              ∙ sym (ap (option_map (λ (x : ℕ × StopView). x.1.ticket)) is)

      lead_packed : LeadAs τ new_s ends' (next_stop s.routes)
      lead_packed k g v is =
          let c = mapped_some stop_cast (at_s k) (g, v) (sym (recast_s k) ∙ is) in
          let w = stops.onto k c.0.0 c.0.1 c.1.0 in
          let same : v.ticket ≡ c.0.1.ticket = ap (λ (x : ℕ × StopView). x.1.ticket) (sym c.1.1) in
          let here : IsSome (f.stops w.0) = ap is_some w.1.1.0 in
          ap (next_stop s.routes) same ∙ h.routes w.0 w.1.0 c.0.1 w.1.1.0
          ∙ by w.0 here (next_at ends w.0) refl
          ∙ ap (ticket_at τ new_s) (sym (next w.0 here))
          ∙ ap (λ j. ticket_at τ new_s (next_at ends' j)) w.1.1.1.0
        where
          by : (i : ℕ) → IsSome (f.stops i) → (o : Option ℕ) → next_at ends i ≡ o
              → ticket_at τ f.stops (next_at ends i)
              ≡ ticket_at τ new_s (option_map to_s (next_at ends i))
          by i here None is = rw is refl
          by i here (Some j) is = rw is (sym (ticket_moved j (live i j here is)))

      -- no reference is dead
      stop_live : (k g : ℕ) (v : StopView) → new_s k ≡ Some (g, v) → IsLive at_p v.place
      stop_live k g v is =
          let c = mapped_some stop_cast (at_s k) (g, v) (sym (recast_s k) ∙ is) in
          subst (λ (x : ℕ × StopView). IsLive at_p x.1.place) c.1.1
          (live_recast to_p gp f.places at_p m places mirror_p c.0.1.place)

      mark_live : (k g : ℕ) (v : MarkView) → new_m k ≡ Some (g, v) → IsLive at_p v.place
      mark_live k g v is =
          let c = mapped_some mark_cast (at_m k) (g, v) (sym (recast_m k) ∙ is) in
          subst (λ (x : ℕ × MarkView). IsLive at_p x.1.place) c.1.1
          (live_recast to_p gp f.places at_p m places mirror_p c.0.1.place)

      still_live : (r : Option (ℕ × ℕ)) → IsLive at_s r → IsLive new_s r
      still_live None live = live
      still_live (Some q) live =
          subst (λ x. IsSome (value_if q.1 x)) (sym (recast_s q.0)) (by (at_s q.0) live)
        where
          by : (x : Option (ℕ × StopView)) → IsSome (value_if q.1 x)
              → IsSome (value_if q.1 (option_map stop_cast x))
          by None some = some
          by (Some x) some = at_test (x.0 == q.1) some
            where
              at_test : (b : Bool) → IsSome (if b then Some x.1 else None)
                  → IsSome (if b then Some (recast_stop m x.1) else None)
              at_test true some = refl
              at_test false some = some

      mark_stop_live : (k g : ℕ) (v : MarkView) → new_m k ≡ Some (g, v) → IsLive new_s v.stop
      mark_stop_live k g v is =
          let c = mapped_some mark_cast (at_m k) (g, v) (sym (recast_m k) ∙ is) in
          subst (λ (x : ℕ × MarkView). IsLive new_s x.1.stop) c.1.1
          (still_live (found_by n c.0.1.stop)
          (live_recast to_s gs f.stops at_s n stops mirror_s c.0.1.stop))

      pub packed : IsHeld s now order ends' (map renew book) × AreLive at_p new_s new_m
      packed = (
        held,
        record {
          stops = stop_live;
          marks = λ k g v is. (mark_live k g v is, mark_stop_live k g v is);
        },
      )
        where
          filled : (t : ℕ) (e : Entry) → lookup (map renew book) t ≡ Some e
              → HasItem now e.kind e.index e.generation
          filled t e is =
              let w = mapped_some renew (lookup book t) e (sym (lookup_renewed m n o book t) ∙ is)
              in
              subst (λ (x : Entry). HasItem now x.kind x.index x.generation) w.1.1
              (kept w.0.kind w.0.index w.0.generation (h.filled t w.0 w.1.0)).filled

          place_in : (k g : ℕ) (p : Place) → at_p k ≡ Some (g, p)
              → lookup (map renew book) p.ticket ≡ Some (entry p.ticket OfPlace k g)
          place_in k g p is =
              let w = places.onto k g p is in
              let name = renewed_live to_p gp f.places at_p m places mirror_p w.0 w.1.0 p
              (at_own f.places w.0 w.1.0 p w.1.1.0) in
              renamed_entry p.ticket OfPlace w.0 w.1.0 (to_p w.0, gp)
              (h.places_in w.0 w.1.0 p w.1.1.0) name
              ∙ ap (λ z. Some (entry p.ticket OfPlace z gp)) w.1.1.1.0
              ∙ ap (λ z. Some (entry p.ticket OfPlace k z)) (sym w.1.1.1.1)

          stop_in : (k g : ℕ) (v : StopView) → new_s k ≡ Some (g, v)
              → lookup (map renew book) v.ticket ≡ Some (entry v.ticket OfStop k g)
          stop_in k g v is =
              let c = mapped_some stop_cast (at_s k) (g, v) (sym (recast_s k) ∙ is) in
              let w = stops.onto k c.0.0 c.0.1 c.1.0 in
              let name = renewed_live to_s gs f.stops at_s n stops mirror_s w.0 w.1.0 c.0.1
              (at_own f.stops w.0 w.1.0 c.0.1 w.1.1.0) in
              let known = renamed_entry c.0.1.ticket OfStop w.0 w.1.0 (to_s w.0, gs)
              (h.stops_in w.0 w.1.0 c.0.1 w.1.1.0) name
              ∙ ap (λ z. Some (entry c.0.1.ticket OfStop z gs)) w.1.1.1.0
              ∙ ap (λ z. Some (entry c.0.1.ticket OfStop k z)) (sym w.1.1.1.1) in
              subst (λ (x : ℕ × StopView). lookup (map renew book) x.1.ticket
              ≡ Some (entry x.1.ticket OfStop k x.0)) c.1.1 known

          mark_in : (k g : ℕ) (v : MarkView) → new_m k ≡ Some (g, v)
              → lookup (map renew book) v.ticket ≡ Some (entry v.ticket OfMark k g)
          mark_in k g v is =
              let c = mapped_some mark_cast (at_m k) (g, v) (sym (recast_m k) ∙ is) in
              let w = marks.onto k c.0.0 c.0.1 c.1.0 in
              let name = renewed_live to_m gm f.marks at_m o marks mirror_m w.0 w.1.0 c.0.1
              (at_own f.marks w.0 w.1.0 c.0.1 w.1.1.0) in
              let known = renamed_entry c.0.1.ticket OfMark w.0 w.1.0 (to_m w.0, gm)
              (h.marks_in w.0 w.1.0 c.0.1 w.1.1.0) name
              ∙ ap (λ z. Some (entry c.0.1.ticket OfMark z gm)) w.1.1.1.0
              ∙ ap (λ z. Some (entry c.0.1.ticket OfMark k z)) (sym w.1.1.1.1) in
              subst (λ (x : ℕ × MarkView). lookup (map renew book) x.1.ticket
              ≡ Some (entry x.1.ticket OfMark k x.0)) c.1.1 known

          held : IsHeld s now order ends' (map renew book)
          held = record {
            rise = rise_renewed m n o book 0 s.last h.rise;
            filled = filled;
            places_in = place_in;
            stops_in = stop_in;
            marks_in = mark_in;
            stop_place = λ k g v is. live_settled at_p gp v.place (stop_live k g v is);
            mark_place = λ k g v is. live_settled at_p gp v.place (mark_live k g v is);
            mark_stop = λ k g v is. live_settled new_s gs v.stop (mark_stop_live k g v is);
            places_up_to = λ k g p is. (let w = (places.onto k g p is).1.1.1.1 in omega (arith, w));
            stops_up_to = λ k g v is. (let w =
                mapped_some stop_cast (at_s k) (g, v) (sym (recast_s k) ∙ is) in
                let same = ap (λ (x : ℕ × StopView). x.0) w.1.1 in
                let u = (stops.onto k w.0.0 w.0.1 w.1.0).1.1.1.1 in omega (arith, same, u));
            places = λ t. h.places t
                ∙ sym (ap (place_at now) (lookup_renewed m n o book t)
                ∙ (at_kept t (lookup book t) refl).place);
            stops = λ t. h.stops t
                ∙ sym (ap (stop_at now) (lookup_renewed m n o book t)
                ∙ (at_kept t (lookup book t) refl).stop);
            marks = λ t. h.marks t
                ∙ sym (ap (mark_at now) (lookup_renewed m n o book t)
                ∙ (at_kept t (lookup book t) refl).mark);
            in_order = h.in_order;
            routes = lead_packed;
          }
