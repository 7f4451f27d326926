-- References to a place that was removed.
use Rattle.std.proofs.Common.{◌≡◌, ◌∙◌, sym, ap, refl, ℕ, Option, Some, None, IsSome, cond}
use Rattle.std.proofs.Common.{option_map}
use Rattle.std.proofs.lemmas.Bool.{eq-eqb}
use Rattle.triple_arena.specs.Entries.{value_if}
use Rattle.triple_arena.specs.Content.{Content}
use Rattle.triple_arena_chain.specs.LinkShape.{IndexLink}
use Rattle.triple_arena_chain.specs.Links.{values_in}
use Rattle.triple_arena_ord.specs.Ordered.{entry_in}
use Rattle.route_lines.specs.Calls.{unless_is, clear_stop, after_removed}
use Rattle.route_lines.specs.State.{State, Place, Stop, stop_of}
use Rattle.route_book.specs.Book.{Book, found_of}
use Rattle.route_book.specs.Holds.{found_by, state_stop, IsLive}
use Rattle.route_book.specs.Item.{StopView}
use Rattle.promise_route_book_users.specs.References.{AreDead, AreGone}

none-mapped : {X Y : Type 0} (f : X → Y) (o : Option X) → option_map f o ≡ None → o ≡ None
none-mapped f None e = refl
none-mapped f (Some x) e = cc

live-none : {T : Type 0} (at : ℕ → Option (ℕ × T)) (r : Option (ℕ × ℕ)) → IsLive at r
    → found_by at r ≡ None → r ≡ None
live-none at None live e = refl
live-none {T} at (Some p) live e = absurd (none (value_if p.1 (at p.0)) e live)
  where
    none : (o : Option T) → o ≡ None → IsSome o → ⊥
    none None e some = cc
    none (Some x) e some = cc

module _ (t : ℕ) (old new : Book) where
  -- `stops` are those that an arena lends
  pub dead : (stops : Content (IndexLink StopView)) → stops ≡ new.stops
      → new.state ≡ after_removed old.state t
      → ((x : ℕ) → stop_of (after_removed old.state t).routes x
      ≡ option_map (clear_stop t) (stop_of old.state.routes x))
      → ((i g : ℕ) (v : StopView) → values_in stops i ≡ Some (g, v)
      → stop_of new.state.routes v.ticket ≡ Some (state_stop (found_of new) v))
      → AreDead t old new
  dead stops lent state law items i g v e names =
      let seen : Some (state_stop (found_of new) v) ≡ Some (clear_stop t names.named) =
      sym (items i g v (ap (λ c. values_in c i) lent ∙ e))
      ∙ ap (λ (s : State). stop_of s.routes v.ticket) state ∙ law v.ticket
      ∙ ap (option_map (clear_stop t)) names.living in
      let same : state_stop (found_of new) v ≡ clear_stop t names.named = cc in
      none-mapped (λ (p : Place). p.ticket) (found_by (entry_in new.places) v.place)
      (ap (λ (u : Stop). u.place) same ∙ ap (unless_is t) names.names
      ∙ ap (λ b. cond b None (Some t)) (eq-eqb t t refl))

  pub gone : AreDead t old new
      → ((i g : ℕ) (v : StopView) → values_in new.stops i ≡ Some (g, v)
      → IsLive (entry_in new.places) v.place) → AreGone t old new
  gone dead live i g v e names =
      live-none (entry_in new.places) v.place (live i g v e) (dead i g v e names)
