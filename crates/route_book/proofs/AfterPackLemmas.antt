-- What a removal makes of a store that was packed first if a counter would have started again.
use Rattle.std.proofs.Common.{◌≡◌, ◌∙◌, sym, ap, subst, refl, Bool, true, false, ℕ, Option, Ok}
use Rattle.std.proofs.Common.{true≢false}
use Rattle.triple_arena_ptr.specs.Generation.{next_wraps, second_generation}
use Rattle.ticket_book.specs.declared.entry.Kind.{Kind}
use Rattle.ticket_book.specs.declared.entry.Kind.TheVariants.{Place as OfPlace, Stop as OfStop}
use Rattle.ticket_book.specs.declared.entry.Kind.TheVariants.{Mark as OfMark}
use Rattle.route_lines.specs.Calls.{after_removed, removed}
use Rattle.route_lines.specs.State.{State, Item, holder}
use Rattle.route_book.specs.Book.{Book}
use Rattle.route_book.specs.Removals.{Ends, IsEnded, IsPacked, IsReady, IsRemoved, Removes}
use Rattle.route_book.specs.Removals.{removal_wraps}
use Rattle.route_book.specs.Rooms.{counts_short}
use Rattle.route_book.proofs.OrderLemmas.{counts_on}

pub removed_ok : (s : State) (t : ℕ) (item : Item) → holder s t ≡ Ok item → Ok tt ≡ removed s t
removed_ok s t item is = rw is refl

-- what ends is said of a ticket and a kind that have other names
pub ends_as : (last : Option ℕ) (ready new : Book) (t u : ℕ) (kind like : Kind)
    → t ≡ u → kind ≡ like
    → Ends last kind t ready new → Ends last like u ready new
ends_as last ready new t u kind like same alike h =
    subst (λ k. Ends last k u ready new) alike (subst (λ n. Ends last kind n ready new) same h)

module _ (last : Option ℕ) (old ready : Book) (before after : ℕ)
    (kind : Kind)
    (needed : Bool) (is : needed ≡ removal_wraps last old kind)
    (pack : IsReady last needed before after old ready) where
  -- then no removal of an item of the kind starts a counter again
  pub calm_ready : counts_short last ≡ false → removal_wraps last ready kind ≡ false
  calm_ready counts = by needed is pack
    where
      calm : (g : ℕ) → g ≡ second_generation last → next_wraps last g ≡ false
      calm g two = ap (next_wraps last) two ∙ (counts_on last counts).1.1

      packed : (k : Kind) → IsPacked last before after old ready
          → removal_wraps last ready k ≡ false
      packed OfPlace p = calm ready.places.chains.counter p.place_counter
      packed OfStop p = calm ready.stops.counter p.stop_counter
      packed OfMark p = refl

      by : (w : Bool) → w ≡ removal_wraps last old kind
          → IsReady last w before after old ready
          → removal_wraps last ready kind ≡ false
      by false calm_was same = ap (λ b. removal_wraps last b kind) same.0 ∙ sym calm_was
      by true wraps p = packed kind p

  module _ (t : ℕ) (new : Book) (state : ready.state ≡ old.state)
      (ends : Ends last kind t ready new) where
    pub held : holder old.state t ≡ Ok ends.0
    held = sym (ap (λ (s : State). holder s t) state) ∙ ends.1.0

    gone : (k : Kind) (w : Bool) → removal_wraps last old k ≡ w
        → IsReady last w before after old ready
        → IsEnded last k t ready new → IsRemoved last k t before after old new
    gone OfPlace false stays same h =
        rw stays (same.1, subst (λ b. IsEnded last OfPlace t b new) same.0 h)
    gone OfStop false stays same h =
        rw stays (same.1, subst (λ b. IsEnded last OfStop t b new) same.0 h)
    gone OfMark false stays same h = (same.1, subst (λ b. IsEnded last OfMark t b new) same.0 h)
    gone OfPlace true wraps p h = rw wraps (ready, (state, (p, h)))
    gone OfStop true wraps p h = rw wraps (ready, (state, (p, h)))
    gone OfMark true wraps p h = absurd (true≢false (sym wraps))

    pub state_so : new.state ≡ after_removed old.state t
    state_so = ends.1.1.1.1 ∙ ap (λ (s : State). after_removed s t) state

    pub removed_so : Removes last t before after old new (holder old.state t)
    removed_so =
        subst (Removes last t before after old new) (sym held)
        (subst (λ k. IsRemoved last k t before after old new) (sym ends.1.1.0)
        (gone kind needed (sym is) pack ends.1.1.1.0))
