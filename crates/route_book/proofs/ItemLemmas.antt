-- What calls answer of the living item that has a ticket.
use Rattle.std.proofs.Common.{◌≡◌, ◌∙◌, sym, ap, refl, ℕ, Option, Some, None, Ok}
use Rattle.std.specs.Option.{option_map}
use Rattle.triple_arena.specs.Entries.{value_if}
use Rattle.ticket_book.specs.declared.entry.Kind.{Kind as ItemKind}
use Rattle.ticket_book.specs.declared.entry.Kind.TheVariants.{Place as OfPlace, Stop as OfStop}
use Rattle.route_lines.specs.Calls.{place_holder, stop_holder}
use Rattle.route_lines.specs.State.{State, Place, Item, place, stop, holder}
use Rattle.route_book.specs.Item.{StopView}
use Rattle.route_book.specs.Holds.{Found, IsItem, item_under, state_stop}
use Rattle.route_book.proofs.OptionLemmas.{some_same}

module _ (s : State) (f : Found) (t : ℕ) (kind : ItemKind) (i g : ℕ) (item : IsItem s f t kind i g)
  where
    under : (k : ItemKind) → kind ≡ k → item_under f k i g ≡ Some item.item
    under k is = ap (λ k. item_under f k i g) (sym is) ∙ item.under

    -- ---- a place

    pub as_place : kind ≡ OfPlace
        → (p : Place) × ((value_if g (f.places i) ≡ Some p) × (holder s t ≡ Ok (place p)))
    as_place is = by (value_if g (f.places i)) refl
      where
        by : (o : Option Place) → value_if g (f.places i) ≡ o
            → (p : Place) × ((value_if g (f.places i) ≡ Some p) × (holder s t ≡ Ok (place p)))
        by None none = absurd
            (let no : ◌≡◌ {A = Option Item} None (Some item.item) = sym (ap (option_map place) none)
            ∙ under OfPlace is in cc)
        by (Some p) some =
            let same : place p ≡ item.item =
            some_same (sym (ap (option_map place) some) ∙ under OfPlace is) in
            (p, (some, item.living ∙ ap Ok (sym same)))

    pub as_stop : kind ≡ OfStop
        → (v : StopView) × ((value_if g (f.stops i) ≡ Some v)
        × (holder s t ≡ Ok (stop (state_stop f v))))
    as_stop is = by (value_if g (f.stops i)) refl
      where
        by : (o : Option StopView) → value_if g (f.stops i) ≡ o
            → (v : StopView) × ((value_if g (f.stops i) ≡ Some v)
            × (holder s t ≡ Ok (stop (state_stop f v))))
        by None none = absurd
            (let no : ◌≡◌ {A = Option Item} None (Some item.item) =
            sym (ap (option_map (λ v. stop (state_stop f v))) none) ∙ under OfStop is in cc)
        by (Some v) some =
            let same : stop (state_stop f v) ≡ item.item =
            some_same (sym (ap (option_map (λ v. stop (state_stop f v))) some) ∙ under OfStop is)
            in
            (v, (some, item.living ∙ ap Ok (sym same)))

    -- ---- what is wanted of it

    pub found_place : kind ≡ OfPlace
        → (p : Place) × (value_if g (f.places i) ≡ Some p) × (place_holder s t ≡ Ok p)
    found_place is = let p = as_place is in let h = p.1.1 in (p.0, p.1.0, rw h refl)

    pub found_stop : kind ≡ OfStop
        → (v : StopView) × (value_if g (f.stops i) ≡ Some v)
        × (stop_holder s t ≡ Ok (state_stop f v))
    found_stop is = let v = as_stop is in let h = v.1.1 in (v.0, v.1.0, rw h refl)
