-- What a line does to counters and looks is a step of the law on looks.
use Rattle.std.proofs.Common.{◌≡◌, ◌∙◌, ap, subst, sym, ℕ, ◌+◌, ◌≤◌, Option, Some, None, Result}
use Rattle.std.proofs.Common.{Ok, Err, inl, inr, arith}
use Rattle.std.proofs.lemmas.Bool.Decides.{eqb_tells}
use Rattle.ticket_book.specs.declared.entry.Kind.{Kind}
use Rattle.ticket_book.specs.declared.entry.Kind.TheVariants.{Place as OfPlace, Stop as OfStop}
use Rattle.ticket_book.specs.declared.entry.Kind.TheVariants.{Mark as OfMark}
use Rattle.route_lines.specs.Searches.{references_in}
use Rattle.route_lines.specs.State.{Item, holder}
use Rattle.route_lines.specs.Sweeps.{IsStep, Step, Other}
use Rattle.route_lines.specs.declared.command.Command.{Command}
use Rattle.route_lines.specs.declared.command.Command.TheVariants.{Place, Word, Show, Find, Floor}
use Rattle.route_lines.specs.declared.command.Command.TheVariants.{After, Before, All, Start}
use Rattle.route_lines.specs.declared.command.Command.TheVariants.{Extend, Join, Cut, Swap, Walk}
use Rattle.route_lines.specs.declared.command.Command.TheVariants.{Mark, Remove, Pack}
use Rattle.route_lines.specs.declared.refusal.Refusal.{Refusal}
use Rattle.route_book.specs.Book.{Book, KeepsItems}
use Rattle.route_book.specs.Removals.{IsPacked, IsPlaceEnded, IsStopEnded, IsRemoved}
use Rattle.route_book.specs.Removals.{Removes, Steps, kind_of, removal_wraps}
use Rattle.route_book.specs.SweepSteps.{end_step, line_step, removal_step, tally}

module _ (top most : ℕ) where
  module _ (before after : ℕ) (old new : Book) (places : old.places.chains.counter ≤ top)
      (stops : old.stops.counter ≤ top) (few : references_in old.state ≤ most) where
    abbrev Is : Step → Type 0
    Is step = IsStep top most step (tally old before) (tally new after)

    other : KeepsItems old new → after ≡ before → Is Other
    other kept looks = (kept.place_counter, (kept.stop_counter, looks))

    removal : (kind : Kind) (t : ℕ) → IsRemoved (Some top) kind t before after old new
        → Is (end_step kind (removal_wraps (Some top) old kind))
    removal OfPlace t h = elim (eqb_tells old.places.chains.counter top) [
      | inl same ↦
          let ended : (packed : Book)
          × ((packed.state ≡ old.state)
          × (IsPacked (Some top) before after old packed
          × IsPlaceEnded (Some top) t packed new)) = rw same.0 at h in
          let pack = ended.1.1.0 in
          let last = ended.1.1.1 in
          let looks = pack.looks in
          subst (λ wraps. Is (end_step OfPlace wraps)) (sym same.0) (
            same.1,
            (
              last.counter ∙ ap (λ n. n + 1) pack.place_counter,
              (ap (λ s. s.counter) last.stops ∙ pack.stop_counter, omega (arith, looks, few)),
            ),
          )
      | inr apart ↦
          let ended : (after ≡ before) × IsPlaceEnded (Some top) t old new = rw apart.0 at h in
          let less = apart.1 in
          subst (λ wraps. Is (end_step OfPlace wraps)) (sym apart.0) (
            omega (arith, places, less),
            (ended.1.counter, (ap (λ s. s.counter) ended.1.stops, ended.0)),
          )
    ]
    removal OfStop t h = elim (eqb_tells old.stops.counter top) [
      | inl same ↦
          let ended : (packed : Book)
          × ((packed.state ≡ old.state)
          × (IsPacked (Some top) before after old packed
          × IsStopEnded (Some top) t packed new)) = rw same.0 at h in
          let pack = ended.1.1.0 in
          let last = ended.1.1.1 in
          let looks = pack.looks in
          subst (λ wraps. Is (end_step OfStop wraps)) (sym same.0) (
            same.1,
            (
              last.counter ∙ ap (λ n. n + 1) pack.stop_counter,
              (
                ap (λ p. p.chains.counter) last.places ∙ pack.place_counter,
                omega (arith, looks, few),
              ),
            ),
          )
      | inr apart ↦
          let ended : (after ≡ before) × IsStopEnded (Some top) t old new = rw apart.0 at h in
          let less = apart.1 in
          subst (λ wraps. Is (end_step OfStop wraps)) (sym apart.0) (
            omega (arith, stops, less),
            (ended.1.counter, (ap (λ p. p.chains.counter) ended.1.places, ended.0)),
          )
    ]
    removal OfMark t h =
        (ap (λ p. p.chains.counter) h.1.places, (ap (λ s. s.counter) h.1.stops, h.0))

    removes : (t : ℕ) (r : Result Item Refusal) → Removes (Some top) t before after old new r
        → Is (removal_step (Some top) old r)
    removes t (Ok item) h = removal (kind_of item) t h
    removes t (Err refusal) h =
        (ap (λ b. b.places.chains.counter) h.0, (ap (λ b. b.stops.counter) h.0, h.1))

  pub is_its_step : (command : Option Command) (before after : ℕ) (old new : Book)
      → old.places.chains.counter ≤ top → old.stops.counter ≤ top → references_in old.state ≤ most
      → Steps (Some top) command before after old new
      → IsStep top most (line_step (Some top) old command) (tally old before) (tally new after)
  is_its_step None before after old new p s few h = other before after old new p s few h.0 h.1
  is_its_step (Some (Remove t)) before after old new p s few h =
      removes before after old new p s few t (holder old.state t) h
  is_its_step (Some Pack) before after old new p s few h =
      (h.place_counter, (h.stop_counter, (let looks = h.looks in omega (arith, looks, few))))
  is_its_step (Some (Place key word near)) before after old new p s few h =
      other before after old new p s few h.0 h.1
  is_its_step (Some (Show t)) before after old new p s few h =
      other before after old new p s few h.0 h.1
  is_its_step (Some (Find key)) before after old new p s few h =
      other before after old new p s few h.0 h.1
  is_its_step (Some (Floor key)) before after old new p s few h =
      other before after old new p s few h.0 h.1
  is_its_step (Some (Word ticket word)) before after old new p s few h =
      other before after old new p s few h.0 h.1
  is_its_step (Some (After t)) before after old new p s few h =
      other before after old new p s few h.0 h.1
  is_its_step (Some (Before t)) before after old new p s few h =
      other before after old new p s few h.0 h.1
  is_its_step (Some All) before after old new p s few h = other before after old new p s few h.0 h.1
  is_its_step (Some (Start at)) before after old new p s few h =
      other before after old new p s few h.0 h.1
  is_its_step (Some (Extend t at)) before after old new p s few h =
      other before after old new p s few h.0 h.1
  is_its_step (Some (Join t u)) before after old new p s few h =
      other before after old new p s few h.0 h.1
  is_its_step (Some (Cut t)) before after old new p s few h =
      other before after old new p s few h.0 h.1
  is_its_step (Some (Swap t u)) before after old new p s few h =
      other before after old new p s few h.0 h.1
  is_its_step (Some (Walk t)) before after old new p s few h =
      other before after old new p s few h.0 h.1
  is_its_step (Some (Mark at t)) before after old new p s few h =
      other before after old new p s few h.0 h.1
