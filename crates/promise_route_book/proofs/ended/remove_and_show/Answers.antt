use Rattle.std.proofs.Common.{◌≡◌, ◌∙◌, ◌∷◌, [], ℕ, Err, refl, subst, sym}
use Rattle.route_lines.specs.Calls.{shown}
use Rattle.route_lines.specs.State.{State, holder}
use Rattle.route_lines.specs.Text.{whole}
use Rattle.route_lines.specs.declared.refusal.Refusal.TheVariants.{Gone}
use Rattle.promise_route_book.proofs.ended.remove_and_show.Goals as goal

shown_gone : (s : State) (t : ℕ) → holder s t ≡ Err Gone → shown s t ≡ Err Gone
shown_gone s t is = rw is refl

pub returns : goal.returns
returns g c = record {
  gone = λ done.
      (let law = c.removed_tickets_are_gone.ensures in
      let t = c.args.ticket in
      let ended = subst (λ s. holder s t ≡ Err Gone) (sym c.remove.ensures.state)
      (law.gone c.args.book.now.state t c.places_arena.ensures.sound done) in
      let later = subst (λ s. holder s t ≡ Err Gone) (sym c.answer.ensures.state)
      (law.for_ever c.remove.new.self.state t (whole c.args.line.now ∷ [])
      c.places_arena-2.ensures.sound ended) in
      c.show.ensures ∙ shown_gone c.answer.new.self.state t later);
}
