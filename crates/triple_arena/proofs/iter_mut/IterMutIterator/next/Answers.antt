use Rattle.std.proofs.Common.{rules, ◌≡◌, ◌∷◌, ◌+◌, ap, sym, ◌∙◌}
use Rattle.std.specs.Prelude.{Some}
use Rattle.std.specs.Option.{option_map}
use Rattle.triple_arena.specs.IterMut.{entries_of}
use Rattle.triple_arena.proofs.IterMutLemmas.{first_entry}
use Rattle.triple_arena.proofs.iter_mut.IterMutIterator.next.Goals as goal

pub returns-in-Some-into_value-clause-steps : goal.returns-in-Some-into_value-clause-steps
returns-in-Some-into_value-clause-steps g c =
    let key = g.E.SlotKey.key_number in
    let held = g.E.LentValue.held in
    let inside = c.loop-self.self-inside in
    let slot = c.pop-slot.result.slot in
    let has_key : Some (g.P.PtrCore.generation c.pointer_at.result) ≡ key slot =
    ap Some (c.pointer_at.ensures.has_generation ∙
    sym (g.met.E.LentEntryMut.numbers c.in-Some.generation))
    ∙ ap (option_map g.E.SlotKey.number_of) (sym c.in-Some.is) ∙ c.key.ensures.0 in
    let has_value : Some c.in-Some-into_value.value.now ≡ held slot =
    ap (option_map (λ r. r.now)) (sym c.in-Some-into_value.is) ∙ c.into_value.ensures ∙
    ap (λ s. held s.slot) c.key.ensures.1 in
    let at : inside.passed + 1 ≡ g.P.PtrCore.index c.pointer_at.result = search rules in
    c.loop-self.invariant.2
    ∙ first_entry key held (inside.passed + 1) inside.slots.run slot c.pop-slot.new.self.run _ _
    c.pop-slot.ensures.0 has_key has_value
    ∙ ap (λ i. (i, (g.P.PtrCore.generation c.pointer_at.result, c.in-Some-into_value.value.now)) ∷
    entries_of key held (inside.passed + 1 + 1) c.pop-slot.new.self.run) at
