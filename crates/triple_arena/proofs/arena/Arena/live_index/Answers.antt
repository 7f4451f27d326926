use Rattle.std.proofs.Common.{option_copied, sym, ap, refl, ◌∙◌, true≢false, rules}
use Rattle.triple_arena.specs.Slot.{entry_of}
use Rattle.triple_arena.specs.Entries.{value_if}
use Rattle.triple_arena.proofs.FreeListLemmas.{get_of_slot, get_of_none}
use Rattle.triple_arena.proofs.arena.Arena.live_index.Goals as goal

pub returns-then-is_at-clause-live : goal.returns-then-is_at-clause-live
returns-then-is_at-clause-live g c =
    let found =
    get_of_slot _ _ _ c.self.view_is (ap option_copied c.in-Some-get.is) c.get.ensures
    c.in-Some.i.ok (c.in-Some.ensures.same ∙ c.inx.ensures)
    ∙ ap (λ n. value_if n (entry_of c.in-Some-get.slot.now)) (sym c.generation.ensures) in
    (λ _. rw found (c.is_at.ensures.0 (search rules)), λ _. refl)

pub returns-else-is_at-clause-live : goal.returns-else-is_at-clause-live
returns-else-is_at-clause-live g c =
    let found =
    get_of_slot _ _ _ c.self.view_is (ap option_copied c.in-Some-get.is) c.get.ensures
    c.in-Some.i.ok (c.in-Some.ensures.same ∙ c.inx.ensures)
    ∙ ap (λ n. value_if n (entry_of c.in-Some-get.slot.now)) (sym c.generation.ensures) in (
      λ e. absurd (true≢false (sym e)),
      λ h. let is = c.is_at.ensures.1 (rw found at h) in search rules,
    )

pub returns-in-None-get-clause-live : goal.returns-in-None-get-clause-live
returns-in-None-get-clause-live g c =
    let found = get_of_none _ _ (g.P.PtrCore.generation c.args.p) c.self.view_is (ap option_copied
    c.in-None-get.is) c.get.ensures (c.in-Some.ensures.same ∙ c.inx.ensures) in
    (λ e. absurd (true≢false (sym e)), λ h. absurd (true≢false (sym (rw found at h))))
