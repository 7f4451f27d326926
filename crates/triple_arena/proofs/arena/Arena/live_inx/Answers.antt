use Rattle.std.proofs.Common.{option_copied, sym, ap, refl, true≢false}
use Rattle.triple_arena.proofs.FreeListLemmas.{entry_of_some, entry_of_none, entry_some, value_some}
use Rattle.triple_arena.proofs.FreeListLemmas.{copied_some, copied_none}
use Rattle.triple_arena.proofs.arena.Arena.live_inx.Goals as goal

pub returns-then-is_some-clause-live : goal.returns-then-is_some-clause-live
returns-then-is_some-clause-live g c =
    let found = entry_of_some _ _ c.self.view_is (ap option_copied c.in-Some-get.is) c.get.ensures
    c.in-Some.i.ok c.in-Some.ensures.same in (
      λ _. rw found (entry_some _
          (rw (← c.value.ensures) (copied_some _ (sym c.if-is_some.ensures)))),
      λ _. refl,
    )

pub returns-else-is_some-clause-live : goal.returns-else-is_some-clause-live
returns-else-is_some-clause-live g c =
    let found = entry_of_some _ _ c.self.view_is (ap option_copied c.in-Some-get.is) c.get.ensures
    c.in-Some.i.ok c.in-Some.ensures.same in (
      λ e. absurd (true≢false (sym e)),
      λ h. absurd (copied_none _ (sym c.if-is_some.ensures)
          (rw c.value.ensures (value_some _ (rw found at h)))),
    )

pub returns-in-None-get-clause-live : goal.returns-in-None-get-clause-live
returns-in-None-get-clause-live g c =
    let found = entry_of_none _ _ c.self.view_is (ap option_copied c.in-None-get.is) c.get.ensures
    c.in-Some.ensures.same in
    (λ e. absurd (true≢false (sym e)), λ h. absurd (true≢false (sym (rw found at h))))
