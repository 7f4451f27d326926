use Rattle.std.proofs.Common.{option_copied, ap, refl, sym, ◌∙◌, true≢false}
use Rattle.triple_arena.proofs.DirectLemmas.{held_at, nothing_at}
use Rattle.triple_arena.proofs.direct.DirectArena.is_live.Goals as goal

pub returns-in-Some : goal.returns-in-Some
returns-in-Some g c =
    rw (held_at _ c.self.view_is c.args.i.ok (sym (ap option_copied c.in-Some.is) ∙ c.get.ensures))
    c.is_used.ensures

pub returns-in-None : goal.returns-in-None
returns-in-None g c =
    let none = nothing_at _ c.self.view_is (ap option_copied c.in-None.is) c.get.ensures refl in
    (λ e. absurd (true≢false (sym e)), λ h. absurd (true≢false (sym (rw none at h))))
