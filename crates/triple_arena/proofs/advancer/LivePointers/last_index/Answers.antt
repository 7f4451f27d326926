use Rattle.std.proofs.Common.{sym, ◌∙◌}
use Rattle.triple_arena.proofs.FreeSlotsLemmas.{last_found, none_found}
use Rattle.triple_arena.proofs.advancer.LivePointers.last_index.Goals as goal

pub returns-in-Some-try_into_usize : goal.returns-in-Some-try_into_usize
returns-in-Some-try_into_usize g c =
    c.get.ensures.value
    ∙ c.in-Some-try_into_usize.ensures.same
    ∙ c.inx.ensures
    ∙ sym (last_found (g.Self.LivePointers.content c.args.self.now)
    {g = g.P.PtrCore.generation c.in-Some.p} c.slots_len.ensures c.in-Some.ensures.found)

pub returns-in-None : goal.returns-in-None
returns-in-None g c =
    sym (none_found (g.Self.LivePointers.content c.args.self.now) c.slots_len.ensures
    c.in-None.ensures.found)
