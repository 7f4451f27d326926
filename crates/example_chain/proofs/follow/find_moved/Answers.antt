use Rattle.example_chain.proofs.FollowLemmas.{same_pointer, named_by}
use Rattle.example_chain.proofs.follow.find_moved.Goals as goal

pub returns-then-eq : goal.returns-then-eq
returns-then-eq g c =
    named_by (λ m. m.was) c.get.ensures c.in-Some-get.is
    (same_pointer g.P.PtrCore.index g.P.PtrCore.generation g.met.P.PtrCore.determined c.eq.ensures
    (g.met.P.Ptr.equal _ _) c.if-eq.true)
