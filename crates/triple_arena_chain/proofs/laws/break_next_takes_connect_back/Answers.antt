use Rattle.triple_arena_chain.proofs.LawLemmas.{connect_answers, connect_back}
use Rattle.triple_arena_chain.proofs.laws.break_next_takes_connect_back.Goals as goal

pub returns-clause-answers : goal.returns-clause-answers
returns-clause-answers g c before between p q met one =
    connect_answers before between (g.P.PtrCore.index p)
    (g.P.PtrCore.generation p) (g.P.PtrCore.index q) (g.P.PtrCore.generation q) met one

pub returns-clause-restored : goal.returns-clause-restored
returns-clause-restored g c before between after p q met one two =
    connect_back before between after (g.P.PtrCore.index p)
    (g.P.PtrCore.generation p) (g.P.PtrCore.index q) (g.P.PtrCore.generation q) met one two
