use Rattle.triple_arena_chain.proofs.LawLemmas.{exchange_answers, exchange_back}
use Rattle.triple_arena_chain.proofs.laws.exchange_next_takes_itself_back.Goals as goal

pub returns-clause-answers : goal.returns-clause-answers
returns-clause-answers g c before between p q have one =
    exchange_answers before between (g.P.PtrCore.index p) (g.P.PtrCore.generation p)
    (g.P.PtrCore.index q) (g.P.PtrCore.generation q) have.0 have.1 one

pub returns-clause-restored : goal.returns-clause-restored
returns-clause-restored g c before between after p q s t chained out_p out_q one two =
    exchange_back before between after p q s t chained out_p out_q (one s t out_p out_q) two
