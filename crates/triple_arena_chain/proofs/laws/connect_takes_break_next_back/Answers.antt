use Rattle.triple_arena_chain.proofs.LawLemmas.{break_next_back}
use Rattle.triple_arena_chain.proofs.laws.connect_takes_break_next_back.Goals as goal

pub returns : goal.returns
returns g c before between after p q chained next one two =
    break_next_back before between after p q chained next (one q next) two
