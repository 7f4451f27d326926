use Rattle.triple_arena_chain.proofs.RestoredLemmas.{walked_once, walked_all}
use Rattle.triple_arena_chain.proofs.laws.walks_give_each_link_once.Goals as goal

pub returns-clause-once : goal.returns-clause-once
returns-clause-once c = walked_once

pub returns-clause-whole : goal.returns-clause-whole
returns-clause-whole c = walked_all
