use Rattle.triple_arena_chain.proofs.chain_arena.ChainArena.ptrs.Goals as goal

pub returns : goal.returns
returns g c = rw (← c.self.view_is) c.ptrs.ensures
