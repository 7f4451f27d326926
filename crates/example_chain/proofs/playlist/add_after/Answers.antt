use Rattle.example_chain.proofs.PlaylistLemmas.{added, Added}
use Rattle.example_chain.proofs.playlist.add_after.Given.{Over}
use Rattle.example_chain.proofs.playlist.add_after.Goals as goal

lists : (g : Over) (c : goal.After-insert_within_capacity g)
    → Added g.P.PtrCore.index g.P.PtrCore.generation g.P.Inx.PtrInxCore.number c.args.songs.now
    c.insert_within_capacity.new.self c.args.p c.args.song
    c.insert_within_capacity.result
lists g c =
    added g.P.PtrCore.index g.P.PtrCore.generation g.P.Inx.PtrInxCore.number c.args.songs.now
    c.insert_within_capacity.new.self c.args.p c.args.song
    c.insert_within_capacity.result c.len.ensures.formed
    (λ ok. (c.insert_within_capacity.ensures.inserts.answer.succeeds.0 ok).0)
    c.insert_within_capacity.ensures.inserts.inserted
    c.insert_within_capacity.ensures.err

pub returns-clause-linear : goal.returns-clause-linear
returns-clause-linear g c = (lists g c).linear

pub returns-clause-ring : goal.returns-clause-ring
returns-clause-ring g c = (lists g c).ring

pub returns-clause-others : goal.returns-clause-others
returns-clause-others g c = (lists g c).others

pub returns-clause-song : goal.returns-clause-song
returns-clause-song g c = (lists g c).song

pub returns-clause-counter : goal.returns-clause-counter
returns-clause-counter g c = (lists g c).counter
