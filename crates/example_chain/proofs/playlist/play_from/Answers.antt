use Rattle.std.proofs.Common.{rules, ◌≡◌, ◌%◌, ◌^◌, ◌<◌, Some, None, ap, ◌∙◌, map}
use Rattle.std.specs.List.{sum}
use Rattle.triple_arena.specs.Entries.{value_if}
use Rattle.triple_arena_chain.specs.Links.{ends_in, values_in}
use Rattle.triple_arena_chain.specs.Walks.{ChainSteps}
use Rattle.example_chain.specs.Playlists.{length_at}
use Rattle.example_chain.proofs.PlaylistLemmas.{adds, ends_at, Heard, heard, all_heard, has_length}
use Rattle.example_chain.proofs.playlist.play_from.Goals as goal

-- the walk gave the pointer to a song, and goes on behind it
pub heard_one : (g : _) (c : goal.After-row_known-1 g)
    → Heard (g.A.ChainArenaTrait.links c.args.songs.now)
    (g.A.ChainArenaTrait.chain_walk c.loop-q.player)
    (g.A.ChainArenaTrait.chain_walk c.advance.new.self) c.in-Some-get.length.now
heard_one g c =
    let songs = g.A.ChainArenaTrait.links c.args.songs.now in
    let q = g.P.PtrCore.index c.in-Some.q in
    let h = g.P.PtrCore.generation c.in-Some.q in
    let found : value_if h (g.A.ArenaTrait.entry_at c.args.songs.now q)
    ≡ Some c.in-Some-get.length.now = search rules in
    let value : value_if h (values_in songs q) ≡ Some c.in-Some-get.length.now =
    ap (value_if h) (g.met.A.ChainArenaTrait.links_entries c.args.songs.now q) ∙ found in
    heard songs (g.A.ChainArenaTrait.chain_walk c.loop-q.player)
    (g.A.ChainArenaTrait.chain_walk c.advance.new.self) q h
    c.in-Some-get.length.now c.loop-q.invariant.ends
    (g.met.A.ChainArenaTrait.advances_along c.loop-q.player c.args.songs.now (Some c.in-Some.q)
    c.advance.new.self (search rules)) value

pub loop-q-smaller-in-Some-get : goal.loop-q-smaller-in-Some-get
loop-q-smaller-in-Some-get g c = (heard_one g c).less

pub loop-q-preserved-in-Some-get : goal.loop-q-preserved-in-Some-get
loop-q-preserved-in-Some-get g c =
    let h = heard_one g c in
    record {
      ends = h.ends;
      total = adds c.loop-q.total c.in-Some-get.length.now _ _ _ h.sums c.loop-q.invariant.total;
    }

-- no song that the walk gives is missing
pub loop-q-preserved : goal.loop-q-preserved
loop-q-preserved g c =
    let songs = g.A.ChainArenaTrait.links c.args.songs.now in
    let q = g.P.PtrCore.index c.in-Some.q in
    let h = g.P.PtrCore.generation c.in-Some.q in
    let none : value_if h (g.A.ArenaTrait.entry_at c.args.songs.now q) ≡ None = search rules in
    let missing : value_if h (values_in songs q) ≡ None =
    ap (value_if h) (g.met.A.ChainArenaTrait.links_entries c.args.songs.now q) ∙ none in
    let step = g.met.A.ChainArenaTrait.advances_along c.loop-q.player c.args.songs.now
    (Some c.in-Some.q) c.advance.new.self (search rules) in
    absurd (has_length h (values_in songs q) step.1.0 missing)

pub returns-clause-total : goal.returns-clause-total
returns-clause-total g c =
    let songs = g.A.ChainArenaTrait.links c.args.songs.now in
    let along = c.in_ok-player.ensures.along in
    let given : ChainSteps (ends_in songs) (values_in songs)
    (g.A.ChainArenaTrait.chain_walk c.loop-q.player) None
    (g.A.ChainArenaTrait.chain_walk c.advance.new.self) =
    g.met.A.ChainArenaTrait.advances_along c.loop-q.player c.args.songs.now None c.advance.new.self
    (search rules) in
    let fits : c.loop-q.total < 2 ^ 64 = search rules in
    let whole = ends_at c.loop-q.total _ _
    (all_heard songs (g.A.ChainArenaTrait.chain_walk c.loop-q.player)
    (g.A.ChainArenaTrait.chain_walk c.advance.new.self) c.loop-q.invariant.ends given)
    c.loop-q.invariant.total fits in
    (along.walk, along.from, whole ∙ ap (λ l. sum (map (length_at songs) l) % 2 ^ 64) along.steps)
