use Rattle.std.specs.Prelude.{◌≡◌, ◌+◌, ◌%◌, ◌^◌, length, map}
use Rattle.std.specs.List.{sum}
use Rattle.triple_arena_chain.specs.Walks.{left_over, IsEnding}
use Rattle.example_chain.specs.Playlists.{length_at}
use Rattle.example_chain.proofs.playlist.play_from.Given as goal

-- what was heard and what is left make up the whole, and the walk ends
abbrev pub invariant-loop-q : goal.invariant-loop-q
invariant-loop-q g l =
    record {
      ends : IsEnding (g.A.ChainArenaTrait.links l.songs)
          (g.A.ChainArenaTrait.chain_walk l.player);
      total : (l.total + sum
          (map (length_at (g.A.ChainArenaTrait.links l.songs))
          (left_over (g.A.ChainArenaTrait.links l.songs)
          (g.A.ChainArenaTrait.chain_walk l.player)))) % 2 ^ 64
          ≡ sum (map (length_at (g.A.ChainArenaTrait.links l.songs))
          (left_over (g.A.ChainArenaTrait.links l.songs)
          (g.A.ChainArenaTrait.chain_walk l.initial.player))) %
          2 ^ 64;
    }

abbrev pub decreases-loop-q : goal.decreases-loop-q
decreases-loop-q g l =
    length (left_over (g.A.ChainArenaTrait.links l.songs)
    (g.A.ChainArenaTrait.chain_walk l.player))
