-- Songs by their lengths.
use Rattle.std.specs.Prelude.{ℕ, Option, Some, None}
use Rattle.triple_arena.specs.Content.{Content}
use Rattle.triple_arena_chain.specs.LinkShape.{IndexLink}
use Rattle.triple_arena_chain.specs.Links.{values_in}

-- the length of an entry, or 0
abbrev pub length_of : Option (ℕ × ℕ) → ℕ
length_of None = 0
length_of (Some song) = song.1

-- the length of the song at an index, or 0 where there is none
abbrev pub length_at : Content (IndexLink ℕ) → ℕ → ℕ
length_at c i = length_of (values_in c i)
