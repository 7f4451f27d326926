-- As many entries are listed as are live.
use Rattle.std.proofs.Common.{◌≡◌, ◌∙◌, length}
use Rattle.std.proofs.lemmas.List.{length-map}
use Rattle.triple_arena.specs.Content.{Content, live_count}
use Rattle.triple_arena.specs.LiveEntries.{live_entries, live_entries-length, listed-length}
use Rattle.triple_arena.specs.DirectContent.{DirectContent}
use Rattle.triple_arena.specs.DirectContent as direct
use Rattle.triple_arena_chain.specs.Listed.{listed_value, listed_values}
use Rattle.triple_arena_chain.specs.LinkShape.{IndexLink}

pub as_many : {T : Type 0} (c : Content T) → length (live_entries c) ≡ live_count c
as_many c = live_entries-length c

pub as_many_direct : {T : Type 0} (d : DirectContent T)
    → length (direct.live_entries d) ≡ direct.live_count d
as_many_direct d = listed-length 1 d.slots

pub as_many_links : {T : Type 0} (c : Content (IndexLink T))
    → length (listed_values c) ≡ live_count c
as_many_links c = length-map (live_entries c) listed_value ∙ live_entries-length c
