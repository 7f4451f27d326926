-- The text that answers a command, and the state after it. Each reply line ends with an LF.
use Rattle.std.specs.Prelude.{ℕ, ◌++◌, ◌∷◌, List, [], Option, None, Some, Result, Ok, Err, codes}
use Rattle.std.specs.Prelude.{decimal, flat_map}
use Rattle.route_lines.specs.State.{State, Place, Stop}
use Rattle.route_lines.specs.Calls.{placed, after_place, placed_near, after_place_near, worded}
use Rattle.route_lines.specs.Calls.{after_word, shown, found, floor_of, place_after, place_before}
use Rattle.route_lines.specs.Calls.{started, after_start, extended, after_extend, joined}
use Rattle.route_lines.specs.Calls.{after_join, parted, after_cut, swapped, after_swap, walked}
use Rattle.route_lines.specs.Calls.{marked, after_mark, removed, after_removed}
use Rattle.route_lines.specs.declared.command.Command.{Command}
use Rattle.route_lines.specs.declared.command.Command.TheVariants.{Place as PlaceLine, Word, Show}
use Rattle.route_lines.specs.declared.command.Command.TheVariants.{Find, Floor, After, Before, All}
use Rattle.route_lines.specs.declared.command.Command.TheVariants.{Remove, Start, Extend, Join, Cut}
use Rattle.route_lines.specs.declared.command.Command.TheVariants.{Swap, Walk, Mark, Pack}
use Rattle.route_lines.specs.declared.shown.Shown.{Shown}
use Rattle.route_lines.specs.declared.shown.Shown.TheVariants.{Place as ShownPlace}
use Rattle.route_lines.specs.declared.shown.Shown.TheVariants.{Stop as ShownStop, Mark as ShownMark}
use Rattle.route_lines.specs.declared.refusal.Refusal.{Refusal}
use Rattle.route_lines.specs.declared.refusal.Refusal.TheVariants.{Unknown, Gone, Kind, No, Full}

abbrev pub ended : List ℕ → List ℕ
ended line = line ++ 10 ∷ []

abbrev pub refusal_line : Refusal → List ℕ
refusal_line Unknown = codes "unknown"
refusal_line Gone = codes "gone"
refusal_line Kind = codes "kind"
refusal_line No = codes "no"
refusal_line Full = codes "full"

-- a reference: the ticket that it names, or that its item is gone
abbrev pub reference_text : Option ℕ → List ℕ
reference_text (Some ticket) = decimal ticket
reference_text None = codes "gone"

-- the word that was replaced
abbrev pub old_line : Result (List ℕ) Refusal → List ℕ
old_line (Ok word) = codes "old " ++ word
old_line (Err refusal) = refusal_line refusal

abbrev pub shown_line : Result Shown Refusal → List ℕ
shown_line (Ok (ShownPlace key word)) = decimal key ++ codes " " ++ word
shown_line (Ok (ShownStop place)) = codes "at " ++ reference_text place
shown_line (Ok (ShownMark place stop)) = reference_text place ++ codes " " ++ reference_text stop
shown_line (Err refusal) = refusal_line refusal

abbrev pub found_line : Option ℕ → List ℕ
found_line (Some ticket) = decimal ticket
found_line None = codes "none"

-- a new ticket
abbrev pub ticket_line : Result ℕ Refusal → List ℕ
ticket_line (Ok ticket) = decimal ticket
ticket_line (Err refusal) = refusal_line refusal

-- that a line is carried out
abbrev pub done_line : Result Unit Refusal → List ℕ
done_line (Ok done) = codes "ok"
done_line (Err refusal) = refusal_line refusal

-- the ticket of a place next to another, or that there is none
abbrev pub neighbor_line : Result (Option ℕ) Refusal → List ℕ
neighbor_line (Ok found) = found_line found
neighbor_line (Err refusal) = refusal_line refusal

abbrev pub place_line : Place → List ℕ
place_line p = decimal p.ticket ++ codes " " ++ decimal p.key ++ codes " " ++ p.word

-- every place in the order of the keys, then `end`
abbrev pub places_text : List Place → List ℕ
places_text places = flat_map (λ p. ended (place_line p)) places ++ ended (codes "end")

abbrev pub stop_line : Stop → List ℕ
stop_line t = decimal t.ticket ++ codes " " ++ reference_text t.place

-- every stop of a walk, then `end`
abbrev pub stops_text : List Stop → List ℕ
stops_text stops = flat_map (λ t. ended (stop_line t)) stops ++ ended (codes "end")

abbrev pub walk_text : Result (List Stop) Refusal → List ℕ
walk_text (Ok stops) = stops_text stops
walk_text (Err refusal) = ended (refusal_line refusal)

-- the reply to a command, where there is one, from this state
abbrev pub reply : State → Option Command → List ℕ
reply s None = ended (codes "bad")
reply s (Some (PlaceLine key word None)) = ended (ticket_line (placed s))
reply s (Some (PlaceLine key word (Some near))) = ended (ticket_line (placed_near s near))
reply s (Some (Word ticket word)) = ended (old_line (worded s ticket))
reply s (Some (Show ticket)) = ended (shown_line (shown s ticket))
reply s (Some (Find key)) = ended (found_line (found s key))
reply s (Some (Floor key)) = ended (found_line (floor_of s key))
reply s (Some (After ticket)) = ended (neighbor_line (place_after s ticket))
reply s (Some (Before ticket)) = ended (neighbor_line (place_before s ticket))
reply s (Some All) = places_text s.places
reply s (Some (Remove ticket)) = ended (done_line (removed s ticket))
reply s (Some (Start place)) = ended (ticket_line (started s place))
reply s (Some (Extend stop place)) = ended (ticket_line (extended s stop place))
reply s (Some (Join stop other)) = ended (done_line (joined s stop other))
reply s (Some (Cut stop)) = ended (done_line (parted s stop))
reply s (Some (Swap stop other)) = ended (done_line (swapped s stop other))
reply s (Some (Walk stop)) = walk_text (walked s stop)
reply s (Some (Mark place stop)) = ended (ticket_line (marked s place stop))
reply s (Some Pack) = ended (done_line (Ok tt))

-- the state after it: a question changes nothing, and a pack nothing but where items lie
abbrev pub next : State → Option Command → State
next s None = s
next s (Some (PlaceLine key word None)) = after_place s key word
next s (Some (PlaceLine key word (Some near))) = after_place_near s key word near
next s (Some (Word ticket word)) = after_word s ticket word
next s (Some (Show ticket)) = s
next s (Some (Find key)) = s
next s (Some (Floor key)) = s
next s (Some (After ticket)) = s
next s (Some (Before ticket)) = s
next s (Some All) = s
next s (Some (Remove ticket)) = after_removed s ticket
next s (Some (Start place)) = after_start s place
next s (Some (Extend stop place)) = after_extend s stop place
next s (Some (Join stop other)) = after_join s stop other
next s (Some (Cut stop)) = after_cut s stop
next s (Some (Swap stop other)) = after_swap s stop other
next s (Some (Walk stop)) = s
next s (Some (Mark place stop)) = after_mark s place stop
next s (Some Pack) = s
