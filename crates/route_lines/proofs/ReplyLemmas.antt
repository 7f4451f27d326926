-- The lines of a reply, and how long they are.
use Rattle.std.proofs.Common.{lit≤, ◌≡◌, ◌∙◌, sym, ap, subst, refl, Bool, true, false, ◌||◌, ◌==◌}
use Rattle.std.proofs.Common.{ℕ, ◌<◌, ◌≤◌, List, [], ◌∷◌, ◌++◌, length, Option, Some, None, IfSome}
use Rattle.std.proofs.Common.{Result, Ok, Err, IfOk, cond, flat_map, option_map, decimal, codes}
use Rattle.std.proofs.Common.{nat_lt, nat_le, reverse, append_assoc, append-nil, find, arith}
use Rattle.std.proofs.lemmas.List.Elements.{All-nil}
use Rattle.std.specs.List.{AllByRecursion}
use Rattle.std.specs.Option.{option_or, ok_or}
use Rattle.route_lines.specs.Calls.{place_holder, stop_holder, and_then, next_ticket, placed}
use Rattle.route_lines.specs.Calls.{placed_near, worded, shown, found, floor_of, place_after}
use Rattle.route_lines.specs.Calls.{place_before, started, extended, joined, parted, swapped}
use Rattle.route_lines.specs.Calls.{walked, marked, removed}
use Rattle.route_lines.specs.Cuts.{before, behind, first_item, last_item}
use Rattle.route_lines.specs.Number.{IsNumber}
use Rattle.route_lines.specs.Reply.{ended, reply, refusal_line, reference_text, old_line}
use Rattle.route_lines.specs.Reply.{shown_line, found_line, ticket_line, done_line, neighbor_line}
use Rattle.route_lines.specs.Reply.{place_line, places_text, stop_line, stops_text, walk_text}
use Rattle.route_lines.specs.Routes.{walk_from}
use Rattle.route_lines.specs.Sound.{IsSound, IsNumbered}
use Rattle.route_lines.specs.State.{State, Place, Stop, Mark, Item, place, stop, mark, with_key}
use Rattle.route_lines.specs.State.{stop_list, holder, last_ticket}
use Rattle.route_lines.specs.Text.{whole_lines, rest_of}
use Rattle.route_lines.specs.Unfinished.{Cuts, HasNoLineEnd}
use Rattle.route_lines.specs.Word.{IsWord}
use Rattle.route_lines.specs.declared.command.Command.{Command}
use Rattle.route_lines.specs.declared.command.Command.TheVariants.{Place as PlaceLine}
use Rattle.route_lines.specs.declared.command.Command.TheVariants.{Word as WordLine, Show, Find}
use Rattle.route_lines.specs.declared.command.Command.TheVariants.{Floor, After, Before, All}
use Rattle.route_lines.specs.declared.command.Command.TheVariants.{Remove, Start, Extend, Join, Cut}
use Rattle.route_lines.specs.declared.command.Command.TheVariants.{Swap, Walk, Mark as MarkLine}
use Rattle.route_lines.specs.declared.command.Command.TheVariants.{Pack}
use Rattle.route_lines.specs.declared.refusal.Refusal.{Refusal}
use Rattle.route_lines.specs.declared.refusal.Refusal.TheVariants.{Unknown, Gone, Kind, No, Full}
use Rattle.route_lines.specs.CutLaws.{all_weaker, all_reverse, all_before, all_behind, first_in}
use Rattle.route_lines.specs.CutLaws.{last_in, found_in}
use Rattle.route_lines.proofs.LineTextLemmas.{LineText, LineText-append, LineText-number}
use Rattle.route_lines.proofs.LineTextLemmas.{LineText-space, LineText-weaker, LineText-word}
use Rattle.route_lines.proofs.LineTextLemmas.{HasNoLineEnd-line_text}
use Rattle.route_lines.proofs.RouteLemmas.{all_walk}
use Rattle.route_lines.specs.RunLaws.{whole_lines-cut, rest_of-cut}
use Rattle.route_lines.specs.CallLaws.{ticket_left}

-- ---- a text of short lines

pub record ShortLines (text : List ℕ) : Type 0 where
  pub lines : List (List ℕ)
  pub is : text ≡ flat_map ended lines
  pub each : AllByRecursion (LineText 58) lines

ShortLines-cuts : (text : List ℕ) (short : ShortLines text) → Cuts text short.lines []
ShortLines-cuts text short = record {
  whole = short.is ∙ sym (append-nil (flat_map ended short.lines));
  each = all_weaker (LineText 58) (λ line. HasNoLineEnd line) short.lines
      (λ line text. HasNoLineEnd-line_text text) short.each;
  last = All-nil (λ b. (b == 10) ≡ false);
}

pub ShortLines-short : (text : List ℕ) → ShortLines text
    → AllByRecursion (λ line. length line ≤ 58) (whole_lines text)
ShortLines-short text short =
    subst (AllByRecursion (λ line. length line ≤ 58))
    (sym (whole_lines-cut text short.lines [] (ShortLines-cuts text short)))
    (all_weaker (LineText 58) (λ line. length line ≤ 58) short.lines (λ line text. text.short)
    short.each)

pub ShortLines-ended : (text : List ℕ) → ShortLines text → rest_of text ≡ []
ShortLines-ended text short = rest_of-cut text short.lines [] (ShortLines-cuts text short)

ShortLines-one : (line : List ℕ) → LineText 58 line → ShortLines (ended line)
ShortLines-one line text =
    record { lines = line ∷ []; is = sym (append-nil (ended line)); each = (text, tt) }

-- ---- the lines

refusal_text : (refusal : Refusal) → LineText 58 (refusal_line refusal)
refusal_text Unknown = record { bytes = refl; short = lit≤ tt; some = lit≤ tt }
refusal_text Gone = record { bytes = refl; short = lit≤ tt; some = lit≤ tt }
refusal_text Kind = record { bytes = refl; short = lit≤ tt; some = lit≤ tt }
refusal_text No = record { bytes = refl; short = lit≤ tt; some = lit≤ tt }
refusal_text Full = record { bytes = refl; short = lit≤ tt; some = lit≤ tt }

number_text : (n : ℕ) → IsNumber n → LineText 58 (decimal n)
number_text n small = LineText-weaker (lit≤ tt) (LineText-number n small)

reference_short : (reference : Option ℕ) → IfSome reference IsNumber
    → LineText 20 (reference_text reference)
reference_short (Some ticket) small = LineText-number ticket small
reference_short None small = record { bytes = refl; short = lit≤ tt; some = lit≤ tt }

-- what is known of a living place
record PlaceParts (p : Place) : Type 0 where
  ticket : IsNumber p.ticket
  key : IsNumber p.key
  word : IsWord p.word

places_parts : (last : ℕ) (ps : List Place) → IsNumber last
    → AllByRecursion (λ p. (0 < p.ticket) × (p.ticket ≤ last)) ps
    → AllByRecursion (λ p. IsNumber p.key) ps → AllByRecursion (λ p. IsWord p.word) ps
    → AllByRecursion PlaceParts ps
places_parts last [] small given keys words = tt
places_parts last (p ∷ ps) small given keys words = (
  record { ticket = omega (arith, small, given.0.1); key = keys.0; word = words.0 },
  places_parts last ps small given.1 keys.1 words.1,
)

sound_parts : (s : State) → IsSound s → IsNumbered s → AllByRecursion PlaceParts s.places
sound_parts s sound numbered =
    places_parts s.last s.places numbered.last sound.given numbered.keys sound.words

place_text : (p : Place) → PlaceParts p → LineText 58 (place_line p)
place_text p parts =
    let ticket = LineText-append (LineText-number p.ticket parts.ticket) LineText-space in
    let key = LineText-append (LineText-append ticket (LineText-number p.key parts.key))
    LineText-space in
    LineText-append key (LineText-word p.word parts.word)

-- ---- a reply

-- a place that is found by its neighbor, or by its key
found_line_text : (o : Option Place) → IfSome o PlaceParts
    → LineText 58 (found_line (option_map (λ p. p.ticket) o))
found_line_text None parts = record { bytes = refl; short = lit≤ tt; some = lit≤ tt }
found_line_text (Some p) parts = number_text p.ticket parts.ticket

found_text : (s : State) (key : ℕ) → IsSound s → IsNumbered s
    → LineText 58 (found_line (found s key))
found_text s key sound numbered =
    found_line_text (with_key key s.places)
    (found_in PlaceParts (λ p. p.key == key) s.places (sound_parts s sound numbered))

-- what is known of a living item
abbrev ItemParts : Item → Type 0
ItemParts (place p) = PlaceParts p
ItemParts (stop t) = IfSome t.place IsNumber
ItemParts (mark m) = IfSome m.place IsNumber × IfSome m.stop IsNumber

holder_parts : (s : State) (ticket : ℕ) → IsSound s → IsNumbered s
    → IfOk (holder s ticket) ItemParts
holder_parts s ticket sound numbered =
    at ((ticket == 0) || nat_lt s.last ticket) _ _ _
    (found_in PlaceParts (λ p. p.ticket == ticket) s.places (sound_parts s sound numbered))
    (found_in _ (λ t. t.ticket == ticket) (flat_map (λ r. r.stops) s.routes) numbered.stops)
    (found_in _ (λ m. m.ticket == ticket) s.marks numbered.marks)
  where
    at : (b : Bool) (p : Option Place) (t : Option Stop) (m : Option Mark)
        → IfSome p PlaceParts → IfSome t (λ t. IfSome t.place IsNumber)
        → IfSome m (λ m. IfSome m.place IsNumber × IfSome m.stop IsNumber)
        → IfOk (cond b (Err Unknown)
        (ok_or (option_or (option_map place p)
        (option_or (option_map stop t) (option_map mark m))) Gone)) ItemParts
    at true p t m hp ht hm = tt
    at false (Some p) t m hp ht hm = hp
    at false None (Some t) m hp ht hm = ht
    at false None None (Some m) hp ht hm = hm
    at false None None None hp ht hm = tt

shown_text : (s : State) (ticket : ℕ) → IsSound s → IsNumbered s
    → LineText 58 (shown_line (shown s ticket))
shown_text s ticket sound numbered =
    at (holder s ticket) refl (holder_parts s ticket sound numbered)
  where
    at : (r : Result Item Refusal) → holder s ticket ≡ r → IfOk r ItemParts
        → LineText 58 (shown_line (shown s ticket))
    at (Ok (place p)) e parts =
        let key = LineText-append (LineText-number p.key parts.key) LineText-space in
        rw e (LineText-weaker (lit≤ tt) (LineText-append key (LineText-word p.word parts.word)))
    at (Ok (stop t)) e parts =
        let front : LineText 3 (codes "at ") =
        record { bytes = refl; short = lit≤ tt; some = lit≤ tt } in
        rw e (LineText-weaker (lit≤ tt) (LineText-append front (reference_short t.place parts)))
    at (Ok (mark m)) e parts =
        let front = LineText-append (reference_short m.place parts.0) LineText-space in
        rw e (LineText-weaker (lit≤ tt) (LineText-append front (reference_short m.stop parts.1)))
    at (Err refusal) e parts = rw e (refusal_text refusal)

worded_text : (s : State) (ticket : ℕ) → IsSound s → IsNumbered s
    → LineText 58 (old_line (worded s ticket))
worded_text s ticket sound numbered =
    at (holder s ticket) refl (holder_parts s ticket sound numbered)
  where
    old : LineText 4 (codes "old ")
    old = record { bytes = refl; short = lit≤ tt; some = lit≤ tt }

    at : (r : Result Item Refusal) → holder s ticket ≡ r → IfOk r ItemParts
        → LineText 58 (old_line (worded s ticket))
    at (Ok (place p)) e parts =
        rw e (LineText-weaker (lit≤ tt) (LineText-append old (LineText-word p.word parts.word)))
    at (Ok (stop t)) e parts = rw e (refusal_text Kind)
    at (Ok (mark m)) e parts = rw e (refusal_text Kind)
    at (Err refusal) e parts = rw e (refusal_text refusal)

places_short : (ps : List Place) → AllByRecursion PlaceParts ps → ShortLines (places_text ps)
places_short [] parts =
    ShortLines-one (codes "end") (record { bytes = refl; short = lit≤ tt; some = lit≤ tt })
places_short (p ∷ ps) parts =
    let behind = places_short ps parts.1 in
    record {
      lines = place_line p ∷ behind.lines;
      is =
          append_assoc (ended (place_line p)) (flat_map (λ q. ended (place_line q)) ps)
          (ended (codes "end"))
          ∙ ap (λ text. ended (place_line p) ++ text) behind.is;
      each = (place_text p parts.0, behind.each);
    }

floor_text : (s : State) (key : ℕ) → IsSound s → IsNumbered s
    → LineText 58 (found_line (floor_of s key))
floor_text s key sound numbered =
    found_line_text (find (λ p. nat_le p.key key) (reverse s.places))
    (found_in PlaceParts (λ p. nat_le p.key key) (reverse s.places)
    (all_reverse PlaceParts s.places (sound_parts s sound numbered)))

neighbor_text : (r : Result Place Refusal) (next : Option Place) → IfSome next PlaceParts
    → LineText 58 (neighbor_line (and_then r (λ p. Ok (option_map (λ q. q.ticket) next))))
neighbor_text (Ok p) next parts = found_line_text next parts
neighbor_text (Err refusal) next parts = refusal_text refusal

after_text : (s : State) (ticket : ℕ) → IsSound s → IsNumbered s
    → LineText 58 (neighbor_line (place_after s ticket))
after_text s ticket sound numbered =
    neighbor_text (place_holder s ticket) (first_item (behind (λ p. p.ticket == ticket) s.places))
    (first_in PlaceParts (behind (λ p. p.ticket == ticket) s.places)
    (all_behind PlaceParts (λ p. p.ticket == ticket) s.places (sound_parts s sound numbered)))

before_text : (s : State) (ticket : ℕ) → IsSound s → IsNumbered s
    → LineText 58 (neighbor_line (place_before s ticket))
before_text s ticket sound numbered =
    neighbor_text (place_holder s ticket) (last_item (before (λ p. p.ticket == ticket) s.places))
    (last_in PlaceParts (before (λ p. p.ticket == ticket) s.places)
    (all_before PlaceParts (λ p. p.ticket == ticket) s.places (sound_parts s sound numbered)))

-- an answer that is a new ticket, or that says that a line is carried out
ticket_text : (r : Result ℕ Refusal) → IfOk r IsNumber → LineText 58 (ticket_line r)
ticket_text (Ok ticket) small = number_text ticket small
ticket_text (Err refusal) small = refusal_text refusal

done_text : (r : Result Unit Refusal) → LineText 58 (done_line r)
done_text (Ok done) = record { bytes = refl; short = lit≤ tt; some = lit≤ tt }
done_text (Err refusal) = refusal_text refusal

next_number : (s : State) (is_full : Bool) → IsNumbered s
    → IfOk (next_ticket s (is_full || (s.last == last_ticket))) IsNumber
next_number s is_full numbered = at (is_full || (s.last == last_ticket)) refl
  where
    at : (b : Bool) → (is_full || (s.last == last_ticket)) ≡ b → IfOk (next_ticket s b) IsNumber
    at true e = tt
    at false e = ticket_left s.last is_full e numbered.last

if_ok-then : {X Y : Type 0} (P : Y → Type 0) (r : Result X Refusal) (test : X → Result Y Refusal)
    → ((x : X) → IfOk (test x) P) → IfOk (and_then r test) P
if_ok-then P (Ok x) test h = h x
if_ok-then P (Err refusal) test h = tt

placed_number : (s : State) → IsNumbered s → IfOk (placed s) IsNumber
placed_number s numbered = next_number s _ numbered

placed_near_number : (s : State) (near : ℕ) → IsNumbered s → IfOk (placed_near s near) IsNumber
placed_near_number s near numbered =
    if_ok-then IsNumber (place_holder s near) _ (λ p. placed_number s numbered)

started_number : (s : State) (at : ℕ) → IsNumbered s → IfOk (started s at) IsNumber
started_number s at numbered =
    if_ok-then IsNumber (place_holder s at) _ (λ p. next_number s _ numbered)

extended_number : (s : State) (t at : ℕ) → IsNumbered s → IfOk (extended s t at) IsNumber
extended_number s t at numbered =
    if_ok-then IsNumber (stop_holder s t) _ (λ u. started_number s at numbered)

marked_number : (s : State) (at t : ℕ) → IsNumbered s → IfOk (marked s at t) IsNumber
marked_number s at t numbered =
    if_ok-then IsNumber (place_holder s at) _
    (λ p. if_ok-then IsNumber (stop_holder s t) _ (λ u. next_number s _ numbered))

-- what is known of a living stop
record StopParts (t : Stop) : Type 0 where
  ticket : IsNumber t.ticket
  place : IfSome t.place IsNumber

stops_parts : (last : ℕ) (stops : List Stop) → IsNumber last
    → AllByRecursion (λ t. (0 < t.ticket) × (t.ticket ≤ last)) stops
    → AllByRecursion (λ t. IfSome t.place IsNumber) stops
    → AllByRecursion StopParts stops
stops_parts last [] small given places = tt
stops_parts last (t ∷ stops) small given places = (
  record { ticket = omega (arith, small, given.0.1); place = places.0 },
  stops_parts last stops small given.1 places.1,
)

stop_text : (t : Stop) → StopParts t → LineText 58 (stop_line t)
stop_text t parts =
    let ticket = LineText-append (LineText-number t.ticket parts.ticket) LineText-space in
    LineText-weaker (lit≤ tt) (LineText-append ticket (reference_short t.place parts.place))

stops_short : (stops : List Stop) → AllByRecursion StopParts stops → ShortLines (stops_text stops)
stops_short [] parts =
    ShortLines-one (codes "end") (record { bytes = refl; short = lit≤ tt; some = lit≤ tt })
stops_short (t ∷ stops) parts =
    let behind = stops_short stops parts.1 in
    record {
      lines = stop_line t ∷ behind.lines;
      is =
          append_assoc (ended (stop_line t)) (flat_map (λ u. ended (stop_line u)) stops)
          (ended (codes "end"))
          ∙ ap (λ text. ended (stop_line t) ++ text) behind.is;
      each = (stop_text t parts.0, behind.each);
    }

walk_short : (s : State) (t : ℕ) → IsSound s → IsNumbered s → ShortLines (walk_text (walked s t))
walk_short s t sound numbered = at (stop_holder s t)
  where
    at : (r : Result Stop Refusal)
        → ShortLines (walk_text (and_then r (λ x. Ok (walk_from t s.routes))))
    at (Ok x) = stops_short (walk_from t s.routes)
        (all_walk StopParts t s.routes
        (stops_parts s.last (stop_list s.routes) numbered.last sound.given_stops numbered.stops))
    at (Err refusal) = ShortLines-one (refusal_line refusal) (refusal_text refusal)

pub ShortLines-reply : (s : State) (command : Option Command) → IsSound s → IsNumbered s
    → ShortLines (reply s command)
ShortLines-reply s None sound numbered =
    ShortLines-one (codes "bad") (record { bytes = refl; short = lit≤ tt; some = lit≤ tt })
ShortLines-reply s (Some (PlaceLine key word None)) sound numbered =
    ShortLines-one (ticket_line (placed s)) (ticket_text (placed s) (placed_number s numbered))
ShortLines-reply s (Some (PlaceLine key word (Some near))) sound numbered =
    ShortLines-one (ticket_line (placed_near s near))
    (ticket_text (placed_near s near) (placed_near_number s near numbered))
ShortLines-reply s (Some (WordLine t word)) sound numbered =
    ShortLines-one (old_line (worded s t)) (worded_text s t sound numbered)
ShortLines-reply s (Some (Show ticket)) sound numbered =
    ShortLines-one (shown_line (shown s ticket)) (shown_text s ticket sound numbered)
ShortLines-reply s (Some (Find key)) sound numbered =
    ShortLines-one (found_line (found s key)) (found_text s key sound numbered)
ShortLines-reply s (Some (Floor key)) sound numbered =
    ShortLines-one (found_line (floor_of s key)) (floor_text s key sound numbered)
ShortLines-reply s (Some (After ticket)) sound numbered =
    ShortLines-one (neighbor_line (place_after s ticket)) (after_text s ticket sound numbered)
ShortLines-reply s (Some (Before ticket)) sound numbered =
    ShortLines-one (neighbor_line (place_before s ticket)) (before_text s ticket sound numbered)
ShortLines-reply s (Some All) sound numbered = places_short s.places (sound_parts s sound numbered)
ShortLines-reply s (Some (Remove t)) sound numbered =
    ShortLines-one (done_line (removed s t)) (done_text (removed s t))
ShortLines-reply s (Some (Start p)) sound numbered =
    ShortLines-one (ticket_line (started s p))
    (ticket_text (started s p) (started_number s p numbered))
ShortLines-reply s (Some (Extend t p)) sound numbered =
    ShortLines-one (ticket_line (extended s t p))
    (ticket_text (extended s t p) (extended_number s t p numbered))
ShortLines-reply s (Some (Join t u)) sound numbered =
    ShortLines-one (done_line (joined s t u)) (done_text (joined s t u))
ShortLines-reply s (Some (Cut t)) sound numbered =
    ShortLines-one (done_line (parted s t)) (done_text (parted s t))
ShortLines-reply s (Some (Swap t u)) sound numbered =
    ShortLines-one (done_line (swapped s t u)) (done_text (swapped s t u))
ShortLines-reply s (Some (Walk t)) sound numbered = walk_short s t sound numbered
ShortLines-reply s (Some (MarkLine p t)) sound numbered =
    ShortLines-one (ticket_line (marked s p t))
    (ticket_text (marked s p t) (marked_number s p t numbered))
ShortLines-reply s (Some Pack) sound numbered =
    ShortLines-one (done_line (Ok tt)) (done_text (Ok tt))
