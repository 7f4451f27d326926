-- Lines that are answered in other rooms: as in these ones, if they are `full` in neither.
use Rattle.std.proofs.Common.{◌≡◌, ◌≢◌, ◌∙◌, sym, ap, subst, refl, Bool, true, false, ◌++◌, ◌∷◌, ℕ}
use Rattle.std.proofs.Common.{List, [], Option, Some, None, Result, Ok, Err, append_assoc}
use Rattle.route_lines.specs.Calls.{after_place, after_removed, and_then, extended, joined, marked}
use Rattle.route_lines.specs.Calls.{next_ticket, parted, place_holder, placed, placed_near, started}
use Rattle.route_lines.specs.Calls.{stop_holder, swapped, unless_refused}
use Rattle.route_lines.specs.Reply.{ended, next, refusal_line, reply, ticket_line}
use Rattle.route_lines.specs.State.{Item, Place, Rooms, State, holder, in_rooms, is_full_of_marks}
use Rattle.route_lines.specs.State.{is_full_of_places, is_full_of_stops, place, stop, mark}
use Rattle.route_lines.specs.Text.{Line, NoneFull, after_lines, command_in, replies}
use Rattle.route_lines.specs.declared.command.Command.{Command}
use Rattle.route_lines.specs.declared.command.Command.TheVariants.{Place as PlaceLine, Word, Show}
use Rattle.route_lines.specs.declared.command.Command.TheVariants.{Find, Floor, After, Before, All}
use Rattle.route_lines.specs.declared.command.Command.TheVariants.{Remove, Start, Extend, Join, Cut}
use Rattle.route_lines.specs.declared.command.Command.TheVariants.{Swap, Walk, Mark as MarkLine}
use Rattle.route_lines.specs.declared.command.Command.TheVariants.{Pack}
use Rattle.route_lines.specs.declared.refusal.Refusal.{Refusal}
use Rattle.route_lines.specs.declared.refusal.Refusal.TheVariants.{Full}

-- a ticket is given, or refused by something else than a room
abbrev IsNotFull : Result ℕ Refusal → Type 0
IsNotFull r = ended (ticket_line r) ≢ ended (refusal_line Full)

-- a further test of which this is so
same_behind : {X : Type 0} (x : Result X Refusal) (f g : X → Result ℕ Refusal)
    → ((y : X) → IsNotFull (f y) → IsNotFull (g y) → g y ≡ f y)
    → IsNotFull (and_then x f) → IsNotFull (and_then x g) → and_then x g ≡ and_then x f
same_behind (Ok y) f g same here there = same y here there
same_behind (Err refusal) f g same here there = refl

module _ (rooms : Rooms) (s : State) where
  same_next : (a b : Bool)
      → IsNotFull (next_ticket s a) → IsNotFull (next_ticket (in_rooms rooms s) b)
      → next_ticket (in_rooms rooms s) b ≡ next_ticket s a
  same_next true b here there = absurd (here refl)
  same_next false true here there = absurd (there refl)
  same_next false false here there = refl

  -- the state after a call, by what it answers
  same_state : {X : Type 0} (x y : Result X Refusal) (f g : X → State) → y ≡ x
      → ((z : X) → x ≡ Ok z → g z ≡ in_rooms rooms (f z))
      → unless_refused (in_rooms rooms s) y g ≡ in_rooms rooms (unless_refused s x f)
  same_state x y f g same each = ap (λ z. unless_refused (in_rooms rooms s) z g) same ∙ by x refl
    where
      by : (z : Result _ Refusal) → x ≡ z
          → unless_refused (in_rooms rooms s) z g ≡ in_rooms rooms (unless_refused s z f)
      by (Ok z) is = each z is
      by (Err refusal) is = refl

  same_removed : (t : ℕ) → after_removed (in_rooms rooms s) t ≡ in_rooms rooms (after_removed s t)
  same_removed t = by (holder s t) refl
    where
      by : (r : Result Item Refusal) → holder s t ≡ r
          → after_removed (in_rooms rooms s) t ≡ in_rooms rooms (after_removed s t)
      by (Ok (place p)) is = rw is refl
      by (Ok (stop v)) is = rw is refl
      by (Ok (mark m)) is = rw is refl
      by (Err refusal) is = rw is refl

  -- a command is answered alike, and leaves the same but for the rooms
  record IsSame (o : Option Command) : Type 0 where
    text : reply (in_rooms rooms s) o ≡ reply s o
    state : next (in_rooms rooms s) o ≡ in_rooms rooms (next s o)

  same_place : IsNotFull (placed s) → IsNotFull (placed (in_rooms rooms s))
      → placed (in_rooms rooms s) ≡ placed s
  same_place = same_next (is_full_of_places s) (is_full_of_places (in_rooms rooms s))

  after_same_place : (key : ℕ) (word : List ℕ) → placed (in_rooms rooms s) ≡ placed s
      → after_place (in_rooms rooms s) key word ≡ in_rooms rooms (after_place s key word)
  after_same_place key word same = same_state (placed s) _ _ _ same (λ t is. refl)

  same_near : (key : ℕ) (word : List ℕ) (near : ℕ)
      → IsNotFull (placed_near s near) → IsNotFull (placed_near (in_rooms rooms s) near)
      → IsSame (Some (PlaceLine key word (Some near)))
  same_near key word near here there = by (place_holder s near) refl
    where
      by : (r : Result Place Refusal) → place_holder s near ≡ r
          → IsSame (Some (PlaceLine key word (Some near)))
      by (Err refusal) is = record { text = rw is refl; state = rw is refl }
      by (Ok p) is =
          let now : IsNotFull (placed s) = λ full. here (rw is full) in
          let then : IsNotFull (placed (in_rooms rooms s)) = λ full. there (rw is full) in
          let same = same_place now then in
          record {
            text = rw is (ap (λ r. ended (ticket_line r)) same);
            state = rw is (after_same_place key word same);
          }

  same : (o : Option Command)
      → reply s o ≢ ended (refusal_line Full)
      → reply (in_rooms rooms s) o ≢ ended (refusal_line Full)
      → IsSame o
  same None here there = record { text = refl; state = refl }
  same (Some (PlaceLine key word None)) here there =
      let alike = same_place here there in
      record {
        text = ap (λ r. ended (ticket_line r)) alike;
        state = after_same_place key word alike;
      }
  same (Some (PlaceLine key word (Some near))) here there = same_near key word near here there
  same (Some (Word t word)) here there = record {
    text = refl;
    state = same_state (place_holder s t) _ _ _ refl (λ p is. refl);
  }
  same (Some (Show t)) here there = record { text = refl; state = refl }
  same (Some (Find key)) here there = record { text = refl; state = refl }
  same (Some (Floor key)) here there = record { text = refl; state = refl }
  same (Some (After t)) here there = record { text = refl; state = refl }
  same (Some (Before t)) here there = record { text = refl; state = refl }
  same (Some All) here there = record { text = refl; state = refl }
  same (Some (Remove t)) here there = record { text = refl; state = same_removed t }
  same (Some (Start at)) here there =
      let full = is_full_of_stops s in
      let full' = is_full_of_stops (in_rooms rooms s) in
      let alike : started (in_rooms rooms s) at ≡ started s at =
      same_behind (place_holder s at) _ _ (λ p. same_next full full') here there in
      record {
        text = ap (λ r. ended (ticket_line r)) alike;
        state = same_state (started s at) _ _ _ alike (λ t is. refl);
      }
  same (Some (Extend t at)) here there =
      let full = is_full_of_stops s in
      let full' = is_full_of_stops (in_rooms rooms s) in
      let alike : extended (in_rooms rooms s) t at ≡ extended s t at =
      same_behind (stop_holder s t) _ _ (λ v.
      same_behind (place_holder s at) _ _ (λ p. same_next full full')) here there in
      record {
        text = ap (λ r. ended (ticket_line r)) alike;
        state = same_state (extended s t at) _ _ _ alike (λ t is. refl);
      }
  same (Some (Join t u)) here there = record {
    text = refl;
    state = same_state (joined s t u) _ _ _ refl (λ ok is. refl);
  }
  same (Some (Cut t)) here there = record {
    text = refl;
    state = same_state (parted s t) _ _ _ refl (λ ok is. refl);
  }
  same (Some (Swap t u)) here there = record {
    text = refl;
    state = same_state (swapped s t u) _ _ _ refl (λ ok is. refl);
  }
  same (Some (Walk t)) here there = record { text = refl; state = refl }
  same (Some (MarkLine at t)) here there =
      let full = is_full_of_marks s in
      let full' = is_full_of_marks (in_rooms rooms s) in
      let alike : marked (in_rooms rooms s) at t ≡ marked s at t =
      same_behind (place_holder s at) _ _ (λ p.
      same_behind (stop_holder s t) _ _ (λ v. same_next full full')) here there in
      record {
        text = ap (λ r. ended (ticket_line r)) alike;
        state = same_state (marked s at t) _ _ _ alike (λ t is. refl);
      }
  same (Some Pack) here there = record { text = refl; state = refl }

-- the same of lines, one after another
module _ (rooms : Rooms) where
  rest_full : (t : State) (s : State) (lines : List Line) → t ≡ in_rooms rooms s
      → NoneFull t lines → NoneFull (in_rooms rooms s) lines
  rest_full t s lines is none = subst (λ x. NoneFull x lines) is none

  same_replies : (s : State) (lines : List Line)
      → NoneFull s lines → NoneFull (in_rooms rooms s) lines
      → replies (in_rooms rooms s) lines ≡ replies s lines
  same_replies s [] here there = refl
  same_replies s (line ∷ lines) here there =
      let o = command_in line in
      let one = same rooms s o here.0 there.0 in
      let rest = same_replies (next s o) lines here.1
      (rest_full (next (in_rooms rooms s) o) (next s o) lines one.state there.1) in
      ap (λ text. text ++ replies (next (in_rooms rooms s) o) lines) one.text
      ∙ ap (λ t. reply s o ++ replies t lines) one.state
      ∙ ap (λ text. reply s o ++ text) rest

  same_after : (s : State) (lines : List Line)
      → NoneFull s lines → NoneFull (in_rooms rooms s) lines
      → after_lines (in_rooms rooms s) lines ≡ in_rooms rooms (after_lines s lines)
  same_after s [] here there = refl
  same_after s (line ∷ lines) here there =
      let o = command_in line in
      let one = same rooms s o here.0 there.0 in
      ap (λ t. after_lines t lines) one.state
      ∙ same_after (next s o) lines here.1
      (rest_full (next (in_rooms rooms s) o) (next s o) lines one.state there.1)

replies-append : (s : State) (xs ys : List Line)
    → replies s (xs ++ ys) ≡ replies s xs ++ replies (after_lines s xs) ys
replies-append s [] ys = refl
replies-append s (line ∷ xs) ys =
    let o = command_in line in
    let t = next s o in
    ap (λ text. reply s o ++ text) (replies-append t xs ys)
    ∙ sym (append_assoc (reply s o) (replies t xs) (replies (after_lines t xs) ys))

after-append : (s : State) (xs ys : List Line)
    → after_lines s (xs ++ ys) ≡ after_lines (after_lines s xs) ys
after-append s [] ys = refl
after-append s (line ∷ xs) ys = after-append (next s (command_in line)) xs ys

pub replies-moved : (s : State) (rooms : Rooms) (before behind : List Line)
    → NoneFull (after_lines s before) behind
    → NoneFull (in_rooms rooms (after_lines s before)) behind
    → replies s (before ++ behind)
    ≡ replies s before ++ replies (in_rooms rooms (after_lines s before)) behind
replies-moved s rooms before behind here there =
    replies-append s before behind
    ∙ ap (λ text. replies s before ++ text)
    (sym (same_replies rooms (after_lines s before) behind here there))

pub after-moved : (s : State) (rooms : Rooms) (before behind : List Line)
    → NoneFull (after_lines s before) behind
    → NoneFull (in_rooms rooms (after_lines s before)) behind
    → after_lines (in_rooms rooms (after_lines s before)) behind
    ≡ in_rooms rooms (after_lines s (before ++ behind))
after-moved s rooms before behind here there =
    same_after rooms (after_lines s before) behind here there
    ∙ ap (in_rooms rooms) (sym (after-append s before behind))
