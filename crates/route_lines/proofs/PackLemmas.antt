-- Lines without those that are `pack`.
use Rattle.std.proofs.Common.{◌≡◌, ◌∙◌, sym, ap, refl, Bool, true, false, ◌++◌, ◌∷◌, ℕ, List, []}
use Rattle.std.proofs.Common.{Option, Some, None, cond, codes, filter, flat_map, not}
use Rattle.std.specs.List.{AllByRecursion}
use Rattle.route_lines.specs.Reply.{ended, reply, next}
use Rattle.route_lines.specs.State.{State}
use Rattle.route_lines.specs.Text.{Line, command_in, replies, answered, is_pack, after_lines}
use Rattle.route_lines.specs.declared.command.Command.{Command}
use Rattle.route_lines.specs.declared.command.Command.TheVariants.{Place, Word, Show, Find, Floor}
use Rattle.route_lines.specs.declared.command.Command.TheVariants.{After, Before, All, Remove}
use Rattle.route_lines.specs.declared.command.Command.TheVariants.{Start, Extend, Join, Cut, Swap}
use Rattle.route_lines.specs.declared.command.Command.TheVariants.{Walk, Mark, Pack}

-- a `pack` is answered `ok` and keeps the state
record IsPacked (s : State) (o : Option Command) : Type 0 where
  text : reply s o ≡ ended (codes "ok")
  state : next s o ≡ s

packed : (s : State) (line : Line) → is_pack line ≡ true → IsPacked s (command_in line)
packed s line e = at (command_in line) refl
  where
    at : (o : Option Command) → command_in line ≡ o → IsPacked s (command_in line)
    at None f = let no : is_pack line ≡ false = rw f refl in cc
    at (Some (Place key word near)) f = let no : is_pack line ≡ false = rw f refl in cc
    at (Some (Word ticket word)) f = let no : is_pack line ≡ false = rw f refl in cc
    at (Some (Show ticket)) f = let no : is_pack line ≡ false = rw f refl in cc
    at (Some (Find key)) f = let no : is_pack line ≡ false = rw f refl in cc
    at (Some (Floor key)) f = let no : is_pack line ≡ false = rw f refl in cc
    at (Some (After ticket)) f = let no : is_pack line ≡ false = rw f refl in cc
    at (Some (Before ticket)) f = let no : is_pack line ≡ false = rw f refl in cc
    at (Some All) f = let no : is_pack line ≡ false = rw f refl in cc
    at (Some (Remove ticket)) f = let no : is_pack line ≡ false = rw f refl in cc
    at (Some (Start place)) f = let no : is_pack line ≡ false = rw f refl in cc
    at (Some (Extend stop place)) f = let no : is_pack line ≡ false = rw f refl in cc
    at (Some (Join stop other)) f = let no : is_pack line ≡ false = rw f refl in cc
    at (Some (Cut stop)) f = let no : is_pack line ≡ false = rw f refl in cc
    at (Some (Swap stop other)) f = let no : is_pack line ≡ false = rw f refl in cc
    at (Some (Walk stop)) f = let no : is_pack line ≡ false = rw f refl in cc
    at (Some (Mark place stop)) f = let no : is_pack line ≡ false = rw f refl in cc
    at (Some Pack) f = rw f (record { text = refl; state = refl })

pub replies-answered : (s : State) (lines : List Line)
    → replies s lines ≡ flat_map (λ a. a.1) (answered s lines)
replies-answered s [] = refl
replies-answered s (line ∷ lines) =
    ap (λ text. reply s (command_in line) ++ text)
    (replies-answered (next s (command_in line)) lines)

pub packs-answered : (s : State) (lines : List Line)
    → AllByRecursion (λ a. is_pack a.0 ≡ true → a.1 ≡ ended (codes "ok")) (answered s lines)
packs-answered s [] = tt
packs-answered s (line ∷ lines) =
    ((λ e. (packed s line e).text), packs-answered (next s (command_in line)) lines)

pub others-answered : (s : State) (lines : List Line)
    → answered s (filter (λ line. not (is_pack line)) lines)
    ≡ filter (λ a. not (is_pack a.0)) (answered s lines)
others-answered s [] = refl
others-answered s (line ∷ lines) =
    at (is_pack line) refl (others-answered s lines)
    (others-answered (next s (command_in line)) lines)
  where
    left : List Line
    left = filter (λ l. not (is_pack l)) lines

    rest : List (Line × List ℕ)
    rest = filter (λ a. not (is_pack a.0)) (answered (next s (command_in line)) lines)

    at : (b : Bool) → is_pack line ≡ b
        → answered s left ≡ filter (λ a. not (is_pack a.0)) (answered s lines)
        → answered (next s (command_in line)) left ≡ rest
        → answered s (cond (not b) (line ∷ left) left)
        ≡ cond (not b) ((line, reply s (command_in line)) ∷ rest) rest
    at true e here there = here
        ∙ ap (λ t. filter (λ a. not (is_pack a.0)) (answered t lines)) (sym (packed s line e).state)
    at false e here there = ap (λ more. (line, reply s (command_in line)) ∷ more) there

pub state-unpacked : (s : State) (lines : List Line)
    → after_lines s (filter (λ line. not (is_pack line)) lines) ≡ after_lines s lines
state-unpacked s [] = refl
state-unpacked s (line ∷ lines) =
    at (is_pack line) refl (state-unpacked s lines)
    (state-unpacked (next s (command_in line)) lines)
  where
    left : List Line
    left = filter (λ l. not (is_pack l)) lines

    at : (b : Bool) → is_pack line ≡ b → after_lines s left ≡ after_lines s lines
        → after_lines (next s (command_in line)) left ≡ after_lines (next s (command_in line)) lines
        → after_lines s (cond (not b) (line ∷ left) left)
        ≡ after_lines (next s (command_in line)) lines
    at true e here there = here ∙ ap (λ t. after_lines t lines) (sym (packed s line e).state)
    at false e here there = there
