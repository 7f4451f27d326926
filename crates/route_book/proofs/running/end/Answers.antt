use Rattle.std.proofs.Common.{◌≡◌, ◌∙◌, refl, sym, ℕ, List, [], ◌∷◌, Option, None}
use Rattle.std.proofs.Common.{inr, true≢false, arith}
use Rattle.std.specs.Io.KnownBytes.{Appends, Keeps}
use Rattle.std.proofs.KnownBytes.{Appends-kept}
use Rattle.route_lines.specs.State.{State}
use Rattle.route_lines.specs.Reply.{reply}
use Rattle.route_lines.specs.Run.{Carries}
use Rattle.route_lines.specs.Searches.{CountsFor, LooksWithin}
use Rattle.route_lines.specs.Text.{unended, unended_line}
use Rattle.route_lines.specs.declared.counts.Counts.{Counts}
use Rattle.route_lines.specs.RunLaws.{Carries-one}
use Rattle.route_lines.specs.WrittenLaws.{on_err}
use Rattle.route_book.proofs.running.end.Goals as goal

-- a rest that is not empty is answered as a line that spells no command
rest_answered : (s t : State) (line : List ℕ) (a b c : Option (List ℕ)) (before later : Counts)
    → (line ≡ [] → ⊥) → t ≡ s → Appends a b (reply s None) → Keeps b c
    → CountsFor s None before later → later.looks ≡ before.looks
    → Carries s (unended_line line) t a c before later
rest_answered s t [] a b c before later some state replied kept counts looks = absurd (some refl)
rest_answered s t (x ∷ line) a b c before later some state replied kept counts looks =
    Carries-one s t (unended (x ∷ line)) a c before later state
    (Appends-kept a b c (reply s None) replied kept) counts none
  where
    none : LooksWithin before.looks later.looks 0
    none = record { rise = omega (arith, looks); few = omega (arith, looks) }

-- the rest was answered, and the flush failed
pub returns-clause-err : goal.returns-clause-err
returns-clause-err g c =
    let done = c.in_ok-carry_out.ensures in
    on_err c.flush-2.result (λ line stands.
    let some : line ≡ [] → ⊥ =
    λ none. true≢false (sym ((c.is_empty.ensures.is line stands).1 none) ∙ c.if-is_empty.false)
    in
    inr (rest_answered _ _ line _ _ _ _ _ some done.state done.ok c.flush-2.ensures.bytes
    done.counts done.steps.1))
