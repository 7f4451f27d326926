use Rattle.std.proofs.Common.{◌≡◌, ◌∙◌, sym, ap, ◌++◌, ℕ, List, Option, Some, None}
use Rattle.std.specs.Io.KnownBytes.{Appends}
use Rattle.route_lines.specs.Text.{replies, after_lines}
use Rattle.route_lines.proofs.laws.states.equal_states_answer_equally.Goals as goal

grown : (held text : List ℕ) (written : Option (List ℕ)) → Appends (Some held) written text
    → written ≡ Some (held ++ text)
grown held text None h = absurd h
grown held text (Some bytes) h = ap (λ b. Some b) h

pub returns : goal.returns
returns c = record {
  state = λ s t later other lines held written kept copied before after began ended same one two.
      one.state ∙ ap (λ x. after_lines x lines) same ∙ sym two.state;
  bytes = λ s t later other lines held written copied before after began ended same one two.
      grown held (replies s lines) written one.replied
      ∙ ap (λ x. Some (held ++ replies x lines)) same
      ∙ sym (grown held (replies t lines) copied two.replied);
}
