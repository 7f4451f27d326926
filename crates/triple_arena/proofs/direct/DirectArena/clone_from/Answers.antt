use Rattle.std.proofs.Common.{rules, length, ap, inl, inr, ◌∙◌}
use Rattle.triple_arena.specs.Copy.{directly_copied}
use Rattle.triple_arena.specs.CopyLaws.{copied_same}
use Rattle.triple_arena.proofs.CopyLemmas.{on_ok, refused_at}
use Rattle.triple_arena.proofs.direct.DirectArena.clone_from.Goals as goal

pub returns-clause-exact : goal.returns-clause-exact
returns-clause-exact g c =
    on_ok c.clone_from_with.result
    (λ m e. e ∙ ap (directly_copied c.args.self.now)
    (copied_same _ _ _ (λ f p u t h k. c.requires u.now t (search rules)) m))
    c.clone_from_with.ensures.mapped c.clone_from_with.ensures.exact

pub returns-clause-unmade : goal.returns-clause-unmade
returns-clause-unmade g c failed =
    elim (c.clone_from_with.ensures.unmade failed) [
      | inl memory ↦ inl memory
      | inr left ↦
          inr (
            (λ always. let k = left.0.refused in let clones =
                always (length left.0.calls) _ (refused_at _ _ _ left.0) in search rules),
            left.1,
            left.2,
          )
    ]
