use Rattle.std.proofs.Common.{ap, ◌∙◌}
use Rattle.std.specs.Prelude.{slice_get}
use Rattle.std.specs.Option.{option_map}
use Rattle.triple_arena.specs.IterMutLaws.{rewritten}
use Rattle.triple_arena.specs.Iterators.{pointer_of}
use Rattle.promise_arena_users.proofs.WritingLemmas.{first_found}
use Rattle.promise_arena_users.proofs.writing.raise_first.Goals as goal

pub returns-clause-first : goal.returns-clause-first
returns-clause-first g c =
    c.raise_next.ensures ∙ ap (λ l. option_map pointer_of (slice_get l 0)) c.iter_mut.ensures.rest

pub returns-clause-found : goal.returns-clause-found
returns-clause-found g c =
    first_found g.P.PtrCore.index g.P.PtrCore.generation c.args.arena.now _ c.raise_next.result
    (c.raise_next.ensures
    ∙ ap (λ l. option_map pointer_of (slice_get l 0)) c.iter_mut.ensures.rest)

pub returns-clause-rewritten : goal.returns-clause-rewritten
returns-clause-rewritten g c = rewritten _ _
