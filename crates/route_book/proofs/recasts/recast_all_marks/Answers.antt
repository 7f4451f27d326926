use Rattle.triple_arena.specs.ContentLaws.{free-with_value}
use Rattle.route_book.proofs.recasts.recast_all_marks.Goals as goal

pub returns-clause-free : goal.returns-clause-free
returns-clause-free g c =
    c.recast_marks.ensures.kept_list (λ s. s.free) (λ s i m. free-with_value s i m)
