use Rattle.std.proofs.Common.{subst}
use Rattle.route_lines.specs.State.{holder}
use Rattle.route_book.specs.Removals.{Removes}
use Rattle.route_book.proofs.book.RouteBook.remove.Goals as goal

pub returns-clause-removes : goal.returns-clause-removes
returns-clause-removes g c = (
  c.remove_counted.new.counts.looks,
  subst (λ n. Removes g.P.Gen.PtrGenCore.last c.args.ticket n
      c.remove_counted.new.counts.looks c.args.self.now
      c.remove_counted.new.self (holder c.args.self.now.state c.args.ticket)) c.new.ensures.looks
      c.remove_counted.ensures.removes,
)
