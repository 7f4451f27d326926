use Rattle.std.proofs.Common.{subst}
use Rattle.route_book.specs.Removals.{IsPacked}
use Rattle.route_book.proofs.book.RouteBook.pack.Goals as goal

pub returns-clause-packed : goal.returns-clause-packed
returns-clause-packed g c = (
  c.pack_counted.new.counts.looks,
  subst (λ n. IsPacked g.P.Gen.PtrGenCore.last n
      c.pack_counted.new.counts.looks c.args.self.now
      c.pack_counted.new.self) c.new.ensures.looks c.pack_counted.ensures.packed,
)
