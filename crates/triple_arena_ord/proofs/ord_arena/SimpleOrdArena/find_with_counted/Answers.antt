use Rattle.std.proofs.Common.{Some, None, sym, ap, ◌∙◌}
use Rattle.triple_arena_ord.specs.Asked.{found_by}
use Rattle.triple_arena_ord.proofs.FoundLemmas.{found_asked, found_by_other}
use Rattle.triple_arena_ord.proofs.ord_arena.SimpleOrdArena.find_with_counted.Goals as goal

pub returns-in-Equal-clause-found : goal.returns-in-Equal-clause-found
returns-in-Equal-clause-found g c = λ side by.
    found_asked g.P.PtrCore.index g.P.PtrCore.generation (goal.F-step g)
    c.args.self.now c.find_similar_with_counted.ensures.ordered
    c.args.f c.find_similar_with_counted.result c.args.probes.now
    c.find_similar_with_counted.new.probes c.find_similar_with_counted.ensures.asked side by _
    (sym (ap found_by (c.in-Some.is ∙ ap (λ d. Some (c.in-Some.last.0, d)) c.in-Equal.is)))

pub returns-in-None-clause-found : goal.returns-in-None-clause-found
returns-in-None-clause-found g c = λ side by.
    found_asked g.P.PtrCore.index g.P.PtrCore.generation (goal.F-step g)
    c.args.self.now c.find_similar_with_counted.ensures.ordered
    c.args.f c.find_similar_with_counted.result c.args.probes.now
    c.find_similar_with_counted.new.probes c.find_similar_with_counted.ensures.asked side by
    None (sym (ap found_by c.in-None.is))

pub returns-in_default : goal.returns-in_default
returns-in_default g c =
    let other = found_by_other c.find_similar_with_counted.result c.in-Some.last.0 c.in-Some.last.1
    c.in-Some.is c.in_default.not-Equal in
    record {
      asked = (
        c.find_similar_with_counted.result,
        c.find_similar_with_counted.ensures.asked,
        other,
      );
      found = λ side by.
          found_asked g.P.PtrCore.index g.P.PtrCore.generation
          (goal.F-step g) c.args.self.now c.find_similar_with_counted.ensures.ordered
          c.args.f c.find_similar_with_counted.result c.args.probes.now
          c.find_similar_with_counted.new.probes c.find_similar_with_counted.ensures.asked side
          by None other;
      rank = c.find_similar_with_counted.ensures.rank;
      bound = c.find_similar_with_counted.ensures.bound;
    }
