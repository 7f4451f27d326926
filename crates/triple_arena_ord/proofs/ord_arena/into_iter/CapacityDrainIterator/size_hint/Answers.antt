use Rattle.std.proofs.Common.{◌≡◌, ℕ, Option, Some, length, sym, ap, ◌∙◌, arith}
use Rattle.triple_arena_ord.proofs.OrderedDrainLemmas.{all_listed}
use Rattle.triple_arena_ord.proofs.ord_arena.into_iter.CapacityDrainIterator.size_hint.Goals as goal

pub returns-clause-lower : goal.returns-clause-lower
returns-clause-lower g c =
    rw (← c.self.view_is)
    (λ _. omega (
      arith,
      c.len-len.ensures.value,
      all_listed c.self.inside.arena c.len-len.ensures.formed.ordered,
    ))

pub returns-clause-upper : goal.returns-clause-upper
returns-clause-upper g c = (
  tt,
  rw (← c.self.view_is)
      (omega (
        arith,
        c.len-len.ensures.value,
        all_listed c.self.inside.arena c.len-len.ensures.formed.ordered,
      )),
)

pub returns-clause-exact : goal.returns-clause-exact
returns-clause-exact g c =
    let left : c.len-len.result ≡ length c.args.self.now = c.len-len.ensures.value
    ∙ sym (all_listed c.self.inside.arena
    c.len-len.ensures.formed.ordered)
    ∙ ap length c.self.view_is in
    ap (λ n. (let hint : ℕ × Option ℕ = (n, Some n) in hint)) left
