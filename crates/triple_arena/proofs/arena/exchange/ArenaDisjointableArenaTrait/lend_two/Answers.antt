use Rattle.std.proofs.Common.{ℕ, suc, IsSome, refl, sym, ap, subst, ◌∙◌, map}
use Rattle.std.specs.Option.{option_map}
use Rattle.triple_arena.specs.Content.{entry_at, with_value}
use Rattle.triple_arena.specs.TwoValuesLaws.{valued}
use Rattle.triple_arena.proofs.arena.exchange.ArenaDisjointableArenaTrait.lend_two.Goals as goal

pub lend_in_either_order-requires-clause-first : goal.lend_in_either_order-requires-clause-first
lend_in_either_order-requires-clause-first g c a one =
    let live = λ (n : ℕ). IsSome (entry_at a n) in
    valued (entry_at a (suc c.slots_before-first.result))
    (subst live (sym c.slots_before-first.ensures) (c.requires.i_is_live a one))

pub lend_in_either_order-requires-clause-second : goal.lend_in_either_order-requires-clause-second
lend_in_either_order-requires-clause-second g c a one =
    let live = λ (n : ℕ). IsSome (entry_at a n) in
    valued (entry_at a (suc c.slots_before-second.result))
    (subst live (sym c.slots_before-second.ensures) (c.requires.j_is_live a one))

pub returns : goal.returns
returns g c =
    let these = c.args.these.now in
    let i = c.slots_before-first.ensures in
    let j = c.slots_before-second.ensures in (
      ((refl, refl), λ x y k. map (λ a. with_value (with_value a (i k) x) (j k) y) these),
      record {
        writes_back = tt;
        values = λ a one.
            let found = c.lend_in_either_order.ensures.value a one in (
              ap (λ n. option_map (λ e. e.1) (entry_at a n)) (sym i) ∙ found.0,
              ap (λ n. option_map (λ e. e.1) (entry_at a n)) (sym j) ∙ found.1,
            );
      },
    )
