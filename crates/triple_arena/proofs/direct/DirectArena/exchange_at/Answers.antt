use Rattle.std.proofs.Common.{refl, ap, ◌∙◌}
use Rattle.std.specs.Int.NonZero.{non_zero_usize_get}
use Rattle.triple_arena.specs.ArenaRoom.{room_of}
use Rattle.triple_arena.specs.DirectContent.{entry_at, live_count}
use Rattle.triple_arena.specs.DirectExchangeLaws.{entry-with_exchange, live-with_exchange}
use Rattle.triple_arena.proofs.DirectExchangeLemmas.{used_at, exchanged}
use Rattle.triple_arena.proofs.direct.DirectArena.exchange_at.Goals as goal

pub exchange_values-requires-clause-i_is_used : goal.exchange_values-requires-clause-i_is_used
exchange_values-requires-clause-i_is_used g c = used_at _ _ c.self.view_is c.requires.i_is_live

pub exchange_values-requires-clause-j_is_used : goal.exchange_values-requires-clause-j_is_used
exchange_values-requires-clause-j_is_used g c = used_at _ _ c.self.view_is c.requires.j_is_live

pub invariant_of-self : goal.invariant_of-self
invariant_of-self g c =
    (exchanged c.self.invariant c.self.view_is c.requires.i_is_live c.requires.j_is_live
    c.requires.two
    c.exchange_values.ensures.items
    (ap (room_of g.P.Inx.PtrInxCore.greatest) c.exchange_values.ensures.room)).sound

pub returns-clause-value : goal.returns-clause-value
returns-clause-value g c =
    (exchanged c.self.invariant c.self.view_is c.requires.i_is_live c.requires.j_is_live
    c.requires.two
    c.exchange_values.ensures.items
    (ap (room_of g.P.Inx.PtrInxCore.greatest) c.exchange_values.ensures.room)).content

pub returns-clause-exchanged : goal.returns-clause-exchanged
returns-clause-exchanged g c =
    let is = returns-clause-value g c in
    record {
      entries = λ k. ap (λ d. entry_at d k) is
          ∙ entry-with_exchange _ _ _ c.requires.i_is_live c.requires.j_is_live c.requires.two k;
      live = ap live_count is
          ∙ live-with_exchange c.args.self.now (non_zero_usize_get c.args.i)
          (non_zero_usize_get c.args.j);
      counter = refl;
      room = ap (room_of g.P.Inx.PtrInxCore.greatest) c.exchange_values.ensures.room
          ∙ ap (λ x. x.room) c.self.view_is;
    }
