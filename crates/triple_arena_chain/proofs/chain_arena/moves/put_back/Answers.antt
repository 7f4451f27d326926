use Rattle.std.proofs.Common.{rules, ◌≡◌, Some, option_map}
use Rattle.triple_arena_chain.specs.Links.{with_next_of, with_prev_of}
use Rattle.triple_arena_chain.proofs.MoveLemmas.{still_live}
use Rattle.triple_arena_chain.proofs.chain_arena.moves.put_back.Goals as goal

pub join-requires : goal.join-requires
join-requires g c =
    let number = g.P.Inx.PtrInxCore.number in
    let old = c.args.arena.now in
    let own = Some (number c.args.i) in
    let prev = option_map number c.args.prev in
    let next = option_map number c.args.next in
    let set : c.set_prev.new.arena
    ≡ with_prev_of (with_next_of old own next) own prev = search rules in (
      still_live old c.set_prev.new.arena own next own prev set prev c.requires.before,
      still_live old c.set_prev.new.arena own next own prev set next c.requires.after,
    )
