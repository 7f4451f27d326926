use Rattle.std.proofs.Common.{rules, ◌≡◌, ◌≤◌, length, IsTrue, inl, inr, arith}
use Rattle.std.proofs.lemmas.Bool.Decides.{leb_tells}
use Rattle.triple_arena_stack.specs.Room.{capacity}
use Rattle.triple_arena.specs.ArenaRoom.{room_of}
use Rattle.triple_arena.specs.Content.{arena_capacity}
use Rattle.triple_arena.specs.Copy.{last_listed}
use Rattle.triple_arena.specs.LiveEntries.{live_entries}
use Rattle.triple_arena.proofs.arena.Arena.clone.Goals as goal

pub returns-in_err-copy-clause-unmade : goal.returns-in_err-copy-clause-unmade
returns-in_err-copy-clause-unmade g c failed =
    let e = c.in_err-copy.ensures in
    let takes : IsTrue g.S.NonZeroInxGenericStack.takes_memory = search rules in
    let last : length c.up_to_last-last.result.now ≡ last_listed (live_entries c.args.self.now) =
    search rules in
    elim (leb_tells (last_listed (live_entries c.args.self.now))
    (capacity (room_of g.P.Inx.PtrInxCore.greatest (g.S.NonZeroInxGenericStack.room_at 0)))) [
      | inl below ↦ let ok = e.succeeds (omega (arith, last, below.1)) in absurd (cc)
      | inr above ↦ inl (takes, above.1)
    ]

pub returns-in_err-clone_from-clause-unmade : goal.returns-in_err-clone_from-clause-unmade
returns-in_err-clone_from-clause-unmade g c failed =
    let last : length c.up_to_last-last.result.now ≡ last_listed (live_entries c.args.self.now) =
    search rules in
    let fits : length c.up_to_last-last.result.now ≤ arena_capacity c.in_ok-copy.copy =
    search rules in
    elim (c.clone_from.ensures.unmade (search rules)) [
      | inl memory ↦ absurd (omega (arith, memory.1, last, fits))
      | inr left ↦ inr left.0
    ]
