use Rattle.std.proofs.Common.{◌≡◌, ℕ, Option, sym, ap, ◌∙◌}
use Rattle.triple_arena_ptr.specs.Words.{held_word}
use Rattle.triple_arena_ptr.proofs.optional_inx.OptionalInxPartialOrd.partial_cmp.Goals as goal

pub returns : goal.returns
returns g c =
    let held = g.I.PtrInxCore.held in
    let word = g.I.PtrInxCore.word in
    let is = held_word g.I.PtrInxCore.number held word g.I.PtrInxCore.held_none
    g.I.PtrInxCore.held_some in
    let one : held (word c.args.self.now) ≡ c.get.result =
    ap (λ o. held (word o)) (sym c.get.ensures) ∙ is c.get.result in
    let two : held (word c.args.other.now) ≡ c.get-2.result =
    ap (λ o. held (word o)) (sym c.get-2.ensures) ∙ is c.get-2.result in
    rw (one, two) c.partial_cmp.ensures
