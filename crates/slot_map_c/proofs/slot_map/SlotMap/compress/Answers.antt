use Rattle.std.proofs.Common.{ℕ, true≢false, sym, ◌∙◌, subst, IsSome}
use Rattle.triple_arena.specs.Content.{get}
use Rattle.slot_map_c.specs.State.{State, IsAtEnd, IsPast}
use Rattle.slot_map_c.proofs.CompressLemmas.{compressed_sound, compressed_ends, compressed_ended}
use Rattle.slot_map_c.proofs.slot_map.SlotMap.compress.Goals as goal

pub invariant_of-self : goal.invariant_of-self
invariant_of-self c =
    let old : State = record { arena = c.self.inside.arena; is_spent = c.self.inside.is_spent } in
    let new : State = record { arena = c.compress.new.self; is_spent = c.self.inside.is_spent } in
    let before : IsAtEnd old → ⊥
    = λ e. true≢false (sym (c.is_at_end.ensures.1 (subst IsAtEnd c.self.view_is e))
    ∙ c.if-is_at_end.false) in
    compressed_sound old new c.self.invariant c.compress.ensures.compressed before
    c.compress.ensures.formed

pub returns-clause-ends : goal.returns-clause-ends
returns-clause-ends c =
    let old : State = record { arena = c.self.inside.arena; is_spent = c.self.inside.is_spent } in
    let new : State = record { arena = c.compress.new.self; is_spent = c.self.inside.is_spent } in
    let before : IsAtEnd old → ⊥
    = λ e. true≢false (sym (c.is_at_end.ensures.1 (subst IsAtEnd c.self.view_is e))
    ∙ c.if-is_at_end.false) in
    subst (λ (s : State). (i g : ℕ) → IsSome (get s.arena i g) → IsPast new i g) c.self.view_is
    (compressed_ends old new c.self.invariant c.compress.ensures.compressed before)

pub returns-clause-ended : goal.returns-clause-ended
returns-clause-ended c =
    let old : State = record { arena = c.self.inside.arena; is_spent = c.self.inside.is_spent } in
    let new : State = record { arena = c.compress.new.self; is_spent = c.self.inside.is_spent } in
    let before : IsAtEnd old → ⊥
    = λ e. true≢false (sym (c.is_at_end.ensures.1 (subst IsAtEnd c.self.view_is e))
    ∙ c.if-is_at_end.false) in
    subst (λ (s : State). (i g : ℕ) → IsPast s i g → IsPast new i g) c.self.view_is
    (compressed_ended old new c.self.invariant c.compress.ensures.compressed before)
