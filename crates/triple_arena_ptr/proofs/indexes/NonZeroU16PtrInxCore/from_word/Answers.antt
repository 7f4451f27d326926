use Rattle.std.proofs.Common.{refl}
use Rattle.std.specs.Int.NonZero.{non_zero_u16_get}
use Rattle.triple_arena_ptr.specs.NonZeros.{u16_determined}
use Rattle.triple_arena_ptr.specs.Words.{made_held}
use Rattle.triple_arena_ptr.proofs.indexes.NonZeroU16PtrInxCore.from_word.Goals as goal

pub returns : goal.returns
returns c = made_held (λ n ok. record { value = n; ok = ok }) non_zero_u16_get (λ n ok. refl)
    u16_determined (λ i. i.ok) c.args.word_raw c.new.result c.new.ensures
