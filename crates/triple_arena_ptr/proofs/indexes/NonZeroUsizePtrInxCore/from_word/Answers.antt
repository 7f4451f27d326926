use Rattle.std.proofs.Common.{refl}
use Rattle.std.specs.Int.NonZero.{non_zero_usize_get}
use Rattle.triple_arena_ptr.specs.NonZeros.{usize_determined}
use Rattle.triple_arena_ptr.specs.Words.{made_held}
use Rattle.triple_arena_ptr.proofs.indexes.NonZeroUsizePtrInxCore.from_word.Goals as goal

pub returns : goal.returns
returns c = made_held (λ n ok. record { value = n; ok = ok }) non_zero_usize_get (λ n ok. refl)
    usize_determined (λ i. i.ok) c.args.word_raw.word c.new.result c.new.ensures
