-- A number that is not 0 is determined by its value.
use Rattle.std.specs.Prelude.{◌≡◌, ◌<◌}
use Rattle.std.specs.Coded.{le_prop}
use Rattle.std.proofs.Math.Path.{to_path_p}
use Rattle.std.specs.Int.NonZero.{non_zero_u8_get, non_zero_u16_get, non_zero_u32_get}
use Rattle.std.specs.Int.NonZero.{non_zero_u64_get, non_zero_u128_get, non_zero_usize_get}
use Rattle.std.specs.declared.num.NonZeroU8.{NonZeroU8}
use Rattle.std.specs.declared.num.NonZeroU16.{NonZeroU16}
use Rattle.std.specs.declared.num.NonZeroU32.{NonZeroU32}
use Rattle.std.specs.declared.num.NonZeroU64.{NonZeroU64}
use Rattle.std.specs.declared.num.NonZeroU128.{NonZeroU128}
use Rattle.std.specs.declared.num.NonZeroUsize.{NonZeroUsize}

pub u8_determined : (a b : NonZeroU8) → non_zero_u8_get a ≡ non_zero_u8_get b → a ≡ b
u8_determined a b q = λ i. record {
  value = q i;
  ok = to_path_p (λ j. 0 < q j) {a = a.ok} {b = b.ok} (le_prop _ _) i;
}

pub u16_determined : (a b : NonZeroU16) → non_zero_u16_get a ≡ non_zero_u16_get b → a ≡ b
u16_determined a b q = λ i. record {
  value = q i;
  ok = to_path_p (λ j. 0 < q j) {a = a.ok} {b = b.ok} (le_prop _ _) i;
}

pub u32_determined : (a b : NonZeroU32) → non_zero_u32_get a ≡ non_zero_u32_get b → a ≡ b
u32_determined a b q = λ i. record {
  value = q i;
  ok = to_path_p (λ j. 0 < q j) {a = a.ok} {b = b.ok} (le_prop _ _) i;
}

pub u64_determined : (a b : NonZeroU64) → non_zero_u64_get a ≡ non_zero_u64_get b → a ≡ b
u64_determined a b q = λ i. record {
  value = q i;
  ok = to_path_p (λ j. 0 < q j) {a = a.ok} {b = b.ok} (le_prop _ _) i;
}

pub u128_determined : (a b : NonZeroU128) → non_zero_u128_get a ≡ non_zero_u128_get b → a ≡ b
u128_determined a b q
    = λ i. record {
      value = q i;
      ok = to_path_p (λ j. 0 < q j) {a = a.ok} {b = b.ok} (le_prop _ _) i;
    }

pub usize_determined : (a b : NonZeroUsize) → non_zero_usize_get a ≡ non_zero_usize_get b → a ≡ b
usize_determined a b q
    = λ i. record {
      value = q i;
      ok = to_path_p (λ j. 0 < q j) {a = a.ok} {b = b.ok} (le_prop _ _) i;
    }
