-- What a step of a rising walk tells, and its end.
use Rattle.std.proofs.Common.{◌≡◌, ◌∙◌, sym, ap, ℕ, ◌+◌, ◌<◌, ◌≤◌, false, refl, arith}
use Rattle.std.proofs.Common.{inl, inr, Option, Some, None, IsSome, is_some, true≢false}
use Rattle.std.proofs.lemmas.Bool.Decides.{leb_tells}
use Rattle.triple_arena.specs.Entries.{generation_at}
use Rattle.triple_arena.specs.Walk.{Walk, Steps, past}

-- a rising walk that has passed an index
pub record HasPassed (w after : Walk) (i : ℕ) : Type 0 where
  pub rises : after.falls ≡ false
  pub low : after.low ≡ i + 1
  pub high : after.high ≡ w.high

pub passed_by : (w after : Walk) (i : ℕ) → w.falls ≡ false → after ≡ past w i → HasPassed w after i
passed_by w after i rises is =
    record {
      rises = rw (is, rises) refl;
      low = rw (is, rises) refl;
      high = rw (is, rises) refl;
    }

module _ {T : Type 0} (at : ℕ → Option (ℕ × T)) (w v : Walk) (rises : w.falls ≡ false) where
  pub record IsStep (i g : ℕ) : Type 0 where
    pub up : w.low ≤ i
    pub within : i ≤ w.high
    pub low : v.low ≡ i + 1
    pub high : v.high ≡ w.high
    pub still_rises : v.falls ≡ false
    pub between : (j : ℕ) → w.low ≤ j → j < i → at j ≡ None
    pub live : generation_at at i ≡ Some g

  pub step_is : (i g : ℕ) → Steps at w (Some (i, g)) v → IsStep i g
  step_is i g step =
      let passed = passed_by w v i rises step.1 in
      record {
        up = step.0.ahead.0;
        within = step.0.ahead.1;
        low = passed.low;
        high = passed.high;
        still_rises = passed.rises;
        between = λ j low less. step.0.first j
            (low, (let h = step.0.ahead.1 in omega (arith, less, h))) (rw rises less);
        live = step.0.live;
      }

  -- at the end nothing is ahead
  pub end_all : (reaches : (j : ℕ) → IsSome (at j) → j ≤ w.high) → Steps at w None v → (j : ℕ)
      → IsSome (at j) → j < w.low
  end_all reaches step j some = elim (leb_tells w.low j) [
    | inr less ↦ less.1
    | inl back ↦ absurd (true≢false (sym some ∙ ap is_some (step.0 j (back.1, reaches j some))))
  ]
