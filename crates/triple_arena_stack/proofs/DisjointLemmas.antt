-- A list in two parts, and a write into each.
use Rattle.std.proofs.Common.{◌≡◌, ◌≢◌, ℕ, ◌-◌, ◌<◌, ◌∙◌, ap, sym, subst, List, ◌++◌, length}
use Rattle.std.proofs.Common.{get_or, Some, arith, refl, slice_get, slice_set, length-append}
use Rattle.std.proofs.lemmas.List.{set_comm, set-append_left, set-append_right, get_or_append_left}
use Rattle.std.proofs.lemmas.List.{get_or-append-add, length-set}
use Rattle.std.proofs.lemmas.Option.{slice_get_read}

module _ {X : Type 0} (xs front back : List X) (i j : ℕ) (whole : xs ≡ front ++ back)
    (len : length front ≡ j) where
  pub set-parts : (x y : X) → i < j
      → slice_set front i x ++ slice_set back 0 y ≡ slice_set (slice_set xs i x) j y
  set-parts x y within =
      let longer : length (slice_set front i x) ≡ j = length-set front i x ∙ len in
      let none : j - j ≡ 0 = omega arith in
      sym (ap (λ zs. slice_set (slice_set zs i x) j y) whole
      ∙ ap (λ zs. slice_set zs j y) (set-append_left front back i x (omega (arith, within, len)))
      ∙ set-append_right (slice_set front i x) back j j y longer (omega arith)
      ∙ ap (λ n. slice_set front i x ++ slice_set back n y) none)

  pub get-front : (x : X) → i < j → x ≡ get_or front i x → Some x ≡ slice_get xs i
  get-front x within is =
      sym (slice_get_read xs (length xs) i x refl
      (rw whole (omega (arith, within, len, length-append front back)))
      (rw whole (is ∙ sym (get_or_append_left front back x i (omega (arith, within, len))))))

  pub get-back : (y : X) → 0 < length back → y ≡ get_or back 0 y → Some y ≡ slice_get xs j
  get-back y some is =
      sym (slice_get_read xs (length xs) j y refl
      (rw whole (omega (arith, some, len, length-append front back)))
      (rw whole (is ∙ sym (rw (← len)
      (subst (λ n. get_or (front ++ back) n y ≡ get_or back 0 y) (omega arith)
      (get_or-append-add front back 0 y))))))

-- two writes at indexes from 1 on, in either order
pub with_item_comm : {X : Type 0} (xs : List X) (i j a b : ℕ) (x y : X) → a ≡ i → b ≡ j → 0 < a
    → 0 < b → i ≢ j
    → slice_set (slice_set xs (b - 1) y) (a - 1) x ≡ slice_set (slice_set xs (i - 1) x) (j - 1) y
with_item_comm xs i j a b x y ia jb a_some b_some other =
    rw (← ia, ← jb) (set_comm xs (b - 1) (a - 1) y x
    (λ e. other (omega (arith, e, ia, jb, a_some, b_some))))
