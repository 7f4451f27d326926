-- An arena with two values written is sound, and is as it was but for them.
use Rattle.std.proofs.Common.{◌≡◌, ◌<◌, refl, sym, ap, subst, ◌∙◌, arith, ℕ, zero, suc, ◌-◌, List}
use Rattle.std.proofs.Common.{[], ◌∷◌, ◌++◌, length, map, IsSome, slice_get, slice_set}
use Rattle.std.proofs.lemmas.Bool.{false≢true}
use Rattle.std.specs.Prelude.{Option, Some, None, slice_index_or}
use Rattle.std.specs.Option.{option_map}
use Rattle.triple_arena_stack.specs.Room.{Room}
use Rattle.triple_arena.specs.Slot.{Slot, free, used, entry_of, value_of, with_slot_value}
use Rattle.triple_arena.specs.Content.{Content, entry_at, with_value}
use Rattle.triple_arena.specs.Layout.{content_of, IsSound}
use Rattle.triple_arena.specs.TwoValues.{changed_at, written_both, with_two_values}
use Rattle.triple_arena.proofs.TwoItemsLemmas.{
  Parted,
  parted,
  replaced,
  along,
  first_at,
  second_at,
  written_is,
}
use Rattle.triple_arena.proofs.FreeListLemmas.{rewritten, entry_of_slot, value_of_entry}

module _ {X : Type 0} where
  pub get_front : (front : List X) (a : X) (back : List X) →
      slice_get (front ++ a ∷ back) (length front) ≡ Some a
  get_front [] a back = refl
  get_front (x ∷ xs) a back = get_front xs a back

  pub set_front : (front : List X) (a : X) (back : List X) (b : X) →
      slice_set (front ++ a ∷ back) (length front) b ≡ front ++ b ∷ back
  set_front [] a back b = refl
  set_front (x ∷ xs) a back b = ap (λ (l : List X). x ∷ l) (set_front xs a back b)

  pub the_one : (xs : List X) → length xs ≡ 1 → (x : X) × (xs ≡ x ∷ [])
  the_one [] e = absurd (omega (arith, e))
  the_one (x ∷ []) e = (x, refl)
  the_one (x ∷ y ∷ xs) e = absurd (omega (arith, e))

  length-changed : (n : ℕ) (f : X → X) (xs : List X) → length (changed_at n f xs) ≡ length xs
  length-changed n f [] = refl
  length-changed zero f (x ∷ xs) = refl
  length-changed (suc n) f (x ∷ xs) = ap suc (length-changed n f xs)

  pub length-written : {T : Type 0} (with : X → T → X) (xs : List X) (low high : ℕ) (x y : T) →
      length (written_both with xs low high x y) ≡ length xs
  length-written with xs low high x y = length-changed high (λ e. with e y)
      (changed_at low (λ e. with e x) xs) ∙ length-changed low (λ e. with e x) xs

module _ {T : Type 0} where
  pub value_at_slot : (es : List (Slot T)) (n : ℕ) →
      option_map (λ (e : ℕ × T). e.1) (slice_index_or (map entry_of es) n None) ≡ slice_index_or
      (map value_of es) n None
  value_at_slot [] zero = refl
  value_at_slot [] (suc n) = refl
  value_at_slot (e ∷ es) zero = value_of_entry e
  value_at_slot (e ∷ es) (suc n) = value_at_slot es n

  pub is_within : (es : List (Slot T)) (n : ℕ) → IsSome (slice_index_or (map value_of es) n None) →
      n < length es
  is_within [] zero p = absurd (false≢true p)
  is_within [] (suc n) p = absurd (false≢true p)
  is_within (e ∷ es) zero p = omega arith
  is_within (e ∷ es) (suc n) p = let q = is_within es n p in omega (arith, q)

  live_entry : (s : Slot T) → IsSome (value_of s) → (e : ℕ × T) × (entry_of s ≡ Some e)
  live_entry (free p n) some = absurd (false≢true some)
  live_entry (used g t) some = ((g, t), refl)

  pub record Written (es' : List (Slot T)) (len : ℕ) (head : Option ℕ) (room' : Room) (g : ℕ)
      (c : Content T) : Type 0 where
    pub sound : IsSound es' len head room'
    pub content : content_of es' room' g head ≡ c

  pub written : {es es' : List (Slot T)} {len : ℕ} (low high : ℕ) {head : Option ℕ}
      {room room' : Room} {g : ℕ} {c : Content T} (x y : T)
      → IsSound es len head room → content_of es room g head ≡ c → low < high
      → IsSome (slice_index_or (map value_of es) low None) →
      IsSome (slice_index_or (map value_of es) high None)
      → es' ≡ written_both with_slot_value es low high x y → room' ≡ room
      → Written es' len head room' g (with_two_values c low high x y)
  written {es} {es'} low high {head} {room} {g = g} {c = c} x y sound seen order live₁ live₂ is kept
      =
      let p : Parted es low high = parted es low high order (is_within es high live₂) in
      let u₁ : IsSome (value_of p.first) = subst (λ t. IsSome t) (first_at p value_of) live₁ in
      let u₂ : IsSome (value_of p.second) = subst (λ t. IsSome t) (second_at p value_of) live₂ in
      let a' : Slot T = with_slot_value p.first x in
      let b' : Slot T = with_slot_value p.second y in
      let es₁ : List (Slot T) = replaced p a' p.second in
      let low_is : length p.front ≡ low = p.low_is in
      let low₀ : suc low - 1 ≡ low = omega arith in
      let high₀ : suc high - 1 ≡ high = omega arith in
      let get₁ : slice_get es (suc low - 1) ≡ Some p.first =
      ap (λ (n : ℕ). slice_get es n) (low₀ ∙ sym low_is) ∙
      ap (λ (l : List (Slot T)). slice_get l (length p.front)) p.whole ∙
      get_front p.front p.first (p.mid ++ p.second ∷ p.back) in
      let set₁ : es₁ ≡ slice_set es (suc low - 1) a' =
      sym (ap (λ (n : ℕ). slice_set es n a') (low₀ ∙ sym low_is) ∙
      ap (λ (l : List (Slot T)). slice_set l (length p.front) a') p.whole ∙
      set_front p.front p.first (p.mid ++ p.second ∷ p.back) a') in
      let e₁ = live_entry p.first u₁ in
      let at₁ : entry_at c (suc low) ≡ Some e₁.0 = entry_of_slot es head seen (omega arith) get₁ ∙
      e₁.1 in
      let one = rewritten (suc low) x sound seen at₁ get₁ set₁ refl in
      let wide : es₁ ≡ (p.front ++ a' ∷ p.mid) ++ p.second ∷ p.back =
      sym (along p.front p.mid a' (p.second ∷ p.back)) in
      let size : length (p.front ++ a' ∷ p.mid) ≡ high =
      Rattle.triple_arena.proofs.TwoItemsLemmas.long p a' in
      let get₂ : slice_get es₁ (suc high - 1) ≡ Some p.second =
      ap (λ (n : ℕ). slice_get es₁ n) (high₀ ∙ sym size) ∙
      ap (λ (l : List (Slot T)). slice_get l (length (p.front ++ a' ∷ p.mid))) wide ∙
      get_front (p.front ++ a' ∷ p.mid) p.second p.back in
      let es₂ : List (Slot T) = replaced p a' b' in
      let set₂ : es₂ ≡ slice_set es₁ (suc high - 1) b' =
      sym (ap (λ (n : ℕ). slice_set es₁ n b') (high₀ ∙ sym size) ∙
      ap (λ (l : List (Slot T)). slice_set l (length (p.front ++ a' ∷ p.mid)) b') wide ∙
      set_front (p.front ++ a' ∷ p.mid) p.second p.back b' ∙
      along p.front p.mid a' (b' ∷ p.back)) in
      let e₂ = live_entry p.second u₂ in
      let at₂ : entry_at (with_value c (suc low) x) (suc high) ≡ Some e₂.0 =
      entry_of_slot es₁ head one.content (omega arith) get₂ ∙ e₂.1 in
      let done : es' ≡ es₂ = is ∙ sym (written_is p with_slot_value x y) in
      let two = rewritten (suc high) y one.sound one.content at₂ get₂ (done ∙ set₂) kept in
      record { sound = two.sound; content = two.content }
