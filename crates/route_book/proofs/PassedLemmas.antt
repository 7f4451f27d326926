-- How many live indexes a walk has passed, and where entries go that keep the order of their
-- indexes.
use Rattle.std.proofs.Common.{◌≡◌, ◌≢◌, ◌∙◌, sym, ap, subst, refl, ◌==◌, if◌then◌else◌, ℕ, zero}
use Rattle.std.proofs.Common.{suc, ◌+◌, ◌-◌, ◌<◌, ◌≤◌, inl, inr, List, [], ◌∷◌, length, map}
use Rattle.std.proofs.Common.{slice_get, Option, Some, None, IsSome, is_some, arith}
use Rattle.std.specs.Option.{option_map}
use Rattle.std.specs.List.Sorted.{IsStrictlyIncreasing}
use Rattle.std.proofs.lemmas.Bool.{ne_eqb, eq-eqb}
use Rattle.std.proofs.lemmas.Bool.Decides.{eqb_tells}
use Rattle.std.proofs.lemmas.Option.{slice_get-map}
use Rattle.triple_arena.specs.Entries.{look_up, value_if, with_value_at}
use Rattle.triple_arena.specs.Walk.{Steps, Walk}
use Rattle.triple_arena.specs.Compression.{index_of, value_of, generation_of}
use Rattle.triple_arena.specs.RiseLaws.{RiseFrom, low_none, rise_from}
use Rattle.route_book.specs.Packing.{AreMoved}
use Rattle.triple_arena_chain.specs.Renaming.{live_below}
use Rattle.ticket_book.specs.WalkLaws.{IsCasting, cast_on, stands_at, value_written}

module _ {A : Type 0} (at : ℕ → Option A) where
  -- none in a gap
  pub below_gap : (n d : ℕ) → ((j : ℕ) → n ≤ j → j < n + d → at j ≡ None)
      → live_below at (n + d) ≡ live_below at n
  below_gap n zero none = ap (live_below at) (let z : n + 0 ≡ n = omega arith in z)
  below_gap n (suc d) none =
      let here : at (n + d) ≡ None = none (n + d) (omega arith) (omega arith) in
      let next : n + suc d ≡ suc (n + d) = omega arith in
      let step : live_below at (suc (n + d)) ≡ live_below at (n + d) = rw here (omega arith) in
      ap (live_below at) next ∙ step
      ∙ below_gap n d (λ j low high. none j low (omega (arith, high)))

  -- one passed
  pub below_passed : (low i : ℕ) → low ≤ i → ((j : ℕ) → low ≤ j → j < i → at j ≡ None)
      → IsSome (at i) → live_below at (i + 1) ≡ live_below at low + 1
  below_passed low i up none some =
      let same : i ≡ low + (i - low) = omega (arith, up) in
      let gap : live_below at i ≡ live_below at low = ap (live_below at) same
      ∙ below_gap low (i - low) (λ j l h. none j l (omega (arith, h, same))) in
      let next : i + 1 ≡ suc i = omega arith in
      let step : live_below at (suc i) ≡ live_below at i + 1 = rw some refl in
      ap (live_below at) next ∙ step ∙ ap (λ n. n + 1) gap

  pub below_none : (n : ℕ) → ((j : ℕ) → j < n → at j ≡ None) → live_below at n ≡ 0
  below_none zero none = refl
  below_none (suc n) none = let last = none n (omega arith) in let rest =
      below_none n (λ j less. none j (omega (arith, less))) in rw last (omega (arith, rest))

-- one live index more
module _ {A : Type 0} (f g : ℕ → Option A) (i : ℕ) (none : f i ≡ None) (some : IsSome (g i))
    (others : (j : ℕ) → j ≢ i → g j ≡ f j) where
  below_same : (n : ℕ) → n ≤ i → live_below g n ≡ live_below f n
  below_same zero up = refl
  below_same (suc n) up =
      let o = others n (λ e. omega (arith, e, up)) in
      let rest = below_same n (omega (arith, up)) in
      ap (λ x. live_below g n + (if is_some x then 1 else 0)) o
      ∙ ap (λ x. x + (if is_some (f n) then 1 else 0)) rest

  below_more : (n : ℕ) → i < n → live_below g n ≡ live_below f n + 1
  below_more zero up = absurd (omega (arith, up))
  below_more (suc n) up = elim (eqb_tells n i) [
    | inl same ↦
        let rest = below_same n (let s = same.1 in omega (arith, s)) in
        let now : IsSome (g n) = subst (λ x. IsSome (g x)) (sym same.1) some in
        let was : f n ≡ None = ap f same.1 ∙ none in
        rw (now, was) (omega (arith, rest))
    | inr other ↦
        let rest = below_more n (let o = other.1 in omega (arith, o, up)) in
        let o = others n other.1 in
        ap (λ x. live_below g n + (if is_some x then 1 else 0)) o
        ∙ plus rest (if is_some (f n) then 1 else 0)
  ]
    where
      plus : live_below g n ≡ live_below f n + 1 → (k : ℕ)
          → live_below g n + k ≡ (live_below f n + k) + 1
      plus rest k = omega (arith, rest)

module _ {T : Type 0} where
  -- so many are listed
  pub below_listed : (n : ℕ) (l : List (ℕ × (ℕ × T))) → RiseFrom n l → (high : ℕ)
      → ((j : ℕ) → IsSome (look_up l j) → j < high) → live_below (look_up l) high ≡ length l
  unfolding RiseFrom
  below_listed n [] rise high all =
      below_none {A = ℕ × T} (look_up {T = T} []) high (λ j less. refl)
  below_listed n (e ∷ l) rise high all =
      let here : IsSome (look_up (e ∷ l) e.0) = rw (eq-eqb e.0 e.0 refl) refl in
      let more = below_more (look_up l) (look_up (e ∷ l)) e.0
      (low_none (e.0 + 1) l rise.1 e.0 (omega arith)) here
      (λ j other. (let o : e.0 ≢ j = λ s. other (sym s) in rw (ne_eqb e.0 j o) refl)) high
      (all e.0 here) in
      let rest = below_listed (e.0 + 1) l rise.1 high
      (λ j some. all j (later j some (look_up l j) refl)) in
      omega (arith, more, rest)
    where
      later : (j : ℕ) → IsSome (look_up l j) → (o : Option (ℕ × T)) → look_up l j ≡ o
          → IsSome (look_up (e ∷ l) j)
      later j some o is = elim (eqb_tells e.0 j) [
        | inl same ↦ rw same.0 refl
        | inr other ↦ rw other.0 some
      ]

  -- what is listed at a place is looked up by its index, and the other way round
  pub placed : (n : ℕ) (l : List (ℕ × (ℕ × T))) → RiseFrom n l → (k : ℕ) (x : ℕ × (ℕ × T))
      → slice_get l k ≡ Some x → (n ≤ x.0) × (look_up l x.0 ≡ Some x.1)
  unfolding RiseFrom
  placed n [] rise k x is =
      absurd (let no : ◌≡◌ {A = Option (ℕ × (ℕ × T))} None (Some x) = is in cc)
  placed n (e ∷ l) rise zero x is =
      let same : e ≡ x = (let s : Some e ≡ Some x = is in cc) in
      subst (λ y. (n ≤ y.0) × (look_up (e ∷ l) y.0 ≡ Some y.1)) same
      (rise.0, rw (eq-eqb e.0 e.0 refl) refl)
  placed n (e ∷ l) rise (suc k) x is =
      let rest = placed (e.0 + 1) l rise.1 k x is in
      let up = rest.0 in
      let own = rise.0 in
      let other : e.0 ≢ x.0 = λ s. omega (arith, s, up) in
      (omega (arith, up, own), rw (ne_eqb e.0 x.0 other) rest.1)

  pub place_of_index : (l : List (ℕ × (ℕ × T))) (i : ℕ) (e : ℕ × T) → look_up l i ≡ Some e
      → (k : ℕ) × (slice_get l k ≡ Some (i, e))
  place_of_index [] i e is = absurd (let no : ◌≡◌ {A = Option (ℕ × T)} None (Some e) = is in cc)
  place_of_index (x ∷ l) i e is = elim (eqb_tells x.0 i) [
    | inl same ↦
        let found : look_up (x ∷ l) i ≡ Some x.1 = rw same.0 refl in
        let val : Some x.1 ≡ Some e = sym found ∙ is in
        let own : x.1 ≡ e = cc in
        (0, ap (λ n. Some (n, x.1)) same.1 ∙ ap (λ y. Some (i, y)) own)
    | inr other ↦
        let skip : look_up (x ∷ l) i ≡ look_up l i = rw other.0 refl in
        let rest = place_of_index l i e (sym skip ∙ is) in
        (suc rest.0, rest.1)
  ]

-- a listed entry for each live index
module _ {T : Type 0} (at : ℕ → Option (ℕ × T)) (listed : List (ℕ × (ℕ × T)))
    (entry_listed : (j : ℕ) → at j ≡ look_up listed j)
    (increase : IsStrictlyIncreasing (map index_of listed)) where
  below_as : {A : Type 0} (f g : ℕ → Option A) → ((j : ℕ) → f j ≡ g j) → (n : ℕ)
      → live_below f n ≡ live_below g n
  below_as f g same zero = refl
  below_as f g same (suc n) = ap (λ x. live_below f n + (if is_some x then 1 else 0)) (same n)
      ∙ ap (λ x. x + (if is_some (g n) then 1 else 0)) (below_as f g same n)

  pub counted_below : (n : ℕ) → length listed ≡ n → (high : ℕ)
      → ((j : ℕ) → IsSome (at j) → j < high) → live_below at high ≡ n
  counted_below n counted high all =
      below_as at (look_up listed) entry_listed high
      ∙ below_listed 0 listed (rise_from 0 listed increase (λ some. omega arith)) high
      (λ j some. all j (subst IsSome (sym (entry_listed j)) some))
      ∙ counted

-- one entry more is written anew and counted
pub record Passes {V : Type 0} (cast : V → V) (at0 at' : ℕ → Option (ℕ × V)) (w w' : Walk)
    : Type 0 where
  pub casting : IsCasting cast at0 at' w'
  pub count : live_below at0 w'.low ≡ live_below at0 w.low + 1

pub passes_on : {V : Type 0} (cast : V → V) (at0 at : ℕ → Option (ℕ × V)) (w w' : Walk)
    → IsCasting cast at0 at w → (at' : ℕ → Option (ℕ × V)) (i g : ℕ) (v v' : V)
    → Steps at w (Some (i, g)) w' → Some v ≡ value_if g (at i) → v' ≡ cast v
    → ((j : ℕ) → at' j ≡ with_value_at at i v' j) → Passes cast at0 at' w w'
passes_on cast at0 at w w' c at' i g v v' step value is writes =
    let stands = stands_at at i g v value in
    let on = cast_on cast at0 at w w' c at' i g v v' step stands is
    (value_written at at' i g v v' stands writes) in
    record {
      casting = on.casting;
      count = ap (live_below at0) on.low ∙ below_passed at0 w.low i on.up on.gap on.some;
    }

-- entries that are moved in the order of a list
module _ {T : Type 0} where
  pub place_in : List (ℕ × (ℕ × T)) → ℕ → ℕ
  place_in [] i = 0
  place_in (e ∷ l) i = if e.0 == i then 0 else suc (place_in l i)

  pub index_at : List (ℕ × (ℕ × T)) → ℕ → ℕ
  index_at l k = by (slice_get l k)
    where
      by : Option (ℕ × (ℕ × T)) → ℕ
      by None = 0
      by (Some x) = x.0

  index_is : (l : List (ℕ × (ℕ × T))) (k : ℕ) (x : ℕ × (ℕ × T)) → slice_get l k ≡ Some x
      → index_at l k ≡ x.0
  unfolding index_at
  index_is l k x is = rw is refl

  place_is : (n : ℕ) (l : List (ℕ × (ℕ × T))) → RiseFrom n l → (k : ℕ) (x : ℕ × (ℕ × T))
      → slice_get l k ≡ Some x → place_in l x.0 ≡ k
  unfolding RiseFrom place_in
  place_is n [] rise k x is =
      absurd (let no : ◌≡◌ {A = Option (ℕ × (ℕ × T))} None (Some x) = is in cc)
  place_is n (e ∷ l) rise zero x is = let same : e ≡ x = (let s : Some e ≡ Some x = is in cc) in
      rw (eq-eqb e.0 x.0 (ap (λ y. y.0) same)) refl
  place_is n (e ∷ l) rise (suc k) x is =
      let up = (placed (e.0 + 1) l rise.1 k x is).0 in
      let other : e.0 ≢ x.0 = λ s. omega (arith, s, up) in
      rw (ne_eqb e.0 x.0 other) (ap suc (place_is (e.0 + 1) l rise.1 k x is))

  module _ (at at' : ℕ → Option (ℕ × T)) (l l' : List (ℕ × (ℕ × T))) (g : ℕ)
      (lists : (j : ℕ) → at j ≡ look_up l j) (lists' : (j : ℕ) → at' j ≡ look_up l' j)
      (rises : IsStrictlyIncreasing (map index_of l))
      (rises' : IsStrictlyIncreasing (map index_of l'))
      (values : map value_of l' ≡ map value_of l)
      (gens : map generation_of l' ≡ map (λ (e : ℕ × (ℕ × T)). g) l) where
    abbrev pub listed_to : ℕ → ℕ
    listed_to i = index_at l' (place_in l i)

    rise : RiseFrom 0 l
    rise = rise_from 0 l rises (λ some. omega arith)

    rise' : RiseFrom 0 l'
    rise' = rise_from 0 l' rises' (λ some. omega arith)

    value_of_some : (o : Option (ℕ × (ℕ × T))) (t : T) → option_map value_of o ≡ Some t
        → (x : ℕ × (ℕ × T)) × ((o ≡ Some x) × (x.1.1 ≡ t))
    value_of_some None t is = absurd (let no : ◌≡◌ {A = Option T} None (Some t) = is in cc)
    value_of_some (Some x) t is =
        (x, (refl, (let same : x.1.1 ≡ t = (let s : Some x.1.1 ≡ Some t = is in cc) in same)))

    -- what stands at one place of both lists
    there : (n : ℕ) (x : ℕ × (ℕ × T)) → slice_get l n ≡ Some x
        → (y : ℕ × (ℕ × T)) × ((slice_get l' n ≡ Some y) × (y.1.1 ≡ x.1.1))
    there n x is =
        value_of_some (slice_get l' n) x.1.1
        (sym (slice_get-map value_of l' n) ∙ ap (λ v. slice_get v n) values
        ∙ slice_get-map value_of l n ∙ ap (option_map value_of) is)

    back : (n : ℕ) (y : ℕ × (ℕ × T)) → slice_get l' n ≡ Some y
        → (x : ℕ × (ℕ × T)) × ((slice_get l n ≡ Some x) × (x.1.1 ≡ y.1.1))
    back n y is =
        value_of_some (slice_get l n) y.1.1
        (sym (slice_get-map value_of l n) ∙ ap (λ v. slice_get v n) (sym values)
        ∙ slice_get-map value_of l' n ∙ ap (option_map value_of) is)

    gen_is : (n : ℕ) (x y : ℕ × (ℕ × T)) → slice_get l n ≡ Some x → slice_get l' n ≡ Some y
        → y.1.0 ≡ g
    gen_is n x y is is' =
        let both : Some y.1.0 ≡ Some g =
        sym (ap (option_map generation_of) is') ∙ sym (slice_get-map generation_of l' n)
        ∙ ap (λ v. slice_get v n) gens
        ∙ slice_get-map (λ (e : ℕ × (ℕ × T)). g) l n
        ∙ ap (option_map (λ (e : ℕ × (ℕ × T)). g)) is in
        let same : y.1.0 ≡ g = cc in same

    pub listed_moved : AreMoved listed_to g at at'
    listed_moved = record { into = into; onto = onto }
      where
        into : (i h : ℕ) (t : T) → at i ≡ Some (h, t) → at' (listed_to i) ≡ Some (g, t)
        into i h t is =
            let p = place_of_index l i (h, t) (sym (lists i) ∙ is) in
            let at_p : place_in l i ≡ p.0 = place_is 0 l rise p.0 (i, (h, t)) p.1 in
            let y = there p.0 (i, (h, t)) p.1 in
            let name : listed_to i ≡ y.0.0 = ap (index_at l') at_p ∙ index_is l' p.0 y.0 y.1.0 in
            let found : look_up l' y.0.0 ≡ Some y.0.1 = (placed 0 l' rise' p.0 y.0 y.1.0).1 in
            ap at' name ∙ lists' y.0.0 ∙ found
            ∙ ap (λ n. Some (n, y.0.1.1)) (gen_is p.0 (i, (h, t)) y.0 p.1 y.1.0)
            ∙ ap (λ v. Some (g, v)) y.1.1

        onto : (k h : ℕ) (t : T) → at' k ≡ Some (h, t)
            → (i : ℕ) × ((n : ℕ) × ((at i ≡ Some (n, t)) × ((listed_to i ≡ k) × (h ≡ g))))
        onto k h t is =
            let p = place_of_index l' k (h, t) (sym (lists' k) ∙ is) in
            let x = back p.0 (k, (h, t)) p.1 in
            let at_p : place_in l x.0.0 ≡ p.0 = place_is 0 l rise p.0 x.0 x.1.0 in
            let found : look_up l x.0.0 ≡ Some x.0.1 = (placed 0 l rise p.0 x.0 x.1.0).1 in (
              x.0.0,
              (
                x.0.1.0,
                (
                  lists x.0.0 ∙ found ∙ ap (λ v. Some (x.0.1.0, v)) x.1.1,
                  (
                    ap (index_at l') at_p ∙ index_is l' p.0 (k, (h, t)) p.1,
                    gen_is p.0 x.0 (k, (h, t)) x.1.0 p.1,
                  ),
                ),
              ),
            )
