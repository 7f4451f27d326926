-- What a loop over a rising walk writes.
use Rattle.std.proofs.Common.{◌≡◌, ◌≢◌, ◌∙◌, sym, ap, subst, refl, ℕ, ◌+◌, ◌<◌, ◌≤◌}
use Rattle.std.proofs.Common.{inl, inr, Option, Some, None, IsSome, false, arith}
use Rattle.std.specs.Option.{option_map}
use Rattle.std.proofs.lemmas.Bool.{eq-eqb, ne_eqb}
use Rattle.std.proofs.lemmas.Bool.Decides.{eqb_tells, leb_tells}
use Rattle.triple_arena.specs.Entries.{value_if, with_entry, with_value_at}
use Rattle.triple_arena.specs.Walk.{Steps, Walk}
use Rattle.triple_arena.specs.WalkLaws.{end_all, step_is}

-- what was live lies below where what is live does, if nothing has changed from there on
all_before : {T : Type 0} (old at : ℕ → Option T) (low : ℕ) → ((j : ℕ) → low ≤ j → at j ≡ old j)
    → ((j : ℕ) → IsSome (at j) → j < low) → (j : ℕ) → IsSome (old j) → j < low
all_before old at low ahead all j some = elim (leb_tells low j) [
  | inr less ↦ less.1
  | inl back ↦ all j (subst IsSome (sym (ahead j back.1)) some)
]

-- an entry that a pointer finds
pub stands_at : {V : Type 0} (at : ℕ → Option (ℕ × V)) (i g : ℕ) (v : V)
    → Some v ≡ value_if g (at i) → at i ≡ Some (g, v)
stands_at {V} at i g v value = by (at i) refl value
  where
    by : (o : Option (ℕ × V)) → at i ≡ o → Some v ≡ value_if g o → at i ≡ Some (g, v)
    by None at_i found = absurd (let no : Some v ≡ None = found in cc)
    by (Some x) at_i found = elim (eqb_tells x.0 g) [
      | inl same ↦
          let e : value_if g (Some x) ≡ Some x.1 = rw same.0 refl in
          let both : Some x.1 ≡ Some v = sym e ∙ sym found in
          let own : x.1 ≡ v = cc in
          at_i ∙ ap (λ k. Some (k, x.1)) same.1 ∙ ap (λ y. Some (g, y)) own
      | inr other ↦
          let e : value_if g (Some x) ≡ None = rw other.0 refl in
          absurd (let no : Some v ≡ None = found ∙ e in cc)
    ]

-- what a write at an index leaves
pub value_written : {V : Type 0} (at at' : ℕ → Option (ℕ × V)) (i g : ℕ) (v v' : V)
    → at i ≡ Some (g, v) → ((j : ℕ) → at' j ≡ with_value_at at i v' j)
    → (at' i ≡ Some (g, v')) × ((j : ℕ) → j ≢ i → at' j ≡ at j)
value_written {V} at at' i g v v' stands writes = (
  writes i ∙ rw (eq-eqb i i refl)
      (ap (option_map (λ (e : ℕ × V). (let z : ℕ × V = (e.0, v') in z))) stands),
  λ j other. writes j ∙ rw (ne_eqb j i other) refl,
)

pub entry_written : {V : Type 0} (at at' : ℕ → Option (ℕ × V)) (i g : ℕ) (v' : V)
    → ((j : ℕ) → at' j ≡ with_entry at i (g, v') j)
    → (at' i ≡ Some (g, v')) × ((j : ℕ) → j ≢ i → at' j ≡ at j)
entry_written at at' i g v' writes =
    (writes i ∙ rw (eq-eqb i i refl) refl, λ j other. writes j ∙ rw (ne_eqb j i other) refl)

-- one entry more is written anew, where those that are passed are and those ahead are not
module _ {V : Type 0} (cast : V → V) (at0 at at' : ℕ → Option (ℕ × V)) (low i g : ℕ) (v v' : V)
    (passed : (j : ℕ) → j < low
    → at j ≡ option_map (λ (e : ℕ × V). (let z : ℕ × V = (e.0, cast e.1) in z)) (at0 j))
    (ahead : (j : ℕ) → low ≤ j → at j ≡ at0 j)
    (up : low ≤ i) (between : (j : ℕ) → low ≤ j → j < i
    → at j ≡ None) (stands : at i ≡ Some (g, v)) (is : v' ≡ cast v)
    (here : at' i ≡ Some (g, v')) (others : (j : ℕ) → j ≢ i → at' j ≡ at j) where
  cast_passed : (j : ℕ) → j < i + 1
      → at' j ≡ option_map (λ (e : ℕ × V). (let z : ℕ × V = (e.0, cast e.1) in z)) (at0 j)
  cast_passed j below = elim (eqb_tells j i) [
    | inl same ↦
        let was : at0 j ≡ Some (g, v) = ap at0 same.1 ∙ sym (ahead i up) ∙ stands in
        let now : at' j ≡ Some (g, v') = ap at' same.1 ∙ here in
        now ∙ ap (λ y. Some (g, y)) is
        ∙ sym (ap (option_map (λ (e : ℕ × V). (let z : ℕ × V = (e.0, cast e.1) in z))) was)
    | inr other ↦ elim (leb_tells low j) [
      | inr less ↦ others j other.1 ∙ passed j less.1
      | inl back ↦
          let none = between j back.1 (let o = other.1 in omega (arith, o, below)) in
          let was : at0 j ≡ None = sym (ahead j back.1) ∙ none in
          others j other.1 ∙ none
          ∙ sym (ap (option_map (λ (e : ℕ × V). (let z : ℕ × V = (e.0, cast e.1) in z))) was)
    ]
  ]

  cast_ahead : (j : ℕ) → i + 1 ≤ j → at' j ≡ at0 j
  cast_ahead j past = others j (λ e. omega (arith, e, past)) ∙ ahead j (omega (arith, past, up))

  -- the indexes that are live are the same
  cast_live : (j : ℕ) → IsSome (at' j) → IsSome (at j)
  cast_live j some = elim (eqb_tells j i) [
    | inl same ↦ subst IsSome (sym (ap at same.1 ∙ stands)) refl
    | inr other ↦ subst IsSome (others j other.1) some
  ]

  cast_first : at0 i ≡ Some (g, v)
  cast_first = sym (ahead i up) ∙ stands

  cast_gap : (j : ℕ) → low ≤ j → j < i → at0 j ≡ None
  cast_gap j back less = sym (ahead j back) ∙ between j back less

-- at the end of a walk each entry is written anew
cast_all : {V : Type 0} (cast : V → V) (at0 at : ℕ → Option (ℕ × V)) (low : ℕ)
    → ((j : ℕ) → j < low → at j
    ≡ option_map (λ (e : ℕ × V). (let z : ℕ × V = (e.0, cast e.1) in z)) (at0 j))
    → ((j : ℕ) → low ≤ j → at j ≡ at0 j)
    → ((j : ℕ) → IsSome (at j) → j < low) → (j : ℕ)
    → at j ≡ option_map (λ (e : ℕ × V). (let z : ℕ × V = (e.0, cast e.1) in z)) (at0 j)
cast_all {V} cast at0 at low passed ahead all j = elim (leb_tells low j) [
  | inr less ↦ passed j less.1
  | inl back ↦ by (at0 j) refl back.1
]
  where
    by : (o : Option (ℕ × V)) → at0 j ≡ o → low ≤ j
        → at j ≡ option_map (λ (e : ℕ × V). (let z : ℕ × V = (e.0, cast e.1) in z)) (at0 j)
    by None is back = ahead j back ∙ is
        ∙ sym (ap (option_map (λ (e : ℕ × V). (let z : ℕ × V = (e.0, cast e.1) in z))) is)
    by (Some e) is back = let less = all j (subst IsSome (sym (ahead j back ∙ is)) refl) in
        absurd (omega (arith, less, back))

-- a rising walk writes each entry anew as it passes: those behind it are, and those ahead are not
pub record IsCasting {V : Type 0} (cast : V → V) (at0 at : ℕ → Option (ℕ × V)) (w : Walk)
    : Type 0 where
  pub rises : w.falls ≡ false
  pub reaches : (j : ℕ) → IsSome (at j) → j ≤ w.high
  pub passed : (j : ℕ) → j < w.low
      → at j ≡ option_map (λ (e : ℕ × V). (let z : ℕ × V = (e.0, cast e.1) in z)) (at0 j)
  pub ahead : (j : ℕ) → w.low ≤ j → at j ≡ at0 j

-- and the entry that it comes to next
pub record IsCastOn {V : Type 0} (cast : V → V) (at0 at' : ℕ → Option (ℕ × V)) (w w' : Walk)
    (i : ℕ) : Type 0 where
  pub casting : IsCasting cast at0 at' w'
  pub up : w.low ≤ i
  pub low : w'.low ≡ i + 1
  pub gap : (j : ℕ) → w.low ≤ j → j < i → at0 j ≡ None
  pub some : IsSome (at0 i)

module _ {V : Type 0} (cast : V → V) (at0 at : ℕ → Option (ℕ × V)) (w w' : Walk)
    (c : IsCasting cast at0 at w) where
  pub cast_on : (at' : ℕ → Option (ℕ × V)) (i g : ℕ) (v v' : V) → Steps at w (Some (i, g)) w'
      → at i ≡ Some (g, v) → v' ≡ cast v
      → (at' i ≡ Some (g, v')) × ((j : ℕ) → j ≢ i → at' j ≡ at j)
      → IsCastOn cast at0 at' w w' i
  cast_on at' i g v v' step stands is made =
      let st = step_is at w w' c.rises i g step in
      let between = st.between in
      record {
        casting = record {
          rises = st.still_rises;
          reaches = λ j some. subst (λ k. j ≤ k) (sym st.high)
              (c.reaches j (cast_live cast at0 at at' w.low i g v v' c.passed c.ahead st.up between
              stands is made.0 made.1 j some));
          passed = λ j below. cast_passed cast at0 at at' w.low i g v v' c.passed c.ahead st.up
              between stands is made.0 made.1 j (subst (λ l. j < l) st.low below);
          ahead = λ j past. cast_ahead cast at0 at at' w.low i g v v' c.passed c.ahead st.up between
              stands is made.0 made.1 j (subst (λ l. l ≤ j) st.low past);
        };
        up = st.up;
        low = st.low;
        gap = cast_gap cast at0 at at' w.low i g v v' c.passed c.ahead st.up between stands is
            made.0 made.1;
        some = subst IsSome (sym (cast_first cast at0 at at' w.low i g v v' c.passed c.ahead st.up
            between stands is made.0 made.1)) refl;
      }

  -- at its end all are written anew, and none that was live is ahead
  pub cast_end : Steps at w None w' → (j : ℕ)
      → at j ≡ option_map (λ (e : ℕ × V). (let z : ℕ × V = (e.0, cast e.1) in z)) (at0 j)
  cast_end step = cast_all cast at0 at w.low c.passed c.ahead
      (end_all at w w' c.rises c.reaches step)

  pub cast_below : Steps at w None w' → (j : ℕ) → IsSome (at0 j) → j < w.low
  cast_below step = all_before at0 at w.low c.ahead (end_all at w w' c.rises c.reaches step)
