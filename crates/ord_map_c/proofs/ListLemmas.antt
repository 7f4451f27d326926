-- Entries whose keys rise: what a search, an insertion and a removal make of their list.
use Rattle.std.proofs.Common.{◌≡◌, ◌∙◌, ap, refl, Bool, true, false, ℕ, ◌+◌, ◌<◌}
use Rattle.std.proofs.Common.{◌≤◌, List, [], ◌∷◌, ◌++◌, Some, None, arith, filter}
use Rattle.std.proofs.Common.{nat_lt, nat_le, inl, inr}
use Rattle.std.specs.List.{AllByRecursion}
use Rattle.std.proofs.lemmas.Bool.{eq-eqb, ne_eqb, lt-ltb, le-ltb}
use Rattle.std.proofs.lemmas.Bool.Decides.{leb_tells}
use Rattle.ord_map_c.specs.Entries.{Entry, KeysRise, key_of, with_key, from_key, past_key}
use Rattle.ord_map_c.specs.Entries.{below_key}
use Rattle.ord_map_c.specs.Entries.{put_in, without_key, last_of}

-- the keys are below this one, and above it
abbrev pub Below : ℕ → List Entry → Type 0
Below key l = AllByRecursion (λ (e : Entry). key_of e < key) l

abbrev pub Above : ℕ → List Entry → Type 0
Above key l = AllByRecursion (λ (e : Entry). key < key_of e) l

pub le-leb : (a b : ℕ) → a ≤ b → nat_le a b ≡ true
le-leb a b up = elim (leb_tells a b) [
  | inl within ↦ within.0
  | inr past ↦ (let less = past.1 in absurd (omega (arith, less, up)))
]

pub lt-leb : (a b : ℕ) → b < a → nat_le a b ≡ false
lt-leb a b down = elim (leb_tells a b) [
  | inl within ↦ (let more = within.1 in absurd (omega (arith, more, down)))
  | inr past ↦ past.0
]

-- ---- filters

module _ (p : Entry → Bool) where
  pub keeps_all : (l : List Entry) → AllByRecursion (λ (e : Entry). p e ≡ true) l → filter p l ≡ l
  keeps_all [] all = refl
  keeps_all (x ∷ l) all = rw all.0 (ap (λ z. x ∷ z) (keeps_all l all.1))

  pub drops_front : (low high : List Entry) → AllByRecursion (λ (e : Entry). p e ≡ false) low
      → filter p (low ++ high) ≡ filter p high
  drops_front [] high all = refl
  drops_front (x ∷ low) high all = rw all.0 (drops_front low high all.1)

  drops_all : (l : List Entry) → AllByRecursion (λ (e : Entry). p e ≡ false) l → filter p l ≡ []
  drops_all [] all = refl
  drops_all (x ∷ l) all = rw all.0 (drops_all l all.1)

  keeps_front : (low high : List Entry) → AllByRecursion (λ (e : Entry). p e ≡ true) low
      → filter p (low ++ high) ≡ low ++ filter p high
  keeps_front [] high all = refl
  keeps_front (x ∷ low) high all = rw all.0 (ap (λ z. x ∷ z) (keeps_front low high all.1))

  pub back_kept : (low high : List Entry) → AllByRecursion (λ (e : Entry). p e ≡ false) low
      → AllByRecursion (λ (e : Entry). p e ≡ true) high → filter p (low ++ high) ≡ high
  back_kept low high out in_ = drops_front low high out ∙ keeps_all high in_

weaker : (P Q : Entry → Type 0) → ((e : Entry) → P e → Q e) → (l : List Entry)
    → AllByRecursion P l → AllByRecursion Q l
weaker P Q so [] all = tt
weaker P Q so (x ∷ l) all = (so x all.0, weaker P Q so l all.1)

-- ---- a gap in the list, where a key belongs

module _ (low high : List Entry) (key : ℕ) (below : Below key low) (above : Above key high) where
  pub none_with : with_key (low ++ high) key ≡ None
  none_with = by low below
    where
      behind : (l : List Entry) → Above key l → with_key l key ≡ None
      behind [] all = refl
      behind (x ∷ l) all = (let more = all.0 in rw (ne_eqb (key_of x) key
          (λ same. omega (arith, same, more))) (behind l all.1))

      by : (l : List Entry) → Below key l → with_key (l ++ high) key ≡ None
      by [] all = behind high above
      by (x ∷ l) all = (let less = all.0 in rw (ne_eqb (key_of x) key
          (λ same. omega (arith, same, less))) (by l all.1))

  pub past_gap : past_key (low ++ high) key ≡ high
  past_gap = back_kept (λ (e : Entry). nat_lt key (key_of e)) low high
      (weaker (λ (e : Entry). key_of e < key) (λ (e : Entry). nat_lt key (key_of e) ≡ false)
      (λ e less. le-ltb key (key_of e) (omega (arith, less))) low below)
      (weaker (λ (e : Entry). key < key_of e) (λ (e : Entry). nat_lt key (key_of e) ≡ true)
      (λ e more. lt-ltb key (key_of e) more) high above)

  pub below_gap : below_key (low ++ high) key ≡ low
  below_gap = keeps_front (λ (e : Entry). nat_lt (key_of e) key) low high
      (weaker (λ (e : Entry). key_of e < key) (λ (e : Entry). nat_lt (key_of e) key ≡ true)
      (λ e less. lt-ltb (key_of e) key less) low below)
      ∙ ap (λ z. low ++ z) (drops_all (λ (e : Entry). nat_lt (key_of e) key) high
      (weaker (λ (e : Entry). key < key_of e) (λ (e : Entry). nat_lt (key_of e) key ≡ false)
      (λ e more. le-ltb (key_of e) key (omega (arith, more))) high above))
      ∙ nothing low
    where
      nothing : (l : List Entry) → l ++ [] ≡ l
      nothing [] = refl
      nothing (x ∷ l) = ap (λ z. x ∷ z) (nothing l)

  pub put_gap : (e : Entry) → key_of e ≡ key → put_in (low ++ high) e ≡ low ++ e ∷ high
  put_gap e is = by low below
    where
      behind : (l : List Entry) → Above key l → put_in l e ≡ e ∷ l
      behind [] all = refl
      behind (x ∷ l) all = (let more = all.0 in
          rw (lt-ltb (key_of e) (key_of x) (omega (arith, more, is))) refl)

      by : (l : List Entry) → Below key l → put_in (l ++ high) e ≡ l ++ e ∷ high
      by [] all = behind high above
      by (x ∷ l) all = (let less = all.0 in
          rw (
            le-ltb (key_of e) (key_of x) (omega (arith, less, is)),
            ne_eqb (key_of e) (key_of x) (λ same. omega (arith, same, less, is)),
          )
          (ap (λ z. x ∷ z) (by l all.1)))

  pub rise_put : (e : Entry) → key_of e ≡ key → KeysRise (low ++ high) → KeysRise (low ++ e ∷ high)
  rise_put e is = by low below
    where
      above_e : (l : List Entry) → Above key l → AllByRecursion
          (λ (f : Entry). key_of e < key_of f) l
      above_e [] all = tt
      above_e (x ∷ l) all = (let more = all.0 in omega (arith, more, is), above_e l all.1)

      with_e : (x : Entry) (l : List Entry) → key_of x < key_of e
          → AllByRecursion (λ (f : Entry). key_of x < key_of f) (l ++ high)
          → AllByRecursion (λ (f : Entry). key_of x < key_of f) (l ++ e ∷ high)
      with_e x [] less all = (less, all)
      with_e x (y ∷ l) less all = (all.0, with_e x l less all.1)

      by : (l : List Entry) → Below key l → KeysRise (l ++ high) → KeysRise (l ++ e ∷ high)
      by [] all rise = (above_e high above, rise)
      by (x ∷ l) all rise = (
        (let less = all.0 in with_e x l (omega (arith, less, is)) rise.0),
        by l all.1 rise.1,
      )

-- ---- an entry of the list

pub above_in : (low high : List Entry) (e : Entry) → KeysRise (low ++ e ∷ high)
    → Above (key_of e) high
above_in [] high e rise = rise.0
above_in (x ∷ low) high e rise = above_in low high e rise.1

pub below_in : (low high : List Entry) (e : Entry) → KeysRise (low ++ e ∷ high)
    → Below (key_of e) low
below_in [] high e rise = tt
below_in (x ∷ low) high e rise = (before low rise.0, below_in low high e rise.1)
  where
    before : (l : List Entry) → AllByRecursion (λ (f : Entry). key_of x < key_of f) (l ++ e ∷ high)
        → key_of x < key_of e
    before [] all = all.0
    before (y ∷ l) all = before l all.1

module _ (low high : List Entry) (e : Entry) (rise : KeysRise (low ++ e ∷ high)) where
  pub with_at : with_key (low ++ e ∷ high) (key_of e) ≡ Some e
  with_at = by low (below_in low high e rise)
    where
      by : (l : List Entry) → Below (key_of e) l → with_key (l ++ e ∷ high) (key_of e) ≡ Some e
      by [] all = rw (eq-eqb (key_of e) (key_of e) refl) refl
      by (x ∷ l) all = (let less = all.0 in rw (ne_eqb (key_of x) (key_of e)
          (λ same. omega (arith, same, less))) (by l all.1))

  pub past_at : past_key (low ++ e ∷ high) (key_of e) ≡ high
  past_at =
      drops_front (λ (f : Entry). nat_lt (key_of e) (key_of f)) low (e ∷ high)
      (weaker (λ (f : Entry). key_of f < key_of e)
      (λ (f : Entry). nat_lt (key_of e) (key_of f) ≡ false)
      (λ f less. le-ltb (key_of e) (key_of f) (omega (arith, less))) low (below_in low high e rise))
      ∙ rw (le-ltb (key_of e) (key_of e) (omega arith))
      (keeps_all (λ (f : Entry). nat_lt (key_of e) (key_of f)) high
      (weaker (λ (f : Entry). key_of e < key_of f)
      (λ (f : Entry). nat_lt (key_of e) (key_of f) ≡ true)
      (λ f more. lt-ltb (key_of e) (key_of f) more) high (above_in low high e rise)))

  pub from_at : from_key (low ++ e ∷ high) (key_of e) ≡ e ∷ high
  from_at =
      back_kept (λ (f : Entry). nat_le (key_of e) (key_of f)) low (e ∷ high)
      (weaker (λ (f : Entry). key_of f < key_of e)
      (λ (f : Entry). nat_le (key_of e) (key_of f) ≡ false)
      (λ f less. lt-leb (key_of e) (key_of f) less) low (below_in low high e rise)) (
        le-leb (key_of e) (key_of e) (omega arith),
        weaker (λ (f : Entry). key_of e < key_of f)
            (λ (f : Entry). nat_le (key_of e) (key_of f) ≡ true)
            (λ f more. le-leb (key_of e) (key_of f) (omega (arith, more))) high
            (above_in low high e rise),
      )

  pub below_at : below_key (low ++ e ∷ high) (key_of e) ≡ low
  below_at =
      keeps_front (λ (f : Entry). nat_lt (key_of f) (key_of e)) low (e ∷ high)
      (weaker (λ (f : Entry). key_of f < key_of e)
      (λ (f : Entry). nat_lt (key_of f) (key_of e) ≡ true)
      (λ f less. lt-ltb (key_of f) (key_of e) less) low (below_in low high e rise))
      ∙ ap (λ z. low ++ z) (rw (le-ltb (key_of e) (key_of e) (omega arith))
      (drops_all (λ (f : Entry). nat_lt (key_of f) (key_of e)) high
      (weaker (λ (f : Entry). key_of e < key_of f)
      (λ (f : Entry). nat_lt (key_of f) (key_of e) ≡ false)
      (λ f more. le-ltb (key_of f) (key_of e) (omega (arith, more))) high
      (above_in low high e rise))))
      ∙ nothing low
    where
      nothing : (l : List Entry) → l ++ [] ≡ l
      nothing [] = refl
      nothing (x ∷ l) = ap (λ z. x ∷ z) (nothing l)

  pub put_at : (f : Entry) → key_of f ≡ key_of e → put_in (low ++ e ∷ high) f ≡ low ++ f ∷ high
  put_at f is = by low (below_in low high e rise)
    where
      by : (l : List Entry) → Below (key_of e) l → put_in (l ++ e ∷ high) f ≡ l ++ f ∷ high
      by [] all = rw (
        le-ltb (key_of f) (key_of e) (omega (arith, is)),
        eq-eqb (key_of f) (key_of e) is,
      ) refl
      by (x ∷ l) all = (let less = all.0 in
          rw (
            le-ltb (key_of f) (key_of x) (omega (arith, less, is)),
            ne_eqb (key_of f) (key_of x) (λ same. omega (arith, same, less, is)),
          )
          (ap (λ z. x ∷ z) (by l all.1)))

  pub without_at : without_key (low ++ e ∷ high) (key_of e) ≡ low ++ high
  without_at = by low (below_in low high e rise)
    where
      behind : (l : List Entry) → Above (key_of e) l → without_key l (key_of e) ≡ l
      behind [] all = refl
      behind (x ∷ l) all = (let more = all.0 in rw (ne_eqb (key_of x) (key_of e)
          (λ same. omega (arith, same, more))) (ap (λ z. x ∷ z) (behind l all.1)))

      by : (l : List Entry) → Below (key_of e) l
          → without_key (l ++ e ∷ high) (key_of e) ≡ l ++ high
      by [] all = rw (eq-eqb (key_of e) (key_of e) refl) (behind high (above_in low high e rise))
      by (x ∷ l) all = (let less = all.0 in rw (ne_eqb (key_of x) (key_of e)
          (λ same. omega (arith, same, less))) (ap (λ z. x ∷ z) (by l all.1)))

  pub rise_at : (f : Entry) → key_of f ≡ key_of e → KeysRise (low ++ f ∷ high)
  rise_at f is = by low rise
    where
      above_f : (l : List Entry) → AllByRecursion (λ (x : Entry). key_of e < key_of x) l
          → AllByRecursion (λ (x : Entry). key_of f < key_of x) l
      above_f [] all = tt
      above_f (x ∷ l) all = (let more = all.0 in omega (arith, more, is), above_f l all.1)

      with_f : (x : Entry) (l : List Entry)
          → AllByRecursion (λ (y : Entry). key_of x < key_of y) (l ++ e ∷ high)
          → AllByRecursion (λ (y : Entry). key_of x < key_of y) (l ++ f ∷ high)
      with_f x [] all = (let less = all.0 in omega (arith, less, is), all.1)
      with_f x (y ∷ l) all = (all.0, with_f x l all.1)

      by : (l : List Entry) → KeysRise (l ++ e ∷ high) → KeysRise (l ++ f ∷ high)
      by [] up = (above_f high up.0, up.1)
      by (x ∷ l) up = (with_f x l up.0, by l up.1)

  pub rise_out : KeysRise (low ++ high)
  rise_out = by low rise
    where
      less_e : (x : Entry) (l : List Entry)
          → AllByRecursion (λ (y : Entry). key_of x < key_of y) (l ++ e ∷ high)
          → AllByRecursion (λ (y : Entry). key_of x < key_of y) (l ++ high)
      less_e x [] all = all.1
      less_e x (y ∷ l) all = (all.0, less_e x l all.1)

      by : (l : List Entry) → KeysRise (l ++ e ∷ high) → KeysRise (l ++ high)
      by [] up = up.1
      by (x ∷ l) up = (less_e x l up.0, by l up.1)

-- the last of a list that ends with this one
pub last_behind : (l : List Entry) (e : Entry) → last_of (l ++ e ∷ []) ≡ Some e
last_behind [] e = refl
last_behind (x ∷ []) e = refl
last_behind (x ∷ y ∷ l) e = last_behind (y ∷ l) e
