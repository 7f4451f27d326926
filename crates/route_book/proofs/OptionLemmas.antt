-- What is known of an option, of what a pointer finds, and of what a search finds.
use Rattle.std.proofs.Common.{◌≡◌, ◌==◌, if◌then◌else◌, false, ℕ, List, [], ◌∷◌, Option, Some}
use Rattle.std.proofs.Common.{None, IsSome, is_some, find, option_map, true≢false, refl, sym, ap}
use Rattle.std.proofs.Common.{subst, ◌∙◌, inl, inr}
use Rattle.std.specs.Option.{option_or}
use Rattle.std.proofs.lemmas.Bool.Decides.{eqb_tells}
use Rattle.triple_arena.specs.Entries.{value_if, with_entry}
use Rattle.route_book.specs.Book.{NewHave}

pub some_same : {X : Type 0} {x y : X} → ◌≡◌ {A = Option X} (Some x) (Some y) → x ≡ y
some_same e = cc

pub none_behind : {X : Type 0} (o : Option X) → option_or o None ≡ o
none_behind None = refl
none_behind (Some x) = refl

-- what stands under an option that is mapped
pub mapped_some : {X Y : Type 0} (f : X → Y) (o : Option X) (y : Y) → option_map f o ≡ Some y
    → (x : X) × ((o ≡ Some x) × (f x ≡ y))
mapped_some {Y = Y} f None y is = absurd (let no : ◌≡◌ {A = Option Y} None (Some y) = is in cc)
mapped_some f (Some x) y is = (x, (refl, some_same is))

-- what a pointer that finds an item stands at
pub stands_under : {T : Type 0} (at : ℕ → Option (ℕ × T)) (i g : ℕ) → IsSome (value_if g (at i))
    → (x : T) × ((value_if g (at i) ≡ Some x) × (at i ≡ Some (g, x)))
stands_under {T} at i g some = by (at i) refl some
  where
    by : (o : Option (ℕ × T)) → at i ≡ o → IsSome (value_if g o)
        → (x : T) × ((value_if g (at i) ≡ Some x) × (at i ≡ Some (g, x)))
    by None is some = absurd (true≢false (sym some))
    by (Some x) is some = elim (eqb_tells x.0 g) [
      | inl same ↦ (x.1, (ap (value_if g) is ∙ rw same.0 refl, is ∙ ap (λ n. Some (n, x.1)) same.1))
      | inr other ↦ absurd (true≢false
          (sym (subst (λ b. IsSome (if b then Some x.1 else None)) other.0 some)))
    ]

-- and where it stands
pub stands_at : {T : Type 0} (at : ℕ → Option (ℕ × T)) (i g : ℕ) (x : T)
    → value_if g (at i) ≡ Some x → at i ≡ Some (g, x)
stands_at at i g x found = let st = stands_under at i g (ap is_some found) in st.1.1
    ∙ ap (λ y. Some (g, y)) (some_same (sym st.1.0 ∙ found))

-- what is found under a ticket has it
pub found_has : {X : Type 0} (ticket : X → ℕ) (t : ℕ) (xs : List X) (x : X)
    → find (λ y. ticket y == t) xs ≡ Some x → ticket x ≡ t
found_has {X} ticket t [] x is = absurd (let no : ◌≡◌ {A = Option X} None (Some x) = is in cc)
found_has ticket t (y ∷ xs) x is = elim (eqb_tells (ticket y) t) [
  | inl same ↦
      let found : find (λ z. ticket z == t) (y ∷ xs) ≡ Some y = rw same.0 refl in
      ap ticket (some_same (sym is ∙ found)) ∙ same.1
  | inr other ↦ let skip : find (λ z. ticket z == t) (y ∷ xs) ≡ find (λ z. ticket z == t) xs =
      rw other.0 refl in found_has ticket t xs x (sym skip ∙ is)
]

-- what is new if each index keeps what it has
pub none_new : {T : Type 0} (n : ℕ) (at at' : ℕ → Option (ℕ × T)) → ((k : ℕ) → at' k ≡ at k)
    → NewHave n at at'
none_new {T} n at at' same i g x none is =
    absurd (let no : ◌≡◌ {A = Option (ℕ × T)} None (Some (g, x)) = sym none ∙ sym (same i)
    ∙ is in cc)

-- if one index has another item
module _ {T : Type 0} (n : ℕ) (at at' : ℕ → Option (ℕ × T)) (k h : ℕ) (y : T)
    (entries : (j : ℕ) → at' j ≡ with_entry at k (h, y) j) where
  beside : (i g : ℕ) (x : T) → (i == k) ≡ false → at i ≡ None → at' i ≡ Some (g, x) → ⊥
  beside i g x other none is =
      let stays : at' i ≡ at i = entries i ∙ rw other refl in
      absurd (let no : ◌≡◌ {A = Option (ℕ × T)} None (Some (g, x)) = sym none ∙ sym stays
      ∙ is in cc)

  pub one_new : h ≡ n → NewHave n at at'
  one_new own i g x none is = elim (eqb_tells i k) [
    | inl same ↦
        let here : at' i ≡ Some (h, y) = entries i ∙ rw same.0 refl in
        let both : (h, y) ≡ (g, x) = some_same (sym here ∙ is) in
        sym (ap (λ (p : ℕ × T). p.0) both) ∙ own
    | inr other ↦ absurd (beside i g x other.0 none is)
  ]

  -- and had none before: each item stays
  pub each_stays : at k ≡ None → (i g : ℕ) (x : T) → at i ≡ Some (g, x) → at' i ≡ Some (g, x)
  each_stays none i g x is = elim (eqb_tells i k) [
    | inl same ↦ absurd (let no : ◌≡◌ {A = Option (ℕ × T)} None (Some (g, x)) = sym none
        ∙ sym (ap at same.1) ∙ is in cc)
    | inr other ↦ entries i ∙ rw other.0 is
  ]

  -- and had one before
  pub replaced_new : (z : ℕ × T) → at k ≡ Some z → NewHave n at at'
  replaced_new z was i g x none is = elim (eqb_tells i k) [
    | inl same ↦ absurd (let no : ◌≡◌ {A = Option (ℕ × T)} None (Some z) = sym none ∙ ap at same.1
        ∙ was in cc)
    | inr other ↦ absurd (beside i g x other.0 none is)
  ]
