-- The items along a list of indexes.
use Rattle.std.proofs.Common.{◌≡◌, ◌≢◌, ◌∙◌, sym, ap, subst, refl, Bool, true, false, ℕ, List, []}
use Rattle.std.proofs.Common.{◌∷◌, ◌++◌, map, Option, Some, None, IsSome}
use Rattle.std.specs.List.{AllByRecursion}
use Rattle.std.proofs.lemmas.Bool.{ne_eqb}
use Rattle.triple_arena.specs.Entries.{with_entry}
use Rattle.triple_arena_ord.specs.Ascending.{entries_along}

abbrev pub along : {T : Type 0} → (ℕ → Option (ℕ × T)) → List ℕ → List T
along at w = map (λ x. x.1.1) (entries_along at w)

module _ {T : Type 0} (at : ℕ → Option (ℕ × T)) where
  pub along_some : (i : ℕ) (w : List ℕ) (e : ℕ × T) → at i ≡ Some e
      → along at (i ∷ w) ≡ e.1 ∷ along at w
  along_some i w e is = rw is refl

  pub along_none : (i : ℕ) (w : List ℕ) → at i ≡ None → along at (i ∷ w) ≡ along at w
  along_none i w is = rw is refl

  pub along-append : (v w : List ℕ) → along at (v ++ w) ≡ along at v ++ along at w
  along-append [] w = refl
  along-append (i ∷ v) w = by (at i) refl (along-append v w)
    where
      by : (o : Option (ℕ × T)) → at i ≡ o → along at (v ++ w) ≡ along at v ++ along at w
          → along at (i ∷ (v ++ w)) ≡ along at (i ∷ v) ++ along at w
      by None is rest = along_none i (v ++ w) is ∙ rest
          ∙ ap (λ l. l ++ along at w) (sym (along_none i v is))
      by (Some e) is rest = along_some i (v ++ w) e is ∙ ap (λ l. e.1 ∷ l) rest
          ∙ ap (λ l. l ++ along at w) (sym (along_some i v e is))

  -- an item more leaves those along a list of live indexes
  pub along_with : (at' : ℕ → Option (ℕ × T)) (i : ℕ) (x : ℕ × T) → at i ≡ None
      → ((k : ℕ) → at' k ≡ with_entry at i x k) → (w : List ℕ)
      → AllByRecursion (λ j. IsSome (at j)) w → along at' w ≡ along at w
  along_with at' i x vacant entries [] all = refl
  along_with at' i x vacant entries (j ∷ w) all =
      by (at j) refl all.0 (along_with at' i x vacant entries w all.1)
    where
      by : (o : Option (ℕ × T)) → at j ≡ o → IsSome (at j) → along at' w ≡ along at w
          → along at' (j ∷ w) ≡ along at (j ∷ w)
      by None is some rest =
          absurd (let no : ◌≡◌ {A = Bool} false true = subst IsSome is some in cc)
      by (Some e) is some rest =
          let other : j ≢ i = λ same. (let no : ◌≡◌ {A = Option (ℕ × T)} None (Some e) =
          sym vacant ∙ sym (ap at same) ∙ is in cc) in
          let there : at' j ≡ Some e = entries j ∙ rw (ne_eqb j i other) is in
          let more : along at' (j ∷ w) ≡ e.1 ∷ along at' w = rw there refl in
          more ∙ ap (λ l. e.1 ∷ l) rest ∙ sym (along_some j w e is)
