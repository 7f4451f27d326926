-- The entry that stands at an index is the one that the arena has there.
use Rattle.std.proofs.Common.{◌≡◌, ◌==◌, ◌∙◌, sym, ap, subst, refl, true, false, ℕ, List, [], ◌∷◌}
use Rattle.std.proofs.Common.{◌++◌, find, map, Option, Some, None, IsSome, option_map, inl, inr}
use Rattle.std.proofs.lemmas.Bool.{eq-eqb, ne_eqb}
use Rattle.std.proofs.lemmas.Bool.Decides.{eqb_tells}
use Rattle.triple_arena_ord.specs.Ascending.{entries_along}
use Rattle.triple_arena_ord.specs.Inserted.{IsAdded}
use Rattle.triple_arena_ord.specs.Ordered.{Ordered, IsOrdered, entry_in, order_in}
use Rattle.ticket_book.specs.InArena.{standing_in}
use Rattle.ticket_book.specs.Tickets.{Entry}
use Rattle.ticket_book.proofs.TicketLemmas.{AllStand}

module _ (at : ℕ → Option (ℕ × Entry)) where
  abbrev standing : List ℕ → List (ℕ × Entry)
  standing w = map (λ x. (x.0, x.1.1)) (entries_along at w)

  abbrev found : ℕ → List ℕ → Option Entry
  found i w = option_map (λ (x : ℕ × Entry). x.1) (find (λ (x : ℕ × Entry). x.0 == i) (standing w))

  found_none : (i j : ℕ) (w : List ℕ) → at j ≡ None → found i (j ∷ w) ≡ found i w
  found_none i j w is = rw is refl

  found_here : (i : ℕ) (w : List ℕ) (e : ℕ × Entry) → at i ≡ Some e → found i (i ∷ w) ≡ Some e.1
  found_here i w e is = rw (is, eq-eqb i i refl) refl

  found_later : (i j : ℕ) (w : List ℕ) (e : ℕ × Entry) → at j ≡ Some e → (j ≡ i → ⊥)
      → found i (j ∷ w) ≡ found i w
  found_later i j w e is other = rw (is, ne_eqb j i other) refl

  -- an index of the list
  found_on : (front : List ℕ) (i : ℕ) (back : List ℕ) (e : ℕ × Entry) → at i ≡ Some e
      → found i (front ++ i ∷ back) ≡ Some e.1
  found_on [] i back e is = found_here i back e is
  found_on (j ∷ front) i back e is = by (at j) refl (found_on front i back e is)
    where
      by : (o : Option (ℕ × Entry)) → at j ≡ o → found i (front ++ i ∷ back) ≡ Some e.1
          → found i (j ∷ (front ++ i ∷ back)) ≡ Some e.1
      by None there rest = found_none i j (front ++ i ∷ back) there ∙ rest
      by (Some d) there rest = elim (eqb_tells j i) [
        | inl same ↦ rw same.1 (found_here i (front ++ i ∷ back) e is)
        | inr other ↦ found_later i j (front ++ i ∷ back) d there
            (λ s. (let no : false ≡ true = sym other.0 ∙ eq-eqb j i s in absurd (cc))) ∙ rest
      ]

  -- one at which nothing stands
  found_nowhere : (i : ℕ) (w : List ℕ) → at i ≡ None → found i w ≡ None
  found_nowhere i [] none = refl
  found_nowhere i (j ∷ w) none = by (at j) refl (found_nowhere i w none)
    where
      by : (o : Option (ℕ × Entry)) → at j ≡ o → found i w ≡ None → found i (j ∷ w) ≡ None
      by None there rest = found_none i j w there ∙ rest
      by (Some d) there rest =
          found_later i j w d there
          (λ same. (let no : ◌≡◌ {A = Option (ℕ × Entry)} (Some d) None = sym there ∙ ap at same
          ∙ none in absurd (cc))) ∙ rest

-- what stands at an index, where a look finds no entry, or one
pub none_stands : {A : Type 0} (f : A → ℕ × Entry) (answer : Option A) (there : Option (ℕ × Entry))
    → option_map f answer ≡ there → answer ≡ None
    → IsSome (option_map (λ (e : ℕ × Entry). e.1) there) → ⊥
none_stands f answer there same none some =
    let nothing : there ≡ None = sym same ∙ ap (option_map f) none in
    absurd (let no : false ≡ true =
    subst (λ o. IsSome (option_map (λ (e : ℕ × Entry). e.1) o)) nothing some in cc)

-- each entry renewed where it stands
pub stands_renewed : (f : Entry → Entry) (old new : Option (ℕ × Entry))
    → new ≡ option_map {U = ℕ × Entry} (λ e. (e.0, f e.1)) old
    → option_map (λ (e : ℕ × Entry). e.1) new
    ≡ option_map f (option_map (λ (e : ℕ × Entry). e.1) old)
stands_renewed f None new is = ap (option_map (λ (e : ℕ × Entry). e.1)) is
stands_renewed f (Some e) new is = ap (option_map (λ (e : ℕ × Entry). e.1)) is

module _ (law : AllStand) where
  pub stands_there : (o : Ordered Entry) → IsOrdered o → (i : ℕ)
      → option_map (λ (x : ℕ × Entry). x.1)
      (find (λ (x : ℕ × Entry). x.0 == i) (standing_in o))
      ≡ option_map (λ (e : ℕ × Entry). e.1) (entry_in o i)
  stands_there o ordered i = by (entry_in o i) refl
    where
      by : (e : Option (ℕ × Entry)) → entry_in o i ≡ e
          → found (entry_in o) i (order_in o)
          ≡ option_map (λ (e : ℕ × Entry). e.1) (entry_in o i)
      by None is = found_nowhere (entry_in o) i (order_in o) is
          ∙ sym (ap (option_map (λ (e : ℕ × Entry). e.1)) is)
      by (Some e) is =
          let there = law o i ordered (rw is refl) in
          ap (found (entry_in o) i) there.is ∙ found_on (entry_in o) there.front i there.back e is
          ∙ sym (ap (option_map (λ (e : ℕ × Entry). e.1)) is)

  -- the entries that stood still stand if there is one more
  pub still_stand : (old new : Ordered Entry) (j g : ℕ) (t : Entry)
      → IsOrdered old → IsOrdered new → IsAdded j g t old new
      → (i : ℕ) (e : Entry)
      → option_map (λ (x : ℕ × Entry). x.1)
      (find (λ (x : ℕ × Entry). x.0 == i) (standing_in old)) ≡ Some e
      → option_map (λ (x : ℕ × Entry). x.1)
      (find (λ (x : ℕ × Entry). x.0 == i) (standing_in new)) ≡ Some e
  still_stand old new j g t ordered ordered' added i e stood =
      let there : option_map (λ (x : ℕ × Entry). x.1) (entry_in old i) ≡ Some e =
      sym (stands_there old ordered i) ∙ stood in
      let now : option_map (λ (x : ℕ × Entry). x.1) (entry_in new i) ≡ Some e =
      elim (eqb_tells i j) [
        | inl same ↦ absurd (let no : ◌≡◌ {A = Option Entry} None (Some e) =
            sym (ap (option_map (λ (x : ℕ × Entry). x.1))
            (ap (entry_in old) same.1 ∙ added.vacant)) ∙ there in cc)
        | inr other ↦
            ap (option_map (λ (x : ℕ × Entry). x.1)) (added.entries i ∙ rw other.0 refl) ∙ there
      ] in
      stands_there new ordered' i ∙ now

  -- and the one more stands at its index
  pub added_stands : (old new : Ordered Entry) (j g : ℕ) (t : Entry)
      → IsOrdered new → IsAdded j g t old new → (i : ℕ) → i ≡ j
      → option_map (λ (x : ℕ × Entry). x.1)
      (find (λ (x : ℕ × Entry). x.0 == i) (standing_in new)) ≡ Some t
  added_stands old new j g t ordered added i same =
      let here : entry_in new i ≡ Some (g, t) = added.entries i ∙ rw (eq-eqb i j same) refl in
      stands_there new ordered i ∙ ap (option_map (λ (e : ℕ × Entry). e.1)) here
