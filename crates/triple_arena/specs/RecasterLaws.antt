-- What the map of a compression says of the pointers: each that was valid is renamed to one that
-- finds the same value, and each that is valid afterwards is the new name of one, and of no other.
-- The laws take the clause `recaster` first.
use Rattle.std.proofs.Common.{◌≡◌, ℕ, zero, suc, ◌+◌, List, [], ◌∷◌, map, get_or, Option, Some}
use Rattle.std.proofs.Common.{None, IsSome, slice_get, is_some, true≢false, refl, sym, ap, ◌∙◌}
use Rattle.std.proofs.Common.{arith, add-zero}
use Rattle.std.specs.Option.{option_map}
use Rattle.std.proofs.lemmas.Bool.{eq-eqb}
use Rattle.std.proofs.lemmas.Option.{slice_get-map}
use Rattle.triple_arena.specs.Content.{Content, entry_at, get}
use Rattle.triple_arena.specs.ContentLaws.{entry_seen}
use Rattle.triple_arena.specs.Entries.{value_if}
use Rattle.triple_arena.specs.Iterators.{pointer_of}
use Rattle.triple_arena.specs.LiveEntries.{listed_from, live_entries}
use Rattle.triple_arena.specs.Compression.{index_of, entry_of_listed, value_of, live_values}
use Rattle.triple_arena.specs.Compression.{IsCompact}
use Rattle.triple_arena.specs.DirectContent.{DirectContent, as_content, get as get_of}
use Rattle.triple_arena.specs.DirectContent.{live_entries as entries_of}
use Rattle.triple_arena.specs.Recaster.{pointer_in, IsRecaster, IsRenaming}

module _ {T : Type 0} where
  -- a listed entry stands in its slot
  pub record IsListedAt (n : ℕ) (xs : List (Option (ℕ × T))) (e : ℕ × (ℕ × T)) : Type 0 where
    pub at : ℕ
    pub index : index_of e ≡ n + at
    pub slot : get_or xs at None ≡ Some (entry_of_listed e)

  pub stands : (n : ℕ) (xs : List (Option (ℕ × T))) (k : ℕ) (e : ℕ × (ℕ × T))
      → slice_get (listed_from n xs) k ≡ Some e → IsListedAt n xs e
  stands n [] k e found = absurd (cc)
  stands n (None ∷ xs) k e found =
      let rest = stands (n + 1) xs k e found in
      record { at = suc rest.at; index = omega (arith, rest.index); slot = rest.slot }
  stands n (Some y ∷ xs) zero e found =
      let same : (n, y) ≡ e = cc in
      record {
        at = zero;
        index = sym (ap index_of same) ∙ sym (add-zero n);
        slot = ap (λ x. Some (entry_of_listed x)) same;
      }
  stands n (Some y ∷ xs) (suc k) e found =
      let rest = stands (n + 1) xs k e found in
      record { at = suc rest.at; index = omega (arith, rest.index); slot = rest.slot }

  -- and each entry of a slot is listed
  place : (n : ℕ) (xs : List (Option (ℕ × T))) (j : ℕ) (e : ℕ × T) → get_or xs j None ≡ Some e
      → (k : ℕ) × (slice_get (listed_from n xs) k ≡ Some (n + j, e))
  place n [] j e found = absurd (cc)
  place n (None ∷ xs) zero e found = absurd (cc)
  place n (None ∷ xs) (suc j) e found =
      let rest = place (n + 1) xs j e found in
      let next : (n + 1) + j ≡ n + suc j = omega arith in
      (rest.0, rest.1 ∙ ap (λ i. Some (i, e)) next)
  place n (Some y ∷ xs) zero e found =
      let same : y ≡ e = cc in
      (0, ap (λ x. Some (n, x)) same ∙ ap (λ i. Some (i, e)) (sym (add-zero n)))
  place n (Some y ∷ xs) (suc j) e found =
      let rest = place (n + 1) xs j e found in
      let next : (n + 1) + j ≡ n + suc j = omega arith in
      (suc rest.0, rest.1 ∙ ap (λ i. Some (i, e)) next)

  pub listed-found : (c : Content T) (i g : ℕ) (t : T) → get c i g ≡ Some t → (k : ℕ)
      × (slice_get (live_entries c) k ≡ Some (i, (g, t)))
  listed-found c zero g t found = absurd (cc)
  listed-found c (suc j) g t found =
      let p = place 1 c.slots j (g, t) (entry_seen g (entry_at c (suc j)) t found) in
      let first : 1 + j ≡ suc j = omega arith in
      (p.0, p.1 ∙ ap (λ i. Some (i, (g, t))) first)

  pub found-listed : (c : Content T) (k i g : ℕ) (t : T)
      → slice_get (live_entries c) k ≡ Some (i, (g, t)) → get c i g ≡ Some t
  found-listed c k i g t listed =
      let s = stands 1 c.slots k (i, (g, t)) listed in
      let index : i ≡ suc s.at = omega (arith, s.index) in
      ap (λ j. get c j g) index ∙ ap (value_if g) s.slot ∙ rw (eq-eqb g g refl) refl

-- lists that look the same have items that look the same at each place
matched : {X Y Z : Type 0} (f : X → Z) (g : Y → Z) (xs : List X) (ys : List Y) (k : ℕ) (y : Y)
    → map f xs ≡ map g ys → slice_get ys k ≡ Some y
    → (x : X) × (slice_get xs k ≡ Some x) × (f x ≡ g y)
matched f g xs ys k y same at = by_item (slice_get xs k) refl
  where
    seen : option_map f (slice_get xs k) ≡ Some (g y)
    seen = sym (slice_get-map f xs k) ∙ ap (λ l. slice_get l k) same ∙ slice_get-map g ys k ∙ ap
        (option_map g) at

    by_item : (o : Option _) → slice_get xs k ≡ o → (x : _) × (slice_get xs k ≡ Some x)
        × (f x ≡ g y)
    by_item None e = absurd (let none : None ≡ Some (g y) = rw e at seen in cc)
    by_item (Some x) e = (x, e, (let both : Some (f x) ≡ Some (g y) = rw e at seen in cc))

module _ {P T : Type 0} {index generation : P → ℕ} (c c' : Content T) (d : DirectContent P)
    (r : IsRecaster index generation (live_entries c)
    (live_entries c') (entries_of d)) where
  -- each pointer that was valid has a new name
  pub recaster-renames : (i g : ℕ) (t : T) → get c i g ≡ Some t → (q : P) × (get_of d i g ≡ Some q)
  recaster-renames i g t found =
      let p = listed-found c i g t found in
      let m = matched pointer_of pointer_of (entries_of d) (live_entries c) p.0
      (i, (g, t)) r.from p.1 in
      let q = m.0.1.1 in
      let at : slice_get (entries_of d) p.0 ≡ Some (i, (g, q)) =
      m.1 ∙ ap (λ (x : ℕ × ℕ). Some (x.0, (x.1, q))) m.2 in
      (q, found-listed (as_content d) p.0 i g q at)

  -- what a pointer and its new name stand for
  record Renamed (i g : ℕ) (q : P) : Type 0 where
    pub place : ℕ
    pub noted : slice_get (entries_of d) place ≡ Some (i, (g, q))
    pub old : T
    pub was : slice_get (live_entries c) place ≡ Some (i, (g, old))
    pub new : T
    pub is : slice_get (live_entries c') place ≡ Some (index q, (generation q, new))

  renamed_at : (i g : ℕ) (q : P) → get_of d i g ≡ Some q → Renamed i g q
  renamed_at i g q found =
      let p = listed-found (as_content d) i g q found in
      let m = matched pointer_of pointer_of (live_entries c) (entries_of d) p.0 (i, (g, q))
      (sym r.from) p.1 in
      let n = matched pointer_of (pointer_in index generation) (live_entries c') (entries_of d) p.0
      (i, (g, q)) (sym r.to) p.1 in
      record {
        place = p.0;
        noted = p.1;
        old = m.0.1.1;
        was = m.1 ∙ ap (λ (x : ℕ × ℕ). Some (x.0, (x.1, m.0.1.1))) m.2;
        new = n.0.1.1;
        is = n.1 ∙ ap (λ (x : ℕ × ℕ). Some (x.0, (x.1, n.0.1.1))) n.2;
      }

  -- which finds the value that the pointer found
  pub recaster-follows : live_values c' ≡ live_values c → (i g : ℕ) (q : P) → get_of d i g ≡ Some q
      → get c' (index q) (generation q) ≡ get c i g
  recaster-follows kept i g q found =
      let n = renamed_at i g q found in
      let m = matched value_of value_of (live_entries c') (live_entries c) n.place
      (i, (g, n.old)) kept n.was in
      let same : Some m.0 ≡ Some (index q, (generation q, n.new)) = sym m.1 ∙ n.is in
      let own : m.0 ≡ (index q, (generation q, n.new)) = cc in
      let value : n.new ≡ n.old = sym (ap value_of own) ∙ m.2 in
      found-listed c' n.place (index q) (generation q) n.new n.is
      ∙ ap Some value
      ∙ sym (found-listed c n.place i g n.old n.was)

  -- no other pointer has a new name, so none that found nothing
  pub recaster-names_valid : (i g : ℕ) (q : P) → get_of d i g ≡ Some q → IsSome (get c i g)
  recaster-names_valid i g q found =
      let n = renamed_at i g q found in
      ap is_some (found-listed c n.place i g n.old n.was)

  -- two pointers have two new names
  pub recaster-apart : IsCompact (live_entries c') → (i g : ℕ) (q : P) (i' g' : ℕ) (q' : P)
      → get_of d i g ≡ Some q → get_of d i' g' ≡ Some q'
      → index q ≡ index q' → (i ≡ i') × (g ≡ g')
  recaster-apart compact i g q i' g' q' found found' same =
      let n = renamed_at i g q found in
      let n' = renamed_at i' g' q' found' in
      let first = compact n.place (index q, (generation q, n.new)) n.is in
      let second = compact n'.place (index q', (generation q', n'.new)) n'.is in
      let one : n.place ≡ n'.place = omega (arith, first, second, same) in
      let both : Some (i, (g, q)) ≡ Some (i', (g', q')) =
      sym n.noted ∙ ap (slice_get (entries_of d)) one ∙ n'.noted in
      let entry : (i, (g, q)) ≡ (i', (g', q')) = cc in
      (ap (λ (e : ℕ × (ℕ × P)). e.0) entry, ap (λ (e : ℕ × (ℕ × P)). e.1.0) entry)

  -- each pointer that is valid afterwards is the new name of one
  pub recaster-onto : (j h : ℕ) (u : T) → get c' j h ≡ Some u
      → (i : ℕ) × (g : ℕ) × (q : P) × (get_of d i g ≡ Some q) × (index q ≡ j) × (generation q ≡ h)
  recaster-onto j h u found =
      let p = listed-found c' j h u found in
      let m = matched (pointer_in index generation) pointer_of (entries_of d) (live_entries c') p.0
      (j, (h, u)) r.to p.1 in
      let x = m.0 in (
        x.0,
        x.1.0,
        x.1.1,
        found-listed (as_content d) p.0 x.0 x.1.0 x.1.1 m.1,
        ap (λ (y : ℕ × ℕ). y.0) m.2,
        ap (λ (y : ℕ × ℕ). y.1) m.2,
      )

  -- all of this
  pub recaster-is_renaming : live_values c' ≡ live_values c → IsCompact (live_entries c')
      → IsRenaming index generation c c' d
  recaster-is_renaming kept compact =
      record {
        renames = λ i g. (
          (λ some. let f = some_of (get c i g) some in ap is_some (recaster-renames i g f.0 f.1).1),
          (λ some. let f = some_of (get_of d i g) some in recaster-names_valid i g f.0 f.1),
        );
        follows = recaster-follows kept;
        apart = recaster-apart compact;
        onto = λ j h some. let f = some_of (get c' j h) some in recaster-onto j h f.0 f.1;
      }
    where
      some_of : {X : Type 0} (o : Option X) → IsSome o → (x : X) × (o ≡ Some x)
      some_of None some = absurd (true≢false (sym some))
      some_of (Some x) some = (x, refl)
