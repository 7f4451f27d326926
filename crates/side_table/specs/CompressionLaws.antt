-- The map of a compression keeps the order of the indexes and gives no greater one. A table that
-- follows it has under each new pointer what it had under the old one.
use Rattle.std.proofs.Common.{◌≡◌, ◌∙◌, sym, ap, subst, refl, ℕ, zero, suc, ◌+◌, ◌<◌}
use Rattle.std.proofs.Common.{arith, List, [], ◌∷◌, map, length, get_or, slice_get}
use Rattle.std.proofs.Common.{inl, inr, Option, Some, None, IsSome}
use Rattle.std.proofs.Common.{is_some, true≢false}
use Rattle.std.specs.List.Sorted.{IsStrictlyIncreasing}
use Rattle.std.specs.Option.{option_map}
use Rattle.std.proofs.lemmas.Bool.{eq-eqb, cases_order, cases_eq}
use Rattle.std.proofs.lemmas.Option.{none-some, some_pair_parts, slice_get-map}
use Rattle.std.proofs.lemmas.List.Kept.{AllPairs-from_increasing}
use Rattle.triple_arena.specs.Compression.{index_of, live_values, IsCompact}
use Rattle.triple_arena.specs.Content.{Content, get}
use Rattle.triple_arena.specs.ContentLaws.{entry_seen}
use Rattle.triple_arena.specs.DirectContent.{DirectContent, as_content, entry_at}
use Rattle.triple_arena.specs.DirectContent.{live_entries as entries_of}
use Rattle.triple_arena.specs.Entries.{value_if}
use Rattle.triple_arena.specs.Iterators.{pointer_of}
use Rattle.triple_arena.specs.LiveEntries.{live_entries, live_entries-increase}
use Rattle.triple_arena.specs.Recaster.{pointer_in, IsRecaster}
use Rattle.triple_arena.specs.RecasterLaws.{listed-found, found-listed, recaster-follows}
use Rattle.triple_arena.specs.RecasterLaws.{recaster-names_valid}
use Rattle.side_table.specs.SideTable.{Rises, NeverGoesUp, IsCarried}

module _ {T : Type 0} where
  -- a value under its generation
  pub found : (o : Option (ℕ × T)) (g : ℕ) (t : T) → o ≡ Some (g, t) → value_if g o ≡ Some t
  found o g t is = ap (value_if g) is ∙ rw (eq-eqb g g refl) refl

  -- what an entry that a generation does not find is not
  pub not_found : (o : Option (ℕ × T)) (g : ℕ) (t : T) → value_if g o ≡ None → o ≡ Some (g, t) → ⊥
  not_found o g t none is = true≢false (sym (ap is_some (sym none ∙ found o g t is)))

-- the index of the entry at a place, which is one of the list
index_here : {P : Type 0} (xs : List (ℕ × (ℕ × P))) (k : ℕ) (e : ℕ × (ℕ × P))
    → slice_get xs k ≡ Some e
    → (k < length (map index_of xs)) × (get_or (map index_of xs) k 0 ≡ e.0)
index_here [] k e at = absurd (cc)
index_here (x ∷ xs) zero e at = let is : x ≡ e = cc in (omega arith, ap index_of is)
index_here (x ∷ xs) (suc k) e at =
    let rest = index_here xs k e at in let less = rest.0 in (omega (arith, less), rest.1)

-- numbers that rise from 1 on are above their places
above_place : (xs : List ℕ) → IsStrictlyIncreasing xs → (0 < length xs → 0 < get_or xs 0 0)
    → (k : ℕ) → k < length xs → k < get_or xs k 0
above_place xs rises first zero within = first within
above_place xs rises first (suc k) within =
    let before = above_place xs rises first k (omega (arith, within)) in
    let next : k + 1 ≡ suc k = omega arith in
    let step : get_or xs k 0 < get_or xs (suc k) 0 = rw next at
    (rises k (omega (arith, within))) in
    omega (arith, before, step)

first_positive : {P : Type 0} (xs : List (ℕ × (ℕ × P)))
    → ((k i g : ℕ) (q : P) → slice_get xs k ≡ Some (i, (g, q)) → 0 < i)
    → 0 < length (map index_of xs) → 0 < get_or (map index_of xs) 0 0
first_positive [] each some = absurd (omega (arith, some))
first_positive (x ∷ xs) each some = each 0 x.0 x.1.0 x.1.1 refl

module _ {P T : Type 0} (index generation : P → ℕ) (named : ℕ → Option (ℕ × P))
    (entries : List (ℕ × (ℕ × P))) (after : List (ℕ × (ℕ × T))) where
  -- the map of a compression: its entries are listed by their indexes, and hold the pointers of
  -- the entries that stand at the first indexes afterwards
  pub record IsOfCompression : Type 0 where
    pub none : named 0 ≡ None
    pub listed : (i g : ℕ) (q : P) → named i ≡ Some (g, q)
        → (k : ℕ) × (slice_get entries k ≡ Some (i, (g, q)))
    pub found : (k i g : ℕ) (q : P) → slice_get entries k ≡ Some (i, (g, q))
        → named i ≡ Some (g, q)
    pub increases : IsStrictlyIncreasing (map index_of entries)
    pub compact : IsCompact after
    pub to : map (pointer_in index generation) entries ≡ map pointer_of after

  module _ (m : IsOfCompression) where
    new_index : (k i g : ℕ) (q : P) → slice_get entries k ≡ Some (i, (g, q)) → index q ≡ k + 1
    new_index k i g q at = by (slice_get after k) refl
      where
        holds : option_map pointer_of (slice_get after k) ≡ Some (index q, generation q)
        holds = sym (slice_get-map pointer_of after k) ∙ ap (λ l. slice_get l k) (sym m.to)
            ∙ slice_get-map (pointer_in index generation) entries k
            ∙ ap (option_map (pointer_in index generation)) at

        by : (o : Option (ℕ × (ℕ × T))) → slice_get after k ≡ o → index q ≡ k + 1
        by None is = absurd (none-some (index q, generation q)
            (sym (ap (option_map pointer_of) is) ∙ holds))
        by (Some e) is =
            let same = some_pair_parts e.0 (index q) e.1.0 (generation q)
            (sym (ap (option_map pointer_of) is) ∙ holds) in
            sym same.0 ∙ m.compact k e is

    positive : 0 < length (map index_of entries) → 0 < get_or (map index_of entries) 0 0
    positive some = first_positive entries
        (λ k i g q at. elim (cases_eq i 0) [
          | inl none ↦ absurd (none-some (g, q)
              (sym m.none ∙ ap named (sym none) ∙ m.found k i g q at))
          | inr other ↦ omega (arith, other)
        ]) some

    never_up : NeverGoesUp index named
    never_up i g q is =
        let l = m.listed i g q is in
        let here = index_here entries l.0 (i, (g, q)) l.1 in
        let above = above_place (map index_of entries) m.increases positive l.0 here.0 in
        let at = here.1 in
        let new = new_index l.0 i g q l.1 in
        omega (arith, above, at, new)

    rising : Rises index named
    rising i j g h p q first second less =
        let k = m.listed i g p first in
        let l = m.listed j h q second in
        let one = index_here entries k.0 (i, (g, p)) k.1 in
        let two = index_here entries l.0 (j, (h, q)) l.1 in
        let new = new_index k.0 i g p k.1 in
        let new' = new_index l.0 j h q l.1 in
        let at = one.1 in
        let at' = two.1 in
        elim (cases_order k.0 l.0) [
          | inl same ↦
              let both = ap (λ n. get_or (map index_of entries) n 0) same in
              absurd (omega (arith, both, at, at', less))
          | inr (inl below) ↦ omega (arith, below, new, new')
          | inr (inr back) ↦
              let down = AllPairs-from_increasing (map index_of entries) m.increases l.0 k.0 0 back
              one.0 in
              absurd (omega (arith, down, at, at', less))
        ]

-- what the carried table has under a new pointer is what it had under the old one
pub follows : {P T : Type 0} (index generation : P → ℕ) (named : ℕ → Option (ℕ × P))
    (old new : ℕ → Option (ℕ × T)) → Rises index named
    → ((j h : ℕ) (t : T) → (new j ≡ Some (h, t) → IsCarried index generation named old j h t)
    × (IsCarried index generation named old j h t → new j ≡ Some (h, t)))
    → (i g : ℕ) (q : P) → named i ≡ Some (g, q)
    → value_if (generation q) (new (index q)) ≡ value_if g (old i)
follows {P} {T} index generation named old new rises carried i g q is =
    by (value_if g (old i)) refl
  where
    same_index : (c : P) (k h : ℕ) → named k ≡ Some (h, c) → index c ≡ index q → k ≡ i
    same_index c k h at same = elim (cases_order k i) [
      | inl it ↦ it
      | inr (inl less) ↦
          let up = rises k i h g c q at is less in absurd (omega (arith, up, same))
      | inr (inr more) ↦
          let up = rises i k g h q c is at more in absurd (omega (arith, up, same))
    ]

    nothing : value_if g (old i) ≡ None → (o : Option T)
        → value_if (generation q) (new (index q)) ≡ o → o ≡ None
    nothing none None at = refl
    nothing none (Some t) at =
        let c = (carried (index q) (generation q) t).0
        (entry_seen (generation q) (new (index q)) t at) in
        let k = same_index c.pointer c.old_index c.old_generation c.renamed c.has_index in
        let own = some_pair_parts c.old_generation g c.pointer q
        (sym c.renamed ∙ ap named k ∙ is) in
        absurd (not_found (old i) g t none
        (sym (ap old k) ∙ c.stood ∙ ap (λ n. Some (n, t)) own.0))

    by : (o : Option T) → value_if g (old i) ≡ o
        → value_if (generation q) (new (index q)) ≡ value_if g (old i)
    by None none = nothing none (value_if (generation q) (new (index q))) refl ∙ sym none
    by (Some t) some =
        found (new (index q)) (generation q) t ((carried (index q) (generation q) t).1 (record {
          old_index = i;
          old_generation = g;
          pointer = q;
          stood = entry_seen g (old i) t some;
          renamed = is;
          has_index = refl;
          has_generation = refl;
        })) ∙ sym some

module _ {P T : Type 0} {index generation : P → ℕ} (c c' : Content T) (d : DirectContent P)
    (r : IsRecaster index generation (live_entries c) (live_entries c') (entries_of d)) where
  pub of_compression : IsCompact (live_entries c')
      → IsOfCompression index generation (entry_at d) (entries_of d) (live_entries c')
  of_compression compact = record {
    none = refl;
    listed = λ i g q is. listed-found (as_content d) i g q (found (entry_at d i) g q is);
    found = λ k i g q at. entry_seen g (entry_at d i) q
        (found-listed (as_content d) k i g q at);
    increases = live_entries-increase (as_content d);
    compact = compact;
    to = r.to;
  }

  pub rises : IsCompact (live_entries c') → Rises index (entry_at d)
  rises compact = rising index generation (entry_at d) (entries_of d) (live_entries c')
      (of_compression compact)

  pub never_goes_up : IsCompact (live_entries c') → NeverGoesUp index (entry_at d)
  never_goes_up compact = never_up index generation (entry_at d) (entries_of d) (live_entries c')
      (of_compression compact)

  -- the new pointers are those of entries
  pub new_valid : live_values c' ≡ live_values c → (i g : ℕ) (q : P) → entry_at d i ≡ Some (g, q)
      → IsSome (get c' (index q) (generation q))
  new_valid kept i g q is =
      let at = found (entry_at d i) g q is in
      subst IsSome (sym (recaster-follows c c' d r kept i g q at))
      (recaster-names_valid c c' d r i g q at)
