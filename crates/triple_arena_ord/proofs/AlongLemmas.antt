-- Keys that are compared one after another along a linear chain.
use Rattle.std.proofs.Common.{◌≡◌, ◌≢◌, ℕ, ◌+◌, ◌≤◌, List, [], ◌∷◌, ◌++◌, length, append_assoc}
use Rattle.std.proofs.Common.{length-append, filter_map, Option, Some, None, IsSome, refl, sym, ap}
use Rattle.std.proofs.Common.{◌∙◌, subst, arith, true, false}
use Rattle.std.specs.Option.{option_map}
use Rattle.std.specs.Cmp.{IsTotalOrder}
use Rattle.std.specs.List.Sorted.{IsSorted}
use Rattle.std.specs.Ordering.{is_lt, ordering_reverse}
use Rattle.std.specs.declared.cmp.Ordering.{Ordering}
use Rattle.std.specs.declared.cmp.Ordering.TheVariants.{Less, Equal, Greater}
use Rattle.triple_arena.specs.Content.{Content, entry_at}
use Rattle.triple_arena_chain.specs.LinkShape.{IndexLink}
use Rattle.linked_lists.specs.LinkedLists.{Ends, IsLinear, first_or, last_or}
use Rattle.triple_arena_chain.specs.Links.{ends_in, link_ends, entry_ends, valued}
use Rattle.triple_arena_ord.specs.NodeShape.{IndexNode}
use Rattle.triple_arena_ord.specs.Node.{items_in, itemed}
use Rattle.triple_arena_ord.specs.Ascending.{AscendsAlong}
use Rattle.triple_arena_ord.proofs.AscendingLemmas.{first, tail, single, cons}
use Rattle.triple_arena_ord.proofs.GapLemmas.{linear_ends}

module _ {K T : Type 0} (cmp : K → K → Ordering) (key : T → K)
    (total : IsTotalOrder cmp) (c : Content (IndexLink (IndexNode T))) where
  abbrev Ascends : List ℕ → Type 0
  Ascends w = AscendsAlong cmp key (items_in c) w

  abbrev below : ℕ × (ℕ × T) → ℕ × (ℕ × T) → Ordering
  below x y = cmp (key x.1.1) (key y.1.1)

  abbrev rows : List ℕ → List (ℕ × (ℕ × T))
  rows w = filter_map (λ i. option_map (λ e. (i, e)) (items_in c i)) w

  -- the entry at an index that has a link
  pub record Seen (i : ℕ) (link : IndexLink (IndexNode T)) : Type 0 where
    pub stamp : ℕ
    pub at : entry_at c i ≡ Some (stamp, link)

  pub seen : (i : ℕ) (link : IndexLink (IndexNode T))
      → option_map (λ e. e.1) (entry_at c i) ≡ Some link → Seen i link
  seen i link h = by (entry_at c i) refl h
    where
      by : (o : Option (ℕ × IndexLink (IndexNode T))) → entry_at c i ≡ o
          → option_map (λ e. e.1) o ≡ Some link → Seen i link
      by None u h = absurd (cc)
      by (Some e) u h = let z : e.1 ≡ link = cc in
          record { stamp = e.0; at = u ∙ ap (λ l. Some (e.0, l)) z }

  row : (i : ℕ) (link : IndexLink (IndexNode T)) (s : Seen i link) (w : List ℕ)
      → rows (i ∷ w) ≡ (i, (s.stamp, link.t.t)) ∷ rows w
  row i link s w = let item : items_in c i ≡ Some (s.stamp, link.t.t) =
      ap (λ e. option_map itemed (option_map valued e)) s.at in rw item refl

  -- how far the keys are compared
  pub record Checking (w : List ℕ) (link : IndexLink (IndexNode T)) (done : ℕ) : Type 0 where
    pub before : List ℕ
    pub cur : ℕ
    pub after : List ℕ
    pub is : w ≡ before ++ cur ∷ after
    pub here : Seen cur link
    pub counted : length before + 1 ≡ done
    pub up : Ascends (cur ∷ after) → Ascends w
    pub down : Ascends w → Ascends (cur ∷ after)

  pub checking_begins : (w : List ℕ) (i : ℕ) (link : IndexLink (IndexNode T))
      → first_or w None ≡ Some i → Seen i link → Checking w link 1
  checking_begins [] i link e s = absurd (cc)
  checking_begins (x ∷ w) i link e s =
      let z : x ≡ i = cc in
      record {
        before = [];
        cur = x;
        after = w;
        is = refl;
        here = subst (λ j. Seen j link) (sym z) s;
        counted = omega arith;
        up = λ a. a;
        down = λ a. a;
      }

  -- the first index has a link
  pub first_lives : (w : List ℕ) (i : ℕ) → IsLinear (ends_in c) w → first_or w None ≡ Some i
      → IsSome (entry_at c i)
  first_lives [] i linear e = absurd (cc)
  first_lives (x ∷ w) i linear e = let z : x ≡ i = cc in
      subst (λ j. IsSome (entry_at c j)) z (lives (entry_at c x) linear.0)
    where
      lives : {v : Ends} (o : Option (ℕ × IndexLink (IndexNode T)))
          → option_map entry_ends o ≡ Some v → IsSome o
      lives None h = absurd (cc)
      lives (Some e) h = refl

  module _ (w : List ℕ) (link : IndexLink (IndexNode T)) (done : ℕ) (k : Checking w link done)
      (linear : IsLinear (ends_in c) w) where
    after_is : link.next ≡ first_or k.after None
    after_is =
        let z = linear_ends (ends_in c) k.before k.cur k.after
        (subst (IsLinear (ends_in c)) k.is linear) in
        let y : ends_in c k.cur ≡ Some (link_ends link) =
        ap (option_map entry_ends) k.here.at in
        let x : Some (link_ends link) ≡ Some (last_or None k.before, first_or k.after None) =
        sym y ∙ z in
        let v : link_ends link ≡ (last_or None k.before, first_or k.after None) = cc in
        ap (λ (e : Ends). e.1) v

    record Goes (i : ℕ) : Type 0 where
      pub rest : List ℕ
      pub is : k.after ≡ i ∷ rest

    goes : (i : ℕ) → link.next ≡ Some i → Goes i
    goes i e = by k.after refl (sym (after_is) ∙ e)
      where
        by : (l : List ℕ) → k.after ≡ l → first_or l None ≡ Some i → Goes i
        by [] u h = absurd (cc)
        by (x ∷ l) u h = let z : x ≡ i = cc in record { rest = l; is = u ∙ ap (λ y. y ∷ l) z }

    pub next_lives : (i : ℕ) → link.next ≡ Some i → IsSome (entry_at c i)
    next_lives i e =
        let g = goes i e in
        let is : w ≡ (k.before ++ k.cur ∷ []) ++ i ∷ g.rest = k.is
        ∙ ap (λ l. k.before ++ k.cur ∷ l) g.is
        ∙ sym (append_assoc k.before (k.cur ∷ []) (i ∷ g.rest)) in
        let z = linear_ends (ends_in c) (k.before ++ k.cur ∷ []) i g.rest
        (subst (IsLinear (ends_in c)) is linear) in
        lives (entry_at c i) z
      where
        lives : {v : Ends} (o : Option (ℕ × IndexLink (IndexNode T)))
            → option_map entry_ends o ≡ Some v → IsSome o
        lives None h = absurd (cc)
        lives (Some e) h = refl

    module _ (i : ℕ) (next : IndexLink (IndexNode T))
        (on : link.next ≡ Some i) (s : Seen i next) where
      both : (rest : List ℕ)
          → rows (k.cur ∷ i ∷ rest)
          ≡ (k.cur, (k.here.stamp, link.t.t)) ∷ (i, (s.stamp, next.t.t)) ∷ rows rest
      both rest = row k.cur link k.here (i ∷ rest)
          ∙ ap (λ l. (k.cur, (k.here.stamp, link.t.t)) ∷ l) (row i next s rest)

      pub checking_step : cmp (key link.t.t) (key next.t.t) ≢ Greater → Checking w next (done + 1)
      checking_step not =
          let g = goes i on in
          let counted = k.counted in
          record {
            before = k.before ++ k.cur ∷ [];
            cur = i;
            after = g.rest;
            is = k.is ∙ ap (λ l. k.before ++ k.cur ∷ l) g.is
                ∙ sym (append_assoc k.before (k.cur ∷ []) (i ∷ g.rest));
            here = s;
            counted = omega (arith, counted, length-append k.before (k.cur ∷ []));
            up = λ a. k.up (subst (λ l. Ascends (k.cur ∷ l)) (sym g.is)
                (subst (λ l. grows l) (sym (both g.rest))
                (cons below (k.cur, (k.here.stamp, link.t.t)) (i, (s.stamp, next.t.t)) (rows g.rest)
                (not_less not) (subst (λ l. grows l) (row i next s g.rest) a))));
            down = λ a. subst (λ l. grows l) (sym (row i next s g.rest))
                (tail below (k.cur, (k.here.stamp, link.t.t))
                ((i, (s.stamp, next.t.t)) ∷ rows g.rest)
                (subst (λ l. grows l) (both g.rest)
                (subst (λ l. Ascends (k.cur ∷ l)) g.is (k.down a))));
          }
        where
          grows : List (ℕ × (ℕ × T)) → Type 0
          grows = λ l. IsSorted below l

          not_less : cmp (key link.t.t) (key next.t.t) ≢ Greater
              → is_lt (cmp (key next.t.t) (key link.t.t)) ≡ false
          not_less n = by (cmp (key link.t.t) (key next.t.t)) refl
            where
              by : (d : Ordering) → cmp (key link.t.t) (key next.t.t) ≡ d
                  → is_lt (cmp (key next.t.t) (key link.t.t)) ≡ false
              by Less u = ap is_lt (total.antisymm (key next.t.t) (key link.t.t)
                  ∙ ap ordering_reverse u)
              by Equal u = ap is_lt
                  (total.antisymm (key next.t.t) (key link.t.t) ∙ ap ordering_reverse u)
              by Greater u = absurd (n u)

      pub checking_fails : cmp (key link.t.t) (key next.t.t) ≡ Greater → Ascends w → ⊥
      checking_fails more a =
          let g = goes i on in
          let low = first below (k.cur, (k.here.stamp, link.t.t)) (i, (s.stamp, next.t.t))
          (rows g.rest)
          (subst (λ l. IsSorted below l) (both g.rest)
          (subst (λ l. Ascends (k.cur ∷ l)) g.is (k.down a))) in
          let high : is_lt (cmp (key next.t.t) (key link.t.t)) ≡ true =
          ap is_lt (total.antisymm (key next.t.t) (key link.t.t) ∙ ap ordering_reverse more) in
          absurd (cc)

    alone : k.after ≡ [] → Ascends w
    alone e = k.up (subst (λ l. Ascends (k.cur ∷ l)) (sym e)
        (subst (λ l. IsSorted below l) (sym (row k.cur link k.here []))
        (single below (k.cur, (k.here.stamp, link.t.t)))))

    pub checking_ends : link.next ≡ None → Ascends w
    checking_ends e = alone (nil k.after (sym after_is ∙ e))
      where
        nil : (l : List ℕ) → first_or l None ≡ None → l ≡ []
        nil [] h = refl
        nil (x ∷ l) h = absurd (cc)

    pub checking_done : (most : ℕ) → length w ≤ most → most ≤ done → Ascends w
    checking_done most all over = alone (nil k.after refl)
      where
        nil : (l : List ℕ) → k.after ≡ l → k.after ≡ []
        nil [] u = u
        nil (x ∷ l) u =
            let counted = k.counted in
            let whole = ap length k.is ∙ length-append k.before (k.cur ∷ k.after) in
            let longer = ap length u in
            absurd (omega (arith, counted, whole, longer, all, over))
