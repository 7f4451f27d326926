-- An insertion at the place that was found for its key, or directly before the equal one there,
-- leaves keys that ascend ascending.
use Rattle.std.proofs.Common.{◌≡◌, ◌≢◌, ℕ, ◌∷◌, Option, Some, None, Result, sym, ap, ◌∙◌, subst}
use Rattle.std.proofs.Common.{refl}
use Rattle.std.specs.Option.{option_map}
use Rattle.std.specs.Cmp.{IsTotalOrder}
use Rattle.std.specs.declared.cmp.Ordering.{Ordering}
use Rattle.std.specs.declared.cmp.Ordering.TheVariants.{Less, Equal, Greater}
use Rattle.triple_arena_ptr.specs.declared.errors.OrdInsertionError.{OrdInsertionError}
use Rattle.rank_tree.specs.declared.side.Side.TheVariants.{Left}
use Rattle.rank_tree.specs.Search.{MayPrecede, IsParted}
use Rattle.triple_arena_ord.specs.Ordered.{Ordered, IsOrdered, IsAscending, StandsBeside, order_in}
use Rattle.triple_arena_ord.specs.Ordered.{StaysAscending, asked_of, asked_at}
use Rattle.triple_arena_ord.specs.Inserted.{StandsAt, IsInsertedAt, IsPlacedByKey, IsPlacedBetween}
use Rattle.triple_arena_ord.specs.Placing.{IsPlaceByKey, IsPlaceBeforeEqual, before_equal}
use Rattle.rank_tree.specs.DescentLaws.{all-map, parted-after, parted-before}
use Rattle.triple_arena_ord.proofs.SeekLemmas.{parts_at}
use Rattle.triple_arena_ord.proofs.AscendingLemmas.{inserted_ascending}
use Rattle.triple_arena_ord.proofs.InsertLemmas.{by_key}

module _ {T K : Type 0} (cmp : K → K → Ordering) (key : T → K)
    (total : IsTotalOrder cmp) (o p : Ordered T) where
  module _ (k : K) (is : IsOrdered o) (ascending : IsAscending cmp key o) (n : ℕ)
    where
      abbrev f : ℕ → Ordering
      f = asked_at cmp key k o

      abbrev Between : Type 0
      Between = IsPlacedBetween cmp key k n o p

      -- what stands after lesser and before greater keys
      strictly : IsPlacedByKey cmp key k n o p → Between
      strictly s = record {
        before = s.before;
        after = s.after;
        was = s.was;
        is = s.is;
        none_greater = all-map (λ y. f y ≡ Greater) (λ y. f y ≢ Less)
            (λ y e d. let z : Greater ≡ Less = sym e ∙ d in absurd (cc)) s.before
            (s.greater ascending);
        none_less = all-map (λ y. f y ≡ Less) (λ y. f y ≢ Greater)
            (λ y e d. let z : Less ≡ Greater = sym e ∙ d in absurd (cc)) s.after
            (s.less ascending);
      }

      directly_before : (h : ℕ) → f h ≡ Equal
          → StandsBeside Left (order_in o) (order_in p) h n → Between
      directly_before h here s =
          let parted = subst (IsParted f) s.was (parts_at cmp key k total o is ascending) in
          record {
            before = s.before;
            after = h ∷ s.after;
            was = s.was;
            is = s.is;
            none_greater = all-map (λ y. MayPrecede (f y) (f h)) (λ y. f y ≢ Less)
                (λ y z d. let e : Equal ≡ Less = sym here ∙ z.less d in absurd (cc)) s.before
                (parted-before f s.before h s.after parted);
            none_less = (
              λ d. let e : Equal ≡ Greater = sym here ∙ d in absurd (cc),
              all-map (λ y. MayPrecede (f h) (f y)) (λ y. f y ≢ Greater)
                  (λ y z d. let e : Equal ≡ Greater = sym here ∙ z.greater d in absurd (cc)) s.after
                  (parted-after f s.before h s.after parted),
            );
          }

      placed : (place : Option (ℕ × Ordering)) → IsPlaceByKey cmp key k o place
          → StandsAt place (order_in o) (order_in p) n → Between
      placed place at s = strictly (by_key cmp key total o p k n place is at s)

      placed_before : (found : Option (ℕ × Ordering)) → IsPlaceByKey cmp key k o found
          → StandsAt (before_equal found) (order_in o) (order_in p) n → Between
      placed_before None at s = placed None at s
      placed_before (Some a) at s = by a.1 refl s
        where
          by : (d : Ordering) → a.1 ≡ d
              → StandsAt (before_equal (Some (a.0, d))) (order_in o) (order_in p) n
              → Between
          by Less e s = placed (Some (a.0, Less))
              (subst (λ d. IsPlaceByKey cmp key k o (Some (a.0, d))) e at) s
          by Equal e s = directly_before a.0 (at.way a.0 Equal (ap (λ d. Some (a.0, d)) e)) s
          by Greater e s = placed (Some (a.0, Greater))
              (subst (λ d. IsPlaceByKey cmp key k o (Some (a.0, d))) e at) s

  never_equal : (found : Option (ℕ × Ordering)) (i : ℕ) → before_equal found ≡ Some (i, Equal) → ⊥
  never_equal None i e = absurd (cc)
  never_equal (Some a) i e = by a.1 refl e
    where
      by : (d : Ordering) → a.1 ≡ d → before_equal (Some (a.0, d)) ≡ Some (i, Equal) → ⊥
      by Less e is = let z : Some Less ≡ Some Equal = ap (option_map (λ x. x.1)) is in absurd (cc)
      by Equal e is = let z : Some Less ≡ Some Equal = ap (option_map (λ x. x.1)) is in absurd (cc)
      by Greater e is = let z : Some Greater ≡ Some Equal = ap (option_map (λ x. x.1)) is in
          absurd (cc)

  module _ {P : Type 0} (index generation : P → ℕ) (allows : Option OrdInsertionError → Type 0)
      (t : T) (place : Option (ℕ × Ordering))
      (result : Result (P × Option T) OrdInsertionError) (is : IsOrdered o)
      (new_is : IsOrdered p) where
    pub placed_ascending : IsPlaceByKey cmp key (key t) o place
        → IsInsertedAt index generation allows place t result o p
        → StaysAscending cmp key o p
    placed_ascending at put ascending =
        inserted_ascending cmp key total index generation allows o p t place result new_is
        (λ i g u here was. sym (ap (asked_of cmp key (key t)) was) ∙ at.way i Equal here)
        (λ n s. placed (key t) is ascending n place at s) put ascending

    pub placed_before_ascending : IsPlaceBeforeEqual cmp key (key t) o place
        → IsInsertedAt index generation allows place t result o p
        → StaysAscending cmp key o p
    placed_before_ascending at put ascending =
        inserted_ascending cmp key total index generation allows o p t place result new_is
        (λ i g u here was. absurd (never_equal at.found i (sym at.is ∙ here)))
        (λ n s. placed_before (key t) is ascending n at.found at.by_key
        (subst (λ place. StandsAt place (order_in o) (order_in p) n) at.is s)) put
        ascending
