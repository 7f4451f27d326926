-- A list with two items that change.
use Rattle.std.proofs.Common.{
  ◌≡◌,
  ◌<◌,
  ℕ,
  zero,
  suc,
  ◌+◌,
  refl,
  sym,
  ap,
  subst,
  ◌∙◌,
  arith,
  List,
  [],
  ◌∷◌,
  ◌++◌,
  length,
  map,
  length-append,
}
use Rattle.std.specs.Prelude.{Option, None, slice_index_or}
use native.Mathlib.Nat.{not-suc-le-zero, le_of_suc-le-suc}
use Rattle.triple_arena.specs.TwoValues.{changed_at, written_both}

module _ {X : Type 0} where
  -- an item, with those before and after it
  pub record Around (xs : List X) (n : ℕ) : Type 0 where
    pub front : List X
    pub item : X
    pub back : List X
    pub whole : xs ≡ front ++ item ∷ back
    pub count : length front ≡ n

  pub around : (xs : List X) (n : ℕ) → n < length xs → Around xs n
  around [] n h = absurd (not-suc-le-zero h)
  around (x ∷ xs) zero h = record { front = []; item = x; back = xs; whole = refl; count = refl }
  around (x ∷ xs) (suc n) h =
      let r = around xs n (le_of_suc-le-suc h) in
      record {
        front = x ∷ r.front;
        item = r.item;
        back = r.back;
        whole =
            ap (λ (l : List X). x ∷ l) r.whole;
        count = ap suc r.count;
      }

  pub along : (front mid : List X) (a : X) (ys : List X) → (front ++ a ∷ mid) ++ ys ≡ front ++ a ∷
      (mid ++ ys)
  along [] mid a ys = refl
  along (x ∷ xs) mid a ys = ap (λ (l : List X). x ∷ l) (along xs mid a ys)

  -- two items, with those before, between and after them
  pub record Parted (xs : List X) (low high : ℕ) : Type 0 where
    pub front : List X
    pub first : X
    pub mid : List X
    pub second : X
    pub back : List X
    pub whole : xs ≡ front ++ first ∷ (mid ++ second ∷ back)
    pub low_is : length front ≡ low
    pub high_is : high ≡ suc (low + length mid)

  pub parted : (xs : List X) (low high : ℕ) → low < high → high < length xs → Parted xs low high
  parted xs low high order bound =
      let r = around xs high bound in
      let s = around r.front low (subst (λ (n : ℕ). low < n) (sym r.count) order) in
      let size : length r.front ≡ length s.front + suc (length s.back) = ap length s.whole ∙
      length-append s.front (s.item ∷ s.back) in
      let total = r.count in
      let before = s.count in
      record {
        front = s.front;
        first = s.item;
        mid = s.back;
        second = r.item;
        back = r.back;
        whole = r.whole ∙ ap (λ (l : List X). l ++ r.item ∷ r.back) s.whole ∙
            along s.front s.back s.item (r.item ∷ r.back);
        low_is = s.count;
        high_is = omega (arith, size, total, before);
      }

  changed_front : (front : List X) (a : X) (back : List X) (f : X → X) →
      changed_at (length front) f (front ++ a ∷ back) ≡ front ++ f a ∷ back
  changed_front [] a back f = refl
  changed_front (x ∷ xs) a back f = ap (λ (l : List X). x ∷ l) (changed_front xs a back f)

  pub index_front : {Y : Type 0} (f : X → Option Y) (front : List X) (a : X) (back : List X) →
      slice_index_or (map f (front ++ a ∷ back)) (length front) None ≡ f a
  index_front f [] a back = refl
  index_front f (x ∷ xs) a back = index_front f xs a back

  pub same_size : (front mid back : List X) (a b x y : X) → length (front ++ x ∷ (mid ++ y ∷ back))
      ≡ length (front ++ a ∷ (mid ++ b ∷ back))
  same_size [] [] back a b x y = refl
  same_size [] (m ∷ mid) back a b x y = ap suc (same_size [] mid back a b x y)
  same_size (f ∷ front) mid back a b x y = ap suc (same_size front mid back a b x y)

  module _ {xs : List X} {low high : ℕ} (p : Parted xs low high) where
    -- the list with other items in the two places
    abbrev pub replaced : X → X → List X
    replaced x y = p.front ++ x ∷ (p.mid ++ y ∷ p.back)

    pub long : (x : X) → length (p.front ++ x ∷ p.mid) ≡ high
    long x = let size : length (p.front ++ x ∷ p.mid) ≡ length p.front + suc (length p.mid) =
        length-append p.front (x ∷ p.mid) in
        let low_is = p.low_is in let high_is = p.high_is in omega (arith, size, low_is, high_is)

    pub first_at : {Y : Type 0} (f : X → Option Y) → slice_index_or (map f xs) low None ≡ f p.first
    first_at f = ap (λ (l : List X). slice_index_or (map f l) low None) p.whole
        ∙ ap (λ (n : ℕ). slice_index_or (map f (replaced p.first p.second)) n None) (sym p.low_is)
        ∙ index_front f p.front p.first (p.mid ++ p.second ∷ p.back)

    pub second_at : {Y : Type 0} (f : X → Option Y) → slice_index_or (map f xs) high None ≡ f
        p.second
    second_at f = ap (λ (l : List X). slice_index_or (map f l) high None) (p.whole ∙
        sym (along p.front p.mid p.first (p.second ∷ p.back)))
        ∙ ap (λ (n : ℕ). slice_index_or (map f ((p.front ++ p.first ∷ p.mid) ++ p.second ∷ p.back))
        n None) (sym (long p.first))
        ∙ index_front f (p.front ++ p.first ∷ p.mid) p.second p.back

    pub written_is : {T : Type 0} (with : X → T → X) (x y : T) →
        replaced (with p.first x) (with p.second y) ≡ written_both with xs low high x y
    written_is with x y =
        let first_done : changed_at low (λ e. with e x) xs ≡ replaced (with p.first x) p.second =
        ap (λ (l : List X). changed_at low (λ e. with e x) l) p.whole
        ∙ ap (λ (n : ℕ). changed_at n (λ e. with e x) (replaced p.first p.second)) (sym p.low_is)
        ∙ changed_front p.front p.first (p.mid ++ p.second ∷ p.back) (λ e. with e x) in
        let head = p.front ++ with p.first x ∷ p.mid in
        sym (ap (λ (l : List X). changed_at high (λ e. with e y) l) (first_done ∙
        sym (along p.front p.mid (with p.first x) (p.second ∷ p.back)))
        ∙ ap (λ (n : ℕ). changed_at n (λ e. with e y) (head ++ p.second ∷ p.back))
        (sym (long (with p.first x)))
        ∙ changed_front head p.second p.back (λ e. with e y)
        ∙ along p.front p.mid (with p.first x) (with p.second y ∷ p.back))
