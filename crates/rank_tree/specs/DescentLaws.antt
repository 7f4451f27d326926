-- A search goes down.
use Rattle.std.specs.List.{AllByRecursion}
use Rattle.std.proofs.Common.{◌≡◌, ℕ, ◌+◌, ◌<◌, ◌≤◌, List, [], append-nil, ◌∷◌, ◌++◌, Option, Some}
use Rattle.std.proofs.Common.{None, refl, sym, ap, ◌∙◌, subst, arith, append_assoc}
use Rattle.std.specs.Option.{IsSome}
use Rattle.std.specs.declared.cmp.Ordering.{Ordering}
use Rattle.std.specs.declared.cmp.Ordering.TheVariants.{Less, Equal, Greater}
use Rattle.rank_tree.specs.NodeView.{NodeView}
use Rattle.rank_tree.specs.declared.side.Side.TheVariants.{Left, Right}
use Rattle.rank_tree.specs.Store.{Store, rank_in, rank_or_zero, rank_or_link}
use Rattle.rank_tree.specs.Tree.{Tree, leaf, node, walk, rank_of, IsRanked}
use Rattle.rank_tree.specs.Shape.{node_view, root_of, Context, top, under, plug, holder, Represents}
use Rattle.rank_tree.specs.Shape.{Hangs, RepresentsTree, count, count_round}
use Rattle.rank_tree.specs.Search.{MayPrecede, IsParted, EndsAt, IsAnswer, IsFreeAt, led_by}
use Rattle.rank_tree.specs.Search.{asked_down}
use Rattle.rank_tree.specs.FrameLaws.{one-same, plug-count, plug-opens, root-counted}
use Rattle.rank_tree.specs.SpotLaws.{root-lives, rank_link}

-- the indexes before a hole, and those after it
abbrev pub before : Context → List ℕ
before top = []
before (under c Left i k far) = before c
before (under c Right i k far) = before c ++ (walk far ++ i ∷ [])

abbrev pub after : Context → List ℕ
after top = []
after (under c Left i k far) = i ∷ (walk far ++ after c)
after (under c Right i k far) = after c

-- the answer of a search that ends in a hole
abbrev pub last_of : Context → Option (ℕ × Ordering)
last_of top = None
last_of (under c Left i k far) = Some (i, Less)
last_of (under c Right i k far) = Some (i, Greater)

pub plug-walk_is : (c : Context) (t : Tree) → walk (plug c t) ≡ before c ++ (walk t ++ after c)
plug-walk_is top t = sym (append-nil (walk t))
plug-walk_is (under c Left i k far) t = plug-walk_is c (node t i k far) ∙ simp append_assoc
plug-walk_is (under c Right i k far) t = plug-walk_is c (node far i k t) ∙ simp append_assoc

pub all-append : (P : ℕ → Type 0) (xs ys : List ℕ) → AllByRecursion P xs → AllByRecursion P ys
    → AllByRecursion P (xs ++ ys)
all-append P [] ys p q = q
all-append P (x ∷ xs) ys p q = (p.0, all-append P xs ys p.1 q)

pub all-front : (P : ℕ → Type 0) (xs ys : List ℕ) → AllByRecursion P (xs ++ ys)
    → AllByRecursion P xs
all-front P [] ys p = tt
all-front P (x ∷ xs) ys p = (p.0, all-front P xs ys p.1)

pub all-back : (P : ℕ → Type 0) (xs ys : List ℕ) → AllByRecursion P (xs ++ ys) → AllByRecursion P ys
all-back P [] ys p = p
all-back P (x ∷ xs) ys p = all-back P xs ys p.1

pub all-map : (P Q : ℕ → Type 0) → ((y : ℕ) → P y → Q y) → (xs : List ℕ) → AllByRecursion P xs
    → AllByRecursion Q xs
all-map P Q f [] p = tt
all-map P Q f (x ∷ xs) p = (f x p.0, all-map P Q f xs p.1)

pub parted-after : (f : ℕ → Ordering) (xs : List ℕ) (i : ℕ) (ys : List ℕ)
    → IsParted f (xs ++ i ∷ ys) → AllByRecursion (λ y. MayPrecede (f i) (f y)) ys
parted-after f [] i ys s = s.0
parted-after f (x ∷ xs) i ys s = parted-after f xs i ys s.1

pub parted-before : (f : ℕ → Ordering) (xs : List ℕ) (i : ℕ) (ys : List ℕ)
    → IsParted f (xs ++ i ∷ ys) → AllByRecursion (λ y. MayPrecede (f y) (f i)) xs
parted-before f [] i ys s = tt
parted-before f (x ∷ xs) i ys s
    = ((all-back (λ y. MayPrecede (f x) (f y)) xs (i ∷ ys) s.0).0, parted-before f xs i ys s.1)

some_pair : (x i : ℕ) (d e : Ordering) → ◌≡◌ {A = Option (ℕ × Ordering)} (Some (x, d)) (Some (i, e))
    → (x ≡ i) × (d ≡ e)
some_pair x i d e h = let p : ℕ × Ordering = (x, d) in let q : ℕ × Ordering =
    (i, e) in let g : p ≡ q = cc in (ap (λ p. p.0) g, ap (λ p. p.1) g)

-- how far a search has come
pub record Descent (n : Store) (f : ℕ → Ordering) (whole : Tree) (link : Option ℕ)
    (place : Option (ℕ × Ordering)) (asked : ℕ) : Type 0 where
  pub context : Context
  pub rest : Tree
  pub is : plug context rest ≡ whole
  pub link_is : link ≡ root_of rest
  pub place_is : place ≡ last_of context
  pub stands : Represents n (holder context) rest
  pub ranked : IsRanked rest
  pub left_over : asked + rank_of rest ≤ rank_of whole
  pub counted : asked + asked_down f rest ≡ asked_down f whole
  pub answered : (i : ℕ) (d : Ordering) → place ≡ Some (i, d) → f i ≡ d
  pub parted : IsParted f (walk whole) → AllByRecursion (λ y. f y ≡ Greater) (before context)
      × AllByRecursion (λ y. f y ≡ Less) (after context)

pub descent_begins : (n : Store) (f : ℕ → Ordering) (root : Option ℕ) (t : Tree)
    → RepresentsTree n root t
    → IsRanked t → Descent n f t root None 0
descent_begins n f root t stands ranked =
    record {
      context = top;
      rest = t;
      is = refl;
      link_is = stands.0;
      place_is = refl;
      stands = stands.1;
      ranked = ranked;
      left_over = omega arith;
      counted = omega arith;
      answered = λ i d u. absurd (cc);
      parted = λ o. (tt, tt);
    }

pub place_lives : (c : Context) (i : ℕ) (d : Ordering) → last_of c ≡ Some (i, d)
    → 0 < count_round i c
place_lives top i d e = absurd (cc)
place_lives (under c Left x k far) i d e = let f : x ≡ i =
    (some_pair x i Less d e).0 in let g = one-same i in rw f (omega arith)
place_lives (under c Right x k far) i d e = let f : x ≡ i = (some_pair x i Greater d e).0 in let g =
    one-same i in rw f (omega arith)

place_top : (c : Context) → last_of c ≡ None → c ≡ top
place_top top e = refl
place_top (under c Left x k far) e = absurd (cc)
place_top (under c Right x k far) e = absurd (cc)

-- at the end, the last that was asked is a neighbor of the gap
place_places : (f : ℕ → Ordering) (c : Context) (i : ℕ) (d : Ordering) → last_of c ≡ Some (i, d)
    → AllByRecursion (λ y. f y ≡ Greater) (before c) → AllByRecursion (λ y. f y ≡ Less) (after c)
    → EndsAt f (walk (plug c leaf)) i d
place_places f top i d e lo hi = absurd (cc)
place_places f (under c Left x k far) i d e lo hi =
    let xi : x ≡ i = (some_pair x i Less d e).0 in
    let di : Less ≡ d = (some_pair x i Less d e).1 in
    record {
      before = before c;
      after = walk far ++ after c;
      is = plug-walk_is (under c Left x k far) leaf ∙ ap
          (λ z. before c ++ z ∷ (walk far ++ after c)) xi;
      less = λ u. lo;
      greater = λ u. absurd (cc);
    }
place_places f (under c Right x k far) i d e lo hi =
    let xi : x ≡ i = (some_pair x i Greater d e).0 in
    let di : Greater ≡ d = (some_pair x i Greater d e).1 in
    record {
      before = before c ++ walk far;
      after = after c;
      is = plug-walk_is (under c Right x k far) leaf ∙ simp append_assoc
          (ap (λ z. before c ++ (walk far ++ z ∷ after c)) xi);
      less = λ u. absurd (cc);
      greater = λ u. hi;
    }

pub rest_leaf : (t : Tree) → root_of t ≡ None → t ≡ leaf
rest_leaf leaf e = refl
rest_leaf (node l i k r) e = absurd (cc)

pub descent_ends : (n : Store) (f : ℕ → Ordering) (whole : Tree) (link : Option ℕ)
    (place : Option (ℕ × Ordering)) (asked : ℕ) → link ≡ None
    → Descent n f whole link place asked → IsAnswer f whole place
descent_ends n f whole link place asked e h =
    let nil : h.rest ≡ leaf = rest_leaf h.rest (sym h.link_is ∙ e) in
    let is : plug h.context leaf ≡ whole = ap (λ t. plug h.context t) (sym nil) ∙ h.is in
    record {
      empty = λ u. let c : h.context ≡ top = place_top h.context (sym h.place_is ∙ u) in
          ap root_of (sym is) ∙ ap (λ z. root_of (plug z leaf)) c;
      lives = λ i d u. let p = place_lives h.context i d (sym h.place_is ∙ u) in let q =
          plug-count h.context i leaf in subst (λ t. 0 < count i t) is (omega arith);
      asked = h.answered;
      parted = λ i d u s. let o = h.parted s in subst (λ t. EndsAt f (walk t) i d) is
          (place_places f h.context i d (sym h.place_is ∙ u) o.0 o.1);
    }

-- then all were asked
pub descent_asked : (n : Store) (f : ℕ → Ordering) (whole : Tree) (link : Option ℕ)
    (place : Option (ℕ × Ordering)) (asked : ℕ) → link ≡ None
    → Descent n f whole link place asked → asked ≡ asked_down f whole
descent_asked n f whole link place asked e h =
    let nil : h.rest ≡ leaf = rest_leaf h.rest (sym h.link_is ∙ e) in
    let none : asked_down f h.rest ≡ 0 = ap (asked_down f) nil in
    let all = h.counted in
    omega (arith, none, all)

-- what was asked last has no child where the hole is
place_free : (n : Store) (root : Option ℕ) (c : Context) → Hangs n root c None
    → (i : ℕ) (d : Ordering) → last_of c ≡ Some (i, d) → IsFreeAt d (n i)
place_free n root top h i d e = absurd (cc)
place_free n root (under c Left x k far) h i d e =
    let p = some_pair x i Less d e in
    subst (λ d. IsFreeAt d (n i)) p.1 (subst (λ j. IsFreeAt Less (n j)) p.0 (rw (h.0) refl))
place_free n root (under c Right x k far) h i d e =
    let p = some_pair x i Greater d e in
    subst (λ d. IsFreeAt d (n i)) p.1 (subst (λ j. IsFreeAt Greater (n j)) p.0 (rw (h.0) refl))

pub descent_free : (n : Store) (f : ℕ → Ordering) (root : Option ℕ) (whole : Tree) (link : Option ℕ)
    (place : Option (ℕ × Ordering)) (asked : ℕ) → RepresentsTree n root whole
    → link ≡ None → Descent n f whole link place asked → (i : ℕ) (d : Ordering)
    → place ≡ Some (i, d) → IsFreeAt d (n i)
descent_free n f root whole link place asked stands e h i d at =
    let nil : h.rest ≡ leaf = rest_leaf h.rest (sym h.link_is ∙ e) in
    let is : whole ≡ plug h.context leaf = sym h.is ∙ ap (λ t. plug h.context t) nil in
    place_free n root h.context
    (plug-opens n root h.context leaf (subst (RepresentsTree n root) is stands)).0 i d
    (sym h.place_is ∙ at)

-- one step down
pub record Here (n : Store) (f : ℕ → Ordering) (whole : Tree) (i : ℕ) (v : NodeView) (asked : ℕ)
    : Type 0 where
  pub lives : 0 < count i whole
  pub rank_left : rank_or_link n v.left < rank_in n i
  pub rank_right : rank_or_link n v.right < rank_in n i
  pub left : f i ≡ Less → Descent n f whole v.left (Some (i, Less)) (asked + 1)
  pub right : f i ≡ Greater → Descent n f whole v.right (Some (i, Greater)) (asked + 1)
  pub stop : f i ≡ Equal → IsAnswer f whole (Some (i, Equal))
  pub all_asked : f i ≡ Equal → asked + 1 ≡ asked_down f whole
  pub in_bound : asked + 1 ≤ rank_of whole

answers : (f : ℕ → Ordering) (x : ℕ) (e : Ordering) → f x ≡ e → (i : ℕ) (d : Ordering)
    → ◌≡◌ {A = Option (ℕ × Ordering)} (Some (x, e)) (Some (i, d)) → f i ≡ d
answers f x e q i d u = let g = some_pair x i e d u in sym (ap f g.0) ∙ q ∙ g.1

here_at : (n : Store) (f : ℕ → Ordering) (c : Context) (l : Tree) (i k : ℕ) (r : Tree)
    (asked : ℕ) (v : NodeView)
    → n i ≡ Some v → Represents n (holder c) (node l i k r) → IsRanked (node l i k r)
    → asked + k ≤ rank_of (plug c (node l i k r))
    → asked + asked_down f (node l i k r) ≡ asked_down f (plug c (node l i k r))
    → (IsParted f (walk (plug c (node l i k r))) → AllByRecursion (λ y. f y ≡ Greater) (before c)
    × AllByRecursion (λ y. f y ≡ Less) (after c))
    → Here n f (plug c (node l i k r)) i v asked
here_at n f c l i k r asked v e h ranked over asks parted =
    let fits = ranked.0 in
    let is : v ≡ node_view Left (holder c) (root_of l) k (root_of r) = cc h.0 in
    let left_is : v.left ≡ root_of l = ap (λ z. z.left) is in
    let right_is : v.right ≡ root_of r = ap (λ z. z.right) is in
    let k_is : rank_in n i ≡ k = ap rank_or_zero h.0 in
    let lr = rank_link n (Some i) l h.1 in
    let rr = rank_link n (Some i) r h.2 in
    let flat : walk (plug c (node l i k r)) ≡ (before c ++ walk l) ++ i ∷ (walk r ++ after c) =
    plug-walk_is c (node l i k r) ∙ simp append_assoc in
    let here = one-same i in
    let counted = plug-count c i (node l i k r) in
    let led : (d : Ordering) → f i ≡ d
    → asked + (1 + led_by d (asked_down f l) (asked_down f r))
    ≡ asked_down f (plug c (node l i k r)) =
    λ d q. ap (λ d. asked + (1 + led_by d (asked_down f l) (asked_down f r))) (sym q) ∙ asks in
    record {
      lives = omega arith;
      rank_left = rw left_is (omega arith);
      rank_right = rw right_is (omega arith);
      in_bound = omega arith;
      left = λ q. record {
        context = under c Left i k r;
        rest = l;
        is = refl;
        link_is = left_is;
        place_is = refl;
        stands = h.1;
        ranked = ranked.1;
        left_over = omega arith;
        counted = let e = led Less q in omega (arith, e);
        answered = answers f i Less q;
        parted = λ s.
            let o = parted s in
            let up = parted-after f (before c ++ walk l) i (walk r ++ after c)
            (subst (IsParted f) flat s) in (
              o.0,
              (
                q,
                all-append (λ y. f y ≡ Less) (walk r) (after c)
                    (all-map (λ y. MayPrecede (f i) (f y)) (λ y. f y ≡ Less)
                    (λ y z. z.less q) (walk r)
                    (all-front (λ y. MayPrecede (f i) (f y)) (walk r) (after c) up)) o.1,
              ),
            );
      };
      right = λ q. record {
        context = under c Right i k l;
        rest = r;
        is = refl;
        link_is = right_is;
        place_is = refl;
        stands = h.2;
        ranked = ranked.2;
        left_over = omega arith;
        counted = let e = led Greater q in omega (arith, e);
        answered = answers f i Greater q;
        parted = λ s.
            let o = parted s in
            let down = parted-before f (before c ++ walk l) i (walk r ++ after c)
            (subst (IsParted f) flat s) in (
              all-append (λ y. f y ≡ Greater) (before c) (walk l ++ i ∷ []) o.0
                  (all-append (λ y. f y ≡ Greater) (walk l) (i ∷ [])
                  (all-map (λ y. MayPrecede (f y) (f i)) (λ y. f y ≡ Greater) (λ y z. z.greater q)
                  (walk l) (all-back (λ y. MayPrecede (f y) (f i)) (before c) (walk l) down))
                  (q, tt)),
              o.1,
            );
      };
      all_asked = λ q. let e = led Equal q in omega (arith, e);
      stop = λ q. record {
        empty = λ u. absurd (cc);
        lives = λ j d u. let g = (some_pair i j Equal d u).0 in rw (← g) (omega arith);
        asked = answers f i Equal q;
        parted = λ j d u s.
            let g = some_pair i j Equal d u in
            let gi = g.0 in
            let gd = g.1 in
            record {
              before = before c ++ walk l;
              after = walk r ++ after c;
              is = flat ∙ ap (λ z. (before c ++ walk l) ++ z ∷ (walk r ++ after c)) gi;
              less = λ x. absurd (cc);
              greater = λ x. absurd (cc);
            };
      };
    }

pub step_down : (n : Store) (f : ℕ → Ordering) (whole : Tree) (link : Option ℕ)
    (place : Option (ℕ × Ordering)) (asked : ℕ) (i : ℕ) (v : NodeView)
    → link ≡ Some i → n i ≡ Some v → Descent n f whole link place asked → Here n f whole i v asked
step_down n f whole link place asked i v e ev h = go h.rest refl
  where
    go : (t : Tree) → t ≡ h.rest → Here n f whole i v asked
    go leaf u = let z : root_of h.rest ≡ Some i = sym h.link_is ∙ e in let y =
        ap root_of u in absurd (cc)
    go (node l x k r) u =
        let z : x ≡ i = cc (ap root_of u, h.link_is, e) in
        let is : plug h.context (node l i k r) ≡ whole =
        ap (λ b. plug h.context (node l b k r)) (sym z) ∙ ap (λ t. plug h.context t) u ∙ h.is in
        let same : h.rest ≡ node l i k r = sym u ∙ ap (λ b. node l b k r) z in
        let over = h.left_over in
        subst (λ t. Here n f t i v asked) is
        (here_at n f h.context l i k r asked v ev
        (subst (λ t. Represents n (holder h.context) t) same h.stands)
        (subst IsRanked same h.ranked)
        (rw is (let y = ap rank_of same in omega arith))
        (ap (λ t. asked + asked_down f t) (sym same) ∙ h.counted ∙ ap (asked_down f) (sym is))
        (subst (λ t. IsParted f (walk t) → AllByRecursion (λ y. f y ≡ Greater) (before h.context)
        × AllByRecursion (λ y. f y ≡ Less) (after h.context)) (sym is) h.parted))

pub descent_lives : (n : Store) (f : ℕ → Ordering) (whole : Tree) (link : Option ℕ)
    (place : Option (ℕ × Ordering)) (asked : ℕ) (i : ℕ)
    → link ≡ Some i → Descent n f whole link place asked → (0 < count i whole) × IsSome (n i)
descent_lives n f whole link place asked i e h =
    let z : root_of h.rest ≡ Some i = sym h.link_is ∙ e in
    let p = root-counted h.rest i z in
    let q = plug-count h.context i h.rest in (
      subst (λ t. 0 < count i t) h.is (omega arith),
      root-lives n (holder h.context) h.rest i h.stands z,
    )

pub falls_down : (n : Store) (link next : Option ℕ) (i : ℕ) → link ≡ Some i
    → rank_or_link n next < rank_in n i → rank_or_link n next < rank_or_link n link
falls_down n link next i e h = rw e h
