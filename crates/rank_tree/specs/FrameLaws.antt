-- What a tree or a context keeps while other indexes are written.
use Rattle.std.proofs.Common.{◌≡◌, ◌≢◌, ℕ, ◌+◌, ◌<◌, ◌≤◌, List, [], ◌∷◌, ◌++◌, Option, Some, refl}
use Rattle.std.proofs.Common.{sym, ap, ◌∙◌, subst, arith}
use Rattle.std.proofs.lemmas.Bool.{eq-eqb, ne_eqb}
use Rattle.rank_tree.specs.NodeView.{NodeView}
use Rattle.rank_tree.specs.declared.side.Side.{Side}
use Rattle.rank_tree.specs.declared.side.Side.TheVariants.{Left, Right}
use Rattle.rank_tree.specs.Store.{Store, Written, Reparented, Relinked}
use Rattle.rank_tree.specs.Tree.{Tree, leaf, node, walk, rank_of}
use Rattle.rank_tree.specs.Shape.{make, node_view, root_of, Context, top, under, plug, holder}
use Rattle.rank_tree.specs.Shape.{Represents, Hangs, RepresentsTree, one, count, count_in}
use Rattle.rank_tree.specs.Shape.{count_round}
use Rattle.rank_tree.specs.Shape.{IsDistinct}
use Rattle.rank_tree.specs.Repair.{KeptOff}

pub one-same : (i : ℕ) → one i i ≡ 1
one-same i = rw (eq-eqb i i refl)

pub one-other : (j i : ℕ) → j ≢ i → one j i ≡ 0
one-other j i n = rw (ne_eqb j i n)

-- the facts of a tree are those of its nodes alone
pub Represents-keep : (n m : Store) (p : Option ℕ) (t : Tree)
    → ((j : ℕ) → 0 < count j t → m j ≡ n j) → Represents n p t → Represents m p t
Represents-keep n m p leaf same h = tt
Represents-keep n m p (node l i k r) same h =
    let e = one-same i in (
      same i (omega arith) ∙ h.0,
      Represents-keep n m (Some i) l (λ j q. same j (omega arith)) h.1,
      Represents-keep n m (Some i) r (λ j q. same j (omega arith)) h.2,
    )

pub Hangs-keep : (n m : Store) (root : Option ℕ) (c : Context) (link : Option ℕ)
    → ((j : ℕ) → 0 < count_round j c → m j ≡ n j) → Hangs n root c link → Hangs m root c link
Hangs-keep n m root top link same h = h
Hangs-keep n m root (under c s i k far) link same h =
    let e = one-same i in (
      same i (omega arith) ∙ h.0,
      Represents-keep n m (Some i) far (λ j q. same j (omega arith)) h.1,
      Hangs-keep n m root c (Some i) (λ j q. same j (omega arith)) h.2,
    )

pub root-counted : (t : Tree) (i : ℕ) → root_of t ≡ Some i → 0 < count i t
root-counted leaf i e = cc
root-counted (node l x k r) i e = let f : x ≡ i = cc in let g = one-same i in rw f (omega arith)

pub holder-counted : (c : Context) (i : ℕ) → holder c ≡ Some i → 0 < count_round i c
holder-counted top i e = cc
holder-counted (under c s x k r) i e = let f : x ≡ i = cc in let g =
    one-same i in rw f (omega arith)

-- seen from a side
pub make-count : (s : Side) (j : ℕ) (a : Tree) (i k : ℕ) (b : Tree)
    → count j (make s a i k b) ≡ count j a + one j i + count j b
make-count Left j a i k b = refl
make-count Right j a i k b = omega arith

pub make-root : (s : Side) (a : Tree) (i k : ℕ) (b : Tree) → root_of (make s a i k b) ≡ Some i
make-root Left a i k b = refl
make-root Right a i k b = refl

pub make-rank : (s : Side) (a : Tree) (i k : ℕ) (b : Tree) → rank_of (make s a i k b) ≡ k
make-rank Left a i k b = refl
make-rank Right a i k b = refl

pub make-opens : (s : Side) (n : Store) (p : Option ℕ) (a : Tree) (i k : ℕ) (b : Tree)
    → Represents n p (make s a i k b)
    → (n i ≡ Some (node_view s p (root_of a) k (root_of b))) × Represents n (Some i) a
    × Represents n (Some i) b
make-opens Left n p a i k b h = h
make-opens Right n p a i k b h = (h.0, h.2, h.1)

pub make-closes : (s : Side) (n : Store) (p : Option ℕ) (a : Tree) (i k : ℕ) (b : Tree)
    → (n i ≡ Some (node_view s p (root_of a) k (root_of b)))
    → Represents n (Some i) a → Represents n (Some i) b → Represents n p (make s a i k b)
make-closes Left n p a i k b h u v = (h, u, v)
make-closes Right n p a i k b h u v = (h, v, u)

pub plug-count : (c : Context) (j : ℕ) (t : Tree) → count j (plug c t) ≡ count_round j c + count j t
plug-count top j t = omega arith
plug-count (under c s i k far) j t = let e = plug-count c j (make s t i k far) in let f =
    make-count s j t i k far in omega arith

pub plug-opens : (n : Store) (root : Option ℕ) (c : Context) (t : Tree)
    → RepresentsTree n root (plug c t)
    → Hangs n root c (root_of t) × Represents n (holder c) t
plug-opens n root top t h = h
plug-opens n root (under c s i k far) t h =
    let g = plug-opens n root c (make s t i k far) h in
    let e = make-opens s n (holder c) t i k far g.1 in
    ((e.0, e.2, rw make-root at g.0), e.1)

pub plug-closes : (n : Store) (root : Option ℕ) (c : Context) (t : Tree)
    → Hangs n root c (root_of t) → Represents n (holder c) t → RepresentsTree n root (plug c t)
plug-closes n root top t h r = (h, r)
plug-closes n root (under c s i k far) t h r =
    plug-closes n root c (make s t i k far) (rw make-root h.2)
    (make-closes s n (holder c) t i k far h.0 r h.1)

-- the walk of the whole depends on that of what is in the hole
pub make-walk : (s : Side) (a b : Tree) (i k : ℕ) (far : Tree) → walk a ≡ walk b
    → walk (make s a i k far) ≡ walk (make s b i k far)
make-walk Left a b i k far e = ap (λ w. w ++ i ∷ walk far) e
make-walk Right a b i k far e = ap (λ w. walk far ++ i ∷ w) e

pub plug-walk : (c : Context) (a b : Tree) → walk a ≡ walk b → walk (plug c a) ≡ walk (plug c b)
plug-walk top a b e = e
plug-walk (under c s i k far) a b e = plug-walk c (make s a i k far) (make s b i k far)
    (make-walk s a b i k far e)

-- how often an index stands in a tree depends on the walk alone
count_in-append : (j : ℕ) (xs ys : List ℕ) → count_in j (xs ++ ys) ≡ count_in j xs + count_in j ys
count_in-append j [] ys = omega arith
count_in-append j (x ∷ xs) ys = let h = count_in-append j xs ys in omega arith

pub count-walk : (j : ℕ) (t : Tree) → count j t ≡ count_in j (walk t)
count-walk j leaf = refl
count-walk j (node l i k r) =
    let h = count_in-append j (walk l) (i ∷ walk r) in let p = count-walk j l in let q =
    count-walk j r in omega arith

pub IsDistinct-walk : (a b : Tree) → walk a ≡ walk b → IsDistinct a → IsDistinct b
IsDistinct-walk a b e d
    = record { once = λ j. let h = d.once j in rw (count-walk j b, ← e, ← count-walk j a) h }

-- a subtree gets another parent
pub Represents-reparent : (n m : Store) (p q : Option ℕ) (t : Tree) → IsDistinct t
    → Reparented n m (root_of t) q → Represents n p t → Represents m q t
Represents-reparent n m p q leaf d w h = tt
Represents-reparent n m p q (node l i k r) d w h =
    let one_i = d.once i in
    let e = one-same i in
    let other = λ (j : ℕ) (z : 0 < count j l + count j r). w.elsewhere j
    (λ u. let v : i ≡ j = cc in let once = d.once j in let f = one-same j in let g : one j i
    ≡ 1 = rw v (one-same j) in
    absurd (omega arith)) in (
      w.here i _ refl h.0,
      Represents-keep n m (Some i) l (λ j z. other j (omega arith)) h.1,
      Represents-keep n m (Some i) r (λ j z. other j (omega arith)) h.2,
    )

pub reparent-elsewhere : (n m : Store) (q : Option ℕ) (t : Tree) → Reparented n m (root_of t) q
    → (j : ℕ) → count j t ≡ 0 → m j ≡ n j
reparent-elsewhere n m q t w j z
    = w.elsewhere j (λ e. let h = root-counted t j e in absurd (omega arith))

-- what led to one index leads to another
pub relink-elsewhere : (n m : Store) (root new_root : Option ℕ) (c : Context) (from : ℕ)
    (to : Option ℕ) → Relinked n m root new_root (holder c) from to → (j : ℕ)
    → count_round j c ≡ 0 → m j ≡ n j
relink-elsewhere n m root new_root c from to w j z
    = w.elsewhere j (λ e. let h = holder-counted c j e in absurd (omega arith))

pub Hangs-relink : (n m : Store) (root new_root : Option ℕ) (c : Context) (from : ℕ) (to : Option ℕ)
    → ((j : ℕ) → count_round j c + one j from ≤ 1)
    → Relinked n m root new_root (holder c) from to → Hangs n root c (Some from)
    → Hangs m new_root c to
Hangs-relink n m root new_root top from to d w h = w.at_top refl
Hangs-relink n m root new_root (under c s i k far) from to d w h =
    let same = λ (j : ℕ) (z : 0 < count_round j c + count j far). w.elsewhere j
    (λ u. let v : i ≡ j = cc in let once = d j in let g : one j i ≡ 1 =
    rw v (one-same j) in absurd (omega arith)) in (
      relink-here s h.0,
      Represents-keep n m (Some i) far (λ j z. same j (omega arith)) h.1,
      subst (λ x. Hangs m x c (Some i)) (sym (w.below i refl))
          (Hangs-keep n m root c (Some i) (λ j z. same j (omega arith)) h.2),
    )
  where
    relink-here : (s : Side) → n i ≡ Some (node_view s (holder c) (Some from) k (root_of far))
        → m i ≡ Some (node_view s (holder c) to k (root_of far))
    relink-here Left e = w.on_left i _ refl e refl
    relink-here Right e = w.on_right i _ refl e
        (λ u. let g = root-counted far from u in let once = d from in let f =
        one-same from in absurd (omega arith))

pub one-apart : (j i : ℕ) → one j i ≡ 0 → j ≢ i
one-apart j i z u = let g : one j i ≡ 1 = rw u (one-same i) in absurd (omega arith)

pub write-elsewhere : (n m : Store) (i : ℕ) (v : NodeView) → Written n m i v → (j : ℕ)
    → one j i ≡ 0 → m j ≡ n j
write-elsewhere n m i v w j z = w.elsewhere j (one-apart j i z)

-- a write within a tree
pub write_kept : (n m : Store) (i : ℕ) (v : NodeView) (t : Tree) (w : List ℕ) → Written n m i v
    → 0 < count i t → walk t ≡ w → KeptOff w n m
write_kept n m i v t w written on e = λ j off. written.elsewhere j (λ u.
    let z = count-walk j t ∙ ap (count_in j) e ∙ off in let f =
    subst (λ x. 0 < count x t) (sym u) on in absurd (omega arith))

-- one change after another
pub both_kept : (w : List ℕ) (n m k : Store) → KeptOff w n m → KeptOff w m k → KeptOff w n k
both_kept w n m k f g = λ j off. g j off ∙ f j off

pub count-same : (j : ℕ) (a b : Tree) → walk a ≡ walk b → count j a ≡ count j b
count-same j a b e = count-walk j a ∙ ap (count_in j) e ∙ sym (count-walk j b)

-- a tree whose walk has one index more
pub count_split : (j : ℕ) (a b : Tree) (front : List ℕ) (h : ℕ) (back : List ℕ)
    → walk a ≡ front ++ h ∷ back → walk b ≡ front ++ back → count j a ≡ count j b + one j h
count_split j a b front h back e f =
    let p = count-walk j a ∙ ap (count_in j) e in
    let q = count-walk j b ∙ ap (count_in j) f in
    let r = count_in-append j front (h ∷ back) in
    let s = count_in-append j front back in
    omega arith
