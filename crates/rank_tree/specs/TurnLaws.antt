-- A node turns up over its parent.
use Rattle.std.proofs.Common.{◌≡◌, ℕ, ◌+◌, ◌≤◌, ◌∷◌, Option, Some, sym, ap, ◌∙◌, subst, arith}
use Rattle.std.proofs.Common.{append_assoc}
use Rattle.rank_tree.specs.declared.side.Side.{Side}
use Rattle.rank_tree.specs.declared.side.Side.TheVariants.{Left, Right}
use Rattle.rank_tree.specs.NodeView.{NodeView}
use Rattle.rank_tree.specs.Store.{Store, Written, Reparented, Relinked}
use Rattle.rank_tree.specs.Tree.{Tree, walk}
use Rattle.rank_tree.specs.Shape.{make, node_view, root_of, Context, plug, holder, Hangs}
use Rattle.rank_tree.specs.Shape.{RepresentsTree, one}
use Rattle.rank_tree.specs.Shape.{count, count_round, IsDistinct}
use Rattle.rank_tree.specs.Repair.{KeptOff}
use Rattle.rank_tree.specs.FrameLaws.{one-same, Represents-keep, Hangs-keep, make-count, make-root}
use Rattle.rank_tree.specs.FrameLaws.{make-opens, make-closes, plug-count, plug-opens, plug-closes}
use Rattle.rank_tree.specs.FrameLaws.{Represents-reparent, reparent-elsewhere, relink-elsewhere}
use Rattle.rank_tree.specs.FrameLaws.{Hangs-relink, write-elsewhere, count-walk}

-- the writes of a turn, one after another; both nodes may get other ranks
pub turned_stands : (n n1 n2 n3 n4 : Store) (root new_root : Option ℕ) (c : Context) (s : Side)
    (a : Tree) (x kx : ℕ) (b : Tree) (y ky : ℕ) (d : Tree) (jx jy : ℕ)
    → Written n n1 y (node_view s (Some x) (root_of b) jy (root_of d))
    → Reparented n1 n2 (root_of b) (Some y)
    → Written n2 n3 x (node_view s (holder c) (root_of a) jx (Some y))
    → Relinked n3 n4 root new_root (holder c) y (Some x)
    → IsDistinct (plug c (make s (make s a x kx b) y ky d))
    → RepresentsTree n root (plug c (make s (make s a x kx b) y ky d))
    → RepresentsTree n4 new_root (plug c (make s a x jx (make s b y jy d)))
turned_stands n n1 n2 n3 n4 root new_root c s a x kx b y ky d jx jy w1 w2 w3 w4 distinct h =
    let e0 = plug-opens n root c (make s (make s a x kx b) y ky d) h in
    let e1 = make-opens s n (holder c) (make s a x kx b) y ky d e0.1 in
    let e2 = make-opens s n (Some y) a x kx b e1.1 in
    let once : (j : ℕ) → count_round j c
    + (count j a + one j x + count j b + one j y + count j d) ≤ 1 = λ j.
    let o = distinct.once j in
    let p = plug-count c j (make s (make s a x kx b) y ky d) in
    let q = make-count s j (make s a x kx b) y ky d in
    let r = make-count s j a x kx b in omega arith in
    let late : (j : ℕ) → count_round j c ≡ 0 → one j x ≡ 0 → n4 j ≡ n2 j = λ j u v.
    relink-elsewhere n3 n4 root new_root c y (Some x) w4 j u ∙ write-elsewhere n2 n3 x _ w3 j v in
    let still : (j : ℕ) → count_round j c ≡ 0 → one j x ≡ 0 → count j b ≡ 0
    → n4 j ≡ n1 j = λ j u v z.
    late j u v ∙ reparent-elsewhere n1 n2 (Some y) b w2 j z in
    let early : (j : ℕ) → one j x ≡ 0 → count j b ≡ 0 → one j y ≡ 0 → n3 j ≡ n j = λ j v z q.
    write-elsewhere n2 n3 x _ w3 j v ∙ reparent-elsewhere n1 n2
    (Some y) b w2 j z ∙ write-elsewhere n n1 y _ w1 j q in
    let round : Hangs n root c (Some y) =
    subst (λ z. Hangs n root c z) (make-root s (make s a x kx b) y ky d) e0.0 in
    let round_3 = Hangs-keep n n3 root c (Some y)
    (λ j z. let o = once j in early j (omega arith) (omega arith) (omega arith)) round in
    let round_4 = Hangs-relink n3 n4 root new_root c y (Some x)
    (λ j. let o = once j in omega arith) w4 round_3 in
    let same_a = Represents-keep n n4 (Some x) a
    (λ j z. let o = once j in still j (omega arith) (omega arith)
    (omega arith) ∙ write-elsewhere n n1 y _ w1 j (omega arith)) e2.1 in
    let same_d = Represents-keep n n4 (Some y) d
    (λ j z. let o = once j in still j (omega arith) (omega arith)
    (omega arith) ∙ write-elsewhere n n1 y _ w1 j (omega arith)) e1.2 in
    let b_1 = Represents-keep n n1 (Some x) b
    (λ j z. let o = once j in write-elsewhere n n1 y _ w1 j (omega arith)) e2.2 in
    let b_2 = Represents-reparent n1 n2 (Some x) (Some y) b
    (record { once = λ j. let o = once j in omega arith }) w2 b_1 in
    let b_4 = Represents-keep n2 n4 (Some y) b
    (λ j z. let o = once j in late j (omega arith) (omega arith)) b_2 in
    let at_y : n4 y ≡ Some (node_view s (Some x) (root_of b) jy (root_of d)) =
    let o = once y in let f =
    one-same y in still y (omega arith) (omega arith) (omega arith) ∙ w1.here in
    let at_x : n4 x ≡ Some (node_view s (holder c) (root_of a) jx (Some y)) =
    let o = once x in let f = one-same x in relink-elsewhere n3 n4 root new_root c y (Some x) w4 x
    (omega arith) ∙ w3.here in
    let low = make-closes s n4 (Some x) b y jy d at_y b_4 same_d in
    let link : Some y ≡ root_of (make s b y jy d) = sym (make-root s b y jy d) in
    let high = make-closes s n4 (holder c) a x jx (make s b y jy d)
    (at_x ∙ ap (λ z. Some (node_view s (holder c) (root_of a) jx z)) link) same_a low in
    plug-closes n4 new_root c (make s a x jx (make s b y jy d))
    (subst (λ z. Hangs n4 new_root c z) (sym (make-root s a x jx (make s b y jy d)))
    round_4) high

-- they change nothing beside the tree
pub turned_kept : (n n1 n2 n3 n4 : Store) (root new_root : Option ℕ) (c : Context) (s : Side)
    (a : Tree) (x : ℕ) (b : Tree) (y : ℕ) (d : Tree) (jx jy : ℕ) (u v : NodeView)
    → Written n n1 y u → Reparented n1 n2 (root_of b) (Some y) → Written n2 n3 x v
    → Relinked n3 n4 root new_root (holder c) y (Some x)
    → KeptOff (walk (plug c (make s a x jx (make s b y jy d)))) n n4
turned_kept n n1 n2 n3 n4 root new_root c s a x b y d jx jy u v w1 w2 w3 w4 = λ j off.
    let t = make s a x jx (make s b y jy d) in
    let z = count-walk j (plug c t) ∙ off in
    let p = plug-count c j t in
    let q = make-count s j a x jx (make s b y jy d) in
    let r = make-count s j b y jy d in
    relink-elsewhere n3 n4 root new_root c y (Some x) w4 j (omega arith) ∙ write-elsewhere n2 n3 x v
    w3 j (omega arith)
    ∙ reparent-elsewhere n1 n2 (Some y) b w2 j (omega arith) ∙ write-elsewhere n n1 y u w1 j
    (omega arith)

pub turn-walk : (s : Side) (a : Tree) (x kx : ℕ) (b : Tree) (y ky : ℕ) (d : Tree) (jx jy : ℕ)
    → walk (make s (make s a x kx b) y ky d) ≡ walk (make s a x jx (make s b y jy d))
turn-walk Left a x kx b y ky d jx jy = append_assoc (walk a) (x ∷ walk b) (y ∷ walk d)
turn-walk Right a x kx b y ky d jx jy = sym (append_assoc (walk d) (y ∷ walk b) (x ∷ walk a))
