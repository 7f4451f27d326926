-- A node is attached, or taken away.
use Rattle.std.proofs.Common.{◌≡◌, ℕ, ◌+◌, ◌≤◌, length, ◌∷◌, ◌++◌, Option, Some, None, refl, sym}
use Rattle.std.proofs.Common.{ap, ◌∙◌, subst, arith, inl, inr, length-append}
use Rattle.std.proofs.lemmas.Bool.{cases_eq}
use Rattle.std.specs.Option.{IsSome, IfSome}
use Rattle.rank_tree.specs.NodeView.{NodeView}
use Rattle.rank_tree.specs.declared.side.Side.{Side}
use Rattle.rank_tree.specs.declared.side.Side.TheVariants.{Left, Right}
use Rattle.rank_tree.specs.Store.{Store, with_child, Written, Reparented, Relinked}
use Rattle.rank_tree.specs.Tree.{Tree, leaf, node, walk, rank_of, IsRanked}
use Rattle.rank_tree.specs.Shape.{make, node_view, root_of, Context, top, under, plug, holder}
use Rattle.rank_tree.specs.Shape.{Hangs}
use Rattle.rank_tree.specs.Shape.{one, count, count_round}
use Rattle.rank_tree.specs.Repair.{IsRankedRound, Grown, Pending, FreeSide, new_below, filled}
use Rattle.rank_tree.specs.Repair.{Loose, KeptOff}
use Rattle.rank_tree.specs.FrameLaws.{one-same, one-other, Represents-keep, Hangs-keep, make-count}
use Rattle.rank_tree.specs.FrameLaws.{make-root, make-rank, make-opens, make-closes, plug-count}
use Rattle.rank_tree.specs.FrameLaws.{plug-opens, plug-closes, write-elsewhere, Represents-reparent}
use Rattle.rank_tree.specs.FrameLaws.{reparent-elsewhere, relink-elsewhere, Hangs-relink}
use Rattle.rank_tree.specs.FrameLaws.{count-walk}
use Rattle.rank_tree.specs.SpotLaws.{is_some as some_at, if_some, root-lives, holder-lives}
use Rattle.rank_tree.specs.SpotLaws.{node_parent}
use Rattle.rank_tree.specs.TurningLaws.{make-ranked-opens}
use Rattle.rank_tree.specs.DescentLaws.{before, after, plug-walk_is}
use Rattle.rank_tree.specs.ClimbLaws.{size-walk, size-make}
use Rattle.rank_tree.specs.MendLaws.{pending_up}

pub plug-ranked-opens : (c : Context) (t : Tree) → IsRanked (plug c t) → IsRankedRound c (rank_of t)
    × IsRanked t
plug-ranked-opens top t h = (tt, h)
plug-ranked-opens (under c s i k far) t h =
    let g = plug-ranked-opens c (make s t i k far) h in
    let p = make-ranked-opens s t i k far g.1 in
    ((p.fits, p.far, subst (λ z. IsRankedRound c z) (make-rank s t i k far) g.0), p.near)

-- the walk with a new index, or without an old one
filled-length : (c : Context) (s : Side) (i k : ℕ) (far : Tree) (new : ℕ)
    → length (walk (plug (under c s i k far) (node leaf new 1 leaf)))
    ≡ length (walk (plug (under c s i k far) leaf)) + 1
filled-length c s i k far new =
    let p = ap length (plug-walk_is (under c s i k far) (node leaf new 1 leaf)) in
    let q = ap length (plug-walk_is (under c s i k far) leaf) in
    let a = length-append (before (under c s i k far)) (new ∷ after (under c s i k far)) in
    let b = length-append (before (under c s i k far)) (after (under c s i k far)) in
    omega arith

one-le : (j i : ℕ) → one j i ≤ 1
one-le j i = elim (cases_eq j i) [
  | inl e ↦ let f = one-same i in rw e (omega arith)
  | inr d ↦ let f = one-other j i d in omega arith
]

plug-length : (c : Context) (a b : Tree) → length (walk a) ≤ length (walk b)
    → length (walk (plug c a)) ≤ length (walk (plug c b))
plug-length c a b h =
    let p = ap length (plug-walk_is c a) in
    let q = ap length (plug-walk_is c b) in
    let e = length-append (before c) (walk a ++ after c) in
    let f = length-append (before c) (walk b ++ after c) in
    let g = length-append (walk a) (after c) in
    let k = length-append (walk b) (after c) in
    omega arith

make-length : (s : Side) (a : Tree) (i k : ℕ) (b : Tree)
    → length (walk (make s a i k b)) ≡ length (walk a) + length (walk b) + 1
make-length s a i k b = let p = size-walk (make s a i k b) in let q = size-make s a i k b in let l =
    size-walk a in let r = size-walk b in omega arith

pub attached : (n m : Store) (root : Option ℕ) (at_holder : ℕ) (side : Side) (new : ℕ)
    (g : FreeSide n root at_holder side new)
    → n new ≡ Some (new_below at_holder)
    → Written n m at_holder (node_view side (holder g.context) (Some new) g.rank (root_of g.far))
    → Grown m root new (walk (filled g))
attached n m root at_holder side new g slot w =
    let c = g.context in
    let old = make side leaf at_holder g.rank g.far in
    let once : (j : ℕ) → count_round j c + (one j at_holder + count j g.far) ≤ 1 = λ j.
    let o = g.distinct.once j in let p = plug-count c j old in let q =
    make-count side j leaf at_holder g.rank g.far in omega arith in
    let fresh : count_round new c + (one new at_holder + count new g.far) ≡ 0 =
    let o = g.fresh in let p = plug-count c new old in let q =
    make-count side new leaf at_holder g.rank g.far in omega arith in
    let e0 = plug-opens n root c old g.stands in
    let e1 = make-opens side n (holder c) leaf at_holder g.rank g.far e0.1 in
    let same : (j : ℕ) → one j at_holder ≡ 0 → m j ≡ n j =
    λ j z. write-elsewhere n m at_holder _ w j z in
    let round = Hangs-keep n m root c (root_of old)
    (λ j z. let o = once j in same j (omega arith)) e0.0 in
    let far = Represents-keep n m (Some at_holder) g.far
    (λ j z. let o = once j in same j (omega arith)) e1.2 in
    let at_new : m new ≡ Some (new_below at_holder) = same new (omega arith) ∙ slot in
    let whole = make side (node leaf new 1 leaf) at_holder g.rank g.far in
    let ranks = plug-ranked-opens (under c side at_holder g.rank g.far) leaf g.ranked in
    record {
      context = under c side at_holder g.rank g.far;
      left = leaf;
      rank = 1;
      right = leaf;
      hole = 0;
      one_more = refl;
      leaning = λ z. absurd (omega arith);
      distinct = record {
        once = λ j.
            let p = plug-count c j whole in let q =
            make-count side j (node leaf new 1 leaf) at_holder g.rank g.far in let o = once j in
            elim (cases_eq j new) [
              | inl e ↦ let f = subst (λ v. count_round v c + (one v at_holder + count v g.far) ≡ 0)
                  (sym e) fresh in let b = one-le j new in omega arith
              | inr d ↦ let f = one-other j new d in omega arith
            ];
      };
      stands =
          plug-closes m root c whole
          (subst (λ z. Hangs m root c z)
          (make-root side leaf at_holder g.rank g.far
          ∙ sym (make-root side (node leaf new 1 leaf) at_holder g.rank g.far))
          round)
          (make-closes side m (holder c) (node leaf new 1 leaf) at_holder g.rank g.far w.here
          (at_new, tt, tt) far);
      ranked = (
        record {
          above_left = omega arith;
          near_left = omega arith;
          above_right = omega arith;
          near_right = omega arith;
          childless = omega arith;
        },
        tt,
        tt,
      );
      round = ranks.0;
      is_walk = refl;
      small = let e = filled-length c side at_holder g.rank g.far new in let f =
          g.small in omega arith;
    }

pub attached_kept : (n m : Store) (root : Option ℕ) (at_holder : ℕ) (side : Side) (new : ℕ)
    (v : NodeView) (g : FreeSide n root at_holder side new)
    → Written n m at_holder v → KeptOff (walk (filled g)) n m
attached_kept n m root at_holder side new v g w = λ j off.
    let t = node leaf new 1 leaf in
    let z = count-walk j (filled g) ∙ off in
    let p = plug-count g.context j (make side t at_holder g.rank g.far) in
    let q = make-count side j t at_holder g.rank g.far in
    write-elsewhere n m at_holder v w j (omega arith)

pub detached : (n n1 n2 : Store) (root new_root : Option ℕ) (gone : ℕ) (h : Loose n root gone)
    → Reparented n n1 (root_of h.sub) (holder h.context)
    → Relinked n1 n2 root new_root (holder h.context) gone (root_of h.sub)
    → Pending n2 new_root (holder h.context) (root_of h.sub) (walk (plug h.context h.sub))
detached n n1 n2 root new_root gone h w1 w2 =
    let c = h.context in
    let s = h.side in
    let old = make s h.sub gone h.rank leaf in
    let once : (j : ℕ) → count_round j c + (count j h.sub + one j gone) ≤ 1 = λ j.
    let o = h.distinct.once j in let p = plug-count c j old in let q =
    make-count s j h.sub gone h.rank leaf in omega arith in
    let e0 = plug-opens n root c old h.stands in
    let e1 = make-opens s n (holder c) h.sub gone h.rank leaf e0.1 in
    let round = subst (λ z. Hangs n root c z) (make-root s h.sub gone h.rank leaf) e0.0 in
    let round_1 = Hangs-keep n n1 root c (Some gone)
    (λ j z. let o = once j in reparent-elsewhere n n1 (holder c) h.sub w1 j
    (omega arith)) round in
    let round_2 = Hangs-relink n1 n2 root new_root c gone (root_of h.sub)
    (λ j. let o = once j in omega arith) w2 round_1 in
    let sub_1 = Represents-reparent n n1 (Some gone) (holder c) h.sub
    (record { once = λ j. let o = once j in omega arith }) w1 e1.1 in
    let sub_2 = Represents-keep n1 n2 (holder c) h.sub
    (λ j z. let o = once j in relink-elsewhere n1 n2 root new_root c gone (root_of h.sub) w2 j
    (omega arith)) sub_1 in
    let ranks = plug-ranked-opens c old h.ranked in
    let parts = make-ranked-opens s h.sub gone h.rank leaf ranks.1 in
    let f = parts.fits in
    let less = plug-length c h.sub old
    (let p = make-length s h.sub gone h.rank leaf in omega arith) in
    let small = h.small in
    pending_up n2 new_root c h.sub h.rank (walk (plug c h.sub))
    (record { once = λ j. let o = once j in let p = plug-count c j h.sub in omega arith })
    (plug-closes n2 new_root c h.sub round_2 sub_2)
    parts.near (omega arith)
    (subst (λ z. IsRankedRound c z) (make-rank s h.sub gone h.rank leaf) ranks.0) refl
    (omega arith)

detached_kept : (n n1 n2 : Store) (root new_root : Option ℕ) (gone : ℕ) (h : Loose n root gone)
    → Reparented n n1 (root_of h.sub) (holder h.context)
    → Relinked n1 n2 root new_root (holder h.context) gone (root_of h.sub)
    → KeptOff (walk (plug h.context h.sub)) n n2
detached_kept n n1 n2 root new_root gone h w1 w2 = λ j off.
    let c = h.context in
    let z = count-walk j (plug c h.sub) ∙ off in
    let p = plug-count c j h.sub in
    relink-elsewhere n1 n2 root new_root c gone (root_of h.sub) w2 j
    (omega arith) ∙ reparent-elsewhere n n1 (holder c) h.sub w1 j (omega arith)

-- what the code reads
free_side_node : (n : Store) (root : Option ℕ) (at_holder : ℕ) (side : Side) (new : ℕ)
    (g : FreeSide n root at_holder side new)
    → n at_holder ≡ Some (node_view side (holder g.context) None g.rank (root_of g.far))
free_side_node n root at_holder side new g =
    let e0 = plug-opens n root g.context (make side leaf at_holder g.rank g.far) g.stands in
    (make-opens side n (holder g.context) leaf at_holder g.rank g.far e0.1).0

pub free_side_lives : (n : Store) (root : Option ℕ) (at_holder : ℕ) (side : Side) (new : ℕ)
    → FreeSide n root at_holder side new → IsSome (n at_holder)
free_side_lives n root at_holder side new g =
    some_at (n at_holder) _ (free_side_node n root at_holder side new g)

node_filled : (s : Side) (p : Option ℕ) (k : ℕ) (b link : Option ℕ)
    → with_child s link (node_view s p None k b) ≡ node_view s p link k b
node_filled Left p k b link = refl
node_filled Right p k b link = refl

-- the holder has the new node as its child
module _ (n m : Store) (root : Option ℕ) (at_holder : ℕ) (side : Side) (new : ℕ)
    (does : (v : NodeView) → n at_holder ≡ Some v
    → Written n m at_holder (with_child side (Some new) v))
    (g : FreeSide n root at_holder side new) where
  child_written : Written n m at_holder
      (node_view side (holder g.context) (Some new) g.rank (root_of g.far))
  child_written =
      subst (λ v. Written n m at_holder v)
      (node_filled side (holder g.context) g.rank (root_of g.far) (Some new))
      (does _ (free_side_node n root at_holder side new g))

  pub attach_works : n new ≡ Some (new_below at_holder) → Grown m root new (walk (filled g))
  attach_works slot = attached n m root at_holder side new g slot child_written

  pub attach_slot : n new ≡ Some (new_below at_holder) → m new ≡ Some (new_below at_holder)
  attach_slot slot =
      let z = g.fresh in
      let p = plug-count g.context new (make side leaf at_holder g.rank g.far) in
      let q = make-count side new leaf at_holder g.rank g.far in
      write-elsewhere n m at_holder _ child_written new (omega arith) ∙ slot

  pub attach_kept : KeptOff (walk (filled g)) n m
  attach_kept = attached_kept n m root at_holder side new _ g child_written

pub loose_node : (n : Store) (root : Option ℕ) (gone : ℕ) (h : Loose n root gone)
    → n gone ≡ Some (node_view h.side (holder h.context) (root_of h.sub) h.rank None)
loose_node n root gone h
    = (make-opens h.side n (holder h.context) h.sub gone h.rank leaf
    (plug-opens n root h.context (make h.side h.sub gone h.rank leaf) h.stands).1).0

pub loose_lives : (n : Store) (root : Option ℕ) (gone : ℕ) → Loose n root gone → IsSome (n gone)
loose_lives n root gone h = some_at (n gone) _ (loose_node n root gone h)

first_is : (s : Side) (p : Option ℕ) (t : Tree) (k : ℕ) (link : Option ℕ)
    → ((i : ℕ) → (node_view s p (root_of t) k None).left ≡ Some i → link ≡ Some i)
    → ((node_view s p (root_of t) k None).left ≡ None
    → link ≡ (node_view s p (root_of t) k None).right)
    → link ≡ root_of t
first_is Left p leaf k link f g = g refl
first_is Left p (node l i j r) k link f g = f i refl
first_is Right p t k link f g = g refl

pub record LooseReads (n : Store) (root : Option ℕ) (gone : ℕ) (h : Loose n root gone)
    (value : NodeView) (link : Option ℕ) : Type 0 where
  pub link_is : link ≡ root_of h.sub
  pub parent_is : value.parent ≡ holder h.context
  pub sub_lives : IfSome link (λ i. IsSome (n i))
  pub holder_lives : (i : ℕ) → value.parent ≡ Some i → IsSome (n i)

pub loose_reads : (n : Store) (root : Option ℕ) (gone : ℕ) (value : NodeView) (link : Option ℕ)
    → n gone ≡ Some value
    → ((i : ℕ) → value.left ≡ Some i → link ≡ Some i) → (value.left ≡ None → link ≡ value.right)
    → (h : Loose n root gone) → LooseReads n root gone h value link
loose_reads n root gone value link e f g h =
    let is : value ≡ node_view h.side (holder h.context) (root_of h.sub) h.rank None =
    cc (loose_node n root gone h) in
    let o = plug-opens n root h.context (make h.side h.sub gone h.rank leaf) h.stands in
    let parts = make-opens h.side n (holder h.context) h.sub gone h.rank leaf o.1 in
    let link_is = first_is h.side (holder h.context) h.sub h.rank link
    (subst (λ v. (i : ℕ) → v.left ≡ Some i → link ≡ Some i) is f)
    (subst (λ v. v.left ≡ None → link ≡ v.right) is g) in
    let parent_is : value.parent ≡ holder h.context =
    ap (λ v. v.parent) is ∙ node_parent h.side _ _ _ _ in
    record {
      link_is = link_is;
      parent_is = parent_is;
      sub_lives = if_some link (λ i. IsSome (n i))
          (λ i u. root-lives n (Some gone) h.sub i parts.1 (sym link_is ∙ u));
      holder_lives = λ i u. holder-lives n root h.context _ i o.0 (sym parent_is ∙ u);
    }

pub detach_works : (n n1 n2 : Store) (root new_root : Option ℕ) (gone : ℕ) (value : NodeView)
    (link : Option ℕ)
    → Reparented n n1 link value.parent → Relinked n1 n2 root new_root value.parent gone link
    → (h : Loose n root gone) → LooseReads n root gone h value link
    → Pending n2 new_root value.parent link (walk (plug h.context h.sub))
    × KeptOff (walk (plug h.context h.sub)) n n2
detach_works n n1 n2 root new_root gone value link w1 w2 h r =
    let moved = subst (λ l. Reparented n n1 l (holder h.context)) r.link_is
    (subst (λ p. Reparented n n1 link p) r.parent_is w1) in
    let hung = subst (λ l. Relinked n1 n2 root new_root (holder h.context) gone l) r.link_is
    (subst (λ p. Relinked n1 n2 root new_root p gone link) r.parent_is w2) in (
      subst (λ l. Pending n2 new_root value.parent l (walk (plug h.context h.sub)))
          (sym r.link_is)
          (subst (λ p. Pending n2 new_root p (root_of h.sub) (walk (plug h.context h.sub)))
          (sym r.parent_is) (detached n n1 n2 root new_root gone h moved hung)),
      detached_kept n n1 n2 root new_root gone h moved hung,
    )
