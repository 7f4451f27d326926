-- One index takes another's place.
use Rattle.std.proofs.Common.{◌≡◌, ℕ, ◌+◌, ◌<◌, ◌≤◌, Option, Some, sym, ap, ◌∙◌, subst, arith}
use Rattle.std.specs.Option.{IsSome}
use Rattle.rank_tree.specs.NodeView.{NodeView}
use Rattle.rank_tree.specs.declared.side.Side.TheVariants.{Left}
use Rattle.rank_tree.specs.Store.{Store, Written, Reparented, Relinked}
use Rattle.rank_tree.specs.Tree.{node, walk}
use Rattle.rank_tree.specs.Shape.{node_view, root_of, plug, holder, RepresentsTree, one, count}
use Rattle.rank_tree.specs.Shape.{count_round}
use Rattle.rank_tree.specs.Repair.{Replacement, KeptOff}
use Rattle.rank_tree.specs.FrameLaws.{Represents-keep, Hangs-keep, plug-count, plug-opens}
use Rattle.rank_tree.specs.FrameLaws.{plug-closes, Represents-reparent, reparent-elsewhere}
use Rattle.rank_tree.specs.FrameLaws.{relink-elsewhere, Hangs-relink, write-elsewhere, count-walk}
use Rattle.rank_tree.specs.SpotLaws.{is_some, root-lives, holder-lives}

pub replaced : (n n1 n2 n3 n4 : Store) (root new_root : Option ℕ) (old new : ℕ)
    (h : Replacement n root old new)
    → Written n n1 new (node_view Left (holder h.context) (root_of h.left) h.rank (root_of h.right))
    → Reparented n1 n2 (root_of h.left) (Some new) → Reparented n2 n3 (root_of h.right) (Some new)
    → Relinked n3 n4 root new_root (holder h.context) old (Some new)
    → RepresentsTree n4 new_root (plug h.context (node h.left new h.rank h.right))
replaced n n1 n2 n3 n4 root new_root old new h w1 w2 w3 w4 =
    let c = h.context in
    let l = h.left in
    let r = h.right in
    let whole = node l old h.rank r in
    let once : (j : ℕ) → count_round j c + (count j l + one j old + count j r) ≤ 1 = λ j. let o =
    h.distinct.once j in let p = plug-count c j whole in omega arith in
    let fresh : count_round new c + (count new l + one new old + count new r) ≡ 0 = let o =
    h.fresh in let p = plug-count c new whole in omega arith in
    let early : (j : ℕ) → 0 < count_round j c + (count j l + count j r) → n1 j ≡ n j = λ j z.
    w1.elsewhere j (λ e. let f = fresh in let y =
    subst (λ v. 0 < count_round v c + (count v l + count v r)) e z in absurd (omega arith)) in
    let e0 = plug-opens n root c whole h.stands in
    let round_3 = Hangs-keep n n3 root c (Some old)
    (λ j z. let o = once j in reparent-elsewhere n2 n3 (Some new) r w3 j
    (omega arith) ∙ reparent-elsewhere n1 n2 (Some new) l w2 j
    (omega arith) ∙ early j (omega arith)) e0.0 in
    let round_4 = Hangs-relink n3 n4 root new_root c old (Some new)
    (λ j. let o = once j in omega arith) w4 round_3 in
    let l_1 = Represents-keep n n1 (Some old) l (λ j z. early j (omega arith)) e0.1.1 in
    let l_2 = Represents-reparent n1 n2 (Some old) (Some new) l
    (record { once = λ j. let o = once j in omega arith }) w2 l_1 in
    let l_4 = Represents-keep n2 n4 (Some new) l
    (λ j z. let o = once j in relink-elsewhere n3 n4 root new_root c old (Some new) w4 j
    (omega arith) ∙ reparent-elsewhere n2 n3 (Some new) r w3
    j (omega arith)) l_2 in
    let r_2 = Represents-keep n n2 (Some old) r
    (λ j z. let o = once j in reparent-elsewhere n1 n2 (Some new) l w2 j (omega arith) ∙ early j
    (omega arith)) e0.1.2 in
    let r_3 = Represents-reparent n2 n3 (Some old) (Some new) r
    (record { once = λ j. let o = once j in omega arith }) w3 r_2 in
    let r_4 = Represents-keep n3 n4 (Some new) r
    (λ j z. let o = once j in relink-elsewhere n3 n4 root new_root c old (Some new) w4 j
    (omega arith)) r_3 in
    let at_new = let f = fresh in relink-elsewhere n3 n4 root new_root c old (Some new) w4 new
    (omega arith) ∙ reparent-elsewhere n2 n3 (Some new) r w3 new
    (omega arith) ∙ reparent-elsewhere
    n1 n2 (Some new) l w2 new (omega arith) ∙ w1.here in
    plug-closes n4 new_root c (node l new h.rank r) round_4 (at_new, l_4, r_4)

replaced_kept : (n n1 n2 n3 n4 : Store) (root new_root : Option ℕ) (old new : ℕ) (v : NodeView)
    (h : Replacement n root old new)
    → Written n n1 new v → Reparented n1 n2 (root_of h.left) (Some new)
    → Reparented n2 n3 (root_of h.right) (Some new)
    → Relinked n3 n4 root new_root (holder h.context) old (Some new)
    → KeptOff (walk (plug h.context (node h.left new h.rank h.right))) n n4
replaced_kept n n1 n2 n3 n4 root new_root old new v h w1 w2 w3 w4 = λ j off.
    let c = h.context in
    let t = node h.left new h.rank h.right in
    let z = count-walk j (plug c t) ∙ off in
    let p = plug-count c j t in
    relink-elsewhere n3 n4 root new_root c old (Some new) w4 j
    (omega arith) ∙ reparent-elsewhere n2 n3 (Some new) h.right w3 j (omega arith)
    ∙ reparent-elsewhere n1 n2 (Some new) h.left w2 j (omega arith) ∙ write-elsewhere n n1 new v w1
    j (omega arith)

pub replacement_node : (n : Store) (root : Option ℕ) (old new : ℕ) (h : Replacement n root old new)
    (value : NodeView) → n old ≡ Some value
    → value ≡ node_view Left (holder h.context) (root_of h.left) h.rank (root_of h.right)
replacement_node n root old new h value e = let f =
    (plug-opens n root h.context (node h.left old h.rank h.right) h.stands).1.0 in cc

pub replacement_lives : (n : Store) (root : Option ℕ) (old new : ℕ) → Replacement n root old new
    → IsSome (n old)
replacement_lives n root old new h
    = is_some (n old) _ (plug-opens n root h.context (node h.left old h.rank h.right) h.stands).1.0

pub record ReplacementLives (n : Store) (value : NodeView) : Type 0 where
  pub left : (i : ℕ) → value.left ≡ Some i → IsSome (n i)
  pub right : (i : ℕ) → value.right ≡ Some i → IsSome (n i)
  pub parent : (i : ℕ) → value.parent ≡ Some i → IsSome (n i)

pub replacement_links : (n : Store) (root : Option ℕ) (old new : ℕ) (h : Replacement n root old new)
    (value : NodeView) → n old ≡ Some value → ReplacementLives n value
replacement_links n root old new h value e =
    let is = replacement_node n root old new h value e in
    let o = plug-opens n root h.context (node h.left old h.rank h.right) h.stands in
    record {
      left = λ i u. root-lives n (Some old) h.left i o.1.1 (ap (λ v. v.left) (sym is) ∙ u);
      right = λ i u. root-lives n (Some old) h.right i o.1.2 (ap (λ v. v.right) (sym is) ∙ u);
      parent = λ i u. holder-lives n root h.context _ i o.0 (ap (λ v. v.parent) (sym is) ∙ u);
    }

pub replacement_works : (n n1 n2 n3 n4 : Store) (root new_root : Option ℕ) (old new : ℕ)
    (value : NodeView)
    → n old ≡ Some value
    → Written n n1 new value → Reparented n1 n2 value.left (Some new)
    → Reparented n2 n3 value.right (Some new)
    → Relinked n3 n4 root new_root value.parent old (Some new)
    → (h : Replacement n root old new)
    → RepresentsTree n4 new_root (plug h.context (node h.left new h.rank h.right))
    × KeptOff (walk (plug h.context (node h.left new h.rank h.right))) n n4
replacement_works n n1 n2 n3 n4 root new_root old new value e w1 w2 w3 w4 h =
    let is = replacement_node n root old new h value e in
    let moved_left = subst (λ v. Reparented n1 n2 v.left (Some new)) is w2 in
    let moved_right = subst (λ v. Reparented n2 n3 v.right (Some new)) is w3 in
    let hung = subst (λ v. Relinked n3 n4 root new_root v.parent old (Some new)) is w4 in (
      replaced n n1 n2 n3 n4 root new_root old new h
          (subst (λ v. Written n n1 new v) is w1) moved_left moved_right hung,
      replaced_kept n n1 n2 n3 n4 root new_root old new value h w1 moved_left moved_right hung,
    )
