-- What a removal at the start of a walk does to what is left of it, and to what a drain leaves.
use Rattle.std.proofs.Common.{◌≡◌, ℕ, ◌-◌, ◌==◌, if◌then◌else◌, Bool, List, [], ◌∷◌, ◌++◌, length}
use Rattle.std.proofs.Common.{Option, Some, None, IsSome, IfSome, OnSome, is_some, true, false}
use Rattle.std.proofs.Common.{true≢false, option_map, refl, sym, ap, subst, ◌∙◌, inl, inr, arith}
use Rattle.std.proofs.lemmas.Bool.Decides.{eqb_tells}
use Rattle.std.specs.Fn.{iterate}
use Rattle.triple_arena_ptr.specs.Generation.{next_generation, next_wraps}
use Rattle.triple_arena_ptr.specs.InvalidationOption.{value_of, overflowed}
use Rattle.triple_arena_ptr.specs.declared.invalidation.InvalidationOption.{InvalidationOption}
use Rattle.triple_arena.specs.Entries.{without, value_if}
use Rattle.triple_arena.specs.Content.{Content, entry_at, get, removed}
use Rattle.triple_arena.specs.RemovalLaws.{free-removed, slots-removed}
use Rattle.triple_arena_chain.specs.LinkShape.{IndexLink}
use Rattle.linked_lists.specs.LinkedLists.{Ends, taken_out, first_or, last_or, On}
use Rattle.linked_lists.specs.LinkedListLaws.{segment-back}
use Rattle.linked_lists.specs.ChainLaws.{segment-where, chain_where, live_in, off_or_not}
use Rattle.linked_lists.specs.Chains.{members}
use Rattle.triple_arena_chain.specs.Links.{values_in, link_ends, entry_ends, ends_in, IsChained}
use Rattle.triple_arena_chain.specs.Links.{IsTakenOut}
use Rattle.triple_arena_chain.specs.Drains.{IsWalk, dropped_all, next_or_prev, without_all}
use Rattle.triple_arena_chain.specs.Drains.{removed_all, IsChainGone, IsDrained, IsRestDrained}
use Rattle.triple_arena_chain.specs.Drains.{IsStep, DrainKeeps, DrainKeepsAlong, drain_chains}
use Rattle.triple_arena_chain.specs.Drains.{IsLeft, indexes_of, DrainGoesAlong}
use Rattle.triple_arena_chain.specs.Walks.{IsWalkFrom, along, around}
use Rattle.triple_arena_chain.specs.declared.chain_arena.drain.ChainDrain.{ChainDrain}
use Rattle.triple_arena_chain.specs.DrainLaws.{walk_of}
use Rattle.triple_arena_chain.proofs.LawLemmas.{in_one_chain}
use Rattle.triple_arena_chain.proofs.TakenWalkLemmas.{walk_goes_on, gone_with, left_off}
use Rattle.triple_arena_chain.proofs.TakenWalkLemmas.{dropped_with}

some_is : {A : Type 0} {a b : A} → Some a ≡ Some b → a ≡ b
some_is h = cc

module _ (e f : ℕ → Option Ends) (same : (k : ℕ) → f k ≡ e k) where
  -- interlinks that are the same at each index have the same walks
  IsWalk-same : (at : Option ℕ) (walk : List ℕ) → IsWalk e at walk → IsWalk f at walk
  IsWalk-same None walk is = is
  IsWalk-same (Some i) walk (along before after s is) =
      along before after (segment-where e f None None (before ++ i ∷ after) (λ k on. same k) s) is
  IsWalk-same (Some i) walk (around after r is) =
      around after (record {
        stands =
            segment-where e f (last_or None (i ∷ after)) (first_or (i ∷ after) None) (i ∷ after)
            (λ k on. same k) r.stands;
        apart = r.apart;
      }) is

  dropped_all-same : (xs : List ℕ) (k : ℕ) → dropped_all f xs k ≡ dropped_all e xs k
  dropped_all-same [] k = same k
  dropped_all-same (x ∷ xs) k =
      elim (eqb_tells k x) [
        | inl is ↦ rw is.0 refl
        | inr differs ↦
            rw differs.0 (dropped_all-same xs k)
      ]

module _ (e f : ℕ → Option Ends) where
  -- what the chains are without the indexes of a walk
  chain_gone : (walk : List ℕ) → ((k : ℕ) → f k ≡ dropped_all e walk k) → IsChainGone walk e f
  chain_gone walk is =
      record {
        gone = λ c k chain on. off_or_not (members c) k
            (λ here. absurd (true≢false
            (sym (live_in f c k chain here) ∙ ap is_some (missing k on))));
        others = λ c chain apart. chain_where e f c (λ k on. is k ∙ left_off e walk k (apart k on))
            chain;
      }
    where
      missing : (k : ℕ) → On walk k → f k ≡ None
      missing k on = is k ∙ ap (λ l. dropped_all e l k) on.is ∙ gone_with e on.front on.back k

module _ {T : Type 0} where
  without_all-same : (v w : ℕ → Option (ℕ × T)) → ((k : ℕ) → w k ≡ v k) → (xs : List ℕ) (k : ℕ)
      → without_all w xs k ≡ without_all v xs k
  without_all-same v w same [] k = same k
  without_all-same v w same (x ∷ xs) k =
      elim (eqb_tells k x) [
        | inl is ↦ rw is.0 refl
        | inr differs ↦
            rw differs.0 (without_all-same v w same xs k)
      ]

  without_first : (v : ℕ → Option (ℕ × T)) (i : ℕ) (xs : List ℕ) (k : ℕ)
      → without_all (without v i) xs k ≡ without (without_all v xs) i k
  without_first v i [] k = refl
  without_first v i (x ∷ xs) k =
      elim (eqb_tells k x) [
        | inl is ↦ rw is.0 (elim (eqb_tells k i)
            [ inl too ↦ rw too.0 refl | inr other ↦ rw other.0 refl ])
        | inr differs ↦
            rw differs.0 (without_first v i xs k
            ∙ elim (eqb_tells k i) [ inl too ↦ rw too.0 refl | inr other ↦ rw other.0 refl ])
      ]

  -- the free indexes and the number of slots after removals depend on those before alone
  removed_all-same : (last : Option ℕ) (xs : List ℕ) (c d : Content T) → d.free ≡ c.free
      → length d.slots ≡ length c.slots
      → ((removed_all last d xs).free ≡ (removed_all last c xs).free)
      × (length (removed_all last d xs).slots ≡ length (removed_all last c xs).slots)
  removed_all-same last [] c d free slots = (free, slots)
  removed_all-same last (x ∷ xs) c d free slots =
      removed_all-same last xs (removed last c x) (removed last d x)
      (free-removed last d x
      ∙ ap (λ m. if x == m then d.free else (x ∷ d.free)) slots
      ∙ ap (λ f. if x == length c.slots then f else (x ∷ f)) free
      ∙ sym (free-removed last c x))
      (slots-removed last d x ∙ ap (λ m. if x == m then (x - 1) else m) slots
      ∙ sym (slots-removed last c x))

module _ {T : Type 0} (last : Option ℕ) where
  -- where there is no walk left nothing is left to remove
  pub nothing_left : (c : Content (IndexLink T)) → IsRestDrained last None c c
  nothing_left c walk is =
      subst (λ w. IsDrained last w c c) (sym is)
      (record {
        ends = λ k. refl;
        lists = chain_gone (ends_in c) (ends_in c) [] (λ k. refl);
        values = λ k. refl;
        live = omega arith;
        counter = refl;
        free = refl;
        slots = refl;
        room = refl;
      })

  -- what is left of a walk whose first link was taken out
  pub record Advanced (i : ℕ) (next : Option ℕ) (c d : Content (IndexLink T)) : Type 0 where
    pub goes_on : (walk : List ℕ) → IsWalk (ends_in c) (Some i) walk
        → (rest : List ℕ) × (walk ≡ i ∷ rest) × IsWalk (ends_in d) next rest
    pub leaves : (left : Content (IndexLink T)) → IsRestDrained last next d left
        → IsRestDrained last (Some i) c left

  pub advanced : (c d : Content (IndexLink T)) (i g : ℕ) (l : IndexLink T) (next : Option ℕ)
      → IsChained c → entry_at c i ≡ Some (g, l)
      → IsTakenOut last i c d → next ≡ next_or_prev i (link_ends l)
      → Advanced i next c d
  advanced c d i g l next chained at taken onward =
      let e = ends_in c in
      let own : e i ≡ Some (l.prev, l.next) =
      ap (option_map entry_ends) at in
      record {
        goes_on =
            λ walk is.
            let on = walk_goes_on e chained.agreed i l.prev
            l.next own walk is in (
              on.rest,
              on.is,
              subst (λ o. IsWalk (ends_in d) o on.rest) (sym onward)
                  (IsWalk-same (taken_out e i) (ends_in d) taken.ends
                  (next_or_prev i (link_ends l)) on.rest on.goes_on),
            );
        leaves =
            λ left drained walk is.
            let on = walk_goes_on e chained.agreed i l.prev
            l.next own walk is in
            let rest =
            drained on.rest
            (subst (λ o. IsWalk (ends_in d) o on.rest) (sym onward)
            (IsWalk-same (taken_out e i) (ends_in d) taken.ends
            (next_or_prev i (link_ends l)) on.rest on.goes_on)) in
            let same = removed_all-same last on.rest (removed last c i) d taken.free taken.slots in
            let fewer = rest.live in
            let one = taken.live in
            let ends : (k : ℕ) → ends_in left k ≡ dropped_all e (i ∷ on.rest) k =
            λ k.
            rest.ends k
            ∙ dropped_all-same (taken_out e i) (ends_in d) taken.ends on.rest k
            ∙ dropped_with e chained.agreed i l.prev l.next
            own on.rest k (subst (IsWalkFrom e i) on.is is) in
            subst (λ w. IsDrained last w c left) (sym on.is)
            (record {
              ends = ends;
              lists = chain_gone e (ends_in left) (i ∷ on.rest) ends;
              values = λ k.
                  rest.values k
                  ∙ without_all-same (without (values_in c) i) (values_in d) taken.values on.rest k
                  ∙ without_first (values_in c) i on.rest k;
              live = omega (arith, fewer, one);
              counter = rest.counter
                  ∙ ap (iterate (next_generation last) (length on.rest)) taken.counter;
              free = rest.free ∙ same.0;
              slots = rest.slots ∙ same.1;
              room = rest.room ∙ taken.room;
            });
      }

  -- the walk from a link that is live
  pub walk_from : (c : Content (IndexLink T)) (i : ℕ) (p g : ℕ) → IsChained c
      → i ≡ p → IsSome (get c p g)
      → (walk : List ℕ) × IsWalk (ends_in c) (Some i) walk
  walk_from c i p g chained is_p some =
      walk_of (ends_in c) i
      (in_one_chain c i chained
      (ap is_some (ap (ends_in c) is_p) ∙ live (entry_at c p) some)).stands
    where
      live : (o : Option (ℕ × IndexLink T)) → IsSome (value_if g o)
          → is_some (option_map entry_ends o) ≡ true
      live None missing = absurd (let never : false ≡ true = missing in cc)
      live (Some e) found = refl

  module _ {P G : Type 0} (generation_number : G → ℕ) (index generation : P → ℕ) where
    -- a removal that is given as an item
    pub step_by : (r : Option (InvalidationOption (G × IndexLink T)))
        (c d : Content (IndexLink T)) (i : ℕ) (p : P) (gen : G) (link : IndexLink T)
        (wrapped : Bool) (item : InvalidationOption (P × IndexLink T)) (next : Option ℕ)
        → IsChained c → index p ≡ i
        → generation p ≡ generation_number gen → value_of item ≡ (p, link)
        → overflowed item ≡ wrapped
        → (let t : Option ((G × IndexLink T) × Bool) = Some ((gen, link), wrapped) in t)
        ≡ option_map (λ a. (let u : (G × IndexLink T) × Bool = (value_of a, overflowed a) in u)) r
        → option_map (λ a. (generation_number (value_of a).0, (value_of a).1)) r ≡ entry_at c i
        → IfSome r (λ a. overflowed a ≡ next_wraps last c.counter)
        → OnSome r (IsTakenOut last i c d) → next ≡ next_or_prev i (link_ends link)
        → IsStep last index generation i item next c d
    step_by None c d i p gen link wrapped item next chained is_i is_gen value wraps told entry
        overflow taken onward =
        absurd (let never : (let t : Option ((G × IndexLink T) × Bool) =
        Some ((gen, link), wrapped) in t) ≡ None = told in cc)
    step_by (Some a) c d i p gen link wrapped item next chained is_i is_gen value wraps told entry
        overflow taken onward =
        let given = some_is {A = (G × IndexLink T) × Bool} told in
        let at : entry_at c i ≡ Some (generation_number gen, link) = sym entry
        ∙ ap (λ v. Some (generation_number v.0, v.1)) (sym (ap (λ v. v.0) given)) in
        let on = advanced c d i (generation_number gen) link next chained at taken onward in
        record {
          index_is = ap (λ v. index v.0) value ∙ is_i;
          entry = ap (λ v. Some (generation v.0, v.1)) value ∙ ap (λ n. Some (n, link)) is_gen
              ∙ sym at;
          overflow = wraps ∙ ap (λ v. v.1) given ∙ overflow;
          taken = taken;
          goes_on = on.goes_on;
          leaves = on.leaves;
        }

  -- a walk begins at an index that is live
  pub walk_live : (c : Content (IndexLink T)) (i : ℕ) (walk : List ℕ)
      → IsWalk (ends_in c) (Some i) walk → IsSome (entry_at c i)
  walk_live c i walk from = live (entry_at c i) (by from)
    where
      live : (o : Option (ℕ × IndexLink T)) → IsSome (option_map entry_ends o) → IsSome o
      live None missing = absurd (let never : false ≡ true = missing in cc)
      live (Some e) found = refl

      by : IsWalkFrom (ends_in c) i walk → IsSome (ends_in c i)
      by (along before after s is) =
          ap is_some (segment-back (ends_in c) None None before (i ∷ after) s).0
      by (around after r is) = ap is_some r.stands.0

  -- an index that is not live begins none
  pub nothing_there : (c : Content (IndexLink T)) (i : ℕ) → entry_at c i ≡ None
      → IsRestDrained last (Some i) c c
  nothing_there c i vacant walk from =
      absurd (let never : false ≡ true = sym (ap is_some vacant) ∙ walk_live c i walk from in cc)

module _ {P T S Inx Gen Word Alloc : Type 0} (number : Inx → ℕ) (last : Option ℕ)
    (index generation : P → ℕ) where
  -- what a drain keeps at a step it keeps at every later one
  pub keeps_along : (first : ChainDrain P T S Inx Gen Word Alloc)
      → DrainKeepsAlong number last index generation first
  keeps_along first [] later run =
      subst (DrainKeeps number last first) run (refl, λ left leaves. leaves)
  keeps_along first (item ∷ items) later run =
      let step = run.1.1 in
      let rest = keeps_along run.0 items later run.2 in
      (rest.0 ∙ step.0, λ left leaves. step.1 left (rest.1 left leaves))

  -- the items of a drain are the walk in order
  pub goes_along : (first : ChainDrain P T S Inx Gen Word Alloc)
      → DrainGoesAlong number last index generation first
  goes_along first [] later run walk is = (walk, refl, subst (λ d. IsLeft number d walk) run is)
  goes_along first (item ∷ items) later run walk is =
      let gives = run.1.0 in
      let on = gives.2.goes_on walk
      (subst (λ o. IsWalk (ends_in (drain_chains first)) o walk) gives.1 is) in
      let others = goes_along run.0 items later run.2 on.0 on.2 in
      let first_is = ap (λ k. k ∷ (indexes_of index items ++ others.0)) (sym gives.2.index_is) in
      (others.0, on.1 ∙ ap (λ l. gives.0 ∷ l) others.1 ∙ first_is, others.2)
