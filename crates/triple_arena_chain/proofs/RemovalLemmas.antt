-- A link that is taken out of its chain.
use Rattle.std.proofs.Common.{◌≡◌, ◌==◌, if◌then◌else◌, ℕ, ◌-◌, ◌∷◌, length, Option, Some, None}
use Rattle.std.proofs.Common.{IsSome}
use Rattle.std.proofs.Common.{IfSome, is_some, option_map, refl, sym, ap, ◌∙◌, inl, inr}
use Rattle.std.proofs.lemmas.Bool.Decides.{eqb_tells}
use Rattle.triple_arena_ptr.specs.Generation.{next_generation}
use Rattle.triple_arena.specs.Content.{Content, entry_at, removed}
use Rattle.triple_arena.specs.RemovalLaws.{entry-removed, live-removed, counter-removed}
use Rattle.triple_arena.specs.RemovalLaws.{free-removed, slots-removed, room-removed}
use Rattle.triple_arena.specs.RemovalLaws.{formed-removed}
use Rattle.triple_arena_chain.specs.LinkShape.{IndexLink}
use Rattle.linked_lists.specs.LinkedLists.{dropped, bridged, taken_from, next_in, prev_in}
use Rattle.triple_arena_chain.specs.declared.gap.Gap.TheVariants.{Between}
use Rattle.triple_arena_chain.specs.Links.{valued, entry_ends, ends_in, with_next_of, with_prev_of}
use Rattle.triple_arena_chain.specs.Links.{bridged_over}
use Rattle.triple_arena_chain.specs.Links.{AreNeighborsLive, IsChained, IsTakenOut}
use Rattle.triple_arena_chain.specs.LinkLaws.{entry-with_link}
use Rattle.linked_lists.specs.TakenLaws.{is_taken}
use Rattle.linked_lists.specs.LinkedListLaws.{IsAgreed-same}
use Rattle.triple_arena_chain.proofs.ConnectionLemmas.{both_written, both_formed, live_next}
use Rattle.triple_arena_chain.proofs.ConnectionLemmas.{live_prev}
use Rattle.linked_lists.specs.TakeOutLaws.{IsAgreed-taken}

some_is : {A : Type 0} {a b : A} → Some a ≡ Some b → a ≡ b
some_is h = cc

-- an entry of which the value is known
entry_of_value : {T : Type 0} (o : Option (ℕ × T)) (t : T)
    → option_map (λ (e : ℕ × T). e.1) o ≡ Some t → (g : ℕ) × (o ≡ Some (g, t))
entry_of_value None t is = absurd (let no : None ≡ Some t = is in cc)
entry_of_value (Some e) t is = (e.0, ap (λ x. Some (e.0, x)) (some_is is))

module _ {T : Type 0} where
  -- what a link names is live
  pub neighbors_live : (c : Content (IndexLink T)) (p : ℕ) (l : IndexLink T)
      → IsChained c → option_map (λ (e : ℕ × IndexLink T). e.1) (entry_at c p) ≡ Some l
      → AreNeighborsLive c (Between l.prev l.next)
  neighbors_live c p l chained seen =
      let at = (entry_of_value (entry_at c p) l seen).1 in (
        by_prev l.prev (ap (λ o. prev_in (option_map entry_ends o)) at),
        by_next l.next (ap (λ o. next_in (option_map entry_ends o)) at),
      )
    where
      by_prev : (o : Option ℕ) → prev_in (ends_in c p) ≡ o
          → IfSome o (λ i. IsSome (entry_at c i))
      by_prev None is = tt
      by_prev (Some i) is = live_prev c p i chained is

      by_next : (o : Option ℕ) → next_in (ends_in c p) ≡ o
          → IfSome o (λ i. IsSome (entry_at c i))
      by_next None is = tt
      by_next (Some i) is = live_next c p i chained is

  -- a link stays as it is where its own next, or its own previous one, is written again
  next_again : (c : Content (IndexLink T)) (p g : ℕ) (l : IndexLink T) (o : Option ℕ)
      → entry_at c p ≡ Some (g, l)
      → entry_at (with_next_of c o l.next) p ≡ Some (g, l)
  next_again c p g l None at = at
  next_again c p g l (Some i) at =
      entry-with_link c i (λ link. record link { next = l.next }) p
      ∙ elim (eqb_tells p i) [
        | inl same ↦
            rw same.0
            (ap (option_map (λ (e : ℕ × IndexLink T). (let v : ℕ × IndexLink T =
            (e.0, record e.1 { next = l.next }) in v))) (ap (entry_at c) (sym same.1) ∙ at))
        | inr differs ↦ rw differs.0 at
      ]

  prev_again : (c : Content (IndexLink T)) (p g : ℕ) (l : IndexLink T) (o : Option ℕ)
      → entry_at c p ≡ Some (g, l)
      → entry_at (with_prev_of c o l.prev) p ≡ Some (g, l)
  prev_again c p g l None at = at
  prev_again c p g l (Some i) at =
      entry-with_link c i (λ link. record link { prev = l.prev }) p
      ∙ elim (eqb_tells p i) [
        | inl same ↦
            rw same.0
            (ap (option_map (λ (e : ℕ × IndexLink T). (let v : ℕ × IndexLink T =
            (e.0, record e.1 { prev = l.prev }) in v))) (ap (entry_at c) (sym same.1) ∙ at))
        | inr differs ↦ rw differs.0 at
      ]

  -- a link is as it was once its neighbors are joined
  pub entry-bridged : (c : Content (IndexLink T)) (p g : ℕ) (l : IndexLink T)
      → entry_at c p ≡ Some (g, l) → entry_at (bridged_over c l) p ≡ Some (g, l)
  entry-bridged c p g l at =
      prev_again (with_next_of c l.prev l.next) p g l l.next (next_again c p g l l.prev at)

  pub record TakenOut (last : Option ℕ) (p : ℕ) (c new : Content (IndexLink T)) : Type 0 where
    pub taken : IsTakenOut last p c new
    pub chained : IsChained new

  -- a link is removed once its neighbors are joined
  pub taken_out_by : (last : Option ℕ) (c joined new : Content (IndexLink T)) (p g : ℕ)
      (l : IndexLink T) → IsChained c
      → entry_at c p ≡ Some (g, l) → joined ≡ bridged_over c l → new ≡ removed last joined p
      → TakenOut last p c new
  taken_out_by last c joined new p g l chained at join remove =
      let d = bridged_over c l in
      let e = ends_in c in
      let b = l.prev in
      let n = l.next in
      let own : e p ≡ Some (b, n) = ap (option_map entry_ends) at in
      let live : IsSome (entry_at d p) = ap is_some (entry-bridged c p g l at) in
      let joined_by = both_written c d l.prev l.next l.next l.prev refl in
      let kept = joined_by.kept in
      let is : new ≡ removed last d p = remove ∙ ap (λ x. removed last x p) join in
      let dropped_ends : (k : ℕ)
      → ends_in (removed last d p) k ≡ dropped (bridged e b n) p k =
      λ k. ap (option_map entry_ends) (entry-removed last d p live k)
      ∙ elim (eqb_tells k p) [
        | inl same ↦ rw same.0 refl
        | inr differs ↦ rw differs.0 (joined_by.ends k)
      ] in
      let ends : (k : ℕ) → ends_in (removed last d p) k ≡ taken_from e p (e p) k =
      λ k. dropped_ends k ∙ ap (λ o. taken_from e p o k) (sym own) in
      rw is
      (record {
        taken = record {
          ends = ends;
          lists = is_taken e chained.agreed p b n own (ends_in (removed last d p)) ends;
          values = λ k.
              ap (option_map valued) (entry-removed last d p live k)
              ∙ elim (eqb_tells k p) [
                | inl same ↦ rw same.0 refl
                | inr differs ↦ rw differs.0 (joined_by.values k)
              ];
          live = live-removed last d p live ∙ kept.live;
          counter = counter-removed last d p ∙ ap (next_generation last) kept.counter;
          free =
              free-removed last d p
              ∙ ap (λ m. if p == m then d.free else (p ∷ d.free)) kept.slots
              ∙ ap (λ f. if p == length c.slots then f else (p ∷ f)) kept.free
              ∙ sym (free-removed last c p);
          slots = slots-removed last d p ∙ ap (λ m. if p == m then (p - 1) else m) kept.slots
              ∙ sym (slots-removed last c p);
          room = room-removed last d p ∙ kept.room;
        };
        chained = record {
          formed = formed-removed last d p live
              (both_formed c d l.prev l.next l.next l.prev refl chained.formed);
          agreed = IsAgreed-same (dropped (bridged e b n) p) (ends_in (removed last d p))
              dropped_ends (IsAgreed-taken e p b n own chained.agreed);
        };
      })

  -- a link that is live is so once its neighbors are joined
  pub live_bridged : (c d : Content (IndexLink T)) (p : ℕ) (l : IndexLink T)
      → option_map (λ (e : ℕ × IndexLink T). e.1) (entry_at c p) ≡ Some l
      → d ≡ bridged_over c l → IsSome (entry_at d p)
  live_bridged c d p l seen join =
      let found = entry_of_value (entry_at c p) l seen in
      ap (λ x. is_some (entry_at x p)) join
      ∙ ap is_some (entry-bridged c p found.0 l found.1)

  -- the entry of a link that is taken out once its neighbors are joined
  pub record TakenLive (last : Option ℕ) (p g : ℕ) (link : IndexLink T)
      (c new : Content (IndexLink T)) : Type 0 where
    pub value : Some (g, link) ≡ entry_at c p
    pub taken : IsTakenOut last p c new
    pub exact : new ≡ removed last (bridged_over c link) p
    pub chained : IsChained new

  pub taken_live : (last : Option ℕ) (c d new : Content (IndexLink T)) (p g : ℕ)
      (l link : IndexLink T) → IsChained c
      → option_map (λ (e : ℕ × IndexLink T). e.1) (entry_at c p) ≡ Some l
      → d ≡ bridged_over c l → Some (g, link) ≡ entry_at d p → new ≡ removed last d p
      → TakenLive last p g link c new
  taken_live last c d new p g l link chained seen join value remove =
      let found = entry_of_value (entry_at c p) l seen in
      let t = taken_out_by last c d new p found.0 l chained found.1 join remove in
      let given = value ∙ ap (λ x. entry_at x p) join ∙ entry-bridged c p found.0 l found.1 in
      let same = ap (λ (e : ℕ × IndexLink T). e.1) (some_is given) in
      record {
        value = given ∙ sym found.1;
        taken = t.taken;
        exact = remove ∙ ap (λ x. removed last x p)
            (join ∙ ap (bridged_over c) (sym same));
        chained = t.chained;
      }
