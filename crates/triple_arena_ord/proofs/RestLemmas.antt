-- A write of a node_view keeps the rest, and what follows where the rest is the same.
use Rattle.std.proofs.Common.{◌≡◌, ℕ, zero, suc, ◌+◌, ◌-◌, List, [], ◌∷◌, length, map, set, get_or}
use Rattle.std.proofs.Common.{Option, Some, None, IsSome, is_some, count_by, cond, refl, sym, ap}
use Rattle.std.proofs.Common.{◌∙◌, arith}
use Rattle.std.specs.Option.{option_map}
use Rattle.std.proofs.lemmas.List.Sums.{sum_by-cons}
use Rattle.triple_arena.specs.Content.{Content, entry_at, live_count, with_value}
use Rattle.triple_arena_chain.specs.LinkShape.{IndexLink}
use Rattle.triple_arena_chain.specs.Links.{ends_in, entry_ends, values_in, valued, with_link_of}
use Rattle.triple_arena_chain.specs.Links.{with_value_in, IsKept}
use Rattle.triple_arena_ord.specs.NodeShape.{IndexNode}
use Rattle.triple_arena_ord.specs.Node.{nodes_in, view_of, items_in, itemed, bare, rest}

module _ {T : Type 0} where
  bare_set : (xs : List (Option (ℕ × IndexLink (IndexNode T)))) (k g : ℕ)
      (l m : IndexLink (IndexNode T)) → get_or xs k None ≡ Some (g, l)
      → bare (g, m) ≡ bare (g, l)
      → map (option_map bare) (set xs k (Some (g, m))) ≡ map (option_map bare) xs
  bare_set [] k g l m is same = refl
  bare_set (x ∷ xs) zero g l m is same = ap (λ z. Some z ∷ map (option_map bare) xs) same
      ∙ ap (λ z. option_map bare z ∷ map (option_map bare) xs) (sym is)
  bare_set (x ∷ xs) (suc k) g l m is same =
      ap (λ z. option_map bare x ∷ z) (bare_set xs k g l m is same)

  rest-with_value : (c : Content (IndexLink (IndexNode T))) (i g : ℕ)
      (l m : IndexLink (IndexNode T)) → entry_at c i ≡ Some (g, l)
      → bare (g, m) ≡ bare (g, l) → rest (with_value c i m) ≡ rest c
  unfolding rest
  rest-with_value c zero g l m is same = absurd (cc)
  rest-with_value c (suc k) g l m is same =
      let less : suc k - 1 ≡ k = omega arith in
      rw (is, less) (ap (λ s. record
      { slots = s; counter = c.counter; free = c.free; room = c.room })
      (bare_set c.slots k g l m is same))

  -- a write of a node with the same item
  pub rest-write : (c : Content (IndexLink (IndexNode T))) (i : ℕ) (u v : IndexNode T)
      → option_map (λ e. e.1) (values_in c i) ≡ Some u
      → v.t ≡ u.t → rest (with_value_in c i v) ≡ rest c
  rest-write c i u v is same = by (entry_at c i) refl
    where
      by : (o : Option (ℕ × IndexLink (IndexNode T))) → entry_at c i ≡ o
          → rest (with_value_in c i v) ≡ rest c
      by None at = ap (λ o. rest (with_link_of c i (λ link. record link { t = v }) o)) at
      by (Some e) at =
          let it : Some e.1.t ≡ Some u =
          sym (ap (λ o. option_map (λ e. e.1) (option_map valued o)) at) ∙ is in
          let item : e.1.t.t ≡ u.t = cc in
          ap (λ o. rest (with_link_of c i (λ link. record link { t = v }) o)) at
          ∙ rest-with_value c i e.0 e.1 (record e.1 { t = v }) at
          (ap (λ (z : T). (let r : ℕ × IndexLink T =
          (e.0, record { prev = e.1.prev; next = e.1.next; t = z }) in r)) (same ∙ sym item))

  bare-length : (xs : List (Option (ℕ × IndexLink (IndexNode T))))
      → length (map (option_map bare) xs) ≡ length xs
  bare-length [] = refl
  bare-length (x ∷ xs) = ap suc (bare-length xs)

  bare-at : (xs : List (Option (ℕ × IndexLink (IndexNode T)))) (k : ℕ)
      → get_or (map (option_map bare) xs) k None ≡ option_map bare (get_or xs k None)
  bare-at [] k = refl
  bare-at (x ∷ xs) zero = refl
  bare-at (x ∷ xs) (suc k) = bare-at xs k

  bare-entry : (c : Content (IndexLink (IndexNode T))) (i : ℕ)
      → entry_at (rest c) i ≡ option_map bare (entry_at c i)
  unfolding rest
  bare-entry c zero = refl
  bare-entry c (suc k) = bare-at c.slots k

  bare-item : (o : Option (ℕ × IndexLink (IndexNode T)))
      → option_map valued (option_map bare o) ≡ option_map itemed (option_map valued o)
  bare-item None = refl
  bare-item (Some e) = refl

  bare-some : (x : Option (ℕ × IndexLink (IndexNode T)))
      → is_some (option_map bare x) ≡ is_some x
  bare-some None = refl
  bare-some (Some e) = refl

  bare-live : (xs : List (Option (ℕ × IndexLink (IndexNode T))))
      → count_by is_some (map (option_map bare) xs) ≡ count_by is_some xs
  bare-live [] = refl
  bare-live (x ∷ xs) =
      let p : count_by is_some (map (option_map bare) (x ∷ xs))
      ≡ cond (is_some (option_map bare x)) 1 0 + count_by is_some (map (option_map bare) xs) =
      sum_by-cons (λ o. cond (is_some o) 1 0) (option_map bare x) (map (option_map bare) xs) in
      let q : count_by is_some (x ∷ xs) ≡ cond (is_some x) 1 0 + count_by is_some xs =
      sum_by-cons (λ o. cond (is_some o) 1 0) x xs in
      p ∙ ap (λ b. cond b 1 0 + count_by is_some (map (option_map bare) xs)) (bare-some x)
      ∙ ap (λ n. cond (is_some x) 1 0 + n) (bare-live xs) ∙ sym q

module _ {T : Type 0} where
  bare-ends : (o : Option (ℕ × IndexLink (IndexNode T)))
      → option_map entry_ends (option_map bare o) ≡ option_map entry_ends o
  bare-ends None = refl
  bare-ends (Some e) = refl

  item-lives : (o p : Option (ℕ × IndexNode T)) → option_map itemed o ≡ option_map itemed p
      → IsSome (option_map (λ e. view_of e.1) o)
      → IsSome (option_map (λ e. view_of e.1) p)
  item-lives None p e h = absurd (cc)
  item-lives (Some a) None e h = absurd (cc)
  item-lives (Some a) (Some b) e h = refl

  -- what is the same where the rest is
  pub record Rested (old new : Content (IndexLink (IndexNode T))) : Type 0 where
    pub ends : (k : ℕ) → ends_in new k ≡ ends_in old k
    pub items : (k : ℕ) → items_in new k ≡ items_in old k
    pub lives : (k : ℕ) → IsSome (nodes_in new k) → IsSome (nodes_in old k)
    pub stays : (k : ℕ) → IsSome (nodes_in old k) → IsSome (nodes_in new k)
    pub kept : IsKept old new

  pub rested : (old new : Content (IndexLink (IndexNode T))) → rest new ≡ rest old
      → Rested old new
  unfolding rest
  rested old new e =
      let entry : (k : ℕ) → option_map bare (entry_at new k) ≡ option_map bare (entry_at old k) =
      λ k. sym (bare-entry new k) ∙ ap (λ r. entry_at r k) e ∙ bare-entry old k in
      let items : (k : ℕ) → items_in new k ≡ items_in old k =
      λ k. sym (bare-item (entry_at new k)) ∙ ap (option_map valued) (entry k)
      ∙ bare-item (entry_at old k) in
      record {
        ends = λ k. sym (bare-ends (entry_at new k)) ∙ ap (option_map entry_ends) (entry k)
            ∙ bare-ends (entry_at old k);
        items = items;
        lives = λ k h. item-lives (values_in new k) (values_in old k) (items k) h;
        stays = λ k h. item-lives (values_in old k) (values_in new k) (sym (items k)) h;
        kept = record {
          live = sym (bare-live new.slots) ∙ ap (λ r. live_count r) e ∙ bare-live old.slots;
          slots = sym (bare-length new.slots) ∙ ap (λ r. length r.slots) e ∙ bare-length old.slots;
          free = ap (λ r. r.free) e;
          counter = ap (λ r. r.counter) e;
          room = ap (λ r. r.room) e;
        };
      }
