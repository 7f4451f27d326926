-- The exact states of the calls that leave the list as it is, and of those that leave no entry.
use Rattle.std.proofs.Common.{◌≡◌, ℕ, Option, Some, None, IsSome, IfNone, OnSome, is_some, count_by}
use Rattle.std.proofs.Common.{refl, sym, ap, ◌∙◌, subst, inl, inr}
use Rattle.std.specs.Option.{option_map}
use Rattle.std.proofs.lemmas.Bool.Decides.{eqb_tells}
use Rattle.triple_arena.specs.Content.{Content, entry_at, live_count, invalidated}
use Rattle.triple_arena.specs.ContentLaws.{entry-same_slots}
use Rattle.triple_arena.specs.GenerationLaws.{entry-invalidated, live-invalidated}
use Rattle.triple_arena_ptr.specs.Generation.{next_generation}
use Rattle.triple_arena_chain.specs.LinkShape.{IndexLink}
use Rattle.triple_arena_chain.specs.Links.{ends_in, values_in, valued, with_link, with_link_of}
use Rattle.triple_arena_chain.specs.Links.{with_value_in}
use Rattle.triple_arena_chain.specs.SameLinksLaws.{ends-same_slots, ends-invalidated}
use Rattle.triple_arena_ord.specs.NodeShape.{IndexNode}
use Rattle.triple_arena_ord.specs.Node.{nodes_in, view_of, itemed}
use Rattle.triple_arena_ord.specs.Inserted.{IsRenewed, IsReplaced}
use Rattle.rank_tree.specs.Tree.{walk}
use Rattle.triple_arena_ord.specs.Ordered.{Ordered, IsOrdered, order_in, entry_in}
use Rattle.triple_arena_ord.specs.States.{invalidated_in, with_item}
use Rattle.triple_arena_ord.proofs.SameListLemmas.{Reordered, same_list, tree_same}
use Rattle.triple_arena_ord.proofs.InsertLemmas.{renewed, renewed_ordered, replaced}

module _ {T : Type 0} where
  -- a node with another item, as it is lent
  pub item_lent : (c : Content (IndexLink (IndexNode T))) (i : ℕ) (v : IndexNode T) (w : T)
      → option_map (λ e. e.1) (values_in c i) ≡ Some v
      → with_value_in c i (record v { t = w })
      ≡ with_link c i (λ link. record link { t = record link.t { t = w } })
  item_lent c i v w is = by (entry_at c i) refl
    where
      by : (o : Option (ℕ × IndexLink (IndexNode T))) → entry_at c i ≡ o
          → with_value_in c i (record v { t = w })
          ≡ with_link c i (λ link. record link { t = record link.t { t = w } })
      by None at = ap (with_link_of c i (λ link. record link { t = record v { t = w } })) at
          ∙ sym (ap (with_link_of c i (λ link. record link { t = record link.t { t = w } })) at)
      by (Some e) at =
          let found : Some e.1.t ≡ Some v =
          sym (ap (λ o. option_map (λ e. e.1) (option_map valued o)) at) ∙ is in
          let node : e.1.t ≡ v = cc found in
          ap (with_link_of c i (λ link. record link { t = record v { t = w } })) at
          ∙ ap (λ (n : IndexNode T). with_link_of c i
          (λ link. record link { t = record n { t = w } }) (Some e)) (sym node)
          ∙ sym (ap (with_link_of c i (λ link. record link { t = record link.t { t = w } })) at)

module _ {T : Type 0} where
  nodes-invalidated : (last : Option ℕ) (c : Content (IndexLink (IndexNode T))) (i j : ℕ)
      → nodes_in (invalidated last c i) j ≡ nodes_in c j
  nodes-invalidated last c i j =
      ap (λ o. option_map (λ e. view_of e.1) (option_map valued o))
      (entry-invalidated last c i j)
      ∙ elim (eqb_tells j i) [
        | inl same ↦ rw same.0 (by (entry_at c i) ∙ ap (λ k. nodes_in c k) (sym same.1))
        | inr other ↦ rw other.0 refl
      ]
    where
      by : (o : Option (ℕ × IndexLink (IndexNode T)))
          → option_map (λ e. view_of e.1)
          (option_map valued (option_map (λ e. (next_generation last c.counter, e.1)) o))
          ≡ option_map (λ e. view_of e.1) (option_map valued o)
      by None = refl
      by (Some e) = refl

  -- the pointer of one entry changes alone
  pub order-invalidated : (last : Option ℕ) (o : Ordered T) (i : ℕ)
      → order_in (invalidated_in last o i) ≡ order_in o
  order-invalidated last o i =
      ap walk (tree_same (nodes_in (invalidated last o.chains i)) (nodes_in o.chains)
      (nodes-invalidated last o.chains i) o.root)

  -- the same slots
  pub same_slots_list : (o p : Ordered T) → p.root ≡ o.root → p.chains.slots ≡ o.chains.slots
      → IsOrdered o → Reordered o p
  same_slots_list o p root slots is =
      same_list o p root
      (λ k. ap (λ e. option_map (λ e. view_of e.1) (option_map valued e))
      (entry-same_slots p.chains o.chains slots k))
      (ends-same_slots o.chains p.chains slots) (ap (count_by is_some) slots) is

  -- whether or not there is an entry at the pointer
  pub invalidates_list : {A : Type 0} (last : Option ℕ) (o p : Ordered T) (i : ℕ) (r : Option A)
      → p.root ≡ o.root
      → OnSome r (p.chains ≡ invalidated last o.chains i) → IfNone r (p.chains ≡ o.chains)
      → IsOrdered o → Reordered o p
  invalidates_list last o p i None root some none is =
      same_list o p root (λ k. ap (λ c. nodes_in c k) none)
      (λ k. ap (λ c. ends_in c k) none) (ap live_count none) is
  invalidates_list last o p i (Some a) root some none is =
      same_list o p root
      (λ k. ap (λ c. nodes_in c k) some ∙ nodes-invalidated last o.chains i k)
      (λ k. ap (λ c. ends_in c k) some ∙ ends-invalidated last o.chains i k)
      (ap live_count some ∙ live-invalidated last o.chains i) is

  -- an item that is lent leaves the list, whatever is written
  pub lent_list : (o : Ordered T) (i : ℕ) (v : IndexNode T) (w : T)
      → option_map (λ e. e.1) (values_in o.chains i) ≡ Some v
      → IsOrdered o → Reordered o
      (record o { chains = with_value_in o.chains i (record v { t = w }) })
  lent_list o i v w is ordered = by (values_in o.chains i) refl
    where
      p : Ordered T
      p = record o { chains = with_value_in o.chains i (record v { t = w }) }

      by : (e : Option (ℕ × IndexNode T)) → values_in o.chains i ≡ e → Reordered o p
      by None at = absurd (let no : None ≡ Some v = sym (ap (option_map (λ e. e.1)) at)
          ∙ is in cc no)
      by (Some e) at =
          let found : Some e.1 ≡ Some v = sym (ap (option_map (λ e. e.1)) at) ∙ is in
          let node : e.1 ≡ v = cc found in
          let here : values_in o.chains i ≡ Some (e.0, v) = at ∙ ap (λ n. Some (e.0, n)) node in
          renewed_ordered o p i e.0 w v.t refl
          (renewed o.chains i e.0 v (record v { t = w }) here refl) ordered

  -- an item that is written in place of another
  pub record Written (o : Ordered T) (i g : ℕ) (t u : T) : Type 0 where
    pub ordered : IsOrdered (with_item o i t)
    pub replaced : IsReplaced i g t u o (with_item o i t)

  pub written : (o : Ordered T) (i g : ℕ) (t u : T) → IsOrdered o
      → entry_in o i ≡ Some (g, u) → Written o i g t u
  written o i g t u is at = by (values_in o.chains i) refl
    where
      by : (e : Option (ℕ × IndexNode T)) → values_in o.chains i ≡ e → Written o i g t u
      by None e = absurd (let no : None ≡ Some (g, u) = sym (ap (option_map itemed) e)
          ∙ at in cc no)
      by (Some n) e =
          let found : Some (itemed n) ≡ Some (g, u) = sym (ap (option_map itemed) e) ∙ at in
          let there : ℕ × T = itemed n in
          let known : ℕ × T = (g, u) in
          let same : there ≡ known = cc found in
          let stamp : n.0 ≡ g = ap (λ (x : ℕ × T). x.0) same in
          let item : n.1.t ≡ u = ap (λ (x : ℕ × T). x.1) same in
          let d = with_value_in o.chains i (record n.1 { t = t }) in
          let lent : d ≡ (with_item o i t).chains =
          item_lent o.chains i n.1 t (ap (option_map (λ e. e.1)) e) in
          let renewed_here = renewed o.chains i n.0 n.1 (record n.1 { t = t }) e refl in
          let r : IsRenewed i g t u o.chains (with_item o i t).chains =
          subst (λ c. IsRenewed i g t u o.chains c) lent
          (subst (λ h. IsRenewed i h t u o.chains d) stamp
          (subst (λ x. IsRenewed i n.0 t x o.chains d) item renewed_here)) in
          record {
            ordered = (renewed_ordered o (with_item o i t) i g t u refl r is).ordered;
            replaced = replaced o o (with_item o i t) refl i g t u refl r is;
          }

  pub written_ordered : (o : Ordered T) (i : ℕ) (t : T) → IsOrdered o
      → IsSome (entry_in o i) → IsOrdered (with_item o i t)
  written_ordered o i t is live = by (entry_in o i) refl live
    where
      by : (e : Option (ℕ × T)) → entry_in o i ≡ e → IsSome e → IsOrdered (with_item o i t)
      by None at some = absurd (cc)
      by (Some e) at some = (written o i e.0 t e.1 is at).ordered
