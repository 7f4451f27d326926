-- What the laws on chains stand on.
use Rattle.std.proofs.Common.{◌≡◌, ℕ, suc, ◌<◌, List, length, Option, Some, None, IsSome}
use Rattle.std.proofs.Common.{option_map, true, false, refl, ap, ◌∙◌, arith}
use Rattle.triple_arena.specs.Content.{Content, entry_at}
use Rattle.triple_arena.specs.ContentLaws.{live_entry}
use Rattle.triple_arena_chain.specs.LinkShape.{IndexLink}
use Rattle.linked_lists.specs.LinkedLists.{Ends, with_next, with_prev, linked, unlinked, exchanged}
use Rattle.linked_lists.specs.LinkedLists.{next_in, prev_in, next_at}
use Rattle.linked_lists.specs.LinkedListLaws.{stands}
use Rattle.linked_lists.specs.AllChainsLaws.{all_chains}
use Rattle.linked_lists.specs.Chains.{Chain, AreChains}
use Rattle.triple_arena_chain.specs.Kinds.{at_bridge}
use Rattle.triple_arena_chain.specs.Links.{entry_ends, ends_in, ends_found, IsChained, IsRelinked}
use Rattle.triple_arena_chain.specs.Links.{ExchangesNexts}
use Rattle.linked_lists.specs.UniquenessLaws.{IsInOneChain, stands_once}
use Rattle.linked_lists.specs.AgreedLaws.{next_at_p}
use Rattle.triple_arena_chain.specs.LinkLaws.{kept_on}
use Rattle.triple_arena_chain.proofs.InsertionLemmas.{with_next_if-same, with_prev_if-same}
use Rattle.triple_arena_chain.specs.KindLaws.{found}
use Rattle.triple_arena_chain.proofs.RestoredLemmas.{still_next, found_by_next}
use Rattle.linked_lists.specs.ReversalLaws.{linked_back, unlinked_back, exchanged_back}
use Rattle.linked_lists.specs.ReversalLaws.{next_exchanged}

-- two that have no neighbors to each other's side
record AreOpen (o o' : Option Ends) : Type 0 where
  first : Ends
  second : Ends
  first_is : o ≡ Some first
  second_is : o' ≡ Some second
  end : first.1 ≡ None
  start : second.0 ≡ None

open_by : (p q : ℕ) (o o' : Option Ends) → IsSome (at_bridge p q o o') → AreOpen o o'
open_by p q None o' h = absurd (let no : false ≡ true = h in cc)
open_by p q (Some v) None h = absurd (let no : false ≡ true = h in cc)
open_by p q (Some v) (Some w) h = by v.1 w.0 refl refl h
  where
    by : (n m : Option ℕ) → v.1 ≡ n → w.0 ≡ m
        → IsSome (at_bridge p q (Some (v.0, n)) (Some (m, w.1))) → AreOpen (Some v) (Some w)
    by None None end start h =
        record {
          first = v;
          second = w;
          first_is = refl;
          second_is = refl;
          end = end;
          start = start;
        }
    by None (Some m) end start h = absurd (let no : false ≡ true = h in cc)
    by (Some n) m end start h = absurd (let no : false ≡ true = h in cc)

-- interlinks that are the same at each index are so after the same writes
both_same : (e f : ℕ → Option Ends) (p q : ℕ) (n m : Option ℕ) → ((j : ℕ) → f j ≡ e j)
    → (k : ℕ) → with_prev (with_next f p n) q m k ≡ with_prev (with_next e p n) q m k
both_same e f p q n m same =
    with_prev_if-same (with_next e p n) (with_next f p n) (Some q) m
    (with_next_if-same e f (Some p) n same)

exchanged_same : (e f : ℕ → Option Ends) (p q s t : ℕ) → ((j : ℕ) → f j ≡ e j) → (k : ℕ)
    → exchanged f p q s t k ≡ exchanged e p q s t k
exchanged_same e f p q s t same =
    let e2 = with_next (with_next e p (Some t)) q (Some s) in
    let f2 = with_next (with_next f p (Some t)) q (Some s) in
    with_prev_if-same (with_prev e2 t (Some p)) (with_prev f2 t (Some p)) (Some s) (Some q)
    (with_prev_if-same e2 f2 (Some t) (Some p)
    (with_next_if-same (with_next e p (Some t)) (with_next f p (Some t)) (Some q) (Some s)
    (with_next_if-same e f (Some p) (Some t) same)))

module _ {T : Type 0} where
  -- one change after another that takes it back
  restored : (c d f : Content (IndexLink T)) (first second : ℕ → Option Ends)
      → IsRelinked first c d → IsRelinked second d f
      → ((k : ℕ) → second k ≡ ends_in c k) → IsRelinked (ends_in c) c f
  restored c d f first second one two back =
      record {
        ends = λ k. two.ends k ∙ back k;
        values = λ k. two.values k ∙ one.values k;
        kept = kept_on c d f one.kept two.kept;
      }

  -- the first finds its next, which it just got
  pub connect_answers : (c d : Content (IndexLink T)) (p gp q gq : ℕ)
      → IsSome (at_bridge p q (ends_found c p gp) (ends_found c q gq))
      → IsRelinked (linked (ends_in c) p q) c d
      → IsSome (next_in (ends_found d p gp))
  connect_answers c d p gp q gq met one =
      let e = ends_in c in
      let gap = open_by p q (ends_found c p gp) (ends_found c q gq) met in
      let next : next_at (ends_in d) p ≡ Some q =
      ap next_in (one.ends p)
      ∙ next_at_p e p q (Some q) (Some p) gap.first (found c p gp gap.first gap.first_is)
      in
      let there : IsSome (ends_found c p gp) = rw gap.first_is refl in
      still_next c d p gp q there (one.values p) next

  pub connect_back : (c d f : Content (IndexLink T)) (p gp q gq : ℕ)
      → IsSome (at_bridge p q (ends_found c p gp) (ends_found c q gq))
      → IsRelinked (linked (ends_in c) p q) c d
      → ((n : ℕ) → next_at (ends_in d) p ≡ Some n
      → IsRelinked (unlinked (ends_in d) p n) d f)
      → IsRelinked (ends_in c) c f
  connect_back c d f p gp q gq met one two =
      let e = ends_in c in
      let gap = open_by p q (ends_found c p gp) (ends_found c q gq) met in
      let at_p : e p ≡ Some gap.first = found c p gp gap.first gap.first_is in
      let at_q : e q ≡ Some gap.second = found c q gq gap.second gap.second_is in
      let next : next_at (ends_in d) p ≡ Some q = ap next_in (one.ends p)
      ∙ next_at_p e p q (Some q) (Some p) gap.first at_p in
      restored c d f (linked e p q) (unlinked (ends_in d) p q) one (two q next)
      (λ k. both_same (linked e p q) (ends_in d) p q None None one.ends k
      ∙ linked_back e p q (ap next_in at_p ∙ gap.end) (ap prev_in at_q ∙ gap.start) k)

  pub break_next_back : (c d f : Content (IndexLink T)) (p q : ℕ) → IsChained c
      → next_at (ends_in c) p ≡ Some q
      → IsRelinked (unlinked (ends_in c) p q) c d
      → IsRelinked (linked (ends_in d) p q) d f
      → IsRelinked (ends_in c) c f
  break_next_back c d f p q chained next one two =
      let e = ends_in c in
      restored c d f (unlinked e p q) (linked (ends_in d) p q) one two
      (λ k. both_same (unlinked e p q) (ends_in d) p q (Some q) (Some p) one.ends k
      ∙ unlinked_back e p q next (chained.agreed.forward p q next) k)

  -- the next of a link that a pointer finds
  next_found : (c : Content (IndexLink T)) (p gp : ℕ) → IsSome (next_in (ends_found c p gp))
      → (s : ℕ) × (next_at (ends_in c) p ≡ Some s)
  next_found c p gp has = by (ends_found c p gp) refl has
    where
      at : (v : Ends) (n : Option ℕ) → v.1 ≡ n → ends_found c p gp ≡ Some v → IsSome n
          → (s : ℕ) × (next_at (ends_in c) p ≡ Some s)
      at v None next is has = absurd (let no : false ≡ true = has in cc)
      at v (Some s) next is has = (s, ap next_in (found c p gp v is) ∙ next)

      by : (o : Option Ends) → ends_found c p gp ≡ o → IsSome (next_in o)
          → (s : ℕ) × (next_at (ends_in c) p ≡ Some s)
      by None is has = absurd (let no : false ≡ true = has in cc)
      by (Some v) is has = at v v.1 refl is has

  pub exchange_answers : (c d : Content (IndexLink T)) (p gp q gq : ℕ)
      → IsSome (next_in (ends_found c p gp)) → IsSome (next_in (ends_found c q gq))
      → ExchangesNexts p q c d
      → IsSome (next_in (ends_found d p gp)) × IsSome (next_in (ends_found d q gq))
  exchange_answers c d p gp q gq has_p has_q exchanges =
      let s = next_found c p gp has_p in
      let t = next_found c q gq has_q in
      let one = exchanges s.0 t.0 s.1 t.1 in
      let after = next_exchanged (ends_in c) p q s.0 t.0 s.1 t.1 in (
        still_next c d p gp t.0 (found_by_next (ends_found c p gp) has_p) (one.values p)
            (ap next_in (one.ends p) ∙ after.0),
        still_next c d q gq s.0 (found_by_next (ends_found c q gq) has_q) (one.values q)
            (ap next_in (one.ends q) ∙ after.1),
      )

  pub exchange_back : (c d f : Content (IndexLink T)) (p q s t : ℕ) → IsChained c
      → next_at (ends_in c) p ≡ Some s
      → next_at (ends_in c) q ≡ Some t
      → IsRelinked (exchanged (ends_in c) p q s t) c d
      → ((m n : ℕ) → next_at (ends_in d) p ≡ Some m → next_at (ends_in d) q ≡ Some n
      → IsRelinked (exchanged (ends_in d) p q m n) d f)
      → IsRelinked (ends_in c) c f
  exchange_back c d f p q s t chained out_p out_q one two =
      let e = ends_in c in
      let after = next_exchanged e p q s t out_p out_q in
      let next_p : next_at (ends_in d) p ≡ Some t = ap next_in (one.ends p) ∙ after.0 in
      let next_q : next_at (ends_in d) q ≡ Some s = ap next_in (one.ends q) ∙ after.1 in
      restored c d f (exchanged e p q s t) (exchanged (ends_in d) p q t s) one
      (two t s next_p next_q)
      (λ k. exchanged_same (exchanged e p q s t) (ends_in d) p q t s one.ends k
      ∙ exchanged_back e p q s t chained.agreed out_p out_q k)

  live_by_ends : (o : Option (ℕ × IndexLink T)) → IsSome (option_map entry_ends o)
      → IsSome o
  live_by_ends None h = absurd (let no : false ≡ true = h in cc)
  live_by_ends (Some e) h = refl

  bounded : (c : Content (IndexLink T)) (j : ℕ) → IsSome (ends_in c j)
      → j < suc (length c.slots)
  bounded c j some = let l = live_entry c j (live_by_ends (entry_at c j) some) in let within =
      l.within in omega (arith, within)

  pub in_one_chain : (c : Content (IndexLink T)) (i : ℕ) → IsChained c
      → IsSome (ends_in c i) → IsInOneChain (ends_in c) i
  in_one_chain c i chained live =
      let e = ends_in c in
      let here = stands e chained.agreed (suc (length c.slots)) (bounded c) i live in
      record { stands = here; once = λ other. stands_once e i here other }

  pub in_chains : (c : Content (IndexLink T)) → IsChained c
      → (cs : List Chain) × AreChains (ends_in c) cs
  in_chains c chained =
      all_chains (ends_in c) chained.agreed (suc (length c.slots)) (bounded c)
