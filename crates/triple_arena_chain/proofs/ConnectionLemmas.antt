-- Links that are connected, parted, exchanged and taken out.
use Rattle.std.proofs.Common.{◌≡◌, ℕ, Option, Some, None, IsSome, option_map, refl, sym, ap, subst}
use Rattle.std.proofs.Common.{◌∙◌, inl, inr}
use Rattle.std.proofs.lemmas.Bool.Decides.{eqb_tells}
use Rattle.triple_arena.specs.Content.{Content, entry_at, IsWellFormed}
use Rattle.triple_arena_chain.specs.LinkShape.{IndexLink}
use Rattle.linked_lists.specs.LinkedLists.{Ends, with_next, with_next_if, with_prev_if, linked}
use Rattle.linked_lists.specs.LinkedLists.{unlinked, exchanged, IsAgreed, next_at, prev_at}
use Rattle.linked_lists.specs.LinkedLists.{next_in, prev_in}
use Rattle.triple_arena_chain.specs.declared.gap.Gap.{Gap}
use Rattle.triple_arena_chain.specs.Kinds.{at_bridge}
use Rattle.triple_arena_chain.specs.KindLaws.{found}
use Rattle.triple_arena_chain.specs.Links.{entry_ends, ends_in, ends_found, with_next_of}
use Rattle.triple_arena_chain.specs.Links.{with_prev_of, IsChained, IsRelinked}
use Rattle.triple_arena_chain.specs.LinkLaws.{ends-with_next_of, ends-with_prev_of}
use Rattle.triple_arena_chain.specs.LinkLaws.{values-with_next_of, values-with_prev_of}
use Rattle.triple_arena_chain.specs.LinkLaws.{kept-with_next_of, kept-with_prev_of, kept_on}
use Rattle.triple_arena_chain.specs.LinkLaws.{formed-with_next_of, formed-with_prev_of}
use Rattle.linked_lists.specs.AgreedLaws.{IsAgreed-linked, IsAgreed-unlinked, valid_next}
use Rattle.linked_lists.specs.AgreedLaws.{valid_prev}
use Rattle.linked_lists.specs.ExchangeLaws.{exchanged_is, exchanged_self, linked_twice}
use Rattle.linked_lists.specs.ExchangeLaws.{IsAgreed-exchanged}
use Rattle.linked_lists.specs.LinkedListLaws.{IsAgreed-same}
use Rattle.triple_arena_chain.proofs.InsertionLemmas.{with_next_if-same, with_prev_if-same}
use Rattle.triple_arena_chain.proofs.PassLemmas.{live_as}

-- an exchange of nexts keeps the two ways agreed, also of an index with itself
agreed-exchanged : (e : ℕ → Option Ends) (p q s t : ℕ) → next_at e p ≡ Some s → next_at e q ≡ Some t
    → IsAgreed e → IsAgreed (exchanged e p q s t)
agreed-exchanged e p q s t out_p out_q agreed =
    elim (eqb_tells p q) [
      | inl same ↦
          let both : Some s ≡ Some t = sym out_p ∙ ap (next_at e) same.1 ∙ out_q in
          let s_is : s ≡ t = cc in
          subst (λ x. IsAgreed (exchanged e p x s t)) same.1
          (subst (λ x. IsAgreed (exchanged e p p s x)) s_is
          (IsAgreed-same e (exchanged e p p s s) (exchanged_self e p s out_p agreed) agreed))
      | inr differs ↦
          IsAgreed-same (linked (linked (unlinked (unlinked e p s) q t) p t) q s)
          (exchanged e p q s t) (exchanged_is e p q s t)
          (IsAgreed-exchanged e p q s t differs.1 out_p out_q agreed)
    ]

-- the ends that were read, where there is a next
pub next_read : {I : Type 0} (number : I → ℕ) (o : Option Ends) (b n : Option I) (m : I)
    → Some (option_map number b, option_map number n) ≡ o
    → n ≡ Some m → o ≡ Some (option_map number b, Some (number m))
next_read number o b n m read is = sym read
    ∙ ap (λ x. Some (option_map number b, option_map number x)) is

-- the ends that were read, where there is a previous one
pub prev_read : {I : Type 0} (number : I → ℕ) (o : Option Ends) (b n : Option I) (m : I)
    → Some (option_map number b, option_map number n) ≡ o
    → b ≡ Some m → o ≡ Some (Some (number m), option_map number n)
prev_read number o b n m read is = sym read
    ∙ ap (λ x. Some (option_map number x, option_map number n)) is

module _ {T : Type 0} where
  live_ends : (c : Content (IndexLink T)) (k : ℕ) (v : Ends) → ends_in c k ≡ Some v
      → IsSome (entry_at c k)
  live_ends c k v is = by (entry_at c k) refl is
    where
      by : (o : Option (ℕ × IndexLink T)) → entry_at c k ≡ o
          → option_map entry_ends o ≡ Some v → IsSome (entry_at c k)
      by None at is = absurd (let no : None ≡ Some v = is in cc)
      by (Some e) at is = rw at refl

  -- what a link names is live
  pub live_next : (c : Content (IndexLink T)) (p n : ℕ) → IsChained c
      → next_at (ends_in c) p ≡ Some n → IsSome (entry_at c n)
  live_next c p n chained is =
      let v = valid_prev (ends_in c n) p (chained.agreed.forward p n is) in
      live_ends c n v.0 v.1

  pub live_prev : (c : Content (IndexLink T)) (p n : ℕ) → IsChained c
      → prev_at (ends_in c) p ≡ Some n → IsSome (entry_at c n)
  live_prev c p n chained is =
      let v = valid_next (ends_in c n) p (chained.agreed.backward n p is) in
      live_ends c n v.0 v.1

  -- these interlinks, which agree, and all else as it was
  pub record Relinked (wanted : ℕ → Option Ends) (c d : Content (IndexLink T)) : Type 0 where
    pub relinked : IsRelinked wanted c d
    pub chained : IsChained d

  -- a write of a next and one of a previous one
  pub both_written : (c d : Content (IndexLink T)) (b n a p : Option ℕ)
      → d ≡ with_prev_of (with_next_of c b n) a p
      → IsRelinked
      (with_prev_if (with_next_if (ends_in c) b n)
      a p) c d
  both_written c d b n a p is =
      let one = with_next_of c b n in
      rw is
      (record {
        ends = λ k.
            ends-with_prev_of one a p k
            ∙ with_prev_if-same (with_next_if (ends_in c) b
            n) (ends_in one) a
            p
            (ends-with_next_of c b n)
            k;
        values = λ k. values-with_prev_of one a p k ∙ values-with_next_of c b n k;
        kept = kept_on c one (with_prev_of one a p) (kept-with_next_of c b n)
            (kept-with_prev_of one a p);
      })

  pub both_formed : (c d : Content (IndexLink T)) (b n a p : Option ℕ)
      → d ≡ with_prev_of (with_next_of c b n) a p → IsWellFormed c
      → IsWellFormed d
  both_formed c d b n a p is formed =
      rw is (formed-with_prev_of (with_next_of c b n) a p
      (formed-with_next_of c b n formed))

  relinked_agreed : (wanted : ℕ → Option Ends) (c d : Content (IndexLink T))
      → IsRelinked wanted c d → IsWellFormed d → IsAgreed wanted
      → Relinked wanted c d
  relinked_agreed wanted c d relinked formed agreed =
      record {
        relinked = relinked;
        chained =
            record {
              formed = formed;
              agreed = IsAgreed-same wanted (ends_in d) relinked.ends agreed;
            };
      }

  pub linked_by : (c d : Content (IndexLink T)) (i j : ℕ) (v w : Ends) → IsChained c
      → ends_in c i ≡ Some v → v.1 ≡ None
      → ends_in c j ≡ Some w → w.0 ≡ None
      → d ≡ with_prev_of (with_next_of c (Some i) (Some j)) (Some j) (Some i)
      → Relinked (linked (ends_in c) i j) c d
  linked_by c d i j v w chained at_i end at_j start is =
      relinked_agreed (linked (ends_in c) i j) c d
      (both_written c d (Some i) (Some j) (Some j) (Some i) is)
      (both_formed c d (Some i) (Some j) (Some j) (Some i) is chained.formed)
      (IsAgreed-linked (ends_in c) i j v w at_i end at_j start
      chained.agreed)

  pub parted_by : (c d : Content (IndexLink T)) (i j : ℕ) → IsChained c
      → next_at (ends_in c) i ≡ Some j
      → d ≡ with_prev_of (with_next_of c (Some i) None) (Some j) None
      → Relinked (unlinked (ends_in c) i j) c d
  parted_by c d i j chained out is =
      let e = ends_in c in
      let v = valid_next (e i) j out in
      let w = valid_prev (e j) i
      (chained.agreed.forward i j out) in
      relinked_agreed (unlinked e i j) c d
      (both_written c d (Some i) None (Some j) None is)
      (both_formed c d (Some i) None (Some j) None is chained.formed)
      (IsAgreed-unlinked e i j v.0 w.0 v.1 (sym (ap next_in v.1) ∙ out) w.1
      chained.agreed)

  pub exchanged_by : (c d1 d2 : Content (IndexLink T)) (i j s t : ℕ) → IsChained c
      → next_at (ends_in c) i ≡ Some s
      → next_at (ends_in c) j ≡ Some t
      → d1 ≡ with_prev_of (with_next_of c (Some i) (Some t)) (Some t) (Some i)
      → d2 ≡ with_prev_of (with_next_of d1 (Some j) (Some s)) (Some s) (Some j)
      → Relinked (exchanged (ends_in c) i j s t) c d2
  exchanged_by c d1 d2 i j s t chained out_i out_j first second =
      let e = ends_in c in
      let one = both_written c d1 (Some i) (Some t) (Some t) (Some i) first in
      let two = both_written d1 d2 (Some j) (Some s) (Some s) (Some j) second in
      let half = linked e i t in
      relinked_agreed (exchanged e i j s t) c d2
      (record {
        ends = λ k.
            two.ends k
            ∙ with_prev_if-same (with_next half j (Some s))
            (with_next (ends_in d1) j (Some s)) (Some s)
            (Some j)
            (with_next_if-same half (ends_in d1) (Some j) (Some s)
            one.ends)
            k
            ∙ linked_twice e i j s t k;
        values = λ k. two.values k ∙ one.values k;
        kept = kept_on c d1 d2 one.kept two.kept;
      })
      (both_formed d1 d2 (Some j) (Some s) (Some s) (Some j) second
      (both_formed c d1 (Some i) (Some t) (Some t) (Some i) first chained.formed))
      (agreed-exchanged e i j s t out_i out_j chained.agreed)

  -- the same where the numbers are those of pointers
  pub connected : (c d : Content (IndexLink T)) (i j : ℕ) (p gp q gq : ℕ) (gap : Gap ℕ)
      → IsChained c → i ≡ p → j ≡ q
      → at_bridge p q (ends_found c p gp) (ends_found c q gq) ≡ Some gap
      → d ≡ with_prev_of (with_next_of c (Some i) (Some j)) (Some j) (Some i)
      → Relinked (linked (ends_in c) p q) c d
  connected c d i j p gp q gq gap chained is_p is_q bridge is =
      by (ends_found c p gp) (ends_found c q gq) refl refl bridge
    where
      by : (o o' : Option Ends) → ends_found c p gp ≡ o → ends_found c q gq ≡ o'
          → at_bridge p q o o' ≡ Some gap
          → Relinked (linked (ends_in c) p q) c d
      by None o' at at' h = absurd (let no : None ≡ Some gap = h in cc)
      by (Some v) None at at' h = absurd (let no : None ≡ Some gap = h in cc)
      by (Some v) (Some w) at at' h = by_ends v.1 w.0 refl refl h
        where
          by_ends : (n m : Option ℕ) → v.1 ≡ n → w.0 ≡ m
              → at_bridge p q (Some (v.0, n)) (Some (m, w.1)) ≡ Some gap
              → Relinked (linked (ends_in c) p q) c d
          by_ends None None end start h =
              let at_i : ends_in c i ≡ Some v = ap (ends_in c) is_p
              ∙ found c p gp v at in
              let at_j : ends_in c j ≡ Some w = ap (ends_in c) is_q
              ∙ found c q gq w at' in
              let done = linked_by c d i j v w chained at_i end at_j start is in
              subst (λ n. Relinked (linked (ends_in c) p n) c d) is_q
              (subst (λ n. Relinked (linked (ends_in c) n j) c d) is_p done)
          by_ends None (Some m) end start h = absurd (let no : None ≡ Some gap = h in cc)
          by_ends (Some n) m end start h = absurd (let no : None ≡ Some gap = h in cc)

  -- the next of what a pointer finds
  pub next_found : (c : Content (IndexLink T)) (p gp n : ℕ) (b : Option ℕ)
      → ends_found c p gp ≡ Some (b, Some n)
      → next_at (ends_in c) p ≡ Some n
  next_found c p gp n b is = ap next_in (found c p gp (b, Some n) is)

  pub prev_found : (c : Content (IndexLink T)) (p gp n : ℕ) (a : Option ℕ)
      → ends_found c p gp ≡ Some (Some n, a)
      → prev_at (ends_in c) p ≡ Some n
  prev_found c p gp n a is = ap prev_in (found c p gp (Some n, a) is)

  -- what the interlinks of a pointer's link name is live
  pub next_live : (c : Content (IndexLink T)) (p gp n : ℕ) (b : Option ℕ) → IsChained c
      → ends_found c p gp ≡ Some (b, Some n)
      → IsSome (entry_at c n)
  next_live c p gp n b chained is = live_next c p n chained (next_found c p gp n b is)

  pub prev_live : (c : Content (IndexLink T)) (p gp n : ℕ) (a : Option ℕ) → IsChained c
      → ends_found c p gp ≡ Some (Some n, a)
      → IsSome (entry_at c n)
  prev_live c p gp n a chained is = live_prev c p n chained (prev_found c p gp n a is)

  -- what a pointer finds is live
  pub found_live : (c : Content (IndexLink T)) (i : ℕ) (p gp : ℕ) (v : Ends) → i ≡ p
      → ends_found c p gp ≡ Some v
      → IsSome (entry_at c i)
  found_live c i p gp v is_p is =
      subst (λ n. IsSome (entry_at c n)) (sym is_p) (live_ends c p v (found c p gp v is))

  pub parted_next : (c d : Content (IndexLink T)) (i j : ℕ) (p gp : ℕ) (b : Option ℕ)
      → IsChained c → i ≡ p
      → ends_found c p gp ≡ Some (b, Some j)
      → d ≡ with_prev_of (with_next_of c (Some i) None) (Some j) None
      → (q : ℕ) → next_at (ends_in c) p ≡ Some q
      → Relinked (unlinked (ends_in c) p q) c d
  parted_next c d i j p gp b chained is_p is made q next =
      let out = next_found c p gp j b is in
      let both : Some j ≡ Some q = sym out ∙ next in
      let same : j ≡ q = cc in
      subst (λ n. Relinked (unlinked (ends_in c) p n) c d) same
      (subst (λ n. Relinked (unlinked (ends_in c) n j) c d) is_p
      (parted_by c d i j chained (ap (next_at (ends_in c)) is_p ∙ out) made))

  pub parted_prev : (c d : Content (IndexLink T)) (i j : ℕ) (p gp : ℕ) (a : Option ℕ)
      → IsChained c → j ≡ p
      → ends_found c p gp ≡ Some (Some i, a)
      → d ≡ with_prev_of (with_next_of c (Some i) None) (Some j) None
      → (q : ℕ) → prev_at (ends_in c) p ≡ Some q
      → Relinked (unlinked (ends_in c) q p) c d
  parted_prev c d i j p gp a chained is_p is made q prev =
      let into = prev_found c p gp i a is in
      let both : Some i ≡ Some q = sym into ∙ prev in
      let same : i ≡ q = cc in
      let out = chained.agreed.backward i j
      (ap (prev_at (ends_in c)) is_p ∙ into) in
      subst (λ n. Relinked (unlinked (ends_in c) n p) c d) same
      (subst (λ n. Relinked (unlinked (ends_in c) i n) c d) is_p
      (parted_by c d i j chained out made))

  -- what is live stays live where both are written
  pub live_written : (c d : Content (IndexLink T)) (b n a p : Option ℕ) (k : ℕ)
      → d ≡ with_prev_of (with_next_of c b n) a p
      → IsSome (entry_at c k) → IsSome (entry_at d k)
  live_written c d b n a p k is some = live_as c d (both_written c d b n a p is).values k ∙ some

  pub exchanged_at : (c d1 d2 : Content (IndexLink T)) (i j s t : ℕ) (p gp q gq : ℕ)
      (b b' : Option ℕ) → IsChained c → i ≡ p
      → j ≡ q → ends_found c p gp ≡ Some (b, Some s)
      → ends_found c q gq ≡ Some (b', Some t)
      → d1 ≡ with_prev_of (with_next_of c (Some i) (Some t)) (Some t) (Some i)
      → d2 ≡ with_prev_of (with_next_of d1 (Some j) (Some s)) (Some s) (Some j)
      → (m n : ℕ) → next_at (ends_in c) p ≡ Some m
      → next_at (ends_in c) q ≡ Some n → Relinked (exchanged (ends_in c) p q m n) c d2
  exchanged_at c d1 d2 i j s t p gp q gq b b' chained is_p is_q at_p at_q first second m n next_p
      next_q =
      let out_p = next_found c p gp s b at_p in
      let out_q = next_found c q gq t b' at_q in
      let both_p : Some s ≡ Some m = sym out_p ∙ next_p in
      let both_q : Some t ≡ Some n = sym out_q ∙ next_q in
      let m_is : s ≡ m = cc in
      let n_is : t ≡ n = cc in
      let e = ends_in c in
      let done = exchanged_by c d1 d2 i j s t chained (ap (next_at e) is_p ∙ out_p)
      (ap (next_at e) is_q ∙ out_q) first second in
      subst (λ x. Relinked (exchanged e p q m x) c d2) n_is
      (subst (λ x. Relinked (exchanged e p q x t) c d2) m_is
      (subst (λ x. Relinked (exchanged e p x s t) c d2) is_q
      (subst (λ x. Relinked (exchanged e x j s t) c d2) is_p done)))
