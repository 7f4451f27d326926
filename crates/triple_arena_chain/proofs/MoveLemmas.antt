-- A link that is taken out from between its neighbors, and then joined at a gap.
use Rattle.std.proofs.Common.{◌≡◌, ◌≢◌, ℕ, Option, Some, None, IsSome, IfSome, option_map}
use Rattle.std.proofs.Common.{◌⊎◌, refl, sym, ap, subst, ◌∙◌, inl, inr}
use Rattle.std.proofs.lemmas.Bool.{eq-eqb, ne_eqb}
use Rattle.std.proofs.lemmas.Bool.Decides.{eqb_tells}
use Rattle.triple_arena.specs.Content.{Content, entry_at}
use Rattle.triple_arena_chain.specs.LinkShape.{IndexLink}
use Rattle.linked_lists.specs.LinkedLists.{Ends, added, bridged, dropped, taken_from, taken_out}
use Rattle.linked_lists.specs.LinkedLists.{put_between, next_in, prev_in, next_at, prev_at}
use Rattle.linked_lists.specs.LinkedLists.{IsAgreed, IsBetween}
use Rattle.triple_arena_chain.specs.declared.gap.Gap.TheVariants.{Between}
use Rattle.triple_arena_chain.specs.Links.{entry_ends, ends_in, with_next_of, with_prev_of}
use Rattle.triple_arena_chain.specs.Links.{bridged_over, joined_to, IsChained}
use Rattle.triple_arena_chain.specs.LinkLaws.{kept_on}
use Rattle.linked_lists.specs.LinkedListLaws.{IsAgreed-same}
use Rattle.linked_lists.specs.TakenLaws.{is_taken}
use Rattle.triple_arena_chain.specs.Moves.{gap_after, gap_before, IsMoved}
use Rattle.triple_arena_chain.proofs.ConnectionLemmas.{both_written, both_formed, live_written}
use Rattle.linked_lists.specs.GapLaws.{IsAgreed-put_between}
use Rattle.triple_arena_chain.proofs.InsertionLemmas.{ends-joined, values-joined, kept-joined}
use Rattle.triple_arena_chain.proofs.InsertionLemmas.{formed-joined}
use Rattle.triple_arena_chain.proofs.KindLemmas.{gap_after as is_gap_after}
use Rattle.triple_arena_chain.proofs.KindLemmas.{gap_before as is_gap_before}
use Rattle.linked_lists.specs.PutInLaws.{is_put_in}
use Rattle.triple_arena_chain.proofs.RemovalLemmas.{entry-bridged}
use Rattle.linked_lists.specs.TakeOutLaws.{IsAgreed-taken}

module _ {T : Type 0} where
  -- what was live is so after a write of a next and one of a previous one
  pub still_live : (c d : Content (IndexLink T)) (b n a p : Option ℕ)
      → d ≡ with_prev_of (with_next_of c b n) a p
      → (o : Option ℕ) → IfSome o (λ i. IsSome (entry_at c i))
      → IfSome o (λ i. IsSome (entry_at d i))
  still_live c d b n a p is None live = tt
  still_live c d b n a p is (Some i) live = live_written c d b n a p i is live

  live_ends : (c : Content (IndexLink T)) (k : ℕ) → IsSome (entry_at c k)
      → (v : Ends) × (ends_in c k ≡ Some v)
  live_ends c k live = by (entry_at c k) refl live
    where
      by : (o : Option (ℕ × IndexLink T)) → entry_at c k ≡ o → IsSome o
          → (v : Ends) × (ends_in c k ≡ Some v)
      by None at some = absurd (cc)
      by (Some e) at some = (entry_ends e, ap (option_map entry_ends) at)

  module _ (c d : Content (IndexLink T)) (n g : ℕ) (l : IndexLink T)
      (chained : IsChained c) (at : entry_at c n ≡ Some (g, l))
      (over : d ≡ bridged_over c l) where
    own : ends_in c n ≡ Some (l.prev, l.next)
    own = ap (option_map entry_ends) at

    out_is : (k : ℕ) → taken_out (ends_in c) n k
        ≡ dropped (bridged (ends_in c) l.prev
        l.next) n k
    out_is k = ap (λ o. taken_from (ends_in c) n o k) own

    -- once it is taken out the others are as its neighbors are joined
    others : (k : ℕ) → k ≢ n → taken_out (ends_in c) n k ≡ ends_in d k
    others k differs =
        out_is k
        ∙ rw (ne_eqb k n differs)
        (sym ((both_written c d l.prev l.next l.next l.prev over).ends k))

    agreed_out : IsAgreed (taken_out (ends_in c) n)
    agreed_out =
        IsAgreed-same
        (dropped (bridged (ends_in c) l.prev
        l.next) n) (taken_out (ends_in c) n) out_is
        (IsAgreed-taken (ends_in c) n l.prev
        l.next own chained.agreed)

    vacant : taken_out (ends_in c) n n ≡ None
    vacant = out_is n ∙ rw (eq-eqb n n refl) refl

    -- a link that stays, with the interlinks that it has then
    pub stays : (k : ℕ) → k ≢ n → IsSome (entry_at d k)
        → (v : Ends) × (taken_out (ends_in c) n k ≡ Some v)
    stays k differs live =
        let found = live_ends d k live in (found.0, others k differs ∙ found.1)

    -- the place behind another link is a gap
    pub behind : (k : ℕ) (next : Option ℕ) → k ≢ n → IsSome (entry_at d k)
        → next ≡ next_at (ends_in d) k
        → (IsBetween (taken_out (ends_in c) n) (Some k, next))
        × (Some k, next) ≡ gap_after c n k
    behind k next differs live read =
        let found = stays k differs live in
        let is : next ≡ next_at (taken_out (ends_in c) n) k =
        read ∙ ap next_in (sym (others k differs)) in
        let next_is : found.0.1 ≡ next = sym (is ∙ ap next_in found.1) in (
          subst (λ o. IsBetween (taken_out (ends_in c) n) (Some k, o)) next_is
              (is_gap_after (taken_out (ends_in c) n) agreed_out k found.0 found.1),
          ap (λ o. (Some k, o)) is,
        )

    -- and the one before it
    pub before : (k : ℕ) (prev : Option ℕ) → k ≢ n → IsSome (entry_at d k)
        → prev ≡ prev_at (ends_in d) k
        → (IsBetween (taken_out (ends_in c) n) (prev, Some k))
        × (prev, Some k) ≡ gap_before c n k
    before k prev differs live read =
        let found = stays k differs live in
        let is : prev ≡ prev_at (taken_out (ends_in c) n) k =
        read ∙ ap prev_in (sym (others k differs)) in
        let prev_is : found.0.0 ≡ prev = sym (is ∙ ap prev_in found.1) in (
          subst (λ o. IsBetween (taken_out (ends_in c) n) (o, Some k)) prev_is
              (is_gap_before (taken_out (ends_in c) n) agreed_out k found.0 found.1),
          ap (λ o. (o, Some k)) is,
        )

    -- what a gap names is live
    gap_live : (gap : Ends) → IsBetween (taken_out (ends_in c) n) gap → (o : Option ℕ)
        → (gap.0 ≡ o) ⊎ (gap.1 ≡ o)
        → IfSome o (λ i. IsSome (entry_at d i))
    gap_live gap between None names = tt
    gap_live gap between (Some i) names =
        elim names [
          | inl first ↦ live_at i (between.before i first).0
          | inr second ↦ live_at i (between.after i second).0
        ]
      where
        live_at : (k : ℕ) → IsSome (taken_out (ends_in c) n k) → IsSome (entry_at d k)
        live_at k some =
            elim (eqb_tells k n) [
              | inl same ↦
                  let none : taken_out (ends_in c) n k ≡ None =
                  ap (taken_out (ends_in c) n) same.1 ∙ vacant in
                  absurd (let no : IsSome (let o : Option Ends = None in o) =
                  subst IsSome none some in cc)
              | inr differs ↦ by (entry_at d k) refl (subst IsSome (others k differs.1) some)
            ]
          where
            by : (o : Option (ℕ × IndexLink T)) → entry_at d k ≡ o
                → IsSome (option_map entry_ends o) → IsSome (entry_at d k)
            by None at some = absurd (cc)
            by (Some e) at some = rw at refl

    pub behind_live : (k : ℕ) (next : Option ℕ) → k ≢ n → IsSome (entry_at d k)
        → next ≡ next_at (ends_in d) k → IfSome next (λ i. IsSome (entry_at d i))
    behind_live k next differs live read =
        gap_live (Some k, next) (behind k next differs live read).0 next (inr refl)

    pub before_live : (k : ℕ) (prev : Option ℕ) → k ≢ n → IsSome (entry_at d k)
        → prev ≡ prev_at (ends_in d) k → IfSome prev (λ i. IsSome (entry_at d i))
    before_live k prev differs live read =
        gap_live (prev, Some k) (before k prev differs live read).0 prev (inl refl)

  pub record Moved (n : ℕ) (gap : Ends) (c new : Content (IndexLink T)) : Type 0 where
    pub moved : IsMoved n gap c new
    pub chained : IsChained new

  pub moved_to : (c d own_set new : Content (IndexLink T)) (i : ℕ) (prev next : Option ℕ) (g : ℕ)
      (l : IndexLink T) → IsChained c → entry_at c i ≡ Some (g, l)
      → d ≡ bridged_over c l
      → own_set ≡ with_prev_of (with_next_of d (Some i) next) (Some i) prev
      → new ≡ joined_to own_set (Between prev next) i
      → IsBetween (taken_out (ends_in c) i)
      (prev, next)
      → Moved i (prev, next) c new
  moved_to c d own_set new i prev next g l chained at over own_is is between =
      let n = i in
      let e = ends_in c in
      let out = taken_out e n in
      let gap : Ends = (prev, next) in
      let bridged_by = both_written c d l.prev l.next l.next l.prev over in
      let own_by = both_written d own_set (Some i) next (Some i) prev own_is in
      let own_ends : (k : ℕ) → ends_in own_set k ≡ added out n gap k =
      λ k.
      own_by.ends k
      ∙ elim (eqb_tells k n) [
        | inl same ↦
            let there : ends_in d k
            ≡ Some (l.prev, l.next) =
            ap (ends_in d) same.1
            ∙ ap (λ x. option_map entry_ends (entry_at x n)) over
            ∙ ap (option_map entry_ends) (entry-bridged c n g l at) in
            rw (same.0, there) refl
        | inr differs ↦ rw differs.0 (sym (others c d n g l chained at over k differs.1))
      ] in
      let joined = joined_to own_set (Between prev next) i in
      let ends = ends-joined out own_set (Between prev next) i l.t own_ends in
      let vacant_out = vacant c d n g l chained at over in
      let agreed = IsAgreed-same (put_between out n gap) (ends_in joined) ends
      (IsAgreed-put_between out n gap vacant_out between (agreed_out c d n g l chained at over)) in
      let kept = kept-joined own_set (Between prev next) i in
      rw is
      (record {
        moved = record {
          taken =
              is_taken e chained.agreed n l.prev l.next
              (own c d n g l chained at over) out (λ k. refl);
          put = is_put_in out (ends_in joined) n gap agreed vacant_out between ends;
          relinked = record {
            ends = ends;
            values = λ k.
                values-joined own_set (Between prev next) i k
                ∙ own_by.values k
                ∙ bridged_by.values k;
            kept = kept_on c own_set joined (kept_on c d own_set bridged_by.kept own_by.kept) kept;
          };
        };
        chained = record {
          formed =
              formed-joined own_set (Between prev next) i
              (both_formed d own_set (Some i) next (Some i) prev own_is
              (both_formed c d l.prev l.next l.next l.prev over chained.formed));
          agreed = agreed;
        };
      })

  -- the entry at a live index
  entry_there : (c : Content (IndexLink T)) (k : ℕ) → IsSome (entry_at c k)
      → (e : ℕ × IndexLink T) × (entry_at c k ≡ Some e)
  entry_there c k live = by (entry_at c k) refl live
    where
      by : (o : Option (ℕ × IndexLink T)) → entry_at c k ≡ o → IsSome o
          → (e : ℕ × IndexLink T) × (entry_at c k ≡ Some e)
      by None at some = absurd (cc)
      by (Some e) at some = (e, at)

  -- once the neighbors of a link are joined over it
  pub record Opened (c d : Content (IndexLink T)) (n k : ℕ) : Type 0 where
    pub entry : ℕ × IndexLink T
    pub at : entry_at c n ≡ Some entry
    pub over : d ≡ bridged_over c entry.1
    pub own : IsSome (entry_at d n)
    pub live : IsSome (entry_at d k)

  pub opened : (a c d : Content (IndexLink T)) (n k : ℕ) → a ≡ c → IsSome (entry_at c n)
      → IsSome (entry_at c k)
      → ((e : ℕ × IndexLink T) → entry_at a n ≡ Some e → d ≡ bridged_over a e.1)
      → Opened c d n k
  opened a c d n k same live_n live_k joined =
      let e = entry_there c n live_n in
      let over = subst (λ x. (e : ℕ × IndexLink T) → entry_at x n ≡ Some e
      → d ≡ bridged_over x e.1) same joined e.0 e.1 in
      let l = e.0.1 in
      record {
        entry = e.0;
        at = e.1;
        over = over;
        own = live_written c d l.prev l.next l.next l.prev n over live_n;
        live = live_written c d l.prev l.next l.next l.prev k over live_k;
      }

  pub moved_behind : (c d new : Content (IndexLink T)) (i j : ℕ) (a b : ℕ) (next : Option ℕ)
      (e : ℕ × IndexLink T) → IsChained c → i ≡ a → j ≡ b → a ≢ b
      → entry_at c i ≡ Some e → d ≡ bridged_over c e.1
      → IsSome (entry_at d j)
      → next ≡ next_at (ends_in d) j
      → new ≡ joined_to (with_prev_of (with_next_of d (Some i) next) (Some i)
      (Some j)) (Between (Some j) next) i
      → Moved a (gap_after c a b) c new
  moved_behind c d new i j a b next e chained i_is j_is differ at over live read is =
      let apart : j ≢ i = λ same. differ (sym i_is ∙ sym same ∙ j_is) in
      let gap = behind c d i e.0 e.1 chained at over j next apart live read in
      subst (λ x. Moved x (gap_after c x b) c new) i_is
      (subst (λ y. Moved i (gap_after c i y) c new) j_is
      (subst (λ it. Moved i it c new) gap.1
      (moved_to c d (with_prev_of (with_next_of d (Some i) next) (Some i) (Some j))
      new i (Some j) next e.0 e.1 chained at over refl is gap.0)))

  pub moved_before : (c d new : Content (IndexLink T)) (i j : ℕ) (a b : ℕ) (prev : Option ℕ)
      (e : ℕ × IndexLink T) → IsChained c → i ≡ a → j ≡ b → a ≢ b
      → entry_at c i ≡ Some e → d ≡ bridged_over c e.1
      → IsSome (entry_at d j)
      → prev ≡ prev_at (ends_in d) j
      → new ≡ joined_to (with_prev_of (with_next_of d (Some i) (Some j))
      (Some i) prev) (Between prev (Some j)) i
      → Moved a (gap_before c a b) c new
  moved_before c d new i j a b prev e chained i_is j_is differ at over live read is =
      let apart : j ≢ i = λ same. differ (sym i_is ∙ sym same ∙ j_is) in
      let gap = before c d i e.0 e.1 chained at over j prev apart live read in
      subst (λ x. Moved x (gap_before c x b) c new) i_is
      (subst (λ y. Moved i (gap_before c i y) c new) j_is
      (subst (λ it. Moved i it c new) gap.1
      (moved_to c d (with_prev_of (with_next_of d (Some i) (Some j)) (Some i) prev)
      new i prev (Some j) e.0 e.1 chained at over refl is gap.0)))
