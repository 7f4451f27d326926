-- One more link at the gap that a kind asks for.
use Rattle.std.proofs.Common.{◌≡◌, ◌≢◌, ℕ, ◌<◌, Option, Some, None, option_map, refl, sym, ap, ◌∙◌}
use Rattle.std.proofs.Common.{inl, inr}
use Rattle.std.proofs.lemmas.Bool.{eq-eqb, ne_eqb}
use Rattle.std.proofs.lemmas.Bool.Decides.{eqb_tells}
use Rattle.triple_arena.specs.Entries.{with_entry}
use Rattle.triple_arena.specs.Content.{Content, entry_at, live_count, next_index, arena_capacity}
use Rattle.triple_arena.specs.Content.{inserted, IsWellFormed}
use Rattle.triple_arena.specs.InsertionLaws.{next-vacant, entry-inserted, live-inserted}
use Rattle.triple_arena.specs.InsertionLaws.{room-inserted, counter-inserted, free-inserted}
use Rattle.triple_arena.specs.InsertionLaws.{slots-inserted, formed-inserted}
use Rattle.triple_arena_chain.specs.LinkShape.{IndexLink}
use Rattle.triple_arena_chain.specs.declared.gap.Gap.{Gap}
use Rattle.triple_arena_chain.specs.declared.gap.Gap.TheVariants.{Between, OwnRing}
use Rattle.linked_lists.specs.LinkedLists.{Ends, with_next_if, with_prev_if, added}
use Rattle.linked_lists.specs.LinkedLists.{IsAgreed, next_at, prev_at, next_in, prev_in}
use Rattle.triple_arena_chain.specs.Links.{valued, values_in, entry_ends, ends_in, link_ends}
use Rattle.triple_arena_chain.specs.Links.{link_for, joined_to, with_next_of, IsKept, IsChained}
use Rattle.triple_arena_chain.specs.Links.{IsLinkInserted}
use Rattle.triple_arena_chain.specs.LinkLaws.{ends-with_next_of, ends-with_prev_of}
use Rattle.triple_arena_chain.specs.LinkLaws.{values-with_next_of, values-with_prev_of}
use Rattle.triple_arena_chain.specs.LinkLaws.{kept-with_next_of, kept-with_prev_of, kept_on}
use Rattle.triple_arena_chain.specs.LinkLaws.{formed-with_next_of, formed-with_prev_of}
use Rattle.linked_lists.specs.LinkedListLaws.{IsAgreed-same}
use Rattle.triple_arena_chain.specs.Gaps.{IsGap, put_in, IsPutAt}
use Rattle.linked_lists.specs.GapLaws.{IsAgreed-put_between}
use Rattle.linked_lists.specs.PutInLaws.{is_put_in, is_own_ring}

pub with_next_if-same : (e f : ℕ → Option Ends) (o n : Option ℕ) → ((j : ℕ) → f j ≡ e j) → (i : ℕ)
    → with_next_if f o n i ≡ with_next_if e o n i
with_next_if-same e f None n same i = same i
with_next_if-same e f (Some q) n same i = rw (same i) refl

pub with_prev_if-same : (e f : ℕ → Option Ends) (o n : Option ℕ) → ((j : ℕ) → f j ≡ e j) → (i : ℕ)
    → with_prev_if f o n i ≡ with_prev_if e o n i
with_prev_if-same e f None n same i = same i
with_prev_if-same e f (Some q) n same i = rw (same i) refl

-- one more index in a ring of its own keeps the two ways agreed
IsAgreed-ring : (e : ℕ → Option Ends) (n : ℕ) → e n ≡ None → IsAgreed e
    → IsAgreed (added e n (Some n, Some n))
IsAgreed-ring e n vacant agreed =
    record {
      forward =
          λ x y h.
          elim (eqb_tells x n) [
            | inl same ↦
                let is : Some n ≡ Some y = rw same.0 at h in
                let y_is : y ≡ n = cc in
                rw (y_is, same.1, eq-eqb n n refl) refl
            | inr differs ↦
                let out : next_at e x ≡ Some y = rw differs.0 at h in
                let back = agreed.forward x y out in
                let not_n : y ≢ n = λ same.
                let none : prev_at e y ≡ None = ap prev_in (ap e same ∙ vacant) in
                let no : None ≡ Some x = sym none ∙ back in absurd (cc) in
                rw (ne_eqb y n not_n) back
          ];
      backward =
          λ x y h.
          elim (eqb_tells y n) [
            | inl same ↦
                let is : Some n ≡ Some x = rw same.0 at h in
                let x_is : x ≡ n = cc in
                rw (x_is, same.1, eq-eqb n n refl) refl
            | inr differs ↦
                let into : prev_at e y ≡ Some x = rw differs.0 at h in
                let out = agreed.backward x y into in
                let not_n : x ≢ n = λ same.
                let none : next_at e x ≡ None = ap next_in (ap e same ∙ vacant) in
                let no : None ≡ Some y = sym none ∙ out in absurd (cc) in
                rw (ne_eqb x n not_n) out
          ];
    }

pub IsAgreed-put_in : (e : ℕ → Option Ends) (n : ℕ) (gap : Gap ℕ) → e n ≡ None → IsGap e gap
    → IsAgreed e → IsAgreed (put_in e n gap)
IsAgreed-put_in e n (Between before after) vacant gap agreed =
    IsAgreed-put_between e n (before, after) vacant gap agreed
IsAgreed-put_in e n OwnRing vacant gap agreed = IsAgreed-ring e n vacant agreed

-- what it makes of the chains
put_at : (e e' : ℕ → Option Ends) (n : ℕ) (gap : Gap ℕ) → e n ≡ None → IsGap e gap
    → IsAgreed e → ((k : ℕ) → e' k ≡ put_in e n gap k)
    → IsPutAt gap n e e'
put_at e e' n (Between before after) vacant is agreed same =
    let gap : Gap ℕ = Between before after in
    is_put_in e e' n (before, after)
    (IsAgreed-same (put_in e n gap) e' same (IsAgreed-put_in e n gap vacant is agreed))
    vacant is same
put_at e e' n OwnRing vacant is agreed same = is_own_ring e e' n vacant same

module _ {T : Type 0} where
  -- what the neighbors are after they name one more
  pub ends-joined : (e : ℕ → Option Ends) (d : Content (IndexLink T)) (gap : Gap ℕ) (i : ℕ)
      (t : T) → ((k : ℕ) → ends_in d k
      ≡ added e i (link_ends (link_for gap i t)) k)
      → (k : ℕ) → ends_in (joined_to d gap i) k
      ≡ put_in e i gap k
  ends-joined e d (Between before after) i t ends k =
      let one = with_next_of d before (Some i) in
      let old = added e i (before, after) in
      ends-with_prev_of one after (Some i) k
      ∙ with_prev_if-same (with_next_if old before (Some i))
      (ends_in one) after (Some i)
      (λ j. ends-with_next_of d before (Some i) j
      ∙ with_next_if-same old (ends_in d) before (Some i) ends
      j)
      k
  ends-joined e d OwnRing i t ends k = ends k

  pub values-joined : (d : Content (IndexLink T)) (gap : Gap ℕ) (i : ℕ) (k : ℕ)
      → values_in (joined_to d gap i) k ≡ values_in d k
  values-joined d (Between before after) i k =
      values-with_prev_of (with_next_of d before (Some i)) after (Some i) k
      ∙ values-with_next_of d before (Some i) k
  values-joined d OwnRing i k = refl

  pub kept-joined : (d : Content (IndexLink T)) (gap : Gap ℕ) (i : ℕ)
      → IsKept d (joined_to d gap i)
  kept-joined d (Between before after) i =
      kept_on d (with_next_of d before (Some i))
      (joined_to d (Between before after) i) (kept-with_next_of d before (Some i))
      (kept-with_prev_of (with_next_of d before (Some i)) after (Some i))
  kept-joined d OwnRing i =
      record { live = refl; slots = refl; free = refl; counter = refl; room = refl }

  pub formed-joined : (d : Content (IndexLink T)) (gap : Gap ℕ) (i : ℕ) → IsWellFormed d
      → IsWellFormed (joined_to d gap i)
  formed-joined d (Between before after) i formed =
      formed-with_prev_of (with_next_of d before (Some i)) after (Some i)
      (formed-with_next_of d before (Some i) formed)
  formed-joined d OwnRing i formed = formed

  link_for-value : (gap : Gap ℕ) (i : ℕ) (t : T) → (link_for gap i t).t ≡ t
  link_for-value (Between before after) i t = refl
  link_for-value OwnRing i t = refl

  pub record Inserted (c new : Content (IndexLink T)) (gap : Gap ℕ) (n g : ℕ) (t : T) : Type 0
    where
      pub inserted : IsLinkInserted gap n g t c new
      pub chained : IsChained new
      pub room : new.room ≡ c.room

  -- an insertion of the link for a gap, whose neighbors name it then
  pub inserted_in : (c new : Content (IndexLink T)) (gap : Gap ℕ) (i : ℕ) (t : T)
      → IsChained c
      → live_count c < arena_capacity c → IsGap (ends_in c) gap
      → i ≡ next_index c
      → new ≡ joined_to (inserted c (link_for gap i t)) gap i
      → Inserted c new gap i c.counter t
  inserted_in c new gap i t chained fits there index is =
      let link = link_for gap i t in
      let d = inserted c link in
      let n = i in
      let formed = chained.formed in
      let vacant : entry_at c n ≡ None = ap (entry_at c) index ∙ next-vacant c formed in
      let entries : (j : ℕ) → entry_at d j ≡ with_entry (entry_at c) n (c.counter, link) j =
      λ j. entry-inserted c link formed j
      ∙ ap (λ m. with_entry (entry_at c) m (c.counter, link) j) (sym index) in
      let added_ends : (k : ℕ)
      → ends_in d k ≡ added (ends_in c) n (link_ends link) k =
      λ k. ap (option_map entry_ends) (entries k)
      ∙ elim (eqb_tells k n) [
        | inl same ↦ rw same.0 refl
        | inr differs ↦ rw differs.0 refl
      ] in
      let ends = ends-joined (ends_in c) d gap i t added_ends in
      let kept = kept-joined d gap i in
      rw is
      (record {
        inserted = record {
          index = index;
          generation = refl;
          vacant = vacant;
          ends = ends;
          lists = put_at (ends_in c) (ends_in (joined_to d gap i)) n
              gap
              (ap (option_map entry_ends) vacant) there chained.agreed ends;
          values = λ k.
              values-joined d gap i k
              ∙ ap (option_map valued) (entries k)
              ∙ elim (eqb_tells k n) [
                | inl same ↦ rw same.0 (ap (λ u. Some (c.counter, u)) (link_for-value gap i t))
                | inr differs ↦ rw differs.0 refl
              ];
          live = kept.live ∙ live-inserted c link formed;
          counter = kept.counter ∙ counter-inserted c link;
          free = kept.free ∙ free-inserted c link;
          slots = kept.slots ∙ slots-inserted c link formed;
        };
        chained = record {
          formed = formed-joined d gap i (formed-inserted c link formed fits);
          agreed =
              IsAgreed-same (put_in (ends_in c) n gap)
              (ends_in (joined_to d gap i)) ends
              (IsAgreed-put_in (ends_in c) n gap
              (ap (option_map entry_ends) vacant) there chained.agreed);
        };
        room = kept.room ∙ room-inserted c link;
      })
