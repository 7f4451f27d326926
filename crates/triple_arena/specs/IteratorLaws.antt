-- How a search over the entries of an arena goes on and ends. The entries are those that `iter`
-- gives; of a direct arena, take its slots and room `as_content`.
use Rattle.std.proofs.Common.{◌≡◌, ℕ, zero, suc, ◌+◌, ◌-◌, ◌<◌, ◌≤◌, List, [], ◌∷◌, ◌++◌, get_or}
use Rattle.std.proofs.Common.{append_assoc, append-nil, Bool, true, false, Option, Some, None}
use Rattle.std.proofs.Common.{sym, ap, subst, ◌∙◌, arith}
use Rattle.triple_arena.specs.Content.{Content, entry_at}
use Rattle.triple_arena.specs.Iterators.{IsFirstToPass, SearchFinds, EachFails, HasPassed}
use Rattle.triple_arena.specs.LiveEntries.{listed_from, live_entries}

module _ {T : Type 0} (answers : T → Bool → Type 0) where
  one_more_fails : (passed : List (ℕ × (ℕ × T))) (entry : ℕ × (ℕ × T)) → EachFails answers passed
      → answers entry.1.1 false
      → EachFails answers (passed ++ entry ∷ [])
  one_more_fails [] entry failed fails = (fails, tt)
  one_more_fails (first ∷ passed) entry failed fails
      = (failed.0, one_more_fails passed entry failed.1 fails)

  -- it passes an entry whose value fails the test
  pub search_passes : (all left rest : List (ℕ × (ℕ × T))) (entry : ℕ × (ℕ × T))
      → HasPassed answers all left → left ≡ entry ∷ rest
      → answers entry.1.1 false → HasPassed answers all rest
  search_passes all left rest entry h next fails =
      record {
        passed = h.passed ++ entry ∷ [];
        split = h.split ∙ ap (λ l. h.passed ++ l) next ∙ sym
            (append_assoc h.passed (entry ∷ []) rest);
        failed = one_more_fails h.passed entry h.failed fails;
      }

  -- among slots that have the indexes from this one on: the entry behind those that fail, and those
  -- before it
  record IsFirstToAnswer (n : ℕ) (xs : List (Option (ℕ × T))) (i g : ℕ) (t : T) : Type 0 where
    pub from : n ≤ i
    pub read : get_or xs (i - n) None ≡ Some (g, t)
    pub before : (k h : ℕ) (u : T) → n + k < i → get_or xs k None ≡ Some (h, u) → answers u false

  stands : (n : ℕ) (xs : List (Option (ℕ × T))) (passed rest : List (ℕ × (ℕ × T))) (i g : ℕ) (t : T)
      → listed_from n xs ≡ passed ++ (i, (g, t)) ∷ rest → EachFails answers passed
      → IsFirstToAnswer n xs i g t
  stands n [] [] rest i g t split failed = absurd (cc)
  stands n [] (p ∷ passed) rest i g t split failed = absurd (cc)
  stands n (None ∷ xs) passed rest i g t split failed =
      let behind = stands (n + 1) xs passed rest i g t split failed in
      let from = behind.from in
      let place : i - n ≡ suc (i - (n + 1)) = omega (arith, from) in
      record {
        from = omega (arith, from);
        read = ap (λ k. get_or (None ∷ xs) k None) place ∙ behind.read;
        before = earlier behind;
      }
    where
      earlier : IsFirstToAnswer (n + 1) xs i g t → (k h : ℕ) (u : T) → n + k < i
          → get_or (None ∷ xs) k None ≡ Some (h, u) → answers u false
      earlier behind zero h u below read = absurd (cc)
      earlier behind (suc k) h u below read = behind.before k h u (omega (arith, below)) read
  stands n (Some e ∷ xs) [] rest i g t split failed =
      let first : (n, e) ≡ (i, (g, t)) = cc in
      let index : n ≡ i = ap (λ (x : ℕ × (ℕ × T)). x.0) first in
      let entry : e ≡ (g, t) = ap (λ (x : ℕ × (ℕ × T)). x.1) first in
      let place : i - n ≡ 0 = omega (arith, index) in
      record {
        from = omega (arith, index);
        read = ap (λ k. get_or (Some e ∷ xs) k None) place ∙ ap Some entry;
        before = λ k h u below read. absurd (omega (arith, index, below));
      }
  stands n (Some e ∷ xs) (p ∷ passed) rest i g t split failed =
      let here : (n, e) ≡ p = cc in
      let others : listed_from (n + 1) xs ≡ passed ++ (i, (g, t)) ∷ rest = cc in
      let behind = stands (n + 1) xs passed rest i g t others failed.1 in
      let from = behind.from in
      let place : i - n ≡ suc (i - (n + 1)) = omega (arith, from) in
      record {
        from = omega (arith, from);
        read = ap (λ k. get_or (Some e ∷ xs) k None) place ∙ behind.read;
        before = earlier here behind;
      }
    where
      earlier : (n, e) ≡ p → IsFirstToAnswer (n + 1) xs i g t → (k h : ℕ) (u : T) → n + k < i
          → get_or (Some e ∷ xs) k None ≡ Some (h, u) → answers u false
      earlier here behind zero h u below read =
          let entry : e ≡ (h, u) = cc in
          let same : p.1.1 ≡ u =
          sym (ap (λ (x : ℕ × (ℕ × T)). x.1.1) here) ∙ ap (λ (x : ℕ × T). x.1) entry in
          subst (λ x. answers x false) same failed.0
      earlier here behind (suc k) h u below read = behind.before k h u (omega (arith, below)) read

  -- it finds the first entry left, where its value passes the test
  pub search_finds : (c : Content T) (left rest : List (ℕ × (ℕ × T))) (i g : ℕ) (t : T)
      → HasPassed answers (live_entries c) left
      → left ≡ (i, (g, t)) ∷ rest → answers t true → IsFirstToPass answers (entry_at c) i g
  search_finds c left rest i g t h next passes =
      let s = stands 1 c.slots h.passed rest i g t
      (h.split ∙ ap (λ l. h.passed ++ l) next) h.failed in
      let from = s.from in
      let place : i ≡ suc (i - 1) = omega (arith, from) in
      record {
        value = t;
        stands = ap (entry_at c) place ∙ s.read;
        passes = passes;
        before = earlier s;
      }
    where
      earlier : IsFirstToAnswer 1 c.slots i g t → (j h : ℕ) (u : T) → j < i
          → entry_at c j ≡ Some (h, u) → answers u false
      earlier s zero h u below read = absurd (cc)
      earlier s (suc k) h u below read = s.before k h u (omega (arith, below)) read

  each_of_all : (n : ℕ) (xs : List (Option (ℕ × T))) → EachFails answers (listed_from n xs)
      → (k h : ℕ) (u : T)
      → get_or xs k None ≡ Some (h, u) → answers u false
  each_of_all n [] failed k h u read = absurd (cc)
  each_of_all n (None ∷ xs) failed zero h u read = absurd (cc)
  each_of_all n (None ∷ xs) failed (suc k) h u read = each_of_all (n + 1) xs failed k h u read
  each_of_all n (Some e ∷ xs) failed zero h u read =
      let entry : e ≡ (h, u) = cc in
      let same : e.1 ≡ u = ap (λ (x : ℕ × T). x.1) entry in
      subst (λ x. answers x false) same failed.0
  each_of_all n (Some e ∷ xs) failed (suc k) h u read = each_of_all (n + 1) xs failed.1 k h u read

  -- and where none is left, no value passes the test
  pub search_ends : (c : Content T) (left : List (ℕ × (ℕ × T)))
      → HasPassed answers (live_entries c) left → left ≡ []
      → SearchFinds answers (entry_at c) None
  search_ends c left h none zero g t read = absurd (cc)
  search_ends c left h none (suc k) g t read =
      let all = h.split ∙ ap (λ l. h.passed ++ l) none ∙ append-nil h.passed in
      each_of_all 1 c.slots (subst (EachFails answers) (sym all) h.failed) k g t read
