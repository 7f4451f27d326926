-- Two links that change places.
use Rattle.std.proofs.Common.{◌≡◌, ◌≢◌, ℕ, Option, Some, None, is_some, option_map, refl, sym, ap}
use Rattle.std.proofs.Common.{◌∙◌, inl, inr}
use Rattle.std.proofs.lemmas.Bool.{eq-eqb, ne_eqb}
use Rattle.std.proofs.lemmas.Bool.Decides.{eqb_tells}
use Rattle.linked_lists.specs.LinkedLists.{Ends, IsAgreed, next_at, prev_at, next_in, prev_in}
use Rattle.triple_arena_chain.specs.Renaming.{ends_renamed}
use Rattle.triple_arena_chain.specs.CanonicalLayout.{swapped_index, under}

pub ends_by_parts : (o r : Option Ends) → is_some o ≡ is_some r → next_in o ≡ next_in r
    → prev_in o ≡ prev_in r → o ≡ r
ends_by_parts None None v n p = refl
ends_by_parts None (Some w) v n p = absurd (cc)
ends_by_parts (Some u) None v n p = absurd (cc)
ends_by_parts (Some u) (Some w) v n p = ap (λ a. let x : Ends = (a, u.1) in Some x) p
    ∙ ap (λ b. let x : Ends = (w.0, b) in Some x) n

-- what is live stays so under other names
pub some_under : (name : ℕ → ℕ) (o : Option Ends)
    → is_some (option_map (ends_renamed name) o) ≡ is_some o
some_under name None = refl
some_under name (Some v) = refl

module _ (name : ℕ → ℕ) (twice : (k : ℕ) → name (name k) ≡ k) (e : ℕ → Option Ends) where
  pub next-renamed : (k : ℕ) → next_at (under name e) k ≡ option_map name (next_at e (name k))
  next-renamed k = by (e (name k))
    where
      by : (o : Option Ends)
          → next_in (option_map (ends_renamed name) o) ≡ option_map name (next_in o)
      by None = refl
      by (Some v) = refl

  pub prev-renamed : (k : ℕ) → prev_at (under name e) k ≡ option_map name (prev_at e (name k))
  prev-renamed k = by (e (name k))
    where
      by : (o : Option Ends)
          → prev_in (option_map (ends_renamed name) o) ≡ option_map name (prev_in o)
      by None = refl
      by (Some v) = refl

  named : (o : Option ℕ) (y : ℕ) → option_map name o ≡ Some y → o ≡ Some (name y)
  named None y h = absurd (cc)
  named (Some z) y h = let is : name z ≡ y = cc in ap Some (sym (twice z) ∙ ap name is)

  -- a renaming keeps the two ways agreed
  pub IsAgreed-renamed : IsAgreed e → IsAgreed (under name e)
  IsAgreed-renamed agreed =
      record {
        forward = λ x y h. prev-renamed y
            ∙ ap (option_map name)
            (agreed.forward (name x) (name y)
            (named (next_at e (name x)) y (sym (next-renamed x) ∙ h))) ∙ ap Some (twice x);
        backward = λ x y h. next-renamed x
            ∙ ap (option_map name)
            (agreed.backward (name x) (name y)
            (named (prev_at e (name y)) x (sym (prev-renamed y) ∙ h))) ∙ ap Some (twice y);
      }

module _ (i j : ℕ) where
  abbrev name : ℕ → ℕ
  name = swapped_index i j

  pub swap_i : name i ≡ j
  swap_i = rw (eq-eqb i i refl) refl

  pub swap_j : name j ≡ i
  swap_j =
      elim (eqb_tells j i) [
        | inl same ↦ rw same.0 same.1
        | inr differs ↦ rw (differs.0, eq-eqb j j refl) refl
      ]

  pub swap_other : (k : ℕ) → k ≢ i → k ≢ j → name k ≡ k
  swap_other k not_i not_j = rw (ne_eqb k i not_i, ne_eqb k j not_j) refl

  pub swap_twice : (k : ℕ) → name (name k) ≡ k
  swap_twice k =
      elim (eqb_tells k i) [
        | inl same ↦ ap (λ x. name (name x)) same.1 ∙ ap name swap_i ∙ swap_j ∙ sym same.1
        | inr not_i ↦
            elim (eqb_tells k j) [
              | inl same ↦ ap (λ x. name (name x)) same.1 ∙ ap name swap_j ∙ swap_i ∙ sym same.1
              | inr not_j ↦ let is = swap_other k not_i.1 not_j.1 in ap name is ∙ is
            ]
      ]
