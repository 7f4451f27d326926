-- A walk that ends is known by the steps that it takes.
use Rattle.std.proofs.Common.{◌≡◌, ℕ, zero, suc, ◌≤◌, List, [], ◌∷◌, length, Option, Some, None}
use Rattle.std.proofs.Common.{IsSome, true≢false, IfSome, option_map, ◌+◌, refl, sym, ap, subst}
use Rattle.std.proofs.Common.{◌∙◌, arith}
use Rattle.linked_lists.specs.LinkedLists.{Ends}
use Rattle.triple_arena_chain.specs.Walks.{ChainWalk, past_index, Leaves, from_index, from_where}
use Rattle.triple_arena_chain.specs.Walks.{steps_of, IsWalkAlong, ChainSteps, left_over, IsEnding}
use Rattle.triple_arena.specs.Content.{Content, entry_at}
use Rattle.triple_arena_chain.specs.LinkShape.{IndexLink}
use Rattle.triple_arena_chain.specs.Links.{valued, values_in, entry_ends, ends_in}

module _ (e : ℕ → Option Ends) where
  -- an index that is live is given, and then those of the walk that goes on
  pub from_live : (on : ChainWalk → List ℕ) (w : ChainWalk) (x : ℕ) → w.at ≡ Some x → IsSome (e x)
      → from_where e on w w.at ≡ x ∷ on (past_index e w x)
  from_live on w x at live = ap (from_where e on w) at ∙ by (e x) refl live
    where
      by : (o : Option Ends) → e x ≡ o → IsSome o
          → from_index e on w x (e x) ≡ x ∷ on (past_index e w x)
      by None is none = absurd (true≢false (sym none))
      by (Some v) is some = ap (from_index e on w x) is

  pub steps-left : (n : ℕ) (w : ChainWalk) (xs : List ℕ) → Leaves e w xs → length xs ≤ n
      → steps_of e n w ≡ xs
  steps-left zero w [] left fits = refl
  steps-left zero w (x ∷ xs) left fits = absurd (omega (arith, fits))
  steps-left (suc n) w [] left fits = ap (from_where e (steps_of e n) w) left
  steps-left (suc n) w (x ∷ xs) left fits =
      let rest = steps-left n (past_index e w x) xs left.1.1 (omega (arith, fits)) in
      from_live (steps_of e n) w x left.0 left.1.0 ∙ ap (λ l. x ∷ l) rest

  -- a walk along a chain ends
  pub ending : (n : ℕ) (w : ChainWalk) (i : ℕ) → IsWalkAlong e n w i → Leaves e w (steps_of e n w)
  ending n w i along = subst (Leaves e w) (sym along.steps) along.left

  few_steps : (n : ℕ) (w : ChainWalk) → length (steps_of e n w) ≤ n
  few_steps zero w = omega arith
  few_steps (suc n) w = by (few_steps n) w.at
    where
      by_live : ((v : ChainWalk) → length (steps_of e n v) ≤ n) → (i : ℕ) (o : Option Ends)
          → length (from_index e (steps_of e n) w i o) ≤ suc n
      by_live fewer i None = omega arith
      by_live fewer i (Some v) = let less = fewer (past_index e w i) in omega (arith, less)

      by : ((v : ChainWalk) → length (steps_of e n v) ≤ n) → (o : Option ℕ)
          → length (from_where e (steps_of e n) w o) ≤ suc n
      by fewer None = omega arith
      by fewer (Some i) = by_live fewer i (e i)

  -- a walk that ends within so many steps: after a step it gives the others
  pub after_step : (n : ℕ) (w : ChainWalk) (x : ℕ) → Leaves e w (steps_of e n w) → w.at ≡ Some x
      → (steps_of e n w ≡ x ∷ steps_of e n (past_index e w x))
      × Leaves e (past_index e w x) (steps_of e n (past_index e w x))
  after_step n w x left at = by (steps_of e n w) refl left
    where
      by : (xs : List ℕ) → steps_of e n w ≡ xs → Leaves e w xs
          → (steps_of e n w ≡ x ∷ steps_of e n (past_index e w x))
          × Leaves e (past_index e w x) (steps_of e n (past_index e w x))
      by [] is over = absurd (let no : None ≡ Some x = sym over ∙ at in cc)
      by (y ∷ ys) is more =
          let both : Some y ≡ Some x = sym more.0 ∙ at in
          let same : y ≡ x = cc in
          let less = few_steps n w in
          let long = ap length is in
          let rest : Leaves e (past_index e w x) ys =
          subst (λ z. Leaves e (past_index e w z) ys) same more.1.1 in
          let others = steps-left n (past_index e w x) ys rest (omega (arith, less, long)) in (
            is ∙ ap (λ z. z ∷ ys) same ∙ ap (λ l. x ∷ l) (sym others),
            subst (Leaves e (past_index e w x)) (sym others) rest,
          )

module _ {T : Type 0} where
  -- a walk over links that stay has one index less to give after a step
  pub left-after : (c : Content (IndexLink T)) (w : ChainWalk) (p : ℕ × ℕ) (on : ChainWalk)
      → IsEnding c w
      → ChainSteps (ends_in c) (values_in c) w (Some p) on
      → (left_over c w ≡ p.0 ∷ left_over c on) × IsEnding c on
  left-after c w p on ends step =
      let next = after_step (ends_in c) (length c.slots + 1) w p.0 ends step.0 in
      subst (λ v. (left_over c w ≡ p.0 ∷ left_over c v) × IsEnding c v)
      (sym step.1.1) next

  -- and has none where a step gives none
  pub left-none : (c : Content (IndexLink T)) (w on : ChainWalk) → IsEnding c w
      → ChainSteps (ends_in c) (values_in c) w None on → left_over c w ≡ []
  left-none c w on ends step = by (left_over c w) refl ends
    where
      by : (xs : List ℕ) → left_over c w ≡ xs → Leaves (ends_in c) w xs
          → left_over c w ≡ []
      by [] is over = is
      by (x ∷ xs) is more =
          let vacant : values_in c x ≡ None =
          subst (λ o. IfSome o (λ i. values_in c i ≡ None)) more.0 step.0 in
          absurd (not_both (entry_at c x) vacant more.1.0)
        where
          not_both : (o : Option (ℕ × IndexLink T)) → option_map valued o ≡ None
              → IsSome (option_map entry_ends o) → ⊥
          not_both None is some = true≢false (sym some)
          not_both (Some v) is some = let no : Some (valued v) ≡ None = is in absurd (cc)

-- what a loop over a walk needs
pub ruleset walks = (ending, left-after, left-none)
