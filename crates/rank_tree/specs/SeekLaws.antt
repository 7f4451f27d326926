-- What a tree counts lives.
use Rattle.std.proofs.Common.{ℕ, ◌<◌, Option, Some, IsSome, sym, subst, arith, inl, inr}
use Rattle.std.proofs.lemmas.Bool.{cases_eq, cases_lt}
use Rattle.rank_tree.specs.Store.{Store}
use Rattle.rank_tree.specs.Tree.{Tree, leaf, node}
use Rattle.rank_tree.specs.Shape.{Represents, count}
use Rattle.rank_tree.specs.FrameLaws.{one-other}
use Rattle.rank_tree.specs.SpotLaws.{is_some}

pub counted-lives : (n : Store) (p : Option ℕ) (t : Tree) → Represents n p t → (j : ℕ)
    → 0 < count j t → IsSome (n j)
counted-lives n p leaf h j c = absurd (omega arith)
counted-lives n p (node l i k r) h j c =
    elim (cases_lt 0 (count j l)) [
      | inl in_left ↦ counted-lives n (Some i) l h.1 j in_left
      | inr out_left ↦ elim (cases_eq j i) [
        | inl e ↦ subst (λ z. IsSome (n z)) (sym e) (is_some (n i) _ h.0)
        | inr d ↦ let z = one-other j i d in counted-lives n (Some i) r h.2 j (omega arith)
      ]
    ]
