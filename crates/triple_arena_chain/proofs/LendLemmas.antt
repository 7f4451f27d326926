-- A value that is lent out of its link.
use Rattle.std.proofs.Common.{◌≡◌, ℕ, Option, Some, None, option_map, refl, sym, ap, subst, ◌∙◌}
use Rattle.triple_arena.specs.Content.{Content, entry_at, with_value}
use Rattle.triple_arena_chain.specs.LinkShape.{IndexLink}
use Rattle.triple_arena_chain.specs.LinkLaws.{chained-with_value_in}
use Rattle.triple_arena_chain.specs.Links.{with_link_of, with_value_in, IsChained}

module _ {T : Type 0} where
  pub chained-lent : (c : Content (IndexLink T)) (i : ℕ) (l : IndexLink T) (w : T)
      → option_map (λ e. e.1) (entry_at c i) ≡ Some l
      → IsChained c → IsChained (with_value c i (record l { t = w }))
  chained-lent c i l w is chained = by (entry_at c i) refl is
    where
      by : (o : Option (ℕ × IndexLink T)) → entry_at c i ≡ o → option_map (λ e. e.1) o ≡ Some l
          → IsChained (with_value c i (record l { t = w }))
      by None at found = absurd (let no : None ≡ Some l = found in cc)
      by (Some entry) at found =
          let it : entry.1 ≡ l = cc in
          let same : with_value c i (record l { t = w }) ≡ with_value_in c i w =
          ap (λ (m : IndexLink T). with_value c i (record m { t = w })) (sym it)
          ∙ sym (ap (with_link_of c i (λ link. record link { t = w })) at) in
          subst IsChained (sym same) (chained-with_value_in c i w chained)
