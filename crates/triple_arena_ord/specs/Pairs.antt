-- A key with a value.
use Rattle.std.specs.Prelude.{ℕ, List, codes, Option, Some}
use Rattle.std.specs.Fmt.{◌++?◌}
use Rattle.triple_arena_ord.specs.declared.pair.OrdPair.{OrdPair}

-- the pair with another value
abbrev pub with_v : {K V : Type 0} → OrdPair K V → V → OrdPair K V
with_v pair v = record pair { v = v }

-- the text of a pair, by that of its key and that of its value, where these are known
abbrev pub pair_text : {K V : Type 0} → (K → Option (List ℕ)) → (V → Option (List ℕ)) → OrdPair K V
    → Option (List ℕ)
pair_text key value pair
    = Some (codes "(") ++? key pair.k ++? Some (codes ", ") ++? value pair.v ++? Some (codes ")")
