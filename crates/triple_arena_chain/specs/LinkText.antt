-- The texts of links.
use Rattle.std.specs.Prelude.{ℕ, List, codes, Option, Some, None}
use Rattle.std.specs.Fmt.{◌++?◌}
use Rattle.triple_arena_chain.specs.LinkShape.{IndexLink}
use Rattle.triple_arena_chain.specs.declared.ptr_link.Link.{Link}

-- the text of a neighbor, or `-` where there is none
abbrev pub neighbor_text : {N : Type 0} → (N → Option (List ℕ)) → Option N → Option (List ℕ)
neighbor_text text None = Some (codes "-")
neighbor_text text (Some n) = text n

-- both neighbors in parentheses, and the value, where its text is known
abbrev pub between_text : Option (List ℕ) → Option (List ℕ) → Option (List ℕ) → Option (List ℕ)
between_text prev next value
    = Some (codes "(") ++? prev ++? Some (codes ", ") ++? next ++? Some (codes ") ") ++? value

abbrev pub index_link_text : {T : Type 0} → (ℕ → Option (List ℕ)) → (T → Option (List ℕ))
    → IndexLink T → Option (List ℕ)
index_link_text inx value link = between_text (neighbor_text inx link.prev)
    (neighbor_text inx link.next) (value link.t)

abbrev pub link_text : {P T Inx Gen Word : Type 0} → (P → Option (List ℕ)) → (T → Option (List ℕ))
    → Link P T Inx Gen Word → Option (List ℕ)
link_text pointer value link = between_text (neighbor_text pointer link.prev)
    (neighbor_text pointer link.next) (value link.t)
