-- What a pointer shows of itself.
use Rattle.std.specs.Prelude.{ℕ, List, [], ◌++◌, Option, Some, None, codes}
use Rattle.triple_arena_ptr.specs.Hexadecimal.{hexadecimal}

-- the digits of a generation under the greatest one: none where generations are not counted
abbrev pub generation_digits : Option ℕ → ℕ → List ℕ
generation_digits None g = []
generation_digits (Some last) g = hexadecimal g

-- the generation in parentheses, or nothing where generations are not counted
abbrev pub generation_text : Option ℕ → ℕ → List ℕ
generation_text None g = []
generation_text (Some last) g = codes "(" ++ (hexadecimal g ++ codes ")")

-- the text of a pointer of a type of this name
abbrev pub pointer_text : List ℕ → Option ℕ → ℕ → ℕ → List ℕ
pointer_text name last index generation = name
    ++ (codes "[" ++ (hexadecimal index ++ (codes "]" ++ generation_text last generation)))
