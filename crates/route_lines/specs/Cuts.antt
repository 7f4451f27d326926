-- A list cut at the first item that passes a test.
use Rattle.std.specs.Prelude.{Bool, List, [], ◌∷◌, Option, Some, None, if◌then◌else◌}

-- the items before that one, or all
abbrev pub before : {X : Type 0} → (X → Bool) → List X → List X
before test [] = []
before test (x ∷ xs) = if test x then [] else x ∷ before test xs

-- that one and the items behind it, or none
abbrev pub onward : {X : Type 0} → (X → Bool) → List X → List X
onward test [] = []
onward test (x ∷ xs) = if test x then x ∷ xs else onward test xs

-- the items up to that one, or all
abbrev pub up_to : {X : Type 0} → (X → Bool) → List X → List X
up_to test [] = []
up_to test (x ∷ xs) = if test x then x ∷ [] else x ∷ up_to test xs

-- the items behind that one, or none
abbrev pub behind : {X : Type 0} → (X → Bool) → List X → List X
behind test [] = []
behind test (x ∷ xs) = if test x then xs else behind test xs

-- the first item and the last one
abbrev pub first_item : {X : Type 0} → List X → Option X
first_item [] = None
first_item (x ∷ xs) = Some x

abbrev pub last_item : {X : Type 0} → List X → Option X
last_item [] = None
last_item (x ∷ []) = Some x
last_item (x ∷ y ∷ xs) = last_item (y ∷ xs)
