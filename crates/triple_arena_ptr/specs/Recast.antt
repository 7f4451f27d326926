-- Items under a renaming: a map that has no image for some items.
use Rattle.std.specs.Prelude.{List, [], ◌∷◌, Option, Some, None, Result, Ok, Err}

-- the item's image, and where there is none, the item
abbrev pub renamed_item : {I : Type 0} → Option I → I → I
renamed_item None x = x
renamed_item (Some y) x = y

-- `Err` of the item where it has no image, and else what the items after it answer
abbrev pub answer_before : {I : Type 0} → Option I → I → Result (Unit {0}) I → Result (Unit {0}) I
answer_before None x rest = Err x
answer_before (Some y) x rest = rest

-- `Err` of the first item that has no image, and `Ok` where each has one
abbrev pub recast_answer : {I : Type 0} → (I → Option I) → List I → Result (Unit {0}) I
recast_answer f [] = Ok tt
recast_answer f (x ∷ xs) = answer_before (f x) x (recast_answer f xs)

-- what follows an item: it stays where the item has no image
abbrev pub items_after : {I : Type 0} → Option I → List I → List I → List I
items_after None stay go_on = stay
items_after (Some y) stay go_on = go_on

-- the items up to the first that has no image, each renamed, and that one and those after it as
-- they were
abbrev pub renamed : {I : Type 0} → (I → Option I) → List I → List I
renamed f [] = []
renamed f (x ∷ xs) = renamed_item (f x) x ∷ items_after (f x) xs (renamed f xs)

-- `next` where what came before was recast whole, and else `stay`
abbrev pub where_ok : {I X : Type 0} → Result (Unit {0}) I → X → X → X
where_ok (Ok _) next stay = next
where_ok (Err _) next stay = stay

-- the items in an option
abbrev pub option_items : {I X : Type 0} → (X → List I) → Option X → List I
option_items items None = []
option_items items (Some x) = items x

-- the option with its value recast
abbrev pub option_recasted : {X : Type 0} → (X → X) → Option X → Option X
option_recasted recasted None = None
option_recasted recasted (Some x) = Some (recasted x)

-- the image of an item that there may be, and none where it has none
abbrev pub image_of : {I : Type 0} → (I → Option I) → Option I → Option I
image_of f None = None
image_of f (Some x) = f x
