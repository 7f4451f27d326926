-- What a renaming makes of the items of parts.
use Rattle.std.specs.Prelude.{◌≡◌, List, [], ◌∷◌, ◌++◌, Option, Some, None, Result, Ok, Err, refl}
use Rattle.std.proofs.Common.{ap, ◌∙◌, sym}
use Rattle.triple_arena_ptr.specs.Recast.{renamed_item, answer_before, recast_answer, items_after}
use Rattle.triple_arena_ptr.specs.Recast.{renamed, where_ok, option_items, option_recasted}

-- a value that is an item
pub renamed-one : {I : Type 0} (f : I → Option I) (x : I)
    → renamed_item (f x) x ∷ [] ≡ renamed f (x ∷ [])
renamed-one f x = after (f x)
  where
    after : (o : Option _) → renamed_item o x ∷ [] ≡ renamed_item o x ∷ items_after o [] []
    after None = refl
    after (Some y) = refl

-- the items of two parts, of which the second is reached only after the first
pub renamed-append : {I : Type 0} (f : I → Option I) (xs ys : List I)
    → renamed f (xs ++ ys) ≡ renamed f xs ++ where_ok (recast_answer f xs) (renamed f ys) ys
renamed-append f [] ys = refl
renamed-append f (x ∷ xs) ys = after (f x) (renamed-append f xs ys)
  where
    after : (o : Option _)
        → renamed f (xs ++ ys) ≡ renamed f xs ++ where_ok (recast_answer f xs) (renamed f ys) ys
        → renamed_item o x ∷ items_after o (xs ++ ys) (renamed f (xs ++ ys))
        ≡ (renamed_item o x ∷ items_after o xs (renamed f xs))
        ++ where_ok (answer_before o x (recast_answer f xs)) (renamed f ys) ys
    after None rest = refl
    after (Some y) rest = ap (λ l. y ∷ l) rest

-- the answer of two parts
pub recast_answer-append : {I : Type 0} (f : I → Option I) (xs ys : List I)
    → recast_answer f (xs ++ ys) ≡ where_ok (recast_answer f xs) (recast_answer f ys)
    (recast_answer f xs)
recast_answer-append f [] ys = refl
recast_answer-append f (x ∷ xs) ys = after (f x) (recast_answer-append f xs ys)
  where
    after : (o : Option _)
        → recast_answer f (xs ++ ys) ≡ where_ok (recast_answer f xs) (recast_answer f ys)
        (recast_answer f xs)
        → answer_before o x (recast_answer f (xs ++ ys))
        ≡ where_ok (answer_before o x (recast_answer f xs)) (recast_answer f ys)
        (answer_before o x (recast_answer f xs))
    after None rest = refl
    after (Some y) rest = rest

pub option_items_recasted : {I X : Type 0} (items : X → List I) (recasted : X → X)
    (f : I → Option I)
    → ((x : X) → items (recasted x) ≡ renamed f (items x))
    → (o : Option X) → option_items items (option_recasted recasted o)
    ≡ renamed f (option_items items o)
option_items_recasted items recasted f each None = refl
option_items_recasted items recasted f each (Some x) = each x

-- what a part that may stay shows
pub items-where_ok : {I X : Type 0} (items : X → List I) (r : Result (Unit {0}) I) (next stay : X)
    → items (where_ok r next stay) ≡ where_ok r (items next) (items stay)
items-where_ok items (Ok _) next stay = refl
items-where_ok items (Err _) next stay = refl

pub pair_items_recasted : {I X Y : Type 0} (items_x : X → List I) (items_y : Y → List I)
    (recasted_x : X → X) (recasted_y : Y → Y) (f : I → Option I)
    → ((x : X) → items_x (recasted_x x) ≡ renamed f (items_x x))
    → ((y : Y) → items_y (recasted_y y) ≡ renamed f (items_y y))
    → (x : X) (y : Y)
    → items_x (recasted_x x) ++ items_y (where_ok (recast_answer f (items_x x)) (recasted_y y) y)
    ≡ renamed f (items_x x ++ items_y y)
pair_items_recasted items_x items_y recasted_x recasted_y f each_x each_y x y =
    ap (λ l. l ++ items_y (where_ok (recast_answer f (items_x x)) (recasted_y y) y)) (each_x x)
    ∙ ap (λ l. renamed f (items_x x) ++ l)
    (items-where_ok items_y (recast_answer f (items_x x)) (recasted_y y) y
    ∙ ap (λ l. where_ok (recast_answer f (items_x x)) l (items_y y)) (each_y y))
    ∙ sym (renamed-append f (items_x x) (items_y y))

-- the answer of two parts, of which the second is reached only after the first
pub answer_of_parts : {I : Type 0} (f : I → Option I) (xs ys : List I) (first : Result (Unit {0}) I)
    → first ≡ recast_answer f xs
    → where_ok first (recast_answer f ys) first ≡ recast_answer f (xs ++ ys)
answer_of_parts f xs ys first is_first =
    ap (λ r. where_ok r (recast_answer f ys) r) is_first ∙ sym (recast_answer-append f xs ys)
