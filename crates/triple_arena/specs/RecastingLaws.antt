-- What a recast changes and keeps.
use Rattle.std.proofs.Common.{◌≡◌, ℕ, zero, suc, ◌+◌, List, [], ◌∷◌, ◌++◌, length, map, get_or}
use Rattle.std.proofs.Common.{flat_map, Option, Some, None, Result, Ok, Err, is_some, count_by}
use Rattle.std.proofs.Common.{cond, refl, sym, ap, ◌∙◌, arith}
use Rattle.std.specs.Option.{option_map}
use Rattle.std.proofs.lemmas.List.Sums.{sum_by-cons}
use Rattle.triple_arena_ptr.specs.Recast.{recast_answer, renamed, where_ok}
use Rattle.triple_arena_ptr.specs.RecastLaws.{renamed-append, recast_answer-append, items-where_ok}
use Rattle.triple_arena.specs.Content.{Content, entry_at, live_count, IsWellFormed}
use Rattle.triple_arena.specs.ContentLaws.{vacant-kept}
use Rattle.triple_arena.specs.Entries.{generation_at}
use Rattle.triple_arena.specs.LiveEntries.{listed_from}
use Rattle.triple_arena.specs.Compression.{value_of}
use Rattle.triple_arena.specs.DirectContent.{DirectContent, as_content, entry_at as direct_entry_at}
use Rattle.triple_arena.specs.DirectContent.{live_count as direct_live_count}
use Rattle.triple_arena.specs.DirectContent.{IsWellFormed as IsDirectlyFormed}
use Rattle.triple_arena.specs.Recasting.{content_items, slots_recasted, content_recasted}
use Rattle.triple_arena.specs.Recasting.{directly_recasted}

module _ {I T : Type 0} (items : T → List I) where
  -- the items of the values in slots
  abbrev pub slot_items : List (Option (ℕ × T)) → List I
  slot_items [] = []
  slot_items (None ∷ slots) = slot_items slots
  slot_items (Some entry ∷ slots) = items entry.1 ++ slot_items slots

  items_listed : (n : ℕ) (slots : List (Option (ℕ × T)))
      → flat_map items (map value_of (listed_from n slots)) ≡ slot_items slots
  items_listed n [] = refl
  items_listed n (None ∷ slots) = items_listed (n + 1) slots
  items_listed n (Some entry ∷ slots) = ap (λ l. items entry.1 ++ l) (items_listed (n + 1) slots)

  pub content_items-is : (c : Content T) → content_items items c ≡ slot_items c.slots
  content_items-is c = items_listed 1 c.slots

  module _ (f : I → Option I) (recasted : T → T) where
    -- the items are renamed
    slots_renamed : ((t : T) → items (recasted t) ≡ renamed f (items t))
        → (slots : List (Option (ℕ × T)))
        → slot_items (slots_recasted items f recasted slots) ≡ renamed f (slot_items slots)
    slots_renamed each [] = refl
    slots_renamed each (None ∷ slots) = slots_renamed each slots
    slots_renamed each (Some entry ∷ slots) =
        let t = entry.1 in
        ap (λ l. l ++ slot_items
        (where_ok (recast_answer f (items t)) (slots_recasted items f recasted slots) slots))
        (each t)
        ∙ ap (λ l. renamed f (items t) ++ l)
        (items-where_ok slot_items (recast_answer f (items t))
        (slots_recasted items f recasted slots) slots
        ∙ ap (λ l. where_ok (recast_answer f (items t)) l (slot_items slots))
        (slots_renamed each slots))
        ∙ sym (renamed-append f (items t) (slot_items slots))

    pub items-recasted : ((t : T) → items (recasted t) ≡ renamed f (items t)) → (c : Content T)
        → content_items items (content_recasted items f recasted c)
        ≡ renamed f (content_items items c)
    items-recasted each c =
        content_items-is (content_recasted items f recasted c)
        ∙ slots_renamed each c.slots
        ∙ ap (renamed f) (sym (content_items-is c))

    -- a part of the slots may stay as it is
    part : {X : Type 0} (of : List (Option (ℕ × T)) → X) (r : Result (Unit {0}) I)
        (slots : List (Option (ℕ × T)))
        → of (slots_recasted items f recasted slots) ≡ of slots
        → of (where_ok r (slots_recasted items f recasted slots) slots) ≡ of slots
    part of (Ok _) slots same = same
    part of (Err _) slots same = refl

    -- each index keeps its generation
    generations_kept : (slots : List (Option (ℕ × T))) (k : ℕ)
        → option_map (λ (e : ℕ × T). e.0) (get_or (slots_recasted items f recasted slots) k None)
        ≡ option_map (λ (e : ℕ × T). e.0) (get_or slots k None)
    generations_kept [] k = refl
    generations_kept (None ∷ slots) zero = refl
    generations_kept (None ∷ slots) (suc k) = generations_kept slots k
    generations_kept (Some entry ∷ slots) zero = refl
    generations_kept (Some entry ∷ slots) (suc k) =
        part (λ l. option_map (λ (e : ℕ × T). e.0) (get_or l k None))
        (recast_answer f (items entry.1)) slots (generations_kept slots k)

    pub generation-recasted : (c : Content T) (j : ℕ)
        → generation_at (entry_at (content_recasted items f recasted c)) j
        ≡ generation_at (entry_at c) j
    generation-recasted c zero = refl
    generation-recasted c (suc k) = generations_kept c.slots k

    slots_counted : (slots : List (Option (ℕ × T)))
        → count_by is_some (slots_recasted items f recasted slots) ≡ count_by is_some slots
    slots_counted [] = refl
    slots_counted (None ∷ slots) =
        sum_by-cons (λ o. cond (is_some o) 1 0) None (slots_recasted items f recasted slots)
        ∙ ap (λ n. 0 + n) (slots_counted slots)
        ∙ sym (sum_by-cons (λ o. cond (is_some o) 1 0) None slots)
    slots_counted (Some entry ∷ slots) =
        let rest = where_ok (recast_answer f (items entry.1))
        (slots_recasted items f recasted slots) slots in
        sum_by-cons (λ o. cond (is_some o) 1 0) (Some (entry.0, recasted entry.1)) rest
        ∙ ap (λ n. 1 + n) (part (count_by is_some) (recast_answer f (items entry.1)) slots
        (slots_counted slots))
        ∙ sym (sum_by-cons (λ o. cond (is_some o) 1 0) (Some entry) slots)

    pub live-recasted : (c : Content T)
        → live_count (content_recasted items f recasted c) ≡ live_count c
    live-recasted c = slots_counted c.slots

    slots_long : (slots : List (Option (ℕ × T)))
        → length (slots_recasted items f recasted slots) ≡ length slots
    slots_long [] = refl
    slots_long (None ∷ slots) = ap suc (slots_long slots)
    slots_long (Some entry ∷ slots)
        = ap suc (part length (recast_answer f (items entry.1)) slots (slots_long slots))

    pub slots-recasted : (c : Content T)
        → length (content_recasted items f recasted c).slots ≡ length c.slots
    slots-recasted c = slots_long c.slots

    pub counter-recasted : (c : Content T)
        → (content_recasted items f recasted c).counter ≡ c.counter
    counter-recasted c = refl

    pub free-recasted : (c : Content T) → (content_recasted items f recasted c).free ≡ c.free
    free-recasted c = refl

    pub room-recasted : (c : Content T) → (content_recasted items f recasted c).room ≡ c.room
    room-recasted c = refl

    -- where each item has an image, each value is recast
    all_recast : (slots : List (Option (ℕ × T)))
        → recast_answer f (slot_items slots) ≡ Ok tt → (k : ℕ)
        → get_or (slots_recasted items f recasted slots) k None
        ≡ option_map (λ (e : ℕ × T). (e.0, recasted e.1)) (get_or slots k None)
    all_recast [] ok k = refl
    all_recast (None ∷ slots) ok zero = refl
    all_recast (None ∷ slots) ok (suc k) = all_recast slots ok k
    all_recast (Some entry ∷ slots) ok zero = refl
    all_recast (Some entry ∷ slots) ok (suc k) =
        go_on (recast_answer f (items entry.1))
        (sym (recast_answer-append f (items entry.1) (slot_items slots)) ∙ ok)
        (λ rest. all_recast slots rest k)
      where
        go_on : (r : Result (Unit {0}) I)
            → where_ok r (recast_answer f (slot_items slots)) r ≡ Ok tt
            → (recast_answer f (slot_items slots) ≡ Ok tt
            → get_or (slots_recasted items f recasted slots) k None
            ≡ option_map (λ (e : ℕ × T). (e.0, recasted e.1)) (get_or slots k None))
            → get_or (where_ok r (slots_recasted items f recasted slots) slots) k None
            ≡ option_map (λ (e : ℕ × T). (e.0, recasted e.1)) (get_or slots k None)
        go_on (Ok _) whole rest = rest whole
        go_on (Err x) whole rest = absurd (cc)

    pub entry-recasted : (c : Content T) → recast_answer f (content_items items c) ≡ Ok tt → (j : ℕ)
        → entry_at (content_recasted items f recasted c) j
        ≡ option_map (λ (e : ℕ × T). (e.0, recasted e.1)) (entry_at c j)
    entry-recasted c ok zero = refl
    entry-recasted c ok (suc k)
        = all_recast c.slots (ap (recast_answer f) (sym (content_items-is c)) ∙ ok) k

    none-recasted : (c : Content T) (j : ℕ) → entry_at c j ≡ None
        → entry_at (content_recasted items f recasted c) j ≡ None
    none-recasted c j none =
        by_entry (entry_at (content_recasted items f recasted c) j)
        (generation-recasted c j ∙ ap (option_map (λ (e : ℕ × T). e.0)) none)
      where
        by_entry : (o : Option (ℕ × T)) → option_map (λ (e : ℕ × T). e.0) o ≡ None → o ≡ None
        by_entry None same = refl
        by_entry (Some e) same = absurd (cc)

    -- and the content stays well-formed
    pub formed-recasted : (c : Content T) → IsWellFormed c
        → IsWellFormed (content_recasted items f recasted c)
    formed-recasted c formed =
        let slots = slots-recasted c in
        let live = live-recasted c in
        let counted = formed.counted in
        let fits = formed.fits in
        record {
          free = vacant-kept c (content_recasted items f recasted c) (omega (arith, slots))
              (none-recasted c) c.free formed.free;
          counted = omega (arith, slots, live, counted);
          fits = omega (arith, slots, fits);
        }

    -- the same of a direct arena
    pub generation-directly_recasted : (d : DirectContent T) (j : ℕ)
        → generation_at (direct_entry_at (directly_recasted items f recasted d)) j
        ≡ generation_at (direct_entry_at d) j
    generation-directly_recasted d zero = refl
    generation-directly_recasted d (suc k) = generation-recasted (as_content d) (suc k)

    pub entry-directly_recasted : (d : DirectContent T)
        → recast_answer f (content_items items (as_content d)) ≡ Ok tt → (j : ℕ)
        → direct_entry_at (directly_recasted items f recasted d) j
        ≡ option_map (λ (e : ℕ × T). (e.0, recasted e.1)) (direct_entry_at d j)
    entry-directly_recasted d ok zero = refl
    entry-directly_recasted d ok (suc k) = entry-recasted (as_content d) ok (suc k)

    pub live-directly_recasted : (d : DirectContent T)
        → direct_live_count (directly_recasted items f recasted d) ≡ direct_live_count d
    live-directly_recasted d = live-recasted (as_content d)

    pub slots-directly_recasted : (d : DirectContent T)
        → length (directly_recasted items f recasted d).slots ≡ length d.slots
    slots-directly_recasted d = slots-recasted (as_content d)

    pub room-directly_recasted : (d : DirectContent T)
        → (directly_recasted items f recasted d).room ≡ d.room
    room-directly_recasted d = refl

    pub formed-directly_recasted : (d : DirectContent T) → IsDirectlyFormed d
        → IsDirectlyFormed (directly_recasted items f recasted d)
    formed-directly_recasted d formed = let same =
        slots-directly_recasted d in omega (arith, same, formed)

-- what a recast changes and keeps
pub ruleset recastings = (
  formed-recasted,
  generation-recasted,
  entry-recasted,
  live-recasted,
  slots-recasted,
  counter-recasted,
  free-recasted,
  room-recasted,
)

-- the same of a direct arena
pub ruleset direct_recastings = (
  formed-directly_recasted,
  generation-directly_recasted,
  entry-directly_recasted,
  live-directly_recasted,
  slots-directly_recasted,
  room-directly_recasted,
)
