-- A document after its nodes moved and its names followed them.
use Rattle.std.proofs.Common.{◌≡◌, ℕ, suc, ◌<◌, List, [], ◌∷◌, length, map, slice_index_or}
use Rattle.std.proofs.Common.{flat_map, Option, Some, None, IsSome, is_some, true, true≢false}
use Rattle.std.proofs.Common.{Result, Ok, Err, inl, inr, refl, sym, ap, ◌∙◌, arith}
use Rattle.std.specs.Option.{option_map}
use Rattle.std.proofs.lemmas.Bool.Decides.{eqb_tells}
use Rattle.triple_arena_ptr.specs.Recast.{recast_answer, answer_before, renamed, where_ok}
use Rattle.triple_arena_ptr.specs.RecastLaws.{recast_answer-append}
use Rattle.triple_arena.specs.Content.{Content, entry_at, get}
use Rattle.triple_arena.specs.Entries.{value_if}
use Rattle.triple_arena.specs.Compression.{live_values, compacted}
use Rattle.triple_arena.specs.DirectContent.{DirectContent, get as new_name}
use Rattle.triple_arena.specs.Recaster.{IsRenaming}
use Rattle.triple_arena.specs.Recasting.{content_items, content_recasted, slots_recasted}
use Rattle.triple_arena.specs.RecastingLaws.{entry-recasted}
use Rattle.example_chain.specs.Documents.{node, AllNamed, IsRenamedDocument}

-- the new name of a pointer by a map
abbrev pub by_map : {P : Type 0} → (P → ℕ) → (P → ℕ) → DirectContent P → P → Option P
by_map index generation map_of p = new_name map_of (index p) (generation p)

-- where each item has an image, all are renamed
all_renamed : {I : Type 0} (f : I → Option I) (xs : List I)
    → ((k : ℕ) (x : I) → k < length xs → IsSome (f (slice_index_or xs k x)))
    → recast_answer f xs ≡ Ok tt
all_renamed f [] all = refl
all_renamed f (x ∷ xs) all =
    by_image (f x) (all 0 x (omega arith))
    (all_renamed f xs (λ k y below. all (suc k) y (omega (arith, below))))
  where
    by_image : (o : Option _) → IsSome o → recast_answer f xs ≡ Ok tt
        → answer_before o x (recast_answer f xs) ≡ Ok tt
    by_image None some rest = absurd (true≢false (sym some))
    by_image (Some y) some rest = rest

found_retold : {T : Type 0} (g : ℕ) (retold : T → T) (o : Option (ℕ × T))
    → value_if g (option_map (λ (e : ℕ × T). (e.0, retold e.1)) o)
    ≡ option_map retold (value_if g o)
found_retold g retold None = refl
found_retold g retold (Some e) =
    elim (eqb_tells e.0 g) [
      | inl same ↦ rw same.0 refl
      | inr other ↦ rw other.0 refl
    ]

-- values that stand in a row are each retold, where each name in them has a new one
retold_row : {I T : Type 0} (items : T → List I) (f : I → Option I) (retold : T → T) (g : ℕ)
    (values : List T)
    → recast_answer f (flat_map items values) ≡ Ok tt
    → slots_recasted items f retold (map (λ t. Some (g, t)) values)
    ≡ map (λ t. Some (g, t)) (map retold values)
retold_row items f retold g [] ok = refl
retold_row {I} {T} items f retold g (t ∷ values) ok =
    ap (λ l. Some (g, retold t) ∷ l)
    (go_on (recast_answer f (items t))
    (sym (recast_answer-append f (items t) (flat_map items values)) ∙ ok)
    (retold_row items f retold g values))
  where
    go_on : (r : Result (Unit {0}) I)
        → where_ok r (recast_answer f (flat_map items values)) r ≡ Ok tt
        → (recast_answer f (flat_map items values) ≡ Ok tt
        → slots_recasted items f retold (map (λ t. Some (g, t)) values)
        ≡ map (λ t. Some (g, t)) (map retold values))
        → where_ok r (slots_recasted items f retold (map (λ t. Some (g, t)) values))
        (map (λ t. Some (g, t)) values)
        ≡ map (λ t. Some (g, t)) (map retold values)
    go_on (Ok _) whole rest = rest whole
    go_on (Err x) whole rest = absurd (cc)

module _ {P T : Type 0} (index generation : P → ℕ) (items : T → List P) {old mid : Content T}
    {map_of : DirectContent P} where
  names_new : IsRenaming index generation old mid map_of
      → AllNamed index generation items old (content_items items old)
      → recast_answer (by_map index generation map_of) (content_items items old) ≡ Ok tt
  names_new r named =
      all_renamed (by_map index generation map_of) (content_items items old)
      (λ k p below. (r.renames (index (slice_index_or (content_items items old) k p))
      (generation (slice_index_or (content_items items old) k p))).0
      (named k p below))

  -- each name in the nodes that moved has a new one
  pub all_named : IsRenaming index generation old mid map_of → live_values mid ≡ live_values old
      → AllNamed index generation items old (content_items items old)
      → recast_answer (by_map index generation map_of) (content_items items mid) ≡ Ok tt
  all_named r kept named =
      let same : content_items items mid ≡ content_items items old = ap (flat_map items) kept in
      ap (recast_answer (by_map index generation map_of)) same ∙ names_new r named

  -- the document under its new names
  pub is_renamed : (g : ℕ) (retold : T → T) {new : Content T}
      → IsRenaming index generation old mid map_of
      → mid ≡ compacted g (live_values old) old → live_values mid ≡ live_values old
      → AllNamed index generation items old (content_items items old)
      → ((t : T) → items (retold t) ≡ renamed (by_map index generation map_of) (items t))
      → new ≡ content_recasted items (by_map index generation map_of) retold mid
      → IsRenamedDocument index generation items g (new_name map_of) retold old new
  is_renamed g retold {new} r moved kept all each is =
      record {
        exact =
            is
            ∙ ap (content_recasted items (by_map index generation map_of) retold) moved
            ∙ ap in_slots (retold_row items (by_map index generation map_of) retold g
            (live_values old) (names_new r all));
        named = r.renames;
        nodes = at;
        names_in = λ i h q t name found. by_node i h q t (get old i h) refl name
            (sym (at i h q name) ∙ found);
        apart = r.apart;
        onto = λ j k some. r.onto j k
            (was_some (get mid j k) (sym (ap is_some (found j k)) ∙ some));
      }
    where
      in_slots : List (Option (ℕ × T)) → Content T
      in_slots slots = record { slots = slots; counter = g; free = []; room = old.room }

      ok : recast_answer (by_map index generation map_of) (content_items items mid) ≡ Ok tt
      ok = all_named r kept all

      found : (j k : ℕ) → get new j k ≡ option_map retold (get mid j k)
      found j k =
          ap (λ c. get c j k) is
          ∙ ap (value_if k) (entry-recasted items (by_map index generation map_of) retold mid ok j)
          ∙ found_retold k retold (entry_at mid j)

      at : (i h : ℕ) (q : P) → new_name map_of i h ≡ Some q
          → node index generation items new q ≡ option_map retold (get old i h)
      at i h q name = found (index q) (generation q) ∙ ap (option_map retold) (r.follows i h q name)

      was_some : (o : Option T) → is_some (option_map retold o) ≡ true → IsSome o
      was_some None some = some
      was_some (Some t) some = refl

      by_node : (i h : ℕ) (q : P) (t : T) (o : Option T) → get old i h ≡ o
          → new_name map_of i h ≡ Some q
          → option_map retold (get old i h) ≡ Some t
          → option_map (λ u. renamed (by_map index generation map_of) (items u)) (get old i h)
          ≡ Some (items t)
      by_node i h q t None e name told = absurd (let none : None ≡ Some t = rw e at told in cc)
      by_node i h q t (Some u) e name told =
          let is : Some (retold u) ≡ Some t = rw e at told in
          let same : retold u ≡ t = cc in
          rw e (ap Some (sym (each u) ∙ ap items same))
