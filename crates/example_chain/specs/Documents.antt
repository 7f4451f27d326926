-- A document: nodes that name one another by pointers.
use Rattle.std.specs.Prelude.{◌≡◌, ◌↔◌, ℕ, ◌<◌, List, length, map, slice_index_or, Option, Some}
use Rattle.std.specs.Prelude.{IsSome}
use Rattle.std.specs.Option.{option_map}
use Rattle.triple_arena_ptr.specs.Recast.{renamed}
use Rattle.triple_arena.specs.Compression.{compacted, live_values}
use Rattle.triple_arena.specs.Content.{Content, get}

module _ {P T : Type 0} (index generation : P → ℕ) (names : T → List P) where
  -- the node that a pointer names, if there is one
  abbrev pub node : Content T → P → Option T
  node c p = get c (index p) (generation p)

  -- each name in this list names a node
  abbrev pub AllNamed : Content T → List P → Type 0
  AllNamed c ps = (k : ℕ) (p : P) → k < length ps → IsSome (node c (slice_index_or ps k p))

  -- the nodes alone, in their order, at the indexes from 1 on, each retold, where these and the
  -- counter have this generation. Each index and generation that had a node, and no other, has a
  -- new name, which names that node; two have two, and each node has one. The names in a node are
  -- the new names of those that were in it
  pub record IsRenamedDocument (g : ℕ) (new_name : ℕ → ℕ → Option P) (retold : T → T)
      (old new : Content T) : Type 0 where
    pub exact : new ≡ compacted g (map retold (live_values old)) old
    pub named : (i h : ℕ) → IsSome (get old i h) ↔ IsSome (new_name i h)
    pub nodes : (i h : ℕ) (q : P) → new_name i h ≡ Some q
        → node new q ≡ option_map retold (get old i h)
    pub names_in : (i h : ℕ) (q : P) (t : T) → new_name i h ≡ Some q → node new q ≡ Some t
        → option_map (λ u. renamed (λ p. new_name (index p) (generation p)) (names u)) (get old i h)
        ≡ Some (names t)
    pub apart : (i h : ℕ) (q : P) (i' h' : ℕ) (q' : P) → new_name i h ≡ Some q
        → new_name i' h' ≡ Some q' → index q ≡ index q'
        → (i ≡ i') × (h ≡ h')
    pub onto : (j k : ℕ) → IsSome (get new j k)
        → (i : ℕ) × (h : ℕ) × (q : P) × (new_name i h ≡ Some q) × (index q ≡ j) × (generation q ≡ k)
