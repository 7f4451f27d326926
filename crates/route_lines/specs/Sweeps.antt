-- What calls make of the counters of a store, and how many looks their sweeps make.
use Rattle.std.specs.Prelude.{◌≡◌, ℕ, ◌+◌, ◌-◌, ◌*◌, ◌/◌, ◌<◌, ◌≤◌, List, [], ◌∷◌}

-- the counters of the places and of the stops, and the looks so far
pub record Tally : Type 0 where
  pub places : ℕ
  pub stops : ℕ
  pub looks : ℕ

-- what a call does: the end of a place or a stop, which may have to pack first, a pack, or neither
pub data Step : Type 0 where
  EndPlace : Step
  EndStop : Step
  EndPlaceAfterPack : Step
  EndStopAfterPack : Step
  Pack : Step
  Other : Step

-- what a step makes of the tally, where generations go up to `top` and a sweep makes so many looks
-- at most. An end counts up, and packs first if its counter is at the top.
abbrev pub IsStep : ℕ → ℕ → Step → Tally → Tally → Type 0
IsStep top most EndPlace a b = (a.places < top)
    × ((b.places ≡ a.places + 1) × ((b.stops ≡ a.stops) × (b.looks ≡ a.looks)))
IsStep top most EndStop a b = (a.stops < top)
    × ((b.stops ≡ a.stops + 1) × ((b.places ≡ a.places) × (b.looks ≡ a.looks)))
IsStep top most EndPlaceAfterPack a b = (a.places ≡ top)
    × ((b.places ≡ 3) × ((b.stops ≡ 2) × (b.looks ≤ a.looks + most)))
IsStep top most EndStopAfterPack a b = (a.stops ≡ top)
    × ((b.stops ≡ 3) × ((b.places ≡ 2) × (b.looks ≤ a.looks + most)))
IsStep top most Pack a b = (b.places ≡ 2) × ((b.stops ≡ 2) × (b.looks ≤ a.looks + most))
IsStep top most Other a b = (b.places ≡ a.places) × ((b.stops ≡ a.stops) × (b.looks ≡ a.looks))

-- step after step
abbrev pub AreSteps : ℕ → ℕ → List Step → Tally → Tally → Type 0
AreSteps top most [] a b = a ≡ b
AreSteps top most (step ∷ steps) a b = (mid : Tally)
    × (IsStep top most step a mid × AreSteps top most steps mid b)

-- how many of the steps are packs, and how many end a place or a stop
abbrev pub is_pack : Step → ℕ
is_pack EndPlace = 0
is_pack EndStop = 0
is_pack EndPlaceAfterPack = 0
is_pack EndStopAfterPack = 0
is_pack Pack = 1
is_pack Other = 0

abbrev pub is_removal : Step → ℕ
is_removal EndPlace = 1
is_removal EndStop = 1
is_removal EndPlaceAfterPack = 1
is_removal EndStopAfterPack = 1
is_removal Pack = 0
is_removal Other = 0

abbrev pub packs : List Step → ℕ
packs [] = 0
packs (step ∷ steps) = is_pack step + packs steps

abbrev pub removals : List Step → ℕ
removals [] = 0
removals (step ∷ steps) = is_removal step + removals steps

-- from counters that are both 2, steps make at most so many looks
abbrev pub AreFew : Type 0
AreFew =
    (top most : ℕ) (steps : List Step) (a b : Tally) → 3 ≤ top → a.places ≡ 2 → a.stops ≡ 2
    → AreSteps top most steps a b
    → b.looks ≤ a.looks + (packs steps + removals steps / (top - 2)) * most
