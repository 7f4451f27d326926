use Rattle.std.proofs.Common.{◌≡◌, ◌+◌, ◌∙◌, ℕ, List, ap, length, take, drop, map, arith, inl, inr}
use Rattle.triple_arena_ord.specs.OrderedWalks.{entries_left}
use Rattle.ord_map_c.specs.Entries.{Entry, key_of, pointer_of, value_of}
use Rattle.ord_map_c.specs.State.{pair_of}
use Rattle.ord_map_c.proofs.ReadLemmas.{last_part, mapped_drop, mapped_length, parts_length, placed}
use Rattle.ord_map_c.proofs.ReadLemmas.{taken_length, written}
use Rattle.ord_map_c.proofs.entries.read.Goals.{After-place}
use Rattle.ord_map_c.proofs.entries.read.Goals as goal

module _ (c : After-place) where
  abbrev n : ℕ
  n = c.fill-count.result

  abbrev left : List Entry
  left = entries_left c.args.entries.now c.fill-count.new.walk

  abbrev run : List Entry
  run = entries_left c.args.entries.now c.args.walk

  -- as many handles and keys were written
  handles_size : length (map pair_of (take n c.fill-count.new.handles)) ≡ n
  handles_size =
      let fits = c.fill-count.ensures.fits.0 in
      let same = c.fill-count.ensures.lengths.0 in
      mapped_length pair_of (take n c.fill-count.new.handles)
      ∙ taken_length c.fill-count.new.handles n (omega (arith, fits, same))

  keys_size : length (take n c.fill-count.new.keys) ≡ n
  keys_size =
      let fits = c.fill-count.ensures.fits.1.0 in
      let same = c.fill-count.ensures.lengths.1.0 in
      taken_length c.fill-count.new.keys n (omega (arith, fits, same))

  all_read : n + length left ≡ length run
  all_read =
      let size = keys_size in
      let sum = parts_length (take n c.fill-count.new.keys) (map key_of left) (map key_of run)
      c.fill-count.ensures.keys in
      let all = mapped_length key_of run in
      let rest = mapped_length key_of left in
      omega (arith, size, sum, all, rest)

pub returns-clause-handles : goal.returns-clause-handles
returns-clause-handles c =
    written pointer_of (map pair_of (take (n c) c.fill-count.new.handles)) (left c) (run c) (n c)
    (handles_size c) c.fill-count.ensures.handles

pub returns-clause-keys : goal.returns-clause-keys
returns-clause-keys c =
    written key_of (take (n c) c.fill-count.new.keys) (left c) (run c) (n c) (keys_size c)
    c.fill-count.ensures.keys

pub returns-clause-values : goal.returns-clause-values
returns-clause-values c =
    let vs = c.fill-count.new.values in
    let fits = c.fill-count.ensures.fits.1.1 in
    let same = c.fill-count.ensures.lengths.1.1 in
    written value_of (take (n c) vs) (left c) (run c) (n c)
    (taken_length vs (n c) (omega (arith, fits, same))) c.fill-count.ensures.values

pub returns-clause-next : goal.returns-clause-next
returns-clause-next c =
    let rest = last_part (map pair_of (take (n c) c.fill-count.new.handles))
    (map pointer_of (left c)) (map pointer_of (run c)) (n c) (handles_size c)
    c.fill-count.ensures.handles in
    c.place.ensures
    ∙ placed (left c) (drop (n c) (run c)) (rest ∙ mapped_drop pointer_of (n c) (run c))

pub returns-clause-within : goal.returns-clause-within
returns-clause-within c = let sum = all_read c in omega (arith, sum)

pub returns-clause-all : goal.returns-clause-all
returns-clause-all c =
    let sum = all_read c in
    elim c.fill-count.ensures.all [
      | inl full ↦ inl full
      | inr other ↦ elim other [
        | inl full ↦ inr (inl full)
        | inr others ↦ elim others [
          | inl full ↦ inr (inr (inl full))
          | inr none ↦
              let empty = ap length none in
              inr (inr (inr (omega (arith, sum, empty))))
        ]
      ]
    ]
