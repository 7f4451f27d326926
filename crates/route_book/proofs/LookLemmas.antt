-- How many looks a line makes at most.
use Rattle.std.proofs.Common.{◌≡◌, refl, ℕ, ◌+◌, Bool, true, false, Option, Some, None, Result, Ok}
use Rattle.std.proofs.Common.{Err, arith}
use Rattle.ticket_book.specs.declared.entry.Kind.{Kind}
use Rattle.route_lines.specs.Searches.{LooksWithin, most_looks, references_in}
use Rattle.route_lines.specs.State.{Item, holder}
use Rattle.route_lines.specs.declared.command.Command.{Command}
use Rattle.route_lines.specs.declared.command.Command.TheVariants.{Place, Word, Show, Find, Floor}
use Rattle.route_lines.specs.declared.command.Command.TheVariants.{After, Before, All, Start}
use Rattle.route_lines.specs.declared.command.Command.TheVariants.{Extend}
use Rattle.route_lines.specs.declared.command.Command.TheVariants.{Join, Cut, Swap, Walk, Mark}
use Rattle.route_lines.specs.declared.command.Command.TheVariants.{Remove, Pack}
use Rattle.route_lines.specs.declared.refusal.Refusal.{Refusal}
use Rattle.route_book.specs.Book.{Book}
use Rattle.route_book.specs.Removals.{IsEnded, IsPacked, IsRemoved, Removes, Steps}
use Rattle.route_book.specs.Removals.{kind_of, removal_wraps}

no_look : (before after most : ℕ) → after ≡ before → LooksWithin before after most
no_look before after most same = record { rise = omega (arith, same); few = omega (arith, same) }

so_many : (before after most : ℕ) → after ≡ before + most → LooksWithin before after most
so_many before after most sum = record { rise = omega (arith, sum); few = omega (arith, sum) }

module _ (last : Option ℕ) (before after : ℕ) (old new : Book) where
  abbrev Few : Type 0
  Few = LooksWithin before after (references_in old.state)

  removal : (kind : Kind) (t : ℕ) (b : Bool) → removal_wraps last old kind ≡ b
      → IsRemoved last kind t before after old new → Few
  removal kind t false is h =
      let ended : (after ≡ before) × IsEnded last kind t old new = rw is at h in
      no_look before after _ ended.0
  removal kind t true is h =
      let ended : (packed : Book) × ((packed.state ≡ old.state)
      × (IsPacked last before after old packed × IsEnded last kind t packed new)) =
      rw is at h in
      let pack = ended.1.1.0 in
      so_many before after _ pack.looks

  removes : (t : ℕ) (r : Result Item Refusal) → Removes last t before after old new r → Few
  removes t (Ok item) h = removal (kind_of item) t (removal_wraps last old (kind_of item)) refl h
  removes t (Err refusal) h = no_look before after _ h.1

  pub line_looks : (command : Option Command) → Steps last command before after old new
      → LooksWithin before after (most_looks old.state command)
  line_looks None h = no_look before after 0 h.1
  line_looks (Some (Remove t)) h = removes t (holder old.state t) h
  line_looks (Some Pack) h = so_many before after _ h.looks
  line_looks (Some (Place key word near)) h = no_look before after 0 h.1
  line_looks (Some (Word ticket word)) h = no_look before after 0 h.1
  line_looks (Some (Show t)) h = no_look before after 0 h.1
  line_looks (Some (Find key)) h = no_look before after 0 h.1
  line_looks (Some (Floor key)) h = no_look before after 0 h.1
  line_looks (Some (After t)) h = no_look before after 0 h.1
  line_looks (Some (Before t)) h = no_look before after 0 h.1
  line_looks (Some All) h = no_look before after 0 h.1
  line_looks (Some (Start at)) h = no_look before after 0 h.1
  line_looks (Some (Extend t at)) h = no_look before after 0 h.1
  line_looks (Some (Join t u)) h = no_look before after 0 h.1
  line_looks (Some (Cut t)) h = no_look before after 0 h.1
  line_looks (Some (Swap t u)) h = no_look before after 0 h.1
  line_looks (Some (Walk t)) h = no_look before after 0 h.1
  line_looks (Some (Mark at t)) h = no_look before after 0 h.1
