-- A list that is written in pieces: a line for each item, and then `end`.
use Rattle.std.proofs.Common.{◌≡◌, ◌∙◌, ◌++◌, [], ◌∷◌, ℕ, List, Option, flat_map, codes, ap, sym}
use Rattle.std.proofs.Common.{subst, append-nil, append_assoc}
use Rattle.std.specs.Io.KnownBytes.{Appends}
use Rattle.std.proofs.KnownBytes.{Appends-nil, Appends-trans}
use Rattle.route_lines.specs.Reply.{ended}
use Rattle.route_lines.specs.Written.{AppendsBeginning}
use Rattle.route_lines.specs.WrittenLaws.{begun}

module _ {X : Type 0} (line : X → List ℕ) where
  abbrev pub lines_of : List X → List ℕ
  lines_of items = flat_map (λ x. ended (line x)) items

  abbrev pub list_text : List X → List ℕ
  list_text items = lines_of items ++ ended (codes "end")

  -- nothing is gathered yet
  pub none_yet : (held : Option (List ℕ)) (all left : List X) (text : List ℕ) → left ≡ all
      → text ≡ [] → (sent : List ℕ) × (lines_of all ≡ (sent ++ text) ++ lines_of left)
      × Appends held held sent
  none_yet held all left text same empty =
      ([], ap lines_of (sym same) ∙ ap (λ t. t ++ lines_of left) (sym empty), Appends-nil held)

  -- the line of one more item is gathered
  pub line_more : (all left rest : List X) (x : X) (sent text gone kept new : List ℕ)
      → lines_of all ≡ (sent ++ text) ++ lines_of left → left ≡ x ∷ rest → text ≡ gone ++ kept
      → new ≡ kept ++ ended (line x) → lines_of all ≡ ((sent ++ gone) ++ new) ++ lines_of rest
  line_more all left rest x sent text gone kept new before first split more =
      before
      ∙ ap (λ t. (sent ++ t) ++ lines_of left) split
      ∙ ap (λ xs. (sent ++ (gone ++ kept)) ++ lines_of xs) first
      ∙ ap (λ t. t ++ (ended (line x) ++ lines_of rest)) (sym (append_assoc sent gone kept))
      ∙ sym (append_assoc ((sent ++ gone) ++ kept) (ended (line x)) (lines_of rest))
      ∙ ap (λ t. t ++ lines_of rest)
      (append_assoc (sent ++ gone) kept (ended (line x))
      ∙ ap (λ t. (sent ++ gone) ++ t) (sym more))

  -- a failed write of what was gathered breaks off within the text
  pub broken_off : (a b c : Option (List ℕ)) (all left : List X) (sent text : List ℕ)
      → lines_of all ≡ (sent ++ text) ++ lines_of left → Appends a b sent
      → AppendsBeginning b c text
      → AppendsBeginning a c (list_text all)
  broken_off a b c all left sent text before written begins =
      begun a b c sent text (lines_of left ++ ended (codes "end")) (list_text all)
      (ap (λ t. t ++ ended (codes "end")) before
      ∙ append_assoc (sent ++ text) (lines_of left) (ended (codes "end"))) written begins

  -- the last piece: what is still to be sent and the line that ends the list
  last_piece : (all left : List X) (sent text gone kept new : List ℕ)
      → lines_of all ≡ (sent ++ text) ++ lines_of left → left ≡ [] → text ≡ gone ++ kept
      → new ≡ kept ++ ended (codes "end")
      → list_text all ≡ (sent ++ gone) ++ new
  last_piece all left sent text gone kept new before none split line =
      ap (λ t. t ++ ended (codes "end"))
      (before ∙ ap (λ xs. (sent ++ text) ++ lines_of xs) none ∙ append-nil (sent ++ text)
      ∙ ap (λ t. sent ++ t) split ∙ sym (append_assoc sent gone kept))
      ∙ append_assoc (sent ++ gone) kept (ended (codes "end"))
      ∙ ap (λ t. (sent ++ gone) ++ t) (sym line)

  -- with the last piece the whole text is written
  pub written_last : (a b c d : Option (List ℕ)) (all left : List X)
      (sent text gone kept new : List ℕ) → lines_of all ≡ (sent ++ text) ++ lines_of left
      → left ≡ [] → text ≡ gone ++ kept
      → new ≡ kept ++ ended (codes "end") → Appends a b sent → Appends b c gone → Appends c d new
      → Appends a d (list_text all)
  written_last a b c d all left sent text gone kept new before none split line written moved last =
      subst (Appends a d) (sym (last_piece all left sent text gone kept new before none split line))
      (Appends-trans a c d (sent ++ gone) new (Appends-trans a b c sent gone written moved) last)

  -- a failed write of it breaks off too
  pub broken_off_last : (a b c d : Option (List ℕ)) (all left : List X)
      (sent text gone kept new : List ℕ) → lines_of all ≡ (sent ++ text) ++ lines_of left
      → left ≡ [] → text ≡ gone ++ kept
      → new ≡ kept ++ ended (codes "end") → Appends a b sent → Appends b c gone
      → AppendsBeginning c d new → AppendsBeginning a d (list_text all)
  broken_off_last a b c d all left sent text gone kept new before none split line written moved
      begins =
      begun a c d (sent ++ gone) new [] (list_text all)
      (last_piece all left sent text gone kept new before none split line
      ∙ sym (append-nil ((sent ++ gone) ++ new)))
      (Appends-trans a b c sent gone written moved) begins
