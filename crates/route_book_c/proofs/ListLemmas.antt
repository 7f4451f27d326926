-- A list that is written line by line into room of the caller: a line for each item, and `end`.
use Rattle.std.proofs.Common.{◌≡◌, ◌∙◌, sym, ap, subst, ℕ, List, [], ◌∷◌, ◌++◌, codes}
use Rattle.std.proofs.Common.{append_assoc, Option, Some, None, IfSome}
use Rattle.route_lines.specs.Reply.{ended}
use Rattle.route_book.proofs.ListedLemmas.{lines_of, list_text}
use Rattle.route_book_c.specs.Lines.{Wrote}
use Rattle.route_book_c.proofs.RoomLemmas.{Wrote-more}

module _ {X : Type 0} (line : X → List ℕ) where
  -- of the lines of all items those of the items that are left are still to be written
  pub record Listed (all left : List X) (at end : ℕ) (old new : List ℕ) : Type 0 where
    pub sent : List ℕ
    pub lines : lines_of line all ≡ sent ++ lines_of line left
    pub wrote : Wrote at end sent old new

  pub Listed-more : (all left rest : List X) (x : X) (a b c : ℕ)
      (new text before old mid room : List ℕ) → Listed all left a b old mid → left ≡ x ∷ rest
      → new ≡ text → text ≡ before ++ ended (line x) → before ≡ [] → Wrote b c new mid room
      → Listed all rest a c old room
  Listed-more all left rest x a b c new text before old mid room listed first same more none wrote
      = record {
        sent = listed.sent ++ new;
        lines =
            listed.lines
            ∙ ap (λ l. listed.sent ++ lines_of line l) first
            ∙ sym (append_assoc listed.sent (ended (line x)) (lines_of line rest))
            ∙ ap (λ l. (listed.sent ++ (l ++ ended (line x))) ++ lines_of line rest) (sym none)
            ∙ ap (λ l. (listed.sent ++ l) ++ lines_of line rest) (sym (same ∙ more));
        wrote = Wrote-more listed.wrote wrote;
      }

  -- the whole text, by what is sent and what is left
  whole : (all left : List X) (a b : ℕ) (old mid : List ℕ) (listed : Listed all left a b old mid)
      → list_text line all ≡ listed.sent ++ list_text line left
  whole all left a b old mid listed =
      ap (λ l. l ++ ended (codes "end")) listed.lines
      ∙ append_assoc listed.sent (lines_of line left) (ended (codes "end"))

  -- the last line
  last_is : (all left : List X) (a b : ℕ) (new old mid : List ℕ)
      (listed : Listed all left a b old mid) → left ≡ [] → new ≡ ended (codes "end")
      → list_text line all ≡ listed.sent ++ new
  last_is all left a b new old mid listed none is =
      whole all left a b old mid listed
      ∙ ap (λ l. listed.sent ++ list_text line l) none
      ∙ ap (λ l. listed.sent ++ l) (sym is)

  pub Listed-wrote : (all left : List X) (a b : ℕ) (new old mid room : List ℕ) (r : Option ℕ)
      → Listed all left a b old mid → left ≡ [] → new ≡ ended (codes "end")
      → IfSome r (λ end. Wrote b end new mid room)
      → IfSome r (λ end. Wrote a end (list_text line all) old room)
  Listed-wrote all left a b new old mid room None listed none is wrote = tt
  Listed-wrote all left a b new old mid room (Some end) listed none is wrote =
      subst (λ l. Wrote a end l old room)
      (sym (last_is all left a b new old mid listed none is)) (Wrote-more listed.wrote wrote)
