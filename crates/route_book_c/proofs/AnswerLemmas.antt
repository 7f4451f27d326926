-- Lines that are carried out one after another, with their replies in room of the caller.
use Rattle.std.proofs.Common.{◌≡◌, ◌∙◌, sym, ap, subst, refl, ℕ, ◌+◌, ◌-◌, ◌<◌, ◌≤◌, ◌==◌}
use Rattle.std.proofs.Common.{true, false, true≢false, inl, inr, Option, None}
use Rattle.std.proofs.Common.{List, [], ◌∷◌, ◌++◌, length, map, flat_map, take, drop, arith}
use Rattle.std.proofs.Common.{append_assoc, append-nil, length-append, length-drop}
use Rattle.std.proofs.lemmas.Bool.Decides.{leb_tells}
use Rattle.std.specs.List.{AllByRecursion, slice_split}
use Rattle.std.proofs.lemmas.List.{map-append}
use Rattle.std.proofs.lemmas.List.Concat.{flat_map-append}
use Rattle.std.proofs.lemmas.List.Elements.{All-nil}
use Rattle.std.proofs.lemmas.List.Splits.{slice_split_at, length-slice_split}
use Rattle.std.proofs.Math.Seq.{take_all, take_at, drop_at, drop-drop}
use Rattle.route_lines.specs.State.{State}
use Rattle.route_lines.specs.Grammar.{command_of}
use Rattle.route_lines.specs.Reply.{ended, next, reply}
use Rattle.route_lines.specs.Text.{whole, unended, after, after_lines, front, lines, replies}
use Rattle.route_lines.specs.Text.{command_in, rest_of, text, unended_line, whole_lines}
use Rattle.route_lines.specs.Unfinished.{Cuts, HasNoLineEnd}
use Rattle.route_lines.specs.RunLaws.{after_lines-append, each-append, lines-cut, lines-ended}
use Rattle.route_lines.specs.RunLaws.{replies-append, rest_of-cut}
use Rattle.route_lines.specs.declared.command.Command.{Command}
use Rattle.route_book_c.specs.Lines.{Answers, Lacks, Wrote, room_for}
use Rattle.route_book_c.proofs.RoomLemmas.{Wrote-length, Wrote-more, Wrote-none, Wrote-rest}
use Rattle.route_book_c.proofs.RoomLemmas.{Wrote-taken}

-- the lines before what is left are carried out, and their replies stand in the room
pub record Carried (input left : List ℕ) (s t : State) (written : ℕ) (old new : List ℕ) : Type 0
  where
    pub lines : List (List ℕ)
    pub is : input ≡ flat_map ended lines ++ left
    pub each : AllByRecursion HasNoLineEnd lines
    pub state : t ≡ after_lines s (map whole lines)
    pub wrote : Wrote 0 written (replies s (map whole lines)) old new

pub Carried-none : (input : List ℕ) (s : State) (room : List ℕ)
    → Carried input input s s 0 room room
Carried-none input s room = record {
  lines = [];
  is = refl;
  each = tt;
  state = refl;
  wrote = Wrote-none 0 room (omega arith);
}

-- one line more
pub Carried-line : (input left line behind : List ℕ) (command : Option Command) (s t u : State)
    (a b : ℕ) (old mid new : List ℕ) → Carried input left s t a old mid
    → left ≡ line ++ 10 ∷ behind → HasNoLineEnd line → command ≡ command_of line
    → u ≡ next t command → Wrote a b (reply t command) mid new → Carried input behind s u b old new
Carried-line input left line behind command s t u a b old mid new carried split none spells state
    wrote = record {
      lines = carried.lines ++ line ∷ [];
      is =
          carried.is
          ∙ ap (λ l. flat_map ended carried.lines ++ l) split
          ∙ ap (λ l. flat_map ended carried.lines ++ l) (sym (append_assoc line (10 ∷ []) behind))
          ∙ sym (append_assoc (flat_map ended carried.lines) (ended line) behind)
          ∙ ap (λ l. (flat_map ended carried.lines ++ l) ++ behind) (sym (append-nil (ended line)))
          ∙ ap (λ l. l ++ behind) (sym (flat_map-append ended carried.lines (line ∷ [])));
      each = each-append carried.lines (line ∷ []) carried.each (none, tt);
      state =
          state
          ∙ ap (next t) spells
          ∙ ap (λ x. next x (command_of line)) carried.state
          ∙ sym (after_lines-append s (map whole carried.lines) (whole line ∷ []))
          ∙ ap (after_lines s) (sym (map-append whole carried.lines (line ∷ [])));
      wrote = subst (λ l. Wrote 0 b l old new) told (Wrote-more carried.wrote wrote);
    }
  where
    told : replies s (map whole carried.lines) ++ reply t command
        ≡ replies s (map whole (carried.lines ++ line ∷ []))
    told =
        ap (λ x. replies s (map whole carried.lines) ++ reply t x) spells
        ∙ ap (λ x. replies s (map whole carried.lines) ++ reply x (command_of line)) carried.state
        ∙ ap (λ l. replies s (map whole carried.lines) ++ l)
        (sym (append-nil (reply (after_lines s (map whole carried.lines)) (command_of line))))
        ∙ sym (replies-append s (map whole carried.lines) (whole line ∷ []))
        ∙ ap (replies s) (sym (map-append whole carried.lines (line ∷ [])))

module _ {input left : List ℕ} {s t : State} {written : ℕ} {old new : List ℕ}
    (carried : Carried input left s t written old new) where
  abbrev upto : ℕ
  upto = length input - length left

  count : length (flat_map ended carried.lines) ≡ upto
  count =
      omega (arith, ap length carried.is, length-append (flat_map ended carried.lines) left)

  front_is : take upto input ≡ flat_map ended carried.lines
  front_is = ap (take upto) carried.is
      ∙ take_at (flat_map ended carried.lines) left upto count

  pub left_is : drop upto input ≡ left
  left_is = ap (drop upto) carried.is
      ∙ drop_at (flat_map ended carried.lines) left upto count

  cuts : Cuts (take upto input) carried.lines []
  cuts = record {
    whole = front_is ∙ sym (append-nil (flat_map ended carried.lines));
    each = carried.each;
    last = All-nil (λ b. (b == 10) ≡ false);
  }

  lines_are : lines (take upto input) ≡ map whole carried.lines
  lines_are = lines-cut (take upto input) carried.lines [] cuts
      ∙ append-nil (map whole carried.lines)

  pub Carried-answers : Answers s input upto t (take written new)
  Carried-answers = record {
    within = omega (arith, ap length carried.is, length-append (flat_map ended carried.lines) left);
    ends = rest_of-cut (take upto input) carried.lines [] cuts;
    state = carried.state ∙ ap (after_lines s) (sym lines_are);
    replies = Wrote-taken carried.wrote ∙ ap (replies s) (sym lines_are);
  }

  -- the lines that are left are those of what is left
  pub Carried-cut : lines input ≡ lines (take upto input) ++ lines (drop upto input)
  Carried-cut =
      ap lines carried.is
      ∙ lines-ended carried.lines left carried.each
      ∙ ap (λ ls. ls ++ lines left) (sym lines_are)
      ∙ ap (λ l. lines (take upto input) ++ lines l) (sym left_is)

-- a line with its LF is the first whole line, whatever follows
whole_first : (x more : List ℕ) → HasNoLineEnd x
    → whole_lines (x ++ 10 ∷ more) ≡ x ∷ whole_lines more
whole_first x more none =
    ap front (slice_split_at (λ b. b == 10) x 10 more none refl)
    ∙ behind_first x (slice_split (λ b. b == 10) more)
    (omega (arith, length-slice_split (λ b. b == 10) more))
  where
    behind_first : (p : List ℕ) (ps : List (List ℕ)) → 0 < length ps
        → front (p ∷ ps) ≡ p ∷ front ps
    behind_first p [] some = absurd (omega arith)
    behind_first p (q ∷ ps) some = refl

-- the next line has no room
pub Carried-short : (input left line behind : List ℕ) (command : Option Command) (s t u : State)
    (written : ℕ) (old mid : List ℕ) → (carried : Carried input left s t written old mid)
    → left ≡ line ++ 10 ∷ behind → HasNoLineEnd line → command ≡ command_of line → u ≡ t
    → (written + room_for t command ≤ length mid → false ≡ true)
    → Lacks u (map whole (whole_lines (drop (length input - length left) input)))
    (length old - written)
Carried-short input left line behind command s t u written old mid carried split none spells same
    full = record {
      line = whole line;
      behind = map whole (whole_lines behind);
      first = ap (λ l. map whole (whole_lines l)) (left_is carried ∙ split)
          ∙ ap (map whole) (whole_first line behind none);
      short = subst (λ x. length old - written < room_for x (command_of line)) (sym same)
          (subst (λ x. length old - written < room_for t x) spells less);
    }
  where
    less : length old - written < room_for t command
    less = elim (leb_tells (written + room_for t command) (length mid)) [
      | inl fits ↦ absurd (true≢false (sym (full fits.1)))
      | inr more ↦ omega (arith, more.1, Wrote-length carried.wrote, carried.wrote.fits)
    ]

-- the same state and the same answer
pub Answers-same : (input : List ℕ) (s t u : State) (taken : ℕ) (a b : List ℕ)
    → Answers s input taken t a → u ≡ t → b ≡ a → Answers s input taken u b
Answers-same input s t u taken a b answers state text = record {
  within = answers.within;
  ends = answers.ends;
  state = state ∙ answers.state;
  replies = text ∙ answers.replies;
}

-- ---- the whole input

-- what has no LF is one line, or none
unended_lines : (rest : List ℕ) → HasNoLineEnd rest → lines rest ≡ unended_line rest
unended_lines rest none = lines-cut rest [] rest (record { whole = refl; each = tt; last = none })

some_rest : (rest : List ℕ) → 0 < length rest → unended_line rest ≡ unended rest ∷ []
some_rest [] some = absurd (omega arith)
some_rest (x ∷ rest) some = refl

-- what is left is answered as a line that spells no command
pub replies_rest : (input : List ℕ) (s t : State) (taken a b : ℕ) (mid new : List ℕ)
    → Answers s input taken t (take a mid) → HasNoLineEnd (drop taken input)
    → lines input ≡ lines (take taken input) ++ lines (drop taken input)
    → 0 < length (drop taken input) → Wrote a b (reply t None) mid new
    → take b new ≡ text s (take (length input) input)
replies_rest input s t taken a b mid new answers none cut some wrote =
    Wrote-taken wrote
    ∙ ap (λ l. l ++ reply t None) answers.replies
    ∙ ap (λ x. text s (take taken input) ++ reply x None) answers.state
    ∙ ap (λ l. text s (take taken input) ++ l)
    (sym (append-nil (reply (after s (take taken input)) None)))
    ∙ sym (replies-append s (lines (take taken input)) (unended (drop taken input) ∷ []))
    ∙ ap (λ ls. replies s (lines (take taken input) ++ ls)) (sym left)
    ∙ ap (replies s) (sym cut)
    ∙ ap (text s) (sym (take_all (length input) input (omega arith)))
  where
    left : lines (drop taken input) ≡ unended (drop taken input) ∷ []
    left = unended_lines (drop taken input) none ∙ some_rest (drop taken input) some

pub some_left : (input : List ℕ) (taken : ℕ) → taken ≤ length input
    → ¬ (taken ≡ length input) → 0 < length (drop taken input)
some_left input taken within more = omega (arith, length-drop taken input, within, more)

-- or it has no room
pub rest_short : (input : List ℕ) (s t : State) (taken written : ℕ) (old mid : List ℕ)
    → Answers s input taken t (take written mid) → HasNoLineEnd (drop taken input)
    → 0 < length (drop taken input) → (written + 59 ≤ length mid → false ≡ true)
    → length mid ≡ length old → written ≤ length old
    → Lacks (after s (take taken input)) (lines (drop taken input)) (length old - written)
rest_short input s t taken written old mid answers none some full same within = record {
  line = unended (drop taken input);
  behind = [];
  first = unended_lines (drop taken input) none ∙ some_rest (drop taken input) some;
  short = elim (leb_tells (written + 59) (length mid)) [
    | inl fits ↦ absurd (true≢false (sym (full fits.1)))
    | inr more ↦ omega (arith, more.1, same, within)
  ];
}

-- behind both texts the room is as it was
pub rest_after : (a b : ℕ) (t old mid new : List ℕ) → drop a mid ≡ drop a old
    → Wrote a b t mid new → drop b new ≡ drop b old
rest_after a b t old mid new before wrote =
    Wrote-rest wrote ∙ further mid ∙ ap (drop (b - a)) before ∙ sym (further old)
  where
    past : a + (b - a) ≡ b
    past = omega (arith, wrote.end_is)

    further : (l : List ℕ) → drop b l ≡ drop (b - a) (drop a l)
    further l = sym (drop-drop (b - a) a l ∙ ap (λ k. drop k l) past)

-- the state from which the input is answered
pub short_from : (input : List ℕ) (s t : State) (taken room : ℕ) → s ≡ t
    → Lacks (after s (take taken input)) (lines (drop taken input)) room
    → Lacks (after t (take taken input)) (lines (drop taken input)) room
short_from input s t taken room same lacks =
    subst (λ x. Lacks (after x (take taken input)) (lines (drop taken input)) room) same lacks
