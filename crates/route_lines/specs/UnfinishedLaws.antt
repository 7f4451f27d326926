-- Lines of which a piece of the input brings the end.
use Rattle.std.proofs.Common.{◌≡◌, ◌∙◌, sym, ap, subst, refl, ℕ, ◌++◌, ◌==◌, false, List, [], ◌∷◌}
use Rattle.std.proofs.Common.{Option, flat_map, map, append_assoc, append-nil, length, ◌<◌, arith}
use Rattle.std.specs.Io.KnownBytes.{Appends, IsAtEnd}
use Rattle.std.proofs.lemmas.List.{map-append}
use Rattle.std.proofs.lemmas.List.Concat.{flat_map-append}
use Rattle.std.proofs.lemmas.List.Elements.{All-append, All-nil}
use Rattle.route_lines.specs.State.{State}
use Rattle.route_lines.specs.Grammar.{command_of}
use Rattle.route_lines.specs.Reply.{ended, reply, next}
use Rattle.route_lines.specs.Text.{whole, unended, unended_line, lines, whole_lines}
use Rattle.route_lines.specs.Searches.{CountsFor, LooksWithin, most_looks}
use Rattle.route_lines.specs.Run.{Carries, BreaksOff, StopsWithin}
use Rattle.route_lines.specs.Unfinished.{HasNoLineEnd, StandsFor, Cuts, Takes, BreaksOffIn}
use Rattle.route_lines.specs.Unfinished.{StopsAtEnd}
use Rattle.route_lines.specs.Written.{AppendsBeginning}
use Rattle.route_lines.specs.declared.command.Command.{Command}
use Rattle.route_lines.specs.declared.counts.Counts.{Counts}
use Rattle.route_lines.specs.declared.unfinished.Unfinished.{Unfinished}
use Rattle.route_lines.specs.RunLaws.{Carries-nil, Carries-one, Carries-trans, BreaksOff-one}
use Rattle.route_lines.specs.RunLaws.{BreaksOff-after, each-append, Cuts-append, whole_lines-cut}
use Rattle.route_lines.specs.RunLaws.{lines-cut, lines-first, lines-ended}

pub HasNoLineEnd-append : (xs ys : List ℕ) → HasNoLineEnd xs → HasNoLineEnd ys
    → HasNoLineEnd (xs ++ ys)
HasNoLineEnd-append xs ys h h' = All-append (λ b. (b == 10) ≡ false) xs ys h h'

-- nothing of the piece is taken yet
pub Takes-none : (begun piece : List ℕ) (kept : Unfinished) (s : State) (held : Option (List ℕ))
    (counts : Counts) → HasNoLineEnd begun → StandsFor kept begun
    → Takes (begun ++ piece) piece kept s s held held counts counts
Takes-none begun piece kept s held counts none stands = record {
  lines = [];
  rest = begun;
  is = refl;
  each = tt;
  none = none;
  stands = stands;
  carries = Carries-nil s held counts;
}

-- a line more is carried out
pub Takes-line : (bytes left line behind : List ℕ) (kept cleared : Unfinished)
    (command : Option Command) (s t u : State) (a b c : Option (List ℕ))
    (before between later : Counts)
    → Takes bytes left kept s t a b before between → left ≡ line ++ 10 ∷ behind → HasNoLineEnd line
    → ((begun : List ℕ) → StandsFor kept begun → command ≡ command_of (begun ++ line))
    → StandsFor cleared []
    → u ≡ next t command → Appends b c (reply t command) → CountsFor t command between later
    → LooksWithin between.looks later.looks (most_looks t command)
    → Takes bytes behind cleared s u a c before later
Takes-line bytes left line behind kept cleared command s t u a b c before between later
    taken split none spelled stands state replied counts looks =
    let same : command ≡ command_of (taken.rest ++ line) = spelled taken.rest taken.stands in
    let one = Carries-one t u (whole (taken.rest ++ line)) b c between later
    (state ∙ ap (next t) same) (subst (λ x. Appends b c (reply t x)) same replied)
    (subst (λ x. CountsFor t x between later) same counts)
    (subst (λ x. LooksWithin between.looks later.looks (most_looks t x)) same looks) in
    record {
      lines = taken.lines ++ (taken.rest ++ line) ∷ [];
      rest = [];
      is = taken.is ∙ ap (λ l. flat_map ended taken.lines ++ (taken.rest ++ l)) split
          ∙ regrouped (flat_map ended taken.lines) taken.rest line behind
          ∙ ap (λ l. l ++ behind)
          (sym (flat_map-append ended taken.lines ((taken.rest ++ line) ∷ [])));
      each = each-append taken.lines ((taken.rest ++ line) ∷ []) taken.each
          (HasNoLineEnd-append taken.rest line taken.none none, tt);
      none = All-nil (λ b. (b == 10) ≡ false);
      stands = stands;
      carries = subst (λ ls. Carries s ls u a c before later)
          (sym (map-append whole taken.lines ((taken.rest ++ line) ∷ [])))
          (Carries-trans s t u (map whole taken.lines) (whole (taken.rest ++ line) ∷ []) a b c
          before between later taken.carries one);
    }
  where
    regrouped : (w x y z : List ℕ)
        → w ++ (x ++ (y ++ 10 ∷ z)) ≡ (w ++ (((x ++ y) ++ 10 ∷ []) ++ [])) ++ z
    regrouped w x y z =
        ap (λ v. w ++ v) (sym (append_assoc x y (10 ∷ z)) ∙ sym (append_assoc (x ++ y) (10 ∷ []) z))
        ∙ sym (append_assoc w ((x ++ y) ++ 10 ∷ []) z)
        ∙ ap (λ v. (w ++ v) ++ z) (sym (append-nil ((x ++ y) ++ 10 ∷ [])))

-- the reply to a line more is not written whole
pub Stops-at_line : (bytes left line behind : List ℕ) (kept : Unfinished) (command : Option Command)
    (s t u : State) (a b c : Option (List ℕ)) (before between later : Counts)
    → Takes bytes left kept s t a b before between → left ≡ line ++ 10 ∷ behind → HasNoLineEnd line
    → ((begun : List ℕ) → StandsFor kept begun → command ≡ command_of (begun ++ line))
    → u ≡ next t command → AppendsBeginning b c (reply t command)
    → CountsFor t command between later
    → LooksWithin between.looks later.looks (most_looks t command)
    → BreaksOffIn bytes s u a c before later
Stops-at_line bytes left line behind kept command s t u a b c before between later
    taken split none spelled state begins counts looks =
    let same : command ≡ command_of (taken.rest ++ line) = spelled taken.rest taken.stands in
    let one = BreaksOff-one t u (whole (taken.rest ++ line)) b c between later
    (state ∙ ap (next t) same) (subst (λ x. AppendsBeginning b c (reply t x)) same begins)
    (subst (λ x. CountsFor t x between later) same counts)
    (subst (λ x. LooksWithin between.looks later.looks (most_looks t x)) same looks) in
    record {
      lines = taken.lines;
      line = taken.rest ++ line;
      behind = behind;
      is = taken.is ∙ ap (λ l. flat_map ended taken.lines ++ (taken.rest ++ l)) split
          ∙ ap (λ l. flat_map ended taken.lines ++ l)
          (sym (append_assoc taken.rest line (10 ∷ behind)));
      each = taken.each;
      none = HasNoLineEnd-append taken.rest line taken.none none;
      breaks = subst (λ ls. BreaksOff s ls (whole (taken.rest ++ line)) u a c before later)
          (append-nil (map whole taken.lines))
          (BreaksOff-after s t u (map whole taken.lines) [] (whole (taken.rest ++ line)) a b c
          before between later taken.carries one);
    }

-- what holds no LF is kept
pub Takes-rest : (bytes left : List ℕ) (kept longer : Unfinished) (s t : State)
    (a b : Option (List ℕ)) (before later : Counts) → Takes bytes left kept s t a b before later
    → HasNoLineEnd left
    → ((begun : List ℕ) → StandsFor kept begun → StandsFor longer (begun ++ left))
    → Takes bytes [] longer s t a b before later
Takes-rest bytes left kept longer s t a b before later taken none more = record {
  lines = taken.lines;
  rest = taken.rest ++ left;
  is = taken.is ∙ ap (λ l. flat_map ended taken.lines ++ l) (sym (append-nil (taken.rest ++ left)));
  each = taken.each;
  none = HasNoLineEnd-append taken.rest left taken.none none;
  stands = more taken.rest taken.stands;
  carries = taken.carries;
}

-- ---- pieces one after another

pub Takes-cuts : (bytes : List ℕ) (kept : Unfinished) (s t : State) (a b : Option (List ℕ))
    (before later : Counts) (taken : Takes bytes [] kept s t a b before later)
    → Cuts bytes taken.lines taken.rest
Takes-cuts bytes kept s t a b before later taken = record {
  whole = taken.is ∙ ap (λ r. flat_map ended taken.lines ++ r) (append-nil taken.rest);
  each = taken.each;
  last = taken.none;
}

-- a piece more is taken
pub Takes-piece : (bytes piece : List ℕ) (kept kept' : Unfinished) (s t u : State)
    (a b c : Option (List ℕ)) (before between later : Counts)
    → Takes bytes [] kept s t a b before between
    → ((begun : List ℕ) → HasNoLineEnd begun → StandsFor kept begun
    → Takes (begun ++ piece) [] kept' t u b c between later)
    → Takes (bytes ++ piece) [] kept' s u a c before later
Takes-piece bytes piece kept kept' s t u a b c before between later first more =
    let second = more first.rest first.none first.stands in
    let cuts = Cuts-append bytes piece first.lines second.lines first.rest second.rest
    (Takes-cuts bytes kept s t a b before between first)
    (Takes-cuts (first.rest ++ piece) kept' t u b c between later second) in
    record {
      lines = first.lines ++ second.lines;
      rest = second.rest;
      is = cuts.whole ∙ ap (λ r. flat_map ended (first.lines ++ second.lines) ++ r)
          (sym (append-nil second.rest));
      each = cuts.each;
      none = second.none;
      stands = second.stands;
      carries = subst (λ ls. Carries s ls u a c before later)
          (sym (map-append whole first.lines second.lines))
          (Carries-trans s t u (map whole first.lines) (map whole second.lines) a b c before between
          later first.carries second.carries);
    }

-- whole lines alone are carried out
pub Takes-whole : (bytes : List ℕ) (kept : Unfinished) (s t : State) (a b : Option (List ℕ))
    (before later : Counts) → Takes bytes [] kept s t a b before later
    → Carries s (map whole (whole_lines bytes)) t a b before later
Takes-whole bytes kept s t a b before later taken =
    subst (λ ls. Carries s (map whole ls) t a b before later)
    (sym (whole_lines-cut bytes taken.lines taken.rest
    (Takes-cuts bytes kept s t a b before later taken))) taken.carries

-- at the end the rest is answered
pub Takes-all : (bytes : List ℕ) (kept : Unfinished) (s t u : State) (a b c : Option (List ℕ))
    (before between later : Counts) → (taken : Takes bytes [] kept s t a b before between)
    → Carries t (unended_line taken.rest) u b c between later
    → Carries s (lines bytes) u a c before later
Takes-all bytes kept s t u a b c before between later taken answered =
    subst (λ ls. Carries s ls u a c before later)
    (sym (lines-cut bytes taken.lines taken.rest
    (Takes-cuts bytes kept s t a b before between taken)))
    (Carries-trans s t u (map whole taken.lines) (unended_line taken.rest) a b c before between
    later taken.carries answered)

-- a write fails in a piece
pub Stops-within : (bytes piece : List ℕ) (left : Option (List ℕ)) (kept : Unfinished)
    (s t u : State) (a b c : Option (List ℕ)) (before between later : Counts)
    → Takes bytes [] kept s t a b before between
    → ((begun : List ℕ) → HasNoLineEnd begun → StandsFor kept begun
    → BreaksOffIn (begun ++ piece) t u b c between later)
    → StopsWithin (bytes ++ piece) left s u a c before later
Stops-within bytes piece left kept s t u a b c before between later taken stops =
    let at = stops taken.rest taken.none taken.stands in
    let cuts = Takes-cuts bytes kept s t a b before between taken in
    record {
      before = map whole taken.lines ++ map whole at.lines;
      line = whole at.line;
      behind = lines at.behind;
      read =
          ap lines (ap (λ l. l ++ piece) cuts.whole
          ∙ append_assoc (flat_map ended taken.lines) taken.rest piece
          ∙ ap (λ l. flat_map ended taken.lines ++ l) at.is)
          ∙ lines-ended taken.lines (flat_map ended at.lines ++ (at.line ++ 10 ∷ at.behind))
          taken.each
          ∙ ap (λ ls. map whole taken.lines ++ ls)
          (lines-ended at.lines (at.line ++ 10 ∷ at.behind) at.each
          ∙ ap (λ ls. map whole at.lines ++ ls) (lines-first at.line at.behind at.none))
          ∙ sym (append_assoc (map whole taken.lines) (map whole at.lines)
          (whole at.line ∷ lines at.behind));
      comes = tt;
      breaks = BreaksOff-after s t u (map whole taken.lines) (map whole at.lines) (whole at.line) a
          b c before between later taken.carries at.breaks;
    }

-- or at the rest
pub Stops-at_end : (bytes : List ℕ) (left : Option (List ℕ)) (kept : Unfinished) (s t u : State)
    (a b c : Option (List ℕ)) (before between later : Counts)
    → (taken : Takes bytes [] kept s t a b before between) → IsAtEnd left
    → StopsAtEnd taken.rest t u b c between later → StopsWithin bytes left s u a c before later
Stops-at_end bytes left kept s t u a b c before between later taken ended stops = record {
  before = map whole taken.lines;
  line = unended taken.rest;
  behind = [];
  read = lines-cut bytes taken.lines taken.rest (Takes-cuts bytes kept s t a b before between taken)
      ∙ ap (λ ls. map whole taken.lines ++ ls) (some_rest taken.rest stops.some);
  comes = ended;
  breaks = subst (λ ls. BreaksOff s ls (unended taken.rest) u a c before later)
      (append-nil (map whole taken.lines))
      (BreaksOff-after s t u (map whole taken.lines) [] (unended taken.rest) a b c before between
      later taken.carries stops.breaks);
}
  where
    some_rest : (rest : List ℕ) → 0 < length rest → unended_line rest ≡ unended rest ∷ []
    some_rest [] some = absurd (omega arith)
    some_rest (x ∷ rest) some = refl
