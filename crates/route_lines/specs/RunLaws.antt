-- Lines that are carried out one after another, and how an input is cut into them.
use Rattle.std.proofs.Common.{◌≡◌, ◌∙◌, sym, ap, subst, refl, ℕ, ◌+◌, ◌<◌, ◌≤◌, ◌==◌, ◌++◌, List}
use Rattle.std.proofs.Common.{[], ◌∷◌, Option, Bool, flat_map, length, map, append_assoc}
use Rattle.std.proofs.Common.{append-nil, arith}
use Rattle.std.specs.List.{AllByRecursion, slice_split}
use Rattle.std.specs.Io.KnownBytes.{Appends}
use Rattle.std.proofs.KnownBytes.{Appends-nil, Appends-trans}
use Rattle.std.proofs.lemmas.List.Concat.{flat_map-append}
use Rattle.std.proofs.lemmas.List.Splits.{slice_split_at, slice_split_none, length-slice_split}
use Rattle.route_lines.specs.State.{State}
use Rattle.route_lines.specs.Reply.{ended, reply, next}
use Rattle.route_lines.specs.Text.{Line, whole, command_in, replies, after_lines, front, last}
use Rattle.route_lines.specs.Text.{lines, whole_lines, rest_of, unended_line}
use Rattle.route_lines.specs.Searches.{ComparesWithin, CountsWithin, CountsFor, LooksWithin}
use Rattle.route_lines.specs.Searches.{most_keys, most_firsts, most_seconds, most_looks}
use Rattle.route_lines.specs.Run.{Carries, BreaksOff, CountsOver, most_over}
use Rattle.route_lines.specs.Unfinished.{Cuts, HasNoLineEnd}
use Rattle.route_lines.specs.Written.{AppendsBeginning}
use Rattle.route_lines.specs.declared.command.Command.{Command}
use Rattle.route_lines.specs.declared.counts.Counts.{Counts}

-- ---- lines after lines

pub after_lines-append : (s : State) (xs ys : List Line)
    → after_lines s (xs ++ ys) ≡ after_lines (after_lines s xs) ys
after_lines-append s [] ys = refl
after_lines-append s (x ∷ xs) ys = after_lines-append (next s (command_in x)) xs ys

pub replies-append : (s : State) (xs ys : List Line)
    → replies s (xs ++ ys) ≡ replies s xs ++ replies (after_lines s xs) ys
replies-append s [] ys = refl
replies-append s (x ∷ xs) ys =
    ap (λ text. reply s (command_in x) ++ text) (replies-append (next s (command_in x)) xs ys)
    ∙ sym (append_assoc (reply s (command_in x)) (replies (next s (command_in x)) xs)
    (replies (after_lines (next s (command_in x)) xs) ys))

pub most_over-append : (most : State → Option Command → ℕ) (s : State) (xs ys : List Line)
    → most_over most s (xs ++ ys) ≡ most_over most s xs + most_over most (after_lines s xs) ys
most_over-append most s [] ys = omega arith
most_over-append most s (x ∷ xs) ys =
    let h = most_over-append most (next s (command_in x)) xs ys in
    omega (arith, h)

pub ComparesWithin-trans : (a b c : Counts) (k f s k' f' s' k'' f'' s'' : ℕ)
    → ComparesWithin a b k f s → ComparesWithin b c k' f' s' → k'' ≡ k + k' → f'' ≡ f + f'
    → s'' ≡ s + s' → ComparesWithin a c k'' f'' s''
ComparesWithin-trans a b c k f s k' f' s' k'' f'' s'' h h' ek ef es = record {
  key_rises = omega (arith, h.key_rises, h'.key_rises);
  first_rises = omega (arith, h.first_rises, h'.first_rises);
  second_rises = omega (arith, h.second_rises, h'.second_rises);
  key = omega (arith, h.key, h'.key, ek);
  first = omega (arith, h.first, h'.first, ef);
  second = omega (arith, h.second, h'.second, es);
}

-- what a call that makes no look counts
pub compares : (a b : Counts) (k f s : ℕ) → CountsWithin a b k f s → ComparesWithin a b k f s
compares a b k f s h = record {
  key_rises = h.key_rises;
  first_rises = h.first_rises;
  second_rises = h.second_rises;
  key = h.key;
  first = h.first;
  second = h.second;
}

pub ComparesWithin-more : (a b : Counts) (k f s k' f' s' : ℕ) → ComparesWithin a b k f s → k ≤ k'
    → f ≤ f' → s ≤ s' → ComparesWithin a b k' f' s'
ComparesWithin-more a b k f s k' f' s' h ek ef es = record {
  key_rises = h.key_rises;
  first_rises = h.first_rises;
  second_rises = h.second_rises;
  key = omega (arith, h.key, ek);
  first = omega (arith, h.first, ef);
  second = omega (arith, h.second, es);
}

LooksWithin-trans : (a b c m n l : ℕ) → LooksWithin a b m → LooksWithin b c n → l ≡ m + n
    → LooksWithin a c l
LooksWithin-trans a b c m n l h h' e = record {
  rise = omega (arith, h.rise, h'.rise);
  few = omega (arith, h.few, h'.few, e);
}

LooksWithin-more : (a b n m : ℕ) → LooksWithin a b n → n ≤ m → LooksWithin a b m
LooksWithin-more a b n m h e = record { rise = h.rise; few = omega (arith, h.few, e) }

CountsOver-trans : (s t : State) (xs ys : List Line) (a b c : Counts) → t ≡ after_lines s xs
    → CountsOver s xs a b → CountsOver t ys b c → CountsOver s (xs ++ ys) a c
CountsOver-trans s t xs ys a b c there first second =
    let moved = subst (λ v. CountsOver v ys b c) there second in
    record {
      compares = ComparesWithin-trans a b c _ _ _ _ _ _ _ _ _ first.compares moved.compares
          (most_over-append most_keys s xs ys) (most_over-append most_firsts s xs ys)
          (most_over-append most_seconds s xs ys);
      looks = LooksWithin-trans a.looks b.looks c.looks _ _ _ first.looks moved.looks
          (most_over-append most_looks s xs ys);
    }

CountsOver-one : (s : State) (line : Line) (a b : Counts) → CountsFor s (command_in line) a b
    → LooksWithin a.looks b.looks (most_looks s (command_in line)) → CountsOver s (line ∷ []) a b
CountsOver-one s line a b counts looks = record {
  compares = ComparesWithin-more a b _ _ _ _ _ _ counts (omega arith) (omega arith) (omega arith);
  looks = LooksWithin-more a.looks b.looks _ _ looks (omega arith);
}

pub Carries-nil : (s : State) (held : Option (List ℕ)) (counts : Counts)
    → Carries s [] s held held counts counts
Carries-nil s held counts = record {
  state = refl;
  replied = Appends-nil held;
  counts = record {
    compares = record {
      key_rises = omega arith;
      first_rises = omega arith;
      second_rises = omega arith;
      key = omega arith;
      first = omega arith;
      second = omega arith;
    };
    looks = record { rise = omega arith; few = omega arith };
  };
}

pub Carries-trans : (s t u : State) (xs ys : List Line) (a b c : Option (List ℕ))
    (before between later : Counts) → Carries s xs t a b before between
    → Carries t ys u b c between later
    → Carries s (xs ++ ys) u a c before later
Carries-trans s t u xs ys a b c before between later first second =
    let there = first.state in
    let moved = subst (λ v. Carries v ys u b c between later) there second in
    record {
      state = moved.state ∙ sym (after_lines-append s xs ys);
      replied = subst (Appends a c) (sym (replies-append s xs ys))
          (Appends-trans a b c _ _ first.replied moved.replied);
      counts = CountsOver-trans s t xs ys before between later there first.counts second.counts;
    }

-- one line
pub Carries-one : (s t : State) (line : Line) (a b : Option (List ℕ)) (before later : Counts)
    → t ≡ next s (command_in line) → Appends a b (reply s (command_in line))
    → CountsFor s (command_in line) before later
    → LooksWithin before.looks later.looks (most_looks s (command_in line))
    → Carries s (line ∷ []) t a b before later
Carries-one s t line a b before later state replied counts looks = record {
  state = state;
  replied = subst (Appends a b) (sym (append-nil (reply s (command_in line)))) replied;
  counts = CountsOver-one s line before later counts looks;
}

pub BreaksOff-one : (s t : State) (line : Line) (a b : Option (List ℕ)) (before later : Counts)
    → t ≡ next s (command_in line) → AppendsBeginning a b (reply s (command_in line))
    → CountsFor s (command_in line) before later
    → LooksWithin before.looks later.looks (most_looks s (command_in line))
    → BreaksOff s [] line t a b before later
BreaksOff-one s t line a b before later state begins counts looks = record {
  part = begins.part;
  missing = begins.missing;
  reply = begins.whole;
  short = begins.short;
  state = state;
  replied = begins.appended;
  counts = CountsOver-one s line before later counts looks;
}

pub BreaksOff-after : (s t u : State) (xs ys : List Line) (line : Line) (a b c : Option (List ℕ))
    (before between later : Counts) → Carries s xs t a b before between
    → BreaksOff t ys line u b c between later → BreaksOff s (xs ++ ys) line u a c before later
BreaksOff-after s t u xs ys line a b c before between later first second =
    let moved = subst (λ v. BreaksOff v ys line u b c between later) first.state second in
    let more : xs ++ (ys ++ line ∷ []) ≡ (xs ++ ys) ++ line ∷ [] =
    sym (append_assoc xs ys (line ∷ [])) in
    let m = after_lines s xs in
    record {
      part = moved.part;
      missing = moved.missing;
      reply = ap (λ v. reply v (command_in line)) (after_lines-append s xs ys) ∙ moved.reply;
      short = moved.short;
      state = moved.state ∙ sym (after_lines-append s xs (ys ++ line ∷ []))
          ∙ ap (after_lines s) more;
      replied = subst (Appends a c) (sym (append_assoc (replies s xs) (replies m ys) moved.part)
          ∙ ap (λ text. text ++ moved.part) (sym (replies-append s xs ys)))
          (Appends-trans a b c _ _ first.replied moved.replied);
      counts = subst (λ ls. CountsOver s ls before later) more
          (CountsOver-trans s t xs (ys ++ line ∷ []) before between later first.state
          first.counts second.counts);
    }

-- ---- an input cut into lines

pub front-append : (xs : List (List ℕ)) (x : List ℕ) → front (xs ++ x ∷ []) ≡ xs
front-append [] x = refl
front-append (y ∷ []) x = refl
front-append (y ∷ z ∷ xs) x = ap (λ ys. y ∷ ys) (front-append (z ∷ xs) x)

pub last-append : (xs : List (List ℕ)) (x : List ℕ) → last (xs ++ x ∷ []) ≡ x
last-append [] x = refl
last-append (y ∷ []) x = refl
last-append (y ∷ z ∷ xs) x = last-append (z ∷ xs) x

abbrev is_line_end : ℕ → Bool
is_line_end b = b == 10

parts : (xs : List (List ℕ)) (rest : List ℕ) → AllByRecursion HasNoLineEnd xs → HasNoLineEnd rest
    → slice_split is_line_end (flat_map ended xs ++ rest) ≡ xs ++ rest ∷ []
parts [] rest each none = slice_split_none is_line_end rest none
parts (x ∷ xs) rest each none =
    ap (slice_split is_line_end) (append_assoc (ended x) (flat_map ended xs) rest
    ∙ append_assoc x (10 ∷ []) (flat_map ended xs ++ rest))
    ∙ slice_split_at is_line_end x 10 (flat_map ended xs ++ rest) each.0 refl
    ∙ ap (λ ps. x ∷ ps) (parts xs rest each.1 none)

pub whole_lines-cut : (input : List ℕ) (xs : List (List ℕ)) (rest : List ℕ) → Cuts input xs rest
    → whole_lines input ≡ xs
whole_lines-cut input xs rest cuts = ap (λ i. front (slice_split is_line_end i)) cuts.whole
    ∙ ap front (parts xs rest cuts.each cuts.last) ∙ front-append xs rest

pub rest_of-cut : (input : List ℕ) (xs : List (List ℕ)) (rest : List ℕ) → Cuts input xs rest
    → rest_of input ≡ rest
rest_of-cut input xs rest cuts = ap (λ i. last (slice_split is_line_end i)) cuts.whole
    ∙ ap last (parts xs rest cuts.each cuts.last) ∙ last-append xs rest

pub lines-cut : (input : List ℕ) (xs : List (List ℕ)) (rest : List ℕ) → Cuts input xs rest
    → lines input ≡ map whole xs ++ unended_line rest
lines-cut input xs rest cuts =
    ap (λ ls. map whole ls ++ unended_line (rest_of input)) (whole_lines-cut input xs rest cuts)
    ∙ ap (λ r. map whole xs ++ unended_line r) (rest_of-cut input xs rest cuts)

pub each-append : (xs ys : List (List ℕ)) → AllByRecursion HasNoLineEnd xs
    → AllByRecursion HasNoLineEnd ys → AllByRecursion HasNoLineEnd (xs ++ ys)
each-append [] ys h h' = h'
each-append (x ∷ xs) ys h h' = (h.0, each-append xs ys h.1 h')

-- what follows the cut is cut in turn
pub Cuts-append : (a b : List ℕ) (xs ys : List (List ℕ)) (rest left : List ℕ) → Cuts a xs rest
    → Cuts (rest ++ b) ys left → Cuts (a ++ b) (xs ++ ys) left
Cuts-append a b xs ys rest left first second = record {
  whole =
      ap (λ t. t ++ b) first.whole
      ∙ append_assoc (flat_map ended xs) rest b
      ∙ ap (λ t. flat_map ended xs ++ t) second.whole
      ∙ sym (append_assoc (flat_map ended xs) (flat_map ended ys) left)
      ∙ ap (λ t. t ++ left) (sym (flat_map-append ended xs ys));
  each = each-append xs ys first.each second.each;
  last = second.last;
}

-- a line with its LF is the first line, whatever follows
pub lines-first : (x more : List ℕ) → HasNoLineEnd x → lines (x ++ 10 ∷ more) ≡ whole x ∷ lines more
lines-first x more none =
    let split = slice_split_at is_line_end x 10 more none refl in
    let first = behind_first x (slice_split is_line_end more)
    (omega (arith, length-slice_split is_line_end more)) in
    ap (λ ps. map whole (front ps) ++ unended_line (last ps)) split
    ∙ ap (λ ps. map whole ps ++ unended_line (last (x ∷ slice_split is_line_end more))) first.0
    ∙ ap (λ r. whole x ∷ (map whole (front (slice_split is_line_end more)) ++ unended_line r))
    first.1
  where
    behind_first : (p : List ℕ) (ps : List (List ℕ)) → 0 < length ps
        → (front (p ∷ ps) ≡ p ∷ front ps) × (last (p ∷ ps) ≡ last ps)
    behind_first p [] some = absurd (omega arith)
    behind_first p (q ∷ ps) some = (refl, refl)

pub lines-ended : (xs : List (List ℕ)) (more : List ℕ) → AllByRecursion HasNoLineEnd xs
    → lines (flat_map ended xs ++ more) ≡ map whole xs ++ lines more
lines-ended [] more each = refl
lines-ended (x ∷ xs) more each =
    ap lines (append_assoc (ended x) (flat_map ended xs) more
    ∙ append_assoc x (10 ∷ []) (flat_map ended xs ++ more))
    ∙ lines-first x (flat_map ended xs ++ more) each.0
    ∙ ap (λ ls. whole x ∷ ls) (lines-ended xs more each.1)
