-- What a recast has done after so many slots, and what it leaves.
use Rattle.std.proofs.Common.{◌≡◌, ◌↔◌, ℕ, Bool, false, true≢false, IsTrue, IsSome, ◌+◌, ◌-◌, ◌<◌}
use Rattle.std.proofs.Common.{◌≤◌, List, [], ◌∷◌, ◌++◌, length, get_or, set, Option, Some, None}
use Rattle.std.proofs.Common.{Result, Ok, Err, refl, sym, ap, ◌∙◌, arith, append_assoc, append-nil}
use Rattle.std.proofs.Common.{length-append}
use Rattle.std.specs.Option.{option_map}
use Rattle.std.proofs.lemmas.List.{length_push}
use Rattle.std.proofs.Math.Seq.{get_or-append_seam, set-append_seam}
use Rattle.triple_arena_ptr.specs.Recast.{recast_answer, where_ok}
use Rattle.triple_arena_ptr.specs.RecastLaws.{recast_answer-append}
use Rattle.triple_arena.specs.Content.{Content, entry_at, with_value}
use Rattle.triple_arena.specs.ContentLaws.{entry_at_slot}
use Rattle.triple_arena.specs.Recasting.{content_items, slots_recasted, content_recasted}
use Rattle.triple_arena.specs.RecastingLaws.{slot_items, content_items-is}

module _ {I T : Type 0} (items : T → List I) (f : I → Option I) (recasted : T → T) where
  -- the first `at` slots are recast
  pub record Partly (old now : Content T) (at : ℕ) : Type 0 where
    pub front : List (Option (ℕ × T))
    pub rest : List (Option (ℕ × T))
    pub slots : now.slots ≡ front ++ rest
    pub passed : length front ≡ at
    pub same : now ≡ record old { slots = now.slots }
    pub recast : front ++ slots_recasted items f recasted rest
        ≡ slots_recasted items f recasted old.slots
    pub answer : recast_answer f (slot_items items rest)
        ≡ recast_answer f (slot_items items old.slots)

  -- the recast came to its end, with this answer
  pub record Recasts (old new : Content T) (result : Result (Unit {0}) I) : Type 0 where
    pub content : new ≡ content_recasted items f recasted old
    pub answer : result ≡ recast_answer f (content_items items old)

module _ {I T : Type 0} {items : T → List I} {f : I → Option I} {recasted : T → T} where
  pub partly_none : (c : Content T) → Partly items f recasted c c 0
  partly_none c = record {
    front = [];
    rest = c.slots;
    slots = refl;
    passed = refl;
    same = refl;
    recast = refl;
    answer = refl;
  }

  -- the next slot, and those behind it
  record Next {old now : Content T} {at : ℕ} (p : Partly items f recasted old now at) (i : ℕ) : Type
      0 where
    pub slot : Option (ℕ × T)
    pub others : List (Option (ℕ × T))
    pub rest_is : p.rest ≡ slot ∷ others
    pub here : entry_at now i ≡ slot
    pub written : (o : Option (ℕ × T)) → set now.slots (i - 1) o ≡ p.front ++ o ∷ others

  next_of : {old now : Content T} {at : ℕ} (i : ℕ) (p : Partly items f recasted old now at)
      → i ≡ at + 1 → at < length now.slots → Next p i
  next_of {now} {at} i p place below = by_rest p.rest refl
    where
      by_rest : (rest : List (Option (ℕ × T))) → p.rest ≡ rest → Next p i
      by_rest [] e =
          let sizes = ap length (p.slots ∙ ap (λ l. p.front ++ l) e ∙ append-nil p.front) in
          absurd (omega (arith, sizes, p.passed, below))
      by_rest (o ∷ others) e =
          let split : now.slots ≡ p.front ++ o ∷ others = p.slots ∙ ap (λ l. p.front ++ l) e in
          let back : i - 1 ≡ length p.front = omega (arith, place, p.passed) in
          record {
            slot = o;
            others = others;
            rest_is = e;
            here = entry_at_slot now i (omega (arith, place))
                ∙ ap (λ k. get_or now.slots k None) back
                ∙ ap (λ l. get_or l (length p.front) None) split
                ∙ get_or-append_seam p.front o others None;
            written = λ new. ap (λ k. set now.slots k new) back
                ∙ ap (λ l. set l (length p.front) new) split ∙ set-append_seam p.front o others new;
          }

  -- a free slot is passed
  pub partly_free : {old now : Content T} {at i : ℕ} → Partly items f recasted old now at
      → i ≡ at + 1 → at < length now.slots → entry_at now i ≡ None
      → Partly items f recasted old now (at + 1)
  partly_free {now} {at} {i} p place below none =
      let n = next_of i p place below in
      let free : p.rest ≡ None ∷ n.others = n.rest_is
      ∙ ap (λ o. o ∷ n.others) (sym n.here ∙ none) in
      let longer = length_push p.front None in
      record {
        front = p.front ++ None ∷ [];
        rest = n.others;
        slots = p.slots ∙ ap (λ l. p.front ++ l) free
            ∙ sym (append_assoc p.front (None ∷ []) n.others);
        passed = omega (arith, longer, p.passed);
        same = p.same;
        recast = append_assoc p.front (None ∷ []) (slots_recasted items f recasted n.others)
            ∙ ap (λ l. p.front ++ slots_recasted items f recasted l) (sym free)
            ∙ p.recast;
        answer = ap (λ l. recast_answer f (slot_items items l)) (sym free) ∙ p.answer;
      }

  -- the value at a live index is recast
  record Stores {old now : Content T} {at : ℕ} (p : Partly items f recasted old now at)
      (new : Content T) (t : T) : Type 0 where
    pub generation : ℕ
    pub others : List (Option (ℕ × T))
    pub slots : new.slots ≡ p.front ++ Some (generation, recasted t) ∷ others
    pub same : new ≡ record old { slots = new.slots }
    pub recast : p.front ++ Some (generation, recasted t) ∷ where_ok (recast_answer f (items t))
        (slots_recasted items f recasted others) others
        ≡ slots_recasted items f recasted old.slots
    pub answer : where_ok (recast_answer f (items t)) (recast_answer f (slot_items items others))
        (recast_answer f (items t))
        ≡ recast_answer f (slot_items items old.slots)

  stores_of : {old now new : Content T} {at i : ℕ} {t : T} (p : Partly items f recasted old now at)
      → i ≡ at + 1 → at < length now.slots
      → option_map (λ (e : ℕ × T). e.1) (entry_at now i) ≡ Some t
      → new ≡ with_value now i (recasted t) → Stores p new t
  stores_of {old} {now} {new} {at} {i} {t} p place below live write =
      by_entry (entry_at now i) refl live
    where
      by_entry : (o : Option (ℕ × T)) → entry_at now i ≡ o
          → option_map (λ (e : ℕ × T). e.1) o ≡ Some t → Stores p new t
      by_entry None e live = absurd (cc)
      by_entry (Some x) e live =
          let n = next_of i p place below in
          let value : x.1 ≡ t = cc in
          let rest : p.rest ≡ Some (x.0, t) ∷ n.others = n.rest_is
          ∙ ap (λ o. o ∷ n.others) (sym n.here ∙ e ∙ ap (λ u. Some (x.0, u)) value) in
          let stored : new ≡ record now { slots = set now.slots (i - 1) (Some (x.0, recasted t)) } =
          write ∙ rw e refl in
          let slots = ap (λ d. d.slots) stored in
          let writing : Content T
          → Content T = λ d. record d { slots = set now.slots (i - 1) (Some (x.0, recasted t)) }
          in
          record {
            generation = x.0;
            others = n.others;
            slots = slots ∙ n.written (Some (x.0, recasted t));
            same = stored ∙ ap writing p.same ∙ ap (λ l. record old { slots = l }) (sym slots);
            recast = ap (λ l. p.front ++ slots_recasted items f recasted l) (sym rest) ∙ p.recast;
            answer = sym (recast_answer-append f (items t) (slot_items items n.others))
                ∙ ap (λ l. recast_answer f (slot_items items l)) (sym rest)
                ∙ p.answer;
          }

  -- it is passed where each of its items has an image
  pub partly_live : {old now new : Content T} {at i : ℕ} {t : T}
      → Partly items f recasted old now at → i ≡ at + 1 → at < length now.slots
      → option_map (λ (e : ℕ × T). e.1) (entry_at now i) ≡ Some t
      → new ≡ with_value now i (recasted t) → Ok tt ≡ recast_answer f (items t)
      → Partly items f recasted old new (at + 1)
  partly_live {t} p place below live write ok =
      let s = stores_of p place below live write in
      let longer = length_push p.front (Some (s.generation, recasted t)) in
      record {
        front = p.front ++ Some (s.generation, recasted t) ∷ [];
        rest = s.others;
        slots = s.slots ∙ sym
            (append_assoc p.front (Some (s.generation, recasted t) ∷ []) s.others);
        passed = omega (arith, longer, p.passed);
        same = s.same;
        recast = append_assoc p.front (Some (s.generation, recasted t) ∷ [])
            (slots_recasted items f recasted s.others)
            ∙ ap (λ r. p.front ++ Some (s.generation, recasted t) ∷ where_ok r
            (slots_recasted items f recasted s.others) s.others) ok
            ∙ s.recast;
        answer = ap (λ r. where_ok r (recast_answer f (slot_items items s.others)) r) ok ∙ s.answer;
      }

  -- and is the last one where one of them has none
  pub recasts_to : {old now new : Content T} {at i : ℕ} {t : T} {x : I}
      → Partly items f recasted old now at → i ≡ at + 1 → at < length now.slots
      → option_map (λ (e : ℕ × T). e.1) (entry_at now i) ≡ Some t
      → new ≡ with_value now i (recasted t) → Err x ≡ recast_answer f (items t)
      → Recasts items f recasted old new (Err x)
  recasts_to {old} {t} p place below live write err =
      let s = stores_of p place below live write in
      let slots =
      s.slots
      ∙ ap (λ r. p.front ++ Some (s.generation, recasted t) ∷ where_ok r
      (slots_recasted items f recasted s.others) s.others) err
      ∙ s.recast in
      record {
        content = s.same ∙ ap (λ l. record old { slots = l }) slots;
        answer = ap (λ r. where_ok r (recast_answer f (slot_items items s.others)) r) err
            ∙ s.answer
            ∙ ap (recast_answer f) (sym (content_items-is items old));
      }

  -- all slots are passed
  pub recasts_all : {old now : Content T} {at : ℕ} → Partly items f recasted old now at
      → length now.slots ≤ at → Recasts items f recasted old now (Ok tt)
  recasts_all {old} {now} {at} p past = by_rest p.rest refl
    where
      by_rest : (rest : List (Option (ℕ × T))) → p.rest ≡ rest
          → Recasts items f recasted old now (Ok tt)
      by_rest (o ∷ others) e =
          let sizes = ap length (p.slots ∙ ap (λ l. p.front ++ l) e)
          ∙ length-append p.front (o ∷ others) in
          absurd (omega (arith, sizes, p.passed, past))
      by_rest [] e =
          let slots = p.slots ∙ ap (λ l. p.front ++ l) e
          ∙ ap (λ l. p.front ++ slots_recasted items f recasted l) (sym e) ∙ p.recast in
          record {
            content = p.same ∙ ap (λ l. record old { slots = l }) slots;
            answer = ap (λ l. recast_answer f (slot_items items l)) (sym e) ∙ p.answer
                ∙ ap (recast_answer f) (sym (content_items-is items old));
          }

  -- the content under another name
  pub partly_same : {old now new : Content T} {at : ℕ} → new ≡ now
      → Partly items f recasted old now at → Partly items f recasted old new at
  partly_same is p = rw is p

-- an index that is not live has no entry
pub no_entry_there : {X : Type 0} {o : Option X} {b : Bool} → b ≡ false → (IsTrue b ↔ IsSome o)
    → o ≡ None
no_entry_there {o = None} fails tells = refl
no_entry_there {o = Some x} fails tells = absurd (true≢false (sym (tells.1 refl) ∙ fails))
