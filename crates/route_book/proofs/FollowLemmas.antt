-- What a change of the interlinks makes of which stop leads to which.
use Rattle.std.proofs.Common.{◌≡◌, ◌≢◌, ◌∙◌, sym, ap, subst, refl, Bool, true, false, ◌==◌, ℕ}
use Rattle.std.proofs.Common.{Option, Some, None, IsSome, cond, is_some}
use Rattle.std.specs.Option.{option_map}
use Rattle.std.proofs.lemmas.Bool.{false≢true, eq-eqb, eqb-true, ne_eqb}
use Rattle.linked_lists.specs.LinkedLists.{Ends, IsAgreed, next_in, next_at, renext, reprev}
use Rattle.linked_lists.specs.LinkedLists.{with_next, with_prev, with_prev_if, linked, unlinked}
use Rattle.linked_lists.specs.LinkedLists.{exchanged, added, put_between}
use Rattle.linked_lists.specs.ChainLaws.{live_prev_in}
use Rattle.route_book.specs.Follows.{ticket_at, LeadAs, AreDistinct}

-- ---- the next of each index after a change

next_reprev : (o : Option Ends) (p : Option ℕ) → next_in (reprev p o) ≡ next_in o
next_reprev None p = refl
next_reprev (Some e) p = refl

next_renext : (o : Option Ends) (k : ℕ) → IsSome o → next_in (renext (Some k) o) ≡ Some k
next_renext None k some = absurd (false≢true some)
next_renext (Some e) k some = refl

pub next_with_prev : (ends : ℕ → Option Ends) (q : ℕ) (p : Option ℕ) (i : ℕ)
    → next_at (with_prev ends q p) i ≡ next_at ends i
next_with_prev ends q p i = at (i == q)
  where
    at : (b : Bool) → next_in (cond b (reprev p (ends i)) (ends i)) ≡ next_in (ends i)
    at true = next_reprev (ends i) p
    at false = refl

next_with_next : (ends : ℕ → Option Ends) (p k i : ℕ) → IsSome (ends p)
    → next_at (with_next ends p (Some k)) i ≡ cond (i == p) (Some k) (next_at ends i)
next_with_next ends p k i live = at (i == p) refl
  where
    at : (b : Bool) → (i == p) ≡ b
        → next_in (cond b (renext (Some k) (ends i)) (ends i)) ≡ cond b (Some k) (next_at ends i)
    at true e = next_renext (ends i) k (subst (λ j. IsSome (ends j)) (sym (eqb-true i p e)) live)
    at false e = refl

live_with_next : (ends : ℕ → Option Ends) (p : ℕ) (k : Option ℕ) (i : ℕ) → IsSome (ends i)
    → IsSome (with_next ends p k i)
live_with_next ends p k i live = at (i == p) (ends i) live
  where
    at : (b : Bool) (o : Option Ends) → IsSome o → IsSome (cond b (renext k o) o)
    at true (Some e) some = refl
    at true None some = some
    at false o some = some

next_unlinked : (ends : ℕ → Option Ends) (p q i : ℕ)
    → next_at (unlinked ends p q) i ≡ cond (i == p) None (next_at ends i)
next_unlinked ends p q i = next_with_prev (with_next ends p None) q None i ∙ at (i == p) (ends i)
  where
    at : (b : Bool) (o : Option Ends) → next_in (cond b (renext None o) o) ≡ cond b None (next_in o)
    at true None = refl
    at true (Some e) = refl
    at false o = refl

next_linked : (ends : ℕ → Option Ends) (p q i : ℕ) → IsSome (ends p)
    → next_at (linked ends p q) i ≡ cond (i == p) (Some q) (next_at ends i)
next_linked ends p q i live = next_with_prev (with_next ends p (Some q)) q (Some p) i
    ∙ next_with_next ends p q i live

next_exchanged : (ends : ℕ → Option Ends) (p q m n i : ℕ) → IsSome (ends p) → IsSome (ends q)
    → next_at (exchanged ends p q m n) i
    ≡ cond (i == q) (Some m) (cond (i == p) (Some n) (next_at ends i))
next_exchanged ends p q m n i live alive =
    next_with_prev (with_prev (with_next (with_next ends p (Some n)) q (Some m)) n (Some p)) m
    (Some q) i ∙ next_with_prev (with_next (with_next ends p (Some n)) q (Some m)) n (Some p) i
    ∙ next_with_next (with_next ends p (Some n)) q m i (live_with_next ends p (Some n) q alive)
    ∙ ap (cond (i == q) (Some m)) (next_with_next ends p n i live)

next_added : (ends : ℕ → Option Ends) (n i : ℕ) (e : Ends)
    → next_at (added ends n e) i ≡ cond (i == n) e.1 (next_at ends i)
next_added ends n i e = at (i == n)
  where
    at : (b : Bool) → next_in (cond b (Some e) (ends i)) ≡ cond b e.1 (next_in (ends i))
    at true = refl
    at false = refl

next_placed : (ends : ℕ → Option Ends) (n p : ℕ) (o : Option ℕ) (i : ℕ) → IsSome (ends p) → p ≢ n
    → next_at (put_between ends n (Some p, o)) i
    ≡ cond (i == p) (Some n) (cond (i == n) o (next_at ends i))
next_placed ends n p o i live apart =
    ends_of o ∙ next_with_next (added ends n (Some p, o)) p n i
    (subst IsSome (sym (ap (λ b. cond b (Some (Some p, o)) (ends p)) (ne_eqb p n apart))) live)
    ∙ ap (cond (i == p) (Some n)) (next_added ends n i (Some p, o))
  where
    ends_of : (k : Option ℕ)
        → next_at (with_prev_if (with_next (added ends n (Some p, o)) p (Some n)) k (Some n)) i
        ≡ next_at (with_next (added ends n (Some p, o)) p (Some n)) i
    ends_of None = refl
    ends_of (Some q) = next_with_prev (with_next (added ends n (Some p, o)) p (Some n)) q (Some n) i

-- ---- by tickets

module _ {T : Type 0} (ticket : T → ℕ) (stops : ℕ → Option (ℕ × T)) (ends later : ℕ → Option Ends)
    (next after : ℕ → Option ℕ) (lead : LeadAs ticket stops ends next) where
  -- what one entry is, another one is at the same index
  one_item : (i g h : ℕ) (v w : T) → stops i ≡ Some (g, v) → stops i ≡ Some (h, w)
      → ticket v ≡ ticket w
  one_item i g h v w e f = let both : Some (ticket v) ≡ Some (ticket w) =
      ap (option_map (λ x. ticket x.1)) (sym e ∙ f) in cc

  -- `cut`
  pub lead_parted : AreDistinct ticket stops → (p q g : ℕ) (v : T) → stops p ≡ Some (g, v)
      → after (ticket v) ≡ None → ((t : ℕ) → t ≢ ticket v → after t ≡ next t)
      → ((i : ℕ) → later i ≡ unlinked ends p q i)
      → LeadAs ticket stops later after
  lead_parted distinct p q g v there own others is i h w here = at (i == p) refl
      ∙ sym (ap (ticket_at ticket stops) (ap next_in (is i) ∙ next_unlinked ends p q i))
    where
      at : (b : Bool) → (i == p) ≡ b
          → after (ticket w) ≡ ticket_at ticket stops (cond b None (next_at ends i))
      at true e = ap after (one_item p h g w v (ap stops (sym (eqb-true i p e)) ∙ here) there) ∙ own
      at false e = others (ticket w)
          (λ same. false≢true (sym e ∙ eq-eqb i p (distinct i p h g w v here there same)))
          ∙ lead i h w here

  -- `join`
  pub lead_joined : AreDistinct ticket stops → (p q g k : ℕ) (v u : T) → stops p ≡ Some (g, v)
      → stops q ≡ Some (k, u) → IsSome (ends p) → after (ticket v) ≡ Some (ticket u)
      → ((t : ℕ) → t ≢ ticket v → after t ≡ next t) → ((i : ℕ) → later i ≡ linked ends p q i)
      → LeadAs ticket stops later after
  lead_joined distinct p q g k v u there yonder live own others is i h w here = at (i == p) refl
      ∙ sym (ap (ticket_at ticket stops) (ap next_in (is i) ∙ next_linked ends p q i live))
    where
      at : (b : Bool) → (i == p) ≡ b
          → after (ticket w) ≡ ticket_at ticket stops (cond b (Some q) (next_at ends i))
      at true e = ap after (one_item p h g w v (ap stops (sym (eqb-true i p e)) ∙ here) there) ∙ own
          ∙ sym (ap (option_map (λ x. ticket x.1)) yonder)
      at false e = others (ticket w)
          (λ same. false≢true (sym e ∙ eq-eqb i p (distinct i p h g w v here there same)))
          ∙ lead i h w here

  -- `swap`
  pub lead_exchanged : AreDistinct ticket stops → (p q g k m n : ℕ) (v u : T)
      → stops p ≡ Some (g, v) → stops q ≡ Some (k, u) → IsSome (ends p) → IsSome (ends q)
      → next_at ends p ≡ Some m → next_at ends q ≡ Some n → after (ticket v) ≡ next (ticket u)
      → after (ticket u) ≡ next (ticket v)
      → ((t : ℕ) → t ≢ ticket v → t ≢ ticket u → after t ≡ next t)
      → ((i : ℕ) → later i ≡ exchanged ends p q m n i) → LeadAs ticket stops later after
  lead_exchanged distinct p q g k m n v u there yonder live alive from_p from_q own other others is
      i h w here =
      at (i == q) refl (i == p) refl
      ∙ sym (ap (ticket_at ticket stops)
      (ap next_in (is i) ∙ next_exchanged ends p q m n i live alive))
    where
      at : (b : Bool) → (i == q) ≡ b → (c : Bool) → (i == p) ≡ c
          → after (ticket w) ≡ ticket_at ticket stops
          (cond b (Some m) (cond c (Some n) (next_at ends i)))
      at true e c f = ap after (one_item q h k w u (ap stops (sym (eqb-true i q e)) ∙ here) yonder)
          ∙ other ∙ lead p g v there ∙ ap (ticket_at ticket stops) from_p
      at false e true f = ap after
          (one_item p h g w v (ap stops (sym (eqb-true i p f)) ∙ here) there) ∙ own
          ∙ lead q k u yonder ∙ ap (ticket_at ticket stops) from_q
      at false e false f =
          others (ticket w) (λ same. false≢true
          (sym f ∙ eq-eqb i p (distinct i p h g w v here there same)))
          (λ same. false≢true (sym e ∙ eq-eqb i q (distinct i q h k w u here yonder same)))
          ∙ lead i h w here

  module _ (grown : ℕ → Option (ℕ × T)) (n g : ℕ) (new : T) (agreed : IsAgreed ends)
      (alive : (i : ℕ) → IsSome (stops i) → IsSome (ends i)) (vacant : ends n ≡ None)
      (unknown : (i h : ℕ) (w : T) → stops i ≡ Some (h, w) → ticket w ≢ ticket new)
      (grown_is : (i : ℕ) → grown i ≡ cond (i == n) (Some (g, new)) (stops i)) where
    not_new : (i : ℕ) → IsSome (ends i) → i ≢ n
    not_new i live same =
        false≢true (sym (ap is_some vacant) ∙ subst (λ j. IsSome (ends j)) same live)

    -- what a stop leads to has its ticket as before
    same_ticket : (i : ℕ) (o : Option ℕ) → next_at ends i ≡ o
        → ticket_at ticket grown o ≡ ticket_at ticket stops o
    same_ticket i None e = refl
    same_ticket i (Some j) e =
        ap (option_map (λ x. ticket x.1))
        (grown_is j ∙ ap (λ b. cond b (Some (g, new)) (stops j))
        (ne_eqb j n (not_new j (live_prev_in (ends j) i (agreed.forward i j e)))))

    -- a stop is the new one, or it was there
    record WasThere (i h : ℕ) (w : T) : Type 0 where
      was : stops i ≡ Some (h, w)
      other : ticket w ≢ ticket new
      apart : i ≢ n

    was_there : (i h : ℕ) (w : T) → (i == n) ≡ false → grown i ≡ Some (h, w) → WasThere i h w
    was_there i h w e here =
        let was = sym (ap (λ b. cond b (Some (g, new)) (stops i)) e) ∙ sym (grown_is i) ∙ here in
        record {
          was = was;
          other = unknown i h w was;
          apart = not_new i (alive i (ap is_some was));
        }

    is_new : (i h : ℕ) (w : T) → (i == n) ≡ true → grown i ≡ Some (h, w) → ticket w ≡ ticket new
    is_new i h w e here =
        let both : Some (ticket new) ≡ Some (ticket w) =
        ap (option_map (λ x. ticket x.1))
        (sym (ap (λ b. cond b (Some (g, new)) (stops i)) e) ∙ sym (grown_is i) ∙ here) in
        cc

    -- `start`
    pub lead_started : after (ticket new) ≡ None → ((t : ℕ) → t ≢ ticket new → after t ≡ next t)
        → ((i : ℕ) → later i ≡ added ends n (None, None) i) → LeadAs ticket grown later after
    lead_started own others is i h w here = at (i == n) refl
        ∙ sym (ap (ticket_at ticket grown) (ap next_in (is i) ∙ next_added ends n i (None, None)))
      where
        at : (b : Bool) → (i == n) ≡ b
            → after (ticket w) ≡ ticket_at ticket grown (cond b None (next_at ends i))
        at true e = ap after (is_new i h w e here) ∙ own
        at false e = let old = was_there i h w e here in others (ticket w) old.other
            ∙ lead i h w old.was ∙ sym (same_ticket i (next_at ends i) refl)

    -- `extend`
    pub lead_extended : AreDistinct ticket stops → (p k : ℕ) (v : T) → stops p ≡ Some (k, v)
        → after (ticket v) ≡ Some (ticket new) → after (ticket new) ≡ next (ticket v)
        → ((t : ℕ) → t ≢ ticket v → t ≢ ticket new → after t ≡ next t)
        → ((i : ℕ) → later i ≡ put_between ends n (Some p, next_at ends p) i)
        → LeadAs ticket grown later after
    lead_extended distinct p k v there own fresh others is i h w here =
        at (i == p) refl (i == n) refl
        ∙ sym (ap (ticket_at ticket grown)
        (ap next_in (is i) ∙ next_placed ends n p (next_at ends p) i
        (alive p (ap is_some there)) apart))
      where
        apart : p ≢ n
        apart = not_new p (alive p (ap is_some there))

        at : (b : Bool) → (i == p) ≡ b → (c : Bool) → (i == n) ≡ c
            → after (ticket w) ≡ ticket_at ticket grown
            (cond b (Some n) (cond c (next_at ends p) (next_at ends i)))
        at true e true f = absurd (apart (sym (eqb-true i p e) ∙ eqb-true i n f))
        at true e false f =
            let old = was_there i h w f here in
            ap after (one_item p h k w v (ap stops (sym (eqb-true i p e)) ∙ old.was) there) ∙ own
            ∙ sym (ap (option_map (λ x. ticket x.1))
            (grown_is n ∙ ap (λ b. cond b (Some (g, new)) (stops n)) (eq-eqb n n refl)))
        at false e true f = ap after (is_new i h w f here) ∙ fresh ∙ lead p k v there
            ∙ sym (same_ticket p (next_at ends p) refl)
        at false e false f =
            let old = was_there i h w f here in
            others (ticket w) (λ same. false≢true
            (sym e ∙ eq-eqb i p (distinct i p h k w v old.was there same))) old.other
            ∙ lead i h w old.was ∙ sym (same_ticket i (next_at ends i) refl)
