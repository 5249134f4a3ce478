-- What a call on a seat that holds views comes to.
use Rattle.std.proofs.lemmas.Bool.{eqb-true, false≢true}
use Rattle.std.proofs.lemmas.List.Quantifiers.{position-Some}
use Rattle.std.proofs.Common.{true, ◌≡◌, ◌≢◌, ◌==◌, ◌∷◌, ◌++◌, ◌⊎◌, ◌<◌, [], ℕ, List, map, length, false, Option, Some, None, refl, sym, ap, subst, ◌∙◌, inl, inr}
use Rattle.std.specs.Prelude.{IfSome, get_or}
use Rattle.std.specs.List.{swap_remove, position}
use Rattle.std.specs.List.Sorted.{IsPermutation}
use Rattle.std.proofs.lemmas.List.{map-append}
use Rattle.std.proofs.lemmas.List.Sorted.{IsPermutation-refl, IsPermutation-sym, IsPermutation-trans, IsPermutation-to_front, IsPermutation-swap_remove, IsPermutation-map}
use Rattle.base.specs.declared.refusal.Refusal.{Refusal}
use Rattle.base.specs.declared.refusal.Refusal.TheVariants.{NoView}
use Rattle.base.specs.declared.name.target.Target.{Target}
use Rattle.model.specs.declared.request.Request.{Request}
use Rattle.model.specs.declared.request.Request.TheVariants.{OpenView, CloseView}
use Rattle.model.specs.declared.reply.Reply.{Reply}
use Rattle.model.specs.declared.reply.Reply.TheVariants.{Done, Refused, Opened}
use Rattle.session.specs.Handed.{Ran, IsFullOrNoMemory, is_opened, Placed, Kept}
use Rattle.session.specs.ViewCalls.{is_of_views}
use Rattle.session.specs.Views.{Viewed}
use Rattle.runner.specs.Beside.{Gains, where_opened, where_done, opened_by, closed_by}
use Rattle.runner.specs.Sitting.{Sitting}
use Rattle.runner.proofs.Holding.{same_held, none_done, none_opened, any_number, no_position}

-- the numbers of views
abbrev pub numbers : List Viewed → List ℕ
numbers vs = map (λ (v : Viewed). v.number) vs

copied : (reply : Option Reply) (r : Reply) → IfSome reply (λ x. x ≡ r) → (reply ≡ Some r) ⊎ (reply ≡ None)
copied None r e = inr refl
copied (Some x) r e = inl (ap Some e)

-- one that ran
pub gains_receipt : (s t : Sitting) (q : Request) (reply : Option Reply) (r : Placed) → Ran s.seat q r t.seat
    → IsPermutation (opened_by q r.entry.reply ++ s.held) (closed_by q r.entry.reply ++ t.held) → IfSome reply (λ x. x ≡ r.entry.reply) → Gains s q reply t
gains_receipt s t q reply r ran held e = inl (r, ran, held, copied reply r.entry.reply e)

-- one that didn't
pub gains_none : (s t : Sitting) (q : Request) (reply : Option Reply) (refusal : Refusal) → t.seat ≡ s.seat → IsPermutation s.held t.held
    → reply ≡ Some (Refused refusal) → IsFullOrNoMemory refusal → Gains s q reply t
gains_none s t q reply refusal seat held e why = inr (refusal, seat, held, e, inl why)

-- ---- a request that isn't of views

module _ (seat after : Kept) (vs : List Viewed) (q : Request) (reply : Option Reply) (other : is_of_views q ≡ false) where
  -- it ran
  pub gains_called : (r : Placed) → Ran seat q r after → IfSome reply (λ x. x ≡ r.entry.reply) → Gains (record { seat = seat; held = numbers vs }) q reply (record { seat = after; held = numbers vs })
  gains_called r ran e =
      gains_receipt (record { seat = seat; held = numbers vs }) (record { seat = after; held = numbers vs }) q reply r ran (same_held q r.entry.reply (numbers vs) other) e

  -- it didn't
  pub gains_uncalled : (refusal : Refusal) → after ≡ seat → reply ≡ Some (Refused refusal) → IsFullOrNoMemory refusal ⊎ ((refusal ≡ NoView) × (is_of_views q ≡ true))
      → Gains (record { seat = seat; held = numbers vs }) q reply (record { seat = after; held = numbers vs })
  gains_uncalled refusal still e (inl why) =
      gains_none (record { seat = seat; held = numbers vs }) (record { seat = after; held = numbers vs }) q reply refusal still (IsPermutation-refl (numbers vs)) e why
  gains_uncalled refusal still e (inr (no_view, of_views)) = absurd (false≢true (sym other ∙ of_views))

-- a view that the seat doesn't hold
pub gains_unheld : (seat : Kept) (vs : List Viewed) (n : ℕ) → None ≡ position (λ (v : Viewed). v.number == n) vs
    → Gains (record { seat = seat; held = numbers vs }) (CloseView n) (Some (Refused NoView)) (record { seat = seat; held = numbers vs })
gains_unheld seat vs n none = inr (NoView, refl, IsPermutation-refl (numbers vs), refl, inr (refl, (n, refl, subst (λ b. b ≡ false) (sym (any_number vs n)) (no_position (λ (v : Viewed). v.number == n) vs (sym none)))))

-- ---- what it holds then

-- a view that was opened
pub held_opened : (vs : List Viewed) (v : Viewed) (r : Reply) → r ≡ Opened v.number v.sight → IsPermutation (where_opened r ++ numbers vs) (numbers (vs ++ v ∷ []))
held_opened vs v r e =
    let front : IsPermutation (v.number ∷ numbers vs) (numbers vs ++ v.number ∷ []) = IsPermutation-sym (numbers vs ++ v.number ∷ []) (v.number ∷ numbers vs) (IsPermutation-to_front (numbers vs) v.number) in
    let moved : IsPermutation (v.number ∷ numbers vs) (numbers (vs ++ v ∷ [])) = subst (λ ns. IsPermutation (v.number ∷ numbers vs) ns) (sym (map-append (λ (w : Viewed). w.number) vs (v ∷ []))) front in
    subst (λ w. IsPermutation (where_opened w ++ numbers vs) (numbers (vs ++ v ∷ []))) (sym e) moved

-- the view that is taken out
pub held_taken : (vs : List Viewed) (i : ℕ) (v : Viewed) → i < length vs → v ≡ get_or vs i v → IsPermutation (numbers vs) (v.number ∷ numbers (swap_remove vs i v))
held_taken vs i v low at = IsPermutation-map (λ (w : Viewed). w.number) vs (v ∷ swap_remove vs i v) (IsPermutation-swap_remove vs i v low at)

-- and is closed
pub held_closed : (held rest : List ℕ) (n m : ℕ) (r : Reply) → m ≡ n → r ≡ Done → IsPermutation held (m ∷ rest) → IsPermutation held (where_done n r ++ rest)
held_closed held rest n m r same done taken =
    subst (λ w. IsPermutation held (where_done n w ++ rest)) (sym done) (subst (λ k. IsPermutation held (k ∷ rest)) same taken)

-- or is put back
pub held_back : (held : List ℕ) (rest : List Viewed) (v : Viewed) → IsPermutation held (v.number ∷ numbers rest) → IsPermutation held (numbers (rest ++ v ∷ []))
held_back held rest v taken =
    let front : IsPermutation (v.number ∷ numbers rest) (numbers rest ++ v.number ∷ []) = IsPermutation-sym (numbers rest ++ v.number ∷ []) (v.number ∷ numbers rest) (IsPermutation-to_front (numbers rest) v.number) in
    let moved : IsPermutation (v.number ∷ numbers rest) (numbers (rest ++ v ∷ [])) = subst (λ ns. IsPermutation (v.number ∷ numbers rest) ns) (sym (map-append (λ (w : Viewed). w.number) rest (v ∷ []))) front in
    IsPermutation-trans held (v.number ∷ numbers rest) (numbers (rest ++ v ∷ [])) taken moved

-- with a reply that isn't Done
pub held_undone : (held after : List ℕ) (n : ℕ) (r : Reply) → r ≢ Done → IsPermutation held after → IsPermutation held (where_done n r ++ after)
held_undone held after n r e same = subst (λ ns. IsPermutation held (ns ++ after)) (sym (none_done n r e)) same

-- ---- the two calls

abbrev at_seat : Kept → List Viewed → Sitting
at_seat seat vs = record { seat = seat; held = numbers vs }

-- a view that was opened is held
pub gains_opened : (seat after : Kept) (vs ws : List Viewed) (v : Viewed) (target : Target) (r : Placed) (reply : Option Reply) → ws ≡ vs ++ v ∷ [] → Ran seat (OpenView target) r after
    → r.entry.reply ≡ Opened v.number v.sight → IfSome reply (λ x. x ≡ r.entry.reply) → Gains (record { seat = seat; held = numbers vs }) (OpenView target) reply (record { seat = after; held = numbers ws })
gains_opened seat after vs ws v target r reply grown ran shown e =
    gains_receipt (at_seat seat vs) (at_seat after ws) (OpenView target) reply r ran
    (subst (λ xs. IsPermutation (where_opened r.entry.reply ++ numbers vs) (numbers xs)) (sym grown) (held_opened vs v r.entry.reply shown)) e

-- where the pool opened none, it holds what it held
pub gains_unopened : (seat after : Kept) (vs ws : List Viewed) (target : Target) (r : Placed) (reply : Option Reply) → ws ≡ vs → Ran seat (OpenView target) r after
    → is_opened r.entry.reply ≡ false → IfSome reply (λ x. x ≡ r.entry.reply) → Gains (record { seat = seat; held = numbers vs }) (OpenView target) reply (record { seat = after; held = numbers ws })
gains_unopened seat after vs ws target r reply same ran none e =
    let held : IsPermutation (numbers vs) (numbers ws) = subst (λ us. IsPermutation (numbers vs) (numbers us)) (sym same) (IsPermutation-refl (numbers vs)) in
    gains_receipt (at_seat seat vs) (at_seat after ws) (OpenView target) reply r ran
    (subst (λ ns. IsPermutation (ns ++ numbers vs) (numbers ws)) (sym (none_opened r.entry.reply none)) held) e

module _ (seat : Kept) (vs rest : List Viewed) (n i : ℕ) (v : Viewed) (first : Some i ≡ position (λ (w : Viewed). w.number == n) vs) (at : v ≡ get_or vs i v) (less : rest ≡ swap_remove vs i v) where
  number : v.number ≡ n
  number = eqb-true v.number n (subst (λ w. (w.number == n) ≡ true) (sym at) (position-Some (λ (w : Viewed). w.number == n) vs i v (sym first)).1)

  taken : IsPermutation (numbers vs) (v.number ∷ numbers rest)
  taken = subst (λ ws. IsPermutation (numbers vs) (v.number ∷ numbers ws)) (sym less) (held_taken vs i v (position-Some (λ (w : Viewed). w.number == n) vs i v (sym first)).0 at)

  back : (ws : List Viewed) (w : Viewed) → w ≡ v → ws ≡ rest ++ w ∷ [] → IsPermutation (numbers vs) (numbers ws)
  back ws w same put = subst (λ us. IsPermutation (numbers vs) (numbers us)) (sym (put ∙ ap (λ u. rest ++ u ∷ []) same)) (held_back (numbers vs) rest v taken)

  asked : (r : Placed) (after : Kept) → Ran seat (CloseView v.number) r after → Ran seat (CloseView n) r after
  asked r after ran = subst (λ k. Ran seat (CloseView k) r after) number ran

  -- the view that was closed is no more held
  pub gains_closed : (after : Kept) (r : Placed) (reply : Option Reply) → Ran seat (CloseView v.number) r after → r.entry.reply ≡ Done → IfSome reply (λ x. x ≡ r.entry.reply)
      → Gains (record { seat = seat; held = numbers vs }) (CloseView n) reply (record { seat = after; held = numbers rest })
  gains_closed after r reply ran done e =
      gains_receipt (at_seat seat vs) (at_seat after rest) (CloseView n) reply r (asked r after ran) (held_closed (numbers vs) (numbers rest) n v.number r.entry.reply number done taken) e

  -- one that the pool didn't close is held still
  pub gains_refused : (after : Kept) (ws : List Viewed) (w : Viewed) (r : Placed) (reply : Option Reply) → w ≡ v → ws ≡ rest ++ w ∷ [] → Ran seat (CloseView v.number) r after → r.entry.reply ≢ Done
      → IfSome reply (λ x. x ≡ r.entry.reply) → Gains (record { seat = seat; held = numbers vs }) (CloseView n) reply (record { seat = after; held = numbers ws })
  gains_refused after ws w r reply same put ran undone e =
      gains_receipt (at_seat seat vs) (at_seat after ws) (CloseView n) reply r (asked r after ran) (held_undone (numbers vs) (numbers ws) n r.entry.reply undone (back ws w same put)) e

  -- and so where nothing ran
  pub gains_nothing : (after : Kept) (ws : List Viewed) (w : Viewed) (refusal : Refusal) → w ≡ v → ws ≡ rest ++ w ∷ [] → after ≡ seat → IsFullOrNoMemory refusal
      → Gains (record { seat = seat; held = numbers vs }) (CloseView n) (Some (Refused refusal)) (record { seat = after; held = numbers ws })
  gains_nothing after ws w refusal same put still why = gains_none (at_seat seat vs) (at_seat after ws) (CloseView n) (Some (Refused refusal)) refusal still (back ws w same put) refl why
