-- What a seat holds.
use Rattle.std.proofs.Common.{◌≡◌, ◌≢◌, ◌==◌, ◌||◌, ◌<◌, ◌≤◌, ◌+◌, ◌∷◌, ◌++◌, ◌∙◌, [], ℕ, List, map, length, cond, not, Bool, true, false, Some, None, refl, ap, arith, ltb-false}
use Rattle.std.specs.Prelude.{nat_lt}
use Rattle.std.specs.List.{list_any, position, position_or_len, prefix_len}
use Rattle.std.specs.List.Sorted.{IsPermutation}
use Rattle.std.proofs.lemmas.List.Sorted.{IsPermutation-refl}
use Rattle.model.specs.declared.request.Request.{Request}
use Rattle.model.specs.declared.request.Request.TheVariants.{OpenView, CloseView}
use Rattle.model.specs.declared.reply.Reply.{Reply}
use Rattle.model.specs.declared.reply.Reply.TheVariants.{Done, Opened}
use Rattle.session.specs.Handed.{is_opened}
use Rattle.session.specs.ViewCalls.{is_of_views}
use Rattle.session.specs.Views.{Viewed}
use Rattle.runner.specs.Beside.{where_opened, where_done, opened_by, closed_by}

-- a request that isn't of views opens and closes none
pub same_held : (q : Request) (r : Reply) (held : List ℕ) → is_of_views q ≡ false → IsPermutation (opened_by q r ++ held) (closed_by q r ++ held)
same_held (OpenView target) r held e = absurd (cc e)
same_held (CloseView view) r held e = absurd (cc e)
same_held request r held e = IsPermutation-refl held

-- a reply that isn't Done
pub none_done : (n : ℕ) (r : Reply) → r ≢ Done → where_done n r ≡ []
none_done n Done e = absurd (e refl)
none_done n reply e = refl

-- a reply that opened no view
pub none_opened : (r : Reply) → is_opened r ≡ false → where_opened r ≡ []
none_opened (Opened view sight) e = absurd (cc e)
none_opened reply e = refl

-- the numbers of views that have one
pub any_number : (vs : List Viewed) (n : ℕ) → list_any (λ k. k == n) (map (λ (v : Viewed). v.number) vs) ≡ list_any (λ (v : Viewed). v.number == n) vs
any_number [] n = refl
any_number (v ∷ vs) n = ap (λ b. (v.number == n) || b) (any_number vs n)

-- ---- a view by its number

no_first : (p : Viewed → Bool) (vs : List Viewed) → (position_or_len p vs < length vs → ⊥) → list_any p vs ≡ false
no_first p [] h = refl
no_first p (v ∷ vs) h = by (no_first p vs) (p v) refl
  where
    by : ((position_or_len p vs < length vs → ⊥) → list_any p vs ≡ false) → (b : Bool) → p v ≡ b → list_any p (v ∷ vs) ≡ false
    by more true e =
        let here : position_or_len p (v ∷ vs) ≡ 0 = ap (λ b. cond (not b) (1 + prefix_len (λ w. not (p w)) vs) 0) e in
        absurd (h (omega (arith, here)))
    by more false e =
        let later : position_or_len p (v ∷ vs) ≡ 1 + position_or_len p vs = ap (λ b. cond (not b) (1 + prefix_len (λ w. not (p w)) vs) 0) e in
        ap (λ b. b || list_any p vs) e ∙ more (λ low. h (omega (arith, low, later)))

no_some : (b : Bool) (n : ℕ) → cond b (Some n) None ≡ None → b ≡ false
no_some true n e = absurd (cc e)
no_some false n e = refl

-- none has the number where there is no first one that has it
pub no_position : (p : Viewed → Bool) (vs : List Viewed) → position p vs ≡ None → list_any p vs ≡ false
no_position p vs e =
    let past : length vs ≤ position_or_len p vs = ltb-false (position_or_len p vs) (length vs) (no_some (nat_lt (position_or_len p vs) (length vs)) (position_or_len p vs) e) in
    no_first p vs (λ low. omega (arith, low, past))
