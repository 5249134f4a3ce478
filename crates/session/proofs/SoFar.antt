-- How far a batch has come.
use Rattle.std.proofs.Common.{◌≡◌, ◌+◌, ◌∷◌, ◌++◌, [], ℕ, List, length, refl, sym, ap, ◌∙◌, arith, length-append, append_assoc, map, take, Bool, true, false, inl, inr, ◌<◌, zero, suc, subst}
use Rattle.std.specs.Prelude.{All}
use Rattle.std.proofs.Math.Seq.{take-append_seam}
use Rattle.std.proofs.lemmas.List.{map-append, length-map}
use Rattle.std.proofs.lemmas.List.Elements.{All-append}
use Rattle.model.specs.declared.request.Request.{Request}
use Rattle.session.specs.Asked.{Asked}
use Rattle.session.specs.Receipts.{Placed, Kept}
use Rattle.session.specs.Entering.{Ran}
use Rattle.session.specs.Calls.{FollowOn, IsAdded, IsBegun, IsPaced}
use Rattle.session.proofs.Alls.{all_one}

abbrev pub request_in : Placed → Request
request_in r = r.entry.request

-- what calls ask for
abbrev pub requests_in : List Asked → List Request
requests_in = map (λ a. a.request)

-- a seat's call for a request
abbrev pub asked_by : ℕ → Request → Asked
asked_by n q = record { seat = n; request = q }

-- calls that a seat makes are its own, and ask for what it was to ask for
own_made : (n : ℕ) (qs : List Request) → All (λ (b : Asked). b.seat ≡ n) (map (asked_by n) qs)
own_made n [] k d lt = absurd (omega arith)
own_made n (q ∷ qs) zero d lt = refl
own_made n (q ∷ qs) (suc k) d lt = own_made n qs k d (omega arith)

pub own_all : (n : ℕ) (qs : List Request) (all : List Asked) → map (asked_by n) qs ≡ all → All (λ (b : Asked). b.seat ≡ n) all
own_all n qs all e = subst (All (λ (b : Asked). b.seat ≡ n)) e (own_made n qs)

pub requests_all : (n : ℕ) (qs : List Request) → requests_in (map (asked_by n) qs) ≡ qs
requests_all n [] = refl
requests_all n (q ∷ qs) = ap (λ xs. q ∷ xs) (requests_all n qs)

-- the calls after the first are of the seat too, whatever it has kept
pub own_later : (seat now : Kept) (all rest : List Asked) (a : Asked) → all ≡ a ∷ rest → All (λ (b : Asked). b.seat ≡ seat.number) all → now.number ≡ seat.number → All (λ (b : Asked). b.seat ≡ now.number) rest
own_later seat now all rest a e own same k d lt = subst (All (λ (b : Asked). b.seat ≡ seat.number)) e own (suc k) d (omega arith) ∙ sym same

-- receipts rs have numbers from the first on, and are for all requests but the rest
pub record IsSoFar (first left : ℕ) (all rest : List Request) (rs : List Placed) (next left' : ℕ) : Type 0 where
  pub follow : FollowOn first rs
  pub entered : next ≡ first + length rs
  pub split : all ≡ map request_in rs ++ rest
  pub spent : left + 1 ≡ left' + length rs
  pub some : 0 < length rs

follow_more : (k : ℕ) (rs : List Placed) (r : Placed) → FollowOn k rs → r.number ≡ k + length rs → FollowOn k (rs ++ r ∷ [])
follow_more k [] r h e = (omega arith, tt)
follow_more k (x ∷ rs) r h e = (h.0, follow_more (k + 1) rs r h.1 (omega arith))

take_all : (xs rest : List Request) (n : ℕ) → n ≡ length xs → take n (xs ++ rest) ≡ xs
take_all xs rest n e = ap (λ k. take k (xs ++ rest)) e ∙ take-append_seam xs rest

pub first_so_far : (left next : ℕ) (rest : List Request) (r : Placed) → r.number + 1 ≡ next → IsSoFar r.number left (r.entry.request ∷ rest) rest (r ∷ []) next left
first_so_far left next rest r last = record { follow = (refl, tt); entered = sym last; split = refl; spent = refl; some = omega arith }

pub first_added : (seat seat' : Kept) (r : Placed) → Ran seat r.entry.request r seat' → IsAdded seat (r ∷ []) seat'
first_added seat seat' r ran = record { kept = ran.2; seated = all_one (λ (x : Placed). x.entry.seat ≡ seat.number) r ran.0 }

pub begun : (first left next left' : ℕ) (all rest : List Request) (rs : List Placed) → IsSoFar first left all rest rs next left' → IsBegun all rs
begun first left next left' all rest rs h = sym (take_all (map request_in rs) rest (length rs) (sym (length-map rs request_in))) ∙ ap (take (length rs)) (sym h.split)

pub more_added : (seat now seat' : Kept) (rs : List Placed) (r : Placed) → IsAdded seat rs now → Ran now r.entry.request r seat' → IsAdded seat (rs ++ r ∷ []) seat'
more_added seat now seat' rs r h ran =
    record {
      kept = ran.2 ∙ ap (λ k. record { number = k.number; receipts = k.receipts ++ r ∷ [] }) h.kept ∙ ap (λ xs. record { number = seat.number; receipts = xs }) (append_assoc seat.receipts rs (r ∷ []));
      seated = All-append (λ (x : Placed). x.entry.seat ≡ seat.number) rs (r ∷ []) h.seated (all_one (λ (x : Placed). x.entry.seat ≡ seat.number) r (ran.0 ∙ ap (λ k. k.number) h.kept));
    }

pub more_so_far : (first left middle next left' : ℕ) (all rest : List Request) (rs : List Placed) (r : Placed)
    → IsSoFar first left all (r.entry.request ∷ rest) rs middle (left' + 1) → r.number ≡ middle → next ≡ middle + 1
    → IsSoFar first left all rest (rs ++ r ∷ []) next left'
more_so_far first left middle next left' all rest rs r h number grown =
    let spent : left + 1 ≡ left' + length (rs ++ r ∷ []) = omega (arith, length-append rs (r ∷ []), h.spent) in
    record {
      follow = follow_more first rs r h.follow (number ∙ h.entered);
      entered = omega (arith, grown, h.entered, length-append rs (r ∷ []));
      split = h.split ∙ sym (append_assoc (map request_in rs) (r.entry.request ∷ []) rest) ∙ ap (λ xs. xs ++ rest) (sym (map-append request_in rs (r ∷ [])));
      spent = spent;
      some = omega (arith, length-append rs (r ∷ []));
    }

-- a batch that isn't through
short : (first left next left' : ℕ) (all xs rest : List Request) (rs : List Placed) (q : Request) → IsSoFar first left all xs rs next left' → xs ≡ q ∷ rest → length rs < length all
short first left next left' all xs rest rs q h more = omega (arith, ap length h.split, length-append (map request_in rs) xs, length-map rs request_in, ap length more)

-- the gate said no
pub stopped_pace : (first left next left' after asked ran : ℕ) (all xs rest : List Request) (rs : List Placed) (q : Request) (stopped : Bool)
    → IsSoFar first left all xs rs next left' → xs ≡ q ∷ rest → asked ≡ length all → ran ≡ length rs → after ≡ left' → stopped ≡ true → IsPaced asked left ran after stopped
stopped_pace first left next left' after asked ran all xs rest rs q stopped h more all_is rs_is turn answer =
    let less : length rs < length all = short first left next left' all xs rest rs q h more in
    inr (inl (omega (arith, h.some, rs_is), omega (arith, less, all_is, rs_is), answer, omega (arith, h.spent, turn, rs_is)))

-- the gate said yes, and the next request had no entry
pub starved_pace : (first left next left' after asked ran : ℕ) (all xs rest : List Request) (rs : List Placed) (q : Request) (stopped : Bool)
    → IsSoFar first left all xs rs next left' → xs ≡ q ∷ rest → asked ≡ length all → ran ≡ length rs → left' ≡ after + 1 → stopped ≡ false → IsPaced asked left ran after stopped
starved_pace first left next left' after asked ran all xs rest rs q stopped h more all_is rs_is turn answer =
    let less : length rs < length all = short first left next left' all xs rest rs q h more in
    inr (inr (omega (arith, h.some, rs_is), omega (arith, less, all_is, rs_is), answer, omega (arith, h.spent, turn, rs_is)))

-- all ran
pub whole_pace : (first left next left' after asked ran : ℕ) (all rest : List Request) (rs : List Placed) (stopped : Bool)
    → IsSoFar first left all rest rs next left' → length rest ≡ 0 → asked ≡ length all → ran ≡ length rs → after ≡ left' → IsPaced asked left ran after stopped
whole_pace first left next left' after asked ran all rest rs stopped h none all_is rs_is turn =
    let whole : length all ≡ length rs = omega (arith, ap length h.split, length-append (map request_in rs) rest, length-map rs request_in, none) in
    inl (omega (arith, whole, all_is, rs_is), omega (arith, h.spent, h.some, turn, rs_is))
