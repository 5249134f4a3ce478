-- How a worker's requests add up.
use Rattle.std.proofs.Common.{◌≡◌, ◌+◌, ◌<◌, ◌^◌, ◌∷◌, ◌++◌, [], ℕ, zero, suc, List, length, refl, arith, length-append, Bool, true, false, Some, None, inl, inr}
use Rattle.std.specs.Prelude.{All}
use Rattle.std.proofs.lemmas.List.Elements.{All-append}
use Rattle.base.specs.declared.refusal.Refusal.{Refusal}
use Rattle.base.specs.declared.refusal.Refusal.TheVariants.{NoMemory}
use Rattle.model.specs.declared.request.Request.{Request}
use Rattle.model.specs.declared.reply.Reply.TheVariants.{Refused}
use Rattle.model.specs.State.{State}
use Rattle.session.specs.History.{IsStepThere}
use Rattle.session.specs.Receipts.{Placed, Kept}
use Rattle.session.specs.Entering.{Ran, IsFullOrNoMemory}
use Rattle.session.proofs.Alls.{all_one}
use Rattle.session.specs.Calls.{IsAdded}
use Rattle.session.specs.Works.{HadMemory, IsWork}
use Rattle.session.proofs.SoFar.{more_added}

-- so many ran, and all of them had memory
pub record IsSteady (opening : State) (seat : Kept) (request : Request) (count : ℕ) (after : Kept) : Type 0 where
  pub receipts : List Placed
  pub added : IsAdded seat receipts after
  pub counted : length receipts ≡ count
  pub asked : All (λ r. r.entry.request ≡ request) receipts
  pub there : All (IsStepThere opening) receipts
  pub memory : All HadMemory receipts

abbrev IsFor : Request → Placed → Type 0
IsFor request r = r.entry.request ≡ request

one_more : (seat now after : Kept) (request : Request) (rs : List Placed) (r : Placed) → IsAdded seat rs now → Ran now request r after → IsAdded seat (rs ++ r ∷ []) after
one_more seat now after request rs r h ran = more_added seat now after rs r h (ran.0, refl, ran.2)

pub more_work : (opening : State) (seat now after : Kept) (request : Request) (n : ℕ) (r : Placed) → IsSteady opening seat request n now → Ran now request r after → IsStepThere opening r → HadMemory r → IsSteady opening seat request (n + 1) after
more_work opening seat now after request n r w ran there had =
    record {
      receipts = w.receipts ++ r ∷ [];
      added = one_more seat now after request w.receipts r w.added ran;
      counted = omega (arith, length-append w.receipts (r ∷ []), w.counted);
      asked = All-append (IsFor request) w.receipts (r ∷ []) w.asked (all_one (IsFor request) r ran.1);
      there = All-append (IsStepThere opening) w.receipts (r ∷ []) w.there (all_one (IsStepThere opening) r there);
      memory = All-append HadMemory w.receipts (r ∷ []) w.memory (all_one HadMemory r had);
    }

-- the gate said no
pub stopped_work : (opening : State) (seat now : Kept) (request : Request) (before n left : ℕ) (stopped : Bool) → IsSteady opening seat request n now → before ≡ left + n → stopped ≡ true
    → IsWork opening seat request before n None left stopped now
stopped_work opening seat now request before n left stopped w turns answer =
    record { receipts = w.receipts; added = w.added; counted = w.counted; asked = w.asked; there = w.there; ended = (answer, omega (arith, turns, w.counted), w.memory) }

-- the gate said yes, and the next request got no entry
pub unentered_work : (opening : State) (seat now : Kept) (request : Request) (before n left : ℕ) (stopped : Bool) (r : Refusal) → IsSteady opening seat request n now
    → before ≡ left + n + 1 → stopped ≡ false → IsFullOrNoMemory r → IsWork opening seat request before n (Some r) left stopped now
unentered_work opening seat now request before n left stopped r w turns answer why =
    record {
      receipts = w.receipts;
      added = w.added;
      counted = w.counted;
      asked = w.asked;
      there = w.there;
      ended = (answer, inl (omega (arith, turns, w.counted), why, w.memory));
    }

-- the last one that ran was refused for want of memory
pub starved_work : (opening : State) (seat now after : Kept) (request : Request) (before n left : ℕ) (stopped : Bool) (r : Placed) → IsSteady opening seat request n now → Ran now request r after → IsStepThere opening r
    → before ≡ left + (n + 1) → stopped ≡ false → r.entry.reply ≡ Refused NoMemory → IsWork opening seat request before (n + 1) (Some NoMemory) left stopped after
starved_work opening seat now after request before n left stopped r w ran there turns answer lacked =
    let one : length (w.receipts ++ r ∷ []) ≡ n + 1 = omega (arith, length-append w.receipts (r ∷ []), w.counted) in
    record {
      receipts = w.receipts ++ r ∷ [];
      added = one_more seat now after request w.receipts r w.added ran;
      counted = one;
      asked = All-append (IsFor request) w.receipts (r ∷ []) w.asked (all_one (IsFor request) r ran.1);
      there = All-append (IsStepThere opening) w.receipts (r ∷ []) w.there (all_one (IsStepThere opening) r there);
      ended = (answer, inr (omega (arith, turns, one), refl, record { front = w.receipts; last = r; split = refl; had = w.memory; lacked = lacked }));
    }

-- the turns that there were fit, as those that are left before the first do
pub few_more : (before left ran : ℕ) → before ≡ left + ran → left < 2 ^ 64 → (0 < ran → before < 2 ^ 64) → before < 2 ^ 64
few_more before left zero spent few more = omega arith
few_more before left (suc n) spent few more = more (omega arith)
