use Rattle.std.proofs.Common.{◌≡◌, ◌<◌, ◌≤◌, [], Option, Some, None, Result, Ok, Err, sym, ap, subst}
use Rattle.std.specs.Prelude.{IfOk}
use Rattle.std.specs.Result.{result_ok}
use Rattle.base.specs.declared.refusal.Refusal.{Refusal}
use Rattle.model.specs.declared.request.Request.TheVariants.{Sync, Slice}
use Rattle.session.specs.Handed.{Kept}
use Rattle.session.specs.declared.book.book.TheConstants.{SEAT_LIMIT}
use Rattle.runner.proofs.Asking.{asks_nothing}
use Rattle.runner.proofs.beside.opened.Goals as goal

some_or : {A : Type 0} → A → Option A → A
some_or d None = d
some_or d (Some x) = x

-- what holds of a result's value holds of the value that it gives
of_ok : {A B : Type 0} (P : A → Type 0) (r : Result A B) (x : A) → Some x ≡ result_ok r → IfOk r P → P x
unfolding some_or
of_ok P (Ok y) x e h = subst P (sym (ap (some_or y) e)) h
of_ok P (Err b) x e h = cc

-- a seat that was given has no receipts
is_new : (r : Result Kept Refusal) (x : Kept) → Some x ≡ result_ok r → IfOk r (λ s. (s.receipts ≡ []) × (0 < s.number) × (s.number ≤ SEAT_LIMIT)) → x.receipts ≡ []
is_new r x e h = (of_ok (λ (s : Kept). (s.receipts ≡ []) × (0 < s.number) × (s.number ≤ SEAT_LIMIT)) r x e h).0

pub returns-clause-new : goal.returns-clause-new
returns-clause-new g c = is_new c.seat.result c.in_ok-script.script c.in_ok-script.ensures.value c.seat.ensures.new

pub returns-clause-workers : goal.returns-clause-workers
returns-clause-workers g c =
    record {
      syncs = asks_nothing Sync c.in_ok-syncer.syncer (is_new c.seat-2.result c.in_ok-syncer.syncer c.in_ok-syncer.ensures.value c.seat-2.ensures.new);
      slices = asks_nothing (Slice 64) c.in_ok-destroyer.destroyer (is_new c.seat-3.result c.in_ok-destroyer.destroyer c.in_ok-destroyer.ensures.value c.seat-3.ensures.new);
    }
