-- Quotas between two steps: who keeps them, who asks them, and what is so where no file system has a limit.
use Rattle.std.proofs.Common.{◌≡◌, ℕ, Option, None, sym, ap, subst, ◌∙◌, ⊎_elim}
use Rattle.model.specs.World.{World, FileSystem, Live, Limits, no_limits}
use Rattle.model.specs.State.{State}
use Rattle.model.specs.Sums.{used_of, referenced_of}
use Rattle.model.specs.Rule.{first_of}
use Rattle.model.specs.requests.Change.{limit_row}
use Rattle.world.specs.Worlds.{IsPoolState}
use Rattle.limits.specs.Limits.{IsUnlimited, IsWithin, IsKeptOrNone, IsShrunk, AreShrunk, AreQuotasMet, HasLimits}
use Rattle.limits.specs.Steps.{AreKept}
use Rattle.limits.proofs.Limits.{limits_met}
use Rattle.limits.proofs.AskedRows.{limits_asked}
use Rattle.limits.proofs.Steps.{step_keeps, kept_same, kept_shrunk}
use Rattle.steps.specs.Steady.{IsSteady}

-- ---- requests that make no file system use more

pub kept_limits : (s new : State) → IsSteady s → IsPoolState new → new.last ≡ s.last → AreShrunk s.now new.now → HasLimits new
kept_limits s new steady good last shrunk = step_keeps s new steady.good good last shrunk steady.limits

-- the same file systems
pub same_limits : (s new : State) → IsSteady s → IsPoolState new → new.last ≡ s.last → new.now.file_systems ≡ s.now.file_systems → HasLimits new
same_limits s new steady good last same = kept_limits s new steady good last (kept_shrunk s.now new.now (kept_same s.now new.now same))

-- ---- requests that ask limits

-- where those hold that are asked of the state that it leads to
pub asked_limits : (s new : State) → new.last ≡ s.last → first_of (limit_row new) ≡ None → HasLimits s → HasLimits new
asked_limits s new last fits has = record { now = (limits_met new (limits_asked new fits)).0; last = subst AreQuotasMet (sym last) has.last }

-- ---- where no file system has a limit

limit_gone : (before after : Option ℕ) → IsKeptOrNone before after → before ≡ None → after ≡ None
limit_gone before after kept none = ⊎_elim (λ e. e ∙ none) (λ e. e) kept

shrunk_unlimited : (s t : FileSystem) → IsShrunk s t → s.limits ≡ no_limits → t.limits ≡ no_limits
shrunk_unlimited s t k none = λ i. record {
  quota = limit_gone s.limits.quota t.limits.quota k.quota (ap (λ (l : Limits). l.quota) none) i;
  refquota = limit_gone s.limits.refquota t.limits.refquota k.refquota (ap (λ (l : Limits). l.refquota) none) i;
  reservation = limit_gone s.limits.reservation t.limits.reservation k.reservation (ap (λ (l : Limits). l.reservation) none) i;
  refreservation = limit_gone s.limits.refreservation t.limits.refreservation k.refreservation (ap (λ (l : Limits). l.refreservation) none) i;
}

-- file systems that were there have none either
pub unlimited_kept : (old new : World) → AreKept old new → IsUnlimited old.file_systems → IsUnlimited new.file_systems
unlimited_kept old new kept none name t at = let k = kept name t at in shrunk_unlimited k.0 t k.2 (none name k.0 k.1)

within_none : (n : ℕ) (limit : Option ℕ) → limit ≡ None → IsWithin n limit
within_none n limit none = subst (IsWithin n) (sym none) tt

-- every quota is met
pub met_unlimited : (w : World) → IsUnlimited w.file_systems → AreQuotasMet w
met_unlimited w none = record {
  quotas = λ name f at. within_none (used_of w name) f.limits.quota (ap (λ (l : Limits). l.quota) (none name f at));
  refquotas = λ name f at. within_none (referenced_of w (Live name)) f.limits.refquota (ap (λ (l : Limits). l.refquota) (none name f at));
}

pub bare_limits : (s new : State) → new.last ≡ s.last → IsUnlimited new.now.file_systems → HasLimits s → HasLimits new
bare_limits s new last none has = record { now = met_unlimited new.now none; last = subst AreQuotasMet (sym last) has.last }
