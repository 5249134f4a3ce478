-- The ledger of datasets whose accounts are those of earlier ones, but that of one file system at most.
use Rattle.std.proofs.Common.{◌≡◌, List, [], ◌∷◌, Option, Some, None, is_some, refl, sym, ap, subst, ◌∙◌}
use Rattle.std.specs.FinMap.{get}
use Rattle.model.specs.World.{FileSystem, no_limits}
use Rattle.world.specs.Shapes.{Name}
use Rattle.world.specs.Tables.{Datasets}
use Rattle.world.specs.Worlds.{AreFileSystems}
use Rattle.world.proofs.lists.Maps.{same_value}
use Rattle.limits.specs.declared.line.Line.{Line}
use Rattle.limits.proofs.Recounted.{IsAlike, AreAlikeBut, alike_itself, ledger_stays, recounted}
use Rattle.lookups.specs.Accounted.{IsAccounted}
use Rattle.steps.specs.Limiting.{CanRecount}

-- datasets are like themselves
pub alike_same : (t : Datasets) (ms : List Name) → AreAlikeBut t t ms
alike_same t ms = record {
  there = λ q out. refl;
  others = λ q f g out at at'. subst (λ (x : FileSystem). IsAlike f x) (same_value f g (sym at ∙ at')) (alike_itself f);
  origins = λ good good' q g out at. refl;
}

module _ (old new : Datasets) (good : AreFileSystems old.file_systems old.group) (good' : AreFileSystems new.file_systems new.group) where
  -- where no account differs, what is kept is kept
  pub accounted_alike : AreAlikeBut old new [] → (lines : Option (List Line)) → IsAccounted old lines → IsAccounted new lines
  accounted_alike but (Some lines) own = own ∙ sym (ledger_stays old new good good' but)
  accounted_alike but None none = λ q g at. by_old q g at (get old.file_systems q) refl
    where
      by_old : (q : Name) (g : FileSystem) → get new.file_systems q ≡ Some g → (x : Option FileSystem) → get old.file_systems q ≡ x → g.limits ≡ no_limits
      by_old q g at (Some f) e = (but.others q f g (λ k. k) e at).limits ∙ none q f e
      by_old q g at None e = let gone = sym (ap is_some at) ∙ but.there q (λ k. k) ∙ ap is_some e in cc

  -- where they differ at one name, it can be brought up to date
  pub can_recount : (name : Name) → AreAlikeBut old new (name ∷ []) → (lines : Option (List Line)) → IsAccounted old lines → CanRecount old new name lines
  can_recount name but lines kept = record { kept = kept; hierarchy = good.hierarchy; differs = recounted old new good good' name but }
