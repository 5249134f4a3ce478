-- What was foretold of a change of a live map is what it comes to, whatever numbers its new blocks have: so the ledger that is settled by it
-- is that of the datasets after it.
use Rattle.std.proofs.Common.{◌≡◌, ◌<◌, ◌^◌, ℕ, List, Option, Some, None, refl, sym, ap, subst, ◌∙◌, ⊎_elim}
use Rattle.std.specs.Prelude.{unwrap_or, is_some, IsSome}
use Rattle.std.specs.Option.{option_map_or}
use Rattle.std.specs.FinMap.{get, keys}
use Rattle.std.specs.FinMap as finmap
use Rattle.std.specs.FinSet as set
use Rattle.base.specs.Rewrite.{Changes, rewrite}
use Rattle.zalloc.specs.declared.BlockState.{BlockState}
use Rattle.tree.specs.Change.{IsChange}
use Rattle.batch.specs.declared.draft.Draft.{Draft}
use Rattle.model.specs.World.{World, FileSystem, Live}
use Rattle.model.specs.Hierarchy.{FileSystems}
use Rattle.model.specs.State.{State}
use Rattle.model.specs.Edits.{with_now, after_change}
use Rattle.model.specs.Numbers.{HasStates}
use Rattle.model.specs.Rule.{Choice}
use Rattle.model.specs.Sums.{referenced_of}
use Rattle.world.specs.Shapes.{Name, name_order}
use Rattle.world.specs.Tables.{Datasets, world_of}
use Rattle.world.specs.Worlds.{IsPoolState}
use Rattle.world.proofs.lists.Maps.{same_value, key_cases}
use Rattle.limits.specs.Levels.{IsSameHere}
use Rattle.limits.proofs.AskedChanges.{after_is, live_there, others}
use Rattle.limits.proofs.AskedSteps.{change_same_here, change_same_size}
use Rattle.datasets.specs.Writes.{young_of, HasWritten}
use Rattle.steps.specs.Asked.{asked_by_change}
use Rattle.steps.specs.Edits.{datasets_of, with_datasets}
use Rattle.steps.specs.Steady.{IsSteady}
use Rattle.steps.proofs.requests.Planning.{leads_to}
use Rattle.steps.proofs.requests.Writing.{young_is}
use Rattle.limits.specs.Changes.{IsChanged, IsLedgerOf}
use Rattle.limits.specs.declared.outlook.outlook.Outlook.{Outlook}
use Rattle.lookups.specs.Accounted.{IsAccounted}
use Rattle.steps.specs.Limiting.{Foretells, CanSettle}
use Rattle.limits.specs.declared.line.Line.{Line}
use Rattle.steps.proofs.quotas.Foretold.{here_alike, referenced_alike, changed_keys}

module _ (s : State) (steady : IsSteady s) (numbers : List BlockState) (known : HasStates s numbers) (name : Name) (ch : Changes) (to : Datasets) (done : Draft)
    (w : HasWritten (datasets_of s) to name ch s.last.group numbers done) (after : IsSteady (with_datasets s to)) where
  abbrev young : ℕ
  young = young_of (datasets_of s) name s.last.group

  module _ (f : FileSystem) (at : get s.now.file_systems name ≡ Some f) where
    change_here : IsChange f.live ch s.now.group young numbers w.change
    change_here = subst (λ m. IsChange m ch s.now.group young numbers w.change) (ap (λ x. option_map_or (λ (g : FileSystem). g.live) x finmap.empty) at) w.is

    abbrev choice : Choice
    choice = record { number = change_here.number; taken = set.empty }

    abbrev next : World
    next = after_change s.now name ch choice.number

    leads : with_datasets s to ≡ with_now s next
    leads = ap (with_datasets s) w.to_is ∙ leads_to s steady name f at numbers known ch young (young_is s name) w.change change_here

    later : IsPoolState (with_now s next)
    later = subst IsPoolState leads after.good

    systems : to.file_systems ≡ next.file_systems
    systems = ap (λ (x : State). x.now.file_systems) leads

    abbrev next_f : FileSystem
    next_f = record f { live = rewrite f.live ch s.now.group choice.number }

    same_here_after : (q : Name) → IsSameHere (asked_by_change s name ch).now (world_of to) q
    same_here_after q =
        let same = change_same_here s steady.good name f at ch choice later q in
        record {
          here = here_alike (world_of to) next systems q ∙ same.here;
          reserved = ap (λ (m : FileSystems). option_map_or (λ (g : FileSystem). unwrap_or g.limits.reservation 0) (get m q) 0) systems ∙ same.reserved;
        }

    same_size_after : (q : Name) → referenced_of (world_of to) (Live q) ≡ referenced_of (asked_by_change s name ch).now (Live q)
    same_size_after q = referenced_alike (world_of to) next systems q ∙ change_same_size s steady.good name f at ch choice later q

    names_stay : keys to.file_systems ≡ keys s.now.file_systems
    names_stay =
        ap (λ (m : FileSystems). keys m) systems
        ∙ ap (λ (v : World). keys v.file_systems) (after_is s.now name f at ch choice.number)
        ∙ changed_keys s.now.file_systems name f next_f at

    there : (q : Name) → get to.file_systems q ≡ get (after_change s.now name ch choice.number).file_systems q
    there q = ap (λ (m : FileSystems). get m q) systems

    limits_stay : (q : Name) (g h : FileSystem) → get s.now.file_systems q ≡ Some g → get to.file_systems q ≡ Some h → h.limits ≡ g.limits
    limits_stay q g h here later_at = ⊎_elim
        (λ (is : q ≡ name).
        let old : f ≡ g = same_value f g (sym at ∙ ap (get s.now.file_systems) (sym is) ∙ here) in
        let new : next_f ≡ h = same_value next_f h (sym (live_there s.now name f at next_f.live q is) ∙ sym (at_next q) ∙ later_at) in
        ap (λ (y : FileSystem). y.limits) (sym new) ∙ ap (λ (y : FileSystem). y.limits) old)
        (λ apart. ap (λ (y : FileSystem). y.limits) (same_value h g (sym later_at ∙ at_next q ∙ others s.now name f at next_f.live q apart ∙ here)))
        (key_cases name_order q name)
      where
        at_next : (q : Name) → get to.file_systems q ≡ get (record s.now { file_systems = finmap.insert s.now.file_systems name next_f }).file_systems q
        at_next q = there q ∙ ap (λ (v : World). get v.file_systems q) (after_is s.now name f at ch choice.number)

    -- the datasets after the change differ as it was foretold
    pub changed_after : (here referenced : ℕ) → IsChanged (world_of (datasets_of s)) (asked_by_change s name ch).now name here referenced
        → IsChanged (world_of (datasets_of s)) (world_of to) name here referenced
    changed_after here referenced foreseen = record {
      hierarchy = after.good.now.systems.hierarchy;
      names = names_stay;
      limits = limits_stay;
      others = λ q out.
          let one = foreseen.others q out in
          let two = same_here_after q in
          record { here = two.here ∙ one.here; reserved = two.reserved ∙ one.reserved };
      others_referenced = λ q apart. same_size_after q ∙ foreseen.others_referenced q apart;
      is_here = (same_here_after name).here ∙ foreseen.is_here;
      is_referenced = same_size_after name ∙ foreseen.is_referenced;
    }

    there_after : IsSome (get to.file_systems name)
    there_after = ap is_some (there name ∙ ap (λ (v : World). get v.file_systems name) (after_is s.now name f at ch choice.number) ∙ live_there s.now name f at next_f.live name refl)

    can_settle_here : (lines : Option (List Line)) → IsAccounted (datasets_of s) lines → (outlook : Option Outlook) → Foretells s name ch outlook
        → CanSettle (datasets_of s) to name lines outlook
    can_settle_here lines kept outlook told = record {
      kept = kept;
      hierarchy = steady.good.now.systems.hierarchy;
      there = there_after;
      differs = λ o is. differs_by o (subst (Foretells s name ch) is told);
    }
      where
        differs_by : (o : Outlook) → Foretells s name ch (Some o) → (o.here < 2 ^ 42) × IsChanged (world_of (datasets_of s)) (world_of to) name o.here o.referenced
        differs_by o foretold = (foretold.0, changed_after o.here o.referenced foretold.1)

  -- the ledger that is kept can be settled
  pub can_settle : (get s.now.file_systems name ≡ None → ⊥) → (lines : Option (List Line)) → IsAccounted (datasets_of s) lines → (outlook : Option Outlook)
      → Foretells s name ch outlook → CanSettle (datasets_of s) to name lines outlook
  can_settle some = by (get s.now.file_systems name) refl
    where
      by : (x : Option FileSystem) → get s.now.file_systems name ≡ x → (lines : Option (List Line)) → IsAccounted (datasets_of s) lines → (outlook : Option Outlook)
          → Foretells s name ch outlook → CanSettle (datasets_of s) to name lines outlook
      by (Some f) at = can_settle_here f at
      by None none = absurd (some none)

-- a ledger that can be settled is that of the datasets before the change
pub ledger_before : (old new : Datasets) (name : Name) (lines : List Line) (outlook : Option Outlook) → CanSettle old new name (Some lines) outlook
    → (o : Outlook) → outlook ≡ Some o → IsLedgerOf (world_of old) (keys new.file_systems) lines
ledger_before old new name lines outlook can o some = record { hierarchy = can.hierarchy; named = sym (can.differs o some).1.names; own = can.kept }
