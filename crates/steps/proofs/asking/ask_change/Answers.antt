use Rattle.std.proofs.Common.{◌∷◌, [], None, Some, refl, subst, inl, arith}
use Rattle.batch.specs.Forecast.{IsForecast}
use Rattle.tree.specs.Updates.{changes_of}
use Rattle.steps.proofs.asked.Asked.{nothing_kept, bare_in, is_ahead, few_more, change_over, change_fits, change_foretold}
use Rattle.steps.proofs.asking.ask_change.Goals as goal

pub outlook_of-requires : goal.outlook_of-requires
outlook_of-requires c =
    let q = c.requires.state in (
      q.0,
      changes_of (c.args.update.now ∷ []),
      is_ahead q.0 c.args.table.now c.args.space q.1 (omega arith) c.args.name.now
          c.in-Some-find.file_system.now c.in-Some-find.ensures c.live.result.now c.live.ensures (changes_of (c.args.update.now ∷ [])) c.in_ok-forecast.forecast
          (subst (λ us. IsForecast c.live.result.now (changes_of us) c.in_ok-forecast.forecast) c.from_ref.ensures.value c.in_ok-forecast.ensures.ok) c.args.synced.0 q.2,
    )

-- all that wait can be counted
pub overflow_add-asked : goal.overflow_add-asked
overflow_add-asked c =
    let q = c.requires.state in
    let few = few_more q.0 c.args.table.now c.args.space q.1 (omega arith) c.args.name.now
    c.in-Some-find.file_system.now c.in-Some-find.ensures c.live.result.now c.live.ensures (changes_of (c.args.update.now ∷ [])) c.in_ok-forecast.forecast
    (subst (λ us. IsForecast c.live.result.now (changes_of us) c.in_ok-forecast.forecast) c.from_ref.ensures.value c.in_ok-forecast.ensures.ok) c.args.synced.0 q.2
    c.in_ok-outlook.outlook c.in_ok-outlook.ensures.ok in
    omega (arith, few)

pub returns-in-Some-over-clause-err : goal.returns-in-Some-over-clause-err
returns-in-Some-over-clause-err c s is opened =
    change_over s c.args.table.now c.args.space is (omega arith) c.args.name.now
    c.in-Some-find.file_system.now c.in-Some-find.ensures c.live.result.now c.live.ensures (changes_of (c.args.update.now ∷ [])) c.in_ok-forecast.forecast
    (subst (λ us. IsForecast c.live.result.now (changes_of us) c.in_ok-forecast.forecast) c.from_ref.ensures.value c.in_ok-forecast.ensures.ok) c.args.synced.0 opened
    c.in_ok-outlook.outlook c.in_ok-outlook.ensures.ok _ refl refl refl
    (Some c.in-Some-over.refusal) c.in-Some-over.ensures c.in-Some-over.refusal refl

pub returns-clause-ok : goal.returns-clause-ok
returns-clause-ok c s is opened =
    change_fits s c.args.table.now c.args.space is (omega arith) c.args.name.now
    c.in-Some-find.file_system.now c.in-Some-find.ensures c.live.result.now c.live.ensures (changes_of (c.args.update.now ∷ [])) c.in_ok-forecast.forecast
    (subst (λ us. IsForecast c.live.result.now (changes_of us) c.in_ok-forecast.forecast) c.from_ref.ensures.value c.in_ok-forecast.ensures.ok) c.args.synced.0 opened
    c.in_ok-outlook.outlook c.in_ok-outlook.ensures.ok _ refl refl refl
    None c.in-None.ensures refl

pub returns-clause-foretold : goal.returns-clause-foretold
returns-clause-foretold c s is opened =
    change_foretold s c.args.table.now c.args.space is (omega arith) c.args.name.now
    c.in-Some-find.file_system.now c.in-Some-find.ensures c.live.result.now c.live.ensures (changes_of (c.args.update.now ∷ [])) c.in_ok-forecast.forecast
    (subst (λ us. IsForecast c.live.result.now (changes_of us) c.in_ok-forecast.forecast) c.from_ref.ensures.value c.in_ok-forecast.ensures.ok) c.args.synced.0 opened
    c.in_ok-outlook.outlook c.in_ok-outlook.ensures.ok c.in_ok-outlook.ensures.small

-- where nothing is kept, no file system has a limit
pub returns-in_default-clause-ok : goal.returns-in_default-clause-ok
returns-in_default-clause-ok c s is opened = inl (bare_in s c.args.table.now c.args.space is (nothing_kept c.args.table.now c.args.ledger.now c.requires.own c.in_default.is))
