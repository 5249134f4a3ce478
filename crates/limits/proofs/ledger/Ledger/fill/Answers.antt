use Rattle.std.proofs.Common.{length, drop, map, refl, sym, ap, subst, ◌∙◌, arith, List, get_or, ◌≤◌, ◌^◌}
use Rattle.std.specs.Arc.{arc_value}
use Rattle.std.specs.FinMap.{entries, len-entries}
use Rattle.std.specs.List.{All}
use Rattle.std.specs.Option.{unwrap_or}
use Rattle.std.proofs.lemmas.List.{length-map, get_or-map, take_at}
use Rattle.limits.specs.Changes.{IsModest}
use Rattle.limits.specs.Lines.{IsSmall}
use Rattle.limits.specs.declared.account.Account.{Account}
use Rattle.datasets.specs.Clones.{row_in}
use Rattle.world.specs.Tables.{world_of}
use Rattle.limits.specs.Charges.{fresh, IsCharged}
use Rattle.limits.specs.Rows.{account_at}
use Rattle.limits.proofs.Charges.{account_is, none_charged, fresh_accounts, charged_is, charged_small}
use Rattle.limits.proofs.Order.{keys_count}
use Rattle.limits.proofs.Rows.{accounts_are, all_own}
use Rattle.limits.proofs.ledger.Ledger.fill.Goals as goal

pub refill-requires-clause-few : goal.refill-requires-clause-few
refill-requires-clause-few c =
    let e = all_own c.args.table.now c.facts.ensures.good (map arc_value c.file_systems.result.now) c.file_systems.ensures in
    omega (arith, e, c.requires.few)

pub refill-requires-clause-room : goal.refill-requires-clause-room
refill-requires-clause-room c =
    let a = length-map c.file_systems.result.now arc_value in
    let b = ap length c.file_systems.ensures in
    let d = length-map (entries c.args.table.now.file_systems) (row_in c.args.table.now.file_systems) in
    let e = len-entries c.args.table.now.file_systems in
    let f = c.facts.ensures.good.hierarchy.few in
    let r = c.self.invariant.2 in
    omega (arith, a, b, d, e, f, r)

pub charge_all-requires-clause-long : goal.charge_all-requires-clause-long
charge_all-requires-clause-long c =
    let i = ap length (c.deref_mut.ensures.value ∙ c.refill.ensures.ok) in
    let m = length-map (map account_at (map arc_value c.file_systems.result.now)) fresh in
    let n = length-map (map arc_value c.file_systems.result.now) account_at in
    let a = length-map c.file_systems.result.now arc_value in
    let b = ap length c.file_systems.ensures in
    let d = length-map (entries c.args.table.now.file_systems) (row_in c.args.table.now.file_systems) in
    let e = len-entries c.args.table.now.file_systems in
    omega (arith, i, m, n, a, b, d, e)

pub charge_all-requires-clause-none : goal.charge_all-requires-clause-none
charge_all-requires-clause-none c =
    let items = c.deref_mut.ensures.value ∙ c.refill.ensures.ok in
    let bs = map account_at (map arc_value c.file_systems.result.now) in
    let m = length-map bs fresh in
    let n = length-map (map arc_value c.file_systems.result.now) account_at in
    let a = length-map c.file_systems.result.now arc_value in
    let b = ap length c.file_systems.ensures in
    let d = length-map (entries c.args.table.now.file_systems) (row_in c.args.table.now.file_systems) in
    let e = len-entries c.args.table.now.file_systems in
    let k = keys_count c.args.table.now.file_systems in
    let f = c.facts.ensures.good.hierarchy.few in
    subst (λ ls. IsCharged c.args.table.now.file_systems (length ls) ls) (sym items)
    (none_charged c.args.table.now.file_systems bs (length (map fresh bs)) m (omega (arith, m, n, a, b, d, e, k)) (omega (arith, m, n, a, b, d, e, f)) c.refill.ensures.small)

pub returns : goal.returns
returns c =
    let bs = map account_at (map arc_value c.file_systems.result.now) in
    take_at c.charge_all.new.lines (drop (length c.charge_all.new.lines) c.refill.new.lines.items) c.refill.new.lines.len
    (let l = c.charge_all.auto.lines in omega (arith, l, c.deref_mut.ensures.len))
    ∙ charged_is c.args.table.now.file_systems c.charge_all.new.lines c.charge_all.ensures.charged (world_of c.args.table.now) c.facts.ensures.good.hierarchy refl
    (sym (accounts_are c.args.table.now c.facts.ensures.good (map arc_value c.file_systems.result.now) c.file_systems.ensures)
    ∙ sym (fresh_accounts bs) ∙ ap (map account_is) (sym (c.deref_mut.ensures.value ∙ c.refill.ensures.ok)) ∙ sym c.charge_all.ensures.accounts)

pub invariant_of-self : goal.invariant_of-self
invariant_of-self c =
    let new = c.charge_all.new.lines in
    let bs = map account_at (map arc_value c.file_systems.result.now) in
    let items = take_at new (drop (length new) c.refill.new.lines.items) c.refill.new.lines.len (let l = c.charge_all.auto.lines in omega (arith, l, c.deref_mut.ensures.len)) in
    let accounts = c.charge_all.ensures.accounts ∙ ap (map account_is) (c.deref_mut.ensures.value ∙ c.refill.ensures.ok) ∙ fresh_accounts bs in
    let modest : All IsModest new = λ k d lt. record {
      here = c.charge_all.ensures.charged.here k d lt;
      reserved =
          let l = length-map new account_is in
          let m = ap length accounts in
          let same = sym (get_or-map account_is new k d d.account lt) ∙ ap (λ (xs : List Account). get_or xs k d.account) accounts in
          subst (λ (a : Account). unwrap_or a.limits.reservation 0 ≤ 2 ^ 40) (sym same) (c.refill.ensures.modest k d.account (omega (arith, l, m, lt)));
    } in (
      subst (All IsSmall) (sym items) (charged_small c.args.table.now.file_systems new c.charge_all.ensures.charged),
      subst (All IsModest) (sym items) modest,
      (let a = c.refill.ensures.kept in let r = c.self.invariant.2 in omega (arith, a, r)),
    )
