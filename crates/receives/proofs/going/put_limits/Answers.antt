use Rattle.std.proofs.Common.{rules, ◌≡◌, Err, sym, ap, ◌∙◌, ⊎_elim}
use Rattle.std.proofs.lemmas.Result.{on_ok_weaker}
use Rattle.std.specs.FinMap.{get}
use Rattle.base.specs.declared.refusal.Refusal.TheVariants.{NoMemory}
use Rattle.model.specs.declared.limits.Limit.TheVariants.{Quota, RefQuota, Reservation, RefReservation}
use Rattle.model.specs.Limits.{limit_of, limited}
use Rattle.datasets.specs.Limits.{with_limit_of}
use Rattle.world.specs.Tables.{Datasets}
use Rattle.world.proofs.lists.Maps.{some_of, no_value}
use Rattle.receives.proofs.Replaced.{four_limits, limit_there, only_memory}
use Rattle.receives.proofs.going.put_limits.Goals as goal

pub returns-in_err-set_limit-2-clause-err : goal.returns-in_err-set_limit-2-clause-err
returns-in_err-set_limit-2-clause-err c =
    let name = c.args.name.now in
    let f = some_of (get c.args.table.now.file_systems name) c.requires.there in
    let a = ap (λ (u : Datasets). get u.file_systems name) c.in_ok-set_limit.ensures.ok ∙ limit_there c.args.table.now name f.0 f.1 Quota c.get.result in
    let only : c.in_err-set_limit-2.field-0.0 ≡ NoMemory = ⊎_elim
    (λ k. absurd (no_value (limited f.0 Quota c.get.result) (sym (c.in_err-set_limit-2.ensures.no_dataset.0 (ap Err k)) ∙ a)))
    (λ k. k)
    c.in_err-set_limit-2.ensures.only in
    search (rules, only)

pub returns-in_err-set_limit-3-clause-err : goal.returns-in_err-set_limit-3-clause-err
returns-in_err-set_limit-3-clause-err c =
    let name = c.args.name.now in
    let f = some_of (get c.args.table.now.file_systems name) c.requires.there in
    let a = ap (λ (u : Datasets). get u.file_systems name) c.in_ok-set_limit.ensures.ok ∙ limit_there c.args.table.now name f.0 f.1 Quota c.get.result in
    let b = ap (λ (u : Datasets). get u.file_systems name) c.in_ok-set_limit-2.ensures.ok ∙ limit_there c.set_limit.new.self name (limited f.0 Quota c.get.result) a RefQuota c.get-2.result in
    let only : c.in_err-set_limit-3.field-0.0 ≡ NoMemory = ⊎_elim
    (λ k. absurd (no_value (limited (limited f.0 Quota c.get.result) RefQuota c.get-2.result) (sym (c.in_err-set_limit-3.ensures.no_dataset.0 (ap Err k)) ∙ b)))
    (λ k. k)
    c.in_err-set_limit-3.ensures.only in
    search (rules, only)

pub returns-clause-ok : goal.returns-clause-ok
returns-clause-ok c =
    let t = c.args.table.now in
    let name = c.args.name.now in
    let l = c.args.limits in
    let f = some_of (get t.file_systems name) c.requires.there in
    on_ok_weaker c.set_limit-4.result
    (λ is. is
    ∙ (λ i. with_limit_of (c.in_ok-set_limit-3.ensures.ok i) name RefReservation (c.get-4.ensures i))
    ∙ (λ i. with_limit_of (with_limit_of (c.in_ok-set_limit-2.ensures.ok i) name Reservation (c.get-3.ensures i)) name RefReservation (limit_of l RefReservation))
    ∙ (λ i. with_limit_of (with_limit_of (with_limit_of (c.in_ok-set_limit.ensures.ok i) name RefQuota (c.get-2.ensures i)) name Reservation (limit_of l Reservation)) name RefReservation (limit_of l RefReservation))
    ∙ (λ i. with_limit_of (with_limit_of (with_limit_of (with_limit_of t name Quota (c.get.ensures i)) name RefQuota (limit_of l RefQuota)) name Reservation (limit_of l Reservation)) name RefReservation (limit_of l RefReservation))
    ∙ four_limits t name f.0 f.1 l)
    c.set_limit-4.ensures.ok

pub returns-clause-err : goal.returns-clause-err
returns-clause-err c =
    let name = c.args.name.now in
    let f = some_of (get c.args.table.now.file_systems name) c.requires.there in
    let a = ap (λ (u : Datasets). get u.file_systems name) c.in_ok-set_limit.ensures.ok ∙ limit_there c.args.table.now name f.0 f.1 Quota c.get.result in
    let b = ap (λ (u : Datasets). get u.file_systems name) c.in_ok-set_limit-2.ensures.ok ∙ limit_there c.set_limit.new.self name (limited f.0 Quota c.get.result) a RefQuota c.get-2.result in
    let d = ap (λ (u : Datasets). get u.file_systems name) c.in_ok-set_limit-3.ensures.ok
    ∙ limit_there c.set_limit-2.new.self name (limited (limited f.0 Quota c.get.result) RefQuota c.get-2.result) b Reservation c.get-3.result in
    only_memory c.set_limit-4.result (get c.set_limit-3.new.self.file_systems name) (limited (limited (limited f.0 Quota c.get.result) RefQuota c.get-2.result) Reservation c.get-3.result) d
    c.set_limit-4.ensures.no_dataset.0 c.set_limit-4.ensures.only
