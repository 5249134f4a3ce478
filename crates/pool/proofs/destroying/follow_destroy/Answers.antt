use Rattle.std.proofs.Common.{◌≡◌, ◌<◌, ◌≤◌, List, [], ◌∷◌, length, sym, ap, subst, ◌∙◌, arith}
use Rattle.std.specs.Prelude.{slice_index_or}
use Rattle.base.specs.declared.name.member.Member.{Member}
use Rattle.model.specs.declared.destroy_target.DestroyTarget.TheVariants.{Snapshots as SnapshotsGo}
use Rattle.world.specs.Tables.{Datasets}
use Rattle.steps.specs.Limiting.{CanRecount}
use Rattle.pool.proofs.destroying.follow_destroy.Goals as goal

-- a list of one
lone : (xs : List Member) (x : Member) → 1 ≤ length xs → length xs < 2 → x ≡ slice_index_or xs 0 x → xs ≡ x ∷ []
lone [] x some few is = absurd (omega (arith, some))
lone (y ∷ []) x some few is = ap (λ z. z ∷ []) (sym is)
lone (y ∷ z ∷ zs) x some few is = absurd (omega (arith, few))

pub recount-requires-clause-before : goal.recount-requires-clause-before
recount-requires-clause-before c =
    let m : Member = c.name-item.result in
    let names = sym c.as_slice.ensures ∙ lone c.as_slice.result.now m c.in-len1.len_at_least c.in-len1.len_below c.name-item.is in
    subst (λ (m : Member). (old : Datasets) × CanRecount old c.args.table.now m.file_system c.args.ledger.now) (sym c.member.ensures.value)
    (c.requires.snapshot m (c.in-Snapshots.is ∙ ap SnapshotsGo names) c.if-alone.true)

pub recount-requires-in-FileSystem-clause-before : goal.recount-requires-in-FileSystem-clause-before
recount-requires-in-FileSystem-clause-before c = c.requires.system c.in-FileSystem.name c.in-FileSystem.is c.if-alone-2.true
