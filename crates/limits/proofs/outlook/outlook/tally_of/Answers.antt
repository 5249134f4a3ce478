-- The counts that are told, by the lemmas of Ahead.
use Rattle.std.proofs.Common.{◌≡◌, sym, ap, ◌∙◌, arith}
use Rattle.std.specs.Prelude.{count_by, nat_lt, ◌&&◌, unwrap_or}
use Rattle.std.specs.FinMap.{len as map_len}
use Rattle.base.specs.Map.{Map}
use Rattle.model.specs.World.{Limits}
use Rattle.limits.proofs.Ahead.{dataset_is, snapshots_is, written_is, few_snapshots, own_is, waits_is, own_written, own_held, gone_there, here_after, written_after, referenced_after, waiting_after}
use Rattle.limits.proofs.outlook.outlook.tally_of.Goals as goal
use Rattle.limits.proofs.outlook.outlook.tally_of.Goals.{in-Some, in-None}

pub overflow_add-held : goal.overflow_add-held
overflow_add-held c =
    let k = c.requires.2 in
    let l = few_snapshots _ _ _ _ _ k in
    let e = c.used_by_snapshots.ensures ∙ snapshots_is _ _ _ _ _ k in
    omega (arith, l, e, c.from.ensures, c.used_by_dataset.type_inv)

pub overflow_add-held-2 : goal.overflow_add-held-2
overflow_add-held-2 c =
    let k = c.requires.2 in
    let l = few_snapshots _ _ _ _ _ k in
    let e = c.used_by_snapshots.ensures ∙ snapshots_is _ _ _ _ _ k in
    omega (arith, l, e, c.from.ensures, c.used_by_dataset.type_inv, c.from-made.ensures)

pub overflow_sub-held : goal.overflow_sub-held
overflow_sub-held c =
    let k = c.requires.2 in
    let d = c.used_by_dataset.ensures ∙ dataset_is _ _ _ _ _ k in
    let e = c.used_by_snapshots.ensures ∙ snapshots_is _ _ _ _ _ k in
    let o = c.count_after-own.ensures ∙ (λ i. count_by (λ d. nat_lt (c.newest_group-before.ensures i) d.birth.0) (c.deref.ensures.value i)) ∙ own_is _ _ _ _ _ k in
    let h = own_held _ _ _ _ _ k in
    omega (arith, d, e, o, h, c.from.ensures, c.from-made.ensures, c.in-Ok.ensures)

pub overflow_sub-written : goal.overflow_sub-written
overflow_sub-written c =
    let k = c.requires.2 in
    let w = c.written.ensures ∙ written_is _ _ _ _ _ k in
    let o = c.count_after-own.ensures ∙ (λ i. count_by (λ d. nat_lt (c.newest_group-before.ensures i) d.birth.0) (c.deref.ensures.value i)) ∙ own_is _ _ _ _ _ k in
    let h = own_written _ _ _ _ _ k in
    omega (arith, w, o, h, c.from-2.ensures, c.from-made.ensures, c.in-Ok.ensures)

pub overflow_sub-result : goal.overflow_sub-result
overflow_sub-result c =
    let k = c.requires.2 in
    let g = gone_there _ _ _ _ _ k in
    let n = c.node_count.ensures.count ∙ ap (λ (m : Map). map_len m) c.live.ensures in
    omega (arith, g, n, c.from-3.ensures, c.len.ensures, c.from-made.ensures, c.in-Ok.ensures)

pub returns-clause-ok : goal.returns-clause-ok
returns-clause-ok c = λ s ch k.
    let opt = c.get.ensures ∙ ap (λ (l : Limits). l.refreservation) c.limits.ensures in
    let kept : unwrap_or c.args.file_system.now.system.limits.refreservation 0 ≡ c.match-get.kept = elim c.match-get.branch [
      | in-Some w ↦ ap (λ x. unwrap_or x 0) (sym opt ∙ w.in-Some.is) ∙ sym w.get-kept.ensures.value ∙ sym w.kept-is
      | in-None w ↦ ap (λ x. unwrap_or x 0) (sym opt ∙ w.in-None.is) ∙ sym w.kept-is
    ] in
    let d = c.used_by_dataset.ensures ∙ dataset_is _ _ _ _ _ k in
    let e = c.used_by_snapshots.ensures ∙ snapshots_is _ _ _ _ _ k in
    let v = c.written.ensures ∙ written_is _ _ _ _ _ k in
    let o = c.count_after-own.ensures ∙ (λ i. count_by (λ d. nat_lt (c.newest_group-before.ensures i) d.birth.0) (c.deref.ensures.value i)) ∙ own_is _ _ _ _ _ k in
    let n = c.node_count.ensures.count ∙ ap (λ (m : Map). map_len m) c.live.ensures in
    let h = here_after _ _ _ _ _ k in
    let r = referenced_after _ _ _ _ _ k in
    let w = c.count_before.ensures
    ∙ (λ i. count_by (λ d. nat_lt (c.newest_group-before.ensures i) d.birth.0 && nat_lt d.birth.0 c.args.synced.0) (c.deref-2.ensures.value i)) ∙ waits_is _ _ _ _ _ k in
    let t = waiting_after _ _ _ _ _ k in
    let a = written_after _ _ _ _ _ k in
    record {
      here = omega (arith, kept, d, e, v, o, h, c.from.ensures, c.from-2.ensures, c.from-made.ensures, c.in-Ok.ensures);
      kept = sym kept;
      written = omega (arith, v, o, a, c.from-2.ensures, c.from-made.ensures, c.in-Ok.ensures);
      referenced = omega (arith, n, r, c.from-3.ensures, c.len.ensures, c.from-made.ensures, c.in-Ok.ensures);
      waiting = omega (arith, w, t);
    }

pub returns-clause-little : goal.returns-clause-little
returns-clause-little c =
    let k = c.requires.2 in
    let l = few_snapshots _ _ _ _ _ k in
    let e = c.used_by_snapshots.ensures ∙ snapshots_is _ _ _ _ _ k in
    omega (arith, l, e, c.from.ensures, c.used_by_dataset.type_inv, c.from-made.ensures)

pub returns-clause-most : goal.returns-clause-most
returns-clause-most c = elim c.match-get.branch [
  | in-Some w ↦ let m = w.get-kept.ensures.most in let z = w.kept-is in omega (arith, m, z)
  | in-None w ↦ let z = w.kept-is in omega (arith, z)
]
