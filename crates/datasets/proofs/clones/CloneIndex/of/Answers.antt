use Rattle.std.proofs.Common.{map, rules, ap, sym, subst, ◌∙◌}
use Rattle.std.specs.Ordering.{is_lt}
use Rattle.std.specs.FinMap.{entries}
use Rattle.std.proofs.lemmas.List.Sorted.{IsPartitionPoint-from_clause}
use Rattle.model.specs.Ids.{snap_id}
use Rattle.model.specs.World.{same_id}
use Rattle.datasets.specs.declared.clones.CloneName.{CloneName}
use Rattle.datasets.specs.CloneNames.{CloneSet, id_cmp, key_of, key_in, name_of, names_in, IsInOrder}
use Rattle.datasets.proofs.CloneKeys.{entries_are}
use Rattle.datasets.proofs.CloneRanges.{parted_before, parted_origin, names_are}
use Rattle.datasets.proofs.clones.CloneIndex.of.Goals as goal

-- the clones of one origin stand together
pub returns : goal.returns
returns c =
    let id = snap_id c.args.id in
    let xs = c.deref-entries.result.now in
    let sorted : IsInOrder xs = subst IsInOrder (sym c.deref-entries.ensures.value) c.self.invariant in
    let first = IsPartitionPoint-from_clause (λ (x : CloneName). is_lt (id_cmp (key_of x).0 id)) xs c.partition_point.result c.partition_point.ensures.partitioned (parted_before id xs sorted) (λ a r q k. search rules) in
    let k = c.partition_point.result in
    let ys = c.split_at.result.1.now in
    let by = parted_origin id xs sorted k c.partition_point.ensures.bound first.0 first.1 ys c.split_at.ensures.back c.split_at.ensures.back_len in
    let second = IsPartitionPoint-from_clause (λ (x : CloneName). same_id id (key_of x).0) ys c.partition_point-2.result c.partition_point-2.ensures.partitioned by (λ a r q k. search rules) in
    ap (map name_of) c.split_at-2.ensures.front
    ∙ names_are id xs sorted k c.partition_point.ensures.bound first.0 first.1 ys c.split_at.ensures.back c.split_at.ensures.back_len c.partition_point-2.result c.partition_point-2.ensures.bound second.0 second.1
    ∙ ap (λ l. names_in id (map key_in l)) c.deref-entries.ensures.value
    ∙ ap (names_in id) (sym (entries_are (map key_in c.self.inside.entries.items) c.self.invariant))
    ∙ ap (λ (s : CloneSet). names_in id (entries s)) c.self.view_is
