use Rattle.std.proofs.Common.{◌≡◌, ◌+◌, ◌<◌, Some, length, set, slice_get, ap, sym, subst, ◌∙◌}
use Rattle.std.specs.Prelude.{remove}
use Rattle.std.specs.Option.{option_map}
use Rattle.std.proofs.lemmas.Option.{slice_get_within}
use Rattle.std.specs.Arc.{arc_value}
use Rattle.snapshots.specs.declared.kept.Kept.{Kept}
use Rattle.snapshots.specs.Index.{IsIndex, AreNamesOnce}
use Rattle.snapshots.proofs.Splices.{named_at, index_has, once_without, named_after}
use Rattle.snapshots.proofs.snapshot_list.SnapshotList.splice.Goals as goal

-- the one after it has come to its place
pub set_shared-requires : goal.set_shared-requires
set_shared-requires c =
    let ks = c.self.inside.kept in
    let next : option_map (λ (k : Kept). k.snapshot.name) (slice_get ks (c.args.place + 1)) ≡ Some c.args.next.snapshot.name =
    ap (λ l. option_map (λ (k : Kept). k.snapshot.name) (slice_get l (c.args.place + 1))) c.self.view_is ∙ c.requires.next in
    let there = named_at (slice_get (remove ks c.args.place) c.args.place) c.args.next.snapshot.name (named_after ks c.args.place c.args.next.snapshot.name next) in
    let gone : c.remove.new.self ≡ remove ks c.args.place = c.in_ok-remove.ensures.ok ∙ ap (λ l. remove l c.args.place) c.in_ok-kept.ensures in
    subst (λ l. c.args.place < length l) (sym gone) (slice_get_within (remove ks c.args.place) c.args.place there.0 there.1)

-- its name is in the index
pub forget-requires : goal.forget-requires
forget-requires c = index_has c.self.inside.by_name c.self.inside.kept c.args.place c.as_bytes.result.now c.self.invariant (c.in_ok-name.ensures.ok ∙ ap Some (sym c.as_bytes.ensures.value))

-- so is that of the one after it
pub replace-requires : goal.replace-requires
replace-requires c =
    let ks = c.self.inside.kept in
    let once : AreNamesOnce ks = subst AreNamesOnce (sym c.self.view_is) c.requires.once in
    let left : IsIndex c.forget.new.by_name (remove ks c.args.place) = c.forget.ensures ks c.args.place (c.in_ok-name.ensures.ok ∙ ap Some (sym c.as_bytes.ensures.value)) once c.self.invariant in
    let next : option_map (λ (k : Kept). k.snapshot.name) (slice_get ks (c.args.place + 1)) ≡ Some (arc_value c.in_ok-next.next).snapshot.name =
    ap (λ l. option_map (λ (k : Kept). k.snapshot.name) (slice_get l (c.args.place + 1))) c.self.view_is ∙ c.requires.next ∙ ap (λ (k : Kept). Some k.snapshot.name) (sym c.in_ok-next.ensures.ok) in
    index_has c.forget.new.by_name (remove ks c.args.place) c.args.place (arc_value c.in_ok-next.next).snapshot.name left (named_after ks c.args.place (arc_value c.in_ok-next.next).snapshot.name next)

-- the index is one of what is left
pub invariant_of-self : goal.invariant_of-self
invariant_of-self c =
    let ks = c.self.inside.kept in
    let once : AreNamesOnce ks = subst AreNamesOnce (sym c.self.view_is) c.requires.once in
    let left : IsIndex c.forget.new.by_name (remove ks c.args.place) = c.forget.ensures ks c.args.place (c.in_ok-name.ensures.ok ∙ ap Some (sym c.as_bytes.ensures.value)) once c.self.invariant in
    let next : option_map (λ (k : Kept). k.snapshot.name) (slice_get ks (c.args.place + 1)) ≡ Some (arc_value c.in_ok-next.next).snapshot.name =
    ap (λ l. option_map (λ (k : Kept). k.snapshot.name) (slice_get l (c.args.place + 1))) c.self.view_is ∙ c.requires.next ∙ ap (λ (k : Kept). Some k.snapshot.name) (sym c.in_ok-next.ensures.ok) in
    let put : c.set_shared.new.self ≡ set (remove ks c.args.place) c.args.place (arc_value c.in_ok-next.next) =
    c.in_ok-set_shared.ensures.ok
    ∙ ap (λ l. set l c.args.place c.in_ok-try_clone.field-0.value) (c.in_ok-remove.ensures.ok ∙ ap (λ l. remove l c.args.place) c.in_ok-kept.ensures)
    ∙ ap (λ v. set (remove ks c.args.place) c.args.place v) c.in_ok-try_clone.ensures in
    subst (IsIndex c.replace.new.by_name) (sym put)
    (c.replace.ensures (remove ks c.args.place) c.args.place (named_after ks c.args.place (arc_value c.in_ok-next.next).snapshot.name next) (once_without ks c.args.place once) left)

pub returns-clause-ok : goal.returns-clause-ok
returns-clause-ok c =
    c.in_ok-set_shared.ensures.ok
    ∙ ap (λ l. set l c.args.place c.in_ok-try_clone.field-0.value) (c.in_ok-remove.ensures.ok ∙ ap (λ l. remove l c.args.place) (c.in_ok-kept.ensures ∙ c.self.view_is))
    ∙ ap (λ v. set (remove c.args.self.now c.args.place) c.args.place v) (c.in_ok-try_clone.ensures ∙ c.in_ok-next.ensures.ok)
