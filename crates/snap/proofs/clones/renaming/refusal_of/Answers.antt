use Rattle.std.proofs.Common.{◌≡◌, true, false, cond, Some, None, ap, sym, ◌∙◌}
use Rattle.std.specs.List.{list_any}
use Rattle.std.specs.FinMap.{contains_key}
use Rattle.base.specs.declared.refusal.Refusal.TheVariants.{BadName}
use Rattle.base.specs.Names.{same_name, root_name}
use Rattle.model.specs.Hierarchy.{has_parent, is_in_family}
use Rattle.model.specs.requests.Rename.{has_long_renamed, is_long_after}
use Rattle.world.specs.Tables.{world_of}
use Rattle.datasets.specs.Rows.{entry_in}
use Rattle.snap.proofs.Renamed.{found_there, refused_taken, refused_orphan, refused_below, by_length}
use Rattle.snap.proofs.Shared.{any_value, shared_are}
use Rattle.snap.proofs.clones.renaming.refusal_of.Goals as goal
use Rattle.snap.proofs.clones.renaming.refusal_of.Goals.{then-is_in_family-via-then-is_in_family, then-is_in_family-via-else-is_in_family+then-any_long}

pub returns-then-is_some : goal.returns-then-is_some
returns-then-is_some c =
    let t = c.args.table.now in
    let here : contains_key t.file_systems c.args.from.now ≡ true = found_there c.find.result _ _ c.find.ensures ∙ c.if-is_none.ensures in
    let below : same_name c.args.from.now root_name ≡ false = (λ i. same_name (sym c.as_bytes.ensures.value i) (sym c.as_slice.ensures i)) ∙ sym c.if-eq.ensures in
    sym (refused_taken t c.facts.ensures.good c.args.from.now c.args.to.now here below (found_there c.find-2.result _ _ c.find-2.ensures ∙ sym c.is_some.ensures ∙ c.if-is_some.true))

pub returns-then-not-has_parent : goal.returns-then-not-has_parent
returns-then-not-has_parent c =
    let t = c.args.table.now in
    let here : contains_key t.file_systems c.args.from.now ≡ true = found_there c.find.result _ _ c.find.ensures ∙ c.if-is_none.ensures in
    let below : same_name c.args.from.now root_name ≡ false = (λ i. same_name (sym c.as_bytes.ensures.value i) (sym c.as_slice.ensures i)) ∙ sym c.if-eq.ensures in
    let free : contains_key t.file_systems c.args.to.now ≡ false = found_there c.find-2.result _ _ c.find-2.ensures ∙ sym c.is_some.ensures ∙ c.if-is_some.false in
    sym (refused_orphan t c.facts.ensures.good c.args.from.now c.args.to.now here below free
    (ap (has_parent t.file_systems) (sym c.as_bytes-2.ensures.value) ∙ sym c.has_parent.ensures ∙ c.if-not-has_parent.true))

pub returns-then-is_in_family : goal.returns-then-is_in_family
returns-then-is_in_family c =
    let t = c.args.table.now in
    let from = c.args.from.now in
    let to = c.args.to.now in
    let here : contains_key t.file_systems from ≡ true = found_there c.find.result _ _ c.find.ensures ∙ c.if-is_none.ensures in
    let below : same_name from root_name ≡ false = (λ i. same_name (sym c.as_bytes.ensures.value i) (sym c.as_slice.ensures i)) ∙ sym c.if-eq.ensures in
    let free : contains_key t.file_systems to ≡ false = found_there c.find-2.result _ _ c.find-2.ensures ∙ sym c.is_some.ensures ∙ c.if-is_some.false in
    let parent : has_parent t.file_systems to ≡ true = ap (has_parent t.file_systems) (sym c.as_bytes-2.ensures.value) ∙ sym c.has_parent.ensures ∙ c.if-not-has_parent.false in
    let family : is_in_family from to ≡ c.is_in_family.result = (λ i. is_in_family (sym c.as_bytes-3.ensures.value i) (sym c.as_bytes-4.ensures.value i)) ∙ sym c.is_in_family.ensures in
    elim c.then-is_in_family.branch [
      | then-is_in_family-via-then-is_in_family w ↦ sym (refused_below t c.facts.ensures.good from to here below free parent (family ∙ w.if-is_in_family.true))
      | then-is_in_family-via-else-is_in_family+then-any_long w ↦
          let long : w.any_long.result ≡ has_long_renamed (world_of t) from to =
          w.any_long.ensures ∙ any_value entry_in (is_long_after from to) w.file_systems.result.now
          ∙ ap (list_any (is_long_after from to)) (shared_are t.file_systems w.file_systems.result.now w.file_systems.ensures) in
          sym (by_length t c.facts.ensures.good from to here below free parent (family ∙ w.if-is_in_family.false) ∙ ap (λ b. cond b (Some BadName) None) (sym long ∙ w.if-any_long.true))
    ]

pub returns : goal.returns
returns c =
    let t = c.args.table.now in
    let from = c.args.from.now in
    let to = c.args.to.now in
    let here : contains_key t.file_systems from ≡ true = found_there c.find.result _ _ c.find.ensures ∙ c.if-is_none.ensures in
    let below : same_name from root_name ≡ false = (λ i. same_name (sym c.as_bytes.ensures.value i) (sym c.as_slice.ensures i)) ∙ sym c.if-eq.ensures in
    let free : contains_key t.file_systems to ≡ false = found_there c.find-2.result _ _ c.find-2.ensures ∙ sym c.is_some.ensures ∙ c.if-is_some.false in
    let parent : has_parent t.file_systems to ≡ true = ap (has_parent t.file_systems) (sym c.as_bytes-2.ensures.value) ∙ sym c.has_parent.ensures ∙ c.if-not-has_parent.false in
    let family : is_in_family from to ≡ false = (λ i. is_in_family (sym c.as_bytes-3.ensures.value i) (sym c.as_bytes-4.ensures.value i)) ∙ sym c.is_in_family.ensures ∙ c.if-is_in_family.false in
    let long : c.any_long.result ≡ has_long_renamed (world_of t) from to =
    c.any_long.ensures ∙ any_value entry_in (is_long_after from to) c.file_systems.result.now
    ∙ ap (list_any (is_long_after from to)) (shared_are t.file_systems c.file_systems.result.now c.file_systems.ensures) in
    sym (by_length t c.facts.ensures.good from to here below free parent family ∙ ap (λ b. cond b (Some BadName) None) (sym long ∙ c.if-any_long.false))
