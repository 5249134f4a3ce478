use Rattle.std.proofs.Common.{◌≡◌, ◌++◌, List, [], nat_le, take, ap, sym, subst, ◌∙◌, arith}
use Rattle.std.specs.Prelude.{filter}
use Rattle.std.specs.Arc.{arc_value}
use Rattle.std.specs.List.Sorted.{IsPermutation}
use Rattle.base.specs.declared.number.Dead.{Dead}
use Rattle.deadlist.specs.Entries.{is_after, is_upto}
use Rattle.deadlist.specs.Held.{Held}
use Rattle.deadlist.specs.Segments.{with_cuts}
use Rattle.file_system.specs.Dead.{snaps_in, group_kept}
use Rattle.file_system.specs.Writes.{newest_group}
use Rattle.file_system.proofs.Stacks.{base_is, uncut_at}
use Rattle.file_system.proofs.splice.joined.Goals as goal

-- what was born by the group before joins the snapshot's own entries
pub returns-in-Ok-clause-ok : goal.returns-in-Ok-clause-ok
returns-in-Ok-clause-ok c =
    let ks = c.args.kept.now in
    let next = c.args.next.now.entries in
    let base : c.group_of.result.0 ≡ newest_group c.args.base.0 (snaps_in (take c.args.place ks)) =
    c.group_of.ensures ∙ ap (group_kept c.args.base.0) c.before-2.ensures ∙ base_is c.args.base.0 (take c.args.place ks) in
    let xs : c.in_ok-all.all.entries ≡ (arc_value c.in-Some.gone.now.dead).entries = c.in_ok-all.ensures.entries ∙ ap (λ (h : Held). h.entries) c.deref.ensures in
    let ys : c.take_after.new.self.entries ≡ filter (is_upto (newest_group c.args.base.0 (snaps_in (take c.args.place ks)))) next =
    c.in_ok-lost.ensures.kept ∙ ap (filter (is_upto c.group_of.result.0)) c.in_ok-own.ensures.entries ∙ ap (λ n. filter (is_upto n) next) base in
    let both : c.in_ok-all.all.entries ++ c.take_after.new.self.entries ≡ (arc_value c.in-Some.gone.now.dead).entries ++ filter (is_upto (newest_group c.args.base.0 (snaps_in (take c.args.place ks)))) next = λ i. xs i ++ ys i in
    record {
      gone = c.in-Some.gone.now;
      there = sym c.in-Some.ensures;
      joined = subst (λ (l : List Dead). IsPermutation l c.append.new.self.entries) both c.in-Ok.ensures.entries;
      rest = c.in_ok-lost.ensures.taken ∙ ap (filter (is_after c.group_of.result.0)) c.in_ok-own.ensures.entries ∙ ap (λ n. filter (is_after n) next) base;
    }

-- no cut comes of none, and the list is in order
pub returns-in-Ok-clause-plain : goal.returns-in-Ok-clause-plain
returns-in-Ok-clause-plain c =
    let own : c.take_after.new.self.cuts ≡ [] = c.in_ok-lost.ensures.kept_cuts ∙ ap (filter (λ g. nat_le g c.group_of.result.0)) (c.in_ok-own.ensures.cuts ∙ c.requires.next) in
    let gone : c.in_ok-all.all.cuts ≡ [] = c.in_ok-all.ensures.cuts ∙ ap (λ (h : Held). h.cuts) c.deref.ensures ∙ uncut_at c.args.kept.now c.args.place c.in-Some.gone.now c.requires.uncut (sym c.in-Some.ensures) in
    let few = c.in-Ok.ensures.waiting in
    record { uncut = c.in-Ok.ensures.cuts ∙ (λ i. with_cuts (gone i) (own i)); searched = c.in-Ok.ensures.steps; few = omega (arith, few) }
