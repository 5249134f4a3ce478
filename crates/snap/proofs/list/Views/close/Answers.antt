use Rattle.std.proofs.Common.{◌≡◌, not, map, ap, ◌∙◌, arith, rules}
use Rattle.std.specs.Prelude.{◌==◌}
use Rattle.std.specs.FinMap.{remove}
use Rattle.std.proofs.lemmas.Fn.{filter_same}
use Rattle.snap.specs.declared.row.Open.{Open}
use Rattle.snap.specs.Entries.{entry_of}
use Rattle.snap.specs.Viewing.{Viewing}
use Rattle.snap.proofs.Numbered.{views_of, without, without_sorted, without_is, without_below}
use Rattle.snap.proofs.Rows.{map_without}
use Rattle.snap.proofs.list.Views.close.Goals as goal

-- those of other numbers are left
pub invariant_of-self : goal.invariant_of-self
invariant_of-self c =
    let k = c.args.number in
    let old = map entry_of c.self.inside.open.items in
    let kept = filter_same _ (λ (v : Open). not (v.number == k)) _ (λ v b f called. search rules) _ _ c.retain.ensures.filtered in
    let items : map entry_of c.retain.new.self.items ≡ without old k = ap (map entry_of) kept ∙ map_without k c.self.inside.open.items in
    record {
      sorted = rw items (without_sorted old c.self.invariant.sorted k);
      below = rw items (without_below old c.self.invariant.sorted k c.self.inside.next c.self.invariant.below);
      few = omega (arith, c.self.invariant.few, c.retain.ensures.bound, c.retain.new.self.ok.0, c.self.inside.open.ok.0);
      room = rw c.retain.ensures.capacity c.self.invariant.room;
      next = c.self.invariant.next;
    }

pub returns : goal.returns
returns c =
    let k = c.args.number in
    let old = map entry_of c.self.inside.open.items in
    let kept = filter_same _ (λ (v : Open). not (v.number == k)) _ (λ v b f called. search rules) _ _ c.retain.ensures.filtered in
    let items : map entry_of c.retain.new.self.items ≡ without old k = ap (map entry_of) kept ∙ map_without k c.self.inside.open.items in
    ap (λ m. record { opened = m; next = c.self.inside.next }) (ap views_of items ∙ without_is old c.self.invariant.sorted k)
    ∙ ap (λ (v : Viewing). record v { opened = remove v.opened k }) c.self.view_is
