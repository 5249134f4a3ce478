use Rattle.std.proofs.Common.{◌≡◌, ◌-◌, suc, true, Option, Some, refl, sym, ap, subst, ◌∙◌, arith}
use Rattle.node.specs.Kid.{IsSoundKid}
use Rattle.node.specs.Node.{inner_part, shared_part}
use Rattle.node.specs.Pairs.{places_in}
use Rattle.node.specs.Shape.{Part}
use Rattle.batch.specs.Said.{said, IsWay}
use Rattle.batch.specs.Touch.{touched, stays}
use Rattle.batch.specs.Build.{HasKeys, made_keys}
use Rattle.tree.proofs.Staying.{surely}
use Rattle.tree.proofs.renew.InnerRenew.renew.Goals as goal

pub renew_node-requires : goal.renew_node-requires
renew_node-requires g c =
    let h = g.C.Level.height in
    let s = said c.args.updates.now in
    let node = c.in-Some-get_mut.node.now in
    let o = inner_part g.C.Level.part node in
    let j = c.args.index in
    let p = c.in-Some.way.place in
    let w = c.in-Some.way.writes in
    let same : Some (inner_part g.C.Level.part c.args.owner.now.value) ≡ Some o =
    ap (λ p. Some p) (sym c.own.ensures) ∙ ap (λ n. Some (inner_part g.C.Level.part n)) (sym c.in-Some-get_mut.ensures.value) in
    let way : IsWay s h j p w = subst (λ l. IsWay s l j p w) (let e : c.args.level - 1 ≡ h = omega (arith, c.requires.level) in e) c.in-Some.ensures.way in
    let sound : IsSoundKid (suc h) (Some o) = subst (IsSoundKid (suc h)) same c.requires.sound in
    let changed : touched s (suc h) j (Some o) ≡ true = subst (λ (x : Option Part). touched s (suc h) j x ≡ true) same c.requires.touched in
    let keys : HasKeys c.args.made.now c.args.next (made_keys s (suc h) j (Some o)) = subst (λ (x : Option Part). HasKeys c.args.made.now c.args.next (made_keys s (suc h) j x)) same c.requires.keys in
    let before = c.deref.result.now in
    let b = inner_part g.C.Level.part before in
    let was : Some (inner_part g.C.Level.part c.args.owner.now.value) ≡ Some b = ap (λ n. Some (inner_part g.C.Level.part n)) (sym c.deref.ensures) in
    let sound_before : IsSoundKid (suc h) (Some b) = subst (IsSoundKid (suc h)) was c.requires.sound in
    let changed_before : touched s (suc h) j (Some b) ≡ true = subst (λ (x : Option Part). touched s (suc h) j x ≡ true) was c.requires.touched in
    let lasts_before = surely s h b.cell.birth j p w way (shared_part g.C.Level.part) b (places_in before.kids) sound_before changed_before refl (c.surely_stays.ensures c.if-surely_stays.true) in
    let lasts : stays s (suc h) j (Some o) ≡ true = subst (λ (x : Option Part). stays s (suc h) j x ≡ true) (sym was ∙ same) lasts_before in
    (omega arith, (way, (c.requires.level, (c.requires.within, (c.requires.low, (c.requires.order, (sound, (changed, (lasts, (keys, c.requires.once))))))))))
