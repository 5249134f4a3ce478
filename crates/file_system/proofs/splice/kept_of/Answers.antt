use Rattle.std.proofs.Common.{◌≡◌, rules, cond, Some, None, sym, ap, ◌∙◌}
use Rattle.std.specs.Prelude.{nat_lt}
use Rattle.std.specs.Option.{option_map, option_copied}
use Rattle.std.proofs.lemmas.Fn.{always_returns_same}
use Rattle.model.specs.World.{id_of, same_id}
use Rattle.model.specs.Ids.{snap_id}
use Rattle.snapshots.specs.declared.kept.Kept.{Kept}
use Rattle.file_system.proofs.Stacks.{parted, id_at, id_found}
use Rattle.file_system.proofs.splice.kept_of.Goals as goal

-- where the groups are no longer below its own, it stands, or it isn't there

pub returns-in_err-found : goal.returns-in_err-found
unfolding id_at
returns-in_err-found c =
    let computes = always_returns_same _ _ _ (λ a r f' k. search rules) in
    let point = c.first.ensures.1 (λ (k : Kept). nat_lt k.snapshot.group c.args.id.group.0) computes (parted 0 c.args.id.group.0 c.args.kept.now c.requires) in
    let none : option_map (λ (k : Kept). k.snapshot) (option_copied c.from_residual.result) ≡ None = ap (λ o. option_map (λ (k : Kept). k.snapshot) (option_copied o)) c.from_residual.ensures in
    none ∙ sym (id_found 0 c.first.ensures.0 (snap_id c.args.id) c.args.kept.now c.requires point ∙ ap (id_at (snap_id c.args.id)) (sym c.first.ensures.2 ∙ ap option_copied c.in_err-found.was))

pub returns-then-eq : goal.returns-then-eq
unfolding id_at
returns-then-eq c =
    let computes = always_returns_same _ _ _ (λ a r f' k. search rules) in
    let point = c.first.ensures.1 (λ (k : Kept). nat_lt k.snapshot.group c.args.id.group.0) computes (parted 0 c.args.id.group.0 c.args.kept.now c.requires) in
    let same : same_id (id_of c.in_ok-found.found.now.snapshot) (snap_id c.args.id) ≡ c.eq.result = ap (λ i. same_id i (snap_id c.args.id)) (sym c.id.ensures) ∙ sym c.eq.ensures in
    sym (id_found 0 c.first.ensures.0 (snap_id c.args.id) c.args.kept.now c.requires point ∙ ap (id_at (snap_id c.args.id)) (sym c.first.ensures.2 ∙ ap option_copied c.in_ok-found.was)
    ∙ ap (λ b. cond b (Some c.in_ok-found.found.now.snapshot) None) (same ∙ c.if-eq.true))

pub returns-else-eq : goal.returns-else-eq
unfolding id_at
returns-else-eq c =
    let computes = always_returns_same _ _ _ (λ a r f' k. search rules) in
    let point = c.first.ensures.1 (λ (k : Kept). nat_lt k.snapshot.group c.args.id.group.0) computes (parted 0 c.args.id.group.0 c.args.kept.now c.requires) in
    let same : same_id (id_of c.in_ok-found.found.now.snapshot) (snap_id c.args.id) ≡ c.eq.result = ap (λ i. same_id i (snap_id c.args.id)) (sym c.id.ensures) ∙ sym c.eq.ensures in
    sym (id_found 0 c.first.ensures.0 (snap_id c.args.id) c.args.kept.now c.requires point ∙ ap (id_at (snap_id c.args.id)) (sym c.first.ensures.2 ∙ ap option_copied c.in_ok-found.was)
    ∙ ap (λ b. cond b (Some c.in_ok-found.found.now.snapshot) None) (same ∙ c.if-eq.false))
