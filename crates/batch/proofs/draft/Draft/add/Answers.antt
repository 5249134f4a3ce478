use Rattle.std.proofs.Common.{◌≡◌, ◌++◌, [], ◌∷◌, refl, sym, ap, ◌∙◌}
use Rattle.batch.proofs.NumberLaws.{frees_none}
use Rattle.batch.proofs.Numbered.{numbered_kept, numbered_fresh}
use Rattle.batch.proofs.draft.Draft.add.Goals as goal
use Rattle.batch.proofs.draft.Draft.add.Goals.{in-Some-own+in_ok-push-2, in_default-own}

pub returns-in-Some-clause-numbered : goal.returns-in-Some-clause-numbered
returns-in-Some-clause-numbered c = λ cs p. numbered_kept c.args.key _ cs c.args.allocator.now c.args.from c.args.self.now _ p c.in-Some.kept (sym c.if_young.ensures ∙ c.in-Some.is) refl c.in_ok-push.ensures.ok

pub returns-in_default-find-clause-no_space : goal.returns-in_default-find-clause-no_space
returns-in_default-find-clause-no_space c = λ e. (frees_none c.args.allocator.now c.args.from c.in_default-find.ensures.none, sym c.if_young.ensures ∙ c.in_default.is)

pub returns-clause-numbered : goal.returns-clause-numbered
returns-clause-numbered c = λ cs p.
    let b = c.in-Some-find in
    numbered_fresh c.args.key _ cs c.args.allocator.now c.args.from c.args.self.now _ p b.block (sym c.if_young.ensures ∙ c.in_default.is) b.ensures.not_below b.ensures.found b.ensures.least
    (c.in_ok-push-3.ensures.ok ∙ ap (λ bs. bs ++ b.block ∷ []) taken) (c.in_ok-push-4.ensures.ok ∙ ap (λ bs. bs ++ record { key = c.args.key; block = b.block } ∷ []) made)
  where
    taken : c.match-own.self.taken.items ≡ c.args.self.now.taken.items
    taken = elim c.match-own.branch [ in-Some-own+in_ok-push-2 w ↦ ap (λ l. l.taken.items) w.self-is | in_default-own w ↦ ap (λ l. l.taken.items) w.self-is ]

    made : c.match-own.self.made.items ≡ c.args.self.now.made.items
    made = elim c.match-own.branch [ in-Some-own+in_ok-push-2 w ↦ ap (λ l. l.made.items) w.self-is | in_default-own w ↦ ap (λ l. l.made.items) w.self-is ]
