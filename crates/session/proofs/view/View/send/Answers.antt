use Rattle.std.proofs.Common.{Err, sym, ap, ◌∙◌, rules}
use Rattle.std.specs.Option.{option_copied}
use Rattle.base.specs.declared.refusal.Refusal.TheVariants.{NotAncestor}
use Rattle.model.specs.requests.Send.{start_of}
use Rattle.session.proofs.Sending.{sent_bytes, sends_refused, sends}
use Rattle.session.proofs.AtOpening.{sends_at_opening}
use Rattle.session.proofs.view.View.send.Goals as goal

pub returns-in_default-clause-as_sent : goal.returns-in_default-clause-as_sent
returns-in_default-clause-as_sent g c = λ s target numbered here.
    let sources = c.sources.ensures ∙ ap (λ seen. seen.sources) c.sight-sight.ensures in
    sends_refused s target _ c.args.self.now.sight here (ap (λ l. start_of l (option_copied c.args.from)) (sym sources) ∙ sym c.start_in.ensures ∙ c.in_default.is)

pub returns-clause-ok : goal.returns-clause-ok
returns-clause-ok g c =
    let sources = c.sources.ensures ∙ ap (λ seen. seen.sources) c.sight-sight.ensures in
    sent_bytes c.args.self.now.sight _ c.in-Some.start _ _ _ _ c.stream_bytes.result
    (ap (λ l. start_of l (option_copied c.args.from)) (sym sources) ∙ sym c.start_in.ensures ∙ c.in-Some.is)
    c.source.ensures (search rules)
    (c.guid.ensures ∙ ap (λ seen. seen.guid) c.sight-sight.ensures) (c.tree.ensures ∙ ap (λ seen. seen.map) c.sight-sight.ensures) c.stream_bytes.ensures.ok

pub returns-clause-as_sent : goal.returns-clause-as_sent
returns-clause-as_sent g c = λ s target numbered here.
    sends s target _ c.args.self.now.sight here c.stream_bytes.result numbered (returns-clause-ok g c) c.stream_bytes.ensures.err

pub returns-in_default-clause-at_opening : goal.returns-in_default-clause-at_opening
returns-in_default-clause-at_opening g c = sends_at_opening c.args.self.now (option_copied c.args.from) (Err NotAncestor) (returns-in_default-clause-as_sent g c)

pub returns-clause-at_opening : goal.returns-clause-at_opening
returns-clause-at_opening g c = sends_at_opening c.args.self.now (option_copied c.args.from) c.stream_bytes.result (returns-clause-as_sent g c)
