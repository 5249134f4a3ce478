use Rattle.std.proofs.Common.{◌≡◌, ℕ, ◌≢◌, ◌<◌, ◌+◌, All, [], length, take, sym, ap, subst, ◌∙◌, arith, take_all, append-nil, length-take}
use Rattle.std.proofs.lemmas.List.Elements.{All-nil}
use Rattle.std.specs.Io.KnownBytes.{Consumes}
use Rattle.std.specs.Io.BufRead.{FillKeeps}
use Rattle.std.proofs.KnownBytes.{Consumes-nil, Consumes-kept}
use Rattle.std.proofs.BufReadLemmas.{Consumes_shown}
use Rattle.script.specs.Lines.{line_limit, kept_of}
use Rattle.script.proofs.LinesLemmas.{no_feed_before, take_through_feed, HasMore-shown}
use Rattle.script.proofs.lines.look.Goals as goal

pub returns-then-eq-clause-looks : goal.returns-then-eq-clause-looks
returns-then-eq-clause-looks g c = record {
  bytes = [];
  no_feed = All-nil (λ b. b ≢ 10);
  taken = Consumes-kept _ _ _ [] (Consumes-nil _) c.fill_buf.follows.holds-at-none.0;
  kept = sym (ap kept_of (append-nil c.args.kept.now.items) ∙ take_all (line_limit + 1) c.args.kept.now.items (omega (arith, c.requires)));
}

pub returns-in_ok-keep-in-Some-clause-looks : goal.returns-in_ok-keep-in-Some-clause-looks
returns-in_ok-keep-in-Some-clause-looks g c =
    let shown = c.in-Ok.shown.now in
    let end = c.in-Some.end in
    let first = c.in-Some.ensures in
    let within : end < length shown = first.0.high in
    let rested = c.fill_buf.follows.lender-at-none in
    let filled = subst (FillKeeps _ (g.R.Read.remaining rested) (g.R.BufRead.consumable_len rested)) c.in-Ok.is c.fill_buf.follows.holds-at-none in
    let moved = Consumes_shown _ _ _ _ shown (end + 1) (omega arith) c.in-Ok.ensures.front c.in-Ok.ensures.end filled.0 filled.1 c.consume.ensures.bytes in
    record {
      bytes = take end shown;
      no_feed = no_feed_before shown end (omega arith) first.0.before;
      taken = subst (Consumes _ _) (take_through_feed shown end within first.1) moved.0;
      kept = c.in_ok-keep-in-Some.ensures;
    }

pub returns-in_ok-keep-in-Some-clause-short : goal.returns-in_ok-keep-in-Some-clause-short
returns-in_ok-keep-in-Some-clause-short g c = omega (arith, ap length c.in_ok-keep-in-Some.ensures, length-take {A = ℕ})

pub returns-in_ok-keep-in-None-clause-looks : goal.returns-in_ok-keep-in-None-clause-looks
returns-in_ok-keep-in-None-clause-looks g c =
    let shown = c.in-Ok.shown.now in
    let rested = c.fill_buf.follows.lender-at-none in
    let filled = subst (FillKeeps _ (g.R.Read.remaining rested) (g.R.BufRead.consumable_len rested)) c.in-Ok.is c.fill_buf.follows.holds-at-none in
    let moved = Consumes_shown _ _ _ _ shown (length shown) (omega arith) c.in-Ok.ensures.front c.in-Ok.ensures.end filled.0 filled.1 c.consume-in-None.ensures.bytes in
    let all : take (length shown) shown ≡ shown = take_all (length shown) shown (omega arith) in
    record {
      bytes = shown;
      no_feed = subst (All (λ b. b ≢ 10)) all (no_feed_before shown (length shown) (omega arith) c.in-None.ensures);
      taken = subst (Consumes _ _) all moved.0;
      kept = c.in_ok-keep-in-None.ensures;
    }

pub returns-in_ok-keep-in-None-clause-short : goal.returns-in_ok-keep-in-None-clause-short
returns-in_ok-keep-in-None-clause-short g c = omega (arith, ap length c.in_ok-keep-in-None.ensures, length-take {A = ℕ})

pub returns-in_err-keep-in-Some-clause-no_memory : goal.returns-in_err-keep-in-Some-clause-no_memory
returns-in_err-keep-in-Some-clause-no_memory g c = λ e. HasMore-shown _ c.in-Ok.shown.now c.in-Ok.ensures.front (grind (arith, c.is_empty.ensures, c.if-is_empty.false))

pub returns-in_err-keep-in-None-clause-no_memory : goal.returns-in_err-keep-in-None-clause-no_memory
returns-in_err-keep-in-None-clause-no_memory g c = λ e. HasMore-shown _ c.in-Ok.shown.now c.in-Ok.ensures.front (grind (arith, c.is_empty.ensures, c.if-is_empty.false))
