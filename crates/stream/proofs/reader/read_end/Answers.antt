use Rattle.std.proofs.Common.{◌≡◌, ◌≢◌, [], length, sym, ◌∙◌, append-nil, subst, arith, rules}
use Rattle.std.specs.Io.KnownBytes.{Consumes}
use Rattle.stream.proofs.Fronts.{same_front}
use Rattle.stream.proofs.Passing.{told_taken, none_left}
use Rattle.stream.proofs.reader.read_end.Goals as goal

pub returns-then-ne-clause-bad : goal.returns-then-ne-clause-bad
returns-then-ne-clause-bad g c = λ _.
    let differs : c.fill.new.buf ≢ c.args.digest.now = search rules in
    let len : length c.fill.new.buf ≡ length c.args.digest.now = omega arith in
    let taken : Consumes (g.R.Read.remaining c.args.reader.now) (g.R.Read.remaining c.fill.new.reader) c.fill.new.buf = search rules in
    told_taken _ _ c.fill.new.buf (λ bytes. bytes ≢ c.args.digest.now) taken (λ rest e. differs (same_front c.fill.new.buf c.args.digest.now rest [] len (e ∙ sym (append-nil c.args.digest.now))).0)

pub returns-clause-ok : goal.returns-clause-ok
returns-clause-ok g c =
    let same : c.fill.new.buf ≡ c.args.digest.now = search rules in
    let taken : Consumes (g.R.Read.remaining c.args.reader.now) (g.R.Read.remaining c.fill.new.reader) c.fill.new.buf = search rules in
    subst (Consumes _ _) same (none_left _ _ _ c.fill.new.buf taken (search rules))
