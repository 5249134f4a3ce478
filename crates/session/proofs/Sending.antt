-- A view is sent as Send sends a snapshot of its sight.
use Rattle.std.proofs.Common.{◌≡◌, inl, ℕ, Bool, true, cond, not, List, Option, Some, None, Result, Ok, Err, refl, sym, ap, subst, ◌∙◌}
use Rattle.std.specs.Prelude.{is_some}
use Rattle.std.specs.Option.{option_map, option_map_or, option_and_then}
use Rattle.std.specs.Result.{IfOk, OnErr}
use Rattle.std.specs.FinSet as set
use Rattle.base.specs.Map.{Map}
use Rattle.base.specs.declared.refusal.Refusal.{Refusal}
use Rattle.base.specs.declared.refusal.Refusal.TheVariants.{NoDataset, NotSnapshot, NotAncestor, NoMemory}
use Rattle.base.specs.declared.name.target.Target.{Target}
use Rattle.base.specs.declared.name.target.Target.TheVariants.{FileSystem as OfFileSystem, Snapshot as OfSnapshot, Bookmark as OfBookmark}
use Rattle.stream.specs.Spelling.{spell}
use Rattle.model.specs.declared.request.Request.TheVariants.{Send}
use Rattle.model.specs.declared.reply.Reply.TheVariants.{Done, Refused, Stream}
use Rattle.model.specs.Sights.{Seen}
use Rattle.model.specs.World.{FileSystem, Snap, id_of}
use Rattle.model.specs.State.{State}
use Rattle.model.specs.Targets.{is_snapshot_name}
use Rattle.model.specs.Numbers.{IsNumbered}
use Rattle.model.specs.Refusals.{refusal_of}
use Rattle.model.specs.Outcome.{state_after}
use Rattle.model.specs.Step.{Step, done, refused, out_of_memory}
use Rattle.model.specs.requests.Rollback.{placed}
use Rattle.model.specs.requests.Send.{Start, sight_of, sight_named, start_of, stream_of, send_rule}
use Rattle.laws.specs.Laws.{sending_of}
use Rattle.session.specs.Views.{sent_reply}

-- what the stream of a tree from a start on is, if there is one
pub sent_bytes : (sight : Seen) (from : Option Target) (start : Start) (source since target : ℕ) (m : Map) (r : Result (List ℕ) Refusal)
    → start_of sight.sources from ≡ Some start → source ≡ start.guid → since ≡ start.group → target ≡ sight.guid → m ≡ sight.map
    → IfOk r (λ b. b ≡ spell (sending_of source target m since)) → IfOk r (λ b. option_map (stream_of sight) (start_of sight.sources from) ≡ Some b)
unfolding stream_of
sent_bytes sight from start source since target m (Err e) is is_source is_since is_target is_map said = tt
sent_bytes sight from start source since target m (Ok b) is is_source is_since is_target is_map said =
    ap (option_map (stream_of sight)) is
    ∙ sym (ap Some (said
    ∙ ap (λ x. spell (sending_of x target m since)) is_source ∙ ap (λ x. spell (sending_of start.guid target m x)) is_since
    ∙ ap (λ x. spell (sending_of start.guid x m start.group)) is_target ∙ ap (λ x. spell (sending_of start.guid sight.guid x start.group)) is_map))

-- the first of these three that holds
abbrev first_said : Bool → Bool → Bool → Option Refusal
first_said named there can = cond (not named) (Some NotSnapshot) (cond (not there) (Some NoDataset) (cond (not can) (Some NotAncestor) None))

seen_at : (s : State) → Option (FileSystem × Snap) → Option Seen
seen_at s o = option_map (λ p. sight_of s.now (id_of p.1)) o

is_there : (s : State) (o : Option (FileSystem × Snap)) (sight : Seen) → seen_at s o ≡ Some sight → is_some o ≡ true
unfolding seen_at
is_there s (Some p) sight e = refl
is_there s None sight e = absurd (cc e)

is_name : (s : State) (target : Target) (sight : Seen) → sight_named s.now target ≡ Some sight → is_snapshot_name target ≡ true
is_name s (OfSnapshot m) sight e = refl
is_name s (OfFileSystem name) sight e = absurd (cc e)
is_name s (OfBookmark m) sight e = absurd (cc e)

module _ (s : State) (target : Target) (from : Option Target) (sight : Seen) (here : sight_named s.now target ≡ Some sight) where
  row : refusal_of s (send_rule target from) ≡ first_said true true (is_some (start_of sight.sources from))
  unfolding refusal_of seen_at
  row =
      ap (λ named. first_said named (is_some (placed s.now target)) (is_some (option_and_then {T = Seen} {U = Start} (λ seen. start_of seen.sources from) (sight_named s.now target))))
      (is_name s target sight here)
      ∙ ap (λ there. first_said true there (is_some (option_and_then {T = Seen} {U = Start} (λ seen. start_of seen.sources from) (sight_named s.now target))))
      (is_there s (placed s.now target) sight here)
      ∙ ap (λ seen. first_said true true (is_some (option_and_then {T = Seen} {U = Start} (λ seen. start_of seen.sources from) seen))) here

  -- its source is none
  pub sends_refused : start_of sight.sources from ≡ None → Step s (Send target from) (Refused NotAncestor) s
  sends_refused none = record {
    reading = None;
    read = inl refl;
    follows = refused (record { why = NotAncestor; row = row ∙ ap (λ o. first_said true true (is_some o)) none; reply_is = refl; unchanged = refl });
  }

  -- there is no memory for the stream
  pub sends_nothing : Step s (Send target from) (Refused NoMemory) s
  sends_nothing = record {
    reading = None;
    read = inl refl;
    follows = out_of_memory (record { may = refl; reply_is = refl; unchanged = refl });
  }

  -- the stream is sent
  pub sends_done : (bytes : List ℕ) → IsNumbered s → option_map (stream_of sight) (start_of sight.sources from) ≡ Some bytes → Step s (Send target from) (Stream bytes) s
  unfolding state_after
  sends_done bytes numbered is = record {
    reading = None;
    read = inl refl;
    follows = done (record {
      choice = record { number = λ _. 0; taken = set.empty };
      allowed = refl;
      not_refused = row ∙ ap (λ b. first_said true true b) (can (start_of sight.sources from) is);
      reply_is = told (start_of sight.sources from) is
          ∙ sym (ap (λ x. option_map_or (λ (seen : Seen). option_map_or (λ (start : Start). Stream (stream_of seen start)) (start_of seen.sources from) Done) x Done) here);
      new_is = refl;
      numbered = numbered;
    });
  }
    where
      can : (o : Option Start) → option_map (stream_of sight) o ≡ Some bytes → is_some o ≡ true
      can (Some start) e = refl
      can None e = absurd (cc e)

      told : (o : Option Start) → option_map (stream_of sight) o ≡ Some bytes → Stream bytes ≡ option_map_or (λ (start : Start). Stream (stream_of sight start)) o Done
      told (Some start) e = ap (λ x. option_map_or Stream x Done) (sym e)
      told None e = absurd (cc e)

  -- it was sent, or there was no memory
  pub sends : (r : Result (List ℕ) Refusal) → IsNumbered s → IfOk r (λ b. option_map (stream_of sight) (start_of sight.sources from) ≡ Some b)
      → OnErr r (r ≡ Err NoMemory) → Step s (Send target from) (sent_reply r) s
  sends (Ok b) numbered is err = sends_done b numbered is
  sends (Err e) numbered is err = subst (λ r. Step s (Send target from) (sent_reply r) s) (sym err) sends_nothing
