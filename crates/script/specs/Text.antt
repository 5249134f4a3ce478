-- The text of each reply.
use Rattle.std.specs.Prelude.{ℕ, Bool, true, false, List, [], ◌∷◌, ◌++◌, Option, Some, None, codes, if◌then◌else◌}
use Rattle.std.specs.List.{join_by}
use Rattle.std.specs.Fmt.{decimal}
use Rattle.hex.specs.Hex.{encode_lower}
use Rattle.base.specs.Refusals.{number_of, name_of}
use Rattle.model.specs.declared.reply.Value.{Value}
use Rattle.model.specs.declared.reply.Value.TheVariants.{Size, Number, Named, Truth, NotApplicable}
use Rattle.model.specs.declared.reply.Reply.{Reply}
use Rattle.model.specs.declared.reply.Reply.TheVariants.{Done, Refused, Data, Value as ValueIs, Group, Names, Count, Opened, Stream}

-- a text, or `-` where it is empty (profile)
abbrev pub named_text : List ℕ → List ℕ
named_text [] = codes "-"
named_text (b ∷ bs) = b ∷ bs

-- whether something is so, as a property's value (zfsprops(7))
abbrev pub truth_text : Bool → List ℕ
truth_text is_so = if is_so then codes "on" else codes "off"

-- a property's value (profile)
abbrev pub value_text : Value → List ℕ
value_text (Size bytes) = decimal bytes
value_text (Number n) = decimal n
value_text (Named text) = named_text text
value_text (Truth is_so) = truth_text is_so
value_text NotApplicable = codes "-"

-- a block's bytes, or `hole` (profile)
abbrev pub data_text : Option (List ℕ) → List ℕ
data_text None = codes "hole"
data_text (Some bytes) = encode_lower bytes

-- the names joined by single spaces, or `-` where there are none (profile)
abbrev pub names_text : List (List ℕ) → List ℕ
names_text [] = codes "-"
names_text (name ∷ names) = join_by (λ n. n) (codes " ") (name ∷ names)

-- a reply (profile)
abbrev pub text_of : Reply → List ℕ
text_of Done = codes "ok"
text_of (Refused refusal) = codes "error " ++ decimal (number_of refusal) ++ codes " " ++ name_of refusal
text_of (Data bytes) = data_text bytes
text_of (ValueIs v) = value_text v
text_of (Group group) = decimal group
text_of (Names names) = names_text names
text_of (Count count) = decimal count
text_of (Opened view sight) = decimal view
text_of (Stream bytes) = encode_lower bytes

-- a reply's line (profile)
abbrev pub line_of : Reply → List ℕ
line_of reply = text_of reply ++ 10 ∷ []

-- a reply whose line has any length: a list of names, a text or a stream. Every other has at most 1,025 bytes, the digits of a block and a
-- line feed (profile)
abbrev pub has_any_length : Reply → Bool
has_any_length (Names names) = true
has_any_length (ValueIs (Named text)) = true
has_any_length (Stream bytes) = true
has_any_length reply = false
