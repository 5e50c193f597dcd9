-- What is right in the place of a field, by the parser's own fields.
use Rattle.std.specs.Prelude.{ℕ, ◌^◌, Bool, true, List, codes, if◌then◌else◌}
use Rattle.std.specs.Result.{is_ok}
use Rattle.stream_ident.specs.declared.limits.TheConstants.{MOST_SILOS}
use Rattle.stream_ident.specs.Name.{same_name}
use Rattle.stream_script.specs.Fields.{number_field, queue_field, stream_field, grain_field, token_field, bare_name_field, sub_field}
use Rattle.script_checker.specs.declared.field.Field.{Field}
use Rattle.script_checker.specs.declared.field.Field.TheVariants as field

-- the word of a subscription's start
abbrev pub start_word : Bool → List ℕ
start_word is_last = if is_last then codes "latest" else codes "from"

-- a word is right in the place of a field, given how many queues there are and whether the word is the last one
abbrev pub is_right_word : Field → ℕ → Bool → List ℕ → Bool
is_right_word field.Stream queues is_last word = is_ok (stream_field word)
is_right_word field.Grain queues is_last word = is_ok (grain_field word)
is_right_word field.Name queues is_last word = is_ok (bare_name_field word)
is_right_word field.Sub queues is_last word = is_ok (sub_field queues word)
is_right_word field.Token queues is_last word = is_ok (token_field word)
is_right_word field.Queue queues is_last word = is_ok (queue_field queues word)
is_right_word field.Silo queues is_last word = is_ok (number_field MOST_SILOS word)
is_right_word field.Number queues is_last word = is_ok (number_field (2 ^ 64) word)
is_right_word field.ShortNumber queues is_last word = is_ok (number_field (2 ^ 32) word)
is_right_word field.Start queues is_last word = same_name word (start_word is_last)
is_right_word field.Text queues is_last word = true
