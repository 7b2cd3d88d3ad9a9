-- This project's own: how answers are written.
use Rattle.std.specs.Prelude.{ℕ, List, [], ◌∷◌, map, codes}
use Rattle.std.specs.Fmt.{decimal}
use Rattle.hex.specs.Hex.{encode_lower}
use Rattle.tap_trace.specs.declared.answer.Answer.{Answer}
use Rattle.tap_trace.specs.declared.answer.Answer.TheVariants as answer
use Rattle.tap_trace.specs.declared.trace.AnswerLine.{AnswerLine}
use Rattle.tap_trace.specs.declared.turn.ChainText.{ChainText}
use Rattle.tap_trace.specs.declared.turn.ChainText.TheVariants.{Got, Refused}
use Rattle.scen_words.specs.Field.{frame_name}
use Rattle.trace_causes.specs.declared.err_text.ErrText.TheVariants as err
use Rattle.trace_causes.specs.Causes.{cause_fields, drive_fields, end_fields, err_fields, vhost_fields}
use Rattle.trace_causes.specs.Values.{harvested, hex8}
use Rattle.trace_causes.specs.Words.{bad_spelling}
use Rattle.trace_words.specs.declared.words.AnswerWord.TheVariants as word
use Rattle.trace_words.specs.Words.{answer_spelling}

-- what became of a chain of a transmit turn
abbrev pub chain_line : ChainText → List (List ℕ)
chain_line (Got name len fnv) = codes "got" ∷ frame_name name ∷ decimal len ∷ hex8 fnv ∷ []
chain_line (Refused position bad) = codes "refused" ∷ decimal position ∷ bad_spelling bad ∷ []

-- what a command answered
abbrev pub answer_fields : Answer → List (List ℕ)
answer_fields answer.Done = answer_spelling word.Done ∷ []
answer_fields (answer.Version version) = answer_spelling word.Done ∷ decimal version ∷ []
answer_fields (answer.Resized version claimed freed cut) = answer_spelling word.Done ∷ decimal version ∷ []
answer_fields (answer.Host len fnv) = answer_spelling word.Host ∷ decimal len ∷ hex8 fnv ∷ []
answer_fields (answer.Base position) = answer_spelling word.Base ∷ decimal position ∷ []
answer_fields (answer.Peeked bytes) = answer_spelling word.Peeked ∷ encode_lower bytes ∷ []
answer_fields (answer.Posted head) = answer_spelling word.Posted ∷ decimal head ∷ []
answer_fields (answer.Harvested chains) = answer_spelling word.Harvested ∷ map harvested chains
answer_fields answer.NoDriver = answer_spelling word.NoDriver ∷ []
answer_fields (answer.Fault addr) = answer_spelling word.Fault ∷ decimal addr ∷ []
answer_fields (answer.Turn packets bytes end chains) =
    answer_spelling word.Turn ∷ decimal packets ∷ decimal bytes ∷ end_fields end
answer_fields (answer.Bad bad) = answer_spelling word.Bad ∷ bad_spelling bad ∷ []
answer_fields (answer.Placed file place epoch len) =
    answer_spelling word.Placed ∷ decimal file ∷ decimal place ∷ decimal epoch ∷ decimal len ∷ []
answer_fields (answer.Dropped file cause) = answer_spelling word.Dropped ∷ cause_fields file cause
answer_fields (answer.Read name place bytes) =
    answer_spelling word.Read ∷ frame_name name ∷ decimal place ∷ encode_lower bytes ∷ []
answer_fields (answer.Room least) = answer_spelling word.Refused ∷ err_fields (err.Room least)
answer_fields answer.Busy = answer_spelling word.Refused ∷ err_fields err.Busy
answer_fields (answer.Again place) = answer_spelling word.Refused ∷ err_fields (err.Again place)
answer_fields (answer.Tap why) = answer_spelling word.Refused ∷ err_fields (err.Tap why)
answer_fields (answer.Vhost why) = answer_spelling word.Vhost ∷ vhost_fields why
answer_fields (answer.Drive why) = answer_spelling word.Drive ∷ drive_fields why

-- `ans ACTOR COMMAND SEEN TEXT`
abbrev pub answer_line : AnswerLine → List (List ℕ)
answer_line a = codes "ans" ∷ decimal a.actor ∷ decimal a.command ∷ decimal a.seen ∷ answer_fields a.answer

-- the lines behind an answer: the new places of a resized ring, or what became of the chains of a turn
abbrev pub lines_behind : Answer → List (List (List ℕ))
lines_behind (answer.Resized version claimed freed cut) =
    (codes "resize" ∷ decimal claimed ∷ decimal freed ∷ decimal cut ∷ []) ∷ []
lines_behind (answer.Turn packets bytes end chains) = map chain_line chains
lines_behind a = []

-- an answer, and the lines behind it
abbrev pub answer_lines : AnswerLine → List (List (List ℕ))
answer_lines a = answer_line a ∷ lines_behind a.answer
